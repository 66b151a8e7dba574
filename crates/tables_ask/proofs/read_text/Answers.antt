use Rattle.std.proofs.Common.{ℕ, ◌+◌, sym, subst, ◌∙◌, arith, length-take-le}
use Rattle.kinds.specs.Limits.{most_text}
use Rattle.files.specs.Files.{ReadWithin}
use Rattle.tables_ask.proofs.read_text.Goals as goal

pub slice_bounds-read_named-end-2 : goal.slice_bounds-read_named-end-2
slice_bounds-read_named-end-2 c = sym (length-take-le (most_text + 1) c.args.held.now (omega (arith, c.requires)))

pub returns : goal.returns
returns c =
    let l = length-take-le (most_text + 1) c.args.held.now (omega (arith, c.requires)) in
    subst (λ (m : ℕ). ReadWithin m c.read_named.result) (c.read_named.auto.buf ∙ l) c.read_named.ensures
