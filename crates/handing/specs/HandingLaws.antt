-- What is known of the bytes where all were written, and where a write failed.
use Rattle.std.specs.Prelude.{ℕ, ◌+◌, ◌≡◌, true, false, Err, Ok, Result}
use Rattle.std.proofs.Common.{sym, ap, ◌∙◌, arith}
use Rattle.handing.specs.declared.Written.{Written}
use Rattle.handing.specs.declared.Failure.{Failure}
use Rattle.handing.specs.Handing.{HandedOn}

pub handed_all : {before : Written} {n : ℕ} {x : Result Written Failure} → HandedOn before n x → (w : Written) → x ≡ Ok w → before.bytes + n ≡ w.bytes
handed_all {before} {n} (true, is) w e =
    let f = sym is ∙ e in
    let g : record { bytes = before.bytes + n } ≡ w = cc in
    ap (λ (v : Written). v.bytes) g
handed_all (false, is) w e = let y : ◌≡◌ {A = ℕ} 0 1 = let f = sym is ∙ e in cc in absurd (omega arith)

pub handed_failed : {before : Written} {n : ℕ} {x : Result Written Failure} → HandedOn before n x → (f : Failure) → x ≡ Err f →
    (before.bytes ≡ f.before) × (n ≡ f.bytes)
handed_failed (true, is) f e = let y : ◌≡◌ {A = ℕ} 0 1 = let g = sym is ∙ e in cc in absurd (omega arith)
handed_failed {before} {n} (false, is) f e =
    let g = sym is ∙ e in
    let h : record { before = before.bytes; bytes = n } ≡ f = cc in
    (ap (λ (i : Failure). i.before) h, ap (λ (i : Failure). i.bytes) h)
