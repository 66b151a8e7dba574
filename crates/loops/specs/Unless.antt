-- A test that must hold, in a chain of tests: where it fails x is the answer, and else the rest answers.
use Rattle.std.specs.Prelude.{Bool, cond}

abbrev pub unless : {A : Type 0} → Bool → A → A → A
unless b x rest = cond b rest x
