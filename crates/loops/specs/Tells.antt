-- A test that tells whether something holds.
use Rattle.std.specs.Prelude.{◌≡◌, Bool, true, false}

pub record Tells (P : Type 0) (r : Bool) : Type 0 where
  pub holds : r ≡ true → P
  pub fails : r ≡ false → ¬ P
