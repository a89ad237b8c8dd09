-- A name exists exactly if a test passes.
use Rattle.std.proofs.Common.{◌≡◌, Bool, true, false, refl}
use Rattle.std.specs.Prelude.{is_some}
use Rattle.std.specs.Bool.{then_some}

-- a value that a test guards exists exactly if the test passes
pub some_name : {A : Type 0} (b : Bool) (x : A) → is_some (then_some b x) ≡ b
some_name true x = refl
some_name false x = refl
