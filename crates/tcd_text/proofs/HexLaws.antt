-- Laws of numbers of eight hex digits.
use Rattle.std.proofs.Common.{◌≡◌, ◌&&◌, ℕ, Bool, true, false, Some, refl}
use Rattle.std.specs.Bool.{then_some}

-- a value that passed two tests
pub chosen : (a b : Bool) (n d : ℕ) → then_some (a && b) n ≡ Some d → (a ≡ true) × (b ≡ true) × (n ≡ d)
chosen true true n d e = (refl, refl, cc)
chosen true false n d e = cc
chosen false b n d e = cc
