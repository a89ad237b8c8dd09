-- Bounds of numbers of hex digits.
use Rattle.std.proofs.Common.{◌<◌, ◌≤◌, ◌^◌, ℕ, List, length, take, arith}
use Rattle.std.specs.Str.Parse.{digits_value, AllDigits}
use Rattle.std.proofs.lemmas.List.{length-take}
use Rattle.std.proofs.lemmas.Int.Digits.{digits_value-lt}
use Rattle.std.proofs.Math.Nat.{pow-le-pow_right}

-- the value of at most seven hex digits
pub seven : (cs : List ℕ) (i : ℕ) → AllDigits 16 (take i cs) → i ≤ 7 → digits_value 16 (take i cs) < 2 ^ 28
seven cs i digits few =
    let most : digits_value 16 (take i cs) < 16 ^ length (take i cs) = digits_value-lt 16 (take i cs) digits in
    let short : length (take i cs) ≤ 7 = omega (arith, length-take i cs) in
    let bound : 16 ^ length (take i cs) ≤ 16 ^ 7 = pow-le-pow_right (omega arith) short in
    omega arith
