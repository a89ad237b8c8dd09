-- The end of a line, by a search of several bytes at once.
use Rattle.std.proofs.Common.{◌≡◌, ◌<◌, ◌==◌, ℕ, Bool, true, false, List, length, Option, Some, None, refl, arith}
use Rattle.std.specs.Prelude.{IfSome, position, slice_index}
use Rattle.std.specs.List.{position_or_len}
use Rattle.std.proofs.lemmas.Bool.Decides.{nat_tests}
use Rattle.std.proofs.lemmas.List.Sums.{position_or_len_is}
use Rattle.memchr.specs.Find.{IsFirstByte, is_byte}

untrue : (b : Bool) → ¬ (b ≡ true) → b ≡ false
untrue true h = absurd (h refl)
untrue false h = refl

-- the first place of a byte
pub first_place : (c : ℕ) (bs : List ℕ) (r : Option ℕ) → IsFirstByte (is_byte c) bs r → r ≡ position (λ b. b == c) bs
first_place c bs None h =
    let none : position_or_len (λ b. b == c) bs ≡ length bs =
    position_or_len_is (λ b. b == c) bs (length bs) 0 (omega arith) (λ k within. untrue _ (h k (omega arith) within)) (λ more. absurd (omega arith)) in
    grind (arith, nat_tests)
first_place c bs (Some i) h =
    let at : position_or_len (λ b. b == c) bs ≡ i =
    position_or_len_is (λ b. b == c) bs i 0 (omega (arith, h.0.high)) (λ k below. untrue _ (h.0.before k (omega arith) below)) (λ more. h.1) in
    let within : i < length bs = h.0.high in
    grind (arith, nat_tests)

pub first_within : (c : ℕ) (bs : List ℕ) (r : Option ℕ) → IsFirstByte (is_byte c) bs r → IfSome r (λ i. i < length bs)
first_within c bs None h = tt
first_within c bs (Some i) h = h.0.high

-- a byte that is first
pub first_byte : (c : ℕ) (bs : List ℕ) → 0 < length bs → slice_index bs 0 ≡ c → Some 0 ≡ position (λ b. b == c) bs
first_byte c bs some is =
    let at : position_or_len (λ b. b == c) bs ≡ 0 =
    position_or_len_is (λ b. b == c) bs 0 0 (omega arith) (λ k below. absurd (omega arith)) (λ more. grind (arith, nat_tests)) in
    grind (arith, nat_tests)
