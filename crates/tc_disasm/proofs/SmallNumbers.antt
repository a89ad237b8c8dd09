-- Numbers, digit by digit.
use Rattle.std.proofs.Common.{◌≡◌, ◌<◌, ◌≤◌, ◌+◌, ◌/◌, ◌%◌, ◌^◌, ◌∷◌, ◌++◌, [], ℕ, List, Result, Ok, Err, ap, sym, ◌∙◌, append_assoc}
use Rattle.std.specs.Prelude.{OnOk}
use Rattle.std.specs.Fmt.{decimal}
use Rattle.std.proofs.lemmas.Fmt.{decimal_digit, decimal_step}

pub one_digit : (n : ℕ) → n < 10 → decimal n ≡ (48 + n) ∷ []
one_digit n small = decimal_digit n small

-- the last digit after the others
pub digit_on : {T E : Type 0} (r : Result T E) (old mid new : List ℕ) (n : ℕ) → 10 ≤ n → n < 2 ^ 64 → mid ≡ old ++ decimal (n / 10)
    → OnOk r (new ≡ mid ++ ((48 + n % 10) ∷ [])) → OnOk r (new ≡ old ++ decimal n)
digit_on (Ok x) old mid new n big small e h =
    h
    ∙ ap (λ (l : List ℕ). l ++ ((48 + n % 10) ∷ [])) e
    ∙ append_assoc old (decimal (n / 10)) ((48 + n % 10) ∷ [])
    ∙ ap (λ (l : List ℕ). old ++ l) (sym (decimal_step n big small))
digit_on (Err x) old mid new n big small e h = tt
