-- Tests that decide a fact, and elements that are found in a list.
use Rattle.std.proofs.Common.{◌≡◌, ◌∙◌, ℕ, Bool, true, false, not, ◌≤◌, ◌<◌, ◌+◌, List, length, get_or, take, subst, sym, refl, eqb, Option, Some}
use Rattle.std.specs.Prelude.{IsTrue, ◌↔◌, All}
use Rattle.std.specs.Option.{option_eq}
use Rattle.std.proofs.lemmas.List.{take_all}
use Rattle.cfg_recover.proofs.OperationLaws.{same_word}
use Rattle.std.proofs.lemmas.List.Elements.{All-same, All-more}

pub yes : (P : Type 0) → P → IsTrue true ↔ P
yes P p = (λ t. p, λ q. refl)

pub no : (P : Type 0) → (P → ⊥) → IsTrue false ↔ P
no P f = (λ t. absurd (let e : false ≡ true = t in cc), λ p. absurd (f p))

-- a test that fails refutes the fact that it decides
pub refuted : (b : Bool) (P : Type 0) → b ≡ false → (IsTrue b ↔ P) → P → ⊥
refuted b P e d p = let t = d.1 p in cc

-- a property of the first i elements holds of all if there are no more
pub all_done : {X : Type 0} (P : X → Type 0) (xs : List X) (i : ℕ) → length xs ≤ i → All P (take i xs) → All P xs
all_done P xs i le h = All-same P xs (take i xs) (sym (take_all i xs le)) h

-- a further element
pub all_more : {X : Type 0} (P : X → Type 0) (xs : List X) (i : ℕ) (x : X) → i < length xs → x ≡ get_or xs i x → All P (take i xs) → P x → All P (take (i + 1) xs)
all_more P xs i x lt is h p = All-more P xs i x lt h (subst P is p)

no_other : (b : Bool) → not b ≡ false → b ≡ true
no_other true e = refl
no_other false e = absurd (let t : true ≡ false = e in cc)

-- an option that a test doesn't find to be another word is this word
pub not_another : (o : Option ℕ) (x : ℕ) (b : Bool) → b ≡ not (option_eq eqb o (Some x)) → b ≡ false → o ≡ Some x
not_another o x b e f = same_word o x (option_eq eqb o (Some x)) refl (no_other (option_eq eqb o (Some x)) (sym e ∙ f))
