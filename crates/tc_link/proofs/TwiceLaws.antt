-- If no name is defined twice, no symbol is.
use Rattle.std.proofs.Common.{◌≡◌, ◌+◌, ◌∷◌, [], ℕ, Bool, true, false, ltb, ◌&&◌, List, Option, None, refl, ap, ◌∙◌}
use Rattle.std.specs.Bool.{then_some}
use Rattle.std.specs.Option.{option_or}
use Rattle.tc_object.specs.Objects.{SymbolData, ObjectData}
use Rattle.tc_link.specs.GlobalSymbols.{is_global, count_globals_named}
use Rattle.tc_link.specs.Refusals.{Refusal, twice, duplicate_symbol_refusal, first_duplicate_symbol_refusal, first_refusal_from}

-- no answer at any item
none_at : {A B : Type 0} (f : ℕ → A → Option B) (n : ℕ) (xs : List A) → ((k : ℕ) (x : A) → f k x ≡ None) → first_refusal_from f n xs ≡ None
unfolding first_refusal_from
none_at f n [] h = refl
none_at {A} {B} f n (x ∷ xs) h = ap (λ (o : Option B). option_or o (first_refusal_from f (n + 1) xs)) (h n x) ∙ none_at f (n + 1) xs h

not_both : (a b : Bool) (r : Refusal) → b ≡ false → then_some (a && b) r ≡ None
not_both true b r e = ap (λ (x : Bool). then_some {T = Refusal} x r) e
not_both false b r e = refl

pub none_twice : (objects : List ObjectData) → ((q : List ℕ) → ltb 1 (count_globals_named objects q) ≡ false) → first_duplicate_symbol_refusal objects ≡ None
unfolding first_duplicate_symbol_refusal
none_twice objects single =
    none_at (λ _ (o : ObjectData). first_refusal_from (duplicate_symbol_refusal objects) 0 o.symbols) 0 objects
    (λ k o. none_at (duplicate_symbol_refusal objects) 0 o.symbols
    (λ j (s : SymbolData). not_both (is_global s) (ltb 1 (count_globals_named objects s.name)) (twice s.name) (single s.name)))
