-- The first answer over the items of a list.
use Rattle.std.proofs.Common.{◌≡◌, ◌<◌, ◌≤◌, ◌+◌, ◌∷◌, [], ℕ, zero, suc, Bool, true, false, List, length, take, get_or, Option, Some, None, refl, ap, sym, ◌∙◌, arith, add-zero}
use Rattle.std.proofs.lemmas.List.{take_all}
use Rattle.std.specs.Prelude.{IfSome}
use Rattle.std.specs.Bool.{then_some}
use Rattle.std.specs.Option.{option_or}
use Rattle.tc_link.specs.Refusals.{first_refusal_from}

pub none_first : {B : Type 0} (o p : Option B) → option_or o p ≡ None → (o ≡ None) × (p ≡ None)
none_first None p e = (refl, e)
none_first (Some x) p e = cc

-- none so far, and none at the next item
more_from : {A B : Type 0} (f : ℕ → A → Option B) (n : ℕ) (xs : List A) (i : ℕ) (d : A) → i < length xs → first_refusal_from f n (take i xs) ≡ None → f (n + i) (get_or xs i d) ≡ None → first_refusal_from f n (take (suc i) xs) ≡ None
unfolding first_refusal_from
more_from f n [] i d h e g = refl
more_from {A} {B} f n (x ∷ xs) zero d h e g =
    ap (λ (o : Option B). option_or o (first_refusal_from f (n + 1) (take zero xs))) (ap (λ k. f k x) (sym (add-zero n)) ∙ g)
more_from {A} {B} f n (x ∷ xs) (suc i) d h e g =
    let p = none_first (f n x) (first_refusal_from f (n + 1) (take i xs)) e in
    ap (λ (o : Option B). option_or o (first_refusal_from f (n + 1) (take (suc i) xs))) p.0
    ∙ more_from f (n + 1) xs i d (omega arith) p.1 (ap (λ k. f k (get_or xs i d)) (omega arith) ∙ g)

-- none so far, and one at the next item
found_from : {A B : Type 0} (f : ℕ → A → Option B) (n : ℕ) (xs : List A) (i : ℕ) (d : A) (r : B) → i < length xs → first_refusal_from f n (take i xs) ≡ None → f (n + i) (get_or xs i d) ≡ Some r → first_refusal_from f n xs ≡ Some r
unfolding first_refusal_from
found_from f n [] i d r h e g = absurd (omega arith)
found_from {A} {B} f n (x ∷ xs) zero d r h e g =
    ap (λ (o : Option B). option_or o (first_refusal_from f (n + 1) xs)) (ap (λ k. f k x) (sym (add-zero n)) ∙ g)
found_from {A} {B} f n (x ∷ xs) (suc i) d r h e g =
    let p = none_first (f n x) (first_refusal_from f (n + 1) (take i xs)) e in
    ap (λ (o : Option B). option_or o (first_refusal_from f (n + 1) xs)) p.0
    ∙ found_from f (n + 1) xs i d r (omega arith) p.1 (ap (λ k. f k (get_or xs i d)) (omega arith) ∙ g)

pub first_end : {A B : Type 0} (f : ℕ → A → Option B) (xs : List A) (i : ℕ) → length xs ≤ i → first_refusal_from f 0 (take i xs) ≡ None → first_refusal_from f 0 xs ≡ None
first_end f xs i h e = ap (first_refusal_from f 0) (sym (take_all i xs h)) ∙ e

-- the item at hand: none, or the first
pub more_item : {A B : Type 0} (f : ℕ → A → Option B) (xs : List A) (i : ℕ) (x : A) → i < length xs → x ≡ get_or xs i x → first_refusal_from f 0 (take i xs) ≡ None → f i x ≡ None → first_refusal_from f 0 (take (i + 1) xs) ≡ None
more_item f xs i x h is e g =
    let next : suc i ≡ i + 1 = omega arith in
    ap (λ k. first_refusal_from f 0 (take k xs)) (sym next) ∙ more_from f 0 xs i x h e (ap (λ k. f k (get_or xs i x)) (omega arith) ∙ ap (f i) (sym is) ∙ g)

pub found_item : {A B : Type 0} (f : ℕ → A → Option B) (xs : List A) (i : ℕ) (x : A) (r : B) → i < length xs → x ≡ get_or xs i x → first_refusal_from f 0 (take i xs) ≡ None → f i x ≡ Some r → first_refusal_from f 0 xs ≡ Some r
found_item f xs i x r h is e g = found_from f 0 xs i x r h e (ap (λ k. f k (get_or xs i x)) (omega arith) ∙ ap (f i) (sym is) ∙ g)

-- the answer of a test
pub then_yes : {A : Type 0} (b t : Bool) (x : A) → t ≡ b → t ≡ true → then_some b x ≡ Some x
then_yes {A} b t x e f = ap (λ (c : Bool). then_some {T = A} c x) (sym e ∙ f)

pub then_no : {A : Type 0} (b t : Bool) (x : A) → t ≡ b → t ≡ false → then_some b x ≡ None
then_no {A} b t x e f = ap (λ (c : Bool). then_some {T = A} c x) (sym e ∙ f)

-- the answer of the current item is that of all items
pub told_item : {A B : Type 0} (f : ℕ → A → Option B) (xs : List A) (i : ℕ) (x : A) (o : Option B) → i < length xs → x ≡ get_or xs i x → first_refusal_from f 0 (take i xs) ≡ None → IfSome o (λ r. f i x ≡ Some r) → IfSome o (λ r. first_refusal_from f 0 xs ≡ Some r)
told_item f xs i x None h is e t = tt
told_item f xs i x (Some r) h is e t = found_item f xs i x r h is e t
