-- Conditions as relations.
use Rattle.std.proofs.Common.{◌≡◌, ℕ, inl, inr, Bool, true, false, not, List, [], ◌∷◌, refl, sym, ap, ◌∙◌, arith, Some, None, leb, ltb, eqb, eq-eqb}
use Rattle.std.specs.List.{filter, list_any}
use Rattle.std.proofs.lemmas.Bool.{cases_lt, cases_Bool, lt-ltb, le-ltb, le-leb, lt-leb, eqb-true, eqb-false, ne_eqb}
use Rattle.tc_isa.specs.declared.shapes.Cond.{Cond}
use Rattle.tc_isa.specs.declared.shapes.Cond.TheVariants as cond
use Rattle.tc_isa.specs.Arithmetic.{taken_of, signed_rank}
use Rattle.value_domain.specs.declared.values.Val.{Val}
use Rattle.value_domain.specs.Limits.{Limits}
use Rattle.value_domain.specs.Values.{IsInLattice, members}
use Rattle.value_domain.proofs.RangeLaws.{some_members}
use Rattle.vd_transfer.specs.declared.refinement.Relation.{Relation}
use Rattle.vd_transfer.specs.declared.refinement.Relation.TheVariants.{Same, Other}
use Rattle.vd_transfer.specs.Relations.{is_related, related_words, operand_relation, converse}
use Rattle.vd_transfer.specs.Signs.{is_signed_condition, signed_related_words}
use Rattle.vd_transfer.specs.Branches.{is_side_taken_by_equal_words}
use Rattle.vd_transfer.specs.Refinement.{is_side_taken, kept_left_words, kept_right_words, kept_self_compared_words}
use Rattle.value_domain.specs.Meets.{cover_if_any}
use Rattle.value_domain.proofs.MeetLaws.{cover_some-some}

not_ltb : (x y : ℕ) → not (ltb x y) ≡ leb y x
not_ltb x y = elim (cases_lt x y) [ inl h ↦ rw (lt-ltb x y h, lt-leb y x h) refl | inr h ↦ rw (le-ltb x y h, le-leb y x h) refl ]

not_leb : (x y : ℕ) → not (leb x y) ≡ ltb y x
not_leb x y = elim (cases_lt y x) [ inl h ↦ rw (lt-leb x y h, lt-ltb y x h) refl | inr h ↦ rw (le-leb x y h, le-ltb y x h) refl ]

not_not : (b : Bool) → not (not b) ≡ b
not_not true = refl
not_not false = refl

eqb_swapped : (x y : ℕ) → eqb y x ≡ eqb x y
eqb_swapped x y =
    elim (cases_Bool (eqb x y)) [
      | inl same ↦ rw same (eq-eqb y x (sym (eqb-true x y same)))
      | inr other ↦ rw other (ne_eqb y x (λ e. eqb-false x y other (sym e)))
    ]

-- the relation of a condition's side
pub related_holds : (c : Cond) (side : Bool) (x y : ℕ) → is_signed_condition c ≡ false → is_related (operand_relation c side) x y ≡ is_side_taken c side x y
unfolding is_related operand_relation is_signed_condition taken_of
related_holds cond.Eq true x y e = refl
related_holds cond.Eq false x y e = refl
related_holds cond.Ne true x y e = refl
related_holds cond.Ne false x y e = sym (not_not (eqb x y))
related_holds cond.Lt side x y e = cc
related_holds cond.LtU true x y e = refl
related_holds cond.LtU false x y e = sym (not_ltb x y)
related_holds cond.Ge side x y e = cc
related_holds cond.GeU true x y e = refl
related_holds cond.GeU false x y e = sym (not_leb y x)

-- the laws in the signed order
pub related_signed : (c : Cond) (side : Bool) (x y : ℕ) → is_signed_condition c ≡ true → is_related (operand_relation c side) (signed_rank x) (signed_rank y) ≡ is_side_taken c side x y
unfolding is_related operand_relation is_signed_condition taken_of
related_signed cond.Eq side x y e = cc
related_signed cond.Ne side x y e = cc
related_signed cond.Lt true x y e = refl
related_signed cond.Lt false x y e = sym (not_ltb (signed_rank x) (signed_rank y))
related_signed cond.LtU side x y e = cc
related_signed cond.Ge true x y e = refl
related_signed cond.Ge false x y e = sym (not_leb (signed_rank y) (signed_rank x))
related_signed cond.GeU side x y e = cc

pub converse_related : (rel : Relation) (x y : ℕ) → is_related (converse rel) y x ≡ is_related rel x y
unfolding is_related converse
converse_related Same x y = eqb_swapped x y
converse_related Other x y = ap not (eqb_swapped x y)
converse_related _ x y = refl

-- a signed condition isn't equality
pub signed_order : (c : Cond) (side : Bool) → is_signed_condition c ≡ true → operand_relation c side ≡ Same → ⊥
unfolding operand_relation is_signed_condition
signed_order cond.Eq side e f = absurd (let g : false ≡ true = e in cc)
signed_order cond.Ne side e f = absurd (let g : false ≡ true = e in cc)
signed_order cond.Lt true e f = cc
signed_order cond.Lt false e f = cc
signed_order cond.LtU side e f = absurd (let g : false ≡ true = e in cc)
signed_order cond.Ge true e f = cc
signed_order cond.Ge false e f = cc
signed_order cond.GeU side e f = absurd (let g : false ≡ true = e in cc)

pub converse_order : (rel : Relation) → (rel ≡ Same → ⊥) → converse rel ≡ Same → ⊥
unfolding converse
converse_order Same n f = n refl
converse_order _ n f = cc

-- ---- tests that are alike
any_same : (p q : ℕ → Bool) (ws : List ℕ) → ((y : ℕ) → p y ≡ q y) → list_any p ws ≡ list_any q ws
any_same p q [] h = refl
any_same p q (w ∷ ws) h = rw (h w, any_same p q ws h) refl

filter_same : (p q : ℕ → Bool) (vs : List ℕ) → ((x : ℕ) → p x ≡ q x) → filter p vs ≡ filter q vs
filter_same p q [] h = refl
filter_same p q (v ∷ vs) h = rw (h v, filter_same p q vs h) refl

pub left_plain : (c : Cond) (side : Bool) (vs ws : List ℕ) → is_signed_condition c ≡ false → related_words (operand_relation c side) vs ws ≡ kept_left_words c side vs ws
unfolding related_words kept_left_words
left_plain c side vs ws e = filter_same _ _ vs (λ x. any_same _ _ ws (λ y. related_holds c side x y e))

pub left_signed : (c : Cond) (side : Bool) (vs ws : List ℕ) → is_signed_condition c ≡ true → signed_related_words (operand_relation c side) vs ws ≡ kept_left_words c side vs ws
unfolding signed_related_words kept_left_words
left_signed c side vs ws e = filter_same _ _ vs (λ x. any_same _ _ ws (λ y. related_signed c side x y e))

pub right_plain : (c : Cond) (side : Bool) (vs ws : List ℕ) → is_signed_condition c ≡ false → related_words (converse (operand_relation c side)) ws vs ≡ kept_right_words c side vs ws
unfolding related_words kept_right_words
right_plain c side vs ws e = filter_same _ _ ws (λ y. any_same _ _ vs (λ x. converse_related (operand_relation c side) x y ∙ related_holds c side x y e))

pub right_signed : (c : Cond) (side : Bool) (vs ws : List ℕ) → is_signed_condition c ≡ true → signed_related_words (converse (operand_relation c side)) ws vs ≡ kept_right_words c side vs ws
unfolding signed_related_words kept_right_words
right_signed c side vs ws e = filter_same _ _ ws (λ y. any_same _ _ vs (λ x. converse_related (operand_relation c side) (signed_rank x) (signed_rank y) ∙ related_signed c side x y e))

-- ---- one register twice
ltb_self : (z : ℕ) → ltb z z ≡ false
ltb_self z = le-ltb z z (omega arith)

leb_self : (z : ℕ) → leb z z ≡ true
leb_self z = le-leb z z (omega arith)

pub self_is : (c : Cond) (side : Bool) (z : ℕ) → is_side_taken c side z z ≡ is_side_taken_by_equal_words c side
unfolding is_side_taken_by_equal_words taken_of
self_is cond.Eq true z = eq-eqb z z refl
self_is cond.Eq false z = ap not (eq-eqb z z refl)
self_is cond.Ne true z = ap not (eq-eqb z z refl)
self_is cond.Ne false z = ap (λ b. not (not b)) (eq-eqb z z refl)
self_is cond.Lt true z = ltb_self (signed_rank z)
self_is cond.Lt false z = ap not (ltb_self (signed_rank z))
self_is cond.LtU true z = ltb_self z
self_is cond.LtU false z = ap not (ltb_self z)
self_is cond.Ge true z = leb_self (signed_rank z)
self_is cond.Ge false z = ap not (leb_self (signed_rank z))
self_is cond.GeU true z = leb_self z
self_is cond.GeU false z = ap not (leb_self z)

filter_all : (p : ℕ → Bool) (zs : List ℕ) → ((z : ℕ) → p z ≡ true) → filter p zs ≡ zs
filter_all p [] h = refl
filter_all p (z ∷ zs) h = rw (h z) (ap (λ (l : List ℕ). z ∷ l) (filter_all p zs h))

pub filter_none : (p : ℕ → Bool) (zs : List ℕ) → ((z : ℕ) → p z ≡ false) → filter p zs ≡ []
filter_none p [] h = refl
filter_none p (z ∷ zs) h = rw (h z) (filter_none p zs h)

pub both_all : (b : Limits) (c : Cond) (side : Bool) (v : Val) → IsInLattice b v → is_side_taken_by_equal_words c side ≡ true → Some v ≡ cover_if_any b (kept_self_compared_words c side (members v))
unfolding kept_self_compared_words
both_all b c side v value e =
    let all : filter (λ z. is_side_taken c side z z) (members v) ≡ members v = filter_all (λ z. is_side_taken c side z z) (members v) (λ z. self_is c side z ∙ e) in
    ap (λ (u : Val). Some u) (sym value.own) ∙ cover_some-some b (members v) (some_members v value.well) ∙ ap (cover_if_any b) (sym all)

pub both_none : (b : Limits) (c : Cond) (side : Bool) (v : Val) → is_side_taken_by_equal_words c side ≡ false → None ≡ cover_if_any b (kept_self_compared_words c side (members v))
unfolding kept_self_compared_words
both_none b c side v e = ap (cover_if_any b) (sym (filter_none (λ z. is_side_taken c side z z) (members v) (λ z. self_is c side z ∙ e)))
