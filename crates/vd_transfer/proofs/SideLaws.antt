-- What a side of a branch leaves of its operands.
use Rattle.std.proofs.Common.{◌≡◌, ℕ, ◌≤◌, inl, inr, Bool, true, false, List, [], ◌∷◌, length, refl, sym, ap, ◌∙◌, arith, Option, Some, None, get_or}
use Rattle.std.specs.List.{filter, list_any}
use Rattle.std.proofs.lemmas.Bool.{cases_Bool}
use Rattle.std.proofs.lemmas.List.{set-get_or}
use Rattle.tc_isa.specs.declared.shapes.Arg.{Arg}
use Rattle.tc_isa.specs.declared.shapes.Arg.TheVariants.{Reg, Word}
use Rattle.tc_isa.specs.declared.shapes.Cond.{Cond}
use Rattle.tcd_plan.specs.PlanData.{PlanData}
use Rattle.value_domain.specs.declared.values.Val.{Val}
use Rattle.value_domain.specs.declared.states.State.{State}
use Rattle.value_domain.specs.Limits.{Limits}
use Rattle.value_domain.specs.Values.{cover, members, IsInLattice, any_val, word_val}
use Rattle.value_domain.proofs.ExtentLaws.{some_length}
use Rattle.value_domain.proofs.Loops.{among_get}
use Rattle.vd_transfer.specs.Registers.{register_slot, with_slot_value, with_reg_value, reg_of, arg_of, register_value_at, with_arg_value}
use Rattle.vd_transfer.specs.Refinement.{is_side_taken, kept_left_words, kept_right_words, kept_self_compared_words}
use Rattle.value_domain.specs.Meets.{cover_if_any}
use Rattle.vd_transfer.specs.Branches.{is_side_taken_by_equal_words, state_if_possible, state_with_narrowed_register, state_with_narrowed_operands}
use Rattle.value_domain.proofs.MeetLaws.{among_filter, filter_has, any_among, among_any}
use Rattle.vd_transfer.proofs.RelationLaws.{both_all, both_none}

-- a register that takes its own value
set_slot-own : (p : PlanData) (s : State) (r : ℕ) (o : Option ℕ) → with_slot_value s (register_value_at p s r o) o ≡ s
set_slot-own p s r None = refl
set_slot-own p s r (Some i) = ap (λ (vs : List Val). record s { regs = vs }) (set-get_or s.regs i any_val)

pub set_reg-own : (p : PlanData) (s : State) (r : ℕ) → with_reg_value s r (reg_of p s r) ≡ s
set_reg-own p s r = set_slot-own p s r (register_slot r)

pub set_arg-own : (p : PlanData) (s : State) (y : Arg) → with_arg_value s y (arg_of p s y) ≡ s
set_arg-own p s (Reg r) = set_reg-own p s r
set_arg-own p s (Word w) = refl

-- ---- one register twice
pub self_side : (b : Limits) (cond : Cond) (side : Bool) (p : PlanData) (s : State) (x : ℕ) → IsInLattice b (reg_of p s x)
    → state_if_possible (is_side_taken_by_equal_words cond side) s ≡ state_with_narrowed_register s x (cover_if_any b (kept_self_compared_words cond side (members (reg_of p s x))))
self_side b cond side p s x value =
    elim (cases_Bool (is_side_taken_by_equal_words cond side)) [
      | inl t ↦
          ap (λ (h : Bool). state_if_possible h s) t
          ∙ ap (λ (z : State). Some z) (sym (set_reg-own p s x))
          ∙ ap (λ (v : Option Val). state_with_narrowed_register s x v) (both_all b cond side (reg_of p s x) value t)
      | inr f ↦ ap (λ (h : Bool). state_if_possible h s) f ∙ ap (λ (v : Option Val). state_with_narrowed_register s x v) (both_none b cond side (reg_of p s x) f)
    ]

-- ---- a word against a word
filter_one : (p : ℕ → Bool) (x : ℕ) → p x ≡ true → filter p (x ∷ []) ≡ x ∷ []
filter_one p x h = rw h refl

filter_not : (p : ℕ → Bool) (x : ℕ) → p x ≡ false → filter p (x ∷ []) ≡ []
filter_not p x h = rw h refl

any_one : (p : ℕ → Bool) (x : ℕ) (t : Bool) → p x ≡ t → list_any p (x ∷ []) ≡ t
any_one p x true h = rw h refl
any_one p x false h = rw h refl

left_all : (cond : Cond) (side : Bool) (x y : ℕ) → is_side_taken cond side x y ≡ true → kept_left_words cond side (x ∷ []) (y ∷ []) ≡ x ∷ []
unfolding kept_left_words
left_all cond side x y h = filter_one (λ u. list_any (λ w. is_side_taken cond side u w) (y ∷ [])) x (any_one (λ w. is_side_taken cond side x w) y true h)

left_none : (cond : Cond) (side : Bool) (x y : ℕ) → is_side_taken cond side x y ≡ false → kept_left_words cond side (x ∷ []) (y ∷ []) ≡ []
unfolding kept_left_words
left_none cond side x y h = filter_not (λ u. list_any (λ w. is_side_taken cond side u w) (y ∷ [])) x (any_one (λ w. is_side_taken cond side x w) y false h)

right_all : (cond : Cond) (side : Bool) (x y : ℕ) → is_side_taken cond side x y ≡ true → kept_right_words cond side (x ∷ []) (y ∷ []) ≡ y ∷ []
unfolding kept_right_words
right_all cond side x y h = filter_one (λ w. list_any (λ u. is_side_taken cond side u w) (x ∷ [])) y (any_one (λ u. is_side_taken cond side u y) x true h)

pub words_side : (b : Limits) (cond : Cond) (side : Bool) (s : State) (x : ℕ) (y : Arg) (u w : ℕ) → IsInLattice b (word_val u) → IsInLattice b (word_val w) → with_reg_value s x (word_val u) ≡ s → with_arg_value s y (word_val w) ≡ s
    → state_if_possible (is_side_taken cond side u w) s ≡ state_with_narrowed_operands s x y (cover_if_any b (kept_left_words cond side (u ∷ []) (w ∷ []))) (cover_if_any b (kept_right_words cond side (u ∷ []) (w ∷ [])))
words_side b cond side s x y u w value_u value_w own other =
    elim (cases_Bool (is_side_taken cond side u w)) [
      | inl t ↦
          ap (λ (h : Bool). state_if_possible h s) t
          ∙ ap (λ (z : State). Some z) (sym other)
          ∙ ap (λ (z : State). Some (with_arg_value z y (word_val w))) (sym own)
          ∙ ap (λ (v : Val). Some (with_arg_value (with_reg_value s x v) y (word_val w))) (sym value_u.own)
          ∙ ap (λ (v : Val). Some (with_arg_value (with_reg_value s x (cover b (u ∷ []))) y v)) (sym value_w.own)
          ∙ ap (λ (l : List ℕ). state_with_narrowed_operands s x y (cover_if_any b l) (cover_if_any b (w ∷ []))) (sym (left_all cond side u w t))
          ∙ ap (λ (l : List ℕ). state_with_narrowed_operands s x y (cover_if_any b (kept_left_words cond side (u ∷ []) (w ∷ []))) (cover_if_any b l)) (sym (right_all cond side u w t))
      | inr f ↦
          ap (λ (h : Bool). state_if_possible h s) f
          ∙ ap (λ (l : List ℕ). state_with_narrowed_operands s x y (cover_if_any b l) (cover_if_any b (kept_right_words cond side (u ∷ []) (w ∷ [])))) (sym (left_none cond side u w f))
    ]

-- ---- comparison with a constant: if something is left of the register, something is left of it
pick : (b : Limits) (s : State) (x z : ℕ) (ls rs : List ℕ) → (1 ≤ length ls → 1 ≤ length rs) → state_with_narrowed_register s x (cover_if_any b ls) ≡ state_with_narrowed_operands s x (Word z) (cover_if_any b ls) (cover_if_any b rs)
pick b s x z [] rs h = refl
pick b s x z (l ∷ ls) [] h = absurd (let n : 1 ≤ 0 = h (omega arith) in omega arith)
pick b s x z (l ∷ ls) (r ∷ rs) h = refl

some_right : (cond : Cond) (side : Bool) (vs ws : List ℕ) → 1 ≤ length (kept_left_words cond side vs ws) → 1 ≤ length (kept_right_words cond side vs ws)
unfolding kept_left_words kept_right_words
some_right cond side vs ws some =
    let u = get_or (filter (λ x. list_any (λ y. is_side_taken cond side x y) ws) vs) 0 0 in
    let f = among_filter (λ x. list_any (λ y. is_side_taken cond side x y) ws) u vs (among_get (filter (λ x. list_any (λ y. is_side_taken cond side x y) ws) vs) 0 some) in
    let r = any_among (λ y. is_side_taken cond side u y) ws f.1 in
    some_length (filter (λ y. list_any (λ x. is_side_taken cond side x y) vs) ws) r.0
    (filter_has (λ y. list_any (λ x. is_side_taken cond side x y) vs) r.0 ws r.1 (among_any (λ x. is_side_taken cond side x r.0) u vs f.0 r.2))

pub constant_side : (b : Limits) (cond : Cond) (side : Bool) (s : State) (x z : ℕ) (vs ws : List ℕ)
    → state_with_narrowed_register s x (cover_if_any b (kept_left_words cond side vs ws)) ≡ state_with_narrowed_operands s x (Word z) (cover_if_any b (kept_left_words cond side vs ws)) (cover_if_any b (kept_right_words cond side vs ws))
constant_side b cond side s x z vs ws = pick b s x z (kept_left_words cond side vs ws) (kept_right_words cond side vs ws) (some_right cond side vs ws)

-- ---- both operands, one after the other
pub two_none : (s : State) (x : ℕ) (y : Arg) (v w : Option Val) → None ≡ state_with_narrowed_register s x v → None ≡ state_with_narrowed_operands s x y v w
two_none s x y None w e = refl
two_none s x y (Some v) w e = absurd (let f : None ≡ Some (with_reg_value s x v) = e in cc)

pub two_half : (s t : State) (x : ℕ) (y : Arg) (v w : Option Val) → Some t ≡ state_with_narrowed_register s x v → None ≡ w → None ≡ state_with_narrowed_operands s x y v w
two_half s t x y None w e n = refl
two_half s t x y (Some v) w e n = ap (state_with_narrowed_operands s x y (Some v)) n

pub two_both : (s t : State) (x : ℕ) (y : Arg) (v w : Option Val) (kept : Val) → Some t ≡ state_with_narrowed_register s x v → Some kept ≡ w → Some (with_arg_value t y kept) ≡ state_with_narrowed_operands s x y v w
two_both s t x y None w kept e n = absurd (let f : Some t ≡ None = e in cc)
two_both s t x y (Some v) w kept e n =
    let same : t ≡ with_reg_value s x v = (let f : Some t ≡ Some (with_reg_value s x v) = e in cc) in
    ap (λ (z : State). Some (with_arg_value z y kept)) same ∙ ap (state_with_narrowed_operands s x y (Some v)) n
