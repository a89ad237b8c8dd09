use Rattle.std.proofs.Common.{◌∙◌, ◌↔◌, ◌∷◌, [], ℕ, IsTrue, length, nat_eq, inl, inr, ap, refl, subst, sym}
use Rattle.value_domain.specs.declared.values.Val.{Val}
use Rattle.value_domain.specs.declared.values.Val.TheVariants.{Set}
use Rattle.value_domain.specs.Values.{IsBelow, IsMember}
use Rattle.value_domain.proofs.RangeLaws.{below_any}
use Rattle.small_states.specs.SmallValues.{whole_value}
use Rattle.small_states.proofs.HeldWords.{held_all, set_of}
use Rattle.small_states.proofs.SameValues.{only_one}
use Rattle.small_states.proofs.small_value.Small.covers.Goals as goal

pub returns-in-Some : goal.returns-in-Some
returns-in-Some c =
    let whole = rw c.in-Some.is at c.singleton_word.ensures in
    subst (λ (u : Val). IsTrue c.has_member.result ↔ IsBelow u c.args.self.now) (sym whole) (
      (λ t z m. elim m [ inl e ↦ subst (λ (y : ℕ). IsMember y c.args.self.now) (sym e) (c.has_member.ensures.0 t) | inr none ↦ absurd none ]),
      (λ below. c.has_member.ensures.1 (below c.in-Some.x (inl refl))),
    )

pub returns-in-Many : goal.returns-in-Many
returns-in-Many c = rw (← c.self.view_is, c.in-Many.is) (rw c.as_ref.ensures at c.is_below_shared_value.ensures)

pub returns-in-Some-words : goal.returns-in-Some-words
returns-in-Some-words c =
    let words = c.in-Some-words.words.now in
    let ve = set_of c.args.v.now words c.in-Some-words.ensures in
    let oe = sym c.self.view_is ∙ ap whole_value c.in-One.is in
    subst (λ (u : Val). IsTrue (nat_eq c.count_leading_members.result (length words)) ↔ IsBelow u c.args.self.now) (sym ve)
    (subst (λ (u : Val). IsTrue (nat_eq c.count_leading_members.result (length words)) ↔ IsBelow (Set words) u) (sym oe)
    (held_all (c.in-One.x ∷ []) words c.count_leading_members.result c.count_leading_members.ensures.within c.count_leading_members.ensures.held c.count_leading_members.ensures.missing))

pub returns-in-None : goal.returns-in-None
returns-in-None c =
    let both = only_one c.in-One.x c.args.v.now in
    subst (λ (u : Val). IsTrue c.is_below_range.result ↔ IsBelow c.args.v.now u) (sym (sym c.self.view_is ∙ ap whole_value c.in-One.is))
    ((λ t. both.0 (c.is_below_range.ensures.0 t)), (λ below. c.is_below_range.ensures.1 (both.1 below)))

pub returns-then-is_equal_span : goal.returns-then-is_equal_span
returns-then-is_equal_span c =
    let same = c.is_equal_span.ensures.0 c.if-is_equal_span.true ∙ sym (sym c.self.view_is ∙ ap whole_value c.in-Range.is) in
    ((λ t x m. subst (λ (u : Val). IsMember x u) same m), (λ below. refl))

pub returns-else-is_equal_span : goal.returns-else-is_equal_span
returns-else-is_equal_span c =
    subst (λ (u : Val). IsTrue c.is_below_range-in-Range.result ↔ IsBelow c.args.v.now u) (sym (sym c.self.view_is ∙ ap whole_value c.in-Range.is)) c.is_below_range-in-Range.ensures

pub returns-in-Any : goal.returns-in-Any
returns-in-Any c =
    ((λ t. subst (λ (u : Val). IsBelow c.args.v.now u) (sym (sym c.self.view_is ∙ ap whole_value c.in-Any.is)) (below_any c.args.v.now c.requires.value)), (λ below. refl))
