use Rattle.std.proofs.Common.{◌≡◌, ◌∙◌, ◌↔◌, ◌∷◌, [], ℕ, IsTrue, inl, inr, refl, ap, subst, sym}
use Rattle.value_domain.specs.declared.values.Val.{Val}
use Rattle.value_domain.specs.declared.values.Val.TheVariants.{Set}
use Rattle.value_domain.specs.Values.{IsBelow, IsMember}
use Rattle.small_states.specs.SmallValues.{whole_value}
use Rattle.small_states.proofs.small_value.Small.covers_unequal.Goals as goal

pub returns-in-One : goal.returns-in-One
returns-in-One c =
    let whole : c.args.v.now ≡ Set (c.in-One.x ∷ []) = sym c.v.view_is ∙ ap whole_value c.in-One.is in
    subst (λ (u : Val). IsTrue c.has_member.result ↔ IsBelow u c.args.self.now) (sym whole) (
      (λ t z m. elim m [ inl e ↦ subst (λ (y : ℕ). IsMember y c.args.self.now) (sym e) (c.has_member.ensures.0 t) | inr none ↦ absurd none ]),
      (λ below. c.has_member.ensures.1 (below c.in-One.x (inl refl))),
    )

pub returns-in-Many : goal.returns-in-Many
returns-in-Many c = rw (← c.v.view_is, c.in-Many.is) (rw c.as_ref.ensures at c.covers.ensures)

pub returns-then-has_all_of_range : goal.returns-then-has_all_of_range
returns-then-has_all_of_range c =
    let range = sym c.v.view_is ∙ ap whole_value c.in-Range.is in
    ((λ t. subst (λ (u : Val). IsBelow u c.args.self.now) (sym range) (c.has_all_of_range.ensures c.if-has_all_of_range.true)), (λ below. refl))
