-- A value joined with itself, and with words of its own.
use Rattle.std.proofs.Common.{◌≡◌, ◌∙◌, ◌↔◌, ◌++◌, ◌∷◌, [], ℕ, inl, inr, ap, subst, sym, arith}
use Rattle.value_domain.specs.declared.values.Val.{Val}
use Rattle.value_domain.specs.Limits.{Limits}
use Rattle.value_domain.specs.declared.values.Val.TheVariants.{Set, Span}
use Rattle.value_domain.specs.Sets.{Among}
use Rattle.value_domain.specs.Values.{IsBelow, IsMember, IsInLattice, IsWellFormed, any_val, members, join_of}
use Rattle.value_domain.proofs.RangeLaws.{members_below}
use Rattle.value_domain.proofs.CoverLaws.{among_member, cover-same, has_step, member_among}
use Rattle.value_domain.proofs.ExtentLaws.{among_append, append_left}

-- a value without a word that the other lacks adds nothing
pub join_below : (b : Limits) (v w : Val) → IsInLattice b v → ((z : ℕ) → Among z (members w) → IsMember z v) → join_of b v w ≡ v
join_below b v w value below =
    cover-same b (members v ++ members w) (members v)
    (λ z i. elim (among_append z (members v) (members w) i) [ inl j ↦ j | inr j ↦ among_member v z (has_step v value.well) (below z j) ])
    (λ z i. append_left z (members v) (members w) i)
    ∙ value.own

pub join_held : (b : Limits) (v w : Val) (x : ℕ) → w ≡ Set (x ∷ []) → IsMember x v → IsInLattice b v → v ≡ join_of b v w
join_held b v w x e m value =
    sym
    (ap (λ (u : Val). join_of b v u) e
    ∙ join_below b v (Set (x ∷ [])) value (λ z i. elim i [ inl same ↦ subst (λ (y : ℕ). IsMember y v) (sym same) m | inr none ↦ absurd none ]))

-- nothing is added to all words
pub join_all : (b : Limits) (v w : Val) → v ≡ any_val → IsInLattice b v → IsWellFormed w → join_of b v w ≡ v
join_all b v w e value well =
    join_below b v w value (λ z i. subst (λ (u : Val). IsMember z u) (sym e) (omega arith, omega (arith, members_below w well z i), omega arith))

pub join_same : (b : Limits) (v w : Val) → w ≡ v → IsInLattice b v → w ≡ join_of b v w
join_same b v w e value =
    e
    ∙ sym
    (ap (λ (u : Val). join_of b v u) e
    ∙ cover-same b (members v ++ members v) (members v) (λ z i. elim (among_append z (members v) (members v) i) [ inl j ↦ j | inr j ↦ j ])
    (λ z i. append_left z (members v) (members v) i)
    ∙ value.own)

-- a value with all members of the other is the least with those of both
pub join_under : (b : Limits) (v w : Val) → IsInLattice b v → IsWellFormed w → IsBelow w v → v ≡ join_of b v w
join_under b v w value well below = sym (join_below b v w value (λ z i. below z (member_among w z (has_step w well) i)))

-- each member of a value is below the range of one word exactly if it is that word
pub only_one : (x : ℕ) (v : Val) → IsBelow v (Span x x 0) ↔ IsBelow v (Set (x ∷ []))
only_one x v = (
  (λ below z m. let at = below z m in inl (omega (arith, at.0, at.1))),
  (λ below z m. elim (below z m) [ inl e ↦ let same : z ≡ x = e in (omega arith, omega arith, omega arith) | inr none ↦ absurd none ]),
)

-- a word of a range is all that the value of this word has
pub one_below : (x : ℕ) (w : Val) → IsMember x w → IsBelow (Set (x ∷ [])) w
one_below x w m z i = elim i [ inl e ↦ subst (λ (y : ℕ). IsMember y w) (sym e) m | inr none ↦ absurd none ]
