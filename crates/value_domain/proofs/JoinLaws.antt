-- Joining gives the least state that covers both.
use Rattle.std.proofs.Common.{◌≡◌, ℕ, zero, suc, ◌<◌, inl, inr, Bool, List, [], ◌∷◌, ◌++◌, length, length-append, refl, arith, get_or}
use Rattle.std.proofs.lemmas.Bool.{and_parts, and_from, or_left, or_right, or_cases}
use Rattle.value_domain.specs.declared.values.Val.{Val}
use Rattle.value_domain.specs.Limits.{Limits, AreLimits}
use Rattle.value_domain.specs.Values.{IsInLattice, IsBelow, members, any_val, join_of}
use Rattle.value_domain.specs.State.{FlagsImply, joined_regs, joined_locals}
use Rattle.value_domain.specs.Laws.{JoinIsLeast}
use Rattle.value_domain.specs.StateLaws.{StateJoinIsLeast}
use Rattle.value_domain.proofs.CoverLaws.{cover_holds, cover_least, among_member, member_among, has_step}
use Rattle.value_domain.proofs.ExtentLaws.{append_left, append_right, among_append}
use Rattle.value_domain.proofs.RangeLaws.{join_value, members_below, some_members}
use Rattle.value_domain.proofs.RegLaws.{get_or-joined, length-joined}

any_default : (vs : List Val) (i : ℕ) (d e : Val) → i < length vs → get_or vs i d ≡ get_or vs i e
any_default [] i d e h = absurd (omega arith)
any_default (v ∷ vs) zero d e h = refl
any_default (v ∷ vs) (suc i) d e h = any_default vs i d e (omega arith)

reg-joined : (b : Limits) (vs ws : List Val) (r : ℕ) → r < length vs → length vs ≡ length ws
    → get_or (joined_regs b vs ws) r any_val ≡ join_of b (get_or vs r any_val) (get_or ws r any_val)
reg-joined b vs ws r h same =
    get_or-joined b vs ws r (get_or vs r any_val) (get_or ws r any_val) any_val h (omega arith)
    (any_default vs r any_val (get_or vs r any_val) h) (any_default ws r any_val (get_or ws r any_val) (omega arith))

-- ---- two values
join_left : (b : Limits) (v w : Val) → IsInLattice b v → IsBelow v (join_of b v w)
join_left b v w value z m = cover_holds b (members v ++ members w) z (append_left z (members v) (members w) (among_member v z (has_step v value.well) m))

join_right : (b : Limits) (v w : Val) → IsInLattice b w → IsBelow w (join_of b v w)
join_right b v w value z m = cover_holds b (members v ++ members w) z (append_right z (members v) (members w) (among_member w z (has_step w value.well) m))

join_below : (b : Limits) (v w u : Val) → AreLimits b → IsInLattice b v → IsInLattice b w → IsInLattice b u → IsBelow v u → IsBelow w u → IsBelow (join_of b v w) u
join_below b v w u limits vv vw vu left right =
    (cover_least b (members v ++ members w) limits (record {
      some = omega (arith, length-append (members v) (members w), some_members v vv.well);
      below = λ z i. elim (among_append z (members v) (members w) i) [ inl j ↦ members_below v vv.well z j | inr j ↦ members_below w vw.well z j ];
    })).least u vu
    (λ z i. elim (among_append z (members v) (members w) i) [
      | inl j ↦ left z (member_among v z (has_step v vv.well) j)
      | inr j ↦ right z (member_among w z (has_step w vw.well) j)
    ])

pub join_least : JoinIsLeast
join_least b v w limits vv vw = record {
  value = join_value b v w limits vv vw;
  left = join_left b v w vv;
  right = join_right b v w vw;
  least = λ x vx left right. join_below b v w x limits vv vw vx left right;
}

-- ---- flags
locals_left : (xs ys : List Bool) → length xs ≡ length ys → FlagsImply (joined_locals xs ys) xs
locals_left [] ys e = tt
locals_left (x ∷ xs) [] e = absurd (omega arith)
locals_left (x ∷ xs) (y ∷ ys) e = ((λ t. (and_parts x y t).0), locals_left xs ys (omega arith))

locals_right : (xs ys : List Bool) → length xs ≡ length ys → FlagsImply (joined_locals xs ys) ys
locals_right [] [] e = tt
locals_right [] (y ∷ ys) e = absurd (omega arith)
locals_right (x ∷ xs) [] e = absurd (omega arith)
locals_right (x ∷ xs) (y ∷ ys) e = ((λ t. (and_parts x y t).1), locals_right xs ys (omega arith))

locals_least : (us xs ys : List Bool) → FlagsImply us xs → FlagsImply us ys → FlagsImply us (joined_locals xs ys)
locals_least [] [] [] h k = tt
locals_least [] [] (y ∷ ys) h k = absurd k
locals_least [] (x ∷ xs) ys h k = absurd h
locals_least (u ∷ us) [] ys h k = absurd h
locals_least (u ∷ us) (x ∷ xs) [] h k = absurd k
locals_least (u ∷ us) (x ∷ xs) (y ∷ ys) h k = ((λ t. and_from x y (h.0 t) (k.0 t)), locals_least us xs ys h.1 k.1)

pub joined_least : StateJoinIsLeast
joined_least b s t limits same flags vs vt =
    let len = length-joined b s.regs t.regs same in
    record {
      values = λ r h.
          rw (reg-joined b s.regs t.regs r (omega arith) same)
          (join_value b (get_or s.regs r any_val) (get_or t.regs r any_val) limits (vs r (omega arith)) (vt r (omega arith)));
      left = record {
        regs = λ r h. rw (reg-joined b s.regs t.regs r h same) (join_left b (get_or s.regs r any_val) (get_or t.regs r any_val) (vs r h));
        context = ((λ e. or_left s.ie t.ie e), omega arith, (λ e. (and_parts s.lower t.lower e).0));
        locals = locals_left s.locals.items t.locals.items flags;
      };
      right = record {
        regs = λ r h. rw (reg-joined b s.regs t.regs r (omega arith) same) (join_right b (get_or s.regs r any_val) (get_or t.regs r any_val) (vt r h));
        context = ((λ e. or_right s.ie t.ie e), omega arith, (λ e. (and_parts s.lower t.lower e).1));
        locals = locals_right s.locals.items t.locals.items flags;
      };
      least = λ u long vu left right. record {
        regs = λ r h.
            rw (reg-joined b s.regs t.regs r (omega arith) same)
            (join_below b (get_or s.regs r any_val) (get_or t.regs r any_val) (get_or u.regs r any_val) limits (vs r (omega arith)) (vt r (omega arith)) (vu r (omega arith))
            (left.regs r (omega arith)) (right.regs r (omega arith)));
        context = (
          (λ e. elim (or_cases s.ie t.ie e) [ inl x ↦ left.context.0 x | inr x ↦ right.context.0 x ]),
          omega (arith, left.context.1, right.context.1),
          (λ e. and_from s.lower t.lower (left.context.2 e) (right.context.2 e)),
        );
        locals = locals_least u.locals.items s.locals.items t.locals.items left.locals right.locals;
      };
    }
