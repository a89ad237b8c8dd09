-- Points have states and exits have exits.
use Rattle.std.proofs.Common.{◌≡◌, inl, inr, ℕ, Option, Some, None, refl, sym, ap, ◌∙◌, subst}
use Rattle.std.specs.Prelude.{option_map}
use Rattle.elf_image.specs.Images.{ImageData}
use Rattle.tcd_plan.specs.PlanData.{PlanData}
use Rattle.value_domain.specs.declared.states.State.{State}
use Rattle.value_domain.specs.Limits.{Limits}
use Rattle.value_domain.specs.State.{state_join_if_any}
use Rattle.depth_cert.specs.declared.keys.Key.{Key}
use Rattle.cfg_recover.specs.Entries.{start_state}
use Rattle.depth_cert.specs.Exits.{state_after_return, joined_exit}
use Rattle.cfg_recover.specs.Duties.{Duty, jump, enter, resume, leave}
use Rattle.cfg_recover.specs.Assignments.{Place, point, exit, Assignment, is_same_place, joined_at_place, asked_by_duty, AsksFor, Derived, begins, joins, start_place}
use Rattle.depth_cert.specs.Known.{Known, state, leaving, joined_known}
use Rattle.cfg_recover.specs.CertRefusals.{IsFaultInAssignment, locals}
use Rattle.depth_maker.proofs.PlaceLaws.{place_tells, from_if, resumed_some}

-- what is known fits the place
abbrev pub IsOfKind : Place → Known → Type 0
IsOfKind (point k p) (state s) = Unit {0}
IsOfKind (point k p) (leaving x) = ⊥
IsOfKind (exit k) (state s) = ⊥
IsOfKind (exit k) (leaving x) = Unit {0}

pub asked_kind : (a : Assignment) (key : Key) (s : State) (d : Duty) (y : Place) (v : Known) → asked_by_duty a key s d ≡ Some (y, v) → IsOfKind y v
asked_kind a key s (jump q t) y v e = let f : (point key q, state t) ≡ (y, v) = cc in subst (λ (w : Place × Known). IsOfKind w.0 w.1) f tt
asked_kind a key s (enter k t) y v e = let f : (point k k.entry, state t) ≡ (y, v) = cc in subst (λ (w : Place × Known). IsOfKind w.0 w.1) f tt
asked_kind a key s (leave x) y v e = let f : (exit key, leaving x) ≡ (y, v) = cc in subst (λ (w : Place × Known). IsOfKind w.0 w.1) f tt
asked_kind a key s (resume k q) y v e =
    let r = resumed_some key s k q (a (exit k)) y v e in
    let f : (point key q, state (state_after_return s r.0 k.kind)) ≡ (y, v) = λ i. (r.2 i, r.3 i) in
    subst (λ (w : Place × Known). IsOfKind w.0 w.1) f tt

joined_kind : (b : Limits) (y : Place) (w v u : Known) → IsOfKind y w → IsOfKind y v → joined_known b w v ≡ Some u → IsOfKind y u
joined_kind b (point k p) (state s) (state t) u h g e = at (state_join_if_any b s t) e where
  at : (o : Option State) → option_map state o ≡ Some u → IsOfKind (point k p) u
  at None f = absurd (let q : None ≡ Some u = f in cc)
  at (Some j) f = let q : state j ≡ u = (let r : Some (state j) ≡ Some u = f in cc) in subst (IsOfKind (point k p)) q tt
joined_kind b (point k p) (state s) (leaving x) u h g e = absurd g
joined_kind b (point k p) (leaving x) v u h g e = absurd h
joined_kind b (exit k) (state s) v u h g e = absurd h
joined_kind b (exit k) (leaving x) (state s) u h g e = absurd g
joined_kind b (exit k) (leaving x) (leaving z) u h g e =
    let q : leaving (joined_exit b x z) ≡ u = (let r : Some (leaving (joined_exit b x z)) ≡ Some u = e in cc) in subst (IsOfKind (exit k)) q tt

raised_kind : (b : Limits) (y : Place) (o : Option Known) (v u : Known) → ((w : Known) → o ≡ Some w → IsOfKind y w) → IsOfKind y v → joined_at_place b o v ≡ Some u → IsOfKind y u
raised_kind b y None v u old h e = let q : v ≡ u = (let r : Some v ≡ Some u = e in cc) in subst (IsOfKind y) q h
raised_kind b y (Some w) v u old h e = joined_kind b y w v u (old w refl) h e

pub derived_kinds : (b : Limits) (image : ImageData) (plan : PlanData) (a : Assignment) → Derived b image plan a → (y : Place) (v : Known) → a y ≡ Some v → IsOfKind y v
derived_kinds b image plan _ (begins a is) y v at =
    elim (from_if (is_same_place y (start_place image plan)) (state (start_state plan)) None (a y) v (is y) at) [
      | inl h ↦ subst (λ (z : Place). IsOfKind z v) (sym (place_tells y (start_place image plan) h.0)) (subst (IsOfKind (start_place image plan)) h.1 tt)
      | inr h ↦ (let q : None ≡ Some v = h.1 in cc)
    ]
derived_kinds b image plan _ (joins a after z d j) y v at =
    elim (from_if (is_same_place y z) j.known (a y) (after y) v (j.is y) at) [
      | inl h ↦
          (let k = j.asks in
          let new = raised_kind b z (a z) j.value j.known (derived_kinds b image plan a d z) (asked_kind a k.key k.before k.duty z j.value k.asks) j.raises in
          subst (λ (x : Place). IsOfKind x v) (sym (place_tells y z h.0)) (subst (IsOfKind z) h.1 new))
      | inr h ↦ derived_kinds b image plan a d y v h.1
    ]

-- what can't be joined are states of a point with different numbers of locals
pub record Unjoined (b : Limits) (y : Place) (w v : Known) : Type 0 where
  pub key : Key
  pub addr : ℕ
  pub left : State
  pub right : State
  pub place : y ≡ point key addr
  pub is_left : w ≡ state left
  pub is_right : v ≡ state right
  pub none : state_join_if_any b left right ≡ None

pub unjoined : (b : Limits) (y : Place) (w v : Known) → IsOfKind y w → IsOfKind y v → joined_known b w v ≡ None → Unjoined b y w v
unjoined b (point k p) (state s) (state t) h g e = record { key = k; addr = p; left = s; right = t; place = refl; is_left = refl; is_right = refl; none = at (state_join_if_any b s t) e } where
  at : (o : Option State) → option_map state o ≡ None → o ≡ None
  at None f = refl
  at (Some j) f = absurd (let q : Some (state j) ≡ None = f in cc)
unjoined b (point k p) (state s) (leaving x) h g e = absurd g
unjoined b (point k p) (leaving x) v h g e = absurd h
unjoined b (exit k) (state s) v h g e = absurd h
unjoined b (exit k) (leaving x) (state s) h g e = absurd g
unjoined b (exit k) (leaving x) (leaving z) h g e = absurd (let q : Some (leaving (joined_exit b x z)) ≡ None = e in cc)

-- so it is a fault of K8
pub unjoined_fault : (b : Limits) (image : ImageData) (plan : PlanData) (a : Assignment) → Derived b image plan a → (y : Place) (v w : Known) → AsksFor b image plan a y v → a y ≡ Some w → joined_known b w v ≡ None
    → (k : Key) × (p : ℕ) × (y ≡ point k p) × IsFaultInAssignment b image plan a 8 k p
unjoined_fault b image plan a d y v w k at none =
    let u = unjoined b y w v (derived_kinds b image plan a d y w at) (asked_kind a k.key k.before k.duty y v k.asks) none in (
      u.key,
      u.addr,
      u.place,
      locals u.key u.addr u.left u.right
          (sym (ap a u.place) ∙ at ∙ ap (λ (z : Known). Some z) u.is_left)
          (subst (λ (z : Place). AsksFor b image plan a z (state u.right)) u.place (subst (AsksFor b image plan a y) u.is_right k))
          u.none,
    )
