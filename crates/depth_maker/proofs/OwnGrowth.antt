-- The faults of a point of its own get fewer with a smaller state.
use Rattle.std.proofs.Common.{◌≡◌, ℕ, zero, suc, ◌*◌, ◌/◌, ◌<◌, ◌⊎◌, inl, inr, Bool, true, false, List, [], ◌∷◌, length, map, get_or, refl, sym, ◌∙◌, subst, arith, IsSome, Contains}
use Rattle.std.specs.Prelude.{unwrap_or}
use Rattle.elf_image.specs.Images.{ImageData}
use Rattle.tcd_plan.specs.PlanData.{PlanData}
use Rattle.tc_isa.specs.declared.shapes.Target.{Target}
use Rattle.tc_isa.specs.declared.shapes.Target.TheVariants as target
use Rattle.tc_isa.specs.declared.shapes.Shape.{Shape}
use Rattle.tc_isa.specs.declared.shapes.Shape.TheVariants.{Load, Store, Jump, Call, Ret, Rfe, Svlcx, Rslcx, Bisr}
use Rattle.tc_isa.specs.InBounds.{IsShapeInBounds}
use Rattle.value_domain.specs.declared.values.Val.{Val}
use Rattle.value_domain.specs.declared.values.Val.TheVariants.{Set, Span}
use Rattle.value_domain.specs.declared.states.State.{State}
use Rattle.value_domain.specs.Limits.{Limits}
use Rattle.value_domain.specs.Sets.{Among, AreAmong, sorted_set_of}
use Rattle.value_domain.specs.Values.{IsInLattice, IsBelow}
use Rattle.value_domain.specs.State.{Covers}
use Rattle.value_domain.proofs.SetLaws.{among_distinct, distinct_has}
use Rattle.vd_transfer.specs.EffectsOnStates.{address_of_access, LocalsFitInstruction}
use Rattle.vd_transfer.specs.Registers.{reg_of}
use Rattle.vd_transfer.specs.Soundness.{MeetSoundnessPremises}
use Rattle.vd_transfer.proofs.HoldLaws.{reg_value}
use Rattle.vd_transfer.proofs.OpLaws.{span_not_below}
use Rattle.store_ranges.proofs.Covers.{map_has, among_map}
use Rattle.depth_cert.specs.declared.keys.Key.{Key}
use Rattle.cfg_recover.specs.LocalRules.{targets_of_value, targets_of, HasKnownTargets, IsReturnAllowed, IsExceptionReturnAllowed, StoresInRange, IsAccessAllowed, LocalRuleHolds}
use Rattle.store_ranges.specs.Accesses.{are_aligned}
use Rattle.cfg_recover.proofs.CodeLaws.{IsCode-bounded}
use Rattle.cfg_recover.proofs.Members.{contains_among}
use Rattle.cfg_recover.proofs.LocalLaws.{are_aligned-is}
use Rattle.depth_maker.specs.DutiesMonotone.{AreMakerInputs, FaultsAreMonotone}
use Rattle.depth_cert.specs.WellFormed.{IsWellFormedState}
use Rattle.depth_maker.proofs.StateGrowth.{same_locals, reg_grows}
use Rattle.depth_maker.proofs.EffectGrowth.{address_grows, address_value}

-- ---- targets
pub among_contained : (xs : List ℕ) (x : ℕ) → Contains xs x → Among x xs
among_contained xs x c = at xs c.0 c.1 c.2 where
  at : (xs : List ℕ) (k : ℕ) → k < length xs → get_or xs k x ≡ x → Among x xs
  at [] k lt e = absurd (omega arith)
  at (y ∷ ys) zero lt e = inl (sym e)
  at (y ∷ ys) (suc k) lt e = inr (at ys k (omega arith) e)

evens_within : (vs ws : List ℕ) → AreAmong vs ws → AreAmong (sorted_set_of (map (λ w. w / 2 * 2) vs)) (sorted_set_of (map (λ w. w / 2 * 2) ws))
evens_within vs ws there z i =
    let m = among_map (λ w. w / 2 * 2) z vs (among_distinct z (map (λ w. w / 2 * 2) vs) i) in
    distinct_has z (map (λ w. w / 2 * 2) ws) (subst (λ (n : ℕ). Among n (map (λ w. w / 2 * 2) ws)) (sym m.2) (map_has (λ w. w / 2 * 2) m.0 ws (there m.0 m.1)))

-- a smaller value names fewer addresses, if the larger one names any
named_falls : (b : Limits) (v w : Val) → IsInLattice b v → IsInLattice b w → IsBelow v w → IsSome (targets_of_value w) → IsSome (targets_of_value v)
named_falls b (Set vs) w vv vw below h = refl
named_falls b (Span lo last step) (Set ws) vv vw below h = absurd (span_not_below b lo last step ws vv vw below)
named_falls b (Span lo last step) (Span lo2 last2 step2) vv vw below h = h

named_within : (b : Limits) (v w : Val) → IsInLattice b v → IsInLattice b w → IsBelow v w → IsSome (targets_of_value w) → AreAmong (unwrap_or (targets_of_value v) []) (unwrap_or (targets_of_value w) [])
named_within b (Set vs) (Set ws) vv vw below h = evens_within vs ws below
named_within b (Set vs) (Span lo last step) vv vw below h = absurd (let f : false ≡ true = h in cc)
named_within b (Span lo last step) w vv vw below h = λ z i. absurd i

module _ (b : Limits) (plan : PlanData) (s t : State) (low : MeetSoundnessPremises b plan s) (high : MeetSoundnessPremises b plan t) (c : Covers t s) where
  pub targets_fall : (p : ℕ) (to : Target) → IsSome (targets_of plan t p to) → IsSome (targets_of plan s p to)
  targets_fall p (target.Rel by) h = refl
  targets_fall p (target.Abs x) h = refl
  targets_fall p (target.Reg r) h = named_falls b (reg_of plan s r) (reg_of plan t r) (reg_value b plan s r low) (reg_value b plan t r high) (reg_grows plan s t low.regs high.regs c.regs r) h

  -- each target of the smaller state is one of the larger
  pub targets_within : (p : ℕ) (to : Target) → IsSome (targets_of plan t p to) → (x : ℕ) → Contains (unwrap_or (targets_of plan s p to) []) x → Contains (unwrap_or (targets_of plan t p to) []) x
  targets_within p (target.Rel by) h x i = i
  targets_within p (target.Abs y) h x i = i
  targets_within p (target.Reg r) h x i =
      contains_among _ x
      (named_within b (reg_of plan s r) (reg_of plan t r) (reg_value b plan s r low) (reg_value b plan t r high) (reg_grows plan s t low.regs high.regs c.regs r) h x (among_contained _ x i))

  -- ---- accesses
  pub aligned_falls : (v w : Val) (size : ℕ) → IsInLattice b v → IsInLattice b w → IsBelow v w → are_aligned w size ≡ true → are_aligned v size ≡ true
  aligned_falls v w size vv vw below e = (are_aligned-is v size vv.well).0 (λ x m. (are_aligned-is w size vw.well).1 e x (below x m))

  may_access : (v w : Val) (size : ℕ) (stated : Bool) → IsInLattice b v → IsInLattice b w → IsBelow v w → (are_aligned w size ≡ true) ⊎ (stated ≡ true) → (are_aligned v size ≡ true) ⊎ (stated ≡ true)
  may_access v w size stated vv vw below h = elim h [ inl e ↦ inl (aligned_falls v w size vv vw below e) | inr e ↦ inr e ]

  -- ---- the rules
  targets_known : (p : ℕ) (shape : Shape) → HasKnownTargets plan t p shape → HasKnownTargets plan s p shape
  targets_known p (Jump to) h = targets_fall p to h
  targets_known p (Call to) h = targets_fall p to h
  targets_known p _ h = h

  returns : (key : Key) (shape : Shape) → IsReturnAllowed key t shape → IsReturnAllowed key s shape
  returns key Ret h = (h.0, sym (same_locals t s c) ∙ h.1)
  returns key _ h = h

  returns_from_exception : (key : Key) (shape : Shape) → IsExceptionReturnAllowed key t shape → IsExceptionReturnAllowed key s shape
  returns_from_exception key Rfe h = (sym (same_locals t s c) ∙ h.0, elim h.1 [ inl e ↦ inl (e.0, c.context.2 e.1) | inr e ↦ inr e ])
  returns_from_exception key _ h = h

  has_room : (shape : Shape) → LocalsFitInstruction b shape t → LocalsFitInstruction b shape s
  has_room Svlcx h = omega (arith, same_locals t s c, h)
  has_room Rslcx h = omega (arith, same_locals t s c, h)
  has_room (Bisr mask) h = omega (arith, same_locals t s c, h)
  has_room _ h = h

  stores : (shape : Shape) → IsShapeInBounds shape → StoresInRange b plan t shape → StoresInRange b plan s shape
  stores (Store src base offset size after) is h = λ x m. h x (address_grows b plan s t low high c (Store src base offset size after) is x m)
  stores _ is h = h

  accesses : (shape : Shape) → IsShapeInBounds shape → IsAccessAllowed b plan t shape → IsAccessAllowed b plan s shape
  accesses (Load dst base offset size signed after) is h = may_access (address_of_access b plan (Load dst base offset size signed after) s) (address_of_access b plan (Load dst base offset size signed after) t) size plan.aln (address_value b plan (Load dst base offset size signed after) s low is) (address_value b plan (Load dst base offset size signed after) t high is) (address_grows b plan s t low high c (Load dst base offset size signed after) is) h
  accesses (Store src base offset size after) is h = may_access (address_of_access b plan (Store src base offset size after) s) (address_of_access b plan (Store src base offset size after) t) size plan.aln (address_value b plan (Store src base offset size after) s low is) (address_value b plan (Store src base offset size after) t high is) (address_grows b plan s t low high c (Store src base offset size after) is) h
  accesses _ is h = h

  pub own_falls : (key : Key) (p : ℕ) (shape : Shape) (r : ℕ) → IsShapeInBounds shape → LocalRuleHolds b plan key p t shape r → LocalRuleHolds b plan key p s shape r
  own_falls key p shape r is h = record {
    targets = λ e. targets_known p shape (h.targets e);
    returns = λ e. returns key shape (h.returns e);
    exceptions = λ e. returns_from_exception key shape (h.exceptions e);
    room = λ e. has_room shape (h.room e);
    stores = λ e. stores shape is (h.stores e);
    accesses = λ e. accesses shape is (h.accesses e);
    system = h.system;
    writes = h.writes;
  }

pub setting_of : (b : Limits) (image : ImageData) (plan : PlanData) (s : State) → AreMakerInputs b image plan → IsWellFormedState b s → MeetSoundnessPremises b plan s
setting_of b image plan s ground well_formed = record { limits = ground.limits; plan = ground.is_plan; regs = well_formed.regs; values = well_formed.values }

pub faults_fall : FaultsAreMonotone
faults_fall b image plan key p s t ground ps pt c h r = record {
  code = (h r).code;
  own = λ shape n code.
      own_falls b plan s t (setting_of b image plan s ground ps) (setting_of b image plan t ground pt) c key p shape r (IsCode-bounded image plan p shape n code) ((h r).own shape n code);
}
