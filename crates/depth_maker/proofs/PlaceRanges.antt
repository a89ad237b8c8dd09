-- The places of a derived assignment may be in a certificate: keys are keys, addresses are words,
-- and only called functions and handlers of system calls have exits.
use Rattle.std.proofs.Common.{◌≡◌, ℕ, ◌^◌, ◌<◌, ◌⊎◌, inl, inr, refl, sym, subst, arith, Some, None, Contains}
use Rattle.elf_image.specs.Images.{ImageData}
use Rattle.tcd_plan.specs.PlanData.{PlanData}
use Rattle.tc_isa.specs.declared.shapes.Shape.{Shape}
use Rattle.tc_isa.specs.InBounds.{IsShapeInBounds}
use Rattle.value_domain.specs.declared.states.State.{State}
use Rattle.value_domain.specs.Limits.{Limits}
use Rattle.depth_cert.specs.declared.keys.Key.{Key}
use Rattle.depth_cert.specs.Keys.{IsKey}
use Rattle.cfg_recover.specs.Entries.{start_state}
use Rattle.cfg_recover.specs.LocalRules.{LocalRuleHolds}
use Rattle.cfg_recover.specs.Duties.{Duty, jump, enter, resume, leave, Owed, duties_of}
use Rattle.cfg_recover.specs.Assignments.{Place, point, exit, Assignment, is_same_place, asked_by_duty, AsksFor, Derived, begins, joins, start_place}
use Rattle.depth_cert.specs.Known.{Known, state, leaving}
use Rattle.depth_cert.specs.WellFormed.{IsWellFormedState}
use Rattle.cfg_recover.proofs.DutyView.{DutyAt, next, straight, taken, target, called_back, system_back, returns, resumes, duty_at}
use Rattle.cfg_recover.proofs.CodeLaws.{IsCode-bounded}
use Rattle.depth_maker.specs.DutiesMonotone.{AreMakerInputs}
use Rattle.depth_maker.specs.WellFormedAssignments.{AllWellFormed}
use Rattle.depth_maker.proofs.PlaceLaws.{place_tells, from_if, resumed_some}
use Rattle.depth_maker.proofs.OwnGrowth.{setting_of}
use Rattle.depth_maker.proofs.KeyDuties.{HasKey, duties_keys, target_small}
use Rattle.depth_maker.proofs.Lawful.{lawful}
use Rattle.depth_maker.proofs.TableLaws.{derived_well_formed}
use Rattle.tc_machine.proofs.Saves.{moved-lt}

-- a frame that may have an exit
abbrev pub MayLeave : Key → Type 0
MayLeave k = (k.kind ≡ 1) ⊎ (k.kind ≡ 3)

-- a place that may be in a certificate
abbrev pub IsInRange : Place → Type 0
IsInRange (point k p) = IsKey k × (p < 2 ^ 32)
IsInRange (exit k) = IsKey k × MayLeave k

-- if a duty asks for a place of the frame itself, the place is in range
abbrev StaysInRange : Key → Duty → Type 0
StaysInRange key (jump q t) = q < 2 ^ 32
StaysInRange key (enter k t) = Unit {0}
StaysInRange key (resume k q) = q < 2 ^ 32
StaysInRange key (leave x) = MayLeave key

module _ (b : Limits) (image : ImageData) (plan : PlanData) (key : Key) (p : ℕ) (s : State) (ground : AreMakerInputs b image plan) (well_formed : IsWellFormedState b s) (is_key : IsKey key) where
  -- only a called function returns; of the handlers, only that of system calls returns to its
  -- caller
  stays_by : (shape : Shape) (n : ℕ) (d : Owed) → IsShapeInBounds shape → LocalRuleHolds b plan key p s shape 6 → DutyAt b image plan key p s n shape d → StaysInRange key d.duty
  stays_by _ n _ is own (next shape e) = moved-lt p n
  stays_by _ n _ is own (straight test x y by lowers t e) = moved-lt p n
  stays_by _ n _ is own (taken test x y by lowers t e) = moved-lt p by
  stays_by _ n _ is own (target to q c) = target_small b image plan key p s (setting_of b image plan s ground well_formed) is_key to is q c
  stays_by _ n _ is own (called_back to q c) = moved-lt p n
  stays_by _ n _ is own (system_back tin) = moved-lt p n
  stays_by _ n _ is own returns = inl (own.returns refl).0
  stays_by _ n _ is own (resumes e) = inr e
  stays_by _ n _ is own _ = tt

  duties_stay : (shape : Shape) (n : ℕ) → IsShapeInBounds shape → LocalRuleHolds b plan key p s shape 6 → (d : Owed) → Contains (duties_of b image plan key p s shape n) d → StaysInRange key d.duty
  duties_stay shape n is own d c = stays_by shape n d is own (duty_at b image plan key p s n shape d c)

-- a place that a duty asks for is in range, if the frame's own are and the entered frame has a key
asked_in_range : (a : Assignment) (key : Key) (s : State) (d : Duty) (y : Place) (v : Known) → IsKey key → HasKey d → StaysInRange key d → asked_by_duty a key s d ≡ Some (y, v) → IsInRange y
asked_in_range a key s (jump q t) y v is has stays e = let f : (point key q, state t) ≡ (y, v) = cc in subst (λ (w : Place × Known). IsInRange w.0) f (is, stays)
asked_in_range a key s (enter k t) y v is has stays e = let f : (point k k.entry, state t) ≡ (y, v) = cc in subst (λ (w : Place × Known). IsInRange w.0) f (has, has.entry)
asked_in_range a key s (resume k q) y v is has stays e = subst IsInRange (resumed_some key s k q (a (exit k)) y v e).2 (is, stays)
asked_in_range a key s (leave x) y v is has stays e = let f : (exit key, leaving x) ≡ (y, v) = cc in subst (λ (w : Place × Known). IsInRange w.0) f (is, stays)

module _ (b : Limits) (image : ImageData) (plan : PlanData) (ground : AreMakerInputs b image plan) where
  asks_in_range : (a : Assignment) → AllWellFormed b a → ((x : Place) (v : Known) → a x ≡ Some v → IsInRange x) → (y : Place) (v : Known) → AsksFor b image plan a y v → IsInRange y
  asks_in_range a well_formed old y v k =
      let h = k.has in
      let s = well_formed (point k.key k.addr) (state k.before) h.at in
      let is = (old (point k.key k.addr) (state k.before) h.at).0 in
      let shape = IsCode-bounded image plan k.addr h.shape h.size h.code in
      let keys = duties_keys b image plan k.key k.addr k.before (setting_of b image plan k.before ground s) is h.shape h.size shape h.owed h.listed in
      let stay = duties_stay b image plan k.key k.addr k.before ground s is h.shape h.size shape ((h.faultless 6).own h.shape h.size h.code) h.owed h.listed in
      asked_in_range a k.key k.before k.duty y v is (subst HasKey h.is keys) (subst (StaysInRange k.key) h.is stay) k.asks

  start_in_range : IsInRange (start_place image plan)
  start_in_range = (record { kind = omega arith; entry = (ground.is_image).entry; prio = omega arith }, (ground.is_image).entry)

  -- each place of a derived assignment is in range
  pub derived_in_range : (a : Assignment) → Derived b image plan a → (y : Place) (v : Known) → a y ≡ Some v → IsInRange y
  derived_in_range _ (begins a is) y v at =
      elim (from_if (is_same_place y (start_place image plan)) (state (start_state plan)) None (a y) v (is y) at) [
        | inl h ↦ subst IsInRange (sym (place_tells y (start_place image plan) h.0)) start_in_range
        | inr h ↦ (let q : None ≡ Some v = h.1 in cc)
      ]
  derived_in_range _ (joins a after z d j) y v at =
      elim (from_if (is_same_place y z) j.known (a y) (after y) v (j.is y) at) [
        | inl h ↦ subst IsInRange (sym (place_tells y z h.0)) (asks_in_range a (derived_well_formed b image plan (lawful b image plan ground) a d) (derived_in_range a d) z j.value j.asks)
        | inr h ↦ derived_in_range a d y v h.1
      ]
