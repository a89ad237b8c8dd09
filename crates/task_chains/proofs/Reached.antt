-- States that a view's run reaches, and what the certificate says of them.
use Rattle.std.proofs.Common.{◌≡◌, ℕ, false, List, [], ◌∷◌, ◌++◌, length, Option, Some, None, refl, sym, ap, ◌∙◌, subst, All, ◌==◌}
use Rattle.std.proofs.lemmas.Bool.{eqb-true}
use Rattle.std.proofs.lemmas.List.Elements.{All-contains}
use Rattle.std.specs.Prelude.{IsSomeAnd}
use Rattle.elf_image.specs.Images.{ImageData}
use Rattle.tcd_plan.specs.PlanData.{PlanData, IsPlan}
use Rattle.tc_isa.specs.declared.shapes.Shape.{Shape}
use Rattle.tc_isa.specs.declared.shapes.Shape.TheVariants.{Load, Store}
use Rattle.tc_machine.specs.declared.events.Event.{Event}
use Rattle.tc_machine.specs.declared.state.Machine.{Machine}
use Rattle.tc_machine.specs.Machine.{reg, IsMachine}
use Rattle.tc_machine.specs.Instructions.{access_address, is_trapping_access}
use Rattle.tc_machine.specs.Stepping.{step, run}
use Rattle.tc_machine.specs.Safe.{Fits, AllFit, IsSafeAt, Safe}
use Rattle.tc_machine.specs.Starting.{Starts}
use Rattle.tcd_plan.specs.MappedAddresses.{IsStoreInRange}
use Rattle.tc_machine.proofs.Stays.{stays_run}
use Rattle.value_domain.specs.declared.states.State.{State}
use Rattle.value_domain.specs.Limits.{Limits}
use Rattle.value_domain.specs.State.{AreInLattice}
use Rattle.value_domain.specs.Values.{IsMember}
use Rattle.vd_transfer.specs.EffectsOnStates.{address_of_access}
use Rattle.vd_transfer.specs.Soundness.{MeetSoundnessPremises}
use Rattle.vd_transfer.proofs.HoldLaws.{address_holds}
use Rattle.depth_cert.specs.declared.keys.Key.{Key}
use Rattle.depth_cert.specs.declared.points.Point.{Point}
use Rattle.depth_cert.specs.Keys.{number_of_key, IsKey}
use Rattle.depth_cert.specs.Points.{find_point, IsPoint}
use Rattle.depth_cert.specs.Nodes.{NodeData, IsNode, find_node}
use Rattle.depth_cert.specs.Certs.{CertData, IsCert}
use Rattle.cfg_recover.specs.Code.{IsCode, HasCode}
use Rattle.cfg_recover.specs.Entries.{start_key}
use Rattle.cfg_recover.specs.LocalRules.{LocalRuleHolds}
use Rattle.cfg_recover.specs.LocalFaults.{IsFaultless}
use Rattle.cfg_recover.specs.RulesHoldOrFail.{limits_of_cert, RuleHolds, RulesHoldAtNode, Accepts}
use Rattle.cfg_recover.specs.MovesAreOwed.{IsInState}
use Rattle.cfg_recover.specs.Frames.{RunFrame, frames_after_step, frames_from, frames, AreAllFramesHeld}
use Rattle.cfg_recover.specs.EdgeAndFrameLaws.{FramesHeld}
use Rattle.depth_cert.proofs.KeyLaws.{found_in}
use Rattle.cfg_recover.proofs.CodeLaws.{IsCode-bounded}
use Rattle.cfg_recover.proofs.PointLaws.{limits_are}
use Rattle.cfg_recover.proofs.Went.{address-is}
use Rattle.task_chains.specs.Tasks.{TasksData}
use Rattle.task_chains.specs.Rule17.{KeepsRule17ByShape, KeepsRule17AtCertPoint, KeepsRule17}

-- ---- runs, one event longer
run-snoc : (m : Machine) (es : List Event) (e : Event) → run m (es ++ e ∷ []) ≡ step (run m es) e
run-snoc m [] e = refl
run-snoc m (d ∷ es) e = run-snoc (step m d) es e

AllFit-snoc : (plan : PlanData) (m : Machine) (es : List Event) (e : Event) → AllFit plan m es → Fits plan (run m es) e → AllFit plan m (es ++ e ∷ [])
AllFit-snoc plan m [] e all fit = (fit, tt)
AllFit-snoc plan m (d ∷ es) e all fit = (all.0, AllFit-snoc plan (step m d) es e all.1 fit)

frames-snoc : (m : Machine) (es : List Event) (e : Event) (fs : List RunFrame) → frames_from m (es ++ e ∷ []) fs ≡ frames_after_step (run m es) e (frames_from m es fs)
frames-snoc m [] e fs = refl
frames-snoc m (d ∷ es) e fs = frames-snoc (step m d) es e (frames_after_step m d fs)

-- a run reaches this state, in these frames
pub record Reached (image : ImageData) (plan : PlanData) (v : Machine) (fs : List RunFrame) : Type 0 where
  pub from : Machine
  pub events : List Event
  pub starts : Starts image plan from
  pub fit : AllFit plan from events
  pub is : v ≡ run from events
  pub frames_are : fs ≡ frames image plan from events

pub Reached-start : (image : ImageData) (plan : PlanData) (v : Machine) → Starts image plan v → Reached image plan v (record { key = start_key image plan; at = v.pc } ∷ [])
Reached-start image plan v starts = record { from = v; events = []; starts = starts; fit = tt; is = refl; frames_are = refl }

pub Reached-step : (image : ImageData) (plan : PlanData) (v : Machine) (fs : List RunFrame) (e : Event) → Reached image plan v fs → Fits plan v e → Reached image plan (step v e) (frames_after_step v e fs)
Reached-step image plan v fs e r fits = record {
  from = r.from;
  events = r.events ++ e ∷ [];
  starts = r.starts;
  fit = AllFit-snoc plan r.from r.events e r.fit (subst (λ (x : Machine). Fits plan x e) r.is fits);
  is = ap (λ (x : Machine). step x e) r.is ∙ sym (run-snoc r.from r.events e);
  frames_are = (λ i. frames_after_step (r.is i) e (r.frames_are i)) ∙ sym (frames-snoc r.from r.events e (record { key = start_key image plan; at = (r.from).pc } ∷ []));
}

-- ---- what is at a point
-- the address of a load is one of its value's
abbrev pub LoadsAt : Limits → PlanData → State → Machine → Shape → Type 0
LoadsAt b plan s m (Load dst base offset size signed after) = IsMember (access_address m base offset after) (address_of_access b plan (Load dst base offset size signed after) s)
LoadsAt b plan s m _ = Unit {0}

-- a store that doesn't trap is in range
abbrev pub StoresAt : PlanData → Machine → Event → Shape → Type 0
StoresAt plan m e (Store src base offset size after) = is_trapping_access e (access_address m base offset after) size ≡ false → IsStoreInRange plan (access_address m base offset after, size)
StoresAt plan m e _ = Unit {0}

-- The point of a state that is reached: the instruction, and what the rules ask of it.
pub record PointOf (plan : PlanData) (image : ImageData) (cert : CertData) (tasks : TasksData) (v : Machine) (key : Key) : Type 0 where
  pub node : NodeData
  pub found : find_node key cert.nodes ≡ Some node
  pub state : State
  pub shape : Shape
  pub size : ℕ
  pub code : IsCode image plan v.pc shape size
  pub own : (r : ℕ) → LocalRuleHolds (limits_of_cert plan cert) plan node.key v.pc state shape r
  pub apart : KeepsRule17ByShape (limits_of_cert plan cert) plan tasks node.key v.pc state shape
  pub inside : IsInState plan v state
  pub load_at : LoadsAt (limits_of_cert plan cert) plan state v shape
  pub same_key : number_of_key node.key ≡ number_of_key key
  pub is_key : IsKey node.key

module _ (image : ImageData) (plan : PlanData) (ok : IsPlan plan) (cert : CertData) (is_cert : IsCert cert) (accepted : Accepts image plan cert) (tasks : TasksData) (apart : KeepsRule17 image plan tasks cert) where
  load_at : (v : Machine) (s : State) (shape : Shape) (size : ℕ) → IsCode image plan v.pc shape size → length s.regs ≡ 27 → AreInLattice (limits_of_cert plan cert) s.regs → IsInState plan v s → LoadsAt (limits_of_cert plan cert) plan s v shape
  load_at v s (Load dst base offset size signed after) n code regs values inside =
      let bounded = IsCode-bounded image plan v.pc (Load dst base offset size signed after) n code in
      let setting : MeetSoundnessPremises (limits_of_cert plan cert) plan s = record { limits = limits_are plan cert.version; plan = ok; regs = regs; values = values } in
      rw (address-is v base offset after) (address_holds.load (limits_of_cert plan cert) plan dst base offset size signed after s (reg v) v.ie v.ccpn setting bounded.1 bounded.2 inside)
  load_at v s _ n code regs values inside = tt

  by_point : (v : Machine) (key : Key) (node : NodeData) (point : Point) → find_node key cert.nodes ≡ Some node → find_point v.pc node.points ≡ Some point → IsInState plan v point.state → PointOf plan image cert tasks v key
  by_point v key node point found at inside =
      let there = found_in (λ n. number_of_key n.key == number_of_key key) cert.nodes node found in
      let holds = All-contains (RulesHoldAtNode image plan cert) cert.nodes node accepted.nodes there.0 in
      let here = found_in (λ p. p.addr == v.pc) node.points point at in
      let addr : point.addr ≡ v.pc = eqb-true _ _ here.1 in
      let all : (r : ℕ) → RuleHolds image plan cert node point r = All-contains (λ p. (r : ℕ) → RuleHolds image plan cert node p r) node.points point holds.points here.0 in
      let values : AreInLattice (limits_of_cert plan cert) (point.state).regs = (all 2).values refl in
      let faultless : IsFaultless (limits_of_cert plan cert) image plan node.key point.addr point.state = λ r. (all r).own values in
      let has : HasCode image plan point.addr = (faultless 3).code refl in
      let is_node = All-contains (IsNode cert.version) cert.nodes node is_cert.nodes there.0 in
      let keeps : KeepsRule17AtCertPoint image plan tasks cert node point = All-contains (KeepsRule17AtCertPoint image plan tasks cert node) node.points point (All-contains (λ n. All (KeepsRule17AtCertPoint image plan tasks cert n) n.points) cert.nodes node apart there.0) here.0 in
      let code : IsCode image plan v.pc has.shape has.size = subst (λ x. IsCode image plan x has.shape has.size) addr has.code in
      record {
        node = node;
        found = found;
        state = point.state;
        shape = has.shape;
        size = has.size;
        code = code;
        own = λ r. subst (λ x. LocalRuleHolds (limits_of_cert plan cert) plan node.key x point.state has.shape r) addr ((faultless r).own has.shape has.size has.code);
        apart = subst (λ x. KeepsRule17ByShape (limits_of_cert plan cert) plan tasks node.key x point.state has.shape) addr (keeps has.shape has.size has.code);
        inside = inside;
        load_at = load_at v point.state has.shape has.size code ((All-contains (IsPoint cert.version) node.points point is_node.points here.0).state).regs values inside;
        same_key = eqb-true _ _ there.1;
        is_key = is_node.key;
      }

  some_and : {A : Type 0} (o : Option A) (P : A → Type 0) → IsSomeAnd o P → (x : A) × (o ≡ Some x) × P x
  some_and None P h = absurd h
  some_and (Some x) P h = (x, refl, h)

  -- a state that is reached has a point
  pub point_of : (v : Machine) (f : RunFrame) (fs : List RunFrame) → FramesHeld image plan cert → Reached image plan v (f ∷ fs) → PointOf plan image cert tasks v f.key
  point_of v f fs held r =
      let h0 = held r.from r.events r.starts r.fit in
      let h : AreAllFramesHeld plan cert v (f ∷ fs) = subst (λ (x : Machine). AreAllFramesHeld plan cert x (f ∷ fs)) (sym r.is) (subst (AreAllFramesHeld plan cert (run r.from r.events)) (sym r.frames_are) h0) in
      let node = some_and (find_node f.key cert.nodes) (λ n. IsSomeAnd (find_point f.at n.points) (λ p. IsInState plan v p.state)) h.point in
      let point = some_and (find_point f.at (node.0).points) (λ p. IsInState plan v p.state) node.2 in
      by_point v f.key node.0 point.0 node.1 (ap (λ x. find_point x (node.0).points) (sym h.at) ∙ point.1) point.2

  -- the newest frame is where the machine is
  pub frame_at : (v : Machine) (f : RunFrame) (fs : List RunFrame) → FramesHeld image plan cert → Reached image plan v (f ∷ fs) → f.at ≡ v.pc
  frame_at v f fs held r =
      let h0 = held r.from r.events r.starts r.fit in
      (subst (λ (x : Machine). AreAllFramesHeld plan cert x (f ∷ fs)) (sym r.is) (subst (AreAllFramesHeld plan cert (run r.from r.events)) (sym r.frames_are) h0)).at

  -- there is one
  pub some_frame : (v : Machine) (fs : List RunFrame) → FramesHeld image plan cert → Reached image plan v fs → (f : RunFrame) × (gs : List RunFrame) × (fs ≡ f ∷ gs)
  some_frame v [] held r =
      let h0 = held r.from r.events r.starts r.fit in
      absurd (subst (λ (x : Machine). AreAllFramesHeld plan cert x []) (sym r.is) (subst (AreAllFramesHeld plan cert (run r.from r.events)) (sym r.frames_are) h0))
  some_frame v (f ∷ fs) held r = (f, fs, refl)

  pub safe_at : (most : ℕ) (v : Machine) (fs : List RunFrame) (e : Event) → Safe image plan most → Reached image plan v fs → Fits plan v e → IsSafeAt image plan most v e
  safe_at most v fs e safe r fits = subst (λ (x : Machine). IsSafeAt image plan most x e) (sym r.is) (safe r.from r.events e r.starts r.fit (subst (λ (x : Machine). Fits plan x e) r.is fits))

  pub words_of : (v : Machine) (fs : List RunFrame) → Reached image plan v fs → IsMachine v
  words_of v fs r = subst IsMachine (sym r.is) (stays_run ok r.from r.events (r.starts).machine r.fit)
