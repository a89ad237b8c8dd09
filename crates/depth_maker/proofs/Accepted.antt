-- An accepted certificate is a closed assignment without faults, within the limits, whose needs are
-- met.
use Rattle.std.proofs.Common.{◌≡◌, ℕ, suc, ◌+◌, ◌-◌, ◌^◌, ◌<◌, ◌≤◌, ◌⊎◌, inl, inr, true, false, cond, List, [], ◌∷◌, length, refl, sym, ap, ◌∙◌, subst, arith, Option, Some, None, Contains, All, eqb}
use Rattle.std.specs.Prelude.{find, option_map, option_and_then, IsSomeAnd, IfSome}
use Rattle.std.proofs.lemmas.Bool.{cases_Bool, eqb-true, eq-eqb}
use Rattle.elf_image.specs.Images.{ImageData}
use Rattle.tcd_plan.specs.PlanData.{PlanData}
use Rattle.tc_isa.specs.declared.shapes.Shape.{Shape}
use Rattle.value_domain.specs.declared.states.State.{State}
use Rattle.value_domain.specs.State.{Covers, AreInLattice}
use Rattle.depth_cert.specs.declared.keys.Key.{Key}
use Rattle.depth_cert.specs.declared.points.Exit.{Exit}
use Rattle.depth_cert.specs.declared.points.Point.{Point}
use Rattle.depth_cert.specs.Keys.{number_of_key, IsKey, is_same_key}
use Rattle.depth_cert.specs.Points.{find_point, IsPoint}
use Rattle.depth_cert.specs.Exits.{IsExit, state_after_return, ExitCovers}
use Rattle.depth_cert.specs.Nodes.{NodeData, IsNode, need_or_zero, find_node}
use Rattle.depth_cert.specs.Certs.{CertData, IsCert}
use Rattle.cfg_recover.specs.Code.{IsCode}
use Rattle.cfg_recover.specs.Entries.{start_key, start_state}
use Rattle.cfg_recover.specs.LocalFaults.{IsFaultless}
use Rattle.cfg_recover.specs.Duties.{Duty, jump, enter, resume, leave, Owed, duties_of}
use Rattle.cfg_recover.specs.RulesHoldOrFail.{IsLocallyFaultless, limits_of_cert, HasCoveringPoint, IsDutyMet, EntryNeedRuleHolds, RuleHolds, RulesHoldAtNode, Accepts}
use Rattle.cfg_recover.specs.Assignments.{Place, point, exit, known_by_node, assignment_of_cert, AssignmentCovers, asked_by_duty, HasDuty, Closed, start_place, ArePointsFaultless}
use Rattle.depth_cert.specs.Known.{Known, state, leaving}
use Rattle.depth_cert.specs.WellFormed.{IsWellFormedState, IsWellFormedKnown}
use Rattle.cfg_recover.specs.CertRefusals.{AreSufficientNeeds}
use Rattle.cfg_recover.proofs.CodeLaws.{IsCode-bounded}
use Rattle.depth_maker.specs.DutiesMonotone.{AreMakerInputs}
use Rattle.depth_maker.specs.WellFormedAssignments.{AllWellFormed}
use Rattle.frame_places.proofs.KeyLaws.{key_tells, key_same}
use Rattle.depth_maker.proofs.PlaceLaws.{resumed_some, one_state}
use Rattle.depth_maker.proofs.KeyDuties.{HasKey, duties_keys}
use Rattle.depth_cert.proofs.KeyLaws.{found_in, one_number}

-- ---- options and lists
and_then_some : {A B : Type 0} (f : A → Option B) (o : Option A) (r : B) → option_and_then f o ≡ Some r → (x : A) × (o ≡ Some x) × (f x ≡ Some r)
and_then_some f None r e = absurd (let g : None ≡ Some r = e in cc)
and_then_some f (Some x) r e = (x, refl, e)

map_some : {A B : Type 0} (f : A → B) (o : Option A) (r : B) → option_map f o ≡ Some r → (x : A) × (o ≡ Some x) × (f x ≡ r)
map_some f None r e = absurd (let g : None ≡ Some r = e in cc)
map_some f (Some x) r e = (x, refl, (let g : Some (f x) ≡ Some r = e in cc))

some_and : {A : Type 0} (P : A → Type 0) (o : Option A) → IsSomeAnd o P → (x : A) × (o ≡ Some x) × P x
some_and P None h = absurd h
some_and P (Some x) h = (x, refl, h)

pub All-at : {X : Type 0} (P : X → Type 0) (xs : List X) (x : X) → All P xs → Contains xs x → P x
All-at P xs x all c = subst P c.2 (all c.0 x c.1)

-- ---- keys

same_test : (j k : Key) → IsKey j → IsKey k → is_same_key j k ≡ eqb (number_of_key j) (number_of_key k)
same_test j k hj hk =
    elim (cases_Bool (eqb (number_of_key j) (number_of_key k))) [
      | inl e ↦ let same = one_number j k hj hk (eqb-true _ _ e) in subst (λ (x : Key). is_same_key j x ≡ true) same (key_same j) ∙ sym e
      | inr e ↦ elim (cases_Bool (is_same_key j k)) [
        | inl t ↦ let same = key_tells j k t in absurd (let f : true ≡ false = sym (eq-eqb (number_of_key j) (number_of_key k) (ap (λ (x : Key). number_of_key x) same)) ∙ e in cc)
        | inr t ↦ t ∙ sym e
      ]
    ]

pub find_agrees : (version : ℕ) (k : Key) (ns : List NodeData) → IsKey k → All (IsNode version) ns → find (λ n. is_same_key n.key k) ns ≡ find_node k ns
find_agrees version k [] key all = refl
find_agrees version k (n ∷ ns) key all =
    let here : IsNode version n = all 0 n (omega arith) in
    ap (λ t. cond t (Some n) (find (λ n. is_same_key n.key k) ns)) (same_test n.key k here.key key)
    ∙ ap (λ (o : Option NodeData). cond (eqb (number_of_key n.key) (number_of_key k)) (Some n) o) (find_agrees version k ns key (λ i d lt. all (suc i) d (omega arith)))

-- what holds at a key, an address and a state holds at equal ones
carried : (P : Key → ℕ → State → Type 0) (j k : Key) (x p : ℕ) (t s : State) → j ≡ k → x ≡ p → t ≡ s → P j x t → P k p s
carried P j k x p t s a b c h = subst (λ (z : State). P k p z) c (subst (λ (z : ℕ). P k z t) b (subst (λ (z : Key). P z x t) a h))

-- the node and the point of a known place
pub record AtPoint (cert : CertData) (k : Key) (p : ℕ) (s : State) : Type 0 where
  pub node : NodeData
  pub found : find (λ n. is_same_key n.key k) cert.nodes ≡ Some node
  pub member : Contains cert.nodes node
  pub key : node.key ≡ k
  pub place : Point
  pub at : find_point p node.points ≡ Some place
  pub inside : Contains node.points place
  pub addr : place.addr ≡ p
  pub is : place.state ≡ s

pub at_point : (cert : CertData) (k : Key) (p : ℕ) (v : Known) → assignment_of_cert cert (point k p) ≡ Some v → (s : State) × (v ≡ state s) × AtPoint cert k p s
at_point cert k p v e =
    let a = and_then_some (known_by_node (point k p)) (find (λ n. is_same_key n.key k) cert.nodes) v e in
    let m = map_some (λ (q : Point). state q.state) (find_point p (a.0).points) v a.2 in
    let f = found_in (λ n. is_same_key n.key k) cert.nodes a.0 a.1 in
    let g = found_in (λ q. eqb q.addr p) (a.0).points m.0 m.1 in (
      (m.0).state,
      sym m.2,
      record {
        node = a.0;
        found = a.1;
        member = f.0;
        key = key_tells (a.0).key k f.1;
        place = m.0;
        at = m.1;
        inside = g.0;
        addr = eqb-true _ _ g.1;
        is = refl;
      },
    )

-- the node of a known exit
pub record AtExit (cert : CertData) (k : Key) (x : Exit) : Type 0 where
  pub node : NodeData
  pub found : find (λ n. is_same_key n.key k) cert.nodes ≡ Some node
  pub member : Contains cert.nodes node
  pub key : node.key ≡ k
  pub is : node.exit ≡ Some x

pub at_exit : (cert : CertData) (k : Key) (v : Known) → assignment_of_cert cert (exit k) ≡ Some v → (x : Exit) × (v ≡ leaving x) × AtExit cert k x
at_exit cert k v e =
    let a = and_then_some (known_by_node (exit k)) (find (λ n. is_same_key n.key k) cert.nodes) v e in
    let m = map_some leaving (a.0).exit v a.2 in
    let f = found_in (λ n. is_same_key n.key k) cert.nodes a.0 a.1 in
    (m.0, sym m.2, record { node = a.0; found = a.1; member = f.0; key = key_tells (a.0).key k f.1; is = m.1 })

module _ (image : ImageData) (plan : PlanData) (cert : CertData) (ground : AreMakerInputs (limits_of_cert plan cert) image plan) (entry : image.entry < 2 ^ 32) (is_cert : IsCert cert) (accepted : Accepts image plan cert) where
  node_is : (n : NodeData) → Contains cert.nodes n → IsNode cert.version n
  node_is n c = All-at (IsNode cert.version) cert.nodes n is_cert.nodes c

  holds : (n : NodeData) → Contains cert.nodes n → RulesHoldAtNode image plan cert n
  holds n c = All-at (RulesHoldAtNode image plan cert) cert.nodes n accepted.nodes c

  key_is : (k : Key) (n : NodeData) → Contains cert.nodes n → n.key ≡ k → IsKey k
  key_is k n c e = subst IsKey e (node_is n c).key

  agrees : (k : Key) → IsKey k → find (λ n. is_same_key n.key k) cert.nodes ≡ find_node k cert.nodes
  agrees k key = find_agrees cert.version k cert.nodes key is_cert.nodes

  -- what a node says of its places is known
  known_point : (k : Key) (n : NodeData) (q : ℕ) (p : Point) → find (λ n. is_same_key n.key k) cert.nodes ≡ Some n → find_point q n.points ≡ Some p → assignment_of_cert cert (point k q) ≡ Some (state p.state)
  known_point k n q p found at = ap (option_and_then (known_by_node (point k q))) found ∙ ap (option_map (λ (q : Point). state q.state)) at

  known_exit : (k : Key) (n : NodeData) (x : Exit) → find (λ n. is_same_key n.key k) cert.nodes ≡ Some n → n.exit ≡ Some x → assignment_of_cert cert (exit k) ≡ Some (leaving x)
  known_exit k n x found at = ap (option_and_then (known_by_node (exit k))) found ∙ ap (option_map leaving) at

  -- ---- the rules at a point
  module _ (k : Key) (p : ℕ) (s : State) (a : AtPoint cert k p s) where
    rules : (r : ℕ) → RuleHolds image plan cert a.node a.place r
    rules = All-at (λ q. (r : ℕ) → RuleHolds image plan cert a.node q r) (a.node).points a.place (holds a.node a.member).points a.inside

    place_values : AreInLattice (limits_of_cert plan cert) ((a.place).state).regs
    place_values = (rules 2).values refl

    place_faultless : IsFaultless (limits_of_cert plan cert) image plan (a.node).key (a.place).addr (a.place).state
    place_faultless r = (rules r).own place_values

    pub point_faultless : IsFaultless (limits_of_cert plan cert) image plan k p s
    point_faultless = carried (λ k p s. IsFaultless (limits_of_cert plan cert) image plan k p s) (a.node).key k (a.place).addr p (a.place).state s a.key a.addr a.is place_faultless

    place_well_formed : IsWellFormedState (limits_of_cert plan cert) (a.place).state
    place_well_formed =
        let is : IsPoint cert.version a.place = All-at (IsPoint cert.version) (a.node).points a.place (node_is a.node a.member).points a.inside in
        record { regs = (is.state).regs; values = place_values; few = (is.state).locals }

    pub point_well_formed : IsWellFormedState (limits_of_cert plan cert) s
    point_well_formed = subst (IsWellFormedState (limits_of_cert plan cert)) a.is place_well_formed

    place_alone : (shape : Shape) (n : ℕ) → IsCode image plan (a.place).addr shape n → IsLocallyFaultless image plan cert a.node a.place shape n
    place_alone shape n code = record { values = place_values; faultless = place_faultless; code = code }

    abbrev AllMet : Key → ℕ → State → Type 0
    AllMet k p s =
        (shape : Shape) (n : ℕ) (d : Owed) → IsCode image plan p shape n → Contains (duties_of (limits_of_cert plan cert) image plan k p s shape n) d → IsDutyMet cert a.node s d.duty × EntryNeedRuleHolds cert a.node s d.duty

    place_met : AllMet (a.node).key (a.place).addr (a.place).state
    place_met shape n d code c = (
      (rules d.rule).covered shape n d (place_alone shape n code) c refl,
      All-at (λ (e : Owed). EntryNeedRuleHolds cert a.node (a.place).state e.duty) _ d ((rules 14).needs shape n refl (place_alone shape n code)).entered c,
    )

    pub point_met : AllMet k p s
    point_met = carried AllMet (a.node).key k (a.place).addr p (a.place).state s a.key a.addr a.is place_met

    pub point_need : (shape : Shape) (n : ℕ) → IsCode image plan p shape n → length s.locals.items ≤ (a.node).need
    point_need shape n code =
        carried (λ k p s. IsCode image plan p shape n → length s.locals.items ≤ (a.node).need) (a.node).key k (a.place).addr p (a.place).state s a.key a.addr a.is
        (λ code. ((rules 14).needs shape n refl (place_alone shape n code)).locals) code

    pub point_start : (shape : Shape) (n : ℕ) → IsCode image plan p shape n → k ≡ start_key image plan → p ≡ image.entry → (a.node).need ≤ plan.areas - plan.reserve
    point_start shape n code =
        carried (λ k p s. IsCode image plan p shape n → k ≡ start_key image plan → p ≡ image.entry → (a.node).need ≤ plan.areas - plan.reserve) (a.node).key k (a.place).addr p (a.place).state s a.key a.addr a.is
        (λ code. ((rules 14).needs shape n refl (place_alone shape n code)).start) code

    -- a duty that is met is covered
    pub met_covers : (d : Duty) → HasKey d → IsDutyMet cert a.node s d → (y : Place) (v : Known) → asked_by_duty (assignment_of_cert cert) k s d ≡ Some (y, v) → AssignmentCovers (assignment_of_cert cert) y v
    met_covers (jump q t) key met y v e =
        let f : (point k q, state t) ≡ (y, v) = cc in
        let m = some_and (λ (p : Point). Covers p.state t) (find_point q (a.node).points) met in
        subst (λ (w : Place × Known). AssignmentCovers (assignment_of_cert cert) w.0 w.1) f (record { known = state (m.0).state; at = known_point k a.node q m.0 a.found m.1; covers = m.2 })
    met_covers (enter j t) key met y v e =
        let f : (point j j.entry, state t) ≡ (y, v) = cc in
        let n = some_and (λ (n : NodeData). HasCoveringPoint n j.entry t) (find_node j cert.nodes) met in
        let m = some_and (λ (p : Point). Covers p.state t) (find_point j.entry (n.0).points) n.2 in
        subst (λ (w : Place × Known). AssignmentCovers (assignment_of_cert cert) w.0 w.1) f
        (record { known = state (m.0).state; at = known_point j n.0 j.entry m.0 (agrees j key ∙ n.1) m.1; covers = m.2 })
    met_covers (resume j q) key met y v e =
        let r = resumed_some k s j q (assignment_of_cert cert (exit j)) y v e in
        let o = at_exit cert j (leaving r.0) r.1 in
        let same : o.0 ≡ r.0 = (let g : leaving r.0 ≡ leaving o.0 = o.1 in cc) in
        let stands : find_node j cert.nodes ≡ Some (o.2).node = sym (agrees j (key_is j (o.2).node (o.2).member (o.2).key)) ∙ (o.2).found in
        let there : (o.2).node.exit ≡ Some r.0 = (o.2).is ∙ ap (λ (x : Exit). Some x) same in
        let has : HasCoveringPoint a.node q (state_after_return s r.0 j.kind) =
        subst (λ (x : Option Exit). IfSome x (λ x. HasCoveringPoint a.node q (state_after_return s x j.kind))) there
        (subst (λ (x : Option NodeData). IfSome x (λ n. IfSome n.exit (λ x. HasCoveringPoint a.node q (state_after_return s x j.kind)))) stands met)
        in
        let m = some_and (λ (p : Point). Covers p.state (state_after_return s r.0 j.kind)) (find_point q (a.node).points) has in
        let f : (point k q, state (state_after_return s r.0 j.kind)) ≡ (y, v) = λ i. (r.2 i, r.3 i) in
        subst (λ (w : Place × Known). AssignmentCovers (assignment_of_cert cert) w.0 w.1) f (record { known = state (m.0).state; at = known_point k a.node q m.0 a.found m.1; covers = m.2 })
    met_covers (leave x) key met y v e =
        let f : (exit k, leaving x) ≡ (y, v) = cc in
        let m = some_and (λ (z : Exit). ExitCovers z x) (a.node).exit met in
        subst (λ (w : Place × Known). AssignmentCovers (assignment_of_cert cert) w.0 w.1) f (record { known = leaving m.0; at = known_exit k a.node m.0 a.found m.1; covers = m.2 })

    setting : IsWellFormedState (limits_of_cert plan cert) s → (shape : Shape) (n : ℕ) (d : Owed) → IsCode image plan p shape n → Contains (duties_of (limits_of_cert plan cert) image plan k p s shape n) d → HasKey d.duty
    setting well_formed shape n d code c =
        duties_keys (limits_of_cert plan cert) image plan k p s (record { limits = ground.limits; plan = ground.is_plan; regs = well_formed.regs; values = well_formed.values }) (key_is k a.node a.member a.key) shape n
        (IsCode-bounded image plan p shape n code) d c

  -- ---- the assignment
  pub accepted_well_formed : AllWellFormed (limits_of_cert plan cert) (assignment_of_cert cert)
  accepted_well_formed (point k p) v e = let a = at_point cert k p v e in subst (IsWellFormedKnown (limits_of_cert plan cert)) (sym a.1) (point_well_formed k p a.0 a.2)
  accepted_well_formed (exit k) v e =
      let a = at_exit cert k v e in
      let n = (a.2).node in
      let values = subst (λ (o : Option Exit). IfSome o (λ x. AreInLattice (limits_of_cert plan cert) x.lower)) (a.2).is ((holds n (a.2).member).entry).exit in
      let is = subst (λ (o : Option Exit). IfSome o (λ e. ((n.key.kind ≡ 1) ⊎ (n.key.kind ≡ 3)) × IsExit cert.version e)) (a.2).is (node_is n (a.2).member).exit in
      subst (IsWellFormedKnown (limits_of_cert plan cert)) (sym a.1) (record { regs = (is.1).lower; values = values })

  pub accepted_faultless : ArePointsFaultless (limits_of_cert plan cert) image plan (assignment_of_cert cert)
  accepted_faultless k p s e =
      let a = at_point cert k p (state s) e in
      let same = one_state a.0 s (sym a.1) in
      subst (IsFaultless (limits_of_cert plan cert) image plan k p) same (point_faultless k p a.0 a.2)

  -- a known point, with the same state
  point_of : (k : Key) (p : ℕ) (s : State) → assignment_of_cert cert (point k p) ≡ Some (state s) → AtPoint cert k p s
  point_of k p s e = let a = at_point cert k p (state s) e in subst (AtPoint cert k p) (one_state a.0 s (sym a.1)) a.2

  duty_met : (k : Key) (p : ℕ) (s : State) (d : Duty) (h : HasDuty (limits_of_cert plan cert) image plan (assignment_of_cert cert) k p s d) → HasKey d × IsDutyMet cert (point_of k p s h.at).node s d × EntryNeedRuleHolds cert (point_of k p s h.at).node s d
  duty_met k p s d h =
      let a = point_of k p s h.at in
      let m = point_met k p s a h.shape h.size h.owed h.code h.listed in
      let key = setting k p s a (point_well_formed k p s a) h.shape h.size h.owed h.code h.listed in
      subst (λ (u : Duty). HasKey u × IsDutyMet cert a.node s u × EntryNeedRuleHolds cert a.node s u) h.is (key, m.0, m.1)

  start_is : IsKey (start_key image plan)
  start_is = record { kind = omega arith; entry = entry; prio = omega arith }

  accepted_start : AssignmentCovers (assignment_of_cert cert) (start_place image plan) (state (start_state plan))
  accepted_start =
      let k = start_key image plan in
      let n = some_and (λ (n : NodeData). HasCoveringPoint n image.entry (start_state plan)) (find_node k cert.nodes) accepted.start in
      let m = some_and (λ (p : Point). Covers p.state (start_state plan)) (find_point image.entry (n.0).points) n.2 in
      record { known = state (m.0).state; at = known_point k n.0 image.entry m.0 (agrees k start_is ∙ n.1) m.1; covers = m.2 }

  pub accepted_closed : Closed (limits_of_cert plan cert) image plan (assignment_of_cert cert)
  accepted_closed = record {
    start = accepted_start;
    duties = λ y v k.
        let m = duty_met k.key k.addr k.before k.duty k.has in
        met_covers k.key k.addr k.before (point_of k.key k.addr k.before (k.has).at) k.duty m.0 m.1 y v k.asks;
  }

  -- ---- needs
  -- the need of a frame
  abbrev pub need_in : Key → ℕ
  need_in k = need_or_zero (find_node k cert.nodes)

  need_at : (k : Key) (p : ℕ) (s : State) (a : AtPoint cert k p s) → need_in k ≡ (a.node).need
  need_at k p s a = ap need_or_zero (sym (agrees k (key_is k a.node a.member a.key)) ∙ a.found)

  need_entered : (t : Key) (u s : State) (n : NodeData) (l : ℕ) → HasKey (enter t u) → IsDutyMet cert n s (enter t u) → IfSome (find_node t cert.nodes) (λ m. l + 1 + m.need ≤ n.need) → l + 1 + need_in t ≤ n.need
  need_entered t u s n l key met above =
      let o = some_and (λ (m : NodeData). HasCoveringPoint m t.entry u) (find_node t cert.nodes) met in
      let h : l + 1 + (o.0).need ≤ n.need = subst (λ (x : Option NodeData). IfSome x (λ m. l + 1 + m.need ≤ n.need)) o.1 above in
      omega (arith, ap need_or_zero o.1)

  pub accepted_needs : AreSufficientNeeds (limits_of_cert plan cert) image plan (assignment_of_cert cert) need_in
  accepted_needs = record {
    locals = λ k p s e.
        let a = point_of k p s e in
        let f = point_faultless k p s a in
        let has = (f 3).code refl in
        let le = point_need k p s a has.shape has.size has.code in
        omega (arith, need_at k p s a);
    entered = λ k p s t h.
        let a = point_of k p s ((h.has).at) in
        let m = duty_met k p s (enter t h.entered) h.has in
        let le = need_entered t h.entered s a.node (length s.locals.items) m.0 m.1 m.2 in
        omega (arith, need_at k p s a);
  }

  pub accepted_start_need : need_in (start_key image plan) ≤ plan.areas - plan.reserve
  accepted_start_need =
      let o = accepted_start in
      let a = at_point cert (start_key image plan) image.entry o.known o.at in
      let f = point_faultless (start_key image plan) image.entry a.0 a.2 in
      let has = (f 3).code refl in
      let le = point_start (start_key image plan) image.entry a.0 a.2 has.shape has.size has.code refl refl in
      omega (arith, need_at (start_key image plan) image.entry a.0 a.2)
