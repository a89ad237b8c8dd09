-- The certificate of a solution is accepted.
use Rattle.std.proofs.Common.{◌≡◌, ℕ, zero, suc, ◌+◌, ◌^◌, ◌<◌, ◌≤◌, inl, inr, cond, List, [], ◌∷◌, length, map, get_or, refl, sym, ap, ◌∙◌, subst, arith, Option, Some, None, IsSome, Contains, eqb}
use Rattle.std.specs.Prelude.{find, option_map, option_and_then, IsSomeAnd, IfSome}
use Rattle.std.proofs.lemmas.Bool.{eq-eqb, ne_eqb}
use Rattle.std.proofs.lemmas.List.{get_or_default}
use Rattle.elf_image.specs.Images.{ImageData}
use Rattle.tcd_plan.specs.PlanData.{PlanData}
use Rattle.tc_isa.specs.declared.shapes.Shape.{Shape}
use Rattle.value_domain.specs.declared.states.State.{State}
use Rattle.value_domain.specs.Sets.{Among, IsAscending}
use Rattle.value_domain.specs.State.{Covers, AreInLattice}
use Rattle.value_domain.proofs.WordLaws.{rising_from}
use Rattle.depth_cert.specs.declared.keys.Key.{Key}
use Rattle.depth_cert.specs.declared.points.Exit.{Exit}
use Rattle.depth_cert.specs.declared.points.Point.{Point}
use Rattle.depth_cert.specs.Keys.{number_of_key, IsKey, is_same_key}
use Rattle.depth_cert.specs.Points.{find_point}
use Rattle.depth_cert.specs.Nodes.{NodeData, IsNode, need_or_zero, find_node}
use Rattle.depth_cert.specs.Certs.{CertData, IsCert}
use Rattle.cfg_recover.specs.Code.{IsCode}
use Rattle.cfg_recover.specs.Entries.{start_key, start_state}
use Rattle.depth_cert.specs.Exits.{state_after_return, ExitCovers}
use Rattle.cfg_recover.specs.LocalFaults.{IsFaultless}
use Rattle.cfg_recover.specs.Duties.{Duty, jump, enter, resume, leave, Owed, duties_of}
use Rattle.cfg_recover.specs.RulesHoldOrFail.{limits_of_cert, HasCoveringPoint, IsDutyMet, EntryNeedRuleHolds, NeedRuleHolds, RuleHolds, RulesHoldAtNode, Accepts}
use Rattle.cfg_recover.specs.Assignments.{Place, point, exit, known_by_node, assignment_of_cert, AssignmentCovers, asked_by_duty, asked_by_resume, HasDuty}
use Rattle.depth_cert.specs.Known.{Known, state, leaving, CoversKnown}
use Rattle.depth_cert.specs.WellFormed.{IsWellFormedState}
use Rattle.cfg_recover.proofs.CodeLaws.{IsCode-bounded}
use Rattle.depth_maker.specs.DutiesMonotone.{AreMakerInputs}
use Rattle.depth_maker.specs.MakerLaws.{IsMakerSolution}
use Rattle.depth_maker.proofs.KeyDuties.{HasKey, duties_keys}
use Rattle.depth_maker.proofs.Accepted.{at_point, at_exit, find_agrees}

-- ---- searches
among_place : {A : Type 0} (f : A → ℕ) (x : A) (xs : List A) (k : ℕ) → k < length xs → get_or xs k x ≡ x → Among (f x) (map f xs)
among_place f x [] k lt e = absurd (omega arith)
among_place f x (y ∷ ys) zero lt e = inl (ap f (sym e))
among_place f x (y ∷ ys) (suc k) lt e = inr (among_place f x ys k (omega arith) e)

find_place : {A : Type 0} (f : A → ℕ) (x : A) (xs : List A) (k : ℕ) → IsAscending (map f xs) → k < length xs → get_or xs k x ≡ x → find (λ y. eqb (f y) (f x)) xs ≡ Some x
find_place f x [] k rising lt e = absurd (omega arith)
find_place f x (y ∷ ys) zero rising lt e = ap (λ t. cond t (Some y) (find (λ y. eqb (f y) (f x)) ys)) (eq-eqb (f y) (f x) (ap f e)) ∙ ap (λ u. Some u) e
find_place f x (y ∷ ys) (suc k) rising lt e =
    let above : f y < f x = rising.0 (f x) (among_place f x ys k (omega arith) e) in
    ap (λ t. cond t (Some y) (find (λ y. eqb (f y) (f x)) ys)) (ne_eqb (f y) (f x) (λ same. let s : f y ≡ f x = same in omega arith)) ∙ find_place f x ys k rising.1 (omega arith) e

-- an element of a list that rises by a number is found by its number
pub find_member : {A : Type 0} (f : A → ℕ) (xs : List A) (x : A) → IsAscending (map f xs) → Contains xs x → find (λ y. eqb (f y) (f x)) xs ≡ Some x
find_member f xs x rising c = find_place f x xs c.0 rising c.1 c.2

one_of : {A : Type 0} (o : Option A) (x y : A) → o ≡ Some x → o ≡ Some y → x ≡ y
one_of o x y e f = let g : Some x ≡ Some y = sym e ∙ f in cc

module _ (image : ImageData) (plan : PlanData) (cert : CertData) (ground : AreMakerInputs (limits_of_cert plan cert) image plan) (entry : image.entry < 2 ^ 32) (is_cert : IsCert cert)
    (solution : IsMakerSolution (limits_of_cert plan cert) image plan (assignment_of_cert cert) (λ k. need_or_zero (find_node k cert.nodes)))
    (entries : (n : NodeData) → Contains cert.nodes n → IsSome (find_point (n.key).entry n.points)) where
  node_is : (n : NodeData) → Contains cert.nodes n → IsNode cert.version n
  node_is n c = subst (IsNode cert.version) c.2 (is_cert.nodes c.0 n c.1)

  node_found : (n : NodeData) → Contains cert.nodes n → find_node n.key cert.nodes ≡ Some n
  node_found n c = find_member (λ (m : NodeData). number_of_key m.key) cert.nodes n (rising_from _ is_cert.rising) c

  agrees : (k : Key) → IsKey k → find (λ n. is_same_key n.key k) cert.nodes ≡ find_node k cert.nodes
  agrees k key = find_agrees cert.version k cert.nodes key is_cert.nodes

  -- a node and a point of a known state
  stands : (k : Key) (p : ℕ) (u : Known) (s : State) → IsKey k → assignment_of_cert cert (point k p) ≡ Some u → CoversKnown u (state s) → IsSomeAnd (find_node k cert.nodes) (λ n. HasCoveringPoint n p s)
  stands k p u s key at covers =
      let a = at_point cert k p u at in
      let h : Covers a.0 s = subst (λ (w : Known). CoversKnown w (state s)) a.1 covers in
      let inner : IsSomeAnd (find_point p ((a.2).node).points) (λ q. Covers q.state s) =
      subst (λ (o : Option Point). IsSomeAnd o (λ q. Covers q.state s)) (sym (a.2).at) (subst (λ (z : State). Covers z s) (sym (a.2).is) h)
      in
      subst (λ (o : Option NodeData). IsSomeAnd o (λ n. HasCoveringPoint n p s)) (sym (sym (agrees k key) ∙ (a.2).found)) inner

  module _ (n : NodeData) (member : Contains cert.nodes n) (q : Point) (inside : Contains n.points q) where
    key : IsKey n.key
    key = (node_is n member).key

    found : find (λ m. is_same_key m.key n.key) cert.nodes ≡ Some n
    found = agrees n.key key ∙ node_found n member

    known : assignment_of_cert cert (point n.key q.addr) ≡ Some (state q.state)
    known =
        ap (option_and_then (known_by_node (point n.key q.addr))) found
        ∙ ap (option_map (λ (q : Point). state q.state)) (find_member (λ (p : Point). p.addr) n.points q (rising_from _ (node_is n member).rising) inside)

    faultless : IsFaultless (limits_of_cert plan cert) image plan n.key q.addr q.state
    faultless = solution.faultless n.key q.addr q.state known

    well_formed : IsWellFormedState (limits_of_cert plan cert) q.state
    well_formed = solution.well_formed (point n.key q.addr) (state q.state) known

    -- what is known at a place of this node
    here : (p : ℕ) (u : Known) (s : State) → assignment_of_cert cert (point n.key p) ≡ Some u → CoversKnown u (state s) → HasCoveringPoint n p s
    here p u s at covers =
        subst (λ (o : Option NodeData). IsSomeAnd o (λ m. HasCoveringPoint m p s)) (node_found n member) (stands n.key p u s key at covers)

    module _ (shape : Shape) (size : ℕ) (code : IsCode image plan q.addr shape size) where
      duty : (d : Owed) → Contains (duties_of (limits_of_cert plan cert) image plan n.key q.addr q.state shape size) d → HasDuty (limits_of_cert plan cert) image plan (assignment_of_cert cert) n.key q.addr q.state d.duty
      duty d c = record { at = known; faultless = faultless; shape = shape; size = size; code = code; owed = d; listed = c; is = refl }

      has_key : (d : Owed) → Contains (duties_of (limits_of_cert plan cert) image plan n.key q.addr q.state shape size) d → HasKey d.duty
      has_key d c =
          duties_keys (limits_of_cert plan cert) image plan n.key q.addr q.state (record { limits = ground.limits; plan = ground.is_plan; regs = well_formed.regs; values = well_formed.values }) key shape size
          (IsCode-bounded image plan q.addr shape size code) d c

      covered : (d : Duty) → HasDuty (limits_of_cert plan cert) image plan (assignment_of_cert cert) n.key q.addr q.state d → (y : Place) (v : Known) → asked_by_duty (assignment_of_cert cert) n.key q.state d ≡ Some (y, v) → AssignmentCovers (assignment_of_cert cert) y v
      covered d h y v e = solution.closed.duties y v (record { key = n.key; addr = q.addr; before = q.state; duty = d; has = h; asks = e })

      resumed_met : (j : Key) (p : ℕ) → HasKey (resume j p) → HasDuty (limits_of_cert plan cert) image plan (assignment_of_cert cert) n.key q.addr q.state (resume j p)
          → (o : Option NodeData) → find_node j cert.nodes ≡ o → IfSome o (λ m. IfSome m.exit (λ x. HasCoveringPoint n p (state_after_return q.state x j.kind)))
      resumed_met j p is h None e = tt
      resumed_met j p is h (Some m) e = at m.exit refl where
        at : (o : Option Exit) → m.exit ≡ o → IfSome o (λ x. HasCoveringPoint n p (state_after_return q.state x j.kind))
        at None f = tt
        at (Some x) f =
            let there : assignment_of_cert cert (exit j) ≡ Some (leaving x) = ap (option_and_then (known_by_node (exit j))) (agrees j is ∙ e) ∙ ap (option_map leaving) f in
            let c = covered (resume j p) h (point n.key p) (state (state_after_return q.state x j.kind)) (ap (asked_by_resume n.key q.state j p) there) in
            here p c.known (state_after_return q.state x j.kind) c.at c.covers

      met : (d : Duty) → HasKey d → HasDuty (limits_of_cert plan cert) image plan (assignment_of_cert cert) n.key q.addr q.state d → IsDutyMet cert n q.state d
      met (jump p t) is h = let c = covered (jump p t) h (point n.key p) (state t) refl in here p c.known t c.at c.covers
      met (enter j t) is h = let c = covered (enter j t) h (point j j.entry) (state t) refl in stands j j.entry c.known t is c.at c.covers
      met (resume j p) is h = resumed_met j p is h (find_node j cert.nodes) refl
      met (leave x) is h =
          let c = covered (leave x) h (exit n.key) (leaving x) refl in
          let a = at_exit cert n.key c.known c.at in
          let over : ExitCovers a.0 x = subst (λ (w : Known). CoversKnown w (leaving x)) a.1 c.covers in
          let same : n ≡ (a.2).node = one_of _ n (a.2).node found (a.2).found in
          subst (λ (o : Option Exit). IsSomeAnd o (λ y. ExitCovers y x)) (sym (ap (λ (m : NodeData). m.exit) same ∙ (a.2).is)) over

      needed : (d : Duty) → HasDuty (limits_of_cert plan cert) image plan (assignment_of_cert cert) n.key q.addr q.state d → EntryNeedRuleHolds cert n q.state d
      needed (enter j t) h = at (find_node j cert.nodes) refl where
        at : (o : Option NodeData) → find_node j cert.nodes ≡ o → IfSome o (λ m. length q.state.locals.items + 1 + m.need ≤ n.need)
        at None e = tt
        at (Some m) e =
            let le = solution.needs.entered n.key q.addr q.state j (record { entered = t; has = h }) in
            omega (arith, le, ap need_or_zero e, ap need_or_zero (node_found n member))
      needed _ h = tt

      has_need : NeedRuleHolds image plan cert n q (duties_of (limits_of_cert plan cert) image plan n.key q.addr q.state shape size)
      has_need = record {
        locals = let le = solution.needs.locals n.key q.addr q.state known in omega (arith, le, ap need_or_zero (node_found n member));
        entered = λ i d lt. needed (get_or _ i d).duty (duty (get_or _ i d) (i, lt, get_or_default _ i (get_or _ i d) d lt));
        start = λ e f. let le = solution.start in omega (arith, le, ap need_or_zero (ap (λ (k : Key). find_node k cert.nodes) (sym e) ∙ node_found n member));
      }

    rule_holds : (r : ℕ) → RuleHolds image plan cert n q r
    rule_holds r = record {
      values = λ e. well_formed.values;
      own = λ v. faultless r;
      covered = λ shape size d alone c e. met shape size alone.code d.duty (has_key shape size alone.code d c) (duty shape size alone.code d c);
      needs = λ shape size e alone. has_need shape size alone.code;
    }

  exit_values : (n : NodeData) → Contains cert.nodes n → (o : Option Exit) → n.exit ≡ o → IfSome o (λ x. AreInLattice (limits_of_cert plan cert) x.lower)
  exit_values n c None e = tt
  exit_values n c (Some x) e =
      (solution.well_formed (exit n.key) (leaving x)
      (ap (option_and_then (known_by_node (exit n.key))) (agrees n.key (node_is n c).key ∙ node_found n c) ∙ ap (option_map leaving) e)).values

  holds : (n : NodeData) → Contains cert.nodes n → RulesHoldAtNode image plan cert n
  holds n c = record {
    entry = record { point = entries n c; exit = exit_values n c n.exit refl };
    points = λ i d lt r. rule_holds n c (get_or n.points i d) (i, lt, get_or_default n.points i (get_or n.points i d) d lt) r;
  }

  pub solution_accepted : Accepts image plan cert
  solution_accepted = record {
    start =
        let o = solution.closed.start in
        stands (start_key image plan) image.entry o.known (start_state plan) (record { kind = omega arith; entry = entry; prio = omega arith }) o.at o.covers;
    nodes = λ i d lt. holds (get_or cert.nodes i d) (i, lt, get_or_default cert.nodes i (get_or cert.nodes i d) d lt);
  }
