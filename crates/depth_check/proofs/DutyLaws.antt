-- The least rule that duties break, from the least rules that parts of their list break.
use Rattle.std.proofs.Common.{◌≡◌, ℕ, ◌≤◌, ◌<◌, ◌+◌, Bool, false, List, [], ◌∷◌, ◌++◌, length, take, get_or, map, Option, Some, None, inl, inr, arith, refl, subst, sym, ◌∙◌, ap, eq-eqb, ◌==◌}
use Rattle.std.specs.Prelude.{IsTrue, ◌↔◌, All}
use Rattle.std.specs.List.{flat_map}
use Rattle.std.proofs.lemmas.Bool.{cases_Bool, eqb-true}
use Rattle.std.proofs.lemmas.List.{append-nil, get_or_append_left, get_or-append-add, length-append, take_more, take_all, map-append}
use Rattle.std.proofs.lemmas.List.Concat.{flat_map-append}
use Rattle.std.proofs.lemmas.List.Elements.{All-nil, All-cons, All-head, All-tail, All-append}
use Rattle.tcd_plan.specs.PlanData.{PlanData}
use Rattle.elf_image.specs.Images.{ImageData}
use Rattle.tc_isa.specs.declared.shapes.Shape.{Shape}
use Rattle.tc_isa.specs.declared.shapes.Shape.TheVariants.{Compute}
use Rattle.value_domain.specs.declared.states.State.{State}
use Rattle.value_domain.specs.Limits.{Limits}
use Rattle.depth_cert.specs.declared.keys.Key.{Key}
use Rattle.depth_cert.specs.Nodes.{NodeData, find_node}
use Rattle.depth_cert.specs.Certs.{CertData}
use Rattle.cfg_recover.specs.declared.flow_types.Enter.{Enter}
use Rattle.cfg_recover.specs.declared.flow_types.Leave.{Leave}
use Rattle.cfg_recover.specs.declared.flow_types.Leave.TheVariants.{Stays, Ret, Rfe}
use Rattle.vd_transfer.specs.EffectsOnStates.{LocalsFitInstruction}
use Rattle.cfg_recover.specs.declared.local_rules.Located.{Located}
use Rattle.cfg_recover.specs.LocalFaults.{IsFaultlessShape}
use Rattle.cfg_recover.specs.Entries.{irq_key, irq_entry, possible_irqs_of, entered_key}
use Rattle.depth_cert.specs.Exits.{exit_of_state}
use Rattle.cfg_recover.specs.Duties.{Owed, owed, jump, enter, resume, leave, jump_duties_to, successor_duties_of, entry_duties_of, misaligned_duties_of, interrupt_duties_of, exit_duties_of, duties_of}
use Rattle.cfg_recover.specs.FlowDuties.{duties_of_flow_return, duties_of_irqs, duties_of_leaving, flow_leave_of}
use Rattle.cfg_recover.specs.RulesHoldOrFail.{HasCoveringPoint}
use Rattle.cfg_recover.proofs.AccessDuties.{owes_no_access}
use Rattle.depth_check.specs.LeastBroken.{FindsLeastBroken, lesser_broken_rule, broken_rule_unless}
use Rattle.depth_check.specs.DutiesHold.{DutyHolds, DutiesHold, HasCoveringPoints, IsReturnMet, HasCoveringExit, LeavingHolds}
use Rattle.depth_check.proofs.LeastLaws.{found_by, found_both, found_same}

-- a property of an appended list holds of its parts
pub All-left : {X : Type 0} (P : X → Type 0) (xs ys : List X) → All P (xs ++ ys) → All P xs
All-left P xs ys h k d lt = subst P (get_or_append_left xs ys d k lt) (h k d (omega (arith, length-append xs ys)))

pub All-right : {X : Type 0} (P : X → Type 0) (xs ys : List X) → All P (xs ++ ys) → All P ys
All-right P xs ys h k d lt = subst P (get_or-append-add xs ys k d) (h (length xs + k) d (omega (arith, length-append xs ys)))

pub duties_append : (cert : CertData) (node : NodeData) (s : State) (xs ys : List Owed) (a b : Option ℕ) → FindsLeastBroken (DutiesHold cert node s xs) a → FindsLeastBroken (DutiesHold cert node s ys) b
    → FindsLeastBroken (DutiesHold cert node s (xs ++ ys)) (lesser_broken_rule a b)
duties_append cert node s xs ys a b f g =
    found_same (λ q. DutiesHold cert node s xs q × DutiesHold cert node s ys q) (DutiesHold cert node s (xs ++ ys)) (lesser_broken_rule a b)
    (λ q h. All-append (DutyHolds cert node s q) xs ys h.0 h.1)
    (λ q h. (All-left (DutyHolds cert node s q) xs ys h, All-right (DutyHolds cert node s q) xs ys h))
    (found_both (DutiesHold cert node s xs) (DutiesHold cert node s ys) a b f g)

-- ---- jumps
-- duties that are all jumps, of one rule
jump_part : (cert : CertData) (node : NodeData) (s t : State) (q x : ℕ) (xs : List ℕ) → (4 ≡ q → HasCoveringPoints node t (x ∷ xs)) → DutiesHold cert node s (jump_duties_to t xs) q → DutiesHold cert node s (jump_duties_to t (x ∷ xs)) q
jump_part cert node s t q x xs h rest =
    All-cons (DutyHolds cert node s q) (owed 4 (jump x t)) (jump_duties_to t xs) (record { met = λ e. All-head (λ y. HasCoveringPoint node y t) x xs (h e); need = λ e. tt }) rest

jump_to : (cert : CertData) (node : NodeData) (s t : State) (q : ℕ) (xs : List ℕ) → (4 ≡ q → HasCoveringPoints node t xs) → DutiesHold cert node s (jump_duties_to t xs) q
jump_to cert node s t q [] h = All-nil (DutyHolds cert node s q)
jump_to cert node s t q (x ∷ xs) h = jump_part cert node s t q x xs h (jump_to cert node s t q xs (λ e. All-tail (λ y. HasCoveringPoint node y t) x xs (h e)))

jump_from : (cert : CertData) (node : NodeData) (s t : State) (q : ℕ) (xs : List ℕ) → 4 ≡ q → DutiesHold cert node s (jump_duties_to t xs) q → HasCoveringPoints node t xs
jump_from cert node s t q [] e h = All-nil (λ y. HasCoveringPoint node y t)
jump_from cert node s t q (x ∷ xs) e h =
    All-cons (λ y. HasCoveringPoint node y t) x xs ((All-head (DutyHolds cert node s q) (owed 4 (jump x t)) (jump_duties_to t xs) h).met e)
    (jump_from cert node s t q xs e (All-tail (DutyHolds cert node s q) (owed 4 (jump x t)) (jump_duties_to t xs) h))

-- jumps with one state, from the test of all of them
pub points_found : (cert : CertData) (node : NodeData) (s t : State) (xs : List ℕ) (b : Bool) → (IsTrue b ↔ HasCoveringPoints node t xs) → FindsLeastBroken (DutiesHold cert node s (jump_duties_to t xs)) (broken_rule_unless b 4)
points_found cert node s t xs b d =
    found_same (λ q. 4 ≡ q → HasCoveringPoints node t xs) (DutiesHold cert node s (jump_duties_to t xs)) (broken_rule_unless b 4) (λ q h. jump_to cert node s t q xs h) (λ q h e. jump_from cert node s t q xs e h)
    (found_by b 4 (HasCoveringPoints node t xs) (omega arith) d)

-- a single jump
pub point_found : (cert : CertData) (node : NodeData) (s t : State) (x : ℕ) (b : Bool) → (IsTrue b ↔ HasCoveringPoint node x t) → FindsLeastBroken (DutiesHold cert node s (owed 4 (jump x t) ∷ [])) (broken_rule_unless b 4)
point_found cert node s t x b d =
    points_found cert node s t (x ∷ []) b
    ((λ y. All-cons (λ y. HasCoveringPoint node y t) x [] (d.0 y) (All-nil (λ y. HasCoveringPoint node y t))), (λ h. d.1 (All-head (λ y. HasCoveringPoint node y t) x [] h)))

-- no duty
pub nothing_found : (cert : CertData) (node : NodeData) (s : State) → FindsLeastBroken (DutiesHold cert node s []) None
nothing_found cert node s = λ q. All-nil (DutyHolds cert node s q)

-- ---- entries
-- what the rules ask of an entry of a node n that exists, and of its return
abbrev pub EntryHolds : NodeData → State → ℕ → Key → State → Option ℕ → NodeData → ℕ → Type 0
EntryHolds node s rule key entry back n q =
    ((rule ≡ q → HasCoveringPoint n key.entry entry) × (14 ≡ q → length s.locals.items + 1 + n.need ≤ node.need)) × (4 ≡ q → IsReturnMet node s n key.kind back)

enter_to : (cert : CertData) (node : NodeData) (s : State) (rule : ℕ) (key : Key) (entry : State) (back : Option ℕ) (n : NodeData) (q : ℕ) → find_node key cert.nodes ≡ Some n
    → EntryHolds node s rule key entry back n q → DutyHolds cert node s q (owed rule (enter key entry))
enter_to cert node s rule key entry back n q found h = record { met = λ e. rw found ((h.0).0 e); need = λ e. rw found ((h.0).1 (sym e)) }

back_to : (cert : CertData) (node : NodeData) (s : State) (rule : ℕ) (key : Key) (entry : State) (back : Option ℕ) (n : NodeData) (q : ℕ) → find_node key cert.nodes ≡ Some n
    → EntryHolds node s rule key entry back n q → DutiesHold cert node s (duties_of_flow_return key back) q
back_to cert node s rule key entry None n q found h = All-nil (DutyHolds cert node s q)
back_to cert node s rule key entry (Some at) n q found h =
    All-cons (DutyHolds cert node s q) (owed 4 (resume key at)) [] (record { met = λ e. rw found (h.1 e); need = λ e. tt }) (All-nil (DutyHolds cert node s q))

back_from : (cert : CertData) (node : NodeData) (s : State) (key : Key) (back : Option ℕ) (n : NodeData) (q : ℕ) → find_node key cert.nodes ≡ Some n → DutiesHold cert node s (duties_of_flow_return key back) q
    → 4 ≡ q → IsReturnMet node s n key.kind back
back_from cert node s key None n q found h e = tt
back_from cert node s key (Some at) n q found h e = rw found at ((All-head (DutyHolds cert node s q) (owed 4 (resume key at)) [] h).met e)

-- the entered node exists
pub entry_found : (cert : CertData) (node : NodeData) (s : State) (rule : ℕ) (key : Key) (entry : State) (back : Option ℕ) (n : NodeData) (into need on : Bool) → find_node key cert.nodes ≡ Some n
    → rule ≤ 14 → (IsTrue into ↔ HasCoveringPoint n key.entry entry) → (IsTrue need ↔ (length s.locals.items + 1 + n.need ≤ node.need)) → (IsTrue on ↔ IsReturnMet node s n key.kind back)
    → FindsLeastBroken (DutiesHold cert node s (owed rule (enter key entry) ∷ duties_of_flow_return key back)) (lesser_broken_rule (lesser_broken_rule (broken_rule_unless into rule) (broken_rule_unless need 14)) (broken_rule_unless on 4))
entry_found cert node s rule key entry back n into need on found small i d a =
    found_same (EntryHolds node s rule key entry back n) (DutiesHold cert node s (owed rule (enter key entry) ∷ duties_of_flow_return key back)) (lesser_broken_rule (lesser_broken_rule (broken_rule_unless into rule) (broken_rule_unless need 14)) (broken_rule_unless on 4))
    (λ q h. All-cons (DutyHolds cert node s q) (owed rule (enter key entry)) (duties_of_flow_return key back) (enter_to cert node s rule key entry back n q found h) (back_to cert node s rule key entry back n q found h))
    (λ q h.
    let first = All-head (DutyHolds cert node s q) (owed rule (enter key entry)) (duties_of_flow_return key back) h in
    let rest = All-tail (DutyHolds cert node s q) (owed rule (enter key entry)) (duties_of_flow_return key back) h in
    (((λ e. rw found at (first.met e)), (λ e. rw found at (first.need (sym e)))), back_from cert node s key back n q found rest))
    (found_both (λ q. (rule ≡ q → HasCoveringPoint n key.entry entry) × (14 ≡ q → length s.locals.items + 1 + n.need ≤ node.need)) (λ q. 4 ≡ q → IsReturnMet node s n key.kind back)
    (lesser_broken_rule (broken_rule_unless into rule) (broken_rule_unless need 14)) (broken_rule_unless on 4)
    (found_both (λ q. rule ≡ q → HasCoveringPoint n key.entry entry) (λ q. 14 ≡ q → length s.locals.items + 1 + n.need ≤ node.need) (broken_rule_unless into rule) (broken_rule_unless need 14)
    (found_by into rule (HasCoveringPoint n key.entry entry) small i) (found_by need 14 (length s.locals.items + 1 + n.need ≤ node.need) (omega arith) d))
    (found_by on 4 (IsReturnMet node s n key.kind back) (omega arith) a))

-- the entered node doesn't exist
back_missing : (cert : CertData) (node : NodeData) (s : State) (key : Key) (back : Option ℕ) (q : ℕ) → find_node key cert.nodes ≡ None → DutiesHold cert node s (duties_of_flow_return key back) q
back_missing cert node s key None q missing = All-nil (DutyHolds cert node s q)
back_missing cert node s key (Some at) q missing =
    All-cons (DutyHolds cert node s q) (owed 4 (resume key at)) [] (record { met = λ e. rw missing tt; need = λ e. tt }) (All-nil (DutyHolds cert node s q))

pub entry_missing : (cert : CertData) (node : NodeData) (s : State) (rule : ℕ) (key : Key) (entry : State) (back : Option ℕ) → find_node key cert.nodes ≡ None → rule ≤ 14
    → FindsLeastBroken (DutiesHold cert node s (owed rule (enter key entry) ∷ duties_of_flow_return key back)) (Some rule)
entry_missing cert node s rule key entry back missing small = record {
  broken = λ h. rw missing at ((All-head (DutyHolds cert node s rule) (owed rule (enter key entry)) (duties_of_flow_return key back) h).met refl);
  least = λ q lt.
      All-cons (DutyHolds cert node s q) (owed rule (enter key entry)) (duties_of_flow_return key back) (record { met = λ e. absurd (omega arith); need = λ e. rw missing tt })
      (back_missing cert node s key back q missing);
  known = small;
}

-- calls whose entry is a state
abbrev pub called : State → List ℕ → ℕ → Enter
called t targets back = record { kind = 1; targets = record { items = targets }; state = t; resume = Some back }

-- the entries of a list of targets
abbrev pub duties_of_entry_to : ℕ → Key → Enter → List ℕ → List Owed
duties_of_entry_to rule key e targets = flat_map (λ t. owed rule (enter (entered_key key e.kind t) e.state) ∷ duties_of_flow_return (entered_key key e.kind t) e.resume) targets

abbrev duties_of_entry_at : ℕ → Key → Enter → ℕ → List Owed
duties_of_entry_at rule key e t = owed rule (enter (entered_key key e.kind t) e.state) ∷ duties_of_flow_return (entered_key key e.kind t) e.resume

duties_of_entry_to_more : (rule : ℕ) (key : Key) (e : Enter) (targets : List ℕ) (i : ℕ) → i < length targets → duties_of_entry_to rule key e (take (i + 1) targets) ≡ duties_of_entry_to rule key e (take i targets) ++ duties_of_entry_at rule key e (get_or targets i 0)
duties_of_entry_to_more rule key e targets i lt =
    ap (duties_of_entry_to rule key e) (take_more targets i 0 lt)
    ∙ flat_map-append (duties_of_entry_at rule key e) (take i targets) (get_or targets i 0 ∷ [])
    ∙ ap (λ (l : List Owed). duties_of_entry_to rule key e (take i targets) ++ l) (append-nil (duties_of_entry_at rule key e (get_or targets i 0)))

duties_of_irqs_more : (plan : PlanData) (entry : State) (irqs : List ℕ) (i : ℕ) → i < length irqs
    → duties_of_irqs plan entry (take (i + 1) irqs) ≡ duties_of_irqs plan entry (take i irqs) ++ owed 11 (enter (irq_key plan (get_or irqs i 0)) (record entry { ccpn = get_or irqs i 0 })) ∷ []
duties_of_irqs_more plan entry irqs i lt =
    ap (duties_of_irqs plan entry) (take_more irqs i 0 lt)
    ∙ map-append (λ p. owed 11 (enter (irq_key plan p) (record entry { ccpn = p }))) (take i irqs) (get_or irqs i 0 ∷ [])

-- a further part of a list
duties_more : (cert : CertData) (node : NodeData) (s : State) (xs ys zs : List Owed) (found one o : Option ℕ) → zs ≡ xs ++ ys → o ≡ lesser_broken_rule found one
    → FindsLeastBroken (DutiesHold cert node s xs) found → FindsLeastBroken (DutiesHold cert node s ys) one → FindsLeastBroken (DutiesHold cert node s zs) o
duties_more cert node s xs ys zs found one o same is f g =
    subst (λ l. FindsLeastBroken (DutiesHold cert node s l) o) (sym same) (subst (λ u. FindsLeastBroken (DutiesHold cert node s (xs ++ ys)) u) (sym is) (duties_append cert node s xs ys found one f g))

pub entries_more : (cert : CertData) (node : NodeData) (s : State) (rule : ℕ) (key entered : Key) (e : Enter) (targets : List ℕ) (i : ℕ) (found one o : Option ℕ) → i < length targets
    → entered ≡ entered_key key e.kind (get_or targets i 0) → o ≡ lesser_broken_rule found one → FindsLeastBroken (DutiesHold cert node s (duties_of_entry_to rule key e (take i targets))) found
    → FindsLeastBroken (DutiesHold cert node s (owed rule (enter entered e.state) ∷ duties_of_flow_return entered e.resume)) one → FindsLeastBroken (DutiesHold cert node s (duties_of_entry_to rule key e (take (i + 1) targets))) o
entries_more cert node s rule key entered e targets i found one o lt k is f g =
    duties_more cert node s (duties_of_entry_to rule key e (take i targets)) (duties_of_entry_at rule key e (get_or targets i 0)) (duties_of_entry_to rule key e (take (i + 1) targets)) found one o (duties_of_entry_to_more rule key e targets i lt) is f
    (subst (λ (j : Key). FindsLeastBroken (DutiesHold cert node s (owed rule (enter j e.state) ∷ duties_of_flow_return j e.resume)) one) k g)

pub entries_done : (cert : CertData) (node : NodeData) (s : State) (rule : ℕ) (key : Key) (e : Enter) (targets : List ℕ) (i : ℕ) (found : Option ℕ) → length targets ≤ i
    → FindsLeastBroken (DutiesHold cert node s (duties_of_entry_to rule key e (take i targets))) found → FindsLeastBroken (DutiesHold cert node s (duties_of_entry_to rule key e targets)) found
entries_done cert node s rule key e targets i found le f = subst (λ (l : List ℕ). FindsLeastBroken (DutiesHold cert node s (duties_of_entry_to rule key e l)) found) (take_all i targets le) f

pub interrupts_more : (cert : CertData) (node : NodeData) (s : State) (plan : PlanData) (entry now : State) (key : Key) (irqs : List ℕ) (i : ℕ) (found one o : Option ℕ) → i < length irqs
    → key ≡ irq_key plan (get_or irqs i 0) → record now { ccpn = 0 } ≡ record entry { ccpn = 0 } → o ≡ lesser_broken_rule found one → FindsLeastBroken (DutiesHold cert node s (duties_of_irqs plan entry (take i irqs))) found
    → FindsLeastBroken (DutiesHold cert node s (owed 11 (enter key (record now { ccpn = get_or irqs i 0 })) ∷ [])) one → FindsLeastBroken (DutiesHold cert node s (duties_of_irqs plan entry (take (i + 1) irqs))) o
interrupts_more cert node s plan entry now key irqs i found one o lt k same is f g =
    duties_more cert node s (duties_of_irqs plan entry (take i irqs)) (owed 11 (enter (irq_key plan (get_or irqs i 0)) (record entry { ccpn = get_or irqs i 0 })) ∷ []) (duties_of_irqs plan entry (take (i + 1) irqs)) found one o
    (duties_of_irqs_more plan entry irqs i lt) is f
    (subst (λ (j : Key). FindsLeastBroken (DutiesHold cert node s (owed 11 (enter j (record entry { ccpn = get_or irqs i 0 })) ∷ [])) one) k
    (subst (λ (t : State). FindsLeastBroken (DutiesHold cert node s (owed 11 (enter key t) ∷ [])) one) (ap (λ (t : State). record t { ccpn = get_or irqs i 0 }) same) g))

pub interrupts_done : (cert : CertData) (node : NodeData) (s : State) (plan : PlanData) (entry : State) (irqs : List ℕ) (i : ℕ) (found : Option ℕ) → length irqs ≤ i
    → FindsLeastBroken (DutiesHold cert node s (duties_of_irqs plan entry (take i irqs))) found → FindsLeastBroken (DutiesHold cert node s (duties_of_irqs plan entry irqs)) found
interrupts_done cert node s plan entry irqs i found le f = subst (λ (l : List ℕ). FindsLeastBroken (DutiesHold cert node s (duties_of_irqs plan entry l)) found) (take_all i irqs le) f

-- ---- leavings
leave_to : (cert : CertData) (node : NodeData) (s : State) (rule q : ℕ) → (rule ≡ q → HasCoveringExit node s) → DutiesHold cert node s (owed rule (leave (exit_of_state s)) ∷ []) q
leave_to cert node s rule q h = All-cons (DutyHolds cert node s q) (owed rule (leave (exit_of_state s))) [] (record { met = h; need = λ e. tt }) (All-nil (DutyHolds cert node s q))

leave_from : (cert : CertData) (node : NodeData) (s : State) (rule q : ℕ) → DutiesHold cert node s (owed rule (leave (exit_of_state s)) ∷ []) q → rule ≡ q → HasCoveringExit node s
leave_from cert node s rule q h = (All-head (DutyHolds cert node s q) (owed rule (leave (exit_of_state s))) [] h).met

leaving_to : (cert : CertData) (node : NodeData) (s : State) (l : Leave) (q : ℕ) → LeavingHolds node s l q → DutiesHold cert node s (duties_of_leaving node.key s l) q
leaving_to cert node s Stays q h = All-nil (DutyHolds cert node s q)
leaving_to cert node s Ret q h = leave_to cert node s 6 q h
leaving_to cert node s Rfe q h =
    elim (cases_Bool ((node.key).kind == 3)) [
      | inl sys ↦ rw sys (leave_to cert node s 7 q (h (eqb-true _ _ sys)))
      | inr other ↦ rw other (All-nil (DutyHolds cert node s q))
    ]

leaving_from : (cert : CertData) (node : NodeData) (s : State) (l : Leave) (q : ℕ) → DutiesHold cert node s (duties_of_leaving node.key s l) q → LeavingHolds node s l q
leaving_from cert node s Stays q h = tt
leaving_from cert node s Ret q h = leave_from cert node s 6 q h
leaving_from cert node s Rfe q h = λ sys. leave_from cert node s 7 q (rw (eq-eqb _ _ sys) at h)

pub leaving_found : (cert : CertData) (node : NodeData) (s : State) (l : Leave) (o : Option ℕ) → FindsLeastBroken (LeavingHolds node s l) o → FindsLeastBroken (DutiesHold cert node s (duties_of_leaving node.key s l)) o
leaving_found cert node s l o f =
    found_same (LeavingHolds node s l) (DutiesHold cert node s (duties_of_leaving node.key s l)) o (λ q h. leaving_to cert node s l q h) (λ q h. leaving_from cert node s l q h) f

-- from an instruction's shape
leavings-is : (key : Key) (s : State) (shape : Shape) → duties_of_leaving key s (flow_leave_of shape) ≡ exit_duties_of key s shape
unfolding flow_leave_of
leavings-is key s (Compute op dst x y) = refl
leavings-is key s _ = refl

pub shape_found : (cert : CertData) (node : NodeData) (s : State) (shape : Shape) (o : Option ℕ) → FindsLeastBroken (LeavingHolds node s (flow_leave_of shape)) o → FindsLeastBroken (DutiesHold cert node s (exit_duties_of node.key s shape)) o
shape_found cert node s shape o f =
    subst (λ (l : List Owed). FindsLeastBroken (DutiesHold cert node s l) o) (leavings-is node.key s shape) (leaving_found cert node s (flow_leave_of shape) o f)

-- ---- all parts
pub parts_found : (b : Limits) (image : ImageData) (plan : PlanData) (cert : CertData) (node : NodeData) (p : ℕ) (s : State) (shape : Shape) (n : ℕ) (jumps entered misaligned interrupts leaving : Option ℕ)
    → FindsLeastBroken (DutiesHold cert node s (successor_duties_of b image plan p s shape n)) jumps → FindsLeastBroken (DutiesHold cert node s (entry_duties_of plan node.key p s shape n)) entered
    → FindsLeastBroken (DutiesHold cert node s (misaligned_duties_of b plan node.key s shape)) misaligned → FindsLeastBroken (DutiesHold cert node s (interrupt_duties_of plan node.key s)) interrupts
    → FindsLeastBroken (DutiesHold cert node s (exit_duties_of node.key s shape)) leaving
    → FindsLeastBroken (DutiesHold cert node s (duties_of b image plan node.key p s shape n)) (lesser_broken_rule (lesser_broken_rule (lesser_broken_rule (lesser_broken_rule jumps entered) misaligned) interrupts) leaving)
unfolding duties_of
parts_found b image plan cert node p s shape n jumps entered misaligned interrupts leaving j e m i l =
    let js = successor_duties_of b image plan p s shape n in
    let es = entry_duties_of plan node.key p s shape n in
    let ms = misaligned_duties_of b plan node.key s shape in
    let is = interrupt_duties_of plan node.key s in
    duties_append cert node s (js ++ es ++ ms ++ is) (exit_duties_of node.key s shape) _ leaving
    (duties_append cert node s (js ++ es ++ ms) is _ interrupts (duties_append cert node s (js ++ es) ms _ misaligned (duties_append cert node s js es jumps entered j e) m) i) l

-- there is room if the instruction breaks no rule by itself
pub room_at : (b : Limits) (image : ImageData) (plan : PlanData) (key : Key) (p : ℕ) (s : State) (found : Located) → IsFaultlessShape b image plan key p s found → LocalsFitInstruction b found.shape s
room_at b image plan key p s found f = ((f.faultless 8).own found.shape found.size f.code).room refl

-- without an interrupt there is no duty
pub interrupts_none : (plan : PlanData) (key : Key) (s : State) (irqs : List ℕ) → irqs ≡ possible_irqs_of plan s → length irqs ≡ 0 → [] ≡ interrupt_duties_of plan key s
interrupts_none plan key s [] e len = ap (λ (l : List ℕ). map (λ p. owed 11 (enter (irq_key plan p) (irq_entry plan key s p))) l) e
interrupts_none plan key s (p ∷ ps) e len = absurd (omega arith)

-- and none if interrupts are disabled
pub disabled_none : (plan : PlanData) (key : Key) (s : State) → s.ie ≡ false → [] ≡ interrupt_duties_of plan key s
disabled_none plan key s e = rw e refl

-- without its trap in the plan no access owes an entry
pub untrapped_none : (b : Limits) (image : ImageData) (plan : PlanData) (key : Key) (p : ℕ) (s : State) (found : Located) → IsFaultlessShape b image plan key p s found → plan.aln ≡ false → [] ≡ misaligned_duties_of b plan key s found.shape
untrapped_none b image plan key p s found f off = sym (owes_no_access b plan key s found.shape (((f.faultless 10).own found.shape found.size f.code).accesses refl) off)
