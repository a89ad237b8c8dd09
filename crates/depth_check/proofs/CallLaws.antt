-- Calls and jumps by a register that hold in a state hold at each point that has the state.
use Rattle.std.proofs.Common.{◌≡◌, ◌+◌, ◌≤◌, Bool, true, length, refl, arith, ℕ, List, [], ◌∷◌, Option, Some, None, drop, ◌∙◌, sym, ap, subst}
use Rattle.std.specs.Prelude.{IfSome, IsSomeAnd, IsTrue, ◌↔◌, unwrap_or}
use Rattle.std.specs.List.{flat_map}
use Rattle.std.specs.Option.{option_and, option_map}
use Rattle.std.proofs.lemmas.List.Elements.{All-nil, All-cons, All-head, All-tail}
use Rattle.tcd_plan.specs.PlanData.{PlanData}
use Rattle.value_domain.specs.declared.states.State.{State}
use Rattle.value_domain.specs.State.{Covers}
use Rattle.vd_transfer.specs.Registers.{reg_of}
use Rattle.vd_transfer.specs.declared.change.Change.{Change}
use Rattle.vd_transfer.specs.Changes.{state_after}
use Rattle.depth_cert.specs.declared.keys.Key.{Key}
use Rattle.depth_cert.specs.Keys.{call_kind}
use Rattle.depth_cert.specs.Points.{find_point}
use Rattle.packed_cert.specs.EnteredAlike.{node_state_at, HaveSameEntryAndExit}
use Rattle.depth_check.specs.PointCheckData.{PointCheckData}
use Rattle.depth_check.specs.LeastBroken.{FindsLeastBrokenByDuties, lesser_broken_rule, broken_rule_unless}
use Rattle.depth_check.proofs.Deciding.{yes}
use Rattle.depth_check.proofs.DutyLaws.{entry_found}
use Rattle.depth_cert.specs.declared.points.Exit.{Exit}
use Rattle.depth_cert.specs.declared.points.Point.{Point}
use Rattle.depth_cert.specs.Exits.{state_after_return}
use Rattle.depth_cert.specs.Nodes.{NodeData, find_node}
use Rattle.depth_cert.specs.Certs.{CertData}
use Rattle.cfg_recover.specs.RulesHoldOrFail.{HasCoveringPoint}
use Rattle.cfg_recover.specs.Entries.{call_key, call_entry}
use Rattle.cfg_recover.specs.LocalRules.{targets_of_value}
use Rattle.cfg_recover.specs.Duties.{Owed, owed, enter, resume, entry_and_return}
use Rattle.packed_cert.specs.Walks.{WalkData, IsNextWithSameState}
use Rattle.depth_check.specs.declared.fast_paths.CheckedRegisters.{CheckedRegisters}
use Rattle.depth_check.specs.CheckedRegisters.{register_call_duties, RegisterCallsHold, CheckedRegistersHold, CallHolds}
use Rattle.depth_check.specs.DutiesHold.{HasPointWithState, DutyHolds, DutiesHold}

-- points with the same state cover the same states
cover_alike : (node : NodeData) (a b : ℕ) (s t : State) → HasPointWithState node a s → HasPointWithState node b s → HasCoveringPoint node a t → HasCoveringPoint node b t
cover_alike node a b s t here there h =
    let covers : Covers s t = subst (λ (o : Option Point). IsSomeAnd o (λ p. Covers p.state t)) here h in
    subst (λ (o : Option Point). IsSomeAnd o (λ p. Covers p.state t)) (sym there) covers

exit_alike : (node : NodeData) (a b kind : ℕ) (s : State) (o : Option Exit) → HasPointWithState node a s → HasPointWithState node b s → IfSome o (λ x. HasCoveringPoint node a (state_after_return s x kind)) → IfSome o (λ x. HasCoveringPoint node b (state_after_return s x kind))
exit_alike node a b kind s None here there h = tt
exit_alike node a b kind s (Some x) here there h = cover_alike node a b s (state_after_return s x kind) here there h

back_alike : (node : NodeData) (a b kind : ℕ) (s : State) (o : Option NodeData) → HasPointWithState node a s → HasPointWithState node b s
    → IfSome o (λ n. IfSome n.exit (λ x. HasCoveringPoint node a (state_after_return s x kind))) → IfSome o (λ n. IfSome n.exit (λ x. HasCoveringPoint node b (state_after_return s x kind)))
back_alike node a b kind s None here there h = tt
back_alike node a b kind s (Some n) here there h = exit_alike node a b kind s n.exit here there h

-- so what holds of calls that return to one of them holds of calls that return to another
calls_alike : (cert : CertData) (node : NodeData) (s u : State) (key : Key) (a b q : ℕ) (ts : List ℕ) → HasPointWithState node a s → HasPointWithState node b s
    → DutiesHold cert node s (flat_map (λ t. entry_and_return 5 (call_key key t) u a) ts) q → DutiesHold cert node s (flat_map (λ t. entry_and_return 5 (call_key key t) u b) ts) q
calls_alike cert node s u key a b q [] here there h = All-nil (DutyHolds cert node s q)
calls_alike cert node s u key a b q (t ∷ ts) here there h =
    let k = call_key key t in
    let into = owed 5 (enter k u) in
    let rest : ℕ → List Owed = λ back. flat_map (λ x. entry_and_return 5 (call_key key x) u back) ts in
    let on = All-tail (DutyHolds cert node s q) into (owed 4 (resume k a) ∷ rest a) h in
    All-cons (DutyHolds cert node s q) into (owed 4 (resume k b) ∷ rest b) (All-head (DutyHolds cert node s q) into (owed 4 (resume k a) ∷ rest a) h)
    (All-cons (DutyHolds cert node s q) (owed 4 (resume k b)) (rest b)
    (record {
      met = λ e. back_alike node a b k.kind s (find_node k cert.nodes) here there ((All-head (DutyHolds cert node s q) (owed 4 (resume k a)) (rest a) on).met e);
      need = λ e. tt;
    })
    (calls_alike cert node s u key a b q ts here there (All-tail (DutyHolds cert node s q) (owed 4 (resume k a)) (rest a) on)))

-- calls that hold if they return to one point with the state
pub calls_kept : (plan : PlanData) (cert : CertData) (node : NodeData) (s : State) (r : ℕ) (next : Option ℕ) (back : ℕ) → next ≡ Some back → IfSome next (λ a. HasPointWithState node a s)
    → ((q : ℕ) → DutiesHold cert node s (register_call_duties plan node.key s r back) q) → RegisterCallsHold plan cert node s r
calls_kept plan cert node s r next back e there h = λ other stands q.
    calls_alike cert node s (call_entry s) node.key back other q (unwrap_or (targets_of_value (reg_of plan s r)) []) (subst (λ (o : Option ℕ). IfSome o (λ a. HasPointWithState node a s)) e there) stands (h q)

-- hold if they return to another
pub kept_calls : (plan : PlanData) (cert : CertData) (node : NodeData) (s : State) (r : ℕ) (called next : Option ℕ) (back : ℕ) → called ≡ Some r → next ≡ Some back → IfSome called (RegisterCallsHold plan cert node s) → IfSome next (λ a. HasPointWithState node a s)
    → (q : ℕ) → DutiesHold cert node s (register_call_duties plan node.key s r back) q
kept_calls plan cert node s r called next back e f h there =
    (subst (λ (o : Option ℕ). IfSome o (RegisterCallsHold plan cert node s)) e h) back (subst (λ (o : Option ℕ). IfSome o (λ a. HasPointWithState node a s)) f there)

-- ---- from point to point
-- calls and jumps by these registers hold in the state of the next point
abbrev pub HoldsNext : PlanData → CertData → NodeData → List Point → CheckedRegisters → Type 0
HoldsNext plan cert node left rs = (p : Point) (after : List Point) → left ≡ p ∷ after → CheckedRegistersHold plan cert node p.state rs

pub next_holds : (plan : PlanData) (cert : CertData) (node : NodeData) (left after : List Point) (p : Point) (s : State) (rs : CheckedRegisters) → HoldsNext plan cert node left rs → left ≡ p ∷ after → s ≡ p.state → CheckedRegistersHold plan cert node s rs
next_holds plan cert node left after p s rs h e f = subst (λ (t : State). CheckedRegistersHold plan cert node t rs) (sym f) (h p after e)

first_same : (p q : Point) (ps qs : List Point) → p ∷ ps ≡ q ∷ qs → p ≡ q
first_same p q ps qs e = cc

-- they do if that is the current state
pub holds_next : (plan : PlanData) (cert : CertData) (node : NodeData) (w : WalkData) (s : State) (repeats : Option ℕ) (rs : CheckedRegisters) → s ≡ w.current → IfSome repeats (IsNextWithSameState w) → CheckedRegistersHold plan cert node s rs
    → HoldsNext plan cert node w.left (record { called = option_and repeats rs.called; jumped = option_and repeats rs.jumped })
holds_next plan cert node w s None rs e f h = λ p after split. record { called = tt; jumped = tt }
holds_next plan cert node w s (Some a) rs e f h = λ p after split.
    subst (λ (t : State). CheckedRegistersHold plan cert node t rs) (e ∙ ap (λ (q : Point). q.state) (first_same (record { addr = a; state = w.current }) p (drop 1 w.left) after (sym f ∙ split))) h

-- ---- nodes that are entered alike
state_covers : (a b : ℕ) (n m : NodeData) (t : State) → node_state_at a n ≡ node_state_at b m → HasCoveringPoint n a t → HasCoveringPoint m b t
state_covers a b n m t e h = covers (find_point b m.points) (subst (λ (o : Option State). IsSomeAnd o (λ s. Covers s t)) e (states (find_point a n.points) h))
  where
    states : (o : Option Point) → IsSomeAnd o (λ p. Covers p.state t) → IsSomeAnd (option_map (λ p. p.state) o) (λ s. Covers s t)
    states None h = absurd h
    states (Some p) h = h

    covers : (o : Option Point) → IsSomeAnd (option_map (λ p. p.state) o) (λ s. Covers s t) → IsSomeAnd o (λ p. Covers p.state t)
    covers None h = absurd h
    covers (Some p) h = h

-- what a call asks of the called node, if the call of another node holds that is entered alike
met_alike : (cert : CertData) (node : NodeData) (s t : State) (h k : Key) (back : ℕ) (m : NodeData) (o : Option NodeData) → h.kind ≡ k.kind → HaveSameEntryAndExit cert.nodes h k → find_node k cert.nodes ≡ Some m → find_node h cert.nodes ≡ o
    → IsSomeAnd o (λ n. HasCoveringPoint n h.entry t) → IfSome o (λ n. IfSome n.exit (λ x. HasCoveringPoint node back (state_after_return s x h.kind))) → HasCoveringPoint m k.entry t × IfSome m.exit (λ x. HasCoveringPoint node back (state_after_return s x k.kind))
met_alike cert node s t h k back m None kind alike found other into on = absurd into
met_alike cert node s t h k back m (Some n) kind alike found other into on =
    let same = alike n m other found in (
      state_covers h.entry k.entry n m t same.0 into,
      subst (λ (d : ℕ). IfSome m.exit (λ x. HasCoveringPoint node back (state_after_return s x d))) kind (subst (λ (e : Option Exit). IfSome e (λ x. HasCoveringPoint node back (state_after_return s x h.kind))) same.1 on),
    )

pub lesser_none : (o : Option ℕ) → lesser_broken_rule o None ≡ o
lesser_none None = refl
lesser_none (Some r) = refl

-- so only its need is asked
pub alike_found : (at : PointCheckData) (entry : Change) (h k : Key) (back : ℕ) (m : NodeData) (need : Bool) → k.kind ≡ call_kind → CallHolds at entry back h → HaveSameEntryAndExit (at.cert).nodes h k → find_node k (at.cert).nodes ≡ Some m
    → (IsTrue need ↔ (length (at.point.state).locals.items + 1 + m.need ≤ (at.node).need)) → FindsLeastBrokenByDuties at (entry_and_return 5 k (state_after at.point.state entry) back) (broken_rule_unless need 14)
alike_found at entry h k back m need kind held alike found d =
    let t = state_after at.point.state entry in
    let holds = DutyHolds at.cert at.node at.point.state in
    let into = (All-head (holds 5) (owed 5 (enter h t)) (owed 4 (resume h back) ∷ []) (held.holds 5)).met refl in
    let on = (All-head (holds 4) (owed 4 (resume h back)) [] (All-tail (holds 4) (owed 5 (enter h t)) (owed 4 (resume h back) ∷ []) (held.holds 4))).met refl in
    let both = met_alike at.cert at.node at.point.state t h k back m (find_node h (at.cert).nodes) (held.kind ∙ sym kind) alike found refl into on in
    rw (lesser_none (broken_rule_unless need 14)) at (entry_found at.cert at.node at.point.state 5 k t (Some back) m true need true found (omega arith) (yes _ both.0) d (yes _ both.1))
