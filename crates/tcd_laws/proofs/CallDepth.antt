-- The frames of a run that were entered by calls are a call chain of the certificate.
use Rattle.std.proofs.Common.{◌≡◌, ◌<◌, ◌+◌, ◌==◌, ℕ, zero, suc, Bool, true, false, cond, List, [], ◌∷◌, Some, refl, sym, ap, subst, ◌∙◌, arith, Contains}
use Rattle.std.proofs.lemmas.Bool.{eqb-true}
use Rattle.std.proofs.lemmas.List.Elements.{All-contains}
use Rattle.std.specs.Prelude.{All, Any, filter, map}
use Rattle.std.specs.List.{range_with_len, list_any}
use Rattle.std.proofs.lemmas.Bool.{eq-eqb}
use Rattle.std.proofs.lemmas.List.Folds.{list_any_at}
use Rattle.std.proofs.lemmas.List.FromFn.{length-range_with_len, get_or-range_with_len}
use Rattle.elf_image.specs.Images.{ImageData}
use Rattle.tcd_plan.specs.PlanData.{PlanData}
use Rattle.tc_machine.specs.declared.events.Event.{Event}
use Rattle.tc_machine.specs.declared.state.Machine.{Machine}
use Rattle.tc_machine.specs.Instructions.{wrapping_sum}
use Rattle.tc_machine.specs.Fetching.{fetched_instruction, fetched_size}
use Rattle.tc_machine.specs.Stepping.{run, step}
use Rattle.tc_machine.specs.Safe.{AllFit, Fits}
use Rattle.tc_isa.specs.declared.shapes.Shape.{Shape}
use Rattle.depth_cert.specs.declared.keys.Key.{Key}
use Rattle.depth_cert.specs.declared.points.Point.{Point}
use Rattle.depth_cert.specs.Keys.{number_of_key, call_kind}
use Rattle.depth_cert.specs.Points.{find_point}
use Rattle.depth_cert.specs.Nodes.{NodeData, IsNode, find_node}
use Rattle.depth_cert.specs.Certs.{CertData, IsCert}
use Rattle.depth_cert.proofs.KeyLaws.{found_in, one_number}
use Rattle.cfg_recover.specs.Code.{IsCode}
use Rattle.cfg_recover.specs.Duties.{Owed, duties_of, keys_entered_by_duty, owed, enter}
use Rattle.cfg_recover.specs.Entries.{start_key, call_key, handler_key}
use Rattle.cfg_recover.specs.Frames.{RunFrame, frames, frames_from, frames_after_edge, frames_after_step}
use Rattle.cfg_recover.specs.EdgesAreOwed.{IsEdgeOwedByFrames, IsEdgeWayOwed, OwesEntry}
use Rattle.cfg_recover.specs.StepEdges.{EdgeWay, to, call, irq, sys, aln, ret, rfe, edge_way_of_step}
use Rattle.cfg_recover.specs.RulesHoldOrFail.{limits_of_cert}
use Rattle.cfg_recover.proofs.Members.{contains_first, contains_flat, contains_filter, contained_map}
use Rattle.depth_check.proofs.Frames.{Frame, standing}
use Rattle.depth_check.proofs.Sound.{held}
use Rattle.depth_check.proofs.Held.{edges_are_owed}
use Rattle.tcd_report.specs.Graphs.{call_rule}
use Rattle.tcd_report.specs.Reports.Calls.{NodeCalls, HasCallChain, called_keys_of}
use Rattle.tcd_report.specs.Reports.Longest.{IsLongestCallChain, priorities_below, priority_count, priorities_of}
use Rattle.tcd_laws.specs.CallDepth.{nested_calls, ReportsBoundNestedCalls}

module _ (image : ImageData) (plan : PlanData) (cert : CertData) (is_cert : IsCert cert) where
  -- a node of the certificate with this key
  record HasNode (key : Key) : Type 0 where
    node : NodeData
    stands : Contains cert.nodes node
    is : node.key ≡ key

  -- a node with the caller's key calls the function with the callee's, at its own priority
  record NodeOfKeyCalls (caller callee : Key) : Type 0 where
    from : HasNode caller
    calls : NodeCalls image plan cert from.node callee
    prio : callee.prio ≡ caller.prio

  -- Each frame of a run has a node. One that was entered by a call is called by the node of the
  -- frame below it; the oldest wasn't.
  abbrev AreLinked : List RunFrame → Type 0
  AreLinked [] = ⊥
  AreLinked (f ∷ []) = HasNode f.key × ((f.key).kind ≡ call_kind → ⊥)
  AreLinked (f ∷ g ∷ fs) = HasNode f.key × ((f.key).kind ≡ call_kind → NodeOfKeyCalls g.key f.key) × AreLinked (g ∷ fs)

  abbrev HasNewestNode : List RunFrame → Type 0
  HasNewestNode [] = ⊥
  HasNewestNode (f ∷ fs) = HasNode f.key

  -- two nodes of one number have one key
  key_of_found : (key : Key) (node : NodeData) → HasNode key → find_node key cert.nodes ≡ Some node → Contains cert.nodes node × (node.key ≡ key)
  key_of_found key node known e =
      let there = found_in (λ n. number_of_key n.key == number_of_key key) cert.nodes node e in
      let mine = All-contains (IsNode cert.version) cert.nodes node is_cert.nodes there.0 in
      let its = All-contains (IsNode cert.version) cert.nodes known.node is_cert.nodes known.stands in
      let one = one_number node.key (known.node).key mine.key its.key (eqb-true (number_of_key node.key) (number_of_key key) there.1 ∙ ap number_of_key (sym known.is)) in
      (there.0, one ∙ known.is)

  -- the step of a call
  calls_by_edge : (m : Machine) (f : RunFrame) (node : NodeData) (point : Point) (shape : Shape) (size q : ℕ)
      → HasNode f.key → find_node f.key cert.nodes ≡ Some node → find_point m.pc node.points ≡ Some point → IsCode image plan m.pc shape size
      → OwesEntry (duties_of (limits_of_cert plan cert) image plan f.key m.pc point.state shape size) 5 (call_key f.key q) → NodeOfKeyCalls f.key (call_key f.key q)
  calls_by_edge m f node point shape size q known stands found code owes =
      let mine = key_of_found f.key node known stands in
      let there = found_in (λ (p : Point). p.addr == m.pc) node.points point found in
      let same : point.addr ≡ m.pc = eqb-true point.addr m.pc there.1 in
      let key = call_key f.key q in
      record {
        from = record { node = node; stands = mine.0; is = mine.1 };
        calls = record {
          point = point;
          stands = there.0;
          at = record {
            shape = shape;
            size = size;
            code = subst (λ p. IsCode image plan p shape size) (sym same) code;
            called =
                subst (λ p. Contains (called_keys_of (duties_of (limits_of_cert plan cert) image plan (node.key) p point.state shape size)) key) (sym same)
                (subst (λ (k : Key). Contains (called_keys_of (duties_of (limits_of_cert plan cert) image plan k m.pc point.state shape size)) key) (sym mine.1)
                (contains_flat (λ d. cond (d.rule == call_rule) (keys_entered_by_duty d.duty) []) key (owed 5 (enter key owes.0)) (duties_of (limits_of_cert plan cert) image plan f.key m.pc point.state shape size)
                owes.1 (contains_first key [])));
          };
        };
        prio = refl;
      }

  -- ---- one step
  resumed : (f : RunFrame) (at : ℕ) (fs : List RunFrame) → AreLinked (f ∷ fs) → AreLinked (record { key = f.key; at = at } ∷ fs)
  resumed f at [] h = h
  resumed f at (g ∷ fs) h = h

  entered : (key : Key) (q at : ℕ) (f : RunFrame) (fs : List RunFrame) → AreLinked (f ∷ fs) → HasNode key → (key.kind ≡ call_kind → NodeOfKeyCalls f.key key)
      → AreLinked (record { key = key; at = q } ∷ record { key = f.key; at = at } ∷ fs)
  entered key q at f fs h known calls = (known, calls, resumed f at fs h)

  -- the frames after a step in each way, if the newest one then has a node
  linked_by_way : (m : Machine) (p next prio q : ℕ) (f : RunFrame) (older : List RunFrame) (ds : List Owed) (w : EdgeWay) → AreLinked (f ∷ older)
      → (OwesCall : (x : ℕ) → OwesEntry ds 5 (call_key f.key x) → NodeOfKeyCalls f.key (call_key f.key x))
      → IsEdgeWayOwed ds f.key prio (f ∷ older) q w → HasNewestNode (frames_after_edge p next prio w (f ∷ older)) → AreLinked (frames_after_edge p next prio w (f ∷ older))
  linked_by_way m p next prio q f older ds (to x) h calls owed known = resumed f x older h
  linked_by_way m p next prio q f older ds (call x) h calls owed known = entered (call_key f.key x) x next f older h known (λ e. calls x owed)
  linked_by_way m p next prio q f older ds (irq x) h calls owed known = entered (handler_key 2 x prio) x p f older h known (λ e. absurd (omega (arith, e)))
  linked_by_way m p next prio q f older ds (sys x) h calls owed known = entered (handler_key 3 x (f.key).prio) x next f older h known (λ e. absurd (omega (arith, e)))
  linked_by_way m p next prio q f older ds (aln x) h calls owed known = entered (handler_key 4 x (f.key).prio) x p f older h known (λ e. absurd (omega (arith, e)))
  linked_by_way m p next prio q f [] ds ret h calls owed known = absurd owed
  linked_by_way m p next prio q f (g ∷ fs) ds ret h calls owed known = h.2
  linked_by_way m p next prio q f [] ds rfe h calls owed known = absurd owed
  linked_by_way m p next prio q f (g ∷ fs) ds rfe h calls owed known = h.2

  linked_step : (m : Machine) (e : Event) (fs : List RunFrame) → AreLinked fs → IsEdgeOwedByFrames image plan cert m e fs → HasNewestNode fs → HasNewestNode (frames_after_step m e fs) → AreLinked (frames_after_step m e fs)
  linked_step m e [] h owes now next = absurd h
  linked_step m e (f ∷ older) h owes now next =
      linked_by_way m m.pc (wrapping_sum m.pc (fetched_size (fetched_instruction m))) e.irq (step m e).pc f older
      (duties_of (limits_of_cert plan cert) image plan f.key m.pc (owes.point).state owes.shape owes.size) (edge_way_of_step m e) h
      (λ x entry. calls_by_edge m f owes.node owes.point owes.shape owes.size x now owes.stands owes.found owes.code entry) owes.owed next

  -- ---- a run
  linked_from : (m : Machine) (fs : List RunFrame)
      → ((es : List Event) (e : Event) → AllFit plan m es → Fits plan (run m es) e → IsEdgeOwedByFrames image plan cert (run m es) e (frames_from m es fs))
      → ((es : List Event) → AllFit plan m es → HasNewestNode (frames_from m es fs))
      → AreLinked fs → (es : List Event) → AllFit plan m es → AreLinked (frames_from m es fs)
  linked_from m fs owes known linked [] fit = linked
  linked_from m fs owes known linked (x ∷ es) fit =
      linked_from (step m x) (frames_after_step m x fs) (λ ys y f l. owes (x ∷ ys) y (fit.0, f) l) (λ ys f. known (x ∷ ys) (fit.0, f))
      (linked_step m x fs linked (owes [] x tt fit.0) (known [] tt) (known (x ∷ []) (fit.0, tt))) es fit.1

  -- ---- call chains
  plus_none : (n : ℕ) → n ≡ zero + n
  plus_none n = omega arith

  -- a node at this priority begins a call chain of this length
  abbrev HasBase : ℕ → ℕ → Type 0
  HasBase prio n = (base : NodeData) × Contains cert.nodes base × ((base.key).prio ≡ prio) × HasCallChain image plan cert base n

  over_caller : (f g : RunFrame) (more : ℕ) (node : NodeData) (n : ℕ) → Contains cert.nodes node → node.key ≡ f.key → HasCallChain image plan cert node n → ((f.key).kind ≡ call_kind → NodeOfKeyCalls g.key f.key)
      → ((from : NodeData) → Contains cert.nodes from → from.key ≡ g.key → HasCallChain image plan cert from (suc n) → HasBase (g.key).prio (more + suc n))
      → (b : Bool) → ((f.key).kind == call_kind) ≡ b → HasBase (f.key).prio (cond b (suc more) zero + n)
  over_caller f g more node n stands is chain calls go true e =
      let c = calls (eqb-true (f.key).kind call_kind e) in
      let from = c.from in
      let longer : HasCallChain image plan cert from.node (suc n) = (node, (stands, (subst (λ (k : Key). NodeCalls image plan cert from.node k) (sym is) c.calls, chain))) in
      let r = go from.node from.stands from.is longer in
      let same : more + suc n ≡ suc more + n = omega arith in
      (r.0, r.1, r.2 ∙ sym c.prio, subst (HasCallChain image plan cert r.0) same r.3)
  over_caller f g more node n stands is chain calls go false e = (node, stands, ap (λ (k : Key). k.prio) is, subst (HasCallChain image plan cert node) (plus_none n) chain)

  over_oldest : (f : RunFrame) (node : NodeData) (n : ℕ) → Contains cert.nodes node → node.key ≡ f.key → HasCallChain image plan cert node n → ((f.key).kind ≡ call_kind → ⊥)
      → (b : Bool) → ((f.key).kind == call_kind) ≡ b → HasBase (f.key).prio (cond b (suc zero) zero + n)
  over_oldest f node n stands is chain oldest true e = absurd (oldest (eqb-true (f.key).kind call_kind e))
  over_oldest f node n stands is chain oldest false e = (node, stands, ap (λ (k : Key). k.prio) is, subst (HasCallChain image plan cert node) (plus_none n) chain)

  chain_from_base : (f : RunFrame) (fs : List RunFrame) (node : NodeData) (n : ℕ) → Contains cert.nodes node → node.key ≡ f.key → HasCallChain image plan cert node n → AreLinked (f ∷ fs)
      → HasBase (f.key).prio (nested_calls (f ∷ fs) + n)
  chain_from_base f [] node n stands is chain linked = over_oldest f node n stands is chain linked.1 ((f.key).kind == call_kind) refl
  chain_from_base f (g ∷ fs) node n stands is chain linked =
      over_caller f g (nested_calls (g ∷ fs)) node n stands is chain linked.1
      (λ from there same longer. chain_from_base g fs from (suc n) there same longer linked.2) ((f.key).kind == call_kind) refl

-- ---- the law
numbers_have : (p : ℕ) → p < 256 → Contains (range_with_len 0 256) p
numbers_have p small =
    let same : zero + p ≡ p = omega arith in
    (p, omega (arith, length-range_with_len 0 256), get_or-range_with_len 0 256 p p small ∙ same)

priorities_are : (nodes : List NodeData) → priorities_of nodes ≡ filter (λ q. list_any (λ (n : NodeData). (n.key).prio == q) nodes) (range_with_len 0 256)
unfolding priorities_below priority_count
priorities_are nodes = refl

newest_node : (image : ImageData) (plan : PlanData) (cert : CertData) (is_cert : IsCert cert) (pc : ℕ) (frame : Frame) (below : List Frame) → Contains cert.nodes frame.node → HasNewestNode image plan cert is_cert (standing pc frame below)
newest_node image plan cert is_cert pc frame [] stands = record { node = frame.node; stands = stands; is = refl }
newest_node image plan cert is_cert pc frame (s ∷ below) stands = record { node = frame.node; stands = stands; is = refl }

-- the row of the report for a priority that a node has
any_mapped : {X : Type 0} (xs : List X) (f : X → ℕ) (P : X → Type 0) (y : ℕ) → Contains (map f xs) y → All P xs → Any (λ x. (f x ≡ y) × P x) xs
any_mapped xs f P y at all =
    let r = contained_map f xs y at in
    ((r.1).0, r.0, (r.1).1, (r.1).2, (r.2, All-contains P xs r.0 all r.1))

priority_listed : (cert : CertData) → IsCert cert → (node : NodeData) → Contains cert.nodes node → Contains (priorities_of cert.nodes) (node.key).prio
priority_listed cert is_cert node stands =
    let p = (node.key).prio in
    let test = λ (q : ℕ). list_any (λ (n : NodeData). (n.key).prio == q) cert.nodes in
    let small = ((All-contains (IsNode cert.version) cert.nodes node is_cert.nodes stands).key).prio in
    let passes : test p ≡ true =
    list_any_at (λ (n : NodeData). (n.key).prio == p) cert.nodes stands.0 node stands.1 (ap (λ (n : NodeData). (n.key).prio == p) stands.2 ∙ eq-eqb p p refl) in
    subst (λ ps. Contains ps p) (sym (priorities_are cert.nodes)) (contains_filter test p (range_with_len 0 256) (numbers_have p small) passes)

pub calls_are_within : ReportsBoundNestedCalls
calls_are_within image plan cert ok is_cert accepted text report m es start fit f older are =
    let known : (ys : List Event) → AllFit plan m ys → HasNewestNode image plan cert is_cert (frames image plan m ys) =
    λ ys l.
    let g = held image plan ok cert is_cert accepted m ys start l in
    let there = found_in (λ n. number_of_key n.key == number_of_key ((g.frame).node).key) cert.nodes (g.frame).node (g.kept).stands in
    subst (HasNewestNode image plan cert is_cert) g.stands (newest_node image plan cert is_cert (run m ys).pc g.frame g.below there.0) in
    let linked = linked_from image plan cert is_cert m (record { key = start_key image plan; at = m.pc } ∷ []) (λ ys y a b. edges_are_owed image plan cert ok is_cert accepted m ys y start a b) known
    (known [] tt, λ e. absurd (omega (arith, e))) es fit in
    let here : AreLinked image plan cert is_cert (f ∷ older) = subst (AreLinked image plan cert is_cert) are linked in
    let newest : HasNode image plan cert is_cert f.key = subst (HasNewestNode image plan cert is_cert) are (known es fit) in
    let r = chain_from_base image plan cert is_cert f older newest.node 0 newest.stands newest.is tt here in
    let listed = subst (λ ps. Contains ps (f.key).prio) (sym report.prios) (subst (Contains (priorities_of cert.nodes)) (ap (λ (k : Key). k.prio) newest.is) (priority_listed cert is_cert newest.node newest.stands)) in
    let row = any_mapped report.rows (λ r. r.prio) (λ r. IsLongestCallChain image plan cert r.prio r.longest) (f.key).prio listed report.longest in
    let here = row.4 in
    let bound = (here.1).most r.0 (nested_calls (f ∷ older) + 0) r.1 (r.2 ∙ sym here.0) r.3 in
    (row.0, row.1, row.2, row.3, (here.0, omega (arith, bound)))
