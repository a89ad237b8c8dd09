use Rattle.std.proofs.Common.{◌≡◌, ◌<◌, ◌∙◌, ℕ, false, List, map, length, get_or, Some, sym, subst, Contains}
use Rattle.std.specs.Ordering.{is_lt, nat_cmp, ordering_then}
use Rattle.std.specs.List.Sorted.{IsPermutation, IsSortedBy}
use Rattle.std.proofs.lemmas.List.{get_or_default}
use Rattle.std.proofs.lemmas.List.Elements.{Contains-get_or}
use Rattle.depth_cert.specs.declared.keys.Key.{Key}
use Rattle.depth_cert.specs.Nodes.{NodeData}
use Rattle.depth_cert.specs.Certs.{CertData, IsCert}
use Rattle.tcd_report.specs.Reports.Heights.{IsGreatestHeightInList, IsHeightThroughCall, HasNodeHeight, need_with_key}
use Rattle.depth_cert.specs.Keys.{key_cmp}
use Rattle.tcd_report.proofs.ReportLemmas.HeightLaws.{tells_low, tells_more, has_more, height_is, ranked, callees_known, all_known}
use Rattle.tcd_report.proofs.reports.heights.node_heights.Goals as goal

pub unreachable-requires : goal.unreachable-requires
unreachable-requires c =
    let cert : CertData = c.args.judged.now.cert.now in
    let order : List (ℕ × Key) = c.deref-key-items.result.now in
    let moved : IsPermutation (map need_with_key cert.nodes) order =
    subst (λ (l : List (ℕ × Key)). IsPermutation (map need_with_key cert.nodes) l) (sym c.deref-key-items.ensures.value)
    (subst (λ (l : List (ℕ × Key)). IsPermutation l c.sort.new.self.items) c.in_ok-order.ensures c.in_ok-sort.ensures.permutation) in
    let i : ℕ = c.loop-key.key-index in
    let none : ℕ × Key = (0, record { kind = 0; entry = 0; prio = 0; is = false }) in
    cc (c.in_default.ensures ∙ ((ranked cert c.version-version.ensures.limits order moved (get_or order i none) (Contains-get_or order i none c.loop-key-test.true)).1).0)

pub height_of_node-rows-requires-clause-low : goal.height_of_node-rows-requires-clause-low
height_of_node-rows-requires-clause-low c =
    let j = c.args.judged.now in
    tells_low j.image.now j.plan.now j.cert.now (c.version-version.ensures.limits) c.requires.accepted c.loop-key.heights c.loop-key.invariant.tells

pub height_of_node-rows-requires-clause-stands : goal.height_of_node-rows-requires-clause-stands
height_of_node-rows-requires-clause-stands c =
    let cert : CertData = c.args.judged.now.cert.now in
    let order : List (ℕ × Key) = c.deref-key-items.result.now in
    let moved : IsPermutation (map need_with_key cert.nodes) order =
    subst (λ (l : List (ℕ × Key)). IsPermutation (map need_with_key cert.nodes) l) (sym c.deref-key-items.ensures.value)
    (subst (λ (l : List (ℕ × Key)). IsPermutation l c.sort.new.self.items) c.in_ok-order.ensures c.in_ok-sort.ensures.permutation) in
    let i : ℕ = c.loop-key.key-index in
    let none : ℕ × Key = (0, record { kind = 0; entry = 0; prio = 0; is = false }) in
    let r = ranked cert c.version-version.ensures.limits order moved (get_or order i none) (Contains-get_or order i none c.loop-key-test.true) in
    let node_is : c.in-Some.node ≡ r.0 = let f : Some c.in-Some.node ≡ Some r.0 = c.in-Some.ensures ∙ (r.1).0 in cc in
    subst (λ (n : NodeData). Contains cert.nodes n) (sym node_is) ((r.1).1).stands

pub loop-key-preserved : goal.loop-key-preserved
loop-key-preserved c =
    let j = c.args.judged.now in
    let cert : CertData = c.args.judged.now.cert.now in
    let is : IsCert cert = c.version-version.ensures.limits in
    let order : List (ℕ × Key) = c.deref-key-items.result.now in
    let moved : IsPermutation (map need_with_key cert.nodes) order =
    subst (λ (l : List (ℕ × Key)). IsPermutation (map need_with_key cert.nodes) l) (sym c.deref-key-items.ensures.value)
    (subst (λ (l : List (ℕ × Key)). IsPermutation l c.sort.new.self.items) c.in_ok-order.ensures c.in_ok-sort.ensures.permutation) in
    let i : ℕ = c.loop-key.key-index in
    let none : ℕ × Key = (0, record { kind = 0; entry = 0; prio = 0; is = false }) in
    let x : ℕ × Key = get_or order i none in
    let lt : i < length order = c.loop-key-test.true in
    let r = ranked cert is order moved x (Contains-get_or order i none lt) in
    let node_is : c.in-Some.node ≡ r.0 = let f : Some c.in-Some.node ≡ Some r.0 = c.in-Some.ensures ∙ (r.1).0 in cc in
    let at : x ≡ get_or order i x = get_or_default order i none x lt in
    let sorted : IsSortedBy (λ x y. is_lt (ordering_then (nat_cmp x.0 y.0) (key_cmp x.1 y.1))) order =
    subst (λ (l : List (ℕ × Key)). IsSortedBy (λ x y. is_lt (ordering_then (nat_cmp x.0 y.0) (key_cmp x.1 y.1))) l) (sym c.deref-key-items.ensures.value) c.in_ok-sort.ensures.sorted in
    let heights = c.loop-key.heights in
    let rows : ℕ = c.height_of_node-rows.result in
    let most : IsGreatestHeightInList (IsHeightThroughCall j.image.now j.plan.now cert heights (r.0).key) (r.0).points rows =
    subst (λ (n : NodeData). IsGreatestHeightInList (IsHeightThroughCall j.image.now j.plan.now cert heights n.key) n.points rows) node_is c.height_of_node-rows.ensures in
    let known = callees_known j.image.now j.plan.now cert is c.requires.accepted heights key_cmp order moved sorted i x r.0 lt at c.loop-key.invariant.all (r.1).1 in
    let told : HasNodeHeight j.image.now j.plan.now cert x.1 rows =
    record {
      node = r.0;
      stands = ((r.1).1).stands;
      key = ((r.1).1).key;
      height = height_is j.image.now j.plan.now cert is c.requires.accepted heights c.loop-key.invariant.tells r.0 rows known most;
    } in
    record {
      tells = tells_more j.image.now j.plan.now cert is c.requires.accepted heights c.insert.new.self x.1 rows c.loop-key.invariant.tells told (λ q. c.in_ok-insert.ensures.updates.0 q);
      all = has_more heights c.insert.new.self order i x rows lt at c.loop-key.invariant.all (λ q. c.in_ok-insert.ensures.updates.0 q);
    }

pub returns-clause-all : goal.returns-clause-all
returns-clause-all c =
    let cert : CertData = c.args.judged.now.cert.now in
    let is : IsCert cert = c.version-version.ensures.limits in
    let order : List (ℕ × Key) = c.deref-key-items.result.now in
    let moved : IsPermutation (map need_with_key cert.nodes) order =
    subst (λ (l : List (ℕ × Key)). IsPermutation (map need_with_key cert.nodes) l) (sym c.deref-key-items.ensures.value)
    (subst (λ (l : List (ℕ × Key)). IsPermutation l c.sort.new.self.items) c.in_ok-order.ensures c.in_ok-sort.ensures.permutation) in
    all_known cert c.loop-key.heights order c.loop-key.key-index moved c.loop-key-test.false c.loop-key.invariant.all
