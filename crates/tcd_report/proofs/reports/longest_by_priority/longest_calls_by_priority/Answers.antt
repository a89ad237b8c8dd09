use Rattle.std.proofs.Common.{◌≡◌, ◌∙◌, ℕ, cond, Some, ap, sym, arith}
use Rattle.std.specs.Prelude.{nat_eq}
use Rattle.std.specs.HashMap.{get}
use Rattle.std.proofs.lemmas.Option.{slice_get_within, get_or_from_slice_get}
use Rattle.depth_cert.specs.declared.keys.Key.{Key}
use Rattle.depth_cert.specs.Nodes.{NodeData}
use Rattle.depth_cert.specs.Keys.{key_eq}
use Rattle.tcd_report.specs.Reports.Longest.{longest_so_far}
use Rattle.tcd_report.proofs.ReportLemmas.LongestLaws.{longest_more, longest_all}
use Rattle.packed_cert.proofs.WalkedPoints.{never_none, got}
use Rattle.tcd_report.proofs.reports.longest_by_priority.longest_calls_by_priority.Goals as goal

pub unreachable-requires : goal.unreachable-requires
unreachable-requires c = never_none (c.args.cert.now).nodes c.loop-i.i (omega (arith, c.loop-i-test.true, c.len-i-end.ensures)) c.in_default.ensures

pub unreachable-requires-in_default-get : goal.unreachable-requires-in_default-get
unreachable-requires-in_default-get c =
    let known = c.requires c.in-Some.node (got (c.args.cert.now).nodes c.loop-i.i c.in-Some.node c.in-Some.ensures).2 in
    cc (c.in_default-get.ensures.value ∙ ap (get key_eq c.args.heights.now) (ap (λ (n : NodeData). n.key) c.node.view_is) ∙ known.1)

pub loop-i-preserved : goal.loop-i-preserved
loop-i-preserved c =
    let heights = c.args.heights.now in
    let nodes = (c.args.cert.now).nodes in
    let node = c.in-Some.node in
    let found = sym c.in-Some.ensures in
    let rows = c.loop-i.rows in
    let h : ℕ = c.in-Some-get.height.now in
    let n : ℕ = c.longest_so_far-most.result in
    let key_is = ap (λ (n : NodeData). n.key) c.node.view_is in
    let prio_is = c.from-prio.ensures ∙ ap (λ (k : Key). k.prio) key_is in
    let told : get key_eq heights node.key ≡ Some h = sym (ap (get key_eq heights) key_is) ∙ sym c.in-Some-get.ensures.value in
    let is : n ≡ longest_so_far (get nat_eq rows (node.key).prio) h =
    c.longest_so_far-most.ensures ∙ ap (λ o. longest_so_far o h) c.get-in-loop-i-2.ensures.value ∙ ap (λ p. longest_so_far (get nat_eq rows p) h) prio_is in
    longest_more heights rows c.insert.new.self nodes c.loop-i.i node h n (slice_get_within nodes c.loop-i.i node found) (sym (get_or_from_slice_get nodes c.loop-i.i node node found)) told is
    (λ q. c.in_ok-insert.ensures.updates.0 q ∙ ap (λ p. cond (nat_eq p q) (Some n) (get nat_eq rows q)) prio_is) c.loop-i.invariant

pub returns : goal.returns
returns c = longest_all c.args.heights.now c.loop-i.rows (c.args.cert.now).nodes c.loop-i.i (omega (arith, c.loop-i-test.false, c.len-i-end.ensures)) c.loop-i.invariant
