use Rattle.std.proofs.Common.{◌≡◌, ◌^◌, ◌<◌, ◌+◌, take, length, get_or, Some, None, sym, ap, ◌∙◌, subst, refl, arith}
use Rattle.std.specs.Prelude.{All}
use Rattle.std.proofs.lemmas.Option.{slice_get_within, get_or_from_slice_get, slice_get-get_or, none-some}
use Rattle.elf_image.specs.Images.{ImageData}
use Rattle.depth_cert.specs.declared.keys.Key.{Key}
use Rattle.depth_cert.specs.Nodes.{NodeData, need_or_zero, find_node}
use Rattle.cfg_recover.specs.Entries.{start_key}
use Rattle.cfg_recover.specs.RulesHoldOrFail.{RulesHoldAtNode, IsFirstFault, Accepts}
use Rattle.depth_check.proofs.Deciding.{all_more, all_done}
use Rattle.depth_check.proofs.WellLaws.{well_points}
use Rattle.depth_check.proofs.FirstLaws.{start_first, node_first, need_small}
use Rattle.depth_check.proofs.verdicts.check_nodes.Goals as goal
use Rattle.depth_check.proofs.verdicts.check_nodes.Goals.{in-Some-get+in_default-first_node_fault, in_default-get}

pub returns-in_default : goal.returns-in_default
returns-in_default c =
    subst (λ (k : Key). IsFirstFault c.args.image.now c.args.plan.now c.args.cert.now 1 k c.image.inside.entry) (sym c.start_key.ensures)
    (subst (λ (i : ImageData). IsFirstFault c.args.image.now c.args.plan.now c.args.cert.now 1 (start_key c.args.image.now c.args.plan.now) i.entry) (sym c.image.view_is)
    (start_first c.args.image.now c.args.plan.now c.args.cert.now (c.in_default.ensures.none refl)))

pub returns-in-Some-first_node_fault : goal.returns-in-Some-first_node_fault
returns-in-Some-first_node_fault c =
    let nodes = (c.args.cert.now).nodes in
    let node = c.in-Some-get.node in
    let found = sym c.in-Some-get.ensures in
    subst (λ (k : Key). IsFirstFault c.args.image.now c.args.plan.now c.args.cert.now c.in-Some-first_node_fault.fault.rule k c.in-Some-first_node_fault.fault.addr)
    (sym (ap (λ (n : NodeData). n.key) c.node.view_is))
    (node_first c.args.image.now c.args.plan.now c.args.cert.now c.version.ensures.limits c.in-Some.ensures.holds nodes refl c.loop-i.i node c.in-Some-first_node_fault.fault.rule
    c.in-Some-first_node_fault.fault.addr (slice_get_within nodes c.loop-i.i node found) (sym (get_or_from_slice_get nodes c.loop-i.i node node found)) c.loop-i.invariant.before c.in-Some-first_node_fault.ensures.fault)

pub loop-i-preserved : goal.loop-i-preserved
loop-i-preserved c =
    let nodes = (c.args.cert.now).nodes in
    elim c.match-get.branch [
      | in-Some-get+in_default-first_node_fault w ↦
          let found = sym w.in-Some-get.ensures in
          record {
            before =
                all_more (RulesHoldAtNode c.args.image.now c.args.plan.now c.args.cert.now) nodes c.loop-i.i w.in-Some-get.node (slice_get_within nodes c.loop-i.i w.in-Some-get.node found)
                (sym (get_or_from_slice_get nodes c.loop-i.i w.in-Some-get.node w.in-Some-get.node found)) c.loop-i.invariant.before w.in_default-first_node_fault.ensures.fault;
            interrupts = rw w.scratch-is w.first_node_fault.ensures.interrupts;
            results = rw w.scratch-is w.first_node_fault.ensures.results;
          }
      | in_default-get w ↦
          let none : All (RulesHoldAtNode c.args.image.now c.args.plan.now c.args.cert.now) (take (c.loop-i.i + 1) nodes) =
          (λ k d h.
          let within : c.loop-i.i < length nodes = omega (arith, c.loop-i-test.true, c.len-i-end.ensures) in
          let e : None ≡ Some (get_or nodes c.loop-i.i d) = w.in_default-get.ensures ∙ slice_get-get_or nodes c.loop-i.i d within in
          absurd (none-some _ e))
          in
          record { before = none; interrupts = rw w.scratch-is c.loop-i.invariant.interrupts; results = rw w.scratch-is c.loop-i.invariant.results }
    ]

pub returns : goal.returns
returns c =
    let accepts : Accepts c.args.image.now c.args.plan.now c.args.cert.now = record {
      start = c.in-Some.ensures.holds;
      nodes =
          all_done (RulesHoldAtNode c.args.image.now c.args.plan.now c.args.cert.now) (c.args.cert.now).nodes c.loop-i.i (omega (arith, c.len-i-end.ensures, c.loop-i-test.false)) c.loop-i.invariant.before;
    } in
    let found : find_node (start_key c.args.image.now c.args.plan.now) (c.args.cert.now).nodes ≡ Some c.in-Some.start = c.in-Some.ensures.node in
    let need : c.from.result ≡ (c.in-Some.start).need = c.from.ensures ∙ ap (λ (n : NodeData). n.need) c.start.view_is in
    let entry : (c.args.image.now).entry < 2 ^ 32 = subst (λ (i : ImageData). i.entry < 2 ^ 32) c.image.view_is c.image.invariant.entry in
    (accepts, need ∙ ap need_or_zero (sym found), rw need (need_small c.args.image.now c.args.plan.now c.args.cert.now c.in-Some.start entry c.version.ensures.limits accepts found))

pub first_node_fault-requires-clause-member : goal.first_node_fault-requires-clause-member
first_node_fault-requires-clause-member c =
    let nodes = (c.args.cert.now).nodes in
    let node = c.in-Some-get.node in
    let found = sym c.in-Some-get.ensures in
    (c.loop-i.i, slice_get_within nodes c.loop-i.i node found, get_or_from_slice_get nodes c.loop-i.i node node found)

pub first_node_fault-requires-clause-points : goal.first_node_fault-requires-clause-points
first_node_fault-requires-clause-points c = well_points c.args.cert.now c.in-Some-get.node c.version.ensures.limits (first_node_fault-requires-clause-member c)
