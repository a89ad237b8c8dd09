-- The plan and the image are what is seen of them, and the memory is filled as the plan says.
use Rattle.std.proofs.Common.{ap, subst}
use Rattle.tcd_plan.specs.PlanData.{plan_data}
use Rattle.tc_machine.specs.Starting.{IsFilledStartMemory, IsZeroFilledStart}
use Rattle.tc_machine.proofs.StartMemory.{filled_memory}
use Rattle.tc_machine.proofs.Started.{mapped_fit, state_of, starts_in_zeros}
use Rattle.tc_machine.proofs.state.Machine.start.Goals as goal

pub start_memory-requires-clause-all : goal.start_memory-requires-clause-all
start_memory-requires-clause-all c =
    rw (c.as_slice.ensures.value, c.as_slice-2.ensures.value) (mapped_fit (plan_data c.plan.inside) c.plan.invariant)

pub returns : goal.returns
returns c =
    let filled : IsFilledStartMemory c.args.image.now c.plan.inside.rom.items c.plan.inside.ram.items c.plan.inside.csa_at c.plan.inside.areas c.in_ok-mem.mem =
    rw (c.as_slice.ensures.value, c.as_slice-2.ensures.value) at c.in_ok-mem.ensures in
    subst (λ p. IsZeroFilledStart c.args.image.now p (state_of (plan_data c.plan.inside) c.image.inside.entry c.psw_at_start.result c.link_of_area_at-first.result c.in_ok-mem.mem)) c.plan.view_is
    (starts_in_zeros c.args.image.now (plan_data c.plan.inside) c.in_ok-mem.mem c.image.inside.entry c.psw_at_start.result c.link_of_area_at-first.result c.plan.invariant
    (filled_memory c.args.image.now (plan_data c.plan.inside) c.in_ok-mem.mem c.plan.invariant filled) c.image.invariant.entry (ap (λ i. i.entry) c.image.view_is) c.psw_at_start.ensures c.link_of_area_at-first.ensures)
