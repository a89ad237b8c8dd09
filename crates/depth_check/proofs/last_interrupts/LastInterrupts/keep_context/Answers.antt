use Rattle.std.proofs.Common.{subst}
use Rattle.value_domain.specs.Limits.{Limits}
use Rattle.value_domain.specs.Values.{IsInLattice}
use Rattle.depth_check.specs.PointChecks.{point_check_data}
use Rattle.depth_check.proofs.InterruptLaws.{below_context}
use Rattle.depth_check.proofs.last_interrupts.LastInterrupts.keep_context.Goals as goal

pub returns : goal.returns
returns c =
    let t = point_check_data c.at.inside in
    let kept = rw (← c.at.view_is) at c.requires.interrupts in
    let value = subst (λ (l : Limits). IsInLattice l c.sp_to_keep-sp.result) c.at.invariant.limits (rw (← c.at.view_is) at c.sp_to_keep-sp.ensures.value) in
    rw (← c.at.view_is)
    (record {
      last = record {
        sp = rw c.of_state.ensures.sp value;
        holds =
            λ other s more.
            below_context t.plan t.cert t.node other c.of_state.result t.point.state s c.of_state.ensures.same more
            (rw c.of_state.ensures.sp (rw (← c.at.view_is) at c.sp_to_keep-sp.ensures.holds));
      };
      before = rw c.take-self.ensures.value kept.last;
    })
