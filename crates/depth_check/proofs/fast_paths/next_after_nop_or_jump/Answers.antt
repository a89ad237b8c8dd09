use Rattle.std.proofs.Common.{subst}
use Rattle.tc_isa.specs.declared.shapes.Shape.{Shape}
use Rattle.cfg_recover.specs.Code.{IsCode}
use Rattle.depth_check.specs.PointChecks.{point_check_data}
use Rattle.depth_check.proofs.IdleLaws.{nothing_passes, jump_passes}
use Rattle.depth_check.proofs.fast_paths.next_after_nop_or_jump.Goals as goal

pub returns-in-Nothing : goal.returns-in-Nothing
returns-in-Nothing c =
    let t = point_check_data c.at.inside in
    rw (← c.at.view_is)
    (nothing_passes t.image t.plan t.point.addr c.in-Some.found.size
    (subst (λ (x : Shape). IsCode t.image t.plan t.point.addr x c.in-Some.found.size) c.in-Nothing.is c.in-Some.ensures.code))

pub returns-in-Jump : goal.returns-in-Jump
returns-in-Jump c =
    let t = point_check_data c.at.inside in
    rw (← c.at.view_is)
    (jump_passes t.image t.plan t.point.addr c.in-Some.found.size c.in-Jump.to c.direct_target.result
    (subst (λ (x : Shape). IsCode t.image t.plan t.point.addr x c.in-Some.found.size) c.in-Jump.is c.in-Some.ensures.code)
    c.direct_target.ensures.target)
