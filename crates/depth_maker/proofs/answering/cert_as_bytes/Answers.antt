use Rattle.std.proofs.Common.{subst, sym}
use Rattle.elf_image.specs.Images.{IsImage}
use Rattle.tcd_plan.specs.PlanData.{IsPlan}
use Rattle.value_domain.specs.Limits.{AreLimits}
use Rattle.cfg_recover.proofs.PointLaws.{limits_are}
use Rattle.depth_maker.proofs.answering.cert_as_bytes.Goals as goal

pub invariant_of-ground : goal.invariant_of-ground
invariant_of-ground c = record {
  sound = record {
    limits = subst AreLimits (sym c.of-bounds.ensures) (limits_are c.args.plan.now c.args.version);
    is_plan = subst IsPlan c.plan.view_is c.plan.invariant;
    is_image = subst IsImage c.image.view_is c.image.invariant;
  };
}
