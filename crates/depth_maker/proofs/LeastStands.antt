-- A derived closed assignment without faults, within the limits, is the least one.
use Rattle.elf_image.specs.Images.{ImageData}
use Rattle.tcd_plan.specs.PlanData.{PlanData}
use Rattle.value_domain.specs.Limits.{Limits}
use Rattle.cfg_recover.specs.Assignments.{Assignment, Derived, Closed, ArePointsFaultless}
use Rattle.cfg_recover.specs.CertRefusals.{IsPastCertLimits, IsLeastAssignment}
use Rattle.depth_maker.specs.MakerLaws.{AreMakerLaws}
use Rattle.depth_maker.proofs.Below.{fault_refuted}
use Rattle.depth_maker.proofs.TableLaws.{derived_well_formed}

pub least_stands : (b : Limits) (image : ImageData) (plan : PlanData) → AreMakerLaws b image plan → (a : Assignment) → Derived b image plan a → Closed b image plan a → ArePointsFaultless b image plan a → (IsPastCertLimits a → ⊥)
    → IsLeastAssignment b image plan a
least_stands b image plan laws a derived closed faultless within = record {
  derived = derived;
  closed = closed;
  faultless = fault_refuted b image plan laws a closed faultless (derived_well_formed b image plan laws a derived) within;
}
