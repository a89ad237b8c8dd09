-- What a refusal names.
use Rattle.std.proofs.Common.{ℕ, refl}
use Rattle.elf_image.specs.Images.{ImageData}
use Rattle.tcd_plan.specs.PlanData.{PlanData}
use Rattle.value_domain.specs.Limits.{Limits}
use Rattle.depth_cert.specs.declared.keys.Key.{Key}
use Rattle.cfg_recover.specs.Assignments.{Assignment, Derived}
use Rattle.cfg_recover.specs.CertRefusals.{IsFaultInAssignment, own, locals, IsRefusalFault, derived, limits, IsRefusalWithLimits, fault, recursion, need, HasRefusalReason, by_rule, by_locals, by_limits, by_recursion, by_need}
use Rattle.cfg_recover.specs.RefusalLaws.{RefusalsHaveReasons}

module _ (b : Limits) (image : ImageData) (plan : PlanData) where
  fault_says : (a : Assignment) (r : ℕ) (k : Key) (p : ℕ) → Derived b image plan a → IsFaultInAssignment b image plan a r k p → HasRefusalReason b image plan r k p
  fault_says a _ _ _ d (own r k p s at is) = by_rule a s d at is
  fault_says a _ _ _ d (locals k p s t at asks none) = by_locals a s t refl d at asks none

  any_fault_says : (r : ℕ) (k : Key) (p : ℕ) → IsRefusalFault b image plan r k p → HasRefusalReason b image plan r k p
  any_fault_says _ _ _ (derived a r k p d h) = fault_says a r k p d h
  any_fault_says _ _ _ (limits k p h) = by_limits h.before h.after refl h.derived h.within h.adds h.joins h.more

  refusal_says : (r : ℕ) (k : Key) (p : ℕ) → IsRefusalWithLimits b image plan r k p → HasRefusalReason b image plan r k p
  refusal_says _ _ _ (fault r k p h) = any_fault_says r k p h
  refusal_says _ _ _ (recursion a k p least h) = by_recursion a h.recurs.before h.recurs.into refl least h.recurs.enters h.recurs.back h.first
  refusal_says _ _ _ (need a least many) = by_need a refl refl refl least many.ends many.above

pub refusals_say : RefusalsHaveReasons
refusals_say b image plan r k p h = refusal_says b image plan r k p h
