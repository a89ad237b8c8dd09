-- What a refusal to make a certificate names, in plain words: the statement of the law that guards
-- its definition.
use Rattle.std.specs.Prelude.{ℕ}
use Rattle.elf_image.specs.Images.{ImageData}
use Rattle.tcd_plan.specs.PlanData.{PlanData}
use Rattle.value_domain.specs.Limits.{Limits}
use Rattle.depth_cert.specs.declared.keys.Key.{Key}
use Rattle.cfg_recover.specs.CertRefusals.{IsRefusalWithLimits, HasRefusalReason}

-- the law of refusals: each refusal to make a certificate has one of the five reasons
abbrev pub RefusalsHaveReasons : Type 0
RefusalsHaveReasons =
    (b : Limits) (image : ImageData) (plan : PlanData) (r : ℕ) (k : Key) (p : ℕ) → IsRefusalWithLimits b image plan r k p → HasRefusalReason b image plan r k p
