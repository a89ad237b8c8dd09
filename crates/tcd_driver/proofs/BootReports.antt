-- The reports of `boot`.
use Rattle.std.proofs.Common.{◌≡◌, ◌-◌, ℕ, subst, refl}
use Rattle.elf_image.specs.Images.{ImageData, IsImage}
use Rattle.tcd_plan.specs.PlanData.{PlanData, IsPlan}
use Rattle.tc_machine.specs.Safe.{Safe}
use Rattle.depth_cert.specs.Certs.{CertData}
use Rattle.cfg_recover.specs.RulesHoldOrFail.{Accepts, certified_need}
use Rattle.cfg_recover.proofs.FaultLaws.{fails_refutes}
use Rattle.tc_boot.specs.Sequence.{boot_events}
use Rattle.tc_boot.specs.Judging.{HasBoot}
use Rattle.tc_boot.proofs.BootWhole.{safe_boots}
use Rattle.tc_boot.proofs.JudgeOne.{not_both}
use Rattle.tcd_reading.specs.Reports.{Report, text_report}
use Rattle.tcd_forms.specs.Lines.{boot_line}
use Rattle.tcd_driver.specs.Boot.{IsBootVerdict, refused, unbooted, boots}
use Rattle.tcd_reading.specs.declared.status.Status.TheVariants.{Done, Refused}
use Rattle.tcd_driver.proofs.Alike.{IsSide, well, against}

pub boot_side : (i : ImageData) (p : PlanData) (c : CertData) (at : ℕ) (r : Report) → IsBootVerdict i p c at r → IsSide (Accepts i p c × HasBoot i p at) Refused r
boot_side i p c at r (refused rule key addr first e) = against _ e (λ w. fails_refutes i p c rule key addr first.fails w.0)
boot_side i p c at r (unbooted err accepted judged e) = against _ e (λ w. not_both i p at err w.1 judged)
boot_side i p c at r (boots accepted has safe e) = well _ e refl (accepted, has)

-- the certificate is accepted and the boot sequence may run
pub boots_report : (parts i : ImageData) (fields p : PlanData) (c : CertData) (at events need : ℕ) (r : Report) → parts ≡ i → IsImage parts → fields ≡ p → IsPlan fields → Accepts i p c → need ≡ certified_need i p c → Safe i p need
    → HasBoot i p at → events ≡ boot_events p → r ≡ text_report Done (boot_line events need (fields.areas - fields.reserve)) → IsBootVerdict i p c at r
boots_report parts i fields p c at events need r image is_image same is_plan accepted is safe has count e =
    boots accepted has (safe_boots i p at (certified_need i p c) (subst IsPlan same is_plan) (subst IsImage image is_image) has (subst (λ (n : ℕ). Safe i p n) is safe))
    cc
