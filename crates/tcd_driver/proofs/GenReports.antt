-- The reports of `gen`.
use Rattle.std.proofs.Common.{◌≡◌, ◌≤◌, ◌-◌, ◌^◌, ℕ, List, length, Ok, sym, subst, ◌∙◌, arith, refl}
use Rattle.std.specs.Prelude.{IsUtf8}
use Rattle.elf_image.specs.Images.{ImageData}
use Rattle.tcd_plan.specs.PlanData.{PlanData}
use Rattle.tcd_plan.specs.PlanReader.{GivesPlan}
use Rattle.tcd_base.specs.Files.{FilesSeen}
use Rattle.tcd_report.specs.Generated.{generated_image}
use Rattle.tcd_report.specs.Generated.Planned.{generated_plan_text, generated_plan}
use Rattle.tcd_reading.specs.Outcomes.{Outcome, IsReportOutcome, IsCommandOutcome}
use Rattle.tcd_reading.proofs.Told.{comes_told}
use Rattle.tcd_driver.specs.Commands.{plain_command, reading_of}
use Rattle.tcd_driver.specs.declared.command.Command.{Command as Words}
use Rattle.tcd_driver.specs.declared.command.Command.TheVariants as held
use Rattle.tcd_report.proofs.ImageLemmas.PlanText.{text_tells}
use Rattle.tc_machine.specs.Safe.{Safe}
use Rattle.depth_cert.specs.Certs.{CertData, IsCert}
use Rattle.depth_cert.specs.Nodes.{count_points}
use Rattle.depth_maker.specs.LeastCertMade.{IsLeastCert}
use Rattle.tcd_reading.specs.Reports.{Report, text_report}
use Rattle.tcd_forms.specs.Lines.{gen_line}
use Rattle.tcd_driver.specs.BestCert.{IsLeastWithNeed}
use Rattle.tcd_driver.specs.Gen.{IsGenReport, refused, certified}
use Rattle.tcd_reading.specs.declared.status.Status.TheVariants.{Done, Refused}
use Rattle.tcd_driver.proofs.Alike.{IsSide, well, against}

pub summary_side : (n : ℕ) (i : ImageData) (p : PlanData) (r : Report) → IsGenReport n i p r → IsSide ((c : CertData) × IsCert c × IsLeastCert i p 1 c) Refused r
summary_side n i p r (refused rule key addr none why e) = against _ e (λ w. none w.0 w.1 (w.2).of_version (w.2).accepted)
summary_side n i p r (certified c is made safe e) = well _ e refl (c, is, made)

-- the report on the certificate
pub counted_report : (n : ℕ) (i : ImageData) (fields p : PlanData) (c : CertData) (need : ℕ) (r : Report) → fields ≡ p → IsLeastWithNeed i p 1 c need
    → r ≡ text_report Done (gen_line n (length c.nodes) (count_points c.nodes) need (fields.areas - fields.reserve)) → IsGenReport n i p r
counted_report n i fields p c need r same least e =
    certified c least.is_cert least.made (subst (λ (k : ℕ). Safe i p k) least.need_is least.safe)
    (let k = least.need_is in cc)

-- ---- reading what was generated
pub text_gives : (lent text : List ℕ) → lent ≡ text → text ≡ generated_plan_text → IsUtf8 text → GivesPlan lent (Ok generated_plan)
text_gives lent text same is utf8 = subst (λ (b : List ℕ). GivesPlan b (Ok generated_plan)) (sym (same ∙ is)) (text_tells (subst IsUtf8 is utf8))

pub text_most : (lent text : List ℕ) → lent ≡ text → text ≡ generated_plan_text → length lent ≤ 2 ^ 30
text_most lent text same is = subst (λ (b : List ℕ). length b ≤ 2 ^ 30) (sym (same ∙ is)) (omega arith)

-- ---- the command as a value of the program
pub comes_generated : (command words : Words) (n : ℕ) (files : FilesSeen) (o : Outcome) → words ≡ held.Gen n → command ≡ words → IsReportOutcome (IsGenReport n (generated_image n) generated_plan) ⊥ o → IsCommandOutcome (reading_of (plain_command command)) files files o
comes_generated command words n files o is same h = subst (λ (w : Words). IsCommandOutcome (reading_of (plain_command w)) files files o) (sym (same ∙ is)) (comes_told (IsGenReport n (generated_image n) generated_plan) files o h)
