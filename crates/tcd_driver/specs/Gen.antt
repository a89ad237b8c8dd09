-- What `gen` reports.
use Rattle.std.specs.Prelude.{◌≡◌, ◌-◌, ℕ, List, length, ◌≤◌, Some, ◌&&◌, nat_le, Option}
use Rattle.elf_image.specs.Images.{ImageData}
use Rattle.tcd_plan.specs.PlanData.{PlanData}
use Rattle.tc_machine.specs.Safe.{Safe}
use Rattle.tc_script.specs.Numbers.{script_number}
use Rattle.depth_cert.specs.declared.keys.Key.{Key}
use Rattle.depth_cert.specs.Certs.{CertData, IsCert}
use Rattle.depth_cert.specs.Nodes.{count_points}
use Rattle.cfg_recover.specs.RulesHoldOrFail.{certified_need}
use Rattle.cfg_recover.specs.CertRefusals.{IsRefusal}
use Rattle.depth_maker.specs.LeastCertMade.{IsLeastCert}
use Rattle.depth_maker.specs.Answers.{IsNoCertAccepted}
use Rattle.tcd_report.specs.Generated.{generated_image}
use Rattle.tcd_report.specs.Generated.Planned.{generated_plan}
use Rattle.tcd_reading.specs.Reports.{Report, text_report}
use Rattle.tcd_reading.specs.Inputs.{Reading, answer}
use Rattle.tcd_forms.specs.Lines.{refused_line, gen_line}
use Rattle.tcd_reading.specs.declared.status.Status.TheVariants.{Done, Refused}
use Rattle.std.specs.Bool.{then_some}
use Rattle.std.specs.Option.{option_and_then}

-- The report of `gen` on its image and plan. Either no certificate of format 1 is accepted, and the
-- line says why. Or the least one is made, every run is safe with its need, and the line counts its
-- nodes and points.
pub data IsGenReport (functions : ℕ) (image : ImageData) (plan : PlanData) (report : Report) : Type 0 where
  refused :
      (rule : ℕ) (key : Key) (addr : ℕ) → IsNoCertAccepted image plan 1 → IsRefusal image plan 1 rule key addr → report ≡ text_report Refused (refused_line rule key addr)
      → IsGenReport functions image plan report
  certified :
      (cert : CertData) → IsCert cert → IsLeastCert image plan 1 cert → Safe image plan (certified_need image plan cert)
      → report
      ≡ text_report Done
      (gen_line functions (length cert.nodes) (count_points cert.nodes) (certified_need image plan cert) (plan.areas - plan.reserve))
      → IsGenReport functions image plan report

-- nothing is read: the image of this number of functions and its plan are generated, and a
-- certificate is made
abbrev pub gen_reading : ℕ → Reading
gen_reading functions = answer (IsGenReport functions (generated_image functions) generated_plan)

-- the argument of `gen` stands for this number of functions, 1 to 500
pub record IsGenFunctionCount (word : List ℕ) (functions : ℕ) : Type 0 where
  pub is : script_number word ≡ Some functions
  pub some : 1 ≤ functions
  pub few : functions ≤ 500

-- the number of functions in the image that `gen` generates, by its argument: 1 to 500, in decimal
-- without leading zeros
abbrev pub gen_function_count : List ℕ → Option ℕ
gen_function_count word = option_and_then (λ n. then_some (nat_le 1 n && nat_le n 500) n) (script_number word)
