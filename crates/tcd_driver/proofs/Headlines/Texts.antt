-- What it means that `cfg`, `report`, `dis` and `gen` are done.
use Rattle.std.proofs.Common.{ℕ, List, refl, []}
use Rattle.elf_image.specs.Images.{ImageData}
use Rattle.tcd_plan.specs.PlanData.{PlanData}
use Rattle.depth_cert.specs.Certs.{CertData}
use Rattle.cfg_recover.specs.RulesHoldOrFail.{certified_need}
use Rattle.tcd_report.specs.Generated.{generated_image}
use Rattle.tcd_report.specs.Generated.Planned.{generated_plan}
use Rattle.tcd_base.specs.Files.{FileMap}
use Rattle.tcd_reading.specs.Reports.{Report}
use Rattle.tcd_forms.specs.Lines.{gen_line}
use Rattle.tcd_driver.specs.Cfg as drawing
use Rattle.tcd_driver.specs.Cfg.{CfgArgs, IsCfgReport}
use Rattle.tcd_driver.specs.Reporting as reporting
use Rattle.tcd_driver.specs.Reporting.{ReportArgs, IsReportOrRefusal}
use Rattle.tcd_driver.specs.Gen as generating
use Rattle.tcd_driver.specs.Gen.{IsGenReport, IsGenFunctionCount}
use Rattle.tcd_driver.specs.Headlines.{RefusalByCheck, RefusalByCert, AreCheckFiles, AreFirmwareFiles, HoldsImage}
use Rattle.tcd_driver.specs.Headlines.Reports.{HeadlineOfCfg, HeadlineOfReport, HeadlineOfDis, HeadlineOfGen, RefusalByGen}
use Rattle.tcd_driver.proofs.Headlines.{accepted_of, least_of, best_of, refusal_by_check, refusal_by_cert, Means, is_done, is_refused, means_as, refused_is}
use Rattle.tcd_driver.specs.Dis.{IsDisReport}
use Rattle.tcd_driver.specs.Tool.{NeverRefuses}

-- ---- cfg
pub cfg_means : (names : CfgArgs) (m : FileMap) (i : ImageData) (p : PlanData) (r : Report) → AreFirmwareFiles m names.elf names.plan i p → IsCfgReport i p r → Means m [] (HeadlineOfCfg names.elf names.plan) (RefusalByCert names.elf names.plan) r
cfg_means names m i p r files (drawing.refused rule key addr none e) = means_as e (is_refused refl refl (refusal_by_cert files rule key addr none))
cfg_means names m i p r files (drawing.drawn text is e) = means_as e (is_done m refl refl (record {
  image = i;
  plan = p;
  cert = is.cert;
  need = certified_need i p is.cert;
  lines = (is.graph).lines;
  files = files;
  best = best_of i p is.cert is.certified;
  graph = (is.graph).are;
  edges = is.edges;
  prints = (is.graph).text_is;
  stays = refl;
}))

-- ---- report
pub report_means : (names : ReportArgs) (m : FileMap) (i : ImageData) (p : PlanData) (c : CertData) (r : Report) → AreCheckFiles m names.elf names.plan names.cert i p c → IsReportOrRefusal i p c r →
    Means m [] (HeadlineOfReport names.elf names.plan names.cert) (RefusalByCheck names.elf names.plan names.cert) r
report_means names m i p c r files (reporting.refused rule key addr first e) = means_as e (is_refused refl refl (refusal_by_check files rule key addr first))
report_means names m i p c r files (reporting.reported text accepted safe is e) = means_as e (is_done m refl refl (record {
  image = i;
  plan = p;
  cert = c;
  need = certified_need i p c;
  files = files;
  accepted = accepted_of i p c accepted;
  safe = safe;
  told = refl;
  prints = is;
  stays = refl;
}))

-- ---- dis
pub dis_means : (elf : List ℕ) (m : FileMap) (i : ImageData) (r : Report) → HoldsImage m elf i → IsDisReport i r → Means m [] (HeadlineOfDis elf) NeverRefuses r
dis_means elf m i r file e = means_as e (is_done m refl refl (record { image = i; elf_file = file; prints = refl; stays = refl }))

-- ---- gen
pub gen_means : (word : List ℕ) (n : ℕ) → IsGenFunctionCount word n → (m : FileMap) (r : Report) → IsGenReport n (generated_image n) generated_plan r → Means m [] (HeadlineOfGen word) (RefusalByGen word) r
unfolding gen_line
gen_means word n counted m r (generating.refused rule key addr none why e) = means_as e (is_refused refl refl (record {
  functions = n;
  rule = rule;
  frame = key;
  address = addr;
  counted = counted;
  none = none;
  why = why;
  prints = refused_is rule key addr;
  stays = refl;
}))
gen_means word n counted m r (generating.certified c is made safe e) =
    let need = certified_need (generated_image n) generated_plan c in
    means_as e (is_done m refl refl (record {
      functions = n;
      cert = c;
      need = need;
      counted = counted;
      accepted = accepted_of (generated_image n) generated_plan c made.accepted;
      safe = safe;
      version = made.of_version;
      least = least_of (generated_image n) generated_plan 1 c is made;
      prints = refl;
      stays = refl;
    }))
