-- The reports of `cfg` and `report`.
use Rattle.std.proofs.Common.{◌<◌, ◌^◌, ℕ, List, refl}
use Rattle.elf_image.specs.Images.{ImageData}
use Rattle.tcd_plan.specs.PlanData.{PlanData, IsPlan}
use Rattle.depth_cert.specs.Certs.{CertData}
use Rattle.cfg_recover.specs.RulesHoldOrFail.{Accepts}
use Rattle.cfg_recover.proofs.FaultLaws.{fails_refutes}
use Rattle.depth_check.proofs.Held.{edges_are_owed}
use Rattle.tcd_report.specs.Graphs.{IsGraph}
use Rattle.tcd_report.proofs.GraphLemmas.EdgeProofs.{edges_stand}
use Rattle.tcd_reading.specs.Reports.{Report}
use Rattle.tcd_driver.specs.BestCert.{IsAcceptedBestCert}
use Rattle.tcd_driver.specs.Cfg as cfg
use Rattle.tcd_driver.specs.Cfg.{IsCfgText, IsCfgReport}
use Rattle.tcd_driver.specs.Reporting as reporting
use Rattle.tcd_driver.specs.Reporting.{IsReportOrRefusal}
use Rattle.tcd_driver.proofs.MakingLaws.{none_best}
use Rattle.tcd_reading.specs.declared.status.Status.TheVariants.{Refused}
use Rattle.tcd_driver.proofs.Alike.{IsSide, well, against}

-- ---- cfg
-- the report with its graph
pub graph_drawn : (i : ImageData) (p : PlanData) (c : CertData) (text : List ℕ) → i.entry < 2 ^ 32 → IsPlan p → IsAcceptedBestCert i p c → IsGraph i p c text → IsCfgText i p text
graph_drawn i p c text entry plan is g = record {
  cert = c;
  certified = is;
  graph = g;
  edges = edges_stand i p c g.lines plan is.is_cert entry is.safe (edges_are_owed i p c plan is.is_cert is.accepted) g.are;
}

pub drawing_side : (i : ImageData) (p : PlanData) (r : Report) → IsCfgReport i p r → IsSide ((c : CertData) × IsAcceptedBestCert i p c) Refused r
drawing_side i p r (cfg.refused rule key addr none e) = against _ e (none_best i p none.first none.second)
drawing_side i p r (cfg.drawn text is e) = well _ e refl (is.cert, is.certified)

-- ---- report
pub reporting_side : (i : ImageData) (p : PlanData) (c : CertData) (r : Report) → IsReportOrRefusal i p c r → IsSide (Accepts i p c) Refused r
reporting_side i p c r (reporting.refused rule key addr first e) = against _ e (fails_refutes i p c rule key addr first.fails)
reporting_side i p c r (reporting.reported text accepted safe is e) = well _ e refl accepted
