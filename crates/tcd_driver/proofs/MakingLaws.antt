-- The reports of commands that make a certificate.
use Rattle.std.proofs.Common.{◌≡◌, ◌-◌, ℕ, List, Result, Ok, Err, subst, refl}
use Rattle.elf_image.specs.Images.{ImageData}
use Rattle.tcd_plan.specs.PlanData.{PlanData}
use Rattle.depth_cert.specs.Certs.{CertData}
use Rattle.depth_cert.specs.Spelling.{bytes_of_cert}
use Rattle.depth_cert.specs.declared.keys.Key.{Key}
use Rattle.tc_machine.specs.Safe.{Safe}
use Rattle.cfg_recover.specs.RulesHoldOrFail.{certified_need}
use Rattle.depth_maker.specs.Answers.{IsNoCertAccepted}
use Rattle.depth_maker.specs.declared.answering.MakeErr.{MakeErr}
use Rattle.depth_maker.specs.declared.answering.MakeErr.TheVariants as make_err
use Rattle.tcd_reading.specs.Reports.{Report, text_report, report_with_file}
use Rattle.tcd_reading.specs.Outcomes.{Outcome, IsReportOutcome}
use Rattle.tcd_forms.specs.Lines.{certified_line, refused_line}
use Rattle.tcd_driver.specs.BestCert.{IsBestCert, first, second, IsAcceptedBestCert, IsLeastWithNeed, IsLeastCertOrErr, IsBestCertOrErr, IsNoCertReport}
use Rattle.tcd_driver.specs.Cert as made
use Rattle.tcd_driver.specs.Cert.{IsCertReport}
use Rattle.tcd_reading.specs.declared.status.Status.TheVariants.{Refused}
use Rattle.tcd_reading.proofs.Told.{told_more}
use Rattle.tcd_driver.proofs.Alike.{IsSide, well, against}

-- if no certificate of format 1 and none of format 2 is accepted, no certificate is the best
pub none_best : (i : ImageData) (p : PlanData) → IsNoCertAccepted i p 1 → IsNoCertAccepted i p 2 → (c : CertData) × IsAcceptedBestCert i p c → ⊥
none_best i p one two w = by (w.1).best
  where
    by : IsBestCert i p w.0 → ⊥
    by (first m) = one w.0 (w.1).is_cert m.of_version m.accepted
    by (second none m) = two w.0 (w.1).is_cert m.of_version m.accepted

-- the least certificate of a format, if it is the best one
pub best_least : (i : ImageData) (p : PlanData) (version : ℕ) (c : CertData) (need : ℕ) → IsBestCert i p c → IsLeastWithNeed i p version c need → IsAcceptedBestCert i p c × (need ≡ certified_need i p c)
best_least i p version c need best least = (
  record {
    is_cert = least.is_cert;
    best = best;
    accepted = (least.made).accepted;
    safe = subst (λ (n : ℕ). Safe i p n) least.need_is least.safe;
  },
  least.need_is,
)

-- if none of format 1 is accepted, what is made of format 2 is the best certificate
pub best_second : (i : ImageData) (p : PlanData) (r : Result (CertData × ℕ) MakeErr) → IsNoCertAccepted i p 1 → IsLeastCertOrErr i p 2 r → IsBestCertOrErr i p r
best_second i p (Ok made) none h = best_least i p 2 made.0 made.1 (second none h.made) h
best_second i p (Err (make_err.Refused rule key addr)) none h = record { first = none; second = h.1; why = h.0 }
best_second i p (Err make_err.NoMemory) none h = tt

-- a report that no certificate is made, by the reason for that
pub unmade : (P : Report → Type 0) (Why : MakeErr → Type 0) (e : MakeErr) (o : Outcome) → Why e → IsReportOutcome (IsNoCertReport e) ⊥ o
    → ((rule : ℕ) (key : Key) (addr : ℕ) (r : Report) → Why (make_err.Refused rule key addr) → r ≡ text_report Refused (refused_line rule key addr) → P r) → IsReportOutcome P ⊥ o
unmade P Why (make_err.Refused rule key addr) o why told next = told_more _ P o told (λ r e. next rule key addr r why e)
unmade P Why make_err.NoMemory o why told next = told_more _ P o told (λ r e. absurd e)

-- the report on it
pub certifying_report : (name : List ℕ) (i : ImageData) (fields p : PlanData) (c : CertData) (need : ℕ) (bytes : List ℕ) (r : Report) → fields ≡ p → IsAcceptedBestCert i p c × (need ≡ certified_need i p c) → bytes ≡ bytes_of_cert c
    → r ≡ report_with_file name bytes (certified_line need (fields.areas - fields.reserve)) → IsCertReport name i p r
certifying_report name i fields p c need bytes r same best spell e = made.certified c best.0 (let n = best.1 in cc)

pub certifying_side : (name : List ℕ) (i : ImageData) (p : PlanData) (r : Report) → IsCertReport name i p r → IsSide ((c : CertData) × IsAcceptedBestCert i p c) Refused r
certifying_side name i p r (made.refused rule key addr none e) = against _ e (none_best i p none.first none.second)
certifying_side name i p r (made.certified c is e) = well _ e refl (c, is)
