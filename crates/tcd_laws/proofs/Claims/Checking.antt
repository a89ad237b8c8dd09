-- Claims C1 to C4 of `check` and `report`, and what their refusals say.
use Rattle.std.proofs.Common.{◌≡◌, ◌-◌, ℕ, List, Some}
use Rattle.tcd_base.specs.Files.{FileMap}
use Rattle.elf_image.specs.Images.{ImageData}
use Rattle.tcd_plan.specs.PlanData.{PlanData}
use Rattle.tc_machine.specs.Safe.{Safe}
use Rattle.depth_cert.specs.Certs.{CertData}
use Rattle.tcd_driver.specs.Tool.{ToolCall}
use Rattle.tcd_driver.specs.Headlines.{AreCheckFiles, IsAcceptedWithNeed, RefusalByCheck}
use Rattle.tcd_laws.specs.Claims.{PrintsText, certified_line, refused_line}
use Rattle.tcd_laws.specs.Claims.Checking.{AreCertified, CheckRefuses, CheckClaimsHold, CheckRefusalsHold, ReportClaimsHold, ReportRefusalsHold}
use Rattle.tcd_laws.proofs.Claims.{prints_text, files_stay, held, runs_meet, accepted_with, fails_first_at}

certified : (m : FileMap) (elf plan_name cert_name : List ℕ) (image : ImageData) (plan : PlanData) (cert : CertData) (most : ℕ) → AreCheckFiles m elf plan_name cert_name image plan cert → IsAcceptedWithNeed image plan cert most
    → Safe image plan most → AreCertified m elf plan_name cert_name image plan cert most
certified m elf plan_name cert_name image plan cert most files accepted safe = record {
  image_held = held files.elf_file;
  plan_held = held files.plan_file;
  cert_held = held files.cert_file;
  accepted = accepted_with image plan cert most accepted;
  safe = runs_meet image plan most safe;
}

pub check_claims : CheckClaimsHold
check_claims elf plan cert call before says words status known =
    let means = (says.check elf plan cert).done before words status known in
    let h = means.4 in
    record {
      image = h.image;
      plan = h.plan;
      cert = h.cert;
      most = h.need;
      certified = certified before elf plan cert h.image h.plan h.cert h.need h.files h.accepted h.safe;
      prints = prints_text call means.1 (certified_line h.need (h.plan.areas - h.plan.reserve)) means.3 h.prints;
      stays = files_stay call before means.0 means.2 h.stays;
    }

pub report_claims : ReportClaimsHold
report_claims elf plan cert call before says words status known =
    let means = (says.report elf plan cert).done before words status known in
    let h = means.4 in
    record {
      image = h.image;
      plan = h.plan;
      cert = h.cert;
      most = h.need;
      certified = certified before elf plan cert h.image h.plan h.cert h.need h.files h.accepted h.safe;
      text = means.1;
      told = h.told;
      report = h.prints;
      prints = means.3;
      stays = files_stay call before means.0 means.2 h.stays;
    }

-- ---- refusals
pub refuses : (call : ToolCall) (before after : FileMap) (elf plan cert printed : List ℕ) → (call.files_after).held ≡ Some after → PrintsText call printed → RefusalByCheck elf plan cert before after printed → CheckRefuses elf plan cert call before
refuses call before after elf plan cert printed there grows h = record {
  image = h.image;
  plan = h.plan;
  cert = h.cert;
  rule = h.rule;
  frame = h.frame;
  address = h.address;
  image_held = held h.files.elf_file;
  plan_held = held h.files.plan_file;
  cert_held = held h.files.cert_file;
  unaccepted = h.unaccepted;
  first = fails_first_at h.image h.plan h.cert h.rule h.frame h.address h.first;
  prints = prints_text call printed (refused_line h.rule h.frame h.address) grows h.prints;
  stays = files_stay call before after there h.stays;
}

pub check_refuses : CheckRefusalsHold
check_refuses elf plan cert call before says words status known =
    let means = (says.check elf plan cert).refused before words status known in
    refuses call before means.0 elf plan cert means.1 means.2 means.3 means.4

pub report_refuses : ReportRefusalsHold
report_refuses elf plan cert call before says words status known =
    let means = (says.report elf plan cert).refused before words status known in
    refuses call before means.0 elf plan cert means.1 means.2 means.3 means.4
