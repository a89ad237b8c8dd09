-- Claims C1 to C4 of `cert`, `ship`, `cfg` and `gen`, and what their refusals say.
use Rattle.std.proofs.Common.{◌≡◌, ◌-◌, ◌^◌, ℕ, List, ◌++◌, length, Some}
use Rattle.std.specs.Prelude.{codes}
use Rattle.std.specs.Fmt.{decimal}
use Rattle.std.specs.List.{flat_map}
use Rattle.tcd_base.specs.Files.{FileMap}
use Rattle.elf_image.specs.Images.{ImageData}
use Rattle.tcd_plan.specs.PlanData.{PlanData}
use Rattle.depth_cert.specs.declared.keys.Key.{Key}
use Rattle.depth_cert.specs.Nodes.{count_points}
use Rattle.depth_cert.specs.Certs.{CertData}
use Rattle.depth_cert.specs.Spelling.{bytes_of_cert}
use Rattle.tcd_report.specs.Generated.{generated_image}
use Rattle.tcd_report.specs.Generated.Planned.{generated_plan}
use Rattle.tcd_forms.specs.Forms.{SourceData}
use Rattle.tcd_driver.specs.Tool.{ToolCall}
use Rattle.tcd_driver.specs.BestCert.{NoCertIsAccepted}
use Rattle.tcd_driver.specs.Gen.{IsGenFunctionCount}
use Rattle.tcd_driver.specs.Headlines.{IsBestWithNeed, RefusalByCert}
use Rattle.tcd_driver.specs.Headlines.Builds.{IsSourceText, IsImageOfFiles}
use Rattle.tcd_laws.specs.Claims.{PrintsText, HeldEach, certified_line, refused_line}
use Rattle.tcd_laws.specs.Claims.Making.{IsBest, NoneCanBeMade, CertRefuses, IsAssembled, IsBuiltOf, IsFunctionCount, CertClaimsHold, CertRefusalsHold, ShipClaimsHold, ShipRefusalsHold, CfgClaimsHold, CfgRefusalsHold, GenClaimsHold, GenRefusalsHold}
use Rattle.tcd_laws.proofs.Claims.{prints_text, files_stay, writes_file, held, held_each, runs_meet, accepted_with, least, smallest, refused_at}

-- ---- certificates
best : (image : ImageData) (plan : PlanData) (cert : CertData) (most : ℕ) → IsBestWithNeed image plan cert most → IsBest image plan cert most
best image plan cert most h = record {
  accepted = accepted_with image plan cert most h.accepted;
  safe = runs_meet image plan most h.safe;
  format = h.version;
  least = least image plan cert h.least;
  smallest = smallest image plan cert most h.accepted h.least;
  reads = h.reads;
}

none_made : (image : ImageData) (plan : PlanData) (rule : ℕ) (frame : Key) (address : ℕ) → NoCertIsAccepted image plan rule frame address → NoneCanBeMade image plan rule frame address
none_made image plan rule frame address h = record { none = h.each; why = refused_at image plan 2 rule frame address h.why }

-- ---- cert
pub cert_claims : CertClaimsHold
cert_claims elf plan cert call before says words status known =
    let means = (says.cert elf plan cert).done before words status known in
    let h = means.4 in
    record {
      image = h.image;
      plan = h.plan;
      cert = h.cert;
      most = h.need;
      image_held = held h.files.elf_file;
      plan_held = held h.files.plan_file;
      best = best h.image h.plan h.cert h.need h.best;
      writes = writes_file call before means.0 cert (bytes_of_cert h.cert) means.2 h.writes;
      prints = prints_text call means.1 (certified_line h.need (h.plan.areas - h.plan.reserve)) means.3 h.prints;
    }

refuses : (call : ToolCall) (before after : FileMap) (elf plan printed : List ℕ) → (call.files_after).held ≡ Some after → PrintsText call printed → RefusalByCert elf plan before after printed → CertRefuses elf plan call before
refuses call before after elf plan printed there grows h = record {
  image = h.image;
  plan = h.plan;
  rule = h.rule;
  frame = h.frame;
  address = h.address;
  image_held = held h.files.elf_file;
  plan_held = held h.files.plan_file;
  none = none_made h.image h.plan h.rule h.frame h.address h.none;
  prints = prints_text call printed (refused_line h.rule h.frame h.address) grows h.prints;
  stays = files_stay call before after there h.stays;
}

pub cert_refuses : CertRefusalsHold
cert_refuses elf plan cert call before says words status known =
    let means = (says.cert elf plan cert).refused before words status known in
    refuses call before means.0 elf plan means.1 means.2 means.3 means.4

-- ---- ship
assembled : (bytes : List ℕ) (source : SourceData) → IsSourceText bytes source → IsAssembled bytes source
assembled bytes source h = record { text = h.text; keeps = h.object.keeps; object = h.object.is }

pub all_assembled : (m : FileMap) (names : List (List ℕ)) (sources : List SourceData) → HeldEach m (2 ^ 24) IsSourceText names sources → HeldEach m (2 ^ 24) IsAssembled names sources
all_assembled m names sources h = (h.0, λ place name source a b. let f = h.1 place name source a b in (f.0, f.1, f.2, assembled f.0 source f.3))

built : (m : FileMap) (plan_name layout_name : List ℕ) (names : List (List ℕ)) (plan : PlanData) (image : ImageData) → IsImageOfFiles m plan_name layout_name names plan image → IsBuiltOf m plan_name layout_name names plan image
built m plan_name layout_name names plan image h = record {
  layout = h.layout;
  sources = h.sources;
  plan_held = held h.plan_file;
  layout_held = held h.layout_file;
  sources_held = all_assembled m names h.sources (held_each m (2 ^ 24) IsSourceText names h.sources h.source_files);
  linked = h.linked;
  placed = h.placed;
}

pub ship_claims : ShipClaimsHold
ship_claims plan layout elf cert sources call before says words status known =
    let means = (says.ship plan layout elf cert sources).done before words status known in
    let h = means.4 in
    record {
      plan = h.plan;
      image = h.image;
      cert = h.cert;
      most = h.need;
      after = means.0;
      built = built before plan layout sources h.plan h.image h.image_is;
      image_reads = h.image_reads;
      best = best h.image h.plan h.cert h.need h.best;
      apart = h.apart;
      after_held = means.2;
      elf_written = h.elf_written;
      cert_written = h.cert_written;
      others = h.others;
      prints = prints_text call means.1 (certified_line h.need (h.plan.areas - h.plan.reserve)) means.3 h.prints;
    }

pub ship_refuses : ShipRefusalsHold
ship_refuses plan layout elf cert sources call before says words status known =
    let means = (says.ship plan layout elf cert sources).refused before words status known in
    let h = means.4 in
    record {
      plan = h.plan;
      image = h.image;
      rule = h.rule;
      frame = h.frame;
      address = h.address;
      built = built before plan layout sources h.plan h.image h.image_is;
      none = none_made h.image h.plan h.rule h.frame h.address h.none;
      prints = prints_text call means.1 (refused_line h.rule h.frame h.address) means.3 h.prints;
      stays = files_stay call before means.0 means.2 h.stays;
    }

-- ---- cfg
pub cfg_claims : CfgClaimsHold
cfg_claims elf plan call before says words status known =
    let means = (says.cfg elf plan).done before words status known in
    let h = means.4 in
    record {
      image = h.image;
      plan = h.plan;
      cert = h.cert;
      most = h.need;
      lines = h.lines;
      image_held = held h.files.elf_file;
      plan_held = held h.files.plan_file;
      best = best h.image h.plan h.cert h.need h.best;
      graph = h.graph;
      edges = h.edges;
      prints = prints_text call means.1 (flat_map (λ line. line) h.lines) means.3 h.prints;
      stays = files_stay call before means.0 means.2 h.stays;
    }

pub cfg_refuses : CfgRefusalsHold
cfg_refuses elf plan call before says words status known =
    let means = (says.cfg elf plan).refused before words status known in
    refuses call before means.0 elf plan means.1 means.2 means.3 means.4

-- ---- gen
counted : (word : List ℕ) (functions : ℕ) → IsGenFunctionCount word functions → IsFunctionCount word functions
counted word functions h = record { number = h.is; some = h.some; few = h.few }

pub gen_claims : GenClaimsHold
gen_claims word call before says words status known =
    let means = (says.gen word).done before words status known in
    let h = means.4 in
    record {
      functions = h.functions;
      cert = h.cert;
      most = h.need;
      counted = counted word h.functions h.counted;
      accepted = accepted_with (generated_image h.functions) generated_plan h.cert h.need h.accepted;
      safe = runs_meet (generated_image h.functions) generated_plan h.need h.safe;
      format = h.version;
      least = least (generated_image h.functions) generated_plan h.cert h.least;
      smallest = smallest (generated_image h.functions) generated_plan h.cert h.need h.accepted h.least;
      prints =
          prints_text call means.1
          (codes "functions " ++ (decimal h.functions ++ (codes " nodes " ++ (decimal (length h.cert.nodes) ++ (codes " points " ++ (decimal (count_points h.cert.nodes)
          ++ (codes " " ++ certified_line h.need (generated_plan.areas - generated_plan.reserve))))))))
          means.3 h.prints;
      stays = files_stay call before means.0 means.2 h.stays;
    }

pub gen_refuses : GenRefusalsHold
gen_refuses word call before says words status known =
    let means = (says.gen word).refused before words status known in
    let h = means.4 in
    record {
      functions = h.functions;
      rule = h.rule;
      frame = h.frame;
      address = h.address;
      counted = counted word h.functions h.counted;
      none = h.none;
      why = refused_at (generated_image h.functions) generated_plan 1 h.rule h.frame h.address h.why;
      prints = prints_text call means.1 (refused_line h.rule h.frame h.address) means.3 h.prints;
      stays = files_stay call before means.0 means.2 h.stays;
    }
