-- What it means that `check`, `cert`, `ship` and `run` are done, or refuse; and what all commands
-- share of that.
pub mod Asks
pub mod Boots
pub mod Builds
pub mod Cells
pub mod Tasks
pub mod Texts
use Rattle.std.proofs.Common.{◌≡◌, ◌≢◌, ◌<◌, ◌+◌, ◌^◌, inl, inr, ℕ, List, [], ◌∷◌, ◌++◌, length, Option, Some, None, refl, sym, ap, subst, ◌∙◌, append_assoc, ◌⊎◌}
use Rattle.std.specs.Prelude.{codes, if◌then◌else◌, IsSomeAnd}
use Rattle.tcd_text.specs.HexNumbers.{hex_word}
use Rattle.tcd_report.specs.Texts.{key_kind_letters}
use Rattle.std.specs.Fmt.{decimal}
use Rattle.std.specs.FinMap.{get, insert}
use Rattle.elf_image.specs.Images.{ImageData}
use Rattle.elf_image.specs.WrittenElf.{elf_file}
use Rattle.tcd_plan.specs.PlanData.{PlanData}
use Rattle.tc_machine.specs.Stepping.{run}
use Rattle.tc_script.specs.ScriptData.{ScriptData}
use Rattle.tc_script.specs.ScriptRuns.{script_events}
use Rattle.depth_cert.specs.declared.keys.Key.{Key}
use Rattle.depth_cert.specs.Nodes.{NodeData, need_or_zero, find_node}
use Rattle.depth_cert.specs.Certs.{CertData, IsCert}
use Rattle.depth_cert.specs.Spelling.{bytes_of_cert}
use Rattle.depth_cert.proofs.BackLaws.{written_is_read}
use Rattle.cfg_recover.specs.Entries.{start_key, start_state}
use Rattle.cfg_recover.specs.RulesHoldOrFail.{HasCoveringPoint, Accepts, IsFirstFault, certified_need}
use Rattle.cfg_recover.proofs.FaultLaws.{fails_refutes}
use Rattle.depth_maker.specs.LeastCertMade.{IsLeastCert}
use Rattle.depth_maker.specs.Answers.{IsNoCertAccepted}
use Rattle.tc_link.specs.Layouts.{LayoutData}
use Rattle.tcd_base.specs.Files.{FileMap}
use Rattle.tcd_reading.specs.Reports.{Report, with_report_files}
use Rattle.tcd_reading.specs.Inputs.{FormSeen, HoldsInput, IsInputRejection, input_files}
use Rattle.tcd_reading.specs.Inputs as inputs
use Rattle.tcd_reading.specs.declared.status.Status.TheVariants.{Done, Refused, BadInput}
use Rattle.tcd_reading.proofs.EndingWords.{get_here, get_apart}
use Rattle.tcd_forms.specs.Forms.{SourceData, numbered_source_form}
use Rattle.tcd_forms.specs.Lines.{certified_line, run_line, refused_line, line_end_with_frame, key_kind_text}
use Rattle.tcd_driver.specs.Headlines.{certified_line_text, HoldsFile, IsBadFile, too_long, faulty, HoldsPlan, HoldEachFile, AreFirmwareFiles, AreCheckFiles, IsOnlyFileWritten, IsAcceptedWithNeed, IsBestWithNeed, refused_text, refused_line_text, HeadlineOfCheck, RefusalByCheck, HeadlineOfCert, RefusalByCert, HeadlineOfRun}
use Rattle.tcd_driver.specs.Check as verdict
use Rattle.tcd_driver.specs.Check.{CheckArgs, IsCheckVerdict}
use Rattle.tcd_driver.specs.Cert as certifying
use Rattle.tcd_driver.specs.Cert.{CertArgs, IsCertReport}
use Rattle.tcd_driver.specs.BestCert as made
use Rattle.tcd_driver.specs.BestCert.{IsBestCert, IsAcceptedBestCert, HasNoAcceptedCert, IsLeastOfItsFormat, NoCertIsAccepted}
use Rattle.tcd_driver.specs.Ship as shipping
use Rattle.tcd_driver.specs.Ship.{ShipArgs, IsShipReportOnImage, IsShipReport, IsImageOfSources}
use Rattle.tcd_driver.specs.Run as runs
use Rattle.tcd_driver.specs.Run.{RunArgs, IsRunReport}
use Rattle.tcd_driver.specs.Headlines.Builds.{HoldsLayout, IsSourceText, IsImageOfFiles, HeadlineOfShip, RefusalByShip}
use Rattle.tcd_driver.specs.Headlines.Asks.{InputRequirement, HoldsScript, IsFirstBadInput, are_linked_sources}
use Rattle.tcd_driver.specs.Tool.{NeverRefuses}

-- ---- what a report means
-- What a report means, of what a command asks: it is done or refused, and this holds for the files
-- before and after it and for its text; or it is on the first input that is bad.
pub data Means (m : FileMap) (asks : List InputRequirement) (IfDone IfRefused : FileMap → FileMap → List ℕ → Type 0) (r : Report) : Type 0 where
  is_done : (after : FileMap) → r.status ≡ Done → with_report_files (Some m) r.writes ≡ Some after → IfDone m after r.text → Means m asks IfDone IfRefused r
  is_refused : r.status ≡ Refused → r.writes ≡ [] → IfRefused m m r.text → Means m asks IfDone IfRefused r
  is_bad : r.status ≡ BadInput → r.writes ≡ [] → IsFirstBadInput m asks r.text → Means m asks IfDone IfRefused r

pub means_as : {m : FileMap} {asks : List InputRequirement} {D R : FileMap → FileMap → List ℕ → Type 0} {r q : Report} → r ≡ q → Means m asks D R q → Means m asks D R r
means_as {m} {asks} {D} {R} e h = subst (λ (x : Report). Means m asks D R x) (sym e) h

-- ---- one file that is written
pub is_written : (m : FileMap) (name bytes : List ℕ) → IsOnlyFileWritten m (insert m name bytes) name bytes
is_written m name bytes = record { written = get_here m name bytes name refl; others = λ other apart. get_apart m name bytes other (λ e. apart (sym e)) }

-- ---- files that are read
pub held_as : {A : Type 0} (form : FormSeen A) (m : FileMap) (name : List ℕ) (x : A) → HoldsInput form (Some m) name x → HoldsFile m name form.limit (λ bytes. form.Is bytes x)
held_as form m name x h = record { bytes = h.0; held = h.1; short = h.2; form = h.3 }

-- files of a list, whose form doesn't depend on the place
abbrev pub Tells : {A : Type 0} → (ℕ → FormSeen A) → ℕ → (List ℕ → A → Type 0) → Type 0
Tells {A} form most Is = (place : ℕ) (m : FileMap) (name : List ℕ) (x : A) → HoldsInput (form place) (Some m) name x → HoldsFile m name most (λ bytes. Is bytes x)

-- a file that isn't in its form: it is too long, or it has a fault
too_long_of : {A : Type 0} (form : FormSeen A) (m : FileMap) (name line plain : List ℕ) → form.too_long_line ≡ plain → (o : Option (List ℕ)) → get m name ≡ o → IsSomeAnd o (λ bytes. form.limit < length bytes) → line ≡ form.too_long_line →
    IsBadFile m name form.limit plain form.IsBad line
too_long_of form m name line plain is None held long e = absurd long
too_long_of form m name line plain is (Some bytes) held long e = too_long bytes held long (e ∙ is)

pub bad_file : {A : Type 0} (form : FormSeen A) (m : FileMap) (name line plain : List ℕ) → form.too_long_line ≡ plain → IsInputRejection form (Some m) name line → IsBadFile m name form.limit plain form.IsBad line
bad_file form m name line plain is (inputs.long long e) = too_long_of form m name line plain is (get m name) refl long e
bad_file form m name line plain is (inputs.bad bytes held short why) = faulty (record { bytes = bytes; held = held; short = short; form = why })

-- ---- certificates
a_node : (o : Option NodeData) (P : NodeData → Type 0) → IsSomeAnd o P → (n : NodeData) × (o ≡ Some n)
a_node None P h = absurd h
a_node (Some n) P h = (n, refl)

pub accepted_of : (i : ImageData) (p : PlanData) (c : CertData) → Accepts i p c → IsAcceptedWithNeed i p c (certified_need i p c)
accepted_of i p c accepted =
    let n = a_node (find_node (start_key i p) c.nodes) (λ n. HasCoveringPoint n i.entry (start_state p)) accepted.start in
    record { accepted = accepted; start = n.0; start_is = n.1; need_is = ap need_or_zero n.1 }

-- the certificate that is made for a format is the least of this format
pub least_of : (i : ImageData) (p : PlanData) (version : ℕ) (c : CertData) → IsCert c → IsLeastCert i p version c → IsLeastOfItsFormat i p c
least_of i p version c is_cert h = record {
  is_cert = is_cert;
  needs = λ other frame k v a. (h.best other k (v ∙ h.of_version) a).needs frame;
  states = λ other k v a. (h.best other k (v ∙ h.of_version) a).below;
}

pub best_of : (i : ImageData) (p : PlanData) (c : CertData) → IsAcceptedBestCert i p c → IsBestWithNeed i p c (certified_need i p c)
best_of i p c is = by is.best
  where
    of_version : (version : ℕ) → IsLeastCert i p version c → (c.version ≡ 1) ⊎ ((c.version ≡ 2) × IsNoCertAccepted i p 1) → IsBestWithNeed i p c (certified_need i p c)
    of_version version h v = record { accepted = accepted_of i p c is.accepted; safe = is.safe; version = v; least = least_of i p version c is.is_cert h; reads = written_is_read c is.is_cert }

    by : IsBestCert i p c → IsBestWithNeed i p c (certified_need i p c)
    by (made.first h) = of_version 1 h (inl h.of_version)
    by (made.second none h) = of_version 2 h (inr (h.of_version, none))

each_refused : (i : ImageData) (p : PlanData) → IsNoCertAccepted i p 1 → IsNoCertAccepted i p 2 → (c : CertData) → IsCert c → Accepts i p c → ⊥
each_refused i p one two c is accepted = elim is.version [ inl v ↦ one c is v accepted | inr v ↦ two c is v accepted ]

pub none_of : (i : ImageData) (p : PlanData) (rule : ℕ) (key : Key) (addr : ℕ) → HasNoAcceptedCert i p rule key addr → NoCertIsAccepted i p rule key addr
none_of i p rule key addr none = record { each = each_refused i p none.first none.second; why = none.why }

-- ---- lines
pub certified_is : (need areas : ℕ) → certified_line need areas ≡ certified_line_text need areas
unfolding certified_line
certified_is need areas = refl

-- what is behind the text of a refusal
text_before : (rule : ℕ) (key : Key) (addr : ℕ) (tail : List ℕ) →
    codes "refused K" ++ (decimal rule ++ (codes " at " ++ (hex_word addr ++ (codes " in " ++ (key_kind_letters key.kind ++ (hex_word key.entry ++ (codes " prio " ++ (decimal key.prio ++ (codes " is " ++ ((if key.is then 49 else 48) ∷ tail))))))))))
    ≡ refused_text rule key addr ++ tail
text_before rule key addr tail = simp append_assoc

pub refused_is : (rule : ℕ) (key : Key) (addr : ℕ) → refused_line rule key addr ≡ refused_line_text rule key addr
unfolding refused_line line_end_with_frame key_kind_text
refused_is rule key addr = text_before rule key addr (10 ∷ [])

-- ---- check
pub refusal_by_check : {elf plan cert : List ℕ} {m : FileMap} {i : ImageData} {p : PlanData} {c : CertData} → AreCheckFiles m elf plan cert i p c → (rule : ℕ) (key : Key) (addr : ℕ) → IsFirstFault i p c rule key addr →
    RefusalByCheck elf plan cert m m (refused_line rule key addr)
refusal_by_check {elf} {plan} {cert} {m} {i} {p} {c} files rule key addr first = record {
  image = i;
  plan = p;
  cert = c;
  rule = rule;
  frame = key;
  address = addr;
  files = files;
  unaccepted = fails_refutes i p c rule key addr first.fails;
  first = first;
  prints = refused_is rule key addr;
  stays = refl;
}

pub check_means : (names : CheckArgs) (m : FileMap) (i : ImageData) (p : PlanData) (c : CertData) (r : Report) → AreCheckFiles m names.elf names.plan names.cert i p c → IsCheckVerdict i p c r →
    Means m [] (HeadlineOfCheck names.elf names.plan names.cert) (RefusalByCheck names.elf names.plan names.cert) r
check_means names m i p c r files (verdict.refused rule key addr first e) = means_as e (is_refused refl refl (refusal_by_check files rule key addr first))
check_means names m i p c r files (verdict.certified accepted safe e) = means_as e (is_done m refl refl (record {
  image = i;
  plan = p;
  cert = c;
  need = certified_need i p c;
  files = files;
  accepted = accepted_of i p c accepted;
  safe = safe;
  prints = certified_is _ _;
  stays = refl;
}))

-- ---- cert
pub refusal_by_cert : {elf plan : List ℕ} {m : FileMap} {i : ImageData} {p : PlanData} → AreFirmwareFiles m elf plan i p → (rule : ℕ) (key : Key) (addr : ℕ) → HasNoAcceptedCert i p rule key addr → RefusalByCert elf plan m m (refused_line rule key addr)
refusal_by_cert {elf} {plan} {m} {i} {p} files rule key addr none = record {
  image = i;
  plan = p;
  rule = rule;
  frame = key;
  address = addr;
  files = files;
  none = none_of i p rule key addr none;
  prints = refused_is rule key addr;
  stays = refl;
}

pub cert_means : (names : CertArgs) (m : FileMap) (i : ImageData) (p : PlanData) (r : Report) → AreFirmwareFiles m names.elf names.plan i p → IsCertReport names.cert i p r →
    Means m [] (HeadlineOfCert names.elf names.plan names.cert) (RefusalByCert names.elf names.plan) r
cert_means names m i p r files (certifying.refused rule key addr none e) = means_as e (is_refused refl refl (refusal_by_cert files rule key addr none))
cert_means names m i p r files (certifying.certified c is e) = means_as e (is_done (insert m names.cert (bytes_of_cert c)) refl refl (record {
  image = i;
  plan = p;
  cert = c;
  need = certified_need i p c;
  files = files;
  best = best_of i p c is;
  writes = is_written m names.cert (bytes_of_cert c);
  prints = certified_is _ _;
}))

-- ---- ship
pub source_told : Tells numbered_source_form (2 ^ 24) IsSourceText
source_told place m name x h = record { bytes = h.0; held = h.1; short = h.2; form = record { text = h.3.0; object = h.3.1 } }

module _ (names : ShipArgs) (apart : names.elf ≢ names.cert) (m : FileMap) (p : PlanData) (l : LayoutData) (ss : List SourceData) (plan : HoldsPlan m names.plan p) (layout : HoldsLayout m names.layout l)
    (sources : HoldEachFile m (2 ^ 24) IsSourceText names.sources ss) (r : Report) where
  image_of_files : (i : ImageData) → IsImageOfSources l ss i → IsImageOfFiles m names.plan names.layout names.sources p i
  image_of_files i of = record { layout = l; sources = ss; plan_file = plan; layout_file = layout; source_files = sources; linked = of.linked_is; placed = of.placed }

  -- what it means in all
  abbrev ShipMeans : Type 0
  ShipMeans = Means m (are_linked_sources names.layout names.sources ∷ []) (HeadlineOfShip names.plan names.layout names.elf names.cert names.sources) (RefusalByShip names.plan names.layout names.sources) r

  ship_image : (i : ImageData) → IsImageOfSources l ss i → IsShipReportOnImage names.elf names.cert p i r → ShipMeans
  ship_image i of (shipping.refused rule key addr none e) = means_as e (is_refused refl refl (record {
    plan = p;
    image = i;
    rule = rule;
    frame = key;
    address = addr;
    image_is = image_of_files i of;
    none = none_of i p rule key addr none;
    prints = refused_is rule key addr;
    stays = refl;
  }))
  ship_image i of (shipping.shipped c is reads e) =
      let one = insert m names.elf (elf_file i) in
      means_as e (is_done (insert one names.cert (bytes_of_cert c)) refl refl (record {
        plan = p;
        image = i;
        cert = c;
        need = certified_need i p c;
        apart = apart;
        image_is = image_of_files i of;
        image_reads = reads;
        best = best_of i p c is;
        elf_written = get_apart one names.cert (bytes_of_cert c) names.elf (λ e. apart (sym e)) ∙ get_here m names.elf (elf_file i) names.elf refl;
        cert_written = get_here one names.cert (bytes_of_cert c) names.cert refl;
        others = λ other not_elf not_cert. get_apart one names.cert (bytes_of_cert c) other (λ e. not_cert (sym e)) ∙ get_apart m names.elf (elf_file i) other (λ e. not_elf (sym e));
        prints = certified_is _ _;
      }))

  pub ship_means : IsShipReport names.elf names.cert p l ss r → ShipMeans
  ship_means (shipping.unlinked why is e) = means_as e (is_bad refl refl (inl (l, ss, why, (layout, sources), is, refl)))
  ship_means (shipping.of_image i of h) = ship_image i of h

-- ---- run
pub run_means : (names : RunArgs) (m : FileMap) (i : ImageData) (p : PlanData) (s : ScriptData) (r : Report) → AreFirmwareFiles m names.elf names.plan i p → HoldsScript m names.script p s → IsRunReport i p s r →
    Means m [] (HeadlineOfRun names.elf names.plan names.script) NeverRefuses r
unfolding run_line
run_means names m i p s r files script (runs.ran start starts fits e) =
    let es = script_events p s start in
    means_as e (is_done m refl refl (record {
      image = i;
      plan = p;
      script = s;
      start = start;
      events = es;
      last = run start es;
      files = files;
      script_file = script;
      starts = starts.starts;
      in_zeros = starts;
      events_are = refl;
      fits = fits;
      last_is = refl;
      prints = refl;
      stays = refl;
    }))
