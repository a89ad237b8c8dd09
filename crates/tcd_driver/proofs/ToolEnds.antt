-- How each command ends: what its ends mean, what it asks of its input, and that no two ends are of
-- the same files.
use Rattle.std.proofs.Common.{◌≡◌, ◌≢◌, ◌<◌, ◌≤◌, ◌+◌, ◌^◌, ◌==◌, ◌⊎◌, inl, inr, ℕ, suc, Bool, true, false, List, [], ◌∷◌, length, map, Option, Some, Ok, refl, sym, ap, subst, ◌∙◌, arith}
use Rattle.std.specs.Prelude.{max, if◌then◌else◌}
use Rattle.std.proofs.lemmas.Bool.{eqb-true, eqb-false}
use Rattle.csa_chain.specs.SeveralChains.{sum_of_first}
use Rattle.elf_image.specs.Images.{ImageData}
use Rattle.tcd_plan.specs.PlanData.{PlanData}
use Rattle.tc_script.specs.Numbers.{script_number}
use Rattle.tcd_text.specs.HexNumbers.{hex_number_of}
use Rattle.depth_cert.specs.declared.keys.Key.{Key}
use Rattle.depth_cert.specs.Certs.{CertData}
use Rattle.depth_cert.specs.Grammar.{certificate_of}
use Rattle.cfg_recover.specs.RulesHoldOrFail.{Accepts, certified_need}
use Rattle.cfg_recover.proofs.FaultLaws.{fails_refutes}
use Rattle.tc_link.specs.Layouts.{LayoutData}
use Rattle.tc_link.specs.Linked.{image_of_objects}
use Rattle.tc_boot.specs.Judging.{HasBoot}
use Rattle.tc_boot.proofs.JudgeOne.{not_both}
use Rattle.value_cells.specs.declared.cells.Cell.{Cell}
use Rattle.value_cells.specs.Cells.{with_cells}
use Rattle.value_cells.specs.Keeping.{CertKeepsCellBounds}
use Rattle.value_cells.proofs.GrowthLaws.{cell_faults_refute}
use Rattle.task_chains.specs.Tasks.{TasksData, count}
use Rattle.task_chains.specs.Views.{view_image_of, view_plan_of}
use Rattle.task_chains.specs.SafeTasks.{need_of_task}
use Rattle.task_chains.proofs.GrowthLaws.{task_faults_refute}
use Rattle.tcd_report.specs.Generated.{generated_image}
use Rattle.tcd_report.specs.Generated.Planned.{generated_plan}
use Rattle.tcd_base.specs.Files.{FileMap}
use Rattle.tcd_reading.specs.Inputs.{Reading, answer, input_files, input}
use Rattle.tcd_forms.specs.Forms.{SourceData, elf_form, plan_form, cert_form, script_form, source_form, numbered_source_form, layout_form, object_form}
use Rattle.tcd_driver.specs.CellAndTaskForms.{cells_form, tasks_form}
use Rattle.tcd_driver.specs.DistinctNames.{are_distinct_names}
use Rattle.tcd_driver.specs.Commands as asked
use Rattle.tcd_driver.specs.Commands.{Command, reading_of}
use Rattle.tcd_driver.specs.Check.{CheckArgs}
use Rattle.tcd_driver.specs.Cert.{CertArgs}
use Rattle.tcd_driver.specs.Cfg.{CfgArgs}
use Rattle.tcd_driver.specs.Reporting.{ReportArgs}
use Rattle.tcd_driver.specs.Run.{RunArgs}
use Rattle.tcd_driver.specs.Asm.{AsmArgs}
use Rattle.tcd_driver.specs.Link.{LinkArgs, IsLinkReport}
use Rattle.tcd_driver.specs.Ship.{ShipArgs, IsShipReport}
use Rattle.tcd_driver.specs.Boot.{BootArgs, BootgenArgs}
use Rattle.tcd_driver.specs.Cells.{CellsArgs}
use Rattle.tcd_driver.specs.Cellcert.{CellcertArgs}
use Rattle.tcd_driver.specs.Tasks.{TasksArgs, IsTasksVerdict, cert_of_task, tasks_reading_if, with_name_per_task}
use Rattle.tcd_driver.specs.Taskcert.{TaskcertArgs}
use Rattle.tcd_driver.specs.Gen.{IsGenFunctionCount}
use Rattle.tcd_driver.specs.BadInputLines.{bad_tasks_line}
use Rattle.tcd_driver.specs.Headlines.{HoldEachFile, AreFirmwareFiles, AreCheckFiles, HeadlineOfCheck, RefusalByCheck, HeadlineOfCert, RefusalByCert, HeadlineOfRun, HoldsPlan}
use Rattle.tcd_driver.specs.Headlines.Asks.{InputRequirement, is_elf, is_plan, is_cert, is_layout, is_object, is_source, is_script, are_cells, are_tasks, are_linked, are_linked_sources, is_cert_per_task, require_each, HoldsTasks, HoldsCells}
use Rattle.tcd_driver.specs.Headlines.Boots.{HeadlineOfBoot, RefusalByBoot, HeadlineOfBootgen}
use Rattle.tcd_driver.specs.Headlines.Builds.{HeadlineOfAsm, HeadlineOfLink, AreObjectBytes, IsSourceText, IsImageOfFiles, HeadlineOfShip, RefusalByShip}
use Rattle.tcd_driver.specs.Headlines.Cells.{AreCellFiles, HeadlineOfCells, RefusalByCells, HeadlineOfCellcert, RefusalByCellcert}
use Rattle.tcd_driver.specs.Headlines.Reports.{HeadlineOfCfg, HeadlineOfReport, HeadlineOfDis, HeadlineOfGen, RefusalByGen}
use Rattle.tcd_driver.specs.Headlines.Tasks.{AreTaskFiles, IsAcceptedForTask, AreTasksSafeTogether, sum_of_task_needs, HeadlineOfTasks, IsTasksFault, no_switch, refused_task, above, RefusalByTasks, HoldTaskCerts, IsLeastForTask, HeadlineOfTaskcert, NoCertForTask, unaccepted, not_apart, IsTaskcertFault, switch_missing, without, sum_above, RefusalByTaskcert}
use Rattle.tcd_driver.specs.Tool.{NeverRefuses}
use Rattle.tcd_driver.proofs.Headlines.{source_told, cert_means, check_means, held_as, is_bad, means_as, run_means, ship_means}
use Rattle.tcd_driver.proofs.Headlines.Asks.{elf_asked, plan_asked, cert_asked, layout_asked, object_asked, source_asked, placed_source_asked, script_asked, cells_asked, tasks_asked, image_one, plan_one, cert_one, layout_one, cells_one, tasks_one, certs_one, sources_one, AreGood, good_each, behind, then_answer, then_checked, then_input, Follows, then_firmware, then_each}
use Rattle.tcd_driver.proofs.Headlines.Builds.{object_told, asm_means, link_means}
use Rattle.tcd_driver.proofs.Headlines.Tasks.{held_many, cert_told, taskcert_means, tasks_mean}
use Rattle.tcd_driver.proofs.TaskcertReports.{same_need, same_below}
use Rattle.tcd_driver.proofs.Headlines.Boots.{boot_means, bootgen_means}
use Rattle.tcd_driver.proofs.Headlines.Cells.{cellcert_means, cells_means}
use Rattle.tcd_driver.proofs.Headlines.Texts.{cfg_means, dis_means, gen_means, report_means}

-- how a command ends
pub record Answers (c : Command) (asks : List InputRequirement) (IfDone IfRefused : FileMap → FileMap → List ℕ → Type 0) : Type 0 where
  pub follows : (m : FileMap) → Follows (reading_of c) m asks IfDone IfRefused
  pub good : (m after : FileMap) (text : List ℕ) → IfDone m after text ⊎ IfRefused m after text → AreGood m asks
  pub apart : (m after other : FileMap) (text line : List ℕ) → IfDone m after text → IfRefused m other line → ⊥

-- ---- equal images, plans and certificates
accepts_as : {i j : ImageData} {p q : PlanData} {c d : CertData} → i ≡ j → p ≡ q → c ≡ d → Accepts i p c → Accepts j q d
accepts_as {i} {j} {p} {q} {c} {d} e f g h = subst (λ (x : CertData). Accepts j q x) g (subst (λ (x : PlanData). Accepts j x c) f (subst (λ (x : ImageData). Accepts x p c) e h))

-- the same firmware
firmware_one : {m : FileMap} {elf plan : List ℕ} {i j : ImageData} {p q : PlanData} → AreFirmwareFiles m elf plan i p → AreFirmwareFiles m elf plan j q → (i ≡ j) × (p ≡ q)
firmware_one {m} {elf} {plan} {i} {j} {p} {q} h k = (image_one m elf i j h.elf_file k.elf_file, plan_one m plan p q h.plan_file k.plan_file)

checked_alike : {m : FileMap} {elf plan cert : List ℕ} {i j : ImageData} {p q : PlanData} {c d : CertData} → AreCheckFiles m elf plan cert i p c → AreCheckFiles m elf plan cert j q d → Accepts i p c → Accepts j q d
checked_alike {m} {elf} {plan} {cert} {i} {j} {p} {q} {c} {d} h k =
    accepts_as (image_one m elf i j h.elf_file k.elf_file) (plan_one m plan p q h.plan_file k.plan_file) (cert_one m cert c d h.cert_file k.cert_file)

check_good : {m : FileMap} {elf plan cert : List ℕ} {i : ImageData} {p : PlanData} {c : CertData} → AreCheckFiles m elf plan cert i p c → AreGood m (is_elf elf ∷ is_plan plan ∷ is_cert cert ∷ [])
check_good {m} {elf} {plan} {cert} {i} {p} {c} h = ((i, h.elf_file), ((p, h.plan_file), ((c, h.cert_file), tt)))

firmware_good : {m : FileMap} {elf plan : List ℕ} {i : ImageData} {p : PlanData} (asks : List InputRequirement) → AreFirmwareFiles m elf plan i p → AreGood m asks → AreGood m (is_elf elf ∷ is_plan plan ∷ asks)
firmware_good {m} {elf} {plan} {i} {p} asks h rest = ((i, h.elf_file), ((p, h.plan_file), rest))

-- ---- check
pub check_ends : (names : CheckArgs) → Answers (asked.check names) (is_elf names.elf ∷ is_plan names.plan ∷ is_cert names.cert ∷ []) (HeadlineOfCheck names.elf names.plan names.cert) (RefusalByCheck names.elf names.plan names.cert)
check_ends names = record {
  follows = λ m. then_checked (check_means names m);
  good = λ m after text h. elim h [ inl d ↦ check_good d.files | inr k ↦ check_good k.files ];
  apart = λ m after other text line h k. k.unaccepted (checked_alike h.files k.files (h.accepted).accepted);
}

-- ---- cert
-- no certificate is accepted for the same firmware
none_alike : {m : FileMap} {elf plan : List ℕ} {i j : ImageData} {p q : PlanData} (c : CertData) → AreFirmwareFiles m elf plan i p → AreFirmwareFiles m elf plan j q → Accepts i p c → Accepts j q c
none_alike c h k accepted = let same = firmware_one h k in accepts_as same.0 same.1 refl accepted

pub cert_ends : (names : CertArgs) → Answers (asked.certify names) (is_elf names.elf ∷ is_plan names.plan ∷ []) (HeadlineOfCert names.elf names.plan names.cert) (RefusalByCert names.elf names.plan)
cert_ends names = record {
  follows = λ m. then_firmware (λ i p files. then_answer (λ r. cert_means names m i p r files));
  good = λ m after text h. elim h [ inl d ↦ firmware_good [] d.files tt | inr k ↦ firmware_good [] k.files tt ];
  apart = λ m after other text line h k. (k.none).each h.cert ((h.best).least).is_cert (none_alike h.cert h.files k.files ((h.best).accepted).accepted);
}

-- ---- cfg
pub cfg_ends : (names : CfgArgs) → Answers (asked.cfg names) (is_elf names.elf ∷ is_plan names.plan ∷ []) (HeadlineOfCfg names.elf names.plan) (RefusalByCert names.elf names.plan)
cfg_ends names = record {
  follows = λ m. then_firmware (λ i p files. then_answer (λ r. cfg_means names m i p r files));
  good = λ m after text h. elim h [ inl d ↦ firmware_good [] d.files tt | inr k ↦ firmware_good [] k.files tt ];
  apart = λ m after other text line h k. (k.none).each h.cert ((h.best).least).is_cert (none_alike h.cert h.files k.files ((h.best).accepted).accepted);
}

-- ---- report
pub report_ends : (names : ReportArgs) → Answers (asked.report names) (is_elf names.elf ∷ is_plan names.plan ∷ is_cert names.cert ∷ []) (HeadlineOfReport names.elf names.plan names.cert) (RefusalByCheck names.elf names.plan names.cert)
report_ends names = record {
  follows = λ m. then_checked (report_means names m);
  good = λ m after text h. elim h [ inl d ↦ check_good d.files | inr k ↦ check_good k.files ];
  apart = λ m after other text line h k. k.unaccepted (checked_alike h.files k.files (h.accepted).accepted);
}

-- ---- run
pub run_ends : (names : RunArgs) → Answers (asked.run names) (is_elf names.elf ∷ is_plan names.plan ∷ is_script names.plan names.script ∷ []) (HeadlineOfRun names.elf names.plan names.script) NeverRefuses
run_ends names = record {
  follows = λ m. then_firmware (λ i p files. then_input (script_asked m names.script names.plan p files.plan_file) (λ s s_is. then_answer (λ r. run_means names m i p s r files (held_as (script_form p) m names.script s s_is))));
  good = λ m after text h. elim h [ inl d ↦ firmware_good (is_script names.plan names.script ∷ []) d.files ((d.plan, d.script, (d.files).plan_file, d.script_file), tt) | inr k ↦ absurd k ];
  apart = λ m after other text line h k. k;
}

-- ---- dis, asm, link
pub dis_ends : (elf : List ℕ) → Answers (asked.dis elf) (is_elf elf ∷ []) (HeadlineOfDis elf) NeverRefuses
dis_ends elf = record {
  follows = λ m. then_input (elf_asked m elf) (λ i i_is. then_answer (λ r. dis_means elf m i r (held_as elf_form m elf i i_is)));
  good = λ m after text h. elim h [ inl d ↦ ((d.image, d.elf_file), tt) | inr k ↦ absurd k ];
  apart = λ m after other text line h k. k;
}

pub asm_ends : (names : AsmArgs) → Answers (asked.asm names) (is_source 0 names.source ∷ []) (HeadlineOfAsm names.source names.object) NeverRefuses
asm_ends names = record {
  follows = λ m. then_input (source_asked m names.source) (λ o o_is. then_answer (λ r. asm_means names m o r (held_as source_form m names.source o o_is)));
  good = λ m after text h. elim h [ inl d ↦ ((d.object, d.source_file), tt) | inr k ↦ absurd k ];
  apart = λ m after other text line h k. k;
}

pub link_ends : (names : LinkArgs) → Answers (asked.link names) (is_layout names.layout ∷ require_each is_object 0 names.objects (are_linked names.layout names.objects ∷ [])) (HeadlineOfLink names.layout names.image names.objects) NeverRefuses
link_ends names = record {
  follows = λ m. then_input (layout_asked m names.layout) (λ l l_is.
      then_each object_form (2 ^ 24) AreObjectBytes is_object (are_linked names.layout names.objects ∷ []) object_told (λ place name. object_asked m name place) 0 names.objects (λ os. answer (IsLinkReport names.image l os))
      (λ os held. then_answer (λ r. link_means names m l os r (record { layout_file = held_as layout_form m names.layout l l_is; object_files = held }))));
  good = λ m after text h. elim h [
    | inl d ↦ (
      (d.layout, (d.files).layout_file),
      good_each m (2 ^ 24) AreObjectBytes is_object (are_linked names.layout names.objects ∷ []) (λ place name x held. (x, held)) 0 names.objects d.objects (d.files).object_files ((d.layout, d.objects, d.image, d.files, d.linked), tt),
    )
    | inr k ↦ absurd k
  ];
  apart = λ m after other text line h k. k;
}

-- ---- ship
-- the same image
shipped_one : (m : FileMap) (plan layout : List ℕ) (sources : List (List ℕ)) (p q : PlanData) (i j : ImageData) → IsImageOfFiles m plan layout sources p i → IsImageOfFiles m plan layout sources q j → (i ≡ j) × (p ≡ q)
shipped_one m plan layout sources p q i j h k =
    let l = layout_one m layout h.layout k.layout h.layout_file k.layout_file in
    let ss = sources_one m sources h.sources k.sources h.source_files k.source_files in
    let linked = ap (λ (x : LayoutData). image_of_objects (map (λ s. s.object) h.sources) x) l ∙ ap (λ (xs : List SourceData). image_of_objects (map (λ s. s.object) xs) k.layout) ss in
    ((let e = h.linked in let f = linked ∙ k.linked in cc), plan_one m plan p q h.plan_file k.plan_file)

image_good : (m : FileMap) (plan layout : List ℕ) (sources : List (List ℕ)) (p : PlanData) (i : ImageData) → IsImageOfFiles m plan layout sources p i →
    AreGood m (is_plan plan ∷ is_layout layout ∷ require_each is_source 0 sources (are_linked_sources layout sources ∷ []))
image_good m plan layout sources p i h = (
  (p, h.plan_file),
  (
    (h.layout, h.layout_file),
    good_each m (2 ^ 24) IsSourceText is_source (are_linked_sources layout sources ∷ [])
        (λ place name x held. (x.object, record { bytes = held.bytes; held = held.held; short = held.short; form = (held.form).object })) 0 sources h.sources h.source_files
        ((h.layout, h.sources, i, (h.layout_file, h.source_files), h.linked), tt),
  ),
)

pub ship_ends : (names : ShipArgs) → names.elf ≢ names.cert → Answers (asked.ship names) (is_plan names.plan ∷ is_layout names.layout ∷ require_each is_source 0 names.sources (are_linked_sources names.layout names.sources ∷ []))
    (HeadlineOfShip names.plan names.layout names.elf names.cert names.sources) (RefusalByShip names.plan names.layout names.sources)
ship_ends names differ = record {
  follows = λ m. then_input (plan_asked m names.plan) (λ p p_is. then_input (layout_asked m names.layout) (λ l l_is.
      then_each numbered_source_form (2 ^ 24) IsSourceText is_source (are_linked_sources names.layout names.sources ∷ []) source_told (λ place name. placed_source_asked m name place) 0 names.sources (λ ss. answer (IsShipReport names.elf names.cert p l ss))
      (λ ss held. then_answer (ship_means names differ m p l ss (held_as plan_form m names.plan p p_is) (held_as layout_form m names.layout l l_is) held))));
  good = λ m after text h. elim h [ inl d ↦ image_good m names.plan names.layout names.sources d.plan d.image d.image_is | inr k ↦ image_good m names.plan names.layout names.sources k.plan k.image k.image_is ];
  apart = λ m after other text line h k.
      let same = shipped_one m names.plan names.layout names.sources h.plan k.plan h.image k.image h.image_is k.image_is in
      (k.none).each h.cert ((h.best).least).is_cert (accepts_as same.0 same.1 refl ((h.best).accepted).accepted);
}

-- ---- boot
same_number : (o : Option ℕ) (a b : ℕ) → o ≡ Some a → o ≡ Some b → a ≡ b
same_number o a b e f = cc

pub boot_ends : (names : BootArgs) (word : List ℕ) → hex_number_of word ≡ Some names.at →
    Answers (asked.boot names) (is_elf names.elf ∷ is_plan names.plan ∷ is_cert names.cert ∷ []) (HeadlineOfBoot names.elf names.plan names.cert word) (RefusalByBoot names.elf names.plan names.cert word)
boot_ends names word at_is = record {
  follows = λ m. then_checked (boot_means names word at_is m);
  good = λ m after text h. elim h [ inl d ↦ check_good d.files | inr k ↦ elim k [ inl a ↦ check_good a.files | inr b ↦ check_good b.files ] ];
  apart = λ m after other text line h k. elim k [
    | inl a ↦ a.unaccepted (checked_alike h.files a.files (h.accepted).accepted)
    | inr b ↦
        let i = image_one m names.elf h.image b.image (h.files).elf_file (b.files).elf_file in
        let p = plan_one m names.plan h.plan b.plan (h.files).plan_file (b.files).plan_file in
        let at = same_number (hex_number_of word) h.at b.at h.at_is b.at_is in
        not_both b.image b.plan b.at b.against
        (subst (λ (x : ℕ). HasBoot b.image b.plan x) at (subst (λ (x : PlanData). HasBoot b.image x h.at) p (subst (λ (x : ImageData). HasBoot x h.plan h.at) i h.stands))) b.judged
  ];
}

pub bootgen_ends : (names : BootgenArgs) (entry_word at_word : List ℕ) → hex_number_of entry_word ≡ Some names.entry → hex_number_of at_word ≡ Some names.at → names.at + 224 ≤ 2 ^ 32 →
    Answers (asked.bootgen names) (is_plan names.plan ∷ []) (HeadlineOfBootgen names.plan entry_word at_word names.source) NeverRefuses
bootgen_ends names entry_word at_word entry_is at_is room = record {
  follows = λ m. then_input (plan_asked m names.plan) (λ p p_is. then_answer (λ r. bootgen_means names entry_word at_word entry_is at_is room m p r (held_as plan_form m names.plan p p_is)));
  good = λ m after text h. elim h [ inl d ↦ ((d.plan, d.plan_file), tt) | inr k ↦ absurd k ];
  apart = λ m after other text line h k. k;
}

-- ---- cells
then_cells : {m : FileMap} {D R : FileMap → FileMap → List ℕ → Type 0} {elf plan list : List ℕ} {asks : List InputRequirement} {next : ImageData → PlanData → List Cell → Reading} →
    ((i : ImageData) (p : PlanData) (cs : List Cell) → AreCellFiles m elf plan list i p cs → Follows (next i p cs) m asks D R) →
    Follows (input ImageData elf_form elf (λ i. input PlanData plan_form plan (λ p. input (List Cell) (cells_form p) list (λ cs. next i p cs)))) m (is_elf elf ∷ is_plan plan ∷ are_cells plan list ∷ asks) D R
then_cells {m} {D} {R} {elf} {plan} {list} rest =
    then_firmware (λ i p files. then_input (cells_asked m list plan p files.plan_file) (λ cs cs_is. rest i p cs (record { firmware = files; cells_file = held_as (cells_form p) m list cs cs_is })))

cell_files_good : {m : FileMap} {elf plan list : List ℕ} {i : ImageData} {p : PlanData} {cs : List Cell} (asks : List InputRequirement) → AreCellFiles m elf plan list i p cs → AreGood m asks → AreGood m (is_elf elf ∷ is_plan plan ∷ are_cells plan list ∷ asks)
cell_files_good {m} {elf} {plan} {list} {i} {p} {cs} asks h rest = firmware_good (are_cells plan list ∷ asks) h.firmware ((p, cs, (h.firmware).plan_file, h.cells_file), rest)

-- what holds of a list for a plan, of the same files
list_as : {A : Type 0} {m : FileMap} {elf plan : List ℕ} {i j : ImageData} {p q : PlanData} {x y : A} (Held : PlanData → A → Type 0) → ((r : PlanData) (a b : A) → Held r a → Held r b → a ≡ b) → (Holds : ImageData → PlanData → A → Type 0) →
    AreFirmwareFiles m elf plan i p → AreFirmwareFiles m elf plan j q → Held p x → Held q y → Holds i p x → Holds j q y
list_as {A} {m} {elf} {plan} {i} {j} {p} {q} {x} {y} Held one Holds h k here there holds =
    let same = firmware_one h k in
    subst (λ (a : A). Holds j q a) (one q x y (subst (λ (r : PlanData). Held r x) same.1 here) there) (subst (λ (r : PlanData). Holds j r x) same.1 (subst (λ (v : ImageData). Holds v p x) same.0 holds))

-- the certificate is accepted under the plan with the cells, and keeps them
record AreKept (c : CertData) (i : ImageData) (p : PlanData) (cs : List Cell) : Type 0 where
  accepted : Accepts i (with_cells p cs) c
  keeps : CertKeepsCellBounds i (with_cells p cs) cs c

pub cells_ends : (names : CellsArgs) → Answers (asked.cells names) (is_elf names.elf ∷ is_plan names.plan ∷ are_cells names.plan names.cells ∷ is_cert names.cert ∷ [])
    (HeadlineOfCells names.elf names.plan names.cells names.cert) (RefusalByCells names.elf names.plan names.cells names.cert)
cells_ends names = record {
  follows = λ m. then_cells (λ i p cs files. then_input (cert_asked m names.cert) (λ c c_is. then_answer (cells_means names m i p cs c files (held_as cert_form m names.cert c c_is))));
  good = λ m after text h. elim h [ inl d ↦ cell_files_good (is_cert names.cert ∷ []) d.files ((d.cert, d.cert_file), tt) | inr k ↦ cell_files_good (is_cert names.cert ∷ []) k.files ((k.cert, k.cert_file), tt) ];
  apart = λ m after other text line h k.
      let c = cert_one m names.cert h.cert k.cert h.cert_file k.cert_file in
      let kept = list_as (λ r x. HoldsCells m names.cells r x) (cells_one m names.cells) (AreKept k.cert) (h.files).firmware (k.files).firmware (h.files).cells_file (k.files).cells_file
      (subst (λ (x : CertData). AreKept x h.image h.plan h.list) c (record { accepted = ((h.kept).accepted).accepted; keeps = (h.kept).keeps })) in
      elim k.fails [ inl f ↦ fails_refutes _ _ _ k.rule k.frame k.address f.fails kept.accepted | inr f ↦ cell_faults_refute _ _ _ _ k.frame k.address (f.2).breaks kept.keeps ];
}

-- ---- cellcert
pub cellcert_ends : (names : CellcertArgs) → Answers (asked.cellcert names) (is_elf names.elf ∷ is_plan names.plan ∷ are_cells names.plan names.cells ∷ [])
    (HeadlineOfCellcert names.elf names.plan names.cells names.cert) (RefusalByCellcert names.elf names.plan names.cells)
cellcert_ends names = record {
  follows = λ m. then_cells (λ i p cs files. then_answer (cellcert_means names m i p cs files));
  good = λ m after text h. elim h [ inl d ↦ cell_files_good [] d.files tt | inr k ↦ cell_files_good [] k.files tt ];
  apart = λ m after other text line h k.
      let kept = list_as (λ r x. HoldsCells m names.cells r x) (cells_one m names.cells) (AreKept h.cert) (h.files).firmware (k.files).firmware (h.files).cells_file (k.files).cells_file (record { accepted = ((h.kept).accepted).accepted; keeps = (h.kept).keeps }) in
      elim k.fails [
        | inl none ↦ none.0 h.cert (h.least).is_cert h.version kept.accepted
        | inr none ↦ (none.1).each h.cert (h.least).is_cert h.version kept.accepted kept.keeps
      ];
}

-- ---- gen
pub gen_ends : (word : List ℕ) (n : ℕ) → IsGenFunctionCount word n → Answers (asked.generate n) [] (HeadlineOfGen word) (RefusalByGen word)
gen_ends word n counted = record {
  follows = λ m. then_answer (gen_means word n counted m);
  good = λ m after text h. tt;
  apart = λ m after other text line h k.
      let same = same_number (script_number word) h.functions k.functions (h.counted).is (k.counted).is in
      k.none h.cert (h.least).is_cert h.version (subst (λ (x : ℕ). Accepts (generated_image x) generated_plan h.cert) same (h.accepted).accepted);
}

-- ---- tasks
-- there are as many names as tasks, or not
then_count : {m : FileMap} {D R : FileMap → FileMap → List ℕ → Type 0} (plan list : List ℕ) (certs : List (List ℕ)) (p : PlanData) (t : TasksData) {asks : List InputRequirement} {reading : Reading} → HoldsPlan m plan p → HoldsTasks m list p t →
    (length certs ≡ count t → Follows reading m asks D R) → (b : Bool) → (length certs == count t) ≡ b → Follows (tasks_reading_if b reading) m (is_cert_per_task plan list certs ∷ asks) D R
unfolding bad_tasks_line
then_count plan list certs p t plan_is list_is rest true e =
    let many = eqb-true (length certs) (count t) e in
    record { means = λ r said. behind (p, t, plan_is, list_is, many) ((rest many).means r said); asked = λ there. (rest many).asked there.1 }
then_count plan list certs p t plan_is list_is rest false e =
    record { means = λ r said. means_as said (is_bad refl refl (inl (p, t, plan_is, list_is, eqb-false (length certs) (count t) e, refl))); asked = λ there. tt }

then_tasks : {m : FileMap} {D R : FileMap → FileMap → List ℕ → Type 0} {elf plan list : List ℕ} {certs : List (List ℕ)} {asks : List InputRequirement} {next : ImageData → PlanData → TasksData → Reading} →
    ((i : ImageData) (p : PlanData) (t : TasksData) → AreTaskFiles m elf plan list i p t → length certs ≡ count t → Follows (next i p t) m asks D R) →
    Follows (input ImageData elf_form elf (λ i. input PlanData plan_form plan (λ p. input TasksData (tasks_form p) list (λ t. with_name_per_task certs t (next i p t))))) m
    (is_elf elf ∷ is_plan plan ∷ are_tasks plan list ∷ is_cert_per_task plan list certs ∷ asks) D R
then_tasks {m} {D} {R} {elf} {plan} {list} {certs} rest =
    then_firmware (λ i p files. then_input (tasks_asked m list plan p files.plan_file) (λ t t_is.
    let held : HoldsTasks m list p t = held_as (tasks_form p) m list t t_is in
    then_count plan list certs p t files.plan_file held (λ many. rest i p t (record { firmware = files; tasks_file = held }) many) (length certs == count t) refl))

task_files_good : {m : FileMap} {elf plan list : List ℕ} {i : ImageData} {p : PlanData} {t : TasksData} (certs : List (List ℕ)) (asks : List InputRequirement) → AreTaskFiles m elf plan list i p t → length certs ≡ count t → AreGood m asks →
    AreGood m (is_elf elf ∷ is_plan plan ∷ are_tasks plan list ∷ is_cert_per_task plan list certs ∷ asks)
task_files_good {m} {elf} {plan} {list} {i} {p} {t} certs asks h many rest =
    firmware_good (are_tasks plan list ∷ is_cert_per_task plan list certs ∷ asks) h.firmware ((p, t, (h.firmware).plan_file, h.tasks_file), ((p, t, (h.firmware).plan_file, h.tasks_file, many), rest))

module _ (i : ImageData) (p : PlanData) (t : TasksData) (cs : List CertData) (needs : ℕ → ℕ) (h : AreTasksSafeTogether i p t cs needs) where
  sum_as : sum_of_first (count t) needs ≡ sum_of_task_needs i p t cs
  sum_as = same_below (count t) needs (need_of_task i p t (cert_of_task cs)) (λ u lt. h.needs_are u)

  tasks_refuted : (line : List ℕ) → IsTasksFault i p t cs line → ⊥
  tasks_refuted line (no_switch addr fault e) = fault.fails (h.routine fault.place fault.within)
  tasks_refuted line (refused_task u rule key addr routine first e) =
      let good = h.each u first.task in
      elim first.fails [ inl f ↦ fails_refutes _ _ _ rule key addr f.fails good.accepted | inr f ↦ task_faults_refute _ _ _ _ key addr (f.2).fails good.apart ]
  tasks_refuted line (above routine each more e) = let enough = h.enough in omega (arith, sum_as, enough, more)

-- files of tasks with their certificates
task_certs_good : {m : FileMap} {elf plan list : List ℕ} {i : ImageData} {p : PlanData} {t : TasksData} (certs : List (List ℕ)) (cs : List CertData) → HoldEachFile m (2 ^ 30) (λ bytes cert. certificate_of bytes ≡ Ok cert) certs cs →
    AreTaskFiles m elf plan list i p t → length cs ≡ count t → AreGood m (is_elf elf ∷ is_plan plan ∷ are_tasks plan list ∷ is_cert_per_task plan list certs ∷ require_each (λ place name. is_cert name) 0 certs [])
task_certs_good {m} {elf} {plan} {list} {i} {p} {t} certs cs held files many =
    task_files_good certs (require_each (λ place name. is_cert name) 0 certs []) files (held_many m (2 ^ 30) (λ bytes cert. certificate_of bytes ≡ Ok cert) certs cs held ∙ many)
    (good_each m (2 ^ 30) (λ bytes cert. certificate_of bytes ≡ Ok cert) (λ place name. is_cert name) [] (λ place name x held. (x, held)) 0 certs cs held tt)

pub tasks_end : (names : TasksArgs) →
    Answers (asked.tasks names)
    (is_elf names.elf ∷ is_plan names.plan ∷ are_tasks names.plan names.tasks ∷ is_cert_per_task names.plan names.tasks names.certs ∷ require_each (λ place name. is_cert name) 0 names.certs [])
    (HeadlineOfTasks names.elf names.plan names.tasks names.certs) (RefusalByTasks names.elf names.plan names.tasks names.certs)
tasks_end names = record {
  follows = λ m. then_tasks (λ i p t files many.
      then_each (λ _. cert_form) (2 ^ 30) (λ bytes cert. certificate_of bytes ≡ Ok cert) (λ place name. is_cert name) [] cert_told (λ place name. cert_asked m name) 0 names.certs (λ cs. answer (IsTasksVerdict i p t cs))
      (λ cs held. then_answer (tasks_mean names m i p t cs files held (sym (held_many m (2 ^ 30) (λ bytes cert. certificate_of bytes ≡ Ok cert) names.certs cs held) ∙ many))));
  good = λ m after text h. elim h [ inl d ↦ task_certs_good names.certs d.certs d.cert_files d.files (d.together).as_many | inr k ↦ task_certs_good names.certs k.certs k.cert_files k.files k.as_many ];
  apart = λ m after other text line h k.
      tasks_refuted k.image k.plan k.list k.certs h.needs
      (list_as (λ r x. HoldsTasks m names.tasks r x) (tasks_one m names.tasks) (λ i p t. AreTasksSafeTogether i p t k.certs h.needs) (h.files).firmware (k.files).firmware (h.files).tasks_file (k.files).tasks_file
      (subst (λ (x : List CertData). AreTasksSafeTogether h.image h.plan h.list x h.needs) (certs_one m names.certs h.certs k.certs h.cert_files k.cert_files) h.together))
      line k.fault;
}

-- ---- taskcert
certs_many : (m : FileMap) (names : List (List ℕ)) (cs : List CertData) → HoldTaskCerts m names cs → length names ≡ length cs
certs_many m [] [] h = refl
certs_many m [] (c ∷ cs) h = absurd h
certs_many m (name ∷ names) [] h = absurd h
certs_many m (name ∷ names) (c ∷ cs) h = ap suc (certs_many m names cs h.1)

-- the certificates are the least ones, and the tasks are safe together
record AreLeast (cs : List CertData) (needs : ℕ → ℕ) (i : ImageData) (p : PlanData) (t : TasksData) : Type 0 where
  together : AreTasksSafeTogether i p t cs needs
  least : (u : ℕ) → u < count t → IsLeastForTask i p t u (cert_of_task cs u)

module _ (i : ImageData) (p : PlanData) (t : TasksData) (cs : List CertData) (needs : ℕ → ℕ) (h : AreLeast cs needs i p t) where
  one_need : (u : ℕ) (d : CertData) → u < count t → IsAcceptedForTask i p t u d → IsLeastForTask i p t u d → certified_need (view_image_of i t u) (view_plan_of p t u) (cert_of_task cs u) ≡ certified_need (view_image_of i t u) (view_plan_of p t u) d
  one_need u d lt accepted least =
      let c = cert_of_task cs u in
      let ours = h.least u lt in
      same_need (view_image_of i t u) (view_plan_of p t u) c d (ours.least).is_cert (least.least).is_cert
      (λ k. (ours.least).needs d k (least.least).is_cert (least.version ∙ sym ours.version) accepted.accepted)
      (λ k. (least.least).needs c k (ours.least).is_cert (ours.version ∙ sym least.version) ((h.together).each u lt).accepted)

  none_refuted : (u rule : ℕ) (key : Key) (addr : ℕ) → u < count t → NoCertForTask (view_image_of i t u) (view_plan_of p t u) t rule key addr → ⊥
  none_refuted u _ _ _ lt (unaccepted rule key addr none why) = none (cert_of_task cs u) ((h.least u lt).least).is_cert (h.least u lt).version ((h.together).each u lt).accepted
  none_refuted u _ _ _ lt (not_apart c key addr none version accepted least fault) =
      none (cert_of_task cs u) ((h.least u lt).least).is_cert (h.least u lt).version ((h.together).each u lt).accepted ((h.together).each u lt).apart

  taskcert_refuted : (line : List ℕ) → IsTaskcertFault i p t line → ⊥
  taskcert_refuted line (switch_missing addr fault e) = fault.fails ((h.together).routine fault.place fault.within)
  taskcert_refuted line (without u rule key addr routine first e) = none_refuted u rule key addr first.task first.none
  taskcert_refuted line (sum_above ds routine each more e) =
      let same : sum_of_task_needs i p t cs ≡ sum_of_task_needs i p t ds =
      same_below (count t) (need_of_task i p t (cert_of_task cs)) (need_of_task i p t (cert_of_task ds))
      (λ u lt. ap (λ (n : ℕ). if u == 0 then n else max n 2) (one_need u (cert_of_task ds u) lt (each u lt).0 (each u lt).1))
      in
      let ours = sum_as i p t cs needs h.together in
      let enough = (h.together).enough in
      omega (arith, same, ours, enough, more)

pub taskcert_ends : (names : TaskcertArgs) → are_distinct_names names.certs ≡ true →
    Answers (asked.taskcert names) (is_elf names.elf ∷ is_plan names.plan ∷ are_tasks names.plan names.tasks ∷ is_cert_per_task names.plan names.tasks names.certs ∷ [])
    (HeadlineOfTaskcert names.elf names.plan names.tasks names.certs) (RefusalByTaskcert names.elf names.plan names.tasks names.certs)
taskcert_ends names different = record {
  follows = λ m. then_tasks (λ i p t files many. then_answer (taskcert_means names different m i p t files many));
  good = λ m after text h. elim h [ inl d ↦ task_files_good names.certs [] d.files (certs_many after names.certs d.certs d.written ∙ (d.together).as_many) tt | inr k ↦ task_files_good names.certs [] k.files k.as_many tt ];
  apart = λ m after other text line h k.
      taskcert_refuted k.image k.plan k.list h.certs h.needs
      (list_as (λ r x. HoldsTasks m names.tasks r x) (tasks_one m names.tasks) (AreLeast h.certs h.needs) (h.files).firmware (k.files).firmware (h.files).tasks_file (k.files).tasks_file (record { together = h.together; least = h.least }))
      line k.fault;
}
