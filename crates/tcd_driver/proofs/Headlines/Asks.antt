-- What a command asks of its input: it is good or bad, and never both.
use Rattle.std.proofs.Common.{◌≡◌, ◌≤◌, ◌+◌, ◌^◌, inl, inr, ℕ, List, [], ◌∷◌, ◌++◌, length, map, Option, Some, Ok, refl, sym, ap, subst, ◌∙◌, arith}
use Rattle.std.specs.Prelude.{codes}
use Rattle.std.specs.FinMap.{get}
use Rattle.elf_image.specs.Images.{ImageData}
use Rattle.elf_image.specs.ReadElf.{image_of_file}
use Rattle.tcd_plan.specs.PlanData.{PlanData}
use Rattle.tcd_plan.specs.PlanReader.{GivesPlan}
use Rattle.tc_script.specs.ScriptText.{script_of}
use Rattle.tcd_text.specs.Lines.{text_lines}
use Rattle.depth_cert.specs.Certs.{CertData}
use Rattle.depth_cert.specs.Grammar.{certificate_of}
use Rattle.tc_object.specs.Objects.{ObjectData}
use Rattle.tc_object.specs.Grammar as grammar
use Rattle.tc_link.specs.Layouts.{LayoutData}
use Rattle.tc_link.specs.LayoutFaults.{layout_of}
use Rattle.tc_link.specs.Linked.{image_of_objects}
use Rattle.value_cells.specs.declared.cells.Cell.{Cell}
use Rattle.value_cells.specs.CellListText as cells
use Rattle.task_chains.specs.Tasks.{TasksData, count}
use Rattle.task_chains.specs.TaskListText as tasks
use Rattle.tcd_base.specs.Files.{FileMap, HasFileOfName}
use Rattle.tcd_reading.specs.Reports.{Report}
use Rattle.tcd_reading.specs.Inputs.{FormSeen, HoldsInput, IsInputRejection, Reading, input_files, ReadingSays, HoldsNeededInputs, answer, input}
use Rattle.tcd_forms.specs.Forms.{SourceData, elf_form, plan_form, cert_form, script_form, source_form, numbered_source_form, layout_form, object_form}
use Rattle.tcd_forms.specs.Lines.{elf_too_long_line, plan_too_long_line, cert_too_long_line, bad_cert_line, script_too_long_line, source_too_long_line, bad_source_line, layout_too_long_line, object_too_long_line, bad_object_line, cells_too_long_line, tasks_too_long_line, line_end_with_number, line_end_with_two_numbers}
use Rattle.tcd_forms.proofs.FormLaws.{ok_err, elf_lawful, plan_lawful, cert_lawful, source_lawful, placed_source_lawful, layout_lawful, object_lawful}
use Rattle.tcd_driver.specs.CellAndTaskForms.{cells_form, tasks_form}
use Rattle.tcd_driver.specs.Headlines.{HoldsFile, IsBadFile, too_long, faulty, HoldsImage, HoldsPlan, HoldsCert, HoldEachFile, AreCheckFiles, AreFirmwareFiles}
use Rattle.tcd_driver.specs.Headlines.Builds.{AreObjectBytes, HoldsLayout, IsSourceText}
use Rattle.tcd_driver.specs.Headlines.Asks.{InputRequirement, is_elf, is_plan, is_cert, is_layout, is_object, is_source, is_script, are_cells, are_tasks, are_linked, are_linked_sources, is_cert_per_task, require_each, HoldsCells, HoldsTasks, IsGoodInput, IsBadInputWithLine, IsInputPresent, AreInputsPresent, IsFirstBadInput}
use Rattle.tcd_driver.proofs.CellsReports.{cells_lawful}
use Rattle.tcd_driver.proofs.TasksReports.{tasks_lawful}
use Rattle.tcd_driver.proofs.Headlines.{Tells, bad_file, Means, held_as, is_bad, is_done, is_refused}

-- ---- what is asked of a file
-- a file that is read in this form is good, bad or missing, as it is asked
pub record IsAskedAs {A : Type 0} (form : FormSeen A) (m : FileMap) (name : List ℕ) (ask : InputRequirement) : Type 0 where
  pub good : (x : A) → HoldsInput form (Some m) name x → IsGoodInput m ask
  pub bad : (line : List ℕ) → IsInputRejection form (Some m) name line → IsBadInputWithLine m ask line
  pub there : IsInputPresent m ask → HasFileOfName (Some m) name

module _ (m : FileMap) (name : List ℕ) where
  pub elf_asked : IsAskedAs elf_form m name (is_elf name)
  unfolding elf_too_long_line
  elf_asked = record { good = λ x h. (x, held_as elf_form m name x h); bad = λ line h. bad_file elf_form m name line _ refl h; there = λ h. h }

  pub plan_asked : IsAskedAs plan_form m name (is_plan name)
  unfolding plan_too_long_line
  plan_asked = record { good = λ x h. (x, held_as plan_form m name x h); bad = λ line h. bad_file plan_form m name line _ refl h; there = λ h. h }

  pub cert_asked : IsAskedAs cert_form m name (is_cert name)
  unfolding cert_too_long_line bad_cert_line line_end_with_number
  cert_asked = record { good = λ x h. (x, held_as cert_form m name x h); bad = λ line h. bad_file cert_form m name line _ refl h; there = λ h. h }

  pub layout_asked : IsAskedAs layout_form m name (is_layout name)
  unfolding layout_too_long_line
  layout_asked = record { good = λ x h. (x, held_as layout_form m name x h); bad = λ line h. bad_file layout_form m name line _ refl h; there = λ h. h }

  pub object_asked : (place : ℕ) → IsAskedAs (object_form place) m name (is_object place name)
  unfolding object_too_long_line bad_object_line line_end_with_number line_end_with_two_numbers
  object_asked place = record { good = λ x h. (x, held_as (object_form place) m name x h); bad = λ line h. bad_file (object_form place) m name line _ refl h; there = λ h. h }

  pub source_asked : IsAskedAs source_form m name (is_source 0 name)
  unfolding source_too_long_line bad_source_line line_end_with_number line_end_with_two_numbers
  source_asked = record { good = λ x h. (x, held_as source_form m name x h); bad = λ line h. bad_file source_form m name line _ refl h; there = λ h. h }

  pub placed_source_asked : (place : ℕ) → IsAskedAs (numbered_source_form place) m name (is_source place name)
  unfolding source_too_long_line bad_source_line line_end_with_number line_end_with_two_numbers
  placed_source_asked place = record { good = λ x h. (x.object, record { bytes = h.0; held = h.1; short = h.2; form = (h.3).1 }); bad = λ line h. bad_file (numbered_source_form place) m name line _ refl h; there = λ h. h }

  -- files of a plan
  module _ (plan_name : List ℕ) (p : PlanData) (plan : HoldsPlan m plan_name p) where
    pub script_asked : IsAskedAs (script_form p) m name (is_script plan_name name)
    unfolding script_too_long_line
    script_asked = record { good = λ x h. (p, x, plan, held_as (script_form p) m name x h); bad = λ line h. (p, plan, bad_file (script_form p) m name line _ refl h); there = λ h. h }

    pub cells_asked : IsAskedAs (cells_form p) m name (are_cells plan_name name)
    unfolding cells_too_long_line
    cells_asked = record { good = λ x h. (p, x, plan, held_as (cells_form p) m name x h); bad = λ line h. (p, plan, bad_file (cells_form p) m name line _ refl h); there = λ h. h }

    pub tasks_asked : IsAskedAs (tasks_form p) m name (are_tasks plan_name name)
    unfolding tasks_too_long_line
    tasks_asked = record { good = λ x h. (p, x, plan, held_as (tasks_form p) m name x h); bad = λ line h. (p, plan, bad_file (tasks_form p) m name line _ refl h); there = λ h. h }

-- ---- one after another
-- A reading follows what a command asks: so much its reports mean, and it needs no other files.
pub record Follows (reading : Reading) (m : FileMap) (asks : List InputRequirement) (IfDone IfRefused : FileMap → FileMap → List ℕ → Type 0) : Type 0 where
  pub means : (r : Report) → ReadingSays reading (Some m) r → Means m asks IfDone IfRefused r
  pub asked : AreInputsPresent m asks → HoldsNeededInputs reading (Some m)

module _ {m : FileMap} {D R : FileMap → FileMap → List ℕ → Type 0} where
  -- what is asked before is good
  pub behind : {ask : InputRequirement} {asks : List InputRequirement} {r : Report} → IsGoodInput m ask → Means m asks D R r → Means m (ask ∷ asks) D R r
  behind good (is_done after e w h) = is_done after e w h
  behind good (is_refused e w h) = is_refused e w h
  behind good (is_bad e w h) = is_bad e w (inr (good, h))

  pub then_answer : {P : Report → Type 0} {asks : List InputRequirement} → ((r : Report) → P r → Means m asks D R r) → Follows (answer P) m asks D R
  then_answer means = record { means = means; asked = λ there. tt }

  pub then_input : {A : Type 0} {form : FormSeen A} {name : List ℕ} {ask : InputRequirement} {asks : List InputRequirement} {next : A → Reading} → IsAskedAs form m name ask → ((x : A) → HoldsInput form (Some m) name x → Follows (next x) m asks D R) →
      Follows (input A form name next) m (ask ∷ asks) D R
  then_input {A} {form} {name} {ask} {asks} {next} is rest = record { means = by_input; asked = λ there. (is.there there.0, λ x h. (rest x h).asked there.1) }
    where
      by_input : (r : Report) → ReadingSays (input A form name next) (Some m) r → Means m (ask ∷ asks) D R r
      by_input r (inl h) = is_bad h.status h.nothing (inl (is.bad r.text h.line))
      by_input r (inr h) = behind (is.good h.0 h.1) ((rest h.0 h.1).means r h.2)

  -- files of a list
  pub then_each : {A : Type 0} (form : ℕ → FormSeen A) (most : ℕ) (Is : List ℕ → A → Type 0) (ask : ℕ → List ℕ → InputRequirement) (asks : List InputRequirement) → Tells form most Is → ((place : ℕ) (name : List ℕ) → IsAskedAs (form place) m name (ask place name)) →
      (place : ℕ) (names : List (List ℕ)) (next : List A → Reading) → ((xs : List A) → HoldEachFile m most Is names xs → Follows (next xs) m asks D R) → Follows (input_files A form place names next) m (require_each ask place names asks) D R
  then_each form most Is ask asks tells is place [] next rest = rest [] tt
  then_each form most Is ask asks tells is place (name ∷ names) next rest =
      then_input (is place name) (λ x h. then_each form most Is ask asks tells is (place + 1) names (λ xs. next (x ∷ xs)) (λ xs held. rest (x ∷ xs) (tells place m name x h, held)))

  -- an executable and a plan, and a certificate
  pub then_firmware : {elf plan : List ℕ} {asks : List InputRequirement} {next : ImageData → PlanData → Reading} → ((i : ImageData) (p : PlanData) → AreFirmwareFiles m elf plan i p → Follows (next i p) m asks D R) →
      Follows (input ImageData elf_form elf (λ i. input PlanData plan_form plan (λ p. next i p))) m (is_elf elf ∷ is_plan plan ∷ asks) D R
  then_firmware {elf} {plan} rest =
      then_input (elf_asked m elf) (λ i i_is. then_input (plan_asked m plan) (λ p p_is. rest i p (record { elf_file = held_as elf_form m elf i i_is; plan_file = held_as plan_form m plan p p_is })))

  pub then_checked : {elf plan cert : List ℕ} {P : ImageData → PlanData → CertData → Report → Type 0} → ((i : ImageData) (p : PlanData) (c : CertData) (r : Report) → AreCheckFiles m elf plan cert i p c → P i p c r → Means m [] D R r) →
      Follows (input ImageData elf_form elf (λ i. input PlanData plan_form plan (λ p. input CertData cert_form cert (λ c. answer (P i p c))))) m (is_elf elf ∷ is_plan plan ∷ is_cert cert ∷ []) D R
  then_checked {elf} {plan} {cert} means =
      then_firmware (λ i p files. then_input (cert_asked m cert) (λ c c_is. then_answer (λ r h. means i p c r (record { elf_file = files.elf_file; plan_file = files.plan_file; cert_file = held_as cert_form m cert c c_is }) h)))

-- ---- one value
same_bytes : (o : Option (List ℕ)) (a b : List ℕ) → o ≡ Some a → o ≡ Some b → a ≡ b
same_bytes o a b e f = cc

value_one : {A : Type 0} (m : FileMap) (name : List ℕ) (most : ℕ) (Is : List ℕ → A → Type 0) → ((bytes : List ℕ) (x y : A) → Is bytes x → Is bytes y → x ≡ y) → (x y : A) →
    HoldsFile m name most (λ bytes. Is bytes x) → HoldsFile m name most (λ bytes. Is bytes y) → x ≡ y
value_one m name most Is one x y h k = one h.bytes x y h.form (subst (λ (b : List ℕ). Is b y) (same_bytes (get m name) k.bytes h.bytes k.held h.held) k.form)

values_one : {A : Type 0} (m : FileMap) (most : ℕ) (Is : List ℕ → A → Type 0) → ((bytes : List ℕ) (x y : A) → Is bytes x → Is bytes y → x ≡ y) → (names : List (List ℕ)) (xs ys : List A) →
    HoldEachFile m most Is names xs → HoldEachFile m most Is names ys → xs ≡ ys
values_one m most Is one [] [] [] h k = refl
values_one m most Is one [] [] (y ∷ ys) h k = absurd k
values_one m most Is one [] (x ∷ xs) ys h k = absurd h
values_one m most Is one (name ∷ names) [] ys h k = absurd h
values_one m most Is one (name ∷ names) (x ∷ xs) [] h k = absurd k
values_one m most Is one (name ∷ names) (x ∷ xs) (y ∷ ys) h k =
    ap (λ v. v ∷ xs) (value_one m name most Is one x y h.0 k.0) ∙ ap (λ vs. y ∷ vs) (values_one m most Is one names xs ys h.1 k.1)

module _ (m : FileMap) (name : List ℕ) where
  pub image_one : (x y : ImageData) → HoldsImage m name x → HoldsImage m name y → x ≡ y
  image_one = value_one m name (2 ^ 24) (λ bytes image. image_of_file bytes ≡ Ok image) elf_lawful.one

  pub plan_one : (x y : PlanData) → HoldsPlan m name x → HoldsPlan m name y → x ≡ y
  plan_one = value_one m name (2 ^ 24) (λ bytes plan. GivesPlan bytes (Ok plan)) plan_lawful.one

  pub cert_one : (x y : CertData) → HoldsCert m name x → HoldsCert m name y → x ≡ y
  cert_one = value_one m name (2 ^ 30) (λ bytes cert. certificate_of bytes ≡ Ok cert) cert_lawful.one

  pub layout_one : (x y : LayoutData) → HoldsLayout m name x → HoldsLayout m name y → x ≡ y
  layout_one = value_one m name (2 ^ 24) (λ bytes layout. layout_of bytes ≡ Ok layout) layout_lawful.one

  pub cells_one : (p : PlanData) (x y : List Cell) → HoldsCells m name p x → HoldsCells m name p y → x ≡ y
  cells_one p = value_one m name (2 ^ 24) (λ bytes list. cells.IsResultOfCellText p bytes (Ok list)) (cells_lawful p).one

  pub tasks_one : (p : PlanData) (x y : TasksData) → HoldsTasks m name p x → HoldsTasks m name p y → x ≡ y
  tasks_one p = value_one m name (2 ^ 24) (λ bytes list. tasks.IsResultOfTaskText p (text_lines bytes) (Ok list)) (tasks_lawful p).one

module _ (m : FileMap) (names : List (List ℕ)) where
  pub certs_one : (xs ys : List CertData) → HoldEachFile m (2 ^ 30) (λ bytes cert. certificate_of bytes ≡ Ok cert) names xs → HoldEachFile m (2 ^ 30) (λ bytes cert. certificate_of bytes ≡ Ok cert) names ys → xs ≡ ys
  certs_one = values_one m (2 ^ 30) (λ bytes cert. certificate_of bytes ≡ Ok cert) cert_lawful.one names

  objects_one : (xs ys : List ObjectData) → HoldEachFile m (2 ^ 24) AreObjectBytes names xs → HoldEachFile m (2 ^ 24) AreObjectBytes names ys → xs ≡ ys
  objects_one = values_one m (2 ^ 24) AreObjectBytes (object_lawful 0).one names

  pub sources_one : (xs ys : List SourceData) → HoldEachFile m (2 ^ 24) IsSourceText names xs → HoldEachFile m (2 ^ 24) IsSourceText names ys → xs ≡ ys
  sources_one = values_one m (2 ^ 24) IsSourceText (λ bytes x y h k. (placed_source_lawful 0).one bytes x y (h.text, h.object) (k.text, k.object)) names

-- ---- what is good isn't bad
file_apart : (m : FileMap) (name : List ℕ) (most : ℕ) (long : List ℕ) (Has : List ℕ → Type 0) (HasFault : List ℕ → List ℕ → Type 0) (line : List ℕ) → ((bytes : List ℕ) → Has bytes → HasFault bytes line → ⊥) →
    HoldsFile m name most Has → IsBadFile m name most long HasFault line → ⊥
file_apart m name most long Has HasFault line apart h (too_long bytes held above e) =
    let short : length bytes ≤ most = subst (λ (b : List ℕ). length b ≤ most) (same_bytes (get m name) h.bytes bytes h.held held) h.short in
    omega (arith, short, above)
file_apart m name most long Has HasFault line apart h (faulty k) = apart k.bytes (subst Has (same_bytes (get m name) h.bytes k.bytes h.held k.held) h.form) k.form

good_apart : (m : FileMap) (ask : InputRequirement) (line : List ℕ) → IsGoodInput m ask → IsBadInputWithLine m ask line → ⊥
good_apart m (is_elf name) line good bad = file_apart m name (2 ^ 24) _ _ _ line (λ bytes h k. elf_lawful.apart bytes line good.0 h k) good.1 bad
good_apart m (is_plan name) line good bad = file_apart m name (2 ^ 24) _ _ _ line (λ bytes h k. plan_lawful.apart bytes line good.0 h k) good.1 bad
good_apart m (is_cert name) line good bad = file_apart m name (2 ^ 30) _ _ _ line (λ bytes h k. ok_err (certificate_of bytes) good.0 k.0 h k.1) good.1 bad
good_apart m (is_layout name) line good bad = file_apart m name (2 ^ 24) _ _ _ line (λ bytes h k. layout_lawful.apart bytes line good.0 h k) good.1 bad
good_apart m (is_object place name) line good bad = file_apart m name (2 ^ 24) _ _ _ line (λ bytes h k. ok_err (grammar.object_of bytes) good.0 k.0 h k.1) good.1 bad
good_apart m (is_source place name) line good bad =
    file_apart m name (2 ^ 24) _ _ _ line (λ bytes h k. source_lawful.apart bytes (bad_source_line 0 k.1 k.0) good.0 h (k.0, k.1, k.2, refl)) good.1 bad
good_apart m (is_script plan_name name) line good bad =
    let p = plan_one m plan_name bad.0 good.0 bad.1 good.2 in
    file_apart m name (2 ^ 24) _ _ _ line (λ bytes h k. ok_err (script_of good.0 bytes) good.1 k.0 h k.1) good.3
    (subst (λ (q : PlanData). IsBadFile m name (2 ^ 24) (codes "bad script 0" ++ 10 ∷ []) (script_form q).IsBad line) p bad.2)
good_apart m (are_cells plan_name name) line good bad =
    let p = plan_one m plan_name bad.0 good.0 bad.1 good.2 in
    file_apart m name (2 ^ 24) _ _ _ line (λ bytes h k. (cells_lawful good.0).apart bytes line good.1 h k) good.3
    (subst (λ (q : PlanData). IsBadFile m name (2 ^ 24) (codes "bad cells 0" ++ 10 ∷ []) (cells_form q).IsBad line) p bad.2)
good_apart m (are_tasks plan_name name) line good bad =
    let p = plan_one m plan_name bad.0 good.0 bad.1 good.2 in
    file_apart m name (2 ^ 24) _ _ _ line (λ bytes h k. (tasks_lawful good.0).apart bytes line good.1 h k) good.3
    (subst (λ (q : PlanData). IsBadFile m name (2 ^ 24) (codes "bad tasks 0" ++ 10 ∷ []) (tasks_form q).IsBad line) p bad.2)
good_apart m (are_linked layout_name names) line good bad =
    let l = layout_one m layout_name bad.0 good.0 (bad.3).layout_file (good.3).layout_file in
    let o = objects_one m names bad.1 good.1 (bad.3).object_files (good.3).object_files in
    ok_err (image_of_objects good.1 good.0) good.2 bad.2 good.4 (ap (λ (x : LayoutData). image_of_objects good.1 x) (sym l) ∙ ap (λ (x : List ObjectData). image_of_objects x bad.0) (sym o) ∙ bad.4)
good_apart m (are_linked_sources layout_name names) line good bad =
    let l = layout_one m layout_name bad.0 good.0 (bad.3).0 (good.3).0 in
    let s = sources_one m names bad.1 good.1 (bad.3).1 (good.3).1 in
    ok_err (image_of_objects (map (λ x. x.object) good.1) good.0) good.2 bad.2 good.4
    (ap (λ (x : LayoutData). image_of_objects (map (λ x. x.object) good.1) x) (sym l) ∙ ap (λ (ss : List SourceData). image_of_objects (map (λ x. x.object) ss) bad.0) (sym s) ∙ bad.4)
good_apart m (is_cert_per_task plan_name tasks_name names) line good bad =
    let p = plan_one m plan_name bad.0 good.0 bad.2 good.2 in
    let t = tasks_one m tasks_name good.0 bad.1 good.1 (subst (λ (q : PlanData). HoldsTasks m tasks_name q bad.1) p bad.3) good.3 in
    bad.4 (good.4 ∙ ap count (sym t))

-- ---- all that is asked
-- all that is asked is good
abbrev pub AreGood : FileMap → List InputRequirement → Type 0
AreGood m [] = Unit {0}
AreGood m (ask ∷ asks) = IsGoodInput m ask × AreGood m asks

pub never_bad : (m : FileMap) (asks : List InputRequirement) (line : List ℕ) → AreGood m asks → IsFirstBadInput m asks line → ⊥
never_bad m [] line good bad = bad
never_bad m (ask ∷ asks) line good (inl bad) = good_apart m ask line good.0 bad
never_bad m (ask ∷ asks) line good (inr bad) = never_bad m asks line good.1 bad.1

pub good_each : {A : Type 0} (m : FileMap) (most : ℕ) (Is : List ℕ → A → Type 0) (ask : ℕ → List ℕ → InputRequirement) (asks : List InputRequirement) → ((place : ℕ) (name : List ℕ) (x : A) → HoldsFile m name most (λ bytes. Is bytes x) → IsGoodInput m (ask place name)) →
    (place : ℕ) (names : List (List ℕ)) (xs : List A) → HoldEachFile m most Is names xs → AreGood m asks → AreGood m (require_each ask place names asks)
good_each m most Is ask asks is place [] [] h rest = rest
good_each m most Is ask asks is place [] (x ∷ xs) h rest = absurd h
good_each m most Is ask asks is place (name ∷ names) [] h rest = absurd h
good_each m most Is ask asks is place (name ∷ names) (x ∷ xs) h rest = (is place name x h.0, good_each m most Is ask asks is (place + 1) names xs h.1 rest)
