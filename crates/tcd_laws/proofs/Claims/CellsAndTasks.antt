-- The claims of `cells`, `cellcert`, `tasks` and `taskcert`.
use Rattle.std.proofs.Common.{◌≡◌, ◌^◌, inl, inr, ℕ, zero, suc, List, [], ◌∷◌, length, slice_get, Some, None, Ok, refl, ap, subst}
use Rattle.std.specs.FinMap.{get}
use Rattle.tcd_base.specs.Files.{FileMap}
use Rattle.elf_image.specs.Images.{ImageData}
use Rattle.tcd_plan.specs.PlanData.{PlanData, IsPlan}
use Rattle.depth_cert.specs.declared.keys.Key.{Key}
use Rattle.depth_cert.specs.Certs.{CertData}
use Rattle.depth_cert.specs.Grammar.{certificate_of}
use Rattle.depth_cert.specs.Spelling.{bytes_of_cert}
use Rattle.value_cells.specs.declared.cells.Cell.{Cell}
use Rattle.value_cells.specs.Cells.{with_cells}
use Rattle.value_cells.specs.Safe.{SafeWithCells}
use Rattle.value_cells.proofs.PlainWords.{all_in_bounds, one_in_bounds}
use Rattle.task_chains.specs.Tasks.{TasksData}
use Rattle.task_chains.specs.Views.{view_image_of, view_plan_of}
use Rattle.task_chains.specs.SafeTasks.{SafeTasks}
use Rattle.task_chains.proofs.SafeWords.{safe_tasks_say}
use Rattle.tcd_driver.specs.Headlines.Cells as driver
use Rattle.tcd_driver.specs.Headlines.Tasks as tasked
use Rattle.tcd_laws.specs.Claims.CellsAndTasks.{CellsStayInBounds, cells_line, HeldCellFiles, KeepsCells, NoneKeepsCells, RunsHaveSafeTaskParts, cert_at, HeldTaskFiles, KeepsTaskApart, IsLeastOfTask, KeepTasksSafe, tasks_line, RefusesTask, LacksCert, none, none_apart, MakesNoneForTask, no_switch, by_task, by_sum, WhyTasksRefuses, WhyTaskcertRefuses, CellsClaimsHold, CellsRefusalsHold, CellcertClaimsHold, CellcertRefusalsHold, TasksClaimsHold, TasksRefusalsHold, TaskcertClaimsHold, TaskcertRefusalsHold}
use Rattle.tcd_laws.proofs.Claims.{prints_text, files_stay, writes_file, held, held_each, accepted_with, least, fails_first_at, refused_at}
use Rattle.tcd_laws.proofs.Claims.Running.{plan_told}

-- ---- cells
cell_files : {m : FileMap} {elf plan_name cells_name : List ℕ} {image : ImageData} {plan : PlanData} {cells : List Cell} → driver.AreCellFiles m elf plan_name cells_name image plan cells → HeldCellFiles m elf plan_name cells_name image plan cells
cell_files h = record { image_held = held h.firmware.elf_file; plan_held = held h.firmware.plan_file; cells_held = held h.cells_file }

stay_in_bounds : (image : ImageData) (plan : PlanData) (cells : List Cell) (most : ℕ) → SafeWithCells image plan cells most → CellsStayInBounds image plan cells most
stay_in_bounds image plan cells most safe m es e starts bounds fit last =
    let at = safe m es e starts (all_in_bounds m.mem cells bounds) fit last in
    (at.safe, λ c member. one_in_bounds _ cells c at.bounds member)

keeps_cells : (image : ImageData) (plan : PlanData) (cells : List Cell) (cert : CertData) (most : ℕ) → driver.AreCellsKeptWithNeed image plan cells cert most → KeepsCells image plan cells cert most
keeps_cells image plan cells cert most h = record {
  accepted = accepted_with image (with_cells plan cells) cert most h.accepted;
  keeps = h.keeps;
  bounds = stay_in_bounds image plan cells most h.safe;
}

pub cells_claims : CellsClaimsHold
cells_claims elf plan list cert call before says words status known =
    let means = (says.cells elf plan list cert).done before words status known in
    let h = means.4 in
    record {
      image = h.image;
      plan = h.plan;
      cells = h.list;
      cert = h.cert;
      most = h.need;
      files = cell_files h.files;
      cert_held = held h.cert_file;
      kept = keeps_cells h.image h.plan h.list h.cert h.need h.kept;
      prints = prints_text call means.1 (cells_line h.need h.plan h.list) means.3 h.prints;
      stays = files_stay call before means.0 means.2 h.stays;
    }

pub cellcert_claims : CellcertClaimsHold
cellcert_claims elf plan list cert call before says words status known =
    let means = (says.cellcert elf plan list cert).done before words status known in
    let h = means.4 in
    record {
      image = h.image;
      plan = h.plan;
      cells = h.list;
      cert = h.cert;
      most = h.need;
      files = cell_files h.files;
      kept = keeps_cells h.image h.plan h.list h.cert h.need h.kept;
      version = h.version;
      least = least h.image (with_cells h.plan h.list) h.cert h.least;
      reads_back = h.reads;
      writes = writes_file call before means.0 cert (bytes_of_cert h.cert) means.2 h.writes;
      prints = prints_text call means.1 (cells_line h.need h.plan h.list) means.3 h.prints;
    }

pub cells_refuses : CellsRefusalsHold
cells_refuses elf plan list cert call before says words status known =
    let means = (says.cells elf plan list cert).refused before words status known in
    let h = means.4 in
    record {
      image = h.image;
      plan = h.plan;
      cells = h.list;
      cert = h.cert;
      rule = h.rule;
      frame = h.frame;
      address = h.address;
      files = cell_files h.files;
      cert_held = held h.cert_file;
      why = elim h.fails [
        | inl first ↦ inl (fails_first_at h.image (with_cells h.plan h.list) h.cert h.rule h.frame h.address first)
        | inr broken ↦ inr broken
      ];
      prints = prints_text call means.1 _ means.3 h.prints;
      stays = files_stay call before means.0 means.2 h.stays;
    }

none_keeps : (image : ImageData) (plan : PlanData) (cells : List Cell) (frame : Key) (address : ℕ) → driver.NoneKeepsCellBounds image plan cells frame address → NoneKeepsCells image plan cells frame address
none_keeps image plan cells frame address h = record {
  none = h.each;
  cert = h.cert;
  version = h.version;
  accepted = h.accepted;
  least = least image (with_cells plan cells) h.cert h.least;
  first = h.first;
}

pub cellcert_refuses : CellcertRefusalsHold
cellcert_refuses elf plan list cert call before says words status known =
    let means = (says.cellcert elf plan list cert).refused before words status known in
    let h = means.4 in
    record {
      image = h.image;
      plan = h.plan;
      cells = h.list;
      rule = h.rule;
      frame = h.frame;
      address = h.address;
      files = cell_files h.files;
      why = elim h.fails [
        | inl lacking ↦ inl (lacking.0, refused_at h.image (with_cells h.plan h.list) 2 h.rule h.frame h.address lacking.1)
        | inr broken ↦ inr (broken.0, none_keeps h.image h.plan h.list h.frame h.address broken.1)
      ];
      prints = prints_text call means.1 _ means.3 h.prints;
      stays = files_stay call before means.0 means.2 h.stays;
    }

-- ---- tasks
task_files : {m : FileMap} {elf plan_name tasks_name : List ℕ} {image : ImageData} {plan : PlanData} {tasks : TasksData} → tasked.AreTaskFiles m elf plan_name tasks_name image plan tasks → HeldTaskFiles m elf plan_name tasks_name image plan tasks
task_files h = record { image_held = held h.firmware.elf_file; plan_held = held h.firmware.plan_file; tasks_held = held h.tasks_file }

apart : (image : ImageData) (plan : PlanData) (tasks : TasksData) (u : ℕ) (cert : CertData) → tasked.IsAcceptedForTask image plan tasks u cert → KeepsTaskApart image plan tasks u cert
apart image plan tasks u cert h = record { accepted = h.accepted; apart = h.apart }

least_of_task : (image : ImageData) (plan : PlanData) (tasks : TasksData) (u : ℕ) (cert : CertData) → tasked.IsLeastForTask image plan tasks u cert → IsLeastOfTask image plan tasks u cert
least_of_task image plan tasks u cert h = record {
  version = h.version;
  least = least (view_image_of image tasks u) (view_plan_of plan tasks u) cert h.least;
  reads_back = h.reads;
}

safe_parts : (image : ImageData) (plan : PlanData) (tasks : TasksData) (needs : ℕ → ℕ) → IsPlan plan → SafeTasks image plan tasks needs → RunsHaveSafeTaskParts image plan tasks needs
safe_parts image plan tasks needs ok safe states events n e walk starts fits last =
    safe_tasks_say image plan tasks.switch tasks.block tasks.list needs states events n e ok safe walk starts fits last

tasks_safe : (image : ImageData) (plan : PlanData) (tasks : TasksData) (certs : List CertData) (needs : ℕ → ℕ) → IsPlan plan → tasked.AreTasksSafeTogether image plan tasks certs needs → KeepTasksSafe image plan tasks certs needs
tasks_safe image plan tasks certs needs ok h = record {
  as_many = h.as_many;
  routine = h.routine;
  each = λ u lt. apart image plan tasks u (cert_at certs u) (h.each u lt);
  needs_are = h.needs_are;
  enough = h.enough;
  runs = safe_parts image plan tasks needs ok h.safe;
}

pub tasks_claims : TasksClaimsHold
tasks_claims elf plan list certs call before says words status known =
    let means = (says.tasks elf plan list certs).done before words status known in
    let h = means.4 in
    let file = h.files.firmware.plan_file in
    record {
      image = h.image;
      plan = h.plan;
      tasks = h.list;
      certs = h.certs;
      needs = h.needs;
      files = task_files h.files;
      certs_held = held_each before (2 ^ 30) (λ bytes cert. certificate_of bytes ≡ Ok cert) certs h.certs h.cert_files;
      safe = tasks_safe h.image h.plan h.list h.certs h.needs (plan_told file.bytes h.plan file.form) h.together;
      prints = prints_text call means.1 (tasks_line h.needs h.plan h.list) means.3 h.prints;
      stays = files_stay call before means.0 means.2 h.stays;
    }

certs_count : (m : FileMap) (names : List (List ℕ)) (certs : List CertData) → tasked.HoldTaskCerts m names certs → length names ≡ length certs
certs_count m [] [] h = refl
certs_count m [] (c ∷ cs) h = absurd h
certs_count m (name ∷ names) [] h = absurd h
certs_count m (name ∷ names) (c ∷ cs) h = ap suc (certs_count m names cs h.1)

certs_written : (m : FileMap) (names : List (List ℕ)) (certs : List CertData) → tasked.HoldTaskCerts m names certs
    → (k : ℕ) (name : List ℕ) (cert : CertData) → slice_get names k ≡ Some name → slice_get certs k ≡ Some cert → get m name ≡ Some (bytes_of_cert cert)
certs_written m [] certs h k name cert a b = let e : None ≡ Some name = a in cc
certs_written m (n ∷ names) [] h k name cert a b = absurd h
certs_written m (n ∷ names) (c ∷ cs) h zero name cert a b =
    let there = h.0 in
    let same : n ≡ name = cc in
    let one : c ≡ cert = cc in
    subst (λ (z : List ℕ). get m z ≡ Some (bytes_of_cert cert)) same (subst (λ (z : CertData). get m n ≡ Some (bytes_of_cert z)) one there)
certs_written m (n ∷ names) (c ∷ cs) h (suc k) name cert a b = certs_written m names cs h.1 k name cert a b

pub taskcert_claims : TaskcertClaimsHold
taskcert_claims elf plan list certs call before says words status known =
    let means = (says.taskcert elf plan list certs).done before words status known in
    let h = means.4 in
    let file = h.files.firmware.plan_file in
    record {
      image = h.image;
      plan = h.plan;
      tasks = h.list;
      certs = h.certs;
      needs = h.needs;
      files = task_files h.files;
      safe = tasks_safe h.image h.plan h.list h.certs h.needs (plan_told file.bytes h.plan file.form) h.together;
      least = λ u lt. least_of_task h.image h.plan h.list u (cert_at h.certs u) (h.least u lt);
      writes = record {
        after = means.0;
        held = means.2;
        as_many = certs_count means.0 certs h.certs h.written;
        written = certs_written means.0 certs h.certs h.written;
        others = h.others;
      };
      prints = prints_text call means.1 (tasks_line h.needs h.plan h.list) means.3 h.prints;
    }

-- ---- tasks that are refused
refused_task : (image : ImageData) (plan : PlanData) (tasks : TasksData) (certs : List CertData) (u rule : ℕ) (frame : Key) (address : ℕ) → tasked.IsFirstRefusedTask image plan tasks certs u rule frame address
    → RefusesTask image plan tasks certs u rule frame address
refused_task image plan tasks certs u rule frame address h = record {
  one = h.task;
  earlier = λ w lt. apart image plan tasks w (cert_at certs w) (h.before w lt);
  fails = elim h.fails [
    | inl first ↦ inl (fails_first_at (view_image_of image tasks u) (view_plan_of plan tasks u) (cert_at certs u) rule frame address first)
    | inr broken ↦ inr broken
  ];
}

lacks_cert : (view : ImageData) (plan : PlanData) (tasks : TasksData) (rule : ℕ) (frame : Key) (address : ℕ) → tasked.NoCertForTask view plan tasks rule frame address → LacksCert view plan tasks rule frame address
lacks_cert view plan tasks _ _ _ (tasked.unaccepted rule frame address refused why) = none rule frame address refused (refused_at view plan 2 rule frame address why)
lacks_cert view plan tasks _ _ _ (tasked.not_apart cert frame address each version accepted is fault) = none_apart cert frame address each version accepted (least view plan cert is) fault

without_cert : (image : ImageData) (plan : PlanData) (tasks : TasksData) (u rule : ℕ) (frame : Key) (address : ℕ) → tasked.IsFirstTaskWithoutCert image plan tasks u rule frame address
    → MakesNoneForTask image plan tasks u rule frame address
without_cert image plan tasks u rule frame address h = record {
  one = h.task;
  earlier = λ w lt. let made = h.before w lt in (made.0, apart image plan tasks w made.0 made.1, least_of_task image plan tasks w made.0 made.2);
  lacks = lacks_cert (view_image_of image tasks u) (view_plan_of plan tasks u) tasks rule frame address h.none;
}

why_tasks : (image : ImageData) (plan : PlanData) (tasks : TasksData) (certs : List CertData) (line : List ℕ) → tasked.IsTasksFault image plan tasks certs line → WhyTasksRefuses image plan tasks certs line
why_tasks image plan tasks certs line (tasked.no_switch address fault is) = no_switch address fault is
why_tasks image plan tasks certs line (tasked.refused_task u rule frame address routine first is) =
    by_task u rule frame address routine (refused_task image plan tasks certs u rule frame address first) is
why_tasks image plan tasks certs line (tasked.above routine each above is) = by_sum certs _ routine (refl, λ u lt. apart image plan tasks u (cert_at certs u) (each u lt)) refl above is

why_taskcert : (image : ImageData) (plan : PlanData) (tasks : TasksData) (line : List ℕ) → tasked.IsTaskcertFault image plan tasks line → WhyTaskcertRefuses image plan tasks line
why_taskcert image plan tasks line (tasked.switch_missing address fault is) = no_switch address fault is
why_taskcert image plan tasks line (tasked.without u rule frame address routine first is) =
    by_task u rule frame address routine (without_cert image plan tasks u rule frame address first) is
why_taskcert image plan tasks line (tasked.sum_above certs routine each above is) =
    by_sum certs _ routine (λ u lt. let both = each u lt in (apart image plan tasks u (cert_at certs u) both.0, least_of_task image plan tasks u (cert_at certs u) both.1)) refl above is

pub tasks_refuses : TasksRefusalsHold
tasks_refuses elf plan list certs call before says words status known =
    let means = (says.tasks elf plan list certs).refused before words status known in
    let h = means.4 in
    record {
      image = h.image;
      plan = h.plan;
      tasks = h.list;
      certs = h.certs;
      line = means.1;
      files = task_files h.files;
      certs_held = held_each before (2 ^ 30) (λ bytes cert. certificate_of bytes ≡ Ok cert) certs h.certs h.cert_files;
      as_many = h.as_many;
      why = why_tasks h.image h.plan h.list h.certs means.1 h.fault;
      prints = means.3;
      stays = files_stay call before means.0 means.2 h.stays;
    }

pub taskcert_refuses : TaskcertRefusalsHold
taskcert_refuses elf plan list certs call before says words status known =
    let means = (says.taskcert elf plan list certs).refused before words status known in
    let h = means.4 in
    record {
      image = h.image;
      plan = h.plan;
      tasks = h.list;
      line = means.1;
      files = task_files h.files;
      as_many = h.as_many;
      why = why_taskcert h.image h.plan h.list means.1 h.fault;
      prints = means.3;
      stays = files_stay call before means.0 means.2 h.stays;
    }
