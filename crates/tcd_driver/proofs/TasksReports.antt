-- What `tasks` reports.
use Rattle.std.proofs.Common.{◌≡◌, ◌-◌, ◌*◌, ◌+◌, ◌^◌, ◌<◌, ◌≤◌, ◌==◌, inl, inr, true, false, ℕ, suc, Bool, List, [], length, get_or, Ok, Err, sym, ap, subst, ◌∙◌, arith, refl}
use Rattle.std.specs.Prelude.{max, if◌then◌else◌}
use Rattle.std.proofs.lemmas.Bool.Decides.{eqb_tells}
use Rattle.std.proofs.lemmas.Bool.{cases_lt}
use Rattle.std.proofs.lemmas.Option.{slice_get-get_or}
use Rattle.csa_chain.specs.SeveralChains.{sum_of_first}
use Rattle.elf_image.specs.Images.{ImageData}
use Rattle.tcd_plan.specs.PlanData.{PlanData, IsPlan}
use Rattle.tcd_text.specs.Lines.{text_lines}
use Rattle.tc_machine.specs.Safe.{Safe}
use Rattle.depth_cert.specs.Certs.{CertData, IsCert}
use Rattle.depth_cert.specs.declared.keys.Key.{Key}
use Rattle.cfg_recover.specs.RulesHoldOrFail.{Accepts, IsFirstFault, certified_need}
use Rattle.cfg_recover.proofs.FaultLaws.{fails_refutes}
use Rattle.depth_check.proofs.Held as held
use Rattle.task_chains.specs.Tasks.{TasksData, AreTasks, count}
use Rattle.task_chains.specs.SwitchRoutine.{HasRoutine}
use Rattle.task_chains.specs.Views.{TasksFitPlan, view_image_of, view_plan_of}
use Rattle.task_chains.specs.Rule17.{KeepsRule17, IsRule17Fault}
use Rattle.task_chains.specs.SafeTasks.{IsSoundTaskCert}
use Rattle.task_chains.proofs.GrowthLaws.{task_faults_refute}
use Rattle.task_chains.proofs.ReadOne.{reads_one}
use Rattle.task_chains.proofs.Together.{tasks_are_safe}
use Rattle.task_chains.proofs.ViewPlan.{view_is_plan}
use Rattle.tcd_reading.specs.Reports.{Report, text_report}
use Rattle.tcd_reading.specs.Inputs.{Reading}
use Rattle.tcd_forms.specs.Forms.{cert_form}
use Rattle.tcd_driver.specs.CellAndTaskForms.{tasks_form}
use Rattle.tcd_forms.specs.Lines.{certified_tasks_line}
use Rattle.tcd_driver.specs.Tasks.{cert_of_task, IsTaskRefused, unaccepted, not_apart, counted_needs_of_tasks, sum_of_needs, AreFirstTaskCertsAccepted, IsTasksVerdict, no_switch, refused, above, certified, tasks_reading_if, with_name_per_task, task_certs_reading}
use Rattle.tcd_reading.specs.declared.status.Status.TheVariants.{Done, Refused, BadInput}
use Rattle.tcd_reading.proofs.Decided.{AreAlike, IsLawful, IsDecided, decided_each, decided_answer}
use Rattle.tcd_forms.proofs.FormLaws.{cert_lawful}
use Rattle.tcd_driver.proofs.Alike.{IsSide, well, against, alike, refusable}

-- a text is tasks, or none
pub tasks_lawful : (p : PlanData) → IsLawful (tasks_form p)
tasks_lawful p = record {
  one = λ b x y h k. let e = reads_one p (text_lines b) (Ok x) (Ok y) h k in cc;
  apart = λ b t x h k. let e = reads_one p (text_lines b) (Ok x) (Err k.0) h k.1 in cc;
}

-- ---- one task
-- a certificate that is judged well is accepted, and keeps K17
refused_refutes : (i : ImageData) (p : PlanData) (t : TasksData) (c : CertData) (u rule : ℕ) (k : Key) (x : ℕ) → IsTaskRefused i p t c u rule k x → IsSoundTaskCert i p t c u → ⊥
refused_refutes i p t c u _ _ _ (unaccepted rule k x first) good = fails_refutes (view_image_of i t u) (view_plan_of p t u) c rule k x first.fails good.accepted
refused_refutes i p t c u _ _ _ (not_apart k x accepted fault) good = task_faults_refute (view_image_of i t u) (view_plan_of p t u) t c k x fault.fails good.apart

-- a certificate that isn't accepted for its view, or fails K17, with equal images and plans
pub first_there : (i : ImageData) (p : PlanData) (t : TasksData) (c : CertData) (u rule : ℕ) (k : Key) (x : ℕ) (view : ImageData) (board : PlanData) → view ≡ view_image_of i t u → board ≡ view_plan_of p t u
    → IsFirstFault view board c rule k x → IsTaskRefused i p t c u rule k x
first_there i p t c u rule k x view board seen planned first =
    unaccepted rule k x (subst (λ (q : PlanData). IsFirstFault (view_image_of i t u) q c rule k x) planned (subst (λ (v : ImageData). IsFirstFault v board c rule k x) seen first))

pub fault_there : (i : ImageData) (p : PlanData) (t : TasksData) (c : CertData) (u : ℕ) (k : Key) (x : ℕ) (view : ImageData) (board : PlanData) → view ≡ view_image_of i t u → board ≡ view_plan_of p t u
    → Accepts view board c → IsRule17Fault view board t c k x → IsTaskRefused i p t c u 17 k x
fault_there i p t c u k x view board seen planned accepted fault =
    not_apart k x
    (subst (λ (q : PlanData). Accepts (view_image_of i t u) q c) planned (subst (λ (v : ImageData). Accepts v board c) seen accepted))
    (subst (λ (q : PlanData). IsRule17Fault (view_image_of i t u) q t c k x) planned (subst (λ (v : ImageData). IsRule17Fault v board t c k x) seen fault))

-- a certificate that is judged well, with equal images and plans
pub judged_well : (i : ImageData) (fields p : PlanData) (parts t : TasksData) (all c : CertData) (u need : ℕ) (view : ImageData) (board : PlanData) → fields ≡ p → IsPlan fields → parts ≡ t → AreTasks parts → all ≡ c → IsCert all → TasksFitPlan p t → u < count t
    → view ≡ view_image_of i t u → board ≡ view_plan_of p t u → Accepts view board c → need ≡ certified_need view board c → Safe view board need → KeepsRule17 view board t c
    → IsSoundTaskCert i p t c u × (need ≡ certified_need (view_image_of i t u) (view_plan_of p t u) c)
judged_well i fields p parts t all c u need view board same is_plan same_t are same_c is_cert fit lt seen planned accepted is safe apart =
    let ok = subst IsPlan same is_plan in
    let tasks = subst AreTasks same_t are in
    let good = subst IsCert same_c is_cert in
    let accepts = subst (λ (q : PlanData). Accepts (view_image_of i t u) q c) planned (subst (λ (v : ImageData). Accepts v board c) seen accepted) in
    let need_is = is ∙ ap (λ (v : ImageData). certified_need v board c) seen ∙ ap (λ (q : PlanData). certified_need (view_image_of i t u) q c) planned in
    let safe_there = subst (λ (q : PlanData). Safe (view_image_of i t u) q need) planned (subst (λ (v : ImageData). Safe v board need) seen safe) in (
      record {
        is_cert = good;
        accepted = accepts;
        safe = subst (λ (n : ℕ). Safe (view_image_of i t u) (view_plan_of p t u) n) need_is safe_there;
        frames = held.frames_are_held (view_image_of i t u) (view_plan_of p t u) c (view_is_plan ok t tasks fit u lt) good accepts;
        apart = subst (λ (q : PlanData). KeepsRule17 (view_image_of i t u) q t c) planned (subst (λ (v : ImageData). KeepsRule17 v board t c) seen apart);
      },
      need_is,
    )

-- ---- the verdict
module _ (i : ImageData) (p : PlanData) (t : TasksData) (certs : List CertData) where
  -- nothing is against the tasks
  record IsWell : Type 0 where
    pub routine : HasRoutine i p t
    pub judged : AreFirstTaskCertsAccepted i p t certs (count t)
    pub within : sum_of_needs i p t certs ≤ p.areas - p.reserve

  side : (r : Report) → IsTasksVerdict i p t certs r → IsSide IsWell Refused r
  side r (no_switch x fault e) = against _ e (λ w. fault.fails (w.routine fault.place fault.within))
  side r (refused u rule key addr has first e) = against _ e (λ w. refused_refutes i p t (cert_of_task certs u) u rule key addr first.refused (w.judged u first.task))
  side r (above has judged more e) = against _ e (λ w. let le = w.within in omega arith)
  side r (certified has judged within safe e) = well _ e refl (record { routine = has; judged = judged; within = within })

  pub tasks_alike : AreAlike (IsTasksVerdict i p t certs)
  tasks_alike = refusable side

-- one report of a refusal
bad_input_alike : (text : List ℕ) → AreAlike (λ r. r ≡ text_report BadInput text)
bad_input_alike text = alike {Holds = ⊥} (λ r e. against text e (λ w. w)) (inr (inr refl))

decided_if : (b : Bool) (reading : Reading) → IsDecided reading → IsDecided (tasks_reading_if b reading)
decided_if true reading h = h
decided_if false reading h = decided_answer _ (bad_input_alike _)

pub decided_each_named : (names : List (List ℕ)) (t : TasksData) (reading : Reading) → IsDecided reading → IsDecided (with_name_per_task names t reading)
decided_each_named names t reading h = decided_if (length names == count t) reading h

pub certs_decided : (names : List (List ℕ)) (i : ImageData) (p : PlanData) (t : TasksData) → IsDecided (task_certs_reading names i p t)
certs_decided names i p t = decided_each_named names t _ (decided_each CertData (λ _. cert_form) 0 names _ (λ _. cert_lawful) (λ cs. decided_answer _ (tasks_alike i p t cs)))

-- ---- how many certificates there are
by_bool : (P : Reading → Type 0) (reading : Reading) (b c : Bool) → b ≡ c → P (tasks_reading_if c reading) → P (tasks_reading_if b reading)
by_bool P reading b c e h = subst (λ (x : Bool). P (tasks_reading_if x reading)) (sym e) h

pub as_many : (P : Reading → Type 0) (names : List (List ℕ)) (t : TasksData) (reading : Reading) → length names ≡ count t → P reading → P (with_name_per_task names t reading)
as_many P names t reading e h = elim (eqb_tells (length names) (count t)) [ inl y ↦ by_bool P reading _ true y.0 h | inr n ↦ absurd (n.1 e) ]

pub not_as_many : (P : Reading → Type 0) (names : List (List ℕ)) (t : TasksData) (reading : Reading) → (length names ≡ count t → ⊥) → P (tasks_reading_if false reading) → P (with_name_per_task names t reading)
not_as_many P names t reading e h = elim (eqb_tells (length names) (count t)) [ inl y ↦ absurd (e y.1) | inr n ↦ by_bool P reading _ false n.0 h ]

-- ---- the reports of a sum
-- the certificates of the tasks below n are judged well, and this is the sum of their needs
pub record AreTallied (image : ImageData) (plan : PlanData) (tasks : TasksData) (certs : List CertData) (n total : ℕ) : Type 0 where
  pub judged : AreFirstTaskCertsAccepted image plan tasks certs n
  pub sum : total ≡ sum_of_first n (counted_needs_of_tasks image plan tasks certs)
  pub few : total ≤ n * 2 ^ 32

pub certified_tasks : (i : ImageData) (fields p : PlanData) (parts t : TasksData) (certs : List CertData) (sum n : ℕ) (r : Report) → fields ≡ p → IsPlan fields → parts ≡ t → AreTasks parts → TasksFitPlan p t → HasRoutine i p t
    → AreFirstTaskCertsAccepted i p t certs (count t) → sum ≡ sum_of_needs i p t certs → sum ≤ fields.areas - fields.reserve → n ≡ count t → r ≡ text_report Done (certified_tasks_line sum (fields.areas - fields.reserve) n) → IsTasksVerdict i p t certs r
certified_tasks i fields p parts t certs sum n r same is_plan same_t are fit has judged is within many e =
    let room : sum_of_needs i p t certs ≤ p.areas - p.reserve = subst (λ (s : ℕ). s ≤ p.areas - p.reserve) is (subst (λ (q : PlanData). sum ≤ q.areas - q.reserve) same within) in
    certified has judged room (tasks_are_safe i p t (cert_of_task certs) (subst IsPlan same is_plan) (subst AreTasks same_t are) fit has judged room)
    cc

-- ---- one task after another
pub sum_next : (n : ℕ) (f : ℕ → ℕ) → sum_of_first (n + 1) f ≡ sum_of_first n f + f n
sum_next n f = let one : n + 1 ≡ suc n = omega arith in ap (λ (m : ℕ). sum_of_first m f) one

judged_next : (i : ImageData) (p : PlanData) (t : TasksData) (certs : List CertData) (n : ℕ) → AreFirstTaskCertsAccepted i p t certs n → IsSoundTaskCert i p t (cert_of_task certs n) n → AreFirstTaskCertsAccepted i p t certs (n + 1)
judged_next i p t certs n before here u lt =
    elim (cases_lt u n) [ inl less ↦ before u less | inr not ↦ let e : n ≡ u = omega arith in subst (λ (w : ℕ). IsSoundTaskCert i p t (cert_of_task certs w) w) e here ]

-- the next task is judged well, with its need
pub next_tallied : (i : ImageData) (p : PlanData) (t : TasksData) (certs : List CertData) (c : CertData) (n total need more : ℕ) → cert_of_task certs n ≡ c → more ≤ 2 ^ 32 → AreTallied i p t certs n total
    → IsSoundTaskCert i p t c n × (need ≡ certified_need (view_image_of i t n) (view_plan_of p t n) c) → more ≡ (if n == 0 then need else max need 2) → AreTallied i p t certs (n + 1) (total + more)
next_tallied i p t certs c n total need more at small tallied judged counts =
    let here : IsSoundTaskCert i p t (cert_of_task certs n) n = subst (λ (x : CertData). IsSoundTaskCert i p t x n) (sym at) judged.0 in
    let below = tallied.few in
    let need_is : more ≡ counted_needs_of_tasks i p t certs n =
    counts ∙ ap (λ (m : ℕ). if n == 0 then m else max m 2) (judged.1 ∙ ap (λ (x : CertData). certified_need (view_image_of i t n) (view_plan_of p t n) x) (sym at)) in
    let step : sum_of_first (n + 1) (counted_needs_of_tasks i p t certs) ≡ sum_of_first n (counted_needs_of_tasks i p t certs) + counted_needs_of_tasks i p t certs n = sum_next n (counted_needs_of_tasks i p t certs) in
    record {
      judged = judged_next i p t certs n tallied.judged here;
      sum = let s = tallied.sum in omega arith;
      few = omega arith;
    }

-- the certificate at this place
pub cert_here : (certs : List CertData) (n : ℕ) (x : CertData) → n < length certs → x ≡ get_or certs n x → cert_of_task certs n ≡ x
cert_here certs n x lt is = let e = slice_get-get_or certs n (record { version = 1; nodes = [] }) lt in let f = slice_get-get_or certs n x lt in cc
