-- What `taskcert` reports.
use Rattle.std.proofs.Common.{◌≡◌, ◌-◌, ◌*◌, ◌+◌, ◌^◌, ◌<◌, ◌≤◌, ◌==◌, inl, inr, zero, ℕ, suc, refl, List, [], ◌∷◌, ◌++◌, length, Option, Some, None, Result, Ok, Err, sym, ap, subst, ◌∙◌, arith}
use Rattle.std.specs.Prelude.{max, if◌then◌else◌, slice_get}
use Rattle.std.specs.List.{find}
use Rattle.std.specs.declared.vec.Vec.{Vec}
use Rattle.std.specs.declared.alloc.Global.{Global}
use Rattle.std.proofs.lemmas.Bool.{cases_lt, eqb-true}
use Rattle.std.proofs.lemmas.List.{length-append, get_or_append_left, get_or_push}
use Rattle.std.proofs.lemmas.List.Elements.{All-contains}
use Rattle.csa_chain.specs.SeveralChains.{sum_of_first}
use Rattle.elf_image.specs.Images.{ImageData}
use Rattle.tcd_plan.specs.PlanData.{PlanData, IsPlan}
use Rattle.depth_cert.specs.declared.keys.Key.{Key}
use Rattle.depth_cert.specs.Keys.{number_of_key}
use Rattle.depth_cert.specs.Nodes.{NodeData, IsNode, need_or_zero, find_node}
use Rattle.depth_cert.specs.Certs.{CertData, IsCert}
use Rattle.depth_cert.specs.Spelling.{bytes_of_cert}
use Rattle.depth_cert.proofs.KeyLaws.{found_in}
use Rattle.cfg_recover.specs.RulesHoldOrFail.{certified_need}
use Rattle.cfg_recover.specs.Entries.{start_key}
use Rattle.depth_maker.specs.LeastCertMade.{IsLeastCert, need_in_cert}
use Rattle.depth_maker.specs.Answers.{IsRightMakeErr}
use Rattle.depth_maker.specs.declared.answering.MakeErr.{MakeErr}
use Rattle.depth_maker.specs.declared.answering.MakeErr.TheVariants as make_err
use Rattle.depth_maker.proofs.Accepted.{find_agrees}
use Rattle.task_chains.specs.Tasks.{TasksData, AreTasks, count}
use Rattle.task_chains.specs.SwitchRoutine.{HasRoutine}
use Rattle.task_chains.specs.Views.{TasksFitPlan, view_image_of, view_plan_of}
use Rattle.task_chains.specs.Rule17.{KeepsRule17, BreaksRule17, IsRule17Fault}
use Rattle.task_chains.proofs.GrowthLaws.{task_faults_grow, task_faults_refute}
use Rattle.task_chains.proofs.Together.{tasks_are_safe}
use Rattle.tcd_reading.specs.Reports.{Report, ReportFile, text_report, report_with_files}
use Rattle.tcd_base.specs.Files.{FilesSeen}
use Rattle.task_chains.specs.declared.task_lists.TasksErr.TheVariants.{Count}
use Rattle.tcd_reading.specs.Inputs.{answer}
use Rattle.tcd_reading.specs.Outcomes.{Outcome, IsCommandOutcome, IsReportOutcome}
use Rattle.tcd_reading.proofs.Told.{comes_told}
use Rattle.tcd_forms.specs.Lines.{certified_tasks_line, refused_sum_line}
use Rattle.tcd_driver.specs.BadInputLines.{bad_tasks_line}
use Rattle.tcd_driver.specs.BestCert.{IsLeastWithNeed}
use Rattle.tcd_driver.specs.Tasks.{cert_of_task, counted_needs_of_tasks, sum_of_needs, AreFirstTaskCertsAccepted, with_name_per_task}
use Rattle.tcd_driver.specs.Taskcert.{NoneKeepsTaskApart, HasNoTaskCert, unaccepted, not_apart, AreLeastTaskCerts, cert_files, IsTaskcertReport, no_switch, refused, above, certified, IsTaskViewCertOrErr, IsTaskCertWithNeed, IsTaskCertOrErr, AreTaskCertFiles, AreTaskCertsOrErr, IsLeastTaskCert}
use Rattle.tcd_reading.specs.declared.status.Status.TheVariants.{Refused, BadInput}
use Rattle.tcd_reading.proofs.Decided.{IsDecided, decided_answer}
use Rattle.tcd_driver.proofs.TasksReports.{judged_well, decided_each_named, sum_next, as_many, not_as_many}
use Rattle.tcd_driver.proofs.Alike.{IsSide, well, against, refusable}

-- ---- the certificate of a view
-- if the least certificate fails K17, each one does
none_apart : (v : ImageData) (b : PlanData) (t : TasksData) (c : CertData) (k : Key) (x : ℕ) → IsPlan b → IsCert c → IsLeastCert v b 2 c → BreaksRule17 v b t c k x → NoneKeepsTaskApart v b t
none_apart v b t c k x ok is_c made fails d is_d version accepted apart =
    task_faults_refute v b t d k x (task_faults_grow v b t c d k x ok is_c is_d (made.of_version ∙ sym version) made.accepted accepted (made.best d is_d version accepted).below fails) apart

-- the report of its fault, if the certificate that is made fails K17
pub apart_fails : (v : ImageData) (fields b : PlanData) (t : TasksData) (c : CertData) (need : ℕ) (k : Key) (x : ℕ) → fields ≡ b → IsPlan fields → IsLeastWithNeed v b 2 c need → IsRule17Fault v b t c k x → HasNoTaskCert v b t 17 k x
apart_fails v fields b t c need k x plan_is is_plan least fault =
    not_apart c k x least.is_cert least.made fault (none_apart v b t c k x (subst IsPlan plan_is is_plan) least.is_cert least.made fault.fails)

-- no certificate is made
pub unmade_view : (v : ImageData) (b : PlanData) (t : TasksData) (e : MakeErr) → IsRightMakeErr v b 2 e → IsTaskViewCertOrErr v b t (Err e)
unmade_view v b t (make_err.Refused rule key addr) why = unaccepted rule key addr why.1 why.0
unmade_view v b t make_err.NoMemory why = tt

-- ---- the certificate of a task
-- the same by the task's number
pub task_made : (i : ImageData) (fields p : PlanData) (parts t : TasksData) (u : ℕ) (c : CertData) (need : ℕ) (v : ImageData) (b : PlanData) → fields ≡ p → IsPlan fields → parts ≡ t → AreTasks parts → TasksFitPlan p t → u < count t
    → v ≡ view_image_of i t u → b ≡ view_plan_of p t u → IsLeastWithNeed v b 2 c need → KeepsRule17 v b t c → IsTaskCertWithNeed i p t u c need
task_made i fields p parts t u c need v b same is_plan same_t are fit lt seen planned s apart =
    let judged = judged_well i fields p parts t c c u need v b same is_plan same_t are refl s.is_cert fit lt seen planned (s.made).accepted s.need_is s.safe apart in
    record {
      made = record {
        made = subst (λ (q : PlanData). IsLeastCert (view_image_of i t u) q 2 c) planned (subst (λ (w : ImageData). IsLeastCert w b 2 c) seen s.made);
        judged = judged.0;
      };
      need_is = judged.1;
    }

pub task_uncertified : (i : ImageData) (p : PlanData) (t : TasksData) (u rule : ℕ) (k : Key) (x : ℕ) (v : ImageData) (b : PlanData) → v ≡ view_image_of i t u → b ≡ view_plan_of p t u
    → HasNoTaskCert v b t rule k x → HasNoTaskCert (view_image_of i t u) (view_plan_of p t u) t rule k x
task_uncertified i p t u rule k x v b seen planned h =
    subst (λ (q : PlanData). HasNoTaskCert (view_image_of i t u) q t rule k x) planned (subst (λ (w : ImageData). HasNoTaskCert w b t rule k x) seen h)

-- the result of making a certificate for the task's view
pub makes_task : (i : ImageData) (fields p : PlanData) (parts t : TasksData) (u : ℕ) (v : ImageData) (b : PlanData) (m : Result (CertData × ℕ) MakeErr) → fields ≡ p → IsPlan fields → parts ≡ t → AreTasks parts → TasksFitPlan p t → u < count t
    → v ≡ view_image_of i t u → b ≡ view_plan_of p t u → IsTaskViewCertOrErr v b t m → IsTaskCertOrErr i p t u m
makes_task i fields p parts t u v b (Ok made) same is_plan same_t are fit lt seen planned h = task_made i fields p parts t u made.0 made.1 v b same is_plan same_t are fit lt seen planned h.0 h.1
makes_task i fields p parts t u v b (Err (make_err.Refused rule key addr)) same is_plan same_t are fit lt seen planned h = task_uncertified i p t u rule key addr v b seen planned h
makes_task i fields p parts t u v b (Err make_err.NoMemory) same is_plan same_t are fit lt seen planned h = tt

-- ---- one need for each task
-- a list is searched alike by keys of one number
need_there : (c d : CertData) (start : Key) → IsCert c → IsCert d → ((k : Key) → need_in_cert c k ≤ need_in_cert d k) → (o : Option NodeData) → find_node start c.nodes ≡ o → need_or_zero o ≤ need_or_zero (find_node start d.nodes)
need_there c d start is_c is_d least None e = omega arith
need_there c d start is_c is_d least (Some n) e =
    let found = found_in (λ m. number_of_key m.key == number_of_key start) c.nodes n e in
    let same : number_of_key n.key ≡ number_of_key start = eqb-true _ _ found.1 in
    let key = (All-contains (IsNode c.version) c.nodes n is_c.nodes found.0).key in
    let here : need_in_cert c n.key ≡ need_or_zero (find_node start c.nodes) =
    ap need_or_zero (find_agrees c.version n.key c.nodes key is_c.nodes) ∙ ap (λ (x : ℕ). need_or_zero (find (λ (m : NodeData). number_of_key m.key == x) c.nodes)) same in
    let there : need_in_cert d n.key ≡ need_or_zero (find_node start d.nodes) =
    ap need_or_zero (find_agrees d.version n.key d.nodes key is_d.nodes) ∙ ap (λ (x : ℕ). need_or_zero (find (λ (m : NodeData). number_of_key m.key == x) d.nodes)) same in
    let le : need_in_cert c n.key ≤ need_in_cert d n.key = least n.key in
    let is : need_or_zero (find_node start c.nodes) ≡ n.need = ap need_or_zero e in
    omega arith

-- each frame has one need in both
pub same_need : (v : ImageData) (b : PlanData) (c d : CertData) → IsCert c → IsCert d → ((k : Key) → need_in_cert c k ≤ need_in_cert d k) → ((k : Key) → need_in_cert d k ≤ need_in_cert c k) → certified_need v b c ≡ certified_need v b d
same_need v b c d is_c is_d below back =
    let le : certified_need v b c ≤ certified_need v b d = need_there c d (start_key v b) is_c is_d below (find_node (start_key v b) c.nodes) refl in
    let ge : certified_need v b d ≤ certified_need v b c = need_there d c (start_key v b) is_d is_c back (find_node (start_key v b) d.nodes) refl in
    omega arith

pub same_below : (n : ℕ) (f g : ℕ → ℕ) → ((u : ℕ) → u < n → f u ≡ g u) → sum_of_first n f ≡ sum_of_first n g
same_below zero f g h = refl
same_below (suc n) f g h =
    let low : sum_of_first n f ≡ sum_of_first n g = same_below n f g (λ u lt. h u (omega arith)) in
    let top : f n ≡ g n = h n (omega arith) in
    omega arith

module _ (names : List (List ℕ)) (i : ImageData) (p : PlanData) (t : TasksData) where
  same_needs : (cs ds : List CertData) (u : ℕ) → u < length cs → u < length ds → AreLeastTaskCerts i p t cs → AreLeastTaskCerts i p t ds → counted_needs_of_tasks i p t cs u ≡ counted_needs_of_tasks i p t ds u
  same_needs cs ds u lt lt_d made made_d =
      let c = made u lt in
      let d = made_d u lt_d in
      ap (λ (n : ℕ). if u == 0 then n else max n 2)
      (same_need (view_image_of i t u) (view_plan_of p t u) _ _ c.judged.is_cert d.judged.is_cert
      (c.made.best _ d.judged.is_cert d.made.of_version d.made.accepted).needs (d.made.best _ c.judged.is_cert c.made.of_version c.made.accepted).needs)

  same_sum : (cs ds : List CertData) → length cs ≡ count t → length ds ≡ count t → AreLeastTaskCerts i p t cs → AreLeastTaskCerts i p t ds → sum_of_needs i p t cs ≡ sum_of_needs i p t ds
  same_sum cs ds many many_d made made_d = same_below (count t) (counted_needs_of_tasks i p t cs) (counted_needs_of_tasks i p t ds) (λ u lt. same_needs cs ds u (omega arith) (omega arith) made made_d)

  -- each task has a certificate, and there are areas for all needs
  record IsWell : Type 0 where
    pub routine : HasRoutine i p t
    pub certs : List CertData
    pub many : length certs ≡ count t
    pub made : AreLeastTaskCerts i p t certs
    pub within : sum_of_needs i p t certs ≤ p.areas - p.reserve

  uncertified_refutes : (u rule : ℕ) (k : Key) (x : ℕ) (c : CertData) → IsLeastTaskCert i p t u c → HasNoTaskCert (view_image_of i t u) (view_plan_of p t u) t rule k x → ⊥
  uncertified_refutes u _ _ _ c made (unaccepted rule k x none why) = none c made.judged.is_cert made.made.of_version made.made.accepted
  uncertified_refutes u _ _ _ c made (not_apart d k x is_d made_d fault none) = none c made.judged.is_cert made.made.of_version made.made.accepted made.judged.apart

  side : (r : Report) → IsTaskcertReport names i p t r → IsSide IsWell Refused r
  side r (no_switch x fault e) = against _ e (λ w. fault.fails (w.routine fault.place fault.within))
  side r (refused u rule key addr has first e) =
      against _ e (λ w. uncertified_refutes u rule key addr (cert_of_task w.certs u) (w.made u (let lt = first.task in let m = w.many in omega arith)) first.uncertified)
  side r (above certs has many made more e) = against _ e (λ w. let s = same_sum certs w.certs many w.many made w.made in let le = w.within in omega arith)
  side r (certified certs has many made within safe e) = well _ e refl (record { routine = has; certs = certs; many = many; made = made; within = within })

  pub taskcert_decided : IsDecided (with_name_per_task names t (answer (IsTaskcertReport names i p t)))
  taskcert_decided = decided_each_named names t _ (decided_answer _ (refusable side))

-- ---- one task after another
-- the files of the certificates of the tasks below n, with the sum of their needs
pub record AreFilesSoFar (names : List (List ℕ)) (i : ImageData) (p : PlanData) (t : TasksData) (n : ℕ) (writes : List ReportFile) (sum : ℕ) : Type 0 where
  pub certs : List CertData
  pub many : length certs ≡ n
  pub made : AreLeastTaskCerts i p t certs
  pub files : writes ≡ cert_files names certs
  pub sum_is : sum ≡ sum_of_first n (counted_needs_of_tasks i p t certs)
  pub few : sum ≤ n * 2 ^ 32

no_files : (names : List (List ℕ)) → cert_files names [] ≡ []
unfolding cert_files
no_files [] = refl
no_files (n ∷ ns) = refl

pub none_made : (names : List (List ℕ)) (i : ImageData) (p : PlanData) (t : TasksData) (writes : List ReportFile) → writes ≡ [] → AreFilesSoFar names i p t 0 writes 0
none_made names i p t writes e = record {
  certs = [];
  many = refl;
  made = λ u lt. absurd (omega arith);
  files = e ∙ sym (no_files names);
  sum_is = refl;
  few = omega arith;
}

abbrev file_of : List ℕ → CertData → ReportFile
file_of name c = record { name = name; bytes = bytes_of_cert c }

-- one certificate more
file_next : (names : List (List ℕ)) (name : List ℕ) (certs : List CertData) (c : CertData) → slice_get names (length certs) ≡ Some name
    → cert_files names (certs ++ c ∷ []) ≡ cert_files names certs ++ record { name = name; bytes = bytes_of_cert c } ∷ []
unfolding cert_files
file_next [] name certs c at = cc
file_next (n ∷ ns) name [] c at = let e : n ≡ name = cc in ap (λ (x : List ℕ). file_of x c ∷ cert_files ns []) e ∙ ap (λ (ws : List ReportFile). file_of name c ∷ ws) (no_files ns)
file_next (n ∷ ns) name (d ∷ ds) c at = ap (λ (ws : List ReportFile). file_of n d ∷ ws) (file_next ns name ds c at)

cert_before : (certs : List CertData) (c : CertData) (u : ℕ) → u < length certs → cert_of_task (certs ++ c ∷ []) u ≡ cert_of_task certs u
cert_before certs c u lt = get_or_append_left certs (c ∷ []) (record { version = 1; nodes = [] }) u lt

cert_last : (certs : List CertData) (c : CertData) (u : ℕ) → length certs ≡ u → cert_of_task (certs ++ c ∷ []) u ≡ c
cert_last certs c u e = get_or_push certs c (record { version = 1; nodes = [] }) u e

made_more : (i : ImageData) (p : PlanData) (t : TasksData) (certs : List CertData) (c : CertData) (n : ℕ) → length certs ≡ n → AreLeastTaskCerts i p t certs → IsLeastTaskCert i p t n c → AreLeastTaskCerts i p t (certs ++ c ∷ [])
made_more i p t certs c n many made here u lt =
    let len : length (certs ++ c ∷ []) ≡ length certs + 1 = length-append certs (c ∷ []) in
    elim (cases_lt u (length certs)) [
      | inl less ↦ subst (IsLeastTaskCert i p t u) (sym (cert_before certs c u less)) (made u less)
      | inr ge ↦ let at : n ≡ u = omega arith in subst (IsLeastTaskCert i p t u) (sym (cert_last certs c u (many ∙ at))) (subst (λ (w : ℕ). IsLeastTaskCert i p t w c) at here)
    ]

-- one task more
pub next_made : (names : List (List ℕ)) (i : ImageData) (p : PlanData) (t : TasksData) (n : ℕ) (name : List ℕ) (writes writes' : List ReportFile) (sum need more : ℕ) (c : CertData) (bytes : List ℕ) → slice_get names n ≡ Some name → more ≤ 2 ^ 32
    → AreFilesSoFar names i p t n writes sum → IsTaskCertWithNeed i p t n c need → bytes ≡ bytes_of_cert c → writes' ≡ writes ++ record { name = name; bytes = bytes } ∷ [] → more ≡ (if n == 0 then need else max need 2)
    → AreFilesSoFar names i p t (n + 1) writes' (sum + more)
next_made names i p t n name writes writes' sum need more c bytes at small so_far s spell pushed counts_as =
    let certs = so_far.certs in
    let many : length certs ≡ n = so_far.many in
    let below = so_far.few in
    let last : cert_of_task (certs ++ c ∷ []) n ≡ c = cert_last certs c n many in
    let need_is : more ≡ counted_needs_of_tasks i p t (certs ++ c ∷ []) n =
    counts_as ∙ ap (λ (m : ℕ). if n == 0 then m else max m 2) (s.need_is ∙ ap (certified_need (view_image_of i t n) (view_plan_of p t n)) (sym last)) in
    let low : sum_of_first n (counted_needs_of_tasks i p t certs) ≡ sum_of_first n (counted_needs_of_tasks i p t (certs ++ c ∷ [])) =
    same_below n (counted_needs_of_tasks i p t certs) (counted_needs_of_tasks i p t (certs ++ c ∷ []))
    (λ u lt. ap (λ (c : CertData). if u == 0 then certified_need (view_image_of i t u) (view_plan_of p t u) c else max (certified_need (view_image_of i t u) (view_plan_of p t u) c) 2) (sym (cert_before certs c u (omega arith)))) in
    record {
      certs = certs ++ c ∷ [];
      many = length-append certs (c ∷ []) ∙ ap (λ m. m + 1) many;
      made = made_more i p t certs c n many so_far.made s.made;
      files = pushed ∙ ap (λ (ws : List ReportFile). ws ++ record { name = name; bytes = bytes } ∷ []) so_far.files
          ∙ ap (λ (b : List ℕ). cert_files names certs ++ record { name = name; bytes = b } ∷ []) spell
          ∙ sym (file_next names name certs c (ap (λ (m : ℕ). slice_get names m) many ∙ at));
      sum_is = let so = so_far.sum_is in let next : sum_of_first (n + 1) (counted_needs_of_tasks i p t (certs ++ c ∷ [])) ≡ sum_of_first n (counted_needs_of_tasks i p t (certs ++ c ∷ [])) + counted_needs_of_tasks i p t (certs ++ c ∷ []) n = sum_next n (counted_needs_of_tasks i p t (certs ++ c ∷ [])) in omega arith;
      few = omega arith;
    }

-- a task without a certificate is the first
pub first_uncertified : (names : List (List ℕ)) (i : ImageData) (p : PlanData) (t : TasksData) (n : ℕ) (writes : Vec ReportFile Global) (sum : ℕ) (e : MakeErr) → n < count t → AreFilesSoFar names i p t n writes.items sum
    → IsTaskCertOrErr i p t n (Err e) → AreTaskCertsOrErr names i p t (Err (n, e))
first_uncertified names i p t n writes sum (make_err.Refused rule k x) lt so_far h = record {
  task = lt;
  before = λ w less. (cert_of_task so_far.certs w, so_far.made w (let m = so_far.many in omega arith));
  uncertified = h;
}
first_uncertified names i p t n writes sum make_err.NoMemory lt so_far h = tt

-- all are made
pub all_made : (names : List (List ℕ)) (i : ImageData) (p : PlanData) (t : TasksData) (n : ℕ) (writes : List ReportFile) (sum : ℕ) → n ≡ count t → AreFilesSoFar names i p t n writes sum → AreTaskCertFiles names i p t writes sum
all_made names i p t n writes sum e so_far = record {
  certs = so_far.certs;
  many = so_far.many ∙ e;
  made = so_far.made;
  files = so_far.files;
  sum_is = so_far.sum_is ∙ ap (λ (m : ℕ). sum_of_first m (counted_needs_of_tasks i p t so_far.certs)) e;
}

-- ---- the reports of a sum
judged_all : (i : ImageData) (p : PlanData) (t : TasksData) (certs : List CertData) → length certs ≡ count t → AreLeastTaskCerts i p t certs → AreFirstTaskCertsAccepted i p t certs (count t)
judged_all i p t certs many made u lt = (made u (omega arith)).judged

pub written_tasks : (names : List (List ℕ)) (i : ImageData) (fields p : PlanData) (parts t : TasksData) (writes : List ReportFile) (sum n : ℕ) (r : Report) → fields ≡ p → IsPlan fields → parts ≡ t → AreTasks parts → TasksFitPlan p t → HasRoutine i p t
    → AreTaskCertFiles names i p t writes sum → sum ≤ fields.areas - fields.reserve → n ≡ count t
    → r ≡ report_with_files writes (certified_tasks_line sum (fields.areas - fields.reserve) n) → IsTaskcertReport names i p t r
written_tasks names i fields p parts t writes sum n r same is_plan same_t are fit has f within many e =
    let certs = f.certs in
    let room : sum_of_needs i p t certs ≤ p.areas - p.reserve = subst (λ (s : ℕ). s ≤ p.areas - p.reserve) f.sum_is (subst (λ (q : PlanData). sum ≤ q.areas - q.reserve) same within) in
    certified certs has f.many f.made room (tasks_are_safe i p t (cert_of_task certs) (subst IsPlan same is_plan) (subst AreTasks same_t are) fit has (judged_all i p t certs f.many f.made) room)
    (let s = f.sum_is in let ws = f.files in cc)

pub above_made : (names : List (List ℕ)) (i : ImageData) (fields p : PlanData) (t : TasksData) (writes : List ReportFile) (sum : ℕ) (r : Report) → fields ≡ p → HasRoutine i p t → AreTaskCertFiles names i p t writes sum
    → fields.areas - fields.reserve < sum → r ≡ text_report Refused (refused_sum_line sum (fields.areas - fields.reserve)) → IsTaskcertReport names i p t r
above_made names i fields p t writes sum r same has f more e =
    above f.certs has f.many f.made (subst (λ (s : ℕ). p.areas - p.reserve < s) f.sum_is (subst (λ (q : PlanData). q.areas - q.reserve < sum) same more))
    (let s = f.sum_is in cc)

-- ---- as many names as tasks
pub comes_counted : (names : List (List ℕ)) (t : TasksData) (P : Report → Type 0) (files : FilesSeen) (o : Outcome) → length names ≡ count t → IsReportOutcome P ⊥ o → IsCommandOutcome (with_name_per_task names t (answer P)) files files o
comes_counted names t P files o many h = as_many (λ r. IsCommandOutcome r files files o) names t (answer P) many (comes_told P files o h)

pub comes_miscounted : (names : List (List ℕ)) (t : TasksData) (P : Report → Type 0) (files : FilesSeen) (o : Outcome) → (length names ≡ count t → ⊥) → IsReportOutcome (λ r. r ≡ text_report BadInput (bad_tasks_line Count)) ⊥ o → IsCommandOutcome (with_name_per_task names t (answer P)) files files o
comes_miscounted names t P files o few h = not_as_many (λ r. IsCommandOutcome r files files o) names t (answer P) few (comes_told _ files o h)
