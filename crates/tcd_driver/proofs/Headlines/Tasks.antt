-- What it means that `tasks` and `taskcert` are done.
use Rattle.std.proofs.Common.{suc, ◌≡◌, ◌≢◌, ◌≤◌, ◌<◌, ◌-◌, ◌^◌, ◌⊎◌, inl, inr, ℕ, true, false, not, List, [], ◌∷◌, ◌++◌, length, Some, Ok, refl, sym, ap, subst, ◌∙◌, arith}
use Rattle.std.specs.Prelude.{codes, take, All}
use Rattle.std.specs.Fmt.{decimal}
use Rattle.std.proofs.lemmas.List.{length-append, take-append-le, take_all}
use Rattle.std.specs.FinMap.{get, insert}
use Rattle.std.specs.List.{list_any}
use Rattle.std.specs.Str.{bytes_eq}
use Rattle.std.proofs.lemmas.Bool.{and_parts, or_parts, not-true}
use Rattle.std.proofs.lemmas.List.Elements.{All-nil, All-cons, All-head, All-tail}
use Rattle.std.proofs.lemmas.Slice.Eq.{bytes_eq-Decides}
use Rattle.csa_chain.specs.SeveralChains.{sum_of_first}
use Rattle.elf_image.specs.Images.{ImageData}
use Rattle.tcd_plan.specs.PlanData.{PlanData}
use Rattle.depth_cert.specs.declared.keys.Key.{Key}
use Rattle.depth_cert.specs.Certs.{CertData}
use Rattle.depth_cert.specs.Grammar.{certificate_of}
use Rattle.depth_cert.specs.Spelling.{bytes_of_cert}
use Rattle.depth_cert.proofs.BackLaws.{written_is_read}
use Rattle.cfg_recover.specs.RulesHoldOrFail.{Accepts, IsFirstFault}
use Rattle.task_chains.specs.Rule17.{IsRule17Fault}
use Rattle.task_chains.specs.Tasks.{TasksData, count}
use Rattle.task_chains.specs.SwitchRoutine.{HasRoutine}
use Rattle.task_chains.specs.Views.{view_image_of, view_plan_of}
use Rattle.task_chains.specs.SafeTasks.{SafeTasks, IsSoundTaskCert, need_of_task}
use Rattle.tcd_base.specs.Files.{FileMap}
use Rattle.tcd_reading.specs.Reports.{Report, with_report_files}
use Rattle.tcd_reading.proofs.EndingWords.{get_here, get_apart}
use Rattle.tcd_forms.specs.Forms.{cert_form}
use Rattle.tcd_forms.specs.Lines.{certified_tasks_line, refused_switch_line, refused_task_line, line_with_task, refused_sum_line}
use Rattle.tcd_driver.specs.Headlines.Tasks.{certified_tasks_line_text, refused_sum_line_text, AreTaskFiles, IsAcceptedForTask, AreTasksSafeTogether, refused_switch_line_text, refused_task_line_text, HeadlineOfTasks, IsFirstRefusedTask, IsTasksFault, no_switch, refused_task, above, RefusalByTasks, HoldTaskCerts, IsLeastForTask, HeadlineOfTaskcert, NoCertForTask, unaccepted, not_apart, IsFirstTaskWithoutCert, IsTaskcertFault, switch_missing, without, sum_above, RefusalByTaskcert}
use Rattle.tcd_driver.specs.DistinctNames.{are_distinct_names}
use Rattle.tcd_driver.specs.Tasks as judging
use Rattle.tcd_driver.specs.Tasks.{TasksArgs, cert_of_task, IsTaskRefused, IsFirstRefusedTaskCert, IsTasksVerdict}
use Rattle.tcd_driver.specs.Taskcert as making
use Rattle.tcd_driver.specs.Taskcert.{TaskcertArgs, AreLeastTaskCerts, HasNoTaskCert, IsFirstUncertifiedTask, cert_files, IsTaskcertReport, IsLeastTaskCert}
use Rattle.tcd_driver.specs.Headlines.{HoldEachFile, refused_text}
use Rattle.tcd_driver.proofs.Headlines.{Tells, refused_is, held_as, least_of, Means, is_done, is_refused, means_as}

tasks_is : (sum areas n : ℕ) → certified_tasks_line sum areas n ≡ certified_tasks_line_text sum areas n
unfolding certified_tasks_line
tasks_is sum areas n = refl

-- as many files as values are held
pub held_many : {A : Type 0} (m : FileMap) (most : ℕ) (Is : List ℕ → A → Type 0) (names : List (List ℕ)) (xs : List A) → HoldEachFile m most Is names xs → length names ≡ length xs
held_many m most Is [] [] h = refl
held_many m most Is [] (x ∷ xs) h = absurd h
held_many m most Is (name ∷ names) [] h = absurd h
held_many m most Is (name ∷ names) (x ∷ xs) h = ap suc (held_many m most Is names xs h.1)

accepted_for : (i : ImageData) (p : PlanData) (t : TasksData) (u : ℕ) (c : CertData) → IsSoundTaskCert i p t c u → IsAcceptedForTask i p t u c
accepted_for i p t u c h = record { accepted = h.accepted; apart = h.apart }

safe_together : (i : ImageData) (p : PlanData) (t : TasksData) (cs : List CertData) → length cs ≡ count t → HasRoutine i p t → ((u : ℕ) → u < count t → IsSoundTaskCert i p t (cert_of_task cs u) u)
    → sum_of_first (count t) (need_of_task i p t (cert_of_task cs)) ≤ p.areas - p.reserve → SafeTasks i p t (need_of_task i p t (cert_of_task cs)) → AreTasksSafeTogether i p t cs (need_of_task i p t (cert_of_task cs))
safe_together i p t cs many routine judged enough safe = record {
  as_many = many;
  routine = routine;
  each = λ u h. accepted_for i p t u (cert_of_task cs u) (judged u h);
  needs_are = λ u. refl;
  enough = enough;
  safe = safe;
}

-- ---- tasks
pub cert_told : Tells (λ place. cert_form) (2 ^ 30) (λ bytes cert. certificate_of bytes ≡ Ok cert)
cert_told place m name x h = held_as cert_form m name x h

switch_is : (addr : ℕ) → refused_switch_line addr ≡ refused_switch_line_text addr
unfolding refused_switch_line
switch_is addr = refl

-- a line without its line feed
without_feed : (text : List ℕ) → take (length (text ++ 10 ∷ []) - 1) (text ++ 10 ∷ []) ≡ text
without_feed text =
    let len : length (text ++ 10 ∷ []) - 1 ≡ length text = omega (arith, length-append text (10 ∷ [])) in
    ap (λ (n : ℕ). take n (text ++ 10 ∷ [])) len ∙ take-append-le (length text) text (10 ∷ []) (omega arith) ∙ take_all (length text) text (omega arith)

task_is : (rule : ℕ) (key : Key) (addr u : ℕ) → refused_task_line rule key addr u ≡ refused_task_line_text rule key addr u
unfolding line_with_task
task_is rule key addr u =
    ap (λ (line : List ℕ). take (length line - 1) line ++ (codes " of task " ++ (decimal u ++ 10 ∷ []))) (refused_is rule key addr)
    ∙ ap (λ (text : List ℕ). text ++ (codes " of task " ++ (decimal u ++ 10 ∷ []))) (without_feed (refused_text rule key addr))

sum_is : (sum areas : ℕ) → refused_sum_line sum areas ≡ refused_sum_line_text sum areas
unfolding refused_sum_line
sum_is sum areas = refl

module _ (i : ImageData) (p : PlanData) (t : TasksData) (cs : List CertData) where
  task_fails : (u rule : ℕ) (key : Key) (addr : ℕ) → IsTaskRefused i p t (cert_of_task cs u) u rule key addr →
      IsFirstFault (view_image_of i t u) (view_plan_of p t u) (cert_of_task cs u) rule key addr
      ⊎ ((rule ≡ 17) × Accepts (view_image_of i t u) (view_plan_of p t u) (cert_of_task cs u) × IsRule17Fault (view_image_of i t u) (view_plan_of p t u) t (cert_of_task cs u) key addr)
  task_fails u _ _ _ (judging.unaccepted rule key addr first) = inl first
  task_fails u _ _ _ (judging.not_apart key addr accepted fault) = inr (refl, accepted, fault)

  first_refused : (u rule : ℕ) (key : Key) (addr : ℕ) → IsFirstRefusedTaskCert i p t cs u rule key addr → IsFirstRefusedTask i p t cs u rule key addr
  first_refused u rule key addr h = record { task = h.task; before = λ w lt. accepted_for i p t w (cert_of_task cs w) (h.before w lt); fails = task_fails u rule key addr h.refused }

module _ (names : TasksArgs) (m : FileMap) (i : ImageData) (p : PlanData) (t : TasksData) (cs : List CertData) (files : AreTaskFiles m names.elf names.plan names.tasks i p t)
    (certs : HoldEachFile m (2 ^ 30) (λ bytes cert. certificate_of bytes ≡ Ok cert) names.certs cs) (many : length cs ≡ count t) where
  -- what is told of it
  tasks_fault : (line : List ℕ) → IsTasksFault i p t cs line → RefusalByTasks names.elf names.plan names.tasks names.certs m m line
  tasks_fault line fault = record { image = i; plan = p; list = t; certs = cs; files = files; cert_files = certs; as_many = many; fault = fault; stays = refl }

  pub tasks_mean : (r : Report) → IsTasksVerdict i p t cs r → Means m [] (HeadlineOfTasks names.elf names.plan names.tasks names.certs) (RefusalByTasks names.elf names.plan names.tasks names.certs) r
  tasks_mean r (judging.no_switch addr fault e) = means_as e (is_refused refl refl (tasks_fault _ (no_switch addr fault (switch_is addr))))
  tasks_mean r (judging.refused u rule key addr routine first e) =
      means_as e (is_refused refl refl (tasks_fault _ (refused_task u rule key addr routine (first_refused i p t cs u rule key addr first) (task_is rule key addr u))))
  tasks_mean r (judging.above routine judged more e) =
      means_as e (is_refused refl refl (tasks_fault _ (above routine (λ u h. accepted_for i p t u (cert_of_task cs u) (judged u h)) more (sum_is _ _))))
  tasks_mean r (judging.certified routine judged enough safe e) = means_as e (is_done m refl refl (record {
    image = i;
    plan = p;
    list = t;
    certs = cs;
    needs = need_of_task i p t (cert_of_task cs);
    files = files;
    cert_files = certs;
    together = safe_together i p t cs many routine judged enough safe;
    prints = tasks_is _ _ _;
    stays = refl;
  }))

-- ---- taskcert
-- what is held once the certificates are written, one after another
written : FileMap → List (List ℕ) → List CertData → FileMap
written m [] cs = m
written m (name ∷ names) [] = m
written m (name ∷ names) (c ∷ cs) = written (insert m name (bytes_of_cert c)) names cs

written_is : (m : FileMap) (names : List (List ℕ)) (cs : List CertData) → with_report_files (Some m) (cert_files names cs) ≡ Some (written m names cs)
unfolding cert_files written
written_is m [] cs = refl
written_is m (name ∷ names) [] = refl
written_is m (name ∷ names) (c ∷ cs) = written_is (insert m name (bytes_of_cert c)) names cs

others_stay : (m : FileMap) (names : List (List ℕ)) (cs : List CertData) (other : List ℕ) → All (λ name. other ≢ name) names → get (written m names cs) other ≡ get m other
unfolding written
others_stay m [] cs other apart = refl
others_stay m (name ∷ names) [] other apart = refl
others_stay m (name ∷ names) (c ∷ cs) other apart =
    others_stay (insert m name (bytes_of_cert c)) names cs other (All-tail (λ n. other ≢ n) name names apart) ∙ get_apart m name (bytes_of_cert c) other (λ e. All-head (λ n. other ≢ n) name names apart (sym e))

-- a name that isn't found among others is another than each of them
unequal : (name other : List ℕ) → bytes_eq name other ≡ false → name ≢ other
unequal name other e same = let f : true ≡ false = sym ((bytes_eq-Decides name other).1 same) ∙ e in cc

all_apart : (name : List ℕ) (names : List (List ℕ)) → list_any (bytes_eq name) names ≡ false → All (λ n. name ≢ n) names
all_apart name [] e = All-nil (λ n. name ≢ n)
all_apart name (other ∷ names) e =
    let parts = or_parts (bytes_eq name other) (list_any (bytes_eq name) names) e in
    All-cons (λ n. name ≢ n) other names (unequal name other parts.0) (all_apart name names parts.1)

hold_certs : (m : FileMap) (names : List (List ℕ)) (cs : List CertData) → are_distinct_names names ≡ true → length names ≡ length cs → HoldTaskCerts (written m names cs) names cs
unfolding written
hold_certs m [] [] different many = tt
hold_certs m [] (c ∷ cs) different many = absurd (omega (arith, many))
hold_certs m (name ∷ names) [] different many = absurd (omega (arith, many))
hold_certs m (name ∷ names) (c ∷ cs) different many =
    let parts = and_parts (not (list_any (bytes_eq name) names)) (are_distinct_names names) different in
    let one = insert m name (bytes_of_cert c) in
    (others_stay one names cs name (all_apart name names (not-true (list_any (bytes_eq name) names) parts.0)) ∙ get_here m name (bytes_of_cert c) name refl, hold_certs one names cs parts.1 (omega (arith, many)))

least_for : (i : ImageData) (p : PlanData) (t : TasksData) (u : ℕ) (c : CertData) → IsLeastTaskCert i p t u c → IsLeastForTask i p t u c
least_for i p t u c h = record {
  version = (h.made).of_version;
  least = least_of (view_image_of i t u) (view_plan_of p t u) 2 c (h.judged).is_cert h.made;
  reads = written_is_read c (h.judged).is_cert;
}

module _ (i : ImageData) (p : PlanData) (t : TasksData) where
  none_for : (u rule : ℕ) (key : Key) (addr : ℕ) → HasNoTaskCert (view_image_of i t u) (view_plan_of p t u) t rule key addr → NoCertForTask (view_image_of i t u) (view_plan_of p t u) t rule key addr
  none_for u _ _ _ (making.unaccepted rule key addr none why) = unaccepted rule key addr none why
  none_for u _ _ _ (making.not_apart c key addr is made fault none) =
      not_apart c key addr none made.of_version made.accepted (least_of (view_image_of i t u) (view_plan_of p t u) 2 c is made) fault

  first_without : (u rule : ℕ) (key : Key) (addr : ℕ) → IsFirstUncertifiedTask i p t u rule key addr → IsFirstTaskWithoutCert i p t u rule key addr
  first_without u rule key addr h = record {
    task = h.task;
    before = λ w lt. let b = h.before w lt in (b.0, accepted_for i p t w b.0 (b.1).judged, least_for i p t w b.0 b.1);
    none = none_for u rule key addr h.uncertified;
  }

module _ (names : TaskcertArgs) (different : are_distinct_names names.certs ≡ true) (m : FileMap) (i : ImageData) (p : PlanData) (t : TasksData) (files : AreTaskFiles m names.elf names.plan names.tasks i p t)
    (many : length names.certs ≡ count t) where
  -- what is told of it
  taskcert_fault : (line : List ℕ) → IsTaskcertFault i p t line → RefusalByTaskcert names.elf names.plan names.tasks names.certs m m line
  taskcert_fault line fault = record { image = i; plan = p; list = t; files = files; as_many = many; fault = fault; stays = refl }

  made_for : (cs : List CertData) → length cs ≡ count t → AreLeastTaskCerts i p t cs → (u : ℕ) → u < count t → IsLeastTaskCert i p t u (cert_of_task cs u)
  made_for cs as_many made u h = made u (subst (λ (n : ℕ). u < n) (sym as_many) h)

  made_each : (cs : List CertData) → length cs ≡ count t → AreLeastTaskCerts i p t cs → (u : ℕ) → u < count t → IsAcceptedForTask i p t u (cert_of_task cs u) × IsLeastForTask i p t u (cert_of_task cs u)
  made_each cs as_many made u h =
      let one = made_for cs as_many made u h in
      (accepted_for i p t u (cert_of_task cs u) one.judged, least_for i p t u (cert_of_task cs u) one)

  pub taskcert_means : (r : Report) → IsTaskcertReport names.certs i p t r → Means m [] (HeadlineOfTaskcert names.elf names.plan names.tasks names.certs) (RefusalByTaskcert names.elf names.plan names.tasks names.certs) r
  taskcert_means r (making.no_switch addr fault e) = means_as e (is_refused refl refl (taskcert_fault _ (switch_missing addr fault (switch_is addr))))
  taskcert_means r (making.refused u rule key addr routine first e) =
      means_as e (is_refused refl refl (taskcert_fault _ (without u rule key addr routine (first_without i p t u rule key addr first) (task_is rule key addr u))))
  taskcert_means r (making.above cs routine as_many made more e) = means_as e (is_refused refl refl (taskcert_fault _ (sum_above cs routine (made_each cs as_many made) more (sum_is _ _))))
  taskcert_means r (making.certified cs routine as_many made enough safe e) = means_as e (is_done (written m names.certs cs) refl (written_is m names.certs cs) (record {
    image = i;
    plan = p;
    list = t;
    certs = cs;
    needs = need_of_task i p t (cert_of_task cs);
    files = files;
    together = safe_together i p t cs as_many routine (λ u h. (made_for cs as_many made u h).judged) enough safe;
    least = λ u h. (made_each cs as_many made u h).1;
    written = hold_certs m names.certs cs different (many ∙ sym as_many);
    others = λ other apart. others_stay m names.certs cs other apart;
    prints = tasks_is _ _ _;
  }))
