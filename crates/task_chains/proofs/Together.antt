-- All tasks at the start, after every event, and what is safe then.
use Rattle.std.proofs.Common.{◌≡◌, ◌≢◌, ℕ, zero, suc, ◌+◌, ◌-◌, ◌*◌, ◌<◌, ◌≤◌, ◌⊎◌, inl, inr, true, false, ◌||◌, cond, max, List, [], ◌∷◌, length, refl, sym, ap, ◌∙◌, subst, arith, ◌==◌}
use Rattle.std.proofs.lemmas.Bool.{cases_eq, cond_both, eq-eqb, ne_eqb, or_left, or_right}
use Rattle.std.specs.Prelude.{IfSome}
use Rattle.csa_chain.specs.SeveralChains.{sum_of_first}
use Rattle.csa_chain.proofs.SeveralLaws.{cond_same, cond_other}
use Rattle.elf_image.specs.Images.{ImageData}
use Rattle.tcd_plan.specs.PlanData.{PlanData}
use Rattle.tc_machine.specs.declared.events.Event.{Event}
use Rattle.tc_machine.specs.declared.state.Machine.{Machine}
use Rattle.tc_machine.specs.PlanAreas.{first_link}
use Rattle.tc_machine.specs.Stepping.{step, run, stored}
use Rattle.tc_machine.specs.Safe.{Fits, AllFit}
use Rattle.tc_machine.specs.Starting.{Starts}
use Rattle.tc_machine.proofs.Fetched.{IsAtCode-from}
use Rattle.tc_machine.proofs.PlanLaws.{link_lt}
use Rattle.depth_cert.specs.Certs.{CertData}
use Rattle.cfg_recover.specs.Code.{HasCode}
use Rattle.cfg_recover.specs.RulesHoldOrFail.{certified_need}
use Rattle.task_chains.specs.Tasks.{TasksData, count}
use Rattle.task_chains.specs.Views.{view_image_of, view_plan_of}
use Rattle.task_chains.specs.TaskStarts.{block_word, current_task, task_upper_area, task_lower_area, IsTaskReady, TasksStart}
use Rattle.task_chains.specs.SafeTasks.{previous_task, owner, IsAllowedTaskStore, AreTasksSafeAt, need_of_task, TasksAreSafe}
use Rattle.task_chains.proofs.Alike.{seen_as}
use Rattle.task_chains.proofs.Beginning.{start_memory, start_is, start_turn, begins_on, begins_lower, begins_home}
use Rattle.task_chains.proofs.Coming.{goes_switch, comes_on, comes_lower, comes_home}
use Rattle.task_chains.proofs.Going.{Goes, goes_runs, goes_saves, goes_code, goes_store}
use Rattle.task_chains.proofs.Invariant.{after, ready, Turn, runs, switches, comes_back, begins, InRoutine, AllKept}
use Rattle.task_chains.proofs.Joined.{World, in_or_out}
use Rattle.task_chains.proofs.RoutineCode.{code_15, code_16, code_17, some_code}
use Rattle.task_chains.proofs.SharedSafe.{areas_shared}
use Rattle.task_chains.proofs.StartShared.{start_word, start_chain, start_shared}
use Rattle.task_chains.proofs.Turning.{goes_turning, no_store, turning_store}

-- ---- the owner
place_test : (x y : ℕ) → x ≢ y + 48 → x ≢ y + 52 → x ≢ y + 56 → (x == y + 48 || x == y + 52 || x == y + 56) ≡ false
place_test x y a b c = (λ i. ne_eqb x (y + 48) a i || ne_eqb x (y + 52) b i || ne_eqb x (y + 56) c i)

pub owner_now : (tasks : TasksData) (m : Machine) → m.pc ≢ tasks.switch + 48 → m.pc ≢ tasks.switch + 52 → m.pc ≢ tasks.switch + 56 → owner tasks m ≡ current_task tasks m.mem
owner_now tasks m a b c = ap (λ t. cond t (previous_task (count tasks) (current_task tasks m.mem)) (current_task tasks m.mem)) (place_test m.pc tasks.switch a b c)

-- one of the three places
pub place_here : (x y : ℕ) → (x ≡ y + 48) ⊎ ((x ≡ y + 52) ⊎ (x ≡ y + 56)) → (x == y + 48 || x == y + 52 || x == y + 56) ≡ true
place_here x y (inl a) = or_left (x == y + 48 || x == y + 52) (x == y + 56) (or_left (x == y + 48) (x == y + 52) (eq-eqb x (y + 48) a))
place_here x y (inr (inl b)) = or_left (x == y + 48 || x == y + 52) (x == y + 56) (or_right (x == y + 48) (x == y + 52) (eq-eqb x (y + 52) b))
place_here x y (inr (inr c)) = or_right (x == y + 48 || x == y + 52) (x == y + 56) (eq-eqb x (y + 56) c)

before_after : (n u : ℕ) → u < n → previous_task n (after n u) ≡ u
before_after n u lt =
    elim (cases_eq (suc u) n) [
      | inl last ↦
          ap (previous_task n) (cond_same (suc u) n 0 (suc u) last) ∙ cond_same 0 0 (n - 1) (0 - 1) refl ∙ (let f : n - 1 ≡ u = omega arith in f)
      | inr more ↦
          let is : after n u ≡ suc u = cond_other (suc u) n 0 (suc u) more in
          ap (previous_task n) is ∙ cond_other (suc u) 0 (n - 1) (suc u - 1) (λ e. omega arith) ∙ (let f : suc u - 1 ≡ u = omega arith in f)
    ]

module _ {image : ImageData} {plan : PlanData} {tasks : TasksData} {certs : ℕ → CertData} {needs : ℕ → ℕ} (wd : World image plan tasks certs needs) where
  -- ---- one event
  module _ (m : Machine) {u : ℕ} {word_of : ℕ → ℕ} {chain_of : ℕ → List ℕ} (k : AllKept image plan tasks needs m u word_of chain_of) (e : Event) (fits : Fits plan m e) where
    goes_by : Turn image plan tasks u word_of chain_of m → Goes image plan tasks needs (step m e)
    goes_by (runs view pcxi fcx seen of pause now first) = goes_runs wd m k view pcxi fcx seen of pause now e fits first
    goes_by (switches view pcxi fcx seen i some most of pause r) =
        elim (cases_eq i 1) [
          | inl one ↦ goes_saves wd m k view pcxi fcx seen of pause (r.old_current (omega arith)) e fits (r.pc ∙ ap (λ j. tasks.switch + 4 * j) one) r.off
          | inr more ↦ elim (cases_eq i 14) [
            | inl last ↦ goes_switch wd m k e fits view pcxi fcx seen of pause (subst (λ j. InRoutine tasks m u j word_of) last r)
            | inr less ↦ goes_turning wd m k view pcxi fcx seen of pause e fits i (omega arith) (omega arith) r
          ]
        ]
    goes_by (comes_back v seen i some most pc off of beside low pause now) =
        elim (cases_eq i 15) [
          | inl first ↦ comes_on wd m k e fits v seen off of beside pause now (pc ∙ ap (λ j. tasks.switch + 4 * j) first)
          | inr more ↦ elim (cases_eq i 16) [
            | inl second ↦ comes_lower wd m k e fits v seen off of beside pause now (pc ∙ ap (λ j. tasks.switch + 4 * j) second)
            | inr last ↦ let is : i ≡ 17 = omega arith in comes_home wd m k e fits v seen off of beside pause now (pc ∙ ap (λ j. tasks.switch + 4 * j) is) (low is)
          ]
        ]
    goes_by (begins i some most pc off level later early late now) =
        elim (cases_eq i 15) [
          | inl first ↦ let h = early (omega arith) in begins_on wd m k later off level now e fits (pc ∙ ap (λ j. tasks.switch + 4 * j) first) h.0 h.1 h.2
          | inr more ↦ elim (cases_eq i 16) [
            | inl second ↦ let h = early (omega arith) in begins_lower wd m k later off level now e fits (pc ∙ ap (λ j. tasks.switch + 4 * j) second) h.0 h.1 h.2
            | inr last ↦ let is : i ≡ 17 = omega arith in let h = late is in begins_home wd m k later off level now e fits (pc ∙ ap (λ j. tasks.switch + 4 * j) is) h.0 h.1 h.2 h.3 h.4 h.5 h.6
          ]
        ]

    pub goes_on : Goes image plan tasks needs (step m e)
    goes_on = goes_by k.turn

    -- ---- what is safe
    away : (i : ℕ) → m.pc ≡ tasks.switch + 4 * i → (i ≤ 11) ⊎ (15 ≤ i) → owner tasks m ≡ current_task tasks m.mem
    away i pc (inl low) = owner_now tasks m (λ a. omega arith) (λ a. omega arith) (λ a. omega arith)
    away i pc (inr high) = owner_now tasks m (λ a. omega arith) (λ a. omega arith) (λ a. omega arith)

    owner_by : Turn image plan tasks u word_of chain_of m → owner tasks m ≡ u
    owner_by (runs view pcxi fcx seen of pause now first) =
        elim (in_or_out tasks m.pc) [
          | inl inside ↦ let at = first inside in owner_now tasks m (λ a. omega arith) (λ a. omega arith) (λ a. omega arith) ∙ now
          | inr out ↦ owner_now tasks m (λ a. out (omega arith, omega arith)) (λ a. out (omega arith, omega arith)) (λ a. out (omega arith, omega arith)) ∙ now
        ]
    owner_by (switches view pcxi fcx seen i some most of pause r) =
        elim (cases_eq i 12) [
          | inl a ↦ given (r.new_current (omega arith)) (inl (omega arith))
          | inr not_12 ↦ elim (cases_eq i 13) [
            | inl b ↦ given (r.new_current (omega arith)) (inr (inl (omega arith)))
            | inr not_13 ↦ elim (cases_eq i 14) [
              | inl c ↦ given (r.new_current (omega arith)) (inr (inr (omega arith)))
              | inr not_14 ↦ away i r.pc (inl (omega arith)) ∙ r.old_current (omega arith)
            ]
          ]
        ]
      where
        given : current_task tasks m.mem ≡ after (count tasks) u → (m.pc ≡ tasks.switch + 48) ⊎ ((m.pc ≡ tasks.switch + 52) ⊎ (m.pc ≡ tasks.switch + 56)) → owner tasks m ≡ u
        given now at =
            ap (λ t. cond t (previous_task (count tasks) (current_task tasks m.mem)) (current_task tasks m.mem)) (place_here m.pc tasks.switch at) ∙ ap (previous_task (count tasks)) now ∙ before_after (count tasks) u (k.shared).own
    owner_by (comes_back v seen i some most pc off of beside low pause now) = away i pc (inr some) ∙ now
    owner_by (begins i some most pc off level later early late now) = away i pc (inr some) ∙ now

    returns_store : (i : ℕ) → 15 ≤ i → i ≤ 17 → m.pc ≡ tasks.switch + 4 * i → m.ie ≡ false → IfSome (stored m e) (IsAllowedTaskStore plan tasks m.pc)
    returns_store i some most pc off =
        elim (cases_eq i 15) [
          | inl first ↦ no_store wd m k e 15 (pc ∙ ap (λ j. tasks.switch + 4 * j) first) off _ (code_15 image plan tasks wd.are wd.has) refl
          | inr more ↦ elim (cases_eq i 16) [
            | inl second ↦ no_store wd m k e 16 (pc ∙ ap (λ j. tasks.switch + 4 * j) second) off _ (code_16 image plan tasks wd.are wd.has) refl
            | inr last ↦ let is : i ≡ 17 = omega arith in no_store wd m k e 17 (pc ∙ ap (λ j. tasks.switch + 4 * j) is) off _ (code_17 image plan tasks wd.are wd.has) refl
          ]
        ]

    store_by : Turn image plan tasks u word_of chain_of m → IfSome (stored m e) (IsAllowedTaskStore plan tasks m.pc)
    store_by (runs view pcxi fcx seen of pause now first) = goes_store wd m k view pcxi fcx seen of pause now e fits (λ i. let at = first i in omega arith)
    store_by (switches view pcxi fcx seen i some most of pause r) = turning_store wd m k view pcxi fcx seen of pause e fits i some most r
    store_by (comes_back v seen i some most pc off of beside low pause now) = returns_store i some most pc off
    store_by (begins i some most pc off level later early late now) = returns_store i some most pc off

    code_in : (i : ℕ) → i ≤ 17 → m.pc ≡ tasks.switch + 4 * i → HasCode image plan m.pc
    code_in i most pc = let c = some_code image plan tasks wd.are wd.has i (omega arith) in subst (HasCode image plan) (sym pc) (record { shape = c.0; size = 4; code = c.1 })

    code_by : Turn image plan tasks u word_of chain_of m → HasCode image plan m.pc
    code_by (runs view pcxi fcx seen of pause now first) = goes_code wd m k view pcxi fcx seen of pause now e fits (λ i. let at = first i in omega arith)
    code_by (switches view pcxi fcx seen i some most of pause r) = code_in i (omega arith) r.pc
    code_by (comes_back v seen i some most pc off of beside low pause now) = code_in i most pc
    code_by (begins i some most pc off level later early late now) = code_in i most pc

    pub safe_now : AreTasksSafeAt image plan tasks needs m e
    safe_now =
        let own = owner_by k.turn in
        let c = (code_by k.turn).code in
        record {
          running = k.running;
          owner = subst (λ x. x < count tasks) (sym own) (k.shared).own;
          areas = areas_shared wd.ok tasks m u word_of chain_of needs k.shared
              (λ w lt.
              elim (cases_eq w u) [
                | inl same ↦ cond_same w (owner tasks m) m.pcxi (block_word tasks m.mem w) (same ∙ sym own) ∙ sym (k.shared).first ∙ ap word_of (sym same)
                | inr apart ↦ cond_other w (owner tasks m) m.pcxi (block_word tasks m.mem w) (λ e. apart (e ∙ own)) ∙ (k.waits w lt apart).0
              ])
              k.needs_kept;
          code_in_rom = IsAtCode-from image wd.ok m k.rom c.bytes c.inst c.spells;
          stores = store_by k.turn;
        }

  -- ---- runs
  pub goes_run : (m : Machine) {u : ℕ} {word_of : ℕ → ℕ} {chain_of : ℕ → List ℕ} → AllKept image plan tasks needs m u word_of chain_of → (es : List Event) → AllFit plan m es → Goes image plan tasks needs (run m es)
  goes_run m {u = u} {word_of = word_of} {chain_of = chain_of} k [] all = record { owner = u; words = word_of; chains = chain_of; kept = k }
  goes_run m k (e ∷ es) all = let g = goes_on m k e all.0 in goes_run (step m e) g.kept es all.1

  -- ---- the start
  two_each : (n : ℕ) → 1 ≤ n → ((w : ℕ) → 1 ≤ w → w < n → 2 ≤ needs w) → 2 * (n - 1) ≤ sum_of_first n needs
  two_each zero some two = absurd (omega arith)
  two_each (suc zero) some two = omega arith
  two_each (suc (suc n)) some two =
      let rest = two_each (suc n) (omega arith) (λ w a b. two w a (omega arith)) in
      let last = two (suc n) (omega arith) (omega arith) in
      omega arith

  module _ (m : Machine) (start : TasksStart image plan tasks m) where
    first_own : 0 < count tasks
    first_own = let s = (wd.are).some in omega arith

    view_starts_here : Starts (view_image_of image tasks 0) (view_plan_of plan tasks 0) (seen_as m (start_memory wd first_own m start.memory start.rom (start.machine).bytes) 0 (first_link plan))
    view_starts_here =
        let w = start.machine in
        let s = start_is wd first_own m start.memory start.rom (start.machine).bytes in
        record {
          machine = record { d = w.d; a = w.a; pc = w.pc; psw = w.psw; pcxi = omega arith; fcx = (let some = (wd.ok.areas).some in let lt = link_lt wd.ok 0 (omega arith) in omega arith); lcx = w.lcx; ccpn = w.ccpn; biv = w.biv; btv = w.btv; isp = w.isp; bytes = s.bytes };
          memory = s.memory;
          rom = s.rom;
          linked = s.linked;
          fcx = refl;
          lcx = start.lcx;
          pcxi = refl;
          pc = start.pc;
          sp = start.sp;
          globals = start.globals;
          biv = start.biv;
          btv = start.btv;
          isp = start.isp;
          ie = start.ie;
          ccpn = start.ccpn;
          is = start.is;
          io = start.io;
          end = start.end;
          core = start.core;
        }

    pub all_start : AllKept image plan tasks needs m 0 (start_word tasks m) (start_chain plan)
    all_start =
        let some = (wd.are).some in
        let each = two_each (count tasks) (omega arith) wd.two in
        let sum = wd.sum in
        record {
          shared = start_shared image plan wd.ok tasks wd.are m start (omega arith);
          words = start.machine;
          running = start.end;
          memory = start.memory;
          rom = start.rom;
          globals = start.globals;
          biv = start.biv;
          btv = start.btv;
          isp = start.isp;
          core = start.core;
          lcx = start.lcx;
          turn = start_turn wd first_own m start.memory start.rom (start.machine).bytes (start_word tasks m) (start_chain plan) view_starts_here refl start.pcxi start.first;
          waits = λ w lt apart.
              let later : 1 ≤ w = omega arith in
              let chain_is : start_chain plan w ≡ task_lower_area plan w ∷ task_upper_area plan w ∷ [] = cond_other w 0 [] (task_lower_area plan w ∷ task_upper_area plan w ∷ []) apart in (
                sym (cond_other w 0 0 (block_word tasks m.mem w) apart),
                ready later (subst (λ c. IsTaskReady c plan tasks m.mem w) (sym start.core) (start.ready w later lt)) chain_is,
              );
          needs_kept = λ w lt.
              elim (cases_eq w 0) [
                | inl zero_w ↦ let none : length (start_chain plan w) ≡ 0 = ap length (cond_same w 0 [] (task_lower_area plan w ∷ task_upper_area plan w ∷ []) zero_w) in omega arith
                | inr later ↦
                    let need = wd.two w (omega arith) lt in
                    omega (arith, ap length (cond_other w 0 [] (task_lower_area plan w ∷ task_upper_area plan w ∷ []) later))
              ];
        }

-- ---- the theorem
needs_enough : (n w : ℕ) → n ≤ cond (w == 0) n (max n 2)
needs_enough n w = cond_both (w == 0) n (max n 2) (λ y. n ≤ y) (λ _. omega arith) (λ _. omega arith)

needs_two : (n w : ℕ) → 1 ≤ w → 2 ≤ cond (w == 0) n (max n 2)
needs_two n w some = let is : cond (w == 0) n (max n 2) ≡ max n 2 = cond_other w 0 n (max n 2) (λ e. omega arith) in omega arith

pub tasks_are_safe : TasksAreSafe
tasks_are_safe image plan tasks certs ok are fit has judged sum m es e start all fits =
    let wd : World image plan tasks certs (need_of_task image plan tasks certs) =
    record {
      ok = ok;
      are = are;
      fit = fit;
      has = has;
      judged = judged;
      enough = λ w lt. needs_enough (certified_need (view_image_of image tasks w) (view_plan_of plan tasks w) (certs w)) w;
      two = λ w some lt. needs_two (certified_need (view_image_of image tasks w) (view_plan_of plan tasks w) (certs w)) w some;
      sum = sum;
    }
    in
    safe_now wd (run m es) (goes_run wd m (all_start wd m start) es all).kept e fits
