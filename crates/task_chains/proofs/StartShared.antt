-- What the tasks share at the start.
use Rattle.std.proofs.Common.{◌≡◌, ℕ, zero, suc, ◌+◌, ◌-◌, ◌*◌, ◌%◌, ◌^◌, ◌<◌, ◌≤◌, inl, inr, Bool, true, false, cond, List, [], ◌∷◌, ◌++◌, length, refl, sym, ap, ◌∙◌, subst, arith, nat_lt, ◌==◌}
use Rattle.std.proofs.lemmas.Bool.{cases_eq, lt-ltb, le-ltb, ltb-true}
use Rattle.csa_chain.specs.Chain.{link_in, is_area_mapped, area_word}
use Rattle.csa_chain.proofs.ChainLaws.{Links, are_mapped_from}
use Rattle.csa_chain.proofs.ContextLaws.{link_in-pcxi_word}
use Rattle.elf_image.specs.Images.{ImageData}
use Rattle.tcd_plan.specs.PlanData.{PlanData, IsPlan}
use Rattle.tc_machine.specs.declared.state.Machine.{Machine}
use Rattle.tc_machine.specs.PlanAreas.{consecutive_links, first_link, plan_areas, area_link_or_zero}
use Rattle.tc_machine.proofs.PlanLaws.{length-links_up, link_address-area, some_link, link_lt}
use Rattle.csa_chain.specs.SeveralChains.{occurrences_of, sum_of_first, ChainsPartitionAreas}
use Rattle.task_chains.specs.Tasks.{TasksData, AreTasks, count}
use Rattle.task_chains.specs.TaskStarts.{block_word, task_upper_area, task_lower_area, areas_held_at_start, TasksStart}
use Rattle.csa_chain.proofs.SeveralLaws.{cond_same, cond_other, AllLinks}
use Rattle.task_chains.proofs.Switch.{Shared}

-- ---- lists of links
times-append : (l : ℕ) (xs ys : List ℕ) → occurrences_of l (xs ++ ys) ≡ occurrences_of l xs + occurrences_of l ys
times-append l [] ys = omega arith
times-append l (x ∷ xs) ys = let rest = times-append l xs ys in omega arith

links_up-append : (l a b : ℕ) → consecutive_links l (a + b) ≡ consecutive_links l a ++ consecutive_links (l + a) b
links_up-append l zero b = (λ i. consecutive_links (e0 i) (e1 i))
  where
    e0 : l ≡ l + 0
    e0 = omega arith

    e1 : 0 + b ≡ b
    e1 = omega arith
links_up-append l (suc a) b = ap (consecutive_links l) (let e : suc a + b ≡ suc (a + b) = omega arith in e) ∙ ap (λ ls. l ∷ ls) (links_up-append (l + 1) a b ∙ ap (λ k. consecutive_links (l + 1) a ++ consecutive_links k b) (let e : l + 1 + a ≡ l + suc a = omega arith in e))

-- ---- the chains at the start
abbrev pub start_word : TasksData → Machine → ℕ → ℕ
start_word tasks m w = cond (w == 0) 0 (block_word tasks m.mem w)

abbrev pub start_chain : PlanData → ℕ → List ℕ
start_chain plan w = cond (w == 0) [] (task_lower_area plan w ∷ task_upper_area plan w ∷ [])

module _ (plan : PlanData) where
  two_more : (k : ℕ) → consecutive_links (first_link plan) (2 * suc k) ≡ consecutive_links (first_link plan) (2 * k) ++ task_upper_area plan (suc k) ∷ task_lower_area plan (suc k) ∷ []
  two_more k =
      ap (consecutive_links (first_link plan)) (let e : 2 * suc k ≡ 2 * k + 2 = omega arith in e) ∙ links_up-append (first_link plan) (2 * k) 2
      ∙ (λ i. consecutive_links (first_link plan) (2 * k) ++ up i ∷ low i ∷ [])
    where
      up : first_link plan + 2 * k ≡ first_link plan + 2 * (suc k - 1)
      up = omega arith

      low : first_link plan + 2 * k + 1 ≡ first_link plan + (2 * (suc k - 1) + 1)
      low = omega arith

  times_held : (l k : ℕ) → sum_of_first (suc k) (λ w. occurrences_of l (start_chain plan w)) ≡ occurrences_of l (consecutive_links (first_link plan) (2 * k))
  times_held l zero = refl
  times_held l (suc k) =
      let here : occurrences_of l (start_chain plan (suc k)) ≡ occurrences_of l (task_lower_area plan (suc k) ∷ task_upper_area plan (suc k) ∷ []) = ap (occurrences_of l) (cond_other (suc k) 0 [] (task_lower_area plan (suc k) ∷ task_upper_area plan (suc k) ∷ []) (λ e. omega arith)) in
      let more = ap (occurrences_of l) (two_more k) ∙ times-append l (consecutive_links (first_link plan) (2 * k)) (task_upper_area plan (suc k) ∷ task_lower_area plan (suc k) ∷ []) in
      omega (arith, times_held l k)

  length_held : (k : ℕ) → sum_of_first (suc k) (λ w. length (start_chain plan w)) ≡ 2 * k
  length_held zero = refl
  length_held (suc k) =
      let here : length (start_chain plan (suc k)) ≡ 2 = ap length (cond_other (suc k) 0 [] (task_lower_area plan (suc k) ∷ task_upper_area plan (suc k) ∷ []) (λ e. omega arith)) in
      omega (arith, length_held k)

small_link : (b : Bool) (x : ℕ) → (b ≡ true → x < 2 ^ 20) → link_in (cond b x 0) ≡ cond b x 0
small_link true x h = let lt = h refl in omega arith
small_link false x h = refl

module _ (image : ImageData) (plan : PlanData) (ok : IsPlan plan) (tasks : TasksData) (are : AreTasks tasks) (m : Machine) (start : TasksStart image plan tasks m) (few : areas_held_at_start tasks ≤ plan.areas - plan.reserve) where
  abbrev n : ℕ
  n = count tasks

  abbrev held : ℕ
  held = areas_held_at_start tasks

  area_mapped : (i : ℕ) → i < plan.areas → is_area_mapped m.mem (first_link plan + i) ≡ true
  area_mapped i lt = are_mapped_from m.mem _ 64 (λ j h. (start.memory _).1 (let at = link_address-area ok i lt in inr (inr (omega arith, omega arith))))

  -- a task that is ready has two areas
  ready_links : (w : ℕ) → 1 ≤ w → w < n → Links m.mem (block_word tasks m.mem w) (task_lower_area plan w ∷ task_upper_area plan w ∷ [])
  ready_links w some lt =
      let r = start.ready w some lt in
      let low : 2 * (w - 1) + 1 < plan.areas = omega arith in (
        some_link ok (2 * (w - 1) + 1),
        ap link_in r.word ∙ link_in-pcxi_word plan.core 0 false false (task_lower_area plan w) (link_lt ok (2 * (w - 1) + 1) low),
        area_mapped (2 * (w - 1) + 1) low,
        (some_link ok (2 * (w - 1)), r.above, area_mapped (2 * (w - 1)) (omega arith), ap link_in r.ends),
      )

  all_links : AllLinks n m.mem (start_word tasks m) (start_chain plan)
  all_links w lt =
      elim (cases_eq w 0) [
        | inl first ↦
            subst (λ x. Links m.mem x (start_chain plan w)) (sym (cond_same w 0 0 (block_word tasks m.mem w) first)) (subst (Links m.mem 0) (sym (cond_same w 0 [] (task_lower_area plan w ∷ task_upper_area plan w ∷ []) first)) refl)
        | inr later ↦
            subst (λ x. Links m.mem x (start_chain plan w)) (sym (cond_other w 0 0 (block_word tasks m.mem w) later))
            (subst (Links m.mem (block_word tasks m.mem w)) (sym (cond_other w 0 [] (task_lower_area plan w ∷ task_upper_area plan w ∷ []) later)) (ready_links w (omega arith) lt))
      ]

  -- the areas from area i on, none of a task
  free_from : (i k word : ℕ) → held ≤ i → i + k ≡ plan.areas → link_in word ≡ area_link_or_zero plan i → Links m.mem word (consecutive_links (first_link plan + i) k)
  free_from i zero word le e w = w ∙ ap (λ t. cond t (first_link plan + i) 0) (le-ltb i plan.areas (omega arith))
  free_from i (suc k) word le e w =
      let lt : i < plan.areas = omega arith in
      let next : first_link plan + i + 1 ≡ first_link plan + (i + 1) = omega arith in (
        some_link ok i,
        w ∙ ap (λ t. cond t (first_link plan + i) 0) (lt-ltb i plan.areas lt),
        area_mapped i lt,
        subst (λ l. Links m.mem (area_word m.mem (first_link plan + i) 0) (consecutive_links l k)) (sym next)
            (free_from (i + 1) k (area_word m.mem (first_link plan + i) 0) (omega arith) (omega arith)
            (ap link_in (start.linked i le lt) ∙ small_link (nat_lt (i + 1) plan.areas) (first_link plan + (i + 1)) (λ b. link_lt ok (i + 1) (ltb-true (i + 1) plan.areas b)))),
      )

  abbrev free : List ℕ
  free = consecutive_links (first_link plan + held) (plan.areas - held)

  free_links : Links m.mem m.fcx free
  free_links =
      let w = few in
      free_from held (plan.areas - held) m.fcx (omega arith) (omega arith)
      (ap link_in start.fcx ∙ small_link (nat_lt held plan.areas) (first_link plan + held) (λ b. link_lt ok held (ltb-true held plan.areas b)))

  round : (k : ℕ) → suc k ≡ n → ChainsPartitionAreas n (start_chain plan) free (plan_areas plan)
  round k is =
      let held_is : held ≡ 2 * k = omega arith in
      let whole : consecutive_links (first_link plan) plan.areas ≡ consecutive_links (first_link plan) held ++ free = ap (consecutive_links (first_link plan)) (let e : plan.areas ≡ held + (plan.areas - held) = omega arith in e) ∙ links_up-append (first_link plan) held (plan.areas - held) in
      record {
        each = λ l.
            let t = ap (λ j. sum_of_first j (λ w. occurrences_of l (start_chain plan w))) (sym is) ∙ times_held plan l k ∙ ap (λ j. occurrences_of l (consecutive_links (first_link plan) j)) (sym held_is) in
            omega (arith, ap (occurrences_of l) whole ∙ times-append l (consecutive_links (first_link plan) held) free);
        count =
            let t = ap (λ j. sum_of_first j (λ w. length (start_chain plan w))) (sym is) ∙ length_held plan k in
            omega (arith, length-links_up (first_link plan + held) (plan.areas - held), length-links_up (first_link plan) plan.areas);
      }

  pub start_shared : Shared plan n 0 (start_word tasks m) (start_chain plan) m.mem m.pcxi m.fcx m.lcx
  start_shared =
      let some = are.some in
      let reserved = (ok.areas).reserve_within in
      let r = (ok.areas).reserved in
      let limit : plan.areas - plan.reserve < plan.areas = omega arith in
      record {
        own = omega arith;
        first = sym start.pcxi;
        links = all_links;
        free = free;
        free_links = free_links;
        share = round (n - 1) (omega arith);
        front = consecutive_links (first_link plan + held) (plan.areas - plan.reserve - held);
        reserved = ap (consecutive_links (first_link plan + held)) (let e : plan.areas - held ≡ (plan.areas - plan.reserve - held) + plan.reserve = omega arith in e)
            ∙ links_up-append (first_link plan + held) (plan.areas - plan.reserve - held) plan.reserve
            ∙ ap (λ l. consecutive_links (first_link plan + held) (plan.areas - plan.reserve - held) ++ consecutive_links l plan.reserve) (let e : first_link plan + held + (plan.areas - plan.reserve - held) ≡ first_link plan + (plan.areas - plan.reserve) = omega arith in e);
        lcx_is = ap link_in start.lcx ∙ (let small = link_lt ok (plan.areas - plan.reserve) limit in let e : (first_link plan + (plan.areas - plan.reserve)) % 2 ^ 20 ≡ first_link plan + (plan.areas - plan.reserve) = omega arith in e);
        pcxi_word = (start.machine).pcxi;
        fcx_word = (start.machine).fcx;
      }
