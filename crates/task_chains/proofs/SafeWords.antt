-- The guard laws on what safe runs of all tasks are.
use Rattle.std.proofs.Common.{◌≡◌, ℕ, zero, suc, ◌+◌, ◌-◌, ◌*◌, ◌<◌, ◌≤◌, ◌⊎◌, inl, inr, true, cond, List, [], ◌∷◌, ◌++◌, length, map, get_or, slice_get, Option, Some, None, refl, sym, ap, ◌∙◌, subst, arith, append_assoc, nat_le}
use Rattle.std.specs.Prelude.{IfSome}
use Rattle.std.specs.List.{list_all}
use Rattle.std.proofs.lemmas.Bool.{cases_eq, cases_lt, or_cases, and_parts, leb-true}
use Rattle.std.proofs.lemmas.List.Folds.{list_all-append}
use Rattle.csa_chain.specs.MemoryBytes.{Memory}
use Rattle.csa_chain.specs.Chain.{link_address, area_word}
use Rattle.csa_chain.proofs.ChainLaws.{Links, are_mapped_each, are_mapped_from, chain_within-Links, Links-chain_within}
use Rattle.csa_chain.proofs.SeveralLaws.{sum_below-at, cond_same, cond_other}
use Rattle.elf_image.specs.Images.{ImageData}
use Rattle.tcd_base.specs.declared.range.Range.{Range}
use Rattle.tcd_base.specs.Ranges.{IsInOneRange}
use Rattle.tcd_base.proofs.RangeLaws.{IsInOne-front, IsInOne-behind}
use Rattle.tcd_plan.specs.declared.plans.Device.{Device}
use Rattle.tcd_plan.specs.PlanData.{PlanData, IsPlan, are_ranges_disjoint, are_all_ranges_disjoint, areas_range}
use Rattle.tcd_plan.specs.MappedAddresses.{IsInDevice, IsStoreInRange}
use Rattle.tc_machine.specs.declared.events.Event.{Event}
use Rattle.tc_machine.specs.declared.state.Machine.{Machine}
use Rattle.tc_machine.specs.PlanAreas.{first_link, plan_areas}
use Rattle.tc_machine.specs.Stepping.{step, run, stored}
use Rattle.tc_machine.specs.Safe.{Fits, AllFit}
use Rattle.tc_machine.specs.MachineLaws.{IsAreaWalk, LiesInRange, first_events}
use Rattle.tc_machine.proofs.Guards.{every_run}
use Rattle.tc_machine.proofs.PlanLaws.{length-links_up}
use Rattle.task_chains.specs.declared.task_lists.Task.{Task}
use Rattle.task_chains.specs.Tasks.{TasksData}
use Rattle.task_chains.specs.TaskStarts.{block_word, current_task}
use Rattle.task_chains.specs.SafeTasks.{previous_task, owner, chain_head, IsAllowedTaskStore, AreTasksSafeAt}
use Rattle.task_chains.specs.SafeTasksInWords.{OwnsChain, IsSafeTaskStore, HasSafeTaskParts, SafeTasksHaveParts, PartsMakeTasksSafe}
use Rattle.task_chains.proofs.Places.{sum_below-less, place_of, among, one_place, area_times, area_of, each_of}
use Rattle.task_chains.proofs.Together.{owner_now, place_here}
use Rattle.task_chains.proofs.Twins.{areas_once}
use Rattle.task_chains.proofs.ViewPlan.{ranges_of}

-- ---- chains as walks
walks : (mem : Memory) (word : ℕ) (ls : List ℕ) → Links mem word ls → IsAreaWalk mem word ls
walks mem word [] h = h
walks mem word (l ∷ ls) h = (h.0, h.1, λ i lt. are_mapped_each mem (link_address l) 64 h.2 i lt, walks mem (area_word mem l 0) ls h.3)

links_of : (mem : Memory) (word : ℕ) (ls : List ℕ) → IsAreaWalk mem word ls → Links mem word ls
links_of mem word [] h = h
links_of mem word (l ∷ ls) h = (h.0, h.1, are_mapped_from mem (link_address l) 64 h.2, links_of mem (area_word mem l 0) ls h.3)

-- ---- ranges
later : (r : Range) (rs : List Range) (x n : ℕ) → LiesInRange rs x n → LiesInRange (r ∷ rs) x n
later r rs x n h = record { place = suc h.place; range = h.range; there = h.there; from = h.from; to = h.to }

lies_in : (rs : List Range) (x n : ℕ) → IsInOneRange x n rs → LiesInRange rs x n
lies_in [] x n h = absurd h
lies_in (r ∷ rs) x n (inl h) = record { place = 0; range = r; there = refl; from = h.0; to = h.1 }
lies_in (r ∷ rs) x n (inr h) = later r rs x n (lies_in rs x n h)

in_one_at : (rs : List Range) (x n k : ℕ) (r : Range) → slice_get rs k ≡ Some r → r.at ≤ x → x + n ≤ r.at + r.len → IsInOneRange x n rs
in_one_at [] x n k r is low high = absurd (let none : let o : Option Range = None in o ≡ Some r = is in cc)
in_one_at (s ∷ rs) x n zero r is low high =
    let same : s ≡ r = cc in
    inl (subst (λ (z : Range). z.at ≤ x) (sym same) low, subst (λ (z : Range). x + n ≤ z.at + z.len) (sym same) high)
in_one_at (s ∷ rs) x n (suc k) r is low high = inr (in_one_at rs x n k r is low high)

in_device_at : (ds : List Device) (x n : ℕ) → IsInOneRange x n (map (λ (d : Device). d.range) ds) → IsInDevice x n ds
in_device_at [] x n h = h
in_device_at (d ∷ ds) x n (inl h) = inl h
in_device_at (d ∷ ds) x n (inr h) = inr (in_device_at ds x n h)

-- addresses inside one range are below each range that is apart from it, or above
beside : (x n : ℕ) (r s : Range) → are_ranges_disjoint r s ≡ true → r.at ≤ x → x + n ≤ r.at + r.len → (x + n ≤ s.at) ⊎ (s.at + s.len ≤ x)
beside x n r s apart low high =
    elim (or_cases (nat_le (r.at + r.len) s.at) (nat_le (s.at + s.len) r.at) apart) [
      | inl below ↦ inl (let le = leb-true (r.at + r.len) s.at below in omega arith)
      | inr above ↦ inr (let le = leb-true (s.at + s.len) r.at above in omega arith)
    ]

beside_other : (x n : ℕ) (r s : Range) → are_ranges_disjoint s r ≡ true → r.at ≤ x → x + n ≤ r.at + r.len → (x + n ≤ s.at) ⊎ (s.at + s.len ≤ x)
beside_other x n r s apart low high =
    elim (or_cases (nat_le (s.at + s.len) r.at) (nat_le (r.at + r.len) s.at) apart) [
      | inl above ↦ inr (let le = leb-true (s.at + s.len) r.at above in omega arith)
      | inr below ↦ inl (let le = leb-true (r.at + r.len) s.at below in omega arith)
    ]

-- addresses inside one of the first ranges, compared with the last one
beside_last : (x n : ℕ) (rs : List Range) (s : Range) → are_all_ranges_disjoint (rs ++ s ∷ []) ≡ true → IsInOneRange x n rs → (x + n ≤ s.at) ⊎ (s.at + s.len ≤ x)
beside_last x n [] s apart h = absurd h
beside_last x n (r ∷ rs) s apart (inl h) =
    let each = (and_parts (list_all (are_ranges_disjoint r) (rs ++ s ∷ [])) (are_all_ranges_disjoint (rs ++ s ∷ [])) apart).0 in
    let last = (and_parts (list_all (are_ranges_disjoint r) rs) (list_all (are_ranges_disjoint r) (s ∷ [])) (sym (list_all-append (are_ranges_disjoint r) rs (s ∷ [])) ∙ each)).1 in
    beside x n r s (and_parts (are_ranges_disjoint r s) true last).0 h.0 h.1
beside_last x n (r ∷ rs) s apart (inr h) = beside_last x n rs s (and_parts (list_all (are_ranges_disjoint r) (rs ++ s ∷ [])) (are_all_ranges_disjoint (rs ++ s ∷ [])) apart).1 h

-- addresses inside one of several ranges, compared with one that is apart from them all
beside_each : (x n : ℕ) (s : Range) (rs : List Range) → list_all (are_ranges_disjoint s) rs ≡ true → IsInOneRange x n rs → (x + n ≤ s.at) ⊎ (s.at + s.len ≤ x)
beside_each x n s [] apart h = absurd h
beside_each x n s (r ∷ rs) apart (inl h) = beside_other x n r s (and_parts (are_ranges_disjoint s r) (list_all (are_ranges_disjoint s) rs) apart).0 h.0 h.1
beside_each x n s (r ∷ rs) apart (inr h) = beside_each x n s rs (and_parts (are_ranges_disjoint s r) (list_all (are_ranges_disjoint s) rs) apart).1 h

-- addresses inside one of the later ranges, compared with each of the first ones
beside_first : (x n : ℕ) (rs ss : List Range) (k : ℕ) (s : Range) → are_all_ranges_disjoint (rs ++ ss) ≡ true → slice_get rs k ≡ Some s → IsInOneRange x n ss → (x + n ≤ s.at) ⊎ (s.at + s.len ≤ x)
beside_first x n [] ss k s apart is h = absurd (let none : let o : Option Range = None in o ≡ Some s = is in cc)
beside_first x n (r ∷ rs) ss zero s apart is h =
    let same : r ≡ s = cc in
    let each = (and_parts (list_all (are_ranges_disjoint r) (rs ++ ss)) (are_all_ranges_disjoint (rs ++ ss)) apart).0 in
    let rest = (and_parts (list_all (are_ranges_disjoint r) rs) (list_all (are_ranges_disjoint r) ss) (sym (list_all-append (are_ranges_disjoint r) rs ss) ∙ each)).1 in
    beside_each x n s ss (subst (λ (z : Range). list_all (are_ranges_disjoint z) ss ≡ true) same rest) h
beside_first x n (r ∷ rs) ss (suc k) s apart is h = beside_first x n rs ss k s (and_parts (list_all (are_ranges_disjoint r) (rs ++ ss)) (are_all_ranges_disjoint (rs ++ ss)) apart).1 is h

module _ {plan : PlanData} (ok : IsPlan plan) (x n : ℕ) (at : IsStoreInRange plan (x, n)) where
  abbrev devices : List Range
  devices = map (λ (d : Device). d.range) plan.devices

  in_behind : IsInOneRange x n (plan.ram ++ devices)
  in_behind =
      elim at.1 [
        | inl ram ↦ IsInOne-front x n plan.ram devices ram
        | inr device ↦ IsInOne-behind x n plan.ram devices (ranges_of plan.devices x n device)
      ]

  in_region : LiesInRange plan.ram x n ⊎ LiesInRange devices x n
  in_region =
      elim at.1 [
        | inl ram ↦ inl (lies_in plan.ram x n ram)
        | inr device ↦ inr (lies_in devices x n (ranges_of plan.devices x n device))
      ]

  whole : are_all_ranges_disjoint (plan.rom ++ ((plan.ram ++ devices) ++ areas_range plan ∷ [])) ≡ true
  whole =
      subst (λ l. are_all_ranges_disjoint l ≡ true)
      (ap (λ (l : List Range). l ++ areas_range plan ∷ []) (append_assoc plan.rom plan.ram devices) ∙ append_assoc plan.rom (plan.ram ++ devices) (areas_range plan ∷ [])) ok.apart

  off_areas_range : (x + n ≤ plan.csa_at) ⊎ (plan.csa_at + 64 * plan.areas ≤ x)
  off_areas_range =
      beside_last x n ((plan.rom ++ plan.ram) ++ devices) (areas_range plan) ok.apart
      (subst (IsInOneRange x n) (sym (append_assoc plan.rom plan.ram devices)) (IsInOne-behind x n plan.rom (plan.ram ++ devices) in_behind))

  off_rom_range : (place : ℕ) (r : Range) → slice_get plan.rom place ≡ Some r → (x + n ≤ r.at) ⊎ (r.at + r.len ≤ x)
  off_rom_range place r is =
      beside_first x n plan.rom ((plan.ram ++ devices) ++ areas_range plan ∷ []) place r whole is (IsInOne-front x n (plan.ram ++ devices) (areas_range plan ∷ []) in_behind)

-- ---- the owner
before_of : (n c u : ℕ) → previous_task n c ≡ u → u < n → (c ≡ u + 1) ⊎ ((u + 1 ≡ n) × (c ≡ 0))
before_of n zero u e lt = inr (let is : n - 1 ≡ u = e in omega arith, refl)
before_of n (suc c) u e lt = inl (let is : suc c - 1 ≡ u = sym (cond_other (suc c) 0 (n - 1) (suc c - 1) (λ z. omega arith)) ∙ e in omega arith)

before_is : (n c u : ℕ) → (c ≡ u + 1) ⊎ ((u + 1 ≡ n) × (c ≡ 0)) → previous_task n c ≡ u
before_is n c u (inl next) = cond_other c 0 (n - 1) (c - 1) (λ e. omega arith) ∙ (omega arith)
before_is n c u (inr round) = let last = round.0 in let none = round.1 in cond_same c 0 (n - 1) (c - 1) none ∙ (omega arith)

module _ (switch block : ℕ) (list : List Task) (m : Machine) where
  abbrev tasks : TasksData
  tasks = record { switch = switch; block = block; list = list }

  owner_late : (m.pc ≡ switch + 48) ⊎ ((m.pc ≡ switch + 52) ⊎ (m.pc ≡ switch + 56)) → owner tasks m ≡ previous_task (length list) (current_task tasks m.mem)
  owner_late at = ap (λ t. cond t (previous_task (length list) (current_task tasks m.mem)) (current_task tasks m.mem)) (place_here m.pc switch at)

  owns : owner tasks m < length list → OwnsChain switch block (length list) m (owner tasks m)
  owns lt = record {
    one = lt;
    now = λ a b c. sym (owner_now tasks m a b c);
    later = λ at. before_of (length list) (current_task tasks m.mem) (owner tasks m) (sym (owner_late at)) lt;
  }

  owner_is : (u : ℕ) → OwnsChain switch block (length list) m u → owner tasks m ≡ u
  owner_is u h =
      elim (cases_eq m.pc (switch + 48)) [
        | inl a ↦ late (inl a)
        | inr not_a ↦ elim (cases_eq m.pc (switch + 52)) [
          | inl b ↦ late (inr (inl b))
          | inr not_b ↦ elim (cases_eq m.pc (switch + 56)) [
            | inl c ↦ late (inr (inr c))
            | inr not_c ↦ owner_now tasks m not_a not_b not_c ∙ h.now not_a not_b not_c
          ]
        ]
      ]
    where
      late : (m.pc ≡ switch + 48) ⊎ ((m.pc ≡ switch + 52) ⊎ (m.pc ≡ switch + 56)) → owner tasks m ≡ u
      late at = owner_late at ∙ before_is (length list) (current_task tasks m.mem) u (h.later at)

-- ---- a state's parts
module _ (image : ImageData) {plan : PlanData} (ok : IsPlan plan) (switch block : ℕ) (list : List Task) (needs : ℕ → ℕ) (m : Machine) (e : Event) where
  abbrev group : TasksData
  group = record { switch = switch; block = block; list = list }

  abbrev n : ℕ
  n = length list

  store_apart : (o : Option (ℕ × ℕ)) → IfSome o (IsAllowedTaskStore plan group m.pc) → (x size : ℕ) → o ≡ Some (x, size) → IsSafeTaskStore plan switch block n m.pc x size
  store_apart o h x size is =
      let at : IsAllowedTaskStore plan group m.pc (x, size) = subst (λ (p : Option (ℕ × ℕ)). IfSome p (IsAllowedTaskStore plan group m.pc)) is h in
      record {
        fits = at.0.0;
        in_range = in_region ok x size at.0;
        off_areas = off_areas_range ok x size at.0;
        off_rom = off_rom_range ok x size at.0;
        off_block = λ out. at.1 (λ inside. elim out [ inl low ↦ (let from = inside.0 in omega arith) | inr high ↦ (let to_ = inside.1 in omega arith) ]);
      }

  pub parts_of : AreTasksSafeAt image plan group needs m e → HasSafeTaskParts image plan switch block n needs m e
  parts_of safe =
      let a = safe.areas in
      let c = safe.code_in_rom in
      let own = owner group m in
      let link = λ (u : ℕ) (lt : u < n). walks m.mem (chain_head group m u) (a.chain_of u) (Links-chain_within m.mem 4096 (chain_head group m u) (a.chain_of u) (a.chains u lt)).0 in
      record {
        running = safe.running;
        own = own;
        owns = owns switch block list m safe.owner;
        used = a.chain_of;
        free = a.free;
        own_walk = subst (λ w. IsAreaWalk m.mem w (a.chain_of own)) (cond_same own own m.pcxi (block_word group m.mem own) refl) (link own safe.owner);
        other_walks = λ u lt apart. subst (λ w. IsAreaWalk m.mem w (a.chain_of u)) (cond_other u own m.pcxi (block_word group m.mem u) apart) (link u lt);
        free_walk = walks m.mem m.fcx a.free (Links-chain_within m.mem 4096 m.fcx a.free a.free_chain).0;
        count = (a.share).count ∙ length-links_up (first_link plan) plan.areas;
        places = λ i lt. place_of n a.chain_of a.free (plan_areas plan) a.share (first_link plan + i) (area_times plan i lt);
        once = one_place n a.chain_of a.free (plan_areas plan) a.share (areas_once plan);
        areas = λ l u place at. area_of plan l (among n a.chain_of a.free (plan_areas plan) a.share l u place at);
        within_need = a.within_need;
        within_sum = sum_below-less n (λ u. length (a.chain_of u)) needs a.within_need;
        limit = a.limit;
        code = c.bytes;
        inst = c.inst;
        spelled = c.spells.spelled;
        in_rom = lies_in plan.rom m.pc (length c.bytes) c.spells.in_rom;
        held = c.spells.held;
        there = c.there;
        store = store_apart (stored m e) safe.stores;
      }

  -- ---- and what they say
  module _ (p : HasSafeTaskParts image plan switch block n needs m e) where
    few_used : (u : ℕ) → u < n → length (p.used u) ≤ 4096
    few_used u lt = let here = sum_below-at n (λ w. length (p.used w)) u lt in let all = p.count in let few = (ok.areas).few in omega arith

    few_free : length p.free ≤ 4096
    few_free = let all = p.count in let few = (ok.areas).few in omega arith

    walk_at : (u : ℕ) → u < n → IsAreaWalk m.mem (chain_head group m u) (p.used u)
    walk_at u lt =
        let is = owner_is switch block list m p.own p.owns in
        elim (cases_eq u p.own) [
          | inl same ↦
              subst (λ w. IsAreaWalk m.mem w (p.used u)) (sym (cond_same u (owner group m) m.pcxi (block_word group m.mem u) (same ∙ sym is)))
              (subst (λ w. IsAreaWalk m.mem m.pcxi (p.used w)) (sym same) p.own_walk)
          | inr apart ↦
              subst (λ w. IsAreaWalk m.mem w (p.used u)) (sym (cond_other u (owner group m) m.pcxi (block_word group m.mem u) (λ e. apart (e ∙ is)))) (p.other_walks u lt apart)
        ]

    store_at : (o : Option (ℕ × ℕ)) → stored m e ≡ o → IfSome o (IsAllowedTaskStore plan group m.pc)
    store_at None is = tt
    store_at (Some at) is =
        let s = p.store at.0 at.1 is in (
          (
            s.fits,
            elim s.in_range [
              | inl ram ↦ inl (in_one_at plan.ram at.0 at.1 ram.place ram.range ram.there ram.from ram.to)
              | inr device ↦ inr (in_device_at plan.devices at.0 at.1 (in_one_at (map (λ (d : Device). d.range) plan.devices) at.0 at.1 device.place device.range device.there device.from device.to))
            ],
          ),
          λ out. s.off_block (elim (cases_lt m.pc switch) [ inl low ↦ inl low | inr from ↦ elim (cases_lt m.pc (switch + 72)) [ inl within ↦ absurd (out (from, within)) | inr high ↦ inr high ] ]),
        )

    pub safe_of : AreTasksSafeAt image plan group needs m e
    safe_of = record {
      running = p.running;
      owner = subst (λ u. u < n) (sym (owner_is switch block list m p.own p.owns)) (p.owns).one;
      areas = record {
        chain_of = p.used;
        free = p.free;
        chains = λ u lt. chain_within-Links m.mem 4096 (chain_head group m u) (p.used u) (links_of m.mem (chain_head group m u) (p.used u) (walk_at u lt)) (few_used u lt);
        free_chain = chain_within-Links m.mem 4096 m.fcx p.free (links_of m.mem m.fcx p.free p.free_walk) few_free;
        share = record {
          each = each_of plan n p.used p.free p.places p.once p.areas;
          count = p.count ∙ sym (length-links_up (first_link plan) plan.areas);
        };
        within_need = p.within_need;
        limit = p.limit;
      };
      code_in_rom = record {
        bytes = p.code;
        inst = p.inst;
        spells = record { spelled = p.spelled; in_rom = (let r = p.in_rom in in_one_at plan.rom m.pc (length p.code) r.place r.range r.there r.from r.to); held = p.held };
        there = p.there;
      };
      stores = store_at (stored m e) refl;
    }

-- ---- runs
pub safe_tasks_say : SafeTasksHaveParts
safe_tasks_say image plan switch block list needs states events n e ok safe walk start fits last =
    let r = every_run plan states events n walk fits in
    let here = safe (states 0) (first_events n events) e start r.0 (subst (λ (m : Machine). Fits plan m e) (sym r.1) last) in
    parts_of image ok switch block list needs (states n) e (subst (λ (m : Machine). AreTasksSafeAt image plan (record { switch = switch; block = block; list = list }) needs m e) r.1 here)

-- the states of a run by the number of events: those of a list, and after them always the same
-- event
abbrev after_events : Machine → (ℕ → Event) → ℕ → Machine
after_events m events zero = m
after_events m events (suc k) = step (after_events m events k) (events k)

one_later : (m : Machine) (events : ℕ → Event) (k : ℕ) → after_events m events (suc k) ≡ after_events (step m (events 0)) (λ j. events (suc j)) k
one_later m events zero = refl
one_later m events (suc k) = ap (λ s. step s (events (suc k))) (one_later m events k)

run_after : (m : Machine) (es : List Event) (e : Event) → after_events m (λ k. get_or es k e) (length es) ≡ run m es
run_after m [] e = refl
run_after m (d ∷ es) e = one_later m (λ k. get_or (d ∷ es) k e) (length es) ∙ run_after (step m d) es e

fits_after : (plan : PlanData) (m : Machine) (es : List Event) (e : Event) → AllFit plan m es → (k : ℕ) → k < length es → Fits plan (after_events m (λ j. get_or es j e) k) (get_or es k e)
fits_after plan m [] e all k lt = absurd (omega arith)
fits_after plan m (d ∷ es) e all zero lt = all.0
fits_after plan m (d ∷ es) e all (suc k) lt =
    subst (λ (s : Machine). Fits plan s (get_or es k e)) (sym (one_later m (λ j. get_or (d ∷ es) j e) k)) (fits_after plan (step m d) es e all.1 k (omega arith))

pub parts_are_safe : PartsMakeTasksSafe
parts_are_safe image plan switch block list needs ok parts m es e start all fits =
    let events = λ (k : ℕ). get_or es k e in
    let here =
    parts (after_events m events) events (length es) e (λ k. refl) start (fits_after plan m es e all) (subst (λ (s : Machine). Fits plan s e) (sym (run_after m es e)) fits)
    in
    safe_of image ok switch block list needs (run m es) e (subst (λ (s : Machine). HasSafeTaskParts image plan switch block (length list) needs s e) (run_after m es e) here)
