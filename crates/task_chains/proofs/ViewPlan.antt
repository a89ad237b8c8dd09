-- A view's plan is a plan, and its peripherals are the plan's own and the ram that isn't the block.
use Rattle.std.proofs.Common.{◌≡◌, ℕ, ◌+◌, ◌-◌, ◌%◌, ◌<◌, ◌≤◌, ◌⊎◌, inl, inr, true, List, [], ◌∷◌, ◌++◌, map, refl, sym, ap, ◌∙◌, subst, arith, append_assoc}
use Rattle.std.proofs.lemmas.Bool.{cases_lt, and_parts, and_from}
use Rattle.std.proofs.lemmas.List.{append-nil, map-append}
use Rattle.std.proofs.lemmas.List.Folds.{list_all-append}
use Rattle.std.specs.Prelude.{max}
use Rattle.std.specs.List.{list_all}
use Rattle.tcd_base.specs.declared.range.Range.{Range}
use Rattle.tcd_plan.specs.declared.plans.Device.{Device}
use Rattle.tcd_plan.specs.PlanData.{PlanData, IsPlan, is_plan_range, is_plan_device, areas_range, are_all_ranges_disjoint}
use Rattle.tcd_base.specs.Ranges.{IsInOneRange}
use Rattle.tcd_plan.specs.MappedAddresses.{IsInDevice, IsStoreInRange}
use Rattle.tcd_plan.specs.Cutting.{ranges_outside}
use Rattle.tcd_base.proofs.RangeLaws.{in_one, IsInOne-front, IsInOne-behind}
use Rattle.tcd_plan.proofs.ApartLaws.{device_ranges, HaveBytes, HaveBytes-ranges, HaveBytes-append, all_apart-before, all_apart-behind, all_apart-front, all_apart-append}
use Rattle.tcd_plan.proofs.CutLaws.{IsInOne-parts, in_ranges_without, ranges_without_ranges, ranges_without_apart}
use Rattle.task_chains.specs.Tasks.{TasksData, AreTasks, count, block_size}
use Rattle.task_chains.specs.Views.{view_plan_of, TasksFitPlan}
use Rattle.task_chains.specs.Devices.{any_word_device, view_devices}
use Rattle.task_chains.specs.SafeTasks.{MissesBlock}

-- ---- peripherals
pub in_devices : (ds : List Device) (rs : List Range) (x n : ℕ) → IsInDevice x n (ds ++ map any_word_device rs) → IsInDevice x n ds ⊎ IsInOneRange x n rs
in_devices [] [] x n h = absurd h
in_devices [] (r ∷ rs) x n (inl here) = inr (inl here)
in_devices [] (r ∷ rs) x n (inr rest) = elim (in_devices [] rs x n rest) [ inl none ↦ absurd none | inr at ↦ inr (inr at) ]
in_devices (d ∷ ds) rs x n (inl here) = inl (inl here)
in_devices (d ∷ ds) rs x n (inr rest) = elim (in_devices ds rs x n rest) [ inl at ↦ inl (inr at) | inr at ↦ inr at ]

pub ranges_of : (ds : List Device) (x n : ℕ) → IsInDevice x n ds → IsInOneRange x n (map (λ (d : Device). d.range) ds)
ranges_of [] x n h = h
ranges_of (d ∷ ds) x n (inl h) = inl h
ranges_of (d ∷ ds) x n (inr h) = inr (ranges_of ds x n h)

any_devices : (rs : List Range) → list_all is_plan_range rs ≡ true → list_all is_plan_device (map any_word_device rs) ≡ true
any_devices [] h = refl
any_devices (r ∷ rs) h = let p = and_parts (is_plan_range r) (list_all is_plan_range rs) h in and_from _ _ (and_from _ _ (and_from _ _ p.0 refl) refl) (any_devices rs p.1)

ranges_of_any : (rs : List Range) → map (λ (d : Device). d.range) (map any_word_device rs) ≡ rs
ranges_of_any [] = refl
ranges_of_any (r ∷ rs) = ap (λ ss. r ∷ ss) (ranges_of_any rs)

-- ---- the plan
module _ {plan : PlanData} (ok : IsPlan plan) (tasks : TasksData) (are : AreTasks tasks) (fit : TasksFitPlan plan tasks) where
  abbrev pub dev : List Range
  dev = map (λ (d : Device). d.range) plan.devices

  abbrev pub left : List Range
  left = ranges_outside tasks.block (block_size tasks) plan.ram

  pub rest_apart : are_all_ranges_disjoint (plan.rom ++ (plan.ram ++ (dev ++ areas_range plan ∷ []))) ≡ true
  rest_apart = sym (ap are_all_ranges_disjoint (append_assoc (plan.rom ++ plan.ram) dev (areas_range plan ∷ []) ∙ append_assoc plan.rom plan.ram (dev ++ areas_range plan ∷ []))) ∙ ok.apart

  pub behind_rom : are_all_ranges_disjoint (plan.ram ++ (dev ++ areas_range plan ∷ [])) ≡ true
  behind_rom = all_apart-behind plan.rom (plan.ram ++ (dev ++ areas_range plan ∷ [])) rest_apart

  pub behind_ram : are_all_ranges_disjoint (dev ++ areas_range plan ∷ []) ≡ true
  behind_ram = all_apart-behind plan.ram (dev ++ areas_range plan ∷ []) behind_rom

  whole_block : block_size tasks % 4 ≡ 0
  whole_block = omega arith

  left_range : list_all is_plan_range left ≡ true
  left_range = ranges_without_ranges tasks.block (block_size tasks) are.whole whole_block plan.ram (ok.ranges).ram

  pub in_left : (y : ℕ) → IsInOneRange y 1 left → IsInOneRange y 1 plan.ram
  in_left y h = (in_ranges_without tasks.block (block_size tasks) plan.ram y 1 h).0

  areas_have : HaveBytes (areas_range plan ∷ [])
  areas_have = (let some = (ok.areas).some in omega arith, tt)

  dev_have : HaveBytes dev
  dev_have = HaveBytes-ranges dev (device_ranges plan.devices (ok.ranges).devices)

  -- rom, then the peripherals, the ram that is left, and the areas
  pub all_left : are_all_ranges_disjoint (plan.rom ++ ((dev ++ left) ++ areas_range plan ∷ [])) ≡ true
  all_left =
      let left_have = HaveBytes-ranges left left_range in
      let dev_left = all_apart-append dev left dev_have left_have (all_apart-front dev (areas_range plan ∷ []) behind_ram)
      (ranges_without_apart tasks.block (block_size tasks) are.whole whole_block plan.ram (ok.ranges).ram (all_apart-front plan.ram (dev ++ areas_range plan ∷ []) behind_rom))
      (λ y a b. all_apart-before y plan.ram (dev ++ areas_range plan ∷ []) behind_rom (in_left y b) (IsInOne-front y 1 dev (areas_range plan ∷ []) a)) in
      let with_areas = all_apart-append (dev ++ left) (areas_range plan ∷ []) (HaveBytes-append dev left dev_have left_have) areas_have dev_left refl
      (λ y a c. elim (IsInOne-parts y 1 dev left a) [
        | inl d ↦ all_apart-before y dev (areas_range plan ∷ []) behind_ram d c
        | inr l ↦ all_apart-before y plan.ram (dev ++ areas_range plan ∷ []) behind_rom (in_left y l) (IsInOne-behind y 1 dev (areas_range plan ∷ []) c)
      ]) in
      all_apart-append plan.rom ((dev ++ left) ++ areas_range plan ∷ []) (HaveBytes-ranges plan.rom (ok.ranges).rom) (HaveBytes-append (dev ++ left) (areas_range plan ∷ []) (HaveBytes-append dev left dev_have left_have) areas_have)
      (all_apart-front plan.rom (plan.ram ++ (dev ++ areas_range plan ∷ [])) rest_apart) with_areas
      (λ y r h. elim (IsInOne-parts y 1 (dev ++ left) (areas_range plan ∷ []) h) [
        | inl a ↦ elim (IsInOne-parts y 1 dev left a) [
          | inl d ↦ all_apart-before y plan.rom (plan.ram ++ (dev ++ areas_range plan ∷ [])) rest_apart r (IsInOne-behind y 1 plan.ram (dev ++ areas_range plan ∷ []) (IsInOne-front y 1 dev (areas_range plan ∷ []) d))
          | inr l ↦ all_apart-before y plan.rom (plan.ram ++ (dev ++ areas_range plan ∷ [])) rest_apart r (IsInOne-front y 1 plan.ram (dev ++ areas_range plan ∷ []) (in_left y l))
        ]
        | inr c ↦ all_apart-before y plan.rom (plan.ram ++ (dev ++ areas_range plan ∷ [])) rest_apart r (IsInOne-behind y 1 plan.ram (dev ++ areas_range plan ∷ []) (IsInOne-behind y 1 dev (areas_range plan ∷ []) c))
      ])

  pub device_list : map (λ (d : Device). d.range) (view_devices plan tasks) ≡ dev ++ left
  device_list = map-append (λ (d : Device). d.range) plan.devices (map any_word_device left) ∙ ap (λ rs. dev ++ rs) (ranges_of_any left)

  pub view_is_plan : (u : ℕ) → u < count tasks → IsPlan (view_plan_of plan tasks u)
  view_is_plan u lt = record {
    ranges = record {
      some = (ok.ranges).some;
      few_rom = (ok.ranges).few_rom;
      few_ram = omega arith;
      few_devices = fit.room;
      rom = (ok.ranges).rom;
      ram = refl;
      devices = list_all-append is_plan_device plan.devices (map any_word_device left) ∙ and_from _ _ (ok.ranges).devices (any_devices left left_range);
      small_rom = (ok.ranges).small_rom;
      small_ram = omega arith;
    };
    areas = record {
      some = (ok.areas).some;
      few = (ok.areas).few;
      reserved = (ok.areas).reserved;
      reserve_within = (ok.areas).reserve_within;
      word = (ok.areas).word;
      not_zero = (ok.areas).not_zero;
      aligned = (ok.areas).aligned;
      in_segment = (ok.areas).in_segment;
      fit = (ok.areas).fit;
    };
    words = record {
      sp = (are.words u (record { entry = 0; sp = 0 }) lt).1;
      isp = (ok.words).isp;
      biv = (ok.words).biv;
      btv = (ok.words).btv;
      even_biv = (ok.words).even_biv;
      even_btv = (ok.words).even_btv;
      ccpn = (ok.words).ccpn;
      four = (ok.words).four;
      globals = (ok.words).globals;
    };
    irqs = ok.irqs;
    apart = ap are_all_ranges_disjoint (ap (λ rs. (rs ++ map (λ (d : Device). d.range) (view_devices plan tasks)) ++ areas_range plan ∷ []) (append-nil plan.rom) ∙ ap (λ rs. (plan.rom ++ rs) ++ areas_range plan ∷ []) device_list ∙ append_assoc plan.rom (dev ++ left) (areas_range plan ∷ [])) ∙ all_left;
  }

  -- ---- stores
  -- addresses inside a peripheral of the view are inside a peripheral of the plan, or in ram; and
  -- they miss the block
  pub view_store : (u x n : ℕ) → 0 < n → IsStoreInRange (view_plan_of plan tasks u) (x, n) → IsStoreInRange plan (x, n) × MissesBlock tasks (x, n)
  view_store u x n some range =
      elim range.1 [
        | inl none ↦ absurd none
        | inr at ↦ elim (in_devices plan.devices left x n at) [
          | inl device ↦ ((range.0, inr device), device_misses device)
          | inr ram ↦ let p = in_ranges_without tasks.block (block_size tasks) plan.ram x n ram in ((range.0, inl p.0), p.1)
        ]
      ]
    where
      device_misses : IsInDevice x n plan.devices → (x + n ≤ tasks.block) ⊎ (tasks.block + block_size tasks ≤ x)
      device_misses device =
          elim (cases_lt tasks.block (x + n)) [
            | inr before ↦ inl before
            | inl over ↦ elim (cases_lt x (tasks.block + block_size tasks)) [
              | inr behind ↦ inr behind
              | inl within ↦
                  let y = max x tasks.block in
                  let d : IsInOneRange y 1 dev = subst (λ z. IsInOneRange z 1 dev) (let e : x + (y - x) ≡ y = omega arith in e) (in_one x n (y - x) dev (omega arith) (ranges_of plan.devices x n device)) in
                  let r : IsInOneRange y 1 plan.ram = subst (λ z. IsInOneRange z 1 plan.ram) (let e : tasks.block + (y - tasks.block) ≡ y = omega arith in e) (in_one tasks.block (block_size tasks) (y - tasks.block) plan.ram (omega arith) fit.in_ram) in
                  absurd (all_apart-before y plan.ram (dev ++ areas_range plan ∷ []) behind_rom r (IsInOne-front y 1 dev (areas_range plan ∷ []) d))
            ]
          ]
