-- Events and stores of the machine, compared with those of its view.
use Rattle.std.proofs.Common.{◌≡◌, ℕ, zero, suc, ◌+◌, ◌-◌, ◌*◌, ◌/◌, ◌%◌, ◌^◌, ◌<◌, ◌≤◌, ◌⊎◌, inl, inr, true, false, List, [], ◌∷◌, ◌++◌, length, map, Option, Some, None, Ok, Result, refl, sym, ap, ◌∙◌, subst, arith, append_assoc, All}
use Rattle.std.proofs.lemmas.Bool.{cases_Bool, cases_lt, false≢true, both_ways}
use Rattle.std.specs.Prelude.{is_some, unwrap_or}
use Rattle.std.specs.List.{slice_index_or}
use Rattle.std.specs.FinMap as finite
use Rattle.csa_chain.specs.MemoryBytes.{Memory, is_mapped, loaded_number, with_bytes}
use Rattle.elf_image.specs.Images.{ImageData}
use Rattle.tcd_base.specs.declared.range.Range.{Range}
use Rattle.tcd_plan.specs.declared.plans.Device.{Device}
use Rattle.tcd_plan.specs.PlanData.{PlanData, IsPlan, areas_range, are_all_ranges_disjoint}
use Rattle.tc_isa.specs.declared.shapes.Shape.{Shape}
use Rattle.tc_isa.specs.declared.shapes.Shape.TheVariants.{Load}
use Rattle.tc_machine.specs.declared.events.Cause.{Cause}
use Rattle.tc_machine.specs.declared.events.Event.{Event}
use Rattle.tc_machine.specs.declared.state.Machine.{Machine}
use Rattle.tc_machine.specs.Fetching.{fetched_instruction}
use Rattle.tc_machine.specs.Instructions.{access_address}
use Rattle.tc_machine.specs.Stepping.{is_interrupt_taken, load_of_fetched}
use Rattle.tcd_base.specs.Ranges.{IsWithinRange, IsInOneRange}
use Rattle.tc_machine.specs.Safe.{Fits}
use Rattle.tc_mem.specs.PlanMemory.{IsPlanMemory}
use Rattle.tcd_plan.specs.MappedAddresses.{IsStoreInRange, MayAnswerAt, MayAnswerLoad}
use Rattle.tcd_base.proofs.RangeLaws.{in_one, IsInOne-front, IsInOne-behind}
use Rattle.tcd_plan.proofs.ApartLaws.{device_ranges, IsInOne-fits, all_apart-before}
use Rattle.tc_machine.proofs.ShapeWords.{IsSize, IsShape}
use Rattle.tc_machine.proofs.Words.{load_lt}
use Rattle.value_domain.specs.declared.states.State.{State}
use Rattle.value_domain.specs.Limits.{Limits}
use Rattle.cfg_recover.proofs.CodeLaws.{IsCode-suits}
use Rattle.csa_chain.proofs.MemoryLaws.{get-with_bytes_other}
use Rattle.task_chains.specs.Tasks.{TasksData, AreTasks, block_size}
use Rattle.task_chains.specs.Views.{view_plan_of, TasksFitPlan}
use Rattle.task_chains.specs.Devices.{any_word_device, view_devices}
use Rattle.task_chains.proofs.Alike.{seen_as}
use Rattle.task_chains.proofs.Plain.{address-same}
use Rattle.task_chains.proofs.Accesses.{store_gone}
use Rattle.task_chains.proofs.ViewPlan.{ranges_of, view_store, left, rest_apart, behind_rom, behind_ram, all_left, in_devices}
use Rattle.task_chains.proofs.Outside.{Both, AtPoint, input_for, event_for}

-- a byte in rom, or in the block
abbrev pub IsKept : PlanData → TasksData → ℕ → Type 0
IsKept plan tasks y = IsInOneRange y 1 plan.rom ⊎ ((tasks.block ≤ y) × (y < tasks.block + block_size tasks))

pub size_some : (n : ℕ) → IsSize n → 0 < n
size_some n (inl e) = omega arith
size_some n (inr (inl e)) = omega arith
size_some n (inr (inr e)) = omega arith

-- ---- lists
All-append : {X : Type 0} (P : X → Type 0) (xs ys : List X) → All P xs → All P ys → All P (xs ++ ys)
All-append P [] ys h g i d lt = g i d lt
All-append P (x ∷ xs) ys h g zero d lt = h 0 d (omega arith)
All-append P (x ∷ xs) ys h g (suc i) d lt = All-append P xs ys (λ j c less. h (suc j) c (omega arith)) g i d (omega arith)

-- a byte of a peripheral's range is one of the peripherals' bytes
nth_in : (ds : List Device) (i : ℕ) (d : Device) → i < length ds → (y : ℕ) → IsWithinRange y 1 (slice_index_or ds i d).range → IsInOneRange y 1 (map (λ (d : Device). d.range) ds)
nth_in [] i d lt y h = absurd (omega arith)
nth_in (x ∷ ds) zero d lt y h = inl h
nth_in (x ∷ ds) (suc i) d lt y h = inr (nth_in ds i d (omega arith) y h)

-- a range that answers with any word
any_answer : (x w : ℕ) → w < 2 ^ 32 → (rs : List Range) → MayAnswerAt x w (map any_word_device rs)
any_answer x w lt [] i d less = absurd (omega arith)
any_answer x w lt (r ∷ rs) zero d less = λ within. (omega arith, omega arith)
any_answer x w lt (r ∷ rs) (suc i) d less = any_answer x w lt rs i d (omega arith)

-- ---- loads from outside
no_byte : (o : Option ℕ) (d : ℕ) → is_some o ≡ false → unwrap_or o d ≡ d
no_byte None d h = refl
no_byte (Some b) d h = absurd (false≢true (sym h))

-- a word is an input if none of its bytes is mapped
pub loaded_outside : (m : Memory) (input x : ℕ) → input < 2 ^ 32 → x + 4 ≤ 2 ^ 32 → ((i : ℕ) → i < 4 → is_mapped m (x + i) ≡ false) → loaded_number m input x 4 ≡ input
unfolding loaded_number
loaded_outside m input x small fits gone =
    let n1 : (x + 1) % 2 ^ 32 ≡ x + 1 = omega arith in
    let n2 : ((x + 1) % 2 ^ 32 + 1) % 2 ^ 32 ≡ x + 2 = omega arith in
    let n3 : (((x + 1) % 2 ^ 32 + 1) % 2 ^ 32 + 1) % 2 ^ 32 ≡ x + 3 = omega arith in
    let g0 : is_mapped m x ≡ false = subst (λ y. is_mapped m y ≡ false) (let e : x + 0 ≡ x = omega arith in e) (gone 0 (omega arith)) in
    let b1 : unwrap_or (finite.get m ((x + 1) % 2 ^ 32)) (input / 2 ^ 8 % 2 ^ 8) ≡ input / 2 ^ 8 % 2 ^ 8 = ap (λ y. unwrap_or (finite.get m y) (input / 2 ^ 8 % 2 ^ 8)) n1 ∙ no_byte (finite.get m (x + 1)) (input / 2 ^ 8 % 2 ^ 8) (gone 1 (omega arith)) in
    let b2 : unwrap_or (finite.get m (((x + 1) % 2 ^ 32 + 1) % 2 ^ 32)) (input / 2 ^ 8 / 2 ^ 8 % 2 ^ 8) ≡ input / 2 ^ 8 / 2 ^ 8 % 2 ^ 8 =
    ap (λ y. unwrap_or (finite.get m y) (input / 2 ^ 8 / 2 ^ 8 % 2 ^ 8)) n2 ∙ no_byte (finite.get m (x + 2)) (input / 2 ^ 8 / 2 ^ 8 % 2 ^ 8) (gone 2 (omega arith))
    in
    let b3 : unwrap_or (finite.get m ((((x + 1) % 2 ^ 32 + 1) % 2 ^ 32 + 1) % 2 ^ 32)) (input / 2 ^ 8 / 2 ^ 8 / 2 ^ 8 % 2 ^ 8) ≡ input / 2 ^ 8 / 2 ^ 8 / 2 ^ 8 % 2 ^ 8 =
    ap (λ y. unwrap_or (finite.get m y) (input / 2 ^ 8 / 2 ^ 8 / 2 ^ 8 % 2 ^ 8)) n3 ∙ no_byte (finite.get m (x + 3)) (input / 2 ^ 8 / 2 ^ 8 / 2 ^ 8 % 2 ^ 8) (gone 3 (omega arith))
    in
    (λ i. (no_byte (finite.get m x) (input % 2 ^ 8) g0) i + 2 ^ 8 * (b1 i + 2 ^ 8 * (b2 i + 2 ^ 8 * (b3 i + 2 ^ 8 * 0)))) ∙ whole input small
  where
    whole : (w : ℕ) → w < 2 ^ 32 → w % 2 ^ 8 + 2 ^ 8 * (w / 2 ^ 8 % 2 ^ 8 + 2 ^ 8 * (w / 2 ^ 8 / 2 ^ 8 % 2 ^ 8 + 2 ^ 8 * (w / 2 ^ 8 / 2 ^ 8 / 2 ^ 8 % 2 ^ 8 + 2 ^ 8 * 0))) ≡ w
    whole w lt = omega arith

module _ {plan : PlanData} (ok : IsPlan plan) (tasks : TasksData) (are : AreTasks tasks) (fit : TasksFitPlan plan tasks) (u : ℕ) where
  -- ---- where accesses lie
  abbrev devs : List Range
  devs = map (λ (d : Device). d.range) plan.devices

  fits_word : (y : ℕ) → IsInOneRange y 1 devs → y + 1 ≤ 2 ^ 32
  fits_word y at = IsInOne-fits y 1 devs (device_ranges plan.devices (ok.ranges).devices) at

  -- a byte of a peripheral isn't mapped
  device_unmapped : (mem : Memory) → IsPlanMemory plan mem → (y : ℕ) → IsInOneRange y 1 devs → is_mapped mem y ≡ false
  device_unmapped mem memory y at =
      elim (cases_Bool (is_mapped mem y)) [
        | inr gone ↦ gone
        | inl there ↦ elim ((memory y).0 there) [
          | inl rom ↦ absurd (all_apart-before y plan.rom (plan.ram ++ (devs ++ areas_range plan ∷ [])) (rest_apart ok tasks are fit) rom (IsInOne-behind y 1 plan.ram (devs ++ areas_range plan ∷ []) (IsInOne-front y 1 devs (areas_range plan ∷ []) at)))
          | inr (inl ram) ↦ absurd (all_apart-before y plan.ram (devs ++ areas_range plan ∷ []) (behind_rom ok tasks are fit) ram (IsInOne-front y 1 devs (areas_range plan ∷ []) at))
          | inr (inr a) ↦ absurd (all_apart-before y devs (areas_range plan ∷ []) (behind_ram ok tasks are fit) at (inl (a.0, (let lt = a.1 in omega arith))))
        ]
      ]

  -- in the view no byte of its peripherals is mapped, which are the plan's peripherals and what is
  -- left of ram
  view_unmapped : (mem : Memory) → IsPlanMemory (view_plan_of plan tasks u) mem → (y : ℕ) → IsInOneRange y 1 (devs ++ left ok tasks are fit) → is_mapped mem y ≡ false
  view_unmapped mem memory y at =
      elim (cases_Bool (is_mapped mem y)) [
        | inr gone ↦ gone
        | inl there ↦ elim ((memory y).0 there) [
          | inl rom ↦ absurd (all_apart-before y plan.rom ((devs ++ left ok tasks are fit) ++ areas_range plan ∷ []) (all_left ok tasks are fit) rom (IsInOne-front y 1 (devs ++ left ok tasks are fit) (areas_range plan ∷ []) at))
          | inr (inl none) ↦ absurd none
          | inr (inr a) ↦ absurd (all_apart-before y (plan.rom ++ (devs ++ left ok tasks are fit)) (areas_range plan ∷ []) (ap are_all_ranges_disjoint (append_assoc plan.rom (devs ++ left ok tasks are fit) (areas_range plan ∷ [])) ∙ all_left ok tasks are fit)
              (IsInOne-behind y 1 plan.rom (devs ++ left ok tasks are fit) at) (inl (a.0, (let lt = a.1 in omega arith))))
        ]
      ]

  in_view_range : (x n : ℕ) → IsStoreInRange (view_plan_of plan tasks u) (x, n) → IsInOneRange x n (devs ++ left ok tasks are fit)
  in_view_range x n range =
      elim range.1 [
        | inl none ↦ absurd none
        | inr at ↦ elim (in_devices plan.devices (left ok tasks are fit) x n at) [
          | inl d ↦ IsInOne-front x n devs (left ok tasks are fit) (ranges_of plan.devices x n d)
          | inr l ↦ IsInOne-behind x n devs (left ok tasks are fit) l
        ]
      ]

  -- a store in range of the view changes nothing in the view
  pub view_store_gone : (mem : Memory) → IsPlanMemory (view_plan_of plan tasks u) mem → (x n w : ℕ) → 0 < n → IsStoreInRange (view_plan_of plan tasks u) (x, n) → with_bytes mem x w n ≡ mem
  view_store_gone mem memory x n w some range =
      let fits = range.0 in
      store_gone mem n x w
      (λ i lt. subst (λ y. is_mapped mem y ≡ false) (let e : x + i ≡ (x + i) % 2 ^ 32 = omega arith in e) (view_unmapped mem memory (x + i) (in_one x n i (devs ++ left ok tasks are fit) lt (in_view_range x n range)))) (omega arith)

  -- a store in range of the view doesn't change the machine's rom or block
  pub store_keeps : (mem : Memory) (x n w : ℕ) → 0 < n → IsStoreInRange (view_plan_of plan tasks u) (x, n) → (y : ℕ) → IsKept plan tasks y → finite.get (with_bytes mem x w n) y ≡ finite.get mem y
  store_keeps mem x n w some range y kept_y =
      let s = view_store ok tasks are fit u x n some range in
      get-with_bytes_other mem x w n y range.0
      (elim kept_y [
        | inl rom ↦ elim (cases_lt y x) [
          | inl low ↦ inl low
          | inr from ↦ elim (cases_lt y (x + n)) [
            | inr high ↦ inr high
            | inl within ↦
                let there : IsInOneRange y 1 (devs ++ left ok tasks are fit) = subst (λ z. IsInOneRange z 1 (devs ++ left ok tasks are fit)) (let e : x + (y - x) ≡ y = omega arith in e) (in_one x n (y - x) (devs ++ left ok tasks are fit) (omega arith) (in_view_range x n range)) in
                absurd (all_apart-before y plan.rom ((devs ++ left ok tasks are fit) ++ areas_range plan ∷ []) (all_left ok tasks are fit) rom (IsInOne-front y 1 (devs ++ left ok tasks are fit) (areas_range plan ∷ []) there))
          ]
        ]
        | inr block ↦ let low = block.0 in let high = block.1 in elim s.1 [ inl below ↦ inr (omega arith) | inr above ↦ inl (omega arith) ]
      ])

  -- ---- the view's event fits
  module _ {image view : ImageData} {n : ℕ} {word_of : ℕ → ℕ} {chain_of : ℕ → List ℕ} {seen : List ℕ} (m : Machine) (mem : Memory) (pcxi fcx : ℕ) (k : Both image view plan tasks n u word_of chain_of seen m mem pcxi fcx) (e : Event) (fits : Fits plan m e) where
    abbrev v : Machine
    v = seen_as m mem pcxi fcx

    -- an interrupt asks nothing of the input
    pub fits_interrupt : is_interrupt_taken m e ≡ true → Fits (view_plan_of plan tasks u) v e
    fits_interrupt taken = record { irq = fits.irq; input = fits.input; status = fits.status; answers = λ none. absurd (both_ways (is_interrupt_taken m e) none taken) }

    -- a word that the view loads from a peripheral is in its bounds
    answered : (x : ℕ) → MayAnswerAt x e.input plan.devices → MayAnswerAt x (loaded_number m.mem e.input x 4) (view_devices plan tasks)
    answered x own =
        All-append (λ (d : Device). IsWithinRange x 4 d.range → (d.lo ≤ loaded_number m.mem e.input x 4) × (loaded_number m.mem e.input x 4 ≤ d.hi)) plan.devices (map any_word_device (left ok tasks are fit))
        (λ i d less within.
        let there = own i d less within in
        let lo = there.0 in
        let hi = there.1 in
        let same : loaded_number m.mem e.input x 4 ≡ e.input = from_outside (slice_index_or plan.devices i d).range within (nth_in plan.devices i d less) in
        (omega arith, omega arith))
        (any_answer x (loaded_number m.mem e.input x 4) (load_lt m.mem (k.words).bytes false e.input x 4 (inr (inr refl))) (left ok tasks are fit))
      where
        from_outside : (r : Range) → IsWithinRange x 4 r → ((y : ℕ) → IsWithinRange y 1 r → IsInOneRange y 1 devs) → loaded_number m.mem e.input x 4 ≡ e.input
        from_outside r within inside =
            let low = within.0 in
            let high = within.1 in
            loaded_outside m.mem e.input x fits.input (let top = fits_word (x + 3) (inside (x + 3) (omega arith, omega arith)) in omega arith) (λ i lt. device_unmapped m.mem k.memory (x + i) (inside (x + i) (omega arith, omega arith)))

    pub view_fits : (b : Limits) (s : State) (shape : Shape) (size : ℕ) → AtPoint b view plan tasks u v e s shape size → is_interrupt_taken m e ≡ false → fetched_instruction m ≡ Ok (shape, size) → fetched_instruction v ≡ Ok (shape, size) → Fits (view_plan_of plan tasks u) v (event_for m e shape)
    view_fits b s shape size at none here there = record {
      irq = fits.irq;
      input = input_lt shape (IsCode-suits view (view_plan_of plan tasks u) m.pc shape size at.code);
      status = fits.status;
      answers = λ _. subst (λ (r : Result (Shape × ℕ) Cause). MayAnswerLoad (view_plan_of plan tasks u) (input_for m e shape) (load_of_fetched v r)) (sym there)
          (by_shape shape (subst (λ (r : Result (Shape × ℕ) Cause). MayAnswerLoad plan e.input (load_of_fetched m r)) here (fits.answers none)));
    }
      where
        input_lt : (shape : Shape) → IsShape shape → input_for m e shape < 2 ^ 32
        input_lt (Load dst base offset width signed after) is = load_lt m.mem (k.words).bytes false e.input (access_address m base offset after) width is
        input_lt _ is = fits.input

        by_shape : (shape : Shape) → MayAnswerLoad plan e.input (load_of_fetched m (Ok (shape, size))) → MayAnswerLoad (view_plan_of plan tasks u) (input_for m e shape) (load_of_fetched v (Ok (shape, size)))
        by_shape (Load dst base offset width signed after) own =
            λ four. subst (λ w. MayAnswerAt (access_address v base offset after) (loaded_number m.mem e.input (access_address m base offset after) w) (view_devices plan tasks)) (sym four)
            (subst (λ x. MayAnswerAt x (loaded_number m.mem e.input (access_address m base offset after) 4) (view_devices plan tasks)) (sym (address-same m mem pcxi fcx e e base offset after)) (answered (access_address m base offset after) (own four)))
        by_shape _ own = tt
