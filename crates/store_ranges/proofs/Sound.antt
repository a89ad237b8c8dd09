-- What the machine loads is among what a load may give.
use Rattle.std.proofs.Common.{◌≡◌, ℕ, zero, suc, ◌+◌, ◌-◌, ◌*◌, ◌/◌, ◌%◌, ◌^◌, ◌<◌, ◌≤◌, inl, inr, Bool, true, false, cond, List, [], ◌∷◌, ◌++◌, map, Option, Some, None, refl, sym, ap, ◌∙◌, subst, arith, eqb, append_assoc}
use Rattle.std.specs.Prelude.{All, is_some, unwrap_or, option_and_then}
use Rattle.std.specs.Option.{option_map}
use Rattle.std.specs.List.{find, list_all, list_any, flat_map}
use Rattle.std.specs.FinMap as map
use Rattle.std.proofs.lemmas.Bool.{cases_Bool, eqb-true, lt-ltb, le-ltb, cases_lt}
use Rattle.std.proofs.lemmas.Nat.{pow-add}
use Rattle.csa_chain.specs.MemoryBytes.{Memory, loaded_number, load_result, HasOnlyBytes}
use Rattle.elf_image.specs.Images.{ImageData, image_byte}
use Rattle.tcd_plan.specs.declared.plans.Device.{Device}
use Rattle.tcd_plan.specs.PlanData.{PlanData, IsPlan, are_all_ranges_disjoint, areas_range, is_plan_device}
use Rattle.tcd_base.specs.Ranges.{IsWithinRange, IsInOneRange, is_within_range}
use Rattle.tcd_plan.specs.MappedAddresses.{IsInDevice, IsMappedBy, MayAnswerAt}
use Rattle.tc_mem.specs.PlanMemory.{IsPlanMemory, HoldsRom}
use Rattle.value_domain.specs.declared.values.Val.{Val}
use Rattle.value_domain.specs.declared.values.Val.TheVariants.{Set}
use Rattle.value_domain.specs.Sets.{Among}
use Rattle.value_domain.specs.Limits.{Limits}
use Rattle.value_domain.specs.Values.{IsWellFormed, cover, members, multiples_in_range}
use Rattle.value_domain.proofs.CoverLaws.{cover_holds, among_range, among_member, has_step}
use Rattle.tcd_base.proofs.RangeLaws.{in_one, IsInOne-front, IsInOne-behind, within_true}
use Rattle.store_ranges.specs.Loads.{HoldsLoadedWords, answers_to_load, device_of_loads, loaded_words_at, number_in_image, loaded_word_or_answers, rom_number}
use Rattle.store_ranges.proofs.Covers.{anything_has}
use Rattle.store_ranges.proofs.Finds.{found_all, found_true, found_device}
use Rattle.store_ranges.proofs.LoadLaws.{all_at, among_flat}
use Rattle.store_ranges.proofs.RomLaws.{any_one, any_fits}
use Rattle.store_ranges.proofs.StoreLaws.{device_fits}
use Rattle.tcd_plan.proofs.ApartLaws.{all_apart-before}

-- ---- loads of n bytes
mod_small : (x : ℕ) → x < 2 ^ 32 → x % 2 ^ 32 ≡ x
mod_small x h = omega arith

byte_lt : (o : Option ℕ) (d : ℕ) → ((b : ℕ) → o ≡ Some b → b < 2 ^ 8) → d < 2 ^ 8 → unwrap_or o d < 2 ^ 8
byte_lt None d each h = h
byte_lt (Some b) d each h = each b refl

pub one_more_byte : (n b l p : ℕ) → p ≡ 2 ^ (8 * n) → b < 2 ^ 8 → l < p → b + 2 ^ 8 * l < 2 ^ 8 * p
one_more_byte n b l p e byte below = omega arith

pub loaded_lt : (mem : Memory) → HasOnlyBytes mem → (input x n : ℕ) → loaded_number mem input x n < 2 ^ (8 * n)
unfolding loaded_number
loaded_lt mem bytes input x zero = omega arith
loaded_lt mem bytes input x (suc n) =
    let byte = byte_lt (map.get mem x) (input % 2 ^ 8) (bytes x) (omega arith) in
    let rest = loaded_lt mem bytes (input / 2 ^ 8) ((x + 1) % 2 ^ 32) n in
    let e : 8 * suc n ≡ 8 + 8 * n = omega arith in
    let p : 2 ^ (8 * suc n) ≡ 2 ^ 8 * 2 ^ (8 * n) = ap (λ k. 2 ^ k) e ∙ pow-add 2 8 (8 * n) in
    subst (λ q. unwrap_or (map.get mem x) (input % 2 ^ 8) + 2 ^ 8 * loaded_number mem (input / 2 ^ 8) ((x + 1) % 2 ^ 32) n < q) (sym p)
    (one_more_byte n _ _ (2 ^ (8 * n)) refl byte rest)

-- ---- rom
pub held_parts : (o p : Option ℕ) (w : ℕ) → option_and_then (λ b. option_map (λ w. b + 2 ^ 8 * w) p) o ≡ Some w → (b : ℕ) × (v : ℕ) × (o ≡ Some b) × (p ≡ Some v) × (b + 2 ^ 8 * v ≡ w)
held_parts None p w e = absurd (let g : None ≡ Some w = e in cc)
held_parts (Some b) None w e = absurd (let g : None ≡ Some w = e in cc)
held_parts (Some b) (Some v) w e = (b, v, refl, refl, (let g : Some (b + 2 ^ 8 * v) ≡ Some w = e in cc))

-- addresses below 2^32 don't wrap
loaded-place : (mem : Memory) (input x n : ℕ) → x + n ≤ 2 ^ 32 → loaded_number mem input (x % 2 ^ 32) n ≡ loaded_number mem input x n
unfolding loaded_number
loaded-place mem input x zero fits = refl
loaded-place mem input x (suc n) fits = ap (λ y. loaded_number mem input y (suc n)) (mod_small x (omega arith))

-- bytes that memory has from the image make the image's number
pub loaded-held : (image : ImageData) (mem : Memory) (input x n w : ℕ) → x + n ≤ 2 ^ 32 → ((y b : ℕ) → x ≤ y → y < x + n → image_byte image y ≡ Some b → map.get mem y ≡ Some b)
    → number_in_image image x n ≡ Some w → loaded_number mem input x n ≡ w
unfolding loaded_number number_in_image
loaded-held image mem input x zero w fits there e = cc
loaded-held image mem input x (suc n) w fits there e =
    let h = held_parts (image_byte image x) (number_in_image image (x + 1) n) w e in
    let byte : map.get mem x ≡ Some h.0 = there x h.0 (omega arith) (omega arith) h.2 in
    let rest = loaded-held image mem (input / 2 ^ 8) (x + 1) n h.1 (omega arith) (λ y b low high. there y b (omega arith) (omega arith)) h.3 in
    ap (λ o. unwrap_or o (input % 2 ^ 8) + 2 ^ 8 * loaded_number mem (input / 2 ^ 8) ((x + 1) % 2 ^ 32) n) byte
    ∙ ap (λ l. h.0 + 2 ^ 8 * l) (loaded-place mem (input / 2 ^ 8) (x + 1) n (omega arith) ∙ rest)
    ∙ h.4

-- ---- peripherals
-- no byte of a peripheral's range is mapped
pub in_ranges : (x n : ℕ) (ds : List Device) → IsInDevice x n ds → IsInOneRange x n (map (λ d. d.range) ds)
in_ranges x n [] i = i
in_ranges x n (d ∷ ds) (inl w) = inl w
in_ranges x n (d ∷ ds) (inr i) = inr (in_ranges x n ds i)

pub device_apart : (plan : PlanData) (y : ℕ) → IsPlan plan → IsInDevice y 1 plan.devices → IsMappedBy plan y → ⊥
device_apart plan y ok i mapped =
    let devices = map (λ d. d.range) plan.devices in
    let device = in_ranges y 1 plan.devices i in
    let apart : are_all_ranges_disjoint ((plan.rom ++ plan.ram) ++ (devices ++ areas_range plan ∷ [])) ≡ true =
    sym (ap are_all_ranges_disjoint (append_assoc (plan.rom ++ plan.ram) devices (areas_range plan ∷ []))) ∙ ok.apart
    in
    elim mapped [
      | inl rom ↦ all_apart-before y (plan.rom ++ plan.ram) (devices ++ areas_range plan ∷ []) apart (IsInOne-front y 1 plan.rom plan.ram rom) (IsInOne-front y 1 devices (areas_range plan ∷ []) device)
      | inr (inl ram) ↦ all_apart-before y (plan.rom ++ plan.ram) (devices ++ areas_range plan ∷ []) apart (IsInOne-behind y 1 plan.rom plan.ram ram) (IsInOne-front y 1 devices (areas_range plan ∷ []) device)
      | inr (inr areas) ↦
          let within : IsWithinRange y 1 (areas_range plan) = (areas.0, (let lt = areas.1 in omega arith)) in
          all_apart-before y (plan.rom ++ plan.ram ++ devices) (areas_range plan ∷ []) ok.apart (IsInOne-behind y 1 (plan.rom ++ plan.ram) devices device) (inl within)
    ]

none_there : (o : Option ℕ) → (is_some o ≡ true → ⊥) → o ≡ None
none_there None h = refl
none_there (Some b) h = absurd (h refl)

pub unmapped : (plan : PlanData) (mem : Memory) (y : ℕ) → IsPlan plan → IsPlanMemory plan mem → IsInDevice y 1 plan.devices → map.get mem y ≡ None
unmapped plan mem y ok memory i = none_there (map.get mem y) (λ t. device_apart plan y ok i ((memory y).0 t))

four_none : (o0 o1 o2 o3 : Option ℕ) (i : ℕ) → i < 2 ^ 32 → o0 ≡ None → o1 ≡ None → o2 ≡ None → o3 ≡ None
    → unwrap_or o0 (i % 2 ^ 8) + 2 ^ 8 * (unwrap_or o1 (i / 2 ^ 8 % 2 ^ 8) + 2 ^ 8 * (unwrap_or o2 (i / 2 ^ 8 / 2 ^ 8 % 2 ^ 8) + 2 ^ 8 * (unwrap_or o3 (i / 2 ^ 8 / 2 ^ 8 / 2 ^ 8 % 2 ^ 8) + 2 ^ 8 * 0))) ≡ i
four_none o0 o1 o2 o3 i h e0 e1 e2 e3 = rw (e0, e1, e2, e3) (omega arith)

-- a load of four bytes that aren't mapped gives the input
pub loaded-input : (mem : Memory) (input x : ℕ) → input < 2 ^ 32 → x + 4 ≤ 2 ^ 32 → ((y : ℕ) → x ≤ y → y < x + 4 → map.get mem y ≡ None) → loaded_number mem input x 4 ≡ input
unfolding loaded_number
loaded-input mem input x small fits none =
    let p1 : (x + 1) % 2 ^ 32 ≡ x + 1 = omega arith in
    let p2 : ((x + 1) % 2 ^ 32 + 1) % 2 ^ 32 ≡ x + 2 = omega arith in
    let p3 : (((x + 1) % 2 ^ 32 + 1) % 2 ^ 32 + 1) % 2 ^ 32 ≡ x + 3 = omega arith in
    four_none _ _ _ _ input small (none x (omega arith) (omega arith)) (ap (map.get mem) p1 ∙ none (x + 1) (omega arith) (omega arith))
    (ap (map.get mem) p2 ∙ none (x + 2) (omega arith) (omega arith)) (ap (map.get mem) p3 ∙ none (x + 3) (omega arith) (omega arith))

-- a word is its own extension
pub extended-word : (signed : Bool) (w : ℕ) → w < 2 ^ 32 → load_result signed 4 w ≡ w
extended-word false w below = refl
extended-word true w below = elim (cases_lt w (2 ^ 31)) [
  | inl low ↦ rw (lt-ltb w (2 ^ 31) low) refl
  | inr high ↦ rw (le-ltb w (2 ^ 31) high) (omega arith)
]

-- what holds of all peripherals holds of the one that is found
found_each : (P : Device → Type 0) (p : Device → Bool) (ds : List Device) (d : Device) → All P ds → find p ds ≡ Some d → P d
found_each P p [] d all e = absurd (let f : None ≡ Some d = e in cc)
found_each P p (c ∷ ds) d all e =
    elim (p c) as (λ b. cond b (Some c) (find p ds) ≡ Some d → P d) [
      | true ↦ λ h. let same : c ≡ d = cc in subst P same (all 0 c (omega arith))
      | false ↦ λ h. found_each P p ds d (λ k e lt. all (suc k) e (omega arith)) h
    ] e

-- ---- what the machine loads
module _ (image : ImageData) (plan : PlanData) (ok : IsPlan plan) (mem : Memory) (bytes : HasOnlyBytes mem) (memory : IsPlanMemory plan mem) (rom : HoldsRom image plan mem) where
  -- from a peripheral
  device_has : (input x : ℕ) (signed : Bool) (p : Device → Bool) (d : Device) → input < 2 ^ 32 → MayAnswerAt x input plan.devices → find p plan.devices ≡ Some d → IsWithinRange x 4 d.range
      → Among (load_result signed 4 (loaded_number mem input x 4)) (multiples_in_range d.lo d.hi 0)
  device_has input x signed p d small answer found w =
      let fits = device_fits d (found_all p is_plan_device plan.devices d ok.ranges.devices found) in
      let none : (y : ℕ) → x ≤ y → y < x + 4 → map.get mem y ≡ None =
      λ y low high. unmapped plan mem y ok memory (found_device p plan.devices d y 1 found (omega (arith, w.0), omega (arith, w.1)))
      in
      let is : load_result signed 4 (loaded_number mem input x 4) ≡ input =
      ap (load_result signed 4) (loaded-input mem input x small (omega (arith, w.1)) none) ∙ extended-word signed input small
      in
      let bounds = found_each (λ (e : Device). IsWithinRange x 4 e.range → (e.lo ≤ input) × (input ≤ e.hi)) p plan.devices d answer found w in
      subst (λ (z : ℕ). Among z (multiples_in_range d.lo d.hi 0)) (sym is) (among_range input d.lo d.hi 0 (omega arith) (bounds.0, bounds.1, omega arith))

  answers_has : (input x size : ℕ) (signed : Bool) (xs : List ℕ) (o : Option Device) → input < 2 ^ 32 → (size ≡ 4 → MayAnswerAt x input plan.devices) → Among x xs → device_of_loads plan size xs ≡ o
      → Among (load_result signed size (loaded_number mem input x size)) (answers_to_load size signed o)
  answers_has input x size signed xs None small answer i e = anything_has size signed (loaded_number mem input x size) (loaded_lt mem bytes input x size)
  answers_has input x size signed xs (Some d) small answer i e =
      elim (cases_Bool (eqb size 4)) [
        | inl four ↦
            let is : size ≡ 4 = eqb-true size 4 four in
            let found : find (λ d. list_all (λ x. is_within_range x 4 d.range) xs) plan.devices ≡ Some d = rw four at e in
            let w = within_true x 4 d.range (all_at 4 d.range xs x (found_true _ plan.devices d found) i) in
            subst (λ n. Among (load_result signed n (loaded_number mem input x n)) (multiples_in_range d.lo d.hi 0)) (sym is) (device_has input x signed _ d small (answer is) found w)
        | inr other ↦ absurd (let f : None ≡ Some d = rw other at e in cc)
      ]

  -- from an address
  given_has : (input x size : ℕ) (signed : Bool) (o : Option ℕ) → input < 2 ^ 32 → (size ≡ 4 → MayAnswerAt x input plan.devices) → rom_number image plan x size ≡ o
      → Among (load_result signed size (loaded_number mem input x size)) (loaded_word_or_answers size signed (device_of_loads plan size (x ∷ [])) o)
  given_has input x size signed None small answer e = answers_has input x size signed (x ∷ []) (device_of_loads plan size (x ∷ [])) small answer (inl refl) refl
  given_has input x size signed (Some w) small answer e =
      elim (cases_Bool (list_any (is_within_range x size) plan.rom)) [
        | inl t ↦
            let held : number_in_image image x size ≡ Some w = rw t at e in
            let there : (y b : ℕ) → x ≤ y → y < x + size → image_byte image y ≡ Some b → map.get mem y ≡ Some b =
            λ y b low high is.
            let at : x + (y - x) ≡ y = omega arith in
            rom y b (subst (λ (z : ℕ). IsInOneRange z 1 plan.rom) at (in_one x size (y - x) plan.rom (omega arith) (any_one x size plan.rom t))) is
            in
            inl (ap (load_result signed size) (loaded-held image mem input x size w (any_fits plan x size ok t) there held))
        | inr f ↦ absurd (let g : None ≡ Some w = rw f at e in cc)
      ]

pub set_sound : (b : Limits) (image : ImageData) (plan : PlanData) (ws : List ℕ) (size : ℕ) (signed : Bool) → IsPlan plan → HoldsLoadedWords image plan (Set ws) size signed (cover b (flat_map (loaded_words_at image plan size signed) ws))
set_sound b image plan ws size signed ok mem x input bytes memory rom small answer i =
    cover_holds b (flat_map (loaded_words_at image plan size signed) ws) _
    (among_flat (loaded_words_at image plan size signed) x _ ws i (given_has image plan ok mem bytes memory rom input x size signed (rom_number image plan x size) small answer refl))

pub span_sound : (b : Limits) (image : ImageData) (plan : PlanData) (v : Val) (size : ℕ) (signed : Bool) → IsPlan plan → IsWellFormed v → HoldsLoadedWords image plan v size signed (cover b (answers_to_load size signed (device_of_loads plan size (members v))))
span_sound b image plan v size signed ok well mem x input bytes memory rom small answer m =
    cover_holds b (answers_to_load size signed (device_of_loads plan size (members v))) _
    (answers_has image plan ok mem bytes memory rom input x size signed (members v) (device_of_loads plan size (members v)) small answer (among_member v x (has_step v well) m) refl)
