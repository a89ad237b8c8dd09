-- Fewer addresses give fewer words.
use Rattle.std.proofs.Common.{◌≡◌, ℕ, zero, suc, ◌+◌, ◌*◌, ◌^◌, ◌<◌, ◌≤◌, inl, inr, Bool, true, cond, List, [], ◌∷◌, ◌++◌, map, length, length-append, Option, Some, None, refl, sym, ap, ◌∙◌, subst, arith, eqb, append_assoc}
use Rattle.std.specs.List.{find, list_all, list_any, flat_map}
use Rattle.std.proofs.lemmas.Bool.{cases_Bool, and_parts, eqb-true, ltb-true}
use Rattle.std.proofs.lemmas.Nat.{pow-add}
use Rattle.elf_image.specs.Images.{ImageData, image_byte}
use Rattle.elf_image.proofs.ReadBytes.{byte_lt}
use Rattle.tcd_base.specs.declared.range.Range.{Range}
use Rattle.tcd_plan.specs.declared.plans.Device.{Device}
use Rattle.tcd_plan.specs.PlanData.{PlanData, IsPlan, are_all_ranges_disjoint, areas_range, is_plan_device}
use Rattle.tcd_base.specs.Ranges.{IsWithinRange, IsInOneRange, is_within_range}
use Rattle.tcd_plan.specs.MappedAddresses.{IsInDevice}
use Rattle.value_domain.specs.declared.values.Val.{Val}
use Rattle.value_domain.specs.declared.values.Val.TheVariants.{Set, Span}
use Rattle.value_domain.specs.Sets.{Among, AreAmong}
use Rattle.value_domain.specs.Limits.{Limits}
use Rattle.value_domain.specs.Values.{IsInLattice, IsBelow, multiples_in_range}
use Rattle.value_domain.proofs.SetLaws.{distinct-rising, length-distinct}
use Rattle.value_domain.proofs.CoverLaws.{cover_mono, range_among, among_member, member_among}
use Rattle.value_domain.proofs.ExtentLaws.{among_append, many_span}
use Rattle.value_domain.proofs.RangeLaws.{set_value, some_members}
use Rattle.value_domain.proofs.Loops.{among_get}
use Rattle.tcd_base.proofs.RangeLaws.{in_one, IsInOne-front, within_true}
use Rattle.store_ranges.specs.Loads.{all_loaded_words, answers_to_load, device_of_loads, loaded_words_at, number_in_image, load_value_of, loaded_word_or_answers, rom_number}
use Rattle.store_ranges.specs.Laws.{LoadsAreMonotone}
use Rattle.store_ranges.proofs.Covers.{anything_has}
use Rattle.store_ranges.proofs.Finds.{found_true, found_all, found_device}
use Rattle.store_ranges.proofs.LoadLaws.{all_at, all_from, answers_some, among_flat, device_bounds}
use Rattle.store_ranges.proofs.RomLaws.{any_one}
use Rattle.store_ranges.proofs.Sound.{device_apart, extended-word, held_parts, in_ranges, one_more_byte}
use Rattle.tcd_plan.proofs.ApartLaws.{all_apart-before, all_apart-behind}

-- the bytes of the image are bytes
abbrev HasImageBytes : ImageData → Type 0
HasImageBytes image = (x b : ℕ) → image_byte image x ≡ Some b → b < 2 ^ 8

-- ---- no word is new
flat_among : (f : ℕ → List ℕ) (z : ℕ) (ws : List ℕ) → Among z (flat_map f ws) → (x : ℕ) × Among x ws × Among z (f x)
flat_among f z [] i = absurd i
flat_among f z (w ∷ ws) i =
    elim (among_append z (f w) (flat_map f ws) i) [
      | inl j ↦ (w, inl refl, j)
      | inr j ↦ let rest = flat_among f z ws j in (rest.0, inr rest.1, rest.2)
    ]

-- a number in rom has its size
held_lt : (image : ImageData) → HasImageBytes image → (x n w : ℕ) → number_in_image image x n ≡ Some w → w < 2 ^ (8 * n)
unfolding number_in_image
held_lt image bytes x zero w e = let f : 0 ≡ w = let g : Some 0 ≡ Some w = e in cc in omega arith
held_lt image bytes x (suc n) w e =
    let h = held_parts (image_byte image x) (number_in_image image (x + 1) n) w e in
    let rest = held_lt image bytes (x + 1) n h.1 h.3 in
    let s : 8 * suc n ≡ 8 + 8 * n = omega arith in
    let p : 2 ^ (8 * suc n) ≡ 2 ^ 8 * 2 ^ (8 * n) = ap (λ k. 2 ^ k) s ∙ pow-add 2 8 (8 * n) in
    let lt = one_more_byte n h.0 h.1 (2 ^ (8 * n)) refl (bytes x h.0 h.2) rest in
    subst (λ q. w < q) (sym p) (subst (λ y. y < 2 ^ 8 * 2 ^ (8 * n)) h.4 lt)

rom_lt : (image : ImageData) (plan : PlanData) → HasImageBytes image → (x n w : ℕ) → rom_number image plan x n ≡ Some w → w < 2 ^ (8 * n)
rom_lt image plan bytes x n w e =
    elim (cases_Bool (list_any (is_within_range x n) plan.rom)) [
      | inl t ↦ held_lt image bytes x n w (rw t at e)
      | inr f ↦ absurd (let g : None ≡ Some w = rw f at e in cc)
    ]

module _ (plan : PlanData) (ok : IsPlan plan) where
  only_words : (size : ℕ) (xs : List ℕ) (d : Device) → device_of_loads plan size xs ≡ Some d → (size ≡ 4) × (find (λ d. list_all (λ x. is_within_range x 4 d.range) xs) plan.devices ≡ Some d)
  only_words size xs d e =
      elim (cases_Bool (eqb size 4)) [
        | inl four ↦ (eqb-true size 4 four, rw four at e)
        | inr other ↦ absurd (let f : None ≡ Some d = rw other at e in cc)
      ]

  -- what a peripheral may answer is a word
  answers_within : (size : ℕ) (signed : Bool) (xs : List ℕ) (o : Option Device) → device_of_loads plan size xs ≡ o → AreAmong (answers_to_load size signed o) (all_loaded_words size signed)
  answers_within size signed xs None e z i = i
  answers_within size signed xs (Some d) e z i =
      let found = only_words size xs d e in
      let is = found_all _ is_plan_device plan.devices d ok.ranges.devices found.1 in
      let below : d.hi < 2 ^ 32 = ltb-true d.hi (2 ^ 32) (and_parts _ _ is).1 in
      let m = range_among z d.lo d.hi 0 (omega arith) i in
      let small : z < 2 ^ 32 = let le : z ≤ d.hi = m.1 in omega arith in
      subst (λ n. Among z (all_loaded_words n signed)) (sym found.0) (subst (λ (y : ℕ). Among y (all_loaded_words 4 signed)) (extended-word signed z small) (anything_has 4 signed z small))

  given_within : (image : ImageData) → HasImageBytes image → (size : ℕ) (signed : Bool) (x : ℕ) (o : Option ℕ) → rom_number image plan x size ≡ o
      → AreAmong (loaded_word_or_answers size signed (device_of_loads plan size (x ∷ [])) o) (all_loaded_words size signed)
  given_within image bytes size signed x None e z i = answers_within size signed (x ∷ []) (device_of_loads plan size (x ∷ [])) refl z i
  given_within image bytes size signed x (Some w) e z i =
      elim i [
        | inl is ↦ subst (λ (y : ℕ). Among y (all_loaded_words size signed)) (sym is) (anything_has size signed w (rom_lt image plan bytes x size w e))
        | inr none ↦ absurd none
      ]

  answers_more : (size : ℕ) (signed : Bool) (xs : List ℕ) → 1 ≤ length (answers_to_load size signed (device_of_loads plan size xs))
  answers_more size signed xs = more (device_of_loads plan size xs) refl
    where
      more : (o : Option Device) → device_of_loads plan size xs ≡ o → 1 ≤ length (answers_to_load size signed o)
      more None e = answers_some size signed None tt
      more (Some d) e = answers_some size signed (Some d) (device_bounds plan _ (Some d) ok (sym (only_words size xs d e).1))

  given_more : (image : ImageData) (size : ℕ) (signed : Bool) (x : ℕ) (o : Option ℕ) → 1 ≤ length (loaded_word_or_answers size signed (device_of_loads plan size (x ∷ [])) o)
  given_more image size signed x None = answers_more size signed (x ∷ [])
  given_more image size signed x (Some w) = omega arith

-- ---- one peripheral
-- a peripheral that is found with more accesses is found with fewer
found_fewer : (p q : Device → Bool) (x : ℕ) (rest : List Range) (ds : List Device) (d : Device) → are_all_ranges_disjoint (map (λ d. d.range) ds ++ rest) ≡ true
    → ((c : Device) → q c ≡ true → p c ≡ true) → ((c : Device) → p c ≡ true → IsWithinRange x 1 c.range) → find q ds ≡ Some d → find p ds ≡ Some d
found_fewer p q x rest [] d apart narrow at e = absurd (let f : None ≡ Some d = e in cc)
found_fewer p q x rest (c ∷ ds) d apart narrow at e =
    elim (cases_Bool (q c)) [
      | inl yes_q ↦
          let here : find q (c ∷ ds) ≡ Some c = rw yes_q refl in
          let there : find p (c ∷ ds) ≡ Some c = rw (narrow c yes_q) refl in
          there ∙ sym here ∙ e
      | inr no_q ↦
          let later : find q ds ≡ Some d = rw no_q at e in
          elim (cases_Bool (p c)) [
            | inl yes_p ↦
                let other : IsInDevice x 1 ds = found_device q ds d x 1 later (at d (narrow d (found_true q ds d later))) in
                absurd (all_apart-before x (c.range ∷ []) (map (λ d. d.range) ds ++ rest) apart (inl (at c yes_p)) (IsInOne-front x 1 (map (λ d. d.range) ds) rest (in_ranges x 1 ds other)))
            | inr no_p ↦
                let skip : find p (c ∷ ds) ≡ find p ds = rw no_p refl in
                skip ∙ found_fewer p q x rest ds d (and_parts _ _ apart).1 narrow at later
          ]
    ]

module _ (plan : PlanData) (ok : IsPlan plan) where
  device_fewer : (size : ℕ) (xs ys : List ℕ) (d : Device) (x : ℕ) → Among x xs → AreAmong xs ys → device_of_loads plan size ys ≡ Some d → device_of_loads plan size xs ≡ Some d
  device_fewer size xs ys d x i there e =
      let found = only_words plan ok size ys d e in
      let devices = map (λ d. d.range) plan.devices in
      let apart : are_all_ranges_disjoint (devices ++ areas_range plan ∷ []) ≡ true =
      all_apart-behind (plan.rom ++ plan.ram) (devices ++ areas_range plan ∷ []) (sym (ap are_all_ranges_disjoint (append_assoc (plan.rom ++ plan.ram) devices (areas_range plan ∷ []))) ∙ ok.apart)
      in
      let fewer : find (λ d. list_all (λ x. is_within_range x 4 d.range) xs) plan.devices ≡ Some d =
      found_fewer (λ d. list_all (λ x. is_within_range x 4 d.range) xs) (λ d. list_all (λ x. is_within_range x 4 d.range) ys) x (areas_range plan ∷ []) plan.devices d apart
      (λ c t. all_from 4 c.range xs (λ z j. all_at 4 c.range ys z t (there z j)))
      (λ c t. let w = within_true x 4 c.range (all_at 4 c.range xs x t i) in (w.0, omega (arith, w.1)))
      found.1
      in
      ap (λ n. cond (eqb n 4) (find (λ d. list_all (λ x. is_within_range x 4 d.range) xs) plan.devices) None) found.0 ∙ fewer

  -- rom has no access of a peripheral
  no_rom : (image : ImageData) (size : ℕ) (x : ℕ) (ys : List ℕ) (d : Device) → Among x ys → device_of_loads plan size ys ≡ Some d → rom_number image plan x size ≡ None
  no_rom image size x ys d i e =
      let found = only_words plan ok size ys d e in
      elim (cases_Bool (list_any (is_within_range x size) plan.rom)) [
        | inl t ↦
            let w = within_true x 4 d.range (all_at 4 d.range ys x (found_true _ plan.devices d found.1) i) in
            let device : IsInDevice x 1 plan.devices = found_device _ plan.devices d x 1 found.1 (w.0, omega (arith, w.1)) in
            let first : IsInOneRange (x + 0) 1 plan.rom = in_one x size 0 plan.rom (omega (arith, found.0)) (any_one x size plan.rom t) in
            let same : x + 0 ≡ x = omega arith in
            absurd (device_apart plan x ok device (inl (subst (λ (y : ℕ). IsInOneRange y 1 plan.rom) same first)))
        | inr f ↦ rw f refl
      ]

  module _ (image : ImageData) (bytes : HasImageBytes image) (size : ℕ) (signed : Bool) where
    -- what an address gives is among what a Span that has it gives
    given_answers : (x : ℕ) (ys : List ℕ) (o : Option Device) → Among x ys → device_of_loads plan size ys ≡ o → AreAmong (loaded_words_at image plan size signed x) (answers_to_load size signed o)
    given_answers x ys None i e z j = given_within plan ok image bytes size signed x (rom_number image plan x size) refl z j
    given_answers x ys (Some d) i e z j =
        let rom = no_rom image size x ys d i e in
        let device = device_fewer size (x ∷ []) ys d x (inl refl) (λ y k. elim k [ inl is ↦ subst (λ (u : ℕ). Among u ys) (sym is) i | inr none ↦ absurd none ]) e in
        let at_rom : Among z (loaded_word_or_answers size signed (device_of_loads plan size (x ∷ [])) None) = subst (λ (n : Option ℕ). Among z (loaded_word_or_answers size signed (device_of_loads plan size (x ∷ [])) n)) rom j in
        subst (λ (n : Option Device). Among z (answers_to_load size signed n)) device at_rom

    answers_answers : (xs ys : List ℕ) (x : ℕ) (o : Option Device) → Among x xs → AreAmong xs ys → device_of_loads plan size ys ≡ o → AreAmong (answers_to_load size signed (device_of_loads plan size xs)) (answers_to_load size signed o)
    answers_answers xs ys x None i there e z j = answers_within plan ok size signed xs (device_of_loads plan size xs) refl z j
    answers_answers xs ys x (Some d) i there e z j = subst (λ (n : Option Device). Among z (answers_to_load size signed n)) (device_fewer size xs ys d x i there e) j

    flat_some : (ws : List ℕ) → 1 ≤ length ws → 1 ≤ length (flat_map (loaded_words_at image plan size signed) ws)
    flat_some [] some = absurd (omega arith)
    flat_some (w ∷ ws) some =
        let f = loaded_words_at image plan size signed in
        omega (arith, length-append (f w) (flat_map f ws), given_more plan ok image size signed w (rom_number image plan w size))

    grow : (b : Limits) (v w : Val) → IsInLattice b v → IsInLattice b w → IsBelow v w → IsBelow (load_value_of b image plan v size signed) (load_value_of b image plan w size signed)
    grow b (Set vs) (Set ws) vv vw below =
        cover_mono b (flat_map (loaded_words_at image plan size signed) vs) (flat_map (loaded_words_at image plan size signed) ws) (flat_some vs vv.well.some)
        (λ z i. let x = flat_among (loaded_words_at image plan size signed) z vs i in among_flat (loaded_words_at image plan size signed) x.0 z ws (below x.0 x.1) x.2)
    grow b (Set vs) (Span lo last step) vv vw below =
        cover_mono b (flat_map (loaded_words_at image plan size signed) vs) (answers_to_load size signed (device_of_loads plan size (multiples_in_range lo last step))) (flat_some vs vv.well.some)
        (λ z i.
        let x = flat_among (loaded_words_at image plan size signed) z vs i in
        given_answers x.0 (multiples_in_range lo last step) (device_of_loads plan size (multiples_in_range lo last step)) (among_member (Span lo last step) x.0 vw.well.0 (below x.0 x.1)) refl z x.2)
    grow b (Span lo last step) (Set ws) vv vw below =
        absurd (let long = many_span b lo last step vv in
        let short = (set_value b ws vw.well).1 vw in
        let inside = length-distinct (multiples_in_range lo last step) ws (λ z i. below z (member_among (Span lo last step) z vv.well.0 i)) in
        let inside2 = rw (distinct-rising ws vw.well.rising) at inside in
        omega arith)
    grow b (Span lo last step) (Span lo2 last2 step2) vv vw below =
        let xs = multiples_in_range lo last step in
        let ys = multiples_in_range lo2 last2 step2 in
        cover_mono b (answers_to_load size signed (device_of_loads plan size xs)) (answers_to_load size signed (device_of_loads plan size ys)) (answers_more plan ok size signed xs)
        (answers_answers xs ys _ (device_of_loads plan size ys) (among_get xs 0 (some_members (Span lo last step) vv.well))
        (λ z i. among_member (Span lo2 last2 step2) z vw.well.0 (below z (member_among (Span lo last step) z vv.well.0 i))) refl)

pub loads_grow : LoadsAreMonotone
loads_grow b image plan v w size signed ok whole is vv vw below = grow plan ok image (λ x y. byte_lt image.segments x y whole.bytes) size signed b v w vv vw below
