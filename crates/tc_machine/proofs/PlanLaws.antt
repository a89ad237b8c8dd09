-- What holds of the memory of every plan: its ranges, its save areas and their links.
use Rattle.std.proofs.Common.{◌≡◌, ◌≢◌, ℕ, zero, suc, ◌+◌, ◌*◌, ◌/◌, ◌%◌, ◌^◌, ◌<◌, ◌≤◌, ◌⊎◌, inl, inr, List, [], ◌∷◌, length, get_or, refl, sym, ap, ◌∙◌, arith}
use Rattle.std.proofs.lemmas.Bool.{cases_lt}
use Rattle.csa_chain.specs.MemoryBytes.{Memory, with_words}
use Rattle.csa_chain.specs.Chain.{link_address}
use Rattle.csa_chain.proofs.MemoryLaws.{get-with_words_other}
use Rattle.csa_chain.proofs.ChainLaws.{Avoids, Distinct, reverse_onto}
use Rattle.elf_image.specs.Images.{ImageData}
use Rattle.tcd_plan.specs.PlanData.{PlanData, IsPlan}
use Rattle.tcd_plan.proofs.ApartLaws.{rom_apart}
use Rattle.tc_machine.specs.PlanAreas.{consecutive_links, first_link}
use Rattle.tc_mem.specs.PlanMemory.{HoldsRom}

-- ---- links
pub length-links_up : (l n : ℕ) → length (consecutive_links l n) ≡ n
length-links_up l zero = refl
length-links_up l (suc n) = ap suc (length-links_up (l + 1) n)

Avoids-links_up : (k l n : ℕ) → k < l → Avoids k (consecutive_links l n)
Avoids-links_up k l zero lt = tt
Avoids-links_up k l (suc n) lt = (omega arith, Avoids-links_up k (l + 1) n (omega arith))

pub Distinct-links_up : (l n : ℕ) → Distinct (consecutive_links l n)
Distinct-links_up l zero = tt
Distinct-links_up l (suc n) = (Avoids-links_up l (l + 1) n (omega arith), Distinct-links_up (l + 1) n)

pub get_or-links_up : (l n i : ℕ) → i < n → get_or (consecutive_links l n) i 0 ≡ l + i
get_or-links_up l zero i lt = absurd (omega arith)
get_or-links_up l (suc n) zero lt = omega arith
get_or-links_up l (suc n) (suc i) lt = let e = get_or-links_up (l + 1) n i (omega arith) in omega arith

pub length-reverse_onto : (xs ys : List ℕ) → length (reverse_onto xs ys) ≡ length xs + length ys
length-reverse_onto [] ys = omega arith
length-reverse_onto (x ∷ xs) ys = let e = length-reverse_onto xs (x ∷ ys) in omega arith

zero_plus : (i : ℕ) → 0 + i ≡ i
zero_plus i = omega arith

plus_zero : (i : ℕ) → i + 0 ≡ i
plus_zero i = omega arith

suc_plus : (n i : ℕ) → suc n + i ≡ n + suc i
suc_plus n i = omega arith

get_or-reverse_onto : (xs ys : List ℕ) (i : ℕ) → get_or (reverse_onto xs ys) (length xs + i) 0 ≡ get_or ys i 0
get_or-reverse_onto [] ys i = ap (λ j. get_or ys j 0) (zero_plus i)
get_or-reverse_onto (x ∷ xs) ys i = ap (λ j. get_or (reverse_onto xs (x ∷ ys)) j 0) (suc_plus (length xs) i) ∙ get_or-reverse_onto xs (x ∷ ys) (suc i)

-- a link after those of xs is the one at that place
pub place_of : (xs ys : List ℕ) (y l n : ℕ) → reverse_onto xs (y ∷ ys) ≡ consecutive_links l n → (length xs < n) × (y ≡ l + length xs)
place_of xs ys y l n e =
    let long = length-reverse_onto xs (y ∷ ys) in
    let all : length (reverse_onto xs (y ∷ ys)) ≡ n = ap length e ∙ length-links_up l n in
    let lt : length xs < n = omega arith in
    let at : get_or (reverse_onto xs (y ∷ ys)) (length xs) 0 ≡ y = ap (λ j. get_or (reverse_onto xs (y ∷ ys)) j 0) (sym (plus_zero (length xs))) ∙ get_or-reverse_onto xs (y ∷ ys) 0 in
    (lt, sym at ∙ ap (λ zs. get_or zs (length xs) 0) e ∙ get_or-links_up l n (length xs) lt)

-- ---- the areas of a plan
area_at : (at areas i : ℕ) → at % 64 ≡ 0 → at / 2 ^ 22 % 2 ^ 6 ≡ 0 → at % 2 ^ 22 + 64 * areas ≤ 2 ^ 22 → i < areas → link_address (at / 2 ^ 28 * 2 ^ 16 + at % 2 ^ 28 / 64 + i) ≡ at + 64 * i
area_at at areas i aligned segment fits lt = omega arith

area_some : (at i : ℕ) → 0 < at → at < 2 ^ 32 → at % 64 ≡ 0 → at / 2 ^ 22 % 2 ^ 6 ≡ 0 → at / 2 ^ 28 * 2 ^ 16 + at % 2 ^ 28 / 64 + i ≢ 0
area_some at i some below aligned segment = omega arith

area_below : (at areas i : ℕ) → at < 2 ^ 32 → at / 2 ^ 22 % 2 ^ 6 ≡ 0 → at % 2 ^ 22 + 64 * areas ≤ 2 ^ 22 → i < areas → at / 2 ^ 28 * 2 ^ 16 + at % 2 ^ 28 / 64 + i < 2 ^ 20
area_below at areas i below segment fits lt = omega arith

-- the address of area i
pub link_address-area : {plan : PlanData} → IsPlan plan → (i : ℕ) → i < plan.areas → link_address (first_link plan + i) ≡ plan.csa_at + 64 * i
link_address-area {plan = plan} ok i lt = let k = ok.areas in area_at plan.csa_at plan.areas i k.aligned k.in_segment k.fit lt

-- its link isn't 0
pub some_link : {plan : PlanData} → IsPlan plan → (i : ℕ) → first_link plan + i ≢ 0
some_link {plan = plan} ok i = let k = ok.areas in area_some plan.csa_at i k.not_zero k.word k.aligned k.in_segment

-- and has 20 bits
pub link_lt : {plan : PlanData} → IsPlan plan → (i : ℕ) → i < plan.areas → first_link plan + i < 2 ^ 20
link_lt {plan = plan} ok i lt = let k = ok.areas in area_below plan.csa_at plan.areas i k.word k.in_segment k.fit lt

-- writing an area leaves rom
pub HoldsRom-written : (image : ImageData) {plan : PlanData} (mem : Memory) → IsPlan plan → (l i : ℕ) (ws : List ℕ) → l ≡ first_link plan + i → i < plan.areas → length ws ≤ 16 → HoldsRom image plan mem → HoldsRom image plan (with_words mem (link_address l) ws)
HoldsRom-written image {plan = plan} mem ok l i ws is lt long h x b rom at =
    let start : link_address l ≡ plan.csa_at + 64 * i = ap link_address is ∙ link_address-area ok i lt in
    let out : (x < link_address l) ⊎ (link_address l + 4 * length ws ≤ x) =
    elim (cases_lt x (link_address l)) [
      | inl below ↦ inl below
      | inr above ↦ elim (cases_lt x (link_address l + 64)) [
        | inl inside ↦ absurd (rom_apart ok x rom (omega arith, omega arith))
        | inr beyond ↦ inr (omega arith)
      ]
    ] in
    get-with_words_other mem (link_address l) ws x out ∙ h x b rom at
