-- The value that a load from the members of a value gives.
use Rattle.std.specs.Prelude.{◌<◌, ◌+◌, ◌-◌, ◌*◌, ◌^◌, ◌==◌, ◌&&◌, ℕ, zero, suc, Bool, List, [], ◌∷◌, map, find, if◌then◌else◌, Option, Some, None, IsSome, option_and_then}
use Rattle.std.specs.List.{list_all, list_any, flat_map}
use Rattle.std.specs.Option.{option_map}
use Rattle.csa_chain.specs.MemoryBytes.{Memory, loaded_number, load_result, HasOnlyBytes}
use Rattle.elf_image.specs.Images.{ImageData, image_byte}
use Rattle.tcd_plan.specs.declared.plans.Device.{Device}
use Rattle.tcd_plan.specs.PlanData.{PlanData}
use Rattle.tcd_base.specs.Ranges.{IsInOneRange, is_within_range}
use Rattle.tc_mem.specs.PlanMemory.{IsPlanMemory, HoldsRom}
use Rattle.value_domain.specs.declared.values.Val.{Val}
use Rattle.value_domain.specs.declared.values.Val.TheVariants.{Set, Span}
use Rattle.value_domain.specs.Limits.{Limits}
use Rattle.value_domain.specs.Values.{IsMember, cover, multiples_in_range}
use Rattle.tcd_plan.specs.MappedAddresses.{MayAnswerLoad}

-- the n bytes from x on are in one rom range and held by segments of the image
pub record IsLoadedRom (image : ImageData) (plan : PlanData) (x n : ℕ) : Type 0 where
  pub in_rom : IsInOneRange x n plan.rom
  pub held : (i : ℕ) → i < n → IsSome (image_byte image (x + i))

-- the number that a load gets from the image's n bytes from x on, the lowest byte first, if its
-- segments hold them
unfoldable pub number_in_image : ImageData → ℕ → ℕ → Option ℕ
number_in_image image x zero = Some 0
number_in_image image x (suc n) = option_and_then (λ b. option_map (λ w. b + 2 ^ 8 * w) (number_in_image image (x + 1) n)) (image_byte image x)

-- the number that a load gets from n bytes at x, if one rom range and segments hold them; else none
abbrev pub rom_number : ImageData → PlanData → ℕ → ℕ → Option ℕ
rom_number image plan x n = if list_any (is_within_range x n) plan.rom then number_in_image image x n else None

-- the first of these peripherals whose range holds an access of n bytes both at low and at high
abbrev pub first_device_holding : List Device → ℕ → ℕ → ℕ → Option Device
first_device_holding devices low high n = find (λ d. is_within_range low n d.range && is_within_range high n d.range) devices

-- the first peripheral whose range holds a word at each address; None for accesses of other sizes
abbrev pub device_of_loads : PlanData → ℕ → List ℕ → Option Device
device_of_loads plan size xs = if size == 4 then find (λ d. list_all (λ x. is_within_range x 4 d.range) xs) plan.devices else None

-- all words that a load of this size and sign can write to its register
abbrev pub all_loaded_words : ℕ → Bool → List ℕ
all_loaded_words size signed = map (load_result signed size) (multiples_in_range 0 (2 ^ (8 * size) - 1) 0)

-- the words that a peripheral can answer; without a peripheral, all words of that size and sign
abbrev pub answers_to_load : ℕ → Bool → Option Device → List ℕ
answers_to_load size signed None = all_loaded_words size signed
answers_to_load size signed (Some d) = multiples_in_range d.lo d.hi 0

-- the words that a load gives: the extended number, if that is known, else what the peripheral can
-- answer
abbrev pub loaded_word_or_answers : ℕ → Bool → Option Device → Option ℕ → List ℕ
loaded_word_or_answers size signed device None = answers_to_load size signed device
loaded_word_or_answers size signed device (Some w) = load_result signed size w ∷ []

-- what an address gives: the word in rom, else what the peripheral can answer, else any word
abbrev pub loaded_words_at : ImageData → PlanData → ℕ → Bool → ℕ → List ℕ
loaded_words_at image plan size signed x = loaded_word_or_answers size signed (device_of_loads plan size (x ∷ [])) (rom_number image plan x size)

-- The least value that holds what the loads from all members give. For a Span that is what one
-- peripheral answers if all accesses are in its range, else any word.
abbrev pub load_value_of : Limits → ImageData → PlanData → Val → ℕ → Bool → Val
load_value_of b image plan (Set ws) size signed = cover b (flat_map (loaded_words_at image plan size signed) ws)
load_value_of b image plan (Span lo last step) size signed = cover b (answers_to_load size signed (device_of_loads plan size (multiples_in_range lo last step)))

-- the value v holds each word that a load from a member of `at` gives, in the plan's memory with
-- the image's bytes in rom, and with a peripheral's input within its bounds
abbrev pub HoldsLoadedWords : ImageData → PlanData → Val → ℕ → Bool → Val → Type 0
HoldsLoadedWords image plan at size signed v =
    (mem : Memory) (x input : ℕ) → HasOnlyBytes mem → IsPlanMemory plan mem → HoldsRom image plan mem → input < 2 ^ 32
    → MayAnswerLoad plan input (Some (x, size)) → IsMember x at → IsMember (load_result signed size (loaded_number mem input x size)) v
