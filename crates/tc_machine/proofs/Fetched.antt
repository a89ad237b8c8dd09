-- What the machine fetches is what the image has at pc.
use Rattle.std.proofs.Common.{◌≡◌, ℕ, zero, suc, ◌+◌, ◌%◌, ◌^◌, ◌<◌, ◌≤◌, cond, List, [], ◌∷◌, ◌++◌, length, get_or, Ok, Err, Some, refl, ap, ◌∙◌, arith, add-zero}
use Rattle.std.proofs.lemmas.Bool.{eq-eqb}
use Rattle.std.specs.FinMap as map
use Rattle.csa_chain.specs.MemoryBytes.{Memory}
use Rattle.elf_image.specs.Images.{ImageData}
use Rattle.tcd_plan.specs.PlanData.{PlanData, IsPlan}
use Rattle.tc_isa.specs.Insts.{InstData}
use Rattle.tc_isa.specs.Meanings.{shape_of}
use Rattle.tc_encode.specs.Decoding.{decoded_of}
use Rattle.tc_encode.proofs.DecodeProofs.{decode_laws}
use Rattle.tc_machine.specs.declared.events.Cause.TheVariants.{NoCode}
use Rattle.tc_machine.specs.declared.state.Machine.{Machine}
use Rattle.tc_machine.specs.Fetching.{prepend_mapped_byte, mapped_bytes, fetched_shape, fetched_instruction}
use Rattle.tc_machine.specs.Safe.{SpellsAt, IsAtCode}
use Rattle.tc_mem.specs.PlanMemory.{HoldsRom}
use Rattle.tcd_base.proofs.RangeLaws.{in_one}
use Rattle.tcd_plan.proofs.ApartLaws.{rom_fits}

small_mod : (x : ℕ) → x < 2 ^ 32 → x % 2 ^ 32 ≡ x
small_mod x h = omega arith

next_place : (x i : ℕ) → x + suc i ≡ x + 1 + i
next_place x i = omega arith

-- bytes that are mapped are the first of the mapped bytes
pub mapped_bytes-front : (n : ℕ) (m : Memory) (x : ℕ) (bytes : List ℕ) → length bytes ≤ n → x + length bytes ≤ 2 ^ 32 → ((i : ℕ) → i < length bytes → map.get m (x + i) ≡ Some (get_or bytes i 0)) → (rest : List ℕ) × (mapped_bytes n m x ≡ bytes ++ rest)
unfolding mapped_bytes
mapped_bytes-front n m x [] le fits there = (mapped_bytes n m x, refl)
mapped_bytes-front zero m x (b ∷ bytes) le fits there = absurd (omega arith)
mapped_bytes-front (suc n) m x (b ∷ []) le fits there =
    (mapped_bytes n m ((x + 1) % 2 ^ 32), rw (rw add-zero at (there 0 (omega arith))) refl)
mapped_bytes-front (suc n) m x (b ∷ c ∷ bytes) le fits there =
    let more = mapped_bytes-front n m (x + 1) (c ∷ bytes) (omega arith) (omega arith) (λ i lt. rw (next_place x i) at (there (suc i) (omega arith))) in (
      more.0,
      ap (λ o. prepend_mapped_byte o (mapped_bytes n m ((x + 1) % 2 ^ 32))) (rw add-zero at (there 0 (omega arith)))
          ∙ ap (λ y. b ∷ mapped_bytes n m y) (small_mod (x + 1) (omega arith)) ∙ ap (λ bs. b ∷ bs) more.1,
    )

module _ (image : ImageData) {plan : PlanData} (ok : IsPlan plan) where
  -- the image's code is in memory
  pub code_there : (m : Machine) → HoldsRom image plan m.mem → (bytes : List ℕ) (inst : InstData) → SpellsAt image plan m.pc bytes inst → (i : ℕ) → i < length bytes → map.get m.mem (m.pc + i) ≡ Some (get_or bytes i 0)
  code_there m rom bytes inst s i lt = rom (m.pc + i) (get_or bytes i 0) (in_one m.pc (length bytes) i plan.rom lt s.in_rom) (s.held i lt)

  -- and is what the machine fetches
  pub fetched-is : (m : Machine) → HoldsRom image plan m.mem → m.pc % 2 ≡ 0 → (bytes : List ℕ) (inst : InstData) → SpellsAt image plan m.pc bytes inst → fetched_instruction m ≡ Ok (shape_of inst, length bytes)
  unfolding fetched_instruction
  fetched-is m rom even bytes inst s =
      let short = (decode_laws.lengths (bytes ++ []) inst (length bytes) (decode_laws.spelled bytes [] inst s.spelled)).1 in
      let front = mapped_bytes-front 4 m.mem m.pc bytes short (rom_fits ok m.pc (length bytes) s.in_rom) (code_there m rom bytes inst s) in
      ap (λ t. cond t (fetched_shape (decoded_of (mapped_bytes 4 m.mem m.pc))) (Err NoCode)) (eq-eqb _ _ even)
      ∙ ap (λ bs. fetched_shape (decoded_of bs)) front.1
      ∙ ap fetched_shape (decode_laws.spelled bytes front.0 inst s.spelled)

  pub IsAtCode-from : (m : Machine) → HoldsRom image plan m.mem → (bytes : List ℕ) (inst : InstData) → SpellsAt image plan m.pc bytes inst → IsAtCode image plan m
  IsAtCode-from m rom bytes inst s = record { bytes = bytes; inst = inst; spells = s; there = code_there m rom bytes inst s }
