-- nop16 is the two bytes 00 00, and changes nothing.
use Rattle.std.proofs.Common.{◌≡◌, ℕ, zero, suc, ◌+◌, ◌%◌, ◌<◌, [], ◌∷◌, Some, refl, ap, ◌∙◌, arith}
use Rattle.std.specs.Prelude.{slice_index}
use Rattle.elf_image.specs.Images.{ImageData, image_byte}
use Rattle.tcd_base.specs.Ranges.{IsInOneRange}
use Rattle.tcd_plan.specs.PlanData.{PlanData}
use Rattle.tc_isa.specs.declared.shapes.Shape.TheVariants.{Nothing}
use Rattle.tc_isa.specs.Forms.{field_bounds}
use Rattle.tc_isa.specs.Spelling.{word_of_fields}
use Rattle.tc_isa.specs.Insts.{InstData, IsInst}
use Rattle.tc_isa.specs.Meanings.{shape_of}
use Rattle.cfg_recover.specs.Code.{IsCode}

abbrev nop16 : InstData
nop16 = record { row = 111; c = 0; s1 = 0; s2 = 0; n = 0; k = 0 }

pub nop16_there : (image : ImageData) (plan : PlanData) (p : ℕ) → p % 2 ≡ 0 → IsInOneRange p 2 plan.rom → image_byte image p ≡ Some 0 → image_byte image (p + 1) ≡ Some 0 → IsCode image plan p Nothing 2
unfolding field_bounds shape_of word_of_fields
nop16_there image plan p even rom first second =
    let is : IsInst nop16 = record { row = _; at = refl; fits = record { below = record { c = omega arith; s1 = omega arith; s2 = omega arith; n = omega arith; k = omega arith }; zero = refl; apart = refl } } in
    record {
      even = even;
      bytes = 0 ∷ 0 ∷ [];
      inst = nop16;
      spells = record { spelled = record { inst = is; is = refl }; in_rom = rom; held = held };
      shaped = refl;
      sized = refl;
    }
  where
    held : (i : ℕ) → i < 2 → image_byte image (p + i) ≡ Some (slice_index (0 ∷ 0 ∷ []) i)
    held zero h = let e : p + 0 ≡ p = omega arith in ap (λ (x : ℕ). image_byte image x) e ∙ first
    held (suc zero) h = second
    held (suc (suc i)) h = absurd (omega arith)
