-- The instruction at an address of an image, and what is found there.
use Rattle.std.specs.Prelude.{◌≡◌, ◌%◌, ℕ, List, length, Option, Some, None, Ok, Result, Err}
use Rattle.elf_image.specs.Images.{ImageData}
use Rattle.tcd_plan.specs.PlanData.{PlanData}
use Rattle.tc_isa.specs.Insts.{InstData}
use Rattle.tc_isa.specs.InBounds.{IsShapeInBounds}
use Rattle.tc_isa.specs.Meanings.{shape_of}
use Rattle.tc_isa.specs.declared.shapes.Shape.{Shape}
use Rattle.tc_machine.specs.Safe.{SpellsAt}
use Rattle.tc_encode.specs.Decoding.{decoded_of}
use Rattle.cfg_recover.specs.declared.local_rules.Located.{Located}
use Rattle.tc_encode.specs.declared.errors.DecodeErr.{DecodeErr}

-- An instruction of this shape and of n bytes is at p: p is even, and the bytes are in one rom
-- range and in segments of the image.
pub record IsCode (image : ImageData) (plan : PlanData) (p : ℕ) (shape : Shape) (n : ℕ) : Type 0 where
  pub even : p % 2 ≡ 0
  pub bytes : List ℕ
  pub inst : InstData
  pub spells : SpellsAt image plan p bytes inst
  pub shaped : shape_of inst ≡ shape
  pub sized : length bytes ≡ n

-- there is an instruction at the address p of the image
pub record HasCode (image : ImageData) (plan : PlanData) (p : ℕ) : Type 0 where
  pub shape : Shape
  pub size : ℕ
  pub code : IsCode image plan p shape size

-- the answer is the instruction that bytes of code begin with, and its length; none only if they
-- begin with none
abbrev pub FindsCodeInBytes : List ℕ → Option (InstData × ℕ) → Type 0
FindsCodeInBytes bytes (Some (inst, n)) = decoded_of bytes ≡ Ok (inst, n)
FindsCodeInBytes bytes None = (inst : InstData) (n : ℕ) → decoded_of bytes ≡ Ok (inst, n) → ⊥

-- the answer is the instruction at an address of the image, and its length; none only if there is
-- none
abbrev pub FindsCode : ImageData → PlanData → ℕ → Option (InstData × ℕ) → Type 0
FindsCode image plan p (Some (inst, n)) = IsCode image plan p (shape_of inst) n
FindsCode image plan p None = HasCode image plan p → ⊥

-- the answer is the shape and the size of the instruction at an address of the image; none only if
-- there is none
abbrev pub FindsShapeAndSize : ImageData → PlanData → ℕ → Option Located → Type 0
FindsShapeAndSize image plan p (Some found) = IsCode image plan p found.shape found.size
FindsShapeAndSize image plan p None = HasCode image plan p → ⊥

-- the shape of a located instruction is one that instructions have: its fields are in their bounds
abbrev pub HasShapeInBounds : Located → Type 0
HasShapeInBounds found = IsShapeInBounds found.shape

-- the shape and the size of the instruction that a decoding gives; none if the decoding fails
abbrev pub shape_and_size_of : Result (InstData × ℕ) DecodeErr → Option Located
shape_and_size_of (Ok (inst, n)) = Some (record { shape = shape_of inst; size = n })
shape_and_size_of (Err e) = None
