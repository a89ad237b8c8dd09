-- The parts of sections that relocations don't change.
use Rattle.std.specs.Prelude.{ℕ, List, length}
use Rattle.tc_object.specs.Objects.{SectionData}

-- the name and the length of a section
pub record SectionShape : Type 0 where
  pub name : List ℕ
  pub size : ℕ

-- the name and the length of a section
abbrev pub section_shape : SectionData → SectionShape
section_shape s = record { name = s.name; size = length s.bytes }
