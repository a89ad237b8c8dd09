-- The code's types as plain data.
use Rattle.std.specs.Prelude.{◌++◌, map, replicate}
use Rattle.tc_stmt.specs.Items.{reference_of}
use Rattle.tc_asm.specs.declared.sections.Use.{Use}
use Rattle.tc_asm.specs.declared.sections.Part.{Part}
use Rattle.tc_asm.specs.Drafts.{UseData, DraftSectionData}

-- the plain data of a use of a symbol
abbrev pub use_of : Use → UseData
use_of u = record { offset = u.offset; reference = reference_of u.reference }

-- the plain data of a section; the zeros at the end of its bytes are only counted
abbrev pub draft_section_of : Part → DraftSectionData
draft_section_of p = record { name = p.name.now; bytes = p.bytes.items ++ replicate p.zeros 0; uses = map use_of p.uses.items }
