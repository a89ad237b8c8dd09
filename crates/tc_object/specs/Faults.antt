-- The first fault of a record of fixed size, at the byte offset of the field that has it.
use Rattle.std.specs.Prelude.{◌+◌, ◌&&◌, nat_lt, nat_le, if◌then◌else◌, ℕ, Bool, List, length, Option, Some, None, ◌≡◌, Result, Err}
use Rattle.tcd_base.specs.declared.errors.FormErr.{FormErr}
use Rattle.tc_object.specs.declared.relocs.Reloc.{Reloc}
use Rattle.tc_object.specs.Objects.{SectionData, SymbolData, is_valid_symbol_section, is_valid_symbol_offset, last_reloc, is_after_last_reloc, section_size_at}
use Rattle.tc_object.specs.Grammar.{is_reloc_section_ordered}
use Rattle.tc_object.specs.declared.errors.ObjErr.{ObjErr}
use Rattle.tc_object.specs.declared.errors.ObjErr.TheVariants.{Bad, NoMemory}

-- if the field isn't good, its fault of this kind and byte offset, else the next fields' fault
abbrev pub object_field_fault : Bool → ℕ → ℕ → Option FormErr → Option FormErr
object_field_fault good kind at next = if good then next else Some (record { kind = kind; at = at })

-- the first fault of a relocation: its section, offset, kind and symbol are at 0, 2, 6 and 7 from
-- its start
unfoldable pub reloc_fault : List SectionData → ℕ → List Reloc → Reloc → ℕ → Option FormErr
reloc_fault sections symbols before r start =
    object_field_fault (is_reloc_section_ordered (last_reloc before) r.section) 3 start
    (object_field_fault (nat_lt r.section (length sections)) 4 start
    (object_field_fault (is_after_last_reloc (last_reloc before) r.section r.offset) 3 start
    (object_field_fault (nat_le (r.offset + 4) (section_size_at sections r.section)) 4 (start + 2)
    (object_field_fault (nat_le 1 r.kind && nat_le r.kind 7) 4 (start + 6)
    (object_field_fault (nat_lt r.symbol symbols) 4 (start + 7) None)))))

-- the first fault of a symbol: its kind, section and offset are at 0, 1 and 3 from the end of its
-- name
unfoldable pub symbol_fault : List SectionData → SymbolData → ℕ → Option FormErr
symbol_fault sections s start =
    object_field_fault (nat_le 0 s.kind && nat_le s.kind 2) 4 start
    (object_field_fault (is_valid_symbol_section sections s.kind s.section) 4 (start + 1)
    (object_field_fault (is_valid_symbol_offset sections s.kind s.section s.offset) 4 (start + 3) None))

-- the error is the first fault of the reading; out of memory says nothing of the file
abbrev pub IsFaultOf : {A : Type 0} → Result A FormErr → ObjErr → Type 0
IsFaultOf read (Bad e) = read ≡ Err e
IsFaultOf read NoMemory = Unit {0}
