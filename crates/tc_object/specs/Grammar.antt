-- The grammar of object files: fields read from left to right, and the first fault.
-- The kinds of faults are SHORT (any field) to TRAILING of tcd_base, 1 to 6.
use Rattle.std.specs.Prelude.{◌+◌, ◌==◌, ◌&&◌, not, nat_lt, nat_le, if◌then◌else◌, ℕ, Bool, List, length, Result, Ok, true, Option, Some, None, []}
use Rattle.tcd_base.specs.declared.errors.FormErr.{FormErr}
use Rattle.tcd_base.specs.Place.{Place}
use Rattle.tcd_base.specs.FieldReaders.{◌>>=◌, u8_at, u16_at, u32_at, field_bytes_at, many_fields_at, field_fault_at}
use Rattle.tc_object.specs.declared.relocs.Reloc.{Reloc}
use Rattle.tc_object.specs.Names.{is_name_length, is_object_name}
use Rattle.tc_object.specs.Objects.{SectionData, SymbolData, ObjectData, is_section_name, is_symbol_name, section_size_at, is_valid_symbol_section, is_valid_symbol_offset, last_reloc, is_after_last_reloc}

-- ---- fields
-- what was read, and the place after, if the test holds; else the fault of this kind at this place
abbrev pub checked_object_field : {A : Type 0} → ℕ → Bool → Place → A × Place → Result (A × Place) FormErr
checked_object_field kind good p x = if good then Ok x else field_fault_at kind p

-- ---- names: a field with the length, and a field with the bytes
-- the length of a name, from 1 to 64, read at this place of an object file
unfoldable pub name_length_at : Place → Result (ℕ × Place) FormErr
name_length_at p = u8_at p >>= λ n. checked_object_field 4 (is_name_length n.0) p n

-- the bytes of a name of this length, read at this place of an object file
unfoldable pub name_bytes_at : ℕ → Place → Result (List ℕ × Place) FormErr
name_bytes_at n p = field_bytes_at n p >>= λ name. checked_object_field 4 (is_object_name name.0) p name

-- a name that isn't used yet, read at this place of an object file; the fault of a used one is at
-- its bytes
unfoldable pub new_object_name_at : (List ℕ → Bool) → Place → Result (List ℕ × Place) FormErr
new_object_name_at is_used p = name_length_at p >>= λ n. name_bytes_at n.0 n.1 >>= λ name. checked_object_field 4 (not (is_used name.0)) n.1 name

-- ---- sections
-- a section read at this place of an object file, with a name that isn't used yet: name, length,
-- and bytes
unfoldable pub section_with_new_name : (List ℕ → Bool) → Place → Result (SectionData × Place) FormErr
section_with_new_name is_used p =
    new_object_name_at is_used p >>= λ name. u32_at name.1 >>= λ len. field_bytes_at len.0 len.1 >>= λ bytes. Ok (record { name = name.0; bytes = bytes.0 }, bytes.1)

-- the next section of an object file, read at this place; the name of an earlier section is a fault
unfoldable pub new_section_at : List SectionData → Place → Result (SectionData × Place) FormErr
new_section_at before p = section_with_new_name (is_section_name before) p

-- ---- symbols
-- the kind of a symbol or of a relocation, from low to high, read at this place of an object file
unfoldable pub kind_at : ℕ → ℕ → Place → Result (ℕ × Place) FormErr
kind_at low high p = u8_at p >>= λ k. checked_object_field 4 (nat_le low k.0 && nat_le k.0 high) p k

-- a symbol's section, read at this place: 0 if undefined, else a number of the object's sections
unfoldable pub symbol_section_at : List SectionData → ℕ → Place → Result (ℕ × Place) FormErr
symbol_section_at sections kind p = u16_at p >>= λ s. checked_object_field 4 (is_valid_symbol_section sections kind s.0) p s

-- a symbol's offset, read at this place: 0 if undefined, else within its section or at its end
unfoldable pub symbol_offset_at : List SectionData → ℕ → ℕ → Place → Result (ℕ × Place) FormErr
symbol_offset_at sections kind section p = u32_at p >>= λ o. checked_object_field 4 (is_valid_symbol_offset sections kind section o.0) p o

-- what follows a symbol's name in an object file: its kind, section and offset
unfoldable pub symbol_after_name : List SectionData → List ℕ → Place → Result (SymbolData × Place) FormErr
symbol_after_name sections name p =
    kind_at 0 2 p >>= λ kind. symbol_section_at sections kind.0 kind.1 >>= λ section.
    symbol_offset_at sections kind.0 section.0 section.1 >>= λ offset.
    Ok (record { name = name; kind = kind.0; section = section.0; offset = offset.0 }, offset.1)

-- a symbol read at this place of an object file; a name that is used already is a fault
unfoldable pub symbol_with_new_name : List SectionData → (List ℕ → Bool) → Place → Result (SymbolData × Place) FormErr
symbol_with_new_name sections is_used p = new_object_name_at is_used p >>= λ name. symbol_after_name sections name.0 name.1

-- the next symbol of an object file, read at this place; the name of an earlier symbol is a fault
unfoldable pub new_symbol_at : List SectionData → List SymbolData → Place → Result (SymbolData × Place) FormErr
new_symbol_at sections before p = symbol_with_new_name sections (is_symbol_name before) p

-- in the grammar of relocations: the number of the section that is read isn't below that of the
-- last relocation, if there is one
abbrev pub is_reloc_section_ordered : Option Reloc → ℕ → Bool
is_reloc_section_ordered None section = true
is_reloc_section_ordered (Some r) section = nat_le r.section section

-- ---- relocations
-- a relocation's section, read at this place; one below that of the last relocation is out of
-- order, whatever the offset
unfoldable pub reloc_section_at : List SectionData → List Reloc → Place → Result (ℕ × Place) FormErr
reloc_section_at sections before p =
    u16_at p >>= λ s. checked_object_field 3 (is_reloc_section_ordered (last_reloc before) s.0) p s >>= λ s. checked_object_field 4 (nat_lt s.0 (length sections)) p s

-- a relocation's offset; the fault of a wrong order is at start, the place of its section field
unfoldable pub reloc_offset_at : List SectionData → List Reloc → ℕ → Place → Place → Result (ℕ × Place) FormErr
reloc_offset_at sections before section start p =
    u32_at p >>= λ o. checked_object_field 3 (is_after_last_reloc (last_reloc before) section o.0) start o >>= λ o. checked_object_field 4 (nat_le (o.0 + 4) (section_size_at sections section)) p o

-- a relocation's symbol, read at this place of an object file: a number below that of the symbols
unfoldable pub reloc_symbol_at : ℕ → Place → Result (ℕ × Place) FormErr
reloc_symbol_at symbols p = u16_at p >>= λ s. checked_object_field 4 (nat_lt s.0 symbols) p s

-- the relocation after these, read at this place: section, offset, kind, symbol and addend
unfoldable pub next_reloc_at : List SectionData → ℕ → List Reloc → Place → Result (Reloc × Place) FormErr
next_reloc_at sections symbols before p =
    reloc_section_at sections before p >>= λ section. reloc_offset_at sections before section.0 p section.1 >>= λ offset. kind_at 1 7 offset.1 >>= λ kind.
    reloc_symbol_at symbols kind.1 >>= λ symbol. u32_at symbol.1 >>= λ addend.
    Ok (record { section = section.0; offset = offset.0; kind = kind.0; symbol = symbol.0; addend = addend.0 }, addend.1)

-- ---- objects
-- the magic bytes of an object file, 54 43 4F 31
unfoldable pub magic_at : Place → Result (ℕ × Place) FormErr
magic_at p = u32_at p >>= λ magic. checked_object_field 2 (magic.0 == 0x314F4354) p magic

-- the number of sections, at most 64, read at this place of an object file
unfoldable pub section_count_at : Place → Result (ℕ × Place) FormErr
section_count_at p = u16_at p >>= λ n. checked_object_field 5 (nat_le n.0 64) p n

-- n sections, m symbols and k relocations, read one after another from this place of an object file
unfoldable pub object_contents_at : ℕ → ℕ → ℕ → Place → Result (ObjectData × Place) FormErr
object_contents_at n m k p =
    many_fields_at new_section_at n [] p >>= λ sections. many_fields_at (new_symbol_at sections.0) m [] sections.1 >>= λ symbols. many_fields_at (next_reloc_at sections.0 m) k [] symbols.1 >>= λ relocs.
    Ok (record { sections = sections.0; symbols = symbols.0; relocs = relocs.0 }, relocs.1)

-- an object: the magic bytes, the numbers of sections, symbols and relocations, and all of them
unfoldable pub object_at : Place → Result (ObjectData × Place) FormErr
object_at p =
    magic_at p >>= λ magic. section_count_at magic.1 >>= λ n. u16_at n.1 >>= λ m. u16_at m.1 >>= λ k. object_contents_at n.0 m.0 k.0 k.1

-- the object that the bytes spell, or their first fault
unfoldable pub object_of : List ℕ → Result ObjectData FormErr
object_of bytes = object_at (record { bytes = bytes; place = 0 }) >>= λ o. if o.1.place == length bytes then Ok o.0 else field_fault_at 6 o.1
