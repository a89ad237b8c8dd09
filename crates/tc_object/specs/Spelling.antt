-- The one spelling of an object.
use Rattle.std.specs.Prelude.{ℕ, List, ◌∷◌, ◌++◌, length}
use Rattle.std.specs.List.{flat_map}
use Rattle.tcd_base.specs.Bytes.{bytes_of_half, bytes_of_word}
use Rattle.tc_object.specs.declared.relocs.Reloc.{Reloc}
use Rattle.tc_object.specs.Objects.{SectionData, SymbolData, ObjectData}

-- a name in an object file: the length, and the bytes
unfoldable pub bytes_of_name : List ℕ → List ℕ
bytes_of_name name = length name ∷ name

-- a section in an object file: its name, the length of its bytes, and the bytes
unfoldable pub bytes_of_section : SectionData → List ℕ
bytes_of_section s = bytes_of_name s.name ++ (bytes_of_word (length s.bytes) ++ s.bytes)

-- a symbol in an object file: its name, its kind, its section, and its offset
unfoldable pub bytes_of_symbol : SymbolData → List ℕ
bytes_of_symbol s = bytes_of_name s.name ++ (s.kind ∷ bytes_of_half s.section ++ bytes_of_word s.offset)

-- a relocation in an object file: its section, offset, kind, symbol, and addend
unfoldable pub bytes_of_reloc : Reloc → List ℕ
bytes_of_reloc r = bytes_of_half r.section ++ (bytes_of_word r.offset ++ (r.kind ∷ bytes_of_half r.symbol ++ bytes_of_word r.addend))

-- the header of an object file: the magic word, and the numbers of sections, symbols and
-- relocations
unfoldable pub bytes_of_header : ObjectData → List ℕ
bytes_of_header o = bytes_of_word 0x314F4354 ++ (bytes_of_half (length o.sections) ++ (bytes_of_half (length o.symbols) ++ bytes_of_half (length o.relocs)))

-- the object file: the header, the sections, the symbols, and the relocations
unfoldable pub bytes_of_object : ObjectData → List ℕ
bytes_of_object o = bytes_of_header o ++ (flat_map bytes_of_section o.sections ++ (flat_map bytes_of_symbol o.symbols ++ flat_map bytes_of_reloc o.relocs))
