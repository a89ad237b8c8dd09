-- The file of an image: the ELF header, a program header for each segment, and the segments' bytes
-- without gaps.
use Rattle.std.specs.Prelude.{ℕ, ◌+◌, ◌*◌, List, [], ◌∷◌, ◌++◌, length}
use Rattle.std.specs.Int.{w16, w32, to_le_bytes}
use Rattle.std.specs.List.{flat_map}
use Rattle.elf_image.specs.Images.{ImageData, SegmentData}

-- the two bytes of a number, the least significant first
abbrev pub elf_half_bytes : ℕ → List ℕ
elf_half_bytes n = to_le_bytes w16 n

-- the four bytes of a number, the least significant first
abbrev pub elf_word_bytes : ℕ → List ℕ
elf_word_bytes n = to_le_bytes w32 n

-- e_ident: ELF's magic bytes, ELFCLASS32, ELFDATA2LSB and EV_CURRENT
abbrev pub elf_ident : List ℕ
elf_ident = 127 ∷ 69 ∷ 76 ∷ 70 ∷ 1 ∷ 1 ∷ 1 ∷ 0 ∷ 0 ∷ 0 ∷ 0 ∷ 0 ∷ 0 ∷ 0 ∷ 0 ∷ 0 ∷ []

-- the ELF header of a written file: e_ident; e_type ET_EXEC, e_machine 44, e_version; e_entry,
-- e_phoff, e_shoff, e_flags; e_ehsize, e_phentsize, e_phnum, e_shentsize, e_shnum and e_shstrndx
unfoldable pub elf_header : ℕ → ℕ → List ℕ
elf_header entry count =
    elf_ident ++ elf_half_bytes 2 ++ elf_half_bytes 44 ++ elf_word_bytes 1 ++ elf_word_bytes entry ++ elf_word_bytes 52 ++ elf_word_bytes 0 ++ elf_word_bytes 0
    ++ elf_half_bytes 52 ++ elf_half_bytes 32 ++ elf_half_bytes count ++ elf_half_bytes 0 ++ elf_half_bytes 0 ++ elf_half_bytes 0

-- the program header of a segment in a written file: p_type PT_LOAD, p_offset, p_vaddr, p_paddr;
-- p_filesz, p_memsz, p_flags (readable and executable), p_align
unfoldable pub program_header : ℕ → ℕ → ℕ → List ℕ
program_header offset at len =
    elf_word_bytes 1 ++ elf_word_bytes offset ++ elf_word_bytes at ++ elf_word_bytes at ++ elf_word_bytes len ++ elf_word_bytes len ++ elf_word_bytes 5 ++ elf_word_bytes 1

-- the program headers of segments whose bytes begin at this offset of the file
unfoldable pub program_headers : ℕ → List SegmentData → List ℕ
program_headers offset [] = []
program_headers offset (s ∷ ss) =
    program_header offset s.at (length s.bytes) ++ program_headers (offset + length s.bytes) ss

-- the offset of the segments' bytes in a written file: after the ELF header and the program headers
abbrev pub elf_contents_offset : List SegmentData → ℕ
elf_contents_offset ss = 52 + 32 * length ss

-- the bytes of all segments, one segment after another
unfoldable pub elf_contents : List SegmentData → List ℕ
elf_contents ss = flat_map (λ s. s.bytes) ss

-- the file: the ELF header, the program headers, and the segments' bytes
unfoldable pub elf_file : ImageData → List ℕ
elf_file i =
    elf_header i.entry (length i.segments)
    ++ (program_headers (elf_contents_offset i.segments) i.segments ++ elf_contents i.segments)
