-- Executable ELF files for this machine: 32 bits, least significant byte first (ELF specification).
use Rattle.std.specs.Prelude.{◌≡◌, ℕ, ◌+◌, ◌*◌, ◌^◌, List, [], ◌∷◌, length, map, take, drop, filter, find, sum_by, Bool, not, ◌&&◌, ◌||◌, ◌==◌, nat_lt, nat_eq, if◌then◌else◌, Option, Some, None, Result, Ok, Err, slice_index}
use Rattle.std.specs.Bool.{then_some}
use Rattle.std.specs.Option.{option_or, option_map}
use Rattle.std.specs.List.{range_with_len, starts_with}
use Rattle.elf_image.specs.Images.{ImageData, SegmentData}
use Rattle.elf_image.specs.declared.headers.Header.{Header}
use Rattle.elf_image.specs.declared.errors.ImageErr.{ImageErr}
use Rattle.elf_image.specs.declared.errors.ImageErr.TheVariants.{Short, NotElf32Le, NotTriCore, NotExec, BadSegment, TooLarge, Overlap, NoMemory}

-- the two bytes of a file at an offset, the least significant first (Elf32_Half in ELFDATA2LSB)
unfoldable pub elf_half_at : List ℕ → ℕ → ℕ
elf_half_at bytes at = slice_index bytes at + slice_index bytes (at + 1) * 2 ^ 8

-- the four bytes of a file at an offset, the least significant first (Elf32_Word, Elf32_Addr and
-- Elf32_Off)
unfoldable pub elf_word_at : List ℕ → ℕ → ℕ
elf_word_at bytes at =
    slice_index bytes at + slice_index bytes (at + 1) * 2 ^ 8
    + slice_index bytes (at + 2) * 2 ^ 16 + slice_index bytes (at + 3) * 2 ^ 24

-- ---- the fields of the ELF header, Elf32_Ehdr

-- the first six bytes of e_ident: ELF's magic bytes, then ELFCLASS32 and ELFDATA2LSB
abbrev pub elf_ident_prefix : List ℕ
elf_ident_prefix = 127 ∷ 69 ∷ 76 ∷ 70 ∷ 1 ∷ 1 ∷ []

-- the kind of file: 2 for an executable
abbrev pub e_type : List ℕ → ℕ
e_type bytes = elf_half_at bytes 16

-- the machine that the file is for: 44 for TriCore
abbrev pub e_machine : List ℕ → ℕ
e_machine bytes = elf_half_at bytes 18

-- the address at which the program begins
abbrev pub e_entry : List ℕ → ℕ
e_entry bytes = elf_word_at bytes 24

-- the offset of the program headers
abbrev pub e_phoff : List ℕ → ℕ
e_phoff bytes = elf_word_at bytes 28

-- the size of a program header, in bytes
abbrev pub e_phentsize : List ℕ → ℕ
e_phentsize bytes = elf_half_at bytes 42

-- the number of program headers
abbrev pub e_phnum : List ℕ → ℕ
e_phnum bytes = elf_half_at bytes 44

-- ---- program headers, Elf32_Phdr

-- the offset of the program header with this number
abbrev pub program_header_offset : List ℕ → ℕ → ℕ
program_header_offset bytes number = e_phoff bytes + 32 * number

-- the program header with this number, from 0: p_type, p_offset, p_paddr, p_filesz and p_memsz
unfoldable pub program_header_at : List ℕ → ℕ → Header
program_header_at bytes number = record {
  number = number;
  kind = elf_word_at bytes (program_header_offset bytes number);
  offset = elf_word_at bytes (program_header_offset bytes number + 4);
  address = elf_word_at bytes (program_header_offset bytes number + 12);
  file_size = elf_word_at bytes (program_header_offset bytes number + 16);
  memory_size = elf_word_at bytes (program_header_offset bytes number + 20);
}

-- the program headers of a file, in order
unfoldable pub program_headers_of : List ℕ → List Header
program_headers_of bytes = map (program_header_at bytes) (range_with_len 0 (e_phnum bytes))

-- the program header isn't wholly in the file
abbrev pub is_truncated_header : List ℕ → ℕ → Bool
is_truncated_header bytes number = nat_lt (length bytes) (program_header_offset bytes number + 32)

-- p_type is PT_LOAD
abbrev pub is_load : Header → Bool
is_load h = h.kind == 1

-- the header's bytes pass the end of a file of length len or address 2^32, or p_filesz is above
-- p_memsz
abbrev pub has_bytes_out_of_bounds : ℕ → Header → Bool
has_bytes_out_of_bounds len h =
    nat_lt len (h.offset + h.file_size)
    || nat_lt (2 ^ 32) (h.address + h.file_size)
    || nat_lt h.memory_size h.file_size

-- the program header isn't wholly in the file, or is of type PT_LOAD with bytes that pass a bound
unfoldable pub is_bad_header : List ℕ → Header → Bool
is_bad_header bytes h = is_truncated_header bytes h.number || (is_load h && has_bytes_out_of_bounds (length bytes) h)

-- the program header is of type PT_LOAD and has bytes in the file
unfoldable pub loads_file_bytes : Header → Bool
loads_file_bytes h = is_load h && nat_lt 0 h.file_size

-- the program headers of type PT_LOAD with bytes in the file, in order
unfoldable pub loading_headers : List ℕ → List Header
loading_headers bytes = filter loads_file_bytes (program_headers_of bytes)

-- two program headers that load bytes share an address
unfoldable pub has_overlap_with : Header → Header → Bool
has_overlap_with h k = nat_lt h.address (k.address + k.file_size) && nat_lt k.address (h.address + h.file_size)

-- ---- refusals

-- the refusal of a file that is shorter than an ELF header, isn't ELF of 32 bits with the least
-- significant byte first, isn't for this machine (44), or isn't executable (ET_EXEC)
unfoldable pub elf_header_refusal : List ℕ → Option ImageErr
elf_header_refusal bytes =
    if nat_lt (length bytes) 52 then Some Short
    else (if not (starts_with nat_eq bytes elf_ident_prefix) then Some NotElf32Le
    else (if not (e_machine bytes == 44) then Some NotTriCore
    else (if not (e_type bytes == 2) then Some NotExec
    else None)))

-- the refusal if program headers aren't of 32 bytes, or else of the first bad one
unfoldable pub program_header_refusal : List ℕ → Option ImageErr
program_header_refusal bytes =
    if nat_lt 0 (e_phnum bytes) && not (e_phentsize bytes == 32) then Some (BadSegment 0)
    else option_map (λ h. BadSegment h.number) (find (is_bad_header bytes) (program_headers_of bytes))

-- the program headers load more segments or more bytes than an image can have: over 64, or over
-- 2^24
unfoldable pub exceeds_image_limits : List Header → Bool
exceeds_image_limits loads = nat_lt 64 (length loads) || nat_lt (2 ^ 24) (sum_by (λ h. h.file_size) loads)

-- the refusal that names the first header and the first later one that share an address, or None
unfoldable pub overlap_refusal : List Header → Option ImageErr
overlap_refusal [] = None
overlap_refusal (h ∷ hs) =
    option_or (option_map (λ k. Overlap h.number k.number) (find (has_overlap_with h) hs)) (overlap_refusal hs)

-- the first refusal of a file, in the order of the checks; None if there is none
unfoldable pub image_refusal : List ℕ → Option ImageErr
image_refusal bytes =
    option_or (elf_header_refusal bytes)
    (option_or (program_header_refusal bytes)
    (option_or (then_some (exceeds_image_limits (loading_headers bytes)) TooLarge)
    (overlap_refusal (loading_headers bytes))))

-- ---- the image of a file

-- p_filesz bytes of the file from p_offset on, at p_paddr
abbrev pub loaded_segment : List ℕ → Header → SegmentData
loaded_segment bytes h = record { at = h.address; bytes = take h.file_size (drop h.offset bytes) }

-- the image of a file: the entry, and a segment for each program header that loads its bytes
unfoldable pub image_of_loading_headers : List ℕ → ImageData
image_of_loading_headers bytes = record { entry = e_entry bytes; segments = map (loaded_segment bytes) (loading_headers bytes) }

-- the refusal, if there is one, else this image
abbrev pub image_unless_refused : Option ImageErr → ImageData → Result ImageData ImageErr
image_unless_refused None i = Ok i
image_unless_refused (Some e) i = Err e

-- the image that the bytes of a file load, or the first refusal
unfoldable pub image_of_file : List ℕ → Result ImageData ImageErr
image_of_file bytes = image_unless_refused (image_refusal bytes) (image_of_loading_headers bytes)

-- the code's result is this answer; out of memory says nothing of the file
abbrev pub GivesImage : Result ImageData ImageErr → Result ImageData ImageErr → Type 0
GivesImage (Ok i) answer = answer ≡ Ok i
GivesImage (Err Short) answer = answer ≡ Err Short
GivesImage (Err NotElf32Le) answer = answer ≡ Err NotElf32Le
GivesImage (Err NotTriCore) answer = answer ≡ Err NotTriCore
GivesImage (Err NotExec) answer = answer ≡ Err NotExec
GivesImage (Err (BadSegment i)) answer = answer ≡ Err (BadSegment i)
GivesImage (Err TooLarge) answer = answer ≡ Err TooLarge
GivesImage (Err (Overlap i j)) answer = answer ≡ Err (Overlap i j)
GivesImage (Err NoMemory) answer = Unit {0}
