-- The fields of a file that was written are read back.
use Rattle.std.proofs.Common.{◌≡◌, ℕ, ◌+◌, ◌*◌, ◌^◌, ◌<◌, List, ◌++◌, length, get_or, None, refl, ap, ◌∙◌, arith}
use Rattle.std.proofs.lemmas.List.{get_or-append-add}
use Rattle.std.proofs.lemmas.Bool.{le-ltb}
use Rattle.elf_image.specs.declared.headers.Header.{Header}
use Rattle.elf_image.specs.ReadElf.{elf_half_at, elf_word_at, e_entry, e_phoff, e_phentsize, e_phnum, program_header_at, elf_header_refusal}
use Rattle.elf_image.specs.WrittenElf.{elf_header, program_header}

get_or-behind : (front back : List ℕ) (k at : ℕ) → length front + k ≡ at → get_or (front ++ back) at 0 ≡ get_or back k 0
get_or-behind front back k at e = rw (← e) (get_or-append-add front back k 0)

-- a word after a front
word_at-behind : (front back : List ℕ) (k at : ℕ) → length front + k ≡ at → elf_word_at (front ++ back) at ≡ elf_word_at back k
unfolding elf_word_at
word_at-behind front back k at e =
    let e0 = get_or-behind front back k at e in
    let e1 = get_or-behind front back (k + 1) (at + 1) (omega arith) in
    let e2 = get_or-behind front back (k + 2) (at + 2) (omega arith) in
    let e3 = get_or-behind front back (k + 3) (at + 3) (omega arith) in
    rw (e0, e1, e2, e3) refl

-- ---- the ELF header

pub start-elf_header : (entry count : ℕ) (rest : List ℕ) → elf_header_refusal (elf_header entry count ++ rest) ≡ None
unfolding elf_header_refusal elf_half_at elf_header
start-elf_header entry count rest = rw (le-ltb (length (elf_header entry count ++ rest)) 52 (omega arith)) refl

pub entry-elf_header : (entry count : ℕ) (rest : List ℕ) → entry < 2 ^ 32 → e_entry (elf_header entry count ++ rest) ≡ entry
unfolding elf_word_at elf_header
entry-elf_header entry count rest lt = omega arith

pub phoff-elf_header : (entry count : ℕ) (rest : List ℕ) → e_phoff (elf_header entry count ++ rest) ≡ 52
unfolding elf_word_at elf_header
phoff-elf_header entry count rest = refl

pub phentsize-elf_header : (entry count : ℕ) (rest : List ℕ) → e_phentsize (elf_header entry count ++ rest) ≡ 32
unfolding elf_half_at elf_header
phentsize-elf_header entry count rest = refl

pub phnum-elf_header : (entry count : ℕ) (rest : List ℕ) → count < 2 ^ 16 → e_phnum (elf_header entry count ++ rest) ≡ count
unfolding elf_half_at elf_header
phnum-elf_header entry count rest lt = omega arith

pub length-elf_header : (entry count : ℕ) → length (elf_header entry count) ≡ 52
unfolding elf_header
length-elf_header entry count = refl

-- ---- a program header

pub length-program_header : (offset at len : ℕ) → length (program_header offset at len) ≡ 32
unfolding program_header
length-program_header offset at len = refl

kind_again : (offset at len : ℕ) (rest : List ℕ) → elf_word_at (program_header offset at len ++ rest) 0 ≡ 1
unfolding elf_word_at program_header
kind_again offset at len rest = refl

offset_again : (offset at len : ℕ) (rest : List ℕ) → offset < 2 ^ 32 → elf_word_at (program_header offset at len ++ rest) 4 ≡ offset
unfolding elf_word_at program_header
offset_again offset at len rest lt = omega arith

address_again : (offset at len : ℕ) (rest : List ℕ) → at < 2 ^ 32 → elf_word_at (program_header offset at len ++ rest) 12 ≡ at
unfolding elf_word_at program_header
address_again offset at len rest lt = omega arith

file_size_again : (offset at len : ℕ) (rest : List ℕ) → len < 2 ^ 32 → elf_word_at (program_header offset at len ++ rest) 16 ≡ len
unfolding elf_word_at program_header
file_size_again offset at len rest lt = omega arith

memory_size_again : (offset at len : ℕ) (rest : List ℕ) → len < 2 ^ 32 → elf_word_at (program_header offset at len ++ rest) 20 ≡ len
unfolding elf_word_at program_header
memory_size_again offset at len rest lt = omega arith

-- the header of a segment
unfoldable pub written_header : ℕ → ℕ → ℕ → ℕ → Header
written_header number offset at len = record { number = number; kind = 1; offset = offset; address = at; file_size = len; memory_size = len }

pub header_at-written : (file front back : List ℕ) (number offset at len : ℕ) → file ≡ front ++ (program_header offset at len ++ back) → e_phoff file ≡ 52 → length front ≡ 52 + 32 * number → offset < 2 ^ 32 → at < 2 ^ 32 → len < 2 ^ 32 → program_header_at file number ≡ written_header number offset at len
unfolding program_header_at written_header
header_at-written file front back number offset at len is first place small_offset small_at small_len =
    let h = program_header offset at len ++ back in
    let at_0 : e_phoff file + 32 * number ≡ length front = omega arith in
    let word : (k : ℕ) → elf_word_at file (e_phoff file + 32 * number + k) ≡ elf_word_at h k = λ k. ap (λ (bytes : List ℕ). elf_word_at bytes (e_phoff file + 32 * number + k)) is ∙ word_at-behind front h k (e_phoff file + 32 * number + k) (omega arith) in
    let kind : elf_word_at file (e_phoff file + 32 * number) ≡ 1 = ap (elf_word_at file) (omega arith) ∙ word 0 ∙ kind_again offset at len back in
    let a = word 4 ∙ offset_again offset at len back small_offset in
    let b = word 12 ∙ address_again offset at len back small_at in
    let c = word 16 ∙ file_size_again offset at len back small_len in
    let d = word 20 ∙ memory_size_again offset at len back small_len in
    rw (kind, a, b, c, d) refl
