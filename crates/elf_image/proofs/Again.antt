-- The file that is written for an image is read as that image.
use Rattle.std.proofs.Common.{◌≡◌, ℕ, suc, ◌+◌, ◌*◌, ◌^◌, ◌<◌, ◌≤◌, Bool, true, false, cond, ◌&&◌, not, ◌==◌, ltb, List, [], ◌∷◌, ◌++◌, length, map, take, drop, filter, find, sum_by, Option, Some, None, Ok, refl, sym, ap, ◌∙◌, arith, append_assoc}
use Rattle.std.specs.List.{range_with_len, list_all}
use Rattle.std.specs.Option.{option_map}
use Rattle.std.proofs.lemmas.List.{length-append, take_at, drop_at}
use Rattle.std.proofs.lemmas.List.Concat.{length-flat_map}
use Rattle.std.proofs.lemmas.List.Sums.{sum_by-cons}
use Rattle.std.proofs.lemmas.Bool.Decides.{nat_tests}
use Rattle.elf_image.specs.declared.headers.Header.{Header}
use Rattle.elf_image.specs.declared.errors.ImageErr.TheVariants.{BadSegment}
use Rattle.elf_image.specs.Images.{ImageData, SegmentData, IsImage, is_segment, are_segments_disjoint, are_all_segments_disjoint}
use Rattle.elf_image.specs.ReadElf.{e_phoff, e_phnum, e_phentsize, program_header_at, program_headers_of, is_bad_header, loads_file_bytes, has_overlap_with, loading_headers, program_header_refusal, exceeds_image_limits, overlap_refusal, loaded_segment, image_of_file}
use Rattle.elf_image.specs.WrittenElf.{elf_header, program_header, program_headers, elf_contents_offset, elf_contents, elf_file}
use Rattle.elf_image.proofs.Fields.{written_header, header_at-written, start-elf_header, entry-elf_header, phoff-elf_header, phentsize-elf_header, phnum-elf_header, length-elf_header, length-program_header}
use Rattle.elf_image.proofs.Refusals.{image_of-loaded}

abbrev len : SegmentData → ℕ
len s = length s.bytes

abbrev size : List SegmentData → ℕ
size ss = sum_by len ss

size-cons : (s : SegmentData) (ss : List SegmentData) → size (s ∷ ss) ≡ len s + size ss
size-cons s ss = sum_by-cons len s ss

length-program_headers : (offset : ℕ) (ss : List SegmentData) → length (program_headers offset ss) ≡ 32 * length ss
unfolding program_headers
length-program_headers offset [] = refl
length-program_headers offset (s ∷ ss) = omega (arith, length-append (program_header offset s.at (len s)) (program_headers (offset + len s) ss), length-program_header offset s.at (len s), length-program_headers (offset + len s) ss)

length-contents : (ss : List SegmentData) → length (elf_contents ss) ≡ size ss
unfolding elf_contents
length-contents ss = length-flat_map (λ (s : SegmentData). s.bytes) ss

length_is : (i : ImageData) → length (elf_file i) ≡ 52 + 32 * length i.segments + size i.segments
unfolding elf_file
length_is i =
    let ss = i.segments in
    omega (arith, length-append (elf_header i.entry (length ss)) (program_headers (elf_contents_offset ss) ss ++ elf_contents ss), length-append (program_headers (elf_contents_offset ss) ss) (elf_contents ss), length-elf_header i.entry (length ss), length-program_headers (elf_contents_offset ss) ss, length-contents ss)

pub length-file_of : (i : ImageData) → IsImage i → length (elf_file i) ≤ 2 ^ 30
length-file_of i h = omega (arith, length_is i, h.few, h.small)

-- ---- the program headers

-- the program headers of segments whose bytes begin at this offset, the first header with this
-- number
unfoldable headers_from : ℕ → ℕ → List SegmentData → List Header
headers_from number offset [] = []
headers_from number offset (s ∷ ss) = written_header number offset s.at (len s) ∷ headers_from (number + 1) (offset + len s) ss

-- what the test of a segment gives
record IsPart (s : SegmentData) : Type 0 where
  some : 0 < len s
  below : s.at + len s ≤ 2 ^ 32

part : (s : SegmentData) → is_segment s ≡ true → IsPart s
part s h = record { some = grind (arith, nat_tests); below = grind (arith, nat_tests) }

both_first : (a b : Bool) → (a && b) ≡ true → a ≡ true
both_first true b h = refl
both_first false b h = absurd cc

both_second : (a b : Bool) → (a && b) ≡ true → b ≡ true
both_second true b h = h
both_second false b h = absurd cc

-- the headers are read back after a front
headers_again : (file front back : List ℕ) (number offset : ℕ) (ss : List SegmentData) → file ≡ front ++ (program_headers offset ss ++ back) → e_phoff file ≡ 52 → length front ≡ 52 + 32 * number → offset + size ss < 2 ^ 32 → list_all is_segment ss ≡ true → map (program_header_at file) (range_with_len number (length ss)) ≡ headers_from number offset ss
unfolding program_headers headers_from
headers_again file front back number offset [] is first place fits good = refl
headers_again file front back number offset (s ∷ ss) is first place fits good =
    let h = program_header offset s.at (len s) in
    let rest = program_headers (offset + len s) ss in
    let p = part s (both_first (is_segment s) (list_all is_segment ss) good) in
    let sum = size-cons s ss in
    let here : file ≡ front ++ (h ++ (rest ++ back)) = is ∙ ap (λ (bytes : List ℕ). front ++ bytes) (append_assoc h rest back) in
    let later : file ≡ (front ++ h) ++ (rest ++ back) = here ∙ sym (append_assoc front h (rest ++ back)) in
    let head = header_at-written file front (rest ++ back) number offset s.at (len s) here first place (omega arith) (omega (arith, p.some, p.below)) (omega arith) in
    let more : length (front ++ h) ≡ 52 + 32 * (number + 1) = omega (arith, length-append front h, length-program_header offset s.at (len s)) in
    let tail = headers_again file (front ++ h) back (number + 1) (offset + len s) ss later first more (omega arith) (both_second (is_segment s) (list_all is_segment ss) good) in
    rw (head, tail) refl

loads_bytes : (number offset at n : ℕ) → 0 < n → loads_file_bytes (written_header number offset at n) ≡ true
unfolding loads_file_bytes written_header
loads_bytes number offset at n h = grind (arith, nat_tests)

-- each of the headers loads bytes
loads_again : (number offset : ℕ) (ss : List SegmentData) → list_all is_segment ss ≡ true → filter loads_file_bytes (headers_from number offset ss) ≡ headers_from number offset ss
unfolding headers_from
loads_again number offset [] good = refl
loads_again number offset (s ∷ ss) good =
    let p = part s (both_first (is_segment s) (list_all is_segment ss) good) in
    let tail = loads_again (number + 1) (offset + len s) ss (both_second (is_segment s) (list_all is_segment ss) good) in
    rw (loads_bytes number offset s.at (len s) p.some, tail) refl

-- none of the headers is bad
is_fine : (file : List ℕ) (number offset at n : ℕ) → e_phoff file ≡ 52 → 52 + 32 * (number + 1) ≤ length file → offset + n ≤ length file → at + n ≤ 2 ^ 32 → is_bad_header file (written_header number offset at n) ≡ false
unfolding is_bad_header written_header
is_fine file number offset at n first whole inside below = grind (arith, nat_tests)

fine_again : (file : List ℕ) (number offset : ℕ) (ss : List SegmentData) → e_phoff file ≡ 52 → 52 + 32 * (number + length ss) ≤ length file → offset + size ss ≤ length file → list_all is_segment ss ≡ true → find (is_bad_header file) (headers_from number offset ss) ≡ None
unfolding headers_from
fine_again file number offset [] first whole inside good = refl
fine_again file number offset (s ∷ ss) first whole inside good =
    let p = part s (both_first (is_segment s) (list_all is_segment ss) good) in
    let sum = size-cons s ss in
    let head = is_fine file number offset s.at (len s) first (omega arith) (omega arith) p.below in
    rw head (fine_again file (number + 1) (offset + len s) ss first (omega arith) (omega arith) (both_second (is_segment s) (list_all is_segment ss) good))

length_again : (number offset : ℕ) (ss : List SegmentData) → length (headers_from number offset ss) ≡ length ss
unfolding headers_from
length_again number offset [] = refl
length_again number offset (s ∷ ss) = ap suc (length_again (number + 1) (offset + len s) ss)

size_again : (number offset : ℕ) (ss : List SegmentData) → sum_by (λ h. h.file_size) (headers_from number offset ss) ≡ size ss
unfolding headers_from written_header
size_again number offset [] = refl
size_again number offset (s ∷ ss) = omega (arith, sum_by-cons (λ (h : Header). h.file_size) (written_header number offset s.at (len s)) (headers_from (number + 1) (offset + len s) ss), size-cons s ss, size_again (number + 1) (offset + len s) ss)

not_large : (hs : List Header) → length hs ≤ 64 → sum_by (λ h. h.file_size) hs ≤ 2 ^ 24 → exceeds_image_limits hs ≡ false
unfolding exceeds_image_limits
not_large hs few small = grind (arith, nat_tests)

-- no two of the headers share an address
not_met : (s t : SegmentData) (number offset other place : ℕ) → are_segments_disjoint s t ≡ true → has_overlap_with (written_header number offset s.at (len s)) (written_header other place t.at (len t)) ≡ false
unfolding has_overlap_with written_header
not_met s t number offset other place h = grind (arith, nat_tests)

none_met : (s : SegmentData) (number offset other place : ℕ) (ss : List SegmentData) → list_all (are_segments_disjoint s) ss ≡ true → find (has_overlap_with (written_header number offset s.at (len s))) (headers_from other place ss) ≡ None
unfolding headers_from
none_met s number offset other place [] h = refl
none_met s number offset other place (t ∷ ss) h =
    let head = not_met s t number offset other place (both_first (are_segments_disjoint s t) (list_all (are_segments_disjoint s) ss) h) in
    rw head (none_met s number offset (other + 1) (place + len t) ss (both_second (are_segments_disjoint s t) (list_all (are_segments_disjoint s) ss) h))

apart_again : (number offset : ℕ) (ss : List SegmentData) → are_all_segments_disjoint ss ≡ true → overlap_refusal (headers_from number offset ss) ≡ None
unfolding headers_from overlap_refusal
apart_again number offset [] h = refl
apart_again number offset (s ∷ ss) h =
    let head = none_met s number offset (number + 1) (offset + len s) ss (both_first (list_all (are_segments_disjoint s) ss) (are_all_segments_disjoint ss) h) in
    rw head (apart_again (number + 1) (offset + len s) ss (both_second (list_all (are_segments_disjoint s) ss) (are_all_segments_disjoint ss) h))

-- ---- the segments

part_again : (file front back bytes : List ℕ) (number offset at : ℕ) → file ≡ front ++ (bytes ++ back) → length front ≡ offset → loaded_segment file (written_header number offset at (length bytes)) ≡ record { at = at; bytes = bytes }
unfolding written_header
part_again file front back bytes number offset at is place =
    let dropped : drop offset file ≡ bytes ++ back = ap (drop offset) is ∙ drop_at front (bytes ++ back) offset place in
    let taken : take (length bytes) (drop offset file) ≡ bytes = ap (take (length bytes)) dropped ∙ take_at bytes back (length bytes) refl in
    ap (λ (b : List ℕ). record { at = at; bytes = b }) taken

segments_again : (file front : List ℕ) (number offset : ℕ) (ss : List SegmentData) → file ≡ front ++ elf_contents ss → length front ≡ offset → map (loaded_segment file) (headers_from number offset ss) ≡ ss
unfolding headers_from elf_contents
segments_again file front number offset [] is place = refl
segments_again file front number offset (s ∷ ss) is place =
    let head = part_again file front (elf_contents ss) s.bytes number offset s.at is place in
    let later : file ≡ (front ++ s.bytes) ++ elf_contents ss = is ∙ sym (append_assoc front s.bytes (elf_contents ss)) in
    let tail = segments_again file (front ++ s.bytes) (number + 1) (offset + len s) ss later (omega (arith, length-append front s.bytes)) in
    rw (head, tail) refl

-- ---- the whole

passed : (b : Bool) (n : ℕ) (o : Option Header) → n ≡ 32 → o ≡ None → cond (b && not (n == 32)) (Some (BadSegment 0)) (option_map (λ h. BadSegment h.number) o) ≡ None
passed true n o e h = rw (e, h) refl
passed false n o e h = rw h refl

no_refusal : (bytes : List ℕ) → e_phentsize bytes ≡ 32 → find (is_bad_header bytes) (program_headers_of bytes) ≡ None → program_header_refusal bytes ≡ None
unfolding program_header_refusal
no_refusal bytes e h = passed (ltb 0 (e_phnum bytes)) (e_phentsize bytes) (find (is_bad_header bytes) (program_headers_of bytes)) e h

pub image_of-file_of : (i : ImageData) → IsImage i → image_of_file (elf_file i) ≡ Ok i
unfolding elf_file program_headers_of loading_headers
image_of-file_of i h =
    let ss = i.segments in
    let n = length ss in
    let place = elf_contents_offset ss in
    let header = elf_header i.entry n in
    let table = program_headers place ss in
    let rest = table ++ elf_contents ss in
    let file = elf_file i in
    let first : e_phoff file ≡ 52 = phoff-elf_header i.entry n rest in
    let count : e_phnum file ≡ n = phnum-elf_header i.entry n rest (omega (arith, h.few)) in
    let again : program_headers_of file ≡ headers_from 0 place ss = ap (λ m. map (program_header_at file) (range_with_len 0 m)) count ∙ headers_again file header (elf_contents ss) 0 place ss refl first (length-elf_header i.entry n) (omega (arith, h.few, h.small)) h.segments in
    let loads : loading_headers file ≡ headers_from 0 place ss = ap (filter loads_file_bytes) again ∙ loads_again 0 place ss h.segments in
    let fine : find (is_bad_header file) (program_headers_of file) ≡ None = ap (find (is_bad_header file)) again ∙ fine_again file 0 place ss first (omega (arith, length_is i)) (omega (arith, length_is i)) h.segments in
    let small : exceeds_image_limits (loading_headers file) ≡ false = ap exceeds_image_limits loads ∙ not_large (headers_from 0 place ss) (omega (arith, length_again 0 place ss, h.few)) (omega (arith, size_again 0 place ss, h.small)) in
    let alone : overlap_refusal (loading_headers file) ≡ None = ap overlap_refusal loads ∙ apart_again 0 place ss h.apart in
    let front : length (header ++ table) ≡ place = omega (arith, length-append header table, length-elf_header i.entry n, length-program_headers place ss) in
    let same : map (loaded_segment file) (loading_headers file) ≡ ss = ap (map (loaded_segment file)) loads ∙ segments_again file (header ++ table) 0 place ss (sym (append_assoc header table (elf_contents ss))) front in
    image_of-loaded file i.entry ss (sym (start-elf_header i.entry n rest)) (sym (no_refusal file (phentsize-elf_header i.entry n rest) fine)) small (sym alone) (sym (entry-elf_header i.entry n rest h.entry)) (sym same)
