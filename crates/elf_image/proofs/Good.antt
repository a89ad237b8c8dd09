-- What a file that passes the checks gives: each program header and its bytes are in the file.
use Rattle.std.proofs.Common.{◌≡◌, ℕ, zero, suc, ◌+◌, ◌^◌, ◌<◌, ◌≤◌, Bool, true, false, cond, List, [], ◌∷◌, length, map, find, filter, Option, Some, None, refl, arith, All}
use Rattle.std.specs.List.{range_with_len, AllByRecursion}
use Rattle.std.proofs.lemmas.List.Elements.{All-from_recursion}
use Rattle.std.proofs.lemmas.Bool.Decides.{nat_tests}
use Rattle.std.specs.Option.{option_map}
use Rattle.elf_image.specs.declared.headers.Header.{Header}
use Rattle.elf_image.specs.declared.errors.ImageErr.{ImageErr}
use Rattle.elf_image.specs.declared.errors.ImageErr.TheVariants.{BadSegment}
use Rattle.elf_image.specs.ReadElf.{e_phnum, program_header_offset, program_header_at, program_headers_of, is_bad_header, loads_file_bytes, loading_headers, program_header_refusal}
use Rattle.elf_image.proofs.Rest.{number-header_at}

-- the bytes that a header loads are in the file and below 2^32, and there is at least one
pub record Good (bytes : List ℕ) (h : Header) : Type 0 where
  pub inside : h.offset + h.file_size ≤ length bytes
  pub below : h.address + h.file_size ≤ 2 ^ 32
  pub some : 0 < h.file_size

good : (bytes : List ℕ) (h : Header) → is_bad_header bytes h ≡ false → loads_file_bytes h ≡ true → Good bytes h
unfolding is_bad_header loads_file_bytes
good bytes h fine loads = record { inside = grind (arith, nat_tests); below = grind (arith, nat_tests); some = grind (arith, nat_tests) }

whole : (bytes : List ℕ) (h : Header) → is_bad_header bytes h ≡ false → program_header_offset bytes h.number + 32 ≤ length bytes
unfolding is_bad_header
whole bytes h fine = grind (arith, nat_tests)

-- if `find` finds nothing, the first element fails the test
pub unfound_head : {X : Type 0} (p : X → Bool) (x : X) (xs : List X) → find p (x ∷ xs) ≡ None → p x ≡ false
unfound_head p x xs e = elim (p x) as (λ b. cond b (Some x) (find p xs) ≡ None → b ≡ false) [ true ↦ λ h. absurd cc | false ↦ λ h. refl ] e

pub unfound_tail : {X : Type 0} (p : X → Bool) (x : X) (xs : List X) → find p (x ∷ xs) ≡ None → find p xs ≡ None
unfound_tail p x xs e = elim (p x) as (λ b. cond b (Some x) (find p xs) ≡ None → find p xs ≡ None) [ true ↦ λ h. absurd cc | false ↦ λ h. h ] e

unfound_at : {X : Type 0} (p : X → Bool) (f : ℕ → X) (a n k : ℕ) → find p (map f (range_with_len a n)) ≡ None → k < n → p (f (a + k)) ≡ false
unfound_at p f a zero k e lt = absurd (omega arith)
unfound_at p f a (suc n) zero e lt = let e0 : a + 0 ≡ a = omega arith in rw e0 (unfound_head p (f a) (map f (range_with_len (a + 1) n)) e)
unfound_at p f a (suc n) (suc k) e lt = let e1 : a + suc k ≡ a + 1 + k = omega arith in rw e1 (unfound_at p f (a + 1) n k (unfound_tail p (f a) (map f (range_with_len (a + 1) n)) e) (omega arith))

chosen : (b : Bool) (e : ImageErr) (o : Option Header) → cond b (Some e) (option_map (λ h. BadSegment h.number) o) ≡ None → o ≡ None
chosen true e o h = absurd cc
chosen false e None h = refl
chosen false e (Some x) h = absurd cc

-- if there is no refusal, no header is bad
none_bad : (bytes : List ℕ) → program_header_refusal bytes ≡ None → find (is_bad_header bytes) (program_headers_of bytes) ≡ None
unfolding program_header_refusal
none_bad bytes e = chosen _ _ _ e

-- each program header is in the file
pub headers_whole : (bytes : List ℕ) (i : ℕ) → program_header_refusal bytes ≡ None → i < e_phnum bytes → program_header_offset bytes i + 32 ≤ length bytes
unfolding program_headers_of
headers_whole bytes i e lt =
    let fine : is_bad_header bytes (program_header_at bytes (0 + i)) ≡ false = unfound_at (is_bad_header bytes) (program_header_at bytes) 0 (e_phnum bytes) i (none_bad bytes e) lt in
    let zero_add : 0 + i ≡ i = omega arith in
    let here = whole bytes (program_header_at bytes i) (rw zero_add at fine) in
    rw (number-header_at bytes i) at here

goods_more : (bytes : List ℕ) (h : Header) (hs : List Header) (b : Bool) → loads_file_bytes h ≡ b → is_bad_header bytes h ≡ false → AllByRecursion (Good bytes) (filter loads_file_bytes hs) → AllByRecursion (Good bytes) (cond b (h ∷ filter loads_file_bytes hs) (filter loads_file_bytes hs))
goods_more bytes h hs true loads fine rest = (good bytes h fine loads, rest)
goods_more bytes h hs false loads fine rest = rest

goods : (bytes : List ℕ) (hs : List Header) → find (is_bad_header bytes) hs ≡ None → AllByRecursion (Good bytes) (filter loads_file_bytes hs)
goods bytes [] e = tt
goods bytes (h ∷ hs) e = goods_more bytes h hs (loads_file_bytes h) refl (unfound_head (is_bad_header bytes) h hs e) (goods bytes hs (unfound_tail (is_bad_header bytes) h hs e))

-- each header that loads bytes is good
pub loads_good : (bytes : List ℕ) → program_header_refusal bytes ≡ None → All (Good bytes) (loading_headers bytes)
unfolding loading_headers
loads_good bytes e = All-from_recursion (Good bytes) (loading_headers bytes) (goods bytes (program_headers_of bytes) (none_bad bytes e))
