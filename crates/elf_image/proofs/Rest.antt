-- The program headers that a loop hasn't looked at yet.
use Rattle.std.proofs.Common.{◌≡◌, ℕ, suc, ◌+◌, ◌-◌, ◌<◌, ◌≤◌, List, [], ◌∷◌, map, find, cond, true, false, Some, refl, ap, ◌∙◌, arith}
use Rattle.std.specs.List.{range_with_len}
use Rattle.elf_image.specs.declared.headers.Header.{Header}
use Rattle.elf_image.specs.ReadElf.{program_header_at, program_headers_of, e_phnum, is_bad_header}

-- the headers from a number up to the end
unfoldable pub rest_of : List ℕ → ℕ → ℕ → List Header
rest_of bytes i n = map (program_header_at bytes) (range_with_len i (n - i))

pub rest_of-more : (bytes : List ℕ) (i n : ℕ) → i < n → rest_of bytes i n ≡ program_header_at bytes i ∷ rest_of bytes (i + 1) n
unfolding rest_of
rest_of-more bytes i n lt =
    let e : n - i ≡ suc (n - (i + 1)) = omega arith in
    ap (λ (m : ℕ). map (program_header_at bytes) (range_with_len i m)) e

pub rest_of-end : (bytes : List ℕ) (i n : ℕ) → n ≤ i → rest_of bytes i n ≡ []
unfolding rest_of
rest_of-end bytes i n le =
    let e : n - i ≡ 0 = omega arith in
    ap (λ (m : ℕ). map (program_header_at bytes) (range_with_len i m)) e

pub rest_of-start : (bytes : List ℕ) → rest_of bytes 0 (e_phnum bytes) ≡ program_headers_of bytes
unfolding rest_of program_headers_of
rest_of-start bytes =
    let e : e_phnum bytes - 0 ≡ e_phnum bytes = omega arith in
    ap (λ (m : ℕ). map (program_header_at bytes) (range_with_len 0 m)) e

pub number-header_at : (bytes : List ℕ) (i : ℕ) → (program_header_at bytes i).number ≡ i
unfolding program_header_at
number-header_at bytes i = refl

-- the first bad header of the rest: the next one if it is bad, else the first of those after it
pub find_bad-now : (bytes : List ℕ) (i n : ℕ) → i < n → is_bad_header bytes (program_header_at bytes i) ≡ true → find (is_bad_header bytes) (rest_of bytes i n) ≡ Some (program_header_at bytes i)
find_bad-now bytes i n lt bad = ap (find (is_bad_header bytes)) (rest_of-more bytes i n lt) ∙ ap (λ b. cond b (Some (program_header_at bytes i)) (find (is_bad_header bytes) (rest_of bytes (i + 1) n))) bad

pub find_bad-later : (bytes : List ℕ) (i n : ℕ) → i < n → is_bad_header bytes (program_header_at bytes i) ≡ false → find (is_bad_header bytes) (rest_of bytes i n) ≡ find (is_bad_header bytes) (rest_of bytes (i + 1) n)
find_bad-later bytes i n lt good = ap (find (is_bad_header bytes)) (rest_of-more bytes i n lt) ∙ ap (λ b. cond b (Some (program_header_at bytes i)) (find (is_bad_header bytes) (rest_of bytes (i + 1) n))) good
