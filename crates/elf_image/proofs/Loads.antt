-- The headers that load bytes, as a loop collects them.
use Rattle.std.proofs.Common.{◌≡◌, ◌≢◌, ℕ, ◌+◌, ◌-◌, ◌^◌, ◌<◌, ◌≤◌, Bool, true, false, cond, ◌⊎◌, inl, inr, List, [], ◌∷◌, ◌++◌, length, filter, sum_by, refl, sym, ap, ◌∙◌, append_assoc, arith}
use Rattle.std.proofs.lemmas.List.{append-nil, length-append}
use Rattle.std.proofs.lemmas.List.Sums.{sum_by-append}
use Rattle.std.proofs.lemmas.Bool.Decides.{nat_tests}
use Rattle.elf_image.specs.declared.headers.Header.{Header}
use Rattle.elf_image.specs.ReadElf.{e_phnum, program_header_at, loads_file_bytes, loading_headers, exceeds_image_limits}
use Rattle.elf_image.proofs.Rest.{rest_of, rest_of-start, rest_of-more, rest_of-end}

-- the headers so far and those that follow are all; those so far are within the limits of an image
pub record LoadsSoFar (bytes : List ℕ) (i n : ℕ) (loads : List Header) (total : ℕ) : Type 0 where
  pub all : loads ++ filter loads_file_bytes (rest_of bytes i n) ≡ loading_headers bytes
  pub sum : total ≡ sum_by (λ h. h.file_size) loads
  pub few : length loads ≤ 64
  pub small : total ≤ 2 ^ 24

pub loads_none : (bytes : List ℕ) (n : ℕ) → n ≡ e_phnum bytes → LoadsSoFar bytes 0 n [] 0
unfolding loading_headers
loads_none bytes n e = record {
  all = ap (λ m. filter loads_file_bytes (rest_of bytes 0 m)) e ∙ ap (filter loads_file_bytes) (rest_of-start bytes);
  sum = refl;
  few = omega arith;
  small = omega arith;
}

step : (bytes : List ℕ) (i n : ℕ) (h : Header) (b : Bool) → i < n → h ≡ program_header_at bytes i → loads_file_bytes h ≡ b → filter loads_file_bytes (rest_of bytes i n) ≡ cond b (h ∷ filter loads_file_bytes (rest_of bytes (i + 1) n)) (filter loads_file_bytes (rest_of bytes (i + 1) n))
step bytes i n h b lt is e =
    let next = filter loads_file_bytes (rest_of bytes (i + 1) n) in
    ap (filter loads_file_bytes) (rest_of-more bytes i n lt ∙ ap (λ (x : Header). x ∷ rest_of bytes (i + 1) n) (sym is)) ∙ ap (λ t. cond t (h ∷ next) next) e

-- a header that loads nothing
pub loads_pass : (bytes : List ℕ) (i n : ℕ) (h : Header) (loads : List Header) (total : ℕ) → LoadsSoFar bytes i n loads total → i < n → h ≡ program_header_at bytes i → loads_file_bytes h ≡ false → LoadsSoFar bytes (i + 1) n loads total
loads_pass bytes i n h loads total so_far lt is e = record {
  all = ap (λ (hs : List Header). loads ++ hs) (sym (step bytes i n h false lt is e)) ∙ so_far.all;
  sum = so_far.sum;
  few = so_far.few;
  small = so_far.small;
}

taken : (bytes : List ℕ) (i n : ℕ) (h : Header) (loads : List Header) (total : ℕ) → LoadsSoFar bytes i n loads total → i < n → h ≡ program_header_at bytes i → loads_file_bytes h ≡ true → (loads ++ h ∷ []) ++ filter loads_file_bytes (rest_of bytes (i + 1) n) ≡ loading_headers bytes
taken bytes i n h loads total so_far lt is e = append_assoc loads (h ∷ []) (filter loads_file_bytes (rest_of bytes (i + 1) n)) ∙ ap (λ (hs : List Header). loads ++ hs) (sym (step bytes i n h true lt is e)) ∙ so_far.all

-- one more header
pub loads_more : (bytes : List ℕ) (i n : ℕ) (h : Header) (loads : List Header) (total : ℕ) → LoadsSoFar bytes i n loads total → i < n → h ≡ program_header_at bytes i → loads_file_bytes h ≡ true → length loads ≢ 64 → total + h.file_size ≤ 2 ^ 24 → LoadsSoFar bytes (i + 1) n (loads ++ h ∷ []) (total + h.file_size)
loads_more bytes i n h loads total so_far lt is e few small = record {
  all = taken bytes i n h loads total so_far lt is e;
  sum = omega (arith, so_far.sum, sum_by-append (λ (x : Header). x.file_size) loads (h ∷ []));
  few = omega (arith, so_far.few, length-append loads (h ∷ []));
  small = small;
}

large : (loads front back : List Header) (h : Header) → (front ++ h ∷ []) ++ back ≡ loads → (64 ≤ length front) ⊎ (2 ^ 24 < sum_by (λ x. x.file_size) front + h.file_size) → exceeds_image_limits loads ≡ true
unfolding exceeds_image_limits
large loads front back h e much =
    let len : length loads ≡ length front + 1 + length back = ap length (sym e) ∙ omega (arith, length-append (front ++ h ∷ []) back, length-append front (h ∷ [])) in
    let all : sum_by (λ x. x.file_size) loads ≡ sum_by (λ x. x.file_size) front + h.file_size + sum_by (λ x. x.file_size) back = ap (sum_by (λ (x : Header). x.file_size)) (sym e) ∙ omega (arith, sum_by-append (λ (x : Header). x.file_size) (front ++ h ∷ []) back, sum_by-append (λ (x : Header). x.file_size) front (h ∷ [])) in
    elim much [ inl a ↦ grind (arith, nat_tests) | inr a ↦ grind (arith, nat_tests) ]

-- one header too many
pub loads_many : (bytes : List ℕ) (i n : ℕ) (h : Header) (loads : List Header) (total : ℕ) → LoadsSoFar bytes i n loads total → i < n → h ≡ program_header_at bytes i → loads_file_bytes h ≡ true → length loads ≡ 64 → exceeds_image_limits (loading_headers bytes) ≡ true
loads_many bytes i n h loads total so_far lt is e much = large (loading_headers bytes) loads (filter loads_file_bytes (rest_of bytes (i + 1) n)) h (taken bytes i n h loads total so_far lt is e) (inl (omega arith))

-- too many bytes
pub loads_long : (bytes : List ℕ) (i n : ℕ) (h : Header) (loads : List Header) (total : ℕ) → LoadsSoFar bytes i n loads total → i < n → h ≡ program_header_at bytes i → loads_file_bytes h ≡ true → 2 ^ 24 - total < h.file_size → exceeds_image_limits (loading_headers bytes) ≡ true
loads_long bytes i n h loads total so_far lt is e much = large (loading_headers bytes) loads (filter loads_file_bytes (rest_of bytes (i + 1) n)) h (taken bytes i n h loads total so_far lt is e) (inr (omega (arith, so_far.sum, so_far.small)))

-- all headers
pub loads_all : (bytes : List ℕ) (i n : ℕ) (loads : List Header) (total : ℕ) → LoadsSoFar bytes i n loads total → n ≤ i → loads ≡ loading_headers bytes
loads_all bytes i n loads total h le = sym (append-nil loads) ∙ ap (λ (hs : List Header). loads ++ hs) (ap (filter loads_file_bytes) (sym (rest_of-end bytes i n le))) ∙ h.all

pub loads_fit : (loads : List Header) (total : ℕ) → total ≡ sum_by (λ h. h.file_size) loads → length loads ≤ 64 → total ≤ 2 ^ 24 → exceeds_image_limits loads ≡ false
unfolding exceeds_image_limits
loads_fit loads total e few small = grind (arith, nat_tests)

pub loads_same : (bytes : List ℕ) (i n : ℕ) (loads others : List Header) (total other : ℕ) → others ≡ loads → other ≡ total → LoadsSoFar bytes i n loads total → LoadsSoFar bytes i n others other
loads_same bytes i n loads others total other e f h = rw (e, f) h
