-- The lengths of the generated segments.
use Rattle.std.proofs.Common.{◌≡◌, ◌+◌, ◌-◌, ◌*◌, ◌≤◌, ◌<◌, ℕ, Bool, true, false, List, [], ◌∷◌, ◌++◌, length, nat_lt, replicate, refl, ap, arith, length-append, lit≤}
use Rattle.std.specs.Prelude.{if◌then◌else◌}
use Rattle.std.specs.List.{flat_map, range_with_len}
use Rattle.std.proofs.lemmas.List.{length-replicate}
use Rattle.tcd_report.specs.Generated.{generated_code, call_from, call_if_any, generated_function_address, generated_function_code, generated_functions, generated_handler, generated_function_table, generated_vectors, zero_padded_bytes}
use Rattle.tcd_report.proofs.ImageLemmas.Instructions.{function_bytes}
use Rattle.tcd_report.proofs.ImageLemmas.Ranges.{length-pieces}

length-filled : (size : ℕ) (bs : List ℕ) → length bs ≤ size → length (zero_padded_bytes size bs) ≡ size
length-filled size bs h = omega (arith, length-append bs (replicate (size - length bs) 0), length-replicate {A = ℕ} (size - length bs) 0)

-- ---- handlers
length-handler : (n p : ℕ) → length (generated_handler n p) ≡ 12
unfolding generated_handler generated_code
length-handler n p = refl

pub handler_filled : (n p : ℕ) → zero_padded_bytes 320 (generated_handler n p) ≡ generated_handler n p ++ replicate 308 0
handler_filled n p = let e : 320 - length (generated_handler n p) ≡ 308 = omega (arith, length-handler n p) in ap (λ k. generated_handler n p ++ replicate k 0) e

pub length-vectors : (n : ℕ) → length (generated_vectors n) ≡ 4812
unfolding generated_vectors
length-vectors n =
    let each : (j : ℕ) → length (zero_padded_bytes 320 (generated_handler n (10 * j + 10))) ≡ 320 = λ j. length-filled 320 (generated_handler n (10 * j + 10)) (omega (arith, length-handler n (10 * j + 10))) in
    let all : length (flat_map (λ j. zero_padded_bytes 320 (generated_handler n (10 * j + 10))) (range_with_len 0 15)) ≡ 320 * 15 = length-pieces (λ j. zero_padded_bytes 320 (generated_handler n (10 * j + 10))) 320 each 0 15 in
    omega (arith, all, length-handler n 160, length-append (flat_map (λ j. zero_padded_bytes 320 (generated_handler n (10 * j + 10))) (range_with_len 0 15)) (generated_handler n 160))

-- ---- the table
pub length-table : (n : ℕ) → length (generated_function_table n) ≡ 64
unfolding generated_function_table
length-table n = refl

-- ---- functions
length-call : (n at i : ℕ) → length (call_if_any n at i) ≤ 4
unfolding generated_code
length-call n at i = elim (nat_lt i n) as (λ (b : Bool). length (if b then call_from at (generated_function_address i) else []) ≤ 4) [ true ↦ lit≤ tt | false ↦ lit≤ tt ]

pub function_short : (n i : ℕ) → length (generated_function_code n i) ≤ 32
function_short n i =
    let a : List ℕ = call_if_any n (generated_function_address i + 4) (2 * i + 1) in
    let b : List ℕ = call_if_any n (generated_function_address i + 8) (2 * i + 2) in
    rw (function_bytes n i) (omega (arith, length-append a (b ++ 0x00 ∷ 0x90 ∷ []), length-append b (0x00 ∷ 0x90 ∷ []), length-call n (generated_function_address i + 4) (2 * i + 1), length-call n (generated_function_address i + 8) (2 * i + 2)))

function_some : (n i : ℕ) → 0 < length (generated_function_code n i)
function_some n i = rw (function_bytes n i) (omega arith)

-- at least one byte, and at most 32 for each function
pub length-functions : (n : ℕ) → 1 ≤ n → (0 < length (generated_functions n)) × (length (generated_functions n) ≤ 32 * n)
unfolding generated_functions
length-functions n h =
    let each : (i : ℕ) → length (zero_padded_bytes 32 (generated_function_code n i)) ≡ 32 = λ i. length-filled 32 (generated_function_code n i) (function_short n i) in
    let all : length (flat_map (λ i. zero_padded_bytes 32 (generated_function_code n i)) (range_with_len 0 (n - 1))) ≡ 32 * (n - 1) = length-pieces (λ i. zero_padded_bytes 32 (generated_function_code n i)) 32 each 0 (n - 1) in
    let whole = length-append (flat_map (λ i. zero_padded_bytes 32 (generated_function_code n i)) (range_with_len 0 (n - 1))) (generated_function_code n (n - 1)) in
    (omega (arith, whole, function_some n (n - 1)), omega (arith, whole, all, function_short n (n - 1)))
