-- The bytes of the generated instructions.
use Rattle.std.proofs.Common.{◌≡◌, ◌+◌, ◌-◌, ◌*◌, ◌/◌, ◌%◌, ◌^◌, ◌<◌, ℕ, [], ◌∷◌, ◌++◌, codes, refl, sym, ap, ◌∙◌, arith}
use Rattle.tcd_base.specs.Bytes.{bytes_of_word, four_bytes}
use Rattle.tc_isa.specs.declared.table.Form.TheVariants.{B}
use Rattle.tc_isa.specs.Forms.{fields}
use Rattle.tc_isa.specs.Spelling.{word_of_fields}
use Rattle.tcd_report.specs.Generated.{generated_code, call_from, call_if_any, generated_function_address, generated_function_code, generated_handler, generated_handler_address, generated_main_code, generated_system_call_handler}

-- ---- calls
word_small : (k : ℕ) → k < 2 ^ 24 → word_of_fields B 0x6d 0 (fields 0 0 0 0 k) < 2 ^ 32
unfolding word_of_fields
word_small k h = omega arith

word_is : (k : ℕ) → k < 2 ^ 24 → k % 65536 * 65536 + k / 65536 * 256 + 0x6d ≡ word_of_fields B 0x6d 0 (fields 0 0 0 0 k)
unfolding word_of_fields
word_is k h = omega arith

call_is : (at to : ℕ) → call_from at to ≡ four_bytes (word_of_fields B 0x6d 0 (fields 0 0 0 0 ((to - at) / 2)))
unfolding generated_code
call_is at to = refl

-- the bytes of a call's word
pub call_bytes : (at to : ℕ) → (to - at) / 2 < 2 ^ 24 → bytes_of_word ((to - at) / 2 % 65536 * 65536 + (to - at) / 2 / 65536 * 256 + 0x6d) ≡ call_from at to
call_bytes at to h =
    let x : ℕ = word_of_fields B 0x6d 0 (fields 0 0 0 0 ((to - at) / 2)) in
    let small : x < 2 ^ 32 = word_small ((to - at) / 2) h in
    let p : x / 16777216 % 256 ≡ x / 2 ^ 24 = omega arith in
    ap bytes_of_word (word_is ((to - at) / 2) h) ∙ ap (λ d. x % 256 ∷ x / 256 % 256 ∷ x / 65536 % 256 ∷ d ∷ []) p ∙ sym (call_is at to)

-- ---- functions and handlers
pub function_bytes : (n i : ℕ) → generated_function_code n i ≡ 0x20 ∷ 0x08 ∷ 0x74 ∷ 0xaf ∷ (call_if_any n (generated_function_address i + 4) (2 * i + 1) ++ (call_if_any n (generated_function_address i + 8) (2 * i + 2) ++ 0x00 ∷ 0x90 ∷ []))
unfolding generated_function_code generated_code word_of_fields
function_bytes n i = refl

bisr_bytes : (p : ℕ) → generated_code (codes "bisr16") (fields 0 0 0 0 p) ≡ 0xe0 ∷ p ∷ []
unfolding generated_code word_of_fields
bisr_bytes p =
    let x : ℕ = p * 2 ^ 8 + 0xe0 in
    let low : x % 256 ≡ 0xe0 = omega arith in
    let high : x / 256 ≡ p = omega arith in
    ap (λ a. a ∷ x / 256 ∷ []) low ∙ ap (λ b. 0xe0 ∷ b ∷ []) high

rest_bytes : generated_code (codes "rslcx") (fields 0 0 0 0 0) ++ generated_code (codes "rfe16") (fields 0 0 0 0 0) ≡ 0x0d ∷ 0x00 ∷ 0x40 ∷ 0x02 ∷ 0x00 ∷ 0x80 ∷ []
unfolding generated_code word_of_fields
rest_bytes = refl

pub handler_bytes : (n p : ℕ) → generated_handler n p ≡ 0xe0 ∷ p ∷ (call_from (0x80002002 + 32 * p) (generated_function_address (n - 1)) ++ 0x0d ∷ 0x00 ∷ 0x40 ∷ 0x02 ∷ 0x00 ∷ 0x80 ∷ [])
unfolding generated_handler
handler_bytes n p =
    ap (λ bs. bs ++ (call_from (generated_handler_address p + 2) (generated_function_address (n - 1)) ++ (generated_code (codes "rslcx") (fields 0 0 0 0 0) ++ generated_code (codes "rfe16") (fields 0 0 0 0 0)))) (bisr_bytes p)
    ∙ ap (λ bs. 0xe0 ∷ p ∷ (call_from (generated_handler_address p + 2) (generated_function_address (n - 1)) ++ bs)) rest_bytes
    ∙ ap (λ x. 0xe0 ∷ p ∷ (call_from x (generated_function_address (n - 1)) ++ 0x0d ∷ 0x00 ∷ 0x40 ∷ 0x02 ∷ 0x00 ∷ 0x80 ∷ [])) (omega arith)

-- ---- the code that is the same for each n
pub main_bytes : generated_main_code ≡ 0x91 ∷ 0x00 ∷ 0x00 ∷ 0xff ∷ 0x19 ∷ 0xff ∷ 0x00 ∷ 0x00 ∷ 0x91 ∷ 0x00 ∷ 0x00 ∷ 0xe8 ∷ 0x01 ∷ 0xef ∷ 0x02 ∷ 0xe6 ∷ 0x99 ∷ 0xee ∷ 0x00 ∷ 0x40 ∷ 0x2d ∷ 0x0e ∷ 0x00 ∷ 0x00 ∷ 0xad ∷ 0x10 ∷ 0x80 ∷ 0x00 ∷ 0x1d ∷ 0xff ∷ 0xf2 ∷ 0xff ∷ []
unfolding generated_main_code generated_code word_of_fields
main_bytes = refl

pub system_bytes : generated_system_call_handler ≡ 0x00 ∷ 0x80 ∷ []
unfolding generated_system_call_handler generated_code word_of_fields
system_bytes = refl
