-- The bytes of the routine, by its words.
use Rattle.std.proofs.Common.{◌≡◌, ℕ, ◌+◌, ◌*◌, ◌/◌, ◌%◌, ◌^◌, List, [], ◌∷◌, refl, sym, ap, ◌∙◌, arith}
use Rattle.std.specs.List.{flat_map}
use Rattle.tc_isa.specs.Spelling.{word_of_fields}
use Rattle.tcd_base.specs.Bytes.{four_bytes}
use Rattle.tc_isa.specs.NamedInstructions.{adjusted_upper_half, lower_half}
use Rattle.task_chains.specs.SwitchRoutine.{switch_routine_of, view_routine_of, bytes_of_instructions}

-- the bits of a 16-bit offset
abbrev pub offset : ℕ → ℕ
offset k = k / 64 % 16 * 2 ^ 28 + k / 1024 * 2 ^ 22 + k % 64 * 2 ^ 16

-- the words of the instructions that have a number of tasks or an address
abbrev movh_word : ℕ → ℕ
movh_word k = 0x20000091 + k * 4096

abbrev lea_word : ℕ → ℕ
lea_word k = 0x22d9 + offset k

abbrev load_word : ℕ → ℕ
load_word k = 0x2019 + offset k

abbrev jne_word : ℕ → ℕ
jne_word n = 0x800400df + n * 4096

abbrev store_word : ℕ → ℕ
store_word k = 0x2059 + offset k

movh_is : (k : ℕ) → 2 * 2 ^ 28 + k * 2 ^ 12 + 0 * 2 ^ 8 + 145 ≡ movh_word k
movh_is k = omega arith

lea_is : (k : ℕ) → k / 64 % 16 * 2 ^ 28 + k / 1024 * 2 ^ 22 + k % 64 * 2 ^ 16 + 2 * 2 ^ 12 + 2 * 2 ^ 8 + 217 ≡ lea_word k
lea_is k = omega arith

load_is : (k : ℕ) → k / 64 % 16 * 2 ^ 28 + k / 1024 * 2 ^ 22 + k % 64 * 2 ^ 16 + 2 * 2 ^ 12 + 0 * 2 ^ 8 + 25 ≡ load_word k
load_is k = omega arith

jne_is : (n : ℕ) → 1 * 2 ^ 31 + 4 * 2 ^ 16 + n * 2 ^ 12 + 0 * 2 ^ 8 + 223 ≡ jne_word n
jne_is n = omega arith

store_is : (k : ℕ) → k / 64 % 16 * 2 ^ 28 + k / 1024 * 2 ^ 22 + k % 64 * 2 ^ 16 + 2 * 2 ^ 12 + 0 * 2 ^ 8 + 89 ≡ store_word k
store_is k = omega arith

-- the bytes of all, as a function of those words
abbrev by_words : ℕ → ℕ → ℕ → ℕ → ℕ → List ℕ
by_words a b c d e =
    flat_map four_bytes
    (0x0340000d ∷ 0x0200000d ∷ a ∷ b ∷ c ∷ 0x36022001 ∷ 0x1fe0004d ∷ 0x3159 ∷ 0x101b ∷ d ∷ 0x3b ∷ e ∷ 0x36022001 ∷ 0x3119 ∷ 0x0fe001cd ∷ 0x04c0000d ∷ 0x0240000d ∷ 0x0180000d ∷ [])

abbrev by_view_words : ℕ → ℕ → ℕ → List ℕ
by_view_words a b d =
    flat_map four_bytes
    (0x0340000d ∷ 0x0200000d ∷ a ∷ b ∷ 0x4d ∷ 0x36022001 ∷ 0x1000004d ∷ 0xd ∷ 0x101b ∷ d ∷ 0x3b ∷ 0xd ∷ 0x36022001 ∷ 0x1000004d ∷ 0xd ∷ 0x04c0000d ∷ 0x0240000d ∷ 0x0180000d ∷ [])

module _ (n b : ℕ) where
  abbrev first_of : ℕ
  first_of = 2 * 2 ^ 28 + adjusted_upper_half b * 2 ^ 12 + 0 * 2 ^ 8 + 145

  abbrev second_of : ℕ
  second_of = lower_half b / 64 % 16 * 2 ^ 28 + lower_half b / 1024 * 2 ^ 22 + lower_half b % 64 * 2 ^ 16 + 2 * 2 ^ 12 + 2 * 2 ^ 8 + 217

  abbrev third_of : ℕ
  third_of = 4 * n / 64 % 16 * 2 ^ 28 + 4 * n / 1024 * 2 ^ 22 + 4 * n % 64 * 2 ^ 16 + 2 * 2 ^ 12 + 0 * 2 ^ 8 + 25

  abbrev fourth_of : ℕ
  fourth_of = 1 * 2 ^ 31 + 4 * 2 ^ 16 + n * 2 ^ 12 + 0 * 2 ^ 8 + 223

  abbrev fifth_of : ℕ
  fifth_of = 4 * n / 64 % 16 * 2 ^ 28 + 4 * n / 1024 * 2 ^ 22 + 4 * n % 64 * 2 ^ 16 + 2 * 2 ^ 12 + 0 * 2 ^ 8 + 89

  spelled : bytes_of_instructions (switch_routine_of n b) ≡ by_words first_of second_of third_of fourth_of fifth_of
  unfolding word_of_fields
  spelled = refl

  pub routine_by_words : by_words (movh_word (adjusted_upper_half b)) (lea_word (lower_half b)) (load_word (4 * n)) (jne_word n) (store_word (4 * n)) ≡ bytes_of_instructions (switch_routine_of n b)
  routine_by_words =
      sym (spelled ∙ ap (λ x. by_words x second_of third_of fourth_of fifth_of) (movh_is (adjusted_upper_half b)) ∙ ap (λ x. by_words (movh_word (adjusted_upper_half b)) x third_of fourth_of fifth_of) (lea_is (lower_half b))
      ∙ ap (λ x. by_words (movh_word (adjusted_upper_half b)) (lea_word (lower_half b)) x fourth_of fifth_of) (load_is (4 * n)) ∙ ap (λ x. by_words (movh_word (adjusted_upper_half b)) (lea_word (lower_half b)) (load_word (4 * n)) x fifth_of) (jne_is n)
      ∙ ap (λ x. by_words (movh_word (adjusted_upper_half b)) (lea_word (lower_half b)) (load_word (4 * n)) (jne_word n) x) (store_is (4 * n)))

  view_spelled : bytes_of_instructions (view_routine_of n b) ≡ by_view_words first_of second_of fourth_of
  unfolding word_of_fields
  view_spelled = refl

  pub view_by_words : by_view_words (movh_word (adjusted_upper_half b)) (lea_word (lower_half b)) (jne_word n) ≡ bytes_of_instructions (view_routine_of n b)
  view_by_words =
      sym (view_spelled ∙ ap (λ x. by_view_words x second_of fourth_of) (movh_is (adjusted_upper_half b)) ∙ ap (λ x. by_view_words (movh_word (adjusted_upper_half b)) x fourth_of) (lea_is (lower_half b))
      ∙ ap (λ x. by_view_words (movh_word (adjusted_upper_half b)) (lea_word (lower_half b)) x) (jne_is n))

  pub routine_words_are : (u l k : ℕ) → u ≡ adjusted_upper_half b → l ≡ offset (lower_half b) → k ≡ offset (4 * n) → by_words (0x20000091 + u * 4096) (0x22d9 + l) (0x2019 + k) (0x800400df + n * 4096) (0x2059 + k) ≡ bytes_of_instructions (switch_routine_of n b)
  routine_words_are u l k is low count =
      ap (λ x. by_words (0x20000091 + x * 4096) (0x22d9 + l) (0x2019 + k) (0x800400df + n * 4096) (0x2059 + k)) is
      ∙ ap (λ x. by_words (movh_word (adjusted_upper_half b)) (0x22d9 + x) (0x2019 + k) (0x800400df + n * 4096) (0x2059 + k)) low
      ∙ ap (λ x. by_words (movh_word (adjusted_upper_half b)) (lea_word (lower_half b)) (0x2019 + x) (0x800400df + n * 4096) (0x2059 + x)) count ∙ routine_by_words

  pub view_words_are : (u l : ℕ) → u ≡ adjusted_upper_half b → l ≡ offset (lower_half b) → by_view_words (0x20000091 + u * 4096) (0x22d9 + l) (0x800400df + n * 4096) ≡ bytes_of_instructions (view_routine_of n b)
  view_words_are u l is low =
      ap (λ x. by_view_words (0x20000091 + x * 4096) (0x22d9 + l) (0x800400df + n * 4096)) is
      ∙ ap (λ x. by_view_words (movh_word (adjusted_upper_half b)) (0x22d9 + x) (0x800400df + n * 4096)) low ∙ view_by_words
