-- Words that stand in bytes, walked along others.
use Rattle.std.proofs.Common.{◌≡◌, ℕ, zero, suc, ◌+◌, ◌*◌, ◌<◌, ◌≤◌, inl, inr, List, [], ◌∷◌, length, get_or, take, refl, sym, ap, ◌∙◌, subst, arith}
use Rattle.std.proofs.lemmas.Bool.{cases_lt, cases_eq}
use Rattle.std.proofs.lemmas.List.{length-take-le, get_or-take, ext_get_or}
use Rattle.tcd_base.specs.Bytes.{word_in_bytes}
use Rattle.value_domain.specs.Sets.{Among, IsAscending}
use Rattle.value_domain.proofs.Loops.{among_get}
use Rattle.value_domain.proofs.WordLaws.{among_place}
use Rattle.packed_cert.specs.ValuesInBytes.{words_in_bytes}

pub length-words_at : (bytes : List ℕ) (place n : ℕ) → length (words_in_bytes bytes place n) ≡ n
unfolding words_in_bytes
length-words_at bytes place zero = refl
length-words_at bytes place (suc n) = ap suc (length-words_at bytes (place + 4) n)

pub get-words_at : (bytes : List ℕ) (place n k : ℕ) → k < n → get_or (words_in_bytes bytes place n) k 0 ≡ word_in_bytes bytes (place + 4 * k)
unfolding words_in_bytes
get-words_at bytes place zero k h = absurd (omega arith)
get-words_at bytes place (suc n) zero h = let e : place ≡ place + 4 * 0 = omega arith in ap (word_in_bytes bytes) e
get-words_at bytes place (suc n) (suc k) h =
    let e : place + 4 + 4 * k ≡ place + 4 * suc k = omega arith in
    get-words_at bytes (place + 4) n k (omega arith) ∙ ap (word_in_bytes bytes) e

-- a later word is above an earlier one
pub rising_places : (xs : List ℕ) → IsAscending xs → (i k : ℕ) → i < k → k < length xs → get_or xs i 0 < get_or xs k 0
rising_places [] r i k lt h = absurd (omega arith)
rising_places (x ∷ xs) r i zero lt h = absurd (omega arith)
rising_places (x ∷ xs) r zero (suc k) lt h = r.0 (get_or xs k 0) (among_get xs k (omega arith))
rising_places (x ∷ xs) r (suc i) (suc k) lt h = rising_places xs r.1 i k (omega arith) (omega arith)

-- the words before number k are below x
abbrev pub Below : List ℕ → ℕ → ℕ → ℕ → Type 0
Below bytes place k x = (j : ℕ) → j < k → word_in_bytes bytes (place + 4 * j) < x

-- where the word that is reached isn't x, x is none of them
-- the first of some words, which are those that stand at a place
pub front_words : (ws bytes : List ℕ) (place n : ℕ) → n ≤ length ws → ((j : ℕ) → j < n → get_or ws j 0 ≡ word_in_bytes bytes (place + 4 * j)) → take n ws ≡ words_in_bytes bytes place n
front_words ws bytes place n few each =
    let size = length-take-le n ws few in
    ext_get_or 0 (take n ws) (words_in_bytes bytes place n) (size ∙ sym (length-words_at bytes place n))
    (λ k lt.
    let within : k < n = omega (arith, size) in
    get_or-take n ws k 0 within ∙ each k within ∙ sym (get-words_at bytes place n k within))

pub not_among : (bytes : List ℕ) (place n k x : ℕ) → IsAscending (words_in_bytes bytes place n) → Below bytes place k x → k ≤ n → (k < n → x ≤ word_in_bytes bytes (place + 4 * k))
    → (k < n → word_in_bytes bytes (place + 4 * k) ≡ x → ⊥) → Among x (words_in_bytes bytes place n) → ⊥
not_among bytes place n k x rising below end reached other i =
    let p = among_place (words_in_bytes bytes place n) x i in
    let len = length-words_at bytes place n in
    let at = get-words_at bytes place n p.0 (omega (arith, p.1)) in
    elim (cases_lt p.0 k) [
      | inl lt ↦ let low = below p.0 lt in omega (arith, p.2)
      | inr ge ↦
          elim (cases_eq p.0 k) [
            | inl e ↦ other (omega (arith, p.1)) (ap (λ (j : ℕ). word_in_bytes bytes (place + 4 * j)) (sym e) ∙ sym at ∙ p.2)
            | inr ne ↦
                let high = rising_places (words_in_bytes bytes place n) rising k p.0 (omega arith) p.1 in
                let here = get-words_at bytes place n k (omega (arith, p.1)) in
                let low = reached (omega (arith, p.1)) in
                omega (arith, p.2)
          ]
    ]

pub among_here : (bytes : List ℕ) (place n k x : ℕ) → k < n → word_in_bytes bytes (place + 4 * k) ≡ x → Among x (words_in_bytes bytes place n)
among_here bytes place n k x h e =
    subst (λ (y : ℕ). Among y (words_in_bytes bytes place n)) (get-words_at bytes place n k h ∙ e) (among_get (words_in_bytes bytes place n) k (omega (arith, length-words_at bytes place n)))

-- the words that were passed are below x
pub passed_more : (bytes : List ℕ) (place k m x : ℕ) → Below bytes place k x → ((j : ℕ) → k ≤ j → j < m → word_in_bytes bytes (place + 4 * j) < x) → Below bytes place m x
passed_more bytes place k m x before more j h = elim (cases_lt j k) [ inl lt ↦ before j lt | inr ge ↦ more j ge h ]
