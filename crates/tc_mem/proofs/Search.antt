-- The search for a page among pages with ascending numbers.
use Rattle.std.proofs.Common.{◌≡◌, ◌≢◌, ◌+◌, ◌<◌, ◌≤◌, ℕ, zero, suc, List, [], length, get_or, map, inl, inr, ◌∙◌, arith}
use Rattle.std.proofs.lemmas.List.{length-map, get_or-map}
use Rattle.std.proofs.lemmas.Bool.{cases_lt}
use Rattle.std.specs.List.Sorted.{IsStrictlyIncreasing}
use Rattle.tc_mem.specs.Pages.{page_number_of}
use Rattle.tc_mem.specs.declared.page.Page.{Page}

-- the number of the page at a place
abbrev pub number_at : List Page → ℕ → ℕ
number_at ps i = get_or (map page_number_of ps) i 0

-- pages before `from` have lower numbers, and pages from `to` on higher ones
pub record Narrowed (ps : List Page) (number from to : ℕ) : Type 0 where
  pub ordered : from ≤ to
  pub within : to ≤ length ps
  pub lower : (k : ℕ) → k < from → number_at ps k < number
  pub higher : (k : ℕ) → to ≤ k → k < length ps → number < number_at ps k

-- ascending numbers ascend from each place to each later one
pub rises : (xs : List ℕ) → IsStrictlyIncreasing xs → (i j : ℕ) → i < j → j < length xs → get_or xs i 0 < get_or xs j 0
rises xs h i zero lt below = absurd (omega arith)
rises xs h i (suc j) lt below =
    let next : j + 1 ≡ suc j = omega arith in
    let last = rw next at (h j (omega arith)) in
    elim (cases_lt i j) [
      | inl l ↦ let before = rises xs h i j l (omega arith) in omega arith
      | inr g ↦ let same : i ≡ j = omega arith in rw same last
    ]

-- a later number is not lower
pub rises_or_stays : (xs : List ℕ) → IsStrictlyIncreasing xs → (i j : ℕ) → i ≤ j → j < length xs → get_or xs i 0 ≤ get_or xs j 0
rises_or_stays xs h i j le below =
    elim (cases_lt i j) [
      | inl l ↦ let strict = rises xs h i j l below in omega arith
      | inr g ↦ let same : i ≡ j = omega arith in rw same (omega arith)
    ]

-- the value of a place after the last page: an empty page
abbrev pub no_page : Page
no_page = record { number = 0; mapped = []; bytes = [] }

pub number_at_is : (ps : List Page) (i : ℕ) → i < length ps → number_at ps i ≡ page_number_of (get_or ps i no_page)
number_at_is ps i lt = get_or-map page_number_of ps i no_page 0 lt

-- a page in the middle has a lower number: go on after it
pub narrowed_up : (ps : List Page) (number from to middle : ℕ) → IsStrictlyIncreasing (map page_number_of ps) → Narrowed ps number from to → middle < to → page_number_of (get_or ps middle no_page) < number → Narrowed ps number (middle + 1) to
narrowed_up ps number from to middle up n below low = record {
  ordered = omega arith;
  within = n.within;
  lower = λ k lt.
      let inside : middle < length (map page_number_of ps) = rw length-map (omega arith) in
      let le = rises_or_stays (map page_number_of ps) up k middle (omega arith) inside in
      let is = number_at_is ps middle (omega arith) in
      omega arith;
  higher = n.higher;
}

-- a page in the middle has a higher number: go on before it
pub narrowed_down : (ps : List Page) (number from to middle : ℕ) → IsStrictlyIncreasing (map page_number_of ps) → Narrowed ps number from to → from ≤ middle → middle < to → page_number_of (get_or ps middle no_page) ≢ number → number ≤ page_number_of (get_or ps middle no_page) → Narrowed ps number from middle
narrowed_down ps number from to middle up n above below other high = record {
  ordered = above;
  within = omega arith;
  lower = n.lower;
  higher = λ k ge lt.
      let inside : k < length (map page_number_of ps) = rw length-map lt in
      let le = rises_or_stays (map page_number_of ps) up middle k ge inside in
      let is = number_at_is ps middle (omega arith) in
      omega arith;
}

-- if no place is left, no page has the number
pub narrowed_out : (ps : List Page) (number from to : ℕ) → Narrowed ps number from to → to ≤ from → (k : ℕ) (d : Page) → k < length ps → page_number_of (get_or ps k d) ≡ number → ⊥
narrowed_out ps number from to n out k d lt e =
    let at : number_at ps k ≡ number = get_or-map page_number_of ps k d 0 lt ∙ e in
    elim (cases_lt k from) [
      | inl l ↦ let low = n.lower k l in absurd (omega arith)
      | inr g ↦ let high = n.higher k (omega arith) lt in absurd (omega arith)
    ]
