-- The pages of ranges.
use Rattle.std.proofs.Common.{◌≡◌, ◌≢◌, ◌/◌, ◌<◌, ℕ, Bool, cond, List, map, length, get_or, All, Contains, IsTrue, Option, Some, None, inl, inr, sym, ap, ◌∙◌, subst, arith}
use Rattle.std.specs.List.Sorted.{IsStrictlyIncreasing}
use Rattle.std.proofs.lemmas.List.{length-map}
use Rattle.std.proofs.lemmas.List.Elements.{All-get_or, All-from_get_or}
use Rattle.tc_mem.proofs.Search.{no_page, number_at_is}
use Rattle.tc_mem.proofs.Mapped.{get-memory_of, byte_in_found, byte_in_none}
use Rattle.tc_mem.proofs.Numbers.{place_of, not_contained}
use Rattle.tc_mem.proofs.AreaLaws.{not_true}
use Rattle.tc_mem.specs.Pages.{page_byte_at, memory_of, IsPage, AreOrderedPages, ArePageBytesSmall, AreMemoryPages, page_number_of}
use Rattle.tc_mem.specs.PlanMemory.{IsMemoryOfZeros}
use Rattle.tcd_base.specs.Ranges.{is_address_in_ranges}
use Rattle.tc_mem.specs.declared.page.Page.{Page}
use Rattle.tcd_base.specs.declared.range.Range.{Range}

-- a page in which the bytes of the ranges are zeros, and no others are mapped
abbrev pub IsZeroPage : List Range → Page → Type 0
IsZeroPage ranges p = (q : ℕ) → q / 4096 ≡ page_number_of p → page_byte_at q p ≡ cond (is_address_in_ranges ranges q) (Some 0) None

-- the zero pages of these numbers
pub record AreMade (ranges : List Range) (numbers : List ℕ) (ps : List Page) : Type 0 where
  pub numbers_are : map page_number_of ps ≡ numbers
  pub pages : All IsPage ps
  pub zeros : All (IsZeroPage ranges) ps
  pub small : ArePageBytesSmall ps

-- zero pages with ascending numbers are the pages of a memory
pub made_mem : (ranges : List Range) (numbers : List ℕ) (ps : List Page) → AreMade ranges numbers ps → IsStrictlyIncreasing numbers → AreMemoryPages ps
made_mem ranges numbers ps made rising = record {
  pages = record { whole = made.pages; rising = subst IsStrictlyIncreasing (sym made.numbers_are) rising };
  small = made.small;
}

-- zero pages with ascending numbers, for all the numbers that the ranges need, map the ranges to
-- zeros
pub made_zeros : (ranges : List Range) (numbers : List ℕ) (ps : List Page) → AreMade ranges numbers ps → IsStrictlyIncreasing numbers → ((q : ℕ) → IsTrue (is_address_in_ranges ranges q) → Contains numbers (q / 4096)) → IsMemoryOfZeros ranges (memory_of ps)
made_zeros ranges numbers ps made rising all q =
    let pages : AreOrderedPages ps = record { whole = made.pages; rising = subst IsStrictlyIncreasing (sym made.numbers_are) rising } in
    let size : length (map page_number_of ps) ≡ length ps = simp length-map in
    get-memory_of ps q made.pages
    ∙ elim (place_of (map page_number_of ps) (q / 4096)) [
      | inl found ↦
          let i : ℕ = found.0 in
          let lt : i < length ps = omega (arith, found.1) in
          let number : page_number_of (get_or ps i no_page) ≡ q / 4096 = sym (number_at_is ps i lt) ∙ found.2 in
          byte_in_found q ps i pages lt number ∙ All-get_or (IsZeroPage ranges) ps i no_page lt made.zeros q (sym number)
      | inr none ↦
          byte_in_none q ps (All-from_get_or (λ p. page_number_of p ≢ q / 4096) ps no_page (λ k h e. none k (omega (arith, h)) (number_at_is ps k h ∙ e)))
          ∙ ap (λ (t : Bool). cond {A = Option ℕ} t (Some 0) None) (sym (not_true (is_address_in_ranges ranges q) (λ h. not_contained (map page_number_of ps) (q / 4096) none (subst (λ (ns : List ℕ). Contains ns (q / 4096)) (sym made.numbers_are) (all q h)))))
    ]
