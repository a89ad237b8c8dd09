-- A boot sequence has a single first reason against it, or none.
use Rattle.std.proofs.Common.{◌≡◌, ℕ, ◌+◌, ◌%◌, ◌⊎◌, inl, inr, true, false, Ok, Err, refl, sym, ap, ◌∙◌, subst, arith}
use Rattle.std.specs.Prelude.{IsSome}
use Rattle.std.proofs.lemmas.Bool.{cases_lt}
use Rattle.elf_image.specs.Images.{ImageData}
use Rattle.tcd_plan.specs.PlanData.{PlanData}
use Rattle.store_ranges.specs.Loads.{IsLoadedRom}
use Rattle.tc_boot.specs.declared.judging.BootErr.{BootErr}
use Rattle.tc_boot.specs.declared.judging.BootErr.TheVariants.{Enabled, Odd, Outside, Differs}
use Rattle.tc_boot.specs.Judging.{HasBoot, IsBootInRom, IsFirstBootDifference, IsBootEventCountOrFirstFault}
use Rattle.tc_boot.specs.Laws.{BootTestHasOneResult}

module _ (image : ImageData) (plan : PlanData) (at : ℕ) where
  -- interrupts are on and off
  on_and_off : plan.start_ie ≡ true → plan.start_ie ≡ false → ⊥
  on_and_off on off = let f : true ≡ false = sym on ∙ off in cc

  -- an address is odd, and both are even
  odd_and_even : (at % 2 ≡ 1) ⊎ (image.entry % 2 ≡ 1) → at % 2 ≡ 0 → image.entry % 2 ≡ 0 → ⊥
  odd_and_even (inl odd) even other = absurd (omega arith)
  odd_and_even (inr odd) even other = absurd (omega arith)

  loaded : IsBootInRom image plan at → IsLoadedRom image plan at 224
  loaded inside = record { in_rom = inside.in_rom; held = λ i lt. subst IsSome (sym (inside.held i lt)) refl }

  -- the sequence is there, or there is a reason against it
  pub not_both : (e : BootErr) → HasBoot image plan at → IsBootEventCountOrFirstFault image plan at (Err e) → ⊥
  not_both Enabled has bad = on_and_off bad has.off
  not_both Odd has bad = odd_and_even bad.1 has.even has.even_entry
  not_both Outside has bad = bad.1 (loaded has.bytes)
  not_both (Differs p) has bad = bad.2.2.differs ((has.bytes).held bad.2.0 bad.2.2.within)

  one_difference : (i j : ℕ) → IsFirstBootDifference image plan at i → IsFirstBootDifference image plan at j → i ≡ j
  one_difference i j a b =
      elim (cases_lt i j) [
        | inl less ↦ absurd (a.differs (b.before i less))
        | inr from ↦ elim (cases_lt j i) [ inl less ↦ absurd (b.differs (a.before j less)) | inr same ↦ omega arith ]
      ]

  one_error : (e f : BootErr) → IsBootEventCountOrFirstFault image plan at (Err e) → IsBootEventCountOrFirstFault image plan at (Err f) → e ≡ f
  one_error Enabled Enabled a b = refl
  one_error Enabled Odd a b = absurd (on_and_off a b.0)
  one_error Enabled Outside a b = absurd (on_and_off a (b.0).off)
  one_error Enabled (Differs q) a b = absurd (on_and_off a (b.0).off)
  one_error Odd Enabled a b = absurd (on_and_off b a.0)
  one_error Odd Odd a b = refl
  one_error Odd Outside a b = absurd (odd_and_even a.1 (b.0).even (b.0).even_entry)
  one_error Odd (Differs q) a b = absurd (odd_and_even a.1 (b.0).even (b.0).even_entry)
  one_error Outside Enabled a b = absurd (on_and_off b (a.0).off)
  one_error Outside Odd a b = absurd (odd_and_even b.1 (a.0).even (a.0).even_entry)
  one_error Outside Outside a b = refl
  one_error Outside (Differs q) a b = absurd (a.1 b.1)
  one_error (Differs p) Enabled a b = absurd (on_and_off b (a.0).off)
  one_error (Differs p) Odd a b = absurd (odd_and_even b.1 (a.0).even (a.0).even_entry)
  one_error (Differs p) Outside a b = absurd (b.1 a.1)
  one_error (Differs p) (Differs q) a b = ap Differs (a.2.1 ∙ ap (λ i. at + i) (one_difference a.2.0 b.2.0 a.2.2 b.2.2) ∙ sym b.2.1)

pub judges_one : BootTestHasOneResult
judges_one image plan at (Ok n) (Ok m) a b = ap Ok (a.1 ∙ sym b.1)
judges_one image plan at (Ok n) (Err f) a b = absurd (not_both image plan at f a.0 b)
judges_one image plan at (Err e) (Ok m) a b = absurd (not_both image plan at e b.0 a)
judges_one image plan at (Err e) (Err f) a b = ap Err (one_error image plan at e f a b)
