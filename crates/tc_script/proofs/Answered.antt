-- The peripheral that has an address.
use Rattle.std.proofs.Common.{◌≡◌, ℕ, zero, suc, ◌+◌, true, false, List, [], ◌∷◌, length, drop, slice_get, Some, sym, ap, ◌∙◌, arith, add-one}
use Rattle.std.specs.Option.{option_map}
use Rattle.std.proofs.lemmas.Bool.{cond-true, cond-false}
use Rattle.tcd_plan.specs.declared.plans.Device.{Device}
use Rattle.tc_script.specs.declared.scripts.AnswerRange.{AnswerRange}
use Rattle.tcd_base.specs.Ranges.{is_within_range}
use Rattle.tc_script.specs.Ports.{device_answer, device_answer_at}

-- what a slice of peripherals reads as past its end
abbrev pub no_device : Device
no_device = record { range = record { at = 0; len = 0 }; lo = 0; hi = 0 }

module _ (x t : ℕ) where
  -- the first peripheral that has it answers
  pub answered : (ds : List Device) (bs : List AnswerRange) (i : ℕ) (d : Device) (w : ℕ) → slice_get ds i ≡ Some d → is_within_range x 1 d.range ≡ true → option_map (λ b. device_answer b t) (slice_get bs i) ≡ Some w → w ≡ device_answer_at (drop i ds) (drop i bs) x t
  answered [] bs i d w here has gives = cc
  answered (e ∷ ds) [] i d w here has gives = cc
  answered (e ∷ ds) (b ∷ bs) zero d w here has gives =
      let same : e ≡ d = cc in
      let is : w ≡ device_answer b t = cc in
      is ∙ sym (cond-true (is_within_range x 1 e.range) (device_answer b t) (device_answer_at ds bs x t) (ap (λ f. is_within_range x 1 f.range) same ∙ has))
  answered (e ∷ ds) (b ∷ bs) (suc i) d w here has gives = answered ds bs i d w here has gives

  passed_suc : (ds : List Device) (bs : List AnswerRange) (i : ℕ) (d : Device) → slice_get ds i ≡ Some d → length bs ≡ length ds → is_within_range x 1 d.range ≡ false → device_answer_at (drop i ds) (drop i bs) x t ≡ device_answer_at (drop (suc i) ds) (drop (suc i) bs) x t
  passed_suc [] bs i d here even hasnt = cc
  passed_suc (e ∷ ds) [] i d here even hasnt = absurd (omega arith)
  passed_suc (e ∷ ds) (b ∷ bs) zero d here even hasnt =
      let same : e ≡ d = cc in cond-false (is_within_range x 1 e.range) (device_answer b t) (device_answer_at ds bs x t) (ap (λ f. is_within_range x 1 f.range) same ∙ hasnt)
  passed_suc (e ∷ ds) (b ∷ bs) (suc i) d here even hasnt = passed_suc ds bs i d here (omega arith) hasnt

  -- one that hasn't it is passed
  pub passed : (ds : List Device) (bs : List AnswerRange) (i : ℕ) (d : Device) → slice_get ds i ≡ Some d → length bs ≡ length ds → is_within_range x 1 d.range ≡ false → device_answer_at (drop i ds) (drop i bs) x t ≡ device_answer_at (drop (i + 1) ds) (drop (i + 1) bs) x t
  passed ds bs i d here even hasnt = passed_suc ds bs i d here even hasnt ∙ ap (λ n. device_answer_at (drop n ds) (drop n bs) x t) (sym (add-one i))
