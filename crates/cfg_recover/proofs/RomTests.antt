-- The test of the plan's rom, by the plan's fields.
use Rattle.std.proofs.Common.{◌≡◌, ℕ, ◌+◌, ◌^◌, ◌≤◌, Bool, ◌∙◌, sym, ap}
use Rattle.std.specs.Prelude.{IsTrue, ◌↔◌}
use Rattle.std.specs.List.{list_any}
use Rattle.tcd_plan.specs.PlanData.{PlanData, IsPlan}
use Rattle.tcd_base.specs.Ranges.{IsInOneRange, is_within_range}
use Rattle.store_ranges.proofs.RomLaws.{any_fits, tests_one}

pub rom_decides : (fields plan : PlanData) (b : Bool) (x n : ℕ) → fields ≡ plan → b ≡ list_any (is_within_range x n) fields.rom → IsTrue b ↔ IsInOneRange x n plan.rom
rom_decides fields plan b x n e t = tests_one b x n fields.rom plan.rom (ap (λ (p : PlanData). p.rom) e) t

pub rom_fits : (fields : PlanData) (b : Bool) (x n : ℕ) → IsPlan fields → b ≡ list_any (is_within_range x n) fields.rom → IsTrue b → x + n ≤ 2 ^ 32
rom_fits fields b x n is t h = any_fits fields x n is (sym t ∙ h)
