-- A document that isn't refused gives a plan.
use Rattle.std.proofs.Common.{◌≡◌, ℕ, ◌+◌, ◌*◌, ◌%◌, ◌/◌, ◌<◌, ◌≤◌, ◌^◌, true, List, codes, length, map, get_or, None, ◌==◌, nat_le, nat_lt, arith, lit<}
use Rattle.std.proofs.lemmas.Bool.{and_parts, leb-true, ltb-true, eqb-true}
use Rattle.std.proofs.lemmas.List.{length-map}
use Rattle.serde_json.specs.Data.{Data}
use Rattle.tcd_plan.specs.Objects.{plan_objects_of}
use Rattle.tcd_plan.specs.JsonValues.{json_elements_or_empty, json_nested_number}
use Rattle.tcd_plan.specs.PlanData.{PlanData, are_valid_areas, are_ranges_within_limits, has_valid_areas, has_even_vector_bases, keys_over_limit, first_oversized_array, plan_range_overlap}
use Rattle.tcd_plan.specs.PlanReader.{HasShortPlanArrays, plan_device_of, plan_irq_of, plan_range_of, plan_refusal, plan_refusals, unchecked_plan_of}
use Rattle.tcd_plan.specs.KeyFaults.{first_key_with_bad_value}
use Rattle.tcd_plan.specs.declared.plans.PlanErr.TheVariants.{BadValue, TooMany, BadCsa, BadVector}
use Rattle.tcd_base.specs.declared.range.Range.{Range}
use Rattle.tcd_plan.specs.declared.key_table.KeyParent.TheVariants.{Rom, Ram, Devices}
use Rattle.tcd_plan.proofs.Small.{first_some_none, key_none, option_map_none, where_none}

-- the limits of the save areas, over numbers
pub record AreasHold (at areas reserve : ℕ) : Type 0 where
  pub some : 1 ≤ areas
  pub few : areas ≤ 4096
  pub reserved : 1 ≤ reserve
  pub reserve_within : reserve ≤ areas
  pub aligned : at % 64 ≡ 0
  pub in_segment : at / 2 ^ 22 % 2 ^ 6 ≡ 0
  pub not_zero : 0 < at
  pub fit : at % 2 ^ 22 + 64 * areas ≤ 2 ^ 22

pub record IsAccepted (d : Data) : Type 0 where
  pub bad_value : first_key_with_bad_value d ≡ None
  pub too_many : first_oversized_array (unchecked_plan_of d) ≡ None
  pub areas : has_valid_areas (unchecked_plan_of d) ≡ true
  pub vectors : has_even_vector_bases (unchecked_plan_of d) ≡ true
  pub overlap : plan_range_overlap (unchecked_plan_of d) ≡ None

stands : (d : Data) → plan_refusal d ≡ None → (i : ℕ) → i < 8 → get_or (plan_refusals d) i None ≡ None
unfolding plan_refusal
stands d e i within = first_some_none (plan_refusals d) i e within

pub accepted : (d : Data) → plan_refusal d ≡ None → IsAccepted d
accepted d e =
    record {
      bad_value = option_map_none BadValue (first_key_with_bad_value d) (stands d e 3 (lit< tt));
      too_many = option_map_none TooMany (first_oversized_array (unchecked_plan_of d)) (stands d e 4 (lit< tt));
      areas = where_none (has_valid_areas (unchecked_plan_of d)) BadCsa (stands d e 5 (lit< tt));
      vectors = where_none (has_even_vector_bases (unchecked_plan_of d)) BadVector (stands d e 6 (lit< tt));
      overlap = stands d e 7 (lit< tt);
    }

-- the tests of a document's values, one by one
pub few_ranges : (p : PlanData) → first_oversized_array p ≡ None → (are_ranges_within_limits p.rom ≡ true) × (are_ranges_within_limits p.ram ≡ true) × (nat_le (length p.devices) 16 ≡ true) × (nat_le (length p.irqs) 32 ≡ true)
unfolding first_oversized_array
few_ranges p e = (
  key_none (are_ranges_within_limits p.rom) 1 (first_some_none (keys_over_limit p) 0 e (lit< tt)),
  key_none (are_ranges_within_limits p.ram) 4 (first_some_none (keys_over_limit p) 1 e (lit< tt)),
  key_none (nat_le (length p.devices) 16) 7 (first_some_none (keys_over_limit p) 2 e (lit< tt)),
  key_none (nat_le (length p.irqs) 32) 20 (first_some_none (keys_over_limit p) 3 e (lit< tt)),
)

few_of : (rs : List Range) → are_ranges_within_limits rs ≡ true → length rs ≤ 16
few_of rs e = leb-true _ _ (and_parts (nat_le (length rs) 16) _ e).0

pub are_areas_parts : (at areas reserve : ℕ) → are_valid_areas at areas reserve ≡ true → AreasHold at areas reserve
are_areas_parts at areas reserve e =
    let fit = and_parts _ (nat_le (at % 2 ^ 22 + 64 * areas) (2 ^ 22)) e in
    let not_zero = and_parts _ (nat_lt 0 at) fit.0 in
    let segment = and_parts _ (at / 2 ^ 22 % 2 ^ 6 == 0) not_zero.0 in
    let aligned = and_parts _ (at % 64 == 0) segment.0 in
    let within = and_parts _ (nat_le reserve areas) aligned.0 in
    let reserved = and_parts _ (nat_le 1 reserve) within.0 in
    let few = and_parts (nat_le 1 areas) (nat_le areas 4096) reserved.0 in
    record {
      some = leb-true _ _ few.0;
      few = leb-true _ _ few.1;
      reserved = leb-true _ _ reserved.1;
      reserve_within = leb-true _ _ within.1;
      aligned = eqb-true _ _ aligned.1;
      in_segment = eqb-true _ _ segment.1;
      not_zero = ltb-true _ _ not_zero.1;
      fit = leb-true _ _ fit.1;
    }

pub few_arrays : (d : Data) → first_oversized_array (unchecked_plan_of d) ≡ None → has_valid_areas (unchecked_plan_of d) ≡ true → HasShortPlanArrays d
unfolding unchecked_plan_of has_valid_areas
few_arrays d many areas =
    let few = few_ranges (unchecked_plan_of d) many in
    let rom = few_of (map plan_range_of (plan_objects_of Rom d)) few.0 in
    let ram = few_of (map plan_range_of (plan_objects_of Ram d)) few.1 in
    let devices = leb-true (length (map plan_device_of (plan_objects_of Devices d))) 16 few.2 in
    let irqs = leb-true (length (map plan_irq_of (json_elements_or_empty (codes "irqs") d))) 32 few.3 in
    record {
      rom = omega (arith, rom, length-map (plan_objects_of Rom d) plan_range_of);
      ram = omega (arith, ram, length-map (plan_objects_of Ram d) plan_range_of);
      devices = omega (arith, devices, length-map (plan_objects_of Devices d) plan_device_of);
      irqs = omega (arith, irqs, length-map (json_elements_or_empty (codes "irqs") d) plan_irq_of);
      areas = (are_areas_parts (json_nested_number (codes "csa") (codes "at") d) (json_nested_number (codes "csa") (codes "areas") d) (json_nested_number (codes "csa") (codes "reserve") d) areas).few;
    }
