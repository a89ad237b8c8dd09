-- A document that isn't refused gives a plan.
use Rattle.std.proofs.Common.{◌≡◌, ℕ, ◌<◌, ◌≤◌, ◌^◌, ◌%◌, Bool, true, ◌==◌, nat_lt, List, [], ◌∷◌, codes, length, map, None, Some, Option, sum_by, ◌+◌, nat_le, refl, arith}
use Rattle.std.specs.List.{list_all}
use Rattle.std.specs.Option.{option_map_or}
use Rattle.std.proofs.lemmas.Bool.{and_from, and_parts, eqb-true, leb-true, lt-ltb, ltb-true}
use Rattle.std.proofs.lemmas.List.{length-map}
use Rattle.serde_json.specs.Data.{Data}
use Rattle.serde_json.specs.Find.{get}
use Rattle.tcd_base.specs.declared.range.Range.{Range}
use Rattle.tcd_plan.specs.Objects.{plan_objects_of}
use Rattle.tcd_plan.specs.JsonValues.{json_elements_or_empty, json_elements_at, json_number_or_zero, json_nested_number}
use Rattle.tcd_plan.specs.ValueForms.{are_irqs_above, has_value_form}
use Rattle.tcd_plan.specs.PlanData.{ArePlanAreas, ArePlanIrqs, ArePlanRanges, ArePlanWords, IsPlan, PlanData, are_all_ranges_disjoint, all_ranges, are_ranges_disjoint, are_ranges_within_limits, has_valid_areas, has_even_vector_bases, first_overlap_from, plan_range_overlap}
use Rattle.tcd_plan.specs.PlanReader.{plan_range_of, plan_refusal, unchecked_plan_of}
use Rattle.tcd_plan.specs.KeyFaults.{first_key_with_bad_value}
use Rattle.tcd_plan.specs.declared.plans.PlanErr.TheVariants.{Overlap}
use Rattle.tcd_plan.specs.declared.key_table.ValueForm.TheVariants.{Irqs, Object, Ranges}
use Rattle.tcd_plan.specs.declared.key_table.KeyParent.TheVariants.{Devices, Ram, Rom}
use Rattle.tcd_plan.proofs.Accepted.{IsAccepted, accepted, are_areas_parts, few_ranges}
use Rattle.tcd_plan.proofs.Forms.{devices_at, devices_hi, devices_len, irqs_form, ram_at, ram_len, rom_at, rom_form, rom_len, start_ccpn, start_form}
use Rattle.tcd_plan.proofs.Pieces.{devices_are, inner_word, irqs_each, irqs_rise, ranges_are, some_objects}
use Rattle.tcd_plan.proofs.Small.{no_position, passes-unwrap_or}
use Rattle.tcd_plan.proofs.Words.{word_at-lt, word_in-lt}

-- what holds of the whole document, as the only object of its list
alone : (test : Data → Bool) (d : Data) → list_all test (d ∷ []) ≡ true → test d ≡ true
alone test d e = (and_parts (test d) true e).0

pub ascending : (d : Data) → first_key_with_bad_value d ≡ None → are_irqs_above 0 (json_elements_or_empty (codes "irqs") d) ≡ true
ascending d e = passes-unwrap_or (are_irqs_above 0) (json_elements_at (codes "irqs") d) [] (alone (has_value_form Irqs (codes "irqs")) d (irqs_form d e))

pub ccpn-lt : (d : Data) → first_key_with_bad_value d ≡ None → json_nested_number (codes "start") (codes "ccpn") d < 2 ^ 8
ccpn-lt d e =
    ltb-true _ _ (inner_word (λ n. nat_lt n 256) (codes "ccpn") (get (codes "start") d) (alone (has_value_form Object (codes "start")) d (start_form d e)) (start_ccpn d e))

rom_some : (d : Data) → first_key_with_bad_value d ≡ None → 0 < length (plan_objects_of Rom d)
rom_some d e = some_objects (json_elements_at (codes "rom") d) (alone (has_value_form Ranges (codes "rom")) d (rom_form d e))

sum_of : (rs : List Range) → are_ranges_within_limits rs ≡ true → sum_by (λ r. r.len) rs ≤ 2 ^ 22
sum_of rs e = leb-true _ _ (and_parts (nat_le (length rs) 16) _ e).1

are_ranges : (d : Data) → IsAccepted d → ArePlanRanges (unchecked_plan_of d)
unfolding unchecked_plan_of
are_ranges d a =
    let few = few_ranges (unchecked_plan_of d) a.too_many in
    let some = rom_some d a.bad_value in
    record {
      some = omega (arith, some, length-map (plan_objects_of Rom d) plan_range_of);
      few_rom = leb-true _ _ (and_parts (nat_le (length (map plan_range_of (plan_objects_of Rom d))) 16) _ few.0).0;
      few_ram = leb-true _ _ (and_parts (nat_le (length (map plan_range_of (plan_objects_of Ram d))) 16) _ few.1).0;
      few_devices = leb-true _ _ few.2;
      rom = ranges_are (plan_objects_of Rom d) (rom_at d a.bad_value) (rom_len d a.bad_value);
      ram = ranges_are (plan_objects_of Ram d) (ram_at d a.bad_value) (ram_len d a.bad_value);
      devices = devices_are (plan_objects_of Devices d) (devices_at d a.bad_value) (devices_len d a.bad_value) (devices_hi d a.bad_value);
      small_rom = sum_of (map plan_range_of (plan_objects_of Rom d)) few.0;
      small_ram = sum_of (map plan_range_of (plan_objects_of Ram d)) few.1;
    }

are_areas : (d : Data) → IsAccepted d → ArePlanAreas (unchecked_plan_of d)
unfolding unchecked_plan_of has_valid_areas
are_areas d a =
    let hold = are_areas_parts (json_nested_number (codes "csa") (codes "at") d) (json_nested_number (codes "csa") (codes "areas") d) (json_nested_number (codes "csa") (codes "reserve") d) a.areas in
    record {
      some = hold.some;
      few = hold.few;
      reserved = hold.reserved;
      reserve_within = hold.reserve_within;
      word = word_in-lt (codes "csa") (codes "at") d;
      not_zero = hold.not_zero;
      aligned = hold.aligned;
      in_segment = hold.in_segment;
      fit = hold.fit;
    }

words_small : (d : Data) (names : List (List ℕ)) → list_all (λ w. nat_lt w (2 ^ 32)) (map (λ name. json_nested_number (codes "globals") name d) names) ≡ true
words_small d [] = refl
words_small d (name ∷ names) = and_from _ _ (lt-ltb _ _ (word_in-lt (codes "globals") name d)) (words_small d names)

are_words : (d : Data) → IsAccepted d → ArePlanWords (unchecked_plan_of d)
unfolding unchecked_plan_of has_even_vector_bases
are_words d a =
    let even = and_parts (json_number_or_zero (codes "biv") d % 2 == 0) (json_number_or_zero (codes "btv") d % 2 == 0) a.vectors in
    record {
      sp = word_at-lt (codes "sp") d;
      isp = word_at-lt (codes "isp") d;
      biv = word_at-lt (codes "biv") d;
      btv = word_at-lt (codes "btv") d;
      even_biv = eqb-true _ _ even.0;
      even_btv = eqb-true _ _ even.1;
      ccpn = ccpn-lt d a.bad_value;
      four = refl;
      globals = words_small d (codes "a0" ∷ codes "a1" ∷ codes "a8" ∷ codes "a9" ∷ []);
    }

are_irqs : (d : Data) → IsAccepted d → ArePlanIrqs (unchecked_plan_of d).irqs
unfolding unchecked_plan_of
are_irqs d a =
    let few = few_ranges (unchecked_plan_of d) a.too_many in
    record {
      few = leb-true _ _ few.3;
      rising = irqs_rise 0 (json_elements_or_empty (codes "irqs") d) (ascending d a.bad_value);
      each = irqs_each 0 (json_elements_or_empty (codes "irqs") d) (ascending d a.bad_value);
    }

after_none : {T : Type 0} (f : ℕ → T) (rest : Option T) (o : Option ℕ) → option_map_or (λ k. Some (f k)) o rest ≡ None → (o ≡ None) × (rest ≡ None)
after_none f rest None e = (refl, e)
after_none f rest (Some k) e = cc

apart_from : (i : ℕ) (rs : List Range) → first_overlap_from i rs ≡ None → are_all_ranges_disjoint rs ≡ true
apart_from i [] e = refl
apart_from i (r ∷ rs) e =
    let parts = after_none (λ k. Overlap i (i + 1 + k)) (first_overlap_from (i + 1) rs) _ e in
    and_from _ _ (no_position (are_ranges_disjoint r) rs parts.0) (apart_from (i + 1) rs parts.1)

are_apart : (p : PlanData) → plan_range_overlap p ≡ None → are_all_ranges_disjoint (all_ranges p) ≡ true
unfolding plan_range_overlap
are_apart p e = apart_from 0 (all_ranges p) e

pub tells_plan : (d : Data) → plan_refusal d ≡ None → IsPlan (unchecked_plan_of d)
tells_plan d e =
    let a = accepted d e in
    record {
      ranges = are_ranges d a;
      areas = are_areas d a;
      words = are_words d a;
      irqs = are_irqs d a;
      apart = are_apart (unchecked_plan_of d) a.overlap;
    }
