-- The first pair of ranges that share a byte.
use Rattle.std.proofs.Common.{◌≡◌, ℕ, ◌+◌, ◌-◌, ◌<◌, List, [], ◌∷◌, ◌++◌, length, map, get_or, take, drop, Option, Some, not, refl, sym, ap, ◌∙◌, arith}
use Rattle.std.specs.List.{position}
use Rattle.std.specs.Option.{option_map_or}
use Rattle.std.proofs.lemmas.List.{at_drop_more, take_all, length-drop}
use Rattle.serde_json.specs.Data.{Data}
use Rattle.tcd_base.specs.declared.range.Range.{Range}
use Rattle.tcd_plan.specs.PlanData.{all_ranges, areas_range, are_ranges_disjoint, first_overlap_from}
use Rattle.tcd_plan.specs.Objects.{plan_objects_of}
use Rattle.tcd_plan.specs.PlanReader.{plan_device_of, plan_range_of, unchecked_plan_of}
use Rattle.tcd_plan.specs.declared.key_table.KeyParent.TheVariants.{Rom, Ram, Devices}
use Rattle.tcd_plan.specs.declared.plans.PlanErr.TheVariants.{Overlap}

abbrev pub sharing : Range → List Range → Option ℕ
sharing r rs = position (λ s. not (are_ranges_disjoint r s)) rs

-- one range after another: the answer of the ranges after it, else that of the later ones
pub overlap_step : (ranges : List Range) (i : ℕ) (r : Range) (found : Option ℕ) → i < length ranges → found ≡ sharing (get_or ranges i r) (take (length ranges - (i + 1)) (drop (i + 1) ranges))
    → first_overlap_from i (drop i ranges) ≡ option_map_or (λ k. Some (Overlap i (i + 1 + k))) found (first_overlap_from (i + 1) (drop (i + 1) ranges))
overlap_step ranges i r found within is =
    let all : take (length ranges - (i + 1)) (drop (i + 1) ranges) ≡ drop (i + 1) ranges = take_all _ _ (omega (arith, length-drop (i + 1) ranges)) in
    at_drop_more (first_overlap_from i) ranges i r within
    ∙ ap (λ o. option_map_or (λ k. Some (Overlap i (i + 1 + k))) o (first_overlap_from (i + 1) (drop (i + 1) ranges))) (sym (is ∙ ap (sharing (get_or ranges i r)) all))

pub ranges_of_devices : (objects : List Data) → map (λ d. d.range) (map plan_device_of objects) ≡ map plan_range_of objects
ranges_of_devices [] = refl
ranges_of_devices (o ∷ objects) = ap (λ rs. plan_range_of o ∷ rs) (ranges_of_devices objects)

-- rom, ram, peripherals and the save areas, one after another
pub all_gathered : (d : Data) (rom ram devices all : List Range) → rom ≡ map plan_range_of (plan_objects_of Rom d) → ram ≡ rom ++ map plan_range_of (plan_objects_of Ram d) → devices ≡ ram ++ map plan_range_of (plan_objects_of Devices d)
    → all ≡ devices ++ areas_range (unchecked_plan_of d) ∷ [] → all ≡ all_ranges (unchecked_plan_of d)
unfolding unchecked_plan_of
all_gathered d rom ram devices all is_rom is_ram is_devices is_all =
    let e = ranges_of_devices (plan_objects_of Devices d) in cc
