-- Each key that a refusal names has a text.
use Rattle.std.proofs.Common.{◌≡◌, ℕ, ◌+◌, ◌<◌, Bool, true, false, not, cond, nat_lt, nat_le, List, [], ◌∷◌, length, Option, Some, None, option_map, IfSome, refl, subst, lit<}
use Rattle.std.specs.List.{find, list_all, list_any, position}
use Rattle.std.specs.Option.{option_map_or, option_or}
use Rattle.std.proofs.lemmas.Bool.{and_parts, ltb-true}
use Rattle.serde_json.specs.Data.{Data}
use Rattle.tcd_base.specs.declared.range.Range.{Range}
use Rattle.tcd_plan.specs.KeyRows.{KeyRow, parent_key, key_parents, key_rows}
use Rattle.tcd_plan.specs.Objects.{plan_objects_of}
use Rattle.tcd_plan.specs.KeyFaults.{has_unknown_key, is_key_value_bad, lacks_key, first_key_with_bad_value, first_key_where, first_missing_key, plan_key_of, first_object_with_unknown_key}
use Rattle.tcd_plan.specs.PlanData.{PlanData, all_ranges, are_ranges_disjoint, are_ranges_within_limits, key_unless, has_valid_areas, has_even_vector_bases, first_oversized_array, first_overlap_from, plan_range_overlap}
use Rattle.tcd_plan.specs.PlanReader.{HasPrintedKey, plan_refusal, unchecked_plan_of, refusal_if}
use Rattle.tcd_plan.specs.JsonValues.{is_object}
use Rattle.tcd_plan.specs.declared.plans.PlanErr.{PlanErr}
use Rattle.tcd_plan.specs.declared.plans.PlanErr.TheVariants.{NotJson, Missing, Unknown, BadValue, TooMany, BadCsa, BadVector, Overlap}
use Rattle.tcd_plan.specs.declared.plans.PlanKey.{PlanKey}
use Rattle.tcd_plan.specs.declared.key_table.KeyParent.{KeyParent}
use Rattle.tcd_plan.specs.declared.key_table.KeyParent.TheVariants.{Root}

abbrev IsKey : PlanKey → Type 0
IsKey key = key.0 < 32

either : {T : Type 0} (P : T → Type 0) (a b : Option T) → IfSome a P → IfSome b P → IfSome (option_or a b) P
either P None b ha hb = hb
either P (Some x) b ha hb = ha

found_passes : {T : Type 0} (test good : T → Bool) (xs : List T) → list_all good xs ≡ true → IfSome (find test xs) (λ x. good x ≡ true)
found_passes test good [] e = tt
found_passes {T} test good (x ∷ xs) e =
    let parts = and_parts (good x) (list_all good xs) e in
    elim (test x) as (λ b. IfSome (cond b (Some x) (find test xs)) (λ y. good y ≡ true)) [ true ↦ parts.0 | false ↦ found_passes test good xs parts.1 ]

keyed : (o : Option KeyRow) → IfSome o (λ r. nat_lt r.key 32 ≡ true) → IfSome (option_map (λ r. plan_key_of r.key) o) IsKey
keyed None h = tt
keyed (Some r) h = ltb-true r.key 32 h

keys_small : list_all (λ r. nat_lt r.key 32) key_rows ≡ true
unfolding key_rows
keys_small = refl

first_key-small : (test : KeyRow → Data → Bool) (d : Data) → IfSome (first_key_where test d) IsKey
first_key-small test d = keyed _ (found_passes (λ r. list_any (test r) (plan_objects_of r.parent d)) (λ r. nat_lt r.key 32) key_rows keys_small)

missing-small : (d : Data) → IfSome (first_missing_key d) IsKey
unfolding first_missing_key
missing-small d = first_key-small lacks_key d

bad_value-small : (d : Data) → IfSome (first_key_with_bad_value d) IsKey
unfolding first_key_with_bad_value
bad_value-small d = first_key-small is_key_value_bad d

holder_small : (h : KeyParent) → parent_key h < 32
holder_small Root = lit< tt
holder_small _ = lit< tt

held : (o : Option KeyParent) → IfSome (option_map (λ h. plan_key_of (parent_key h)) o) IsKey
held None = tt
held (Some h) = holder_small h

unknown-small : (d : Data) → IfSome (first_object_with_unknown_key d) IsKey
unfolding first_object_with_unknown_key
unknown-small d = held (find (λ h. list_any (has_unknown_key h) (plan_objects_of h d)) key_parents)

unless_few : (b : Bool) (key : ℕ) → IsKey (plan_key_of key) → IfSome (key_unless b key) IsKey
unless_few true key h = tt
unless_few false key h = h

too_many-small : (p : PlanData) → IfSome (first_oversized_array p) IsKey
unfolding first_oversized_array
too_many-small p =
    either IsKey (key_unless (are_ranges_within_limits p.rom) 1) _ (unless_few (are_ranges_within_limits p.rom) 1 (lit< tt))
    (either IsKey (key_unless (are_ranges_within_limits p.ram) 4) _ (unless_few (are_ranges_within_limits p.ram) 4 (lit< tt))
    (either IsKey (key_unless (nat_le (length p.devices) 16) 7) _ (unless_few (nat_le (length p.devices) 16) 7 (lit< tt))
    (either IsKey (key_unless (nat_le (length p.irqs) 32) 20) None (unless_few (nat_le (length p.irqs) 32) 20 (lit< tt)) tt)))

wrapped : (err : PlanKey → PlanErr) (o : Option PlanKey) → ((key : PlanKey) → IsKey key → HasPrintedKey (err key)) → IfSome o IsKey → IfSome (option_map err o) HasPrintedKey
wrapped err None tells h = tt
wrapped err (Some key) tells h = tells key h

stated : (b : Bool) (err : PlanErr) → HasPrintedKey err → IfSome (refusal_if b err) HasPrintedKey
stated true err h = h
stated false err h = tt

paired : (i : ℕ) (o : Option ℕ) (rest : Option PlanErr) → IfSome rest HasPrintedKey → IfSome (option_map_or (λ k. Some (Overlap i (i + 1 + k))) o rest) HasPrintedKey
paired i None rest h = h
paired i (Some k) rest h = tt

overlap-text : (i : ℕ) (rs : List Range) → IfSome (first_overlap_from i rs) HasPrintedKey
overlap-text i [] = tt
overlap-text i (r ∷ rs) = paired i (position (λ s. not (are_ranges_disjoint r s)) rs) (first_overlap_from (i + 1) rs) (overlap-text (i + 1) rs)

overlap_of-text : (p : PlanData) → IfSome (plan_range_overlap p) HasPrintedKey
unfolding plan_range_overlap
overlap_of-text p = overlap-text 0 (all_ranges p)

pub refusal_of-text : (d : Data) → IfSome (plan_refusal d) HasPrintedKey
unfolding plan_refusal
refusal_of-text d =
    either HasPrintedKey (refusal_if (not (is_object d)) NotJson) _ (stated _ NotJson tt)
    (either HasPrintedKey (option_map Missing (first_missing_key d)) _ (wrapped Missing _ (λ key h. h) (missing-small d))
    (either HasPrintedKey (option_map Unknown (first_object_with_unknown_key d)) _ (wrapped Unknown _ (λ key h. h) (unknown-small d))
    (either HasPrintedKey (option_map BadValue (first_key_with_bad_value d)) _ (wrapped BadValue _ (λ key h. h) (bad_value-small d))
    (either HasPrintedKey (option_map TooMany (first_oversized_array (unchecked_plan_of d))) _ (wrapped TooMany _ (λ key h. h) (too_many-small (unchecked_plan_of d)))
    (either HasPrintedKey (refusal_if (not (has_valid_areas (unchecked_plan_of d))) BadCsa) _ (stated _ BadCsa tt)
    (either HasPrintedKey (refusal_if (not (has_even_vector_bases (unchecked_plan_of d))) BadVector) _ (stated _ BadVector tt)
    (either HasPrintedKey (plan_range_overlap (unchecked_plan_of d)) None (overlap_of-text (unchecked_plan_of d)) tt)))))))

pub refused-text : (d : Data) (err : PlanErr) → plan_refusal d ≡ Some err → HasPrintedKey err
refused-text d err e = let P : Option PlanErr → Type 0 = λ o. IfSome o HasPrintedKey in subst P e (refusal_of-text d)
