-- The values of the code, compared with the data that they stand for.
use Rattle.std.proofs.Common.{Bool, length, ◌≤◌, arith, ℕ, Option, Some, ◌∙◌, sym, ◌≡◌, List, [], ◌∷◌, map, String, string_bytes, refl, ap}
use Rattle.std.specs.declared.alloc.Global.{Global}
use Rattle.std.specs.List.{list_all}
use Rattle.std.specs.Option.{option_map_or}
use Rattle.std.proofs.lemmas.List.{length-map}
use Rattle.std.proofs.lemmas.List.Folds.{list_all-map}
use Rattle.serde_json.specs.Data.{Data, Members}
use Rattle.serde_json.specs.View.{view, items_view, members_view}
use Rattle.serde_json.specs.declared.value.Value.{Value}
use Rattle.tcd_plan.specs.JsonValues.{json_array_elements, json_member_keys}

pub list_of_items : (values : List Value) → json_array_elements (items_view values) ≡ map view values
list_of_items [] = refl
list_of_items (v ∷ values) = ap (λ ds. view v ∷ ds) (list_of_items values)

pub names_of_members : (entries : List (String Global × Value)) → json_member_keys (members_view entries) ≡ map (λ e. string_bytes e.0) entries
names_of_members [] = refl
names_of_members (e ∷ entries) = ap (λ names. string_bytes e.0 ∷ names) (names_of_members entries)

-- a test of each key of the members
pub each_name : (test : List ℕ → Bool) (entries : List (String Global × Value)) (members : Option Members) → Some (members_view entries) ≡ members
    → list_all (λ name. test (string_bytes name)) (map (λ e. e.0) entries) ≡ list_all test (option_map_or json_member_keys members [])
each_name test entries members is =
    list_all-map (λ name. test (string_bytes name)) (λ e. e.0) entries
    ∙ sym (list_all-map test (λ e. string_bytes e.0) entries)
    ∙ ap (list_all test) (sym (names_of_members entries))
    ∙ ap (λ ms. list_all test (option_map_or json_member_keys ms [])) is

pub length-seen : (values : List Value) (ds : List Data) (n : ℕ) → map view values ≡ ds → length ds ≤ n → length values ≤ n
length-seen values ds n same few = let e : length (map view values) ≡ length ds = ap length same in omega (arith, e, length-map values view)
