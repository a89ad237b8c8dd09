-- The objects and arrays of objects of a plan's document.
use Rattle.std.specs.Prelude.{ℕ, List, ◌∷◌, codes, if◌then◌else◌, option_to_list, unwrap_or, []}
use Rattle.std.specs.List.{list_all}
use Rattle.serde_json.specs.Data.{Data}
use Rattle.serde_json.specs.Find.{get}
use Rattle.tcd_plan.specs.JsonValues.{is_object, json_elements_at}
use Rattle.tcd_plan.specs.declared.key_table.KeyParent.{KeyParent}
use Rattle.tcd_plan.specs.declared.key_table.KeyParent.TheVariants.{Root, Rom, Ram, Devices, Csa, Start, Globals}
use Rattle.tcd_plan.specs.ValueForms.{is_some_and}

-- the elements of an array of objects; if an element is no object, none
abbrev pub array_objects_at : List ℕ → Data → List Data
array_objects_at name d = if is_some_and (list_all is_object) (json_elements_at name d) then unwrap_or (json_elements_at name d) [] else []

-- the objects of a plan's document at one key: the object there, as a list of one; none if no
-- object is there
abbrev pub single_object_at : List ℕ → Data → List Data
single_object_at name d = if is_some_and is_object (get name d) then option_to_list (get name d) else []

-- the objects that a plan's document has for a parent of keys
abbrev pub plan_objects_of : KeyParent → Data → List Data
plan_objects_of Root d = d ∷ []
plan_objects_of Rom d = array_objects_at (codes "rom") d
plan_objects_of Ram d = array_objects_at (codes "ram") d
plan_objects_of Devices d = array_objects_at (codes "devices") d
plan_objects_of Csa d = single_object_at (codes "csa") d
plan_objects_of Start d = single_object_at (codes "start") d
plan_objects_of Globals d = single_object_at (codes "globals") d
