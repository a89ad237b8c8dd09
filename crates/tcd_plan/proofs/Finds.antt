-- Tests of each element, and the first that passes, through a map.
use Rattle.std.proofs.Common.{◌≡◌, Bool, true, false, List, [], ◌∷◌, map, Option, Some, None, option_map, Bor, cond, ◌||◌, refl, sym, ap, ◌∙◌}
use Rattle.std.specs.List.{find, list_any}
use Rattle.tcd_plan.specs.KeyRows.{KeyRow, parent_key, key_parents, key_rows, row_of}
use Rattle.tcd_plan.specs.KeyFaults.{plan_key_of}
use Rattle.tcd_plan.specs.declared.key_table.KeyParent.{KeyParent}
use Rattle.tcd_plan.specs.declared.key_table.Row.{Row}

pub list_any-map : {X Y : Type 0} (test : Y → Bool) (f : X → Y) (xs : List X) → list_any test (map f xs) ≡ list_any (λ x. test (f x)) xs
list_any-map test f [] = refl
list_any-map test f (x ∷ xs) = ap (λ b. test (f x) || b) (list_any-map test f xs)

option_map-cond : {X Y : Type 0} (f : X → Y) (b : Bool) (x : X) (o : Option X) → option_map f (cond b (Some x) o) ≡ cond b (Some (f x)) (option_map f o)
option_map-cond f true x o = refl
option_map-cond f false x o = refl

pub find-map : {X Y : Type 0} (test : Y → Bool) (f : X → Y) (xs : List X) → find test (map f xs) ≡ option_map f (find (λ x. test (f x)) xs)
find-map test f [] = refl
find-map test f (x ∷ xs) = ap (cond (test (f x)) (Some (f x))) (find-map test f xs) ∙ sym (option_map-cond f (test (f x)) x _)

key_of_row : (row : Option (Bor Row)) → option_map (λ r. plan_key_of r.now.key) row ≡ option_map (λ r. plan_key_of r.key) (option_map row_of (option_map (λ r. r.now) row))
key_of_row None = refl
key_of_row (Some r) = refl

-- the key of the row that was found is the first of the list
pub key_found : (test : KeyRow → Bool) (rows : List Row) (row : Option (Bor Row)) → map row_of rows ≡ key_rows → option_map (λ r. r.now) row ≡ find (λ r. test (row_of r)) rows
    → option_map (λ r. plan_key_of r.now.key) row ≡ option_map (λ r. plan_key_of r.key) (find test key_rows)
key_found test rows row same is =
    key_of_row row ∙ ap (λ o. option_map (λ r. plan_key_of r.key) (option_map row_of o)) is ∙ ap (option_map (λ r. plan_key_of r.key)) (sym (find-map test row_of rows) ∙ ap (find test) same)

key_of_holder : (parent : Option (Bor KeyParent)) → option_map (λ h. plan_key_of (parent_key h.now)) parent ≡ option_map (λ h. plan_key_of (parent_key h)) (option_map (λ h. h.now) parent)
key_of_holder None = refl
key_of_holder (Some h) = refl

pub holder_found : (test : KeyParent → Bool) (parent : Option (Bor KeyParent)) → option_map (λ h. h.now) parent ≡ find test key_parents
    → option_map (λ h. plan_key_of (parent_key h.now)) parent ≡ option_map (λ h. plan_key_of (parent_key h)) (find test key_parents)
holder_found test parent is = key_of_holder parent ∙ ap (option_map (λ h. plan_key_of (parent_key h))) is
