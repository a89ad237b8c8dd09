-- Names that are all different.
use Rattle.std.specs.Prelude.{ℕ, List, ◌∷◌, ◌&&◌, not, Bool, true, []}
use Rattle.std.specs.List.{list_any}
use Rattle.std.specs.Str.{bytes_eq}

-- the names are distinct: no name is there twice
abbrev pub are_distinct_names : List (List ℕ) → Bool
are_distinct_names [] = true
are_distinct_names (name ∷ names) = not (list_any (bytes_eq name) names) && are_distinct_names names
