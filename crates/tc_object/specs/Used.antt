-- The used names, as a map's test.
use Rattle.std.specs.Prelude.{ℕ, Bool, List, is_some}
use Rattle.std.specs.Borrow.{Bor}
use Rattle.std.specs.HashMap.{HashMap, get_by}
use Rattle.std.specs.Str.{bytes_eq}

-- the map of an object file's symbol names so far has this name
abbrev pub is_used_name : {X S : Type 0} → HashMap (Bor (List ℕ)) X S → List ℕ → Bool
is_used_name names q = is_some (get_by (λ k. bytes_eq q k.now) names)
