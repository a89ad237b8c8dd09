-- What a meet of values gives: the cover of the words in it, or none if there are no words.
use Rattle.std.specs.Prelude.{ℕ, Bool, true, false, List, ◌∷◌, Option, Some, None, []}
use Rattle.value_domain.specs.declared.values.Val.{Val}
use Rattle.value_domain.specs.Limits.{Limits}
use Rattle.value_domain.specs.Values.{cover}

-- the cover of these words, the common members of values that meet; none if there are no words
abbrev pub cover_if_any : Limits → List ℕ → Option Val
cover_if_any b [] = None
cover_if_any b (x ∷ xs) = Some (cover b (x ∷ xs))

-- the value of a meet of abstract values, or none if no common member was found
abbrev pub value_if_found : Bool → Val → Option Val
value_if_found true v = Some v
value_if_found false v = None
