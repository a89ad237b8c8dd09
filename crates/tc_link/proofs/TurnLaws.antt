-- Items that are valid in turn.
use Rattle.std.proofs.Common.{[], ◌∷◌, ◌++◌, List}
use Rattle.tc_object.specs.Objects.{AllInTurn}
use Rattle.tc_object.proofs.FromLaws as object

-- if items have a property in turn, so does the list with the next item
pub turn_push : {A : Type 0} (good : List A → A → Type 0) (xs : List A) (x : A) → AllInTurn good [] xs → good xs x → AllInTurn good [] (xs ++ x ∷ [])
turn_push good xs x h g = object.turn_push good [] xs x h g
