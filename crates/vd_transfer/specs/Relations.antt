-- Conditions as relations, and the words that are in a relation to some word of a set.
use Rattle.std.specs.Prelude.{Bool, not, if◌then◌else◌, ◌<◌, ◌≤◌, ℕ, nat_lt, nat_le, ◌==◌, List, ◌⊎◌, filter}
use Rattle.tc_isa.specs.declared.shapes.Cond.{Cond}
use Rattle.tc_isa.specs.declared.shapes.Cond.TheVariants as cond
use Rattle.vd_transfer.specs.declared.refinement.Relation.{Relation}
use Rattle.vd_transfer.specs.declared.refinement.Relation.TheVariants.{Same, Other, Less, AtLeast, More, AtMost}
use Rattle.std.specs.List.{list_any}

-- the relation between a branch's operands on one of its sides: if the branch is taken (the side is
-- true), or if not
unfoldable pub operand_relation : Cond → Bool → Relation
operand_relation cond.Eq side = if side then Same else Other
operand_relation cond.Ne side = if side then Other else Same
operand_relation cond.Lt side = if side then Less else AtLeast
operand_relation cond.LtU side = if side then Less else AtLeast
operand_relation cond.Ge side = if side then AtLeast else Less
operand_relation cond.GeU side = if side then AtLeast else Less

-- the relation with its operands exchanged
unfoldable pub converse : Relation → Relation
converse Same = Same
converse Other = Other
converse Less = More
converse AtLeast = AtMost
converse More = Less
converse AtMost = AtLeast

-- a word is in a relation to another
unfoldable pub is_related : Relation → ℕ → ℕ → Bool
is_related Same x y = x == y
is_related Other x y = not (x == y)
is_related Less x y = nat_lt x y
is_related AtLeast x y = nat_le y x
is_related More x y = nat_lt y x
is_related AtMost x y = nat_le x y

-- the words of vs that are in a relation to some word of ws, in the unsigned order
unfoldable pub related_words : Relation → List ℕ → List ℕ → List ℕ
related_words rel vs ws = filter (λ x. list_any (λ y. is_related rel x y) ws) vs

-- x is in the relation to some word from low to high; for equality this is only an upper bound
unfoldable pub MayBeRelated : Relation → ℕ → ℕ → ℕ → Type 0
MayBeRelated Same low high x = low ≤ x
MayBeRelated Other low high x = (x < high) ⊎ (low < x)
MayBeRelated Less low high x = x < high
MayBeRelated AtLeast low high x = low ≤ x
MayBeRelated More low high x = low < x
MayBeRelated AtMost low high x = x ≤ high
