-- The signed order of words.
use Rattle.std.specs.Prelude.{◌≤◌, ℕ, List, filter, Bool, true, false}
use Rattle.std.specs.List.{list_any}
use Rattle.value_domain.specs.Sets.{Among}
use Rattle.vd_transfer.specs.declared.refinement.Relation.{Relation}
use Rattle.tc_isa.specs.Arithmetic.{signed_rank}
use Rattle.vd_transfer.specs.Relations.{is_related}
use Rattle.tc_isa.specs.declared.shapes.Cond.{Cond}
use Rattle.tc_isa.specs.declared.shapes.Cond.TheVariants as cond

-- by the signed order of words, those of vs that are in a relation to some word of ws
unfoldable pub signed_related_words : Relation → List ℕ → List ℕ → List ℕ
signed_related_words rel vs ws = filter (λ x. list_any (λ y. is_related rel (signed_rank x) (signed_rank y)) ws) vs

-- low and high are the least and the greatest of a set in the signed order
pub record IsSignedRange (ws : List ℕ) (low high : ℕ) : Type 0 where
  pub low_in : Among low ws
  pub high_in : Among high ws
  pub low_is : (z : ℕ) → Among z ws → signed_rank low ≤ signed_rank z
  pub high_is : (z : ℕ) → Among z ws → signed_rank z ≤ signed_rank high

-- the condition is of the signed order
unfoldable pub is_signed_condition : Cond → Bool
is_signed_condition cond.Eq = false
is_signed_condition cond.Ne = false
is_signed_condition cond.Lt = true
is_signed_condition cond.LtU = false
is_signed_condition cond.Ge = true
is_signed_condition cond.GeU = false
