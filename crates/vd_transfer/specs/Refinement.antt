-- Refinement of two values by a condition.
use Rattle.std.specs.Prelude.{ℕ, Bool, not, if◌then◌else◌, List, filter, ◌≡◌, true}
use Rattle.std.specs.List.{list_any}
use Rattle.tc_isa.specs.declared.shapes.Cond.{Cond}
use Rattle.tc_isa.specs.Arithmetic.{taken_of, signed_rank}
use Rattle.value_domain.specs.Sets.{Among, AreAmong}
use Rattle.vd_transfer.specs.declared.refinement.Relation.{Relation}
use Rattle.vd_transfer.specs.Relations.{is_related, related_words}
use Rattle.vd_transfer.specs.Signs.{signed_related_words}

-- a branch that compares the words x and y goes to this side: to its target if the side is true
abbrev pub is_side_taken : Cond → Bool → ℕ → ℕ → Bool
is_side_taken cond side x y = if side then taken_of cond x y else not (taken_of cond x y)

-- what refinement keeps of the left one of two values: the words of vs for which some word of ws
-- makes the condition go to the side
unfoldable pub kept_left_words : Cond → Bool → List ℕ → List ℕ → List ℕ
kept_left_words cond side vs ws = filter (λ x. list_any (λ y. is_side_taken cond side x y) ws) vs

-- what refinement keeps of the right one of two values: the words of ws for which some word of vs
-- makes the condition go to the side
unfoldable pub kept_right_words : Cond → Bool → List ℕ → List ℕ → List ℕ
kept_right_words cond side vs ws = filter (λ y. list_any (λ x. is_side_taken cond side x y) vs) ws

-- what refinement keeps of a value compared with itself: the words that make the condition go to
-- the side if compared with themselves
unfoldable pub kept_self_compared_words : Cond → Bool → List ℕ → List ℕ
kept_self_compared_words cond side zs = filter (λ z. is_side_taken cond side z z) zs

-- Refinement by this relation keeps each word of vs that is in the relation to some word of ws, and
-- grows with both lists. The order of words is unsigned or signed.
pub record HasSoundMonotoneRefinement (rel : Relation) : Type 0 where
  pub sound : (vs ws : List ℕ) (x y : ℕ) → Among x vs → Among y ws → is_related rel x y ≡ true → Among x (related_words rel vs ws)
  pub monotone : (vs ws vs2 ws2 : List ℕ) → AreAmong vs vs2 → AreAmong ws ws2 → AreAmong (related_words rel vs ws) (related_words rel vs2 ws2)
  pub signed_sound :
      (vs ws : List ℕ) (x y : ℕ) → Among x vs → Among y ws → is_related rel (signed_rank x) (signed_rank y) ≡ true
      → Among x (signed_related_words rel vs ws)
  pub signed_monotone : (vs ws vs2 ws2 : List ℕ) → AreAmong vs vs2 → AreAmong ws ws2 → AreAmong (signed_related_words rel vs ws) (signed_related_words rel vs2 ws2)

-- refinement by each relation is sound and monotone
abbrev pub RefinementIsSoundAndMonotone : Type 0
RefinementIsSoundAndMonotone = (rel : Relation) → HasSoundMonotoneRefinement rel
