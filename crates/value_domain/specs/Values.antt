-- Values, and the least value that holds a set.
use Rattle.std.specs.Prelude.{Option, Some, None, ◌≡◌, ◌<◌, ◌≤◌, ◌+◌, ◌-◌, ◌/◌, ◌^◌, ℕ, nat_le, if◌then◌else◌, List, length, ◌==◌, ◌&&◌, Bool, ◌∷◌, ◌++◌, []}
use Rattle.value_domain.specs.declared.values.Val.{Val}
use Rattle.value_domain.specs.declared.values.Val.TheVariants.{Set, Span}
use Rattle.value_domain.specs.Sets.{Among, AreSetWords, sorted_set_of, alignment_log2, least, greatest, step_of_set, multiples}
use Rattle.value_domain.specs.Limits.{Limits}
use Rattle.value_domain.specs.Floors.{floor, threshold_above}
use Rattle.std.specs.List.{list_any}

-- a word is one of the members of an abstract value
abbrev pub IsMember : ℕ → Val → Type 0
IsMember x (Set ws) = Among x ws
IsMember x (Span lo last step) = (lo ≤ x) × (x ≤ last) × (step ≤ alignment_log2 x)

-- the first multiple of 2 ^ step from lo on, the least member of a Span, divided by 2 ^ step
abbrev pub first_member_quotient : ℕ → ℕ → ℕ
first_member_quotient lo step = (lo + (2 ^ step - 1)) / 2 ^ step

-- the number of members of a Span: of multiples of 2 ^ step in lo..=last
abbrev pub span_len : ℕ → ℕ → ℕ → ℕ
span_len lo last step = (last / 2 ^ step + 1) - first_member_quotient lo step

-- the multiples of 2 ^ step in lo..=last
abbrev pub multiples_in_range : ℕ → ℕ → ℕ → List ℕ
multiples_in_range lo last step = multiples (span_len lo last step) (first_member_quotient lo step) (2 ^ step)

-- the members of a value; those of a Span in ascending order
abbrev pub members : Val → List ℕ
members (Set ws) = ws
members (Span lo last step) = multiples_in_range lo last step

-- an abstract value is well-formed: a Set of 1 to 128 ascending words, or a Span of more than 64
-- members
abbrev pub IsWellFormed : Val → Type 0
IsWellFormed (Set ws) = AreSetWords ws
IsWellFormed (Span lo last step) = (step ≤ 2) × (64 < span_len lo last step) × (last < 2 ^ 32)

-- the Span of this step from the threshold at or below x to before the one above y
abbrev pub span_between_thresholds : Limits → ℕ → ℕ → ℕ → Val
span_between_thresholds b x y step = Span (floor b.thresholds x) (threshold_above b.thresholds y - 1) step

-- the value of ascending words: the Set of them if they are few enough, else the lattice's least
-- Span that holds them
abbrev pub value_of_words : Limits → List ℕ → Val
value_of_words b ws =
    if nat_le (length ws) b.most_words
    then Set ws
    else span_between_thresholds b (least ws) (greatest ws) (step_of_set ws)

-- the least value that holds all words of a list
unfoldable pub cover : Limits → List ℕ → Val
cover b xs = value_of_words b (sorted_set_of xs)

-- an abstract value is in the lattice of these limits: well-formed, and the cover of its members
pub record IsInLattice (b : Limits) (v : Val) : Type 0 where
  pub well : IsWellFormed v
  pub own : cover b (members v) ≡ v

-- the abstract value v is below w in the lattice: each member of v is a member of w
abbrev pub IsBelow : Val → Val → Type 0
IsBelow v w = (x : ℕ) → IsMember x v → IsMember x w

-- the value that holds all words
abbrev pub any_val : Val
any_val = Span 0 4294967295 0

-- the words of a Set; none for a Span
abbrev pub words_of : Val → Option (List ℕ)
words_of (Set ws) = Some ws
words_of (Span lo last step) = None

-- the Span with these ends and this step has all words
abbrev pub is_span_of_all_words : ℕ → ℕ → ℕ → Bool
is_span_of_all_words lo last step = lo == 0 && last == 4294967295 && step == 0

-- the value that holds one word
abbrev pub word_val : ℕ → Val
word_val w = Set (w ∷ [])

-- the least member of an abstract value
abbrev pub least_member : Val → ℕ
least_member v = least (members v)

-- the greatest member of an abstract value
abbrev pub greatest_member : Val → ℕ
greatest_member v = greatest (members v)

-- an abstract value's step: the greatest up to 2 such that 2 ^ step divides each of its members
abbrev pub step_of_value : Val → ℕ
step_of_value v = step_of_set (members v)

-- the join of two abstract values: the least value that holds the members of both
abbrev pub join_of : Limits → Val → Val → Val
join_of b v w = cover b (members v ++ members w)

-- the test of a Span's member: a word is in lo..=last, and its alignment is at least the step
abbrev pub is_in_span : ℕ → ℕ → ℕ → ℕ → Bool
is_in_span lo last step x = nat_le lo x && nat_le x last && nat_le step (alignment_log2 x)

-- the test that a word is a member of an abstract value
abbrev pub is_member : ℕ → Val → Bool
is_member x (Set ws) = list_any (λ w. x == w) ws
is_member x (Span lo last step) = is_in_span lo last step x
