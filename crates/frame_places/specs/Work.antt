-- The work list: places by their numbers, in four parts.
use Rattle.std.specs.Prelude.{◌≡◌, ℕ, Bool, true, false, List, [], ◌∷◌, ◌++◌}
use Rattle.std.specs.List.Sorted.{IsPermutation}

-- the parts of the work list: the queue's reversed front, its rest, the round after the queue, and
-- the places that wait
pub record WorkLists : Type 0 where
  pub first : List ℕ
  pub next : List ℕ
  pub round : List ℕ
  pub waiting : List ℕ

-- all numbers of places on the work list; some may have no work any more, or be listed twice
abbrev pub all_work : WorkLists → List ℕ
all_work work = work.first ++ (work.next ++ (work.round ++ work.waiting))

-- the place with this number is put at the end of the work list's queue
pub record PushesToQueue (old new : WorkLists) (number : ℕ) : Type 0 where
  pub first : new.first ≡ old.first
  pub next : new.next ≡ old.next ++ number ∷ []
  pub round : new.round ≡ old.round
  pub waiting : new.waiting ≡ old.waiting

-- the place with this number waits for the work list's next round
pub record PushesToWaiting (old new : WorkLists) (number : ℕ) : Type 0 where
  pub first : new.first ≡ old.first
  pub next : new.next ≡ old.next
  pub round : new.round ≡ old.round
  pub waiting : IsPermutation (number ∷ old.waiting) new.waiting

-- the place with this number is put into the work list's round, at any position
pub record PushesToRound (old new : WorkLists) (number : ℕ) : Type 0 where
  pub first : new.first ≡ old.first
  pub next : new.next ≡ old.next
  pub round : IsPermutation (number ∷ old.round) new.round
  pub waiting : new.waiting ≡ old.waiting

-- an entry point is put into the work list's round, any other place at the end of its queue
abbrev pub PushesToRoundOrQueue : Bool → WorkLists → WorkLists → ℕ → Type 0
PushesToRoundOrQueue true old new number = PushesToRound old new number
PushesToRoundOrQueue false old new number = PushesToQueue old new number

-- one more place of the work list waits for the next round, or is at the end of the queue
abbrev pub PushesToWaitingOrQueue : Bool → WorkLists → WorkLists → ℕ → Type 0
PushesToWaitingOrQueue true old new number = PushesToWaiting old new number
PushesToWaitingOrQueue false old new number = PushesToQueue old new number

-- some of the work list's waiting places, one at least if any waits, come into its round
pub record BeginsRound (old new : WorkLists) : Type 0 where
  pub first : new.first ≡ old.first
  pub next : new.next ≡ old.next
  pub both : IsPermutation (old.round ++ old.waiting) (new.round ++ new.waiting)
  pub some : new.round ≡ [] → new.waiting ≡ []

-- the two parts of the work list's queue are swapped, and the new front may be in another order
pub record RefillsFront (old new : WorkLists) : Type 0 where
  pub first : IsPermutation old.next new.first
  pub next : new.next ≡ old.first
  pub round : new.round ≡ old.round
  pub waiting : new.waiting ≡ old.waiting

-- the place with this number is taken off the front of the work list's queue, which is the end of
-- its reversed part
pub record PopsFront (old new : WorkLists) (number : ℕ) : Type 0 where
  pub first : old.first ≡ new.first ++ number ∷ []
  pub next : new.next ≡ old.next
  pub round : new.round ≡ old.round
  pub waiting : new.waiting ≡ old.waiting

-- the place with this number is taken off the back of the work list's queue
pub record PopsBack (old new : WorkLists) (number : ℕ) : Type 0 where
  pub first : new.first ≡ old.first
  pub next : old.next ≡ new.next ++ number ∷ []
  pub round : new.round ≡ old.round
  pub waiting : new.waiting ≡ old.waiting

-- this place is taken off the work list's round
pub record PopsFromRound (old new : WorkLists) (number : ℕ) : Type 0 where
  pub first : new.first ≡ old.first
  pub next : new.next ≡ old.next
  pub round : old.round ≡ new.round ++ number ∷ []
  pub waiting : new.waiting ≡ old.waiting

-- the work list has the same places, each as often
abbrev pub HasSameWork : WorkLists → WorkLists → Type 0
HasSameWork old new = IsPermutation (all_work old) (all_work new)

-- this place is taken off the work list once, and the others stay listed
abbrev pub PopsPlace : WorkLists → WorkLists → ℕ → Type 0
PopsPlace old new number = IsPermutation (all_work old) (number ∷ all_work new)

-- the work list's queue is empty, and no place was taken
pub record HasEmptyQueue (old new : WorkLists) : Type 0 where
  pub first : new.first ≡ []
  pub next : new.next ≡ []
  pub same : HasSameWork old new
