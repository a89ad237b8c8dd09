-- The work list: what is put on it and taken off it, in any part.
use Rattle.std.proofs.Common.{◌≡◌, ◌⊎◌, inl, inr, arith, ℕ, Bool, true, false, List, [], ◌∷◌, ◌++◌, Option, None, Some, length, refl, sym, ap, ◌∙◌, subst, Contains}
use Rattle.std.specs.Prelude.{IfSome, IfNone}
use Rattle.std.proofs.lemmas.List.Elements.{Contains-append_cases, Contains-append_left, Contains-append_right, Contains-push, Contains-push_cases}
use Rattle.std.proofs.lemmas.List.Sorted.{Contains-permutation, IsPermutation-append_left, IsPermutation-append_right, IsPermutation-middle, IsPermutation-refl, IsPermutation-sym, IsPermutation-to_front, IsPermutation-trans, length_permutation}
use Rattle.std.specs.List.Sorted.{IsPermutation}
use Rattle.frame_places.specs.Work.{BeginsRound, HasEmptyQueue, WorkLists, PushesToWaitingOrQueue, PushesToRound, PushesToRoundOrQueue, PushesToQueue, PushesToWaiting, PopsPlace, PopsFront, PopsBack, PopsFromRound, RefillsFront, all_work}

-- a list has the elements of another, and one number
abbrev pub Adds : List ℕ → List ℕ → ℕ → Type 0
Adds old new number = IsPermutation (number ∷ old) new

pub adds_there : (old new : List ℕ) (number : ℕ) → Adds old new number → Contains new number
adds_there old new number adds = Contains-permutation (number ∷ old) new number adds (Contains-append_left (number ∷ []) old number (Contains-push [] number))

pub adds_kept : (old new : List ℕ) (number n : ℕ) → Adds old new number → Contains old n → Contains new n
adds_kept old new number n adds c = Contains-permutation (number ∷ old) new n adds (Contains-append_right (number ∷ []) old n c)

one_alone : (number n : ℕ) → Contains (number ∷ []) n → number ≡ n
one_alone number n c =
    elim (Contains-push_cases [] number n c) [
      | inl none ↦ absurd (omega (arith, none.1))
      | inr e ↦ e
    ]

-- a list of one number and others
pub first_or_not : (number n : ℕ) (xs : List ℕ) → Contains (number ∷ xs) n → Contains xs n ⊎ (number ≡ n)
first_or_not number n xs c =
    elim (Contains-append_cases (number ∷ []) xs n c) [
      | inl l ↦ inr (one_alone number n l)
      | inr r ↦ inl r
    ]

pub adds_only : (old new : List ℕ) (number n : ℕ) → Adds old new number → Contains new n → Contains old n ⊎ (number ≡ n)
adds_only old new number n adds c = first_or_not number n old (Contains-permutation new (number ∷ old) n (IsPermutation-sym (number ∷ old) new adds) c)

at_end : (xs : List ℕ) (number : ℕ) → IsPermutation (number ∷ xs) (xs ++ number ∷ [])
at_end xs number = IsPermutation-sym (xs ++ number ∷ []) (number ∷ xs) (IsPermutation-to_front xs number)

-- all of a list, by its parts
parts : (w : WorkLists) (first next round waiting : List ℕ) → w.first ≡ first → w.next ≡ next → w.round ≡ round → w.waiting ≡ waiting → all_work w ≡ first ++ (next ++ (round ++ waiting))
parts w first next round waiting a b c d =
    ap (λ (xs : List ℕ). xs ++ (w.next ++ (w.round ++ w.waiting))) a ∙ ap (λ (xs : List ℕ). first ++ (xs ++ (w.round ++ w.waiting))) b
    ∙ ap (λ (xs : List ℕ). first ++ (next ++ (xs ++ w.waiting))) c ∙ ap (λ (xs : List ℕ). first ++ (next ++ (round ++ xs))) d

-- one more behind a list
behind : (xs ys zs : List ℕ) (number : ℕ) → Adds ys zs number → Adds (xs ++ ys) (xs ++ zs) number
behind xs ys zs number adds =
    IsPermutation-trans (number ∷ (xs ++ ys)) (xs ++ number ∷ ys) (xs ++ zs) (IsPermutation-sym (xs ++ number ∷ ys) (number ∷ (xs ++ ys)) (IsPermutation-middle xs number ys))
    (IsPermutation-append_right xs (number ∷ ys) zs adds)

pub adds_next : (old new : WorkLists) (number : ℕ) → PushesToQueue old new number → Adds (all_work old) (all_work new) number
adds_next old new number puts =
    let rest = old.round ++ old.waiting in
    let more = old.next ++ number ∷ [] in
    subst (λ (l : List ℕ). Adds (all_work old) l number) (sym (parts new old.first more old.round old.waiting puts.first puts.next puts.round puts.waiting))
    (behind old.first (old.next ++ rest) (more ++ rest) number (IsPermutation-append_left rest (number ∷ old.next) more (at_end old.next number)))

pub adds_waiting : (old new : WorkLists) (number : ℕ) → PushesToWaiting old new number → Adds (all_work old) (all_work new) number
adds_waiting old new number puts =
    let rest = old.round ++ old.waiting in
    let more = old.round ++ new.waiting in
    subst (λ (l : List ℕ). Adds (all_work old) l number) (sym (parts new old.first old.next old.round new.waiting puts.first puts.next puts.round refl))
    (behind old.first (old.next ++ rest) (old.next ++ more) number (behind old.next rest more number (behind old.round old.waiting new.waiting number puts.waiting)))

pub adds_either : (waits : Bool) (old new : WorkLists) (number : ℕ) → PushesToWaitingOrQueue waits old new number → Adds (all_work old) (all_work new) number
adds_either true old new number puts = adds_waiting old new number puts
adds_either false old new number puts = adds_next old new number puts

pub adds_entry : (old new : WorkLists) (number : ℕ) → PushesToRound old new number → Adds (all_work old) (all_work new) number
adds_entry old new number puts =
    let rest = old.round ++ old.waiting in
    let more = new.round ++ old.waiting in
    subst (λ (l : List ℕ). Adds (all_work old) l number) (sym (parts new old.first old.next new.round old.waiting puts.first puts.next refl puts.waiting))
    (behind old.first (old.next ++ rest) (old.next ++ more) number (behind old.next rest more number (IsPermutation-append_left old.waiting (number ∷ old.round) new.round puts.round)))

pub adds_new : (entry : Bool) (old new : WorkLists) (number : ℕ) → PushesToRoundOrQueue entry old new number → Adds (all_work old) (all_work new) number
adds_new true old new number puts = adds_entry old new number puts
adds_new false old new number puts = adds_next old new number puts

-- ---- taking
-- the last of a list moves to its front
from_end : (xs ys : List ℕ) (number : ℕ) → IsPermutation ((xs ++ number ∷ []) ++ ys) (number ∷ (xs ++ ys))
from_end xs ys number = IsPermutation-append_left ys (xs ++ number ∷ []) (number ∷ xs) (IsPermutation-to_front xs number)

-- from the whole list
taken_of : (old new : WorkLists) (number : ℕ) (before after : List ℕ) → all_work old ≡ before → all_work new ≡ after → IsPermutation before (number ∷ after) → PopsPlace old new number
taken_of old new number before after a b h =
    subst (λ (l : List ℕ). IsPermutation l (number ∷ all_work new)) (sym a) (subst (λ (l : List ℕ). IsPermutation before (number ∷ l)) (sym b) h)

same_of : (old new : WorkLists) (before after : List ℕ) → all_work old ≡ before → all_work new ≡ after → IsPermutation before after → IsPermutation (all_work old) (all_work new)
same_of old new before after a b h = subst (λ (l : List ℕ). IsPermutation l (all_work new)) (sym a) (subst (λ (l : List ℕ). IsPermutation before l) (sym b) h)

takes_same : (old mid new : WorkLists) (number : ℕ) → IsPermutation (all_work old) (all_work mid) → PopsPlace mid new number → PopsPlace old new number
takes_same old mid new number same takes = IsPermutation-trans (all_work old) (all_work mid) (number ∷ all_work new) same takes

-- the first one
pub takes_first : (old new : WorkLists) (number : ℕ) → PopsFront old new number → PopsPlace old new number
takes_first old new number takes =
    let rest = new.next ++ (new.round ++ new.waiting) in
    taken_of old new number ((new.first ++ number ∷ []) ++ rest) (new.first ++ rest)
    (parts old (new.first ++ number ∷ []) new.next new.round new.waiting takes.first (sym takes.next) (sym takes.round) (sym takes.waiting)) refl (from_end new.first rest number)

-- the last of those that are next
pub takes_last : (old new : WorkLists) (number : ℕ) → old.first ≡ [] → PopsBack old new number → PopsPlace old new number
takes_last old new number none takes =
    let rest = new.round ++ new.waiting in
    taken_of old new number ((new.next ++ number ∷ []) ++ rest) (new.next ++ rest)
    (parts old [] (new.next ++ number ∷ []) new.round new.waiting none takes.next (sym takes.round) (sym takes.waiting))
    (parts new [] new.next new.round new.waiting (takes.first ∙ none) refl refl refl) (from_end new.next rest number)

-- the places that are next were reversed
turned_all : (old mid : WorkLists) → old.first ≡ [] → RefillsFront old mid → IsPermutation (all_work old) (all_work mid)
turned_all old mid none turns =
    let rest = old.round ++ old.waiting in
    same_of old mid (old.next ++ rest) (mid.first ++ rest) (parts old [] old.next old.round old.waiting none refl refl refl)
    (parts mid mid.first [] old.round old.waiting refl (turns.next ∙ none) turns.round turns.waiting) (IsPermutation-append_left rest old.next mid.first turns.first)

-- for the result of a call
pub last_some : (old mid new : WorkLists) (r : Option ℕ) → mid ≡ old → old.first ≡ [] → IfSome r (PopsBack mid new) → IfSome r (PopsPlace old new)
last_some old mid new None same none takes = takes
last_some old mid new (Some number) same none takes =
    subst (λ (w : WorkLists). PopsPlace w new number) same (takes_last mid new number (ap (λ (w : WorkLists). w.first) same ∙ none) takes)

pub last_none : (old mid new : WorkLists) (r : Option ℕ) → mid ≡ old → old.first ≡ [] → IfNone r ((mid.next ≡ []) × (new ≡ mid)) → IfNone r (HasEmptyQueue old new)
last_none old mid new None same none left =
    let all = left.1 ∙ same in
    record {
      first = ap (λ (w : WorkLists). w.first) all ∙ none;
      next = ap (λ (w : WorkLists). w.next) left.1 ∙ left.0;
      same = subst (λ (w : WorkLists). IsPermutation (all_work old) (all_work w)) (sym all) (IsPermutation-refl (all_work old));
    }
last_none old mid new (Some number) same none left = left

pub turned_some : (old mid turned new : WorkLists) (r : Option ℕ) → mid ≡ old → old.first ≡ [] → RefillsFront mid turned → IfSome r (PopsFront turned new) → IfSome r (PopsPlace old new)
turned_some old mid turned new None same none turns takes = takes
turned_some old mid turned new (Some number) same none turns takes =
    subst (λ (w : WorkLists). PopsPlace w new number) same
    (takes_same mid turned new number (turned_all mid turned (ap (λ (w : WorkLists). w.first) same ∙ none) turns) (takes_first turned new number takes))

pub turned_none : (old mid turned new : WorkLists) (r : Option ℕ) → mid ≡ old → old.first ≡ [] → RefillsFront mid turned → IfNone r ((turned.first ≡ []) × (new ≡ turned)) → IfNone r (HasEmptyQueue old new)
turned_none old mid turned new None same none turns left =
    let empty = ap (λ (w : WorkLists). w.first) same ∙ none in
    record {
      first = ap (λ (w : WorkLists). w.first) left.1 ∙ left.0;
      next = ap (λ (w : WorkLists). w.next) left.1 ∙ turns.next ∙ empty;
      same = subst (λ (w : WorkLists). IsPermutation (all_work w) (all_work new)) same
          (subst (λ (w : WorkLists). IsPermutation (all_work mid) (all_work w)) (sym left.1) (turned_all mid turned empty turns));
    }
turned_none old mid turned new (Some number) same none turns left = left

-- places that wait came into the round
pub moved_same : (old new : WorkLists) → new.first ≡ old.first → new.next ≡ old.next → IsPermutation (old.round ++ old.waiting) (new.round ++ new.waiting) → IsPermutation (all_work old) (all_work new)
moved_same old new first next both =
    subst (λ (l : List ℕ). IsPermutation (all_work old) l) (sym (parts new old.first old.next new.round new.waiting first next refl refl))
    (IsPermutation-append_right old.first (old.next ++ (old.round ++ old.waiting)) (old.next ++ (new.round ++ new.waiting)) (IsPermutation-append_right old.next (old.round ++ old.waiting) (new.round ++ new.waiting) both))

-- one of this round
pub takes_round : (old mid new : WorkLists) (number : ℕ) → HasEmptyQueue old mid → PopsFromRound mid new number → PopsPlace old new number
takes_round old mid new number has takes =
    takes_same old mid new number has.same
    (taken_of mid new number ((new.round ++ number ∷ []) ++ new.waiting) (new.round ++ new.waiting)
    (parts mid [] [] (new.round ++ number ∷ []) new.waiting has.first has.next takes.round (sym takes.waiting))
    (parts new [] [] new.round new.waiting (takes.first ∙ has.first) (takes.next ∙ has.next) refl refl) (from_end new.round new.waiting number))

-- or of a new round
begun_all : (old mid begun : WorkLists) → HasEmptyQueue old mid → BeginsRound mid begun → HasEmptyQueue old begun
begun_all old mid begun has begins = record {
  first = begins.first ∙ has.first;
  next = begins.next ∙ has.next;
  same = IsPermutation-trans (all_work old) (all_work mid) (all_work begun) has.same
      (same_of mid begun (mid.round ++ mid.waiting) (begun.round ++ begun.waiting) (parts mid [] [] mid.round mid.waiting has.first has.next refl refl)
      (parts begun [] [] begun.round begun.waiting (begins.first ∙ has.first) (begins.next ∙ has.next) refl refl) begins.both);
}

pub begun_some : (old mid begun new : WorkLists) (r : Option ℕ) → HasEmptyQueue old mid → BeginsRound mid begun → IfSome r (PopsFromRound begun new) → IfSome r (PopsPlace old new)
begun_some old mid begun new None has begins takes = takes
begun_some old mid begun new (Some number) has begins takes = takes_round old begun new number (begun_all old mid begun has begins) takes

pub empty_list : (xs : List ℕ) → length xs ≡ 0 → xs ≡ []
empty_list [] e = refl
empty_list (x ∷ xs) e = absurd (omega arith)

-- none is left
pub begun_empty : (old mid begun new : WorkLists) (r : Option ℕ) → HasEmptyQueue old mid → BeginsRound mid begun → IfNone r ((begun.round ≡ []) × (new ≡ begun)) → IfNone r (all_work new ≡ [])
begun_empty old mid begun new None has begins left =
    ap all_work left.1 ∙ parts begun [] [] [] [] (begins.first ∙ has.first) (begins.next ∙ has.next) left.0 (begins.some left.0)
begun_empty old mid begun new (Some number) has begins left = left

-- nor was any before
pub begun_none : (old mid begun new : WorkLists) (r : Option ℕ) → HasEmptyQueue old mid → BeginsRound mid begun → IfNone r ((begun.round ≡ []) × (new ≡ begun)) → IfNone r (all_work old ≡ [])
begun_none old mid begun new None has begins left =
    let same = length_permutation (all_work old) (all_work begun) (begun_all old mid begun has begins).same in
    let gone = ap (λ (xs : List ℕ). length xs) (parts begun [] [] [] [] (begins.first ∙ has.first) (begins.next ∙ has.next) left.0 (begins.some left.0)) in
    empty_list (all_work old) (omega (arith, same, gone))
begun_none old mid begun new (Some number) has begins left = left

-- the place that was taken was listed
pub takes_there : (old new : WorkLists) (number : ℕ) → PopsPlace old new number → Contains (all_work old) number
takes_there old new number takes = adds_there (all_work new) (all_work old) number (IsPermutation-sym (all_work old) (number ∷ all_work new) takes)

-- all that is left was listed
pub takes_left : (old new : WorkLists) (number n : ℕ) → PopsPlace old new number → Contains (all_work new) n → Contains (all_work old) n
takes_left old new number n takes c = adds_kept (all_work new) (all_work old) number n (IsPermutation-sym (all_work old) (number ∷ all_work new) takes) c

-- and nothing else was
pub takes_only : (old new : WorkLists) (number n : ℕ) → PopsPlace old new number → Contains (all_work old) n → Contains (all_work new) n ⊎ (number ≡ n)
takes_only old new number n takes c = first_or_not number n (all_work new) (Contains-permutation (all_work old) (number ∷ all_work new) n takes c)
