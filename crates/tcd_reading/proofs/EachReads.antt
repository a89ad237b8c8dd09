-- Files of a list, which are read one after another.
use Rattle.std.proofs.Common.{◌≡◌, ◌<◌, ◌≤◌, ◌+◌, ℕ, zero, suc, List, [], ◌∷◌, ◌++◌, length, drop, get_or, map, Option, Some, Err, refl, sym, ap, subst, ◌∙◌, append_assoc, arith}
use Rattle.std.specs.Prelude.{slice_get, option_map}
use Rattle.std.specs.Result.{IsErrAnd}
use Rattle.std.proofs.lemmas.List.{append-nil, length-append}
use Rattle.std.proofs.lemmas.Option.{slice_get-map, slice_get-get_or}
use Rattle.tcd_base.specs.Files.{FilesSeen, ReadKeepsFiles}
use Rattle.tcd_reading.specs.Reports.{Report}
use Rattle.tcd_reading.specs.Inputs.{FormSeen, HoldsInput, IsInputRejection, Reading, answer, input, input_files}
use Rattle.tcd_reading.specs.Outcomes.{Outcome, IsReportOutcome, IsBadInputStop, HasFailedToReadFile, IsCommandOutcome}
use Rattle.tcd_reading.specs.declared.outcome.Stop.{Stop}
use Rattle.tcd_reading.specs.declared.outcome.Stop.TheVariants as stop
use Rattle.tcd_reading.proofs.Told.{Leads, leads_here, leads_read, leads_then, comes_stopped, comes_told, comes_none}

-- ---- names
drop_suc : (xs : List (List ℕ)) (i : ℕ) (x : List ℕ) → slice_get xs i ≡ Some x → drop i xs ≡ x ∷ drop (suc i) xs
drop_suc [] i x e = cc
drop_suc (y ∷ ys) zero x e = ap (λ (z : List ℕ). z ∷ ys) cc
drop_suc (y ∷ ys) (suc i) x e = drop_suc ys i x e

drop_at : (xs : List (List ℕ)) (i : ℕ) (x : List ℕ) → slice_get xs i ≡ Some x → drop i xs ≡ x ∷ drop (i + 1) xs
drop_at xs i x e = let one : suc i ≡ i + 1 = omega arith in drop_suc xs i x e ∙ ap (λ (n : ℕ). x ∷ drop n xs) one

drop_all : (xs : List (List ℕ)) (n : ℕ) → n ≡ length xs → drop n xs ≡ []
drop_all [] n e = cc
drop_all (x ∷ xs) zero e = absurd (omega arith)
drop_all (x ∷ xs) (suc n) e = drop_all xs n (omega arith)

name_at : {S : Type 0} (bytes : S → List ℕ) (names : List S) (i : ℕ) (d : S) → i < length names → slice_get (map bytes names) i ≡ Some (bytes (get_or names i d))
name_at {S} bytes names i d h = slice_get-map bytes names i ∙ ap (λ (o : Option S). option_map bytes o) (slice_get-get_or names i d h)

-- the name at this place
pub name_here : {S : Type 0} (bytes : S → List ℕ) (names : List S) (i : ℕ) (x : S) (name : List ℕ) → i < length names → x ≡ get_or names i x → name ≡ bytes x → slice_get (map bytes names) i ≡ Some name
name_here bytes names i x name h is e = name_at bytes names i x h ∙ sym (ap (λ (b : List ℕ). Some b) (e ∙ ap bytes is))

-- the first files were read: the outcome of the rest is the outcome of the whole
pub record HasReadSome (whole rest : Reading) (old mid : FilesSeen) (count i : ℕ) : Type 0 where
  pub leads : Leads whole rest old mid
  pub count_is : count ≡ i

-- ---- the files that aren't read yet
module _ (A : Type 0) (form : ℕ → FormSeen A) (names : List (List ℕ)) (P : List A → Report → Type 0) where
  -- the files from this place on, given the earlier values
  abbrev pub rest_of : ℕ → List A → Reading
  rest_of i xs = input_files A form i (drop i names) (λ ys. answer (P (xs ++ ys)))

  rest_at : (i : ℕ) (name : List ℕ) (xs : List A) → slice_get names i ≡ Some name →
      rest_of i xs ≡ input A (form i) name (λ x. input_files A form (i + 1) (drop (i + 1) names) (λ ys. answer (P (xs ++ x ∷ ys))))
  rest_at i name xs at = ap (λ (l : List (List ℕ)). input_files A form i l (λ ys. answer (P (xs ++ ys)))) (drop_at names i name at)

  moved : (xs xs' ys : List A) (x : A) → xs' ≡ xs ++ x ∷ [] → xs ++ x ∷ ys ≡ xs' ++ ys
  moved xs xs' ys x e = rw e (simp append_assoc)

  rest_more : (i : ℕ) (xs xs' : List A) (x : A) → xs' ≡ xs ++ x ∷ [] → input_files A form i (drop i names) (λ ys. answer (P (xs ++ x ∷ ys))) ≡ rest_of i xs'
  rest_more i xs xs' x e = ap (λ (f : List A → Reading). input_files A form i (drop i names) f) (λ j ys. answer (P (moved xs xs' ys x e j)))

  step : (i : ℕ) (name : List ℕ) (xs xs' : List A) (x : A) (mid new : FilesSeen) → slice_get names i ≡ Some name → ReadKeepsFiles name mid new → mid.faults ≤ new.faults → HoldsInput (form i) mid.held name x → xs' ≡ xs ++ x ∷ [] →
      Leads (rest_of i xs) (rest_of (i + 1) xs') mid new
  step i name xs xs' x mid new at leaves later holds e =
      let one = leads_read A (form i) name (λ x. input_files A form (i + 1) (drop (i + 1) names) (λ ys. answer (P (xs ++ x ∷ ys)))) x mid new leaves later holds in
      subst (λ (r : Reading). Leads r (rest_of (i + 1) xs') mid new) (sym (rest_at i name xs at))
      (subst (λ (r : Reading). Leads (input A (form i) name (λ x. input_files A form (i + 1) (drop (i + 1) names) (λ ys. answer (P (xs ++ x ∷ ys))))) r mid new) (rest_more (i + 1) xs xs' x e) one)

  -- none is read
  pub none_read : (xs : List A) (files : FilesSeen) → xs ≡ [] → HasReadSome (input_files A form 0 names (λ ys. answer (P ys))) (rest_of 0 xs) files files (length xs) 0
  none_read xs files e =
      subst (λ (l : List A). HasReadSome (input_files A form 0 names (λ ys. answer (P ys))) (rest_of 0 l) files files (length l) 0) (sym e)
      (record { leads = leads_here (input_files A form 0 names (λ ys. answer (P ys))) files; count_is = refl })

  -- a further file is read
  pub next_read : (whole : Reading) (i : ℕ) (name : List ℕ) (xs xs' : List A) (x : A) (old mid new : FilesSeen) → slice_get names i ≡ Some name → HasReadSome whole (rest_of i xs) old mid (length xs) i →
      ReadKeepsFiles name mid new → mid.faults ≤ new.faults → HoldsInput (form i) mid.held name x → xs' ≡ xs ++ x ∷ [] → HasReadSome whole (rest_of (i + 1) xs') old new (length xs') (i + 1)
  next_read whole i name xs xs' x old mid new at so_far leaves later holds e = record {
    leads = leads_then whole (rest_of i xs) (rest_of (i + 1) xs') old mid new so_far.leads (step i name xs xs' x mid new at leaves later holds e);
    count_is = ap (λ (l : List A). length l) e ∙ length-append xs (x ∷ []) ∙ ap (λ n. n + 1) so_far.count_is;
  }

  -- the next one isn't there
  pub next_stops : (whole : Reading) (i : ℕ) (name : List ℕ) (xs : List A) (old mid new : FilesSeen) (s : Stop) (o : Outcome) → IsErrAnd o (λ x. x ≡ s) → slice_get names i ≡ Some name → Leads whole (rest_of i xs) old mid → ReadKeepsFiles name mid new →
      mid.faults ≤ new.faults → IsBadInputStop (IsInputRejection (form i) mid.held name) (HasFailedToReadFile name mid new) s → IsCommandOutcome whole old new o
  next_stops whole i name xs old mid new s o is at so_far leaves later stops =
      so_far.comes new o (subst (λ (r : Reading). IsCommandOutcome r mid new o) (sym (rest_at i name xs at)) (comes_stopped A (form i) name _ mid new s o is leaves later stops))

  -- the next one is there, and memory runs out
  pub next_memory : (whole : Reading) (i : ℕ) (name : List ℕ) (xs : List A) (x : A) (old mid new : FilesSeen) → slice_get names i ≡ Some name → Leads whole (rest_of i xs) old mid → ReadKeepsFiles name mid new → mid.faults ≤ new.faults →
      HoldsInput (form i) mid.held name x → IsCommandOutcome whole old new (Err stop.NoMemory)
  next_memory whole i name xs x old mid new at so_far leaves later holds =
      so_far.comes new (Err stop.NoMemory) ((step i name xs (xs ++ x ∷ []) x mid new at leaves later holds refl).comes new (Err stop.NoMemory) (comes_none (rest_of (i + 1) (xs ++ x ∷ [])) new))

  -- all are read
  pub all_read : (whole : Reading) (i : ℕ) (xs : List A) (old new : FilesSeen) (o : Outcome) → i ≡ length names → Leads whole (rest_of i xs) old new → IsReportOutcome (P xs) ⊥ o → IsCommandOutcome whole old new o
  all_read whole i xs old new o e so_far told =
      let none : rest_of i xs ≡ answer (P (xs ++ [])) = ap (λ (l : List (List ℕ)). input_files A form i l (λ ys. answer (P (xs ++ ys)))) (drop_all names i e) in
      let all : rest_of i xs ≡ answer (P xs) = none ∙ ap (λ (l : List A). answer (P l)) (append-nil xs) in
      so_far.comes new o (subst (λ (r : Reading). IsCommandOutcome r new new o) (sym all) (comes_told (P xs) new o told))
