-- A text has one answer.
use Rattle.std.proofs.Common.{◌≡◌, ◌≢◌, ℕ, ◌<◌, ◌≤◌, ◌⊎◌, inl, inr, true, false, List, [], ◌∷◌, ◌++◌, length, map, Option, Some, None, Ok, Err, refl, sym, ap, ◌∙◌, subst, arith}
use Rattle.std.proofs.lemmas.Bool.{cases_lt}
use Rattle.std.proofs.lemmas.List.{length-map}
use Rattle.std.proofs.lemmas.List.Elements.{filter-append}
use Rattle.tcd_plan.specs.PlanData.{PlanData}
use Rattle.task_chains.specs.declared.lines.Places.{Places}
use Rattle.task_chains.specs.declared.task_lists.Task.{Task}
use Rattle.task_chains.specs.declared.task_lists.TasksErr.{TasksErr}
use Rattle.task_chains.specs.declared.task_lists.TasksErr.TheVariants.{BadLine, TooMany, TooFew, NotRam, NoRoom, OnIsp, Count}
use Rattle.task_chains.specs.Tasks.{TasksData, count}
use Rattle.task_chains.specs.TaskListText.{switch_addresses_of, task_of, nonempty_task_lines, LinesNameTasks, BreaksTaskForm, IsFirstBadTaskLine, IsBadTaskLine, IsEighthTaskLine, IsTaskErr, IsErrOfTaskText, IsResultOfTaskText, TaskTextHasOneResult}
use Rattle.tcd_text.specs.Lines.{is_nonempty_line}

abbrev some_task : Task → Option Task
some_task t = Some t

-- ---- lists
front_same : {X : Type 0} (x y : X) (xs ys : List X) → x ∷ xs ≡ y ∷ ys → x ≡ y
front_same x y xs ys e = cc

rest_same : {X : Type 0} (x y : X) (xs ys : List X) → x ∷ xs ≡ y ∷ ys → xs ≡ ys
rest_same x y xs ys e = cc

cons_same : {X : Type 0} (x y : X) (xs ys : List X) → x ≡ y → xs ≡ ys → x ∷ xs ≡ y ∷ ys
cons_same x y xs ys e f = cc

tasks_same : (xs ys : List Task) → map some_task xs ≡ map some_task ys → xs ≡ ys
tasks_same [] [] e = refl
tasks_same [] (y ∷ ys) e = cc
tasks_same (x ∷ xs) [] e = cc
tasks_same (x ∷ xs) (y ∷ ys) e =
    let head : Some x ≡ Some y = front_same (Some x) (Some y) (map some_task xs) (map some_task ys) e in
    cons_same x y xs ys (let h : x ≡ y = cc in h) (tasks_same xs ys (rest_same (Some x) (Some y) (map some_task xs) (map some_task ys) e))

not_nothing : {X : Type 0} (xs ys : List X) (x : X) → xs ++ x ∷ ys ≡ [] → ⊥
not_nothing [] ys x e = absurd (let f : x ∷ ys ≡ [] = e in cc)
not_nothing (z ∷ zs) ys x e = absurd (let f : z ∷ (zs ++ x ∷ ys) ≡ [] = e in cc)

-- one front of a list is longer than another
cut : {X : Type 0} (xs zs ys ws : List X) (x z : X) → xs ++ x ∷ ys ≡ zs ++ z ∷ ws → length xs < length zs → (mid : List X) × (zs ≡ xs ++ x ∷ mid)
cut [] [] ys ws x z e lt = absurd (omega arith)
cut [] (a ∷ rest) ys ws x z e lt = (rest, cons_same a x rest rest (sym (front_same x a ys (rest ++ z ∷ ws) e)) refl)
cut (b ∷ bs) [] ys ws x z e lt = absurd (omega arith)
cut (b ∷ bs) (a ∷ rest) ys ws x z e lt =
    let c = cut bs rest ys ws x z (rest_same b a (bs ++ x ∷ ys) (rest ++ z ∷ ws) e) (omega arith) in
    (c.0, cons_same a b rest (bs ++ x ∷ c.0) (sym (front_same b a (bs ++ x ∷ ys) (rest ++ z ∷ ws) e)) c.1)

-- ---- lines
written_line : (line : List ℕ) (behind : List (List ℕ)) → line ≢ [] → nonempty_task_lines (line ∷ behind) ≡ line ∷ nonempty_task_lines behind
written_line [] behind some = absurd (some refl)
written_line (c ∷ cs) behind some = refl

written_split : (before behind : List (List ℕ)) (line : List ℕ) → line ≢ [] → nonempty_task_lines (before ++ line ∷ behind) ≡ nonempty_task_lines before ++ line ∷ nonempty_task_lines behind
written_split before behind line some = filter-append is_nonempty_line before (line ∷ behind) ∙ ap (λ l. nonempty_task_lines before ++ l) (written_line line behind some)

-- each of the lines that name tasks names one, and there are more tasks than lines before it
named_at : (xs ys : List (List ℕ)) (line : List ℕ) (list : List Task) → map task_of (xs ++ line ∷ ys) ≡ map some_task list → (task_of line ≡ None → ⊥) × (length xs < length list)
named_at [] ys line [] e = absurd (let f : task_of line ∷ map task_of ys ≡ [] = e in cc)
named_at [] ys line (t ∷ ts) e =
    (λ none. absurd (let f : None ≡ Some t = sym none ∙ front_same (task_of line) (Some t) (map task_of ys) (map some_task ts) e in cc), omega arith)
named_at (x ∷ xs) ys line [] e = absurd (let f : task_of x ∷ map task_of (xs ++ line ∷ ys) ≡ [] = e in cc)
named_at (x ∷ xs) ys line (t ∷ ts) e =
    let rest = named_at xs ys line ts (rest_same (task_of x) (Some t) (map task_of (xs ++ line ∷ ys)) (map some_task ts) e) in
    (rest.0, omega (arith, rest.1))

-- lines name one list of tasks
said_one : (lines : List (List ℕ)) (t s : TasksData) → LinesNameTasks lines t → LinesNameTasks lines s → t ≡ s
said_one lines t s a b =
    let e = sym a.split ∙ b.split in
    let first = front_same a.first b.first a.behind b.behind e in
    let behind = rest_same a.first b.first a.behind b.behind e in
    let places = sym a.places ∙ ap switch_addresses_of first ∙ b.places in
    let same = places_same (record { switch = t.switch; block = t.block }) (record { switch = s.switch; block = s.block }) places in
    let switch : t.switch ≡ s.switch = ap (λ (r : Places). r.switch) same in
    let block : t.block ≡ s.block = ap (λ (r : Places). r.block) same in
    λ i. record { switch = switch i; block = block i; list = (tasks_same t.list s.list (sym a.named ∙ ap (λ (l : List (List ℕ)). map task_of l) behind ∙ b.named)) i }
  where
    places_same : (p q : Places) → Some p ≡ Some q → p ≡ q
    places_same p q e = cc

module _ (before behind : List (List ℕ)) (line : List ℕ) (some : line ≢ []) (t : TasksData) (said : LinesNameTasks (before ++ line ∷ behind) t) where
  -- the lines after the first, if the lines before this one name tasks
  behind_is : (s : TasksData) (front : LinesNameTasks before s) → said.behind ≡ front.behind ++ line ∷ nonempty_task_lines behind
  behind_is s front =
      rest_same said.first front.first said.behind (front.behind ++ line ∷ nonempty_task_lines behind)
      (sym said.split ∙ written_split before behind line some ∙ ap (λ l. l ++ line ∷ nonempty_task_lines behind) front.split)

  named_here : (s : TasksData) (front : LinesNameTasks before s) → (task_of line ≡ None → ⊥) × (length front.behind < length t.list)
  named_here s front = named_at front.behind (nonempty_task_lines behind) line t.list (ap (λ (l : List (List ℕ)). map task_of l) (sym (behind_is s front)) ∙ said.named)

  good_front : ((nonempty_task_lines before ≡ []) × (switch_addresses_of line ≡ None)) ⊎ (((s : TasksData) × LinesNameTasks before s) × (task_of line ≡ None)) → ⊥
  good_front (inl (none, bad)) =
      let first = front_same said.first line said.behind (nonempty_task_lines behind) (sym said.split ∙ written_split before behind line some ∙ ap (λ l. l ++ line ∷ nonempty_task_lines behind) none) in
      absurd (let f : None ≡ Some (record { switch = t.switch; block = t.block }) = sym bad ∙ ap switch_addresses_of (sym first) ∙ said.places in cc)
  good_front (inr ((s, front), bad)) = (named_here s front).0 bad

  eight_said : (s : TasksData) → LinesNameTasks before s → count s ≡ 7 → 8 ≤ count t
  eight_said s front seven =
      omega (arith, (named_here s front).1, ap (λ (l : List (Option Task)). length l) front.named, length-map front.behind task_of, length-map s.list some_task)

-- ---- one bad line
said_or_bad : (lines : List (List ℕ)) (t : TasksData) (n : ℕ) → LinesNameTasks lines t → IsBadTaskLine lines n → ⊥
said_or_bad lines t n said (inl (none, at)) = absurd (let f : said.first ∷ said.behind ≡ [] = sym said.split ∙ none in cc)
said_or_bad lines t n said (inr bad) = good_front bad.before bad.behind bad.line (bad.breaks).0 t (subst (λ l. LinesNameTasks l t) bad.split said) (bad.breaks).1

-- lines that are of the right form so far
not_before : (before mid : List (List ℕ)) (line other : List ℕ) → BreaksTaskForm (before ++ line ∷ mid) other → BreaksTaskForm before line → ⊥
not_before before mid line other (some, inl (none, bad)) breaks = not_nothing (nonempty_task_lines before) (nonempty_task_lines mid) line (sym (written_split before mid line breaks.0) ∙ none)
not_before before mid line other (some, inr ((s, said), bad)) breaks = good_front before mid line breaks.0 s said breaks.1

first_one : (lines : List (List ℕ)) (n m : ℕ) → IsFirstBadTaskLine lines n → IsFirstBadTaskLine lines m → n ≡ m
first_one lines n m a b =
    elim (cases_lt (length a.before) (length b.before)) [
      | inl less ↦
          let c = cut a.before b.before a.behind b.behind a.line b.line (sym a.split ∙ b.split) less in
          absurd (not_before a.before c.0 a.line b.line (subst (λ l. BreaksTaskForm l b.line) c.1 b.breaks) a.breaks)
      | inr from ↦ elim (cases_lt (length b.before) (length a.before)) [
        | inl less ↦
            let c = cut b.before a.before b.behind a.behind b.line a.line (sym b.split ∙ a.split) less in
            absurd (not_before b.before c.0 b.line a.line (subst (λ l. BreaksTaskForm l a.line) c.1 a.breaks) b.breaks)
        | inr past ↦ omega (arith, a.at, b.at)
      ]
    ]

bad_one : (lines : List (List ℕ)) (n m : ℕ) → IsBadTaskLine lines n → IsBadTaskLine lines m → n ≡ m
bad_one lines n m (inl a) (inl b) = a.1 ∙ sym b.1
bad_one lines n m (inl a) (inr b) = absurd (not_nothing (nonempty_task_lines b.before) (nonempty_task_lines b.behind) b.line (sym (written_split b.before b.behind b.line (b.breaks).0) ∙ ap nonempty_task_lines (sym b.split) ∙ a.0))
bad_one lines n m (inr a) (inl b) = absurd (not_nothing (nonempty_task_lines a.before) (nonempty_task_lines a.behind) a.line (sym (written_split a.before a.behind a.line (a.breaks).0) ∙ ap nonempty_task_lines (sym a.split) ∙ b.0))
bad_one lines n m (inr a) (inr b) = first_one lines n m a b

-- ---- one thing against tasks
module _ (lines : List (List ℕ)) where
  many : (t : TasksData) (n : ℕ) → LinesNameTasks lines t → IsEighthTaskLine lines n → 8 ≤ count t
  many t n said e = eight_said e.before e.behind e.line e.some t (subst (λ l. LinesNameTasks l t) e.split said) e.seven e.said e.many

  longer : (n m : ℕ) (a : IsEighthTaskLine lines n) (b : IsEighthTaskLine lines m) → length a.before < length b.before → ⊥
  longer n m a b less =
      let c = cut a.before b.before a.behind b.behind a.line b.line (sym a.split ∙ b.split) less in
      absurd (omega (arith, eight_said a.before c.0 a.line a.some b.seven (subst (λ l. LinesNameTasks l b.seven) c.1 b.said) a.seven a.said a.many, b.many))

  eighth_one : (n m : ℕ) → IsEighthTaskLine lines n → IsEighthTaskLine lines m → n ≡ m
  eighth_one n m a b =
      elim (cases_lt (length a.before) (length b.before)) [
        | inl less ↦ absurd (longer n m a b less)
        | inr from ↦ elim (cases_lt (length b.before) (length a.before)) [
          | inl less ↦ absurd (longer m n b a less)
          | inr past ↦ omega (arith, a.at, b.at)
        ]
      ]

module _ (plan : PlanData) (lines : List (List ℕ)) (t : TasksData) (said : LinesNameTasks lines t) where
  many_few : (n : ℕ) → IsEighthTaskLine lines n → count t ≤ 7 → ⊥
  many_few n e few = let le = many lines t n said e in absurd (omega arith)

  one_against : (e f : TasksErr) → IsTaskErr plan lines t e → IsTaskErr plan lines t f → e ≡ f
  one_against (BadLine n) f a b = absurd a
  one_against Count f a b = absurd a
  one_against (TooMany n) (BadLine m) a b = absurd b
  one_against (TooMany n) (TooMany m) a b = ap TooMany (eighth_one lines n m a b)
  one_against (TooMany n) TooFew a b = absurd (many_few n a (let lt : count t < 2 = b in omega arith))
  one_against (TooMany n) NotRam a b = absurd (many_few n a (b.0).1)
  one_against (TooMany n) NoRoom a b = absurd (many_few n a (b.0).1)
  one_against (TooMany n) OnIsp a b = absurd (many_few n a (b.0).1)
  one_against (TooMany n) Count a b = absurd b
  one_against TooFew (BadLine m) a b = absurd b
  one_against TooFew (TooMany m) a b = absurd (many_few m b (let lt : count t < 2 = a in omega arith))
  one_against TooFew TooFew a b = refl
  one_against TooFew NotRam a b = absurd (let lt : count t < 2 = a in let some = (b.0).0 in omega arith)
  one_against TooFew NoRoom a b = absurd (let lt : count t < 2 = a in let some = (b.0).0 in omega arith)
  one_against TooFew OnIsp a b = absurd (let lt : count t < 2 = a in let some = (b.0).0 in omega arith)
  one_against TooFew Count a b = absurd b
  one_against NotRam (BadLine m) a b = absurd b
  one_against NotRam (TooMany m) a b = absurd (many_few m b (a.0).1)
  one_against NotRam TooFew a b = absurd (let lt : count t < 2 = b in let some = (a.0).0 in omega arith)
  one_against NotRam NotRam a b = refl
  one_against NotRam NoRoom a b = absurd (a.1 b.1)
  one_against NotRam OnIsp a b = absurd (a.1 b.1)
  one_against NotRam Count a b = absurd b
  one_against NoRoom (BadLine m) a b = absurd b
  one_against NoRoom (TooMany m) a b = absurd (many_few m b (a.0).1)
  one_against NoRoom TooFew a b = absurd (let lt : count t < 2 = b in let some = (a.0).0 in omega arith)
  one_against NoRoom NotRam a b = absurd (b.1 a.1)
  one_against NoRoom NoRoom a b = refl
  one_against NoRoom OnIsp a b = absurd (a.2 b.2)
  one_against NoRoom Count a b = absurd b
  one_against OnIsp (BadLine m) a b = absurd b
  one_against OnIsp (TooMany m) a b = absurd (many_few m b (a.0).1)
  one_against OnIsp TooFew a b = absurd (let lt : count t < 2 = b in let some = (a.0).0 in omega arith)
  one_against OnIsp NotRam a b = absurd (b.1 a.1)
  one_against OnIsp NoRoom a b = absurd (b.2 a.2)
  one_against OnIsp OnIsp a b = refl
  one_against OnIsp Count a b = absurd b

-- ---- one answer
module _ (plan : PlanData) (lines : List (List ℕ)) where
  refusal : (e : TasksErr) → IsErrOfTaskText plan lines e → ((n : ℕ) × (e ≡ BadLine n) × IsBadTaskLine lines n) ⊎ ((t : TasksData) × LinesNameTasks lines t × IsTaskErr plan lines t e)
  refusal (BadLine n) bad = inl (n, refl, bad)
  refusal _ bad = inr bad

  one_refusal : (e f : TasksErr) → IsErrOfTaskText plan lines e → IsErrOfTaskText plan lines f → e ≡ f
  one_refusal e f a b =
      elim (refusal e a) [
        | inl (n, is, bad) ↦ elim (refusal f b) [
          | inl (m, at, worse) ↦ is ∙ ap BadLine (bad_one lines n m bad worse) ∙ sym at
          | inr (t, said, rest) ↦ absurd (said_or_bad lines t n said bad)
        ]
        | inr (s, first, rest) ↦ elim (refusal f b) [
          | inl (m, at, worse) ↦ absurd (said_or_bad lines s m first worse)
          | inr (t, said, more) ↦ one_against plan lines s first e f rest (subst (λ u. IsTaskErr plan lines u f) (said_one lines t s said first) more)
        ]
      ]

  good_or_not : (t : TasksData) (e : TasksErr) → IsResultOfTaskText plan lines (Ok t) → IsErrOfTaskText plan lines e → ⊥
  good_or_not t e good bad =
      elim (refusal e bad) [
        | inl (n, is, line) ↦ said_or_bad lines t n good.said line
        | inr (s, said, against) ↦ by_error e (subst (λ u. IsTaskErr plan lines u e) (said_one lines s t said good.said) against)
      ]
    where
      by_error : (e : TasksErr) → IsTaskErr plan lines t e → ⊥
      by_error (BadLine n) a = a
      by_error (TooMany n) a = many_few plan lines t good.said n a (good.are).few
      by_error TooFew a = absurd (let lt : count t < 2 = a in let some = (good.are).some in omega arith)
      by_error NotRam a = a.1 (good.fit).in_ram
      by_error NoRoom a = a.2 (good.fit).room
      by_error OnIsp a = absurd (let f : true ≡ false = sym a.3 ∙ (good.fit).own_stack in cc)
      by_error Count a = a

pub reads_one : TaskTextHasOneResult
reads_one plan lines (Ok t) (Ok s) a b = ap Ok (said_one lines t s a.said b.said)
reads_one plan lines (Ok t) (Err f) a b = absurd (good_or_not plan lines t f a b)
reads_one plan lines (Err e) (Ok s) a b = absurd (good_or_not plan lines s e b a)
reads_one plan lines (Err e) (Err f) a b = ap Err (one_refusal plan lines e f a b)
