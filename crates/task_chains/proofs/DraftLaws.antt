-- The lines of a text of tasks, read one after another.
use Rattle.std.proofs.Common.{◌≡◌, ◌≢◌, ℕ, ◌+◌, ◌<◌, ◌≤◌, inl, inr, true, false, List, [], ◌∷◌, ◌++◌, length, take, map, Option, Some, None, refl, sym, ap, ◌∙◌, subst, arith}
use Rattle.std.specs.Prelude.{IsSome}
use Rattle.std.specs.Option.{option_or}
use Rattle.std.proofs.lemmas.Bool.{cases_lt}
use Rattle.std.proofs.lemmas.List.{length-append, length-take, map-append, take_all, take-append-le, append-nil}
use Rattle.std.proofs.lemmas.List.Elements.{filter-append}
use Rattle.tcd_text.specs.Lines.{text_lines, is_nonempty_line}
use Rattle.task_chains.specs.declared.lines.Places.{Places}
use Rattle.task_chains.specs.declared.drafts.TasksDraft.{TasksDraft}
use Rattle.task_chains.specs.declared.task_lists.Task.{Task}
use Rattle.task_chains.specs.Tasks.{TasksData}
use Rattle.task_chains.specs.TaskListText.{task_of, nonempty_task_lines, LinesNameTasks, IsEighthTaskLine, tasks_with, IsEighthTaskLineIfAny, IsTasksDraftOfParts, IsTasksDraftOf, IsTasksDraftAfterLine}

abbrev some_task : Task → Option Task
some_task t = Some t

-- ---- what is written
module _ (before : List (List ℕ)) where
  written_more : (line : List ℕ) → nonempty_task_lines (before ++ line ∷ []) ≡ nonempty_task_lines before ++ nonempty_task_lines (line ∷ [])
  written_more line = filter-append is_nonempty_line before (line ∷ [])

  written_empty : nonempty_task_lines (before ++ [] ∷ []) ≡ nonempty_task_lines before
  written_empty = written_more [] ∙ append-nil (nonempty_task_lines before)

  written_line : (line : List ℕ) → 0 < length line → nonempty_task_lines (before ++ line ∷ []) ≡ nonempty_task_lines before ++ line ∷ []
  written_line [] lt = absurd (omega arith)
  written_line (x ∷ xs) lt = written_more (x ∷ xs)

not_empty : (line : List ℕ) → 0 < length line → line ≢ []
not_empty [] lt = λ e. absurd (omega arith)
not_empty (x ∷ xs) lt = λ e. cc

behind_more : (xs ys : List (List ℕ)) (x y : List ℕ) → (xs ++ x ∷ ys) ++ y ∷ [] ≡ xs ++ x ∷ (ys ++ y ∷ [])
behind_more [] ys x y = refl
behind_more (z ∷ zs) ys x y = ap (λ l. z ∷ l) (behind_more zs ys x y)

-- ---- an eighth task stays where it is
eighth_more : (before : List (List ℕ)) (line : List ℕ) (n : ℕ) → IsEighthTaskLine before n → IsEighthTaskLine (before ++ line ∷ []) n
eighth_more before line n e = record {
  before = e.before;
  line = e.line;
  behind = e.behind ++ line ∷ [];
  split = ap (λ l. l ++ line ∷ []) e.split ∙ behind_more e.before e.behind e.line line;
  at = e.at;
  some = e.some;
  seven = e.seven;
  said = e.said;
  many = e.many;
}

tells_same : (before : List (List ℕ)) (line : List ℕ) (tasks : TasksData) (eighth : Option ℕ) → IsEighthTaskLineIfAny before tasks eighth → IsEighthTaskLineIfAny (before ++ line ∷ []) tasks eighth
tells_same before line tasks None few = few
tells_same before line tasks (Some n) e = eighth_more before line n e

-- ---- one line more
module _ (before : List (List ℕ)) where
  -- an empty line
  said_empty : (tasks : TasksData) → LinesNameTasks before tasks → LinesNameTasks (before ++ [] ∷ []) tasks
  said_empty tasks s = record { first = s.first; behind = s.behind; split = written_empty before ∙ s.split; places = s.places; named = s.named }

  draft_empty : (places : Option Places) (list : List Task) (eighth : Option ℕ) → IsTasksDraftOfParts before places list eighth → IsTasksDraftOfParts (before ++ [] ∷ []) places list eighth
  draft_empty None list eighth d = (written_empty before ∙ d.0, d.1, d.2)
  draft_empty (Some p) list eighth d = record { all = d.all; said = said_empty (tasks_with p d.all) d.said; seven = d.seven; more = tells_same before [] (tasks_with p d.all) eighth d.more }

  -- a line that names a task
  said_more : (line : List ℕ) (p : Places) (t : Task) (all : List Task) → 0 < length line → task_of line ≡ Some t → LinesNameTasks before (tasks_with p all) → LinesNameTasks (before ++ line ∷ []) (tasks_with p (all ++ t ∷ []))
  said_more line p t all lt is s = record {
    first = s.first;
    behind = s.behind ++ line ∷ [];
    split = written_line before line lt ∙ ap (λ l. l ++ line ∷ []) s.split;
    places = s.places;
    named = map-append task_of s.behind (line ∷ []) ∙ ap (λ l. l ++ task_of line ∷ []) s.named ∙ ap (λ o. map some_task all ++ o ∷ []) is ∙ sym (map-append some_task all (t ∷ []));
  }

  tells_few : (line : List ℕ) (p : Places) (t : Task) (all : List Task) (eighth : Option ℕ) → length all < 7 → IsEighthTaskLineIfAny before (tasks_with p all) eighth → IsEighthTaskLineIfAny (before ++ line ∷ []) (tasks_with p (all ++ t ∷ [])) eighth
  tells_few line p t all None lt few = omega (arith, length-append all (t ∷ []))
  tells_few line p t all (Some n) lt e = eighth_more before line n e

  tells_many : (n : ℕ) (line : List ℕ) (p : Places) (t : Task) (all : List Task) (eighth : Option ℕ) → n ≡ length before + 1 → 0 < length line → 7 ≤ length all → LinesNameTasks before (tasks_with p all) → IsEighthTaskLineIfAny before (tasks_with p all) eighth
      → IsEighthTaskLineIfAny (before ++ line ∷ []) (tasks_with p (all ++ t ∷ [])) (option_or eighth (Some n))
  tells_many n line p t all None at lt many s few = record { before = before; line = line; behind = []; split = refl; at = at; some = not_empty line lt; seven = tasks_with p all; said = s; many = omega arith }
  tells_many n line p t all (Some k) at lt many s e = eighth_more before line k e

  pub draft_task : (n : ℕ) (line : List ℕ) (p : Places) (t : Task) (list more : List Task) (eighth next : Option ℕ) → n ≡ length before + 1 → 0 < length line → task_of line ≡ Some t
      → (length list < 7 → (more ≡ list ++ t ∷ []) × (next ≡ eighth)) → (7 ≤ length list → (more ≡ list) × (next ≡ option_or eighth (Some n))) → IsTasksDraftOfParts before (Some p) list eighth → IsTasksDraftOfParts (before ++ line ∷ []) (Some p) more next
  draft_task n line p t list more eighth next at lt is room full d =
      let size : length list ≡ length (take 7 d.all) = ap (λ (l : List Task). length l) d.seven in
      elim (cases_lt (length d.all) 7) [
        | inl few ↦
            let whole = take_all 7 d.all (omega arith) in
            let r = room (omega (arith, size, ap (λ (l : List Task). length l) whole)) in
            record {
              all = d.all ++ t ∷ [];
              said = said_more line p t d.all lt is d.said;
              seven = r.0 ∙ ap (λ l. l ++ t ∷ []) (d.seven ∙ whole) ∙ sym (take_all 7 (d.all ++ t ∷ []) (omega (arith, length-append d.all (t ∷ []))));
              more = subst (IsEighthTaskLineIfAny (before ++ line ∷ []) (tasks_with p (d.all ++ t ∷ []))) (sym r.1) (tells_few line p t d.all eighth few d.more);
            }
        | inr many ↦
            let f = full (omega (arith, size, length-take 7 d.all)) in
            record {
              all = d.all ++ t ∷ [];
              said = said_more line p t d.all lt is d.said;
              seven = f.0 ∙ d.seven ∙ sym (take-append-le 7 d.all (t ∷ []) many);
              more = subst (IsEighthTaskLineIfAny (before ++ line ∷ []) (tasks_with p (d.all ++ t ∷ []))) (sym f.1) (tells_many n line p t d.all eighth at lt many d.said d.more);
            }
      ]

pub draft_nothing : (before : List (List ℕ)) (line : List ℕ) (d : TasksDraft) → length line ≡ 0 → IsTasksDraftOf before d → IsTasksDraftOf (before ++ line ∷ []) d
draft_nothing before [] d none is = draft_empty before d.places d.list.items d.eighth is
draft_nothing before (x ∷ xs) d none is = absurd (omega arith)

-- ---- a draft and one line more
pub takes_nothing : (d : TasksDraft) (n : ℕ) (line : List ℕ) → length line ≡ 0 → IsTasksDraftAfterLine d n line d
takes_nothing d n line none before made at = draft_nothing before line d none made

module _ (old : TasksDraft) (n : ℕ) (line : List ℕ) (some : 0 < length line) where
  takes_by : (o : Option Places) (t : Task) (list more : List Task) (eighth next : Option ℕ) → IsSome o → task_of line ≡ Some t → (length list < 7 → (more ≡ list ++ t ∷ []) × (next ≡ eighth)) → (7 ≤ length list → (more ≡ list) × (next ≡ option_or eighth (Some n)))
      → (before : List (List ℕ)) → IsTasksDraftOfParts before o list eighth → n ≡ length before + 1 → IsTasksDraftOfParts (before ++ line ∷ []) o more next
  takes_by None t list more eighth next there is room full before made at = absurd (let f : false ≡ true = there in cc)
  takes_by (Some p) t list more eighth next there is room full before made at = draft_task before n line p t list more eighth next at some is room full made

  pub takes_task : (new : TasksDraft) (t : Task) → IsSome old.places → task_of line ≡ Some t → new.places ≡ old.places → (length old.list.items < 7 → (new.list.items ≡ old.list.items ++ t ∷ []) × (new.eighth ≡ old.eighth))
      → (7 ≤ length old.list.items → (new.list.items ≡ old.list.items) × (new.eighth ≡ option_or old.eighth (Some n))) → IsTasksDraftAfterLine old n line new
  takes_task new t there is same room full before made at =
      subst (λ o. IsTasksDraftOfParts (before ++ line ∷ []) o new.list.items new.eighth) (sym same)
      (takes_by old.places t old.list.items new.list.items old.eighth new.eighth there is room full before made at)

-- ---- a text
-- the draft is that of the lines before those that are left
pub record IsDraftSoFar (bytes rest : List ℕ) (number : ℕ) (d : TasksDraft) : Type 0 where
  pub before : List (List ℕ)
  pub split : text_lines bytes ≡ before ++ text_lines rest
  pub count : number ≡ length before
  pub made : IsTasksDraftOf before d

pub drafted_all : (bytes rest : List ℕ) (number : ℕ) (d : TasksDraft) → length rest ≡ 0 → IsDraftSoFar bytes rest number d → IsTasksDraftOf (text_lines bytes) d
unfolding text_lines
drafted_all bytes [] number d none so = subst (λ ls. IsTasksDraftOf ls d) (sym (so.split ∙ append-nil so.before)) so.made
drafted_all bytes (x ∷ xs) number d none so = absurd (omega arith)
