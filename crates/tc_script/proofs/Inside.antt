-- What is read fits the plan.
use Rattle.std.proofs.Common.{◌≡◌, ℕ, zero, suc, ◌+◌, ◌<◌, ◌≤◌, ◌⊎◌, inl, inr, Bool, true, false, List, [], ◌∷◌, length, map, set, slice_get, Option, Some, None, Result, Ok, Err, refl, subst, ◌∙◌, arith}
use Rattle.std.specs.Prelude.{nat_le, ◌==◌, ◌&&◌, Contains, IfSome, codes}
use Rattle.std.specs.List.{list_any, list_all}
use Rattle.std.specs.Option.{option_and_then}
use Rattle.std.specs.Str.{bytes_eq}
use Rattle.std.proofs.lemmas.Bool.{and_parts, leb-true, eqb-true, or_cases, cond_both, false≢true}
use Rattle.std.proofs.lemmas.List.{length-set, length-map}
use Rattle.std.proofs.lemmas.List.Elements.{All-nil, All-append, All-replicate}
use Rattle.tcd_text.specs.Lines.{line_words}
use Rattle.tcd_text.proofs.LineLaws.{more_words}
use Rattle.tcd_plan.specs.declared.plans.Device.{Device}
use Rattle.tcd_plan.specs.PlanData.{PlanData, IsPlan, is_plan_device, is_plan_range, is_plan_irq}
use Rattle.tc_script.specs.declared.errors.ScriptErr.{ScriptErr}
use Rattle.tc_script.specs.declared.errors.ScriptErr.TheVariants.{OutOfRange}
use Rattle.tc_script.specs.declared.reading.Draft.{Draft}
use Rattle.tc_script.specs.declared.scripts.AnswerRange.{AnswerRange}
use Rattle.tc_script.specs.declared.statements.Statement.{Statement}
use Rattle.tc_script.specs.declared.statements.Statement.TheVariants.{Step, Irq, Aln, In}
use Rattle.tc_script.specs.Numbers.{script_number}
use Rattle.tc_script.specs.Statements.{statement_if, statement_of_one_number, statement_of_three_numbers, script_statement_of, statement_of_one_word, HasOrderedBounds}
use Rattle.tc_script.specs.ScriptsFitPlans.{AreAnswerBoundsInside, FitsPlan}
use Rattle.tc_script.specs.ScriptText.{initial_script_draft, with_turns, may_set_bounds, with_bounds, script_draft_after_statement, script_draft_after_parsed_line, script_draft_after_line, draft_and_then, script_draft_after_lines}
use Rattle.tc_script.specs.Ports.{initial_answer_bounds}

-- ---- bounds in order
abbrev IsOrderedIf : Option Statement → Type 0
IsOrderedIf o = IfSome o HasOrderedBounds

ordered_if : (test : Bool) (said : Statement) → (test ≡ true → HasOrderedBounds said) → IsOrderedIf (statement_if test said)
ordered_if true said h = h refl
ordered_if false said h = tt

pub three_ordered : (verb : List ℕ) (device lo hi : ℕ) → IsOrderedIf (statement_of_three_numbers verb device lo hi)
three_ordered verb device lo hi = cond_both (bytes_eq verb (codes "in")) (statement_if (nat_le lo hi) (In device lo hi)) None IsOrderedIf (λ _. ordered_if (nat_le lo hi) (In device lo hi) (λ is. leb-true lo hi is)) (λ _. tt)

pub one_ordered : (verb : List ℕ) (n : ℕ) → IsOrderedIf (statement_of_one_number verb n)
one_ordered verb n =
    cond_both (bytes_eq verb (codes "step")) _ _ IsOrderedIf (λ _. ordered_if (nat_le 1 n && nat_le n 100000) (Step n) (λ _. tt))
    (λ _. cond_both (bytes_eq verb (codes "irq")) _ _ IsOrderedIf (λ _. ordered_if (nat_le n 255) (Irq n) (λ _. tt))
    (λ _. cond_both (bytes_eq verb (codes "aln")) (statement_if (nat_le n 1) (Aln (n == 1))) None IsOrderedIf (λ _. ordered_if (nat_le n 1) (Aln (n == 1)) (λ _. tt)) (λ _. tt)))

then_ordered : (o : Option ℕ) (f : ℕ → Option Statement) → ((n : ℕ) → IsOrderedIf (f n)) → IsOrderedIf (option_and_then f o)
then_ordered None f h = tt
then_ordered (Some n) f h = h n

blank_ordered : (word : List ℕ) → IsOrderedIf (statement_of_one_word word)
blank_ordered [] = tt
blank_ordered (c ∷ cs) = tt

-- the bounds of a statement are in order
pub statement_ordered : (words : List (List ℕ)) → IsOrderedIf (script_statement_of words)
unfolding script_statement_of
statement_ordered [] = tt
statement_ordered (word ∷ []) = blank_ordered word
statement_ordered (verb ∷ x ∷ []) = then_ordered (script_number x) (statement_of_one_number verb) (one_ordered verb)
statement_ordered (verb ∷ x ∷ y ∷ []) = tt
statement_ordered (verb ∷ x ∷ y ∷ z ∷ []) =
    then_ordered (script_number x) _ (λ device. then_ordered (script_number y) _ (λ lo. then_ordered (script_number z) _ (λ hi. three_ordered verb device lo hi)))
statement_ordered (verb ∷ x ∷ y ∷ z ∷ w ∷ words) = tt

-- more than four words are no statement
pub more_words_say_nothing : (words : List (List ℕ)) → 4 < length words → script_statement_of words ≡ None
unfolding script_statement_of
more_words_say_nothing words = more_words script_statement_of None (λ a b c d e words. refl) words

-- ---- what is said fits
abbrev Fits : PlanData → Draft → Type 0
Fits plan d = FitsPlan plan d.script

abbrev FitsIf : PlanData → Result Draft ScriptErr → Type 0
FitsIf plan (Ok d) = Fits plan d
FitsIf plan (Err e) = Unit {0}

source_contained : (q : ℕ) (qs : List ℕ) → list_any (λ r. r == q) qs ≡ true → Contains qs q
source_contained q [] is = absurd (false≢true is)
source_contained q (r ∷ qs) is = elim (or_cases (r == q) (list_any (λ r. r == q) qs) is) [
  | inl here ↦ (0, omega arith, eqb-true r q here)
  | inr there ↦ let found = source_contained q qs there in (suc found.0, omega (arith, found.1), found.2)
]

turns_fit : (plan : PlanData) (line count irq : ℕ) (d : Draft) → (irq ≡ 0) ⊎ Contains plan.irqs irq → Fits plan d → FitsIf plan (with_turns line count irq d)
turns_fit plan line count irq d source h =
    cond_both (nat_le (length d.script.turns + count) 100000) _ _ (FitsIf plan)
    (λ _. record {
      sources = All-append (λ turn. (turn.irq ≡ 0) ⊎ Contains plan.irqs turn.irq) d.script.turns _ h.sources (All-replicate (λ turn. (turn.irq ≡ 0) ⊎ Contains plan.irqs turn.irq) count _ source);
      devices = h.devices;
      bounds = h.bounds;
    })
    (λ _. tt)

holds_parts : (o : Option Device) (d : Device) (lo hi : ℕ) → o ≡ Some d → may_set_bounds o lo hi ≡ true → (d.lo ≤ lo) × (hi ≤ d.hi)
holds_parts None d lo hi is holds = absurd (false≢true holds)
holds_parts (Some e) d lo hi is holds = let same : e ≡ d = cc in let both = and_parts _ _ holds in subst (λ f. (f.lo ≤ lo) × (hi ≤ f.hi)) same (leb-true _ _ both.0, leb-true _ _ both.1)

bounds_set : (ds : List Device) (bs : List AnswerRange) (i lo hi : ℕ) → lo ≤ hi → may_set_bounds (slice_get ds i) lo hi ≡ true → AreAnswerBoundsInside ds bs → AreAnswerBoundsInside ds (set bs i (record { lo = lo; hi = hi }))
bounds_set [] [] i lo hi ordered holds h = h
bounds_set [] (b ∷ bs) i lo hi ordered holds h = absurd h
bounds_set (d ∷ ds) [] i lo hi ordered holds h = absurd h
bounds_set (d ∷ ds) (b ∷ bs) zero lo hi ordered holds h = let both = holds_parts (Some d) d lo hi refl holds in ((both.0, ordered, both.1), h.1)
bounds_set (d ∷ ds) (b ∷ bs) (suc i) lo hi ordered holds h = (h.0, bounds_set ds bs i lo hi ordered holds h.1)

stated_fits : (plan : PlanData) (line : ℕ) (said : Statement) (d : Draft) → HasOrderedBounds said → Fits plan d → FitsIf plan (script_draft_after_statement plan line said d)
unfolding script_draft_after_statement
stated_fits plan line (Step n) d ordered h = turns_fit plan line n 0 d (inl refl) h
stated_fits plan line (Irq irq) d ordered h =
    cond_both (is_plan_irq plan irq) _ _ (FitsIf plan) (λ is. turns_fit plan line 1 irq d (inr (source_contained irq plan.irqs is)) h) (λ _. tt)
stated_fits plan line (In device lo hi) d ordered h =
    cond_both (may_set_bounds (slice_get plan.devices device) lo hi) (Ok (with_bounds device lo hi d)) (Err (OutOfRange line)) (FitsIf plan)
    (λ is. record { sources = h.sources; devices = length-set d.script.bounds device (record { lo = lo; hi = hi }) ∙ h.devices; bounds = bounds_set plan.devices d.script.bounds device lo hi ordered is h.bounds })
    (λ _. tt)
stated_fits plan line _ d ordered h = h

said_fits : (plan : PlanData) (line : ℕ) (o : Option Statement) (d : Draft) → IsOrderedIf o → Fits plan d → FitsIf plan (script_draft_after_parsed_line plan line o d)
said_fits plan line None d ordered h = tt
said_fits plan line (Some said) d ordered h = stated_fits plan line said d ordered h

then_fits : (plan : PlanData) (r : Result Draft ScriptErr) (next : Draft → Result Draft ScriptErr) → FitsIf plan r → ((d : Draft) → Fits plan d → FitsIf plan (next d)) → FitsIf plan (draft_and_then r next)
then_fits plan (Ok d) next h more = more d h
then_fits plan (Err e) next h more = tt

lines_fit : (plan : PlanData) (n : ℕ) (lines : List (List ℕ)) (d : Draft) → Fits plan d → FitsIf plan (script_draft_after_lines plan n lines d)
unfolding script_draft_after_lines
lines_fit plan n [] d h = h
lines_fit plan n (line ∷ lines) d h =
    then_fits plan (script_draft_after_line plan n line d) _ (said_fits plan n (script_statement_of (line_words line)) d (statement_ordered (line_words line)) h) (λ d k. lines_fit plan (n + 1) lines d k)

own_inside : (ds : List Device) → list_all is_plan_device ds ≡ true → AreAnswerBoundsInside ds (map initial_answer_bounds ds)
own_inside [] all = tt
own_inside (d ∷ ds) all =
    let both = and_parts (is_plan_device d) (list_all is_plan_device ds) all in
    let parts = and_parts (is_plan_range d.range && nat_le d.lo d.hi) _ both.0 in
    let more = and_parts (is_plan_range d.range) (nat_le d.lo d.hi) parts.0 in
    let lies = leb-true d.lo d.hi more.1 in
    ((omega arith, omega arith, lies), own_inside ds both.1)

begun_fits : (plan : PlanData) → IsPlan plan → Fits plan (initial_script_draft plan)
begun_fits plan ok = record { sources = All-nil (λ turn. (turn.irq ≡ 0) ⊎ Contains plan.irqs turn.irq); devices = length-map plan.devices initial_answer_bounds; bounds = own_inside plan.devices ok.ranges.devices }

-- the script that is read fits the plan
pub script_fits : (plan : PlanData) (lines : List (List ℕ)) (d : Draft) → IsPlan plan → script_draft_after_lines plan 1 lines (initial_script_draft plan) ≡ Ok d → FitsPlan plan d.script
script_fits plan lines d ok is = subst (FitsIf plan) is (lines_fit plan 1 lines (initial_script_draft plan) (begun_fits plan ok))
