-- Laws of lines, one after another.
use Rattle.std.proofs.Common.{◌≡◌, ℕ, ◌+◌, List, [], ◌∷◌, length, Result, Ok, Err, refl, sym, ap, ◌∙◌, arith}
use Rattle.tcd_text.specs.Lines.{text_lines}
use Rattle.tcd_plan.specs.PlanData.{PlanData}
use Rattle.tc_script.specs.declared.errors.ScriptErr.{ScriptErr}
use Rattle.tc_script.specs.declared.errors.ScriptErr.TheVariants.{NoMemory}
use Rattle.tc_script.specs.declared.reading.Draft.{Draft}
use Rattle.tc_script.specs.ScriptText.{script_draft_after_line, draft_and_then, script_draft_after_lines, script_of_draft, IsAllowedScriptErr, GivesScript}

lines_read-cons : (plan : PlanData) (n : ℕ) (line : List ℕ) (lines : List (List ℕ)) (d : Draft) → script_draft_after_lines plan n (line ∷ lines) d ≡ draft_and_then (script_draft_after_line plan n line d) (λ d. script_draft_after_lines plan (n + 1) lines d)
unfolding script_draft_after_lines
lines_read-cons plan n line lines d = refl

module _ (plan : PlanData) (n : ℕ) (parts : List (List ℕ)) (line : List ℕ) (lines : List (List ℕ)) (d : Draft) (all : Result Draft ScriptErr) (cut : parts ≡ line ∷ lines) (so_far : script_draft_after_lines plan n parts d ≡ all) where
  answer : all ≡ draft_and_then (script_draft_after_line plan n line d) (λ d. script_draft_after_lines plan (n + 1) lines d)
  answer = sym so_far ∙ ap (λ ls. script_draft_after_lines plan n ls d) cut ∙ lines_read-cons plan n line lines d

  -- a line that is taken
  pub taken : (new : Draft) → script_draft_after_line plan n line d ≡ Ok new → script_draft_after_lines plan (n + 1) lines new ≡ all
  taken new is = sym (answer ∙ ap (λ r. draft_and_then r (λ d. script_draft_after_lines plan (n + 1) lines d)) is)

  refusal : (e : ScriptErr) → script_draft_after_line plan n line d ≡ Err e → script_of_draft all ≡ Err e
  refusal e is = ap script_of_draft (answer ∙ ap (λ r. draft_and_then r (λ d. script_draft_after_lines plan (n + 1) lines d)) is)

  -- a line that is refused
  pub refused : (e : ScriptErr) → IsAllowedScriptErr e (script_draft_after_line plan n line d) → GivesScript (Err e) (script_of_draft all)
  refused NoMemory is = tt
  refused it is = refusal it is

-- all lines are read
pub all_read : (plan : PlanData) (n : ℕ) (rest : List ℕ) (d : Draft) (all : Result Draft ScriptErr) → length rest ≡ 0 → script_draft_after_lines plan n (text_lines rest) d ≡ all → all ≡ Ok d
unfolding script_draft_after_lines text_lines
all_read plan n [] d all none is = sym is
all_read plan n (c ∷ cs) d all none is = absurd (omega arith)
