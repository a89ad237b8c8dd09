-- The lines of a script, one after another.
use Rattle.std.specs.Prelude.{◌≡◌, ℕ, ◌+◌, ◌&&◌, nat_le, Bool, false, if◌then◌else◌, List, ◌∷◌, ◌++◌, length, map, replicate, slice_set, slice_get, Option, Some, None, Result, Ok, Err, []}
use Rattle.tcd_text.specs.Lines.{text_lines, line_words}
use Rattle.tcd_plan.specs.declared.plans.Device.{Device}
use Rattle.tcd_plan.specs.PlanData.{PlanData, is_plan_irq}
use Rattle.tc_script.specs.declared.errors.ScriptErr.{ScriptErr}
use Rattle.tc_script.specs.declared.errors.ScriptErr.TheVariants.{BadLine, NoSource, OutOfRange, TooMany, NoMemory}
use Rattle.tc_script.specs.declared.reading.Draft.{Draft}
use Rattle.tc_script.specs.declared.statements.Statement.{Statement}
use Rattle.tc_script.specs.declared.statements.Statement.TheVariants.{Blank, Step, Irq, Aln, In}
use Rattle.tc_script.specs.ScriptData.{ScriptData}
use Rattle.tc_script.specs.Statements.{script_statement_of}
use Rattle.tc_script.specs.Ports.{initial_answer_bounds}

-- before the first line: no turns, each peripheral's first bounds, and no misaligned access traps
abbrev pub initial_script_draft : PlanData → Draft
initial_script_draft plan = record { script = record { turns = []; bounds = map initial_answer_bounds plan.devices }; aln = false }

-- n more turns with this interrupt, on the line with this number
abbrev pub with_turns : ℕ → ℕ → ℕ → Draft → Result Draft ScriptErr
with_turns line count irq d =
    if nat_le (length d.script.turns + count) 100000
    then Ok (record d { script = record d.script { turns = d.script.turns ++ replicate count (record { irq = irq; aln = d.aln }) } })
    else Err (TooMany line)

-- a line of a script's text may set these bounds for a peripheral's answers: the peripheral exists,
-- and they are inside its own
abbrev pub may_set_bounds : Option Device → ℕ → ℕ → Bool
may_set_bounds None lo hi = false
may_set_bounds (Some d) lo hi = nat_le d.lo lo && nat_le hi d.hi

-- the draft with these bounds for a peripheral
abbrev pub with_bounds : ℕ → ℕ → ℕ → Draft → Draft
with_bounds device lo hi d = record d { script = record d.script { bounds = slice_set d.script.bounds device (record { lo = lo; hi = hi }) } }

-- the draft after a statement, on the line with this number
unfoldable pub script_draft_after_statement : PlanData → ℕ → Statement → Draft → Result Draft ScriptErr
script_draft_after_statement plan line Blank d = Ok d
script_draft_after_statement plan line (Step n) d = with_turns line n 0 d
script_draft_after_statement plan line (Irq irq) d = if is_plan_irq plan irq then with_turns line 1 irq d else Err (NoSource line)
script_draft_after_statement plan line (Aln aln) d = Ok (record d { aln = aln })
script_draft_after_statement plan line (In device lo hi) d = if may_set_bounds (slice_get plan.devices device) lo hi then Ok (with_bounds device lo hi d) else Err (OutOfRange line)

-- the draft after a line, by its statement; a line without a statement is bad
abbrev pub script_draft_after_parsed_line : PlanData → ℕ → Option Statement → Draft → Result Draft ScriptErr
script_draft_after_parsed_line plan line None d = Err (BadLine line)
script_draft_after_parsed_line plan line (Some said) d = script_draft_after_statement plan line said d

-- the draft after a line
abbrev pub script_draft_after_line : PlanData → ℕ → List ℕ → Draft → Result Draft ScriptErr
script_draft_after_line plan number line d = script_draft_after_parsed_line plan number (script_statement_of (line_words line)) d

-- the result of reading on with the draft of a script, or the error of an earlier line
abbrev pub draft_and_then : Result Draft ScriptErr → (Draft → Result Draft ScriptErr) → Result Draft ScriptErr
draft_and_then (Ok d) next = next d
draft_and_then (Err e) next = Err e

-- the draft after lines, the first with this number
unfoldable pub script_draft_after_lines : PlanData → ℕ → List (List ℕ) → Draft → Result Draft ScriptErr
script_draft_after_lines plan number [] d = Ok d
script_draft_after_lines plan number (line ∷ lines) d = draft_and_then (script_draft_after_line plan number line d) (λ d. script_draft_after_lines plan (number + 1) lines d)

-- the script that the lines give, or their refusal
abbrev pub script_of_draft : Result Draft ScriptErr → Result ScriptData ScriptErr
script_of_draft (Ok d) = Ok d.script
script_of_draft (Err e) = Err e

-- the script that the bytes of a file give, or the refusal of the first bad line
abbrev pub script_of : PlanData → List ℕ → Result ScriptData ScriptErr
script_of plan bytes = script_of_draft (script_draft_after_lines plan 1 (text_lines bytes) (initial_script_draft plan))

-- the error of reading a script is the right one; out of memory is always possible
abbrev pub IsAllowedScriptErr : {A : Type 0} → ScriptErr → Result A ScriptErr → Type 0
IsAllowedScriptErr (BadLine n) answer = answer ≡ Err (BadLine n)
IsAllowedScriptErr (NoSource n) answer = answer ≡ Err (NoSource n)
IsAllowedScriptErr (OutOfRange n) answer = answer ≡ Err (OutOfRange n)
IsAllowedScriptErr (TooMany n) answer = answer ≡ Err (TooMany n)
IsAllowedScriptErr NoMemory answer = Unit {0}

-- the script's draft, changed in place, or the error is right; out of memory is always possible
abbrev pub GivesScriptDraft : Result Unit ScriptErr → Draft → Result Draft ScriptErr → Type 0
GivesScriptDraft (Ok done) new answer = answer ≡ Ok new
GivesScriptDraft (Err e) new answer = IsAllowedScriptErr e answer

-- the script or the error is right; out of memory is always possible
abbrev pub GivesScript : Result ScriptData ScriptErr → Result ScriptData ScriptErr → Type 0
GivesScript (Ok script) answer = answer ≡ Ok script
GivesScript (Err e) answer = IsAllowedScriptErr e answer
