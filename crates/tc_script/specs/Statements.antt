-- The lines of a script: each is a statement of words, separated by one blank each.
use Rattle.std.specs.Prelude.{ℕ, ◌≤◌, nat_le, ◌==◌, ◌&&◌, Bool, if◌then◌else◌, List, [], ◌∷◌, Option, Some, None, codes}
use Rattle.std.specs.Option.{option_and_then}
use Rattle.std.specs.Str.{bytes_eq}
use Rattle.tc_script.specs.declared.statements.Statement.{Statement}
use Rattle.tc_script.specs.declared.statements.Statement.TheVariants.{Blank, Step, Irq, Aln, In}
use Rattle.tc_script.specs.Numbers.{script_number}

-- the statement of a line of one word: an empty line says nothing, and any other word is bad
abbrev pub statement_of_one_word : List ℕ → Option Statement
statement_of_one_word [] = Some Blank
statement_of_one_word word = None

-- this statement, if its numbers are within their bounds
abbrev pub statement_if : Bool → Statement → Option Statement
statement_if test s = if test then Some s else None

-- one number: `step N`, N from 1 to 100,000; `irq P`, P at most 255; `aln 0` and `aln 1`
abbrev pub statement_of_one_number : List ℕ → ℕ → Option Statement
statement_of_one_number verb n =
    if bytes_eq verb (codes "step") then statement_if (nat_le 1 n && nat_le n 100000) (Step n)
    else if bytes_eq verb (codes "irq") then statement_if (nat_le n 255) (Irq n)
    else if bytes_eq verb (codes "aln") then statement_if (nat_le n 1) (Aln (n == 1))
    else None

-- three numbers: `in DEVICE LO HI`, with LO at most HI
abbrev pub statement_of_three_numbers : List ℕ → ℕ → ℕ → ℕ → Option Statement
statement_of_three_numbers verb device lo hi = if bytes_eq verb (codes "in") then statement_if (nat_le lo hi) (In device lo hi) else None

-- the statement that the words of a script's line say, or None if the line has another form
unfoldable pub script_statement_of : List (List ℕ) → Option Statement
script_statement_of (word ∷ []) = statement_of_one_word word
script_statement_of (verb ∷ x ∷ []) = option_and_then (statement_of_one_number verb) (script_number x)
script_statement_of (verb ∷ x ∷ y ∷ z ∷ []) =
    option_and_then (λ device. option_and_then (λ lo. option_and_then (statement_of_three_numbers verb device lo) (script_number z)) (script_number y)) (script_number x)
script_statement_of words = None

-- the bounds of a statement `in` are in order; other statements have no bounds
abbrev pub HasOrderedBounds : Statement → Type 0
HasOrderedBounds (In device lo hi) = lo ≤ hi
HasOrderedBounds said = Unit {0}
