-- The inputs of a command, in the order in which they are read.
use Rattle.std.specs.Prelude.{◌≡◌, ◌≤◌, ◌+◌, ◌⊎◌, ℕ, List, ◌∷◌, length, Option, IsTrue, ◌<◌, Some, []}
use Rattle.tcd_base.specs.Files.{FileMap, FilesSeen, ReadsFile, IsFileTooLong, HasFileOfName}
use Rattle.tcd_reading.specs.Reports.{Report, RejectsInput}
use Rattle.std.specs.FinMap.{get}
use Rattle.tcd_base.specs.FailingCalls.{IsFaultCounted}

-- ---- one input
-- A form of input files: the most bytes, the line for a larger file, the value of bytes, and the
-- lines for bytes without a value.
pub record FormSeen (A : Type 0) : Type 1 where
  pub limit : ℕ
  pub too_long_line : List ℕ
  pub Is : List ℕ → A → Type 0
  pub IsBad : List ℕ → List ℕ → Type 0

-- the files hold an input of a command: the file of this name is within its form's limit, and has
-- this value
abbrev pub HoldsInput : {A : Type 0} → FormSeen A → Option FileMap → List ℕ → A → Type 0
HoldsInput form held name x = (bytes : List ℕ) × ReadsFile held name bytes × (length bytes ≤ form.limit) × form.Is bytes x

-- The files are known to hold an input of a command: the bytes of this name are within its form's
-- limit, and have this value.
pub record MapHoldsInput {A : Type 0} (form : FormSeen A) (m : FileMap) (name : List ℕ) (x : A) : Type 0 where
  pub bytes : List ℕ
  pub held : get m name ≡ Some bytes
  pub short : length bytes ≤ form.limit
  pub is : form.Is bytes x

-- the files hold an input of a command that isn't in its form, and this is a line for it: the one
-- for bytes above the limit, or one of those for bytes without a value
pub data MapHoldsBadInput {A : Type 0} (form : FormSeen A) (m : FileMap) (name line : List ℕ) : Type 0 where
  above_limit : (bytes : List ℕ) → get m name ≡ Some bytes → form.limit < length bytes → line ≡ form.too_long_line → MapHoldsBadInput form m name line
  without_value : (bytes : List ℕ) → get m name ≡ Some bytes → length bytes ≤ form.limit → form.IsBad bytes line → MapHoldsBadInput form m name line

-- why an input file of a command is rejected, with the line: the file is above its form's limit, or
-- isn't in its form
pub data IsInputRejection {A : Type 0} (form : FormSeen A) (held : Option FileMap) (name text : List ℕ) : Type 0 where
  long : IsFileTooLong held name form.limit → text ≡ form.too_long_line → IsInputRejection form held name text
  bad : (bytes : List ℕ) → ReadsFile held name bytes → length bytes ≤ form.limit → form.IsBad bytes text → IsInputRejection form held name text

-- ---- the inputs of a command
-- the inputs of a command, each in its form, and its report after all of them
pub data Reading : Type 1 where
  answer : (Report → Type 0) → Reading
  input : (A : Type 0) → FormSeen A → List ℕ → (A → Reading) → Reading

-- the input files of these names, numbered from `place` on, each in the form of its number; all
-- their values are given to `next`
abbrev pub input_files : (A : Type 0) → (ℕ → FormSeen A) → ℕ → List (List ℕ) → (List A → Reading) → Reading
input_files A form place [] next = next []
input_files A form place (name ∷ names) next = input A (form place) name (λ x. input_files A form (place + 1) names (λ xs. next (x ∷ xs)))

-- what reading the inputs of a command leads to: the report on the first input that isn't in its
-- form, or else on all inputs
abbrev pub ReadingSays : Reading → Option FileMap → Report → Type 0
ReadingSays (answer IsReport) held report = IsReport report
ReadingSays (input A form name next) held report =
    RejectsInput (IsInputRejection form held name) report ⊎ ((x : A) × HoldsInput form held name x × ReadingSays (next x) held report)

-- the files hold each input that the command needs: the first, and each next one if the earlier
-- ones are in their forms
abbrev pub HoldsNeededInputs : Reading → Option FileMap → Type 0
HoldsNeededInputs (answer IsReport) held = Unit {0}
HoldsNeededInputs (input A form name next) held = HasFileOfName held name × ((x : A) → HoldsInput form held name x → HoldsNeededInputs (next x) held)

-- no read of the command's inputs fails: the files are steady and hold each input that it needs
pub record HasAllInputs (reading : Reading) (files : FilesSeen) : Type 0 where
  pub steady : IsTrue files.steady
  pub hold : HoldsNeededInputs reading files.held

-- an input of a command couldn't be read: a fault was counted, and the files weren't steady or
-- lacked an input that it needs
pub record HasFailedToReadInput (reading : Reading) (old new : FilesSeen) : Type 0 where
  pub counted : IsFaultCounted old.faults new.faults
  pub unsure : HasAllInputs reading old → ⊥
