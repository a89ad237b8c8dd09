-- Calls whose status is decided, in plain words: the statement of a guard law. If the tool promised
-- less of it, or of fewer calls, the law would break.
use Rattle.std.specs.Prelude.{◌≡◌, ◌≢◌, ◌≤◌, ◌⊎◌, ◌↔◌, ℕ, true, length, List, Option, Some, None, IsSome, IfSome}
use Rattle.std.specs.FinMap.{get}
use Rattle.std.specs.List.{All}
use Rattle.tcd_base.specs.Files.{FileMap}
use Rattle.tcd_reading.specs.declared.status.Status.TheVariants.{Done, Refused, BadInput, NoMemory, BadWords}
use Rattle.tcd_driver.specs.Headlines.Asks.{InputRequirement, is_elf, is_plan, is_cert, is_layout, is_object, is_source, is_script, are_cells, are_tasks, BadInputOf}
use Rattle.tcd_driver.specs.Tool.{ToolCall, CommandSays}

-- the name of the file that this requirement is about, if it is about one file
abbrev pub asked_name : InputRequirement → Option (List ℕ)
asked_name (is_elf name) = Some name
asked_name (is_plan name) = Some name
asked_name (is_cert name) = Some name
asked_name (is_layout name) = Some name
asked_name (is_object place name) = Some name
asked_name (is_source place name) = Some name
asked_name (is_script plan_name name) = Some name
asked_name (are_cells plan_name name) = Some name
asked_name (are_tasks plan_name name) = Some name
asked_name ask = None

-- the call's files are steady and hold these, and its sink has room for `bad words` and for the
-- text of each of three ends
pub record HasRoomForEnds (call : ToolCall) (before : FileMap) (IfDone IfRefused IfBad : FileMap → List ℕ → Type 0) : Type 0 where
  pub held : (call.files).held ≡ Some before
  pub steady : (call.files).steady ≡ true
  pub room : ℕ
  pub room_is : (call.sink).room ≡ Some room
  pub bad_words : 10 ≤ room
  pub done : (after : FileMap) (text : List ℕ) → IfDone after text → length text ≤ room
  pub refused : (after : FileMap) (text : List ℕ) → IfRefused after text → length text ≤ room
  pub bad_input : (after : FileMap) (text : List ℕ) → IfBad after text → length text ≤ room

-- If a call keeps the command's promise, its status is one of three, each exactly if the call can
-- end so. Its files are steady and hold all that is asked of, its sink has room, and memory
-- suffices.
abbrev pub StatusesAreDecided : (FileMap → FileMap → List ℕ → Type 0) → (FileMap → FileMap → List ℕ → Type 0) → Type 0
StatusesAreDecided IfDone IfRefused =
    (call : ToolCall) (words : List (List ℕ)) (asks : List InputRequirement) (before : FileMap)
    → CommandSays call words asks IfDone IfRefused → call.words ≡ words
    → All (λ ask. IfSome (asked_name ask) (λ name. IsSome (get before name))) asks
    → HasRoomForEnds call before (IfDone before) (IfRefused before) (BadInputOf asks before)
    → call.status ≢ NoMemory → call.status ≢ BadWords
    → ((call.status ≡ Done) ⊎ ((call.status ≡ Refused) ⊎ (call.status ≡ BadInput)))
    × ((call.status ≡ Done) ↔ ((after : FileMap) × (text : List ℕ) × IfDone before after text))
    × ((call.status ≡ Refused) ↔ ((after : FileMap) × (text : List ℕ) × IfRefused before after text))
    × ((call.status ≡ BadInput) ↔ ((after : FileMap) × (text : List ℕ) × BadInputOf asks before after text))
