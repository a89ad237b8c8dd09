-- Calls whose status is decided.
use Rattle.std.proofs.Common.{◌≤◌, ℕ, List, [], ◌∷◌, length, sym, subst}
use Rattle.std.specs.Prelude.{IsSome, IfSome}
use Rattle.std.specs.FinMap.{get}
use Rattle.std.specs.List.{All}
use Rattle.std.proofs.lemmas.List.Elements.{All-head, All-tail}
use Rattle.tcd_base.specs.Files.{FileMap}
use Rattle.tcd_driver.specs.Headlines.Asks.{InputRequirement, are_linked, are_linked_sources, is_cert_per_task, IsInputPresent, AreInputsPresent}
use Rattle.tcd_driver.specs.Tool.{ToolCall, CallCannotFail, MayPrintText, of_bad_words, when_done, when_refused, when_bad}
use Rattle.tcd_driver.specs.SureCalls.{asked_name, HasRoomForEnds, StatusesAreDecided}

-- all that is asked is there, if its files are held
module _ (m : FileMap) where
  abbrev IsHeld : InputRequirement → Type 0
  IsHeld ask = IfSome (asked_name ask) (λ name. IsSome (get m name))

  is_there : (ask : InputRequirement) → IsHeld ask → IsInputPresent m ask
  is_there (are_linked layout names) held = tt
  is_there (are_linked_sources layout names) held = tt
  is_there (is_cert_per_task plan tasks names) held = tt
  is_there _ held = held

  are_there : (asks : List InputRequirement) → All IsHeld asks → AreInputsPresent m asks
  are_there [] all = tt
  are_there (ask ∷ asks) all = (is_there ask (All-head IsHeld ask asks all), are_there asks (All-tail IsHeld ask asks all))

-- nothing can fail with room, if all that is asked is there
cannot_fail : (call : ToolCall) (before : FileMap) (asks : List InputRequirement) (D R B : FileMap → List ℕ → Type 0) → AreInputsPresent before asks → HasRoomForEnds call before D R B → CallCannotFail call before asks (MayPrintText D R B)
cannot_fail call before asks D R B there h = record {
  held = h.held;
  steady = h.steady;
  there = there;
  room = h.room;
  room_is = h.room_is;
  fits = fits;
} where
  fits : (text : List ℕ) → MayPrintText D R B text → length text ≤ h.room
  fits text (of_bad_words is) = subst (λ (t : List ℕ). length t ≤ h.room) (sym is) h.bad_words
  fits text (when_done after is) = h.done after text is
  fits text (when_refused after is) = h.refused after text is
  fits text (when_bad after is) = h.bad_input after text is

pub sure_calls : (IfDone IfRefused : FileMap → FileMap → List ℕ → Type 0) → StatusesAreDecided IfDone IfRefused
sure_calls IfDone IfRefused call words asks before says are held room some_memory good_words =
    let one = says.decided before are (cannot_fail call before asks _ _ _ (are_there before asks held) room) some_memory good_words in
    (one.one, one.done, one.refused, one.bad_input)
