-- A turn script as plain data.
use Rattle.std.specs.Prelude.{◌≤◌, List, length, All}
use Rattle.tc_script.specs.declared.scripts.Turn.{Turn}
use Rattle.tc_script.specs.declared.scripts.AnswerRange.{AnswerRange}

-- a turn script: its turns, and for each peripheral the bounds of its answers
pub record ScriptData : Type 0 where
  pub turns : List Turn
  pub bounds : List AnswerRange

-- what holds of every script
pub record IsScript (turns : List Turn) (bounds : List AnswerRange) : Type 0 where
  pub few : length turns ≤ 100000
  pub few_devices : length bounds ≤ 16
  pub ordered : All (λ b. b.lo ≤ b.hi) bounds
