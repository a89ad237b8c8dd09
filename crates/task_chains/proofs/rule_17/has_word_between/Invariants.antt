use Rattle.task_chains.proofs.MissLaws.{NoneBefore}
use Rattle.task_chains.proofs.rule_17.has_word_between.Given as goal

-- none of the words so far is there
abbrev pub invariant-loop-x : goal.invariant-loop-x
invariant-loop-x l = NoneBefore l.words l.x-index l.low l.high
