use Rattle.std.proofs.Common.{ap, ◌∙◌}
use Rattle.task_chains.proofs.RoutineBytes.{offset, routine_words_are}
use Rattle.task_chains.proofs.routine.switch_routine_words.Goals as goal

pub returns : goal.returns
returns c = routine_words_are c.args.n c.args.b _ _ _ c.adjusted_upper_half-upper.ensures.is (c.bol_offset_bits-lower.ensures ∙ ap (λ k. offset k) c.lower_half.ensures.is) c.bol_offset_bits-count.ensures
