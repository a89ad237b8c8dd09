use Rattle.std.proofs.Common.{◌^◌, ◌+◌, ◌*◌, min, ap, ◌∙◌}
use Rattle.tc_script.proofs.Small.{value_more}
use Rattle.tc_script.proofs.numbers.script_digits_value.Goals as goal

pub loop-c-preserved : goal.loop-c-preserved
loop-c-preserved c =
    value_more c.args.word.now c.loop-c.c-index c.loop-c.value c.min-value.result c.loop-c-test.true c.requires c.loop-c.invariant
    (c.min-value.ensures ∙ ap (λ n. min (c.loop-c.value * 10 + n) (2 ^ 32)) c.from.ensures)
