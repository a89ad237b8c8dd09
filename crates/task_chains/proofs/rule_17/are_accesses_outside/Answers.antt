use Rattle.std.proofs.Common.{◌+◌, ◌-◌, ◌%◌, ◌^◌, arith}
use Rattle.cfg_recover.proofs.FirstFault.{broken}
use Rattle.task_chains.proofs.MissLaws.{touches_then, misses_then, misses_else}
use Rattle.task_chains.proofs.rule_17.are_accesses_outside.Goals as goal

pub returns-then-has_access_between : goal.returns-then-has_access_between
returns-then-has_access_between c =
    touches_then c.args.at.now c.args.size c.args.from c.args.len c.saturating_sub.result c.saturating_add-last.result c.requires.at c.requires.size c.requires.some (omega arith) (omega arith) (omega arith)
    (c.has_access_between.ensures.0 c.if-has_access_between.true)

pub returns-then-below-from : goal.returns-then-below-from
returns-then-below-from c =
    misses_then c.args.at.now c.args.size c.args.from c.args.len c.saturating_sub.result c.saturating_add-last.result c.requires.at c.requires.size c.requires.some (omega arith) (omega arith) (omega arith)
    (broken c.has_access_between.result _ c.if-has_access_between.false c.has_access_between.ensures) (omega arith)

pub returns : goal.returns
returns c =
    misses_else c.args.at.now c.args.size c.args.from c.args.len c.saturating_sub.result c.saturating_add-last.result c.requires.at c.requires.size c.requires.some (omega arith) (omega arith) (omega arith)
    ((c.args.from + (2 ^ 32 - (c.from-below.result - 1))) % 2 ^ 32) c.has_access_between-2.result (broken c.has_access_between.result _ c.if-has_access_between.false c.has_access_between.ensures) (omega arith) (omega arith) c.has_access_between-2.ensures
