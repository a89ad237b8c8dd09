use Rattle.std.proofs.Common.{rules, ◌<◌, length, refl, sym, ap, ◌∙◌, arith}
use Rattle.std.proofs.lemmas.Bool.{eqb-true}
use Rattle.std.specs.Prelude.{IsSome}
use Rattle.std.specs.Option.{option_map}
use Rattle.tcd_text.specs.Lines.{line_words}
use Rattle.task_chains.specs.TaskListText.{number_pair_of_words, task_of_pair}
use Rattle.task_chains.proofs.DraftLaws.{takes_nothing, takes_task}
use Rattle.task_chains.proofs.drafts.add_tasks_text_line.Goals as goal

pub returns-then-is_empty-clause-ok : goal.returns-then-is_empty-clause-ok
returns-then-is_empty-clause-ok c = takes_nothing c.args.draft.now c.args.number c.args.line.now (eqb-true _ _ (sym c.if-is_empty.ensures))

pub returns-then-len-lt-MOST_TASKS-clause-ok : goal.returns-then-len-lt-MOST_TASKS-clause-ok
returns-then-len-lt-MOST_TASKS-clause-ok c =
    let some : 0 < length c.args.line.now = search rules in
    let there : IsSome c.args.draft.now.places = search rules in
    let few = c.if-len-lt-MOST_TASKS.true in
    takes_task c.args.draft.now c.args.number c.args.line.now some _ (task_of_pair (c.in-Some-number_pair_in_line.entry, c.in-Some-number_pair_in_line.sp)) there
    (sym (ap (option_map task_of_pair) (c.in-Some-number_pair_in_line.ensures ∙ ap (λ name. number_pair_of_words name (line_words c.args.line.now)) c.as_slice.ensures))) refl (λ lt. (c.push.ensures.items, refl))
    (λ many. absurd (omega (arith, c.len.ensures.value)))

pub returns-clause-ok : goal.returns-clause-ok
returns-clause-ok c =
    let some : 0 < length c.args.line.now = search rules in
    let there : IsSome c.args.draft.now.places = search rules in
    let many = c.if-len-lt-MOST_TASKS.false in
    takes_task c.args.draft.now c.args.number c.args.line.now some _ (task_of_pair (c.in-Some-number_pair_in_line.entry, c.in-Some-number_pair_in_line.sp)) there
    (sym (ap (option_map task_of_pair) (c.in-Some-number_pair_in_line.ensures ∙ ap (λ name. number_pair_of_words name (line_words c.args.line.now)) c.as_slice.ensures))) refl (λ lt. absurd (omega (arith, c.len.ensures.value)))
    (λ le. (refl, c.or-draft.ensures))
