use Rattle.cfg_recover.proofs.EntryChanges.{misaligned-is, misaligned_values}
use Rattle.cfg_recover.proofs.entry_changes.aln_entry_change.Goals as goal

pub returns-clause-entry : goal.returns-clause-entry
returns-clause-entry c =
    rw (c.handler_entry_change_with_sp-c.ensures, c.register_write-c.ensures, c.entry_constant.ensures.word, c.handler_entry_sp.ensures.stack) (misaligned-is c.args.plan.now c.args.key.now c.args.s.now)

pub returns-clause-values : goal.returns-clause-values
returns-clause-values c =
    rw (c.handler_entry_change_with_sp-c.ensures, c.register_write-c.ensures, c.entry_constant.ensures.word)
    (misaligned_values c.args.b.now c.args.s.now c.handler_entry_sp.result c.args.s.now.ccpn c.most_words-most_words.ensures.limits c.handler_entry_sp.ensures.value (rw c.entry_constant.ensures.word at c.entry_constant.ensures.value))
