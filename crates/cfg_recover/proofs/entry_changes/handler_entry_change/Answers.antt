use Rattle.cfg_recover.specs.Entries.{handler_entry_sp_of}
use Rattle.cfg_recover.proofs.EntryChanges.{handler-is, handler_values}
use Rattle.cfg_recover.proofs.entry_changes.handler_entry_change.Goals as goal

pub returns-clause-entry : goal.returns-clause-entry
returns-clause-entry c = rw (c.handler_entry_change_with_sp.ensures, c.handler_entry_sp.ensures.stack) (handler-is c.args.s.now (handler_entry_sp_of c.args.plan.now c.args.key.now c.args.s.now) c.args.ccpn)

pub returns-clause-values : goal.returns-clause-values
returns-clause-values c = rw c.handler_entry_change_with_sp.ensures (handler_values c.args.b.now c.args.s.now c.handler_entry_sp.result c.args.ccpn c.most_words-most_words.ensures.limits c.handler_entry_sp.ensures.value)
