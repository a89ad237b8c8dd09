use Rattle.cfg_recover.proofs.EntryChanges.{system-is, system_values}
use Rattle.cfg_recover.proofs.entry_changes.sys_entry_change.Goals as goal

pub returns-clause-entry : goal.returns-clause-entry
returns-clause-entry c =
    rw (c.call_entry_change-c.ensures.change, c.register_write-c.ensures, c.register_write-c-2.ensures, c.entry_constant.ensures.word, c.from.ensures, c.handler_entry_sp.ensures.stack) (system-is c.args.plan.now c.args.key.now c.args.s.now c.args.tin)

pub returns-clause-values : goal.returns-clause-values
returns-clause-values c =
    rw (c.call_entry_change-c.ensures.change, c.register_write-c.ensures, c.register_write-c-2.ensures, c.entry_constant.ensures.word, c.from.ensures)
    (system_values c.args.b.now c.args.s.now c.handler_entry_sp.result c.args.tin c.requires c.handler_entry_sp.ensures.value (rw (c.entry_constant.ensures.word, c.from.ensures) at c.entry_constant.ensures.value))
