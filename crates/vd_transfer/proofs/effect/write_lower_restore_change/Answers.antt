use Rattle.vd_transfer.proofs.RegisterLaws.{forgotten_values}
use Rattle.vd_transfer.proofs.effect.write_lower_restore_change.Goals as goal

pub returns-clause-values : goal.returns-clause-values
returns-clause-values c = rw c.set_to_identity.ensures.kept (forgotten_values c.args.b.now c.args.s.now.regs c.most_words-most_words.ensures.limits c.requires.values)
