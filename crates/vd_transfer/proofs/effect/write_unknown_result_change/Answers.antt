use Rattle.value_domain.specs.Values.{any_val}
use Rattle.value_domain.proofs.RangeLaws.{any_value}
use Rattle.vd_transfer.proofs.ChangeLaws.{written-values}
use Rattle.vd_transfer.proofs.effect.write_unknown_result_change.Goals as goal

pub returns-clause-values : goal.returns-clause-values
returns-clause-values c =
    rw (c.write_any.ensures, c.set_write_slot.ensures.slot, c.set_to_identity.ensures.kept)
    (written-values c.args.b.now c.args.s.now c.args.c.now c.args.dst any_val c.requires (any_value c.args.b.now c.most_words-most_words.ensures.limits))
