use Rattle.value_domain.proofs.RangeLaws.{any_value}
use Rattle.vd_transfer.proofs.AddressLaws.{address_none}
use Rattle.vd_transfer.proofs.access.write_address_by_shape.Goals as goal

pub returns-in_default : goal.returns-in_default
returns-in_default c =
    rw c.write_any.ensures
    (record {
      address = address_none c.args.b.now c.args.plan.now c.args.shape c.args.s.now c.in_default.not-Load c.in_default.not-Store;
      value = any_value c.args.b.now c.most_words-most_words.ensures.limits;
    })
