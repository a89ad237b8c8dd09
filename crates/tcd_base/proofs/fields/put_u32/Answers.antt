use Rattle.std.proofs.Common.{arith}
use Rattle.tcd_base.proofs.FieldReads.{u32_at-between}
use Rattle.tcd_base.proofs.fields.put_u32.Goals as goal

pub returns-clause-back : goal.returns-clause-back
returns-clause-back c = λ rest. rw (c.in_ok-extend_from_slice.ensures.items, c.to_le_bytes.ensures) (u32_at-between c.args.out.now.items c.args.x rest (omega arith))
