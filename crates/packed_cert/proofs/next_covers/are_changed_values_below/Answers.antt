use Rattle.std.proofs.Common.{◌≡◌, length, arith}
use Rattle.packed_cert.proofs.PutLaws.{put_below}
use Rattle.packed_cert.proofs.next_covers.are_changed_values_below.Goals as goal

pub returns : goal.returns
returns c = λ t i lt outside.
    let len : length c.args.s.now.regs ≡ 27 = omega arith in
    put_below c.args.s.now c.args.c.now i len lt c.requires.base
    (λ e. c.is_changed_value_below.ensures c.if-not-is_changed_value_below.false i e lt outside)
    (λ e. c.is_changed_value_below-2.ensures c.if-not-is_changed_value_below-2.false i e lt outside)
    (λ e. c.is_changed_value_below-3.ensures t i e lt outside)
