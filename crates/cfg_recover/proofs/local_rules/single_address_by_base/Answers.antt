use Rattle.std.proofs.Common.{◌<◌, ◌^◌, sym}
use Rattle.tc_isa.specs.declared.shapes.Op.TheVariants.{Add}
use Rattle.vd_transfer.proofs.OpLaws.{words_result}
use Rattle.cfg_recover.proofs.local_rules.single_address_by_base.Goals as goal

pub returns-then-after : goal.returns-then-after
returns-then-after c = rw c.if-after.true (rw c.in-Some.is at c.arg_word.ensures.arg)

pub returns : goal.returns
returns c =
    let small : c.alu.result < 2 ^ 32 = c.alu.type_inv in
    rw (c.if-after.false, rw c.in-Some.is at c.arg_word.ensures.arg, c.alu.ensures)
    (sym (words_result c.args.b.now Add c.in-Some.x c.args.offset c.most_words-most_words.ensures.limits (rw c.alu.ensures at small)))
