use Rattle.std.proofs.Common.{arith, add-zero, refl}
use Rattle.std.specs.Prelude.{string_bytes}
use Rattle.tc_disasm.proofs.Appending.{lines_on, lines_end}
use Rattle.tc_disasm.proofs.lines.append_listing.Goals as goal

pub lines-init : goal.lines-init
lines-init c = record { within = omega arith; all = rw add-zero refl }

pub lines-preserved : goal.lines-preserved
lines-preserved c = record {
  within = c.in_ok-size.ensures.within;
  all = lines_on c.args.address c.lines.at c.in_ok-size.size c.args.bytes.now _ _ _ c.lines-test.true c.in_ok-size.ensures.some c.in_ok-size.ensures.size c.lines.invariant.all c.in_ok-size.ensures.text;
}

pub returns : goal.returns
returns c = lines_end c.args.address c.lines.at c.args.bytes.now _ (string_bytes c.lines.text) c.lines-test.false c.lines.invariant.all
