use Rattle.std.proofs.Common.{arith, sym}
use Rattle.std.proofs.lemmas.Bool.{eqb-true}
use Rattle.value_cells.proofs.ReadLaws.{read_more, read_all}
use Rattle.value_cells.proofs.cells.Cells.read.Goals as goal

pub lines-preserved : goal.lines-preserved
lines-preserved c = record {
  read =
      read_more c.args.plan.now c.args.bytes.now c.lines.rest.now c.cut_line.result.0.now c.cut_line.result.1.now c.lines.number c.lines.cells c.add_line.new.self c.lines.invariant.read c.cut_line.ensures.lines
      c.in_ok-add_line.ensures.ok;
  left = omega (arith, c.lines.invariant.left, c.cut_line.ensures.shorter);
}

pub returns-clause-read : goal.returns-clause-read
returns-clause-read c = read_all c.args.plan.now c.args.bytes.now c.lines.rest.now c.lines.number c.lines.cells (eqb-true _ _ (sym c.lines-test.ensures)) c.lines.invariant.read
