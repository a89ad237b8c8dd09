use Rattle.std.proofs.Common.{◌<◌, List, length, sym, subst, arith}
use Rattle.std.proofs.lemmas.Bool.{eqb-true}
use Rattle.value_cells.specs.declared.cells.Cell.{Cell}
use Rattle.value_cells.proofs.ReadLaws.{takes_none, room_lt}
use Rattle.value_cells.proofs.cells.Cells.add_line.Goals as goal

pub returns-then-is_empty-clause-ok : goal.returns-then-is_empty-clause-ok
returns-then-is_empty-clause-ok c = takes_none c.args.plan.now c.args.self.now c.args.line.now (eqb-true _ _ (sym c.if-is_empty.ensures)) c.requires

pub push-requires : goal.push-requires
push-requires c = (omega arith, subst (λ (l : List Cell). length l < 16) (sym c.self.view_is) (omega (arith, room_lt c.args.plan.now c.args.self.now c.in-Some.cell (c.has_room_for_cell.ensures.0 c.if-not-has_room_for_cell.false))))
