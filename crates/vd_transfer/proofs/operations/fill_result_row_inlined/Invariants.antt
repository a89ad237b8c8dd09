use Rattle.std.proofs.Common.{◌≡◌, take, map, length}
use Rattle.tc_isa.specs.Arithmetic.{alu_of}
use Rattle.vd_transfer.proofs.operations.fill_result_row_inlined.Given as goal

abbrev pub invariant-loop-i : goal.invariant-loop-i
invariant-loop-i l = (take l.i l.row ≡ take l.i (map (alu_of l.op l.x) l.ys)) × (length l.row ≡ length l.ys)
