use Rattle.std.proofs.Common.{◌≡◌, take, length}
use Rattle.depth_cert.specs.Exits.{values_after_return_from}
use Rattle.cfg_recover.proofs.after_return.regs_after_return.Given as goal

abbrev pub invariant-loop-i : goal.invariant-loop-i
invariant-loop-i l = (take l.i l.out ≡ take l.i (values_after_return_from 0 l.lower l.regs)) × (length l.out ≡ 27)
