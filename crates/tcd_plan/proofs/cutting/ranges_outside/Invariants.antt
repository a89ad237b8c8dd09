use Rattle.std.proofs.Common.{◌≡◌, ◌≤◌, ◌*◌, length, take}
use Rattle.tcd_plan.specs.Cutting as cutting
use Rattle.tcd_plan.proofs.cutting.ranges_outside.Given as goal

-- the parts of the ranges so far, at most two of each
abbrev pub invariant-loop-r : goal.invariant-loop-r
invariant-loop-r l = record {
  cut : l.parts.items ≡ cutting.ranges_outside l.x l.n (take l.r-index l.ranges);
  few : length l.parts.items ≤ 2 * l.r-index;
}
