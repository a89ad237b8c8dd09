use Rattle.std.proofs.Common.{◌≡◌, map, take}
use Rattle.elf_image.specs.Images.{segment_data}
use Rattle.task_chains.specs.Views.{view_segment}
use Rattle.task_chains.proofs.views.view_image.Given as goal

-- the segments so far are the view's
abbrev pub invariant-loop-segment : goal.invariant-loop-segment
invariant-loop-segment l = map segment_data l.segments.items ≡ map (view_segment l.tasks) (map segment_data (take l.segment-index l.segment-items))
