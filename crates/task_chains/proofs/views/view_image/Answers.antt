use Rattle.std.proofs.Common.{List, map, sym, ap, ◌∙◌, subst, slice_index_or}
use Rattle.elf_image.specs.Images.{ImageData, IsImage, HoldOnlyBytes, segment_data}
use Rattle.elf_image.specs.declared.segments.Segment.{Segment}
use Rattle.task_chains.specs.declared.task_lists.Task.{Task}
use Rattle.task_chains.specs.Tasks.{TasksData, AreTasks}
use Rattle.task_chains.proofs.ViewBytes.{view_is_image}
use Rattle.task_chains.proofs.ViewParts.{image_parts}
use Rattle.task_chains.proofs.views.view_image.Goals as goal

pub invariant_of-result : goal.invariant_of-result
invariant_of-result c =
    let ok = subst IsImage c.image.view_is c.image.invariant in
    let are = subst AreTasks c.tasks.view_is c.tasks.invariant in
    let entry = ap (λ (l : List Task). (slice_index_or l c.args.u (record { entry = 0; sp = 0 })).entry) (c.as_slice.ensures.value ∙ ap (λ (t : TasksData). t.list) c.tasks.view_is) in
    let items = ap (λ (l : List Segment). map segment_data l) c.deref-segment-items.ensures.value ∙ ap (λ (i : ImageData). i.segments) c.image.view_is in
    let e =
    image_parts c.args.image.now c.args.tasks.now c.args.u _ c.loop-segment.segments.items c.deref-segment-items.result.now c.loop-segment.segment-index entry items c.loop-segment-test.false c.loop-segment.invariant in
    let bytes = subst (λ (l : List Segment). HoldOnlyBytes (map segment_data l)) c.deref.ensures.value c.establish_segment_bytes.ensures in
    subst IsImage (sym e) (view_is_image c.args.tasks.now c.args.image.now c.args.u ok are c.requires (subst (λ (i : ImageData). HoldOnlyBytes i.segments) e bytes))
