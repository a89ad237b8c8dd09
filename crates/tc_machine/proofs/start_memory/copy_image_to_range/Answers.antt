use Rattle.std.proofs.Common.{List, ap, subst, ◌∙◌, map}
use Rattle.elf_image.specs.Images.{ImageData, SegmentData, segment_data}
use Rattle.tc_machine.specs.Starting.{AreSegmentsCopied}
use Rattle.tc_machine.proofs.Copied.{copied_image}
use Rattle.tc_machine.proofs.start_memory.copy_image_to_range.Goals as goal

pub returns-clause-copied : goal.returns-clause-copied
returns-clause-copied c =
    copied_image c.args.image.now c.args.range.now c.args.mem.now c.copy_segments.new.mem
    (subst (λ (ss : List SegmentData). AreSegmentsCopied ss c.args.range.now c.args.mem.now c.copy_segments.new.mem)
    (ap (map segment_data) c.deref.ensures.value ∙ ap (λ (i : ImageData). i.segments) c.image.view_is) c.copy_segments.ensures.copied)
