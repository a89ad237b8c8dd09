use Rattle.std.proofs.Common.{List, map, ap, sym}
use Rattle.elf_image.specs.declared.segments.Segment.{Segment}
use Rattle.elf_image.specs.Images.{image_data, segment_data}
use Rattle.cfg_recover.proofs.HeldLaws.{held_byte}
use Rattle.cfg_recover.proofs.rom_code.code_byte_anywhere.Goals as goal

pub returns-in-Some : goal.returns-in-Some
returns-in-Some c =
    sym (held_byte (image_data c.image.inside) c.args.image.now c.deref-segment-items.result.now c.loop-number.number c.segment-item.result c.in-Some.byte c.args.addr c.image.view_is c.image.invariant.apart
    (ap (λ (ss : List Segment). map segment_data ss) (sym c.deref-segment-items.ensures.value)) c.loop-number-test.true c.segment-item.is c.in-Some.ensures)
