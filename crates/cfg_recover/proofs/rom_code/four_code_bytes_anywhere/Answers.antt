use Rattle.std.proofs.Common.{◌≡◌, List, length, map, ap, sym, arith}
use Rattle.elf_image.specs.declared.segments.Segment.{Segment}
use Rattle.elf_image.specs.Images.{image_data, segment_data}
use Rattle.cfg_recover.proofs.HeldLaws.{held_four}
use Rattle.cfg_recover.proofs.rom_code.four_code_bytes_anywhere.Goals as goal

pub returns-in-Some : goal.returns-in-Some
returns-in-Some c =
    let bytes = c.in-Some.bytes in
    let four : length bytes ≡ 4 = omega arith in
    sym (held_four (image_data c.image.inside) c.args.image.now c.deref-segment-items.result.now c.loop-number.number c.segment-item.result bytes c.args.addr c.image.view_is c.image.invariant.apart
    (ap (λ (ss : List Segment). map segment_data ss) (sym c.deref-segment-items.ensures.value)) c.loop-number-test.true c.segment-item.is c.in-Some.ensures four)
