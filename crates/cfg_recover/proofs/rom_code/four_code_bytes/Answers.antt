use Rattle.std.proofs.Common.{◌≡◌, List, length, map, ap, sym, arith}
use Rattle.std.proofs.lemmas.Bool.{ltb-true}
use Rattle.elf_image.specs.declared.segments.Segment.{Segment}
use Rattle.elf_image.specs.Images.{image_data, segment_data}
use Rattle.cfg_recover.proofs.HeldLaws.{held_four}
use Rattle.cfg_recover.proofs.rom_code.four_code_bytes.Goals as goal

pub returns-in-Some-four_code_bytes_in_segment : goal.returns-in-Some-four_code_bytes_in_segment
returns-in-Some-four_code_bytes_in_segment c =
    let at = c.in-Some.ensures.lookup in
    let bytes = c.in-Some-four_code_bytes_in_segment.bytes in
    let four : length bytes ≡ 4 = omega arith in
    sym (held_four (image_data c.image.inside) c.args.image.now c.deref.result.now c.args.near.now c.in-Some.segment.now bytes c.args.addr c.image.view_is c.image.invariant.apart
    (ap (λ (ss : List Segment). map segment_data ss) (sym c.deref.ensures.value)) (ltb-true c.args.near.now (length c.deref.result.now) (sym at.0)) at.1 c.in-Some-four_code_bytes_in_segment.ensures four)
