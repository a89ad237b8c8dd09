use Rattle.std.proofs.Common.{◌≡◌, [], map, take}
use Rattle.elf_image.specs.Images.{segment_data}
use Rattle.tc_link.specs.Segments.{segment_of}
use Rattle.tc_link.proofs.segments.segments_of.Given as goal

abbrev pub invariant-loop-place : goal.invariant-loop-place
invariant-loop-place l = map segment_data l.segments.items ≡ map (segment_of []) (take l.place-index l.layout.places)

abbrev pub invariant-loop-section : goal.invariant-loop-section
invariant-loop-section l = map segment_data l.segments.items ≡ map (segment_of (take l.section-index l.sections)) l.layout.places
