use Rattle.std.proofs.Common.{◌≡◌, ◌<◌, ◌++◌, [], ℕ, take, get_or}
use Rattle.tc_object.specs.Objects.{ObjectData, IsObject}
use Rattle.tc_link.specs.Placing.{sections_to_link, placed_after, section_bases_after}
use Rattle.tc_link.proofs.RoomLaws.{HaveRoom}
use Rattle.tc_link.proofs.placed.place_objects.Given as goal

abbrev pub invariant-loop-object : goal.invariant-loop-object
invariant-loop-object l = record {
  placed : l.placed.items ≡ placed_after l.layout.places [] (take l.object-index l.objects);
  good : (k : ℕ) (d : ObjectData) → k < l.object-index → IsObject (get_or l.objects k d);
  room : HaveRoom l.layout.places (sections_to_link (take l.object-index l.objects)) l.sizes.items l.total;
}

abbrev pub invariant-loop-section : goal.invariant-loop-section
invariant-loop-section l = record {
  bases : l.bases.items ≡ section_bases_after l.layout.places (sections_to_link (take l.object-index l.objects)) (take l.section-index l.object.sections);
  room : HaveRoom l.layout.places (sections_to_link (take l.object-index l.objects) ++ take l.section-index l.object.sections) l.sizes.items l.total;
}
