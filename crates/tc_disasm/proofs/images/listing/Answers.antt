use Rattle.std.proofs.Common.{◌≡◌, ap, ◌∙◌, map, List}
use Rattle.std.specs.List.{list_all}
use Rattle.std.specs.Borrow.{Bor}
use Rattle.elf_image.specs.declared.segments.Segment.{Segment}
use Rattle.elf_image.specs.Images.{segment_data, is_segment}
use Rattle.tc_disasm.specs.Listing.{segments_in_listing_order}
use Rattle.tc_disasm.specs.LentSegments.{borrowed_segment_data}
use Rattle.tc_disasm.proofs.Placing.{few_lent, all-by_address}
use Rattle.tc_disasm.proofs.images.listing.Goals as goal

pub append_sections-requires-clause-few : goal.append_sections-requires-clause-few
append_sections-requires-clause-few c =
    let sorted : map borrowed_segment_data c.deref-2.result.now ≡ segments_in_listing_order (map segment_data c.image.inside.segments.items) =
    ap (λ (ss : List (Bor Segment)). map borrowed_segment_data ss) c.deref-2.ensures.value ∙ c.in_ok-sorted.ensures ∙ ap (λ (ss : List Segment). segments_in_listing_order (map segment_data ss)) c.deref.ensures.value in
    few_lent c.deref-2.result.now (map segment_data c.image.inside.segments.items) sorted c.image.invariant.few

pub append_sections-requires-clause-segments : goal.append_sections-requires-clause-segments
append_sections-requires-clause-segments c =
    let sorted : map borrowed_segment_data c.deref-2.result.now ≡ segments_in_listing_order (map segment_data c.image.inside.segments.items) =
    ap (λ (ss : List (Bor Segment)). map borrowed_segment_data ss) c.deref-2.ensures.value ∙ c.in_ok-sorted.ensures ∙ ap (λ (ss : List Segment). segments_in_listing_order (map segment_data ss)) c.deref.ensures.value in
    ap (list_all is_segment) sorted ∙ all-by_address (map segment_data c.image.inside.segments.items) c.image.invariant.segments
