use Rattle.std.proofs.Common.{◌≡◌, ◌+◌, ◌∷◌, ◌++◌, ◌∙◌, false, ltb, [], ℕ, List, length, map, set, take, get_or, sym, ap, subst, arith, rules}
use Rattle.std.proofs.lemmas.List.{length-map, map-set, get_or-map, take_all}
use Rattle.std.proofs.lemmas.Fn.{filter_same}
use Rattle.std.proofs.lemmas.Bool.Decides.{nat_tests}
use Rattle.elf_image.specs.declared.segments.Segment.{Segment}
use Rattle.elf_image.specs.Images.{SegmentData, segment_data}
use Rattle.tc_object.specs.Objects.{SectionData}
use Rattle.tc_link.specs.Layouts.{PlaceData, LayoutData, IsLayout, has_place_for}
use Rattle.tc_link.specs.Segments.{segment_of, with_segment_padding}
use Rattle.tc_link.proofs.PlaceLaws.{IsOnly, the_only, not_found, each_kept, each_grown}
use Rattle.tc_link.proofs.RoomLaws.{take_next}
use Rattle.tc_link.proofs.SegmentLaws.{grown_segment, segments_grow, kept_segments}
use Rattle.tc_link.proofs.segments.segments_of.Goals as goal
use Rattle.tc_link.proofs.segments.segments_of.Goals.{in-Some+in_ok-append_section, in_default}

pub index_mut-requires : goal.index_mut-requires
index_mut-requires c =
    let many = sym (length-map c.loop-section.segments.items segment_data) ∙ ap (λ (l : List SegmentData). length l) c.loop-section.invariant ∙ length-map c.args.layout.now.places (segment_of (take c.loop-section.section-index c.args.sections.now)) in
    omega (arith, many, c.in-Some.ensures.within)

pub loop-section-init : goal.loop-section-init
loop-section-init c =
    let places : c.deref-place-items.result.now ≡ c.args.layout.now.places = c.deref-place-items.ensures.value ∙ ap (λ (l : LayoutData). l.places) c.layout.view_is in
    c.loop-place.invariant ∙ ap (map (segment_of [])) (take_all c.loop-place.place-index c.args.layout.now.places (omega (arith, c.loop-place-test.false, ap (λ (l : List PlaceData). length l) places)))

pub loop-section-preserved : goal.loop-section-preserved
loop-section-preserved c =
    let s : SectionData = c.section-item.result in
    let ss : List SectionData = take c.loop-section.section-index c.args.sections.now in
    let places : List PlaceData = c.args.layout.now.places in
    let next : map (segment_of (ss ++ s ∷ [])) places ≡ map (segment_of (take (c.loop-section.section-index + 1) c.args.sections.now)) places = ap (λ (l : List SectionData). map (segment_of l) places) (sym (take_next c.args.sections.now c.loop-section.section-index s c.loop-section-test.true c.section-item.is)) in
    elim c.match-find_place.branch [
      | in-Some+in_ok-append_section w ↦
          (let k : ℕ = w.in-Some.place in
          let old : List Segment = c.loop-section.segments.items in
          let x : SegmentData = segment_data w.index_mut.result.now in
          let only = subst (λ (y : SectionData). IsOnly y.name places k) c.section.view_is (the_only c.section.inside.name.now places k (subst IsLayout c.layout.view_is c.layout.invariant).places (sym c.find_place.ensures.value ∙ w.in-Some.is)) in
          let many = sym (length-map old segment_data) ∙ ap (λ (l : List SegmentData). length l) c.loop-section.invariant ∙ length-map places (segment_of ss) in
          let at : x ≡ get_or (map segment_data old) k x = ap segment_data w.index_mut.ensures.value ∙ sym (get_or-map segment_data old k w.index_mut.result.now x (omega (arith, many, w.in-Some.ensures.within))) in
          rw w.segments-is
          (map-set segment_data old k _
          ∙ ap (λ (l : List ℕ). set (map segment_data old) k (record { at = x.at; bytes = l })) (w.in_ok-append_section.ensures.ok ∙ ap (λ (l : List ℕ). with_segment_padding x.bytes ++ l) (w.deref.ensures.value ∙ ap (λ (y : SectionData). y.bytes) c.section.view_is))
          ∙ ap (λ (y : SegmentData). set (map segment_data old) k (grown_segment y s)) at
          ∙ ap (λ (l : List SegmentData). set l k (grown_segment (get_or l k x) s)) c.loop-section.invariant
          ∙ sym (each_grown segment_of grown_segment segments_grow ss s places k x only)
          ∙ next))
      | in_default w ↦ rw w.segments-is (c.loop-section.invariant ∙ sym (each_kept segment_of grown_segment segments_grow ss s places
          (subst (λ (y : SectionData). has_place_for places y.name ≡ false) c.section.view_is (not_found c.section.inside.name.now places (sym c.find_place.ensures.value ∙ w.in_default.is)))) ∙ next)
    ]

pub returns-clause-ok : goal.returns-clause-ok
returns-clause-ok c =
    kept_segments c.loop-section.segments.items c.retain.new.self.items c.args.layout.now.places c.args.sections.now
    (filter_same _ (λ (s : Segment). ltb 0 (length s.bytes.items)) _ (λ x b f k. search (rules, nat_tests)) _ _ c.retain.ensures.filtered)
    (c.loop-section.invariant ∙ ap (λ (l : List SectionData). map (segment_of l) c.args.layout.now.places) (take_all c.loop-section.section-index c.args.sections.now c.loop-section-test.false))
