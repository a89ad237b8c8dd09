use Rattle.std.proofs.Common.{◌≡◌, ◌+◌, ◌-◌, ◌*◌, ◌/◌, ◌<◌, ◌++◌, ◌∙◌, ℕ, List, length, None, Some, take, set, get_or, replicate, sym, ap, subst, arith}
use Rattle.std.specs.Prelude.{position}
use Rattle.std.specs.Str.{bytes_eq}
use Rattle.std.proofs.lemmas.List.{append-nil, take_all}
use Rattle.tc_object.specs.Objects.{SectionData, ObjectData, IsObject}
use Rattle.tc_link.specs.Layouts.{PlaceData, LayoutData, IsLayout}
use Rattle.tc_link.specs.Placing.{sections_to_link, placed_after, section_bases_after}
use Rattle.tc_link.specs.Refusals.{no_room}
use Rattle.tc_link.proofs.ItemLaws.{good_more}
use Rattle.tc_link.proofs.PlaceLaws.{not_found}
use Rattle.tc_link.proofs.RoomLaws.{HaveRoom, IsSize, is_size, room_step, bases_step, base_none, base_some, room_of_none, room_more, room_fault, room_unplaced, room_told, sections_next, placed_next}
use Rattle.tc_link.proofs.placed.place_objects.Goals as goal

pub loop-object-init : goal.loop-object-init
unfolding placed_after
loop-object-init c =
    let places : c.layout.inside.places.items ≡ c.args.layout.now.places = ap (λ (l : LayoutData). l.places) c.layout.view_is in
    let many : c.len.result ≡ length c.args.layout.now.places = omega (arith, c.len.ensures, c.layout.inside.places.ok, ap (λ (l : List PlaceData). length l) places) in
    record {
      placed = c.in_ok-placed.ensures.items;
      good = λ k d h. absurd (omega arith);
      room = room_of_none c.args.layout.now.places c.in_ok-sizes.sizes.items (c.in_ok-sizes.ensures.items_if_clones_equal (λ y e. e) ∙ ap (λ n. replicate {A = ℕ} n 0) many);
    }

pub loop-section-init : goal.loop-section-init
unfolding section_bases_after
loop-section-init c = record {
  bases = c.in_ok-bases.ensures.items;
  room = subst (λ (l : List SectionData). HaveRoom c.args.layout.now.places l c.loop-object.sizes.items c.loop-object.total) (sym (append-nil (sections_to_link (take c.loop-object.object-index c.args.objects.now)))) c.loop-object.invariant.room;
}

pub loop-section-preserved-in_default : goal.loop-section-preserved-in_default
loop-section-preserved-in_default c =
    let places : List PlaceData = c.args.layout.now.places in
    let o : ObjectData = c.object-item.result in
    let i : ℕ = c.loop-section.section-index in
    let s : SectionData = c.section-item.result in
    let before : List SectionData = sections_to_link (take c.loop-object.object-index c.args.objects.now) in
    let e : c.deref-section-items.result.now ≡ o.sections = c.deref-section-items.ensures.value ∙ ap (λ (x : ObjectData). x.sections) c.object.view_is in
    let within = subst (λ (l : List SectionData). i < length l) e c.loop-section-test.true in
    let at = c.section-item.is ∙ ap (λ (l : List SectionData). get_or l i s) e in
    let none = subst (λ (x : SectionData). position (λ q. bytes_eq x.name q.section) places ≡ None) c.section.view_is (sym c.find_place.ensures.value ∙ c.in_default.is) in
    let inv = c.loop-section.invariant in
    record {
      bases = c.in_ok-push.ensures.items ∙ bases_step places before o.sections i s 0 c.loop-section.bases.items within at inv.bases (base_none places (before ++ take i o.sections) s none);
      room = room_step places before o.sections i s c.loop-section.sizes.items c.loop-section.total within at (room_unplaced places (before ++ take i o.sections) s c.loop-section.sizes.items c.loop-section.total inv.room (not_found s.name places none));
    }

pub returns-then-size-from-clause-err : goal.returns-then-size-from-clause-err
returns-then-size-from-clause-err c =
    let places : List PlaceData = c.args.layout.now.places in
    let o : ObjectData = c.object-item.result in
    let i : ℕ = c.loop-section.section-index in
    let s : SectionData = c.section-item.result in
    let before : List SectionData = sections_to_link (take c.loop-object.object-index c.args.objects.now) in
    let e : c.deref-section-items.result.now ≡ o.sections = c.deref-section-items.ensures.value ∙ ap (λ (x : ObjectData). x.sections) c.object.view_is in
    let within = subst (λ (l : List SectionData). i < length l) e c.loop-section-test.true in
    let at = c.section-item.is ∙ ap (λ (l : List SectionData). get_or l i s) e in
    let k : ℕ = c.in-Some.i in
    let p : PlaceData = c.index-place.result.now in
    let used : ℕ = c.index-used.result.now in
    let size : ℕ = (used + 3) / 4 * 4 + length c.section.inside.bytes.now in
    let h = subst (λ (x : SectionData). IsSize places x c.loop-section.sizes.items k p used size) c.section.view_is
    (is_size c.args.layout.now _ c.loop-section.sizes.items k p used (subst IsLayout c.layout.view_is c.layout.invariant) (sym c.find_place.ensures.value ∙ c.in-Some.is) (c.index-place.ensures ∙ ap (λ (l : LayoutData). get_or l.places k p) c.layout.view_is) c.index-used.ensures) in
    room_told places c.args.objects.now c.loop-object.object-index i o s (no_room s.name) c.loop-object-test.true c.object-item.is within at
    (room_fault places (before ++ take i o.sections) s c.loop-section.sizes.items c.loop-section.total k p used size c.from-in-loop-section.result c.loop-section.invariant.room h
    (c.from-in-loop-section.ensures ∙ ap (λ (q : PlaceData). q.most) c.place.view_is) c.then-size-from.either)
    ∙ ap (λ (n : List ℕ). Some (no_room n)) (sym (c.in_ok-from_str.ensures.ok ∙ ap (λ (x : SectionData). x.name) c.section.view_is))

pub loop-section-preserved : goal.loop-section-preserved
loop-section-preserved c =
    let places : List PlaceData = c.args.layout.now.places in
    let o : ObjectData = c.object-item.result in
    let i : ℕ = c.loop-section.section-index in
    let s : SectionData = c.section-item.result in
    let before : List SectionData = sections_to_link (take c.loop-object.object-index c.args.objects.now) in
    let e : c.deref-section-items.result.now ≡ o.sections = c.deref-section-items.ensures.value ∙ ap (λ (x : ObjectData). x.sections) c.object.view_is in
    let within = subst (λ (l : List SectionData). i < length l) e c.loop-section-test.true in
    let at = c.section-item.is ∙ ap (λ (l : List SectionData). get_or l i s) e in
    let k : ℕ = c.in-Some.i in
    let p : PlaceData = c.index-place.result.now in
    let used : ℕ = c.index-used.result.now in
    let size : ℕ = (used + 3) / 4 * 4 + length c.section.inside.bytes.now in
    let h = subst (λ (x : SectionData). IsSize places x c.loop-section.sizes.items k p used size) c.section.view_is
    (is_size c.args.layout.now _ c.loop-section.sizes.items k p used (subst IsLayout c.layout.view_is c.layout.invariant) (sym c.find_place.ensures.value ∙ c.in-Some.is) (c.index-place.ensures ∙ ap (λ (l : LayoutData). get_or l.places k p) c.layout.view_is) c.index-used.ensures) in
    let inv = c.loop-section.invariant in
    record {
      bases = c.in_ok-push-2.ensures.items ∙ bases_step places before o.sections i s _ c.loop-section.bases.items within at inv.bases
          (ap (λ n. n + (used + 3) / 4 * 4) (c.from.ensures ∙ ap (λ (q : PlaceData). q.at) c.place.view_is) ∙ base_some places (before ++ take i o.sections) s c.loop-section.sizes.items k p used size inv.room.each h);
      room = room_step places before o.sections i s (set c.loop-section.sizes.items k size) (c.loop-section.total + (size - used)) within at (room_more places (before ++ take i o.sections) s c.loop-section.sizes.items c.loop-section.total k p used size inv.room h
          (omega (arith, c.if-size-from.false, c.from-in-loop-section.ensures, ap (λ (q : PlaceData). q.most) c.place.view_is)) c.if-total-gt-MOST_BYTES.false);
    }

pub loop-object-preserved : goal.loop-object-preserved
loop-object-preserved c =
    let places : List PlaceData = c.args.layout.now.places in
    let i : ℕ = c.loop-object.object-index in
    let o : ObjectData = c.object-item.result in
    let all : List ObjectData = c.args.objects.now in
    let before : List SectionData = sections_to_link (take i all) in
    let inv = c.loop-object.invariant in
    let e : c.deref-section-items.result.now ≡ o.sections = c.deref-section-items.ensures.value ∙ ap (λ (x : ObjectData). x.sections) c.object.view_is in
    let whole : take c.loop-section.section-index o.sections ≡ o.sections = take_all c.loop-section.section-index o.sections (omega (arith, c.loop-section-test.false, ap (λ (l : List SectionData). length l) e)) in
    record {
      placed = c.in_ok-push-3.ensures.items ∙ placed_next places all i o c.loop-object.placed.items c.loop-section.bases.items c.loop-object-test.true c.object-item.is inv.placed (c.loop-section.invariant.bases ∙ ap (section_bases_after places before) whole);
      good = good_more IsObject all i o c.loop-object-test.true c.object-item.is (subst IsObject c.object.view_is c.object.invariant) inv.good;
      room = subst (λ (l : List SectionData). HaveRoom places l c.loop-section.sizes.items c.loop-section.total) (ap (λ (l : List SectionData). before ++ l) whole ∙ sym (sections_next all i o c.loop-object-test.true c.object-item.is)) c.loop-section.invariant.room;
    }
