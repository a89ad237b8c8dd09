use Rattle.std.proofs.Common.{◌≡◌, ◌<◌, ◌≤◌, ◌∙◌, ℕ, List, Some, length, get_or, map, refl, sym, ap, subst}
use Rattle.std.specs.List.{fold}
use Rattle.std.proofs.lemmas.List.{take_all}
use Rattle.tc_object.specs.declared.relocs.Reloc.{Reloc}
use Rattle.tc_object.specs.Objects.{ObjectData, IsObject}
use Rattle.tc_link.specs.Placing.{PlacedData}
use Rattle.tc_link.specs.Relocated.{sections_after_reloc, relocated_sections}
use Rattle.tc_link.specs.Shapes.{section_shape}
use Rattle.tc_link.specs.Refusals.{reloc, first_refusal_from, reloc_refusal}
use Rattle.tc_link.proofs.FirstLaws.{more_item, found_item}
use Rattle.tc_link.proofs.ItemLaws.{item_of}
use Rattle.tc_link.proofs.RelocLaws.{reloc_here, section_in, room_in, relocs_next, refusal_none, refusal_some}
use Rattle.tc_link.proofs.relocated_sections.apply_relocs.Goals as goal

pub loop-reloc-init : goal.loop-reloc-init
unfolding first_refusal_from
loop-reloc-init c = record {
  sections = λ all same. c.requires;
  none = λ all same. refl;
  shapes = ap (map section_shape) c.requires;
}

pub apply_reloc-requires-clause-some : goal.apply_reloc-requires-clause-some
apply_reloc-requires-clause-some c =
    let o : ObjectData = c.args.placed.now.object in
    let good : IsObject o = subst IsObject (c.object.view_is ∙ ap (λ (p : PlacedData). p.object) c.placed.view_is) c.object.invariant in
    let relocs : c.deref-reloc-items.result.now ≡ o.relocs = c.deref-reloc-items.ensures.value ∙ ap (λ (x : ObjectData). x.relocs) (c.object.view_is ∙ ap (λ (p : PlacedData). p.object) c.placed.view_is) in
    (reloc_here o c.deref-reloc-items.result.now c.loop-reloc.reloc-index _ good relocs c.loop-reloc-test.true).some

pub apply_reloc-requires-clause-most : goal.apply_reloc-requires-clause-most
apply_reloc-requires-clause-most c =
    let o : ObjectData = c.args.placed.now.object in
    let good : IsObject o = subst IsObject (c.object.view_is ∙ ap (λ (p : PlacedData). p.object) c.placed.view_is) c.object.invariant in
    let relocs : c.deref-reloc-items.result.now ≡ o.relocs = c.deref-reloc-items.ensures.value ∙ ap (λ (x : ObjectData). x.relocs) (c.object.view_is ∙ ap (λ (p : PlacedData). p.object) c.placed.view_is) in
    (reloc_here o c.deref-reloc-items.result.now c.loop-reloc.reloc-index _ good relocs c.loop-reloc-test.true).kind

pub apply_reloc-requires-clause-within : goal.apply_reloc-requires-clause-within
apply_reloc-requires-clause-within c =
    let o : ObjectData = c.args.placed.now.object in
    let good : IsObject o = subst IsObject (c.object.view_is ∙ ap (λ (p : PlacedData). p.object) c.placed.view_is) c.object.invariant in
    let relocs : c.deref-reloc-items.result.now ≡ o.relocs = c.deref-reloc-items.ensures.value ∙ ap (λ (x : ObjectData). x.relocs) (c.object.view_is ∙ ap (λ (p : PlacedData). p.object) c.placed.view_is) in
    section_in c.loop-reloc.sections o.sections _ c.loop-reloc.invariant.shapes (reloc_here o c.deref-reloc-items.result.now c.loop-reloc.reloc-index _ good relocs c.loop-reloc-test.true).section

pub apply_reloc-requires-clause-room : goal.apply_reloc-requires-clause-room
apply_reloc-requires-clause-room c =
    let o : ObjectData = c.args.placed.now.object in
    let good : IsObject o = subst IsObject (c.object.view_is ∙ ap (λ (p : PlacedData). p.object) c.placed.view_is) c.object.invariant in
    let relocs : c.deref-reloc-items.result.now ≡ o.relocs = c.deref-reloc-items.ensures.value ∙ ap (λ (x : ObjectData). x.relocs) (c.object.view_is ∙ ap (λ (p : PlacedData). p.object) c.placed.view_is) in
    room_in c.loop-reloc.sections o.sections _ _ c.loop-reloc.invariant.shapes (reloc_here o c.deref-reloc-items.result.now c.loop-reloc.reloc-index _ good relocs c.loop-reloc-test.true).room

pub returns-in-Err-clause-err : goal.returns-in-Err-clause-err
returns-in-Err-clause-err c = λ all same.
    let o : ObjectData = c.args.placed.now.object in
    let relocs : c.deref-reloc-items.result.now ≡ o.relocs = c.deref-reloc-items.ensures.value ∙ ap (λ (x : ObjectData). x.relocs) (c.object.view_is ∙ ap (λ (p : PlacedData). p.object) c.placed.view_is) in
    let i : ℕ = c.loop-reloc.reloc-index in
    let r : Reloc = get_or c.deref-reloc-items.result.now i record { section = 0; offset = 0; kind = 0; symbol = 0; addend = 0 } in
    let h : i < length o.relocs = subst (λ (l : List Reloc). i < length l) relocs c.loop-reloc-test.true in
    let is : r ≡ get_or o.relocs i r = item_of c.deref-reloc-items.result.now o.relocs i _ relocs c.loop-reloc-test.true in
    found_item (reloc_refusal all c.args.number c.args.placed.now) o.relocs i r (reloc c.args.number r.section r.offset c.in-Err.err) h is (c.loop-reloc.invariant.none all same)
    (refusal_some all c.args.number c.args.placed.now i r c.in-Err.err (c.in-Err.ensures.refusal all same))
    ∙ ap (λ k. Some (reloc c.args.number k r.offset c.in-Err.err)) (sym c.from.ensures)

pub loop-reloc-preserved : goal.loop-reloc-preserved
loop-reloc-preserved c =
    let o : ObjectData = c.args.placed.now.object in
    let relocs : c.deref-reloc-items.result.now ≡ o.relocs = c.deref-reloc-items.ensures.value ∙ ap (λ (x : ObjectData). x.relocs) (c.object.view_is ∙ ap (λ (p : PlacedData). p.object) c.placed.view_is) in
    let i : ℕ = c.loop-reloc.reloc-index in
    let r : Reloc = get_or c.deref-reloc-items.result.now i record { section = 0; offset = 0; kind = 0; symbol = 0; addend = 0 } in
    let h : i < length o.relocs = subst (λ (l : List Reloc). i < length l) relocs c.loop-reloc-test.true in
    let is : r ≡ get_or o.relocs i r = item_of c.deref-reloc-items.result.now o.relocs i _ relocs c.loop-reloc-test.true in
    let inv = c.loop-reloc.invariant in
    record {
      sections = λ all same. relocs_next all c.args.placed.now o.sections c.loop-reloc.sections c.apply_reloc.new.sections o.relocs i r h is (inv.sections all same) (c.in_default.ensures.written all same);
      none = λ all same. more_item (reloc_refusal all c.args.number c.args.placed.now) o.relocs i r h is (inv.none all same) (refusal_none all c.args.number c.args.placed.now i r (c.in_default.ensures.refusal all same));
      shapes = c.in_default.ensures.shapes ∙ inv.shapes;
    }

pub returns-clause-sections : goal.returns-clause-sections
unfolding relocated_sections
returns-clause-sections c = λ all same.
    let o : ObjectData = c.args.placed.now.object in
    let relocs : c.deref-reloc-items.result.now ≡ o.relocs = c.deref-reloc-items.ensures.value ∙ ap (λ (x : ObjectData). x.relocs) (c.object.view_is ∙ ap (λ (p : PlacedData). p.object) c.placed.view_is) in
    let i : ℕ = c.loop-reloc.reloc-index in
    let past = subst (λ (l : List Reloc). length l ≤ i) relocs c.loop-reloc-test.false in
    c.loop-reloc.invariant.sections all same ∙ ap (fold (sections_after_reloc all c.args.placed.now) o.sections) (take_all i o.relocs past)
