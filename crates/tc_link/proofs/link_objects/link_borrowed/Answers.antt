use Rattle.std.proofs.Common.{◌≡◌, ◌∙◌, [], List, map, Option, Ok, Err, Result, sym, ap, subst, arith}
use Rattle.std.specs.Prelude.{IfSome}
use Rattle.std.proofs.lemmas.Result.{err_from_is_err_and}
use Rattle.elf_image.specs.Images.{ImageData, SegmentData, HoldOnlyBytes, IsImage, segment_data}
use Rattle.tc_link.specs.Layouts.{LayoutData, IsLayout}
use Rattle.tc_link.specs.Placing.{PlacedData}
use Rattle.tc_link.specs.GlobalSymbols.{globals_of, first_global_address, ResolvesGlobals}
use Rattle.tc_link.specs.Segments.{segments_of}
use Rattle.tc_link.specs.Relocated.{all_relocated_sections}
use Rattle.tc_link.specs.Refusals.{Refusal}
use Rattle.tc_link.specs.Errors.{refusal_of}
use Rattle.tc_link.proofs.ImageLaws.{image_of_bytes}
use Rattle.tc_link.proofs.PlacedLaws.{as_many, placed_objects}
use Rattle.tc_link.proofs.LinkLaws.{are_placed, told_first, told_next, made_reloc, made_no_entry, made_ok, linked_told, linked_made, linked_image}
use Rattle.tc_link.proofs.link_objects.link_borrowed.Goals as goal

pub returns-in_err-check_duplicate_symbols-clause-err : goal.returns-in_err-check_duplicate_symbols-clause-err
returns-in_err-check_duplicate_symbols-clause-err c =
    let x : Option Refusal = refusal_of c.in_err-check_duplicate_symbols.field-0.0 in
    let p = err_from_is_err_and c.from_residual-in_err-check_duplicate_symbols.result c.from_residual-in_err-check_duplicate_symbols.ensures.1 in
    rw (p.1, p.2) (linked_told c.args.objects.now c.args.layout.now x (told_first _ _ x c.in_err-check_duplicate_symbols.ensures.err))

pub returns-in_err-check_missing_symbols-clause-err : goal.returns-in_err-check_missing_symbols-clause-err
returns-in_err-check_missing_symbols-clause-err c =
    let x : Option Refusal = refusal_of c.in_err-check_missing_symbols.field-0.0 in
    let p = err_from_is_err_and c.from_residual-in_err-check_missing_symbols.result c.from_residual-in_err-check_missing_symbols.ensures.1 in
    rw (p.1, p.2) (linked_told c.args.objects.now c.args.layout.now x (told_next _ _ x c.in_ok-check_duplicate_symbols.ensures.ok (told_first _ _ x c.in_err-check_missing_symbols.ensures.err)))

pub returns-in_err-check_section_places-clause-err : goal.returns-in_err-check_section_places-clause-err
returns-in_err-check_section_places-clause-err c =
    let x : Option Refusal = refusal_of c.in_err-check_section_places.field-0.0 in
    let p = err_from_is_err_and c.from_residual-in_err-check_section_places.result c.from_residual-in_err-check_section_places.ensures.1 in
    rw (p.1, p.2) (linked_told c.args.objects.now c.args.layout.now x (told_next _ _ x c.in_ok-check_duplicate_symbols.ensures.ok (told_next _ _ x c.in_ok-check_missing_symbols.ensures.ok (told_first _ _ x c.in_err-check_section_places.ensures.err))))

pub returns-in_err-placed-clause-err : goal.returns-in_err-placed-clause-err
returns-in_err-placed-clause-err c =
    let x : Option Refusal = refusal_of c.in_err-placed.field-0.0 in
    let p = err_from_is_err_and c.from_residual-in_err-placed.result c.from_residual-in_err-placed.ensures.1 in
    rw (p.1, p.2) (linked_told c.args.objects.now c.args.layout.now x (told_next _ _ x c.in_ok-check_duplicate_symbols.ensures.ok (told_next _ _ x c.in_ok-check_missing_symbols.ensures.ok (told_next _ _ x c.in_ok-check_section_places.ensures.ok c.in_err-placed.ensures.err))))

pub all_relocated_sections-requires : goal.all_relocated_sections-requires
all_relocated_sections-requires c =
    let at = are_placed c.args.objects.now c.args.layout.now c.deref.result.now
    c.in_ok-check_duplicate_symbols.ensures.ok c.in_ok-check_missing_symbols.ensures.ok c.in_ok-check_section_places.ensures.ok c.in_ok-placed.ensures.room (c.deref.ensures.value ∙ c.in_ok-placed.ensures.placed) in
    let objects = ap (map (λ (p : PlacedData). p.object)) at.same ∙ placed_objects c.args.layout.now.places [] c.args.objects.now in
    record {
      few = omega (arith, as_many c.deref.result.now c.args.objects.now objects, c.requires);
      globals = c.in_ok-names.ensures.globals c.deref.result.now objects;
    }

pub returns-in_err-contents-clause-err : goal.returns-in_err-contents-clause-err
returns-in_err-contents-clause-err c =
    let at = are_placed c.args.objects.now c.args.layout.now c.deref.result.now
    c.in_ok-check_duplicate_symbols.ensures.ok c.in_ok-check_missing_symbols.ensures.ok c.in_ok-check_section_places.ensures.ok c.in_ok-placed.ensures.room (c.deref.ensures.value ∙ c.in_ok-placed.ensures.placed) in
    let x : Option Refusal = refusal_of c.in_err-contents.field-0.0 in
    let p = err_from_is_err_and c.from_residual-in_err-contents.result c.from_residual-in_err-contents.ensures.1 in
    rw (p.1, p.2) (subst (λ (r : Result ImageData Refusal). IfSome x (λ (q : Refusal). r ≡ Err q)) (linked_made c.args.objects.now c.args.layout.now c.deref.result.now at.none at.same) (made_reloc c.args.layout.now c.deref.result.now x c.in_err-contents.ensures.err))

pub returns-in_default-clause-err : goal.returns-in_default-clause-err
returns-in_default-clause-err c =
    let at = are_placed c.args.objects.now c.args.layout.now c.deref.result.now
    c.in_ok-check_duplicate_symbols.ensures.ok c.in_ok-check_missing_symbols.ensures.ok c.in_ok-check_section_places.ensures.ok c.in_ok-placed.ensures.room (c.deref.ensures.value ∙ c.in_ok-placed.ensures.placed) in
    let name : c.as_str.result.now ≡ c.args.layout.now.entry = c.as_str.ensures.value ∙ ap (λ (l : LayoutData). l.entry) c.layout.view_is in
    let again : c.deref-2.result.now ≡ c.deref.result.now = c.deref-2.ensures.value ∙ sym c.deref.ensures.value in
    let globals : ResolvesGlobals c.in_ok-names.names c.deref-2.result.now (globals_of c.deref-2.result.now) = c.in_ok-names.ensures.globals c.deref-2.result.now (ap (map (λ (p : PlacedData). p.object)) (again ∙ at.same) ∙ placed_objects c.args.layout.now.places [] c.args.objects.now) in
    let entry = ap (first_global_address (globals_of c.deref.result.now)) (sym name) ∙ ap (λ (ps : List PlacedData). first_global_address (globals_of ps) c.as_str.result.now) (sym again) ∙ sym (globals c.as_str.result.now) ∙ sym c.global_symbol_address.ensures ∙ c.in_default.is in
    sym (linked_made c.args.objects.now c.args.layout.now c.deref.result.now at.none at.same) ∙ made_no_entry c.args.layout.now c.deref.result.now c.in_ok-contents.ensures.none entry

pub invariant_of-result : goal.invariant_of-result
invariant_of-result c =
    let at = are_placed c.args.objects.now c.args.layout.now c.deref.result.now
    c.in_ok-check_duplicate_symbols.ensures.ok c.in_ok-check_missing_symbols.ensures.ok c.in_ok-check_section_places.ensures.ok c.in_ok-placed.ensures.room (c.deref.ensures.value ∙ c.in_ok-placed.ensures.placed) in
    let contents : c.deref-3.result.now ≡ all_relocated_sections c.deref.result.now = c.deref-3.ensures.value ∙ c.in_ok-contents.ensures.sections in
    let segments : map segment_data c.in_ok-segments.segments.items ≡ segments_of c.args.layout.now.places (all_relocated_sections c.deref.result.now) =
    c.in_ok-segments.ensures.ok ∙ ap (segments_of c.args.layout.now.places) contents in
    let bytes : HoldOnlyBytes (segments_of c.args.layout.now.places (all_relocated_sections c.deref.result.now)) = subst HoldOnlyBytes (ap (map segment_data) c.deref-4.ensures.value ∙ segments) c.establish_segment_bytes.ensures in
    let limits = linked_image c.args.objects.now c.args.layout.now c.deref.result.now (subst IsLayout c.layout.view_is c.layout.invariant) c.in_ok-placed.ensures.good at.none at.same c.in-Some.entry (omega arith) in
    subst (λ (ss : List SegmentData). IsImage (record { entry = c.in-Some.entry; segments = ss })) (sym segments) (image_of_bytes _ limits bytes)

pub returns-clause-ok : goal.returns-clause-ok
returns-clause-ok c =
    let at = are_placed c.args.objects.now c.args.layout.now c.deref.result.now
    c.in_ok-check_duplicate_symbols.ensures.ok c.in_ok-check_missing_symbols.ensures.ok c.in_ok-check_section_places.ensures.ok c.in_ok-placed.ensures.room (c.deref.ensures.value ∙ c.in_ok-placed.ensures.placed) in
    let name : c.as_str.result.now ≡ c.args.layout.now.entry = c.as_str.ensures.value ∙ ap (λ (l : LayoutData). l.entry) c.layout.view_is in
    let again : c.deref-2.result.now ≡ c.deref.result.now = c.deref-2.ensures.value ∙ sym c.deref.ensures.value in
    let globals : ResolvesGlobals c.in_ok-names.names c.deref-2.result.now (globals_of c.deref-2.result.now) = c.in_ok-names.ensures.globals c.deref-2.result.now (ap (map (λ (p : PlacedData). p.object)) (again ∙ at.same) ∙ placed_objects c.args.layout.now.places [] c.args.objects.now) in
    let entry = ap (first_global_address (globals_of c.deref.result.now)) (sym name) ∙ ap (λ (ps : List PlacedData). first_global_address (globals_of ps) c.as_str.result.now) (sym again) ∙ sym (globals c.as_str.result.now) ∙ sym c.global_symbol_address.ensures ∙ c.in-Some.is in
    let contents : c.deref-3.result.now ≡ all_relocated_sections c.deref.result.now = c.deref-3.ensures.value ∙ c.in_ok-contents.ensures.sections in
    let segments : map segment_data c.in_ok-segments.segments.items ≡ segments_of c.args.layout.now.places (all_relocated_sections c.deref.result.now) =
    c.in_ok-segments.ensures.ok ∙ ap (segments_of c.args.layout.now.places) contents in
    sym (linked_made c.args.objects.now c.args.layout.now c.deref.result.now at.none at.same)
    ∙ made_ok c.args.layout.now c.deref.result.now c.in-Some.entry c.in_ok-contents.ensures.none entry
    ∙ ap (λ (ss : List SegmentData). Ok (record { entry = c.in-Some.entry; segments = ss })) (sym segments)
