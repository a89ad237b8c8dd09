-- The image of objects that were assembled from sources.
use Rattle.std.proofs.Common.{◌≡◌, ◌<◌, ℕ, zero, suc, List, [], ◌∷◌, length, get_or, map, Option, Some, None, Ok, refl, sym, ap, subst, ◌∙◌, arith}
use Rattle.std.specs.Prelude.{slice_get}
use Rattle.std.specs.List.{flat_map}
use Rattle.elf_image.specs.Images.{ImageData}
use Rattle.tc_object.specs.Objects.{ObjectData, IsObject}
use Rattle.tc_asm.specs.DraftInvariants.{IsWellFormedDraft}
use Rattle.tc_link.specs.Layouts.{LayoutData}
use Rattle.tc_link.specs.GlobalSymbols.{globals_of, first_global_address}
use Rattle.tc_link.specs.Relocated.{relocated_sections, all_relocated_sections}
use Rattle.tc_link.specs.Segments.{segments_of}
use Rattle.tcd_base.specs.Refusing.{unless_refused}
use Rattle.tc_link.specs.Linked.{image_with_entry, image_or_reloc_refusal, image_of_objects}
use Rattle.tc_link.specs.Refusals.{refusal_before_relocs, Refusal, first_no_place_refusal, first_reloc_refusal}
use Rattle.tc_link.specs.Placing.{placed_in_layout}
use Rattle.tc_link.specs.Shapes.{section_shape}
use Rattle.tc_link.proofs.RelocLaws.{contents_shapes}
use Rattle.tc_asm.specs.DraftedSources.{draft_in}
use Rattle.tc_program.specs.Addresses.{program_sections}
use Rattle.tc_program.specs.Placed.{segment_range}
use Rattle.tc_program.specs.PlacementLaws.{AreAssembledFrom, PlacesBecomeSegments, EntryIsSymbolAddress}
use Rattle.tc_program.proofs.Sections.{AreObjects, all_sections}
use Rattle.tc_asm.proofs.SourceDrafts.{source_draft, source_object}
use Rattle.tc_program.proofs.Names.{global_at}
use Rattle.tc_program.proofs.Spans.{spans}
use Rattle.tc_program.proofs.Bases.{none_parts}

-- ---- sources and their objects
pub are_objects : (sources : List (List ℕ)) (objects : List ObjectData) → AreAssembledFrom sources objects → AreObjects sources objects
are_objects [] [] h = tt
are_objects [] (o ∷ os) h = absurd h
are_objects (x ∷ xs) [] h = absurd h
are_objects (x ∷ xs) (o ∷ os) h = (h.0.1, are_objects xs os h.1)

pub drafts_good : (sources : List (List ℕ)) (objects : List ObjectData) → AreAssembledFrom sources objects → (i : ℕ) (source : List ℕ) → slice_get sources i ≡ Some source → IsWellFormedDraft (draft_in source)
drafts_good [] objects h i source e = cc
drafts_good (x ∷ xs) [] h i source e = absurd h
drafts_good (x ∷ xs) (o ∷ os) h zero source e = let same : x ≡ source = cc in subst (λ (y : List ℕ). IsWellFormedDraft (draft_in y)) same (source_draft x h.0.0)
drafts_good (x ∷ xs) (o ∷ os) h (suc i) source e = drafts_good xs os h.1 i source e

pub objects_good : (sources : List (List ℕ)) (objects : List ObjectData) → AreAssembledFrom sources objects → (k : ℕ) (d : ObjectData) → k < length objects → IsObject (get_or objects k d)
objects_good [] [] h k d less = absurd (omega arith)
objects_good [] (o ∷ os) h k d less = absurd h
objects_good (x ∷ xs) [] h k d less = absurd h
objects_good (x ∷ xs) (o ∷ os) h zero d less = subst IsObject (sym h.0.1) (source_object x h.0.0)
objects_good (x ∷ xs) (o ∷ os) h (suc k) d less = objects_good xs os h.1 k d (omega arith)

-- ---- the results of the linker's checks
pub record Parts (objects : List ObjectData) (layout : LayoutData) (image : ImageData) : Type 0 where
  pub early : refusal_before_relocs layout objects ≡ None
  pub relocs : first_reloc_refusal (globals_of (placed_in_layout layout objects)) (placed_in_layout layout objects) ≡ None
  pub entry : first_global_address (globals_of (placed_in_layout layout objects)) layout.entry ≡ Some image.entry
  pub segments : image.segments ≡ segments_of layout.places (all_relocated_sections (placed_in_layout layout objects))

pub parts_of : (objects : List ObjectData) (layout : LayoutData) (image : ImageData) → image_of_objects objects layout ≡ Ok image → Parts objects layout image
unfolding image_of_objects
parts_of objects layout image e = by_early (refusal_before_relocs layout objects) refl e
  where
    by_entry : (a : Option ℕ) → first_global_address (globals_of (placed_in_layout layout objects)) layout.entry ≡ a → refusal_before_relocs layout objects ≡ None
        → first_reloc_refusal (globals_of (placed_in_layout layout objects)) (placed_in_layout layout objects) ≡ None → image_with_entry a layout.places (placed_in_layout layout objects) ≡ Ok image → Parts objects layout image
    by_entry None at early relocs f = cc
    by_entry (Some a) at early relocs f =
        let same : record { entry = a; segments = segments_of layout.places (all_relocated_sections (placed_in_layout layout objects)) } ≡ image = cc in
        record {
          early = early;
          relocs = relocs;
          entry = at ∙ ap (λ (i : ImageData). Some i.entry) same;
          segments = sym (ap (λ (i : ImageData). i.segments) same);
        }

    by_reloc : (r : Option Refusal) → first_reloc_refusal (globals_of (placed_in_layout layout objects)) (placed_in_layout layout objects) ≡ r → refusal_before_relocs layout objects ≡ None
        → unless_refused r (image_with_entry (first_global_address (globals_of (placed_in_layout layout objects)) layout.entry) layout.places (placed_in_layout layout objects)) ≡ Ok image → Parts objects layout image
    by_reloc (Some x) is early f = cc
    by_reloc None is early f = by_entry (first_global_address (globals_of (placed_in_layout layout objects)) layout.entry) refl early is f

    by_early : (r : Option Refusal) → refusal_before_relocs layout objects ≡ r → unless_refused r (image_or_reloc_refusal layout (placed_in_layout layout objects)) ≡ Ok image → Parts objects layout image
    by_early (Some x) is f = cc
    by_early None is f = by_reloc (first_reloc_refusal (globals_of (placed_in_layout layout objects)) (placed_in_layout layout objects)) refl is f

pub placeable : (objects : List ObjectData) (layout : LayoutData) → refusal_before_relocs layout objects ≡ None → first_no_place_refusal layout.places objects ≡ None
placeable objects layout e = (none_parts _ _ (none_parts _ _ (none_parts _ _ e).1).1).0

-- ---- the laws
pub segments_law : PlacesBecomeSegments
unfolding all_relocated_sections
segments_law sources objects layout image are e =
    let parts = parts_of objects layout image e in
    let g = globals_of (placed_in_layout layout objects) in
    let shapes : map section_shape (flat_map (relocated_sections g) (placed_in_layout layout objects)) ≡ map section_shape (program_sections sources)
    = contents_shapes g layout.places [] objects (objects_good sources objects are) ∙ ap (map section_shape) (sym (all_sections sources objects (are_objects sources objects are))) in
    ap (map segment_range) parts.segments ∙ spans (flat_map (relocated_sections g) (placed_in_layout layout objects)) (program_sections sources) layout.places shapes

pub entry_law : EntryIsSymbolAddress
entry_law sources objects layout image are e =
    let parts = parts_of objects layout image e in
    global_at layout.places sources objects (are_objects sources objects are) (placeable objects layout parts.early) (drafts_good sources objects are) layout.entry image.entry parts.entry
