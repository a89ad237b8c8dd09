-- All bytes of the image outside statements are 0.
use Rattle.std.proofs.Common.{◌≡◌, ◌<◌, ◌≤◌, ◌+◌, ◌-◌, ◌⊎◌, ◌==◌, inl, inr, ℕ, suc, Bool, true, false, cond, List, [], ◌∷◌, ◌++◌, length, take, map, Some, refl, sym, ap, subst, ◌∙◌, arith}
use Rattle.std.specs.Prelude.{slice_get, nat_lt}
use Rattle.std.proofs.lemmas.Bool.{ltb-false, ltb-true}
use Rattle.std.proofs.lemmas.Bool.Decides.{Decides-eqb}
use Rattle.std.proofs.lemmas.List.{length-append}
use Rattle.std.proofs.lemmas.Slice.Eq.{bytes_eq-Decides}
use Rattle.elf_image.specs.Images.{SegmentData, ImageData, byte_in_segments, image_byte}
use Rattle.tc_object.specs.Objects.{SectionData, ObjectData}
use Rattle.tc_stmt.specs.Lines.{lines_in}
use Rattle.tc_asm.specs.DraftedSources.{symbols_of_lines, draft_in}
use Rattle.tc_asm.specs.Objects.{section_of}
use Rattle.tc_asm.specs.Statements.{StatementData, section_bytes, statement_offset, statements_in, sections_in}
use Rattle.tc_asm.proofs.LaidLaws.{drafted-bytes}
use Rattle.tc_link.specs.Layouts.{PlaceData, LayoutData, IsLayout, place_of}
use Rattle.tc_link.specs.Placing.{placed_in_layout}
use Rattle.tc_link.specs.GlobalSymbols.{globals_of}
use Rattle.tc_link.specs.PlaceSizes.{next_multiple_of_4, used_place_size}
use Rattle.tc_link.specs.Segments.{segment_of, segments_of}
use Rattle.tc_link.specs.Relocated.{all_relocated_sections}
use Rattle.tc_link.specs.Shapes.{section_shape}
use Rattle.tc_link.proofs.RelocLaws.{contents_shapes}
use Rattle.tc_program.specs.Addresses.{program_sections, SectionHasAddress}
use Rattle.tc_program.specs.Placed.{IsInPlacedStatement}
use Rattle.tc_program.specs.PlacementLaws.{AreAssembledFrom}
use Rattle.tc_stmt.proofs.ListItems.{FlatAt, flat_at, map_at, filter_at}
use Rattle.tc_asm.proofs.SourceParts.{sections_are, part_bytes}
use Rattle.tc_program.proofs.Sections.{all_sections}
use Rattle.tc_program.proofs.Image.{InSection, joined_byte, in_shaped, byte_from, place_alone}
use Rattle.tc_program.proofs.Laws.{Parts, are_objects, objects_good}

-- ---- the statement of a byte of a section
record Covering (s : ℕ) (ts : List StatementData) (m : ℕ) : Type 0 where
  index : ℕ
  statement : StatementData
  is : slice_get ts index ≡ Some statement
  section : statement.section ≡ s
  low : statement_offset ts index s ≤ m
  high : m < statement_offset ts index s + length statement.bytes

-- after a statement of this section, or of another
later : (s : ℕ) (x : StatementData) (xs : List StatementData) (m n : ℕ) (b : Bool) → (x.section == s) ≡ b → n ≡ length {A = ℕ} (cond b x.bytes []) + m → Covering s xs m → Covering s (x ∷ xs) n
later s x xs m n b e far c =
    let low = c.low in
    let high = c.high in
    let size : statement_offset (x ∷ xs) (suc c.index) s ≡ length {A = ℕ} (cond b x.bytes []) + statement_offset xs c.index s
    = ap (λ t. length (cond t x.bytes [] ++ section_bytes s (take c.index xs))) e ∙ length-append (cond b x.bytes []) (section_bytes s (take c.index xs)) in
    record { index = suc c.index; statement = c.statement; is = c.is; section = c.section; low = omega arith; high = omega arith }

covering : (s : ℕ) (ts : List StatementData) (m : ℕ) → m < length (section_bytes s ts) → Covering s ts m
covering s [] m h = absurd (omega arith)
covering s (x ∷ xs) m h = by (x.section == s) refl h (λ n k. covering s xs n k)
  where
    by_front : (b : Bool) → nat_lt m (length x.bytes) ≡ b → (x.section == s) ≡ true → m < length (x.bytes ++ section_bytes s xs) → ((n : ℕ) → n < length (section_bytes s xs) → Covering s xs n) → Covering s (x ∷ xs) m
    by_front true f e less rec =
        let inside = ltb-true m (length x.bytes) f in
        record { index = 0; statement = x; is = refl; section = (Decides-eqb x.section s).0 e; low = omega arith; high = omega arith }
    by_front false f e less rec =
        let past = ltb-false m (length x.bytes) f in
        let both = length-append x.bytes (section_bytes s xs) in
        later s x xs (m - length x.bytes) m true e (omega arith) (rec (m - length x.bytes) (omega arith))

    by : (b : Bool) → (x.section == s) ≡ b → m < length (cond b x.bytes [] ++ section_bytes s xs) → ((n : ℕ) → n < length (section_bytes s xs) → Covering s xs n) → Covering s (x ∷ xs) m
    by true e less rec = by_front (nat_lt m (length x.bytes)) refl e less rec
    by false e less rec = later s x xs m m false e (omega arith) (rec m less)

-- a section of a source is its statements' bytes
section_is : (source : List ℕ) (s : ℕ) (x : SectionData) → slice_get (sections_in source) s ≡ Some x → x.bytes ≡ section_bytes s (statements_in source)
section_is source s x e =
    let p = map_at section_of (draft_in source).parts s x (ap (λ (l : List SectionData). slice_get l s) (sym (sections_are source)) ∙ e) in
    ap (λ (y : SectionData). y.bytes) (sym p.is)
    ∙ sym (part_bytes (draft_in source).parts s p.item p.is_item)
    ∙ drafted-bytes (symbols_of_lines (lines_in source)) (lines_in source) s

-- ---- the bytes of places
module _ (sources : List (List ℕ)) (layout : LayoutData) (good : IsLayout layout) where
  -- an address in a section with a place is in a statement
  in_statement : (place : PlaceData) (i q : ℕ) → slice_get layout.places i ≡ Some place → place.at ≤ q → InSection place.section (program_sections sources) (λ before. next_multiple_of_4 (used_place_size place.section before)) (q - place.at) → IsInPlacedStatement layout.places sources q
  in_statement place i q is_place above h = by (flat_at sections_in sources h.at h.section h.is_section)
    where
      name : place.section ≡ h.section.name
      name = (bytes_eq-Decides place.section h.section.name).0 h.named

      by : FlatAt (List ℕ) SectionData sections_in sources h.at h.section → IsInPlacedStatement layout.places sources q
      by f =
          let behind : List SectionData = program_sections (take f.outer sources) ++ take f.inner (sections_in f.item) in
          let start : ℕ = place.at + next_multiple_of_4 (used_place_size h.section.name (program_sections (take f.outer sources) ++ take f.inner (sections_in f.item))) in
          let same : next_multiple_of_4 (used_place_size place.section (take h.at (program_sections sources))) ≡ next_multiple_of_4 (used_place_size h.section.name (program_sections (take f.outer sources) ++ take f.inner (sections_in f.item)))
          = ap (λ (l : List SectionData). next_multiple_of_4 (used_place_size place.section l)) f.front ∙ ap (λ (n : List ℕ). next_multiple_of_4 (used_place_size n (program_sections (take f.outer sources) ++ take f.inner (sections_in f.item)))) name in
          inside f start refl same (covering f.inner (statements_in f.item) (q - start) (within f start refl same))
        where
          within : (f : FlatAt (List ℕ) SectionData sections_in sources h.at h.section) (start : ℕ)
              → start ≡ place.at + next_multiple_of_4 (used_place_size h.section.name (program_sections (take f.outer sources) ++ take f.inner (sections_in f.item)))
              → next_multiple_of_4 (used_place_size place.section (take h.at (program_sections sources))) ≡ next_multiple_of_4 (used_place_size h.section.name (program_sections (take f.outer sources) ++ take f.inner (sections_in f.item)))
              → q - start < length (section_bytes f.inner (statements_in f.item))
          within f start is same =
              let low = h.low in
              let high = h.high in
              let size : length h.section.bytes ≡ length (section_bytes f.inner (statements_in f.item)) = ap length (section_is f.item f.inner h.section f.is_inner) in
              omega arith

          inside : (f : FlatAt (List ℕ) SectionData sections_in sources h.at h.section) (start : ℕ)
              → start ≡ place.at + next_multiple_of_4 (used_place_size h.section.name (program_sections (take f.outer sources) ++ take f.inner (sections_in f.item)))
              → next_multiple_of_4 (used_place_size place.section (take h.at (program_sections sources))) ≡ next_multiple_of_4 (used_place_size h.section.name (program_sections (take f.outer sources) ++ take f.inner (sections_in f.item)))
              → Covering f.inner (statements_in f.item) (q - start) → IsInPlacedStatement layout.places sources q
          inside f start is same c =
              let first = h.low in
              let begins : SectionHasAddress layout.places sources f.outer f.inner start = record {
                source = f.item;
                is_source = f.is_item;
                data_of = h.section;
                is_section = f.is_inner;
                place = place;
                is_place = ap (place_of layout.places) (sym name) ∙ place_alone layout.places i place good.places is_place;
                is = is;
              } in
              let size : statement_offset (statements_in f.item) c.index c.statement.section ≡ statement_offset (statements_in f.item) c.index f.inner = ap (statement_offset (statements_in f.item) c.index) c.section in
              let low = c.low in
              let high = c.high in
              record {
                number = f.outer;
                source = f.item;
                is_source = f.is_item;
                index = c.index;
                statement = c.statement;
                is_statement = c.is;
                base = start;
                begins = subst (λ n. SectionHasAddress layout.places sources f.outer n start) (sym c.section) begins;
                low = omega arith;
                high = omega arith;
              }

  module _ (objects : List ObjectData) (image : ImageData) (are : AreAssembledFrom sources objects) (parts : Parts objects layout image) where
    abbrev contents : List SectionData
    contents = all_relocated_sections (placed_in_layout layout objects)

    shapes : map section_shape contents ≡ map section_shape (program_sections sources)
    unfolding all_relocated_sections
    shapes =
        contents_shapes (globals_of (placed_in_layout layout objects)) layout.places [] objects (objects_good sources objects are)
        ∙ ap (map section_shape) (sym (all_sections sources objects (are_objects sources objects are)))

    pub zero_else : (q b : ℕ) → image_byte image q ≡ Some b → IsInPlacedStatement layout.places sources q ⊎ (b ≡ 0)
    unfolding segments_of
    zero_else q b e =
        let i = byte_from (segments_of layout.places contents) q b (ap (λ (ss : List SegmentData). byte_in_segments ss q) (sym parts.segments) ∙ e) in
        let f = filter_at (λ (x : SegmentData). nat_lt 0 (length x.bytes)) (map (segment_of contents) layout.places) i.at i.segment i.is_segment in
        let m = map_at (segment_of contents) layout.places f.at i.segment f.is_item in
        let same : m.item.at ≡ i.segment.at = ap (λ (s : SegmentData). s.at) m.is in
        let low = i.low in
        let above : m.item.at ≤ q = omega arith in
        by m.item f.at m.is_item above
        (joined_byte m.item.section contents (q - m.item.at) b (ap (λ (s : SegmentData). slice_get s.bytes (q - s.at)) m.is ∙ i.byte))
      where
        by : (place : PlaceData) (k : ℕ) → slice_get layout.places k ≡ Some place → place.at ≤ q → (b ≡ 0) ⊎ InSection place.section contents (λ before. next_multiple_of_4 (used_place_size place.section before)) (q - place.at) → IsInPlacedStatement layout.places sources q ⊎ (b ≡ 0)
        by place k is above (inl z) = inr z
        by place k is above (inr h) = inl (in_statement place k q is above (in_shaped place.section contents (program_sections sources) (q - place.at) shapes h))
