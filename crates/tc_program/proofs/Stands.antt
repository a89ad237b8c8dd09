-- Each statement with bytes is at its address in the image.
use Rattle.std.proofs.Common.{◌≡◌, ◌<◌, ◌≤◌, ◌+◌, ◌%◌, ◌^◌, ◌||◌, ◌==◌, ℕ, zero, suc, Bool, true, false, cond, List, [], ◌∷◌, ◌++◌, length, take, drop, map, get_or, Option, Some, None, refl, sym, ap, subst, ◌∙◌, arith}
use Rattle.std.specs.Prelude.{slice_get, slice_index, unwrap_or, nat_lt, not}
use Rattle.std.specs.Option.{option_map, option_map_or, option_or}
use Rattle.std.specs.List.{list_any, flat_map, position_or_len}
use Rattle.std.specs.Str.{bytes_eq}
use Rattle.std.proofs.lemmas.Bool.{lt-ltb, leb-true, and_parts}
use Rattle.std.proofs.lemmas.Bool.Decides.{Decides-eqb}
use Rattle.std.proofs.lemmas.List.{length-append, map-append}
use Rattle.std.proofs.lemmas.Option.{slice_get_within, slice_get-get_or}
use Rattle.std.proofs.lemmas.Slice.Eq.{bytes_eq-Decides}
use Rattle.elf_image.specs.Images.{SegmentData, ImageData, is_segment, byte_in_segments, image_byte, HoldsBytesFrom}
use Rattle.tc_object.specs.declared.relocs.Reloc.{Reloc}
use Rattle.tc_object.specs.Objects.{SectionData, ObjectData, IsObject}
use Rattle.tc_object.specs.Objects as obj
use Rattle.tc_stmt.specs.Items.{ReferenceData}
use Rattle.tc_reloc.specs.declared.refusals.RelocErr.{RelocErr}
use Rattle.tc_reloc.specs.Refusals.{reloc_value_refusal}
use Rattle.tc_reloc.specs.Fields.{reloc_field_number, with_reloc_field}
use Rattle.tc_stmt.specs.Lines.{lines_in, items_in}
use Rattle.tc_asm.specs.Symbols.{SymbolData, symbol_number, symbol_names}
use Rattle.tc_asm.specs.Drafts.{UseData, DraftSectionData, empty_draft, draft_section_bytes_at}
use Rattle.tc_isa.specs.Relocations.{is_relocation_kind}
use Rattle.tc_asm.specs.DraftedSources.{symbols_of_lines, draft_in}
use Rattle.tc_asm.specs.Rules.{LinesKeepRules, rule_broken_by_items}
use Rattle.tc_asm.specs.DraftInvariants.{is_drafted_name, IsUseOfKnownSymbol, IsDraftSection}
use Rattle.tc_asm.specs.Objects.{section_of, symbol_of, assembled_addend, reloc_of, relocs_of_sections, object_of_draft}
use Rattle.tc_asm.specs.Statements.{StatementData, section_bytes, statement_offset, statements_in, has_unresolved_symbol}
use Rattle.tc_asm.proofs.LaidLaws.{drafted-bytes, stands}
use Rattle.tc_asm.proofs.ListLaws.{position_first}
use Rattle.tc_link.specs.Layouts.{PlaceData, LayoutData, IsLayout, place_of}
use Rattle.tc_link.specs.Placing.{PlacedData, section_bases_after, placed_in_layout}
use Rattle.tc_link.specs.GlobalSymbols.{GlobalData, globals_of}
use Rattle.tc_link.specs.PlaceSizes.{next_multiple_of_4, used_place_size}
use Rattle.tc_link.specs.Relocated.{symbol_address, relocated_sections, reloc_field_address, reloc_value, all_relocated_sections}
use Rattle.tc_link.specs.Refusals.{reloc_error, Refusal, reloc, first_missing_symbol_refusal, is_used_by_relocs, has_symbol_in_section, reloc_refusal, first_reloc_refusal, first_refusal_from, refusal_before_relocs}
use Rattle.tc_link.specs.Placing as placing
use Rattle.tc_link.specs.Segments.{joined_sections, segment_of, segments_of}
use Rattle.tc_link.specs.Shapes.{SectionShape, section_shape}
use Rattle.tc_link.proofs.ShapeLaws.{taken-shapes}
use Rattle.tc_link.proofs.RelocLaws.{relocated_shapes, contents_shapes}
use Rattle.tc_link.proofs.ImageLaws.{KeepsLimits}
use Rattle.tc_link.proofs.LinkLaws.{linked_image}
use Rattle.tc_program.specs.Addresses.{SectionHasAddress, NameHasAddress}
use Rattle.tc_program.specs.Placed.{placed_symbol_value, plain, filled, StatementIsPlaced}
use Rattle.tc_program.specs.PlacementLaws.{AreAssembledFrom}
use Rattle.tc_stmt.proofs.ListItems.{IsIn, get_front, get_behind, map_get, map_take, filter_in, find_at, flat_parted}
use Rattle.tc_asm.proofs.SourceParts.{sections_are, part_bytes, part_is, have}
use Rattle.tc_program.proofs.Sections.{object_at}
use Rattle.tc_asm.proofs.Uses.{HasField, HaveFields, use_at, uses_from}
use Rattle.tc_program.proofs.Fields.{filled_bytes, filled_from}
use Rattle.tc_program.proofs.Bytes.{take_get, drop_get, final, statement_there}
use Rattle.tc_program.proofs.Image.{Stands, byte_here}
use Rattle.tc_program.proofs.Image as image_laws
use Rattle.tc_program.proofs.Bases.{none_at, placed_at, placed_take, base_at, place_for, begins_at}
use Rattle.tc_program.proofs.Names.{same_name, each_at, any_at}
use Rattle.tc_program.proofs.Values.{means_at}
use Rattle.tc_asm.proofs.SourceDrafts.{source_items}
use Rattle.tc_program.proofs.Laws.{Parts, are_objects, drafts_good, objects_good, placeable}
use Rattle.tc_stmt.proofs.Cases.{one_passes}
use Rattle.tc_asm.proofs.CodeSizes.{source_good}

-- ---- the use of a statement, and its relocation
abbrev a_use : ℕ → ReferenceData → UseData
a_use n r = record { offset = n; reference = r }

behind : {A : Type 0} (xs ys : List A) (y : A) → IsIn A ys y → IsIn A (xs ++ ys) y
behind xs ys y h = record { at = length xs + h.at; is = get_behind xs ys (length xs + h.at) h.at refl ∙ h.is }

use_there : (s n j : ℕ) (ts : List StatementData) (t : StatementData) (r : ReferenceData) → slice_get ts j ≡ Some t → (t.section == s) ≡ true → t.reference ≡ Some r → is_relocation_kind r.kind ≡ true →
    IsIn UseData (uses_from s n ts) (a_use (n + statement_offset ts j s) r)
use_there s n j [] t r e here is waits = cc
use_there s n zero (x ∷ xs) t r e here is waits =
    let same : x ≡ t = cc in
    let none : n ≡ n + 0 = omega arith in
    let whole : uses_from s n (x ∷ xs) ≡ a_use n r ∷ uses_from s (n + length t.bytes) xs
    = ap (λ (y : StatementData). cond (y.section == s) (use_at n y.reference ++ uses_from s (n + length y.bytes) xs) (uses_from s n xs)) same
    ∙ ap (λ b. cond b (use_at n t.reference ++ uses_from s (n + length t.bytes) xs) (uses_from s n xs)) here
    ∙ ap (λ (o : Option ReferenceData). use_at n o ++ uses_from s (n + length t.bytes) xs) is
    ∙ ap (λ b. cond {A = List UseData} b (a_use n r ∷ []) [] ++ uses_from s (n + length t.bytes) xs) waits in
    record { at = 0; is = ap (λ (us : List UseData). slice_get us 0) whole ∙ ap (λ k. Some (a_use k r)) none }
use_there s n (suc j) (x ∷ xs) t r e here is waits = by (x.section == s) (λ m. use_there s m j xs t r e here is waits)
  where
    by : (b : Bool) → ((m : ℕ) → IsIn UseData (uses_from s m xs) (a_use (m + statement_offset xs j s) r))
        → IsIn UseData (cond b (use_at n x.reference ++ uses_from s (n + length x.bytes) xs) (uses_from s n xs)) (a_use (n + length (cond b x.bytes [] ++ section_bytes s (take j xs))) r)
    by true rec =
        let far : n + length x.bytes + length (section_bytes s (take j xs)) ≡ n + length (x.bytes ++ section_bytes s (take j xs)) = omega (arith, length-append x.bytes (section_bytes s (take j xs))) in
        let P : ℕ → Type 0 = λ k. IsIn UseData (use_at n x.reference ++ uses_from s (n + length x.bytes) xs) (a_use k r) in
        subst P far (behind (use_at n x.reference) (uses_from s (n + length x.bytes) xs) (a_use (n + length x.bytes + statement_offset xs j s) r) (rec (n + length x.bytes)))
    by false rec = rec n

reloc_there : (ss : List SymbolData) (n s : ℕ) (parts : List DraftSectionData) (q : DraftSectionData) (u : UseData) → slice_get parts s ≡ Some q → IsIn UseData q.uses u → IsIn Reloc (relocs_of_sections ss n parts) (reloc_of ss (n + s) u)
reloc_there ss n s [] q u e h = cc
reloc_there ss n zero (x ∷ xs) q u e h =
    let same : x ≡ q = cc in
    let none : n ≡ n + 0 = omega arith in
    let own : slice_get x.uses h.at ≡ Some u = ap (λ (y : DraftSectionData). slice_get y.uses h.at) same ∙ h.is in
    record {
      at = h.at;
      is = get_front (map (reloc_of ss n) x.uses) (relocs_of_sections ss (n + 1) xs) h.at (reloc_of ss n u) (map_get (reloc_of ss n) x.uses h.at u own) ∙ ap (λ k. Some (reloc_of ss k u)) none;
    }
reloc_there ss n (suc s) (x ∷ xs) q u e h =
    let moved : n + 1 + s ≡ n + suc s = omega arith in
    let P : ℕ → Type 0 = λ k. IsIn Reloc (relocs_of_sections ss n (x ∷ xs)) (reloc_of ss k u) in
    subst P moved (behind (map (reloc_of ss n) x.uses) (relocs_of_sections ss (n + 1) xs) (reloc_of ss (n + 1 + s) u) (reloc_there ss (n + 1) s xs q u e h))

-- ---- the symbol of a known name
first_is : {A : Type 0} (p : A → Bool) (xs : List A) → list_any p xs ≡ true → (x : A) × (slice_get xs (position_or_len p xs) ≡ Some x) × (p x ≡ true)
first_is p [] h = cc
first_is {A} p (x ∷ xs) h = by (p x) refl h (first_is p xs)
  where
    by : (b : Bool) → p x ≡ b → (b || list_any p xs) ≡ true → (list_any p xs ≡ true → (y : A) × (slice_get xs (position_or_len p xs) ≡ Some y) × (p y ≡ true))
        → (y : A) × (slice_get (x ∷ xs) (cond (not b) (1 + position_or_len p xs) 0) ≡ Some y) × (p y ≡ true)
    by true e f rec = (x, refl, e)
    by false e f rec =
        let r = rec f in
        let next : 1 + position_or_len p xs ≡ suc (position_or_len p xs) = omega arith in
        (r.0, ap (slice_get (x ∷ xs)) next ∙ r.1, r.2)

among_any : (ss : List SymbolData) (name : List ℕ) → is_drafted_name (symbol_names ss) name ≡ list_any (λ (s : SymbolData). bytes_eq name s.name) ss
among_any [] name = refl
among_any (s ∷ ss) name = ap (λ b. bytes_eq name s.name || b) (among_any ss name)

number_known : (ss : List SymbolData) (name : List ℕ) → is_drafted_name (symbol_names ss) name ≡ true → (s : SymbolData) × (slice_get ss (symbol_number ss name) ≡ Some s) × (s.name ≡ name)
number_known ss name e =
    let p : SymbolData → Bool = λ s. bytes_eq name s.name in
    let some : list_any (λ (s : SymbolData). bytes_eq name s.name) ss ≡ true = sym (among_any ss name) ∙ e in
    let f = first_is (λ (s : SymbolData). bytes_eq name s.name) ss some in
    (f.0, ap (λ o. slice_get ss (unwrap_or o 0)) (position_first (λ (s : SymbolData). bytes_eq name s.name) ss some) ∙ f.1, sym ((bytes_eq-Decides name f.0.name).0 f.2))

-- ---- sources
pub rules_at : (sources : List (List ℕ)) (objects : List ObjectData) → AreAssembledFrom sources objects → (i : ℕ) (source : List ℕ) → slice_get sources i ≡ Some source → LinesKeepRules (lines_in source) (length (lines_in source))
rules_at [] objects h i source e = cc
rules_at (x ∷ xs) [] h i source e = absurd h
rules_at (x ∷ xs) (o ∷ os) h zero source e = let same : x ≡ source = cc in subst (λ (y : List ℕ). LinesKeepRules (lines_in y) (length (lines_in y))) same h.0.0
rules_at (x ∷ xs) (o ∷ os) h (suc i) source e = rules_at xs os h.1 i source e

assembled_take : (sources : List (List ℕ)) (objects : List ObjectData) (i : ℕ) → AreAssembledFrom sources objects → AreAssembledFrom (take i sources) (take i objects)
assembled_take [] [] zero h = tt
assembled_take [] [] (suc i) h = tt
assembled_take [] (o ∷ os) i h = absurd h
assembled_take (x ∷ xs) [] i h = absurd h
assembled_take (x ∷ xs) (o ∷ os) zero h = tt
assembled_take (x ∷ xs) (o ∷ os) (suc i) h = (h.0, assembled_take xs os i h.1)

object_good : (sources : List (List ℕ)) (objects : List ObjectData) → AreAssembledFrom sources objects → (i : ℕ) (o : ObjectData) → slice_get objects i ≡ Some o → IsObject o
object_good sources objects are i o e =
    let within = slice_get_within objects i o e in
    let same : o ≡ get_or objects i o = got (slice_get-get_or objects i o within) in
    subst IsObject (sym same) (objects_good sources objects are i o within)
  where
    got : slice_get objects i ≡ Some (get_or objects i o) → o ≡ get_or objects i o
    got f = cc

pub none_missing : (objects : List ObjectData) (layout : LayoutData) → refusal_before_relocs layout objects ≡ None → first_missing_symbol_refusal objects ≡ None
none_missing objects layout e = (none_parts _ _ (none_parts _ _ e).1).0
  where
    none_parts : (a b : Option Refusal) → option_or a b ≡ None → (a ≡ None) × (b ≡ None)
    none_parts None b f = (refl, f)
    none_parts (Some x) b f = cc

has_at : (ts : List StatementData) (j : ℕ) (t : StatementData) → HaveFields ts → slice_get ts j ≡ Some t → HasField t
has_at [] j t h e = cc
has_at (x ∷ xs) zero t h e = let same : x ≡ t = cc in subst HasField same h.0
has_at (x ∷ xs) (suc j) t h e = has_at xs j t h.1 e

part_some : (ps : List DraftSectionData) (s : ℕ) → 0 < length (draft_section_bytes_at ps s) → (q : DraftSectionData) × (slice_get ps s ≡ Some q)
part_some [] s h = absurd (omega arith)
part_some (p ∷ ps) zero h = (p, refl)
part_some (p ∷ ps) (suc s) h = part_some ps s h

-- ---- one source of an image
module _ (sources : List (List ℕ)) (objects : List ObjectData) (layout : LayoutData) (image : ImageData) (good : IsLayout layout) (are : AreAssembledFrom sources objects) (parts : Parts objects layout image)
    (number : ℕ) (source : List ℕ) (is_source : slice_get sources number ≡ Some source) where
  abbrev globals : List GlobalData
  globals = globals_of (placed_in_layout layout objects)

  abbrev object : ObjectData
  object = object_of_draft (draft_in source)

  abbrev bases : List ℕ
  bases = section_bases_after layout.places (placing.sections_to_link (take number objects)) (object_of_draft (draft_in source)).sections

  abbrev own : PlacedData
  own = record { object = object; bases = bases }

  abbrev contents : List SectionData
  contents = all_relocated_sections (placed_in_layout layout objects)

  rules : 15 ≤ rule_broken_by_items (symbols_of_lines (lines_in source)) empty_draft (items_in (lines_in source))
  rules = source_items source (rules_at sources objects are number source is_source)

  object_there : slice_get objects number ≡ Some object
  object_there = object_at sources objects number source (are_objects sources objects are) is_source

  own_there : slice_get (placed_in_layout layout objects) number ≡ Some own
  own_there = placed_at layout.places [] objects number object object_there

  limits : KeepsLimits (record { entry = 0; segments = segments_of layout.places contents })
  limits = linked_image objects layout (placed_in_layout layout objects) good (objects_good sources objects are) parts.early refl 0 (omega arith)

  -- ---- one section
  module _ (s : ℕ) (q : DraftSectionData) (is_part : slice_get (draft_in source).parts s ≡ Some q) (some : 0 < length q.bytes) where
    abbrev done : SectionData
    done = record { name = q.name; bytes = section_bytes s (filled_from globals own (draft_in source).symbols s 0 (statements_in source)) }

    abbrev before : List SectionData
    before = flat_map (relocated_sections globals) (take number (placed_in_layout layout objects)) ++ take s (relocated_sections globals own)

    abbrev after : List SectionData
    after = drop (suc s) (relocated_sections globals own) ++ flat_map (relocated_sections globals) (drop (suc number) (placed_in_layout layout objects))

    parted : contents ≡ before ++ done ∷ after
    unfolding all_relocated_sections
    parted = flat_parted (relocated_sections globals) (placed_in_layout layout objects) number own s done own_there (final source (source_good source) rules globals own refl s q is_part)

    section_there : slice_get (map section_of (draft_in source).parts) s ≡ Some (section_of q)
    section_there = map_get section_of (draft_in source).parts s q is_part

    placed : (p : PlaceData) × (place_of layout.places q.name ≡ Some p)
    placed =
        place_for layout.places objects number object s (section_of q) (placeable objects layout parts.early) object_there section_there
        (ap (λ b. b || has_symbol_in_section (object_of_draft (draft_in source)).symbols s) (lt-ltb 0 (length q.bytes) some))

    begins : SectionHasAddress layout.places sources number s (slice_index bases s)
    begins =
        begins_at layout.places sources objects number source s (section_of q) placed.0 (are_objects sources objects are) is_source
        (ap (λ (l : List SectionData). slice_get l s) (sections_are source) ∙ section_there) placed.1

    stood : Stands q.name before done after
    stood = image_laws.stands q.name before done after (same_name q.name)

    earlier : map section_shape before ≡ map section_shape (placing.sections_to_link (take number objects) ++ take s object.sections)
    earlier =
        map-append section_shape (flat_map (relocated_sections globals) (take number (placed_in_layout layout objects))) (take s (relocated_sections globals own))
        ∙ ap (λ (l : List PlacedData). map section_shape (flat_map (relocated_sections globals) l) ++ map section_shape (take s (relocated_sections globals own))) (placed_take layout.places [] objects number)
        ∙ ap (λ (l : List SectionShape). l ++ map section_shape (take s (relocated_sections globals own)))
        (contents_shapes globals layout.places [] (take number objects) (objects_good (take number sources) (take number objects) (assembled_take sources objects number are)))
        ∙ ap (λ (l : List SectionShape). map section_shape (placing.sections_to_link (take number objects)) ++ l)
        (map_take section_shape (relocated_sections globals own) s ∙ ap (take s) (relocated_shapes globals own (object_good sources objects are number object object_there)) ∙ sym (map_take section_shape object.sections s))
        ∙ sym (map-append section_shape (placing.sections_to_link (take number objects)) (take s object.sections))

    base_is : slice_index bases s ≡ placed.0.at + length stood.front
    base_is =
        base_at layout.places (placing.sections_to_link (take number objects)) object.sections s (section_of q) section_there
        ∙ ap (λ (o : Option PlaceData). option_map_or (λ p. p.at + next_multiple_of_4 (used_place_size q.name (placing.sections_to_link (take number objects) ++ take s object.sections))) o 0) placed.1
        ∙ ap (λ n. placed.0.at + next_multiple_of_4 n) (sym (taken-shapes q.name before (placing.sections_to_link (take number objects) ++ take s object.sections) earlier))
        ∙ ap (λ n. placed.0.at + n) (sym stood.place)

    -- the segment of the section's place has its bytes
    in_segment : (m b : ℕ) → slice_get done.bytes m ≡ Some b → slice_get (joined_sections placed.0.section contents) (length stood.front + m) ≡ Some b
    in_segment m b h =
        let f = find_at (λ (p : PlaceData). bytes_eq q.name p.section) layout.places placed.0 placed.1 in
        ap (λ (n : List ℕ). slice_get (joined_sections n contents) (length stood.front + m)) (sym ((bytes_eq-Decides q.name placed.0.section).0 f.holds))
        ∙ ap (λ (cs : List SectionData). slice_get (joined_sections q.name cs) (length stood.front + m)) parted
        ∙ ap (λ (bs : List ℕ). slice_get bs (length stood.front + m)) stood.is
        ∙ get_behind stood.front (done.bytes ++ stood.rest) (length stood.front + m) m refl
        ∙ get_front done.bytes stood.rest m b h

    segment_there : (m b : ℕ) → slice_get done.bytes m ≡ Some b → IsIn SegmentData (segments_of layout.places contents) (segment_of contents placed.0)
    unfolding segments_of
    segment_there m b h =
        let f = find_at (λ (p : PlaceData). bytes_eq q.name p.section) layout.places placed.0 placed.1 in
        let within = slice_get_within (joined_sections placed.0.section contents) (length stood.front + m) b (in_segment m b h) in
        filter_in (λ (x : SegmentData). nat_lt 0 (length x.bytes)) (map (segment_of contents) layout.places) f.at (segment_of contents placed.0)
        (map_get (segment_of contents) layout.places f.at placed.0 f.is_item) (lt-ltb 0 (length (joined_sections placed.0.section contents)) (omega arith))

    byte_there : (m b : ℕ) → slice_get done.bytes m ≡ Some b → image_byte image (slice_index bases s + m) ≡ Some b
    byte_there m b h =
        let i = segment_there m b h in
        let base = base_is in
        let far : slice_index bases s + m ≡ placed.0.at + (length stood.front + m) = omega arith in
        ap (λ (ss : List SegmentData). byte_in_segments ss (slice_index bases s + m)) parts.segments
        ∙ ap (byte_in_segments (segments_of layout.places contents)) far
        ∙ byte_here (segments_of layout.places contents) i.at (segment_of contents placed.0) (length stood.front + m) b limits.apart i.is (in_segment m b h)

    small_there : (m b : ℕ) → slice_get done.bytes m ≡ Some b → slice_index bases s + m < 2 ^ 32
    small_there m b h =
        let i = segment_there m b h in
        let base = base_is in
        let within = slice_get_within (joined_sections placed.0.section contents) (length stood.front + m) b (in_segment m b h) in
        let small = leb-true (placed.0.at + length (joined_sections placed.0.section contents)) (2 ^ 32)
        (and_parts _ _ (one_passes is_segment (segments_of layout.places contents) i.at (segment_of contents placed.0) limits.segments i.is)).1 in
        omega arith

  -- ---- one statement
  module _ (j : ℕ) (t : StatementData) (at : slice_get (statements_in source) j ≡ Some t) (long : 0 < length t.bytes) where
    section_long : 0 < length (section_bytes t.section (statements_in source))
    section_long =
        let first = slice_get-get_or t.bytes 0 0 long in
        let flat : statement_offset (statements_in source) j t.section ≡ statement_offset (statements_in source) j t.section + 0 = omega arith in
        let there = drop_get (statement_offset (statements_in source) j t.section) (section_bytes t.section (statements_in source)) 0 (statement_offset (statements_in source) j t.section) (get_or t.bytes 0 0) flat
        (take_get (length t.bytes) (drop (statement_offset (statements_in source) j t.section) (section_bytes t.section (statements_in source))) 0 (get_or t.bytes 0 0)
        (ap (λ (bs : List ℕ). slice_get bs 0) (stands (statements_in source) j t at) ∙ first)) in
        let within = slice_get_within (section_bytes t.section (statements_in source)) (statement_offset (statements_in source) j t.section) (get_or t.bytes 0 0) there in
        omega arith

    part : (q : DraftSectionData) × (slice_get (draft_in source).parts t.section ≡ Some q)
    part = part_some (draft_in source).parts t.section (subst (λ (bs : List ℕ). 0 < length bs) (sym (drafted-bytes (symbols_of_lines (lines_in source)) (lines_in source) t.section)) section_long)

    part_long : 0 < length part.0.bytes
    part_long =
        subst (λ (bs : List ℕ). 0 < length bs)
        (sym (drafted-bytes (symbols_of_lines (lines_in source)) (lines_in source) t.section) ∙ part_bytes (draft_in source).parts t.section part.0 part.1) section_long

    abbrev off : ℕ
    off = statement_offset (statements_in source) j t.section

    abbrev base : ℕ
    base = slice_index bases t.section

    abbrev held : List ℕ
    held = filled_bytes globals own (draft_in source).symbols t.section (0 + off) t.reference t.bytes

    byte_at : (k b : ℕ) → slice_get held k ≡ Some b → slice_get (section_bytes t.section (filled_from globals own (draft_in source).symbols t.section 0 (statements_in source))) (off + k) ≡ Some b
    byte_at k b h = statement_there source (source_good source) rules globals own refl j t at k b h

    there : HoldsBytesFrom image (base + off) held
    there = λ k b h.
        let far : base + off + k ≡ base + (off + k) = omega arith in
        ap (image_byte image) far ∙ byte_there t.section part.0 part.1 part_long (off + k) b (byte_at k b h)

    -- without a symbol that waits
    held_plain : (o : Option ReferenceData) → has_unresolved_symbol o ≡ false → filled_bytes globals own (draft_in source).symbols t.section (0 + off) o t.bytes ≡ t.bytes
    held_plain None e = refl
    held_plain (Some r) e =
        ap (λ b. cond b (with_reloc_field r.kind t.bytes (reloc_field_number r.kind (reloc_field_address own (reloc_of (draft_in source).symbols t.section (a_use (0 + off) r))) (reloc_value globals own (reloc_of (draft_in source).symbols t.section (a_use (0 + off) r))))) t.bytes) e

    plain_stands : has_unresolved_symbol t.reference ≡ false → StatementIsPlaced layout.places sources image number j (statements_in source) t
    plain_stands e = record {
      base = base;
      begins = begins t.section part.0 part.1 part_long;
      bytes = t.bytes;
      are = plain e;
      there = subst (λ (bs : List ℕ). HoldsBytesFrom image (base + off) bs) (held_plain t.reference e) there;
    }

    -- with one
    module _ (r : ReferenceData) (is : t.reference ≡ Some r) (waits : is_relocation_kind r.kind ≡ true) where
      abbrev field : Reloc
      field = reloc_of (draft_in source).symbols t.section (a_use (0 + off) r)

      used : IsIn UseData part.0.uses (a_use (0 + off) r)
      used =
          subst (λ (us : List UseData). IsIn UseData us (a_use (0 + off) r)) (sym (part_is source (source_good source) rules t.section part.0 part.1).1)
          (use_there t.section 0 j (statements_in source) t r at ((Decides-eqb t.section t.section).1 refl) is waits)

      field_there : IsIn Reloc object.relocs field
      field_there =
          let same : 0 + t.section ≡ t.section = omega arith in
          let P : ℕ → Type 0 = λ n. IsIn Reloc (relocs_of_sections (draft_in source).symbols 0 (draft_in source).parts) (reloc_of (draft_in source).symbols n (a_use (0 + off) r)) in
          subst P same (reloc_there (draft_in source).symbols 0 t.section (draft_in source).parts part.0 (a_use (0 + off) r) part.1 used)

      known : is_drafted_name (symbol_names (draft_in source).symbols) r.name ≡ true
      known =
          let draft = drafts_good sources objects are number source is_source in
          let p = each_at (IsDraftSection (symbol_names (draft_in source).symbols) (draft_in source).total) (draft_in source).parts t.section part.0 draft.parts part.1 in
          (each_at (IsUseOfKnownSymbol (symbol_names (draft_in source).symbols)) part.0.uses used.at (a_use (0 + off) r) p.uses used.is).known

      symbol : (s : SymbolData) × (slice_get (draft_in source).symbols (symbol_number (draft_in source).symbols r.name) ≡ Some s) × (s.name ≡ r.name)
      symbol = number_known (draft_in source).symbols r.name known

      abbrev address : ℕ
      address = symbol_address globals bases (symbol_of symbol.0)

      means : NameHasAddress layout.places sources number r.name address
      means =
          let n : ℕ = symbol_number (draft_in source).symbols r.name in
          let is_there : is_used_by_relocs object.relocs (symbol_number (draft_in source).symbols r.name) ≡ true
          = any_at (λ (x : Reloc). x.symbol == symbol_number (draft_in source).symbols r.name) object.relocs field_there.at field field_there.is
          ((Decides-eqb (symbol_number (draft_in source).symbols r.name) (symbol_number (draft_in source).symbols r.name)).1 refl) in
          subst (λ (name : List ℕ). NameHasAddress layout.places sources number name address) symbol.2
          (means_at layout.places sources objects (are_objects sources objects are) (placeable objects layout parts.early) (drafts_good sources objects are) (none_missing objects layout parts.early) number source
          (symbol_number (draft_in source).symbols r.name) symbol.0 is_source symbol.1 is_there)

      four : length t.bytes ≡ 4
      four = (has_at (statements_in source) j t (have source (source_good source) rules) at).four (ap has_unresolved_symbol is ∙ waits)

      abbrev whole : ℕ → ℕ → List ℕ
      whole place value = with_reloc_field r.kind t.bytes (reloc_field_number r.kind place value)

      held_filled : held ≡ whole (reloc_field_address own field) (reloc_value globals own field)
      held_filled =
          ap (λ (o : Option ReferenceData). filled_bytes globals own (draft_in source).symbols t.section (0 + off) o t.bytes) is
          ∙ ap (λ b. cond b (whole (reloc_field_address own field) (reloc_value globals own field)) t.bytes) waits

      small : base + off < 2 ^ 32
      small =
          let bs : List ℕ = whole (reloc_field_address own field) (reloc_value globals own field) in
          let first = slice_get-get_or (whole (reloc_field_address own field) (reloc_value globals own field)) 0 0 (omega arith) in
          let less = small_there t.section part.0 part.1 part_long (off + 0) (get_or (whole (reloc_field_address own field) (reloc_value globals own field)) 0 0)
          (byte_at 0 (get_or (whole (reloc_field_address own field) (reloc_value globals own field)) 0 0) (ap (λ (bs : List ℕ). slice_get bs 0) held_filled ∙ first)) in
          omega arith

      place_is : reloc_field_address own field ≡ base + off
      place_is = let less = small in omega arith

      value_is : reloc_value globals own field ≡ placed_symbol_value address r
      value_is =
          ap (λ (o : Option obj.SymbolData). (option_map_or (symbol_address globals bases) o 0 + assembled_addend r) % 2 ^ 32)
          (map_get symbol_of (draft_in source).symbols (symbol_number (draft_in source).symbols r.name) symbol.0 symbol.1)

      unrefused : reloc_error globals own field ≡ None
      unfolding first_reloc_refusal
      unrefused =
          let here : first_refusal_from (reloc_refusal globals (0 + number) own) 0 object.relocs ≡ None
          = none_at (λ n (x : PlacedData). first_refusal_from (reloc_refusal globals n x) 0 x.object.relocs) 0 (placed_in_layout layout objects) number own parts.relocs own_there in
          none_of (reloc_error globals own field) (none_at (reloc_refusal globals (0 + number) own) 0 object.relocs field_there.at field here field_there.is)
        where
          none_of : (o : Option RelocErr) → option_map (λ e. reloc (0 + number) field.section field.offset e) o ≡ None → o ≡ None
          none_of None e = refl
          none_of (Some x) e = cc

      fits : reloc_value_refusal r.kind (base + off) (placed_symbol_value address r) ≡ None
      fits =
          ap (λ n. reloc_value_refusal r.kind n (placed_symbol_value address r)) (sym place_is)
          ∙ ap (reloc_value_refusal r.kind (reloc_field_address own field)) (sym value_is)
          ∙ unrefused

      filled_stands : StatementIsPlaced layout.places sources image number j (statements_in source) t
      filled_stands =
          let held_is : held ≡ whole (base + off) (placed_symbol_value address r)
          = held_filled ∙ ap (λ n. whole n (reloc_value globals own field)) place_is ∙ ap (whole (base + off)) value_is in
          record {
            base = base;
            begins = begins t.section part.0 part.1 part_long;
            bytes = whole (base + off) (placed_symbol_value address r);
            are = filled r address is waits four means fits;
            there = subst (λ (bs : List ℕ). HoldsBytesFrom image (base + off) bs) held_is there;
          }

    pub statement_stands : StatementIsPlaced layout.places sources image number j (statements_in source) t
    statement_stands = by t.reference refl
      where
        by_open : (r : ReferenceData) (b : Bool) → t.reference ≡ Some r → is_relocation_kind r.kind ≡ b → StatementIsPlaced layout.places sources image number j (statements_in source) t
        by_open r true e f = filled_stands r e f
        by_open r false e f = plain_stands (ap has_unresolved_symbol e ∙ f)

        by : (o : Option ReferenceData) → t.reference ≡ o → StatementIsPlaced layout.places sources image number j (statements_in source) t
        by None e = plain_stands (ap has_unresolved_symbol e)
        by (Some r) e = by_open r (is_relocation_kind r.kind) e refl
