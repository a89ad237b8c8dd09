-- What objects of bytes are linked to is an image.
use Rattle.std.proofs.Common.{◌≡◌, ◌<◌, ◌+◌, ◌-◌, ◌%◌, ◌^◌, ℕ, Bool, true, false, cond, nat_lt, List, [], ◌∷◌, ◌++◌, length, get_or, map, take, drop, replicate, set, Option, Some, None, refl, sym, subst, arith, lit<}
use Rattle.std.specs.Prelude.{All, slice_get, slice_index, filter, fold}
use Rattle.std.specs.Option.{option_map, option_map_or}
use Rattle.std.specs.List.{flat_map, find}
use Rattle.std.specs.Str.{bytes_eq}
use Rattle.std.proofs.lemmas.Option.{get_or_from_slice_get, slice_get_within}
use Rattle.std.proofs.lemmas.List.Elements.{All-nil, All-head, All-tail, All-append, All-replicate, All-take, All-drop, All-set, All-map, All-filter}
use Rattle.tcd_base.specs.Bytes.{word_in_bytes}
use Rattle.elf_image.specs.Images.{SegmentData, HoldOnlyBytes, IsImage}
use Rattle.tc_object.specs.declared.relocs.Reloc.{Reloc}
use Rattle.tc_object.specs.Objects.{SectionData, SymbolData, ObjectData}
use Rattle.tc_link.specs.Layouts.{PlaceData}
use Rattle.tc_link.specs.Placing.{PlacedData, section_bases_after, placed_after, placed_in_layout}
use Rattle.tc_link.specs.GlobalSymbols.{GlobalData, is_global, global_data, globals_of, first_global_address}
use Rattle.tc_link.specs.PlaceSizes.{next_multiple_of_4}
use Rattle.tc_reloc.specs.Fields.{reloc_field_number, reloc_field_bits, bits_outside_reloc_field, with_reloc_field}
use Rattle.tc_link.specs.Relocated.{reloc_field_at, reloc_field_address, reloc_value, section_after_reloc, sections_after_reloc, relocated_sections, all_relocated_sections}
use Rattle.tc_link.specs.Segments.{with_segment_padding, with_section_of_name, joined_sections, segment_of, segments_of}
use Rattle.tc_link.proofs.ImageLaws.{image_of_bytes}
use Rattle.tc_link.proofs.LinkLaws.{linked_image}
use Rattle.tc_program.proofs.Laws.{parts_of}
use Rattle.tcd_laws.specs.LimitsKept.{IsByte, SectionHoldsBytes, IsObjectOfBytes, LinksGiveImages}
use Rattle.tcd_laws.proofs.ObjectBytes.{word_small}

-- ---- relocations
module _ (g : List GlobalData) (p : PlacedData) where
  written_small : (r : Reloc) (s : SectionData) → SectionHoldsBytes s → SectionHoldsBytes (section_after_reloc g p r s)
  written_small r s h =
      let old : List ℕ = reloc_field_at s.bytes r.offset in
      let content : ℕ = reloc_field_number r.kind (reloc_field_address p r) (reloc_value g p r) in
      let new : List ℕ = with_reloc_field r.kind old content in
      let rest : List ℕ = drop (r.offset + 4) s.bytes in
      All-append IsByte (take r.offset s.bytes) (new ++ rest) (All-take IsByte r.offset s.bytes h)
      (All-append IsByte new rest (word_small (bits_outside_reloc_field r.kind (word_in_bytes old 0) + reloc_field_bits r.kind content)) (All-drop IsByte (r.offset + 4) s.bytes h))

  with_small : (ss : List SectionData) (r : Reloc) → All SectionHoldsBytes ss → All SectionHoldsBytes (sections_after_reloc g p ss r)
  with_small ss r h = by_section (slice_get ss r.section) refl
    where
      by_section : (o : Option SectionData) → slice_get ss r.section ≡ o → All SectionHoldsBytes (option_map_or (λ x. set ss r.section (section_after_reloc g p r x)) o ss)
      by_section None e = h
      by_section (Some x) e =
          let here : SectionHoldsBytes x = subst SectionHoldsBytes (get_or_from_slice_get ss r.section x x e) (h r.section x (slice_get_within ss r.section x e)) in
          All-set SectionHoldsBytes ss r.section (section_after_reloc g p r x) (written_small r x here) h

  all_with_small : (rs : List Reloc) (ss : List SectionData) → All SectionHoldsBytes ss → All SectionHoldsBytes (fold (sections_after_reloc g p) ss rs)
  all_with_small [] ss h = h
  all_with_small (r ∷ rs) ss h = all_with_small rs (sections_after_reloc g p ss r) (with_small ss r h)

  relocated_small : All SectionHoldsBytes (p.object).sections → All SectionHoldsBytes (relocated_sections g p)
  unfolding relocated_sections
  relocated_small h = all_with_small (p.object).relocs (p.object).sections h

contents_small : (g : List GlobalData) (places : List PlaceData) (before : List SectionData) (objects : List ObjectData) → All IsObjectOfBytes objects → All SectionHoldsBytes (flat_map (relocated_sections g) (placed_after places before objects))
unfolding placed_after
contents_small g places before [] h = All-nil SectionHoldsBytes
contents_small g places before (o ∷ os) h =
    let here : PlacedData = record { object = o; bases = section_bases_after places before o.sections } in
    All-append SectionHoldsBytes (relocated_sections g here) (flat_map (relocated_sections g) (placed_after places (before ++ o.sections) os)) (relocated_small g here (All-head IsObjectOfBytes o os h).bytes) (contents_small g places (before ++ o.sections) os (All-tail IsObjectOfBytes o os h))

-- ---- segments
zero_small : IsByte 0
zero_small = lit< tt

padded_small : (bs : List ℕ) → All IsByte bs → All IsByte (with_segment_padding bs)
padded_small bs h =
    let n : ℕ = next_multiple_of_4 (length bs) - length bs in
    All-append IsByte bs (replicate n 0) h (All-replicate IsByte n 0 zero_small)

section_small : (name bs : List ℕ) (s : SectionData) → All IsByte bs → SectionHoldsBytes s → (b : Bool) → All IsByte (cond b (with_segment_padding bs ++ s.bytes) bs)
section_small name bs s h k true = All-append IsByte (with_segment_padding bs) s.bytes (padded_small bs h) k
section_small name bs s h k false = h

all_joined_small : (name : List ℕ) (sections : List SectionData) (bs : List ℕ) → All SectionHoldsBytes sections → All IsByte bs → All IsByte (fold (with_section_of_name name) bs sections)
all_joined_small name [] bs h k = k
all_joined_small name (s ∷ ss) bs h k =
    all_joined_small name ss (with_section_of_name name bs s) (All-tail SectionHoldsBytes s ss h) (section_small name bs s k (All-head SectionHoldsBytes s ss h) (bytes_eq name s.name))

joined_small : (name : List ℕ) (sections : List SectionData) → All SectionHoldsBytes sections → All IsByte (joined_sections name sections)
unfolding joined_sections
joined_small name sections h = all_joined_small name sections [] h (All-nil IsByte)

abbrev IsSmall : SegmentData → Type 0
IsSmall s = All (λ b. b < 2 ^ 8) s.bytes

segments_small : (places : List PlaceData) (sections : List SectionData) → All SectionHoldsBytes sections → HoldOnlyBytes (segments_of places sections)
unfolding segments_of
segments_small places sections h =
    All-filter (λ (s : SegmentData). nat_lt 0 (length s.bytes)) IsSmall (map (segment_of sections) places)
    (All-map IsSmall (segment_of sections) places (λ k d less. joined_small (get_or places k d).section sections h))

-- ---- the entry
abbrev IsLow : GlobalData → Type 0
IsLow g = g.address < 2 ^ 32

low : (n : ℕ) → n % 2 ^ 32 < 2 ^ 32
low n = omega arith

symbol_low : (bases : List ℕ) (s : SymbolData) → IsLow (global_data bases s)
symbol_low bases s = low (slice_index bases s.section + s.offset)

globals_low : (placed : List PlacedData) → All IsLow (globals_of placed)
unfolding globals_of
globals_low [] = All-nil IsLow
globals_low (p ∷ ps) =
    let globals : List SymbolData = filter is_global (p.object).symbols in
    All-append IsLow (map (global_data p.bases) globals) (globals_of ps) (All-map IsLow (global_data p.bases) globals (λ k d less. symbol_low p.bases (get_or globals k d))) (globals_low ps)

global_low : (gs : List GlobalData) (name : List ℕ) (a : ℕ) → All IsLow gs → first_global_address gs name ≡ Some a → a < 2 ^ 32
global_low [] name a h e = cc
global_low (g ∷ gs) name a h e = by_name (bytes_eq name g.name) (global_low gs name a (All-tail IsLow g gs h)) e
  where
    by_name : (b : Bool) → (first_global_address gs name ≡ Some a → a < 2 ^ 32) → option_map (λ x. x.address) (cond b (Some g) (find (λ x. bytes_eq name x.name) gs)) ≡ Some a → a < 2 ^ 32
    by_name true rest f = let same : g.address ≡ a = cc in subst (λ n. n < 2 ^ 32) same (All-head IsLow g gs h)
    by_name false rest f = rest f

-- ---- the image
pub links_give_images : LinksGiveImages
unfolding all_relocated_sections
links_give_images objects layout image good is_layout e =
    let parts = parts_of objects layout image e in
    let placed = placed_in_layout layout objects in
    let entry : image.entry < 2 ^ 32 = global_low (globals_of placed) layout.entry image.entry (globals_low placed) parts.entry in
    let limits = linked_image objects layout placed is_layout (λ k d less. (good k d less).object) parts.early refl image.entry entry in
    let small : HoldOnlyBytes (segments_of layout.places (all_relocated_sections placed)) = segments_small layout.places (all_relocated_sections placed) (contents_small (globals_of placed) layout.places [] objects good) in
    subst (λ (ss : List SegmentData). IsImage (record { entry = image.entry; segments = ss })) (sym parts.segments) (image_of_bytes _ limits small)
