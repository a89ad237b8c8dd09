-- The result of linking, from the results of its steps.
use Rattle.std.proofs.Common.{◌≡◌, ◌<◌, ◌^◌, [], ℕ, List, length, get_or, map, Option, Some, None, Result, Ok, Err, sym, ap, ◌∙◌}
use Rattle.std.specs.Prelude.{IfSome}
use Rattle.std.specs.Option.{option_or}
use Rattle.elf_image.specs.Images.{ImageData}
use Rattle.tc_object.specs.Objects.{ObjectData, IsObject}
use Rattle.tc_link.specs.Layouts.{LayoutData, IsLayout}
use Rattle.tc_link.specs.Placing.{PlacedData, sections_to_link, placed_after, placed_in_layout}
use Rattle.tc_link.specs.GlobalSymbols.{globals_of, first_global_address}
use Rattle.tc_link.specs.Segments.{segments_of}
use Rattle.tcd_base.specs.Refusing.{unless_refused}
use Rattle.tc_link.specs.Linked.{image_with_entry, image_of_placed, image_or_reloc_refusal, image_of_objects}
use Rattle.tc_link.specs.Refusals.{refusal_before_relocs, Refusal, no_entry, first_duplicate_symbol_refusal, first_missing_symbol_refusal, first_no_place_refusal, first_no_room_refusal, first_reloc_refusal}
use Rattle.tc_link.specs.Relocated.{all_relocated_sections}
use Rattle.tc_link.specs.Shapes.{section_shape}
use Rattle.tc_link.proofs.FirstLaws.{none_first}
use Rattle.tc_link.proofs.RoomLaws.{room_end, room_start}
use Rattle.tc_link.proofs.RelocLaws.{contents_shapes}
use Rattle.tc_link.proofs.ImageLaws.{KeepsLimits, image_is}

-- ---- before relocations are written
or_next : {A : Type 0} (a b c : Option A) → a ≡ None → b ≡ c → option_or a b ≡ c
or_next {A} a b c e f = ap (λ (o : Option A). option_or o b) e ∙ f

some_first : {A : Type 0} (a b : Option A) (x : A) → a ≡ Some x → option_or a b ≡ Some x
some_first {A} a b x e = ap (λ (o : Option A). option_or o b) e

pub early_none : (objects : List ObjectData) (layout : LayoutData) → first_duplicate_symbol_refusal objects ≡ None → first_missing_symbol_refusal objects ≡ None → first_no_place_refusal layout.places objects ≡ None → first_no_room_refusal layout.places [] (sections_to_link objects) ≡ None → refusal_before_relocs layout objects ≡ None
early_none objects layout a b c d = or_next _ _ _ a (or_next _ _ _ b (or_next _ _ _ c d))

-- an error with a refusal
told : {A : Type 0} (o : Option Refusal) (x : Option Refusal) (f : Refusal → A) (all : A) → ((r : Refusal) → o ≡ Some r → all ≡ f r) → IfSome x (λ r. o ≡ Some r) → IfSome x (λ r. all ≡ f r)
told o None f all g h = tt
told o (Some r) f all g h = g r h

pub told_first : (a b x : Option Refusal) → IfSome x (λ r. a ≡ Some r) → IfSome x (λ r. option_or a b ≡ Some r)
told_first a b x h = told {A = Option Refusal} a x (λ r. Some r) (option_or a b) (λ r e. some_first a b r e) h

pub told_next : (a b x : Option Refusal) → a ≡ None → IfSome x (λ r. b ≡ Some r) → IfSome x (λ r. option_or a b ≡ Some r)
told_next a b x e h = told {A = Option Refusal} b x (λ r. Some r) (option_or a b) (λ r f. or_next a b (Some r) e f) h

-- nothing is refused before relocations are written, and these are the placed objects
pub record ArePlaced (objects : List ObjectData) (layout : LayoutData) (placed : List PlacedData) : Type 0 where
  pub none : refusal_before_relocs layout objects ≡ None
  pub same : placed ≡ placed_in_layout layout objects

pub are_placed : (objects : List ObjectData) (layout : LayoutData) (placed : List PlacedData) → first_duplicate_symbol_refusal objects ≡ None → first_missing_symbol_refusal objects ≡ None → first_no_place_refusal layout.places objects ≡ None
    → first_no_room_refusal layout.places [] (sections_to_link objects) ≡ None → placed ≡ placed_after layout.places [] objects → ArePlaced objects layout placed
are_placed objects layout placed a b c d p = record { none = early_none objects layout a b c d; same = p }

-- ---- the image of placed objects
pub made_reloc : (layout : LayoutData) (placed : List PlacedData) (x : Option Refusal) → IfSome x (λ r. first_reloc_refusal (globals_of placed) placed ≡ Some r) → IfSome x (λ r. image_or_reloc_refusal layout placed ≡ Err r)
made_reloc layout placed x h =
    told {A = Result ImageData Refusal} (first_reloc_refusal (globals_of placed) placed) x (λ r. Err r) (image_or_reloc_refusal layout placed) (λ r e. ap (λ (o : Option Refusal). unless_refused o (image_of_placed layout placed)) e) h

made_as : (layout : LayoutData) (placed : List PlacedData) (entry : Option ℕ) → first_reloc_refusal (globals_of placed) placed ≡ None → first_global_address (globals_of placed) layout.entry ≡ entry → image_or_reloc_refusal layout placed ≡ image_with_entry entry layout.places placed
made_as layout placed entry e a =
    ap (λ (o : Option Refusal). unless_refused o (image_of_placed layout placed)) e
    ∙ ap (λ (o : Option ℕ). image_with_entry o layout.places placed) a

pub made_no_entry : (layout : LayoutData) (placed : List PlacedData) → first_reloc_refusal (globals_of placed) placed ≡ None → first_global_address (globals_of placed) layout.entry ≡ None → image_or_reloc_refusal layout placed ≡ Err no_entry
made_no_entry layout placed e a = made_as layout placed None e a

pub made_ok : (layout : LayoutData) (placed : List PlacedData) (entry : ℕ) → first_reloc_refusal (globals_of placed) placed ≡ None → first_global_address (globals_of placed) layout.entry ≡ Some entry
    → image_or_reloc_refusal layout placed ≡ Ok (record { entry = entry; segments = segments_of layout.places (all_relocated_sections placed) })
made_ok layout placed entry e a = made_as layout placed (Some entry) e a

-- ---- all of it
linked_early : (objects : List ObjectData) (layout : LayoutData) (r : Refusal) → refusal_before_relocs layout objects ≡ Some r → image_of_objects objects layout ≡ Err r
unfolding image_of_objects
linked_early objects layout r e = ap (λ (o : Option Refusal). unless_refused o (image_or_reloc_refusal layout (placed_in_layout layout objects))) e

pub linked_told : (objects : List ObjectData) (layout : LayoutData) (x : Option Refusal) → IfSome x (λ r. refusal_before_relocs layout objects ≡ Some r) → IfSome x (λ r. image_of_objects objects layout ≡ Err r)
linked_told objects layout x h = told {A = Result ImageData Refusal} (refusal_before_relocs layout objects) x (λ r. Err r) (image_of_objects objects layout) (linked_early objects layout) h

pub linked_made : (objects : List ObjectData) (layout : LayoutData) (placed : List PlacedData) → refusal_before_relocs layout objects ≡ None → placed ≡ placed_in_layout layout objects → image_or_reloc_refusal layout placed ≡ image_of_objects objects layout
unfolding image_of_objects
linked_made objects layout placed e p = ap (image_or_reloc_refusal layout) p ∙ sym (ap (λ (o : Option Refusal). unless_refused o (image_or_reloc_refusal layout (placed_in_layout layout objects))) e)

none_room : (objects : List ObjectData) (layout : LayoutData) → refusal_before_relocs layout objects ≡ None → first_no_room_refusal layout.places [] (sections_to_link objects) ≡ None
none_room objects layout e = (none_first (first_no_place_refusal layout.places objects) _ (none_first (first_missing_symbol_refusal objects) _ (none_first (first_duplicate_symbol_refusal objects) _ e).1).1).1

-- the image keeps its limits
pub linked_image : (objects : List ObjectData) (layout : LayoutData) (placed : List PlacedData) → IsLayout layout → ((k : ℕ) (d : ObjectData) → k < length objects → IsObject (get_or objects k d))
    → refusal_before_relocs layout objects ≡ None → placed ≡ placed_in_layout layout objects → (entry : ℕ) → entry < 2 ^ 32 → KeepsLimits (record { entry = entry; segments = segments_of layout.places (all_relocated_sections placed) })
unfolding all_relocated_sections
linked_image objects layout placed good all none p entry small =
    image_is layout (all_relocated_sections placed) (sections_to_link objects) entry good
    (ap (λ (ps : List PlacedData). map section_shape (all_relocated_sections ps)) p ∙ contents_shapes (globals_of (placed_in_layout layout objects)) layout.places [] objects all)
    (room_end layout.places [] (sections_to_link objects) (room_start layout.places) (none_room objects layout none))
    small
