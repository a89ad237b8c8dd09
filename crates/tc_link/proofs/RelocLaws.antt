-- Relocations, written one after another.
use Rattle.std.proofs.Common.{◌≡◌, ◌+◌, ◌<◌, ◌≤◌, ◌∷◌, ◌++◌, [], ℕ, zero, suc, List, length, take, get_or, set, map, Option, Some, None, refl, sym, ap, ◌∙◌, subst, arith, append_assoc}
use Rattle.std.specs.Prelude.{slice_get}
use Rattle.std.specs.Option.{option_map, option_map_or}
use Rattle.std.specs.List.{fold, flat_map}
use Rattle.std.proofs.lemmas.Option.{slice_get-map, slice_get-get_or}
use Rattle.std.proofs.lemmas.List.{map-append, append-nil, length-map, take_more}
use Rattle.std.proofs.lemmas.List.Concat.{flat_map-append}
use Rattle.std.proofs.lemmas.List.Sums.{fold_more}
use Rattle.tc_object.specs.declared.relocs.Reloc.{Reloc}
use Rattle.tc_object.specs.Objects.{SectionData, ObjectData, AllInTurn, IsReloc, IsObject, section_size, section_size_at}
use Rattle.tc_link.specs.Layouts.{PlaceData}
use Rattle.tc_link.specs.Placing.{PlacedData, sections_to_link, section_bases_after, placed_after}
use Rattle.tc_link.specs.GlobalSymbols.{GlobalData}
use Rattle.tc_link.specs.Relocated.{section_with_filled_field, section_after_reloc, sections_after_reloc, reloc_field_address, reloc_value, relocated_sections}
use Rattle.tc_link.specs.Refusals.{reloc_error, reloc, reloc_refusal}
use Rattle.tc_reloc.specs.declared.refusals.RelocErr.{RelocErr}
use Rattle.tc_link.specs.Shapes.{SectionShape, section_shape}
use Rattle.tc_link.proofs.ShapeLaws.{filled_shape}
use Rattle.tc_link.proofs.ItemLaws.{same_item}

set_shape : (xs : List SectionData) (n : ℕ) (x y : SectionData) → slice_get xs n ≡ Some x → section_shape y ≡ section_shape x → map section_shape (set xs n y) ≡ map section_shape xs
set_shape [] n x y at e = cc
set_shape (z ∷ zs) zero x y at e = ap (λ (s : SectionShape). s ∷ map section_shape zs) (e ∙ ap section_shape cc)
set_shape (z ∷ zs) (suc n) x y at e = ap (λ (ss : List SectionShape). section_shape z ∷ ss) (set_shape zs n x y at e)

abbrev size_in : Option SectionShape → ℕ
size_in None = 0
size_in (Some s) = s.size

sizes_are : (o : Option SectionData) → section_size o ≡ size_in (option_map section_shape o)
sizes_are None = refl
sizes_are (Some s) = refl

-- sections of the same shapes have the same sizes
pub size_at-shapes : (ss ts : List SectionData) (n : ℕ) → map section_shape ss ≡ map section_shape ts → section_size_at ss n ≡ section_size_at ts n
size_at-shapes ss ts n e =
    sizes_are (slice_get ss n) ∙ ap size_in (sym (slice_get-map section_shape ss n) ∙ ap (λ (l : List SectionShape). slice_get l n) e ∙ slice_get-map section_shape ts n) ∙ sym (sizes_are (slice_get ts n))

-- a single relocation keeps the shapes
pub with_reloc_shapes : (g : List GlobalData) (p : PlacedData) (ss : List SectionData) (r : Reloc) → r.offset + 4 ≤ section_size_at ss r.section → map section_shape (sections_after_reloc g p ss r) ≡ map section_shape ss
with_reloc_shapes g p ss r h = by_section (slice_get ss r.section) refl
  where
    by_section : (o : Option SectionData) → slice_get ss r.section ≡ o → map section_shape (option_map_or (λ x. set ss r.section (section_after_reloc g p r x)) o ss) ≡ map section_shape ss
    by_section None at = refl
    by_section (Some x) at =
        set_shape ss r.section x (section_after_reloc g p r x) at (filled_shape r (reloc_field_address p r) (reloc_value g p r) x (omega (arith, h, ap section_size at)))

relocs_shapes : (g : List GlobalData) (p : PlacedData) (sections ss : List SectionData) (symbols : ℕ) (before rs : List Reloc) → map section_shape ss ≡ map section_shape sections → AllInTurn (IsReloc sections symbols) before rs
    → map section_shape (fold (sections_after_reloc g p) ss rs) ≡ map section_shape sections
relocs_shapes g p sections ss symbols before [] same turn = same
relocs_shapes g p sections ss symbols before (r ∷ rs) same turn =
    let room : r.offset + 4 ≤ section_size_at ss r.section = omega (arith, turn.0.room, size_at-shapes ss sections r.section same) in
    relocs_shapes g p sections (sections_after_reloc g p ss r) symbols (before ++ r ∷ []) rs (with_reloc_shapes g p ss r room ∙ same) turn.1

pub relocated_shapes : (g : List GlobalData) (p : PlacedData) → IsObject p.object → map section_shape (relocated_sections g p) ≡ map section_shape p.object.sections
unfolding relocated_sections
relocated_shapes g p good = relocs_shapes g p p.object.sections p.object.sections (length p.object.symbols) [] p.object.relocs refl good.relocs

-- all sections keep their shapes
pub contents_shapes : (g : List GlobalData) (places : List PlaceData) (before : List SectionData) (objects : List ObjectData) → ((k : ℕ) (d : ObjectData) → k < length objects → IsObject (get_or objects k d))
    → map section_shape (flat_map (relocated_sections g) (placed_after places before objects)) ≡ map section_shape (sections_to_link objects)
unfolding placed_after
contents_shapes g places before [] good = refl
contents_shapes g places before (o ∷ os) good =
    let p : PlacedData = record { object = o; bases = section_bases_after places before o.sections } in
    map-append section_shape (relocated_sections g p) (flat_map (relocated_sections g) (placed_after places (before ++ o.sections) os))
    ∙ ap (λ (l : List SectionShape). l ++ map section_shape (flat_map (relocated_sections g) (placed_after places (before ++ o.sections) os))) (relocated_shapes g p (good 0 o (omega arith)))
    ∙ ap (λ (l : List SectionShape). map section_shape o.sections ++ l) (contents_shapes g places (before ++ o.sections) os (λ k d h. good (suc k) d (omega arith)))
    ∙ sym (map-append section_shape o.sections (sections_to_link os))

-- ---- the relocation at hand
turn_at : {A : Type 0} (good : List A → A → Type 0) (before xs : List A) (i : ℕ) (d : A) → AllInTurn good before xs → i < length xs → good (before ++ take i xs) (get_or xs i d)
turn_at good before [] i d h l = absurd (omega arith)
turn_at good before (x ∷ xs) zero d h l = subst (λ (ys : List _). good ys x) (sym (append-nil before)) h.0
turn_at good before (x ∷ xs) (suc i) d h l = subst (λ (ys : List _). good ys (get_or xs i d)) (append_assoc before (x ∷ []) (take i xs)) (turn_at good (before ++ x ∷ []) xs i d h.1 (omega arith))

pub reloc_at : (o : ObjectData) (i : ℕ) (d : Reloc) → IsObject o → i < length o.relocs → IsReloc o.sections (length o.symbols) (take i o.relocs) (get_or o.relocs i d)
reloc_at o i d good h = turn_at (IsReloc o.sections (length o.symbols)) [] o.relocs i d good.relocs h

pub section_in : (ss sections : List SectionData) (n : ℕ) → map section_shape ss ≡ map section_shape sections → n < length sections → n < length ss
section_in ss sections n same h =
    omega (arith, sym (length-map ss section_shape) ∙ ap (λ (l : List SectionShape). length l) same ∙ length-map sections section_shape)

pub room_in : (ss sections : List SectionData) (n k : ℕ) → map section_shape ss ≡ map section_shape sections → k ≤ section_size_at sections n → k ≤ section_size_at ss n
room_in ss sections n k same h = omega (arith, h, size_at-shapes ss sections n same)

pub size_here : (ss : List SectionData) (n : ℕ) (x : SectionData) → n < length ss → x ≡ get_or ss n x → section_size_at ss n ≡ length x.bytes
size_here ss n x h is = ap section_size (slice_get-get_or ss n x h) ∙ ap (λ (s : SectionData). length s.bytes) (sym is)

pub shapes_in : (r : Reloc) (ss new : List SectionData) (x : SectionData) (place value : ℕ) → r.section < length ss → x ≡ get_or ss r.section x → r.offset + 4 ≤ length x.bytes
    → new ≡ set ss r.section (section_with_filled_field r place value x) → map section_shape new ≡ map section_shape ss
shapes_in r ss new x place value h is room e =
    ap (map section_shape) e ∙ set_shape ss r.section x (section_with_filled_field r place value x) (slice_get-get_or ss r.section x h ∙ ap (λ (s : SectionData). Some s) (sym is)) (filled_shape r place value x room)

-- a further relocation
pub relocs_next : (g : List GlobalData) (p : PlacedData) (sections ss new : List SectionData) (rs : List Reloc) (i : ℕ) (r : Reloc) → i < length rs → r ≡ get_or rs i r
    → ss ≡ fold (sections_after_reloc g p) sections (take i rs) → new ≡ sections_after_reloc g p ss r → new ≡ fold (sections_after_reloc g p) sections (take (i + 1) rs)
relocs_next g p sections ss new rs i r h is s e =
    e
    ∙ ap (λ (l : List SectionData). sections_after_reloc g p l r) s
    ∙ ap (λ (q : Reloc). sections_after_reloc g p (fold (sections_after_reloc g p) sections (take i rs)) q) is
    ∙ sym (fold_more (sections_after_reloc g p) sections rs i r h)

-- whether it is refused
pub refusal_none : (g : List GlobalData) (object : ℕ) (p : PlacedData) (i : ℕ) (r : Reloc) → reloc_error g p r ≡ None → reloc_refusal g object p i r ≡ None
refusal_none g object p i r e = ap (option_map (λ (err : RelocErr). reloc object r.section r.offset err)) e

pub refusal_some : (g : List GlobalData) (object : ℕ) (p : PlacedData) (i : ℕ) (r : Reloc) (err : RelocErr) → reloc_error g p r ≡ Some err → reloc_refusal g object p i r ≡ Some (reloc object r.section r.offset err)
refusal_some g object p i r err e = ap (option_map (λ (x : RelocErr). reloc object r.section r.offset x)) e

-- the sections of one object more
pub contents_next : (g : List GlobalData) (placed : List PlacedData) (i : ℕ) (p : PlacedData) (old more : List SectionData) → i < length placed → p ≡ get_or placed i p
    → old ≡ flat_map (relocated_sections g) (take i placed) → more ≡ relocated_sections g p → old ++ more ≡ flat_map (relocated_sections g) (take (i + 1) placed)
contents_next g placed i p old more h is e m =
    ap (λ (l : List SectionData). old ++ l) m
    ∙ ap (λ (l : List SectionData). l ++ relocated_sections g p) e
    ∙ ap (λ (x : PlacedData). flat_map (relocated_sections g) (take i placed) ++ relocated_sections g x) is
    ∙ ap (λ (l : List SectionData). flat_map (relocated_sections g) (take i placed) ++ l) (sym (append-nil (relocated_sections g (get_or placed i p))))
    ∙ sym (ap (flat_map (relocated_sections g)) (take_more placed i p h) ∙ flat_map-append (relocated_sections g) (take i placed) (get_or placed i p ∷ []))

pub reloc_here : (o : ObjectData) (ds : List Reloc) (i : ℕ) (d : Reloc) → IsObject o → ds ≡ o.relocs → i < length ds → IsReloc o.sections (length o.symbols) (take i o.relocs) (get_or ds i d)
reloc_here o ds i d good e h =
    subst (λ (r : Reloc). IsReloc o.sections (length o.symbols) (take i o.relocs) r) (ap (λ (l : List Reloc). get_or l i d) (sym e)) (reloc_at o i d good (subst (λ (l : List Reloc). i < length l) e h))

-- the section at this number keeps its shape, for every default past the end
pub shapes_at : (r : Reloc) (ss : List SectionData) (y d : SectionData) (place value : ℕ) → r.section < length ss → r.offset + 4 ≤ section_size_at ss r.section → y ≡ section_with_filled_field r place value (get_or ss r.section d)
    → map section_shape (set ss r.section y) ≡ map section_shape ss
shapes_at r ss y d place value h room e =
    let x : SectionData = get_or ss r.section d in
    let is : x ≡ get_or ss r.section x = same_item ss r.section d x h in
    shapes_in r ss (set ss r.section y) x place value h is (omega (arith, room, size_here ss r.section x h is)) (ap (set ss r.section) e)
