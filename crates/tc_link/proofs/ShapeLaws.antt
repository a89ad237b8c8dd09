-- Sections keep their names and lengths when relocations are written, and so their rooms.
use Rattle.std.proofs.Common.{◌≡◌, ◌+◌, ◌-◌, ◌≤◌, ◌∷◌, ◌++◌, [], ℕ, Bool, true, false, cond, List, length, take, drop, replicate, map, refl, sym, ap, ◌∙◌, arith, length-append, length-drop}
use Rattle.std.specs.List.{fold}
use Rattle.std.specs.Str.{bytes_eq}
use Rattle.std.proofs.lemmas.List.{length-take-le, length-replicate}
use Rattle.tc_object.specs.declared.relocs.Reloc.{Reloc}
use Rattle.tc_object.specs.Objects.{SectionData}
use Rattle.tc_link.specs.PlaceSizes.{next_multiple_of_4, used_size_with_section, used_place_size}
use Rattle.tc_link.specs.Shapes.{SectionShape, section_shape}
use Rattle.tc_link.specs.Relocated.{section_bytes_with_field, section_with_filled_field}
use Rattle.tc_link.specs.Segments.{with_segment_padding, with_section_of_name, joined_sections}

-- ---- lengths of joined sections
pub padded_length : (bytes : List ℕ) → length (with_segment_padding bytes) ≡ next_multiple_of_4 (length bytes)
padded_length bytes = omega (arith, length-append bytes (replicate (next_multiple_of_4 (length bytes) - length bytes) 0), length-replicate {A = ℕ} (next_multiple_of_4 (length bytes) - length bytes) 0)

section_length : (name bytes : List ℕ) (s : SectionData) → length (with_section_of_name name bytes s) ≡ used_size_with_section name (length bytes) s
section_length name bytes s = by_name (bytes_eq name s.name)
  where
    by_name : (b : Bool) → length (cond b (with_segment_padding bytes ++ s.bytes) bytes) ≡ cond b (next_multiple_of_4 (length bytes) + length s.bytes) (length bytes)
    by_name true = length-append (with_segment_padding bytes) s.bytes ∙ ap (λ n. n + length s.bytes) (padded_length bytes)
    by_name false = refl

joined_from : (name : List ℕ) (ss : List SectionData) (bytes : List ℕ) → length (fold (with_section_of_name name) bytes ss) ≡ fold (used_size_with_section name) (length bytes) ss
joined_from name [] bytes = refl
joined_from name (s ∷ ss) bytes = joined_from name ss (with_section_of_name name bytes s) ∙ ap (λ n. fold (used_size_with_section name) n ss) (section_length name bytes s)

pub length-joined : (name : List ℕ) (ss : List SectionData) → length (joined_sections name ss) ≡ used_place_size name ss
unfolding joined_sections used_place_size
length-joined name ss = joined_from name ss []

-- ---- shapes
abbrev with_shape : List ℕ → ℕ → SectionShape → ℕ
with_shape name n s = cond (bytes_eq name s.name) (next_multiple_of_4 n + s.size) n

taken_from : (name : List ℕ) (n : ℕ) (ss : List SectionData) → fold (used_size_with_section name) n ss ≡ fold (with_shape name) n (map section_shape ss)
taken_from name n [] = refl
taken_from name n (s ∷ ss) = taken_from name (used_size_with_section name n s) ss

-- sections of the same shapes take as much
pub taken-shapes : (name : List ℕ) (ss ts : List SectionData) → map section_shape ss ≡ map section_shape ts → used_place_size name ss ≡ used_place_size name ts
unfolding used_place_size
taken-shapes name ss ts e = taken_from name 0 ss ∙ ap (fold (with_shape name) 0) e ∙ sym (taken_from name 0 ts)

-- ---- fields
field_length : (bytes : List ℕ) (at a b c d : ℕ) → at + 4 ≤ length bytes → length (section_bytes_with_field bytes at (a ∷ b ∷ c ∷ d ∷ [])) ≡ length bytes
field_length bytes at a b c d h =
    let front : length (take at bytes) ≡ at = length-take-le at bytes (omega arith) in
    omega (arith, front, length-append (take at bytes) ((a ∷ b ∷ c ∷ d ∷ []) ++ drop (at + 4) bytes), length-drop (at + 4) bytes)

pub filled_shape : (r : Reloc) (place value : ℕ) (s : SectionData) → r.offset + 4 ≤ length s.bytes → section_shape (section_with_filled_field r place value s) ≡ section_shape s
filled_shape r place value s h = ap (λ n. record { name = s.name; size = n }) (field_length s.bytes r.offset _ _ _ _ h)
