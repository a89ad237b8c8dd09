-- Layouts as plain data, and the invariant of layouts.
use Rattle.std.specs.Prelude.{◌≡◌, ◌≤◌, ◌<◌, ◌+◌, ◌%◌, ◌^◌, nat_lt, ℕ, Bool, false, min, max, List, length, Some, find, Option, []}
use Rattle.std.specs.List.{list_any}
use Rattle.std.specs.Str.{bytes_eq}
use Rattle.tc_object.specs.Names.{object_name_of}
use Rattle.tc_object.specs.Objects.{AllInTurn}

-- a place for the sections of one name: its address, and the most bytes that it holds
pub record PlaceData : Type 0 where
  pub section : List ℕ
  pub at : ℕ
  pub most : ℕ

-- the place for sections of this name: at most `most` bytes from the address on
abbrev pub place_data : List ℕ → ℕ → ℕ → PlaceData
place_data section at most = record { section = section; at = at; most = most }

-- a layout: the name of the symbol at which the program begins, and the places of sections
pub record LayoutData : Type 0 where
  pub entry : List ℕ
  pub places : List PlaceData

-- a place of a layout: for sections of a name, at an address that is a multiple of 4, with no byte
-- past 2^32
pub record IsPlace (p : PlaceData) : Type 0 where
  pub name : object_name_of p.section ≡ Some p.section
  pub aligned : p.at % 4 ≡ 0
  pub word : p.at < 2 ^ 32
  pub within : p.at + p.most ≤ 2 ^ 32

-- this many bytes from an address on share a byte with a place
abbrev pub is_overlapping_place : ℕ → ℕ → PlaceData → Bool
is_overlapping_place at most q = nat_lt (max at q.at) (min (at + most) (q.at + q.most))

-- two places share a byte, which no layout allows
abbrev pub are_overlapping_places : PlaceData → PlaceData → Bool
are_overlapping_places p q = is_overlapping_place p.at p.most q

-- one of these places is for sections of this name; a layout has at most one
abbrev pub has_place_for : List PlaceData → List ℕ → Bool
has_place_for ps name = list_any (λ p. bytes_eq name p.section) ps

-- a place for other sections than the earlier places, without a byte of theirs
pub record IsPlaceAfter (before : List PlaceData) (p : PlaceData) : Type 0 where
  pub place : IsPlace p
  pub new : has_place_for before p.section ≡ false
  pub apart : list_any (are_overlapping_places p) before ≡ false

-- a layout: an entry's name, and at most 64 places for different sections, which share no byte
pub record IsLayout (l : LayoutData) : Type 0 where
  pub entry : object_name_of l.entry ≡ Some l.entry
  pub few : length l.places ≤ 64
  pub places : AllInTurn IsPlaceAfter [] l.places

-- a layout's place for the sections of this name, if there is one
abbrev pub place_of : List PlaceData → List ℕ → Option PlaceData
place_of places name = find (λ p. bytes_eq name p.section) places
