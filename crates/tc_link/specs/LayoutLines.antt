-- The lines of a layout.
use Rattle.std.specs.Prelude.{◌+◌, ◌%◌, ◌^◌, ◌==◌, ◌&&◌, nat_le, if◌then◌else◌, ℕ, List, ◌∷◌, length, codes, Option, Some, None, filter_map, ◌≡◌, []}
use Rattle.std.specs.Bool.{then_some}
use Rattle.std.specs.Option.{option_map, option_and_then}
use Rattle.std.specs.Str.{bytes_eq}
use Rattle.tcd_text.specs.HexNumbers.{hex_number_of}
use Rattle.tcd_text.specs.Lines.{line_words}
use Rattle.tc_object.specs.Names.{object_name_of}
use Rattle.tc_link.specs.Layouts.{PlaceData, IsPlace}
use Rattle.tc_link.specs.declared.lines.Line.{Line}
use Rattle.tc_link.specs.declared.lines.Line.TheVariants.{Blank, Entry, Region}

-- the contents of a line: nothing, the entry, or a place
pub data LayoutLineData : Type 0 where
  blank : LayoutLineData
  entry : List ℕ → LayoutLineData
  place : PlaceData → LayoutLineData

-- the place of these three words of a layout's line, each None if malformed. None if the address is
-- no multiple of 4, or the place passes 2^32
abbrev pub place_of_words : Option (List ℕ) → Option ℕ → Option ℕ → Option LayoutLineData
place_of_words (Some section) (Some at) (Some most) = then_some (at % 4 == 0 && nat_le (at + most) (2 ^ 32)) (place (record { section = section; at = at; most = most }))
place_of_words (Some section) (Some at) None = None
place_of_words (Some section) None most = None
place_of_words None at most = None

-- the line of these words: none, `entry NAME`, or `place SECTION AT MOST`
abbrev pub layout_line_of_words : List (List ℕ) → Option LayoutLineData
layout_line_of_words (word ∷ []) = then_some (length word == 0) blank
layout_line_of_words (word ∷ name ∷ []) = if bytes_eq word (codes "entry") then option_map entry (object_name_of name) else None
layout_line_of_words (word ∷ section ∷ at ∷ most ∷ []) = if bytes_eq word (codes "place") then place_of_words (object_name_of section) (hex_number_of at) (hex_number_of most) else None
layout_line_of_words _ = None

-- the contents of a line, with one space between two words; None for a line in none of these forms
unfoldable pub layout_line_contents : List ℕ → Option LayoutLineData
layout_line_contents line = layout_line_of_words (line_words line)

-- the name in a layout's line, if the line is an entry
abbrev pub entry_in_line : LayoutLineData → Option (List ℕ)
entry_in_line blank = None
entry_in_line (entry name) = Some name
entry_in_line (place p) = None

-- the place in a layout's line, if the line is one
abbrev pub place_in_line : LayoutLineData → Option PlaceData
place_in_line blank = None
place_in_line (entry name) = None
place_in_line (place p) = Some p

-- the names of entries in these lines, in order
unfoldable pub entries_in_lines : List (List ℕ) → List (List ℕ)
entries_in_lines lines = filter_map (λ l. option_and_then entry_in_line (layout_line_contents l)) lines

-- the places in these lines, in order
unfoldable pub places_in_lines : List (List ℕ) → List PlaceData
places_in_lines lines = filter_map (λ l. option_and_then place_in_line (layout_line_contents l)) lines

-- of a layout's line: the name of an entry is that of a symbol, and a place is valid; an empty line
-- always is
abbrev pub IsValidLayoutLine : LayoutLineData → Type 0
IsValidLayoutLine blank = Unit {0}
IsValidLayoutLine (entry name) = object_name_of name ≡ Some name
IsValidLayoutLine (place p) = IsPlace p

-- the plain data of a line of a layout
abbrev pub layout_line_data : Line → LayoutLineData
layout_line_data Blank = blank
layout_line_data (Entry name) = entry name.now
layout_line_data (Region section at most) = place (record { section = section.now; at = at; most = most })
