-- Views of a layout that isn't read to its end, for contracts.
use Rattle.std.specs.Prelude.{◌≡◌, ◌≤◌, ◌++◌, ℕ, List, length, All, Option, Some, ◌+◌, ◌∷◌, Result, Ok, Err, []}
use Rattle.std.specs.Option.{option_and_then, option_to_list}
use Rattle.tc_object.specs.Names.{object_name_of}
use Rattle.tc_object.specs.Objects.{AllInTurn}
use Rattle.tc_link.specs.Layouts.{PlaceData, IsPlaceAfter, LayoutData}
use Rattle.tc_link.specs.LayoutLines.{LayoutLineData, entry_in_line, place_in_line}
use Rattle.tc_link.specs.declared.layout_errors.LayoutErr.{LayoutErr}
use Rattle.tc_link.specs.declared.layout_errors.LayoutErr.TheVariants.{BadLine}

-- the draft of a layout: the entries and places of the lines so far
pub record LayoutDraftData : Type 0 where
  pub entries : List (List ℕ)
  pub places : List PlaceData

-- names of entries, and at most 64 places, each valid after the earlier ones
pub record IsLayoutDraft (d : LayoutDraftData) : Type 0 where
  pub entries : All (λ n. object_name_of n ≡ Some n) d.entries
  pub few : length d.places ≤ 64
  pub places : AllInTurn IsPlaceAfter [] d.places

-- the draft of a layout after a further line: the line's entry or place is added
abbrev pub draft_with_line : LayoutDraftData → Option LayoutLineData → LayoutDraftData
draft_with_line d line = record {
  entries = d.entries ++ option_to_list (option_and_then entry_in_line line);
  places = d.places ++ option_to_list (option_and_then place_in_line line);
}

-- the layout that a draft of n lines gives, with the first of these entries; without an entry, a
-- fault at line n + 1
abbrev pub finished_layout : ℕ → List (List ℕ) → List PlaceData → Result LayoutData LayoutErr
finished_layout n [] places = Err (BadLine (n + 1))
finished_layout n (name ∷ names) places = Ok (record { entry = name; places = places })
