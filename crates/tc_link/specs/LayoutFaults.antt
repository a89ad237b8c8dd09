-- The first fault of a layout, and the layout of a text without one.
use Rattle.std.specs.Prelude.{◌≡◌, ◌+◌, nat_lt, nat_le, if◌then◌else◌, ℕ, List, ◌∷◌, ◌++◌, length, Option, Some, None, Result, Err, []}
use Rattle.std.specs.Bool.{then_some}
use Rattle.std.specs.Option.{option_or}
use Rattle.std.specs.List.{list_any}
use Rattle.tc_link.specs.Layouts.{PlaceData, LayoutData, are_overlapping_places, has_place_for}
use Rattle.tcd_base.specs.Refusing.{unless_refused}
use Rattle.tcd_text.specs.Lines.{text_lines}
use Rattle.tc_link.specs.LayoutLines.{LayoutLineData, blank, entry, place, layout_line_contents, entries_in_lines, places_in_lines}
use Rattle.tc_link.specs.declared.layout_errors.LayoutErr.{LayoutErr}
use Rattle.tc_link.specs.declared.layout_errors.LayoutErr.TheVariants.{BadLine, Twice, TooMany, Overlap, NoMemory}
use Rattle.tc_link.specs.LayoutDrafts.{finished_layout}

-- the fault of line n with these contents, after lines with these entries and places
abbrev pub layout_line_fault : ℕ → List (List ℕ) → List PlaceData → Option LayoutLineData → Option LayoutErr
layout_line_fault n entries places None = Some (BadLine n)
layout_line_fault n entries places (Some blank) = None
layout_line_fault n entries places (Some (entry name)) = then_some (nat_lt 0 (length entries)) (Twice n)
layout_line_fault n entries places (Some (place p)) =
    if has_place_for places p.section then Some (Twice n)
    else if nat_le 64 (length places) then Some (TooMany n)
    else then_some (list_any (are_overlapping_places p) places) (Overlap n)

-- the fault of a line after these lines, if it has one
abbrev pub layout_fault_after : List (List ℕ) → List ℕ → Option LayoutErr
layout_fault_after before line = layout_line_fault (length before + 1) (entries_in_lines before) (places_in_lines before) (layout_line_contents line)

-- the fault of the first line that has one, after these lines
unfoldable pub first_layout_fault : List (List ℕ) → List (List ℕ) → Option LayoutErr
first_layout_fault before [] = None
first_layout_fault before (line ∷ lines) = option_or (layout_fault_after before line) (first_layout_fault (before ++ line ∷ []) lines)

-- the fault of the first of a layout's lines that has one, or else the layout that the lines spell.
-- If no line is an entry, that is a fault at the line after the last
abbrev pub layout_of_lines : List (List ℕ) → Result LayoutData LayoutErr
layout_of_lines lines = unless_refused (first_layout_fault [] lines) (finished_layout (length lines) (entries_in_lines lines) (places_in_lines lines))

-- the first fault of a layout's text, or else the layout that the text spells. If no line is an
-- entry, that is a fault at the line after the last
abbrev pub layout_of : List ℕ → Result LayoutData LayoutErr
layout_of text = layout_of_lines (text_lines text)

-- the error is this fault; out of memory says nothing of the text
abbrev pub IsLayoutFault : Option LayoutErr → LayoutErr → Type 0
IsLayoutFault fault (BadLine n) = fault ≡ Some (BadLine n)
IsLayoutFault fault (Twice n) = fault ≡ Some (Twice n)
IsLayoutFault fault (TooMany n) = fault ≡ Some (TooMany n)
IsLayoutFault fault (Overlap n) = fault ≡ Some (Overlap n)
IsLayoutFault fault NoMemory = Unit {0}

-- the error is the fault in this answer; out of memory says nothing of the text
abbrev pub IsLayoutFaultOf : Result LayoutData LayoutErr → LayoutErr → Type 0
IsLayoutFaultOf answer (BadLine n) = answer ≡ Err (BadLine n)
IsLayoutFaultOf answer (Twice n) = answer ≡ Err (Twice n)
IsLayoutFaultOf answer (TooMany n) = answer ≡ Err (TooMany n)
IsLayoutFaultOf answer (Overlap n) = answer ≡ Err (Overlap n)
IsLayoutFaultOf answer NoMemory = Unit {0}
