use Rattle.std.proofs.Common.{◌≡◌, ◌++◌, drop, map}
use Rattle.std.specs.Prelude.{string_bytes}
use Rattle.tc_disasm.specs.Listing.{listing_sections_from}
use Rattle.tc_disasm.specs.LentSegments.{borrowed_segment_data}
use Rattle.tc_disasm.proofs.images.append_sections.Given as goal

-- the sections so far, and those that are left, are all
abbrev pub invariant-loop-i : goal.invariant-loop-i
invariant-loop-i l = string_bytes l.text ++ listing_sections_from l.i (drop l.i (map borrowed_segment_data l.segments)) ≡ string_bytes l.initial.text ++ listing_sections_from 0 (map borrowed_segment_data l.segments)
