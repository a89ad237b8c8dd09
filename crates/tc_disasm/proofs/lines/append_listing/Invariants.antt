use Rattle.std.proofs.Common.{◌≡◌, ◌≤◌, ◌+◌, ◌-◌, ◌++◌, drop, length}
use Rattle.std.specs.Prelude.{string_bytes, List, ℕ}
use Rattle.tc_disasm.specs.Listing.{listing_lines_from}
use Rattle.tc_disasm.proofs.lines.append_listing.Given as goal

-- the lines so far, and those that are left, are all
pub record Lists (address at : ℕ) (bytes start text : List ℕ) : Type 0 where
  pub within : at ≤ length bytes
  pub all : text ++ listing_lines_from (address + at) (drop at bytes) 0 ≡ start ++ listing_lines_from address bytes 0

abbrev pub invariant-lines : goal.invariant-lines
invariant-lines l = Lists l.address l.at l.bytes (string_bytes l.initial.text) (string_bytes l.text)

abbrev pub decreases-lines : goal.decreases-lines
decreases-lines l = length l.initial.bytes - l.at
