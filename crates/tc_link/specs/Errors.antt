-- The refusals of the linker, as errors of the code.
use Rattle.std.specs.Prelude.{◌≡◌, ℕ, List, Option, Some, None, Result, Err, string_bytes, IfSome}
use Rattle.tc_link.specs.declared.errors.LinkErr.{LinkErr}
use Rattle.tc_link.specs.declared.errors.LinkErr.TheVariants.{Twice, Missing, NoPlace, NoRoom, Reloc, NoEntry, NoMemory}
use Rattle.tc_link.specs.Refusals.{Refusal, twice, missing, no_place, no_room, reloc, no_entry, first_reloc_refusal_in}
use Rattle.tc_link.specs.Placing.{PlacedData}
use Rattle.tc_link.specs.GlobalSymbols.{GlobalData}
use Rattle.tc_link.specs.Relocated.{symbol_addresses}

-- the refusal in an error; None for out of memory
abbrev pub refusal_of : LinkErr → Option Refusal
refusal_of (Twice name) = Some (twice (string_bytes name))
refusal_of (Missing name) = Some (missing (string_bytes name))
refusal_of (NoPlace name) = Some (no_place (string_bytes name))
refusal_of (NoRoom name) = Some (no_room (string_bytes name))
refusal_of (Reloc object section offset err) = Some (reloc object section offset err)
refusal_of NoEntry = Some no_entry
refusal_of NoMemory = None

-- the error is this refusal; out of memory says nothing of the objects
abbrev pub IsRefusal : Option Refusal → LinkErr → Type 0
IsRefusal r e = IfSome (refusal_of e) (λ x. r ≡ Some x)

-- the error is the refusal in this answer; out of memory says nothing of the objects
abbrev pub IsRefusalOf : {A : Type 0} → Result A Refusal → LinkErr → Type 0
IsRefusalOf answer e = IfSome (refusal_of e) (λ r. answer ≡ Err r)

-- if these are the addresses of its symbols, the error is that of the first refused relocation of
-- the object with this number
abbrev pub IsRelocErrorOf : List ℕ → ℕ → PlacedData → LinkErr → Type 0
IsRelocErrorOf addresses number p e = (all : List GlobalData) → addresses ≡ symbol_addresses all p → IsRefusal (first_reloc_refusal_in all number p) e
