-- The four bytes after a relocation.
use Rattle.std.specs.Prelude.{ℕ, List, Result, Ok}
use Rattle.tcd_base.specs.Refusing.{unless_refused}
use Rattle.tc_reloc.specs.declared.refusals.RelocErr.{RelocErr}
use Rattle.tc_reloc.specs.Refusals.{reloc_value_refusal}
use Rattle.tc_reloc.specs.Fields.{reloc_field_number, with_reloc_field}

-- the four bytes with the value written into the field of a relocation, or the first refusal
abbrev pub filled_reloc_field : ℕ → List ℕ → ℕ → ℕ → Result (List ℕ) RelocErr
filled_reloc_field kind field place value = unless_refused (reloc_value_refusal kind place value) (Ok (with_reloc_field kind field (reloc_field_number kind place value)))
