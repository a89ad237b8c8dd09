-- The instruction at pc, and the bytes that loads and stores reach.
use Rattle.std.specs.Prelude.{ℕ, zero, suc, ◌+◌, ◌%◌, ◌^◌, ◌==◌, if◌then◌else◌, List, ◌∷◌, Option, Some, None, Result, Ok, Err, []}
use Rattle.std.specs.FinMap as map
use Rattle.csa_chain.specs.MemoryBytes.{Memory}
use Rattle.tc_isa.specs.Insts.{InstData}
use Rattle.tc_isa.specs.Meanings.{shape_of}
use Rattle.tc_isa.specs.declared.shapes.Shape.{Shape}
use Rattle.tc_encode.specs.Decoding.{decoded_of}
use Rattle.tc_encode.specs.declared.errors.DecodeErr.{DecodeErr}
use Rattle.tc_encode.specs.declared.errors.DecodeErr.TheVariants.{Short}
use Rattle.tc_machine.specs.declared.events.Cause.{Cause}
use Rattle.tc_machine.specs.declared.events.Cause.TheVariants.{NotListed, NoCode}
use Rattle.tc_machine.specs.declared.state.Machine.{Machine}

-- a fetched byte, put before the bytes after it; no bytes at all if it isn't mapped
abbrev pub prepend_mapped_byte : Option ℕ → List ℕ → List ℕ
prepend_mapped_byte None bytes = []
prepend_mapped_byte (Some b) bytes = b ∷ bytes

-- the mapped bytes from x on, at most n, up to the first that isn't mapped
unfoldable pub mapped_bytes : ℕ → Memory → ℕ → List ℕ
mapped_bytes zero m x = []
mapped_bytes (suc n) m x = prepend_mapped_byte (map.get m x) (mapped_bytes n m ((x + 1) % 2 ^ 32))

-- why a machine dies if the bytes at pc don't decode: no code if they are only the beginning of an
-- instruction, else not listed
abbrev pub fetch_failure_cause : DecodeErr → Cause
fetch_failure_cause Short = NoCode
fetch_failure_cause _ = NotListed

-- what a decoded instruction does, and its length in bytes; if none was decoded, why the machine
-- dies
abbrev pub fetched_shape : Result (InstData × ℕ) DecodeErr → Result (Shape × ℕ) Cause
fetched_shape (Ok found) = Ok (shape_of found.0, found.1)
fetched_shape (Err e) = Err (fetch_failure_cause e)

-- what the bytes at pc do, at an odd pc too, and the length of the instruction in bytes; or why the
-- machine dies if they don't decode
abbrev pub shape_at_pc : Machine → Result (Shape × ℕ) Cause
shape_at_pc m = fetched_shape (decoded_of (mapped_bytes 4 m.mem m.pc))

-- the instruction at pc, decoded from at most four mapped bytes; there is none at an odd address
unfoldable pub fetched_instruction : Machine → Result (Shape × ℕ) Cause
fetched_instruction m = if m.pc % 2 == 0 then fetched_shape (decoded_of (mapped_bytes 4 m.mem m.pc)) else Err NoCode

-- the length in bytes of the instruction that was fetched; 0 if there is none
abbrev pub fetched_size : Result (Shape × ℕ) Cause → ℕ
fetched_size (Ok found) = found.1
fetched_size (Err cause) = 0
