-- How long what is decoded is.
use Rattle.std.proofs.Common.{◌≡◌, ℕ, ◌≤◌, List, Result, Ok, Err, sym}
use Rattle.std.specs.Prelude.{IfOk}
use Rattle.tc_isa.specs.Insts.{InstData}
use Rattle.tc_encode.specs.Decoding.{decoded_of}
use Rattle.tc_encode.specs.declared.errors.DecodeErr.{DecodeErr}
use Rattle.tc_encode.proofs.DecodeProofs.{decode_laws}

-- what is decoded has at most four bytes
pub decoded_small : (xs : List ℕ) (r : Result (InstData × ℕ) DecodeErr) → r ≡ decoded_of xs → IfOk r (λ found. found.1 ≤ 4)
decoded_small xs (Ok found) is = (decode_laws.lengths xs found.0 found.1 (sym is)).1
decoded_small xs (Err e) is = tt
