-- What an error says about a reading.
use Rattle.std.specs.Prelude.{◌≡◌, Result, Err}
use Rattle.tcd_base.specs.declared.errors.FormErr.{FormErr}
use Rattle.depth_cert.specs.declared.errors.CertErr.{CertErr}
use Rattle.depth_cert.specs.declared.errors.CertErr.TheVariants.{Bad, NoMemory}

-- the error is the fault of the reading; out of memory says nothing about it
abbrev pub IsFaultOf : {A : Type 0} → Result A FormErr → CertErr → Type 0
IsFaultOf read (Bad e) = read ≡ Err e
IsFaultOf read NoMemory = Unit {0}
