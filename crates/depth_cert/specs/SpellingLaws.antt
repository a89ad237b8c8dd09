-- The law of spellings.
use Rattle.std.specs.Prelude.{◌≡◌, Ok}
use Rattle.depth_cert.specs.Certs.{CertData, IsCert}
use Rattle.depth_cert.specs.Grammar.{certificate_of}
use Rattle.depth_cert.specs.Spelling.{bytes_of_cert}

-- each certificate that keeps the limits is what a reader of its bytes gives
abbrev pub WrittenCertsAreReadBack : Type 0
WrittenCertsAreReadBack = (cert : CertData) → IsCert cert → certificate_of (bytes_of_cert cert) ≡ Ok cert
