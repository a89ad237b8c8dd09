-- What is known of a word of code.
use Rattle.std.specs.Prelude.{◌≡◌, ℕ, Option}
use Rattle.cfg_recover.specs.declared.local_rules.Located.{Located}
use Rattle.tc_encode.specs.Decoding.{decoded_of}
use Rattle.tcd_base.specs.Bytes.{bytes_of_word}
use Rattle.cfg_recover.specs.Code.{shape_and_size_of}

-- the shape and size of the instruction that a word's bytes begin with, if they decode
abbrev pub shape_and_size_of_word : ℕ → Option Located
shape_and_size_of_word w = shape_and_size_of (decoded_of (bytes_of_word w))

-- `found` has the shape and size of the instruction that the word's bytes begin with, if any
abbrev pub IsDecodedWord : ℕ → Option Located → Type 0
IsDecodedWord w found = found ≡ shape_and_size_of_word w
