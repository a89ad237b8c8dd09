-- A cache of decoded words of code.
use Rattle.std.specs.Prelude.{◌≡◌, ℕ, List, Result, IfSome, IfOk, slice_index_or}
use Rattle.tcd_base.specs.Bytes.{bytes_of_word}
use Rattle.tc_isa.specs.InBounds.{IsShapeInBounds}
use Rattle.tc_isa.specs.declared.shapes.Shape.{Shape}
use Rattle.tc_machine.specs.declared.events.Cause.{Cause}
use Rattle.tc_encode.specs.Decoding.{decoded_of}
use Rattle.tc_machine.specs.Fetching.{fetched_shape}
use Rattle.tc_script.specs.declared.known_words.KnownWord.{KnownWord}

-- in the cache of known words that a script's run keeps: this is what these bytes do, and the
-- shape's registers and numbers are within their bounds
abbrev pub IsDecodedShapeOf : Result (Shape × ℕ) Cause → List ℕ → Type 0
IsDecodedShapeOf found bytes = (found ≡ fetched_shape (decoded_of bytes)) × IfOk found (λ it. IsShapeInBounds it.0)

-- an entry of the cache of decoded words is correct: if it has a word, it says what the word's four
-- bytes do
abbrev pub IsCorrectCacheEntry : KnownWord → Type 0
IsCorrectCacheEntry k = IfSome k.word (λ w. IsDecodedShapeOf k.found (bytes_of_word w))

-- entry `place` of the cache of decoded words says what these bytes do
abbrev pub HasDecodedShapeAt : List KnownWord → ℕ → List ℕ → Type 0
HasDecodedShapeAt words place bytes = (behind : KnownWord) → IsDecodedShapeOf (slice_index_or words place behind).found bytes
