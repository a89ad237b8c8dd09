-- The laws of spelling, and of decoding, for all bytes.
use Rattle.std.specs.Prelude.{◌≡◌, ◌≤◌, ◌⊎◌, ◌↔◌, ℕ, List, [], ◌++◌, length, take, Ok, Err}
use Rattle.tc_isa.specs.Insts.{InstData}
use Rattle.tc_isa.specs.Spelling.{Spells}
use Rattle.tc_encode.specs.Decoding.{BeginsWith, IsInstPrefix, decoded_of}
use Rattle.tc_encode.specs.declared.errors.DecodeErr.TheVariants.{Short, NotListed}

-- no bytes spell two instructions
abbrev pub BytesSpellAtMostOne : Type 0
BytesSpellAtMostOne = (bytes : List ℕ) (i j : InstData) → Spells bytes i → Spells bytes j → i ≡ j

-- no spelling is a proper prefix of another
abbrev pub NoSpellingIsPrefix : Type 0
NoSpellingIsPrefix = (bytes more : List ℕ) (i j : InstData) → Spells bytes i → Spells (bytes ++ more) j → more ≡ []

-- the laws of spelling
pub record SpellingLaws : Type 0 where
  pub one : BytesSpellAtMostOne
  pub apart : NoSpellingIsPrefix

-- bytes after an instruction change nothing
abbrev pub MoreBytesChangeNothing : Type 0
MoreBytesChangeNothing = (xs ys : List ℕ) (i : InstData) → decoded_of xs ≡ Ok (i, length xs) → decoded_of (xs ++ ys) ≡ Ok (i, length xs)

-- a decoded instruction has two or four bytes, and the bytes to decode are at least as many
abbrev pub LengthIsTwoOrFour : Type 0
LengthIsTwoOrFour = (xs : List ℕ) (i : InstData) (n : ℕ) → decoded_of xs ≡ Ok (i, n) → (n ≤ length xs) × (n ≤ 4) × ((n ≡ 2) ⊎ (n ≡ 4))

-- the bytes that were decoded are the spelling of the instruction
abbrev pub DecodedIsSpelled : Type 0
DecodedIsSpelled = (xs : List ℕ) (i : InstData) (n : ℕ) → decoded_of xs ≡ Ok (i, n) → Spells (take n xs) i

-- an instruction is decoded exactly if the bytes begin with its spelling
abbrev pub DecodedIffBytesBegin : Type 0
DecodedIffBytesBegin = (xs : List ℕ) (i : InstData) (n : ℕ) → (decoded_of xs ≡ Ok (i, n)) ↔ BeginsWith xs i n

-- bytes that spell an instruction are decoded as it, whatever follows
abbrev pub SpellingIsDecoded : Type 0
SpellingIsDecoded = (bytes rest : List ℕ) (i : InstData) → Spells bytes i → decoded_of (bytes ++ rest) ≡ Ok (i, length bytes)

-- Short: the bytes are the beginning of an instruction, and begin with none
abbrev pub ShortIsPrefix : Type 0
ShortIsPrefix = (xs : List ℕ) → (decoded_of xs ≡ Err Short) ↔ (IsInstPrefix xs × ((i : InstData) (n : ℕ) → BeginsWith xs i n → ⊥))

-- NotListed: the bytes neither begin with an instruction nor are the beginning of one
abbrev pub NotListedIsNeither : Type 0
NotListedIsNeither = (xs : List ℕ) → (decoded_of xs ≡ Err NotListed) ↔ ((IsInstPrefix xs → ⊥) × ((i : InstData) (n : ℕ) → BeginsWith xs i n → ⊥))

-- the laws of decoding
pub record DecodeLaws : Type 0 where
  pub more : MoreBytesChangeNothing
  pub lengths : LengthIsTwoOrFour
  pub decoded : DecodedIsSpelled
  pub begins : DecodedIffBytesBegin
  pub spelled : SpellingIsDecoded
  pub short : ShortIsPrefix
  pub not_listed : NotListedIsNeither
