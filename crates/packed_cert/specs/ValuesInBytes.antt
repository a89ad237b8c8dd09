-- Words and values in the bytes.
use Rattle.std.specs.Prelude.{◌≡◌, ◌≤◌, ◌+◌, ℕ, zero, suc, List, ◌∷◌, length, Ok, ◌==◌, slice_index, Result, Err, ◌*◌, nat_le, if◌then◌else◌, []}
use Rattle.tcd_base.specs.Bytes.{word_in_bytes}
use Rattle.tcd_base.specs.Place.{Place}
use Rattle.value_domain.specs.declared.values.Val.{Val}
use Rattle.value_domain.specs.Values.{any_val}
use Rattle.depth_cert.specs.Grammar.{value_at}
use Rattle.tcd_base.specs.declared.errors.FormErr.{FormErr}
use Rattle.packed_cert.specs.declared.restored_values.ValuesAt.{ValuesAt}

-- n words from an offset of a certificate's bytes on
unfoldable pub words_in_bytes : List ℕ → ℕ → ℕ → List ℕ
words_in_bytes bytes place zero = []
words_in_bytes bytes place (suc n) = word_in_bytes bytes place ∷ words_in_bytes bytes (place + 4) n

-- what a reading of a certificate's bytes gives, or d if the reading fails
abbrev pub read_from_bytes_or : {A : Type 0} → A → Result (A × Place) FormErr → A
read_from_bytes_or d (Ok x) = x.0
read_from_bytes_or d (Err e) = d

-- a cursor over the bytes of a certificate, at this offset
abbrev pub place_in_bytes : List ℕ → ℕ → Place
place_in_bytes bytes place = record { bytes = bytes; place = place }

-- the abstract value that is decoded at an offset of a certificate's bytes
abbrev pub value_in_bytes : ℕ → List ℕ → ℕ → Val
value_in_bytes version bytes place = read_from_bytes_or any_val (value_at version (place_in_bytes bytes place))

-- an abstract value begins at this offset of the bytes of a certificate of this format
abbrev pub ValueBeginsAt : ℕ → List ℕ → ℕ → Type 0
ValueBeginsAt version bytes place = (x : Val × Place) × (value_at version (place_in_bytes bytes place) ≡ Ok x) × (place ≤ length bytes)

-- the number of bytes that a value has, by the first of them
abbrev pub value_length_by_tag : ℕ → ℕ
value_length_by_tag tag = if tag == 0 then 1 else if nat_le tag 128 then 1 + 4 * tag else 9

-- the offset of the first byte after the value at an offset of a certificate's bytes
abbrev pub offset_after_value : List ℕ → ℕ → ℕ
offset_after_value bytes place = place + value_length_by_tag (slice_index bytes place)

-- the n abstract values that are decoded from an offset of a certificate's bytes on
abbrev pub values_in_bytes : ℕ → List ℕ → ℕ → ℕ → List Val
values_in_bytes version bytes place zero = []
values_in_bytes version bytes place (suc n) = value_in_bytes version bytes place ∷ values_in_bytes version bytes (offset_after_value bytes place) n

-- n abstract values, one after another, begin at this offset of the bytes of a certificate of this
-- format
abbrev pub ValuesBeginAt : ℕ → List ℕ → ℕ → ℕ → Type 0
ValuesBeginAt version bytes place zero = Unit {0}
ValuesBeginAt version bytes place (suc n) = ValueBeginsAt version bytes place × ValuesBeginAt version bytes (offset_after_value bytes place) n

-- the offset of the first byte after the n values from an offset of a certificate's bytes on
abbrev pub offset_after_values : List ℕ → ℕ → ℕ → ℕ
offset_after_values bytes place zero = place
offset_after_values bytes place (suc n) = offset_after_values bytes (offset_after_value bytes place) n

-- these values are in a certificate's bytes, one after another, from one offset to another
abbrev pub AreValuesBetween : ℕ → List ℕ → ℕ → List Val → ℕ → Type 0
AreValuesBetween version bytes place [] end = place ≡ end
AreValuesBetween version bytes place (v ∷ vs) end = (value_at version (place_in_bytes bytes place) ≡ Ok (v, place_in_bytes bytes (offset_after_value bytes place))) × AreValuesBetween version bytes (offset_after_value bytes place) vs end

-- these values are in a certificate's bytes, one after another, from offset x, which isn't past the
-- bytes' end, to another
abbrev pub AreValuesInBytes : ℕ → List ℕ → List Val → ℕ → ℕ → Type 0
AreValuesInBytes version bytes vs x end = (x ≤ length bytes) × AreValuesBetween version bytes x vs end

-- the abstract value that is decoded at the offset of v
abbrev pub decoded_value : ValuesAt → Val
decoded_value v = value_in_bytes v.version v.bytes.now v.place

-- the n abstract values that are decoded from the offset of v on
abbrev pub decoded_values : ValuesAt → ℕ → List Val
decoded_values v n = values_in_bytes v.version v.bytes.now v.place n

-- an abstract value begins at the offset of v
abbrev pub PointsToValue : ValuesAt → Type 0
PointsToValue v = ValueBeginsAt v.version v.bytes.now v.place

-- n abstract values begin at the offset of v
abbrev pub PointsToValues : ValuesAt → ℕ → Type 0
PointsToValues v n = ValuesBeginAt v.version v.bytes.now v.place n
