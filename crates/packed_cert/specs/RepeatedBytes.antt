-- Bytes that come again at another place, and the values that they hold.
use Rattle.std.specs.Prelude.{◌≡◌, ℕ, List, take, drop, ◌+◌, ◌≤◌, length, ◌*◌}
use Rattle.packed_cert.specs.declared.places.RepeatedState.{RepeatedState}
use Rattle.tcd_base.specs.Place.{Place}
use Rattle.value_domain.specs.declared.values.Val.{Val}
use Rattle.packed_cert.specs.ValuesInBytes.{AreValuesInBytes}
use Rattle.tcd_base.specs.Bytes.{word_in_bytes}

-- the n bytes of a packed certificate from x on are repeated from y on
abbrev pub AreBytesRepeated : List ℕ → ℕ → ℕ → ℕ → Type 0
AreBytesRepeated bytes x y n = take n (drop x bytes) ≡ take n (drop y bytes)

-- the first bytes of a certificate's state, as many as p counts, are repeated at an offset
pub record IsStartRepeatedAt (bytes : List ℕ) (place : ℕ) (p : RepeatedState) : Type 0 where
  pub first : (p.at).start + p.same ≤ length bytes
  pub second : place + p.same ≤ length bytes
  pub alike : AreBytesRepeated bytes (p.at).start place p.same

-- a cursor moved over n bytes of a packed certificate that come again: they equal the n bytes from
-- x on
abbrev pub SkipsRepeatedBytes : List ℕ → ℕ → ℕ → Place → Place → Type 0
SkipsRepeatedBytes bytes x n before after =
    (after ≡ record before { place = before.place + n }) × (before.place + n ≤ length bytes) × (take n (drop x bytes) ≡ take n (drop before.place bytes))

-- a state in the bytes has these values, and its first bytes, as many as p counts, are repeated at
-- this offset
pub record IsRepeatedStateAt (version : ℕ) (bytes : List ℕ) (vs : List Val) (place : ℕ) (p : RepeatedState) : Type 0 where
  pub values : AreValuesInBytes version bytes vs (p.at).values (p.at).end
  pub repeated : IsStartRepeatedAt bytes place p

-- the eight bytes from an offset on as one number, little-endian
abbrev pub double_word_in_bytes : List ℕ → ℕ → ℕ
double_word_in_bytes bytes place = word_in_bytes bytes place + word_in_bytes bytes (place + 4) * 4294967296
