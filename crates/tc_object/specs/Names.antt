-- Names of sections and symbols.
use Rattle.std.specs.Prelude.{◌≡◌, ◌≤◌, ◌==◌, ◌&&◌, not, nat_le, ℕ, Bool, true, false, List, length, slice_index, Option}
use Rattle.std.specs.List.{list_all}
use Rattle.std.specs.Bool.{then_some}
use Rattle.tcd_base.specs.NameBytes.{is_name_byte, is_name_start}

-- the bytes are one at least, all may stand in a name, and the first is no digit
abbrev pub is_object_name : List ℕ → Bool
is_object_name bs = not (length bs == 0) && (is_name_start (slice_index bs 0) && list_all is_name_byte bs)

-- this is a number of bytes that the name of an object's section or symbol may have: 1 to 64
abbrev pub is_name_length : ℕ → Bool
is_name_length n = nat_le 1 n && nat_le n 64

-- the bytes as a name, if they are one
abbrev pub object_name_of : List ℕ → Option (List ℕ)
object_name_of bs = then_some (is_name_length (length bs) && is_object_name bs) bs

-- the name of an object's section or symbol is well-formed, has 1 to 64 bytes, and isn't used yet
pub record IsNewObjectName (is_used : List ℕ → Bool) (name : List ℕ) : Type 0 where
  pub some : 1 ≤ length name
  pub few : length name ≤ 64
  pub written : is_object_name name ≡ true
  pub new : is_used name ≡ false
