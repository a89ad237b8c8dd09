-- What callers see of a cursor.
use Rattle.std.specs.Prelude.{ℕ, List, ◌++◌, length}

-- what callers see of a cursor: its bytes, and as `place` the offset of the first byte that wasn't
-- taken yet
pub record Place : Type 0 where
  pub bytes : List ℕ
  pub place : ℕ

-- a cursor that is moved to an offset in its bytes
abbrev pub place_moved_to : Place → ℕ → Place
place_moved_to p offset = record { bytes = p.bytes; place = offset }

-- a cursor between two parts of the bytes: after `front`, before `rest`
abbrev pub place_between : List ℕ → List ℕ → Place
place_between front rest = record { bytes = front ++ rest; place = length front }
