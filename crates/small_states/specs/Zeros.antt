-- Bytes that end in zeros.
use Rattle.std.specs.Prelude.{◌≡◌, ◌≤◌, ◌-◌, ◌++◌, ℕ, List, length, replicate, take}

-- in the buffer of a state's bytes, all bytes after the first n are zeros
pub record AreZerosAfter (n : ℕ) (bytes : List ℕ) : Type 0 where
  pub within : n ≤ 192
  pub long : length (take n bytes) ≡ n
  pub zeros : bytes ≡ take n bytes ++ replicate (192 - n) 0
