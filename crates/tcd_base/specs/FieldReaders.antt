-- Readers of fields from left to right: the value and the place after it, or the first fault.
use Rattle.std.specs.Prelude.{◌≡◌, ◌+◌, ℕ, zero, suc, List, ◌∷◌, ◌++◌, length, take, drop, slice_index, nat_le, if◌then◌else◌, Result, Ok, Err, []}
use Rattle.tcd_base.specs.Bytes.{half_in_bytes, word_in_bytes}
use Rattle.tcd_base.specs.Place.{Place}
use Rattle.tcd_base.specs.declared.errors.FormErr.{FormErr}
use Rattle.tcd_base.specs.declared.errors.TheConstants.{SHORT}

-- a reader after another: the first fault ends both
infixl 10 ◌>>=◌
abbrev pub ◌>>=◌ : {A B : Type 0} → Result A FormErr → (A → Result B FormErr) → Result B FormErr
(Ok x) >>= f = f x
(Err e) >>= f = Err e

-- the answer of a reader of fields that finds a fault of this kind at the place
abbrev pub field_fault_at : {A : Type 0} → ℕ → Place → Result A FormErr
field_fault_at kind p = Err (record { kind = kind; at = p.place })

-- a field of one byte, and the place after it; if the bytes end before, the fault is SHORT at the
-- field's first byte
unfoldable pub u8_at : Place → Result (ℕ × Place) FormErr
u8_at p = if nat_le (p.place + 1) (length p.bytes) then Ok (slice_index p.bytes p.place, record p { place = p.place + 1 }) else field_fault_at SHORT p

-- a field of two bytes, little-endian, and the place after it, or the fault SHORT at its first byte
unfoldable pub u16_at : Place → Result (ℕ × Place) FormErr
u16_at p = if nat_le (p.place + 2) (length p.bytes) then Ok (half_in_bytes p.bytes p.place, record p { place = p.place + 2 }) else field_fault_at SHORT p

-- a reader of a field of four bytes, little-endian: the word and the place after it, or the fault
-- SHORT at its first byte
unfoldable pub u32_at : Place → Result (ℕ × Place) FormErr
u32_at p = if nat_le (p.place + 4) (length p.bytes) then Ok (word_in_bytes p.bytes p.place, record p { place = p.place + 4 }) else field_fault_at SHORT p

-- a field of n bytes, and the place after it, or the fault SHORT at its first byte
unfoldable pub field_bytes_at : ℕ → Place → Result (List ℕ × Place) FormErr
field_bytes_at n p = if nat_le (p.place + n) (length p.bytes) then Ok (take n (drop p.place p.bytes), record p { place = p.place + n }) else field_fault_at SHORT p

-- n more items after those that were read; the reader of an item is given the items before it
unfoldable pub many_fields_at : {A : Type 0} → (List A → Place → Result (A × Place) FormErr) → ℕ → List A → Place → Result (List A × Place) FormErr
many_fields_at item zero before p = Ok (before, p)
many_fields_at item (suc n) before p = item before p >>= λ x. many_fields_at item n (before ++ x.0 ∷ []) x.1

-- the answer of a reader of fields is as defined: the value and the cursor after it, or the fault
abbrev pub IsFieldRead : {A : Type 0} → Result A FormErr → Place → Result (A × Place) FormErr → Type 0
IsFieldRead (Ok x) after read = read ≡ Ok (x, after)
IsFieldRead (Err e) after read = read ≡ Err e

-- the result, and the cursor after, are what the definition `reader` gives at the cursor before;
-- the cursor keeps its bytes
pub record ReadsField {A : Type 0} (result : Result A FormErr) (before after : Place) (reader : Place → Result (A × Place) FormErr) : Type 0 where
  pub read : IsFieldRead result after (reader before)
  pub bytes : after.bytes ≡ before.bytes
