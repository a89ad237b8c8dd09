-- Laws of readers: fields that were written are read back, and what a reading that succeeded gives.
use Rattle.std.proofs.Common.{◌≡◌, ◌+◌, ◌^◌, ◌<◌, ◌≤◌, ℕ, List, [], ◌∷◌, ◌++◌, length, take, drop, get_or, Bool, true, false, cond, Result, Ok, Err, refl, sym, ap, ◌∙◌, arith, length-append, append_assoc}
use Rattle.std.specs.Prelude.{nat_le}
use Rattle.std.proofs.lemmas.Bool.{leb-true, le-leb}
use Rattle.std.proofs.Math.Seq.{take-append_seam, drop-append_seam}
use Rattle.tcd_base.specs.Bytes.{half_in_bytes, word_in_bytes, bytes_of_half, bytes_of_word}
use Rattle.tcd_base.specs.Place.{Place, place_between}
use Rattle.tcd_base.specs.FieldReaders.{◌>>=◌, u8_at, u16_at, u32_at, field_bytes_at, field_fault_at}
use Rattle.tcd_base.specs.declared.errors.FormErr.{FormErr}
use Rattle.tcd_base.proofs.ByteWords.{get_or-behind, half_at-written, word_at-written}

-- a value that was read, and the place after it
abbrev found : {A : Type 0} → A → Place → Result (A × Place) FormErr
found x p = Ok (x, p)

found_same : {A : Type 0} (x y : A) (p q : Place) → x ≡ y → p ≡ q → found x p ≡ found y q
found_same x y p q e f = cc

-- a test that holds chooses the first
pub chosen : {A : Type 0} (b : Bool) (x y : A) → b ≡ true → cond b x y ≡ x
chosen b x y e = rw e refl

-- a part in the middle is all there
in_middle : (front part rest : List ℕ) (n : ℕ) → length part ≡ n → length front + n ≤ length (front ++ (part ++ rest))
in_middle front part rest n e = simp (length-append) (omega arith)

-- what the second part begins with, moved to the end of the first
moved : (front part rest : List ℕ) (n : ℕ) → length part ≡ n → record (place_between front (part ++ rest)) { place = length front + n } ≡ place_between (front ++ part) rest
moved front part rest n e = rw (append_assoc front part rest, length-append front part, e) refl

-- a field of n bytes in the middle is read
read_middle : {A : Type 0} (front part rest : List ℕ) (n : ℕ) (x y : A) → length part ≡ n → x ≡ y → cond (nat_le (length front + n) (length (front ++ (part ++ rest)))) (found x (record (place_between front (part ++ rest)) { place = length front + n })) (field_fault_at 1 (place_between front (part ++ rest))) ≡ found y (place_between (front ++ part) rest)
read_middle front part rest n x y e same =
    chosen _ _ _ (le-leb (length front + n) (length (front ++ (part ++ rest))) (in_middle front part rest n e))
    ∙ found_same _ _ _ _ same (moved front part rest n e)

-- a field that was written is read back
pub u8_at-between : (front : List ℕ) (x : ℕ) (rest : List ℕ) → u8_at (place_between front (x ∷ rest)) ≡ Ok (x, place_between (front ++ x ∷ []) rest)
unfolding u8_at
u8_at-between front x rest = read_middle front (x ∷ []) rest 1 _ _ refl (get_or-behind front (x ∷ rest) (length front) 0 (omega arith))

pub u16_at-between : (front : List ℕ) (x : ℕ) (rest : List ℕ) → x < 2 ^ 16 → u16_at (place_between front (bytes_of_half x ++ rest)) ≡ Ok (x, place_between (front ++ bytes_of_half x) rest)
unfolding u16_at
u16_at-between front x rest h = read_middle front (bytes_of_half x) rest 2 _ _ refl (half_at-written front x rest h)

pub u32_at-between : (front : List ℕ) (x : ℕ) (rest : List ℕ) → x < 2 ^ 32 → u32_at (place_between front (bytes_of_word x ++ rest)) ≡ Ok (x, place_between (front ++ bytes_of_word x) rest)
unfolding u32_at
u32_at-between front x rest h = read_middle front (bytes_of_word x) rest 4 _ _ refl (word_at-written front x rest h)

-- the part in the middle
middle : (front part rest : List ℕ) → take (length part) (drop (length front) (front ++ (part ++ rest))) ≡ part
middle front part rest = ap (take (length part)) (drop-append_seam front (part ++ rest)) ∙ take-append_seam part rest

pub bytes_at-between : (front part rest : List ℕ) → field_bytes_at (length part) (place_between front (part ++ rest)) ≡ Ok (part, place_between (front ++ part) rest)
unfolding field_bytes_at
bytes_at-between front part rest = read_middle front part rest (length part) _ _ refl (middle front part rest)

-- what a reading of n bytes that succeeded did to the place
pub record Took (n : ℕ) (p q : Place) : Type 0 where
  pub within : p.place + n ≤ length p.bytes
  pub bytes : q.bytes ≡ p.bytes
  pub place : q.place ≡ p.place + n

-- two equal readings have one value and one place
same_found : {A : Type 0} (x y : A) (p q : Place) → found x p ≡ found y q → (y ≡ x) × (q ≡ p)
same_found {A} x y p q h =
    let pairs : ◌≡◌ {A = A × Place} (x, p) (y, q) = cc in
    (sym (ap (λ (v : A × Place). v.0) pairs), sym (ap (λ (v : A × Place). v.1) pairs))

-- the place after a field of n bytes that is there
took : {A : Type 0} (n : ℕ) (p : Place) (x : A) (b : Bool) → nat_le (p.place + n) (length p.bytes) ≡ b → (y : A) (q : Place) → cond b (found x (record p { place = p.place + n })) (field_fault_at 1 p) ≡ found y q → Took n p q × (y ≡ x)
took n p x true e y q h =
    let same = same_found x y (record p { place = p.place + n }) q h in
    (record { within = leb-true _ _ e; bytes = ap (λ (r : Place). r.bytes) same.1; place = ap (λ (r : Place). r.place) same.1 }, same.0)
took n p x false e y q h = cc

pub u8_at_ok : (p : Place) (x : ℕ) (q : Place) → u8_at p ≡ Ok (x, q) → Took 1 p q × (x ≡ get_or p.bytes p.place 0)
unfolding u8_at
u8_at_ok p x q h = took 1 p _ _ refl x q h

pub u16_at_ok : (p : Place) (x : ℕ) (q : Place) → u16_at p ≡ Ok (x, q) → Took 2 p q × (x ≡ half_in_bytes p.bytes p.place)
unfolding u16_at
u16_at_ok p x q h = took 2 p _ _ refl x q h

pub u32_at_ok : (p : Place) (x : ℕ) (q : Place) → u32_at p ≡ Ok (x, q) → Took 4 p q × (x ≡ word_in_bytes p.bytes p.place)
unfolding u32_at
u32_at_ok p x q h = took 4 p _ _ refl x q h

pub bytes_at_ok : (n : ℕ) (p : Place) (xs : List ℕ) (q : Place) → field_bytes_at n p ≡ Ok (xs, q) → Took n p q × (xs ≡ take n (drop p.place p.bytes))
unfolding field_bytes_at
bytes_at_ok n p xs q h = took n p _ _ refl xs q h

-- if two readings one after the other succeed, each of them does
pub bind_ok : {A B : Type 0} (r : Result A FormErr) (f : A → Result B FormErr) (y : B) → r >>= f ≡ Ok y → (x : A) × (r ≡ Ok x) × (f x ≡ Ok y)
bind_ok (Ok x) f y e = (x, refl, e)
bind_ok (Err x) f y e = cc
