-- What a reading that succeeded passed over: the bytes that spell its value, which is a valid one.
use Rattle.std.proofs.Common.{◌≡◌, ℕ, zero, suc, ◌+◌, ◌<◌, ◌≤◌, ◌^◌, List, [], ◌∷◌, ◌++◌, length, get_or, take, drop, Bool, true, false, cond, Result, Ok, Err, refl, sym, ap, ◌∙◌, subst, arith, append_assoc, length-append}
use Rattle.std.proofs.lemmas.List.{append-nil, take-append-drop, length-take}
use Rattle.std.specs.List.{flat_map}
use Rattle.tcd_base.specs.declared.errors.FormErr.{FormErr}
use Rattle.tcd_base.specs.Bytes.{half_in_bytes, word_in_bytes, bytes_of_half, bytes_of_word}
use Rattle.tcd_base.specs.Place.{Place, place_between}
use Rattle.tcd_base.specs.FieldReaders.{u8_at, u16_at, u32_at, many_fields_at}
use Rattle.tcd_base.proofs.ByteWords.{get_or-behind, half_at-behind, word_at-behind, half_at_below, word_at_below, bytes_of_half-half_at, bytes_of_word-word_at}
use Rattle.tcd_base.proofs.FieldReads.{Took, u8_at_ok, u16_at_ok, u32_at_ok, bind_ok}

-- all are bytes
abbrev pub AreBytes : List ℕ → Type 0
AreBytes [] = Unit {0}
AreBytes (x ∷ xs) = (x < 2 ^ 8) × AreBytes xs

pub bytes_rest : (xs ys : List ℕ) → AreBytes (xs ++ ys) → AreBytes ys
bytes_rest [] ys h = h
bytes_rest (x ∷ xs) ys h = bytes_rest xs ys h.1

pub bytes_at : (xs : List ℕ) → AreBytes xs → (k : ℕ) → get_or xs k 0 < 256
bytes_at [] h k = omega arith
bytes_at (x ∷ xs) h zero = h.0
bytes_at (x ∷ xs) h (suc k) = bytes_at xs h.1 k

pub bytes_from : (xs : List ℕ) → ((k : ℕ) → get_or xs k 0 < 2 ^ 8) → AreBytes xs
bytes_from [] h = tt
bytes_from (x ∷ xs) h = (h 0, bytes_from xs (λ k. h (suc k)))

-- the bytes from the end of front up to q are these
pub record Passed (part front rest : List ℕ) (q : Place) : Type 0 where
  pub after : List ℕ
  pub is : rest ≡ part ++ after
  pub at : q ≡ place_between (front ++ part) after

pub passed_bytes : {part front rest : List ℕ} {q : Place} (h : Passed part front rest q) → AreBytes rest → AreBytes h.after
passed_bytes {part} h bytes = bytes_rest part h.after (subst AreBytes h.is bytes)

-- one part after another
pub passed_both : {a b front rest : List ℕ} {p q : Place} (h : Passed a front rest p) → Passed b (front ++ a) h.after q → Passed (a ++ b) front rest q
passed_both {a} {b} {front} {rest} {p} {q} h k = record {
  after = k.after;
  is = h.is ∙ ap (λ (l : List ℕ). a ++ l) k.is ∙ sym (append_assoc a b k.after);
  at = k.at ∙ ap (λ (l : List ℕ). place_between l k.after) (append_assoc front a b);
}

pub passed_none : (front rest : List ℕ) (q : Place) → place_between front rest ≡ q → Passed [] front rest q
passed_none front rest q e = record { after = rest; is = refl; at = sym e ∙ ap (λ (l : List ℕ). place_between l rest) (sym (append-nil front)) }

-- the value and the place of a pair that was read
pub ok_pair : {A : Type 0} (x y : A) (p q : Place) → ◌≡◌ {A = Result (A × Place) FormErr} (Ok (x, p)) (Ok (y, q)) → (x ≡ y) × (p ≡ q)
ok_pair {A} x y p q h =
    let pairs : ◌≡◌ {A = A × Place} (x, p) (y, q) = cc in
    (ap (λ (v : A × Place). v.0) pairs, ap (λ (v : A × Place). v.1) pairs)

-- a test that a field passed is true
pub passed_test : {A : Type 0} (good : Bool) (x y : A) (e : FormErr) → cond good (Ok x) (Err e) ≡ Ok y → (good ≡ true) × (x ≡ y)
passed_test true x y e h = (refl, cc)
passed_test false x y e h = cc

-- ---- fields of one, two and four bytes
pub took_passed : (n : ℕ) (front rest : List ℕ) (q : Place) → Took n (place_between front rest) q → Passed (take n rest) front rest q
took_passed n front rest q t =
    let within : n ≤ length rest = omega (arith, t.within, length-append front rest) in
    record {
      after = drop n rest;
      is = sym (take-append-drop n rest);
      at = place_is q (front ++ rest) ((front ++ take n rest) ++ drop n rest) (length front + n) (length (front ++ take n rest)) t.bytes t.place
          (ap (λ (l : List ℕ). front ++ l) (sym (take-append-drop n rest)) ∙ sym (append_assoc front (take n rest) (drop n rest)))
          (omega (arith, length-append front (take n rest), length-take n rest));
    }
  where
    place_is : (q : Place) (bs cs : List ℕ) (i j : ℕ) → q.bytes ≡ bs → q.place ≡ i → bs ≡ cs → i ≡ j → q ≡ record { bytes = cs; place = j }
    place_is q bs cs i j a b e f = ap (λ (l : List ℕ). record { bytes = l; place = q.place }) (a ∙ e) ∙ ap (λ (k : ℕ). record { bytes = cs; place = k }) (b ∙ f)

pub byte_passed : (front rest : List ℕ) (x : ℕ) (q : Place) → AreBytes rest → u8_at (place_between front rest) ≡ Ok (x, q) → Passed (x ∷ []) front rest q × (x < 2 ^ 8)
byte_passed front rest x q bytes e =
    let t = u8_at_ok (place_between front rest) x q e in
    let same : x ≡ get_or rest 0 0 = t.1 ∙ get_or-behind front rest (length front) 0 (omega arith) in
    let part : x ∷ [] ≡ take 1 rest = ap (λ k. k ∷ []) same ∙ first rest (omega (arith, t.0.within, length-append front rest)) in
    (subst (λ (l : List ℕ). Passed l front rest q) (sym part) (took_passed 1 front rest q t.0), rw same (bytes_at rest bytes 0))
  where
    first : (rest : List ℕ) → 1 ≤ length rest → get_or rest 0 0 ∷ [] ≡ take 1 rest
    first [] h = absurd (omega arith)
    first (x ∷ xs) h = refl

pub half_passed : (front rest : List ℕ) (x : ℕ) (q : Place) → AreBytes rest → u16_at (place_between front rest) ≡ Ok (x, q) → Passed (bytes_of_half x) front rest q × (x < 2 ^ 16)
half_passed front rest x q bytes e =
    let t = u16_at_ok (place_between front rest) x q e in
    let same : x ≡ half_in_bytes rest 0 = t.1 ∙ half_at-behind front rest (length front) 0 (omega arith) in
    let part : bytes_of_half x ≡ take 2 rest = ap bytes_of_half same ∙ bytes_of_half-half_at rest 0 (bytes_at rest bytes) (omega (arith, t.0.within, length-append front rest)) in
    (subst (λ (l : List ℕ). Passed l front rest q) (sym part) (took_passed 2 front rest q t.0), rw same (half_at_below rest 0 (bytes_at rest bytes)))

pub word_passed : (front rest : List ℕ) (x : ℕ) (q : Place) → AreBytes rest → u32_at (place_between front rest) ≡ Ok (x, q) → Passed (bytes_of_word x) front rest q × (x < 2 ^ 32)
word_passed front rest x q bytes e =
    let t = u32_at_ok (place_between front rest) x q e in
    let same : x ≡ word_in_bytes rest 0 = t.1 ∙ word_at-behind front rest (length front) 0 (omega arith) in
    let part : bytes_of_word x ≡ take 4 rest = ap bytes_of_word same ∙ bytes_of_word-word_at rest 0 (bytes_at rest bytes) (omega (arith, t.0.within, length-append front rest)) in
    (subst (λ (l : List ℕ). Passed l front rest q) (sym part) (took_passed 4 front rest q t.0), rw same (word_at_below rest 0 (bytes_at rest bytes)))

-- ---- many items
pub record PassedMany {A : Type 0} (spell : A → List ℕ) (Good : List A → Type 0) (n : ℕ) (before xs : List A) (front rest : List ℕ) (q : Place) : Type 0 where
  pub items : List A
  pub is : xs ≡ before ++ items
  pub count : length items ≡ n
  pub passed : Passed (flat_map spell items) front rest q
  pub good : Good xs

pub many_passed : {A : Type 0} (item : List A → Place → Result (A × Place) FormErr) (spell : A → List ℕ) (Good : List A → Type 0)
    → ((before : List A) (front rest : List ℕ) (x : A) (q : Place) → AreBytes rest → Good before → item before (place_between front rest) ≡ Ok (x, q) → Passed (spell x) front rest q × Good (before ++ x ∷ []))
    → (n : ℕ) (before xs : List A) (front rest : List ℕ) (q : Place) → AreBytes rest → Good before → many_fields_at item n before (place_between front rest) ≡ Ok (xs, q) → PassedMany spell Good n before xs front rest q
unfolding many_fields_at
many_passed item spell Good each zero before xs front rest q bytes good e =
    let same = ok_pair before xs (place_between front rest) q e in
    record { items = []; is = sym same.0 ∙ sym (append-nil before); count = refl; passed = passed_none front rest q same.1; good = subst Good same.0 good }
many_passed {A} item spell Good each (suc n) before xs front rest q bytes good e =
    let b = bind_ok (item before (place_between front rest)) (λ x. many_fields_at item n (before ++ x.0 ∷ []) x.1) (xs, q) e in
    let one = each before front rest b.0.0 b.0.1 bytes good b.1 in
    let left : many_fields_at item n (before ++ b.0.0 ∷ []) (place_between (front ++ spell b.0.0) one.0.after) ≡ Ok (xs, q) = ap (many_fields_at item n (before ++ b.0.0 ∷ [])) (sym one.0.at) ∙ b.2 in
    let more = many_passed item spell Good each n (before ++ b.0.0 ∷ []) xs (front ++ spell b.0.0) one.0.after q (passed_bytes one.0 bytes) one.1 left in
    record {
      items = b.0.0 ∷ more.items;
      is = more.is ∙ append_assoc before (b.0.0 ∷ []) more.items;
      count = ap suc more.count;
      passed = passed_both one.0 more.passed;
      good = more.good;
    }
