-- What the grammar gives is within its limits, and the bytes are its spelling.
use Rattle.std.proofs.Common.{◌≡◌, ℕ, zero, suc, ◌+◌, ◌-◌, ◌<◌, ◌≤◌, ◌^◌, ◌⊎◌, inl, inr, List, [], ◌∷◌, ◌++◌, length, Bool, true, false, cond, Result, Ok, Err, refl, sym, ap, ◌∙◌, subst, arith, ltb, leb, eqb, not, ◌&&◌}
use Rattle.std.proofs.lemmas.Bool.{lt-ltb, ltb-true, leb-true, and_parts, eqb-true}
use Rattle.std.proofs.lemmas.Bool.Decides.{nat_tests}
use Rattle.std.proofs.lemmas.List.Elements.{All-nil, All-push}
use Rattle.std.specs.List.{All, flat_map}
use Rattle.std.specs.List.Sorted.{IsStrictlyIncreasing}
use Rattle.tcd_base.specs.declared.errors.FormErr.{FormErr}
use Rattle.tcd_base.specs.Bytes.{bytes_of_word}
use Rattle.tcd_base.specs.Place.{Place, place_between}
use Rattle.tcd_base.specs.FieldReaders.{u8_at, u32_at, many_fields_at, field_fault_at}
use Rattle.tcd_base.proofs.FieldReads.{bind_ok}
use Rattle.value_domain.specs.declared.values.Val.{Val}
use Rattle.value_domain.specs.declared.values.Val.TheVariants.{Set, Span}
use Rattle.value_domain.specs.Values.{any_val, span_len, is_span_of_all_words}
use Rattle.value_domain.specs.VersionLimits.{most_words_of, most_locals_of}
use Rattle.value_domain.proofs.WordLaws.{rising_from, among_place}
use Rattle.depth_cert.specs.Keys.{cert_flag_byte}
use Rattle.depth_cert.specs.Points.{IsWellFormedCertValue}
use Rattle.depth_cert.specs.Grammar.{valid_field_or_fault, flag_at, set_word_after, set_at, span_at, value_at, values_at, is_cert_span, is_above_last, last_number}
use Rattle.depth_cert.specs.Spelling.{bytes_of_value}
use Rattle.depth_cert.proofs.ManyLaws.{rising_push}
use Rattle.tcd_base.proofs.PassedLaws.{AreBytes, Passed, passed_bytes, passed_both, ok_pair, passed_test, byte_passed, word_passed, many_passed}

-- the next reading begins after the part
pub next : {A : Type 0} {part front rest : List ℕ} {q : Place} (read : Place → Result A FormErr) (y : Result A FormErr) (h : Passed part front rest q) → read q ≡ y → read (place_between (front ++ part) h.after) ≡ y
next read y h e = ap read (sym h.at) ∙ e

-- a field that passed its test
pub checked_passed : (kind : ℕ) (good : Bool) (p : Place) (x y : ℕ × Place) → valid_field_or_fault kind good p x ≡ Ok y → (good ≡ true) × (x ≡ y)
checked_passed kind good p x y e = passed_test good x y (record { kind = kind; at = p.place }) e

-- ---- truth values
flag_byte : (n : ℕ) (at q : Place) (x : Bool) (p : Place) → cond (ltb 1 n) (field_fault_at {A = Bool × Place} 4 p) (Ok (eqb n 1, at)) ≡ Ok (x, q) → (n ≡ cert_flag_byte x) × (at ≡ q)
flag_byte zero at q x p e = let h = ok_pair false x at q e in (rw (← h.0) refl, h.1)
flag_byte (suc zero) at q x p e = let h = ok_pair true x at q e in (rw (← h.0) refl, h.1)
flag_byte (suc (suc n)) at q x p e = let big : ltb 1 (suc (suc n)) ≡ true = lt-ltb _ _ (omega arith) in let f = rw big at e in cc

pub flag_passed : (front rest : List ℕ) (x : Bool) (q : Place) → AreBytes rest → flag_at (place_between front rest) ≡ Ok (x, q) → Passed (cert_flag_byte x ∷ []) front rest q
unfolding flag_at
flag_passed front rest x q bytes e =
    let b = bind_ok (u8_at (place_between front rest)) _ _ e in
    let h = byte_passed front rest b.0.0 b.0.1 bytes b.1 in
    let f = flag_byte b.0.0 b.0.1 q x (place_between front rest) b.2 in
    subst (λ (r : Place). Passed (cert_flag_byte x ∷ []) front rest r) f.1 (subst (λ n. Passed (n ∷ []) front rest b.0.1) f.0 h.0)

-- ---- values
pub width_le : (version : ℕ) → (64 ≤ most_words_of version) × (most_words_of version ≤ 128)
width_le version = grind (arith, nat_tests)

pub most_le : (version : ℕ) → most_locals_of version ≤ 8
most_le version = grind (arith, nat_tests)

-- words that ascend
record AreAscending (ws : List ℕ) : Type 0 where
  pub rising : IsStrictlyIncreasing ws
  pub below : All (λ w. w < 2 ^ 32) ws

word_after_passed : (before front rest : List ℕ) (x : ℕ) (q : Place) → AreBytes rest → AreAscending before → set_word_after before (place_between front rest) ≡ Ok (x, q) → Passed (bytes_of_word x) front rest q × AreAscending (before ++ x ∷ [])
unfolding set_word_after
word_after_passed before front rest x q bytes good e =
    let b = bind_ok (u32_at (place_between front rest)) (λ w. valid_field_or_fault 4 (is_above_last (last_number before) w.0) (place_between front rest) w) (x, q) e in
    let t = checked_passed 4 (is_above_last (last_number before) b.0.0) (place_between front rest) b.0 (x, q) b.2 in
    let same : b.0.0 ≡ x = ap (λ (v : ℕ × Place). v.0) t.1 in
    let at : b.0.1 ≡ q = ap (λ (v : ℕ × Place). v.1) t.1 in
    let h = word_passed front rest x q bytes (b.1 ∙ ap (λ (v : ℕ × Place). Ok v) t.1) in
    (h.0, record { rising = rising_push before x good.rising (rw same at t.0); below = All-push (λ w. w < 2 ^ 32) before x good.below h.1 })

words_are : (version n : ℕ) (ws : List ℕ) → length ws ≡ n → 1 ≤ n → n ≤ most_words_of version → AreAscending ws → IsWellFormedCertValue version (Set ws)
words_are version n ws len some few h = (
  record {
    some = omega arith;
    few = omega (arith, (width_le version).1);
    rising = rising_from ws h.rising;
    below = λ x i. let place = among_place ws x i in subst (λ k. k < 2 ^ 32) place.2 (h.below place.0 0 place.1);
  },
  omega arith,
)

pub set_passed : (version n : ℕ) (front rest : List ℕ) (v : Val) (q : Place) → AreBytes rest → 1 ≤ n → n ≤ most_words_of version → set_at n (place_between front rest) ≡ Ok (v, q)
    → (ws : List ℕ) × (v ≡ Set ws) × (length ws ≡ n) × Passed (flat_map bytes_of_word ws) front rest q × IsWellFormedCertValue version (Set ws)
unfolding set_at
set_passed version n front rest v q bytes some few e =
    let b = bind_ok (many_fields_at set_word_after n [] (place_between front rest)) (λ ws. Ok (Set ws.0, ws.1)) (v, q) e in
    let f = ok_pair (Set b.0.0) v b.0.1 q b.2 in
    let m = many_passed set_word_after bytes_of_word AreAscending word_after_passed n [] b.0.0 front rest b.0.1 bytes (record { rising = λ k h. absurd (omega arith); below = All-nil (λ w. w < 2 ^ 32) }) b.1 in
    (m.items, sym f.0 ∙ ap (λ (l : List ℕ). Set l) m.is, m.count, subst (λ (r : Place). Passed (flat_map bytes_of_word m.items) front rest r) f.1 m.passed, words_are version n m.items m.count some few (subst AreAscending m.is m.good))

any_is : (lo last step : ℕ) → is_span_of_all_words lo last step ≡ false → bytes_of_value (Span lo last step) ≡ (240 + step) ∷ bytes_of_word lo ++ bytes_of_word last
unfolding bytes_of_value
any_is lo last step e = rw e refl

pub span_passed : (version step : ℕ) (start : Place) (front rest : List ℕ) (v : Val) (q : Place) → AreBytes rest → step ≤ 2 → span_at version step start (place_between front rest) ≡ Ok (v, q)
    → (part : List ℕ) × (bytes_of_value v ≡ (240 + step) ∷ part) × Passed part front rest q × IsWellFormedCertValue version v
unfolding span_at
span_passed version step start front rest v q bytes small e =
    let lo = bind_ok (u32_at (place_between front rest)) _ _ e in
    let h = word_passed front rest lo.0.0 lo.0.1 bytes lo.1 in
    let last = bind_ok (u32_at lo.0.1) _ _ lo.2 in
    let k = word_passed (front ++ bytes_of_word lo.0.0) h.0.after last.0.0 last.0.1 (passed_bytes h.0 bytes) (next u32_at _ h.0 last.1) in
    let t = passed_test (is_cert_span version lo.0.0 last.0.0 step) (Span lo.0.0 last.0.0 step, last.0.1) (v, q) _ last.2 in
    let value : Span lo.0.0 last.0.0 step ≡ v = ap (λ (x : Val × Place). x.0) t.1 in
    let at : last.0.1 ≡ q = ap (λ (x : Val × Place). x.1) t.1 in
    let good = and_parts (ltb (most_words_of version) (span_len lo.0.0 last.0.0 step)) (not (is_span_of_all_words lo.0.0 last.0.0 step)) t.0 in (
      bytes_of_word lo.0.0 ++ bytes_of_word last.0.0,
      ap bytes_of_value (sym value) ∙ any_is lo.0.0 last.0.0 step (not_true _ good.1),
      subst (λ (r : Place). Passed (bytes_of_word lo.0.0 ++ bytes_of_word last.0.0) front rest r) at (passed_both h.0 k.0),
      subst (IsWellFormedCertValue version) value (small, ltb-true _ _ good.0, k.1),
    )
  where
    not_true : (b : Bool) → not b ≡ true → b ≡ false
    not_true true h = sym h
    not_true false h = refl

-- one of the four cases
chosen : {A : Type 0} (b c d : Bool) (x y z w r : A) → cond b x (cond c y (cond d z w)) ≡ r
    → ((b ≡ true) × (x ≡ r)) ⊎ ((b ≡ false) × (c ≡ true) × (y ≡ r)) ⊎ ((d ≡ true) × (z ≡ r)) ⊎ (w ≡ r)
chosen true c d x y z w r e = inl (refl, e)
chosen false true d x y z w r e = inr (inl (refl, refl, e))
chosen false false true x y z w r e = inr (inr (inl (refl, e)))
chosen false false false x y z w r e = inr (inr (inr e))

set_bytes : (ws : List ℕ) (n : ℕ) → length ws ≡ n → n ∷ flat_map bytes_of_word ws ≡ bytes_of_value (Set ws)
unfolding bytes_of_value
set_bytes ws n e = ap (λ k. k ∷ flat_map bytes_of_word ws) (sym e)

any_bytes : 0 ∷ [] ≡ bytes_of_value any_val
unfolding bytes_of_value
any_bytes = refl

any_well : (version : ℕ) → IsWellFormedCertValue version any_val
any_well version = (omega arith, omega (arith, (width_le version).1), omega arith)

some_count : (n : ℕ) → eqb n 0 ≡ false → 1 ≤ n
some_count zero e = absurd (let f : true ≡ false = e in cc)
some_count (suc n) e = omega arith

in_steps : (n : ℕ) → (leb 240 n && leb n 242) ≡ true → (240 ≤ n) × (n - 240 ≤ 2)
in_steps n e = let h = and_parts (leb 240 n) (leb n 242) e in let a : 240 ≤ n = leb-true _ _ h.0 in let b : n ≤ 242 = leb-true _ _ h.1 in (a, omega arith)

pub value_passed : (version : ℕ) (front rest : List ℕ) (v : Val) (q : Place) → AreBytes rest → value_at version (place_between front rest) ≡ Ok (v, q) → Passed (bytes_of_value v) front rest q × IsWellFormedCertValue version v
unfolding value_at
value_passed version front rest v q bytes e =
    let b = bind_ok (u8_at (place_between front rest)) _ _ e in
    let n : ℕ = b.0.0 in
    let h = byte_passed front rest n b.0.1 bytes b.1 in
    elim (chosen (eqb n 0) (leb n (most_words_of version)) (leb 240 n && leb n 242) _ _ _ _ _ b.2) [
      | inl c ↦
          let f = ok_pair any_val v b.0.1 q c.1 in
          let zeroth : n ≡ 0 = eqb-true _ _ c.0 in
          let part : n ∷ [] ≡ bytes_of_value v = ap (λ k. k ∷ []) zeroth ∙ any_bytes ∙ ap bytes_of_value f.0 in
          (subst (λ (r : Place). Passed (bytes_of_value v) front rest r) f.1 (subst (λ (l : List ℕ). Passed l front rest b.0.1) part h.0), subst (IsWellFormedCertValue version) f.0 (any_well version))
      | inr (inl c) ↦
          let s = set_passed version n (front ++ n ∷ []) h.0.after v q (passed_bytes h.0 bytes) (some_count n c.0) (leb-true _ _ c.1) (next (set_at n) _ h.0 c.2) in
          let part : n ∷ flat_map bytes_of_word s.0 ≡ bytes_of_value v = set_bytes s.0 n s.2 ∙ ap bytes_of_value (sym s.1) in
          (subst (λ (l : List ℕ). Passed l front rest q) part (passed_both h.0 s.3), subst (IsWellFormedCertValue version) (sym s.1) s.4)
      | inr (inr (inl c)) ↦
          let steps = in_steps n c.0 in
          let s = span_passed version (n - 240) (place_between front rest) (front ++ n ∷ []) h.0.after v q (passed_bytes h.0 bytes) steps.1 (next (span_at version (n - 240) (place_between front rest)) _ h.0 c.1) in
          let byte : n ≡ 240 + (n - 240) = omega arith in
          let part : n ∷ s.0 ≡ bytes_of_value v = ap (λ k. k ∷ s.0) byte ∙ sym s.1 in
          (subst (λ (l : List ℕ). Passed l front rest q) part (passed_both h.0 s.2), s.3)
      | inr (inr (inr c)) ↦ absurd (never _ _ c)
    ]
  where
    never : {A : Type 0} (e : FormErr) (x : A) → ◌≡◌ {A = Result A FormErr} (Err e) (Ok x) → ⊥
    never e x h = cc

pub values_passed : (version n : ℕ) (front rest : List ℕ) (vs : List Val) (q : Place) → AreBytes rest → values_at version n (place_between front rest) ≡ Ok (vs, q)
    → Passed (flat_map bytes_of_value vs) front rest q × (length vs ≡ n) × All (IsWellFormedCertValue version) vs
unfolding values_at
values_passed version n front rest vs q bytes e =
    let m = many_passed (λ before. value_at version) bytes_of_value (All (IsWellFormedCertValue version))
    (λ before front rest x q bytes good e. let h = value_passed version front rest x q bytes e in (h.0, All-push (IsWellFormedCertValue version) before x good h.1))
    n [] vs front rest q bytes (All-nil (IsWellFormedCertValue version)) e in
    (subst (λ (l : List Val). Passed (flat_map bytes_of_value l) front rest q) (sym m.is) m.passed, ap length m.is ∙ m.count, m.good)
