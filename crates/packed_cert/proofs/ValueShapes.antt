-- What value stands at a place, by its first byte.
use Rattle.std.proofs.Common.{◌≡◌, ℕ, zero, suc, ◌+◌, ◌-◌, ◌*◌, ◌<◌, ◌≤◌, ◌⊎◌, inl, inr, List, [], ◌∷◌, ◌++◌, length, get_or, drop, Bool, true, false, cond, Result, Ok, Err, refl, sym, ap, ◌∙◌, subst, arith, append_assoc, leb, eqb, ◌&&◌}
use Rattle.std.proofs.lemmas.Bool.{leb-true, le-leb, lt-leb, ne_eqb, eqb-true, and_parts}
use Rattle.std.proofs.lemmas.List.{append-nil, drop_more}
use Rattle.tcd_base.specs.declared.errors.FormErr.{FormErr}
use Rattle.tcd_base.specs.Bytes.{word_in_bytes}
use Rattle.tcd_base.specs.Place.{Place}
use Rattle.tcd_base.specs.FieldReaders.{u8_at, u32_at, many_fields_at}
use Rattle.tcd_base.proofs.FieldReads.{bind_ok, u8_at_ok, u32_at_ok}
use Rattle.value_domain.specs.declared.values.Val.{Val}
use Rattle.value_domain.specs.declared.values.Val.TheVariants.{Set, Span}
use Rattle.value_domain.specs.Sets.{IsAscending, AreSetWords, IsExtent}
use Rattle.value_domain.specs.Values.{any_val, members, IsWellFormed, IsBelow}
use Rattle.value_domain.proofs.RangeLaws.{below_span}
use Rattle.value_domain.specs.VersionLimits.{most_words_of}
use Rattle.depth_cert.specs.Points.{IsWellFormedCertValue}
use Rattle.depth_cert.specs.Grammar.{valid_field_or_fault, set_word_after, set_at, span_at, value_at, is_above_last, last_number, is_cert_span}
use Rattle.tcd_base.proofs.PassedLaws.{ok_pair, passed_test}
use Rattle.depth_cert.proofs.GrammarLaws.{checked_passed, width_le}
use Rattle.packed_cert.specs.ValuesInBytes.{value_length_by_tag, offset_after_value, place_in_bytes, read_from_bytes_or, words_in_bytes, value_in_bytes, ValueBeginsAt, values_in_bytes, ValuesBeginAt}
use Rattle.packed_cert.proofs.SameBytes.{Small, value_stands}

-- which of four comes
chosen : {A : Type 0} (b c d : Bool) (x y z w r : A) → cond b x (cond c y (cond d z w)) ≡ r
    → ((b ≡ true) × (x ≡ r)) ⊎ ((b ≡ false) × (c ≡ true) × (y ≡ r)) ⊎ ((d ≡ true) × (z ≡ r)) ⊎ (w ≡ r)
chosen true c d x y z w r e = inl (refl, e)
chosen false true d x y z w r e = inr (inl (refl, refl, e))
chosen false false true x y z w r e = inr (inr (inl (refl, e)))
chosen false false false x y z w r e = inr (inr (inr e))

-- the words that were read are those that stand there
words_read : (n : ℕ) (before ws : List ℕ) (p q : Place) → many_fields_at set_word_after n before p ≡ Ok (ws, q) → ws ≡ before ++ words_in_bytes p.bytes p.place n
unfolding many_fields_at set_word_after words_in_bytes
words_read zero before ws p q e = sym (ok_pair before ws p q e).0 ∙ sym (append-nil before)
words_read (suc n) before ws p q e =
    let b = bind_ok (set_word_after before p) (λ x. many_fields_at set_word_after n (before ++ x.0 ∷ []) x.1) (ws, q) e in
    let c = bind_ok (u32_at p) (λ w. valid_field_or_fault 4 (is_above_last (last_number before) w.0) p w) b.0 b.1 in
    let t = checked_passed 4 (is_above_last (last_number before) c.0.0) p c.0 b.0 c.2 in
    let k = u32_at_ok p c.0.0 c.0.1 c.1 in
    let word : b.0.0 ≡ word_in_bytes p.bytes p.place = ap (λ (x : ℕ × Place). x.0) (sym t.1) ∙ k.1 in
    let after : b.0.1 ≡ c.0.1 = ap (λ (x : ℕ × Place). x.1) (sym t.1) in
    let bytes : b.0.1.bytes ≡ p.bytes = ap (λ (x : Place). x.bytes) after ∙ k.0.bytes in
    let place : b.0.1.place ≡ p.place + 4 = ap (λ (x : Place). x.place) after ∙ k.0.place in
    words_read n (before ++ b.0.0 ∷ []) ws b.0.1 q b.2
    ∙ ap (λ (l : List ℕ). (before ++ b.0.0 ∷ []) ++ words_in_bytes l b.0.1.place n) bytes
    ∙ ap (λ (k : ℕ). (before ++ b.0.0 ∷ []) ++ words_in_bytes p.bytes k n) place
    ∙ ap (λ (x : ℕ). (before ++ x ∷ []) ++ words_in_bytes p.bytes (p.place + 4) n) word
    ∙ append_assoc before (word_in_bytes p.bytes p.place ∷ []) (words_in_bytes p.bytes (p.place + 4) n)

set_read : (n : ℕ) (v : Val) (p q : Place) → set_at n p ≡ Ok (v, q) → v ≡ Set (words_in_bytes p.bytes p.place n)
unfolding set_at
set_read n v p q e =
    let b = bind_ok (many_fields_at set_word_after n [] p) (λ ws. Ok (Set ws.0, ws.1)) (v, q) e in
    let f = ok_pair (Set b.0.0) v b.0.1 q b.2 in
    sym f.0 ∙ ap (λ (l : List ℕ). Set l) (words_read n [] b.0.0 p b.0.1 b.1)

span_read : (version step : ℕ) (start : Place) (v : Val) (p q : Place) → span_at version step start p ≡ Ok (v, q) → v ≡ Span (word_in_bytes p.bytes p.place) (word_in_bytes p.bytes (p.place + 4)) step
unfolding span_at
span_read version step start v p q e =
    let lo = bind_ok (u32_at p) _ _ e in
    let k = u32_at_ok p lo.0.0 lo.0.1 lo.1 in
    let last = bind_ok (u32_at lo.0.1) _ _ lo.2 in
    let m = u32_at_ok lo.0.1 last.0.0 last.0.1 last.1 in
    let t = passed_test (is_cert_span version lo.0.0 last.0.0 step) (Span lo.0.0 last.0.0 step, last.0.1) (v, q) _ last.2 in
    let value : Span lo.0.0 last.0.0 step ≡ v = ap (λ (x : Val × Place). x.0) t.1 in
    let high : last.0.0 ≡ word_in_bytes p.bytes (p.place + 4) = m.1 ∙ ap (λ (l : List ℕ). word_in_bytes l lo.0.1.place) k.0.bytes ∙ ap (λ (n : ℕ). word_in_bytes p.bytes n) k.0.place in
    sym value ∙ ap (λ (n : ℕ). Span n last.0.0 step) k.1 ∙ ap (λ (n : ℕ). Span (word_in_bytes p.bytes p.place) n step) high

-- the value by its first byte
pub record IsShaped (version : ℕ) (bytes : List ℕ) (x : ℕ) (v : Val) : Type 0 where
  pub any : get_or bytes x 0 ≡ 0 → v ≡ any_val
  pub set : 1 ≤ get_or bytes x 0 → get_or bytes x 0 ≤ 128 → v ≡ Set (words_in_bytes bytes (x + 1) (get_or bytes x 0))
  pub span : 128 < get_or bytes x 0 → (240 ≤ get_or bytes x 0) × (v ≡ Span (word_in_bytes bytes (x + 1)) (word_in_bytes bytes (x + 5)) (get_or bytes x 0 - 240))

never : {A : Type 0} (e : FormErr) (x : A) → ◌≡◌ {A = Result A FormErr} (Err e) (Ok x) → ⊥
never e x h = cc

pub shaped : (version : ℕ) (bytes : List ℕ) (x : ℕ) (v : Val) (q : Place) → value_at version (place_in_bytes bytes x) ≡ Ok (v, q) → IsShaped version bytes x v
unfolding value_at
shaped version bytes x v q e =
    let b = bind_ok (u8_at (place_in_bytes bytes x)) _ _ e in
    let k = u8_at_ok (place_in_bytes bytes x) b.0.0 b.0.1 b.1 in
    let n : ℕ = b.0.0 in
    let tag : n ≡ get_or bytes x 0 = k.1 in
    let next : b.0.1 ≡ place_in_bytes bytes (x + 1) = ap (λ (l : List ℕ). place_in_bytes l b.0.1.place) k.0.bytes ∙ ap (λ (m : ℕ). place_in_bytes bytes m) k.0.place in
    let far : x + 1 + 4 ≡ x + 5 = omega arith in
    elim (chosen (eqb n 0) (leb n (most_words_of version)) (leb 240 n && leb n 242) _ _ _ _ _ b.2) [
      | inl c ↦
          let f = ok_pair any_val v b.0.1 q c.1 in
          let zeroth : n ≡ 0 = eqb-true _ _ c.0 in
          record { any = λ h. sym f.0; set = λ h l. absurd (omega arith); span = λ h. absurd (omega arith) }
      | inr (inl c) ↦
          let within : n ≤ most_words_of version = leb-true _ _ c.1 in
          let is : v ≡ Set (words_in_bytes bytes (x + 1) (get_or bytes x 0)) = set_read n v (place_in_bytes bytes (x + 1)) q (ap (set_at n) (sym next) ∙ c.2) ∙ ap (λ (m : ℕ). Set (words_in_bytes bytes (x + 1) m)) tag in
          record { any = λ h. absurd (some_count n c.0 (tag ∙ h)); set = λ h l. is; span = λ h. absurd (omega (arith, (width_le version).1)) }
      | inr (inr (inl c)) ↦
          let steps = and_parts (leb 240 n) (leb n 242) c.0 in
          let low : 240 ≤ n = leb-true _ _ steps.0 in
          let is : v ≡ Span (word_in_bytes bytes (x + 1)) (word_in_bytes bytes (x + 5)) (get_or bytes x 0 - 240) =
          span_read version (n - 240) (place_in_bytes bytes x) v (place_in_bytes bytes (x + 1)) q (ap (span_at version (n - 240) (place_in_bytes bytes x)) (sym next) ∙ c.1)
          ∙ ap (λ (m : ℕ). Span (word_in_bytes bytes (x + 1)) (word_in_bytes bytes m) (n - 240)) far
          ∙ ap (λ (m : ℕ). Span (word_in_bytes bytes (x + 1)) (word_in_bytes bytes (x + 5)) (m - 240)) tag
          in
          record { any = λ h. absurd (omega arith); set = λ h l. absurd (omega arith); span = λ h. (omega arith, is) }
      | inr (inr (inr c)) ↦ absurd (never _ _ c)
    ]
  where
    some_count : (n : ℕ) → eqb n 0 ≡ false → n ≡ 0 → ⊥
    some_count zero e h = let f : true ≡ false = e in cc
    some_count (suc n) e h = omega arith

-- all that is known of a value that stands at a place
pub record StandsAt (version : ℕ) (bytes : List ℕ) (x : ℕ) : Type 0 where
  pub shape : IsShaped version bytes x (value_in_bytes version bytes x)
  pub well : IsWellFormedCertValue version (value_in_bytes version bytes x)
  pub inside : x < length bytes
  pub within : offset_after_value bytes x ≤ length bytes
  pub end : value_at version (place_in_bytes bytes x) ≡ Ok (value_in_bytes version bytes x, place_in_bytes bytes (offset_after_value bytes x))

pub stands_at : (version : ℕ) (bytes : List ℕ) (x : ℕ) → Small bytes → ValueBeginsAt version bytes x → StandsAt version bytes x
stands_at version bytes x small h =
    let v = h.0.0 in
    let s = value_stands version bytes x v h.0.1 small h.2 h.1 in
    let same : value_in_bytes version bytes x ≡ v = ap (read_from_bytes_or any_val) h.1 in
    record {
      shape = subst (IsShaped version bytes x) (sym same) (shaped version bytes x v h.0.1 h.1);
      well = subst (IsWellFormedCertValue version) (sym same) s.well;
      inside = s.inside;
      within = s.within;
      end = h.1 ∙ ap (λ (u : Val). let r : Result (Val × Place) FormErr = Ok (u, h.0.1) in r) (sym same) ∙ ap (λ (p : Place). let r : Result (Val × Place) FormErr = Ok (value_in_bytes version bytes x, p) in r) s.end;
    }

pub well_of : (version : ℕ) (v : Val) → IsWellFormedCertValue version v → IsWellFormed v
well_of version (Set ws) h = h.0
well_of version (Span lo last step) h = (h.0, omega (arith, h.1, (width_le version).0), h.2)

pub long_set : (n : ℕ) → 1 ≤ n → n ≤ 128 → value_length_by_tag n ≡ 1 + 4 * n
long_set n some few =
    let not_zero : eqb n 0 ≡ false = ne_eqb _ _ (λ same. let s : n ≡ 0 = same in omega arith) in
    let small : leb n 128 ≡ true = le-leb _ _ few in
    rw (not_zero, small) refl

pub long_span : (n : ℕ) → 128 < n → value_length_by_tag n ≡ 9
long_span n many =
    let not_zero : eqb n 0 ≡ false = ne_eqb _ _ (λ same. let s : n ≡ 0 = same in omega arith) in
    let past : leb n 128 ≡ false = lt-leb _ _ many in
    rw (not_zero, past) refl

pub set_rising : (version : ℕ) (ws : List ℕ) → IsWellFormedCertValue version (Set ws) → IsAscending ws
set_rising version ws h = h.0.rising

pub set_good : (version : ℕ) (ws : List ℕ) → IsWellFormedCertValue version (Set ws) → AreSetWords ws
set_good version ws h = h.0

pub well_as : (version : ℕ) (v w : Val) → v ≡ w → IsWellFormedCertValue version v → IsWellFormed w
well_as version v w e h = subst IsWellFormed e (well_of version v h)

-- a value is below a Span exactly where its extent lies in it
pub span_exact : {least greatest step : ℕ} (version : ℕ) (v w : Val) (lo last s : ℕ) → w ≡ Span lo last s → IsWellFormed v → IsWellFormedCertValue version w → IsExtent (members v) least greatest step
    → (lo ≤ least → greatest ≤ last → s ≤ step → IsBelow v w) × (IsBelow v w → (lo ≤ least) × (greatest ≤ last) × (s ≤ step))
span_exact version v w lo last s same well ok e =
    let both = below_span v lo last s well (well_as version w (Span lo last s) same ok).0 e in
    rw same both

-- ---- values in a row
pub length-values_in : (version : ℕ) (bytes : List ℕ) (place n : ℕ) → length (values_in_bytes version bytes place n) ≡ n
length-values_in version bytes place zero = refl
length-values_in version bytes place (suc n) = ap suc (length-values_in version bytes (offset_after_value bytes place) n)

-- the first of those that are left
pub left_first : (version : ℕ) (bytes : List ℕ) (at n i : ℕ) (vs : List Val) → i < n → length vs ≡ n → ValuesBeginAt version bytes at (n - i) → drop i vs ≡ values_in_bytes version bytes at (n - i)
    → ValueBeginsAt version bytes at × ValuesBeginAt version bytes (offset_after_value bytes at) (n - (i + 1)) × (get_or vs i any_val ≡ value_in_bytes version bytes at) × (drop (i + 1) vs ≡ values_in_bytes version bytes (offset_after_value bytes at) (n - (i + 1)))
left_first version bytes at n i vs h len have same =
    let left : n - i ≡ suc (n - (i + 1)) = omega arith in
    let now : ValuesBeginAt version bytes at (suc (n - (i + 1))) = subst (ValuesBeginAt version bytes at) left have in
    let all : get_or vs i any_val ∷ drop (i + 1) vs ≡ values_in_bytes version bytes at (suc (n - (i + 1))) = sym (drop_more vs i any_val (omega arith)) ∙ same ∙ ap (values_in_bytes version bytes at) left in
    (now.0, now.1, ap (λ (l : List Val). get_or l 0 any_val) all, ap (drop 1) all)

-- ---- a single word
one_word : (bytes : List ℕ) (x : ℕ) → words_in_bytes bytes x 1 ≡ word_in_bytes bytes x ∷ []
unfolding words_in_bytes
one_word bytes x = refl

pub one_value : (version : ℕ) (bytes : List ℕ) (x : ℕ) → get_or bytes x 0 ≡ 1 → StandsAt version bytes x → value_in_bytes version bytes x ≡ Set (word_in_bytes bytes (x + 1) ∷ [])
one_value version bytes x e s =
    s.shape.set (omega (arith, e)) (omega (arith, e))
    ∙ ap (λ (n : ℕ). Set (words_in_bytes bytes (x + 1) n)) e
    ∙ ap (λ (ws : List ℕ). Set ws) (one_word bytes (x + 1))

pub one_inside : (bytes : List ℕ) (x : ℕ) → get_or bytes x 0 ≡ 1 → offset_after_value bytes x ≤ length bytes → x + 1 + 4 ≤ length bytes
one_inside bytes x e h =
    let long : value_length_by_tag (get_or bytes x 0) ≡ 5 = ap value_length_by_tag e in
    omega (arith, long)
