-- A certificate that was written is read back.
use Rattle.std.proofs.Common.{◌≡◌, ℕ, zero, suc, ◌+◌, ◌-◌, ◌<◌, ◌≤◌, ◌^◌, inl, List, [], ◌∷◌, ◌++◌, length, get_or, map, Bool, true, false, cond, Result, Ok, refl, sym, ap, ◌∙◌, subst, arith, append_assoc, length-append, ltb, leb, eqb, ◌&&◌}
use Rattle.std.proofs.lemmas.Bool.{lt-ltb, le-leb, ne_eqb, lt-leb, and_parts, eqb-true}
use Rattle.std.proofs.lemmas.List.{append-nil, map-append, get_or_append_left, get_or_default}
use Rattle.std.proofs.Math.Seq.{get_or-append_seam}
use Rattle.value_domain.proofs.CoverLaws.{step_cases}
use Rattle.value_domain.proofs.Loops.{among_get}
use Rattle.std.specs.List.{All, flat_map}
use Rattle.std.specs.List.Sorted.{IsStrictlyIncreasing}
use Rattle.tcd_base.specs.declared.errors.FormErr.{FormErr}
use Rattle.tcd_base.specs.Bytes.{bytes_of_half, bytes_of_word}
use Rattle.tcd_base.specs.Place.{Place, place_between}
use Rattle.tcd_base.specs.FieldReaders.{◌>>=◌, u8_at, u16_at, u32_at, many_fields_at}
use Rattle.tcd_base.proofs.FieldReads.{u8_at-between, u16_at-between, u32_at-between}
use Rattle.value_domain.specs.declared.values.Val.{Val}
use Rattle.value_domain.specs.declared.values.Val.TheVariants.{Set, Span}
use Rattle.value_domain.specs.Sets.{AreSetWords, IsAscending}
use Rattle.value_domain.specs.Values.{any_val, span_len, is_span_of_all_words}
use Rattle.value_domain.specs.VersionLimits.{most_words_of}
use Rattle.depth_cert.specs.Keys.{cert_flag_byte}
use Rattle.depth_cert.specs.Points.{IsWellFormedCertValue}
use Rattle.depth_cert.specs.Grammar.{valid_field_or_fault, is_above_last, last_number, is_cert_span, flag_at, set_word_after, set_at, span_at, value_at, values_at}
use Rattle.depth_cert.specs.Spelling.{bytes_of_value}
use Rattle.depth_cert.proofs.ManyLaws.{is_above-last}
use Rattle.depth_cert.proofs.GrammarLaws.{width_le}

-- the part is read as x, whatever is before and after it
pub record IsRead {A : Type 0} (read : Place → Result (A × Place) FormErr) (part : List ℕ) (x : A) : Type 0 where
  pub at : (front rest : List ℕ) → read (place_between front (part ++ rest)) ≡ Ok (x, place_between (front ++ part) rest)

-- nothing more is read
pub done : {A : Type 0} (x : A) → IsRead (λ p. Ok (x, p)) [] x
done {A} x = record { at = λ front rest. ap (λ (l : List ℕ). let r : Result (A × Place) FormErr = Ok (x, place_between l rest) in r) (sym (append-nil front)) }

-- one part after another
pub seq : {A B : Type 0} (r : Place → Result (A × Place) FormErr) (f : Place → A × Place → Result (B × Place) FormErr) (a b : List ℕ) (x : A) (y : B)
    → IsRead r a x → ((start : Place) → IsRead (λ p. f start (x, p)) b y) → IsRead (λ p. r p >>= f p) (a ++ b) y
seq {A} {B} r f a b x y first second = record {
  at = λ front rest.
      let whole : Place = place_between front ((a ++ b) ++ rest) in
      let start : r whole ≡ Ok (x, place_between (front ++ a) (b ++ rest)) = ap (λ (l : List ℕ). r (place_between front l)) (append_assoc a b rest) ∙ first.at front (b ++ rest) in
      ap (λ (s : Result (A × Place) FormErr). s >>= f whole) start
      ∙ (second whole).at (front ++ a) rest
      ∙ ap (λ (l : List ℕ). let s : Result (B × Place) FormErr = Ok (y, place_between l rest) in s) (append_assoc front a b);
}

-- a field that passes its test
pub test : (kind : ℕ) (good : Bool) (start : Place) (n : ℕ) → good ≡ true → IsRead (λ p. valid_field_or_fault kind good start (n, p)) [] n
test kind good start n e = record { at = λ front rest. rw e ((done n).at front rest) }

pub byte : (n : ℕ) → IsRead u8_at (n ∷ []) n
byte n = record { at = λ front rest. u8_at-between front n rest }

pub half : (n : ℕ) → n < 2 ^ 16 → IsRead u16_at (bytes_of_half n) n
half n h = record { at = λ front rest. u16_at-between front n rest h }

pub word : (n : ℕ) → n < 2 ^ 32 → IsRead u32_at (bytes_of_word n) n
word n h = record { at = λ front rest. u32_at-between front n rest h }

-- ---- many items
pub many_read : {A : Type 0} (item : List A → Place → Result (A × Place) FormErr) (spell : A → List ℕ) (all : List A)
    → ((before : List A) (x : A) (after : List A) → all ≡ before ++ (x ∷ after) → IsRead (item before) (spell x) x)
    → (before ys : List A) (n : ℕ) → all ≡ before ++ ys → length ys ≡ n → IsRead (many_fields_at item n before) (flat_map spell ys) all
unfolding many_fields_at
many_read {A} item spell all each before [] zero e len = let same : before ≡ all = sym (append-nil before) ∙ sym e in subst (λ (l : List A). IsRead (λ p. Ok (before, p)) [] l) same (done before)
many_read item spell all each before [] (suc n) e len = absurd (omega arith)
many_read item spell all each before (y ∷ ys) zero e len = absurd (omega arith)
many_read item spell all each before (y ∷ ys) (suc n) e len =
    seq (item before) _ (spell y) (flat_map spell ys) y all (each before y ys e)
    (λ start. many_read item spell all each (before ++ y ∷ []) ys n (e ∙ sym (append_assoc before (y ∷ []) ys)) (omega arith))

-- what holds of all holds of one in the middle
pub one_of : {A : Type 0} (P : A → Type 0) (all before : List A) (x : A) (after : List A) → All P all → all ≡ before ++ (x ∷ after) → P x
one_of P all before x after h e =
    let within : length before < length all = rw (e, length-append before (x ∷ after)) (omega arith) in
    subst P (ap (λ (l : List _). get_or l (length before) x) e ∙ get_or-append_seam before x after x) (h (length before) x within)

above_before : (before : List ℕ) (x : ℕ) (after : List ℕ) → IsStrictlyIncreasing (before ++ (x ∷ after)) → is_above_last (last_number before) x ≡ true
above_before [] x after h = refl
above_before (y ∷ ys) x after h =
    let before : List ℕ = y ∷ ys in
    let next : length before - 1 + 1 ≡ length before = omega arith in
    let low = get_or_append_left before (x ∷ after) 0 (length before - 1) (omega arith) in
    let high : get_or (before ++ (x ∷ after)) (length before - 1 + 1) 0 ≡ x = ap (λ k. get_or (before ++ (x ∷ after)) k 0) next ∙ get_or-append_seam before x after 0 in
    let rises = h (length before - 1) (omega (arith, length-append before (x ∷ after))) in
    is_above-last before x (omega arith) ∙ lt-ltb _ _ (omega arith)

pub above_map : {A : Type 0} (f : A → ℕ) (all before : List A) (x : A) (after : List A) → IsStrictlyIncreasing (map f all) → all ≡ before ++ (x ∷ after) → is_above_last (last_number (map f before)) (f x) ≡ true
above_map f all before x after h e =
    above_before (map f before) (f x) (map f after) (subst IsStrictlyIncreasing (ap (map f) e ∙ map-append f before (x ∷ after)) h)

-- ---- values
pub flag : (x : Bool) → IsRead flag_at (cert_flag_byte x ∷ []) x
unfolding flag_at
flag true = seq u8_at _ (1 ∷ []) [] 1 true (byte 1) (λ start. done true)
flag false = seq u8_at _ (0 ∷ []) [] 0 false (byte 0) (λ start. done false)

word_read : (all before : List ℕ) (x : ℕ) (after : List ℕ) → IsStrictlyIncreasing all → All (λ w. w < 2 ^ 32) all → all ≡ before ++ (x ∷ after) → IsRead (set_word_after before) (bytes_of_word x) x
unfolding set_word_after
word_read all before x after rising below e =
    let above : is_above_last (last_number before) x ≡ true = above_before before x after (subst IsStrictlyIncreasing e rising) in
    subst (λ (l : List ℕ). IsRead (λ p. u32_at p >>= λ w. valid_field_or_fault 4 (is_above_last (last_number before) w.0) p w) l x) (append-nil (bytes_of_word x))
    (seq u32_at (λ p w. valid_field_or_fault 4 (is_above_last (last_number before) w.0) p w) (bytes_of_word x) [] x x (word x (one_of (λ w. w < 2 ^ 32) all before x after below e)) (λ start. test 4 (is_above_last (last_number before) x) start x above))

set_read : (version : ℕ) (ws : List ℕ) → IsStrictlyIncreasing ws → All (λ w. w < 2 ^ 32) ws → IsRead (set_at (length ws)) (flat_map bytes_of_word ws) (Set ws)
unfolding set_at
set_read version ws rising below =
    subst (λ (l : List ℕ). IsRead (λ p. many_fields_at set_word_after (length ws) [] p >>= λ ws. Ok (Set ws.0, ws.1)) l (Set ws)) (append-nil (flat_map bytes_of_word ws))
    (seq (many_fields_at set_word_after (length ws) []) (λ p ws. Ok (Set ws.0, ws.1)) (flat_map bytes_of_word ws) [] ws (Set ws)
    (many_read set_word_after bytes_of_word ws (λ before x after e. word_read ws before x after rising below e) [] ws (length ws) refl refl)
    (λ start. done (Set ws)))

span_read : (version step : ℕ) (start : Place) (lo last : ℕ) → lo < 2 ^ 32 → last < 2 ^ 32 → is_cert_span version lo last step ≡ true → IsRead (span_at version step start) (bytes_of_word lo ++ bytes_of_word last) (Span lo last step)
unfolding span_at
span_read version step start lo last small below good =
    subst (λ (l : List ℕ). IsRead (span_at version step start) (bytes_of_word lo ++ l) (Span lo last step)) (append-nil (bytes_of_word last))
    (seq u32_at _ (bytes_of_word lo) (bytes_of_word last ++ []) lo (Span lo last step) (word lo small)
    (λ p0. seq u32_at _ (bytes_of_word last) [] last (Span lo last step) (word last below) (λ p1. record { at = λ front rest. rw good ((done (Span lo last step)).at front rest) })))

-- words with their facts
rising_steps : (ws : List ℕ) → IsAscending ws → IsStrictlyIncreasing ws
rising_steps [] r k h = absurd (omega arith)
rising_steps (x ∷ []) r k h = absurd (omega arith)
rising_steps (x ∷ y ∷ ys) r zero h = r.0 y (inl refl)
rising_steps (x ∷ y ∷ ys) r (suc k) h =
    let rest : get_or (y ∷ ys) k 0 < get_or (y ∷ ys) (k + 1) 0 = rising_steps (y ∷ ys) r.1 k (omega arith) in
    let e : suc k + 1 ≡ suc (k + 1) = omega arith in
    rw e rest

rising_words : (ws : List ℕ) → AreSetWords ws → IsStrictlyIncreasing ws
rising_words ws a = rising_steps ws a.rising

below_words : (ws : List ℕ) → AreSetWords ws → All (λ w. w < 2 ^ 32) ws
below_words ws a k d h = subst (λ n. n < 2 ^ 32) (get_or_default ws k 0 d h) (a.below (get_or ws k 0) (among_get ws k h))

lo_small : (step : ℕ) → step ≤ 2 → (lo last : ℕ) → 1 ≤ span_len lo last step → last < 2 ^ 32 → lo < 2 ^ 32
lo_small =
    step_cases (λ s. (lo last : ℕ) → 1 ≤ span_len lo last s → last < 2 ^ 32 → lo < 2 ^ 32)
    (λ lo last h b. omega arith)
    (λ lo last h b. omega arith)
    (λ lo last h b. omega arith)

pub value_cases : (version : ℕ) (v : Val) → IsWellFormedCertValue version v → IsRead (value_at version) (bytes_of_value v) v
unfolding value_at bytes_of_value
value_cases version (Set ws) h =
    let not_zero : eqb (length ws) 0 ≡ false = ne_eqb _ _ (λ same. let s : length ws ≡ 0 = same in omega (arith, h.0.some)) in
    let in_width : leb (length ws) (most_words_of version) ≡ true = le-leb _ _ h.1 in
    seq u8_at _ (length ws ∷ []) (flat_map bytes_of_word ws) (length ws) (Set ws) (byte (length ws))
    (λ start. record { at = λ front rest. rw (not_zero, in_width) ((set_read version ws (rising_words ws h.0) (below_words ws h.0)).at front rest) })
value_cases version (Span lo last step) h = by_any (is_span_of_all_words lo last step) version lo last step h refl
  where
    by_any : (any : Bool) (version lo last step : ℕ) → IsWellFormedCertValue version (Span lo last step) → is_span_of_all_words lo last step ≡ any
        → IsRead (value_at version) (cond any (0 ∷ []) ((240 + step) ∷ bytes_of_word lo ++ bytes_of_word last)) (Span lo last step)
    by_any true version lo last step h e =
        let parts = and_parts (eqb lo 0 && eqb last 4294967295) (eqb step 0) e in
        let ends = and_parts (eqb lo 0) (eqb last 4294967295) parts.0 in
        let a : lo ≡ 0 = eqb-true _ _ ends.0 in
        let b : last ≡ 4294967295 = eqb-true _ _ ends.1 in
        let c : step ≡ 0 = eqb-true _ _ parts.1 in
        let whole : any_val ≡ Span lo last step = cc in
        subst (λ (v : Val). IsRead (value_at version) (0 ∷ []) v) whole (seq u8_at _ (0 ∷ []) [] 0 any_val (byte 0) (λ start. done any_val))
    by_any false version lo last step h e =
        let not_zero : eqb (240 + step) 0 ≡ false = ne_eqb _ _ (λ same. let s : 240 + step ≡ 0 = same in omega arith) in
        let past : leb (240 + step) (most_words_of version) ≡ false = lt-leb _ _ (omega (arith, (width_le version).1)) in
        let low : leb 240 (240 + step) ≡ true = le-leb _ _ (omega arith) in
        let high : leb (240 + step) 242 ≡ true = le-leb _ _ (omega (arith, h.0)) in
        let step_is : 240 + step - 240 ≡ step = omega arith in
        let many : ltb (most_words_of version) (span_len lo last step) ≡ true = lt-ltb _ _ h.1 in
        let good : is_cert_span version lo last step ≡ true = rw (many, e) refl in
        seq u8_at _ ((240 + step) ∷ []) (bytes_of_word lo ++ bytes_of_word last) (240 + step) (Span lo last step) (byte (240 + step))
        (λ start. record { at = λ front rest. rw (not_zero, past, low, high, step_is) ((span_read version step start lo last (lo_small step h.0 lo last (omega (arith, h.1)) h.2) h.2 good).at front rest) })

pub values_read : (version n : ℕ) (vs : List Val) → All (IsWellFormedCertValue version) vs → length vs ≡ n → IsRead (values_at version n) (flat_map bytes_of_value vs) vs
unfolding values_at
values_read version n vs each len =
    many_read (λ before. value_at version) bytes_of_value vs (λ before v after e. value_cases version v (one_of (IsWellFormedCertValue version) vs before v after each e)) [] vs n refl len
