-- Bytes that stand at two places are read alike.
use Rattle.std.proofs.Common.{◌≡◌, ℕ, zero, suc, ◌+◌, ◌-◌, ◌*◌, ◌<◌, ◌≤◌, ◌^◌, List, [], ◌∷◌, ◌++◌, length, get_or, take, drop, true, false, Ok, Result, cond, refl, sym, ap, ◌∙◌, subst, arith, append_assoc, length-append, length-drop, eqb, leb}
use Rattle.std.proofs.lemmas.Bool.{le-leb, lt-leb, ne_eqb}
use Rattle.std.proofs.lemmas.List.{append-nil, take-append-drop, take-take, drop-drop, drop-take, length-take, get_or-drop, drop_more}
use Rattle.std.proofs.Math.Seq.{take-append_seam}
use Rattle.std.specs.List.{flat_map}
use Rattle.tcd_base.specs.declared.errors.FormErr.{FormErr}
use Rattle.tcd_base.specs.Bytes.{bytes_of_word}
use Rattle.tcd_base.specs.Place.{Place, place_between}
use Rattle.tcd_base.specs.FieldReaders.{◌>>=◌, many_fields_at}
use Rattle.tcd_base.proofs.FieldReads.{bind_ok}
use Rattle.value_domain.specs.declared.values.Val.{Val}
use Rattle.value_domain.specs.declared.values.Val.TheVariants.{Set, Span}
use Rattle.value_domain.specs.Values.{any_val, is_span_of_all_words}
use Rattle.depth_cert.specs.Points.{IsWellFormedCertValue}
use Rattle.depth_cert.specs.Grammar.{value_at}
use Rattle.depth_cert.specs.Spelling.{bytes_of_value}
use Rattle.tcd_base.proofs.PassedLaws.{AreBytes, bytes_from, Passed, ok_pair}
use Rattle.depth_cert.proofs.GrammarLaws.{value_passed}
use Rattle.depth_cert.proofs.WrittenLaws.{IsRead, value_cases}
use Rattle.packed_cert.specs.RepeatedBytes.{AreBytesRepeated, SkipsRepeatedBytes}
use Rattle.packed_cert.specs.ValuesInBytes.{AreValuesBetween, value_length_by_tag, offset_after_value, place_in_bytes}

-- all bytes are below 256
abbrev pub Small : List ℕ → Type 0
Small bytes = (k : ℕ) → get_or bytes k 0 < 2 ^ 8

pub split : (bytes : List ℕ) (x : ℕ) → x ≤ length bytes → place_in_bytes bytes x ≡ place_between (take x bytes) (drop x bytes)
split bytes x h =
    let len : x ≡ length (take x bytes) = omega (arith, length-take x bytes) in
    ap (λ (l : List ℕ). place_in_bytes l x) (sym (take-append-drop x bytes)) ∙ ap (λ (n : ℕ). place_in_bytes (take x bytes ++ drop x bytes) n) len

pub small_rest : (bytes : List ℕ) (x : ℕ) → Small bytes → AreBytes (drop x bytes)
small_rest bytes x h = bytes_from (drop x bytes) (λ k. rw (get_or-drop x bytes k 0) (h (x + k)))

-- what was passed over at one place is read at another where the same bytes stand
pub moved : {A : Type 0} (read : Place → Result (A × Place) FormErr) (part : List ℕ) (v : A) (bytes : List ℕ) (x y : ℕ) (q : Place)
    → IsRead read part v → Passed part (take x bytes) (drop x bytes) q → y + length part ≤ length bytes
    → take (length part) (drop x bytes) ≡ take (length part) (drop y bytes) → read (place_in_bytes bytes y) ≡ Ok (v, place_in_bytes bytes (y + length part))
moved {A} read part v bytes x y q good h room same =
    let there : take (length part) (drop y bytes) ≡ part = sym same ∙ ap (take (length part)) h.is ∙ take-append_seam part h.after in
    let rest : List ℕ = drop (length part) (drop y bytes) in
    let is : part ++ rest ≡ drop y bytes = ap (λ (l : List ℕ). l ++ rest) (sym there) ∙ take-append-drop (length part) (drop y bytes) in
    let front : List ℕ = take y bytes in
    let whole : (front ++ part) ++ rest ≡ bytes = append_assoc front part rest ∙ ap (λ (l : List ℕ). front ++ l) is ∙ take-append-drop y bytes in
    let len : length (front ++ part) ≡ y + length part = omega (arith, length-append front part, length-take y bytes) in
    ap read (split bytes y (omega arith) ∙ ap (λ (l : List ℕ). place_between front l) (sym is))
    ∙ good.at front rest
    ∙ ap (λ (l : List ℕ). let r : Result (A × Place) FormErr = Ok (v, place_in_bytes l (length (front ++ part))) in r) whole
    ∙ ap (λ (n : ℕ). let r : Result (A × Place) FormErr = Ok (v, place_in_bytes bytes n) in r) len

-- what stands from x to e: it is read wherever its bytes stand
pub record StandsFrom {A : Type 0} (read : Place → Result (A × Place) FormErr) (bytes : List ℕ) (x e : ℕ) (v : A) : Type 0 where
  pub order : x ≤ e
  pub within : e ≤ length bytes
  pub same : (y n : ℕ) → x + n ≡ e → y + n ≤ length bytes → take n (drop x bytes) ≡ take n (drop y bytes) → read (place_in_bytes bytes y) ≡ Ok (v, place_in_bytes bytes (y + n))

pub stands_from : {A : Type 0} (read : Place → Result (A × Place) FormErr) (part : List ℕ) (v : A) (bytes : List ℕ) (x e : ℕ)
    → x ≤ length bytes → IsRead read part v → Passed part (take x bytes) (drop x bytes) (place_in_bytes bytes e) → StandsFrom read bytes x e v
stands_from read part v bytes x e h good p =
    let front : List ℕ = take x bytes in
    let whole : (front ++ part) ++ p.after ≡ bytes = append_assoc front part p.after ∙ ap (λ (l : List ℕ). front ++ l) (sym p.is) ∙ take-append-drop x bytes in
    let place : e ≡ length (front ++ part) = ap (λ (q : Place). q.place) p.at in
    record {
      order = omega (arith, place, length-append front part, length-take x bytes);
      within = omega (arith, place, ap length whole, length-append (front ++ part) p.after);
      same = λ y n len room same.
          let long : length part ≡ n = omega (arith, place, length-append front part, length-take x bytes) in
          rw (← long) (moved read part v bytes x y (place_in_bytes bytes e) good p (omega arith) (rw long same));
    }

-- where the same bytes come again, the same is read
pub read_again : {A : Type 0} (read : Place → Result (A × Place) FormErr) (v : A) (n : ℕ) (bytes : List ℕ) (x e : ℕ) (c d : Place)
    → StandsFrom read bytes x e v → c.bytes ≡ bytes → x + n ≡ e → SkipsRepeatedBytes bytes x n c d → read c ≡ Ok (v, d)
read_again {A} read v n bytes x e c d from b len m =
    let there : c ≡ place_in_bytes bytes c.place = ap (λ (l : List ℕ). place_in_bytes l c.place) b in
    let after : place_in_bytes bytes (c.place + n) ≡ d = ap (λ (l : List ℕ). place_in_bytes l (c.place + n)) (sym b) ∙ sym m.0 in
    ap read there
    ∙ from.same c.place n len m.1 m.2
    ∙ ap (λ (q : Place). let r : Result (A × Place) FormErr = Ok (v, q) in r) after

-- what was read stands where it was read
pub read_there : {A : Type 0} (read : Place → Result (A × Place) FormErr) (v : A) (bytes : List ℕ) (x e : ℕ) (c d : Place)
    → c.bytes ≡ bytes → d.bytes ≡ bytes → x ≡ c.place → e ≡ d.place → read c ≡ Ok (v, d) → read (place_in_bytes bytes x) ≡ Ok (v, place_in_bytes bytes e)
read_there {A} read v bytes x e c d b f from to r =
    let here : place_in_bytes bytes x ≡ c = ap (λ (k : ℕ). place_in_bytes bytes k) from ∙ ap (λ (l : List ℕ). place_in_bytes l c.place) (sym b) in
    let there : d ≡ place_in_bytes bytes e = ap (λ (l : List ℕ). place_in_bytes l d.place) f ∙ ap (λ (k : ℕ). place_in_bytes bytes k) (sym to) in
    ap read here ∙ r ∙ ap (λ (q : Place). let s : Result (A × Place) FormErr = Ok (v, q) in s) there

-- ---- how long a value is
length_words : (ws : List ℕ) → length (flat_map bytes_of_word ws) ≡ 4 * length ws
length_words [] = refl
length_words (w ∷ ws) = let e = length_words ws in omega arith

value_length : (version : ℕ) (v : Val) → IsWellFormedCertValue version v → length (bytes_of_value v) ≡ value_length_by_tag (get_or (bytes_of_value v) 0 0)
unfolding bytes_of_value
value_length version (Set ws) h =
    let not_zero : eqb (length ws) 0 ≡ false = ne_eqb _ _ (λ same. let s : length ws ≡ 0 = same in omega (arith, h.0.some)) in
    let few : leb (length ws) 128 ≡ true = le-leb _ _ h.0.few in
    let e = length_words ws in
    rw (not_zero, few) (omega arith)
value_length version (Span lo last step) h = by_any (is_span_of_all_words lo last step) step
  where
    by_any : (b : _) (step : ℕ) → length (cond b (0 ∷ []) ((240 + step) ∷ bytes_of_word lo ++ bytes_of_word last)) ≡ value_length_by_tag (get_or (cond b (0 ∷ []) ((240 + step) ∷ bytes_of_word lo ++ bytes_of_word last)) 0 0)
    by_any true step = refl
    by_any false step =
        let not_zero : eqb (240 + step) 0 ≡ false = ne_eqb _ _ (λ same. let s : 240 + step ≡ 0 = same in omega arith) in
        let past : leb (240 + step) 128 ≡ false = lt-leb _ _ (omega arith) in
        rw (not_zero, past) refl

-- a value that stands at a place: how far it goes, and that it is read wherever its bytes stand
pub record IsValueAt (version : ℕ) (bytes : List ℕ) (x : ℕ) (v : Val) (q : Place) : Type 0 where
  pub end : q ≡ place_in_bytes bytes (offset_after_value bytes x)
  pub within : offset_after_value bytes x ≤ length bytes
  pub inside : x < length bytes
  pub well : IsWellFormedCertValue version v
  pub same : (y : ℕ) → y + value_length_by_tag (get_or bytes x 0) ≤ length bytes → take (value_length_by_tag (get_or bytes x 0)) (drop x bytes) ≡ take (value_length_by_tag (get_or bytes x 0)) (drop y bytes)
      → value_at version (place_in_bytes bytes y) ≡ Ok (v, place_in_bytes bytes (y + value_length_by_tag (get_or bytes x 0)))

length_by_some : (tag : ℕ) → 1 ≤ value_length_by_tag tag
length_by_some tag = grind (arith)

pub value_stands : (version : ℕ) (bytes : List ℕ) (x : ℕ) (v : Val) (q : Place) → Small bytes → x ≤ length bytes → value_at version (place_in_bytes bytes x) ≡ Ok (v, q) → IsValueAt version bytes x v q
value_stands version bytes x v q small h e =
    let front : List ℕ = take x bytes in
    let p = value_passed version front (drop x bytes) v q (small_rest bytes x small) (ap (value_at version) (sym (split bytes x h)) ∙ e) in
    let part : List ℕ = bytes_of_value v in
    let some : 1 ≤ value_length_by_tag (get_or part 0 0) = length_by_some (get_or part 0 0) in
    let long = value_length version v p.1 in
    let head : get_or bytes x 0 ≡ get_or part 0 0 =
    let i : x + 0 ≡ x = omega arith in
    ap (λ (n : ℕ). get_or bytes n 0) (sym i) ∙ sym (get_or-drop x bytes 0 0) ∙ ap (λ (l : List ℕ). get_or l 0 0) p.0.is ∙ first part p.0.after (omega arith)
    in
    let len : length part ≡ value_length_by_tag (get_or bytes x 0) = long ∙ ap value_length_by_tag (sym head) in
    let whole : (front ++ part) ++ p.0.after ≡ bytes = append_assoc front part p.0.after ∙ ap (λ (l : List ℕ). front ++ l) (sym p.0.is) ∙ take-append-drop x bytes in
    let place : length (front ++ part) ≡ offset_after_value bytes x = omega (arith, length-append front part, length-take x bytes) in
    record {
      end = p.0.at ∙ ap (λ (l : List ℕ). place_in_bytes l (length (front ++ part))) whole ∙ ap (λ (n : ℕ). place_in_bytes bytes n) place;
      within = omega (arith, ap length whole, length-append (front ++ part) p.0.after);
      inside = omega (arith, ap length whole, length-append (front ++ part) p.0.after);
      well = p.1;
      same = λ y room same. rw (← len) (moved (value_at version) part v bytes x y q (value_cases version v p.1) p.0 (omega arith) (rw len same));
    }
  where
    first : (xs ys : List ℕ) → 1 ≤ length xs → get_or (xs ++ ys) 0 0 ≡ get_or xs 0 0
    first [] ys h = absurd (omega arith)
    first (x ∷ xs) ys h = refl

-- ---- many values
pub record AreValuesAt (version : ℕ) (bytes : List ℕ) (x n : ℕ) (before vs : List Val) (end : ℕ) : Type 0 where
  pub values : List Val
  pub is : vs ≡ before ++ values
  pub count : length values ≡ n
  pub stand : AreValuesBetween version bytes x values end

pub values_stand : (version : ℕ) (bytes : List ℕ) (n x : ℕ) (before vs : List Val) (q : Place) → Small bytes → x ≤ length bytes
    → many_fields_at (λ before. value_at version) n before (place_in_bytes bytes x) ≡ Ok (vs, q) → AreValuesAt version bytes x n before vs q.place
unfolding many_fields_at
values_stand version bytes zero x before vs q small h e =
    let same = ok_pair before vs (place_in_bytes bytes x) q e in
    record { values = []; is = sym same.0 ∙ sym (append-nil before); count = refl; stand = ap (λ (p : Place). p.place) same.1 }
values_stand version bytes (suc n) x before vs q small h e =
    let b = bind_ok (value_at version (place_in_bytes bytes x)) _ _ e in
    let one = value_stands version bytes x b.0.0 b.0.1 small h b.1 in
    let rest : many_fields_at (λ before. value_at version) n (before ++ b.0.0 ∷ []) (place_in_bytes bytes (offset_after_value bytes x)) ≡ Ok (vs, q) = ap (many_fields_at (λ before. value_at version) n (before ++ b.0.0 ∷ [])) (sym one.end) ∙ b.2 in
    let more = values_stand version bytes n (offset_after_value bytes x) (before ++ b.0.0 ∷ []) vs q small one.within rest in
    record {
      values = b.0.0 ∷ more.values;
      is = more.is ∙ append_assoc before (b.0.0 ∷ []) more.values;
      count = ap suc more.count;
      stand = (b.1 ∙ ap (λ (p : Place). let r : Result (Val × Place) FormErr = Ok (b.0.0, p) in r) one.end, more.stand);
    }

pub stand_next : (version : ℕ) (bytes : List ℕ) (b i e : ℕ) (out : List Val) → i < length out → AreValuesBetween version bytes b (drop i out) e
    → (value_at version (place_in_bytes bytes b) ≡ Ok (get_or out i any_val, place_in_bytes bytes (offset_after_value bytes b))) × AreValuesBetween version bytes (offset_after_value bytes b) (drop (i + 1) out) e
stand_next version bytes b i e out h s = subst (λ (vs : List Val). AreValuesBetween version bytes b vs e) (drop_more out i any_val h) s

pub stand_order : (version : ℕ) (bytes : List ℕ) (x e : ℕ) (vs : List Val) → AreValuesBetween version bytes x vs e → x ≤ e
stand_order version bytes x e [] s = let same : x ≡ e = s in omega arith
stand_order version bytes x e (v ∷ vs) s = let more : offset_after_value bytes x ≤ e = stand_order version bytes (offset_after_value bytes x) e vs s.1 in omega arith

-- ---- fewer of the bytes that stand alike, and those behind them
pub alike_fewer : (bytes : List ℕ) (x y n k : ℕ) → n ≤ k → AreBytesRepeated bytes x y k → AreBytesRepeated bytes x y n
alike_fewer bytes x y n k h e = sym (take-take n k (drop x bytes) h) ∙ ap (take n) e ∙ take-take n k (drop y bytes) h

pub alike_behind : (bytes : List ℕ) (x y n k : ℕ) → n ≤ k → AreBytesRepeated bytes x y k → AreBytesRepeated bytes (x + n) (y + n) (k - n)
alike_behind bytes x y n k h e =
    let all : k ≡ n + (k - n) = omega arith in
    let whole : AreBytesRepeated bytes x y (n + (k - n)) = subst (λ (m : ℕ). AreBytesRepeated bytes x y m) all e in
    ap (take (k - n)) (sym (drop-drop n x bytes))
    ∙ sym (drop-take n (k - n) (drop x bytes))
    ∙ ap (drop n) whole
    ∙ drop-take n (k - n) (drop y bytes)
    ∙ ap (take (k - n)) (drop-drop n y bytes)

-- a value whose bytes are among those that stand alike is read there, too
pub alike_read : (version : ℕ) (bytes : List ℕ) (x y n k : ℕ) (v : Val) (q : Place) → Small bytes → x ≤ length bytes → value_at version (place_in_bytes bytes x) ≡ Ok (v, q) → n ≡ value_length_by_tag (get_or bytes x 0)
    → n ≤ k → y + k ≤ length bytes → AreBytesRepeated bytes x y k → value_at version (place_in_bytes bytes y) ≡ Ok (v, place_in_bytes bytes (y + n))
alike_read version bytes x y n k v q small h e len few room same =
    let s = value_stands version bytes x v q small h e in
    let part = alike_fewer bytes x y n k few same in
    let within : y + n ≤ length bytes = omega arith in
    rw len (s.same y (rw (← len) within) (rw (← len) part))

-- where all bytes of values stand alike, all of them are read there
pub rest_read : (version : ℕ) (bytes : List ℕ) (x y e : ℕ) (before vs : List Val) → Small bytes → x ≤ length bytes → AreValuesBetween version bytes x vs e → y + (e - x) ≤ length bytes → AreBytesRepeated bytes x y (e - x)
    → many_fields_at (λ before. value_at version) (length vs) before (place_in_bytes bytes y) ≡ Ok (before ++ vs, place_in_bytes bytes (y + (e - x)))
unfolding many_fields_at
rest_read version bytes x y e before [] small h s room same =
    let end : y ≡ y + (e - x) = let is : x ≡ e = s in omega arith in
    ap (λ (l : List Val). let r : Result (List Val × Place) FormErr = Ok (l, place_in_bytes bytes y) in r) (sym (append-nil before))
    ∙ ap (λ (k : ℕ). let r : Result (List Val × Place) FormErr = Ok (before ++ [], place_in_bytes bytes k) in r) end
rest_read version bytes x y e before (v ∷ vs) small h s room same =
    let n : ℕ = value_length_by_tag (get_or bytes x 0) in
    let one = value_stands version bytes x v _ small h s.0 in
    let order : x + n ≤ e = stand_order version bytes (offset_after_value bytes x) e vs s.1 in
    let few : n ≤ e - x = omega arith in
    let read = alike_read version bytes x y n (e - x) v _ small h s.0 refl few room same in
    let left : e - x - n ≡ e - (x + n) = omega arith in
    let rest : AreBytesRepeated bytes (x + n) (y + n) (e - (x + n)) = subst (λ (k : ℕ). AreBytesRepeated bytes (x + n) (y + n) k) left (alike_behind bytes x y n (e - x) few same) in
    let more = rest_read version bytes (x + n) (y + n) e (before ++ v ∷ []) vs small one.within s.1 (omega arith) rest in
    let end : y + n + (e - (x + n)) ≡ y + (e - x) = omega arith in
    ap (λ (r : Result (Val × Place) FormErr). r >>= λ x. many_fields_at (λ before. value_at version) (length vs) (before ++ x.0 ∷ []) x.1) read
    ∙ more
    ∙ ap (λ (l : List Val). let r : Result (List Val × Place) FormErr = Ok (l, place_in_bytes bytes (y + n + (e - (x + n)))) in r) (append_assoc before (v ∷ []) vs)
    ∙ ap (λ (k : ℕ). let r : Result (List Val × Place) FormErr = Ok (before ++ v ∷ vs, place_in_bytes bytes k) in r) end

-- so where all bytes behind the first values stand alike, all values are read
pub all_read : (version n i x y stop e : ℕ) (bytes : List ℕ) (out : List Val) (c : Place) → Small bytes → stop ≡ e → x ≤ stop → stop ≤ length bytes → length out ≡ n → AreValuesBetween version bytes x (drop i out) e
    → y + (stop - x) ≤ length bytes → AreBytesRepeated bytes x y (stop - x) → many_fields_at (λ before. value_at version) n [] c ≡ many_fields_at (λ before. value_at version) (n - i) (take i out) (place_in_bytes bytes y)
    → many_fields_at (λ before. value_at version) n [] c ≡ Ok (out, place_in_bytes bytes (y + (stop - x)))
all_read version n i x y stop e bytes out c small is order within count stand room same read =
    let there : AreValuesBetween version bytes x (drop i out) stop = subst (λ (k : ℕ). AreValuesBetween version bytes x (drop i out) k) (sym is) stand in
    let rest = rest_read version bytes x y stop (take i out) (drop i out) small (omega arith) there room same in
    let left : n - i ≡ length (drop i out) = omega (arith, length-drop i out) in
    read
    ∙ ap (λ (k : ℕ). many_fields_at (λ before. value_at version) k (take i out) (place_in_bytes bytes y)) left
    ∙ rest
    ∙ ap (λ (l : List Val). let r : Result (List Val × Place) FormErr = Ok (l, place_in_bytes bytes (y + (stop - x))) in r) (take-append-drop i out)
