-- The order and limits of a certificate that the grammar gives.
use Rattle.std.proofs.Common.{◌≡◌, ℕ, zero, suc, ◌+◌, ◌≤◌, ◌^◌, List, [], ◌∷◌, ◌++◌, length, map, Bool, true, Option, Ok, refl, sym, ap, ◌∙◌, subst, arith, leb, eqb}
use Rattle.std.proofs.lemmas.Bool.{leb-true}
use Rattle.std.proofs.lemmas.List.Elements.{All-nil, All-push}
use Rattle.std.specs.List.{All, flat_map}
use Rattle.tcd_base.specs.Bytes.{bytes_of_word}
use Rattle.tcd_base.specs.Place.{Place, place_between}
use Rattle.tcd_base.specs.FieldReaders.{u8_at, u32_at, many_fields_at}
use Rattle.tcd_base.proofs.FieldReads.{bind_ok}
use Rattle.value_domain.specs.declared.states.State.{State}
use Rattle.value_domain.specs.VersionLimits.{most_locals_of}
use Rattle.depth_cert.specs.declared.keys.Key.{Key}
use Rattle.depth_cert.specs.declared.points.Point.{Point}
use Rattle.depth_cert.specs.Keys.{cert_flag_byte, key_number, number_of_key, IsKey}
use Rattle.depth_cert.specs.Points.{IsState, IsPoint, AreAscendingPoints, addresses}
use Rattle.depth_cert.specs.Grammar.{valid_field_or_fault, is_above_last, last_number, flag_at, values_at, locals_at, state_at, address_after, point_after, key_after, point_count_at, points_at}
use Rattle.depth_cert.specs.Spelling.{bytes_of_value, bytes_of_state, bytes_of_point, bytes_of_key}
use Rattle.depth_cert.proofs.ManyLaws.{rising_map_push}
use Rattle.tcd_base.proofs.PassedLaws.{AreBytes, Passed, passed_bytes, passed_both, ok_pair, byte_passed, word_passed, many_passed}
use Rattle.depth_cert.proofs.GrammarLaws.{next, checked_passed, flag_passed, values_passed}

-- ---- points
flat_map-flags : (xs : List Bool) → flat_map (λ x. cert_flag_byte x ∷ []) xs ≡ map cert_flag_byte xs
flat_map-flags [] = refl
flat_map-flags (x ∷ xs) = ap (λ (l : List ℕ). cert_flag_byte x ∷ l) (flat_map-flags xs)

locals_passed : (version : ℕ) (front rest : List ℕ) (ls : List Bool) (q : Place) → AreBytes rest → locals_at version (place_between front rest) ≡ Ok (ls, q)
    → Passed (length ls ∷ map cert_flag_byte ls) front rest q × (length ls ≤ most_locals_of version)
unfolding locals_at
locals_passed version front rest ls q bytes e =
    let b = bind_ok (u8_at (place_between front rest)) _ _ e in
    let n : ℕ = b.0.0 in
    let h = byte_passed front rest n b.0.1 bytes b.1 in
    let c = bind_ok (valid_field_or_fault 5 (leb n (most_locals_of version)) (place_between front rest) b.0) _ _ b.2 in
    let t = checked_passed 5 (leb n (most_locals_of version)) (place_between front rest) b.0 c.0 c.1 in
    let left : many_fields_at (λ before. flag_at) n [] b.0.1 ≡ Ok (ls, q) = rw t.1 c.2 in
    let m = many_passed (λ before. flag_at) (λ x. cert_flag_byte x ∷ []) (λ ls. Unit {0}) (λ before front rest x q bytes good e. (flag_passed front rest x q bytes e, tt)) n [] ls (front ++ n ∷ []) h.0.after q (passed_bytes h.0 bytes) tt (next (many_fields_at (λ before. flag_at) n []) _ h.0 left) in
    let count : length ls ≡ n = ap length m.is ∙ m.count in
    let part : flat_map (λ x. cert_flag_byte x ∷ []) m.items ≡ map cert_flag_byte ls = flat_map-flags m.items ∙ ap (map cert_flag_byte) (sym m.is) in
    let most : n ≤ most_locals_of version = leb-true _ _ t.0 in
    (subst (λ k. Passed (k ∷ map cert_flag_byte ls) front rest q) (sym count) (passed_both h.0 (subst (λ (l : List ℕ). Passed l (front ++ n ∷ []) h.0.after q) part m.passed)), omega arith)

state_bytes : (s : State) → cert_flag_byte s.ie ∷ s.ccpn ∷ cert_flag_byte s.lower ∷ length s.locals.items ∷ map cert_flag_byte s.locals.items ++ flat_map bytes_of_value s.regs ≡ bytes_of_state s
unfolding bytes_of_state
state_bytes s = refl

pub state_passed : (version : ℕ) (front rest : List ℕ) (s : State) (q : Place) → AreBytes rest → state_at version (place_between front rest) ≡ Ok (s, q) → Passed (bytes_of_state s) front rest q × IsState version s
unfolding state_at
state_passed version front rest s q bytes e =
    let ie = bind_ok (flag_at (place_between front rest)) _ _ e in
    let h1 = flag_passed front rest ie.0.0 ie.0.1 bytes ie.1 in
    let b1 = passed_bytes h1 bytes in
    let ccpn = bind_ok (u8_at ie.0.1) _ _ ie.2 in
    let h2 = byte_passed _ h1.after ccpn.0.0 ccpn.0.1 b1 (next u8_at _ h1 ccpn.1) in
    let b2 = passed_bytes h2.0 b1 in
    let lower = bind_ok (flag_at ccpn.0.1) _ _ ccpn.2 in
    let h3 = flag_passed _ h2.0.after lower.0.0 lower.0.1 b2 (next flag_at _ h2.0 lower.1) in
    let b3 = passed_bytes h3 b2 in
    let locals = bind_ok (locals_at version lower.0.1) _ _ lower.2 in
    let h4 = locals_passed version _ h3.after locals.0.0 locals.0.1 b3 (next (locals_at version) _ h3 locals.1) in
    let b4 = passed_bytes h4.0 b3 in
    let regs = bind_ok (values_at version 27 locals.0.1) _ _ locals.2 in
    let h5 = values_passed version 27 _ h4.0.after regs.0.0 regs.0.1 b4 (next (values_at version 27) _ h4.0 regs.1) in
    let made : State = record { regs = regs.0.0; ie = ie.0.0; ccpn = ccpn.0.0; lower = lower.0.0; locals = record { items = locals.0.0 } } in
    let f = ok_pair made s regs.0.1 q regs.2 in
    let all : Passed (bytes_of_state made) front rest regs.0.1 = subst (λ (l : List ℕ). Passed l front rest regs.0.1) (state_bytes made) (passed_both h1 (passed_both h2.0 (passed_both h3 (passed_both h4.0 h5.0)))) in (
      subst (λ (r : Place). Passed (bytes_of_state s) front rest r) f.1 (subst (λ (t : State). Passed (bytes_of_state t) front rest regs.0.1) f.0 all),
      subst (IsState version) f.0 (record { regs = h5.1; values = h5.2; ccpn = h2.1; locals = h4.1 }),
    )

point_bytes : (p : Point) → bytes_of_word p.addr ++ bytes_of_state p.state ≡ bytes_of_point p
unfolding bytes_of_point
point_bytes p = refl

-- points that ascend
pub record ArePointsOf (version : ℕ) (ps : List Point) : Type 0 where
  pub rising : AreAscendingPoints ps
  pub each : All (IsPoint version) ps

point_passed : (version : ℕ) (before : List Point) (front rest : List ℕ) (p : Point) (q : Place) → AreBytes rest → ArePointsOf version before → point_after version before (place_between front rest) ≡ Ok (p, q)
    → Passed (bytes_of_point p) front rest q × ArePointsOf version (before ++ p ∷ [])
unfolding point_after address_after
point_passed version before front rest p q bytes good e =
    let addr = bind_ok (address_after (last_number (addresses before)) (place_between front rest)) _ _ e in
    let word = bind_ok (u32_at (place_between front rest)) _ _ addr.1 in
    let t = checked_passed 3 (is_above_last (last_number (addresses before)) word.0.0) (place_between front rest) word.0 addr.0 word.2 in
    let h1 = word_passed front rest addr.0.0 addr.0.1 bytes (word.1 ∙ ap (λ (v : ℕ × Place). Ok v) t.1) in
    let state = bind_ok (state_at version addr.0.1) _ _ addr.2 in
    let h2 = state_passed version _ h1.0.after state.0.0 state.0.1 (passed_bytes h1.0 bytes) (next (state_at version) _ h1.0 state.1) in
    let made : Point = record { addr = addr.0.0; state = state.0.0 } in
    let f = ok_pair made p state.0.1 q state.2 in
    let all : Passed (bytes_of_point made) front rest state.0.1 = subst (λ (l : List ℕ). Passed l front rest state.0.1) (point_bytes made) (passed_both h1.0 h2.0) in
    let above : is_above_last (last_number (addresses before)) addr.0.0 ≡ true = subst (λ (v : ℕ × Place). is_above_last (last_number (addresses before)) v.0 ≡ true) t.1 t.0 in (
      subst (λ (r : Place). Passed (bytes_of_point p) front rest r) f.1 (subst (λ (t : Point). Passed (bytes_of_point t) front rest state.0.1) f.0 all),
      subst (λ (t : Point). ArePointsOf version (before ++ t ∷ [])) f.0 (record {
        rising = rising_map_push (λ p. p.addr) before made good.rising above;
        each = All-push (IsPoint version) before made good.each (record { addr = h1.1; state = h2.1 });
      }),
    )

pub points_passed : (version used : ℕ) (front rest : List ℕ) (ps : List Point) (q : Place) → AreBytes rest → points_at version used (place_between front rest) ≡ Ok (ps, q)
    → Passed (bytes_of_word (length ps) ++ flat_map bytes_of_point ps) front rest q × ArePointsOf version ps × (used + length ps ≤ 2 ^ 16)
unfolding points_at point_count_at
points_passed version used front rest ps q bytes e =
    let b = bind_ok (point_count_at used (place_between front rest)) _ _ e in
    let word = bind_ok (u32_at (place_between front rest)) _ _ b.1 in
    let t = checked_passed 5 (leb (used + word.0.0) (2 ^ 16)) (place_between front rest) word.0 b.0 word.2 in
    let n : ℕ = b.0.0 in
    let h = word_passed front rest n b.0.1 bytes (word.1 ∙ ap (λ (v : ℕ × Place). Ok v) t.1) in
    let few : used + n ≤ 2 ^ 16 = leb-true _ _ (subst (λ (v : ℕ × Place). leb (used + v.0) (2 ^ 16) ≡ true) t.1 t.0) in
    let m = many_passed (point_after version) bytes_of_point (ArePointsOf version) (point_passed version) n [] ps (front ++ bytes_of_word n) h.0.after q (passed_bytes h.0 bytes)
    (record { rising = λ k h. absurd (omega arith); each = All-nil (IsPoint version) }) (next (many_fields_at (point_after version) n []) _ h.0 b.2) in
    let count : length ps ≡ n = ap length m.is ∙ m.count in
    let items : Passed (flat_map bytes_of_point ps) (front ++ bytes_of_word n) h.0.after q = subst (λ (l : List Point). Passed (flat_map bytes_of_point l) (front ++ bytes_of_word n) h.0.after q) (sym m.is) m.passed in
    (subst (λ k. Passed (bytes_of_word k ++ flat_map bytes_of_point ps) front rest q) (sym count) (passed_both h.0 items), m.good, omega arith)

-- ---- nodes
key_bytes : (k : Key) → k.kind ∷ bytes_of_word k.entry ++ (k.prio ∷ cert_flag_byte k.is ∷ []) ≡ bytes_of_key k
unfolding bytes_of_key
key_bytes k = refl

is_byte : (n : ℕ) → n ≤ 1 → n ≡ cert_flag_byte (eqb n 1)
is_byte zero h = refl
is_byte (suc zero) h = refl
is_byte (suc (suc n)) h = absurd (omega arith)

pub key_passed : (last : Option ℕ) (front rest : List ℕ) (k : Key) (q : Place) → AreBytes rest → key_after last (place_between front rest) ≡ Ok (k, q)
    → Passed (bytes_of_key k) front rest q × IsKey k × (is_above_last last (number_of_key k) ≡ true)
unfolding key_after
key_passed last front rest k q bytes e =
    let kind = bind_ok (u8_at (place_between front rest)) _ _ e in
    let h1 = byte_passed front rest kind.0.0 kind.0.1 bytes kind.1 in
    let b1 = passed_bytes h1.0 bytes in
    let kept = bind_ok (valid_field_or_fault 4 (leb kind.0.0 4) (place_between front rest) kind.0) _ _ kind.2 in
    let t1 = checked_passed 4 (leb kind.0.0 4) (place_between front rest) kind.0 kept.0 kept.1 in
    let same : kind.0.0 ≡ kept.0.0 = ap (λ (v : ℕ × Place). v.0) t1.1 in
    let at : kind.0.1 ≡ kept.0.1 = ap (λ (v : ℕ × Place). v.1) t1.1 in
    let entry = bind_ok (u32_at kept.0.1) _ _ kept.2 in
    let h2 = word_passed _ h1.0.after entry.0.0 entry.0.1 b1 (next u32_at _ h1.0 (ap u32_at at ∙ entry.1)) in
    let b2 = passed_bytes h2.0 b1 in
    let prio = bind_ok (u8_at entry.0.1) _ _ entry.2 in
    let h3 = byte_passed _ h2.0.after prio.0.0 prio.0.1 b2 (next u8_at _ h2.0 prio.1) in
    let b3 = passed_bytes h3.0 b2 in
    let is = bind_ok (u8_at prio.0.1) _ _ prio.2 in
    let h4 = byte_passed _ h3.0.after is.0.0 is.0.1 b3 (next u8_at _ h3.0 is.1) in
    let above = bind_ok (valid_field_or_fault 3 (is_above_last last (key_number kept.0.0 entry.0.0 prio.0.0 is.0.0)) (place_between front rest) is.0) _ _ is.2 in
    let t2 = checked_passed 3 (is_above_last last (key_number kept.0.0 entry.0.0 prio.0.0 is.0.0)) (place_between front rest) is.0 above.0 above.1 in
    let flag = bind_ok (valid_field_or_fault 4 (leb above.0.0 1) prio.0.1 above.0) _ _ above.2 in
    let t3 = checked_passed 4 (leb above.0.0 1) prio.0.1 above.0 flag.0 flag.1 in
    let one : is.0 ≡ flag.0 = t2.1 ∙ t3.1 in
    let low : is.0.0 ≤ 1 = leb-true _ _ (subst (λ (v : ℕ × Place). leb v.0 1 ≡ true) (sym t2.1) t3.0) in
    let byte : is.0.0 ≡ cert_flag_byte (eqb is.0.0 1) = is_byte is.0.0 low in
    let made : Key = record { kind = kept.0.0; entry = entry.0.0; prio = prio.0.0; is = eqb flag.0.0 1 } in
    let f = ok_pair made k flag.0.1 q flag.2 in
    let made2 : Key = record { kind = kind.0.0; entry = entry.0.0; prio = prio.0.0; is = eqb is.0.0 1 } in
    let g : made2 ≡ k = ap (λ n. record { kind = n; entry = entry.0.0; prio = prio.0.0; is = eqb is.0.0 1 }) same ∙ ap (λ (v : ℕ × Place). record { kind = kept.0.0; entry = entry.0.0; prio = prio.0.0; is = eqb v.0 1 }) one ∙ f.0 in
    let end : is.0.1 ≡ q = ap (λ (v : ℕ × Place). v.1) one ∙ f.1 in
    let all : Passed (bytes_of_key made2) front rest is.0.1 =
    subst (λ (l : List ℕ). Passed l front rest is.0.1) (ap (λ n. kind.0.0 ∷ bytes_of_word entry.0.0 ++ (prio.0.0 ∷ n ∷ [])) byte ∙ key_bytes made2) (passed_both h1.0 (passed_both h2.0 (passed_both h3.0 h4.0))) in
    let kind_low : kind.0.0 ≤ 4 = leb-true _ _ t1.0 in (
      subst (λ (r : Place). Passed (bytes_of_key k) front rest r) end (subst (λ (x : Key). Passed (bytes_of_key x) front rest is.0.1) g all),
      subst IsKey g (record { kind = kind_low; entry = h2.1; prio = h3.1 }),
      subst (λ (x : Key). is_above_last last (number_of_key x) ≡ true) g
          (ap (λ n. is_above_last last (key_number kind.0.0 entry.0.0 prio.0.0 n)) (sym byte) ∙ ap (λ n. is_above_last last (key_number n entry.0.0 prio.0.0 is.0.0)) same ∙ t2.0),
    )
