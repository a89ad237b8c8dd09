-- What state stands at a place.
use Rattle.std.proofs.Common.{◌≡◌, ℕ, zero, suc, ◌+◌, ◌≤◌, List, [], ◌∷◌, ◌++◌, length, get_or, Bool, true, false, cond, Ok, refl, sym, ap, ◌∙◌, subst, arith, append_assoc, ltb, leb, eqb}
use Rattle.std.proofs.lemmas.Bool.{leb-true}
use Rattle.std.proofs.lemmas.List.{append-nil}
use Rattle.tcd_base.specs.Place.{Place}
use Rattle.tcd_base.specs.FieldReaders.{u8_at, many_fields_at, field_fault_at}
use Rattle.tcd_base.proofs.FieldReads.{bind_ok, u8_at_ok}
use Rattle.value_domain.specs.declared.values.Val.{Val}
use Rattle.value_domain.specs.declared.states.State.{State}
use Rattle.value_domain.specs.Values.{any_val}
use Rattle.value_domain.specs.VersionLimits.{most_locals_of}
use Rattle.depth_cert.specs.declared.points.Exit.{Exit}
use Rattle.depth_cert.specs.Grammar.{valid_field_or_fault, flag_at, values_at, value_at, locals_at, state_at, exit_at}
use Rattle.tcd_base.proofs.PassedLaws.{ok_pair}
use Rattle.depth_cert.proofs.GrammarLaws.{checked_passed, most_le}
use Rattle.packed_cert.specs.ValuesInBytes.{AreValuesBetween, offset_after_value, place_in_bytes, value_in_bytes, values_in_bytes, ValuesBeginAt, read_from_bytes_or}
use Rattle.packed_cert.specs.PointsInBytes.{flags_in_bytes}
use Rattle.packed_cert.proofs.SameBytes.{Small, value_stands, values_stand}

-- a flag takes one byte
pub record FlagTook (p : Place) (b : Bool) (q : Place) : Type 0 where
  pub bytes : q.bytes ≡ p.bytes
  pub place : q.place ≡ p.place + 1
  pub within : p.place + 1 ≤ length p.bytes
  pub is : b ≡ eqb (get_or p.bytes p.place 0) 1

flag_took : (p q : Place) (b : Bool) → flag_at p ≡ Ok (b, q) → FlagTook p b q
unfolding flag_at
flag_took p q b e =
    let u = bind_ok (u8_at p) _ _ e in
    let k = u8_at_ok p u.0.0 u.0.1 u.1 in
    let f = same (ltb 1 u.0.0) (eqb u.0.0 1) b u.0.1 q u.2 in
    record {
      bytes = ap (λ (x : Place). x.bytes) (sym f.1) ∙ k.0.bytes;
      place = ap (λ (x : Place). x.place) (sym f.1) ∙ k.0.place;
      within = k.0.within;
      is = sym f.0 ∙ ap (λ (n : ℕ). eqb n 1) k.1;
    }
  where
    same : (t c b : Bool) (at q : Place) → cond t (field_fault_at {A = Bool × Place} 4 p) (Ok (c, at)) ≡ Ok (b, q) → (c ≡ b) × (at ≡ q)
    same false c b at q h = ok_pair c b at q h
    same true c b at q h = cc

-- flags in a row
record FlagsTook (n : ℕ) (before : List Bool) (p : Place) (ls : List Bool) (q : Place) : Type 0 where
  bytes : q.bytes ≡ p.bytes
  place : q.place ≡ p.place + n
  within : q.place ≤ length p.bytes
  is : ls ≡ before ++ flags_in_bytes p.bytes p.place n

flags_took : (n : ℕ) (before ls : List Bool) (p q : Place) → p.place ≤ length p.bytes → many_fields_at (λ before. flag_at) n before p ≡ Ok (ls, q) → FlagsTook n before p ls q
unfolding many_fields_at
flags_took zero before ls p q h e =
    let f = ok_pair before ls p q e in
    let place : p.place ≡ q.place = ap (λ (x : Place). x.place) f.1 in
    record { bytes = ap (λ (x : Place). x.bytes) (sym f.1); place = omega arith; within = omega arith; is = sym f.0 ∙ sym (append-nil before) }
flags_took (suc n) before ls p q h e =
    let b = bind_ok (flag_at p) _ _ e in
    let k = flag_took p b.0.1 b.0.0 b.1 in
    let same : length b.0.1.bytes ≡ length p.bytes = ap length k.bytes in
    let r = flags_took n (before ++ b.0.0 ∷ []) ls b.0.1 q (omega (arith, k.place, k.within)) b.2 in
    let rest : flags_in_bytes b.0.1.bytes b.0.1.place n ≡ flags_in_bytes p.bytes (p.place + 1) n = ap (λ (l : List ℕ). flags_in_bytes l b.0.1.place n) k.bytes ∙ ap (λ (x : ℕ). flags_in_bytes p.bytes x n) k.place in
    record {
      bytes = r.bytes ∙ k.bytes;
      place = omega (arith, r.place, k.place);
      within = omega (arith, r.within);
      is =
          r.is
          ∙ append_assoc before (b.0.0 ∷ []) (flags_in_bytes b.0.1.bytes b.0.1.place n)
          ∙ ap (λ (l : List Bool). before ++ (b.0.0 ∷ l)) rest
          ∙ ap (λ (x : Bool). before ++ (x ∷ flags_in_bytes p.bytes (p.place + 1) n)) k.is;
    }

-- values that stand are those that are computed
stand_in : (version : ℕ) (bytes : List ℕ) (vs : List Val) (x e : ℕ) → Small bytes → x ≤ length bytes → AreValuesBetween version bytes x vs e → (vs ≡ values_in_bytes version bytes x (length vs)) × ValuesBeginAt version bytes x (length vs)
stand_in version bytes [] x e small h s = (refl, tt)
stand_in version bytes (v ∷ vs) x e small h s =
    let one = value_stands version bytes x v _ small h s.0 in
    let rest = stand_in version bytes vs (offset_after_value bytes x) e small one.within s.1 in
    let first : value_in_bytes version bytes x ≡ v = ap (read_from_bytes_or any_val) s.0 in
    (ap (λ (u : Val). u ∷ vs) (sym first) ∙ ap (λ (l : List Val). value_in_bytes version bytes x ∷ l) rest.0, (((v, place_in_bytes bytes (offset_after_value bytes x)), s.0, h), rest.1))

-- how the context of a state stands at a place
pub record HasContext (version : ℕ) (bytes : List ℕ) (x : ℕ) (s : State) : Type 0 where
  pub inside : x + 4 ≤ length bytes
  pub within : x + 4 + get_or bytes (x + 3) 0 ≤ length bytes
  pub few : get_or bytes (x + 3) 0 ≤ 8
  pub ie : s.ie ≡ eqb (get_or bytes x 0) 1
  pub ccpn : s.ccpn ≡ get_or bytes (x + 1) 0
  pub lower : s.lower ≡ eqb (get_or bytes (x + 2) 0) 1
  pub locals : s.locals.items ≡ flags_in_bytes bytes (x + 4) (get_or bytes (x + 3) 0)
  pub end : Place
  pub end_bytes : end.bytes ≡ bytes
  pub end_place : end.place ≡ x + 4 + get_or bytes (x + 3) 0
  pub last : Place
  pub regs : values_at version 27 end ≡ Ok (s.regs, last)

-- where its values stand
pub record HasValues (version : ℕ) (bytes : List ℕ) (x : ℕ) (s : State) : Type 0 where
  pub regs : s.regs ≡ values_in_bytes version bytes (x + 4 + get_or bytes (x + 3) 0) 27
  pub have : ValuesBeginAt version bytes (x + 4 + get_or bytes (x + 3) 0) 27

end_inside : (p e m n : ℕ) → p ≡ e → p ≤ m → m ≡ n → e ≤ n
end_inside p e m n a b c = omega arith

few_flags : (n k m : ℕ) → n ≡ k → n ≤ m → m ≤ 8 → k ≤ 8
few_flags n k m a b c = omega arith

next_inside : (p q m n : ℕ) → q ≡ p + 1 → p + 1 ≤ m → n ≡ m → q ≤ n
next_inside p q m n a b c = omega arith

end_place : (x p r q n k : ℕ) → p ≡ x + 3 → r ≡ p + 1 → q ≡ r + n → n ≡ k → q ≡ x + 4 + k
end_place x p r q n k a b c d = omega arith

four_on : (x p r : ℕ) → p ≡ x + 3 → r ≡ p + 1 → r ≡ x + 4
four_on x p r a b = omega arith

two_on : (x a b : ℕ) → a ≡ x + 1 → b ≡ a + 1 → b ≡ x + 2
two_on x a b e f = omega arith

three_on : (x a b c : ℕ) → a ≡ x + 1 → b ≡ a + 1 → c ≡ b + 1 → c ≡ x + 3
three_on x a b c e f g = omega arith

four_inside : (x p m n : ℕ) → p ≡ x + 3 → p + 1 ≤ m → m ≡ n → x + 4 ≤ n
four_inside x p m n e h f = omega arith

two_inside : (x p m n : ℕ) → p ≡ x + 1 → p + 1 ≤ m → m ≡ n → x + 2 ≤ n
two_inside x p m n e h f = omega arith

-- values that were read are those that are computed
values_here : (version n : ℕ) (bytes : List ℕ) (c : Place) (x : ℕ) (vs : List Val) (q : Place) → Small bytes → c.bytes ≡ bytes → c.place ≡ x → x ≤ length bytes → values_at version n c ≡ Ok (vs, q)
    → (vs ≡ values_in_bytes version bytes x n) × ValuesBeginAt version bytes x n
unfolding values_at
values_here version n bytes c x vs q small b p h e =
    let there : place_in_bytes bytes x ≡ c = ap (λ (k : ℕ). place_in_bytes bytes k) (sym p) ∙ ap (λ (l : List ℕ). place_in_bytes l c.place) (sym b) in
    let v = values_stand version bytes n x [] vs q small h (ap (many_fields_at (λ before. value_at version) n []) there ∙ e) in
    let i = stand_in version bytes v.values x _ small h v.stand in
    (v.is ∙ i.0 ∙ ap (values_in_bytes version bytes x) v.count, subst (ValuesBeginAt version bytes x) v.count i.1)

-- the byte that was taken, by where it stands
byte_here : (bytes l : List ℕ) (x p : ℕ) → l ≡ bytes → p ≡ x → get_or l p 0 ≡ get_or bytes x 0
byte_here bytes l x p b e = ap (λ (m : List ℕ). get_or m p 0) b ∙ ap (λ (k : ℕ). get_or bytes k 0) e

-- what the locals take
record LocalsTook (bytes : List ℕ) (x : ℕ) (ls : List Bool) (q : Place) : Type 0 where
  bytes_same : q.bytes ≡ bytes
  place : q.place ≡ x + 4 + get_or bytes (x + 3) 0
  few : get_or bytes (x + 3) 0 ≤ 8
  flags : ls ≡ flags_in_bytes bytes (x + 4) (get_or bytes (x + 3) 0)
  inside : x + 4 ≤ length bytes
  within : x + 4 + get_or bytes (x + 3) 0 ≤ length bytes

locals_took : (version : ℕ) (bytes : List ℕ) (x : ℕ) (p : Place) (ls : List Bool) (q : Place) → p.bytes ≡ bytes → p.place ≡ x + 3 → locals_at version p ≡ Ok (ls, q) → LocalsTook bytes x ls q
unfolding locals_at
locals_took version bytes x p ls q b3 p3 e =
    let n = bind_ok (u8_at p) _ _ e in
    let k4 = u8_at_ok p n.0.0 n.0.1 n.1 in
    let t = bind_ok (valid_field_or_fault 5 (leb n.0.0 (most_locals_of version)) p n.0) _ _ n.2 in
    let c = checked_passed 5 (leb n.0.0 (most_locals_of version)) p n.0 t.0 t.1 in
    let flags : many_fields_at (λ before. flag_at) n.0.0 [] n.0.1 ≡ Ok (ls, q) = rw c.1 t.2 in
    let b4 : n.0.1.bytes ≡ bytes = k4.0.bytes ∙ b3 in
    let k5 = flags_took n.0.0 [] ls n.0.1 q (next_inside p.place n.0.1.place (length p.bytes) (length n.0.1.bytes) k4.0.place k4.0.within (ap length k4.0.bytes)) flags in
    let count : n.0.0 ≡ get_or bytes (x + 3) 0 = k4.1 ∙ byte_here bytes p.bytes (x + 3) p.place b3 p3 in
    let place : q.place ≡ x + 4 + get_or bytes (x + 3) 0 = end_place x p.place n.0.1.place q.place n.0.0 (get_or bytes (x + 3) 0) p3 k4.0.place k5.place count in
    record {
      bytes_same = k5.bytes ∙ b4;
      place = place;
      few = few_flags n.0.0 (get_or bytes (x + 3) 0) (most_locals_of version) count (leb-true _ _ c.0) (most_le version);
      flags =
          k5.is
          ∙ ap (λ (l : List ℕ). flags_in_bytes l n.0.1.place n.0.0) b4
          ∙ ap (λ (k : ℕ). flags_in_bytes bytes k n.0.0) (four_on x p.place n.0.1.place p3 k4.0.place)
          ∙ ap (flags_in_bytes bytes (x + 4)) count;
      inside = four_inside x p.place (length p.bytes) (length bytes) p3 k4.0.within (ap length b3);
      within = end_inside q.place (x + 4 + get_or bytes (x + 3) 0) (length n.0.1.bytes) (length bytes) place k5.within (ap length b4);
    }

pub state_context : (version : ℕ) (bytes : List ℕ) (x : ℕ) (s : State) (q : Place) → state_at version (place_in_bytes bytes x) ≡ Ok (s, q) → HasContext version bytes x s
unfolding state_at
state_context version bytes x s q e =
    let ie = bind_ok (flag_at (place_in_bytes bytes x)) _ _ e in
    let k1 = flag_took (place_in_bytes bytes x) ie.0.1 ie.0.0 ie.1 in
    let ccpn = bind_ok (u8_at ie.0.1) _ _ ie.2 in
    let k2 = u8_at_ok ie.0.1 ccpn.0.0 ccpn.0.1 ccpn.1 in
    let lower = bind_ok (flag_at ccpn.0.1) _ _ ccpn.2 in
    let k3 = flag_took ccpn.0.1 lower.0.1 lower.0.0 lower.1 in
    let locals = bind_ok (locals_at version lower.0.1) _ _ lower.2 in
    let b2 : ccpn.0.1.bytes ≡ bytes = k2.0.bytes ∙ k1.bytes in
    let l = locals_took version bytes x lower.0.1 locals.0.0 locals.0.1 (k3.bytes ∙ b2) (three_on x ie.0.1.place ccpn.0.1.place lower.0.1.place k1.place k2.0.place k3.place) locals.1 in
    let regs = bind_ok (values_at version 27 locals.0.1) _ _ locals.2 in
    subst (HasContext version bytes x) (ok_pair _ s regs.0.1 q regs.2).0 (record {
      inside = l.inside;
      within = l.within;
      few = l.few;
      ie = k1.is;
      ccpn = k2.1 ∙ byte_here bytes ie.0.1.bytes (x + 1) ie.0.1.place k1.bytes k1.place;
      lower = k3.is ∙ ap (λ (n : ℕ). eqb n 1) (byte_here bytes ccpn.0.1.bytes (x + 2) ccpn.0.1.place b2 (two_on x ie.0.1.place ccpn.0.1.place k1.place k2.0.place));
      locals = l.flags;
      end = locals.0.1;
      end_bytes = l.bytes_same;
      end_place = l.place;
      last = regs.0.1;
      regs = regs.1;
    })

pub state_values : (version : ℕ) (bytes : List ℕ) (x : ℕ) (s : State) (q : Place) → Small bytes → state_at version (place_in_bytes bytes x) ≡ Ok (s, q) → HasValues version bytes x s
state_values version bytes x s q small e =
    let k = state_context version bytes x s q e in
    let v = values_here version 27 bytes k.end (x + 4 + get_or bytes (x + 3) 0) s.regs k.last small k.end_bytes k.end_place k.within k.regs in
    record { regs = v.0; have = v.1 }

-- how an exit stands at a place
pub record HasExitContext (version : ℕ) (bytes : List ℕ) (x : ℕ) (e : Exit) : Type 0 where
  pub inside : x + 2 ≤ length bytes
  pub ie : e.ie ≡ eqb (get_or bytes x 0) 1
  pub ccpn : e.ccpn ≡ get_or bytes (x + 1) 0
  pub end : Place
  pub end_bytes : end.bytes ≡ bytes
  pub end_place : end.place ≡ x + 2
  pub last : Place
  pub lower : values_at version 14 end ≡ Ok (e.lower, last)

-- where its values stand
pub record HasExitValues (version : ℕ) (bytes : List ℕ) (x : ℕ) (e : Exit) : Type 0 where
  pub lower : e.lower ≡ values_in_bytes version bytes (x + 2) 14
  pub have : ValuesBeginAt version bytes (x + 2) 14

pub exit_context : (version : ℕ) (bytes : List ℕ) (x : ℕ) (e : Exit) (q : Place) → exit_at version (place_in_bytes bytes x) ≡ Ok (e, q) → HasExitContext version bytes x e
unfolding exit_at
exit_context version bytes x e q h =
    let ie = bind_ok (flag_at (place_in_bytes bytes x)) _ _ h in
    let k1 = flag_took (place_in_bytes bytes x) ie.0.1 ie.0.0 ie.1 in
    let ccpn = bind_ok (u8_at ie.0.1) _ _ ie.2 in
    let k2 = u8_at_ok ie.0.1 ccpn.0.0 ccpn.0.1 ccpn.1 in
    let lower = bind_ok (values_at version 14 ccpn.0.1) _ _ ccpn.2 in
    subst (HasExitContext version bytes x) (ok_pair _ e lower.0.1 q lower.2).0 (record {
      inside = two_inside x ie.0.1.place (length ie.0.1.bytes) (length bytes) k1.place k2.0.within (ap length k1.bytes);
      ie = k1.is;
      ccpn = k2.1 ∙ byte_here bytes ie.0.1.bytes (x + 1) ie.0.1.place k1.bytes k1.place;
      end = ccpn.0.1;
      end_bytes = k2.0.bytes ∙ k1.bytes;
      end_place = two_on x ie.0.1.place ccpn.0.1.place k1.place k2.0.place;
      last = lower.0.1;
      lower = lower.1;
    })

pub exit_values : (version : ℕ) (bytes : List ℕ) (x : ℕ) (e : Exit) (q : Place) → Small bytes → exit_at version (place_in_bytes bytes x) ≡ Ok (e, q) → HasExitValues version bytes x e
exit_values version bytes x e q small h =
    let k = exit_context version bytes x e q h in
    let v = values_here version 14 bytes k.end (x + 2) e.lower k.last small k.end_bytes k.end_place k.inside k.lower in
    record { lower = v.0; have = v.1 }
