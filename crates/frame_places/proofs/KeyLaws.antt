-- Equal keys.
use Rattle.std.proofs.Common.{◌≡◌, Bool, true, false, refl, ◌&&◌, eqb}
use Rattle.std.proofs.lemmas.Bool.{and_parts, eqb-true, eq-eqb}
use Rattle.depth_cert.specs.declared.keys.Key.{Key}
use Rattle.depth_cert.specs.Keys.{cert_flag_byte, is_same_key}

same_flag : (a b : Bool) → eqb (cert_flag_byte a) (cert_flag_byte b) ≡ true → a ≡ b
same_flag false false e = refl
same_flag true true e = refl
same_flag false true e = cc
same_flag true false e = cc

flag_same : (a : Bool) → eqb (cert_flag_byte a) (cert_flag_byte a) ≡ true
flag_same false = refl
flag_same true = refl

-- keys that compare as equal are equal
pub key_tells : (k j : Key) → is_same_key k j ≡ true → k ≡ j
key_tells k j e =
    let h = and_parts (eqb k.kind j.kind && eqb k.entry j.entry && eqb k.prio j.prio) (eqb (cert_flag_byte k.is) (cert_flag_byte j.is)) e in
    let g = and_parts (eqb k.kind j.kind && eqb k.entry j.entry) (eqb k.prio j.prio) h.0 in
    let f = and_parts (eqb k.kind j.kind) (eqb k.entry j.entry) g.0 in
    let kind : k.kind ≡ j.kind = eqb-true k.kind j.kind f.0 in
    let entry : k.entry ≡ j.entry = eqb-true k.entry j.entry f.1 in
    let prio : k.prio ≡ j.prio = eqb-true k.prio j.prio g.1 in
    let is : k.is ≡ j.is = same_flag k.is j.is h.1 in
    λ i. record { kind = kind i; entry = entry i; prio = prio i; is = is i }

pub key_same : (k : Key) → is_same_key k k ≡ true
key_same k = rw (eq-eqb k.kind k.kind refl, eq-eqb k.entry k.entry refl, eq-eqb k.prio k.prio refl, flag_same k.is) refl
