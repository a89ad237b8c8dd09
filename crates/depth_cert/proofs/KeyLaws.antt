-- A number is that of one key, and what is found in a list is in the list.
use Rattle.std.proofs.Common.{◌≡◌, ℕ, suc, ◌+◌, ◌*◌, ◌^◌, ◌<◌, Bool, true, false, cond, List, [], ◌∷◌, Some, refl, ap, ◌∙◌, subst, arith, Contains}
use Rattle.std.specs.List.{find}
use Rattle.std.specs.Prelude.{None}
use Rattle.depth_cert.specs.declared.keys.Key.{Key}
use Rattle.depth_cert.specs.Keys.{cert_flag_byte, key_number, number_of_key, IsKey}

-- what is found is in the list, and passes the test
pub found_in : {X : Type 0} (p : X → Bool) (xs : List X) (x : X) → find p xs ≡ Some x → Contains xs x × (p x ≡ true)
found_in p [] x h = absurd (let f : None ≡ Some x = h in cc)
found_in p (y ∷ ys) x h =
    elim (p y) as (λ t. p y ≡ t → cond t (Some y) (find p ys) ≡ Some x → Contains (y ∷ ys) x × (p x ≡ true)) [
      | true ↦ λ e g. let same : y ≡ x = cc in subst (λ z. Contains (y ∷ ys) z × (p z ≡ true)) same ((0, omega arith, refl), e)
      | false ↦ λ e g. let rest = found_in p ys x g in ((suc (rest.0).0, (let lt = (rest.0).1 in omega arith), (rest.0).2), rest.1)
    ] refl h

byte_lt : (b : Bool) → cert_flag_byte b < 2
byte_lt true = omega arith
byte_lt false = omega arith

byte_same : (a b : Bool) → cert_flag_byte a ≡ cert_flag_byte b → a ≡ b
byte_same true true e = refl
byte_same false false e = refl
byte_same true false e = absurd (let f : 1 ≡ 0 = e in omega arith)
byte_same false true e = absurd (let f : 0 ≡ 1 = e in omega arith)

-- the parts of a key's number
pub number_parts : (a b c d e f g h : ℕ) → b < 2 ^ 32 → c < 2 ^ 8 → d < 2 → f < 2 ^ 32 → g < 2 ^ 8 → h < 2 → key_number a b c d ≡ key_number e f g h → (a ≡ e) × (b ≡ f) × (c ≡ g) × (d ≡ h)
number_parts a b c d e f g h b_lt c_lt d_lt f_lt g_lt h_lt same =
    let last : d ≡ h = omega arith in
    let rest : (a * 2 ^ 32 + b) * 2 ^ 8 + c ≡ (e * 2 ^ 32 + f) * 2 ^ 8 + g = omega arith in
    let prio : c ≡ g = omega arith in
    let more : a * 2 ^ 32 + b ≡ e * 2 ^ 32 + f = omega arith in
    let entry : b ≡ f = omega arith in
    (omega arith, entry, prio, last)

made : ℕ → ℕ → ℕ → Bool → Key
made kind entry prio is = record { kind = kind; entry = entry; prio = prio; is = is }

-- keys with equal numbers are equal
pub one_number : (j k : Key) → IsKey j → IsKey k → number_of_key j ≡ number_of_key k → j ≡ k
unfolding made
one_number j k hj hk e =
    let p = number_parts j.kind j.entry j.prio (cert_flag_byte j.is) k.kind k.entry k.prio (cert_flag_byte k.is) hj.entry hj.prio (byte_lt j.is) hk.entry hk.prio (byte_lt k.is) e in
    ap (λ x. made x j.entry j.prio j.is) p.0 ∙ ap (λ x. made k.kind x j.prio j.is) p.1 ∙ ap (λ x. made k.kind k.entry x j.is) p.2 ∙ ap (λ x. made k.kind k.entry k.prio x) (byte_same j.is k.is p.3)
