-- The values of the lower registers of a state, and of a state in which an exit replaced them.
use Rattle.std.proofs.Common.{◌≡◌, ℕ, zero, suc, ◌+◌, ◌-◌, ◌<◌, ◌≤◌, cond, List, [], ◌∷◌, ◌++◌, length, refl, sym, ap, ◌∙◌, arith, get_or, take, drop, set, ltb}
use Rattle.std.proofs.lemmas.List.{take_more, take_more_set, get_or-take, get_or-drop, get_or_append_left, get_or-append_right, length-take, length-drop, length-append}
use Rattle.value_domain.specs.declared.values.Val.{Val}
use Rattle.value_domain.specs.Values.{any_val}
use Rattle.value_domain.specs.State.{is_lower_slot}
use Rattle.depth_cert.specs.Exits.{lower_values, values_after_return_from}

-- the value at a place
abbrev pub restored_at : ℕ → List Val → Val → Val
restored_at i lower v = cond (is_lower_slot i) (get_or lower (cond (ltb i 8) i (i - 8)) any_val) v

length-with_lower : (k : ℕ) (lower vs : List Val) → length (values_after_return_from k lower vs) ≡ length vs
unfolding values_after_return_from
length-with_lower k lower [] = refl
length-with_lower k lower (v ∷ vs) = ap suc (length-with_lower (k + 1) lower vs)

get_or-with_lower : (k : ℕ) (lower vs : List Val) (i : ℕ) (d : Val) → i < length vs → get_or (values_after_return_from k lower vs) i d ≡ restored_at (k + i) lower (get_or vs i d)
unfolding values_after_return_from
get_or-with_lower k lower [] i d h = absurd (omega arith)
get_or-with_lower k lower (v ∷ vs) zero d h = let e : k ≡ k + zero = omega arith in ap (λ n. restored_at n lower v) e
get_or-with_lower k lower (v ∷ vs) (suc i) d h =
    let e : k + 1 + i ≡ k + suc i = omega arith in
    get_or-with_lower (k + 1) lower vs i d (omega arith) ∙ ap (λ n. restored_at n lower (get_or vs i d)) e

-- one value more
pub lower_more : (lower vs out : List Val) (i : ℕ) (v : Val) → i < length vs → i < length out → v ≡ restored_at i lower (get_or vs i any_val)
    → take i out ≡ take i (values_after_return_from 0 lower vs) → take (i + 1) (set out i v) ≡ take (i + 1) (values_after_return_from 0 lower vs)
lower_more lower vs out i v h k e inv =
    let at : i ≡ 0 + i = omega arith in
    take_more_set out i v k
    ∙ ap (λ (l : List Val). l ++ v ∷ []) inv
    ∙ ap (λ (u : Val). take i (values_after_return_from 0 lower vs) ++ u ∷ [])
    (e ∙ ap (λ n. restored_at n lower (get_or vs i any_val)) at ∙ sym (get_or-with_lower 0 lower vs i any_val h))
    ∙ sym (take_more (values_after_return_from 0 lower vs) i any_val (omega (arith, length-with_lower 0 lower vs)))

pub with_lower_length : (lower vs : List Val) → length (values_after_return_from 0 lower vs) ≡ length vs
with_lower_length lower vs = length-with_lower 0 lower vs

-- the value at a place
pub after-at : (lower vs : List Val) (i : ℕ) → i < length vs → get_or (values_after_return_from 0 lower vs) i any_val ≡ restored_at i lower (get_or vs i any_val)
after-at lower vs i h =
    let at : 0 + i ≡ i = omega arith in
    get_or-with_lower 0 lower vs i any_val h ∙ ap (λ n. restored_at n lower (get_or vs i any_val)) at

-- ---- the lower registers of a state, in a list of their own
pub lower_front : (regs : List Val) (r : ℕ) → 22 ≤ length regs → r < 8 → get_or (lower_values regs) r any_val ≡ get_or (take 8 regs) r any_val
lower_front regs r len h = get_or_append_left (take 8 regs) (take 6 (drop 16 regs)) any_val r (omega (arith, length-take 8 regs))

pub lower_back : (regs : List Val) (r : ℕ) → 22 ≤ length regs → 8 ≤ r → get_or (lower_values regs) r any_val ≡ get_or (take 6 (drop 16 regs)) (r - 8) any_val
lower_back regs r len h = get_or-append_right (take 8 regs) (take 6 (drop 16 regs)) 8 r any_val (omega (arith, length-take 8 regs)) h

pub length_lower : (regs : List Val) → 22 ≤ length regs → length (lower_values regs) ≡ 14
length_lower regs len = omega (arith, length-append (take 8 regs) (take 6 (drop 16 regs)), length-take 8 regs, length-take 6 (drop 16 regs), length-drop 16 regs)

-- by the place in a state
pub lower_low : (regs : List Val) (i : ℕ) → 22 ≤ length regs → i < 8 → get_or (lower_values regs) i any_val ≡ get_or regs i any_val
lower_low regs i len h = lower_front regs i len h ∙ get_or-take 8 regs i any_val h

pub lower_high : (regs : List Val) (i : ℕ) → 22 ≤ length regs → 8 ≤ i → i < 14 → get_or (lower_values regs) i any_val ≡ get_or regs (i + 8) any_val
lower_high regs i len h k =
    let e : 16 + (i - 8) ≡ i + 8 = omega arith in
    lower_back regs i len h
    ∙ get_or-take 6 (drop 16 regs) (i - 8) any_val (omega arith)
    ∙ get_or-drop 16 regs (i - 8) any_val
    ∙ ap (λ (n : ℕ). get_or regs n any_val) e
