-- What the loads from an address, and from all members of a value, give.
use Rattle.std.proofs.Common.{◌≡◌, ℕ, ◌+◌, ◌-◌, ◌*◌, ◌^◌, ◌<◌, ◌≤◌, inl, inr, Bool, true, ◌&&◌, cond, List, [], ◌∷◌, ◌++◌, length, take, get_or, length-append, Option, Some, None, refl, sym, ap, ◌∙◌, subst, arith, nat_le, nat_lt, eqb}
use Rattle.std.specs.Prelude.{IfSome}
use Rattle.std.specs.List.{find, list_all, flat_map}
use Rattle.std.proofs.lemmas.Bool.{cases_Bool, and_parts, and_from, leb-true, false≢true}
use Rattle.std.proofs.lemmas.List.{flat_map_more, take_more, take_all, length-map}
use Rattle.tcd_base.specs.declared.range.Range.{Range}
use Rattle.tcd_plan.specs.declared.plans.Device.{Device}
use Rattle.tcd_plan.specs.PlanData.{PlanData, IsPlan, is_plan_device, is_plan_range}
use Rattle.value_domain.specs.Sets.{Among, IsExtent}
use Rattle.value_domain.specs.Limits.{Limits}
use Rattle.value_domain.specs.declared.values.Val.{Val}
use Rattle.value_domain.specs.Values.{IsWellFormed, cover, members, span_len, first_member_quotient}
use Rattle.value_domain.proofs.CoverLaws.{length-multiples}
use Rattle.value_domain.proofs.ExtentLaws.{append_left, append_right, cover-part}
use Rattle.value_domain.proofs.RangeLaws.{some_members}
use Rattle.tcd_base.specs.Ranges.{is_within_range}
use Rattle.store_ranges.specs.Loads.{answers_to_load, device_of_loads}
use Rattle.value_domain.proofs.MeetLaws.{cover-parts}
use Rattle.store_ranges.proofs.Finds.{found_all}
use Rattle.tcd_base.proofs.RangeLaws.{within_true, true_within}

-- ---- the peripheral of several accesses
pub all_at : (n : ℕ) (r : Range) (xs : List ℕ) (z : ℕ) → list_all (λ x. is_within_range x n r) xs ≡ true → Among z xs → is_within_range z n r ≡ true
all_at n r [] z t i = absurd i
all_at n r (x ∷ xs) z t i =
    let both = and_parts (is_within_range x n r) (list_all (λ x. is_within_range x n r) xs) t in
    elim i [ inl e ↦ subst (λ (y : ℕ). is_within_range y n r ≡ true) (sym e) both.0 | inr j ↦ all_at n r xs z both.1 j ]

pub all_from : (n : ℕ) (r : Range) (xs : List ℕ) → ((z : ℕ) → Among z xs → is_within_range z n r ≡ true) → list_all (λ x. is_within_range x n r) xs ≡ true
all_from n r [] each = refl
all_from n r (x ∷ xs) each = and_from _ _ (each x (inl refl)) (all_from n r xs (λ z i. each z (inr i)))

-- a range that has the first and the last access has all
ends_all : {low high s : ℕ} (xs : List ℕ) (n : ℕ) (r : Range) → IsExtent xs low high s → (is_within_range low n r && is_within_range high n r) ≡ list_all (λ x. is_within_range x n r) xs
ends_all {low} {high} xs n r e =
    elim (cases_Bool (list_all (λ x. is_within_range x n r) xs)) [
      | inl all ↦ and_from _ _ (all_at n r xs low all e.low_in) (all_at n r xs high all e.high_in) ∙ sym all
      | inr some ↦
          elim (cases_Bool (is_within_range low n r && is_within_range high n r)) [
            | inl t ↦
                let both = and_parts (is_within_range low n r) (is_within_range high n r) t in
                let first = within_true low n r both.0 in
                let last = within_true high n r both.1 in
                absurd (false≢true (sym some ∙ all_from n r xs (λ z i. true_within z n r (omega (arith, first.0, e.low z i), omega (arith, last.1, e.high z i)))))
            | inr f ↦ f ∙ sym some
          ]
    ]

find-same : {X : Type 0} (p q : X → Bool) (xs : List X) → ((x : X) → p x ≡ q x) → find p xs ≡ find q xs
find-same p q [] same = refl
find-same p q (x ∷ xs) same = ap (λ b. cond b (Some x) (find p xs)) (same x) ∙ ap (cond (q x) (Some x)) (find-same p q xs same)

pub device-ends : {low high s : ℕ} (plan : PlanData) (size : ℕ) (xs : List ℕ) → IsExtent xs low high s
    → cond (eqb size 4) (find (λ d. is_within_range low 4 d.range && is_within_range high 4 d.range) plan.devices) None ≡ device_of_loads plan size xs
device-ends plan size xs e = ap (λ o. cond (eqb size 4) o None) (find-same _ _ plan.devices (λ d. ends_all xs 4 d.range e))

-- its bounds are in order
pub device_bounds : (plan : PlanData) (p : Device → Bool) (o : Option Device) → IsPlan plan → o ≡ find p plan.devices → IfSome o (λ d. d.lo ≤ d.hi)
device_bounds plan p None ok e = tt
device_bounds plan p (Some d) ok e =
    let is = found_all p is_plan_device plan.devices d ok.ranges.devices (sym e) in
    leb-true d.lo d.hi (and_parts (is_plan_range d.range) (nat_le d.lo d.hi) (and_parts (is_plan_range d.range && nat_le d.lo d.hi) (nat_lt d.hi (2 ^ 32)) is).0).1

-- ---- answers
pub answers_some : (size : ℕ) (signed : Bool) (device : Option Device) → IfSome device (λ d. d.lo ≤ d.hi) → 1 ≤ length (answers_to_load size signed device)
answers_some size signed None ordered = simp length-map (omega (arith, length-multiples (span_len 0 (2 ^ (8 * size) - 1) 0) (first_member_quotient 0 0) (2 ^ 0)))
answers_some size signed (Some d) ordered = omega (arith, length-multiples (span_len d.lo d.hi 0) (first_member_quotient d.lo 0) (2 ^ 0))

-- ---- the words of a Set
pub among_flat : (f : ℕ → List ℕ) (x z : ℕ) (ws : List ℕ) → Among x ws → Among z (f x) → Among z (flat_map f ws)
among_flat f x z [] i j = absurd i
among_flat f x z (w ∷ ws) i j =
    elim i [
      | inl e ↦ append_left z (f w) (flat_map f ws) (subst (λ (y : ℕ). Among z (f y)) e j)
      | inr k ↦ append_right z (f w) (flat_map f ws) (among_flat f x z ws k j)
    ]

-- the loads from the first word, those from one word more, and those from all
pub flat_more : (f : ℕ → List ℕ) (ws : List ℕ) (i : ℕ) → i < length ws → flat_map f (take i ws) ++ f (get_or ws i 0) ≡ flat_map f (take (i + 1) ws)
flat_more f ws i lt = flat_map_more f [] (take i ws) (get_or ws i 0) ∙ ap (flat_map f) (sym (take_more ws i 0 lt))

pub flat_first : (f : ℕ → List ℕ) (ws : List ℕ) → 1 ≤ length ws → f (get_or ws 0 0) ≡ flat_map f (take 1 ws)
flat_first f [] some = absurd (let none : 1 ≤ 0 = some in omega arith)
flat_first f (w ∷ ws) some = flat_more f (w ∷ ws) 0 some

pub flat_some : (f : ℕ → List ℕ) (ws : List ℕ) (i : ℕ) → i < length ws → 1 ≤ length (flat_map f (take i ws)) → 1 ≤ length (flat_map f (take (i + 1) ws))
flat_some f ws i lt some = subst (λ (l : List ℕ). 1 ≤ length l) (flat_more f ws i lt) (omega (arith, length-append (flat_map f (take i ws)) (f (get_or ws i 0))))

pub cover_more : (b : Limits) (f : ℕ → List ℕ) (ws : List ℕ) (i : ℕ) (out : Val) → i < length ws → 1 ≤ length (flat_map f (take i ws)) → out ≡ cover b (flat_map f (take i ws))
    → cover b (members out ++ f (get_or ws i 0)) ≡ cover b (flat_map f (take (i + 1) ws))
cover_more b f ws i out lt some e =
    ap (λ (o : Val). cover b (members o ++ f (get_or ws i 0))) e
    ∙ cover-part b (flat_map f (take i ws)) (f (get_or ws i 0)) some
    ∙ ap (cover b) (flat_more f ws i lt)

pub cover_all : (b : Limits) (f : ℕ → List ℕ) (ws : List ℕ) (i : ℕ) (out : Val) → length ws ≤ i → out ≡ cover b (flat_map f (take i ws)) → out ≡ cover b (flat_map f ws)
cover_all b f ws i out le e = e ∙ ap (λ (l : List ℕ). cover b (flat_map f l)) (take_all i ws le)

-- a value is the cover of its members
pub cover_both : (b : Limits) (v w : Val) (ws : List ℕ) → IsWellFormed v → cover b (members v) ≡ v → 1 ≤ length ws → w ≡ cover b ws → cover b (members v ++ members w) ≡ cover b (members v ++ ws)
cover_both b v w ws well own some e =
    ap (λ (o : Val). cover b (members o ++ members w)) (sym own)
    ∙ ap (λ (o : Val). cover b (members (cover b (members v)) ++ members o)) e
    ∙ cover-parts b (members v) ws (some_members v well) some
