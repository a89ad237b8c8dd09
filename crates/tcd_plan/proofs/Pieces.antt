-- What each part of a document gives, if its values have their forms.
use Rattle.std.proofs.Common.{◌≡◌, ℕ, zero, suc, ◌<◌, ◌%◌, ◌^◌, Bool, true, ◌&&◌, ◌==◌, nat_lt, nat_le, cond, List, [], ◌∷◌, codes, length, map, get_or, Option, Some, None, unwrap_or, option_and_then, option_to_list, All, refl, sym, subst, arith, add-one}
use Rattle.std.specs.List.{list_all}
use Rattle.std.specs.List.Sorted.{IsStrictlyIncreasing}
use Rattle.std.proofs.lemmas.Bool.{and_from, and_parts, ltb-true, lt-ltb}
use Rattle.std.proofs.lemmas.List.Elements.{All-nil, All-cons}
use Rattle.serde_json.specs.Data.{Data}
use Rattle.tcd_plan.specs.ValueForms.{are_irqs_above, has_value_form, is_range_len, is_some_and}
use Rattle.tcd_plan.specs.PlanData.{is_plan_device, is_plan_range}
use Rattle.tcd_plan.specs.PlanReader.{plan_device_of, plan_irq_of, plan_range_of}
use Rattle.tcd_plan.specs.JsonValues.{is_object, json_number_at, json_number_of, json_number_or_zero}
use Rattle.tcd_plan.specs.declared.key_table.ValueForm.TheVariants.{At, Len, Hi}
use Rattle.tcd_plan.proofs.Small.{passes-unwrap_or}
use Rattle.tcd_plan.proofs.Words.{word_at-lt}

range_is : (o : Data) → has_value_form At (codes "at") o ≡ true → has_value_form Len (codes "len") o ≡ true → is_plan_range (plan_range_of o) ≡ true
range_is o at len =
    let whole_at = passes-unwrap_or (λ n. n % 4 == 0) (json_number_at (codes "at") o) 0 at in
    let fits = and_parts (nat_lt 0 (json_number_or_zero (codes "len") o) && (json_number_or_zero (codes "len") o % 4 == 0)) _ (passes-unwrap_or (is_range_len (json_number_or_zero (codes "at") o)) (json_number_at (codes "len") o) 0 len) in
    let whole_len = and_parts (nat_lt 0 (json_number_or_zero (codes "len") o)) (json_number_or_zero (codes "len") o % 4 == 0) fits.0 in
    and_from _ _ (and_from _ _ (and_from _ _ whole_at whole_len.1) whole_len.0) fits.1

pub ranges_are : (os : List Data) → list_all (has_value_form At (codes "at")) os ≡ true → list_all (has_value_form Len (codes "len")) os ≡ true → list_all is_plan_range (map plan_range_of os) ≡ true
ranges_are [] at len = refl
ranges_are (o ∷ os) at len =
    let here_at = and_parts (has_value_form At (codes "at") o) _ at in
    let here_len = and_parts (has_value_form Len (codes "len") o) _ len in
    and_from _ _ (range_is o here_at.0 here_len.0) (ranges_are os here_at.1 here_len.1)

device_is : (o : Data) → has_value_form At (codes "at") o ≡ true → has_value_form Len (codes "len") o ≡ true → has_value_form Hi (codes "hi") o ≡ true → is_plan_device (plan_device_of o) ≡ true
device_is o at len hi =
    let above = passes-unwrap_or (nat_le (json_number_or_zero (codes "lo") o)) (json_number_at (codes "hi") o) 0 hi in
    and_from _ _ (and_from _ _ (range_is o at len) above) (lt-ltb _ _ (word_at-lt (codes "hi") o))

pub devices_are : (os : List Data) → list_all (has_value_form At (codes "at")) os ≡ true → list_all (has_value_form Len (codes "len")) os ≡ true → list_all (has_value_form Hi (codes "hi")) os ≡ true → list_all is_plan_device (map plan_device_of os) ≡ true
devices_are [] at len hi = refl
devices_are (o ∷ os) at len hi =
    let here_at = and_parts (has_value_form At (codes "at") o) _ at in
    let here_len = and_parts (has_value_form Len (codes "len") o) _ len in
    let here_hi = and_parts (has_value_form Hi (codes "hi") o) _ hi in
    and_from _ _ (device_is o here_at.0 here_len.0 here_hi.0) (devices_are os here_at.1 here_len.1 here_hi.1)

-- an array of at least one object has all of its objects
pub some_objects : (o : Option (List Data)) → is_some_and (λ ds. nat_lt 0 (length ds) && list_all is_object ds) o ≡ true → 0 < length (cond (is_some_and (list_all is_object) o) (unwrap_or o []) [])
some_objects None e = cc
some_objects (Some ds) e =
    let parts = and_parts (nat_lt 0 (length ds)) (list_all is_object ds) e in
    let P : Bool → Type 0 = λ b. 0 < length (cond b ds []) in
    subst P (sym parts.1) (ltb-true 0 (length ds) parts.0)

-- the number at a key of the object at a key passes the test of each such object
pub inner_word : (test : ℕ → Bool) (name : List ℕ) (o : Option Data) → is_some_and is_object o ≡ true → list_all (λ x. is_some_and test (json_number_at name x)) (cond (is_some_and is_object o) (option_to_list o) []) ≡ true
    → test (unwrap_or (option_and_then (json_number_at name) o) 0) ≡ true
inner_word test name None e h = cc
inner_word test name (Some x) e h =
    let P : Bool → Type 0 = λ b. list_all (λ y. is_some_and test (json_number_at name y)) (cond b (x ∷ []) []) ≡ true in
    passes-unwrap_or test (json_number_at name x) 0 (and_parts (is_some_and test (json_number_at name x)) true (subst P e h)).0

-- the first number is above `low`, and the rest ascend above it
ascends : (low : ℕ) (d : Data) (ds : List Data) → are_irqs_above low (d ∷ ds) ≡ true → (low < plan_irq_of d) × (plan_irq_of d < 2 ^ 8) × (are_irqs_above (plan_irq_of d) ds ≡ true)
ascends low d ds e =
    let parts = and_parts (nat_lt low (plan_irq_of d) && nat_lt (plan_irq_of d) 256) (are_irqs_above (plan_irq_of d) ds) (passes-unwrap_or (λ q. nat_lt low q && nat_lt q 256 && are_irqs_above q ds) (json_number_of d) 0 e) in
    let bounds = and_parts (nat_lt low (plan_irq_of d)) (nat_lt (plan_irq_of d) 256) parts.0 in
    (ltb-true _ _ bounds.0, ltb-true _ _ bounds.1, parts.1)

pub irqs_small : (low : ℕ) (ds : List Data) → are_irqs_above low ds ≡ true → All (λ d. plan_irq_of d < 2 ^ 8) ds
irqs_small low [] e = All-nil (λ d. plan_irq_of d < 2 ^ 8)
irqs_small low (d ∷ ds) e = let parts = ascends low d ds e in All-cons (λ x. plan_irq_of x < 2 ^ 8) d ds parts.1 (irqs_small (plan_irq_of d) ds parts.2)

pub irqs_each : (low : ℕ) (ds : List Data) → are_irqs_above low ds ≡ true → list_all (λ q. nat_lt 0 q && nat_lt q (2 ^ 8)) (map plan_irq_of ds) ≡ true
irqs_each low [] e = refl
irqs_each low (d ∷ ds) e =
    let parts = ascends low d ds e in
    and_from _ _ (and_from _ _ (lt-ltb 0 (plan_irq_of d) (omega (arith, parts.0))) (lt-ltb (plan_irq_of d) (2 ^ 8) parts.1)) (irqs_each (plan_irq_of d) ds parts.2)

rising : (low : ℕ) (ds : List Data) → are_irqs_above low ds ≡ true → (k : ℕ) → suc k < length (map plan_irq_of ds) → get_or (map plan_irq_of ds) k 0 < get_or (map plan_irq_of ds) (suc k) 0
rising low [] e k within = absurd (omega arith)
rising low (d ∷ []) e k within = absurd (omega arith)
rising low (d ∷ f ∷ ds) e zero within = (ascends (plan_irq_of d) f ds (ascends low d (f ∷ ds) e).2).0
rising low (d ∷ f ∷ ds) e (suc k) within = rising (plan_irq_of d) (f ∷ ds) (ascends low d (f ∷ ds) e).2 k (omega arith)

pub irqs_rise : (low : ℕ) (ds : List Data) → are_irqs_above low ds ≡ true → IsStrictlyIncreasing (map plan_irq_of ds)
irqs_rise low ds e k within = rw (add-one k) (rising low ds e k (omega arith))
