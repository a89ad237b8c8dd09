-- Numbers, and the bounds that peripherals have of their own.
use Rattle.std.proofs.Common.{◌≡◌, ℕ, ◌+◌, ◌*◌, ◌-◌, ◌<◌, ◌≤◌, ◌^◌, min, true, List, [], length, map, take, get_or, sym, ap, subst, ◌∙◌, arith}
use Rattle.std.specs.Prelude.{All}
use Rattle.std.specs.Char.{digit_value, is_ascii_digit}
use Rattle.std.specs.List.{list_all}
use Rattle.std.specs.Str.Parse.{digits_value}
use Rattle.std.proofs.lemmas.Bool.{and_parts, leb-true, cond-true, cond-false, lt-ltb, le-ltb, true_from_ne_false, false≢true}
use Rattle.std.proofs.lemmas.List.{length-map}
use Rattle.std.proofs.lemmas.List.Folds.{list_all_at}
use Rattle.std.proofs.lemmas.Int.Digits.{digits_value_more}
use Rattle.std.proofs.lemmas.List.Elements.{All-map}
use Rattle.tcd_plan.specs.declared.plans.Device.{Device}
use Rattle.tc_script.specs.declared.scripts.Turn.{Turn}
use Rattle.tc_script.specs.declared.scripts.AnswerRange.{AnswerRange}
use Rattle.tc_script.specs.ScriptData.{IsScript}
use Rattle.tc_script.specs.Ports.{initial_answer_bounds}

-- a script before its first line
pub IsScript-begun : (ts : List Turn) (ds : List Device) (bs : List AnswerRange) → ts ≡ [] → bs ≡ map initial_answer_bounds ds → length ds ≤ 16 → IsScript ts bs
IsScript-begun ts ds bs none is few = record {
  few = omega (arith, ap length none);
  few_devices = omega (arith, ap length is, length-map ds initial_answer_bounds);
  ordered = subst (All (λ b. b.lo ≤ b.hi)) (sym is) (All-map (λ b. b.lo ≤ b.hi) initial_answer_bounds ds (λ k d lt. omega arith));
}

digit_is : (c : ℕ) → is_ascii_digit c ≡ true → digit_value c ≡ c - 48
digit_is c is =
    let both = and_parts _ _ is in
    let low : 48 ≤ c = leb-true _ _ both.0 in
    let high : c ≤ 57 = leb-true _ _ both.1 in
    cond-false _ 36 _ (le-ltb c 48 low) ∙ cond-true _ (c - 48) _ (lt-ltb c 58 (omega arith))

min_more : (a d M : ℕ) → min (min a M * 10 + d) M ≡ min (a * 10 + d) M
min_more a d M = omega arith

digit_at : (word : List ℕ) (i : ℕ) → i < length word → list_all is_ascii_digit word ≡ true → is_ascii_digit (get_or word i 0) ≡ true
digit_at word i lt all = true_from_ne_false _ (λ none. false≢true (sym (list_all_at is_ascii_digit word i 0 lt none) ∙ all))

-- one digit more
pub value_more : (word : List ℕ) (i value new : ℕ) → i < length word → list_all is_ascii_digit word ≡ true → value ≡ min (digits_value 10 (take i word)) (2 ^ 32) → new ≡ min (value * 10 + (get_or word i 0 - 48)) (2 ^ 32) → new ≡ min (digits_value 10 (take (i + 1) word)) (2 ^ 32)
value_more word i value new lt all is then =
    then ∙ ap (λ v. min (v * 10 + (get_or word i 0 - 48)) (2 ^ 32)) is ∙ min_more (digits_value 10 (take i word)) (get_or word i 0 - 48) (2 ^ 32)
    ∙ ap (λ d. min (digits_value 10 (take i word) * 10 + d) (2 ^ 32)) (sym (digit_is (get_or word i 0) (digit_at word i lt all)))
    ∙ ap (λ v. min v (2 ^ 32)) (sym (digits_value_more 10 word i lt))
