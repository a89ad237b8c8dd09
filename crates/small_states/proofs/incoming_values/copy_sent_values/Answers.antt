use Rattle.std.proofs.Common.{◌≡◌, ◌∙◌, ◌+◌, ◌++◌, [], ℕ, List, length, replicate, ap, arith}
use Rattle.std.proofs.lemmas.List.{length-append}
use Rattle.value_domain.specs.declared.values.Val.{Val}
use Rattle.value_domain.specs.Values.{any_val}
use Rattle.small_states.specs.CompactForms.{all_values, values_to_last_known, values_from}
use Rattle.small_states.specs.declared.values.SpacedValue.{SpacedValue}
use Rattle.small_states.specs.declared.values.Values.{Values}
use Rattle.small_states.proofs.IncomingLemmas.{after_parts, leaving_parts}
use Rattle.small_states.proofs.SparseLemmas.{length-values_from}
use Rattle.small_states.proofs.incoming_values.copy_sent_values.Goals as goal

-- no values at first
begun : (known : List SpacedValue) → known ≡ [] → values_to_last_known known ++ replicate 0 any_val ≡ []
begun known none = ap (λ (l : List SpacedValue). values_to_last_known l ++ replicate 0 any_val) none

-- more values
more : (old new vs : List Val) (from count n : ℕ) → new ≡ old ++ values_from vs from count → length old ≡ n → length new ≡ n + count
more old new vs from count n e long =
    ap (λ (l : List Val). length l) e ∙ length-append old (values_from vs from count) ∙ ap (λ (m : ℕ). m + length (values_from vs from count)) long
    ∙ ap (λ (m : ℕ). n + m) (length-values_from vs from count)

-- the parts of a state's values after a call
abbrev parts : List Val → List Val → List Val
parts lower own = ((values_from lower 0 8 ++ values_from own 8 8) ++ values_from lower 8 6) ++ values_from own 22 5

pub extend_from_range-requires-in-After-clause-few : goal.extend_from_range-requires-in-After-clause-few
extend_from_range-requires-in-After-clause-few c =
    let none = begun _ c.in_ok-with_capacity.ensures.items in
    let one = more _ _ _ _ _ _ c.in_ok-extend_from_range-in-After.ensures (ap (λ (l : List Val). length l) none) in
    omega (arith, one)

pub extend_from_range-requires-in-After-2-clause-few : goal.extend_from_range-requires-in-After-2-clause-few
extend_from_range-requires-in-After-2-clause-few c =
    let none = begun _ c.in_ok-with_capacity.ensures.items in
    let one = more _ _ _ _ _ _ c.in_ok-extend_from_range-in-After.ensures (ap (λ (l : List Val). length l) none) in
    let two = more _ _ _ _ _ _ c.in_ok-extend_from_range-in-After-2.ensures one in
    omega (arith, two)

pub extend_from_range-requires-in-After-3-clause-few : goal.extend_from_range-requires-in-After-3-clause-few
extend_from_range-requires-in-After-3-clause-few c =
    let none = begun _ c.in_ok-with_capacity.ensures.items in
    let one = more _ _ _ _ _ _ c.in_ok-extend_from_range-in-After.ensures (ap (λ (l : List Val). length l) none) in
    let two = more _ _ _ _ _ _ c.in_ok-extend_from_range-in-After-2.ensures one in
    let three = more _ _ _ _ _ _ c.in_ok-extend_from_range-in-After-3.ensures two in
    omega (arith, three)

pub extend_from_range-requires-in-Leaving-2-clause-few : goal.extend_from_range-requires-in-Leaving-2-clause-few
extend_from_range-requires-in-Leaving-2-clause-few c =
    let none = begun _ c.in_ok-with_capacity.ensures.items in
    let one = more _ _ _ _ _ _ c.in_ok-extend_from_range-in-Leaving.ensures (ap (λ (l : List Val). length l) none) in
    omega (arith, one)

pub returns-in_ok-extend_from_range-in-After-4 : goal.returns-in_ok-extend_from_range-in-After-4
returns-in_ok-extend_from_range-in-After-4 c =
    let own = rw c.in-After.is at c.requires in
    let mine = all_values c.args.own.now in
    let lower = all_values c.as_ref-lower.result.now in
    let regs = c.in-After.s.now.regs in
    let none = begun _ c.in_ok-with_capacity.ensures.items in
    rw c.in-After.is
    (c.in_ok-extend_from_range-in-After-4.ensures
    ∙ ap (λ (l : List Val). l ++ values_from mine 22 5)
    (c.in_ok-extend_from_range-in-After-3.ensures
    ∙ ap (λ (l : List Val). l ++ values_from lower 8 6)
    (c.in_ok-extend_from_range-in-After-2.ensures
    ∙ ap (λ (l : List Val). l ++ values_from mine 8 8) (c.in_ok-extend_from_range-in-After.ensures ∙ ap (λ (l : List Val). l ++ values_from lower 0 8) none)))
    ∙ ap (λ (l : List Val). parts lower l) own
    ∙ ap (λ (v : Values). parts (all_values v) regs) c.as_ref-lower.ensures
    ∙ after_parts (all_values c.in-After.exit.now.lower.value) regs (omega arith))

pub returns-in_ok-extend_from_range-in-Leaving-2 : goal.returns-in_ok-extend_from_range-in-Leaving-2
returns-in_ok-extend_from_range-in-Leaving-2 c =
    let own = rw c.in-Leaving.is at c.requires in
    let mine = all_values c.args.own.now in
    let none = begun _ c.in_ok-with_capacity.ensures.items in
    rw c.in-Leaving.is
    (c.in_ok-extend_from_range-in-Leaving-2.ensures
    ∙ ap (λ (l : List Val). l ++ values_from mine 16 6) (c.in_ok-extend_from_range-in-Leaving.ensures ∙ ap (λ (l : List Val). l ++ values_from mine 0 8) none)
    ∙ ap (λ (l : List Val). values_from l 0 8 ++ values_from l 16 6) own
    ∙ leaving_parts c.in-Leaving.s.now.regs (omega arith))
