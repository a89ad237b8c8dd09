use Rattle.std.proofs.Common.{◌≡◌, ◌∙◌, ◌+◌, ◌++◌, [], ℕ, List, length, replicate, ap, arith}
use Rattle.std.proofs.lemmas.List.{length-append, length-replicate}
use Rattle.value_domain.specs.declared.values.Val.{Val}
use Rattle.value_domain.specs.Values.{any_val}
use Rattle.small_states.specs.CompactForms.{all_values, values_to_last_known, values_from}
use Rattle.small_states.specs.declared.values.SpacedValue.{SpacedValue}
use Rattle.small_states.proofs.IncomingLemmas.{forgotten_parts}
use Rattle.small_states.proofs.SparseLemmas.{length-values_from}
use Rattle.small_states.proofs.incoming_values.without_lower_values.Goals as goal

-- unknown values at first
begun : (known : List SpacedValue) → known ≡ [] → values_to_last_known known ++ replicate 8 any_val ≡ replicate 8 any_val
begun known none = ap (λ (l : List SpacedValue). values_to_last_known l ++ replicate 8 any_val) none

-- more values
more : (old new vs : List Val) (from count n : ℕ) → new ≡ old ++ values_from vs from count → length old ≡ n → length new ≡ n + count
more old new vs from count n e long =
    ap (λ (l : List Val). length l) e ∙ length-append old (values_from vs from count) ∙ ap (λ (m : ℕ). m + length (values_from vs from count)) long
    ∙ ap (λ (m : ℕ). n + m) (length-values_from vs from count)

more_anys : (old new : List Val) (count n : ℕ) → new ≡ old ++ replicate count any_val → length old ≡ n → length new ≡ n + count
more_anys old new count n e long =
    ap (λ (l : List Val). length l) e ∙ length-append old (replicate count any_val) ∙ ap (λ (m : ℕ). m + length (replicate count any_val)) long
    ∙ ap (λ (m : ℕ). n + m) (length-replicate count any_val)

pub extend_from_range-requires-clause-few : goal.extend_from_range-requires-clause-few
extend_from_range-requires-clause-few c =
    let none = begun _ c.in_ok-with_capacity.ensures.items in
    omega (arith, ap (λ (l : List Val). length l) none)

pub push_unknowns-requires : goal.push_unknowns-requires
push_unknowns-requires c =
    let none = begun _ c.in_ok-with_capacity.ensures.items in
    let one = more _ _ _ _ _ _ c.in_ok-extend_from_range.ensures (ap (λ (l : List Val). length l) none) in
    omega (arith, one)

pub extend_from_range-requires-2-clause-few : goal.extend_from_range-requires-2-clause-few
extend_from_range-requires-2-clause-few c =
    let none = begun _ c.in_ok-with_capacity.ensures.items in
    let one = more _ _ _ _ _ _ c.in_ok-extend_from_range.ensures (ap (λ (l : List Val). length l) none) in
    let two = more_anys _ _ 6 16 c.push_unknowns.ensures one in
    omega (arith, two)

pub returns : goal.returns
returns c =
    let own = all_values c.args.own.now in
    let none = begun _ c.in_ok-with_capacity.ensures.items in
    c.in_ok-extend_from_range-2.ensures
    ∙ ap (λ (l : List Val). l ++ values_from own 22 5)
    (c.push_unknowns.ensures ∙ ap (λ (l : List Val). l ++ replicate 6 any_val) (c.in_ok-extend_from_range.ensures ∙ ap (λ (l : List Val). l ++ values_from own 8 8) none))
    ∙ forgotten_parts own c.requires
