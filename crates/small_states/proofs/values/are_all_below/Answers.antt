use Rattle.std.proofs.Common.{◌≡◌, ◌∙◌, ◌+◌, ◌<◌, ℕ, List, length, get_or, take, refl, subst, sym, ap, arith}
use Rattle.std.proofs.lemmas.List.{take_all}
use Rattle.value_domain.specs.declared.values.Val.{Val}
use Rattle.value_domain.specs.Values.{IsBelow, IsWellFormed, any_val}
use Rattle.small_states.specs.declared.values.SpacedValue.{SpacedValue}
use Rattle.small_states.specs.CompactForms.{all_values, values_to_last_known}
use Rattle.small_states.proofs.SparseLemmas.{covered_all, covered_more, is_within, length-front, value_there}
use Rattle.small_states.proofs.values.are_all_below.Goals as goal

pub loop-n-init : goal.loop-n-init
loop-n-init c = (refl, (λ r h. absurd (omega (arith, h))))

pub covers_small-requires-clause-own : goal.covers_small-requires-clause-own
covers_small-requires-clause-own c =
    let v = c.as_slice-highs.ensures.value in
    let known = c.args.high.now.known.items in
    let rest = c.args.high.now.rest in
    let here = c.index-highs-n.result in
    let count = ap (λ (l : List SpacedValue). length l) v in
    let lt : c.loop-n.n < length known = omega (arith, c.loop-n-test.true, c.if-lows-highs.false, count) in
    let is = rw v at c.index-highs-n.is in
    subst IsWellFormed (value_there known rest c.loop-n.n here lt is) (c.requires.high _ (is_within known rest c.loop-n.n here lt is))

pub covers_small-requires-clause-value : goal.covers_small-requires-clause-value
covers_small-requires-clause-value c =
    let v = c.as_slice-lows.ensures.value in
    let known = c.args.low.now.known.items in
    let rest = c.args.low.now.rest in
    let here = c.index-lows-n.result in
    let lt = rw v at c.loop-n-test.true in
    let is = rw v at c.index-lows-n.is in
    subst IsWellFormed (value_there known rest c.loop-n.n here lt is) (c.requires.low _ (is_within known rest c.loop-n.n here lt is))

pub loop-n-preserved : goal.loop-n-preserved
loop-n-preserved c =
    let v = c.as_slice-lows.ensures.value in
    let w = c.as_slice-highs.ensures.value in
    let lows = c.args.low.now.known.items in
    let highs = c.args.high.now.known.items in
    let here = c.index-lows-n.result in
    let above = c.index-highs-n.result in
    let n = c.loop-n.n in
    let count = ap (λ (l : List SpacedValue). length l) w in
    let low_lt = rw v at c.loop-n-test.true in
    let low_is = rw v at c.index-lows-n.is in
    let high_lt : n < length highs = omega (arith, c.loop-n-test.true, c.if-lows-highs.false, count) in
    let high_is = rw w at c.index-highs-n.is in
    let same = c.loop-n.invariant.0 in
    let gaps = c.if-here-above.false in
    let at = length (values_to_last_known (take n highs)) in
    let place : length (values_to_last_known (take n lows)) + here.anys ≡ at + above.anys = omega (arith, same, gaps) in
    let there = ap (λ (i : ℕ). get_or (all_values c.args.low.now) i any_val) (sym place) ∙ value_there lows c.args.low.now.rest n here low_lt low_is in (
      omega (arith, same, gaps, length-front lows c.args.low.now.rest n here low_lt low_is, length-front highs c.args.high.now.rest n above high_lt high_is),
      (λ r h.
          covered_more highs c.args.high.now.rest (all_values c.args.low.now) (sym c.requires.long) c.requires.low n above high_lt high_is at refl c.loop-n.invariant.1
          (subst (λ (u : Val). IsBelow u above.value) (sym there) (c.covers_small.ensures.0 c.if-not-covers_small.false)) r
          (omega (arith, h, length-front highs c.args.high.now.rest n above high_lt high_is))),
    )

pub returns : goal.returns
returns c t =
    let v = c.as_slice-lows.ensures.value in
    let w = c.as_slice-highs.ensures.value in
    let highs = c.args.high.now.known.items in
    let count = ap (λ (l : List SpacedValue). length l) w in
    let whole = ap (λ (l : List SpacedValue). length (values_to_last_known l)) (take_all c.loop-n.n highs (omega (arith, c.loop-n-test.false, c.if-lows-highs.false, count))) in
    covered_all highs c.args.high.now.rest (all_values c.args.low.now) (sym c.requires.long) c.requires.low (λ r h. c.loop-n.invariant.1 r (omega (arith, whole, h)))
