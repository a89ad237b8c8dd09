use Rattle.std.proofs.Common.{◌≡◌, ◌∙◌, ◌+◌, List, length, true, false, refl, subst, ap, sym, arith}
use Rattle.std.proofs.lemmas.List.{take_all}
use Rattle.value_domain.specs.Values.{IsWellFormed}
use Rattle.small_states.specs.Incoming.{incoming_values}
use Rattle.small_states.specs.declared.values.SpacedValue.{SpacedValue}
use Rattle.small_states.specs.CompactForms.{values_to_last_known}
use Rattle.small_states.proofs.SparseLemmas.{covered_all, covered_here, covered_more, length-front, place_there, place_within}
use Rattle.small_states.proofs.incoming_values.are_incoming_values_covered.Goals as goal

pub overflow_add-place : goal.overflow_add-place
overflow_add-place c =
    let v = c.as_slice-known.ensures.value in
    omega (
      arith,
      c.count_incoming_values-count.ensures.long,
      c.count_incoming_values-count.ensures.few,
      place_within c.args.upper.now.known.items c.args.upper.now.rest (incoming_values c.args.incoming.now) c.requires.long c.requires.incoming c.loop-n.n c.index-known-n.result
          (rw v at c.loop-n-test.true) (rw v at c.index-known-n.is) c.loop-n.at c.loop-n.invariant.0,
    )

pub overflow_add-at : goal.overflow_add-at
overflow_add-at c =
    let v = c.as_slice-known.ensures.value in
    omega (
      arith,
      c.count_incoming_values-count.ensures.long,
      c.count_incoming_values-count.ensures.few,
      place_within c.args.upper.now.known.items c.args.upper.now.rest (incoming_values c.args.incoming.now) c.requires.long c.requires.incoming c.loop-n.n c.index-known-n.result
          (rw v at c.loop-n-test.true) (rw v at c.index-known-n.is) c.loop-n.at c.loop-n.invariant.0,
    )

pub incoming_value-requires-clause-place : goal.incoming_value-requires-clause-place
incoming_value-requires-clause-place c =
    let v = c.as_slice-known.ensures.value in
    place_within c.args.upper.now.known.items c.args.upper.now.rest (incoming_values c.args.incoming.now) c.requires.long c.requires.incoming c.loop-n.n c.index-known-n.result
    (rw v at c.loop-n-test.true) (rw v at c.index-known-n.is) c.loop-n.at c.loop-n.invariant.0

pub covers_incoming-requires-clause-own : goal.covers_incoming-requires-clause-own
covers_incoming-requires-clause-own c =
    let v = c.as_slice-known.ensures.value in
    let known = c.args.upper.now.known.items in
    let rest = c.args.upper.now.rest in
    let ws = incoming_values c.args.incoming.now in
    let here = c.index-known-n.result in
    let lt = rw v at c.loop-n-test.true in
    let is = rw v at c.index-known-n.is in
    let within = place_within known rest ws c.requires.long c.requires.incoming c.loop-n.n here lt is c.loop-n.at c.loop-n.invariant.0 in
    subst IsWellFormed (place_there known rest ws c.requires.long c.requires.incoming c.loop-n.n here lt is c.loop-n.at c.loop-n.invariant.0)
    (c.requires.upper (c.loop-n.at + here.anys) (omega (arith, c.requires.long, within)))

pub covers_incoming-requires-clause-value : goal.covers_incoming-requires-clause-value
covers_incoming-requires-clause-value c =
    let v = c.as_slice-known.ensures.value in
    rw c.incoming_value.ensures
    (c.requires.incoming (c.loop-n.at + c.index-known-n.result.anys)
    (place_within c.args.upper.now.known.items c.args.upper.now.rest (incoming_values c.args.incoming.now) c.requires.long c.requires.incoming c.loop-n.n c.index-known-n.result
    (rw v at c.loop-n-test.true) (rw v at c.index-known-n.is) c.loop-n.at c.loop-n.invariant.0))

pub returns-then-not-covers_incoming : goal.returns-then-not-covers_incoming
returns-then-not-covers_incoming c =
    let v = c.as_slice-known.ensures.value in
    let known = c.args.upper.now.known.items in
    let rest = c.args.upper.now.rest in
    let ws = incoming_values c.args.incoming.now in
    let covers = rw c.incoming_value.ensures at c.covers_incoming.ensures in (
      (λ t. absurd (let g : false ≡ true = t in cc)),
      (λ below.
          sym c.if-not-covers_incoming.true
          ∙ covers.1
          (covered_here known rest ws c.requires.long c.requires.incoming c.loop-n.n c.index-known-n.result (rw v at c.loop-n-test.true) (rw v at c.index-known-n.is) c.loop-n.at
          c.loop-n.invariant.0 below)),
    )

pub loop-n-preserved : goal.loop-n-preserved
loop-n-preserved c =
    let v = c.as_slice-known.ensures.value in
    let known = c.args.upper.now.known.items in
    let rest = c.args.upper.now.rest in
    let ws = incoming_values c.args.incoming.now in
    let here = c.index-known-n.result in
    let lt = rw v at c.loop-n-test.true in
    let is = rw v at c.index-known-n.is in
    let covers = rw c.incoming_value.ensures at c.covers_incoming.ensures in (
      omega (arith, c.loop-n.invariant.0, length-front known rest c.loop-n.n here lt is),
      covered_more known rest ws c.requires.long c.requires.incoming c.loop-n.n here lt is c.loop-n.at c.loop-n.invariant.0 c.loop-n.invariant.1
          (covers.0 c.if-not-covers_incoming.false),
    )

pub returns : goal.returns
returns c =
    let v = c.as_slice-known.ensures.value in
    let known = c.args.upper.now.known.items in
    let ws = incoming_values c.args.incoming.now in
    let whole = ap (λ (l : List SpacedValue). length (values_to_last_known l)) (take_all c.loop-n.n known (rw v at c.loop-n-test.false)) in (
      (λ t. covered_all known c.args.upper.now.rest ws c.requires.long c.requires.incoming (λ r h. c.loop-n.invariant.1 r (omega (arith, c.loop-n.invariant.0, whole, h)))),
      (λ below. refl),
    )
