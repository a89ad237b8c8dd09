use Rattle.std.proofs.Common.{◌∙◌, ◌+◌, ◌++◌, ◌∷◌, [], ℕ, List, length, replicate, take, subst, ap, sym, arith}
use Rattle.std.proofs.lemmas.List.{take_all}
use Rattle.value_domain.specs.declared.values.Val.{Val}
use Rattle.value_domain.specs.State.{joined_regs}
use Rattle.value_domain.specs.Values.{join_of, IsInLattice, any_val}
use Rattle.small_states.specs.Incoming.{incoming_values}
use Rattle.small_states.specs.CompactForms.{all_values, values_to_last_known}
use Rattle.small_states.specs.declared.values.SpacedValue.{SpacedValue}
use Rattle.small_states.proofs.SparseLemmas.{all_few, is_within, joined_few, joined_more, joined_rest, known_place, length-front}
use Rattle.small_states.proofs.incoming_values.join_incoming_values.Goals as goal

pub overflow_add-place : goal.overflow_add-place
overflow_add-place c =
    let v = c.as_slice-known.ensures.value in
    omega (
      arith,
      c.count_incoming_values-count.ensures.long,
      c.count_incoming_values-count.ensures.few,
      c.requires.long,
      c.loop-n.invariant.0,
      ap (λ (s : SpacedValue). s.anys) c.index-known-n.is,
      is_within c.args.left.now.known.items c.args.left.now.rest c.loop-n.n c.index-known-n.result (rw v at c.loop-n-test.true) (rw v at c.index-known-n.is),
    )

pub overflow_add-at : goal.overflow_add-at
overflow_add-at c =
    let v = c.as_slice-known.ensures.value in
    omega (
      arith,
      c.count_incoming_values-count.ensures.long,
      c.count_incoming_values-count.ensures.few,
      c.requires.long,
      c.loop-n.invariant.0,
      ap (λ (s : SpacedValue). s.anys) c.index-known-n.is,
      is_within c.args.left.now.known.items c.args.left.now.rest c.loop-n.n c.index-known-n.result (rw v at c.loop-n-test.true) (rw v at c.index-known-n.is),
    )

pub incoming_value-requires-clause-place : goal.incoming_value-requires-clause-place
incoming_value-requires-clause-place c =
    let v = c.as_slice-known.ensures.value in
    omega (
      arith,
      c.requires.long,
      c.loop-n.invariant.0,
      ap (λ (s : SpacedValue). s.anys) c.index-known-n.is,
      is_within c.args.left.now.known.items c.args.left.now.rest c.loop-n.n c.index-known-n.result (rw v at c.loop-n-test.true) (rw v at c.index-known-n.is),
    )

pub join_incoming-requires-clause-own : goal.join_incoming-requires-clause-own
join_incoming-requires-clause-own c =
    let v = c.as_slice-known.ensures.value in
    let known = c.args.left.now.known.items in
    let rest = c.args.left.now.rest in
    let here = c.index-known-n.result in
    let lt = rw v at c.loop-n-test.true in
    let is = rw v at c.index-known-n.is in
    subst (λ (u : Val). IsInLattice c.args.b.now u) (known_place known rest c.loop-n.n here lt is c.loop-n.at c.loop-n.invariant.0)
    (c.requires.left (c.loop-n.at + here.anys) (omega (arith, c.loop-n.invariant.0, is_within known rest c.loop-n.n here lt is)))

pub join_incoming-requires-clause-value : goal.join_incoming-requires-clause-value
join_incoming-requires-clause-value c =
    let v = c.as_slice-known.ensures.value in
    let known = c.args.left.now.known.items in
    let here = c.index-known-n.result in
    rw c.incoming_value.ensures
    (c.requires.incoming (c.loop-n.at + here.anys)
    (omega (
      arith,
      c.requires.long,
      c.loop-n.invariant.0,
      ap (λ (s : SpacedValue). s.anys) c.index-known-n.is,
      is_within known c.args.left.now.rest c.loop-n.n here (rw v at c.loop-n-test.true) (rw v at c.index-known-n.is),
    )))

pub push_after_unknowns-requires : goal.push_after_unknowns-requires
push_after_unknowns-requires c =
    let v = c.as_slice-known.ensures.value in
    let known = c.args.left.now.known.items in
    let within = is_within known c.args.left.now.rest c.loop-n.n c.index-known-n.result (rw v at c.loop-n-test.true) (rw v at c.index-known-n.is) in
    omega (
      arith,
      c.count_incoming_values-count.ensures.long,
      c.count_incoming_values-count.ensures.few,
      c.requires.long,
      c.loop-n.invariant.0,
      ap (λ (s : SpacedValue). s.anys) c.index-known-n.is,
      within,
      joined_few c.args.b.now known c.args.left.now.rest (incoming_values c.args.incoming.now) c.requires.long (all_values c.loop-n.values) c.loop-n.at (omega (arith, c.loop-n.invariant.0, within)) c.loop-n.invariant.1,
    )

pub loop-n-preserved : goal.loop-n-preserved
loop-n-preserved c =
    let v = c.as_slice-known.ensures.value in
    let b = c.args.b.now in
    let known = c.args.left.now.known.items in
    let rest = c.args.left.now.rest in
    let ws = incoming_values c.args.incoming.now in
    let here = c.index-known-n.result in
    let lt = rw v at c.loop-n-test.true in
    let is = rw v at c.index-known-n.is in
    let values = joined_regs b (all_values c.args.left.now) ws in (
      omega (arith, c.loop-n.invariant.0, ap (λ (s : SpacedValue). s.anys) c.index-known-n.is, length-front known rest c.loop-n.n here lt is),
      c.in_ok-push_after_unknowns.ensures
          ∙ ap (λ (l : List Val). (l ++ replicate here.anys any_val) ++ c.in_ok-value.value ∷ []) c.loop-n.invariant.1
          ∙ ap (λ (u : Val). (take c.loop-n.at values ++ replicate here.anys any_val) ++ u ∷ [])
          (c.in_ok-value.ensures ∙ ap (λ (u : Val). join_of b here.value u) c.incoming_value.ensures)
          ∙ sym (joined_more b known rest ws c.requires.long c.requires.left c.requires.incoming c.loop-n.n here lt is c.loop-n.at c.loop-n.invariant.0),
    )

pub push_unknowns-requires : goal.push_unknowns-requires
push_unknowns-requires c =
    let v = c.as_slice-known.ensures.value in
    let known = c.args.left.now.known.items in
    let ws = incoming_values c.args.incoming.now in
    let whole = ap (λ (l : List SpacedValue). length (values_to_last_known l)) (take_all c.loop-n.n known (rw v at c.loop-n-test.false)) in
    omega (
      arith,
      c.count_incoming_values-count.ensures.long,
      c.count_incoming_values-count.ensures.few,
      c.requires.long,
      c.loop-n.invariant.0,
      whole,
      all_few known c.args.left.now.rest,
      joined_few c.args.b.now known c.args.left.now.rest ws c.requires.long (all_values c.loop-n.values) c.loop-n.at (omega (arith, c.loop-n.invariant.0, whole, all_few known c.args.left.now.rest)) c.loop-n.invariant.1,
    )

pub returns : goal.returns
returns c =
    let v = c.as_slice-known.ensures.value in
    let b = c.args.b.now in
    let known = c.args.left.now.known.items in
    let rest = c.args.left.now.rest in
    let ws = incoming_values c.args.incoming.now in
    let values = joined_regs b (all_values c.args.left.now) ws in
    let whole = c.loop-n.invariant.0 ∙ ap (λ (l : List SpacedValue). length (values_to_last_known l)) (take_all c.loop-n.n known (rw v at c.loop-n-test.false)) in
    c.push_unknowns.ensures
    ∙ ap (λ (l : List Val). l ++ replicate rest any_val) (c.loop-n.invariant.1 ∙ ap (λ (m : ℕ). take m values) whole)
    ∙ joined_rest b known rest ws c.requires.long c.requires.left c.requires.incoming
