use Rattle.std.proofs.Common.{◌≡◌, ◌∙◌, ◌+◌, ◌-◌, ◌<◌, ◌++◌, ◌∷◌, [], ℕ, List, length, replicate, take, ap, sym, arith}
use Rattle.std.proofs.lemmas.List.{take_all, take_more, take_more_set}
use Rattle.std.proofs.Math.ListN.{length-set}
use Rattle.value_domain.specs.declared.values.Val.{Val}
use Rattle.value_domain.specs.Values.{any_val}
use Rattle.small_states.specs.declared.values.SpacedValue.{SpacedValue}
use Rattle.small_states.specs.CompactForms.{values_to_last_known}
use Rattle.small_states.proofs.SparseLemmas.{all_few, is_within, length-front, written_more}
use Rattle.small_states.proofs.values.Values.write_to.Goals as goal
use Rattle.small_states.proofs.values.Values.write_to.Goals.{then-not-stands_for, else-not-stands_for}

pub write_unknowns-requires-clause-within : goal.write_unknowns-requires-clause-within
write_unknowns-requires-clause-within c =
    let v = c.as_slice-known.ensures.value in
    omega (
      arith,
      c.requires,
      c.loop-n.invariant.1,
      is_within c.args.self.now.known.items c.args.self.now.rest c.loop-n.n c.index-known-n.result (rw v at c.loop-n-test.true) (rw v at c.index-known-n.is),
    )

pub listed : goal.listed
listed c =
    let v = c.as_slice-known.ensures.value in
    omega (
      arith,
      c.requires,
      c.loop-n.invariant.1,
      c.write_unknowns.ensures.long,
      is_within c.args.self.now.known.items c.args.self.now.rest c.loop-n.n c.index-known-n.result (rw v at c.loop-n-test.true) (rw v at c.index-known-n.is),
    )

pub bounds-out-place : goal.bounds-out-place
bounds-out-place c =
    let v = c.as_slice-known.ensures.value in
    omega (
      arith,
      c.requires,
      c.loop-n.invariant.1,
      is_within c.args.self.now.known.items c.args.self.now.rest c.loop-n.n c.index-known-n.result (rw v at c.loop-n-test.true) (rw v at c.index-known-n.is),
    )

pub listed-then-not-stands_for : goal.listed-then-not-stands_for
listed-then-not-stands_for c =
    let v = c.as_slice-known.ensures.value in
    omega (
      arith,
      c.requires,
      c.loop-n.invariant.1,
      c.write_unknowns.ensures.long,
      is_within c.args.self.now.known.items c.args.self.now.rest c.loop-n.n c.index-known-n.result (rw v at c.loop-n-test.true) (rw v at c.index-known-n.is),
    )

pub bounds-out-place-then-not-stands_for : goal.bounds-out-place-then-not-stands_for
bounds-out-place-then-not-stands_for c =
    let v = c.as_slice-known.ensures.value in
    omega (
      arith,
      c.requires,
      c.loop-n.invariant.1,
      is_within c.args.self.now.known.items c.args.self.now.rest c.loop-n.n c.index-known-n.result (rw v at c.loop-n-test.true) (rw v at c.index-known-n.is),
    )

pub loop-n-preserved : goal.loop-n-preserved
loop-n-preserved c =
    let v = c.as_slice-known.ensures.value in
    let known = c.args.self.now.known.items in
    let rest = c.args.self.now.rest in
    let n = c.loop-n.n in
    let at = c.loop-n.at in
    let here = c.index-known-n.result in
    let lt = rw v at c.loop-n-test.true in
    let is = rw v at c.index-known-n.is in
    let within = is_within known rest n here lt is in
    let out = c.write_unknowns.new.out in
    let place = at + here.anys in
    let run : at + here.anys - at ≡ here.anys = omega arith in
    let inside : place < length out = omega (arith, c.requires, c.loop-n.invariant.1, c.write_unknowns.ensures.long, within) in
    let before =
    ap (λ (l : List Val). l ++ here.value ∷ [])
    (c.write_unknowns.ensures.written
    ∙ ap (λ (l : List Val). l ++ replicate (at + here.anys - at) any_val) c.loop-n.invariant.0
    ∙ ap (λ (m : ℕ). values_to_last_known (take n known) ++ replicate m any_val) run)
    ∙ written_more known rest n here lt is
    in
    let up_to = length-front known rest n here lt is in
    elim c.if-not-stands_for.branch [
      | then-not-stands_for w ↦
          rw w.out-is (
            take_more_set out place _ inside ∙ ap (λ (u : Val). take place out ++ u ∷ []) w.write_to.ensures ∙ before,
            omega (arith, c.loop-n.invariant.1, up_to),
            simp length-set c.write_unknowns.ensures.long,
          )
      | else-not-stands_for w ↦
          rw w.out-is (
            take_more out place c.index-out-place.result inside
                ∙ ap (λ (u : Val). take place out ++ u ∷ []) (c.stands_for.ensures w.if-not-stands_for.false)
                ∙ before,
            omega (arith, c.loop-n.invariant.1, up_to),
            c.write_unknowns.ensures.long,
          )
    ]

pub returns : goal.returns
returns c =
    let v = c.as_slice-known.ensures.value in
    let known = c.args.self.now.known.items in
    let rest = c.args.self.now.rest in
    let done = take_all c.loop-n.n known (rw v at c.loop-n-test.false) in
    let whole = ap (λ (l : List SpacedValue). length (values_to_last_known l)) done in
    let left : 27 - c.loop-n.at ≡ rest = omega (arith, c.requires, c.loop-n.invariant.1, whole, all_few known rest) in
    sym (take_all 27 c.write_unknowns-2.new.out (omega (arith, c.write_unknowns-2.ensures.long)))
    ∙ c.write_unknowns-2.ensures.written
    ∙ ap (λ (l : List Val). l ++ replicate (27 - c.loop-n.at) any_val) (c.loop-n.invariant.0 ∙ ap (λ (l : List SpacedValue). values_to_last_known l) done)
    ∙ ap (λ (m : ℕ). values_to_last_known known ++ replicate m any_val) left
