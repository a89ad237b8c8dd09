use Rattle.std.proofs.Common.{◌≡◌, ◌∙◌, ◌+◌, ◌-◌, ◌++◌, ◌∷◌, [], ℕ, List, length, replicate, take, ap, arith}
use Rattle.std.proofs.lemmas.List.{append_assoc, length-append, take_all}
use Rattle.value_domain.specs.declared.values.Val.{Val}
use Rattle.value_domain.specs.Values.{any_val}
use Rattle.small_states.specs.CompactForms.{all_values, values_to_last_known, values_from}
use Rattle.small_states.specs.declared.values.SpacedValue.{SpacedValue}
use Rattle.small_states.proofs.SparseLemmas.{length-front, length-values_from, none_yet, part_behind, part_gap, part_more, part_rest}
use Rattle.small_states.proofs.values.Values.extend_from_range.Goals as goal
use Rattle.small_states.proofs.values.Values.extend_from_range.Goals.{then-place-from+in_ok-value+in_ok-push_after_unknowns, else-place-from}

pub loop-n-init : goal.loop-n-init
loop-n-init c = (
  omega arith,
  omega arith,
  omega arith,
  none_yet (all_values c.args.others.now) (all_values c.args.self.now) c.args.from,
)

pub push_unknowns-requires : goal.push_unknowns-requires
push_unknowns-requires c =
    let part = values_from (all_values c.args.others.now) c.args.from (c.loop-n.done - c.args.from) in
    omega (
      arith,
      c.requires.few,
      c.loop-n.invariant.1,
      c.loop-n.invariant.2,
      ap (λ (l : List Val). length l) c.loop-n.invariant.3,
      length-append (all_values c.args.self.now) part,
      length-values_from (all_values c.args.others.now) c.args.from (c.loop-n.done - c.args.from),
    )

pub returns-then-place-to : goal.returns-then-place-to
returns-then-place-to c =
    let v = c.as_slice-known.ensures.value in
    let known = c.args.others.now.known.items in
    let rest = c.args.others.now.rest in
    let vs = all_values c.args.others.now in
    let here = c.index-known-n.result in
    let from = c.args.from in
    let done = c.loop-n.done in
    let to : ℕ = from + c.args.count in
    let old = all_values c.args.self.now in
    let anys = replicate (to - done) any_val in
    let e : to - from ≡ c.args.count = omega arith in
    let inv = c.loop-n.invariant in
    c.push_unknowns.ensures
    ∙ ap (λ (l : List Val). l ++ anys) inv.3
    ∙ append_assoc old (values_from vs from (done - from)) anys
    ∙ ap (λ (l : List Val). old ++ l)
    (part_gap known rest c.loop-n.n here (rw v at c.loop-n-test.true) (rw v at c.index-known-n.is) c.loop-n.at inv.0 from done (omega (arith, inv.1)) (omega (arith, inv.1)) to
    (omega (arith, inv.2)) (omega (arith, c.if-place-to.true)))
    ∙ ap (λ (m : ℕ). old ++ values_from vs from m) e

pub push_after_unknowns-requires : goal.push_after_unknowns-requires
push_after_unknowns-requires c =
    let part = values_from (all_values c.args.others.now) c.args.from (c.loop-n.done - c.args.from) in
    omega (
      arith,
      c.requires.few,
      c.loop-n.invariant.1,
      c.loop-n.invariant.2,
      c.if-place-to.false,
      c.if-place-from.true,
      ap (λ (l : List Val). length l) c.loop-n.invariant.3,
      length-append (all_values c.args.self.now) part,
      length-values_from (all_values c.args.others.now) c.args.from (c.loop-n.done - c.args.from),
    )

pub loop-n-preserved : goal.loop-n-preserved
loop-n-preserved c =
    let v = c.as_slice-known.ensures.value in
    let known = c.args.others.now.known.items in
    let rest = c.args.others.now.rest in
    let vs = all_values c.args.others.now in
    let here = c.index-known-n.result in
    let lt = rw v at c.loop-n-test.true in
    let is = rw v at c.index-known-n.is in
    let from = c.args.from in
    let at = c.loop-n.at in
    let done = c.loop-n.done in
    let old = all_values c.args.self.now in
    let inv = c.loop-n.invariant in
    let next : at + here.anys + 1 ≡ length (values_to_last_known (take (c.loop-n.n + 1) known)) = omega (arith, inv.0, length-front known rest c.loop-n.n here lt is) in
    elim c.if-place-from.branch [
      | then-place-from+in_ok-value+in_ok-push_after_unknowns w ↦
          let gap : ℕ = at + here.anys - done in
          let anys = replicate gap any_val in
          let part = values_from vs from (done - from) in
          rw (w.self-is, w.done-is) (
            next,
            omega (arith, w.if-place-from.true),
            omega (arith, c.if-place-to.false),
            w.in_ok-push_after_unknowns.ensures
                ∙ ap (λ (l : List Val). (l ++ anys) ++ w.in_ok-value.value ∷ []) inv.3
                ∙ ap (λ (u : Val). ((old ++ part) ++ anys) ++ u ∷ []) w.in_ok-value.ensures
                ∙ part_behind old part anys here.value
                ∙ ap (λ (l : List Val). old ++ l)
                (part_more known rest c.loop-n.n here lt is at inv.0 from done (omega (arith, inv.1)) (omega (arith, inv.1)) (omega (arith, inv.1, w.if-place-from.true))),
          )
      | else-place-from w ↦ rw (w.self-is, w.done-is) (next, omega (arith, inv.1, w.if-place-from.false), inv.2, inv.3)
    ]

pub push_unknowns-requires-2 : goal.push_unknowns-requires-2
push_unknowns-requires-2 c =
    let part = values_from (all_values c.args.others.now) c.args.from (c.loop-n.done - c.args.from) in
    omega (
      arith,
      c.requires.few,
      c.loop-n.invariant.1,
      c.loop-n.invariant.2,
      ap (λ (l : List Val). length l) c.loop-n.invariant.3,
      length-append (all_values c.args.self.now) part,
      length-values_from (all_values c.args.others.now) c.args.from (c.loop-n.done - c.args.from),
    )

pub returns : goal.returns
returns c =
    let v = c.as_slice-known.ensures.value in
    let known = c.args.others.now.known.items in
    let rest = c.args.others.now.rest in
    let vs = all_values c.args.others.now in
    let from = c.args.from in
    let done = c.loop-n.done in
    let to : ℕ = from + c.args.count in
    let old = all_values c.args.self.now in
    let anys = replicate (to - done) any_val in
    let e : to - from ≡ c.args.count = omega arith in
    let inv = c.loop-n.invariant in
    let whole = ap (λ (l : List SpacedValue). length (values_to_last_known l)) (take_all c.loop-n.n known (rw v at c.loop-n-test.false)) in
    c.push_unknowns-2.ensures
    ∙ ap (λ (l : List Val). l ++ anys) inv.3
    ∙ append_assoc old (values_from vs from (done - from)) anys
    ∙ ap (λ (l : List Val). old ++ l) (part_rest known rest from done to (omega (arith, inv.0, inv.1, whole)) (omega (arith, inv.1)) (omega (arith, inv.2)))
    ∙ ap (λ (m : ℕ). old ++ values_from vs from m) e
