use Rattle.std.proofs.Common.{◌≡◌, ◌∙◌, ◌<◌, List, false, true, length, sym, ap, refl, arith}
use Rattle.std.proofs.Math.ListN.{length-set}
use Rattle.small_states.specs.declared.values.SpacedValue.{SpacedValue}
use Rattle.small_states.proofs.WrittenOver.{all_written, none_written, one_kept, one_written, place_within}
use Rattle.small_states.proofs.scratch.overwrite_last_values.Goals as goal
use Rattle.small_states.proofs.scratch.overwrite_last_values.Goals.{then-not-is_equal, else-not-is_equal}

pub loop-n-init : goal.loop-n-init
loop-n-init c = (
  none_written c.args.values.now.known.items c.args.last.now.known.items c.args.last.now.rest c.args.regs.now c.requires.last,
  c.told-regs,
  sym (ap (λ (l : List SpacedValue). length l) c.as_slice-old.ensures.value) ∙ c.if-old-known.false ∙ ap (λ (l : List SpacedValue). length l) c.as_slice-known.ensures.value,
  λ t. refl,
)

pub overflow_add-place : goal.overflow_add-place
overflow_add-place c =
    let v = c.as_slice-known.ensures.value in
    omega (arith, place_within c.args.values.now.known.items c.args.values.now.rest c.loop-n.n c.loop-n.at c.index-known-n.result (rw v at c.loop-n-test.true) (rw v at c.index-known-n.is) c.loop-n.invariant.0.up_to c.requires.long)

pub loop-n-preserved : goal.loop-n-preserved
loop-n-preserved c =
    let v = c.as_slice-known.ensures.value in
    let o = c.as_slice-old.ensures.value in
    let known = c.args.values.now.known.items in
    let last = c.args.last.now.known.items in
    let rest = c.args.last.now.rest in
    let here = c.index-known-n.result in
    let before = c.index-old-n.result in
    let lt = rw v at c.loop-n-test.true in
    let is = rw v at c.index-known-n.is in
    let lt_last : c.loop-n.n < length last = omega (arith, lt, c.loop-n.invariant.2) in
    let was = rw o at c.index-old-n.is in
    let gap = c.if-before-here.false in
    elim c.if-not-is_equal.branch [
      | then-not-is_equal w ↦
          rw (w.regs-is, w.same-is, w.write_to-then-not-is_equal.ensures) (
            one_written known last rest c.loop-n.n c.loop-n.at c.loop-n.regs here before lt is lt_last was gap c.loop-n.invariant.0,
            simp length-set c.loop-n.invariant.1,
            c.loop-n.invariant.2,
            λ t. absurd (let f : false ≡ true = t in cc),
          )
      | else-not-is_equal w ↦
          rw (w.regs-is, w.same-is) (
            one_kept known last rest c.loop-n.n c.loop-n.at c.loop-n.regs here before lt is lt_last was gap c.loop-n.invariant.0 (c.is_equal.ensures w.if-not-is_equal.false),
            c.loop-n.invariant.1,
            c.loop-n.invariant.2,
            c.loop-n.invariant.3,
          )
    ]

pub returns-clause-regs : goal.returns-clause-regs
returns-clause-regs c =
    let v = c.as_slice-known.ensures.value in
    all_written c.args.values.now.known.items c.args.last.now.known.items c.args.last.now.rest c.args.values.now.rest c.loop-n.n c.loop-n.at c.loop-n.regs (omega (arith, rw v at c.loop-n-test.false)) c.loop-n.invariant.2 c.loop-n.invariant.0
    (omega (arith, c.loop-n.invariant.1, c.requires.long))
