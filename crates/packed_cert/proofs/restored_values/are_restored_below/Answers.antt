use Rattle.std.proofs.Common.{◌≡◌, ◌≤◌, ◌∙◌, ◌+◌, ℕ, true, false, length, get_or, refl, sym, ap, subst, arith}
use Rattle.value_domain.specs.declared.values.Val.{Val}
use Rattle.value_domain.specs.Values.{IsBelow, any_val}
use Rattle.value_domain.proofs.RegLaws.{below_more}
use Rattle.depth_cert.specs.Exits.{values_after_return_from}
use Rattle.depth_cert.proofs.ExitValues.{with_lower_length}
use Rattle.packed_cert.specs.ValuesInBytes.{offset_after_value, value_in_bytes, values_in_bytes}
use Rattle.packed_cert.proofs.ValueShapes.{left_first, length-values_in, stands_at}
use Rattle.packed_cert.proofs.LowerLaws.{LeftBehind, lower_before, lower_step}
use Rattle.packed_cert.proofs.restored_values.are_restored_below.Goals as goal

pub loop-i-init : goal.loop-i-init
loop-i-init c = record {
  lower = record { have = c.requires.low; left = refl };
  have = c.requires.high;
  left = refl;
  below = λ r h. absurd (omega arith);
}

pub is_restored_below-requires-clause-low : goal.is_restored_below-requires-clause-low
is_restored_below-requires-clause-low c = (lower_step c.args.lower.version c.args.lower.bytes.now c.args.lower.place c.loop-i.i c.loop-i.from c.args.regs.now (omega arith) (omega arith) c.loop-i.invariant.lower).has

pub is_restored_below-requires-clause-high : goal.is_restored_below-requires-clause-high
is_restored_below-requires-clause-high c = (left_first c.args.high.version c.args.high.bytes.now c.loop-i.at 27 c.loop-i.i (values_in_bytes c.args.high.version c.args.high.bytes.now c.args.high.place 27) (omega arith) (length-values_in c.args.high.version c.args.high.bytes.now c.args.high.place 27) c.loop-i.invariant.have c.loop-i.invariant.left).0

pub next_exit_value_offset-from-requires : goal.next_exit_value_offset-from-requires
next_exit_value_offset-from-requires c = (lower_step c.args.lower.version c.args.lower.bytes.now c.args.lower.place c.loop-i.i c.loop-i.from c.args.regs.now (omega arith) (omega arith) c.loop-i.invariant.lower).has

pub bounds-high-at : goal.bounds-high-at
bounds-high-at c =
    let l = left_first c.args.high.version c.args.high.bytes.now c.loop-i.at 27 c.loop-i.i (values_in_bytes c.args.high.version c.args.high.bytes.now c.args.high.place 27) (omega arith) (length-values_in c.args.high.version c.args.high.bytes.now c.args.high.place 27) c.loop-i.invariant.have c.loop-i.invariant.left in
    (stands_at c.args.high.version c.args.high.bytes.now c.loop-i.at c.cert_bytes_below_256.ensures l.0).inside

pub overflow_add-at : goal.overflow_add-at
overflow_add-at c =
    let l = left_first c.args.high.version c.args.high.bytes.now c.loop-i.at 27 c.loop-i.i (values_in_bytes c.args.high.version c.args.high.bytes.now c.args.high.place 27) (omega arith) (length-values_in c.args.high.version c.args.high.bytes.now c.args.high.place 27) c.loop-i.invariant.have c.loop-i.invariant.left in
    let next : c.loop-i.at + c.value_length_by_tag-at.result ≡ offset_after_value c.args.high.bytes.now c.loop-i.at = ap (λ (k : ℕ). c.loop-i.at + k) c.value_length_by_tag-at.ensures in
    let within : c.loop-i.at + c.value_length_by_tag-at.result ≤ length c.args.high.bytes.now = rw next (stands_at c.args.high.version c.args.high.bytes.now c.loop-i.at c.cert_bytes_below_256.ensures l.0).within in
    omega (arith, within)

pub returns-then-not-is_restored_below : goal.returns-then-not-is_restored_below
returns-then-not-is_restored_below c =
    let l = left_first c.args.high.version c.args.high.bytes.now c.loop-i.at 27 c.loop-i.i (values_in_bytes c.args.high.version c.args.high.bytes.now c.args.high.place 27) (omega arith) (length-values_in c.args.high.version c.args.high.bytes.now c.args.high.place 27) c.loop-i.invariant.have c.loop-i.invariant.left in
    let step = lower_step c.args.lower.version c.args.lower.bytes.now c.args.lower.place c.loop-i.i c.loop-i.from c.args.regs.now (omega arith) (omega arith) c.loop-i.invariant.lower in
    let len = with_lower_length (values_in_bytes c.args.lower.version c.args.lower.bytes.now c.args.lower.place 14) c.args.regs.now in (
      (λ t. absurd (let g : false ≡ true = t in cc)),
      (λ below.
          let here = rw (step.is, l.2) at (below c.loop-i.i (omega (arith, len))) in
          sym c.if-not-is_restored_below.true ∙ c.is_restored_below.ensures.1 here),
    )

pub loop-i-preserved : goal.loop-i-preserved
loop-i-preserved c =
    let vs = values_in_bytes c.args.high.version c.args.high.bytes.now c.args.high.place 27 in
    let low = values_after_return_from 0 (values_in_bytes c.args.lower.version c.args.lower.bytes.now c.args.lower.place 14) c.args.regs.now in
    let l = left_first c.args.high.version c.args.high.bytes.now c.loop-i.at 27 c.loop-i.i (values_in_bytes c.args.high.version c.args.high.bytes.now c.args.high.place 27) (omega arith) (length-values_in c.args.high.version c.args.high.bytes.now c.args.high.place 27) c.loop-i.invariant.have c.loop-i.invariant.left in
    let step = lower_step c.args.lower.version c.args.lower.bytes.now c.args.lower.place c.loop-i.i c.loop-i.from c.args.regs.now (omega arith) (omega arith) c.loop-i.invariant.lower in
    let next : c.loop-i.at + c.value_length_by_tag-at.result ≡ offset_after_value c.args.high.bytes.now c.loop-i.at = ap (λ (k : ℕ). c.loop-i.at + k) c.value_length_by_tag-at.ensures in
    let here : IsBelow (get_or low c.loop-i.i any_val) (value_in_bytes c.args.high.version c.args.high.bytes.now c.loop-i.at) =
    subst (λ (v : Val). IsBelow v (value_in_bytes c.args.high.version c.args.high.bytes.now c.loop-i.at)) (sym step.is) (c.is_restored_below.ensures.0 c.if-not-is_restored_below.false)
    in
    record {
      lower = subst (λ (n : ℕ). LeftBehind c.args.lower.version c.args.lower.bytes.now c.args.lower.place (lower_before (c.loop-i.i + 1)) n) (sym c.next_exit_value_offset-from.ensures) step.next;
      have = rw next l.1;
      left = rw next l.3;
      below = below_more low vs c.loop-i.i c.loop-i.invariant.below (subst (λ (w : Val). IsBelow (get_or low c.loop-i.i any_val) w) (sym l.2) here);
    }

pub returns : goal.returns
returns c =
    let len = with_lower_length (values_in_bytes c.args.lower.version c.args.lower.bytes.now c.args.lower.place 14) c.args.regs.now in
    ((λ t r h. c.loop-i.invariant.below r (omega (arith, len))), (λ below. refl))
