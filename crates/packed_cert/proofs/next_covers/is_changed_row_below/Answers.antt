use Rattle.std.proofs.Common.{◌≡◌, ◌≤◌, ◌+◌, ℕ, inl, inr, length, get_or, sym, ap, subst, arith}
use Rattle.std.proofs.lemmas.Bool.{cases_lt}
use Rattle.value_domain.specs.declared.values.Val.{Val}
use Rattle.value_domain.specs.Values.{IsBelow, any_val}
use Rattle.value_domain.proofs.RangeLaws.{below_any}
use Rattle.vd_transfer.specs.Changes.{state_after}
use Rattle.vd_transfer.proofs.ChangeLaws.{length-changed}
use Rattle.packed_cert.specs.ValuesInBytes.{offset_after_value, value_in_bytes}
use Rattle.packed_cert.specs.PointsInBytes.{state_in_bytes}
use Rattle.packed_cert.proofs.ValueShapes.{left_first, stands_at}
use Rattle.packed_cert.proofs.next_covers.is_changed_row_below.Goals as goal
use Rattle.packed_cert.proofs.next_covers.is_changed_row_below.Goals.{else-tag-ne0-via-then-tag-ne0+else-not-is_below_value_at, else-tag-ne0-via-else-tag-ne0}

pub loop-i-init : goal.loop-i-init
loop-i-init c = record {
  have = c.requires.moved.have;
  left = c.requires.moved.stand;
  below = λ k from low. absurd (omega arith);
}

pub is_below_value_at-requires-clause-well : goal.is_below_value_at-requires-clause-well
is_below_value_at-requires-clause-well c =
    let len : length (state_after c.args.s.now c.args.c.now).regs ≡ 27 = length-changed c.args.s.now c.args.c.now (omega arith) in
    rw c.changed_value.ensures (c.requires.well c.loop-i.i (omega (arith, c.requires.moved.few)))

pub is_below_value_at-requires-clause-stands : goal.is_below_value_at-requires-clause-stands
is_below_value_at-requires-clause-stands c =
    let vs = (state_in_bytes c.args.version c.args.bytes.now c.args.point.place).regs in
    let len : length vs ≡ 27 = omega (arith, c.requires.moved.row.count) in
    (left_first c.args.version c.args.bytes.now c.loop-i.at 27 c.loop-i.i vs (omega (arith, c.requires.moved.few)) len (c.loop-i.invariant.have (omega arith)) (c.loop-i.invariant.left (omega arith))).0

pub bounds-bytes-at : goal.bounds-bytes-at
bounds-bytes-at c =
    let vs = (state_in_bytes c.args.version c.args.bytes.now c.args.point.place).regs in
    let len : length vs ≡ 27 = omega (arith, c.requires.moved.row.count) in
    let l = left_first c.args.version c.args.bytes.now c.loop-i.at 27 c.loop-i.i vs (omega (arith, c.requires.moved.few)) len (c.loop-i.invariant.have (omega arith)) (c.loop-i.invariant.left (omega arith)) in
    (stands_at c.args.version c.args.bytes.now c.loop-i.at (λ k. (c.type_inv.bytes k).fits) l.0).inside

pub changed_value-requires-clause-place : goal.changed_value-requires-clause-place
changed_value-requires-clause-place c = omega (arith, c.requires.moved.few)

pub overflow_add-at : goal.overflow_add-at
overflow_add-at c =
    let vs = (state_in_bytes c.args.version c.args.bytes.now c.args.point.place).regs in
    let len : length vs ≡ 27 = omega (arith, c.requires.moved.row.count) in
    let l = left_first c.args.version c.args.bytes.now c.loop-i.at 27 c.loop-i.i vs (omega (arith, c.requires.moved.few)) len (c.loop-i.invariant.have (omega arith)) (c.loop-i.invariant.left (omega arith)) in
    let next : c.loop-i.at + c.value_length_by_tag-at.result ≡ offset_after_value c.args.bytes.now c.loop-i.at = ap (λ (k : ℕ). c.loop-i.at + k) c.value_length_by_tag-at.ensures in
    let within : c.loop-i.at + c.value_length_by_tag-at.result ≤ length c.args.bytes.now = rw next (stands_at c.args.version c.args.bytes.now c.loop-i.at (λ k. (c.type_inv.bytes k).fits) l.0).within in
    omega (arith, within)

pub loop-i-preserved : goal.loop-i-preserved
loop-i-preserved c =
    let vs = (state_in_bytes c.args.version c.args.bytes.now c.args.point.place).regs in
    let low = (state_after c.args.s.now c.args.c.now).regs in
    let i = c.loop-i.i in
    let len : length vs ≡ 27 = omega (arith, c.requires.moved.row.count) in
    let l = left_first c.args.version c.args.bytes.now c.loop-i.at 27 i vs (omega (arith, c.requires.moved.few)) len (c.loop-i.invariant.have (omega arith)) (c.loop-i.invariant.left (omega arith)) in
    let next : c.loop-i.at + c.value_length_by_tag-at.result ≡ offset_after_value c.args.bytes.now c.loop-i.at = ap (λ (k : ℕ). c.loop-i.at + k) c.value_length_by_tag-at.ensures in
    let more : length low ≡ 27 = length-changed c.args.s.now c.args.c.now (omega arith) in
    let s = stands_at c.args.version c.args.bytes.now c.loop-i.at (λ k. (c.type_inv.bytes k).fits) l.0 in
    let here : IsBelow (get_or low i any_val) (value_in_bytes c.args.version c.args.bytes.now c.loop-i.at) =
    elim c.else-tag-ne0.branch [
      | else-tag-ne0-via-then-tag-ne0+else-not-is_below_value_at w ↦
          subst (λ (v : Val). IsBelow v (value_in_bytes c.args.version c.args.bytes.now c.loop-i.at)) w.changed_value.ensures (w.is_below_value_at.ensures.0 w.if-not-is_below_value_at.false)
      | else-tag-ne0-via-else-tag-ne0 w ↦
          subst (λ (v : Val). IsBelow (get_or low i any_val) v) (sym (s.shape.any (omega (arith, w.if-tag-ne0.false)))) (below_any (get_or low i any_val) (c.requires.well i (omega (arith, c.requires.moved.few))))
    ]
    in
    record {
      have = λ some. rw next l.1;
      left = λ some. rw next l.3;
      below = λ k from lt.
          elim (cases_lt k i) [
            | inl before ↦ c.loop-i.invariant.below k from before
            | inr after ↦
                let same : i ≡ k = omega arith in
                subst (λ (n : ℕ). IsBelow (get_or low n any_val) (get_or vs n any_val)) same (subst (λ (v : Val). IsBelow (get_or low i any_val) v) (sym l.2) here)
          ];
    }

pub returns : goal.returns
returns c = λ t k from lt. c.loop-i.invariant.below k from (omega arith)
