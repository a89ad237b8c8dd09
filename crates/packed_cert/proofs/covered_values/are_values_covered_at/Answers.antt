use Rattle.std.proofs.Common.{◌≡◌, ◌≤◌, ◌∙◌, ◌+◌, ℕ, true, false, length, get_or, refl, sym, ap, subst, arith}
use Rattle.value_domain.specs.declared.values.Val.{Val}
use Rattle.value_domain.specs.Values.{IsBelow, any_val}
use Rattle.value_domain.proofs.RangeLaws.{below_any}
use Rattle.value_domain.proofs.RegLaws.{below_more}
use Rattle.packed_cert.specs.ToCover.{values_to_cover}
use Rattle.packed_cert.specs.ValuesInBytes.{offset_after_value, value_in_bytes, values_in_bytes}
use Rattle.packed_cert.proofs.ValueShapes.{left_first, length-values_in, stands_at}
use Rattle.packed_cert.proofs.covered_values.are_values_covered_at.Goals as goal
use Rattle.packed_cert.proofs.covered_values.are_values_covered_at.Goals.{else-tag-ne0-via-then-tag-ne0+else-not-is_below_value_at, else-tag-ne0-via-else-tag-ne0}

pub is_below_value_at-requires-clause-well : goal.is_below_value_at-requires-clause-well
is_below_value_at-requires-clause-well c =
    rw c.value_to_cover.ensures (c.requires.well c.loop-i.i (omega (arith, c.requires.count)))

pub is_below_value_at-requires-clause-stands : goal.is_below_value_at-requires-clause-stands
is_below_value_at-requires-clause-stands c =
    (left_first c.args.version c.args.bytes.now c.loop-i.at c.args.n c.loop-i.i (values_in_bytes c.args.version c.args.bytes.now c.args.place c.args.n) (omega arith) (length-values_in c.args.version c.args.bytes.now c.args.place c.args.n) c.loop-i.invariant.have c.loop-i.invariant.left).0

pub bounds-bytes-at : goal.bounds-bytes-at
bounds-bytes-at c =
    let l = left_first c.args.version c.args.bytes.now c.loop-i.at c.args.n c.loop-i.i (values_in_bytes c.args.version c.args.bytes.now c.args.place c.args.n) (omega arith) (length-values_in c.args.version c.args.bytes.now c.args.place c.args.n) c.loop-i.invariant.have c.loop-i.invariant.left in
    (stands_at c.args.version c.args.bytes.now c.loop-i.at (λ k. (c.type_inv.bytes k).fits) l.0).inside

pub overflow_add-at : goal.overflow_add-at
overflow_add-at c =
    let l = left_first c.args.version c.args.bytes.now c.loop-i.at c.args.n c.loop-i.i (values_in_bytes c.args.version c.args.bytes.now c.args.place c.args.n) (omega arith) (length-values_in c.args.version c.args.bytes.now c.args.place c.args.n) c.loop-i.invariant.have c.loop-i.invariant.left in
    let next : c.loop-i.at + c.value_length_by_tag-at.result ≡ offset_after_value c.args.bytes.now c.loop-i.at = ap (λ (k : ℕ). c.loop-i.at + k) c.value_length_by_tag-at.ensures in
    let within : c.loop-i.at + c.value_length_by_tag-at.result ≤ length c.args.bytes.now = rw next (stands_at c.args.version c.args.bytes.now c.loop-i.at (λ k. (c.type_inv.bytes k).fits) l.0).within in
    omega (arith, within)

pub returns-then-not-is_below_value_at : goal.returns-then-not-is_below_value_at
returns-then-not-is_below_value_at c =
    let l = left_first c.args.version c.args.bytes.now c.loop-i.at c.args.n c.loop-i.i (values_in_bytes c.args.version c.args.bytes.now c.args.place c.args.n) (omega arith) (length-values_in c.args.version c.args.bytes.now c.args.place c.args.n) c.loop-i.invariant.have c.loop-i.invariant.left in (
      (λ t. absurd (let g : false ≡ true = t in cc)),
      (λ below.
          let here = rw l.2 at (below c.loop-i.i (omega (arith, c.requires.count))) in
          sym c.if-not-is_below_value_at.true ∙ c.is_below_value_at.ensures.1 (rw c.value_to_cover.ensures here)),
    )

pub loop-i-preserved : goal.loop-i-preserved
loop-i-preserved c =
    let vs = values_in_bytes c.args.version c.args.bytes.now c.args.place c.args.n in
    let low = values_to_cover c.args.values.now in
    let l = left_first c.args.version c.args.bytes.now c.loop-i.at c.args.n c.loop-i.i vs (omega arith) (length-values_in c.args.version c.args.bytes.now c.args.place c.args.n) c.loop-i.invariant.have c.loop-i.invariant.left in
    let next : c.loop-i.at + c.value_length_by_tag-at.result ≡ offset_after_value c.args.bytes.now c.loop-i.at = ap (λ (k : ℕ). c.loop-i.at + k) c.value_length_by_tag-at.ensures in
    let s = stands_at c.args.version c.args.bytes.now c.loop-i.at (λ k. (c.type_inv.bytes k).fits) l.0 in
    let here : IsBelow (get_or low c.loop-i.i any_val) (value_in_bytes c.args.version c.args.bytes.now c.loop-i.at) =
    elim c.else-tag-ne0.branch [
      | else-tag-ne0-via-then-tag-ne0+else-not-is_below_value_at w ↦
          subst (λ (v : Val). IsBelow v (value_in_bytes c.args.version c.args.bytes.now c.loop-i.at)) w.value_to_cover.ensures (w.is_below_value_at.ensures.0 w.if-not-is_below_value_at.false)
      | else-tag-ne0-via-else-tag-ne0 w ↦
          subst (λ (v : Val). IsBelow (get_or low c.loop-i.i any_val) v) (sym (s.shape.any (omega (arith, w.if-tag-ne0.false)))) (below_any (get_or low c.loop-i.i any_val) (c.requires.well c.loop-i.i (omega (arith, c.requires.count))))
    ]
    in
    record {
      have = rw next l.1;
      left = rw next l.3;
      below = below_more low vs c.loop-i.i c.loop-i.invariant.below (subst (λ (w : Val). IsBelow (get_or low c.loop-i.i any_val) w) (sym l.2) here);
    }

pub returns : goal.returns
returns c =
    ((λ t r h. c.loop-i.invariant.below r (omega (arith, c.requires.count))), (λ below. refl))
