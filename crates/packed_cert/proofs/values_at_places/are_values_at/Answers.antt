use Rattle.std.proofs.Common.{◌≡◌, ◌≤◌, ◌∙◌, ◌+◌, ℕ, true, false, inl, inr, length, get_or, refl, sym, ap, subst, arith}
use Rattle.std.proofs.lemmas.Bool.{cases_lt}
use Rattle.value_domain.specs.declared.values.Val.{Val}
use Rattle.value_domain.specs.Values.{IsInLattice, any_val}
use Rattle.value_domain.proofs.RangeLaws.{any_value}
use Rattle.packed_cert.specs.ValuesInBytes.{offset_after_value, value_in_bytes, values_in_bytes}
use Rattle.packed_cert.proofs.ValueShapes.{left_first, length-values_in, stands_at}
use Rattle.packed_cert.proofs.values_at_places.are_values_at.Goals as goal
use Rattle.packed_cert.proofs.values_at_places.are_values_at.Goals.{else-tag-ne0-via-then-tag-ne0+else-not-is_value_at, else-tag-ne0-via-else-tag-ne0}

pub is_value_at-requires : goal.is_value_at-requires
is_value_at-requires c = (left_first c.args.version c.args.bytes.now c.loop-i.at c.args.n c.loop-i._i (values_in_bytes c.args.version c.args.bytes.now c.args.place c.args.n) (omega arith) (length-values_in c.args.version c.args.bytes.now c.args.place c.args.n) c.loop-i.invariant.have c.loop-i.invariant.left).0

pub bounds-bytes-at : goal.bounds-bytes-at
bounds-bytes-at c =
    let l = left_first c.args.version c.args.bytes.now c.loop-i.at c.args.n c.loop-i._i (values_in_bytes c.args.version c.args.bytes.now c.args.place c.args.n) (omega arith) (length-values_in c.args.version c.args.bytes.now c.args.place c.args.n) c.loop-i.invariant.have c.loop-i.invariant.left in
    (stands_at c.args.version c.args.bytes.now c.loop-i.at (λ k. (c.type_inv.bytes k).fits) l.0).inside

pub overflow_add-at : goal.overflow_add-at
overflow_add-at c =
    let l = left_first c.args.version c.args.bytes.now c.loop-i.at c.args.n c.loop-i._i (values_in_bytes c.args.version c.args.bytes.now c.args.place c.args.n) (omega arith) (length-values_in c.args.version c.args.bytes.now c.args.place c.args.n) c.loop-i.invariant.have c.loop-i.invariant.left in
    let next : c.loop-i.at + c.value_length_by_tag-at.result ≡ offset_after_value c.args.bytes.now c.loop-i.at = ap (λ (k : ℕ). c.loop-i.at + k) c.value_length_by_tag-at.ensures in
    let within : c.loop-i.at + c.value_length_by_tag-at.result ≤ length c.args.bytes.now = rw next (stands_at c.args.version c.args.bytes.now c.loop-i.at (λ k. (c.type_inv.bytes k).fits) l.0).within in
    omega (arith, within)

pub returns-then-not-is_value_at : goal.returns-then-not-is_value_at
returns-then-not-is_value_at c =
    let l = left_first c.args.version c.args.bytes.now c.loop-i.at c.args.n c.loop-i._i (values_in_bytes c.args.version c.args.bytes.now c.args.place c.args.n) (omega arith) (length-values_in c.args.version c.args.bytes.now c.args.place c.args.n) c.loop-i.invariant.have c.loop-i.invariant.left in (
      (λ t. absurd (let g : false ≡ true = t in cc)),
      (λ values.
          let here = rw l.2 at (values c.loop-i._i (omega (arith, length-values_in c.args.version c.args.bytes.now c.args.place c.args.n))) in
          sym c.if-not-is_value_at.true ∙ c.is_value_at.ensures.1 here),
    )

pub loop-i-preserved : goal.loop-i-preserved
loop-i-preserved c =
    let vs = values_in_bytes c.args.version c.args.bytes.now c.args.place c.args.n in
    let l = left_first c.args.version c.args.bytes.now c.loop-i.at c.args.n c.loop-i._i (values_in_bytes c.args.version c.args.bytes.now c.args.place c.args.n) (omega arith) (length-values_in c.args.version c.args.bytes.now c.args.place c.args.n) c.loop-i.invariant.have c.loop-i.invariant.left in
    let next : c.loop-i.at + c.value_length_by_tag-at.result ≡ offset_after_value c.args.bytes.now c.loop-i.at = ap (λ (k : ℕ). c.loop-i.at + k) c.value_length_by_tag-at.ensures in
    let s = stands_at c.args.version c.args.bytes.now c.loop-i.at (λ k. (c.type_inv.bytes k).fits) l.0 in
    let here : IsInLattice c.args.b.now (value_in_bytes c.args.version c.args.bytes.now c.loop-i.at) =
    elim c.else-tag-ne0.branch [
      | else-tag-ne0-via-then-tag-ne0+else-not-is_value_at w ↦ w.is_value_at.ensures.0 w.if-not-is_value_at.false
      | else-tag-ne0-via-else-tag-ne0 w ↦
          subst (λ (v : Val). IsInLattice c.args.b.now v) (sym (s.shape.any (omega (arith, w.if-tag-ne0.false)))) (any_value c.args.b.now c.most_words-most_words.ensures.limits)
    ]
    in
    record {
      have = rw next l.1;
      left = rw next l.3;
      values = λ r h. elim (cases_lt r c.loop-i._i) [
        | inl lt ↦ c.loop-i.invariant.values r lt
        | inr ge ↦
            let e : c.loop-i._i ≡ r = omega arith in
            subst (λ (k : ℕ). IsInLattice c.args.b.now (get_or vs k any_val)) e (subst (λ (v : Val). IsInLattice c.args.b.now v) (sym l.2) here)
      ];
    }

pub returns : goal.returns
returns c = ((λ t r h. c.loop-i.invariant.values r (omega (arith, length-values_in c.args.version c.args.bytes.now c.args.place c.args.n))), (λ values. refl))
