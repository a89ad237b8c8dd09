use Rattle.std.proofs.Common.{◌≡◌, ◌≤◌, ◌<◌, ◌⊎◌, inl, inr, length, get_or, arith, sym, subst}
use Rattle.std.proofs.lemmas.Bool.{cases_lt}
use Rattle.value_domain.specs.declared.values.Val.{Val}
use Rattle.value_domain.specs.Values.{IsBelow, any_val}
use Rattle.vd_transfer.specs.Changes.{state_after}
use Rattle.vd_transfer.proofs.ChangeLaws.{length-changed}
use Rattle.packed_cert.specs.PointsInBytes.{state_in_bytes}
use Rattle.packed_cert.proofs.next_covers.is_covered_by_next_point.Goals as goal

pub returns-then-are_changed_values_below : goal.returns-then-are_changed_values_below
returns-then-are_changed_values_below c = λ t.
    let s = c.args.s.now in
    let after = state_after s c.args.c.now in
    let there = state_in_bytes c.args.version c.args.bytes.now c.args.point.place in
    let own : length s.regs ≡ 27 = omega arith in
    let len : length after.regs ≡ 27 = length-changed s c.args.c.now own in
    let locals = rw (c.as_slice.ensures.value, c.as_slice-2.ensures.value) at (c.flags_imply.ensures.0 c.if-not-flags_imply.false) in
    let upper = c.new-upper.ensures in
    record {
      regs = λ r h.
          let lt : r < 27 = omega (arith, len) in
          let kept : (r < c.args.point.row.first) ⊎ (c.args.point.row.behind ≤ r) → IsBelow (get_or after.regs r any_val) (get_or there.regs r any_val) = λ o.
          subst (λ (v : Val). IsBelow (get_or after.regs r any_val) v) (sym (c.requires.moved.row.kept r (omega (arith, own)) o)) (c.are_changed_values_below.ensures c.if-are_changed_values_below.true r lt o)
          in
          elim (cases_lt r c.args.point.row.first) [
            | inl low ↦ kept (inl low)
            | inr from ↦ elim (cases_lt r c.args.point.row.behind) [ inl within ↦ c.is_changed_row_below.ensures t r from within | inr past ↦ kept (inr past) ]
          ];
      context = rw upper at (c.covers_context.ensures.0 c.if-not-covers_context.false);
      locals = rw upper at (rw c.locals.ensures at locals);
    }
