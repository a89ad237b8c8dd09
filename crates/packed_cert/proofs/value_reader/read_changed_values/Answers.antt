use Rattle.std.proofs.Common.{◌≡◌, ◌≤◌, ◌∙◌, ◌+◌, ◌-◌, arith, length, take, drop, refl, sym, ap, subst, ℕ, List}
use Rattle.std.proofs.lemmas.Result.{err_from_is_err_and}
use Rattle.std.proofs.lemmas.List.{take_more_set, take_more, take_all, drop-set-lt}
use Rattle.tcd_base.specs.Place.{Place}
use Rattle.value_domain.specs.Values.{any_val}
use Rattle.depth_cert.specs.Grammar.{value_at, values_at}
use Rattle.tcd_base.proofs.ManyLaws.{many_more, many_fail, many_end}
use Rattle.packed_cert.specs.RepeatedBytes.{AreBytesRepeated}
use Rattle.packed_cert.specs.ValuesInBytes.{offset_after_value, place_in_bytes}
use Rattle.packed_cert.proofs.SameBytes.{stand_next, value_stands, alike_read, alike_behind, all_read}
use Rattle.packed_cert.proofs.ReadRows.{row_and_more}
use Rattle.packed_cert.proofs.RowLaws.{place_after-more}
use Rattle.packed_cert.proofs.value_reader.read_changed_values.Goals as goal
use Rattle.packed_cert.proofs.value_reader.read_changed_values.Goals.{then-next-stop, else-next-stop+in_ok-read_value}

pub bounds-bytes-from : goal.bounds-bytes-from
bounds-bytes-from c =
    let s = stand_next c.args.version c.args.bytes.now c.loop-i.from c.loop-i.i _ c.loop-i.out (omega arith) c.loop-i.invariant.held in
    (value_stands c.args.version c.args.bytes.now c.loop-i.from _ _ (λ k. (c.type_inv.bytes k).fits) (omega (arith, c.loop-i.invariant.start, c.loop-i.invariant.first)) s.0).inside

pub overflow_add-next : goal.overflow_add-next
overflow_add-next c =
    let s = stand_next c.args.version c.args.bytes.now c.loop-i.from c.loop-i.i _ c.loop-i.out (omega arith) c.loop-i.invariant.held in
    let w = (value_stands c.args.version c.args.bytes.now c.loop-i.from _ _ (λ k. (c.type_inv.bytes k).fits) (omega (arith, c.loop-i.invariant.start, c.loop-i.invariant.first)) s.0).within in
    omega (arith, c.value_length_by_tag-n.ensures)

pub count_repeated_before-requires-clause-first : goal.count_repeated_before-requires-clause-first
count_repeated_before-requires-clause-first c =
    let s = stand_next c.args.version c.args.bytes.now c.loop-i.from c.loop-i.i _ c.loop-i.out (omega arith) c.loop-i.invariant.held in
    let w = (value_stands c.args.version c.args.bytes.now c.loop-i.from _ _ (λ k. (c.type_inv.bytes k).fits) (omega (arith, c.loop-i.invariant.start, c.loop-i.invariant.first)) s.0).within in
    omega (arith, c.value_length_by_tag-n.ensures)

pub returns-in_err-read_value-clause-err : goal.returns-in_err-read_value-clause-err
unfolding values_at
returns-in_err-read_value-clause-err c =
    let moved : c.skip_values_to-else-next-stop.new.c ≡ place_in_bytes c.args.bytes.now c.loop-i.place = c.skip_values_to-else-next-stop.ensures ∙ ap (λ (l : List ℕ). place_in_bytes l c.loop-i.place) c.loop-i.invariant.bytes in
    let e = ap (value_at c.args.version) (sym moved) ∙ c.in_err-read_value.ensures.err in
    let fault = many_fail (λ before. value_at c.args.version) (length c.args.out.now) c.loop-i.i (take c.loop-i.i c.loop-i.out) c.args.c.now (place_in_bytes c.args.bytes.now c.loop-i.place) _ c.loop-i-test.true c.loop-i.invariant.read e in
    let p = err_from_is_err_and c.from_residual.result c.from_residual.ensures.1 in
    rw (p.1, p.2) fault

pub returns-then-stop-before-clause-ok : goal.returns-then-stop-before-clause-ok
unfolding values_at
returns-then-stop-before-clause-ok c =
    let inv = c.loop-i.invariant in
    let there = c.loop-i.place + (c.loop-i.stop - c.loop-i.from) in
    let moved : c.skip_values_to.new.c ≡ place_in_bytes c.args.bytes.now there = c.skip_values_to.ensures ∙ ap (λ (l : List ℕ). place_in_bytes l there) inv.bytes in
    rw moved (all_read c.args.version (length c.args.out.now) c.loop-i.i c.loop-i.from c.loop-i.place c.loop-i.stop c.args.before.end c.args.bytes.now c.loop-i.out c.args.c.now (λ k. (c.type_inv.bytes k).fits) c.if-stop-before.true inv.start inv.first (omega (arith, c.loop-i.auto.out)) inv.held inv.second inv.same inv.read)

pub returns-clause-ok : goal.returns-clause-ok
unfolding values_at
returns-clause-ok c =
    let moved : c.skip_values_to-2.new.c ≡ place_in_bytes c.args.bytes.now c.loop-i.place = c.skip_values_to-2.ensures ∙ ap (λ (l : List ℕ). place_in_bytes l c.loop-i.place) c.loop-i.invariant.bytes in
    let all = many_end (λ before. value_at c.args.version) (length c.args.out.now) c.loop-i.i (take c.loop-i.i c.loop-i.out) c.args.c.now (place_in_bytes c.args.bytes.now c.loop-i.place) c.loop-i-test.false c.loop-i.invariant.read in
    rw moved (all ∙ rw (take_all c.loop-i.i c.loop-i.out (omega (arith, c.loop-i.auto.out))) refl)

pub loop-i-preserved : goal.loop-i-preserved
loop-i-preserved c =
    let version = c.args.version in
    let bytes = c.args.bytes.now in
    let x = c.loop-i.from in
    let y = c.loop-i.place in
    let n = c.value_length_by_tag-n.result in
    let k = c.loop-i.stop - x in
    let inv = c.loop-i.invariant in
    let s = stand_next version bytes x c.loop-i.i _ c.loop-i.out (omega arith) inv.held in
    let w = value_stands version bytes x _ _ (λ k. (c.type_inv.bytes k).fits) (omega (arith, inv.start, inv.first)) s.0 in
    let keep = ap (λ (k : ℕ). x + k) c.value_length_by_tag-n.ensures in
    elim c.if-next-stop.branch [
      | then-next-stop w2 ↦
          let fits : n ≤ k = omega (arith, w2.if-next-stop.true) in
          let one = alike_read version bytes x y n k _ _ (λ k. (c.type_inv.bytes k).fits) (omega (arith, inv.start, inv.first)) s.0 c.value_length_by_tag-n.ensures fits inv.second inv.same in
          let left : k - n ≡ c.loop-i.stop - (x + n) = omega arith in
          record {
            read =
                rw (w2.place-is, w2.out-is, take_more c.loop-i.out c.loop-i.i any_val (omega (arith, c.loop-i.auto.out)))
                (many_more (λ before. value_at version) (length c.args.out.now) c.loop-i.i (take c.loop-i.i c.loop-i.out) c.args.c.now (place_in_bytes bytes y) _ _ c.loop-i-test.true inv.read one);
            bytes = rw w2.c-is inv.bytes;
            order = rw (w2.c-is, w2.place-is) (omega (arith, inv.order));
            held = rw (w2.out-is, keep) s.1;
            start = rw w2.stop-is (omega (arith, w2.if-next-stop.true));
            first = rw w2.stop-is inv.first;
            second = rw (w2.stop-is, w2.place-is) (omega (arith, inv.second, fits));
            same = rw (w2.stop-is, w2.place-is) (subst (λ (m : ℕ). AreBytesRepeated bytes (x + n) (y + n) m) left (alike_behind bytes x y n k fits inv.same));
            row = rw (w2.out-is, w2.row-is) inv.row;
            few = rw w2.row-is (omega (arith, inv.few));
            placed =
                let there = value_stands version bytes y _ _ (λ k. (c.type_inv.bytes k).fits) (omega (arith, inv.second)) one in
                rw w2.place-is (place_after-more bytes c.args.c.now.place c.loop-i.i ∙ ap (offset_after_value bytes) inv.placed ∙ ap (λ (p : Place). p.place) (sym there.end));
            from = rw w2.row-is inv.from;
          }
      | else-next-stop+in_ok-read_value w2 ↦
          let moved : w2.skip_values_to-else-next-stop.new.c ≡ place_in_bytes bytes y = w2.skip_values_to-else-next-stop.ensures ∙ ap (λ (l : List ℕ). place_in_bytes l y) inv.bytes in
          let back : w2.read_value.new.c.bytes ≡ bytes = w2.read_value.ensures.bytes ∙ ap (λ (p : Place). p.bytes) moved in
          let there : place_in_bytes bytes w2.place-place-else-next-stop.result ≡ w2.read_value.new.c = ap (λ (k : ℕ). place_in_bytes bytes k) w2.place-place-else-next-stop.ensures.place ∙ ap (λ (l : List ℕ). place_in_bytes l w2.read_value.new.c.place) (sym back) in
          let left : drop (c.loop-i.i + 1) c.if-next-stop.out ≡ drop (c.loop-i.i + 1) c.loop-i.out = ap (drop (c.loop-i.i + 1)) w2.out-is ∙ drop-set-lt (c.loop-i.i + 1) c.loop-i.out c.loop-i.i w2.read_value.new.out (omega arith) in
          let count = w2.count_repeated_before.result in
          let ahead : count ≡ x + n + count - (x + n) = omega arith in
          record {
            read =
                rw (w2.place-is, there, w2.out-is, take_more_set c.loop-i.out c.loop-i.i w2.read_value.new.out (omega (arith, c.loop-i.auto.out)))
                (many_more (λ before. value_at version) (length c.args.out.now) c.loop-i.i (take c.loop-i.i c.loop-i.out) c.args.c.now (place_in_bytes bytes y) _ _ c.loop-i-test.true inv.read (ap (value_at version) (sym moved) ∙ w2.in_ok-read_value.ensures.ok));
            bytes = rw w2.c-is back;
            order = rw (w2.c-is, w2.place-is) (omega (arith, w2.place-place-else-next-stop.ensures.place));
            held = rw (left, keep) s.1;
            start = rw w2.stop-is (omega arith);
            first = rw w2.stop-is w2.count_repeated_before.ensures.first;
            second = rw (w2.stop-is, w2.place-is) (omega (arith, w2.count_repeated_before.ensures.second));
            same = rw (w2.stop-is, w2.place-is) (subst (λ (m : ℕ). AreBytesRepeated bytes (x + n) w2.place-place-else-next-stop.result m) ahead w2.count_repeated_before.ensures.same);
            row = rw (w2.out-is, w2.row-is) (row_and_more c.args.out.now c.loop-i.out c.loop-i.i w2.read_value.new.out c.loop-i.row _ (omega arith) inv.row w2.row_extended_to-row.ensures.read);
            few = rw w2.row-is (omega (arith, w2.row_extended_to-row.ensures.read.behind));
            placed =
                let read = ap (value_at version) (sym moved) ∙ w2.in_ok-read_value.ensures.ok in
                let stood = value_stands version bytes y _ _ (λ k. (c.type_inv.bytes k).fits) (omega (arith, inv.second)) read in
                rw w2.place-is (place_after-more bytes c.args.c.now.place c.loop-i.i ∙ ap (offset_after_value bytes) inv.placed ∙ sym (ap (λ (p : Place). p.place) stood.end) ∙ sym w2.place-place-else-next-stop.ensures.place);
            from = rw w2.row-is (w2.row_extended_to-row.ensures.from bytes c.args.c.now.place inv.from (sym inv.placed));
          }
    ]
