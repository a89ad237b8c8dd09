use Rattle.std.proofs.Common.{◌≡◌, ◌+◌, ◌-◌, ◌∙◌, ap, arith, ℕ}
use Rattle.tcd_base.specs.Place.{Place}
use Rattle.packed_cert.proofs.SameStates.{state_again}
use Rattle.packed_cert.proofs.ReadRows.{row_of_none}
use Rattle.packed_cert.proofs.point_reader.read_or_skip_state.Goals as goal

pub returns-then-same-at-clause-ok : goal.returns-then-same-at-clause-ok
returns-then-same-at-clause-ok c =
    let at = c.in-Some.at in
    let from = c.args.c.now in
    let stands = rw c.in-Some.is at c.requires.before in
    let n = at.end - at.start in
    let all = c.count_repeated_before-same.ensures in
    let there : c.place-place.result + c.count_repeated_before-same.result ≡ from.place + n = omega (arith, c.place-place.ensures.place, c.if-same-at.true) in
    let moved : c.skip_values_to.new.c ≡ record from { place = from.place + n } = c.skip_values_to.ensures ∙ ap (λ (k : ℕ). let p : Place = record from { place = k } in p) there in
    state_again c.args.version n c.args.bytes.now c.args.out.now at from c.skip_values_to.new.c (λ k. (c.type_inv.bytes k).fits) stands c.requires.same (omega (arith, stands.order))
    (moved, omega (arith, all.second, there), rw (c.if-same-at.true, c.place-place.ensures.place) at all.same)

pub returns-then-same-at-clause-row : goal.returns-then-same-at-clause-row
returns-then-same-at-clause-row c = rw c.empty_row.ensures (row_of_none c.args.out.now.regs)
