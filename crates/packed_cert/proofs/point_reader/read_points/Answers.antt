use Rattle.std.proofs.Common.{◌≡◌, ◌≤◌, ◌∙◌, ◌++◌, ◌∷◌, [], ℕ, length, get_or, ap, sym, subst, arith, eqb}
use Rattle.std.proofs.Math.Seq.{get_or-append_seam}
use Rattle.std.proofs.lemmas.Result.{err_from_is_err_and}
use Rattle.std.proofs.lemmas.Bool.{ne_eqb}
use Rattle.std.proofs.lemmas.List.Elements.{All-push}
use Rattle.depth_cert.specs.Grammar.{points_at, point_after, last_number, address_after}
use Rattle.tcd_base.proofs.ManyLaws.{many_more, many_fail, many_end}
use Rattle.depth_cert.proofs.ManyLaws.{rising_map_push, last_of-push}
use Rattle.depth_cert.proofs.PointReads.{address_fails, state_fails}
use Rattle.packed_cert.specs.declared.places.PointPlace.{PointPlace}
use Rattle.value_domain.specs.declared.states.State.{State}
use Rattle.std.specs.Prelude.{IsTrue}
use Rattle.packed_cert.specs.declared.places.ReadState.{ReadState}
use Rattle.packed_cert.specs.ChangedRows.{ChangesOnlyRow}
use Rattle.packed_cert.specs.PointsInBytes.{state_in_bytes, points_in_bytes, StateBeginsAt}
use Rattle.packed_cert.specs.ValuesInBytes.{read_from_bytes_or}
use Rattle.value_domain.specs.State.{no_state}
use Rattle.packed_cert.specs.Moves.{IsStateBefore, DiffersOnlyInRow}
use Rattle.packed_cert.proofs.RowLaws.{moves_push, moved_next}
use Rattle.packed_cert.proofs.PointPlaces.{addresses_in, point_more, points_push}
use Rattle.packed_cert.proofs.point_reader.read_points.Goals as goal

pub returns-in_err-addr-clause-err : goal.returns-in_err-addr-clause-err
unfolding points_at
returns-in_err-addr-clause-err c =
    let p = err_from_is_err_and c.from_residual-in_err-addr.result c.from_residual-in_err-addr.ensures.1 in
    let before = points_in_bytes c.args.version c.args.bytes.now c.loop-i.points.items in
    let e = rw c.loop-i.invariant.last at c.in_err-addr.ensures.read.read in
    let fault = many_fail (point_after c.args.version) c.in_ok-count.count c.loop-i.i before c.read_point_count.new.c c.loop-i.c _ c.loop-i-test.true c.loop-i.invariant.read
    (address_fails c.args.version before c.loop-i.c _ (ap (λ (l : _). address_after (last_number l) c.loop-i.c) (addresses_in c.args.version c.args.bytes.now c.loop-i.points.items) ∙ e)) in
    rw (p.1, p.2, c.in_ok-count.ensures.read.read) fault

pub returns-in_err-read-clause-err : goal.returns-in_err-read-clause-err
unfolding points_at
returns-in_err-read-clause-err c =
    let p = err_from_is_err_and c.from_residual-in_err-read.result c.from_residual-in_err-read.ensures.1 in
    let before = points_in_bytes c.args.version c.args.bytes.now c.loop-i.points.items in
    let e = rw c.loop-i.invariant.last at c.in_ok-addr.ensures.read.read in
    let fault = many_fail (point_after c.args.version) c.in_ok-count.count c.loop-i.i before c.read_point_count.new.c c.loop-i.c _ c.loop-i-test.true c.loop-i.invariant.read
    (state_fails c.args.version before c.loop-i.c _ _ _ (ap (λ (l : _). address_after (last_number l) c.loop-i.c) (addresses_in c.args.version c.args.bytes.now c.loop-i.points.items) ∙ e) c.in_err-read.ensures.err) in
    rw (p.1, p.2, c.in_ok-count.ensures.read.read) fault

pub loop-i-preserved : goal.loop-i-preserved
loop-i-preserved c =
    let version = c.args.version in
    let bytes = c.args.bytes.now in
    let ps = c.loop-i.points.items in
    let e = rw c.loop-i.invariant.last at c.in_ok-addr.ensures.read.read in
    let next = rw c.loop-i.invariant.last at c.in_ok-addr.ensures.next in
    let same = c.read_address.ensures.read.bytes ∙ c.loop-i.invariant.bytes ∙ c.read_point_count.ensures.read.bytes ∙ c.requires.same in
    let q = c.read_address.new.c in
    let item : PointPlace = record { addr = c.in_ok-addr.addr; place = c.in_ok-read.read.at.start; row = c.with_whole_row_if_first-kept.result.row; same = c.with_whole_row_if_first-kept.result.same } in
    let stands = c.in_ok-read.ensures.held in
    let is : state_in_bytes version bytes item.place ≡ c.read_or_skip_state.new.out = ap (read_from_bytes_or no_state) stands.read in
    let there : StateBeginsAt version bytes item.place = (_, stands.read) in
    let more = point_more version bytes ps item c.loop-i.c q _ _ is e c.in_ok-read.ensures.ok in
    let pushed : c.push.new.self.items ≡ ps ++ item ∷ [] = c.in_ok-push.ensures.items in
    let size = c.loop-i.invariant.count in
    let is_first : c.loop-i.i ≡ 0 → IsTrue (eqb c.loop-i.i 0) = λ z. ap (λ (n : ℕ). eqb n 0) z in
    let later : 1 ≤ c.loop-i.i → c.with_whole_row_if_first-kept.result ≡ c.in_ok-read.read = λ some. c.with_whole_row_if_first-kept.ensures.later (ne_eqb c.loop-i.i 0 (λ z. let e : c.loop-i.i ≡ 0 = z in omega (arith, some))) in
    let one : (t : State) → IsStateBefore version bytes ps (length ps) t → DiffersOnlyInRow version bytes t item = λ t b.
    moved_next version bytes ps t c.loop-i.room.state c.read_or_skip_state.new.out item c.in_ok-read.read.at.values c.in_ok-read.read.at.end c.loop-i.i (λ k. (c.type_inv.bytes k).fits) is there stands.values.0 stands.values.1 (c.with_whole_row_if_first-kept.ensures.from bytes c.in_ok-read.ensures.from)
    (λ z. c.with_whole_row_if_first-kept.ensures.first (is_first z))
    (λ some. subst (λ (r : ReadState). ChangesOnlyRow c.loop-i.room.state.regs c.read_or_skip_state.new.out.regs r.row) (sym (later some)) c.in_ok-read.ensures.row)
    (λ some y. c.in_ok-read.ensures.again (ap (λ (r : ReadState). r.same) (sym (later some)) ∙ y)) size c.loop-i.invariant.before b
    in
    record {
      read =
          rw (pushed, points_push version bytes ps item)
          (many_more (point_after version) c.in_ok-count.count c.loop-i.i (points_in_bytes version bytes ps) c.read_point_count.new.c c.loop-i.c _ _ c.loop-i-test.true c.loop-i.invariant.read more);
      bytes = c.read_or_skip_state.ensures.bytes ∙ c.read_address.ensures.read.bytes ∙ c.loop-i.invariant.bytes;
      count = omega (arith, c.in_ok-push.ensures.len, c.loop-i.invariant.count);
      states = rw pushed (All-push (λ (p : PointPlace). StateBeginsAt version bytes p.place) ps item c.loop-i.invariant.states there);
      rising = rw pushed (rising_map_push (λ (p : PointPlace). p.addr) ps item c.loop-i.invariant.rising next);
      last = rw pushed (sym (last_of-push (λ (p : PointPlace). p.addr) ps item));
      used = c.loop-i.invariant.used;
      exit = c.loop-i.invariant.exit;
      state = stands;
      before = λ j d next.
          let here : get_or (ps ++ item ∷ []) j d ≡ item = ap (λ (n : ℕ). get_or (ps ++ item ∷ []) n d) (omega (arith, c.loop-i.invariant.count)) ∙ get_or-append_seam ps item [] d in
          rw pushed (sym is ∙ ap (λ (p : PointPlace). state_in_bytes version bytes p.place) (sym here));
      moves = rw pushed (moves_push version bytes ps item c.loop-i.invariant.moves one);
    }

pub returns-clause-ok : goal.returns-clause-ok
unfolding points_at
returns-clause-ok c =
    rw c.in_ok-count.ensures.read.read
    (many_end (point_after c.args.version) c.in_ok-count.count c.loop-i.i (points_in_bytes c.args.version c.args.bytes.now c.loop-i.points.items) c.read_point_count.new.c c.loop-i.c c.loop-i-test.false c.loop-i.invariant.read)
