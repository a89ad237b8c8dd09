use Rattle.std.proofs.Common.{◌≡◌, ◌-◌, ◌∙◌, ap, sym, arith}
use Rattle.tcd_base.specs.Place.{Place}
use Rattle.depth_cert.specs.Grammar.{exit_at}
use Rattle.packed_cert.proofs.SameExits.{exit_again, exit_where}
use Rattle.packed_cert.proofs.NodeReads.{exit_read}
use Rattle.packed_cert.proofs.exits.read_or_skip_exit.Goals as goal
use Rattle.packed_cert.proofs.exits.read_or_skip_exit.Goals.{in-Some+else-skip_if_repeated, in_default}

pub returns-then-skip_if_repeated-clause-ok : goal.returns-then-skip_if_repeated-clause-ok
returns-then-skip_if_repeated-clause-ok c =
    let stands = rw c.in-Some.is at c.requires.last in
    exit_again c.args.version (c.in-Some.at.end - c.in-Some.at.start) c.args.bytes.now c.in-Some.at c.args.c.now c.skip_if_repeated.new.c (λ k. (c.type_inv.bytes k).fits) stands c.requires.same (omega (arith, stands.order)) (c.skip_if_repeated.ensures.moved c.if-skip_if_repeated.true)

pub returns-then-skip_if_repeated-clause-exit : goal.returns-then-skip_if_repeated-clause-exit
returns-then-skip_if_repeated-clause-exit c =
    let stands = rw c.in-Some.is at c.requires.last in
    (_, stands.read.1)

pub returns-clause-ok : goal.returns-clause-ok
returns-clause-ok c =
    let same : c.match-room.c ≡ c.args.c.now = elim c.match-room.branch [ in-Some+else-skip_if_repeated w ↦ w.c-is ∙ w.skip_if_repeated.ensures.kept w.if-skip_if_repeated.false | in_default w ↦ w.c-is ] in
    let here = exit_read c.args.version c.args.bytes.now c.match-room.c c.place-start.result _ _ (ap (λ (p : Place). p.bytes) same ∙ c.requires.same) (c.place-start.ensures.place ∙ ap (λ (p : Place). p.place) (sym same)) c.in_ok-read_exit.ensures.ok in
    rw here.0 (ap (exit_at c.args.version) (sym same) ∙ c.in_ok-read_exit.ensures.ok)

pub returns-clause-exit : goal.returns-clause-exit
returns-clause-exit c =
    let same : c.match-room.c ≡ c.args.c.now = elim c.match-room.branch [ in-Some+else-skip_if_repeated w ↦ w.c-is ∙ w.skip_if_repeated.ensures.kept w.if-skip_if_repeated.false | in_default w ↦ w.c-is ] in
    (exit_read c.args.version c.args.bytes.now c.match-room.c c.place-start.result _ _ (ap (λ (p : Place). p.bytes) same ∙ c.requires.same) (c.place-start.ensures.place ∙ ap (λ (p : Place). p.place) (sym same)) c.in_ok-read_exit.ensures.ok).1

pub returns-clause-last : goal.returns-clause-last
returns-clause-last c =
    let same : c.match-room.c ≡ c.args.c.now = elim c.match-room.branch [ in-Some+else-skip_if_repeated w ↦ w.c-is ∙ w.skip_if_repeated.ensures.kept w.if-skip_if_repeated.false | in_default w ↦ w.c-is ] in
    let here = ap (λ (p : Place). p.bytes) same ∙ c.requires.same in
    exit_where c.args.version c.args.bytes.now c.match-room.c c.read_exit.new.c (record { start = c.place-start.result; end = c.place-end.result }) (λ k. (c.type_inv.bytes k).fits) here (c.read_exit.ensures.bytes ∙ here) (c.place-start.ensures.place ∙ ap (λ (p : Place). p.place) (sym same)) c.place-end.ensures.place (rw c.requires.same at c.place-start.ensures.within) (c.read_exit.new.out, c.in_ok-read_exit.ensures.ok)
