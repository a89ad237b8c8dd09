use Rattle.std.proofs.Common.{◌∙◌, ap, ℕ, List}
use Rattle.std.specs.Option.{option_map}
use Rattle.std.proofs.lemmas.Result.{err_from_is_err_and}
use Rattle.depth_cert.specs.Grammar.{last_number, key_after}
use Rattle.packed_cert.specs.PointsInBytes.{points_in_bytes}
use Rattle.packed_cert.specs.NodesInBytes.{exit_in_bytes, nodes_in_bytes}
use Rattle.packed_cert.proofs.NodeReads.{keys_in, node_reads, key_fails, need_fails, exit_fails, points_fail}
use Rattle.packed_cert.proofs.node_reader.read_node.Goals as goal

pub returns-in_err-key-clause-err : goal.returns-in_err-key-clause-err
returns-in_err-key-clause-err c =
    let p = err_from_is_err_and c.from_residual.result c.from_residual.ensures.1 in
    let before = nodes_in_bytes c.args.version c.args.bytes.now c.args.before.now in
    let key = ap (λ (l : List ℕ). key_after (last_number l) c.args.c.now) (keys_in c.args.version c.args.bytes.now c.args.before.now c.requires.places) ∙ (rw c.last_key_number.ensures at c.in_err-key.ensures.read) in
    rw (p.1, p.2) (key_fails c.args.version before c.args.c.now _ key)

pub returns-in_err-need-clause-err : goal.returns-in_err-need-clause-err
returns-in_err-need-clause-err c =
    let p = err_from_is_err_and c.from_residual-in_err-need.result c.from_residual-in_err-need.ensures.1 in
    let before = nodes_in_bytes c.args.version c.args.bytes.now c.args.before.now in
    let key = ap (λ (l : List ℕ). key_after (last_number l) c.args.c.now) (keys_in c.args.version c.args.bytes.now c.args.before.now c.requires.places) ∙ (rw c.last_key_number.ensures at c.in_ok-key.ensures.read) in
    rw (p.1, p.2) (need_fails c.args.version before c.args.c.now _ c.in_ok-key.key _ key c.in_err-need.ensures.read)

pub returns-in_err-exit-clause-err : goal.returns-in_err-exit-clause-err
returns-in_err-exit-clause-err c =
    let p = err_from_is_err_and c.from_residual-in_err-exit.result c.from_residual-in_err-exit.ensures.1 in
    let before = nodes_in_bytes c.args.version c.args.bytes.now c.args.before.now in
    let key = ap (λ (l : List ℕ). key_after (last_number l) c.args.c.now) (keys_in c.args.version c.args.bytes.now c.args.before.now c.requires.places) ∙ (rw c.last_key_number.ensures at c.in_ok-key.ensures.read) in
    rw (p.1, p.2) (exit_fails c.args.version before c.args.c.now _ _ c.in_ok-key.key c.in_ok-need.need _ key c.in_ok-need.ensures.read c.in_err-exit.ensures.err)

pub returns-in_err-points-clause-err : goal.returns-in_err-points-clause-err
returns-in_err-points-clause-err c =
    let p = err_from_is_err_and c.from_residual-in_err-points.result c.from_residual-in_err-points.ensures.1 in
    let before = nodes_in_bytes c.args.version c.args.bytes.now c.args.before.now in
    let key = ap (λ (l : List ℕ). key_after (last_number l) c.args.c.now) (keys_in c.args.version c.args.bytes.now c.args.before.now c.requires.places) ∙ (rw c.last_key_number.ensures at c.in_ok-key.ensures.read) in
    let fault =
    points_fail c.args.version before c.args.c.now _ _ _ c.in_ok-key.key c.in_ok-need.need _ c.in_err-points.field-0.0 key c.in_ok-need.ensures.read c.in_ok-exit.ensures.ok
    (rw c.requires.used at c.in_err-points.ensures.err)
    in
    rw (p.1, p.2) fault

pub returns-clause-ok : goal.returns-clause-ok
returns-clause-ok c =
    let before = nodes_in_bytes c.args.version c.args.bytes.now c.args.before.now in
    let key = ap (λ (l : List ℕ). key_after (last_number l) c.args.c.now) (keys_in c.args.version c.args.bytes.now c.args.before.now c.requires.places) ∙ (rw c.last_key_number.ensures at c.in_ok-key.ensures.read) in
    node_reads c.args.version before c.args.c.now _ _ _ _ c.in_ok-key.key c.in_ok-need.need
    (option_map (exit_in_bytes c.args.version c.args.bytes.now) c.in_ok-exit.exit)
    (points_in_bytes c.args.version c.args.bytes.now c.in_ok-points.points.items) key c.in_ok-need.ensures.read c.in_ok-exit.ensures.ok
    (rw c.requires.used at c.in_ok-points.ensures.ok)
