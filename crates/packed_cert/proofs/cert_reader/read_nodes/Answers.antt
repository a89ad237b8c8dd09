use Rattle.std.proofs.Common.{◌∙◌, arith}
use Rattle.std.proofs.lemmas.Result.{err_from_is_err_and}
use Rattle.std.proofs.lemmas.List.Elements.{All-push}
use Rattle.depth_cert.specs.Grammar.{node_after}
use Rattle.tcd_base.proofs.ManyLaws.{many_more, many_end}
use Rattle.depth_cert.proofs.ManyLaws.{many_fault}
use Rattle.packed_cert.specs.NodesInBytes.{nodes_in_bytes, AreNodePlaces}
use Rattle.packed_cert.proofs.NodeReads.{nodes_push, count_push}
use Rattle.packed_cert.proofs.cert_reader.read_nodes.Goals as goal

pub returns-in_err-node-clause-err : goal.returns-in_err-node-clause-err
returns-in_err-node-clause-err c =
    let before = nodes_in_bytes c.args.version c.args.bytes.now c.loop-i.nodes.items in
    let fault = many_fault (node_after c.args.version) c.args.count c.loop-i._i before c.args.c.now c.loop-i.c c.in_err-node.field-0.0 c.loop-i-test.true c.loop-i.invariant.read
    (rw c.deref.ensures.value at c.in_err-node.ensures.err) in
    let p = err_from_is_err_and c.from_residual.result c.from_residual.ensures.1 in
    rw (p.1, p.2) fault

pub loop-i-preserved : goal.loop-i-preserved
loop-i-preserved c =
    let version = c.args.version in
    let bytes = c.args.bytes.now in
    let ns = c.loop-i.nodes.items in
    let n = c.in_ok-node.node in
    record {
      read =
          rw (c.in_ok-push.ensures.items, nodes_push version bytes ns n)
          (many_more (node_after version) c.args.count c.loop-i._i (nodes_in_bytes version bytes ns) c.args.c.now c.loop-i.c _ _ c.loop-i-test.true c.loop-i.invariant.read (rw c.deref.ensures.value at c.in_ok-node.ensures.ok));
      bytes = c.read_node.ensures.bytes ∙ c.loop-i.invariant.bytes;
      places = rw c.in_ok-push.ensures.items (All-push (AreNodePlaces version bytes) ns n c.loop-i.invariant.places c.in_ok-node.ensures.places);
      used =
          rw c.in_ok-push.ensures.items
          (let more = count_push version bytes ns n in
          omega (arith, more, c.loop-i.invariant.used, c.in_ok-node.ensures.used));
      few = c.in_ok-node.ensures.few;
      exit = c.in_ok-node.ensures.exit;
      state = c.in_ok-node.ensures.state;
    }

pub returns-clause-ok : goal.returns-clause-ok
returns-clause-ok c =
    many_end (node_after c.args.version) c.args.count c.loop-i._i (nodes_in_bytes c.args.version c.args.bytes.now c.loop-i.nodes.items) c.args.c.now c.loop-i.c c.loop-i-test.false c.loop-i.invariant.read
