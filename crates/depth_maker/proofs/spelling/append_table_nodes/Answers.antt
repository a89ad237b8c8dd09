use Rattle.std.proofs.Common.{subst, List}
use Rattle.std.proofs.lemmas.List.{take_all}
use Rattle.std.proofs.lemmas.List.Elements.{Contains-get_or}
use Rattle.std.proofs.lemmas.List.Sorted.{Contains-permutation, IsPermutation-sym}
use Rattle.depth_cert.specs.declared.keys.Key.{Key}
use Rattle.depth_maker.specs.SpelledCert.{AppendsTableNodes}
use Rattle.depth_maker.proofs.OutLemmas.{nodes_none, nodes_more}
use Rattle.depth_maker.proofs.spelling.append_table_nodes.Goals as goal

pub loop-k-init : goal.loop-k-init
loop-k-init c = nodes_none c.args.ordered.now c.args.out.now.items

pub append_table_node-requires-clause-key : goal.append_table_node-requires-clause-key
append_table_node-requires-clause-key c =
    let all = c.args.ordered.now.source.now.table.now.frames.items in
    Contains-permutation c.args.frames.now all _ (IsPermutation-sym all c.args.frames.now c.requires.frames) (Contains-get_or c.args.frames.now c.loop-k.k-index _ c.loop-k-test.true)

pub loop-k-preserved : goal.loop-k-preserved
loop-k-preserved c =
    nodes_more c.args.ordered.now c.args.frames.now c.loop-k.k-index _ c.args.out.now.items c.loop-k.out.items c.append_table_node.new.out.items c.loop-k-test.true c.loop-k.invariant c.in_ok-append_table_node.ensures

pub returns : goal.returns
returns c = subst (λ (l : List Key). AppendsTableNodes c.args.ordered.now l c.args.out.now.items c.loop-k.out.items) (take_all c.loop-k.k-index c.args.frames.now c.loop-k-test.false) c.loop-k.invariant
