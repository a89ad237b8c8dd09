use Rattle.std.proofs.Common.{arith}
use Rattle.std.proofs.lemmas.Result.{on_ok_weaker}
use Rattle.tcd_report.proofs.GraphLemmas.KeyTexts.{key_front_ascii}
use Rattle.tcd_report.proofs.graphs.lines.set_node_line_prefix.Goals as goal

pub returns-clause-ascii : goal.returns-clause-ascii
returns-clause-ascii c = on_ok_weaker c.append_str.result (λ front. key_front_ascii c.args.key.now (omega arith) (omega arith)) c.append_str.ensures
