use Rattle.std.proofs.lemmas.Result.{IfErr-weaker, IfOk-weaker}
use Rattle.depth_maker.proofs.MakeLemmas.{are_made, is_refused}
use Rattle.depth_maker.proofs.answering.cert_bytes_for_inputs.Goals as goal

pub returns-in-Ok-clause-made : goal.returns-in-Ok-clause-made
returns-in-Ok-clause-made c = IfOk-weaker c.cert_bytes_from_table.result _ _ (λ out w. are_made c.args.ground.now c.args.version out.items c.requires.limits w) c.cert_bytes_from_table.ensures.ok

pub returns-in-Ok-clause-refused : goal.returns-in-Ok-clause-refused
returns-in-Ok-clause-refused c = IfErr-weaker c.cert_bytes_from_table.result _ _ (λ e r. is_refused c.args.ground.now c.args.version e c.requires.limits r) c.cert_bytes_from_table.ensures.err

pub returns-in-Err-clause-refused : goal.returns-in-Err-clause-refused
returns-in-Err-clause-refused c = is_refused c.args.ground.now c.args.version c.make_err_from_refusal.result c.requires.limits c.make_err_from_refusal.ensures
