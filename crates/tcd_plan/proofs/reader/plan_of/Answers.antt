use Rattle.std.proofs.Common.{sym}
use Rattle.serde_json.specs.View.{view}
use Rattle.tcd_plan.proofs.KeyTexts.{refused-text}
use Rattle.tcd_plan.proofs.reader.plan_of.Goals as goal

pub returns-in-Some-clause-keys : goal.returns-in-Some-clause-keys
returns-in-Some-clause-keys c = refused-text (view c.args.value.now) c.in-Some.err (sym c.in-Some.ensures)
