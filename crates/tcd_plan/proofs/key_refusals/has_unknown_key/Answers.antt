use Rattle.std.proofs.Common.{ap, not, ◌∙◌}
use Rattle.tcd_plan.specs.KeyFaults.{is_known_key}
use Rattle.tcd_plan.proofs.ViewLemmas.{each_name}
use Rattle.tcd_plan.proofs.key_refusals.has_unknown_key.Goals as goal

pub returns-in-Some : goal.returns-in-Some
returns-in-Some c =
    ap not (c.are_known_keys.ensures ∙ each_name (is_known_key c.args.parent) c.in-Some.members.now.entries _ c.in-Some.ensures)
