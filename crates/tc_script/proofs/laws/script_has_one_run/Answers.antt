use Rattle.tc_script.proofs.Only.{has_one_run}
use Rattle.tc_script.proofs.laws.script_has_one_run.Goals as goal

pub returns : goal.returns
returns c = has_one_run
