use Rattle.tc_machine.proofs.Saves.{save-is, restore-is}
use Rattle.tc_machine.proofs.Fetched.{fetched-is}
use Rattle.tc_machine.proofs.Areas.{whole_at_start}
use Rattle.tc_machine.proofs.Steps.{step_does}
use Rattle.tc_machine.proofs.Deaths.{death_changes}
use Rattle.tc_machine.proofs.Stays.{stays_step, stays_run}
use Rattle.tc_machine.proofs.laws.machine_laws.Goals as goal

pub returns-clause-start : goal.returns-clause-start
returns-clause-start c = whole_at_start

pub returns-clause-fetch : goal.returns-clause-fetch
returns-clause-fetch c = λ image plan m bytes inst ok rom even spells. fetched-is image ok m rom even bytes inst spells

pub returns-clause-save : goal.returns-clause-save
returns-clause-save c = save-is

pub returns-clause-restore : goal.returns-clause-restore
returns-clause-restore c = restore-is

pub returns-clause-does : goal.returns-clause-does
returns-clause-does c = step_does

pub returns-clause-death : goal.returns-clause-death
returns-clause-death c = death_changes

pub returns-clause-stays : goal.returns-clause-stays
returns-clause-stays c = stays_step

pub returns-clause-runs : goal.returns-clause-runs
returns-clause-runs c = λ image plan m es ok start fits. stays_run ok m es start.machine fits
