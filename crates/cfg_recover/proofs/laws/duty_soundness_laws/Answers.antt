use Rattle.std.proofs.Common.{◌≡◌, ℕ, ap, ◌∙◌}
use Rattle.tc_isa.specs.declared.shapes.Shape.{Shape}
use Rattle.cfg_recover.specs.Duties.{duties_of}
use Rattle.cfg_recover.proofs.CodeLaws.{IsCode-one}
use Rattle.cfg_recover.proofs.MoveLaws.{moves_in_frame, traps_owed, calls_owed, system_calls_owed, interrupts_owed, stores_held}
use Rattle.cfg_recover.proofs.laws.duty_soundness_laws.Goals as goal

pub returns-clause-moves : goal.returns-clause-moves
returns-clause-moves c = moves_in_frame

pub returns-clause-traps : goal.returns-clause-traps
returns-clause-traps c = traps_owed

pub returns-clause-calls : goal.returns-clause-calls
returns-clause-calls c = calls_owed

pub returns-clause-system_calls : goal.returns-clause-system_calls
returns-clause-system_calls c = system_calls_owed

pub returns-clause-interrupts : goal.returns-clause-interrupts
returns-clause-interrupts c = interrupts_owed

pub returns-clause-stores : goal.returns-clause-stores
returns-clause-stores c = stores_held

pub returns-clause-flow : goal.returns-clause-flow
returns-clause-flow c = λ b image plan key p s f i size has code.
    let one = IsCode-one image plan p has.shape i has.size size has.code code in
    has.told ∙ ap (λ (t : Shape). duties_of b image plan key p s t has.size) one.0 ∙ ap (λ (n : ℕ). duties_of b image plan key p s i n) one.1
