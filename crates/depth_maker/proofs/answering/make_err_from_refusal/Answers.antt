use Rattle.std.proofs.Common.{subst}
use Rattle.depth_maker.specs.Answers.{NamesDerivedFault}
use Rattle.frame_places.specs.declared.places.Spot.{Spot}
use Rattle.frame_places.specs.declared.refusals.Refusal.TheVariants.{Fault}
use Rattle.depth_maker.proofs.MakeLemmas.{fault_refuses, no_exit_refuses}
use Rattle.depth_maker.proofs.answering.make_err_from_refusal.Goals as goal

pub returns-in-Point : goal.returns-in-Point
returns-in-Point c =
    let right = subst (NamesDerivedFault c.args._ground.now) c.in-Fault.is c.requires in
    fault_refuses c.args._ground.now c.in-Fault.rule c.in-Point.key c.in-Point.addr (subst (λ (q : Spot). NamesDerivedFault c.args._ground.now (Fault c.in-Fault.rule q)) c.in-Point.is right)

pub returns-in-Exit : goal.returns-in-Exit
returns-in-Exit c =
    let right = subst (NamesDerivedFault c.args._ground.now) c.in-Fault.is c.requires in
    absurd (no_exit_refuses c.args._ground.now c.in-Fault.rule c.in-Exit.key (subst (λ (q : Spot). NamesDerivedFault c.args._ground.now (Fault c.in-Fault.rule q)) c.in-Exit.is right))
