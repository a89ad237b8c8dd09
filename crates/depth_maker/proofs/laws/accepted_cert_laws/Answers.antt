use Rattle.depth_maker.proofs.Accepted.{accepted_closed, accepted_faultless, accepted_well_formed, accepted_needs, accepted_start_need}
use Rattle.depth_maker.proofs.Sizes.{accepted_within}
use Rattle.depth_maker.proofs.NeedLaws.{refusal_refuted}
use Rattle.depth_maker.proofs.Solved.{solution_accepted}
use Rattle.depth_maker.proofs.laws.accepted_cert_laws.Goals as goal

pub returns-clause-closed : goal.returns-clause-closed
returns-clause-closed g image plan cert ground entry is_cert accepted = record {
  closed = accepted_closed image plan cert ground entry is_cert accepted;
  faultless = accepted_faultless image plan cert ground entry is_cert accepted;
  well_formed = accepted_well_formed image plan cert ground entry is_cert accepted;
  within = accepted_within image plan cert ground entry is_cert accepted;
  needs = accepted_needs image plan cert ground entry is_cert accepted;
  start = accepted_start_need image plan cert ground entry is_cert accepted;
}

pub returns-clause-refusals : goal.returns-clause-refusals
returns-clause-refusals g image plan cert r k p ground entry is_cert accepted f = refusal_refuted image plan cert ground entry is_cert accepted r k p f

pub returns-clause-solutions : goal.returns-clause-solutions
returns-clause-solutions g image plan cert ground entry is_cert solution entries = solution_accepted image plan cert ground entry is_cert solution entries
