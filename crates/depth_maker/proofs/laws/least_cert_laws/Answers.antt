use Rattle.depth_maker.proofs.MadeLaws.{made, refused, made_is_least, none_accepted}
use Rattle.depth_maker.proofs.laws.least_cert_laws.Goals as goal

pub returns-clause-made : goal.returns-clause-made
returns-clause-made c = made

pub returns-clause-refused : goal.returns-clause-refused
returns-clause-refused c = refused

pub returns-clause-least : goal.returns-clause-least
returns-clause-least c = made_is_least

pub returns-clause-none : goal.returns-clause-none
returns-clause-none c = none_accepted
