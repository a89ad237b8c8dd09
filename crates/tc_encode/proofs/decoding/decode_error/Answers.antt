use Rattle.tc_encode.proofs.Wholes.{front_short, front_none}
use Rattle.tc_encode.proofs.decoding.decode_error.Goals as goal

pub returns-in-Some : goal.returns-in-Some
returns-in-Some c = λ bytes len all num. front_short bytes c.args.n c.args.part c.args.first _ c.requires.low c.requires.high c.requires.first len all num c.in-Some.ensures.some

pub returns-in-None : goal.returns-in-None
returns-in-None c = λ bytes len all num. front_none bytes c.args.n c.args.part c.args.first c.requires.low c.requires.high c.requires.first len all num c.in-None.ensures.none
