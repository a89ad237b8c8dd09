use Rattle.std.proofs.Common.{◌≡◌, ◌∙◌, Some, None}
use Rattle.frame_places.specs.Numbers.{frame_number_in}
use Rattle.frame_places.proofs.numbers.frame_number.Goals as goal

pub returns-in-Some : goal.returns-in-Some
returns-in-Some c frames are i = let e : Some c.in-Some.number.now ≡ Some (frame_number_in frames c.args.key) = c.in-Some.ensures.value ∙ are.each c.args.key i in cc

pub returns-in-None : goal.returns-in-None
returns-in-None c frames are i = absurd (let e : None ≡ Some (frame_number_in frames c.args.key) = c.in-None.ensures.value ∙ are.each c.args.key i in cc)
