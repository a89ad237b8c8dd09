use Rattle.std.proofs.Common.{◌≡◌, true, false, ltb-true}
use Rattle.value_domain.proofs.Places.{below_last}
use Rattle.value_domain.proofs.values.are_words_below.Goals as goal

pub returns-then-is_empty : goal.returns-then-is_empty
returns-then-is_empty c = λ t. absurd (let g : false ≡ true = t in cc)

pub returns : goal.returns
returns c = λ t k h. below_last c.args.words.now c.args.x c.requires (ltb-true _ _ t) k h
