use Rattle.std.proofs.Common.{sym, ap, ◌∙◌, ℕ, get_or}
use Rattle.std.proofs.lemmas.List.{get_or_past}
use Rattle.depth_maker.proofs.spelling.need_as_u16.Goals as goal

pub returns-in-None : goal.returns-in-None
returns-in-None c =
    let number = c.frame_number-number.ensures c.args.source.now.table.now.frames.items c.requires.source.numbers c.requires.key in
    sym (get_or_past c.args.needs.now c.frame_number-number.result 0 c.in-None.ensures.lookup.3) ∙ ap (λ (n : ℕ). get_or c.args.needs.now n 0) number
