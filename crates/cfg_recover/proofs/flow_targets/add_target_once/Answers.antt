use Rattle.std.proofs.Common.{◌≡◌, false, true, sym, ◌∙◌}
use Rattle.cfg_recover.proofs.FlowTargets.{put-again, put-behind}
use Rattle.cfg_recover.proofs.flow_targets.add_target_once.Goals as goal

pub returns-then-not-is_last_target : goal.returns-then-not-is_last_target
returns-then-not-is_last_target c =
    c.push.ensures.items
    ∙ sym (put-behind c.args.x c.args.words.now.items c.requires.rising c.requires.greatest
    (λ e. let t : true ≡ false = sym (c.is_last_target.ensures.1 (rw c.as_slice.ensures.value e)) ∙ c.if-not-is_last_target.true in cc))

pub returns-else-not-is_last_target : goal.returns-else-not-is_last_target
returns-else-not-is_last_target c =
    sym (put-again c.args.x c.args.words.now.items c.requires.rising (rw c.as_slice.ensures.value at (c.is_last_target.ensures.0 c.if-not-is_last_target.false)))
