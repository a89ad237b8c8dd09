use Rattle.value_domain.specs.Values.{any_val}
use Rattle.cfg_recover.proofs.FlowStates.{replicate-all}
use Rattle.cfg_recover.proofs.start.unknown_regs.Goals as goal

pub returns : goal.returns
returns c =
    replicate-all any_val 27 c.from_fn.result c.from_fn.ensures.items.long
    (λ i h. let p = c.from_fn.ensures.items.at i any_val h in cc)
