use Rattle.std.proofs.Common.{◌∙◌, arith, sym, subst}
use Rattle.value_domain.specs.Values.{IsBelow, any_val}
use Rattle.value_domain.specs.declared.values.Val.{Val}
use Rattle.value_domain.proofs.RegLaws.{read_at}
use Rattle.depth_maker.proofs.interrupt_contexts.InterruptContext.covers_sp.Goals as goal

pub returns-else-not-self : goal.returns-else-not-self
returns-else-not-self c told on =
    let e = read_at c.args.s.now.regs 22 c.index-s-22.result any_val (omega arith) c.index-s-22.is in
    subst (λ (v : Val). IsBelow v c.args.self.now.sp) (sym (e ∙ c.index-s-22.is)) (c.leq.ensures.0 told)
