use Rattle.std.proofs.Common.{◌≡◌, ◌∙◌, true, false, arith, sym, subst}
use Rattle.value_domain.specs.Values.{IsBelow, any_val}
use Rattle.value_domain.specs.declared.values.Val.{Val}
use Rattle.value_domain.proofs.RegLaws.{read_at}
use Rattle.depth_check.specs.Interrupts.{FitsContext}
use Rattle.depth_check.proofs.InterruptLaws.{some_context}
use Rattle.depth_check.proofs.last_interrupts.context_covers.Goals as goal

pub returns-then-not-context : goal.returns-then-not-context
returns-then-not-context c told =
    some_context c.args.context.now c.in-Some.context (λ a. FitsContext a c.args.node.now c.args.s.now) c.in-Some.is
    (record {
      like = c.fits_except_sp.ensures c.if-fits_except_sp.true;
      sp = λ on. absurd (let f : false ≡ true = sym c.if-not-context.true ∙ on in cc);
    })

pub returns-else-not-context : goal.returns-else-not-context
returns-else-not-context c told =
    let e = read_at c.args.s.now.regs 22 c.index-s-22.result any_val (omega arith) c.index-s-22.is in
    some_context c.args.context.now c.in-Some.context (λ a. FitsContext a c.args.node.now c.args.s.now) c.in-Some.is
    (record {
      like = c.fits_except_sp.ensures c.if-fits_except_sp.true;
      sp = λ on. subst (λ (v : Val). IsBelow v c.in-Some.context.sp) (sym (e ∙ c.index-s-22.is)) (c.leq.ensures.0 told);
    })
