use Rattle.std.proofs.Common.{sym, subst, ap, ◌∙◌, refl, ℕ, List, Contains}
use Rattle.std.proofs.lemmas.List.{take_all}
use Rattle.tcd_plan.specs.PlanData.{PlanData}
use Rattle.depth_cert.specs.declared.keys.Key.{Key}
use Rattle.frame_places.specs.Numbers.{frame_number_in}
use Rattle.depth_maker.specs.InterruptHandlers.{AreHandlersOfIrqs}
use Rattle.depth_maker.proofs.HandlerLaws.{handlers_more, handlers_none}
use Rattle.depth_maker.proofs.interrupt_handlers.irq_handlers.Goals as goal

pub loop-p-init : goal.loop-p-init
loop-p-init c frames are = handlers_none c.args.plan.now frames c.new-handlers.result.items c.new-handlers.ensures.items

pub loop-p-preserved : goal.loop-p-preserved
loop-p-preserved c frames are =
    handlers_more c.args.plan.now frames c.as_slice-irqs.result.now c.loop-p.p-index c.loop-p.handlers.items _ _ c.loop-p-test.true c.in_ok-push.ensures.items refl
    (λ known. c.frame_number-node.ensures frames are (subst (λ (k : Key). Contains frames k) (sym c.irq_key.ensures) known) ∙ ap (frame_number_in frames) c.irq_key.ensures)
    (c.loop-p.invariant frames are)

pub returns : goal.returns
returns c frames are =
    subst (λ (l : List ℕ). AreHandlersOfIrqs c.args.plan.now frames l c.loop-p.handlers.items) (take_all c.loop-p.p-index c.as_slice-irqs.result.now c.loop-p-test.false ∙ c.as_slice-irqs.ensures.value ∙ ap (λ (p : PlanData). p.irqs) c.plan.view_is) (c.loop-p.invariant frames are)
