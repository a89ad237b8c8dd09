use Rattle.std.proofs.Common.{◌≡◌, ◌<◌, ◌^◌, ◌⊎◌, max, inl, inr, refl, sym, ap, subst, ◌∙◌, arith}
use Rattle.std.specs.Prelude.{Contains}
use Rattle.std.proofs.lemmas.List.{drop_all}
use Rattle.tc_machine.specs.declared.events.End.TheVariants.{Running}
use Rattle.tc_machine.specs.declared.state.Machine.{Machine}
use Rattle.tc_script.specs.AreasInSequence.{AreaEffectHolds}
use Rattle.tc_script.specs.DrivenRuns.{IsEventOfTurn}
use Rattle.tc_script.proofs.Events.{fits_event, all_at, drop_at}
use Rattle.tc_script.proofs.Runs.{one_more, ended}
use Rattle.tc_script.proofs.driving.drive.Goals as goal

pub returns-then-not-is_machine_running : goal.returns-then-not-is_machine_running
returns-then-not-is_machine_running g c = ended c.loop-t.t c.loop-t.m c.loop-t.done c.loop-t.invariant.so_far (inr c.if-not-is_machine_running.ensures)

pub update_areas_in_use-requires : goal.update_areas_in_use-requires
update_areas_in_use-requires g c =
    subst (λ (k : Machine). k.end ≡ Running → AreaEffectHolds c.area_effect_of_event-effect.result c.loop-t.areas k) (sym c.step_predecoded.ensures) c.area_effect_of_event-effect.ensures

pub loop-t-preserved : goal.loop-t-preserved
loop-t-preserved g c =
    let plan = c.args.plan.now in
    let answers = goal.F-post g c.args.ports.now.answer in
    let m = c.loop-t.m in
    let turn = c.turn.result in
    let e = c.event_of_turn-event.result in
    let running : m.end ≡ Running = c.if-not-is_machine_running.ensures in
    let event : IsEventOfTurn plan.devices answers c.loop-t.t turn m e = subst (λ ds. IsEventOfTurn ds answers c.loop-t.t turn m e) c.requires.devices c.event_of_turn-event.ensures.event in
    let source = all_at (λ turn. (turn.irq ≡ 0) ⊎ Contains plan.irqs turn.irq) c.args.script.now.turns c.loop-t.t turn c.requires.sources c.turn.ensures in
    let early : c.loop-t.t < 2 ^ 32 = omega arith in
    record {
      so_far =
          one_more c.loop-t.t m c.loop-t.done turn e c.step_predecoded.new.self _ c.loop-t.invariant.so_far running (drop_at c.args.script.now.turns c.loop-t.t turn c.turn.ensures) event
          (fits_event plan answers c.loop-t.t turn m e running event c.requires.bounded source early c.event_of_turn-event.ensures.word) c.step_predecoded.ensures refl
          (c.max.ensures ∙ ap (λ n. max c.loop-t.done.peak n) c.update_areas_in_use.ensures.count);
      areas = c.update_areas_in_use.ensures;
      words = c.find_or_decode_at_pc-place.ensures.known;
    }

pub returns : goal.returns
returns g c = ended c.loop-t.t c.loop-t.m c.loop-t.done c.loop-t.invariant.so_far (inl (drop_all c.loop-t.t c.args.script.now.turns (omega arith)))
