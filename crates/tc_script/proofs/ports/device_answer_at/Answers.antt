use Rattle.std.proofs.Common.{get_or, sym, ◌∙◌}
use Rattle.std.proofs.lemmas.Option.{slice_get-get_or}
use Rattle.tc_script.proofs.Answered.{no_device, answered, passed}
use Rattle.tc_script.proofs.ports.device_answer_at.Goals as goal

pub returns-then-holds : goal.returns-then-holds
returns-then-holds c =
    let ds = c.args.devices.now in
    answered c.args.addr c.args.t ds c.args.script.now.bounds c.loop-i.i (get_or ds c.loop-i.i no_device) c.answer.result (slice_get-get_or ds c.loop-i.i no_device c.loop-i-test.true) (sym c.holds.ensures ∙ c.if-holds.true) c.answer.ensures
    ∙ c.loop-i.invariant

pub loop-i-preserved : goal.loop-i-preserved
loop-i-preserved c =
    let ds = c.args.devices.now in
    sym (passed c.args.addr c.args.t ds c.args.script.now.bounds c.loop-i.i (get_or ds c.loop-i.i no_device) (slice_get-get_or ds c.loop-i.i no_device c.loop-i-test.true) c.requires (sym c.holds.ensures ∙ c.if-holds.false))
    ∙ c.loop-i.invariant
