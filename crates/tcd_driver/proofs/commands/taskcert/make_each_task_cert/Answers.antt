use Rattle.std.proofs.Common.{arith, ◌∙◌}
use Rattle.std.specs.Prelude.{map, string_bytes}
use Rattle.tcd_reading.proofs.EachReads.{name_here}
use Rattle.tcd_driver.proofs.TaskcertReports.{none_made, next_made, first_uncertified, all_made}
use Rattle.tcd_driver.proofs.commands.taskcert.make_each_task_cert.Goals as goal

pub loop-u-init : goal.loop-u-init
loop-u-init c = none_made (map string_bytes c.args.names.now) c.args.image.now c.args.plan.now c.args.tasks.now c.new-writes.result.items c.new-writes.ensures.items

pub loop-u-preserved : goal.loop-u-preserved
loop-u-preserved c =
    next_made (map string_bytes c.args.names.now) c.args.image.now c.args.plan.now c.args.tasks.now c.loop-u.u c.as_str.result.now c.loop-u.writes.items _ c.loop-u.sum c.in-Ok.need c.from-sum.result c.in-Ok.cert c.into_bytes.result.items
    (name_here string_bytes c.args.names.now c.loop-u.u c.index-names-u.result _ (omega arith) c.index-names-u.is c.as_str.ensures.value) (omega arith) c.loop-u.invariant c.in-Ok.ensures c.into_bytes.ensures
    c.in-Ok-add_task_cert_file.ensures (c.from-sum.ensures ∙ c.counted_task_need.ensures)

pub returns-in-Err : goal.returns-in-Err
returns-in-Err c =
    first_uncertified (map string_bytes c.args.names.now) c.args.image.now c.args.plan.now c.args.tasks.now c.loop-u.u c.loop-u.writes c.loop-u.sum c.in-Err.e (omega arith) c.loop-u.invariant
    c.in-Err.ensures

pub returns : goal.returns
returns c = all_made (map string_bytes c.args.names.now) c.args.image.now c.args.plan.now c.args.tasks.now c.loop-u.u c.loop-u.writes.items c.loop-u.sum (omega arith) c.loop-u.invariant
