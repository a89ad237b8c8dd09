use Rattle.std.proofs.Common.{arith, subst}
use Rattle.std.specs.Prelude.{map, string_bytes}
use Rattle.std.proofs.lemmas.List.{length-map}
use Rattle.depth_cert.specs.Certs.{CertData}
use Rattle.tcd_forms.specs.Forms.{cert_form}
use Rattle.tcd_driver.specs.Tasks.{IsTasksVerdict}
use Rattle.tcd_reading.specs.Outcomes.{IsReportOutcome}
use Rattle.tcd_reading.proofs.EachReads.{none_read, next_read, next_stops, next_memory, all_read, name_here}
use Rattle.tcd_driver.proofs.commands.tasks.verdict_on_cert_files.Goals as goal

pub loop-i-init : goal.loop-i-init
loop-i-init g c = none_read CertData (λ _. cert_form) (map string_bytes c.args.names.now) (IsTasksVerdict c.args.image.now c.args.plan.now c.args.tasks.now) c.new-certs.result.items _ c.new-certs.ensures.items

pub returns-in_err-cert : goal.returns-in_err-cert
returns-in_err-cert g c =
    next_stops CertData (λ _. cert_form) (map string_bytes c.args.names.now) (IsTasksVerdict c.args.image.now c.args.plan.now c.args.tasks.now) _ c.loop-i.i c.as_str.result.now c.loop-i.certs.items _ _ _ _ c.from_residual.result c.from_residual.ensures.1
    (name_here string_bytes c.args.names.now c.loop-i.i c.index-names-i.result _ (omega arith) c.index-names-i.is c.as_str.ensures.value) c.loop-i.invariant.leads c.in_err-cert.ensures.leaves c.in_err-cert.ensures.later c.in_err-cert.ensures.stops

pub returns-in-Err : goal.returns-in-Err
returns-in-Err g c =
    next_memory CertData (λ _. cert_form) (map string_bytes c.args.names.now) (IsTasksVerdict c.args.image.now c.args.plan.now c.args.tasks.now) _ c.loop-i.i c.as_str.result.now c.loop-i.certs.items _ _ _ _
    (name_here string_bytes c.args.names.now c.loop-i.i c.index-names-i.result _ (omega arith) c.index-names-i.is c.as_str.ensures.value) c.loop-i.invariant.leads c.in_ok-cert.ensures.leaves c.in_ok-cert.ensures.later c.in_ok-cert.ensures.found

pub loop-i-preserved : goal.loop-i-preserved
loop-i-preserved g c =
    next_read CertData (λ _. cert_form) (map string_bytes c.args.names.now) (IsTasksVerdict c.args.image.now c.args.plan.now c.args.tasks.now) _ c.loop-i.i c.as_str.result.now c.loop-i.certs.items _ _ _ _ _
    (name_here string_bytes c.args.names.now c.loop-i.i c.index-names-i.result _ (omega arith) c.index-names-i.is c.as_str.ensures.value) c.loop-i.invariant c.in_ok-cert.ensures.leaves c.in_ok-cert.ensures.later c.in_ok-cert.ensures.found c.in-Ok.ensures.items

pub returns : goal.returns
returns g c =
    all_read CertData (λ _. cert_form) (map string_bytes c.args.names.now) (IsTasksVerdict c.args.image.now c.args.plan.now c.args.tasks.now) _ c.loop-i.i c.loop-i.certs.items _ _ c.tasks_verdict.result
    (let e = length-map c.args.names.now string_bytes in omega arith) c.loop-i.invariant.leads (subst (λ cs. IsReportOutcome (IsTasksVerdict c.args.image.now c.args.plan.now c.args.tasks.now cs) ⊥ c.tasks_verdict.result) c.deref.ensures.value c.tasks_verdict.ensures)
