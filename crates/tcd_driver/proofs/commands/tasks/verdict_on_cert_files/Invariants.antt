use Rattle.std.specs.Prelude.{map, string_bytes, length}
use Rattle.depth_cert.specs.Certs.{CertData}
use Rattle.tcd_forms.specs.Forms.{cert_form}
use Rattle.tcd_driver.specs.Tasks.{IsTasksVerdict}
use Rattle.tcd_reading.specs.Inputs.{input_files, answer}
use Rattle.tcd_reading.proofs.EachReads.{HasReadSome, rest_of}
use Rattle.tcd_driver.proofs.commands.tasks.verdict_on_cert_files.Given as goal

abbrev pub invariant-loop-i : goal.invariant-loop-i
invariant-loop-i g l =
    HasReadSome (input_files CertData (λ _. cert_form) 0 (map string_bytes l.names) (λ cs. answer (IsTasksVerdict l.image l.plan l.tasks cs)))
    (rest_of CertData (λ _. cert_form) (map string_bytes l.names) (IsTasksVerdict l.image l.plan l.tasks) l.i l.certs.items) (g.F.Files.seen l.fn.files) (g.F.Files.seen l.files) (length l.certs.items) l.i
