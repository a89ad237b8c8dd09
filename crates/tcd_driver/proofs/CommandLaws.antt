-- The reports of the commands after their inputs were read.
use Rattle.std.proofs.Common.{◌≡◌, ◌-◌, ℕ, List, length, Option, Some, None, Ok, Err, refl, ap, subst, ◌∙◌, inr}
use Rattle.std.specs.Prelude.{IfSome}
use Rattle.elf_image.specs.Images.{ImageData}
use Rattle.tcd_plan.specs.PlanData.{PlanData}
use Rattle.tc_machine.specs.Safe.{Safe}
use Rattle.tc_machine.specs.declared.state.Machine.{Machine}
use Rattle.depth_cert.specs.Certs.{CertData}
use Rattle.cfg_recover.specs.RulesHoldOrFail.{Accepts, certified_need}
use Rattle.cfg_recover.proofs.FaultLaws.{fails_refutes}
use Rattle.tc_script.specs.declared.driving.Peak.{Peak}
use Rattle.tc_script.specs.DrivenRuns.{driven_peak}
use Rattle.tc_script.specs.ScriptRuns.{script_events, IsScriptRun}
use Rattle.tc_script.specs.ScriptData.{ScriptData}
use Rattle.tc_object.specs.Objects.{ObjectData}
use Rattle.tc_link.specs.Layouts.{LayoutData}
use Rattle.tc_link.specs.Linked.{image_of_objects}
use Rattle.tc_link.specs.Refusals.{Refusal}
use Rattle.tc_link.specs.Errors.{refusal_of}
use Rattle.tc_link.specs.declared.errors.LinkErr.{LinkErr}
use Rattle.tc_link.specs.declared.errors.LinkErr.TheVariants as error
use Rattle.tcd_reading.specs.Reports.{Report, text_report}
use Rattle.tcd_forms.specs.Lines.{certified_line, run_line, bad_link_line}
use Rattle.tcd_reading.specs.Inputs.{Reading, input}
use Rattle.tcd_forms.specs.Forms.{elf_form, plan_form, object_form, numbered_source_form}
use Rattle.tcd_driver.specs.Check as verdict
use Rattle.tcd_driver.specs.Check.{IsCheckVerdict}
use Rattle.tcd_driver.specs.Run.{IsRunReport, ran, script_run_line}
use Rattle.tcd_driver.specs.Link.{IsLinkReport, WritesImage, refused, image}
use Rattle.tcd_driver.specs.Commands.{Command, check, certify, cfg, report, run, dis, asm, link, ship, boot, bootgen, cells, cellcert, tasks, taskcert, generate, reading_of}
use Rattle.tcd_reading.specs.declared.status.Status.TheVariants.{Done, Refused, BadInput}
use Rattle.tcd_forms.proofs.FormLaws.{elf_lawful, plan_lawful, cert_lawful, script_lawful, source_lawful, layout_lawful, object_lawful, placed_source_lawful, ok_err}
use Rattle.tcd_driver.proofs.LinkLaws.{none_memory, line_told}
use Rattle.tcd_driver.proofs.MakingLaws.{certifying_side}
use Rattle.tcd_driver.proofs.ShipReports.{shipped_alike}
use Rattle.tcd_driver.proofs.GraphReports.{drawing_side, reporting_side}
use Rattle.tcd_driver.proofs.BootReports.{boot_side}
use Rattle.tcd_driver.proofs.CellsReports.{cells_side, cells_lawful}
use Rattle.tcd_driver.proofs.CellcertReports.{cellcert_side}
use Rattle.tcd_driver.proofs.TasksReports.{tasks_lawful, certs_decided}
use Rattle.tcd_driver.proofs.GenReports.{summary_side}
use Rattle.tcd_driver.proofs.TaskcertReports.{taskcert_decided}
use Rattle.tcd_reading.proofs.Decided.{AreAlike, IsDecided, decided_input, decided_answer, decided_each}
use Rattle.tcd_driver.proofs.Alike.{IsSide, well, against, alike, refusable}

-- a single report, which is done
only_one : (q : Report) → q.status ≡ Done → AreAlike (λ r. r ≡ q)
only_one q done = refusable {Holds = Unit {0}} (λ r e. well q e done tt)

-- ---- check
verdict_side : (i : ImageData) (p : PlanData) (c : CertData) (r : Report) → IsCheckVerdict i p c r → IsSide (Accepts i p c) Refused r
verdict_side i p c r (verdict.refused rule key addr first e) = against _ e (fails_refutes i p c rule key addr first.fails)
verdict_side i p c r (verdict.certified accepted safe e) = well _ e refl accepted

pub certified_report : (i : ImageData) (fields p : PlanData) (c : CertData) (need : ℕ) (r : Report) → fields ≡ p → Accepts i p c → need ≡ certified_need i p c → Safe i p need → r ≡ text_report Done (certified_line need (fields.areas - fields.reserve)) → IsCheckVerdict i p c r
certified_report i fields p c need r same accepted is safe e =
    verdict.certified accepted (subst (λ (n : ℕ). Safe i p n) is safe)
    (e ∙ ap (λ (n : ℕ). text_report Done (certified_line n (fields.areas - fields.reserve))) is ∙ ap (λ (q : PlanData). text_report Done (certified_line (certified_need i p c) (q.areas - q.reserve))) same)

-- ---- run
run_side : (i : ImageData) (p : PlanData) (s : ScriptData) (r : Report) → IsRunReport i p s r → IsSide (Unit {0}) Refused r
run_side i p s r (ran m starts fits e) = well _ e refl tt

-- the line on a run is that of the script's events
pub told_is : (plan : PlanData) (script : ScriptData) (old new : Machine) (done : Peak) → IsScriptRun plan script old new done → run_line done.events done.peak new ≡ script_run_line plan script old
told_is plan script old new done h =
    ap (λ (n : ℕ). run_line n done.peak new) h.count ∙ ap (λ (n : ℕ). run_line (length (script_events plan script old)) n new) h.peak
    ∙ ap (λ (m : Machine). run_line (length (script_events plan script old)) (driven_peak old (script_events plan script old)) m) h.after

-- ---- link
linked_side : (name : List ℕ) (l : LayoutData) (objects : List ObjectData) (r : Report) → IsLinkReport name l objects r → IsSide ((i : ImageData) × (image_of_objects objects l ≡ Ok i)) BadInput r
linked_side name l objects r (refused q is e) = against _ e (λ w. ok_err (image_of_objects objects l) w.0 q w.1 is)
linked_side name l objects r (image i is e) = well _ e refl (i, is)

pub linked_image : (name : List ℕ) (l : LayoutData) (objects : List ObjectData) (i : ImageData) (r : Report) → image_of_objects objects l ≡ Ok i → WritesImage name i r → IsLinkReport name l objects r
linked_image name l objects i r is writes = image i is writes

refused_by : (name : List ℕ) (l : LayoutData) (objects : List ObjectData) (o : Option Refusal) (r : Report) → (o ≡ None → ⊥) → IfSome o (λ q. image_of_objects objects l ≡ Err q) → IfSome o (λ q. r ≡ text_report BadInput (bad_link_line q)) → IsLinkReport name l objects r
refused_by name l objects None r some is text = absurd (some refl)
refused_by name l objects (Some q) r some is text = refused q is text

pub refused_report : (name : List ℕ) (l : LayoutData) (objects : List ObjectData) (e : LinkErr) (line : List ℕ) (r : Report) → IfSome (refusal_of e) (λ q. image_of_objects objects l ≡ Err q) → IfSome (refusal_of e) (λ q. line ≡ bad_link_line q) →
    (e ≡ error.NoMemory → ⊥) → r ≡ text_report BadInput line → IsLinkReport name l objects r
refused_report name l objects e line r is made some said = refused_by name l objects (refusal_of e) r (λ n. some (none_memory e n)) is (line_told line r (refusal_of e) made said)

-- ---- all commands
decided_firmware : (elf plan : List ℕ) (next : ImageData → PlanData → Reading) → ((i : ImageData) (p : PlanData) → IsDecided (next i p)) → IsDecided (input ImageData elf_form elf (λ i. input PlanData plan_form plan (next i)))
decided_firmware elf plan next rest = decided_input _ _ _ _ elf_lawful (λ i. decided_input _ _ _ _ plan_lawful (rest i))

pub command_decided : (c : Command) → IsDecided (reading_of c)
command_decided (check names) = decided_firmware _ _ _ (λ i p. decided_input _ _ _ _ cert_lawful (λ c. decided_answer _ (refusable (verdict_side i p c))))
command_decided (certify names) = decided_firmware _ _ _ (λ i p. decided_answer _ (refusable (certifying_side names.cert i p)))
command_decided (cfg names) = decided_firmware _ _ _ (λ i p. decided_answer _ (refusable (drawing_side i p)))
command_decided (report names) = decided_firmware _ _ _ (λ i p. decided_input _ _ _ _ cert_lawful (λ c. decided_answer _ (refusable (reporting_side i p c))))
command_decided (run names) = decided_firmware _ _ _ (λ i p. decided_input _ _ _ _ (script_lawful p) (λ s. decided_answer _ (refusable (run_side i p s))))
command_decided (dis elf) = decided_input _ _ _ _ elf_lawful (λ i. decided_answer _ (only_one _ refl))
command_decided (asm names) = decided_input _ _ _ _ source_lawful (λ o. decided_answer _ (only_one _ refl))
command_decided (link names) = decided_input _ _ _ _ layout_lawful (λ l. decided_each _ object_form 0 _ _ object_lawful (λ os. decided_answer _ (alike (linked_side names.image l os) (inr (inr refl)))))
command_decided (ship names) =
    decided_input _ _ _ _ plan_lawful
    (λ p. decided_input _ _ _ _ layout_lawful (λ l. decided_each _ numbered_source_form 0 _ _ placed_source_lawful (λ ss. decided_answer _ (shipped_alike names.elf names.cert p l ss))))
command_decided (boot names) = decided_firmware _ _ _ (λ i p. decided_input _ _ _ _ cert_lawful (λ c. decided_answer _ (refusable (boot_side i p c names.at))))
command_decided (bootgen names) = decided_input _ _ _ _ plan_lawful (λ p. decided_answer _ (only_one _ refl))
command_decided (cells names) =
    decided_firmware _ _ _ (λ i p. decided_input _ _ _ _ (cells_lawful p) (λ cs. decided_input _ _ _ _ cert_lawful (λ c. decided_answer _ (refusable (cells_side i p cs c)))))
command_decided (cellcert names) = decided_firmware _ _ _ (λ i p. decided_input _ _ _ _ (cells_lawful p) (λ cs. decided_answer _ (refusable (cellcert_side names.cert i p cs))))
command_decided (tasks names) = decided_firmware _ _ _ (λ i p. decided_input _ _ _ _ (tasks_lawful p) (λ t. certs_decided names.certs i p t))
command_decided (generate functions) = decided_answer _ (refusable (summary_side functions _ _))
command_decided (taskcert names) = decided_firmware _ _ _ (λ i p. decided_input _ _ _ _ (tasks_lawful p) (λ t. taskcert_decided names.certs i p t))
