-- What `boot` and `bootgen` read and report.
use Rattle.std.specs.Prelude.{◌≡◌, ◌≤◌, ◌+◌, ◌-◌, ◌^◌, ℕ, List, Err, ◌∷◌, ◌++◌, codes, []}
use Rattle.elf_image.specs.Images.{ImageData}
use Rattle.tcd_plan.specs.PlanData.{PlanData}
use Rattle.depth_cert.specs.Certs.{CertData}
use Rattle.depth_cert.specs.declared.keys.Key.{Key}
use Rattle.cfg_recover.specs.RulesHoldOrFail.{Accepts, IsFirstFault, certified_need}
use Rattle.tc_disasm.specs.Listing.{listing_of}
use Rattle.tc_boot.specs.declared.judging.BootErr.{BootErr}
use Rattle.tc_boot.specs.Sequence.{boot_events, boot_image_of}
use Rattle.tc_boot.specs.Reset.{BootsSafely}
use Rattle.tc_boot.specs.Judging.{HasBoot, IsBootEventCountOrFirstFault}
use Rattle.tcd_reading.specs.Reports.{Report, text_report, report_with_file}
use Rattle.tcd_reading.specs.Inputs.{Reading, input, answer}
use Rattle.tcd_forms.specs.Forms.{elf_form, plan_form, cert_form}
use Rattle.tcd_forms.specs.Lines.{boot_line, bootgen_line, refused_line}
use Rattle.tcd_reading.specs.declared.status.Status.TheVariants.{Done, Refused}
use Rattle.tcd_text.specs.HexNumbers.{hex_word}
use Rattle.tc_boot.specs.declared.judging.BootErr.TheVariants as boot

-- ---- boot
-- the names of the files that `boot` reads, and the address of the boot sequence
pub record BootArgs : Type 0 where
  pub elf : List ℕ
  pub plan : List ℕ
  pub cert : List ℕ
  pub at : ℕ

-- the line that `boot` reports if it refuses a boot sequence: the number of the reason, and for a
-- difference the address of the first byte that differs
unfoldable pub refused_boot_line : BootErr → List ℕ
refused_boot_line boot.Enabled = codes "refused boot 1" ++ 10 ∷ []
refused_boot_line boot.Odd = codes "refused boot 2" ++ 10 ∷ []
refused_boot_line boot.Outside = codes "refused boot 3" ++ 10 ∷ []
refused_boot_line (boot.Differs p) = codes "refused boot 4 at " ++ (hex_word p ++ 10 ∷ [])

-- The verdict on an image, a plan, a certificate and a boot sequence. The certificate isn't
-- accepted, and the line has its first fault. Or it is accepted, and the sequence is refused. Or
-- the sequence is at the address and may run, and every run from reset on is safe.
pub data IsBootVerdict (image : ImageData) (plan : PlanData) (cert : CertData) (at : ℕ) (report : Report) : Type 0 where
  refused :
      (rule : ℕ) (key : Key) (addr : ℕ) → IsFirstFault image plan cert rule key addr → report ≡ text_report Refused (refused_line rule key addr)
      → IsBootVerdict image plan cert at report
  unbooted :
      (e : BootErr) → Accepts image plan cert → IsBootEventCountOrFirstFault image plan at (Err e) → report ≡ text_report Refused (refused_boot_line e)
      → IsBootVerdict image plan cert at report
  boots :
      Accepts image plan cert → HasBoot image plan at → BootsSafely image plan at (certified_need image plan cert)
      → report ≡ text_report Done (boot_line (boot_events plan) (certified_need image plan cert) (plan.areas - plan.reserve))
      → IsBootVerdict image plan cert at report

-- an executable, a plan and a certificate are read; then the verdict is reported
abbrev pub boot_reading : BootArgs → Reading
boot_reading names =
    input ImageData elf_form names.elf
    (λ image. input PlanData plan_form names.plan (λ plan. input CertData cert_form names.cert (λ cert. answer (IsBootVerdict image plan cert names.at))))

-- ---- bootgen
-- a boot sequence at this address, of 56 instructions and 224 bytes, doesn't pass 2^32
abbrev pub BootSequenceFits : ℕ → Type 0
BootSequenceFits at = at + 224 ≤ 2 ^ 32

-- the name of the plan that `bootgen` reads, the entry and the address of the boot sequence, and
-- the name of the source that it writes
pub record BootgenArgs : Type 0 where
  pub plan : List ℕ
  pub entry : ℕ
  pub at : ℕ
  pub source : List ℕ

-- the report of `bootgen`: the boot sequence is written as a source, the listing of the image whose
-- only segment is the sequence
abbrev pub WritesBootSource : ℕ → ℕ → List ℕ → PlanData → Report → Type 0
WritesBootSource entry at source plan report = report ≡ report_with_file source (listing_of (boot_image_of plan entry at)) bootgen_line

-- a plan is read; then the source is written
abbrev pub bootgen_reading : BootgenArgs → Reading
bootgen_reading names = input PlanData plan_form names.plan (λ plan. answer (WritesBootSource names.entry names.at names.source plan))
