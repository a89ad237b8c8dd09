-- What it means that `boot` and `bootgen` are done, and that `boot` refuses.
use Rattle.std.specs.Prelude.{◌≡◌, ◌≤◌, ◌+◌, ◌-◌, ◌*◌, ◌^◌, ◌⊎◌, ℕ, List, [], ◌∷◌, ◌++◌, codes, Err, Some}
use Rattle.std.specs.Fmt.{decimal}
use Rattle.elf_image.specs.Images.{ImageData}
use Rattle.tcd_plan.specs.PlanData.{PlanData}
use Rattle.depth_cert.specs.Certs.{CertData}
use Rattle.cfg_recover.specs.RulesHoldOrFail.{Accepts}
use Rattle.tcd_text.specs.HexNumbers.{hex_number_of}
use Rattle.tc_disasm.specs.Listing.{listing_of}
use Rattle.tc_boot.specs.declared.judging.BootErr.{BootErr}
use Rattle.tc_boot.specs.Judging.{IsBootEventCountOrFirstFault, HasBoot}
use Rattle.tc_boot.specs.Reset.{BootsSafely}
use Rattle.tc_boot.specs.Sequence.{boot_image_of}
use Rattle.tcd_base.specs.Files.{FileMap}
use Rattle.tcd_driver.specs.Boot.{refused_boot_line}
use Rattle.tcd_driver.specs.Headlines.{HoldsPlan, AreCheckFiles, IsOnlyFileWritten, IsAcceptedWithNeed, RefusalByCheck}

-- `boot` is done: the certificate is accepted, and the boot sequence is at the address and may run.
-- From every state at reset it reaches a start state, and each later state is safe.
pub record HeadlineOfBoot (elf_name plan_name cert_name at_word : List ℕ) (before after : FileMap) (printed : List ℕ) : Type 0 where
  pub image : ImageData
  pub plan : PlanData
  pub cert : CertData
  pub at : ℕ
  pub need : ℕ
  pub files : AreCheckFiles before elf_name plan_name cert_name image plan cert
  pub at_is : hex_number_of at_word ≡ Some at
  pub accepted : IsAcceptedWithNeed image plan cert need
  pub stands : HasBoot image plan at
  pub safe : BootsSafely image plan at need
  pub prints :
      printed
      ≡ codes "boot "
      ++ (decimal (53 + 3 * plan.areas) ++ (codes " events certified " ++ (decimal need ++ (codes " of " ++ (decimal (plan.areas - plan.reserve) ++ (codes " areas" ++ 10 ∷ []))))))
  pub stays : after ≡ before

-- a reason why `boot` refuses: the certificate is accepted, but the boot sequence isn't at the
-- address, or may not run
pub record IsBootSequenceRefused (elf_name plan_name cert_name at_word : List ℕ) (before after : FileMap) (printed : List ℕ) : Type 0 where
  pub image : ImageData
  pub plan : PlanData
  pub cert : CertData
  pub at : ℕ
  pub against : BootErr
  pub files : AreCheckFiles before elf_name plan_name cert_name image plan cert
  pub at_is : hex_number_of at_word ≡ Some at
  pub accepted : Accepts image plan cert
  pub judged : IsBootEventCountOrFirstFault image plan at (Err against)
  pub prints : printed ≡ refused_boot_line against
  pub stays : after ≡ before

-- `boot` refuses the certificate, as `check` does, or the boot sequence.
abbrev pub RefusalByBoot : List ℕ → List ℕ → List ℕ → List ℕ → FileMap → FileMap → List ℕ → Type 0
RefusalByBoot elf_name plan_name cert_name at_word before after printed =
    RefusalByCheck elf_name plan_name cert_name before after printed ⊎ IsBootSequenceRefused elf_name plan_name cert_name at_word before after printed

-- `bootgen` is done: SRC now holds the listing of the image whose only segment is the plan's boot
-- sequence at the address. The sequence doesn't pass 2^32.
pub record HeadlineOfBootgen (plan_name entry_word at_word source_name : List ℕ) (before after : FileMap) (printed : List ℕ) : Type 0 where
  pub plan : PlanData
  pub entry : ℕ
  pub at : ℕ
  pub plan_file : HoldsPlan before plan_name plan
  pub entry_is : hex_number_of entry_word ≡ Some entry
  pub at_is : hex_number_of at_word ≡ Some at
  pub room : at + 224 ≤ 2 ^ 32
  pub writes : IsOnlyFileWritten before after source_name (listing_of (boot_image_of plan entry at))
  pub prints : printed ≡ codes "boot 56 instructions" ++ 10 ∷ []
