-- What the tool claims of `boot`: claim C5, and why it refuses.
use Rattle.std.specs.Prelude.{◌≡◌, ◌<◌, ◌+◌, ◌-◌, ◌*◌, ◌%◌, ◌⊎◌, ℕ, true, false, List, [], ◌∷◌, ◌++◌, codes, length, take, slice_index, Some}
use Rattle.std.specs.Fmt.{decimal}
use Rattle.tcd_base.specs.Files.{FileMap}
use Rattle.tcd_base.specs.Ranges.{IsInOneRange}
use Rattle.tcd_text.specs.HexNumbers.{hex_word, hex_number_of}
use Rattle.elf_image.specs.Images.{ImageData, image_byte}
use Rattle.tcd_plan.specs.PlanData.{PlanData}
use Rattle.tc_mem.specs.PlanMemory.{IsPlanMemory, HoldsRom}
use Rattle.tc_machine.specs.declared.events.Event.{Event}
use Rattle.tc_machine.specs.declared.events.End.TheVariants.{Running}
use Rattle.tc_machine.specs.declared.state.Machine.{Machine}
use Rattle.tc_machine.specs.Machine.{IsMachine}
use Rattle.tc_machine.specs.Stepping.{run}
use Rattle.tc_machine.specs.Starting.{Starts}
use Rattle.tc_machine.specs.Safe.{AllFit, Fits, IsSafeAt}
use Rattle.store_ranges.specs.Loads.{IsLoadedRom}
use Rattle.depth_cert.specs.Certs.{CertData}
use Rattle.cfg_recover.specs.RulesHoldOrFail.{Accepts}
use Rattle.tc_boot.specs.Sequence.{boot_bytes_of}
use Rattle.tc_boot.specs.Judging.{IsFirstBootDifference}
use Rattle.tcd_reading.specs.declared.status.Status.TheVariants.{Done, Refused}
use Rattle.tcd_driver.specs.Tool.{ToolCall}
use Rattle.tcd_laws.specs.Claims.{EachCallClaims, PrintsText, FilesStay, HeldImage, HeldPlan, HeldCert, IsAcceptedWith}
use Rattle.tcd_laws.specs.Claims.Checking.{CheckRefuses}

-- ---- done
-- Claim C5. Take a machine that runs at the address with interrupts off, with the plan's core and
-- memory and the image's bytes in rom. Take fitting events, 53 and three for each area, and then
-- any number more. Before each of the former the machine runs with interrupts off at one of 56
-- places, four bytes apart. They lead to a start state, and each later state is safe.
abbrev pub EachBootIsSafe : ImageData → PlanData → ℕ → ℕ → Type 0
EachBootIsSafe image plan at most =
    (m : Machine) (boot es : List Event) (e : Event) → IsMachine m → m.end ≡ Running → m.pc ≡ at → m.ie ≡ false → m.core ≡ plan.core → IsPlanMemory plan m.mem
    → HoldsRom image plan m.mem → length boot ≡ 53 + 3 * plan.areas → AllFit plan m (boot ++ es) → Fits plan (run m (boot ++ es)) e
    → ((n : ℕ) → n < length boot
    → ((run m (take n boot)).end ≡ Running) × ((run m (take n boot)).ie ≡ false) × ((place : ℕ) × (place < 56) × ((run m (take n boot)).pc ≡ at + 4 * place)))
    × Starts image plan (run m boot) × IsSafeAt image plan most (run m (boot ++ es)) e

-- `boot` is done: the certificate is accepted, the 224 bytes of the boot sequence are at the
-- address in one rom range and may run, and claim C5 holds with the number that is printed
pub record BootClaims (elf_name plan_name cert_name at_word : List ℕ) (call : ToolCall) (before : FileMap) : Type 0 where
  pub image : ImageData
  pub plan : PlanData
  pub cert : CertData
  pub at : ℕ
  pub most : ℕ
  pub image_held : HeldImage before elf_name image
  pub plan_held : HeldPlan before plan_name plan
  pub cert_held : HeldCert before cert_name cert
  pub at_is : hex_number_of at_word ≡ Some at
  pub accepted : IsAcceptedWith image plan cert most
  pub off : plan.start_ie ≡ false
  pub even : at % 2 ≡ 0
  pub even_entry : image.entry % 2 ≡ 0
  pub in_rom : IsInOneRange at 224 plan.rom
  pub there : (i : ℕ) → i < 224 → image_byte image (at + i) ≡ Some (slice_index (boot_bytes_of plan image.entry) i)
  pub safe : EachBootIsSafe image plan at most
  pub prints :
      PrintsText call
      (codes "boot "
      ++ (decimal (53 + 3 * plan.areas) ++ (codes " events certified " ++ (decimal most ++ (codes " of " ++ (decimal (plan.areas - plan.reserve) ++ (codes " areas" ++ 10 ∷ [])))))))
  pub stays : FilesStay call before

-- ---- refused
-- a boot sequence may run: interrupts are off at the start, and no address is odd
pub record MayRunAt (image : ImageData) (plan : PlanData) (at : ℕ) : Type 0 where
  pub off : plan.start_ie ≡ false
  pub even : at % 2 ≡ 0
  pub even_entry : image.entry % 2 ≡ 0

-- why no boot sequence is at the address, or may not run, and the line: the first of four reasons
pub data IsBootFault (image : ImageData) (plan : PlanData) (at : ℕ) (line : List ℕ) : Type 0 where
  enabled : plan.start_ie ≡ true → line ≡ codes "refused boot 1" ++ 10 ∷ [] → IsBootFault image plan at line
  odd : plan.start_ie ≡ false → (at % 2 ≡ 1) ⊎ (image.entry % 2 ≡ 1) → line ≡ codes "refused boot 2" ++ 10 ∷ [] → IsBootFault image plan at line
  outside : MayRunAt image plan at → (IsLoadedRom image plan at 224 → ⊥) → line ≡ codes "refused boot 3" ++ 10 ∷ [] → IsBootFault image plan at line
  differs :
      (i : ℕ) → MayRunAt image plan at → IsLoadedRom image plan at 224 → IsFirstBootDifference image plan at i
      → line ≡ codes "refused boot 4 at " ++ (hex_word (at + i) ++ 10 ∷ []) → IsBootFault image plan at line

-- `boot` refuses the boot sequence: the certificate is accepted, and the line says why the sequence
-- isn't there or may not run; nothing is written
pub record BootSequenceRefused (elf_name plan_name cert_name at_word : List ℕ) (call : ToolCall) (before : FileMap) : Type 0 where
  pub image : ImageData
  pub plan : PlanData
  pub cert : CertData
  pub at : ℕ
  pub line : List ℕ
  pub image_held : HeldImage before elf_name image
  pub plan_held : HeldPlan before plan_name plan
  pub cert_held : HeldCert before cert_name cert
  pub at_is : hex_number_of at_word ≡ Some at
  pub accepted : Accepts image plan cert
  pub fault : IsBootFault image plan at line
  pub prints : PrintsText call line
  pub stays : FilesStay call before

-- `boot` refuses the certificate, as `check` does, or the boot sequence
abbrev pub BootRefuses : List ℕ → List ℕ → List ℕ → List ℕ → ToolCall → FileMap → Type 0
BootRefuses elf_name plan_name cert_name at_word call before =
    CheckRefuses elf_name plan_name cert_name call before ⊎ BootSequenceRefused elf_name plan_name cert_name at_word call before

-- ---- the laws, from what the tool promises
abbrev pub BootClaimsHold : Type 0
BootClaimsHold =
    (elf plan cert at : List ℕ) → EachCallClaims (codes "boot" ∷ elf ∷ plan ∷ cert ∷ at ∷ []) Done (BootClaims elf plan cert at)

abbrev pub BootRefusalsHold : Type 0
BootRefusalsHold =
    (elf plan cert at : List ℕ) → EachCallClaims (codes "boot" ∷ elf ∷ plan ∷ cert ∷ at ∷ []) Refused (BootRefuses elf plan cert at)
