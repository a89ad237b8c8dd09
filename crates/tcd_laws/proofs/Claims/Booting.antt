-- The claims of `boot`.
use Rattle.std.proofs.Common.{◌≡◌, inl, inr, ℕ, List, [], ◌∷◌, ◌++◌, Some, Err, ap, ◌∙◌}
use Rattle.std.specs.Prelude.{codes}
use Rattle.tcd_text.specs.HexNumbers.{hex_word}
use Rattle.elf_image.specs.Images.{ImageData}
use Rattle.tcd_plan.specs.PlanData.{PlanData}
use Rattle.tc_boot.specs.declared.judging.BootErr.{BootErr}
use Rattle.tc_boot.specs.declared.judging.BootErr.TheVariants as boot
use Rattle.tc_boot.specs.Judging.{MayBoot, IsBootEventCountOrFirstFault}
use Rattle.tc_boot.proofs.GuardLaws.{every_boot_is_safe}
use Rattle.tcd_base.specs.Files.{FileMap}
use Rattle.tcd_driver.specs.Boot.{refused_boot_line}
use Rattle.tcd_driver.specs.Headlines.Boots.{RefusalByBoot}
use Rattle.tcd_driver.specs.Tool.{ToolCall}
use Rattle.tcd_laws.specs.Claims.{PrintsText}
use Rattle.tcd_laws.specs.Claims.Booting.{MayRunAt, IsBootFault, enabled, odd, outside, differs, BootRefuses, BootClaimsHold, BootRefusalsHold}
use Rattle.tcd_laws.proofs.Claims.{prints_text, files_stay, held, accepted_with}
use Rattle.tcd_laws.proofs.Claims.Checking.{refuses}

pub boot_claims : BootClaimsHold
boot_claims elf plan cert at call before says words done known =
    let means = (says.boot elf plan cert at).done before words done known in
    let h = means.4 in
    record {
      image = h.image;
      plan = h.plan;
      cert = h.cert;
      at = h.at;
      most = h.need;
      image_held = held (h.files).elf_file;
      plan_held = held (h.files).plan_file;
      cert_held = held (h.files).cert_file;
      at_is = h.at_is;
      accepted = accepted_with h.image h.plan h.cert h.need h.accepted;
      off = (h.stands).off;
      even = (h.stands).even;
      even_entry = (h.stands).even_entry;
      in_rom = ((h.stands).bytes).in_rom;
      there = ((h.stands).bytes).held;
      safe = λ m boot es e. every_boot_is_safe h.image h.plan h.at h.need m boot es e h.safe;
      prints = prints_text call means.1 _ means.3 h.prints;
      stays = files_stay call before means.0 means.2 h.stays;
    }

-- ---- refused
may_run : (image : ImageData) (plan : PlanData) (at : ℕ) → MayBoot image plan at → MayRunAt image plan at
may_run image plan at h = record { off = h.off; even = h.even; even_entry = h.even_entry }

boot_fault : (image : ImageData) (plan : PlanData) (at : ℕ) (against : BootErr) (line : List ℕ) → IsBootEventCountOrFirstFault image plan at (Err against) → line ≡ refused_boot_line against → IsBootFault image plan at line
unfolding refused_boot_line
boot_fault image plan at boot.Enabled line h is = enabled h is
boot_fault image plan at boot.Odd line h is = odd h.0 h.1 is
boot_fault image plan at boot.Outside line h is = outside (may_run image plan at h.0) h.1 is
boot_fault image plan at (boot.Differs p) line h is =
    let i = h.2 in
    differs i.0 (may_run image plan at h.0) h.1 i.2 (is ∙ ap (λ (x : ℕ). codes "refused boot 4 at " ++ (hex_word x ++ 10 ∷ [])) i.1)

boot_refuses : (call : ToolCall) (before after : FileMap) (elf plan cert at printed : List ℕ) → (call.files_after).held ≡ Some after → PrintsText call printed → RefusalByBoot elf plan cert at before after printed
    → BootRefuses elf plan cert at call before
boot_refuses call before after elf plan cert at printed there grows (inl h) = inl (refuses call before after elf plan cert printed there grows h)
boot_refuses call before after elf plan cert at printed there grows (inr h) =
    inr (record {
      image = h.image;
      plan = h.plan;
      cert = h.cert;
      at = h.at;
      line = printed;
      image_held = held h.files.elf_file;
      plan_held = held h.files.plan_file;
      cert_held = held h.files.cert_file;
      at_is = h.at_is;
      accepted = h.accepted;
      fault = boot_fault h.image h.plan h.at h.against printed h.judged h.prints;
      prints = grows;
      stays = files_stay call before after there h.stays;
    })

pub boot_refusals : BootRefusalsHold
boot_refusals elf plan cert at call before says words status known =
    let means = (says.boot elf plan cert at).refused before words status known in
    boot_refuses call before means.0 elf plan cert at means.1 means.2 means.3 means.4
