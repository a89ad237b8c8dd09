-- What it means that `boot` and `bootgen` are done.
use Rattle.std.proofs.Common.{◌≡◌, ◌≤◌, ◌+◌, ◌^◌, ℕ, List, [], Some, inl, inr, refl}
use Rattle.std.specs.FinMap.{insert}
use Rattle.elf_image.specs.Images.{ImageData}
use Rattle.tcd_plan.specs.PlanData.{PlanData}
use Rattle.tcd_text.specs.HexNumbers.{hex_number_of}
use Rattle.depth_cert.specs.Certs.{CertData}
use Rattle.cfg_recover.specs.RulesHoldOrFail.{certified_need}
use Rattle.tc_disasm.specs.Listing.{listing_of}
use Rattle.tc_boot.specs.Sequence.{boot_image_of}
use Rattle.tcd_base.specs.Files.{FileMap}
use Rattle.tcd_reading.specs.Reports.{Report}
use Rattle.tcd_forms.specs.Lines.{boot_line, bootgen_line}
use Rattle.tcd_driver.specs.Boot as boots
use Rattle.tcd_driver.specs.Boot.{BootArgs, IsBootVerdict, BootgenArgs, WritesBootSource}
use Rattle.tcd_driver.specs.Headlines.Boots.{HeadlineOfBoot, RefusalByBoot, HeadlineOfBootgen}
use Rattle.tcd_driver.proofs.Headlines.{refusal_by_check, is_written, accepted_of, Means, is_done, is_refused, means_as}
use Rattle.tcd_driver.specs.Headlines.{AreCheckFiles, HoldsPlan}
use Rattle.tcd_driver.specs.Tool.{NeverRefuses}

-- ---- boot
pub boot_means : (names : BootArgs) (word : List ℕ) → hex_number_of word ≡ Some names.at → (m : FileMap) (i : ImageData) (p : PlanData) (c : CertData) (r : Report) → AreCheckFiles m names.elf names.plan names.cert i p c → IsBootVerdict i p c names.at r →
    Means m [] (HeadlineOfBoot names.elf names.plan names.cert word) (RefusalByBoot names.elf names.plan names.cert word) r
unfolding boot_line
boot_means names word at_is m i p c r files (boots.refused rule key addr first e) = means_as e (is_refused refl refl (inl (refusal_by_check files rule key addr first)))
boot_means names word at_is m i p c r files (boots.unbooted against accepted judges e) = means_as e (is_refused refl refl (inr (record {
  image = i;
  plan = p;
  cert = c;
  at = names.at;
  against = against;
  files = files;
  at_is = at_is;
  accepted = accepted;
  judged = judges;
  prints = refl;
  stays = refl;
})))
boot_means names word at_is m i p c r files (boots.boots accepted stands safe e) = means_as e (is_done m refl refl (record {
  image = i;
  plan = p;
  cert = c;
  at = names.at;
  need = certified_need i p c;
  files = files;
  at_is = at_is;
  accepted = accepted_of i p c accepted;
  stands = stands;
  safe = safe;
  prints = refl;
  stays = refl;
}))

-- ---- bootgen
pub bootgen_means : (names : BootgenArgs) (entry_word at_word : List ℕ) → hex_number_of entry_word ≡ Some names.entry → hex_number_of at_word ≡ Some names.at → names.at + 224 ≤ 2 ^ 32
    → (m : FileMap) (p : PlanData) (r : Report) → HoldsPlan m names.plan p → WritesBootSource names.entry names.at names.source p r → Means m [] (HeadlineOfBootgen names.plan entry_word at_word names.source) NeverRefuses r
unfolding bootgen_line
bootgen_means names entry_word at_word entry_is at_is room m p r plan e =
    let bytes = listing_of (boot_image_of p names.entry names.at) in
    means_as e (is_done (insert m names.source bytes) refl refl (record {
      plan = p;
      entry = names.entry;
      at = names.at;
      plan_file = plan;
      entry_is = entry_is;
      at_is = at_is;
      room = room;
      writes = is_written m names.source bytes;
      prints = refl;
    }))
