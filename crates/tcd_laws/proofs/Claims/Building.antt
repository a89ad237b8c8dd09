-- The claims of `asm`, `link` and `bootgen`.
use Rattle.std.proofs.Common.{◌^◌}
use Rattle.tc_object.specs.Spelling.{bytes_of_object}
use Rattle.elf_image.specs.WrittenElf.{elf_file}
use Rattle.tc_disasm.specs.Listing.{listing_of}
use Rattle.tc_boot.specs.Sequence.{boot_image_of}
use Rattle.tcd_driver.specs.Headlines.Builds.{AreObjectBytes}
use Rattle.tcd_laws.specs.Claims.Building.{AsmClaimsHold, LinkClaimsHold, BootgenClaimsHold, BuildsRefuseNothing}
use Rattle.tcd_laws.proofs.Claims.{prints_text, writes_file, held, held_each}

pub asm_claims : AsmClaimsHold
asm_claims source object call before says words done known =
    let means = (says.asm source object).done before words done known in
    let h = means.4 in
    let f = h.source_file in
    record {
      object = h.object;
      source = (f.bytes, f.held, f.short, ((f.form).keeps, (f.form).is));
      writes = writes_file call before means.0 object (bytes_of_object h.object) means.2 h.writes;
      prints = prints_text call means.1 _ means.3 h.prints;
    }

pub link_claims : LinkClaimsHold
link_claims layout elf objects call before says words done known =
    let means = (says.link layout elf objects).done before words done known in
    let h = means.4 in
    record {
      layout = h.layout;
      objects = h.objects;
      image = h.image;
      layout_file = held (h.files).layout_file;
      object_files = held_each before (2 ^ 24) AreObjectBytes objects h.objects (h.files).object_files;
      linked = h.linked;
      writes = writes_file call before means.0 elf (elf_file h.image) means.2 h.writes;
      prints = prints_text call means.1 _ means.3 h.prints;
    }

pub bootgen_claims : BootgenClaimsHold
bootgen_claims plan entry at source call before says words done known =
    let means = (says.bootgen plan entry at source).done before words done known in
    let h = means.4 in
    record {
      plan = h.plan;
      entry = h.entry;
      at = h.at;
      plan_held = held h.plan_file;
      entry_is = h.entry_is;
      at_is = h.at_is;
      room = h.room;
      writes = writes_file call before means.0 source (listing_of (boot_image_of h.plan h.entry h.at)) means.2 h.writes;
      prints = prints_text call means.1 _ means.3 h.prints;
    }

pub builds_refuse_nothing : BuildsRefuseNothing
builds_refuse_nothing = (
  λ source object call before says words refused known. ((says.asm source object).refused before words refused known).4,
  λ layout elf objects call before says words refused known. ((says.link layout elf objects).refused before words refused known).4,
  λ plan entry at source call before says words refused known. ((says.bootgen plan entry at source).refused before words refused known).4,
)
