use Rattle.std.proofs.Common.{◌≡◌, ◌∙◌, refl, subst}
use Rattle.std.specs.Prelude.{IfOk, string_bytes}
use Rattle.elf_image.specs.Images.{ImageData}
use Rattle.tc_disasm.specs.Listing.{listing_of}
use Rattle.tc_boot.proofs.SourceLaws.{boot_image-is}
use Rattle.tc_boot.proofs.sources.boot_source.Goals as goal

pub returns : goal.returns
returns c = subst (λ (i : ImageData). IfOk c.listing.result (λ text. string_bytes text ≡ listing_of i))
    (boot_image-is c.args.plan.now c.args.entry c.args.at c.new-segments.result.items c.push.new.self.items (record { at = c.args.at; bytes = c.in_ok-bytes.bytes }) c.new-segments.ensures.items c.in_ok-push.ensures.items refl
    (c.in_ok-bytes.ensures.items ∙ c.boot_bytes.ensures)) c.listing.ensures
