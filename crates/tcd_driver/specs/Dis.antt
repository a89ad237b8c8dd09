-- What `dis` reads and reports.
use Rattle.std.specs.Prelude.{◌≡◌, ℕ, List}
use Rattle.elf_image.specs.Images.{ImageData}
use Rattle.tc_disasm.specs.Listing.{listing_of}
use Rattle.tcd_reading.specs.Reports.{Report, text_report}
use Rattle.tcd_reading.specs.Inputs.{Reading, input, answer}
use Rattle.tcd_forms.specs.Forms.{elf_form}
use Rattle.tcd_reading.specs.declared.status.Status.TheVariants.{Done}

-- the report of `dis`: the listing of an image is printed
abbrev pub IsDisReport : ImageData → Report → Type 0
IsDisReport image report = report ≡ text_report Done (listing_of image)

-- an executable is read; then its listing is reported
abbrev pub dis_reading : List ℕ → Reading
dis_reading elf = input ImageData elf_form elf (λ image. answer (IsDisReport image))
