-- What `asm` reads, reports and writes.
use Rattle.std.specs.Prelude.{◌≡◌, ℕ, List, length}
use Rattle.tc_object.specs.Objects.{ObjectData}
use Rattle.tc_object.specs.Spelling.{bytes_of_object}
use Rattle.tcd_reading.specs.Reports.{Report, report_with_file}
use Rattle.tcd_reading.specs.Inputs.{Reading, input, answer}
use Rattle.tcd_forms.specs.Forms.{source_form}
use Rattle.tcd_forms.specs.Lines.{assembled_object_line}

-- the names of the source that `asm` reads, and of the object that it writes
pub record AsmArgs : Type 0 where
  pub source : List ℕ
  pub object : List ℕ

-- the report of `asm`: the object is written under this name, and the line has its size
abbrev pub WritesObject : List ℕ → ObjectData → Report → Type 0
WritesObject name object report = report ≡ report_with_file name (bytes_of_object object) (assembled_object_line (length (bytes_of_object object)))

-- a source is read; then its object is written
abbrev pub asm_reading : AsmArgs → Reading
asm_reading names = input ObjectData source_form names.source (λ object. answer (WritesObject names.object object))
