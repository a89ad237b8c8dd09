use Rattle.std.specs.Prelude.{map, string_bytes, length}
use Rattle.tc_object.specs.Objects.{ObjectData}
use Rattle.tcd_forms.specs.Forms.{object_form}
use Rattle.tcd_driver.specs.Link.{IsLinkReport}
use Rattle.tcd_reading.specs.Inputs.{input_files, answer}
use Rattle.tcd_reading.proofs.EachReads.{HasReadSome, rest_of}
use Rattle.tcd_driver.proofs.commands.link.link_object_files.Given as goal

abbrev pub invariant-loop-i : goal.invariant-loop-i
invariant-loop-i g l =
    HasReadSome (input_files ObjectData object_form 0 (map string_bytes l.objects) (λ os. answer (IsLinkReport l.name l.layout os)))
    (rest_of ObjectData object_form (map string_bytes l.objects) (IsLinkReport l.name l.layout) l.i l.parts.items) (g.F.Files.seen l.fn.files) (g.F.Files.seen l.files) (length l.parts.items) l.i
