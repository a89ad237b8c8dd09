use Rattle.std.proofs.Common.{arith, subst}
use Rattle.std.specs.Prelude.{map, string_bytes}
use Rattle.std.proofs.lemmas.List.{length-map}
use Rattle.tc_object.specs.Objects.{ObjectData}
use Rattle.tcd_forms.specs.Forms.{object_form}
use Rattle.tcd_driver.specs.Link.{IsLinkReport}
use Rattle.tcd_reading.specs.Outcomes.{IsReportOutcome}
use Rattle.tcd_reading.proofs.EachReads.{none_read, next_read, next_stops, next_memory, all_read, name_here}
use Rattle.tcd_driver.proofs.commands.link.link_object_files.Goals as goal

pub loop-i-init : goal.loop-i-init
loop-i-init g c = none_read ObjectData object_form (map string_bytes c.args.objects.now) (IsLinkReport c.args.name.now c.args.layout.now) c.new-parts.result.items _ c.new-parts.ensures.items

pub returns-in_err-part : goal.returns-in_err-part
returns-in_err-part g c =
    next_stops ObjectData object_form (map string_bytes c.args.objects.now) (IsLinkReport c.args.name.now c.args.layout.now) _ c.loop-i.i c.as_str.result.now c.loop-i.parts.items _ _ _ _ c.from_residual.result c.from_residual.ensures.1
    (name_here string_bytes c.args.objects.now c.loop-i.i c.index-objects-i.result _ (omega arith) c.index-objects-i.is c.as_str.ensures.value) c.loop-i.invariant.leads c.in_err-part.ensures.leaves c.in_err-part.ensures.later c.in_err-part.ensures.stops

pub returns-in-Err : goal.returns-in-Err
returns-in-Err g c =
    next_memory ObjectData object_form (map string_bytes c.args.objects.now) (IsLinkReport c.args.name.now c.args.layout.now) _ c.loop-i.i c.as_str.result.now c.loop-i.parts.items _ _ _ _
    (name_here string_bytes c.args.objects.now c.loop-i.i c.index-objects-i.result _ (omega arith) c.index-objects-i.is c.as_str.ensures.value) c.loop-i.invariant.leads c.in_ok-part.ensures.leaves c.in_ok-part.ensures.later c.in_ok-part.ensures.found

pub loop-i-preserved : goal.loop-i-preserved
loop-i-preserved g c =
    next_read ObjectData object_form (map string_bytes c.args.objects.now) (IsLinkReport c.args.name.now c.args.layout.now) _ c.loop-i.i c.as_str.result.now c.loop-i.parts.items _ _ _ _ _
    (name_here string_bytes c.args.objects.now c.loop-i.i c.index-objects-i.result _ (omega arith) c.index-objects-i.is c.as_str.ensures.value) c.loop-i.invariant c.in_ok-part.ensures.leaves c.in_ok-part.ensures.later c.in_ok-part.ensures.found c.in-Ok.ensures.items

pub returns : goal.returns
returns g c =
    all_read ObjectData object_form (map string_bytes c.args.objects.now) (IsLinkReport c.args.name.now c.args.layout.now) _ c.loop-i.i c.loop-i.parts.items _ _ c.link_and_report.result
    (let e = length-map c.args.objects.now string_bytes in omega arith) c.loop-i.invariant.leads (subst (λ os. IsReportOutcome (IsLinkReport c.args.name.now c.args.layout.now os) ⊥ c.link_and_report.result) c.deref.ensures.value c.link_and_report.ensures)
