use Rattle.std.proofs.Common.{◌∙◌, ◌∷◌, ◌++◌, [], ap, arith, subst, sym}
use Rattle.std.specs.Prelude.{map, string_bytes}
use Rattle.std.proofs.lemmas.List.{length-map}
use Rattle.tcd_forms.specs.Forms.{SourceData, numbered_source_form}
use Rattle.tcd_driver.specs.Ship.{AreSourcesOfObjects, IsShipmentReport}
use Rattle.tcd_reading.proofs.EachReads.{next_stops, next_memory, all_read, name_here}
use Rattle.tcd_driver.proofs.ShipReports.{no_sources, more_sources}
use Rattle.tcd_driver.proofs.commands.ship.ship_sources.Goals as goal

pub loop-i-init : goal.loop-i-init
loop-i-init g c = no_sources (map string_bytes c.args.names.now.sources.now) (IsShipmentReport c.args.names.now c.args.plan.now c.args.layout.now) _ _ c.new-objects.ensures.items

pub returns-in_err-source : goal.returns-in_err-source
returns-in_err-source g c =
    next_stops SourceData numbered_source_form (map string_bytes c.args.names.now.sources.now) (IsShipmentReport c.args.names.now c.args.plan.now c.args.layout.now) _ c.loop-i.i c.as_str.result.now c.loop-i.invariant.sources _ _ _ _ c.from_residual.result c.from_residual.ensures.1
    (name_here string_bytes c.args.names.now.sources.now c.loop-i.i c.index-sources-i.result _ (omega arith) c.index-sources-i.is c.as_str.ensures.value) c.loop-i.invariant.read.leads c.in_err-source.ensures.leaves c.in_err-source.ensures.later c.in_err-source.ensures.stops

pub returns-in-Err : goal.returns-in-Err
returns-in-Err g c =
    next_memory SourceData numbered_source_form (map string_bytes c.args.names.now.sources.now) (IsShipmentReport c.args.names.now c.args.plan.now c.args.layout.now) _ c.loop-i.i c.as_str.result.now c.loop-i.invariant.sources _ _ _ _
    (name_here string_bytes c.args.names.now.sources.now c.loop-i.i c.index-sources-i.result _ (omega arith) c.index-sources-i.is c.as_str.ensures.value) c.loop-i.invariant.read.leads c.in_ok-source.ensures.leaves c.in_ok-source.ensures.later c.in_ok-source.ensures.found

pub loop-i-preserved : goal.loop-i-preserved
loop-i-preserved g c =
    more_sources (map string_bytes c.args.names.now.sources.now) (IsShipmentReport c.args.names.now c.args.plan.now c.args.layout.now) c.loop-i.i c.as_str.result.now _ _ _ _ _ _
    (name_here string_bytes c.args.names.now.sources.now c.loop-i.i c.index-sources-i.result _ (omega arith) c.index-sources-i.is c.as_str.ensures.value) c.loop-i.invariant c.in_ok-source.ensures.leaves c.in_ok-source.ensures.later c.in_ok-source.ensures.found
    (c.in-Ok.ensures.items ∙ ap (λ (s : SourceData). c.loop-i.objects.items ++ s.object ∷ []) c.source.view_is)

pub returns : goal.returns
returns g c =
    all_read SourceData numbered_source_form (map string_bytes c.args.names.now.sources.now) (IsShipmentReport c.args.names.now c.args.plan.now c.args.layout.now) _ c.loop-i.i c.loop-i.invariant.sources _ _ c.ship_objects.result
    (let e = length-map c.args.names.now.sources.now string_bytes in omega arith) c.loop-i.invariant.read.leads
    (c.ship_objects.ensures c.loop-i.invariant.sources (subst (λ os. AreSourcesOfObjects c.loop-i.invariant.sources os) (sym c.deref.ensures.value) c.loop-i.invariant.are))
