use Rattle.std.proofs.Common.{sym, subst, List, ℕ, ◌<◌, ◌≤◌}
use Rattle.std.proofs.lemmas.List.{get_or-map, length-map, take_all}
use Rattle.std.proofs.lemmas.List.Elements.{Contains-get_or}
use Rattle.frame_places.specs.PointEntries.{place_of_entry}
use Rattle.frame_places.specs.Spots.{nowhere, spot_address}
use Rattle.frame_places.specs.declared.places.Spot.{Spot}
use Rattle.depth_maker.specs.SpelledCert.{AppendsTablePoint, AppendsTablePoints}
use Rattle.depth_maker.specs.SpotsAsPlaces.{spots_of_entries}
use Rattle.depth_maker.proofs.OutLemmas.{points_none, points_more}
use Rattle.depth_maker.proofs.spelling.append_table_points.Goals as goal

pub loop-p-init : goal.loop-p-init
loop-p-init c = points_none c.args.source.now c.args.key c.args.out.now.items

pub append_table_point-requires-clause-point : goal.append_table_point-requires-clause-point
append_table_point-requires-clause-point c = c.requires.points _ (Contains-get_or c.args.points.now c.loop-p.p-index _ c.loop-p-test.true)

pub loop-p-preserved : goal.loop-p-preserved
loop-p-preserved c =
    let s = c.args.source.now in
    let xs = c.args.points.now in
    let places = s.table.now.places in
    points_more s c.args.key (spots_of_entries s xs) c.loop-p.p-index nowhere c.args.out.now.items c.loop-p.out.items c.append_table_point.new.out.items
    (subst (λ (n : ℕ). c.loop-p.p-index < n) (sym (length-map xs (place_of_entry places))) c.loop-p-test.true) c.loop-p.invariant
    (subst (λ (q : Spot). AppendsTablePoint s c.args.key (spot_address q) c.loop-p.out.items c.append_table_point.new.out.items) (sym (get_or-map (place_of_entry places) xs c.loop-p.p-index _ nowhere c.loop-p-test.true)) c.in_ok-append_table_point.ensures)

pub returns : goal.returns
returns c =
    let s = c.args.source.now in
    subst (λ (l : List Spot). AppendsTablePoints s c.args.key l c.args.out.now.items c.loop-p.out.items)
    (take_all c.loop-p.p-index (spots_of_entries s c.args.points.now) (subst (λ (n : ℕ). n ≤ c.loop-p.p-index) (sym (length-map c.args.points.now (place_of_entry s.table.now.places))) c.loop-p-test.false)) c.loop-p.invariant
