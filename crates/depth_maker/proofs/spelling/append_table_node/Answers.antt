use Rattle.std.proofs.Common.{subst, sym, ap, ◌∙◌, arith, List, length}
use Rattle.std.proofs.lemmas.List.{length-map}
use Rattle.frame_places.specs.PointEntries.{place_of_entry}
use Rattle.frame_places.specs.declared.ordering.PointEntry.{PointEntry}
use Rattle.depth_maker.specs.SpelledCert.{AreTablePointEntries}
use Rattle.depth_maker.specs.SpotsAsPlaces.{spots_of_entries}
use Rattle.depth_maker.proofs.OutLemmas.{points_are, spots_are, few_of, writes_node}
use Rattle.depth_maker.proofs.spelling.append_table_node.Goals as goal

pub points_of_frame-points-requires : goal.points_of_frame-points-requires
points_of_frame-points-requires c = (c.requires.ordered).rising

pub overflow_cast-points : goal.overflow_cast-points
overflow_cast-points c =
    let few = few_of c.args.ordered.now c.requires.ordered c.args.key in
    let same = ap (λ (l : List PointEntry). length l) c.points_of_frame-points.ensures in
    record { fits = omega (arith, few, same) }

pub append_table_points-requires-clause-points : goal.append_table_points-requires-clause-points
append_table_points-requires-clause-points c =
    subst (AreTablePointEntries c.args.ordered.now.source.now c.args.key) (sym c.points_of_frame-points.ensures) (points_are c.args.ordered.now c.requires.ordered c.args.key c.requires.key)

pub returns : goal.returns
returns c =
    let o = c.args.ordered.now in
    let s = o.source.now in
    let xs = c.points_of_frame-points.result.now in
    writes_node o c.args.key c.need_as_u16.result (length xs) (spots_of_entries s xs) c.args.out.now.items c.write_key.new.out.items c.put_u16.new.out.items c.append_table_exit.new.out.items c.put_u32.new.out.items c.append_table_points.new.out.items
    (ap (spots_of_entries s) c.points_of_frame-points.ensures ∙ spots_are o c.requires.ordered c.args.key c.requires.key) c.need_as_u16.ensures (sym (length-map xs (place_of_entry s.table.now.places)))
    c.in_ok-write_key.ensures c.in_ok-put_u16.ensures c.in_ok-append_table_exit.ensures c.in_ok-put_u32.ensures.ok c.in_ok-append_table_points.ensures
