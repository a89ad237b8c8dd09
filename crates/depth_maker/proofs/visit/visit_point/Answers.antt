use Rattle.std.proofs.Common.{refl, ap, sym}
use Rattle.std.specs.Option.{option_map}
use Rattle.cfg_recover.specs.CertRefusals.{derived, own}
use Rattle.depth_cert.specs.Known.{Known}
use Rattle.frame_places.specs.declared.places.Marked.{Marked}
use Rattle.frame_places.specs.declared.places.Spot.TheVariants.{Point}
use Rattle.frame_places.proofs.NearbyLemmas.{had_at, nowhere}
use Rattle.depth_maker.specs.TableView.{view_of_table}
use Rattle.depth_maker.proofs.JoinLemmas.{cells_well_formed}
use Rattle.depth_maker.proofs.Lawful.{lawful}
use Rattle.depth_maker.proofs.PartLemmas.{duties_all}
use Rattle.depth_maker.proofs.VisitLemmas.{state_read}
use Rattle.depth_maker.proofs.visit.visit_point.Goals as goal

pub unreachable-requires : goal.unreachable-requires
unreachable-requires c =
    nowhere c.args.table.now.places c.args.table.now.near (Point c.args.site.now.key c.args.site.now.addr) (sym c.in_default.ensures.entry) c.requires.near

pub write_state-requires : goal.write_state-requires
write_state-requires c =
    let s = c.args.table.now in
    let x = Point c.args.site.now.key c.args.site.now.addr in
    cells_well_formed _ _ _ (lawful _ _ _ c.args.site.now.ground.now.sound) s c.requires.fine x c.in-Some.place.now.value
    (ap (option_map (λ (m : Marked Known). m.value)) (had_at s.places s.near x _ c.in-Some.place.now (sym c.in-Some.ensures.entry) c.in-Some.ensures.value c.requires.near))

pub check_decoded_instruction-requires-clause-values : goal.check_decoded_instruction-requires-clause-values
check_decoded_instruction-requires-clause-values c =
    let r = state_read _ _ _ (lawful _ _ _ c.args.site.now.ground.now.sound) c.args.table.now c.args.site.now.key c.args.site.now.addr _ c.in-Some.place.now _ c.state.result.now c.requires.fine (sym c.in-Some.ensures.entry) c.in-Some.ensures.value
    c.requires.near c.write_state.ensures c.state.ensures in
    (r.0).well_formed.values

pub join_visit_duties-requires-clause-visited : goal.join_visit_duties-requires-clause-visited
join_visit_duties-requires-clause-visited c =
    (state_read _ _ _ (lawful _ _ _ c.args.site.now.ground.now.sound) c.args.table.now c.args.site.now.key c.args.site.now.addr _ c.in-Some.place.now _ c.state.result.now c.requires.fine (sym c.in-Some.ensures.entry) c.in-Some.ensures.value
    c.requires.near c.write_state.ensures c.state.ensures).0

pub join_visit_duties-requires-clause-at : goal.join_visit_duties-requires-clause-at
unfolding view_of_table
join_visit_duties-requires-clause-at c =
    (state_read _ _ _ (lawful _ _ _ c.args.site.now.ground.now.sound) c.args.table.now c.args.site.now.key c.args.site.now.addr _ c.in-Some.place.now _ c.state.result.now c.requires.fine (sym c.in-Some.ensures.entry) c.in-Some.ensures.value
    c.requires.near c.write_state.ensures c.state.ensures).1

pub join_visit_duties-requires-clause-found : goal.join_visit_duties-requires-clause-found
join_visit_duties-requires-clause-found c = c.in-Ok.ensures.found c.args.site.now.ground.now.image.now c.args.site.now.addr c.requires.code

pub returns-in_ok-join_visit_duties-in-Ok-clause-ok : goal.returns-in_ok-join_visit_duties-in-Ok-clause-ok
unfolding view_of_table
returns-in_ok-join_visit_duties-in-Ok-clause-ok c =
    let v = c.args.site.now in
    let r = state_read _ _ _ (lawful _ _ _ c.args.site.now.ground.now.sound) c.args.table.now c.args.site.now.key c.args.site.now.addr _ c.in-Some.place.now _ c.state.result.now c.requires.fine (sym c.in-Some.ensures.entry) c.in-Some.ensures.value
    c.requires.near c.write_state.ensures c.state.ensures in
    let f = c.in-Ok.ensures.found v.ground.now.image.now v.addr c.requires.code in
    duties_all _ _ _ v.key v.addr c.state.result.now c.args.table.now c.join_visit_duties.new.table c.in-Ok.found.now.shape c.in-Ok.found.now.size r.1 f.faultless f.code c.in_ok-join_visit_duties-in-Ok.ensures.ok

pub returns-in_ok-join_visit_duties-in-Ok-clause-plain : goal.returns-in_ok-join_visit_duties-in-Ok-clause-plain
returns-in_ok-join_visit_duties-in-Ok-clause-plain c t =
    let f = c.in-Ok.ensures.found c.args.site.now.ground.now.image.now c.args.site.now.addr c.requires.code in
    record { shape = c.in-Ok.found.now.shape; size = c.in-Ok.found.now.size; code = f.code; shaped = f.shape; enters = c.enters_no_frame.ensures t }

pub returns-in-Err-clause-err : goal.returns-in-Err-clause-err
unfolding view_of_table
returns-in-Err-clause-err c =
    let v = c.args.site.now in
    let r = state_read _ _ _ (lawful _ _ _ c.args.site.now.ground.now.sound) c.args.table.now c.args.site.now.key c.args.site.now.addr _ c.in-Some.place.now _ c.state.result.now c.requires.fine (sym c.in-Some.ensures.entry) c.in-Some.ensures.value
    c.requires.near c.write_state.ensures c.state.ensures in
    let fault = own c.in-Err.rule v.key v.addr c.state.result.now r.1 (c.in-Err.ensures.fault v.ground.now.image.now v.addr c.requires.code) in
    (v.key, v.addr, refl, derived (view_of_table c.args.table.now).cells c.in-Err.rule v.key v.addr (c.requires.fine.table).derived fault)
