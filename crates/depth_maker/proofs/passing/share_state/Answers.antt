use Rattle.std.proofs.Common.{sym, ◌∙◌, subst}
use Rattle.std.proofs.lemmas.Result.{err_from_is_err_and}
use Rattle.frame_places.specs.declared.places.Spot.TheVariants.{Point}
use Rattle.frame_places.proofs.NearbyLemmas.{nowhere}
use Rattle.depth_maker.specs.Joins.{FlowsInto, RaisesOnlyPlaceForInputs}
use Rattle.depth_maker.specs.TableView.{view_of_table}
use Rattle.depth_maker.proofs.Lawful.{lawful}
use Rattle.depth_maker.proofs.PartLemmas.{all_left}
use Rattle.depth_maker.proofs.PassingLaws.{passed_on, passing_asks}
use Rattle.depth_maker.proofs.VisitLemmas.{own_state, visited_at}
use Rattle.depth_maker.proofs.passing.share_state.Goals as goal

pub returns-in_default : goal.returns-in_default
returns-in_default c = all_left c.args.site.now.ground.now c.args.table.now c.requires.fine

pub returns-then-not-may_share_state : goal.returns-then-not-may_share_state
returns-then-not-may_share_state c = all_left c.args.site.now.ground.now c.args.table.now c.requires.fine

pub unreachable-requires : goal.unreachable-requires
unreachable-requires c =
    nowhere c.args.table.now.places c.args.table.now.near (Point c.args.site.now.key c.args.site.now.addr) (sym c.in_default-get_index.ensures.entry) c.requires.near

pub add_place_if_new-requires-clause-listed : goal.add_place_if_new-requires-clause-listed
add_place_if_new-requires-clause-listed c = c.requires.fine.listed

pub add_place_if_new-requires-clause-few : goal.add_place_if_new-requires-clause-few
add_place_if_new-requires-clause-few c = (c.requires.fine.counted).few

pub returns-in_err-add_place_if_new : goal.returns-in_err-add_place_if_new
unfolding view_of_table
returns-in_err-add_place_if_new c =
    let v = c.args.site.now in
    let s = c.args.table.now in
    let e = own_state _ _ _ s v.key v.addr _ c.in-Some-get_index.own.now c.requires.fine (sym c.in-Some-get_index.ensures.entry) c.in-Some-get_index.ensures.value c.requires.near in
    let asks = subst (FlowsInto v.ground.now s (Point v.key c.in-Some.to)) (sym (c.in_ok-value.ensures ∙ e.1)) (passing_asks _ _ _ v.key v.addr e.0 s c.in-Some.to e.2 c.in-Some.ensures) in
    let p = err_from_is_err_and c.from_residual-in_err-add_place_if_new.result c.from_residual-in_err-add_place_if_new.ensures.1 in
    rw (p.1, p.2) (c.in_err-add_place_if_new.ensures v.ground.now c.requires.fine asks)

pub returns-in-None : goal.returns-in-None
unfolding view_of_table
returns-in-None c =
    let v = c.args.site.now in
    let s = c.args.table.now in
    let e = own_state _ _ _ s v.key v.addr _ c.in-Some-get_index.own.now c.requires.fine (sym c.in-Some-get_index.ensures.entry) c.in-Some-get_index.ensures.value c.requires.near in
    let asks = subst (FlowsInto v.ground.now s (Point v.key c.in-Some.to)) (sym (c.in_ok-value.ensures ∙ e.1)) (passing_asks _ _ _ v.key v.addr e.0 s c.in-Some.to e.2 c.in-Some.ensures) in
    let quiet = c.may_share_state.ensures c.if-not-may_share_state.false e.0 e.2 in
    let passes = c.in-Some.ensures in
    let laws = lawful _ _ _ v.ground.now.sound in (
      passed_on _ _ _ v.key v.addr e.0 s c.in-Some.to e.2 passes laws _ c.requires.fine (visited_at _ _ _ laws s v.key v.addr e.0 c.requires.fine c.requires.near e.2).well_formed quiet.0 quiet.1
          (subst (RaisesOnlyPlaceForInputs v.ground.now s c.add_place_if_new.new.table (Point v.key c.in-Some.to)) (c.in_ok-value.ensures ∙ e.1) (rw c.in-None.is at c.in_ok-add_place_if_new.ensures v.ground.now c.requires.fine asks)),
      record { shape = passes.shape; size = passes.size; code = passes.code; shaped = passes.shaped; enters = passes.enters },
    )

pub returns-in-Some-2 : goal.returns-in-Some-2
unfolding view_of_table
returns-in-Some-2 c =
    let v = c.args.site.now in
    let s = c.args.table.now in
    let e = own_state _ _ _ s v.key v.addr _ c.in-Some-get_index.own.now c.requires.fine (sym c.in-Some-get_index.ensures.entry) c.in-Some-get_index.ensures.value c.requires.near in
    let asks = subst (FlowsInto v.ground.now s (Point v.key c.in-Some.to)) (sym (c.in_ok-value.ensures ∙ e.1)) (passing_asks _ _ _ v.key v.addr e.0 s c.in-Some.to e.2 c.in-Some.ensures) in
    let h = rw c.in-Some-2.is at c.in_ok-add_place_if_new.ensures v.ground.now c.requires.fine asks in h.1
