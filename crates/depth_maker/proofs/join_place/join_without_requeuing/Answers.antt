use Rattle.std.proofs.Common.{ap, sym, ◌∙◌, subst}
use Rattle.std.proofs.lemmas.Result.{err_from_is_err_and}
use Rattle.depth_cert.specs.Known.{Known, state}
use Rattle.std.proofs.lemmas.Option.{same_Some}
use Rattle.std.specs.Option.{option_map}
use Rattle.value_domain.specs.declared.states.State.{State}
use Rattle.frame_places.specs.declared.places.Marked.{Marked}
use Rattle.frame_places.specs.declared.places.Spot.TheVariants.{Point}
use Rattle.frame_places.proofs.MarkLemmas.{same_value}
use Rattle.frame_places.proofs.NearbyLemmas.{had_at, index_there, nowhere}
use Rattle.small_states.specs.Incoming.{incoming_known}
use Rattle.depth_maker.specs.Joins.{FlowsInto, RaisesOnlyPlaceForInputs}
use Rattle.depth_maker.specs.TableView.{view_of_table}
use Rattle.depth_maker.proofs.PartLemmas.{asks_again, near_left, raises_again}
use Rattle.depth_maker.proofs.join_place.join_without_requeuing.Goals as goal

pub copy_incoming-requires : goal.copy_incoming-requires
unfolding view_of_table
copy_incoming-requires c =
    let t = c.args.table.now in
    let x = Point c.args.v.now.key c.args.v.now.addr in
    let had = had_at t.places t.near x _ c.in-Some-get_index.own.now (sym c.in-Some-get_index.ensures.entry) c.in-Some-get_index.ensures.value c.requires.near in
    same_Some c.in-Some-get_index.own.now.value (state c.args.v.now.state.now) (sym (ap (option_map (λ (m : Marked Known). m.value)) had) ∙ c.requires.at)
    ∙ sym (ap (λ (s : State). state s) c.requires.own)

pub add_place_if_new-requires-clause-listed : goal.add_place_if_new-requires-clause-listed
add_place_if_new-requires-clause-listed c = c.requires.fine.listed

pub add_place_if_new-requires-clause-few : goal.add_place_if_new-requires-clause-few
add_place_if_new-requires-clause-few c = (c.requires.fine.counted).few

pub returns-in_err-add_place_if_new : goal.returns-in_err-add_place_if_new
returns-in_err-add_place_if_new c =
    let p = err_from_is_err_and c.from_residual-in_err-add_place_if_new.result c.from_residual-in_err-add_place_if_new.ensures.1 in
    rw (p.1, p.2) (c.in_err-add_place_if_new.ensures c.args.v.now.ground.now c.requires.fine (subst (FlowsInto c.args.v.now.ground.now c.args.table.now c.args.y.now) (sym c.in_ok-value.ensures) c.requires.incoming))

pub returns-in-None : goal.returns-in-None
returns-in-None c =
    let asks = subst (FlowsInto c.args.v.now.ground.now c.args.table.now c.args.y.now) (sym c.in_ok-value.ensures) c.requires.incoming in
    subst (RaisesOnlyPlaceForInputs c.args.v.now.ground.now c.args.table.now c.add_place_if_new.new.table c.args.y.now) c.in_ok-value.ensures (rw c.in-None.is at c.in_ok-add_place_if_new.ensures c.args.v.now.ground.now c.requires.fine asks)

pub join_known_place-requires-in-Some-2-clause-fine : goal.join_known_place-requires-in-Some-2-clause-fine
join_known_place-requires-in-Some-2-clause-fine c = (let asks = subst (FlowsInto c.args.v.now.ground.now c.args.table.now c.args.y.now) (sym c.in_ok-value.ensures) c.requires.incoming in
    let h = rw c.in-Some-2.is at c.in_ok-add_place_if_new.ensures c.args.v.now.ground.now c.requires.fine asks in h.1.fine)

pub join_known_place-requires-in-Some-2-clause-there : goal.join_known_place-requires-in-Some-2-clause-there
join_known_place-requires-in-Some-2-clause-there c = (let asks = subst (FlowsInto c.args.v.now.ground.now c.args.table.now c.args.y.now) (sym c.in_ok-value.ensures) c.requires.incoming in
    let h = rw c.in-Some-2.is at c.in_ok-add_place_if_new.ensures c.args.v.now.ground.now c.requires.fine asks in h.0)

pub join_known_place-requires-in-Some-2-clause-near : goal.join_known_place-requires-in-Some-2-clause-near
join_known_place-requires-in-Some-2-clause-near c =
    let asks = subst (FlowsInto c.args.v.now.ground.now c.args.table.now c.args.y.now) (sym c.in_ok-value.ensures) c.requires.incoming in
    let h = rw c.in-Some-2.is at c.in_ok-add_place_if_new.ensures c.args.v.now.ground.now c.requires.fine asks in
    near_left c.args.v.now.ground.now c.args.table.now c.add_place_if_new.new.table (Point c.args.v.now.key c.args.v.now.addr) h.1 c.requires.near

pub join_known_place-requires-in-Some-2-clause-at : goal.join_known_place-requires-in-Some-2-clause-at
unfolding view_of_table
join_known_place-requires-in-Some-2-clause-at c =
    let asks = subst (FlowsInto c.args.v.now.ground.now c.args.table.now c.args.y.now) (sym c.in_ok-value.ensures) c.requires.incoming in
    let h = rw c.in-Some-2.is at c.in_ok-add_place_if_new.ensures c.args.v.now.ground.now c.requires.fine asks in
    same_value c.args.table.now.places c.add_place_if_new.new.table.places h.1.entries (Point c.args.v.now.key c.args.v.now.addr) ∙ c.requires.at

pub join_known_place-requires-in-Some-2-clause-incoming : goal.join_known_place-requires-in-Some-2-clause-incoming
join_known_place-requires-in-Some-2-clause-incoming c =
    let asks = subst (FlowsInto c.args.v.now.ground.now c.args.table.now c.args.y.now) (sym c.in_ok-value.ensures) c.requires.incoming in
    let h = rw c.in-Some-2.is at c.in_ok-add_place_if_new.ensures c.args.v.now.ground.now c.requires.fine asks in
    asks_again _ _ _ c.args.table.now c.add_place_if_new.new.table c.args.y.now (incoming_known c.args.incoming.now) h.1.entries c.requires.incoming

pub returns-in-Some-2 : goal.returns-in-Some-2
returns-in-Some-2 c =
    let asks = subst (FlowsInto c.args.v.now.ground.now c.args.table.now c.args.y.now) (sym c.in_ok-value.ensures) c.requires.incoming in
    let h = rw c.in-Some-2.is at c.in_ok-add_place_if_new.ensures c.args.v.now.ground.now c.requires.fine asks in
    raises_again c.args.v.now.ground.now c.args.table.now c.add_place_if_new.new.table c.join_known_place-in-Some-2.new.table c.args.y.now (incoming_known c.args.incoming.now) c.join_known_place-in-Some-2.result h.1 c.join_known_place-in-Some-2.ensures

pub unreachable-requires : goal.unreachable-requires
unreachable-requires c =
    nowhere c.args.table.now.places c.args.table.now.near (Point c.args.v.now.key c.args.v.now.addr) (sym c.in_default-get_index.ensures.entry) c.requires.near

pub join_known_place-requires-clause-there : goal.join_known_place-requires-clause-there
join_known_place-requires-clause-there c = index_there c.args.table.now.places c.in-Some.number c.args.y.now (sym c.in-Some.ensures.index)
