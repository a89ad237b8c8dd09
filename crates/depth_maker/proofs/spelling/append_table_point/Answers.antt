use Rattle.std.proofs.Common.{refl, sym, ap, ◌≡◌, ◌∙◌, ◌++◌, ◌<◌, subst, ℕ, Some, true, false}
use Rattle.std.specs.Option.{option_map}
use Rattle.std.proofs.lemmas.Map.Entries.{length-keys_of}
use Rattle.tcd_base.specs.Bytes.{bytes_of_word}
use Rattle.depth_cert.specs.Known.{Known, IsKnownState}
use Rattle.small_states.specs.Incoming.{AppendsKnownState}
use Rattle.frame_places.specs.PointEntries.{place_of_entry}
use Rattle.frame_places.specs.Marks.{value_of_place}
use Rattle.frame_places.specs.Spots.{spot_address}
use Rattle.frame_places.specs.declared.places.Spot.TheVariants.{Point}
use Rattle.depth_maker.specs.TableView.{view_of_table}
use Rattle.depth_maker.proofs.OutLemmas.{writes_point}
use Rattle.depth_maker.proofs.PointEntries.{entry_place}
use Rattle.depth_maker.proofs.RowSteps.{done_well_formed, done_state, read_there}
use Rattle.depth_maker.proofs.spelling.append_table_point.Goals as goal

pub append_state-requires : goal.append_state-requires
append_state-requires c =
    let s = c.args.source.now in
    done_well_formed s.ground.now s.table.now (c.requires.source).done c.in-Some.place.now _ (ap (option_map (λ m. m.value)) c.in-Some.ensures.value)

pub returns : goal.returns
unfolding view_of_table
returns c =
    let s = c.args.source.now in
    let t = s.table.now in
    let x = c.args.point.now in
    let k = c.args._key in
    let p = spot_address (place_of_entry t.places x) in
    let place : place_of_entry t.places x ≡ c.in-Some.place.now = entry_place t.places x c.in-Some.place.now c.in-Some.known.now c.in-Some.ensures.entry in
    let is : c.in-Some.place.now ≡ Point k p = sym place ∙ (c.requires.point).is in
    let w = c.in-Some.known.now.value in
    let at : value_of_place t.places (Point k p) ≡ Some w = ap (value_of_place t.places) (sym is) ∙ ap (option_map (λ m. m.value)) c.in-Some.ensures.value in
    let done = (c.requires.source).done in
    let e = done_state s.ground.now t done k p w at in
    let there = read_there s.ground.now t done k p w e.0 at (subst (λ (v : Known). IsKnownState v e.0) (sym e.1) refl) in
    let adds = subst (λ (v : Known). AppendsKnownState v c.put_u32.new.out.items c.append_state.new.out.items) e.1 c.in_ok-append_state.ensures in
    let address = c.place_address.ensures ∙ ap spot_address (sym place) in
    writes_point s k p e.0 c.args.out.now.items c.put_u32.new.out.items c.append_state.new.out.items there adds.1
    (c.in_ok-put_u32.ensures.ok ∙ ap (λ (n : ℕ). c.args.out.now.items ++ bytes_of_word n) address) adds.0

pub unreachable-requires : goal.unreachable-requires
unreachable-requires c =
    (let f : false ≡ true = c.in_default.ensures.found.1 (subst (λ (n : ℕ). c.args.point.now.entry < n) (length-keys_of c.args.source.now.table.now.places.entries) (c.requires.point).within) in cc)
