use Rattle.std.proofs.Common.{rules, sym, subst, ap, ◌∙◌, ◌≡◌, refl, ℕ}
use Rattle.std.specs.Option.{option_map}
use Rattle.indexmap.specs.Entry.{entry_index, map_with_value}
use Rattle.indexmap.specs.declared.map.entry.Entry.TheVariants.{Vacant}
use Rattle.frame_places.specs.declared.places.Marked.{Marked}
use Rattle.frame_places.specs.declared.places.Mark.TheVariants.{Queued}
use Rattle.frame_places.specs.Marks.{AreQueuedPlacesListed, SetsAndQueuesPlace}
use Rattle.frame_places.specs.Numbers.{PlaceHasNumber}
use Rattle.frame_places.specs.Work.{all_work}
use Rattle.frame_places.proofs.MarkLemmas.{AllListed-adds, puts_as}
use Rattle.frame_places.proofs.NearbyLemmas.{added_last, added_numbers, found_there}
use Rattle.frame_places.proofs.WorkLemmas.{adds_new}
use Rattle.frame_places.proofs.places.add_or_find_place.Goals as goal

pub returns-in-Occupied : goal.returns-in-Occupied
returns-in-Occupied g c =
    let found = rw c.in-Occupied.is at c.in_ok-known.ensures.found in
    let same : c.in-Occupied.known.map.now.entries ≡ c.args.places.now.entries = rw c.in-Occupied.is at c.in_ok-known.ensures.unchanged in
    let end : c.in-Occupied.known.map.now ≡ c.places-in-Occupied-1.given.0 = search rules in (
      found_there c.args.places.now c.args.y c.index.result (c.index.ensures ∙ ap (λ e. entry_index e) (sym c.in-Occupied.is) ∙ c.in_ok-known.ensures.index) found.0,
      ap (λ m. m.entries) (sym end) ∙ same,
      refl,
    )

pub returns-in_ok-enqueue_new-in-Vacant : goal.returns-in_ok-enqueue_new-in-Vacant
returns-in_ok-enqueue_new-in-Vacant g c =
    let m = c.args.places.now in
    let y = c.args.y in
    let w : Marked g.row.V.Denot = record { value = c.args.value; mark = Queued; visits = 0 } in
    let new = map_with_value (Vacant c.in-Vacant.place) w in
    let end : new ≡ c.places-in-Vacant-2-1.given.0 = search rules in
    let update = rw c.in-Vacant.is at c.in_ok-known.ensures.update in
    let absent = rw c.in-Vacant.is at c.in_ok-known.ensures.found in
    let p = puts_as m new y w (λ q. (update.0 w).0 q) refl (added_numbers m new y w absent (update.1 w)) in
    let last = subst (λ (n : ℕ). PlaceHasNumber new n y) (sym c.len-number.ensures.len) (added_last m new y w absent (update.1 w)) in
    let listed = AllListed-adds m new (all_work c.args.work.now) c.len-number.result y p.marks p.numbers (all_work c.enqueue_new.new.work) (adds_new c.is_entry-entry.result c.args.work.now c.enqueue_new.new.work c.len-number.result c.in_ok-enqueue_new-in-Vacant.ensures) last c.requires.listed in (
      ap (option_map (λ (k : Marked g.row.V.Denot). k.value)) absent,
      subst (λ z. SetsAndQueuesPlace m z y c.args.value) end p,
      subst (λ z. AreQueuedPlacesListed z (all_work c.enqueue_new.new.work)) end listed,
    )
