use Rattle.std.proofs.Common.{sym, subst, refl, ℕ}
use Rattle.frame_places.specs.declared.places.Marked.{Marked}
use Rattle.frame_places.specs.Work.{all_work}
use Rattle.frame_places.proofs.WorkLemmas.{adds_new}
use Rattle.frame_places.specs.Numbers.{PlaceHasNumber}
use Rattle.frame_places.specs.declared.places.Mark.TheVariants.{Queued}
use Rattle.frame_places.proofs.MarkLemmas.{AllListed-adds, puts_as, unknown_place}
use Rattle.frame_places.proofs.NearbyLemmas.{added_last, added_numbers}
use Rattle.frame_places.proofs.places.add_queued_place.Goals as goal

pub returns-clause-puts : goal.returns-clause-puts
returns-clause-puts g c =
    let m = c.args.places.now in
    let new = c.insert.new.self in
    let w : Marked g.row.V.Denot = record { value = c.args.value; mark = Queued; visits = 0 } in
    puts_as m new c.args.y w (λ q. c.in_ok-insert.ensures.updates.0 q) refl (added_numbers m new c.args.y w (unknown_place _ c.requires.new) c.in_ok-insert.ensures.entries)

pub returns-clause-work : goal.returns-clause-work
returns-clause-work g c =
    let m = c.args.places.now in
    let new = c.insert.new.self in
    let w : Marked g.row.V.Denot = record { value = c.args.value; mark = Queued; visits = 0 } in
    let none = unknown_place _ c.requires.new in
    let p = puts_as m new c.args.y w (λ q. c.in_ok-insert.ensures.updates.0 q) refl (added_numbers m new c.args.y w none c.in_ok-insert.ensures.entries) in
    let last = subst (λ (n : ℕ). PlaceHasNumber new n c.args.y) (sym c.len-number.ensures.len) (added_last m new c.args.y w none c.in_ok-insert.ensures.entries) in
    AllListed-adds m new (all_work c.args.work.now) c.len-number.result c.args.y p.marks p.numbers (all_work c.enqueue_new.new.work) (adds_new c.is_entry-entry.result c.args.work.now c.enqueue_new.new.work c.len-number.result c.in_ok-enqueue_new.ensures) last c.requires.listed
