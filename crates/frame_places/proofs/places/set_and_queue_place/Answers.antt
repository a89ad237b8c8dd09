use Rattle.std.proofs.Common.{ap, refl, ◌∙◌, Some}
use Rattle.std.specs.Option.{option_map}
use Rattle.indexmap.specs.IndexMap.{with_value_at}
use Rattle.frame_places.specs.declared.places.Mark.{Mark}
use Rattle.frame_places.specs.declared.places.Marked.{Marked}
use Rattle.frame_places.specs.Work.{all_work}
use Rattle.frame_places.proofs.WorkLemmas.{adds_either, adds_entry}
use Rattle.frame_places.specs.declared.places.Mark.TheVariants.{Queued}
use Rattle.frame_places.proofs.MarkLemmas.{AllListed-again, AllListed-adds, puts_as}
use Rattle.frame_places.proofs.NearbyLemmas.{value_had, written_numbers, written_there}
use Rattle.frame_places.proofs.places.set_and_queue_place.Goals as goal

pub returns-in_ok-push_to_round-clause-puts : goal.returns-in_ok-push_to_round-clause-puts
returns-in_ok-push_to_round-clause-puts g c y stands =
    let m = c.args.places.now in
    let w : Marked g.row.V.Denot = record c.in-Some.place.now { value = c.args.value } in
    puts_as m (with_value_at m c.args.number w) y w (written_there m c.args.number y w c.in-Some.ensures.unique stands) c.in-Queued.is (written_numbers m c.args.number w)

pub returns-in_ok-push_to_round-clause-work : goal.returns-in_ok-push_to_round-clause-work
returns-in_ok-push_to_round-clause-work g c y stands =
    let m = c.args.places.now in
    let w : Marked g.row.V.Denot = record c.in-Some.place.now { value = c.args.value } in
    let p = puts_as m (with_value_at m c.args.number w) y w (written_there m c.args.number y w c.in-Some.ensures.unique stands) c.in-Queued.is (written_numbers m c.args.number w) in
    AllListed-adds m (with_value_at m c.args.number w) (all_work c.args.work.now) c.args.number y p.marks p.numbers (all_work c.push_to_round.new.self)
    (adds_entry c.args.work.now c.push_to_round.new.self c.args.number c.in_ok-push_to_round.ensures) (p.numbers c.args.number y stands) c.requires.listed

pub returns-else-is_unvisited_entry-clause-puts : goal.returns-else-is_unvisited_entry-clause-puts
returns-else-is_unvisited_entry-clause-puts g c y stands =
    let m = c.args.places.now in
    let w : Marked g.row.V.Denot = record c.in-Some.place.now { value = c.args.value } in
    puts_as m (with_value_at m c.args.number w) y w (written_there m c.args.number y w c.in-Some.ensures.unique stands) c.in-Queued.is (written_numbers m c.args.number w)

pub returns-else-is_unvisited_entry-clause-work : goal.returns-else-is_unvisited_entry-clause-work
returns-else-is_unvisited_entry-clause-work g c y stands =
    let m = c.args.places.now in
    let old = c.in-Some.place.now in
    let w : Marked g.row.V.Denot = record old { value = c.args.value } in
    let unique = c.in-Some.ensures.unique in
    let p = puts_as m (with_value_at m c.args.number w) y w (written_there m c.args.number y w unique stands) c.in-Queued.is (written_numbers m c.args.number w) in
    AllListed-again m (with_value_at m c.args.number w) (all_work c.args.work.now) c.args.number y p.marks p.numbers
    (ap (option_map (λ k. k.mark)) (value_had m c.args.number y unique old c.in-Some.ensures.value stands) ∙ ap (λ (k : Mark). Some k) c.in-Queued.is) c.requires.listed

pub returns : goal.returns
returns g c =
    let m = c.args.places.now in
    let w : Marked g.row.V.Denot = record c.in-Some.place.now { value = c.args.value; mark = Queued } in record {
      puts = (λ y stands. puts_as m (with_value_at m c.args.number w) y w (written_there m c.args.number y w c.in-Some.ensures.unique stands) refl (written_numbers m c.args.number w));
      work = (λ y stands.
          let p = puts_as m (with_value_at m c.args.number w) y w (written_there m c.args.number y w c.in-Some.ensures.unique stands) refl (written_numbers m c.args.number w) in
          AllListed-adds m (with_value_at m c.args.number w) (all_work c.args.work.now) c.args.number y p.marks p.numbers (all_work c.enqueue.new.work)
          (adds_either c.args.entry c.args.work.now c.enqueue.new.work c.args.number c.in_ok-enqueue.ensures) (p.numbers c.args.number y stands) c.requires.listed);
    }
