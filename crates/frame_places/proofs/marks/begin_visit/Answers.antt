use Rattle.std.proofs.Common.{ap}
use Rattle.std.specs.Option.{option_map}
use Rattle.frame_places.specs.declared.places.Marked.{Marked}
use Rattle.frame_places.specs.declared.places.Mark.TheVariants.{Open}
use Rattle.frame_places.proofs.MarkLemmas.{marks_as}
use Rattle.frame_places.proofs.NearbyLemmas.{no_value, value_had, written_numbers, written_there}
use Rattle.frame_places.proofs.marks.begin_visit.Goals as goal

pub returns-in-Some : goal.returns-in-Some
returns-in-Some g c x stands =
    let m = c.args.places.now in
    let old = c.in-Some.place.now in
    let w : Marked g.row.V.Denot = record old { mark = Open; visits = c.saturating_add-place.result } in
    let unique = c.in-Some.ensures.unique in
    marks_as m _ x w (written_there m c.args.number x w unique stands) (ap (option_map (λ k. k.value)) (value_had m c.args.number x unique old c.in-Some.ensures.value stands)) (written_numbers m c.args.number w)

pub returns-in_default : goal.returns-in_default
returns-in_default g c x stands = absurd (no_value c.args.places.now c.args.number x (ap (λ o. o) (c.in_default.ensures.value)) stands)
