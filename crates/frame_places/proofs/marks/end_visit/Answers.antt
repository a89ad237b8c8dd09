use Rattle.std.proofs.Common.{ap, sym, subst, ◌∙◌}
use Rattle.std.specs.Option.{option_map}
use Rattle.indexmap.specs.IndexMap.{with_value_at}
use Rattle.frame_places.specs.declared.places.Mark.{Mark}
use Rattle.frame_places.specs.declared.places.Marked.{Marked}
use Rattle.frame_places.specs.Marks.{MarksPlaceAs, mark_at_visit_end}
use Rattle.frame_places.proofs.MarkLemmas.{marks_as}
use Rattle.frame_places.proofs.NearbyLemmas.{no_value, value_had, written_numbers, written_there}
use Rattle.frame_places.proofs.marks.end_visit.Goals as goal

pub returns-in-Some : goal.returns-in-Some
returns-in-Some g c x stands =
    let m = c.args.places.now in
    let old = c.in-Some.place.now in
    let w : Marked g.row.V.Denot = record old { mark = c.mark_after_visit-place.result } in
    let unique = c.in-Some.ensures.unique in
    let had = value_had m c.args.number x unique old c.in-Some.ensures.value stands in
    subst (λ (k : Mark). MarksPlaceAs m (with_value_at m c.args.number w) x k) (c.mark_after_visit-place.ensures ∙ ap (mark_at_visit_end c.args.plain) (sym (ap (option_map (λ k. k.mark)) had)))
    (marks_as m (with_value_at m c.args.number w) x w (written_there m c.args.number x w unique stands) (ap (option_map (λ k. k.value)) had) (written_numbers m c.args.number w))

pub returns-in_default : goal.returns-in_default
returns-in_default g c x stands = absurd (no_value c.args.places.now c.args.number x c.in_default.ensures.value stands)
