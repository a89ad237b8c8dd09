use Rattle.std.proofs.Common.{ap, sym, ◌∙◌, Some}
use Rattle.frame_places.specs.declared.places.Mark.{Mark}
use Rattle.frame_places.specs.Marks.{is_queued}
use Rattle.frame_places.proofs.MarkLemmas.{not_queued, work_had}
use Rattle.frame_places.proofs.NearbyLemmas.{had_at}
use Rattle.frame_places.proofs.marks.is_place_queued.Goals as goal

pub returns-in-Queued : goal.returns-in-Queued
returns-in-Queued g c x stands =
    let m = c.args.places.now in
    sym (work_had m x c.in-Some.place.now (had_at m c.args.number x _ c.in-Some.place.now (sym c.in-Some.ensures.entry) c.in-Some.ensures.value stands) ∙ ap (λ (k : Mark). is_queued (Some k)) c.in-Queued.is)

pub returns-in_default : goal.returns-in_default
returns-in_default g c x stands =
    let m = c.args.places.now in
    sym (work_had m x c.in-Some.place.now (had_at m c.args.number x _ c.in-Some.place.now (sym c.in-Some.ensures.entry) c.in-Some.ensures.value stands) ∙ not_queued c.in-Some.place.now.mark c.in_default.not-Queued)
