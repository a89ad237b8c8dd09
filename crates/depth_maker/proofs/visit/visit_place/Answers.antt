use Rattle.std.proofs.Common.{sym, ◌∙◌, ◌≡◌, subst, Some, IsTrue}
use Rattle.std.specs.Prelude.{IfOk, OnOk, slice_get}
use Rattle.frame_places.specs.declared.places.Spot.{Spot}
use Rattle.frame_places.specs.declared.places.Spot.TheVariants.{Exit, Point}
use Rattle.frame_places.proofs.NearbyLemmas.{nowhere, one_there, there}
use Rattle.depth_maker.specs.EnteredFrames.{PlaceEntersNoFrame}
use Rattle.depth_maker.specs.Visits.{VisitJoinsDutiesForInputs}
use Rattle.depth_maker.proofs.PartLemmas.{near_left}
use Rattle.depth_maker.proofs.PassingLaws.{visited_again}
use Rattle.depth_maker.proofs.VisitLemmas.{duties_exit}
use Rattle.depth_maker.proofs.visit.visit_place.Goals as goal

pub returns-in_default-clause-ok : goal.returns-in_default-clause-ok
returns-in_default-clause-ok c x stands = absurd (nowhere c.args.table.now.places c.args.table.now.near x (sym c.in_default.ensures.entry) stands)

pub returns-in_default-at-clause-ok : goal.returns-in_default-at-clause-ok
returns-in_default-at-clause-ok c x stands =
    let s = c.args.table.now in
    let k = c.in_default-at.field-0 in
    let same : Exit k ≡ x = sym c.in_default-at.is ∙ one_there s.places s.near x c.in-Some.at.now _ (sym c.in-Some.ensures.entry) stands in
    subst (λ (z : Spot). VisitJoinsDutiesForInputs c.args.ground.now s s z) same (duties_exit _ _ _ s k c.requires.fine)

pub share_state-requires-clause-near : goal.share_state-requires-clause-near
share_state-requires-clause-near c =
    let s = c.args.table.now in
    let old = c.in-Some.field-0-1.now in
    there s.places s.near (Point c.in-Point.key c.in-Point.addr) old (subst (λ (z : Spot). slice_get s.places.entries s.near ≡ Some (z, old)) c.in-Point.is (sym c.in-Some.ensures.entry))

pub returns-then-branch-clause-ok : goal.returns-then-branch-clause-ok
returns-then-branch-clause-ok c x stands =
    let s = c.args.table.now in
    let same : Point c.in-Point.key c.in-Point.addr ≡ x = sym c.in-Point.is ∙ one_there s.places s.near x c.in-Some.at.now _ (sym c.in-Some.ensures.entry) stands in
    let h = rw c.if-branch.true at c.in_ok-share_state.ensures in
    subst (λ (z : Spot). VisitJoinsDutiesForInputs c.args.ground.now s c.share_state.new.table z) same h.0

pub returns-then-branch-clause-plain : goal.returns-then-branch-clause-plain
returns-then-branch-clause-plain c x stands t =
    let s = c.args.table.now in
    let g = c.args.ground.now in
    let same : Point c.in-Point.key c.in-Point.addr ≡ x = sym c.in-Point.is ∙ one_there s.places s.near x c.in-Some.at.now _ (sym c.in-Some.ensures.entry) stands in
    let h = rw c.if-branch.true at c.in_ok-share_state.ensures in
    subst (λ (z : Spot). PlaceEntersNoFrame g.image.now g.plan.now z) same h.1

pub visit_point-requires-clause-fine : goal.visit_point-requires-clause-fine
visit_point-requires-clause-fine c = (let h = rw c.if-branch.false at c.in_ok-share_state.ensures in h.fine)

pub visit_point-requires-clause-near : goal.visit_point-requires-clause-near
visit_point-requires-clause-near c =
    let s = c.args.table.now in
    let h = rw c.if-branch.false at c.in_ok-share_state.ensures in
    let x : Spot = Point c.in-Point.key c.in-Point.addr in
    let old = c.in-Some.field-0-1.now in
    let here = there s.places s.near x old (subst (λ (z : Spot). slice_get s.places.entries s.near ≡ Some (z, old)) c.in-Point.is (sym c.in-Some.ensures.entry)) in
    near_left c.args.ground.now s c.share_state.new.table x h here

pub returns-clause-ok : goal.returns-clause-ok
returns-clause-ok c x stands =
    let s = c.args.table.now in
    let h = rw c.if-branch.false at c.in_ok-share_state.ensures in
    let same : Point c.in-Point.key c.in-Point.addr ≡ x = sym c.in-Point.is ∙ one_there s.places s.near x c.in-Some.at.now _ (sym c.in-Some.ensures.entry) stands in
    subst (λ (z : Spot). OnOk c.visit_point.result (VisitJoinsDutiesForInputs c.args.ground.now s c.visit_point.new.table z)) same
    (visited_again c.args.ground.now s c.share_state.new.table c.visit_point.new.table (Point c.in-Point.key c.in-Point.addr) c.visit_point.result h.entries h.keeps c.visit_point.ensures.ok)

pub returns-clause-plain : goal.returns-clause-plain
returns-clause-plain c x stands =
    let s = c.args.table.now in
    let g = c.args.ground.now in
    let same : Point c.in-Point.key c.in-Point.addr ≡ x = sym c.in-Point.is ∙ one_there s.places s.near x c.in-Some.at.now _ (sym c.in-Some.ensures.entry) stands in
    subst (λ (z : Spot). IfOk c.visit_point.result (λ plain. IsTrue plain → PlaceEntersNoFrame g.image.now g.plan.now z)) same c.visit_point.ensures.plain
