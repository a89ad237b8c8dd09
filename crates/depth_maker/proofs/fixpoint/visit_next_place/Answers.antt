use Rattle.std.proofs.Common.{refl, sym, subst, ◌∙◌, ◌≡◌, ℕ, [], inr, false}
use Rattle.std.specs.Prelude.{IfSome, IfNone}
use Rattle.frame_places.specs.declared.places.Mark.TheVariants.{Open}
use Rattle.frame_places.specs.Marks.{is_queued, mark_of_place}
use Rattle.frame_places.specs.Numbers.{PlaceHasNumber}
use Rattle.frame_places.specs.Work.{PopsPlace, all_work}
use Rattle.frame_places.proofs.WorkLemmas.{takes_there}
use Rattle.depth_maker.specs.declared.table.Table as made
use Rattle.depth_maker.proofs.Lawful.{lawful}
use Rattle.depth_maker.proofs.LevelSteps.{same_level, shorter, visited_one}
use Rattle.depth_maker.proofs.VisitLemmas.{ended, opened, passed_over, same_fine}
use Rattle.depth_maker.proofs.fixpoint.visit_next_place.Goals as goal

pub returns-in_default-clause-steps : goal.returns-in_default-clause-steps
returns-in_default-clause-steps c =
    let none = subst (λ o. IfNone o (all_work c.args.table.now.work ≡ [])) c.in_default.is c.in_ok-number.ensures.none in
    let empty = subst (λ o. IfNone o (all_work c.pop.new.self ≡ [])) c.in_default.is c.in_ok-number.ensures.empty in (
      same_fine _ _ _ c.args.table.now _ refl (empty ∙ sym none) c.requires.fine,
      c.requires.none,
      same_level c.args.table.now _ (λ q. refl) refl refl,
      empty,
    )

pub returns-then-not-is_place_queued-clause-steps : goal.returns-then-not-is_place_queued-clause-steps
returns-then-not-is_place_queued-clause-steps c =
    let s = c.args.table.now in
    let number = c.in-Some.number in
    let takes = subst (λ o. IfSome o (PopsPlace s.work c.pop.new.self)) c.in-Some.is c.in_ok-number.ensures.some in
    let x = c.requires.fine.listed.known number (takes_there s.work c.pop.new.self number takes) in
    let idle : is_queued (mark_of_place s.places x.0) ≡ false = sym (c.is_place_queued.ensures x.0 x.1) ∙ c.if-not-is_place_queued.true in (
      passed_over _ _ _ s _ x.0 number refl takes x.1 idle c.requires.fine,
      c.requires.none,
      inr (same_level s _ (λ q. refl) refl refl, shorter s.work c.pop.new.self number takes),
    )

pub visit_place-requires-clause-fine : goal.visit_place-requires-clause-fine
visit_place-requires-clause-fine c =
    let s = c.args.table.now in
    let number = c.in-Some.number in
    let takes = subst (λ o. IfSome o (PopsPlace s.work c.pop.new.self)) c.in-Some.is c.in_ok-number.ensures.some in
    let x = c.requires.fine.listed.known number (takes_there s.work c.pop.new.self number takes) in
    (opened _ _ _ (lawful _ _ _ c.args.ground.now.sound) s _ x.0 Open (c.begin_visit.ensures x.0 x.1) refl refl refl refl refl c.requires.fine c.requires.none takes x.1).0

pub returns-clause-steps : goal.returns-clause-steps
returns-clause-steps c =
    let s = c.args.table.now in
    let number = c.in-Some.number in
    let takes = subst (λ o. IfSome o (PopsPlace s.work c.pop.new.self)) c.in-Some.is c.in_ok-number.ensures.some in
    let x = c.requires.fine.listed.known number (takes_there s.work c.pop.new.self number takes) in
    let marks = c.begin_visit.ensures x.0 x.1 in
    let o : made.Table = record s { places = c.begin_visit.new.places; work = c.pop.new.self; near = number } in
    let m = c.visit_place.new.table in
    let laws = lawful _ _ _ c.args.ground.now.sound in
    let opening = (opened _ _ _ laws s o x.0 Open marks refl refl refl refl refl c.requires.fine c.requires.none takes x.1).1 in
    let paid = c.in_ok-plain.ensures.ok x.0 opening.stands in
    let stands = subst (λ (n : ℕ). PlaceHasNumber m.places n x.0) (sym paid.keeps.near) (paid.keeps.numbers number x.0 opening.stands) in
    let v = ended _ _ _ laws o m _ x.0 c.in_ok-plain.plain (c.in_ok-plain.ensures.plain x.0 opening.stands) refl refl refl refl refl (c.end_visit.ensures x.0 stands) opening paid in
    (v.0, v.1, visited_one s o _ (same_level s o marks.values refl refl) (shorter s.work c.pop.new.self number takes) v.2)
