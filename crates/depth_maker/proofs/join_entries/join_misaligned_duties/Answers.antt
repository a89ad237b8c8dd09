use Rattle.std.proofs.Common.{◌≡◌, ◌∙◌, sym, ap, subst, Bool, List, [], ◌∷◌}
use Rattle.std.specs.Prelude.{OnOk, if◌then◌else◌}
use Rattle.cfg_recover.specs.Duties.{Owed}
use Rattle.depth_maker.specs.VisitDuties.{OwesDuties, JoinsDuties, misaligned_duties, misaligned_duty}
use Rattle.depth_maker.proofs.PartLemmas.{duties_none}
use Rattle.depth_maker.proofs.join_entries.join_misaligned_duties.Goals as goal

pub returns-then-not-may_enter_misaligned_handler-clause-ok : goal.returns-then-not-may_enter_misaligned_handler-clause-ok
returns-then-not-may_enter_misaligned_handler-clause-ok c =
    let v = c.args.v.now in
    let e : misaligned_duties v c.args.found.now ≡ [] = c.may_enter_misaligned_handler.ensures ∙ ap (λ (t : Bool). if t then misaligned_duty v ∷ [] else []) c.if-not-may_enter_misaligned_handler.true in
    subst (λ (l : List Owed). JoinsDuties v c.args.table.now c.args.table.now l) (sym e) (duties_none _ _ _ v.key v.addr v.state.now c.args.table.now c.requires.visited.fine)

pub join_misaligned_entry-requires-clause-owes : goal.join_misaligned_entry-requires-clause-owes
join_misaligned_entry-requires-clause-owes c =
    let v = c.args.v.now in
    let e : misaligned_duties v c.args.found.now ≡ misaligned_duty v ∷ [] = c.may_enter_misaligned_handler.ensures ∙ ap (λ (t : Bool). if t then misaligned_duty v ∷ [] else []) c.if-not-may_enter_misaligned_handler.false in
    subst (λ (l : List Owed). OwesDuties v l) e c.requires.owes

pub returns-clause-ok : goal.returns-clause-ok
returns-clause-ok c =
    let v = c.args.v.now in
    let e : misaligned_duties v c.args.found.now ≡ misaligned_duty v ∷ [] = c.may_enter_misaligned_handler.ensures ∙ ap (λ (t : Bool). if t then misaligned_duty v ∷ [] else []) c.if-not-may_enter_misaligned_handler.false in
    subst (λ (l : List Owed). OnOk c.join_misaligned_entry.result (JoinsDuties v c.args.table.now c.join_misaligned_entry.new.table l)) (sym e) c.join_misaligned_entry.ensures.ok
