use Rattle.std.proofs.Common.{refl, sym, ap, ◌∙◌}
use Rattle.tcd_plan.specs.PlanData.{PlanData}
use Rattle.cfg_recover.proofs.AccessDuties.{accesses_nothing}
use Rattle.cfg_recover.proofs.DutyLists.{only_calls_enter}
use Rattle.depth_maker.proofs.PlainRows.{load_enters_none, off_of, store_enters_none}
use Rattle.depth_maker.proofs.entered_frames.enters_no_frame.Goals as goal

pub returns-in-Load : goal.returns-in-Load
returns-in-Load c t = load_enters_none c.args.plan.now c.args.shape (sym (ap (λ (p : PlanData). p.aln) c.plan.view_is) ∙ off_of c.plan.inside.aln t) _ _ _ _ _ _ c.in-Load.is

pub returns-in-Store : goal.returns-in-Store
returns-in-Store c t = store_enters_none c.args.plan.now c.args.shape (sym (ap (λ (p : PlanData). p.aln) c.plan.view_is) ∙ off_of c.plan.inside.aln t) _ _ _ _ _ c.in-Store.is

pub returns-in_default : goal.returns-in_default
returns-in_default c t b k p u n rule =
    (only_calls_enter c.args.plan.now k p u c.args.shape n c.in_default.not-Call c.in_default.not-Syscall, rw (accesses_nothing b c.args.plan.now u c.args.shape c.in_default.not-Load c.in_default.not-Store) refl)
