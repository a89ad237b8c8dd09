use Rattle.std.proofs.Common.{◌≡◌, string_bytes, sym, ap, subst}
use Rattle.elf_image.specs.Images.{IsImage}
use Rattle.tcd_plan.specs.PlanData.{IsPlan}
use Rattle.tcd_driver.specs.Cfg.{IsCfgText}
use Rattle.tcd_driver.proofs.GraphReports.{graph_drawn}
use Rattle.tcd_driver.proofs.commands.cfg.cfg_command_text.Goals as goal

pub graph-requires : goal.graph-requires
graph-requires c = c.requires.accepted

pub returns : goal.returns
returns c =
    let same : c.into_bytes.result.items ≡ string_bytes c.in_ok-graph.field-0 = ap (λ v. v.items) c.into_bytes.ensures.value in
    subst (IsCfgText c.args.image.now c.args.plan.now) (sym same)
    (graph_drawn c.args.image.now c.args.plan.now _ _ (subst IsImage c.image.view_is c.image.invariant).entry (subst IsPlan c.plan.view_is c.plan.invariant) c.requires c.in_ok-graph.ensures)
