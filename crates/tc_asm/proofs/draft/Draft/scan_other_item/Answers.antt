use Rattle.tc_stmt.specs.Items.{item_of}
use Rattle.tc_asm.proofs.AlikeDrafts.{step_counted}
use Rattle.tc_asm.proofs.draft.Draft.scan_other_item.Goals as goal

pub returns : goal.returns
returns c = λ d h. step_counted c.args.self.now d _ c.args.none.now (item_of c.args.item.now) c.requires.added c.requires.none c.in_ok-add_item.ensures h
