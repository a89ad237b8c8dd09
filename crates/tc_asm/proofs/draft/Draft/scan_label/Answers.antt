use Rattle.tc_asm.proofs.AlikeDrafts.{label_counted}
use Rattle.tc_asm.proofs.draft.Draft.scan_label.Goals as goal

pub returns-clause-alike : goal.returns-clause-alike
returns-clause-alike c = λ d h. label_counted c.args.self.now d _ c.args.name.now c.in_ok-new.ensures.draft h
