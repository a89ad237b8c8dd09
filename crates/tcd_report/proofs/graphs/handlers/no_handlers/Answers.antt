use Rattle.std.proofs.Common.{refl}
use Rattle.tcd_report.proofs.GraphLemmas.HandlerLaws.{none_known}
use Rattle.tcd_report.proofs.graphs.handlers.no_handlers.Goals as goal

pub returns : goal.returns
returns c plan = none_known plan _ refl refl c.new.ensures.items c.new-2.ensures.items
