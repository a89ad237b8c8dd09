use Rattle.std.proofs.Common.{◌∙◌, ap, refl}
use Rattle.std.specs.Prelude.{codes}
use Rattle.std.proofs.lemmas.Result.{on_ok_weaker}
use Rattle.tcd_report.specs.Graphs.{lines_to}
use Rattle.tcd_report.proofs.graphs.handlers.set_handler_line_prefix.Goals as goal

pub returns-clause-known : goal.returns-clause-known
returns-clause-known c =
    let front = c.args.front.now in
    on_ok_weaker c.make_handler_lines.result
    (λ lines plan known. record {
      entries = known.entries;
      lines = record { front = front; sized = refl; are = lines ∙ ap (lines_to front (codes "irq ")) c.deref-2.ensures.value };
    })
    c.make_handler_lines.ensures
