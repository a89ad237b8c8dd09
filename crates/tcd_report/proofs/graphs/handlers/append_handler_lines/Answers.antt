use Rattle.std.proofs.Common.{◌∙◌, ℕ, List, get_or, ◌<◌, ◌^◌, sym, subst}
use Rattle.std.specs.Str.{IsAscii}
use Rattle.tcd_report.proofs.GraphLemmas.LineEnds.{lines_ascii, on_text}
use Rattle.tcd_report.proofs.graphs.handlers.append_handler_lines.Goals as goal

pub append_ascii-requires : goal.append_ascii-requires
append_ascii-requires c =
    subst IsAscii (sym (c.deref-2.ensures.value ∙ c.requires.lines))
    (lines_ascii c.args.front.now (c.args.known.now).entries.items c.requires.ascii (subst (λ (l : List ℕ). (k : ℕ) → get_or l k 0 < 2 ^ 32) c.deref.ensures.value c.handler_entries_fit_words.ensures))

pub returns : goal.returns
returns c = on_text c.append_ascii.result _ _ _ _ (c.deref-2.ensures.value ∙ c.requires.lines) c.append_ascii.ensures
