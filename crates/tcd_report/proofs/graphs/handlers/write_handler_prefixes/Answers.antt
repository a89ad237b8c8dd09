use Rattle.std.proofs.Common.{◌+◌, ◌*◌, ◌∙◌, ℕ, List, length, ap}
use Rattle.tcd_report.proofs.GraphLemmas.LineEnds.{lines_size, front_more, next_place, no_place, all_written}
use Rattle.tcd_report.proofs.graphs.handlers.write_handler_prefixes.Goals as goal

pub loop-init : goal.loop-init
loop-init c =
    let entries : List ℕ = c.args.entries.now in
    record {
      place = no_place (length c.args.front.now + 13);
      size = ap length c.requires.are ∙ lines_size c.requires.front entries ∙ ap (λ n. length entries * (n + 13)) c.requires.sized;
      old = c.requires.front;
      sized = c.requires.sized;
      are = c.requires.are;
    }

pub loop-preserved : goal.loop-preserved
loop-preserved c =
    let inv = c.loop.invariant in
    record {
      place = ap (λ n. n + (length c.args.front.now + 13)) inv.place ∙ next_place c.loop.counter (length c.args.front.now + 13);
      size = c.write_handler_prefix.auto.lines ∙ inv.size;
      old = inv.old;
      sized = inv.sized;
      are = c.write_handler_prefix.ensures ∙ front_more c.args.front.now inv.old c.args.entries.now c.loop.lines c.loop.counter c.loop.at inv.sized inv.place c.loop-test.true inv.are;
    }

pub returns : goal.returns
returns c =
    let inv = c.loop.invariant in
    inv.are ∙ all_written c.args.front.now inv.old c.args.entries.now c.loop.counter c.loop-test.false
