use Rattle.std.proofs.lemmas.Result.{on_ok_weaker}
use Rattle.std.proofs.Common.{◌≡◌, ◌∙◌, ◌++◌, ◌∷◌, [], List, ℕ, ap, sym, subst, string_bytes, refl, arith}
use Rattle.depth_cert.specs.Points.{point_of}
use Rattle.std.specs.Str.{IsAscii}
use Rattle.tcd_text.specs.HexNumbers.{hex_word}
use Rattle.std.specs.Prelude.{codes}
use Rattle.tcd_report.specs.declared.graphs.edges.Edges.{Edges}
use Rattle.tcd_report.specs.Graphs.{AreEdges, point_line_prefix, lines_to, edge_lines_text, return_line_text}
use Rattle.tcd_report.specs.Judging.{duties_at}
use Rattle.tcd_report.proofs.GraphLemmas.KeyTexts.{line_front_ascii}
use Rattle.tcd_report.proofs.GraphLemmas.GraphTexts.{point_lines}
use Rattle.tcd_report.proofs.graphs.graph_text.append_point_lines.Goals as goal

pub append_edges-requires-clause-ascii : goal.append_edges-requires-clause-ascii
append_edges-requires-clause-ascii c =
    let front_is : c.as_str-3.result.now ≡ point_line_prefix c.args.key.now c.args.addr =
    c.as_str-3.ensures.value ∙ c.in_ok-set_point_line_prefix.ensures ∙ ap (λ l. l ++ (hex_word c.args.addr ++ 32 ∷ [])) (c.as_str.ensures.value ∙ c.requires.front) in
    subst IsAscii (sym front_is) (line_front_ascii c.args.key.now c.args.addr (omega arith) c.requires.ascii)

pub append_edges-requires-clause-handlers : goal.append_edges-requires-clause-handlers
append_edges-requires-clause-handlers c =
    c.in_ok-set_handler_line_prefix.ensures.lines ∙ ap (λ front. lines_to front (codes "irq ") (c.set_handler_line_prefix.new.known).entries.items) (c.as_str-2.ensures.value ∙ sym c.as_str-3.ensures.value)

pub returns-clause-lines : goal.returns-clause-lines
returns-clause-lines c =
    let j = c.args.judged.now in
    let key = c.args.key.now in
    let before : List ℕ = string_bytes c.args.graph.now.text in
    let text : List ℕ = string_bytes c.append_edges.new.text in
    let found = c.in_ok-find_edges.ensures.edges in
    let ways : Edges = record c.find_edges.new.ways { irq = c.set_handler_line_prefix.new.known } in
    let are : AreEdges j.cert.now (duties_at j key (point_of c.args.addr c.args.s.now) c.in-Some.found) ways =
    record { to = found.to; call = found.call; back = found.back; sys = found.sys; aln = found.aln; irq = c.in_ok-set_handler_line_prefix.ensures.entries ∙ found.irq } in
    let front_is : string_bytes c.set_point_line_prefix.new.front ≡ point_line_prefix key c.args.addr =
    c.in_ok-set_point_line_prefix.ensures ∙ ap (λ l. l ++ (hex_word c.args.addr ++ 32 ∷ [])) (c.as_str.ensures.value ∙ c.requires.front) in
    on_ok_weaker c.append_ret_line.result
    (λ whole.
    point_lines j.image.now j.plan.now j.cert.now key (point_of c.args.addr c.args.s.now) c.in-Some.found.shape c.in-Some.found.size j.bounds.now ways before text (string_bytes c.append_ret_line.new.text)
    c.requires.judged.limits c.in-Some.ensures.code are
    (c.in_ok-append_edges.ensures ∙ ap (λ l. before ++ edge_lines_text l ways) (c.as_str-3.ensures.value ∙ front_is))
    (whole ∙ ap (λ l. text ++ return_line_text l c.in-Some.found.shape) (c.as_str-4.ensures.value ∙ front_is)))
    c.append_ret_line.ensures

pub returns-clause-front : goal.returns-clause-front
returns-clause-front c = on_ok_weaker c.append_ret_line.result (λ whole. c.requires.front) c.append_ret_line.ensures

pub returns-clause-handlers : goal.returns-clause-handlers
returns-clause-handlers c = on_ok_weaker c.append_ret_line.result (λ whole. c.in_ok-set_handler_line_prefix.ensures.known c.args.judged.now.plan.now c.in_ok-find_edges.ensures.handlers) c.append_ret_line.ensures

pub unreachable-requires : goal.unreachable-requires
unreachable-requires c = c.in_default.ensures.code ((c.requires.faultless 3).code refl)
