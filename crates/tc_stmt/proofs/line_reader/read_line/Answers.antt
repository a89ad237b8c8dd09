use Rattle.std.proofs.Common.{◌≡◌, ◌++◌, ◌∙◌, List, length, map, ap, sym, arith, length-append, append-nil}
use Rattle.std.proofs.lemmas.Bool.Decides.{nat_tests}
use Rattle.std.proofs.lemmas.List.{length-map}
use Rattle.tc_stmt.specs.Items.{ItemData, item_of}
use Rattle.tc_stmt.specs.Lines.{LineData, line_of_text}
use Rattle.tc_stmt.proofs.FewItems.{line_few}
use Rattle.tc_stmt.proofs.PieceLines.{empty_line}
use Rattle.tc_stmt.proofs.line_reader.read_line.Goals as goal

pub overflow_cast-count : goal.overflow_cast-count
overflow_cast-count c =
    let old = c.args.items.now.items in
    let new = c.read_line_items.new.items.items in
    omega (arith, line_few c.args.line.now, ap (λ (l : LineData). length l.items) c.in_ok-rule.ensures, length-append (map item_of old) (line_of_text c.args.line.now).items, length-map old item_of, length-map new item_of, c.args.items.now.ok.0, c.read_line_items.new.items.ok.0)

pub returns-then-is_empty-clause-rule : goal.returns-then-is_empty-clause-rule
returns-then-is_empty-clause-rule c =
    let empty : length c.args.line.now ≡ 0 = grind (arith, nat_tests) in
    sym (ap (λ (l : LineData). l.rule) (empty_line c.args.line.now empty))

pub returns-then-is_empty-clause-count : goal.returns-then-is_empty-clause-count
returns-then-is_empty-clause-count c =
    let empty : length c.args.line.now ≡ 0 = grind (arith, nat_tests) in
    sym (ap (λ (l : LineData). length l.items) (empty_line c.args.line.now empty))

pub returns-then-is_empty-clause-items : goal.returns-then-is_empty-clause-items
returns-then-is_empty-clause-items c =
    let empty : length c.args.line.now ≡ 0 = grind (arith, nat_tests) in
    let old : List ItemData = map item_of c.args.items.now.items in
    sym (ap (λ (l : LineData). old ++ l.items) (empty_line c.args.line.now empty) ∙ append-nil old)
