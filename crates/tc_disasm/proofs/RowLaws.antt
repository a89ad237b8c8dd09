-- The row of an instruction, in the program's tables.
use Rattle.std.proofs.Common.{◌≡◌, ◌<◌, ℕ, List, [], map, length, get_or, ap, sym, ◌∙◌, arith}
use Rattle.std.specs.Prelude.{Option}
use Rattle.std.specs.Option.{option_map_or}
use Rattle.std.specs.Borrow.{Bor}
use Rattle.tc_isa.specs.declared.table.Row.{Row}
use Rattle.tc_isa.specs.Rows.{RowData, row_of, table_rows}
use Rattle.tc_isa.specs.Insts.{InstData, IsInst, inst_fields}
use Rattle.tc_isa.proofs.Made.{row_of_inst}
use Rattle.tc_stmt.specs.declared.want.Want.{Want}
use Rattle.tc_stmt.specs.Wants.{wants_of, row_wants_now}
use Rattle.tc_stmt.proofs.Places.{long_wants}
use Rattle.tc_disasm.specs.Texts.{row_text, instruction_text}

pub wants_listed : (rows : List Row) (wants : List (Bor (List Want))) → map row_of rows ≡ table_rows → map row_wants_now wants ≡ map wants_of table_rows → map row_wants_now wants ≡ map wants_of (map row_of rows)
wants_listed rows wants are e = e ∙ ap (map wants_of) (sym are)

pub wants_within : (rows : List Row) (wants : List (Bor (List Want))) (p : ℕ) → map row_of rows ≡ table_rows → map row_wants_now wants ≡ map wants_of table_rows → p < length rows → p < length wants
wants_within rows wants p are e h = let same = long_wants rows wants (wants_listed rows wants are e) in omega (arith, same)

pub text_here : (rows : List Row) (p : ℕ) (d : Row) (i : InstData) → IsInst i → map row_of rows ≡ table_rows → p ≡ i.row → row_text (row_of (get_or rows p d)) (inst_fields i) ≡ instruction_text i
unfolding instruction_text
text_here rows p d i is are same =
    ap (λ r. row_text r (inst_fields i)) (sym (row_of_inst rows p d i is are same))
    ∙ sym (ap (λ (o : Option RowData). option_map_or (λ r. row_text r (inst_fields i)) o []) is.at)
