-- Names of rows: words that are no directives.
use Rattle.std.proofs.Common.{◌≡◌, ◌≤◌, ◌&&◌, ◌||◌, ℕ, zero, suc, Bool, true, false, cond, List, [], ◌∷◌, length, Some, refl, ap, sym, ◌∙◌, arith}
use Rattle.std.proofs.lemmas.Bool.{and_parts}
use Rattle.std.specs.Prelude.{slice_get, nat_le, not, codes}
use Rattle.std.specs.List.{list_all}
use Rattle.std.specs.Str.{bytes_eq}
use Rattle.std.proofs.lemmas.Bool.Decides.{nat_tests}
use Rattle.tcd_base.specs.NameBytes.{is_name_byte, is_name_start}
use Rattle.tc_lex.specs.Bytes.{is_digit}
use Rattle.tc_lex.specs.Texts.{is_run}
use Rattle.tc_isa.specs.Rows.{RowData, table_rows}
use Rattle.tc_stmt.specs.Wants.{wants_of, want_of}
use Rattle.tc_lex.specs.Operands.{OperandData}
use Rattle.tc_stmt.specs.StatementRow.{row_of_statement}
use Rattle.tc_stmt.specs.Items.{section, global}
use Rattle.tc_stmt.specs.Lines.{LineData, named_line, values_line, space_line, code_line, statement_line}
use Rattle.tc_disasm.proofs.Decimals.{some_is}

abbrev pub is_directive : List ℕ → Bool
is_directive name =
    bytes_eq name (codes ".section") || (bytes_eq name (codes ".global") || (bytes_eq name (codes ".byte") || (bytes_eq name (codes ".half") || (bytes_eq name (codes ".word") || bytes_eq name (codes ".space")))))

abbrev is_mnemonic : RowData → Bool
is_mnemonic r = (is_run is_name_start is_name_byte r.name && not (is_directive r.name)) && (nat_le (length r.name) 16 && nat_le (length (wants_of r)) 4)

rows_named : list_all is_mnemonic table_rows ≡ true
unfolding wants_of want_of is_name_start is_name_byte is_digit
rows_named = refl

all_at : (p : RowData → Bool) (rows : List RowData) (k : ℕ) (r : RowData) → list_all p rows ≡ true → slice_get rows k ≡ Some r → p r ≡ true
all_at p [] k r e at = cc
all_at p (x ∷ xs) zero r e at = ap p (sym (some_is x r at)) ∙ (and_parts (p x) (list_all p xs) e).0
all_at p (x ∷ xs) (suc k) r e at = all_at p xs k r (and_parts (p x) (list_all p xs) e).1 at

-- facts of a row's name, and the number of its operands
pub record Named (r : RowData) : Type 0 where
  pub word : is_run is_name_start is_name_byte r.name ≡ true
  pub other : is_directive r.name ≡ false
  pub short : length r.name ≤ 16
  pub few : length (wants_of r) ≤ 4

pub named_at : (k : ℕ) (r : RowData) → slice_get table_rows k ≡ Some r → Named r
named_at k r at =
    let all = and_parts (is_run is_name_start is_name_byte r.name && not (is_directive r.name)) (nat_le (length r.name) 16 && nat_le (length (wants_of r)) 4) (all_at is_mnemonic table_rows k r rows_named at) in
    let first = and_parts (is_run is_name_start is_name_byte r.name) (not (is_directive r.name)) all.0 in
    let second = and_parts (nat_le (length r.name) 16) (nat_le (length (wants_of r)) 4) all.1 in
    record { word = first.0; other = turned (is_directive r.name) first.1; short = at_most (length r.name) 16 second.0; few = at_most (length (wants_of r)) 4 second.1 }
  where
    turned : (b : Bool) → not b ≡ true → b ≡ false
    turned true e = cc
    turned false e = refl

    at_most : (a b : ℕ) → nat_le a b ≡ true → a ≤ b
    at_most a b e = grind (arith, nat_tests)

-- a statement of such a name is an instruction
none_of : (a b c d e g : Bool) (l m n o p q r : LineData) → (a || (b || (c || (d || (e || g))))) ≡ false → cond a l (cond b m (cond c n (cond d o (cond e p (cond g q r))))) ≡ r
none_of false false false false false false l m n o p q r h = refl
none_of true b c d e g l m n o p q r h = cc
none_of false true c d e g l m n o p q r h = cc
none_of false false true d e g l m n o p q r h = cc
none_of false false false true e g l m n o p q r h = cc
none_of false false false false true g l m n o p q r h = cc
none_of false false false false false true l m n o p q r h = cc

pub stated_line-other : (name : List ℕ) (os : List OperandData) → is_directive name ≡ false → statement_line name os ≡ code_line name (row_of_statement name os)
unfolding statement_line
stated_line-other name os e =
    none_of (bytes_eq name (codes ".section")) (bytes_eq name (codes ".global")) (bytes_eq name (codes ".byte")) (bytes_eq name (codes ".half")) (bytes_eq name (codes ".word")) (bytes_eq name (codes ".space"))
    (named_line section os) (named_line global os) (values_line 1 os) (values_line 2 os) (values_line 4 os) (space_line os) (code_line name (row_of_statement name os)) e
