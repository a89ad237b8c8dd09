-- The sections of a source hold bytes.
use Rattle.std.proofs.Common.{◌≡◌, ◌<◌, ◌≤◌, ◌+◌, ◌-◌, ◌*◌, ◌/◌, ◌%◌, ◌^◌, ◌==◌, ◌&&◌, not, ℕ, suc, Bool, true, false, cond, ltb, leb, min, List, [], ◌∷◌, ◌++◌, length, map, take, drop, replicate, Option, Some, None, Result, Ok, Err, refl, sym, subst, ◌∙◌, arith, lit<}
use Rattle.std.specs.Prelude.{All, IfSome, slice_get}
use Rattle.std.specs.Option.{option_map_or}
use Rattle.std.specs.List.{slice_split}
use Rattle.std.proofs.lemmas.Bool.{and_parts, eqb-true, eqb-false, ltb-true}
use Rattle.std.proofs.lemmas.List.Elements.{All-nil, All-cons, All-append, All-replicate, All-take}
use Rattle.tc_lex.specs.declared.kinds.Token.{Token}
use Rattle.tc_lex.specs.Cut.{tokens_of}
use Rattle.tc_isa.specs.declared.fields.Fields.{Fields}
use Rattle.tc_isa.specs.Rows.{RowData, table_rows, is_32_bit_row}
use Rattle.tc_isa.specs.Forms.{field_bounds}
use Rattle.tc_isa.specs.ValidRowFields.{IsRow}
use Rattle.tc_isa.specs.Spelling.{row_word, four_or_two_bytes, spelling}
use Rattle.tcd_base.specs.Bytes.{four_bytes, two_bytes}
use Rattle.tc_isa.proofs.TableFacts.{row_at}
use Rattle.tc_encode.proofs.Bytes.{word-lt, short-lt}
use Rattle.tc_encode.specs.Decoding.{decoded_fields_fit}
use Rattle.tc_encode.proofs.Spelled.{below_from}
use Rattle.tc_lex.specs.Pieces.{PieceData, token_text}
use Rattle.tc_lex.specs.Operands.{OperandData, operands_of_tokens}
use Rattle.tc_stmt.specs.RowFields.{RowFieldsData}
use Rattle.tc_stmt.specs.Items.{ReferenceData, ItemData, label, section, global, code, bytes, zeros}
use Rattle.tc_stmt.specs.Filling.{reference_from_value}
use Rattle.tc_stmt.specs.Names.{rule_broken_by_symbol}
use Rattle.tc_stmt.specs.OperandForms.{shape_index, is_symbol_operand, is_half_operand, operand_number_modulo}
use Rattle.tc_stmt.specs.DataValues.{is_value_within_width, rule_broken_by_value, value_item, space_item}
use Rattle.tc_stmt.specs.StatementRow.{row_of_statement}
use Rattle.tc_stmt.specs.Lines.{LineData, line_data, only_operand_name as name_operand, named_line, space_line, values_line, code_line, statement_line, line_from, has_label, line_with_label, tokens_line, line_token_with_text, label_of, label_of_text, meaning_of_cut_line, line_of_text, lines_in, items_in}
use Rattle.tc_asm.specs.Symbols.{SymbolData}
use Rattle.tc_asm.specs.Drafts.{DraftSectionData, DraftData, empty_draft, has_current_section, has_room, assembled_row_code, row_fields_with_target, code_bytes, draft_after_item, draft_section_bytes_at}
use Rattle.tc_asm.specs.DraftedSources.{symbols_of_lines, draft_in}
use Rattle.tc_asm.specs.Objects.{section_of}
use Rattle.tc_asm.specs.DraftInvariants.{EachInDraft}
use Rattle.tc_asm.specs.Statements.{StatementData, statement_of_item, statement_if_room, statements_from, section_bytes}
use Rattle.tc_asm.proofs.LaidLaws.{drafted-bytes}
use Rattle.tc_asm.proofs.ListLaws.{all_from_each}
use Rattle.tc_asm.proofs.SourceDrafts.{source_object}
use Rattle.tcd_laws.specs.LimitsKept.{IsByte, SectionHoldsBytes, SourcesGiveObjects}

-- ---- numbers as bytes
four_small : (w : ℕ) → w < 2 ^ 32 → All IsByte (four_bytes w)
four_small w h =
    let a : w % 256 < 2 ^ 8 = omega arith in
    let b : w / 2 ^ 8 % 256 < 2 ^ 8 = omega arith in
    let c : w / 2 ^ 16 % 256 < 2 ^ 8 = omega arith in
    let d : w / 2 ^ 24 < 2 ^ 8 = omega arith in
    all_from_each IsByte (four_bytes w) (a, (b, (c, (d, tt))))

two_small : (w : ℕ) → w < 2 ^ 16 → All IsByte (two_bytes w)
two_small w h =
    let a : w % 256 < 2 ^ 8 = omega arith in
    let b : w / 256 < 2 ^ 8 = omega arith in
    all_from_each IsByte (two_bytes w) (a, (b, tt))

zero_small : IsByte 0
zero_small = lit< tt

zeros_small : (n : ℕ) → All IsByte (replicate n 0)
zeros_small n = All-replicate IsByte n 0 zero_small

no_word : All IsByte (0 ∷ 0 ∷ 0 ∷ 0 ∷ [])
no_word = all_from_each IsByte (0 ∷ 0 ∷ 0 ∷ 0 ∷ []) (zero_small, (zero_small, (zero_small, (zero_small, tt))))

-- ---- instructions
spelled_small : (row : RowData) (f : Fields) → IsRow row → All IsByte (assembled_row_code row f)
unfolding assembled_row_code
spelled_small row f is = by_fit (decoded_fields_fit row f) refl
  where
    by_size : decoded_fields_fit row f ≡ true → (b : Bool) → is_32_bit_row row ≡ b → All IsByte (four_or_two_bytes b (row_word row f))
    by_size fit true e = four_small (row_word row f) (word-lt row.form row.op1 row.op2 f is.first is.second (below_from f (field_bounds row.form) (and_parts _ _ (and_parts _ _ fit).0).0))
    by_size fit false e =
        two_small (row_word row f)
        (short-lt row.form row.op1 row.op2 f is.first is.second (below_from f (field_bounds row.form) (and_parts _ _ (and_parts _ _ fit).0).0) (sym is.size ∙ e))

    by_fit : (b : Bool) → decoded_fields_fit row f ≡ b → All IsByte (cond b (spelling row f) [])
    by_fit true fit = by_size fit (is_32_bit_row row) refl
    by_fit false fit = All-nil IsByte

row_small : (o : Option RowData) (k : ℕ) (f : Fields) → slice_get table_rows k ≡ o → All IsByte (option_map_or (λ row. assembled_row_code row f) o [])
row_small None k f e = All-nil IsByte
row_small (Some row) k f e = spelled_small row f (row_at k row e)

code_small : (labels : List SymbolData) (d : DraftData) (k : ℕ) (f : Fields) (r : Option ReferenceData) → All IsByte (code_bytes labels d k f r)
unfolding code_bytes
code_small labels d k f r = row_small (slice_get table_rows k) k (row_fields_with_target labels d k f r).fields refl

-- ---- what lines add
-- a thing that adds bytes
GoodItem : ItemData → Type 0
GoodItem (bytes bs r) = All IsByte bs
GoodItem _ = Unit {0}

GoodLine : LineData → Type 0
GoodLine l = EachInDraft GoodItem l.items

choose : (b : Bool) (x y : LineData) → GoodLine x → GoodLine y → GoodLine (cond b x y)
choose true x y h k = h
choose false x y h k = k

-- a number that fits a width is a word
wrapped_small : (bound : ℕ) (minus : Bool) (size : ℕ) → bound ≤ 2 ^ 32 → cond minus (leb size (bound / 2)) (ltb size bound) ≡ true → operand_number_modulo (2 ^ 32) minus size < 2 ^ 32
wrapped_small bound true size most e = by_zero (size == 0) refl
  where
    by_zero : (b : Bool) → (size == 0) ≡ b → cond (not b) (2 ^ 32 - size) size < 2 ^ 32
    by_zero true z = let none : size ≡ 0 = eqb-true size 0 z in omega arith
    by_zero false z = let some = eqb-false size 0 z in omega arith
wrapped_small bound false size most e = let less : size < bound = ltb-true size bound e in omega arith

rest_good : (width : ℕ) (r : ReferenceData) (b : Bool) → GoodItem (cond (not b) (zeros width) (bytes (take width (0 ∷ 0 ∷ 0 ∷ 0 ∷ [])) (Some r)))
unfolding GoodItem
rest_good width r true = All-take IsByte width (0 ∷ 0 ∷ 0 ∷ 0 ∷ []) no_word
rest_good width r false = tt

value_good : (width : ℕ) (minus : Bool) (size rest : ℕ) (r : ReferenceData) (memory one fits : Bool) → (fits ≡ true → operand_number_modulo (2 ^ 32) minus size < 2 ^ 32)
    → GoodItem (cond (not (cond memory 3 (cond one (cond fits 15 5) rest) == 15)) (zeros width) (cond one (bytes (take width (four_bytes (operand_number_modulo (2 ^ 32) minus size))) None) (bytes (take width (0 ∷ 0 ∷ 0 ∷ 0 ∷ [])) (Some r))))
unfolding GoodItem
value_good width minus size rest r true one fits small = tt
value_good width minus size rest r false true true small = All-take IsByte width (four_bytes (operand_number_modulo (2 ^ 32) minus size)) (four_small (operand_number_modulo (2 ^ 32) minus size) (small refl))
value_good width minus size rest r false true false small = tt
value_good width minus size rest r false false fits small = rest_good width r (rest == 15)

value_item_good : (width : ℕ) → 2 ^ (8 * width) ≤ 2 ^ 32 → (o : OperandData) → GoodItem (value_item width o)
unfolding value_item rule_broken_by_value
value_item_good width most o =
    value_good width (o.value).minus (o.value).size
    (cond (shape_index (o.value).shape == 7) 5
    (cond (is_symbol_operand (shape_index (o.value).shape)) (cond (width == 4) (rule_broken_by_symbol o.value) (min 10 (rule_broken_by_symbol o.value)))
    (cond (is_half_operand (shape_index (o.value).shape)) (min 10 (rule_broken_by_symbol o.value)) 3)))
    (reference_from_value 7 o.value) o.is_memory (shape_index (o.value).shape == 1) (is_value_within_width (8 * width) (o.value).minus (o.value).size)
    (wrapped_small (2 ^ (8 * width)) (o.value).minus (o.value).size most)

values_good : (width : ℕ) → 2 ^ (8 * width) ≤ 2 ^ 32 → (os : List OperandData) → EachInDraft GoodItem (map (value_item width) os)
values_good width most [] = tt
values_good width most (o ∷ os) = (value_item_good width most o, values_good width most os)

values_line_good : (width : ℕ) → 2 ^ (8 * width) ≤ 2 ^ 32 → (os : List OperandData) → GoodLine (values_line width os)
unfolding GoodLine values_line
values_line_good width most os = values_good width most os

named_good : (make : List ℕ → ItemData) → ((name : List ℕ) → GoodItem (make name)) → (os : List OperandData) → GoodLine (named_line make os)
unfolding GoodLine named_line
named_good make good os = by_name (name_operand os)
  where
    by_name : (o : Option (List ℕ)) → GoodLine (option_map_or (λ name. line_data 15 (make name ∷ [])) o (line_data 3 []))
    by_name None = tt
    by_name (Some name) = (good name, tt)

space_good : (os : List OperandData) → GoodLine (space_line os)
unfolding GoodItem GoodLine space_line space_item
space_good [] = (tt, tt)
space_good (o ∷ []) = (tt, tt)
space_good (o ∷ p ∷ os) = (tt, tt)

code_good : (name : List ℕ) (r : Result (ℕ × RowFieldsData) ℕ) → GoodLine (code_line name r)
unfolding GoodItem GoodLine
code_good name (Ok found) = (tt, tt)
code_good name (Err rule) = (tt, tt)

section_good : (name : List ℕ) → GoodItem (section name)
unfolding GoodItem
section_good name = tt

global_good : (name : List ℕ) → GoodItem (global name)
unfolding GoodItem
global_good name = tt

no_items : (rule : ℕ) → GoodLine (line_data rule [])
unfolding GoodLine
no_items rule = tt

label_line_good : (name : List ℕ) (l : LineData) → GoodLine l → GoodLine (line_with_label name l)
unfolding GoodItem GoodLine
label_line_good name l h = (tt, h)

stated_good : (name : List ℕ) (os : List OperandData) → GoodLine (statement_line name os)
unfolding statement_line
stated_good name os =
    choose _ _ _ (named_good section section_good os)
    (choose _ _ _ (named_good global global_good os)
    (choose _ _ _ (values_line_good 1 (omega arith) os)
    (choose _ _ _ (values_line_good 2 (omega arith) os)
    (choose _ _ _ (values_line_good 4 (omega arith) os)
    (choose _ _ _ (space_good os) (code_good name (row_of_statement name os)))))))

from_good : (ps : List PieceData) (at : ℕ) → GoodLine (line_from ps at)
unfolding line_from
from_good ps at = choose _ _ _ (no_items 15) (choose _ _ _ (stated_good (token_text ps at) (operands_of_tokens (drop (at + 1) ps))) (no_items 1))

pieces_good : (ps : List PieceData) → GoodLine (tokens_line ps)
unfolding tokens_line
pieces_good ps = choose _ _ _ (label_line_good (token_text ps 0) (line_from ps 2) (from_good ps 2)) (from_good ps 0)

label_good : (ps : List PieceData) → EachInDraft GoodItem (label_of ps)
unfolding GoodItem label_of
label_good ps = by_label (has_label ps)
  where
    by_label : (b : Bool) → EachInDraft GoodItem (cond b (label (token_text ps 0) ∷ []) [])
    by_label true = (tt, tt)
    by_label false = tt

before_good : (text : List ℕ) (r : Result (List Token) ℕ) → EachInDraft GoodItem (label_of_text text r)
before_good text (Ok ts) = label_good (map (line_token_with_text text) ts)
before_good text (Err at) = tt

cut_good : (line : List ℕ) (r : Result (List Token) ℕ) → GoodLine (meaning_of_cut_line line r)
unfolding GoodLine
cut_good line (Ok ts) = pieces_good (map (line_token_with_text line) ts)
cut_good line (Err at) = before_good (take at line) (tokens_of (take at line))

each_both : {A : Type 0} (P : A → Type 0) (xs ys : List A) → EachInDraft P xs → EachInDraft P ys → EachInDraft P (xs ++ ys)
each_both P [] ys h k = k
each_both P (x ∷ xs) ys h k = (h.0, each_both P xs ys h.1 k)

lines_good : (ls : List (List ℕ)) → EachInDraft GoodItem (items_in (map line_of_text ls))
unfolding GoodLine
lines_good [] = tt
lines_good (l ∷ ls) = each_both GoodItem (line_of_text l).items (items_in (map line_of_text ls)) (cut_good l (tokens_of l)) (lines_good ls)

-- ---- statements
abbrev GoodStatement : StatementData → Type 0
GoodStatement t = All IsByte t.bytes

content_good : (labels : List SymbolData) (d : DraftData) (i : ItemData) → GoodItem i → IfSome (statement_of_item labels d i) GoodStatement
unfolding GoodItem
content_good labels d (code k f r) h = code_small labels d k f r
content_good labels d (bytes bs r) h = h
content_good labels d (zeros n) h = zeros_small n
content_good labels d _ h = tt

standing_good : (d : DraftData) (o : Option StatementData) → IfSome o GoodStatement → EachInDraft GoodStatement (statement_if_room d o)
standing_good d None h = tt
standing_good d (Some t) h = by_room (has_current_section d && has_room d (length t.bytes))
  where
    by_room : (b : Bool) → EachInDraft GoodStatement (cond b (t ∷ []) [])
    by_room true = (h, tt)
    by_room false = tt

statements_good : (labels : List SymbolData) (d : DraftData) (is : List ItemData) → EachInDraft GoodItem is → EachInDraft GoodStatement (statements_from labels d is)
statements_good labels d [] h = tt
statements_good labels d (i ∷ is) h =
    each_both GoodStatement (statement_if_room d (statement_of_item labels d i)) (statements_from labels (draft_after_item labels d i) is) (standing_good d (statement_of_item labels d i) (content_good labels d i h.0))
    (statements_good labels (draft_after_item labels d i) is h.1)

section_small : (s : ℕ) (ts : List StatementData) → EachInDraft GoodStatement ts → All IsByte (section_bytes s ts)
section_small s [] h = All-nil IsByte
section_small s (t ∷ ts) h = All-append IsByte (cond (t.section == s) t.bytes []) (section_bytes s ts) (by_section (t.section == s)) (section_small s ts h.1)
  where
    by_section : (b : Bool) → All IsByte (cond b t.bytes [])
    by_section true = h.0
    by_section false = All-nil IsByte

-- ---- sections
parts_small : (ps : List DraftSectionData) → ((s : ℕ) → All IsByte (draft_section_bytes_at ps s)) → All SectionHoldsBytes (map section_of ps)
parts_small [] h = All-nil SectionHoldsBytes
parts_small (p ∷ ps) h = All-cons SectionHoldsBytes (section_of p) (map section_of ps) (h 0) (parts_small ps (λ s. h (suc s)))

source_bytes : (source : List ℕ) (s : ℕ) → All IsByte (draft_section_bytes_at (draft_in source).parts s)
source_bytes source s =
    let labels : List SymbolData = symbols_of_lines (lines_in source) in
    subst (λ (bs : List ℕ). All IsByte bs) (sym (drafted-bytes labels (lines_in source) s))
    (section_small s (statements_from labels empty_draft (items_in (lines_in source))) (statements_good labels empty_draft (items_in (lines_in source)) (lines_good (slice_split (λ c. c == 10) source))))

pub sources_give_objects : SourcesGiveObjects
sources_give_objects source keeps = record { object = source_object source keeps; bytes = parts_small (draft_in source).parts (source_bytes source) }
