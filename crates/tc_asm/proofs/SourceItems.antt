-- The items of a source: fields of instructions fit their rows, and symbols fit their bytes.
use Rattle.std.proofs.Common.{◌≡◌, ◌+◌, ◌*◌, ◌^◌, ◌&&◌, ◌||◌, ◌==◌, min, ℕ, Bool, true, false, cond, List, [], ◌∷◌, ◌++◌, length, take, drop, map, Option, Some, None, Result, Ok, Err, refl, sym, ap, ◌∙◌}
use Rattle.std.specs.Prelude.{nat_le, not, codes}
use Rattle.std.specs.List.{slice_split}
use Rattle.std.specs.Option.{option_map_or}
use Rattle.std.specs.Str.{bytes_eq}
use Rattle.std.proofs.lemmas.Bool.Decides.{Decides-eqb}
use Rattle.tc_lex.specs.declared.kinds.Token.{Token}
use Rattle.tc_lex.specs.declared.kinds.TokenKind.TheVariants as kind
use Rattle.tc_lex.specs.Cut.{tokens_of}
use Rattle.tcd_base.specs.Bytes.{four_bytes}
use Rattle.tc_stmt.specs.Names.{is_source_name, rule_broken_by_symbol}
use Rattle.tc_lex.specs.Pieces.{PieceData, is_token_kind, token_text}
use Rattle.tc_lex.specs.Operands.{OperandData, operands_of_tokens}
use Rattle.tc_stmt.specs.RowFields.{RowFieldsData}
use Rattle.tc_stmt.specs.Items.{ReferenceData, ItemData, section, global, bytes, zeros}
use Rattle.tc_stmt.specs.Filling.{reference_from_value}
use Rattle.tc_stmt.specs.OperandForms.{shape_index, is_symbol_operand, is_half_operand, operand_number_modulo}
use Rattle.tc_stmt.specs.DataValues.{is_value_within_width, rule_broken_by_value, value_item, space_item}
use Rattle.tc_stmt.specs.StatementRow.{row_of_statement}
use Rattle.tc_stmt.specs.Lines.{LineData, line_data, only_operand_name, named_line, space_line, values_line, code_line, statement_line, line_from, tokens_line, line_token_with_text, label_of, label_of_text, meaning_of_cut_line, line_of_text, lines_in, items_in}
use Rattle.tc_asm.specs.ItemInvariants.{IsDataOfSomeLine, IsItemOfSomeLine}
use Rattle.tc_asm.specs.DraftInvariants.{EachInDraft}
use Rattle.tc_stmt.proofs.Cases.{by_test}
use Rattle.tc_stmt.specs.StatedRows.{IsRowOfStatement}
use Rattle.tc_stmt.proofs.StatedRows.{stated}

-- ---- a line
record Are (l : LineData) : Type 0 where
  items : EachInDraft IsItemOfSomeLine l.items

-- ---- values
symbol_value : (width : ℕ) (o : OperandData) → (rule_broken_by_value width o == 15) ≡ true → (shape_index o.value.shape == 1) ≡ false → (width ≡ 4) × (is_source_name o.value.name ≡ true)
unfolding rule_broken_by_value rule_broken_by_symbol
symbol_value width o e other =
    by o.is_memory (shape_index o.value.shape == 1) (shape_index o.value.shape == 7) (is_symbol_operand (shape_index o.value.shape)) (is_half_operand (shape_index o.value.shape)) (width == 4) (o.value.wide || nat_le (2 ^ 32) o.value.size) (is_source_name o.value.name)
    (is_value_within_width (8 * width) o.value.minus o.value.size) refl refl other e
  where
    by : (memory number huge symbol half four big name fits : Bool) → (width == 4) ≡ four → is_source_name o.value.name ≡ name → number ≡ false
        → (cond memory 3 (cond number (cond fits 15 5) (cond huge 5 (cond symbol (cond four (cond big 5 (cond name 15 9)) (min 10 (cond big 5 (cond name 15 9)))) (cond half (min 10 (cond big 5 (cond name 15 9))) 3)))) == 15) ≡ true
        → (width ≡ 4) × (is_source_name o.value.name ≡ true)
    by true number huge symbol half four big name fits w n f e = cc
    by false true huge symbol half four big name fits w n f e = cc
    by false false true symbol half four big name fits w n f e = cc
    by false false false true half true false true fits w n f e = ((Decides-eqb width 4).0 w, n)
    by false false false true half true false false fits w n f e = cc
    by false false false true half true true name fits w n f e = cc
    by false false false true half false true name fits w n f e = cc
    by false false false true half false false true fits w n f e = cc
    by false false false true half false false false fits w n f e = cc
    by false false false false true four true name fits w n f e = cc
    by false false false false true four false true fits w n f e = cc
    by false false false false true four false false fits w n f e = cc
    by false false false false false four big name fits w n f e = cc

plain_good : (bs : List ℕ) → IsDataOfSomeLine bs None
plain_good bs = record { good = record { named = λ r e. cc; four = λ e. cc }; kind = λ r e. cc; zero = λ r e. cc }

value_is : (width : ℕ) (o : OperandData) → IsItemOfSomeLine (value_item width o)
unfolding value_item
value_is width o = by (rule_broken_by_value width o == 15) (shape_index o.value.shape == 1) refl refl
  where
    four_zeros : (n : ℕ) → n ≡ 4 → length {A = ℕ} (take n (0 ∷ 0 ∷ 0 ∷ 0 ∷ [])) ≡ 4
    four_zeros n e = ap (λ k. length {A = ℕ} (take k (0 ∷ 0 ∷ 0 ∷ 0 ∷ []))) e

    given : (r : ReferenceData) → ◌≡◌ {A = Option ReferenceData} (Some (reference_from_value 7 o.value)) (Some r) → reference_from_value 7 o.value ≡ r
    given r e = cc

    by : (fits number : Bool) → (rule_broken_by_value width o == 15) ≡ fits → (shape_index o.value.shape == 1) ≡ number
        → IsItemOfSomeLine (cond (not fits) (zeros width) (cond number (bytes (take width (four_bytes (operand_number_modulo (2 ^ 32) o.value.minus o.value.size))) None) (bytes (take width (0 ∷ 0 ∷ 0 ∷ 0 ∷ [])) (Some (reference_from_value 7 o.value)))))
    by false number e n = tt
    by true true e n = plain_good (take width (four_bytes (operand_number_modulo (2 ^ 32) o.value.minus o.value.size)))
    by true false e n =
        let p = symbol_value width o e n in
        record {
          good = record { named = λ r g k. ap (λ (x : ReferenceData). is_source_name x.name) (sym (given r g)) ∙ p.1; four = λ w. four_zeros width p.0 };
          kind = λ r g. ap (λ (x : ReferenceData). x.kind) (sym (given r g));
          zero = λ r g. ap (λ n. take n (0 ∷ 0 ∷ 0 ∷ 0 ∷ [])) p.0;
        }

values_are : (width : ℕ) (os : List OperandData) → EachInDraft IsItemOfSomeLine (map (value_item width) os)
values_are width [] = tt
values_are width (o ∷ os) = (value_is width o, values_are width os)

-- ---- lines
word_are : (make : List ℕ → ItemData) → ((name : List ℕ) → IsItemOfSomeLine (make name)) → (o : Option (List ℕ)) → Are (option_map_or (λ name. line_data 15 (make name ∷ [])) o (line_data 3 []))
word_are make h None = record { items = tt }
word_are make h (Some name) = record { items = (h name, tt) }

named_are : (make : List ℕ → ItemData) → ((name : List ℕ) → IsItemOfSomeLine (make name)) → (os : List OperandData) → Are (named_line make os)
unfolding named_line
named_are make h os = word_are make h (only_operand_name os)

space_are : (os : List OperandData) → Are (space_line os)
unfolding space_line space_item
space_are [] = record { items = (tt, tt) }
space_are (o ∷ []) = record { items = (tt, tt) }
space_are (o ∷ p ∷ os) = record { items = (tt, tt) }

code_are : (name : List ℕ) (q : Result (ℕ × RowFieldsData) ℕ) → ((k : ℕ) (f : RowFieldsData) → q ≡ Ok (k, f) → IsRowOfStatement k f) → Are (code_line name q)
code_are name (Ok found) h =
    let s = h found.0 found.1 refl in
    record { items = (record { row = s.row; at = s.at; fits = s.stated.fits; symbols = s.stated.symbols; zero = s.zero }, tt) }
code_are name (Err rule) h = record { items = (tt, tt) }

values_line_are : (width : ℕ) (os : List OperandData) → Are (values_line width os)
unfolding values_line
values_line_are width os = record { items = values_are width os }

stated_are : (name : List ℕ) (os : List OperandData) → Are (statement_line name os)
unfolding statement_line
stated_are name os =
    by_test Are (bytes_eq name (codes ".section")) _ _ (λ e. named_are section (λ n. tt) os)
    (λ e. by_test Are (bytes_eq name (codes ".global")) _ _ (λ e. named_are global (λ n. tt) os)
    (λ e. by_test Are (bytes_eq name (codes ".byte")) _ _ (λ e. values_line_are 1 os)
    (λ e. by_test Are (bytes_eq name (codes ".half")) _ _ (λ e. values_line_are 2 os)
    (λ e. by_test Are (bytes_eq name (codes ".word")) _ _ (λ e. values_line_are 4 os)
    (λ e. by_test Are (bytes_eq name (codes ".space")) _ _ (λ e. space_are os)
    (λ e. code_are name (row_of_statement name os) (λ k f g. stated name os k f g)))))))

from_are : (ps : List PieceData) (at : ℕ) → Are (line_from ps at)
unfolding line_from
from_are ps at =
    by_test Are (length ps == at) _ _ (λ e. record { items = tt })
    (λ e. by_test Are (is_token_kind ps at kind.Word) _ _ (λ e. stated_are (token_text ps at) (operands_of_tokens (drop (at + 1) ps))) (λ e. record { items = tt }))

pieces_are : (ps : List PieceData) → Are (tokens_line ps)
unfolding tokens_line
pieces_are ps = by_test Are (is_token_kind ps 0 kind.Word && is_token_kind ps 1 kind.Colon) _ _ (λ e. let h = from_are ps 2 in record { items = (tt, h.items) }) (λ e. from_are ps 0)

label_are : (ps : List PieceData) → Are (line_data 1 (label_of ps))
unfolding label_of
label_are ps = by_test (λ (is : List ItemData). Are (line_data 1 is)) (is_token_kind ps 0 kind.Word && is_token_kind ps 1 kind.Colon) _ _ (λ e. record { items = (tt, tt) }) (λ e. record { items = tt })

before_are : (text : List ℕ) (q : Result (List Token) ℕ) → Are (line_data 1 (label_of_text text q))
before_are text (Ok ts) = label_are (map (line_token_with_text text) ts)
before_are text (Err at) = record { items = tt }

cut_are : (line : List ℕ) (q : Result (List Token) ℕ) → Are (meaning_of_cut_line line q)
cut_are line (Ok ts) = pieces_are (map (line_token_with_text line) ts)
cut_are line (Err at) = before_are (take at line) (tokens_of (take at line))

-- ---- a source
each_behind : (xs ys : List ItemData) → EachInDraft IsItemOfSomeLine xs → EachInDraft IsItemOfSomeLine ys → EachInDraft IsItemOfSomeLine (xs ++ ys)
each_behind [] ys h k = k
each_behind (x ∷ xs) ys h k = (h.0, each_behind xs ys h.1 k)

lines_are : (texts : List (List ℕ)) → EachInDraft IsItemOfSomeLine (items_in (map line_of_text texts))
lines_are [] = tt
lines_are (t ∷ ts) = let h = cut_are t (tokens_of t) in each_behind (line_of_text t).items (items_in (map line_of_text ts)) h.items (lines_are ts)

pub source_are : (source : List ℕ) → EachInDraft IsItemOfSomeLine (items_in (lines_in source))
source_are source = lines_are (slice_split (λ c. c == 10) source)
