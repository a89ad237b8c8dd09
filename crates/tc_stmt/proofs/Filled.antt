-- Filling a row from operands, in order.
use Rattle.std.proofs.Common.{◌≡◌, ◌<◌, ◌≤◌, ◌+◌, ◌≢◌, suc, ℕ, Bool, true, false, cond, List, [], ◌∷◌, length, get_or, drop, map, Option, Some, None, refl, ap, sym, ◌∙◌, arith}
use Rattle.std.specs.Prelude.{option_and_then}
use Rattle.std.proofs.lemmas.List.{drop_more, drop_all, length-map, get_or-map}
use Rattle.tc_isa.specs.Rows.{RowData}
use Rattle.tc_stmt.specs.declared.want.Want.{Want}
use Rattle.tc_lex.specs.declared.operand.Operand.{Operand}
use Rattle.tc_lex.specs.Operands.{OperandData, operand_of}
use Rattle.tc_stmt.specs.RowFields.{RowFieldsData}
use Rattle.tc_stmt.specs.Filling.{fill_operand, fill_operands}

none_of : (next : RowFieldsData → Option RowFieldsData) → ((f : RowFieldsData) → next f ≡ None) → (found : Option RowFieldsData) → option_and_then next found ≡ None
none_of next none None = refl
none_of next none (Some f) = none f

-- another number of operands never fits
pub fill_all-uneven : (r : RowData) (ws : List Want) (os : List OperandData) (acc : RowFieldsData) → length ws ≢ length os → fill_operands r ws os acc ≡ None
unfolding fill_operands
fill_all-uneven r [] [] acc h = absurd (h refl)
fill_all-uneven r [] (o ∷ os) acc h = refl
fill_all-uneven r (w ∷ ws) [] acc h = refl
fill_all-uneven r (w ∷ ws) (o ∷ os) acc h = none_of (fill_operands r ws os) (λ f. fill_all-uneven r ws os f (λ e. h (ap suc e))) (fill_operand r w o acc)

pub fill_all-drop : (r : RowData) (ws : List Want) (os : List OperandData) (i : ℕ) (w : Want) (o : OperandData) (acc : RowFieldsData) → i < length ws → i < length os
    → fill_operands r (drop i ws) (drop i os) acc ≡ option_and_then (fill_operands r (drop (i + 1) ws) (drop (i + 1) os)) (fill_operand r (get_or ws i w) (get_or os i o) acc)
unfolding fill_operands
fill_all-drop r ws os i w o acc h k =
    ap (λ (vs : List Want). fill_operands r vs (drop i os) acc) (drop_more ws i w h)
    ∙ ap (λ (ps : List OperandData). fill_operands r (get_or ws i w ∷ drop (i + 1) ws) ps acc) (drop_more os i o k)

pub fill_all-end : (r : RowData) (ws : List Want) (os : List OperandData) (i : ℕ) (acc : RowFieldsData) → length ws ≤ i → length os ≤ i → fill_operands r (drop i ws) (drop i os) acc ≡ Some acc
unfolding fill_operands
fill_all-end r ws os i acc h k =
    ap (λ (vs : List Want). fill_operands r vs (drop i os) acc) (drop_all i ws h)
    ∙ ap (λ (ps : List OperandData). fill_operands r [] ps acc) (drop_all i os k)

pub fill_step : (r : RowData) (ws : List Want) (os : List Operand) (i : ℕ) (w : Want) (o : Operand) (acc : RowFieldsData) (found : Option RowFieldsData)
    → found ≡ fill_operand r (get_or ws i w) (operand_of (get_or os i o)) acc → i < length ws → length ws ≡ length os
    → fill_operands r (drop i ws) (drop i (map operand_of os)) acc ≡ option_and_then (fill_operands r (drop (i + 1) ws) (drop (i + 1) (map operand_of os))) found
fill_step r ws os i w o acc found e h even =
    let within : i < length os = omega arith in
    fill_all-drop r ws (map operand_of os) i w (operand_of o) acc h (rw (length-map os operand_of) within)
    ∙ ap (λ q. option_and_then (fill_operands r (drop (i + 1) ws) (drop (i + 1) (map operand_of os))) (fill_operand r (get_or ws i w) q acc)) (get_or-map operand_of os i o (operand_of o) within)
    ∙ ap (λ f. option_and_then (fill_operands r (drop (i + 1) ws) (drop (i + 1) (map operand_of os))) f) (sym e)

-- ---- a loop over operands
module _ (r : RowData) (ws : List Want) (os : List Operand) (i : ℕ) (acc : RowFieldsData) (all : Option RowFieldsData)
    (so_far : fill_operands r (drop i ws) (drop i (map operand_of os)) acc ≡ all) where
  -- a further operand of the form that is wanted
  pub fill_more : (w : Want) (o : Operand) (next : RowFieldsData) (fits : Bool) → cond fits (Some next) None ≡ fill_operand r (get_or ws i w) (operand_of (get_or os i o)) acc → fits ≡ true
      → i < length ws → length ws ≡ length os → fill_operands r (drop (i + 1) ws) (drop (i + 1) (map operand_of os)) next ≡ all
  fill_more w o next true e is h even = sym (fill_step r ws os i w o acc (Some next) e h even) ∙ so_far
  fill_more w o next false e is h even = cc

  -- a further operand of another form
  pub fill_none : (w : Want) (o : Operand) (next : RowFieldsData) (fits : Bool) → cond fits (Some next) None ≡ fill_operand r (get_or ws i w) (operand_of (get_or os i o)) acc → fits ≡ false
      → i < length ws → length ws ≡ length os → None ≡ all
  fill_none w o next true e is h even = cc
  fill_none w o next false e is h even = sym (fill_step r ws os i w o acc None e h even) ∙ so_far

  -- no operand is left
  pub fill_last : length ws ≤ i → length ws ≡ length os → Some acc ≡ all
  fill_last h even = sym (fill_all-end r ws (map operand_of os) i acc h (rw (length-map os operand_of) (omega arith))) ∙ so_far
