-- Lines that break no rule, and the draft that they lead to.
use Rattle.std.proofs.Common.{◌≡◌, ◌<◌, ℕ, zero, suc, Bool, true, false, cond, List, [], ◌∷◌, ◌++◌, length, take, get_or, None, refl, ap, sym, subst, ◌∙◌, arith}
use Rattle.std.specs.Prelude.{min, fold}
use Rattle.std.specs.Option.{option_map_or}
use Rattle.std.proofs.lemmas.List.Sums.{fold-append}
use Rattle.tc_isa.specs.Spelling.{spelling}
use Rattle.tc_isa.specs.Insts.{InstData, IsInst, inst_fields}
use Rattle.tc_encode.proofs.Spelled.{fits_true}
use Rattle.tc_stmt.specs.Items.{ItemData, code, bytes}
use Rattle.tc_stmt.specs.Lines.{LineData, line_data}
use Rattle.tc_asm.specs.Symbols.{SymbolData}
use Rattle.tc_asm.specs.Drafts.{DraftData, has_current_section, has_room, with_bytes_if_room, with_reference, bare_row_fields, fields_with_target, assembled_row_code, row_fields_with_target, assembled_code, code_bytes, draft_after_item}
use Rattle.tc_asm.specs.DraftedSources.{draft_after_line}
use Rattle.tc_asm.specs.Rules.{rule_broken_by_content, rule_broken_by_item, rule_broken_by_line}
use Rattle.tc_asm.proofs.SourceDrafts.{KeepsFrom as Keeps}

-- ---- lines one after another
-- after a draft these lines break no rule, and they lead to the other draft
pub record Runs (labels : List SymbolData) (d : DraftData) (ls : List LineData) (e : DraftData) : Type 0 where
  pub keeps : Keeps labels d ls
  pub makes : fold (draft_after_line labels) d ls ≡ e

module _ (labels : List SymbolData) where
  pub runs-none : (d : DraftData) → Runs labels d [] d
  runs-none d = record { keeps = tt; makes = refl }

  keeps-append : (d e : DraftData) (ls ms : List LineData) → Keeps labels d ls → fold (draft_after_line labels) d ls ≡ e → Keeps labels e ms → Keeps labels d (ls ++ ms)
  keeps-append d e [] ms k is h = subst (λ (x : DraftData). Keeps labels x ms) (sym is) h
  keeps-append d e (l ∷ ls) ms k is h = (k.0, keeps-append (draft_after_line labels d l) e ls ms k.1 is h)

  pub runs-append : (d e f : DraftData) (ls ms : List LineData) → Runs labels d ls e → Runs labels e ms f → Runs labels d (ls ++ ms) f
  runs-append d e f ls ms a b = record {
    keeps = keeps-append d e ls ms a.keeps a.makes b.keeps;
    makes = fold-append (draft_after_line labels) d ls ms ∙ ap (λ x. fold (draft_after_line labels) x ms) a.makes ∙ b.makes;
  }

  -- each of the lines breaks no rule after the earlier ones
  pub keeps-at : (d : DraftData) (ls : List LineData) → Keeps labels d ls → (k : ℕ) (x : LineData) → k < length ls → rule_broken_by_line labels (fold (draft_after_line labels) d (take k ls)) (get_or ls k x) ≡ 15
  keeps-at d [] h k x less = absurd (omega arith)
  keeps-at d (l ∷ ls) h zero x less = h.0
  keeps-at d (l ∷ ls) h (suc k) x less = keeps-at (draft_after_line labels d l) ls h.1 k x (omega arith)

-- ---- a line that adds bytes
pub record Adds (l : LineData) (bs : List ℕ) : Type 0 where
  pub item : ItemData
  pub only : l ≡ line_data 15 (item ∷ [])
  pub step : (labels : List SymbolData) (d : DraftData) → draft_after_item labels d item ≡ with_bytes_if_room d bs
  pub rule : (labels : List SymbolData) (d : DraftData) → rule_broken_by_item labels d item ≡ rule_broken_by_content d (length bs) None

pub adds-bytes : (bs : List ℕ) → Adds (line_data 15 (bytes bs None ∷ [])) bs
unfolding draft_after_item with_reference rule_broken_by_item
adds-bytes bs = record { item = bytes bs None; only = refl; step = λ labels d. refl; rule = λ labels d. refl }

module _ (i : InstData) (is : IsInst i) where
  resolved-none : (labels : List SymbolData) (d : DraftData) → row_fields_with_target labels d i.row (inst_fields i) None ≡ bare_row_fields (inst_fields i)
  resolved-none labels d = ap (λ o. option_map_or (λ row. fields_with_target labels d row (inst_fields i) None) o (bare_row_fields (inst_fields i))) is.at

  code_bytes-is : (labels : List SymbolData) (d : DraftData) → code_bytes labels d i.row (inst_fields i) None ≡ spelling is.row (inst_fields i)
  unfolding code_bytes assembled_row_code
  code_bytes-is labels d =
      ap (λ g. assembled_code i.row g.fields) (resolved-none labels d)
      ∙ ap (λ o. option_map_or (λ row. assembled_row_code row (inst_fields i)) o []) is.at
      ∙ ap (λ b. cond b (spelling is.row (inst_fields i)) []) (fits_true is.row (inst_fields i) is.fits)

  pub adds-code : (bs : List ℕ) → bs ≡ spelling is.row (inst_fields i) → Adds (line_data 15 (code i.row (inst_fields i) None ∷ [])) bs
  unfolding draft_after_item with_reference rule_broken_by_item
  adds-code bs e = record {
    item = code i.row (inst_fields i) None;
    only = refl;
    step = λ labels d. ap (λ xs. with_bytes_if_room d xs) (code_bytes-is labels d ∙ sym e);
    rule = λ labels d.
        ap (λ g. min g.rule (rule_broken_by_content d (length (code_bytes labels d i.row (inst_fields i) None)) None)) (resolved-none labels d)
        ∙ small_rule d (length (code_bytes labels d i.row (inst_fields i) None))
        ∙ ap (λ xs. rule_broken_by_content d (length xs) None) (code_bytes-is labels d ∙ sym e);
  }
    where
      small_rule : (d : DraftData) (n : ℕ) → min 15 (rule_broken_by_content d n None) ≡ rule_broken_by_content d n None
      small_rule d n = by_tests (has_current_section d) (has_room d n)
        where
          by_tests : (a b : Bool) → min 15 (min (cond a 15 8) (min (cond b 15 13) 15)) ≡ min (cond a 15 8) (min (cond b 15 13) 15)
          by_tests true true = refl
          by_tests true false = refl
          by_tests false true = refl
          by_tests false false = refl
