-- The items that add statements, each after the earlier ones.
use Rattle.std.proofs.Common.{◌≡◌, ◌≤◌, ◌⊎◌, ◌&&◌, ◌++◌, ℕ, zero, suc, Bool, true, false, cond, List, [], ◌∷◌, length, take, Option, Some, None, refl, sym, ap, ◌∙◌, inl, inr}
use Rattle.std.specs.Prelude.{slice_get, fold}
use Rattle.tc_stmt.specs.Items.{ItemData}
use Rattle.tc_asm.specs.Symbols.{SymbolData}
use Rattle.tc_asm.specs.Drafts.{DraftData, has_current_section, has_room, empty_draft, draft_after_item, next_byte_offset, draft_section_bytes_at}
use Rattle.tc_asm.specs.Rules.{rule_broken_by_item, rule_broken_by_items}
use Rattle.tc_asm.specs.DraftInvariants.{EachInDraft}
use Rattle.tc_asm.specs.Statements.{StatementData, statement_of_item, statement_if_room, statements_from, section_bytes, statement_offset}
use Rattle.tc_stmt.proofs.ListItems.{InRest, in_front_or_rest, take_behind}
use Rattle.tc_asm.proofs.Uses.{place_bytes, items_bytes, fits, fits_too}

-- the item that adds this statement, with the items before and after it
pub record ItemAt (labels : List SymbolData) (d : DraftData) (items : List ItemData) (j : ℕ) (t : StatementData) : Type 0 where
  pub before : List ItemData
  pub item : ItemData
  pub after : List ItemData
  pub are : items ≡ before ++ item ∷ after
  pub front : take j (statements_from labels d items) ≡ statements_from labels d before
  pub content : statement_of_item labels (fold (draft_after_item labels) d before) item ≡ Some t

standing_is : (d : DraftData) (c : Option StatementData) (j : ℕ) (t : StatementData) → slice_get (statement_if_room d c) j ≡ Some t → (j ≡ 0) × (c ≡ Some t)
standing_is d None j t e = cc
standing_is d (Some x) j t e = by (has_current_section d && has_room d (length x.bytes)) j e
  where
    by : (b : Bool) (i : ℕ) → slice_get (cond b (x ∷ []) []) i ≡ Some t → (i ≡ 0) × (Some x ≡ Some t)
    by true zero e = (refl, e)
    by true (suc i) e = cc
    by false i e = cc

pub item_at : (labels : List SymbolData) (items : List ItemData) (d : DraftData) (j : ℕ) (t : StatementData) → slice_get (statements_from labels d items) j ≡ Some t → ItemAt labels d items j t
item_at labels [] d j t e = cc
item_at labels (i ∷ is) d j t e =
    by (in_front_or_rest (statement_if_room d (statement_of_item labels d i)) (statements_from labels (draft_after_item labels d i) is) j t e) (λ k g. item_at labels is (draft_after_item labels d i) k t g)
  where
    by : (slice_get (statement_if_room d (statement_of_item labels d i)) j ≡ Some t) ⊎ InRest StatementData (statement_if_room d (statement_of_item labels d i)) (statements_from labels (draft_after_item labels d i) is) j t
        → ((k : ℕ) → slice_get (statements_from labels (draft_after_item labels d i) is) k ≡ Some t → ItemAt labels (draft_after_item labels d i) is k t) → ItemAt labels d (i ∷ is) j t
    by (inl g) rec =
        let s = standing_is d (statement_of_item labels d i) j t g in
        record {
          before = [];
          item = i;
          after = is;
          are = refl;
          front = ap (λ n. take n (statement_if_room d (statement_of_item labels d i) ++ statements_from labels (draft_after_item labels d i) is)) s.0;
          content = s.1;
        }
    by (inr r) rec =
        let a = rec r.at r.is in
        record {
          before = i ∷ a.before;
          item = a.item;
          after = a.after;
          are = ap (λ (xs : List ItemData). i ∷ xs) a.are;
          front = take_behind (statement_if_room d (statement_of_item labels d i)) (statements_from labels (draft_after_item labels d i) is) j r.at r.place ∙ ap (λ (ts : List StatementData). statement_if_room d (statement_of_item labels d i) ++ ts) a.front;
          content = a.content;
        }

-- a property of all items holds of this one
pub each_there : (P : ItemData → Type 0) (before after : List ItemData) (i : ItemData) → EachInDraft P (before ++ i ∷ after) → P i
each_there P [] after i h = h.0
each_there P (x ∷ xs) after i h = each_there P xs after i h.1

-- an item of a source that breaks no rule breaks none
pub rule_there : (labels : List SymbolData) (before after : List ItemData) (i : ItemData) (d : DraftData) → 15 ≤ rule_broken_by_items labels d (before ++ i ∷ after) → 15 ≤ rule_broken_by_item labels (fold (draft_after_item labels) d before) i
rule_there labels [] after i d h = fits (rule_broken_by_item labels d i) (rule_broken_by_items labels (draft_after_item labels d i) after) h
rule_there labels (x ∷ xs) after i d h = rule_there labels xs after i (draft_after_item labels d x) (fits_too (rule_broken_by_item labels d x) (rule_broken_by_items labels (draft_after_item labels d x) (xs ++ i ∷ after)) h)

-- the offset of a statement is that of the next byte of its section
pub offset_there : (labels : List SymbolData) (items : List ItemData) (j : ℕ) (t : StatementData) (a : ItemAt labels empty_draft items j t) → (fold (draft_after_item labels) empty_draft a.before).section ≡ t.section →
    statement_offset (statements_from labels empty_draft items) j t.section ≡ next_byte_offset (fold (draft_after_item labels) empty_draft a.before)
offset_there labels items j t a same =
    ap (λ (ts : List StatementData). length (section_bytes t.section ts)) a.front
    ∙ ap length (sym (items_bytes t.section labels a.before))
    ∙ ap (λ s. length (draft_section_bytes_at (fold (draft_after_item labels) empty_draft a.before).parts s)) (sym same)
    ∙ sym (place_bytes (fold (draft_after_item labels) empty_draft a.before))
