-- A further line in both passes.
use Rattle.std.proofs.Common.{◌≡◌, ◌≢◌, ◌<◌, ◌+◌, ℕ, Bool, List, [], ◌∷◌, map, length, get_or, take, drop, min, refl, ap, sym, subst, ◌∙◌, inl, inr, arith, length-drop, get_or-drop}
use Rattle.std.specs.Prelude.{fold}
use Rattle.std.proofs.lemmas.List.{length-map, get_or-map, drop_more, drop-drop, take-map}
use Rattle.std.specs.List.{drop-map}
use Rattle.std.proofs.lemmas.List.Sums.{fold_more}
use Rattle.std.proofs.lemmas.Bool.{cases_lt}
use Rattle.tc_stmt.specs.declared.item.Item.{Item}
use Rattle.tc_stmt.specs.declared.source.Line.{Line}
use Rattle.tc_stmt.specs.Items.{ItemData, item_of}
use Rattle.tc_stmt.specs.Lines.{LineData, line_data, lines_in, items_in}
use Rattle.tc_stmt.specs.SourceViews.{lines_read, source_lines}
use Rattle.tc_stmt.specs.declared.source.Source.{Source}
use Rattle.tc_object.specs.Objects.{ObjectData}
use Rattle.tc_asm.specs.Objects.{object_of_draft}
use Rattle.tc_asm.proofs.LaidLaws.{lines-items}
use Rattle.tc_asm.specs.Symbols.{SymbolData}
use Rattle.tc_asm.specs.Drafts.{DraftData, empty_draft, draft_after_item}
use Rattle.tc_asm.specs.DraftedSources.{draft_from_lines, draft_after_line, symbols_of_lines}
use Rattle.tc_asm.specs.KnownSymbols.{without_symbols_if, rule_broken_in_second_pass}
use Rattle.tc_asm.specs.Rules.{rule_broken_by_source_line, LinesKeepRules, IsFirstBadLine, rule_broken_by_line}

-- the line at a place, with the lines after it
module _ (ls : List LineData) (i : ℕ) (x : LineData) (zs : List LineData) (here : drop i ls ≡ x ∷ zs) where
  within : i < length ls
  within = omega (arith, length-drop i ls, ap length here)

  get_here : (d : LineData) → get_or ls i d ≡ x
  get_here d =
      let first : get_or (drop i ls) 0 d ≡ get_or ls i d = get_or-drop i ls 0 d ∙ ap (λ k. get_or ls k d) (omega arith) in
      sym first ∙ ap (λ (ks : List LineData). get_or ks 0 d) here

  pub behind_here : drop (i + 1) ls ≡ zs
  behind_here = sym (drop-drop 1 i ls) ∙ ap (λ (ks : List LineData). drop 1 ks) here

  pub drafted_more : (labels : List SymbolData) (draft next : DraftData)
      → draft ≡ draft_from_lines labels (take i ls) → next ≡ draft_after_line labels draft x → next ≡ draft_from_lines labels (take (i + 1) ls)
  drafted_more labels draft next so_far step =
      step
      ∙ ap (λ p. draft_after_line labels p x) so_far
      ∙ ap (draft_after_line labels (draft_from_lines labels (take i ls))) (sym (get_here x))
      ∙ sym (fold_more (draft_after_line labels) empty_draft ls i x within)

  pub rule_here : (labels : List SymbolData) (draft : DraftData) (rule : ℕ) (d : LineData)
      → labels ≡ symbols_of_lines ls → draft ≡ draft_from_lines labels (take i ls) → rule ≡ rule_broken_by_line labels draft x → rule_broken_by_source_line ls i (get_or ls i d) ≡ rule
  rule_here labels draft rule d same so_far is =
      sym (is
      ∙ ap (λ p. rule_broken_by_line labels p x) so_far
      ∙ ap (rule_broken_by_line labels (draft_from_lines labels (take i ls))) (sym (get_here d))
      ∙ ap (λ ss. rule_broken_by_line ss (draft_from_lines ss (take i ls)) (get_or ls i d)) same)

  pub kept_more : (labels : List SymbolData) (draft : DraftData) (rule : ℕ)
      → labels ≡ symbols_of_lines ls → draft ≡ draft_from_lines labels (take i ls) → rule ≡ rule_broken_by_line labels draft x → rule ≡ 15 → LinesKeepRules ls i → LinesKeepRules ls (i + 1)
  kept_more labels draft rule same so_far is none before = λ k e h.
      elim (cases_lt k i) [
        | inl less ↦ before k e less
        | inr same_place ↦
            let at : k ≡ i = omega arith in
            ap (λ j. rule_broken_by_source_line ls j (get_or ls j e)) at ∙ rule_here labels draft rule e same so_far is ∙ none
      ]

  pub least_here : (labels : List SymbolData) (draft : DraftData) (rule : ℕ)
      → labels ≡ symbols_of_lines ls → draft ≡ draft_from_lines labels (take i ls) → rule ≡ rule_broken_by_line labels draft x → rule ≢ 15 → LinesKeepRules ls i → IsFirstBadLine ls (i + 1) rule
  least_here labels draft rule same so_far is some before = record {
    place = i;
    within = within;
    is = refl;
    broken = λ d. rule_here labels draft rule d same so_far is;
    some = some;
    before = before;
  }

-- the item at a place, with the items after it
pub item_here : (items : List Item) (i : ℕ) (d : Item) → i < length items → drop i (map item_of items) ≡ item_of (get_or items i d) ∷ drop (i + 1) (map item_of items)
item_here items i d within =
    drop_more (map item_of items) i (item_of d) (rw (length-map items item_of) within)
    ∙ ap (λ x. x ∷ drop (i + 1) (map item_of items)) (get_or-map item_of items i d (item_of d) within)

-- ---- the lines of the code
pub first_things : (items first : List Item) (n : ℕ) → first ≡ take n items → map item_of first ≡ take n (map item_of items)
first_things items front n e = ap (map item_of) e ∙ sym (take-map item_of n items)

-- the draft after a line's items, and the least rule that the line breaks
pub line_drafted : (known : Bool) (labels : List SymbolData) (items first : List Item) (count rule : ℕ) (old new : DraftData) → first ≡ take count items → without_symbols_if known new ≡ without_symbols_if known (fold (draft_after_item labels) old (map item_of first))
    → without_symbols_if known new ≡ without_symbols_if known (draft_after_line labels old (line_data rule (take count (map item_of items))))
unfolding draft_after_line
line_drafted known labels items first count rule old new front same = same ∙ ap (λ is. without_symbols_if known (fold (draft_after_item labels) old is)) (first_things items first count front)

pub line_ruled : (known : Bool) (labels : List SymbolData) (items first : List Item) (count rule found least : ℕ) (old : DraftData) → first ≡ take count items → found ≡ rule_broken_in_second_pass known labels old (map item_of first)
    → least ≡ min rule found → least ≡ min rule (rule_broken_in_second_pass known labels old (take count (map item_of items)))
line_ruled known labels items first count rule found least old front is e = e ∙ ap (min rule) (is ∙ ap (rule_broken_in_second_pass known labels old) (first_things items first count front))

module _ (lines : List Line) (i : ℕ) (d : Line) (items : List Item) (within : i < length lines) where
  -- the next line has the next items
  pub read_here : (ls : List LineData) → drop i ls ≡ lines_read (drop i lines) (map item_of items)
      → drop i ls ≡ line_data (get_or lines i d).rule (take (get_or lines i d).count (map item_of items)) ∷ lines_read (drop (i + 1) lines) (drop (get_or lines i d).count (map item_of items))
  read_here ls e = e ∙ ap (λ (ks : List Line). lines_read ks (map item_of items)) (drop_more lines i d within)

  pub read_behind : (later : List Item) → later ≡ drop (get_or lines i d).count items → lines_read (drop (i + 1) lines) (drop (get_or lines i d).count (map item_of items)) ≡ lines_read (drop (i + 1) lines) (map item_of later)
  read_behind later e =
      ap (lines_read (drop (i + 1) lines)) (drop-map item_of (get_or lines i d).count items ∙ ap (map item_of) (sym e))

-- ---- a source and its lines
module _ (source : List ℕ) (read : Source) (same : source_lines read ≡ lines_in source) where
  pub kept_source : LinesKeepRules (source_lines read) (length (source_lines read)) → LinesKeepRules (lines_in source) (length (lines_in source))
  kept_source h = subst (λ (ls : List LineData). LinesKeepRules ls (length ls)) same h

  pub object_source : (o : ObjectData) (d : DraftData) (labels : List SymbolData) → o ≡ object_of_draft d → d ≡ draft_from_lines labels (source_lines read) → labels ≡ symbols_of_lines (source_lines read)
      → o ≡ object_of_draft (draft_from_lines (symbols_of_lines (lines_in source)) (lines_in source))
  object_source o d labels e f g =
      e ∙ ap object_of_draft (f ∙ ap (λ ls. draft_from_lines ls (source_lines read)) g) ∙ ap (λ ls. object_of_draft (draft_from_lines (symbols_of_lines ls) ls)) same

-- the symbols of the items of all lines are those of the lines
pub labels_source : (source : List ℕ) (read : Source) (items : List Item) (labels : List SymbolData) → labels ≡ (fold (draft_after_item []) empty_draft (map item_of items)).symbols
    → items ≡ read.items.items → map item_of read.items.items ≡ items_in (lines_in source) → source_lines read ≡ lines_in source → labels ≡ symbols_of_lines (source_lines read)
labels_source source read items labels e f g same =
    e
    ∙ ap (λ (is : List Item). (fold (draft_after_item []) empty_draft (map item_of is)).symbols) f
    ∙ ap (λ (is : List ItemData). (fold (draft_after_item []) empty_draft is).symbols) g
    ∙ sym (ap (λ (d : DraftData). d.symbols) (lines-items [] (lines_in source) empty_draft))
    ∙ ap symbols_of_lines (sym same)
