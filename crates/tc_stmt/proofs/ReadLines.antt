-- Reading the next line, and the items that it adds.
use Rattle.std.proofs.Common.{◌≡◌, ◌≤◌, ◌+◌, ◌++◌, ℕ, suc, List, [], ◌∷◌, length, take, drop, map, Some, None, refl, sym, ap, subst, ◌∙◌, arith}
use Rattle.std.specs.Prelude.{position}
use Rattle.std.specs.List.{slice_split}
use Rattle.std.proofs.lemmas.List.{map_push, length-map, append-nil}
use Rattle.std.proofs.lemmas.List.Splits.{length-slice_split}
use Rattle.std.proofs.lemmas.List.Sums.{count_by-le-length}
use Rattle.std.proofs.lemmas.List.Concat.{flat_map-append}
use Rattle.tc_stmt.specs.declared.source.Line.{Line}
use Rattle.tc_stmt.specs.declared.item.Item.{Item}
use Rattle.tc_stmt.specs.Items.{ItemData, item_of}
use Rattle.tc_stmt.specs.Lines.{LineData, line_data, line_of_text, lines_in, items_in}
use Rattle.tc_stmt.specs.SourceViews.{lines_read, AreReadLines}
use Rattle.tc_stmt.proofs.ListItems.{take_behind, drop_behind}
use Rattle.tc_stmt.proofs.LoopLaws.{is_feed, lines_more, lines_end}

pub read_none : AreReadLines [] [] []
read_none = record { rules = refl; counts = refl; items_are = refl }

pub read_more : (lines next : List Line) (l : Line) (old new : List Item) (x : LineData) → next ≡ lines ++ l ∷ [] → l.rule ≡ x.rule → l.count ≡ length x.items
    → map item_of new ≡ map item_of old ++ x.items → (ls : List LineData) → AreReadLines lines old ls → AreReadLines next new (ls ++ x ∷ [])
read_more lines next l old new x e rule count more ls h = record {
  rules =
      ap (map (λ (k : Line). k.rule)) e ∙ map_push (λ (k : Line). k.rule) lines l
      ∙ ap (λ r. map (λ (k : Line). k.rule) lines ++ r ∷ []) rule
      ∙ ap (λ rs. rs ++ x.rule ∷ []) h.rules ∙ sym (map_push (λ (k : LineData). k.rule) ls x);
  counts =
      ap (map (λ (k : Line). k.count)) e ∙ map_push (λ (k : Line). k.count) lines l
      ∙ ap (λ n. map (λ (k : Line). k.count) lines ++ n ∷ []) count
      ∙ ap (λ ns. ns ++ length x.items ∷ []) h.counts ∙ sym (map_push (λ (k : LineData). length k.items) ls x);
  items_are =
      more ∙ ap (λ is. is ++ x.items) h.items_are
      ∙ ap (λ (is : List ItemData). items_in ls ++ is) (sym (append-nil x.items))
      ∙ sym (flat_map-append (λ (k : LineData). k.items) ls (x ∷ []));
}

-- the lines so far are these
read_back : (lines : List Line) (is : List ItemData) (ls : List LineData) → map (λ (l : Line). l.rule) lines ≡ map (λ (l : LineData). l.rule) ls
    → map (λ (l : Line). l.count) lines ≡ map (λ (l : LineData). length l.items) ls → is ≡ items_in ls → lines_read lines is ≡ ls
read_back [] is [] r c e = refl
read_back [] is (x ∷ ls) r c e = cc
read_back (l ∷ lines) is [] r c e = cc
read_back (l ∷ lines) is (x ∷ ls) r c e = joined (read_back lines (drop l.count is) ls rules counts rest)
  where
    rule : l.rule ≡ x.rule
    rule = cc

    count : l.count ≡ length x.items
    count = cc

    rules : map (λ (k : Line). k.rule) lines ≡ map (λ (k : LineData). k.rule) ls
    rules = cc

    counts : map (λ (k : Line). k.count) lines ≡ map (λ (k : LineData). length k.items) ls
    counts = cc

    first : take l.count is ≡ x.items
    first = ap (take l.count) e ∙ take_behind x.items (items_in ls) l.count 0 (omega (arith, count)) ∙ append-nil x.items

    rest : drop l.count is ≡ items_in ls
    rest = ap (drop l.count) e ∙ drop_behind x.items (items_in ls) l.count 0 (omega (arith, count))

    joined : lines_read lines (drop l.count is) ≡ ls → line_data l.rule (take l.count is) ∷ lines_read lines (drop l.count is) ≡ x ∷ ls
    joined h =
        ap (λ n. line_data n (take l.count is) ∷ lines_read lines (drop l.count is)) rule
        ∙ ap (λ (js : List ItemData). line_data x.rule js ∷ lines_read lines (drop l.count is)) first
        ∙ ap (λ (ks : List LineData). x ∷ ks) h

pub read_lines : (lines : List Line) (items : List Item) (ls : List LineData) → AreReadLines lines items ls → lines_read lines (map item_of items) ≡ ls
read_lines lines items ls h = read_back lines (map item_of items) ls h.rules h.counts h.items_are

-- the number of lines so far
pub length-lines_read : (lines : List Line) (is : List ItemData) → length (lines_read lines is) ≡ length lines
length-lines_read [] is = refl
length-lines_read (l ∷ lines) is = ap suc (length-lines_read lines (drop l.count is))

-- ---- a source that is read up to a rest
pub record Reading (source : List ℕ) (lines : List Line) (items : List Item) (rest : List ℕ) : Type 0 where
  pub parts : List (List ℕ)
  pub parted : parts ++ slice_split is_feed rest ≡ slice_split is_feed source
  pub are_read : AreReadLines lines items (map line_of_text parts)

pub reading_none : (source : List ℕ) (lines : List Line) (items : List Item) → lines ≡ [] → items ≡ [] → Reading source lines items source
reading_none source lines items e f = record { parts = []; parted = refl; are_read = rw (e, f) read_none }

one_more : (parts : List (List ℕ)) (lines : List Line) (items : List Item) (line : List ℕ) → AreReadLines lines items (map line_of_text parts ++ line_of_text line ∷ []) → AreReadLines lines items (map line_of_text (parts ++ line ∷ []))
one_more parts lines items line h = rw (map_push line_of_text parts line) h

module _ (source : List ℕ) (lines next : List Line) (old new : List Item) (rest line : List ℕ) (r : Reading source lines old rest) (more : (ls : List LineData) → AreReadLines lines old ls → AreReadLines next new (ls ++ line_of_text line ∷ [])) where
  with_line : (l : List ℕ) → line ≡ l → AreReadLines next new (map line_of_text (r.parts ++ l ∷ []))
  with_line l e =
      let P : List ℕ → Type 0 = λ k. AreReadLines next new (map line_of_text r.parts ++ line_of_text k ∷ []) in
      one_more r.parts next new l (subst P e (more (map line_of_text r.parts) r.are_read))

  -- a further line
  pub reading_more : (i : ℕ) (behind : List ℕ) → position is_feed rest ≡ Some i → line ≡ take i rest → behind ≡ drop (i + 1) rest → Reading source next new behind
  reading_more i behind found e f = record {
    parts = r.parts ++ take i rest ∷ [];
    parted = ap (λ b. (r.parts ++ take i rest ∷ []) ++ slice_split is_feed b) f ∙ lines_more r.parts rest i found ∙ r.parted;
    are_read = with_line (take i rest) e;
  }

  -- the last line
  pub reading_end : position is_feed rest ≡ None → line ≡ rest → AreReadLines next new (lines_in source)
  reading_end none e =
      let P : List (List ℕ) → Type 0 = λ parts. AreReadLines next new (map line_of_text parts) in
      subst P (lines_end r.parts rest none ∙ r.parted) (with_line rest e)

-- one line more than line feeds
pub few_read : (source : List ℕ) (lines : List Line) (is : List ItemData) → lines_read lines is ≡ lines_in source → length lines ≤ length source + 1
few_read source lines is e =
    let long = sym (length-lines_read lines is) ∙ ap length e ∙ length-map (slice_split is_feed source) line_of_text ∙ length-slice_split is_feed source in
    omega (arith, long, count_by-le-length is_feed source)
