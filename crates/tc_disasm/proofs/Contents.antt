-- The lines of segments put their bytes together, a section for each.
use Rattle.std.proofs.Common.{◌≡◌, ◌<◌, ◌≤◌, ◌+◌, ◌^◌, ◌==◌, ◌&&◌, zero, suc, ℕ, Bool, true, false, List, [], ◌∷◌, ◌++◌, length, take, drop, map, Some, refl, ap, sym, subst, ◌∙◌, arith, append_assoc, append-nil, length-append, length-drop}
use Rattle.std.proofs.lemmas.Bool.{and_parts}
use Rattle.std.specs.Prelude.{not, sum_by}
use Rattle.std.specs.List.{list_all, slice_split}
use Rattle.std.specs.Str.{bytes_eq}
use Rattle.std.specs.Fmt.{decimal}
use Rattle.std.proofs.lemmas.List.Sums.{sum_by-cons}
use Rattle.std.proofs.lemmas.List.{take-append-drop}
use Rattle.std.proofs.lemmas.Slice.Eq.{bytes_eq-Decides}
use Rattle.elf_image.specs.Images.{SegmentData}
use Rattle.tc_lex.specs.Numbers.{token_number}
use Rattle.tc_stmt.specs.Lines.{LineData, line_data, line_of_text}
use Rattle.tc_asm.specs.Symbols.{SymbolData}
use Rattle.tc_stmt.specs.Items.{section}
use Rattle.tc_asm.specs.Drafts.{DraftSectionData, DraftData, draft_section}
use Rattle.tc_disasm.specs.Listing.{listing_line_at, listing_lines_from, instruction_or_data_size, listing_section_line, section_text, listing_sections_from}
use Rattle.tc_disasm.proofs.Appending.{lines-front}
use Rattle.tc_disasm.proofs.Decimals.{number_of-decimal}
use Rattle.tc_disasm.proofs.Partings.{split_at}
use Rattle.tc_disasm.proofs.LineAt.{IsLine, is_byte, here, section-is_line}
use Rattle.tc_disasm.proofs.Runs.{Runs, runs-none, runs-append}
use Rattle.tc_disasm.proofs.Growing.{draft, growing, runs-adds, runs-section, is_fresh, section_name-is}

-- ---- texts that are lines
abbrev pub is_feed : ℕ → Bool
is_feed c = c == 10

-- the lines of the text, each with its line feed, whatever follows
pub record AreLines (text : List ℕ) (ls : List LineData) : Type 0 where
  pub are : (rest : List ℕ) → map line_of_text (slice_split is_feed (text ++ rest)) ≡ ls ++ map line_of_text (slice_split is_feed rest)

no_lines : AreLines [] []
no_lines = record { are = λ rest. refl }

one_line : (text : List ℕ) (l : LineData) → IsLine text l → AreLines text (l ∷ [])
one_line text l h = record {
  are = λ rest.
      ap (λ t. map line_of_text (slice_split is_feed (t ++ rest))) h.whole
      ∙ ap (λ t. map line_of_text (slice_split is_feed t)) (append_assoc h.body (10 ∷ []) rest)
      ∙ ap (map line_of_text) (split_at is_feed h.body 10 rest h.reads.plain refl)
      ∙ ap (λ x. x ∷ map line_of_text (slice_split is_feed rest)) h.reads.is;
}

more_lines : (t u : List ℕ) (ls ms : List LineData) → AreLines t ls → AreLines u ms → AreLines (t ++ u) (ls ++ ms)
more_lines t u ls ms a b = record {
  are = λ rest.
      ap (λ x. map line_of_text (slice_split is_feed x)) (append_assoc t u rest)
      ∙ a.are (u ++ rest)
      ∙ ap (λ x. ls ++ x) (b.are rest)
      ∙ sym (append_assoc ls ms (map line_of_text (slice_split is_feed rest)));
}

-- ---- the bytes of a segment
-- the lines of these bytes add the bytes to the current section
pub record Content (address : ℕ) (bs : List ℕ) : Type 0 where
  pub ls : List LineData
  pub lines : AreLines (listing_lines_from address bs 0) ls
  pub runs : (labels : List SymbolData) (ps : List DraftSectionData) (name before : List ℕ) (total : ℕ) → total + length bs ≤ 2 ^ 24
      → Runs labels (growing ps name before total) ls (growing ps name (before ++ bs) (total + length bs))

content-none : (address : ℕ) → Content address []
unfolding listing_lines_from
content-none address = record {
  ls = [];
  lines = no_lines;
  runs = λ labels ps name before total room.
      subst (λ (d : DraftData). Runs labels (growing ps name before total) [] d) (same ps name before total) (runs-none labels (growing ps name before total));
}
  where
    same : (ps : List DraftSectionData) (name before : List ℕ) (total : ℕ) → growing ps name before total ≡ growing ps name (before ++ []) (total + 0)
    same ps name before total = ap (λ bs. growing ps name bs total) (sym (append-nil before)) ∙ ap (λ n. growing ps name (before ++ []) n) (omega arith)

pub all-drop : (p : ℕ → Bool) (n : ℕ) (bs : List ℕ) → list_all p bs ≡ true → list_all p (drop n bs) ≡ true
all-drop p zero bs e = e
all-drop p (suc n) [] e = e
all-drop p (suc n) (b ∷ bs) e = all-drop p n bs (and_parts (p b) (list_all p bs) e).1

-- a line, and then the other ones
content-more : (address : ℕ) (bs : List ℕ) → 0 < length bs → list_all is_byte bs ≡ true → Content (address + instruction_or_data_size bs) (drop (instruction_or_data_size bs) bs) → Content address bs
content-more address bs some small next =
    let h = here address bs some small in
    let n = instruction_or_data_size bs in
    record {
      ls = h.line ∷ next.ls;
      lines = subst (λ (t : List ℕ). AreLines t (h.line ∷ next.ls)) (sym (lines-front address bs n some h.some refl))
          (more_lines (listing_line_at address bs) (listing_lines_from (address + n) (drop n bs) 0) (h.line ∷ []) next.ls (one_line (listing_line_at address bs) h.line h.is) next.lines);
      runs = λ labels ps name before total room.
          let front = take n bs in
          let rest = drop n bs in
          let whole : front ++ rest ≡ bs = take-append-drop n bs in
          let sizes : length front + length rest ≡ length bs = sym (length-append front rest) ∙ ap length whole in
          let first = runs-adds ps name before front total (omega arith) labels h.line h.adds in
          let others = next.runs labels ps name (before ++ front) (total + length front) (omega arith) in
          let bytes_are : (before ++ front) ++ rest ≡ before ++ bs = append_assoc before front rest ∙ ap (λ x. before ++ x) whole in
          let total_is : total + length front + length rest ≡ total + length bs = omega arith in
          subst (λ (d : DraftData). Runs labels (growing ps name before total) (h.line ∷ next.ls) d)
          (ap (λ x. growing ps name x (total + length front + length rest)) bytes_are ∙ ap (λ m. growing ps name (before ++ bs) m) total_is)
          (runs-append labels (growing ps name before total) (growing ps name (before ++ front) (total + length front)) (growing ps name ((before ++ front) ++ rest) (total + length front + length rest)) (h.line ∷ []) next.ls first others);
    }

content : (fuel address : ℕ) (bs : List ℕ) → length bs ≤ fuel → list_all is_byte bs ≡ true → Content address bs
content fuel address [] few small = content-none address
content zero address (b ∷ bs) few small = absurd (omega arith)
content (suc fuel) address (b ∷ bs) few small =
    let h = here address (b ∷ bs) (omega arith) small in
    let n = instruction_or_data_size (b ∷ bs) in
    let some : 0 < n = h.some in
    let less : length (drop n (b ∷ bs)) ≤ fuel = omega (arith, length-drop n (b ∷ bs)) in
    content-more address (b ∷ bs) (omega arith) small (content fuel (address + n) (drop n (b ∷ bs)) less (all-drop is_byte n (b ∷ bs) small))

-- ---- sections
abbrev pub section_part : ℕ → SegmentData → DraftSectionData
section_part n s = draft_section (115 ∷ decimal n) s.bytes []

-- the sections of these segments, numbered from here on
abbrev pub parts_from : ℕ → List SegmentData → List DraftSectionData
parts_from n [] = []
parts_from n (s ∷ ss) = section_part n s ∷ parts_from (n + 1) ss

abbrev pub total_of : List SegmentData → ℕ
total_of ss = sum_by (λ (s : SegmentData). length s.bytes) ss

-- the names of sections with numbers below this one
abbrev pub AreBelow : ℕ → List DraftSectionData → Type 0
AreBelow n [] = Unit {0}
AreBelow n (p ∷ ps) = ((k : ℕ) × (k < n) × (p.name ≡ 115 ∷ decimal k)) × AreBelow n ps

below-push : (n : ℕ) (ps : List DraftSectionData) (bs : List ℕ) → AreBelow n ps → AreBelow (n + 1) (ps ++ draft_section (115 ∷ decimal n) bs [] ∷ [])
below-push n [] bs e = ((n, omega arith, refl), tt)
below-push n (p ∷ ps) bs e = let less : e.0.0 < n = e.0.1 in ((e.0.0, omega arith, e.0.2), below-push n ps bs e.1)

-- another number has another name
other_name : (n k : ℕ) → k < n → n < 64 → bytes_eq (115 ∷ decimal n) (115 ∷ decimal k) ≡ false
other_name n k less small = by_test (bytes_eq (decimal n) (decimal k)) refl
  where
    differ : decimal n ≡ decimal k → ⊥
    differ e =
        let same : Some n ≡ Some k = sym (number_of-decimal n (omega arith)) ∙ ap token_number e ∙ number_of-decimal k (omega arith) in
        let is : n ≡ k = cc in
        absurd (omega arith)

    by_test : (b : Bool) → bytes_eq (decimal n) (decimal k) ≡ b → bytes_eq (115 ∷ decimal n) (115 ∷ decimal k) ≡ false
    by_test true e = absurd (differ ((bytes_eq-Decides (decimal n) (decimal k)).0 e))
    by_test false e = e

below-fresh : (n : ℕ) (ps : List DraftSectionData) → n < 64 → AreBelow n ps → is_fresh (115 ∷ decimal n) ps ≡ true
below-fresh n [] small e = refl
below-fresh n (p ∷ ps) small e =
    let other : bytes_eq (115 ∷ decimal n) p.name ≡ false = ap (bytes_eq (115 ∷ decimal n)) e.0.2 ∙ other_name n e.0.0 e.0.1 small in
    ap (λ b. not b && is_fresh (115 ∷ decimal n) ps) other ∙ below-fresh n ps small e.1

-- the lines of these segments add them after the earlier sections
pub record Sections (n : ℕ) (ss : List SegmentData) : Type 0 where
  pub ls : List LineData
  pub lines : AreLines (listing_sections_from n ss) ls
  pub runs : (labels : List SymbolData) (number total : ℕ) (ps : List DraftSectionData) → length ps ≡ n → n + length ss ≤ 64 → AreBelow n ps → total + total_of ss ≤ 2 ^ 24
      → (last : ℕ) × Runs labels (draft number ps total) ls (draft last (ps ++ parts_from n ss) (total + total_of ss))

sections-none : (n : ℕ) → Sections n []
unfolding listing_sections_from
sections-none n = record {
  ls = [];
  lines = no_lines;
  runs = λ labels number total ps long few below room.
      (number, subst (λ (d : DraftData). Runs labels (draft number ps total) [] d) (ap (λ qs. draft number qs total) (sym (append-nil ps)) ∙ ap (λ m. draft number (ps ++ []) m) (omega arith)) (runs-none labels (draft number ps total)));
}

section-lines : (n : ℕ) (s : SegmentData) → n < 2 ^ 64 → (c : Content s.at s.bytes) → AreLines (section_text n s) (line_data 15 (section (115 ∷ decimal n) ∷ []) ∷ c.ls)
unfolding section_text
section-lines n s small c =
    more_lines (listing_section_line n s.at) (listing_lines_from s.at s.bytes 0) (line_data 15 (section (115 ∷ decimal n) ∷ []) ∷ []) c.ls (one_line (listing_section_line n s.at) (line_data 15 (section (115 ∷ decimal n) ∷ [])) (section-is_line n s.at small)) c.lines

section-runs : (labels : List SymbolData) (number total n : ℕ) (ps : List DraftSectionData) (s : SegmentData) (c : Content s.at s.bytes) → length ps ≡ n → n < 64 → AreBelow n ps → total + length s.bytes ≤ 2 ^ 24
    → Runs labels (draft number ps total) (line_data 15 (section (115 ∷ decimal n) ∷ []) ∷ c.ls) (growing ps (115 ∷ decimal n) s.bytes (total + length s.bytes))
section-runs labels number total n ps s c long few below room =
    runs-append labels (draft number ps total) (growing ps (115 ∷ decimal n) [] total) (growing ps (115 ∷ decimal n) s.bytes (total + length s.bytes)) (line_data 15 (section (115 ∷ decimal n) ∷ []) ∷ []) c.ls
    (runs-section (115 ∷ decimal n) labels number total ps (section_name-is n few) (below-fresh n ps few below) (omega arith))
    (c.runs labels ps (115 ∷ decimal n) [] total room)

abbrev pub are_bytes : SegmentData → Bool
are_bytes s = list_all is_byte s.bytes

pub total-more : (s : SegmentData) (ss : List SegmentData) → total_of (s ∷ ss) ≡ length s.bytes + total_of ss
total-more s ss = sum_by-cons (λ (t : SegmentData). length t.bytes) s ss

pub sections : (n : ℕ) (ss : List SegmentData) → n + length ss ≤ 64 → list_all are_bytes ss ≡ true → Sections n ss
unfolding listing_sections_from
sections n [] few small = sections-none n
sections n (s ∷ ss) few small =
    let two = and_parts (are_bytes s) (list_all are_bytes ss) small in
    let c = content (length s.bytes) s.at s.bytes (omega arith) two.0 in
    let next = sections (n + 1) ss (omega arith) two.1 in
    let line = line_data 15 (section (115 ∷ decimal n) ∷ []) in
    let sum = total-more s ss in
    record {
      ls = (line ∷ c.ls) ++ next.ls;
      lines = more_lines (section_text n s) (listing_sections_from (n + 1) ss) (line ∷ c.ls) next.ls (section-lines n s (omega arith) c) next.lines;
      runs = λ labels number total ps long few_here below room.
          let first = section-runs labels number total n ps s c long (omega arith) below (omega arith) in
          let here = ps ++ section_part n s ∷ [] in
          let length_here : length here ≡ n + 1 = omega (arith, length-append ps (section_part n s ∷ [])) in
          let rest = next.runs labels (length ps) (total + length s.bytes) here length_here (omega arith) (below-push n ps s.bytes below) (omega arith) in (
            rest.0,
            subst (λ (d : DraftData). Runs labels (draft number ps total) ((line ∷ c.ls) ++ next.ls) d)
                (ap (λ qs. draft rest.0 qs (total + length s.bytes + total_of ss)) (append_assoc ps (section_part n s ∷ []) (parts_from (n + 1) ss)) ∙ ap (λ m. draft rest.0 (ps ++ parts_from n (s ∷ ss)) m) (omega arith))
                (runs-append labels (draft number ps total) (growing ps (115 ∷ decimal n) s.bytes (total + length s.bytes)) (draft rest.0 (here ++ parts_from (n + 1) ss) (total + length s.bytes + total_of ss)) (line ∷ c.ls) next.ls first rest.1),
          );
    }
