-- A listing is assembled, and its object has the segments.
use Rattle.std.proofs.Common.{◌≡◌, ◌<◌, ◌≤◌, ◌+◌, ◌^◌, zero, suc, ℕ, Bool, true, List, [], ◌∷◌, ◌++◌, length, map, get_or, refl, ap, sym, subst, ◌∙◌, arith, append-nil, Result, Ok, Err}
use Rattle.std.specs.Prelude.{All, IfOk, IfErr}
use Rattle.std.specs.List.{list_all}
use Rattle.std.proofs.lemmas.Bool.{lt-ltb}
use Rattle.std.proofs.lemmas.List.Sorted.{All-permutation, length_permutation, sum_by-IsPermutation}
use Rattle.elf_image.specs.Images.{SegmentData, ImageData, IsImage}
use Rattle.tc_object.specs.Objects.{SectionData, ObjectData}
use Rattle.tc_lex.specs.Pieces.{is_token_kind}
use Rattle.tc_stmt.specs.Lines.{LineData, line_data, line_of_text, lines_in, tokens_line, line_from}
use Rattle.tc_asm.specs.Symbols.{SymbolData}
use Rattle.tc_asm.specs.Drafts.{DraftData, empty_draft}
use Rattle.tc_asm.specs.DraftedSources.{draft_from_lines, draft_after_line, symbols_of_lines}
use Rattle.tc_asm.specs.Rules.{LinesKeepRules, IsFirstBadLine, rule_broken_by_line}
use Rattle.tc_asm.specs.declared.errors.AsmErr.{AsmErr}
use Rattle.tc_asm.specs.declared.errors.AsmErr.TheVariants.{Bad, NoMemory}
use Rattle.tc_asm.specs.Errors.{IfBadLine}
use Rattle.tc_asm.specs.Objects.{section_of, relocs_of_sections, object_of_draft}
use Rattle.tc_disasm.specs.Listing.{segments_in_listing_order, listing_sections_from, listing_of}
use Rattle.tc_disasm.specs.Assembled.{listed_section_name, HoldsSegments, ListingReadsBack}
use Rattle.tc_disasm.proofs.LineTokens.{reads-tokens, lexes-end}
use Rattle.tc_disasm.proofs.LineAt.{is_byte}
use Rattle.tc_disasm.proofs.Runs.{Runs, runs-append, keeps-at}
use Rattle.tc_disasm.proofs.Growing.{draft}
use Rattle.tc_disasm.proofs.Contents.{Sections, sections, parts_from, total_of, are_bytes}
use Rattle.tc_disasm.proofs.Ordered.{by_address-permutes, by_address-ascends}
use Rattle.tc_disasm.proofs.ShortTexts.{short-sections}

-- ---- the object of the sections
sections-bytes : (n : ℕ) (ss : List SegmentData) → map (λ (s : SectionData). s.bytes) (map section_of (parts_from n ss)) ≡ map (λ (s : SegmentData). s.bytes) ss
sections-bytes n [] = refl
sections-bytes n (s ∷ ss) = ap (λ xs. s.bytes ∷ xs) (sections-bytes (n + 1) ss)

sections-names : (n : ℕ) (ss : List SegmentData) (k : ℕ) (d : SectionData) → k < length (map section_of (parts_from n ss)) → (get_or (map section_of (parts_from n ss)) k d).name ≡ listed_section_name (n + k)
sections-names n [] k d less = absurd (omega arith)
sections-names n (s ∷ ss) zero d less = ap listed_section_name (omega arith)
sections-names n (s ∷ ss) (suc k) d less = sections-names (n + 1) ss k d (omega arith) ∙ ap listed_section_name (omega arith)

no_relocs : (number n : ℕ) (ss : List SegmentData) → relocs_of_sections [] number (parts_from n ss) ≡ []
no_relocs number n [] = refl
no_relocs number n (s ∷ ss) = no_relocs (number + 1) (n + 1) ss

holds-sections : (ss : List SegmentData) (last total : ℕ) → HoldsSegments ss (object_of_draft (draft last (parts_from 0 (segments_in_listing_order ss)) total))
holds-sections ss last total = record {
  ordered = segments_in_listing_order ss;
  same = by_address-permutes ss;
  ascending = by_address-ascends ss;
  bytes = sections-bytes 0 (segments_in_listing_order ss);
  names = λ k d less. sections-names 0 (segments_in_listing_order ss) k d less ∙ ap listed_section_name (omega arith);
  symbols = refl;
  relocs = no_relocs 0 0 (segments_in_listing_order ss);
}

-- ---- the whole text
empty_line : line_of_text [] ≡ line_data 15 []
unfolding tokens_line line_from is_token_kind
empty_line = (reads-tokens [] [] (line_data 15 []) lexes-end (omega arith) refl).is

runs-empty : (labels : List SymbolData) (d : DraftData) → Runs labels d (line_data 15 [] ∷ []) d
unfolding draft_after_line rule_broken_by_line
runs-empty labels d = record { keeps = (refl, tt); makes = refl }

list_all-from : {X : Type 0} (P : X → Type 0) (p : X → Bool) → ((x : X) → P x → p x ≡ true) → (xs : List X) → All P xs → list_all p xs ≡ true
list_all-from P p h [] all = refl
list_all-from P p h (x ∷ xs) all = rw (h x (all 0 x (omega arith))) (list_all-from P p h xs (λ k d less. all (suc k) d (omega arith)))

bytes-pass : (bs : List ℕ) → All (λ b. b < 256) bs → list_all is_byte bs ≡ true
bytes-pass bs all = list_all-from (λ b. b < 256) is_byte (λ b h. lt-ltb b 256 h) bs all

module _ (i : ImageData) (is : IsImage i) where
  ss : List SegmentData
  ss = segments_in_listing_order i.segments

  few : 0 + length (segments_in_listing_order i.segments) ≤ 64
  few = let few = is.few in omega (arith, length_permutation i.segments (segments_in_listing_order i.segments) (by_address-permutes i.segments))

  all_bytes : list_all are_bytes (segments_in_listing_order i.segments) ≡ true
  all_bytes =
      list_all-from (λ (s : SegmentData). All (λ b. b < 256) s.bytes) are_bytes (λ s h. bytes-pass s.bytes h) (segments_in_listing_order i.segments)
      (All-permutation (λ (s : SegmentData). All (λ b. b < 256) s.bytes) i.segments (segments_in_listing_order i.segments) (by_address-permutes i.segments) is.bytes)

  total : total_of (segments_in_listing_order i.segments) ≤ 2 ^ 24
  total = let small = is.small in let same = sum_by-IsPermutation (λ (s : SegmentData). length s.bytes) i.segments (segments_in_listing_order i.segments) (by_address-permutes i.segments) in omega arith

  text : Sections 0 (segments_in_listing_order i.segments)
  text = sections 0 (segments_in_listing_order i.segments) few all_bytes

  lines-are : lines_in (listing_of i) ≡ text.ls ++ (line_data 15 [] ∷ [])
  unfolding listing_of
  lines-are =
      ap lines_in (sym (append-nil (listing_sections_from 0 (segments_in_listing_order i.segments))))
      ∙ text.lines.are []
      ∙ ap (λ l. text.ls ++ (l ∷ [])) empty_line

  runs : (labels : List SymbolData) → (last : ℕ) × Runs labels empty_draft (text.ls ++ (line_data 15 [] ∷ [])) (draft last (parts_from 0 (segments_in_listing_order i.segments)) (0 + total_of (segments_in_listing_order i.segments)))
  runs labels =
      let r = text.runs labels 64 0 [] refl few tt (let t = total in omega arith) in
      let d : DraftData = draft r.0 (parts_from 0 (segments_in_listing_order i.segments)) (0 + total_of (segments_in_listing_order i.segments)) in
      (r.0, runs-append labels empty_draft d d text.ls (line_data 15 [] ∷ []) r.1 (runs-empty labels d))

  -- of these lines, whatever list they are
  module _ (ls : List LineData) (same : ls ≡ text.ls ++ (line_data 15 [] ∷ [])) where
    keeps-lines : LinesKeepRules ls (length ls)
    keeps-lines =
        subst (λ (xs : List LineData). LinesKeepRules xs (length xs)) (sym same)
        (λ k d less. keeps-at (symbols_of_lines (text.ls ++ (line_data 15 [] ∷ []))) empty_draft (text.ls ++ (line_data 15 [] ∷ [])) (runs (symbols_of_lines (text.ls ++ (line_data 15 [] ∷ [])))).1.keeps k d less)

    never-breaks : (line rule : ℕ) → IsFirstBadLine ls line rule → ⊥
    never-breaks line rule least = least.some (sym (least.broken (line_data 15 [])) ∙ keeps-lines least.place (line_data 15 []) least.within)

    holds-lines : HoldsSegments i.segments (object_of_draft (draft_from_lines (symbols_of_lines ls) ls))
    holds-lines =
        let r = runs (symbols_of_lines ls) in
        subst (λ (d : DraftData). HoldsSegments i.segments (object_of_draft d)) (sym (ap (draft_from_lines (symbols_of_lines ls)) same ∙ r.1.makes)) (holds-sections i.segments r.0 (0 + total_of (segments_in_listing_order i.segments)))

  short : length (listing_of i) ≤ 2 ^ 30
  unfolding listing_of
  short =
      let few_here = few in
      let total_here = total in
      let whole = short-sections 0 (segments_in_listing_order i.segments) few all_bytes in
      omega arith

  pub reads_back : ListingReadsBack i
  reads_back = record {
    short = short;
    keeps = keeps-lines (lines_in (listing_of i)) lines-are;
    never = never-breaks (lines_in (listing_of i)) lines-are;
    holds = holds-lines (lines_in (listing_of i)) lines-are;
  }

-- ---- calls
-- the image of a call
pub reads_back-of : (image now : ImageData) → image ≡ now → IsImage image → ListingReadsBack now
reads_back-of image now same is = subst ListingReadsBack same (reads_back image is)

module _ (i : ImageData) (back : ListingReadsBack i) (source : List ℕ) (is : source ≡ listing_of i) where
  pub short_source : length source ≤ 2 ^ 30
  short_source = subst (λ (xs : List ℕ). length xs ≤ 2 ^ 30) (sym is) back.short

  pub holds_of : (r : Result ObjectData AsmErr) → IfOk r (λ o. o ≡ object_of_draft (draft_from_lines (symbols_of_lines (lines_in source)) (lines_in source))) → IfOk r (λ o. HoldsSegments i.segments o)
  holds_of (Ok o) e =
      subst (HoldsSegments i.segments) (sym (e ∙ ap (λ xs. object_of_draft (draft_from_lines (symbols_of_lines (lines_in xs)) (lines_in xs))) is)) back.holds
  holds_of (Err x) e = e

  pub never_of : (r : Result ObjectData AsmErr) → IfErr r (IfBadLine (IsFirstBadLine (lines_in source))) → IfErr r (λ e. e ≡ NoMemory)
  never_of (Ok o) h = h
  never_of (Err (Bad line rule)) h = absurd (back.never line rule (subst (λ (xs : List ℕ). IsFirstBadLine (lines_in xs) line rule) is h))
  never_of (Err NoMemory) h = refl
