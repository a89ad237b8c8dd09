-- A section begins, and its bytes come one line after another.
use Rattle.std.proofs.Common.{◌≡◌, ◌<◌, ◌≤◌, ◌+◌, ◌^◌, ◌==◌, ◌&&◌, ◌||◌, ℕ, suc, Bool, true, false, cond, List, [], ◌∷◌, ◌++◌, length, Some, None, refl, ap, ◌∙◌, arith, length-append}
use Rattle.std.proofs.lemmas.Bool.{and_parts}
use Rattle.std.specs.Prelude.{not, nat_lt, nat_le, min, slice_get, slice_set, unwrap_or, is_some, codes}
use Rattle.std.specs.Option.{option_map_or}
use Rattle.std.specs.Bool.{then_some}
use Rattle.std.specs.List.{list_all, prefix_len}
use Rattle.std.specs.Str.{bytes_eq}
use Rattle.std.specs.Fmt.{decimal}
use Rattle.std.proofs.Math.Dec.{eqb-suc-zero}
use Rattle.std.proofs.lemmas.Bool.Decides.{nat_tests}
use Rattle.std.proofs.lemmas.Fmt.{length-decimal-le}
use Rattle.tc_lex.specs.Bytes.{is_digit}
use Rattle.tcd_base.specs.NameBytes.{is_name_byte, is_name_start}
use Rattle.tc_object.specs.Names.{is_name_length}
use Rattle.tc_stmt.specs.Names.{is_source_name}
use Rattle.tc_stmt.specs.Items.{section}
use Rattle.tc_stmt.specs.Lines.{LineData, line_data}
use Rattle.tc_asm.specs.Symbols.{SymbolData}
use Rattle.tc_asm.specs.Drafts.{DraftSectionData, DraftData, draft_section, has_current_section, has_room, section_number, with_current_section, with_section_bytes, with_bytes_if_room, draft_after_item}
use Rattle.tc_asm.specs.DraftedSources.{draft_after_line}
use Rattle.tc_asm.specs.Rules.{rule_broken_by_content, rule_broken_by_item, rule_broken_by_line}
use Rattle.tc_disasm.proofs.Decimals.{decimal_is}
use Rattle.tc_disasm.proofs.Runs.{Runs, Adds}

-- a draft without symbols
abbrev pub draft : ℕ → List DraftSectionData → ℕ → DraftData
draft number ps total = record { section = number; parts = ps; symbols = []; total = total; count = 0 }

-- a draft whose last section is the current one
abbrev pub growing : List DraftSectionData → List ℕ → List ℕ → ℕ → DraftData
growing ps name bs total = draft (length ps) (ps ++ draft_section name bs [] ∷ []) total

slice_get-last : (ps : List DraftSectionData) (p : DraftSectionData) → slice_get (ps ++ p ∷ []) (length ps) ≡ Some p
slice_get-last [] p = refl
slice_get-last (x ∷ xs) p = slice_get-last xs p

slice_set-last : (ps : List DraftSectionData) (p q : DraftSectionData) → slice_set (ps ++ p ∷ []) (length ps) q ≡ ps ++ q ∷ []
slice_set-last [] p q = refl
slice_set-last (x ∷ xs) p q = ap (λ ys. x ∷ ys) (slice_set-last xs p q)

has_last : (ps : List DraftSectionData) (p : DraftSectionData) → nat_lt (length ps) (length (ps ++ p ∷ [])) ≡ true
has_last ps p = let n : length (ps ++ p ∷ []) ≡ length ps + 1 = length-append ps (p ∷ []) ∙ omega arith in grind (arith, nat_tests)

room_for : (total n : ℕ) → total + n ≤ 2 ^ 24 → nat_le (total + n) (2 ^ 24) ≡ true
room_for total n h = grind (arith, nat_tests)

module _ (ps : List DraftSectionData) (name bs more : List ℕ) (total : ℕ) (room : total + length more ≤ 2 ^ 24) where
  fits_here : (has_current_section (growing ps name bs total) && has_room (growing ps name bs total) (length more)) ≡ true
  fits_here = rw (has_last ps (draft_section name bs []), room_for total (length more) room) refl

  grown : with_bytes_if_room (growing ps name bs total) more ≡ growing ps name (bs ++ more) (total + length more)
  unfolding with_bytes_if_room with_section_bytes
  grown =
      let d : DraftData = growing ps name bs total in
      let add : DraftSectionData → DraftSectionData = λ p. record p { bytes = p.bytes ++ more } in
      ap (λ b. cond b (record d { parts = option_map_or (λ p. slice_set d.parts d.section (add p)) (slice_get d.parts d.section) d.parts; total = d.total + length more }) d) fits_here
      ∙ ap (λ o. draft (length ps) (option_map_or (λ p. slice_set d.parts d.section (add p)) o d.parts) (total + length more)) (slice_get-last ps (draft_section name bs []))
      ∙ ap (λ qs. draft (length ps) qs (total + length more)) (slice_set-last ps (draft_section name bs []) (draft_section name (bs ++ more) []))

  no_rule : rule_broken_by_content (growing ps name bs total) (length more) None ≡ 15
  no_rule = rw (has_last ps (draft_section name bs []), room_for total (length more) room) refl

  -- a line that adds bytes
  pub runs-adds : (labels : List SymbolData) (l : LineData) → Adds l more → Runs labels (growing ps name bs total) (l ∷ []) (growing ps name (bs ++ more) (total + length more))
  unfolding draft_after_line rule_broken_by_line
  runs-adds labels l a =
      let d : DraftData = growing ps name bs total in
      record {
        keeps = (ap (rule_broken_by_line labels d) a.only ∙ ap (λ n. min 15 (min n 15)) (a.rule labels d ∙ no_rule), tt);
        makes = ap (draft_after_line labels d) a.only ∙ a.step labels d ∙ grown;
      }

-- ---- a section begins
module _ (name : List ℕ) where
  -- no section has the name yet
  abbrev pub is_fresh : List DraftSectionData → Bool
  is_fresh ps = list_all (λ (p : DraftSectionData). not (bytes_eq name p.name)) ps

  fresh-len : (ps : List DraftSectionData) → is_fresh ps ≡ true → prefix_len (λ (p : DraftSectionData). not (bytes_eq name p.name)) ps ≡ length ps
  fresh-len [] e = refl
  fresh-len (p ∷ ps) e =
      let two = and_parts (not (bytes_eq name p.name)) (is_fresh ps) e in
      rw two.0 (ap (λ n. 1 + n) (fresh-len ps two.1) ∙ omega arith)

  itself : (n : ℕ) → nat_lt n n ≡ false
  itself n = grind (arith, nat_tests)

  number-fresh : (ps : List DraftSectionData) → is_fresh ps ≡ true → section_number ps name ≡ length ps
  number-fresh ps e =
      ap (λ k. unwrap_or (cond (nat_lt k (length ps)) (Some k) None) (length ps)) (fresh-len ps e)
      ∙ ap (λ b. unwrap_or (cond b (Some (length ps)) None) (length ps)) (itself (length ps))

  pub runs-section : (labels : List SymbolData) (number total : ℕ) (ps : List DraftSectionData) → is_source_name name ≡ true → is_fresh ps ≡ true → length ps < 64
      → Runs labels (draft number ps total) (line_data 15 (section name ∷ []) ∷ []) (growing ps name [] total)
  unfolding draft_after_line rule_broken_by_line draft_after_item rule_broken_by_item with_current_section
  runs-section labels number total ps named fresh few =
      let d : DraftData = draft number ps total in
      let less : nat_lt (length ps) 64 ≡ true = grind (arith, nat_tests) in
      let new : nat_lt (section_number ps name) (length ps) ≡ false = ap (λ n. nat_lt n (length ps)) (number-fresh ps fresh) ∙ itself (length ps) in
      let fresh_part : DraftData = growing ps name [] total in
      let again : DraftData = draft (section_number ps name) ps total in
      record {
        keeps = (
          ap (λ b. min 15 (min (min (cond b 15 9) (cond (nat_lt (section_number ps name) (length ps) || nat_lt (length ps) 64) 15 13)) 15)) named
              ∙ ap (λ b. min 15 (min (min 15 (cond (b || nat_lt (length ps) 64) 15 13)) 15)) new
              ∙ ap (λ b. min 15 (min (min 15 (cond b 15 13)) 15)) less,
          tt,
        );
        makes =
            ap (λ b. cond (not b) d (cond (nat_lt (section_number ps name) (length ps)) again (cond (nat_lt (length ps) 64) fresh_part d))) named
            ∙ ap (λ b. cond b again (cond (nat_lt (length ps) 64) fresh_part d)) new
            ∙ ap (λ b. cond b fresh_part d) less;
      }

-- ---- the names of a listing's sections
digit_is_further : (c : ℕ) → is_digit c ≡ true → is_name_byte c ≡ true
unfolding is_digit is_name_byte is_name_start
digit_is_further c e = grind (arith, nat_tests)

digits_are_further : (ds : List ℕ) → list_all is_digit ds ≡ true → list_all is_name_byte ds ≡ true
digits_are_further [] e = refl
digits_are_further (c ∷ cs) e =
    let two = and_parts (is_digit c) (list_all is_digit cs) e in
    rw (digit_is_further c two.0) (digits_are_further cs two.1)

pub section_name-is : (n : ℕ) → n < 64 → is_source_name (115 ∷ decimal n) ≡ true
unfolding is_source_name is_name_byte is_name_start
section_name-is n small =
    let ds = decimal n in
    let wide : n < 2 ^ 64 = omega arith in
    let hundred : n < 10 ^ 2 = omega arith in
    let few = length-decimal-le 2 n (omega arith) hundred wide in
    let long : is_name_length (length (115 ∷ ds)) ≡ true = grind (arith, nat_tests) in
    let further = digits_are_further ds (decimal_is n wide).digits in
    ap (λ b. is_some (then_some (b && (not (suc (length ds) == 0) && list_all is_name_byte ds)) (115 ∷ ds)) && not (bytes_eq (115 ∷ ds) (codes "."))) long
    ∙ ap (λ b. is_some (then_some (not b && list_all is_name_byte ds) (115 ∷ ds)) && not (bytes_eq (115 ∷ ds) (codes "."))) (eqb-suc-zero (length ds))
    ∙ ap (λ b. is_some (then_some b (115 ∷ ds)) && not (bytes_eq (115 ∷ ds) (codes "."))) further
