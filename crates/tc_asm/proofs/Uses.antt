-- The uses of a section are those of its statements that wait for addresses, in order.
use Rattle.std.proofs.Common.{◌≡◌, ◌<◌, ◌≤◌, ◌+◌, ◌&&◌, ◌==◌, min, ℕ, zero, suc, Bool, true, false, cond, List, [], ◌∷◌, ◌++◌, length, replicate, Option, Some, None, refl, sym, ap, subst, ◌∙◌, arith, append_assoc, append-nil}
use Rattle.std.specs.Prelude.{fold, nat_lt, not, if◌then◌else◌}
use Rattle.std.proofs.Math.Dec.{eqb-zero-suc, eqb-suc-zero, eqb-suc-suc}
use Rattle.std.proofs.lemmas.Bool.{ltb-true, and_parts, and_from}
use Rattle.std.proofs.lemmas.Bool.Decides.{Decides-eqb}
use Rattle.std.proofs.lemmas.List.{length-append}
use Rattle.std.proofs.lemmas.List.Sums.{fold-append}
use Rattle.tc_stmt.specs.Names.{is_source_name}
use Rattle.tc_stmt.specs.Items.{ReferenceData, ItemData, label, section, global, code, bytes, zeros}
use Rattle.tc_asm.specs.Symbols.{SymbolData, with_name}
use Rattle.tc_asm.specs.Drafts.{UseData, DraftSectionData, DraftData, draft_section, empty_draft, next_byte_offset, has_current_section, has_room, with_label, section_number, with_current_section, with_global, with_section_bytes, with_bytes_if_room, with_section_use, with_reloc_use, with_reference, with_content, code_bytes, draft_after_item, draft_section_size_at, draft_section_bytes_at}
use Rattle.tc_asm.specs.DraftedSources.{draft_after_line}
use Rattle.tc_isa.specs.Relocations.{is_relocation_kind}
use Rattle.tc_asm.specs.Rules.{rule_broken_before_section, rule_broken_by_byte_count, rule_broken_by_symbol_count, rule_broken_by_reloc_count, rule_broken_by_reference, rule_broken_by_content, rule_broken_by_item, rule_broken_by_items}
use Rattle.tc_asm.specs.Statements.{StatementData, statement_data, statement_of_item, statement_if_room, statements_from, section_bytes, has_unresolved_symbol}
use Rattle.tc_stmt.proofs.Cases.{by_test}
use Rattle.tc_asm.proofs.ListLaws.{changed, changed-set, size_at-get}
use Rattle.tc_asm.proofs.LaidLaws.{drafted-bytes}
use Rattle.tc_asm.specs.ItemInvariants.{AddedBytesFitSymbol}

-- ---- statements and their uses
-- the use of a statement with these bytes at this offset
abbrev pub use_at : ℕ → Option ReferenceData → List UseData
use_at n None = []
use_at n (Some r) = if has_unresolved_symbol (Some r) then record { offset = n; reference = r } ∷ [] else []

-- the uses of a section's statements, of which the first is at this offset
abbrev pub uses_from : ℕ → ℕ → List StatementData → List UseData
uses_from s n [] = []
uses_from s n (t ∷ ts) = if t.section == s then use_at n t.reference ++ uses_from s (n + length t.bytes) ts else uses_from s n ts

-- a field takes four bytes
pub record HasField (t : StatementData) : Type 0 where
  pub four : has_unresolved_symbol t.reference ≡ true → length t.bytes ≡ 4

abbrev pub HaveFields : List StatementData → Type 0
HaveFields [] = Unit {0}
HaveFields (t ∷ ts) = HasField t × HaveFields ts

-- the uses of the section of this number
abbrev pub uses_in : List DraftSectionData → ℕ → List UseData
uses_in [] s = []
uses_in (p ∷ ps) zero = p.uses
uses_in (p ∷ ps) (suc s) = uses_in ps s

-- ---- parts
uses_in-push : (ps : List DraftSectionData) (p : DraftSectionData) (s : ℕ) → p.uses ≡ [] → uses_in (ps ++ p ∷ []) s ≡ uses_in ps s
uses_in-push [] p zero e = e
uses_in-push [] p (suc s) e = refl
uses_in-push (x ∷ xs) p zero e = refl
uses_in-push (x ∷ xs) p (suc s) e = uses_in-push xs p s e

uses_in-same : (f : DraftSectionData → DraftSectionData) → ((p : DraftSectionData) → (f p).uses ≡ p.uses) → (ps : List DraftSectionData) (i s : ℕ) → uses_in (changed f ps i) s ≡ uses_in ps s
uses_in-same f h [] i s = refl
uses_in-same f h (p ∷ ps) zero zero = h p
uses_in-same f h (p ∷ ps) zero (suc s) = refl
uses_in-same f h (p ∷ ps) (suc i) zero = refl
uses_in-same f h (p ∷ ps) (suc i) (suc s) = uses_in-same f h ps i s

uses_in-grown : (us : List UseData) (ps : List DraftSectionData) (i s : ℕ) → i < length ps → uses_in (changed (λ p. record p { uses = p.uses ++ us }) ps i) s ≡ uses_in ps s ++ cond (i == s) us []
uses_in-grown us [] i s h = absurd (omega arith)
uses_in-grown us (p ∷ ps) zero zero h = refl
uses_in-grown us (p ∷ ps) zero (suc s) h = rw (eqb-zero-suc s) (sym (append-nil (uses_in ps s)))
uses_in-grown us (p ∷ ps) (suc i) zero h = rw (eqb-suc-zero i) (sym (append-nil p.uses))
uses_in-grown us (p ∷ ps) (suc i) (suc s) h = rw (eqb-suc-suc i s) (uses_in-grown us ps i s (omega arith))

-- the size of a section is the number of its bytes
size_bytes : (ps : List DraftSectionData) (s : ℕ) → draft_section_size_at ps s ≡ length (draft_section_bytes_at ps s)
size_bytes [] s = refl
size_bytes (p ∷ ps) zero = refl
size_bytes (p ∷ ps) (suc s) = size_bytes ps s

pub place_bytes : (d : DraftData) → next_byte_offset d ≡ length (draft_section_bytes_at d.parts d.section)
unfolding next_byte_offset
place_bytes d = size_at-get d.parts d.section ∙ size_bytes d.parts d.section

-- ---- valid items
abbrev pub GoodItem : List SymbolData → DraftData → ItemData → Type 0
GoodItem labels d (code k f r) = AddedBytesFitSymbol (code_bytes labels d k f r) r
GoodItem labels d (bytes bs r) = AddedBytesFitSymbol bs r
GoodItem labels d _ = Unit {0}

abbrev pub GoodItems : List SymbolData → DraftData → List ItemData → Type 0
GoodItems labels d [] = Unit {0}
GoodItems labels d (i ∷ is) = GoodItem labels d i × GoodItems labels (draft_after_item labels d i) is

abbrev a_use : ℕ → ReferenceData → UseData
a_use n r = record { offset = n; reference = r }

-- ---- a further item
pub fits : (a b : ℕ) → 15 ≤ min a b → 15 ≤ a
fits a b h = omega arith

pub fits_too : (a b : ℕ) → 15 ≤ min a b → 15 ≤ b
fits_too a b h = omega arith

pub then_fifteen : (b : Bool) (n : ℕ) → n < 15 → 15 ≤ cond b 15 n → b ≡ true
then_fifteen true n less h = refl
then_fifteen false n less h = absurd (omega arith)

module _ (s : ℕ) where
  -- bytes without a symbol
  bytes_uses : (d : DraftData) (bs : List ℕ) → uses_in (with_bytes_if_room d bs).parts s ≡ uses_in d.parts s
  unfolding with_bytes_if_room with_section_bytes
  bytes_uses d bs =
      by_test (λ (e : DraftData). uses_in e.parts s ≡ uses_in d.parts s) (has_current_section d && has_room d (length bs)) _ d
      (λ b. ap (λ (ps : List DraftSectionData). uses_in ps s) (changed-set (λ p. record p { bytes = p.bytes ++ bs }) d.parts d.section) ∙ uses_in-same (λ p. record p { bytes = p.bytes ++ bs }) (λ p. refl) d.parts d.section s)
      (λ b. refl)

  -- a statement that doesn't wait has no use
  closed_uses : (n : ℕ) (d : DraftData) (bs : List ℕ) (o : Option ReferenceData) → has_unresolved_symbol o ≡ false → uses_from s n (statement_if_room d (Some (statement_data d.section bs o))) ≡ []
  closed_uses n d bs o closed = by (has_current_section d && has_room d (length bs))
    where
      none : (p : Option ReferenceData) → has_unresolved_symbol p ≡ false → use_at n p ≡ []
      none None e = refl
      none (Some r) e = ap (λ b. cond b (record { offset = n; reference = r } ∷ []) []) e

      one : (b : Bool) → cond b (use_at n o ++ []) [] ≡ []
      one true = append-nil (use_at n o) ∙ none o closed
      one false = refl

      by : (b : Bool) → uses_from s n (cond b (statement_data d.section bs o ∷ []) []) ≡ []
      by true = one (d.section == s)
      by false = refl

  -- bytes with a symbol
  module _ (d : DraftData) (bs : List ℕ) (r : ReferenceData) where
    abbrev seen_draft : DraftData
    seen_draft = record d { symbols = with_name d.symbols r.name }

    used_parts : d.section < length d.parts → uses_in (with_section_use d.parts d.section (record { offset = next_byte_offset d; reference = r })) s ≡ uses_in d.parts s ++ cond (d.section == s) (record { offset = next_byte_offset d; reference = r } ∷ []) []
    unfolding with_section_use
    used_parts less =
        ap (λ (ps : List DraftSectionData). uses_in ps s) (changed-set (λ p. record p { uses = p.uses ++ record { offset = next_byte_offset d; reference = r } ∷ [] }) d.parts d.section)
        ∙ uses_in-grown (record { offset = next_byte_offset d; reference = r } ∷ []) d.parts d.section s less

    open_uses : has_current_section d ≡ true → has_room d (length bs) ≡ true → length bs ≡ 4 → is_relocation_kind r.kind ≡ true → nat_lt d.count 65535 ≡ true
        → uses_in (with_reloc_use seen_draft (length bs) r).parts s ≡ uses_in d.parts s ++ cond (d.section == s) (record { offset = next_byte_offset d; reference = r } ∷ []) []
    unfolding with_reloc_use next_byte_offset
    open_uses there room four kind few =
        ap (λ b. uses_in (cond b (record seen_draft { parts = with_section_use d.parts d.section (record { offset = next_byte_offset d; reference = r }); count = d.count + 1 }) seen_draft).parts s)
        (all_true (has_current_section d) (has_room d (length bs)) (length bs == 4) (is_relocation_kind r.kind) (nat_lt d.count 65535) there room ((Decides-eqb (length bs) 4).1 four) kind few)
        ∙ used_parts (ltb-true d.section (length d.parts) there)
      where
        all_true : (a b c e f : Bool) → a ≡ true → b ≡ true → c ≡ true → e ≡ true → f ≡ true → (a && b && c && e && f) ≡ true
        all_true a b c e f p q x y z = rw (p, q, x, y, z) refl

    closed_use : is_relocation_kind r.kind ≡ false → uses_in (with_reloc_use seen_draft (length bs) r).parts s ≡ uses_in d.parts s
    unfolding with_reloc_use
    closed_use kind =
        by_test (λ (e : DraftData). uses_in e.parts s ≡ uses_in d.parts s) (has_current_section d && has_room d (length bs) && length bs == 4 && is_relocation_kind r.kind && nat_lt d.count 65535) _ seen_draft
        (λ b. let p = and_parts _ _ (and_parts _ _ b).0 in absurd (not_both (is_relocation_kind r.kind) p.1 kind))
        (λ b. refl)
      where
        not_both : (b : Bool) → b ≡ true → b ≡ false → ⊥
        not_both b e f = cc

    -- a statement that waits
    waiting : AddedBytesFitSymbol bs (Some r) → 15 ≤ rule_broken_by_content d (length bs) (Some r) → is_relocation_kind r.kind ≡ true
        → uses_in (with_content d bs (Some r)).parts s ≡ uses_in d.parts s ++ uses_from s (length (draft_section_bytes_at d.parts s)) (statement_if_room d (Some (statement_data d.section bs (Some r))))
    unfolding with_reference
    waiting good rule kind =
        let rest = fits_too (rule_broken_before_section d) (min (rule_broken_by_byte_count d (length bs)) (rule_broken_by_reference d (Some r))) rule in
        let there : has_current_section d ≡ true = then_fifteen (has_current_section d) 8 (omega arith) (fits (rule_broken_before_section d) (min (rule_broken_by_byte_count d (length bs)) (rule_broken_by_reference d (Some r))) rule) in
        let room : has_room d (length bs) ≡ true = then_fifteen (has_room d (length bs)) 13 (omega arith) (fits (rule_broken_by_byte_count d (length bs)) (rule_broken_by_reference d (Some r)) rest) in
        let reloc = fits_too (rule_broken_by_symbol_count d r.name) (rule_broken_by_reloc_count d r) (fits_too (rule_broken_by_byte_count d (length bs)) (rule_broken_by_reference d (Some r)) rest) in
        let few : nat_lt d.count 65535 ≡ true = by_count (nat_lt d.count 65535) (is_relocation_kind r.kind) kind reloc in
        bytes_uses (with_reference d (length bs) (Some r)) bs
        ∙ ap (λ b. uses_in (cond b (with_reloc_use seen_draft (length bs) r) d).parts s) (good.named r refl kind)
        ∙ open_uses there room (good.four kind) kind few
        ∙ ap (λ (us : List UseData). uses_in d.parts s ++ us) (standing_uses there room kind)
      where
        by_count : (few kind : Bool) → kind ≡ true → 15 ≤ cond (kind && not few) 13 15 → few ≡ true
        by_count true kind k h = refl
        by_count false true k h = absurd (omega arith)
        by_count false false k h = cc

        standing_uses : has_current_section d ≡ true → has_room d (length bs) ≡ true → is_relocation_kind r.kind ≡ true
            → cond {A = List UseData} (d.section == s) (a_use (next_byte_offset d) r ∷ []) [] ≡ uses_from s (length (draft_section_bytes_at d.parts s)) (statement_if_room d (Some (statement_data d.section bs (Some r))))
        standing_uses there room kind =
            by_section (d.section == s) refl
            ∙ ap (λ b. uses_from s (length (draft_section_bytes_at d.parts s)) (cond b (statement_data d.section bs (Some r) ∷ []) [])) (sym (and_from (has_current_section d) (has_room d (length bs)) there room))
          where
            by_section : (b : Bool) → (d.section == s) ≡ b → cond {A = List UseData} b (a_use (next_byte_offset d) r ∷ []) [] ≡ cond {A = List UseData} b (cond {A = List UseData} (is_relocation_kind r.kind) (a_use (length (draft_section_bytes_at d.parts s)) r ∷ []) [] ++ []) []
            by_section true e =
                let same : d.section ≡ s = (Decides-eqb d.section s).0 e in
                ap (λ n. a_use n r ∷ []) (place_bytes d ∙ ap (λ n. length (draft_section_bytes_at d.parts n)) same)
                ∙ ap (λ b. cond {A = List UseData} b (a_use (length (draft_section_bytes_at d.parts s)) r ∷ []) [] ++ []) (sym kind)
            by_section false e = refl

    -- a statement that doesn't wait
    done : is_relocation_kind r.kind ≡ false → uses_in (with_content d bs (Some r)).parts s ≡ uses_in d.parts s ++ uses_from s (length (draft_section_bytes_at d.parts s)) (statement_if_room d (Some (statement_data d.section bs (Some r))))
    unfolding with_reference
    done kind =
        bytes_uses (with_reference d (length bs) (Some r)) bs
        ∙ by_test (λ (e : DraftData). uses_in e.parts s ≡ uses_in d.parts s) (is_source_name r.name) (with_reloc_use seen_draft (length bs) r) d (λ b. closed_use kind) (λ b. refl)
        ∙ sym (append-nil (uses_in d.parts s))
        ∙ ap (λ (us : List UseData). uses_in d.parts s ++ us) (sym (closed_uses (length (draft_section_bytes_at d.parts s)) d bs (Some r) kind))

  content_uses : (d : DraftData) (bs : List ℕ) (o : Option ReferenceData) → AddedBytesFitSymbol bs o → 15 ≤ rule_broken_by_content d (length bs) o
      → uses_in (with_content d bs o).parts s ≡ uses_in d.parts s ++ uses_from s (length (draft_section_bytes_at d.parts s)) (statement_if_room d (Some (statement_data d.section bs o)))
  unfolding with_reference
  content_uses d bs None good rule =
      bytes_uses d bs ∙ sym (append-nil (uses_in d.parts s)) ∙ ap (λ (us : List UseData). uses_in d.parts s ++ us) (sym (closed_uses (length (draft_section_bytes_at d.parts s)) d bs None refl))
  content_uses d bs (Some r) good rule = by (is_relocation_kind r.kind) refl
    where
      by : (b : Bool) → is_relocation_kind r.kind ≡ b → uses_in (with_content d bs (Some r)).parts s ≡ uses_in d.parts s ++ uses_from s (length (draft_section_bytes_at d.parts s)) (statement_if_room d (Some (statement_data d.section bs (Some r))))
      by true k = waiting d bs r good rule k
      by false k = done d bs r k

  none_more : (d e : DraftData) → uses_in e.parts s ≡ uses_in d.parts s → uses_in e.parts s ≡ uses_in d.parts s ++ []
  none_more d e h = h ∙ sym (append-nil (uses_in d.parts s))

  label_uses : (d : DraftData) (name : List ℕ) → uses_in (with_label d name).parts s ≡ uses_in d.parts s
  unfolding with_label
  label_uses d name = by_test (λ (e : DraftData). uses_in e.parts s ≡ uses_in d.parts s) _ _ d (λ b. refl) (λ b. refl)

  global_uses : (d : DraftData) (name : List ℕ) → uses_in (with_global d name).parts s ≡ uses_in d.parts s
  unfolding with_global
  global_uses d name = by_test (λ (e : DraftData). uses_in e.parts s ≡ uses_in d.parts s) _ _ d (λ b. refl) (λ b. refl)

  entered_uses : (d : DraftData) (name : List ℕ) → uses_in (with_current_section d name).parts s ≡ uses_in d.parts s
  unfolding with_current_section
  entered_uses d name =
      by_test (λ (e : DraftData). uses_in e.parts s ≡ uses_in d.parts s) (not (is_source_name name)) d (cond (nat_lt (section_number d.parts name) (length d.parts)) (record d { section = section_number d.parts name }) (cond (nat_lt (length d.parts) 64) (record d { section = length d.parts; parts = d.parts ++ draft_section name [] [] ∷ [] }) d)) (λ b. refl) (λ b.
      by_test (λ (e : DraftData). uses_in e.parts s ≡ uses_in d.parts s) (nat_lt (section_number d.parts name) (length d.parts)) (record d { section = section_number d.parts name }) (cond (nat_lt (length d.parts) 64) (record d { section = length d.parts; parts = d.parts ++ draft_section name [] [] ∷ [] }) d) (λ c. refl) (λ c.
      by_test (λ (e : DraftData). uses_in e.parts s ≡ uses_in d.parts s) (nat_lt (length d.parts) 64) (record d { section = length d.parts; parts = d.parts ++ draft_section name [] [] ∷ [] }) d (λ f. uses_in-push d.parts (draft_section name [] []) s refl) (λ f. refl)))

  stepped_uses : (labels : List SymbolData) (d : DraftData) (i : ItemData) → GoodItem labels d i → 15 ≤ rule_broken_by_item labels d i
      → uses_in (draft_after_item labels d i).parts s ≡ uses_in d.parts s ++ uses_from s (length (draft_section_bytes_at d.parts s)) (statement_if_room d (statement_of_item labels d i))
  unfolding draft_after_item rule_broken_by_item
  stepped_uses labels d (label name) good rule = none_more d (with_label d name) (label_uses d name)
  stepped_uses labels d (section name) good rule = none_more d (with_current_section d name) (entered_uses d name)
  stepped_uses labels d (global name) good rule = none_more d (with_global d name) (global_uses d name)
  stepped_uses labels d (code k f r) good rule = content_uses d (code_bytes labels d k f r) r good (fits_too _ (rule_broken_by_content d (length (code_bytes labels d k f r)) r) rule)
  stepped_uses labels d (bytes bs r) good rule = content_uses d bs r good rule
  stepped_uses labels d (zeros n) good rule =
      bytes_uses d (replicate n 0) ∙ sym (append-nil (uses_in d.parts s))
      ∙ ap (λ (us : List UseData). uses_in d.parts s ++ us) (sym (closed_uses (length (draft_section_bytes_at d.parts s)) d (replicate n 0) None refl))

  -- ---- all items
  uses-append : (n : ℕ) (xs ys : List StatementData) → uses_from s n (xs ++ ys) ≡ uses_from s n xs ++ uses_from s (n + length (section_bytes s xs)) ys
  uses-append n [] ys = let none : n ≡ n + 0 = omega arith in ap (λ k. uses_from s k ys) none
  uses-append n (x ∷ xs) ys = by (x.section == s) (λ m. uses-append m xs ys)
    where
      by : (b : Bool) → ((m : ℕ) → uses_from s m (xs ++ ys) ≡ uses_from s m xs ++ uses_from s (m + length (section_bytes s xs)) ys)
          → cond b (use_at n x.reference ++ uses_from s (n + length x.bytes) (xs ++ ys)) (uses_from s n (xs ++ ys))
          ≡ cond b (use_at n x.reference ++ uses_from s (n + length x.bytes) xs) (uses_from s n xs) ++ uses_from s (n + length (cond b x.bytes [] ++ section_bytes s xs)) ys
      by true rec =
          let far : n + length x.bytes + length (section_bytes s xs) ≡ n + length (x.bytes ++ section_bytes s xs) = omega (arith, length-append x.bytes (section_bytes s xs)) in
          ap (λ (us : List UseData). use_at n x.reference ++ us) (rec (n + length x.bytes))
          ∙ sym (append_assoc (use_at n x.reference) (uses_from s (n + length x.bytes) xs) (uses_from s (n + length x.bytes + length (section_bytes s xs)) ys))
          ∙ ap (λ k. (use_at n x.reference ++ uses_from s (n + length x.bytes) xs) ++ uses_from s k ys) far
      by false rec = rec n

  -- the statements of two lists of items
  pub statements-append : (labels : List SymbolData) (d : DraftData) (xs ys : List ItemData) → statements_from labels d (xs ++ ys) ≡ statements_from labels d xs ++ statements_from labels (fold (draft_after_item labels) d xs) ys
  statements-append labels d [] ys = refl
  statements-append labels d (x ∷ xs) ys =
      ap (λ (ts : List StatementData). statement_if_room d (statement_of_item labels d x) ++ ts) (statements-append labels (draft_after_item labels d x) xs ys)
      ∙ sym (append_assoc (statement_if_room d (statement_of_item labels d x)) (statements_from labels (draft_after_item labels d x) xs) (statements_from labels (fold (draft_after_item labels) (draft_after_item labels d x) xs) ys))

  -- the bytes of items in a section
  pub items_bytes : (labels : List SymbolData) (is : List ItemData) → draft_section_bytes_at (fold (draft_after_item labels) empty_draft is).parts s ≡ section_bytes s (statements_from labels empty_draft is)
  unfolding draft_after_line
  items_bytes labels is =
      drafted-bytes labels (record { rule = 15; items = is } ∷ []) s ∙ ap (λ (l : List ItemData). section_bytes s (statements_from labels empty_draft l)) (append-nil is)

  items_uses : (labels : List SymbolData) (before rest : List ItemData) → GoodItems labels (fold (draft_after_item labels) empty_draft before) rest → 15 ≤ rule_broken_by_items labels (fold (draft_after_item labels) empty_draft before) rest
      → uses_in (fold (draft_after_item labels) empty_draft before).parts s ≡ uses_from s 0 (statements_from labels empty_draft before)
      → uses_in (fold (draft_after_item labels) empty_draft (before ++ rest)).parts s ≡ uses_from s 0 (statements_from labels empty_draft (before ++ rest))
  items_uses labels before [] good rule h = ap (λ (l : List ItemData). uses_in (fold (draft_after_item labels) empty_draft l).parts s) (append-nil before) ∙ h ∙ ap (λ (l : List ItemData). uses_from s 0 (statements_from labels empty_draft l)) (sym (append-nil before))
  items_uses labels before (i ∷ is) good rule h =
      let d : DraftData = fold (draft_after_item labels) empty_draft before in
      let next : List ItemData = before ++ i ∷ [] in
      let step : fold (draft_after_item labels) empty_draft next ≡ draft_after_item labels d i = fold-append (draft_after_item labels) empty_draft before (i ∷ []) in
      let more : statements_from labels empty_draft next ≡ statements_from labels empty_draft before ++ statement_if_room d (statement_of_item labels d i)
      = statements-append labels empty_draft before (i ∷ []) ∙ ap (λ (ts : List StatementData). statements_from labels empty_draft before ++ ts) (append-nil (statement_if_room d (statement_of_item labels d i))) in
      let size : length (draft_section_bytes_at d.parts s) ≡ 0 + length (section_bytes s (statements_from labels empty_draft before)) = omega (arith, ap length (items_bytes labels before)) in
      let here : uses_in (fold (draft_after_item labels) empty_draft next).parts s ≡ uses_from s 0 (statements_from labels empty_draft next)
      = ap (λ (e : DraftData). uses_in e.parts s) step
      ∙ stepped_uses labels d i good.0 (fits (rule_broken_by_item labels d i) (rule_broken_by_items labels (draft_after_item labels d i) is) rule)
      ∙ ap (λ (us : List UseData). us ++ uses_from s (length (draft_section_bytes_at d.parts s)) (statement_if_room d (statement_of_item labels d i))) h
      ∙ ap (λ n. uses_from s 0 (statements_from labels empty_draft before) ++ uses_from s n (statement_if_room d (statement_of_item labels d i))) size
      ∙ sym (uses-append 0 (statements_from labels empty_draft before) (statement_if_room d (statement_of_item labels d i)))
      ∙ ap (λ (ts : List StatementData). uses_from s 0 ts) (sym more) in
      let G : DraftData → Type 0 = λ e. GoodItems labels e is in
      let R : DraftData → Type 0 = λ e. 15 ≤ rule_broken_by_items labels e is in
      ap (λ (l : List ItemData). uses_in (fold (draft_after_item labels) empty_draft l).parts s) (sym (append_assoc before (i ∷ []) is))
      ∙ items_uses labels next is (subst G (sym step) good.1) (subst R (sym step) (fits_too (rule_broken_by_item labels d i) (rule_broken_by_items labels (draft_after_item labels d i) is) rule)) here
      ∙ ap (λ (l : List ItemData). uses_from s 0 (statements_from labels empty_draft l)) (append_assoc before (i ∷ []) is)

  pub all_uses : (labels : List SymbolData) (is : List ItemData) → GoodItems labels empty_draft is → 15 ≤ rule_broken_by_items labels empty_draft is → uses_in (fold (draft_after_item labels) empty_draft is).parts s ≡ uses_from s 0 (statements_from labels empty_draft is)
  all_uses labels is good rule = items_uses labels [] is good rule refl
