-- A section is the bytes of its statements in order.
use Rattle.std.proofs.Common.{◌≡◌, ◌<◌, ◌+◌, ◌^◌, zero, suc, ℕ, Bool, true, false, cond, List, [], ◌∷◌, ◌++◌, length, replicate, Option, Some, None, refl, ap, sym, ◌∙◌, append_assoc, append-nil, arith, ◌&&◌, ◌==◌, length-append, take, drop}
use Rattle.std.specs.Prelude.{fold, nat_lt, nat_le, not, slice_get}
use Rattle.std.proofs.Math.Dec.{eqb-zero-suc, eqb-suc-zero, eqb-suc-suc}
use Rattle.std.proofs.lemmas.Bool.{ltb-true, and_parts}
use Rattle.std.proofs.lemmas.Bool.Decides.{Decides-eqb}
use Rattle.std.proofs.lemmas.List.Concat.{flat_map-append}
use Rattle.std.proofs.lemmas.List.Sums.{fold-append}
use Rattle.tc_stmt.specs.Names.{is_source_name}
use Rattle.tc_stmt.specs.Items.{ReferenceData, ItemData, label, section, global, code, bytes, zeros}
use Rattle.tc_stmt.specs.Lines.{LineData, items_in}
use Rattle.tc_asm.specs.Symbols.{SymbolData, with_name}
use Rattle.tc_asm.specs.Drafts.{DraftSectionData, DraftData, draft_section, empty_draft, next_byte_offset, has_current_section, has_room, with_label, section_number, with_current_section, with_global, with_section_bytes, with_bytes_if_room, with_section_use, with_reloc_use, with_reference, code_bytes, draft_after_item, draft_section_bytes_at}
use Rattle.tc_asm.specs.DraftedSources.{draft_from_lines, draft_after_line}
use Rattle.tc_asm.specs.Statements.{StatementData, statement_data, statement_of_item, statement_if_room, statements_from, statements_of_lines, section_bytes, statement_offset}
use Rattle.tc_stmt.proofs.Cases.{by_test}
use Rattle.tc_asm.proofs.ListLaws.{changed, changed-set, length-changed}

bytes_at-push : (ps : List DraftSectionData) (p : DraftSectionData) (s : ℕ) → p.bytes ≡ [] → draft_section_bytes_at (ps ++ p ∷ []) s ≡ draft_section_bytes_at ps s
bytes_at-push [] p zero e = e
bytes_at-push [] p (suc s) e = refl
bytes_at-push (x ∷ xs) p zero e = refl
bytes_at-push (x ∷ xs) p (suc s) e = bytes_at-push xs p s e

bytes_at-same : (f : DraftSectionData → DraftSectionData) → ((p : DraftSectionData) → (f p).bytes ≡ p.bytes) → (ps : List DraftSectionData) (i s : ℕ) → draft_section_bytes_at (changed f ps i) s ≡ draft_section_bytes_at ps s
bytes_at-same f h [] i s = refl
bytes_at-same f h (p ∷ ps) zero zero = h p
bytes_at-same f h (p ∷ ps) zero (suc s) = refl
bytes_at-same f h (p ∷ ps) (suc i) zero = refl
bytes_at-same f h (p ∷ ps) (suc i) (suc s) = bytes_at-same f h ps i s

bytes_at-grown : (bs : List ℕ) (ps : List DraftSectionData) (i s : ℕ) → i < length ps → draft_section_bytes_at (changed (λ p. record p { bytes = p.bytes ++ bs }) ps i) s ≡ draft_section_bytes_at ps s ++ cond (i == s) bs []
bytes_at-grown bs [] i s h = absurd (omega arith)
bytes_at-grown bs (p ∷ ps) zero zero h = refl
bytes_at-grown bs (p ∷ ps) zero (suc s) h = rw (eqb-zero-suc s) (sym (append-nil (draft_section_bytes_at ps s)))
bytes_at-grown bs (p ∷ ps) (suc i) zero h = rw (eqb-suc-zero i) (sym (append-nil p.bytes))
bytes_at-grown bs (p ∷ ps) (suc i) (suc s) h = rw (eqb-suc-suc i s) (bytes_at-grown bs ps i s (omega arith))

-- a symbol leaves sections and bytes as they are
record Keeps (d e : DraftData) : Type 0 where
  same_section : e.section ≡ d.section
  same_count : length e.parts ≡ length d.parts
  same_total : e.total ≡ d.total
  same_bytes : (s : ℕ) → draft_section_bytes_at e.parts s ≡ draft_section_bytes_at d.parts s

Keeps-use : (d : DraftData) (n : ℕ) (r : ReferenceData) → Keeps d (with_reloc_use d n r)
unfolding with_reloc_use with_section_use
Keeps-use d n r =
    by_test (λ (e : DraftData). Keeps d e) _ _ d
    (λ b. record {
      same_section = refl;
      same_count = ap length (changed-set add d.parts d.section) ∙ length-changed add d.parts d.section;
      same_total = refl;
      same_bytes = λ s. ap (λ ps. draft_section_bytes_at ps s) (changed-set add d.parts d.section) ∙ bytes_at-same add (λ p. refl) d.parts d.section s;
    })
    (λ b. record { same_section = refl; same_count = refl; same_total = refl; same_bytes = λ s. refl })
  where
    add : DraftSectionData → DraftSectionData
    add p = record p { uses = p.uses ++ record { offset = next_byte_offset d; reference = r } ∷ [] }

Keeps-reference : (d : DraftData) (n : ℕ) (o : Option ReferenceData) → Keeps d (with_reference d n o)
unfolding with_reference
Keeps-reference d n None = record { same_section = refl; same_count = refl; same_total = refl; same_bytes = λ s. refl }
Keeps-reference d n (Some r) =
    by_test (λ (e : DraftData). Keeps d e) (is_source_name r.name) (with_reloc_use (record d { symbols = with_name d.symbols r.name }) n r) d
    (λ b. let k = Keeps-use (record d { symbols = with_name d.symbols r.name }) n r in record { same_section = k.same_section; same_count = k.same_count; same_total = k.same_total; same_bytes = k.same_bytes })
    (λ b. record { same_section = refl; same_count = refl; same_total = refl; same_bytes = λ s. refl })

module _ (s : ℕ) where
  grown_bytes : (d e : DraftData) (bs : List ℕ) (r : Option ReferenceData) → Keeps d e
      → draft_section_bytes_at (with_bytes_if_room e bs).parts s ≡ draft_section_bytes_at d.parts s ++ section_bytes s (statement_if_room d (Some (statement_data d.section bs r)))
  unfolding with_bytes_if_room with_section_bytes
  grown_bytes d e bs r k =
      let same : (has_current_section e && has_room e (length bs)) ≡ (has_current_section d && has_room d (length bs))
      = ap (λ n. nat_lt n (length e.parts) && has_room e (length bs)) k.same_section ∙ ap (λ n. nat_lt d.section n && has_room e (length bs)) k.same_count
      ∙ ap (λ n. nat_lt d.section (length d.parts) && nat_le (n + length bs) (2 ^ 24)) k.same_total in
      by (has_current_section d && has_room d (length bs)) same refl
    where
      by : (b : Bool) → (has_current_section e && has_room e (length bs)) ≡ b → (has_current_section d && has_room d (length bs)) ≡ b
          → draft_section_bytes_at (with_bytes_if_room e bs).parts s ≡ draft_section_bytes_at d.parts s ++ section_bytes s (cond b (statement_data d.section bs r ∷ []) [])
      by true h g =
          let less : e.section < length e.parts = ltb-true e.section (length e.parts) (and_parts _ _ h).0 in
          rw h (ap (λ ps. draft_section_bytes_at ps s) (changed-set (λ p. record p { bytes = p.bytes ++ bs }) e.parts e.section)
          ∙ bytes_at-grown bs e.parts e.section s less
          ∙ ap (λ xs. xs ++ cond (e.section == s) bs []) (k.same_bytes s)
          ∙ ap (λ n. draft_section_bytes_at d.parts s ++ cond (n == s) bs []) k.same_section
          ∙ ap (λ xs. draft_section_bytes_at d.parts s ++ xs) (sym (append-nil (cond (d.section == s) bs []))))
      by false h g = rw h (k.same_bytes s ∙ sym (append-nil (draft_section_bytes_at d.parts s)))

  keeps_same : (d : DraftData) → Keeps d d
  keeps_same d = record { same_section = refl; same_count = refl; same_total = refl; same_bytes = λ q. refl }

  label-bytes : (d : DraftData) (name : List ℕ) → draft_section_bytes_at (with_label d name).parts s ≡ draft_section_bytes_at d.parts s ++ []
  unfolding with_label
  label-bytes d name = by_test (λ (e : DraftData). draft_section_bytes_at e.parts s ≡ draft_section_bytes_at d.parts s ++ []) _ _ d (λ b. sym (append-nil (draft_section_bytes_at d.parts s))) (λ b. sym (append-nil (draft_section_bytes_at d.parts s)))

  global-bytes : (d : DraftData) (name : List ℕ) → draft_section_bytes_at (with_global d name).parts s ≡ draft_section_bytes_at d.parts s ++ []
  unfolding with_global
  global-bytes d name = by_test (λ (e : DraftData). draft_section_bytes_at e.parts s ≡ draft_section_bytes_at d.parts s ++ []) _ _ d (λ b. sym (append-nil (draft_section_bytes_at d.parts s))) (λ b. sym (append-nil (draft_section_bytes_at d.parts s)))

  entered-bytes : (d : DraftData) (name : List ℕ) → draft_section_bytes_at (with_current_section d name).parts s ≡ draft_section_bytes_at d.parts s ++ []
  unfolding with_current_section
  entered-bytes d name =
      by_test (λ (e : DraftData). draft_section_bytes_at e.parts s ≡ draft_section_bytes_at d.parts s ++ []) (not (is_source_name name)) d (cond (nat_lt (section_number d.parts name) (length d.parts)) (record d { section = section_number d.parts name }) (cond (nat_lt (length d.parts) 64) (record d { section = length d.parts; parts = d.parts ++ draft_section name [] [] ∷ [] }) d)) (λ b. same) (λ b.
      by_test (λ (e : DraftData). draft_section_bytes_at e.parts s ≡ draft_section_bytes_at d.parts s ++ []) (nat_lt (section_number d.parts name) (length d.parts)) (record d { section = section_number d.parts name }) (cond (nat_lt (length d.parts) 64) (record d { section = length d.parts; parts = d.parts ++ draft_section name [] [] ∷ [] }) d) (λ c. same) (λ c.
      by_test (λ (e : DraftData). draft_section_bytes_at e.parts s ≡ draft_section_bytes_at d.parts s ++ []) (nat_lt (length d.parts) 64) (record d { section = length d.parts; parts = d.parts ++ draft_section name [] [] ∷ [] }) d (λ f. bytes_at-push d.parts (draft_section name [] []) s refl ∙ same) (λ f. same)))
    where
      same : draft_section_bytes_at d.parts s ≡ draft_section_bytes_at d.parts s ++ []
      same = sym (append-nil (draft_section_bytes_at d.parts s))

  stepped-bytes : (labels : List SymbolData) (d : DraftData) (i : ItemData) → draft_section_bytes_at (draft_after_item labels d i).parts s ≡ draft_section_bytes_at d.parts s ++ section_bytes s (statement_if_room d (statement_of_item labels d i))
  unfolding draft_after_item
  stepped-bytes labels d (label name) = label-bytes d name
  stepped-bytes labels d (section name) = entered-bytes d name
  stepped-bytes labels d (global name) = global-bytes d name
  stepped-bytes labels d (code k f r) = grown_bytes d (with_reference d (length (code_bytes labels d k f r)) r) (code_bytes labels d k f r) r (Keeps-reference d (length (code_bytes labels d k f r)) r)
  stepped-bytes labels d (bytes bs r) = grown_bytes d (with_reference d (length bs) r) bs r (Keeps-reference d (length bs) r)
  stepped-bytes labels d (zeros n) = grown_bytes d d (replicate n 0) None (keeps_same d)

  from-bytes : (labels : List SymbolData) (is : List ItemData) (d : DraftData) → draft_section_bytes_at (fold (draft_after_item labels) d is).parts s ≡ draft_section_bytes_at d.parts s ++ section_bytes s (statements_from labels d is)
  from-bytes labels [] d = sym (append-nil (draft_section_bytes_at d.parts s))
  from-bytes labels (i ∷ is) d =
      from-bytes labels is (draft_after_item labels d i)
      ∙ ap (λ bs. bs ++ section_bytes s (statements_from labels (draft_after_item labels d i) is)) (stepped-bytes labels d i)
      ∙ append_assoc (draft_section_bytes_at d.parts s) (section_bytes s (statement_if_room d (statement_of_item labels d i))) (section_bytes s (statements_from labels (draft_after_item labels d i) is))
      ∙ ap (λ bs. draft_section_bytes_at d.parts s ++ bs) (sym (flat_map-append (λ (t : StatementData). cond (t.section == s) t.bytes []) (statement_if_room d (statement_of_item labels d i)) (statements_from labels (draft_after_item labels d i) is)))

-- the items of all lines, in order
pub lines-items : (labels : List SymbolData) (lines : List LineData) (d : DraftData) → fold (draft_after_line labels) d lines ≡ fold (draft_after_item labels) d (items_in lines)
unfolding draft_after_line
lines-items labels [] d = refl
lines-items labels (l ∷ ls) d = lines-items labels ls (fold (draft_after_item labels) d l.items) ∙ sym (fold-append (draft_after_item labels) d l.items (items_in ls))

-- a section of a draft is the bytes of its statements in order
pub drafted-bytes : (labels : List SymbolData) (lines : List LineData) (s : ℕ) → draft_section_bytes_at (draft_from_lines labels lines).parts s ≡ section_bytes s (statements_of_lines labels lines)
drafted-bytes labels lines s = ap (λ (d : DraftData). draft_section_bytes_at d.parts s) (lines-items labels lines empty_draft) ∙ from-bytes s labels (items_in lines) empty_draft

-- ---- offsets
take-front : (xs ys : List ℕ) → take (length xs) (xs ++ ys) ≡ xs
take-front [] ys = refl
take-front (x ∷ xs) ys = ap (λ zs. x ∷ zs) (take-front xs ys)

drop-behind : (xs ys : List ℕ) (m n : ℕ) → m ≡ length xs + n → drop m (xs ++ ys) ≡ drop n ys
drop-behind [] ys m n e = let same : m ≡ n = omega arith in ap (λ k. drop k ys) same
drop-behind (x ∷ xs) ys zero n e = absurd (omega arith)
drop-behind (x ∷ xs) ys (suc m) n e = drop-behind xs ys m n (omega arith)

-- a statement's bytes are at its offset
pub stands : (ts : List StatementData) (place : ℕ) (t : StatementData) → slice_get ts place ≡ Some t
    → take (length t.bytes) (drop (statement_offset ts place t.section) (section_bytes t.section ts)) ≡ t.bytes
stands [] place t e = cc
stands (x ∷ xs) zero t e =
    let same : x ≡ t = cc in
    let here : section_bytes t.section (x ∷ xs) ≡ t.bytes ++ section_bytes t.section xs
    = ap (λ (u : StatementData). cond (u.section == t.section) u.bytes [] ++ section_bytes t.section xs) same
    ∙ ap (λ b. cond b t.bytes [] ++ section_bytes t.section xs) ((Decides-eqb t.section t.section).1 refl) in
    ap (λ bs. take (length t.bytes) bs) here ∙ take-front t.bytes (section_bytes t.section xs)
stands (x ∷ xs) (suc p) t e =
    ap (λ bs. take (length t.bytes) bs)
    (drop-behind (cond (x.section == t.section) x.bytes []) (section_bytes t.section xs) (statement_offset (x ∷ xs) (suc p) t.section) (statement_offset xs p t.section)
    (length-append (cond (x.section == t.section) x.bytes []) (section_bytes t.section (take p xs))))
    ∙ stands xs p t e
