-- The second pass over a source whose symbols are known.
use Rattle.std.proofs.Common.{◌≡◌, ◌≤◌, ◌<◌, ◌+◌, ◌&&◌, ◌||◌, ◌==◌, min, ℕ, Bool, true, false, cond, List, [], ◌∷◌, ◌++◌, length, map, get_or, take, drop, replicate, Option, Some, None, refl, sym, ap, ◌∙◌, arith}
use Rattle.std.specs.Prelude.{Result, Ok, Err, OnOk, IfOk, fold, is_some, nat_lt, not}
use Rattle.std.proofs.lemmas.Bool.{and_parts, and_from}
use Rattle.std.proofs.lemmas.List.{length-map, get_or-map, drop_all, take_all}
use Rattle.std.proofs.lemmas.List.Sums.{fold_more}
use Rattle.tc_isa.specs.declared.fields.Fields.{Fields}
use Rattle.tc_isa.specs.Relocations.{is_relocation_kind}
use Rattle.tc_stmt.specs.Names.{is_source_name}
use Rattle.tc_stmt.specs.RowFields.{RowFieldsData}
use Rattle.tc_stmt.specs.Items.{ReferenceData, ItemData, item_of, label, section, global, code, bytes, zeros}
use Rattle.tc_stmt.specs.declared.item.Item.{Item}
use Rattle.tc_stmt.specs.Lines.{LineData, line_data, lines_in, items_in}
use Rattle.tc_stmt.specs.SourceViews.{source_lines}
use Rattle.tc_stmt.specs.declared.source.Line.{Line}
use Rattle.tc_stmt.specs.declared.source.Source.{Source}
use Rattle.tc_stmt.proofs.ReadLines.{length-lines_read}
use Rattle.tc_asm.specs.ItemInvariants.{IsItemOfSomeLine}
use Rattle.tc_asm.specs.AlikeDrafts.{HaveSameSizesAndSymbols}
use Rattle.tc_asm.specs.DraftInvariants.{EachInDraft}
use Rattle.tc_asm.specs.Symbols.{SymbolData, entry_in, place_in, with_name, with_symbol_label, with_global_symbol}
use Rattle.tc_asm.specs.Drafts.{UseData, DraftData, draft_section, empty_draft, next_byte_offset, has_current_section, has_room, next_byte_place, with_label, section_number, with_current_section, with_global, with_section_bytes, with_bytes_if_room, with_section_use, with_reloc_use, with_reference, with_content, label_distance, fields_with_label_distance, row_fields_with_target, assembled_code, code_bytes, draft_after_item}
use Rattle.tc_asm.specs.DraftedSources.{draft_from_lines, draft_after_line, symbols_of_lines}
use Rattle.tc_asm.specs.Rules.{has_symbol_room, rule_broken_before_section, rule_broken_by_name, rule_broken_by_symbol_count, rule_broken_by_reloc_count, rule_broken_by_byte_count, rule_broken_by_undefined_global, rule_broken_by_content, rule_broken_by_item, rule_broken_by_items, rule_broken_by_line}
use Rattle.tc_asm.specs.KnownSymbols.{without_symbols, without_symbols_if, is_new_if_label, are_new_with_room, rule_broken_in_second_pass}
use Rattle.tc_asm.proofs.CodeLaws.{found_far}
use Rattle.tc_asm.proofs.AlikeDrafts.{alike_same, step_alike, passes_agree}
use Rattle.tc_asm.proofs.SourceItems.{source_are}
use Rattle.tc_asm.proofs.Passes.{item_here, drafted_more, behind_here}

-- ---- drafts without their symbols
same_cond : (b : Bool) (w x y z : DraftData) → without_symbols w ≡ without_symbols y → without_symbols x ≡ without_symbols z → without_symbols (cond b w x) ≡ without_symbols (cond b y z)
same_cond true w x y z h k = h
same_cond false w x y z h k = k

bytes_nameless : (d : DraftData) (bs : List ℕ) → without_symbols (with_bytes_if_room d bs) ≡ without_symbols (with_bytes_if_room (without_symbols d) bs)
unfolding with_bytes_if_room
bytes_nameless d bs =
    same_cond (has_current_section d && has_room d (length bs))
    (record d { parts = with_section_bytes d.parts d.section bs; total = d.total + length bs }) d
    (record (without_symbols d) { parts = with_section_bytes d.parts d.section bs; total = d.total + length bs }) (without_symbols d) refl refl

use_nameless : (d : DraftData) (n : ℕ) (r : ReferenceData) → without_symbols (with_reloc_use d n r) ≡ without_symbols (with_reloc_use (without_symbols d) n r)
unfolding with_reloc_use next_byte_offset
use_nameless d n r =
    let u : UseData = record { offset = next_byte_offset d; reference = r } in
    same_cond (has_current_section d && has_room d n && n == 4 && is_relocation_kind r.kind && nat_lt d.count 65535)
    (record d { parts = with_section_use d.parts d.section u; count = d.count + 1 }) d
    (record (without_symbols d) { parts = with_section_use d.parts d.section u; count = d.count + 1 }) (without_symbols d) refl refl

reference_nameless : (d : DraftData) (n : ℕ) (o : Option ReferenceData) → without_symbols (with_reference d n o) ≡ without_symbols (with_reference (without_symbols d) n o)
unfolding with_reference
reference_nameless d n None = refl
reference_nameless d n (Some r) =
    same_cond (is_source_name r.name)
    (with_reloc_use (record d { symbols = with_name d.symbols r.name }) n r) d
    (with_reloc_use (record d { symbols = with_name [] r.name }) n r) (without_symbols d)
    (use_nameless (record d { symbols = with_name d.symbols r.name }) n r ∙ sym (use_nameless (record d { symbols = with_name [] r.name }) n r))
    refl

content_nameless : (d : DraftData) (bs : List ℕ) (o : Option ReferenceData) → without_symbols (with_content d bs o) ≡ without_symbols (with_content (without_symbols d) bs o)
content_nameless d bs o =
    bytes_nameless (with_reference d (length bs) o) bs
    ∙ ap (λ (x : DraftData). without_symbols (with_bytes_if_room x bs)) (reference_nameless d (length bs) o)
    ∙ sym (bytes_nameless (with_reference (without_symbols d) (length bs) o) bs)

entered_nameless : (d : DraftData) (name : List ℕ) → without_symbols (with_current_section d name) ≡ without_symbols (with_current_section (without_symbols d) name)
unfolding with_current_section
entered_nameless d name =
    let old : DraftData → DraftData = λ e. record e { section = section_number d.parts name } in
    let new : DraftData → DraftData = λ e. record e { section = length d.parts; parts = d.parts ++ draft_section name [] [] ∷ [] } in
    let full : DraftData → DraftData = λ e. cond (nat_lt (length d.parts) 64) (new e) e in
    same_cond (not (is_source_name name)) d (cond (nat_lt (section_number d.parts name) (length d.parts)) (old d) (full d))
    (without_symbols d) (cond (nat_lt (section_number d.parts name) (length d.parts)) (old (without_symbols d)) (full (without_symbols d))) refl
    (same_cond (nat_lt (section_number d.parts name) (length d.parts)) (old d) (full d) (old (without_symbols d)) (full (without_symbols d)) refl
    (same_cond (nat_lt (length d.parts) 64) (new d) d (new (without_symbols d)) (without_symbols d) refl refl))

resolved_nameless : (labels : List SymbolData) (d : DraftData) (k : ℕ) (f : Fields) (o : Option ReferenceData) → row_fields_with_target labels d k f o ≡ row_fields_with_target labels (without_symbols d) k f o
unfolding fields_with_label_distance label_distance next_byte_offset
resolved_nameless labels d k f None = refl
resolved_nameless labels d k f (Some r) = refl

code_nameless : (labels : List SymbolData) (d : DraftData) (k : ℕ) (f : Fields) (o : Option ReferenceData) → code_bytes labels d k f o ≡ code_bytes labels (without_symbols d) k f o
unfolding code_bytes
code_nameless labels d k f o = ap (λ (x : RowFieldsData). assembled_code k x.fields) (resolved_nameless labels d k f o)

step_nameless : (labels : List SymbolData) (d : DraftData) (i : ItemData) → without_symbols (draft_after_item labels d i) ≡ without_symbols (draft_after_item labels (without_symbols d) i)
unfolding draft_after_item with_label with_global
step_nameless labels d (label name) =
    same_cond (is_source_name name) (record d { symbols = with_symbol_label d.symbols name (next_byte_place d) }) d (record d { symbols = with_symbol_label [] name (next_byte_place (without_symbols d)) }) (without_symbols d) refl refl
step_nameless labels d (section name) = entered_nameless d name
step_nameless labels d (global name) =
    same_cond (is_source_name name) (record d { symbols = with_global_symbol d.symbols name }) d (record d { symbols = with_global_symbol [] name }) (without_symbols d) refl refl
step_nameless labels d (code k f o) =
    content_nameless d (code_bytes labels d k f o) o ∙ ap (λ (bs : List ℕ). without_symbols (with_content (without_symbols d) bs o)) (code_nameless labels d k f o)
step_nameless labels d (bytes bs o) = content_nameless d bs o
step_nameless labels d (zeros n) = bytes_nameless d (replicate n 0)

-- a label and a global name change only symbols
unchanged : (b : Bool) (d : DraftData) (ss : List SymbolData) → without_symbols d ≡ without_symbols (cond b (record d { symbols = ss }) d)
unchanged true d ss = refl
unchanged false d ss = refl

pub label_unchanged : (labels : List SymbolData) (d : DraftData) (name : List ℕ) → without_symbols d ≡ without_symbols (draft_after_item labels d (label name))
unfolding draft_after_item with_label
label_unchanged labels d name = unchanged (is_source_name name) d (with_symbol_label d.symbols name (next_byte_place d))

pub global_unchanged : (labels : List SymbolData) (d : DraftData) (name : List ℕ) → without_symbols d ≡ without_symbols (draft_after_item labels d (global name))
unfolding draft_after_item with_global
global_unchanged labels d name = unchanged (is_source_name name) d (with_global_symbol d.symbols name)

-- the use of a symbol that is known
pub use_named : (d next : DraftData) (n : ℕ) (r : ReferenceData) (b : Bool) → b ≡ is_source_name r.name → b ≡ true → next ≡ with_reloc_use d n r → without_symbols next ≡ without_symbols (with_reference d n (Some r))
unfolding with_reference
use_named d next n r b is so used =
    ap without_symbols used
    ∙ use_nameless d n r
    ∙ sym (use_nameless (record d { symbols = with_name d.symbols r.name }) n r)
    ∙ ap (λ c. without_symbols (cond c (with_reloc_use (record d { symbols = with_name d.symbols r.name }) n r) d)) (sym so ∙ is)

pub use_unnamed : (d : DraftData) (n : ℕ) (r : ReferenceData) (b : Bool) → b ≡ is_source_name r.name → b ≡ false → without_symbols d ≡ without_symbols (with_reference d n (Some r))
unfolding with_reference
use_unnamed d n r b is unset = ap (λ c. without_symbols (cond c (with_reloc_use (record d { symbols = with_name d.symbols r.name }) n r) d)) (sym unset ∙ is)

-- bytes after it
pub use_bytes : (d mid next : DraftData) (bs : List ℕ) (o : Option ReferenceData) → without_symbols mid ≡ without_symbols (with_reference d (length bs) o) → next ≡ with_bytes_if_room mid bs
    → without_symbols next ≡ without_symbols (with_content d bs o)
use_bytes d mid next bs o used added =
    ap without_symbols added
    ∙ bytes_nameless mid bs
    ∙ ap (λ (x : DraftData). without_symbols (with_bytes_if_room x bs)) used
    ∙ sym (bytes_nameless (with_reference d (length bs) o) bs)

-- ---- what is kept of drafts
pub kept_step : (known : Bool) (labels : List SymbolData) (d e : DraftData) (i : ItemData) → without_symbols_if known d ≡ without_symbols_if known e → without_symbols_if known (draft_after_item labels d i) ≡ without_symbols_if known (draft_after_item labels e i)
kept_step true labels d e i h = step_nameless labels d i ∙ ap (λ (x : DraftData). without_symbols (draft_after_item labels x i)) h ∙ sym (step_nameless labels e i)
kept_step false labels d e i h = ap (λ (x : DraftData). draft_after_item labels x i) h

pub kept_fold : (known : Bool) (labels : List SymbolData) (is : List ItemData) (d e : DraftData) → without_symbols_if known d ≡ without_symbols_if known e
    → without_symbols_if known (fold (draft_after_item labels) d is) ≡ without_symbols_if known (fold (draft_after_item labels) e is)
kept_fold known labels [] d e h = h
kept_fold known labels (i ∷ is) d e h = kept_fold known labels is (draft_after_item labels d i) (draft_after_item labels e i) (kept_step known labels d e i h)

pub rule_same : (known : Bool) (labels : List SymbolData) (is : List ItemData) (d e : DraftData) → without_symbols_if known d ≡ without_symbols_if known e → rule_broken_in_second_pass known labels d is ≡ rule_broken_in_second_pass known labels e is
rule_same known labels [] d e h = refl
rule_same known labels (i ∷ is) d e h =
    ap (λ (x : DraftData). min (rule_broken_by_item labels x i) (rule_broken_in_second_pass known labels (draft_after_item labels d i) is)) h
    ∙ ap (min (rule_broken_by_item labels (without_symbols_if known e) i)) (rule_same known labels is (draft_after_item labels d i) (draft_after_item labels e i) (kept_step known labels d e i h))

-- ---- rules of symbols that are known
chosen : (a b : Bool) (x y : ℕ) → b ≡ true → cond (a || b) x y ≡ x
chosen true b x y e = refl
chosen false true x y e = refl
chosen false false x y e = cc

room_is : (d : DraftData) (name : List ℕ) → has_symbol_room d.symbols ≡ true → rule_broken_by_symbol_count d name ≡ 15
room_is d name h = chosen (is_some (entry_in d.symbols name)) (nat_lt (length d.symbols) 65535) 15 13 h

new_is : (b : Bool) (x y : ℕ) → not b ≡ true → cond b x y ≡ y
new_is true x y h = cc
new_is false x y h = refl

content_same : (d : DraftData) (n : ℕ) (o : Option ReferenceData) → has_symbol_room d.symbols ≡ true → rule_broken_by_content (without_symbols d) n o ≡ rule_broken_by_content d n o
content_same d n None room = refl
content_same d n (Some r) room =
    ap (λ k. min (rule_broken_before_section d) (min (rule_broken_by_byte_count d n) (min k (rule_broken_by_reloc_count d r)))) (room_is (without_symbols d) r.name refl ∙ sym (room_is d r.name room))

item_same : (labels : List SymbolData) (d : DraftData) (i : ItemData) → has_symbol_room d.symbols ≡ true → is_new_if_label d.symbols i ≡ true → rule_broken_by_item labels (without_symbols d) i ≡ rule_broken_by_item labels d i
unfolding rule_broken_by_item code_bytes
item_same labels d (label name) room new =
    ap (λ k. min (min 15 (rule_broken_before_section d)) (min (rule_broken_by_name name) k)) (room_is (without_symbols d) name refl ∙ sym (room_is d name room))
    ∙ ap (λ k. min (min k (rule_broken_before_section d)) (min (rule_broken_by_name name) (rule_broken_by_symbol_count d name))) (sym (new_is (is_some (place_in d.symbols name)) 7 15 new))
item_same labels d (section name) room new = refl
item_same labels d (global name) room new =
    ap (λ k. min (rule_broken_by_name name) (min k (rule_broken_by_undefined_global labels name))) (room_is (without_symbols d) name refl ∙ sym (room_is d name room))
item_same labels d (code k f o) room new =
    ap (λ (x : RowFieldsData). min x.rule (rule_broken_by_content (without_symbols d) (length (assembled_code k x.fields)) o)) (sym (resolved_nameless labels d k f o))
    ∙ ap (min (row_fields_with_target labels d k f o).rule) (content_same d (length (code_bytes labels d k f o)) o room)
item_same labels d (bytes bs o) room new = content_same d (length bs) o room
item_same labels d (zeros n) room new = refl

never : (b : Bool) → false ≡ true → b ≡ true
never b e = cc

rules_kept : (known : Bool) (labels : List SymbolData) (is : List ItemData) (d : DraftData) → (known ≡ true → are_new_with_room labels d is ≡ true) → rule_broken_in_second_pass known labels d is ≡ rule_broken_by_items labels d is
rules_kept known labels [] d new = refl
rules_kept false labels (i ∷ is) d new = ap (min (rule_broken_by_item labels d i)) (rules_kept false labels is (draft_after_item labels d i) (never (are_new_with_room labels (draft_after_item labels d i) is)))
rules_kept true labels (i ∷ is) d new =
    let p = and_parts (has_symbol_room d.symbols && is_new_if_label d.symbols i) (are_new_with_room labels (draft_after_item labels d i) is) (new refl) in
    let q = and_parts (has_symbol_room d.symbols) (is_new_if_label d.symbols i) p.0 in
    ap (λ k. min k (rule_broken_in_second_pass true labels (draft_after_item labels d i) is)) (item_same labels d i q.0 q.1)
    ∙ ap (min (rule_broken_by_item labels d i)) (rules_kept true labels is (draft_after_item labels d i) (λ e. p.1))

-- the rules of labels and global names that are known
pub label_rule_known : (labels : List SymbolData) (d : DraftData) (name : List ℕ) → min (min 15 (rule_broken_before_section d)) (min (rule_broken_by_name name) 15) ≡ rule_broken_by_item labels (without_symbols d) (label name)
unfolding rule_broken_by_item
label_rule_known labels d name = refl

pub global_rule_known : (labels : List SymbolData) (d : DraftData) (name : List ℕ) → min (rule_broken_by_name name) (min 15 (rule_broken_by_undefined_global labels name)) ≡ rule_broken_by_item labels (without_symbols d) (global name)
unfolding rule_broken_by_item
global_rule_known labels d name = refl

-- the rules of an item that are the same with and without symbols
pub plain_rule : (labels : List SymbolData) (d : DraftData) (k : ℕ) (f : Fields) → rule_broken_by_item labels d (code k f None) ≡ rule_broken_by_item labels (without_symbols d) (code k f None)
unfolding rule_broken_by_item code_bytes
plain_rule labels d k f = ap (λ (x : RowFieldsData). min x.rule (rule_broken_by_content (without_symbols d) (length (assembled_code k x.fields)) None)) (resolved_nameless labels d k f None)

-- an instruction without a symbol
pub alone_step : (labels : List SymbolData) (d next : DraftData) (k : ℕ) (f : Fields) (bs : List ℕ) → bs ≡ assembled_code k f → next ≡ with_bytes_if_room d bs → next ≡ draft_after_item labels d (code k f None)
unfolding draft_after_item code_bytes with_reference
alone_step labels d next k f bs is e = e ∙ ap (with_bytes_if_room d) (is ∙ sym (ap (λ (x : RowFieldsData). assembled_code k x.fields) (found_far labels d k f None refl)))

pub alone_rule : (labels : List SymbolData) (d : DraftData) (k : ℕ) (f : Fields) (bs : List ℕ) (a rule : ℕ) → bs ≡ assembled_code k f → a ≡ rule_broken_by_content d (length bs) None → rule ≡ min 15 a
    → rule ≡ rule_broken_by_item labels d (code k f None)
unfolding rule_broken_by_item code_bytes
alone_rule labels d k f bs a rule is e m =
    m
    ∙ ap (min 15) (e ∙ ap (λ (ys : List ℕ). rule_broken_by_content d (length ys) None) is)
    ∙ ap (λ (x : RowFieldsData). min x.rule (rule_broken_by_content d (length (assembled_code k x.fields)) None)) (sym (found_far labels d k f None refl))

pub section_rule_same : (labels : List SymbolData) (d : DraftData) (name : List ℕ) → rule_broken_by_item labels d (section name) ≡ rule_broken_by_item labels (without_symbols d) (section name)
unfolding rule_broken_by_item
section_rule_same labels d name = refl

pub zeros_rule_same : (labels : List SymbolData) (d : DraftData) (n : ℕ) → rule_broken_by_item labels d (zeros n) ≡ rule_broken_by_item labels (without_symbols d) (zeros n)
unfolding rule_broken_by_item
zeros_rule_same labels d n = refl

pub plain_data_rule : (labels : List SymbolData) (d : DraftData) (bs : List ℕ) → rule_broken_by_content d (length bs) None ≡ rule_broken_by_item labels (without_symbols d) (bytes bs None)
unfolding rule_broken_by_item
plain_data_rule labels d bs = refl

pub data_rule : (labels : List SymbolData) (d : DraftData) (bs : List ℕ) (o : Option ReferenceData) → rule_broken_by_content (without_symbols d) (length bs) o ≡ rule_broken_by_item labels (without_symbols d) (bytes bs o)
unfolding rule_broken_by_item
data_rule labels d bs o = refl

pub data_step : (labels : List SymbolData) (d : DraftData) (bs : List ℕ) (o : Option ReferenceData) → with_content d bs o ≡ draft_after_item labels d (bytes bs o)
unfolding draft_after_item
data_step labels d bs o = refl

pub linked_rule : (labels : List SymbolData) (d : DraftData) (k : ℕ) (f : Fields) (r : ReferenceData) (x : RowFieldsData) (bs : List ℕ) (b rule : ℕ)
    → x ≡ row_fields_with_target labels d k f (Some r) → bs ≡ assembled_code k x.fields → b ≡ rule_broken_by_content (without_symbols d) (length bs) (Some r) → rule ≡ min x.rule b
    → rule ≡ rule_broken_by_item labels (without_symbols d) (code k f (Some r))
unfolding rule_broken_by_item code_bytes
linked_rule labels d k f r x bs b rule e g h is =
    is
    ∙ ap (min x.rule) (h ∙ ap (λ (ys : List ℕ). rule_broken_by_content (without_symbols d) (length ys) (Some r)) g)
    ∙ ap (λ (z : RowFieldsData). min z.rule (rule_broken_by_content (without_symbols d) (length (assembled_code k z.fields)) (Some r))) (e ∙ resolved_nameless labels d k f (Some r))

-- ---- items that are new
are_new-append : (labels : List SymbolData) (d : DraftData) (xs ys : List ItemData) → are_new_with_room labels d (xs ++ ys) ≡ true
    → (are_new_with_room labels d xs ≡ true) × (are_new_with_room labels (fold (draft_after_item labels) d xs) ys ≡ true)
are_new-append labels d [] ys h = (refl, h)
are_new-append labels d (x ∷ xs) ys h =
    let p = and_parts (has_symbol_room d.symbols && is_new_if_label d.symbols x) (are_new_with_room labels (draft_after_item labels d x) (xs ++ ys)) h in
    let r = are_new-append labels (draft_after_item labels d x) xs ys p.1 in
    (and_from (has_symbol_room d.symbols && is_new_if_label d.symbols x) (are_new_with_room labels (draft_after_item labels d x) xs) p.0 r.0, r.1)

new_alike : (labels others : List SymbolData) (is : List ItemData) (d e : DraftData) → EachInDraft IsItemOfSomeLine is → HaveSameSizesAndSymbols d e → are_new_with_room labels d is ≡ are_new_with_room others e is
new_alike labels others [] d e good h = refl
new_alike labels others (i ∷ is) d e good h =
    ap (λ (ss : List SymbolData). (has_symbol_room ss && is_new_if_label ss i) && are_new_with_room labels (draft_after_item labels d i) is) h.symbols
    ∙ ap (λ b. (has_symbol_room e.symbols && is_new_if_label e.symbols i) && b) (new_alike labels others is (draft_after_item labels d i) (draft_after_item others e i) good.1 (step_alike labels others d e i good.0 h))

-- ---- the first pass
module _ (items : List Item) (i : ℕ) (d : Item) (within : i < length items) (draft all : DraftData) where
  abbrev item : ItemData
  item = item_of (get_or items i d)

  abbrev so_far : DraftData
  so_far = fold (draft_after_item []) all (take i (map item_of items))

  pub new_more : (before room_here new_here after whole : Bool) → HaveSameSizesAndSymbols draft (fold (draft_after_item []) all (take i (map item_of items)))
      → room_here ≡ has_symbol_room draft.symbols → new_here ≡ is_new_if_label draft.symbols (item_of (get_or items i d)) → after ≡ (before && (room_here && new_here))
      → (before && are_new_with_room [] (fold (draft_after_item []) all (take i (map item_of items))) (drop i (map item_of items))) ≡ whole
      → (after && are_new_with_room [] (fold (draft_after_item []) all (take (i + 1) (map item_of items))) (drop (i + 1) (map item_of items))) ≡ whole
  new_more before room_here new_here after whole h room new both is =
      let at : get_or (map item_of items) i (item_of d) ≡ item_of (get_or items i d) = get_or-map item_of items i d (item_of d) within in
      let next : fold (draft_after_item []) all (take (i + 1) (map item_of items)) ≡ draft_after_item [] so_far item
      = fold_more (draft_after_item []) all (map item_of items) i (item_of d) (rw (length-map items item_of) within) ∙ ap (draft_after_item [] so_far) at in
      ap (λ b. b && are_new_with_room [] (fold (draft_after_item []) all (take (i + 1) (map item_of items))) (drop (i + 1) (map item_of items))) both
      ∙ ap (λ (x : DraftData). (before && (room_here && new_here)) && are_new_with_room [] x (drop (i + 1) (map item_of items))) next
      ∙ ap (λ b. (before && (b && new_here)) && are_new_with_room [] (draft_after_item [] so_far item) (drop (i + 1) (map item_of items))) room
      ∙ ap (λ b. (before && (has_symbol_room draft.symbols && b)) && are_new_with_room [] (draft_after_item [] so_far item) (drop (i + 1) (map item_of items))) new
      ∙ ap (λ (ss : List SymbolData). (before && (has_symbol_room ss && is_new_if_label ss item)) && are_new_with_room [] (draft_after_item [] so_far item) (drop (i + 1) (map item_of items))) h.symbols
      ∙ joined before (has_symbol_room so_far.symbols && is_new_if_label so_far.symbols item) (are_new_with_room [] (draft_after_item [] so_far item) (drop (i + 1) (map item_of items)))
      ∙ ap (λ (xs : List ItemData). before && are_new_with_room [] so_far xs) (sym (item_here items i d within))
      ∙ is
    where
      joined : (a b c : Bool) → ((a && b) && c) ≡ (a && (b && c))
      joined true b c = refl
      joined false b c = refl

pub new_end : (items : List Item) (i : ℕ) (d : DraftData) (b whole : Bool) → length items ≤ i → (b && are_new_with_room [] d (drop i (map item_of items))) ≡ whole → b ≡ whole
new_end items i d b whole past is =
    with_true b ∙ sym (ap (λ (xs : List ItemData). b && are_new_with_room [] d xs) (drop_all i (map item_of items) (rw (length-map items item_of) past))) ∙ is
  where
    with_true : (x : Bool) → x ≡ (x && true)
    with_true true = refl
    with_true false = refl

-- ---- the items of a line
module _ (known : Bool) (labels : List SymbolData) (items : List Item) (i : ℕ) (d : Item) (within : i < length items) where
  pub kept_items : (draft next all : DraftData) → without_symbols_if known next ≡ without_symbols_if known (draft_after_item labels draft (item_of (get_or items i d)))
      → without_symbols_if known (fold (draft_after_item labels) draft (drop i (map item_of items))) ≡ all → without_symbols_if known (fold (draft_after_item labels) next (drop (i + 1) (map item_of items))) ≡ all
  kept_items draft next all e so_far =
      kept_fold known labels (drop (i + 1) (map item_of items)) next (draft_after_item labels draft (item_of (get_or items i d))) e
      ∙ sym (ap (λ (is : List ItemData). without_symbols_if known (fold (draft_after_item labels) draft is)) (item_here items i d within))
      ∙ so_far

  pub kept_rules : (draft next : DraftData) (a rule more all : ℕ) → without_symbols_if known next ≡ without_symbols_if known (draft_after_item labels draft (item_of (get_or items i d)))
      → a ≡ rule_broken_by_item labels (without_symbols_if known draft) (item_of (get_or items i d)) → more ≡ min a rule
      → min rule (rule_broken_in_second_pass known labels draft (drop i (map item_of items))) ≡ all → min more (rule_broken_in_second_pass known labels next (drop (i + 1) (map item_of items))) ≡ all
  kept_rules draft next a rule more all e is m so_far =
      ap (λ k. min k (rule_broken_in_second_pass known labels next (drop (i + 1) (map item_of items)))) (m ∙ ap (λ k. min k rule) is)
      ∙ ap (min (min (rule_broken_by_item labels (without_symbols_if known draft) (item_of (get_or items i d))) rule)) (rule_same known labels (drop (i + 1) (map item_of items)) next (draft_after_item labels draft (item_of (get_or items i d))) e)
      ∙ joined (rule_broken_by_item labels (without_symbols_if known draft) (item_of (get_or items i d))) rule (rule_broken_in_second_pass known labels (draft_after_item labels draft (item_of (get_or items i d))) (drop (i + 1) (map item_of items)))
      ∙ sym (ap (λ (xs : List ItemData). min rule (rule_broken_in_second_pass known labels draft xs)) (item_here items i d within))
      ∙ so_far
    where
      joined : (x y z : ℕ) → min (min x y) z ≡ min y (min x z)
      joined x y z = omega arith

kept_rule-le : (known : Bool) (labels : List SymbolData) (d : DraftData) (is : List ItemData) → rule_broken_in_second_pass known labels d is ≤ 15
kept_rule-le known labels d [] = omega arith
kept_rule-le known labels d (i ∷ is) = let rest : rule_broken_in_second_pass known labels (draft_after_item labels d i) is ≤ 15 = kept_rule-le known labels (draft_after_item labels d i) is in omega arith

pub kept_none : (known : Bool) (labels : List SymbolData) (d : DraftData) (is : List ItemData) → min 15 (rule_broken_in_second_pass known labels d is) ≡ rule_broken_in_second_pass known labels d is
kept_none known labels d is = let h : rule_broken_in_second_pass known labels d is ≤ 15 = kept_rule-le known labels d is in omega arith

pub kept_end : (known : Bool) (labels : List SymbolData) (items : List Item) (i : ℕ) (draft all : DraftData) → length items ≤ i
    → without_symbols_if known (fold (draft_after_item labels) draft (drop i (map item_of items))) ≡ all → without_symbols_if known draft ≡ all
kept_end known labels items i draft all past e =
    sym (ap (λ (is : List ItemData). without_symbols_if known (fold (draft_after_item labels) draft is)) (drop_all i (map item_of items) (rw (length-map items item_of) past))) ∙ e

pub kept_rules_end : (known : Bool) (labels : List SymbolData) (items : List Item) (i : ℕ) (draft : DraftData) (rule all : ℕ) → length items ≤ i → rule ≤ 15
    → min rule (rule_broken_in_second_pass known labels draft (drop i (map item_of items))) ≡ all → rule ≡ all
kept_rules_end known labels items i draft rule all past small e =
    let whole : rule ≡ min rule 15 = omega arith in
    whole ∙ sym (ap (λ (is : List ItemData). min rule (rule_broken_in_second_pass known labels draft is)) (drop_all i (map item_of items) (rw (length-map items item_of) past))) ∙ e

-- ---- a further line
module _ (known : Bool) (labels : List SymbolData) (ls : List LineData) (i : ℕ) (x : LineData) (zs : List LineData) (here : drop i ls ≡ x ∷ zs) (draft : DraftData) (so_far : without_symbols_if known draft ≡ without_symbols_if known (draft_from_lines labels (take i ls))) where
  pub kept_more : (next : DraftData) → without_symbols_if known next ≡ without_symbols_if known (draft_after_line labels draft x) → without_symbols_if known next ≡ without_symbols_if known (draft_from_lines labels (take (i + 1) ls))
  unfolding draft_after_line
  kept_more next e =
      e
      ∙ kept_fold known labels x.items draft (draft_from_lines labels (take i ls)) so_far
      ∙ ap (without_symbols_if known) (drafted_more ls i x zs here labels (draft_from_lines labels (take i ls)) (draft_after_line labels (draft_from_lines labels (take i ls)) x) refl refl)

  module _ (new : known ≡ true → are_new_with_room labels (draft_from_lines labels (take i ls)) (items_in (drop i ls)) ≡ true) where
    news : known ≡ true → (are_new_with_room labels (draft_from_lines labels (take i ls)) x.items ≡ true) × (are_new_with_room labels (fold (draft_after_item labels) (draft_from_lines labels (take i ls)) x.items) (items_in zs) ≡ true)
    news k =
        are_new-append labels (draft_from_lines labels (take i ls)) x.items (items_in zs)
        (sym (ap (λ (xs : List LineData). are_new_with_room labels (draft_from_lines labels (take i ls)) (items_in xs)) here) ∙ new k)

    pub new_lines : known ≡ true → are_new_with_room labels (draft_from_lines labels (take (i + 1) ls)) (items_in (drop (i + 1) ls)) ≡ true
    unfolding draft_after_line
    new_lines k =
        ap (λ (d : DraftData). are_new_with_room labels d (items_in (drop (i + 1) ls))) (sym (drafted_more ls i x zs here labels (draft_from_lines labels (take i ls)) (draft_after_line labels (draft_from_lines labels (take i ls)) x) refl refl))
        ∙ ap (λ (xs : List LineData). are_new_with_room labels (draft_after_line labels (draft_from_lines labels (take i ls)) x) (items_in xs)) (behind_here ls i x zs here)
        ∙ (news k).1

    pub kept_line : (rule : ℕ) → rule ≡ min x.rule (rule_broken_in_second_pass known labels draft x.items) → rule ≡ rule_broken_by_line labels (draft_from_lines labels (take i ls)) x
    unfolding rule_broken_by_line
    kept_line rule e =
        e ∙ ap (min x.rule) (rule_same known labels x.items draft (draft_from_lines labels (take i ls)) so_far ∙ rules_kept known labels x.items (draft_from_lines labels (take i ls)) (λ k. (news k).0))

-- ---- a line without items that breaks no rule by itself
module _ (known : Bool) (labels : List SymbolData) (draft : DraftData) (rule count : ℕ) (is : List ItemData) (none : count ≡ 0) where
  pub blank_draft : without_symbols_if known draft ≡ without_symbols_if known (draft_after_line labels draft (line_data rule (take count is)))
  unfolding draft_after_line
  blank_draft = rw none refl

  pub blank_rule : rule ≡ 15 → 15 ≡ min rule (rule_broken_in_second_pass known labels draft (take count is))
  blank_rule e = rw (none, e) refl

-- ---- the end of a source
-- after the last line
pub past : (read : Source) (lines : List Line) (i : ℕ) → lines ≡ read.lines.items → length lines ≤ i → length (source_lines read) ≤ i
past read lines i e h =
    let long : length lines ≡ length read.lines.items = ap length e in
    let same : length (source_lines read) ≡ length read.lines.items = length-lines_read read.lines.items (map item_of read.items.items) in
    omega arith

pub lines_end : (known : Bool) (labels : List SymbolData) (ls : List LineData) (i : ℕ) (draft : DraftData) → length ls ≤ i
    → without_symbols_if known draft ≡ without_symbols_if known (draft_from_lines labels (take i ls)) → without_symbols_if known draft ≡ without_symbols_if known (draft_from_lines labels ls)
lines_end known labels ls i draft far h = h ∙ ap (λ (ks : List LineData). without_symbols_if known (draft_from_lines labels ks)) (take_all i ls far)

-- the draft of all lines, with its own symbols or with those that are known
pub whole_draft : (known : Bool) (d e draft : DraftData) (ss : List SymbolData) → without_symbols_if known d ≡ without_symbols_if known e → e.symbols ≡ ss
    → draft ≡ cond known (record d { symbols = ss }) d → draft ≡ e
whole_draft true d e draft ss h same is =
    is ∙ ap (λ (x : DraftData). record x { symbols = ss }) h ∙ ap (λ (ts : List SymbolData). record e { symbols = ts }) (sym same)
whole_draft false d e draft ss h same is = is ∙ h

module _ (source : List ℕ) (read : Source) (same : source_lines read ≡ lines_in source) (labels : List SymbolData) (is : labels ≡ symbols_of_lines (source_lines read)) where
  -- the second pass finds these symbols again
  pub symbols_again : (draft_from_lines labels (source_lines read)).symbols ≡ labels
  symbols_again =
      ap (λ (ss : List SymbolData). (draft_from_lines ss (source_lines read)).symbols) is
      ∙ ap (λ (ls : List LineData). (draft_from_lines (symbols_of_lines ls) ls).symbols) same
      ∙ passes_agree source
      ∙ ap symbols_of_lines (sym same)
      ∙ sym is

  -- what is new in the first pass is new in the second one
  pub new_again : (items : List Item) → items ≡ read.items.items → map item_of read.items.items ≡ items_in (lines_in source)
      → (known : Bool) → known ≡ are_new_with_room [] empty_draft (map item_of items) → known ≡ true → are_new_with_room labels empty_draft (items_in (source_lines read)) ≡ true
  new_again items e f known new so =
      ap (λ (ls : List LineData). are_new_with_room labels empty_draft (items_in ls)) same
      ∙ sym (new_alike [] labels (items_in (lines_in source)) empty_draft empty_draft (source_are source) (alike_same empty_draft))
      ∙ sym (ap (λ (xs : List Item). are_new_with_room [] empty_draft (map item_of xs)) e ∙ ap (are_new_with_room [] empty_draft) f)
      ∙ sym new ∙ so

-- ---- results of functions
pub on_ok : {X E : Type 0} (r : Result X E) (P Q : Type 0) → OnOk r P → (P → Q) → OnOk r Q
on_ok (Ok x) P Q h f = f h
on_ok (Err e) P Q h f = h

pub if_ok : {X E : Type 0} (r : Result X E) (P Q : X → Type 0) → IfOk r P → ((x : X) → P x → Q x) → IfOk r Q
if_ok (Ok x) P Q h f = f x h
if_ok (Err e) P Q h f = h
