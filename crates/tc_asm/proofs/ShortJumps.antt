-- Jumps of 16 bits reach their labels.
use Rattle.std.proofs.Common.{◌≡◌, ◌≤◌, ◌<◌, ◌+◌, ◌-◌, ◌*◌, ◌/◌, ◌%◌, ◌^◌, ◌&&◌, ◌==◌, min, ℕ, Bool, true, false, cond, List, Option, Some, None, refl, sym, ap, subst, ◌∙◌, arith}
use Rattle.std.specs.Prelude.{slice_get, fold, nat_lt, nat_le, not}
use Rattle.std.specs.Option.{option_map_or}
use Rattle.std.proofs.lemmas.Bool.{ltb-false, leb-true, leb-false, and_parts}
use Rattle.std.proofs.lemmas.Bool.Decides.{Decides-eqb, nat_tests}
use Rattle.tc_isa.specs.declared.fields.Fields.{Fields}
use Rattle.tc_isa.specs.declared.table.Form.{Form}
use Rattle.tc_isa.specs.declared.table.Form.TheVariants.{Sb, Sbr}
use Rattle.tc_isa.specs.Rows.{RowData, table_rows, is_32_bit_row}
use Rattle.tc_isa.specs.Forms.{field_bounds, form_index}
use Rattle.tc_isa.specs.Arithmetic.{sign_extended}
use Rattle.tc_isa.specs.FromFields.{doubled_displacement, forward_distance}
use Rattle.tc_stmt.specs.declared.want.Field.TheVariants.{K}
use Rattle.tc_stmt.specs.RowFields.{RowFieldsData, with_rule, with_field_value, set_field}
use Rattle.tc_stmt.specs.Items.{ReferenceData, ItemData, label, section, code, bytes}
use Rattle.tc_stmt.specs.Displacements.{is_far_displacement, is_odd_displacement, rule_broken_by_displacement, with_displacement}
use Rattle.tc_stmt.specs.OperandForms.{operand_number_modulo}
use Rattle.tc_stmt.specs.StatedRows.{can_take_symbol_directly}
use Rattle.tc_asm.specs.declared.symbols.Place.{Place}
use Rattle.tc_stmt.specs.Lines.{lines_in, items_in}
use Rattle.tc_asm.specs.Symbols.{SymbolData, place_in}
use Rattle.tc_asm.specs.Drafts.{DraftData, empty_draft, has_current_section, next_byte_offset, label_distance, bare_row_fields, fields_with_target, fields_with_label_distance, row_fields_with_target, code_bytes, draft_after_item}
use Rattle.tc_asm.specs.Rules.{rule_broken_by_content, rule_broken_by_item, rule_broken_by_items}
use Rattle.tc_asm.specs.DraftedSources.{symbols_of_lines}
use Rattle.tc_asm.specs.DraftInvariants.{EachInDraft}
use Rattle.tc_asm.specs.Objects.{assembled_addend}
use Rattle.tc_asm.specs.Statements.{StatementData, statement_data, statement_of_item}
use Rattle.tc_asm.specs.InstructionLaws.{InstructionSpellsRow}
use Rattle.tc_asm.specs.ShortJumpLaws.{short_jump_displacement, ShortJumpsReachLabels}
use Rattle.tc_asm.proofs.Uses.{fits}
use Rattle.tc_asm.specs.ItemInvariants.{IsCodeOfSomeLine, IsItemOfSomeLine}
use Rattle.tc_asm.proofs.SourceItems.{source_are}
use Rattle.tc_asm.proofs.SourceDrafts.{source_items}
use Rattle.tc_asm.proofs.AlikeDrafts.{passes_agree}
use Rattle.tc_asm.proofs.StatementItems.{item_at, each_there, rule_there, offset_there}
use Rattle.tc_asm.proofs.Instructions.{code_spells}

-- ---- displacements
-- twice a number of eight bits, with its sign
low_twice : (k : ℕ) → k < 128 → 2 * sign_extended 8 (k % 2 ^ 8) % 2 ^ 32 ≡ 2 * k
low_twice k h = let low : nat_lt (k % 2 ^ 8) (2 ^ (8 - 1)) ≡ true = grind (arith, nat_tests) in rw low (omega arith)

high_twice : (k : ℕ) → 128 ≤ k → k < 256 → 2 * sign_extended 8 (k % 2 ^ 8) % 2 ^ 32 ≡ 2 ^ 32 - 2 * (256 - k)
high_twice k g h = let high : nat_lt (k % 2 ^ 8) (2 ^ (8 - 1)) ≡ false = grind (arith, nat_tests) in rw high (omega arith)

even : (s : ℕ) → is_odd_displacement s ≡ false → s % 2 ≡ 0
even s e = grind (arith, nat_tests)

-- in form SB
both_ways : (minus : Bool) (s : ℕ) → cond minus (nat_lt 256 s) (nat_lt (256 - 2) s) ≡ false → is_odd_displacement s ≡ false → 2 * sign_extended 8 (operand_number_modulo 256 minus (s / 2) % 2 ^ 8) % 2 ^ 32 ≡ cond minus ((2 ^ 32 - s) % 2 ^ 32) s
both_ways false s far odd =
    let less = ltb-false (256 - 2) s far in
    let two = even s odd in
    let small : s / 2 < 128 = omega arith in
    let back : 2 * (s / 2) ≡ s = omega arith in
    low_twice (s / 2) small ∙ back
both_ways true s far odd = by (s / 2 == 0) refl
  where
    by : (b : Bool) → (s / 2 == 0) ≡ b → 2 * sign_extended 8 (cond (not b) (256 - s / 2) (s / 2) % 2 ^ 8) % 2 ^ 32 ≡ (2 ^ 32 - s) % 2 ^ 32
    by true e =
        let none : s / 2 ≡ 0 = (Decides-eqb (s / 2) 0).0 e in
        let two = even s odd in
        let small : s / 2 < 128 = omega arith in
        let back : 2 * (s / 2) ≡ (2 ^ 32 - s) % 2 ^ 32 = omega arith in
        low_twice (s / 2) small ∙ back
    by false e =
        let less = ltb-false 256 s far in
        let two = even s odd in
        let some : 0 < s / 2 = grind (arith, nat_tests) in
        let big : 128 ≤ 256 - s / 2 = omega arith in
        let small : 256 - s / 2 < 256 = omega arith in
        let back : 2 ^ 32 - 2 * (256 - (256 - s / 2)) ≡ (2 ^ 32 - s) % 2 ^ 32 = omega arith in
        high_twice (256 - s / 2) big small ∙ back

-- in form SBR
forwards : (minus : Bool) (s : ℕ) → cond minus (not (s == 0)) (nat_lt (2 * (16 - 1)) s) ≡ false → is_odd_displacement s ≡ false → 2 * operand_number_modulo 16 minus (s / 2) % 2 ^ 32 ≡ cond minus ((2 ^ 32 - s) % 2 ^ 32) s
forwards false s far odd = let less = ltb-false (2 * (16 - 1)) s far in let two = even s odd in omega arith
forwards true s far odd = let none : s ≡ 0 = by (s == 0) refl far in rw none refl
  where
    by : (b : Bool) → (s == 0) ≡ b → not b ≡ false → s ≡ 0
    by true e h = (Decides-eqb s 0).0 e
    by false e h = cc

displacement_is : (form : Form) (f : Fields) (minus : Bool) (s : ℕ) → can_take_symbol_directly form ≡ true → is_far_displacement form (field_bounds form).k minus s ≡ false → is_odd_displacement s ≡ false →
    cond (form_index form == 13) (forward_distance (record f { k = operand_number_modulo (field_bounds form).k minus (s / 2) })) (doubled_displacement 8 (record f { k = operand_number_modulo (field_bounds form).k minus (s / 2) })) ≡ cond minus ((2 ^ 32 - s) % 2 ^ 32) s
unfolding field_bounds form_index
displacement_is Sb f minus s short far odd = both_ways minus s far odd
displacement_is Sbr f minus s short far odd = forwards minus s far odd
displacement_is _ f minus s short far odd = cc

near_even : (row : RowData) (minus : Bool) (s : ℕ) → (rule_broken_by_displacement row minus s == 15) ≡ true → (is_far_displacement row.form (field_bounds row.form).k minus s ≡ false) × (is_odd_displacement s ≡ false)
unfolding rule_broken_by_displacement
near_even row minus s e = by (is_far_displacement row.form (field_bounds row.form).k minus s) (is_32_bit_row row) (is_odd_displacement s) e
  where
    by : (far long odd : Bool) → (min (cond far (cond long 5 11) 15) (cond odd 6 15) == 15) ≡ true → (far ≡ false) × (odd ≡ false)
    by true true true e = cc
    by true true false e = cc
    by true false true e = cc
    by true false false e = cc
    by false long true e = cc
    by false long false e = (refl, refl)

at_most : (row : RowData) (minus : Bool) (s : ℕ) → rule_broken_by_displacement row minus s ≤ 15
unfolding rule_broken_by_displacement
at_most row minus s = by (is_far_displacement row.form (field_bounds row.form).k minus s) (is_32_bit_row row) (is_odd_displacement s)
  where
    by : (far long odd : Bool) → min (cond far (cond long 5 11) 15) (cond odd 6 15) ≤ 15
    by far long true = omega arith
    by far long false = omega arith

-- ---- a jump that is resolved at once
not_both : (b : Bool) → b ≡ true → b ≡ false → ⊥
not_both b e g = cc

displaced_is : (row : RowData) (minus : Bool) (s : ℕ) (f : Fields) → 15 ≤ (with_displacement row minus s (bare_row_fields f)).rule →
    ((rule_broken_by_displacement row minus s == 15) ≡ true) × ((with_displacement row minus s (bare_row_fields f)).fields ≡ record f { k = operand_number_modulo (field_bounds row.form).k minus (s / 2) })
unfolding with_displacement set_field
displaced_is row minus s f h = by (rule_broken_by_displacement row minus s == 15) refl h
  where
    by : (b : Bool) → (rule_broken_by_displacement row minus s == 15) ≡ b → 15 ≤ (cond b (with_field_value K (operand_number_modulo (field_bounds row.form).k minus (s / 2)) (bare_row_fields f)) (with_rule (rule_broken_by_displacement row minus s) (bare_row_fields f))).rule
        → (b ≡ true) × ((cond b (with_field_value K (operand_number_modulo (field_bounds row.form).k minus (s / 2)) (bare_row_fields f)) (with_rule (rule_broken_by_displacement row minus s) (bare_row_fields f))).fields ≡ record f { k = operand_number_modulo (field_bounds row.form).k minus (s / 2) })
    by true e h = (refl, refl)
    by false e h =
        let most = at_most row minus s in
        let same : rule_broken_by_displacement row minus s ≡ 15 = omega arith in
        absurd (not_both (rule_broken_by_displacement row minus s == 15) ((Decides-eqb (rule_broken_by_displacement row minus s) 15).1 same) e)

record IsJumped (labels : List SymbolData) (d : DraftData) (row : RowData) (f : Fields) (r : ReferenceData) : Type 0 where
  minus : Bool
  size : ℕ
  is : label_distance labels d r ≡ Some (minus, size)
  rule : (rule_broken_by_displacement row minus size == 15) ≡ true
  fields : (fields_with_label_distance labels d row f r).fields ≡ record f { k = operand_number_modulo (field_bounds row.form).k minus (size / 2) }

jumped_is : (labels : List SymbolData) (d : DraftData) (row : RowData) (f : Fields) (r : ReferenceData) → 15 ≤ (fields_with_label_distance labels d row f r).rule → IsJumped labels d row f r
unfolding fields_with_label_distance
jumped_is labels d row f r h = by (label_distance labels d r) refl h
  where
    by : (o : Option (Bool × ℕ)) → label_distance labels d r ≡ o → 15 ≤ (option_map_or (λ n. with_displacement row n.0 n.1 (bare_row_fields f)) o (with_rule 10 (bare_row_fields f))).rule → IsJumped labels d row f r
    by None e h = absurd (omega arith)
    by (Some n) e h =
        let p = displaced_is row n.0 n.1 f h in
        record {
          minus = n.0;
          size = n.1;
          is = e;
          rule = p.0;
          fields = ap (λ (o : Option (Bool × ℕ)). (option_map_or (λ n. with_displacement row n.0 n.1 (bare_row_fields f)) o (with_rule 10 (bare_row_fields f))).fields) e ∙ p.1;
        }

-- ---- distances
record IsDistant (labels : List SymbolData) (d : DraftData) (r : ReferenceData) (minus : Bool) (size : ℕ) : Type 0 where
  label : Place
  is_label : place_in labels r.name ≡ Some label
  here : label.section ≡ d.section
  apart : next_byte_offset d + cond r.minus r.size 0 + cond minus 0 size ≡ label.offset + cond r.minus 0 r.size + cond minus size 0

distant : (labels : List SymbolData) (d : DraftData) (r : ReferenceData) (minus : Bool) (size : ℕ) → label_distance labels d r ≡ Some (minus, size) → IsDistant labels d r minus size
unfolding label_distance
distant labels d r minus size e = by (place_in labels r.name) refl e
  where
    by_order : (x y : ℕ) (b : Bool) → nat_le x y ≡ b → cond {A = Option (Bool × ℕ)} b (Some (false, y - x)) (Some (true, x - y)) ≡ Some (minus, size) → x + cond minus 0 size ≡ y + cond minus size 0
    by_order x y true o g =
        let below = leb-true x y o in
        let pair : (false, y - x) ≡ (minus, size) = cc in
        let P : Bool × ℕ → Type 0 = λ n. x + cond n.0 0 n.1 ≡ y + cond n.0 n.1 0 in
        let now : x + (y - x) ≡ y + 0 = omega arith in
        subst P pair now
    by_order x y false o g =
        let above = leb-false x y o in
        let pair : (true, x - y) ≡ (minus, size) = cc in
        let P : Bool × ℕ → Type 0 = λ n. x + cond n.0 0 n.1 ≡ y + cond n.0 n.1 0 in
        let now : x + 0 ≡ y + (x - y) = omega arith in
        subst P pair now

    by_section : (a : Place) (b : Bool) → (has_current_section d && a.section == d.section) ≡ b → place_in labels r.name ≡ Some a
        → cond {A = Option (Bool × ℕ)} b
        (cond {A = Option (Bool × ℕ)} (nat_le (next_byte_offset d + cond r.minus r.size 0) (a.offset + cond r.minus 0 r.size))
        (Some (false, (a.offset + cond r.minus 0 r.size) - (next_byte_offset d + cond r.minus r.size 0)))
        (Some (true, (next_byte_offset d + cond r.minus r.size 0) - (a.offset + cond r.minus 0 r.size)))) None ≡ Some (minus, size)
        → IsDistant labels d r minus size
    by_section a true there is g =
        record {
          label = a;
          is_label = is;
          here = (Decides-eqb a.section d.section).0 (and_parts (has_current_section d) (a.section == d.section) there).1;
          apart = by_order (next_byte_offset d + cond r.minus r.size 0) (a.offset + cond r.minus 0 r.size) (nat_le (next_byte_offset d + cond r.minus r.size 0) (a.offset + cond r.minus 0 r.size)) refl g;
        }
    by_section a false there is g = cc

    by : (o : Option Place) → place_in labels r.name ≡ o
        → option_map_or (λ (a : Place). cond {A = Option (Bool × ℕ)} (has_current_section d && a.section == d.section)
        (cond {A = Option (Bool × ℕ)} (nat_le (next_byte_offset d + cond r.minus r.size 0) (a.offset + cond r.minus 0 r.size))
        (Some (false, (a.offset + cond r.minus 0 r.size) - (next_byte_offset d + cond r.minus r.size 0)))
        (Some (true, (next_byte_offset d + cond r.minus r.size 0) - (a.offset + cond r.minus 0 r.size)))) None) o None ≡ Some (minus, size)
        → IsDistant labels d r minus size
    by None is g = cc
    by (Some a) is g = by_section a (has_current_section d && a.section == d.section) refl is g

-- a jump over a distance that fits, from the address of the jump
gone : (less minus : Bool) (base place offset size s far : ℕ) → place + cond less size 0 + cond minus 0 s ≡ offset + cond less 0 size + cond minus s 0 → far ≡ cond minus ((2 ^ 32 - s) % 2 ^ 32) s → (minus ≡ true → s ≤ 2 ^ 32) →
    (base + place + far) % 2 ^ 32 ≡ ((base + offset) % 2 ^ 32 + cond less ((2 ^ 32 - size % 2 ^ 32) % 2 ^ 32) (size % 2 ^ 32)) % 2 ^ 32
gone true true base place offset size s far e h small = let less = small refl in omega arith
gone true false base place offset size s far e h small = omega arith
gone false true base place offset size s far e h small = let less = small refl in omega arith
gone false false base place offset size s far e h small = omega arith

back_small : (form : Form) (s : ℕ) → can_take_symbol_directly form ≡ true → is_far_displacement form (field_bounds form).k true s ≡ false → s ≤ 2 ^ 32
unfolding field_bounds form_index
back_small Sb s short far = let less = ltb-false 256 s far in omega arith
back_small Sbr s short far = let none : s ≡ 0 = by (s == 0) refl far in omega arith
  where
    by : (b : Bool) → (s == 0) ≡ b → not b ≡ false → s ≡ 0
    by true e h = (Decides-eqb s 0).0 e
    by false e h = cc
back_small _ s short far = cc

-- ---- an instruction
record Jumps (labels : List SymbolData) (d : DraftData) (r : ReferenceData) (row : RowData) (f : Fields) : Type 0 where
  label : Place
  is_label : place_in labels r.name ≡ Some label
  here : label.section ≡ d.section
  reaches : (base : ℕ) → (base + next_byte_offset d + short_jump_displacement row f) % 2 ^ 32 ≡ ((base + label.offset) % 2 ^ 32 + assembled_addend r) % 2 ^ 32

jumps_row : (labels : List SymbolData) (d : DraftData) (row : RowData) (f : Fields) (r : ReferenceData) → can_take_symbol_directly row.form ≡ true → 15 ≤ (fields_with_label_distance labels d row f r).rule → Jumps labels d r row (fields_with_label_distance labels d row f r).fields
jumps_row labels d row f r short h =
    let j = jumped_is labels d row f r h in
    let n = near_even row j.minus j.size j.rule in
    let p = distant labels d r j.minus j.size j.is in
    let F : Bool → Type 0 = λ b. is_far_displacement row.form (field_bounds row.form).k b j.size ≡ false in
    let far : short_jump_displacement row (fields_with_label_distance labels d row f r).fields ≡ cond j.minus ((2 ^ 32 - j.size) % 2 ^ 32) j.size
    = ap (short_jump_displacement row) j.fields ∙ displacement_is row.form f j.minus j.size short n.0 n.1 in
    record {
      label = p.label;
      is_label = p.is_label;
      here = p.here;
      reaches = λ base. gone r.minus j.minus base (next_byte_offset d) p.label.offset r.size j.size (short_jump_displacement row (fields_with_label_distance labels d row f r).fields) p.apart far
          (λ e. back_small row.form j.size short (subst F e n.0));
    }

resolved_jumped : (labels : List SymbolData) (d : DraftData) (k : ℕ) (f : Fields) (r : ReferenceData) (row : RowData) → slice_get table_rows k ≡ Some row → r.kind ≡ 0 → row_fields_with_target labels d k f (Some r) ≡ fields_with_label_distance labels d row f r
resolved_jumped labels d k f r row at zero =
    ap (λ (q : Option RowData). option_map_or (λ x. fields_with_target labels d x f (Some r)) q (bare_row_fields f)) at
    ∙ ap (λ b. cond b (fields_with_label_distance labels d row f r) (bare_row_fields f)) ((Decides-eqb r.kind 0).1 zero)

jumps_code : (labels : List SymbolData) (d : DraftData) (k : ℕ) (f : Fields) (r : ReferenceData) (c : IsCodeOfSomeLine k f (Some r)) → r.kind ≡ 0 → 15 ≤ (row_fields_with_target labels d k f (Some r)).rule → Jumps labels d r c.row (row_fields_with_target labels d k f (Some r)).fields
jumps_code labels d k f r c zero h =
    let same = resolved_jumped labels d k f r c.row c.at zero in
    let R : RowFieldsData → Type 0 = λ x. 15 ≤ x.rule in
    let J : RowFieldsData → Type 0 = λ x. Jumps labels d r c.row x.fields in
    subst J (sym same) (jumps_row labels d c.row f r ((c.symbols.some r refl).target zero).1 (subst R same h))

-- ---- a statement
record StatementJumps (labels : List SymbolData) (d : DraftData) (t : StatementData) (r : ReferenceData) : Type 0 where
  section : d.section ≡ t.section
  place : ℕ
  spells : InstructionSpellsRow place t.bytes
  jumps : Jumps labels d r spells.row spells.fields

statement_jumps : (labels : List SymbolData) (d : DraftData) (i : ItemData) (t : StatementData) (r : ReferenceData) → IsItemOfSomeLine i → 15 ≤ rule_broken_by_item labels d i → statement_of_item labels d i ≡ Some t → t.reference ≡ Some r → r.kind ≡ 0 → StatementJumps labels d t r
unfolding rule_broken_by_item code_spells
statement_jumps labels d (code k f o) t r h rule e is zero =
    let same : statement_data d.section (code_bytes labels d k f o) o ≡ t = cc in
    let given : o ≡ Some r = ap (λ (x : StatementData). x.reference) same ∙ is in
    let P : Option ReferenceData → Type 0 = λ p. IsCodeOfSomeLine k f p → 15 ≤ (row_fields_with_target labels d k f p).rule → StatementJumps labels d (statement_data d.section (code_bytes labels d k f p) p) r in
    let Q : StatementData → Type 0 = λ x. StatementJumps labels d x r in
    subst Q same
    (subst P (sym given) (λ c q. record { section = refl; place = k; spells = code_spells labels d k f (Some r) c; jumps = jumps_code labels d k f r c zero q })
    h (fits (row_fields_with_target labels d k f o).rule (rule_broken_by_content d _ o) rule))
statement_jumps labels d (bytes bs o) t r h rule e is zero =
    let same : statement_data d.section bs o ≡ t = cc in
    let given : o ≡ Some r = ap (λ (x : StatementData). x.reference) same ∙ is in
    let seven : r.kind ≡ 7 = h.kind r given in
    absurd (omega arith)
statement_jumps labels d _ t r h rule e is zero = cc

pub short_jumps_law : ShortJumpsReachLabels
short_jumps_law source index t r keeps at is zero =
    let labels : List SymbolData = symbols_of_lines (lines_in source) in
    let items : List ItemData = items_in (lines_in source) in
    let a = item_at labels items empty_draft index t at in
    let d : DraftData = fold (draft_after_item labels) empty_draft a.before in
    let E : List ItemData → Type 0 = λ xs. EachInDraft IsItemOfSomeLine xs in
    let R : List ItemData → Type 0 = λ xs. 15 ≤ rule_broken_by_items labels empty_draft xs in
    let j = statement_jumps labels d a.item t r (each_there IsItemOfSomeLine a.before a.after a.item (subst E a.are (source_are source)))
    (rule_there labels a.before a.after a.item empty_draft (subst R a.are (source_items source keeps))) a.content is zero in
    let place = offset_there labels items index t a j.section in
    record {
      place = j.place;
      spells = j.spells;
      label = j.jumps.label;
      is_label = ap (λ (ss : List SymbolData). place_in ss r.name) (passes_agree source) ∙ j.jumps.is_label;
      here = j.jumps.here ∙ j.section;
      reaches = λ base. ap (λ n. (base + n + short_jump_displacement j.spells.row j.spells.fields) % 2 ^ 32) place ∙ j.jumps.reaches base;
    }
