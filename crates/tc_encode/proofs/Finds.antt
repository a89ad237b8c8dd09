-- Instructions that have a word, and the places of their rows.
use Rattle.std.proofs.Common.{Bool, ◌≡◌, ◌+◌, ◌%◌, ◌<◌, ◌≤◌, ℕ, zero, suc, true, List, [], ◌∷◌, length, get_or, sym, ap, subst, ◌∙◌, arith, Option, Some, None, zero-add, ◌==◌, ◌^◌, false, refl, inl, inr, map, ◌||◌}
use Rattle.std.specs.Prelude.{slice_get, nat_lt, IfNone}
use Rattle.std.specs.List.{list_all}
use Rattle.std.proofs.lemmas.Bool.{and_parts, ltb-true, leb-true, eqb-true, eqb-false, cases_eq, and_from, eq-eqb}
use Rattle.std.proofs.lemmas.Option.{slice_get-get_or, slice_get_within, get_or_from_slice_get}
use Rattle.std.proofs.lemmas.List.Sums.{AllPass-from_list_all}
use Rattle.std.proofs.lemmas.List.{get_or-map}
use Rattle.tcd_base.proofs.OptionLaws.{some_same}
use Rattle.tc_isa.specs.declared.fields.Uses.{Uses}
use Rattle.tc_isa.specs.declared.fields.Fields.{Fields}
use Rattle.tc_isa.specs.declared.table.Form.{Form}
use Rattle.tc_isa.specs.Rows.{RowData, table_rows}
use Rattle.tc_isa.specs.Forms.{field_bounds, fields_of_word, second_opcode, form_index, is_32_bit_form}
use Rattle.tc_isa.specs.InBounds.{AreFieldsBelow}
use Rattle.tc_isa.specs.ValidRowFields.{FieldsFitRow, used_fields, are_unused_fields_zero, are_registers_allowed}
use Rattle.tc_isa.specs.Spelling.{row_word}
use Rattle.tc_isa.specs.Insts.{InstData, IsInst, inst_fields}
use Rattle.tc_isa.proofs.TableFacts.{row_at}
use Rattle.tc_encode.specs.Decoding.{instruction_at_row}
use Rattle.tc_encode.specs.WordSearch.{IsWordOf, is_in_index_range, has_same_form, are_rows_in_index_ranges, is_at_index_place, is_index_entry, are_rows_indexed_by_opcodes, are_unused_bits_zero, has_all_fields, has_all_form_fields}
use Rattle.tc_encode.proofs.Gaps.{fields_below, word_back, full_word}
use Rattle.tc_encode.proofs.Inverse.{first-word, second-word}
use Rattle.tc_encode.proofs.Only.{only}
use Rattle.tc_encode.proofs.Apart.{same_form}

-- the row of an instruction is the one at its place
pub row_is : (place : ℕ) (r : RowData) (i : InstData) (is : IsInst i) → slice_get table_rows place ≡ Some r → i.row ≡ place → is.row ≡ r
row_is place r i is at same = some_same is.row r (sym is.at ∙ ap (slice_get table_rows) same ∙ at)

-- the fields of the word are those of the instruction that has it
pub makes_listed : (place w : ℕ) (r : RowData) (f : Fields) → slice_get table_rows place ≡ Some r → f ≡ fields_of_word r.form w → (i : InstData) → IsWordOf w i → i.row ≡ place → IsInst (instruction_at_row place f) × (row_word r f ≡ w)
makes_listed place w r f at is i m same =
    let row = row_is place r i m.inst at same in
    let fits : FieldsFitRow r (inst_fields i) = subst (λ (s : RowData). FieldsFitRow s (inst_fields i)) row m.inst.fits in
    let word : row_word r (inst_fields i) ≡ w = subst (λ (s : RowData). row_word s (inst_fields i) ≡ w) row m.is in
    let fields : inst_fields i ≡ f = sym (is ∙ only r (inst_fields i) w (row_at place r at) fits word) in
    (record { row = r; at = at; fits = subst (λ (g : Fields). FieldsFitRow r g) fields fits }, subst (λ (g : Fields). row_word r g ≡ w) fields word)

pub makes_by : (place w : ℕ) (r : RowData) (f : Fields) (i : InstData) → slice_get table_rows place ≡ Some r → i ≡ instruction_at_row place f → IsInst i → row_word r f ≡ w → IsWordOf w i
makes_by place w r f i at is inst word =
    let row = row_is place r i inst at (ap (λ (j : InstData). j.row) is) in
    record { inst = inst; is = ap (λ (s : RowData). row_word s (inst_fields i)) row ∙ ap (λ (j : InstData). row_word r (inst_fields j)) is ∙ word }

pub first_is : (w : ℕ) (i : InstData) (m : IsWordOf w i) → w % 256 ≡ m.inst.row.op1
first_is w i m =
    let s = m.inst.row in let row = row_at i.row s m.inst.at in
    ap (λ x. x % 256) (sym m.is) ∙ first-word s.form s.op1 s.op2 (inst_fields i) row.first row.second m.inst.fits.below

-- rows are between the start and the end of their first byte
held : (starts ends : List ℕ) (place : ℕ) (rows : List RowData) (q : ℕ) (r : RowData) → are_rows_in_index_ranges starts ends place rows ≡ true → slice_get rows q ≡ Some r → is_in_index_range (place + q) r (slice_get starts r.op1) (slice_get ends r.op1) ≡ true
held starts ends place [] q r all at = cc
held starts ends place (x ∷ xs) zero r all at =
    let e = some_same x r at in
    subst (λ (s : RowData). is_in_index_range (place + 0) s (slice_get starts s.op1) (slice_get ends s.op1) ≡ true) e
    (let z : place ≡ place + 0 = omega arith in subst (λ p. is_in_index_range p x (slice_get starts x.op1) (slice_get ends x.op1) ≡ true) z (and_parts _ _ all).0)
held starts ends place (x ∷ xs) (suc q) r all at =
    let z : suc place + q ≡ place + suc q = omega arith in
    subst (λ p. is_in_index_range p r (slice_get starts r.op1) (slice_get ends r.op1) ≡ true) z (held starts ends (suc place) xs q r (and_parts _ _ all).1 at)

-- what the test of start and end gives
pub record Between (place : ℕ) (r : RowData) (start end : ℕ) : Type 0 where
  pub from : start ≤ place
  pub to : place < end
  pub form : has_same_form r (slice_get table_rows start) ≡ true

between_from : (place : ℕ) (r : RowData) (o p : Option ℕ) (start end : ℕ) → is_in_index_range place r o p ≡ true → o ≡ Some start → p ≡ Some end → Between place r start end
between_from place r None p start end e is iz = cc
between_from place r (Some s) None start end e is iz = cc
between_from place r (Some s) (Some t) start end e is iz =
    let a = and_parts _ _ e in let b = and_parts _ _ a.0 in
    let x : s ≡ start = some_same s start is in let y : t ≡ end = some_same t end iz in
    record {
      from = subst (λ z. z ≤ place) x (leb-true _ _ b.0);
      to = subst (λ z. place < z) y (ltb-true _ _ b.1);
      form = subst (λ z. has_same_form r (slice_get table_rows z) ≡ true) x a.1;
    }

pub stands_between : (starts ends : List ℕ) (w : ℕ) (i : InstData) (m : IsWordOf w i) → are_rows_in_index_ranges starts ends 0 table_rows ≡ true → length starts ≡ 256 → length ends ≡ 256 → Between i.row m.inst.row (get_or starts (w % 256) 0) (get_or ends (w % 256) 0)
stands_between starts ends w i m all ls le =
    let r = m.inst.row in
    let first = first_is w i m in
    let small : w % 256 < 256 = omega arith in
    between_from i.row r (slice_get starts r.op1) (slice_get ends r.op1) (get_or starts (w % 256) 0) (get_or ends (w % 256) 0)
    (subst (λ p. is_in_index_range p r (slice_get starts r.op1) (slice_get ends r.op1) ≡ true) (zero-add i.row) (held starts ends 0 table_rows i.row r all m.inst.at))
    (ap (slice_get starts) (sym first) ∙ slice_get-get_or starts (w % 256) 0 (omega arith))
    (ap (slice_get ends) (sym first) ∙ slice_get-get_or ends (w % 256) 0 (omega arith))

pub form_is : (place : ℕ) (r s : RowData) (start end : ℕ) → Between place r start end → slice_get table_rows start ≡ Some s → form_index r.form ≡ form_index s.form
form_is place r s start end b at = sym (eqb-true (form_index s.form) (form_index r.form) (subst (λ o. has_same_form r o ≡ true) at b.form))

-- a bound of each number of a list
pub bounded : (xs : List ℕ) (n k : ℕ) → list_all (λ x. nat_lt x n) xs ≡ true → k < length xs → get_or xs k 0 < n
bounded xs n k all within = ltb-true _ _ (AllPass-from_list_all (λ x. nat_lt x n) xs all k 0 within)

pub none_map : {X : Type 0} {P Q : Type 0} (r : Option X) → IfNone r P → (P → Q) → IfNone r Q
none_map None p f = f p
none_map (Some x) p f = tt

-- what an instruction's word says of the row at its place and of its fields
pub record Stands (w : ℕ) (r : RowData) (f : Fields) : Type 0 where
  pub first : r.op1 ≡ w % 256
  pub second : r.op2 ≡ second_opcode r.form w
  pub full : are_unused_bits_zero r.form w ≡ true
  pub fits : FieldsFitRow r f

pub stands : (place w : ℕ) (r : RowData) → slice_get table_rows place ≡ Some r → (i : InstData) → IsWordOf w i → i.row ≡ place → Stands w r (fields_of_word r.form w)
stands place w r at i m same =
    let row = row_is place r i m.inst at same in
    let own = row_at place r at in
    let fits : FieldsFitRow r (inst_fields i) = subst (λ (s : RowData). FieldsFitRow s (inst_fields i)) row m.inst.fits in
    let word : row_word r (inst_fields i) ≡ w = subst (λ (s : RowData). row_word s (inst_fields i) ≡ w) row m.is in
    record {
      first = sym (first-word r.form r.op1 r.op2 (inst_fields i) own.first own.second fits.below) ∙ ap (λ x. x % 256) word;
      second = sym (second-word r.form r.op1 r.op2 (inst_fields i) own.first own.second fits.below) ∙ ap (second_opcode r.form) word;
      full = ap (are_unused_bits_zero r.form) (sym word) ∙ full_word r.form r.op1 r.op2 (inst_fields i) own.first own.second fits.below;
      fits = subst (λ (g : Fields). FieldsFitRow r g) (sym (only r (inst_fields i) w own fits word)) fits;
    }

even_of : (op1 w : ℕ) → (op1 % 2 == 1) ≡ false → op1 ≡ w % 256 → w % 2 ≡ 0
even_of op1 w e is = let odd = eqb-false (op1 % 2) 1 e in elim (cases_eq (op1 % 2) 1) [ inl x ↦ absurd (odd x) | inr y ↦ omega (arith, y) ]

-- a word with the row's codes and no gap is the spelling of its fields, if they fit
pub makes_of : (place w : ℕ) (r : RowData) (f : Fields) → slice_get table_rows place ≡ Some r → f ≡ fields_of_word r.form w → w < 2 ^ 32 → (w % 2 ≡ 0 → w < 2 ^ 16) → r.op1 ≡ w % 256 → r.op2 ≡ second_opcode r.form w → are_unused_bits_zero r.form w ≡ true → are_unused_fields_zero (used_fields r) f ≡ true → are_registers_allowed r f ≡ true → IsWordOf w (instruction_at_row place f)
makes_of place w r f at is word short first second full rest apart =
    let row = row_at place r at in
    let small : is_32_bit_form r.form ≡ false → w < 2 ^ 16 = λ e. short (even_of r.op1 w (row.size ∙ e) first) in
    record {
      inst = record { row = r; at = at; fits = record { below = subst (λ (g : Fields). AreFieldsBelow g (field_bounds r.form)) (sym is) (fields_below r.form w word); zero = rest; apart = apart } };
      is = ap (row_word r) is ∙ word_back r.form r.op1 r.op2 w word small first second full;
    }

-- rows are after the base of their first byte
held_at : (bases places : List ℕ) (place : ℕ) (rows : List RowData) (q : ℕ) (r : RowData) → are_rows_indexed_by_opcodes bases places place rows ≡ true → slice_get rows q ≡ Some r → is_at_index_place places (place + q) r (slice_get bases r.op1) ≡ true
held_at bases places place [] q r all at = cc
held_at bases places place (x ∷ xs) zero r all at =
    subst (λ (s : RowData). is_at_index_place places (place + 0) s (slice_get bases s.op1) ≡ true) (some_same x r at)
    (let z : place ≡ place + 0 = omega arith in subst (λ p. is_at_index_place places p x (slice_get bases x.op1) ≡ true) z (and_parts _ _ all).0)
held_at bases places place (x ∷ xs) (suc q) r all at =
    let z : suc place + q ≡ place + suc q = omega arith in
    subst (λ p. is_at_index_place places p r (slice_get bases r.op1) ≡ true) z (held_at bases places (suc place) xs q r (and_parts _ _ all).1 at)

at_from : (places : List ℕ) (place : ℕ) (r : RowData) (o : Option ℕ) (base : ℕ) → is_at_index_place places place r o ≡ true → o ≡ Some base → slice_get places (base + r.op2) ≡ Some place
at_from places place r None base e is = cc
at_from places place r (Some b) base e is = place_from (slice_get places (base + r.op2)) (subst (λ z. is_at_index_place places place r (Some z) ≡ true) (some_same b base is) e)
  where
    place_from : (p : Option ℕ) → is_index_entry place p ≡ true → p ≡ Some place
    place_from None e = cc
    place_from (Some p) e = ap (λ z. Some z) (eqb-true p place e)

pub row_between : (starts ends : List ℕ) (first place : ℕ) (r : RowData) → are_rows_in_index_ranges starts ends 0 table_rows ≡ true → length starts ≡ 256 → length ends ≡ 256 → first < 256 → slice_get table_rows place ≡ Some r → r.op1 ≡ first → Between place r (get_or starts first 0) (get_or ends first 0)
row_between starts ends first place r all ls le small at is =
    between_from place r (slice_get starts r.op1) (slice_get ends r.op1) (get_or starts first 0) (get_or ends first 0)
    (subst (λ p. is_in_index_range p r (slice_get starts r.op1) (slice_get ends r.op1) ≡ true) (zero-add place) (held starts ends 0 table_rows place r all at))
    (ap (slice_get starts) is ∙ slice_get-get_or starts first 0 (omega (arith, ls)))
    (ap (slice_get ends) is ∙ slice_get-get_or ends first 0 (omega (arith, le)))

pub none_some : (x : ℕ) → None ≡ Some x → ⊥
none_some x e = cc

pub same_some : (x y : ℕ) → Some x ≡ Some y → x ≡ y
same_some x y e = cc

-- the row of two codes is where the index has it
pub place_has : (bases places : List ℕ) (first a b place : ℕ) (r : RowData) → are_rows_indexed_by_opcodes bases places 0 table_rows ≡ true → length bases ≡ 256 → first < 256 → a ≡ get_or bases first 0 → slice_get table_rows place ≡ Some r → r.op1 ≡ first → r.op2 ≡ b → slice_get places (a + b) ≡ Some place
place_has bases places first a b place r all count small is_a at is_first is_b =
    ap (λ x. slice_get places (x + b)) is_a ∙ ap (λ y. slice_get places (get_or bases first 0 + y)) (sym is_b)
    ∙ at_from places place r (slice_get bases r.op1) (get_or bases first 0)
    (subst (λ p. is_at_index_place places p r (slice_get bases r.op1) ≡ true) (zero-add place) (held_at bases places 0 table_rows place r all at))
    (ap (slice_get bases) is_first ∙ slice_get-get_or bases first 0 (omega (arith, count)))

-- a row that has all fields of its form leaves none that has to be 0
one_plain : (u : Bool) (x b : ℕ) → (u || b == 1) ≡ true → x < b → (u || x == 0) ≡ true
one_plain true x b e low = refl
one_plain false x b e low = let one : b ≡ 1 = eqb-true b 1 e in eq-eqb x 0 (omega arith)

pub plain_zero : (u : Uses) (f b : Fields) → has_all_form_fields u b ≡ true → AreFieldsBelow f b → are_unused_fields_zero u f ≡ true
plain_zero u f b e low =
    let p = and_parts _ _ e in let q = and_parts _ _ p.0 in let r = and_parts _ _ q.0 in let s = and_parts _ _ r.0 in
    and_from _ _ (and_from _ _ (and_from _ _ (and_from _ _
    (one_plain u.c f.c b.c s.0 low.c) (one_plain u.s1 f.s1 b.s1 s.1 low.s1)) (one_plain u.s2 f.s2 b.s2 r.1 low.s2)) (one_plain u.n f.n b.n q.1 low.n)) (one_plain u.k f.k b.k p.1 low.k)

-- the list of such rows is right for the row at a place
pub plain_at : (plain : List Bool) (place : ℕ) (d : Bool) (r : RowData) → plain ≡ map has_all_fields table_rows → slice_get table_rows place ≡ Some r → get_or plain place d ≡ has_all_fields r
plain_at plain place d r are at =
    ap (λ bs. get_or bs place d) are ∙ get_or-map has_all_fields table_rows place r d (slice_get_within table_rows place r at) ∙ ap has_all_fields (get_or_from_slice_get table_rows place r r at)

pub second_at : (form : Form) (place first second w : ℕ) (r : RowData) → ((place : ℕ) (r : RowData) → slice_get table_rows place ≡ Some r → r.op1 ≡ first → form_index r.form ≡ form_index form) → second ≡ second_opcode form w → slice_get table_rows place ≡ Some r → r.op1 ≡ first → second ≡ second_opcode r.form w
second_at form place first second w r forms is at one = is ∙ ap (λ f. second_opcode f w) (sym (same_form r.form form (forms place r at one)))

pub uses_at : (uses : List Uses) (place : ℕ) (d : Uses) (r : RowData) → uses ≡ map used_fields table_rows → slice_get table_rows place ≡ Some r → get_or uses place d ≡ used_fields r
uses_at uses place d r are at =
    ap (λ us. get_or us place d) are ∙ get_or-map used_fields table_rows place r d (slice_get_within table_rows place r at) ∙ ap used_fields (get_or_from_slice_get table_rows place r r at)
