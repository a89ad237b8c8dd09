-- Instructions that begin with given bytes.
use Rattle.std.proofs.Common.{◌≡◌, ◌+◌, ◌*◌, ◌/◌, ◌%◌, ◌<◌, ◌≤◌, ℕ, zero, suc, true, List, length, get_or, refl, sym, ap, subst, ◌∙◌, arith, Option, Some, None}
use Rattle.std.specs.Prelude.{slice_get, IfSome}
use Rattle.tc_isa.specs.Rows.{RowData, table_rows}
use Rattle.tc_isa.specs.ValidRowFields.{FieldsFitRow, least_fields}
use Rattle.tc_isa.specs.Spelling.{row_word}
use Rattle.tc_isa.specs.Insts.{InstData, inst_fields}
use Rattle.tc_isa.proofs.TableFacts.{row_at}
use Rattle.tc_encode.specs.Decoding.{instruction_at_row, row_instruction_length}
use Rattle.tc_encode.specs.WordSearch.{IsWordOf, IsCompletionOf, power_of_256, are_rows_in_index_ranges}
use Rattle.tc_encode.proofs.Complete.{completed, same_mix}
use Rattle.tc_encode.proofs.Finds.{row_is, first_is, Between, stands_between}

-- the low bytes of a number of two parts
low_part : (n part rest : ℕ) → part < power_of_256 n → (part + rest / power_of_256 n * power_of_256 n) % power_of_256 n ≡ part
low_part zero part rest h = omega arith
low_part (suc zero) part rest h = omega arith
low_part (suc (suc zero)) part rest h = omega arith
low_part (suc (suc (suc n))) part rest h = omega arith

pub goes_from : (place n part rest s : ℕ) (r : RowData) (i : InstData) → slice_get table_rows place ≡ Some r → n < row_instruction_length r → part < power_of_256 n → s ≡ power_of_256 n → i.row ≡ place → IsWordOf (part + rest / s * s) i → IsCompletionOf n part i
goes_from place n part rest s r i at longer small is same m =
    let row = row_is place r i m.inst at same in
    record {
      inst = m.inst;
      longer = subst (λ (t : RowData). n < row_instruction_length t) (sym row) longer;
      is = ap (λ w. w % power_of_256 n) (m.is ∙ ap (λ z. part + rest / z * z) is) ∙ low_part n part rest small;
    }

-- bytes that an instruction of the row begins with are completed by the row's least fields
pub goes_least : (place n part rest s : ℕ) (r : RowData) (i : InstData) → slice_get table_rows place ≡ Some r → 1 ≤ n → n ≤ 3 → s ≡ power_of_256 n → rest ≡ row_word r (least_fields r) → i.row ≡ place → IsCompletionOf n part i → (j : InstData) × (j.row ≡ place) × IsWordOf (part + rest / s * s) j
goes_least place n part rest s r i at low high is least_is same g =
    let row = row_is place r i g.inst at same in
    let fits : FieldsFitRow r (inst_fields i) = subst (λ (t : RowData). FieldsFitRow t (inst_fields i)) row g.inst.fits in
    let part_is : row_word r (inst_fields i) % power_of_256 n ≡ part = subst (λ (t : RowData). row_word t (inst_fields i) % power_of_256 n ≡ part) row g.is in
    let x = completed r n (inst_fields i) (row_at place r at) fits low high in
    (instruction_at_row place x.0, refl, record { inst = record { row = r; at = at; fits = x.1 }; is = x.2 ∙ same_mix n (row_word r (inst_fields i)) (row_word r (least_fields r)) part rest s part_is least_is is })

-- the first byte of an instruction
low_byte : (n w : ℕ) → 1 ≤ n → w % power_of_256 n % 256 ≡ w % 256
low_byte zero w h = absurd (omega arith)
low_byte (suc zero) w h = omega arith
low_byte (suc (suc zero)) w h = omega arith
low_byte (suc (suc (suc n))) w h = omega arith

pub goes_between : (starts ends : List ℕ) (first n part : ℕ) (i : InstData) (g : IsCompletionOf n part i) → are_rows_in_index_ranges starts ends 0 table_rows ≡ true → length starts ≡ 256 → length ends ≡ 256 → 1 ≤ n → first ≡ part % 256 → Between i.row g.inst.row (get_or starts first 0) (get_or ends first 0)
goes_between starts ends first n part i g all ls le low is =
    let w = row_word g.inst.row (inst_fields i) in
    let same : w % 256 ≡ first = sym (low_byte n w low) ∙ ap (λ p. p % 256) g.is ∙ sym is in
    subst (λ p. Between i.row g.inst.row (get_or starts p 0) (get_or ends p 0)) same (stands_between starts ends w i (record { inst = g.inst; is = refl }) all ls le)

pub goes_first : (place n part : ℕ) (r : RowData) (i : InstData) → slice_get table_rows place ≡ Some r → 1 ≤ n → IsCompletionOf n part i → i.row ≡ place → r.op1 ≡ part % 256
goes_first place n part r i at low g same =
    let w = row_word g.inst.row (inst_fields i) in
    ap (λ (t : RowData). t.op1) (sym (row_is place r i g.inst at same))
    ∙ sym (first_is w i (record { inst = g.inst; is = refl }))
    ∙ sym (low_byte n w low)
    ∙ ap (λ p. p % 256) g.is

pub both_some : {X : Type 0} {P Q R : X → Type 0} (r : Option X) → IfSome r P → IfSome r Q → ((x : X) → P x → Q x → R x) → IfSome r R
both_some None p q f = tt
both_some (Some x) p q f = f x p q
