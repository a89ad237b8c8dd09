-- The meaning of a row in the program's table is the meaning of the instruction.
use Rattle.std.proofs.Common.{◌≡◌, ◌<◌, ℕ, List, [], map, length, get_or, ap, sym, subst, ◌∙◌, arith, refl}
use Rattle.std.specs.Prelude.{slice_get}
use Rattle.std.proofs.lemmas.List.{get_or-map, length-map}
use Rattle.std.proofs.lemmas.Option.{slice_get-get_or, slice_get_within}
use Rattle.tc_isa.specs.declared.fields.Fields.{Fields}
use Rattle.tc_isa.specs.declared.meaning.Meaning.{Meaning}
use Rattle.tc_isa.specs.declared.shapes.Shape.{Shape}
use Rattle.tc_isa.specs.declared.table.TheConstants.{ROW_COUNT}
use Rattle.tc_isa.specs.declared.table.Form.{Form}
use Rattle.tc_isa.specs.declared.table.Form.TheVariants.{Rlc}
use Rattle.tc_isa.specs.Rows.{table_rows}
use Rattle.tc_isa.specs.Forms.{field_bounds}
use Rattle.tc_isa.specs.InBounds.{AreFieldsBelow, FieldsFitTheirBits}
use Rattle.tc_isa.specs.Insts.{InstData, IsInst, inst_fields}
use Rattle.tc_isa.specs.Meanings.{MeaningLine, meanings, meaning_by_line, shape_of}
use Rattle.tc_isa.specs.FromFields.{shape_from_fields}

-- bounds of the fields of a form
small_in : (form : Form) (f : Fields) → AreFieldsBelow f (field_bounds form) → FieldsFitTheirBits f
unfolding field_bounds
small_in Rlc f b = record { c = omega arith; s1 = omega arith; s2 = omega arith; n = omega arith; k = omega arith }
small_in _ f b = record { c = omega arith; s1 = omega arith; s2 = omega arith; n = omega arith; k = omega arith }

pub small : (i : InstData) → IsInst i → FieldsFitTheirBits (inst_fields i)
small i is = small_in is.row.form (inst_fields i) is.fits.below

count_listed : length table_rows ≡ ROW_COUNT
count_listed = refl

count_meanings : length meanings ≡ ROW_COUNT
count_meanings = refl

pub row_below : (i : InstData) → IsInst i → i.row < ROW_COUNT
row_below i is = subst (λ n. i.row < n) count_listed (slice_get_within table_rows i.row is.row is.at)

pub meanings_enough : (ms : List Meaning) (p : ℕ) (i : InstData) → map shape_from_fields ms ≡ map (λ l. l.shape) meanings → p ≡ i.row → IsInst i → p < length ms
meanings_enough ms p i are same is =
    let count : length ms ≡ ROW_COUNT = sym (length-map ms shape_from_fields) ∙ ap length are ∙ length-map meanings (λ (l : MeaningLine). l.shape) ∙ count_meanings in
    omega (arith, count, row_below i is, same)

pub shaped : (ms : List Meaning) (p : ℕ) (d : Meaning) (i : InstData) → map shape_from_fields ms ≡ map (λ l. l.shape) meanings → p ≡ i.row → IsInst i → shape_from_fields (get_or ms p d) (inst_fields i) ≡ shape_of i
unfolding shape_of
shaped ms p d i are same is =
    let within = meanings_enough ms p i are same is in
    let e : MeaningLine = record { name = []; shape = shape_from_fields d } in
    let there : p < length meanings = omega (arith, row_below i is, same, count_meanings) in
    let one : shape_from_fields (get_or ms p d) ≡ (get_or meanings p e).shape =
    sym (get_or-map shape_from_fields ms p d (shape_from_fields d) within) ∙ ap (λ (fs : List (Fields → Shape)). get_or fs p (shape_from_fields d)) are ∙ get_or-map (λ (l : MeaningLine). l.shape) meanings p e (shape_from_fields d) there in
    let line : meaning_by_line (slice_get meanings i.row) ≡ (get_or meanings p e).shape = ap (λ q. meaning_by_line (slice_get meanings q)) (sym same) ∙ ap meaning_by_line (slice_get-get_or meanings p e there) in
    ap (λ (m : Fields → Shape). m (inst_fields i)) (one ∙ sym line)
