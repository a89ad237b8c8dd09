-- No bytes begin with instructions of two rows.
use Rattle.std.proofs.Common.{◌≡◌, inl, inr, ◌/◌, ◌%◌, ◌^◌, ◌<◌, ℕ, zero, suc, Bool, true, false, List, [], ◌∷◌, ◌++◌, refl, sym, ap, subst, ◌∙◌, arith, ◌==◌, Some}
use Rattle.std.specs.Prelude.{slice_get}
use Rattle.std.specs.List.{list_any}
use Rattle.std.proofs.lemmas.Bool.{and_parts, and_from, eqb-true, eq-eqb, or_parts, or_left, or_right, not-true, cases_Bool, not_from_false, both_ways, cases_order}
use Rattle.tc_isa.specs.declared.fields.Fields.{Fields}
use Rattle.tc_isa.specs.declared.table.Form.{Form}
use Rattle.tc_isa.specs.declared.table.Form.TheVariants.{Rlc, Rr, Rc, Bol, Bo, Brr, Brc, B, Abs, Sys, Sr, Sc, Sb, Sbr, Src, Srr, Slr, Ssr}
use Rattle.tc_isa.specs.Rows.{RowData, table_rows, is_32_bit_row}
use Rattle.tc_isa.specs.Forms.{second_opcode, form_index}
use Rattle.tc_isa.specs.ValidRowFields.{FieldsFitRow, IsRow, have_clashing_opcodes, have_no_clashing_opcodes}
use Rattle.tc_isa.specs.Spelling.{row_word, four_or_two_bytes, spelling}
use Rattle.tc_encode.proofs.Inverse.{first-word, second-word}
use Rattle.tc_isa.proofs.TableFacts.{row_at, rows_are_apart}

-- a form by its number
form_at : ℕ → Form
form_at zero = Rlc
form_at (suc zero) = Rr
form_at (suc (suc zero)) = Rc
form_at (suc (suc (suc zero))) = Bol
form_at (suc (suc (suc (suc zero)))) = Bo
form_at (suc (suc (suc (suc (suc zero))))) = Brr
form_at (suc (suc (suc (suc (suc (suc zero)))))) = Brc
form_at (suc (suc (suc (suc (suc (suc (suc zero))))))) = B
form_at (suc (suc (suc (suc (suc (suc (suc (suc zero)))))))) = Abs
form_at (suc (suc (suc (suc (suc (suc (suc (suc (suc zero))))))))) = Sys
form_at (suc (suc (suc (suc (suc (suc (suc (suc (suc (suc zero)))))))))) = Sr
form_at (suc (suc (suc (suc (suc (suc (suc (suc (suc (suc (suc zero))))))))))) = Sc
form_at (suc (suc (suc (suc (suc (suc (suc (suc (suc (suc (suc (suc zero)))))))))))) = Sb
form_at (suc (suc (suc (suc (suc (suc (suc (suc (suc (suc (suc (suc (suc zero))))))))))))) = Sbr
form_at (suc (suc (suc (suc (suc (suc (suc (suc (suc (suc (suc (suc (suc (suc zero)))))))))))))) = Src
form_at (suc (suc (suc (suc (suc (suc (suc (suc (suc (suc (suc (suc (suc (suc (suc zero))))))))))))))) = Srr
form_at (suc (suc (suc (suc (suc (suc (suc (suc (suc (suc (suc (suc (suc (suc (suc (suc zero)))))))))))))))) = Slr
form_at (suc (suc (suc (suc (suc (suc (suc (suc (suc (suc (suc (suc (suc (suc (suc (suc (suc n))))))))))))))))) = Ssr

form_back : (f : Form) → form_at (form_index f) ≡ f
unfolding form_at form_index
form_back Rlc = refl
form_back _ = refl

pub same_form : (f g : Form) → form_index f ≡ form_index g → f ≡ g
same_form f g e = sym (form_back f) ∙ ap form_at e ∙ form_back g

-- rows with one word have one first code, and another form or one second code
pub clash_of : (r s : RowData) (f g : Fields) → IsRow r → IsRow s → FieldsFitRow r f → FieldsFitRow s g → row_word r f ≡ row_word s g → have_clashing_opcodes r s ≡ true
clash_of r s f g row sow fits gits is =
    let first : r.op1 ≡ s.op1 = sym (first-word r.form r.op1 r.op2 f row.first row.second fits.below) ∙ ap (λ w. w % 256) is ∙ first-word s.form s.op1 s.op2 g sow.first sow.second gits.below in
    and_from _ _ (eq-eqb _ _ first) (elim (cases_Bool (form_index r.form == form_index s.form)) [
      | inr other ↦ or_left _ _ (not_from_false _ other)
      | inl same ↦
          let form : r.form ≡ s.form = same_form r.form s.form (eqb-true _ _ same) in
          let second : r.op2 ≡ s.op2 = sym (second-word r.form r.op1 r.op2 f row.first row.second fits.below) ∙ ap (second_opcode r.form) is ∙ ap (λ x. second_opcode x (row_word s g)) form ∙ second-word s.form s.op1 s.op2 g sow.first sow.second gits.below in
          or_right _ _ (eq-eqb _ _ second)
    ])

-- no row clashes with a later one
any_false : {X : Type 0} (t : X → Bool) (xs : List X) (q : ℕ) (x : X) → list_any t xs ≡ false → slice_get xs q ≡ Some x → t x ≡ false
any_false t [] q x none at = cc
any_false t (y ∷ ys) zero x none at = let e : y ≡ x = cc in subst (λ z. t z ≡ false) e (or_parts _ _ none).0
any_false t (y ∷ ys) (suc q) x none at = any_false t ys q x (or_parts _ _ none).1 at

later : (rs : List RowData) (p q : ℕ) (r s : RowData) → have_no_clashing_opcodes rs ≡ true → slice_get rs p ≡ Some r → slice_get rs q ≡ Some s → p < q → have_clashing_opcodes r s ≡ false
later [] p q r s none at to lt = cc
later (x ∷ xs) zero zero r s none at to lt = absurd (omega arith)
later (x ∷ xs) zero (suc q) r s none at to lt =
    let e : x ≡ r = cc in
    subst (λ z. have_clashing_opcodes z s ≡ false) e (any_false (have_clashing_opcodes x) xs q s (not-true _ (and_parts _ _ none).0) to)
later (x ∷ xs) (suc p) zero r s none at to lt = absurd (omega arith)
later (x ∷ xs) (suc p) (suc q) r s none at to lt = later xs p q r s (and_parts _ _ none).1 at to (omega arith)

-- listed rows with one word are one
pub one_row : (p q : ℕ) (r s : RowData) (f g : Fields) → slice_get table_rows p ≡ Some r → slice_get table_rows q ≡ Some s → FieldsFitRow r f → FieldsFitRow s g → row_word r f ≡ row_word s g → p ≡ q
one_row p q r s f g at to fits gits is =
    elim (cases_order p q) [
      | inl same ↦ same
      | inr apart ↦ elim apart [
        | inl less ↦ absurd (both_ways _ (later table_rows p q r s rows_are_apart at to less) (clash_of r s f g (row_at p r at) (row_at q s to) fits gits is))
        | inr more ↦ absurd (both_ways _ (later table_rows q p s r rows_are_apart to at more) (clash_of s r g f (row_at q s to) (row_at p r at) gits fits (sym is)))
      ]
    ]

-- bytes that begin with two spellings have one first byte, so the spellings are equally long and
-- equal
head_of : (l m : Bool) (v w : ℕ) (x y : List ℕ) → four_or_two_bytes l v ++ x ≡ four_or_two_bytes m w ++ y → v % 256 ≡ w % 256
head_of true true v w x y e = cc
head_of true false v w x y e = cc
head_of false true v w x y e = cc
head_of false false v w x y e = cc

same_word : (l : Bool) (v w : ℕ) (x y : List ℕ) → v < 2 ^ 32 → w < 2 ^ 32 → four_or_two_bytes l v ++ x ≡ four_or_two_bytes l w ++ y → v ≡ w
same_word true v w x y hv hw e =
    let a : v % 256 ≡ w % 256 = cc in let b : v / 2 ^ 8 % 256 ≡ w / 2 ^ 8 % 256 = cc in
    let c : v / 2 ^ 16 % 256 ≡ w / 2 ^ 16 % 256 = cc in let d : v / 2 ^ 24 ≡ w / 2 ^ 24 = cc in omega arith
same_word false v w x y hv hw e = let a : v % 256 ≡ w % 256 = cc in let b : v / 256 ≡ w / 256 = cc in omega arith

pub one_length : (r s : RowData) (f g : Fields) (x y : List ℕ) → IsRow r → IsRow s → FieldsFitRow r f → FieldsFitRow s g → spelling r f ++ x ≡ spelling s g ++ y → is_32_bit_row r ≡ is_32_bit_row s
one_length r s f g x y row sow fits gits e =
    let first : r.op1 ≡ s.op1 = sym (first-word r.form r.op1 r.op2 f row.first row.second fits.below) ∙ head_of (is_32_bit_row r) (is_32_bit_row s) (row_word r f) (row_word s g) x y e ∙ first-word s.form s.op1 s.op2 g sow.first sow.second gits.below in
    ap (λ x. x % 2 == 1) first

pub one_word : (r s : RowData) (f g : Fields) (x y : List ℕ) → IsRow r → IsRow s → FieldsFitRow r f → FieldsFitRow s g → row_word r f < 2 ^ 32 → row_word s g < 2 ^ 32 → spelling r f ++ x ≡ spelling s g ++ y → row_word r f ≡ row_word s g
one_word r s f g x y row sow fits gits hr hs e =
    let long : is_32_bit_row r ≡ is_32_bit_row s = one_length r s f g x y row sow fits gits e in
    same_word (is_32_bit_row r) (row_word r f) (row_word s g) x y hr hs (e ∙ ap (λ l. four_or_two_bytes l (row_word s g) ++ y) (sym long))
