-- Beginnings of instructions are completed by the least fields of their row.
use Rattle.std.proofs.Common.{eq-eqb, ◌+◌, ◌*◌, ◌/◌, ◌%◌, ◌≡◌, ◌⊎◌, inl, inr, ◌≤◌, ℕ, zero, suc, Bool, true, false, refl, ◌||◌, ◌==◌, arith}
use Rattle.std.proofs.lemmas.Bool.{eqb-true, and_from, and_parts}
use Rattle.tc_isa.specs.Rows.{RowData}
use Rattle.tc_isa.specs.declared.fields.Fields.{Fields}
use Rattle.tc_isa.specs.declared.fields.Uses.{Uses}
use Rattle.tc_isa.specs.Forms.{fields_of_word}
use Rattle.tc_encode.specs.WordSearch.{with_low_bytes, power_of_256}
use Rattle.tc_isa.specs.ValidRowFields.{FieldsFitRow, IsRow, used_fields, are_unused_fields_zero, are_registers_allowed, least_fields}
use Rattle.tc_isa.specs.Spelling.{row_word}
use Rattle.tc_encode.proofs.Mixed.{Mixed, mixed1, mixed2, mixed3}

mixed : (r : RowData) (n : ℕ) (f : Fields) → IsRow r → FieldsFitRow r f → 1 ≤ n → n ≤ 3 → Mixed r.form r.op1 r.op2 f (least_fields r) (with_low_bytes n (row_word r f) (row_word r (least_fields r)))
mixed r zero f row fits low high = absurd (omega arith)
mixed r (suc zero) f row fits low high = mixed1 r.form r.op1 r.op2 f (least_fields r) row.first row.second fits.below row.has_least.below
mixed r (suc (suc zero)) f row fits low high = mixed2 r.form r.op1 r.op2 f (least_fields r) row.first row.second fits.below row.has_least.below
mixed r (suc (suc (suc n))) f row fits low high = mixed3 r.form r.op1 r.op2 f (least_fields r) row.first row.second fits.below row.has_least.below

one_zero : (u : Bool) (a b x : ℕ) → (u || a == 0) ≡ true → (u || b == 0) ≡ true → (a ≡ 0 → b ≡ 0 → x ≡ 0) → (u || x == 0) ≡ true
one_zero true a b x p q f = refl
one_zero false a b x p q f = eq-eqb x 0 (f (eqb-true a 0 p) (eqb-true b 0 q))

zero_of : (u : Uses) (f g x : Fields) → are_unused_fields_zero u f ≡ true → are_unused_fields_zero u g ≡ true → (f.c ≡ 0 → g.c ≡ 0 → x.c ≡ 0) → (f.s1 ≡ 0 → g.s1 ≡ 0 → x.s1 ≡ 0) → (f.s2 ≡ 0 → g.s2 ≡ 0 → x.s2 ≡ 0) → (f.n ≡ 0 → g.n ≡ 0 → x.n ≡ 0) → (f.k ≡ 0 → g.k ≡ 0 → x.k ≡ 0) → are_unused_fields_zero u x ≡ true
zero_of u f g x p q c s1 s2 n k =
    let p1 = and_parts _ _ p in let p2 = and_parts _ _ p1.0 in let p3 = and_parts _ _ p2.0 in let p4 = and_parts _ _ p3.0 in
    let q1 = and_parts _ _ q in let q2 = and_parts _ _ q1.0 in let q3 = and_parts _ _ q2.0 in let q4 = and_parts _ _ q3.0 in
    and_from _ _ (and_from _ _ (and_from _ _ (and_from _ _
    (one_zero u.c f.c g.c x.c p4.0 q4.0 c) (one_zero u.s1 f.s1 g.s1 x.s1 p4.1 q4.1 s1)) (one_zero u.s2 f.s2 g.s2 x.s2 p3.1 q3.1 s2)) (one_zero u.n f.n g.n x.n p2.1 q2.1 n)) (one_zero u.k f.k g.k x.k p1.1 q1.1 k)

apart_as : (r : RowData) (f x : Fields) → x.s1 ≡ f.s1 → x.s2 ≡ f.s2 → are_registers_allowed r f ≡ true → are_registers_allowed r x ≡ true
apart_as r f x p q is = rw (p, q) is

apart_of : (r : RowData) (f g x : Fields) → ((x.s1 ≡ g.s1) × (x.s2 ≡ g.s2)) ⊎ ((x.s1 ≡ f.s1) × (x.s2 ≡ f.s2)) → are_registers_allowed r f ≡ true → are_registers_allowed r g ≡ true → are_registers_allowed r x ≡ true
apart_of r f g x (inl e) p q = apart_as r g x e.0 e.1 q
apart_of r f g x (inr e) p q = apart_as r f x e.0 e.1 p

-- the beginning of a spelling, completed by the least fields, is a spelling
pub completed : (r : RowData) (n : ℕ) (f : Fields) → IsRow r → FieldsFitRow r f → 1 ≤ n → n ≤ 3 → (x : Fields) × FieldsFitRow r x × (row_word r x ≡ with_low_bytes n (row_word r f) (row_word r (least_fields r)))
completed r n f row fits low high =
    let m = mixed r n f row fits low high in
    let x = fields_of_word r.form (with_low_bytes n (row_word r f) (row_word r (least_fields r))) in
    (x, record { below = m.below; zero = zero_of (used_fields r) f (least_fields r) x fits.zero row.has_least.zero m.c m.s1 m.s2 m.n m.k; apart = apart_of r f (least_fields r) x m.registers fits.apart row.has_least.apart }, m.is)

pub same_mix : (n a b part rest s : ℕ) → a % power_of_256 n ≡ part → rest ≡ b → s ≡ power_of_256 n → with_low_bytes n a b ≡ part + rest / s * s
same_mix n a b part rest s low same is = rw (same, is, low) refl
