-- The code at each instruction of the routine, in the image and in a view's.
use Rattle.std.proofs.Common.{◌≡◌, ℕ, zero, suc, ◌+◌, ◌-◌, ◌*◌, ◌%◌, ◌^◌, ◌<◌, ◌≤◌, inl, inr, true, false, cond, List, [], ◌∷◌, length, Some, refl, sym, ap, ◌∙◌, subst, arith, lit<, slice_get}
use Rattle.std.proofs.lemmas.Bool.{and_from, le-leb, lt-ltb, cases_lt}
use Rattle.std.specs.Prelude.{codes, slice_index}
use Rattle.std.specs.List.{slice_index_or}
use Rattle.std.specs.Option.{option_map}
use Rattle.elf_image.specs.Images.{ImageData, image_byte}
use Rattle.tcd_base.specs.declared.range.Range.{Range}
use Rattle.tcd_plan.specs.PlanData.{PlanData}
use Rattle.tc_isa.specs.Rows.{RowData, row, table_rows, is_32_bit_row}
use Rattle.tc_isa.specs.declared.table.Form.TheVariants.{Rlc, Rr, Bol, Brc, Sys}
use Rattle.tc_isa.specs.Forms.{field_bounds}
use Rattle.tc_isa.specs.ValidRowFields.{FieldsFitRow}
use Rattle.tc_isa.specs.Spelling.{row_word, four_or_two_bytes, spelling}
use Rattle.tc_isa.specs.Insts.{InstData, inst_fields}
use Rattle.tc_isa.specs.Meanings.{shape_of}
use Rattle.tc_isa.specs.Arithmetic.{sign_extended}
use Rattle.tc_isa.specs.declared.shapes.Arg.TheVariants.{Reg, Word}
use Rattle.tc_isa.specs.declared.shapes.Op.TheVariants.{Second, Add}
use Rattle.tc_isa.specs.declared.shapes.Cond.TheVariants as cond
use Rattle.tc_isa.specs.declared.shapes.Shape.{Shape}
use Rattle.tc_isa.specs.declared.shapes.Shape.TheVariants.{Compute, Scaled, Load, Store, Branch, Ret, Svlcx, Rslcx, Disable, Mfcr, Mtcr, Nothing}
use Rattle.tcd_base.specs.Ranges.{IsInOneRange}
use Rattle.cfg_recover.specs.Code.{IsCode}
use Rattle.task_chains.specs.Tasks.{TasksData, AreTasks, count}
use Rattle.task_chains.specs.SwitchRoutine.{routine_size, switch_routine_bytes, view_routine_bytes, HasRoutine, is_in_routine}
use Rattle.tc_isa.specs.NamedInstructions.{disable, svlcx, isync, rslcx, ret, nop, movh_a, lea_l, ld_w_l, st_w_l, addsc_a, mfcr, mtcr, addi, mov, jne, adjusted_upper_half, lower_half}
use Rattle.task_chains.specs.Views.{view_image_of}
use Rattle.task_chains.proofs.ViewImage.{seen_byte, view_byte}

-- an instruction of four bytes whose spelling is at p
code_at : (image : ImageData) (plan : PlanData) (p : ℕ) (r : RowData) (inst : InstData) (shape : Shape) → p % 2 ≡ 0 → slice_get table_rows inst.row ≡ Some r → FieldsFitRow r (inst_fields inst) → is_32_bit_row r ≡ true → shape_of inst ≡ shape → IsInOneRange p 4 plan.rom
    → ((j : ℕ) → j < 4 → image_byte image (p + j) ≡ Some (slice_index (spelling r (inst_fields inst)) j)) → IsCode image plan p shape 4
code_at image plan p r inst shape even listed_is fits long is in_rom held =
    let four : length (spelling r (inst_fields inst)) ≡ 4 = ap (λ t. length (four_or_two_bytes t (row_word r (inst_fields inst)))) long in
    record {
      even = even;
      bytes = spelling r (inst_fields inst);
      inst = inst;
      spells = record {
        spelled = record { inst = record { row = r; at = listed_is; fits = fits }; is = refl };
        in_rom = subst (λ k. IsInOneRange p k plan.rom) (sym four) in_rom;
        held = λ i lt. held i (omega arith);
      };
      shaped = is;
      sized = four;
    }

-- P of each number below n, and of one of them
abbrev Each : (ℕ → Type 0) → ℕ → Type 0
Each P zero = Unit {0}
Each P (suc n) = P 0 × Each (λ i. P (suc i)) n

each_at : (P : ℕ → Type 0) (n i : ℕ) → Each P n → i < n → P i
each_at P zero i all lt = absurd (omega arith)
each_at P (suc n) zero all lt = all.0
each_at P (suc n) (suc i) all lt = each_at (λ j. P (suc j)) n i all.1 (omega arith)

-- four bytes of a range
inner : (y p k : ℕ) (plan : PlanData) → IsInOneRange y 72 plan.rom → y ≤ p → p + 4 ≤ y + 72 → IsInOneRange p 4 plan.rom
inner y p k plan h low high = by_list plan.rom h
  where
    by_list : (rs : List Range) → IsInOneRange y 72 rs → IsInOneRange p 4 rs
    by_list [] none = absurd none
    by_list (r ∷ rs) (inl w) = inl (let a = w.0 in omega arith, let c = w.1 in omega arith)
    by_list (r ∷ rs) (inr rest) = inr (by_list rs rest)

module _ (image : ImageData) (plan : PlanData) (tasks : TasksData) (are : AreTasks tasks) (has : HasRoutine image plan tasks) where
  abbrev n : ℕ
  n = count tasks

  abbrev b : ℕ
  b = tasks.block

  whole : IsInOneRange tasks.switch 72 plan.rom
  whole = (has 71 (omega arith)).in_rom

  place : (i j : ℕ) → tasks.switch + (4 * i + j) ≡ tasks.switch + 4 * i + j
  place i j = omega arith

  -- byte j of instruction i
  held_at : (i : ℕ) → i < 18 → (bs : List ℕ) → slice_index (switch_routine_bytes tasks) (4 * i + 0) ≡ slice_index bs 0 → slice_index (switch_routine_bytes tasks) (4 * i + 1) ≡ slice_index bs 1 → slice_index (switch_routine_bytes tasks) (4 * i + 2) ≡ slice_index bs 2
      → slice_index (switch_routine_bytes tasks) (4 * i + 3) ≡ slice_index bs 3 → (j : ℕ) → j < 4 → image_byte image (tasks.switch + 4 * i + j) ≡ Some (slice_index bs j)
  held_at i lt bs e0 e1 e2 e3 j less =
      ap (image_byte image) (sym (place i j)) ∙ (has (4 * i + j) (omega arith)).held ∙ ap (λ (x : ℕ). Some x) (each_at (λ j. slice_index (switch_routine_bytes tasks) (4 * i + j) ≡ slice_index bs j) 4 j (e0, (e1, (e2, (e3, tt)))) less)

  even_at : (i : ℕ) → (tasks.switch + 4 * i) % 2 ≡ 0
  even_at i = let e = are.even in omega arith

  view_held : (u i : ℕ) → i < 18 → (bs : List ℕ) → slice_index_or (view_routine_bytes tasks) (4 * i + 0) 0 ≡ slice_index bs 0 → slice_index_or (view_routine_bytes tasks) (4 * i + 1) 0 ≡ slice_index bs 1 → slice_index_or (view_routine_bytes tasks) (4 * i + 2) 0 ≡ slice_index bs 2
      → slice_index_or (view_routine_bytes tasks) (4 * i + 3) 0 ≡ slice_index bs 3 → (j : ℕ) → j < 4 → image_byte (view_image_of image tasks u) (tasks.switch + 4 * i + j) ≡ Some (slice_index bs j)
  view_held u i lt bs e0 e1 e2 e3 j less =
      let x = tasks.switch + 4 * i + j in
      let inside : is_in_routine tasks x ≡ true = and_from _ _ (le-leb tasks.switch x (omega arith)) (lt-ltb x (tasks.switch + routine_size) (omega arith)) in
      let off : x - tasks.switch ≡ 4 * i + j = omega arith in
      view_byte image tasks u x ∙ ap (option_map (seen_byte tasks x)) (ap (image_byte image) (sym (place i j)) ∙ (has (4 * i + j) (omega arith)).held)
      ∙ ap (λ t. Some (cond t (slice_index_or (view_routine_bytes tasks) (x - tasks.switch) 0) (slice_index (switch_routine_bytes tasks) (4 * i + j)))) inside
      ∙ ap (λ k. Some (slice_index_or (view_routine_bytes tasks) k 0)) off ∙ ap (λ (x : ℕ). Some x) (each_at (λ j. slice_index_or (view_routine_bytes tasks) (4 * i + j) 0 ≡ slice_index bs j) 4 j (e0, (e1, (e2, (e3, tt)))) less)

  -- the first eight bytes are the same in a view
  pub first_bytes : (u j : ℕ) → j < 8 → image_byte (view_image_of image tasks u) (tasks.switch + j) ≡ image_byte image (tasks.switch + j)
  unfolding field_bounds shape_of
  first_bytes u j lt =
      elim (cases_lt j 4) [
        | inl low ↦
            let bs = spelling (row (codes "disable") [] Sys 13 13) (inst_fields disable) in
            let at : tasks.switch + 4 * 0 + j ≡ tasks.switch + j = omega arith in
            ap (image_byte (view_image_of image tasks u)) (sym at) ∙ view_held u 0 (lit< tt) bs refl refl refl refl j low ∙ sym (held_at 0 (lit< tt) bs refl refl refl refl j low) ∙ ap (image_byte image) at
        | inr high ↦
            let bs = spelling (row (codes "svlcx") [] Sys 13 8) (inst_fields svlcx) in
            let at : tasks.switch + 4 * 1 + (j - 4) ≡ tasks.switch + j = omega arith in
            ap (image_byte (view_image_of image tasks u)) (sym at) ∙ view_held u 1 (lit< tt) bs refl refl refl refl (j - 4) (omega arith) ∙ sym (held_at 1 (lit< tt) bs refl refl refl refl (j - 4) (omega arith)) ∙ ap (image_byte image) at
      ]

  pub code_0 : IsCode image plan (tasks.switch + 4 * 0) (Disable) 4
  unfolding field_bounds shape_of
  code_0 =
      code_at image plan (tasks.switch + 4 * 0) (row (codes "disable") [] Sys 13 13) disable (Disable) (even_at 0) refl (record { below = record { c = lit< tt; s1 = lit< tt; s2 = lit< tt; n = lit< tt; k = lit< tt }; zero = refl; apart = refl }) refl refl (inner tasks.switch (tasks.switch + 4 * 0) 0 plan whole (omega arith) (omega arith)) (held_at 0 (lit< tt) (spelling (row (codes "disable") [] Sys 13 13) (inst_fields disable)) refl refl refl refl)

  pub code_1 : IsCode image plan (tasks.switch + 4 * 1) (Svlcx) 4
  unfolding field_bounds shape_of
  code_1 =
      code_at image plan (tasks.switch + 4 * 1) (row (codes "svlcx") [] Sys 13 8) svlcx (Svlcx) (even_at 1) refl (record { below = record { c = lit< tt; s1 = lit< tt; s2 = lit< tt; n = lit< tt; k = lit< tt }; zero = refl; apart = refl }) refl refl (inner tasks.switch (tasks.switch + 4 * 1) 0 plan whole (omega arith) (omega arith)) (held_at 1 (lit< tt) (spelling (row (codes "svlcx") [] Sys 13 8) (inst_fields svlcx)) refl refl refl refl)

  pub code_2 : IsCode image plan (tasks.switch + 4 * 2) (Compute Second 18 (Word 0) (Word (adjusted_upper_half b * 2 ^ 16 % 2 ^ 32))) 4
  unfolding field_bounds shape_of
  code_2 =
      code_at image plan (tasks.switch + 4 * 2) (row (codes "movh.a") (codes "Ac, uk") Rlc 145 0) (movh_a 2 (adjusted_upper_half b)) (Compute Second 18 (Word 0) (Word (adjusted_upper_half b * 2 ^ 16 % 2 ^ 32))) (even_at 2) refl (record { below = record { c = lit< tt; s1 = lit< tt; s2 = lit< tt; n = lit< tt; k = omega arith }; zero = refl; apart = refl }) refl refl (inner tasks.switch (tasks.switch + 4 * 2) 0 plan whole (omega arith) (omega arith)) (held_at 2 (lit< tt) (spelling (row (codes "movh.a") (codes "Ac, uk") Rlc 145 0) (inst_fields (movh_a 2 (adjusted_upper_half b)))) refl refl refl refl)

  pub code_3 : IsCode image plan (tasks.switch + 4 * 3) (Compute Add 18 (Reg 18) (Word (sign_extended 16 (lower_half b % 2 ^ 16)))) 4
  unfolding field_bounds shape_of
  code_3 =
      code_at image plan (tasks.switch + 4 * 3) (row (codes "lea.l") (codes "As1, [As2]sk") Bol 217 0) (lea_l 2 2 (lower_half b)) (Compute Add 18 (Reg 18) (Word (sign_extended 16 (lower_half b % 2 ^ 16)))) (even_at 3) refl (record { below = record { c = lit< tt; s1 = lit< tt; s2 = lit< tt; n = lit< tt; k = omega arith }; zero = refl; apart = refl }) refl refl (inner tasks.switch (tasks.switch + 4 * 3) 0 plan whole (omega arith) (omega arith)) (held_at 3 (lit< tt) (spelling (row (codes "lea.l") (codes "As1, [As2]sk") Bol 217 0) (inst_fields (lea_l 2 2 (lower_half b)))) refl refl refl refl)

  pub code_4 : IsCode image plan (tasks.switch + 4 * 4) (Load 0 (Reg 18) (sign_extended 16 (4 * n % 2 ^ 16)) 4 false false) 4
  unfolding field_bounds shape_of
  code_4 =
      code_at image plan (tasks.switch + 4 * 4) (row (codes "ld.w.l") (codes "Ds1, [As2]sk") Bol 25 0) (ld_w_l 0 2 (4 * n)) (Load 0 (Reg 18) (sign_extended 16 (4 * n % 2 ^ 16)) 4 false false) (even_at 4) refl (record { below = record { c = lit< tt; s1 = lit< tt; s2 = lit< tt; n = lit< tt; k = let few = are.few in omega arith }; zero = refl; apart = refl }) refl refl (inner tasks.switch (tasks.switch + 4 * 4) 0 plan whole (omega arith) (omega arith)) (held_at 4 (lit< tt) (spelling (row (codes "ld.w.l") (codes "Ds1, [As2]sk") Bol 25 0) (inst_fields (ld_w_l 0 2 (4 * n)))) refl refl refl refl)

  pub code_5 : IsCode image plan (tasks.switch + 4 * 5) (Scaled 19 18 0 2) 4
  unfolding field_bounds shape_of
  code_5 =
      code_at image plan (tasks.switch + 4 * 5) (row (codes "addsc.a") (codes "Ac, As2, Ds1, n") Rr 1 96) (addsc_a 3 2 0 2) (Scaled 19 18 0 2) (even_at 5) refl (record { below = record { c = lit< tt; s1 = lit< tt; s2 = lit< tt; n = lit< tt; k = lit< tt }; zero = refl; apart = refl }) refl refl (inner tasks.switch (tasks.switch + 4 * 5) 0 plan whole (omega arith) (omega arith)) (held_at 5 (lit< tt) (spelling (row (codes "addsc.a") (codes "Ac, As2, Ds1, n") Rr 1 96) (inst_fields (addsc_a 3 2 0 2))) refl refl refl refl)

  pub code_6 : IsCode image plan (tasks.switch + 4 * 6) (Mfcr 1 0xfe00) 4
  unfolding field_bounds shape_of
  code_6 =
      code_at image plan (tasks.switch + 4 * 6) (row (codes "mfcr") (codes "Dc, uk") Rlc 77 0) (mfcr 1 0xfe00) (Mfcr 1 0xfe00) (even_at 6) refl (record { below = record { c = lit< tt; s1 = lit< tt; s2 = lit< tt; n = lit< tt; k = lit< tt }; zero = refl; apart = refl }) refl refl (inner tasks.switch (tasks.switch + 4 * 6) 0 plan whole (omega arith) (omega arith)) (held_at 6 (lit< tt) (spelling (row (codes "mfcr") (codes "Dc, uk") Rlc 77 0) (inst_fields (mfcr 1 0xfe00))) refl refl refl refl)

  pub code_7 : IsCode image plan (tasks.switch + 4 * 7) (Store 1 (Reg 19) 0 4 false) 4
  unfolding field_bounds shape_of
  code_7 =
      code_at image plan (tasks.switch + 4 * 7) (row (codes "st.w.l") (codes "[As2]sk, Ds1") Bol 89 0) (st_w_l 3 0 1) (Store 1 (Reg 19) 0 4 false) (even_at 7) refl (record { below = record { c = lit< tt; s1 = lit< tt; s2 = lit< tt; n = lit< tt; k = lit< tt }; zero = refl; apart = refl }) refl refl (inner tasks.switch (tasks.switch + 4 * 7) 0 plan whole (omega arith) (omega arith)) (held_at 7 (lit< tt) (spelling (row (codes "st.w.l") (codes "[As2]sk, Ds1") Bol 89 0) (inst_fields (st_w_l 3 0 1))) refl refl refl refl)

  pub code_8 : IsCode image plan (tasks.switch + 4 * 8) (Compute Add 0 (Reg 0) (Word 1)) 4
  unfolding field_bounds shape_of
  code_8 =
      code_at image plan (tasks.switch + 4 * 8) (row (codes "addi") (codes "Dc, Ds1, sk") Rlc 27 0) (addi 0 0 1) (Compute Add 0 (Reg 0) (Word 1)) (even_at 8) refl (record { below = record { c = lit< tt; s1 = lit< tt; s2 = lit< tt; n = lit< tt; k = lit< tt }; zero = refl; apart = refl }) refl refl (inner tasks.switch (tasks.switch + 4 * 8) 0 plan whole (omega arith) (omega arith)) (held_at 8 (lit< tt) (spelling (row (codes "addi") (codes "Dc, Ds1, sk") Rlc 27 0) (inst_fields (addi 0 0 1))) refl refl refl refl)

  pub code_9 : IsCode image plan (tasks.switch + 4 * 9) (Branch cond.Ne 0 (Word (sign_extended 4 (n % 2 ^ 4))) 8 false) 4
  unfolding field_bounds shape_of
  code_9 =
      code_at image plan (tasks.switch + 4 * 9) (row (codes "jne") (codes "Ds1, sk4, T") Brc 223 1) (jne 0 n 4) (Branch cond.Ne 0 (Word (sign_extended 4 (n % 2 ^ 4))) 8 false) (even_at 9) refl (record { below = record { c = lit< tt; s1 = lit< tt; s2 = let few = are.few in omega arith; n = lit< tt; k = lit< tt }; zero = refl; apart = refl }) refl refl (inner tasks.switch (tasks.switch + 4 * 9) 0 plan whole (omega arith) (omega arith)) (held_at 9 (lit< tt) (spelling (row (codes "jne") (codes "Ds1, sk4, T") Brc 223 1) (inst_fields (jne 0 n 4))) refl refl refl refl)

  pub code_10 : IsCode image plan (tasks.switch + 4 * 10) (Compute Second 0 (Word 0) (Word 0)) 4
  unfolding field_bounds shape_of
  code_10 =
      code_at image plan (tasks.switch + 4 * 10) (row (codes "mov") (codes "Dc, sk") Rlc 59 0) (mov 0 0) (Compute Second 0 (Word 0) (Word 0)) (even_at 10) refl (record { below = record { c = lit< tt; s1 = lit< tt; s2 = lit< tt; n = lit< tt; k = lit< tt }; zero = refl; apart = refl }) refl refl (inner tasks.switch (tasks.switch + 4 * 10) 0 plan whole (omega arith) (omega arith)) (held_at 10 (lit< tt) (spelling (row (codes "mov") (codes "Dc, sk") Rlc 59 0) (inst_fields (mov 0 0))) refl refl refl refl)

  pub code_11 : IsCode image plan (tasks.switch + 4 * 11) (Store 0 (Reg 18) (sign_extended 16 (4 * n % 2 ^ 16)) 4 false) 4
  unfolding field_bounds shape_of
  code_11 =
      code_at image plan (tasks.switch + 4 * 11) (row (codes "st.w.l") (codes "[As2]sk, Ds1") Bol 89 0) (st_w_l 2 (4 * n) 0) (Store 0 (Reg 18) (sign_extended 16 (4 * n % 2 ^ 16)) 4 false) (even_at 11) refl (record { below = record { c = lit< tt; s1 = lit< tt; s2 = lit< tt; n = lit< tt; k = let few = are.few in omega arith }; zero = refl; apart = refl }) refl refl (inner tasks.switch (tasks.switch + 4 * 11) 0 plan whole (omega arith) (omega arith)) (held_at 11 (lit< tt) (spelling (row (codes "st.w.l") (codes "[As2]sk, Ds1") Bol 89 0) (inst_fields (st_w_l 2 (4 * n) 0))) refl refl refl refl)

  pub code_12 : IsCode image plan (tasks.switch + 4 * 12) (Scaled 19 18 0 2) 4
  unfolding field_bounds shape_of
  code_12 =
      code_at image plan (tasks.switch + 4 * 12) (row (codes "addsc.a") (codes "Ac, As2, Ds1, n") Rr 1 96) (addsc_a 3 2 0 2) (Scaled 19 18 0 2) (even_at 12) refl (record { below = record { c = lit< tt; s1 = lit< tt; s2 = lit< tt; n = lit< tt; k = lit< tt }; zero = refl; apart = refl }) refl refl (inner tasks.switch (tasks.switch + 4 * 12) 0 plan whole (omega arith) (omega arith)) (held_at 12 (lit< tt) (spelling (row (codes "addsc.a") (codes "Ac, As2, Ds1, n") Rr 1 96) (inst_fields (addsc_a 3 2 0 2))) refl refl refl refl)

  pub code_13 : IsCode image plan (tasks.switch + 4 * 13) (Load 1 (Reg 19) 0 4 false false) 4
  unfolding field_bounds shape_of
  code_13 =
      code_at image plan (tasks.switch + 4 * 13) (row (codes "ld.w.l") (codes "Ds1, [As2]sk") Bol 25 0) (ld_w_l 1 3 0) (Load 1 (Reg 19) 0 4 false false) (even_at 13) refl (record { below = record { c = lit< tt; s1 = lit< tt; s2 = lit< tt; n = lit< tt; k = lit< tt }; zero = refl; apart = refl }) refl refl (inner tasks.switch (tasks.switch + 4 * 13) 0 plan whole (omega arith) (omega arith)) (held_at 13 (lit< tt) (spelling (row (codes "ld.w.l") (codes "Ds1, [As2]sk") Bol 25 0) (inst_fields (ld_w_l 1 3 0))) refl refl refl refl)

  pub code_14 : IsCode image plan (tasks.switch + 4 * 14) (Mtcr 1 0xfe00) 4
  unfolding field_bounds shape_of
  code_14 =
      code_at image plan (tasks.switch + 4 * 14) (row (codes "mtcr") (codes "uk, Ds1") Rlc 205 0) (mtcr 0xfe00 1) (Mtcr 1 0xfe00) (even_at 14) refl (record { below = record { c = lit< tt; s1 = lit< tt; s2 = lit< tt; n = lit< tt; k = lit< tt }; zero = refl; apart = refl }) refl refl (inner tasks.switch (tasks.switch + 4 * 14) 0 plan whole (omega arith) (omega arith)) (held_at 14 (lit< tt) (spelling (row (codes "mtcr") (codes "uk, Ds1") Rlc 205 0) (inst_fields (mtcr 0xfe00 1))) refl refl refl refl)

  pub code_15 : IsCode image plan (tasks.switch + 4 * 15) (Nothing) 4
  unfolding field_bounds shape_of
  code_15 =
      code_at image plan (tasks.switch + 4 * 15) (row (codes "isync") [] Sys 13 19) isync (Nothing) (even_at 15) refl (record { below = record { c = lit< tt; s1 = lit< tt; s2 = lit< tt; n = lit< tt; k = lit< tt }; zero = refl; apart = refl }) refl refl (inner tasks.switch (tasks.switch + 4 * 15) 0 plan whole (omega arith) (omega arith)) (held_at 15 (lit< tt) (spelling (row (codes "isync") [] Sys 13 19) (inst_fields isync)) refl refl refl refl)

  pub code_16 : IsCode image plan (tasks.switch + 4 * 16) (Rslcx) 4
  unfolding field_bounds shape_of
  code_16 =
      code_at image plan (tasks.switch + 4 * 16) (row (codes "rslcx") [] Sys 13 9) rslcx (Rslcx) (even_at 16) refl (record { below = record { c = lit< tt; s1 = lit< tt; s2 = lit< tt; n = lit< tt; k = lit< tt }; zero = refl; apart = refl }) refl refl (inner tasks.switch (tasks.switch + 4 * 16) 0 plan whole (omega arith) (omega arith)) (held_at 16 (lit< tt) (spelling (row (codes "rslcx") [] Sys 13 9) (inst_fields rslcx)) refl refl refl refl)

  pub code_17 : IsCode image plan (tasks.switch + 4 * 17) (Ret) 4
  unfolding field_bounds shape_of
  code_17 =
      code_at image plan (tasks.switch + 4 * 17) (row (codes "ret") [] Sys 13 6) ret (Ret) (even_at 17) refl (record { below = record { c = lit< tt; s1 = lit< tt; s2 = lit< tt; n = lit< tt; k = lit< tt }; zero = refl; apart = refl }) refl refl (inner tasks.switch (tasks.switch + 4 * 17) 0 plan whole (omega arith) (omega arith)) (held_at 17 (lit< tt) (spelling (row (codes "ret") [] Sys 13 6) (inst_fields ret)) refl refl refl refl)

  pub view_code_0 : (u : ℕ) → IsCode (view_image_of image tasks u) plan (tasks.switch + 4 * 0) (Disable) 4
  unfolding field_bounds shape_of
  view_code_0 u =
      code_at (view_image_of image tasks u) plan (tasks.switch + 4 * 0) (row (codes "disable") [] Sys 13 13) disable (Disable) (even_at 0) refl (record { below = record { c = lit< tt; s1 = lit< tt; s2 = lit< tt; n = lit< tt; k = lit< tt }; zero = refl; apart = refl }) refl refl (inner tasks.switch (tasks.switch + 4 * 0) 0 plan whole (omega arith) (omega arith)) (view_held u 0 (lit< tt) (spelling (row (codes "disable") [] Sys 13 13) (inst_fields disable)) refl refl refl refl)

  pub view_code_1 : (u : ℕ) → IsCode (view_image_of image tasks u) plan (tasks.switch + 4 * 1) (Svlcx) 4
  unfolding field_bounds shape_of
  view_code_1 u =
      code_at (view_image_of image tasks u) plan (tasks.switch + 4 * 1) (row (codes "svlcx") [] Sys 13 8) svlcx (Svlcx) (even_at 1) refl (record { below = record { c = lit< tt; s1 = lit< tt; s2 = lit< tt; n = lit< tt; k = lit< tt }; zero = refl; apart = refl }) refl refl (inner tasks.switch (tasks.switch + 4 * 1) 0 plan whole (omega arith) (omega arith)) (view_held u 1 (lit< tt) (spelling (row (codes "svlcx") [] Sys 13 8) (inst_fields svlcx)) refl refl refl refl)

  pub view_code_2 : (u : ℕ) → IsCode (view_image_of image tasks u) plan (tasks.switch + 4 * 2) (Compute Second 18 (Word 0) (Word (adjusted_upper_half b * 2 ^ 16 % 2 ^ 32))) 4
  unfolding field_bounds shape_of
  view_code_2 u =
      code_at (view_image_of image tasks u) plan (tasks.switch + 4 * 2) (row (codes "movh.a") (codes "Ac, uk") Rlc 145 0) (movh_a 2 (adjusted_upper_half b)) (Compute Second 18 (Word 0) (Word (adjusted_upper_half b * 2 ^ 16 % 2 ^ 32))) (even_at 2) refl (record { below = record { c = lit< tt; s1 = lit< tt; s2 = lit< tt; n = lit< tt; k = omega arith }; zero = refl; apart = refl }) refl refl (inner tasks.switch (tasks.switch + 4 * 2) 0 plan whole (omega arith) (omega arith)) (view_held u 2 (lit< tt) (spelling (row (codes "movh.a") (codes "Ac, uk") Rlc 145 0) (inst_fields (movh_a 2 (adjusted_upper_half b)))) refl refl refl refl)

  pub view_code_3 : (u : ℕ) → IsCode (view_image_of image tasks u) plan (tasks.switch + 4 * 3) (Compute Add 18 (Reg 18) (Word (sign_extended 16 (lower_half b % 2 ^ 16)))) 4
  unfolding field_bounds shape_of
  view_code_3 u =
      code_at (view_image_of image tasks u) plan (tasks.switch + 4 * 3) (row (codes "lea.l") (codes "As1, [As2]sk") Bol 217 0) (lea_l 2 2 (lower_half b)) (Compute Add 18 (Reg 18) (Word (sign_extended 16 (lower_half b % 2 ^ 16)))) (even_at 3) refl (record { below = record { c = lit< tt; s1 = lit< tt; s2 = lit< tt; n = lit< tt; k = omega arith }; zero = refl; apart = refl }) refl refl (inner tasks.switch (tasks.switch + 4 * 3) 0 plan whole (omega arith) (omega arith)) (view_held u 3 (lit< tt) (spelling (row (codes "lea.l") (codes "As1, [As2]sk") Bol 217 0) (inst_fields (lea_l 2 2 (lower_half b)))) refl refl refl refl)

  pub view_code_4 : (u : ℕ) → IsCode (view_image_of image tasks u) plan (tasks.switch + 4 * 4) (Mfcr 0 0) 4
  unfolding field_bounds shape_of
  view_code_4 u =
      code_at (view_image_of image tasks u) plan (tasks.switch + 4 * 4) (row (codes "mfcr") (codes "Dc, uk") Rlc 77 0) (mfcr 0 0) (Mfcr 0 0) (even_at 4) refl (record { below = record { c = lit< tt; s1 = lit< tt; s2 = lit< tt; n = lit< tt; k = lit< tt }; zero = refl; apart = refl }) refl refl (inner tasks.switch (tasks.switch + 4 * 4) 0 plan whole (omega arith) (omega arith)) (view_held u 4 (lit< tt) (spelling (row (codes "mfcr") (codes "Dc, uk") Rlc 77 0) (inst_fields (mfcr 0 0))) refl refl refl refl)

  pub view_code_5 : (u : ℕ) → IsCode (view_image_of image tasks u) plan (tasks.switch + 4 * 5) (Scaled 19 18 0 2) 4
  unfolding field_bounds shape_of
  view_code_5 u =
      code_at (view_image_of image tasks u) plan (tasks.switch + 4 * 5) (row (codes "addsc.a") (codes "Ac, As2, Ds1, n") Rr 1 96) (addsc_a 3 2 0 2) (Scaled 19 18 0 2) (even_at 5) refl (record { below = record { c = lit< tt; s1 = lit< tt; s2 = lit< tt; n = lit< tt; k = lit< tt }; zero = refl; apart = refl }) refl refl (inner tasks.switch (tasks.switch + 4 * 5) 0 plan whole (omega arith) (omega arith)) (view_held u 5 (lit< tt) (spelling (row (codes "addsc.a") (codes "Ac, As2, Ds1, n") Rr 1 96) (inst_fields (addsc_a 3 2 0 2))) refl refl refl refl)

  pub view_code_6 : (u : ℕ) → IsCode (view_image_of image tasks u) plan (tasks.switch + 4 * 6) (Mfcr 1 0) 4
  unfolding field_bounds shape_of
  view_code_6 u =
      code_at (view_image_of image tasks u) plan (tasks.switch + 4 * 6) (row (codes "mfcr") (codes "Dc, uk") Rlc 77 0) (mfcr 1 0) (Mfcr 1 0) (even_at 6) refl (record { below = record { c = lit< tt; s1 = lit< tt; s2 = lit< tt; n = lit< tt; k = lit< tt }; zero = refl; apart = refl }) refl refl (inner tasks.switch (tasks.switch + 4 * 6) 0 plan whole (omega arith) (omega arith)) (view_held u 6 (lit< tt) (spelling (row (codes "mfcr") (codes "Dc, uk") Rlc 77 0) (inst_fields (mfcr 1 0))) refl refl refl refl)

  pub view_code_7 : (u : ℕ) → IsCode (view_image_of image tasks u) plan (tasks.switch + 4 * 7) (Nothing) 4
  unfolding field_bounds shape_of
  view_code_7 u =
      code_at (view_image_of image tasks u) plan (tasks.switch + 4 * 7) (row (codes "nop") [] Sys 13 0) nop (Nothing) (even_at 7) refl (record { below = record { c = lit< tt; s1 = lit< tt; s2 = lit< tt; n = lit< tt; k = lit< tt }; zero = refl; apart = refl }) refl refl (inner tasks.switch (tasks.switch + 4 * 7) 0 plan whole (omega arith) (omega arith)) (view_held u 7 (lit< tt) (spelling (row (codes "nop") [] Sys 13 0) (inst_fields nop)) refl refl refl refl)

  pub view_code_8 : (u : ℕ) → IsCode (view_image_of image tasks u) plan (tasks.switch + 4 * 8) (Compute Add 0 (Reg 0) (Word 1)) 4
  unfolding field_bounds shape_of
  view_code_8 u =
      code_at (view_image_of image tasks u) plan (tasks.switch + 4 * 8) (row (codes "addi") (codes "Dc, Ds1, sk") Rlc 27 0) (addi 0 0 1) (Compute Add 0 (Reg 0) (Word 1)) (even_at 8) refl (record { below = record { c = lit< tt; s1 = lit< tt; s2 = lit< tt; n = lit< tt; k = lit< tt }; zero = refl; apart = refl }) refl refl (inner tasks.switch (tasks.switch + 4 * 8) 0 plan whole (omega arith) (omega arith)) (view_held u 8 (lit< tt) (spelling (row (codes "addi") (codes "Dc, Ds1, sk") Rlc 27 0) (inst_fields (addi 0 0 1))) refl refl refl refl)

  pub view_code_9 : (u : ℕ) → IsCode (view_image_of image tasks u) plan (tasks.switch + 4 * 9) (Branch cond.Ne 0 (Word (sign_extended 4 (n % 2 ^ 4))) 8 false) 4
  unfolding field_bounds shape_of
  view_code_9 u =
      code_at (view_image_of image tasks u) plan (tasks.switch + 4 * 9) (row (codes "jne") (codes "Ds1, sk4, T") Brc 223 1) (jne 0 n 4) (Branch cond.Ne 0 (Word (sign_extended 4 (n % 2 ^ 4))) 8 false) (even_at 9) refl (record { below = record { c = lit< tt; s1 = lit< tt; s2 = let few = are.few in omega arith; n = lit< tt; k = lit< tt }; zero = refl; apart = refl }) refl refl (inner tasks.switch (tasks.switch + 4 * 9) 0 plan whole (omega arith) (omega arith)) (view_held u 9 (lit< tt) (spelling (row (codes "jne") (codes "Ds1, sk4, T") Brc 223 1) (inst_fields (jne 0 n 4))) refl refl refl refl)

  pub view_code_10 : (u : ℕ) → IsCode (view_image_of image tasks u) plan (tasks.switch + 4 * 10) (Compute Second 0 (Word 0) (Word 0)) 4
  unfolding field_bounds shape_of
  view_code_10 u =
      code_at (view_image_of image tasks u) plan (tasks.switch + 4 * 10) (row (codes "mov") (codes "Dc, sk") Rlc 59 0) (mov 0 0) (Compute Second 0 (Word 0) (Word 0)) (even_at 10) refl (record { below = record { c = lit< tt; s1 = lit< tt; s2 = lit< tt; n = lit< tt; k = lit< tt }; zero = refl; apart = refl }) refl refl (inner tasks.switch (tasks.switch + 4 * 10) 0 plan whole (omega arith) (omega arith)) (view_held u 10 (lit< tt) (spelling (row (codes "mov") (codes "Dc, sk") Rlc 59 0) (inst_fields (mov 0 0))) refl refl refl refl)

  pub view_code_11 : (u : ℕ) → IsCode (view_image_of image tasks u) plan (tasks.switch + 4 * 11) (Nothing) 4
  unfolding field_bounds shape_of
  view_code_11 u =
      code_at (view_image_of image tasks u) plan (tasks.switch + 4 * 11) (row (codes "nop") [] Sys 13 0) nop (Nothing) (even_at 11) refl (record { below = record { c = lit< tt; s1 = lit< tt; s2 = lit< tt; n = lit< tt; k = lit< tt }; zero = refl; apart = refl }) refl refl (inner tasks.switch (tasks.switch + 4 * 11) 0 plan whole (omega arith) (omega arith)) (view_held u 11 (lit< tt) (spelling (row (codes "nop") [] Sys 13 0) (inst_fields nop)) refl refl refl refl)

  pub view_code_12 : (u : ℕ) → IsCode (view_image_of image tasks u) plan (tasks.switch + 4 * 12) (Scaled 19 18 0 2) 4
  unfolding field_bounds shape_of
  view_code_12 u =
      code_at (view_image_of image tasks u) plan (tasks.switch + 4 * 12) (row (codes "addsc.a") (codes "Ac, As2, Ds1, n") Rr 1 96) (addsc_a 3 2 0 2) (Scaled 19 18 0 2) (even_at 12) refl (record { below = record { c = lit< tt; s1 = lit< tt; s2 = lit< tt; n = lit< tt; k = lit< tt }; zero = refl; apart = refl }) refl refl (inner tasks.switch (tasks.switch + 4 * 12) 0 plan whole (omega arith) (omega arith)) (view_held u 12 (lit< tt) (spelling (row (codes "addsc.a") (codes "Ac, As2, Ds1, n") Rr 1 96) (inst_fields (addsc_a 3 2 0 2))) refl refl refl refl)

  pub view_code_13 : (u : ℕ) → IsCode (view_image_of image tasks u) plan (tasks.switch + 4 * 13) (Mfcr 1 0) 4
  unfolding field_bounds shape_of
  view_code_13 u =
      code_at (view_image_of image tasks u) plan (tasks.switch + 4 * 13) (row (codes "mfcr") (codes "Dc, uk") Rlc 77 0) (mfcr 1 0) (Mfcr 1 0) (even_at 13) refl (record { below = record { c = lit< tt; s1 = lit< tt; s2 = lit< tt; n = lit< tt; k = lit< tt }; zero = refl; apart = refl }) refl refl (inner tasks.switch (tasks.switch + 4 * 13) 0 plan whole (omega arith) (omega arith)) (view_held u 13 (lit< tt) (spelling (row (codes "mfcr") (codes "Dc, uk") Rlc 77 0) (inst_fields (mfcr 1 0))) refl refl refl refl)

  pub view_code_14 : (u : ℕ) → IsCode (view_image_of image tasks u) plan (tasks.switch + 4 * 14) (Nothing) 4
  unfolding field_bounds shape_of
  view_code_14 u =
      code_at (view_image_of image tasks u) plan (tasks.switch + 4 * 14) (row (codes "nop") [] Sys 13 0) nop (Nothing) (even_at 14) refl (record { below = record { c = lit< tt; s1 = lit< tt; s2 = lit< tt; n = lit< tt; k = lit< tt }; zero = refl; apart = refl }) refl refl (inner tasks.switch (tasks.switch + 4 * 14) 0 plan whole (omega arith) (omega arith)) (view_held u 14 (lit< tt) (spelling (row (codes "nop") [] Sys 13 0) (inst_fields nop)) refl refl refl refl)

  pub view_code_15 : (u : ℕ) → IsCode (view_image_of image tasks u) plan (tasks.switch + 4 * 15) (Nothing) 4
  unfolding field_bounds shape_of
  view_code_15 u =
      code_at (view_image_of image tasks u) plan (tasks.switch + 4 * 15) (row (codes "isync") [] Sys 13 19) isync (Nothing) (even_at 15) refl (record { below = record { c = lit< tt; s1 = lit< tt; s2 = lit< tt; n = lit< tt; k = lit< tt }; zero = refl; apart = refl }) refl refl (inner tasks.switch (tasks.switch + 4 * 15) 0 plan whole (omega arith) (omega arith)) (view_held u 15 (lit< tt) (spelling (row (codes "isync") [] Sys 13 19) (inst_fields isync)) refl refl refl refl)

  pub view_code_16 : (u : ℕ) → IsCode (view_image_of image tasks u) plan (tasks.switch + 4 * 16) (Rslcx) 4
  unfolding field_bounds shape_of
  view_code_16 u =
      code_at (view_image_of image tasks u) plan (tasks.switch + 4 * 16) (row (codes "rslcx") [] Sys 13 9) rslcx (Rslcx) (even_at 16) refl (record { below = record { c = lit< tt; s1 = lit< tt; s2 = lit< tt; n = lit< tt; k = lit< tt }; zero = refl; apart = refl }) refl refl (inner tasks.switch (tasks.switch + 4 * 16) 0 plan whole (omega arith) (omega arith)) (view_held u 16 (lit< tt) (spelling (row (codes "rslcx") [] Sys 13 9) (inst_fields rslcx)) refl refl refl refl)

  pub view_code_17 : (u : ℕ) → IsCode (view_image_of image tasks u) plan (tasks.switch + 4 * 17) (Ret) 4
  unfolding field_bounds shape_of
  view_code_17 u =
      code_at (view_image_of image tasks u) plan (tasks.switch + 4 * 17) (row (codes "ret") [] Sys 13 6) ret (Ret) (even_at 17) refl (record { below = record { c = lit< tt; s1 = lit< tt; s2 = lit< tt; n = lit< tt; k = lit< tt }; zero = refl; apart = refl }) refl refl (inner tasks.switch (tasks.switch + 4 * 17) 0 plan whole (omega arith) (omega arith)) (view_held u 17 (lit< tt) (spelling (row (codes "ret") [] Sys 13 6) (inst_fields ret)) refl refl refl refl)

  -- each of them
  abbrev SomeCode : ImageData → ℕ → Type 0
  SomeCode image i = (shape : Shape) × IsCode image plan (tasks.switch + 4 * i) shape 4

  pub some_code : (i : ℕ) → i < 18 → SomeCode image i
  some_code i lt = each_at (SomeCode image) 18 i ((_, code_0), ((_, code_1), ((_, code_2), ((_, code_3), ((_, code_4), ((_, code_5), ((_, code_6), ((_, code_7), ((_, code_8), ((_, code_9), ((_, code_10), ((_, code_11), ((_, code_12), ((_, code_13), ((_, code_14), ((_, code_15), ((_, code_16), ((_, code_17), tt)))))))))))))))))) lt

  pub some_view_code : (u i : ℕ) → i < 18 → SomeCode (view_image_of image tasks u) i
  some_view_code u i lt = each_at (SomeCode (view_image_of image tasks u)) 18 i ((_, view_code_0 u), ((_, view_code_1 u), ((_, view_code_2 u), ((_, view_code_3 u), ((_, view_code_4 u), ((_, view_code_5 u), ((_, view_code_6 u), ((_, view_code_7 u), ((_, view_code_8 u), ((_, view_code_9 u), ((_, view_code_10 u), ((_, view_code_11 u), ((_, view_code_12 u), ((_, view_code_13 u), ((_, view_code_14 u), ((_, view_code_15 u), ((_, view_code_16 u), ((_, view_code_17 u), tt)))))))))))))))))) lt
