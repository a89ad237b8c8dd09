-- What is held once a file was written, and what is said of inputs that are held.
use Rattle.std.proofs.Common.{◌≡◌, ◌≤◌, ◌+◌, inl, inr, ℕ, Bool, true, false, cond, List, [], ◌∷◌, length, Option, Some, None, refl, ap, subst, ◌∙◌}
use Rattle.std.specs.Prelude.{IsSome, is_some}
use Rattle.std.specs.FinMap.{get, insert, get-insert}
use Rattle.std.specs.Cmp.Lexicographic.{nat_list_cmp_total}
use Rattle.std.specs.Str.{bytes_eq}
use Rattle.std.proofs.lemmas.Map.Text.{is_eq-slice_cmp}
use Rattle.std.proofs.lemmas.Slice.Eq.{bytes_eq-Decides}
use Rattle.tcd_base.specs.Files.{FileMap}
use Rattle.tcd_reading.specs.Reports.{Report}
use Rattle.tcd_reading.specs.Inputs.{FormSeen, HoldsInput, Reading, input, input_files, answer, ReadingSays, HoldsNeededInputs}
use Rattle.tcd_reading.specs.declared.status.Status.TheVariants.{Done}
use Rattle.tcd_reading.proofs.Decided.{IsLawful, one_value, never_both}
use Rattle.tcd_laws.specs.Sequences.{ReportsSurely}
use Rattle.tcd_laws.specs.HandedFiles.{ReadsBackAs, HoldEachInput}

-- files that tell nothing tell no map
pub nothing_told : IsSome {T = FileMap} None → ⊥
nothing_told e = cc

-- ---- one file was written
get_written : (m : FileMap) (name bytes q : List ℕ) → get (insert m name bytes) q ≡ cond (bytes_eq q name) (Some bytes) (get m q)
get_written m name bytes q = get-insert nat_list_cmp_total m name bytes q ∙ ap (λ b. cond b (Some bytes) (get m q)) (is_eq-slice_cmp q name)

pub get_same : (m : FileMap) (name bytes : List ℕ) → get (insert m name bytes) name ≡ Some bytes
get_same m name bytes = get_written m name bytes name ∙ ap (λ b. cond b (Some bytes) (get m name)) ((bytes_eq-Decides name name).1 refl)

pub differ : (q name : List ℕ) → (q ≡ name → ⊥) → bytes_eq q name ≡ false
differ q name other = by_test (bytes_eq q name) refl
  where
    by_test : (b : Bool) → bytes_eq q name ≡ b → bytes_eq q name ≡ false
    by_test true e = absurd (other ((bytes_eq-Decides q name).0 e))
    by_test false e = e

pub get_other : (m : FileMap) (name bytes q : List ℕ) → (q ≡ name → ⊥) → get (insert m name bytes) q ≡ get m q
get_other m name bytes q other = get_written m name bytes q ∙ ap (λ b. cond b (Some bytes) (get m q)) (differ q name other)

pub input_same : {A : Type 0} (form : FormSeen A) (m : FileMap) (name bytes : List ℕ) (x : A) → length bytes ≤ form.limit → form.Is bytes x → HoldsInput form (Some (insert m name bytes)) name x
input_same form m name bytes x short is = (bytes, get_same m name bytes, short, is)

pub input_other : {A : Type 0} (form : FormSeen A) (m : FileMap) (name bytes q : List ℕ) (x : A) → (q ≡ name → ⊥) → HoldsInput form (Some m) q x → HoldsInput form (Some (insert m name bytes)) q x
input_other form m name bytes q x other h = (h.0, get_other m name bytes q other ∙ h.1, h.2, h.3)

-- ---- exactly one value
pub exactly : {A : Type 0} (form : FormSeen A) (m : FileMap) (name : List ℕ) (x : A) → IsLawful form → HoldsInput form (Some m) name x → ReadsBackAs form (Some m) name x
exactly form m name x lawful h = record { is = h; only = λ y k. one_value form m name y x lawful k h; good = λ text bad. never_both form m name text x lawful h bad }

-- ---- readings
is_held : (o : Option (List ℕ)) (bytes : List ℕ) → o ≡ Some bytes → IsSome o
is_held o bytes e = ap (λ (x : Option (List ℕ)). is_some x) e

pub input_said : {A : Type 0} (form : FormSeen A) (m : FileMap) (name : List ℕ) (x : A) (next : A → Reading) (r : Report) → IsLawful form → HoldsInput form (Some m) name x → ReadingSays (input A form name next) (Some m) r → ReadingSays (next x) (Some m) r
input_said form m name x next r lawful h (inl bad) = absurd (never_both form m name r.text x lawful h bad.line)
input_said {A} form m name x next r lawful h (inr s) = subst (λ (y : A). ReadingSays (next y) (Some m) r) (one_value form m name s.0 x lawful s.1 h) s.2

asked_input : {A : Type 0} (form : FormSeen A) (m : FileMap) (name : List ℕ) (x : A) (next : A → Reading) → IsLawful form → HoldsInput form (Some m) name x → HoldsNeededInputs (next x) (Some m) → HoldsNeededInputs (input A form name next) (Some m)
asked_input {A} form m name x next lawful h asked =
    (is_held (get m name) h.0 h.1, λ y k. subst (λ (z : A). HoldsNeededInputs (next z) (Some m)) (one_value form m name x y lawful h k) asked)

pub sure_input : {A : Type 0} (form : FormSeen A) (m : FileMap) (name : List ℕ) (x : A) (next : A → Reading) (q : Report) → IsLawful form → HoldsInput form (Some m) name x → ReportsSurely (next x) (Some m) q → ReportsSurely (input A form name next) (Some m) q
sure_input form m name x next q lawful h s = record {
  asked = asked_input form m name x next lawful h s.asked;
  said = inr (x, h, s.said);
  only = λ o says. s.only o (input_said form m name x next o lawful h says);
  done = s.done;
}

pub sure_each : {A : Type 0} (form : ℕ → FormSeen A) (place : ℕ) (m : FileMap) (names : List (List ℕ)) (xs : List A) (next : List A → Reading) (q : Report) → ((n : ℕ) → IsLawful (form n)) → HoldEachInput form place (Some m) names xs →
    ReportsSurely (next xs) (Some m) q → ReportsSurely (input_files A form place names next) (Some m) q
sure_each form place m [] [] next q lawful h s = s
sure_each form place m [] (x ∷ xs) next q lawful h s = absurd h
sure_each form place m (name ∷ names) [] next q lawful h s = absurd h
sure_each {A} form place m (name ∷ names) (x ∷ xs) next q lawful h s =
    sure_input (form place) m name x (λ y. input_files A form (place + 1) names (λ ys. next (y ∷ ys))) q (lawful place) h.0 (sure_each form (place + 1) m names xs (λ ys. next (x ∷ ys)) q lawful h.1 s)

pub sure_answer : (P : Report → Type 0) (held : Option FileMap) (q : Report) → P q → ((o : Report) → P o → o ≡ q) → q.status ≡ Done → ReportsSurely (answer P) held q
sure_answer P held q is only done = record { asked = tt; said = is; only = only; done = done }
