-- The files determine the report of a command.
use Rattle.std.proofs.Common.{◌≡◌, ◌≢◌, ◌<◌, ◌≤◌, ◌+◌, inl, inr, ℕ, List, [], ◌∷◌, length, Option, Some, None, sym, ap, subst, ◌∙◌, arith}
use Rattle.std.specs.Prelude.{IsSomeAnd}
use Rattle.std.specs.FinMap.{get}
use Rattle.tcd_base.specs.Files.{FileMap}
use Rattle.tcd_reading.specs.Reports.{Report, IsReportStatus}
use Rattle.tcd_reading.specs.Inputs.{FormSeen, HoldsInput, IsInputRejection, long, bad, Reading, answer, input, input_files, ReadingSays, HoldsNeededInputs}
use Rattle.tcd_reading.specs.declared.status.Status.{Status}
use Rattle.tcd_reading.specs.declared.status.Status.TheVariants.{Done, Refused, BadInput, Fault, BadWords}

-- ---- one file has one form
same_bytes : (o : Option (List ℕ)) (a b : List ℕ) → o ≡ Some a → o ≡ Some b → a ≡ b
same_bytes o a b e f = cc

not_long : (n : ℕ) (o : Option (List ℕ)) (bytes : List ℕ) → o ≡ Some bytes → length bytes ≤ n → IsSomeAnd o (λ b. n < length b) → ⊥
not_long n o bytes e within h =
    let P : Option (List ℕ) → Type 0 = λ x. IsSomeAnd x (λ b. n < length b) in
    let l : n < length bytes = subst P e h in
    omega arith

-- bytes are one value of a form, or none
pub record IsLawful {A : Type 0} (form : FormSeen A) : Type 0 where
  pub one : (bytes : List ℕ) (x y : A) → form.Is bytes x → form.Is bytes y → x ≡ y
  pub apart : (bytes text : List ℕ) (x : A) → form.Is bytes x → form.IsBad bytes text → ⊥

pub one_value : {A : Type 0} (form : FormSeen A) (m : FileMap) (name : List ℕ) (x y : A) → IsLawful form → HoldsInput form (Some m) name x → HoldsInput form (Some m) name y → x ≡ y
one_value form m name x y lawful h k = lawful.one k.0 x y (subst (λ (b : List ℕ). form.Is b x) (same_bytes (get m name) h.0 k.0 h.1 k.1) h.3) k.3

pub never_both : {A : Type 0} (form : FormSeen A) (m : FileMap) (name text : List ℕ) (x : A) → IsLawful form → HoldsInput form (Some m) name x → IsInputRejection form (Some m) name text → ⊥
never_both form m name text x lawful h (long too is) = not_long form.limit (get m name) h.0 h.1 h.2 too
never_both form m name text x lawful h (bad bytes reads within is) = lawful.apart bytes text x (subst (λ (b : List ℕ). form.Is b x) (same_bytes (get m name) h.0 bytes h.1 reads) h.3) is

-- ---- reports
pub status_is : (r q : Report) → r ≡ q → r.status ≡ q.status
status_is r q e = ap (λ (x : Report). x.status) e

pub writes_are : (r q : Report) → r ≡ q → r.writes ≡ q.writes
writes_are r q e = ap (λ (x : Report). x.writes) e

-- reports with the same status, of those that a report has; only reports with status Done write
pub record AreAlike (P : Report → Type 0) : Type 0 where
  pub told : (r : Report) → P r → IsReportStatus r.status
  pub done : (r : Report) → P r → r.status ≢ Done → r.writes ≡ []
  pub one : (r q : Report) → P r → P q → r.status ≡ q.status

-- each form of a reading is lawful, and its reports are alike
pub IsDecided : Reading → Type 0
IsDecided (answer P) = AreAlike P
IsDecided (input A form name next) = IsLawful form × ((x : A) → IsDecided (next x))

pub decided_input : (A : Type 0) (form : FormSeen A) (name : List ℕ) (next : A → Reading) → IsLawful form → ((x : A) → IsDecided (next x)) → IsDecided (input A form name next)
unfolding IsDecided
decided_input A form name next lawful rest = (lawful, rest)

pub decided_answer : (P : Report → Type 0) → AreAlike P → IsDecided (answer P)
unfolding IsDecided
decided_answer P h = h

pub decided_each : (A : Type 0) (form : ℕ → FormSeen A) (place : ℕ) (names : List (List ℕ)) (next : List A → Reading) → ((n : ℕ) → IsLawful (form n)) → ((xs : List A) → IsDecided (next xs)) → IsDecided (input_files A form place names next)
unfolding IsDecided
decided_each A form place [] next lawful rest = rest []
decided_each A form place (name ∷ names) next lawful rest = (lawful place, λ x. decided_each A form (place + 1) names (λ xs. next (x ∷ xs)) lawful (λ xs. rest (x ∷ xs)))

pub said_told : (reading : Reading) (held : Option FileMap) (r : Report) → IsDecided reading → ReadingSays reading held r → IsReportStatus r.status
unfolding IsDecided
said_told (answer P) held r d says = d.told r says
said_told (input A form name next) held r d (inl h) = inr (inr h.status)
said_told (input A form name next) held r d (inr h) = said_told (next h.0) held r (d.1 h.0) h.2

-- the arguments are at fault in none, and neither are files or memory
pub never_words : (s : Status) → IsReportStatus s → s ≡ BadWords → ⊥
never_words s (inl e) b = let f : Done ≡ BadWords = sym e ∙ b in cc
never_words s (inr (inl e)) b = let f : Refused ≡ BadWords = sym e ∙ b in cc
never_words s (inr (inr e)) b = let f : BadInput ≡ BadWords = sym e ∙ b in cc

pub never_fault : (s : Status) → IsReportStatus s → s ≡ Fault → ⊥
never_fault s (inl e) b = let f : Done ≡ Fault = sym e ∙ b in cc
never_fault s (inr (inl e)) b = let f : Refused ≡ Fault = sym e ∙ b in cc
never_fault s (inr (inr e)) b = let f : BadInput ≡ Fault = sym e ∙ b in cc

pub said_done : (reading : Reading) (held : Option FileMap) (r : Report) → IsDecided reading → ReadingSays reading held r → r.status ≢ Done → r.writes ≡ []
unfolding IsDecided
said_done (answer P) held r d says undone = d.done r says undone
said_done (input A form name next) held r d (inl h) undone = h.nothing
said_done (input A form name next) held r d (inr h) undone = said_done (next h.0) held r (d.1 h.0) h.2 undone

-- two reports on the same inputs have the same status
pub said_one : (reading : Reading) (held : Option FileMap) (r q : Report) → IsDecided reading → HoldsNeededInputs reading held → ReadingSays reading held r → ReadingSays reading held q → r.status ≡ q.status
unfolding IsDecided
said_one (answer P) held r q d holds a b = d.one r q a b
said_one (input A form name next) None r q d holds a b = absurd holds.0
said_one (input A form name next) (Some m) r q d holds (inl a) (inl b) = a.status ∙ sym b.status
said_one (input A form name next) (Some m) r q d holds (inl a) (inr b) = absurd (never_both form m name r.text b.0 d.0 b.1 a.line)
said_one (input A form name next) (Some m) r q d holds (inr a) (inl b) = absurd (never_both form m name q.text a.0 d.0 a.1 b.line)
said_one (input A form name next) (Some m) r q d holds (inr a) (inr b) =
    let here : ReadingSays (next a.0) (Some m) q = subst (λ (x : A). ReadingSays (next x) (Some m) q) (one_value form m name b.0 a.0 d.0 b.1 a.1) b.2 in
    said_one (next a.0) (Some m) r q (d.1 a.0) (holds.1 a.0 a.1) a.2 here
