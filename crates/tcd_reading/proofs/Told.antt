-- The outcome of a command, from the results of its parts.
use Rattle.std.proofs.Common.{◌≡◌, ◌≤◌, inl, inr, ℕ, List, length, Option, Result, Ok, Err, refl, sym, subst, ◌∙◌, arith}
use Rattle.std.specs.Prelude.{IfErr, IsTrue}
use Rattle.std.specs.Result.{IsErrAnd}
use Rattle.tcd_base.specs.Files.{FileMap, FilesSeen, ReadKeepsFiles, ReadsFile}
use Rattle.tcd_base.specs.FailingCalls.{IsFaultCounted}
use Rattle.tcd_reading.specs.Reports.{Report, RejectsInput, text_report}
use Rattle.tcd_reading.specs.Inputs.{FormSeen, HoldsInput, IsInputRejection, bad, Reading, answer, input, ReadingSays, HoldsNeededInputs, HasAllInputs, HasFailedToReadInput}
use Rattle.tcd_reading.specs.Outcomes.{Outcome, IsReportOutcome, IsBadInputStop, HasFailedToReadFile, IsCommandOutcome}
use Rattle.tcd_reading.specs.declared.outcome.Stop.{Stop}
use Rattle.tcd_reading.specs.declared.outcome.Stop.TheVariants as stop
use Rattle.tcd_reading.specs.declared.status.Status.TheVariants.{BadInput}

-- ---- outcomes
-- an outcome for one property of reports is one for a weaker property
pub told_as : (P Q : Report → Type 0) (F G : Type 0) (o : Outcome) → IsReportOutcome P F o → ((r : Report) → P r → Q r) → (F → G) → IsReportOutcome Q G o
told_as P Q F G (Ok r) h p f = p r h
told_as P Q F G (Err (stop.BadInput line)) h p f = p (text_report BadInput line.items) h
told_as P Q F G (Err stop.Unread) h p f = f h
told_as P Q F G (Err stop.NoMemory) h p f = tt

pub told_more : (P Q : Report → Type 0) (o : Outcome) → IsReportOutcome P ⊥ o → ((r : Report) → P r → Q r) → IsReportOutcome Q ⊥ o
told_more P Q o h p = told_as P Q ⊥ ⊥ o h p (λ f. f)

-- a stop by other words
pub stops_as : (P Q : List ℕ → Type 0) (F G : Type 0) (s : Stop) → IsBadInputStop P F s → ((t : List ℕ) → P t → Q t) → (F → G) → IsBadInputStop Q G s
stops_as P Q F G (stop.BadInput line) h p f = p line.items h
stops_as P Q F G stop.Unread h p f = f h
stops_as P Q F G stop.NoMemory h p f = tt

pub err_as : {T : Type 0} (P Q : List ℕ → Type 0) (F G : Type 0) (r : Result T Stop) → IfErr r (IsBadInputStop P F) → ((t : List ℕ) → P t → Q t) → (F → G) → IfErr r (IsBadInputStop Q G)
err_as P Q F G (Ok x) h p f = tt
err_as P Q F G (Err s) h p f = stops_as P Q F G s h p f

-- a stop of a command that may end with the report on a bad input
stopped : (P : List ℕ → Type 0) (Q : Report → Type 0) (F G : Type 0) (s : Stop) → IsBadInputStop P F s → ((r : Report) → RejectsInput P r → Q r) → (F → G) → IsReportOutcome Q G (Err s)
stopped P Q F G (stop.BadInput line) h p f = p _ (record { status = refl; line = h; nothing = refl })
stopped P Q F G stop.Unread h p f = f h
stopped P Q F G stop.NoMemory h p f = tt

-- ---- one input
pub bad_line : {A : Type 0} (form : FormSeen A) (held : Option FileMap) (name bytes : List ℕ) (limit : ℕ) (t : List ℕ) → limit ≡ form.limit → ReadsFile held name bytes → length bytes ≤ limit → form.IsBad bytes t → IsInputRejection form held name t
bad_line form held name bytes limit t l holds short is = bad bytes holds (subst (λ (n : ℕ). length bytes ≤ n) l short) is

-- ---- inputs one after another
pub counted_later : (a b c : ℕ) → a ≤ b → IsFaultCounted b c → IsFaultCounted a c
counted_later a b c le (inl h) = inl (omega arith)
counted_later a b c le (inr h) = inr h

-- the outcome of the rest of a reading, from the files as they are, is the outcome of the whole
-- from the files before
pub record Leads (whole rest : Reading) (old mid : FilesSeen) : Type 0 where
  pub comes : (new : FilesSeen) (o : Outcome) → IsCommandOutcome rest mid new o → IsCommandOutcome whole old new o

-- an error that `?` passes on
pub passed_on : {T E : Type 0} (P : Result T E → Type 0) (r : Result T E) (e : E) → IsErrAnd r (λ x. x ≡ e) → P (Err e) → P r
passed_on P (Ok x) e is h = absurd is
passed_on {T} {E} P (Err x) e is h = subst (λ (y : E). P (Err y)) (sym is) h

-- an input that isn't there
pub comes_stopped : (A : Type 0) (form : FormSeen A) (name : List ℕ) (next : A → Reading) (old new : FilesSeen) (s : Stop) (o : Outcome) → IsErrAnd o (λ x. x ≡ s) → ReadKeepsFiles name old new → old.faults ≤ new.faults →
    IsBadInputStop (IsInputRejection form old.held name) (HasFailedToReadFile name old new) s → IsCommandOutcome (input A form name next) old new o
comes_stopped A form name next old new s o is leaves later stops = passed_on (IsCommandOutcome (input A form name next) old new) o s is (record {
  held = leaves.held;
  steady = leaves.steady;
  later = later;
  sure = λ s. leaves.sure (record { steady = s.steady; holds = s.hold.0 });
  told = stopped (IsInputRejection form old.held name) (ReadingSays (input A form name next) old.held) (HasFailedToReadFile name old new) (HasFailedToReadInput (input A form name next) old new) s stops
      (λ r h. inl h)
      (λ f. record { counted = f.counted; unsure = λ s. f.unsure (record { steady = s.steady; holds = s.hold.0 }) });
})

-- an input that is read, and then the rest
sure_next : (A : Type 0) (form : FormSeen A) (name : List ℕ) (next : A → Reading) (x : A) (old mid : FilesSeen) → ReadKeepsFiles name old mid → HoldsInput form old.held name x → HasAllInputs (input A form name next) old → HasAllInputs (next x) mid
sure_next A form name next x old mid leaves holds s =
    record { steady = subst IsTrue (sym leaves.steady) s.steady; hold = subst (λ (h : Option FileMap). HoldsNeededInputs (next x) h) (sym leaves.held) (s.hold.1 x holds) }

pub leads_read : (A : Type 0) (form : FormSeen A) (name : List ℕ) (next : A → Reading) (x : A) (old mid : FilesSeen) → ReadKeepsFiles name old mid → old.faults ≤ mid.faults → HoldsInput form old.held name x → Leads (input A form name next) (next x) old mid
leads_read A form name next x old mid leaves later holds = record {
  comes = λ new o rest. record {
    held = rest.held ∙ leaves.held;
    steady = rest.steady ∙ leaves.steady;
    later = let y = rest.later in omega arith;
    sure = λ s. rest.sure (sure_next A form name next x old mid leaves holds s) ∙ leaves.sure (record { steady = s.steady; holds = s.hold.0 });
    told = told_as (ReadingSays (next x) mid.held) (ReadingSays (input A form name next) old.held) (HasFailedToReadInput (next x) mid new) (HasFailedToReadInput (input A form name next) old new) o rest.told
        (λ r h. inr (x, holds, subst (λ (m : Option FileMap). ReadingSays (next x) m r) leaves.held h))
        (λ f. record { counted = counted_later old.faults mid.faults new.faults later f.counted; unsure = λ s. f.unsure (sure_next A form name next x old mid leaves holds s) });
  };
}

pub leads_then : (a b c : Reading) (x y z : FilesSeen) → Leads a b x y → Leads b c y z → Leads a c x z
leads_then a b c x y z h k = record { comes = λ new o rest. h.comes new o (k.comes new o rest) }

pub leads_here : (a : Reading) (x : FilesSeen) → Leads a a x x
leads_here a x = record { comes = λ new o rest. rest }

-- all inputs are read
pub comes_told : (P : Report → Type 0) (files : FilesSeen) (o : Outcome) → IsReportOutcome P ⊥ o → IsCommandOutcome (answer P) files files o
comes_told P files o h = record {
  held = refl;
  steady = refl;
  later = omega arith;
  sure = λ s. refl;
  told = told_as P P ⊥ (HasFailedToReadInput (answer P) files files) o h (λ r p. p) (λ f. absurd f);
}

-- memory ran out
pub comes_none : (reading : Reading) (files : FilesSeen) → IsCommandOutcome reading files files (Err stop.NoMemory)
comes_none reading files = record { held = refl; steady = refl; later = omega arith; sure = λ s. refl; told = tt }
