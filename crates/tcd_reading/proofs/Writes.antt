-- Files written one after another.
use Rattle.std.proofs.Common.{◌≡◌, ◌<◌, ◌≤◌, ◌+◌, ℕ, zero, suc, List, [], ◌∷◌, ◌++◌, length, get_or, take, drop, Option, refl, sym, ap, subst, ◌∙◌, arith}
use Rattle.std.specs.Prelude.{IsTrue}
use Rattle.tcd_base.specs.Files.{FileMap, FilesSeen, KeepsFaultsIfSteady, OtherFilesStay, files_after_write}
use Rattle.tcd_reading.specs.Reports.{ReportFile, with_report_files}
use Rattle.tcd_reading.specs.Endings.{ReportWritingStopped}

-- the first files were written
pub record HasWritten (writes : List ReportFile) (i : ℕ) (old new : FilesSeen) : Type 0 where
  pub held : new.held ≡ with_report_files old.held (take i writes)
  pub leaves : KeepsFaultsIfSteady old new
  pub later : old.faults ≤ new.faults

with_more : (held : Option FileMap) (ws : List ReportFile) (i : ℕ) (w : ReportFile) → i < length ws → with_report_files held (take (suc i) ws) ≡ files_after_write (with_report_files held (take i ws)) (get_or ws i w).name (get_or ws i w).bytes
with_more held [] i w lt = absurd (omega arith)
with_more held (x ∷ xs) zero w lt = refl
with_more held (x ∷ xs) (suc i) w lt = with_more (files_after_write held x.name x.bytes) xs i w (omega arith)

-- a further file is written
pub wrote_more : (writes : List ReportFile) (i : ℕ) (w : ReportFile) (old mid new : FilesSeen) → i < length writes → HasWritten writes i old mid → new.held ≡ files_after_write mid.held (get_or writes i w).name (get_or writes i w).bytes →
    KeepsFaultsIfSteady mid new → mid.faults ≤ new.faults → HasWritten writes (i + 1) old new
wrote_more writes i w old mid new lt h set leaves later =
    let e : suc i ≡ i + 1 = omega arith in
    let P : ℕ → Type 0 = λ n. HasWritten writes n old new in
    subst P e (record {
      held = set ∙ ap (λ (m : Option FileMap). files_after_write m (get_or writes i w).name (get_or writes i w).bytes) h.held ∙ sym (with_more old.held writes i w lt);
      leaves = record { steady = leaves.steady ∙ h.leaves.steady; sure = λ s. leaves.sure (subst IsTrue (sym h.leaves.steady) s) ∙ h.leaves.sure s };
      later = let x = h.later in omega arith;
    })

parted : (ws : List ReportFile) (i : ℕ) (w : ReportFile) → i < length ws → ws ≡ take i ws ++ get_or ws i w ∷ drop (suc i) ws
parted [] i w lt = absurd (omega arith)
parted (x ∷ xs) zero w lt = refl
parted (x ∷ xs) (suc i) w lt = ap (λ (l : List ReportFile). x ∷ l) (parted xs i w (omega arith))

-- the next one failed
pub stopped_at : (writes : List ReportFile) (i : ℕ) (w : ReportFile) (old mid : FilesSeen) (held : Option FileMap) → i < length writes → HasWritten writes i old mid → OtherFilesStay (get_or writes i w).name mid.held held → ReportWritingStopped old.held held writes
stopped_at writes i w old mid held lt h others = record {
  front = take i writes;
  at = get_or writes i w;
  rest = drop (suc i) writes;
  are = parted writes i w lt;
  others = let P : Option FileMap → Type 0 = λ m. OtherFilesStay (get_or writes i w).name m held in subst P h.held others;
}

-- an item of the list, by the name and the bytes that are passed
pub item_name : (writes : List ReportFile) (i : ℕ) (item view : ReportFile) (name : List ℕ) → item ≡ get_or writes i item → view ≡ item → name ≡ view.name → name ≡ (get_or writes i item).name
item_name writes i item view name is same e = e ∙ ap (λ (w : ReportFile). w.name) (same ∙ is)

pub item_bytes : (writes : List ReportFile) (i : ℕ) (item view : ReportFile) (bytes : List ℕ) → item ≡ get_or writes i item → view ≡ item → bytes ≡ view.bytes → bytes ≡ (get_or writes i item).bytes
item_bytes writes i item view bytes is same e = e ∙ ap (λ (w : ReportFile). w.bytes) (same ∙ is)

pub set_by : (held held' : Option FileMap) (name name' bytes bytes' : List ℕ) → name ≡ name' → bytes ≡ bytes' → held' ≡ files_after_write held name bytes → held' ≡ files_after_write held name' bytes'
set_by held held' name name' bytes bytes' e f h = h ∙ ap (λ (n : List ℕ). files_after_write held n bytes) e ∙ ap (λ (b : List ℕ). files_after_write held name' b) f

pub others_by : (held held' : Option FileMap) (name name' : List ℕ) → name ≡ name' → OtherFilesStay name held held' → OtherFilesStay name' held held'
others_by held held' name name' e h = let P : List ℕ → Type 0 = λ n. OtherFilesStay n held held' in subst P e h
