-- Reports that one fact decides.
use Rattle.std.proofs.Common.{◌≡◌, ◌≢◌, List, [], ℕ, refl, sym, subst, ◌∙◌, inl, inr}
use Rattle.tcd_reading.specs.Reports.{IsReportStatus, Report, text_report}
use Rattle.tcd_reading.specs.declared.status.Status.{Status}
use Rattle.tcd_reading.specs.declared.status.Status.TheVariants.{Done, Refused}
use Rattle.tcd_reading.proofs.Decided.{AreAlike, status_is, writes_are}

-- the fact holds, and the report is done; or it fails, and the report has the other status and
-- nothing to write
pub data IsSide (Holds : Type 0) (other : Status) (r : Report) : Type 0 where
  well : (q : Report) → r ≡ q → q.status ≡ Done → Holds → IsSide Holds other r
  against : (text : List ℕ) → r ≡ text_report other text → (Holds → ⊥) → IsSide Holds other r

module _ {Holds : Type 0} {other : Status} where
  told : (r : Report) → IsReportStatus other → IsSide Holds other r → IsReportStatus r.status
  told r may (well q e done h) = inl (status_is r q e ∙ done)
  told r may (against text e fails) = subst IsReportStatus (sym (status_is r _ e)) may

  nothing : (r : Report) → IsSide Holds other r → r.status ≢ Done → r.writes ≡ []
  nothing r (well q e done h) undone = absurd (undone (status_is r q e ∙ done))
  nothing r (against text e fails) undone = writes_are r _ e

  one : (r s : Report) → IsSide Holds other r → IsSide Holds other s → r.status ≡ s.status
  one r s (well q e done h) (well p f done2 k) = status_is r q e ∙ done ∙ sym (status_is s p f ∙ done2)
  one r s (well q e done h) (against text f fails) = absurd (fails h)
  one r s (against text e fails) (well q f done h) = absurd (fails h)
  one r s (against text e fails) (against text2 f fails2) = status_is r _ e ∙ sym (status_is s _ f)

  pub alike : {P : Report → Type 0} → ((r : Report) → P r → IsSide Holds other r) → IsReportStatus other → AreAlike P
  alike side may = record {
    told = λ r h. told r may (side r h);
    done = λ r h undone. nothing r (side r h) undone;
    one = λ r s h k. one r s (side r h) (side s k);
  }

-- reports that may be refused
pub refusable : {Holds : Type 0} {P : Report → Type 0} → ((r : Report) → P r → IsSide Holds Refused r) → AreAlike P
refusable side = alike side (inr (inl refl))
