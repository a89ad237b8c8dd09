-- The reports of `ship`, and the sources that it reads.
use Rattle.std.proofs.Common.{◌≡◌, ◌≢◌, ◌≤◌, ◌+◌, ◌-◌, ℕ, List, [], ◌∷◌, ◌++◌, length, Option, Some, None, Ok, Err, refl, sym, ap, subst, ◌∙◌, inr}
use Rattle.std.specs.Prelude.{IfSome, slice_get}
use Rattle.std.proofs.lemmas.List.{length-append}
use Rattle.elf_image.specs.Images.{ImageData}
use Rattle.elf_image.specs.ReadElf.{image_of_file}
use Rattle.elf_image.specs.WrittenElf.{elf_file}
use Rattle.tcd_plan.specs.PlanData.{PlanData}
use Rattle.depth_cert.specs.Certs.{CertData}
use Rattle.depth_cert.specs.Spelling.{bytes_of_cert}
use Rattle.cfg_recover.specs.RulesHoldOrFail.{certified_need}
use Rattle.tc_object.specs.Objects.{ObjectData}
use Rattle.tc_link.specs.Layouts.{LayoutData, IsLayout}
use Rattle.tc_link.specs.Linked.{image_of_objects}
use Rattle.tc_link.specs.Refusals.{Refusal}
use Rattle.tc_link.specs.Errors.{refusal_of}
use Rattle.tc_link.specs.declared.errors.LinkErr.{LinkErr}
use Rattle.tc_link.specs.declared.errors.LinkErr.TheVariants as error
use Rattle.tc_program.specs.PlacementLaws.{AreAssembledFrom}
use Rattle.tc_program.proofs.Whole.{placed_law}
use Rattle.tcd_base.specs.Files.{FilesSeen, ReadKeepsFiles}
use Rattle.tcd_reading.specs.Reports.{IsReportStatus, Report, ReportFile, text_report, report_with_two_files}
use Rattle.tcd_reading.specs.Inputs.{HoldsInput, input_files, answer}
use Rattle.tcd_forms.specs.Forms.{SourceData, IsSource, numbered_source_form}
use Rattle.tcd_forms.specs.Lines.{bad_link_line, certified_line}
use Rattle.tcd_forms.proofs.FormLaws.{ok_err}
use Rattle.tcd_driver.specs.BestCert.{IsAcceptedBestCert}
use Rattle.tcd_driver.specs.Ship.{objects_of_sources, texts_of_sources, AreSourcesOfObjects, IsShipReportOnImage, IsShipReport, refused, shipped, unlinked, of_image}
use Rattle.tcd_reading.specs.declared.status.Status.TheVariants.{Done, BadInput, Refused}
use Rattle.tcd_reading.proofs.Decided.{AreAlike, status_is, writes_are}
use Rattle.tcd_reading.proofs.EachReads.{HasReadSome, rest_of, none_read, next_read}
use Rattle.tcd_driver.proofs.LinkLaws.{none_memory, line_told}
use Rattle.tcd_driver.proofs.MakingLaws.{none_best}
use Rattle.tcd_driver.proofs.Alike.{IsSide, well, against, refusable}

-- ---- reports
shipping_side : (elf cert : List ℕ) (p : PlanData) (i : ImageData) (r : Report) → IsShipReportOnImage elf cert p i r → IsSide ((c : CertData) × IsAcceptedBestCert i p c) Refused r
shipping_side elf cert p i r (refused rule key addr none e) = against _ e (none_best i p none.first none.second)
shipping_side elf cert p i r (shipped c is reads e) = well _ e refl (c, is)

shipping_alike : (elf cert : List ℕ) (p : PlanData) (i : ImageData) → AreAlike (IsShipReportOnImage elf cert p i)
shipping_alike elf cert p i = refusable (shipping_side elf cert p i)

module _ (elf cert : List ℕ) (p : PlanData) (l : LayoutData) (ss : List SourceData) where
  shipped_told : (r : Report) → IsShipReport elf cert p l ss r → IsReportStatus r.status
  shipped_told r (unlinked q is e) = inr (inr (status_is r _ e))
  shipped_told r (of_image i of_sources h) = (shipping_alike elf cert p i).told r h

  shipped_done : (r : Report) → IsShipReport elf cert p l ss r → r.status ≢ Done → r.writes ≡ []
  shipped_done r (unlinked q is e) undone = writes_are r _ e
  shipped_done r (of_image i of_sources h) undone = (shipping_alike elf cert p i).done r h undone

  shipped_one : (r q : Report) → IsShipReport elf cert p l ss r → IsShipReport elf cert p l ss q → r.status ≡ q.status
  shipped_one r q (unlinked a is e) (unlinked b is2 f) = status_is r _ e ∙ sym (status_is q _ f)
  shipped_one r q (unlinked a is e) (of_image i of_sources h) = absurd (ok_err (image_of_objects (objects_of_sources ss) l) i a of_sources.linked_is is)
  shipped_one r q (of_image i of_sources h) (unlinked a is e) = absurd (ok_err (image_of_objects (objects_of_sources ss) l) i a of_sources.linked_is is)
  shipped_one r q (of_image i of_sources h) (of_image j of_sources2 k) =
      let same : j ≡ i = (let e = of_sources.linked_is in let f = of_sources2.linked_is in cc) in
      (shipping_alike elf cert p i).one r q h (subst (λ (x : ImageData). IsShipReportOnImage elf cert p x q) same k)

  pub shipped_alike : AreAlike (IsShipReport elf cert p l ss)
  shipped_alike = record { told = shipped_told; done = shipped_done; one = shipped_one }

-- the report with the image and its certificate
pub shipping_report : (elf cert bytes made : List ℕ) (i : ImageData) (fields p : PlanData) (c : CertData) (need : ℕ) (first second : ReportFile) (r : Report) → fields ≡ p → bytes ≡ elf_file i → image_of_file bytes ≡ Ok i
    → IsAcceptedBestCert i p c × (need ≡ certified_need i p c) → made ≡ bytes_of_cert c → first ≡ record { name = elf; bytes = bytes } → second ≡ record { name = cert; bytes = made }
    → r ≡ report_with_two_files first second (certified_line need (fields.areas - fields.reserve)) → IsShipReportOnImage elf cert p i r
shipping_report elf cert bytes made i fields p c need first second r same spell reads best spell_cert one two e =
    shipped c best.0 (ap image_of_file (sym spell) ∙ reads) (let n = best.1 in cc)

-- ---- linking
-- the objects can be linked
pub image_report : (elf cert : List ℕ) (p : PlanData) (l : LayoutData) (ss : List SourceData) (os : List ObjectData) (i : ImageData) (r : Report) → IsLayout l → AreSourcesOfObjects ss os → image_of_objects os l ≡ Ok i → IsShipReportOnImage elf cert p i r → IsShipReport elf cert p l ss r
image_report elf cert p l ss os i r keeps are is h =
    let is' : image_of_objects (objects_of_sources ss) l ≡ Ok i = subst (λ (x : List ObjectData). image_of_objects x l ≡ Ok i) are.objects_are is in
    of_image i (record { linked_is = is'; placed = placed_law (texts_of_sources ss) (objects_of_sources ss) l i keeps are.assembled is' }) h

unlinked_by : (elf cert : List ℕ) (p : PlanData) (l : LayoutData) (ss : List SourceData) (o : Option Refusal) (r : Report) → (o ≡ None → ⊥) → IfSome o (λ q. image_of_objects (objects_of_sources ss) l ≡ Err q) → IfSome o (λ q. r ≡ text_report BadInput (bad_link_line q)) → IsShipReport elf cert p l ss r
unlinked_by elf cert p l ss None r some is text = absurd (some refl)
unlinked_by elf cert p l ss (Some q) r some is text = unlinked q is text

-- the objects can't be linked
pub unlinked_report : (elf cert : List ℕ) (p : PlanData) (l : LayoutData) (ss : List SourceData) (os : List ObjectData) (e : LinkErr) (line : List ℕ) (r : Report) → AreSourcesOfObjects ss os → IfSome (refusal_of e) (λ q. image_of_objects os l ≡ Err q) →
    IfSome (refusal_of e) (λ q. line ≡ bad_link_line q) → (e ≡ error.NoMemory → ⊥) → r ≡ text_report BadInput line → IsShipReport elf cert p l ss r
unlinked_report elf cert p l ss os e line r are is made some said =
    unlinked_by elf cert p l ss (refusal_of e) r (λ n. some (none_memory e n))
    (subst (λ (x : List ObjectData). IfSome (refusal_of e) (λ q. image_of_objects x l ≡ Err q)) are.objects_are is) (line_told line r (refusal_of e) made said)

-- ---- sources
assembled_more : (ss : List SourceData) (s : SourceData) → AreAssembledFrom (texts_of_sources ss) (objects_of_sources ss) → IsSource s.text s.object → AreAssembledFrom (texts_of_sources (ss ++ s ∷ [])) (objects_of_sources (ss ++ s ∷ []))
assembled_more [] s h is = ((is.keeps, is.is), tt)
assembled_more (x ∷ ss) s h is = (h.0, assembled_more ss s h.1 is)

objects_more : (ss : List SourceData) (s : SourceData) → objects_of_sources (ss ++ s ∷ []) ≡ objects_of_sources ss ++ s.object ∷ []
objects_more [] s = refl
objects_more (x ∷ ss) s = ap (λ (os : List ObjectData). x.object ∷ os) (objects_more ss s)

-- this number of sources was read, and their objects are kept
pub record HasReadSources (names : List (List ℕ)) (P : List SourceData → Report → Type 0) (old mid : FilesSeen) (objects : List ObjectData) (i : ℕ) : Type 0 where
  pub sources : List SourceData
  pub are : AreSourcesOfObjects sources objects
  pub read : HasReadSome (input_files SourceData numbered_source_form 0 names (λ ss. answer (P ss))) (rest_of SourceData numbered_source_form names P i sources) old mid (length sources) i
  pub count : length objects ≡ i

module _ (names : List (List ℕ)) (P : List SourceData → Report → Type 0) where
  -- no source was read
  pub no_sources : (files : FilesSeen) (objects : List ObjectData) → objects ≡ [] → HasReadSources names P files files objects 0
  no_sources files objects e = record {
    sources = [];
    are = record { objects_are = e; assembled = tt };
    read = none_read SourceData numbered_source_form names P [] files refl;
    count = ap (λ (os : List ObjectData). length os) e;
  }

  -- one more source is read
  pub more_sources : (i : ℕ) (name : List ℕ) (s : SourceData) (old mid new : FilesSeen) (objects objects' : List ObjectData) → slice_get names i ≡ Some name → HasReadSources names P old mid objects i → ReadKeepsFiles name mid new → mid.faults ≤ new.faults →
      HoldsInput (numbered_source_form i) mid.held name s → objects' ≡ objects ++ s.object ∷ [] → HasReadSources names P old new objects' (i + 1)
  more_sources i name s old mid new objects objects' at so_far leaves later holds e = record {
    sources = so_far.sources ++ s ∷ [];
    are = record {
      objects_are = e ∙ ap (λ (os : List ObjectData). os ++ s.object ∷ []) so_far.are.objects_are ∙ sym (objects_more so_far.sources s);
      assembled = assembled_more so_far.sources s so_far.are.assembled (subst (λ (b : List ℕ). IsSource b s.object) (sym holds.3.0) holds.3.1);
    };
    read = next_read SourceData numbered_source_form names P _ i name so_far.sources _ s old mid new at so_far.read leaves later holds refl;
    count = ap (λ (os : List ObjectData). length os) e ∙ length-append objects (s.object ∷ []) ∙ ap (λ n. n + 1) so_far.count;
  }
