-- The sections of sources and of their objects are the same.
use Rattle.std.proofs.Common.{◌≡◌, ℕ, zero, suc, List, [], ◌∷◌, ◌++◌, take, Some, refl, sym, ap, ◌∙◌}
use Rattle.std.specs.Prelude.{slice_get}
use Rattle.tc_object.specs.Objects.{SectionData, ObjectData}
use Rattle.tc_asm.specs.Objects.{object_of_draft}
use Rattle.tc_link.specs.Placing as placing
use Rattle.tc_asm.specs.DraftedSources.{draft_in}
use Rattle.tc_program.specs.Addresses.{program_sections}
use Rattle.tc_asm.proofs.SourceParts.{sections_are}

-- the objects of sources, one for each source
abbrev pub AreObjects : List (List ℕ) → List ObjectData → Type 0
AreObjects [] [] = Unit {0}
AreObjects [] (o ∷ os) = ⊥
AreObjects (x ∷ xs) [] = ⊥
AreObjects (x ∷ xs) (o ∷ os) = (o ≡ object_of_draft (draft_in x)) × AreObjects xs os

-- those of all
pub all_sections : (sources : List (List ℕ)) (objects : List ObjectData) → AreObjects sources objects → program_sections sources ≡ placing.sections_to_link objects
all_sections [] [] h = refl
all_sections [] (o ∷ os) h = absurd h
all_sections (x ∷ xs) [] h = absurd h
all_sections (x ∷ xs) (o ∷ os) h =
    ap (λ (ss : List SectionData). ss ++ program_sections xs) (sections_are x ∙ ap (λ (p : ObjectData). p.sections) (sym h.0))
    ∙ ap (λ (ss : List SectionData). o.sections ++ ss) (all_sections xs os h.1)

pub objects_take : (sources : List (List ℕ)) (objects : List ObjectData) (i : ℕ) → AreObjects sources objects → AreObjects (take i sources) (take i objects)
objects_take [] [] zero h = tt
objects_take [] [] (suc i) h = tt
objects_take [] (o ∷ os) i h = absurd h
objects_take (x ∷ xs) [] i h = absurd h
objects_take (x ∷ xs) (o ∷ os) zero h = tt
objects_take (x ∷ xs) (o ∷ os) (suc i) h = (h.0, objects_take xs os i h.1)

-- the object of a source, and the source of an object
pub object_at : (sources : List (List ℕ)) (objects : List ObjectData) (i : ℕ) (x : List ℕ) → AreObjects sources objects → slice_get sources i ≡ Some x → slice_get objects i ≡ Some (object_of_draft (draft_in x))
object_at [] objects i x h e = cc
object_at (y ∷ ys) [] i x h e = absurd h
object_at (y ∷ ys) (o ∷ os) zero x h e = let same : y ≡ x = cc in ap (λ (p : ObjectData). Some p) (h.0 ∙ ap (λ (z : List ℕ). object_of_draft (draft_in z)) same)
object_at (y ∷ ys) (o ∷ os) (suc i) x h e = object_at ys os i x h.1 e

pub source_at : (sources : List (List ℕ)) (objects : List ObjectData) (i : ℕ) (o : ObjectData) → AreObjects sources objects → slice_get objects i ≡ Some o → (x : List ℕ) × (slice_get sources i ≡ Some x) × (o ≡ object_of_draft (draft_in x))
source_at [] [] i o h e = cc
source_at [] (p ∷ ps) i o h e = absurd h
source_at (y ∷ ys) [] i o h e = absurd h
source_at (y ∷ ys) (p ∷ ps) zero o h e = let same : p ≡ o = cc in (y, refl, sym same ∙ h.0)
source_at (y ∷ ys) (p ∷ ps) (suc i) o h e = source_at ys ps i o h.1 e
