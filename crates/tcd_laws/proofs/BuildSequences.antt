-- A build is a sequence of commands that are sure to be done.
use Rattle.std.proofs.Common.{◌≡◌, ◌≢◌, ◌+◌, ◌||◌, not, ℕ, Bool, true, false, List, [], ◌∷◌, ◌++◌, get_or, map, Some, None, refl, sym, ◌∙◌}
use Rattle.std.specs.Prelude.{All}
use Rattle.std.specs.FinMap.{insert}
use Rattle.std.specs.List.{list_any}
use Rattle.std.specs.Str.{bytes_eq}
use Rattle.std.proofs.lemmas.Bool.{and_parts}
use Rattle.std.proofs.lemmas.Slice.Eq.{bytes_eq-Decides}
use Rattle.std.proofs.lemmas.List.Elements.{All-nil, All-cons, All-head, All-tail}
use Rattle.elf_image.specs.Images.{IsImage}
use Rattle.elf_image.specs.WrittenElf.{elf_file}
use Rattle.elf_image.proofs.Again.{image_of-file_of}
use Rattle.tc_object.specs.Spelling.{bytes_of_object}
use Rattle.tc_object.proofs.BackLaws.{object_of-bytes_of}
use Rattle.tcd_base.specs.Files.{FileMap}
use Rattle.tc_disasm.specs.Listing.{listing_of}
use Rattle.tcd_reading.specs.Reports.{Report, text_report}
use Rattle.tcd_reading.specs.declared.status.Status.TheVariants.{Done}
use Rattle.tcd_reading.specs.Inputs.{FormSeen, HoldsInput}
use Rattle.tcd_forms.specs.Forms.{source_form, object_form, layout_form, elf_form}
use Rattle.tcd_driver.specs.Commands.{Command, link, dis}
use Rattle.tcd_driver.specs.DistinctNames.{are_distinct_names}
use Rattle.tcd_laws.specs.LimitsKept.{IsObjectOfBytes}
use Rattle.tcd_laws.specs.Sequences.{ReportSurelyInSequence}
use Rattle.tcd_laws.specs.HandedFiles.{HoldEachInput}
use Rattle.tcd_laws.specs.BuildSequences.{BuildPartData, BuildData, object_names, objects_of_parts, asm_command, asm_report, build_commands, build_reports, IsBuildPart, IsBuild, BuildCommandsReportSurely, BuildsEndWithoutFault}
use Rattle.tcd_laws.proofs.LinkedImages.{links_give_images}
use Rattle.tcd_laws.proofs.LayoutTexts.{texts_give_layouts}
use Rattle.tcd_laws.proofs.HeldFiles.{nothing_told, input_same, input_other}
use Rattle.tcd_laws.proofs.SureCommands.{image_report, sure_asm, sure_link, sure_dis}
use Rattle.tcd_laws.proofs.HandOver.{source_object}
use Rattle.tcd_laws.proofs.SequenceEnds.{sure_sequences_end}

-- ---- the objects, written one after another
abbrev name_of : BuildPartData → List ℕ
name_of p = (p.names).object

abbrev source_of : BuildPartData → List ℕ
source_of p = (p.names).source

abbrev with_object : FileMap → BuildPartData → FileMap
with_object m p = insert m (name_of p) (bytes_of_object p.object)

with_objects : FileMap → List BuildPartData → FileMap
with_objects m [] = m
with_objects m (p ∷ ps) = with_objects (with_object m p) ps

-- no object goes to this name
abbrev IsOther : List ℕ → BuildPartData → Type 0
IsOther name p = name_of p ≢ name

input_kept : {A : Type 0} (form : FormSeen A) (ps : List BuildPartData) (m : FileMap) (name : List ℕ) (x : A) → All (IsOther name) ps → HoldsInput form (Some m) name x → HoldsInput form (Some (with_objects m ps)) name x
unfolding with_objects
input_kept form [] m name x other h = h
input_kept form (p ∷ ps) m name x other h =
    input_kept form ps (with_object m p) name x (All-tail (IsOther name) p ps other)
    (input_other form m (name_of p) (bytes_of_object p.object) name x (λ e. All-head (IsOther name) p ps other (sym e)) h)

-- ---- asm of each source
module _ (q : BuildPartData) where
  -- a part that another's object leaves
  part_after : (m : FileMap) (p : BuildPartData) → name_of q ≢ source_of p → IsBuildPart (Some m) p → IsBuildPart (Some (with_object m q)) p
  part_after m p other h = record { source = input_other source_form m (name_of q) (bytes_of_object q.object) (source_of p) p.object (λ e. other (sym e)) h.source; short = h.short }

  parts_after : (m : FileMap) (ps : List BuildPartData) → All (λ p. name_of q ≢ source_of p) ps → All (IsBuildPart (Some m)) ps → All (IsBuildPart (Some (with_object m q))) ps
  parts_after m ps other h k d less = part_after m (get_or ps k d) (other k d less) (h k d less)

abbrev MissesSources : List BuildPartData → BuildPartData → Type 0
MissesSources ps p = All (λ q. name_of p ≢ source_of q) ps

later_sources : (p : BuildPartData) (ps : List BuildPartData) → All (MissesSources (p ∷ ps)) (p ∷ ps) → All (MissesSources ps) ps
later_sources p ps h k d less = All-tail (λ q. name_of (get_or ps k d) ≢ source_of q) p ps (All-tail (MissesSources (p ∷ ps)) p ps h k d less)

sure_parts : (ps : List BuildPartData) (m : FileMap) (cs : List Command) (qs : List Report) → All (IsBuildPart (Some m)) ps → All (MissesSources ps) ps → ReportSurelyInSequence cs (Some (with_objects m ps)) qs →
    ReportSurelyInSequence (map asm_command ps ++ cs) (Some m) (map asm_report ps ++ qs)
unfolding with_objects
sure_parts [] m cs qs parts apart rest = rest
sure_parts (p ∷ ps) m cs qs parts apart rest =
    let mine = All-head (MissesSources (p ∷ ps)) p ps apart in
    let others = All-tail (λ q. name_of p ≢ source_of q) p ps mine in (
      sure_asm m p.names p.object (All-head (IsBuildPart (Some m)) p ps parts).source,
      sure_parts ps (with_object m p) cs qs (parts_after p m ps others (All-tail (IsBuildPart (Some m)) p ps parts)) (later_sources p ps apart) rest,
    )

-- ---- link of their objects
-- the objects' names are different
not_true : (b : Bool) → not b ≡ true → b ≡ false
not_true true e = cc
not_true false e = refl

either_false : (a b : Bool) → (a || b) ≡ false → (a ≡ false) × (b ≡ false)
either_false true b e = cc
either_false false b e = (refl, e)

equal_names : (a b : List ℕ) → bytes_eq a b ≡ false → a ≡ b → ⊥
equal_names a b e same = let g : true ≡ false = sym ((bytes_eq-Decides a b).1 same) ∙ e in cc

others_of : (name : List ℕ) (ps : List BuildPartData) → list_any (bytes_eq name) (object_names ps) ≡ false → All (IsOther name) ps
others_of name [] e = All-nil (IsOther name)
others_of name (p ∷ ps) e =
    let f = either_false (bytes_eq name (name_of p)) (list_any (bytes_eq name) (object_names ps)) e in
    All-cons (IsOther name) p ps (λ same. equal_names name (name_of p) f.0 (sym same)) (others_of name ps f.1)

objects_held : (ps : List BuildPartData) (place : ℕ) (m : FileMap) → All (IsBuildPart (Some m)) ps → All (MissesSources ps) ps → are_distinct_names (object_names ps) ≡ true → HoldEachInput object_form place (Some (with_objects m ps)) (object_names ps) (objects_of_parts ps)
unfolding with_objects
objects_held [] place m parts apart different = tt
objects_held (p ∷ ps) place m parts apart different =
    let d = and_parts _ _ different in
    let here = All-head (IsBuildPart (Some m)) p ps parts in
    let others = All-tail (λ q. name_of p ≢ source_of q) p ps (All-head (MissesSources (p ∷ ps)) p ps apart) in
    let good = source_object (here.source).0 p.object (here.source).3 in
    let mine = input_same (object_form place) m (name_of p) (bytes_of_object p.object) p.object here.short (object_of-bytes_of p.object good.object) in (
      input_kept (object_form place) ps (with_object m p) (name_of p) p.object (others_of (name_of p) ps (not_true _ d.0)) mine,
      objects_held ps (place + 1) (with_object m p) (parts_after p m ps others (All-tail (IsBuildPart (Some m)) p ps parts)) (later_sources p ps apart) d.1,
    )

objects_good : (m : FileMap) (ps : List BuildPartData) → All (IsBuildPart (Some m)) ps → All IsObjectOfBytes (objects_of_parts ps)
objects_good m [] parts = All-nil IsObjectOfBytes
objects_good m (p ∷ ps) parts =
    let here = All-head (IsBuildPart (Some m)) p ps parts in
    All-cons IsObjectOfBytes p.object (objects_of_parts ps) (source_object (here.source).0 p.object (here.source).3) (objects_good m ps (All-tail (IsBuildPart (Some m)) p ps parts))

-- ---- the build
build_in : (b : BuildData) (m : FileMap) → IsBuild (Some m) b → ReportSurelyInSequence (build_commands b) (Some m) (build_reports b)
build_in b m h =
    let all : FileMap = with_objects m b.parts in
    let layout = input_kept layout_form b.parts m b.layout b.rules (h.apart).layout h.layout in
    let objects = objects_held b.parts 0 m h.parts (h.apart).sources (h.apart).different in
    let good : IsImage b.image = links_give_images (objects_of_parts b.parts) b.rules b.image (objects_good m b.parts h.parts) (texts_give_layouts (h.layout).0 b.rules (h.layout).3) h.linked_is in
    let executable = input_same elf_form all b.elf (elf_file b.image) b.image h.short (image_of-file_of b.image good) in
    let commands : List Command = link (record { layout = b.layout; image = b.elf; objects = object_names b.parts }) ∷ dis b.elf ∷ [] in
    let reports : List Report = image_report b.elf b.image ∷ text_report Done (listing_of b.image) ∷ [] in
    sure_parts b.parts m commands reports h.parts (h.apart).sources (
      sure_link all (record { layout = b.layout; image = b.elf; objects = object_names b.parts }) b.rules (objects_of_parts b.parts) b.image layout objects h.linked_is,
      (sure_dis (insert all b.elf (elf_file b.image)) b.elf b.image executable, tt),
    )

pub builds_report : BuildCommandsReportSurely
builds_report b None some h = absurd (nothing_told some)
builds_report b (Some m) some h = build_in b m h

pub builds_end : BuildsEndWithoutFault
builds_end b files files' sink sink' result steady some h room ended = sure_sequences_end (build_commands b) (build_reports b) files files' sink sink' result steady (builds_report b files.held some h) room ended
