-- What `asm` and `link` hand on.
use Rattle.std.proofs.Common.{◌≡◌, ◌<◌, ◌+◌, ◌^◌, inl, inr, ℕ, zero, suc, List, [], ◌∷◌, ◌++◌, length, get_or, Option, Some, None, Ok, sym, ap, subst, ◌∙◌, lit<}
use Rattle.std.specs.Prelude.{All, IfSome, IsSome}
use Rattle.std.specs.FinMap.{get, insert}
use Rattle.std.specs.List.{flat_map}
use Rattle.std.proofs.lemmas.List.Elements.{All-nil, All-cons, All-head, All-tail}
use Rattle.elf_image.specs.Images.{IsImage}
use Rattle.elf_image.specs.WrittenElf.{elf_file}
use Rattle.elf_image.proofs.Again.{image_of-file_of}
use Rattle.tcd_base.specs.Bytes.{bytes_of_word}
use Rattle.tc_object.specs.Objects.{SectionData, ObjectData}
use Rattle.tc_object.specs.Grammar as grammar
use Rattle.tc_object.specs.Spelling.{bytes_of_name, bytes_of_section, bytes_of_header, bytes_of_symbol, bytes_of_reloc, bytes_of_object}
use Rattle.tc_object.proofs.BackLaws.{object_of-bytes_of}
use Rattle.tc_object.proofs.FromLaws.{read_is_object}
use Rattle.tc_link.specs.Layouts.{LayoutData}
use Rattle.tcd_base.specs.Files.{FileMap, FilesSeen}
use Rattle.tcd_base.specs.Sink.{SinkSeen}
use Rattle.tcd_reading.specs.Reports.{Report, with_report_files}
use Rattle.tcd_reading.specs.Inputs.{FormSeen, HoldsInput, Reading, input_files, ReadingSays}
use Rattle.tcd_reading.specs.Endings.{PrintsWithStatus, whole, cut, IsEndingWithReport, HasEnded}
use Rattle.tcd_reading.specs.Endings as ending
use Rattle.tcd_reading.specs.declared.status.Status.TheVariants.{Done, BadInput, Fault, NoMemory}
use Rattle.tcd_reading.proofs.Decided.{status_is}
use Rattle.tcd_forms.specs.Forms.{IsSource, object_form, layout_form, elf_form}
use Rattle.tcd_forms.proofs.FormLaws.{object_lawful, elf_lawful}
use Rattle.tcd_driver.specs.Asm.{AsmArgs, asm_reading}
use Rattle.tcd_driver.specs.Link.{LinkArgs, IsLinkReport, refused, image, link_reading}
use Rattle.tcd_laws.specs.LimitsKept.{IsByte, SectionHoldsBytes, IsObjectOfBytes}
use Rattle.tcd_laws.specs.HandedFiles.{ReadsBackAs, HoldEachInput, FilesHoldBytes, IsObjectReadBack, AssembledObjectsReadBack, IsImageReadBack, LinkedImagesReadBack}
use Rattle.tcd_laws.proofs.SourceBytes.{sources_give_objects}
use Rattle.tcd_laws.proofs.LinkedImages.{links_give_images}
use Rattle.tcd_laws.proofs.LayoutTexts.{texts_give_layouts}
use Rattle.tcd_laws.proofs.HeldFiles.{nothing_told, get_same, input_same, exactly}
use Rattle.tcd_laws.proofs.ObjectBytes.{objects_spell_bytes}

-- ---- what is done was said and written
record HasReport (reading : Reading) (held held' : Option FileMap) : Type 0 where
  report : Report
  said : ReadingSays reading held report
  status : report.status ≡ Done
  written : held' ≡ with_report_files held report.writes

not_fault : Done ≡ Fault → ⊥
not_fault e = cc

not_memory : Done ≡ NoMemory → ⊥
not_memory e = cc

not_bad : (r : Report) → r.status ≡ BadInput → r.status ≡ Done → ⊥
not_bad r e f = let g : BadInput ≡ Done = sym e ∙ f in cc

module _ (reading : Reading) (files files' : FilesSeen) (sink sink' : SinkSeen) where
  printed_report : (r : Report) → ReadingSays reading files.held r → files'.held ≡ with_report_files files.held r.writes → PrintsWithStatus r.status r.text sink sink' Done → HasReport reading files.held files'.held
  printed_report r says held (whole e p) = record { report = r; said = says; status = sym e; written = held }
  printed_report r says held (cut e front counted full) = absurd (not_fault e)

  reported_report : (r : Report) → ReadingSays reading files.held r → IsEndingWithReport r files files' sink sink' Done → HasReport reading files.held files'.held
  reported_report r says (ending.printed held prints) = printed_report r says held prints
  reported_report r says (ending.unwritten e quiet stopped counted unsteady) = absurd (not_fault e)
  reported_report r says (ending.no_memory e quiet stopped) = absurd (not_memory e)

  done_report : HasEnded reading files files' sink sink' Done → HasReport reading files.held files'.held
  done_report (ending.reported r says h) = reported_report r says h
  done_report (ending.unread e held quiet counted unsure) = absurd (not_fault e)
  done_report (ending.no_memory e held quiet) = absurd (not_memory e)

-- ---- asm
pub source_object : (bytes : List ℕ) (o : ObjectData) → IsSource bytes o → IsObjectOfBytes o
source_object bytes o s = subst IsObjectOfBytes (sym s.is) (sources_give_objects bytes s.keeps)

bytes_held : (m : FileMap) (name bytes : List ℕ) → All IsByte bytes → FilesHoldBytes (Some (insert m name bytes)) (name ∷ [])
bytes_held m name bytes small =
    let Small : List ℕ → Type 0 = λ n. IfSome (get (insert m name bytes) n) (All IsByte) in
    All-cons Small name [] (subst (λ (x : Option (List ℕ)). IfSome x (All IsByte)) (sym (get_same m name bytes)) small) (All-nil Small)

asm_from : (names : AsmArgs) (held held' : Option FileMap) (r : Report) → IsSome held → ReadingSays (asm_reading names) held r → r.status ≡ Done → held' ≡ with_report_files held r.writes → IsObjectReadBack names held held'
asm_from names None held' r some says e w = absurd (nothing_told some)
asm_from names (Some m) held' r some (inl b) e w = absurd (not_bad r b.status e)
asm_from names (Some m) held' r some (inr s) e w =
    let o : ObjectData = s.0 in
    let good : IsObjectOfBytes o = source_object (s.1).0 o (s.1).3 in
    let written : held' ≡ Some (insert m names.object (bytes_of_object o)) = w ∙ ap (λ (q : Report). with_report_files (Some m) q.writes) s.2 in
    record {
      object = o;
      source = s.1;
      written = written;
      bytes = subst (λ (h : Option FileMap). FilesHoldBytes h (names.object ∷ [])) (sym written) (bytes_held m names.object (bytes_of_object o) (objects_spell_bytes o good));
      read = λ place short. subst (λ (h : Option FileMap). ReadsBackAs (object_form place) h names.object o) (sym written)
          (exactly (object_form place) (insert m names.object (bytes_of_object o)) names.object o (object_lawful place)
          (input_same (object_form place) m names.object (bytes_of_object o) o short (object_of-bytes_of o good.object)));
    }

pub asm_hands_over : AssembledObjectsReadBack
asm_hands_over names files files' sink sink' some ends =
    let d = done_report (asm_reading names) files files' sink sink' ends.ended in
    asm_from names files.held files'.held d.report some d.said d.status d.written

-- ---- objects of files that hold bytes
left_of : (P : ℕ → Type 0) (xs ys : List ℕ) → All P (xs ++ ys) → All P xs
left_of P [] ys h = All-nil P
left_of P (x ∷ xs) ys h = All-cons P x xs (All-head P x (xs ++ ys) h) (left_of P xs ys (All-tail P x (xs ++ ys) h))

right_of : (P : ℕ → Type 0) (xs ys : List ℕ) → All P (xs ++ ys) → All P ys
right_of P [] ys h = h
right_of P (x ∷ xs) ys h = right_of P xs ys (All-tail P x (xs ++ ys) h)

sections_small : (ss : List SectionData) → All IsByte (flat_map bytes_of_section ss) → All SectionHoldsBytes ss
unfolding bytes_of_section
sections_small [] h = All-nil SectionHoldsBytes
sections_small (s ∷ ss) h =
    let here = left_of IsByte (bytes_of_section s) (flat_map bytes_of_section ss) h in
    let behind = right_of IsByte (bytes_of_name s.name) (bytes_of_word (length s.bytes) ++ s.bytes) here in
    All-cons SectionHoldsBytes s ss (right_of IsByte (bytes_of_word (length s.bytes)) s.bytes behind) (sections_small ss (right_of IsByte (bytes_of_section s) (flat_map bytes_of_section ss) h))

object_small : (o : ObjectData) → All IsByte (bytes_of_object o) → All SectionHoldsBytes o.sections
unfolding bytes_of_object
object_small o h =
    let rest = flat_map bytes_of_symbol o.symbols ++ flat_map bytes_of_reloc o.relocs in
    sections_small o.sections (left_of IsByte (flat_map bytes_of_section o.sections) rest (right_of IsByte (bytes_of_header o) (flat_map bytes_of_section o.sections ++ rest) h))

byte_at : (xs : List ℕ) → All IsByte xs → (k : ℕ) → get_or xs k 0 < 2 ^ 8
byte_at [] h k = lit< tt
byte_at (x ∷ xs) h zero = All-head IsByte x xs h
byte_at (x ∷ xs) h (suc k) = byte_at xs (All-tail IsByte x xs h) k

read_object : (bytes : List ℕ) (o : ObjectData) → All IsByte bytes → grammar.object_of bytes ≡ Ok o → IsObjectOfBytes o
read_object bytes o small e =
    let r = read_is_object bytes o (byte_at bytes small) e in
    record { object = r.1; bytes = object_small o (subst (λ (bs : List ℕ). All IsByte bs) (sym r.0) small) }

objects_of_bytes : (place : ℕ) (m : FileMap) (names : List (List ℕ)) (os : List ObjectData) → HoldEachInput object_form place (Some m) names os → All (λ name. IfSome (get m name) (All IsByte)) names → All IsObjectOfBytes os
objects_of_bytes place m [] [] h small = All-nil IsObjectOfBytes
objects_of_bytes place m [] (o ∷ os) h small = absurd h
objects_of_bytes place m (name ∷ names) [] h small = absurd h
objects_of_bytes place m (name ∷ names) (o ∷ os) h small =
    let Small : List ℕ → Type 0 = λ n. IfSome (get m n) (All IsByte) in
    let here : All IsByte (h.0).0 = subst (λ (x : Option (List ℕ)). IfSome x (All IsByte)) (h.0).1 (All-head Small name names small) in
    All-cons IsObjectOfBytes o os (read_object (h.0).0 o here (h.0).3) (objects_of_bytes (place + 1) m names os h.1 (All-tail Small name names small))

-- ---- link
each_said : {A : Type 0} (form : ℕ → FormSeen A) (place : ℕ) (m : FileMap) (names : List (List ℕ)) (next : List A → Reading) (r : Report) → r.status ≡ Done → ReadingSays (input_files A form place names next) (Some m) r →
    (xs : List A) × HoldEachInput form place (Some m) names xs × ReadingSays (next xs) (Some m) r
each_said form place m [] next r e says = ([], tt, says)
each_said form place m (name ∷ names) next r e (inl b) = absurd (not_bad r b.status e)
each_said form place m (name ∷ names) next r e (inr s) =
    let rest = each_said form (place + 1) m names (λ ys. next (s.0 ∷ ys)) r e s.2 in
    (s.0 ∷ rest.0, (s.1, rest.1), rest.2)

linked_from : (names : LinkArgs) (m : FileMap) (held' : Option FileMap) (r : Report) (l : LayoutData) (os : List ObjectData) → HoldEachInput object_form 0 (Some m) names.objects os → HoldsInput layout_form (Some m) names.layout l → All IsObjectOfBytes os →
    r.status ≡ Done → held' ≡ with_report_files (Some m) r.writes → IsLinkReport names.image l os r → IsImageReadBack names (Some m) held'
linked_from names m held' r l os are is_layout small e w (refused q f g) = absurd (not_bad r (status_is r _ g) e)
linked_from names m held' r l os are is_layout small e w (image i f g) =
    let written : held' ≡ Some (insert m names.image (elf_file i)) = w ∙ ap (λ (q : Report). with_report_files (Some m) q.writes) g in
    let good : IsImage i = links_give_images os l i small (texts_give_layouts (is_layout).0 l (is_layout).3) f in
    record {
      layout = l;
      layout_is = is_layout;
      objects = os;
      objects_are = are;
      image = i;
      linked_is = f;
      written = written;
      read = λ short. subst (λ (h : Option FileMap). ReadsBackAs elf_form h names.image i) (sym written)
          (exactly elf_form (insert m names.image (elf_file i)) names.image i elf_lawful (input_same elf_form m names.image (elf_file i) i short (image_of-file_of i good)));
    }

link_from : (names : LinkArgs) (held held' : Option FileMap) (r : Report) → IsSome held → FilesHoldBytes held names.objects → ReadingSays (link_reading names) held r → r.status ≡ Done → held' ≡ with_report_files held r.writes → IsImageReadBack names held held'
link_from names None held' r some small says e w = absurd (nothing_told some)
link_from names (Some m) held' r some small (inl b) e w = absurd (not_bad r b.status e)
link_from names (Some m) held' r some small (inr s) e w =
    let os = each_said object_form 0 m names.objects _ r e s.2 in
    linked_from names m held' r s.0 os.0 os.1 s.1 (objects_of_bytes 0 m names.objects os.0 os.1 small) e w os.2

pub link_hands_over : LinkedImagesReadBack
link_hands_over names files files' sink sink' some small ends =
    let d = done_report (link_reading names) files files' sink sink' ends.ended in
    link_from names files.held files'.held d.report some small d.said d.status d.written
