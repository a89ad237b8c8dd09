-- What `asm` hands to `link`, and `link` to whatever reads executables.
use Rattle.std.specs.Prelude.{◌≡◌, ◌≤◌, ◌+◌, ◌^◌, ℕ, List, [], ◌∷◌, length, All, Option, Ok, IsSome, IfSome}
use Rattle.std.specs.FinMap.{get}
use Rattle.elf_image.specs.Images.{ImageData}
use Rattle.elf_image.specs.WrittenElf.{elf_file}
use Rattle.tc_object.specs.Objects.{ObjectData}
use Rattle.tc_object.specs.Spelling.{bytes_of_object}
use Rattle.tc_link.specs.Layouts.{LayoutData}
use Rattle.tc_link.specs.Linked.{image_of_objects}
use Rattle.tcd_base.specs.Files.{FileMap, FilesSeen, files_after_write}
use Rattle.tcd_base.specs.Sink.{SinkSeen}
use Rattle.tcd_reading.specs.Inputs.{FormSeen, HoldsInput, IsInputRejection}
use Rattle.tcd_reading.specs.Endings.{Ends}
use Rattle.tcd_reading.specs.declared.status.Status.TheVariants.{Done}
use Rattle.tcd_forms.specs.Forms.{source_form, object_form, layout_form, elf_form}
use Rattle.tcd_driver.specs.Asm.{AsmArgs, asm_reading}
use Rattle.tcd_driver.specs.Link.{LinkArgs, link_reading}
use Rattle.tcd_laws.specs.LimitsKept.{IsByte}

-- the file of this name is read as exactly this value, and as no other, and isn't rejected
pub record ReadsBackAs {A : Type 0} (form : FormSeen A) (held : Option FileMap) (name : List ℕ) (x : A) : Type 0 where
  pub is : HoldsInput form held name x
  pub only : (y : A) → HoldsInput form held name y → y ≡ x
  pub good : (text : List ℕ) → IsInputRejection form held name text → ⊥

-- the files of these names have these values, each in the form of its place in the list
abbrev pub HoldEachInput : {A : Type 0} → (ℕ → FormSeen A) → ℕ → Option FileMap → List (List ℕ) → List A → Type 0
HoldEachInput form place held [] [] = Unit {0}
HoldEachInput form place held [] (x ∷ xs) = ⊥
HoldEachInput form place held (name ∷ names) [] = ⊥
HoldEachInput form place held (name ∷ names) (x ∷ xs) = HoldsInput (form place) held name x × HoldEachInput form (place + 1) held names xs

-- the files of these names hold bytes, if the contents of files are known: their numbers are below
-- 256
abbrev pub FilesHoldBytes : Option FileMap → List (List ℕ) → Type 0
FilesHoldBytes held names = IfSome held (λ m. All (λ name. IfSome (get m name) (All IsByte)) names)

-- ---- an object
-- the source's object was written, its file holds bytes, and unless the file is too long, it is
-- read as exactly this object
pub record IsObjectReadBack (names : AsmArgs) (held held' : Option FileMap) : Type 0 where
  pub object : ObjectData
  pub source : HoldsInput source_form held names.source object
  pub written : held' ≡ files_after_write held names.object (bytes_of_object object)
  pub bytes : FilesHoldBytes held' (names.object ∷ [])
  pub read : (place : ℕ) → length (bytes_of_object object) ≤ 2 ^ 24 → ReadsBackAs (object_form place) held' names.object object

-- the law that the object that an `asm` with status Done has written is read back exactly, over
-- files whose contents are known
abbrev pub AssembledObjectsReadBack : Type 0
AssembledObjectsReadBack =
    (names : AsmArgs) (files files' : FilesSeen) (sink sink' : SinkSeen) → IsSome files.held
    → Ends (asm_reading names) files files' sink sink' Done → IsObjectReadBack names files.held files'.held

-- ---- an executable
-- the image of the objects by the layout was written, and unless its file is too long, it is read
-- as exactly this image
pub record IsImageReadBack (names : LinkArgs) (held held' : Option FileMap) : Type 0 where
  pub layout : LayoutData
  pub layout_is : HoldsInput layout_form held names.layout layout
  pub objects : List ObjectData
  pub objects_are : HoldEachInput object_form 0 held names.objects objects
  pub image : ImageData
  pub linked_is : image_of_objects objects layout ≡ Ok image
  pub written : held' ≡ files_after_write held names.image (elf_file image)
  pub read : length (elf_file image) ≤ 2 ^ 24 → ReadsBackAs elf_form held' names.image image

-- The law that the image that a `link` with status Done has written is read back exactly, over
-- files whose contents are known. Its object files hold bytes, as those that `asm` wrote do.
abbrev pub LinkedImagesReadBack : Type 0
LinkedImagesReadBack =
    (names : LinkArgs) (files files' : FilesSeen) (sink sink' : SinkSeen) → IsSome files.held → FilesHoldBytes files.held names.objects
    → Ends (link_reading names) files files' sink sink' Done → IsImageReadBack names files.held files'.held
