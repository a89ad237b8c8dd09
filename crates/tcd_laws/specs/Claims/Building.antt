-- What the tool claims of `asm`, `link` and `bootgen`.
use Rattle.std.specs.Prelude.{◌≡◌, ◌≤◌, ◌+◌, ◌^◌, ℕ, List, [], ◌∷◌, ◌++◌, codes, length, Ok, Some}
use Rattle.std.specs.Fmt.{decimal}
use Rattle.tcd_base.specs.Files.{FileMap}
use Rattle.tcd_text.specs.HexNumbers.{hex_number_of}
use Rattle.elf_image.specs.Images.{ImageData}
use Rattle.elf_image.specs.WrittenElf.{elf_file}
use Rattle.tcd_plan.specs.PlanData.{PlanData}
use Rattle.tc_stmt.specs.Lines.{lines_in}
use Rattle.tc_asm.specs.DraftedSources.{draft_in}
use Rattle.tc_asm.specs.Objects.{object_of_draft}
use Rattle.tc_asm.specs.Rules.{AllLinesKeepRules}
use Rattle.tc_object.specs.Objects.{ObjectData}
use Rattle.tc_object.specs.Grammar.{object_of}
use Rattle.tc_object.specs.Spelling.{bytes_of_object}
use Rattle.tc_link.specs.Layouts.{LayoutData}
use Rattle.tc_link.specs.LayoutFaults.{layout_of}
use Rattle.tc_link.specs.Linked.{image_of_objects}
use Rattle.tc_disasm.specs.Listing.{listing_of}
use Rattle.tc_boot.specs.Sequence.{boot_bytes_of}
use Rattle.tcd_reading.specs.declared.status.Status.TheVariants.{Done, Refused}
use Rattle.tcd_driver.specs.Tool.{ToolCall}
use Rattle.tcd_laws.specs.Claims.{EachCallClaims, PrintsText, WritesFile, Held, HeldPlan, HeldEach}

-- `asm` is done: each line of the source keeps the rules, and OBJ holds the bytes of its object
pub record AsmClaims (source_name object_name : List ℕ) (call : ToolCall) (before : FileMap) : Type 0 where
  pub object : ObjectData
  pub source : Held before source_name (2 ^ 24) (λ bytes. AllLinesKeepRules (lines_in bytes) × (object ≡ object_of_draft (draft_in bytes)))
  pub writes : WritesFile call before object_name (bytes_of_object object)
  pub prints : PrintsText call (codes "object " ++ (decimal (length (bytes_of_object object)) ++ (codes " bytes" ++ 10 ∷ [])))

-- `link` is done: by the layout the objects are linked to an image, and ELF holds its bytes
pub record LinkClaims (layout_name elf_name : List ℕ) (object_names : List (List ℕ)) (call : ToolCall) (before : FileMap) : Type 0 where
  pub layout : LayoutData
  pub objects : List ObjectData
  pub image : ImageData
  pub layout_file : Held before layout_name (2 ^ 24) (λ bytes. layout_of bytes ≡ Ok layout)
  pub object_files : HeldEach before (2 ^ 24) (λ bytes object. object_of bytes ≡ Ok object) object_names objects
  pub linked : image_of_objects objects layout ≡ Ok image
  pub writes : WritesFile call before elf_name (elf_file image)
  pub prints : PrintsText call (codes "image " ++ (decimal (length (elf_file image)) ++ (codes " bytes" ++ 10 ∷ [])))

-- `bootgen` is done: SRC holds the listing of the plan's boot sequence for this entry, which is at
-- the address and doesn't pass 2^32
pub record BootgenClaims (plan_name entry_word at_word source_name : List ℕ) (call : ToolCall) (before : FileMap) : Type 0 where
  pub plan : PlanData
  pub entry : ℕ
  pub at : ℕ
  pub plan_held : HeldPlan before plan_name plan
  pub entry_is : hex_number_of entry_word ≡ Some entry
  pub at_is : hex_number_of at_word ≡ Some at
  pub room : at + 224 ≤ 2 ^ 32
  pub writes :
      WritesFile call before source_name
      (listing_of (record { entry = at; segments = record { at = at; bytes = boot_bytes_of plan entry } ∷ [] }))
  pub prints : PrintsText call (codes "boot 56 instructions" ++ 10 ∷ [])

-- ---- the laws, from what the tool promises
abbrev pub AsmClaimsHold : Type 0
AsmClaimsHold =
    (source object : List ℕ) → EachCallClaims (codes "asm" ∷ source ∷ object ∷ []) Done (AsmClaims source object)

abbrev pub LinkClaimsHold : Type 0
LinkClaimsHold =
    (layout elf : List ℕ) (objects : List (List ℕ))
    → EachCallClaims (codes "link" ∷ layout ∷ elf ∷ objects) Done (LinkClaims layout elf objects)

abbrev pub BootgenClaimsHold : Type 0
BootgenClaimsHold =
    (plan entry at source : List ℕ)
    → EachCallClaims (codes "bootgen" ∷ plan ∷ entry ∷ at ∷ source ∷ []) Done (BootgenClaims plan entry at source)

-- the three refuse nothing
abbrev pub BuildsRefuseNothing : Type 0
BuildsRefuseNothing =
    ((source object : List ℕ) → EachCallClaims (codes "asm" ∷ source ∷ object ∷ []) Refused (λ call before. ⊥))
    × ((layout elf : List ℕ) (objects : List (List ℕ)) → EachCallClaims (codes "link" ∷ layout ∷ elf ∷ objects) Refused (λ call before. ⊥))
    × ((plan entry at source : List ℕ) → EachCallClaims (codes "bootgen" ∷ plan ∷ entry ∷ at ∷ source ∷ []) Refused (λ call before. ⊥))
