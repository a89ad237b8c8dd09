-- The items that the lines of a source add to it, in order.
use Rattle.std.specs.Prelude.{ℕ, Bool, List, ◌∷◌, take, Option, Some, None, option_map, []}
use Rattle.tc_isa.specs.declared.fields.Fields.{Fields}
use Rattle.tc_isa.specs.Relocations.{word32}
use Rattle.tc_stmt.specs.declared.item.Item.{Item}
use Rattle.tc_stmt.specs.declared.item.Item.TheVariants as item
use Rattle.tc_stmt.specs.declared.row_fields.Reference.{Reference}

-- A symbol whose address, plus or minus a number, goes into a field. The kind is that of the
-- relocation; 0 means that the address is used at once.
pub record ReferenceData : Type 0 where
  pub kind : ℕ
  pub name : List ℕ
  pub minus : Bool
  pub size : ℕ

-- an item's reference to a symbol, as plain data: the kind of relocation, the symbol's name, and
-- the number that is added
abbrev pub reference_of : Reference → ReferenceData
reference_of r = record { kind = r.kind; name = r.name.now; minus = r.minus; size = r.size }

-- an item's reference to a symbol, if there is one, as plain data
abbrev pub reference_if_any : Option Reference → Option ReferenceData
reference_if_any r = option_map reference_of r

-- A label; a section to continue or begin; a global name; an instruction of the row with this
-- number, with its fields and perhaps a symbol; bytes, perhaps with a symbol; a number of zeros.
pub data ItemData : Type 0 where
  label : List ℕ → ItemData
  section : List ℕ → ItemData
  global : List ℕ → ItemData
  code : ℕ → Fields → Option ReferenceData → ItemData
  bytes : List ℕ → Option ReferenceData → ItemData
  zeros : ℕ → ItemData

-- the reference of this kind to the symbol of this name, with the number that is added
abbrev pub reference_to : ℕ → List ℕ → Bool → ℕ → ReferenceData
reference_to kind name minus size = record { kind = kind; name = name; minus = minus; size = size }

-- the plain data of an item
abbrev pub item_of : Item → ItemData
item_of (item.Label name) = label name.now
item_of (item.Section name) = section name.now
item_of (item.Global name) = global name.now
item_of (item.Code row f) = code row f None
item_of (item.Linked row kind minus f size name) = code row f (Some (reference_to kind name.now minus size))
item_of (item.Data len bs) = bytes (take len bs) None
item_of (item.Word len minus size name) = bytes (take len (0 ∷ 0 ∷ 0 ∷ 0 ∷ [])) (Some (reference_to word32 name.now minus size))
item_of (item.Zeros n) = zeros n
