-- The table of keys: the object that each key is in, and the form of its value.
use Rattle.std.specs.Prelude.{ℕ, ◌==◌, Bool, List, ◌∷◌, ◌++◌, codes, if◌then◌else◌, ◌&&◌, []}
use Rattle.std.specs.Str.{bytes_eq}
use Rattle.tcd_plan.specs.Keys.{key_text_of}
use Rattle.tcd_plan.specs.declared.key_table.Row.{Row}
use Rattle.tcd_plan.specs.declared.key_table.ValueForm.{ValueForm}
use Rattle.tcd_plan.specs.declared.key_table.ValueForm.TheVariants.{Ranges, Objects, Object, At, Len, Hi, Word, Byte, Truth, Irqs, Traps, CoreText}
use Rattle.tcd_plan.specs.declared.key_table.KeyParent.{KeyParent}
use Rattle.tcd_plan.specs.declared.key_table.KeyParent.TheVariants.{Root, Rom, Ram, Devices, Csa, Start, Globals}

-- the number of a printed key, the object or objects that it is in, its name there, and the form of
-- its value
pub record KeyRow : Type 0 where
  pub key : ℕ
  pub parent : KeyParent
  pub name : List ℕ
  pub form : ValueForm

-- a row of the code, with its name as bytes
abbrev pub row_of : Row → KeyRow
row_of r = record { key = r.key; parent = r.parent; name = r.name.now; form = r.form }

-- builds a row from the key's number, its object, its name there, and the form of its value
abbrev pub key_row : ℕ → KeyParent → List ℕ → ValueForm → KeyRow
key_row key parent name form = record { key = key; parent = parent; name = name; form = form }

-- the keys in the order in which they are printed; `root` is in no object
unfoldable pub key_rows : List KeyRow
key_rows =
    key_row 1 Root (codes "rom") Ranges ∷
    key_row 2 Rom (codes "at") At ∷
    key_row 3 Rom (codes "len") Len ∷
    key_row 4 Root (codes "ram") Objects ∷
    key_row 5 Ram (codes "at") At ∷
    key_row 6 Ram (codes "len") Len ∷
    key_row 7 Root (codes "devices") Objects ∷
    key_row 8 Devices (codes "at") At ∷
    key_row 9 Devices (codes "len") Len ∷
    key_row 10 Devices (codes "lo") Word ∷
    key_row 11 Devices (codes "hi") Hi ∷
    key_row 12 Root (codes "csa") Object ∷
    key_row 13 Csa (codes "at") Word ∷
    key_row 14 Csa (codes "areas") Word ∷
    key_row 15 Csa (codes "reserve") Word ∷
    key_row 16 Root (codes "sp") Word ∷
    key_row 17 Root (codes "isp") Word ∷
    key_row 18 Root (codes "biv") Word ∷
    key_row 19 Root (codes "btv") Word ∷
    key_row 20 Root (codes "irqs") Irqs ∷
    key_row 21 Root (codes "traps") Traps ∷
    key_row 22 Root (codes "start") Object ∷
    key_row 23 Start (codes "ie") Truth ∷
    key_row 24 Start (codes "ccpn") Byte ∷
    key_row 25 Start (codes "is") Truth ∷
    key_row 26 Root (codes "globals") Object ∷
    key_row 27 Globals (codes "a0") Word ∷
    key_row 28 Globals (codes "a1") Word ∷
    key_row 29 Globals (codes "a8") Word ∷
    key_row 30 Globals (codes "a9") Word ∷
    key_row 31 Root (codes "core") CoreText ∷
    []

-- the objects, and arrays of objects, that the rows of the table of keys are in, by their own keys
abbrev pub key_parents : List KeyParent
key_parents = Root ∷ Rom ∷ Ram ∷ Devices ∷ Csa ∷ Start ∷ Globals ∷ []

-- the number of the key at which a plan's document has a parent of keys; 0 for the whole document
abbrev pub parent_key : KeyParent → ℕ
parent_key Root = 0
parent_key Rom = 1
parent_key Ram = 4
parent_key Devices = 7
parent_key Csa = 12
parent_key Start = 22
parent_key Globals = 26

-- a row of the table of keys has the printed key of its number: its name, with the key of its
-- objects and a dot before it unless it is in the root object
abbrev pub has_matching_key_text : KeyRow → Bool
has_matching_key_text r = bytes_eq (key_text_of r.key) (if parent_key r.parent == 0 then r.name else key_text_of (parent_key r.parent) ++ codes "." ++ r.name)

-- a row of the table is of the key with this name in a parent's objects
abbrev pub is_row_of_key : KeyParent → List ℕ → KeyRow → Bool
is_row_of_key h name r = (parent_key r.parent == parent_key h) && bytes_eq r.name name
