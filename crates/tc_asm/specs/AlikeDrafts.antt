-- Drafts with the same symbols and the same sizes of sections.
use Rattle.std.specs.Prelude.{◌≡◌, ℕ, List, length, map, []}
use Rattle.tc_stmt.specs.Items.{ItemData}
use Rattle.tc_asm.specs.Drafts.{DraftSectionData, DraftData, draft_after_item}

-- the name and the size in bytes of a section, in which alike drafts agree
pub record SectionSizeData : Type 0 where
  pub name : List ℕ
  pub size : ℕ

-- the name and the size of a section, in which alike drafts agree
abbrev pub section_size_data : DraftSectionData → SectionSizeData
section_size_data p = record { name = p.name; size = length p.bytes }

-- two drafts that differ only in the values of bytes and in uses of symbols
pub record HaveSameSizesAndSymbols (d e : DraftData) : Type 0 where
  pub section : d.section ≡ e.section
  pub sizes : map section_size_data d.parts ≡ map section_size_data e.parts
  pub symbols : d.symbols ≡ e.symbols
  pub total : d.total ≡ e.total

-- the first pass's draft is `old` before this item and `new` after it: each draft that is alike
-- before the item is alike after it
abbrev pub TracksSizesAndSymbols : ItemData → DraftData → DraftData → Type 0
TracksSizesAndSymbols item old new = (d : DraftData) → HaveSameSizesAndSymbols old d → HaveSameSizesAndSymbols new (draft_after_item [] d item)
