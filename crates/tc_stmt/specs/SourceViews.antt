-- The plain data of a source that was read.
use Rattle.std.specs.Prelude.{◌≡◌, List, ◌∷◌, length, map, take, drop, ℕ, IfOk, Result, []}
use Rattle.tc_stmt.specs.declared.source.Line.{Line}
use Rattle.tc_stmt.specs.declared.source.Source.{Source}
use Rattle.tc_stmt.specs.declared.item.Item.{Item}
use Rattle.tc_stmt.specs.Items.{ItemData, item_of}
use Rattle.tc_stmt.specs.Lines.{LineData, line_data, items_in, line_after_items}

-- these lines of a source as plain data, each with as many of these items as it counts
abbrev pub lines_read : List Line → List ItemData → List LineData
lines_read [] is = []
lines_read (l ∷ ls) is = line_data l.rule (take l.count is) ∷ lines_read ls (drop l.count is)

-- the lines of a source that was read, as plain data with their items
abbrev pub source_lines : Source → List LineData
source_lines s = lines_read s.lines.items (map item_of s.items.items)

-- the lines and items so far are those of these lines
pub record AreReadLines (lines : List Line) (items : List Item) (ls : List LineData) : Type 0 where
  pub rules : map (λ (l : Line). l.rule) lines ≡ map (λ (l : LineData). l.rule) ls
  pub counts : map (λ (l : Line). l.count) lines ≡ map (λ (l : LineData). length l.items) ls
  pub items_are : map item_of items ≡ items_in ls

-- the code read a line: the result is the line's rule, and the line's items, as plain data, come
-- after the old ones
abbrev pub GivesRuleAndAddsItems : {E : Type 0} → LineData → Result ℕ E → List Item → List Item → Type 0
GivesRuleAndAddsItems l result old new = IfOk result (λ rule. line_data rule (map item_of new) ≡ line_after_items (map item_of old) l)
