-- Keys as text, and text that grows by lines.
use Rattle.std.specs.Prelude.{ℕ, if◌then◌else◌, List, ◌∷◌, ◌++◌, codes, ◌≡◌, []}
use Rattle.std.specs.Fmt.{decimal}
use Rattle.tcd_text.specs.HexNumbers.{hex_word}
pub use Rattle.depth_cert.specs.Keys.{key_kind_letters}
unfoldable pub use Rattle.depth_cert.specs.Keys.{key_kind_text}
use Rattle.depth_cert.specs.declared.keys.Key.{Key}
use Rattle.std.specs.List.{flat_map}

-- the name of a frame in graph and report, the text of its key: kind, entry, priority, and whether
-- the interrupt stack is in use
unfoldable pub frame_name : Key → List ℕ
frame_name key = key_kind_text key.kind ++ (hex_word key.entry ++ (codes " prio " ++ (decimal key.prio ++ (codes " is " ++ ((if key.is then 49 else 48) ∷ [])))))

-- the text of a graph grows at its end by lines with this property
pub record GrowsByLines (Are : List (List ℕ) → Type 0) (old new : List ℕ) : Type 0 where
  pub lines : List (List ℕ)
  pub are : Are lines
  pub grown : new ≡ old ++ flat_map (λ l. l) lines
