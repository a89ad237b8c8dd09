-- The relocations of sections, section by section.
use Rattle.std.proofs.Common.{◌≡◌, ◌<◌, ◌+◌, ◌++◌, ℕ, List, ◌∷◌, map, length, get_or, drop, ap, sym, ◌∙◌, append_assoc}
use Rattle.std.proofs.lemmas.List.{drop_more, length-map, get_or-map}
use Rattle.tc_object.specs.declared.relocs.Reloc.{Reloc}
use Rattle.tc_asm.specs.declared.sections.Part.{Part}
use Rattle.tc_asm.specs.Symbols.{SymbolData}
use Rattle.tc_asm.specs.Drafts.{DraftSectionData}
use Rattle.tc_asm.specs.DraftViews.{draft_section_of, use_of}
use Rattle.tc_asm.specs.Objects.{reloc_of, relocs_of_sections}

module _ (ss : List SymbolData) (parts : List Part) (i : ℕ) where
  pub relocs_more : (d : Part) (out more : List Reloc) → i < length parts → more ≡ out ++ map (reloc_of ss i) (map use_of (get_or parts i d).uses.items)
      → more ++ relocs_of_sections ss (i + 1) (drop (i + 1) (map draft_section_of parts)) ≡ out ++ relocs_of_sections ss i (drop i (map draft_section_of parts))
  relocs_more d out more within e =
      let here : drop i (map draft_section_of parts) ≡ draft_section_of (get_or parts i d) ∷ drop (i + 1) (map draft_section_of parts)
      = drop_more (map draft_section_of parts) i (draft_section_of d) (rw (length-map parts draft_section_of) within) ∙ ap (λ (p : DraftSectionData). p ∷ drop (i + 1) (map draft_section_of parts)) (get_or-map draft_section_of parts i d (draft_section_of d) within) in
      ap (λ rs. rs ++ relocs_of_sections ss (i + 1) (drop (i + 1) (map draft_section_of parts))) e
      ∙ append_assoc out (map (reloc_of ss i) (map use_of (get_or parts i d).uses.items)) (relocs_of_sections ss (i + 1) (drop (i + 1) (map draft_section_of parts)))
      ∙ ap (λ ps. out ++ relocs_of_sections ss i ps) (sym here)
