use Rattle.std.proofs.Common.{◌≡◌, ◌<◌, ◌^◌, ◌∙◌, ap, sym, subst, map, List}
use Rattle.std.specs.Prelude.{All, is_some, true}
use Rattle.tc_object.specs.Names.{object_name_of}
use Rattle.tc_asm.specs.declared.sections.Part.{Part}
use Rattle.tc_asm.specs.declared.sections.Use.{Use}
use Rattle.tc_asm.specs.DraftViews.{draft_section_of}
use Rattle.tc_asm.specs.Objects.{section_of, relocs_of_sections}
use Rattle.tc_asm.specs.DraftInvariants.{IsWellFormedDraft}
use Rattle.tc_asm.specs.Symbols.{symbol_names}
use Rattle.tc_asm.proofs.FinishLaws.{parts_named, symbols_named, symbols_small, offsets_small}
use Rattle.tc_asm.proofs.ObjectLaws.{object_whole}
use Rattle.tc_asm.proofs.finished_object.emit_object.Goals as goal

pub emit_sections-requires : goal.emit_sections-requires
emit_sections-requires c =
    subst (λ (ps : List Part). All (λ (p : Part). is_some (object_name_of p.name.now) ≡ true) ps) (sym c.deref.ensures.value)
    (parts_named c.draft.inside.parts.items (subst IsWellFormedDraft (sym c.draft.view_is) c.requires).parts_named)

pub emit_symbols-requires-clause-names : goal.emit_symbols-requires-clause-names
emit_symbols-requires-clause-names c = symbols_named c.draft.inside.symbols (subst IsWellFormedDraft (sym c.draft.view_is) c.requires).symbols_named

pub emit_symbols-requires-clause-small : goal.emit_symbols-requires-clause-small
emit_symbols-requires-clause-small c = symbols_small _ (subst IsWellFormedDraft (sym c.draft.view_is) c.requires)

pub emit_relocs-requires-clause-offsets : goal.emit_relocs-requires-clause-offsets
emit_relocs-requires-clause-offsets c =
    subst (λ (ps : List Part). All (λ (p : Part). All (λ (u : Use). u.offset < 2 ^ 32) p.uses.items) ps) (sym c.deref-2.ensures.value)
    (offsets_small (symbol_names c.draft.inside.symbols) c.draft.inside.total c.draft.inside.parts.items
    (subst IsWellFormedDraft (sym c.draft.view_is) c.requires).total (subst IsWellFormedDraft (sym c.draft.view_is) c.requires).parts)

pub invariant_of-result : goal.invariant_of-result
invariant_of-result c =
    object_whole _ _ _ _ (subst IsWellFormedDraft (sym c.draft.view_is) c.requires)
    (c.in_ok-sections.ensures ∙ ap (λ (ps : List Part). map section_of (map draft_section_of ps)) c.deref.ensures.value)
    c.in_ok-symbols.ensures
    (c.in_ok-relocs.ensures ∙ ap (λ (ps : List Part). relocs_of_sections c.draft.inside.symbols 0 (map draft_section_of ps)) c.deref-2.ensures.value)
