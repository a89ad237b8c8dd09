use Rattle.std.proofs.Common.{◌≡◌, ℕ, List, Option, Some, None, map, sym, ap, ◌∙◌, length}
use Rattle.std.specs.Prelude.{unwrap_or, position}
use Rattle.std.proofs.lemmas.List.{length-map}
use Rattle.std.specs.Str.{bytes_eq}
use Rattle.tc_asm.specs.declared.sections.Part.{Part}
use Rattle.tc_asm.specs.DraftViews.{draft_section_of}
use Rattle.tc_asm.specs.Drafts.{section_number}
use Rattle.tc_lex.proofs.Mapped.{position-map}
use Rattle.tc_asm.proofs.sections.section_number.Goals as goal

module _ (parts : List Part) (name : List ℕ) (o : Option ℕ) (e : o ≡ position (λ p. bytes_eq name p.name.now) parts) where
  number : unwrap_or o (length (map draft_section_of parts)) ≡ section_number (map draft_section_of parts) name
  number = ap (λ q. unwrap_or q (length (map draft_section_of parts))) (e ∙ position-map (λ p. bytes_eq name p.name) draft_section_of parts)

pub returns-in-Some-clause-value : goal.returns-in-Some-clause-value
returns-in-Some-clause-value c = number c.args.parts.now c.args.name.now (Some c.in-Some.i) (sym c.in-Some.is ∙ c.find_section.ensures)

pub returns-in-None-clause-value : goal.returns-in-None-clause-value
returns-in-None-clause-value c = sym (length-map c.args.parts.now draft_section_of) ∙ number c.args.parts.now c.args.name.now None (sym c.in-None.is ∙ c.find_section.ensures)
