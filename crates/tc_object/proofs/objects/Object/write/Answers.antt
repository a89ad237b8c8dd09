use Rattle.std.proofs.Common.{◌∙◌, ap, arith}
use Rattle.std.proofs.lemmas.Grind.{common_steps}
use Rattle.tc_object.specs.Grammar.{object_of}
use Rattle.tc_object.specs.Spelling.{bytes_of_object, bytes_of_header}
use Rattle.tc_object.proofs.BackLaws.{object_of-bytes_of}
use Rattle.tc_object.proofs.TurnLaws.{section_names_short, sections_small, symbol_names_short}
use Rattle.tc_object.proofs.objects.Object.write.Goals as goal

pub write_sections-requires-clause-names : goal.write_sections-requires-clause-names
write_sections-requires-clause-names c = rw c.deref.ensures.value (section_names_short _ c.self.invariant.sections)

pub write_sections-requires-clause-small : goal.write_sections-requires-clause-small
write_sections-requires-clause-small c = rw c.deref.ensures.value (sections_small _ c.self.invariant.sections)

pub write_symbols-requires : goal.write_symbols-requires
write_symbols-requires c = rw c.deref-2.ensures.value (symbol_names_short _ _ c.self.invariant.symbols)

pub returns-clause-bytes : goal.returns-clause-bytes
unfolding bytes_of_object bytes_of_header
returns-clause-bytes c = grind (arith, common_steps)

pub returns-clause-again : goal.returns-clause-again
returns-clause-again c = ap object_of (returns-clause-bytes c) ∙ object_of-bytes_of c.args.self.now (rw (← c.self.view_is) c.self.invariant)
