-- The reports on rejections by the linker.
use Rattle.std.proofs.Common.{◌≡◌, ℕ, List, Option, Some, None, refl, ap, ◌∙◌}
use Rattle.std.specs.Prelude.{IfSome}
use Rattle.tc_link.specs.Refusals.{Refusal}
use Rattle.tc_link.specs.Errors.{refusal_of}
use Rattle.tc_link.specs.declared.errors.LinkErr.{LinkErr}
use Rattle.tc_link.specs.declared.errors.LinkErr.TheVariants as error
use Rattle.tcd_reading.specs.Reports.{Report, text_report}
use Rattle.tcd_forms.specs.Lines.{bad_link_line}
use Rattle.tcd_reading.specs.declared.status.Status.TheVariants.{BadInput}

pub none_memory : (e : LinkErr) → refusal_of e ≡ None → e ≡ error.NoMemory
none_memory error.NoMemory h = refl
none_memory _ h = cc

pub line_told : (line : List ℕ) (r : Report) (o : Option Refusal) → IfSome o (λ q. line ≡ bad_link_line q) → r ≡ text_report BadInput line → IfSome o (λ q. r ≡ text_report BadInput (bad_link_line q))
line_told line r None made said = tt
line_told line r (Some q) made said = said ∙ ap (λ (t : List ℕ). text_report BadInput t) made
