-- The forms of inputs are lawful: bytes have at most one value.
use Rattle.std.proofs.Common.{◌≡◌, ℕ, List, [], length, Option, Some, Result, Ok, Err, refl, sym, ap, ◌∙◌}
use Rattle.serde_json.specs.Data.{Data}
use Rattle.serde_json.specs.Read.{read}
use Rattle.elf_image.specs.ReadElf.{image_of_file}
use Rattle.tcd_plan.specs.PlanData.{PlanData}
use Rattle.tcd_plan.specs.PlanReader.{GivesPlan, IsPlanResult, plan_of}
use Rattle.tcd_plan.specs.declared.plans.PlanErr.{PlanErr}
use Rattle.tcd_plan.specs.declared.plans.PlanErr.TheVariants as plan
use Rattle.depth_cert.specs.Grammar.{certificate_of}
use Rattle.tc_script.specs.ScriptText.{script_of}
use Rattle.tc_object.specs.Grammar as grammar
use Rattle.tc_stmt.specs.Lines.{LineData, lines_in}
use Rattle.tc_asm.specs.Rules.{LinesKeepRules, IsFirstBadLine}
use Rattle.tc_link.specs.LayoutFaults.{layout_of}
use Rattle.tcd_forms.specs.Forms.{elf_form, plan_form, cert_form, script_form, source_form, numbered_source_form, layout_form, object_form}
use Rattle.tcd_reading.proofs.Decided.{IsLawful}

ok_same : {T E : Type 0} (r : Result T E) (x y : T) → r ≡ Ok x → r ≡ Ok y → x ≡ y
ok_same r x y e f = cc

pub ok_err : {T E : Type 0} (r : Result T E) (x : T) (y : E) → r ≡ Ok x → r ≡ Err y → ⊥
ok_err r x y e f = cc

-- ---- one reading of a plan's bytes
same_data : (o : Option Data) (a b : Data) → o ≡ Some a → o ≡ Some b → a ≡ b
same_data o a b e f = cc

gives_same : (bytes : List ℕ) (r s : Result PlanData PlanErr) → GivesPlan bytes r → GivesPlan bytes s → r ≡ s
gives_same bytes r s h k = sym h.3 ∙ ap (λ (d : Data). plan_of d) (same_data (read bytes) h.0 k.0 h.2 k.2) ∙ k.3

plan_same : (bytes : List ℕ) (a b : PlanData) → GivesPlan bytes (Ok a) → GivesPlan bytes (Ok b) → a ≡ b
plan_same bytes a b h k = let e = gives_same bytes (Ok a) (Ok b) h k in cc

plan_err : (bytes : List ℕ) (p : PlanData) (e : PlanErr) → GivesPlan bytes (Ok p) → GivesPlan bytes (Err e) → ⊥
plan_err bytes p e h k = let same = gives_same bytes (Ok p) (Err e) h k in cc

-- bytes that are a plan aren't rejected
not_refused : (bytes : List ℕ) (p : PlanData) (e : PlanErr) → GivesPlan bytes (Ok p) → IsPlanResult bytes (Err e) → (e ≡ plan.NoMemory → ⊥) → ⊥
not_refused bytes p plan.NotJson h k some = let e = sym h.3 ∙ k h.0 h.1 h.2 in cc
not_refused bytes p plan.NoMemory h k some = some refl
not_refused bytes p _ h k some = plan_err bytes p _ h k

-- ---- no source both keeps the rules and breaks one
no_least : (lines : List LineData) (line rule : ℕ) (d : LineData) → LinesKeepRules lines (length lines) → IsFirstBadLine lines line rule → ⊥
no_least lines line rule d keeps least = least.some (sym (least.broken d) ∙ keeps least.place d least.within)

a_line : LineData
a_line = record { rule = 15; items = [] }

-- ---- the forms
pub elf_lawful : IsLawful elf_form
elf_lawful = record { one = λ b x y h k. ok_same (image_of_file b) x y h k; apart = λ b t x h k. ok_err (image_of_file b) x k.0 h k.1 }

pub plan_lawful : IsLawful plan_form
plan_lawful = record { one = λ b x y h k. plan_same b x y h k; apart = λ b t x h k. not_refused b x k.0 h k.1 k.2 }

pub cert_lawful : IsLawful cert_form
cert_lawful = record { one = λ b x y h k. ok_same (certificate_of b) x y h k; apart = λ b t x h k. ok_err (certificate_of b) x k.0 h k.1 }

pub script_lawful : (p : PlanData) → IsLawful (script_form p)
script_lawful p = record { one = λ b x y h k. ok_same (script_of p b) x y h k; apart = λ b t x h k. ok_err (script_of p b) x k.0 h k.1 }

pub source_lawful : IsLawful source_form
source_lawful = record { one = λ b x y h k. h.is ∙ sym k.is; apart = λ b t x h k. no_least (lines_in b) k.0 k.1 a_line h.keeps k.2 }

pub placed_source_lawful : (place : ℕ) → IsLawful (numbered_source_form place)
placed_source_lawful place = record {
  one = λ b x y h k. λ i. record { text = (h.0 ∙ sym k.0) i; object = (h.1.is ∙ sym k.1.is) i };
  apart = λ b t x h k. no_least (lines_in b) k.0 k.1 a_line h.1.keeps k.2;
}

pub layout_lawful : IsLawful layout_form
layout_lawful = record { one = λ b x y h k. ok_same (layout_of b) x y h k; apart = λ b t x h k. ok_err (layout_of b) x k.0 h k.1 }

pub object_lawful : (place : ℕ) → IsLawful (object_form place)
object_lawful place = record { one = λ b x y h k. ok_same (grammar.object_of b) x y h k; apart = λ b t x h k. ok_err (grammar.object_of b) x k.0 h k.1 }
