-- The forms of input files.
use Rattle.std.specs.Prelude.{◌≡◌, ◌≢◌, ◌^◌, ℕ, List, Ok, Err}
use Rattle.tcd_base.specs.declared.errors.FormErr.{FormErr}
use Rattle.elf_image.specs.Images.{ImageData}
use Rattle.elf_image.specs.ReadElf.{image_of_file}
use Rattle.elf_image.specs.declared.errors.ImageErr.{ImageErr}
use Rattle.tcd_plan.specs.PlanData.{PlanData}
use Rattle.tcd_plan.specs.PlanReader.{GivesPlan, IsPlanResult}
use Rattle.tcd_plan.specs.declared.plans.PlanErr.{PlanErr}
use Rattle.tcd_plan.specs.declared.plans.PlanErr.TheVariants as plan
use Rattle.depth_cert.specs.Certs.{CertData}
use Rattle.depth_cert.specs.Grammar.{certificate_of}
use Rattle.tc_script.specs.ScriptData.{ScriptData}
use Rattle.tc_script.specs.ScriptText.{script_of}
use Rattle.tc_script.specs.declared.errors.ScriptErr.{ScriptErr}
use Rattle.tc_object.specs.Objects.{ObjectData}
use Rattle.tc_object.specs.Grammar as grammar
use Rattle.tc_stmt.specs.Lines.{lines_in}
use Rattle.tc_asm.specs.Objects.{object_of_draft}
use Rattle.tc_asm.specs.DraftedSources.{draft_in}
use Rattle.tc_asm.specs.Rules.{AllLinesKeepRules, IsFirstBadLine}
use Rattle.tc_link.specs.Layouts.{LayoutData}
use Rattle.tc_link.specs.LayoutFaults.{layout_of}
use Rattle.tc_link.specs.declared.layout_errors.LayoutErr.{LayoutErr}
use Rattle.tcd_reading.specs.Inputs.{FormSeen}
use Rattle.tcd_forms.specs.Lines.{elf_too_long_line, bad_elf_line, plan_too_long_line, bad_plan_line, cert_too_long_line, bad_cert_line, script_too_long_line, bad_script_line, source_too_long_line, bad_source_line, layout_too_long_line, bad_layout_line, object_too_long_line, bad_object_line}

-- the form of executable files: the limit in bytes, the image that the bytes are, and the lines on
-- bad files
abbrev pub elf_form : FormSeen ImageData
elf_form = record {
  limit = 2 ^ 24;
  too_long_line = elf_too_long_line;
  Is = λ bytes image. image_of_file bytes ≡ Ok image;
  IsBad = λ bytes text. (e : ImageErr) × (image_of_file bytes ≡ Err e) × (text ≡ bad_elf_line e);
}

-- the form of plan files: the limit in bytes, the plan that the bytes give, and the lines on bad
-- files
abbrev pub plan_form : FormSeen PlanData
plan_form = record {
  limit = 2 ^ 24;
  too_long_line = plan_too_long_line;
  Is = λ bytes p. GivesPlan bytes (Ok p);
  IsBad = λ bytes text. (e : PlanErr) × IsPlanResult bytes (Err e) × (e ≢ plan.NoMemory) × (text ≡ bad_plan_line e);
}

-- the form of certificate files: the limit in bytes, the certificate that the bytes are, and the
-- lines on bad files
abbrev pub cert_form : FormSeen CertData
cert_form = record {
  limit = 2 ^ 30;
  too_long_line = cert_too_long_line;
  Is = λ bytes cert. certificate_of bytes ≡ Ok cert;
  IsBad = λ bytes text. (e : FormErr) × (certificate_of bytes ≡ Err e) × (text ≡ bad_cert_line e);
}

-- the form of turn script files for a plan: the limit in bytes, the script that the bytes are, and
-- the lines on bad files
abbrev pub script_form : PlanData → FormSeen ScriptData
script_form p = record {
  limit = 2 ^ 24;
  too_long_line = script_too_long_line;
  Is = λ bytes script. script_of p bytes ≡ Ok script;
  IsBad = λ bytes text. (e : ScriptErr) × (script_of p bytes ≡ Err e) × (text ≡ bad_script_line e);
}

-- the form of a source file: the bytes are a source that breaks no rule, and this is its object
pub record IsSource (bytes : List ℕ) (object : ObjectData) : Type 0 where
  pub keeps : AllLinesKeepRules (lines_in bytes)
  pub is : object ≡ object_of_draft (draft_in bytes)

-- The form of the one source file of `asm`, whose value is its object. For a source that breaks a
-- rule, the line has the least bad line and the least rule there.
abbrev pub source_form : FormSeen ObjectData
source_form = record {
  limit = 2 ^ 24;
  too_long_line = source_too_long_line 0;
  Is = λ bytes object. IsSource bytes object;
  IsBad = λ bytes text. (line : ℕ) × (rule : ℕ) × IsFirstBadLine (lines_in bytes) line rule × (text ≡ bad_source_line 0 rule line);
}

-- the text of a source file, and the object that it is assembled to
pub record SourceData : Type 0 where
  pub text : List ℕ
  pub object : ObjectData

-- the form of a source file among several, by its number among them, from 0: the value is its text
-- and its object
abbrev pub numbered_source_form : ℕ → FormSeen SourceData
numbered_source_form place = record {
  limit = 2 ^ 24;
  too_long_line = source_too_long_line place;
  Is = λ bytes source. (source.text ≡ bytes) × IsSource bytes source.object;
  IsBad = λ bytes text. (line : ℕ) × (rule : ℕ) × IsFirstBadLine (lines_in bytes) line rule × (text ≡ bad_source_line place rule line);
}

-- the form of layout files: the limit in bytes, the layout that the bytes are, and the lines on bad
-- files
abbrev pub layout_form : FormSeen LayoutData
layout_form = record {
  limit = 2 ^ 24;
  too_long_line = layout_too_long_line;
  Is = λ bytes l. layout_of bytes ≡ Ok l;
  IsBad = λ bytes text. (e : LayoutErr) × (layout_of bytes ≡ Err e) × (text ≡ bad_layout_line e);
}

-- the form of an object file among several, by its number, from 0: the limit in bytes, the object,
-- and the lines on bad files
abbrev pub object_form : ℕ → FormSeen ObjectData
object_form place = record {
  limit = 2 ^ 24;
  too_long_line = object_too_long_line place;
  Is = λ bytes object. grammar.object_of bytes ≡ Ok object;
  IsBad = λ bytes text. (e : FormErr) × (grammar.object_of bytes ≡ Err e) × (text ≡ bad_object_line place e);
}
