use Rattle.std.proofs.Common.{◌∙◌, ◌++◌, ℕ, List, replicate, ap, subst, sym}
use Rattle.std.proofs.lemmas.List.{append-nil}
use Rattle.std.proofs.lemmas.Result.{on_ok_weaker}
use Rattle.value_domain.specs.declared.values.Val.{Val}
use Rattle.value_domain.specs.declared.values.Val.TheVariants.{Set, Span}
use Rattle.value_domain.specs.Values.{IsWellFormed}
use Rattle.depth_cert.specs.Spelling.{bytes_of_value}
use Rattle.small_states.specs.SmallValues.{whole_value}
use Rattle.small_states.proofs.HeldWords.{set_of}
use Rattle.small_states.proofs.spelling.append_spaced_value.Goals as goal

pub push_set-requires : goal.push_set-requires
push_set-requires c =
    let value = sym c.v.view_is ∙ ap whole_value c.in-Many.is ∙ sym c.as_ref.ensures ∙ set_of c.as_ref.result.now c.in-Some.words.now c.in-Some.ensures in
    (subst IsWellFormed value c.requires).few

pub returns-in-Some : goal.returns-in-Some
returns-in-Some c =
    let value = sym c.v.view_is ∙ ap whole_value c.in-Many.is ∙ sym c.as_ref.ensures ∙ set_of c.as_ref.result.now c.in-Some.words.now c.in-Some.ensures in
    on_ok_weaker c.push_set.result
    (λ e.
    e
    ∙ ap (λ (l : List ℕ). l ++ bytes_of_value (Set c.in-Some.words.now)) c.in_ok-push_unknowns.ensures
    ∙ ap (λ (u : Val). ((c.args.out.now.items ++ c.args.gathered.now) ++ replicate c.args.anys 0) ++ bytes_of_value u) (sym value)) c.push_set.ensures

pub push_range-requires : goal.push_range-requires
push_range-requires c =
    let value = sym c.v.view_is ∙ ap whole_value c.in-Range.is in
    (subst IsWellFormed value c.requires).0

pub returns-in-Range : goal.returns-in-Range
returns-in-Range c =
    let value = sym c.v.view_is ∙ ap whole_value c.in-Range.is in
    on_ok_weaker c.push_range.result
    (λ e.
    e
    ∙ ap (λ (l : List ℕ). l ++ bytes_of_value (Span c.in-Range.lo c.in-Range.last c.in-Range.step)) c.in_ok-push_unknowns.ensures
    ∙ ap (λ (u : Val). ((c.args.out.now.items ++ c.args.gathered.now) ++ replicate c.args.anys 0) ++ bytes_of_value u) (sym value)) c.push_range.ensures

pub returns : goal.returns
returns c =
    let out = c.append_bytes.new.out.items in
    on_ok_weaker c.append_bytes.result
    (λ e.
    ap (λ (l : List ℕ). out ++ l) c.in_ok-flush.ensures.none
    ∙ append-nil out
    ∙ e
    ∙ ap (λ (l : List ℕ). l ++ bytes_of_value c.args.v.now) (c.in_ok-flush.ensures.added ∙ c.in_ok-push_unknowns.ensures)) c.append_bytes.ensures
