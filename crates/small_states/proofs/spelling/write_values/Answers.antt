use Rattle.std.proofs.Common.{◌∙◌, ◌++◌, ℕ, List, replicate, ap, sym}
use Rattle.std.proofs.lemmas.List.{append_assoc, take_all}
use Rattle.std.proofs.lemmas.Result.{on_ok_weaker}
use Rattle.std.specs.List.{flat_map}
use Rattle.depth_cert.specs.Spelling.{bytes_of_value}
use Rattle.small_states.specs.declared.values.SpacedValue.{SpacedValue}
use Rattle.small_states.specs.CompactForms.{values_to_last_known}
use Rattle.small_states.proofs.SparseLemmas.{known_well, spelled_all, spelled_more}
use Rattle.small_states.proofs.spelling.write_values.Goals as goal
use Rattle.small_states.proofs.spelling.write_values.Goals.{then-not-push_spaced_word+in_ok-append_spaced_value, else-not-push_spaced_word}

pub append_spaced_value-requires : goal.append_spaced_value-requires
append_spaced_value-requires c =
    let v = c.as_slice-known.ensures.value in
    known_well c.args.values.now.known.items c.args.values.now.rest c.loop-n.n c.index-known-n.result (rw v at c.loop-n-test.true) (rw v at c.index-known-n.is) c.requires

pub loop-n-preserved : goal.loop-n-preserved
loop-n-preserved c =
    let v = c.as_slice-known.ensures.value in
    let here = c.index-known-n.result in
    let zeros : List ℕ = replicate here.anys 0 in
    let bytes = bytes_of_value here.value in
    let out = c.loop-n.out.items in
    let old = c.loop-n.gathered in
    let more = spelled_more c.args.values.now.known.items c.args.values.now.rest c.loop-n.n here (rw v at c.loop-n-test.true) (rw v at c.index-known-n.is) (c.args.out.now.items ++ c.args.gathered.now) in
    let next = ap (λ (l : List ℕ). (l ++ zeros) ++ bytes) c.loop-n.invariant ∙ more in
    elim c.if-not-push_spaced_word.branch [
      | then-not-push_spaced_word+in_ok-append_spaced_value w ↦
          rw (w.out-is, w.gathered-is)
          (w.in_ok-append_spaced_value.ensures ∙ ap (λ (l : List ℕ). ((out ++ l) ++ zeros) ++ bytes) (c.push_spaced_word.ensures.kept w.if-not-push_spaced_word.true) ∙ next)
      | else-not-push_spaced_word w ↦
          rw (w.out-is, w.gathered-is)
          (ap (λ (l : List ℕ). out ++ l) (c.push_spaced_word.ensures.put w.if-not-push_spaced_word.false)
          ∙ sym (append_assoc out (old ++ zeros) bytes)
          ∙ ap (λ (l : List ℕ). l ++ bytes) (sym (append_assoc out old zeros))
          ∙ next)
    ]

pub returns : goal.returns
returns c =
    let v = c.as_slice-known.ensures.value in
    let known = c.args.values.now.known.items in
    let old = c.args.out.now.items ++ c.args.gathered.now in
    let whole =
    c.loop-n.invariant ∙ ap (λ (l : List SpacedValue). old ++ flat_map bytes_of_value (values_to_last_known l)) (take_all c.loop-n.n known (rw v at c.loop-n-test.false))
    in
    on_ok_weaker c.push_unknowns.result (λ e. e ∙ ap (λ (l : List ℕ). l ++ replicate c.args.values.now.rest 0) whole ∙ spelled_all known c.args.values.now.rest old) c.push_unknowns.ensures
