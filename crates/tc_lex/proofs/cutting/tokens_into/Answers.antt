use Rattle.std.proofs.Common.{◌≡◌, ◌<◌, ◌+◌, ◌-◌, ◌++◌, ◌∷◌, [], sym, ap, subst, ◌∙◌, length, drop, arith}
use Rattle.std.proofs.lemmas.List.{length_push}
use Rattle.std.proofs.lemmas.Bool.Decides.{nat_tests}
use Rattle.tc_lex.specs.Cut.{tokens_after_skip, with_first_tokens, token, IsTokenWithin}
use Rattle.tc_lex.specs.declared.kinds.Front.{Front}
use Rattle.tc_lex.specs.declared.kinds.Front.TheVariants as front
use Rattle.tc_lex.proofs.CutLaws.{cut_done, cut_end, cut_bad, cut_blank, cut_full, cut_token}
use Rattle.tc_lex.proofs.cutting.tokens_into.Goals as goal

pub returns : goal.returns
returns c = sym c.cut.invariant.rest_is ∙ cut_done c.args.line.now c.cut.out.items c.cut.at (64 - length c.cut.out.items) (omega arith)

pub returns-in-End : goal.returns-in-End
returns-in-End c = sym c.cut.invariant.rest_is ∙ cut_end c.args.line.now c.cut.out.items c.cut.at (64 - length c.cut.out.items) (omega arith) (sym c.longest_token_at.ensures.value ∙ c.in-End.is)

pub returns-in-Bad : goal.returns-in-Bad
returns-in-Bad c = sym c.cut.invariant.rest_is ∙ cut_bad c.args.line.now c.cut.out.items c.cut.at (64 - length c.cut.out.items) (omega arith) (sym c.longest_token_at.ensures.value ∙ c.in-Bad.is)

pub cut-preserved-in-Blank : goal.cut-preserved-in-Blank
cut-preserved-in-Blank c = record {
  rest_is = sym (cut_blank c.args.line.now c.cut.out.items c.cut.at (64 - length c.cut.out.items) (omega arith) (sym c.longest_token_at.ensures.value ∙ c.in-Blank.is)) ∙ c.cut.invariant.rest_is;
  few = c.cut.invariant.few;
}

pub returns-then-is_full : goal.returns-then-is_full
returns-then-is_full c =
    let full : length c.cut.out.items ≡ 64 = grind (arith, nat_tests) in
    sym c.cut.invariant.rest_is
    ∙ ap (λ r. with_first_tokens c.cut.out.items (tokens_after_skip (drop c.cut.at c.args.line.now) r c.cut.at 0)) (omega arith)
    ∙ cut_full c.args.line.now c.cut.out.items c.cut.at c.in-Token.kind c.in-Token.len (omega arith) (sym c.longest_token_at.ensures.value ∙ c.in-Token.is)

pub cut-preserved : goal.cut-preserved
cut-preserved c =
    let line = c.args.line.now in
    let out = c.cut.out.items in
    let len = c.in-Token.len in
    let tok = token c.in-Token.kind c.cut.at len in
    let few : length out < 64 = grind (arith, nat_tests) in
    let within : IsTokenWithin (front.Token c.in-Token.kind len) (length line - c.cut.at) = subst (λ (f : Front). IsTokenWithin f (length line - c.cut.at)) c.in-Token.is c.longest_token_at.ensures.within in
    record {
      rest_is =
          ap (λ ts. with_first_tokens ts (tokens_after_skip (drop (c.cut.at + len) line) (64 - length ts) (c.cut.at + len) 0)) c.push.ensures.items
          ∙ ap (λ r. with_first_tokens (out ++ tok ∷ []) (tokens_after_skip (drop (c.cut.at + len) line) r (c.cut.at + len) 0)) (omega (arith, length_push out tok))
          ∙ sym (cut_token line out c.cut.at c.in-Token.kind len (63 - length out) (omega arith) (sym c.longest_token_at.ensures.value ∙ c.in-Token.is) within.0)
          ∙ ap (λ r. with_first_tokens out (tokens_after_skip (drop c.cut.at line) r c.cut.at 0)) (omega arith)
          ∙ c.cut.invariant.rest_is;
      few = omega arith;
    }
