use Rattle.std.proofs.Common.{◌≡◌, ◌<◌, ◌+◌, ◌-◌, ◌++◌, ◌∷◌, [], sym, ap, subst, ◌∙◌, length, drop, map, arith}
use Rattle.std.proofs.lemmas.List.{length_push, map-append}
use Rattle.std.proofs.lemmas.Bool.Decides.{nat_tests}
use Rattle.tc_lex.specs.Cut.{tokens_after_skip, token, IsTokenWithin}
use Rattle.tc_lex.specs.Pieces.{piece_of, piece_of_token, pieces_of_tokens}
use Rattle.tc_lex.specs.declared.kinds.Front.{Front}
use Rattle.tc_lex.specs.declared.kinds.Front.TheVariants as front
use Rattle.tc_lex.proofs.PieceLaws.{with_pieces, pieces_done, pieces_end, pieces_bad, pieces_blank, pieces_full, pieces_token}
use Rattle.tc_lex.proofs.line_pieces.tokenize_line.Goals as goal

pub returns-clause-pieces : goal.returns-clause-pieces
returns-clause-pieces c = sym c.cut.invariant.rest_is ∙ pieces_done c.args.line.now (map piece_of c.cut.out.items) c.cut.at (64 - length c.cut.out.items) (omega arith)

pub returns-in-End-clause-pieces : goal.returns-in-End-clause-pieces
returns-in-End-clause-pieces c = sym c.cut.invariant.rest_is ∙ pieces_end c.args.line.now (map piece_of c.cut.out.items) c.cut.at (64 - length c.cut.out.items) (omega arith) (sym c.longest_token_at.ensures.value ∙ c.in-End.is)

pub returns-in-Bad-clause-pieces : goal.returns-in-Bad-clause-pieces
returns-in-Bad-clause-pieces c = sym c.cut.invariant.rest_is ∙ pieces_bad c.args.line.now (map piece_of c.cut.out.items) c.cut.at (64 - length c.cut.out.items) (omega arith) (sym c.longest_token_at.ensures.value ∙ c.in-Bad.is)

pub cut-preserved-in-Blank : goal.cut-preserved-in-Blank
cut-preserved-in-Blank c = record {
  rest_is = sym (pieces_blank c.args.line.now (map piece_of c.cut.out.items) c.cut.at (64 - length c.cut.out.items) (omega arith) (sym c.longest_token_at.ensures.value ∙ c.in-Blank.is)) ∙ c.cut.invariant.rest_is;
  few = c.cut.invariant.few;
}

pub returns-then-is_full-clause-pieces : goal.returns-then-is_full-clause-pieces
returns-then-is_full-clause-pieces c =
    let full : length c.cut.out.items ≡ 64 = grind (arith, nat_tests) in
    sym c.cut.invariant.rest_is
    ∙ ap (λ r. with_pieces (map piece_of c.cut.out.items) (pieces_of_tokens c.args.line.now (tokens_after_skip (drop c.cut.at c.args.line.now) r c.cut.at 0))) (omega arith)
    ∙ pieces_full c.args.line.now (map piece_of c.cut.out.items) c.cut.at c.in-Token.kind c.in-Token.len (omega arith) (sym c.longest_token_at.ensures.value ∙ c.in-Token.is)

pub piece_at-requires : goal.piece_at-requires
piece_at-requires c =
    let within : IsTokenWithin (front.Token c.in-Token.kind c.in-Token.len) (length c.args.line.now - c.cut.at) = subst (λ (f : Front). IsTokenWithin f (length c.args.line.now - c.cut.at)) c.in-Token.is c.longest_token_at.ensures.within in
    omega (arith, within.1)

pub cut-preserved : goal.cut-preserved
cut-preserved c =
    let line = c.args.line.now in
    let out = c.cut.out.items in
    let ps = map piece_of out in
    let len = c.in-Token.len in
    let piece = piece_of_token line (token c.in-Token.kind c.cut.at len) in
    let few : length out < 64 = grind (arith, nat_tests) in
    let within : IsTokenWithin (front.Token c.in-Token.kind len) (length line - c.cut.at) = subst (λ (f : Front). IsTokenWithin f (length line - c.cut.at)) c.in-Token.is c.longest_token_at.ensures.within in
    record {
      rest_is =
          ap (λ ts. with_pieces (map piece_of ts) (pieces_of_tokens line (tokens_after_skip (drop (c.cut.at + len) line) (64 - length ts) (c.cut.at + len) 0))) c.push.ensures.items
          ∙ ap (λ r. with_pieces (map piece_of (out ++ c.piece_at.result ∷ [])) (pieces_of_tokens line (tokens_after_skip (drop (c.cut.at + len) line) r (c.cut.at + len) 0))) (omega (arith, length_push out c.piece_at.result))
          ∙ ap (λ qs. with_pieces qs (pieces_of_tokens line (tokens_after_skip (drop (c.cut.at + len) line) (63 - length out) (c.cut.at + len) 0))) (map-append piece_of out (c.piece_at.result ∷ []) ∙ ap (λ p. ps ++ p ∷ []) c.piece_at.ensures)
          ∙ sym (pieces_token line ps c.cut.at c.in-Token.kind len (63 - length out) (omega arith) (sym c.longest_token_at.ensures.value ∙ c.in-Token.is) within.0)
          ∙ ap (λ r. with_pieces ps (pieces_of_tokens line (tokens_after_skip (drop c.cut.at line) r c.cut.at 0))) (omega arith)
          ∙ c.cut.invariant.rest_is;
      few = omega (arith, length_push out c.piece_at.result, ap length c.push.ensures.items);
    }
