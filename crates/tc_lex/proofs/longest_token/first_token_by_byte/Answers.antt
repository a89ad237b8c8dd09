use Rattle.std.proofs.Common.{◌≡◌, ℕ, true, ap, sym, ◌∙◌, arith}
use Rattle.std.proofs.Common.{get_or}
use Rattle.tcd_base.specs.NameBytes.{is_name_byte, is_name_start}
use Rattle.tc_lex.proofs.FrontLaws.{prefix_len_some}
use Rattle.tc_lex.proofs.longest_token.first_token_by_byte.Goals as goal

named : (c : ℕ) → is_name_start c ≡ true → is_name_byte c ≡ true
unfolding is_name_byte
named c e = rw e

pub returns-then-is_name_start-clause-within : goal.returns-then-is_name_start-clause-within
returns-then-is_name_start-clause-within c =
    let e : is_name_start c.args.c ≡ true = cc in
    let named_here : is_name_byte (get_or c.args.text.now 0 0) ≡ true = ap is_name_byte (sym c.requires.first) ∙ named c.args.c e in
    (omega (arith, c.word_len.ensures.value, prefix_len_some is_name_byte c.args.text.now c.requires.some named_here), c.word_len.ensures.within)
