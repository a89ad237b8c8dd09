use Rattle.std.proofs.Common.{◌/◌, ◌++◌, ap, sym, ◌∙◌, arith}
use Rattle.std.specs.Prelude.{string_bytes}
use Rattle.tc_disasm.proofs.SmallNumbers.{digit_on, one_digit}
use Rattle.tc_disasm.proofs.texts.append_small_listing_number.Goals as goal

pub returns : goal.returns
returns c = digit_on c.append_listing_digit-3.result (string_bytes c.args.text.now) _ _ c.args.n c.if-n-lt10.false (omega arith) (c.in_ok-append_listing_digit.ensures ∙ ap (λ l. string_bytes c.args.text.now ++ l) (sym (one_digit (c.args.n / 10) (omega arith)))) c.append_listing_digit-3.ensures
