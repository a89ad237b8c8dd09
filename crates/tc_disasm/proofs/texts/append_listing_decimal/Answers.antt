use Rattle.std.proofs.Common.{arith}
use Rattle.std.specs.Prelude.{string_bytes}
use Rattle.tc_disasm.proofs.SmallNumbers.{digit_on}
use Rattle.tc_disasm.proofs.texts.append_listing_decimal.Goals as goal

pub returns-then-n-lt1000 : goal.returns-then-n-lt1000
returns-then-n-lt1000 c = digit_on c.append_listing_digit.result (string_bytes c.args.text.now) _ _ c.args.n (omega arith) (omega arith) c.in_ok-append_small_listing_number.ensures c.append_listing_digit.ensures
