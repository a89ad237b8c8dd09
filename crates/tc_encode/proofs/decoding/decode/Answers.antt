use Rattle.std.proofs.Common.{◌∙◌, sym}
use Rattle.tc_encode.proofs.DecodeProofs.{sized, decoded_begins, short_is_front, not_listed_is_rest}
use Rattle.tc_encode.proofs.decoding.decode.Goals as goal

pub returns-clause-ok : goal.returns-clause-ok
returns-clause-ok c = λ i n. (λ e. (decoded_begins c.args.bytes.now i n).0 (sym c.decode_by_first_byte.ensures ∙ e), λ b. c.decode_by_first_byte.ensures ∙ (decoded_begins c.args.bytes.now i n).1 b)

pub returns-clause-short : goal.returns-clause-short
returns-clause-short c = (λ e. (short_is_front c.args.bytes.now).0 (sym c.decode_by_first_byte.ensures ∙ e), λ p. c.decode_by_first_byte.ensures ∙ (short_is_front c.args.bytes.now).1 p)

pub returns-clause-not_listed : goal.returns-clause-not_listed
returns-clause-not_listed c = (λ e. (not_listed_is_rest c.args.bytes.now).0 (sym c.decode_by_first_byte.ensures ∙ e), λ p. c.decode_by_first_byte.ensures ∙ (not_listed_is_rest c.args.bytes.now).1 p)

pub returns-clause-size : goal.returns-clause-size
returns-clause-size c = sized c.args.bytes.now c.decode_by_first_byte.result c.decode_by_first_byte.ensures
