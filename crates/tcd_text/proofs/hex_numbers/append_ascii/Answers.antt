use Rattle.std.proofs.lemmas.Str.{IsUtf8-from_ascii}
use Rattle.tcd_text.proofs.hex_numbers.append_ascii.Goals as goal

pub from_utf8_unchecked-more-requires : goal.from_utf8_unchecked-more-requires
from_utf8_unchecked-more-requires c = IsUtf8-from_ascii c.args.bytes.now c.requires
