use Rattle.tc_machine.proofs.Decoded.{decoded_small}
use Rattle.tc_machine.proofs.fetching.decode_fetched_bytes.Goals as goal

pub returns-clause-small : goal.returns-clause-small
returns-clause-small c = decoded_small _ _ c.decode.ensures.decoded
