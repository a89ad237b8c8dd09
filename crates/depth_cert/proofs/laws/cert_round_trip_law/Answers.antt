use Rattle.depth_cert.proofs.BackLaws.{written_is_read}
use Rattle.depth_cert.proofs.laws.cert_round_trip_law.Goals as goal

pub returns : goal.returns
returns c = written_is_read
