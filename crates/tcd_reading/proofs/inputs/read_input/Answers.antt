use Rattle.tcd_reading.proofs.Told.{err_as, bad_line}
use Rattle.tcd_reading.proofs.inputs.read_input.Goals as goal

pub returns-in-Ok-clause-stops : goal.returns-in-Ok-clause-stops
returns-in-Ok-clause-stops g c =
    err_as _ _ _ _ c.parse.result c.parse.ensures.stops
    (λ t is. bad_line _ _ _ c.in-Ok.bytes.items _ t c.limit.ensures c.in-Ok.ensures.found c.in-Ok.ensures.limit is) (λ f. absurd f)
