-- An answer that a refusal replaces.
use Rattle.std.specs.Prelude.{Option, Some, None, Result, Err}

-- the refusal, if there is one, else this answer
abbrev pub unless_refused : {A E : Type 0} → Option E → Result A E → Result A E
unless_refused (Some e) r = Err e
unless_refused None r = r
