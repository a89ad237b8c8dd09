use Rattle.std.proofs.Common.{◌≡◌, true, false, sym, ◌∙◌, inl, inr, refl, arith}
use Rattle.tc_script.proofs.Events.{in_one, inside, outside, asked}
use Rattle.tc_script.proofs.ports.port_input.Goals as goal

pub ask-requires : goal.ask-requires
ask-requires g c =
    let there : in_one c.in-Some.addr c.in-Some.size c.args.ports.now.devices ≡ true = sym c.holds.ensures ∙ c.if-holds.true in
    asked (goal.F-pre g c.args.ports.now.answer) c.in-Some.addr c.in-Some.size c.args.t c.args.ports.now.devices c.requires.askable (rw c.in-Some.is at c.requires.some) (omega arith) (inside c.in-Some.addr c.in-Some.size c.args.ports.now.devices there)

pub returns-then-holds : goal.returns-then-holds
returns-then-holds g c =
    let there : in_one c.in-Some.addr c.in-Some.size c.args.ports.now.devices ≡ true = sym c.holds.ensures ∙ c.if-holds.true in
    rw c.in-Some.is
    (inl (inside c.in-Some.addr c.in-Some.size c.args.ports.now.devices there, c.ask.ensures))

pub returns-else-holds : goal.returns-else-holds
returns-else-holds g c =
    let none : in_one c.in-Some.addr c.in-Some.size c.args.ports.now.devices ≡ false = sym c.holds.ensures ∙ c.if-holds.false in
    rw c.in-Some.is
    (inr (outside c.in-Some.addr c.in-Some.size c.args.ports.now.devices none, refl))
