use Rattle.tc_boot.proofs.GuardLaws.{every_boot_is_safe}
use Rattle.tc_boot.proofs.JudgeOne.{judges_one}
use Rattle.tc_boot.proofs.laws.boot_guard_laws.Goals as goal

pub returns-clause-reset : goal.returns-clause-reset
returns-clause-reset c = λ image plan at m machine running pc off core memory rom. record { machine = machine; running = running; pc = pc; off = off; core = core; memory = memory; rom = rom }

pub returns-clause-inside : goal.returns-clause-inside
returns-clause-inside c = λ image plan at m es n boots lt.
    let b = boots.before n lt in
    (b.running, b.off, (b.place, b.within, b.pc))

pub returns-clause-safe : goal.returns-clause-safe
returns-clause-safe c = every_boot_is_safe

pub returns-clause-one : goal.returns-clause-one
returns-clause-one c = judges_one
