-- Consequences of a safe boot, in plain equations.
use Rattle.std.proofs.Common.{◌≡◌, List, [], ◌∷◌, ◌++◌, refl, sym, subst}
use Rattle.tcd_plan.specs.PlanData.{PlanData}
use Rattle.tc_machine.specs.declared.events.Event.{Event}
use Rattle.tc_machine.specs.declared.state.Machine.{Machine}
use Rattle.tc_machine.specs.Stepping.{step, run}
use Rattle.tc_machine.specs.Safe.{Fits, AllFit, IsSafeAt}
use Rattle.tc_boot.specs.Reset.{Reset}
use Rattle.tc_boot.specs.Laws.{EveryBootIsSafe}

-- events one part after another
run-append : (m : Machine) (es fs : List Event) → run m (es ++ fs) ≡ run (run m es) fs
run-append m [] fs = refl
run-append m (e ∷ es) fs = run-append (step m e) es fs

fit_parts : (plan : PlanData) (m : Machine) (es fs : List Event) → AllFit plan m (es ++ fs) → AllFit plan m es × AllFit plan (run m es) fs
fit_parts plan m [] fs fit = (tt, fit)
fit_parts plan m (e ∷ es) fs fit = let rest = fit_parts plan (step m e) es fs fit.1 in ((fit.0, rest.0), rest.1)

pub every_boot_is_safe : EveryBootIsSafe
every_boot_is_safe image plan at most m boot es e safe machine running pc off core memory rom count fit f =
    let parts = fit_parts plan m boot es fit in
    let same = run-append m boot es in
    let reset : Reset image plan at m = record { machine = machine; running = running; pc = pc; off = off; core = core; memory = memory; rom = rom } in
    let boots = safe m boot es e reset parts.0 count parts.1 (subst (λ (r : Machine). Fits plan r e) same f) in
    (λ n lt. let b = (boots.0).before n lt in (b.running, b.off, (b.place, b.within, b.pc)), (boots.0).starts, subst (λ (r : Machine). IsSafeAt image plan most r e) (sym same) boots.1)
