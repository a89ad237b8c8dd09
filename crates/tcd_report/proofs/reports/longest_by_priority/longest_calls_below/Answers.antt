use Rattle.std.proofs.Common.{◌≡◌, ◌+◌, ◌++◌, ◌∙◌, ℕ, Option, refl, ap, sym, arith}
use Rattle.std.specs.Prelude.{nat_eq}
use Rattle.std.specs.HashMap.{get}
use Rattle.tcd_report.specs.Reports.Longest.{longest_calls_of}
use Rattle.tcd_report.specs.Reports.Longest as spec
use Rattle.tcd_report.proofs.ReportLemmas.LongestLaws.{rows_none, rows_step}
use Rattle.tcd_report.proofs.reports.longest_by_priority.longest_calls_below.Goals as goal

pub loop-prio-init : goal.loop-prio-init
loop-prio-init c = c.new-rows.ensures.items ∙ sym (rows_none (get nat_eq c.args.known.now))

pub loop-prio-preserved : goal.loop-prio-preserved
loop-prio-preserved c =
    let row : ℕ → Option ℕ = get nat_eq c.args.known.now in
    let i : ℕ = c.loop-prio.prio-counter in
    c.in_ok-push_longest.ensures
    ∙ ap (λ o. c.loop-prio.rows.items ++ longest_calls_of i o) c.get.ensures.value
    ∙ ap (λ l. l ++ longest_calls_of i (row i)) c.loop-prio.invariant
    ∙ sym (rows_step row i (i + 1) refl)

pub returns : goal.returns
returns c =
    let last : c.loop-prio.prio-counter ≡ c.args.count = omega arith in
    c.loop-prio.invariant ∙ ap (λ k. spec.longest_calls_below (get nat_eq c.args.known.now) k) last
