use Rattle.std.proofs.Common.{◌∙◌, ap, ◌≡◌, sym, false}
use Rattle.tc_isa.specs.declared.shapes.Op.{Op}
use Rattle.tc_isa.specs.declared.shapes.Op.TheVariants.{Second}
use Rattle.value_domain.specs.declared.values.Val.{Val}
use Rattle.value_domain.specs.declared.lattice.Extent.{Extent}
use Rattle.vd_transfer.specs.declared.strided_interval.StridedInterval.{StridedInterval}
use Rattle.value_domain.specs.Values.{cover, members, IsWellFormed}
use Rattle.value_domain.specs.Sets.{IsExtent}
use Rattle.vd_transfer.specs.Operations.{results_by_extents, is_comparison}
use Rattle.vd_transfer.specs.Intervals.{interval_words, result_interval}
use Rattle.vd_transfer.proofs.OpLaws.{row-Second, same_bounds, row_intervals, interval_of_row_step, interval_some, row-truth}
use Rattle.vd_transfer.proofs.operations.write_results_by_extents.Goals as goal

covered : (op : Op) (v w : Val) (e f : Extent) (run : StridedInterval) → IsWellFormed v → IsWellFormed w → (op ≡ Second → ⊥) → is_comparison op ≡ false → IsExtent (members v) e.least e.greatest e.step
    → IsExtent (members w) f.least f.greatest f.step → run ≡ result_interval op e f w → interval_words run ≡ results_by_extents op v w
covered op v w e f run well_v well_w other truth left right is = ap interval_words is ∙ row_intervals op v w e f other truth (same_bounds e v well_v left) (same_bounds f w well_w right)

pub result_interval-run-requires : goal.result_interval-run-requires
result_interval-run-requires c = record { left = c.extent_of.ensures.low _ c.extent_of.ensures.high_in; right = c.extent_of-in_default.ensures.low _ c.extent_of-in_default.ensures.high_in }

pub write_cover-requires : goal.write_cover-requires
write_cover-requires c = record {
  step = rw c.result_interval-run.ensures (interval_of_row_step c.args.op c.extent_of.result c.extent_of-in_default.result c.args.w.now c.extent_of.ensures.small c.extent_of-in_default.ensures.small);
  some = interval_some c.result_interval-run.result c.args.op c.args.v.now c.args.w.now c.requires.left.well c.requires.right.well
      (covered c.args.op c.args.v.now c.args.w.now c.extent_of.result c.extent_of-in_default.result c.result_interval-run.result c.requires.left.well c.requires.right.well
      c.in_default.not-Second (sym c.is_comparison.ensures ∙ c.if-is_comparison.false) c.extent_of.ensures c.extent_of-in_default.ensures c.result_interval-run.ensures);
}

pub returns-in_default-clause-cover : goal.returns-in_default-clause-cover
returns-in_default-clause-cover c = c.write_cover.ensures.cover ∙ ap (cover c.args.b.now) (covered c.args.op c.args.v.now c.args.w.now c.extent_of.result c.extent_of-in_default.result c.result_interval-run.result c.requires.left.well c.requires.right.well
    c.in_default.not-Second (sym c.is_comparison.ensures ∙ c.if-is_comparison.false) c.extent_of.ensures c.extent_of-in_default.ensures c.result_interval-run.ensures)

pub returns-in-Second-clause-cover : goal.returns-in-Second-clause-cover
returns-in-Second-clause-cover c = c.copy_to.ensures ∙ rw c.in-Second.is (row-Second c.args.b.now c.args.v.now c.args.w.now c.requires.right)

pub returns-then-is_comparison-clause-cover : goal.returns-then-is_comparison-clause-cover
returns-then-is_comparison-clause-cover c =
    c.write_cover_words.ensures.cover ∙ row-truth c.args.b.now c.args.op c.args.v.now c.args.w.now (sym c.is_comparison.ensures ∙ c.if-is_comparison.true)
