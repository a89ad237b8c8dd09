use Rattle.std.proofs.Common.{◌+◌, ◌++◌, ◌∙◌, ℕ, List, ap, take, map}
use Rattle.std.specs.Prelude.{filter}
use Rattle.std.specs.List.{count_by}
use Rattle.tc_link.specs.GlobalSymbols.{GlobalData, is_global, global_data, first_global_address, has_global_name, twice_of_count}
use Rattle.tc_link.proofs.CountLaws.{symbols_more}
use Rattle.tc_link.proofs.GlobalLaws.{symbols_next}
use Rattle.tc_link.proofs.global_symbols.add_global_symbols.Goals as goal

pub loop-symbol-preserved : goal.loop-symbol-preserved
loop-symbol-preserved c =
    let i : ℕ = c.loop-symbol.symbol-index in
    record {
      counts = λ q n e.
          c.in_ok-add_symbol_if_global.ensures.counts q (n + count_by (has_global_name q) (take i c.args.symbols.now)) (c.loop-symbol.invariant.counts q n e)
          ∙ ap twice_of_count (symbols_more c.args.symbols.now i c.symbol-item.result q n c.loop-symbol-test.true c.symbol-item.is);
      globals = λ placed p before at rel q.
          let sofar : List GlobalData = before ++ map (global_data p.bases) (filter is_global (take i c.args.symbols.now)) in
          c.in_ok-add_symbol_if_global.ensures.globals placed p sofar at (c.loop-symbol.invariant.globals placed p before at rel) q
          ∙ ap (λ (gs : List GlobalData). first_global_address gs q) (symbols_next before p.bases c.args.symbols.now i c.symbol-item.result c.loop-symbol-test.true c.symbol-item.is);
    }
