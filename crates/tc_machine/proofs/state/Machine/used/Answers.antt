use Rattle.std.proofs.Common.{◌≡◌, ◌≢◌, ◌-◌, sym, ◌∙◌, arith}
use Rattle.csa_chain.specs.Chain.{link_in}
use Rattle.tc_machine.proofs.Counted.{counted_whole, counted_end, counted_long, counted_stops, counted_goes_on}
use Rattle.tc_machine.proofs.state.Machine.used.Goals as goal

pub returns-then-count-eq4096 : goal.returns-then-count-eq4096
returns-then-count-eq4096 c =
    let more : link_in c.loop-word.word ≢ 0 = λ e. c.loop-word-test.true (c.link_in.ensures ∙ e) in
    let most : 4096 - c.loop-word.count ≡ 0 = omega arith in
    sym (counted_long (4096 - c.loop-word.count) c.loop-word.count c.args.self.now.mem c.loop-word.word most more) ∙ c.loop-word.invariant.same
    ∙ counted_whole c.args.self.now.mem c.args.self.now.pcxi

pub returns-in_err-word : goal.returns-in_err-word
returns-in_err-word c =
    let more : link_in c.loop-word.word ≢ 0 = λ e. c.loop-word-test.true (c.link_in.ensures ∙ e) in
    c.from_residual.ensures
    ∙ sym (counted_stops (4096 - c.loop-word.count) c.loop-word.count c.args.self.now.mem c.loop-word.word c.next_link_word.result c.next_link_word.ensures c.in_err-word.was more) ∙ c.loop-word.invariant.same
    ∙ counted_whole c.args.self.now.mem c.args.self.now.pcxi

pub loop-word-preserved : goal.loop-word-preserved
loop-word-preserved c =
    let more : link_in c.loop-word.word ≢ 0 = λ e. c.loop-word-test.true (c.link_in.ensures ∙ e) in record {
      few = omega arith;
      same =
          sym (counted_goes_on c.loop-word.count c.in_ok-word.word c.args.self.now.mem c.loop-word.word c.next_link_word.result c.next_link_word.ensures c.in_ok-word.was c.loop-word.invariant.few c.if-count-eq4096.false more)
          ∙ c.loop-word.invariant.same;
    }

pub returns : goal.returns
returns c =
    sym (counted_end (4096 - c.loop-word.count) c.loop-word.count c.args.self.now.mem c.loop-word.word (sym c.link_in.ensures ∙ c.loop-word-test.false)) ∙ c.loop-word.invariant.same
    ∙ counted_whole c.args.self.now.mem c.args.self.now.pcxi
