use Rattle.std.proofs.Common.{subst}
use Rattle.depth_cert.specs.Answers.{IsFaultOf}
use Rattle.depth_cert.specs.Grammar.{certificate_of}
use Rattle.depth_maker.proofs.MakeLemmas.{made_small, made_is_read, made_read}
use Rattle.depth_maker.proofs.answering.make.Goals as goal

pub read-requires : goal.read-requires
read-requires c = made_small c.args.image.now c.args.plan.now c.args.version c.in_ok-bytes.bytes.items c.in_ok-bytes.ensures.made

pub returns-in-Ok : goal.returns-in-Ok
returns-in-Ok c = record {
  made = made_read c.args.image.now c.args.plan.now c.args.version c.in_ok-bytes.bytes.items c.in-Ok.cert c.in_ok-bytes.ensures.made c.in-Ok.ensures.ok;
  refused = tt;
}

pub unreachable-requires : goal.unreachable-requires
unreachable-requires c =
    made_is_read c.args.image.now c.args.plan.now c.args.version c.in_ok-bytes.bytes.items _ c.in_ok-bytes.ensures.made (subst (IsFaultOf (certificate_of c.in_ok-bytes.bytes.items)) c.in-Err-Bad.field-0-is c.in-Err-Bad.ensures.err)
