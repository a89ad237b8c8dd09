use Rattle.std.proofs.Common.{sym, subst, refl, IsSome}
use Rattle.frame_places.proofs.ReaderLemmas.{registered_by}
use Rattle.frame_places.proofs.readers.register_reader.Goals as goal

pub returns-in-Some : goal.returns-in-Some
returns-in-Some c =
    registered_by c.args.readers.now (c.get_mut.follows.lender c.push_reader.new.list) c.args.z c.args.x c.in-Some.list.now c.push_reader.new.list (sym c.in-Some.ensures.value) c.in_ok-push_reader.ensures
    (λ q. ((c.get_mut.follows.holds c.push_reader.new.list).3 (subst (λ o. IsSome o) c.in-Some.ensures.value refl)).0 q)
