use Rattle.std.proofs.Common.{subst, refl, arith}
use Rattle.small_states.specs.Incoming.{incoming_known}
use Rattle.indexmap.specs.IndexMap.{get}
use Rattle.frame_places.specs.Marks.{IsAmongReaders, RequeuesPlaces}
use Rattle.frame_places.specs.Spots.{spot_eq}
use Rattle.depth_maker.proofs.Lawful.{lawful}
use Rattle.depth_maker.proofs.JoinLemmas.{exits_after, the_joined, told_known}
use Rattle.depth_maker.proofs.join_place.join_at_place.Goals as goal

pub requeue_readers_after_join-requires-clause-listed : goal.requeue_readers_after_join-requires-clause-listed
requeue_readers_after_join-requires-clause-listed c = (let h = rw c.if-branch.true at c.in_ok-join_without_requeuing.ensures in h.listed)

pub requeue_readers_after_join-requires-clause-exits : goal.requeue_readers_after_join-requires-clause-exits
requeue_readers_after_join-requires-clause-exits c =
    let h = rw c.if-branch.true at c.in_ok-join_without_requeuing.ensures in
    exits_after _ _ _ c.args.table.now c.join_without_requeuing.new.table c.args.y.now (incoming_known c.args.incoming.now) c.requires.fine h

pub requeue_readers_after_join-requires-clause-known : goal.requeue_readers_after_join-requires-clause-known
requeue_readers_after_join-requires-clause-known c =
    let h = rw c.if-branch.true at c.in_ok-join_without_requeuing.ensures in
    told_known _ _ _ c.args.table.now c.join_without_requeuing.new.table c.args.y.now (incoming_known c.args.incoming.now) c.requires.fine h

pub returns-in_ok-requeue_readers_after_join-clause-ok : goal.returns-in_ok-requeue_readers_after_join-clause-ok
returns-in_ok-requeue_readers_after_join-clause-ok c =
    let h = rw c.if-branch.true at c.in_ok-join_without_requeuing.ensures in
    let s = c.args.table.now in
    let m = c.join_without_requeuing.new.table in
    the_joined _ _ _ (lawful _ _ _ c.args.v.now.ground.now.sound) s m _ c.args.y.now (incoming_known c.args.incoming.now) c.requires.incoming h
    (subst (λ r. RequeuesPlaces m.places c.requeue_readers_after_join.new.places (IsAmongReaders (get spot_eq r c.args.y.now))) h.readers c.in_ok-requeue_readers_after_join.ensures.marks) c.in_ok-requeue_readers_after_join.ensures.work refl c.in_ok-requeue_readers_after_join.ensures.readers refl refl refl c.requires.fine
    (let e = c.incoming_ccpn-byte.ensures in let t = c.incoming_ccpn-byte.type_inv in omega (arith, e, t))

pub returns-else-branch-clause-ok : goal.returns-else-branch-clause-ok
returns-else-branch-clause-ok c = rw c.if-branch.false at c.in_ok-join_without_requeuing.ensures
