use Rattle.frame_places.proofs.ReaderLemmas.{pushed_more}
use Rattle.frame_places.proofs.readers.push_reader.Goals as goal

pub returns-in_ok-sort_and_dedup_readers : goal.returns-in_ok-sort_and_dedup_readers
returns-in_ok-sort_and_dedup_readers c =
    pushed_more c.args.list.now.items c.push.new.self.items c.sort_and_dedup_readers.new.list.items c.args.x c.in_ok-push.ensures.items c.in_ok-sort_and_dedup_readers.ensures
