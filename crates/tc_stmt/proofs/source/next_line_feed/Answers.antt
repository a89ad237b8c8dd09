use Rattle.tc_stmt.proofs.Feeds.{first_place, first_within}
use Rattle.tc_stmt.proofs.source.next_line_feed.Goals as goal

pub returns-clause-value : goal.returns-clause-value
returns-clause-value c = first_place 10 c.args.rest.now c.memchr.result c.memchr.ensures

pub returns-clause-within : goal.returns-clause-within
returns-clause-within c = first_within 10 c.args.rest.now c.memchr.result c.memchr.ensures
