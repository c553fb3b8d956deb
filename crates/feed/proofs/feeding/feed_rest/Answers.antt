use Rattle.feed.proofs.TestLaws.{test_feed, fed_by}
use Rattle.feed.proofs.feeding.feed_rest.Goals as goal

pub feed_sound-led-requires : goal.feed_sound-led-requires
feed_sound-led-requires c = (test_feed c.args.state c.requires).0

pub front_after-requires : goal.front_after-requires
front_after-requires c = (test_feed c.args.state c.requires).1

pub returns : goal.returns
returns c = fed_by c.requires c.feed_sound-led.ensures c.front_after.ensures
