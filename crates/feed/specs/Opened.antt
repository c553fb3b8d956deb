-- The state before any byte.
use Rattle.message.specs.declared.edition.Edition.{Edition}
use Rattle.feed.specs.Rest.{starting}
use Rattle.feed.specs.Front.{no_front}
use Rattle.feed.specs.declared.state.Feed.{Feed}

abbrev pub opened : Edition → Feed
opened e = record { cursor = starting e; front = no_front }
