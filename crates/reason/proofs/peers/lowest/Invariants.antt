use mathlib.Core.Path.{◌≡◌}
use mathlib.Core.List.{map}
use Rattle.want.specs.Listing.{block_with}
use Rattle.reason.proofs.PeerLaws.{peers_from}
use Rattle.reason.proofs.peers.lowest.Given as goal

abbrev pub invariant-loop-k : goal.invariant-loop-k
invariant-loop-k l = peers_from (l.name) l.offset (block_with l.size l.hash) (map (λ x. x.now) l.tables) 1 ≡ peers_from (l.name) l.offset (block_with l.size l.hash) (map (λ x. x.now) l.tables) l.k
