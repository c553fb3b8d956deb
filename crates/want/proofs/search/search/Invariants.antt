use Prim.Native.Nat.{◌-◌}
use lib.ListN.{length}
use Rattle.want.specs.Listing.{block_with}
use Rattle.want.proofs.SearchLaws.{Searched, Searching}
use Rattle.want.proofs.search.search.Given as goal

abbrev pub invariant-loop-j : goal.invariant-loop-j
invariant-loop-j l = Searching l.table (block_with l.size l.hash) l.at l.n l.f l.count l.first l.j

abbrev pub invariant-records : goal.invariant-records
invariant-records l = Searched l.table (block_with l.size l.hash) l.at l.n

abbrev pub decreases-records : goal.decreases-records
decreases-records l = length l.table - l.at
