use borrow.Author.Tests.{eq-eqb, ne_eqb}
use Rattle.feed.specs.Front.{header_in}
use Rattle.feed.proofs.state.Feed.header.Goals as goal

pub returns-then-front-ne4 : goal.returns-then-front-ne4
unfolding header_in
returns-then-front-ne4 c = simp (ne_eqb c.args.self.front.have 4 c.if-front-ne4.true)

pub returns : goal.returns
unfolding header_in
returns c = simp (c.id_of.ensures, c.type_of.ensures, eq-eqb c.args.self.front.have 4 c.if-front-ne4.false)
