-- Its rounds in turn.
use Rattle.sha256.proofs.RoundLaws.{last_items, no_round, one_round, rounded}
use Rattle.sha256.proofs.compress.last_sixteen.Goals as goal

pub returns : goal.returns
returns c =
    rw (last_items c.args.k.now c.requires)
    (rounded
    (one_round c.round-s.ensures
    (one_round c.round-s-2.ensures
    (one_round c.round-s-3.ensures
    (one_round c.round-s-4.ensures
    (one_round c.round-s-5.ensures
    (one_round c.round-s-6.ensures
    (one_round c.round-s-7.ensures
    (one_round c.round-s-8.ensures
    (one_round c.round-s-9.ensures
    (one_round c.round-s-10.ensures
    (one_round c.round-s-11.ensures
    (one_round c.round-s-12.ensures
    (one_round c.round-s-13.ensures
    (one_round c.round-s-14.ensures
    (one_round c.round-s-15.ensures
    (one_round c.round-s-16.ensures
    no_round)))))))))))))))))
