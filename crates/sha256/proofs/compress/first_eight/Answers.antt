-- Its rounds and words in turn.
use Rattle.std.proofs.Common.{◌*◌, ◌%◌, refl, arith}
use Rattle.sha256.proofs.RoundLaws.{first_items, no_round, one_round, rounded, no_word, one_word, made}
use Rattle.sha256.proofs.compress.first_eight.Goals as goal

pub returns : goal.returns
returns c =
    let a = c.args in
    record {
      state = rw (first_items a.k.now c.requires (a.row % 4 * 16) (omega arith))
          (rounded
          (one_round c.round-s.ensures
          (one_round c.round-s-2.ensures
          (one_round c.round-s-3.ensures
          (one_round c.round-s-4.ensures
          (one_round c.round-s-5.ensures
          (one_round c.round-s-6.ensures
          (one_round c.round-s-7.ensures
          (one_round c.round-s-8.ensures
          no_round)))))))));
      words = made
          (one_word c.next_word.ensures
          (one_word c.next_word-2.ensures
          (one_word c.next_word-3.ensures
          (one_word c.next_word-4.ensures
          (one_word c.next_word-5.ensures
          (one_word c.next_word-6.ensures
          (one_word c.next_word-7.ensures
          (one_word c.next_word-8.ensures
          no_word))))))));
      kept = refl;
    }
