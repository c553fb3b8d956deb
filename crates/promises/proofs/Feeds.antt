-- A message that is fed run by run is read as if at once.
use Rattle.std.specs.Prelude.{Some, None}
use Rattle.std.specs.declared.option.Option.{Option}
use Rattle.std.specs.Prelude.{Ok, Err}
use Rattle.std.specs.declared.result.Result.{Result}
use Prim.Native.Nat.{ℕ, ◌+◌, ◌≤◌}
use mathlib.Core.List.{List, [], ◌∷◌, ◌++◌}
use mathlib.Core.Path.{◌≡◌, refl, sym, ap, subst, ◌∙◌}
use mathlib.Core.Bool.{Bool, true, false, cond}
use native.Mathlib.Omega.{arith}
use borrow.Author.Tests.{eq-eqb, eqb-true}
use lib.ListN.{length, get_or}
use lib.Dec.{eqb}
use Rattle.xdr.specs.declared.answer.Refusal.{Refusal}
use Rattle.message.specs.Answers.{message_in}
use Rattle.message.specs.declared.answer.Message.{Message}
use Rattle.message.specs.declared.answer.Message.TheVariants as M
use Rattle.message.specs.declared.edition.Edition.{Edition}
use Rattle.feed.specs.AtOnce.{at_once}
use Rattle.feed.specs.Front.{header_in}
use Rattle.feed.specs.Missing.{missing_in}
use Rattle.feed.specs.Feeding.{taken_of}
use Rattle.feed_lent.specs.Lent.{feed_of, said_with}
use Rattle.feed.specs.Promised.{Promised}
use Rattle.feed_lent.specs.LentRuns.{LentChain, lent_opening, lent_more}
use Rattle.feed_lent.specs.Steps.{end_of}
use Rattle.feed.proofs.FrontLaws.{header_is}
use Rattle.feed_lent.proofs.OnceLaws.{end_once}
use Rattle.feed.proofs.Promise.{stands, missing_waits, missing_some, once_over, none_after}
use Rattle.feed_lent.proofs.LentPromise.{chained, lent_promise}
use Rattle.bep.specs.Words.{read_number, read_words}
use Rattle.bep.specs.Feeding.{said_number, said_words, Feeds}
use Rattle.promises.specs.Feeds.{Calls, opening, feeding, reads_to, first_word, Missing, FedAsRead, HeaderTold}

-- what is said of a message that was read at once

stop_number : (r : Refusal) (b : Bool) → eqb r.number 1 ≡ b → said_number (cond b (Ok None) (Err r)) ≡ r.number
stop_number r true e = sym (eqb-true r.number 1 e)
stop_number r false e = refl

end_number : (m : Result Message Refusal) → said_number (end_of m) ≡ read_number m
end_number (Ok (M.Index id x)) = refl
end_number (Ok (M.Request id x)) = refl
end_number (Ok (M.Response id x)) = refl
end_number (Ok (M.Ping id end)) = refl
end_number (Ok (M.Pong id end)) = refl
end_number (Ok (M.IndexUpdate id x)) = refl
end_number (Ok (M.Options id x)) = refl
end_number (Err r) = stop_number r (eqb r.number 1) refl

stop_words : (missing taken : ℕ) (r : Refusal) (b : Bool) → (◌≡◌ {A = Result (Option ℕ) Refusal} (cond b (Ok None) (Err r)) (Ok None) → ⊥)
    → said_words missing taken (cond b (Ok None) (Err r)) ≡ r.place ∷ taken ∷ []
stop_words missing taken r true h = absurd (h refl)
stop_words missing taken r false h = refl

end_words : (missing taken : ℕ) (m : Result Message Refusal) → (end_of m ≡ Ok None → ⊥) → said_words missing taken (end_of m) ≡ get_or (read_words m) 0 0 ∷ taken ∷ []
end_words missing taken (Ok (M.Index id x)) h = refl
end_words missing taken (Ok (M.Request id x)) h = refl
end_words missing taken (Ok (M.Response id x)) h = refl
end_words missing taken (Ok (M.Ping id end)) h = refl
end_words missing taken (Ok (M.Pong id end)) h = refl
end_words missing taken (Ok (M.IndexUpdate id x)) h = refl
end_words missing taken (Ok (M.Options id x)) h = refl
end_words missing taken (Err r) h = stop_words missing taken r (eqb r.number 1) h

end_waits : (m : Result Message Refusal) → read_number m ≡ 1 → end_of m ≡ Ok None
end_waits (Ok (M.Index id x)) h = absurd (omega (arith, h))
end_waits (Ok (M.Request id x)) h = absurd (omega (arith, h))
end_waits (Ok (M.Response id x)) h = absurd (omega (arith, h))
end_waits (Ok (M.Ping id end)) h = absurd (omega (arith, h))
end_waits (Ok (M.Pong id end)) h = absurd (omega (arith, h))
end_waits (Ok (M.IndexUpdate id x)) h = absurd (omega (arith, h))
end_waits (Ok (M.Options id x)) h = absurd (omega (arith, h))
end_waits (Err r) h = ap (λ (b : Bool). cond b (Ok None) (Err r)) (eq-eqb r.number 1 h)

number_read : (e : Edition) (s : List ℕ) → said_number (at_once e s) ≡ reads_to e s
number_read e s = ap said_number (sym (end_once e s)) ∙ end_number (message_in e s)

words_read : (missing taken : ℕ) (e : Edition) (s : List ℕ) → (reads_to e s ≡ 1 → ⊥) → said_words missing taken (at_once e s) ≡ first_word e s ∷ taken ∷ []
words_read missing taken e s h =
    ap (said_words missing taken) (sym (end_once e s))
    ∙ end_words missing taken (message_in e s) (λ w. h (sym (end_number (message_in e s)) ∙ ap said_number w))

-- how many bytes were taken is the second word
second_word : (missing taken : ℕ) (a : Result (Option ℕ) Refusal) → get_or (said_words missing taken a) 1 0 ≡ taken
second_word missing taken (Ok None) = refl
second_word missing taken (Ok (Some end)) = refl
second_word missing taken (Err r) = refl

-- a run that leaves the message unfinished is taken whole
taken_whole : (e : Edition) (before run : List ℕ) → at_once e (before ++ run) ≡ Ok None
    → taken_of (at_once e before) (at_once e (before ++ run)) (length before) (length run) ≡ length run
taken_whole e before run w = go (at_once e before) refl
  where
    waited : (at_once e before ≡ Ok None → ⊥) → ⊥
    waited h = h (sym (once_over e before run h) ∙ w)

    go : (a : Result (Option ℕ) Refusal) → at_once e before ≡ a → taken_of a (at_once e (before ++ run)) (length before) (length run) ≡ length run
    go (Ok None) q = ap (λ (x : Result (Option ℕ) Refusal). taken_of (Ok None) x (length before) (length run)) w
    go (Ok (Some n)) q = absurd (waited (λ y. let z : ◌≡◌ {A = ℕ} 0 1 = cc (sym q ∙ y) in omega arith))
    go (Err r) q = absurd (waited (λ y. let z : ◌≡◌ {A = ℕ} 0 1 = cc (sym q ∙ y) in omega arith))

-- the calls, by the words that they were given and left
lent : {e : Edition} {bytes words : List ℕ} → Calls e bytes words → LentChain e bytes words
lent (opening l) = lent_opening l
lent (feeding c f) = lent_more (lent c) f.fed

module _ {e : Edition} {before run words answer after : List ℕ} {number : ℕ} (c : Calls e before words) (f : Feeds words run number answer after) where
  promised : Promised e before run (said_with f.said after)
  promised = lent_promise (lent c) f.fed

  abbrev missing : ℕ
  missing = missing_in (feed_of after).cursor

  abbrev taken : ℕ
  taken = taken_of (at_once e before) (at_once e (before ++ run)) (length before) (length run)

  numbered : number ≡ reads_to e (before ++ run)
  numbered = f.number_is ∙ ap said_number promised.answer ∙ number_read e (before ++ run)

  answered : answer ≡ said_words missing taken (at_once e (before ++ run))
  answered = f.words_are ∙ ap (λ (t : ℕ). said_words missing t f.said.answer) promised.taken ∙ ap (said_words missing taken) promised.answer

  module _ (w : at_once e (before ++ run) ≡ Ok None) where
    some_missing : Missing e (before ++ run) missing
    some_missing =
        let k = chained (lent (feeding c f)) in
        record {
          some = missing_some k w;
          fewer = λ t h. sym (number_read e (before ++ run ++ t)) ∙ ap said_number (missing_waits k t h);
        }

    taken_all : answer ≡ missing ∷ length run ∷ []
    taken_all = answered ∙ ap (λ (t : ℕ). said_words missing t (at_once e (before ++ run))) (taken_whole e before run w) ∙ ap (said_words missing (length run)) w

  module _ (h : reads_to e before ≡ 1 → ⊥) where
    told_before : at_once e before ≡ Ok None → ⊥
    told_before w = h (sym (number_read e before) ∙ ap said_number w)

    same : at_once e (before ++ run) ≡ at_once e before
    same = once_over e before run told_before

    told_again : answer ≡ first_word e before ∷ 0 ∷ []
    told_again =
        answered
        ∙ ap (λ (t : ℕ). said_words missing t (at_once e (before ++ run))) (none_after (at_once e before) (at_once e (before ++ run)) (length before) (length run) told_before)
        ∙ ap (said_words missing 0) same
        ∙ words_read missing 0 e before h

  taken_is : get_or answer 1 0 ≡ f.said.taken
  taken_is = ap (λ (l : List ℕ). get_or l 1 0) f.words_are ∙ second_word missing f.said.taken f.said.answer

  -- whatever calls came before
  pub fed_as_read : FedAsRead e before run number answer
  fed_as_read = record {
    numbered = numbered;
    waiting = λ h.
        let w : at_once e (before ++ run) ≡ Ok None = sym (end_once e (before ++ run)) ∙ end_waits (message_in e (before ++ run)) (sym numbered ∙ h) in
        (missing, taken_all w, some_missing w);
    told = λ h. answered ∙ words_read missing taken e (before ++ run) (λ r. h (numbered ∙ r));
    within = subst (λ (t : ℕ). t ≤ length run) (sym taken_is) promised.within;
    ends = λ n w q. ap (λ (t : ℕ). length before + t) taken_is ∙ promised.ends n w (promised.answer ∙ q);
    over = λ h. (numbered ∙ sym (number_read e (before ++ run)) ∙ ap said_number (same h) ∙ number_read e before, told_again h);
  }

-- and what is told of the header
pub header_told : {e : Edition} {bytes words : List ℕ} → Calls e bytes words → HeaderTold bytes words
header_told {e} {bytes} c = ap header_in (stands (chained (lent c))).front ∙ header_is bytes
