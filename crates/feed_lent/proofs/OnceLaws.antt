-- A message that comes in one run is read at once.
use Rattle.std.specs.Prelude.{Ok, Err, Some, None}
use Prim.Native.Nat.{ℕ, ◌+◌, ◌≤◌}
use mathlib.Core.List.{List, ◌++◌}
use mathlib.Core.Path.{◌≡◌, refl, sym, ap, ◌∙◌}
use mathlib.Core.Bool.{Bool, true, false, cond}
use native.Mathlib.Omega.{arith}
use native.Mathlib.Nat.{zero-add}
use borrow.Author.Tests.{eqb-false}
use lib.ListN.{length, drop}
use lib.Dec.{eqb}
use Rattle.xdr.specs.Reading.{Reading, taken, refused}
use Rattle.xdr.specs.Format.{read, read_at}
use Rattle.xdr.proofs.Steps.{shifted_zero}
use Rattle.xdr.proofs.Within.{Within, within}
use Rattle.message.specs.Header.{type_of, id_of}
use Rattle.message.specs.Message.{Kind, is_index, is_request, is_response, is_ping, is_pong, is_index_update, is_options, kind_of, Body, MessageValue, message}
use Rattle.message.specs.declared.edition.Edition.{Edition}
use Rattle.message.proofs.MessageNumbers.{message_refused}
use Rattle.message.specs.Answers.{body_answer, message_answer, message_in}
use Rattle.feed.specs.Answer.{Answer}
use Rattle.feed.specs.AtOnce.{said, at_once}
use Rattle.feed.specs.Rest.{rest, rest_of, at_goal, stopped}
use Rattle.feed.specs.Sound.{Sound, reached}
use Rattle.feed.specs.Steps.Moves.{Through}
use Rattle.feed_lent.specs.Steps.{end_of}
use Rattle.feed.specs.declared.state.Cursor.{Cursor}
use Rattle.feed.specs.declared.state.Goal.TheVariants as G
use Rattle.feed.specs.declared.state.WordField.TheVariants as F
use Rattle.xdr.specs.declared.answer.Refusal.{Refusal}
use Rattle.feed.proofs.GoalLaws.{rest_goal, refused_is}
use Rattle.feed.proofs.SoundLaws.{come_stopped, come_ended}
use Rattle.feed.proofs.CodeLaws.{bounded_at}
use Rattle.feed.proofs.MoveLaws.{fresh_at, reached_fresh}
use Rattle.feed.proofs.Promise.{starting_rest, once_over}

end_body : (e : Edition) (k : Kind) (id : ℕ) (b : Body e k) (n : ℕ) → end_of (body_answer e k id (taken b n)) ≡ Ok (Some n)
end_body e is_index id b n = refl
end_body e is_request id b n = refl
end_body e is_response id b n = refl
end_body e is_ping id b n = refl
end_body e is_pong id b n = refl
end_body e is_index_update id b n = refl
end_body e is_options id b n = refl

end_said : (e : Edition) (r : Reading (MessageValue e)) → end_of (message_answer e r) ≡ said r
end_said e (taken m n) = end_body e (kind_of (type_of m.0)) (id_of m.0) m.1 n
end_said e (refused k p) = refl

pub end_once : (e : Edition) (s : List ℕ) → end_of (message_in e s) ≡ at_once e s
unfolding read_at
end_once e s = ap (λ (r : Reading (MessageValue e)). end_of (message_answer e r)) (shifted_zero (read (message e) s)) ∙ end_said e (read (message e) s)

ended_within : (e : Edition) (s : List ℕ) (n : ℕ) → at_once e s ≡ Ok (Some n) → n ≤ length s
ended_within e s n h = go (read (message e) s) (within (message e) s) h
  where
    go' : (b : Bool) (k p : ℕ) → cond {A = Answer} b (Ok None) (Err (record { number = k; place = p })) ≡ Ok (Some n) → n ≤ length s
    go' true k p q = cc
    go' false k p q = cc

    go : (r : Reading (MessageValue e)) → Within (length s) r → said r ≡ Ok (Some n) → n ≤ length s
    go (taken m u) w q = let same : u ≡ n = cc in omega arith
    go (refused k p) w q = go' (eqb k 1) k p q

-- a refusal has a number from 2 on
refused_two : (e : Edition) (s : List ℕ) (r : Refusal) → at_once e s ≡ Err r → 2 ≤ r.number
refused_two e s r h = go (read (message e) s) refl h
  where
    two : (b : Bool) (k p : ℕ) → eqb k 1 ≡ b → (k ≡ 0 → ⊥) → cond {A = Answer} b (Ok None) (Err (record { number = k; place = p })) ≡ Err r → 2 ≤ r.number
    two true k p f n q = cc
    two false k p f n q = let same : k ≡ r.number = cc in let one : k ≡ 1 → ⊥ = eqb-false k 1 f in omega (arith, n, one)

    go : (x : Reading (MessageValue e)) → read (message e) s ≡ x → said x ≡ Err r → 2 ≤ r.number
    go (taken m u) f q = cc
    go (refused k p) f q = two (eqb k 1) k p refl (message_refused e s k p f) q

module _ (e : Edition) (st : Cursor) (run : List ℕ) (s : Sound st) (g : st.goal ≡ G.Word (F.Start e)) (z : st.have ≡ 0) where
  at_none : st.place ≡ 0
  at_none = omega (arith, bounded_at st (G.Word (F.Start e)) g s)

  stands_once : (t : List ℕ) → rest st t ≡ at_once e t
  stands_once t = fresh_at st (G.Word (F.Start e)) t g z ∙ ap (λ (p : ℕ). rest_of (G.Word (F.Start e)) p t) at_none ∙ sym (rest_goal (G.Word (F.Start e)) 0 t) ∙ starting_rest e t

  pub once_ended : (n : ℕ) → at_once e run ≡ Ok (Some n) → Through st run (record { state = at_goal G.Ended n; taken = n })
  once_ended n f = record {
    on = λ t.
        stands_once (run ++ t) ∙ once_over e run t (λ w. cc (sym f ∙ w)) ∙ f
        ∙ sym (rest_goal G.Ended n (drop n run ++ t));
    comes =
        let r : reached st + n ≡ n = ap (λ (x : ℕ). x + n) (reached_fresh st z ∙ at_none) ∙ zero-add n in
        rw r (come_ended n);
    within = ended_within e run n f;
    whole = λ w. cc;
  }

  pub once_refused : (r : Refusal) → at_once e run ≡ Err r → Through st run (record { state = stopped r.number r.place; taken = 0 })
  once_refused r f = record {
    on = λ t.
        stands_once (run ++ t) ∙ once_over e run t (λ w. cc (sym f ∙ w)) ∙ f
        ∙ refused_is r.number r.place (run ++ t);
    comes = come_stopped r.number r.place (reached st + 0) (refused_two e run r f);
    within = omega arith;
    whole = λ w. cc;
  }
