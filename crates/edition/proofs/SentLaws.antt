-- What the extent of a message tells of the message that was read.
use Rattle.std.specs.Prelude.{Ok, Err}
use Rattle.std.specs.declared.result.Result.{Result}
use Prim.Native.Nat.{ℕ}
use mathlib.Core.List.{List}
use mathlib.Core.Path.{◌≡◌, refl, sym, ap, ◌∙◌}
use mathlib.Core.Bool.{Bool, true, false, cond, true≢false}
use Rattle.xdr.specs.Reading.{Reading, taken, refused}
use Rattle.xdr.specs.Format.{read, read_at}
use Rattle.xdr.specs.declared.answer.Refusal.{Refusal}
use Rattle.xdr.proofs.Steps.{shifted_zero}
use Rattle.message.specs.Header.{id_of}
use Rattle.message.specs.Message.{Kind, is_index, is_request, is_response, is_ping, is_pong, is_index_update, is_options, Body, MessageValue, message}
use Rattle.message.specs.Answers.{body_answer, message_answer, message_in}
use Rattle.message.specs.declared.answer.Message.{Message}
use Rattle.message.specs.declared.edition.Edition.{Edition}
use Rattle.edition.specs.Turning.{has_repository, in_both, kind_in}
use Rattle.edition.specs.Steps.{extent_of, ResponseTo, is_options_in}
use Rattle.edition.specs.declared.extent.Extent.{Extent}
use Rattle.edition.specs.declared.extent.Extent.TheVariants as X

-- the extent of a message that was taken goes by its kind
abbrev pub extent_by : (named : Bool) (end : ℕ) → Result Extent Refusal
extent_by true n = Ok (X.Named n)
extent_by false n = Ok (X.Same n)

extent_kind : (e : Edition) (k : Kind) (b : Body e k) (id n : ℕ) → extent_of (body_answer e k id (taken b n)) ≡ extent_by (has_repository k) n
extent_kind e is_index b id n = refl
extent_kind e is_request b id n = refl
extent_kind e is_response b id n = refl
extent_kind e is_ping b id n = refl
extent_kind e is_pong b id n = refl
extent_kind e is_index_update b id n = refl
extent_kind e is_options b id n = refl

options_kind : (e : Edition) (k : Kind) (b : Body e k) (id n : ℕ) → is_options_in (body_answer e k id (taken b n)) ≡ cond (in_both k) false true
options_kind e is_index b id n = refl
options_kind e is_request b id n = refl
options_kind e is_response b id n = refl
options_kind e is_ping b id n = refl
options_kind e is_pong b id n = refl
options_kind e is_index_update b id n = refl
options_kind e is_options b id n = refl

same_extent : (a b : Bool) (n m : ℕ) → extent_by a n ≡ extent_by b m → (a ≡ b) × (n ≡ m)
same_extent true true n m e = (refl, cc)
same_extent true false n m e = cc
same_extent false true n m e = cc
same_extent false false n m e = (refl, cc)

not_refused : (a : Bool) (n : ℕ) {r : Refusal} {P : Type 0} → extent_by a n ≡ Err r → P
not_refused true n e = cc
not_refused false n e = cc

both_kind : (b : Bool) → cond b false true ≡ false → b ≡ true
both_kind true e = refl
both_kind false e = sym e

neither_kind : (b : Bool) → cond b false true ≡ true → b ≡ false
neither_kind true e = sym e
neither_kind false e = refl

-- a message that was read, with its end, and whether it has a Repository in the new edition
pub record Sent (e : Edition) (s : List ℕ) (named : Bool) (end : ℕ) : Type 0 where
  pub value : MessageValue e
  pub reads : read (message e) s ≡ taken value end
  pub kind : has_repository (kind_in value.0) ≡ named

module _ (e : Edition) (s : List ℕ) {m : Result Message Refusal} (a : m ≡ message_in e s) where
  answered : m ≡ message_answer e (read (message e) s)
  unfolding read_at
  answered = a ∙ ap (message_answer e) (shifted_zero (read (message e) s))

  pub sent : {x : Result Extent Refusal} (named : Bool) (end : ℕ) → x ≡ extent_of m → x ≡ extent_by named end → Sent e s named end
  sent {x} named end f g = go (read (message e) s) refl
    where
      told : extent_by named end ≡ extent_of (message_answer e (read (message e) s))
      told = sym g ∙ f ∙ ap extent_of answered

      go : (r : Reading (MessageValue e)) → read (message e) s ≡ r → Sent e s named end
      go (taken v n) q =
          let w = same_extent named (has_repository (kind_in v.0)) end n (told ∙ ap (λ (r : Reading (MessageValue e)). extent_of (message_answer e r)) q ∙ extent_kind e (kind_in v.0) v.1 (id_of v.0) n) in
          record { value = v; reads = q ∙ ap (taken v) (sym w.1); kind = sym w.0 }
      go (refused k p) q = not_refused named end (told ∙ ap (λ (r : Reading (MessageValue e)). extent_of (message_answer e r)) q)

  -- one that was not
  pub unsent : {x : Result Extent Refusal} {r : Refusal} → x ≡ extent_of m → x ≡ Err r → read (message e) s ≡ refused r.number r.place
  unsent {x} {r} f g = go (read (message e) s) refl
    where
      told : extent_of (message_answer e (read (message e) s)) ≡ Err r
      told = ap extent_of (sym answered) ∙ sym f ∙ g

      go : (y : Reading (MessageValue e)) → read (message e) s ≡ y → read (message e) s ≡ refused r.number r.place
      go (taken v n) q =
          not_refused (has_repository (kind_in v.0)) n (sym (extent_kind e (kind_in v.0) v.1 (id_of v.0) n) ∙ ap (λ (y : Reading (MessageValue e)). extent_of (message_answer e y)) (sym q) ∙ told)
      go (refused k p) q =
          let same : ◌≡◌ {A = Result Extent Refusal} (Err (record { number = k; place = p })) (Err r) = ap (λ (y : Reading (MessageValue e)). extent_of (message_answer e y)) (sym q) ∙ told in
          let number : k ≡ r.number = cc in
          let place : p ≡ r.place = cc in
          q ∙ ap (λ (i : ℕ). refused i p) number ∙ ap (λ (i : ℕ). refused r.number i) place

  -- Options, or not
  pub options_sent : is_options_in m ≡ true → (v : MessageValue e) × (n : ℕ) × (read (message e) s ≡ taken v n) × (in_both (kind_in v.0) ≡ false)
  options_sent f = go (read (message e) s) refl
    where
      go : (r : Reading (MessageValue e)) → read (message e) s ≡ r → (v : MessageValue e) × (n : ℕ) × (read (message e) s ≡ taken v n) × (in_both (kind_in v.0) ≡ false)
      go (taken v n) q = (
        v,
        n,
        q,
        neither_kind (in_both (kind_in v.0)) (sym (options_kind e (kind_in v.0) v.1 (id_of v.0) n) ∙ ap (λ (r : Reading (MessageValue e)). is_options_in (message_answer e r)) (sym q) ∙ ap is_options_in (sym answered) ∙ f),
      )
      go (refused k p) q =
          let z : false ≡ true = ap (λ (r : Reading (MessageValue e)). is_options_in (message_answer e r)) (sym q) ∙ ap is_options_in (sym answered) ∙ f in
          absurd (true≢false (sym z))

  pub others_sent : is_options_in m ≡ false → (v : MessageValue e) (n : ℕ) → read (message e) s ≡ taken v n → in_both (kind_in v.0) ≡ true
  others_sent f v n q =
      both_kind (in_both (kind_in v.0)) (sym (options_kind e (kind_in v.0) v.1 (id_of v.0) n) ∙ ap (λ (r : Reading (MessageValue e)). is_options_in (message_answer e r)) (sym q) ∙ ap is_options_in (sym answered) ∙ f)

-- a Response that was read by itself
pub response_sent : (e : Edition) {s : List ℕ} {end : ℕ} → ResponseTo e s end → Sent e s false end
response_sent e {s} {end} h = sent e s (sym h.is) false end refl (ap (λ (n : ℕ). Ok (X.Same n)) h.ends)

pub response_others : (e : Edition) {s : List ℕ} {end : ℕ} → ResponseTo e s end → is_options_in (message_in e s) ≡ false
response_others e h = ap is_options_in h.is
