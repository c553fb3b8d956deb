-- A message is read by reading the body of its kind.
use Prim.Native.Nat.{ℕ}
use mathlib.Core.List.{List}
use mathlib.Core.Path.{◌≡◌, refl, subst, ◌∙◌}
use native.Mathlib.Nat.{add-zero}
use borrow.Author.Tests.{ne_eqb}
use Rattle.xdr.specs.Reading.{Reading, taken, refused, mapped}
use Rattle.xdr.specs.Format.{nothing, read, read_at}
use Rattle.xdr.proofs.Steps.{Reads, answered, both_read}
use Rattle.message.specs.Header.{type_of, id_of, header}
use Rattle.message.specs.Message.{Kind, is_index, is_request, is_response, is_ping, is_pong, is_index_update, is_options, kind_of, Body, body}
use Rattle.message.specs.Answers.{refusal, body_answer, message_answer, message_in}
use Rattle.message.specs.declared.edition.Edition.{Edition}

body_refused : (e : Edition) (k : Kind) (id n p : ℕ) → body_answer e k id (refused n p) ≡ refusal n p
body_refused e is_index id n p = refl
body_refused e is_request id n p = refl
body_refused e is_response id n p = refl
body_refused e is_ping id n p = refl
body_refused e is_pong id n p = refl
body_refused e is_index_update id n p = refl
body_refused e is_options id n p = refl

with_header : (e : Edition) (h : ℕ) (r : Reading (Body e (kind_of (type_of h)))) → body_answer e (kind_of (type_of h)) (id_of h) r ≡ message_answer e (mapped (λ b. (h, b)) r)
with_header e h (taken b next) = refl
with_header e h (refused n p) = body_refused e (kind_of (type_of h)) (id_of h) n p

-- the answer for the body of a kind is the answer for the message whose header names that kind
pub by_kind : (e : Edition) {s : List ℕ} {m h : ℕ} (k : Kind) → kind_of (type_of h) ≡ k → Reads (header e) s 0 (taken h m) → {r : Reading (Body e k)} → Reads (body e k) s m r
    → body_answer e k (id_of h) r ≡ message_in e s
by_kind e {s} {m} {h} k same hd {r} b =
    subst (λ (x : Kind). (q : Reading (Body e x)) → Reads (body e x) s m q → body_answer e x (id_of h) q ≡ message_in e s) same
    (λ q d. with_header e h q ∙ answered (message_answer e) (both_read hd d)) r b

-- the same, for the body as it is read
pub by_body : (e : Edition) {s : List ℕ} {m h : ℕ} (k : Kind) → kind_of (type_of h) ≡ k → Reads (header e) s 0 (taken h m)
    → body_answer e k (id_of h) (read_at (body e k) s m) ≡ message_in e s
by_body e k same hd = by_kind e k same hd (record { is = refl })

-- no bytes are always there
pub nothing_read : (s : List ℕ) (m : ℕ) → Reads nothing s m (taken tt m)
unfolding read read_at
nothing_read s m = record { is = simp add-zero }

-- the last kind, where the type is none of the others
pub kind_rest : (n : ℕ) → (n ≡ 1 → ⊥) → (n ≡ 2 → ⊥) → (n ≡ 3 → ⊥) → (n ≡ 4 → ⊥) → (n ≡ 5 → ⊥) → (n ≡ 6 → ⊥) → kind_of n ≡ is_options
kind_rest n a b c d e f = simp (ne_eqb n 1 a, ne_eqb n 2 b, ne_eqb n 3 c, ne_eqb n 4 d, ne_eqb n 5 e, ne_eqb n 6 f)
