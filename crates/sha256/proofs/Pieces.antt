-- However a message is cut into pieces, its hash value is the same.
use Rattle.std.proofs.Common.{◌≡◌, ℕ, ◌+◌, ◌-◌, ◌%◌, ◌^◌, List, [], ◌∷◌, ◌++◌, length, sym, refl, ap, ◌∙◌, append_assoc, append-nil, arith, length-append, length-take-le, take_at}
use Rattle.sha256.specs.Constants.{H⁰}
use Rattle.sha256.specs.Hash.{padding, hash_blocks, hash_all, hash_value, digest, state_bytes}
use Rattle.sha256.specs.Stream.{rest, pending, kept, begun, continued, ended, continued_all, whole}
use Rattle.sha256.specs.declared.state.State.{State}
use Rattle.sha256.specs.declared.stream.Hasher.{Hasher}
use Rattle.sha256.proofs.BlockLaws.{blank, rest_long, rest_append, left_append, all_append}
use Rattle.sha256.proofs.FinishLaws.{padding_wrapped}

-- the size counts the bytes, or at least those after whole blocks
module _ (s : State) (l : List ℕ) (n : ℕ) (counts : n % 64 ≡ length l % 64) where
  pending_kept : pending (kept s l n) ≡ rest l
  pending_kept = take_at (rest l) (blank (64 - length l % 64)) (n % 2 ^ 64 % 64) (omega (arith, rest_long l))

  continued_kept : (p : List ℕ) → continued (kept s l n) p ≡ kept s (l ++ p) (n + length p)
  unfolding continued
  continued_kept p =
      let size : (n % 2 ^ 64 + length p) % 2 ^ 64 ≡ (n + length p) % 2 ^ 64 = omega arith in
      let left : length (rest l ++ p) % 64 ≡ length (l ++ p) % 64 = left_append l p in
      let state : hash_all (hash_all s l) (rest l ++ p) ≡ hash_all s (l ++ p) = sym (all_append l s p) in
      let tail : rest (rest l ++ p) ≡ rest (l ++ p) = rest_append l p in
      ap (λ (x : List ℕ). kept (hash_all s l) (x ++ p) (n % 2 ^ 64 + length p)) pending_kept
      ∙ cc

-- a piece after another is both in one, for any hasher with a block of tail
pub continued_append : (h : Hasher) (p q : List ℕ) → length h.tail ≡ 64 → continued (continued h p) q ≡ continued h (p ++ q)
unfolding continued
continued_append h p q long =
    let held : length (pending h) ≡ h.size % 64 = length-take-le (h.size % 64) h.tail (omega arith) in
    let sum : h.size + length p + length q ≡ h.size + length (p ++ q) = omega (arith, length-append p q) in
    continued_kept h.state (pending h ++ p) (h.size + length p) (omega (arith, length-append (pending h) p, held)) q
    ∙ ap (λ (x : List ℕ). kept h.state x (h.size + length p + length q)) (append_assoc (pending h) p q)
    ∙ ap (λ (k : ℕ). kept h.state (pending h ++ (p ++ q)) k) sum

-- after a message: its bytes kept, from the initial hash value on
abbrev after : List ℕ → Hasher
after M = kept H⁰ M (length M)

begun_after : begun ≡ after []
unfolding begun hash_blocks
begun_after = refl

continued_after : (M p : List ℕ) → continued (after M) p ≡ after (M ++ p)
continued_after M p = continued_kept H⁰ M (length M) refl p ∙ ap (kept H⁰ (M ++ p)) (sym (length-append M p))

ended_after : (M : List ℕ) → ended (after M) ≡ hash_value M
unfolding ended hash_value
ended_after M =
    ap (λ (x : List ℕ). hash_all (hash_all H⁰ M) (x ++ padding (length M % 2 ^ 64))) (pending_kept H⁰ M (length M) refl)
    ∙ ap (λ (x : List ℕ). hash_all (hash_all H⁰ M) (rest M ++ x)) (padding_wrapped (length M))
    ∙ sym (all_append M H⁰ (padding (length M)))

all_after : (M : List ℕ) (ps : List (List ℕ)) → continued_all (after M) ps ≡ after (M ++ whole ps)
all_after M [] = ap after (sym (append-nil M))
all_after M (p ∷ ps) =
    ap (λ (h : Hasher). continued_all h ps) (continued_after M p)
    ∙ all_after (M ++ p) ps
    ∙ ap after (append_assoc M p (whole ps))

pub however_cut : (ps : List (List ℕ)) → ended (continued_all begun ps) ≡ hash_value (whole ps)
however_cut ps = ap (λ (h : Hasher). ended (continued_all h ps)) begun_after ∙ ap ended (all_after [] ps) ∙ ended_after (whole ps)

-- in one piece
pub in_one : (M : List ℕ) → ended (continued begun M) ≡ hash_value M
in_one M = ap (λ (h : Hasher). ended (continued h M)) begun_after ∙ ap ended (continued_after [] M) ∙ ended_after M

-- and the digest
pub digest_however_cut : (ps : List (List ℕ)) → state_bytes (ended (continued_all begun ps)) ≡ digest (whole ps)
digest_however_cut ps = ap state_bytes (however_cut ps)
