-- A message hashed in pieces has the digest that it has in one.
use Prim.Native.Nat.{ℕ}
use mathlib.Core.List.{List, [], ◌∷◌, ◌++◌, append_assoc, append-nil}
use mathlib.Core.Path.{◌≡◌, refl, sym, ap, ◌∙◌}
use Rattle.sha256.specs.Hash.{digest, state_bytes}
use Rattle.sha256.specs.Stream.{begun, continued, ended, continued_all, whole}
use Rattle.sha256.specs.declared.stream.Hasher.{Hasher}
use Rattle.sha256.proofs.Pieces.{digest_however_cut}
use Rattle.bep.specs.Hashing.{hasher_of, hasher_words, Keeps}
use Rattle.bep.proofs.HasherLaws.{taken_up_again}
use Rattle.promises.specs.Hashing.{HashCalls, beginning, updating, finished}

-- what a call left is taken up by the next
again : {x : Hasher} {number : ℕ} {words tail : List ℕ} → Keeps x number words tail → hasher_of words tail ≡ x
again {x} {number} {words} {tail} k =
    ap (λ (ws : List ℕ). hasher_of ws tail) k.words_are
    ∙ ap (hasher_of (hasher_words x)) k.tail_is
    ∙ taken_up_again x

-- a piece behind the others

continued_last : (ps : List (List ℕ)) (h : Hasher) (p : List ℕ) → continued_all h (ps ++ (p ∷ [])) ≡ continued (continued_all h ps) p
continued_last [] h p = refl
continued_last (q ∷ ps) h p = continued_last ps (continued h q) p

whole_last : (ps : List (List ℕ)) (p : List ℕ) → whole (ps ++ (p ∷ [])) ≡ whole ps ++ p
whole_last [] p = append-nil p
whole_last (q ∷ ps) p = ap (λ (x : List ℕ). q ++ x) (whole_last ps p) ∙ sym (append_assoc q (whole ps) p)

-- the pieces of some calls
record Cut (bytes words tail : List ℕ) : Type 0 where
  pieces : List (List ℕ)
  all : whole pieces ≡ bytes
  hasher : hasher_of words tail ≡ continued_all begun pieces

cut : {bytes words tail : List ℕ} → HashCalls bytes words tail → Cut bytes words tail
cut (beginning k) = record { pieces = []; all = refl; hasher = again k }
cut (updating p calls k) =
    let c = cut calls in
    record {
      pieces = c.pieces ++ (p ∷ []);
      all = whole_last c.pieces p ∙ ap (λ (x : List ℕ). x ++ p) c.all;
      hasher = again k ∙ ap (λ (x : Hasher). continued x p) c.hasher ∙ sym (continued_last c.pieces begun p);
    }

-- the end of calls fills the digest of all their bytes, which is what bep_sha256 fills for them
pub hashed_in_pieces : {bytes words tail : List ℕ} → HashCalls bytes words tail → finished words tail ≡ digest bytes
hashed_in_pieces calls =
    let c = cut calls in
    ap (λ (x : Hasher). state_bytes (ended x)) c.hasher ∙ digest_however_cut c.pieces ∙ ap digest c.all
