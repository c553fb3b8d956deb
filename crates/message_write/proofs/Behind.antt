-- A body behind its header, of which a check needs to know only that it has four bytes.
use Prim.Native.Nat.{ℕ, ◌+◌, ◌≤◌}
use mathlib.Core.List.{List, ◌∷◌, ◌++◌, append_assoc}
use mathlib.Core.Path.{◌≡◌, sym, ap, ◌∙◌}
use native.Mathlib.Omega.{arith}
use borrow.Author.Tests.{leb-true}
use lib.ListN.{length, drop, length-append}
use lib.Seq.{drop_at}
use Rattle.xdr.specs.Reading.{Reading, taken, refused, shifted}
use Rattle.xdr.specs.Pad.{padded}
use Rattle.xdr.specs.Format.{Format, bytes, encode, read_at}
use Rattle.xdr.specs.Fields.{word, up_to}
use Rattle.xdr.proofs.EncodedSize.{number_size, bytes_size}
use Rattle.xdr.proofs.Steps.{Reads, part_read_lem, refused_within}
use Rattle.xdr.proofs.Told.{told_same}
use Rattle.message_write.specs.Writing.{piece_bytes}
use Rattle.message_write.specs.Steps.{check_answer, body_check}

abbrev pub behind : List ℕ → List ℕ
behind b = 0 ∷ 0 ∷ 0 ∷ 0 ∷ b

-- the check of a body answers as its reading behind the header
pub checks : {A : Type 0} {F : Format A} {b : List ℕ} {r : Reading A} → Reads F (behind b) 4 r → check_answer r ≡ body_check F b
unfolding body_check read_at
checks h = ap check_answer (sym h.is)

-- what stands last is read there as it is alone
pub last_at : {A : Type 0} {F : Format A} {s : List ℕ} {at : ℕ} {r : Reading A} (p x : List ℕ) → s ≡ p ++ x → length p ≡ at → Reads F x 0 r → Reads F s at (shifted at r)
last_at {F = F} {s = s} {at = at} {r = r} p x e long h =
    part_read_lem {r = r} (rw (ap (drop at) e ∙ drop_at p x at long) h)

-- the bytes of a string or an opaque: its length word, its contents and their pad
pub string_size : (l : List ℕ) → length (encode (bytes word) l) ≡ 4 + padded (length l)
string_size l = bytes_size word l ∙ ap (λ (n : ℕ). n + padded (length l)) (number_size 4 (length l))

-- a string that is refused is refused within its bytes
pub string_refused : {F : Format (List ℕ)} (l : List ℕ) {k p : ℕ} → Reads F (encode (bytes word) l) 0 (refused k p) → p ≤ 4 + padded (length l)
string_refused l h = let w = refused_within (omega arith) h in omega (arith, string_size l)

-- one that is taken has its length within the limit, and takes its bytes
pub string_taken : {limit : ℕ} (l : List ℕ) {m : List ℕ} {n : ℕ} → Reads (bytes (up_to limit)) (encode (bytes word) l) 0 (taken m n) → (n ≡ 4 + padded (length l)) × (length l ≤ limit)
string_taken {limit} l h = let q = told_same l h in (q.1, leb-true (length l) limit q.2)

-- the bytes of a Request: how many they are, and its fields one behind another

pub piece_size : (n : List ℕ) (o s : ℕ) (h : List ℕ)
    → length (piece_bytes n o s h) ≡ length (encode (bytes word) n) + (8 + (4 + length (encode (bytes word) h)))
piece_size n o s h = simp (length-append, number_size 8 o, number_size 4 s)

pub request_size : (r n : List ℕ) (o s : ℕ) (h : List ℕ)
    → length (r ++ piece_bytes n o s h) ≡ length r + (length (encode (bytes word) n) + (8 + (4 + length (encode (bytes word) h))))
request_size r n o s h = length-append r (piece_bytes n o s h) ∙ ap (λ (k : ℕ). length r + k) (piece_size n o s h)

pub request_grouped : (w r n o s h : List ℕ) → ((((w ++ r) ++ n) ++ o) ++ s) ++ h ≡ w ++ (r ++ (n ++ (o ++ (s ++ h))))
request_grouped w r n o s h = simp append_assoc
