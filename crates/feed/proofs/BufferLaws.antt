-- The bytes of a word that have come, and bytes that are passed over.
use Rattle.std.specs.Prelude.{Ok, None}
use Prim.Native.Nat.{ℕ, zero, suc, ◌+◌, ◌*◌, ◌/◌, ◌%◌, ◌≤◌, ◌<◌}
use mathlib.Core.List.{List, ◌∷◌, ◌++◌, append_assoc}
use mathlib.Core.Path.{◌≡◌, refl, sym, ap, ◌∙◌}
use mathlib.Core.Bool.{Bool, cond}
use native.Mathlib.Omega.{arith}
use native.Mathlib.Nat.{add_assoc}
use borrow.Author.Tests.{le-leb, lt-leb}
use lib.ListN.{length, drop, length-append}
use lib.Seq.{drop-append-add}
use native.Mathlib.Decide.{dec_le}
use lib.Dec.{leb}
use Rattle.xdr.specs.Number.{big_endian}
use Rattle.feed.specs.Onward.{Rest, skipping}
use Rattle.feed.specs.Rest.{buffered}

pub length_buffered : (c v : ℕ) → length (buffered c v) ≡ c
length_buffered zero v = refl
length_buffered (suc c) v = let e : length (buffered c (v / 256)) ≡ c = length_buffered c (v / 256) in simp length-append (omega arith)

-- one byte more
pub buffered_more : (c v b : ℕ) (t : List ℕ) → b < 256 → buffered c v ++ (b ∷ t) ≡ buffered (suc c) (v * 256 + b) ++ t
buffered_more c v b t h =
    let high : (v * 256 + b) / 256 ≡ v = omega arith in
    let low : (v * 256 + b) % 256 ≡ b = omega arith in
    simp (high, low, append_assoc)

-- the fourth
pub buffered_word : (v b : ℕ) (t : List ℕ) → v < 16777216 → big_endian 4 (buffered 3 v ++ (b ∷ t)) ≡ v * 256 + b
buffered_word v b t h = omega arith

pub buffered_drop : (v b : ℕ) (t : List ℕ) → drop 4 (buffered 3 v ++ (b ∷ t)) ≡ t
buffered_drop v b t = refl

pub leb_shift : (m a b : ℕ) → leb (m + a) (m + b) ≡ leb a b
leb_shift m a b = go (dec_le a b)
  where
    go : Dec (a ≤ b) → leb (m + a) (m + b) ≡ leb a b
    go (yes h) = le-leb (m + a) (m + b) (omega arith) ∙ sym (le-leb a b h)
    go (no h) = lt-leb (m + a) (m + b) (omega arith) ∙ sym (lt-leb a b (omega arith))

-- some of the bytes that are passed over
pub skipping_more : (n m : ℕ) (k : Rest) (at : ℕ) (p t : List ℕ) → length p ≡ m → skipping (m + n) k at (p ++ t) ≡ skipping n k (at + m) t
skipping_more n m k at p t e =
    ap (λ (x : ℕ). cond (leb (m + n) x) (k (at + (m + n)) (drop (m + n) (p ++ t))) (Ok None)) (length-append p t ∙ ap (λ (x : ℕ). x + length t) e)
    ∙ ap (λ (x : List ℕ). cond (leb (m + n) (m + length t)) (k (at + (m + n)) x) (Ok None)) (ap (λ (x : ℕ). drop (x + n) (p ++ t)) (sym e) ∙ drop-append-add p t n)
    ∙ ap (λ (x : ℕ). cond (leb (m + n) (m + length t)) (k x (drop n t)) (Ok None)) (sym (add_assoc at m n))
    ∙ ap (λ (x : Bool). cond x (k (at + m + n) (drop n t)) (Ok None)) (leb_shift m n (length t))
