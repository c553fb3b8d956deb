-- What a buffer holds after one run of bytes was put, and after another one behind it.
use Prim.Native.Nat.{ℕ, ◌+◌, ◌-◌, ◌≤◌, ◌<◌}
use mathlib.Core.List.{List, [], ◌++◌, append_assoc, append-nil}
use mathlib.Core.Path.{◌≡◌, refl, sym, ap, ◌∙◌}
use mathlib.Core.Bool.{Bool, true, false, cond}
use native.Mathlib.Omega.{arith}
use native.Mathlib.Nat.{zero-add}
use borrow.Author.Tests.{le-leb, lt-leb}
use borrow.Rule.Slice.PartMut.{put_mid}
use lib.ListN.{length, take, drop, length-append, length-drop, take-append-drop}
use lib.Seq.{take_at, drop_at, drop-drop, drop-append-le, drop-length, length-take-le}
use Rattle.xdr.specs.Format.{bytes, encode}
use Rattle.xdr.specs.Fields.{word}
use Rattle.xdr.specs.Buffer.{filled, over, has_room, put, put_count, opaque_bytes}

-- a part of the buffer that was lent and came back filled
pub part_filled : (out : List ℕ) (at k : ℕ) (ys l : List ℕ) → length l ≤ k → at + k ≤ length out
    → ys ≡ filled (take k (drop at out)) l → put_mid at k out ys ≡ over out at l
part_filled out at k ys l h r e =
    let d : List ℕ = drop at out in
    let room : length l ≤ length (take k d) = rw (length-take-le k d (simp length-drop (omega arith))) h in
    ap (λ (y : List ℕ). take at out ++ (y ++ drop k d)) e
    ∙ ap (λ (y : List ℕ). take at out ++ y) (append_assoc l (drop (length l) (take k d)) (drop k d)
    ∙ ap (λ (y : List ℕ). l ++ y) (sym (drop-append-le (length l) (take k d) (drop k d) room) ∙ ap (drop (length l)) (take-append-drop k d)))

module _ (out : List ℕ) (at : ℕ) (l : List ℕ) where
  -- bytes, and then bytes right behind them
  pub over_over : (m : List ℕ) → at + length l ≤ length out → over (over out at l) (at + length l) m ≡ over out at (l ++ m)
  over_over m h =
      let p : List ℕ = take at out ++ l in
      let rest : List ℕ = drop (length l) (drop at out) in
      let long : length p ≡ at + length l = length-append (take at out) l ∙ ap (λ (n : ℕ). n + length l) (length-take-le at out (omega arith)) in
      let split : over out at l ≡ p ++ rest = sym (append_assoc (take at out) l rest) in
      let behind : drop (length m) rest ≡ drop (length (l ++ m)) (drop at out) =
      drop-drop (length m) (length l) (drop at out) ∙ ap (λ (n : ℕ). drop n (drop at out)) (sym (length-append l m)) in
      ap (λ (o : List ℕ). take (at + length l) o ++ (m ++ drop (length m) (drop (at + length l) o))) split
      ∙ ap (λ (o : List ℕ). o ++ (m ++ drop (length m) (drop (at + length l) (p ++ rest)))) (take_at p rest (at + length l) long)
      ∙ ap (λ (o : List ℕ). p ++ (m ++ drop (length m) o)) (drop_at p rest (at + length l) long)
      ∙ ap (λ (o : List ℕ). p ++ (m ++ o)) behind
      ∙ append_assoc (take at out) l (m ++ drop (length (l ++ m)) (drop at out))
      ∙ ap (λ (o : List ℕ). take at out ++ o) (sym (append_assoc l m (drop (length (l ++ m)) (drop at out))))

  pub length_over : at + length l ≤ length out → length (over out at l) ≡ length out
  length_over h = simp (length-append, length-drop, length-take-le at out (omega arith)) (omega arith)

-- a filling, and then bytes right behind it
pub filled_next : (out l m : List ℕ) → length l ≤ length out → over (filled out l) (length l) m ≡ filled out (l ++ m)
filled_next out l m h =
    ap (λ (n : ℕ). over (filled out l) n m) (sym (zero-add (length l))) ∙ over_over out 0 l m (rw (zero-add (length l)) h)

pub length_filled : (out l : List ℕ) → length l ≤ length out → length (filled out l) ≡ length out
length_filled out l h = simp (length-append, length-drop) (omega arith)

-- a filling, and then a part behind it that was lent and came back filled
pub filled_behind : (out o l m ys : List ℕ) (at k : ℕ) → length l ≡ at → length m ≤ k → at + k ≤ length out
    → o ≡ filled out l → ys ≡ filled (take k (drop at o)) m → put_mid at k o ys ≡ filled out (l ++ m)
filled_behind out o l m ys at k e h r f y =
    let same : length o ≡ length out = ap length f ∙ length_filled out l (omega arith) in
    part_filled o at k ys m h (omega arith) y
    ∙ ap (λ (u : List ℕ). over u at m) f
    ∙ ap (λ (n : ℕ). over (filled out l) n m) (sym e)
    ∙ filled_next out l m (omega arith)

-- a part that is filled whole
pub filled_whole : (p l : List ℕ) → length l ≡ length p → filled p l ≡ l
filled_whole p l e = ap (λ (n : ℕ). l ++ drop n p) e ∙ rw (drop-length p) (append-nil l)

-- what a put answers and leaves: without room for all of the bytes
pub put_refused : (out : List ℕ) (at : ℕ) (l : List ℕ) → length out < at + length l → (0 ≡ put_count out at l) × (out ≡ put out at l)
put_refused out at l h = (simp (lt-leb (at + length l) (length out) h), simp (lt-leb (at + length l) (length out) h))

-- with no bytes
pub put_nothing : (out : List ℕ) (at : ℕ) → (0 ≡ put_count out at []) × (out ≡ put out at [])
put_nothing out at = go (has_room out at [])
  where
    go : (b : Bool) → (◌≡◌ {A = ℕ} 0 (cond b 0 0)) × (out ≡ cond b (over out at []) out)
    go true = (refl, sym (take-append-drop at out))
    go false = (refl, refl)

-- and where a part that begins at the place came back filled with them
pub put_stored : (out : List ℕ) (at : ℕ) (l ys : List ℕ) (n : ℕ) → at + length l ≤ length out → n ≡ length l
    → ys ≡ filled (take (length out - at) (drop at out)) l → (n ≡ put_count out at l) × (put_mid at (length out - at) out ys ≡ put out at l)
put_stored out at l ys n h e y =
    (simp (le-leb (at + length l) (length out) h) e, part_filled out at (length out - at) ys l (omega arith) (omega arith) y ∙ simp (le-leb (at + length l) (length out) h))

-- an opaque whose length a word holds is put as it is encoded
pub opaque_bytes_lem : (l : List ℕ) → length l ≤ 4294967295 → opaque_bytes l ≡ encode (bytes word) l
opaque_bytes_lem l h = simp (le-leb (length l) 4294967295 h)

-- a buffer that is filled up to a place, and a put right there, where there is room for it
pub record FilledTo (out o l : List ℕ) (at : ℕ) : Type 0 where
  pub fills : o ≡ filled out l
  pub long : length l ≡ at

pub filled_none : (out : List ℕ) → FilledTo out out [] 0
filled_none out = record { fills = refl; long = refl }

module _ {out o l : List ℕ} {at : ℕ} (f : FilledTo out o l at) where
  same_room : at ≤ length out → length o ≡ length out
  same_room h = ap length f.fills ∙ length_filled out l (omega (arith, f.long))

  -- bytes of which there are k
  pub put_next : (m : List ℕ) {k : ℕ} {p : List ℕ} → length m ≡ k → at + k ≤ length out → p ≡ put o at m → FilledTo out p (l ++ m) (at + k)
  put_next m {k} e h q = record {
    fills =
        q ∙ simp (le-leb (at + length m) (length o) (omega (arith, same_room (omega arith))))
        (ap (λ (u : List ℕ). over u at m) f.fills ∙ ap (λ (n : ℕ). over (filled out l) n m) (sym f.long) ∙ filled_next out l m (omega (arith, f.long)));
    long = length-append l m ∙ omega (arith, f.long);
  }

  -- an opaque whose length a word holds: how many bytes it took, and the buffer with it
  pub opaque_count : (s : List ℕ) {r : ℕ} → length s ≤ 4294967295 → at + length (encode (bytes word) s) ≤ length out → r ≡ put_count o at (opaque_bytes s) → r ≡ length (encode (bytes word) s)
  opaque_count s small h q =
      q ∙ ap (put_count o at) (opaque_bytes_lem s small) ∙ simp (le-leb (at + length (encode (bytes word) s)) (length o) (omega (arith, same_room (omega arith))))

  pub opaque_next : (s : List ℕ) {r : ℕ} {p : List ℕ} → length s ≤ 4294967295 → at + length (encode (bytes word) s) ≤ length out → r ≡ put_count o at (opaque_bytes s) → p ≡ put o at (opaque_bytes s)
      → FilledTo out p (l ++ encode (bytes word) s) (at + r)
  opaque_next s small h c q =
      let count = opaque_count s small h c in
      put_next (encode (bytes word) s) (sym count) (omega (arith, count)) (q ∙ ap (put o at) (opaque_bytes_lem s small))
