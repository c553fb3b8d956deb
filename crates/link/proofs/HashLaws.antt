-- The hashes beside a link, moved down by one in place.
use Prim.Native.Nat.{ℕ, ◌+◌, ◌-◌, ◌≤◌}
use native.Mathlib.Omega.{arith}
use mathlib.Core.Path.{◌≡◌, sym, ap, ◌∙◌}
use mathlib.Core.List.{List, ◌++◌, append-nil}
use lib.ListN.{length, take, drop, replicate, length-drop, length-append, drop_of_length-le}
use lib.Seq.{paste, take_all, take-append_seam}
use borrow.Rule.Slice.PartMut.{put_mid}
use Rattle.link.specs.Hashes.{without_first}
use Rattle.link.proofs.AskedLaws.{without_first_lem}

last_long : (now : List ℕ) (n : ℕ) → length now ≡ n + 32 → length (take (length now - n) (drop n now)) ≡ 32
last_long now n h =
    let back = length-drop n now in
    ap length (take_all (length now - n) (drop n now) (omega arith)) ∙ omega arith

-- the bytes from 32 on copied to the front, and then zeros put in the last place
pub hashes_moved : (hs now zeros : List ℕ) → 32 ≤ length hs → now ≡ paste hs 0 (drop 32 hs) (length hs - 32)
    → zeros ≡ replicate (length (take (length now - (length hs - 32)) (drop (length hs - 32) now))) 0
    → put_mid (length hs - 32) (length now - (length hs - 32)) now zeros ≡ without_first hs
hashes_moved hs now zeros h e f =
    let n : ℕ = length hs - 32 in
    let front : length (drop 32 hs) ≡ n = length-drop 32 hs in
    let here : 0 + n ≡ n = omega arith in
    let is : now ≡ drop 32 hs ++ drop n hs = e ∙ ap (λ (k : ℕ). take n (drop 32 hs) ++ drop k hs) here ∙ ap (λ (l : List ℕ). l ++ drop n hs) (take_all n (drop 32 hs) (omega (arith, front))) in
    let long : length now ≡ length hs = ap length is ∙ length-append (drop 32 hs) (drop n hs) ∙ omega (arith, front, length-drop n hs) in
    let first : take n now ≡ drop 32 hs = ap (take n) is ∙ ap (λ (k : ℕ). take k (drop 32 hs ++ drop n hs)) (sym front) ∙ take-append_seam (drop 32 hs) (drop n hs) in
    let back : length (drop n now) ≡ 32 = length-drop n now ∙ omega (arith, long) in
    let blank : zeros ≡ replicate 32 0 = f ∙ ap (λ (k : ℕ). replicate k 0) (last_long now n (omega (arith, long))) in
    let last : length now - n ≡ 32 = omega (arith, long) in
    let none : drop (length now - n) (drop n now) ≡ drop 32 (drop n now) = ap (λ (k : ℕ). drop k (drop n now)) last in
    ap (λ (l : List ℕ). l ++ (zeros ++ drop (length now - n) (drop n now))) first
    ∙ ap (λ (l : List ℕ). drop 32 hs ++ (zeros ++ l)) (none ∙ drop_of_length-le (drop n now) {i = 32} (omega (arith, back)))
    ∙ ap (λ (l : List ℕ). drop 32 hs ++ l) (append-nil zeros ∙ blank)
    ∙ sym (without_first_lem hs h)
