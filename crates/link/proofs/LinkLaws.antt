-- What the checks of a link tell.
use Prim.Native.Nat.{ℕ, zero, suc, ◌-◌, ◌<◌, ◌≤◌}
use native.Mathlib.Omega.{arith}
use mathlib.Core.Path.{◌≡◌, refl, ap}
use mathlib.Core.Bool.{Bool, true, false, cond, ◌&&◌, and-false}
use mathlib.Core.List.{List, [], ◌∷◌}
use lib.ListN.{length, take, drop, get_or}
use lib.Seq.{slice}
use lib.Dec.{leb}
use borrow.Author.Tests.{leb-true, le-leb}
use Rattle.link.specs.Requests.{blank, total, is_consecutive}
use Rattle.link.specs.OneLink.{window_fits, outstanding, shape_fits, is_orderly}
use Rattle.link.specs.Steps.{orderly_bytes}
use Rattle.link.specs.declared.request.Request.{Request}
use Rattle.link.specs.declared.list.Link.{Link}
use Rattle.std.specs.Prelude.{Some, None}
use Rattle.link.proofs.RequestLaws.{both, Passed}

-- a tally

pub tally_done : (q : Link) (i follower sum : ℕ) → i ≤ 0 → shape_fits q ≡ true
    → Passed (slice i q.count q.entries) q.next follower sum → Some sum ≡ orderly_bytes q
unfolding is_orderly
tally_done q zero follower sum z s p = rw (s, p.ordered, p.summed)
tally_done q (suc i) follower sum z s p = absurd (omega arith)

pub tally_shape : (q : Link) → shape_fits q ≡ false → None ≡ orderly_bytes q
unfolding is_orderly
tally_shape q s = rw s

pub tally_not : (q : Link) → is_consecutive (outstanding q) q.next ≡ false → None ≡ orderly_bytes q
unfolding is_orderly
tally_not q e = rw (e, and-false (shape_fits q))

pub shape_count : (q : Link) → shape_fits q ≡ true → q.count ≤ 16
shape_count q s =
    let w : q.window ≤ 16 = leb-true _ _ (both (leb 1 q.window) _ (both (window_fits q.window) _ s).0).1 in
    let n : q.count ≤ q.window = leb-true _ _ (both (leb q.count q.window) _ (both (window_fits q.window) _ s).1).0 in
    omega arith

pub bytes_of : (b : Bool) (m n : ℕ) → Some n ≡ cond b (Some m) None → (b ≡ true) × (n ≡ m)
bytes_of true m n e = (refl, cc)
bytes_of false m n e = cc

pub unsound_of : (b : Bool) (m : ℕ) → None ≡ cond b (Some m) None → b ≡ false
unsound_of true m e = cc
unsound_of false m e = refl

-- what a tally tells
pub tally_bytes : (q : Link) (n : ℕ) → Some n ≡ orderly_bytes q → (is_orderly q ≡ true) × (n ≡ total (outstanding q))
tally_bytes q n e = bytes_of (is_orderly q) (total (outstanding q)) n e

pub tally_unsound : (q : Link) → None ≡ orderly_bytes q → is_orderly q ≡ false
tally_unsound q e = unsound_of (is_orderly q) (total (outstanding q)) e

-- the facts of an orderly link
pub record Orderly (q : Link) : Type 0 where
  pub low : 1 ≤ q.window
  pub high : q.window ≤ 16
  pub held : q.count ≤ q.window
  pub next_id : q.next ≤ 4095
  pub ordered : is_consecutive (outstanding q) q.next ≡ true

pub orderly_facts : (q : Link) → is_orderly q ≡ true → Orderly q
unfolding is_orderly
orderly_facts q o =
    let b = both (shape_fits q) (is_consecutive (outstanding q) q.next) o in
    let w = both (window_fits q.window) (leb q.count q.window && leb q.next 4095) b.0 in
    let v = both (leb 1 q.window) (leb q.window 16) w.0 in
    let n = both (leb q.count q.window) (leb q.next 4095) w.1 in
    record {
      low = leb-true _ _ v.0;
      high = leb-true _ _ v.1;
      held = leb-true _ _ n.0;
      next_id = leb-true _ _ n.1;
      ordered = b.1;
    }

pub orderly_made : (q : Link) → Orderly q → is_orderly q ≡ true
unfolding is_orderly
orderly_made q s = rw (le-leb _ _ s.low, le-leb _ _ s.high, le-leb _ _ s.held, le-leb _ _ s.next_id, s.ordered)

-- the oldest of the outstanding requests
pub oldest : (q : Link) → 0 < length q.entries → 0 < q.count
    → outstanding q ≡ get_or q.entries 0 blank ∷ take (q.count - 1) (drop 1 q.entries)
oldest q l z = go q.count q.entries l z
  where
    go : (n : ℕ) (es : List Request) → 0 < length es → 0 < n → take n es ≡ get_or es 0 blank ∷ take (n - 1) (drop 1 es)
    go zero es l z = absurd (omega arith)
    go (suc n) [] l z = absurd (omega arith)
    go (suc n) (e ∷ es) l z = let p : n ≡ suc n - 1 = omega arith in ap (λ (k : ℕ). e ∷ take k es) p

pub none : (q : Link) → q.count ≡ 0 → outstanding q ≡ []
none q e = ap (λ (k : ℕ). take k q.entries) e
