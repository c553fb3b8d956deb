-- A Name as the way down to a file from a folder (document 02, §10).
use Rattle.std.specs.Prelude.{◌≡◌, ℕ, ◌≤◌, Bool, true, cond, not, ◌&&◌, ◌||◌, List, [], ◌∷◌, ◌++◌, length, take, drop, ◌==◌, ◌≢◌}
use mathlib.Core.List.{Memᴰ}
use Rattle.xdr.specs.Format.{AllOf}
use Rattle.order.specs.Order.{is_equal, compare_lists}

-- the parts that lie between the slashes (2F), where the first has begun with some bytes
abbrev pub parts_from : (begun : List ℕ) → List ℕ → List (List ℕ)
parts_from p [] = p ∷ []
parts_from p (b ∷ l) = cond (b == 47) (p ∷ parts_from [] l) (parts_from (p ++ (b ∷ [])) l)

-- the parts of a name
abbrev pub parts : List ℕ → List (List ℕ)
parts l = parts_from [] l

-- `.`, by which a folder calls itself
abbrev pub dot : List ℕ
dot = 46 ∷ []

-- `..`, by which it calls the folder above it
abbrev pub dots : List ℕ
dots = 46 ∷ 46 ∷ []

-- a part is exactly this
abbrev pub is_exactly : List ℕ → List ℕ → Bool
is_exactly q p = is_equal (compare_lists p q)

-- a part that leads down: not empty, not `.` and not `..`
abbrev pub is_part : List ℕ → Bool
is_part p = not (is_exactly [] p) && not (is_exactly dot p) && not (is_exactly dots p)

-- each part does
abbrev pub are_parts : List (List ℕ) → Bool
are_parts [] = true
are_parts (p ∷ ps) = is_part p && are_parts ps

-- no byte is this one
abbrev pub lacks : ℕ → List ℕ → Bool
lacks k [] = true
lacks k (b ∷ l) = not (b == k) && lacks k l

-- a name that leads down from a folder: all of its parts do, and no byte is zero
unfoldable pub is_path : List ℕ → Bool
is_path l = are_parts (parts l) && lacks 0 l

-- the same by the faults that the request lists, of which a name has none
pub record Faultless (l : List ℕ) : Type 0 where
  pub begins : (b : List ℕ) → l ≢ 47 ∷ b
  pub ends : (a : List ℕ) → l ≢ a ++ (47 ∷ [])
  pub zero_free : (a b : List ℕ) → l ≢ a ++ (0 ∷ b)
  pub apart : (a b : List ℕ) → l ≢ a ++ (47 ∷ 47 ∷ b)
  pub dotless : (p : List ℕ) → Memᴰ p (parts l) → (p ≢ dot) × (p ≢ dots)

-- parts, each behind a slash, one after another
abbrev pub slashed : List (List ℕ) → List ℕ
slashed [] = []
slashed (p ∷ ps) = 47 ∷ (p ++ slashed ps)

-- parts with slashes between them
abbrev pub joined : List (List ℕ) → List ℕ
joined ps = drop 1 (slashed ps)

-- what cutting a name at its slashes gives: parts without a slash that make the name when they are joined
pub record Cut (l : List ℕ) (ps : List (List ℕ)) : Type 0 where
  pub some : 1 ≤ length ps
  pub slash_free : AllOf (λ p. lacks 47 p ≡ true) ps
  pub joins : joined ps ≡ l

-- where a walk from a folder has come: below it, by these names from the top down, or out of it
pub data Spot : Type 0 where
  below : List (List ℕ) → Spot
  out : Spot

-- one down
abbrev pub gone_down : List ℕ → Spot → Spot
gone_down p (below w) = below (w ++ (p ∷ []))
gone_down p out = out

-- one up: out of the folder, if it is there
abbrev pub gone_up : Spot → Spot
gone_up (below []) = out
gone_up (below (q ∷ w)) = below (take (length w) (q ∷ w))
gone_up out = out

-- one part further: an empty one and `.` stay, `..` goes up, any other down
abbrev pub gone_by : List ℕ → Spot → Spot
gone_by p w = cond (is_exactly [] p || is_exactly dot p) w (cond (is_exactly dots p) (gone_up w) (gone_down p w))

-- by some parts, one after another
abbrev pub walked : List (List ℕ) → Spot → Spot
walked [] w = w
walked (p ∷ ps) w = walked ps (gone_by p w)

-- a walk from a folder by a name's parts is below it after each of them, as deep as there were parts, and the parts are where it is
abbrev pub StaysBelow : List ℕ → Type 0
StaysBelow l = (n : ℕ) → walked (take n (parts l)) (below []) ≡ below (take n (parts l))
