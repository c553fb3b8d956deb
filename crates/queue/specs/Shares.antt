-- Four shares of one size in a row, for the peers 1 to 4.
use Rattle.std.specs.Prelude.{ℕ, ◌-◌, ◌*◌, List, ◌++◌, take, drop}

-- the share of a peer
abbrev pub share_of : {A : Type 0} → (size : ℕ) → List A → (peer : ℕ) → List A
share_of size l p = take size (drop (size * (p - 1)) l)

-- the same with another share of that peer
abbrev pub with_share : {A : Type 0} → (size : ℕ) → List A → (peer : ℕ) → List A → List A
with_share size l p x = take (size * (p - 1)) l ++ (x ++ drop size (drop (size * (p - 1)) l))
