-- Where a string that was read stands.
use Prim.Native.Nat.{ℕ, ◌+◌, ◌≤◌}
use mathlib.Core.List.{List}
use mathlib.Core.Path.{◌≡◌, sym, ap, ◌∙◌}
use mathlib.Core.Bool.{Bool}
use native.Mathlib.Omega.{arith}
use lib.ListN.{length, take, drop}
use Rattle.xdr.specs.Reading.{taken}
use Rattle.xdr.specs.Pad.{padded}
use Rattle.xdr.specs.Format.{bytes, checked}
use Rattle.xdr.specs.Fields.{word}
use Rattle.xdr.proofs.Steps.{Reads, opened, passed, ends_word}

module _ {k : ℕ} {limited : ℕ → Bool} {s : List ℕ} {at : ℕ} {l : List ℕ} {m : ℕ} (h : Reads (bytes (checked k limited word)) s at (taken l m)) where
  -- its contents after its length word
  pub string_there : take (length l) (drop (at + 4) s) ≡ l
  string_there = let o = opened h in sym (o.contents_are ∙ ap (λ (n : ℕ). take (length l) (drop n s)) (ends_word (passed o.size)).0)

  -- and their pad after them
  pub string_ends : m ≡ at + 4 + padded (length l)
  string_ends = let o = opened h in o.ends ∙ ap (λ (n : ℕ). n + padded (length l)) (ends_word (passed o.size)).0

  pub string_within : m ≤ length s
  string_within = let o = opened h in let w = (ends_word (passed o.size)).1 in omega (arith, o.ends, o.room)
