-- The name at a place, and where it goes among others, from the back.
use Rattle.std.specs.Prelude.{Some, None}
use Prim.Native.Nat.{ℕ, zero, suc, ◌+◌, ◌-◌, ◌<◌}
use mathlib.Core.List.{List}
use mathlib.Core.Path.{◌≡◌, refl, sym, ap, ◌∙◌}
use native.Mathlib.Omega.{arith}
use lib.ListN.{length, get_or}
use Rattle.record.specs.Outline.{word_at}
use Rattle.record.proofs.OutlineLaws.{There}
use Rattle.order.specs.Order.{compare_lists, part}
use Rattle.std.specs.declared.cmp.Ordering.{Ordering}
use Rattle.std.specs.declared.cmp.Ordering.TheVariants.{Less, Equal, Greater}
use Rattle.order.proofs.PartLaws.{part_beyond}
use Rattle.accept.specs.Steps.Slots.{name_of, slot_by, slot_of}

-- its length isn't there
pub name_missing : (s : List ℕ) (at : ℕ) → length s < at + 4 → part s (length s) (length s) ≡ name_of s at
unfolding name_of
name_missing s at h = part_beyond s (at + 4) (at + 4 + word_at s at) h

pub name_there : (s : List ℕ) (at : ℕ) {n m : ℕ} {l : List ℕ} → There 4 word_at s at n m → l ≡ part s m (m + n) → l ≡ name_of s at
unfolding name_of
name_there s at {n} {m} t e = e ∙ ap (λ (k : ℕ). part s k (k + n)) t.ends ∙ ap (λ (k : ℕ). part s (at + 4) (at + 4 + k)) t.is

-- one record further to the front
module _ (s places name : List ℕ) where
  turn : (j : ℕ) (o p : Ordering) → 0 < j → o ≡ compare_lists (name_of s (get_or places (j - 1) 0)) name → o ≡ p
      → slot_of s places j name ≡ slot_by p (j - 1) (slot_of s places (j - 1) name)
  unfolding slot_of
  turn zero o p h e f = absurd (omega arith)
  turn (suc k) o p h e f =
      let same : k ≡ suc k - 1 = omega arith in
      ap (λ (i : ℕ). slot_by (compare_lists (name_of s (get_or places i 0)) name) i (slot_of s places i name)) same
      ∙ ap (λ (q : Ordering). slot_by q (suc k - 1) (slot_of s places (suc k - 1) name)) (sym e ∙ f)

  module _ {j : ℕ} {o : Ordering} (h : 0 < j) (e : o ≡ compare_lists (name_of s (get_or places (j - 1) 0)) name) where
    pub slot_behind : o ≡ Less → slot_of s places j name ≡ Some (j - 1 + 1)
    slot_behind f = let same : suc (j - 1) ≡ j - 1 + 1 = omega arith in turn j o Less h e f ∙ ap Some same

    pub slot_repeated : o ≡ Equal → slot_of s places j name ≡ None
    slot_repeated f = turn j o Equal h e f

    pub slot_further : o ≡ Greater → slot_of s places j name ≡ slot_of s places (j - 1) name
    slot_further f = turn j o Greater h e f

  pub slot_first : {j : ℕ} → j ≡ 0 → slot_of s places j name ≡ Some 0
  unfolding slot_of
  slot_first e = rw e refl
