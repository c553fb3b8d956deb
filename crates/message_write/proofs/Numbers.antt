-- Writing a message is never refused with 13, which is for accepting only, nor its fields with 14, which is the room's alone.
use Prim.Native.Nat.{ℕ}
use native.Mathlib.Omega.{arith}
use mathlib.Core.Path.{◌≡◌, refl, ◌∙◌}
use mathlib.Core.Bool.{Bool, true, false, cond}
use mathlib.Core.List.{List}
use lib.Dec.{leb}
use Rattle.xdr.specs.Reading.{Reading, taken, refused}
use Rattle.xdr.specs.Format.{read}
use Rattle.xdr.specs.Filling.{refuses}
use Rattle.message.specs.Limits.{id_limit}
use Rattle.message.specs.Message.{MessageValue, message}
use Rattle.message.specs.declared.edition.Edition.{Edition}
use Rattle.message.proofs.MessageNumbers.{message_number}
use Rattle.message_write.specs.Writing.{message_bytes, as_read, writing}

pub writing_never : (e : Edition) (id type : ℕ) (b : List ℕ) (k p : ℕ) → writing (message e) id type b ≡ refuses k p → (k ≡ 13 → ⊥) × (k ≡ 14 → ⊥)
unfolding writing
writing_never e id type b k p = by_id (leb id id_limit)
  where
    m : List ℕ
    m = message_bytes id type b

    by_reading : (r : Reading (MessageValue e)) → read (message e) m ≡ r → as_read m r ≡ refuses k p → (k ≡ 13 → ⊥) × (k ≡ 14 → ⊥)
    by_reading (taken v u) q w = let z : ◌≡◌ {A = ℕ} 0 1 = cc in absurd (omega arith)
    by_reading (refused a c) q w = let same : a ≡ k = cc in let n = message_number e m a c q in (λ f. n.0 (same ∙ f), λ f. n.1 (same ∙ f))

    by_id : (c : Bool) → cond c (as_read m (read (message e) m)) (refuses 5 0) ≡ refuses k p → (k ≡ 13 → ⊥) × (k ≡ 14 → ⊥)
    by_id true w = by_reading (read (message e) m) refl w
    by_id false w = let same : k ≡ 5 = cc in (λ f. omega arith, λ f. omega arith)
