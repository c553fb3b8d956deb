-- A name goes on from the text that it is.
use Rattle.std.proofs.Common.{◌≡◌, ℕ, ◌≤◌, Bool, true, false, cond, leb, List, length, refl, arith, le-leb, leb-true}
use borrow.Author.Tests.{lt-leb}
use Rattle.std.specs.Prelude.{Some, None}
use Rattle.std.specs.declared.option.Option.{Option}
use Rattle.xdr.specs.Reading.{Reading, taken, refused}
use Rattle.xdr.specs.Fields.{opaque, text}
use Rattle.xdr.proofs.Steps.{Reads, passed, checked_refused, checked_failed, checked_passed}
use Rattle.xdr.proofs.Parts.{test_passed}
use Rattle.record.specs.Limits.{name_limit}
use Rattle.record.specs.Name.{is_path}
use Rattle.record.specs.File.{name}
use Rattle.record.specs.Steps.{name_fault}

-- the number that comes of the tests

module _ (l : List ℕ) where
  pub fault_empty : length l ≡ 0 → name_fault l ≡ Some 8
  fault_empty h = rw (lt-leb 1 (length l) (omega arith)) refl

  module _ (some : length l ≡ 0 → ⊥) where
    pub fault_climbing : is_path l ≡ false → name_fault l ≡ Some 24
    fault_climbing p = rw (le-leb 1 (length l) (omega arith), p) refl

    pub fault_none : is_path l ≡ true → name_fault l ≡ None
    fault_none p = rw (le-leb 1 (length l) (omega arith), p) refl

-- and what reading answers by it

pub name_refused : {s : List ℕ} {at k p : ℕ} → Reads (text name_limit) s at (refused k p) → Reads name s at (refused k p)
name_refused h = checked_refused (checked_refused h)

abbrev by_fault : (l : List ℕ) (at m : ℕ) → Option ℕ → Reading (List ℕ)
by_fault l at m None = taken l m
by_fault l at m (Some k) = refused k at

module _ {s : List ℕ} {at : ℕ} {l : List ℕ} {m : ℕ} where
  name_tested : Reads (text name_limit) s at (taken l m) → Reads name s at (by_fault l at m (name_fault l))
  name_tested h = go (leb 1 (length l)) (is_path l) refl refl
    where
      go : (b c : Bool) → leb 1 (length l) ≡ b → is_path l ≡ c → Reads name s at (by_fault l at m (cond b (cond c None (Some 24)) (Some 8)))
      go true true p q = checked_passed (checked_passed h p) q
      go true false p q = checked_failed (checked_passed h p) q
      go false c p q = checked_refused (checked_failed h p)

  pub name_faulty : {k : ℕ} → Reads (text name_limit) s at (taken l m) → name_fault l ≡ Some k → Reads name s at (refused k at)
  name_faulty {k} h e = rw e at (name_tested h)

  pub name_sound : Reads (text name_limit) s at (taken l m) → name_fault l ≡ None → Reads name s at (taken l m)
  name_sound h e = rw e at (name_tested h)

  -- a name that was read: its string, and that it isn't empty

  pub name_string : Reads name s at (taken l m) → Reads (opaque name_limit) s at (taken l m)
  name_string h = passed (passed (passed h))

  pub name_some : Reads name s at (taken l m) → 1 ≤ length l
  name_some h = leb-true 1 (length l) (test_passed (passed h))
