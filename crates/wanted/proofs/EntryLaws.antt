-- Five numbers that were read are an entry.
use Prim.Native.Nat.{ℕ, ◌+◌}
use mathlib.Core.List.{List}
use mathlib.Core.Path.{◌≡◌, refl}
use native.Mathlib.Omega.{arith}
use Rattle.xdr.specs.Fields.{word, hyper}
use Rattle.wanted.specs.Entry.{value_at, entry_from}
use Rattle.wanted.specs.declared.entry.Entry.{Entry}

pub fields_read : (s : List ℕ) (at : ℕ) {f b o z p : ℕ} → f ≡ value_at word s at → b ≡ value_at word s (at + 4) → o ≡ value_at hyper s (at + 8) → z ≡ value_at word s (at + 16) → p ≡ value_at word s (at + 20)
    → ◌≡◌ {A = Entry} (record { file = f; block = b; offset = o; size = z; peer = p }) (entry_from s at)
fields_read s at f b o z p = rw (f, b, o, z, p) refl
