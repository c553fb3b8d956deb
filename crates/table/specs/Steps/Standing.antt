-- Records that stand one after another in some bytes.
use Rattle.std.specs.Prelude.{ℕ, ◌≤◌, List, ◌≡◌, length, drop}
use Rattle.xdr.specs.Format.{encode, encode_all, AllOf, Valid}
use Rattle.record.specs.File.{File, file}

-- the bytes of records, one after another
abbrev pub bytes_of : List File → List ℕ
bytes_of fs = encode_all (λ f. encode file f) fs

-- all of them keep the reading rules
abbrev pub AllValid : List File → Type 0
AllValid fs = AllOf (λ f. Valid file f) fs

-- from a place on, the bytes are those of the records
pub record At (t : List ℕ) (at : ℕ) (fs : List File) : Type 0 where
  pub here : drop at t ≡ bytes_of fs
  pub inside : at ≤ length t
  pub valid : AllValid fs
