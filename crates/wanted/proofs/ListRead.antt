-- What a line shows of an entry is what the request list says of it: an entry's bytes, whatever stands around them, are read as its five numbers.
use Prim.Native.Nat.{ℕ, ◌+◌, ◌<◌, ◌^◌}
use mathlib.Core.List.{List, ◌++◌, append_assoc}
use mathlib.Core.Path.{◌≡◌, refl}
use native.Mathlib.Omega.{arith}
use lib.ListN.{length, length-append}
use lib.Seq.{drop-append_seam}
use Rattle.xdr.specs.Format.{Format, encode, read_at, Valid}
use Rattle.xdr.specs.Fields.{word, hyper}
use Rattle.xdr.proofs.RoundTrip.{round}
use Rattle.xdr.proofs.NumberLaws.{length_digits}
use Rattle.want.specs.Wanted.{wanted_bytes}
use Rattle.want.specs.declared.list.Wanted.{Wanted}
use Rattle.wanted.specs.Entry.{value_at, entry_from}
use Rattle.wanted.specs.declared.entry.Entry.{Entry}
use Rattle.wanted.proofs.EntryLaws.{fields_read}

-- a number that stands behind other bytes is read as itself
value_back : (F : Format ℕ) (n : ℕ) (q t s : List ℕ) (k : ℕ) → q ++ (encode F n ++ t) ≡ s → length q ≡ k → Valid F n → n ≡ value_at F s k
unfolding read_at
value_back F n q t s k e l v = rw (← e, ← l, drop-append_seam q (encode F n ++ t), round F n t v) refl

word_bytes : (n : ℕ) → length (encode word n) ≡ 4
unfolding encode
word_bytes n = length_digits 4 n

hyper_bytes : (n : ℕ) → length (encode hyper n) ≡ 8
unfolding encode
hyper_bytes n = length_digits 8 n

-- the numbers of an entry fit their words
pub record Fits (w : Wanted) : Type 0 where
  pub file : w.file < 256 ^ 4
  pub block : w.block < 256 ^ 4
  pub offset : w.offset < 256 ^ 8
  pub size : w.size < 256 ^ 4
  pub peer : w.peer < 256 ^ 4

module _ (w : Wanted) (p t : List ℕ) (fits : Fits w) where
  abbrev a : List ℕ
  a = encode word w.file

  abbrev b : List ℕ
  b = encode word w.block

  abbrev c : List ℕ
  c = encode hyper w.offset

  abbrev d : List ℕ
  d = encode word w.size

  abbrev e : List ℕ
  e = encode word w.peer

  abbrev s : List ℕ
  s = p ++ (wanted_bytes w ++ t)

  pub entry_read : ◌≡◌ {A = Entry} (record { file = w.file; block = w.block; offset = w.offset; size = w.size; peer = w.peer }) (entry_from s (length p))
  unfolding Valid
  entry_read =
      let la : length a ≡ 4 = word_bytes w.file in
      let lb : length b ≡ 4 = word_bytes w.block in
      let lc : length c ≡ 8 = hyper_bytes w.offset in
      let ld : length d ≡ 4 = word_bytes w.size in
      let pa : length (p ++ a) ≡ length p + length a = length-append p a in
      let pb : length (p ++ a ++ b) ≡ length (p ++ a) + length b = length-append (p ++ a) b in
      let pc : length (p ++ a ++ b ++ c) ≡ length (p ++ a ++ b) + length c = length-append (p ++ a ++ b) c in
      let pd : length (p ++ a ++ b ++ c ++ d) ≡ length (p ++ a ++ b ++ c) + length d = length-append (p ++ a ++ b ++ c) d in
      fields_read s (length p)
      (value_back word w.file p (b ++ c ++ d ++ e ++ t) s (length p) (simp append_assoc) refl fits.file)
      (value_back word w.block (p ++ a) (c ++ d ++ e ++ t) s (length p + 4) (simp append_assoc) (omega (arith, la, pa)) fits.block)
      (value_back hyper w.offset (p ++ a ++ b) (d ++ e ++ t) s (length p + 8) (simp append_assoc) (omega (arith, la, lb, pa, pb)) fits.offset)
      (value_back word w.size (p ++ a ++ b ++ c) (e ++ t) s (length p + 16) (simp append_assoc) (omega (arith, la, lb, lc, pa, pb, pc)) fits.size)
      (value_back word w.peer (p ++ a ++ b ++ c ++ d) t s (length p + 20) (simp append_assoc) (omega (arith, la, lb, lc, ld, pa, pb, pc, pd)) fits.peer)
