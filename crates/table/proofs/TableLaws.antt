-- A good table is the bytes of its records, and records within the limits whose names rise make a good table.
use Prim.Native.Nat.{ℕ, ◌+◌, ◌≤◌, ◌<◌}
use mathlib.Core.List.{List, [], ◌∷◌, ◌++◌, append-nil}
use mathlib.Core.Path.{◌≡◌, refl, sym, ap, ◌∙◌}
use mathlib.Core.Bool.{Bool, true, false, ◌&&◌}
use native.Mathlib.Omega.{arith}
use borrow.Author.Tests.{le-leb, lt-leb, leb-true, eq-eqb, eqb-true}
use lib.ListN.{length, length-append}
use lib.Dec.{leb, eqb}
use Rattle.xdr.specs.Reading.{Reading, taken, refused}
use Rattle.xdr.specs.Number.{IsBytes}
use Rattle.xdr.specs.Format.{read, encode, Valid}
use Rattle.xdr.specs.Fields.{word}
use Rattle.xdr.specs.Buffer.{filled, over, put}
use Rattle.xdr.specs.Filling.{gives, refuses}
use Rattle.xdr.proofs.BufferLaws.{filled_next}
use Rattle.xdr.proofs.NumberLaws.{length_digits}
use Rattle.xdr.proofs.RoundTrip.{round}
use Rattle.xdr.proofs.Corollaries.{read_whole}
use Rattle.record.specs.File.{File}
use Rattle.record.specs.Rising.{is_rising, fill_rising, is_rising_array}
use Rattle.table.specs.Limits.{records_limit, bytes_limit}
use Rattle.table.specs.Steps.Standing.{bytes_of, AllValid}
use Rattle.table.specs.Table.{table, is_within, is_good, records_read, records, table_of, resulting_table}
use Rattle.record.proofs.RisingLaws.{and_true, both_true, Rising, rising_is, rising_test}

-- the count, and then the records
pub table_bytes : (fs : List File) → table_of fs ≡ encode word (length fs) ++ bytes_of fs
unfolding table_of encode
table_bytes fs = refl

pub word_bytes : (n : ℕ) → length (encode word n) ≡ 4
unfolding encode
word_bytes n = length_digits 4 n

pub table_length : (fs : List File) → length (table_of fs) ≡ 4 + length (bytes_of fs)
table_length fs = ap length (table_bytes fs) ∙ length-append (encode word (length fs)) (bytes_of fs) ∙ ap (λ (n : ℕ). n + length (bytes_of fs)) (word_bytes (length fs))

-- what makes a table good, beside its size

and_false : (b : Bool) → (b && false) ≡ false
and_false true = refl
and_false false = refl

-- more bytes than a table may have
pub good_long : (t : List ℕ) → bytes_limit < length t → is_good t ≡ false
unfolding is_good
good_long t h = ap (λ (b : Bool). is_rising_array records_limit t && b) (lt-leb (length t) bytes_limit h) ∙ and_false (is_rising_array records_limit t)

-- and no more
pub good_rising : (t : List ℕ) → length t ≤ bytes_limit → is_good t ≡ is_rising_array records_limit t
unfolding is_good
good_rising t h = ap (λ (b : Bool). is_rising_array records_limit t && b) (le-leb (length t) bytes_limit h) ∙ and_true (is_rising_array records_limit t)

-- what a good table is
pub record GoodTable (t : List ℕ) (fs : List File) : Type 0 where
  pub is : t ≡ table_of fs
  pub valid : AllValid fs
  pub few : length fs ≤ records_limit
  pub rising : Rising fs
  pub short : length t ≤ bytes_limit

pub valid_parts : (fs : List File) → Valid table fs → AllValid fs × (length fs ≤ records_limit)
unfolding Valid
valid_parts fs v = (v.1, leb-true (length fs) records_limit v.0.1)

pub good_table : (t : List ℕ) → IsBytes t → is_good t ≡ true → GoodTable t (records t)
unfolding is_good is_rising_array records table_of
good_table t b e = let p = both_true (fill_rising (length t) (read table t)) (leb (length t) bytes_limit) e in go (read table t) refl p.0 p.1
  where
    go : (r : Reading (List File)) → read table t ≡ r → fill_rising (length t) r ≡ true → leb (length t) bytes_limit ≡ true → GoodTable t (records_read r)
    go (taken fs n) q h short =
        let p = both_true (eqb n (length t)) (is_rising fs) h in
        let w = read_whole table t fs b (q ∙ ap (λ (k : ℕ). taken fs k) (eqb-true n (length t) p.0)) in
        let v = valid_parts fs w.1 in
        record { is = w.0; valid = v.0; few = v.1; rising = rising_is fs p.1; short = leb-true (length t) bytes_limit short }
    go (refused k p) q h short = let z : ◌≡◌ {A = ℕ} 0 1 = cc in absurd (omega arith)

valid_table : (fs : List File) → AllValid fs → length fs ≤ records_limit → Valid table fs
unfolding Valid
valid_table fs v h = ((omega arith, le-leb (length fs) records_limit h), v)

table_read : (fs : List File) → AllValid fs → length fs ≤ records_limit → read table (table_of fs) ≡ taken fs (length (table_of fs))
unfolding table_of
table_read fs v h = ap (read table) (sym (append-nil (encode table fs))) ∙ round table fs [] (valid_table fs v h)

-- the records of an array are those that it was made of
pub array_records : (fs : List File) → AllValid fs → length fs ≤ records_limit → records (table_of fs) ≡ fs
unfolding records
array_records fs v h = ap records_read (table_read fs v h)

-- records that make a good table are its records
pub records_of : (t : List ℕ) (fs : List File) → GoodTable t fs → records t ≡ fs
records_of t fs g = ap records g.is ∙ array_records fs g.valid g.few

pub table_good : (t : List ℕ) (fs : List File) → GoodTable t fs → is_good t ≡ true
unfolding is_good is_rising_array
table_good t fs g =
    ap (λ (l : List ℕ). fill_rising (length t) (read table l) && leb (length t) bytes_limit) g.is
    ∙ ap (λ (r : Reading (List File)). fill_rising (length t) r && leb (length t) bytes_limit) (table_read fs g.valid g.few)
    ∙ rw (eq-eqb (length (table_of fs)) (length t) (sym (ap length g.is)), rising_test fs g.rising, le-leb (length t) bytes_limit g.short) refl

-- the empty table is four zero bytes, and no bytes are no table

pub empty_good : is_good (0 ∷ 0 ∷ 0 ∷ 0 ∷ []) ≡ true
unfolding is_good is_rising_array read
empty_good = refl

pub nothing_bad : is_good [] ≡ false
unfolding is_good is_rising_array read
nothing_bad = refl

-- a resulting table: too large, or its bytes, which are the count and the records from place 4 on

pub result_large : (fs : List File) → is_within (length fs) (length (table_of fs)) ≡ false → resulting_table fs ≡ refuses 19 0
result_large fs e = rw e refl

pub result_within : (fs : List File) → is_within (length fs) (length (table_of fs)) ≡ true → resulting_table fs ≡ gives (table_of fs)
result_within fs e = rw e refl

pub table_filled : (out : List ℕ) (fs : List File) {n : ℕ} {o p : List ℕ} → n ≡ length fs → length (table_of fs) ≤ length out
    → o ≡ put out 0 (encode word n) → p ≡ over o 4 (bytes_of fs) → p ≡ filled out (table_of fs)
table_filled out fs {n} {o} {p} e h f g =
    let w : List ℕ = encode word n in
    let long : length w ≡ 4 = word_bytes n in
    let room : length w ≤ length out = omega (arith, table_length fs) in
    let counted : o ≡ filled out w = f ∙ rw (le-leb (0 + length w) (length out) (omega arith)) refl in
    g
    ∙ ap (λ (x : List ℕ). over x 4 (bytes_of fs)) counted
    ∙ ap (λ (k : ℕ). over (filled out w) k (bytes_of fs)) (sym long)
    ∙ filled_next out w (bytes_of fs) room
    ∙ ap (filled out) (ap (λ (k : ℕ). encode word k ++ bytes_of fs) e ∙ sym (table_bytes fs))
