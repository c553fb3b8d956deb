-- Strings and opaques: read whole, and byte by byte.
use Rattle.std.specs.Prelude.{Ok, None}
use Prim.Native.Nat.{ℕ, suc, ◌+◌, ◌-◌, ◌≤◌, ◌<◌, min}
use mathlib.Core.List.{List, [], ◌∷◌}
use mathlib.Core.Path.{◌≡◌, refl, sym, ap, ◌∙◌}
use mathlib.Core.Bool.{Bool, true, false, cond, not}
use native.Mathlib.Omega.{arith}
use native.Mathlib.Nat.{add-zero, zero-add, min-eq_left}
use native.Mathlib.Decide.{dec_le}
use borrow.Author.Tests.{le-leb, lt-leb}
use lib.ListN.{length, take, drop, length-drop}
use lib.Seq.{drop-drop, length-take-le}
use lib.Dec.{leb, eqb, leb-suc-suc}
use Rattle.xdr.specs.Reading.{taken, refused, shifted, relocated, and_then}
use Rattle.xdr.specs.Number.{big_endian}
use Rattle.xdr.specs.Pad.{padded, zeros_up_to, all_zero}
use Rattle.xdr.specs.Text.{sound_up_to, is_text}
use Rattle.xdr.specs.Format.{pad_of, contents, bytes_place, read}
use Rattle.xdr.specs.Fields.{opaque, text_fault, text}
use Rattle.xdr.proofs.TextRule.{sound_within}
use Rattle.record.specs.Limits.{name_limit}
use Rattle.record.specs.Name.{is_path}
use Rattle.record.specs.File.{name}
use Rattle.feed.specs.AtOnce.{stop}
use Rattle.feed.specs.Onward.{Rest, onward, then_read}
use Rattle.feed.specs.Rest.{scan_after, scanned, fresh, passes, fills, leads, zeros_from, whole_string, contents_from}
use Rattle.feed.specs.Steps.Next.{bad_after}
use Rattle.feed.specs.declared.state.Scan.{Scan}
use Rattle.feed.specs.declared.state.Rule.{Rule}
use Rattle.feed.specs.declared.state.Rule.TheVariants as R
use Rattle.feed.specs.Answer.{Answer}
use Rattle.feed.proofs.OnwardLaws.{onward_checked_at, onward_checked}
use Rattle.feed.proofs.TextLaws.{AsksText, text_is, fault_is}
use Rattle.feed.proofs.PathLaws.{path_is}

-- an opaque whose length word is there, by what its contents are
opaque_read : (limit : ℕ) → (List ℕ → Rest) → (at n : ℕ) → List ℕ → Answer
opaque_read limit k at n u =
    cond (leb n limit)
    (cond (leb (padded n) (length u))
    (cond (all_zero (pad_of n u)) (k (take n u) (at + (4 + padded n)) (drop (padded n) u)) (stop 6 (at + (4 + (n + zeros_up_to (pad_of n u))))))
    (Ok None))
    (stop 5 at)

pub opaque_cases : (c d : Bool) (l : List ℕ) (m p : ℕ) (k : List ℕ → Rest) (at : ℕ) (s : List ℕ)
    → onward (relocated bytes_place (shifted 4 (cond c (cond d (taken l m) (refused 6 p)) (refused 1 0)))) k at s
    ≡ cond c (cond d (k l (at + (4 + m)) (drop m (drop 4 s))) (stop 6 (at + (4 + p)))) (Ok None)
opaque_cases true true l m p k at s = simp drop-drop
opaque_cases true false l m p k at s = refl
opaque_cases false d l m p k at s = refl

onward_opaque : (limit : ℕ) (k : List ℕ → Rest) (at : ℕ) (s : List ℕ) → 4 ≤ length s
    → onward (read (opaque limit) s) k at s ≡ opaque_read limit k at (big_endian 4 s) (drop 4 s)
unfolding read opaque_read
onward_opaque limit k at s h = rw (le-leb 4 (length s) h) (go (big_endian 4 s) (leb (big_endian 4 s) limit))
  where
    go : (n : ℕ) (b : Bool) → onward (relocated bytes_place (and_then (cond b (taken n 4) (refused 5 (min 0 4))) contents s)) k at s
        ≡ cond b
        (cond (leb (padded n) (length (drop 4 s)))
        (cond (all_zero (pad_of n (drop 4 s))) (k (take n (drop 4 s)) (at + (4 + padded n)) (drop (padded n) (drop 4 s))) (stop 6 (at + (4 + (n + zeros_up_to (pad_of n (drop 4 s)))))))
        (Ok None))
        (stop 5 at)
    go n true =
        opaque_cases (leb (padded n) (length (drop 4 s))) (all_zero (pad_of n (drop 4 s))) (take n (drop 4 s)) (padded n) (n + zeros_up_to (pad_of n (drop 4 s))) k at s
    go n false = simp add-zero

-- a string whose length word is there
abbrev pub string_read : Rule → (limit : ℕ) → Rest → (at n : ℕ) → List ℕ → Answer
string_read rule limit k at n u = cond (leb n limit) (contents_from rule k at n 0 n (padded n - n) fresh 0 false u) (stop 5 at)

-- what is asked of the contents, once they are read
ruled : Rule → Rest → ℕ → List ℕ → Rest
ruled R.Opaque k at l at' t = k at' t
ruled R.Text k at l at' t = cond (is_text l) (k at' t) (stop 7 (at + min (text_fault l) (at' - at)))
ruled R.Name k at l at' t =
    cond (is_text l) (cond (leb 1 (length l)) (cond (is_path l) (k at' t) (stop 24 at)) (stop 8 at)) (stop 7 (at + min (text_fault l) (at' - at)))

-- the fault of the text is within the string
fault_place : (at n : ℕ) (l : List ℕ) → length l ≡ n → at + min (text_fault l) (at + (4 + padded n) - at) ≡ at + (4 + sound_up_to l)
fault_place at n l h =
    let size : at + (4 + padded n) - at ≡ 4 + padded n = omega arith in
    let low : sound_up_to l ≤ length l = sound_within l in
    let inside : 4 + sound_up_to l ≤ 4 + padded n = omega arith in
    ap (λ (x : ℕ). at + min (text_fault l) x) size ∙ ap (λ (x : ℕ). at + x) (min-eq_left inside)

-- the text rule: the contents, or the place of the fault
text_cases : (rule : Rule) (h : AsksText rule) (at n : ℕ) (l : List ℕ) (x : Answer) → length l ≡ n
    → cond (is_text l) x (stop 7 (at + min (text_fault l) (at + (4 + padded n) - at))) ≡ cond (eqb (scanned rule fresh 0 l).left 0) x (stop 7 (at + (4 + (scanned rule fresh 0 l).start)))
text_cases rule h at n l x e = go (is_text l) refl ∙ ap (λ (b : Bool). cond b x (stop 7 (at + (4 + (scanned rule fresh 0 l).start)))) (text_is rule h l)
  where
    go : (b : Bool) → is_text l ≡ b → cond b x (stop 7 (at + min (text_fault l) (at + (4 + padded n) - at))) ≡ cond b x (stop 7 (at + (4 + (scanned rule fresh 0 l).start)))
    go true f = refl
    go false f = ap (λ (y : ℕ). stop 7 y) (fault_place at n l e ∙ ap (λ (y : ℕ). at + (4 + y)) (fault_is rule h l f))

ruled_is : (rule : Rule) (k : Rest) (at n : ℕ) (l t : List ℕ) → length l ≡ n
    → ruled rule k at l (at + (4 + padded n)) t
    ≡ cond (passes rule (scanned rule fresh 0 l))
    (cond (fills rule n) (cond (leads rule (scanned rule fresh 0 l)) (k (at + (4 + padded n)) t) (stop 24 at)) (stop 8 at))
    (stop 7 (at + (4 + (scanned rule fresh 0 l).start)))
unfolding ruled
ruled_is R.Opaque k at n l t e = refl
ruled_is R.Text k at n l t e = text_cases R.Text tt at n l (k (at + (4 + padded n)) t) e
ruled_is R.Name k at n l t e =
    ap (λ (x : ℕ). cond (is_text l) (cond (leb 1 x) (cond (is_path l) (k (at + (4 + padded n)) t) (stop 24 at)) (stop 8 at)) (stop 7 (at + min (text_fault l) (at + (4 + padded n) - at)))) e
    ∙ ap (λ (x : Bool). cond (is_text l) (cond (leb 1 n) (cond x (k (at + (4 + padded n)) t) (stop 24 at)) (stop 8 at)) (stop 7 (at + min (text_fault l) (at + (4 + padded n) - at)))) (path_is l)
    ∙ text_cases R.Name tt at n l (cond (leb 1 n) (cond (eqb (scanned R.Name fresh 0 l).part 3) (k (at + (4 + padded n)) t) (stop 24 at)) (stop 8 at)) e

string_is : (rule : Rule) (limit : ℕ) (k : Rest) (at n : ℕ) (u : List ℕ) → opaque_read limit (ruled rule k at) at n u ≡ string_read rule limit k at n u
unfolding opaque_read all_zero
string_is rule limit k at n u = ap (λ (x : Answer). cond (leb n limit) x (stop 5 at)) (go (dec_le (padded n) (length u)))
  where
    all : n + (padded n - n) ≡ padded n
    all = omega arith

    ok : Answer
    ok = ruled rule k at (take n u) (at + (4 + padded n)) (drop (padded n) u)

    go : Dec (padded n ≤ length u)
        → cond (leb (padded n) (length u)) (cond (eqb (zeros_up_to (pad_of n u)) (length (pad_of n u))) ok (stop 6 (at + (4 + (n + zeros_up_to (pad_of n u)))))) (Ok None)
        ≡ contents_from rule k at n 0 n (padded n - n) fresh 0 false u
    go (yes h) =
        let long : length (take n u) ≡ n = length-take-le n u (omega arith) in
        let there : padded n - n ≤ length (drop n u) = rw (length-drop n u) (omega arith) in
        let pad : length (pad_of n u) ≡ padded n - n = length-take-le (padded n - n) (drop n u) there in
        let none : 0 + zeros_up_to (pad_of n u) ≡ zeros_up_to (pad_of n u) = zero-add (zeros_up_to (pad_of n u)) in
        rw (le-leb (padded n) (length u) h, pad)
        (ap (λ (x : Answer). cond (eqb (zeros_up_to (pad_of n u)) (padded n - n)) x (stop 6 (at + (4 + (n + zeros_up_to (pad_of n u)))))) (ruled_is rule k at n (take n u) (drop (padded n) u) long)
        ∙ sym (ap (λ (x : ℕ). cond (leb x (length u)) (whole_string rule k at n (0 + zeros_up_to (pad_of n u)) (scanned rule fresh 0 (take n u)) (drop x u)) (Ok None)) all
        ∙ ap (λ (x : ℕ). cond (leb (padded n) (length u)) (whole_string rule k at n x (scanned rule fresh 0 (take n u)) (drop (padded n) u)) (Ok None)) none
        ∙ ap (λ (x : Bool). cond x (whole_string rule k at n (zeros_up_to (pad_of n u)) (scanned rule fresh 0 (take n u)) (drop (padded n) u)) (Ok None)) (le-leb (padded n) (length u) h)))
    go (no h) =
        let short : length u < n + (padded n - n) = omega arith in
        rw (lt-leb (padded n) (length u) (omega arith), lt-leb (n + (padded n - n)) (length u) short) refl

-- each rule of strings
module _ (limit : ℕ) (k : Rest) (at : ℕ) (s : List ℕ) (h : 4 ≤ length s) where
  pub onward_free : then_read (opaque limit) k at s ≡ string_read R.Opaque limit k at (big_endian 4 s) (drop 4 s)
  unfolding ruled
  onward_free = onward_opaque limit (λ l. k) at s h ∙ string_is R.Opaque limit k at (big_endian 4 s) (drop 4 s)

  pub onward_text : then_read (text limit) k at s ≡ string_read R.Text limit k at (big_endian 4 s) (drop 4 s)
  unfolding ruled
  onward_text =
      onward_checked_at s at (opaque limit) 7 is_text text_fault (λ l. k)
      ∙ onward_opaque limit (λ l at' t. cond (is_text l) (k at' t) (stop 7 (at + min (text_fault l) (at' - at)))) at s h
      ∙ string_is R.Text limit k at (big_endian 4 s) (drop 4 s)

pub onward_name : (k : Rest) (at : ℕ) (s : List ℕ) → 4 ≤ length s → then_read name k at s ≡ string_read R.Name name_limit k at (big_endian 4 s) (drop 4 s)
unfolding ruled
onward_name k at s h =
    onward_checked s at _ 24 is_path (λ l. k)
    ∙ onward_checked s at (text name_limit) 8 (λ l. leb 1 (length l)) (λ l at' t. cond (is_path l) (k at' t) (stop 24 at))
    ∙ onward_checked_at s at (opaque name_limit) 7 is_text text_fault (λ l at' t. cond (leb 1 (length l)) (cond (is_path l) (k at' t) (stop 24 at)) (stop 8 at))
    ∙ onward_opaque name_limit
    (λ l at' t. cond (is_text l) (cond (leb 1 (length l)) (cond (is_path l) (k at' t) (stop 24 at)) (stop 8 at)) (stop 7 (at + min (text_fault l) (at' - at)))) at s h
    ∙ string_is R.Name name_limit k at (big_endian 4 s) (drop 4 s)

-- a byte of the contents, and one of the pad

zeros_byte : (zeros : ℕ) (bad : Bool) (b : ℕ) (l : List ℕ) → zeros_from zeros bad (b ∷ l) ≡ zeros_from (cond (bad_after bad b) zeros (zeros + 1)) (bad_after bad b) l
zeros_byte zeros true b l = refl
zeros_byte zeros false b l = go (eqb b 0)
  where
    go : (c : Bool) → zeros + cond c (suc (zeros_up_to l)) 0 ≡ zeros_from (cond (not c) zeros (zeros + 1)) (not c) l
    go true = omega arith
    go false = add-zero zeros

module _ (rule : Rule) (k : Rest) (place n i z : ℕ) (q : Scan) (zeros : ℕ) (bad : Bool) (b : ℕ) (t : List ℕ) where
  pub contents_byte : (c : ℕ) → contents_from rule k place n i (suc c) z q zeros bad (b ∷ t) ≡ contents_from rule k place n (suc i) c z (scan_after rule q i b) zeros bad t
  contents_byte c =
      let a : suc c + z ≡ suc (c + z) = omega arith in
      ap (λ (x : ℕ). cond (leb x (suc (length t))) (whole_string rule k place n (zeros_from zeros bad (take z (drop c t))) (scanned rule q i (b ∷ take c t)) (drop x (b ∷ t))) (Ok None)) a
      ∙ ap (λ (x : Bool). cond x (whole_string rule k place n (zeros_from zeros bad (take z (drop c t))) (scanned rule q i (b ∷ take c t)) (drop (c + z) t)) (Ok None)) (leb-suc-suc (c + z) (length t))

  pub pad_byte : contents_from rule k place n i 0 (suc z) q zeros bad (b ∷ t) ≡ contents_from rule k place n i 0 z q (cond (bad_after bad b) zeros (zeros + 1)) (bad_after bad b) t
  pad_byte =
      let a : 0 + suc z ≡ suc (0 + z) = omega arith in
      ap (λ (x : ℕ). cond (leb x (suc (length t))) (whole_string rule k place n (zeros_from zeros bad (b ∷ take z t)) q (drop x (b ∷ t))) (Ok None)) a
      ∙ ap (λ (x : Bool). cond x (whole_string rule k place n (zeros_from zeros bad (b ∷ take z t)) q (drop (0 + z) t)) (Ok None)) (leb-suc-suc (0 + z) (length t))
      ∙ ap (λ (x : ℕ). cond (leb (0 + z) (length t)) (whole_string rule k place n x q (drop (0 + z) t)) (Ok None)) (zeros_byte zeros bad b (take z t))

-- nothing is to come any more
pub contents_whole : (rule : Rule) (k : Rest) (place n i : ℕ) (q : Scan) (zeros : ℕ) (bad : Bool) (t : List ℕ)
    → contents_from rule k place n i 0 0 q zeros bad t ≡ whole_string rule k place n zeros q t
contents_whole rule k place n i q zeros bad t =
    rw (le-leb 0 (length t) (omega arith)) (ap (λ (x : ℕ). whole_string rule k place n x q t) (same bad))
  where
    same : (x : Bool) → zeros_from zeros x [] ≡ zeros
    same true = refl
    same false = add-zero zeros

-- fewer than are to come: more is waited for
pub contents_waiting : (rule : Rule) (k : Rest) (place n i c z : ℕ) (q : Scan) (zeros : ℕ) (bad : Bool) (t : List ℕ) → length t < c + z
    → contents_from rule k place n i c z q zeros bad t ≡ Ok None
contents_waiting rule k place n i c z q zeros bad t h = simp (lt-leb (c + z) (length t) h)
