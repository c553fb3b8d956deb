-- A pass over the records of a resulting table that notes them: two numbers for each, as far as a table may have so many.
use Prim.Native.Nat.{ℕ, ◌+◌, ◌≤◌, ◌<◌}
use mathlib.Core.List.{List, [], ◌∷◌, ◌++◌, append_assoc, append-nil}
use mathlib.Core.Path.{◌≡◌, refl, sym, ap, ◌∙◌}
use mathlib.Core.Bool.{Bool, true, false, cond}
use native.Mathlib.Omega.{arith}
use borrow.Author.Tests.{le-leb, lt-leb}
use lib.ListN.{length, take, drop, length-append}
use lib.Seq.{take_at, length-take-le}
use Rattle.xdr.specs.Format.{encode}
use Rattle.xdr.specs.Buffer.{over, put, put_count}
use Rattle.record.specs.File.{File, file}
use Rattle.order.specs.Order.{part}
use Rattle.table.specs.Limits.{records_limit}
use Rattle.table.specs.Table.{table_of}
use Rattle.table.specs.Steps.Standing.{bytes_of}
use Rattle.merge.specs.Steps.Next.{step_bytes}
use Rattle.merge.specs.Steps.Notes.{note_of, noted, noted_all, Noted}
use Rattle.merge.specs.declared.next.Pick.{Pick}
use Rattle.merge.proofs.NoteLaws.{noted_by, put_within, put_length, put_fits, count_fits, noted_append}

-- the records so far are noted, as long as there were few enough, and the rest is to come
pub record Noting (a b : List ℕ) (all rest : List File) (notes : List ℕ) (count at : ℕ) : Type 0 where
  pub long : length notes ≡ 1024
  pub inside : at ≤ 1024
  pub even : count ≤ records_limit → at ≡ count + count
  pub follows : count ≤ records_limit → noted_all a b (take at notes) ++ bytes_of rest ≡ bytes_of all

pub noting_none : (a b : List ℕ) (all : List File) (notes : List ℕ) → length notes ≡ 1024 → Noting a b all all notes 0 0
unfolding noted_all
noting_none a b all notes e = record { long = e; inside = omega arith; even = λ h. refl; follows = λ h. refl }

-- a note is of two numbers, and its bytes are those that were taken
note_length : (s : Pick) → length (note_of s) ≡ 2
note_length s = go s.left
  where
    go : (t : Bool) → length (cond t (s.start ∷ s.end ∷ []) (s.end ∷ s.start ∷ [])) ≡ 2
    go true = refl
    go false = refl

noted_one : (a b : List ℕ) (x y : ℕ) → noted_all a b (x ∷ y ∷ []) ≡ noted a b x y
unfolding noted_all
noted_one a b x y = append-nil (noted a b x y)

note_bytes : (a b : List ℕ) (s : Pick) → s.start < s.end → noted_all a b (note_of s) ≡ step_bytes a b s
note_bytes a b s h = go s.left
  where
    go : (t : Bool) → noted_all a b (cond t (s.start ∷ s.end ∷ []) (s.end ∷ s.start ∷ [])) ≡ part (cond t a b) s.start s.end
    go true = noted_one a b s.start s.end ∙ sym (noted_by a b s.start s.end (le-leb s.start s.end (omega arith)))
    go false = noted_one a b s.end s.start ∙ sym (noted_by a b s.end s.start (lt-leb s.end s.start h))

-- notes up to a place, and one that was put there
front : (notes : List ℕ) (at : ℕ) (l : List ℕ) → at ≤ length notes → take (at + length l) (over notes at l) ≡ take at notes ++ l
front notes at l h =
    let long : length (take at notes ++ l) ≡ at + length l = length-append (take at notes) l ∙ ap (λ (m : ℕ). m + length l) (length-take-le at notes h) in
    ap (take (at + length l)) (sym (append_assoc (take at notes) l (drop (length l) (drop at notes)))) ∙ take_at (take at notes ++ l) (drop (length l) (drop at notes)) (at + length l) long

module _ {a b : List ℕ} {all rest : List File} {notes : List ℕ} {count at : ℕ} (n : Noting a b all rest notes count at) where
  pub noting_all : {bytes : ℕ} → rest ≡ [] → (count ≡ length all) × (bytes ≡ length (table_of all)) → Noted a b notes all (record { count = count; bytes = bytes; noted = at })
  noting_all e m =
      record {
        inside = omega (arith, n.inside, n.long);
        measured = record {
          counted = m.0;
          sized = m.1;
          are = λ h. sym (append-nil (noted_all a b (take at notes))) ∙ ap (λ (l : List File). noted_all a b (take at notes) ++ bytes_of l) (sym e) ∙ n.follows h;
        };
      }

  module _ (s : Pick) {k : ℕ} {o : List ℕ} (q : k ≡ put_count notes at (note_of s)) (p : o ≡ put notes at (note_of s)) where
    pub noting_within : at + k ≤ 1024
    noting_within = put_within notes at (note_of s) 1024 n.inside (omega (arith, n.long)) q

    noting_length : length o ≡ 1024
    noting_length = ap length p ∙ put_length notes at (note_of s) ∙ n.long

    -- there is room for it
    fits : count + 1 ≤ records_limit → at + length (note_of s) ≤ length notes
    fits h = omega (arith, n.long, n.even (omega arith), note_length s)

    counts : count + 1 ≤ records_limit → k ≡ length (note_of s)
    counts h = q ∙ count_fits notes at (note_of s) (fits h)

    noted_more : count + 1 ≤ records_limit → s.start < s.end → noted_all a b (take (at + k) o) ≡ noted_all a b (take at notes) ++ step_bytes a b s
    noted_more h g =
        let room : at ≤ length notes = omega (arith, fits h) in
        ap (λ (l : List ℕ). noted_all a b (take (at + k) l)) (p ∙ put_fits notes at (note_of s) (fits h))
        ∙ ap (λ (m : ℕ). noted_all a b (take (at + m) (over notes at (note_of s)))) (counts h)
        ∙ ap (λ (l : List ℕ). noted_all a b l) (front notes at (note_of s) room)
        ∙ noted_append a b count (take at notes) (note_of s) (length-take-le at notes room ∙ n.even (omega arith))
        ∙ ap (λ (l : List ℕ). noted_all a b (take at notes) ++ l) (note_bytes a b s g)

    pub noting_more : {f : File} {others : List File} → rest ≡ f ∷ others → step_bytes a b s ≡ encode file f → s.start < s.end → Noting a b all others o (count + 1) (at + k)
    noting_more {f} {others} e w g =
        record {
          long = noting_length;
          inside = noting_within;
          even = λ h. omega (arith, n.even (omega arith), counts h, note_length s);
          follows = λ h.
              ap (λ (l : List ℕ). l ++ bytes_of others) (noted_more h g ∙ ap (λ (l : List ℕ). noted_all a b (take at notes) ++ l) w)
              ∙ append_assoc (noted_all a b (take at notes)) (encode file f) (bytes_of others)
              ∙ ap (λ (l : List File). noted_all a b (take at notes) ++ bytes_of l) (sym e)
              ∙ n.follows (omega arith);
        }
