-- What reading and saving promise together.
use Prim.Native.Nat.{ℕ, ◌≤◌}
use mathlib.Core.List.{List, [], ◌++◌, append-nil}
use mathlib.Core.Bool.{true}
use mathlib.Core.Path.{◌≡◌, refl, sym, ap, subst, ◌∙◌}
use native.Mathlib.Omega.{arith}
use native.Mathlib.Decide.{dec_le}
use lib.ListN.{length, take, drop, take-append-drop}
use lib.Seq.{drop-length}
use Rattle.std.specs.Prelude.{Ok, Err}
use Rattle.std.specs.declared.option.Option.{Option}
use Rattle.xdr.specs.Reading.{Reading, taken, refused}
use Rattle.xdr.specs.Number.{IsBytes}
use Rattle.xdr.specs.Filling.{gives, refuses}
use Rattle.xdr.specs.declared.answer.Refusal.{Refusal}
use Rattle.xdr.proofs.FillingLaws.{not_given}
use Rattle.settings.specs.Reading.{none, read_from, reading, settings_answer}
use Rattle.settings.specs.Saving.{Setting, of_number, own_bytes, read_on, read_back, as_read, saving_bytes, saving}
use Rattle.settings.specs.Steps.{end_answer}
use Rattle.settings.specs.Promised.{carried_of, saving_again, kept_from, without_carried, WhenRead, WhenRefused, Says, WhenSaved}
use Rattle.settings.specs.declared.answer.Settings.{Settings}
use Rattle.settings.proofs.ReadLaws.{at_end, refused_at}
use Rattle.settings.proofs.SavingLaws.{accepted}
use Rattle.settings.proofs.ToldLaws.{Told, told}
use Rattle.settings.proofs.SavedLaws.{says}
use Rattle.settings.proofs.ResultLaws.{low_first, read_as_one, only_26}

-- bytes that were read: their settings alone, and their carried fields alone
module _ (s : List ℕ) (bytes : IsBytes s) {so : Settings} {n : ℕ} (e : reading s ≡ taken so n) where
  -- up to the carried fields they read to the same settings
  own_alone : reading (take so.carried s) ≡ taken so so.carried
  unfolding read_from
  own_alone =
      let t = (told s bytes e).1 in
      ap reading (sym (append-nil (take so.carried s))) ∙ t.alone []

  -- and these are the bytes without the tags above 128
  own_kept : without_carried s ≡ take so.carried s
  unfolding kept_from
  own_kept = (told s bytes e).1.kept ∙ ap (λ (m : List ℕ). take so.carried s ++ kept_from m 0 true) (drop-length s) ∙ append-nil (take so.carried s)

  carried_alone : read_from (carried_of s so) 0 129 so.carried so ≡ taken so (length s)
  carried_alone = go (told s bytes e)
    where
      end : (least : ℕ) → read_from (drop (length s) s) 0 least (length s) so ≡ taken so (length s)
      end least = at_end s least (length s) so (omega arith)

      go : (top : ℕ) × Told s so top (length s) → read_from (drop so.carried s) 0 129 so.carried so ≡ taken so (length s)
      go w = by (dec_le w.0 128)
        where
          by : Dec (w.0 ≤ 128) → read_from (drop so.carried s) 0 129 so.carried so ≡ taken so (length s)
          by (yes h) = ap (λ (k : ℕ). read_from (drop k s) 0 129 k so) (w.1.before h) ∙ end 129
          by (no h) = w.1.behind (omega arith) so ∙ end w.0

  saves_same : saving_again s so ≡ gives s
  unfolding saving_bytes read_back
  saves_same =
      let t = (told s bytes e).1 in
      ap (λ (o : List ℕ). as_read (o ++ drop so.carried s) (read_on (reading o) (drop so.carried s))) t.own_is
      ∙ ap (λ (x : List ℕ). as_read x (read_on (reading (take so.carried s)) (drop so.carried s))) (take-append-drop so.carried s)
      ∙ ap (λ (x : Reading Settings). as_read s (read_on x (drop so.carried s))) own_alone
      ∙ ap (as_read s) carried_alone

  kept : WhenRead s so
  kept =
      let t = (told s bytes e).1 in
      record {
        saves_same = saves_same;
        same_without = ap reading own_kept ∙ own_alone;
        carried_alone = carried_alone;
        repository_inside = t.repository_in;
        note_inside = t.note_in;
        carried_inside = t.early;
      }

-- WHAT WAS READ SAVES TO THE SAME BYTES, AND GIVES THE SAME SETTINGS WITHOUT ITS TAGS ABOVE 128
pub when_read : (s : List ℕ) → IsBytes s → {so : Settings} → settings_answer (reading s) ≡ Ok so → WhenRead s so
when_read s bytes {so} e = go (reading s) refl e
  where
    go : (x : Reading Settings) → reading s ≡ x → settings_answer x ≡ Ok so → WhenRead s so
    go (taken y n) q f = let same : y ≡ so = cc in kept s bytes (q ∙ ap (λ (z : Settings). taken z n) same)
    go (refused k p) q f = cc

-- WHAT IS REFUSED IS REFUSED WITH 25 OR 26, AMONG THE BYTES
pub when_refused : (s : List ℕ) {r : Refusal} → settings_answer (reading s) ≡ Err r → WhenRefused s r.number r.place
when_refused s {r} e = go (reading s) refl e
  where
    go : (x : Reading Settings) → reading s ≡ x → settings_answer x ≡ Err r → WhenRefused s r.number r.place
    go (taken y n) q f = cc
    go (refused k p) q f =
        let number : k ≡ r.number = cc in
        let place : p ≡ r.place = cc in
        let i = refused_at s 0 0 0 none q in
        record { least = omega (arith, i.0); most = omega (arith, i.1); within = omega (arith, i.2) }

-- settings and carried fields that are saved
module _ (w a : Option ℕ) (r n : Setting) (carried : List ℕ) where
  abbrev own : List ℕ
  own = own_bytes w a r n

  reads_same : (m : List ℕ) → saving w a r n carried ≡ gives m → Says m w a r n carried
  unfolding saving_bytes
  reads_same m e = go (read_back own carried) refl e
    where
      go : (x : Reading Settings) → read_back own carried ≡ x → as_read (own ++ carried) x ≡ gives m → Says m w a r n carried
      go (taken so k) q f =
          let same : own ++ carried ≡ m = cc in
          subst (λ (l : List ℕ). Says l w a r n carried) same (says w a r n carried (accepted own carried {n = k} (ap end_answer q)))
      go (refused k p) q f = not_given f

  -- as its bytes are read apart, so is it saved
  apart : (x : Reading Settings) → read_back own carried ≡ x → saving w a r n carried ≡ as_read (own ++ carried) x
  unfolding saving_bytes
  apart x e = ap (as_read (own ++ carried)) e

  number_26 : (k p : ℕ) → saving w a r n carried ≡ refuses k p → k ≡ 26
  unfolding saving_bytes
  number_26 k p e = go (read_back own carried) refl e
    where
      go : (x : Reading Settings) → read_back own carried ≡ x → as_read (own ++ carried) x ≡ refuses k p → k ≡ 26
      go (taken so m) q f = cc
      go (refused j i) q f = let same : k ≡ j = cc in same ∙ only_26 (of_number 1 w) (of_number 4 a) r n carried q

  -- WHAT IS SAVED READS TO THE SAME SETTINGS AND CARRIED FIELDS; SAVING GIVES WHAT READING THE RESULT WOULD, A CARRIED TAG UP TO 128 BEING 26
  pub when_saved : WhenSaved w a r n carried
  unfolding read_back
  when_saved = record {
    reads_same = reads_same;
    as_result = λ h. apart (reading (own ++ carried)) (read_as_one (of_number 1 w) (of_number 4 a) r n carried h);
    own_refused = λ k p e. apart (refused k p) (ap (λ (x : Reading Settings). read_on x carried) e);
    low_carried = λ b l q h so at e.
        apart (refused 26 at) (ap (λ (x : Reading Settings). read_on x carried) e ∙ ap (λ (m : List ℕ). read_from m 0 129 at so) q ∙ low_first b l at so h);
    only_26 = number_26;
  }
