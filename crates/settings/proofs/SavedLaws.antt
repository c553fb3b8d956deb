-- What saved settings say when they are read again.
use Prim.Native.Nat.{ℕ, zero, suc, ◌+◌, ◌*◌, ◌/◌, ◌%◌, ◌≤◌, ◌<◌}
use mathlib.Core.List.{List, [], ◌∷◌, ◌++◌, append_assoc, append-nil}
use mathlib.Core.Path.{◌≡◌, refl, sym, ap, ◌∙◌}
use mathlib.Core.Bool.{Bool, true, false, cond}
use native.Mathlib.Omega.{arith}
use native.Mathlib.Nat.{zero-add}
use borrow.Author.Tests.{eqb-true, eq-eqb}
use lib.ListN.{length, take, drop, length-append}
use lib.Seq.{take_at, drop_at}
use lib.Dec.{eqb}
use Rattle.std.specs.Prelude.{Some, None}
use Rattle.std.specs.declared.option.Option.{Option}
use Rattle.xdr.specs.Reading.{taken, refused}
use Rattle.xdr.specs.Number.{digits}
use Rattle.settings.specs.Field.{field, size_of, contents_of, fault}
use Rattle.settings.specs.Reading.{none, with_field, read_from, reading}
use Rattle.settings.specs.Saving.{Setting, of_number, setting_bytes, fields_of, tagged, own_bytes}
use Rattle.settings.specs.Steps.{end_answer}
use Rattle.settings.specs.Promised.{of_span, Says}
use Rattle.settings.specs.declared.answer.Settings.{Settings}
use Rattle.settings.proofs.FieldLaws.{no_fault, fault_contents, with_above}
use Rattle.settings.proofs.SettingLaws.{so_after, least_of, so_of, least_own, own_read, own_alone, past_right, carried_all, ordered}
use Rattle.settings.proofs.SavingLaws.{Accepted}

-- carried fields that are read where fewer tags are in order read the same where more are
lower : (l : List ℕ) (least less at : ℕ) (so : Settings) {last : Settings} {m : ℕ} → less ≤ least → read_from l 0 least at so ≡ taken last m → read_from l 0 less at so ≡ taken last m
unfolding read_from
lower [] least less at so h e = e
lower (b ∷ l) least less at so {last} {m} h e = go (eqb (fault least b l) 0) refl e
  where
    go : (d : Bool) → eqb (fault least b l) 0 ≡ d → cond d (read_from l (2 + size_of l) (suc b) (suc at) (with_field so (at + 3) b (contents_of l))) (refused (fault least b l) at) ≡ taken last m
        → cond (eqb (fault less b l) 0) (read_from l (2 + size_of l) (suc b) (suc at) (with_field so (at + 3) b (contents_of l))) (refused (fault less b l) at) ≡ taken last m
    go true q f =
        let g = no_fault least b l (eqb-true (fault least b l) 0 q) in
        let z : fault less b l ≡ 0 = sym (fault_contents less b l g.0 (omega (arith, g.1))) ∙ g.2 in
        simp (eq-eqb (fault less b l) 0 z) f
    go false q f = cc

-- they change no settings
unchanged : (l : List ℕ) (skip least at : ℕ) (so : Settings) {last : Settings} {m : ℕ} → 129 ≤ least → read_from l skip least at so ≡ taken last m → last ≡ so
unfolding read_from
unchanged [] skip least at so h e = cc
unchanged (b ∷ l) (suc skip) least at so h e = unchanged l skip least (suc at) so h e
unchanged (b ∷ l) zero least at so {last} {m} h e =
    go (eqb (fault least b l) 0) refl e (λ k f. unchanged l (2 + size_of l) (suc b) (suc at) (with_field so (at + 3) b (contents_of l)) k f)
  where
    go : (d : Bool) → eqb (fault least b l) 0 ≡ d → cond d (read_from l (2 + size_of l) (suc b) (suc at) (with_field so (at + 3) b (contents_of l))) (refused (fault least b l) at) ≡ taken last m
        → (129 ≤ suc b → read_from l (2 + size_of l) (suc b) (suc at) (with_field so (at + 3) b (contents_of l)) ≡ taken last m → last ≡ with_field so (at + 3) b (contents_of l)) → last ≡ so
    go true q f k =
        let g = no_fault least b l (eqb-true (fault least b l) 0 q) in
        let high : 128 < b = omega (arith, g.1) in
        k (omega arith) f ∙ sym (with_above so (at + 3) b (contents_of l) high)
    go false q f k = cc

-- what each setting adds
module _ (so : Settings) (start : ℕ) where
  window_is : (w : Option ℕ) → so.window ≡ None → (so_after so start 1 (of_number 1 w)).window ≡ w
  unfolding with_field
  window_is None e = e
  window_is (Some k) e =
      let same : k / 1 * 1 + 0 ≡ k = omega arith in
      ap Some same

  allowance_is : (a : Option ℕ) → so.allowance ≡ None → (so_after so start 2 (of_number 4 a)).allowance ≡ a
  unfolding with_field
  allowance_is None e = e
  allowance_is (Some k) e =
      let same : k / 16777216 * 16777216 + (k % 16777216 / 65536 * 65536 + (k % 16777216 % 65536 / 256 * 256 + (k % 16777216 % 65536 % 256 / 1 * 1 + 0))) ≡ k = omega arith in
      ap Some same

  repository_is : (s : List ℕ) (x : Setting) → so.repository ≡ None → ((l : List ℕ) → x ≡ Some l → take (length l) (drop start s) ≡ l)
      → of_span s (so_after so start 3 x).repository ≡ x
  unfolding with_field
  repository_is s None e f = ap (of_span s) e
  repository_is s (Some l) e f = ap Some (f l refl)

  note_is : (s : List ℕ) (x : Setting) → so.note ≡ None → ((l : List ℕ) → x ≡ Some l → take (length l) (drop start s) ≡ l)
      → of_span s (so_after so start 128 x).note ≡ x
  unfolding with_field
  note_is s None e f = ap (of_span s) e
  note_is s (Some l) e f = ap Some (f l refl)

  -- and what it leaves as it was
  kept_1 : (x : Setting) → ((so_after so start 1 x).allowance ≡ so.allowance) × ((so_after so start 1 x).repository ≡ so.repository) × ((so_after so start 1 x).note ≡ so.note)
  unfolding with_field
  kept_1 None = (refl, refl, refl)
  kept_1 (Some l) = (refl, refl, refl)

  kept_2 : (x : Setting) → ((so_after so start 2 x).window ≡ so.window) × ((so_after so start 2 x).repository ≡ so.repository) × ((so_after so start 2 x).note ≡ so.note)
  unfolding with_field
  kept_2 None = (refl, refl, refl)
  kept_2 (Some l) = (refl, refl, refl)

  kept_3 : (x : Setting) → ((so_after so start 3 x).window ≡ so.window) × ((so_after so start 3 x).allowance ≡ so.allowance) × ((so_after so start 3 x).note ≡ so.note)
  unfolding with_field
  kept_3 None = (refl, refl, refl)
  kept_3 (Some l) = (refl, refl, refl)

  kept_4 : (x : Setting) → ((so_after so start 128 x).window ≡ so.window) × ((so_after so start 128 x).allowance ≡ so.allowance) × ((so_after so start 128 x).repository ≡ so.repository)
  unfolding with_field
  kept_4 None = (refl, refl, refl)
  kept_4 (Some l) = (refl, refl, refl)

-- the contents of a field in the midst of other bytes
in_midst : (p q : List ℕ) (tag : ℕ) (l : List ℕ) (at : ℕ) → length p ≡ at → take (length l) (drop (at + 3) (p ++ (field tag l ++ q))) ≡ l
in_midst p q tag l at e =
    let split : p ++ (field tag l ++ q) ≡ (p ++ (tag ∷ digits 2 (length l))) ++ (l ++ q) = regroup (tag ∷ digits 2 (length l)) in
    let long : length (p ++ (tag ∷ digits 2 (length l))) ≡ at + 3 = length-append p (tag ∷ digits 2 (length l)) ∙ ap (λ (k : ℕ). k + 3) e in
    ap (λ (m : List ℕ). take (length l) (drop (at + 3) m)) split
    ∙ ap (take (length l)) (drop_at (p ++ (tag ∷ digits 2 (length l))) (l ++ q) (at + 3) long)
    ∙ take_at l q (length l) refl
  where
    regroup : (h : List ℕ) → p ++ ((h ++ l) ++ q) ≡ (p ++ h) ++ (l ++ q)
    regroup h = simp append_assoc

-- all of it
module _ (wd al : Option ℕ) (r n : Setting) (l : List ℕ) where
  abbrev w : Setting
  w = of_number 1 wd

  abbrev a : Setting
  a = of_number 4 al

  -- behind each setting: the place, and what the settings say up to there
  abbrev at_one : ℕ
  at_one = 0 + length (setting_bytes 1 w)

  abbrev at_two : ℕ
  at_two = at_one + length (setting_bytes 2 a)

  abbrev at_three : ℕ
  at_three = at_two + length (setting_bytes 3 r)

  abbrev so_one : Settings
  so_one = so_after none 3 1 w

  abbrev so_two : Settings
  so_two = so_after so_one (at_one + 3) 2 a

  abbrev so_three : Settings
  so_three = so_after so_two (at_two + 3) 3 r

  abbrev so_four : Settings
  so_four = so_of (tagged w a r n) 0 none

  abbrev saved : List ℕ
  saved = own_bytes wd al r n ++ l

  says_window : so_four.window ≡ wd
  says_window = (kept_4 so_three (at_three + 3) n).0 ∙ (kept_3 so_two (at_two + 3) r).0 ∙ (kept_2 so_one (at_one + 3) a).0 ∙ window_is none 3 wd refl

  says_allowance : so_four.allowance ≡ al
  says_allowance = (kept_4 so_three (at_three + 3) n).1 ∙ (kept_3 so_two (at_two + 3) r).1 ∙ allowance_is so_one (at_one + 3) al (kept_1 none 3 w).0

  no_repository : so_two.repository ≡ None
  no_repository = (kept_2 so_one (at_one + 3) a).1 ∙ (kept_1 none 3 w).1

  no_note : so_three.note ≡ None
  no_note = (kept_3 so_two (at_two + 3) r).2 ∙ (kept_2 so_one (at_one + 3) a).2 ∙ (kept_1 none 3 w).2

  repository_there : (m : List ℕ) → r ≡ Some m → take (length m) (drop (at_two + 3) saved) ≡ m
  repository_there m h =
      ap (λ (x : Setting). take (length m) (drop (at_two + 3) (fields_of (tagged w a x n) ++ l))) h
      ∙ ap (λ (k : List ℕ). take (length m) (drop (at_two + 3) k)) (regroup (setting_bytes 1 w) (setting_bytes 2 a) (field 3 m) (setting_bytes 128 n))
      ∙ in_midst (setting_bytes 1 w ++ setting_bytes 2 a) (setting_bytes 128 n ++ l) 3 m at_two (simp length-append (omega arith))
    where
      regroup : (x y z v : List ℕ) → (x ++ (y ++ (z ++ (v ++ [])))) ++ l ≡ (x ++ y) ++ (z ++ (v ++ l))
      regroup x y z v = simp (append_assoc, append-nil)

  note_there : (m : List ℕ) → n ≡ Some m → take (length m) (drop (at_three + 3) saved) ≡ m
  note_there m h =
      ap (λ (x : Setting). take (length m) (drop (at_three + 3) (fields_of (tagged w a r x) ++ l))) h
      ∙ ap (λ (k : List ℕ). take (length m) (drop (at_three + 3) k)) (regroup (setting_bytes 1 w) (setting_bytes 2 a) (setting_bytes 3 r) (field 128 m))
      ∙ in_midst (setting_bytes 1 w ++ setting_bytes 2 a ++ setting_bytes 3 r) l 128 m at_three (simp length-append (omega arith))
    where
      regroup : (x y z v : List ℕ) → (x ++ (y ++ (z ++ (v ++ [])))) ++ l ≡ ((x ++ y) ++ z) ++ (v ++ l)
      regroup x y z v = simp (append_assoc, append-nil)

  says_carried : so_four.carried ≡ length (own_bytes wd al r n)
  says_carried = carried_all (tagged w a r n) 0 0 none (ordered w a r n) refl ∙ zero-add (length (own_bytes wd al r n))

  -- what is accepted reads again
  reads_again : {k : ℕ} → Accepted (own_bytes wd al r n) l k → reading saved ≡ taken so_four (length saved)
  reads_again {k} p =
      let o = past_right (tagged w a r n) 0 0 none (ordered w a r n) (ap end_answer p.own_is) in
      let again = own_alone w a r n o in
      let same : p.so ≡ so_four = cc in
      let carried : read_from l 0 129 (length (own_bytes wd al r n)) so_four ≡ taken p.last (length saved) =
      ap (read_from l 0 129 (length (own_bytes wd al r n))) (sym same) ∙ p.behind_is ∙ ap (taken p.last) p.size in
      own_read w a r n o l
      ∙ lower l 129 (least_of (tagged w a r n) 0) (length (own_bytes wd al r n)) so_four (least_own (tagged w a r n) 0 (ordered w a r n)) carried
      ∙ ap (λ (x : Settings). taken x (length saved)) (unchanged l 0 129 (length (own_bytes wd al r n)) so_four (omega arith) carried)

  pub says : {k : ℕ} → Accepted (own_bytes wd al r n) l k → Says saved wd al r n l
  says p = record {
    settings = so_four;
    reads = reads_again p;
    window = says_window;
    allowance = says_allowance;
    repository = ap (of_span saved) (kept_4 so_three (at_three + 3) n).2 ∙ repository_is so_two (at_two + 3) saved r no_repository repository_there;
    note = note_is so_three (at_three + 3) saved n no_note note_there;
    behind = ap (λ (k : ℕ). drop k saved) says_carried ∙ drop_at (own_bytes wd al r n) l (length (own_bytes wd al r n)) refl;
  }
