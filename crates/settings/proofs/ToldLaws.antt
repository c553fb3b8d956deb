-- What reading has told at each tag, and at the end.
use Prim.Native.Nat.{ℕ, zero, suc, ◌+◌, ◌-◌, ◌≤◌, ◌<◌}
use mathlib.Core.List.{List, [], ◌∷◌, ◌++◌, append_assoc, append-nil}
use mathlib.Core.Path.{◌≡◌, refl, sym, ap, subst, ◌∙◌}
use mathlib.Core.Bool.{Bool, true, false, cond}
use native.Mathlib.Omega.{arith}
use native.Mathlib.Numerals.{add-one}
use native.Mathlib.Nat.{add-zero}
use native.Mathlib.Decide.{dec_le}
use borrow.Author.Tests.{eqb-true, le-leb, lt-leb}
use lib.ListN.{length, take, drop, length-drop, take-append-drop}
use lib.Seq.{drop-drop, take-append-add, length-take-le}
use lib.Dec.{eqb}
use Rattle.std.specs.Prelude.{Some, None}
use Rattle.xdr.specs.Reading.{taken, refused}
use Rattle.xdr.specs.Number.{big_endian, digits, IsBytes}
use Rattle.xdr.proofs.NumberLaws.{digits_read, bytes_drop, number_first}
use Rattle.settings.specs.Field.{field, size_of, contents_of, wrong, fault}
use Rattle.settings.specs.Reading.{none, with_field, read_from, reading}
use Rattle.settings.specs.Saving.{Setting, of_number, setting_bytes, fields_of, tagged, own_bytes}
use Rattle.settings.specs.Promised.{of_span, kept_from, without_carried, Inside}
use Rattle.settings.specs.declared.answer.Settings.{Settings}
use Rattle.settings.proofs.FieldLaws.{window, allowance, repository, note, Kind, own, carried, kind, window_long, allowance_long, no_fault, fault_contents, with_window, with_allowance, with_repository_lem, with_note, with_above}
use Rattle.settings.proofs.ReadLaws.{front_good}
use Rattle.settings.proofs.SettingLaws.{field_good}

-- the settings that were read of some bytes, as saving writes them
abbrev own_of : List ℕ → Settings → List ℕ
own_of s so = own_bytes so.window so.allowance (of_span s so.repository) (of_span s so.note)

-- at a tag: where the least tag that is in order is given, and the settings so far
pub record Told (s : List ℕ) (so : Settings) (least at : ℕ) : Type 0 where
  -- the settings so far are the bytes up to the carried fields
  pub own_is : own_of s so ≡ take so.carried s
  pub early : so.carried ≤ at
  -- up to tag 128 no field was carried, and what has a tag from the least on isn't there
  pub before : least ≤ 128 → so.carried ≡ at
  pub no_window : least ≤ 1 → so.window ≡ None
  pub no_allowance : least ≤ 2 → so.allowance ≡ None
  pub no_repository : least ≤ 3 → so.repository ≡ None
  pub no_note : least ≤ 128 → so.note ≡ None
  pub repository_in : Inside s so.repository
  pub note_in : Inside s so.note
  -- all bytes without their tags above 128 are those bytes, and what is kept from here on
  pub kept : without_carried s ≡ take so.carried s ++ without_carried (drop at s)
  -- those bytes read to the settings so far, whatever follows
  pub low : ℕ
  pub low_least : least ≤ 128 → low ≡ least
  pub alone : (rest : List ℕ) → reading (take so.carried s ++ rest) ≡ read_from rest 0 low so.carried so
  -- and the bytes behind them read as carried fields
  pub behind : 129 ≤ least → (x : Settings) → read_from (drop so.carried s) 0 129 so.carried x ≡ read_from (drop at s) 0 least at x

start : (s : List ℕ) → Told s none 0 0
start s = record {
  own_is = refl;
  early = omega arith;
  before = λ h. refl;
  no_window = λ h. refl;
  no_allowance = λ h. refl;
  no_repository = λ h. refl;
  no_note = λ h. refl;
  repository_in = tt;
  note_in = tt;
  kept = refl;
  low = 0;
  low_least = λ h. refl;
  alone = λ rest. refl;
  behind = λ h x. absurd (omega arith);
}

take_more : (m n : ℕ) (l : List ℕ) → m ≤ length l → take (m + n) l ≡ take m l ++ take n (drop m l)
take_more m n l h =
    ap (λ (k : List ℕ). take (m + n) k) (sym (take-append-drop m l))
    ∙ ap (λ (k : ℕ). take (k + n) (take m l ++ drop m l)) (sym (length-take-le m l h))
    ∙ take-append-add (take m l) (drop m l) n

-- the bytes of a field that are kept, and those that aren't
kept_passed : (skip : ℕ) (l : List ℕ) → skip ≤ length l → kept_from l skip true ≡ take skip l ++ kept_from (drop skip l) 0 true
unfolding kept_from
kept_passed zero l h = refl
kept_passed (suc skip) [] h = refl
kept_passed (suc skip) (b ∷ l) h = ap (λ (m : List ℕ). b ∷ m) (kept_passed skip l (omega arith))

none_passed : (skip : ℕ) (l : List ℕ) → skip ≤ length l → kept_from l skip false ≡ kept_from (drop skip l) 0 true
unfolding kept_from
none_passed zero [] h = refl
none_passed zero (b ∷ l) h = refl
none_passed (suc skip) [] h = refl
none_passed (suc skip) (b ∷ l) h = none_passed skip l (omega arith)

-- a field at a place: its bytes
module _ (s : List ℕ) (at b : ℕ) (l : List ℕ) (split : drop at s ≡ b ∷ l) (bytes : IsBytes s) (whole : 2 + size_of l ≤ length l) where
  tail_is : drop (at + 1) s ≡ l
  tail_is = sym (drop-drop 1 at s) ∙ ap (drop 1) split

  room : at + 3 + size_of l ≤ length s
  room =
      let long : length s - at ≡ suc (length l) = sym (length-drop at s) ∙ ap length split in
      omega arith

  contents_long : length (contents_of l) ≡ size_of l
  contents_long = length-take-le (size_of l) (drop 2 l) (simp length-drop (omega arith))

  contents_at : take (length (contents_of l)) (drop (at + 3) s) ≡ contents_of l
  contents_at =
      let past : at + 1 + 2 ≡ at + 3 = omega arith in
      ap (λ (n : ℕ). take n (drop (at + 3) s)) contents_long
      ∙ ap (take (size_of l)) (ap (λ (n : ℕ). drop n s) (sym past) ∙ sym (drop-drop 2 (at + 1) s) ∙ ap (drop 2) tail_is)

  tail_bytes : IsBytes l
  tail_bytes = subst IsBytes tail_is (bytes_drop (at + 1) s bytes)

  field_is : field b (contents_of l) ≡ take (3 + size_of l) (drop at s)
  field_is =
      let more : 3 + size_of l ≡ suc (2 + size_of l) = omega arith in
      ap (λ (n : ℕ). b ∷ (digits 2 n ++ contents_of l)) contents_long
      ∙ ap (λ (m : List ℕ). b ∷ (m ++ contents_of l)) (digits_read 2 l tail_bytes (omega arith)).0
      ∙ ap (λ (m : List ℕ). b ∷ m) (sym (take_more 2 (size_of l) l (omega arith)))
      ∙ ap (λ (n : ℕ). take n (b ∷ l)) (sym more)
      ∙ ap (take (3 + size_of l)) (sym split)

  next_is : take at s ++ field b (contents_of l) ≡ take (at + 3 + size_of l) s
  next_is =
      let sum : at + (3 + size_of l) ≡ at + 3 + size_of l = omega arith in
      ap (λ (m : List ℕ). take at s ++ m) field_is
      ∙ sym (take_more at (3 + size_of l) s (omega (arith, room)))
      ∙ ap (λ (n : ℕ). take n s) sum

  rest_is : drop (2 + size_of l) l ≡ drop (at + 3 + size_of l) s
  rest_is =
      let sum : at + 1 + (2 + size_of l) ≡ at + 3 + size_of l = omega arith in
      ap (drop (2 + size_of l)) (sym tail_is) ∙ drop-drop (2 + size_of l) (at + 1) s ∙ ap (λ (n : ℕ). drop n s) sum

  -- a number that is all of the contents has them as its bytes
  number_is : (k : ℕ) → length (contents_of l) ≡ k → digits k (big_endian k (contents_of l)) ≡ contents_of l
  number_is k h =
      let size : size_of l ≡ k = sym contents_long ∙ h in
      ap (digits k) (number_first k (size_of l) (drop 2 l) (omega arith))
      ∙ (digits_read k (drop 2 l) (bytes_drop 2 l tail_bytes) (simp length-drop (omega arith))).0
      ∙ ap (λ (n : ℕ). take n (drop 2 l)) (sym size)

  -- what is kept from here on
  kept_own : b ≤ 128 → without_carried (drop at s) ≡ field b (contents_of l) ++ without_carried (drop (at + 3 + size_of l) s)
  unfolding kept_from
  kept_own h =
      let more : 3 + size_of l ≡ suc (2 + size_of l) = omega arith in
      ap without_carried split
      ∙ simp (le-leb b 128 h) (ap (λ (m : List ℕ). b ∷ m) (kept_passed (2 + size_of l) l whole ∙ ap (λ (m : List ℕ). take (2 + size_of l) l ++ kept_from m 0 true) rest_is))
      ∙ ap (λ (m : List ℕ). m ++ without_carried (drop (at + 3 + size_of l) s)) (ap (λ (n : ℕ). take n (b ∷ l)) (sym more) ∙ ap (take (3 + size_of l)) (sym split) ∙ sym field_is)

  kept_none : 128 < b → without_carried (drop at s) ≡ without_carried (drop (at + 3 + size_of l) s)
  unfolding kept_from
  kept_none h = ap without_carried split ∙ simp (lt-leb b 128 h) (none_passed (2 + size_of l) l whole ∙ ap without_carried rest_is)

  module _ {so : Settings} {least : ℕ} (t : Told s so least at) (order : least ≤ b) (right : wrong b (contents_of l) ≡ 0) where
    -- a setting more
    own_step : b ≤ 128 → (so' : Settings) → so' ≡ with_field so (at + 3) b (contents_of l) → so'.carried ≡ at + 3 + length (contents_of l) → own_of s so' ≡ own_of s so ++ field b (contents_of l)
        → (suc b ≤ 2 → so'.allowance ≡ None) → (suc b ≤ 3 → so'.repository ≡ None) → (suc b ≤ 128 → so'.note ≡ None) → (suc b ≤ 1 → so'.window ≡ None)
        → Inside s so'.repository → Inside s so'.note → Told s so' (suc b) (at + 3 + size_of l)
    own_step high so' e c o na nr nn nw ri ni =
        let next : so'.carried ≡ at + 3 + size_of l = c ∙ ap (λ (n : ℕ). at + 3 + n) contents_long in
        let here : so.carried ≡ at = t.before (omega arith) in
        let low : t.low ≡ least = t.low_least (omega arith) in
        record {
          own_is = o ∙ ap (λ (m : List ℕ). m ++ field b (contents_of l)) (t.own_is ∙ ap (λ (n : ℕ). take n s) here) ∙ next_is ∙ ap (λ (n : ℕ). take n s) (sym next);
          early = omega arith;
          before = λ h. next;
          no_window = nw;
          no_allowance = na;
          no_repository = nr;
          no_note = nn;
          repository_in = ri;
          note_in = ni;
          kept =
              t.kept
              ∙ ap (λ (n : ℕ). take n s ++ without_carried (drop at s)) here
              ∙ ap (λ (m : List ℕ). take at s ++ m) (kept_own high)
              ∙ sym (append_assoc (take at s) (field b (contents_of l)) (without_carried (drop (at + 3 + size_of l) s)))
              ∙ ap (λ (m : List ℕ). m ++ without_carried (drop (at + 3 + size_of l) s)) next_is
              ∙ ap (λ (n : ℕ). take n s ++ without_carried (drop (at + 3 + size_of l) s)) (sym next);
          low = suc b;
          low_least = λ h. refl;
          alone = λ rest.
              ap (λ (n : ℕ). reading (take n s ++ rest)) next
              ∙ ap (λ (m : List ℕ). reading (m ++ rest)) (sym next_is)
              ∙ ap reading (append_assoc (take at s) (field b (contents_of l)) rest)
              ∙ ap (λ (n : ℕ). reading (take n s ++ (field b (contents_of l) ++ rest))) (sym here)
              ∙ t.alone (field b (contents_of l) ++ rest)
              ∙ ap (λ (n : ℕ). read_from (field b (contents_of l) ++ rest) 0 n so.carried so) low
              ∙ ap (λ (n : ℕ). read_from (field b (contents_of l) ++ rest) 0 least n so) here
              ∙ field_good b (contents_of l) rest least at so order right
              ∙ ap (λ (n : ℕ). read_from rest 0 (suc b) n (with_field so (at + 3) b (contents_of l))) (sym c)
              ∙ ap (λ (x : Settings). read_from rest 0 (suc b) so'.carried x) (sym e);
          behind = λ h x.
              let last : 129 ≡ suc b = omega arith in
              ap (λ (n : ℕ). read_from (drop n s) 0 129 n x) next ∙ ap (λ (n : ℕ). read_from (drop (at + 3 + size_of l) s) 0 n (at + 3 + size_of l) x) last;
        }

    -- reading on past a carried field changes no settings
    past_carried : (least' : ℕ) → 128 < b → least' ≤ b → (x : Settings) → read_from (drop at s) 0 least' at x ≡ read_from (drop (at + 3 + size_of l) s) 0 (suc b) (at + 3 + size_of l) x
    past_carried least' high h x =
        ap (λ (m : List ℕ). read_from m 0 least' at x) split
        ∙ front_good b l least' at x (sym (fault_contents least' b l whole h) ∙ right) whole
        ∙ ap (λ (m : List ℕ). read_from m 0 (suc b) (at + 3 + size_of l) (with_field x (at + 3) b (contents_of l))) rest_is
        ∙ ap (read_from (drop (at + 3 + size_of l) s) 0 (suc b) (at + 3 + size_of l)) (sym (with_above x (at + 3) b (contents_of l) high))

    carried_step : 128 < b → Told s so (suc b) (at + 3 + size_of l)
    carried_step high = record {
      own_is = t.own_is;
      early = omega (arith, t.early);
      before = λ h. absurd (omega arith);
      no_window = λ h. absurd (omega arith);
      no_allowance = λ h. absurd (omega arith);
      no_repository = λ h. absurd (omega arith);
      no_note = λ h. absurd (omega arith);
      repository_in = t.repository_in;
      note_in = t.note_in;
      kept = t.kept ∙ ap (λ (m : List ℕ). take so.carried s ++ m) (kept_none high);
      low = t.low;
      low_least = λ h. absurd (omega arith);
      alone = t.alone;
      behind = λ h x. go x (dec_le least 128);
    }
      where
        go : (x : Settings) → Dec (least ≤ 128) → read_from (drop so.carried s) 0 129 so.carried x ≡ read_from (drop (at + 3 + size_of l) s) 0 (suc b) (at + 3 + size_of l) x
        go x (yes h) = ap (λ (n : ℕ). read_from (drop n s) 0 129 n x) (t.before h) ∙ past_carried 129 high (omega arith) x
        go x (no h) = t.behind (omega arith) x ∙ past_carried least high order x

-- the bytes of the settings with one more, where those behind it aren't there
module _ (w a r n : Setting) (c : List ℕ) where
  own_window : w ≡ None → a ≡ None → r ≡ None → n ≡ None → fields_of (tagged (Some c) a r n) ≡ fields_of (tagged w a r n) ++ field 1 c
  own_window p q u v = rw (p, q, u, v) (append-nil (field 1 c))

  own_allowance : a ≡ None → r ≡ None → n ≡ None → fields_of (tagged w (Some c) r n) ≡ fields_of (tagged w a r n) ++ field 2 c
  own_allowance q u v = rw (q, u, v) (regroup (setting_bytes 1 w) (field 2 c))
    where
      regroup : (x f : List ℕ) → x ++ (f ++ []) ≡ (x ++ []) ++ f
      regroup x f = simp append-nil

  own_repository_lem : r ≡ None → n ≡ None → fields_of (tagged w a (Some c) n) ≡ fields_of (tagged w a r n) ++ field 3 c
  own_repository_lem u v = rw (u, v) (regroup (setting_bytes 1 w) (setting_bytes 2 a) (field 3 c))
    where
      regroup : (x y f : List ℕ) → x ++ (y ++ (f ++ [])) ≡ (x ++ (y ++ [])) ++ f
      regroup x y f = simp (append-nil, append_assoc)

  own_note : n ≡ None → fields_of (tagged w a r (Some c)) ≡ fields_of (tagged w a r n) ++ field 128 c
  own_note v = rw v (regroup (setting_bytes 1 w) (setting_bytes 2 a) (setting_bytes 3 r) (field 128 c))
    where
      regroup : (x y z f : List ℕ) → x ++ (y ++ (z ++ (f ++ []))) ≡ (x ++ (y ++ (z ++ []))) ++ f
      regroup x y z f = simp (append-nil, append_assoc)

-- one field more
module _ (s : List ℕ) (at b : ℕ) (l : List ℕ) (split : drop at s ≡ b ∷ l) (bytes : IsBytes s) (whole : 2 + size_of l ≤ length l)
    (so : Settings) (least : ℕ) (t : Told s so least at) (order : least ≤ b) (right : wrong b (contents_of l) ≡ 0) where
  abbrev c : List ℕ
  c = contents_of l

  abbrev w : Setting
  w = of_number 1 so.window

  abbrev a : Setting
  a = of_number 4 so.allowance

  abbrev r : Setting
  r = of_span s so.repository

  abbrev n : Setting
  n = of_span s so.note

  inside_next : at + 3 + length c ≤ length s
  inside_next = omega (arith, room s at b l split bytes whole, contents_long s at b l split bytes whole)

  step_window : b ≡ 1 → Told s (with_field so (at + 3) b c) (suc b) (at + 3 + size_of l)
  step_window h =
      let e = with_window so (at + 3) b c {end = at + 3 + length c} refl {n = big_endian 1 c} h refl in
      subst (λ (x : Settings). Told s x (suc b) (at + 3 + size_of l)) e
      (own_step s at b l split bytes whole t order right (omega arith) (record { window = Some (big_endian 1 c); allowance = so.allowance; repository = so.repository; note = so.note; carried = at + 3 + length c }) e refl
      (ap (λ (m : List ℕ). fields_of (tagged (Some m) a r n)) (number_is s at b l split bytes whole 1 (window_long b c h right))
      ∙ own_window w a r n c (ap (of_number 1) (t.no_window (omega arith))) (ap (of_number 4) (t.no_allowance (omega arith))) (ap (of_span s) (t.no_repository (omega arith))) (ap (of_span s) (t.no_note (omega arith)))
      ∙ ap (λ (k : ℕ). fields_of (tagged w a r n) ++ field k c) (sym h))
      (λ k. t.no_allowance (omega arith)) (λ k. t.no_repository (omega arith)) (λ k. t.no_note (omega arith)) (λ k. absurd (omega arith)) t.repository_in t.note_in)

  step_allowance : b ≡ 2 → Told s (with_field so (at + 3) b c) (suc b) (at + 3 + size_of l)
  step_allowance h =
      let e = with_allowance so (at + 3) b c {end = at + 3 + length c} refl {n = big_endian 4 c} h refl in
      subst (λ (x : Settings). Told s x (suc b) (at + 3 + size_of l)) e
      (own_step s at b l split bytes whole t order right (omega arith) (record { window = so.window; allowance = Some (big_endian 4 c); repository = so.repository; note = so.note; carried = at + 3 + length c }) e refl
      (ap (λ (m : List ℕ). fields_of (tagged w (Some m) r n)) (number_is s at b l split bytes whole 4 (allowance_long b c h right))
      ∙ own_allowance w a r n c (ap (of_number 4) (t.no_allowance (omega arith))) (ap (of_span s) (t.no_repository (omega arith))) (ap (of_span s) (t.no_note (omega arith)))
      ∙ ap (λ (k : ℕ). fields_of (tagged w a r n) ++ field k c) (sym h))
      (λ k. absurd (omega arith)) (λ k. t.no_repository (omega arith)) (λ k. t.no_note (omega arith)) (λ k. absurd (omega arith)) t.repository_in t.note_in)

  step_repository : b ≡ 3 → Told s (with_field so (at + 3) b c) (suc b) (at + 3 + size_of l)
  step_repository h =
      let e = with_repository_lem so (at + 3) b c {end = at + 3 + length c} refl h in
      subst (λ (x : Settings). Told s x (suc b) (at + 3 + size_of l)) e
      (own_step s at b l split bytes whole t order right (omega arith) (record { window = so.window; allowance = so.allowance; repository = Some (record { start = at + 3; length = length c }); note = so.note; carried = at + 3 + length c }) e refl
      (ap (λ (m : List ℕ). fields_of (tagged w a (Some m) n)) (contents_at s at b l split bytes whole)
      ∙ own_repository_lem w a r n c (ap (of_span s) (t.no_repository (omega arith))) (ap (of_span s) (t.no_note (omega arith)))
      ∙ ap (λ (k : ℕ). fields_of (tagged w a r n) ++ field k c) (sym h))
      (λ k. absurd (omega arith)) (λ k. absurd (omega arith)) (λ k. t.no_note (omega arith)) (λ k. absurd (omega arith)) inside_next t.note_in)

  step_note : b ≡ 128 → Told s (with_field so (at + 3) b c) (suc b) (at + 3 + size_of l)
  step_note h =
      let e = with_note so (at + 3) b c {end = at + 3 + length c} refl h in
      subst (λ (x : Settings). Told s x (suc b) (at + 3 + size_of l)) e
      (own_step s at b l split bytes whole t order right (omega arith) (record { window = so.window; allowance = so.allowance; repository = so.repository; note = Some (record { start = at + 3; length = length c }); carried = at + 3 + length c }) e refl
      (ap (λ (m : List ℕ). fields_of (tagged w a r (Some m))) (contents_at s at b l split bytes whole)
      ∙ own_note w a r n c (ap (of_span s) (t.no_note (omega arith)))
      ∙ ap (λ (k : ℕ). fields_of (tagged w a r n) ++ field k c) (sym h))
      (λ k. absurd (omega arith)) (λ k. absurd (omega arith)) (λ k. absurd (omega arith)) (λ k. absurd (omega arith)) t.repository_in inside_next)

  pub step : Told s (with_field so (at + 3) b c) (suc b) (at + 3 + size_of l)
  step = go (kind b c right)
    where
      go : Kind b → Told s (with_field so (at + 3) b c) (suc b) (at + 3 + size_of l)
      go (own (window h)) = step_window h
      go (own (allowance h)) = step_allowance h
      go (own (repository h)) = step_repository h
      go (own (note h)) = step_note h
      go (carried h) =
          subst (λ (x : Settings). Told s x (suc b) (at + 3 + size_of l))
          (with_above so (at + 3) b c h)
          (carried_step s at b l split bytes whole t order right h)

-- up to the end
told_end : (s : List ℕ) → IsBytes s → (l : List ℕ) (skip least at : ℕ) (so : Settings) {last : Settings} {n : ℕ} → drop at s ≡ l → skip ≤ length l → at ≤ length s → Told s so least (at + skip)
    → read_from l skip least at so ≡ taken last n → (top : ℕ) × Told s last top (length s)
unfolding read_from
told_end s bytes [] skip least at so {last} {n} d h i t e =
    let none_left : length s - at ≡ 0 = sym (length-drop at s) ∙ ap length d in
    let end : at + skip ≡ length s = omega arith in
    let same : so ≡ last = cc in
    (least, subst (λ (x : Settings). Told s x least (length s)) same (subst (λ (k : ℕ). Told s so least k) end t))
told_end s bytes (b ∷ l) (suc skip) least at so {last} {n} d h i t e =
    let long : length s - at ≡ suc (length l) = sym (length-drop at s) ∙ ap length d in
    let same : at + suc skip ≡ suc at + skip = omega arith in
    let one : at + 1 ≡ suc at = add-one at in
    told_end s bytes l skip least (suc at) so (ap (λ (k : ℕ). drop k s) (sym one) ∙ sym (drop-drop 1 at s) ∙ ap (drop 1) d) (omega arith) (omega arith) (subst (λ (k : ℕ). Told s so least k) same t) e
told_end s bytes (b ∷ l) zero least at so {last} {n} d h i t e =
    let long : length s - at ≡ suc (length l) = sym (length-drop at s) ∙ ap length d in
    let one : at + 1 ≡ suc at = add-one at in
    let same : at + 3 + size_of l ≡ suc at + (2 + size_of l) = omega arith in
    go (eqb (fault least b l) 0) refl e
    (λ g f.
    told_end s bytes l (2 + size_of l) (suc b) (suc at) (with_field so (at + 3) b (contents_of l)) (ap (λ (k : ℕ). drop k s) (sym one) ∙ sym (drop-drop 1 at s) ∙ ap (drop 1) d) g.0 (omega arith)
    (subst (λ (k : ℕ). Told s (with_field so (at + 3) b (contents_of l)) (suc b) k) same (step s at b l d bytes g.0 so least (subst (λ (k : ℕ). Told s so least k) (add-zero at) t) g.1 g.2)) f)
  where
    go : (q : Bool) → eqb (fault least b l) 0 ≡ q
        → cond q (read_from l (2 + size_of l) (suc b) (suc at) (with_field so (at + 3) b (contents_of l))) (refused (fault least b l) at) ≡ taken last n
        → ((2 + size_of l ≤ length l) × (least ≤ b) × (wrong b (contents_of l) ≡ 0) → read_from l (2 + size_of l) (suc b) (suc at) (with_field so (at + 3) b (contents_of l)) ≡ taken last n → (top : ℕ) × Told s last top (length s))
        → (top : ℕ) × Told s last top (length s)
    go true q f k = k (no_fault least b l (eqb-true (fault least b l) 0 q)) f
    go false q f k = cc

pub told : (s : List ℕ) → IsBytes s → {so : Settings} {n : ℕ} → reading s ≡ taken so n → (top : ℕ) × Told s so top (length s)
told s bytes e = told_end s bytes s 0 0 0 none refl (omega arith) (omega arith) (start s) e
