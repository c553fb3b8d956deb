-- Saving as it is checked and stored: each way through.
use Prim.Native.Nat.{ℕ, ◌+◌, ◌/◌, ◌%◌, ◌≤◌, ◌<◌}
use mathlib.Core.List.{List, [], ◌∷◌, ◌++◌, append_assoc, append-nil}
use mathlib.Core.Path.{◌≡◌, refl, sym, ap, subst, ◌∙◌}
use mathlib.Core.Bool.{Bool, true, false, cond, ◌&&◌}
use native.Mathlib.Omega.{arith}
use native.Mathlib.Nat.{zero-add}
use native.Mathlib.Decide.{dec_le}
use borrow.Author.Tests.{le-leb, lt-leb}
use denote.Ref.{Bor}
use lib.ListN.{length, length-append}
use lib.Dec.{leb}
use Rattle.std.specs.Prelude.{Some, None, Ok, Err}
use Rattle.std.specs.Option.{option_copied, option_and}
use Rattle.std.specs.declared.option.Option.{Option}
use Rattle.std.specs.declared.result.Result.{Result}
use Rattle.xdr.specs.Reading.{Reading, taken, refused}
use Rattle.xdr.specs.Number.{big_endian, digits}
use Rattle.xdr.specs.Buffer.{filled, over, put}
use Rattle.xdr.specs.Filling.{Outcome, gives, refuses}
use Rattle.xdr.specs.declared.answer.Refusal.{Refusal}
use Rattle.xdr.proofs.BufferLaws.{over_over, length_over, FilledTo, filled_none, put_next}
use Rattle.settings.specs.Field.{field, is_window, wrong}
use Rattle.settings.specs.Reading.{none, read_from, reading}
use Rattle.settings.specs.Saving.{Setting, of_number, setting_bytes, fields_of, tagged, read_on, read_back, as_read, saving_bytes, saving}
use Rattle.settings.specs.Steps.{unless_0, byte_of, word_of, end_answer, setting_end, Storable}
use Rattle.settings.specs.declared.answer.Settings.{Settings}
use Rattle.settings.proofs.FieldLaws.{byte_held, byte_none, nothing_wrong, something_wrong, window, own_26}
use Rattle.settings.proofs.CarriedLaws.{filled_end}
use Rattle.settings.proofs.SettingLaws.{field_long, field_faulty, end_right, end_faulty, short_setting, past_right, ordered}

-- where a setting ends that is there, by what is answered of its contents
module _ (at tag : ℕ) (l : List ℕ) where
  pub wrong_end : {k : ℕ} → unless_0 (wrong tag l) ≡ Some k → Err (record { number = k; place = at }) ≡ setting_end at tag (Some l)
  wrong_end {k} e =
      let w = something_wrong (wrong tag l) k e in
      ap (λ (n : ℕ). Err (record { number = n; place = at })) (sym w.0) ∙ sym (end_faulty at tag l w.1)

  pub right_end : unless_0 (wrong tag l) ≡ None → Ok (at + 3 + length l) ≡ setting_end at tag (Some l)
  right_end e =
      let same : at + 3 + length l ≡ at + length (field tag l) = omega (arith, field_long tag l) in
      ap Ok same ∙ sym (end_right at tag (Some l) (nothing_wrong (wrong tag l) e))

-- reading all: the settings, and then the carried fields
module _ (o l : List ℕ) {f : Result ℕ Refusal} (first : f ≡ end_answer (reading o)) where
  pub own_refused : {r : Refusal} → f ≡ Err r → f ≡ end_answer (read_back o l)
  unfolding read_back
  own_refused {r} e = go (reading o) first
    where
      go : (x : Reading Settings) → f ≡ end_answer x → f ≡ end_answer (read_on x l)
      go (taken so n) k = cc
      go (refused k p) j = j

  pub both_read : {end : ℕ} → f ≡ Ok end → {w : Result ℕ Refusal} → ((so : Settings) → w ≡ end_answer (read_from l 0 129 end so)) → w ≡ end_answer (read_back o l)
  unfolding read_back
  both_read {end} e {w} behind = go (reading o) first
    where
      go : (x : Reading Settings) → f ≡ end_answer x → w ≡ end_answer (read_on x l)
      go (taken so n) k =
          let same : end ≡ n = cc in
          behind so ∙ ap (λ (m : ℕ). end_answer (read_from l 0 129 m so)) same
      go (refused k p) i = cc

-- what is saved, by that answer: a refusal
pub saving_refused : (o l : List ℕ) {f : Result ℕ Refusal} {r : Refusal} → f ≡ end_answer (read_back o l) → f ≡ Err r → saving_bytes o l ≡ refuses r.number r.place
unfolding saving_bytes
saving_refused o l {f} {r} e q = go (read_back o l) (sym q ∙ e)
  where
    go : (x : Reading Settings) → Err r ≡ end_answer x → as_read (o ++ l) x ≡ refuses r.number r.place
    go (taken so n) k = cc
    go (refused k p) i = let n : r.number ≡ k = cc in let m : r.place ≡ p = cc in rw (n, m) refl

-- or all of it
pub record Accepted (o l : List ℕ) (n : ℕ) : Type 0 where
  pub so : Settings
  pub last : Settings
  pub own_is : reading o ≡ taken so (length o)
  pub behind_is : read_from l 0 129 (length o) so ≡ taken last n
  pub size : n ≡ length (o ++ l)
  pub saves : saving_bytes o l ≡ gives (o ++ l)

pub accepted : (o l : List ℕ) {n : ℕ} → end_answer (read_back o l) ≡ Ok n → Accepted o l n
unfolding saving_bytes read_back
accepted o l {n} e = go (reading o) refl e
  where
    on : (so : Settings) → reading o ≡ taken so (length o) → (x : Reading Settings) → read_from l 0 129 (length o) so ≡ x → end_answer x ≡ Ok n → Accepted o l n
    on so q (taken last m) u f =
        let same : m ≡ n = cc in
        let end : m ≡ length o + length l = filled_end l 129 (length o) so (ap end_answer u) in
        record {
          so = so;
          last = last;
          own_is = q;
          behind_is = u ∙ ap (taken last) same;
          size = omega (arith, length-append o l);
          saves = ap (λ (x : Reading Settings). as_read (o ++ l) (read_on x l)) q ∙ ap (as_read (o ++ l)) u;
        }
    on so q (refused j p) u f = cc

    go : (x : Reading Settings) → reading o ≡ x → end_answer (read_on x l) ≡ Ok n → Accepted o l n
    go (taken so m) q f =
        let end : m ≡ 0 + length o = filled_end o 0 0 none (ap end_answer q) in
        let same : m ≡ length o = omega arith in
        on so (q ∙ ap (taken so) same) (read_from l 0 129 (length o) so) refl (subst (λ (i : ℕ). end_answer (read_from l 0 129 i so) ≡ Ok n) same f)
    go (refused j p) q f = cc

-- the settings end before place 1,032, where they are taken
four_long : (w a r n : Setting) → length (fields_of (tagged w a r n)) ≡ length (setting_bytes 1 w) + length (setting_bytes 2 a) + length (setting_bytes 3 r) + length (setting_bytes 128 n)
four_long w a r n = simp (length-append, append-nil) (omega arith)

pub own_short : (w a r n : Setting) {f : Result ℕ Refusal} {end : ℕ} → f ≡ end_answer (reading (fields_of (tagged w a r n))) → f ≡ Ok end → end ≤ 1032
own_short w a r n {f} {end} first e =
    let o = past_right (tagged w a r n) 0 0 none (ordered w a r n) (sym first ∙ e) in
    let long = filled_end (fields_of (tagged w a r n)) 0 0 none (sym first ∙ e) in
    omega (
      arith,
      long,
      four_long w a r n,
      short_setting 1 w (omega arith) o.0,
      short_setting 2 a (omega arith) o.1.0,
      short_setting 3 r (omega arith) o.1.1.0,
      short_setting 128 n (omega arith) o.1.1.1.0,
    )

-- a field is its head and its contents
module _ (out : List ℕ) (at tag : ℕ) (l : List ℕ) where
  head : List ℕ
  head = tag ∷ length l / 256 ∷ length l % 256 ∷ []

  whole : head ++ l ≡ field tag l
  unfolding head
  whole =
      let low : length l % 256 ≡ length l % 256 / 1 = omega arith in
      ap (λ (k : ℕ). tag ∷ length l / 256 ∷ k ∷ l) low

  put_two : {o p : List ℕ} → at + length (field tag l) ≤ length out → o ≡ put out at head → p ≡ put o (at + 3) l → p ≡ put out at (field tag l)
  unfolding head
  put_two {o} {p} h q u =
      let long = field_long tag l in
      let three : length head ≡ 3 = three_long in
      let first : o ≡ over out at head = q ∙ simp (le-leb (at + length head) (length out) (omega arith)) in
      let same : length o ≡ length out = ap length first ∙ length_over out at head (omega arith) in
      u
      ∙ simp (le-leb (at + 3 + length l) (length o) (omega arith))
      (ap (λ (x : List ℕ). over x (at + 3) l) first
      ∙ ap (λ (k : ℕ). over (over out at head) (at + k) l) (sym three)
      ∙ over_over out at head l (omega arith)
      ∙ ap (over out at) whole
      ∙ simp (le-leb (at + length (field tag l)) (length out) h))
    where
      three_long : length head ≡ 3
      three_long = refl

-- storing a setting that is there
module _ (out : List ℕ) (at tag : ℕ) (l : List ℕ) where
  pub field_short : length (setting_bytes tag (Some l)) ≤ 258 → length l ≤ 255
  field_short h = omega (arith, h, field_long tag l)

  pub store_field : {o p : List ℕ} → at + length (setting_bytes tag (Some l)) ≤ length out → o ≡ put out at (tag ∷ length l / 256 ∷ length l % 256 ∷ []) → p ≡ put o (at + 3) l
      → (3 + length l ≡ length (setting_bytes tag (Some l))) × (p ≡ put out at (setting_bytes tag (Some l)))
  unfolding head
  store_field h q u = (sym (field_long tag l), put_two out at tag l h q u)

-- storing all
module _ (w a r n : Setting) (l : List ℕ) where
  pub store_all : (out : List ℕ) {o1 o2 o3 o4 o5 : List ℕ} {k1 k2 k3 k4 : ℕ} → Storable w a r n (length l) (length out)
      → k1 ≡ length (setting_bytes 1 w) → o1 ≡ put out 0 (setting_bytes 1 w)
      → k2 ≡ length (setting_bytes 2 a) → o2 ≡ put o1 k1 (setting_bytes 2 a)
      → k3 ≡ length (setting_bytes 3 r) → o3 ≡ put o2 (k1 + k2) (setting_bytes 3 r)
      → k4 ≡ length (setting_bytes 128 n) → o4 ≡ put o3 (k1 + k2 + k3) (setting_bytes 128 n)
      → o5 ≡ put o4 (k1 + k2 + k3 + k4) l → o5 ≡ filled out (fields_of (tagged w a r n) ++ l)
  store_all out {o1} {o2} {o3} {o4} {o5} {k1} {k2} {k3} {k4} s e1 p1 e2 p2 e3 p3 e4 p4 p5 =
      let room = s.fits in
      let f1 : FilledTo out o1 (setting_bytes 1 w) k1 = subst (λ (k : ℕ). FilledTo out o1 (setting_bytes 1 w) k) (zero-add k1) (put_next (filled_none out) (setting_bytes 1 w) (sym e1) (omega arith) p1) in
      let f2 : FilledTo out o2 (setting_bytes 1 w ++ setting_bytes 2 a) (k1 + k2) = put_next f1 (setting_bytes 2 a) (sym e2) (omega arith) p2 in
      let f3 : FilledTo out o3 (setting_bytes 1 w ++ setting_bytes 2 a ++ setting_bytes 3 r) (k1 + k2 + k3) = put_next f2 (setting_bytes 3 r) (sym e3) (omega arith) p3 in
      let f4 : FilledTo out o4 (setting_bytes 1 w ++ setting_bytes 2 a ++ setting_bytes 3 r ++ setting_bytes 128 n) (k1 + k2 + k3 + k4) = put_next f3 (setting_bytes 128 n) (sym e4) (omega arith) p4 in
      (put_next f4 l refl (omega arith) p5).fills ∙ ap (filled out) (regroup (setting_bytes 1 w) (setting_bytes 2 a) (setting_bytes 3 r) (setting_bytes 128 n))
    where
      regroup : (x y z v : List ℕ) → x ++ y ++ z ++ v ++ l ≡ (x ++ (y ++ (z ++ (v ++ [])))) ++ l
      regroup x y z v = simp (append-nil, append_assoc)

  -- what is accepted can be stored
  pub storable : {k room : ℕ} → Accepted (fields_of (tagged w a r n)) l k → k ≤ room → Storable w a r n (length l) room
  storable {k} {room} p h =
      let o = past_right (tagged w a r n) 0 0 none (ordered w a r n) (ap end_answer p.own_is) in
      record {
        window = short_setting 1 w (omega arith) o.0;
        allowance = short_setting 2 a (omega arith) o.1.0;
        repository = short_setting 3 r (omega arith) o.1.1.0;
        note = short_setting 128 n (omega arith) o.1.1.1.0;
        fits = omega (arith, h, p.size, length-append (fields_of (tagged w a r n)) l, four_long w a r n);
      }

-- numbers as the bytes that they are saved as
abbrev byte_saved : Option ℕ → Setting
byte_saved None = None
byte_saved (Some k) = Some (byte_of (Some k))

pub byte_given : (w : Option ℕ) (b : Bor (List ℕ)) {o : Option (Bor (List ℕ))} → o ≡ option_and w (Some b) → b.now ≡ byte_of w → option_copied o ≡ byte_saved w
byte_given None b e h = ap option_copied e
byte_given (Some k) b e h = ap option_copied e ∙ ap Some h

pub word_given : (a : Option ℕ) (b : Bor (List ℕ)) {o : Option (Bor (List ℕ))} → o ≡ option_and a (Some b) → b.now ≡ word_of a → option_copied o ≡ of_number 4 a
word_given None b e h = ap option_copied e
word_given (Some k) b e h = ap option_copied e ∙ ap Some h

-- a window that is wrong is refused first
window_refused : (l : List ℕ) (a r n : Setting) (c : List ℕ) → (wrong 1 l ≡ 0 → ⊥) → saving_bytes (fields_of (tagged (Some l) a r n)) c ≡ refuses 26 0
unfolding saving_bytes read_back
window_refused l a r n c h =
    let rest : List ℕ = setting_bytes 2 a ++ (setting_bytes 3 r ++ (setting_bytes 128 n ++ [])) in
    ap (λ (x : Reading Settings). as_read (field 1 l ++ rest ++ c) (read_on x c)) (field_faulty 1 l rest 0 0 none (omega arith) h ∙ ap (λ (k : ℕ). refused k 0) (own_26 1 l (window refl) h))

-- and so is one that no byte holds, as it is with 0 for its byte
zero_wrong : wrong 1 (0 ∷ []) ≡ 0 → ⊥
unfolding wrong
zero_wrong e = omega arith

and_none : (b : Bool) → (b && false) ≡ false
and_none true = refl
and_none false = refl

great_none : (k : ℕ) → 255 < k → is_window (digits 1 k) ≡ false
great_none k h = simp (lt-leb (big_endian 1 (digits 1 k)) 16 (omega arith)) (and_none (leb 1 (big_endian 1 (digits 1 k))))

great_wrong : (k : ℕ) → 255 < k → wrong 1 (digits 1 k) ≡ 0 → ⊥
unfolding wrong
great_wrong k h e =
    let z : ◌≡◌ {A = ℕ} 26 0 = subst (λ (b : Bool). ◌≡◌ {A = ℕ} (cond b 0 26) 0) (great_none k h) e in
    omega arith

window_saved : (w : Option ℕ) (a r n : Setting) (c : List ℕ) → saving_bytes (fields_of (tagged (of_number 1 w) a r n)) c ≡ saving_bytes (fields_of (tagged (byte_saved w) a r n)) c
window_saved None a r n c = refl
window_saved (Some k) a r n c = go (dec_le k 255)
  where
    with : List ℕ → Outcome
    with l = saving_bytes (fields_of (tagged (Some l) a r n)) c

    go : Dec (k ≤ 255) → saving_bytes (fields_of (tagged (Some (digits 1 k)) a r n)) c ≡ saving_bytes (fields_of (tagged (Some (byte_of (Some k))) a r n)) c
    go (yes h) =
        let same : k / 1 ≡ k = omega arith in
        ap with (ap (λ (m : ℕ). m ∷ []) same ∙ byte_held k h)
    go (no h) =
        window_refused (digits 1 k) a r n c (great_wrong k (omega arith))
        ∙ sym (window_refused (0 ∷ []) a r n c zero_wrong)
        ∙ ap with (byte_none k (omega arith))

pub numbers_saved : (w a : Option ℕ) (r n : Setting) (c : List ℕ) {x y : Setting} → x ≡ byte_saved w → y ≡ of_number 4 a → saving w a r n c ≡ saving_bytes (fields_of (tagged x y r n)) c
numbers_saved w a r n c p q = window_saved w (of_number 4 a) r n c ∙ rw (p, q) refl
