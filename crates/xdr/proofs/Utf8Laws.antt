-- The text rule is UTF-8: the texts are the encodings of lists of characters' code points, each of which has one.
use Prim.Native.Nat.{ℕ, zero, suc, ◌+◌, ◌-◌, ◌*◌, ◌/◌, ◌%◌, ◌≤◌, ◌<◌}
use mathlib.Core.List.{List, [], ◌∷◌, ◌++◌}
use mathlib.Core.Path.{◌≡◌, refl, sym, ap, ◌∙◌}
use mathlib.Core.Logic.{◌⊎◌, inl, inr}
use mathlib.Core.Bool.{Bool, true, false, cond, ◌&&◌, ◌||◌}
use native.Mathlib.Omega.{arith}
use native.Mathlib.Decide.{dec_le}
use borrow.Author.Tests.{le-leb, lt-leb, leb-true, eq-eqb, eqb-true}
use lib.ListN.{length, get_or, drop, length-append, length-drop}
use lib.Dec.{leb}
use Rattle.xdr.specs.Text.{followers, lowest, highest, is_within, sound_from, sound_up_to, is_text}
use Rattle.xdr.specs.Steps.{followed_by}
use Rattle.xdr.specs.Utf8.{is_point, six_bits, point_bytes, utf8, are_points, IsUtf8}
use Rattle.xdr.proofs.LeadLaws.{Lead, both, lead_one, lead_two, lead_three, lead_four, leads, lowest_of_lem, highest_of_lem, lowest_224, lowest_240, lowest_else, highest_237, highest_244, highest_else, within_is, is_within_lem}
use Rattle.xdr.proofs.TextRule.{start_free, sequence, followed_within}

-- numbers in digits of six bits

digit : (q r : ℕ) → r < 64 → ((q * 64 + r) / 64 ≡ q) × ((q * 64 + r) % 64 ≡ r)
digit q r h = (omega arith, omega arith)

-- the code point of a sequence

pub record Point (b : ℕ) (l : List ℕ) (n : ℕ) : Type 0 where
  pub point : ℕ
  pub is_a_point : is_point point ≡ true
  pub bytes_are : b ∷ l ≡ point_bytes point ++ drop n l

low_point : (c : ℕ) → c ≤ 55295 → is_point c ≡ true
low_point c h = rw (le-leb c 55295 h) refl

high_point : (c : ℕ) → 57344 ≤ c → c ≤ 1114111 → is_point c ≡ true
high_point c g h = rw (lt-leb c 55295 (omega arith), le-leb 57344 c g, le-leb c 1114111 h) refl

same_two : {a b x y : ℕ} → a ≡ b → x ≡ y → (a ∷ x ∷ []) ≡ (b ∷ y ∷ [])
same_two {a} {b} {x} {y} p q = cc

same_three : {a b u v x y : ℕ} → a ≡ b → u ≡ v → x ≡ y → (a ∷ u ∷ x ∷ []) ≡ (b ∷ v ∷ y ∷ [])
same_three {a} {b} {u} {v} {x} {y} p q r = cc

same_four : {a b s t u v x y : ℕ} → a ≡ b → s ≡ t → u ≡ v → x ≡ y → (a ∷ s ∷ u ∷ x ∷ []) ≡ (b ∷ t ∷ v ∷ y ∷ [])
same_four {a} {b} {s} {t} {u} {v} {x} {y} p q r w = cc

-- what the bytes of a code point are, by its size

bytes_one : (c : ℕ) → c ≤ 127 → point_bytes c ≡ c ∷ []
bytes_one c h = rw (le-leb c 127 h) refl

bytes_two : (c : ℕ) → 127 < c → c ≤ 2047 → point_bytes c ≡ (192 + c / 64) ∷ six_bits c ∷ []
bytes_two c g h = rw (lt-leb c 127 g, le-leb c 2047 h) refl

bytes_three : (c : ℕ) → 2047 < c → c ≤ 65535 → point_bytes c ≡ (224 + c / 4096) ∷ six_bits (c / 64) ∷ six_bits c ∷ []
bytes_three c g h = rw (lt-leb c 127 (omega arith), lt-leb c 2047 g, le-leb c 65535 h) refl

bytes_four : (c : ℕ) → 65535 < c → point_bytes c ≡ (240 + c / 262144) ∷ six_bits (c / 4096) ∷ six_bits (c / 64) ∷ six_bits c ∷ []
bytes_four c g = rw (lt-leb c 127 (omega arith), lt-leb c 2047 (omega arith), lt-leb c 65535 g) refl

point_two : (b x : ℕ) (l : List ℕ) → 194 ≤ b → b ≤ 223 → 128 ≤ x → x ≤ 191 → Point b (x ∷ l) 1
point_two b x l p q r s =
    let c : ℕ = (b - 192) * 64 + (x - 128) in
    let d = digit (b - 192) (x - 128) (omega arith) in
    let lead : 192 + c / 64 ≡ b = omega (arith, d.0) in
    let last : six_bits c ≡ x = omega (arith, d.1) in
    record {
      point = c;
      is_a_point = low_point c (omega arith);
      bytes_are = ap (λ (m : List ℕ). m ++ l) (sym (bytes_two c (omega arith) (omega arith) ∙ same_two lead last));
    }

module _ (b x y : ℕ) (l : List ℕ) (p : 224 ≤ b) (q : b ≤ 239) (r : lowest b ≤ x) (s : x ≤ highest b) (t : 128 ≤ y) (u : y ≤ 191) where
  abbrev c3 : ℕ
  c3 = ((b - 224) * 64 + (x - 128)) * 64 + (y - 128)

  -- the range of x
  x3 : (128 ≤ x) × (x ≤ 191)
  x3 = (omega (arith, (lowest_of_lem b).0, r), omega (arith, (highest_of_lem b).1, s))

  c3_is : c3 ≡ ((b - 224) * 64 + (x - 128)) * 64 + (y - 128)
  c3_is = refl

  least_three : 2047 < c3
  least_three = go (dec_le b 224)
    where
      go : Dec (b ≤ 224) → 2047 < c3
      go (yes h) = let e : b ≡ 224 = omega arith in omega (arith, c3_is, lowest_224 b e, r)
      go (no h) = omega (arith, c3_is)

  most_three : c3 ≤ 65535
  most_three = omega (arith, c3_is, x3.1)

  point_three_is : is_point c3 ≡ true
  point_three_is = go (dec_le b 236) (dec_le b 237)
    where
      go : Dec (b ≤ 236) → Dec (b ≤ 237) → is_point c3 ≡ true
      go (yes h) k = low_point c3 (omega (arith, c3_is, x3.1))
      go (no h) (yes k) = let e : b ≡ 237 = omega arith in low_point c3 (omega (arith, c3_is, highest_237 b e, s))
      go (no h) (no k) = high_point c3 (omega (arith, c3_is)) (omega (arith, most_three))

  point_three : Point b (x ∷ y ∷ l) 2
  point_three =
      let d = digit ((b - 224) * 64 + (x - 128)) (y - 128) (omega arith) in
      let e = digit (b - 224) (x - 128) (omega (arith, x3.1)) in
      let lead : 224 + c3 / 4096 ≡ b = omega (arith, c3_is, x3.0, x3.1) in
      let middle : six_bits (c3 / 64) ≡ x = ap six_bits d.0 ∙ omega (arith, e.1, x3.0) in
      let last : six_bits c3 ≡ y = omega (arith, d.1) in
      record {
        point = c3;
        is_a_point = point_three_is;
        bytes_are = ap (λ (m : List ℕ). m ++ l) (sym (bytes_three c3 least_three most_three ∙ same_three lead middle last));
      }

module _ (b x y z : ℕ) (l : List ℕ) (p : 240 ≤ b) (q : b ≤ 244) (r : lowest b ≤ x) (s : x ≤ highest b) (t : 128 ≤ y) (u : y ≤ 191) (v : 128 ≤ z) (w : z ≤ 191) where
  abbrev c4 : ℕ
  c4 = (((b - 240) * 64 + (x - 128)) * 64 + (y - 128)) * 64 + (z - 128)

  x4 : (128 ≤ x) × (x ≤ 191)
  x4 = (omega (arith, (lowest_of_lem b).0, r), omega (arith, (highest_of_lem b).1, s))

  c4_is : c4 ≡ (((b - 240) * 64 + (x - 128)) * 64 + (y - 128)) * 64 + (z - 128)
  c4_is = refl

  least_four : 65535 < c4
  least_four = go (dec_le b 240)
    where
      go : Dec (b ≤ 240) → 65535 < c4
      go (yes h) = let e : b ≡ 240 = omega arith in omega (arith, c4_is, lowest_240 b e, r)
      go (no h) = omega (arith, c4_is)

  most_four : c4 ≤ 1114111
  most_four = go (dec_le b 243)
    where
      go : Dec (b ≤ 243) → c4 ≤ 1114111
      go (yes h) = omega (arith, c4_is, x4.1)
      go (no h) = let e : b ≡ 244 = omega arith in omega (arith, c4_is, highest_244 b e, s)

  point_four : Point b (x ∷ y ∷ z ∷ l) 3
  point_four =
      let d = digit (((b - 240) * 64 + (x - 128)) * 64 + (y - 128)) (z - 128) (omega arith) in
      let e = digit ((b - 240) * 64 + (x - 128)) (y - 128) (omega arith) in
      let f = digit (b - 240) (x - 128) (omega (arith, x4.1)) in
      let lead : 240 + c4 / 262144 ≡ b = omega (arith, c4_is, x4.0, x4.1) in
      let high : c4 / 4096 ≡ (b - 240) * 64 + (x - 128) = omega (arith, c4_is, x4.0, x4.1) in
      let second : six_bits (c4 / 4096) ≡ x = ap six_bits high ∙ omega (arith, f.1, x4.0) in
      let third : six_bits (c4 / 64) ≡ y = ap six_bits d.0 ∙ omega (arith, e.1) in
      let last : six_bits c4 ≡ z = omega (arith, d.1) in
      record {
        point = c4;
        is_a_point = high_point c4 (omega (arith, least_four)) most_four;
        bytes_are = ap (λ (m : List ℕ). m ++ l) (sym (bytes_four c4 least_four ∙ same_four lead second third last));
      }

-- the sequence at the front of some bytes

never : {P : Type 0} → false ≡ true → P
never e = let z : ◌≡◌ {A = ℕ} 0 1 = cc in absurd (omega arith)

by_one : (b : ℕ) (l : List ℕ) → b ≤ 127 → Point b l 0
by_one b l h = record { point = b; is_a_point = low_point b (omega arith); bytes_are = ap (λ (m : List ℕ). m ++ l) (sym (bytes_one b h)) }

by_two : (b : ℕ) (l : List ℕ) → Lead b 1 194 223 → followed_by 1 (lowest b) (highest b) l ≡ true → Point b l 1
by_two b [] w e = never e
by_two b (x ∷ l) w e =
    let p = within_is (lowest b) (highest b) x (both (is_within (lowest b) (highest b) x) true e).0 in
    point_two b x l w.least w.most (omega (arith, p.0, (lowest_of_lem b).0)) (omega (arith, p.1, (highest_of_lem b).1))

by_three : (b : ℕ) (l : List ℕ) → Lead b 2 224 239 → followed_by 2 (lowest b) (highest b) l ≡ true → Point b l 2
by_three b [] w e = never e
by_three b (x ∷ []) w e = never (both (is_within (lowest b) (highest b) x) false e).1
by_three b (x ∷ y ∷ l) w e =
    let f = both (is_within (lowest b) (highest b) x) (followed_by 1 128 191 (y ∷ l)) e in
    let p = within_is (lowest b) (highest b) x f.0 in
    let q = within_is 128 191 y (both (is_within 128 191 y) true f.1).0 in
    point_three b x y l w.least w.most p.0 p.1 q.0 q.1

by_four : (b : ℕ) (l : List ℕ) → Lead b 3 240 244 → followed_by 3 (lowest b) (highest b) l ≡ true → Point b l 3
by_four b [] w e = never e
by_four b (x ∷ []) w e = never (both (is_within (lowest b) (highest b) x) false e).1
by_four b (x ∷ y ∷ []) w e = never (both (is_within 128 191 y) false (both (is_within (lowest b) (highest b) x) (is_within 128 191 y && false) e).1).1
by_four b (x ∷ y ∷ z ∷ l) w e =
    let f = both (is_within (lowest b) (highest b) x) (followed_by 2 128 191 (y ∷ z ∷ l)) e in
    let g = both (is_within 128 191 y) (followed_by 1 128 191 (z ∷ l)) f.1 in
    let p = within_is (lowest b) (highest b) x f.0 in
    let q = within_is 128 191 y g.0 in
    let r = within_is 128 191 z (both (is_within 128 191 z) true g.1).0 in
    point_four b x y z l w.least w.most p.0 p.1 q.0 q.1 r.0 r.1

-- a text is UTF-8

module _ (b : ℕ) (l : List ℕ) (at fuel : ℕ) (short : length l ≤ fuel) (sound : sound_from (b ∷ l) 0 128 191 at at ≡ at + suc (length l))
    (rest : (m : List ℕ) (k : ℕ) → length m ≤ fuel → sound_from m 0 128 191 k k ≡ k + length m → IsUtf8 m) where
  broken : followers b ≡ 4 → IsUtf8 (b ∷ l)
  broken e = absurd (omega (arith, sound, stops))
    where
      stops : sound_from (b ∷ l) 0 128 191 at at ≡ at
      stops = rw e refl

  module _ (n : ℕ) (e : followers b ≡ n) (h : n ≤ 3) (first : followed_by n (lowest b) (highest b) l ≡ true → Point b l n) where
    goes : sound_from (b ∷ l) 0 128 191 at at ≡ cond (followed_by n (lowest b) (highest b) l) (sound_from (drop n l) 0 128 191 at (suc at + n)) at
    goes = rw (e, le-leb n 3 h) (sequence n (lowest b) (highest b) l at (suc at))

    by_followers : (f : Bool) → followed_by n (lowest b) (highest b) l ≡ f → IsUtf8 (b ∷ l)
    by_followers false q = absurd (omega (arith, sound, goes ∙ ap (λ (v : Bool). cond v (sound_from (drop n l) 0 128 191 at (suc at + n)) at) q))
    by_followers true q =
        let there = followed_within n (lowest b) (highest b) l q in
        let long = length-drop n l in
        let next : sound_from (drop n l) 0 128 191 (suc at + n) (suc at + n) ≡ suc at + n + length (drop n l) =
        sym (start_free (drop n l) 128 191 at (suc at + n) (suc at + n))
        ∙ sym (goes ∙ ap (λ (v : Bool). cond v (sound_from (drop n l) 0 128 191 at (suc at + n)) at) q)
        ∙ sound
        ∙ omega (arith, there, long) in
        let w = rest (drop n l) (suc at + n) (omega (arith, long)) next in
        let p = first q in
        record {
          points = p.point ∷ w.points;
          are = rw p.is_a_point w.are;
          is = p.bytes_are ∙ ap (λ (m : List ℕ). point_bytes p.point ++ m) w.is;
        }

    pub by_lead : IsUtf8 (b ∷ l)
    by_lead = by_followers (followed_by n (lowest b) (highest b) l) refl

  pub front : IsUtf8 (b ∷ l)
  front = go (leads b)
    where
      go : Lead b 0 0 127 ⊎ (Lead b 1 194 223 ⊎ (Lead b 2 224 239 ⊎ (Lead b 3 240 244 ⊎ (followers b ≡ 4)))) → IsUtf8 (b ∷ l)
      go (inl w) = by_lead 0 w.has (omega arith) (λ q. by_one b l w.most)
      go (inr (inl w)) = by_lead 1 w.has (omega arith) (λ q. by_two b l w q)
      go (inr (inr (inl w))) = by_lead 2 w.has (omega arith) (λ q. by_three b l w q)
      go (inr (inr (inr (inl w)))) = by_lead 3 w.has (omega arith) (λ q. by_four b l w q)
      go (inr (inr (inr (inr e)))) = broken e

nothing : IsUtf8 []
nothing = record { points = []; are = refl; is = refl }

step : (fuel : ℕ) (l : List ℕ) (at : ℕ) → length l ≤ suc fuel → sound_from l 0 128 191 at at ≡ at + length l
    → ((m : List ℕ) (k : ℕ) → length m ≤ fuel → sound_from m 0 128 191 k k ≡ k + length m → IsUtf8 m) → IsUtf8 l
step fuel [] at h e rest = nothing
step fuel (b ∷ l) at h e rest = front b l at fuel (omega arith) e rest

none_left : (l : List ℕ) → length l ≤ 0 → IsUtf8 l
none_left [] h = nothing
none_left (b ∷ l) h = absurd (omega arith)

texts : (fuel : ℕ) (l : List ℕ) (at : ℕ) → length l ≤ fuel → sound_from l 0 128 191 at at ≡ at + length l → IsUtf8 l
texts zero l at h e = none_left l h
texts (suc fuel) l at h e = step fuel l at h e (λ m k p q. texts fuel m k p q)

pub text_is_utf8 : (l : List ℕ) → is_text l ≡ true → IsUtf8 l
unfolding sound_up_to
text_is_utf8 l e = texts (length l) l 0 (omega arith) (eqb-true (sound_from l 0 128 191 0 0) (length l) e ∙ omega arith)

-- and UTF-8 is text

drop_front : (m r : List ℕ) → drop (length m) (m ++ r) ≡ r
drop_front [] r = refl
drop_front (x ∷ m) r = drop_front m r

-- a sequence that is whole
whole : (b n : ℕ) (m r : List ℕ) (at : ℕ) → followers b ≡ n → n ≤ 3 → length m ≡ n → followed_by n (lowest b) (highest b) (m ++ r) ≡ true
    → sound_from (b ∷ (m ++ r)) 0 128 191 at at ≡ sound_from r 0 128 191 (at + suc n) (at + suc n)
whole b n m r at e h k f =
    let past : suc at + n ≡ at + suc n = omega arith in
    rw (e, le-leb n 3 h) (sequence n (lowest b) (highest b) (m ++ r) at (suc at))
    ∙ ap (λ (v : Bool). cond v (sound_from (drop n (m ++ r)) 0 128 191 at (suc at + n)) at) f
    ∙ ap (λ (i : ℕ). sound_from (drop i (m ++ r)) 0 128 191 at (suc at + n)) (sym k)
    ∙ ap (λ (l : List ℕ). sound_from l 0 128 191 at (suc at + n)) (drop_front m r)
    ∙ start_free r 128 191 at (at + suc n) (suc at + n)
    ∙ ap (sound_from r 0 128 191 (at + suc n)) past

div_twice : (c d e : ℕ) → d ≡ c / 64 → e ≡ d / 64 → c / 4096 ≡ e
div_twice c d e p q = omega arith

div_thrice : (c d e f : ℕ) → d ≡ c / 64 → e ≡ d / 64 → f ≡ e / 64 → c / 262144 ≡ f
div_thrice c d e f p q r = omega (arith, div_twice c d e p q)

point_of : (c : ℕ) → is_point c ≡ true → (c ≤ 55295) ⊎ ((57344 ≤ c) × (c ≤ 1114111))
point_of c e = go (leb c 55295) refl
  where
    go : (v : Bool) → leb c 55295 ≡ v → (c ≤ 55295) ⊎ ((57344 ≤ c) × (c ≤ 1114111))
    go true q = inl (leb-true c 55295 q)
    go false q =
        let f : (leb 57344 c && leb c 1114111) ≡ true = sym (ap (λ (v : Bool). v || (leb 57344 c && leb c 1114111)) q) ∙ e in
        let p = both (leb 57344 c) (leb c 1114111) f in
        inr (leb-true 57344 c p.0, leb-true c 1114111 p.1)

-- the bytes of a code point are a whole sequence
pub record Spelled (c : ℕ) : Type 0 where
  pub lead : ℕ
  pub more : List ℕ
  pub bytes_are : point_bytes c ≡ lead ∷ more
  pub sound : (r : List ℕ) (at : ℕ) → sound_from (lead ∷ (more ++ r)) 0 128 191 at at ≡ sound_from r 0 128 191 (at + suc (length more)) (at + suc (length more))

whole_one : (c : ℕ) → c ≤ 127 → Spelled c
whole_one c h = record { lead = c; more = []; bytes_are = bytes_one c h; sound = λ r at. whole c 0 [] r at (lead_one c h) (omega arith) refl refl }

whole_two : (c : ℕ) → 127 < c → c ≤ 2047 → Spelled c
whole_two c g h =
    let b : ℕ = 192 + c / 64 in
    let low : lowest b ≡ 128 = lowest_else b (λ e. omega arith) (λ e. omega arith) in
    let high : highest b ≡ 191 = highest_else b (λ e. omega arith) (λ e. omega arith) in
    record {
      lead = b;
      more = six_bits c ∷ [];
      bytes_are = bytes_two c g h;
      sound = λ r at. whole b 1 (six_bits c ∷ []) r at (lead_two b (omega arith) (omega arith)) (omega arith) refl (rw (is_within_lem (lowest b) (highest b) (six_bits c) (omega (arith, low)) (omega (arith, high))) refl);
    }

module _ (c : ℕ) (g : 2047 < c) (h : c ≤ 65535) (p : is_point c ≡ true) where
  abbrev b3 : ℕ
  b3 = 224 + c / 4096

  abbrev d3 : ℕ
  d3 = c / 64

  lead_is3 : b3 ≡ 224 + d3 / 64
  lead_is3 = ap (λ (n : ℕ). 224 + n) (div_twice c d3 (d3 / 64) refl refl)

  range3 : (224 ≤ b3) × (b3 ≤ 239)
  range3 = let e : b3 ≡ 224 + c / 4096 = refl in (omega arith, omega arith)

  low3 : lowest b3 ≤ six_bits d3
  low3 = go (dec_le b3 224)
    where
      d : d3 ≡ c / 64
      d = refl

      go : Dec (b3 ≤ 224) → lowest b3 ≤ six_bits d3
      go (yes k) =
          let e : b3 ≡ 224 = omega (arith, range3.0) in
          let small : d3 < 64 = omega (arith, lead_is3) in
          let least : 32 ≤ d3 = omega (arith, d) in
          let same : d3 % 64 ≡ d3 = omega arith in
          omega (arith, lowest_224 b3 e)
      go (no k) = omega (arith, lowest_else b3 (λ e. omega arith) (λ e. omega (arith, range3.1)))

  high3 : six_bits d3 ≤ highest b3
  high3 = go (dec_le b3 236) (dec_le b3 237) (point_of c p)
    where
      d : d3 ≡ c / 64
      d = refl

      six : six_bits d3 ≤ 191
      six = omega arith

      go : Dec (b3 ≤ 236) → Dec (b3 ≤ 237) → (c ≤ 55295) ⊎ ((57344 ≤ c) × (c ≤ 1114111)) → six_bits d3 ≤ highest b3
      go (yes k) m o = omega (arith, six, highest_else b3 (λ e. omega arith) (λ e. omega arith))
      go (no k) (yes m) (inl o) =
          let e : b3 ≡ 237 = omega arith in
          let most : d3 ≤ 863 = omega (arith, d) in
          let least : 832 ≤ d3 = omega (arith, lead_is3) in
          let small : d3 % 64 ≤ 31 = omega arith in
          omega (arith, highest_237 b3 e)
      go (no k) (yes m) (inr o) =
          let least : 896 ≤ d3 = omega (arith, d, o.0) in
          absurd (omega (arith, lead_is3))
      go (no k) (no m) o = omega (arith, six, highest_else b3 (λ e. omega arith) (λ e. omega (arith, range3.1)))

  whole_three : Spelled c
  whole_three =
      record {
        lead = b3;
        more = six_bits d3 ∷ six_bits c ∷ [];
        bytes_are = bytes_three c g h;
        sound = λ r at.
            whole b3 2 (six_bits d3 ∷ six_bits c ∷ []) r at (lead_three b3 range3.0 range3.1) (omega arith) refl
            (rw (is_within_lem (lowest b3) (highest b3) (six_bits d3) low3 high3, is_within_lem 128 191 (six_bits c) (omega arith) (omega arith)) refl);
      }

module _ (c : ℕ) (g : 65535 < c) (p : is_point c ≡ true) where
  abbrev b4 : ℕ
  b4 = 240 + c / 262144

  abbrev d4 : ℕ
  d4 = c / 64

  abbrev e4 : ℕ
  e4 = c / 4096

  most4 : c ≤ 1114111
  most4 = go (point_of c p)
    where
      go : (c ≤ 55295) ⊎ ((57344 ≤ c) × (c ≤ 1114111)) → c ≤ 1114111
      go (inl o) = omega arith
      go (inr o) = o.1

  lead_is4 : b4 ≡ 240 + e4 / 64
  lead_is4 = go e4 refl
    where
      go : (e : ℕ) → e ≡ c / 4096 → 240 + c / 262144 ≡ 240 + e / 64
      go e q = omega arith

  range4 : (240 ≤ b4) × (b4 ≤ 244)
  range4 = let e : b4 ≡ 240 + c / 262144 = refl in (omega arith, omega (arith, most4))

  low4 : lowest b4 ≤ six_bits e4
  low4 = go (dec_le b4 240)
    where
      d : e4 ≡ c / 4096
      d = refl

      go : Dec (b4 ≤ 240) → lowest b4 ≤ six_bits e4
      go (yes k) =
          let e : b4 ≡ 240 = omega (arith, range4.0) in
          let small : e4 < 64 = omega (arith, lead_is4) in
          let least : 16 ≤ e4 = omega (arith, d) in
          let same : e4 % 64 ≡ e4 = omega arith in
          omega (arith, lowest_240 b4 e)
      go (no k) = omega (arith, lowest_else b4 (λ e. omega arith) (λ e. omega arith))

  high4 : six_bits e4 ≤ highest b4
  high4 = go (dec_le b4 243)
    where
      d : e4 ≡ c / 4096
      d = refl

      go : Dec (b4 ≤ 243) → six_bits e4 ≤ highest b4
      go (yes k) = omega (arith, highest_else b4 (λ e. omega (arith, range4.0)) (λ e. omega arith))
      go (no k) =
          let e : b4 ≡ 244 = omega (arith, range4.1) in
          let most : e4 ≤ 271 = omega (arith, d, most4) in
          let least : 256 ≤ e4 = omega (arith, lead_is4) in
          let small : e4 % 64 ≤ 15 = omega arith in
          omega (arith, highest_244 b4 e)

  whole_four : Spelled c
  whole_four =
      record {
        lead = b4;
        more = six_bits e4 ∷ six_bits d4 ∷ six_bits c ∷ [];
        bytes_are = bytes_four c g;
        sound = λ r at.
            whole b4 3 (six_bits e4 ∷ six_bits d4 ∷ six_bits c ∷ []) r at (lead_four b4 range4.0 range4.1) (omega arith) refl
            (rw (is_within_lem (lowest b4) (highest b4) (six_bits e4) low4 high4, is_within_lem 128 191 (six_bits d4) (omega arith) (omega arith), is_within_lem 128 191 (six_bits c) (omega arith) (omega arith)) refl);
      }

whole_point : (c : ℕ) → is_point c ≡ true → Spelled c
whole_point c p = go (dec_le c 127) (dec_le c 2047) (dec_le c 65535)
  where
    go : Dec (c ≤ 127) → Dec (c ≤ 2047) → Dec (c ≤ 65535) → Spelled c
    go (yes h) k m = whole_one c h
    go (no h) (yes k) m = whole_two c (omega arith) k
    go (no h) (no k) (yes m) = whole_three c (omega arith) m p
    go (no h) (no k) (no m) = whole_four c (omega arith) p

all_sound : (cs : List ℕ) → are_points cs ≡ true → (at : ℕ) → sound_from (utf8 cs) 0 128 191 at at ≡ at + length (utf8 cs)
all_sound [] e at = omega arith
all_sound (c ∷ cs) e at =
    let p = both (is_point c) (are_points cs) e in
    let w = whole_point c p.0 in
    let same : point_bytes c ++ utf8 cs ≡ w.lead ∷ (w.more ++ utf8 cs) = ap (λ (m : List ℕ). m ++ utf8 cs) w.bytes_are in
    ap (λ (m : List ℕ). sound_from m 0 128 191 at at) same
    ∙ w.sound (utf8 cs) at
    ∙ all_sound cs p.1 (at + suc (length w.more))
    ∙ omega (arith, ap length same, length-append w.more (utf8 cs))

pub utf8_is_text : (cs : List ℕ) → are_points cs ≡ true → is_text (utf8 cs) ≡ true
unfolding sound_up_to
utf8_is_text cs e = eq-eqb (sound_from (utf8 cs) 0 128 191 0 0) (length (utf8 cs)) (all_sound cs e 0 ∙ omega arith)

-- the code point at the front of some bytes

abbrev six : ℕ → List ℕ → ℕ
six k l = get_or l k 0 - 128

abbrev point_at : List ℕ → ℕ
point_at [] = 0
point_at (b ∷ l) =
    cond (leb b 127) b
    (cond (leb b 223) ((b - 192) * 64 + six 0 l)
    (cond (leb b 239) (((b - 224) * 64 + six 0 l) * 64 + six 1 l)
    ((((b - 240) * 64 + six 0 l) * 64 + six 1 l) * 64 + six 2 l)))

three_digits : (c d e : ℕ) → d ≡ c / 64 → e ≡ d / 64 → (e * 64 + d % 64) * 64 + c % 64 ≡ c
three_digits c d e p q = omega arith

four_digits : (c d e f : ℕ) → d ≡ c / 64 → e ≡ d / 64 → f ≡ e / 64 → ((f * 64 + e % 64) * 64 + d % 64) * 64 + c % 64 ≡ c
four_digits c d e f p q r = omega (arith, three_digits c d e p q)

less : (n : ℕ) → six_bits n - 128 ≡ n % 64
less n = omega arith

at_point : (c : ℕ) (r : List ℕ) → point_at (point_bytes c ++ r) ≡ c
at_point c r = go (dec_le c 127) (dec_le c 2047) (dec_le c 65535)
  where
    go : Dec (c ≤ 127) → Dec (c ≤ 2047) → Dec (c ≤ 65535) → point_at (point_bytes c ++ r) ≡ c
    go (yes h) k m = ap (λ (l : List ℕ). point_at (l ++ r)) (bytes_one c h) ∙ rw (le-leb c 127 h) refl
    go (no h) (yes k) m =
        ap (λ (l : List ℕ). point_at (l ++ r)) (bytes_two c (omega arith) k)
        ∙ rw (lt-leb (192 + c / 64) 127 (omega arith), le-leb (192 + c / 64) 223 (omega arith)) (omega (arith, less c))
    go (no h) (no k) (yes m) =
        let a : 224 + c / 4096 - 224 ≡ c / 64 / 64 = omega (arith, div_twice c (c / 64) (c / 64 / 64) refl refl) in
        ap (λ (l : List ℕ). point_at (l ++ r)) (bytes_three c (omega arith) m)
        ∙ rw (lt-leb (224 + c / 4096) 127 (omega arith), lt-leb (224 + c / 4096) 223 (omega arith), le-leb (224 + c / 4096) 239 (omega arith), a, less (c / 64), less c)
        (three_digits c (c / 64) (c / 64 / 64) refl refl)
    go (no h) (no k) (no m) =
        let twice = div_twice c (c / 64) (c / 64 / 64) refl refl in
        let a : 240 + c / 262144 - 240 ≡ c / 64 / 64 / 64 = omega (arith, div_thrice c (c / 64) (c / 64 / 64) (c / 64 / 64 / 64) refl refl refl) in
        ap (λ (l : List ℕ). point_at (l ++ r)) (bytes_four c (omega arith))
        ∙ rw (lt-leb (240 + c / 262144) 127 (omega arith), lt-leb (240 + c / 262144) 223 (omega arith), lt-leb (240 + c / 262144) 239 (omega arith), a, less (c / 4096), less (c / 64), less c, twice)
        (four_digits c (c / 64) (c / 64 / 64) (c / 64 / 64 / 64) refl refl refl)

bytes_some : (c : ℕ) → 1 ≤ length (point_bytes c)
bytes_some c = go (leb c 127) (leb c 2047) (leb c 65535)
  where
    go : (p q r : Bool)
        → 1 ≤ length
        (cond p (c ∷ []) (cond q ((192 + c / 64) ∷ six_bits c ∷ []) (cond r ((224 + c / 4096) ∷ six_bits (c / 64) ∷ six_bits c ∷ []) ((240 + c / 262144) ∷ six_bits (c / 4096) ∷ six_bits (c / 64) ∷ six_bits c ∷ []))))
    go true q r = omega arith
    go false true r = omega arith
    go false false true = omega arith
    go false false false = omega arith

-- bytes are the encoding of one list of code points
pub one_reading : (cs ds : List ℕ) → utf8 cs ≡ utf8 ds → cs ≡ ds
one_reading [] [] e = refl
one_reading [] (d ∷ ds) e = absurd (omega (arith, ap length e, length-append (point_bytes d) (utf8 ds), bytes_some d))
one_reading (c ∷ cs) [] e = absurd (omega (arith, ap length e, length-append (point_bytes c) (utf8 cs), bytes_some c))
one_reading (c ∷ cs) (d ∷ ds) e =
    let same : c ≡ d = sym (at_point c (utf8 cs)) ∙ ap point_at e ∙ at_point d (utf8 ds) in
    let rest : utf8 cs ≡ utf8 ds =
    sym (drop_front (point_bytes c) (utf8 cs)) ∙ ap (drop (length (point_bytes c))) (e ∙ ap (λ (x : ℕ). point_bytes x ++ utf8 ds) (sym same)) ∙ drop_front (point_bytes c) (utf8 ds) in
    ap (λ (x : ℕ). x ∷ cs) same ∙ ap (λ (l : List ℕ). d ∷ l) (one_reading cs ds rest)

-- two texts of the same characters are the same bytes
pub one_spelling : {l m : List ℕ} (p : IsUtf8 l) (q : IsUtf8 m) → p.points ≡ q.points → l ≡ m
one_spelling p q e = p.is ∙ ap utf8 e ∙ sym q.is

-- and a text has its characters
pub same_points : {l : List ℕ} (p q : IsUtf8 l) → p.points ≡ q.points
same_points p q = one_reading p.points q.points (sym p.is ∙ q.is)
