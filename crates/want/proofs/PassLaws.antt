-- The next name over five tables by names alone: what the loop over them keeps.
use Rattle.std.specs.Prelude.{Some, None}
use Rattle.std.specs.declared.option.Option.{Option}
use Prim.Native.Nat.{ℕ, ◌+◌, ◌≤◌, ◌<◌}
use mathlib.Core.List.{List, [], ◌∷◌}
use mathlib.Core.Path.{◌≡◌, refl, sym, ap, subst, ◌∙◌}
use native.Mathlib.Omega.{arith}
use lib.ListN.{length, set}
use Rattle.record.specs.Outline.{outline_of}
use Rattle.record.specs.declared.outline.RecordFields.{RecordFields}
use Rattle.order.specs.Order.{compare_lists}
use Rattle.std.specs.declared.cmp.Ordering.{Ordering}
use Rattle.std.specs.declared.cmp.Ordering.TheVariants.{Less, Equal, Greater}
use Rattle.order.proofs.OrderLaws.{equal_same}
use Rattle.want.specs.Steps.Places.{table_at, place_at}
use Rattle.want.specs.Steps.Head.{name_at, Stands, rank_of, past_of, Headed, name_in, order_in, Passes}
use Rattle.want.specs.declared.head.Rank.{Rank}
use Rattle.want.specs.declared.head.Rank.TheVariants.{Before, Same, Newer, After}
use Rattle.want.proofs.FieldLaws.{outline_none, stands_there, whole_there}
use Rattle.want.proofs.RankLaws.{order_of, names_are, order_rank, head_starts, head_before, head_same, head_newer, head_after, head_ends}

-- how two names compare, by what is at their places

module _ (a b : List ℕ) {f g : Option RecordFields} {y : RecordFields} (k : g ≡ Some y) where
  by_whole : {o : Option RecordFields} → f ≡ o → order_in (name_in a o) (name_at b y ∷ []) ≡ order_in (name_in a f) (name_in b g)
  by_whole e = sym (ap (λ (z : Option RecordFields). order_in (name_in a f) (name_in b z)) k ∙ ap (λ (z : Option RecordFields). order_in (name_in a z) (name_at b y ∷ [])) e)

  pub none_last : f ≡ None → Greater ≡ order_in (name_in a f) (name_in b g)
  none_last e = by_whole e

  pub names_compared : {x : RecordFields} {o : Ordering} → f ≡ Some x → o ≡ compare_lists (name_at a x) (name_at b y) → o ≡ order_in (name_in a f) (name_in b g)
  names_compared e q = q ∙ by_whole e

-- the higher of two records has the same name
newer_name : (a : List ℕ) (f : Option RecordFields) (b : List ℕ) (g : Option RecordFields) → rank_of a f b g ≡ Newer → name_in a f ≡ name_in b g
newer_name a None b None r = cc
newer_name a None b (Some y) r = cc
newer_name a (Some x) b None r = cc
newer_name a (Some x) b (Some y) r = ap (λ (l : List ℕ). l ∷ []) (equal_same (name_at a x) (name_at b y) (names_are a x b y r))

-- the name of the record in `best` is that of the next record of the tables below k, whichever has it, and `past` is where they go on after it
pub record Named (ts : List (List ℕ)) (ps : List ℕ) (k best : ℕ) (past : List ℕ) : Type 0 where
  pub head : ℕ
  pub fields : Option RecordFields
  pub headed : Headed ts ps k head fields past
  pub small : best < 5
  pub same : name_in (table_at ts best) (outline_of (table_at ts best) (place_at ps best)) ≡ name_in (table_at ts head) fields

pub named_starts : (ts : List (List ℕ)) (ps : List ℕ) {x : ℕ} → x ≡ past_of (outline_of (table_at ts 0) (place_at ps 0)) (place_at ps 0) → length ps ≡ 5 → Named ts ps 1 0 (set ps 0 x)
named_starts ts ps p long = record { head = 0; fields = outline_of (table_at ts 0) (place_at ps 0); headed = head_starts ts ps refl p long; small = omega arith; same = refl }

module _ {ts : List (List ℕ)} {ps : List ℕ} {k best : ℕ} {past : List ℕ} (w : Named ts ps k best past) where
  module _ (h : k < 5) (long : length ps ≡ 5) {x : ℕ} (y : x ≡ past_of (outline_of (table_at ts k) (place_at ps k)) (place_at ps k)) where
    -- by how its name and that of table k compare
    abbrev pub Turned : Ordering → Type 0
    Turned Less = Named ts ps (k + 1) best past
    Turned Equal = Named ts ps (k + 1) best (set past k x)
    Turned Greater = Named ts ps (k + 1) k (set ps k x)

    by_rank : (r : Rank) → r ≡ rank_of (table_at ts w.head) w.fields (table_at ts k) (outline_of (table_at ts k) (place_at ps k)) → Turned (order_of r)
    by_rank Before q = record { head = w.head; fields = w.fields; headed = head_before w.headed h long refl q refl; small = w.small; same = w.same }
    by_rank Same q = record { head = w.head; fields = w.fields; headed = head_same w.headed h long refl q y refl; small = w.small; same = w.same }
    by_rank Newer q =
        record {
          head = k;
          fields = outline_of (table_at ts k) (place_at ps k);
          headed = head_newer w.headed h long refl q y refl;
          small = w.small;
          same = w.same ∙ newer_name (table_at ts w.head) w.fields (table_at ts k) (outline_of (table_at ts k) (place_at ps k)) (sym q);
        }
    by_rank After q = record { head = k; fields = outline_of (table_at ts k) (place_at ps k); headed = head_after w.headed h long refl q y refl; small = h; same = refl }

    pub named_turn : {o v : Ordering}
        → o ≡ order_in (name_in (table_at ts best) (outline_of (table_at ts best) (place_at ps best))) (name_in (table_at ts k) (outline_of (table_at ts k) (place_at ps k))) → o ≡ v → Turned v
    named_turn {o} {v} q e =
        subst Turned
        (order_rank (table_at ts w.head) w.fields (table_at ts k) (outline_of (table_at ts k) (place_at ps k))
        ∙ ap (λ (m : List (List ℕ)). order_in m (name_in (table_at ts k) (outline_of (table_at ts k) (place_at ps k)))) (sym w.same)
        ∙ sym q
        ∙ e)
        (by_rank (rank_of (table_at ts w.head) w.fields (table_at ts k) (outline_of (table_at ts k) (place_at ps k))) refl)

  -- by whether `best` has a record

  no_name : (t : List ℕ) (x : Option RecordFields) → [] ≡ name_in t x → x ≡ None
  no_name t None e = refl
  no_name t (Some f) e = cc

  a_name : (t : List ℕ) (x : Option RecordFields) {n : List ℕ} → (n ∷ []) ≡ name_in t x → (f : RecordFields) × (x ≡ Some f)
  a_name t None e = cc
  a_name t (Some f) e = (f, refl)

  name_is : {o : Option RecordFields} → o ≡ outline_of (table_at ts best) (place_at ps best) → name_in (table_at ts best) o ≡ name_in (table_at ts w.head) w.fields
  name_is e = ap (name_in (table_at ts best)) e ∙ w.same

  pub named_none : k ≤ 5 → 5 ≤ k → {t : List ℕ} → t ≡ table_at ts best → length t ≤ place_at ps best → Passes ts ps None
  named_none p q e h =
      record {
        best = w.head;
        fields = w.fields;
        past = past;
        headed = head_ends w.headed p q;
        none = λ b. no_name (table_at ts w.head) w.fields (name_is (outline_none (table_at ts best) (place_at ps best) (omega (arith, ap length e, h))));
        some = λ qs b. cc;
      }

  pub named_some : k ≤ 5 → 5 ≤ k → Stands (table_at ts best) (place_at ps best) → {t : List ℕ} → t ≡ table_at ts best → place_at ps best < length t → Passes ts ps (Some past)
  named_some p q s e h =
      record {
        best = w.head;
        fields = w.fields;
        past = past;
        headed = head_ends w.headed p q;
        none = λ b. cc;
        some = λ qs b.
            let stood = stands_there (table_at ts best) (place_at ps best) s (omega (arith, ap length e, h)) in
            let k : Some past ≡ Some qs = b in
            let same : qs ≡ past = cc in
            let a = a_name (table_at ts w.head) w.fields (name_is (sym (whole_there (table_at ts best) (place_at ps best) stood))) in
            (same, a.0, a.1);
      }

-- in tables that are lent as others

pub order_as : {a b s t : List ℕ} (i j : ℕ) {o : Ordering} → o ≡ order_in (name_in a (outline_of a i)) (name_in b (outline_of b j)) → a ≡ s → b ≡ t → o ≡ order_in (name_in s (outline_of s i)) (name_in t (outline_of t j))
order_as {a} {b} {s} i j e k l = e ∙ ap (λ (x : List ℕ). order_in (name_in x (outline_of x i)) (name_in b (outline_of b j))) k ∙ ap (λ (x : List ℕ). order_in (name_in s (outline_of s i)) (name_in x (outline_of x j))) l

pub named_as : {ts : List (List ℕ)} {ps : List ℕ} {k b c : ℕ} {l m : List ℕ} → Named ts ps k b l → c ≡ b → m ≡ l → Named ts ps k c m
named_as {ts} {ps} {k} {b} {c} {l} {m} w p q = subst (λ (x : ℕ). Named ts ps k x m) (sym p) (subst (λ (x : List ℕ). Named ts ps k b x) (sym q) w)
