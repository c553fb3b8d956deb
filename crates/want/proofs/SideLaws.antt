-- Walking the five tables side by side: what is left of each, and what a turn passes.
use Rattle.std.specs.Prelude.{Some, None}
use Rattle.std.specs.declared.option.Option.{Option}
use Prim.Native.Nat.{ℕ, zero, suc, ◌+◌, ◌*◌, ◌≤◌, ◌<◌}
use mathlib.Core.List.Memᴰ
use mathlib.Core.List.{List, [], ◌∷◌, map}
use mathlib.Core.Path.{◌≡◌, refl, sym, ap, subst, ◌∙◌}
use mathlib.Core.Logic.{inl, inr}
use mathlib.Core.Bool.{Bool, true, false, cond}
use native.Mathlib.Omega.{arith}
use lib.ListN.{length, get_or, drop, get_or-map}
use lib.Seq.{drop-drop}
use Rattle.xdr.specs.Format.{read}
use Rattle.record.specs.Block.{Block}
use Rattle.record.specs.File.{File}
use Rattle.record.specs.Outline.{outline_of, fields_of}
use Rattle.record.specs.declared.outline.RecordFields.{RecordFields}
use Rattle.order.specs.Order.{is_equal, compare_lists, part}
use Rattle.table.specs.Table.{records}
use Rattle.order.proofs.OrderLaws.{Below, below_trans}
use Rattle.record.proofs.RisingLaws.{Above, Rising}
use Rattle.table.proofs.TableLaws.{good_table}
use Rattle.table.specs.Steps.Standing.{At}
use Rattle.table.proofs.WalkLaws.{at_start_lem, at_end, standing}
use Rattle.merge.specs.Merged.{merged_of}
use Rattle.merge.specs.Highest.{joined}
use Rattle.merge.proofs.HighestLaws.{◌∈◌, AllOK, merged_highest}
use Rattle.merge.proofs.MergeLaws.{all_ok}
use Rattle.want.specs.Listing.{listed, is_current, has_there, lists_there}
use Rattle.want.specs.Steps.Blocks.{blocks_from, listed_count}
use Rattle.want.specs.Wanted.{peer_from}
use Rattle.want.specs.Steps.Places.{table_at, place_at, lowest_from, past_name, places_after, lists_at, first_of, peer_at, starts, Five}
use Rattle.want.proofs.ListingLaws.{listed_few, heads, none_here, listed_blocks, listed_within}
use Rattle.want.proofs.ThereLaws.{past_none, past_by_lem, lists_none, lists_by_lem}
use Rattle.want.proofs.PlaceLaws.{first_next, first_none}
use Rattle.want.proofs.HeadLaws.{Leads, without, above_test, same_test, all_left, tail_left, rest_in, rest_rising, in_joined, length_map, left_of, Heading, head_in, left_above, left_in, merged_next}
use Rattle.want.proofs.FirstLaws.{First, Lead, lowest_leads}

-- one of five
pub by_five : (P : ℕ → Type 0) → P 0 → P 1 → P 2 → P 3 → P 4 → (k : ℕ) → k < 5 → P k
by_five P a b c d e zero h = a
by_five P a b c d e (suc zero) h = b
by_five P a b c d e (suc (suc zero)) h = c
by_five P a b c d e (suc (suc (suc zero))) h = d
by_five P a b c d e (suc (suc (suc (suc zero)))) h = e
by_five P a b c d e (suc (suc (suc (suc (suc k))))) h = absurd (omega arith)

-- how far the peers have come
abbrev pub peers_total : List ℕ → ℕ
peers_total ps = place_at ps 1 + place_at ps 2 + place_at ps 3 + place_at ps 4

-- how far all have come
abbrev pub total : List ℕ → ℕ
total ps = place_at ps 0 + peers_total ps

-- none goes back, and one of them goes on by n
module _ (ps qs : List ℕ) (n : ℕ) (h : (k : ℕ) → k < 5 → place_at ps k ≤ place_at qs k) where
  pub total_rises : (b : ℕ) → b < 5 → place_at ps b + n ≤ place_at qs b → total ps + n ≤ total qs
  total_rises =
      by_five (λ b. place_at ps b + n ≤ place_at qs b → total ps + n ≤ total qs)
      (λ g. omega (arith, h 1 (omega arith), h 2 (omega arith), h 3 (omega arith), h 4 (omega arith)))
      (λ g. omega (arith, h 0 (omega arith), h 2 (omega arith), h 3 (omega arith), h 4 (omega arith)))
      (λ g. omega (arith, h 0 (omega arith), h 1 (omega arith), h 3 (omega arith), h 4 (omega arith)))
      (λ g. omega (arith, h 0 (omega arith), h 1 (omega arith), h 2 (omega arith), h 4 (omega arith)))
      (λ g. omega (arith, h 0 (omega arith), h 1 (omega arith), h 2 (omega arith), h 3 (omega arith)))

  pub peers_rise : (b : ℕ) → b < 5 → 0 < b → place_at ps b + n ≤ place_at qs b → peers_total ps + n ≤ peers_total qs
  peers_rise =
      by_five (λ b. 0 < b → place_at ps b + n ≤ place_at qs b → peers_total ps + n ≤ peers_total qs)
      (λ z g. absurd (omega arith))
      (λ z g. omega (arith, h 2 (omega arith), h 3 (omega arith), h 4 (omega arith)))
      (λ z g. omega (arith, h 1 (omega arith), h 3 (omega arith), h 4 (omega arith)))
      (λ z g. omega (arith, h 1 (omega arith), h 2 (omega arith), h 4 (omega arith)))
      (λ z g. omega (arith, h 1 (omega arith), h 2 (omega arith), h 3 (omega arith)))

pub place_after : (ts : List (List ℕ)) (ps name : List ℕ) (k : ℕ) → k < 5 → place_at (places_after ts ps name) k ≡ past_name name (table_at ts k) (place_at ps k)
place_after ts ps name = by_five (λ k. place_at (places_after ts ps name) k ≡ past_name name (table_at ts k) (place_at ps k)) refl refl refl refl refl

-- one table

pub above_next : (m n : List ℕ) (l : List File) → Below m n → Above n l → Above m l
above_next m n [] h a = tt
above_next m n (f ∷ fs) h a = below_trans m n f.name h a

lists_above : (n : List ℕ) (l : List File) → Above n l → Rising l → (offset : ℕ) (b : Block) → lists_there l n offset b ≡ false
lists_above n [] a r offset b = refl
lists_above n (f ∷ fs) a r offset b = rw (above_test n f.name a) (lists_above n fs (above_next n f.name fs a r.0) r.1 offset b)

-- a name that is passed changes nothing for later ones
lists_left : (w : File) (l : List File) (n : List ℕ) → Below w.name n → (offset : ℕ) (b : Block) → Leads w l → lists_there l n offset b ≡ lists_there (without w l) n offset b
lists_left w [] n h offset b p = refl
lists_left w (f ∷ fs) n h offset b (inl q) = ap (λ (l : List File). lists_there l n offset b) (sym (all_left w f fs q))
lists_left w (f ∷ fs) n h offset b (inr q) =
    let below : Below f.name n = subst (λ (m : List ℕ). Below m n) q.0 h in
    rw (ap is_equal below) (ap (λ (l : List File). lists_there l n offset b) (sym (tail_left w f fs q.0)))

module _ {t : List ℕ} {at : ℕ} where
  pub past_is : {f : File} {fs : List File} (name : List ℕ) → At t at (f ∷ fs) → past_name name t at ≡ cond (is_equal (compare_lists f.name name)) (fields_of at f).past at
  past_is {f} name u =
      sym (past_by_lem name t at refl (standing u).outline_is refl refl refl {v = is_equal (compare_lists f.name name)} (ap (λ (l : List ℕ). is_equal (compare_lists l name)) (standing u).name_is))

  -- it goes on with what is left
  past_here : (w : File) (l : List File) → At t at l → At t (past_name w.name t at) (without w l)
  past_here w [] u = subst (λ (p : ℕ). At t p []) (past_none w.name t at refl (at_end u)) u
  past_here w (f ∷ fs) u = subst (λ (p : ℕ). At t p (without w (f ∷ fs))) (sym (past_is w.name u)) (go (is_equal (compare_lists f.name w.name)))
    where
      go : (v : Bool) → At t (cond v (fields_of at f).past at) (cond v fs (f ∷ fs))
      go true = (standing u).next
      go false = u

  past_rises : (name : List ℕ) (l : List File) → At t at l → at ≤ past_name name t at
  past_rises name [] u = omega (arith, past_none name t at refl (at_end u))
  past_rises name (f ∷ fs) u = omega (arith, past_is name u, go (is_equal (compare_lists f.name name)))
    where
      go : (v : Bool) → at ≤ cond v (fields_of at f).past at
      go true = omega (arith, (standing u).sized)
      go false = omega arith

  past_head : (w : File) (l : List File) → At t at (w ∷ l) → past_name w.name t at ≡ (fields_of at w).past
  past_head w l u = past_is w.name u ∙ rw (same_test w.name w.name refl) refl

  -- what the record at the place lists is what the table does, from there on
  lists_here : (w : File) (l : List File) → At t at l → Leads w l → Rising l → (offset : ℕ) (b : Block) → lists_at t at w.name offset b ≡ lists_there l w.name offset b
  lists_here w [] u p r offset b = sym (lists_none w.name t at refl offset b (at_end u))
  lists_here w (f ∷ fs) u p r offset b =
      sym (lists_by_lem w.name t at refl (standing u).outline_is refl refl refl offset b {v = is_equal (compare_lists f.name w.name)} (ap (λ (l : List ℕ). is_equal (compare_lists l w.name)) (standing u).name_is))
      ∙ ap (λ (l : List Block). cond (is_equal (compare_lists f.name w.name)) (has_there 0 l offset b) false) (listed_blocks u)
      ∙ go p
    where
      go : Leads w (f ∷ fs) → cond (is_equal (compare_lists f.name w.name)) (has_there 0 (listed f) offset b) false
          ≡ cond (is_equal (compare_lists f.name w.name)) (has_there 0 (listed f) offset b) (lists_there fs w.name offset b)
      go (inl q) = rw (above_test w.name f.name q) (sym (lists_above w.name fs (above_next w.name f.name fs q r.0) r.1 offset b))
      go (inr q) = rw (same_test w.name f.name q.0) refl

-- the records of five tables that are left, at a place of each
pub record Walk (ts : List (List ℕ)) (ps : List ℕ) (ls : List (List File)) : Type 0 where
  pub many : length ls ≡ 5
  pub here : (k : ℕ) → k < 5 → At (table_at ts k) (place_at ps k) (get_or ls k [])
  pub rising : (k : ℕ) → k < 5 → Rising (get_or ls k [])
  pub among : (k : ℕ) → k < 5 → (f : File) → f ∈ get_or ls k [] → f ∈ records (table_at ts k)
  pub lists : (f : File) → f ∈ joined ls → (k : ℕ) → k < 5 → (offset : ℕ) (b : Block) → lists_there (records (table_at ts k)) f.name offset b ≡ lists_there (get_or ls k []) f.name offset b

no_records : records [] ≡ []
unfolding records read
no_records = refl

pub records_of : (ts : List (List ℕ)) (k : ℕ) → get_or (map records ts) k [] ≡ records (table_at ts k)
records_of ts k = ap (get_or (map records ts) k) (sym no_records) ∙ get_or-map records ts k []

-- before the first turn

pub at_four : (k : ℕ) → k < 5 → place_at starts k ≡ 4
at_four = by_five (λ k. place_at starts k ≡ 4) refl refl refl refl refl

pub walk_starts : (ts : List (List ℕ)) → Five ts → Walk ts starts (map records ts)
walk_starts ts g =
    record {
      many = length_map records ts ∙ g.many;
      here = λ k s.
          subst (λ (l : List File). At (table_at ts k) (place_at starts k) l) (sym (records_of ts k))
          (subst (λ (p : ℕ). At (table_at ts k) p (records (table_at ts k))) (sym (at_four k s)) (at_start_lem (good_table (table_at ts k) (g.bytes k s) (g.good k s))));
      rising = λ k s. subst Rising (sym (records_of ts k)) (good_table (table_at ts k) (g.bytes k s) (g.good k s)).rising;
      among = λ k s f m. subst (λ (l : List File). f ∈ l) (records_of ts k) m;
      lists = λ f m k s offset b. ap (λ (l : List File). lists_there l f.name offset b) (sym (records_of ts k));
    }

-- the record at the place of the lowest table, by its outline
pub record Turn (ts : List (List ℕ)) (ps : List ℕ) (ls : List (List File)) (k : ℕ) (t : List ℕ) (f : RecordFields) : Type 0 where
  pub small : k < 5
  pub table_is : t ≡ table_at ts k
  pub head : File
  pub tail : List File
  pub fields_are : f ≡ fields_of (place_at ps k) head
  pub here : At t (place_at ps k) (head ∷ tail)
  pub heading : Heading ls head
  pub is : get_or ls k [] ≡ head ∷ tail

module _ {ts : List (List ℕ)} {ps : List ℕ} {ls : List (List File)} (w : Walk ts ps ls) where
  all_sound : AllOK (joined ls)
  all_sound f m =
      let i = in_joined ls f m in
      let s : i.number < 5 = omega (arith, i.small, w.many) in
      all_ok (get_or ls i.number []) (w.here i.number s).valid f i.there

  lead : {k : ℕ} → k ≡ lowest_from ts ps 0 1 4 → Lead ts ps ls w.here k
  lead e = subst (Lead ts ps ls w.here) (sym e) (lowest_leads ts ps ls w.here)

  module _ {k : ℕ} {t : List ℕ} {x : Option RecordFields} (e : k ≡ lowest_from ts ps 0 1 4) (z : t ≡ table_at ts k) (y : x ≡ outline_of t (place_at ps k)) where
    stands : At t (place_at ps k) (get_or ls k [])
    stands = subst (λ (l : List ℕ). At l (place_at ps k) (get_or ls k [])) (sym z) (w.here k (lead e).small)

    pub turn : {f : RecordFields} → x ≡ Some f → Turn ts ps ls k t f
    turn {f} g =
        let h = heads (get_or ls k []) stands y g in
        record {
          small = (lead e).small;
          table_is = z;
          head = h.head;
          tail = h.tail;
          fields_are = h.fields_are;
          here = h.here;
          heading = record {
            number = k;
            small = omega (arith, (lead e).small, w.many);
            tail = h.tail;
            is = h.is;
            leads = λ m s. subst (λ (l : List File). First l (get_or ls m [])) h.is ((lead e).leads m (omega (arith, w.many)));
            rising = λ m s. w.rising m (omega (arith, w.many));
            ok = all_sound;
          };
          is = h.is;
        }

    -- nothing is left
    pub turns_end : x ≡ None → merged_of ls ≡ []
    turns_end g = go (merged_of ls) (λ f m. (merged_highest ls).from f m)
      where
        none : (m : ℕ) → m < 5 → get_or ls m [] ≡ []
        none m s = subst (λ (l : List File). First l (get_or ls m [])) (none_here (get_or ls k []) stands y g) ((lead e).leads m s)

        go : (l : List File) → ((f : File) → f ∈ l → f ∈ joined ls) → l ≡ []
        go [] from = refl
        go (f ∷ fs) from =
            let i = in_joined ls f (from f (Memᴰ.head refl)) in
            absurd (Memᴰ.not-nil (subst (λ (l : List File). f ∈ l) (none i.number (omega (arith, i.small, w.many))) i.there))

  module _ {k : ℕ} {t : List ℕ} {f : RecordFields} (u : Turn ts ps ls k t f) where
    pub turn_merges : merged_of ls ≡ u.head ∷ merged_of (map (without u.head) ls)
    turn_merges = merged_next u.heading

    pub turn_name : part t f.name f.stop ≡ u.head.name
    turn_name = rw u.fields_are (standing u.here).name_is

    pub turn_blocks : blocks_from t f.first 0 (listed_count f) ≡ listed u.head
    turn_blocks = rw u.fields_are (listed_blocks u.here)

    pub turn_within : f.first + listed_count f * 40 ≤ length t
    turn_within = rw u.fields_are (listed_within u.here)

    leads : (m : ℕ) → m < 5 → Leads u.head (get_or ls m [])
    leads m s = u.heading.leads m (omega (arith, w.many))

    pub turn_next : (qs : List ℕ) → qs ≡ places_after ts ps u.head.name → Walk ts qs (map (without u.head) ls)
    turn_next qs e =
        record {
          many = length_map (without u.head) ls ∙ w.many;
          here = λ m s.
              subst (λ (p : ℕ). At (table_at ts m) p (get_or (map (without u.head) ls) m [])) (sym (ap (λ (q : List ℕ). place_at q m) e ∙ place_after ts ps u.head.name m s))
              (subst (At (table_at ts m) (past_name u.head.name (table_at ts m) (place_at ps m))) (sym (left_of u.head ls m)) (past_here u.head (get_or ls m []) (w.here m s)));
          rising = λ m s. subst Rising (sym (left_of u.head ls m)) (rest_rising u.head (get_or ls m []) (leads m s) (w.rising m s));
          among = λ m s g i. w.among m s g (rest_in u.head (get_or ls m []) (leads m s) g (subst (λ (l : List File). g ∈ l) (left_of u.head ls m) i));
          lists = λ g i m s offset b.
              w.lists g (left_in u.heading g i) m s offset b
              ∙ lists_left u.head (get_or ls m []) g.name (left_above u.heading g i) offset b (leads m s)
              ∙ ap (λ (l : List File). lists_there l g.name offset b) (sym (left_of u.head ls m));
        }

    -- the record is one of its table's
    pub turn_among : u.head ∈ records (table_at ts k)
    turn_among = w.among k u.small u.head (subst (λ (l : List File). u.head ∈ l) (sym u.is) (Memᴰ.head refl))

    -- no table goes back, and its own goes on by more than its blocks
    module _ (qs : List ℕ) (e : qs ≡ places_after ts ps u.head.name) where
      pub turn_grows : (m : ℕ) → m < 5 → place_at ps m ≤ place_at qs m
      turn_grows m s = omega (arith, ap (λ (q : List ℕ). place_at q m) e, place_after ts ps u.head.name m s, past_rises u.head.name (get_or ls m []) (w.here m s))

      pub turn_passes : place_at ps k + (listed_count f * 40 + 24) ≤ place_at qs k
      turn_passes = omega (arith, ap (λ (q : List ℕ). place_at q k) e, place_after ts ps u.head.name k u.small, head_past, past_enough)
        where
          head_past : past_name u.head.name (table_at ts k) (place_at ps k) ≡ f.past
          head_past = ap (λ (l : List ℕ). past_name u.head.name l (place_at ps k)) (sym u.table_is) ∙ past_head u.head u.tail u.here ∙ sym (ap (λ (g : RecordFields). g.past) u.fields_are)

          past_enough : place_at ps k + (listed_count f * 40 + 24) ≤ f.past
          past_enough = rw u.fields_are (omega (arith, listed_few (is_current u.head.flags) (length u.head.blocks)))

    -- whom to ask

    head_of : (l : List (List ℕ)) (m : ℕ) (q : List ℕ) (qs : List (List ℕ)) → drop m l ≡ q ∷ qs → get_or l m [] ≡ q
    head_of [] zero q qs e = cc
    head_of [] (suc m) q qs e = cc
    head_of (x ∷ l) zero q qs e = cc
    head_of (x ∷ l) (suc m) q qs e = head_of l m q qs e

    peers_from_lem : (qs : List (List ℕ)) (m : ℕ) → drop m ts ≡ qs → m + length qs ≡ 5 → (offset : ℕ) (b : Block)
        → first_of (λ k. lists_at (table_at ts k) (place_at ps k) u.head.name offset b) m (length qs) ≡ peer_from m (map records qs) u.head.name offset b
    peers_from_lem [] m d c offset b = first_none (λ k. lists_at (table_at ts k) (place_at ps k) u.head.name offset b) m
    peers_from_lem (q ∷ qs) m d c offset b =
        let s : m < 5 = omega arith in
        let mine : lists_at (table_at ts m) (place_at ps m) u.head.name offset b ≡ lists_there (records q) u.head.name offset b =
        lists_here u.head (get_or ls m []) (w.here m s) (leads m s) (w.rising m s) offset b
        ∙ sym (w.lists u.head (head_in u.heading) m s offset b)
        ∙ ap (λ (l : List ℕ). lists_there (records l) u.head.name offset b) (head_of ts m q qs d) in
        let after : drop (m + 1) ts ≡ qs = sym (drop-drop 1 m ts) ∙ ap (drop 1) d in
        let is : ℕ → Bool = λ k. lists_at (table_at ts k) (place_at ps k) u.head.name offset b in
        first_next is m (length qs)
        ∙ ap (λ (v : Bool). cond v m (first_of is (m + 1) (length qs))) mine
        ∙ ap (λ (n : ℕ). cond (lists_there (records q) u.head.name offset b) m n) (peers_from_lem qs (m + 1) after (omega arith) offset b)

    pub turn_peers : length (drop 1 ts) ≡ 4 → (offset : ℕ) (b : Block) → peer_at ts ps u.head.name offset b ≡ peer_from 1 (map records (drop 1 ts)) u.head.name offset b
    turn_peers c offset b = ap (first_of (λ k. lists_at (table_at ts k) (place_at ps k) u.head.name offset b) 1) (sym c) ∙ peers_from_lem (drop 1 ts) 1 refl (omega (arith, c)) offset b
