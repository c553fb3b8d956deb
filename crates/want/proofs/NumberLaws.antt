-- The walk to name number n of five tables: the table that has its record is the first that does, and the place is where the record stands there.
use Rattle.std.specs.Prelude.{Some, None}
use Rattle.std.specs.declared.option.Option.{Option}
use Prim.Native.Nat.{ℕ, zero, suc, ◌+◌, ◌<◌}
use mathlib.Core.List.{List, [], ◌∷◌, map}
use mathlib.Core.Path.{◌≡◌, refl, sym, ap, subst, ◌∙◌}
use mathlib.Core.Logic.{inl, inr}
use mathlib.Core.Bool.{Bool, true, false, cond, ◌&&◌, ◌||◌}
use native.Mathlib.Omega.{arith}
use native.Mathlib.Nat.{add-zero, zero-add}
use lib.ListN.{length, get_or}
use Rattle.xdr.specs.Format.{encode}
use Rattle.record.specs.File.{File, file}
use Rattle.record.specs.Outline.{fields_of}
use Rattle.record.specs.declared.outline.RecordFields.{RecordFields}
use Rattle.order.specs.Order.{is_equal, compare_lists}
use Rattle.std.specs.declared.cmp.Ordering.{Ordering}
use Rattle.std.specs.declared.cmp.Ordering.TheVariants.{Less, Equal, Greater}
use Rattle.order.proofs.OrderLaws.{Below, same_equal}
use Rattle.record.proofs.RisingLaws.{Above, Rising}
use Rattle.table.specs.Newest.{compare_files}
use Rattle.table.specs.Table.{records}
use Rattle.table.specs.Steps.Standing.{At}
use Rattle.table.proofs.NewestLaws.{newest_same}
use Rattle.table.proofs.WalkLaws.{at_end, standing}
use Rattle.merge.specs.Merged.{merged_of}
use Rattle.merge.specs.Highest.{joined}
use Rattle.merge.proofs.HighestLaws.{◌∈◌}
use Rattle.want.specs.Details.{file_numbered, is_same_file, has_file, table_with, place_of, details_at, details_in}
use Rattle.want.specs.Steps.Places.{table_at, place_at, past_name, places_after, starts, Five}
use Rattle.want.specs.Steps.Head.{Headed}
use Rattle.want.specs.Steps.Entry.{details_by, Numbered}
use Rattle.want.specs.declared.entry.Details.{Details}
use Rattle.want.proofs.ThereLaws.{past_none}
use Rattle.want.proofs.HeadLaws.{Leads, without, above_test, same_test, all_left, tail_left, length_map, left_of, head_in, left_above, left_in}
use Rattle.want.proofs.FirstLaws.{First, Lead, lowest_leads}
use Rattle.want.proofs.SideLaws.{above_next, past_is, place_after, at_four, Walk, records_of, walk_starts, Turn, turn, turns_end, turn_merges, turn_name, turn_next}
use Rattle.want.proofs.RankLaws.{headed_lowest}
use Rattle.want.proofs.TurnLaws.{headed_after}
use Rattle.want.proofs.BlockNumberLaws.{details_by_lem}

-- a record among others

pub same_itself : (f : File) → is_same_file f f ≡ true
same_itself f = rw (same_equal f.name, newest_same f) refl

has_above : (f : File) (l : List File) → Above f.name l → Rising l → has_file l f ≡ false
has_above f [] a r = refl
has_above f (g ∷ gs) a r = rw (above_test f.name g.name a) (has_above f gs (above_next f.name g.name gs a r.0) r.1)

-- a name that is passed changes nothing for the records of later ones
has_left : (w : File) (l : List File) (f : File) → Below w.name f.name → Leads w l → has_file l f ≡ has_file (without w l) f
has_left w [] f h p = refl
has_left w (g ∷ gs) f h (inl q) = ap (λ (l : List File). has_file l f) (sym (all_left w g gs q))
has_left w (g ∷ gs) f h (inr q) =
    let below : Below g.name f.name = subst (λ (m : List ℕ). Below m f.name) q.0 h in
    rw (ap is_equal below) (ap (λ (l : List File). has_file l f) (sym (tail_left w g gs q.0)))

-- a list that a record leads, and that does not lead it, has a lower record of its name or none
has_none : (w : File) (tail l : List File) → Leads w l → Rising l → (First l (w ∷ tail) → ⊥) → has_file l w ≡ false
has_none w tail [] p r q = refl
has_none w tail (g ∷ gs) (inl p) r q = has_above w (g ∷ gs) p r
has_none w tail (g ∷ gs) (inr p) r q = go (compare_files g w) refl
  where
    go : (o : Ordering) → compare_files g w ≡ o → ((is_equal (compare_lists g.name w.name) && is_equal o) || has_file gs w) ≡ false
    go Less e = rw (same_test w.name g.name p.0) (has_above w gs (subst (λ (n : List ℕ). Above n gs) (sym p.0) r.0) r.1)
    go Equal e = absurd (q (inr (sym p.0, λ k. let z : ◌≡◌ {A = ℕ} 0 1 = cc (sym e ∙ k) in omega arith)))
    go Greater e = absurd (q (inr (sym p.0, λ k. let z : ◌≡◌ {A = ℕ} 0 1 = cc (sym e ∙ k) in omega arith)))

-- the first list that has a record
first_with : (ls : List (List File)) (f : File) (k n : ℕ) → n < length ls → has_file (get_or ls n []) f ≡ true → ((m : ℕ) → m < n → has_file (get_or ls m []) f ≡ false) → table_with k ls f ≡ k + n
first_with [] f k n h e d = absurd (omega arith)
first_with (l ∷ ls) f k zero h e d = ap (λ (b : Bool). cond b k (table_with (k + 1) ls f)) e ∙ sym (add-zero k)
first_with (l ∷ ls) f k (suc n) h e d =
    let sum : k + 1 + n ≡ k + suc n = omega arith in
    ap (λ (b : Bool). cond b k (table_with (k + 1) ls f)) (d 0 (omega arith)) ∙ first_with ls f (k + 1) n (omega arith) e (λ m g. d (suc m) (omega arith)) ∙ sum

-- where the record of a name stands: a name that is passed changes nothing for later ones
module _ {t : List ℕ} {at : ℕ} where
  place_left : (w : File) (l : List File) (name : List ℕ) → Below w.name name → At t at l → Leads w l → place_of at l name ≡ place_of (past_name w.name t at) (without w l) name
  place_left w [] name h u p = past_none w.name t at refl (at_end u)
  place_left w (g ∷ gs) name h u (inl q) =
      let stays : at ≡ past_name w.name t at = sym (past_is w.name u ∙ ap (λ (b : Bool). cond b (fields_of at g).past at) (above_test w.name g.name q)) in
      ap (λ (l : List File). place_of at l name) (sym (all_left w g gs q)) ∙ ap (λ (k : ℕ). place_of k (without w (g ∷ gs)) name) stays
  place_left w (g ∷ gs) name h u (inr q) =
      let below : Below g.name name = subst (λ (m : List ℕ). Below m name) q.0 h in
      let goes : at + length (encode file g) ≡ past_name w.name t at =
      sym (past_is w.name u ∙ ap (λ (b : Bool). cond b (fields_of at g).past at) (same_test w.name g.name q.0) ∙ (standing u).sized) in
      ap (λ (b : Bool). cond b at (place_of (at + length (encode file g)) gs name)) (ap is_equal below)
      ∙ ap (λ (k : ℕ). place_of k gs name) goes
      ∙ ap (λ (l : List File). place_of (past_name w.name t at) l name) (sym (tail_left w g gs q.0))

place_first : (at : ℕ) (w : File) (l : List File) → place_of at (w ∷ l) w.name ≡ at
place_first at w l = rw (same_equal w.name) refl

-- the details of a record, by the first table that has it and its place there
details_in_lem : (ls : List (List File)) (n : ℕ) (f : File) {k at : ℕ} → table_with 0 ls f ≡ k → place_of 4 (get_or ls k []) f.name ≡ at → details_in ls n f ≡ details_at k at n f
details_in_lem ls n f {k} e p = ap (λ (i : ℕ). details_at i (place_of 4 (get_or ls i []) f.name) n f) e ∙ ap (λ (i : ℕ). details_at k i n f) p

-- at some places, name number `file` of all is number `left` of those that are left, and the tables have the records that are left where they are
pub record Ahead (ts : List (List ℕ)) (ps : List ℕ) (file left : ℕ) : Type 0 where
  pub ls : List (List File)
  pub walk : Walk ts ps ls
  pub number : (told : File → Option Details) → file_numbered None told file (merged_of (map records ts)) ≡ file_numbered None told left (merged_of ls)
  pub has : (f : File) → f ∈ joined ls → (k : ℕ) → k < 5 → has_file (records (table_at ts k)) f ≡ has_file (get_or ls k []) f
  pub stands : (f : File) → f ∈ joined ls → (k : ℕ) → k < 5 → place_of 4 (records (table_at ts k)) f.name ≡ place_of (place_at ps k) (get_or ls k []) f.name

pub ahead_starts : (ts : List (List ℕ)) (file : ℕ) → Five ts → Ahead ts starts file file
ahead_starts ts file g =
    record {
      ls = map records ts;
      walk = walk_starts ts g;
      number = λ told. refl;
      has = λ f m k s. ap (λ (l : List File). has_file l f) (sym (records_of ts k));
      stands = λ f m k s. ap (λ (l : List File). place_of 4 l f.name) (sym (records_of ts k)) ∙ ap (λ (p : ℕ). place_of p (get_or (map records ts) k []) f.name) (sym (at_four k s));
    }

none_numbered : (told : File → Option Details) (n : ℕ) → file_numbered None told n [] ≡ None
none_numbered told n = refl

module _ {ts : List (List ℕ)} {ps : List ℕ} {file left : ℕ} (a : Ahead ts ps file left) {k : ℕ} {x : Option RecordFields} {past : List ℕ} (h : Headed ts ps 5 k x past) where
  -- no record is left
  pub ahead_none : x ≡ None → Numbered ts file None
  ahead_none e = record { small = λ m f q. cc; told = λ n. sym (none (details_in (map records ts) n)) }
    where
      none : (told : File → Option Details) → file_numbered None told file (merged_of (map records ts)) ≡ None
      none told = a.number told ∙ ap (file_numbered None told left) (turns_end a.walk (headed_lowest h) refl h.fields_are e) ∙ none_numbered told left

  module _ {f : RecordFields} (is : x ≡ Some f) where
    this : Turn ts ps a.ls k (table_at ts k) f
    this = turn a.walk (headed_lowest h) refl h.fields_are is

    leads : (m : ℕ) → m < 5 → Leads this.head (get_or a.ls m [])
    leads m s = this.heading.leads m (omega (arith, a.walk.many))

    -- the name is passed
    pub ahead_turn : {n : ℕ} → left ≡ suc n → Ahead ts past file n
    ahead_turn {n} e =
        record {
          ls = map (without w) a.ls;
          walk = turn_next a.walk this past after;
          number = λ told. a.number told ∙ ap (λ (i : ℕ). file_numbered None told i (merged_of a.ls)) e ∙ ap (file_numbered None told (suc n)) (turn_merges a.walk this);
          has = λ g i m s.
              a.has g (left_in this.heading g i) m s
              ∙ has_left w (get_or a.ls m []) g (left_above this.heading g i) (leads m s)
              ∙ ap (λ (l : List File). has_file l g) (sym (left_of w a.ls m));
          stands = λ g i m s.
              a.stands g (left_in this.heading g i) m s
              ∙ place_left w (get_or a.ls m []) g.name (left_above this.heading g i) (a.walk.here m s) (leads m s)
              ∙ ap (λ (p : ℕ). place_of p (without w (get_or a.ls m [])) g.name) (sym (ap (λ (q : List ℕ). place_at q m) after ∙ place_after ts ps w.name m s))
              ∙ ap (λ (l : List File). place_of (place_at past m) l g.name) (sym (left_of w a.ls m));
        }
      where
        w : File
        w = this.head

        after : past ≡ places_after ts ps w.name
        after = headed_after h is ∙ ap (places_after ts ps) (turn_name a.walk this)

    -- the first table that has the record is the one that was found
    own_has : has_file (records (table_at ts k)) this.head ≡ true
    own_has =
        a.has this.head (head_in this.heading) k this.small
        ∙ ap (λ (l : List File). has_file l this.head) this.is
        ∙ ap (λ (b : Bool). b || has_file this.tail this.head) (same_itself this.head)

    lead : Lead ts ps a.ls a.walk.here k
    lead = subst (Lead ts ps a.ls a.walk.here) (sym (headed_lowest h)) (lowest_leads ts ps a.ls a.walk.here)

    others_have : (m : ℕ) → m < k → has_file (records (table_at ts m)) this.head ≡ false
    others_have m l =
        let s : m < 5 = omega (arith, this.small) in
        a.has this.head (head_in this.heading) m s
        ∙ has_none this.head this.tail (get_or a.ls m []) (leads m s) (a.walk.rising m s) (λ q. lead.earliest m l (subst (λ (y : List File). First (get_or a.ls m []) y) (sym this.is) q))

    table_is : length ts ≡ 5 → table_with 0 (map records ts) this.head ≡ k
    table_is many =
        first_with (map records ts) this.head 0 k (omega (arith, this.small, length_map records ts, many))
        (ap (λ (l : List File). has_file l this.head) (records_of ts k) ∙ own_has) (λ m l. ap (λ (y : List File). has_file y this.head) (records_of ts m) ∙ others_have m l)
        ∙ zero-add k

    place_is : place_of 4 (get_or (map records ts) k []) this.head.name ≡ place_at ps k
    place_is =
        ap (λ (l : List File). place_of 4 l this.head.name) (records_of ts k)
        ∙ a.stands this.head (head_in this.heading) k this.small
        ∙ ap (λ (l : List File). place_of (place_at ps k) l this.head.name) this.is
        ∙ place_first (place_at ps k) this.head this.tail

    -- what is told of the record goes by its fields
    here_told : length ts ≡ 5 → (n : ℕ) → details_by (table_at ts k) k n f ≡ details_in (map records ts) n this.head
    here_told many n = ap (details_by (table_at ts k) k n) this.fields_are ∙ details_by_lem this.here k n ∙ sym (details_in_lem (map records ts) n this.head (table_is many) place_is)

    is_first_lem : left ≡ 0 → (told : File → Option Details) → file_numbered None told file (merged_of (map records ts)) ≡ told this.head
    is_first_lem e told = a.number told ∙ ap (λ (i : ℕ). file_numbered None told i (merged_of a.ls)) e ∙ ap (file_numbered None told 0) (turn_merges a.walk this)

    -- the name is next
    pub ahead_here : Five ts → left ≡ 0 → Numbered ts file (Some (k, f))
    ahead_here g e = record { small = λ m u q. omega (arith, ap table_in q, h.small); told = λ n. here_told g.many n ∙ sym (is_first_lem e (details_in (map records ts) n)) }
      where
        table_in : Option (ℕ × RecordFields) → ℕ
        table_in None = 0
        table_in (Some p) = p.0
