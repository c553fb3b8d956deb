-- Each entry of the request list, and what a Request for it says: the name and the hash are where the details point.
use Rattle.std.specs.Prelude.{Ok, None}
use Rattle.std.specs.declared.result.Result.{Result}
use Rattle.std.specs.declared.option.Option.{Option}
use Rattle.xdr.specs.declared.answer.Refusal.{Refusal}
use Prim.Native.Nat.{ℕ, zero, suc, ◌+◌, ◌-◌, ◌<◌}
use mathlib.Core.List.Memᴰ
use mathlib.Core.List.{List, [], ◌∷◌, ◌++◌, map}
use mathlib.Core.Path.{◌≡◌, refl, sym, ap, subst, ◌∙◌}
use mathlib.Core.Logic.{◌⊎◌, inl, inr}
use mathlib.Core.Bool.{Bool, true, false, cond, ◌||◌}
use native.Mathlib.Omega.{arith}
use native.Mathlib.Nat.{add-zero, zero-add}
use lib.ListN.{length, take, drop, get_or}
use lib.Seq.{drop-append_seam}
use Rattle.xdr.specs.Number.{IsBytes}
use Rattle.xdr.specs.Format.{encode, Valid}
use Rattle.record.specs.Block.{Block, total_size}
use Rattle.record.specs.File.{File, file}
use Rattle.record.specs.Outline.{block_place, fields_of}
use Rattle.order.specs.Order.{is_equal, compare_lists}
use Rattle.std.specs.declared.cmp.Ordering.{Ordering}
use Rattle.std.specs.declared.cmp.Ordering.TheVariants.{Less, Equal, Greater}
use Rattle.order.proofs.OrderLaws.{same_equal}
use Rattle.order.proofs.SameLaws.{is_same_lem}
use Rattle.record.proofs.RisingLaws.{Rising, both_true}
use Rattle.table.specs.Newest.{compare_files}
use Rattle.table.specs.Table.{is_good, all_good, records}
use Rattle.table.specs.Steps.Standing.{AllValid, At}
use Rattle.table.proofs.NewestLaws.{tie_equal}
use Rattle.table.proofs.TableLaws.{GoodTable, good_table}
use Rattle.table.proofs.WalkLaws.{at_start_lem, standing}
use Rattle.merge.specs.Merged.{merged_of}
use Rattle.merge.proofs.HighestLaws.{◌∈◌, above_all, merged_highest}
use Rattle.merge.proofs.MergeLaws.{all_ok}
use Rattle.want.specs.Details.{file_numbered, is_same_file, has_file, table_with, place_of, details_at, details_in, details_of}
use Rattle.want.specs.Steps.Places.{table_at, Five}
use Rattle.want.specs.declared.list.Wanted.{Wanted}
use Rattle.want.specs.declared.entry.Details.{Details}
use Rattle.want.proofs.HeldLaws.{or_true}
use Rattle.want.proofs.HeadLaws.{Within, in_joined, length_map}
use Rattle.want.proofs.SideLaws.{records_of}
use Rattle.want.proofs.RequestLaws.{Asked, request_of}
use Rattle.want.proofs.BlockNumberLaws.{numbered_split, block_there}
use Rattle.want.proofs.NumberLaws.{same_itself}
use Rattle.want.proofs.DetailsLaws.{details_bad, details_good}
use Rattle.promises.specs.Details.{Said, Detailed}
use Rattle.promises.proofs.ListedLaws.{all_listed}
use Rattle.promises.proofs.RequestList.{missing, asks_for, rising_records, exactly}

-- the record of a number, by those before it
file_numbered_lem : {A : Type 0} (none : A) (told : File → A) (before : List File) (f : File) (after : List File) → file_numbered none told (length before) (before ++ (f ∷ after)) ≡ told f
file_numbered_lem none told [] f after = refl
file_numbered_lem none told (g ∷ before) f after = file_numbered_lem none told before f after

-- a record that is one of some is found among them
in_has : (l : List File) (f : File) → f ∈ l → has_file l f ≡ true
in_has [] f m = absurd (Memᴰ.not-nil m)
in_has (g ∷ gs) f m = go (Memᴰ.cases_cons m) (λ k. in_has gs f k)
  where
    go : (f ≡ g) ⊎ (f ∈ gs) → (f ∈ gs → has_file gs f ≡ true) → (is_same_file g f || has_file gs f) ≡ true
    go (inl e) ih = ap (λ (b : Bool). b || has_file gs f) (ap (λ (h : File). is_same_file h f) (sym e) ∙ same_itself f)
    go (inr k) ih = ap (λ (b : Bool). is_same_file g f || b) (ih k) ∙ or_true (is_same_file g f)

is_equal_lem : (o : Ordering) → is_equal o ≡ true → o ≡ Equal
is_equal_lem Less e = let z : ◌≡◌ {A = ℕ} 0 1 = cc in absurd (omega arith)
is_equal_lem Equal e = refl
is_equal_lem Greater e = let z : ◌≡◌ {A = ℕ} 0 1 = cc in absurd (omega arith)

-- and what is found among them is one of them
has_in : (l : List File) (f : File) → AllValid l → Valid file f → has_file l f ≡ true → f ∈ l
has_in [] f v w e = let z : ◌≡◌ {A = ℕ} 0 1 = cc in absurd (omega arith)
has_in (g ∷ gs) f v w e = go (is_same_file g f) refl e (λ q. has_in gs f v.1 w q)
  where
    go : (b : Bool) → is_same_file g f ≡ b → (b || has_file gs f) ≡ true → (has_file gs f ≡ true → f ∈ gs) → f ∈ (g ∷ gs)
    go true q h ih =
        let p = both_true (is_equal (compare_lists g.name f.name)) (is_equal (compare_files g f)) q in
        Memᴰ.head (sym (tie_equal g f v.0 w (is_same_lem g.name f.name p.0) (is_equal_lem (compare_files g f) p.1)))
    go false q h ih = Memᴰ.tail (ih h)

-- the table that is found has the record
record Having (ls : List (List File)) (f : File) (k : ℕ) : Type 0 where
  number : ℕ
  is : table_with k ls f ≡ k + number
  small : number < length ls
  has : has_file (get_or ls number []) f ≡ true

having : (ls : List (List File)) (f : File) (k n : ℕ) → n < length ls → has_file (get_or ls n []) f ≡ true → Having ls f k
having [] f k n h e = absurd (omega arith)
having (l ∷ ls) f k n h e = go (has_file l f) refl n h e (λ m i q. having ls f (k + 1) m i q)
  where
    go : (b : Bool) → has_file l f ≡ b → (n : ℕ) → n < length (l ∷ ls) → has_file (get_or (l ∷ ls) n []) f ≡ true → ((m : ℕ) → m < length ls → has_file (get_or ls m []) f ≡ true → Having ls f (k + 1)) → Having (l ∷ ls) f k
    go true q n h e ih = record { number = 0; is = ap (λ (b : Bool). cond b k (table_with (k + 1) ls f)) q ∙ sym (add-zero k); small = omega arith; has = q }
    go false q zero h e ih = let z : ◌≡◌ {A = Bool} false true = sym q ∙ e in let y : ◌≡◌ {A = ℕ} 0 1 = cc in absurd (omega arith)
    go false q (suc n) h e ih =
        let r = ih n (omega arith) e in
        let sum : k + 1 + r.number ≡ k + suc r.number = omega arith in
        record { number = suc r.number; is = ap (λ (b : Bool). cond b k (table_with (k + 1) ls f)) q ∙ r.is ∙ sum; small = omega (arith, r.small); has = r.has }

-- a record stands where its name is found
record Placed (t : List ℕ) (at : ℕ) (f : File) : Type 0 where
  tail : List File
  here : At t at (f ∷ tail)

placed : {t : List ℕ} (l : List File) (at : ℕ) (f : File) → At t at l → Rising l → f ∈ l → Placed t (place_of at l f.name) f
placed [] at f u r m = absurd (Memᴰ.not-nil m)
placed {t} (g ∷ gs) at f u r m = go (Memᴰ.cases_cons m) (λ k. placed gs (at + length (encode file g)) f (subst (λ (p : ℕ). At t p gs) (standing u).sized (standing u).next) r.1 k)
  where
    there : Bool → ℕ
    there b = cond b at (place_of (at + length (encode file g)) gs f.name)

    go : (f ≡ g) ⊎ (f ∈ gs) → (f ∈ gs → Placed t (place_of (at + length (encode file g)) gs f.name) f) → Placed t (there (is_equal (compare_lists g.name f.name))) f
    go (inl e) ih =
        let same : is_equal (compare_lists g.name f.name) ≡ true = ap (λ (h : File). is_equal (compare_lists h.name f.name)) (sym e) ∙ ap is_equal (same_equal f.name) in
        subst (λ (b : Bool). Placed t (there b) f) (sym same) (record { tail = gs; here = subst (λ (h : File). At t at (h ∷ gs)) (sym e) u })
    go (inr k) ih = subst (λ (b : Bool). Placed t (there b) f) (sym (ap is_equal (above_all g.name gs r.0 r.1 f k))) (ih k)

-- of a record that stands at a place of table k
said_at : {ts : List (List ℕ)} {k at : ℕ} {f : File} → k < 5 → Placed (table_at ts k) at f → (front : List Block) (b : Block) (rest : List Block) → f.blocks ≡ front ++ (b ∷ rest)
    → Said ts f b (total_size front) b.size (Ok (details_at k at (length front) f))
said_at {ts} {k} {at} {f} s p front b rest e =
    record {
      table = k;
      name = (fields_of at f).name;
      stop = (fields_of at f).stop;
      hash = hash;
      is = ap Ok (numbered_split None _ front b rest f.blocks e);
      small = s;
      name_is = (standing p.here).name_is;
      hash_is = ap (λ (m : ℕ). take m (drop hash (table_at ts k))) many ∙ (block_there p.here (length front) b rest after).hash_is;
    }
  where
    hash : ℕ
    hash = block_place (fields_of at f).first (length front) + 8

    after : drop (length front) f.blocks ≡ b ∷ rest
    after = ap (drop (length front)) e ∙ drop-append_seam front (b ∷ rest)

    many : hash + 32 - hash ≡ 32
    many = omega arith

all_good_lem : (ts : List (List ℕ)) → ((k : ℕ) → k < length ts → is_good (table_at ts k) ≡ true) → all_good ts ≡ true
all_good_lem [] g = refl
all_good_lem (t ∷ ts) g = rw (g 0 (omega arith)) (all_good_lem ts (λ k s. g (suc k) (omega arith)))

module _ {ts : List (List ℕ)} (g : Five ts) where
  good : (k : ℕ) → k < 5 → GoodTable (table_at ts k) (records (table_at ts k))
  good k s = good_table (table_at ts k) (g.bytes k s) (g.good k s)

  -- where a highest record stands: in the first table that has it
  record Source (f : File) : Type 0 where
    table : ℕ
    is : table_with 0 (map records ts) f ≡ table
    small : table < 5
    stands : Placed (table_at ts table) (place_of 4 (get_or (map records ts) table []) f.name) f

  source : (f : File) → f ∈ merged_of (map records ts) → Source f
  source f m =
      record {
        table = h.number;
        is = h.is ∙ zero-add h.number;
        small = s;
        stands = subst (λ (l : List File). Placed (table_at ts h.number) (place_of 4 l f.name) f) (sym (records_of ts h.number))
            (placed (records (table_at ts h.number)) 4 f (at_start_lem (good h.number s)) (good h.number s).rising
            (has_in (records (table_at ts h.number)) f (good h.number s).valid valid (ap (λ (l : List File). has_file l f) (sym (records_of ts h.number)) ∙ h.has)));
      }
    where
      i : Within (map records ts) f
      i = in_joined (map records ts) f ((merged_highest (map records ts)).from f m)

      small : i.number < 5
      small = omega (arith, i.small, length_map records ts, g.many)

      valid : Valid file f
      valid = all_ok (records (table_at ts i.number)) (good i.number small).valid f (subst (λ (l : List File). f ∈ l) (records_of ts i.number) i.there)

      h : Having (map records ts) f 0
      h = having (map records ts) f 0 i.number i.small (in_has (get_or (map records ts) i.number []) f i.there)

      s : h.number < 5
      s = omega (arith, h.small, length_map records ts, g.many)

-- what the details of an entry of the request list are: for the block that is asked for, with the entry's own offset and Length
asked_details : (local : List ℕ) (peers : List (List ℕ)) → Five (local ∷ peers) → (w : Wanted) (a : Asked (records local) (map records peers) 0 (merged_of (map records (local ∷ peers))) w)
    → Said (local ∷ peers) a.highest a.entry.block w.offset w.size (details_of local peers w.file w.block)
asked_details local peers g w a =
    subst (λ (d : Result (Option Details) Refusal). Said ts f b w.offset w.size d) here
    (subst (λ (n : ℕ). Said ts f b w.offset n (Ok (details_at k at (length front) f))) (sym a.entry.size_is)
    (subst (λ (n : ℕ). Said ts f b n b.size (Ok (details_at k at (length front) f))) (sym (a.entry.offset_is ∙ zero-add (total_size front)))
    (said_at c.small c.stands front b a.entry.rest (all_listed f front b a.entry.rest a.entry.split))))
  where
    ts : List (List ℕ)
    ts = local ∷ peers

    f : File
    f = a.highest

    b : Block
    b = a.entry.block

    front : List Block
    front = a.entry.front

    c : Source g f
    c = source g f (subst (λ (l : List File). f ∈ l) (sym a.split) (Memᴰ.append_right a.before (Memᴰ.head refl)))

    k : ℕ
    k = c.table

    at : ℕ
    at = place_of 4 (get_or (map records ts) k []) f.name

    told : File → Option Details
    told = details_in (map records ts) w.block

    here : Ok (details_at k at (length front) f) ≡ details_of local peers w.file w.block
    here =
        ap Ok (ap (λ (n : ℕ). details_at k at n f) (sym (a.entry.block_is ∙ zero-add (length front)))
        ∙ ap (λ (i : ℕ). details_at i (place_of 4 (get_or (map records ts) i []) f.name) w.block f) (sym c.is)
        ∙ sym (file_numbered_lem None told a.before f a.after)
        ∙ ap (λ (n : ℕ). file_numbered None told n (a.before ++ (f ∷ a.after))) (sym (a.entry.file_is ∙ zero-add (length a.before)))
        ∙ ap (file_numbered None told w.file) (sym a.split))
        ∙ details_good local peers w.file w.block refl (all_good_lem ts (λ m s. g.good m (omega (arith, g.many))))

-- five good tables of bytes
five_tables : (ts : List (List ℕ)) → length ts ≡ 5 → ((k : ℕ) → IsBytes (get_or ts k [])) → all_good ts ≡ true → Five ts
five_tables ts m b g = record { many = m; bytes = λ k s. b k; good = λ k s. each ts k g (omega (arith, m)) }
  where
    each : (l : List (List ℕ)) (k : ℕ) → all_good l ≡ true → k < length l → is_good (get_or l k []) ≡ true
    each [] k q h = absurd (omega arith)
    each (t ∷ l) zero q h = (both_true (is_good t) (all_good l) q).0
    each (t ∷ l) (suc k) q h = each l k (both_true (is_good t) (all_good l) q).1 (omega arith)

pub detailed : (local : List ℕ) (peers : List (List ℕ)) → length peers ≡ 4 → ((k : ℕ) → IsBytes (get_or (local ∷ peers) k [])) → Detailed local peers
detailed local peers m b =
    record {
      refused = λ g file block. sym (details_bad local peers file block refl g);
      given = λ g. (
        exactly local peers (λ k. b (suc k)) g,
        λ w i.
            let a = request_of (records local) (map records peers) w i in
            record {
              missing = missing (records local) (map records peers) (rises g) w a;
              asks = asks_for (records local) (map records peers) (rises g) w a;
              said = asked_details local peers (five_tables (local ∷ peers) (omega (arith, m)) b g) w a;
            },
      );
    }
  where
    rises : all_good (local ∷ peers) ≡ true → (k : ℕ) → k < length (map records peers) → Rising (get_or (map records peers) k [])
    rises g = rising_records peers (λ k. b (suc k)) (both_true (is_good local) (all_good peers) g).1
