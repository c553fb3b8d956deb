-- One reason is true, and `why` answers with it.
use Rattle.std.specs.Prelude.{Ok, Err}
use Rattle.std.specs.declared.result.Result.{Result}
use Rattle.std.specs.declared.option.Option.{Option}
use Rattle.xdr.specs.declared.answer.Refusal.{Refusal}
use Prim.Native.Nat.{ℕ, zero, suc, ◌+◌, ◌≤◌, ◌<◌}
use mathlib.Core.List.Memᴰ
use mathlib.Core.List.{List, [], ◌∷◌, ◌++◌, map, Memᴰ}
use mathlib.Core.Path.{◌≡◌, refl, sym, ap, subst, ◌∙◌}
use mathlib.Core.Logic.{◌⊎◌, inl, inr}
use mathlib.Core.Bool.{Bool, true, false, cond}
use native.Mathlib.Omega.{arith}
use native.Mathlib.Decide.{dec_lt}
use lib.ListN.{length, get_or}
use Rattle.xdr.specs.Number.{IsBytes}
use Rattle.order.specs.Order.{is_equal, compare_lists}
use Rattle.order.proofs.OrderLaws.{same_equal}
use Rattle.order.proofs.SameLaws.{is_same_lem}
use Rattle.record.specs.Block.{Block, total_size}
use Rattle.record.specs.File.{File, is_deleted, is_invalid}
use Rattle.record.proofs.RisingLaws.{Rising}
use Rattle.table.specs.Table.{all_good, records}
use Rattle.merge.specs.Merged.{merged_of}
use Rattle.merge.specs.Highest.{joined}
use Rattle.merge.proofs.HighestLaws.{above_all}
use Rattle.merge.proofs.MergeLaws.{merged_rising}
use Rattle.want.specs.Listing.{listed, is_held, lists_there, block_numbered}
use Rattle.want.specs.Found.{found_from}
use Rattle.want.specs.Wanted.{peer_from}
use Rattle.want.specs.declared.search.Found.{Found}
use Rattle.want.proofs.BlockNumberLaws.{numbered_none, numbered_split}
use Rattle.reason.specs.Reasons.{held_or, why_record, why_named, why_of}
use Rattle.reason.specs.declared.reasons.Reason.{Reason}
use Rattle.reason.specs.declared.reasons.Reason.TheVariants as R
use Rattle.promises.specs.RequestList.{Missing, is_listed_by, ExactList}
use Rattle.promises.specs.Why.{HighestOf, BlockOf, Because, Answered, Reasoned}
use Rattle.promises.proofs.ListedLaws.{current_parts, listed_all, lists_some, all_listed}
use Rattle.promises.proofs.HeldLaws.{differ, unheld_words, words_unheld}
use Rattle.promises.proofs.FirstHeldLaws.{none_found, first_found, Somewhere, held_or_not}
use Rattle.promises.proofs.RequestList.{exactly}

-- the record of a name

named_at : (why : File → Reason) (l : List File) → Rising l → (f : File) → Memᴰ f l → why_named why f.name l ≡ why f
named_at why [] r f m = absurd (Memᴰ.not-nil m)
named_at why (g ∷ l) r f m = go (Memᴰ.cases_cons m) (λ k. named_at why l r.1 f k)
  where
    go : (f ≡ g) ⊎ Memᴰ f l → (Memᴰ f l → why_named why f.name l ≡ why f) → why_named why f.name (g ∷ l) ≡ why f
    go (inl e) ih = rw (e, same_equal g.name) refl
    go (inr k) ih = ap (λ (x : Bool). cond x (why g) (why_named why f.name l)) (ap is_equal (above_all g.name l r.0 r.1 f k)) ∙ ih k

named_none : (why : File → Reason) (name : List ℕ) (l : List File) → ((f : File) → Memᴰ f l → f.name ≡ name → ⊥) → why_named why name l ≡ R.NoSuchName
named_none why name [] h = refl
named_none why name (f ∷ l) h = go (is_equal (compare_lists f.name name)) refl (named_none why name l (λ g m. h g (Memᴰ.tail m)))
  where
    go : (v : Bool) → is_equal (compare_lists f.name name) ≡ v → why_named why name l ≡ R.NoSuchName → cond v (why f) (why_named why name l) ≡ R.NoSuchName
    go true e ih = absurd (h f (Memᴰ.head refl) (is_same_lem f.name name e))
    go false e ih = ih

-- there is one, or none
named_or_not : (name : List ℕ) (l : List File) → ((f : File) → Memᴰ f l → f.name ≡ name → ⊥) ⊎ HighestOf l name
named_or_not name [] = inl (λ f m e. Memᴰ.not-nil m)
named_or_not name (f ∷ l) = go (is_equal (compare_lists f.name name)) refl (named_or_not name l)
  where
    go : (v : Bool) → is_equal (compare_lists f.name name) ≡ v → ((g : File) → Memᴰ g l → g.name ≡ name → ⊥) ⊎ HighestOf l name
        → ((g : File) → Memᴰ g (f ∷ l) → g.name ≡ name → ⊥) ⊎ HighestOf (f ∷ l) name
    go true e ih = inr (record { highest = f; among = Memᴰ.head refl; named = is_same_lem f.name name e })
    go false e (inr h) = inr (record { highest = h.highest; among = Memᴰ.tail h.among; named = h.named })
    go false e (inl h) = inl (λ g m q. other g q (Memᴰ.cases_cons m))
      where
        other : (g : File) → g.name ≡ name → (g ≡ f) ⊎ Memᴰ g l → ⊥
        other g q (inl k) =
            let same : f.name ≡ name = ap (λ (x : File). x.name) (sym k) ∙ q in
            differ (sym (ap (λ (x : List ℕ). is_equal (compare_lists x name)) same ∙ ap is_equal (same_equal name)) ∙ e)
        other g q (inr k) = h g k q

-- where it stands among them
record Among (l : List File) (f : File) : Type 0 where
  before : List File
  after : List File
  is : l ≡ before ++ (f ∷ after)

among : (l : List File) (f : File) → Memᴰ f l → Among l f
among [] f m = absurd (Memᴰ.not-nil m)
among (g ∷ l) f m = go (Memᴰ.cases_cons m) (λ k. among l f k)
  where
    go : (f ≡ g) ⊎ Memᴰ f l → (Memᴰ f l → Among l f) → Among (g ∷ l) f
    go (inl e) ih = record { before = []; after = l; is = ap (λ (y : File). y ∷ l) (sym e) }
    go (inr k) ih = let s = ih k in record { before = g ∷ s.before; after = s.after; is = ap (λ (y : List File). g ∷ y) s.is }

-- the block of a number

record Split (l : List Block) (n : ℕ) : Type 0 where
  front : List Block
  block : Block
  rest : List Block
  within : l ≡ front ++ (block ∷ rest)
  number : length front ≡ n

split_at : (l : List Block) (n : ℕ) → n < length l → Split l n
split_at [] n h = absurd (omega arith)
split_at (b ∷ l) zero h = record { front = []; block = b; rest = l; within = refl; number = refl }
split_at (b ∷ l) (suc n) h =
    let s = split_at l n (omega arith) in
    record { front = b ∷ s.front; block = s.block; rest = s.rest; within = ap (λ (x : List Block). b ∷ x) s.within; number = ap suc s.number }

-- the lowest peer
peer_at_lem : (name : List ℕ) (offset : ℕ) (b : Block) (ps : List (List File)) (q first : ℕ) → q < length ps → lists_there (get_or ps q []) name offset b ≡ true
    → ((i : ℕ) → i < q → lists_there (get_or ps i []) name offset b ≡ false) → peer_from first ps name offset b ≡ first + q
peer_at_lem name offset b [] q first h e l = absurd (omega arith)
peer_at_lem name offset b (p ∷ ps) zero first h e l =
    let same : first ≡ first + 0 = omega arith in
    ap (λ (x : Bool). cond x first (peer_from (first + 1) ps name offset b)) e ∙ same
peer_at_lem name offset b (p ∷ ps) (suc q) first h e l =
    let sum : first + 1 + q ≡ first + suc q = omega arith in
    ap (λ (x : Bool). cond x first (peer_from (first + 1) ps name offset b)) (l zero (omega arith))
    ∙ peer_at_lem name offset b ps q (first + 1) (omega arith) e (λ i k. l (suc i) (omega arith))
    ∙ sum

asked_peer : {highs local : List File} (peers : List (List File)) (m : Missing highs local) (peer : ℕ) → 1 ≤ peer → peer ≤ length peers → is_listed_by peers m peer ≡ true
    → ((k : ℕ) → 1 ≤ k → k < peer → is_listed_by peers m k ≡ false) → peer_from 1 peers m.highest.name (total_size m.front) m.block ≡ peer
asked_peer peers m zero h u e l = absurd (omega arith)
asked_peer peers m (suc q) h u e l =
    let same : 1 + q ≡ suc q = omega arith in
    peer_at_lem m.highest.name (total_size m.front) m.block peers q 1 (omega arith) e (λ i k. l (suc i) (omega arith) (omega arith)) ∙ same

-- the reason of a record

module _ (local : List File) (peers : List (List File)) (n : ℕ) (f : File) where
  abbrev by : ℕ → Block → Reason
  by offset b = held_or (found_from 0 local b) (peer_from 1 peers f.name offset b)

  record_deleted : is_deleted f.flags ≡ true → why_record local peers n f ≡ R.Deleted
  record_deleted d = rw d refl

  record_invalid : is_deleted f.flags ≡ false → is_invalid f.flags ≡ true → why_record local peers n f ≡ R.Invalid
  record_invalid d i = rw (d, i) refl

  record_current : is_deleted f.flags ≡ false → is_invalid f.flags ≡ false → why_record local peers n f ≡ block_numbered R.NoSuchBlock by n 0 f.blocks
  record_current d i = rw (d, i) refl

  record_block : (front : List Block) (b : Block) (rest : List Block) → listed f ≡ front ++ (b ∷ rest) → length front ≡ n → why_record local peers n f ≡ by (total_size front) b
  record_block front b rest e k =
      let w = current_parts f.flags (lists_some f front b rest e) in
      record_current w.0 w.1
      ∙ ap (λ (x : ℕ). block_numbered R.NoSuchBlock by x 0 f.blocks) (sym k)
      ∙ numbered_split R.NoSuchBlock by front b rest f.blocks (all_listed f front b rest e)

-- one is true, and it is the answer

module _ (local : List ℕ) (peers : List (List ℕ)) (name : List ℕ) (n : ℕ) (b : (k : ℕ) → IsBytes (get_or peers k [])) (g : all_good (local ∷ peers) ≡ true) where
  abbrev x : ExactList local peers
  x = exactly local peers b g

  abbrev highs : List File
  highs = merged_of (map records (local ∷ peers))

  abbrev reason : File → Reason
  reason = why_record (records local) (map records peers) n

  answer_is : why_of local peers name n ≡ Ok (why_named reason name highs)
  unfolding why_of
  answer_is = rw g refl

  -- by the record of the name
  answer_of_lem : (h : HighestOf x.highs name) → why_of local peers name n ≡ Ok (reason h.highest)
  answer_of_lem h =
      answer_is
      ∙ ap (λ (l : List ℕ). Ok (why_named reason l highs)) (sym h.named)
      ∙ ap Ok (named_at reason highs (merged_rising (map records (local ∷ peers))) h.highest h.among)

  no_name : ((f : File) → Memᴰ f (joined (map records (local ∷ peers))) → f.name ≡ name → ⊥) → (f : File) → Memᴰ f highs → f.name ≡ name → ⊥
  no_name h f m = h f (x.highest.from f m)

  alone : (r : Result Reason Refusal) → Because x name n r → r ≡ why_of local peers name n
  alone (Ok R.NoSuchName) h = sym (answer_is ∙ ap Ok (named_none reason name highs (no_name h)))
  alone (Ok R.Deleted) h = sym (answer_of_lem h.0 ∙ ap Ok (record_deleted (records local) (map records peers) n h.0.highest h.1))
  alone (Ok R.Invalid) h = sym (answer_of_lem h.0 ∙ ap Ok (record_invalid (records local) (map records peers) n h.0.highest h.1 h.2))
  alone (Ok R.NoSuchBlock) h =
      let f = h.0.highest in
      sym (answer_of_lem h.0 ∙ ap Ok (record_current (records local) (map records peers) n f h.1 h.2 ∙ numbered_none R.NoSuchBlock (by (records local) (map records peers) n f) n 0 f.blocks h.3))
  alone (Ok (R.Held r j)) h =
      let f = h.0.highest in
      let k = h.1 in
      sym (answer_of_lem h.0
      ∙ ap Ok (record_block (records local) (map records peers) n f k.front k.block k.rest k.within k.number
      ∙ ap (λ (y : Option Found). held_or y (peer_from 1 (map records peers) f.name (total_size k.front) k.block)) (first_found k.block (records local) r j h.2)))
  alone (Ok (R.Wanted peer)) h =
      let m = h.missing in
      let a = h.asks in
      let of : HighestOf x.highs name = record { highest = m.highest; among = subst (Memᴰ m.highest) (sym m.among) (Memᴰ.append_right m.before (Memᴰ.head refl)); named = h.named } in
      sym (answer_of_lem of
      ∙ ap Ok (record_block (records local) (map records peers) n m.highest m.front m.block m.rest m.within h.number
      ∙ ap (λ (y : Option Found). held_or y (peer_from 1 (map records peers) m.highest.name (total_size m.front) m.block)) (none_found m.block 0 (records local) (words_unheld (records local) m.block m.unheld))
      ∙ ap R.Wanted (asked_peer (map records peers) m h.entry.peer a.from_one a.to_last a.lists a.lowest ∙ h.peer_is)))
  alone (Err r) h = absurd h

  record Reasonable : Type 0 where
    reason : Result Reason Refusal
    because : Because x name n reason

  -- a block that is held, or not
  by_block : (h : HighestOf x.highs name) → BlockOf h n → Reasonable
  by_block h k = go (held_or_not k.block (records local))
    where
      go : (is_held (records local) k.block ≡ false) ⊎ Somewhere k.block (records local) → Reasonable
      go (inr s) = record { reason = Ok (R.Held s.r s.j); because = (h, k, s.first) }
      go (inl e) = wanted (among x.highs h.highest h.among)
        where
          wanted : Among x.highs h.highest → Reasonable
          wanted s =
              let m : Missing x.highs (records local) = record {
                before = s.before;
                highest = h.highest;
                after = s.after;
                among = s.is;
                front = k.front;
                block = k.block;
                rest = k.rest;
                within = k.within;
                unheld = unheld_words (records local) k.block e;
              } in
              let a = x.exact.all m in
              record { reason = Ok (R.Wanted a.0.peer); because = record { missing = m; named = h.named; number = k.number; entry = a.0; listed_there = a.1; asks = a.2; peer_is = refl } }

  by_highest : HighestOf x.highs name → Reasonable
  by_highest h = go (is_deleted h.highest.flags) (is_invalid h.highest.flags) refl refl
    where
      f : File
      f = h.highest

      go : (d i : Bool) → is_deleted h.highest.flags ≡ d → is_invalid h.highest.flags ≡ i → Reasonable
      go true i p q = record { reason = Ok R.Deleted; because = (h, p) }
      go false true p q = record { reason = Ok R.Invalid; because = (h, p, q) }
      go false false p q = number (dec_lt n (length h.highest.blocks))
        where
          number : Dec (n < length h.highest.blocks) → Reasonable
          number (no l) = record { reason = Ok R.NoSuchBlock; because = (h, p, q, omega (arith, l)) }
          number (yes l) =
              let s = split_at h.highest.blocks n l in
              by_block h (record { front = s.front; block = s.block; rest = s.rest; within = listed_all h.highest p q ∙ s.within; number = s.number })

  one : Reasonable
  one = go (named_or_not name x.highs)
    where
      go : ((f : File) → Memᴰ f x.highs → f.name ≡ name → ⊥) ⊎ HighestOf x.highs name → Reasonable
      go (inr h) = by_highest h
      go (inl h) = record { reason = Ok R.NoSuchName; because = λ f m e. let c = x.highest.covers f m in h c.cover c.within (c.named ∙ e) }

  answered : Answered x name n
  answered = record { holds = subst (Because x name n) (alone one.reason one.because) one.because; alone = alone }

pub reasoned : (local : List ℕ) (peers : List (List ℕ)) (name : List ℕ) (n : ℕ) → ((k : ℕ) → IsBytes (get_or peers k [])) → Reasoned local peers name n
unfolding why_of
reasoned local peers name n b =
    record {
      refused = λ g. rw g refl;
      given = λ g. (x local peers name n b g, answered local peers name n b g);
    }
