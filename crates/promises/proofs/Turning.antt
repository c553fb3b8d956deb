-- A message that is turned says the same but for the Repository, and turned back it is the same bytes.
use Prim.Native.Nat.{ℕ, ◌+◌, ◌≤◌}
use mathlib.Core.List.{List, [], ◌++◌, append-nil}
use mathlib.Core.Path.{◌≡◌, refl, sym, ap, subst, ◌∙◌}
use mathlib.Core.Bool.{Bool, true, false, cond, true≢false}
use native.Mathlib.Omega.{arith}
use borrow.Author.Tests.{le-leb, leb-true}
use lib.ListN.{length}
use lib.Dec.{leb}
use Rattle.xdr.specs.Reading.{Reading, taken, refused, shifted}
use Rattle.xdr.specs.Number.{IsBytes}
use Rattle.xdr.specs.Format.{read, read_at, encode, Valid}
use Rattle.xdr.specs.Text.{is_text}
use Rattle.xdr.specs.Filling.{Outcome, gives, refuses}
use Rattle.xdr.proofs.Corollaries.{read_exactly}
use Rattle.xdr.proofs.FillingLaws.{not_given}
use Rattle.xdr.proofs.Parts.{test_passed}
use Rattle.xdr.proofs.RoundTrip.{round}
use Rattle.xdr.proofs.Steps.{Reads, passed, shifted_zero}
use Rattle.xdr.proofs.Told.{told_same}
use Rattle.record.proofs.RisingLaws.{both_true}
use Rattle.message.specs.Header.{type_of, id_of, header}
use Rattle.message.specs.Message.{repository, Kind, is_index, is_request, is_response, is_ping, is_pong, is_index_update, is_options, Body, body, MessageValue, message}
use Rattle.message.specs.declared.edition.Edition.TheVariants as E
use Rattle.message_write.specs.Writing.{repository_bytes}
use Rattle.edition.specs.Turning.{has_repository, in_both, raised_body, lowered_body, kind_in, raised, lowered, repository_given, once_taken, upgrading, downgrading, own_repository}
use Rattle.edition.proofs.TurnLaws.{raised_lowered, lowered_raised}
use Rattle.promises.specs.RoundTrips.{MessageFields, finds, found}
use Rattle.promises.specs.Turning.{with_repository, without_repository, repository_of, TurnsUp, TurnsDown}
use Rattle.promises.proofs.FieldLaws.{fields_of, number_of, number_kind, type_range, found_told, read_found}

-- the fields go with the values

raised_fields : (r : List ℕ) (k : Kind) (b : Body E.Old k) → fields_of E.New k (raised_body r k b) ≡ with_repository r (fields_of E.Old k b)
raised_fields r is_index b = refl
raised_fields r is_request b = refl
raised_fields r is_response b = refl
raised_fields r is_ping b = refl
raised_fields r is_pong b = refl
raised_fields r is_index_update b = refl
raised_fields r is_options b = refl

lowered_fields : (k : Kind) (b : Body E.New k) → fields_of E.Old k (lowered_body k b) ≡ without_repository (fields_of E.New k b)
lowered_fields is_index b = refl
lowered_fields is_request b = refl
lowered_fields is_response b = refl
lowered_fields is_ping b = refl
lowered_fields is_pong b = refl
lowered_fields is_index_update b = refl
lowered_fields is_options b = refl

own_fields : (k : Kind) (b : Body E.New k) → repository_of (fields_of E.New k b) ≡ own_repository k b
own_fields is_index b = refl
own_fields is_request b = refl
own_fields is_response b = refl
own_fields is_ping b = refl
own_fields is_pong b = refl
own_fields is_index_update b = refl
own_fields is_options b = refl

-- a turned value is one of its edition

raised_valid : (r : List ℕ) (k : Kind) (b : Body E.Old k) → (has_repository k ≡ true → Valid (repository E.New) r) → Valid (body E.Old k) b → Valid (body E.New k) (raised_body r k b)
unfolding Valid
raised_valid r is_index b f v = (f refl, v.1)
raised_valid r is_request b f v = (f refl, v.1)
raised_valid r is_response b f v = v
raised_valid r is_ping b f v = v
raised_valid r is_pong b f v = v
raised_valid r is_index_update b f v = (f refl, v.1)
raised_valid r is_options b f v = v

lowered_valid : (k : Kind) (b : Body E.New k) → Valid (body E.New k) b → Valid (body E.Old k) (lowered_body k b)
unfolding Valid
lowered_valid is_index b v = (tt, v.1)
lowered_valid is_request b v = (tt, v.1)
lowered_valid is_response b v = v
lowered_valid is_ping b v = v
lowered_valid is_pong b v = v
lowered_valid is_index_update b v = (tt, v.1)
lowered_valid is_options b v = v

own_valid : (k : Kind) (b : Body E.New k) → has_repository k ≡ true → Valid (body E.New k) b → Valid (repository E.New) (own_repository k b)
unfolding Valid
own_valid is_index b h v = v.0
own_valid is_request b h v = v.0
own_valid is_response b h v = absurd (true≢false (sym h))
own_valid is_ping b h v = absurd (true≢false (sym h))
own_valid is_pong b h v = absurd (true≢false (sym h))
own_valid is_index_update b h v = v.0
own_valid is_options b h v = absurd (true≢false (sym h))

-- all types of the old edition are in both

both_below : (k : Kind) → number_of k ≤ 6 → in_both k ≡ true
both_below is_index h = refl
both_below is_request h = refl
both_below is_response h = refl
both_below is_ping h = refl
both_below is_pong h = refl
both_below is_index_update h = refl
both_below is_options h = absurd (omega arith)

below_both : (k : Kind) → in_both k ≡ true → number_of k ≤ 6
below_both is_index h = omega arith
below_both is_request h = omega arith
below_both is_response h = omega arith
below_both is_ping h = omega arith
below_both is_pong h = omega arith
below_both is_index_update h = omega arith
below_both is_options h = absurd (true≢false (sym h))

types : (h : ℕ) → Valid (header E.Old) h → (1 ≤ type_of h) × (type_of h ≤ 6)
unfolding Valid
types h v = let p = both_true (leb 1 (type_of h)) (leb (type_of h) 6) v.0.1 in (leb-true 1 (type_of h) p.0, leb-true (type_of h) 6 p.1)

old_in_both : (h : ℕ) → Valid (header E.Old) h → in_both (kind_in h) ≡ true
old_in_both h v = let t = types h v in both_below (kind_in h) (omega (arith, t, number_kind (type_of h) t.0 (omega (arith, t.1))))

header_up : (h : ℕ) → Valid (header E.Old) h → Valid (header E.New) h
unfolding Valid
header_up h v = let t = types h v in ((v.0.0, simp (le-leb 1 (type_of h) t.0, le-leb (type_of h) 7 (omega (arith, t.1)))), v.1)

header_down : (h : ℕ) → in_both (kind_in h) ≡ true → Valid (header E.New) h → Valid (header E.Old) h
unfolding Valid
header_down h both v =
    let t = type_range E.New h v in
    let low : type_of h ≤ 6 = omega (arith, below_both (kind_in h) both, number_kind (type_of h) t.0 t.1) in
    ((v.0.0, simp (le-leb 1 (type_of h) t.0, le-leb (type_of h) 6 low)), v.1)

-- a Repository that passed its check is one
given_valid : (r : List ℕ) {a : List ℕ} {n : ℕ} → IsBytes r → repository_given r ≡ taken a n → Valid (repository E.New) r
unfolding Valid read_at
given_valid r {a} {n} b e = go (read (repository E.New) (repository_bytes E.New r)) refl e
  where
    go : (x : Reading (List ℕ)) → read (repository E.New) (repository_bytes E.New r) ≡ x → shifted 4 x ≡ taken a n → Valid (repository E.New) r
    go (taken l m) q e =
        let reads : Reads (repository E.New) (repository_bytes E.New r) 0 (taken l m) = record { is = shifted_zero (read (repository E.New) (repository_bytes E.New r)) ∙ q } in
        let t = told_same r (passed reads) in
        let long = leb-true (length r) 64 t.2 in
        (((omega (arith, long), t.2), b), subst (λ (x : List ℕ). is_text x ≡ true) t.0 (test_passed reads))
    go (refused k p) q e = let z : ◌≡◌ {A = ℕ} 0 1 = cc in absurd (omega arith)

-- reading what was turned

up_read : (s r : List ℕ) → IsBytes s → (m : MessageValue E.Old) (n : ℕ) → read (message E.Old) s ≡ taken m n → (has_repository (kind_in m.0) ≡ true → Valid (repository E.New) r)
    → (u : List ℕ) → read (message E.New) (encode (message E.New) (raised r m) ++ u) ≡ taken (raised r m) (length (encode (message E.New) (raised r m)))
unfolding Valid
up_read s r b m n e f u =
    let v = (read_exactly (message E.Old) s m n b e).1 in
    round (message E.New) (raised r m) u (header_up m.0 v.0, raised_valid r (kind_in m.0) m.1 f v.1)

down_read : (s : List ℕ) → IsBytes s → (m : MessageValue E.New) (n : ℕ) → read (message E.New) s ≡ taken m n → in_both (kind_in m.0) ≡ true
    → (u : List ℕ) → read (message E.Old) (encode (message E.Old) (lowered m) ++ u) ≡ taken (lowered m) (length (encode (message E.Old) (lowered m)))
unfolding Valid
down_read s b m n e both u =
    let v = (read_exactly (message E.New) s m n b e).1 in
    round (message E.Old) (lowered m) u (header_down m.0 both v.0, lowered_valid (kind_in m.0) m.1 v.1)

-- what an accepted turning tells: the bytes are those of the turned value

record WentUp (r : List ℕ) (m : MessageValue E.Old) (l : List ℕ) : Type 0 where
  bytes : l ≡ encode (message E.New) (raised r m)
  fits : has_repository (kind_in m.0) ≡ true → Valid (repository E.New) r

went_up : (s r l : List ℕ) → IsBytes r → (m : MessageValue E.Old) (n : ℕ) → read (message E.Old) s ≡ taken m n → upgrading s r ≡ gives l → WentUp r m l
unfolding upgrading
went_up s r l b m n q e = go (has_repository (kind_in m.0)) refl (repository_given r) refl (rw q at e)
  where
    turned : Outcome
    turned = gives (encode (message E.New) (raised r m))

    go : (h : Bool) → has_repository (kind_in m.0) ≡ h → (x : Reading (List ℕ)) → repository_given r ≡ x → cond h (once_taken x λ a. turned) turned ≡ gives l → WentUp r m l
    go true h (taken a k) g e = record { bytes = cc; fits = λ y. given_valid r b g }
    go true h (refused k p) g e = not_given e
    go false h x g e = record { bytes = cc; fits = λ y. absurd (true≢false (sym y ∙ h)) }

went_down : (s l : List ℕ) (m : MessageValue E.New) (n : ℕ) → read (message E.New) s ≡ taken m n → downgrading s ≡ gives l → (l ≡ encode (message E.Old) (lowered m)) × (in_both (kind_in m.0) ≡ true)
unfolding downgrading
went_down s l m n q e = go (in_both (kind_in m.0)) refl (rw q at e)
  where
    go : (h : Bool) → in_both (kind_in m.0) ≡ h → cond h (gives (encode (message E.Old) (lowered m))) (refuses 18 0) ≡ gives l → (l ≡ encode (message E.Old) (lowered m)) × (in_both (kind_in m.0) ≡ true)
    go true h e = (cc, h)
    go false h e = not_given e

-- and turning it, where it is allowed to

goes_down : (s : List ℕ) (m : MessageValue E.New) (n : ℕ) → read (message E.New) s ≡ taken m n → in_both (kind_in m.0) ≡ true → downgrading s ≡ gives (encode (message E.Old) (lowered m))
unfolding downgrading
goes_down s m n q both = rw q (rw both refl)

goes_up : (s r : List ℕ) (m : MessageValue E.Old) (n : ℕ) → read (message E.Old) s ≡ taken m n → (has_repository (kind_in m.0) ≡ true → Valid (repository E.New) r)
    → upgrading s r ≡ gives (encode (message E.New) (raised r m))
unfolding upgrading encode
goes_up s r m n q f = rw q (go (has_repository (kind_in m.0)) refl)
  where
    turned : Outcome
    turned = gives (encode (message E.New) (raised r m))

    checked : Valid (repository E.New) r → repository_given r ≡ taken r (4 + length (repository_bytes E.New r))
    checked v = ap (shifted 4) (ap (read (repository E.New)) (sym (append-nil (repository_bytes E.New r))) ∙ round (repository E.New) r [] v)

    go : (h : Bool) → has_repository (kind_in m.0) ≡ h → cond h (once_taken (repository_given r) λ a. turned) turned ≡ turned
    go true h = rw (checked (f h)) refl
    go false h = refl

-- every message that is turned up
pub turned_up : (s repository l : List ℕ) → IsBytes s → IsBytes repository → upgrading s repository ≡ gives l
    → (id : ℕ) (fields : MessageFields E.Old) (end : ℕ) → found E.Old s ≡ finds id fields end → TurnsUp s repository l id fields end
unfolding Valid
turned_up s r l b c e id fields end f =
    let w = found_told E.Old s b id fields end f in
    let m = w.value in
    let k = kind_in m.0 in
    let t = went_up s r l c m end w.reads e in
    let exactly = read_exactly (message E.Old) s m end b w.reads in
    let again : (u : List ℕ) → read (message E.New) (l ++ u) ≡ taken (raised r m) (length l) =
    λ u. subst (λ (x : List ℕ). read (message E.New) (x ++ u) ≡ taken (raised r m) (length x)) (sym t.bytes) (up_read s r b m end w.reads t.fits u) in
    record {
      says = λ u bs.
          read_found E.New (l ++ u) (raised r m) (length l) bs (again u)
          ∙ ap (λ (x : MessageFields E.New). finds (id_of m.0) x (length l)) (raised_fields r k m.1 ∙ ap (with_repository r) w.fields_are)
          ∙ ap (λ (i : ℕ). finds i (with_repository r fields) (length l)) w.id_is;
      back = λ u.
          goes_down (l ++ u) (raised r m) (length l) (again u) (old_in_both m.0 exactly.1.0)
          ∙ ap (λ (x : Body E.Old k). gives (encode (message E.Old) (m.0, x))) (lowered_raised r k m.1)
          ∙ ap gives exactly.0;
    }

-- and down
pub turned_down : (s l : List ℕ) → IsBytes s → downgrading s ≡ gives l → (id : ℕ) (fields : MessageFields E.New) (end : ℕ) → found E.New s ≡ finds id fields end → TurnsDown s l id fields end
unfolding Valid
turned_down s l b e id fields end f =
    let w = found_told E.New s b id fields end f in
    let m = w.value in
    let k = kind_in m.0 in
    let t = went_down s l m end w.reads e in
    let exactly = read_exactly (message E.New) s m end b w.reads in
    let own : repository_of fields ≡ own_repository k m.1 = ap repository_of (sym w.fields_are) ∙ own_fields k m.1 in
    let again : (u : List ℕ) → read (message E.Old) (l ++ u) ≡ taken (lowered m) (length l) =
    λ u. subst (λ (x : List ℕ). read (message E.Old) (x ++ u) ≡ taken (lowered m) (length x)) (sym t.0) (down_read s b m end w.reads t.1 u) in
    record {
      says = λ u bs.
          read_found E.Old (l ++ u) (lowered m) (length l) bs (again u)
          ∙ ap (λ (x : MessageFields E.Old). finds (id_of m.0) x (length l)) (lowered_fields k m.1 ∙ ap without_repository w.fields_are)
          ∙ ap (λ (i : ℕ). finds i (without_repository fields) (length l)) w.id_is;
      back = λ u.
          ap (upgrading (l ++ u)) own
          ∙ goes_up (l ++ u) (own_repository k m.1) (lowered m) (length l) (again u) (λ h. own_valid k m.1 h exactly.1.1)
          ∙ ap (λ (x : Body E.New k). gives (encode (message E.New) (m.0, x))) (raised_lowered k m.1)
          ∙ ap gives exactly.0;
    }
