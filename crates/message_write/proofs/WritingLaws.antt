-- What writing gives, by what the check of its body answered.
use Prim.Native.Nat.{ℕ, ◌+◌, ◌%◌, ◌≤◌, ◌<◌}
use mathlib.Core.List.{List, [], ◌++◌}
use mathlib.Core.Path.{◌≡◌, refl, sym, ap, subst, ◌∙◌}
use mathlib.Core.Bool.{Bool, true, false, cond, ◌||◌}
use native.Mathlib.Omega.{arith}
use native.Mathlib.Decide.{dec_le}
use borrow.Author.Tests.{le-leb, lt-leb, eq-eqb, eqb-true, leb-true}
use lib.ListN.{length, take, drop, length-append}
use lib.Seq.{drop_at, length-take-le}
use lib.Dec.{leb, eqb}
use Rattle.xdr.specs.Reading.{Reading, taken, refused, shifted, mapped}
use Rattle.xdr.specs.Format.{Format, read, read_at, encode}
use Rattle.xdr.specs.Fields.{word}
use Rattle.xdr.specs.Buffer.{filled}
use Rattle.xdr.specs.Filling.{Outcome, gives, refuses, in_room, filling_answer, Fills}
use Rattle.xdr.specs.declared.answer.Refusal.{Refusal}
use Rattle.std.specs.Prelude.{Ok, Err}
use Rattle.std.specs.declared.result.Result.{Result}
use Rattle.xdr.proofs.EncodedSize.{number_size}
use Rattle.xdr.proofs.FillingLaws.{fills_given, fills_kept}
use Rattle.xdr.proofs.Steps.{Reads, checked_refused, checked_failed, checked_passed, first_refused, both_read, shifted_zero, ends}
use Rattle.xdr.proofs.Told.{Wide, encoded_at, number_alone}
use Rattle.xdr.proofs.Within.{Within, within}
use Rattle.message.specs.Header.{header_of, version_of, type_of, reserved_of, last_type, header}
use Rattle.message.specs.Message.{kind_of, body, message}
use Rattle.message.specs.declared.edition.Edition.{Edition}
use Rattle.message.specs.declared.edition.Edition.TheVariants as E
use Rattle.message_write.specs.Writing.{message_bytes, as_read, writing}
use Rattle.message_write.specs.Steps.{writing_body, check_answer, body_check, size_in, admitted_answer}
use Rattle.message_write.proofs.Behind.{behind}

-- each edition has the types 1 to 6, and none above 7
pub types_end : (e : Edition) → (6 ≤ last_type e) × (last_type e ≤ 7)
types_end E.Old = (omega arith, omega arith)
types_end E.New = (omega arith, omega arith)

-- a header that was put together reads back
header_there : (e : Edition) (id k : ℕ) (b : List ℕ) → id ≤ 4095 → 1 ≤ k → k ≤ last_type e → Reads (header e) (message_bytes id k b) 0 (taken (header_of id k) 4)
unfolding Wide
header_there e id k b h p q =
    let low = types_end e in
    let t : type_of (header_of id k) ≡ k = omega arith in
    checked_passed (checked_passed (checked_passed (encoded_at {F = word} (header_of id k) [] b (omega arith) refl refl (number_alone 3 (header_of id k)))
    (eq-eqb (version_of (header_of id k)) 0 (omega arith))) (simp (t, le-leb 1 k p, le-leb k (last_type e) q))) (eq-eqb (reserved_of (header_of id k)) 0 (omega arith))

-- one of another type does not
other_type_there : (e : Edition) (id k : ℕ) (b : List ℕ) → id ≤ 4095 → last_type e < k → k < 256 → Reads (header e) (message_bytes id k b) 0 (refused 3 0)
unfolding Wide
other_type_there e id k b h p q =
    let t : type_of (header_of id k) ≡ k = omega arith in
    checked_refused (checked_failed (checked_passed (encoded_at {F = word} (header_of id k) [] b (omega arith) refl refl (number_alone 3 (header_of id k)))
    (eq-eqb (version_of (header_of id k)) 0 (omega arith))) (simp (t, le-leb 1 k (omega arith), lt-leb k (last_type e) p)))

as_read_mapped : {A B : Type 0} (f : A → B) (m : List ℕ) (r : Reading A) → as_read m (mapped f r) ≡ as_read m r
as_read_mapped f m (taken v n) = refl
as_read_mapped f m (refused k p) = refl

-- what is written goes by the reading of the body
pub by_body : (e : Edition) (id k : ℕ) (b : List ℕ) → 1 ≤ k → k ≤ last_type e → writing (message e) id k b ≡ writing_body (body e (kind_of k)) id k b
unfolding writing writing_body read_at
by_body e id k b p q = go (dec_le id 4095)
  where
    m : List ℕ
    m = message_bytes id k b

    go : Dec (id ≤ 4095) → writing (message e) id k b ≡ writing_body (body e (kind_of k)) id k b
    go (yes h) =
        let w : ℕ = header_of id k in
        let low = types_end e in
        let t : type_of w ≡ k = omega arith in
        let behind-it : drop 4 m ≡ b = drop_at (encode word w) b 4 (number_size 4 w) in
        simp (le-leb id 4095 h)
        (ap (as_read m) (sym (shifted_zero (read (message e) m)) ∙ (both_read (header_there e id k b h p q) (record { is = refl })).is)
        ∙ as_read_mapped (λ y. (w, y)) m (shifted 4 (read (body e (kind_of (type_of w))) (drop 4 m)))
        ∙ ap (λ (l : List ℕ). as_read m (shifted 4 (read (body e (kind_of (type_of w))) l))) behind-it
        ∙ ap (λ (x : ℕ). as_read m (shifted 4 (read (body e (kind_of x)) b))) t)
    go (no h) = simp (lt-leb id 4095 (omega arith))

-- what has another type than the edition's isn't written
pub other_type : (e : Edition) (id k : ℕ) (b : List ℕ) → id ≤ 4095 → last_type e < k → k < 256 → writing (message e) id k b ≡ refuses 3 0
unfolding writing read_at
other_type e id k b h p q =
    let m : List ℕ = message_bytes id k b in
    let r : Reads (message e) m 0 (refused 3 0) = first_refused (other_type_there e id k b h p q) in
    simp (le-leb id 4095 h) (ap (as_read m) (sym (shifted_zero (read (message e) m)) ∙ r.is))

-- a type that is one of two
pub either : (a c k : ℕ) (P : ℕ → Type 0) → (eqb k a || eqb k c) ≡ true → P a → P c → P k
either a c k P e x y = go (eqb k a) refl e
  where
    go : (t : Bool) → eqb k a ≡ t → (t || eqb k c) ≡ true → P k
    go true q e = subst P (sym (eqb-true k a q)) x
    go false q e = subst P (sym (eqb-true k c e)) y

-- a body that passed its check, the test of the Message ID and that of the room
pub record Passed {A : Type 0} (F : Format A) (id : ℕ) (b : List ℕ) (size n : ℕ) : Type 0 where
  pub value : A
  pub reads : Reads F (behind b) 4 (taken value n)
  pub room : n ≤ size
  pub low : id ≤ 4095

-- a check answers what writing gives, but for the Message ID
check_answers : {A : Type 0} (F : Format A) (id k : ℕ) (b : List ℕ) → body_check F b ≡ filling_answer (as_read (message_bytes id k b) (shifted 4 (read F b)))
unfolding body_check
check_answers {A} F id k b = go (read F b) (within F b)
  where
    m : List ℕ
    m = message_bytes id k b

    go : (x : Reading A) → Within (length b) x → check_answer (shifted 4 x) ≡ filling_answer (as_read m (shifted 4 x))
    go (taken v u) h =
        ap Ok (sym (length-take-le (4 + u) m (omega (arith, length-append (encode word (header_of id k)) b, number_size 4 (header_of id k)))))
    go (refused n p) h = refl

-- an ID that is too high
pub id_refused : {A : Type 0} (F : Format A) (id k : ℕ) (b : List ℕ) → 4095 < id → writing F id k b ≡ refuses 5 0
unfolding writing
id_refused F id k b h = simp (lt-leb id 4095 h)

-- one that isn't
pub id_passed : (e : Edition) (id k : ℕ) (b : List ℕ) → id ≤ 4095 → 1 ≤ k → k ≤ last_type e → body_check (body e (kind_of k)) b ≡ filling_answer (writing (message e) id k b)
unfolding writing_body
id_passed e id k b h p q = rw (by_body e id k b p q) (simp (le-leb id 4095 h) (check_answers (body e (kind_of k)) id k b))

size_in_lem : (room : ℕ) (o : Outcome) → size_in room (filling_answer o) ≡ filling_answer (in_room room o)
size_in_lem room (gives l) = go (leb (length l) room)
  where
    go : (t : Bool) → cond t (Ok (length l)) (filling_answer (refuses 14 0)) ≡ filling_answer (cond t (gives l) (refuses 14 0))
    go true = refl
    go false = refl
size_in_lem room (refuses k p) = refl

module _ {A : Type 0} (F : Format A) (id k : ℕ) (b : List ℕ) (room : ℕ) {w c : Result ℕ Refusal} (a : w ≡ admitted_answer id room c) (e : c ≡ body_check F b) where
  -- the answer is that of writing
  admitted_answers : w ≡ filling_answer (in_room room (writing_body F id k b))
  unfolding writing_body
  admitted_answers = a ∙ ap (admitted_answer id room) (e ∙ check_answers F id k b) ∙ go (leb id 4095)
    where
      o : Outcome
      o = as_read (message_bytes id k b) (shifted 4 (read F b))

      go : (t : Bool) → cond t (size_in room (filling_answer o)) (filling_answer (refuses 5 0)) ≡ filling_answer (in_room room (cond t o (refuses 5 0)))
      go true = size_in_lem room o
      go false = refl

  -- what it refuses
  pub not_admitted : (out : List ℕ) {f : Refusal} → length out ≡ room → w ≡ Err f → Fills (writing_body F id k b) out (Err f) out
  not_admitted out long g =
      let kept : Fills (writing_body F id k b) out w out = fills_kept out (rw long admitted_answers) g in
      rw g at kept

  -- what it takes has passed
  pub admits : {n : ℕ} → w ≡ Ok n → Passed F id b room n
  unfolding body_check read_at
  admits {n} g = go (read F b) refl (leb id 4095) refl (sym g ∙ a ∙ ap (admitted_answer id room) e)
    where
      go : (x : Reading A) → read F b ≡ x → (t : Bool) → leb id 4095 ≡ t → Ok n ≡ cond t (size_in room (check_answer (shifted 4 x))) (filling_answer (refuses 5 0)) → Passed F id b room n
      go (taken v u) q true i h = side (leb (4 + u) room) refl h
        where
          side : (t : Bool) → leb (4 + u) room ≡ t → Ok n ≡ cond t (Ok (4 + u)) (filling_answer (refuses 14 0)) → Passed F id b room n
          side true r h =
              let same : 4 + u ≡ n = cc in
              record { value = v; reads = record { is = ap (shifted 4) q ∙ ap (λ (j : ℕ). taken v j) same }; room = (let f = leb-true (4 + u) room r in omega arith); low = leb-true id 4095 i }
          side false r h = let z : ◌≡◌ {A = ℕ} 0 1 = cc in absurd (omega arith)
      go (refused j p) q true i h = let z : ◌≡◌ {A = ℕ} 0 1 = cc in absurd (omega arith)
      go x q false i h = let z : ◌≡◌ {A = ℕ} 0 1 = cc in absurd (omega arith)

-- a body that passed and was put behind its header
pub body_filled : {A : Type 0} {F : Format A} (id k : ℕ) (b out : List ℕ) {n head : ℕ} {o : List ℕ} → Passed F id b (length out) n → k < 256 → head ≡ header_of (id % 4096) (k % 256)
    → o ≡ filled out (take n (encode word head ++ b)) → Fills (writing_body F id k b) out (Ok n) o
unfolding writing_body read_at
body_filled {F = F} id k b out {n} {head} {o} p small e f =
    let same : head ≡ header_of id k = omega (arith, p.low) in
    let m : List ℕ = message_bytes id k b in
    let size = ends (omega arith) p.reads in
    let long : length (take n m) ≡ n = length-take-le n m (omega (arith, length-append (encode word (header_of id k)) b, number_size 4 (header_of id k))) in
    let given : writing_body F id k b ≡ gives (take n m) = simp (le-leb id 4095 p.low) (ap (as_read m) p.reads.is) in
    fills_given out given (omega (arith, p.room)) (sym long) (f ∙ ap (λ (x : ℕ). filled out (take n (encode word x ++ b))) same)
