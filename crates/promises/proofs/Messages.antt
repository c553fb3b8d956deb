-- Messages are read and written as laid down: what is read writes back to the same bytes, what is written reads back to the same fields.
use Prim.Native.Nat.{ℕ, ◌≤◌}
use mathlib.Core.List.{List, ◌++◌, append_assoc}
use mathlib.Core.Path.{◌≡◌, refl, sym, ap, ◌∙◌}
use mathlib.Core.Bool.{Bool, true, false, cond}
use native.Mathlib.Omega.{arith}
use borrow.Author.Tests.{le-leb, leb-true, eqb-true}
use lib.ListN.{length, take}
use lib.Seq.{take_at, length-take-le}
use lib.Dec.{leb}
use Rattle.xdr.specs.Reading.{Reading, taken, refused}
use Rattle.xdr.specs.Number.{IsBytes}
use Rattle.xdr.specs.Format.{read, encode, Valid}
use Rattle.xdr.specs.Fields.{word}
use Rattle.xdr.specs.Filling.{gives, refuses}
use Rattle.xdr.proofs.Corollaries.{read_exactly}
use Rattle.xdr.proofs.RoundTrip.{round}
use Rattle.xdr.proofs.Within.{within}
use Rattle.xdr.proofs.Told.{Wide, TakenOrRefused, whole, fault, read_back, told}
use Rattle.record.specs.File.{file, files}
use Rattle.message.specs.Limits.{id_limit, files_limit}
use Rattle.message.specs.Header.{header_of, version_of, reserved_of, id_of, type_of, header}
use Rattle.message.specs.Message.{Kind, is_index, is_request, is_response, is_ping, is_pong, is_index_update, is_options, kind_of, Body, body, MessageValue, message}
use Rattle.message.specs.declared.edition.Edition.{Edition}
use Rattle.message_write.specs.Writing.{message_bytes, as_read, writing}
use Rattle.message_write.proofs.WrittenRequest.{wide_repository, wide_request, repository_encoded, request_encoded}
use Rattle.promises.specs.Bodies.{body_bytes}

module _ (ed : Edition) where
  -- what a writer is given for a body is the body's encoding
  given : (k : Kind) (b : Body ed k) → body_bytes ed k b ≡ encode (body ed k) b
  unfolding encode
  given is_index b = ap (λ (l : List ℕ). l ++ encode (files files_limit) b.1) (repository_encoded ed b.0)
  given is_request b = request_encoded ed b.repository b.name b.offset b.size b.hash
  given is_response b = refl
  given is_ping b = refl
  given is_pong b = refl
  given is_index_update b = ap (λ (l : List ℕ). l ++ encode (files files_limit) b.1) (repository_encoded ed b.0)
  given is_options b = refl

  -- and the whole message, followed by any bytes, is the message's encoding and those bytes
  given_whole : (id type : ℕ) (h : ℕ) (b : Body ed (kind_of (type_of h))) (t : List ℕ) → h ≡ header_of id type
      → message_bytes id type (body_bytes ed (kind_of (type_of h)) b ++ t) ≡ encode (message ed) (h, b) ++ t
  unfolding encode
  given_whole id type h b t e =
      ap (λ (x : ℕ). encode word x ++ (body_bytes ed (kind_of (type_of h)) b ++ t)) (sym e)
      ∙ ap (λ (x : List ℕ). encode word h ++ (x ++ t)) (given (kind_of (type_of h)) b)
      ∙ sym (append_assoc (encode word h) (encode (body ed (kind_of (type_of h))) b) t)

  -- a header that was read is put together from its ID and its type
  header_again : (h : ℕ) → Valid (header ed) h → (h ≡ header_of (id_of h) (type_of h)) × (id_of h ≤ 4095)
  unfolding Valid
  header_again h v =
      let reserved = eqb-true (reserved_of h) 0 v.1 in
      let version = eqb-true (version_of h) 0 v.0.0.1 in
      (omega arith, omega arith)

  -- writing, where the bytes that would be written are read as a message
  accepted : (id type : ℕ) (b : List ℕ) (m : MessageValue ed) (n : ℕ) → id ≤ 4095 → read (message ed) (message_bytes id type b) ≡ taken m n
      → writing (message ed) id type b ≡ gives (take n (message_bytes id type b))
  unfolding writing
  accepted id type b m n h e = simp (le-leb id 4095 h, e)

  -- what was read is written back as the same bytes, whatever follows the arrays that are given
  pub read_writes_back : (s : List ℕ) (m : MessageValue ed) (n : ℕ) (t : List ℕ) → IsBytes s → read (message ed) s ≡ taken m n
      → writing (message ed) (id_of m.0) (type_of m.0) (body_bytes ed (kind_of (type_of m.0)) m.1 ++ t) ≡ gives (take n s)
  unfolding Valid encode
  read_writes_back s m n t b e =
      let q = read_exactly (message ed) s m n b e in
      let hd = header_again m.0 q.1.0 in
      let M : List ℕ = message_bytes (id_of m.0) (type_of m.0) (body_bytes ed (kind_of (type_of m.0)) m.1 ++ t) in
      let same : M ≡ encode (message ed) m ++ t = given_whole (id_of m.0) (type_of m.0) m.0 m.1 t hd.0 in
      let within-s : n ≤ length s = rw e at (within (message ed) s) in
      let long : length (encode (message ed) m) ≡ n = ap length q.0 ∙ length-take-le n s within-s in
      let again : read (message ed) M ≡ taken m n = ap (read (message ed)) same ∙ round (message ed) m t q.1 ∙ ap (λ (k : ℕ). taken m k) long in
      accepted (id_of m.0) (type_of m.0) (body_bytes ed (kind_of (type_of m.0)) m.1 ++ t) m n hd.1 again
      ∙ ap gives (ap (take n) same ∙ take_at (encode (message ed) m) t n long ∙ q.0)

  -- what an accepted writing tells: its ID, and that the bytes that would be written are read as a message, which takes those that are written
  record Accepted (id type : ℕ) (b l : List ℕ) : Type 0 where
    pub small : id ≤ 4095
    pub value : MessageValue ed
    pub reads : read (message ed) (message_bytes id type b) ≡ taken value (length l)
    pub bytes : l ≡ take (length l) (message_bytes id type b)

  accepted_by : (id type : ℕ) (b l : List ℕ) → writing (message ed) id type b ≡ gives l → Accepted id type b l
  unfolding writing
  accepted_by id type b l e = by_id (leb id id_limit) refl e
    where
      M : List ℕ
      M = message_bytes id type b

      by_reading : (r : Reading (MessageValue ed)) → id ≤ 4095 → read (message ed) M ≡ r → as_read M r ≡ gives l → Accepted id type b l
      by_reading (taken m k) small q e =
          let bytes : take k M ≡ l = cc in
          let room : k ≤ length M = rw q at (within (message ed) M) in
          let long : length l ≡ k = ap length (sym bytes) ∙ length-take-le k M room in
          record { small = small; value = m; reads = q ∙ ap (λ (i : ℕ). taken m i) (sym long); bytes = sym bytes ∙ ap (λ (i : ℕ). take i M) (sym long) }
      by_reading (refused k p) small q e = let z : ◌≡◌ {A = ℕ} 0 1 = cc in absurd (omega arith)

      by_id : (c : Bool) → leb id id_limit ≡ c → cond c (as_read M (read (message ed) M)) (refuses 5 0) ≡ gives l → Accepted id type b l
      by_id true q e = by_reading (read (message ed) M) (leb-true id id_limit q) refl e
      by_id false q e = let z : ◌≡◌ {A = ℕ} 0 1 = cc in absurd (omega arith)

  wide_file : Wide file
  unfolding Wide
  wide_file = (omega arith, λ n. (omega arith, λ f. (omega arith, λ m. (omega arith, λ v. (omega arith, (omega arith, λ z. omega arith))))))

  wide_body : (k : Kind) → Wide (body ed k)
  unfolding Wide
  wide_body is_index = (wide_repository ed, λ r. (omega arith, wide_file))
  wide_body is_request = wide_request ed
  wide_body is_response = omega arith
  wide_body is_ping = tt
  wide_body is_pong = tt
  wide_body is_index_update = (wide_repository ed, λ r. (omega arith, wide_file))
  wide_body is_options = (omega arith, (omega arith, λ k. omega arith))

  wide_message : Wide (message ed)
  unfolding Wide
  wide_message = (omega arith, λ h. wide_body (kind_of (type_of h)))

  -- what was written reads back as the same fields and the same length, whatever follows it
  pub written_reads_back : (id type : ℕ) (b : Body ed (kind_of (type_of (header_of id type)))) (t l : List ℕ)
      → writing (message ed) id type (body_bytes ed (kind_of (type_of (header_of id type))) b ++ t) ≡ gives l
      → (u : List ℕ) → read (message ed) (l ++ u) ≡ taken (header_of id type, b) (length l)
  written_reads_back id type b t l e u =
      let q = accepted_by id type (body_bytes ed (kind_of (type_of (header_of id type))) b ++ t) l e in
      let same = given_whole id type (header_of id type) b t refl in
      go (read_back (message ed) x) refl (told (message ed) x wide_message).either q.value
      (sym ((told (message ed) x wide_message).reads t) ∙ ap (read (message ed)) (sym same) ∙ q.reads) (q.bytes ∙ ap (take (length l)) same)
    where
      x : MessageValue ed
      x = (header_of id type, b)

      go : (r : Reading (MessageValue ed)) → read_back (message ed) x ≡ r → TakenOrRefused x (length (encode (message ed) x)) r → (m : MessageValue ed) → read_back (message ed) x ≡ taken m (length l)
          → l ≡ take (length l) (encode (message ed) x ++ t) → read (message ed) (l ++ u) ≡ taken x (length l)
      go r p whole m e f =
          let long : length (encode (message ed) x) ≡ length l = cc in
          let bytes : l ≡ encode (message ed) x = f ∙ take_at (encode (message ed) x) t (length l) long in
          ap (λ (y : List ℕ). read (message ed) (y ++ u)) bytes ∙ (told (message ed) x wide_message).reads u ∙ p ∙ ap (λ (k : ℕ). taken x k) long
      go r p (fault k j) m e f = let z : ◌≡◌ {A = ℕ} 0 1 = cc in absurd (omega arith)

  -- its ID and its type are those that were given
  pub written_header : (id type : ℕ) (b l : List ℕ) → type ≤ 7 → writing (message ed) id type b ≡ gives l → (id_of (header_of id type) ≡ id) × (type_of (header_of id type) ≡ type)
  written_header id type b l h e = let small = (accepted_by id type b l e).small in (omega arith, omega arith)
