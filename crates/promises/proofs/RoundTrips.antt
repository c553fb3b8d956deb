-- What is read writes back to the same bytes, and what is written reads back to the same fields.
use Prim.Native.Nat.{ℕ, ◌-◌, ◌≤◌}
use mathlib.Core.List.{List, [], ◌++◌, append_assoc, append-nil}
use mathlib.Core.Path.{◌≡◌, refl, sym, ap, subst, ◌∙◌}
use mathlib.Core.Bool.{Bool, true, false, cond}
use native.Mathlib.Omega.{arith}
use native.Mathlib.Decide.{dec_le}
use borrow.Author.Tests.{le-leb, eqb-true}
use lib.ListN.{length, take, drop, take-append-drop}
use lib.Seq.{drop_at, length-take-le, take-append-le}
use lib.Dec.{leb, eqb}
use Rattle.xdr.specs.Reading.{Reading, taken, refused, shifted}
use Rattle.xdr.specs.Number.{IsBytes}
use Rattle.xdr.specs.Format.{Format, bytes, read, read_at, encode, Valid}
use Rattle.xdr.specs.Fields.{word}
use Rattle.xdr.specs.Filling.{Outcome, gives, refuses, in_room}
use Rattle.xdr.proofs.FillingLaws.{not_given, given_room}
use Rattle.xdr.proofs.Parts.{pair_parts}
use Rattle.xdr.proofs.Steps.{Reads, passed, shifted_zero}
use Rattle.xdr.proofs.Corollaries.{read_exactly}
use Rattle.xdr.proofs.Told.{told_there}
use Rattle.xdr.proofs.Within.{within}
use Rattle.xdr.proofs.Steady.{cut_short, steady}
use Rattle.record.specs.File.{File, files}
use Rattle.record.specs.KeyValue.{options}
use Rattle.message.specs.Limits.{id_limit, files_limit, options_limit}
use Rattle.message.specs.Header.{header_of, id_of, type_of, header}
use Rattle.message.specs.Message.{Repository, repository, Kind, kind_of, Body, index, message}
use Rattle.message.specs.declared.edition.Edition.{Edition}
use Rattle.message.specs.declared.edition.Edition.TheVariants as E
use Rattle.message.proofs.ByKind.{nothing_read}
use Rattle.message_write.specs.Writing.{repository_bytes, index_bytes, message_bytes, as_read, writing}
use Rattle.message_write.specs.Steps.{writing_body}
use Rattle.message_write.proofs.WritingLaws.{types_end, by_body, other_type, id_refused}
use Rattle.message_write.proofs.Behind.{string_size}
use Rattle.accept.proofs.MessageLaws.{read_there}
use Rattle.promises.specs.Bodies.{body_bytes}
use Rattle.promises.specs.RoundTrips.{MessageFields, an_index, a_request, a_response, a_ping, a_pong, an_index_update, some_options, written_of, finds, found, WritesBack, part_read, array_in, encoded_only, ArrayOfBytes, ReadsBack, followed_by, FollowersIgnored}
use Rattle.promises.proofs.Messages.{read_writes_back, written_reads_back, written_header}
use Rattle.promises.proofs.FieldLaws.{fields_of, written_fields, number_kind, type_range, found_told, read_found}

-- the Repository at the front takes its bytes
repository_size : (ed : Edition) (r : Repository ed) (f : List ℕ) {v : Repository ed} {n : ℕ} → Reads (repository ed) (repository_bytes ed r ++ f) 0 (taken v n) → length (repository_bytes ed r) ≡ n
repository_size E.Old r f {n = n} h = let same : 0 ≡ n = cc (sym (nothing_read f 0).is ∙ h.is) in same
repository_size E.New r f h = let s = told_there r [] f refl (passed h) in omega (arith, s.1, string_size r)

-- Options are written in the new edition alone
options_body : (ed : Edition) (id : ℕ) (o l : List ℕ) → writing (message ed) id 7 o ≡ gives l → writing_body (options options_limit) id 7 o ≡ gives l
options_body E.Old id o l e = go (dec_le id 4095)
  where
    go : Dec (id ≤ 4095) → writing_body (options options_limit) id 7 o ≡ gives l
    go (yes h) = not_given (sym (other_type E.Old id 7 o h (omega arith) (omega arith)) ∙ e)
    go (no h) = not_given (sym (id_refused (message E.Old) id 7 o (omega arith)) ∙ e)
options_body E.New id o l e = sym (by_body E.New id 7 o (omega arith) (omega arith)) ∙ e

module _ (ed : Edition) where
  -- with room for them
  room_for_lem : (o : Outcome) (l : List ℕ) (room : ℕ) → o ≡ gives l → length l ≤ room → in_room room o ≡ gives l
  room_for_lem o l room e h = ap (in_room room) e ∙ simp (le-leb (length l) room h)

  -- what is read writes back to the same bytes
  pub writes_back : (s : List ℕ) → IsBytes s → WritesBack ed s
  unfolding Valid
  writes_back s b id fields end e room h =
      let w = found_told ed s b id fields end e in
      let m = w.value in
      let k : Kind = kind_of (type_of m.0) in
      let t = type_range ed m.0 (read_exactly (message ed) s m end b w.reads).1.0 in
      let back : writing (message ed) (id_of m.0) (type_of m.0) (body_bytes ed k m.1) ≡ gives (take end s) =
      ap (writing (message ed) (id_of m.0) (type_of m.0)) (sym (append-nil (body_bytes ed k m.1))) ∙ read_writes_back ed s m end [] b w.reads in
      let wrote : written_of ed id fields ≡ gives (take end s) =
      ap (λ (i : ℕ). written_of ed i fields) (sym w.id_is)
      ∙ ap (written_of ed (id_of m.0)) (sym w.fields_are)
      ∙ written_fields ed k m.1 (id_of m.0)
      ∙ ap (λ (i : ℕ). writing (message ed) (id_of m.0) i (body_bytes ed k m.1)) (number_kind (type_of m.0) t.0 t.1)
      ∙ back in
      let long : length (take end s) ≡ end = length-take-le end s (rw w.reads at (within (message ed) s)) in
      room_for_lem (written_of ed id fields) (take end s) room wrote (omega (arith, long))

  -- what an accepted body was read as, behind its header
  record Took {A : Type 0} (F : Format A) (b : List ℕ) : Type 0 where
    value : A
    size : ℕ
    reads : read F b ≡ taken value size

  took : {A : Type 0} (F : Format A) (id type : ℕ) (b l : List ℕ) → writing_body F id type b ≡ gives l → Took F b
  unfolding writing_body
  took {A} F id type b l e = by_id (leb id id_limit) e
    where
      by_reading : (r : Reading A) → read F b ≡ r → as_read (message_bytes id type b) (shifted 4 r) ≡ gives l → Took F b
      by_reading (taken v n) q e = record { value = v; size = n; reads = q }
      by_reading (refused k p) q e = not_given e

      by_id : (c : Bool) → cond c (as_read (message_bytes id type b) (shifted 4 (read F b))) (refuses 5 0) ≡ gives l → Took F b
      by_id true e = by_reading (read F b) refl e
      by_id false e = not_given e

  -- the array that was given encoded: its value, and the bytes behind it
  record Given {A : Type 0} (F : Format A) (f : List ℕ) : Type 0 where
    value : A
    rest : List ℕ
    is : f ≡ encode F value ++ rest
    part : array_in F f ≡ encode F value

  given_array : {A : Type 0} (F : Format A) (f : List ℕ) → IsBytes f → Took F f → Given F f
  given_array F f b t =
      let q = read_exactly F f t.value t.size b t.reads in
      record {
        value = t.value;
        rest = drop t.size f;
        is = sym (take-append-drop t.size f) ∙ ap (λ (l : List ℕ). l ++ drop t.size f) (sym q.0);
        part = ap (part_read f) t.reads ∙ sym q.0;
      }

  index_array : (r : Repository ed) (f : List ℕ) → Took (index ed) (index_bytes ed r f) → Took (files files_limit) f
  unfolding read_at
  index_array r f t =
      let b = index_bytes ed r f in
      let whole : Reads (index ed) b 0 (taken t.value t.size) = record { is = shifted_zero (read (index ed) b) ∙ t.reads } in
      let q = pair_parts whole in
      let there : drop q.0 b ≡ f = drop_at (repository_bytes ed r) f q.0 (repository_size ed r f q.1) in
      let w = read_there q.0 (read (files files_limit) (drop q.0 b)) q.2.is in
      record { value = t.value.1; size = t.size - q.0; reads = ap (read (files files_limit)) (sym there) ∙ w.0 }

  -- what was written is found, whatever follows it and whatever followed the array
  written_found : (id type : ℕ) (b : Body ed (kind_of type)) (t l u : List ℕ) → type ≤ 7 → IsBytes (l ++ u) → writing (message ed) id type (body_bytes ed (kind_of type) b ++ t) ≡ gives l
      → found ed (l ++ u) ≡ finds id (fields_of ed (kind_of type) b) (length l)
  written_found id type b t l u h bs e =
      let q = written_header ed id type (body_bytes ed (kind_of type) b ++ t) l h e in
      subst FoundAs q.1 (λ b e.
      let w : ℕ = header_of id type in
      let k : Kind = kind_of (type_of w) in
      read_found ed (l ++ u) (w, b) (length l) bs (written_reads_back ed id type b t l e u)
      ∙ ap (λ (i : ℕ). finds i (fields_of ed k b) (length l)) q.0) b e
    where
      FoundAs : ℕ → Type 0
      FoundAs k = (b : Body ed (kind_of k)) → writing (message ed) id type (body_bytes ed (kind_of k) b ++ t) ≡ gives l → found ed (l ++ u) ≡ finds id (fields_of ed (kind_of k) b) (length l)

  module _ (id : ℕ) (l u : List ℕ) (bs : IsBytes (l ++ u)) where
    -- an Index or an IndexUpdate, by its files
    with_files : (type : ℕ) (r : Repository ed) (f : List ℕ) → type ≤ 7 → (w : (fs : List File) → Body ed (kind_of type)) → (to_fields : List ℕ → MessageFields ed)
        → ((fs : List File) → body_bytes ed (kind_of type) (w fs) ≡ index_bytes ed r (encode (files files_limit) fs)) → ((fs : List File) → fields_of ed (kind_of type) (w fs) ≡ to_fields (encode (files files_limit) fs))
        → IsBytes f → Took (index ed) (index_bytes ed r f) → writing (message ed) id type (index_bytes ed r f) ≡ gives l → found ed (l ++ u) ≡ finds id (to_fields (array_in (files files_limit) f)) (length l)
    with_files type r f h w to_fields same says b t e =
        let g = given_array (files files_limit) f b (index_array r f t) in
        let again : body_bytes ed (kind_of type) (w g.value) ++ g.rest ≡ index_bytes ed r f =
        ap (λ (x : List ℕ). x ++ g.rest) (same g.value)
        ∙ append_assoc (repository_bytes ed r) (encode (files files_limit) g.value) g.rest
        ∙ ap (index_bytes ed r) (sym g.is) in
        written_found id type (w g.value) g.rest l u h bs (ap (writing (message ed) id type) again ∙ e)
        ∙ ap (λ (x : MessageFields ed). finds id x (length l)) (says g.value ∙ ap to_fields (sym g.part))

    -- a message without an array
    without_array : (type : ℕ) (b : Body ed (kind_of type)) → type ≤ 7 → writing (message ed) id type (body_bytes ed (kind_of type) b) ≡ gives l → found ed (l ++ u) ≡ finds id (fields_of ed (kind_of type) b) (length l)
    without_array type b h e = written_found id type b [] l u h bs (ap (writing (message ed) id type) (append-nil (body_bytes ed (kind_of type) b)) ∙ e)

    by_fields : (fields : MessageFields ed) → ArrayOfBytes fields → written_of ed id fields ≡ gives l → found ed (l ++ u) ≡ finds id (encoded_only fields) (length l)
    by_fields (an_index r f) b e =
        with_files 1 r f (omega arith) (λ fs. (r, fs)) (an_index r) (λ fs. refl) (λ fs. refl) b (took (index ed) id 1 (index_bytes ed r f) l (sym (by_body ed id 1 (index_bytes ed r f) (omega arith) (omega (arith, (types_end ed).0))) ∙ e)) e
    by_fields (a_request r n o size h) b e = without_array 2 (record { repository = r; name = n; offset = o; size = size; hash = h }) (omega arith) e
    by_fields (a_response d) b e = without_array 3 d (omega arith) e
    by_fields a_ping b e = without_array 4 tt (omega arith) e
    by_fields a_pong b e = without_array 5 tt (omega arith) e
    by_fields (an_index_update r f) b e =
        with_files 6 r f (omega arith) (λ fs. (r, fs)) (an_index_update r) (λ fs. refl) (λ fs. refl) b (took (index ed) id 6 (index_bytes ed r f) l (sym (by_body ed id 6 (index_bytes ed r f) (omega arith) (types_end ed).0) ∙ e)) e
    by_fields (some_options o) b e =
        let g = given_array (options options_limit) o b (took (options options_limit) id 7 o l (options_body ed id o l e)) in
        written_found id 7 g.value g.rest l u (omega arith) bs (ap (writing (message ed) id 7) (sym g.is) ∙ e)
        ∙ ap (λ (x : List ℕ). finds id (some_options x) (length l)) (sym g.part)

  -- what is written reads back to the same fields
  pub reads_back : (id : ℕ) (fields : MessageFields ed) → ArrayOfBytes fields → ReadsBack ed id fields
  reads_back id fields b room l u bs e = by_fields id l u bs fields b (given_room room (written_of ed id fields) l e).0

  -- bytes behind what is written

  module _ {A : Type 0} (F : Format A) (id type : ℕ) (b t : List ℕ) where
    abbrev m : List ℕ
    m = message_bytes id type b

    longer : message_bytes id type (b ++ t) ≡ m ++ t
    longer = sym (append_assoc (encode word (header_of id type)) b t)

    as_read_longer : (r : Reading A) → read F m ≡ r → as_read (m ++ t) r ≡ as_read m r
    as_read_longer (taken v n) q = ap gives (take-append-le n m t (rw q at (within F m)))
    as_read_longer (refused k p) q = refl

    writing_longer : ((p : ℕ) → writing F id type b ≡ refuses 1 p → ⊥) → writing F id type (b ++ t) ≡ writing F id type b
    unfolding writing
    writing_longer h = by_id (leb id id_limit) h
      where
        uncut : (r : Reading A) → ((p : ℕ) → as_read m r ≡ refuses 1 p → ⊥) → cut_short r ≡ false
        uncut (taken v n) h = refl
        uncut (refused k p) h = by_number (eqb k 1) refl
          where
            by_number : (c : Bool) → eqb k 1 ≡ c → eqb k 1 ≡ false
            by_number true q = absurd (h p (ap (λ (n : ℕ). refuses n p) (eqb-true k 1 q)))
            by_number false q = q

        by_id : (c : Bool) → ((p : ℕ) → cond c (as_read m (read F m)) (refuses 5 0) ≡ refuses 1 p → ⊥)
            → cond c (as_read (message_bytes id type (b ++ t)) (read F (message_bytes id type (b ++ t)))) (refuses 5 0) ≡ cond c (as_read m (read F m)) (refuses 5 0)
        by_id true h =
            ap (λ (x : List ℕ). as_read x (read F x)) longer
            ∙ ap (as_read (m ++ t)) (steady F m t (uncut (read F m) h))
            ∙ as_read_longer (read F m) refl
        by_id false h = refl

  -- a writer's answer does not change
  pub followers_ignored : (id : ℕ) (fields : MessageFields ed) → FollowersIgnored ed id fields
  followers_ignored id fields h t room = ap (in_room room) (go fields h)
    where
      files_longer : (type : ℕ) (r : Repository ed) (f : List ℕ) → ((p : ℕ) → writing (message ed) id type (index_bytes ed r f) ≡ refuses 1 p → ⊥) → writing (message ed) id type (index_bytes ed r (f ++ t)) ≡ writing (message ed) id type (index_bytes ed r f)
      files_longer type r f h = ap (writing (message ed) id type) (sym (append_assoc (repository_bytes ed r) f t)) ∙ writing_longer (message ed) id type (index_bytes ed r f) t h

      go : (fields : MessageFields ed) → ((p : ℕ) → written_of ed id fields ≡ refuses 1 p → ⊥) → written_of ed id (followed_by fields t) ≡ written_of ed id fields
      go (an_index r f) h = files_longer 1 r f h
      go (a_request r n o size hash) h = refl
      go (a_response d) h = refl
      go a_ping h = refl
      go a_pong h = refl
      go (an_index_update r f) h = files_longer 6 r f h
      go (some_options o) h = writing_longer (message ed) id 7 o t h
