-- A Request that is written has a Length within its limits, and a hash of 32 bytes.
use Prim.Native.Nat.{ℕ, ◌≤◌}
use mathlib.Core.List.{List, [], ◌++◌, append-nil}
use mathlib.Core.Path.{◌≡◌, refl, sym, ap, ◌∙◌}
use mathlib.Core.Bool.{true}
use native.Mathlib.Omega.{arith}
use borrow.Author.Tests.{le-leb, eqb-true}
use lib.ListN.{length}
use Rattle.xdr.specs.Reading.{Reading, taken, refused, shifted}
use Rattle.xdr.specs.Format.{read, read_at, encode}
use Rattle.xdr.proofs.Steps.{Reads, shifted_zero, opened}
use Rattle.xdr.proofs.Parts.{via_parts, pair_parts, test_passed}
use Rattle.xdr.proofs.Told.{Wide, TakenOrRefused, whole, fault, read_back, told}
use Rattle.record.specs.Block.{is_size}
use Rattle.xdr.specs.Filling.{gives}
use Rattle.message.specs.Message.{Repository, repository, RequestBody, request, message}
use Rattle.message.specs.declared.edition.Edition.{Edition}
use Rattle.message.specs.declared.edition.Edition.TheVariants as E
use Rattle.message_write.specs.Writing.{repository_bytes, message_bytes, piece_bytes, request_bytes, as_read, writing}
use Rattle.message_write.specs.Steps.{writing_body}
use Rattle.message_write.proofs.WritingLaws.{types_end, by_body}

pub wide_repository : (e : Edition) → Wide (repository e)
unfolding Wide
wide_repository E.Old = tt
wide_repository E.New = omega arith

pub wide_request : (e : Edition) → Wide (request e)
unfolding Wide
wide_request e = (wide_repository e, λ r. (omega arith, λ n. (omega arith, λ o. (omega arith, λ l. omega arith))))

-- its bytes are those of its value
pub repository_encoded : (e : Edition) (r : Repository e) → repository_bytes e r ≡ encode (repository e) r
unfolding encode
repository_encoded E.Old r = refl
repository_encoded E.New r = refl

pub request_encoded : (e : Edition) (r : Repository e) (n : List ℕ) (o s : ℕ) (h : List ℕ) → request_bytes e r n o s h ≡ encode (request e) (record { repository = r; name = n; offset = o; size = s; hash = h })
unfolding encode
request_encoded e r n o s h = ap (λ (l : List ℕ). l ++ piece_bytes n o s h) (repository_encoded e r)

module _ (e : Edition) (r : Repository e) (n : List ℕ) (o s : ℕ) (h : List ℕ) where
  abbrev fields : RequestBody e
  fields = record { repository = r; name = n; offset = o; size = s; hash = h }

  -- the fields read back as themselves, if they are taken
  reads_itself : (v : RequestBody e) (k : ℕ) → read (request e) (request_bytes e r n o s h) ≡ taken v k → Reads (request e) (request_bytes e r n o s h) 0 (taken fields k)
  unfolding read_at
  reads_itself v k q =
      let t = told (request e) fields (wide_request e) in
      let back : read (request e) (request_bytes e r n o s h) ≡ read_back (request e) fields =
      ap (read (request e)) (request_encoded e r n o s h ∙ sym (append-nil (encode (request e) fields))) ∙ t.reads [] in
      record { is = shifted_zero (read (request e) (request_bytes e r n o s h)) ∙ go (read_back (request e) fields) t.either back }
    where
      go : (x : Reading (RequestBody e)) → TakenOrRefused fields (length (encode (request e) fields)) x → read (request e) (request_bytes e r n o s h) ≡ x → read (request e) (request_bytes e r n o s h) ≡ taken fields k
      go x whole p = let same : length (encode (request e) fields) ≡ k = cc in p ∙ ap (λ (i : ℕ). taken fields i) same
      go x (fault a b) p = let z : ◌≡◌ {A = ℕ} 0 1 = cc in absurd (omega arith)

  -- its Length and its hash, by the parts of the reading
  fits : (v : RequestBody e) (k : ℕ) → read (request e) (request_bytes e r n o s h) ≡ taken v k → (is_size s ≡ true) × (length h ≡ 32)
  fits v k q =
      let a = pair_parts (via_parts (reads_itself v k q)) in
      let b = pair_parts a.2 in
      let c = pair_parts b.2 in
      let d = pair_parts c.2 in
      (test_passed d.1, eqb-true (length h) 32 (test_passed (opened d.2).size))

  written_fits : (id : ℕ) (l : List ℕ) → id ≤ 4095 → writing (message e) id 2 (request_bytes e r n o s h) ≡ gives l → (is_size s ≡ true) × (length h ≡ 32)
  unfolding writing_body
  written_fits id l i q =
      let low = types_end e in
      go (read (request e) (request_bytes e r n o s h)) refl
      (sym (simp (le-leb id 4095 i) at (by_body e id 2 (request_bytes e r n o s h) (omega arith) (omega arith))) ∙ q)
    where
      go : (x : Reading (RequestBody e)) → read (request e) (request_bytes e r n o s h) ≡ x → as_read (message_bytes id 2 (request_bytes e r n o s h)) (shifted 4 x) ≡ gives l → (is_size s ≡ true) × (length h ≡ 32)
      go (taken v u) p q = fits v u p
      go (refused a b) p q = let z : ◌≡◌ {A = ℕ} 0 1 = cc in absurd (omega arith)

  pub written_size : (id : ℕ) (l : List ℕ) → id ≤ 4095 → writing (message e) id 2 (request_bytes e r n o s h) ≡ gives l → is_size s ≡ true
  written_size id l i q = (written_fits id l i q).0

  pub written_hash : (id : ℕ) (l : List ℕ) → id ≤ 4095 → writing (message e) id 2 (request_bytes e r n o s h) ≡ gives l → length h ≡ 32
  written_hash id l i q = (written_fits id l i q).1
