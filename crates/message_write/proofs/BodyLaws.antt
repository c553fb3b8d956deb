-- What the reading of a body behind its header tells of the fields that it was made of.
use Prim.Native.Nat.{ℕ, ◌+◌, ◌≤◌}
use mathlib.Core.List.{List, [], ◌∷◌, ◌++◌, append-nil}
use mathlib.Core.Path.{◌≡◌, refl, sym, ap, subst, ◌∙◌}
use native.Mathlib.Omega.{arith}
use borrow.Author.Tests.{leb-true, eqb-true}
use lib.ListN.{length, take, length-append}
use lib.Seq.{take-append-add}
use Rattle.xdr.specs.Reading.{taken}
use Rattle.xdr.specs.Format.{nothing, bytes, read, read_at, encode}
use Rattle.xdr.specs.Fields.{word, hyper}
use Rattle.xdr.proofs.EncodedSize.{number_size}
use Rattle.xdr.proofs.Parts.{via_parts, pair_parts}
use Rattle.xdr.proofs.Steps.{Reads, passed, ends, ends_word}
use Rattle.xdr.proofs.Told.{told_there}
use Rattle.record.specs.Block.{hash as hash_field}
use Rattle.record.specs.File.{File}
use Rattle.record.specs.KeyValue.{KeyValue, options}
use Rattle.record.proofs.NameSteps.{name_string}
use Rattle.message.specs.Limits.{options_limit}
use Rattle.message.specs.Message.{Repository, RequestBody, index, request, response}
use Rattle.message.specs.declared.edition.Edition.{Edition}
use Rattle.message_write.specs.Writing.{index_bytes, piece_bytes, request_bytes}
use Rattle.message_write.specs.Steps.{repository_of, given_bytes}
use Rattle.message_write.proofs.Behind.{behind, string_size, request_size, request_grouped}
use Rattle.message_write.proofs.RepositoryLaws.{repository_told}

-- Ping and Pong: nothing behind the header
pub nothing_parts : {v : Unit {0}} {n : ℕ} → Reads nothing (behind []) 4 (taken v n) → n ≡ 4
unfolding read read_at
nothing_parts h = cc (sym h.is)

-- Options: the array ends within the bytes that were given
pub options_parts : (b : List ℕ) {v : List KeyValue} {n : ℕ} → Reads (options options_limit) (behind b) 4 (taken v n) → (4 ≤ n) × (n ≤ 4 + length b)
options_parts b h = let w = ends (omega arith) h in (w.0, omega arith)

-- a Response: its data, whole
pub response_parts : (l : List ℕ) {v : List ℕ} {n : ℕ} → Reads response (behind (encode (bytes word) l)) 4 (taken v n) → (length l ≤ 131072) × (n ≡ 4 + length (encode (bytes word) l))
response_parts l {v} {n} h =
    let q = told_there l (0 ∷ 0 ∷ 0 ∷ 0 ∷ []) [] refl (subst (λ (x : List ℕ). Reads response (behind x) 4 (taken v n)) (sym (append-nil (encode (bytes word) l))) h) in
    (leb-true (length l) 131072 q.2, omega (arith, q.1, string_size l))

-- an Index or an IndexUpdate: its repository, and files that end within the bytes that were given
pub index_parts : (e : Edition) (r f : List ℕ) {v : Repository e × List File} {n : ℕ} → Reads (index e) (behind (index_bytes e (repository_of e r) f)) 4 (taken v n)
    → (length (given_bytes e r) ≤ 68) × (4 + length (given_bytes e r) ≤ n) × (n ≤ 4 + length (given_bytes e r) + length f)
index_parts e r f h =
    let q = pair_parts h in
    let s = repository_told e r f q.1 in
    let size = length-append (given_bytes e r) f in
    let w = ends (omega (arith, s.0, size)) q.2 in
    (s.1, omega (arith, s.0, w.0), omega (arith, s.0, w.1, size))

-- a Request: its strings within their limits, and all of its bytes
pub request_parts : (d : Edition) (r n : List ℕ) (o s : ℕ) (h : List ℕ) {v : RequestBody d} {e : ℕ} → Reads (request d) (behind (request_bytes d (repository_of d r) n o s h)) 4 (taken v e)
    → (length (given_bytes d r) ≤ 68) × (length n ≤ 255) × (length h ≤ 32) × (e ≡ 4 + length (request_bytes d (repository_of d r) n o s h))
request_parts d r n o s h {v} {e} w =
    let R : List ℕ = given_bytes d r in
    let N : List ℕ = encode (bytes word) n in
    let O : List ℕ = encode hyper o in
    let L : List ℕ = encode word s in
    let H : List ℕ = encode (bytes word) h in
    let front : List ℕ = ((((0 ∷ 0 ∷ 0 ∷ 0 ∷ []) ++ R) ++ N) ++ O) ++ L in
    let a = pair_parts (via_parts w) in
    let b = pair_parts a.2 in
    let c = pair_parts b.2 in
    let p = pair_parts c.2 in
    let repository = repository_told d r (piece_bytes n o s h) a.1 in
    let name = told_there n (behind R) (O ++ (L ++ H)) (omega (arith, repository.0)) (name_string b.1) in
    let offset = (ends_word c.1).0 in
    let size = (ends_word (passed p.1)).0 in
    let long : length front ≡ p.0 =
    simp length-append (omega (arith, repository.0, name.1, offset, size, string_size n, number_size 8 o, number_size 4 s)) in
    let whole : behind (request_bytes d (repository_of d r) n o s h) ≡ front ++ (H ++ []) = sym (request_grouped (0 ∷ 0 ∷ 0 ∷ 0 ∷ []) R N O L H) ∙ ap (λ (x : List ℕ). front ++ x) (sym (append-nil H)) in
    let hash = told_there h front [] long (subst (λ (x : List ℕ). Reads hash_field x p.0 (taken v.hash e)) whole p.2) in (
      repository.1,
      leb-true (length n) 255 name.2,
      omega (arith, eqb-true (length h) 32 hash.2),
      omega (arith, repository.0, name.1, offset, size, hash.1, string_size n, string_size h, request_size R n o s h),
    )

-- the first bytes of a list of which a part is taken whole
pub take_behind : (p q : List ℕ) (n u : ℕ) → n ≡ length p + u → take n (p ++ q) ≡ p ++ take u q
take_behind p q n u e = ap (λ (k : ℕ). take k (p ++ q)) e ∙ take-append-add p q u
