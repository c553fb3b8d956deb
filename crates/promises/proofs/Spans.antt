-- The bytes at the spans that reading a message answers are the fields that were read.
use Prim.Native.Nat.{ℕ, ◌+◌, ◌-◌}
use mathlib.Core.List.{List}
use mathlib.Core.Path.{◌≡◌, refl, sym, ap, subst, ◌∙◌}
use native.Mathlib.Omega.{arith}
use lib.ListN.{length, take, drop}
use Rattle.xdr.specs.Reading.{Reading, taken, refused, shifted}
use Rattle.xdr.specs.Number.{IsBytes}
use Rattle.xdr.specs.Format.{Format, read, read_at, encode}
use Rattle.xdr.proofs.NumberLaws.{bytes_drop}
use Rattle.xdr.proofs.Steps.{Reads, passed, ends_word, shifted_zero}
use Rattle.xdr.proofs.Strings.{string_there, string_ends}
use Rattle.xdr.proofs.Parts.{via_parts, pair_parts}
use Rattle.xdr.proofs.Corollaries.{read_exactly}
use Rattle.record.proofs.NameSteps.{name_string}
use Rattle.record.specs.KeyValue.{KeyValue}
use Rattle.message.specs.Header.{type_of, id_of}
use Rattle.message.specs.Message.{Repository, repository, Kind, is_index, is_request, is_response, is_ping, is_pong, is_index_update, is_options, kind_of, Body, body, MessageValue, index, request, response, message}
use Rattle.message.specs.Answers.{past_repository, repository_span, index_span, request_span, response_span, options_span, body_answer, message_answer, message_in}
use Rattle.message.specs.declared.edition.Edition.{Edition}
use Rattle.message.specs.declared.edition.Edition.TheVariants as E
use Rattle.message.proofs.ByKind.{nothing_read}
use Rattle.promises.specs.Spans.{repository_at, IndexFields, RequestFields, ResponseFields, OptionsFields, SaysFields}

-- any value stands encoded from its place to its end
encoded_there : {A : Type 0} {F : Format A} {s : List ℕ} {at : ℕ} {a : A} {m : ℕ} → IsBytes s → Reads F s at (taken a m) → take (m - at) (drop at s) ≡ encode F a
unfolding read_at
encoded_there {A} {F} {s} {at} {a} {m} b h = go (read F (drop at s)) refl h.is
  where
    go : (r : Reading A) → read F (drop at s) ≡ r → shifted at r ≡ taken a m → take (m - at) (drop at s) ≡ encode F a
    go (taken x n) q e =
        let ends : m ≡ at + n = cc in
        let long : m - at ≡ n = omega arith in
        let same : x ≡ a = cc in
        ap (λ (i : ℕ). take i (drop at s)) long ∙ sym (read_exactly F (drop at s) x n (bytes_drop at s b) q).0 ∙ ap (encode F) same
    go (refused k p) q e = let z : ◌≡◌ {A = ℕ} 0 1 = cc in absurd (omega arith)

-- a Repository of either edition: where it ends, and what stands at its span
repository_fields : (ed : Edition) {s : List ℕ} {r : Repository ed} {next : ℕ} → Reads (repository ed) s 4 (taken r next) → (next ≡ past_repository ed r) × (repository_at ed s (repository_span ed r) ≡ r)
repository_fields E.Old {s} {r} {next} h = let ends : 4 ≡ next = cc (sym (nothing_read s 4).is ∙ h.is) in (sym ends, refl)
repository_fields E.New h = (string_ends (passed h), string_there (passed h))

module _ (ed : Edition) where
  -- by kind, where the body was read behind the header

  module _ {s : List ℕ} {next : ℕ} where
    index_fields : {p : Body ed is_index} → IsBytes s → Reads (index ed) s 4 (taken p next) → IndexFields ed s (index_span ed p next) p next
    index_fields {p} b h =
        let q = pair_parts h in
        let r = repository_fields ed q.1 in
        record {
          repository_is = r.1;
          files_are = ap (λ (n : ℕ). take (next - n) (drop n s)) (sym r.0) ∙ encoded_there b q.2;
          count_is = refl;
          end_is = refl;
        }

    pub request_fields : {p : Body ed is_request} → Reads (request ed) s 4 (taken p next) → RequestFields ed s (request_span ed p next) p next
    request_fields {p} h =
        let repository = pair_parts (via_parts h) in
        let name = pair_parts repository.2 in
        let offset = pair_parts name.2 in
        let size = pair_parts offset.2 in
        let r = repository_fields ed repository.1 in
        let n = string_ends (name_string name.1) in
        let hash_at : (request_span ed p next).hash.start ≡ size.0 + 4 = omega (arith, r.0, n, (ends_word offset.1).0, (ends_word (passed size.1)).0) in
        record {
          repository_is = r.1;
          name_is = ap (λ (k : ℕ). take (length p.name) (drop (k + 4) s)) (sym r.0) ∙ string_there (name_string name.1);
          offset_is = refl;
          size_is = refl;
          hash_is = ap (λ (k : ℕ). take (length p.hash) (drop k s)) hash_at ∙ string_there size.2;
          end_is = refl;
        }

    pub response_fields : {l : List ℕ} → Reads response s 4 (taken l next) → ResponseFields s (response_span l next) l next
    response_fields h = record { data_is = string_there h; end_is = refl }

    options_fields : {l : List KeyValue} → IsBytes s → Reads (body ed is_options) s 4 (taken l next) → OptionsFields s (options_span l next) l next
    options_fields b h = record { options_are = encoded_there b h; count_is = refl; end_is = refl }

    by_kind : (k : Kind) (p : Body ed k) (id : ℕ) → IsBytes s → Reads (body ed k) s 4 (taken p next) → SaysFields ed s id k p next (body_answer ed k id (taken p next))
    by_kind is_index p id b h = (index_span ed p next, refl, index_fields b h)
    by_kind is_request p id b h = (request_span ed p next, refl, request_fields h)
    by_kind is_response p id b h = (response_span p next, refl, response_fields h)
    by_kind is_ping p id b h = refl
    by_kind is_pong p id b h = refl
    by_kind is_index_update p id b h = (index_span ed p next, refl, index_fields b h)
    by_kind is_options p id b h = (options_span p next, refl, options_fields b h)

  -- a message is read from the start of the bytes
  pub from_start : (s : List ℕ) → read_at (message ed) s 0 ≡ read (message ed) s
  unfolding read_at
  from_start s = shifted_zero (read (message ed) s)

  -- its body stands behind its header
  pub body_there : {s : List ℕ} {m : MessageValue ed} {n : ℕ} → read (message ed) s ≡ taken m n → Reads (body ed (kind_of (type_of m.0))) s 4 (taken m.1 n)
  body_there {s} {m} {n} e =
      let r : Reads (message ed) s 0 (taken m n) = record { is = from_start s ∙ e } in
      let h = pair_parts r in
      subst (λ (k : ℕ). Reads (body ed (kind_of (type_of m.0))) s k (taken m.1 n)) (ends_word (passed (passed (passed h.1)))).0 h.2

  -- every message that is read
  pub spans_are_fields : (s : List ℕ) (m : MessageValue ed) (n : ℕ) → IsBytes s → read (message ed) s ≡ taken m n
      → SaysFields ed s (id_of m.0) (kind_of (type_of m.0)) m.1 n (message_in ed s)
  spans_are_fields s m n b e =
      let k : Kind = kind_of (type_of m.0) in
      subst (λ (r : Reading (MessageValue ed)). SaysFields ed s (id_of m.0) k m.1 n (message_answer ed r)) (sym (from_start s ∙ e))
      (by_kind k m.1 (id_of m.0) b (body_there e))
