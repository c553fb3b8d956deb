-- The header's step, and then the answer for the body of its kind.
use Rattle.std.specs.Prelude.{Ok}
use Prim.Native.Nat.{ℕ, ◌≤◌}
use mathlib.Core.List.{List}
use mathlib.Core.Path.{◌≡◌, refl, sym, ap, ◌∙◌}
use native.Mathlib.Omega.{arith}
use lib.ListN.{length}
use Rattle.xdr.specs.Reading.{taken}
use Rattle.xdr.specs.Format.{read_at}
use Rattle.xdr.proofs.Answered.{handed_on, handed_up, word_taken, word_refused}
use Rattle.xdr.proofs.Steps.{Reads, answered, first_refused, passed, ends_word}
use Rattle.record.specs.KeyValue.{options}
use Rattle.message.specs.Header.{id_of, type_of, header}
use Rattle.message.specs.Message.{is_index, is_request, is_response, is_ping, is_pong, is_index_update, is_options, kind_of, request, response}
use Rattle.message.specs.Answers.{index_message, update_message, request_answer, response_answer, options_answer, message_answer}
use Rattle.message.specs.Limits.{options_limit}
use Rattle.message.specs.declared.edition.Edition.{Edition}
use Rattle.message.specs.declared.answer.Message.TheVariants as M
use Rattle.message.proofs.ByKind.{by_kind, by_body, nothing_read, kind_rest}
use Rattle.message.proofs.reading.read.Goals as goal

-- the header takes four bytes
header-word : (e : Edition) {s : List ℕ} {h n : ℕ} → Reads (header e) s 0 (taken h n) → (n ≡ 4) × (4 ≤ length s)
header-word e h = let w = ends_word (passed (passed (passed h))) in (w.0, omega arith)

header_read : (e : Edition) {s : List ℕ} {h n : ℕ} → Reads (header e) s 0 (taken h n) → Reads (header e) s 0 (taken h 4)
header_read e h = rw (header-word e h).0 at h

-- the kind, by the type that the header names
kind-is : (h n : ℕ) {t : ℕ} → t ≡ type_of h → t ≡ n → kind_of (type_of h) ≡ kind_of n
kind-is h n a e = ap kind_of (sym a ∙ e)

pub returns-in_default : goal.returns-in_default
returns-in_default c =
    handed_up c.in_default.is c.refusal_of.ensures
    ∙ answered (message_answer c.args.edition) (first_refused (word_refused c.read_header-head.ensures c.in_default.is))

pub read_index-requires : goal.read_index-requires
read_index-requires c = (header-word c.args.edition (word_taken c.read_header-head.ensures c.in-Ok.is)).1

pub read_index-requires-in-6 : goal.read_index-requires-in-6
read_index-requires-in-6 c = (header-word c.args.edition (word_taken c.read_header-head.ensures c.in-Ok.is)).1

pub read_options-requires : goal.read_options-requires
read_options-requires c = (header-word c.args.edition (word_taken c.read_header-head.ensures c.in-Ok.is)).1

-- the index_message of the body's answer is that of the message
pub returns-in_err-read_index-in-1 : goal.returns-in_err-read_index-in-1
returns-in_err-read_index-in-1 c =
    handed_on c.from_residual.result c.from_residual.ensures.1
    ∙ ap (index_message (id_of c.in-Ok.h)) (sym c.in_err-read_index-in-1.was ∙ c.read_index.ensures)
    ∙ by_body c.args.edition is_index (kind-is c.in-Ok.h 1 c.type_of-kind.ensures c.in-1.is) (header_read c.args.edition (word_taken c.read_header-head.ensures c.in-Ok.is))

pub returns-in_ok-read_index-in-1 : goal.returns-in_ok-read_index-in-1
returns-in_ok-read_index-in-1 c =
    ap (λ (i : ℕ). index_message i (Ok c.in_ok-read_index-in-1.field-0)) c.id_of-id.ensures
    ∙ ap (index_message (id_of c.in-Ok.h)) (sym c.in_ok-read_index-in-1.was ∙ c.read_index.ensures)
    ∙ by_body c.args.edition is_index (kind-is c.in-Ok.h 1 c.type_of-kind.ensures c.in-1.is) (header_read c.args.edition (word_taken c.read_header-head.ensures c.in-Ok.is))

pub returns-in-2 : goal.returns-in-2
returns-in-2 c =
    c.read_request.ensures
    ∙ ap (λ (i : ℕ). request_answer c.args.edition i (read_at (request c.args.edition) c.args.s.now 4)) c.id_of-id.ensures
    ∙ by_body c.args.edition is_request (kind-is c.in-Ok.h 2 c.type_of-kind.ensures c.in-2.is) (header_read c.args.edition (word_taken c.read_header-head.ensures c.in-Ok.is))

pub returns-in-3 : goal.returns-in-3
returns-in-3 c =
    c.read_response.ensures
    ∙ ap (λ (i : ℕ). response_answer i (read_at response c.args.s.now 4)) c.id_of-id.ensures
    ∙ by_body c.args.edition is_response (kind-is c.in-Ok.h 3 c.type_of-kind.ensures c.in-3.is) (header_read c.args.edition (word_taken c.read_header-head.ensures c.in-Ok.is))

pub returns-in-4 : goal.returns-in-4
returns-in-4 c =
    ap (λ (i : ℕ). Ok (M.Ping i 4)) c.id_of-id.ensures
    ∙ by_kind c.args.edition is_ping (kind-is c.in-Ok.h 4 c.type_of-kind.ensures c.in-4.is) (header_read c.args.edition (word_taken c.read_header-head.ensures c.in-Ok.is)) (nothing_read c.args.s.now 4)

pub returns-in-5 : goal.returns-in-5
returns-in-5 c =
    ap (λ (i : ℕ). Ok (M.Pong i 4)) c.id_of-id.ensures
    ∙ by_kind c.args.edition is_pong (kind-is c.in-Ok.h 5 c.type_of-kind.ensures c.in-5.is) (header_read c.args.edition (word_taken c.read_header-head.ensures c.in-Ok.is)) (nothing_read c.args.s.now 4)

-- the update_message of the body's answer is that of the message
pub returns-in_err-read_index-in-6 : goal.returns-in_err-read_index-in-6
returns-in_err-read_index-in-6 c =
    handed_on c.from_residual-in_err-read_index-in-6.result c.from_residual-in_err-read_index-in-6.ensures.1
    ∙ ap (update_message (id_of c.in-Ok.h)) (sym c.in_err-read_index-in-6.was ∙ c.read_index-in-6.ensures)
    ∙ by_body c.args.edition is_index_update (kind-is c.in-Ok.h 6 c.type_of-kind.ensures c.in-6.is) (header_read c.args.edition (word_taken c.read_header-head.ensures c.in-Ok.is))

pub returns-in_ok-read_index-in-6 : goal.returns-in_ok-read_index-in-6
returns-in_ok-read_index-in-6 c =
    ap (λ (i : ℕ). update_message i (Ok c.in_ok-read_index-in-6.field-0)) c.id_of-id.ensures
    ∙ ap (update_message (id_of c.in-Ok.h)) (sym c.in_ok-read_index-in-6.was ∙ c.read_index-in-6.ensures)
    ∙ by_body c.args.edition is_index_update (kind-is c.in-Ok.h 6 c.type_of-kind.ensures c.in-6.is) (header_read c.args.edition (word_taken c.read_header-head.ensures c.in-Ok.is))

pub returns-in_default-kind : goal.returns-in_default-kind
returns-in_default-kind c =
    let r = c.in_default-kind.in_default-kind-own.rest in
    c.read_options.ensures
    ∙ ap (λ (i : ℕ). options_answer i (read_at (options options_limit) c.args.s.now 4)) c.id_of-id.ensures
    ∙ by_body c.args.edition is_options (kind-is c.in-Ok.h _ c.type_of-kind.ensures refl ∙ kind_rest _ r.0.0.0.0.0.1 r.0.0.0.0.1 r.0.0.0.1 r.0.0.1 r.0.1 r.1) (header_read c.args.edition (word_taken c.read_header-head.ensures c.in-Ok.is))
