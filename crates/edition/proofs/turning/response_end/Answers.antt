-- By the header and the data that were read.
use Rattle.xdr.proofs.Answered.{ok_kept}
use Prim.Native.Nat.{ℕ}
use mathlib.Core.Path.{◌≡◌, refl, sym, ap, subst, ◌∙◌}
use Rattle.xdr.specs.Reading.{taken}
use Rattle.xdr.proofs.Answered.{word_taken, bytes_taken}
use Rattle.xdr.proofs.Steps.{Reads, answered, passed, ends_word}
use Rattle.message.specs.Header.{id_of, type_of, header}
use Rattle.message.specs.Message.{is_response, kind_of}
use Rattle.message.specs.Answers.{response_span, response_answer}
use Rattle.message.proofs.ByKind.{by_body}
use Rattle.edition.proofs.turning.response_end.Goals as goal

pub returns : goal.returns
returns c =
    let e = c.args.edition in
    let s = c.args.m.now in
    let w = c.in_ok-h.h in
    let q = bytes_taken c.read_bytes.ensures (ok_kept c.read_bytes.result (sym c.ok-2.ensures.value ∙ c.in_ok-end.was)) in
    let there = word_taken c.read_header.ensures (ok_kept c.read_header.result (sym c.ok.ensures.value ∙ c.in_ok-h.was)) in
    let head : Reads (header e) s 0 (taken w 4) = subst (λ (n : ℕ). Reads (header e) s 0 (taken w n)) (ends_word (passed (passed (passed there)))).0 there in
    let kind : kind_of (type_of w) ≡ is_response = ap kind_of (sym c.type_of.ensures ∙ c.if-type_of-ne3.false) in
    record {
      id = id_of w;
      span = response_span q.0 c.in_ok-end.end;
      is = sym (answered (response_answer (id_of w)) q.1 ∙ by_body e is_response kind head);
      ends = refl;
    }
