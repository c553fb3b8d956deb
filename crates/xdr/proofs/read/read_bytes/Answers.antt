-- Each return is a step of reading an opaque.
use Prim.Native.Nat.{ℕ, ◌+◌, ◌-◌, ◌≤◌}
use mathlib.Core.List.{List}
use mathlib.Core.Path.{◌≡◌, refl, sym, ap, ◌∙◌}
use native.Mathlib.Omega.{arith}
use borrow.Author.Tests.{le-leb, lt-leb}
use lib.ListN.{length, take, drop, length-drop}
use lib.Seq.{length-take-le}
use Rattle.std.specs.Prelude.{Ok, Err}
use Rattle.xdr.specs.Reading.{taken}
use Rattle.xdr.specs.Pad.{padded, zeros_up_to}
use Rattle.xdr.specs.Fields.{up_to}
use Rattle.xdr.specs.Answers.{bytes_answer}
use Rattle.xdr.proofs.PadLaws.{zeros_within, zero_all, zero_not_all}
use Rattle.xdr.proofs.Answered.{handed_up, word_taken, word_refused}
use Rattle.xdr.proofs.Steps.{Reads, answered, number_refused, checked_refused, checked_failed, checked_passed, ends_word, length_refused, cut_off, bad_pad, bytes_read}
use Rattle.xdr.proofs.read.read_bytes.Goals as goal

-- the pad of n bytes from m on, and how far it is zero
abbrev pad : (s : List ℕ) (n m : ℕ) → List ℕ
pad s n m = take (padded n - n) (drop (m + n) s)

pad-length : (s : List ℕ) (n m : ℕ) → padded n ≤ length s - m → padded n - n ≡ length (pad s n m)
pad-length s n m h = sym (length-take-le (padded n - n) (drop (m + n) s) (simp length-drop (omega arith)))

pad-zeros : (s : List ℕ) (n m p z : ℕ) → p ≡ padded n - n → z ≡ zeros_up_to (take (m + n + p - (m + n)) (drop (m + n) s)) → zeros_up_to (pad s n m) ≡ z
pad-zeros s n m p z e h =
    let exact : m + n + p - (m + n) ≡ padded n - n = omega arith in
    sym (h ∙ ap (λ (d : ℕ). zeros_up_to (take d (drop (m + n) s))) exact)

pub returns-in_default : goal.returns-in_default
returns-in_default c =
    let short = word_refused c.read_word-answer.ensures c.in_default.is in
    handed_up c.in_default.is c.refusal_of.ensures ∙ answered bytes_answer (length_refused (checked_refused short) (number_refused short))

pub returns-then-limit-len : goal.returns-then-limit-len
returns-then-limit-len c = answered bytes_answer (length_refused (checked_failed (word_taken c.read_word-answer.ensures c.in-Ok.is) (lt-leb _ _ c.if-limit-len.true)) refl)

pub overflow_sub-s : goal.overflow_sub-s
overflow_sub-s c = (ends_word (word_taken c.read_word-answer.ensures c.in-Ok.is)).1

pub returns-then-s-start : goal.returns-then-s-start
returns-then-s-start c =
    let limited : Reads (up_to c.args.limit) c.args.s.now c.args.at (taken c.in-Ok.len c.in-Ok.start) =
    checked_passed (word_taken c.read_word-answer.ensures c.in-Ok.is) (le-leb _ _ c.if-limit-len.false) in
    answered bytes_answer (cut_off limited (omega (arith, c.pad_after-pad.ensures)))

pub slice_bounds-zeros_up_to-end : goal.slice_bounds-zeros_up_to-end
slice_bounds-zeros_up_to-end c = omega (arith, (ends_word (word_taken c.read_word-answer.ensures c.in-Ok.is)).1)

pub overflow_add-result : goal.overflow_add-result
overflow_add-result c =
    let zeros = pad-zeros c.args.s.now c.in-Ok.len c.in-Ok.start _ _ c.pad_after-pad.ensures c.zeros_up_to-zeros.ensures in
    let long = pad-length c.args.s.now c.in-Ok.len c.in-Ok.start (omega (arith, c.pad_after-pad.ensures)) in
    let within = zeros_within (pad c.args.s.now c.in-Ok.len c.in-Ok.start) in
    omega arith

pub returns-then-zeros-pad : goal.returns-then-zeros-pad
returns-then-zeros-pad c =
    let s = c.args.s.now in
    let n = c.in-Ok.len in
    let m = c.in-Ok.start in
    let padding = c.pad_after-pad.ensures in
    let room : padded n ≤ length s - m = omega arith in
    let limited : Reads (up_to c.args.limit) s c.args.at (taken n m) =
    checked_passed (word_taken c.read_word-answer.ensures c.in-Ok.is) (le-leb _ _ c.if-limit-len.false) in
    let long : length (take n (drop m s)) ≡ n = length-take-le n (drop m s) (simp length-drop (omega arith)) in
    let end : m + n + c.pad_after-pad.result ≡ m + padded n = omega arith in
    let zeros = pad-zeros s n m _ _ padding c.zeros_up_to-zeros.ensures in
    ap (λ (k : ℕ). Ok (n, k)) end
    ∙ ap (λ (d : ℕ). Ok (d, m + padded n)) (sym long)
    ∙ answered bytes_answer (bytes_read limited room (zero_all (pad s n m) _ (pad-length s n m room) (zeros ∙ c.if-zeros-pad.true ∙ padding)))

pub returns-else-zeros-pad : goal.returns-else-zeros-pad
returns-else-zeros-pad c =
    let s = c.args.s.now in
    let n = c.in-Ok.len in
    let m = c.in-Ok.start in
    let padding = c.pad_after-pad.ensures in
    let room : padded n ≤ length s - m = omega arith in
    let limited : Reads (up_to c.args.limit) s c.args.at (taken n m) =
    checked_passed (word_taken c.read_word-answer.ensures c.in-Ok.is) (le-leb _ _ c.if-limit-len.false) in
    let zeros = pad-zeros s n m _ _ padding c.zeros_up_to-zeros.ensures in
    let there : m + n + c.zeros_up_to-zeros.result ≡ m + (n + zeros_up_to (pad s n m)) = omega (arith, zeros) in
    ap (λ (p : ℕ). Err (record { number = 6; place = p })) there
    ∙ answered bytes_answer (bad_pad limited room
    (zero_not_all (pad s n m) _ (pad-length s n m room) (λ e. c.if-zeros-pad.false (sym zeros ∙ e ∙ sym padding))))
