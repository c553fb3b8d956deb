-- Each field that was read is a step, and each return the steps up to it.
use Rattle.std.proofs.Common.{◌≡◌, ℕ, ◌+◌, ◌-◌, Bool, List, length, take, drop, refl, ◌∙◌, arith}
use Rattle.std.specs.Prelude.{Ok, Err}
use Rattle.std.specs.declared.result.Result.{Result}
use Rattle.xdr.specs.Reading.{taken, refused}
use Rattle.xdr.specs.Format.{read_at}
use Rattle.xdr.specs.declared.answer.Refusal.{Refusal}
use Rattle.xdr.proofs.Answered.{handed_up, word_taken, word_refused, bytes_taken, bytes_refused, refusal_is}
use Rattle.xdr.proofs.Steps.{Reads, answered, passed, ends, ends_word, refused_within, via_refused, via_taken, first_refused, both_read}
use Rattle.xdr.proofs.Strings.{string_ends}
use Rattle.record.specs.Answers.{array_answer, file_answer}
use Rattle.record.specs.Block.{Block, blocks}
use Rattle.record.specs.declared.file.FileSpan.{FileSpan}
use Rattle.record.proofs.Arrays.{next_pair, next_refused}
use Rattle.record.proofs.NameSteps.{name_string}
use Rattle.record.proofs.file.read_file.Goals as goal

-- the blocks at a place, refused or read, of a file that is deleted or not

blocks-refused : {d e : Bool} (s : List ℕ) (at : ℕ) {w : Result (ℕ × ℕ) Refusal} {g : Refusal} → w ≡ array_answer (read_at (blocks d) (take (length s - at) (drop at s)) 0) → d ≡ e → w ≡ Err g
    → Reads (blocks e) s at (refused g.number (at + g.place))
blocks-refused s at a same v = rw same at (next_refused {F = blocks _} (λ l next. (length l, next)) s at a v)

blocks-read : {d e : Bool} (s : List ℕ) (at : ℕ) {w : Result (ℕ × ℕ) Refusal} {n m : ℕ} → w ≡ array_answer (read_at (blocks d) (take (length s - at) (drop at s)) 0) → d ≡ e → w ≡ Ok (n, m)
    → (l : List Block) × Reads (blocks e) s at (taken l (at + m)) × (length l ≡ n)
blocks-read s at a same v = rw same at (next_pair {F = blocks _} length s at a v)

-- an answer with the lengths of what was read
same_span : {n x f m v b y p q next : ℕ} → x ≡ n → y ≡ b → p ≡ q
    → ◌≡◌ {A = Result FileSpan Refusal} (Ok (record { name_length = n; flags = f; modified = m; version = v; blocks = b; first = p; next = next }))
    (Ok (record { name_length = x; flags = f; modified = m; version = v; blocks = y; first = q; next = next }))
same_span d e f = rw (d, e, f) refl

pub returns-in_default : goal.returns-in_default
returns-in_default c =
    handed_up c.in_default.is c.refusal_of.ensures
    ∙ answered file_answer (via_refused (first_refused (bytes_refused c.read_name-name.ensures c.in_default.is)))

pub returns-in_default-flags : goal.returns-in_default-flags
returns-in_default-flags c =
    handed_up c.in_default-flags.is c.refusal_of-in_default-flags.ensures
    ∙ answered file_answer (via_refused (both_read (bytes_taken c.read_name-name.ensures c.in-Ok.is).1 (first_refused
    (word_refused c.read_flags-flags.ensures c.in_default-flags.is))))

pub returns-in_default-modified : goal.returns-in_default-modified
returns-in_default-modified c =
    handed_up c.in_default-modified.is c.refusal_of-in_default-modified.ensures
    ∙ answered file_answer (via_refused (both_read (bytes_taken c.read_name-name.ensures c.in-Ok.is).1 (both_read (word_taken c.read_flags-flags.ensures c.in-Ok-flags.is) (first_refused
    (word_refused c.read_hyper-modified.ensures c.in_default-modified.is)))))

pub returns-in_default-version : goal.returns-in_default-version
returns-in_default-version c =
    handed_up c.in_default-version.is c.refusal_of-in_default-version.ensures
    ∙ answered file_answer (via_refused (both_read (bytes_taken c.read_name-name.ensures c.in-Ok.is).1 (both_read (word_taken c.read_flags-flags.ensures c.in-Ok-flags.is) (both_read (word_taken c.read_hyper-modified.ensures c.in-Ok-modified.is) (first_refused
    (word_refused c.read_word-version.ensures c.in_default-version.is))))))

pub slice_bounds-read_blocks-count : goal.slice_bounds-read_blocks-count
slice_bounds-read_blocks-count c = (ends_word (word_taken c.read_word-version.ensures c.in-Ok-version.is)).1

pub slice_bounds-read_blocks-start : goal.slice_bounds-read_blocks-start
slice_bounds-read_blocks-start c = (ends_word (word_taken c.read_word-version.ensures c.in-Ok-version.is)).1

pub overflow_add-result : goal.overflow_add-result
overflow_add-result c =
    let w = refused_within (ends_word (word_taken c.read_word-version.ensures c.in-Ok-version.is)).1 (blocks-refused c.args.s.now c.in-Ok-version.count_at c.read_blocks-blocks.ensures c.is_deleted.ensures (refusal_is c.in_default-blocks.is c.refusal_of-refusal.ensures)) in
    omega arith

pub returns-in_default-blocks : goal.returns-in_default-blocks
returns-in_default-blocks c =
    answered file_answer (via_refused (both_read (bytes_taken c.read_name-name.ensures c.in-Ok.is).1 (both_read (word_taken c.read_flags-flags.ensures c.in-Ok-flags.is) (both_read (word_taken c.read_hyper-modified.ensures c.in-Ok-modified.is) (both_read (word_taken c.read_word-version.ensures c.in-Ok-version.is)
    (blocks-refused c.args.s.now c.in-Ok-version.count_at c.read_blocks-blocks.ensures c.is_deleted.ensures (refusal_is c.in_default-blocks.is c.refusal_of-refusal.ensures)))))))

pub overflow_add-result-2 : goal.overflow_add-result-2
overflow_add-result-2 c =
    let w = (ends_word (word_taken c.read_word-version.ensures c.in-Ok-version.is)).1 in
    omega arith

pub overflow_add-result-3 : goal.overflow_add-result-3
overflow_add-result-3 c =
    let l = blocks-read c.args.s.now c.in-Ok-version.count_at c.read_blocks-blocks.ensures c.is_deleted.ensures c.in-Ok-blocks.is in
    let w = (ends (ends_word (word_taken c.read_word-version.ensures c.in-Ok-version.is)).1 l.1).1 in
    omega arith

pub returns : goal.returns
returns c =
    let n = bytes_taken c.read_name-name.ensures c.in-Ok.is in
    let f = word_taken c.read_flags-flags.ensures c.in-Ok-flags.is in
    let m = word_taken c.read_hyper-modified.ensures c.in-Ok-modified.is in
    let v = word_taken c.read_word-version.ensures c.in-Ok-version.is in
    let l = blocks-read c.args.s.now c.in-Ok-version.count_at c.read_blocks-blocks.ensures c.is_deleted.ensures c.in-Ok-blocks.is in
    same_span n.2 l.2 (omega (arith, string_ends (name_string n.1), (ends_word (passed f)).0, (ends_word m).0, (ends_word v).0))
    ∙ answered file_answer (via_taken (both_read n.1 (both_read f (both_read m (both_read v l.1)))))
