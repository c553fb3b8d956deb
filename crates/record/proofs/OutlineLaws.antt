-- Which outline the tests of the bytes give.
use Rattle.std.proofs.Common.{◌≡◌, ℕ, zero, suc, ◌+◌, ◌<◌, ◌≤◌, Bool, true, false, cond, leb, List, length, sym, refl, ap, ◌∙◌, add-zero, add-suc, arith, le-leb, leb-false}
use borrow.Author.Tests.{lt-leb}
use Rattle.std.specs.Prelude.{Option, Some, None, Ok, Err}
use Rattle.std.specs.Result.{result_ok}
use Rattle.std.specs.declared.result.Result.{Result}
use Rattle.xdr.specs.Reading.{taken}
use Rattle.xdr.specs.Answers.{word_answer, hyper_answer}
use Rattle.xdr.specs.Fields.{word, hyper}
use Rattle.xdr.specs.Format.{read_at}
use Rattle.xdr.specs.Pad.{padded}
use Rattle.xdr.specs.declared.answer.Refusal.{Refusal}
use Rattle.xdr.proofs.NumberLaws.{two_words}
use Rattle.xdr.proofs.Answered.{ok_kept, ok_lost, word_taken, word_refused}
use Rattle.xdr.proofs.Steps.{Reads, ends_word}
use Rattle.xdr.proofs.Parts.{number_value, number_missing}
use Rattle.record.specs.Outline.{word_at, hyper_at, blocks_size, outline_from, outline_of, block_place, block_of, offset_of}
use Rattle.record.specs.declared.outline.BlockFields.{BlockFields}

-- what `ok` keeps of an answer

-- a number of so many bytes stands at a place, and ends within the bytes
pub record There (k : ℕ) (value : List ℕ → ℕ → ℕ) (s : List ℕ) (at n m : ℕ) : Type 0 where
  pub is : n ≡ value s at
  pub ends : m ≡ at + k
  pub room : m ≤ length s

-- its bytes are not there
pub record Missing (k : ℕ) (s : List ℕ) (at : ℕ) : Type 0 where
  pub cut : length s < at + k

module _ {s : List ℕ} {at : ℕ} where
  pub word_read : {n m : ℕ} → Reads word s at (taken n m) → There 4 word_at s at n m
  unfolding word_at
  word_read h = let e = ends_word h in record { is = number_value h; ends = e.0; room = e.1 }

  pub hyper_read : {n m : ℕ} → Reads hyper s at (taken n m) → There 8 hyper_at s at n m
  unfolding word_at hyper_at
  hyper_read h = let e = ends_word h in record { is = number_value h ∙ two_words s at; ends = e.0; room = e.1 }

  -- by the answer that was given, and the variant that it is

  pub word_there : {w : Result (ℕ × ℕ) Refusal} {n m : ℕ} → w ≡ word_answer (read_at word s at) → w ≡ Ok (n, m) → There 4 word_at s at n m
  word_there e v = word_read (word_taken e v)

  pub word_missing : {w : Result (ℕ × ℕ) Refusal} {f : Refusal} → w ≡ word_answer (read_at word s at) → w ≡ Err f → Missing 4 s at
  word_missing e v = record { cut = number_missing (word_refused e v) }

  pub hyper_there : {w : Result (ℕ × ℕ) Refusal} {n m : ℕ} → w ≡ hyper_answer (read_at hyper s at) → w ≡ Ok (n, m) → There 8 hyper_at s at n m
  hyper_there e v = hyper_read (word_taken e v)

  pub hyper_missing : {w : Result (ℕ × ℕ) Refusal} {f : Refusal} → w ≡ hyper_answer (read_at hyper s at) → w ≡ Err f → Missing 8 s at
  hyper_missing e v = record { cut = number_missing (word_refused e v) }

  -- by what `ok` kept of the answer

  module _ {w : Result (ℕ × ℕ) Refusal} {o : Option (ℕ × ℕ)} where
    pub word_kept : {n m : ℕ} → w ≡ word_answer (read_at word s at) → o ≡ result_ok w → o ≡ Some (n, m) → There 4 word_at s at n m
    word_kept e k v = word_there e (ok_kept w (sym k ∙ v))

    pub word_lost : w ≡ word_answer (read_at word s at) → o ≡ result_ok w → o ≡ None → Missing 4 s at
    word_lost e k v = word_missing e (ok_lost w (sym k ∙ v)).1

    pub hyper_kept : {n m : ℕ} → w ≡ hyper_answer (read_at hyper s at) → o ≡ result_ok w → o ≡ Some (n, m) → There 8 hyper_at s at n m
    hyper_kept e k v = hyper_there e (ok_kept w (sym k ∙ v))

    pub hyper_lost : w ≡ hyper_answer (read_at hyper s at) → o ≡ result_ok w → o ≡ None → Missing 8 s at
    hyper_lost e k v = hyper_missing e (ok_lost w (sym k ∙ v)).1

-- the fixed fields from Flags on, one after another
pub record Fixed (s : List ℕ) (rest f m v b first : ℕ) : Type 0 where
  pub flags_are : f ≡ word_at s rest
  pub modified_is : m ≡ hyper_at s (rest + 4)
  pub version_is : v ≡ word_at s (rest + 12)
  pub blocks_are : b ≡ word_at s (rest + 16)
  pub ends : first ≡ rest + 20
  pub room : first ≤ length s

pub fixed : {s : List ℕ} {rest f i m j v k b first : ℕ} → There 4 word_at s rest f i → There 8 hyper_at s i m j → There 4 word_at s j v k → There 4 word_at s k b first → Fixed s rest f m v b first
fixed {s} {rest} {f} {i} {m} {j} {v} {k} {b} {first} p q r t =
    let version-at : j ≡ rest + 12 = omega arith in
    let blocks_at : k ≡ rest + 16 = omega arith in
    record {
      flags_are = p.is;
      modified_is = q.is ∙ ap (hyper_at s) p.ends;
      version_is = r.is ∙ ap (word_at s) version-at;
      blocks_are = t.is ∙ ap (word_at s) blocks_at;
      ends = omega arith;
      room = t.room;
    }

module _ (s : List ℕ) (name stop rest : ℕ) where
  fields_beyond : (b : ℕ) → b ≡ word_at s (rest + 16) → length s < rest + 20 + blocks_size b → None ≡ outline_from s name stop rest
  unfolding outline_from
  fields_beyond b e h = simp (← e, lt-leb (rest + 20 + blocks_size b) (length s) h)

  -- the fixed fields are not all there
  pub fields_cut : length s < rest + 20 → None ≡ outline_from s name stop rest
  fields_cut h = fields_beyond (word_at s (rest + 16)) refl (omega arith)

  module _ {f m v b first : ℕ} (x : Fixed s rest f m v b first) where
    -- the blocks are not all there
    pub fields_short : length s < first + blocks_size b → None ≡ outline_from s name stop rest
    fields_short h = fields_beyond b x.blocks_are (omega arith)

    pub fields_whole : first + blocks_size b ≤ length s
        → Some (record { name = name; stop = stop; rest = rest; flags = f; modified = m; version = v; blocks = b; first = first; past = first + blocks_size b }) ≡ outline_from s name stop rest
    unfolding outline_from
    fields_whole h =
        simp (x.ends, x.flags_are, x.modified_is, x.version_is, x.blocks_are, le-leb (rest + 20 + blocks_size (word_at s (rest + 16))) (length s) (rw (← x.blocks_are) (omega arith)))

module _ (s : List ℕ) (at : ℕ) where
  pub outline_cut : (n : ℕ) → n ≡ word_at s at → length s < at + 4 + padded n → None ≡ outline_of s at
  unfolding outline_of
  outline_cut n e h = fields_cut s (at + 4) (at + 4 + word_at s at) (at + 4 + padded (word_at s at)) (rw (← e) (omega arith))

  pub outline_is : (n name : ℕ) → n ≡ word_at s at → name ≡ at + 4 → outline_from s name (name + n) (name + padded n) ≡ outline_of s at
  unfolding outline_of
  outline_is n name e f = rw (f, e) refl

module _ (s : List ℕ) (first i : ℕ) where
  pub block_short : length s < block_place first i + 40 → None ≡ block_of s first i
  unfolding block_of
  block_short h = simp (lt-leb (block_place first i + 40) (length s) h)

  pub block_whole : (n at : ℕ) → n ≡ word_at s (block_place first i) → at ≡ block_place first i + 8 → block_place first i + 40 ≤ length s → Some (record { size = n; hash = at }) ≡ block_of s first i
  unfolding block_of
  block_whole n at d e h = simp (d, e, le-leb (block_place first i + 40) (length s) h)

  cut_block : (b : Bool) (f : BlockFields) → cond b (Some f) None ≡ None → b ≡ false
  cut_block true f e = cc
  cut_block false f e = refl

  block_cut : block_of s first i ≡ None → length s < block_place first i + 40
  unfolding block_of
  block_cut e = leb-false (block_place first i + 40) (length s) (cut_block (leb (block_place first i + 40) (length s)) _ e)

-- after a block that is not there none is
pub offset_stays : (s : List ℕ) (first i k : ℕ) → block_of s first i ≡ None → offset_of s first (i + k) ≡ offset_of s first i
offset_stays s first i zero e = rw add-zero refl
offset_stays s first i (suc k) e =
    let cut = block_cut s first i e in
    let none : None ≡ block_of s first (i + k) = block_short s first (i + k) (omega arith) in
    rw (add-suc, ← none) (rw add-zero (offset_stays s first i k e))
