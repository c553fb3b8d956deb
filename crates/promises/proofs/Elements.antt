-- Walking the arrays of a message gives the elements that were read.
use Rattle.std.specs.Prelude.{None}
use Rattle.std.specs.declared.result.Result.{Result}
use Rattle.xdr.specs.declared.answer.Refusal.{Refusal}
use Prim.Native.Nat.{ℕ, ◌+◌, ◌-◌}
use mathlib.Core.List.{List, [], ◌∷◌, append-nil}
use mathlib.Core.Path.{◌≡◌, refl, sym, ap, subst, ◌∙◌}
use native.Mathlib.Omega.{arith}
use lib.ListN.{length, take, drop}
use lib.Seq.{drop-drop}
use Rattle.xdr.specs.Reading.{taken}
use Rattle.xdr.specs.Number.{IsBytes}
use Rattle.xdr.specs.Format.{Format, array, read, read_at, encode, Valid}
use Rattle.xdr.specs.Fields.{up_to}
use Rattle.xdr.proofs.Steps.{Reads, passed, ends_word, shifted_zero}
use Rattle.xdr.proofs.Parts.{Elements, array_parts}
use Rattle.xdr.proofs.RoundTrip.{round}
use Rattle.xdr.proofs.Corollaries.{read_exactly}
use Rattle.record.specs.Block.{Block, block}
use Rattle.record.specs.File.{File, file, files}
use Rattle.record.specs.KeyValue.{KeyValue, key_value, options}
use Rattle.record.specs.Outline.{outline_of, fields_of, block_place}
use Rattle.record.proofs.BlockLaws.{nth_block, nth_outline}
use Rattle.record.proofs.FileLaws.{file_parts}
use Rattle.record.proofs.OptionLaws.{option_cut, option_parts}
use Rattle.table.proofs.WalkLaws.{at_last, at_end}
use Rattle.message.specs.Limits.{files_limit, options_limit}
use Rattle.message.specs.Header.{type_of, id_of}
use Rattle.message.specs.Message.{Kind, is_index, is_request, is_response, is_ping, is_pong, is_index_update, is_options, kind_of, Body, body, MessageValue, message}
use Rattle.message.specs.Answers.{span_bytes, message_in}
use Rattle.message.specs.declared.answer.Message.{Message}
use Rattle.message.specs.declared.edition.Edition.{Edition}
use Rattle.promises.specs.Spans.{SaysFields}
use Rattle.promises.specs.Elements.{BlocksFrom, FilesFrom, OptionsFrom, Walked}
use Rattle.promises.proofs.Spans.{spans_are_fields}

-- the blocks from number i on, of those that stand from a place on
blocks_from : (s : List ℕ) (all : List Block) (first next i : ℕ) (l : List Block) → Elements block s first all next → drop i all ≡ l → BlocksFrom s first i l
blocks_from s all first next i [] e d = tt
blocks_from s all first next i (b ∷ l) e d =
    let rest : drop (i + 1) all ≡ l = sym (drop-drop 1 i all) ∙ ap (drop 1) d in (
      block_place first i + 8,
      nth_outline s all first next i b l e d,
      sym (nth_block s all first next i b l e d).hash_is,
      blocks_from s all first next (i + 1) l e rest,
    )

files_from : (s : List ℕ) (at : ℕ) (fs : List File) → Elements file s at fs (length s) → FilesFrom s at fs
files_from s at [] e = (sym e, subst (λ (k : ℕ). outline_of s k ≡ None) e (at_end (at_last s)))
files_from s at (f ∷ fs) e =
    let q = file_parts e.1 in
    let size : (at + 4 + length f.name) - (at + 4) ≡ length f.name = omega arith in (
      fields_of at f,
      q.outline_is,
      record {
        name = ap (λ (k : ℕ). take k (drop (at + 4) s)) size ∙ sym q.name_is;
        flags = refl;
        modified = refl;
        version = refl;
        count = refl;
        blocks = blocks_from s f.blocks (fields_of at f).first e.0 0 f.blocks q.blocks_are refl;
      },
      files_from s (fields_of at f).past fs (subst (λ (k : ℕ). Elements file s k fs (length s)) q.ends e.2),
    )

options_from : (s : List ℕ) (at : ℕ) (os : List KeyValue) → Elements key_value s at os (length s) → OptionsFrom s at os
options_from s at [] e = (sym e, sym (option_cut s at (omega (arith, e))))
options_from s at (o ∷ os) e =
    let q = option_parts e.1 in (
      _,
      q.1.outline_is,
      record { key = sym q.1.key_is; value = sym q.1.value_is },
      options_from s e.0 os e.2,
    )

-- an encoded array is read whole, its first element behind the count
elements_of : {A : Type 0} (C : Format ℕ) (F : Format A) (s : List ℕ) (l : List A) → Valid (array C F) l → s ≡ encode (array C F) l → (k : ℕ) × Reads C s 0 (taken (length l) k) × Elements F s k l (length s)
unfolding read_at
elements_of C F s l v e =
    let whole : read (array C F) s ≡ taken l (length s) =
    ap (read (array C F)) (e ∙ sym (append-nil (encode (array C F) l))) ∙ round (array C F) l [] v ∙ ap (λ (x : List ℕ). taken l (length x)) (sym e) in
    array_parts (record { is = shifted_zero (read (array C F) s) ∙ whole })

files_walked : (s : List ℕ) (fs : List File) → Valid (files files_limit) fs → s ≡ encode (files files_limit) fs → FilesFrom s 4 fs
files_walked s fs v e =
    let q = elements_of (up_to files_limit) file s fs v e in
    files_from s 4 fs (subst (λ (k : ℕ). Elements file s k fs (length s)) (ends_word (passed q.1)).0 q.2)

options_walked : (s : List ℕ) (os : List KeyValue) → Valid (options options_limit) os → s ≡ encode (options options_limit) os → OptionsFrom s 4 os
options_walked s os v e =
    let q = elements_of (up_to options_limit) key_value s os v e in
    options_from s 4 os (subst (λ (k : ℕ). Elements key_value s k os (length s)) (ends_word (passed q.1)).0 q.2)

module _ (ed : Edition) where
  by_kind : (s : List ℕ) (k : Kind) (b : Body ed k) (id n : ℕ) (a : Result Message Refusal) → Valid (body ed k) b → SaysFields ed s id k b n a → Walked ed s k b a
  unfolding Valid
  by_kind s is_index b id n a v (x, e, f) = (id, x, e, files_walked (span_bytes s x.files) b.1 v.1 f.files_are)
  by_kind s is_request b id n a v f = tt
  by_kind s is_response b id n a v f = tt
  by_kind s is_ping b id n a v f = tt
  by_kind s is_pong b id n a v f = tt
  by_kind s is_index_update b id n a v (x, e, f) = (id, x, e, files_walked (span_bytes s x.files) b.1 v.1 f.files_are)
  by_kind s is_options b id n a v (x, e, f) = (id, x, e, options_walked (span_bytes s x.options) b v f.options_are)

  -- every message that is read
  pub elements_walked : (s : List ℕ) (m : MessageValue ed) (n : ℕ) → IsBytes s → read (message ed) s ≡ taken m n → Walked ed s (kind_of (type_of m.0)) m.1 (message_in ed s)
  unfolding Valid
  elements_walked s m n b e =
      by_kind s (kind_of (type_of m.0)) m.1 (id_of m.0) n (message_in ed s) (read_exactly (message ed) s m n b e).1.1 (spans_are_fields ed s m n b e)
