-- An accepted file and the outline of its bytes agree, and a file is what its bytes say.
use Rattle.std.proofs.Common.{◌≡◌, ℕ, ◌+◌, ◌≤◌, List, [], ◌++◌, length, take, drop, sym, refl, ap, ◌∙◌, subst, append_assoc, arith, drop-drop}
use lib.Seq.{drop-append_seam}
use Rattle.std.specs.Prelude.{Some}
use Rattle.xdr.specs.Reading.{taken}
use Rattle.xdr.specs.Format.{encode, Valid}
use Rattle.xdr.specs.Pad.{padded}
use Rattle.xdr.specs.Fields.{up_to}
use Rattle.xdr.proofs.EncodedSize.{bytes_size}
use Rattle.xdr.proofs.Corollaries.{prefix_free}
use Rattle.xdr.proofs.Steps.{Reads, opened, passed, ends}
use Rattle.xdr.proofs.Strings.{string_there, string_ends}
use Rattle.xdr.proofs.Parts.{Elements, via_parts, pair_parts, array_parts, encoding_read}
use Rattle.record.specs.Limits.{name_limit}
use Rattle.record.specs.Block.{block}
use Rattle.record.specs.File.{File, name, file, from_flags}
use Rattle.record.specs.Outline.{word_at, blocks_size, outline_of, fields_of}
use Rattle.record.proofs.NameSteps.{name_string}
use Rattle.record.proofs.OutlineLaws.{Fixed, fixed, word_read, hyper_read, fields_whole}
use Rattle.record.proofs.BlockLaws.{blocks_end}

-- what is known of a file that was read at a place
pub record FileAt (s : List ℕ) (at : ℕ) (f : File) (next : ℕ) : Type 0 where
  pub outline_is : outline_of s at ≡ Some (fields_of at f)
  pub name_is : f.name ≡ take (length f.name) (drop (at + 4) s)
  pub blocks_are : Elements block s (fields_of at f).first f.blocks next
  pub ends : next ≡ (fields_of at f).past
  pub room : next ≤ length s

-- a name that was read at a place
record NameAt (s : List ℕ) (at : ℕ) (l : List ℕ) (rest : ℕ) : Type 0 where
  length_is : length l ≡ word_at s at
  contents_are : l ≡ take (length l) (drop (at + 4) s)
  ends : rest ≡ at + 4 + padded (length l)
  room : at ≤ length s

name_parts : {s : List ℕ} {at : ℕ} {l : List ℕ} {rest : ℕ} → Reads name s at (taken l rest) → NameAt s at l rest
name_parts {s} {at} {l} {rest} h =
    let w = word_read (passed (opened (name_string h)).size) in
    record {
      length_is = w.is;
      contents_are = sym (string_there (name_string h));
      ends = string_ends (name_string h);
      room = omega (arith, w.ends, w.room);
    }

outline_of_lem : {s : List ℕ} {at rest first : ℕ} (f : File) → NameAt s at f.name rest → Fixed s rest f.flags f.modified f.version (length f.blocks) first
    → first + blocks_size (length f.blocks) ≤ length s → outline_of s at ≡ Some (fields_of at f)
unfolding outline_of
outline_of_lem {s} {at} {rest} {first} f n x h =
    let q : at + 4 + padded (length f.name) + 20 ≡ first = omega (arith, n.ends, x.ends) in
    sym (rw (q, ← n.ends, n.length_is) (rw (← n.length_is, ← n.ends) (fields_whole s (at + 4) (at + 4 + length f.name) rest x h)))

pub file_parts : {s : List ℕ} {at : ℕ} {f : File} {next : ℕ} → Reads file s at (taken f next) → FileAt s at f next
file_parts {s} {at} {f} {next} h =
    let name = pair_parts (via_parts h) in
    let flags = pair_parts name.2 in
    let modified = pair_parts flags.2 in
    let version = pair_parts modified.2 in
    let count = array_parts version.2 in
    let n = name_parts name.1 in
    let x = fixed (word_read (passed flags.1)) (hyper_read modified.1) (word_read version.1) (word_read (passed (passed count.1))) in
    let first : count.0 ≡ (fields_of at f).first = omega (arith, n.ends, x.ends) in
    let last = blocks_end s f.blocks count.0 next count.2 in
    let room = (ends n.room h).1 in
    record {
      outline_is = outline_of_lem f n x (omega (arith, last, room));
      name_is = n.contents_are;
      blocks_are = subst (λ (k : ℕ). Elements block s k f.blocks next) first count.2;
      ends = omega (arith, last, first);
      room = room;
    }

-- the same where a file's encoding stands
pub encoding_parts : (f : File) (s : List ℕ) (at : ℕ) (t : List ℕ) → Valid file f → drop at s ≡ encode file f ++ t → FileAt s at f (at + length (encode file f))
encoding_parts f s at t v e = file_parts (encoding_read file f s at t v e)

-- the bytes from Flags to the end

name_bytes : (l : List ℕ) → length (encode name l) ≡ 4 + padded (length l)
unfolding encode
name_bytes l = bytes_size (up_to name_limit) l

pub split_encoding : (f : File) → encode file f ≡ encode name f.name ++ from_flags f
unfolding encode
split_encoding f = refl

pub encoding_rest : (f : File) (s : List ℕ) (at : ℕ) (t : List ℕ) → drop at s ≡ encode file f ++ t → drop (fields_of at f).rest s ≡ from_flags f ++ t
encoding_rest f s at t e =
    let place : (fields_of at f).rest ≡ at + length (encode name f.name) = omega (arith, name_bytes f.name) in
    ap (λ (k : ℕ). drop k s) place
    ∙ sym (drop-drop (length (encode name f.name)) at s)
    ∙ ap (drop (length (encode name f.name))) (e ∙ ap (λ (l : List ℕ). l ++ t) (split_encoding f) ∙ append_assoc (encode name f.name) (from_flags f) t)
    ∙ drop-append_seam (encode name f.name) (from_flags f ++ t)

-- two files with the same bytes are one
pub same_file : (f g : File) → Valid file f → Valid file g → encode file f ≡ encode file g → f ≡ g
same_file f g v w e = prefix_free file f g [] [] v w (ap (λ (l : List ℕ). l ++ []) e)
