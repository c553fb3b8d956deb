-- Walking a table by outlines: what stands at a place where records begin, and where the next one begins.
use Rattle.std.specs.Prelude.{Some, None}
use Rattle.std.specs.declared.option.Option.{Option}
use Prim.Native.Nat.{ℕ, ◌+◌, ◌-◌}
use mathlib.Core.List.{List, [], ◌∷◌}
use mathlib.Core.Path.{◌≡◌, refl, sym, ap, ◌∙◌}
use native.Mathlib.Omega.{arith}
use lib.ListN.{length, take, drop, length-append, length-drop}
use lib.Seq.{drop-drop, drop-length, drop_at, take_at}
use Rattle.xdr.specs.Format.{encode}
use Rattle.xdr.specs.Fields.{word}
use Rattle.record.specs.File.{File, file, from_flags}
use Rattle.record.specs.Outline.{word_at, outline_of, fields_of}
use Rattle.record.specs.declared.outline.RecordFields.{RecordFields}
use Rattle.record.proofs.FileLaws.{encoding_parts, encoding_rest}
use Rattle.record.proofs.OutlineLaws.{outline_cut}
use Rattle.order.specs.Order.{part}
use Rattle.table.specs.Newest.{key, key_at, compare_files, compare_at}
use Rattle.table.specs.Table.{table_of}
use Rattle.table.specs.Steps.Standing.{bytes_of, AllValid, At}
use Rattle.table.proofs.TableLaws.{GoodTable, table_bytes, table_length, word_bytes}

-- the records of an array begin after the count
pub array_start : {t : List ℕ} {fs : List File} → t ≡ table_of fs → AllValid fs → At t 4 fs
array_start {t} {fs} e v =
    record {
      here = ap (drop 4) (e ∙ table_bytes fs) ∙ drop_at (encode word (length fs)) (bytes_of fs) 4 (word_bytes (length fs));
      inside = omega (arith, ap length e, table_length fs);
      valid = v;
    }

-- those of a good table too
pub at_start_lem : {t : List ℕ} {fs : List File} → GoodTable t fs → At t 4 fs
at_start_lem g = array_start g.is g.valid

-- where the bytes end there are none
pub at_last : (t : List ℕ) → At t (length t) []
at_last t = record { here = drop-length t; inside = omega arith; valid = tt }

-- no record is left
pub at_end : {t : List ℕ} {at : ℕ} → At t at [] → outline_of t at ≡ None
at_end {t} {at} w =
    let h : length t - at ≡ 0 = simp length-drop at (ap length w.here) in
    sym (outline_cut t at (word_at t at) refl (omega (arith, w.inside)))

-- the record that stands at a place
pub record Standing (t : List ℕ) (at : ℕ) (f : File) (fs : List File) : Type 0 where
  pub outline_is : outline_of t at ≡ Some (fields_of at f)
  pub name_is : part t (fields_of at f).name (fields_of at f).stop ≡ f.name
  pub rest_is : part t (fields_of at f).rest (fields_of at f).past ≡ from_flags f
  pub bytes_are : part t at (fields_of at f).past ≡ encode file f
  pub sized : (fields_of at f).past ≡ at + length (encode file f)
  pub next : At t (fields_of at f).past fs

module _ {t : List ℕ} {at : ℕ} {f : File} {fs : List File} (w : At t at (f ∷ fs)) where
  pub standing : Standing t at f fs
  standing =
      let p = encoding_parts f t at (bytes_of fs) w.valid.0 w.here in
      let r = encoding_rest f t at (bytes_of fs) w.here in
      let n : (fields_of at f).stop - (fields_of at f).name ≡ length f.name = omega arith in
      let long : length t - at ≡ length (encode file f) + length (bytes_of fs) = simp (length-drop, length-append) at (ap length w.here) in
      let rest : length t - (fields_of at f).rest ≡ length (from_flags f) + length (bytes_of fs) = simp (length-drop, length-append) at (ap length r) in
      let m : length (from_flags f) ≡ (fields_of at f).past - (fields_of at f).rest = omega (arith, p.ends, p.room) in
      let k : length (encode file f) ≡ (fields_of at f).past - at = omega (arith, p.ends) in
      record {
        outline_is = p.outline_is;
        name_is = ap (λ (k : ℕ). take k (drop (at + 4) t)) n ∙ sym p.name_is;
        rest_is = ap (take ((fields_of at f).past - (fields_of at f).rest)) r ∙ take_at (from_flags f) (bytes_of fs) ((fields_of at f).past - (fields_of at f).rest) m;
        bytes_are = ap (take ((fields_of at f).past - at)) w.here ∙ take_at (encode file f) (bytes_of fs) ((fields_of at f).past - at) k;
        sized = sym p.ends;
        next = record {
          here = ap (λ (k : ℕ). drop k t) (sym p.ends) ∙ sym (drop-drop (length (encode file f)) at t) ∙ ap (drop (length (encode file f))) w.here ∙ drop_at (encode file f) (bytes_of fs) (length (encode file f)) refl;
          inside = omega (arith, p.ends, p.room);
          valid = w.valid.1;
        };
      }

  pub key_is : key_at t (fields_of at f) ≡ key f
  key_is = rw standing.rest_is refl

-- two records compare as their fields do
pub compared_there : {s t : List ℕ} {i j : ℕ} {f g : File} {fs gs : List File} → At s i (f ∷ fs) → At t j (g ∷ gs)
    → compare_at s (fields_of i f) t (fields_of j g) ≡ compare_files f g
unfolding compare_at compare_files
compared_there u w = rw (key_is u, key_is w) refl

-- which records are left, by the outline that was answered

pub record Headed (t : List ℕ) (at : ℕ) (fs : List File) (g : RecordFields) : Type 0 where
  pub head : File
  pub tail : List File
  pub is : fs ≡ head ∷ tail
  pub stands : At t at (head ∷ tail)
  pub fields : g ≡ fields_of at head

pub at_whole : {t : List ℕ} {at : ℕ} {fs : List File} {x : Option RecordFields} {g : RecordFields} → At t at fs → x ≡ outline_of t at → x ≡ Some g → Headed t at fs g
at_whole {fs = []} {g = g} w e q = let k : Some g ≡ None = sym q ∙ e ∙ at_end w in cc
at_whole {at = at} {fs = f ∷ fs} {g = g} w e q =
    let k : Some g ≡ Some (fields_of at f) = sym q ∙ e ∙ (standing w).outline_is in
    record { head = f; tail = fs; is = refl; stands = w; fields = cc }

pub at_short : {t : List ℕ} {at : ℕ} {fs : List File} {x : Option RecordFields} → At t at fs → x ≡ outline_of t at → x ≡ None → fs ≡ []
at_short {fs = []} w e q = refl
at_short {at = at} {fs = f ∷ fs} w e q = let k : Some (fields_of at f) ≡ None = sym (standing w).outline_is ∙ sym e ∙ q in cc
