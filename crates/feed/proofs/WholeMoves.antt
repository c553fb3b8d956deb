-- A whole file, option or string at once.
use Prim.Native.Nat.{ℕ, ◌+◌, ◌≤◌}
use mathlib.Core.List.{List, ◌++◌}
use mathlib.Core.Path.{◌≡◌, refl, sym, ap, subst, ◌∙◌}
use native.Mathlib.Omega.{arith}
use lib.ListN.{length, drop}
use lib.Seq.{drop-append-le}
use Rattle.xdr.specs.Reading.{Reading, taken}
use Rattle.xdr.specs.Format.{Format, read, read_at}
use Rattle.xdr.proofs.Steps.{Reads, passed, shifted_zero}
use Rattle.xdr.proofs.Strings.{string_ends}
use Rattle.xdr.proofs.Parts.{via_parts, pair_parts}
use Rattle.xdr.proofs.Within.{within}
use Rattle.xdr.proofs.Steady.{cut_short, steady}
use Rattle.record.specs.File.{File, file}
use Rattle.record.specs.KeyValue.{KeyValue, key_value}
use Rattle.record.proofs.NameSteps.{name_string}
use Rattle.record.proofs.FileLaws.{file_parts}
use Rattle.feed.specs.Onward.{onward, then_read}
use Rattle.feed.specs.Rest.{rest_of, limit_of, behind_string, options_goal, at_goal}
use Rattle.feed.specs.Sound.{most, Sound}
use Rattle.feed.specs.Steps.Next.{files_goal}
use Rattle.feed.specs.Steps.Moves.{WholeAt, string_format, Moves}
use Rattle.feed.specs.declared.state.Cursor.{Cursor}
use Rattle.feed.specs.declared.state.Moved.{Moved}
use Rattle.feed.specs.declared.state.Goal.{Goal}
use Rattle.feed.specs.declared.state.Goal.TheVariants as G
use Rattle.feed.specs.declared.state.StringField.{StringField}
use Rattle.feed.specs.declared.state.StringField.TheVariants as L
use Rattle.feed.proofs.GoalLaws.{rest_goal, string_format_lem, file_format, option_format}
use Rattle.feed.proofs.SoundLaws.{Starts, come_goal, starts_files, most_files, starts_options, most_options, starts_string, string_room}
use Rattle.feed.proofs.CodeLaws.{bounded_at}
use Rattle.feed.proofs.MoveLaws.{fresh_at, reached_fresh}

-- what a reader's answer tells
pub whole_at : {A : Type 0} {F : Format A} {s : List ℕ} {v : A} {n : ℕ} → Reads F s 0 (taken v n) → WholeAt F s n
unfolding read_at
whole_at {A} {F} {s} {v} {n} h = record { value = v; is = sym (shifted_zero (read F s)) ∙ h.is }

-- a string, an option or a file takes at least a byte

pub string_some : (l : StringField) {s v : List ℕ} {n : ℕ} → Reads (string_format l) s 0 (taken v n) → 1 ≤ n
string_some L.Index h = omega (arith, string_ends (passed h))
string_some L.Request h = omega (arith, string_ends (passed h))
string_some L.RequestName h = omega (arith, string_ends (name_string h))
string_some L.Data h = omega (arith, string_ends h)
string_some (L.File k) h = omega (arith, string_ends (name_string h))
string_some (L.Key k) h = omega (arith, string_ends (passed h))
string_some (L.Value k) h = omega (arith, string_ends (passed h))

pub option_some : {s : List ℕ} {o : KeyValue} {n : ℕ} → Reads key_value s 0 (taken o n) → 1 ≤ n
option_some h = omega (arith, string_ends (passed (pair_parts (via_parts h)).2))

pub file_some : {s : List ℕ} {f : File} {n : ℕ} → Reads file s 0 (taken f n) → 1 ≤ n
file_some h = omega (arith, (file_parts h).ends)

whole_within : {A : Type 0} (F : Format A) (s : List ℕ) (v : A) (n : ℕ) → read F s ≡ taken v n → n ≤ length s
whole_within F s v n e = rw e at (within F s)

-- a value of a format, and the goal after it
module _ (st : Cursor) (part : List ℕ) (r : Moved) (n : ℕ) (s : Sound st) (z : st.have ≡ 0) (o : 1 ≤ n) where
  whole_moves : {A : Type 0} (F : Format A) (g next : Goal) → st.goal ≡ g → ((p : ℕ) (u : List ℕ) → rest_of g p u ≡ then_read F (rest_of next) p u)
      → WholeAt F part n → Starts next → st.place + n + most next ≤ 22000000
      → r ≡ record { state = at_goal next (st.place + n); taken = n } → Moves st part r
  whole_moves {A} F g next q f h w b e = subst (λ (x : Moved). Moves st part x) (sym e) (record {
    on = λ t.
        fresh_at st g (part ++ t) q z
        ∙ f st.place (part ++ t)
        ∙ ap (λ (x : Reading A). onward x (λ a. rest_of next) st.place (part ++ t)) (steady F part t (ap cut_short h.is) ∙ h.is)
        ∙ ap (λ (x : List ℕ). rest_of next (st.place + n) x) (drop-append-le n part t room)
        ∙ sym (rest_goal next (st.place + n) (drop n part ++ t));
    comes = rw (reached_fresh st z) (come_goal next (st.place + n) (st.place + n) w b refl);
    some = o;
    within = room;
  })
    where
      room : n ≤ length part
      room = whole_within F part h.value n h.is

  pub file_moves : (k : ℕ) → st.goal ≡ G.String (L.File k) → WholeAt file part n → n ≤ 42000
      → r ≡ record { state = at_goal (files_goal k) (st.place + n); taken = n } → Moves st part r
  file_moves k g h l e =
      whole_moves file (G.String (L.File k)) (files_goal k) g (λ p u. file_format k p u) h (starts_files k) (omega (arith, most_files k, bounded_at st (G.String (L.File k)) g s)) e

  pub option_moves : (k : ℕ) → st.goal ≡ G.String (L.Key k) → WholeAt key_value part n → n ≤ 400
      → r ≡ record { state = at_goal (options_goal k) (st.place + n); taken = n } → Moves st part r
  option_moves k g h l e =
      whole_moves key_value (G.String (L.Key k)) (options_goal k) g (λ p u. option_format k p u) h (starts_options k) (omega (arith, most_options k, bounded_at st (G.String (L.Key k)) g s)) e

  pub string_moves : (l : StringField) → st.goal ≡ G.String l → WholeAt (string_format l) part n → n ≤ limit_of l + 8
      → r ≡ record { state = at_goal (behind_string l) (st.place + n); taken = n } → Moves st part r
  string_moves l g h b e =
      whole_moves (string_format l) (G.String l) (behind_string l) g (λ p u. string_format_lem l p u) h (starts_string l) (omega (arith, string_room l n b, bounded_at st (G.String l) g s)) e
