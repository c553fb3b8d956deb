-- What each goal comes to once its word is there.
use Rattle.std.specs.Prelude.{Ok, Err, None}
use Prim.Native.Nat.{ℕ, zero, suc, ◌+◌, ◌-◌, ◌≤◌, ◌<◌, min}
use mathlib.Core.List.{List, ◌∷◌}
use mathlib.Core.Path.{◌≡◌, refl, sym, ap, ◌∙◌}
use mathlib.Core.Bool.{Bool, true, false, cond}
use native.Mathlib.Omega.{arith}
use native.Mathlib.Nat.{add-zero, add_assoc}
use native.Mathlib.Decide.{dec_le}
use borrow.Author.Tests.{le-leb, lt-leb, eqb-true}
use lib.Seq.{drop-drop}
use lib.ListN.{length, take, drop, length-drop}
use lib.Dec.{leb, ltb, eqb}
use Rattle.xdr.specs.Reading.{Reading, taken, refused, mapped, relocated, tested, and_then, many}
use Rattle.xdr.specs.Number.{big_endian}
use Rattle.xdr.specs.Pad.{padded, zeros_up_to, all_zero}
use Rattle.xdr.specs.Format.{Format, nothing, number, bytes, array, pair, checked_at, checked, via, pad_of, contents, bytes_place, read}
use Rattle.xdr.specs.Fields.{word, hyper, up_to, text}
use Rattle.record.specs.Limits.{name_limit, flags_bound, blocks_limit, key_limit, value_limit, hash_length}
use Rattle.record.specs.Block.{is_size, size, hash, to_block, from_block, block, block_count, blocks}
use Rattle.record.specs.File.{to_file, from_file, is_deleted, name, flags, after_name, file, files}
use Rattle.record.specs.KeyValue.{to_key_value, from_key_value, key_value}
use Rattle.message.specs.Limits.{repository_limit, files_limit, data_limit, options_limit}
use Rattle.message.specs.Header.{version_of, type_of, reserved_of, is_type, header}
use Rattle.message.specs.Message.{Kind, is_index, is_request, is_response, is_ping, is_pong, is_index_update, is_options, kind_of, repository, index, to_request, from_request, piece, request, body}
use Rattle.message.specs.declared.edition.Edition.{Edition}
use Rattle.message.specs.declared.edition.Edition.TheVariants as E
use Rattle.feed.specs.AtOnce.{stop}
use Rattle.feed.specs.Onward.{Rest, ending, onward, then_read, many_read, skipping}
use Rattle.feed.specs.Rest.{files_left, blocks_left, options_left, rest_of_word, rest_of_string, rest_after, rest_of, rule_of, limit_of, options_goal, behind_string, rest, at_goal, stopped, passes, fills, leads, whole_string}
use Rattle.feed.specs.Steps.Next.{files_goal, blocks_goal, behind_gap, body_goal, index_goal, request_goal, after_word, after_string}
use Rattle.feed.specs.Steps.Moves.{string_format}
use Rattle.feed.specs.declared.state.Scan.{Scan}
use Rattle.feed.specs.Answer.{Answer}
use Rattle.feed.specs.declared.state.Cursor.{Cursor}
use Rattle.feed.specs.declared.state.Goal.{Goal}
use Rattle.feed.specs.declared.state.Goal.TheVariants as G
use Rattle.feed.specs.declared.state.WordField.{WordField}
use Rattle.feed.specs.declared.state.WordField.TheVariants as F
use Rattle.feed.specs.declared.state.StringField.{StringField}
use Rattle.feed.specs.declared.state.StringField.TheVariants as L
use Rattle.feed.specs.declared.state.Gap.{Gap}
use Rattle.feed.specs.declared.state.Gap.TheVariants as P
use Rattle.feed.proofs.OnwardLaws.{onward_same, onward_pair, onward_checked, onward_via, onward_array, onward_many, onward_none, onward_number}
use Rattle.feed.proofs.StringLaws.{opaque_cases, string_read, onward_free, onward_text, onward_name}

-- a state at the start of a goal stands for what is to be read there
pub rest_goal : (g : Goal) (p : ℕ) (t : List ℕ) → rest (at_goal g p) t ≡ rest_of g p t
unfolding rest
rest_goal g p t = refl

-- a test on the state is a test on what it stands for
rest_cond : (b : Bool) (x y : Cursor) (t : List ℕ) → rest (cond b x y) t ≡ cond b (rest x t) (rest y t)
rest_cond true x y t = refl
rest_cond false x y t = refl

-- files, blocks, options to come

pub files_goal_lem : (n p : ℕ) (t : List ℕ) → rest_of (files_goal n) p t ≡ files_left n p t
unfolding rest_of_string
files_goal_lem zero p t = sym (onward_none file ending p t)
files_goal_lem (suc n) p t = refl

pub blocks_goal_lem : (m n p : ℕ) (t : List ℕ) → rest_of (blocks_goal m n) p t ≡ blocks_left m n p t
unfolding rest_of_word
blocks_goal_lem zero n p t = files_goal_lem n p t ∙ sym (onward_none block (files_left n) p t)
blocks_goal_lem (suc m) n p t = refl

pub options_goal_lem : (n p : ℕ) (t : List ℕ) → rest_of (options_goal n) p t ≡ options_left n p t
unfolding rest_of_string
options_goal_lem zero p t = sym (onward_none key_value ending p t)
options_goal_lem (suc n) p t = refl

-- bytes that are passed over

onward_passed : (m : ℕ) (k : Rest) (at : ℕ) (s : List ℕ) → then_read (number m) k at s ≡ skipping m k at s
unfolding read
onward_passed m k at s = go (leb m (length s))
  where
    go : (b : Bool) → onward (cond b (taken (big_endian m s) m) (refused 1 0)) (λ a. k) at s ≡ cond b (k (at + m) (drop m s)) (Ok None)
    go true = refl
    go false = refl

skipping_twice : (m n : ℕ) (k : Rest) (at : ℕ) (s : List ℕ) → skipping m (skipping n k) at s ≡ skipping (m + n) k at s
skipping_twice m n k at s = go (dec_le (m + n) (length s))
  where
    go : Dec (m + n ≤ length s) → skipping m (skipping n k) at s ≡ skipping (m + n) k at s
    go (yes h) =
        let a : m ≤ length s = omega arith in
        let b : n ≤ length s - m = omega arith in
        simp (le-leb (m + n) (length s) h, le-leb m (length s) a, length-drop, le-leb n (length s - m) b, drop-drop, add_assoc)
    go (no h) = go' (dec_le m (length s))
      where
        go' : Dec (m ≤ length s) → skipping m (skipping n k) at s ≡ skipping (m + n) k at s
        go' (yes g) =
            let b : length s - m < n = omega arith in
            simp (lt-leb (m + n) (length s) (omega arith), le-leb m (length s) g, length-drop, lt-leb n (length s - m) b)
        go' (no g) = simp (lt-leb (m + n) (length s) (omega arith), lt-leb m (length s) (omega arith))

-- Modified and Version
twelve : {A : Type 0} (F : Format A) (k : Rest) (at : ℕ) (s : List ℕ) → then_read (pair hyper λ m. pair word λ v. F) k at s ≡ skipping 12 (then_read F k) at s
twelve F k at s =
    onward_pair s at hyper (λ m. pair word λ v. F) (λ p. k)
    ∙ onward_same (read hyper s) (λ m. then_read (pair word λ v. F) k) (λ m. skipping 4 (then_read F k)) at s
    (λ m at' t. onward_pair t at' word (λ v. F) (λ p. k) ∙ onward_passed 4 (then_read F k) at' t)
    ∙ onward_passed 8 (skipping 4 (then_read F k)) at s
    ∙ skipping_twice 8 4 (then_read F k) at s

-- a Length and a hash are one block
one_block : (at : ℕ) (s : List ℕ) → then_read (pair size λ l. hash) ending at s ≡ blocks_left 1 0 at s
one_block at s =
    sym (onward_many s at 0 block (files_left 0)
    ∙ onward_via s at to_block from_block (λ p. refl) (λ b. refl) (pair size λ n. hash) (λ b. many_read 0 block (files_left 0))
    ∙ onward_same (read (pair size λ n. hash) s) (λ b. many_read 0 block (files_left 0)) (λ b. ending) at s
    (λ b at' t. onward_none block (files_left 0) at' t ∙ onward_none file ending at' t))

offset_block : (at : ℕ) (s : List ℕ) → then_read (pair hyper λ o. pair size λ l. hash) ending at s ≡ skipping 8 (rest_after P.Offset) at s
unfolding rest_after
offset_block at s =
    onward_pair s at hyper (λ o. pair size λ l. hash) (λ p. ending)
    ∙ onward_same (read hyper s) (λ o. then_read (pair size λ l. hash) ending) (λ o. blocks_left 1 0) at s (λ o at' t. one_block at' t)
    ∙ onward_passed 8 (blocks_left 1 0) at s

-- a word that is there and is tested

module _ (at : ℕ) (s : List ℕ) (h : 4 ≤ length s) where
  onward_word : (n : ℕ) (test : ℕ → Bool) (k : ℕ → Rest)
      → onward (read (checked n test word) s) k at s ≡ cond (test (big_endian 4 s)) (k (big_endian 4 s) (at + 4) (drop 4 s)) (stop n at)
  onward_word n test k = onward_checked s at word n test k ∙ onward_number 4 (λ a at' t. cond (test a) (k a at' t) (stop n at)) at s h

  onward_hash : (k : Rest) → then_read hash k at s ≡ cond (eqb (big_endian 4 s) hash_length) (skipping 32 k (at + 4) (drop 4 s)) (stop 9 at)
  unfolding read all_zero
  onward_hash k = rw (le-leb 4 (length s) h) (go (big_endian 4 s) (eqb (big_endian 4 s) 32) refl)
    where
      go : (n : ℕ) (b : Bool) → eqb n 32 ≡ b
          → onward (relocated bytes_place (and_then (cond b (taken n 4) (refused 9 (min 0 4))) contents s)) (λ l. k) at s ≡ cond b (skipping 32 k (at + 4) (drop 4 s)) (stop 9 at)
      go n true e =
          rw (eqb-true n 32 e)
          (opaque_cases (leb 32 (length (drop 4 s))) true (take 32 (drop 4 s)) 32 (32 + zeros_up_to (pad_of 32 (drop 4 s))) (λ l. k) at s
          ∙ ap (λ (x : ℕ). cond (leb 32 (length (drop 4 s))) (k x (drop 32 (drop 4 s))) (Ok None)) (sym (add_assoc at 4 32)))
      go n false e = simp add-zero

-- both outcomes of a test
pub branch : (b : Bool) (x y : Cursor) (t : List ℕ) {u v : Answer} → u ≡ rest x t → v ≡ rest y t → cond b u v ≡ rest (cond b x y) t
branch true x y t e f = e
branch false x y t e f = f

pub refused_is : (n p : ℕ) (t : List ℕ) → Err (record { number = n; place = p }) ≡ rest (stopped n p) t
unfolding rest
refused_is n p t = refl

-- a message whose first field isn't there
onward_nothing : {A : Type 0} (F : Format A) (k : Rest) (p : ℕ) (t : List ℕ) → then_read (pair nothing λ u. F) k p t ≡ then_read F k p t
unfolding read
onward_nothing F k p t = onward_pair t p nothing (λ u. F) (λ b. k) ∙ ap (λ (x : ℕ). then_read F k x t) (add-zero p)

index_goal_lem : (e : Edition) (p : ℕ) (t : List ℕ) → then_read (index e) ending p t ≡ rest_of (index_goal e) p t
unfolding rest_of_word rest_of_string
index_goal_lem E.Old p t = onward_nothing (files files_limit) ending p t
index_goal_lem E.New p t = refl

request_goal_lem : (e : Edition) (p : ℕ) (t : List ℕ) → then_read (request e) ending p t ≡ rest_of (request_goal e) p t
unfolding rest_of_word rest_of_string
request_goal_lem E.Old p t = onward_via t p to_request from_request (λ x. refl) (λ b. refl) (pair nothing λ r. piece) (λ b. ending) ∙ onward_nothing piece ending p t
request_goal_lem E.New p t = refl

-- the body of each kind
body_goal_lem : (e : Edition) (k : Kind) (p : ℕ) (t : List ℕ) → then_read (body e k) ending p t ≡ rest_of (body_goal e k) p t
unfolding rest_of_word rest_of_string read
body_goal_lem e is_index p t = index_goal_lem e p t
body_goal_lem e is_request p t = request_goal_lem e p t
body_goal_lem e is_response p t = refl
body_goal_lem e is_ping p t = simp add-zero
body_goal_lem e is_pong p t = simp add-zero
body_goal_lem e is_index_update p t = index_goal_lem e p t
body_goal_lem e is_options p t = refl

times : (d : Bool) (k p : ℕ) (t : List ℕ) → skipping 12 (then_read (blocks d) (files_left k)) p t ≡ rest (at_goal (G.Skip 12 (P.Times d k)) p) t
unfolding rest rest_after
times d k p t = refl

hashes : (m k p : ℕ) (t : List ℕ) → skipping 32 (blocks_left m k) p t ≡ rest (at_goal (G.Skip 32 (P.Hash m k)) p) t
unfolding rest rest_after
hashes m k p t = refl

-- each word, once it is there
pub field_word : (f : WordField) (p : ℕ) (s : List ℕ) → 4 ≤ length s → rest_of_word f p s ≡ rest (after_word f p (big_endian 4 s)) (drop 4 s)
unfolding rest_of_word after_word
field_word (F.Start e) p s h =
    onward_pair s p (header e) (λ x. body e (kind_of (type_of x))) (λ b. ending)
    ∙ onward_checked s p (checked 3 (λ x. is_type e (type_of x)) (checked 2 (λ x. eqb (version_of x) 0) word)) 4 (λ x. eqb (reserved_of x) 0) (λ x. then_read (body e (kind_of (type_of x))) ending)
    ∙ onward_checked s p (checked 2 (λ x. eqb (version_of x) 0) word) 3 (λ x. is_type e (type_of x))
    (λ x at t. cond (eqb (reserved_of x) 0) (then_read (body e (kind_of (type_of x))) ending at t) (stop 4 p))
    ∙ onward_word p s h 2 (λ x. eqb (version_of x) 0)
    (λ x at t. cond (is_type e (type_of x)) (cond (eqb (reserved_of x) 0) (then_read (body e (kind_of (type_of x))) ending at t) (stop 4 p)) (stop 3 p))
    ∙ branch (eqb (version_of (big_endian 4 s)) 0) _ (stopped 2 p) (drop 4 s)
    (branch (is_type e (type_of (big_endian 4 s))) _ (stopped 3 p) (drop 4 s)
    (branch (eqb (reserved_of (big_endian 4 s)) 0) (at_goal (body_goal e (kind_of (type_of (big_endian 4 s)))) (p + 4)) (stopped 4 p) (drop 4 s)
    (body_goal_lem e (kind_of (type_of (big_endian 4 s))) (p + 4) (drop 4 s) ∙ sym (rest_goal (body_goal e (kind_of (type_of (big_endian 4 s)))) (p + 4) (drop 4 s)))
    (refused_is 4 p (drop 4 s)))
    (refused_is 3 p (drop 4 s)))
    (refused_is 2 p (drop 4 s))
field_word F.FileCount p s h =
    onward_array s p (up_to files_limit) file ending
    ∙ onward_word p s h 5 (λ n. leb n files_limit) files_left
    ∙ branch (leb (big_endian 4 s) files_limit) (at_goal (files_goal (big_endian 4 s)) (p + 4)) (stopped 5 p) (drop 4 s)
    (sym (rest_goal (files_goal (big_endian 4 s)) (p + 4) (drop 4 s) ∙ files_goal_lem (big_endian 4 s) (p + 4) (drop 4 s)))
    (refused_is 5 p (drop 4 s))
field_word (F.Flags k) p s h =
    onward_pair s p flags (λ f. pair hyper λ m. pair word λ v. blocks (is_deleted f)) (λ x. files_left k)
    ∙ onward_word p s h 11 (λ f. ltb f flags_bound) (λ f. then_read (pair hyper λ m. pair word λ v. blocks (is_deleted f)) (files_left k))
    ∙ branch (ltb (big_endian 4 s) flags_bound) (at_goal (G.Skip 12 (P.Times (is_deleted (big_endian 4 s)) k)) (p + 4)) (stopped 11 p) (drop 4 s)
    (twelve (blocks (is_deleted (big_endian 4 s))) (files_left k) (p + 4) (drop 4 s) ∙ times (is_deleted (big_endian 4 s)) k (p + 4) (drop 4 s))
    (refused_is 11 p (drop 4 s))
field_word (F.BlockCount d k) p s h =
    onward_array s p (block_count d) block (files_left k)
    ∙ onward_checked s p (up_to blocks_limit) 12 (λ n. cond d (eqb n 0) true) (λ n. blocks_left n k)
    ∙ onward_word p s h 5 (λ n. leb n blocks_limit) (λ n at t. cond (cond d (eqb n 0) true) (blocks_left n k at t) (stop 12 p))
    ∙ branch (leb (big_endian 4 s) blocks_limit) _ (stopped 5 p) (drop 4 s)
    (branch (cond d (eqb (big_endian 4 s) 0) true) (at_goal (blocks_goal (big_endian 4 s) k) (p + 4)) (stopped 12 p) (drop 4 s)
    (sym (rest_goal (blocks_goal (big_endian 4 s) k) (p + 4) (drop 4 s) ∙ blocks_goal_lem (big_endian 4 s) k (p + 4) (drop 4 s)))
    (refused_is 12 p (drop 4 s)))
    (refused_is 5 p (drop 4 s))
field_word (F.Block m k) p s h =
    onward_many s p m block (files_left k)
    ∙ onward_via s p to_block from_block (λ x. refl) (λ b. refl) (pair size λ n. hash) (λ b. blocks_left m k)
    ∙ onward_pair s p size (λ n. hash) (λ b. blocks_left m k)
    ∙ onward_word p s h 10 is_size (λ n. then_read hash (blocks_left m k))
    ∙ branch (is_size (big_endian 4 s)) (at_goal (G.Word (F.HashLength m k)) (p + 4)) (stopped 10 p) (drop 4 s)
    (sym (rest_goal (G.Word (F.HashLength m k)) (p + 4) (drop 4 s)))
    (refused_is 10 p (drop 4 s))
field_word (F.HashLength m k) p s h =
    onward_hash p s h (blocks_left m k)
    ∙ branch (eqb (big_endian 4 s) hash_length) (at_goal (G.Skip 32 (P.Hash m k)) (p + 4)) (stopped 9 p) (drop 4 s)
    (hashes m k (p + 4) (drop 4 s))
    (refused_is 9 p (drop 4 s))
field_word F.OptionCount p s h =
    onward_array s p (up_to options_limit) key_value ending
    ∙ onward_word p s h 5 (λ n. leb n options_limit) options_left
    ∙ branch (leb (big_endian 4 s) options_limit) (at_goal (options_goal (big_endian 4 s)) (p + 4)) (stopped 5 p) (drop 4 s)
    (sym (rest_goal (options_goal (big_endian 4 s)) (p + 4) (drop 4 s) ∙ options_goal_lem (big_endian 4 s) (p + 4) (drop 4 s)))
    (refused_is 5 p (drop 4 s))

-- each string is read by its format
pub string_format_lem : (l : StringField) (p : ℕ) (s : List ℕ) → rest_of_string l p s ≡ then_read (string_format l) (rest_of (behind_string l)) p s
unfolding rest_of_word rest_of_string
string_format_lem L.Index p s = onward_pair s p (repository E.New) (λ r. files files_limit) (λ x. ending)
string_format_lem L.Request p s =
    onward_via s p to_request from_request (λ x. refl) (λ b. refl) (pair (repository E.New) λ r. piece) (λ b. ending)
    ∙ onward_pair s p (repository E.New) (λ r. piece) (λ x. ending)
string_format_lem L.RequestName p s =
    onward_pair s p name (λ n. pair hyper λ o. pair size λ l. hash) (λ x. ending)
    ∙ onward_same (read name s) (λ n. then_read (pair hyper λ o. pair size λ l. hash) ending) (λ n. skipping 8 (rest_after P.Offset)) p s (λ n at t. offset_block at t)
string_format_lem L.Data p s = refl
string_format_lem (L.File k) p s =
    onward_many s p k file ending
    ∙ onward_via s p to_file from_file (λ x. refl) (λ f. refl) (pair name λ n. after_name) (λ f. files_left k)
    ∙ onward_pair s p name (λ n. after_name) (λ x. files_left k)
string_format_lem (L.Key k) p s =
    onward_many s p k key_value ending
    ∙ onward_via s p to_key_value from_key_value (λ x. refl) (λ o. refl) (pair (text key_limit) λ x. text value_limit) (λ o. options_left k)
    ∙ onward_pair s p (text key_limit) (λ x. text value_limit) (λ o. options_left k)
string_format_lem (L.Value k) p s =
    onward_same (read (text value_limit) s) (λ o. options_left k) (λ o. rest_of (options_goal k)) p s (λ o at t. sym (options_goal_lem k at t))

-- a file and an option, and what comes after them
pub file_format : (k p : ℕ) (s : List ℕ) → rest_of_string (L.File k) p s ≡ then_read file (rest_of (files_goal k)) p s
unfolding rest_of_string
file_format k p s =
    onward_many s p k file ending
    ∙ onward_same (read file s) (λ f. files_left k) (λ f. rest_of (files_goal k)) p s (λ f at t. sym (files_goal_lem k at t))

pub option_format : (k p : ℕ) (s : List ℕ) → rest_of_string (L.Key k) p s ≡ then_read key_value (rest_of (options_goal k)) p s
unfolding rest_of_string
option_format k p s =
    onward_many s p k key_value ending
    ∙ onward_same (read key_value s) (λ o. options_left k) (λ o. rest_of (options_goal k)) p s (λ o at t. sym (options_goal_lem k at t))

-- each string, once its length word is there
format_word : (l : StringField) (k : Rest) (p : ℕ) (s : List ℕ) → 4 ≤ length s → then_read (string_format l) k p s ≡ string_read (rule_of l) (limit_of l) k p (big_endian 4 s) (drop 4 s)
format_word L.Index k p s h = onward_text repository_limit k p s h
format_word L.Request k p s h = onward_text repository_limit k p s h
format_word L.RequestName k p s h = onward_name k p s h
format_word L.Data k p s h = onward_free data_limit k p s h
format_word (L.File m) k p s h = onward_name k p s h
format_word (L.Key m) k p s h = onward_text key_limit k p s h
format_word (L.Value m) k p s h = onward_text value_limit k p s h

pub string_word : (l : StringField) (p : ℕ) (s : List ℕ) → 4 ≤ length s
    → rest_of_string l p s ≡ string_read (rule_of l) (limit_of l) (rest_of (behind_string l)) p (big_endian 4 s) (drop 4 s)
string_word l p s h = string_format_lem l p s ∙ format_word l (rest_of (behind_string l)) p s h

-- the goal after bytes that are passed over
pub gap_goal : (a : Gap) (p : ℕ) (t : List ℕ) → rest_after a p t ≡ rest_of (behind_gap a) p t
unfolding rest_after rest_of_word
gap_goal P.Offset p t = refl
gap_goal (P.Times d k) p t = refl
gap_goal (P.Hash m k) p t = sym (blocks_goal_lem m k p t)

-- a string that is whole, and the state after it
pub string_whole : (l : StringField) (p n zeros : ℕ) (q : Scan) (t : List ℕ)
    → whole_string (rule_of l) (rest_of (behind_string l)) p n zeros q t ≡ rest (after_string l p n zeros q) t
unfolding after_string
string_whole l p n zeros q t =
    branch (eqb zeros (padded n - n)) _ (stopped 6 (p + (4 + (n + zeros)))) t
    (branch (passes (rule_of l) q) _ (stopped 7 (p + (4 + q.start))) t
    (branch (fills (rule_of l) n) _ (stopped 8 p) t
    (branch (leads (rule_of l) q) (at_goal (behind_string l) (p + (4 + padded n))) (stopped 24 p) t
    (sym (rest_goal (behind_string l) (p + (4 + padded n)) t))
    (refused_is 24 p t))
    (refused_is 8 p t))
    (refused_is 7 (p + (4 + q.start)) t))
    (refused_is 6 (p + (4 + (n + zeros))) t)

-- a word that isn't there: more is waited for
record Short {T : Type 0} (F : Format T) (s : List ℕ) : Type 0 where
  is : read F s ≡ refused 1 0

short_word : (s : List ℕ) → length s < 4 → Short word s
unfolding read
short_word s h = record { is = simp (lt-leb 4 (length s) h) }

module _ {T : Type 0} {F : Format T} {s : List ℕ} (e : Short F s) where
  short_checked : {n : ℕ} {test : T → Bool} {fault : T → ℕ} → Short (checked_at n test fault F) s
  unfolding read
  short_checked {n} {test} {fault} = record { is = ap (tested n test fault) e.is }

  short_pair : {B : T → Type 0} {G : (a : T) → Format (B a)} → Short (pair F G) s
  unfolding read
  short_pair {B} {G} = record { is = ap (λ (r : Reading T). and_then r (λ a t. mapped (λ b. (a, b)) (read (G a) t)) s) e.is }

  short_via : {B : Type 0} {to : T → B} {from : B → T} {p : (a : T) → from (to a) ≡ a} {q : (b : B) → to (from b) ≡ b} → Short (via to from p q F) s
  unfolding read
  short_via {B} {to} = record { is = ap (mapped to) e.is }

  short_many : (n : ℕ) (k : Rest) (at : ℕ) → many_read (suc n) F k at s ≡ Ok None
  short_many n k at = ap (λ (r : Reading T). onward (and_then r (λ a t. mapped (λ l. a ∷ l) (many n (λ u. read F u) t)) s) (λ l. k) at s) e.is

  short_then : (k : Rest) (at : ℕ) → then_read F k at s ≡ Ok None
  short_then k at = ap (λ (r : Reading T). onward r (λ a. k) at s) e.is

module _ {C : Format ℕ} {s : List ℕ} (e : Short C s) where
  short_bytes : Short (bytes C) s
  unfolding read
  short_bytes = record { is = ap (λ (r : Reading ℕ). relocated bytes_place (and_then r contents s)) e.is }

  short_array : {T : Type 0} {F : Format T} → Short (array C F) s
  unfolding read
  short_array {T} {F} = record { is = ap (λ (r : Reading ℕ). and_then r (λ n t. many n (λ u. read F u) t) s) e.is }

short_text : (limit : ℕ) (s : List ℕ) → length s < 4 → Short (text limit) s
short_text limit s h = short_checked (short_bytes (short_checked (short_word s h)))

pub field_short : (f : WordField) (p : ℕ) (s : List ℕ) → length s < 4 → rest_of_word f p s ≡ Ok None
unfolding rest_of_word
field_short (F.Start e) p s h = short_then (short_pair (short_checked (short_checked (short_checked (short_word s h))))) ending p
field_short F.FileCount p s h = short_then (short_array (short_checked (short_word s h))) ending p
field_short (F.Flags k) p s h = short_then (short_pair (short_checked (short_word s h))) (files_left k) p
field_short (F.BlockCount d k) p s h = short_then (short_array (short_checked (short_checked (short_word s h)))) (files_left k) p
field_short (F.Block m k) p s h = short_many (short_via (short_pair (short_checked (short_word s h)))) m (files_left k) p
field_short (F.HashLength m k) p s h = short_then (short_bytes (short_checked (short_word s h))) (blocks_left m k) p
field_short F.OptionCount p s h = short_then (short_array (short_checked (short_word s h))) ending p

pub string_short : (l : StringField) (p : ℕ) (s : List ℕ) → length s < 4 → rest_of_string l p s ≡ Ok None
unfolding rest_of_string
string_short L.Index p s h = short_then (short_pair (short_text repository_limit s h)) ending p
string_short L.Request p s h = short_then (short_via (short_pair (short_text repository_limit s h))) ending p
string_short L.RequestName p s h = short_then (short_pair (short_checked (short_checked (short_text name_limit s h)))) ending p
string_short L.Data p s h = short_then (short_bytes (short_checked (short_word s h))) ending p
string_short (L.File k) p s h = short_many (short_via (short_pair (short_checked (short_checked (short_text name_limit s h))))) k ending p
string_short (L.Key k) p s h = short_many (short_via (short_pair (short_text key_limit s h))) k ending p
string_short (L.Value k) p s h = short_then (short_text value_limit s h) (options_left k) p
