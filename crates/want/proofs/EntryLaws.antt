-- The entries of the list in the buffer: one, those of a record, and all.
use Rattle.std.specs.Prelude.{Some, None}
use Rattle.std.specs.declared.option.Option.{Option}
use Prim.Native.Nat.{ℕ, suc, ◌+◌, ◌-◌, ◌*◌, ◌≤◌, ◌<◌}
use mathlib.Core.List.{List, [], ◌∷◌, ◌++◌, append_assoc, append-nil, map}
use mathlib.Core.Path.{◌≡◌, refl, sym, ap, subst, ◌∙◌}
use mathlib.Core.Bool.{Bool, true, false}
use native.Mathlib.Omega.{arith}
use borrow.Author.Tests.{le-leb}
use lib.ListN.{length, get_or, take, drop, length-append, take-append-drop}
use Rattle.xdr.specs.Format.{encode}
use Rattle.xdr.specs.Fields.{word, hyper}
use Rattle.xdr.specs.Buffer.{filled, over, put}
use Rattle.xdr.proofs.NumberLaws.{length_digits}
use Rattle.xdr.proofs.BufferLaws.{over_over, length_over, filled_next, FilledTo, filled_none, length_filled}
use Rattle.record.specs.Block.{Block}
use Rattle.record.specs.File.{File}
use Rattle.record.specs.Outline.{word_at, block_place}
use Rattle.record.specs.declared.outline.RecordFields.{RecordFields}
use Rattle.table.specs.Table.{is_good, records}
use Rattle.merge.specs.Merged.{merged_of}
use Rattle.want.specs.Listing.{is_held, block_with}
use Rattle.want.specs.Steps.Blocks.{block_here, blocks_from}
use Rattle.want.specs.Wanted.{wanted_block, wanted_blocks, wanted_files, wanted_bytes, list_bytes}
use Rattle.want.specs.Steps.Places.{table_at, Five, list_of}
use Rattle.want.specs.Steps.Head.{Headed}
use Rattle.want.specs.Steps.Index.{Serves}
use Rattle.want.specs.Steps.Runs.{wanted_run}
use Rattle.want.specs.declared.run.Run.{Run}
use Rattle.want.specs.declared.list.Wanted.{Wanted}
use Rattle.table.proofs.TableLaws.{word_bytes}
use Rattle.want.proofs.BlockLaws.{read_here}
use Rattle.want.proofs.PlaceLaws.{element}
use Rattle.want.proofs.DoneLaws.{local_of, peers_of, Done, done_all, these, later, done_begins, done_turn}
use Rattle.want.proofs.RankLaws.{headed_lowest}
use Rattle.want.proofs.TurnLaws.{headed_after}

-- bytes put right behind others
pub over_put : (out : List ℕ) (at : ℕ) (l m : List ℕ) {o p : List ℕ} {k : ℕ} → o ≡ over out at l → k ≡ at + length l → k + length m ≤ length out → p ≡ put o k m → p ≡ over out at (l ++ m)
over_put out at l m {o} {p} {k} e f h g =
    let same : length o ≡ length out = ap length e ∙ length_over out at l (omega arith) in
    g
    ∙ rw (le-leb (k + length m) (length o) (omega arith)) refl
    ∙ ap (λ (x : List ℕ). over x k m) e
    ∙ ap (λ (n : ℕ). over (over out at l) n m) f
    ∙ over_over out at l m (omega arith)

pub over_nothing : (out : List ℕ) (at : ℕ) → out ≡ over out at []
over_nothing out at = sym (take-append-drop at out)

-- 24 bytes an entry

hyper_bytes : (n : ℕ) → length (encode hyper n) ≡ 8
unfolding encode
hyper_bytes n = length_digits 8 n

module _ (w : Wanted) where
  pub wanted_bytes_lem : length (wanted_bytes w) ≡ 24
  wanted_bytes_lem =
      let a : List ℕ = encode word w.file in
      let b : List ℕ = encode word w.block in
      let c : List ℕ = encode hyper w.offset in
      let d : List ℕ = encode word w.size in
      let e : List ℕ = encode word w.peer in
      omega (
        arith,
        length-append (a ++ b ++ c ++ d) e,
        length-append (a ++ b ++ c) d,
        length-append (a ++ b) c,
        length-append a b,
        word_bytes w.file,
        word_bytes w.block,
        hyper_bytes w.offset,
        word_bytes w.size,
        word_bytes w.peer,
      )

  -- the five fields, one after another
  pub wanted_put : (out : List ℕ) (at : ℕ) {o p q r s : List ℕ} → at + 24 ≤ length out → o ≡ put out at (encode word w.file) → p ≡ put o (at + 4) (encode word w.block) → q ≡ put p (at + 8) (encode hyper w.offset)
      → r ≡ put q (at + 16) (encode word w.size) → s ≡ put r (at + 20) (encode word w.peer) → s ≡ over out at (wanted_bytes w)
  wanted_put out at {o} {p} {q} {r} {s} h e f g i j =
      let a : List ℕ = encode word w.file in
      let b : List ℕ = encode word w.block in
      let c : List ℕ = encode hyper w.offset in
      let d : List ℕ = encode word w.size in
      let z : List ℕ = encode word w.peer in
      let na : length a ≡ 4 = word_bytes w.file in
      let nb : length b ≡ 4 = word_bytes w.block in
      let nc : length c ≡ 8 = hyper_bytes w.offset in
      let nd : length d ≡ 4 = word_bytes w.size in
      let nz : length z ≡ 4 = word_bytes w.peer in
      let nab : length (a ++ b) ≡ 8 = length-append a b ∙ omega arith in
      let nabc : length (a ++ b ++ c) ≡ 16 = length-append (a ++ b) c ∙ omega arith in
      let nabcd : length (a ++ b ++ c ++ d) ≡ 20 = length-append (a ++ b ++ c) d ∙ omega arith in
      let oo : o ≡ over out at a = over_put out at [] a (over_nothing out at) (omega arith) (omega arith) e in
      let pp : p ≡ over out at (a ++ b) = over_put out at a b oo (omega arith) (omega arith) f in
      let qq : q ≡ over out at (a ++ b ++ c) = over_put out at (a ++ b) c pp (omega arith) (omega arith) g in
      let rr : r ≡ over out at (a ++ b ++ c ++ d) = over_put out at (a ++ b ++ c) d qq (omega arith) (omega arith) i in
      over_put out at (a ++ b ++ c ++ d) z rr (omega arith) (omega arith) j

pub bytes_append : (l m : List Wanted) → list_bytes (l ++ m) ≡ list_bytes l ++ list_bytes m
bytes_append [] m = refl
bytes_append (w ∷ l) m = ap (λ (x : List ℕ). wanted_bytes w ++ x) (bytes_append l m) ∙ sym (append_assoc (wanted_bytes w) (list_bytes l) (list_bytes m))

pub bytes_length : (l : List Wanted) → length (list_bytes l) ≡ length l * 24
bytes_length [] = refl
bytes_length (w ∷ l) = omega (arith, length-append (wanted_bytes w) (list_bytes l), wanted_bytes_lem w, bytes_length l)

-- the entry for one block, by whether it is held

module _ (local : List File) (peer : ℕ → Block → ℕ) (file j offset : ℕ) (b : Block) (out : List ℕ) (at : ℕ) where
  none_wanted : is_held local b ≡ true → wanted_block local peer file j offset b ≡ []
  none_wanted e = rw e refl

  pub block_held : {r : Bool} → r ≡ is_held local b → r ≡ true → (0 ≡ length (list_bytes (wanted_block local peer file j offset b))) × (out ≡ over out at (list_bytes (wanted_block local peer file j offset b)))
  block_held e f =
      let n = none_wanted (sym e ∙ f) in
      (sym (ap (λ (l : List Wanted). length (list_bytes l)) n), over_nothing out at ∙ ap (λ (l : List Wanted). over out at (list_bytes l)) (sym n))

  one_wanted : (w : Wanted) → w ≡ record { file = file; block = j; offset = offset; size = b.size; peer = peer offset b } → is_held local b ≡ false → list_bytes (wanted_block local peer file j offset b) ≡ wanted_bytes w
  one_wanted w e f = rw f (append-nil _) ∙ ap wanted_bytes (sym e)

  pub room_wanted : {r : Bool} → r ≡ is_held local b → r ≡ false → {n : ℕ} → at + length (list_bytes (wanted_block local peer file j offset b)) ≤ n → at + 24 ≤ n
  room_wanted e f h =
      let w : Wanted = record { file = file; block = j; offset = offset; size = b.size; peer = peer offset b } in
      omega (arith, ap length (one_wanted w refl (sym e ∙ f)), wanted_bytes_lem w)

  pub block_wanted : (w : Wanted) {r : Bool} {o : List ℕ} → r ≡ is_held local b → r ≡ false → w ≡ record { file = file; block = j; offset = offset; size = b.size; peer = peer offset b } → o ≡ over out at (wanted_bytes w)
      → (24 ≡ length (list_bytes (wanted_block local peer file j offset b))) × (o ≡ over out at (list_bytes (wanted_block local peer file j offset b)))
  block_wanted w e f g h =
      let n = one_wanted w g (sym e ∙ f) in
      (sym (ap length n ∙ wanted_bytes_lem w), h ∙ ap (over out at) (sym n))

-- its Length, hash and peer, as they were read
pub wanted_same : (t : List ℕ) (at : ℕ) {n : ℕ} {h : List ℕ} → n ≡ word_at t at → h ≡ take 32 (drop (at + 8) t) → (file j offset : ℕ) (peer : ℕ → Block → ℕ) {r : ℕ} → r ≡ peer offset (block_with n h)
    → ◌≡◌ {A = Wanted} (record { file = file; block = j; offset = offset; size = n; peer = r }) (record { file = file; block = j; offset = offset; size = (block_here t at).size; peer = peer offset (block_here t at) })
wanted_same t at {n} {h} e g file j offset peer {r} f =
    let p : r ≡ peer offset (block_here t at) = f ∙ ap (peer offset) (read_here t at e g) in
    rw (p, e) refl

pub good_first : {A : Type 0} (f : A → List ℕ) (l : List A) (d : A) → f d ≡ [] → is_good (table_at (map f l) 0) ≡ true → is_good (f (get_or l 0 d)) ≡ true
good_first f l d e g = ap is_good (element f l 0 d e) ∙ g

pub serves_first : {A : Type 0} (f : A → List ℕ) (l : List A) (d : A) → f d ≡ [] → {index : List ℕ} → Serves (table_at (map f l) 0) index → Serves (f (get_or l 0 d)) index
serves_first f l d e {index} g = subst (λ (t : List ℕ). Serves t index) (sym (element f l 0 d e)) g

pub held_first : {A : Type 0} (f : A → List ℕ) (l : List A) (d : A) → f d ≡ [] → (b : Block) {r : Bool} → r ≡ is_held (records (f (get_or l 0 d))) b → r ≡ is_held (records (table_at (map f l) 0)) b
held_first f l d e b h = h ∙ ap (λ (t : List ℕ). is_held (records t) b) (element f l 0 d e)

-- those of a record: what was entered before block j, and what is left

pub record Entered (local : List File) (peer : ℕ → Block → ℕ) (file : ℕ) (t : List ℕ) (first count at : ℕ) (out₀ out : List ℕ) (next offset j : ℕ) : Type 0 where
  pub done : List Wanted
  pub fills : out ≡ over out₀ at (list_bytes done)
  pub placed : next ≡ at + length (list_bytes done)
  pub follows : done ++ wanted_blocks local peer file j offset (blocks_from t first j (count - j)) ≡ wanted_blocks local peer file 0 0 (blocks_from t first 0 count)
  pub small : offset ≤ j * 4294967295

pub enter_starts : (local : List File) (peer : ℕ → Block → ℕ) (file : ℕ) (t : List ℕ) (first count at : ℕ) (out : List ℕ) → Entered local peer file t first count at out out at 0 0
enter_starts local peer file t first count at out =
    let all : count - 0 ≡ count = omega arith in
    record {
      done = [];
      fills = over_nothing out at;
      placed = omega arith;
      follows = ap (λ (n : ℕ). wanted_blocks local peer file 0 0 (blocks_from t first 0 n)) all;
      small = omega arith;
    }

module _ {local : List File} {peer : ℕ → Block → ℕ} {file : ℕ} {t : List ℕ} {first count at : ℕ} {out₀ out : List ℕ} {next offset j : ℕ}
    (w : Entered local peer file t first count at out₀ out next offset j) (room : at + length (list_bytes (wanted_blocks local peer file 0 0 (blocks_from t first 0 count))) ≤ length out₀) where
  abbrev left_over : List Wanted
  left_over = wanted_blocks local peer file j offset (blocks_from t first j (count - j))

  all_bytes_lem : length (list_bytes w.done) + length (list_bytes left_over) ≡ length (list_bytes (wanted_blocks local peer file 0 0 (blocks_from t first 0 count)))
  all_bytes_lem =
      sym (length-append (list_bytes w.done) (list_bytes left_over))
      ∙ ap length (sym (bytes_append w.done left_over) ∙ ap list_bytes w.follows)

  pub enter_length : length out ≡ length out₀
  enter_length = ap length w.fills ∙ length_over out₀ at (list_bytes w.done) (omega (arith, all_bytes_lem))

  module _ {p : ℕ} (h : j < count) (q : p ≡ block_place first j) where
    abbrev here : List Wanted
    here = wanted_block local peer file j offset (block_here t p)

    abbrev rest : ℕ → List Wanted
    rest n = wanted_blocks local peer file (j + 1) (offset + n) (blocks_from t first (j + 1) (count - (j + 1)))

    next_entry : left_over ≡ here ++ rest (word_at t p)
    next_entry =
        let left : count - j ≡ suc (count - (j + 1)) = omega arith in
        ap (λ (n : ℕ). wanted_blocks local peer file j offset (blocks_from t first j n)) left
        ∙ ap (λ (k : ℕ). wanted_block local peer file j offset (block_here t k) ++ rest (word_at t k)) (sym q)

    pub enter_fits : next + length (list_bytes here) ≤ length out
    enter_fits =
        let n : length (list_bytes left_over) ≡ length (list_bytes here) + length (list_bytes (rest (word_at t p))) =
        ap (λ (l : List Wanted). length (list_bytes l)) next_entry ∙ ap length (bytes_append here (rest (word_at t p))) ∙ length-append (list_bytes here) (list_bytes (rest (word_at t p))) in
        omega (arith, all_bytes_lem, enter_length, w.placed)

    pub enter_turn : {r n : ℕ} {o : List ℕ} → r ≡ length (list_bytes here) → o ≡ over out next (list_bytes here) → n ≡ word_at t p → n < 4294967296
        → Entered local peer file t first count at out₀ o (next + r) (offset + n) (j + 1)
    enter_turn {r} {n} {o} e f k m =
        record {
          done = w.done ++ here;
          fills =
              f
              ∙ ap (λ (x : List ℕ). over x next (list_bytes here)) w.fills
              ∙ ap (λ (x : ℕ). over (over out₀ at (list_bytes w.done)) x (list_bytes here)) w.placed
              ∙ over_over out₀ at (list_bytes w.done) (list_bytes here) (omega (arith, all_bytes_lem))
              ∙ ap (over out₀ at) (sym (bytes_append w.done here));
          placed = omega (arith, w.placed, e, ap length (bytes_append w.done here), length-append (list_bytes w.done) (list_bytes here));
          follows =
              append_assoc w.done here (rest n)
              ∙ ap (λ (x : ℕ). w.done ++ (here ++ rest x)) k
              ∙ ap (λ (l : List Wanted). w.done ++ l) (sym next_entry)
              ∙ w.follows;
          small = omega (arith, w.small);
        }

  pub enter_ends : count ≤ j
      → (next ≡ at + length (list_bytes (wanted_blocks local peer file 0 0 (blocks_from t first 0 count)))) × (out ≡ over out₀ at (list_bytes (wanted_blocks local peer file 0 0 (blocks_from t first 0 count))))
  enter_ends h =
      let none : count - j ≡ 0 = omega arith in
      let d : w.done ≡ wanted_blocks local peer file 0 0 (blocks_from t first 0 count) =
      sym (append-nil w.done) ∙ ap (λ (n : ℕ). w.done ++ wanted_blocks local peer file j offset (blocks_from t first j n)) (sym none) ∙ w.follows in
      (w.placed ∙ ap (λ (l : List Wanted). at + length (list_bytes l)) d, w.fills ∙ ap (λ (l : List Wanted). over out₀ at (list_bytes l)) d)

-- none of a run of no blocks
module _ (ts : List (List ℕ)) (rs : List Run) (file : ℕ) (t : List ℕ) (first : ℕ) {count : ℕ} (e : count ≡ 0) (out : List ℕ) (at : ℕ) where
  none : wanted_run ts rs file 0 0 t first count ≡ []
  none = ap (wanted_run ts rs file 0 0 t first) e

  pub run_nothing : (at ≡ at + length (list_bytes (wanted_run ts rs file 0 0 t first count))) × (out ≡ over out at (list_bytes (wanted_run ts rs file 0 0 t first count)))
  run_nothing = (omega (arith, ap (λ (l : List Wanted). length (list_bytes l)) none), over_nothing out at ∙ ap (λ (l : List Wanted). over out at (list_bytes l)) (sym none))

-- all: those of the records before

pub record Filled (ts : List (List ℕ)) (ps out₀ out : List ℕ) (file at : ℕ) : Type 0 where
  pub done : List Wanted
  pub so_far : Done ts ps file done
  pub fills : FilledTo out₀ out (list_bytes done) at

pub filled_starts : {ts : List (List ℕ)} {file : ℕ} {ps : List ℕ} (out : List ℕ) → Done ts ps file [] → Filled ts ps out out file 0
filled_starts out d = record { done = []; so_far = d; fills = filled_none out }

module _ {ts : List (List ℕ)} {ps out₀ out : List ℕ} {file at : ℕ} (g : Five ts) (w : Filled ts ps out₀ out file at) (room : length (list_bytes (list_of ts)) ≤ length out₀) where
  filled_length : (rest : List Wanted) → w.done ++ rest ≡ list_of ts → (at + length (list_bytes rest) ≡ length (list_bytes (list_of ts))) × (length out ≡ length out₀)
  filled_length rest e =
      let n : length (list_bytes w.done) + length (list_bytes rest) ≡ length (list_bytes (list_of ts)) =
      sym (length-append (list_bytes w.done) (list_bytes rest)) ∙ ap length (sym (bytes_append w.done rest) ∙ ap list_bytes e) in
      (omega (arith, w.fills.long), ap length w.fills.fills ∙ length_filled out₀ (list_bytes w.done) (omega arith))

  pub filled_same : length out ≡ length out₀
  filled_same = (filled_length (wanted_files (local_of ts) (peers_of ts) file (merged_of w.so_far.ls)) w.so_far.follows).1

  module _ {best : ℕ} {x : Option RecordFields} {past : List ℕ} (h : Headed ts ps 5 best x past) where
    pub filled_all : x ≡ None → (at ≡ length (list_bytes (list_of ts))) × (out ≡ filled out₀ (list_bytes (list_of ts)))
    filled_all e =
        let all = done_all w.so_far (headed_lowest h) h.fields_are e in
        (sym w.fills.long ∙ ap (λ (l : List Wanted). length (list_bytes l)) all, w.fills.fills ∙ ap (λ (l : List Wanted). filled out₀ (list_bytes l)) all)

    module _ {f : RecordFields} (is : x ≡ Some f) {l : List Wanted} (q : l ≡ these w.so_far g (headed_lowest h) h.fields_are is) where
      begins : w.done ++ (l ++ later w.so_far g (headed_lowest h) h.fields_are is) ≡ list_of ts
      begins =
          ap (λ (m : List Wanted). w.done ++ (m ++ later w.so_far g (headed_lowest h) h.fields_are is)) q
          ∙ done_begins w.so_far g (headed_lowest h) h.fields_are is

      pub filled_fits : at + length (list_bytes l) ≤ length out
      filled_fits =
          let rest : List Wanted = later w.so_far g (headed_lowest h) h.fields_are is in
          let n = filled_length (l ++ rest) begins in
          omega (arith, n.0, n.1, ap length (bytes_append l rest), length-append (list_bytes l) (list_bytes rest))

      pub filled_turn : {r : ℕ} {o : List ℕ} → r ≡ at + length (list_bytes l) → o ≡ over out at (list_bytes l) → Filled ts past out₀ o (file + 1) r
      filled_turn {r} {o} i k =
          record {
            done = w.done ++ l;
            so_far = subst (λ (m : List Wanted). Done ts past (file + 1) (w.done ++ m)) (sym q) (done_turn w.so_far g (headed_lowest h) h.fields_are is (headed_after h is));
            fills = record {
              fills =
                  k
                  ∙ ap (λ (y : List ℕ). over y at (list_bytes l)) w.fills.fills
                  ∙ ap (λ (y : ℕ). over (filled out₀ (list_bytes w.done)) y (list_bytes l)) (sym w.fills.long)
                  ∙ filled_next out₀ (list_bytes w.done) (list_bytes l) (omega (arith, (filled_length (l ++ later w.so_far g (headed_lowest h) h.fields_are is) begins).0, w.fills.long))
                  ∙ ap (filled out₀) (sym (bytes_append w.done l));
              long = ap length (bytes_append w.done l) ∙ length-append (list_bytes w.done) (list_bytes l) ∙ omega (arith, w.fills.long, i);
            };
          }
