-- Reading files whose names are to rise, one by one: what the loop keeps, and what ends it.
use Rattle.std.specs.Prelude.{Ok, Err}
use Rattle.std.specs.declared.result.Result.{Result}
use Rattle.std.proofs.Common.{◌≡◌, ℕ, ◌+◌, ◌-◌, ◌<◌, ◌≤◌, Bool, true, false, ◌&&◌, eqb, List, [], ◌∷◌, ◌++◌, length, take, drop, sym, refl, ap, ◌∙◌, subst, arith, length-append}
use Rattle.xdr.specs.Reading.{Reading, taken, refused, shifted, mapped, many}
use Rattle.xdr.specs.Format.{Format, read, read_at}
use Rattle.xdr.specs.Fields.{up_to}
use Rattle.xdr.specs.declared.answer.Refusal.{Refusal}
use Rattle.xdr.proofs.Steps.{Reads, answered, ends, part_read_lem, shifted_zero, then_taken}
use Rattle.xdr.proofs.Runs.{Run, run_none, run_more, array_read, count_refused, element_refused}
use Rattle.xdr.proofs.Parts.{via_parts, pair_parts}
use Rattle.record.specs.File.{File, file, files}
use Rattle.record.specs.Answers.{file_answer, array_answer}
use Rattle.record.specs.declared.file.FileSpan.{FileSpan}
use Rattle.record.proofs.Arrays.{part_of, array_done}
use Rattle.record.proofs.Answered.{file_taken, file_refused}
use Rattle.record.proofs.NameSteps.{name_some}
use Rattle.record.proofs.FileLaws.{file_parts}
use Rattle.order.specs.Order.{is_less, compare_lists, part}
use Rattle.record.specs.Rising.{is_rising, fill_rising, is_rising_array}
use Rattle.record.specs.Steps.{ends_at}
use Rattle.record.proofs.RisingLaws.{last_name, and_true, and_false, rising_more, rising_front}

pub not_both : {b : Bool} {P : Type 0} → b ≡ true → b ≡ false → P
not_both y z = let w : ◌≡◌ {A = Bool} true false = sym y ∙ z in let x : ◌≡◌ {A = ℕ} 0 1 = cc in absurd (omega arith)

-- the reading from the start

pub read_start : {A : Type 0} {F : Format A} {s : List ℕ} {r : Reading A} → Reads F s 0 r → read F s ≡ r
unfolding read_at
read_start {A} {F} {s} {r} h = sym (shifted_zero (read F s)) ∙ h.is

rising_by : (limit : ℕ) (t : List ℕ) {r : Reading (List File)} → Reads (files limit) t 0 r → is_rising_array limit t ≡ fill_rising (length t) r
unfolding is_rising_array
rising_by limit t h = ap (fill_rising (length t)) (read_start h)

-- the name of a file that was read at a place

name_there : {t : List ℕ} {at : ℕ} {f : File} {m : ℕ} → Reads file t at (taken f m) → 1 ≤ length f.name
name_there {t} {at} {f} h = name_some (pair_parts (via_parts h)).1

-- a file's name from one place to another
pub record NameAt (t : List ℕ) (f : File) (from to : ℕ) : Type 0 where
  pub is : part t from to ≡ f.name
  pub ordered : from ≤ to
  pub inside : to ≤ length t
  pub some : 1 ≤ length f.name

pub name_at_lem : {t : List ℕ} {at : ℕ} {f : File} {m : ℕ} → Reads file t at (taken f m) → NameAt t f (at + 4) (at + 4 + length f.name)
name_at_lem {t} {at} {f} {m} h =
    let p = file_parts h in
    let n : at + 4 + length f.name - (at + 4) ≡ length f.name = omega arith in
    record {
      is = ap (λ (k : ℕ). take k (drop (at + 4) t)) n ∙ sym p.name_is;
      ordered = omega arith;
      inside = omega (arith, p.ends, p.room);
      some = name_there h;
    }

abbrev name_length : Result FileSpan Refusal → ℕ
name_length (Ok v) = v.name_length
name_length (Err r) = 0

-- the file at a place, and its name, by the answer for the part that begins there
pub record NextFile (t : List ℕ) (at : ℕ) (v : FileSpan) : Type 0 where
  pub value : File
  pub reads : Reads file t at (taken value (at + v.next))
  pub name : NameAt t value (at + 4) (at + 4 + v.name_length)

pub next_file : (t : List ℕ) (at : ℕ) {w : Result FileSpan Refusal} {v : FileSpan} → w ≡ file_answer (read_at file (take (length t - at) (drop at t)) 0) → w ≡ Ok v → NextFile t at v
next_file t at {w} {v} e g =
    let p = part_of file_answer file t at e in
    let q = file_taken p g in
    let long : length q.0.name ≡ v.name_length = sym (ap name_length (sym g ∙ p ∙ ap file_answer q.1.is)) in
    let r = part_read_lem q.1 in
    record { value = q.0; reads = r; name = subst (λ (n : ℕ). NameAt t q.0 (at + 4) (at + 4 + n)) long (name_at_lem r) }

pub next_refused : (t : List ℕ) (at : ℕ) {w : Result FileSpan Refusal} {g : Refusal} → w ≡ file_answer (read_at file (take (length t - at) (drop at t)) 0) → w ≡ Err g
    → Reads file t at (refused g.number (at + g.place))
next_refused t at e v = part_read_lem (file_refused (part_of file_answer file t at e) v)

-- what the loop keeps: the records so far rise, where they are to, and the name of the last of them is at from..to
pub record Checked (rising : Bool) (t : List ℕ) (first i next from to : ℕ) : Type 0 where
  pub done : List File
  pub run : Run file t first done next
  pub counted : length done ≡ i
  pub room : next ≤ length t
  pub rises : rising ≡ true → is_rising done ≡ true
  pub last : part t from to ≡ last_name done
  pub ordered : from ≤ to
  pub inside : to ≤ length t

pub checked_none : {rising : Bool} (t : List ℕ) (first : ℕ) → first ≤ length t → Checked rising t first 0 first first first
checked_none t first h =
    let none : first - first ≡ 0 = omega arith in
    record {
      done = [];
      run = run_none;
      counted = refl;
      room = h;
      rises = λ e. refl;
      last = ap (λ (n : ℕ). take n (drop first t)) none;
      ordered = omega arith;
      inside = h;
    }

last_more : (l : List File) (f : File) → last_name (l ++ f ∷ []) ≡ f.name
last_more [] f = refl
last_more (g ∷ []) f = refl
last_more (g ∷ k ∷ l) f = last_more (k ∷ l) f

module _ {rising : Bool} {t : List ℕ} {first i next from to : ℕ} (c : Checked rising t first i next from to) {f : File} {m name stop : ℕ}
    (h : Reads file t next (taken f m)) (n : NameAt t f name stop) where
  -- the names so far and the next one
  next_rises : rising ≡ true → is_rising (c.done ++ f ∷ []) ≡ is_less (compare_lists (part t from to) (part t name stop))
  next_rises e =
      rising_more c.done f n.some
      ∙ ap (λ (b : Bool). b && is_less (compare_lists (last_name c.done) f.name)) (c.rises e)
      ∙ ap (λ (l : List ℕ). is_less (compare_lists l f.name)) (sym c.last)
      ∙ ap (λ (l : List ℕ). is_less (compare_lists (part t from to) l)) (sym n.is)

  one_more_lem : length (c.done ++ f ∷ []) ≡ i + 1
  one_more_lem = length-append c.done (f ∷ []) ∙ ap (λ (n : ℕ). n + 1) c.counted

  -- the next name is above the last
  pub checked_more : (rising ≡ true → is_less (compare_lists (part t from to) (part t name stop)) ≡ true) → Checked rising t first (i + 1) m name stop
  checked_more e =
      record {
        done = c.done ++ f ∷ [];
        run = run_more c.run h;
        counted = one_more_lem;
        room = (ends c.room h).1;
        rises = λ r. next_rises r ∙ e r;
        last = n.is ∙ sym (last_more c.done f);
        ordered = n.ordered;
        inside = n.inside;
      }

  unordered : (size : ℕ) (l : List File) → is_rising l ≡ false → (r : Reading (List File)) → fill_rising size (mapped (λ x. l ++ x) r) ≡ false
  unordered size l e (taken fs u) = rw (rising_front l fs e) (and_false (eqb u size))
  unordered size l e (refused k p) = refl

  -- it isn't: whatever follows, names don't rise
  pub checked_broken : (limit : ℕ) {count : ℕ} → rising ≡ true → Reads (up_to limit) t 0 (taken count first) → i < count → is_less (compare_lists (part t from to) (part t name stop)) ≡ false → is_rising_array limit t ≡ false
  unfolding is_rising_array read read_at
  checked_broken limit {count} y g k e =
      let l : List File = c.done ++ f ∷ [] in
      let left : count ≡ length l + (count - length l) = omega (arith, one_more_lem) in
      let r : read (files limit) t ≡ mapped (λ x. l ++ x) (shifted m (many (count - length l) (read file) (drop m t))) =
      sym (shifted_zero (read (files limit) t))
      ∙ then_taken (read (up_to limit)) (λ n. many n (read file)) t 0 count first g.is
      ∙ ap (λ (k : ℕ). shifted first (many k (read file) (drop first t))) left
      ∙ (run_more c.run h).on (count - length l) in
      ap (fill_rising (length t)) r ∙ unordered (length t) l (next_rises y ∙ e) (shifted m (many (count - length l) (read file) (drop m t)))

-- what the loop has to answer: what reading gives, and where names are to rise, whether they do
abbrev pub Answers : (rising : Bool) (limit : ℕ) → List ℕ → Result (ℕ × ℕ) Refusal → Type 0
Answers rising limit t r = (rising ≡ false → r ≡ array_answer (read_at (files limit) t 0)) × (rising ≡ true → ends_at (length t) r ≡ is_rising_array limit t)

module _ (rising : Bool) (limit : ℕ) {t : List ℕ} where
  refused_answers : {k p : ℕ} → Reads (files limit) t 0 (refused k p) → Answers rising limit t (Err (record { number = k; place = p }))
  refused_answers h = (λ e. answered array_answer h, λ e. sym (rising_by limit t h))

  -- the count is refused
  pub count_answers : {k p : ℕ} → Reads (up_to limit) t 0 (refused k p) → Answers rising limit t (Err (record { number = k; place = p }))
  count_answers h = refused_answers (count_refused h)

  module _ {first i next from to count : ℕ} (c : Checked rising t first i next from to) (g : Reads (up_to limit) t 0 (taken count first)) where
    -- the next record is
    pub file_answers : {k p : ℕ} → i < count → Reads file t next (refused k p) → Answers rising limit t (Err (record { number = k; place = p }))
    file_answers h r = refused_answers (element_refused g c.run (omega (arith, c.counted)) r)

    -- its name isn't above the last
    pub broken_answers : {f : File} {m name stop : ℕ} {r : Refusal} → rising ≡ true → Reads file t next (taken f m) → NameAt t f name stop → i < count
        → is_less (compare_lists (part t from to) (part t name stop)) ≡ false → Answers rising limit t (Err r)
    broken_answers y h n k e = (λ z. not_both y z, λ z. sym (checked_broken c h n limit y g k e))

    -- all records were read
    pub all_answers : i ≡ count → Answers rising limit t (Ok (count, next))
    all_answers h = (
      λ e. array_done g (record { done = c.done; run = c.run; counted = c.counted; room = c.room }) h,
      λ e. sym (rising_by limit t (array_read g c.run (c.counted ∙ h)) ∙ ap (λ (b : Bool). eqb next (length t) && b) (c.rises e) ∙ and_true (eqb next (length t))),
    )
