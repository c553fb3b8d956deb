-- Reading settings that are saved, one after another, whatever follows.
use Prim.Native.Nat.{ℕ, suc, ◌+◌, ◌≤◌}
use mathlib.Core.List.{List, [], ◌∷◌, ◌++◌, append-nil, append_assoc}
use mathlib.Core.Path.{◌≡◌, refl, sym, ap, subst, ◌∙◌}
use mathlib.Core.Bool.{Bool, true, false}
use native.Mathlib.Omega.{arith}
use native.Mathlib.Nat.{add-zero, zero-add}
use borrow.Author.Tests.{eq-eqb, ne_eqb, eqb-true, eqb-false}
use lib.ListN.{length, take, drop, length-append}
use lib.Seq.{take_at, drop_at}
use lib.Dec.{eqb}
use Rattle.std.specs.Prelude.{Some, None, Ok, Err}
use Rattle.std.specs.declared.result.Result.{Result}
use Rattle.xdr.specs.Reading.{taken, refused}
use Rattle.xdr.specs.Number.{digits}
use Rattle.xdr.specs.declared.answer.Refusal.{Refusal}
use Rattle.settings.specs.Field.{field, size_of, contents_of, wrong, fault}
use Rattle.settings.specs.Reading.{none, with_field, read_from, reading}
use Rattle.settings.specs.Saving.{Setting, setting_bytes, fields_of, tagged}
use Rattle.settings.specs.Steps.{end_answer, setting_end}
use Rattle.settings.specs.declared.answer.Settings.{Settings}
use Rattle.settings.proofs.FieldLaws.{Own, window, allowance, repository, note, own_26, short, fault_contents, own_carried}
use Rattle.settings.proofs.ReadLaws.{front_good, front_faulty}

-- the bytes after the tag of a field, with more behind it
module _ (l rest : List ℕ) where
  behind : List ℕ
  behind = (digits 2 (length l) ++ l) ++ rest

  behind_size : size_of behind ≡ length l
  unfolding behind
  behind_size = omega arith

  behind_contents : contents_of behind ≡ l
  unfolding behind
  behind_contents = ap (λ (n : ℕ). take n (drop 2 behind)) behind_size ∙ rest_of
    where
      rest_of : take (length l) (drop 2 behind) ≡ l
      rest_of = take_at l rest (length l) refl

  behind_long : length behind ≡ 2 + length l + length rest
  unfolding behind
  behind_long = simp length-append

  behind_rest : drop (2 + length l) behind ≡ rest
  unfolding behind
  behind_rest = drop_at (digits 2 (length l) ++ l) rest (2 + length l) (simp length-append)

-- a field with more behind it, where its tag is in order
module _ (tag : ℕ) (l rest : List ℕ) (least at : ℕ) (so : Settings) (h : least ≤ tag) where
  same_fault : fault least tag (behind l rest) ≡ wrong tag l
  same_fault =
      sym (fault_contents least tag (behind l rest) (omega (arith, behind_size l rest, behind_long l rest)) h) ∙ ap (wrong tag) (behind_contents l rest)

  pub field_good : wrong tag l ≡ 0 → read_from (field tag l ++ rest) 0 least at so ≡ read_from rest 0 (suc tag) (at + 3 + length l) (with_field so (at + 3) tag l)
  unfolding behind
  field_good e =
      front_good tag (behind l rest) least at so (same_fault ∙ e) (omega (arith, behind_size l rest, behind_long l rest))
      ∙ rw (behind_contents l rest, behind_size l rest) (ap (λ (m : List ℕ). read_from m 0 (suc tag) (at + 3 + length l) (with_field so (at + 3) tag l)) (behind_rest l rest))

  pub field_faulty : (wrong tag l ≡ 0 → ⊥) → read_from (field tag l ++ rest) 0 least at so ≡ refused (wrong tag l) at
  unfolding behind
  field_faulty e =
      front_faulty tag (behind l rest) least at so (λ z. e (sym same_fault ∙ z)) ∙ ap (λ (n : ℕ). refused n at) same_fault

pub field_long : (tag : ℕ) (l : List ℕ) → length (field tag l) ≡ 3 + length l
field_long tag l = length-append (tag ∷ digits 2 (length l)) l

-- a setting that isn't there, or whose contents are right
abbrev Right : (tag : ℕ) → Setting → Type 0
Right tag None = Unit {0}
Right tag (Some l) = wrong tag l ≡ 0

-- the least tag that is in order behind it, and the settings with it
abbrev least_after : (least tag : ℕ) → Setting → ℕ
least_after least tag None = least
least_after least tag (Some l) = suc tag

abbrev pub so_after : Settings → (start tag : ℕ) → Setting → Settings
so_after so start tag None = so
so_after so start tag (Some l) = with_field so start tag l

least_after_lem : (least tag : ℕ) (x : Setting) → least ≤ tag → least_after least tag x ≤ suc tag
least_after_lem least tag None h = omega arith
least_after_lem least tag (Some l) h = omega arith

-- reading goes on behind it
setting_good : (tag : ℕ) (x : Setting) (least at : ℕ) (so : Settings) (rest : List ℕ) → least ≤ tag → Right tag x
    → read_from (setting_bytes tag x ++ rest) 0 least at so ≡ read_from rest 0 (least_after least tag x) (at + length (setting_bytes tag x)) (so_after so (at + 3) tag x)
setting_good tag None least at so rest h g = ap (λ (k : ℕ). read_from rest 0 least k so) (sym (add-zero at))
setting_good tag (Some l) least at so rest h g =
    let same : at + 3 + length l ≡ at + length (field tag l) = omega (arith, field_long tag l) in
    field_good tag l rest least at so h g ∙ ap (λ (k : ℕ). read_from rest 0 (suc tag) k (with_field so (at + 3) tag l)) same

-- where it ends, or what is wrong with it
pub end_right : (at tag : ℕ) (x : Setting) → Right tag x → setting_end at tag x ≡ Ok (at + length (setting_bytes tag x))
unfolding setting_end
end_right at tag None g = ap Ok (sym (add-zero at))
end_right at tag (Some l) g =
    let same : at + 3 + length l ≡ at + length (field tag l) = omega (arith, field_long tag l) in
    simp (eq-eqb (wrong tag l) 0 g) (ap Ok same)

pub end_faulty : (at tag : ℕ) (l : List ℕ) → (wrong tag l ≡ 0 → ⊥) → setting_end at tag (Some l) ≡ Err (record { number = wrong tag l; place = at })
unfolding setting_end
end_faulty at tag l g = simp (ne_eqb (wrong tag l) 0 g)

pub data Fate (tag : ℕ) : Setting → Type 0 where
  right : {x : Setting} → Right tag x → Fate tag x
  faulty : {l : List ℕ} → (wrong tag l ≡ 0 → ⊥) → Fate tag (Some l)

fate : (tag : ℕ) (x : Setting) → Fate tag x
fate tag None = right tt
fate tag (Some l) = go (eqb (wrong tag l) 0) refl
  where
    go : (d : Bool) → eqb (wrong tag l) 0 ≡ d → Fate tag (Some l)
    go true e = right (eqb-true (wrong tag l) 0 e)
    go false e = faulty (eqb-false (wrong tag l) 0 e)

-- what the answer for a setting tells
pub filled_right : (at tag : ℕ) (x : Setting) {n : ℕ} → setting_end at tag x ≡ Ok n → Right tag x × (n ≡ at + length (setting_bytes tag x))
filled_right at tag x {n} e = go x (fate tag x) e
  where
    go : (x : Setting) → Fate tag x → setting_end at tag x ≡ Ok n → Right tag x × (n ≡ at + length (setting_bytes tag x))
    go x (right g) f = let k = end_right at tag x g in (g, cc)
    go (Some l) (faulty g) f = let k = end_faulty at tag l g in cc

-- where it is refused, reading is
refused_read : (at tag : ℕ) (x : Setting) {r : Refusal} (least : ℕ) (so : Settings) (rest : List ℕ) → least ≤ tag → setting_end at tag x ≡ Err r
    → setting_end at tag x ≡ end_answer (read_from (setting_bytes tag x ++ rest) 0 least at so)
refused_read at tag x {r} least so rest h e = go x (fate tag x) e
  where
    go : (x : Setting) → Fate tag x → setting_end at tag x ≡ Err r → setting_end at tag x ≡ end_answer (read_from (setting_bytes tag x ++ rest) 0 least at so)
    go x (right g) f = let k = end_right at tag x g in cc
    go (Some l) (faulty g) f = end_faulty at tag l g ∙ ap end_answer (sym (field_faulty tag l rest least at so h g))

-- the steps of the check: a setting that is refused ends the reading; one that is taken hands on to what follows
module _ (at tag : ℕ) (x : Setting) {p : Result ℕ Refusal} (e : p ≡ setting_end at tag x) (least : ℕ) (so : Settings) (h : least ≤ tag) where
  pub step_refused : {r : Refusal} (rest : List ℕ) → p ≡ Err r → p ≡ end_answer (read_from (setting_bytes tag x ++ rest) 0 least at so)
  step_refused rest f = e ∙ refused_read at tag x least so rest h (sym e ∙ f)

  pub step_on : {n : ℕ} (rest : List ℕ) {r : Result ℕ Refusal} → p ≡ Ok n
      → ((least' : ℕ) (so' : Settings) → least' ≤ suc tag → r ≡ end_answer (read_from rest 0 least' n so')) → r ≡ end_answer (read_from (setting_bytes tag x ++ rest) 0 least at so)
  step_on {n} rest f k =
      let w = filled_right at tag x (sym e ∙ f) in
      k (least_after least tag x) (so_after so (at + 3) tag x) (least_after_lem least tag x h)
      ∙ ap (λ (m : ℕ). end_answer (read_from rest 0 (least_after least tag x) m (so_after so (at + 3) tag x))) w.1
      ∙ ap end_answer (sym (setting_good tag x least at so rest h w.0))

  pub step_last : p ≡ end_answer (read_from (setting_bytes tag x ++ []) 0 least at so)
  unfolding read_from
  step_last = go p refl
    where
      go : (q : Result ℕ Refusal) → p ≡ q → p ≡ end_answer (read_from (setting_bytes tag x ++ []) 0 least at so)
      go (Ok n) f = step_on [] f (λ least' so' i. f)
      go (Err r) f = step_refused [] f

-- one that is right is short
pub short_setting : (tag : ℕ) (x : Setting) → tag ≤ 128 → Right tag x → length (setting_bytes tag x) ≤ 258
short_setting tag None h g = omega arith
short_setting tag (Some l) h g = let k = short tag l h g in omega (arith, field_long tag l)

-- settings one after another: all are right
abbrev AllRight : List (ℕ × Setting) → Type 0
AllRight [] = Unit {0}
AllRight (p ∷ ps) = Right p.0 p.1 × AllRight ps

-- their tags rise from the least that is in order
abbrev Ordered : (least : ℕ) → List (ℕ × Setting) → Type 0
Ordered least [] = least ≤ 129
Ordered least (p ∷ ps) = (least ≤ p.0) × Own p.0 × Ordered (suc p.0) ps

sooner : (least less : ℕ) (ps : List (ℕ × Setting)) → less ≤ least → Ordered least ps → Ordered less ps
sooner least less [] h o = omega arith
sooner least less (p ∷ ps) h o = (omega (arith, o.0), o.1, o.2)

after : (least : ℕ) (p : ℕ × Setting) (ps : List (ℕ × Setting)) → Ordered least (p ∷ ps) → Ordered (least_after least p.0 p.1) ps
after least p ps o = sooner (suc p.0) (least_after least p.0 p.1) ps (least_after_lem least p.0 p.1 o.0) o.2

-- the least tag that is in order behind them, and the settings with them
abbrev pub least_of : List (ℕ × Setting) → (least : ℕ) → ℕ
least_of [] least = least
least_of (p ∷ ps) least = least_of ps (least_after least p.0 p.1)

abbrev pub so_of : List (ℕ × Setting) → (at : ℕ) → Settings → Settings
so_of [] at so = so
so_of (p ∷ ps) at so = so_of ps (at + length (setting_bytes p.0 p.1)) (so_after so (at + 3) p.0 p.1)

pub least_own : (ps : List (ℕ × Setting)) (least : ℕ) → Ordered least ps → least_of ps least ≤ 129
least_own [] least o = o
least_own (p ∷ ps) least o = least_own ps (least_after least p.0 p.1) (after least p ps o)

-- settings that are right read to what they say, whatever follows
all_read : (ps : List (ℕ × Setting)) (least at : ℕ) (so : Settings) (rest : List ℕ) → Ordered least ps → AllRight ps
    → read_from (fields_of ps ++ rest) 0 least at so ≡ read_from rest 0 (least_of ps least) (at + length (fields_of ps)) (so_of ps at so)
all_read [] least at so rest o g = ap (λ (k : ℕ). read_from rest 0 least k so) (sym (add-zero at))
all_read (p ∷ ps) least at so rest o g =
    let size : at + length (setting_bytes p.0 p.1) + length (fields_of ps) ≡ at + length (setting_bytes p.0 p.1 ++ fields_of ps) = omega (arith, length-append (setting_bytes p.0 p.1) (fields_of ps)) in
    ap (λ (m : List ℕ). read_from m 0 least at so) (append_assoc (setting_bytes p.0 p.1) (fields_of ps) rest)
    ∙ setting_good p.0 p.1 least at so (fields_of ps ++ rest) o.0 g.0
    ∙ all_read ps (least_after least p.0 p.1) (at + length (setting_bytes p.0 p.1)) (so_after so (at + 3) p.0 p.1) rest (after least p ps o) g.1
    ∙ ap (λ (k : ℕ). read_from rest 0 (least_of (p ∷ ps) least) k (so_of (p ∷ ps) at so)) size

-- they are all right, or reading is refused at one of them, whatever follows
pub data AllFate (ps : List (ℕ × Setting)) (least at : ℕ) (so : Settings) : Type 0 where
  all_right : AllRight ps → AllFate ps least at so
  one_faulty : (p : ℕ) → ((rest : List ℕ) → read_from (fields_of ps ++ rest) 0 least at so ≡ refused 26 p) → AllFate ps least at so

pub all_fate : (ps : List (ℕ × Setting)) (least at : ℕ) (so : Settings) → Ordered least ps → AllFate ps least at so
all_fate [] least at so o = all_right tt
all_fate (p ∷ ps) least at so o =
    go p.1 refl (fate p.0 p.1) (all_fate ps (least_after least p.0 p.1) (at + length (setting_bytes p.0 p.1)) (so_after so (at + 3) p.0 p.1) (after least p ps o))
  where
    apart : (rest : List ℕ) → read_from ((setting_bytes p.0 p.1 ++ fields_of ps) ++ rest) 0 least at so ≡ read_from (setting_bytes p.0 p.1 ++ (fields_of ps ++ rest)) 0 least at so
    apart rest = ap (λ (m : List ℕ). read_from m 0 least at so) (append_assoc (setting_bytes p.0 p.1) (fields_of ps) rest)

    then : Right p.0 p.1 → AllFate ps (least_after least p.0 p.1) (at + length (setting_bytes p.0 p.1)) (so_after so (at + 3) p.0 p.1) → AllFate (p ∷ ps) least at so
    then g (all_right k) = all_right (g, k)
    then g (one_faulty q f) = one_faulty q (λ rest. apart rest ∙ setting_good p.0 p.1 least at so (fields_of ps ++ rest) o.0 g ∙ f rest)

    go : (x : Setting) → p.1 ≡ x → Fate p.0 x → AllFate ps (least_after least p.0 p.1) (at + length (setting_bytes p.0 p.1)) (so_after so (at + 3) p.0 p.1) → AllFate (p ∷ ps) least at so
    go x e (right g) k = then (subst (Right p.0) (sym e) g) k
    go (Some l) e (faulty g) k =
        one_faulty at
        (λ rest.
        apart rest
        ∙ ap (λ (x : Setting). read_from (setting_bytes p.0 x ++ (fields_of ps ++ rest)) 0 least at so) e
        ∙ field_faulty p.0 l (fields_of ps ++ rest) least at so o.0 g
        ∙ ap (λ (n : ℕ). refused n at) (own_26 p.0 l o.1 g))

-- settings that reading goes past are right
pub past_right : (ps : List (ℕ × Setting)) (least at : ℕ) (so : Settings) {n : ℕ} → Ordered least ps → end_answer (read_from (fields_of ps) 0 least at so) ≡ Ok n → AllRight ps
past_right ps least at so {n} o e = go (all_fate ps least at so o)
  where
    go : AllFate ps least at so → AllRight ps
    go (all_right g) = g
    go (one_faulty p f) =
        let k : read_from (fields_of ps) 0 least at so ≡ refused 26 p = ap (λ (m : List ℕ). read_from m 0 least at so) (sym (append-nil (fields_of ps))) ∙ f [] in
        cc

-- the carried fields begin behind them
carried_one : (tag : ℕ) (x : Setting) (at : ℕ) (so : Settings) → Own tag → so.carried ≡ at → (so_after so (at + 3) tag x).carried ≡ at + length (setting_bytes tag x)
carried_one tag None at so o e = e ∙ sym (add-zero at)
carried_one tag (Some l) at so o e = own_carried so (at + 3) tag l o ∙ omega (arith, field_long tag l)

pub carried_all : (ps : List (ℕ × Setting)) (least at : ℕ) (so : Settings) → Ordered least ps → so.carried ≡ at → (so_of ps at so).carried ≡ at + length (fields_of ps)
carried_all [] least at so o e = e ∙ sym (add-zero at)
carried_all (p ∷ ps) least at so o e =
    let size : at + length (setting_bytes p.0 p.1) + length (fields_of ps) ≡ at + length (setting_bytes p.0 p.1 ++ fields_of ps) = omega (arith, length-append (setting_bytes p.0 p.1) (fields_of ps)) in
    carried_all ps (suc p.0) (at + length (setting_bytes p.0 p.1)) (so_after so (at + 3) p.0 p.1) o.2 (carried_one p.0 p.1 at so o.1 e) ∙ size

-- the four settings
pub ordered : (w a r n : Setting) → Ordered 0 (tagged w a r n)
ordered w a r n =
    (omega arith, window refl, (omega arith, allowance refl, (omega arith, repository refl, (omega arith, note refl, omega arith))))

-- where they are right: with more behind them, and alone
module _ (w a r n : Setting) (o : AllRight (tagged w a r n)) where
  pub own_read : (rest : List ℕ) → reading (fields_of (tagged w a r n) ++ rest) ≡ read_from rest 0 (least_of (tagged w a r n) 0) (length (fields_of (tagged w a r n))) (so_of (tagged w a r n) 0 none)
  own_read rest =
      all_read (tagged w a r n) 0 0 none rest (ordered w a r n) o
      ∙ ap (λ (k : ℕ). read_from rest 0 (least_of (tagged w a r n) 0) k (so_of (tagged w a r n) 0 none)) (zero-add (length (fields_of (tagged w a r n))))

  pub own_alone : reading (fields_of (tagged w a r n)) ≡ taken (so_of (tagged w a r n) 0 none) (length (fields_of (tagged w a r n)))
  unfolding read_from
  own_alone = ap reading (sym (append-nil (fields_of (tagged w a r n)))) ∙ own_read []
