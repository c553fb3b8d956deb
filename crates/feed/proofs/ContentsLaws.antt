-- Several bytes of contents at once.
use Rattle.std.specs.Prelude.{Ok, None}
use Prim.Native.Nat.{ℕ, ◌+◌, ◌-◌, ◌≤◌, ◌<◌}
use mathlib.Core.List.{List, ◌++◌, append_assoc}
use mathlib.Core.Path.{◌≡◌, refl, sym, ap, subst, ◌∙◌}
use mathlib.Core.Bool.{Bool, cond}
use native.Mathlib.Omega.{arith}
use native.Mathlib.Nat.{add_assoc}
use borrow.Author.Tests.{lt-leb}
use lib.ListN.{length, take, drop, length-append, take-append-drop}
use lib.Seq.{take-append-add, drop-append-add, length-take-le}
use lib.Dec.{leb}
use Rattle.xdr.specs.Pad.{padded}
use Rattle.feed.specs.Onward.{Rest}
use Rattle.feed.specs.Rest.{rest_of, scanned, zeros_from, whole_string, contents_from, rule_of, behind_string}
use Rattle.feed.specs.Sound.{Inside, Sound, reached}
use Rattle.feed.specs.Steps.Next.{settled}
use Rattle.feed.specs.Steps.Moves.{Moves}
use Rattle.feed.specs.Answer.{Answer}
use Rattle.feed.specs.declared.state.Cursor.{Cursor}
use Rattle.feed.specs.declared.state.Moved.{Moved}
use Rattle.feed.specs.declared.state.Scan.{Scan}
use Rattle.feed.specs.declared.state.Rule.{Rule}
use Rattle.feed.specs.declared.state.Goal.TheVariants as G
use Rattle.feed.specs.declared.state.StringField.{StringField}
use Rattle.feed.proofs.BufferLaws.{leb_shift}
use Rattle.feed.proofs.TextLaws.{scanned_append}
use Rattle.feed.proofs.StepLaws.{settled_rest}
use Rattle.feed.proofs.SoundLaws.{come_settled, reached_inside}
use Rattle.feed.proofs.CodeLaws.{fits_at, bounded_at}
use Rattle.feed.proofs.MoveLaws.{rest_at}

contents_run : (rule : Rule) (k : Rest) (place n i c z : ℕ) (q : Scan) (zeros : ℕ) (bad : Bool) (p t : List ℕ)
    → contents_from rule k place n i (length p + c) z q zeros bad (p ++ t) ≡ contents_from rule k place n (i + length p) c z (scanned rule q i p) zeros bad t
contents_run rule k place n i c z q zeros bad p t =
    ap (λ (x : ℕ). body x (take z (drop (length p + c) (p ++ t))) (take (length p + c) (p ++ t)) (drop x (p ++ t))) (add_assoc (length p) c z)
    ∙ ap (λ (x : List ℕ). body (length p + (c + z)) (take z x) (take (length p + c) (p ++ t)) (drop (length p + (c + z)) (p ++ t))) (drop-append-add p t c)
    ∙ ap (λ (x : List ℕ). body (length p + (c + z)) (take z (drop c t)) x (drop (length p + (c + z)) (p ++ t))) (take-append-add p t c)
    ∙ ap (λ (x : List ℕ). body (length p + (c + z)) (take z (drop c t)) (p ++ take c t) x) (drop-append-add p t (c + z))
    ∙ ap (λ (x : Bool). last x (scanned rule q i (p ++ take c t))) (ap (leb (length p + (c + z))) (length-append p t) ∙ leb_shift (length p) (c + z) (length t))
    ∙ ap (λ (x : Scan). last (leb (c + z) (length t)) x) (scanned_append rule p (take c t) q i)
  where
    last : Bool → Scan → Answer
    last there x = cond there (whole_string rule k place n (zeros_from zeros bad (take z (drop c t))) x (drop (c + z) t)) (Ok None)

    body : ℕ → List ℕ → List ℕ → List ℕ → Answer
    body m pad text after =
        cond (leb m (length (p ++ t))) (whole_string rule k place n (zeros_from zeros bad pad) (scanned rule q i text) after) (Ok None)

-- the part of a string that is there
pub contents_moves : (st : Cursor) (part : List ℕ) (r : Moved) (l : StringField) (k : ℕ) → Sound st → st.goal ≡ G.String l → 3 < st.have
    → 1 ≤ k → k ≤ st.todo → k ≤ length part
    → r ≡ record { state = settled l st.place st.value (st.at + k) (st.todo - k) st.pad (scanned (rule_of l) st.scan st.at (take k part)) st.zeros st.bad; taken = k } → Moves st part r
contents_moves st part r l k s g f o a b e = subst (λ (x : Moved). Moves st part x) (sym e) (record {
  on = λ t.
      rest_at st (G.String l) (part ++ t) g
      ∙ rw (lt-leb st.have 3 f) refl
      ∙ ap (λ (x : ℕ). from x (part ++ t)) (sym all)
      ∙ ap (λ (x : List ℕ). from (length (take k part) + (st.todo - k)) x) (ap (λ (x : List ℕ). x ++ t) (sym (take-append-drop k part)) ∙ append_assoc (take k part) (drop k part) t)
      ∙ contents_run (rule_of l) (rest_of (behind_string l)) st.place st.value st.at (st.todo - k) st.pad st.scan st.zeros st.bad (take k part) (drop k part ++ t)
      ∙ ap (λ (x : ℕ). contents_from (rule_of l) (rest_of (behind_string l)) st.place st.value (st.at + x) (st.todo - k) st.pad (scanned (rule_of l) st.scan st.at (take k part)) st.zeros st.bad (drop k part ++ t)) long
      ∙ settled_rest l st.place st.value (st.at + k) (st.todo - k) st.pad (scanned (rule_of l) st.scan st.at (take k part)) st.zeros st.bad (drop k part ++ t);
  comes =
      let parts : st.at + st.todo ≡ st.value = i.parts in
      let within : st.todo + st.pad ≤ padded st.value = i.within in
      let here : reached st ≡ st.place + (4 + padded st.value - (st.todo + st.pad)) = reached_inside l st i in
      come_settled l st.place st.value (st.at + k) (st.todo - k) st.pad (scanned (rule_of l) st.scan st.at (take k part)) st.zeros st.bad (reached st + k)
      i.limited (omega arith) (omega arith) i.padding (bounded_at st (G.String l) g s) (omega arith);
  some = o;
  within = b;
})
  where
    i : Inside l st
    i = (fits_at g s).1 f

    long : length (take k part) ≡ k
    long = length-take-le k part b

    all : length (take k part) + (st.todo - k) ≡ st.todo
    all = omega (arith, long)

    from : ℕ → List ℕ → Answer
    from c u = contents_from (rule_of l) (rest_of (behind_string l)) st.place st.value st.at c st.pad st.scan st.zeros st.bad u
