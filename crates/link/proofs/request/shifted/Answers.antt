-- One request more each turn; and the requests passed at the end are those from 1 on.
use Prim.Native.Nat.{ℕ, ◌+◌, ◌<◌}
use native.Mathlib.Numerals.{add-one}
use native.Mathlib.Nat.{zero-add}
use native.Mathlib.Omega.{arith}
use mathlib.Core.Path.{◌≡◌, refl, sym, ap, ◌∙◌}
use mathlib.Core.List.{List, [], ◌∷◌, ◌++◌}
use borrow.Author.Rules.{rules}
use lib.ListN.{length, take, drop, get_or, set, replicate, length-drop}
use lib.Seq.{paste, paste-suc, take_all, length-take-le}
use Rattle.link.specs.declared.request.Request.{Request}
use Rattle.link.specs.Requests.{blank}
use Rattle.link.proofs.OwnedArray.{unmapped}
use Rattle.link.proofs.request.shifted.Goals as goal

later_long : (es : List Request) → length es ≡ 16 → length (take 15 (drop 1 es)) ≡ 15
later_long es h = length-take-le 15 (drop 1 es) (omega (arith, length-drop 1 es))

put_more : (d s : List Request) (i : ℕ) → i < length d → i < length s → set (paste d 0 s i) i (get_or s i blank) ≡ paste d 0 s (i + 1)
put_more d s i hd hs =
    ap (λ (k : ℕ). set (paste d 0 s i) k (get_or s i blank)) (sym (zero-add i)) ∙ paste-suc d 0 s i blank (omega arith) hs ∙ ap (paste d 0 s) (sym (add-one i))

pub loop-i-init : goal.loop-i-init
loop-i-init c = (later_long c.args.entries (search (rules, unmapped)), refl)

pub loop-i-preserved : goal.loop-i-preserved
loop-i-preserved c =
    let l = c.loop-i in
    (l.invariant.0, rw l.invariant.1 (put_more (replicate 16 blank) (take 15 (drop 1 c.args.entries)) l.i (omega arith) (omega arith)))

pub returns : goal.returns
returns c =
    let l = c.loop-i in
    let es : List Request = c.args.entries in
    let e : l.i ≡ 15 = omega (arith, l.invariant.0) in
    let long : length es ≡ 16 = search (rules, unmapped) in
    l.invariant.1
    ∙ ap (paste (replicate 16 blank) 0 (take 15 (drop 1 es))) e
    ∙ ap (λ (r : List Request). r ++ (blank ∷ [])) (take_all 15 (take 15 (drop 1 es)) (omega (arith, l.invariant.0)) ∙ take_all 15 (drop 1 es) (omega (arith, long, length-drop 1 es)))
