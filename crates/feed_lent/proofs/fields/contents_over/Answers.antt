use Rattle.std.proofs.Common.{rules}
use mathlib.Core.List.{List, [], ◌∷◌}
use mathlib.Core.Path.{◌≡◌, refl, ap, subst, ◌∙◌}
use mathlib.Core.Bool.{Bool, cond}
use Prim.Native.Nat.{ℕ, ◌+◌, ◌-◌, ◌≤◌}
use borrow.Author.Tests.{le-leb}
use Rattle.feed.specs.Rest.{rule_of, scanned}
use Rattle.feed.specs.declared.state.Rule.{Rule}
use Rattle.feed.specs.declared.state.Scan.{Scan}
use Rattle.feed_lent.specs.Lent.{scan_word, scan_of}
use Rattle.feed_lent.specs.Steps.{string_at, scan_over}
use Rattle.feed.specs.declared.state.StringField.{StringField}
use Rattle.feed_lent.proofs.WordLaws.{of_words}
use native.Mathlib.Omega.{arith}
use lib.ListN.{length, get_or, set}
use lib.Dec.{leb}
use Rattle.feed_lent.proofs.InPlaceLaws.{string_small}
use Rattle.feed_lent.proofs.LentLaws.{scan_back}
use Rattle.feed_lent.proofs.fields.contents_over.Goals as goal

pub overflow_cast-k : goal.overflow_cast-k
overflow_cast-k c = let s = string_small c.args.words.now c.requires.0 in omega (arith, s.0, c.requires.1)

pub overflow_add-words : goal.overflow_add-words
overflow_add-words c = let s = string_small c.args.words.now c.requires.0 in omega (arith, s.0, c.requires.1)

-- the words with what was made of them
abbrev over_words : List ℕ → (k w s : ℕ) → List ℕ
over_words ws k w s =
    get_or ws 0 0 ∷ get_or ws 1 0 ∷ get_or ws 2 0 ∷ get_or ws 3 0 ∷ get_or ws 4 0 ∷ get_or ws 5 0 ∷ get_or ws 6 0 ∷ get_or ws 7 0 ∷ (get_or ws 8 0 + k) ∷ (get_or ws 9 0 - k) ∷ get_or ws 10 0 ∷ w ∷ s ∷ get_or ws 13 0 ∷ get_or ws 14 0 ∷ get_or ws 15 0 ∷ []

set_contents_over : (ws : List ℕ) (k w s : ℕ) → length ws ≡ 16 → set (set (set (set ws 8 (get_or ws 8 0 + k)) 9 (get_or (set ws 8 (get_or ws 8 0 + k)) 9 0 - k)) 11 w) 12 s ≡ over_words ws k w s
set_contents_over ws k w s e = of_words (λ (ws : List ℕ). set (set (set (set ws 8 (get_or ws 8 0 + k)) 9 (get_or (set ws 8 (get_or ws 8 0 + k)) 9 0 - k)) 11 w) 12 s ≡ over_words ws k w s) (λ v0 v1 v2 v3 v4 v5 v6 v7 v8 v9 v10 v11 v12 v13 v14 v15. refl) ws e

over : (ws run : List ℕ) (l : StringField) (rule : Rule) (before scan : Scan) → get_or ws 8 0 + length run ≤ 131072 → l ≡ string_at ws → rule ≡ rule_of l
    → before ≡ scan_of (get_or ws 11 0) (get_or ws 12 0)
    → scan ≡ cond (leb (get_or ws 8 0 + length run) 131072) (scanned rule before (get_or ws 8 0) run) before → scan ≡ scan_over ws run
over ws run l rule before scan b e f g h =
    h ∙ ap (λ (x : Bool). cond x (scanned rule before (get_or ws 8 0) run) before) (le-leb (get_or ws 8 0 + length run) 131072 b)
    ∙ ap (λ (x : Rule). scanned x before (get_or ws 8 0) run) (f ∙ ap rule_of e)
    ∙ ap (λ (q : Scan). scanned (rule_of (string_at ws)) q (get_or ws 8 0) run) g

pub returns : goal.returns
returns c =
    let ws = c.args.words.now in
    let run = c.args.run.now in
    let scan = c.scan_on-scan.result in
    let s = string_small ws c.requires.0 in
    let o : scan ≡ scan_over ws run = over ws run c.string_of-string.result c.rule_of.result c.scan_of-before.result scan (omega (arith, s.0, c.requires.1)) c.string_of-string.ensures c.rule_of.ensures c.scan_of-before.ensures c.scan_on-scan.ensures in
    record {
      are = rw c.scan_word.ensures (set_contents_over ws (length run) (scan_word scan) scan.start c.told-words ∙ ap (λ (q : Scan). over_words ws (length run) (scan_word q) q.start) o);
      back = subst (λ (q : Scan). scan_of (scan_word q) q.start ≡ q) o (scan_back scan (search rules) (search rules) (search rules) (search rules));
    }
