-- With fewer bytes than are missing of the field at hand, more is waited for.
use Rattle.std.specs.Prelude.{Ok, None}
use Prim.Native.Nat.{ℕ, ◌+◌, ◌-◌, ◌≤◌, ◌<◌}
use mathlib.Core.List.{List, [], ◌++◌}
use mathlib.Core.Path.{◌≡◌, sym, ap, ◌∙◌}
use mathlib.Core.Bool.{true, cond}
use native.Mathlib.Omega.{arith}
use native.Mathlib.Decide.{dec_le}
use borrow.Author.Tests.{le-leb, lt-leb}
use lib.ListN.{length, length-append}
use lib.Dec.{leb}
use Rattle.feed.specs.Onward.{skipping}
use Rattle.feed.specs.Rest.{rest_after, rest_of, behind_string, rule_of, buffered, rest_from, rest}
use Rattle.feed.specs.Sound.{Fits}
use Rattle.feed.specs.Missing.{missing_of, missing_in}
use Rattle.feed.specs.Steps.Next.{wants}
use Rattle.feed.specs.declared.state.Cursor.{Cursor}
use Rattle.feed.specs.declared.state.Goal.{Goal}
use Rattle.feed.specs.declared.state.Goal.TheVariants as G
use Rattle.feed.proofs.BufferLaws.{length_buffered}
use Rattle.feed.proofs.StringLaws.{contents_waiting}
use Rattle.feed.proofs.StepLaws.{rest_says}
use Rattle.feed.proofs.MoveLaws.{wants_says}
use Rattle.feed.proofs.GoalLaws.{field_short, string_short}

few : (c v : ℕ) (t : List ℕ) → c ≤ 3 → length t < 4 - c → length (buffered c v ++ t) < 4
few c v t h k = rw (length-append (buffered c v) t, length_buffered c v) (omega arith)

missing_goal : (g : Goal) (st : Cursor) (t : List ℕ) → Fits g st → length t < missing_of g st → rest_from g st t ≡ Ok None
missing_goal (G.Word f) st t h k =
    rw (le-leb st.have 3 h.0) (field_short f st.place (buffered st.have st.value ++ t) (few st.have st.value t h.0 k))
missing_goal (G.String l) st t h k = go (dec_le st.have 3)
  where
    go : Dec (st.have ≤ 3) → rest_from (G.String l) st t ≡ Ok None
    go (yes y) =
        let less : length t < 4 - st.have = rw (le-leb st.have 3 y) at k in
        rw (le-leb st.have 3 y) (string_short l st.place (buffered st.have st.value ++ t) (few st.have st.value t y less))
    go (no n) =
        let less : length t < st.todo + st.pad = rw (lt-leb st.have 3 (omega arith)) at k in
        rw (lt-leb st.have 3 (omega arith))
        (contents_waiting (rule_of l) (rest_of (behind_string l)) st.place st.value st.at st.todo st.pad st.scan st.zeros st.bad t less)
missing_goal (G.Skip n a) st t h k =
    ap (λ (x : ℕ). cond (leb x 3) (skipping n (rest_after a) st.place (buffered x st.value ++ t)) (Ok None)) h.0
    ∙ simp (lt-leb n (length t) k)
missing_goal G.Ended st t h k = absurd (omega arith)
missing_goal (G.Stopped n) st t h k = absurd (omega arith)

pub rest_missing : (st : Cursor) (t : List ℕ) → Fits st.goal st → length t < missing_in st → rest st t ≡ Ok None
unfolding rest missing_in
rest_missing st t h k = missing_goal st.goal st t h k

-- while more is waited for, some bytes are missing
missing_goal_some : (g : Goal) (st : Cursor) → Fits g st → wants g ≡ true → 1 ≤ missing_of g st
missing_goal_some (G.Word f) st h w = omega (arith, h.0)
missing_goal_some (G.String l) st h w = go (dec_le st.have 3)
  where
    go : Dec (st.have ≤ 3) → 1 ≤ cond (leb st.have 3) (4 - st.have) (st.todo + st.pad)
    go (yes y) = rw (le-leb st.have 3 y) (omega arith)
    go (no n) = rw (lt-leb st.have 3 (omega arith)) (h.1 (omega arith)).missing
missing_goal_some (G.Skip n a) st h w = h.1
missing_goal_some G.Ended st h w = let z : ◌≡◌ {A = ℕ} 0 1 = cc in absurd (omega arith)
missing_goal_some (G.Stopped n) st h w = let z : ◌≡◌ {A = ℕ} 0 1 = cc in absurd (omega arith)

pub some_missing : (st : Cursor) → Fits st.goal st → rest st [] ≡ Ok None → 1 ≤ missing_in st
unfolding missing_in
some_missing st h w = missing_goal_some st.goal st h (wants_says st.goal st.place (sym (rest_says st h) ∙ w))
