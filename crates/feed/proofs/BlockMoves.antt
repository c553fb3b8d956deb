-- Several blocks at once.
use Prim.Native.Nat.{ℕ, zero, suc, ◌+◌, ◌*◌, ◌-◌, ◌≤◌}
use mathlib.Core.List.{List, ◌++◌}
use mathlib.Core.Path.{◌≡◌, refl, sym, ap, subst, ◌∙◌}
use native.Mathlib.Omega.{arith}
use native.Mathlib.Nat.{add-zero, zero-add}
use lib.ListN.{length, drop, length-drop}
use lib.Seq.{drop-drop, drop-append-le}
use Rattle.xdr.specs.Reading.{Reading, taken}
use Rattle.xdr.specs.Number.{big_endian, IsBytes}
use Rattle.xdr.specs.Format.{read, read_at}
use Rattle.xdr.proofs.NumberLaws.{bytes_drop}
use Rattle.xdr.proofs.Steps.{Reads, shifted_zero}
use Rattle.xdr.proofs.Steady.{cut_short, steady}
use Rattle.record.specs.Block.{Block, block}
use Rattle.record.specs.Steps.{IsHead, SoundBlocks}
use Rattle.record.proofs.HeadLaws.{head_block}
use Rattle.feed.specs.Onward.{Rest, onward, many_read}
use Rattle.feed.specs.Rest.{rest_of_word, files_left, blocks_left, at_goal}
use Rattle.feed.specs.Sound.{Sound}
use Rattle.feed.specs.Steps.Next.{blocks_goal}
use Rattle.feed.specs.Steps.Moves.{Moves}
use Rattle.feed.specs.declared.state.Cursor.{Cursor}
use Rattle.feed.specs.declared.state.Moved.{Moved}
use Rattle.feed.specs.declared.state.Goal.TheVariants as G
use Rattle.feed.specs.declared.state.WordField.TheVariants as F
use Rattle.feed.proofs.OnwardLaws.{onward_many}
use Rattle.feed.proofs.GoalLaws.{rest_goal, blocks_goal_lem}
use Rattle.feed.proofs.SoundLaws.{come_goal, starts_blocks, most_blocks}
use Rattle.feed.proofs.CodeLaws.{bounded_at}
use Rattle.feed.proofs.MoveLaws.{fresh_at, reached_fresh}

-- a format that is read is read with more bytes after it
read_front : (s t : List ℕ) (v : Block) → Reads block s 0 (taken v 40) → read block (s ++ t) ≡ taken v 40
unfolding read_at
read_front s t v h =
    let e : read block s ≡ taken v 40 = sym (shifted_zero (read block s)) ∙ h.is in
    steady block s t (ap cut_short e) ∙ e

blocks_over : (j n : ℕ) (k : Rest) (p : ℕ) (s t : List ℕ) → IsBytes s → SoundBlocks s 0 j
    → many_read (j + n) block k p (s ++ t) ≡ many_read n block k (p + j * 40) (drop (j * 40) s ++ t)
blocks_over zero n k p s t b h =
    ap (λ (x : ℕ). many_read x block k p (s ++ t)) (zero-add n) ∙ ap (λ (x : ℕ). many_read n block k x (s ++ t)) (sym (add-zero p))
blocks_over (suc j) n k p s t b h =
    let room : 0 + 40 ≤ length s = omega (arith, h.0) in
    let v = head_block s b 0 room (h.1 0 (omega arith)) in
    let one : suc j + n ≡ suc (j + n) = omega arith in
    let here : p + 40 + j * 40 ≡ p + suc j * 40 = omega arith in
    let there : 40 + j * 40 ≡ suc j * 40 = omega arith in
    ap (λ (x : ℕ). many_read x block k p (s ++ t)) one
    ∙ onward_many (s ++ t) p (j + n) block k
    ∙ ap (λ (r : Reading Block). onward r (λ a. many_read (j + n) block k) p (s ++ t)) (read_front s t v.0 v.1)
    ∙ ap (λ (x : List ℕ). many_read (j + n) block k (p + 40) x) (drop-append-le 40 s t room)
    ∙ blocks_over j n k (p + 40) (drop 40 s) t (bytes_drop 40 s b) (rest_sound j s h)
    ∙ ap (λ (x : ℕ). many_read n block k x (drop (j * 40) (drop 40 s) ++ t)) here
    ∙ ap (λ (x : List ℕ). many_read n block k (p + suc j * 40) (x ++ t)) (drop-drop (j * 40) 40 s ∙ ap (λ (x : ℕ). drop x s) there)
  where
    rest_sound : (j : ℕ) (s : List ℕ) → SoundBlocks s 0 (suc j) → SoundBlocks (drop 40 s) 0 j
    rest_sound j s h = (
      omega (arith, h.0, length-drop 40 s),
      λ i l.
          let e : 40 + (0 + i * 40) ≡ 0 + suc i * 40 = omega arith in
          subst (λ (x : List ℕ). IsHead (big_endian 8 x)) (sym (drop-drop (0 + i * 40) 40 s ∙ ap (λ (x : ℕ). drop x s) e)) (h.1 (suc i) (omega arith)),
    )

pub block_moves : (st : Cursor) (part : List ℕ) (r : Moved) (m k n : ℕ) → Sound st → st.goal ≡ G.Word (F.Block m k) → st.have ≡ 0 → IsBytes part
    → 1 ≤ n → n ≤ m + 1 → SoundBlocks part 0 n → r ≡ record { state = at_goal (blocks_goal (m + 1 - n) k) (st.place + n * 40); taken = n * 40 } → Moves st part r
unfolding rest_of_word
block_moves st part r m k n s g z b o l h e = subst (λ (x : Moved). Moves st part x) (sym e) (record {
  on = λ t.
      let all : suc m ≡ n + (m + 1 - n) = omega arith in
      fresh_at st (G.Word (F.Block m k)) (part ++ t) g z
      ∙ ap (λ (x : ℕ). blocks_left x k st.place (part ++ t)) all
      ∙ blocks_over n (m + 1 - n) (files_left k) st.place part t b h
      ∙ sym (rest_goal (blocks_goal (m + 1 - n) k) (st.place + n * 40) (drop (n * 40) part ++ t) ∙ blocks_goal_lem (m + 1 - n) k (st.place + n * 40) (drop (n * 40) part ++ t));
  comes =
      rw (reached_fresh st z)
      (come_goal (blocks_goal (m + 1 - n) k) (st.place + n * 40) (st.place + n * 40) (starts_blocks (m + 1 - n) k)
      (omega (arith, most_blocks (m + 1 - n) k, bounded_at st (G.Word (F.Block m k)) g s)) refl);
  some = omega arith;
  within = omega (arith, h.0);
})
