-- Which outline of a string the tests of the bytes give.
use Rattle.std.proofs.Common.{◌≡◌, ℕ, ◌+◌, ◌<◌, ◌≤◌, Bool, true, false, cond, leb, List, length, refl, ap, le-leb, leb-false, leb-true}
use borrow.Author.Tests.{lt-leb}
use Rattle.std.specs.Prelude.{Some, None}
use Rattle.xdr.specs.Pad.{padded}
use Rattle.record.specs.Outline.{word_at, past_string}
use Rattle.record.specs.Steps.{string_of}
use Rattle.record.specs.declared.string_outline.StringFields.{StringFields}

-- a string stands at a place, and ends within the bytes
pub record StringThere (s : List ℕ) (at n past : ℕ) : Type 0 where
  pub is : n ≡ word_at s at
  pub ends : past ≡ past_string s at
  pub room : past ≤ length s

module _ (s : List ℕ) (at : ℕ) where
  pub string_short : (n : ℕ) → n ≡ word_at s at → length s < at + 4 + padded n → None ≡ string_of s at
  unfolding string_of
  string_short n e h = simp (← e, lt-leb (at + 4 + padded n) (length s) h)

  pub string_whole : (n past : ℕ) → n ≡ word_at s at → past ≡ at + 4 + padded n → past ≤ length s → Some (record { length = n; past = past }) ≡ string_of s at
  unfolding string_of
  string_whole n past e f h = simp (← e, ← f, le-leb past (length s) h)

  whole_test : (b : Bool) (f g : StringFields) → Some f ≡ cond b (Some g) None → (b ≡ true) × (f ≡ g)
  whole_test true f g e = (refl, cc)
  whole_test false f g e = cc

  short_test : (b : Bool) (g : StringFields) → None ≡ cond b (Some g) None → b ≡ false
  short_test true g e = cc
  short_test false g e = refl

  pub string_there : {f : StringFields} → Some f ≡ string_of s at → StringThere s at f.length f.past
  unfolding string_of
  string_there {f} e =
      let t = whole_test (leb (past_string s at) (length s)) f (record { length = word_at s at; past = past_string s at }) e in
      let past : f.past ≡ past_string s at = ap (λ (g : StringFields). g.past) t.1 in
      record { is = ap (λ (g : StringFields). g.length) t.1; ends = past; room = rw past (leb-true (past_string s at) (length s) t.0) }

  pub string_missing : None ≡ string_of s at → length s < past_string s at
  unfolding string_of
  string_missing e = leb-false (past_string s at) (length s) (short_test (leb (past_string s at) (length s)) (record { length = word_at s at; past = past_string s at }) e)
