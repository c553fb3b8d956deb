-- Which field is missing, by the string that stands first.
use Rattle.std.proofs.Common.{◌≡◌, ℕ, ◌-◌, ◌<◌, ◌≤◌, List, length, ap, ◌∙◌, subst, le-leb}
use borrow.Author.Tests.{lt-leb}
use Rattle.record.specs.Outline.{past_string}
use Rattle.record.specs.Missing.{missing_after, missing_of, missing_option}
use Rattle.record.proofs.StringLaws.{StringThere}

module _ (s : List ℕ) (at : ℕ) where
  pub record_name : length s < past_string s at → at ≡ missing_of s at
  unfolding missing_of
  record_name h = simp (lt-leb (past_string s at) (length s) h)

  pub record_rest : {n past : ℕ} → StringThere s at n past → missing_after past (length s - past) ≡ missing_of s at
  unfolding missing_of
  record_rest {n} {past} t =
      ap (λ (k : ℕ). missing_after k (length s - k)) t.ends ∙ simp (le-leb (past_string s at) (length s) (subst (λ (k : ℕ). k ≤ length s) t.ends t.room))

  pub option_key : length s < past_string s at → at ≡ missing_option s at
  unfolding missing_option
  option_key h = simp (lt-leb (past_string s at) (length s) h)

  pub option_value : {n past : ℕ} → StringThere s at n past → past ≡ missing_option s at
  unfolding missing_option
  option_value {n} {past} t = t.ends ∙ simp (le-leb (past_string s at) (length s) (subst (λ (k : ℕ). k ≤ length s) t.ends t.room))
