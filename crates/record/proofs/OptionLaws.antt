-- Which outline of an option the tests of the bytes give.
use Rattle.std.proofs.Common.{◌≡◌, ℕ, ◌+◌, ◌<◌, List, length, take, drop, sym, ap, ◌∙◌, arith, le-leb}
use borrow.Author.Tests.{lt-leb}
use Rattle.std.specs.Prelude.{Some, None}
use Rattle.xdr.specs.Reading.{taken}
use Rattle.xdr.specs.Fields.{text}
use Rattle.xdr.specs.Pad.{padded}
use Rattle.xdr.proofs.Steps.{Reads, opened, passed}
use Rattle.xdr.proofs.Strings.{string_ends, string_within}
use Rattle.xdr.proofs.Parts.{via_parts, pair_parts}
use Rattle.record.specs.Limits.{key_limit, value_limit}
use Rattle.record.specs.KeyValue.{KeyValue, key_value}
use Rattle.record.specs.Outline.{past_string}
use Rattle.record.specs.OptionOutline.{option_of}
use Rattle.record.proofs.OutlineLaws.{word_read}
use Rattle.record.proofs.StringLaws.{StringThere}

module _ (s : List ℕ) (at : ℕ) where
  option_beyond : length s < past_string s (past_string s at) → None ≡ option_of s at
  unfolding option_of
  option_beyond h = simp (lt-leb (past_string s (past_string s at)) (length s) h)

  -- the Key is not there
  pub option_cut : length s < past_string s at → None ≡ option_of s at
  option_cut h = option_beyond (omega arith)

  module _ {n value : ℕ} (k : StringThere s at n value) where
    -- the Value is not there
    pub option_short : length s < past_string s value → None ≡ option_of s at
    option_short h = option_beyond (rw (← k.ends) h)

    pub option_whole : {m past : ℕ} → StringThere s value m past
        → Some (record { key = at + 4; key_length = n; value = value + 4; value_length = m; past = past }) ≡ option_of s at
    unfolding option_of
    option_whole v = rw (← k.ends) (simp (k.is, v.is, v.ends, le-leb (past_string s value) (length s) (rw (← v.ends) v.room)))

-- An accepted option and the outline of its bytes agree.

record TextAt (s : List ℕ) (at : ℕ) (l : List ℕ) (next : ℕ) : Type 0 where
  there : StringThere s at (length l) next
  contents_are : l ≡ take (length l) (drop (at + 4) s)

text_parts : (limit : ℕ) {s : List ℕ} {at : ℕ} {l : List ℕ} {next : ℕ} → Reads (text limit) s at (taken l next) → TextAt s at l next
text_parts limit {s} {at} {l} {next} h =
    let b = passed h in
    let o = opened b in
    let w = word_read (passed o.size) in
    record {
      there = record { is = w.is; ends = string_ends b ∙ ap (λ (n : ℕ). at + 4 + padded n) w.is; room = string_within b };
      contents_are = o.contents_are ∙ ap (λ (k : ℕ). take (length l) (drop k s)) w.ends;
    }

-- what is known of an option that was read at a place: its Value begins at a second
pub record OptionAt (s : List ℕ) (at value : ℕ) (o : KeyValue) (next : ℕ) : Type 0 where
  pub outline_is : option_of s at ≡ Some (record { key = at + 4; key_length = length o.key; value = value + 4; value_length = length o.value; past = next })
  pub key_is : o.key ≡ take (length o.key) (drop (at + 4) s)
  pub value_is : o.value ≡ take (length o.value) (drop (value + 4) s)

pub option_parts : {s : List ℕ} {at : ℕ} {o : KeyValue} {next : ℕ} → Reads key_value s at (taken o next) → (value : ℕ) × OptionAt s at value o next
option_parts {s} {at} {o} {next} h =
    let p = pair_parts (via_parts h) in
    let k = text_parts key_limit p.1 in
    let v = text_parts value_limit p.2 in
    (p.0, record { outline_is = sym (option_whole s at k.there v.there); key_is = k.contents_are; value_is = v.contents_are })
