-- The fields of an option: what stands at places that the lengths alone give.
use Rattle.std.specs.Prelude.{ℕ, ◌+◌, cond, List, length, nat_le, Some, None}
use Rattle.std.specs.declared.option.Option.{Option}
use Rattle.record.specs.Outline.{word_at, past_string}
use Rattle.record.specs.declared.option_outline.OptionFields.{OptionFields}

-- the option at a place, where it ends within the bytes: its Key, and its Value behind it
unfoldable pub option_of : List ℕ → ℕ → Option OptionFields
option_of s at =
    let value : ℕ = past_string s at in
    let past : ℕ = past_string s value in
    cond (nat_le past (length s))
    (Some (record { key = at + 4; key_length = word_at s at; value = value + 4; value_length = word_at s value; past = past }))
    None
