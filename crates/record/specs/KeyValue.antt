-- Options: pairs of a Key and a Value.
use Rattle.std.specs.Prelude.{ℕ, List, refl}
use Rattle.xdr.specs.Format.{Format, array, pair, via}
use Rattle.xdr.specs.Fields.{up_to, text}
use Rattle.record.specs.Limits.{key_limit, value_limit}

-- an option as a value
pub record KeyValue : Type 0 where
  pub key : List ℕ
  pub value : List ℕ

-- the option with a Key and a Value
abbrev pub to_key_value : List ℕ × List ℕ → KeyValue
to_key_value p = record { key = p.0; value = p.1 }

-- the Key and the Value of an option
abbrev pub from_key_value : KeyValue → List ℕ × List ℕ
from_key_value o = (o.key, o.value)

-- an option: Key, Value
abbrev pub key_value : Format KeyValue
key_value = via to_key_value from_key_value (λ p. refl) (λ o. refl) (pair (text key_limit) λ k. text value_limit)

-- an array of up to so many options
abbrev pub options : ℕ → Format (List KeyValue)
options limit = array (up_to limit) key_value
