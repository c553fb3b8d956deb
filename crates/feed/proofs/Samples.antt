-- What is said of some bytes, at once and byte by byte.
use Rattle.std.specs.Prelude.{Ok, Err, Some, None}
use Prim.Native.Nat.{ℕ}
use mathlib.Core.List.{List, [], ◌∷◌}
use mathlib.Core.Path.{◌≡◌, refl}
use Rattle.xdr.specs.Format.{read}
use Rattle.xdr.specs.Pad.{all_zero}
use Rattle.xdr.specs.Text.{sound_up_to}
use Rattle.message.specs.declared.edition.Edition.TheVariants as E
use Rattle.feed.specs.AtOnce.{at_once}
use Rattle.feed.specs.Rest.{starting}
use Rattle.feed.specs.Steps.Next.{stepped, after_word, after_string, settled, after_length, inside_after, says}
use Rattle.feed.specs.declared.state.Cursor.{Cursor}

-- a Ping, three of its bytes, a pad that isn't zero, and Options in the old edition
pub samples :
    (at_once E.New (0 ∷ 0 ∷ 4 ∷ 0 ∷ []) ≡ Ok (Some 4))
    × (at_once E.New (0 ∷ 0 ∷ 4 ∷ []) ≡ Ok None)
    × (at_once E.New (0 ∷ 1 ∷ 1 ∷ 0 ∷ 0 ∷ 0 ∷ 0 ∷ 1 ∷ 97 ∷ 0 ∷ 0 ∷ 1 ∷ []) ≡ Err (record { number = 6; place = 11 }))
    × (at_once E.Old (0 ∷ 1 ∷ 7 ∷ 0 ∷ []) ≡ Err (record { number = 3; place = 0 }))
unfolding read all_zero sound_up_to
samples = (refl, refl, refl, refl)

-- the state after some bytes, one by one
abbrev after : Cursor → List ℕ → Cursor
after st [] = st
after st (b ∷ l) = after (stepped st b) l

-- a pad that isn't zero is waited for up to its last byte and refused with it; so is a sequence that breaks off, at its lead, and a name that climbs out
pub bytewise :
    (says (after (starting E.New) (0 ∷ 1 ∷ 1 ∷ 0 ∷ 0 ∷ 0 ∷ 0 ∷ 1 ∷ 97 ∷ 1 ∷ 0 ∷ [])) ≡ Ok None)
    × (says (after (starting E.New) (0 ∷ 1 ∷ 1 ∷ 0 ∷ 0 ∷ 0 ∷ 0 ∷ 1 ∷ 97 ∷ 1 ∷ 0 ∷ 0 ∷ [])) ≡ Err (record { number = 6; place = 9 }))
    × (says (after (starting E.New) (0 ∷ 1 ∷ 1 ∷ 0 ∷ 0 ∷ 0 ∷ 0 ∷ 4 ∷ 97 ∷ 224 ∷ 160 ∷ 97 ∷ [])) ≡ Err (record { number = 7; place = 9 }))
    × (says (after (starting E.Old) (0 ∷ 1 ∷ 2 ∷ 0 ∷ 0 ∷ 0 ∷ 0 ∷ 4 ∷ 46 ∷ 46 ∷ 47 ∷ 97 ∷ [])) ≡ Err (record { number = 24; place = 4 }))
unfolding stepped after_word after_string settled after_length inside_after
bytewise = (refl, refl, refl, refl)
