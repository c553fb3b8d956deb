use mathlib.Core.Path.{◌≡◌, sym, ◌∙◌}
use Prim.Native.Nat.{ℕ}
use native.Mathlib.Omega.{arith}
use mathlib.Core.Bool.{false}
use Rattle.feed.specs.Sound.{is_sound}
use Rattle.feed.proofs.state.Feed.feed.Goals as goal

pub returns-then-not-is_sound : goal.returns-then-not-is_sound
returns-then-not-is_sound c = let f : is_sound c.args.self ≡ false = sym c.is_sound.ensures ∙ c.if-not-is_sound.true in
    record { feeding = λ e. let z : ◌≡◌ {A = ℕ} 0 1 = cc in absurd (omega arith); fronting = λ e. let z : ◌≡◌ {A = ℕ} 0 1 = cc in absurd (omega arith); refusing = λ e. c.unsound.ensures }

pub feed_rest-requires : goal.feed_rest-requires
feed_rest-requires c = sym c.is_sound.ensures ∙ c.if-not-is_sound.false
