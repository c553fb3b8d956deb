-- A call that fills a buffer, as number, word and buffer.
use Rattle.std.specs.declared.result.Result.{Result}
use Rattle.xdr.specs.declared.answer.Refusal.{Refusal}
use Prim.Native.Nat.{ℕ}
use mathlib.Core.List.{List}
use mathlib.Core.Path.{◌≡◌, ap, ◌∙◌}
use Rattle.xdr.specs.Filling.{Outcome, Fills}
use Rattle.bep.specs.Filling.{filling_number, filling_words, Gives}

pub gives : {o : Outcome} {out after : List ℕ} {f : Result ℕ Refusal} {n : ℕ} {ws : List ℕ} → Fills o out f after → (n ≡ filling_number f) × (ws ≡ filling_words f) → Gives o out n ws after
gives h e = record { number_is = e.0 ∙ ap filling_number h.answered; words_are = e.1 ∙ ap filling_words h.answered; buffer_is = h.buffer }
