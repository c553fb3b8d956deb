-- What is said after a run.
use Rattle.std.specs.Prelude.{ℕ}
use Rattle.std.specs.declared.option.Option.{Option}
use Rattle.std.specs.declared.result.Result.{Result}
use Rattle.xdr.specs.declared.answer.Refusal.{Refusal}

-- still waiting, a message has ended at a place, or refused
abbrev pub Answer : Type 0
Answer = Result (Option ℕ) Refusal
