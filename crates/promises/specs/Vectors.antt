-- The worked cases that are proved, in one list: K1 to K10 of the precise rules (document 01, "Bytes on the bench").
use Rattle.std.specs.Prelude.{Ok}
use Rattle.std.specs.declared.result.Result.{Result}
use Rattle.xdr.specs.declared.answer.Refusal.{Refusal}
use Rattle.std.specs.Prelude.{ℕ, List, [], ◌∷◌, ◌≡◌}
use Rattle.record.specs.File.{File}
use Rattle.message.specs.Answers.{span, refusal, message_in}
use Rattle.message.specs.declared.answer.Message.{Message}
use Rattle.message.specs.declared.answer.Message.TheVariants as M
use Rattle.message.specs.declared.edition.Edition.TheVariants as E
use Rattle.table.specs.Newest.{compare_files}
use Rattle.std.specs.declared.cmp.Ordering.TheVariants.{Greater}

-- bytes with what reading them answers; or the Modified of two records, of which the first is the newer whatever else they say
pub data Vector : Type 0 where
  answers : List ℕ → Result Message Refusal → Vector
  newer : (modified other : ℕ) → Vector

-- what a case says
abbrev pub Holds : Vector → Type 0
Holds (answers bytes m) = message_in E.New bytes ≡ m
Holds (newer modified other) = (f g : File) → f.modified ≡ modified → g.modified ≡ other → compare_files f g ≡ Greater

-- K1 to K10
unfoldable pub vectors : List Vector
vectors =
    answers (0x00 ∷ 0x00 ∷ 0x04 ∷ 0x00 ∷ []) (Ok (M.Ping 0 4))
    ∷ answers (0x0F ∷ 0xFF ∷ 0x05 ∷ 0x00 ∷ []) (Ok (M.Pong 4095 4))
    ∷ answers (0x10 ∷ 0x00 ∷ 0x08 ∷ 0x01 ∷ []) (refusal 2 0)
    ∷ answers (0x00 ∷ 0x00 ∷ 0x08 ∷ 0x00 ∷ []) (refusal 3 0)
    ∷ answers (0x00 ∷ 0x00 ∷ 0x04 ∷ 0x01 ∷ []) (refusal 4 0)
    ∷ answers (0x00 ∷ 0x00 ∷ 0x04 ∷ []) (refusal 1 0)
    ∷ answers (0x00 ∷ 0x01 ∷ 0x01 ∷ 0x00 ∷ 0x00 ∷ 0x00 ∷ 0x00 ∷ 0x00 ∷ 0x00 ∷ 0x00 ∷ 0x00 ∷ 0x00 ∷ []) (Ok (M.Index 1 (record { repository = span 8 0; files = span 8 4; count = 0; end = 12 })))
    ∷ answers (0x00 ∷ 0x01 ∷ 0x01 ∷ 0x00 ∷ 0x00 ∷ 0x00 ∷ 0x00 ∷ 0x01 ∷ 0x61 ∷ 0x00 ∷ 0x00 ∷ 0x01 ∷ []) (refusal 6 11)
    ∷ answers (0x00 ∷ 0x02 ∷ 0x03 ∷ 0x00 ∷ 0x00 ∷ 0x00 ∷ 0x00 ∷ 0x00 ∷ []) (Ok (M.Response 2 (record { «data» = span 8 0; end = 8 })))
    -- Modified 0 and -1, the second as its 64 bits
    ∷ newer 0 0xFFFFFFFFFFFFFFFF
    ∷ []
