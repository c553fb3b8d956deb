-- The steps of a link's calls.
use Rattle.std.specs.Prelude.{Some, None, Ok, Err, ℕ, ◌*◌, cond, List, eqb}
use Rattle.std.specs.declared.option.Option.{Option}
use Rattle.std.specs.declared.result.Result.{Result}
use Rattle.xdr.specs.declared.answer.Refusal.{Refusal}
use Rattle.xdr.specs.Buffer.{put}
use Rattle.xdr.specs.Filling.{refuses, filling_answer}
use Rattle.link.specs.Requests.{total}
use Rattle.link.specs.OneLink.{outstanding, is_orderly, appended}
use Rattle.link.specs.declared.list.Link.{Link}
use Rattle.link.specs.declared.outcome.LinkIssued.{LinkIssued}

-- the bytes outstanding of a link in order
abbrev pub orderly_bytes : Link → Option ℕ
orderly_bytes q = cond (is_orderly q) (Some (total (outstanding q))) None

-- the answer for a request that the window or the limit does not let pass, by what writing it into no room answered: a fault of its fields, or else theirs
abbrev pub barred_answer : (fault : ℕ) → Result ℕ Refusal → Result ℕ Refusal
barred_answer fault (Ok n) = filling_answer (refuses fault 0)
barred_answer fault (Err r) = cond (eqb r.number 14) (filling_answer (refuses fault 0)) (Err r)

-- the link after a writer's answer
abbrev pub appended_by : Link → (size : ℕ) → Result ℕ Refusal → Link
appended_by q size (Ok n) = appended q size
appended_by q size (Err r) = q

-- what is handed back then
abbrev pub issued_by : Link → (size : ℕ) → Result ℕ Refusal → LinkIssued
issued_by q size w = record { link = appended_by q size w; id = q.next; filling = w }

-- the hashes after a writer's answer
abbrev pub hashes_filled : (hashes : List ℕ) (entry : ℕ) (hash : List ℕ) → Result ℕ Refusal → List ℕ
hashes_filled hs i h (Ok n) = put hs (32 * i) h
hashes_filled hs i h (Err r) = hs
