-- The outstanding requests of one link: which links are in order, and what each call does, where an issue is told the bytes held of a limit.
use Rattle.std.specs.Prelude.{Ok, Err, Some, None, ℕ, ◌+◌, ◌-◌, Bool, cond, ◌&&◌, ◌||◌, List, [], ◌∷◌, ◌++◌, ◌≡◌, length, take, drop, set, replicate, leb, eqb}
use Rattle.std.specs.declared.result.Result.{Result}
use Rattle.std.specs.declared.option.Option.{Option}
use Rattle.xdr.specs.Answers.{at_start}
use Rattle.xdr.specs.Filling.{Outcome, gives, refuses, in_room, Fills}
use Rattle.xdr.specs.declared.answer.Refusal.{Refusal}
use Rattle.message.specs.Limits.{id_limit}
use Rattle.message.specs.Message.{message}
use Rattle.message.specs.declared.answer.Span.{Span}
use Rattle.message.specs.declared.kind.ResponseIn.{ResponseIn}
use Rattle.message.specs.declared.edition.Edition.TheVariants as E
use Rattle.message_write.specs.Writing.{writing}
use Rattle.link.specs.Requests.{blank, after, is_consecutive}
use Rattle.link.specs.declared.request.Request.{Request}
use Rattle.link.specs.declared.list.Link.{Link}
use Rattle.link.specs.declared.outcome.LinkIssued.{LinkIssued}
use Rattle.link.specs.declared.outcome.LinkAnswered.{LinkAnswered}
use Rattle.link.specs.declared.outcome.Release.{Release}
use Rattle.link.specs.declared.outcome.Release.TheVariants as R

-- the largest window, which is as many entries as a link has
abbrev pub window_limit : ℕ
window_limit = 16

-- a window is 1 to 16
abbrev pub window_fits : ℕ → Bool
window_fits w = leb 1 w && leb w window_limit

-- the outstanding requests, the oldest first
abbrev pub outstanding : Link → List Request
outstanding q = take q.count q.entries

-- a window of 1 to 16, no more requests than that, and a next ID of 0 to 4095
abbrev pub shape_fits : Link → Bool
shape_fits q = window_fits q.window && (leb q.count q.window && leb q.next id_limit)

-- a link in order: its shape fits, and its requests are consecutive
unfoldable pub is_orderly : Link → Bool
is_orderly q = shape_fits q && is_consecutive (outstanding q) q.next

-- a link with a window and no requests, whose next ID is 0
abbrev pub empty_link : (window : ℕ) → Link
empty_link window = record { window = window; next = 0; count = 0; entries = replicate window_limit blank }

-- no place for another request, in the window or in the entries
abbrev pub is_full : Link → Bool
is_full q = leb q.window q.count || leb window_limit q.count

-- 16 where the window is full, 17 where the bytes held and the Length exceed the limit, none where both pass
abbrev pub fault_within : (held limit : ℕ) → Link → (size : ℕ) → Option ℕ
fault_within held limit q size = cond (is_full q) (Some 16) (cond (leb (held + size) limit) None (Some 17))

-- a fault of the fields comes first, then 16 or 17
abbrev pub with_fault : (fault : Option ℕ) → Outcome → Outcome
with_fault None o = o
with_fault (Some k) (gives l) = refuses k 0
with_fault (Some k) (refuses m p) = refuses m p

-- issuing a Request with a body and a Length, under the next ID, where so many bytes are held of a limit
abbrev pub issuing : (held limit : ℕ) → Link → (body : List ℕ) → (size : ℕ) → Outcome
issuing held limit q body size = with_fault (fault_within held limit q size) (writing (message E.New) q.next 2 body)

-- the link with a request appended, under the next ID
abbrev pub appended : Link → (size : ℕ) → Link
appended q size =
    record {
      window = q.window;
      next = after q.next;
      count = q.count + 1;
      entries = set q.entries q.count (record { id = q.next; size = size });
    }

-- a Request that is written is appended
abbrev pub issued_link : Link → (size : ℕ) → Outcome → Link
issued_link q size (gives l) = appended q size
issued_link q size (refuses k p) = q

-- what an issue promises: of the buffer, of the ID, and of the link that it hands back
pub record Issues (o : Outcome) (q : Link) (size : ℕ) (out : List ℕ) (r : LinkIssued) (after : List ℕ) : Type 0 where
  pub fills : Fills o out r.filling after
  pub id : r.id ≡ q.next
  pub link : r.link ≡ issued_link q size (in_room (length out) o)

-- the link without its oldest request: the entries move down by one, and the last is blank
abbrev pub without_oldest : Link → Link
without_oldest q = record { window = q.window; next = q.next; count = q.count - 1; entries = drop 1 q.entries ++ (blank ∷ []) }

-- how the oldest is released: with data as long as asked, without any, or with any other length
abbrev pub released : Request → Span → Release
released r d = cond (eqb d.length 0) (R.NotAvailable r.id r.size) (cond (eqb d.length r.size) (R.Data r.id r.size d) (R.WrongSize r.id r.size))

-- a refused answer: the link is handed back as it was
abbrev pub kept_with : Link → Refusal → LinkAnswered
kept_with q r = record { link = q; release = Err r }

-- a Response with an ID to some requests, the oldest first (20)
abbrev pub settled_by : Link → List Request → (id : ℕ) → Span → LinkAnswered
settled_by q [] id d = kept_with q (at_start 20)
settled_by q (r ∷ rs) id d = cond (eqb r.id id) (record { link = without_oldest q; release = Ok (released r d) }) (kept_with q (at_start 20))

-- a Response, or why there is none (reading, then 18)
abbrev pub answered_by : Link → Result ResponseIn Refusal → LinkAnswered
answered_by q (Ok x) = settled_by q (outstanding q) x.id x.response.«data»
answered_by q (Err r) = kept_with q r

-- dropping the link releases everything; the next ID goes on
abbrev pub emptied : Link → Link
emptied q = record { window = q.window; next = q.next; count = 0; entries = replicate window_limit blank }
