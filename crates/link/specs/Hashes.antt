-- The hashes of a link's requests (document 02, §6): 32 bytes for each of its entries, in their order; and what an answer brings, by the hash
-- that was asked for.
use Rattle.std.specs.Prelude.{Ok, Err, ℕ, ◌+◌, ◌*◌, Bool, cond, List, [], ◌∷◌, ◌++◌, length, take, drop, replicate, leb}
use Rattle.std.specs.declared.result.Result.{Result}
use Rattle.xdr.specs.declared.answer.Refusal.{Refusal}
use Rattle.xdr.specs.Buffer.{put}
use Rattle.xdr.specs.Filling.{Outcome, gives, refuses}
use Rattle.order.specs.Order.{is_equal, compare_lists}
use Rattle.sha256.specs.Hash.{digest}
use Rattle.message.specs.Answers.{span_bytes}
use Rattle.message.specs.declared.answer.Span.{Span}
use Rattle.link.specs.OneLink.{window_limit, outstanding}
use Rattle.link.specs.declared.request.Request.{Request}
use Rattle.link.specs.declared.list.Link.{Link}
use Rattle.link.specs.declared.outcome.Release.{Release}
use Rattle.link.specs.declared.outcome.Release.TheVariants as R
use Rattle.link.specs.declared.outcome.Arrival.{Arrival}
use Rattle.link.specs.declared.outcome.Arrival.TheVariants as A

-- a request with the hash that was asked for
pub record Asked : Type 0 where
  pub id : ℕ
  pub size : ℕ
  pub hash : List ℕ

-- some requests with their hashes
abbrev pub with_hashes : List Request → (hashes : List ℕ) → List Asked
with_hashes [] hs = []
with_hashes (r ∷ rs) hs = record { id = r.id; size = r.size; hash = take 32 hs } ∷ with_hashes rs (drop 32 hs)

-- the outstanding requests with their hashes, the oldest first
abbrev pub asked : Link → (hashes : List ℕ) → List Asked
asked q hs = with_hashes (outstanding q) hs

-- the sum of the Lengths of some requests with their hashes
abbrev pub total_asked : List Asked → ℕ
total_asked [] = 0
total_asked (r ∷ rs) = r.size + total_asked rs

-- the hashes of no requests
abbrev pub no_hashes : List ℕ
no_hashes = replicate (32 * window_limit) 0

-- a Request that is written has its hash kept in the entry that it takes
abbrev pub hashes_issued : (hashes : List ℕ) (entry : ℕ) (hash : List ℕ) → Outcome → List ℕ
hashes_issued hs i h (gives l) = put hs (32 * i) h
hashes_issued hs i h (refuses k p) = hs

-- the hashes without that of the oldest request: they move down by one, and the last is blank; where there is none, nothing moves
abbrev pub without_first : (hashes : List ℕ) → List ℕ
without_first hs = cond (leb 32 (length hs)) (drop 32 hs ++ replicate 32 0) hs

-- an answer that released the oldest request takes its hash away
abbrev pub hashes_released : (hashes : List ℕ) → Result Release Refusal → List ℕ
hashes_released hs (Ok r) = without_first hs
hashes_released hs (Err r) = hs

-- data have the hash that the oldest request asked for
unfoldable pub is_content : (hashes message : List ℕ) → Span → Bool
is_content hs m d = is_equal (compare_lists (digest (span_bytes m d)) (take 32 hs))

-- what a release brought: data as long as asked are wrong content where their hash differs
abbrev pub arrived : (hashes message : List ℕ) → Release → Arrival
arrived hs m (R.Data id size d) = cond (is_content hs m d) (A.Data id size d) (A.WrongContent id size)
arrived hs m (R.NotAvailable id size) = A.NotAvailable id size
arrived hs m (R.WrongSize id size) = A.WrongSize id size

-- what an answer brought
abbrev pub arrival_of : (hashes message : List ℕ) → Result Release Refusal → Result Arrival Refusal
arrival_of hs m (Ok r) = Ok (arrived hs m r)
arrival_of hs m (Err r) = Err r
