-- What only the steps of the code and their proofs need.
use Rattle.std.specs.Prelude.{Ok, Err, Some, None, ℕ, cond, List}
use Rattle.std.specs.declared.option.Option.{Option}
use Rattle.std.specs.declared.result.Result.{Result}
use Rattle.xdr.specs.Answers.{at_start}
use Rattle.xdr.specs.declared.answer.Refusal.{Refusal}
use Rattle.link.specs.Hashes.{no_hashes, hashes_released, arrival_of}
use Rattle.link.specs.Steps.{hashes_filled}
use Rattle.link.specs.declared.outcome.Release.{Release}
use Rattle.link.specs.declared.outcome.Arrival.{Arrival}
use Rattle.queue.specs.Shares.{share_of, with_share}
use Rattle.queue.specs.Queue.{hash_bytes, is_peer, common, is_sound, admitted}
use Rattle.queue.specs.declared.queue.RequestQueue.{RequestQueue}

-- the bytes outstanding of a sound queue
abbrev pub sound_bytes : RequestQueue → Option ℕ
sound_bytes q = cond (is_sound q) (Some (common q.links)) None

-- the bytes outstanding, or the refusal of a call for a peer
abbrev pub admission : RequestQueue → (peer : ℕ) → Result ℕ Refusal
admission q p = admitted q p (Ok (common q.links)) (λ (k : ℕ). Err (at_start k))

-- the hashes after a Request for a peer was written or not
abbrev pub kept_for : (hashes : List ℕ) (peer entry : ℕ) (hash : List ℕ) → Result ℕ Refusal → List ℕ
kept_for hs p i h w = cond (is_peer p) (with_share hash_bytes hs p (hashes_filled (share_of hash_bytes hs p) i h w)) hs

-- what an answer from a peer brought, by how it released the oldest request
abbrev pub arrival_for : (hashes : List ℕ) (peer : ℕ) (message : List ℕ) → Result Release Refusal → Result Arrival Refusal
arrival_for hs p m r = cond (is_peer p) (arrival_of (share_of hash_bytes hs p) m r) (Err (at_start 23))

-- and the hashes then
abbrev pub released_for : (hashes : List ℕ) (peer : ℕ) → Result Release Refusal → List ℕ
released_for hs p r = cond (is_peer p) (with_share hash_bytes hs p (hashes_released (share_of hash_bytes hs p) r)) hs

-- the hashes without those of a peer
abbrev pub forgotten_for : (hashes : List ℕ) (peer : ℕ) → List ℕ
forgotten_for hs p = cond (is_peer p) (with_share hash_bytes hs p no_hashes) hs
