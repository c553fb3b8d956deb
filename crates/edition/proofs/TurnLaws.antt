-- The bytes of a message that is turned: its header stays, and so do the fields behind the Repository.
use Prim.Native.Nat.{ℕ, ◌+◌, ◌≤◌}
use mathlib.Core.List.{List, ◌++◌, append_assoc}
use mathlib.Core.Path.{◌≡◌, refl, sym, ap, ◌∙◌}
use mathlib.Core.Bool.{Bool, true, false, true≢false}
use native.Mathlib.Omega.{arith}
use lib.ListN.{length, take, drop, length-append}
use lib.Seq.{take_at, drop_at}
use Rattle.xdr.specs.Reading.{Reading, taken, refused, shifted}
use Rattle.xdr.specs.Number.{IsBytes}
use Rattle.xdr.specs.Format.{read, read_at, encode, Valid}
use Rattle.xdr.specs.Fields.{word, opaque}
use Rattle.xdr.specs.Filling.{gives, refuses}
use Rattle.xdr.proofs.Corollaries.{read_exactly}
use Rattle.xdr.proofs.EncodedSize.{number_size}
use Rattle.xdr.proofs.Parts.{encoding_read}
use Rattle.xdr.proofs.Steps.{Reads, shifted_zero}
use Rattle.xdr.proofs.Within.{within}
use Rattle.message.specs.Limits.{repository_limit}
use Rattle.message.specs.Message.{repository, Kind, is_index, is_request, is_response, is_ping, is_pong, is_index_update, is_options, Body, body, MessageValue, message}
use Rattle.message.specs.declared.edition.Edition.{Edition}
use Rattle.message.specs.declared.edition.Edition.TheVariants as E
use Rattle.message_write.specs.Writing.{repository_bytes}
use Rattle.edition.specs.Turning.{has_repository, in_both, raised_body, lowered_body, kind_in, raised, lowered, repository_given, once_taken, upgrading, downgrading, own_repository}
use Rattle.edition.specs.Steps.{with_repository, behind_repository, without_repository}
use Rattle.edition.proofs.SentLaws.{Sent}

unnamed : {P : Type 0} → false ≡ true → P
unnamed e = absurd (true≢false (sym e))

-- a body with a Repository, and without it

pub raised_named : (r : List ℕ) (k : Kind) (b : Body E.Old k) → has_repository k ≡ true → encode (body E.New k) (raised_body r k b) ≡ repository_bytes E.New r ++ encode (body E.Old k) b
unfolding encode
raised_named r is_index b h = refl
raised_named r is_request b h = refl
raised_named r is_response b h = unnamed h
raised_named r is_ping b h = unnamed h
raised_named r is_pong b h = unnamed h
raised_named r is_index_update b h = refl
raised_named r is_options b h = unnamed h

pub raised_same : (r : List ℕ) (k : Kind) (b : Body E.Old k) → has_repository k ≡ false → encode (body E.New k) (raised_body r k b) ≡ encode (body E.Old k) b
unfolding encode
raised_same r is_index b h = unnamed (sym h)
raised_same r is_request b h = unnamed (sym h)
raised_same r is_response b h = refl
raised_same r is_ping b h = refl
raised_same r is_pong b h = refl
raised_same r is_index_update b h = unnamed (sym h)
raised_same r is_options b h = refl

-- what was lowered is what is raised again by its own Repository

pub raised_lowered : (k : Kind) (b : Body E.New k) → raised_body (own_repository k b) k (lowered_body k b) ≡ b
raised_lowered is_index b = refl
raised_lowered is_request b = refl
raised_lowered is_response b = refl
raised_lowered is_ping b = refl
raised_lowered is_pong b = refl
raised_lowered is_index_update b = refl
raised_lowered is_options b = refl

pub lowered_raised : (r : List ℕ) (k : Kind) (b : Body E.Old k) → lowered_body k (raised_body r k b) ≡ b
lowered_raised r is_index b = refl
lowered_raised r is_request b = refl
lowered_raised r is_response b = refl
lowered_raised r is_ping b = refl
lowered_raised r is_pong b = refl
lowered_raised r is_index_update b = refl
lowered_raised r is_options b = refl

own_valid : (k : Kind) (b : Body E.New k) → has_repository k ≡ true → Valid (body E.New k) b → Valid (opaque repository_limit) (own_repository k b)
unfolding Valid
own_valid is_index b h v = v.0.0
own_valid is_request b h v = v.0.0
own_valid is_response b h v = unnamed h
own_valid is_ping b h v = unnamed h
own_valid is_pong b h v = unnamed h
own_valid is_index_update b h v = v.0.0
own_valid is_options b h v = unnamed h

-- the bytes of a message that was read: its header and its body
record Bytes (e : Edition) (v : MessageValue e) (m : List ℕ) : Type 0 where
  split : m ≡ encode word v.0 ++ encode (body e (kind_in v.0)) v.1
  front : take 4 m ≡ encode word v.0
  behind : drop 4 m ≡ encode (body e (kind_in v.0)) v.1
  long : 4 ≤ length m
  valid : Valid (body e (kind_in v.0)) v.1

bytes_of : {e : Edition} {s : List ℕ} {named : Bool} {end : ℕ} → IsBytes s → (x : Sent e s named end) → Bytes e x.value (take end s)
unfolding encode Valid
bytes_of {e} {s} {named} {end} b x =
    let v = x.value in
    let h : List ℕ = encode word v.0 in
    let t : List ℕ = encode (body e (kind_in v.0)) v.1 in
    let q = read_exactly (message e) s v end b x.reads in
    let split : take end s ≡ h ++ t = sym q.0 in
    let size = number_size 4 v.0 in
    record {
      split = split;
      front = ap (take 4) split ∙ take_at h t 4 size;
      behind = ap (drop 4) split ∙ drop_at h t 4 size;
      long = omega (arith, ap length split, length-append h t, size);
      valid = q.1.1;
    }

-- a message ends within the bytes that it was read from, behind its header
pub sent_within : {e : Edition} {s : List ℕ} {named : Bool} {end : ℕ} → Sent e s named end → end ≤ length s
sent_within {e} {s} x = rw x.reads at (within (message e) s)

pub sent_header : {e : Edition} {s : List ℕ} {named : Bool} {end : ℕ} → IsBytes s → Sent e s named end → 4 ≤ length (take end s)
sent_header b x = (bytes_of b x).long

-- going up: the Repository comes between, where there is one

pub upgraded_named : {s : List ℕ} {end : ℕ} (r : List ℕ) → IsBytes s → Sent E.Old s true end → upgrading s r ≡ with_repository (take end s) r
unfolding upgrading encode
upgraded_named {s} {end} r b x =
    let v = x.value in
    let w = bytes_of b x in
    let turned : encode (message E.New) (raised r v) ≡ take 4 (take end s) ++ (repository_bytes E.New r ++ drop 4 (take end s)) =
    ap (λ (l : List ℕ). encode word v.0 ++ l) (raised_named r (kind_in v.0) v.1 x.kind)
    ∙ ap (λ (l : List ℕ). l ++ (repository_bytes E.New r ++ encode (body E.Old (kind_in v.0)) v.1)) (sym w.front)
    ∙ ap (λ (l : List ℕ). take 4 (take end s) ++ (repository_bytes E.New r ++ l)) (sym w.behind) in
    rw x.reads (rw x.kind (ap (λ (l : List ℕ). once_taken (repository_given r) λ _. gives l) turned))

pub upgraded_same : {s : List ℕ} {end : ℕ} (r : List ℕ) → IsBytes s → Sent E.Old s false end → upgrading s r ≡ gives (take end s)
unfolding upgrading encode
upgraded_same {s} {end} r b x =
    let v = x.value in
    rw x.reads (rw x.kind (ap gives (ap (λ (l : List ℕ). encode word v.0 ++ l) (raised_same r (kind_in v.0) v.1 x.kind) ∙ sym (bytes_of b x).split)))

pub upgrade_refused : (s r : List ℕ) {k p : ℕ} → read (message E.Old) s ≡ refused k p → upgrading s r ≡ refuses k p
unfolding upgrading
upgrade_refused s r e = rw e refl

-- the Repository that is given, refused or taken

given_reads : (r : List ℕ) {x : Reading (List ℕ)} → Reads (repository E.New) (repository_bytes E.New r) 0 x → repository_given r ≡ shifted 4 x
unfolding read_at
given_reads r h = ap (shifted 4) (sym (shifted_zero (read (repository E.New) (repository_bytes E.New r))) ∙ h.is)

pub unfit_given : (m r : List ℕ) {k p : ℕ} → Reads (repository E.New) (repository_bytes E.New r) 0 (refused k p) → with_repository m r ≡ refuses k (4 + p)
unfit_given m r h = rw (given_reads r h) refl

pub fit_given : (m r : List ℕ) {l : List ℕ} {n : ℕ} → Reads (repository E.New) (repository_bytes E.New r) 0 (taken l n) → with_repository m r ≡ gives (take 4 m ++ (repository_bytes E.New r ++ drop 4 m))
fit_given m r h = rw (given_reads r h) refl

-- going down: it is left out

pub read_behind : (m : List ℕ) {r : List ℕ} {next : ℕ} → Reads (opaque repository_limit) m 4 (taken r next) → without_repository m ≡ gives (take 4 m ++ drop next m)
unfolding without_repository
read_behind m h = ap (behind_repository m) h.is

pub unread_behind : (m : List ℕ) {k p : ℕ} → Reads (opaque repository_limit) m 4 (refused k p) → without_repository m ≡ refuses k p
unfolding without_repository
unread_behind m h = ap (behind_repository m) h.is

lowered_bytes : (v : MessageValue E.New) {m : List ℕ} → has_repository (kind_in v.0) ≡ true → Bytes E.New v m → without_repository m ≡ gives (encode (message E.Old) (lowered v))
unfolding encode
lowered_bytes v {m} h w =
    let k = kind_in v.0 in
    let own : List ℕ = own_repository k v.1 in
    let R : List ℕ = repository_bytes E.New own in
    let rest : List ℕ = encode (body E.Old k) (lowered_body k v.1) in
    let there : encode (body E.New k) v.1 ≡ R ++ rest = ap (encode (body E.New k)) (sym (raised_lowered k v.1)) ∙ raised_named own k (lowered_body k v.1) h in
    let reads = encoding_read (opaque repository_limit) own m 4 rest (own_valid k v.1 h w.valid) (w.behind ∙ there) in
    let whole : m ≡ (encode word v.0 ++ R) ++ rest = w.split ∙ ap (λ (l : List ℕ). encode word v.0 ++ l) there ∙ sym (append_assoc (encode word v.0) R rest) in
    let past : drop (4 + length R) m ≡ rest =
    ap (drop (4 + length R)) whole ∙ drop_at (encode word v.0 ++ R) rest (4 + length R) (length-append (encode word v.0) R ∙ ap (λ (n : ℕ). n + length R) (number_size 4 v.0)) in
    read_behind m reads ∙ ap (λ (l : List ℕ). gives (l ++ drop (4 + length R) m)) w.front ∙ ap (λ (l : List ℕ). gives (encode word v.0 ++ l)) past

pub downgraded_named : {s : List ℕ} {end : ℕ} → IsBytes s → (x : Sent E.New s true end) → in_both (kind_in x.value.0) ≡ true → downgrading s ≡ without_repository (take end s)
unfolding downgrading
downgraded_named {s} {end} b x both = rw x.reads (rw both (sym (lowered_bytes x.value x.kind (bytes_of b x))))

pub downgraded_same : {s : List ℕ} {end : ℕ} → IsBytes s → (x : Sent E.New s false end) → in_both (kind_in x.value.0) ≡ true → downgrading s ≡ gives (take end s)
unfolding downgrading encode
downgraded_same {s} {end} b x both =
    let v = x.value in
    let k = kind_in v.0 in
    let same : encode (body E.Old k) (lowered_body k v.1) ≡ encode (body E.New k) v.1 =
    sym (raised_same (own_repository k v.1) k (lowered_body k v.1) x.kind) ∙ ap (encode (body E.New k)) (raised_lowered k v.1) in
    rw x.reads (rw both (ap gives (ap (λ (l : List ℕ). encode word v.0 ++ l) same ∙ sym (bytes_of b x).split)))

pub downgrade_options : (s : List ℕ) {v : MessageValue E.New} {n : ℕ} → read (message E.New) s ≡ taken v n → in_both (kind_in v.0) ≡ false → downgrading s ≡ refuses 18 0
unfolding downgrading
downgrade_options s e h = rw e (rw h refl)

pub downgrade_refused : (s : List ℕ) {k p : ℕ} → read (message E.New) s ≡ refused k p → downgrading s ≡ refuses k p
unfolding downgrading
downgrade_refused s e = rw e refl
