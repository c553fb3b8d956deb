-- Requests with their hashes: one more, and one fewer.
use Prim.Native.Nat.{ℕ, suc, ◌+◌, ◌*◌, ◌-◌, ◌≤◌}
use native.Mathlib.Omega.{arith}
use mathlib.Core.Path.{◌≡◌, refl, sym, ap, ◌∙◌}
use mathlib.Core.Bool.{Bool, cond}
use mathlib.Core.List.{List, [], ◌∷◌, ◌++◌}
use lib.ListN.{length, take, drop, replicate, length-append, length-drop, take-append-drop}
use lib.Seq.{take-append-le, drop-append-le, take-append_seam, length-take-le}
use borrow.Author.Tests.{le-leb}
use Rattle.xdr.specs.Buffer.{put, over}
use Rattle.xdr.proofs.BufferLaws.{length_over}
use Rattle.link.specs.Requests.{total}
use Rattle.link.specs.Hashes.{Asked, with_hashes, total_asked, without_first}
use Rattle.link.specs.declared.request.Request.{Request}

-- bytes behind the hashes of all requests don't count
pub hashes_behind : (rs : List Request) (hs t : List ℕ) → 32 * length rs ≤ length hs → with_hashes rs (hs ++ t) ≡ with_hashes rs hs
hashes_behind [] hs t h = refl
hashes_behind (r ∷ rs) hs t h =
    let long : length (drop 32 hs) ≡ length hs - 32 = length-drop 32 hs in
    ap (λ (l : List ℕ). record { id = r.id; size = r.size; hash = l } ∷ with_hashes rs (drop 32 (hs ++ t))) (take-append-le 32 hs t (omega arith))
    ∙ ap (λ (l : List ℕ). record { id = r.id; size = r.size; hash = take 32 hs } ∷ with_hashes rs l) (drop-append-le 32 hs t (omega arith))
    ∙ ap (λ (l : List Asked). record { id = r.id; size = r.size; hash = take 32 hs } ∷ l) (hashes_behind rs (drop 32 hs) t (omega arith))

-- a hash right behind those of some requests
snoc : (rs : List Request) (r : Request) (hs h t : List ℕ) → length hs ≡ 32 * length rs → length h ≡ 32
    → with_hashes (rs ++ (r ∷ [])) (hs ++ (h ++ t)) ≡ with_hashes rs hs ++ (record { id = r.id; size = r.size; hash = h } ∷ [])
snoc [] r [] h t e f =
    ap (λ (l : List ℕ). record { id = r.id; size = r.size; hash = l } ∷ []) (ap (λ (n : ℕ). take n (h ++ t)) (sym f) ∙ take-append_seam h t)
snoc [] r (x ∷ hs) h t e f = absurd (omega arith)
snoc (a ∷ rs) r hs h t e f =
    let long : length (drop 32 hs) ≡ 32 * length rs = length-drop 32 hs ∙ omega arith in
    ap (λ (l : List ℕ). record { id = a.id; size = a.size; hash = l } ∷ with_hashes (rs ++ (r ∷ [])) (drop 32 (hs ++ (h ++ t)))) (take-append-le 32 hs (h ++ t) (omega arith))
    ∙ ap (λ (l : List ℕ). record { id = a.id; size = a.size; hash = take 32 hs } ∷ with_hashes (rs ++ (r ∷ [])) l) (drop-append-le 32 hs (h ++ t) (omega arith))
    ∙ ap (λ (l : List Asked). record { id = a.id; size = a.size; hash = take 32 hs } ∷ l) (snoc rs r (drop 32 hs) h t long f)

-- a request more, with its hash in its place
pub hashes_appended : (rs : List Request) (r : Request) (hs h : List ℕ) (n : ℕ) → length rs ≡ n → length h ≡ 32 → 32 * n + 32 ≤ length hs
    → (with_hashes (rs ++ (r ∷ [])) (put hs (32 * n) h) ≡ with_hashes rs hs ++ (record { id = r.id; size = r.size; hash = h } ∷ [])) × (length (put hs (32 * n) h) ≡ length hs)
hashes_appended rs r hs h n e f room =
    let at : ℕ = 32 * n in
    let fits : at + length h ≤ length hs = omega (arith, f) in
    let there : put hs at h ≡ over hs at h = ap (λ (t : Bool). cond t (over hs at h) hs) (le-leb (at + length h) (length hs) fits) in
    let first : length (take at hs) ≡ 32 * length rs = length-take-le at hs (omega arith) ∙ ap (λ (k : ℕ). 32 * k) (sym e) in
    let same : with_hashes rs (take at hs) ≡ with_hashes rs hs =
    sym (hashes_behind rs (take at hs) (drop at hs) (omega (arith, first))) ∙ ap (with_hashes rs) (take-append-drop at hs) in (
      ap (with_hashes (rs ++ (r ∷ []))) there
          ∙ snoc rs r (take at hs) h (drop (length h) (drop at hs)) first f
          ∙ ap (λ (l : List Asked). l ++ (record { id = r.id; size = r.size; hash = h } ∷ [])) same,
      ap length there ∙ length_over hs at h fits,
    )

-- a hash fewer
pub without_first_lem : (hs : List ℕ) → 32 ≤ length hs → without_first hs ≡ drop 32 hs ++ replicate 32 0
without_first_lem hs h = ap (λ (t : Bool). cond t (drop 32 hs ++ replicate 32 0) hs) (le-leb 32 (length hs) h)

-- there are as many bytes as before
pub length_hashes : (hs : List ℕ) → length hs ≡ 512 → length (without_first hs) ≡ 512
length_hashes hs l =
    ap length (without_first_lem hs (omega (arith, l)))
    ∙ length-append (drop 32 hs) (replicate 32 0)
    ∙ ap (λ (n : ℕ). n + 32) (length-drop 32 hs ∙ ap (λ (n : ℕ). n - 32) l)

-- as many as there are requests, and their Lengths
pub length_asked : (rs : List Request) (hs : List ℕ) → length (with_hashes rs hs) ≡ length rs
length_asked [] hs = refl
length_asked (r ∷ rs) hs = ap suc (length_asked rs (drop 32 hs))

pub total_asked_lem : (rs : List Request) (hs : List ℕ) → total_asked (with_hashes rs hs) ≡ total rs
total_asked_lem [] hs = refl
total_asked_lem (r ∷ rs) hs = ap (λ (n : ℕ). r.size + n) (total_asked_lem rs (drop 32 hs))
