-- What the request list does, by the checks of the tables.
use Prim.Native.Nat.{ℕ, ◌*◌}
use mathlib.Core.List.{List, [], ◌∷◌}
use mathlib.Core.Path.{◌≡◌, refl, sym, ap, ◌∙◌}
use mathlib.Core.Bool.{Bool, true, false}
use lib.ListN.{length}
use Rattle.xdr.specs.Number.{IsBytes}
use Rattle.xdr.specs.Filling.{gives, refuses}
use Rattle.table.specs.Table.{is_good, all_good}
use Rattle.record.proofs.RisingLaws.{both_true}
use Rattle.want.specs.Wanted.{list_bytes, request_outcome}
use Rattle.want.specs.Steps.Places.{table_at, Five, list_of}
use Rattle.want.proofs.SideLaws.{by_five}
use Rattle.want.proofs.EntryLaws.{bytes_length}

module _ (local : List ℕ) (peers : List (List ℕ)) {b : Bool} (e : b ≡ all_good (local ∷ peers)) where
  pub request_bad : b ≡ false → request_outcome local peers ≡ refuses 15 0
  unfolding request_outcome
  request_bad f = rw (sym e ∙ f) refl

  pub request_good : b ≡ true → request_outcome local peers ≡ gives (list_bytes (list_of (local ∷ peers)))
  unfolding request_outcome
  request_good f = rw (sym e ∙ f) refl

-- how many bytes a list has
pub request_size : (ts : List (List ℕ)) {n : ℕ} → n ≡ length (list_of ts) → n * 24 ≡ length (list_bytes (list_of ts))
request_size ts k = ap (λ (m : ℕ). m * 24) k ∙ sym (bytes_length (list_of ts))

-- five good tables
pub five_good : (a b c d e : List ℕ) {t : Bool} → IsBytes a → IsBytes b → IsBytes c → IsBytes d → IsBytes e → t ≡ all_good (a ∷ b ∷ c ∷ d ∷ e ∷ []) → t ≡ true → Five (a ∷ b ∷ c ∷ d ∷ e ∷ [])
five_good a b c d e p q r s u g h =
    let ts : List (List ℕ) = a ∷ b ∷ c ∷ d ∷ e ∷ [] in
    let v = both_true (is_good a) (all_good (b ∷ c ∷ d ∷ e ∷ [])) (sym g ∙ h) in
    let w = both_true (is_good b) (all_good (c ∷ d ∷ e ∷ [])) v.1 in
    let x = both_true (is_good c) (all_good (d ∷ e ∷ [])) w.1 in
    let y = both_true (is_good d) (all_good (e ∷ [])) x.1 in
    let z = both_true (is_good e) (all_good []) y.1 in
    record {
      many = refl;
      bytes = by_five (λ k. IsBytes (table_at ts k)) p q r s u;
      good = by_five (λ k. is_good (table_at ts k) ≡ true) v.0 w.0 x.0 y.0 z.0;
    }
