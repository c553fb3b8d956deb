-- Reading a message is never refused with 0, which is no refusal, nor with 13 or 14, which belong to other calls.
use Prim.Native.Nat.{ℕ}
use mathlib.Core.List.{List}
use mathlib.Core.Path.{◌≡◌, refl, subst}
use mathlib.Core.Bool.{Bool, true, false, not, ◌&&◌}
use native.Mathlib.Omega.{arith}
use lib.Dec.{eqb}
use Rattle.xdr.specs.Reading.{refused}
use Rattle.xdr.specs.Format.{read}
use Rattle.xdr.specs.Fields.{text}
use Rattle.xdr.proofs.Numbers.{NumbersIn, refused_number}
use Rattle.record.specs.Block.{blocks, hash}
use Rattle.record.specs.File.{name, is_deleted, files}
use Rattle.message.specs.Limits.{files_limit}
use Rattle.message.specs.Header.{type_of}
use Rattle.message.specs.Message.{Kind, is_index, is_request, is_response, is_ping, is_pong, is_index_update, is_options, kind_of, repository, body, message}
use Rattle.message.specs.declared.edition.Edition.{Edition}
use Rattle.message.specs.declared.edition.Edition.TheVariants as E

-- neither 0 nor 13 nor 14
abbrev Neither : ℕ → Type 0
Neither k = (not (eqb k 0) && (not (eqb k 13) && not (eqb k 14))) ≡ true

text_numbers : (limit : ℕ) → NumbersIn Neither (text limit)
text_numbers limit = (refl, (refl, tt))

name_numbers : NumbersIn Neither name
name_numbers = (refl, (refl, text_numbers 255))

hash_numbers : NumbersIn Neither hash
hash_numbers = (refl, tt)

blocks_numbers : (deleted : Bool) → NumbersIn Neither (blocks deleted)
blocks_numbers deleted = ((refl, (refl, tt)), ((refl, tt), λ s. hash_numbers))

files_numbers : (limit : ℕ) → NumbersIn Neither (files limit)
files_numbers limit = ((refl, tt), (name_numbers, λ n. ((refl, tt), λ f. (tt, λ m. (tt, λ v. blocks_numbers (is_deleted f))))))

repository_numbers : (e : Edition) → NumbersIn Neither (repository e)
repository_numbers E.Old = tt
repository_numbers E.New = text_numbers 64

body_numbers : (e : Edition) (k : Kind) → NumbersIn Neither (body e k)
body_numbers e is_index = (repository_numbers e, λ r. files_numbers files_limit)
body_numbers e is_request = (repository_numbers e, λ r. (name_numbers, λ n. (tt, λ o. ((refl, tt), λ l. hash_numbers))))
body_numbers e is_response = (refl, tt)
body_numbers e is_ping = tt
body_numbers e is_pong = tt
body_numbers e is_index_update = (repository_numbers e, λ r. files_numbers files_limit)
body_numbers e is_options = ((refl, tt), (text_numbers 64, λ k. text_numbers 255))

refused_neither : (e : Edition) (s : List ℕ) (k p : ℕ) → read (message e) s ≡ refused k p → Neither k
refused_neither e s k p r = refused_number Neither refl refl (message e) ((refl, (refl, (refl, tt))), λ h. body_numbers e (kind_of (type_of h))) s k p r

never : false ≡ true → ⊥
never z = let y : ◌≡◌ {A = ℕ} 0 1 = cc in omega arith

pub message_number : (e : Edition) (s : List ℕ) (k p : ℕ) → read (message e) s ≡ refused k p → (k ≡ 13 → ⊥) × (k ≡ 14 → ⊥)
message_number e s k p r = (λ f. never (subst Neither f (refused_neither e s k p r)), λ f. never (subst Neither f (refused_neither e s k p r)))

pub message_refused : (e : Edition) (s : List ℕ) (k p : ℕ) → read (message e) s ≡ refused k p → k ≡ 0 → ⊥
message_refused e s k p r f = never (subst Neither f (refused_neither e s k p r))
