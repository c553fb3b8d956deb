-- `message_write::write::store_request` meets its contract: each field goes right behind those before it.
use Prim.Native.Nat.{ℕ, ◌+◌, ◌≤◌}
use mathlib.Core.List.{List, ◌++◌}
use mathlib.Core.Path.{◌≡◌, sym, ap, ◌∙◌}
use native.Mathlib.Omega.{arith}
use borrow.Author.Rules.{rules}
use lib.ListN.{length, length-append}
use Rattle.xdr.specs.Format.{bytes, encode}
use Rattle.xdr.specs.Fields.{word, hyper}
use Rattle.xdr.specs.Buffer.{filled}
use Rattle.xdr.proofs.EncodedSize.{number_size}
use Rattle.xdr.proofs.BufferLaws.{FilledTo, put_next, opaque_count, opaque_next}
use Rattle.message_write.specs.Steps.{given_bytes}
use Rattle.message_write.proofs.Behind.{request_size, request_grouped}
use Rattle.message_write.proofs.write.store_request.Statement.{statement}
use Rattle.message_write.proofs.write.store_request.Tie as tie

-- the Repository's bytes, and the header before them
abbrev given : tie.Start → List ℕ
given c = given_bytes c.args.edition c.args.repository.now

abbrev front : tie.Start → List ℕ
front c = encode word c.args.head ++ given c

-- there is room for all fields
room : (c : tie.Start)
    → let a = c.args in 4 + (length (given c) + (length (encode (bytes word) a.name.now) + (8 + (4 + length (encode (bytes word) a.hash.now))))) ≤ length a.out.now
room c = let a = c.args in omega (arith, c.requires.1, request_size (given c) a.name.now a.offset a.size a.hash.now)

store_front-name_at-requires : tie.Need-store_front-name_at-requires
store_front-name_at-requires c κs = let k = c.before.before.before.before.before in (k.requires.0.0, omega (arith, room k))

-- the buffer after each field, and how many bytes those of no fixed size took
front-put : (c : tie.After-store_front-name_at) → FilledTo c.before.before.before.before.before.before.args.out.now c.store_front-name_at.new.out (front c.before.before.before.before.before.before) c.store_front-name_at.result
front-put c = record { fills = c.store_front-name_at.ensures.1; long = sym c.store_front-name_at.ensures.0 }

front-size : (c : tie.After-store_front-name_at) → c.store_front-name_at.result ≡ 4 + length (given c.before.before.before.before.before.before)
front-size c =
    let k = c.before.before.before.before.before.before in
    c.store_front-name_at.ensures.0 ∙ length-append (encode word k.args.head) (given k) ∙ ap (λ (n : ℕ). n + length (given k)) (number_size 4 k.args.head)

name-count : (c : tie.After-put_bytes) → c.put_bytes.result ≡ length (encode (bytes word) c.before.before.before.before.before.before.before.before.before.before.args.name.now)
name-count c =
    let k = c.before.before.before.before.before.before.before.before.before.before in opaque_count (front-put c.before.before.before.before) k.args.name.now (omega arith) (omega (arith, front-size c.before.before.before.before, room k)) c.put_bytes.ensures.0

name-put : (c : tie.After-put_bytes)
    → let k = c.before.before.before.before.before.before.before.before.before.before in
    FilledTo k.args.out.now c.put_bytes.new.out (front k ++ encode (bytes word) k.args.name.now) (c.before.before.before.before.store_front-name_at.result + c.put_bytes.result)
name-put c =
    let k = c.before.before.before.before.before.before.before.before.before.before in
    opaque_next (front-put c.before.before.before.before) k.args.name.now (omega arith) (omega (arith, front-size c.before.before.before.before, room k)) c.put_bytes.ensures.0 c.put_bytes.ensures.1

-- where the offset begins, with room for what is left
offset_at : (c : tie.After-put_bytes) → let k = c.before.before.before.before.before.before.before.before.before.before in c.before.before.before.before.store_front-name_at.result + c.put_bytes.result + (12 + length (encode (bytes word) k.args.hash.now)) ≤ length k.args.out.now
offset_at c = omega (arith, front-size c.before.before.before.before, name-count c, room c.before.before.before.before.before.before.before.before.before.before)

offset-put : (c : tie.After-put_hyper)
    → let k = c.before.before.before.before.before.before.before.before.before.before.before.before.before.before in
    FilledTo k.args.out.now c.put_hyper.new.out ((front k ++ encode (bytes word) k.args.name.now) ++ encode hyper k.args.offset) (c.before.before.before.before.before.before.before.before.store_front-name_at.result + c.before.before.before.before.put_bytes.result + 8)
offset-put c =
    let a = c.before.before.before.before.before.before.before.before.before.before.before.before.before.before.args in put_next (name-put c.before.before.before.before) (encode hyper a.offset) (number_size 8 a.offset) (omega (arith, offset_at c.before.before.before.before)) c.put_hyper.ensures.1

size-put : (c : tie.After-put_word)
    → let k = c.before.before.before.before.before.before.before.before.before.before.before.before.before.before.before.before.before.before in
    FilledTo k.args.out.now c.put_word.new.out (((front k ++ encode (bytes word) k.args.name.now) ++ encode hyper k.args.offset) ++ encode word k.args.size)
    (c.before.before.before.before.before.before.before.before.before.before.before.before.store_front-name_at.result + c.before.before.before.before.before.before.before.before.put_bytes.result + 12)
size-put c =
    let a = c.before.before.before.before.before.before.before.before.before.before.before.before.before.before.before.before.before.before.args in
    let at : ℕ = c.before.before.before.before.before.before.before.before.before.before.before.before.store_front-name_at.result + c.before.before.before.before.before.before.before.before.put_bytes.result in
    let twelve : at + 8 + 4 ≡ at + 12 = omega arith in
    rw twelve at (put_next (offset-put c.before.before.before.before) (encode word a.size) (number_size 4 a.size) (omega (arith, offset_at c.before.before.before.before.before.before.before.before)) c.put_word.ensures.1)

overflow_add-offset_at : tie.Need-overflow_add-offset_at
overflow_add-offset_at c = omega (arith, offset_at c.before.before)

overflow_add-offset_at-2 : tie.Need-overflow_add-offset_at-2
overflow_add-offset_at-2 c = omega (arith, offset_at c.before.before.before.before.before.before.before)

overflow_add-offset_at-3 : tie.Need-overflow_add-offset_at-3
overflow_add-offset_at-3 c = omega (arith, offset_at c.before.before.before.before.before.before.before.before.before.before.before)

returns : tie.Need-returns
returns c =
    let k = c.before.before.before.before.before.before.before.before.before.before.before.before.before.before.before.before.before.before.before.before.before.before.before.before in
    let a = k.args in
    let h = c.before.before in
    (opaque_next (size-put c.before.before.before.before.before.before) a.hash.now (omega (arith, k.requires.0.2)) (omega (arith, offset_at c.before.before.before.before.before.before.before.before.before.before.before.before.before.before)) h.put_bytes-2.ensures.0 h.put_bytes-2.ensures.1).fills
    ∙ ap (filled a.out.now) (request_grouped (encode word a.head) (given k) (encode (bytes word) a.name.now) (encode hyper a.offset) (encode word a.size) (encode (bytes word) a.hash.now))

pub store_request_spec : {M : Type 1} → statement M
store_request_spec =
    tie.close
    (tie.spec
    store_front-name_at-requires
    (λ c κs. search rules)
    overflow_add-offset_at
    (λ c κs. search rules)
    overflow_add-offset_at-2
    (λ c κs. search rules)
    overflow_add-offset_at-3
    (λ c κs. search rules)
    (λ c. search rules)
    returns)
