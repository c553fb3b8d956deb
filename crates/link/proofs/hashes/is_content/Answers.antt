-- By the digest of the span's bytes.
use Prim.Native.Nat.{ℕ}
use mathlib.Core.List.{List}
use mathlib.Core.Path.{ap, ◌∙◌}
use lib.ListN.{take}
use Rattle.order.specs.Order.{is_equal, compare_lists}
use Rattle.sha256.specs.Hash.{digest}
use Rattle.link.specs.Hashes.{is_content}
use Rattle.link.proofs.hashes.is_content.Goals as goal

pub returns : goal.returns
unfolding is_content
returns c =
    let a = c.args in
    c.same_hash.ensures
    ∙ ap (λ (l : List ℕ). is_equal (compare_lists c.digest-digest.result l)) c.part.ensures
    ∙ ap (λ (l : List ℕ). is_equal (compare_lists l (take 32 a.hashes.now))) (c.digest-digest.ensures ∙ ap digest c.spanned.ensures)
