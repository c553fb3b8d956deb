use Prim.Native.Nat.{ℕ}
use mathlib.Core.Path.{sym, ap, ◌∙◌}
use native.Mathlib.Omega.{arith}
use Rattle.want.specs.Listing.{has_there, block_with}
use Rattle.want.specs.Steps.Blocks.{blocks_from}
use Rattle.want.proofs.ThereLaws.{listed_marked, lists_none, lists_by_lem}
use Rattle.want.proofs.places.lists_at.Goals as goal

pub returns-in_default : goal.returns-in_default
returns-in_default c = let s = c.args in lists_none s.name.now s.t.now s.at c.outline_at.ensures s.offset (block_with s.size s.hash.now) c.in_default.is

pub returns-then-not-is_eq : goal.returns-then-not-is_eq
returns-then-not-is_eq c = let s = c.args in lists_by_lem s.name.now s.t.now s.at c.outline_at.ensures c.in-Some.is c.part.ensures c.compare_bytes.ensures c.is_eq.ensures s.offset (block_with s.size s.hash.now) c.if-not-is_eq.true

pub has_there-requires : goal.has_there-requires
has_there-requires c = let s = c.args in (listed_marked s.t.now s.at c.in-Some.f c.outline_at.ensures c.in-Some.is c.listed.ensures).within

pub returns : goal.returns
returns c =
    let s = c.args in
    let b = block_with s.size s.hash.now in
    let f = c.in-Some.f in
    c.has_there.ensures
    ∙ sym ((listed_marked s.t.now s.at f c.outline_at.ensures c.in-Some.is c.listed.ensures).told s.offset b (omega arith))
    ∙ ap (λ (n : ℕ). has_there 0 (blocks_from s.t.now f.first 0 n) s.offset b) c.listed.ensures
    ∙ lists_by_lem s.name.now s.t.now s.at c.outline_at.ensures c.in-Some.is c.part.ensures c.compare_bytes.ensures c.is_eq.ensures s.offset b c.if-not-is_eq.false
