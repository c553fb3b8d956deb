-- By the peer.
use mathlib.Core.List.{[]}
use mathlib.Core.Path.{sym, ap, ◌∙◌}
use native.Mathlib.Omega.{arith}
use Rattle.link.specs.declared.list.Link.{Link}
use Rattle.queue.specs.Queue.{link_of}
use Rattle.queue.proofs.QueueLaws.{past_23, at_23, peer_facts}
use Rattle.queue_lent.specs.Words.{queue_of}
use Rattle.queue_lent.proofs.LaidLaws.{link_is}
use Rattle.queue_lent.proofs.shares.next_of.Goals as goal

pub returns-then-not-is_peer : goal.returns-then-not-is_peer
returns-then-not-is_peer c =
    let a = c.args in
    sym (at_23 a.peer (link_of (queue_of a.words.now []) a.peer).next 0 (sym c.is_peer.ensures ∙ c.if-not-is_peer.true))

pub link_of-requires : goal.link_of-requires
link_of-requires c = let f = peer_facts c.args.peer (sym c.is_peer.ensures ∙ c.if-not-is_peer.false) in (f.0, omega (arith, f.1, c.requires))

pub returns : goal.returns
returns c =
    let a = c.args in
    ap (λ (l : Link). l.next) (c.link_of.ensures ∙ sym (link_is a.words.now [] a.peer (sym c.is_peer.ensures ∙ c.if-not-is_peer.false)))
    ∙ sym (past_23 a.peer (link_of (queue_of a.words.now []) a.peer).next 0 (sym c.is_peer.ensures ∙ c.if-not-is_peer.false))
