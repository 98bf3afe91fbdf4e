-- The links so far and then the rest are all.
use Rattle.std.proofs.Common.{◌≡◌, drop}
use Rattle.ev_links.specs.Links.{with_others}
use Rattle.ev_links.proofs.links.add_others.Given as goal

abbrev pub invariant-loop-link : goal.invariant-loop-link
invariant-loop-link l = with_others l.scope l.set.keys (drop l.link-index l.links) ≡ with_others l.scope l.fn.set.keys l.links
