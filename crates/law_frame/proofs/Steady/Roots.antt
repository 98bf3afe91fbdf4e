-- What a vat was told from the start are roots, and no vat asks for one.
use Rattle.std.proofs.Common.{◌≡◌, ℕ, zero, suc, Bool, true, false, List, [], ◌∷◌, ◌++◌, Option, Some, None, refl, sym, subst, ◌==◌}
use Rattle.def_machine.specs.Values.{Name, Root, Gift, Sent, answer_of}
use Rattle.def_machine.specs.State.{Note, Deliver, Open, Ask, SettledTo, Elsewhere, Shorten, Put, is_in}
use Rattle.def_run.specs.World as machine
use Rattle.def_run.specs.World.{Script, Program, Entry, Link, World, Goes, link_at}
use Rattle.law_fate.specs.Name.Names.{AllOf, IsMessageName}
use Rattle.law_fate.specs.Name.Runs.{KnowsOnce}
use Rattle.law_fate.proofs.Name.Facts.{all_map, all_append}
use Rattle.law_reference.specs.Reference.Logs as wire
use Rattle.law_reference.proofs.Reference.LegMoves.{opened_before, stepped_before}
use Rattle.law_reference.proofs.Reference.LegRuns.{Before, stands_of}
use Rattle.law_reference.proofs.Reference.Moves.{Moved, Still, Severs, Drops, Steps, Arrives, opened_hold, stepped_hold}
use Rattle.law_frame.proofs.Frame.LinksKnown.{AsksOwn, LinkKnown, at_link}
use Rattle.law_frame.proofs.Frame.Questions.{all_asked}
use Rattle.law_frame.proofs.Frame.WireRuns.{Wire}

abbrev pub IsRoot : Name → Type 0
IsRoot (Root v) = Unit {0}
IsRoot other = ⊥

-- ---- what links began with

abbrev pub HasRoots : Link → Type 0
HasRoots l = AllOf IsRoot l.roots

abbrev pub AllHaveRoots : World → Type 0
AllHaveRoots w = AllOf HasRoots w.links

with_link_roots : (f : Link → Link) → ((l : Link) → HasRoots l → HasRoots (f l)) → (v w : ℕ) (ls : List Link) → AllOf HasRoots ls → AllOf HasRoots (machine.with_link f v w ls)
unfolding machine.with_link
with_link_roots f g v w [] h = tt
with_link_roots f g v w (l ∷ ls) h = either (machine.is_link v w l) (g l h.0) (with_link_roots f g v w ls h.1)
  where
    either : (b : Bool) → HasRoots (f l) → AllOf HasRoots (machine.with_link f v w ls) → AllOf HasRoots (elim b [ true ↦ f l ∷ ls | false ↦ l ∷ machine.with_link f v w ls ])
    either true i j = (i, h.1)
    either false i j = (h.0, j)

pushed_roots : (n : Note Name) (l : Link) → HasRoots l → HasRoots (machine.pushed n l)
unfolding machine.pushed
pushed_roots n l h = either l.cut
  where
    either : (b : Bool) → HasRoots (elim b [ true ↦ record l { log = l.log ++ n ∷ [] } | false ↦ record l { notes = l.notes ++ n ∷ []; log = l.log ++ n ∷ [] } ])
    either true = h
    either false = h

taken_roots : (ns : List (Note Name)) (l : Link) → HasRoots l → HasRoots (machine.with_notes ns l)
unfolding machine.with_notes
taken_roots ns l h = h

severed_roots : (l : Link) → HasRoots l → HasRoots (machine.severed_link l)
unfolding machine.severed_link
severed_roots l h = h

put_roots : (v : ℕ) (ps : List (Put Name)) (ls : List Link) → AllOf HasRoots ls → AllOf HasRoots (machine.push_all v ps ls)
unfolding machine.push_all
put_roots v [] ls h = h
put_roots v (p ∷ ps) ls h = put_roots v ps (machine.with_link (machine.pushed p.note) v p.to ls) (with_link_roots (machine.pushed p.note) (pushed_roots p.note) v p.to ls h)

roots_on : (script : Script) (w y : World) → Before script w → Before script y → Moved script w y → AllHaveRoots w → AllHaveRoots y
roots_on script w y p q (Still v l d) h = subst (AllOf HasRoots) (sym l) h
roots_on script w y p q (Severs c e v l d) h = subst (AllOf HasRoots) (sym l) (with_link_roots machine.severed_link severed_roots e c (machine.with_link machine.severed_link c e w.links) (with_link_roots machine.severed_link severed_roots c e w.links h))
roots_on script w y p q (Drops c v note ns k at notes none vats links drawn) h = subst (AllOf HasRoots) (sym links) (with_link_roots (machine.with_notes ns) (taken_roots ns) c v w.links h)
roots_on script w y p q (Steps v s z t what alone d vats links drawn first fresh) h = subst (AllOf HasRoots) (sym links) (put_roots v t.outbox w.links h)
roots_on script w y p q (Arrives c v s t note ns k at cut notes d vats links drawn first fresh) h = subst (AllOf HasRoots) (sym links) (put_roots v t.outbox (machine.with_link (machine.with_notes ns) c v w.links) (with_link_roots (machine.with_notes ns) (taken_roots ns) c v w.links h))

first_roots : (v : ℕ) (p : Program) → AllOf IsRoot (machine.roots_for v p)
unfolding machine.roots_for
first_roots v p = either (is_in v p.knows)
  where
    either : (b : Bool) → AllOf IsRoot (elim b [ true ↦ Root v ∷ [] | false ↦ [] ])
    either true = (tt, tt)
    either false = tt

to_roots : (v w : ℕ) (ps : List Program) → AllOf HasRoots (machine.links_to v w ps)
unfolding machine.links_to
to_roots v w [] = tt
to_roots v w (p ∷ ps) = either (v == w) (to_roots v (suc w) ps)
  where
    either : (b : Bool) → AllOf HasRoots (machine.links_to v (suc w) ps) → AllOf HasRoots (elim b [ true ↦ machine.links_to v (suc w) ps | false ↦ record { from = v; to = w; cut = false; notes = []; roots = machine.roots_for v p; log = [] } ∷ machine.links_to v (suc w) ps ])
    either true h = h
    either false h = (first_roots v p, h)

from_roots : (all : List Program) (v : ℕ) (ps : List Program) → AllOf HasRoots (machine.links_from all v ps)
unfolding machine.links_from
from_roots all v [] = tt
from_roots all v (p ∷ ps) = all_append HasRoots (machine.links_to v zero all) (machine.links_from all (suc v) ps) (to_roots v zero all) (from_roots all (suc v) ps)

roots_first : (script : Script) → AllHaveRoots (machine.begins script)
unfolding machine.begins
roots_first script = from_roots script.vats zero script.vats

module _ (script : Script) (once : KnowsOnce script) where
  pub opened_roots : (ps rest : List Program) (w : World) → script.vats ≡ ps ++ rest → machine.open_from script zero ps (machine.begins script) ≡ Goes w → AllHaveRoots w
  opened_roots = opened_hold script (Before script) (opened_before script once) (stepped_before script once) (stands_of script) AllHaveRoots (roots_on script) (roots_first script)

  pub stepped_roots : (w x : World) (es : List Entry) (k : ℕ) → machine.open_from script zero script.vats (machine.begins script) ≡ Goes w → machine.steps_from script es k w ≡ Goes x → AllHaveRoots x
  stepped_roots = stepped_hold script (Before script) (opened_before script once) (stepped_before script once) (stands_of script) AllHaveRoots (roots_on script) (roots_first script)

-- ---- what is asked for

answer_no_root : (to : ℕ) (n : Name) → IsMessageName n → IsRoot (answer_of to n) → ⊥
unfolding answer_of
answer_no_root to (Sent m) h r = r
answer_no_root to other h r = h

gift_no_root : (to i : ℕ) (n : Name) → n ≡ Gift to i → IsRoot n → ⊥
gift_no_root to i n e r = subst IsRoot e r

asked_no_root : (to : ℕ) (log : List (Note Name)) → AllOf (AsksOwn to) log → AllOf (λ n. IsRoot n → ⊥) (wire.questions_in to log)
unfolding wire.questions_in
asked_no_root to [] h = tt
asked_no_root to (Deliver d n verb ys ∷ log) h = all_asked (λ n. IsRoot n → ⊥) d.asks (answer_of to d.message) (wire.questions_in to log) (λ e. answer_no_root to d.message h.0) (asked_no_root to log h.1)
asked_no_root to (Ask p i n ∷ log) h = (gift_no_root to i n h.0, asked_no_root to log h.1)
asked_no_root to (Open i n ∷ log) h = asked_no_root to log h.1
asked_no_root to (SettledTo n y ∷ log) h = asked_no_root to log h.1
asked_no_root to (Elsewhere n c ∷ log) h = asked_no_root to log h.1
asked_no_root to (Shorten n c i ∷ log) h = asked_no_root to log h.1

module _ (script : Script) (w : World) (wires : Wire script w) where
  pub questions_no_root : (v u : ℕ) (o : Option Link) → link_at v u w.links ≡ o → AllOf (λ n. IsRoot n → ⊥) (wire.questions_in u (wire.log_of o))
  unfolding wire.log_of wire.questions_in
  questions_no_root v u None e = tt
  questions_no_root v u (Some l) e = let a = at_link (LinkKnown w.vats) v u l w.links wires.links e in let k = a.0 in
      asked_no_root u l.log (subst (λ (z : ℕ). AllOf (AsksOwn z) l.log) a.2 (all_map (λ n i. i.0) l.log k.sent))

-- the roots of the link from one vat to another
pub roots_at : (w : World) → AllHaveRoots w → (v u : ℕ) → AllOf IsRoot (wire.roots_of (link_at v u w.links))
roots_at w h v u = by (link_at v u w.links) refl
  where
    by : (o : Option Link) → link_at v u w.links ≡ o → AllOf IsRoot (wire.roots_of o)
    by None e = unfold wire.roots_of in tt
    by (Some l) e = unfold wire.roots_of in ((at_link HasRoots v u l w.links h e).0)
