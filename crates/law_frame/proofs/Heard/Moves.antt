-- How the links of a world go on by each move.
use Rattle.std.proofs.Common.{List, [], ◌∷◌, sym, subst}
use Rattle.def_run.specs.World as world
use Rattle.def_run.specs.World.{Script, Link, World, with_link, with_notes, severed_link}
use Rattle.law_fate.specs.Name.Names.{AllOf}
use Rattle.law_reference.proofs.Reference.Moves.{Moved, Still, Severs, Drops, Steps, Arrives}
use Rattle.law_frame.proofs.Frame.LinksGo.{Splits, LinkGoes, LinksGo, links_same, links_on, with_link_goes, severed_goes}
use Rattle.law_frame.proofs.Frame.Sources.{severed_stay, push_all_goes, take_goes, take_splits}

every : {A : Type 0} (P : A → Type 0) → ((a : A) → P a) → (xs : List A) → AllOf P xs
every P f [] = tt
every P f (x ∷ xs) = (f x, every P f xs)

-- each link after was there before, and has forgotten nothing
pub goes_of : (script : Script) (w y : World) → AllOf Splits w.links → Moved script w y → LinksGo w.links y.links
goes_of script w y splits (Still v l d) = subst (λ ks. LinksGo w.links ks) (sym l) (links_same w.links)
goes_of script w y splits (Severs a b v l d) = let one = with_link severed_link a b w.links in subst (λ ks. LinksGo w.links ks) (sym l)
    (links_on w.links one (with_link severed_link b a one) (with_link_goes severed_link severed_stay a b w.links (every (λ (l : Link). LinkGoes l (severed_link l)) severed_goes w.links)) (with_link_goes severed_link severed_stay b a one (every (λ (l : Link). LinkGoes l (severed_link l)) severed_goes one)))
goes_of script w y splits (Drops a v n ns l at notes none vats links drawn) = subst (λ ks. LinksGo w.links ks) (sym links) (take_goes n ns a v l w.links at notes splits)
goes_of script w y splits (Steps v s q t what alone d vats links drawn first fresh) = subst (λ ks. LinksGo w.links ks) (sym links) (push_all_goes v t.outbox w.links splits)
goes_of script w y splits (Arrives a v s t n ns l at cut notes d vats links drawn first fresh) = let taken = with_link (with_notes ns) a v w.links in subst (λ ks. LinksGo w.links ks) (sym links)
    (links_on w.links taken (world.push_all v t.outbox taken) (take_goes n ns a v l w.links at notes splits) (push_all_goes v t.outbox taken (take_splits n ns a v l w.links at notes splits)))
