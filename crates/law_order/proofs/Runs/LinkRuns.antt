-- In every world of a run there is a link from each vat of the script to each other.
use Rattle.std.proofs.Common.{◌≡◌, ℕ, List, length, refl, sym, subst}
use Rattle.def_run.specs.World as world
use Rattle.def_run.specs.World.{Script, CutLink, Link, World, Goes}
use Rattle.law_machine.specs.Run.Moves.{Moved, Still, Severs, Drops, Steps, Arrives, Hears, Tells, Nobody, AnyNotice, IsReached, went}
use Rattle.law_machine.proofs.Run.Told.{moves_told}
use Rattle.law_machine.proofs.Run.Honest.{NoDeed, NoWord, lifted}
use Rattle.law_fate.proofs.Fates.Links.{AllLinked, linked_changed, linked_pushed, begin_linked}

going : {x z : World} → Goes x ≡ Goes z → x ≡ z
going e = cc

module _ (script : Script) where
  abbrev Linked : List Link → Type 0
  Linked ls = AllLinked (length script.vats) ls

  taken : (ns : List _) (a v : ℕ) (ls : List Link) → Linked ls → Linked (world.with_link (world.with_notes ns) a v ls)
  unfolding world.with_notes world.is_link
  taken ns a v ls h b c i j f = linked_changed (world.with_notes ns) (λ d e l. refl) b c a v ls (h b c i j f)

  severed : (a b : ℕ) (ls : List Link) → Linked ls → Linked (world.with_link world.severed_link a b ls)
  unfolding world.severed_link world.is_link
  severed a b ls h c d i j f = linked_changed world.severed_link (λ e g l. refl) c d a b ls (h c d i j f)

  cut_linked : (w y : World) (k a b : ℕ) → Linked w.links → world.step script (CutLink a b) k w ≡ Goes y → Linked y.links
  unfolding world.step world.cut
  cut_linked w y k a b h e = subst (λ (z : World). Linked z.links) (going e) (severed b a (world.with_link world.severed_link a b w.links) (severed a b w.links h))

  moved_linked : (w y : World) → Linked w.links → Moved script w Nobody AnyNotice NoDeed NoWord y → Linked y.links
  unfolding went
  moved_linked w y h (Still es e) = subst (λ (z : World). Linked z.links) (sym e) h
  moved_linked w y h (Severs k a b e) = cut_linked w y k a b h e
  moved_linked w y h (Drops a v n ns l es at uncut front none e) = subst (λ (z : World). Linked z.links) (sym e) (taken ns a v w.links h)
  moved_linked w y h (Steps v s q t what head honest alone may quiet d e) = subst (λ (z : World). Linked z.links) (sym e) (λ a b i j f. linked_pushed a b v t.outbox w.links (h a b i j f))
  moved_linked w y h (Arrives a v s t n ns l k frame honest at uncut front d e) = subst (λ (z : World). Linked z.links) (sym e)
      (λ b c i j f. linked_pushed b c v t.outbox (world.with_link (world.with_notes ns) a v w.links) (taken ns a v w.links h b c i j f))
  moved_linked w y h (Hears a v s t n ns l k frame hostile at uncut front there g e) = absurd hostile
  moved_linked w y h (Tells v u s t r ds n hostile there p l o e) = absurd hostile

  begins_linked : Linked (world.begins script).links
  unfolding world.begins
  begins_linked = begin_linked script.vats

  pub reached_linked : (w : World) → IsReached script w → AllLinked (length script.vats) w.links
  reached_linked w r = lifted script Nobody AnyNotice NoDeed NoWord (λ z. Linked z.links) begins_linked (λ x y q h m. moved_linked x y h (moves_told script Nobody AnyNotice NoDeed NoWord x y m)) w r
