-- In every world of a run each link leads to a vat that is there.
use Rattle.std.proofs.Common.{◌≡◌, ℕ, zero, suc, ◌<◌, List, [], ◌∷◌, Some, length, refl, sym, ap, subst, ◌∙◌, arith}
use Rattle.std.specs.Prelude.{slice_get}
use Rattle.def_machine.specs.Values.{Name, Root}
use Rattle.def_machine.specs.State.{Note, Vat}
use Rattle.def_run.specs.World as world
use Rattle.def_run.specs.World.{Script, CutLink, Link, World, Goes, link_at, put_at}
use Rattle.law_machine.specs.Run.Moves.{Moved, Still, Severs, Drops, Steps, Arrives, Hears, Tells, Nobody, AnyNotice, IsReached, went}
use Rattle.law_machine.proofs.Run.Told.{moves_told}
use Rattle.law_machine.proofs.Run.Honest.{NoDeed, NoWord, lifted}
use Rattle.law_fate.proofs.Fates.Links.{AllLead, lead_changed, lead_pushed, found_link}
use Rattle.law_fate.proofs.Fates.RunWhole.{begins_kept}

going : {x z : World} → Goes x ≡ Goes z → x ≡ z
going e = cc

put_many : (v : ℕ) (t : Vat Name) (ss : List (Vat Name)) → length (put_at v t ss) ≡ length ss
unfolding put_at
put_many v t [] = refl
put_many zero t (s ∷ ss) = refl
put_many (suc v) t (s ∷ ss) = ap suc (put_many v t ss)

there : (v : ℕ) (ss : List (Vat Name)) → v < length ss → (s : Vat Name) × (slice_get ss v ≡ Some s)
there v [] l = absurd (omega arith)
there zero (s ∷ ss) l = (s, refl)
there (suc v) (s ∷ ss) l = there v ss (omega arith)

module _ (script : Script) where
  record Led (w : World) : Type 0 where
    links : AllLead (length script.vats) w.links
    vats : length w.vats ≡ length script.vats

  taken : (ns : List (Note Name)) (a v : ℕ) (ls : List Link) → AllLead (length script.vats) ls → AllLead (length script.vats) (world.with_link (world.with_notes ns) a v ls)
  unfolding world.with_notes
  taken ns a v ls h = lead_changed (length script.vats) (world.with_notes ns) (λ l. refl) a v ls h

  severed : (a b : ℕ) (ls : List Link) → AllLead (length script.vats) ls → AllLead (length script.vats) (world.with_link world.severed_link a b ls)
  unfolding world.severed_link
  severed a b ls h = lead_changed (length script.vats) world.severed_link (λ l. refl) a b ls h

  cut_led : (w y : World) (k a b : ℕ) → Led w → world.step script (CutLink a b) k w ≡ Goes y → Led y
  unfolding world.step world.cut
  cut_led w y k a b h e = subst Led (going e) (record { links = severed b a (world.with_link world.severed_link a b w.links) (severed a b w.links h.links); vats = h.vats })

  moved_led : (w y : World) → Led w → Moved script w Nobody AnyNotice NoDeed NoWord y → Led y
  unfolding went
  moved_led w y h (Still es e) = subst Led (sym e) (record { links = h.links; vats = h.vats })
  moved_led w y h (Severs k a b e) = cut_led w y k a b h e
  moved_led w y h (Drops a v n ns l es at uncut front none e) = subst Led (sym e) (record { links = taken ns a v w.links h.links; vats = h.vats })
  moved_led w y h (Steps v s q t what head honest alone may quiet d e) = subst Led (sym e) (record { links = lead_pushed (length script.vats) v t.outbox w.links h.links; vats = put_many v t w.vats ∙ h.vats })
  moved_led w y h (Arrives a v s t n ns l k frame honest at uncut front d e) = subst Led (sym e)
      (record { links = lead_pushed (length script.vats) v t.outbox (world.with_link (world.with_notes ns) a v w.links) (taken ns a v w.links h.links); vats = put_many v t w.vats ∙ h.vats })
  moved_led w y h (Hears a v s t n ns l k frame hostile at uncut front z g e) = absurd hostile
  moved_led w y h (Tells v u s t r ds n hostile z p l o e) = absurd hostile

  begins_led : Led (world.begins script)
  begins_led = let kept = begins_kept script (Root 0) in record { links = kept.leads; vats = kept.vats }

  pub receiver : (w : World) → IsReached script w → (a b : ℕ) (l : Link) → link_at a b w.links ≡ Some l → (s : Vat Name) × (slice_get w.vats b ≡ Some s)
  receiver w r a b l e =
      let led = lifted script Nobody AnyNotice NoDeed NoWord Led begins_led (λ x y q h m. moved_led x y h (moves_told script Nobody AnyNotice NoDeed NoWord x y m)) w r in
      let low = (found_link (length script.vats) a b w.links l e led.links).0 in there b w.vats (let many = led.vats in omega arith)
