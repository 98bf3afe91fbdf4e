-- Each object of another vat that a vat has was told to it in a note that has arrived.
use Rattle.std.proofs.Common.{◌≡◌, ℕ, zero, suc, map, List, [], ◌∷◌, ◌++◌, Some, sym, ap, subst, ◌∙◌, ◌⊎◌, inl, inr, false}
use Rattle.std.specs.Prelude.{slice_get}
use Rattle.def_machine.specs.Values.{Name, Root, Object, host_of}
use Rattle.def_machine.specs.State.{Note, Deliver, Vat, begun}
use Rattle.law_machine.specs.Machine.Steps.{Step, Receives}
use Rattle.def_run.specs.Draws.{draw_word}
use Rattle.def_run.specs.World as world
use Rattle.def_run.specs.World.{Script, Program, Link, World, names_of, read_note, put_at, push_all, with_link, with_notes, link_at}
use Rattle.law_fate.specs.Name.Names.{Named, AllOf, IsAmong, NounOk, KnownOk}
use Rattle.law_fate.proofs.Name.Facts.{Nothing}
use Rattle.law_fate.proofs.Name.Care.{parts_up}
use Rattle.law_reference.proofs.Reference.Follow.{put_cases}
use Rattle.law_reference.proofs.Reference.Moves.{Moved, Still, Severs, Drops, Steps, Arrives, IsAlone, Does}
use Rattle.law_reference.proofs.Reference.ApartSteps.{does_sound, arrives_sound}
use Rattle.law_frame.specs.Frame.Asked.{told_in}
use Rattle.law_frame.specs.Frame.Tables.{arrived}
use Rattle.law_frame.proofs.Frame.ArriveAsking.{MailFits}
use Rattle.law_frame.proofs.Frame.LinksKnown.{AsksOwn, at_link}
use Rattle.law_frame.proofs.Frame.LinksGo.{Splits, LinksGo, Stays, with_link_here, taken_arrived}
use Rattle.law_frame.proofs.Frame.Objects.{OwnOrTold, Handed, AllHanded, Hands, handed_up, under, makes, nouns_handed, arrive_handed}
use Rattle.law_frame.proofs.Frame.Sources.{OfEither, push_all_goes, take_goes, take_splits, waiting_logged}
use Rattle.law_reference.proofs.Reference.LinksCut.{fits_notes}
use Rattle.law_frame.proofs.Heard.Moves.{goes_of}
use Rattle.law_frame.proofs.Heard.Pending.{Facts, splits, sent, told_of}

-- its host told it to vat v in a note that has arrived, if that link is not cut
abbrev pub ToldHere : List Link → ℕ → Name → Type 0
ToldHere ls v n = (l : Link) → link_at (host_of n) v ls ≡ Some l → l.cut ≡ false → (x : Note Name) × IsAmong x (arrived (Some l)) × IsAmong n (told_in x)

here_on : (ls ks : List Link) → LinksGo ls ks → (v : ℕ) (n : Name) → ToldHere ls v n → ToldHere ks v n
here_on ls ks g v n f l e c = let was = g (host_of n) v l e in let goes = was.2 in let t = f was.0 was.1 (goes.uncut c) in (t.0, goes.arrivals c t.0 t.1, t.2)

abbrev pub VatsHere : List (Vat Name) → List Link → Type 0
VatsHere vats ls = (v : ℕ) (s : Vat Name) → slice_get vats v ≡ Some s → AllHanded v (ToldHere ls v) s

vat_on : (ls ks : List Link) → LinksGo ls ks → (v : ℕ) (s : Vat Name) → AllHanded v (ToldHere ls v) s → AllHanded v (ToldHere ks v) s
vat_on ls ks g v s h = parts_up (Handed v (ToldHere ls v)) (Handed v (ToldHere ks v)) (handed_up v (ToldHere ls v) (ToldHere ks v) (here_on ls ks g v)) s.things s.slots s.lists s.queue s.known s.gifts s.outbox h

vats_on : (vats : List (Vat Name)) (ls ks : List Link) → LinksGo ls ks → VatsHere vats ls → VatsHere vats ks
vats_on vats ls ks g h v s e = vat_on ls ks g v s (h v s e)

here_put : (us : List (Vat Name)) (ls : List Link) (v : ℕ) (t : Vat Name) → VatsHere us ls → AllHanded v (ToldHere ls v) t → VatsHere (put_at v t us) ls
here_put us ls v t h g u r e = go (put_cases v t us u r e)
  where
    go : ((u ≡ v) × (t ≡ r)) ⊎ ((u ≡ v → ⊥) × (slice_get us u ≡ Some r)) → AllHanded u (ToldHere ls u) r
    go (inl i) = subst (λ (q : Vat Name). AllHanded u (ToldHere ls u) q) i.1 (subst (λ (z : ℕ). AllHanded z (ToldHere ls z) t) (sym i.0) g)
    go (inr i) = h u r i.1

mail_of : (v : ℕ) (n : Note Name) → AsksOwn v n → MailFits n
mail_of v (Deliver d x verb ys) h = h
mail_of v other h = tt

module _ (script : Script) where
  roots : (v : ℕ) (T : Name → Type 0) (p : Program) → slice_get script.vats v ≡ Some p → Handed v T (Named (Root v)) × AllOf (NounOk (Handed v T)) (world.given script.vats p.knows)
  roots v T p e = (tt, nouns_handed v T script.vats p.knows)

  module _ (w y : World) (f : Facts script w) (h : VatsHere w.vats w.links) where
    alone_here : (v : ℕ) (s q t : Vat Name) (what : Step Name Name) → IsAlone what → Does script w v s q t what → VatsHere (put_at v t w.vats) (push_all v t.outbox w.links)
    alone_here v s q t what o d = let T = ToldHere w.links v in let after = push_all v t.outbox w.links in let goes = push_all_goes v t.outbox w.links (splits script w f) in
        let sound = does_sound script w v s (Hands v T) (under v T (draw_word script.key)) (makes v T (draw_word script.key)) (Handed v T) (h v s d.there) (λ qs b k. k) (λ qs. tt) (roots v T) q t what o d in
        here_put w.vats after v t (vats_on w.vats w.links after goes h) (vat_on w.links after goes v t sound.parts)

    module _ (a v : ℕ) (s t : Vat Name) (n : Note Name) (ns : List (Note Name)) (l : Link) (at : link_at a v w.links ≡ Some l) (uncut : l.cut ≡ false) (notes : l.notes ≡ n ∷ ns) (d : Does script w v s s t (Receives a (read_note (names_of s) n))) where
      abbrev Taken : List Link
      Taken = with_link (with_notes ns) a v w.links

      split : (front : List (Note Name)) × (l.log ≡ front ++ l.notes)
      split = let k = at_link Splits a v l w.links (splits script w f) at in k.0 uncut

      logged : IsAmong n l.log
      logged = waiting_logged n ns l notes split

      some_is : (p q : Link) → Some p ≡ Some q → p ≡ q
      some_is p q e = cc

      stays : Stays (with_notes ns)
      stays b c j = let fits = fits_notes b c ns in fits.place b c j

      told_here : (z : Name) → host_of z ≡ a → IsAmong z (told_in n) → ToldHere Taken v z
      told_here z e b j i c = let here = with_link_here (with_notes ns) stays a v w.links j (subst (λ (p : ℕ). link_at p v Taken ≡ Some j) e i) in
          (n, subst (λ (k : Link). IsAmong n (arrived (Some k))) (sym (here.2 ∙ ap (with_notes ns) (some_is here.0 l (sym here.1 ∙ at)))) (taken_arrived n ns l notes (at_link Splits a v l w.links (splits script w f) at).0 uncut), b)

      told_or : (z : Name) → OfEither a v z → IsAmong z (told_in n) → OwnOrTold v (ToldHere Taken v) z
      unfolding host_of
      told_or (Object c i) (inl e) b = inr (told_here (Object c i) e b)
      told_or (Object c i) (inr e) b = inl e
      told_or other e b = tt

      arrives_here : VatsHere (put_at v t w.vats) (push_all v t.outbox Taken)
      arrives_here = let T = ToldHere Taken v in let after = push_all v t.outbox Taken in let first = take_goes n ns a v l w.links at notes (splits script w f) in let goes = push_all_goes v t.outbox Taken (take_splits n ns a v l w.links at notes (splits script w f)) in
          let own = sent script w f a v l at n logged in let all = vats_on w.vats w.links Taken first h in
          let sound = arrives_sound script w v s (Hands v T) (under v T (draw_word script.key)) (makes v T (draw_word script.key)) (Handed v T) (all v s d.there) (λ qs b k. k) (λ qs. tt) (roots v T) t a n Nothing
          (arrive_handed v T (draw_word script.key) a (names_of s) n (mail_of v n own.0) (λ z b. told_or z (told_of script w f a v l at n logged z b) b)) tt d in
          here_put w.vats after v t (vats_on w.vats Taken after goes all) (vat_on Taken after goes v t sound.parts)

  pub here_moved : (w y : World) → Facts script w → Facts script y → Moved script w y → VatsHere w.vats w.links → VatsHere y.vats y.links
  here_moved w y f g (Still v l d) h = rw (v, l) h
  here_moved w y f g (Severs a b v l d) h = let goes = goes_of script w y (splits script w f) (Severs a b v l d) in rw v (vats_on w.vats w.links y.links goes h)
  here_moved w y f g (Drops a v n ns l at notes none vats links drawn) h = let goes = goes_of script w y (splits script w f) (Drops a v n ns l at notes none vats links drawn) in rw vats (vats_on w.vats w.links y.links goes h)
  here_moved w y f g (Steps v s q t what alone d vats links drawn first fresh) h = rw (vats, links) (alone_here w y f h v s q t what alone d)
  here_moved w y f g (Arrives a v s t n ns l at cut notes d vats links drawn first fresh) h = rw (vats, links) (arrives_here w y f h a v s t n ns l at cut notes d)

  -- ---- the start

  all_of : (b : List ℕ) → AllOf (λ (w : ℕ). Unit {0}) b
  all_of [] = tt
  all_of (w ∷ ws) = (tt, all_of ws)

  roots_handed : (v : ℕ) (T : Name → Type 0) (us : List ℕ) → AllOf (KnownOk (Handed v T)) (map world.known_root us)
  unfolding world.known_root begun
  roots_handed v T [] = tt
  roots_handed v T (u ∷ us) = ((tt, tt, tt, tt, tt, tt), roots_handed v T us)

  fresh_all : (v : ℕ) (T : Name → Type 0) (u : ℕ) (p : Program) → AllHanded v T (world.fresh script u p)
  unfolding world.fresh world.known_root begun
  fresh_all v T u p = record { things = tt; slots = tt; lists = tt; queue = tt; known = ((tt, tt, tt, tt, tt, all_of (world.knowers u zero script.vats)), roots_handed v T p.knows); gifts = tt; outbox = tt }

  fresh_here : (v : ℕ) (T : Name → Type 0) (u : ℕ) (ps : List Program) (n : ℕ) (s : Vat Name) → slice_get (world.fresh_from script u ps) n ≡ Some s → AllHanded v T s
  unfolding world.fresh_from
  fresh_here v T u [] n s e = cc
  fresh_here v T u (p ∷ ps) zero s e = subst (λ (z : Vat Name). AllHanded v T z) (let same : world.fresh script u p ≡ s = cc in same) (fresh_all v T u p)
  fresh_here v T u (p ∷ ps) (suc n) s e = fresh_here v T (suc u) ps n s e

  pub begins_here : (let w = world.begins script in VatsHere w.vats w.links)
  unfolding world.begins
  begins_here v s e = fresh_here v (ToldHere (world.links_from script.vats zero script.vats) v) zero script.vats v s e
