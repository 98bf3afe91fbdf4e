-- In every world of a run notes tell truly where names settled.
use Rattle.std.proofs.Common.{◌≡◌, ℕ, zero, suc, Bool, true, false, List, [], ◌∷◌, ◌++◌, Option, Some, None, refl, sym, ap, subst, ◌∙◌, ◌⊎◌, inl, inr}
use Rattle.std.specs.Prelude.{slice_get, ◌==◌}
use Rattle.def_machine.specs.Values.{Value, Ref, Name, Object, Own, Foreign, NoObject, naming, spot_of, host_of}
use Rattle.def_machine.specs.State.{Settled, Known, Note, Open, SettledTo, Elsewhere, Shorten, Put, Vat, Done, Gives}
use Rattle.def_machine.specs.Refs.{Place, Away, entry_of, standing_of, standing_in}
use Rattle.def_machine.specs.Arrive as arrive
use Rattle.def_machine.specs.Arrive.{Incoming}
use Rattle.def_run.specs.Draws.{draw_word}
use Rattle.def_run.specs.World as world
use Rattle.def_run.specs.World.{Script, Program, CutLink, Link, World, Goes, names, names_of, read_note, readied}
use Rattle.law_machine.specs.Machine.Steps.{Step, Opens, Takes, Receives, Notices, does, After}
use Rattle.law_machine.specs.Run.Moves.{Moved, Still, Severs, Drops, Steps, Arrives, Hears, Tells as Says, Nobody, AnyNotice, IsReached, Does, Begins, went}
use Rattle.law_machine.proofs.Run.Told.{moves_told}
use Rattle.law_machine.proofs.Run.Honest.{NoDeed, NoWord, lifted, honest_reached}
use Rattle.law_fate.specs.Name.Names.{AllOf, IsAmong, IsEventual, names_in}
use Rattle.law_fate.proofs.Name.Facts.{all_end}
use Rattle.law_fate.proofs.Name.Among.{all_among}
use Rattle.law_fate.proofs.Name.Laws.{names_apart}
use Rattle.law_fate.specs.Fates.Lasting.{Each, KnownWell, SettledWell, NoPromise}
use Rattle.law_fate.specs.Fates.Wellness.{WorldWell}
use Rattle.law_fate.proofs.Fates.RunWell.{runs_stay_well}
use Rattle.law_reference.proofs.Reference.VatStep.{put_here, with_link_all, link_all, link_found}
use Rattle.law_reference.proofs.Reference.Told.{found_all}
use Rattle.law_order.specs.Ordering.Settle.{IsEnded}
use Rattle.law_order.specs.Ordering.Worlds.{IsObject}
use Rattle.law_order.proofs.Ordering.Moves.{Keeps, keeps_bind, keeps_give, keeps_look}
use Rattle.law_order.proofs.Cuts.Walk.{walked_opening, walked_taking, walked_notice, walked_arrive, learning_name}
use Rattle.law_order.specs.Runs.Telling.{ElsewhereIsTrue, ToldNamesSettled}
use Rattle.law_order.proofs.Runs.Beginnings.{reached_is, none_found, named_object, each_all, object_apart, all_eventual}
use Rattle.law_order.proofs.Runs.Truths.{TellsTruly, AllTell, Lasts, Tells, HasSettled, base, quiet_out, truly_still, tells_walked}

going : {x z : World} → Goes x ≡ Goes z → x ≡ z
going e = cc

some_same : {A : Type 0} (x y : A) → Some x ≡ Some y → x ≡ y
some_same x y e = ap (λ o. elim o [ Some z ↦ z | None ↦ x ]) e

gives_after : {A : Type 0} (P : Vat Name → Vat Name → Type 0) (s t : Vat Name) (d : Done Name A) (a : A) → d ≡ Gives a t → After P s d → P s t
gives_after P s t d a e h = subst (After P s) e h

get_or : (v : ℕ) (t : Vat Name) (xs : List (Vat Name)) (u : ℕ) (q : Vat Name) → slice_get xs u ≡ Some q → (slice_get (world.put_at v t xs) u ≡ Some q) ⊎ ((u ≡ v) × (slice_get (world.put_at v t xs) u ≡ Some t))
unfolding world.put_at
get_or v t [] u q e = cc
get_or zero t (x ∷ xs) zero q e = inr (refl, refl)
get_or (suc v) t (x ∷ xs) (suc u) q e = go (get_or v t xs u q e)
  where
    go : (slice_get (world.put_at v t xs) u ≡ Some q) ⊎ ((u ≡ v) × (slice_get (world.put_at v t xs) u ≡ Some t)) → (slice_get (world.put_at v t xs) u ≡ Some q) ⊎ ((suc u ≡ suc v) × (slice_get (world.put_at v t xs) u ≡ Some t))
    go (inl i) = inl i
    go (inr i) = inr (ap suc i.0, i.1)
get_or other t (x ∷ xs) another q e = inl e

module _ (script : Script) where
  -- the note of vat u tells truly
  abbrev pub NoteTrue : List (Vat Name) → ℕ → Note Name → Type 0
  NoteTrue vats u n = (t : Vat Name) × (slice_get vats u ≡ Some t) × TellsTruly script u t.known n

  abbrev LinkTrue : List (Vat Name) → Link → Type 0
  LinkTrue vats l = AllOf (NoteTrue vats l.from) l.notes

  abbrev pub Holds : World → Type 0
  Holds w = AllOf (LinkTrue w.vats) w.links

  -- ---- a vat goes on

  module _ (vats : List (Vat Name)) (v : ℕ) (s t : Vat Name) (there : slice_get vats v ≡ Some s) (lasts : Lasts script v s t) where
    abbrev Vats : List (Vat Name)
    Vats = world.put_at v t vats

    note_get : (u : ℕ) (q : Vat Name) (n : Note Name) → slice_get vats u ≡ Some q → TellsTruly script u q.known n → (slice_get Vats u ≡ Some q) ⊎ ((u ≡ v) × (slice_get Vats u ≡ Some t)) → NoteTrue Vats u n
    note_get u q n e h (inl i) = (q, i, h)
    note_get u q n e h (inr i) =
        let same : q ≡ s = some_same q s (sym e ∙ ap (λ x. slice_get vats x) i.0 ∙ there) in
        let here : TellsTruly script v s.known n = subst (λ (x : Vat Name). TellsTruly script v x.known n) same (subst (λ x. TellsTruly script x q.known n) i.0 h) in
        (t, i.1, subst (λ x. TellsTruly script x t.known n) (sym i.0) (truly_still script v s t lasts n here))

    pub note_on : (u : ℕ) (n : Note Name) → NoteTrue vats u n → NoteTrue Vats u n
    note_on u n h = note_get u h.0 n h.1 h.2 (get_or v t vats u h.0 h.1)

    notes_on : (u : ℕ) (ns : List (Note Name)) → AllOf (NoteTrue vats u) ns → AllOf (NoteTrue Vats u) ns
    notes_on u [] h = tt
    notes_on u (n ∷ ns) h = (note_on u n h.0, notes_on u ns h.1)

    links_on : (ls : List Link) → AllOf (LinkTrue vats) ls → AllOf (LinkTrue Vats) ls
    links_on [] h = tt
    links_on (l ∷ ls) h = (notes_on l.from l.notes h.0, links_on ls h.1)

  pushed_either : (vats : List (Vat Name)) (n : Note Name) (l : Link) (b : Bool) → NoteTrue vats l.from n → LinkTrue vats l → LinkTrue vats (elim b [ true ↦ record l { log = l.log ++ n ∷ [] } | false ↦ record l { notes = l.notes ++ n ∷ []; log = l.log ++ n ∷ [] } ])
  pushed_either vats n l true h i = i
  pushed_either vats n l false h i = all_end (NoteTrue vats l.from) l.notes n i h

  pushed_true : (vats : List (Vat Name)) (n : Note Name) (l : Link) → NoteTrue vats l.from n → LinkTrue vats l → LinkTrue vats (world.pushed n l)
  unfolding world.pushed
  pushed_true vats n l h i = pushed_either vats n l l.cut h i

  pushes_true : (vats : List (Vat Name)) (v : ℕ) (ps : List (Put Name)) (ls : List Link) → AllOf (λ (p : Put Name). NoteTrue vats v p.note) ps → AllOf (LinkTrue vats) ls → AllOf (LinkTrue vats) (world.push_all v ps ls)
  unfolding world.push_all
  pushes_true vats v [] ls h i = i
  pushes_true vats v (p ∷ ps) ls h i = pushes_true vats v ps (world.with_link (world.pushed p.note) v p.to ls) h.1
      (with_link_all (LinkTrue vats) (world.pushed p.note) v p.to ls (λ l e f k. pushed_true vats p.note l (subst (λ x. NoteTrue vats x p.note) (sym e) h.0) k) i)

  -- what the vat put is of the vat as it is then
  put_true : (vats : List (Vat Name)) (v : ℕ) (t : Vat Name) → slice_get vats v ≡ Some t → (ps : List (Put Name)) → AllOf (λ (p : Put Name). TellsTruly script v t.known p.note) ps → AllOf (λ (p : Put Name). NoteTrue vats v p.note) ps
  put_true vats v t e [] h = tt
  put_true vats v t e (p ∷ ps) h = ((t, e, h.0), put_true vats v t e ps h.1)

  stepped_true : (vats : List (Vat Name)) (v : ℕ) (s t : Vat Name) (ls : List Link) → slice_get vats v ≡ Some s → Lasts script v s t → AllTell script v t → AllOf (LinkTrue vats) ls → AllOf (LinkTrue (world.put_at v t vats)) (world.push_all v t.outbox ls)
  stepped_true vats v s t ls there lasts tell h = pushes_true (world.put_at v t vats) v t.outbox ls (put_true (world.put_at v t vats) v t (put_here v t s vats there) t.outbox tell) (links_on vats v s t there lasts ls h)

  -- ---- steps

  abbrev R : ℕ → Vat Name → Vat Name → Type 0
  R v = Tells script v

  shortening_to : (v j : ℕ) (p : Place Name) → Keeps (R v) (arrive.shorten_to (names script v) j p)
  unfolding arrive.shorten_to
  shortening_to v j (Away h n true) = quiet_out script v h (Open j n) (λ ks. tt)
  shortening_to v j other = keeps_give (R v) (base script v) tt

  arriving_shorten : (v j : ℕ) (z : Incoming Name Name) → Keeps (R v) (arrive.arrive_shorten (names script v) z j)
  unfolding arrive.arrive_shorten
  arriving_shorten v j z = keeps_bind (R v) (base script v) (learning_name (names script v) (R v) (HasSettled script v) (tells_walked script v) z) (λ n. keeps_bind (R v) (base script v) (keeps_look (R v) (base script v) _) (λ p. shortening_to v j p))

  arriving : (v from : ℕ) (n : Note (Incoming Name Name)) → Keeps (R v) (arrive.arrive (names script v) from n)
  unfolding arrive.arrive arrive.arrive_shorten
  arriving v from (Shorten z c j) = arriving_shorten v j z
  arriving v from other = walked_arrive (names script v) (R v) (HasSettled script v) (tells_walked script v) from other tt

  pub steps_tell : (v : ℕ) (what : Step Name Name) (s : Vat Name) → After (R v) s (does (names script v) what s)
  unfolding does
  steps_tell v (Opens tree depth root given) s = (walked_opening (names script v) (R v) (HasSettled script v) (tells_walked script v) tree depth root given).after s
  steps_tell v (Takes tree depth n) s = (walked_taking (names script v) (R v) (HasSettled script v) (tells_walked script v) tree depth n).after s
  steps_tell v (Receives from n) s = (arriving v from n).after s
  steps_tell v (Notices w) s = (walked_notice (names script v) (R v) (HasSettled script v) (tells_walked script v) w).after s

  same_known : (w : World) (v : ℕ) (s q : Vat Name) (what : Step Name Name) → Begins script w v s q what → q.known ≡ s.known
  same_known w v s q (Receives from n) h = ap (λ (x : Vat Name). x.known) h
  same_known w v s q (Notices u) h = ap (λ (x : Vat Name). x.known) h
  same_known w v s q other h = ap (λ (x : Vat Name). x.known) h.2

  -- from the state that is readied
  lasts_from : (w : World) (v : ℕ) (s q t : Vat Name) → q.known ≡ s.known → Lasts script v (readied w q) t → Lasts script v s t
  unfolding readied
  lasts_from w v s q t e h = record { stays = λ n k y f i. h.stays n k y (ap (λ ks. entry_of (names script v) ks n) e ∙ f) i; known = λ n f. sym (ap (λ ks. entry_of (names script v) ks n) e) ∙ h.known n f }

  tell_from : (w : World) (v : ℕ) (q t : Vat Name) → Tells script v (readied w q) t → AllTell script v t
  unfolding readied
  tell_from w v q t h = h.tells tt

  does_tell : (w : World) (v : ℕ) (s q t : Vat Name) (what : Step Name Name) → Does script w v s q t what → R v (readied w q) t
  does_tell w v s q t what d = gives_after (R v) (readied w q) t (does (names script v) what (readied w q)) tt d.gives (steps_tell v what (readied w q))

  stepped : (w : World) (v : ℕ) (s q t : Vat Name) (what : Step Name Name) (ls : List Link) → Does script w v s q t what → AllOf (LinkTrue w.vats) ls → AllOf (LinkTrue (world.put_at v t w.vats)) (world.push_all v t.outbox ls)
  stepped w v s q t what ls d h = let r = does_tell w v s q t what d in stepped_true w.vats v s t ls d.there (lasts_from w v s q t (same_known w v s q what d.begins) r.lasts) (tell_from w v q t r) h

  -- ---- moves

  taken : (vats : List (Vat Name)) (a b : ℕ) (ls : List Link) (l : Link) (n : Note Name) (ns : List (Note Name)) → world.link_at a b ls ≡ Some l → l.notes ≡ n ∷ ns → AllOf (LinkTrue vats) ls → AllOf (LinkTrue vats) (world.with_link (world.with_notes ns) a b ls)
  unfolding world.with_notes
  taken vats a b ls l n ns e f h =
      let all : AllOf (NoteTrue vats l.from) (n ∷ ns) = subst (λ ms. AllOf (NoteTrue vats l.from) ms) f (link_all (LinkTrue vats) a b ls l h e) in
      let rest : AllOf (NoteTrue vats a) ns = subst (λ x. AllOf (NoteTrue vats x) ns) (link_found a b ls l e).0 all.1 in
      with_link_all (LinkTrue vats) (world.with_notes ns) a b ls (λ j g i k. subst (λ x. AllOf (NoteTrue vats x) ns) (sym g) rest) h

  severed : (vats : List (Vat Name)) (a b : ℕ) (ls : List Link) → AllOf (LinkTrue vats) ls → AllOf (LinkTrue vats) (world.with_link world.severed_link a b ls)
  unfolding world.severed_link
  severed vats a b ls h = with_link_all (LinkTrue vats) world.severed_link a b ls (λ l e f i. tt) h

  cut_holds : (w y : World) (k a b : ℕ) → Holds w → world.step script (CutLink a b) k w ≡ Goes y → Holds y
  unfolding world.step world.cut
  cut_holds w y k a b h e = subst Holds (going e) (severed w.vats b a (world.with_link world.severed_link a b w.links) (severed w.vats a b w.links h))

  moved_holds : (w y : World) → Holds w → Moved script w Nobody AnyNotice NoDeed NoWord y → Holds y
  unfolding went
  moved_holds w y h (Still es e) = subst Holds (sym e) h
  moved_holds w y h (Severs k a b e) = cut_holds w y k a b h e
  moved_holds w y h (Drops a v n ns l es at uncut front none e) = subst Holds (sym e) (taken w.vats a v w.links l n ns at front h)
  moved_holds w y h (Steps v s q t what head honest alone may quiet d e) = subst Holds (sym e) (stepped w v s q t what w.links d h)
  moved_holds w y h (Arrives a v s t n ns l k frame honest at uncut front d e) = subst Holds (sym e) (stepped w v s s t (Receives a (read_note (names_of s) n)) (world.with_link (world.with_notes ns) a v w.links) d (taken w.vats a v w.links l n ns at front h))
  moved_holds w y h (Hears a v s t n ns l k frame hostile at uncut front there g e) = absurd hostile
  moved_holds w y h (Says v u s t r ds n hostile there p l o e) = absurd hostile

  -- ---- the start

  links_to_true : (vats : List (Vat Name)) (v h : ℕ) (ps : List Program) → AllOf (LinkTrue vats) (world.links_to v h ps)
  unfolding world.links_to
  links_to_true vats v h [] = tt
  links_to_true vats v h (p ∷ ps) = go (v == h) (links_to_true vats v (suc h) ps)
    where
      go : (b : Bool) → AllOf (LinkTrue vats) (world.links_to v (suc h) ps) → AllOf (LinkTrue vats) (elim b [
        | true ↦ world.links_to v (suc h) ps
        | false ↦ record { from = v; to = h; cut = false; notes = []; roots = world.roots_for v p; log = [] } ∷ world.links_to v (suc h) ps
      ])
      go true i = i
      go false i = (tt, i)

  all_both : (P : Link → Type 0) (xs ys : List Link) → AllOf P xs → AllOf P ys → AllOf P (xs ++ ys)
  all_both P [] ys h i = i
  all_both P (x ∷ xs) ys h i = (h.0, all_both P xs ys h.1 i)

  links_from_true : (vats : List (Vat Name)) (all : List Program) (v : ℕ) (ps : List Program) → AllOf (LinkTrue vats) (world.links_from all v ps)
  unfolding world.links_from
  links_from_true vats all v [] = tt
  links_from_true vats all v (p ∷ ps) = all_both (LinkTrue vats) (world.links_to v zero all) (world.links_from all (suc v) ps) (links_to_true vats v zero all) (links_from_true vats all (suc v) ps)

  begins_holds : Holds (world.begins script)
  unfolding world.begins
  begins_holds = links_from_true (world.fresh_from script zero script.vats) script.vats zero script.vats

  pub reached_holds : (w : World) → IsReached script w → Holds w
  reached_holds w r = lifted script Nobody AnyNotice NoDeed NoWord Holds begins_holds (λ x y q h m. moved_holds x y h (moves_told script Nobody AnyNotice NoDeed NoWord x y m)) w r

  pub note_in : (w : World) (u v : ℕ) (l : Link) (n : Note Name) → Holds w → world.link_at u v w.links ≡ Some l → IsAmong n l.notes → NoteTrue w.vats u n
  note_in w u v l n h e a = subst (λ x. NoteTrue w.vats x n) (link_found u v w.links l e).0 (all_among (NoteTrue w.vats l.from) l.notes n (link_all (LinkTrue w.vats) u v w.links l h e) a)

  -- ---- an object of that vat

  own_foreign : (i c : ℕ) → Own i ≡ Foreign c → ⊥
  own_foreign i c e = cc

  none_foreign : (c : ℕ) → NoObject ≡ Foreign c → ⊥
  none_foreign c e = cc

  foreign_same : (w c : ℕ) → Foreign w ≡ Foreign c → w ≡ c
  foreign_same w c e = cc

  spot_if : (b : Bool) (w i c : ℕ) → elim b [ true ↦ Own i | false ↦ Foreign w ] ≡ Foreign c → w ≡ c
  spot_if true w i c e = absurd (own_foreign i c e)
  spot_if false w i c e = foreign_same w c e

  spot_host : (u : ℕ) (o : Name) (c : ℕ) → spot_of u o ≡ Foreign c → IsObject o × (host_of o ≡ c)
  unfolding spot_of host_of
  spot_host u (Object w i) c e = (tt, spot_if (u == w) w i c e)
  spot_host u other c e = absurd (none_foreign c e)

  ended : (u : ℕ) (z : Value Name) → NoPromise z → IsEnded z
  ended u (Ref n) h = named_object script u n h
  ended u other h = tt

  settled_well : (u : ℕ) (s : Vat Name) (n : Name) (z : Value Name) (o : Option (Known Name)) → Each KnownWell s.known → entry_of (names script u) s.known n ≡ o → standing_in o ≡ Settled z → NoPromise z
  unfolding standing_in names
  settled_well u s n z None well e f = cc
  settled_well u s n z (Some k) well e f = subst SettledWell f (found_all (draw_word script.key) u KnownWell s.known n k (each_all KnownWell s.known well) e).standing

  pub elsewhere_in : (w : World) (u : ℕ) (n : Name) (c : ℕ) → NoteTrue w.vats u (Elsewhere n c) → ((s : Vat Name) → slice_get w.vats u ≡ Some s → Each KnownWell s.known × AllOf IsEventual (names_in s.known))
      → (s : Vat Name) × (slice_get w.vats u ≡ Some s) × (o : Name) × (standing_of (names script u) s.known n ≡ Settled (Ref o)) × IsObject o × (host_of o ≡ c)
  unfolding names standing_of spot_of naming
  elsewhere_in w u n c h f =
      let s : Vat Name = h.0 in let z : Value Name = h.2.0 in let had = f s h.1 in
      let plain : IsEnded z = ended u z (settled_well u s n z (entry_of (names script u) s.known n) had.0 refl h.2.1) in
      let found = h.2.2 plain (λ o e. none_found script u s.known o (λ a. object_apart o (subst IsEnded e plain) (all_eventual s.known o had.1 a))) in
      let spot = spot_host u found.0 c found.2 in
      (s, h.1, found.0, h.2.1 ∙ ap (λ x. Settled x) found.1, spot.0, spot.1)

pub elsewhere_is_true : ElsewhereIsTrue
elsewhere_is_true script once = (
  λ ps rest w i e u v l n c at a. elsewhere_in script w u n c (note_in script w u v l (Elsewhere n c) (reached_holds script w ((honest_reached script).0 ps rest w i e)) at a)
      (λ s there. ((reached_is WorldWell _ w e ((runs_stay_well script).0 ps)).vats u s there, ((names_apart script once).0 ps rest w i e u s there).0)),
  λ w x es k o e u v l n c at a. elsewhere_in script x u n c (note_in script x u v l (Elsewhere n c) (reached_holds script x ((honest_reached script).1 w x es k o e)) at a)
      (λ s there. ((reached_is WorldWell _ x e ((runs_stay_well script).1 w es k o)).vats u s there, ((names_apart script once).1 w x es k o e u s there).0)),
)

pub told_names_settled : ToldNamesSettled
told_names_settled script once = (
  λ ps rest w i e u v l n y at a. let h = note_in script w u v l (SettledTo n y) (reached_holds script w ((honest_reached script).0 ps rest w i e)) at a in (h.0, h.1, h.2.0, h.2.1),
  λ w x es k o e u v l n y at a. let h = note_in script x u v l (SettledTo n y) (reached_holds script x ((honest_reached script).1 w x es k o e)) at a in (h.0, h.1, h.2.0, h.2.1),
)
