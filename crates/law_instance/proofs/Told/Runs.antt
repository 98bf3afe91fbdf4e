-- In every run a name of another vat, of which a vat was told nothing yet, neither waits there nor is viewed, and did not settle; and a gift is not opened there for which no note that opens it has come from its provider.
use Rattle.std.proofs.Common.{◌≡◌, ℕ, zero, suc, ◌+◌, ◌≤◌, Bool, true, false, List, [], ◌∷◌, ◌++◌, Option, Some, arith, refl, sym, ap, subst, ◌∙◌, ◌⊎◌, inl, inr, map}
use Rattle.std.specs.Prelude.{slice_get}
use Rattle.def_machine.specs.Values.{Name, Root, Promise, Answer, Gift, Msg, naming, host_of}
use Rattle.def_machine.specs.State.{Unsettled, Note, Deliver, Open, SettledTo, Elsewhere, Vat, Gives, begun, is_in}
use Rattle.law_machine.specs.Machine.Steps.{Step, Receives, Notices, does}
use Rattle.def_machine.specs.Refs.{standing_of}
use Rattle.def_run.specs.Draws.{draw_word}
use Rattle.def_run.specs.World as world
use Rattle.def_run.specs.World.{Script, Program, Entry, Link, World, Goes as Going, link_at, with_notes, put_at, push_all, names_of, read_note}
use Rattle.law_fate.specs.Name.Names.{AllOf, IsAmong, HostIsTrue, Once, NoteOk}
use Rattle.law_fate.specs.Name.Runs.{KnowsOnce}
use Rattle.law_frozen.specs.Frozen.{AllOf as EachOf, NotePasses}
use Rattle.law_frozen.proofs.Fine.{MayBe as Maybe}
use Rattle.law_frozen.proofs.RunSound.{WorldSound, LinkPasses, link_passes, begins_sound, opens_sound, steps_sound}
use Rattle.law_reference.specs.Reference.Cuts.{NoticesFollowCuts}
use Rattle.law_reference.specs.Reference.ListRingless.{told_name}
use Rattle.law_reference.specs.Reference.Notes.{IsBetween}
use Rattle.law_reference.proofs.Reference.Follow.{put_cases}
use Rattle.law_reference.proofs.Reference.LegRuns.{MailBits, Before, first_mails}
use Rattle.law_reference.proofs.Reference.LinksCut.{fits_notes}
use Rattle.law_reference.proofs.Reference.Moves.{Moved, Still, Severs, Drops, Steps, Arrives, Does}
use Rattle.law_reference.proofs.Reference.OwnRuns.{begins_own}
use Rattle.law_reference.proofs.Reference.Told.{told_is}
use Rattle.law_frame.specs.Frame.Tables.{arrived}
use Rattle.law_frame.proofs.Frame.LinksGo.{Splits, FoundFrom, Stays, with_link_here, taken_arrived}
use Rattle.law_frame.proofs.Frame.LinksKnown.{at_link}
use Rattle.law_frame.proofs.Frame.Sources.{push_all_goes, take_splits, waiting_logged}
use Rattle.law_frame.proofs.Frame.WireArrivals.{arrived_is}
use Rattle.law_instance.proofs.Told.Found.{kept_more, unsettled, unopened}
use Rattle.law_instance.proofs.Told.Keeps.{alone_kept, arrive_kept}
use Rattle.law_instance.proofs.Told.Kept.{Rule, Entry as Fits, Kept}
use Rattle.law_instance.proofs.Told.Rests as rests
use Rattle.law_frame.proofs.Heard.Lift.{opened_holds, stepped_holds}
use Rattle.law_frame.proofs.Heard.Moves.{goes_of}
use Rattle.law_frame.proofs.Heard.Open.{some_is}
use Rattle.law_frame.proofs.Heard.Pending.{splits, between, stands}
use Rattle.law_frame.proofs.Heard.Runs.{opened_worldly, stepped_worldly, opening_pair, entry_pair}
use Rattle.law_frame.proofs.Heard.Steps.{Worldly, Onward}
use Rattle.law_frame.proofs.Steady.Again.{once_apart}
use Rattle.law_order.specs.ToldOnce.Told.{with_news, news_in, ToldOnce}
use Rattle.law_order.proofs.ToldOnce.Puts.{news_twice}
use Rattle.law_order.proofs.Cuts.Reached.{each_gift_is_opened_once}
use Rattle.law_order.specs.Cuts.Letting as letting
use Rattle.law_order.specs.Cuts.Opening.{opens, opens_in, opens_put}
use Rattle.law_machine.specs.Run.Moves.{IsReached}
use Rattle.law_machine.proofs.Run.Honest.{honest_reached}
use Rattle.law_order.proofs.ToldOnce.Runs.{each_is_told_once}
use Rattle.def_machine.specs.Arrive.{gift_at, opened_in}
use Rattle.std.proofs.lemmas.Bool.{eq-eqb}
use Rattle.law_order.proofs.Waits.Moving.{notice_marks}
use Rattle.law_reference.proofs.Reference.Gentle.{AfterGives}
use Rattle.law_reference.proofs.Reference.NoticedRuns.{AllSure, noticed_sure, Never, begins_noticed, noticed_links_cut}
use Rattle.law_reference.proofs.Reference.RunLift.{opens_keep}
use Rattle.law_fate.proofs.Name.Run.{begins_stands}
use Rattle.law_fate.proofs.Name.Among.{get_put}

-- ---- notes that tell of a name that it settled

front_or : (z : Name) (n : Note Name) (ns : List Name) → IsAmong z (with_news n ns) → IsAmong z (with_news n []) ⊎ IsAmong z ns
unfolding with_news
front_or z (SettledTo n y) ns (inl e) = inl (inl e)
front_or z (SettledTo n y) ns (inr a) = inr a
front_or z (Elsewhere n c) ns (inl e) = inl (inl e)
front_or z (Elsewhere n c) ns (inr a) = inr a
front_or z other ns a = inr a

front_in : (z : Name) (n : Note Name) (ns : List Name) → IsAmong z (with_news n []) → IsAmong z (with_news n ns)
unfolding with_news
front_in z (SettledTo n y) ns (inl e) = inl e
front_in z (SettledTo n y) ns (inr a) = absurd a
front_in z (Elsewhere n c) ns (inl e) = inl e
front_in z (Elsewhere n c) ns (inr a) = absurd a
front_in z other ns a = absurd a

rest_in : (z : Name) (n : Note Name) (ns : List Name) → IsAmong z ns → IsAmong z (with_news n ns)
unfolding with_news
rest_in z (SettledTo n y) ns a = inr a
rest_in z (Elsewhere n c) ns a = inr a
rest_in z other ns a = a

-- which of these notes it is
news_of : (z : Name) (ns : List (Note Name)) → IsAmong z (news_in ns) → (n : Note Name) × IsAmong n ns × IsAmong z (with_news n [])
unfolding news_in
news_of z [] a = absurd a
news_of z (n ∷ ns) a = go (news_of z ns) (front_or z n (news_in ns) a)
  where
    go : (IsAmong z (news_in ns) → (m : Note Name) × IsAmong m ns × IsAmong z (with_news m [])) → IsAmong z (with_news n []) ⊎ IsAmong z (news_in ns) → (m : Note Name) × IsAmong m (n ∷ ns) × IsAmong z (with_news m [])
    go f (inl b) = (n, inl refl, b)
    go f (inr b) = let r = f b in (r.0, inr r.1, r.2)

in_news : (z : Name) (n : Note Name) (ns : List (Note Name)) → IsAmong n ns → IsAmong z (with_news n []) → IsAmong z (news_in ns)
unfolding news_in
in_news z n [] a b = absurd a
in_news z n (m ∷ ns) (inl e) b = front_in z m (news_in ns) (subst (λ (k : Note Name). IsAmong z (with_news k [])) e b)
in_news z n (m ∷ ns) (inr a) b = rest_in z m (news_in ns) (in_news z n ns a b)

-- ---- notes that open a gift

opens_twice : (i : ℕ) (ms ns : List (Note Name)) → opens_in i (ms ++ ns) ≡ opens_in i ms + opens_in i ns
unfolding opens_in
opens_twice i [] ns = omega arith
opens_twice i (m ∷ ms) ns = let rest = opens_twice i ms ns in omega arith

open_counts : (i : ℕ) (n : Name) → letting.once (opens i (Open i n)) ≡ 1
unfolding opens letting.once
open_counts i n = ap (λ b. letting.once b) (eq-eqb i i refl)

opened_among : (i : ℕ) (n : Name) (ns : List (Note Name)) → IsAmong (Open i n) ns → 1 ≤ opens_in i ns
unfolding opens_in
opened_among i n [] a = absurd a
opened_among i n (m ∷ ns) (inl e) = let here : letting.once (opens i m) ≡ 1 = subst (λ (k : Note Name). letting.once (opens i k) ≡ 1) e (open_counts i n) in omega arith
opened_among i n (m ∷ ns) (inr a) = let rest = opened_among i n ns a in omega arith

opened_found : (i a b : ℕ) (ls : List Link) (l : Link) → link_at a b ls ≡ Some l → opens_in i l.log ≤ opens_put i ls
unfolding link_at opens_put
opened_found i a b [] l e = cc
opened_found i a b (k ∷ ls) l e = go (world.is_link a b k) e (λ f. opened_found i a b ls l f)
  where
    go : (c : Bool) → ◌≡◌ {A = Option Link} (elim c [ true ↦ Some k | false ↦ link_at a b ls ]) (Some l) → (link_at a b ls ≡ Some l → opens_in i l.log ≤ opens_put i ls) → opens_in i l.log ≤ opens_in i k.log + opens_put i ls
    go true f r = let same : k ≡ l = some_is k l f in let one : opens_in i k.log ≡ opens_in i l.log = ap (λ (z : Link). opens_in i z.log) same in omega arith
    go false f r = let rest = r f in omega arith

module _ (script : Script) where
  abbrev word : ℕ → ℕ
  word = draw_word script.key

  -- What may settle, wait or be viewed at v: its own names, and those of which it was told, as far as the link to it is not cut.
  abbrev May : World → ℕ → Name → Type 0
  May w v n = (host_of n ≡ v) ⊎ ((l : Link) → link_at (host_of n) v w.links ≡ Some l → l.cut ≡ false → IsAmong n (news_in (arrived (Some l))))

  own_answers : (w : World) (v : ℕ) (m : Msg) → May w v (Answer v m)
  unfolding host_of
  own_answers w v m = inl refl

  own_promises : (w : World) (v i : ℕ) → May w v (Promise v i)
  unfolding host_of
  own_promises w v i = inl refl

  own_root : (w : World) (v : ℕ) → May w v (Root v)
  unfolding host_of
  own_root w v = inl refl

  own_gift : (w : World) (v i : ℕ) → May w v (Gift v i)
  unfolding host_of
  own_gift w v i = inl refl

  -- What may be opened at v: gifts of a provider whose note that opens them has arrived, as far as the link to it is not cut.
  abbrev Opens : World → ℕ → ℕ → ℕ → Type 0
  Opens w v p i = (l : Link) → link_at p v w.links ≡ Some l → l.cut ≡ false → (n : Name) × IsAmong (Open i n) (arrived (Some l))

  -- what may be noticed: whose link is cut
  abbrev Out : World → ℕ → ℕ → Type 0
  Out w v h = (l : Link) → link_at h v w.links ≡ Some l → l.cut ≡ true

  both : (b : Bool) → b ≡ true → b ≡ false → ⊥
  both b e f = cc

  out_may : (w : World) (v : ℕ) (n : Name) → Out w v (host_of n) → May w v n
  out_may w v n o = inr (λ l at uncut. absurd (both l.cut (o l at) uncut))

  abbrev rule : World → (v : ℕ) → Rule v
  rule w v = record { May = May w v; Opens = Opens w v; Out = Out w v; answers = own_answers w v; promises = own_promises w v; gifts = own_gift w v; gone = out_may w v }

  abbrev AllWell : World → Type 0
  AllWell w = (v : ℕ) (s : Vat Name) → slice_get w.vats v ≡ Some s → Kept word v (rule w v) s

  record Past (w : World) : Type 0 where
    worldly : Worldly script w
    sound : WorldSound script w
    cut : (v : ℕ) (s : Vat Name) → slice_get w.vats v ≡ Some s → (u : ℕ) → is_in u s.noticed ≡ true → Out w v u

  -- ---- a move

  module _ (x y : World) (f : Past x) (move : Moved script x y) where
    abbrev W : Worldly script x
    W = f.worldly

    was : (u v : ℕ) (m : Link) → link_at u v y.links ≡ Some m → FoundFrom x.links u v m
    was u v m at = goes_of script x y (splits script x W.facts) move u v m at

    later : (v : ℕ) (n : Name) → May x v n → May y v n
    later v n (inl e) = inl e
    later v n (inr h) = inr (λ m at uncut. on m uncut (was (host_of n) v m at))
      where
        on : (m : Link) → m.cut ≡ false → FoundFrom x.links (host_of n) v m → IsAmong n (news_in (arrived (Some m)))
        on m uncut k = let goes = k.2 in let r = news_of n (arrived (Some k.0)) (h k.0 k.1 (goes.uncut uncut)) in in_news n r.0 (arrived (Some m)) (goes.arrivals uncut r.0 r.1) r.2

    opened_later : (v p i : ℕ) → Opens x v p i → Opens y v p i
    opened_later v p i h m at uncut = let k = was p v m at in let goes = k.2 in let r = h k.0 k.1 (goes.uncut uncut) in (r.0, goes.arrivals uncut (Open i r.0) r.1)

    not_uncut : (b : Bool) → (b ≡ false → ⊥) → b ≡ true
    not_uncut true f = refl
    not_uncut false f = absurd (f refl)

    out_later : (v h : ℕ) → Out x v h → Out y v h
    out_later v h o m at = not_uncut m.cut (λ uncut. let k = was h v m at in let goes = k.2 in both k.0.cut (o k.0 k.1) (goes.uncut uncut))

    held : AllWell x → (v : ℕ) (s : Vat Name) → slice_get x.vats v ≡ Some s → Kept word v (rule y v) s
    held h v s there = kept_more word v (rule x v) (rule y v) (later v) (opened_later v) (out_later v) s (h v s there)

    same_vats : y.vats ≡ x.vats → AllWell x → AllWell y
    same_vats e h v s there = held h v s (subst (λ vs. slice_get vs v ≡ Some s) e there)

    one_vat : (a : ℕ) (t : Vat Name) → y.vats ≡ put_at a t x.vats → Kept word a (rule y a) t → AllWell x → AllWell y
    one_vat a t e k h v s there = go (put_cases a t x.vats v s (subst (λ vs. slice_get vs v ≡ Some s) e there))
      where
        go : ((v ≡ a) × (t ≡ s)) ⊎ ((v ≡ a → ⊥) × (slice_get x.vats v ≡ Some s)) → Kept word v (rule y v) s
        go (inl i) = subst (λ (z : Vat Name). Kept word v (rule y v) z) i.1 (subst (λ (c : ℕ). Kept word c (rule y c) t) (sym i.0) k)
        go (inr i) = held h v s i.1

  -- ---- a note that arrives

  module _ (x y : World) (f : Past x) (move : Moved script x y) (a v : ℕ) (s t : Vat Name) (n : Note Name) (ns : List (Note Name)) (l : Link) (at : link_at a v x.links ≡ Some l) (cut : l.cut ≡ false) (notes : l.notes ≡ n ∷ ns)
      (links : y.links ≡ push_all v t.outbox (world.with_link (with_notes ns) a v x.links)) where
    abbrev V : Worldly script x
    V = f.worldly

    abbrev Taken : List Link
    Taken = world.with_link (with_notes ns) a v x.links

    logged : IsAmong n l.log
    logged = let k = at_link Splits a v l x.links (splits script x V.facts) at in waiting_logged n ns l notes (k.0 cut)

    ends : IsBetween a v n
    ends = between script x V.facts a v l at n logged

    before : Before script x
    before = V.facts.knows.past.0

    mail : NoteOk MailBits n
    mail = first_mails script x a v n ns l before at notes

    passes : NotePasses n
    passes = let sound = f.sound in let found : Maybe LinkPasses (Some l) = subst (Maybe LinkPasses) at (link_passes a v x.links sound.links) in let all : EachOf NotePasses (n ∷ ns) = subst (λ ms. EachOf NotePasses ms) notes found in all.0

    -- it has arrived after that
    heard : (m : Link) → link_at a v y.links ≡ Some m → m.cut ≡ false → IsAmong n (arrived (Some m))
    heard m i uncut = by (push_all_goes v t.outbox Taken (take_splits n ns a v l x.links at notes (splits script x V.facts)) a v m (subst (λ ks. link_at a v ks ≡ Some m) links i))
      where
        stays : Stays (with_notes ns)
        stays b c j = let fits = fits_notes b c ns in fits.place b c j

        by : FoundFrom Taken a v m → IsAmong n (arrived (Some m))
        by k = let goes = k.2 in let here = with_link_here (with_notes ns) stays a v x.links k.0 k.1 in
            goes.arrivals uncut n (subst (λ (j : Link). IsAmong n (arrived (Some j))) (sym (here.2 ∙ ap (with_notes ns) (some_is here.0 l (sym here.1 ∙ at)))) (taken_arrived n ns l notes (at_link Splits a v l x.links (splits script x V.facts) at).0 cut))

    told : (z : Name) → host_of z ≡ a → IsAmong z (with_news n []) → May y v z
    told z e b = inr (λ m i uncut. in_news z n (arrived (Some m)) (heard m (subst (λ (c : ℕ). link_at c v y.links ≡ Some m) e i) uncut) b)

    told_may : (z : Name) → host_of z ≡ a → IsAmong z (with_news n []) → May y v (told_name (world.read_name (names_of s) z))
    told_may z e b = subst (May y v) (sym (told_is (names_of s) z)) (told z e b)

    may_open : (i : ℕ) (z : Name) → Open i z ≡ n → Opens y v a i
    may_open i z e m at uncut = (z, subst (λ (k : Note Name). IsAmong k (arrived (Some m))) (sym e) (heard m at uncut))

    note_may : (k : Note Name) → k ≡ n → NoteOk MailBits k → IsBetween a v k → rests.NoteMay word v (rule y v) a (read_note (names_of s) k)
    unfolding read_note with_news
    note_may (Deliver d z verb ys) e ok b = ok.0
    note_may (Open i z) e ok b = may_open i z e
    note_may (SettledTo z c) e ok b = told_may z b (subst (λ (m : Note Name). IsAmong z (with_news m [])) e (inl refl))
    note_may (Elsewhere z c) e ok b = told_may z b (subst (λ (m : Note Name). IsAmong z (with_news m [])) e (inl refl))
    note_may other e ok b = tt

    arrived_well : AllOf HostIsTrue s.known → Does script x v s s t (Receives a (read_note (names_of s) n)) → AllWell x → Kept word v (rule y v) t
    unfolding naming world.names
    arrived_well hosts d h = let sound = f.sound in arrive_kept script v x (rule y v) a s t n d.gives (note_may n refl mail ends) hosts passes (sound.vats v s d.there) (held x y f move h v s d.there)

  noticed_out : (x y : World) → Past y → (v : ℕ) (s q t : Vat Name) (what : Step Name Name) → Does script x v s q t what → y.vats ≡ put_at v t x.vats → (c : ℕ) → what ≡ Notices c → Out y v c
  unfolding does
  noticed_out x y g v s q t what d vats c e =
      let gives : does (world.names script v) (Notices c) (world.readied x q) ≡ Gives tt t = subst (λ z. does (world.names script v) z (world.readied x q) ≡ Gives tt t) e d.gives in
      let marked : is_in c t.noticed ≡ true = subst (AfterGives (λ u. is_in c u.noticed ≡ true)) gives (notice_marks (world.names script v) c (world.readied x q)) in
      g.cut v t (ap (λ vs. slice_get vs v) vats ∙ get_put x.vats v s t d.there) c marked

  moved : (x y : World) → Past x → Past y → Onward script x y → AllWell x → AllWell y
  unfolding naming world.names
  moved x y f g pair h = go pair.0
    where
      hosts : (v : ℕ) (s : Vat Name) → slice_get x.vats v ≡ Some s → AllOf HostIsTrue s.known
      hosts v s there = let old = f.worldly in let k = (stands script x old.facts).vats v s there in let kept = k.kept in kept.hosts

      -- who is noticed in the move is cut off after it
      outs : (v : ℕ) (s q t : Vat Name) (what : Step Name Name) → Does script x v s q t what → y.vats ≡ put_at v t x.vats → (c : ℕ) → what ≡ Notices c → Out y v c
      outs v s q t what d vats c e = noticed_out x y g v s q t what d vats c e

      go : Moved script x y → AllWell y
      go (Still vats links drawn) = same_vats x y f (Still vats links drawn) vats h
      go (Severs a b vats links drawn) = same_vats x y f (Severs a b vats links drawn) vats h
      go (Drops a v n ns l at notes none vats links drawn) = same_vats x y f (Drops a v n ns l at notes none vats links drawn) vats h
      go (Steps v s q t what alone d vats links drawn first fresh) = let move = Steps v s q t what alone d vats links drawn first fresh in let sound = f.sound in
          one_vat x y f move v t vats (alone_kept script v x (rule y v) s q t what alone d (own_root y v) (outs v s q t what d vats) (hosts v s d.there) (sound.vats v s d.there) (held x y f move h v s d.there)) h
      go (Arrives a v s t n ns l at cut notes d vats links drawn first fresh) = let move = Arrives a v s t n ns l at cut notes d vats links drawn first fresh in
          one_vat x y f move v t vats (arrived_well x y f move a v s t n ns l at cut notes links (hosts v s d.there) d h) h

  -- ---- the start

  roots_fit : (v : ℕ) (R : Rule v) (us : List ℕ) → AllOf (Fits word v R) (map world.known_root us)
  unfolding world.known_root begun
  roots_fit v R [] = tt
  roots_fit v R (u ∷ us) = ((inl refl, tt, tt, tt), roots_fit v R us)

  fresh_well : (v : ℕ) (R : Rule v) (c : ℕ) (ps : List Program) (i : ℕ) (s : Vat Name) → slice_get (world.fresh_from script c ps) i ≡ Some s → s.number ≡ v → Kept word v R s
  unfolding world.fresh_from world.fresh world.known_root begun
  fresh_well v R c [] i s e k = cc
  fresh_well v R c (p ∷ ps) zero s e k = let same : world.fresh script c p ≡ s = some_is (world.fresh script c p) s e in subst (λ (z : Vat Name). Kept word v R z) same (ap (λ (z : Vat Name). z.number) same ∙ k, ((inl refl, tt, tt, tt), roots_fit v R p.knows), tt, record { gifts = tt; noticed = tt })
  fresh_well v R c (p ∷ ps) (suc i) s e k = fresh_well v R (suc c) ps i s e k

  fresh_kept : (v : ℕ) (R : Rule v) (s : Vat Name) → slice_get (world.fresh_from script zero script.vats) v ≡ Some s → Kept word v R s
  unfolding world.begins
  fresh_kept v R s e = let own = begins_own script v s e in fresh_well v R zero script.vats v s e own.0

  begins_well : AllWell (world.begins script)
  unfolding world.begins
  begins_well v s e = fresh_kept v (rule (world.begins script) v) s e

  -- ---- runs

  module _ (once : KnowsOnce script) where
    opened_past : (ps rest : List Program) (w : World) → script.vats ≡ ps ++ rest → world.open_from script zero ps (world.begins script) ≡ Going w → Past w
    opened_past ps rest w split e = record { worldly = opened_worldly script once ps rest w split e; sound = opens_sound script zero ps (world.begins script) w (begins_sound script) e; cut = λ v s there u i. absurd (opens_keep script (AllSure script (Never script)) (Never script) (noticed_sure script (Never script)) [] ps rest (world.begins script) w split (begins_stands script once) (begins_noticed script) e v s there u i) }

    stepped_past : (w x : World) (es : List Entry) (k : ℕ) → NoticesFollowCuts es → world.open_from script zero script.vats (world.begins script) ≡ Going w → world.steps_from script es k w ≡ Going x → Past x
    stepped_past w x es k follow opened steps = record { worldly = stepped_worldly script once w x es k follow opened steps; sound = steps_sound script es k w x (opens_sound script zero script.vats (world.begins script) w (begins_sound script) opened) steps; cut = λ v s there u i. ((noticed_links_cut script once w x es k follow opened steps v s there u i).2) }

    opened_well : (ps rest : List Program) (w : World) → script.vats ≡ ps ++ rest → world.open_from script zero ps (world.begins script) ≡ Going w → AllWell w
    opened_well = opened_holds script Past Past (Onward script) opened_past stepped_past (opening_pair script once) (entry_pair script once) AllWell (λ v p x y f g m o h. moved x y f g m h) (λ e k x y f g m i h. moved x y f g m h) begins_well

    stepped_well : (w x : World) (es : List Entry) (k : ℕ) → NoticesFollowCuts es → world.open_from script zero script.vats (world.begins script) ≡ Going w → world.steps_from script es k w ≡ Going x → AllWell x
    stepped_well = stepped_holds script Past Past (Onward script) opened_past stepped_past (opening_pair script once) (entry_pair script once) AllWell (λ v p x y f g m o h. moved x y f g m h) (λ e k x y f g m i h. moved x y f g m h) begins_well

  -- ---- what a note under way tells

  module _ (x : World) (f : Past x) (well : AllWell x) (u v : ℕ) (s : Vat Name) (there : slice_get x.vats v ≡ Some s) (l : Link) (at : link_at u v x.links ≡ Some l) (uncut : l.cut ≡ false) where
    U : Worldly script x
    U = f.worldly

    split : (front : List (Note Name)) × (l.log ≡ front ++ l.notes)
    split = let k = at_link Splits u v l x.links (splits script x U.facts) at in k.0 uncut

    right : (z : Note Name) (ms ns : List (Note Name)) → IsAmong z ns → IsAmong z (ms ++ ns)
    right z [] ns a = a
    right z (m ∷ ms) ns a = inr (right z ms ns a)

    -- it is of u
    host : (n : Name) (m : Note Name) → IsAmong m l.log → IsAmong n (with_news m []) → host_of n ≡ u
    unfolding with_news
    host n m b c = go m (between script x U.facts u v l at m b) c
      where
        go : (k : Note Name) → IsBetween u v k → IsAmong n (with_news k []) → host_of n ≡ u
        go (SettledTo z y) i (inl e) = ap host_of e ∙ i
        go (SettledTo z y) i (inr j) = absurd j
        go (Elsewhere z y) i (inl e) = ap host_of e ∙ i
        go (Elsewhere z y) i (inr j) = absurd j
        go other i j = absurd j

    -- a name of which it tells that it settled is unsettled where it goes
    news_unsettled : ToldOnce x → (n : Name) → IsAmong n (news_in l.notes) → standing_of (world.names script v) s.known n ≡ Unsettled
    unfolding naming world.names with_news standing_of
    news_unsettled once n a = unsettled word v (rule x v) n cannot s.known (let k = well v s there in k.1)
      where
        is_of : host_of n ≡ u
        is_of = let r = news_of n l.notes a in host n r.0 (subst (IsAmong r.0) (sym split.1) (right r.0 split.0 l.notes r.1)) r.2

        both_once : Once {A = Name} (news_in split.0 ++ news_in l.notes)
        both_once = subst (λ (ns : List Name). Once ns) (ap news_in split.1 ∙ news_twice split.0 l.notes) (once u v l at)

        cannot : May x v n → ⊥
        cannot (inl e) = U.facts.alone u l (subst (λ c. link_at u c x.links ≡ Some l) (sym e ∙ is_of) at)
        cannot (inr g) = once_apart (news_in split.0) (news_in l.notes) n both_once (subst (λ ms. IsAmong n (news_in ms)) (arrived_is l split.0 split.1) (g l (subst (λ (c : ℕ). link_at c v x.links ≡ Some l) (sym is_of) at) uncut)) a

    -- a gift that it opens was not opened
    gift_unopened : IsReached script x → (i : ℕ) (n : Name) → IsAmong (Open i n) l.notes → opened_in (gift_at u i s.gifts) ≡ false
    gift_unopened reached i n a = unopened word v (rule x v) u i cannot s.gifts (let k = well v s there in let held = k.3 in held.gifts)
      where
        cannot : Opens x v u i → ⊥
        cannot g = let r = g l at uncut in let most = each_gift_is_opened_once script x reached i in let one = opened_among i r.0 split.0 (subst (λ ms. IsAmong (Open i r.0) ms) (arrived_is l split.0 split.1) r.1) in
            let two = opened_among i n l.notes a in let both_of = opens_twice i split.0 l.notes in let here = opened_found i u v x.links l at in let log : opens_in i l.log ≡ opens_in i (split.0 ++ l.notes) = ap (λ ms. opens_in i ms) split.1 in absurd (omega arith)

-- In each world of a run, on a link that is not cut: a name of which a note under way tells that it settled is unsettled where it goes,
pub told_unsettled : (script : Script) → KnowsOnce script → (w x : World) (es : List Entry) (k : ℕ) → NoticesFollowCuts es → world.open_from script zero script.vats (world.begins script) ≡ Going w → world.steps_from script es k w ≡ Going x
    → (u v : ℕ) (s : Vat Name) → slice_get x.vats v ≡ Some s → (l : Link) → link_at u v x.links ≡ Some l → l.cut ≡ false → (n : Name) → IsAmong n (news_in l.notes) → standing_of (world.names script v) s.known n ≡ Unsettled
told_unsettled script once w x es k follow opened steps u v s there l at uncut n a =
    news_unsettled script x (stepped_past script once w x es k follow opened steps) (stepped_well script once w x es k follow opened steps) u v s there l at uncut ((each_is_told_once script once).1 w x es k follow opened steps) n a

-- and a gift that one opens was not opened there.
pub told_unopened : (script : Script) → KnowsOnce script → (w x : World) (es : List Entry) (k : ℕ) → NoticesFollowCuts es → world.open_from script zero script.vats (world.begins script) ≡ Going w → world.steps_from script es k w ≡ Going x
    → (u v : ℕ) (s : Vat Name) → slice_get x.vats v ≡ Some s → (l : Link) → link_at u v x.links ≡ Some l → l.cut ≡ false → (i : ℕ) (n : Name) → IsAmong (Open i n) l.notes → opened_in (gift_at u i s.gifts) ≡ false
told_unopened script once w x es k follow opened steps u v s there l at uncut i n a =
    gift_unopened script x (stepped_past script once w x es k follow opened steps) (stepped_well script once w x es k follow opened steps) u v s there l at uncut ((honest_reached script).1 w x es k opened steps) i n a
