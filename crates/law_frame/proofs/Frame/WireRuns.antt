-- In every world of a run the two vats of each link know what its notes ask for and tell.
use Rattle.std.proofs.Common.{◌≡◌, ℕ, zero, suc, Bool, true, false, List, [], ◌∷◌, ◌++◌, Option, Some, None, refl, sym, ap, subst, ◌∙◌, ◌⊎◌, inl, inr, length, append_assoc, append-nil, ◌==◌, ◌+◌, map, arith}
use Rattle.std.specs.Prelude.{slice_get}
use Rattle.std.proofs.lemmas.Bool.{eqb-true, eq-eqb}
use Rattle.def_machine.specs.Values.{Name, Root, Sent as Message_name, Naming, naming, host_of}
use Rattle.def_machine.specs.State.{Message, Note, Deliver, Put, Vat, Done, Gives, Act, is_in, begun}
use Rattle.def_machine.specs.Eval.{opening, taking}
use Rattle.def_machine.specs.Arrive.{arrive, notice}
use Rattle.def_run.specs.Draws.{draw_word}
use Rattle.def_run.specs.World as world
use Rattle.def_run.specs.World.{Script, Program, Opens, Entry, Turn, Carry, CutLink, NoticeLink, Event, Turned, Idle, Carried, NoticedAt, Link, World, Run, Goes as Going, Stopped, names, names_of, read_note, put_at, readied}
use Rattle.law_fate.proofs.Fates.Leads.{Leads}
use Rattle.law_fate.specs.Name.Names.{AllOf, IsAmong, IsKnownIn, IsMessageName, IsMessageMade, IsEventual, WasMade, MessageOk, KnownOk, Bit, Named, Mail, NoteOk, PutOk, names_in, Once}
use Rattle.law_fate.specs.Name.Runs.{InRuns}
use Rattle.law_fate.proofs.Name.Facts.{all_map, all_append, all_so, nothing}
use Rattle.law_fate.proofs.Name.Among.{all_among, get_put, length_end}
use Rattle.law_fate.proofs.Name.Run.{Stands, Told, Had, open_stands, begins_stands}
use Rattle.law_reference.proofs.Reference.OwnRuns.{Any as Anyhow}
use Rattle.law_reference.proofs.Reference.RunLift.{IsAllowed, all_allowed}
use Rattle.law_reference.proofs.Reference.NotesLift as lift
use Rattle.law_reference.proofs.Reference.NotesRuns.{Its, OfNotes, Ever, its_keep, links_of, opened_all}
use Rattle.law_frame.specs.Frame.Asked.{AsksOf, told_in}
use Rattle.law_frame.specs.Frame.Lines.{LineFits, carried_in}
use Rattle.law_frame.specs.Frame.Alike.{names_heard}
use Rattle.law_frame.proofs.Frame.WireAsking.{Any, Telling, Drawn, GiftFits, PutFits, Proper, Asking, Steady, Comes, names_on, news_of}
use Rattle.law_frame.proofs.Frame.RefsAsking.{asking_taking, asking_openings}
use Rattle.law_frame.proofs.Frame.ArriveAsking.{MailFits, IsNoMessage, Has, HasHeard, Reached, led_reached, arrive_hears, asking_notice}
use Rattle.law_frame.proofs.Frame.Told.{known_up, heard_told, note_told}
use Rattle.law_frame.proofs.Frame.LinksGo.{Splits, LinkGoes, LinksGo, Paired, links_on, paired_on, with_link_goes, with_link_lasts, severed_goes}
use Rattle.law_frame.proofs.Frame.LinksThere.{begins_paired}
use Rattle.law_frame.proofs.Frame.Objects.{Handed, AllHanded, Hands, GivesHanded, ends_handed, nouns_handed, arrive_handed, notice_handed, taking_handed, opening_handed}
use Rattle.law_frame.proofs.Frame.Given.{ToldAlong, NoteHanded, LogHanded, VatsHanded, vat_on, vats_on, logs_on, push_all_handed, take_handed, sever_handed, puts_handed, given_here}
use Rattle.law_fate.proofs.Name.Care.{Sound}
use Rattle.law_frame.proofs.Frame.Sources.{Source, Sourced, source_on, source_asked, source_told, push_all_goes, push_all_lasts, take_goes, take_lasts, take_splits, severed_stay, told_either, waiting_logged}
use Rattle.law_frame.proofs.Frame.LinksKnown.{Knowing, SentBy, HeardBy, Sent, Heard, LinkKnown, Grows, asks_own, link_up, with_link_all, with_found_all, at_link, push_all_stands, severed_stands, taken_stands}

put_at_or : (v : ℕ) (y : Vat Name) (xs : List (Vat Name)) (u : ℕ) (t : Vat Name) → slice_get (put_at v y xs) u ≡ Some t → ((u ≡ v) × (y ≡ t)) ⊎ (slice_get xs u ≡ Some t)
unfolding put_at
put_at_or v y [] u t e = inr e
put_at_or zero y (x ∷ xs) zero t e = let same : y ≡ t = cc in inl (refl, same)
put_at_or zero y (x ∷ xs) (suc u) t e = inr e
put_at_or (suc v) y (x ∷ xs) zero t e = inr e
put_at_or (suc v) y (x ∷ xs) (suc u) t e = go (put_at_or v y xs u t e)
  where
    go : ((u ≡ v) × (y ≡ t)) ⊎ (slice_get xs u ≡ Some t) → ((suc u ≡ suc v) × (y ≡ t)) ⊎ (slice_get (x ∷ xs) (suc u) ≡ Some t)
    go (inl h) = inl (ap suc h.0, h.1)
    go (inr h) = inr h

-- the gifts of each vat are known to it, by their names
abbrev pub AllGifts : List (Vat Name) → Type 0
AllGifts vats = (v : ℕ) (s : Vat Name) → slice_get vats v ≡ Some s → AllOf (GiftFits v (names_in s.known)) s.gifts

-- each name of another vat that a vat knows came to it from somewhere
abbrev pub AllSourced : List (Vat Name) → List Link → Type 0
AllSourced vats ls = (v : ℕ) (s : Vat Name) → slice_get vats v ≡ Some s → Sourced ls v s

-- what the last step of each vat put and told is named and known
abbrev pub AllTold : List (Vat Name) → Type 0
AllTold vats = (v : ℕ) (s : Vat Name) → slice_get vats v ≡ Some s → AllOf (PutFits v (names_in s.known)) s.outbox × AllOf (LineFits (names_in s.known) s.mails) s.happened

pub record Wire (script : Script) (w : World) : Type 0 where
  pub gifts : AllGifts w.vats
  pub told : AllTold w.vats
  pub links : AllOf (LinkKnown w.vats) w.links
  pub sources : AllSourced w.vats w.links
  -- with each link there is one back
  pub paired : Paired w.links
  pub draws : Drawn (draw_word script.key) w.drawn
  -- each object of another vat in what a vat has, and in what it puts, was told to it
  pub objects : VatsHanded w.vats w.links
  pub handed : AllOf (LogHanded w.links) w.links

objects_put : (us : List (Vat Name)) (ls : List Link) (v : ℕ) (t : Vat Name) → VatsHanded us ls → AllHanded v (ToldAlong ls v) t → VatsHanded (put_at v t us) ls
objects_put us ls v t h g u r e = go (put_at_or v t us u r e)
  where
    go : ((u ≡ v) × (t ≡ r)) ⊎ (slice_get us u ≡ Some r) → AllHanded u (ToldAlong ls u) r
    go (inl i) = subst (λ (q : Vat Name). AllHanded u (ToldAlong ls u) q) i.1 (subst (λ (z : ℕ). AllHanded z (ToldAlong ls z) t) (sym i.0) g)
    go (inr i) = h u r i

out_handed : (ls : List Link) (v : ℕ) (t : Vat Name) → AllHanded v (ToldAlong ls v) t → AllOf (PutOk (Handed v (ToldAlong ls v))) t.outbox
out_handed ls v t h = h.outbox

pub splits_of : (vats : List (Vat Name)) (ls : List Link) → AllOf (LinkKnown vats) ls → AllOf Splits ls
splits_of vats ls h = all_map (λ l k e. let a = k.arrived e in (a.0, a.1)) ls h

sourced_links : (vats : List (Vat Name)) (ls ks : List Link) → LinksGo ls ks → AllSourced vats ls → AllSourced vats ks
sourced_links vats ls ks g h v s e n a = source_on ls ks g v s s (λ i j. j) n (h v s e n a)

sourced_put : (us : List (Vat Name)) (ls : List Link) (v : ℕ) (t : Vat Name) → AllSourced us ls → Sourced ls v t → AllSourced (put_at v t us) ls
sourced_put us ls v t h g u r e = go (put_at_or v t us u r e)
  where
    go : ((u ≡ v) × (t ≡ r)) ⊎ (slice_get us u ≡ Some r) → Sourced ls u r
    go (inl i) = let one : Sourced ls u t = rw (sym i.0) at g in rw i.1 at one
    go (inr i) = h u r i

grows_put : (us : List (Vat Name)) (v : ℕ) (s t : Vat Name) → slice_get us v ≡ Some s → Has (names_in s.known) t → Grows us (put_at v t us)
grows_put us v s t there h u r e = go (put_at_or v t us u r e)
  where
    go : ((u ≡ v) × (t ≡ r)) ⊎ (slice_get us u ≡ Some r) → (q : Vat Name) × (slice_get us u ≡ Some q) × Has (names_in q.known) r
    go (inl i) = (s, rw (sym i.0) at there, rw i.1 at h)
    go (inr i) = (r, i, λ n a. a)

gifts_put : (us : List (Vat Name)) (v : ℕ) (t : Vat Name) → AllGifts us → AllOf (GiftFits v (names_in t.known)) t.gifts → AllGifts (put_at v t us)
gifts_put us v t h g u r e = go (put_at_or v t us u r e)
  where
    go : ((u ≡ v) × (t ≡ r)) ⊎ (slice_get us u ≡ Some r) → AllOf (GiftFits u (names_in r.known)) r.gifts
    go (inl i) = let one : AllOf (GiftFits u (names_in t.known)) t.gifts = rw (sym i.0) at g in rw i.1 at one
    go (inr i) = h u r i

told_put : (us : List (Vat Name)) (v : ℕ) (t : Vat Name) → AllTold us → AllOf (PutFits v (names_in t.known)) t.outbox × AllOf (LineFits (names_in t.known) t.mails) t.happened → AllTold (put_at v t us)
told_put us v t h g u r e = go (put_at_or v t us u r e)
  where
    go : ((u ≡ v) × (t ≡ r)) ⊎ (slice_get us u ≡ Some r) → AllOf (PutFits u (names_in r.known)) r.outbox × AllOf (LineFits (names_in r.known) r.mails) r.happened
    go (inl i) = subst (λ (z : Vat Name). AllOf (PutFits u (names_in z.known)) z.outbox × AllOf (LineFits (names_in z.known) z.mails) z.happened) i.1
        (subst (λ (z : ℕ). AllOf (PutFits z (names_in t.known)) t.outbox × AllOf (LineFits (names_in t.known) t.mails) t.happened) (sym i.0) g)
    go (inr i) = h u r i

some_vat : (s t : Vat Name) → Some s ≡ Some t → s ≡ t
some_vat s t e = cc

none_vat : (s : Vat Name) → None ≡ Some s → ⊥
none_vat s e = cc

none_some : (o : Option (Vat Name)) (s : Vat Name) → o ≡ None → o ≡ Some s → ⊥
none_some o s e f = cc

pub going_is : (w x : World) → Going w ≡ Going x → w ≡ x
going_is w x e = cc

-- nothing is told
abbrev pub NoneTold : Script → Telling
NoneTold script = record { told = λ n. ⊥; passed = λ n. ⊥; due = λ n. ⊥; word = draw_word script.key }

abbrev Whatever : Vat Name → Type 0
Whatever t = Unit {0}

module _ (script : Script) where
  moved : (w x : World) → Wire script w → Going w ≡ Going x → Wire script x
  moved w x h e = rw (going_is w x e) at h

  message_made : (vats : List (Vat Name)) (m : Name) → IsMessageMade vats m → IsMessageName m
  message_made vats (Message_name m) h = tt
  message_made vats other h = absurd h

  pub mail_fits : (vats : List (Vat Name)) (P : Bit Name → Type 0) → ((m : Name) → P (Mail m) → IsMessageMade vats m) → (n : Note Name) → NoteOk P n → MailFits n
  mail_fits vats P f (Deliver d n verb ys) h = message_made vats d.message (f d.message h.0)
  mail_fits vats P f other h = tt

  -- the notes that were put
  puts_sent : (x : World) (v : ℕ) (us : List (Vat Name)) (t : Vat Name) → slice_get us v ≡ Some t → (ps : List (Put Name)) → AllOf (PutFits v (names_in t.known)) ps → AllOf (PutOk (Had script x v t)) ps → AllOf (λ (p : Put Name). Sent us v p.to p.note) ps
  puts_sent x v us t there [] h k = tt
  puts_sent x v us t there (p ∷ ps) h k = ((asks_own (names_in t.known) p.to p.note (mail_fits x.vats (Had script x v t) (λ m i. i.0) p.note k.0.0) h.0.0, h.0.1, λ r e. knows r e), puts_sent x v us t there ps h.1 k.1)
    where
      known_here : SentBy p.to p.note (names_in t.known)
      known_here = (h.0.0, all_map (λ n i. i.1) (told_in p.note) (note_told (Had script x v t) p.note k.0.0))

      knows : (r : Vat Name) → slice_get us v ≡ Some r → SentBy p.to p.note (names_in r.known)
      knows r e = rw (some_vat t r (sym there ∙ e)) at known_here

  -- each name that the vat knows after it
  sourced_after : (w y : World) (v : ℕ) (s q t : Vat Name) (P : Telling) → names_in q.known ≡ names_in s.known → q.noticed ≡ s.noticed → Steady v P q t → AllOf Splits w.links → Sourced w.links v s → AllOf (PutFits v (names_in t.known)) t.outbox → AllOf (PutOk (Had script y v t)) t.outbox
      → ((n : Name) → P.told n → IsAmong n (names_in t.known) → Source (world.push_all v t.outbox w.links) v t n) → Sourced (world.push_all v t.outbox w.links) v t
  sourced_after w y v s q t P same noticed r splits before fits outs told n a = either (news_of v P q t r n a)
    where
      asked : (p : Put Name) → IsAmong p t.outbox → AsksOf p.to p.note n → Source (world.push_all v t.outbox w.links) v t n
      asked p b k = let ok = all_among (PutOk (Had script y v t)) t.outbox p outs b in
          source_asked w.links splits v t n p b (mail_fits y.vats (Had script y v t) (λ m i. i.0) p.note ok.0) (asks_own (names_in t.known) p.to p.note (mail_fits y.vats (Had script y v t) (λ m i. i.0) p.note ok.0) (all_among (PutFits v (names_in t.known)) t.outbox p fits b).0) k

      either : IsAmong n (names_in q.known) ⊎ Comes v P q t n → Source (world.push_all v t.outbox w.links) v t n
      either (inl b) = source_on w.links (world.push_all v t.outbox w.links) (push_all_goes v t.outbox w.links splits) v s t (λ h i. r.noticed h (rw (ap (is_in h) (sym noticed)) at i)) n (before n (rw same at b))
      either (inr (inl e)) = inl e.0
      either (inr (inr (inl b))) = asked b.0 b.1 b.2
      either (inr (inr (inr (inl e)))) = inr (inl e.0)
      either (inr (inr (inr (inr p)))) = told n p a

  -- what is put back: q is the vat before the step, with no note put
  put_back_wire : (w x : World) (v : ℕ) (s q : Vat Name) (P : Telling) (F : Vat Name → Type 0) (head : List Event) (n : ℕ) (d : Done Name (Unit {0})) → slice_get w.vats v ≡ Some s → names_in q.known ≡ names_in s.known → q.gifts ≡ s.gifts → q.outbox ≡ [] → q.happened ≡ [] → q.noticed ≡ s.noticed → q.drawn ≡ w.drawn → P.word ≡ draw_word script.key → Drawn (draw_word script.key) w.drawn
      → AllGifts w.vats → AllTold w.vats → AllOf Splits w.links → AllSourced w.vats w.links → Paired w.links → VatsHanded w.vats w.links → AllOf (LogHanded w.links) w.links → GivesHanded v (ToldAlong w.links v) d → Reached v P F q d → ((t : Vat Name) → Has (names_in s.known) t → F t → AllOf (LinkKnown (put_at v t w.vats)) w.links)
      → ((t : Vat Name) (n : Name) → P.told n → IsEventual n → Source (world.push_all v t.outbox w.links) v t n) → world.put_back v w head n d ≡ Going x → Stands script x → Wire script x
  unfolding world.put_back
  put_back_wire w x v s q P F head n (Gives a t) there same gifts out quiet noticed drawn words dr g tl sp so pairs ob ha hd h f told e k =
      let y : World = record { fuel = t.fuel; drawn = t.drawn; vats = put_at v t w.vats; links = world.push_all v t.outbox w.links; connections = world.connections_after v t head w.connections; history = w.history ++ head ++ world.events_of w.links v t.happened } in
      let r : Steady v P q t = h.0 in let known : Has (names_in s.known) t = λ m a. names_on v P q t r m (rw (sym same) at a) in
      let before : AllOf (GiftFits v (names_in q.known)) q.gifts = rw (sym same, sym gifts) at (g v s there) in
      let none : AllOf (PutFits v (names_in q.known)) q.outbox = rw out tt in
      let fit = r.fits (before, none) in let untold : AllOf (LineFits (names_in q.known) q.mails) q.happened = rw quiet tt in let at_y : Stands script y = rw (sym (going_is y x e)) at k in
      let got : slice_get (put_at v t w.vats) v ≡ Some t = get_put w.vats v s t there in
      let stands = at_y.vats v t got in let parts = stands.parts in let kept = stands.kept in
      let after : List Link = world.push_all v t.outbox w.links in
      moved y x (record {
        gifts = gifts_put w.vats v t g fit.0;
        told = told_put w.vats v t tl (fit.1, r.answers untold);
        links = push_all_stands (put_at v t w.vats) v t.outbox w.links (puts_sent y v (put_at v t w.vats) t got t.outbox fit.1 parts.outbox) (f t known h.1);
        sources = sourced_put w.vats after v t (sourced_links w.vats w.links after (push_all_goes v t.outbox w.links sp) so) (sourced_after w y v s q t P same noticed r sp (so v s there) fit.1 parts.outbox (λ m p a. told t m p (all_among IsEventual (names_in t.known) m kept.apart a)));
        paired = paired_on w.links after (push_all_goes v t.outbox w.links sp) (push_all_lasts v t.outbox w.links) pairs;
        draws = subst (λ (f : ℕ → ℕ). Drawn f t.drawn) words (r.draws (subst (λ (f : ℕ → ℕ). Drawn f q.drawn) (sym words) (subst (λ ds. Drawn (draw_word script.key) ds) (sym drawn) dr)));
        objects = objects_put w.vats after v t (vats_on w.vats w.links after (push_all_goes v t.outbox w.links sp) ob) (vat_on w.links after (push_all_goes v t.outbox w.links sp) v t hd);
        handed = push_all_handed after v t.outbox w.links (puts_handed after v t.outbox (out_handed after v t (vat_on w.links after (push_all_goes v t.outbox w.links sp) v t hd))) (logs_on w.links after (push_all_goes v t.outbox w.links sp) w.links ha);
      }) e
  put_back_wire w x v s q P F head n other there same gifts out quiet noticed drawn words dr g tl sp so pairs ob ha hd h f told e k = cc

  links_up : (us : List (Vat Name)) (ls : List Link) (v : ℕ) (s t : Vat Name) → slice_get us v ≡ Some s → Has (names_in s.known) t → AllOf (LinkKnown us) ls → AllOf (LinkKnown (put_at v t us)) ls
  links_up us ls v s t there h k = all_map (link_up us (put_at v t us) (grows_put us v s t there h)) ls k

  pub number_is : (w : World) (v : ℕ) (s : Vat Name) → Stands script w → slice_get w.vats v ≡ Some s → s.number ≡ v
  number_is w v s g i = let one = g.vats v s i in let kept = one.kept in kept.number

  -- a step in which nothing is told
  alone_wire : (w x : World) (v : ℕ) (s q : Vat Name) (head : List Event) (n : ℕ) (m : Act Name (Unit {0})) → slice_get w.vats v ≡ Some s → q.number ≡ s.number → names_in q.known ≡ names_in s.known → q.gifts ≡ s.gifts → q.noticed ≡ s.noticed → Stands script w → Wire script w → Leads Any (Asking v (NoneTold script)) m → GivesHanded v (ToldAlong w.links v) (m (readied w q))
      → world.put_back v w head n (m (readied w q)) ≡ Going x → Stands script x → Wire script x
  unfolding readied
  alone_wire w x v s q head n m there num same gifts noticed g h f hd e k = put_back_wire w x v s (readied w q) (NoneTold script) Whatever head n (m (readied w q)) there same gifts refl refl noticed refl refl h.draws h.gifts h.told (splits_of w.vats w.links h.links) h.sources h.paired h.objects h.handed hd
      (led_reached v (NoneTold script) Whatever (readied w q) (m (readied w q)) (num ∙ number_is w v s g there) (λ t r. tt) (f.after (readied w q))) (λ t k i. links_up w.vats w.links v s t there k h.links) (λ t m b o. absurd b) e k

  idle_wire : (k : ℕ) (w x : World) → Wire script w → world.idle script k w ≡ Going x → Wire script x
  unfolding world.idle
  idle_wire k w x h e = moved (record w { history = w.history ++ Idle k ∷ [] }) x (record { gifts = h.gifts; told = h.told; links = h.links; sources = h.sources; paired = h.paired; draws = h.draws; objects = h.objects; handed = h.handed }) e

  -- what a step ends with
  ready_handed : (w : World) (v : ℕ) (s : Vat Name) → AllHanded v (ToldAlong w.links v) s → Sound (Hands v (ToldAlong w.links v)) (readied w s)
  unfolding readied
  ready_handed w v s p = record { parts = record { things = p.things; slots = p.slots; lists = p.lists; queue = p.queue; known = p.known; gifts = p.gifts; outbox = tt }; more = tt }

  turn_handed : (w : World) (v : ℕ) (s : Vat Name) (m : Message Name) (ms : List (Message Name)) → AllHanded v (ToldAlong w.links v) s → s.queue ≡ m ∷ ms
      → GivesHanded v (ToldAlong w.links v) (taking (naming (draw_word script.key) v) (world.tree_at script.vats v) script.depth m (readied w (record s { queue = ms })))
  turn_handed w v s m ms p q = let T : Name → Type 0 = ToldAlong w.links v in let waiting : AllOf (MessageOk (Handed v T)) (m ∷ ms) = subst (λ qs. AllOf (MessageOk (Handed v T)) qs) q p.queue in
      let rest : AllHanded v T (record s { queue = ms }) = record { things = p.things; slots = p.slots; lists = p.lists; queue = waiting.1; known = p.known; gifts = p.gifts; outbox = p.outbox } in
      let r : Vat Name = readied w (record s { queue = ms }) in let K : Naming Name Name = naming (draw_word script.key) v in
      ends_handed v T nothing r (taking K (world.tree_at script.vats v) script.depth m r) ((taking_handed v T (draw_word script.key) (world.tree_at script.vats v) script.depth m).after r (ready_handed w v (record s { queue = ms }) rest) waiting.0)

  notice_here : (w : World) (v to : ℕ) (s : Vat Name) → AllHanded v (ToldAlong w.links v) s → GivesHanded v (ToldAlong w.links v) (notice (naming (draw_word script.key) v) to (readied w s))
  notice_here w v to s p = let T : Name → Type 0 = ToldAlong w.links v in let r : Vat Name = readied w s in
      ends_handed v T nothing r (notice (naming (draw_word script.key) v) to r) ((notice_handed v T (draw_word script.key) to).after r (ready_handed w v s p) tt)

  open_here : (w : World) (v : ℕ) (p : Program) (s : Vat Name) → AllHanded v (ToldAlong w.links v) s → GivesHanded v (ToldAlong w.links v) (opening (naming (draw_word script.key) v) p.tree script.depth (Root v) (world.given script.vats p.knows) (readied w s))
  open_here w v p s h = let T : Name → Type 0 = ToldAlong w.links v in let r : Vat Name = readied w s in
      ends_handed v T nothing r (opening (naming (draw_word script.key) v) p.tree script.depth (Root v) (world.given script.vats p.knows) r) ((opening_handed v T (draw_word script.key) p.tree script.depth (Root v) (world.given script.vats p.knows)).after r (ready_handed w v s h) (tt, nouns_handed v T script.vats p.knows))

  turn_queue_wire : (k v : ℕ) (w x : World) (s : Vat Name) (qs : List (Message Name)) → s.queue ≡ qs → slice_get w.vats v ≡ Some s → Stands script w → Wire script w → world.turn_queue script k v w s qs ≡ Going x → Stands script x → Wire script x
  unfolding world.turn_queue world.within names
  turn_queue_wire k v w x s [] q i g h e j = idle_wire k w x h e
  turn_queue_wire k v w x s (m ∷ ms) q i g h e j = alone_wire w x v s (record s { queue = ms }) (Turned k v ∷ []) (world.step_number script k) _ i refl refl refl refl g h (asking_taking v (NoneTold script) (world.tree_at script.vats v) script.depth m) (turn_handed w v s m ms (h.objects v s i) q) e j

  turn_wire : (k v : ℕ) (w x : World) (o : Option (Vat Name)) → slice_get w.vats v ≡ o → Stands script w → Wire script w → world.turn script k v w o ≡ Going x → Stands script x → Wire script x
  unfolding world.turn
  turn_wire k v w x None i g h e j = idle_wire k w x h e
  turn_wire k v w x (Some s) i g h e j = turn_queue_wire k v w x s s.queue refl i g h e j

  -- ---- arrival

  -- the receiver has heard it
  heard_now : (us : List (Vat Name)) (v : ℕ) (s t : Vat Name) (n : Note Name) → slice_get us v ≡ Some s → HasHeard v (NoneTold script) (names_in s.known) n t → Heard (put_at v t us) v n
  heard_now us v s t n there h r e = rw (some_vat t r (sym (get_put us v s t there) ∙ e)) at here
    where
      here : HeardBy v n (names_in t.known)
      here = (h.1, all_map (λ m i. known_up (names_heard (names_in s.known) n) (names_in t.known) h.0 m i) (told_in n) (heard_told (names_in s.known) n))

  told_here : (w : World) (v to : ℕ) (l : Link) (n : Note Name) (ns : List (Note Name)) → world.link_at v to w.links ≡ Some l → l.notes ≡ n ∷ ns → l.cut ≡ false → AllOf Splits w.links → (t : Vat Name) (m : Name) → IsAmong m (told_in n) → (host_of m ≡ v) ⊎ (host_of m ≡ to)
      → Source (world.push_all to t.outbox (world.with_link (world.with_notes ns) v to w.links)) to t m
  told_here w v to l n ns at e uncut splits t m p (inl i) = source_told w.links splits v to l n ns at e uncut t t.outbox (take_splits n ns v to l w.links at e splits) m i p
  told_here w v to l n ns at e uncut splits t m p (inr i) = inl i

  no_message : (vats : List (Vat Name)) (d : List ℕ) (m : Name) → WasMade vats d m → IsNoMessage m
  no_message vats d (Message_name m) h = h
  no_message vats d other h = tt

  pub no_messages : (w : World) (n : Note Name) → NoteOk (Told script w) n → (m : Name) → IsAmong m (told_in n) → IsNoMessage m
  no_messages w n ok m a = let made = all_among (λ x. Told script w (Named x)) (told_in n) m (note_told (Told script w) n ok) a in no_message w.vats w.drawn m made.0

  pub known_apart : (w : World) (v : ℕ) (s : Vat Name) → Stands script w → slice_get w.vats v ≡ Some s → AllOf IsEventual (names_in s.known)
  known_apart w v s g i = let one = g.vats v s i in let kept = one.kept in kept.apart

  note_here : (w : World) (v to : ℕ) (l : Link) (n : Note Name) (ns : List (Note Name)) → world.link_at v to w.links ≡ Some l → l.notes ≡ n ∷ ns → l.cut ≡ false → NoteOk (Told script w) n → OfNotes script v to n → (s : Vat Name) → slice_get w.vats to ≡ Some s → Stands script w → Wire script w
      → GivesHanded to (ToldAlong (world.with_link (world.with_notes ns) v to w.links) to) (arrive (naming (draw_word script.key) to) v (read_note (names_in s.known) n) (readied (record w { links = world.with_link (world.with_notes ns) v to w.links }) s))
  note_here w v to l n ns at e uncut ok ends s i g h = let later : List Link = world.with_link (world.with_notes ns) v to w.links in let y : World = record w { links = later } in let T : Name → Type 0 = ToldAlong later to in let r : Vat Name = readied y s in
      let splits : AllOf Splits w.links = splits_of w.vats w.links h.links in let goes : LinksGo w.links later = take_goes n ns v to l w.links at e splits in
      let split = (at_link Splits v to l w.links splits at).0 in let logged : IsAmong n l.log = waiting_logged n ns l e (split uncut) in
      let link = at_link (LinkKnown w.vats) v to l w.links h.links at in let known = link.0 in let sent = all_among (Sent w.vats l.from l.to) l.log n known.sent logged in
      let short : Proper v to n = subst (λ (z : ℕ). Proper v z n) link.2 (subst (λ (z : ℕ). Proper z l.to n) link.1 sent.1) in
      let log = at_link (LogHanded w.links) v to l w.links h.handed at in
      let handed : NoteHanded w.links v n = subst (λ (z : ℕ). NoteHanded w.links z n) log.1 (all_among (NoteHanded w.links l.from) l.log n log.0 logged) in
      ends_handed to T nothing r (arrive (naming (draw_word script.key) to) v (read_note (names_in s.known) n) r) ((arrive_handed to T (draw_word script.key) v (names_in s.known) n (mail_fits w.vats (Told script w) (λ m k. k.0) n ok) (given_here w.links v to l n ns at logged goes handed short ends.0 ends.1)).after r
      (ready_handed y to s (vat_on w.links later goes to s (h.objects to s i))) tt)

  arrives_wire : (k v to : ℕ) (w x : World) (l : Link) (n : Note Name) (ns : List (Note Name)) → world.link_at v to w.links ≡ Some l → l.notes ≡ n ∷ ns → l.cut ≡ false → NoteOk (Told script w) n → OfNotes script v to n → (o : Option (Vat Name)) → slice_get w.vats to ≡ o → Stands script w → Wire script w
      → world.arrives script k v to (record w { links = world.with_link (world.with_notes ns) v to w.links }) n o ≡ Going x → Stands script x → Wire script x
  unfolding world.arrives world.within names names_of readied
  arrives_wire k v to w x l n ns at e uncut ok ends (Some s) i g h j z = let word : ℕ → ℕ = draw_word script.key in let y : World = record w { links = world.with_link (world.with_notes ns) v to w.links } in
      let P : Telling = record { told = λ m. IsAmong m (told_in n); passed = λ m. Unit {0}; due = λ m. Unit {0}; word = draw_word script.key } in let splits : AllOf Splits w.links = splits_of w.vats w.links h.links in
      put_back_wire y x to s (record (readied y s) { mails = s.mails ++ carried_in n }) P (HasHeard to P (names_in s.known) n) (Carried k v to n (world.next_frame v to y.connections) ∷ []) (world.step_number script k) (arrive (naming word to) v (read_note (names_in s.known) n) (readied y s)) i refl refl refl refl refl refl refl h.draws h.gifts h.told (take_splits n ns v to l w.links at e splits) (sourced_links w.vats w.links y.links (take_goes n ns v to l w.links at e splits) h.sources) (paired_on w.links y.links (take_goes n ns v to l w.links at e splits) (take_lasts ns v to w.links) h.paired) (vats_on w.vats w.links y.links (take_goes n ns v to l w.links at e splits) h.objects) (take_handed y.links ns v to w.links (logs_on w.links y.links (take_goes n ns v to l w.links at e splits) w.links h.handed)) (note_here w v to l n ns at e uncut ok ends s i g h)
      (arrive_hears to P v n (readied y s) (number_is w to s g i) (mail_fits w.vats (Told script w) (λ m i. i.0) n ok) (λ m a. tt) (λ m a o. a) (λ m a. tt) (no_messages w n ok) (known_apart w to s g i) (h.gifts to s i))
      (λ t known heard. with_found_all (LinkKnown (put_at to t w.vats)) (world.with_notes ns) v to l
      (λ j same from at_to q. taken_stands (put_at to t w.vats) n ns j (ap (λ (z : Link). z.notes) same ∙ e) (subst (λ (z : ℕ). Heard (put_at to t w.vats) z n) (sym at_to) (heard_now w.vats to s t n i heard)) q) w.links at (links_up w.vats w.links to s t i known h.links))
      (λ t m p o. told_here w v to l n ns at e uncut splits t m p (told_either v to m n o ends.0 ends.1 p)) j z
  arrives_wire k v to w x l n ns at e uncut ok ends None i g h j z = idle_wire k (record w { links = world.with_link (world.with_notes ns) v to w.links }) x (record { gifts = h.gifts; told = h.told; links = nobody; sources = sourced_links w.vats w.links (world.with_link (world.with_notes ns) v to w.links) (take_goes n ns v to l w.links at e (splits_of w.vats w.links h.links)) h.sources; paired = paired_on w.links (world.with_link (world.with_notes ns) v to w.links) (take_goes n ns v to l w.links at e (splits_of w.vats w.links h.links)) (take_lasts ns v to w.links) h.paired; draws = h.draws; objects = vats_on w.vats w.links (world.with_link (world.with_notes ns) v to w.links) (take_goes n ns v to l w.links at e (splits_of w.vats w.links h.links)) h.objects; handed = take_handed (world.with_link (world.with_notes ns) v to w.links) ns v to w.links (logs_on w.links (world.with_link (world.with_notes ns) v to w.links) (take_goes n ns v to l w.links at e (splits_of w.vats w.links h.links)) w.links h.handed) }) j
    where
      nobody : AllOf (LinkKnown w.vats) (world.with_link (world.with_notes ns) v to w.links)
      nobody = with_found_all (LinkKnown w.vats) (world.with_notes ns) v to l (λ j same from at_to q. taken_stands w.vats n ns j (ap (λ (z : Link). z.notes) same ∙ e) (λ r f. absurd (none_some (slice_get w.vats to) r i (rw at_to at f))) q) w.links at h.links

  carry_notes_wire : (k v to : ℕ) (w x : World) (l : Link) → world.link_at v to w.links ≡ Some l → (ns : List (Note Name)) → l.notes ≡ ns → l.cut ≡ false → AllOf (NoteOk (Told script w)) ns → AllOf (OfNotes script v to) ns → Stands script w → Wire script w → world.carry_notes script k v to w ns ≡ Going x → Stands script x → Wire script x
  unfolding world.carry_notes
  carry_notes_wire k v to w x l at [] e uncut ok ends g h j z = idle_wire k w x h j
  carry_notes_wire k v to w x l at (n ∷ ns) e uncut ok ends g h j z = arrives_wire k v to w x l n ns at e uncut ok.0 ends.0 (slice_get w.vats to) refl g h j z

  carry_cut_wire : (k v to : ℕ) (w x : World) (l : Link) → world.link_at v to w.links ≡ Some l → (b : Bool) → l.cut ≡ b → AllOf (lift.Fits (OfNotes script)) w.links → Stands script w → Wire script w → elim b [ true ↦ world.idle script k w | false ↦ world.carry_notes script k v to w l.notes ] ≡ Going x → Stands script x → Wire script x
  carry_cut_wire k v to w x l at true c ends g h j z = idle_wire k w x h j
  carry_cut_wire k v to w x l at false c ends g h j z = let fit = at_link (lift.Fits (OfNotes script)) v to l w.links ends at in let both = fit.0 in let one : AllOf (OfNotes script l.from l.to) l.notes = both.1 in
      carry_notes_wire k v to w x l at l.notes refl c (at_link (λ l. AllOf (NoteOk (Told script w)) l.notes) v to l w.links g.links at).0 (rw (fit.1, fit.2) at one) g h j z

  carry_link_wire : (k v to : ℕ) (w x : World) (o : Option Link) → world.link_at v to w.links ≡ o → AllOf (lift.Fits (OfNotes script)) w.links → Stands script w → Wire script w → world.carry_link script k v to w o ≡ Going x → Stands script x → Wire script x
  unfolding world.carry_link
  carry_link_wire k v to w x None at ends g h j z = idle_wire k w x h j
  carry_link_wire k v to w x (Some l) at ends g h j z = carry_cut_wire k v to w x l at l.cut refl ends g h j z

  all_severed : (ls : List Link) → AllOf (λ l. LinkGoes l (world.severed_link l)) ls
  all_severed [] = tt
  all_severed (l ∷ ls) = (severed_goes l, all_severed ls)

  cut_wire : (k v to : ℕ) (w x : World) → Wire script w → world.cut script k v to w ≡ Going x → Wire script x
  unfolding world.cut
  cut_wire k v to w x h e = let one : List Link = world.with_link world.severed_link v to w.links in let two : List Link = world.with_link world.severed_link to v one in
      let goes : LinksGo w.links two = links_on w.links one two (with_link_goes world.severed_link severed_stay v to w.links (all_severed w.links)) (with_link_goes world.severed_link severed_stay to v one (all_severed one)) in moved _ x (record {
        gifts = h.gifts;
        told = h.told;
        links = with_link_all (LinkKnown w.vats) world.severed_link to v (λ l a b i. severed_stands w.vats l i) (world.with_link world.severed_link v to w.links) (with_link_all (LinkKnown w.vats) world.severed_link v to (λ l a b i. severed_stands w.vats l i) w.links h.links);
        sources = sourced_links w.vats w.links two goes h.sources;
        paired = paired_on w.links two goes (λ a b t. with_link_lasts world.severed_link severed_stay to v one a b (with_link_lasts world.severed_link severed_stay v to w.links a b t)) h.paired;
        draws = h.draws;
        objects = vats_on w.vats w.links two goes h.objects;
        handed = sever_handed two to v one (sever_handed two v to w.links (logs_on w.links two goes w.links h.handed));
      }) e

  notice_wire : (k v to : ℕ) (w x : World) (o : Option (Vat Name)) → slice_get w.vats v ≡ o → Stands script w → Wire script w → world.within v w (NoticedAt k v to ∷ []) (world.step_number script k) (notice (names script v) to) o ≡ Going x → Stands script x → Wire script x
  unfolding world.within names
  notice_wire k v to w x None i g h e j = cc
  notice_wire k v to w x (Some s) i g h e j = alone_wire w x v s s (NoticedAt k v to ∷ []) (world.step_number script k) _ i refl refl refl refl g h (asking_notice v (NoneTold script) to) (notice_here w v to s (h.objects v s i)) e j

  step_wire : (entry : Entry) (k : ℕ) (w x : World) → AllOf (lift.Fits (OfNotes script)) w.links → Stands script w → Wire script w → world.step script entry k w ≡ Going x → Stands script x → Wire script x
  unfolding world.step
  step_wire (Turn v) k w x ends g h e j = turn_wire k v w x (slice_get w.vats v) refl g h e j
  step_wire (Carry v to) k w x ends g h e j = carry_link_wire k v to w x (world.link_at v to w.links) refl ends g h e j
  step_wire (CutLink v to) k w x ends g h e j = cut_wire k v to w x h e
  step_wire (NoticeLink v to) k w x ends g h e j = notice_wire k v to w x (slice_get w.vats v) refl g h e j

  open_wire : (v : ℕ) (p : Program) (w x : World) (o : Option (Vat Name)) → slice_get w.vats v ≡ o → Stands script w → Wire script w
      → world.within v w (Opens v ∷ []) v (opening (names script v) p.tree script.depth (Root v) (world.given script.vats p.knows)) o ≡ Going x → Stands script x → Wire script x
  unfolding world.within names
  open_wire v p w x None i g h e j = cc
  open_wire v p w x (Some s) i g h e j = alone_wire w x v s s (Opens v ∷ []) v _ i refl refl refl refl g h (asking_openings v (NoneTold script) p.tree script.depth (Root v) (world.given script.vats p.knows)) (open_here w v p s (h.objects v s i)) e j

  -- both of what is said of a world
  abbrev pub Both : World → Type 0
  Both w = Stands script w × Wire script w

  moved_both : (w x : World) → Both w → Going w ≡ Going x → Both x
  moved_both w x h e = rw (going_is w x e) at h

  then_both : (x : World) (r : Run) (f : World → Run) → ((y : World) → r ≡ Going y → Both y) → ((y : World) → Both y → f y ≡ Going x → Both x) → world.then_goes r f ≡ Going x → Both x
  unfolding world.then_goes
  then_both x (Going y) f a b e = b y (a y refl) e
  then_both x (Stopped c n y) f a b e = cc

  -- with what the notes name
  abbrev pub All : World → Type 0
  All w = lift.All script (Its script) (OfNotes script) (Ever script) (Anyhow script) w × Wire script w

  moved_all : (w x : World) → All w → Going w ≡ Going x → All x
  moved_all w x h e = rw (going_is w x e) at h

  then_all : (x : World) (r : Run) (f : World → Run) → ((y : World) → r ≡ Going y → All y) → ((y : World) → All y → f y ≡ Going x → All x) → world.then_goes r f ≡ Going x → All x
  unfolding world.then_goes
  then_all x (Going y) f a b e = b y (a y refl) e
  then_all x (Stopped c n y) f a b e = cc

  stands_in : (w : World) → lift.All script (Its script) (OfNotes script) (Ever script) (Anyhow script) w → Stands script w
  stands_in w h = h.0

  step_both : (entry : Entry) (k : ℕ) (w y : World) → All w → world.step script entry k w ≡ Going y → All y
  step_both entry k w y h i = let ok : IsAllowed (Anyhow script) entry = (all_allowed (Anyhow script) (λ v to. tt) (entry ∷ [])).0 in
      let next = lift.step_all script (Its script) (OfNotes script) (Ever script) (Anyhow script) (its_keep script) entry k w y ok h.0 i in
      (next, step_wire entry k w y (links_of script w h.0) (stands_in w h.0) h.1 i (stands_in y next))

  pub steps_both : (es : List Entry) (k : ℕ) (w x : World) → All w → world.steps_from script es k w ≡ Going x → All x
  unfolding world.steps_from
  steps_both [] k w x h e = moved_all w x h e
  steps_both (entry ∷ es) k w x h e = then_all x (world.step script entry k w) (world.steps_from script es (suc k)) (λ y i. step_both entry k w y h i) (λ y i j. steps_both es (suc k) y x i j) e

pub get_mid : (front : List Program) (p : Program) (ps : List Program) → slice_get (front ++ p ∷ ps) (length front) ≡ Some p
get_mid [] p ps = refl
get_mid (f ∷ fs) p ps = get_mid fs p ps

module _ (script : Script) where
  pub opens_both : (front ps rest : List Program) (w x : World) → script.vats ≡ front ++ (ps ++ rest) → Both script w → world.open_from script (length front) ps w ≡ Going x → Both script x
  unfolding world.open_from world.open_vat
  opens_both front [] rest w x i h e = moved_both script w x h e
  opens_both front (p ∷ ps) rest w x i h e = then_both script x (world.open_vat script (length front) p w) (world.open_from script (suc (length front)) ps)
      (λ y j. let z : Stands script y = open_stands script (length front) p w y (rw (sym i) at (get_mid front p (ps ++ rest))) h.0 (slice_get w.vats (length front)) refl j in (z, open_wire script (length front) p w y (slice_get w.vats (length front)) refl h.0 h.1 j z))
      (λ y j k. opens_both (front ++ p ∷ []) ps rest y x (i ∙ sym (append_assoc front (p ∷ []) (ps ++ rest))) j (rw (sym (length_end front p)) at k)) e

  -- ---- the start

  fresh_gifts : (u : ℕ) (ps : List Program) (n : ℕ) (s : Vat Name) → slice_get (world.fresh_from script u ps) n ≡ Some s → s.gifts ≡ []
  unfolding world.fresh_from world.fresh
  fresh_gifts u [] n s e = cc
  fresh_gifts u (p ∷ ps) zero s e = cc
  fresh_gifts u (p ∷ ps) (suc n) s e = fresh_gifts (suc u) ps n s e

  fresh_quiet : (u : ℕ) (ps : List Program) (n : ℕ) (s : Vat Name) → slice_get (world.fresh_from script u ps) n ≡ Some s → (s.outbox ≡ []) × (s.happened ≡ [])
  unfolding world.fresh_from world.fresh
  fresh_quiet u [] n s e = cc
  fresh_quiet u (p ∷ ps) zero s e = (cc, cc)
  fresh_quiet u (p ∷ ps) (suc n) s e = fresh_quiet (suc u) ps n s e

  none_told : (v : ℕ) (s : Vat Name) → (s.outbox ≡ []) × (s.happened ≡ []) → AllOf (PutFits v (names_in s.known)) s.outbox × AllOf (LineFits (names_in s.known) s.mails) s.happened
  none_told v s e = (rw e.0 tt, rw e.1 tt)

  no_gifts : (v : ℕ) (s : Vat Name) → s.gifts ≡ [] → AllOf (GiftFits v (names_in s.known)) s.gifts
  no_gifts v s e = rw e tt

  fresh_program : (u : ℕ) (ps : List Program) (n : ℕ) (s : Vat Name) → slice_get (world.fresh_from script u ps) n ≡ Some s → (p : Program) × (slice_get ps n ≡ Some p)
  unfolding world.fresh_from
  fresh_program u [] n s e = absurd (nothing_is s e)
    where
      nothing_is : (s : Vat Name) → None ≡ Some s → ⊥
      nothing_is s e = cc
  fresh_program u (p ∷ ps) zero s e = (p, refl)
  fresh_program u (p ∷ ps) (suc n) s e = fresh_program (suc u) ps n s e

  in_among : (v : ℕ) (ws : List ℕ) → is_in v ws ≡ true → IsAmong v ws
  unfolding is_in
  in_among v [] e = cc
  in_among v (w ∷ ws) e = either (v == w) (eqb-true v w) (in_among v ws) e
    where
      either : (b : Bool) → (b ≡ true → v ≡ w) → (is_in v ws ≡ true → IsAmong v ws) → elim b [ true ↦ true | false ↦ is_in v ws ] ≡ true → IsAmong v (w ∷ ws)
      either true f g i = inl (f refl)
      either false f g i = inr (g i)

  module _ (once : (v : ℕ) (p : Program) → slice_get script.vats v ≡ Some p → Once (v ∷ p.knows)) where
    start : Stands script (world.begins script)
    start = begins_stands script once

    abbrev Fresh : List (Vat Name)
    Fresh = world.fresh_from script zero script.vats

    at_start : (v : ℕ) (s : Vat Name) → slice_get Fresh v ≡ Some s → (p : Program) × (slice_get script.vats v ≡ Some p) × AllOf (λ (u : ℕ). IsAmong (Root u) (names_in s.known)) (v ∷ p.knows)
    unfolding world.begins
    at_start v s e = let p = fresh_program zero script.vats v s e in let g = start in let one = g.vats v s e in (p.0, p.1, one.roots p.0 p.1)

    own_root : (v : ℕ) → Knowing Fresh v (λ ns. IsKnownIn ns (Root v))
    own_root v s e = let a = at_start v s e in let all = a.2 in all.0

    some_program : (p q : Program) → Some p ≡ Some q → p ≡ q
    some_program p q e = cc

    other_root : (v to : ℕ) (p : Program) → slice_get script.vats to ≡ Some p → is_in v p.knows ≡ true → Knowing Fresh to (λ ns. IsKnownIn ns (Root v))
    other_root v to p i k s e = let a = at_start to s e in let same : a.0 ≡ p = some_program a.0 p (sym a.1 ∙ i) in let all = a.2 in
        all_among (λ (u : ℕ). IsAmong (Root u) (names_in s.known)) a.0.knows v all.1 (rw (ap (λ (q : Program). q.knows) (sym same)) at (in_among v p.knows k))

    root_either : (v to : ℕ) (p : Program) (b : Bool) → slice_get script.vats to ≡ Some p → is_in v p.knows ≡ b → AllOf (λ n. Knowing Fresh v (λ ns. IsKnownIn ns n) × Knowing Fresh to (λ ns. IsKnownIn ns n)) (elim b [ true ↦ Root v ∷ [] | false ↦ [] ])
    root_either v to p true i e = ((own_root v, other_root v to p i e), tt)
    root_either v to p false i e = tt

    first_link : (v to : ℕ) (p : Program) → slice_get script.vats to ≡ Some p → LinkKnown Fresh (record { from = v; to = to; cut = false; notes = []; roots = world.roots_for v p; log = [] })
    unfolding world.roots_for
    first_link v to p i = record { roots = root_either v to p (is_in v p.knows) i refl; sent = tt; arrived = λ e. ([], refl, tt) }

    either_links : (b : Bool) (l : Link) (ls : List Link) → LinkKnown Fresh l → AllOf (LinkKnown Fresh) ls → AllOf (LinkKnown Fresh) (elim b [ true ↦ ls | false ↦ l ∷ ls ])
    either_links true l ls h i = i
    either_links false l ls h i = (h, i)

    links_to_known : (v : ℕ) (front ps : List Program) → script.vats ≡ front ++ ps → AllOf (LinkKnown Fresh) (world.links_to v (length front) ps)
    unfolding world.links_to
    links_to_known v front [] i = tt
    links_to_known v front (p ∷ ps) i = either_links (v == length front) _ (world.links_to v (suc (length front)) ps) (first_link v (length front) p (rw (sym i) at (get_mid front p ps)))
        (rw (length_end front p) at (links_to_known v (front ++ p ∷ []) ps (i ∙ sym (append_assoc front (p ∷ []) ps))))

    links_from_known : (v : ℕ) (ps : List Program) → AllOf (LinkKnown Fresh) (world.links_from script.vats v ps)
    unfolding world.links_from
    links_from_known v [] = tt
    links_from_known v (p ∷ ps) = all_append (LinkKnown Fresh) (world.links_to v zero script.vats) (world.links_from script.vats (suc v) ps) (links_to_known v [] script.vats refl) (links_from_known (suc v) ps)

    -- the roots that a vat knows from the start are those of its links
    root_back : (ws : List ℕ) (n : Name) → IsAmong n (names_in (map world.known_root ws)) → (u : ℕ) × (n ≡ Root u) × IsAmong u ws
    unfolding world.known_root begun
    root_back [] n h = absurd h
    root_back (w ∷ ws) n (inl e) = (w, e, inl refl)
    root_back (w ∷ ws) n (inr i) = let r = root_back ws n i in (r.0, r.1, inr r.2)

    fresh_root : (u : ℕ) (p : Program) (n : Name) → IsAmong n (names_in (world.fresh script u p).known) → (w : ℕ) × (n ≡ Root w) × IsAmong w (u ∷ p.knows)
    unfolding world.fresh world.known_root begun
    fresh_root u p n (inl e) = (u, e, inl refl)
    fresh_root u p n (inr i) = let r = root_back p.knows n i in (r.0, r.1, inr r.2)

    fresh_root_at : (u : ℕ) (ps : List Program) (v : ℕ) (s : Vat Name) → slice_get (world.fresh_from script u ps) v ≡ Some s → (n : Name) → IsAmong n (names_in s.known) → (p : Program) × (w : ℕ) × (slice_get ps v ≡ Some p) × (n ≡ Root w) × IsAmong w ((u + v) ∷ p.knows)
    unfolding world.fresh_from
    fresh_root_at u [] v s e n a = absurd (nothing_is s e)
      where
        nothing_is : (s : Vat Name) → None ≡ Some s → ⊥
        nothing_is s e = cc
    fresh_root_at u (p ∷ ps) zero s e n a = let same : s ≡ world.fresh script u p = sym (some_vat (world.fresh script u p) s e) in let r = fresh_root u p n (subst (λ (z : Vat Name). IsAmong n (names_in z.known)) same a) in let sum : u ≡ u + 0 = omega arith in (p, r.0, refl, r.1, subst (λ (z : ℕ). IsAmong r.0 (z ∷ p.knows)) sum r.2)
    fresh_root_at u (p ∷ ps) (suc v) s e n a = let r = fresh_root_at (suc u) ps v s e n a in let sum : suc u + v ≡ u + suc v = omega arith in (r.0, r.1, r.2, r.3, subst (λ (z : ℕ). IsAmong r.1 (z ∷ r.0.knows)) sum r.4)

    -- the sender's root is among the roots of a link to a vat that knows it
    abbrev RootThere : Link → Type 0
    RootThere l = (p : Program) → slice_get script.vats l.to ≡ Some p → IsAmong l.from p.knows → IsAmong (Root l.from) l.roots

    among_in : (v : ℕ) (ws : List ℕ) → IsAmong v ws → is_in v ws ≡ true
    unfolding is_in
    among_in v [] a = absurd a
    among_in v (w ∷ ws) (inl e) = either (v == w) (is_in v ws) (eq-eqb v w e)
      where
        either : (b c : Bool) → b ≡ true → elim b [ true ↦ true | false ↦ c ] ≡ true
        either true c i = refl
        either false c i = cc
    among_in v (w ∷ ws) (inr a) = either (v == w) (is_in v ws) (among_in v ws a)
      where
        either : (b c : Bool) → c ≡ true → elim b [ true ↦ true | false ↦ c ] ≡ true
        either true c i = refl
        either false c i = i

    roots_either : (b : Bool) (v : ℕ) → b ≡ true → IsAmong (Root v) (elim b [ true ↦ Root v ∷ [] | false ↦ [] ])
    roots_either true v e = inl refl
    roots_either false v e = cc

    roots_first : (v : ℕ) (p : Program) → IsAmong v p.knows → IsAmong (Root v) (world.roots_for v p)
    unfolding world.roots_for
    roots_first v p a = roots_either (is_in v p.knows) v (among_in v p.knows a)

    either_roots : (b : Bool) (l : Link) (ls : List Link) → RootThere l → AllOf RootThere ls → AllOf RootThere (elim b [ true ↦ ls | false ↦ l ∷ ls ])
    either_roots true l ls h i = i
    either_roots false l ls h i = (h, i)

    links_to_roots : (v : ℕ) (front ps : List Program) → script.vats ≡ front ++ ps → AllOf RootThere (world.links_to v (length front) ps)
    unfolding world.links_to
    links_to_roots v front [] i = tt
    links_to_roots v front (p ∷ ps) i = either_roots (v == length front) (record { from = v; to = length front; cut = false; notes = []; roots = world.roots_for v p; log = [] }) (world.links_to v (suc (length front)) ps)
        (λ q j a. let same : q ≡ p = some_program q p (sym j ∙ rw (sym i) at (get_mid front p ps)) in roots_first v p (rw (ap (λ (z : Program). z.knows) same) at a))
        (rw (length_end front p) at (links_to_roots v (front ++ p ∷ []) ps (i ∙ sym (append_assoc front (p ∷ []) ps))))

    links_from_roots : (v : ℕ) (ps : List Program) → AllOf RootThere (world.links_from script.vats v ps)
    unfolding world.links_from
    links_from_roots v [] = tt
    links_from_roots v (p ∷ ps) = all_append RootThere (world.links_to v zero script.vats) (world.links_from script.vats (suc v) ps) (links_to_roots v [] script.vats refl) (links_from_roots (suc v) ps)

    root_source : (v : ℕ) (s : Vat Name) (p : Program) (w : ℕ) → slice_get script.vats v ≡ Some p → IsAmong w (v ∷ p.knows) → Source (world.links_from script.vats zero script.vats) v s (Root w)
    unfolding host_of
    root_source v s p w i (inl e) = inl e
    root_source v s p w i (inr a) = inr (inr (λ l m e f. let there = at_link RootThere w v l (world.links_from script.vats zero script.vats) (links_from_roots zero script.vats) e in
        inr (inl (subst (λ (z : ℕ). IsAmong (Root z) l.roots) there.1 (there.0 p (ap (slice_get script.vats) there.2 ∙ i) (subst (λ (z : ℕ). IsAmong z p.knows) (sym there.1) a))))))

    first_source : (v : ℕ) (s : Vat Name) → slice_get Fresh v ≡ Some s → (n : Name) → IsAmong n (names_in s.known) → Source (world.links_from script.vats zero script.vats) v s n
    first_source v s e n a = let r = fresh_root_at zero script.vats v s e n a in let sum : zero + v ≡ v = omega arith in let here : IsAmong r.1 (v ∷ r.0.knows) = subst (λ (z : ℕ). IsAmong r.1 (z ∷ r.0.knows)) sum r.4 in subst (λ m. Source (world.links_from script.vats zero script.vats) v s m) (sym r.3) (root_source v s r.0 r.1 r.2 here)

    -- a vat has nothing in hand at the start
    roots_handed : (v : ℕ) (T : Name → Type 0) (ws : List ℕ) → AllOf (KnownOk (Handed v T)) (map world.known_root ws)
    unfolding world.known_root begun
    roots_handed v T [] = tt
    roots_handed v T (w ∷ ws) = ((tt, tt, tt, tt, tt, tt), roots_handed v T ws)

    fresh_all : (v : ℕ) (T : Name → Type 0) (u : ℕ) (p : Program) → AllHanded v T (world.fresh script u p)
    unfolding world.fresh world.known_root begun
    fresh_all v T u p = record { things = tt; slots = tt; lists = tt; queue = tt; known = ((tt, tt, tt, tt, tt, all_so (Unit {0}) (world.knowers u zero script.vats) tt), roots_handed v T p.knows); gifts = tt; outbox = tt }

    fresh_from_handed : (v : ℕ) (T : Name → Type 0) (u : ℕ) (ps : List Program) (n : ℕ) (s : Vat Name) → slice_get (world.fresh_from script u ps) n ≡ Some s → AllHanded v T s
    unfolding world.fresh_from
    fresh_from_handed v T u [] n s e = absurd (none_vat s e)
    fresh_from_handed v T u (p ∷ ps) zero s e = subst (λ (z : Vat Name). AllHanded v T z) (some_vat (world.fresh script u p) s e) (fresh_all v T u p)
    fresh_from_handed v T u (p ∷ ps) (suc n) s e = fresh_from_handed v T (suc u) ps n s e

    fresh_handed : (v : ℕ) (s : Vat Name) → slice_get Fresh v ≡ Some s → AllHanded v (ToldAlong (world.links_from script.vats zero script.vats) v) s
    fresh_handed v s e = fresh_from_handed v (ToldAlong (world.links_from script.vats zero script.vats) v) zero script.vats v s e

    either_handed : (ks : List Link) (b : Bool) (l : Link) (ls : List Link) → LogHanded ks l → AllOf (LogHanded ks) ls → AllOf (LogHanded ks) (elim b [ true ↦ ls | false ↦ l ∷ ls ])
    either_handed ks true l ls h i = i
    either_handed ks false l ls h i = (h, i)

    links_to_handed : (ks : List Link) (v u : ℕ) (ps : List Program) → AllOf (LogHanded ks) (world.links_to v u ps)
    unfolding world.links_to
    links_to_handed ks v u [] = tt
    links_to_handed ks v u (p ∷ ps) = either_handed ks (v == u) (record { from = v; to = u; cut = false; notes = []; roots = world.roots_for v p; log = [] }) (world.links_to v (suc u) ps) tt (links_to_handed ks v (suc u) ps)

    links_from_handed : (v : ℕ) (ps : List Program) → AllOf (LogHanded (world.links_from script.vats zero script.vats)) (world.links_from script.vats v ps)
    unfolding world.links_from
    links_from_handed v [] = tt
    links_from_handed v (p ∷ ps) = all_append (LogHanded (world.links_from script.vats zero script.vats)) (world.links_to v zero script.vats) (world.links_from script.vats (suc v) ps) (links_to_handed (world.links_from script.vats zero script.vats) v zero script.vats) (links_from_handed (suc v) ps)

    none_drawn : Drawn (draw_word script.key) []
    none_drawn = (λ i x e. absurd (none_number x e), tt)
      where
        none_number : (x : ℕ) → None ≡ Some x → ⊥
        none_number x e = cc

    begins_wire : Wire script (world.begins script)
    unfolding world.begins
    begins_wire = record { gifts = λ v s e. no_gifts v s (fresh_gifts zero script.vats v s e); told = λ v s e. none_told v s (fresh_quiet zero script.vats v s e); links = links_from_known zero script.vats; sources = λ v s e n a. first_source v s e n a; paired = begins_paired script; draws = none_drawn; objects = λ v s e. fresh_handed v s e; handed = links_from_handed zero script.vats }

    pub opened_both : (ps rest : List Program) (w : World) → script.vats ≡ ps ++ rest → world.open_from script zero ps (world.begins script) ≡ Going w → Both script w
    opened_both ps rest w e i = opens_both [] ps rest (world.begins script) w e (start, begins_wire) i

    pub stepped_both : (w x : World) (es : List Entry) (k : ℕ) → world.open_from script zero script.vats (world.begins script) ≡ Going w → world.steps_from script es k w ≡ Going x → Both script x
    stepped_both w x es k e i = let b = opened_both script.vats [] w (sym (append-nil script.vats)) e in let all = steps_both script es k w x (opened_all script once script.vats [] w (sym (append-nil script.vats)) e, b.1) i in (stands_in script x all.0, all.1)

-- what follows from both in a world holds in every world of a run
pub in_runs : (P : World → Type 0) → ((script : Script) (w : World) → Stands script w → Wire script w → P w) → InRuns P
in_runs P f script once = (
  λ ps rest w e opened. let b = opened_both script once ps rest w e opened in f script w b.0 b.1,
  λ w x es k opened stepped. let b = stepped_both script once w x es k opened stepped in f script x b.0 b.1,
)
