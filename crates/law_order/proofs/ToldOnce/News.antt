-- In every run a name of another vat, of which a vat was told nothing yet, neither waits there nor is viewed, and settled to what is broken at most.
use Rattle.std.proofs.Common.{◌≡◌, ℕ, zero, suc, false, List, [], ◌∷◌, ◌++◌, Some, refl, sym, ap, subst, ◌∙◌, ◌⊎◌, inl, inr, map}
use Rattle.std.specs.Prelude.{slice_get}
use Rattle.def_machine.specs.Values.{Name, Root, Promise, Answer, Gift, Msg, naming, host_of}
use Rattle.def_machine.specs.State.{Note, Deliver, Open, SettledTo, Elsewhere, Vat, begun}
use Rattle.law_machine.specs.Machine.Steps.{Receives}
use Rattle.def_machine.specs.Refs.{standing_of, standing_in}
use Rattle.def_run.specs.Draws.{draw_word}
use Rattle.def_run.specs.World as world
use Rattle.def_run.specs.World.{Script, Program, Entry, Link, World, Goes as Going, link_at, with_notes, put_at, push_all, names_of, read_note}
use Rattle.law_fate.specs.Name.Names.{AllOf, IsAmong, Once, NoteOk}
use Rattle.law_fate.specs.Name.Runs.{KnowsOnce}
use Rattle.law_frozen.specs.Frozen.{AllOf as EachOf, NotePasses}
use Rattle.law_frozen.proofs.Fine.{MayBe as Maybe}
use Rattle.law_frozen.proofs.RunSound.{WorldSound, LinkPasses, link_passes, begins_sound, opens_sound, steps_sound}
use Rattle.law_reference.specs.Reference.Cuts.{NoticesFollowCuts}
use Rattle.law_reference.specs.Reference.ListRingless.{told_name}
use Rattle.law_reference.specs.Reference.Notes.{IsBetween}
use Rattle.law_reference.proofs.Reference.Follow.{put_cases}
use Rattle.law_reference.proofs.Reference.LegRuns.{MailBits, Before, first_mails}
use Rattle.law_reference.proofs.Reference.LinksCut.{fits_notes}
use Rattle.law_reference.proofs.Reference.Moves.{Moved, Still, Severs, Drops, Steps, Arrives, Does}
use Rattle.law_reference.proofs.Reference.OwnRuns.{begins_own}
use Rattle.law_reference.proofs.Reference.Told.{told_is}
use Rattle.law_frame.specs.Frame.Tables.{arrived}
use Rattle.law_frame.proofs.Frame.LinksGo.{Splits, FoundFrom, Stays, with_link_here, taken_arrived}
use Rattle.law_frame.proofs.Frame.LinksKnown.{at_link}
use Rattle.law_frame.proofs.Frame.Sources.{push_all_goes, take_splits, waiting_logged}
use Rattle.law_frame.proofs.Frame.WireArrivals.{arrived_is}
use Rattle.law_reference.proofs.Gift.Found.{kept_more, calms}
use Rattle.law_reference.proofs.Gift.Keeps.{alone_kept, arrive_kept}
use Rattle.law_reference.proofs.Gift.Kept.{settling, Entry as Fits, Kept}
use Rattle.law_reference.proofs.Gift.Rests as rests
use Rattle.law_frame.proofs.Heard.Lift.{opened_holds, stepped_holds}
use Rattle.law_frame.proofs.Heard.Moves.{goes_of}
use Rattle.law_frame.proofs.Heard.Open.{some_is}
use Rattle.law_frame.proofs.Heard.Pending.{splits, between}
use Rattle.law_frame.proofs.Heard.Runs.{opened_worldly, stepped_worldly, opening_pair, entry_pair}
use Rattle.law_frame.proofs.Heard.Steps.{Worldly, Onward}
use Rattle.law_frame.proofs.Steady.Again.{once_apart}
use Rattle.law_order.specs.ToldOnce.Told.{with_news, news_in, ToldOnce}
use Rattle.law_order.specs.ToldOnce.New.{TellsNew, NewsIsNew}
use Rattle.law_order.proofs.ToldOnce.Puts.{news_twice}
use Rattle.law_order.proofs.ToldOnce.Runs.{each_is_told_once}

-- ---- notes that tell of a name that it settled

front_or : (z : Name) (n : Note Name) (ns : List Name) → IsAmong z (with_news n ns) → IsAmong z (with_news n []) ⊎ IsAmong z ns
unfolding with_news
front_or z (SettledTo n y) ns (inl e) = inl (inl e)
front_or z (SettledTo n y) ns (inr a) = inr a
front_or z (Elsewhere n c) ns (inl e) = inl (inl e)
front_or z (Elsewhere n c) ns (inr a) = inr a
front_or z other ns a = inr a

front_in : (z : Name) (n : Note Name) (ns : List Name) → IsAmong z (with_news n []) → IsAmong z (with_news n ns)
unfolding with_news
front_in z (SettledTo n y) ns (inl e) = inl e
front_in z (SettledTo n y) ns (inr a) = absurd a
front_in z (Elsewhere n c) ns (inl e) = inl e
front_in z (Elsewhere n c) ns (inr a) = absurd a
front_in z other ns a = absurd a

rest_in : (z : Name) (n : Note Name) (ns : List Name) → IsAmong z ns → IsAmong z (with_news n ns)
unfolding with_news
rest_in z (SettledTo n y) ns a = inr a
rest_in z (Elsewhere n c) ns a = inr a
rest_in z other ns a = a

-- which of these notes it is
news_of : (z : Name) (ns : List (Note Name)) → IsAmong z (news_in ns) → (n : Note Name) × IsAmong n ns × IsAmong z (with_news n [])
unfolding news_in
news_of z [] a = absurd a
news_of z (n ∷ ns) a = go (news_of z ns) (front_or z n (news_in ns) a)
  where
    go : (IsAmong z (news_in ns) → (m : Note Name) × IsAmong m ns × IsAmong z (with_news m [])) → IsAmong z (with_news n []) ⊎ IsAmong z (news_in ns) → (m : Note Name) × IsAmong m (n ∷ ns) × IsAmong z (with_news m [])
    go f (inl b) = (n, inl refl, b)
    go f (inr b) = let r = f b in (r.0, inr r.1, r.2)

in_news : (z : Name) (n : Note Name) (ns : List (Note Name)) → IsAmong n ns → IsAmong z (with_news n []) → IsAmong z (news_in ns)
unfolding news_in
in_news z n [] a b = absurd a
in_news z n (m ∷ ns) (inl e) b = front_in z m (news_in ns) (subst (λ (k : Note Name). IsAmong z (with_news k [])) e b)
in_news z n (m ∷ ns) (inr a) b = rest_in z m (news_in ns) (in_news z n ns a b)

module _ (script : Script) where
  abbrev word : ℕ → ℕ
  word = draw_word script.key

  -- What may settle, wait or be viewed at v: its own names, and those of which it was told, as far as the link to it is not cut.
  abbrev May : World → ℕ → Name → Type 0
  May w v n = (host_of n ≡ v) ⊎ ((l : Link) → link_at (host_of n) v w.links ≡ Some l → l.cut ≡ false → IsAmong n (news_in (arrived (Some l))))

  own_answers : (w : World) (v : ℕ) (m : Msg) → May w v (Answer v m)
  unfolding host_of
  own_answers w v m = inl refl

  own_promises : (w : World) (v i : ℕ) → May w v (Promise v i)
  unfolding host_of
  own_promises w v i = inl refl

  own_root : (w : World) (v : ℕ) → May w v (Root v)
  unfolding host_of
  own_root w v = inl refl

  own_gift : (w : World) (v i : ℕ) → May w v (Gift v i)
  unfolding host_of
  own_gift w v i = inl refl

  abbrev AllWell : World → Type 0
  AllWell w = (v : ℕ) (s : Vat Name) → slice_get w.vats v ≡ Some s → Kept word v (settling word v (May w v)) s

  record Past (w : World) : Type 0 where
    worldly : Worldly script w
    sound : WorldSound script w

  -- ---- a move

  module _ (x y : World) (f : Past x) (move : Moved script x y) where
    abbrev W : Worldly script x
    W = f.worldly

    was : (u v : ℕ) (m : Link) → link_at u v y.links ≡ Some m → FoundFrom x.links u v m
    was u v m at = goes_of script x y (splits script x W.facts) move u v m at

    later : (v : ℕ) (n : Name) → May x v n → May y v n
    later v n (inl e) = inl e
    later v n (inr h) = inr (λ m at uncut. on m uncut (was (host_of n) v m at))
      where
        on : (m : Link) → m.cut ≡ false → FoundFrom x.links (host_of n) v m → IsAmong n (news_in (arrived (Some m)))
        on m uncut k = let goes = k.2 in let r = news_of n (arrived (Some k.0)) (h k.0 k.1 (goes.uncut uncut)) in in_news n r.0 (arrived (Some m)) (goes.arrivals uncut r.0 r.1) r.2

    held : AllWell x → (v : ℕ) (s : Vat Name) → slice_get x.vats v ≡ Some s → Kept word v (settling word v (May y v)) s
    held h v s there = kept_more word v (May x v) (May y v) (later v) s (h v s there)

    same_vats : y.vats ≡ x.vats → AllWell x → AllWell y
    same_vats e h v s there = held h v s (subst (λ vs. slice_get vs v ≡ Some s) e there)

    one_vat : (a : ℕ) (t : Vat Name) → y.vats ≡ put_at a t x.vats → Kept word a (settling word a (May y a)) t → AllWell x → AllWell y
    one_vat a t e k h v s there = go (put_cases a t x.vats v s (subst (λ vs. slice_get vs v ≡ Some s) e there))
      where
        go : ((v ≡ a) × (t ≡ s)) ⊎ ((v ≡ a → ⊥) × (slice_get x.vats v ≡ Some s)) → Kept word v (settling word v (May y v)) s
        go (inl i) = subst (λ (z : Vat Name). Kept word v (settling word v (May y v)) z) i.1 (subst (λ (c : ℕ). Kept word c (settling word c (May y c)) t) (sym i.0) k)
        go (inr i) = held h v s i.1

  -- ---- a note that arrives

  module _ (x y : World) (f : Past x) (move : Moved script x y) (a v : ℕ) (s t : Vat Name) (n : Note Name) (ns : List (Note Name)) (l : Link) (at : link_at a v x.links ≡ Some l) (cut : l.cut ≡ false) (notes : l.notes ≡ n ∷ ns)
      (links : y.links ≡ push_all v t.outbox (world.with_link (with_notes ns) a v x.links)) where
    abbrev V : Worldly script x
    V = f.worldly

    abbrev Taken : List Link
    Taken = world.with_link (with_notes ns) a v x.links

    logged : IsAmong n l.log
    logged = let k = at_link Splits a v l x.links (splits script x V.facts) at in waiting_logged n ns l notes (k.0 cut)

    ends : IsBetween a v n
    ends = between script x V.facts a v l at n logged

    before : Before script x
    before = V.facts.knows.past.0

    mail : NoteOk MailBits n
    mail = first_mails script x a v n ns l before at notes

    passes : NotePasses n
    passes = let sound = f.sound in let found : Maybe LinkPasses (Some l) = subst (Maybe LinkPasses) at (link_passes a v x.links sound.links) in let all : EachOf NotePasses (n ∷ ns) = subst (λ ms. EachOf NotePasses ms) notes found in all.0

    -- it has arrived after that
    heard : (m : Link) → link_at a v y.links ≡ Some m → m.cut ≡ false → IsAmong n (arrived (Some m))
    heard m i uncut = by (push_all_goes v t.outbox Taken (take_splits n ns a v l x.links at notes (splits script x V.facts)) a v m (subst (λ ks. link_at a v ks ≡ Some m) links i))
      where
        stays : Stays (with_notes ns)
        stays b c j = let fits = fits_notes b c ns in fits.place b c j

        by : FoundFrom Taken a v m → IsAmong n (arrived (Some m))
        by k = let goes = k.2 in let here = with_link_here (with_notes ns) stays a v x.links k.0 k.1 in
            goes.arrivals uncut n (subst (λ (j : Link). IsAmong n (arrived (Some j))) (sym (here.2 ∙ ap (with_notes ns) (some_is here.0 l (sym here.1 ∙ at)))) (taken_arrived n ns l notes (at_link Splits a v l x.links (splits script x V.facts) at).0 cut))

    told : (z : Name) → host_of z ≡ a → IsAmong z (with_news n []) → May y v z
    told z e b = inr (λ m i uncut. in_news z n (arrived (Some m)) (heard m (subst (λ (c : ℕ). link_at c v y.links ≡ Some m) e i) uncut) b)

    told_may : (z : Name) → host_of z ≡ a → IsAmong z (with_news n []) → May y v (told_name (world.read_name (names_of s) z))
    told_may z e b = subst (May y v) (sym (told_is (names_of s) z)) (told z e b)

    note_may : (k : Note Name) → k ≡ n → NoteOk MailBits k → IsBetween a v k → rests.NoteMay word v (settling word v (May y v)) (own_answers y v) (read_note (names_of s) k)
    unfolding read_note with_news
    note_may (Deliver d z verb ys) e ok b = ok.0
    note_may (Open i z) e ok b = own_gift y v i
    note_may (SettledTo z c) e ok b = told_may z b (subst (λ (m : Note Name). IsAmong z (with_news m [])) e (inl refl))
    note_may (Elsewhere z c) e ok b = told_may z b (subst (λ (m : Note Name). IsAmong z (with_news m [])) e (inl refl))
    note_may other e ok b = tt

    arrived_well : Does script x v s s t (Receives a (read_note (names_of s) n)) → AllWell x → Kept word v (settling word v (May y v)) t
    unfolding naming world.names
    arrived_well d h = let sound = f.sound in arrive_kept script v x (May y v) (own_answers y v) (own_promises y v) a s t n d.gives (note_may n refl mail ends) passes (sound.vats v s d.there) (held x y f move h v s d.there)

  moved : (x y : World) → Past x → Past y → Onward script x y → AllWell x → AllWell y
  unfolding naming world.names
  moved x y f g pair h = go pair.0
    where
      go : Moved script x y → AllWell y
      go (Still vats links drawn) = same_vats x y f (Still vats links drawn) vats h
      go (Severs a b vats links drawn) = same_vats x y f (Severs a b vats links drawn) vats h
      go (Drops a v n ns l at notes none vats links drawn) = same_vats x y f (Drops a v n ns l at notes none vats links drawn) vats h
      go (Steps v s q t what alone d vats links drawn first fresh) = let move = Steps v s q t what alone d vats links drawn first fresh in let sound = f.sound in
          one_vat x y f move v t vats (alone_kept script v x (May y v) (own_answers y v) (own_promises y v) s q t what alone d (own_root y v) (sound.vats v s d.there) (held x y f move h v s d.there)) h
      go (Arrives a v s t n ns l at cut notes d vats links drawn first fresh) = let move = Arrives a v s t n ns l at cut notes d vats links drawn first fresh in
          one_vat x y f move v t vats (arrived_well x y f move a v s t n ns l at cut notes links d h) h

  -- ---- the start

  roots_fit : (v : ℕ) (M : Name → Type 0) (us : List ℕ) → AllOf (Fits word v (settling word v M)) (map world.known_root us)
  unfolding world.known_root begun
  roots_fit v M [] = tt
  roots_fit v M (u ∷ us) = ((inl tt, tt, tt, tt), roots_fit v M us)

  fresh_well : (v : ℕ) (M : Name → Type 0) (c : ℕ) (ps : List Program) (i : ℕ) (s : Vat Name) → slice_get (world.fresh_from script c ps) i ≡ Some s → s.number ≡ v → Kept word v (settling word v M) s
  unfolding world.fresh_from world.fresh world.known_root begun
  fresh_well v M c [] i s e k = cc
  fresh_well v M c (p ∷ ps) zero s e k = let same : world.fresh script c p ≡ s = some_is (world.fresh script c p) s e in subst (λ (z : Vat Name). Kept word v (settling word v M) z) same (ap (λ (z : Vat Name). z.number) same ∙ k, ((inl tt, tt, tt, tt), roots_fit v M p.knows), tt, tt)
  fresh_well v M c (p ∷ ps) (suc i) s e k = fresh_well v M (suc c) ps i s e k

  pub fresh_kept : (v : ℕ) (M : Name → Type 0) (s : Vat Name) → slice_get (world.fresh_from script zero script.vats) v ≡ Some s → Kept word v (settling word v M) s
  unfolding world.begins
  fresh_kept v M s e = let own = begins_own script v s e in fresh_well v M zero script.vats v s e own.0

  begins_well : AllWell (world.begins script)
  unfolding world.begins
  begins_well v s e = fresh_kept v (May (world.begins script) v) s e

  -- ---- runs

  module _ (once : KnowsOnce script) where
    opened_past : (ps rest : List Program) (w : World) → script.vats ≡ ps ++ rest → world.open_from script zero ps (world.begins script) ≡ Going w → Past w
    opened_past ps rest w split e = record { worldly = opened_worldly script once ps rest w split e; sound = opens_sound script zero ps (world.begins script) w (begins_sound script) e }

    stepped_past : (w x : World) (es : List Entry) (k : ℕ) → NoticesFollowCuts es → world.open_from script zero script.vats (world.begins script) ≡ Going w → world.steps_from script es k w ≡ Going x → Past x
    stepped_past w x es k follow opened steps = record { worldly = stepped_worldly script once w x es k follow opened steps; sound = steps_sound script es k w x (opens_sound script zero script.vats (world.begins script) w (begins_sound script) opened) steps }

    opened_well : (ps rest : List Program) (w : World) → script.vats ≡ ps ++ rest → world.open_from script zero ps (world.begins script) ≡ Going w → AllWell w
    opened_well = opened_holds script Past Past (Onward script) opened_past stepped_past (opening_pair script once) (entry_pair script once) AllWell (λ v p x y f g m o h. moved x y f g m h) (λ e k x y f g m i h. moved x y f g m h) begins_well

    stepped_well : (w x : World) (es : List Entry) (k : ℕ) → NoticesFollowCuts es → world.open_from script zero script.vats (world.begins script) ≡ Going w → world.steps_from script es k w ≡ Going x → AllWell x
    stepped_well = stepped_holds script Past Past (Onward script) opened_past stepped_past (opening_pair script once) (entry_pair script once) AllWell (λ v p x y f g m o h. moved x y f g m h) (λ e k x y f g m i h. moved x y f g m h) begins_well

  -- ---- what a note under way tells

  tells_new : (w : World) → Past w → ToldOnce w → AllWell w → TellsNew script w
  unfolding naming world.names with_news standing_of standing_in
  tells_new w f once h u v s l there at uncut n a = calms word v (May w v) n cannot s.known (let k = h v s there in k.1)
    where
      U : Worldly script w
      U = f.worldly

      split : (front : List (Note Name)) × (l.log ≡ front ++ l.notes)
      split = let k = at_link Splits u v l w.links (splits script w U.facts) at in k.0 uncut

      -- it is of u
      host : (m : Note Name) → IsAmong m l.log → IsAmong n (with_news m []) → host_of n ≡ u
      host m b c = go m (between script w U.facts u v l at m b) c
        where
          go : (k : Note Name) → IsBetween u v k → IsAmong n (with_news k []) → host_of n ≡ u
          go (SettledTo z y) i (inl e) = ap host_of e ∙ i
          go (SettledTo z y) i (inr j) = absurd j
          go (Elsewhere z y) i (inl e) = ap host_of e ∙ i
          go (Elsewhere z y) i (inr j) = absurd j
          go other i j = absurd j

      behind : (m : Note Name) → IsAmong m l.notes → IsAmong m l.log
      behind m b = subst (IsAmong m) (sym split.1) (right split.0)
        where
          right : (ms : List (Note Name)) → IsAmong m (ms ++ l.notes)
          right [] = b
          right (k ∷ ms) = inr (right ms)

      is_of : host_of n ≡ u
      is_of = let r = news_of n l.notes a in host r.0 (behind r.0 r.1) r.2

      both_once : Once {A = Name} (news_in split.0 ++ news_in l.notes)
      both_once = subst (λ (ns : List Name). Once ns) (ap news_in split.1 ∙ news_twice split.0 l.notes) (once u v l at)

      cannot : May w v n → ⊥
      cannot (inl e) = U.facts.alone u l (subst (λ c. link_at u c w.links ≡ Some l) (sym e ∙ is_of) at)
      cannot (inr g) = once_apart (news_in split.0) (news_in l.notes) n both_once (subst (λ ms. IsAmong n (news_in ms)) (arrived_is l split.0 split.1) (g l (subst (λ (c : ℕ). link_at c v w.links ≡ Some l) (sym is_of) at) uncut)) a

pub news_is_new : NewsIsNew
news_is_new script once = (
  λ ps rest w split e. tells_new script w (opened_past script once ps rest w split e) ((each_is_told_once script once).0 ps rest w split e) (opened_well script once ps rest w split e),
  λ w x es k follow opened steps. tells_new script x (stepped_past script once w x es k follow opened steps) ((each_is_told_once script once).1 w x es k follow opened steps) (stepped_well script once w x es k follow opened steps),
)
