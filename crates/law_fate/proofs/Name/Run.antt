-- In every world of a run the names in each vat were made and are known to it, and roots and promises are known once.
use Rattle.std.proofs.Common.{◌≡◌, ℕ, ◌≤◌, ◌<◌, zero, suc, ◌+◌, Bool, true, false, List, [], ◌∷◌, ◌++◌, Option, Some, None, refl, sym, ap, ◌∙◌, inl, inr, ◌⊎◌, length, map, ◌==◌, append_assoc, arith}
use Rattle.std.specs.Prelude.{slice_get}
use Rattle.def_machine.specs.Values.{Name, Root, Object, Promise, Answer, Gift, Msg, host_of, naming}
use Rattle.def_machine.specs.State.{Known, Message, Note, Put, Vat, Done, Gives, Act, begun}
use Rattle.def_machine.specs.Scopes.{any_guard}
use Rattle.def_machine.specs.Eval.{opening, taking}
use Rattle.def_machine.specs.Arrive.{arrive, notice}
use Rattle.def_run.specs.Draws.{draw_word}
use Rattle.def_run.specs.World as world
use Rattle.def_run.specs.World.{Script, Program, Opens, Entry, Turn, Carry, CutLink, NoticeLink, Event, Turned, Idle, Carried, NoticedAt, Link, World, Run, Goes as Going, Stopped, names, names_of, read_note, put_at}
use Rattle.law_fate.specs.Name.Names.{Bit, Named, At, Off, Entered, Owns, bare, AllOf, IsAmong, promises_of, messages_of, IsMade, NounOk, MessageOk, NoteOk, KnownOk, Parts, names_in, IsHad, HostIsTrue, IsEventual, PlainOnce, Once}
use Rattle.law_fate.proofs.Name.Facts.{MayBe, all_map, all_end, all_append, all_so, message_up, nouns_up, note_up, Fact, Nothing, Also, IsName, AreNouns, IsMessage, Holds}
use Rattle.law_fate.proofs.Name.Care.{Care, Sound, parts_up}
use Rattle.law_fate.proofs.Name.Serves.{served_by, closing_by}
use Rattle.law_fate.proofs.Name.CareEval.{fine_opening, fine_taking}
use Rattle.law_fate.proofs.Name.CareArrive.{fine_notice}
use Rattle.law_fate.proofs.Name.Among.{promises_at, length_end, is_made_up}
use Rattle.law_fate.proofs.Name.Views.{AllLookOn}
use Rattle.law_fate.proofs.Name.Tracked.{Marked, IsFar, Kept, Ok, tracked, tracked_under, tracked_makes}
use Rattle.law_fate.proofs.Name.Learn.{Grew, Knows, Ended, Reads, reads_fine, reads_note}

-- each vat of the script knows only vats of the script
abbrev pub KnowsVats : Script → Type 0
KnowsVats script = (v : ℕ) (p : Program) → slice_get script.vats v ≡ Some p → AllOf (λ (u : ℕ). u < length script.vats) p.knows

-- the host of a name, or a vat, is one of so many
abbrev pub IsInside : ℕ → Bit Name → Type 0
IsInside count (Named n) = host_of n < count
IsInside count (At h) = h < count
IsInside count (Off h) = h < count
IsInside count (Entered n) = host_of n < count
IsInside count (Owns n i) = host_of n < count
IsInside count other = Unit {0}

-- what follows where each vat of the script knows only vats of it
abbrev pub Inside : Script → Bit Name → Type 0
Inside script b = KnowsVats script → IsInside (length script.vats) b

pub inside_object : (script : Script) (v i : ℕ) → Inside script (At v) → Inside script (Named (Object v i))
unfolding host_of
inside_object script v i f k = f k

pub inside_promise : (script : Script) (v i : ℕ) → Inside script (At v) → Inside script (Named (Promise v i))
unfolding host_of
inside_promise script v i f k = f k

pub inside_answer : (script : Script) (h : ℕ) (m : Msg) → Inside script (At h) → Inside script (Named (Answer h m))
unfolding host_of
inside_answer script h m f k = f k

pub inside_gift : (script : Script) (h i : ℕ) → Inside script (At h) → Inside script (Named (Gift h i))
unfolding host_of
inside_gift script h i f k = f k

pub inside_root : (script : Script) (u : ℕ) → Inside script (At u) → Inside script (Named (Root u))
unfolding host_of
inside_root script u f k = f k

-- where each vat knows only vats of the script, all hosts are vats of the script
abbrev pub inside : Script → Marked
inside script = record {
  mark = λ b. Inside script b;
  object = inside_object script;
  promise = inside_promise script;
  answer = inside_answer script;
  gift = inside_gift script;
  mail = λ m k. tt;
  draw = λ i k. tt;
  near = λ h f k. f k;
  off = λ h f k. f k;
  host = λ n f k. f k;
}

-- each name was made, is known here, and is of a vat of the script
abbrev pub Had : Script → World → ℕ → Vat Name → Bit Name → Type 0
Had script w v s b = IsMade w.vats w.drawn b × IsHad (names_in s.known) s.mails b × IsFar v b × Inside script (bare b)

-- what may stand in a note
abbrev pub Told : Script → World → Bit Name → Type 0
Told script w b = IsMade w.vats w.drawn b × Inside script (bare b)

-- how vat v of a world stands
pub record VatStands (script : Script) (w : World) (v : ℕ) (s : Vat Name) : Type 0 where
  pub parts : Parts (Had script w v s) s.things s.slots s.lists s.queue s.known s.gifts s.outbox
  pub kept : Kept v s.number s.known s.mails s.promises
  -- the roots that it is given are known
  pub roots : (p : Program) → slice_get script.vats v ≡ Some p → AllOf (λ (u : ℕ). IsAmong (Root u) (names_in s.known)) (v ∷ p.knows)
  pub low : v < length script.vats

abbrev pub LinkStands : Script → World → Link → Type 0
LinkStands script w l = AllOf (NoteOk (Told script w)) l.notes

pub record Stands (script : Script) (w : World) : Type 0 where
  pub vats : (v : ℕ) (s : Vat Name) → slice_get w.vats v ≡ Some s → VatStands script w v s
  pub links : AllOf (LinkStands script w) w.links

-- ---- counts of a world in which one vat went on

promises_put : (vats : List (Vat Name)) (v : ℕ) (s t : Vat Name) (u : ℕ) → slice_get vats v ≡ Some s → s.promises ≤ t.promises → promises_of vats u ≤ promises_of (put_at v t vats) u
unfolding put_at promises_of
promises_put [] v s t u e h = cc
promises_put (x ∷ xs) zero s t zero e h = let same : x ≡ s = cc in rw (sym same) at h
promises_put (x ∷ xs) zero s t (suc u) e h = omega arith
promises_put (x ∷ xs) (suc v) s t zero e h = omega arith
promises_put (x ∷ xs) (suc v) s t (suc u) e h = promises_put xs v s t u e h

messages_put : (vats : List (Vat Name)) (v : ℕ) (s t : Vat Name) (u : ℕ) → slice_get vats v ≡ Some s → s.messages ≤ t.messages → messages_of vats u ≤ messages_of (put_at v t vats) u
unfolding put_at messages_of
messages_put [] v s t u e h = cc
messages_put (x ∷ xs) zero s t zero e h = let same : x ≡ s = cc in rw (sym same) at h
messages_put (x ∷ xs) zero s t (suc u) e h = omega arith
messages_put (x ∷ xs) (suc v) s t zero e h = omega arith
messages_put (x ∷ xs) (suc v) s t (suc u) e h = messages_put xs v s t u e h

made_put : (vats : List (Vat Name)) (d e : List ℕ) (v : ℕ) (s t : Vat Name) → slice_get vats v ≡ Some s → s.promises ≤ t.promises → s.messages ≤ t.messages → ((x : ℕ) → IsAmong x d → IsAmong x e) → (b : Bit Name) → IsMade vats d b → IsMade (put_at v t vats) e b
made_put vats d e v s t i p m l b h = is_made_up vats (put_at v t vats) d e (λ u. promises_put vats v s t u i p) (λ u. messages_put vats v s t u i m) l b h

put_at_or : (v : ℕ) (y : Vat Name) (xs : List (Vat Name)) (u : ℕ) (t : Vat Name) → slice_get (put_at v y xs) u ≡ Some t → ((u ≡ v) × (y ≡ t)) ⊎ (slice_get xs u ≡ Some t)
unfolding put_at
put_at_or v y [] u t e = inr e
put_at_or zero y (x ∷ xs) zero t e = let same : y ≡ t = cc in inl (refl, same)
put_at_or zero y (x ∷ xs) (suc u) t e = inr e
put_at_or (suc v) y (x ∷ xs) zero t e = inr e
put_at_or (suc v) y (x ∷ xs) (suc u) t e = go (put_at_or v y xs u t e)
  where
    go : ((u ≡ v) × (y ≡ t)) ⊎ (slice_get xs u ≡ Some t) → ((suc u ≡ suc v) × (y ≡ t)) ⊎ (slice_get (x ∷ xs) (suc u) ≡ Some t)
    go (inl h) = inl (ap suc h.0, h.1)
    go (inr h) = inr h

-- ---- links

module _ (P : Note Name → Type 0) where
  abbrev Holding : Link → Type 0
  Holding l = AllOf P l.notes

  pub with_link_holds : (f : Link → Link) → ((l : Link) → Holding l → Holding (f l)) → (v w : ℕ) (ls : List Link) → AllOf Holding ls → AllOf Holding (world.with_link f v w ls)
  unfolding world.with_link
  with_link_holds f g v w [] h = tt
  with_link_holds f g v w (l ∷ ls) h = either (world.is_link v w l) (g l h.0) (with_link_holds f g v w ls h.1)
    where
      either : (b : Bool) → Holding (f l) → AllOf Holding (world.with_link f v w ls) → AllOf Holding (elim b [ true ↦ f l ∷ ls | false ↦ l ∷ world.with_link f v w ls ])
      either true i j = (i, h.1)
      either false i j = (h.0, j)

  pushed_holds : (n : Note Name) → P n → (l : Link) → Holding l → Holding (world.pushed n l)
  unfolding world.pushed
  pushed_holds n h l i = either l.cut
    where
      either : (b : Bool) → Holding (elim b [ true ↦ record l { log = l.log ++ n ∷ [] } | false ↦ record l { notes = l.notes ++ n ∷ []; log = l.log ++ n ∷ [] } ])
      either true = i
      either false = all_end P l.notes n i h

  pub push_all_holds : (v : ℕ) (ps : List (Put Name)) (ls : List Link) → AllOf (λ (p : Put Name). P p.note) ps → AllOf Holding ls → AllOf Holding (world.push_all v ps ls)
  unfolding world.push_all
  push_all_holds v [] ls h i = i
  push_all_holds v (p ∷ ps) ls h i = push_all_holds v ps (world.with_link (world.pushed p.note) v p.to ls) h.1 (with_link_holds (world.pushed p.note) (pushed_holds p.note h.0) v p.to ls i)

  either_link : (b : Bool) (l : Link) (o : Option Link) → Holding l → MayBe Holding o → MayBe Holding (elim b [ true ↦ Some l | false ↦ o ])
  either_link true l o h i = h
  either_link false l o h i = i

  pub link_holds : (v w : ℕ) (ls : List Link) → AllOf Holding ls → MayBe Holding (world.link_at v w ls)
  unfolding world.link_at
  link_holds v w [] h = tt
  link_holds v w (l ∷ ls) h = either_link (world.is_link v w l) l (world.link_at v w ls) h.0 (link_holds v w ls h.1)

pub name_had : (P : Bit Name → Type 0) (ks : List (Known Name)) (n : Name) → AllOf (KnownOk P) ks → IsAmong n (names_in ks) → P (Entered n)
name_had P [] n h i = absurd i
name_had P (k ∷ ks) n h (inl e) = rw (sym e) at h.0.0
name_had P (k ∷ ks) n h (inr i) = name_had P ks n h.1 i

going_is : (w x : World) → Going w ≡ Going x → w ≡ x
going_is w x e = cc

below_length : (v : ℕ) (p : Program) (ps : List Program) → slice_get ps v ≡ Some p → v < length ps
below_length v p [] e = cc
below_length zero p (r ∷ ps) e = omega arith
below_length (suc v) p (r ∷ ps) e = let l = below_length v p ps e in omega arith

module _ (script : Script) where
  moved : (w x : World) → Stands script w → Going w ≡ Going x → Stands script x
  moved w x h e = rw (going_is w x e) at h

  -- each vat of a world is a vat of the script
  pub low_at : (w : World) → Stands script w → (v : ℕ) (s : Vat Name) → slice_get w.vats v ≡ Some s → Inside script (At v)
  low_at w h v s e k = let g = h.vats v s e in g.low

  -- ---- a step of one vat

  module _ (v : ℕ) (w : World) (s q : Vat Name) (there : slice_get w.vats v ≡ Some s) (same_promises : q.promises ≡ s.promises) (same_messages : q.messages ≡ s.messages) (h : Stands script w) where
    abbrev pub Ready : Vat Name
    Ready = world.readied w q

    abbrev Tracked : Care Name
    Tracked = tracked true (inside script) w.vats v s there (low_at w h v s there)

    -- what was made before the step is made in it
    made_ready : (b : Bit Name) → IsMade w.vats w.drawn b → IsMade (put_at v Ready w.vats) w.drawn b
    unfolding world.readied
    made_ready b i = made_put w.vats w.drawn w.drawn v s Ready there (let e = same_promises in omega arith) (let e = same_messages in omega arith) (λ x a. a) b i

    module _ (t : Vat Name) (grown : Grew true (inside script) w.vats v s there (low_at w h v s there) (draw_word script.key) w.vats w.drawn Ready t) where
      abbrev Next : List (Vat Name)
      Next = put_at v t w.vats

      made_next : (b : Bit Name) → IsMade w.vats w.drawn b → IsMade Next t.drawn b
      unfolding world.readied
      made_next b i = let p : q.promises ≤ t.promises = grown.promises in let m : q.messages ≤ t.messages = grown.messages in let e = same_promises in let f = same_messages in
          made_put w.vats w.drawn t.drawn v s t there (omega arith) (omega arith) grown.draws b i

      other_next : (x : World) → x.vats ≡ Next → x.drawn ≡ t.drawn → (u : ℕ) (r : Vat Name) → VatStands script w u r → VatStands script x u r
      other_next x a d u r k = record {
        parts = parts_up (Had script w u r) (Had script x u r) (λ b i. (rw (sym a, sym d) at (made_next b i.0), i.1, i.2, i.3)) r.things r.slots r.lists r.queue r.known r.gifts r.outbox k.parts;
        kept = k.kept;
        roots = k.roots;
        low = k.low;
      }

      this_next : (x : World) → x.vats ≡ Next → x.drawn ≡ t.drawn → names_in q.known ≡ names_in s.known → Sound Tracked t → VatStands script x v t
      unfolding world.readied
      this_next x a d n g = record {
        parts = parts_up (Ok true (inside script) w.vats v s there (low_at w h v s there) t) (Had script x v t) (λ b i. (rw (sym a, sym d) at i.0, i.1, i.2, i.3)) t.things t.slots t.lists t.queue t.known t.gifts t.outbox g.parts;
        kept = g.more;
        roots = λ p i. all_map (λ u j. grown.names (Root u) (rw (sym n) at j)) (v ∷ p.knows) ((h.vats v s there).roots p i);
        low = (h.vats v s there).low;
      }

      each_next : (x : World) → x.vats ≡ Next → x.drawn ≡ t.drawn → names_in q.known ≡ names_in s.known → Sound Tracked t → (u : ℕ) (r : Vat Name) → ((u ≡ v) × (t ≡ r)) ⊎ (slice_get w.vats u ≡ Some r) → VatStands script x u r
      each_next x a d n g u r (inl e) = let one : VatStands script x u t = rw (sym e.0) at (this_next x a d n g) in rw e.1 at one
      each_next x a d n g u r (inr e) = other_next x a d u r (h.vats u r e)

      -- what may stand in a note after it
      abbrev Next_told : Bit Name → Type 0
      Next_told b = IsMade Next t.drawn b × Inside script (bare b)

      links_next : Sound Tracked t → AllOf (λ (l : Link). AllOf (NoteOk Next_told) l.notes) (world.push_all v t.outbox w.links)
      links_next g = push_all_holds (NoteOk Next_told) v t.outbox w.links (all_map (λ p i. note_up (Ok true (inside script) w.vats v s there (low_at w h v s there) t) Next_told (λ b j. (j.0, j.3)) p.note i.0) t.outbox g.parts.outbox)
          (all_map (λ l i. all_map (λ m j. note_up (Told script w) Next_told (λ b j. (made_next b j.0, j.1)) m j) l.notes i) w.links h.links)

    put_back_stands : (x : World) (head : List Event) (n : ℕ) (d : Done Name (Unit {0})) → names_in q.known ≡ names_in s.known → Ended true (inside script) w.vats v s there (low_at w h v s there) (draw_word script.key) w.vats w.drawn Ready d → world.put_back v w head n d ≡ Going x → Stands script x
    unfolding world.put_back
    put_back_stands x head n (Gives a t) e k i = moved _ x (record { vats = λ u r j. each_next t k.0 (record { fuel = t.fuel; drawn = t.drawn; vats = put_at v t w.vats; links = world.push_all v t.outbox w.links; connections = world.connections_after v t head w.connections; history = w.history ++ head ++ world.events_of w.links v t.happened }) refl refl e k.1 u r (put_at_or v t w.vats u r j); links = links_next t k.0 k.1 }) i
    put_back_stands x head n other e k i = cc

    module _ (parts : Parts (λ b. IsMade w.vats w.drawn b × IsHad (names_in q.known) q.mails b × IsFar v b × Inside script (bare b)) q.things q.slots q.lists q.queue q.known q.gifts q.outbox) (kept : Kept v q.number q.known q.mails q.promises) where
      pub had_ready : (b : Bit Name) → IsMade w.vats w.drawn b × IsHad (names_in q.known) q.mails b × IsFar v b × Inside script (bare b) → Ok true (inside script) w.vats v s there (low_at w h v s there) Ready b
      unfolding world.readied
      had_ready b i = (made_ready b i.0, i.1, i.2, i.3)

      pub sound_ready : Sound Tracked Ready
      unfolding world.readied
      sound_ready = record { parts = parts_up (λ b. IsMade w.vats w.drawn b × IsHad (names_in q.known) q.mails b × IsFar v b × Inside script (bare b)) (Ok true (inside script) w.vats v s there (low_at w h v s there) Ready) had_ready q.things q.slots q.lists q.queue q.known q.gifts [] emptied; more = kept }
        where
          emptied : Parts (λ b. IsMade w.vats w.drawn b × IsHad (names_in q.known) q.mails b × IsFar v b × Inside script (bare b)) q.things q.slots q.lists q.queue q.known q.gifts []
          emptied = record { things = parts.things; slots = parts.slots; lists = parts.lists; queue = parts.queue; known = parts.known; gifts = parts.gifts; outbox = tt }

      own_ready : (i : ℕ) → i < promises_of w.vats v → IsAmong (Promise v i) (names_in q.known)
      unfolding promises_of
      own_ready i l = let e : promises_of w.vats v ≡ s.promises = promises_at w.vats v s there in let f = same_promises in kept.own i (omega arith)

      pub knows_ready : Knows true (inside script) w.vats v s there (low_at w h v s there) (draw_word script.key) w.vats w.drawn (names_in q.known) Ready
      unfolding world.readied
      knows_ready = record {
        all = λ n a. had_ready (Named n) (name_had (λ b. IsMade w.vats w.drawn b × IsHad (names_in q.known) q.mails b × IsFar v b × Inside script (bare b)) q.known n parts.known a);
        told = λ n i a. a;
        own = own_ready;
        made = made_ready;
      }

      within_stands : (x : World) (head : List Event) (n : ℕ) (C : Fact Name) (m : Act Name (Unit {0})) → names_in q.known ≡ names_in s.known → Reads true (inside script) w.vats v s there (low_at w h v s there) (draw_word script.key) w.vats w.drawn (names_in q.known) C m
          → Holds (Ok true (inside script) w.vats v s there (low_at w h v s there) Ready) C → world.within v w head n m (Some q) ≡ Going x → Stands script x
      unfolding world.within
      within_stands x head n C m e r c i = put_back_stands x head n (m Ready) e (r.after Ready sound_ready knows_ready c) i

  -- ---- the entries of a schedule

  idle_stands : (k : ℕ) (w x : World) → Stands script w → world.idle script k w ≡ Going x → Stands script x
  unfolding world.idle
  idle_stands k w x h e = moved (record w { history = w.history ++ Idle k ∷ [] }) x (record { vats = λ v s i. let g = h.vats v s i in record { parts = g.parts; kept = g.kept; roots = g.roots; low = g.low }; links = h.links }) e

  turn_queue_stands : (k v : ℕ) (w x : World) (s : Vat Name) → slice_get w.vats v ≡ Some s → Stands script w → (qs : List (Message Name)) → s.queue ≡ qs → world.turn_queue script k v w s qs ≡ Going x → Stands script x
  unfolding world.turn_queue names
  turn_queue_stands k v w x s i h [] q e = idle_stands k w x h e
  turn_queue_stands k v w x s i h (m ∷ ms) q e = let g = h.vats v s i in let p = g.parts in let waiting : AllOf (MessageOk (Had script w v s)) (m ∷ ms) = rw q at p.queue in
      let parts : Parts (Had script w v s) s.things s.slots s.lists ms s.known s.gifts s.outbox = record { things = p.things; slots = p.slots; lists = p.lists; queue = waiting.1; known = p.known; gifts = p.gifts; outbox = p.outbox } in
      within_stands v w s (record s { queue = ms }) i refl refl h parts g.kept x (Turned k v ∷ []) (world.step_number script k) (IsMessage m) (taking (naming (draw_word script.key) v) (world.tree_at script.vats v) script.depth m) refl
      (reads_fine true (inside script) w.vats v s i (low_at w h v s i) (draw_word script.key) w.vats w.drawn (fine_taking (naming (draw_word script.key) v) (tracked true (inside script) w.vats v s i (low_at w h v s i)) (tracked_under true (inside script) w.vats v s i (low_at w h v s i) (draw_word script.key)) (tracked_makes (inside script) w.vats v s i (low_at w h v s i) (draw_word script.key)) (world.tree_at script.vats v) script.depth m (record { at = λ r c. c })))
      (message_up (Had script w v s) (Ok true (inside script) w.vats v s i (low_at w h v s i) (world.readied w (record s { queue = ms }))) (had_ready v w s (record s { queue = ms }) i refl refl h parts g.kept) m waiting.0) e

  turn_stands : (k v : ℕ) (w x : World) → Stands script w → (o : Option (Vat Name)) → slice_get w.vats v ≡ o → world.turn script k v w o ≡ Going x → Stands script x
  unfolding world.turn
  turn_stands k v w x h None q e = idle_stands k w x h e
  turn_stands k v w x h (Some s) q e = turn_queue_stands k v w x s q h s.queue refl e

  arrives_stands : (k v to : ℕ) (w x : World) (n : Note Name) → Stands script w → NoteOk (Told script w) n → (o : Option (Vat Name)) → slice_get w.vats to ≡ o → world.arrives script k v to w n o ≡ Going x → Stands script x
  unfolding world.arrives names world.names_of
  arrives_stands k v to w x n h i None q e = idle_stands k w x h e
  arrives_stands k v to w x n h i (Some s) q e = let g = h.vats to s q in
      within_stands to w s s q refl refl h g.parts g.kept x (Carried k v to n (world.next_frame v to w.connections) ∷ []) (world.step_number script k) Nothing (arrive (naming (draw_word script.key) to) v (read_note (names_in s.known) n)) refl
      (reads_note true (inside script) w.vats to s q (low_at w h to s q) (draw_word script.key) w.vats w.drawn v (names_in s.known) n i) tt e

  carry_notes_stands : (k v to : ℕ) (w x : World) → Stands script w → (ns : List (Note Name)) → AllOf (NoteOk (Told script w)) ns → world.carry_notes script k v to w ns ≡ Going x → Stands script x
  unfolding world.carry_notes world.with_notes
  carry_notes_stands k v to w x h [] i e = idle_stands k w x h e
  carry_notes_stands k v to w x h (n ∷ ns) i e = arrives_stands k v to (record w { links = world.with_link (world.with_notes ns) v to w.links }) x n
      (record { vats = λ u s j. let g = h.vats u s j in record { parts = g.parts; kept = g.kept; roots = g.roots; low = g.low }; links = with_link_holds (NoteOk (Told script w)) (world.with_notes ns) (λ l j. i.1) v to w.links h.links }) i.0 (slice_get w.vats to) refl e

  carry_cut_stands : (k v to : ℕ) (w x : World) → Stands script w → (l : Link) → LinkStands script w l → (b : Bool) → elim b [ true ↦ world.idle script k w | false ↦ world.carry_notes script k v to w l.notes ] ≡ Going x → Stands script x
  carry_cut_stands k v to w x h l i true e = idle_stands k w x h e
  carry_cut_stands k v to w x h l i false e = carry_notes_stands k v to w x h l.notes i e

  carry_link_stands : (k v to : ℕ) (w x : World) → Stands script w → (o : Option Link) → MayBe (LinkStands script w) o → world.carry_link script k v to w o ≡ Going x → Stands script x
  unfolding world.carry_link
  carry_link_stands k v to w x h None i e = idle_stands k w x h e
  carry_link_stands k v to w x h (Some l) i e = carry_cut_stands k v to w x h l i l.cut e

  cut_stands : (k v to : ℕ) (w x : World) → Stands script w → world.cut script k v to w ≡ Going x → Stands script x
  unfolding world.cut world.severed_link
  cut_stands k v to w x h e = let P = NoteOk (Told script w) in moved _ x (record {
    vats = λ u s j. let g = h.vats u s j in record { parts = g.parts; kept = g.kept; roots = g.roots; low = g.low };
    links = with_link_holds P world.severed_link (λ l i. tt) to v (world.with_link world.severed_link v to w.links) (with_link_holds P world.severed_link (λ l i. tt) v to w.links h.links);
  }) e

  notice_stands : (k v to : ℕ) (w x : World) → Stands script w → (o : Option (Vat Name)) → slice_get w.vats v ≡ o → world.within v w (NoticedAt k v to ∷ []) (world.step_number script k) (notice (names script v) to) o ≡ Going x → Stands script x
  unfolding world.within names
  notice_stands k v to w x h None q e = cc
  notice_stands k v to w x h (Some s) q e = let g = h.vats v s q in
      within_stands v w s s q refl refl h g.parts g.kept x (NoticedAt k v to ∷ []) (world.step_number script k) Nothing (notice (naming (draw_word script.key) v) to) refl
      (reads_fine true (inside script) w.vats v s q (low_at w h v s q) (draw_word script.key) w.vats w.drawn (fine_notice (naming (draw_word script.key) v) (tracked true (inside script) w.vats v s q (low_at w h v s q)) (tracked_under true (inside script) w.vats v s q (low_at w h v s q) (draw_word script.key)) to)) tt e

  pub step_stands : (entry : Entry) (k : ℕ) (w x : World) → Stands script w → world.step script entry k w ≡ Going x → Stands script x
  unfolding world.step
  step_stands (Turn v) k w x h e = turn_stands k v w x h (slice_get w.vats v) refl e
  step_stands (Carry v to) k w x h e = carry_link_stands k v to w x h (world.link_at v to w.links) (link_holds (NoteOk (Told script w)) v to w.links h.links) e
  step_stands (CutLink v to) k w x h e = cut_stands k v to w x h e
  step_stands (NoticeLink v to) k w x h e = notice_stands k v to w x h (slice_get w.vats v) refl e

  then_stands : (x : World) (r : Run) (f : World → Run) → ((y : World) → r ≡ Going y → Stands script y) → ((y : World) → Stands script y → f y ≡ Going x → Stands script x) → world.then_goes r f ≡ Going x → Stands script x
  unfolding world.then_goes
  then_stands x (Going y) f a b e = b y (a y refl) e
  then_stands x (Stopped c n y) f a b e = cc

  pub steps_stand : (es : List Entry) (k : ℕ) (w x : World) → Stands script w → world.steps_from script es k w ≡ Going x → Stands script x
  unfolding world.steps_from
  steps_stand [] k w x h e = moved w x h e
  steps_stand (entry ∷ es) k w x h e = then_stands x (world.step script entry k w) (world.steps_from script es (suc k)) (λ y i. step_stands entry k w y h i) (λ y i j. steps_stand es (suc k) y x i j) e

  -- ---- the opening turns

  -- each vat that is known is one of the script
  pub knows_low : (us : List ℕ) → (KnowsVats script → AllOf (λ (u : ℕ). u < length script.vats) us) → AllOf (λ (u : ℕ). Inside script (At u)) us
  knows_low [] f = tt
  knows_low (u ∷ us) f = (λ k. (f k).0, knows_low us (λ k. (f k).1))

  pub given_ok : (w : World) (v : ℕ) (s : Vat Name) (us : List ℕ) → AllOf (λ (u : ℕ). IsAmong (Root u) (names_in s.known)) us → AllOf (λ (u : ℕ). Inside script (At u)) us → AllOf (NounOk (Had script w v s)) (world.given script.vats us)
  unfolding world.given any_guard
  given_ok w v s [] h l = tt
  given_ok w v s (u ∷ us) h l = (((tt, h.0, tt, inside_root script u l.0), tt), given_ok w v s us h.1 l.1)

  pub open_stands : (v : ℕ) (p : Program) (w x : World) → slice_get script.vats v ≡ Some p → Stands script w → (o : Option (Vat Name)) → slice_get w.vats v ≡ o
      → world.within v w (Opens v ∷ []) v (opening (names script v) p.tree script.depth (Root v) (world.given script.vats p.knows)) o ≡ Going x → Stands script x
  unfolding world.within names
  open_stands v p w x t h None q e = cc
  open_stands v p w x t h (Some s) q e = let g = h.vats v s q in let roots : AllOf (λ (u : ℕ). IsAmong (Root u) (names_in s.known)) (v ∷ p.knows) = g.roots p t in
      let given : AllOf (NounOk (Had script w v s)) (world.given script.vats p.knows) = given_ok w v s p.knows roots.1 (knows_low p.knows (λ k. k v p t)) in
      let up : (b : Bit Name) → Had script w v s b → Ok true (inside script) w.vats v s q (low_at w h v s q) (world.readied w s) b = had_ready v w s s q refl refl h g.parts g.kept in
      within_stands v w s s q refl refl h g.parts g.kept x (Opens v ∷ []) v (Also (IsName (Root v)) (AreNouns (world.given script.vats p.knows))) (opening (naming (draw_word script.key) v) p.tree script.depth (Root v) (world.given script.vats p.knows)) refl
      (reads_fine true (inside script) w.vats v s q (low_at w h v s q) (draw_word script.key) w.vats w.drawn (fine_opening (naming (draw_word script.key) v) (tracked true (inside script) w.vats v s q (low_at w h v s q)) (served_by (naming (draw_word script.key) v) (tracked true (inside script) w.vats v s q (low_at w h v s q)) (tracked_under true (inside script) w.vats v s q (low_at w h v s q) (draw_word script.key)) (tracked_makes (inside script) w.vats v s q (low_at w h v s q) (draw_word script.key))) p.tree script.depth (Root v) (record { at = λ r c. c.0 })
      (closing_by (naming (draw_word script.key) v) (tracked true (inside script) w.vats v s q (low_at w h v s q)) (tracked_under true (inside script) w.vats v s q (low_at w h v s q) (draw_word script.key)) (Root v)) (world.given script.vats p.knows) (record { at = λ r c. c.1 })))
      (up (Named (Root v)) (tt, roots.0, tt, inside_root script v (low_at w h v s q)), nouns_up (Had script w v s) (Ok true (inside script) w.vats v s q (low_at w h v s q) (world.readied w s)) up (world.given script.vats p.knows) given) e

get_mid : (front : List Program) (p : Program) (ps : List Program) → slice_get (front ++ p ∷ ps) (length front) ≡ Some p
get_mid [] p ps = refl
get_mid (f ∷ fs) p ps = get_mid fs p ps

module _ (script : Script) where
  pub opens_stand : (front ps rest : List Program) (w x : World) → script.vats ≡ front ++ (ps ++ rest) → Stands script w → world.open_from script (length front) ps w ≡ Going x → Stands script x
  unfolding world.open_from world.open_vat
  opens_stand front [] rest w x i h e = moved script w x h e
  opens_stand front (p ∷ ps) rest w x i h e = then_stands script x (world.open_vat script (length front) p w) (world.open_from script (suc (length front)) ps)
      (λ y j. open_stands script (length front) p w y (rw (sym i) at (get_mid front p (ps ++ rest))) h (slice_get w.vats (length front)) refl j)
      (λ y j k. opens_stand (front ++ p ∷ []) ps rest y x (i ∙ sym (append_assoc front (p ∷ []) (ps ++ rest))) j (rw (sym (length_end front p)) at k)) e

  -- ---- the start

  some_is : (s t : Vat Name) → Some s ≡ Some t → s ≡ t
  some_is s t e = cc

  roots_among : (ws : List ℕ) (u : ℕ) → IsAmong u ws → IsAmong (Root u) (names_in (map world.known_root ws))
  unfolding world.known_root begun
  roots_among [] u h = absurd h
  roots_among (w ∷ ws) u (inl e) = inl (ap Root e)
  roots_among (w ∷ ws) u (inr i) = inr (roots_among ws u i)

  all_roots : (ns : List Name) (ws : List ℕ) → ((u : ℕ) → IsAmong u ws → IsAmong (Root u) ns) → AllOf (λ (u : ℕ). IsAmong (Root u) ns) ws
  all_roots ns [] f = tt
  all_roots ns (w ∷ ws) f = (f w (inl refl), all_roots ns ws (λ u i. f u (inr i)))

  roots_known : (P : Bit Name → Type 0) (ws : List ℕ) → AllOf (λ (u : ℕ). P (Entered (Root u))) ws → AllOf (KnownOk P) (map world.known_root ws)
  unfolding world.known_root begun
  roots_known P [] h = tt
  roots_known P (w ∷ ws) h = ((h.0, tt, tt, tt, tt, tt), roots_known P ws h.1)

  root_back : (ws : List ℕ) (n : Name) → IsAmong n (names_in (map world.known_root ws)) → (u : ℕ) × (n ≡ Root u) × IsAmong u ws
  unfolding world.known_root begun
  root_back [] n h = absurd h
  root_back (w ∷ ws) n (inl e) = (w, e, inl refl)
  root_back (w ∷ ws) n (inr i) = let r = root_back ws n i in (r.0, r.1, inr r.2)

  among_list : (u v : ℕ) (xs ys : List ℕ) → xs ≡ ys → IsAmong u (v ∷ ys) → IsAmong u (v ∷ xs)
  among_list u v xs ys e h = rw (sym e) at h

  same_root : (u w : ℕ) → Root u ≡ Root w → u ≡ w
  same_root u w e = cc

  no_root : (v i u : ℕ) → Promise v i ≡ Root u → ⊥
  no_root v i u e = cc

  roots_once : (ws : List ℕ) → Once ws → PlainOnce (names_in (map world.known_root ws))
  unfolding world.known_root begun
  roots_once [] h = tt
  roots_once (w ∷ ws) h = (λ p i. let r = root_back ws (Root w) i in h.0 (rw (sym (same_root w r.0 r.1)) at r.2), roots_once ws h.1)

  roots_apart : (ws : List ℕ) → AllOf IsEventual (names_in (map world.known_root ws))
  unfolding world.known_root begun
  roots_apart [] = tt
  roots_apart (w ∷ ws) = (tt, roots_apart ws)

  roots_hosted : (ws : List ℕ) → AllOf HostIsTrue (map world.known_root ws)
  unfolding world.known_root begun host_of
  roots_hosted [] = tt
  roots_hosted (w ∷ ws) = (refl, roots_hosted ws)

  roots_look : (before : List Name) (ws : List ℕ) → AllLookOn before (map world.known_root ws)
  unfolding world.known_root begun
  roots_look before [] = tt
  roots_look before (w ∷ ws) = (tt, roots_look (before ++ Root w ∷ []) ws)

  either_links : (b : Bool) (l : Link) (ls : List Link) (P : Note Name → Type 0) → Holding P l → AllOf (Holding P) ls → AllOf (Holding P) (elim b [ true ↦ ls | false ↦ l ∷ ls ])
  either_links true l ls P h i = i
  either_links false l ls P h i = (h, i)

  links_to_hold : (P : Note Name → Type 0) (v w : ℕ) (ps : List Program) → AllOf (Holding P) (world.links_to v w ps)
  unfolding world.links_to
  links_to_hold P v w [] = tt
  links_to_hold P v w (p ∷ ps) = either_links (v == w) _ (world.links_to v (suc w) ps) P tt (links_to_hold P v (suc w) ps)

  pub links_from_hold : (P : Note Name → Type 0) (all : List Program) (v : ℕ) (ps : List Program) → AllOf (Holding P) (world.links_from all v ps)
  unfolding world.links_from
  links_from_hold P all v [] = tt
  links_from_hold P all v (p ∷ ps) = all_append (Holding P) (world.links_to v zero all) (world.links_from all (suc v) ps) (links_to_hold P v zero all) (links_from_hold P all (suc v) ps)

  module _ (w : World) (v : ℕ) (p : Program) (once : Once (v ∷ p.knows)) (low : v < length script.vats) (others : AllOf (λ (u : ℕ). Inside script (At u)) p.knows) where
    abbrev Fresh : Vat Name
    Fresh = world.fresh script v p

    root_in : (u : ℕ) → IsAmong u (v ∷ p.knows) → IsAmong (Root u) (names_in Fresh.known)
    unfolding world.fresh world.known_root begun
    root_in u (inl e) = inl (ap Root e)
    root_in u (inr i) = inr (roots_among p.knows u i)

    fresh_parts : Parts (Had script w v Fresh) Fresh.things Fresh.slots Fresh.lists Fresh.queue Fresh.known Fresh.gifts Fresh.outbox
    unfolding world.fresh world.known_root begun
    fresh_parts = record { things = tt; slots = tt; lists = tt; queue = tt; known = (((tt, inl refl, tt, inside_root script v (λ k. low)), tt, tt, tt, tt, all_so (Had script w v Fresh (Named (Root v))) (world.knowers v zero script.vats) (tt, inl refl, tt, inside_root script v (λ k. low))), roots_known (Had script w v Fresh) p.knows (each p.knows (λ u i. inr (roots_among p.knows u i)) others)); gifts = tt; outbox = tt }
      where
        each : (us : List ℕ) → ((u : ℕ) → IsAmong u us → IsAmong (Root u) (names_in Fresh.known)) → AllOf (λ (u : ℕ). Inside script (At u)) us → AllOf (λ (u : ℕ). Had script w v Fresh (Named (Root u))) us
        each [] f l = tt
        each (u ∷ us) f l = ((tt, f u (inl refl), tt, inside_root script u l.0), each us (λ x i. f x (inr i)) l.1)

    fresh_kept : Kept v Fresh.number Fresh.known Fresh.mails Fresh.promises
    unfolding world.fresh world.known_root begun host_of
    fresh_kept = record {
      number = refl;
      hosts = (refl, roots_hosted p.knows);
      once = (λ x i. let r = root_back p.knows (Root v) i in once.0 (rw (sym (same_root v r.0 r.1)) at r.2), roots_once p.knows once.1);
      own = λ i l. absurd (omega arith);
      below = λ i a. absurd (no_own i a);
      apart = (tt, roots_apart p.knows);
      mails = tt;
      views = (tt, roots_look (Root v ∷ []) p.knows);
    }
      where
        no_own : (i : ℕ) → IsAmong (Promise v i) (Root v ∷ names_in (map world.known_root p.knows)) → ⊥
        no_own i (inl e) = no_root v i v e
        no_own i (inr j) = let r = root_back p.knows (Promise v i) j in no_root v i r.0 r.1

    fresh_stands : slice_get script.vats v ≡ Some p → VatStands script w v Fresh
    fresh_stands e = record { parts = fresh_parts; kept = fresh_kept; roots = λ x i. same x (e' x i); low = low }
      where
        e' : (x : Program) → slice_get script.vats v ≡ Some x → Some p ≡ Some x
        e' x i = sym e ∙ i

        same : (x : Program) → Some p ≡ Some x → AllOf (λ (u : ℕ). IsAmong (Root u) (names_in Fresh.known)) (v ∷ x.knows)
        same x i = let f : p ≡ x = cc in all_roots (names_in Fresh.known) (v ∷ x.knows) (λ u a. root_in u (among_list u v p.knows x.knows (ap (λ (y : Program). y.knows) f) a))

  pub fresh_at : (v : ℕ) (ps : List Program) (n : ℕ) (s : Vat Name) → slice_get (world.fresh_from script v ps) n ≡ Some s → (p : Program) × (u : ℕ) × (slice_get ps n ≡ Some p) × (u ≡ v + n) × (world.fresh script u p ≡ s)
  unfolding world.fresh_from
  fresh_at v [] n s e = absurd (nothing_is s e)
    where
      nothing_is : (s : Vat Name) → None ≡ Some s → ⊥
      nothing_is s e = cc
  fresh_at v (p ∷ ps) zero s e = (p, v, refl, (omega arith), some_is (world.fresh script v p) s e)
  fresh_at v (p ∷ ps) (suc n) s e = let r = fresh_at (suc v) ps n s e in let f = r.3 in (r.0, r.1, r.2, (omega arith), r.4)

  pub begins_stands : ((v : ℕ) (p : Program) → slice_get script.vats v ≡ Some p → Once (v ∷ p.knows)) → Stands script (world.begins script)
  unfolding world.begins
  begins_stands once = record { vats = λ v s e. at v s (fresh_at zero script.vats v s e); links = links_from_hold (NoteOk (Told script (world.begins script))) script.vats zero script.vats }
    where
      at : (v : ℕ) (s : Vat Name) → (p : Program) × (u : ℕ) × (slice_get script.vats v ≡ Some p) × (u ≡ zero + v) × (world.fresh script u p ≡ s) → VatStands script (world.begins script) v s
      at v s r = let f : r.1 ≡ v = let g = r.3 in omega arith in let one : VatStands script (world.begins script) v (world.fresh script v r.0) = fresh_stands (world.begins script) v r.0 (once v r.0 r.2) (below_length v r.0 script.vats r.2) (knows_low script r.0.knows (λ k. k v r.0 r.2)) r.2 in
          let same : world.fresh script v r.0 ≡ s = ap (λ u. world.fresh script u r.0) (sym f) ∙ r.4 in rw same at one

  pub opened_stands : ((v : ℕ) (p : Program) → slice_get script.vats v ≡ Some p → Once (v ∷ p.knows)) → (ps rest : List Program) (w : World) → script.vats ≡ ps ++ rest → world.open_from script zero ps (world.begins script) ≡ Going w → Stands script w
  opened_stands once ps rest w e i = opens_stand [] ps rest (world.begins script) w e (begins_stands once) i
