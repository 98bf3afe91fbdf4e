-- In each world of a run in which frames are injected names were made, what honest vats have is their own, notes are between their two vats, and the tables of connections are of theirs.
use Rattle.std.proofs.Common.{◌≡◌, ℕ, ◌≤◌, zero, suc, Bool, true, false, List, [], ◌∷◌, ◌++◌, Some, sym, subst, ◌⊎◌, inl, inr, arith}
use Rattle.std.specs.Prelude.{slice_get}
use Rattle.def_machine.specs.Values.{Value, Ref, Name}
use Rattle.def_machine.specs.State.{Passed, Passeds, Plain, AGift, Many, NoMore, More, Note, Deliver, Ask, SettledTo, Shorten, Put, Vat, Done, Gives, Act}
use Rattle.def_run.specs.Draws.{draw_word}
use Rattle.def_run.specs.Wire.{Connected}
use Rattle.def_run.specs.World as world
use Rattle.def_run.specs.World.{Script, Program, Event, Carried, Link, World, put_at, readied, names, names_of, read_note}
use Rattle.def_hostile.specs.Hostile.{Play}
use Rattle.law_machine.specs.Run.Moves.{went}
use Rattle.law_fate.specs.Name.Names.{Bit, Named, AllOf, IsAmong, NoteOk, Parts, promises_of, messages_of}
use Rattle.law_fate.proofs.Name.Facts.{all_end, all_map, note_up, Fact, nothing, Holds}
use Rattle.law_fate.proofs.Name.Care.{Care, Sound, Ends, Fine, parts_up}
use Rattle.law_reference.specs.Reference.Notes.{IsBetween}
use Rattle.law_reference.proofs.Reference.Gentle.{GivesBy}
use Rattle.law_reference.proofs.Reference.OwnKeeps.{KeepsOwn, Whole}
use Rattle.law_reference.proofs.Reference.OwnRuns.{Each, message_named}
use Rattle.law_reference.proofs.Reference.OwnArrive.{FreeValue, FreePassed, AllFree, NoteFree}
use Rattle.law_reference.proofs.Reference.RunLift.{put_at_or}
use Rattle.law_hostile.proofs.Links.{push_all_holds}
use Rattle.law_injected.specs.HostileRuns.{IsHostile}
use Rattle.law_lawful.specs.Claims.{WasMade, IsMade}
use Rattle.law_lawful.specs.Tables.{TablesFit}
use Rattle.law_lawful.proofs.Claimed.{Grows, is_made_up, claimed}
use Rattle.law_lawful.proofs.Tables.{fit_up, write_all_fits}

promises_put : (vats : List (Vat Name)) (v : ℕ) (s t : Vat Name) (u : ℕ) → slice_get vats v ≡ Some s → s.promises ≤ t.promises → promises_of vats u ≤ promises_of (put_at v t vats) u
unfolding put_at promises_of
promises_put [] v s t u e h = cc
promises_put (x ∷ xs) zero s t zero e h = let same : x ≡ s = cc in rw (sym same) at h
promises_put (x ∷ xs) (suc v) s t (suc u) e h = promises_put xs v s t u e h
promises_put (x ∷ xs) other s t another e h = omega arith

messages_put : (vats : List (Vat Name)) (v : ℕ) (s t : Vat Name) (u : ℕ) → slice_get vats v ≡ Some s → s.messages ≤ t.messages → messages_of vats u ≤ messages_of (put_at v t vats) u
unfolding put_at messages_of
messages_put [] v s t u e h = cc
messages_put (x ∷ xs) zero s t zero e h = let same : x ≡ s = cc in rw (sym same) at h
messages_put (x ∷ xs) (suc v) s t (suc u) e h = messages_put xs v s t u e h
messages_put (x ∷ xs) other s t another e h = omega arith

abbrev LinkOf : (ℕ → ℕ → Note Name → Type 0) → Link → Type 0
LinkOf P l = AllOf (P l.from l.to) l.log × AllOf (P l.from l.to) l.notes

pushed_link : (P : ℕ → ℕ → Note Name → Type 0) (b : Bool) (n : Note Name) (l : Link) → P l.from l.to n → LinkOf P l → LinkOf P (elim b [ true ↦ record l { log = l.log ++ n ∷ [] } | false ↦ record l { notes = l.notes ++ n ∷ []; log = l.log ++ n ∷ [] } ])
pushed_link P true n l i h = (all_end (P l.from l.to) l.log n h.0 i, h.1)
pushed_link P false n l i h = (all_end (P l.from l.to) l.log n h.0 i, all_end (P l.from l.to) l.notes n h.1 i)

-- any name is free to wait
module _ (word : ℕ → ℕ) (v : ℕ) where
  value_free : (y : Value Name) → FreeValue word v Each y
  value_free (Ref n) = inr tt
  value_free other = tt

  mutual
    passed_free : (y : Passed Name) → FreePassed word v Each y
    passed_free (Plain y) = value_free y
    passed_free (AGift h i) = tt
    passed_free (Many ys) = all_free ys

    all_free : (ys : Passeds Name) → AllFree word v Each ys
    all_free NoMore = tt
    all_free (More y ys) = (passed_free y, all_free ys)

  pub note_free : (Claim : ℕ → Type 0) (vats : List (Vat Name)) (d : List ℕ) (ks : List Name) (n : Note Name) → NoteOk (IsMade Claim vats d) n → NoteFree word v Each ks n
  note_free Claim vats d ks (Deliver e n verb ys) h = (message_named vats e.message h.0, inr tt, all_free ys)
  note_free Claim vats d ks (Ask p i n) h = tt
  note_free Claim vats d ks (SettledTo n y) h = (inr tt, passed_free y)
  note_free Claim vats d ks (Shorten n c i) h = λ e. inr tt
  note_free Claim vats d ks other h = inr tt

both_puts : (P Q : Put Name → Type 0) (ps : List (Put Name)) → AllOf P ps → AllOf Q ps → AllOf (λ (p : Put Name). P p × Q p) ps
both_puts P Q [] h k = tt
both_puts P Q (p ∷ ps) h k = ((h.0, k.0), both_puts P Q ps h.1 k.1)

module _ (play : Play) (Claim : ℕ → Type 0) where
  abbrev Word : ℕ → ℕ
  Word = draw_word play.script.key

  abbrev pub MadeIn : World → Bit Name → Type 0
  MadeIn w b = IsMade Claim w.vats w.drawn b

  -- a note from v to u
  abbrev pub NoteFits : World → ℕ → ℕ → Note Name → Type 0
  NoteFits w v u n = NoteOk (MadeIn w) n × IsBetween v u n

  abbrev pub LinkFits : World → Link → Type 0
  LinkFits w = LinkOf (NoteFits w)

  pub record VatFits (w : World) (v : ℕ) (s : Vat Name) : Type 0 where
    pub parts : Parts (MadeIn w) s.things s.slots s.lists s.queue s.known s.gifts s.outbox
    pub own : Whole Word v Each s

  pub record Fits (w : World) : Type 0 where
    pub vats : (v : ℕ) (s : Vat Name) → slice_get w.vats v ≡ Some s → (IsHostile play v → ⊥) → VatFits w v s
    pub links : AllOf (LinkFits w) w.links
    pub connections : AllOf (TablesFit (WasMade Claim w.vats w.drawn)) w.connections

  -- what stands in frames, and the lines, where those connections fit
  pub beside_fits : (w : World) (es : List Event) (cs : List Connected) → AllOf (TablesFit (WasMade Claim w.vats w.drawn)) cs → Fits w → Fits (record w { connections = cs; history = es })
  beside_fits w es cs f h = record { vats = λ v s i o. let g = h.vats v s i o in record { parts = g.parts; own = g.own }; links = h.links; connections = f }

  pub linked_fits : (w : World) (es : List Event) (ls : List Link) → AllOf (LinkFits w) ls → Fits w → Fits (record w { links = ls; history = es })
  linked_fits w es ls f h = record { vats = λ v s i o. let g = h.vats v s i o in record { parts = g.parts; own = g.own }; links = f; connections = h.connections }

  -- ---- a vat went on

  module _ (w : World) (v : ℕ) (s : Vat Name) (there : slice_get w.vats v ≡ Some s) (h : Fits w) (r : Vat Name) (promises : s.promises ≤ r.promises) (messages : s.messages ≤ r.messages) (draws : (x : ℕ) → IsAmong x w.drawn → IsAmong x r.drawn) where
    abbrev Next : Bit Name → Type 0
    Next b = IsMade Claim (put_at v r w.vats) r.drawn b

    pub made_next : (b : Bit Name) → MadeIn w b → Next b
    made_next b i = is_made_up Claim w.vats (put_at v r w.vats) w.drawn r.drawn (λ u. promises_put w.vats v s r u there promises) (λ u. messages_put w.vats v s r u there messages) draws b i

    pub tables_next : AllOf (TablesFit (WasMade Claim (put_at v r w.vats) r.drawn)) w.connections
    tables_next = all_map (λ c k. fit_up (WasMade Claim w.vats w.drawn) (WasMade Claim (put_at v r w.vats) r.drawn) (λ n i. made_next (Named n) i) c k) w.connections h.connections

    abbrev PutFits : Put Name → Type 0
    PutFits p = NoteOk Next p.note × IsBetween v p.to p.note

    abbrev NoteNext : ℕ → ℕ → Note Name → Type 0
    NoteNext a u n = NoteOk Next n × IsBetween a u n

    abbrev LinkNext : Link → Type 0
    LinkNext = LinkOf NoteNext

    note_next : (a u : ℕ) (n : Note Name) → NoteFits w a u n → NoteOk Next n × IsBetween a u n
    note_next a u n i = (note_up (MadeIn w) Next made_next n i.0, i.1)

    pushing : (p : Put Name) → PutFits p → (l : Link) → l.from ≡ v → l.to ≡ p.to → LinkNext l → LinkNext (world.pushed p.note l)
    unfolding world.pushed
    pushing p i l e f k = pushed_link NoteNext l.cut p.note l (subst (λ x. NoteNext x l.to p.note) (sym e) (subst (λ x. NoteNext v x p.note) (sym f) i)) k

    links_next : AllOf PutFits r.outbox → AllOf LinkNext (world.push_all v r.outbox w.links)
    links_next puts = push_all_holds LinkNext v r.outbox w.links (all_map (λ p i l e f k. pushing p i l e f k) r.outbox puts)
        (all_map (λ l i. (all_map (note_next l.from l.to) l.log i.0, all_map (note_next l.from l.to) l.notes i.1)) w.links h.links)

    abbrev VatNext : ℕ → Vat Name → Type 0
    VatNext u q = Parts Next q.things q.slots q.lists q.queue q.known q.gifts q.outbox × Whole Word u Each q

    other_next : (u : ℕ) (q : Vat Name) → VatFits w u q → VatNext u q
    other_next u q k = (parts_up (MadeIn w) Next made_next q.things q.slots q.lists q.queue q.known q.gifts q.outbox k.parts, k.own)

    each_next : ((IsHostile play v → ⊥) → VatNext v r) → (u : ℕ) (q : Vat Name) → (IsHostile play u → ⊥) → ((u ≡ v) × (r ≡ q)) ⊎ (slice_get w.vats u ≡ Some q) → VatNext u q
    each_next f u q o (inl e) = subst (λ z. VatNext u z) e.1 (subst (λ x. (IsHostile play x → ⊥) → VatNext x r) (sym e.0) f o)
    each_next f u q o (inr e) = other_next u q (h.vats u q e o)

    pub went_fits : (head : List Event) → ((IsHostile play v → ⊥) → VatNext v r) → AllOf PutFits r.outbox → AllOf (TablesFit (WasMade Claim (put_at v r w.vats) r.drawn)) (world.heard_by head w.connections) → Fits (went v w head r)
    unfolding went world.connections_after
    went_fits head f puts heard = record {
      vats = λ u q j o. let g = each_next f u q o (put_at_or v r w.vats u q j) in record { parts = g.0; own = g.1 };
      links = links_next puts;
      connections = write_all_fits Claim (put_at v r w.vats) r.drawn v r.outbox (world.heard_by head w.connections) puts heard;
    }

  -- ---- a step of an honest vat

  module _ (w : World) (v : ℕ) (s q : Vat Name) (there : slice_get w.vats v ≡ Some s) (h : Fits w) (honest : IsHostile play v → ⊥) (promises : s.promises ≤ q.promises) (messages : s.messages ≤ q.messages)
      (parts : Parts (MadeIn w) q.things q.slots q.lists q.queue q.known q.gifts q.outbox) (own : Whole Word v Each q) where
    abbrev pub T : Care Name
    T = claimed Claim w.vats v s there

    abbrev pub Ready : Vat Name
    Ready = readied w q

    made_ready : (b : Bit Name) → MadeIn w b → IsMade Claim (put_at v Ready w.vats) Ready.drawn b
    unfolding readied
    made_ready b i = is_made_up Claim w.vats (put_at v Ready w.vats) w.drawn w.drawn (λ u. promises_put w.vats v s Ready u there promises) (λ u. messages_put w.vats v s Ready u there messages) (λ x a. a) b i

    sound_ready : Sound T Ready
    unfolding readied
    sound_ready = record { parts = parts_up (MadeIn w) (T.ok Ready) made_ready q.things q.slots q.lists q.queue q.known q.gifts [] emptied; more = tt }
      where
        emptied : Parts (MadeIn w) q.things q.slots q.lists q.queue q.known q.gifts []
        emptied = record { things = parts.things; slots = parts.slots; lists = parts.lists; queue = parts.queue; known = parts.known; gifts = parts.gifts; outbox = tt }

    own_ready : Whole Word v Each Ready
    unfolding readied
    own_ready = (own.0, own.1, own.2, own.3, tt, λ u e. tt)

    ends_given : (d : Done Name (Unit {0})) (t : Vat Name) → Ends T nothing Ready d → d ≡ Gives tt t → Grows Ready t × Sound T t
    ends_given d t k e = let one : Ends T nothing Ready (Gives (tt {0}) t) = rw e at k in (one.0, one.1)

    own_given : (d : Done Name (Unit {0})) (t : Vat Name) → GivesBy (KeepsOwn Word v Each) Ready d → d ≡ Gives tt t → Whole Word v Each t
    own_given d t k e = let one : GivesBy (KeepsOwn Word v Each) Ready (Gives (tt {0}) t) = rw e at k in (one own_ready).0

    grown_promises : (t : Vat Name) → Grows Ready t → s.promises ≤ t.promises
    unfolding readied
    grown_promises t g = let a : q.promises ≤ t.promises = g.promises in omega arith

    grown_messages : (t : Vat Name) → Grows Ready t → s.messages ≤ t.messages
    unfolding readied
    grown_messages t g = let a : q.messages ≤ t.messages = g.messages in omega arith

    grown_draws : (t : Vat Name) → Grows Ready t → (x : ℕ) → IsAmong x w.drawn → IsAmong x t.drawn
    unfolding readied
    grown_draws t g = g.draws

    pub stepped_fits : (C : Fact Name) (m : Act Name (Unit {0})) (t : Vat Name) (head : List Event) → Fine T C m nothing → Holds (T.ok Ready) C → GivesBy (KeepsOwn Word v Each) Ready (m Ready) → m Ready ≡ Gives tt t
        → ((cs : List Connected) → ((b : Bit Name) → MadeIn w b → IsMade Claim (put_at v t w.vats) t.drawn b) → AllOf (TablesFit (WasMade Claim (put_at v t w.vats) t.drawn)) cs → AllOf (TablesFit (WasMade Claim (put_at v t w.vats) t.drawn)) (world.heard_by head cs)) → Fits (went v w head t)
    stepped_fits C m t head f d own' e heard = let g = ends_given (m Ready) t (f.after Ready sound_ready d) e in let o = own_given (m Ready) t own' e in let a = grown_promises t g.0 in let b = grown_messages t g.0 in let x = grown_draws t g.0 in
        let sound = g.1 in went_fits w v s there h t a b x head (λ i. (sound.parts, o)) (both_puts (λ p. NoteOk (T.ok t) p.note) (λ p. IsBetween v p.to p.note) t.outbox (all_map (λ p k. k.0) t.outbox sound.parts.outbox) o.4)
        (heard w.connections (made_next w v s there h t a b x) (tables_next w v s there h t a b x))

    pub ready_holds : (b : Bit Name) → MadeIn w b → T.ok Ready b
    ready_holds b i = made_ready b i
