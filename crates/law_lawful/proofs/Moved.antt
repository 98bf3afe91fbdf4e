-- Each move of a run in which frames are injected keeps what is so of its worlds.
use Rattle.std.proofs.Common.{◌≡◌, ℕ, Bool, true, false, List, [], ◌∷◌, ◌++◌, Some, refl, sym, subst, ap, inl, inr, arith}
use Rattle.std.specs.Prelude.{slice_get}
use Rattle.def_machine.specs.Values.{Name, Root, naming, host_of, word_of, mail_of, answer_of}
use Rattle.def_machine.specs.State.{Binding, Message, Note, Deliver, Vat, Gives, ◌>>=◌, ◌>>◌, and_then, give, mail, send_out}
use Rattle.def_machine.specs.Arrive as arrive
use Rattle.def_machine.specs.Arrive.{New}
use Rattle.def_machine.specs.Eval.{opening, taking}
use Rattle.def_machine.proofs.Keys.{word_key}
use Rattle.def_kernel.specs.declared.node.Node.{Node}
use Rattle.def_run.specs.Draws.{draw_word}
use Rattle.def_run.specs.Deeds.{Learns, perform, hear, hear_message}
use Rattle.def_run.specs.Entered.{entered, imports_placed}
use Rattle.def_run.specs.Marks as marks
use Rattle.def_run.specs.Wire.{Connected, hear_at}
use Rattle.def_run.specs.World as world
use Rattle.def_run.specs.World.{Script, Program, CutLink, Event, Carried, Link, World, Goes, put_at, readied, names, names_of, read_note, link_at, with_link, with_notes}
use Rattle.def_hostile.specs.Hostile.{Play}
use Rattle.law_machine.specs.Machine.Steps.{Step, Opens as Starts, Takes, Receives, Notices, does}
use Rattle.law_machine.specs.Run.Moves.{IsAlone, Does, TellsOfNoNote, went, without}
use Rattle.law_adversary.specs.Moves.{placed_from}
use Rattle.law_fate.specs.Name.Names.{Bit, Named, Drew, AllOf, IsAmong, NoteOk, MessageOk, Parts}
use Rattle.law_fate.proofs.Name.Among.{among_more}
use Rattle.law_fate.proofs.Name.Facts.{all_map, note_up, message_up, Nothing, IsMessage, NoteDoes, nothing}
use Rattle.law_fate.proofs.Name.Care.{Fine, fine_give, parts_up}
use Rattle.law_reference.proofs.Reference.OwnKeeps.{Whole, own_give}
use Rattle.law_reference.proofs.Reference.OwnRuns.{Each, rest_of, answer_of_own}
use Rattle.law_reference.proofs.Reference.OwnTurns.{own_taking, own_opening}
use Rattle.law_reference.proofs.Reference.OwnArrive.{own_arrive, own_notice}
use Rattle.law_hostile.specs.Entering.{HoldsOfEntries}
use Rattle.law_hostile.proofs.Comes.{as_before, one_more, Coming, Passes, Lands}
use Rattle.law_hostile.proofs.EnteredNames.{keeps_names, keeps_ends}
use Rattle.law_hostile.proofs.Links.{with_link_holds, found_holds}
use Rattle.law_injected.specs.HostileRuns.{IsHostile}
use Rattle.law_lawful.specs.Claims.{WasMade, IsMade}
use Rattle.law_lawful.specs.Tables.{TablesFit}
use Rattle.law_lawful.proofs.Arrives.{fine_note, fine_turn, fine_noticed, fine_open}
use Rattle.law_lawful.proofs.Claimed.{claimed, is_made_up}
use Rattle.law_lawful.proofs.Prepared.{Prepared, on, learns}
use Rattle.law_lawful.proofs.Steps.{MadeIn, NoteFits, LinkFits, VatFits, Fits, beside_fits, linked_fits, stepped_fits, ready_holds, note_free}
use Rattle.law_lawful.proofs.Tables.{fit_up, hear_fits, imports_placed_fit}

given : (a x b : Vat Name) → Prepared a x 0 0 → Gives (tt {0}) x ≡ Gives (tt {0}) b → Prepared a b 0 0
given a x b h e = let same : x ≡ b = cc in rw same at h

same : (a : Vat Name) → Prepared a a 0 0
same a = record { promises = omega arith; messages = omega arith; drawn = refl; outbox = refl }

module _ (script : Script) (v : ℕ) where
  -- its answer comes to be known, or is known
  message_came : (m : Name) (a b : Vat Name) → (arrive.learn_message (names script v) (New m (host_of m)) >>= (λ id. perform script v (Learns (answer_of v id)))) a ≡ Gives (tt {0}) b → Prepared a b 0 0
  unfolding ◌>>=◌ and_then arrive.learn_message mail names naming mail_of
  message_came m a b e = on a _ b 0 0 0 0 (record { promises = omega arith; messages = omega arith; drawn = refl; outbox = refl }) (learns script v _ _ b e)

  lone_came : (m : Name) (a b : Vat Name) → (arrive.learn_message (names script v) (New m (host_of m)) >> give (tt {0})) a ≡ Gives (tt {0}) b → Prepared a b 0 0
  unfolding ◌>>◌ and_then give arrive.learn_message mail names naming mail_of
  lone_came m a b e = given a _ b (record { promises = omega arith; messages = omega arith; drawn = refl; outbox = refl }) e

  came : (m : Name) (asks : Bool) (a b : Vat Name) → hear_message script v m asks a ≡ Gives tt b → Prepared a b 0 0
  unfolding hear_message
  came m true a b e = message_came m a b e
  came m false a b e = lone_came m a b e

  -- a hostile vat that hears a note puts none
  pub heard_quiet : (n : Note Name) (a b : Vat Name) → hear script v n a ≡ Gives tt b → Prepared a b 0 0
  unfolding hear give
  heard_quiet (Deliver d x verb ys) a b e = came d.message d.asks a b e
  heard_quiet other a b e = given a a b (same a) e

pub sent_is : (u : ℕ) (n : Note Name) (t r : Vat Name) → send_out u n t ≡ Gives tt r → r ≡ record t { outbox = t.outbox ++ record { to = u; note = n } ∷ [] }
unfolding send_out
sent_is u n t r e = cc

module _ (play : Play) (Claim : ℕ → Type 0) where
  abbrev Word : ℕ → ℕ
  Word = draw_word play.script.key

  abbrev Tables : World → List Connected → Type 0
  Tables w cs = AllOf (TablesFit (WasMade Claim w.vats w.drawn)) cs

  is_so : (x y : World) → Fits play Claim x → y ≡ x → Fits play Claim y
  is_so x y h e = subst (λ z. Fits play Claim z) (sym e) h

  -- ---- a note leaves its link

  pub left_fits : (a v : ℕ) (l : Link) (n : Note Name) (ns : List (Note Name)) (w : World) → link_at a v w.links ≡ Some l → l.notes ≡ n ∷ ns → Fits play Claim w → Fits play Claim (without a v ns w) × NoteFits play Claim w a v n
  unfolding without with_notes
  left_fits a v l n ns w i e h = let found = found_holds (LinkFits play Claim w) a v w.links l h.links i in let both : AllOf (NoteFits play Claim w l.from l.to) (n ∷ ns) = subst (λ z. AllOf (NoteFits play Claim w l.from l.to) z) e found.0.1 in
      let here : AllOf (NoteFits play Claim w a v) (n ∷ ns) = subst (λ z. AllOf (NoteFits play Claim w a z) (n ∷ ns)) found.2 (subst (λ z. AllOf (NoteFits play Claim w z l.to) (n ∷ ns)) found.1 both) in (
        linked_fits play Claim w w.history (with_link (with_notes ns) a v w.links) (with_link_holds (LinkFits play Claim w) (with_notes ns) a v (λ j f g k. (k.0, subst (λ z. AllOf (NoteFits play Claim w j.from z) ns) (sym g) (subst (λ z. AllOf (NoteFits play Claim w z v) ns) (sym f) here.1))) w.links h.links) h,
        here.0,
      )

  without_there : (a v : ℕ) (ns : List (Note Name)) (w : World) (u : ℕ) (s : Vat Name) → slice_get w.vats u ≡ Some s → slice_get (without a v ns w).vats u ≡ Some s
  unfolding without
  without_there a v ns w u s e = e

  without_note : (a v : ℕ) (ns : List (Note Name)) (w : World) (n : Note Name) → NoteFits play Claim w a v n → NoteFits play Claim (without a v ns w) a v n
  unfolding without
  without_note a v ns w n h = h

  cut_links : (w : World) (a b : ℕ) → Fits play Claim w → AllOf (LinkFits play Claim w) (with_link world.severed_link a b w.links)
  unfolding world.severed_link
  cut_links w a b h = with_link_holds (LinkFits play Claim w) world.severed_link a b (λ j f g k. (k.0, tt)) w.links h.links

  going_is : (x y : World) → Goes x ≡ Goes y → y ≡ x
  going_is x y e = cc

  pub cut_fits : (k a b : ℕ) (w y : World) → Fits play Claim w → world.step play.script (CutLink a b) k w ≡ Goes y → Fits play Claim y
  unfolding world.step world.cut world.severed_link
  cut_fits k a b w y h e = is_so _ y (linked_fits play Claim w _ _ (with_link_holds (LinkFits play Claim w) world.severed_link b a (λ j f g i. (i.0, tt)) (with_link world.severed_link a b w.links) (cut_links w a b h)) h) (going_is _ y e)

  -- ---- steps that no note begins

  quiet_heard : (head : List Event) → TellsOfNoNote head → (P : Connected → Type 0) (cs : List Connected) → AllOf P cs → AllOf P (world.heard_by head cs)
  quiet_heard head q P cs k = subst (λ z. AllOf P z) (sym (q cs)) k

  module _ (w : World) (v : ℕ) (s t : Vat Name) (head : List Event) (there : slice_get w.vats v ≡ Some s) (h : Fits play Claim w) (honest : IsHostile play v → ⊥) (quiet : TellsOfNoNote head) where
    at : VatFits play Claim w v s
    at = h.vats v s there honest

    root_own : (root : Name) → root ≡ Root v → host_of root ≡ v
    unfolding host_of
    root_own root e = ap host_of e

    started : (tree : List Node) (depth : ℕ) (root : Name) (bs : List (Binding Name)) (p : Program) → root ≡ Root v → bs ≡ world.given play.script.vats p.knows → opening (naming Word v) tree depth root bs (readied w s) ≡ Gives tt t → Fits play Claim (went v w head t)
    started tree depth root bs p i j e = stepped_fits play Claim w v s s there h honest (omega arith) (omega arith) at.parts at.own Nothing (opening (naming Word v) tree depth root bs) t head
        (subst (λ x. Fine (claimed Claim w.vats v s there) Nothing (opening (naming Word v) tree depth root x) nothing) (sym j) (subst (λ x. Fine (claimed Claim w.vats v s there) Nothing (opening (naming Word v) tree depth x (world.given play.script.vats p.knows)) nothing) (sym i) (fine_open Claim w.vats v s there Word tree depth play.script.vats p.knows)))
        tt ((own_opening Word v Each tree depth root bs (root_own root i)).after (readied w s)) e (λ cs up k. quiet_heard head quiet _ cs k)

    noticed : (u : ℕ) → arrive.notice (naming Word v) u (readied w s) ≡ Gives tt t → Fits play Claim (went v w head t)
    noticed u e = stepped_fits play Claim w v s s there h honest (omega arith) (omega arith) at.parts at.own Nothing (arrive.notice (naming Word v) u) t head (fine_noticed Claim w.vats v s there Word u)
        tt ((own_notice Word v Each u).after (readied w s)) e (λ cs up k. quiet_heard head quiet _ cs k)

    taken : (tree : List Node) (depth : ℕ) (n : Message Name) (ms : List (Message Name)) → s.queue ≡ n ∷ ms → taking (naming Word v) tree depth n (readied w (record s { queue = ms })) ≡ Gives tt t → Fits play Claim (went v w head t)
    taken tree depth n ms i e = let g = at in let p = g.parts in let o = g.own in let q : Vat Name = record s { queue = ms } in let waiting : AllOf (MessageOk (MadeIn play Claim w)) (n ∷ ms) = subst (λ z. AllOf (MessageOk (MadeIn play Claim w)) z) i p.queue in
        let parts : Parts (MadeIn play Claim w) s.things s.slots s.lists ms s.known s.gifts s.outbox = record { things = p.things; slots = p.slots; lists = p.lists; queue = waiting.1; known = p.known; gifts = p.gifts; outbox = p.outbox } in
        let own : Whole Word v Each q = (o.0, rest_of play.script v s n ms i o.1, o.2, o.3, o.4, o.5) in
        stepped_fits play Claim w v s q there h honest (omega arith) (omega arith) parts own (IsMessage n) (taking (naming Word v) tree depth n) t head (fine_turn Claim w.vats v s there Word tree depth n)
        (message_up (MadeIn play Claim w) _ (ready_holds play Claim w v s q there h honest (omega arith) (omega arith) parts own) n waiting.0)
        ((own_taking Word v Each tree depth n (answer_of_own play.script v s n ms i o.1)).after (readied w q)) e (λ cs up k. quiet_heard head quiet _ cs k)

    readied_is : (q : Vat Name) (what : Step Name Name) → q ≡ s → does (names play.script v) what (readied w q) ≡ Gives tt t → does (names play.script v) what (readied w s) ≡ Gives tt t
    readied_is q what i e = subst (λ z. does (names play.script v) what (readied w z) ≡ Gives tt t) i e

    pub alone_fits : (q : Vat Name) (what : Step Name Name) → IsAlone what → Does play.script w v s q t what → Fits play Claim (went v w head t)
    unfolding does names
    alone_fits q (Starts tree depth root bs) a d = let b = d.begins in let f = b.2 in let g = b.5 in let j = b.6 in started tree depth root bs b.0 g j (readied_is q (Starts tree depth root bs) f d.gives)
    alone_fits q (Takes tree depth n) a d = let b = d.begins in let i = b.1 in let j = b.2 in taken tree depth n b.0 i (subst (λ z. taking (naming Word v) tree depth n (readied w z) ≡ Gives tt t) j d.gives)
    alone_fits q (Notices u) a d = noticed u (readied_is q (Notices u) d.begins d.gives)
    alone_fits q (Receives from n) a d = absurd a

  -- ---- a note arrives

  pub heard_fits : (x : World) (a v : ℕ) (z : Note Name) (k : ℕ) (frame : List ℕ) → NoteFits play Claim x a v z → (vats : List (Vat Name)) (d : List ℕ) → ((b : Bit Name) → MadeIn play Claim x b → IsMade Claim vats d b) → (cs : List Connected)
      → AllOf (TablesFit (WasMade Claim vats d)) cs → AllOf (TablesFit (WasMade Claim vats d)) (world.heard_by (Carried k a v z frame ∷ []) cs)
  unfolding world.heard_by
  heard_fits x a v z k frame told vats d up cs i = hear_fits Claim vats d a v z cs (note_up (MadeIn play Claim x) (IsMade Claim vats d) up z told.0) told.1 i

  -- a note arrives from vat a at vat v, being s, which is then t; what these lines tell arrives on connections that fit
  module _ (x : World) (h : Fits play Claim x) (a v : ℕ) (s t : Vat Name) (there : slice_get x.vats v ≡ Some s) (honest : IsHostile play v → ⊥) (head : List Event)
      (heard : (vats : List (Vat Name)) (d : List ℕ) → ((b : Bit Name) → MadeIn play Claim x b → IsMade Claim vats d b) → (cs : List Connected) → AllOf (TablesFit (WasMade Claim vats d)) cs → AllOf (TablesFit (WasMade Claim vats d)) (world.heard_by head cs)) where
    arrives_by : (m : Note Name) → NoteOk (MadeIn play Claim x) m → arrive.arrive (names play.script v) a (read_note (names_of s) m) (readied x s) ≡ Gives tt t → Fits play Claim (went v x head t)
    unfolding names names_of readied
    arrives_by m ok e = let g = h.vats v s there honest in stepped_fits play Claim x v s s there h honest (omega arith) (omega arith) g.parts g.own (NoteDoes m) (arrive.arrive (naming Word v) a (read_note (names_of s) m)) t head
        (fine_note Claim x.vats v s there Word a (names_of s) m)
        (note_up (MadeIn play Claim x) _ (ready_holds play Claim x v s s there h honest (omega arith) (omega arith) g.parts g.own) m ok)
        (own_arrive Word v Each a (readied x s) m (note_free Word v Claim x.vats x.drawn (names_of s) m ok)) e (λ cs up i. heard _ _ up cs i)

    passes_by : readied x s ≡ t → Fits play Claim (went v x head t)
    unfolding give
    passes_by e = let g = h.vats v s there honest in stepped_fits play Claim x v s s there h honest (omega arith) (omega arith) g.parts g.own Nothing (give (tt {0})) t head
        (fine_give _ (tt {0}) (record { at = λ r c. tt })) tt ((own_give Word v Each (tt {0})).after (readied x s)) (ap (λ y. Gives (tt {0}) y) e) (λ cs up i. heard _ _ up cs i)

  module _ (x : World) (h : Fits play Claim x) (a v : ℕ) (s t : Vat Name) (there : slice_get x.vats v ≡ Some s) (honest : IsHostile play v → ⊥) (z : Note Name) (k : ℕ) (frame : List ℕ) (told : NoteFits play Claim x a v z) where
    pub arrived_fits : (m : Note Name) → NoteOk (MadeIn play Claim x) m → arrive.arrive (names play.script v) a (read_note (names_of s) m) (readied x s) ≡ Gives tt t → Fits play Claim (went v x (Carried k a v z frame ∷ []) t)
    arrived_fits m ok e = arrives_by x h a v s t there honest (Carried k a v z frame ∷ []) (heard_fits x a v z k frame told) m ok e

  -- ---- a note is received by its entries

  entries_made : (w : World) → HoldsOfEntries (MadeIn play Claim w)
  unfolding marks.base marks.placed
  entries_made w = record {
    unmarked = λ h i p. word_same w (marks.base i) i (word_key _ (word_of i)) p;
    placed_too = λ h i p. word_same w (marks.placed i) i (word_key _ (word_of i)) p;
    passed = λ h i p q. q;
  }
    where
      word_same : (w : World) (j i : ℕ) → word_of j ≡ word_of i → MadeIn play Claim w (Drew i) → MadeIn play Claim w (Drew j)
      word_same w j i e (inl a) = inl (subst (λ x. IsAmong x w.drawn) (sym e) a)
      word_same w j i e (inr c) = inr (subst Claim (sym e) c)

  entered_fits : (w : World) (a v : ℕ) (exports ks : List Name) (n : Note Name) → NoteFits play Claim w a v n → NoteFits play Claim w a v (entered v a exports ks n)
  entered_fits w a v exports ks n i = (keeps_names (MadeIn play Claim w) (entries_made w) v a exports ks n i.0, keeps_ends v a exports ks n i.1)

  -- a word more was drawn
  drawn_made : (w : World) (i : ℕ) (b : Bit Name) → MadeIn play Claim w b → MadeIn play Claim (record w { drawn = w.drawn ++ i ∷ [] }) b
  drawn_made w i b h = is_made_up Claim w.vats w.vats w.drawn (w.drawn ++ i ∷ []) (λ u. omega arith) (λ u. omega arith) (λ x a. among_more x w.drawn i a) b h

  drawn_note : (w : World) (i a v : ℕ) (n : Note Name) → NoteFits play Claim w a v n → NoteFits play Claim (record w { drawn = w.drawn ++ i ∷ [] }) a v n
  drawn_note w i a v n k = (note_up (MadeIn play Claim w) (MadeIn play Claim (record w { drawn = w.drawn ++ i ∷ [] })) (drawn_made w i) n k.0, k.1)

  drawn_fits : (w : World) (i : ℕ) → Fits play Claim w → Fits play Claim (record w { drawn = w.drawn ++ i ∷ [] })
  drawn_fits w i h = let x : World = record w { drawn = w.drawn ++ i ∷ [] } in record {
    vats = λ v s j o. let g = h.vats v s j o in record { parts = parts_up (MadeIn play Claim w) (MadeIn play Claim x) (drawn_made w i) s.things s.slots s.lists s.queue s.known s.gifts s.outbox g.parts; own = g.own };
    links = all_map (λ l k. (all_map (drawn_note w i l.from l.to) l.log k.0, all_map (drawn_note w i l.from l.to) l.notes k.1)) w.links h.links;
    connections = all_map (λ c k. fit_up (WasMade Claim w.vats w.drawn) (WasMade Claim w.vats (w.drawn ++ i ∷ [])) (λ n j. drawn_made w i (Named n) j) c k) w.connections h.connections;
  }

  drawn_apart : (w : World) (i v : ℕ) (head : List Event) (t : Vat Name) → Fits play Claim (went v (record w { drawn = w.drawn ++ i ∷ [] }) head t) → Fits play Claim (went v w head t)
  unfolding went
  drawn_apart w i v head t h = h

  -- the world once the note left its link, and was heard, and vat v imported as its entries what came with it
  abbrev pub Imported : ℕ → ℕ → List (Note Name) → Note Name → World → World
  Imported a v ns m w = record w { links = with_link (with_notes ns) a v w.links; connections = imports_placed v a (hear_at a v m w.connections) }

  imported_fits : (a v : ℕ) (ns : List (Note Name)) (m : Note Name) (w : World) → Fits play Claim (without a v ns w) → NoteFits play Claim w a v m → Fits play Claim (Imported a v ns m w)
  unfolding without
  imported_fits a v ns m w h told = beside_fits play Claim (without a v ns w) w.history (imports_placed v a (hear_at a v m w.connections))
      (imports_placed_fit Claim w.vats w.drawn v a (hear_at a v m w.connections) (hear_fits Claim w.vats w.drawn a v m w.connections told.0 told.1 h.connections)) h

  none_heard : (x : World) (vats : List (Vat Name)) (d : List ℕ) → ((b : Bit Name) → MadeIn play Claim x b → IsMade Claim vats d b) → (cs : List Connected) → AllOf (TablesFit (WasMade Claim vats d)) cs → AllOf (TablesFit (WasMade Claim vats d)) (world.heard_by [] cs)
  unfolding world.heard_by
  none_heard x vats d up cs i = i

  readied_apart : (w : World) (i v : ℕ) (s t : Vat Name) (a : ℕ) (ns : List (Note Name)) (z m : Note Name) → arrive.arrive (names play.script v) a (read_note (names_of s) m) (readied (record w { drawn = w.drawn ++ i ∷ [] }) s) ≡ Gives tt t
      → arrive.arrive (names play.script v) a (read_note (names_of s) m) (readied (record (Imported a v ns z w) { drawn = w.drawn ++ i ∷ [] }) s) ≡ Gives tt t
  unfolding readied
  readied_apart w i v s t a ns z m e = e

  readied_imported : (w : World) (v : ℕ) (s t : Vat Name) (a : ℕ) (ns : List (Note Name)) (z m : Note Name) → arrive.arrive (names play.script v) a (read_note (names_of s) m) (readied w s) ≡ Gives tt t → arrive.arrive (names play.script v) a (read_note (names_of s) m) (readied (Imported a v ns z w) s) ≡ Gives tt t
  unfolding readied
  readied_imported w v s t a ns z m e = e

  passed_imported : (w : World) (v : ℕ) (s t : Vat Name) (a : ℕ) (ns : List (Note Name)) (z : Note Name) → readied w s ≡ t → readied (Imported a v ns z w) s ≡ t
  unfolding readied
  passed_imported w v s t a ns z e = e

  -- what vat v puts is written behind what it heard and imported; the lines of that do not matter
  placed_fits : (a v : ℕ) (ns : List (Note Name)) (m : Note Name) (w : World) (head : List Event) (t : Vat Name) → Fits play Claim (went v (Imported a v ns m w) [] t) → Fits play Claim (placed_from a v m w t (went v (without a v ns w) head t))
  unfolding went without world.connections_after world.heard_by
  placed_fits a v ns m w head t h = beside_fits play Claim (went v (Imported a v ns m w) [] t) (went v (without a v ns w) head t).history (went v (Imported a v ns m w) [] t).connections h.connections h

  imported_next : (w : World) (a v : ℕ) (l : Link) (n m : Note Name) (ns : List (Note Name)) (s t : Vat Name) → Fits play Claim w → (IsHostile play v → ⊥) → NoteFits play Claim w a v n → Fits play Claim (Imported a v ns m w) → slice_get w.vats v ≡ Some s → Coming play.script w a v s t n
      → Fits play Claim (went v (Imported a v ns m w) [] t)
  imported_next w a v l n z ns s t h o told fits q (Passes none e) = let x : World = Imported a v ns z w in passes_by x fits a v s t q o [] (none_heard x) (passed_imported w v s t a ns z e)
  imported_next w a v l n z ns s t h o told fits q (Lands _ m as_before alike f) = let x : World = Imported a v ns z w in
      arrives_by x fits a v s t q o [] (none_heard x) m (alike.names (MadeIn play Claim x) (entries_made x) told.0) (readied_imported w v s t a ns z m f)
  imported_next w a v l n z ns s t h o told fits q (Lands _ m (one_more d) alike f) = let x : World = Imported a v ns z w in let y : World = record x { drawn = x.drawn ++ d ∷ [] } in let more = drawn_note x d a v n told in
      drawn_apart x d v [] t (arrives_by y (drawn_fits x d fits) a v s t q o [] (none_heard y) m (alike.names (MadeIn play Claim y) (entries_made y) more.0) (readied_apart w d v s t a ns z m f))

  pub received_fits : (w : World) (a v : ℕ) (l : Link) (n : Note Name) (ns : List (Note Name)) (s t : Vat Name) (head : List Event) (exports ks : List Name) → Fits play Claim w → (IsHostile play v → ⊥) → link_at a v w.links ≡ Some l → l.notes ≡ n ∷ ns → slice_get w.vats v ≡ Some s → Coming play.script w a v s t n
      → Fits play Claim (placed_from a v (entered v a exports ks n) w t (went v (without a v ns w) head t))
  received_fits w a v l n ns s t head exports ks h o i j q c = let left = left_fits a v l n ns w i j h in let m : Note Name = entered v a exports ks n in
      placed_fits a v ns m w head t (imported_next w a v l n m ns s t h o left.1 (imported_fits a v ns m w left.0 (entered_fits w a v exports ks n left.1)) q c)
