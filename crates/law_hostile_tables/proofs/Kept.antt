-- Each honest vat stands so in each world of a run with hostile vats.
use Rattle.std.proofs.Common.{◌≡◌, ℕ, zero, Bool, true, false, List, [], ◌∷◌, ◌++◌, Option, Some, None, refl, sym, ap, subst, ◌∙◌, inr, append-nil, codes, map, ◌+◌, arith}
use Rattle.std.specs.Prelude.{slice_get}
use Rattle.def_machine.specs.Values.{Name, Broken, naming, name_of, host_of}
use Rattle.def_machine.specs.State.{Note, Deliver, Elsewhere, Put, Vat, Done, Gives, Act, ◌>>=◌, ◌>>◌, and_then, give, come, draw, begun}
use Rattle.def_machine.specs.Refs.{settle}
use Rattle.def_machine.specs.Arrive as arriving
use Rattle.def_machine.specs.Arrive.{Incoming, Old, New, arrive}
use Rattle.def_machine.specs.Receive.{Sight, receive, tells_nothing, leads_back, break_back}
use Rattle.def_run.specs.Draws.{draw_word}
use Rattle.def_run.specs.Wire.{connected_at}
use Rattle.def_run.specs.World as world
use Rattle.def_run.specs.World.{Script, Program, Carried, Link, World, link_at, names, names_of, read_note, readied, put_at}
use Rattle.def_hostile.specs.Hostile.{Play}
use Rattle.law_machine.specs.Machine.Receiving.{Receiving, Ignored, BrokenBack, Arrived}
use Rattle.law_machine.proofs.Machine.ReceivingLaws.{each_receiving}
use Rattle.law_machine.specs.Machine.Steps.{Step, Opens as Starts, Takes, Receives, Notices, does}
use Rattle.law_machine.specs.Run.Moves.{IsAlone, Does, went, without}
use Rattle.law_adversary.specs.Moves.{sight_at, entered_at, placed_from}
use Rattle.law_fate.specs.Name.Names.{AllOf, IsAmong, IsEventual, IsMessageName, NoteOk, names_in}
use Rattle.law_fate.proofs.Fates.Leads.{Leads, Ends, leads_then}
use Rattle.law_fate.proofs.Name.Among.{all_among, among_last, get_put}
use Rattle.law_fate.proofs.Name.Facts.{all_append, all_map}
use Rattle.law_fate.proofs.Name.Run.{fresh_at}
use Rattle.law_reference.specs.Reference.AnswerNames.{PutsNameAnswers}
use Rattle.law_frame.specs.Frame.Alike.{names_heard}
use Rattle.law_frame.specs.Frame.Lines.{carried_in}
use Rattle.law_frame.specs.Local.Told.{carried_by}
use Rattle.law_frame.proofs.Frame.ArriveAsking.{MailFits}
use Rattle.law_frame.proofs.Frame.Grow.{after_new}
use Rattle.law_frame.proofs.Frame.RefsAsking.{known_end, asking_settle}
use Rattle.law_frame.proofs.Frame.WireAsking.{Any, Telling, Asking, Steady, base, asking_draw, same_as, steady_on, grown}
use Rattle.law_frame.proofs.Local.ToldSteady.{telling, Ready}
use Rattle.law_hostile.specs.Entering.{HoldsOfEntries}
use Rattle.law_hostile.proofs.Comes.{comes}
use Rattle.law_hostile.proofs.EnteredNames.{keeps_names}
use Rattle.law_injected.specs.HostileRuns.{IsHostile, IsReached}
use Rattle.law_lawful.specs.Lawful.{AnyWord}
use Rattle.law_lawful.proofs.Moved.{alone_fits, arrived_fits, received_fits, left_fits}
use Rattle.law_lawful.proofs.Reached.{reached_fits}
use Rattle.law_lawful.proofs.Steps.{MadeIn, NoteFits, VatFits, Fits}
use Rattle.law_hostile_tables.proofs.Lift.{IsKept, held}
use Rattle.law_hostile_tables.proofs.Puts as puts
use Rattle.law_hostile_tables.proofs.Standing.{Standing, standing_after, message_made, mails_fit, heard_eventual, due_eventual, alone_steady, note_steady}

-- ---- what was put calls answers by their names

led_gives : (A : Type 0) (s t : Vat Name) (d : Done Name (Unit {0})) → Ends puts.Any (puts.Keeps A) s d → d ≡ Gives tt t → puts.Keeps A s t
led_gives A s t d h e = rw e at h

named_of : (A : Type 0) (s t : Vat Name) → puts.Keeps A s t → s.outbox ≡ [] → PutsNameAnswers t
named_of A s t k e = all_map (λ (p : Put Name) h. h.0) t.outbox (k.0 (subst (AllOf (puts.IsFit A)) (sym e) tt))

module _ (play : Play) (A : Type 0) (w : World) (v : ℕ) (s q t : Vat Name) where
  pub alone_keeps : (what : Step Name Name) → IsAlone what → Does play.script w v s q t what → puts.Keeps A (readied w q) t
  unfolding does names
  alone_keeps (Starts tree depth root given) o d = led_gives A (readied w q) t _ ((puts.fit_starting A (draw_word play.script.key) v tree depth root given).after (readied w q)) d.gives
  alone_keeps (Takes tree depth m) o d = led_gives A (readied w q) t _ ((puts.fit_taking A (draw_word play.script.key) v tree depth m).after (readied w q)) d.gives
  alone_keeps (Notices u) o d = led_gives A (readied w q) t _ ((puts.fit_notice A (draw_word play.script.key) v u).after (readied w q)) d.gives
  alone_keeps (Receives from m) o d = absurd o

arrive_keeps : (play : Play) (w : World) (v a : ℕ) (s t : Vat Name) (y : Note (Incoming Name Name)) → arrive (names play.script v) a y s ≡ Gives tt t → puts.Keeps (Unit {0}) s t
unfolding names
arrive_keeps play w v a s t y e = led_gives (Unit {0}) s t (arrive (naming (draw_word play.script.key) v) a y s) ((puts.fit_arrive (Unit {0}) (draw_word play.script.key) v tt a y).after s) e

-- ---- what the vat has after it

none_heard : (x : Name) → ⊥ → IsEventual x
none_heard x e = absurd e

module _ (play : Play) (w : World) (reached : IsReached play w) (v : ℕ) (s : Vat Name) (there : slice_get w.vats v ≡ Some s) (honest : IsHostile play v → ⊥) where
  fits : Fits play AnyWord w
  fits = reached_fits play w reached

  put_fits : (y : World) (t : Vat Name) → Fits play AnyWord y → slice_get y.vats v ≡ Some t → VatFits play AnyWord y v t
  put_fits y t f e = f.vats v t e honest

  unheard : (cs : List _) → world.heard_by [] cs ≡ cs
  unfolding world.heard_by
  unheard cs = refl

  went_there : (x : World) (t : Vat Name) (head : List _) → slice_get x.vats v ≡ Some s → slice_get (went v x head t).vats v ≡ Some t
  unfolding went
  went_there x t head e = get_put x.vats v s t e

  pub alone_fit : (q t : Vat Name) (what : Step Name Name) → IsAlone what → Does play.script w v s q t what → VatFits play AnyWord (went v w [] t) v t
  alone_fit q t what o d = put_fits (went v w [] t) t (alone_fits play AnyWord w v s t [] there fits honest unheard q what o d) (went_there w t [] there)

  module _ (h : Standing v s) where
    abbrev T : Option (Note Name) → Telling
    T o = telling play.script v (names_in s.known) o

    pub alone_stands : (q t : Vat Name) (what : Step Name Name) → IsAlone what → Does play.script w v s q t what → Standing v t
    unfolding readied carried_by
    alone_stands q t what o d = let f = alone_fit q t what o d in let parts = f.parts in
        standing_after v (telling play.script v (names_in s.known) None) (Ready w s None) t (alone_steady play w v s t h q what o d) none_heard none_heard none_heard
        h.eventual (all_append IsMessageName s.mails [] h.mails tt) h.gifts refl refl (mails_fit (went v w [] t).vats (went v w [] t).drawn t.outbox parts.outbox) (named_of ⊥ (readied w q) t (alone_keeps play ⊥ w v s q t what o d) refl)

    -- ---- a note comes

    carried_mails : (z : Note Name) → NoteOk (MadeIn play AnyWord w) z → AllOf IsMessageName (carried_in z)
    unfolding carried_in
    carried_mails (Deliver d n verb ys) ok = (message_made w.vats w.drawn d.message ok.0, tt)
    carried_mails other ok = tt

    pub note_stands : (z : Note Name) (t : Vat Name) → NoteOk (MadeIn play AnyWord w) z → Steady v (telling play.script v (names_in s.known) (Some z)) (Ready w s (Some z)) t → AllOf (λ (p : Put Name). MailFits p.note) t.outbox → PutsNameAnswers t → Standing v t
    unfolding readied carried_by
    note_stands z t ok st mail named = standing_after v (telling play.script v (names_in s.known) (Some z)) (Ready w s (Some z)) t st
        (λ x a. all_among IsEventual (names_heard (names_in s.known) z) x (heard_eventual w.vats w.drawn (names_in s.known) z ok h.eventual) a)
        (λ x a. all_among IsEventual (names_heard (names_in s.known) z) x (heard_eventual w.vats w.drawn (names_in s.known) z ok h.eventual) a)
        (λ x a. due_eventual w.vats w.drawn v z x ok a)
        h.eventual (all_append IsMessageName s.mails (carried_in z) h.mails (carried_mails z ok)) h.gifts refl refl mail named

    module _ (a : ℕ) (l : Link) (n : Note Name) (ns : List (Note Name)) (at : link_at a v w.links ≡ Some l) (notes : l.notes ≡ n ∷ ns) where
      told : NoteFits play AnyWord w a v n
      told = (left_fits play AnyWord a v l n ns w at notes fits).1

      pub note_made : NoteOk (MadeIn play AnyWord w) n
      note_made = told.0

      pub arrived_stands : (t : Vat Name) → arrive (names play.script v) a (read_note (names_of s) n) (readied w s) ≡ Gives tt t → Standing v t
      unfolding readied
      arrived_stands t e = let y : World = went v w (Carried 0 a v n [] ∷ []) t in
          let f = put_fits y t (arrived_fits play AnyWord w fits a v s t there honest n 0 [] told n told.0 e) (went_there w t (Carried 0 a v n [] ∷ []) there) in let parts = f.parts in
          note_stands n t told.0 (note_steady play w v s t h a n told.0 e) (mails_fit y.vats y.drawn t.outbox parts.outbox) (named_of (Unit {0}) (readied w s) t (arrive_keeps play w v a (readied w s) t (read_note (names_of s) n) e) refl)

      -- ---- it is received by its entries

      abbrev Z : Note Name
      Z = entered_at w a v s n

      entries_made : HoldsOfEntries (MadeIn play AnyWord w)
      entries_made = record { unmarked = λ g i p. inr tt; placed_too = λ g i p. inr tt; passed = λ g i p q. inr tt }

      pub entered_made : NoteOk (MadeIn play AnyWord w) (entered_at w a v s n)
      entered_made = keeps_names (MadeIn play AnyWord w) entries_made v a (connected_at a v w.connections).tables.exports (names_of s) n note_made

      silent : (z : Note Name) (S : Sight Name) → tells_nothing (names play.script v) S a (read_note (names_of s) z) (readied w s) ≡ true → carried_in z ≡ []
      unfolding carried_in tells_nothing read_note
      silent (Deliver d x verb ys) S e = cc
      silent other S e = refl

      ignored_steady : (z : Note Name) (t : Vat Name) → carried_in z ≡ [] → Gives (tt {0}) (readied w s) ≡ Gives (tt {0}) t → Steady v (telling play.script v (names_in s.known) (Some z)) (Ready w s (Some z)) t
      unfolding readied carried_by
      ignored_steady z t e f = let same : readied w s ≡ t = cc in subst (λ r. Steady v (telling play.script v (names_in s.known) (Some z)) (Ready w s (Some z)) r) same
          (same_as v (telling play.script v (names_in s.known) (Some z)) (Ready w s (Some z)) (readied w s) refl refl refl refl refl refl refl (sym (ap (λ ms. s.mails ++ ms) e ∙ append-nil s.mails)) refl h.number)

      -- a name that leads back breaks, once it is known and the draw is made
      abbrev B : Name → Act Name (Unit {0})
      B m = draw (naming (draw_word play.script.key) v) >> settle (naming (draw_word play.script.key) v) m (Broken (codes "cycle"))

      back_leads : (Q : Telling) (m : Name) → Leads Any (Asking v Q) (draw (naming Q.word v) >> settle (naming Q.word v) m (Broken (codes "cycle")))
      back_leads Q m = leads_then Any (Asking v Q) (base v Q) (asking_draw v Q) (asking_settle v Q m (Broken (codes "cycle")))

      gives_steady : (Q : Telling) (x t : Vat Name) (d : Done Name (Unit {0})) → Ends Any (Asking v Q) x d → x.number ≡ v → d ≡ Gives tt t → Steady v Q x t
      gives_steady Q x t d k e f = let g : Asking v Q x t = subst (Ends Any (Asking v Q) x) f k in g e

      back_by : (c : ℕ) (b : Bool) (m : Name) (t : Vat Name) → (b ≡ false → IsAmong m (names_heard (names_in s.known) (Elsewhere m c))) → break_back (naming (draw_word play.script.key) v) (Elsewhere (elim b [ true ↦ Old m | false ↦ New m (host_of m) ]) c) (readied w s) ≡ Gives tt t
          → Steady v (telling play.script v (names_in s.known) (Some (Elsewhere m c))) (readied w s) t
      unfolding break_back arriving.learn_name give come ◌>>=◌ and_then naming name_of readied
      back_by c true m t f e = let Q : Telling = telling play.script v (names_in s.known) (Some (Elsewhere m c)) in gives_steady Q (readied w s) t _ ((back_leads Q m).after (readied w s)) h.number e
      back_by c false m t f e = let Q : Telling = telling play.script v (names_in s.known) (Some (Elsewhere m c)) in let x : Vat Name = record (readied w s) { known = s.known ++ begun m (host_of m) ∷ [] } in
          steady_on v Q (readied w s) x t (grown v Q (readied w s) x m refl (known_end s.known m (host_of m)) refl refl refl refl refl refl refl (inr (inr (inr (f refl)))) h.number) (gives_steady Q x t _ ((back_leads Q m).after x) h.number e)

      new_heard : (c : ℕ) (m : Name) → world.is_old (names_in s.known) m ≡ false → IsAmong m (names_heard (names_in s.known) (Elsewhere m c))
      unfolding names_heard
      new_heard c m e = subst (IsAmong m) (sym (after_new (names_in s.known) m e)) (among_last (names_in s.known) m)

      back_steady : (z : Note Name) (S : Sight Name) (t : Vat Name) → leads_back (names play.script v) S (read_note (names_of s) z) (readied w s) ≡ true → break_back (names play.script v) (read_note (names_of s) z) (readied w s) ≡ Gives tt t → Steady v (telling play.script v (names_in s.known) (Some z)) (Ready w s (Some z)) t
      unfolding leads_back read_note world.read_name names names_of readied carried_by carried_in
      back_steady (Elsewhere m c) S t e f = let Q : Telling = telling play.script v (names_in s.known) (Some (Elsewhere m c)) in
          steady_on v Q (Ready w s (Some (Elsewhere m c))) (readied w s) t (same_as v Q (Ready w s (Some (Elsewhere m c))) (readied w s) refl refl refl refl refl refl refl (sym (append-nil s.mails)) refl h.number)
          (back_by c (world.is_old (names_in s.known) m) m t (new_heard c m) f)
      back_steady other S t e f = cc

      -- what it puts calls answers by their names
      back_keeps : (b : Bool) (c : ℕ) (m : Name) (x t : Vat Name) → break_back (naming (draw_word play.script.key) v) (Elsewhere (elim b [ true ↦ Old m | false ↦ New m (host_of m) ]) c) x ≡ Gives tt t → puts.Keeps (Unit {0}) x t
      unfolding break_back arriving.learn_name give come ◌>>=◌ and_then naming name_of
      back_keeps true c m x t e = led_gives (Unit {0}) x t _ ((leads_then puts.Any (puts.Keeps (Unit {0})) (puts.base (Unit {0})) (puts.fit_draw (Unit {0}) (draw_word play.script.key) v) (puts.fit_settle (Unit {0}) (draw_word play.script.key) v m (Broken (codes "cycle")))).after x) e
      back_keeps false c m x t e = let y : Vat Name = record x { known = x.known ++ begun m (host_of m) ∷ [] } in
          led_gives (Unit {0}) y t _ ((leads_then puts.Any (puts.Keeps (Unit {0})) (puts.base (Unit {0})) (puts.fit_draw (Unit {0}) (draw_word play.script.key) v) (puts.fit_settle (Unit {0}) (draw_word play.script.key) v m (Broken (codes "cycle")))).after y) e

      back_named : (z : Note Name) (S : Sight Name) (t : Vat Name) → leads_back (names play.script v) S (read_note (names_of s) z) (readied w s) ≡ true → break_back (names play.script v) (read_note (names_of s) z) (readied w s) ≡ Gives tt t → puts.Keeps (Unit {0}) (readied w s) t
      unfolding leads_back read_note world.read_name names
      back_named (Elsewhere m c) S t e f = back_keeps (world.is_old (names_of s) m) c m (readied w s) t f
      back_named other S t e f = cc

      module _ (uncut : l.cut ≡ false) (t : Vat Name) (gives : receive (names play.script v) (sight_at w a v s) a (read_note (names_of s) (entered_at w a v s n)) (readied w s) ≡ Gives tt t) where
        abbrev S : Sight Name
        S = sight_at w a v s

        pub received_steady : Steady v (telling play.script v (names_in s.known) (Some (entered_at w a v s n))) (Ready w s (Some (entered_at w a v s n))) t
        received_steady = by (each_receiving (names play.script v) (sight_at w a v s) a (read_note (names_of s) (entered_at w a v s n)) (readied w s))
          where
            by : Receiving (names play.script v) (sight_at w a v s) a (read_note (names_of s) (entered_at w a v s n)) (readied w s) → Steady v (telling play.script v (names_in s.known) (Some (entered_at w a v s n))) (Ready w s (Some (entered_at w a v s n))) t
            by (Ignored f g) = ignored_steady (entered_at w a v s n) t (silent (entered_at w a v s n) (sight_at w a v s) f) (sym g ∙ gives)
            by (BrokenBack f b g) = back_steady (entered_at w a v s n) (sight_at w a v s) t b (sym g ∙ gives)
            by (Arrived f b g) = note_steady play w v s t h a (entered_at w a v s n) entered_made (sym g ∙ gives)

        received_named : PutsNameAnswers t
        unfolding readied
        received_named = by (each_receiving (names play.script v) (sight_at w a v s) a (read_note (names_of s) (entered_at w a v s n)) (readied w s))
          where
            ignored : (x : Vat Name) → x.outbox ≡ [] → Gives (tt {0}) x ≡ Gives (tt {0}) t → PutsNameAnswers t
            ignored x e f = let same : x ≡ t = cc in subst PutsNameAnswers same (named_of (Unit {0}) x x (puts.same_as (Unit {0}) x x refl refl) e)

            by : Receiving (names play.script v) (sight_at w a v s) a (read_note (names_of s) (entered_at w a v s n)) (readied w s) → PutsNameAnswers t
            by (Ignored f g) = ignored (readied w s) refl (sym g ∙ gives)
            by (BrokenBack f b g) = named_of (Unit {0}) (readied w s) t (back_named (entered_at w a v s n) (sight_at w a v s) t b (sym g ∙ gives)) refl
            by (Arrived f b g) = named_of (Unit {0}) (readied w s) t (arrive_keeps play w v a (readied w s) t (read_note (names_of s) (entered_at w a v s n)) (sym g ∙ gives)) refl

        pub received_fit : VatFits play AnyWord (went v (without a v ns w) (Carried 0 a v (entered_at w a v s n) [] ∷ []) t) v t
        unfolding without
        received_fit = let f = put_fits (placed_from a v (entered_at w a v s n) w t (went v (without a v ns w) (Carried 0 a v (entered_at w a v s n) [] ∷ []) t)) t
            (received_fits play AnyWord w a v l n ns s t (Carried 0 a v (entered_at w a v s n) [] ∷ []) (connected_at a v w.connections).tables.exports (names_of s) fits honest at notes there (comes play.script w a v s t n (connected_at a v w.connections).tables.exports (sight_at w a v s) gives))
            (went_there (without a v ns w) t (Carried 0 a v (entered_at w a v s n) [] ∷ []) there) in record { parts = f.parts; own = f.own }

        pub received_stands : Standing v t
        received_stands = let y : World = went v (without a v ns w) (Carried 0 a v (entered_at w a v s n) [] ∷ []) t in let f = received_fit in let parts = f.parts in
            note_stands (entered_at w a v s n) t entered_made received_steady (mails_fit y.vats y.drawn t.outbox parts.outbox) received_named

-- ---- the start

known_roots : (us : List ℕ) → AllOf IsEventual (names_in (map world.known_root us))
unfolding world.known_root begun
known_roots [] = tt
known_roots (u ∷ us) = (tt, known_roots us)

fresh_stands : (script : Script) (u : ℕ) (p : Program) → Standing u (world.fresh script u p)
unfolding world.fresh world.known_root begun
fresh_stands script u p = record { number = refl; eventual = (tt, known_roots p.knows); mails = tt; gifts = tt; lines = tt; puts = tt; answers = tt }

begun_stands : (script : Script) (v : ℕ) (s : Vat Name) → slice_get (world.begins script).vats v ≡ Some s → Standing v s
unfolding world.begins
begun_stands script v s e = let r = fresh_at script zero script.vats v s e in let f : r.1 ≡ v = (let g : r.1 ≡ zero + v = r.3 in omega arith) in
    subst (λ z. Standing z s) f (subst (λ z. Standing r.1 z) r.4 (fresh_stands script r.1 r.0))

stand_kept : (play : Play) → IsKept play Standing
stand_kept play = record {
  begun = begun_stands play.script;
  alone = λ w r v s q t what o alone d h. alone_stands play w r v s d.there o h q t what alone d;
  arrived = λ w r a v s t l n ns next e h. arrived_stands play w r v s next.there next.honest h a l n ns next.at next.notes t e;
  received = λ w r a v s t l n ns next e h. received_stands play w r v s next.there next.honest h a l n ns next.at next.notes next.uncut t e;
}

pub stands_so : (play : Play) (w : World) → IsReached play w → (v : ℕ) (s : Vat Name) → slice_get w.vats v ≡ Some s → (IsHostile play v → ⊥) → Standing v s
stands_so play = held play Standing (stand_kept play)
