-- In a run of honest vats the next note is received as it arrives, where it tells something new.
use Rattle.std.proofs.Common.{◌≡◌, ℕ, zero, suc, ◌<◌, Bool, true, false, List, [], ◌∷◌, ◌++◌, Option, Some, None, refl, sym, ap, subst, ◌∙◌, length, inl, inr, arith}
use Rattle.std.specs.Prelude.{slice_get, ◌||◌}
use Rattle.def_machine.specs.Values.{Name, Gift, key}
use Rattle.def_machine.specs.State.{Note, Ask, Vat}
use Rattle.def_machine.specs.Receive.{Sight}
use Rattle.def_machine.proofs.Keys.{word_key}
use Rattle.def_run.specs.Draws.{draw_word}
use Rattle.def_run.specs.Entered.{sight_by}
use Rattle.def_run.specs.Wire.{connected_at}
use Rattle.def_run.specs.World as world
use Rattle.def_run.specs.World.{Script, Program, Entry, Link, World, Goes as Going, link_at, has_name, names, names_of, read_note, readied}
use Rattle.law_fate.specs.Name.Names.{IsAmong, Once, names_in}
use Rattle.law_fate.specs.Name.Runs.{KnowsOnce}
use Rattle.law_fate.proofs.Name.Among.{all_among}
use Rattle.law_fate.proofs.Name.Laws.{next_new}
use Rattle.law_fate.proofs.Name.SameNames.{has_among, among_has}
use Rattle.law_machine.proofs.Run.Honest.{honest_reached}
use Rattle.law_reference.specs.Reference.Cuts.{NoticesFollowCuts}
use Rattle.law_reference.specs.Reference.Logs as wire
use Rattle.law_frame.specs.Frame.Tables.{arrived}
use Rattle.law_frame.specs.Heard.Hearing.{IsAsLogged}
use Rattle.law_frame.specs.Heard.Received.{AsksAnew, SeesNew}
use Rattle.law_frame.specs.Steady.Statements.{AsksOnce}
use Rattle.law_frame.proofs.Frame.Grow.{questions_twice}
use Rattle.law_frame.proofs.Frame.LinksGo.{Splits}
use Rattle.law_frame.proofs.Frame.LinksKnown.{AsksOwn, at_link}
use Rattle.law_frame.proofs.Frame.SourceLaws.{asks_in, log_is}
use Rattle.law_frame.proofs.Frame.Sources.{waiting_logged}
use Rattle.law_frame.proofs.Frame.WireArrivals.{arrived_is}
use Rattle.law_frame.proofs.Heard.CutRuns.{exports_logged}
use Rattle.law_frame.proofs.Heard.Laws.{lists_logged}
use Rattle.law_frame.proofs.Heard.Pending.{splits, sent}
use Rattle.law_frame.proofs.Heard.Runs.{stepped_worldly}
use Rattle.law_frame.proofs.Heard.Steps.{Worldly}
use Rattle.law_frame.proofs.Steady.Again.{once_apart}
use Rattle.law_frame.proofs.Steady.CutOff.{each_asks_once}
use Rattle.law_frame.proofs.Steady.Roots.{IsRoot, stepped_roots, roots_at}
use Rattle.law_frame.proofs.Steady.Untold.{by_notes}
use Rattle.law_order.proofs.Tales.Receivers.{receiver}

-- ---- lists of names

neither : (b c : Bool) → (b ≡ true → ⊥) → (c ≡ true → ⊥) → (b || c) ≡ false
neither true c f g = absurd (f refl)
neither false true f g = absurd (g refl)
neither false false f g = refl

not_true : (b : Bool) → (b ≡ true → ⊥) → b ≡ false
not_true true f = absurd (f refl)
not_true false f = refl

right_among : (z : Name) (xs ys : List Name) → IsAmong z ys → IsAmong z (xs ++ ys)
right_among z [] ys a = a
right_among z (x ∷ xs) ys a = inr (right_among z xs ys a)

module _ (script : Script) (once : KnowsOnce script) (w x : World) (es : List Entry) (k : ℕ) (follow : NoticesFollowCuts es) (opened : world.open_from script zero script.vats (world.begins script) ≡ Going w) (stepped : world.steps_from script es k w ≡ Going x) where
  pub worldly : Worldly script x
  worldly = stepped_worldly script once w x es k follow opened stepped

  -- the note n is the next one from v to u, whose state is s
  module _ (v u : ℕ) (l : Link) (n : Note Name) (ns : List (Note Name)) (at : link_at v u x.links ≡ Some l) (uncut : l.cut ≡ false) (notes : l.notes ≡ n ∷ ns) where
    -- it has a receiver
    pub received_by : (s : Vat Name) × (slice_get x.vats u ≡ Some s)
    received_by = receiver script x ((honest_reached script).1 w x es k opened stepped) v u l at

    pub others : v ≡ u → ⊥
    others e = let facts = worldly.facts in facts.alone v l (subst (λ c. link_at v c x.links ≡ Some l) (sym e) at)

    split : (front : List (Note Name)) × (l.log ≡ front ++ l.notes)
    split = let k = at_link Splits v u l x.links (splits script x worldly.facts) at in k.0 uncut

    module _ (s : Vat Name) (there : slice_get x.vats u ≡ Some s) where
      abbrev S : Sight Name
      S = sight_by (names_of s) (connected_at u v x.connections).tables

      -- a gift under the next word is not known, where that was not drawn before
      unknown : (IsAmong (draw_word script.key (length x.drawn)) x.drawn → ⊥) → (c h : ℕ) → S.knows c h (key h (draw_word script.key (length x.drawn))) ≡ false
      unfolding sight_by names_of
      unknown new c h = not_true (has_name (names_in s.known) (Gift c (key h (draw_word script.key (length x.drawn)))))
          (λ e. (((next_new script once).1 w x es k opened stepped u s there) u s there).2 c (key h (draw_word script.key (length x.drawn)))
          (λ d. new (subst (λ z. IsAmong z x.drawn) (word_key h (draw_word script.key (length x.drawn))) d)) (has_among (names_in s.known) (Gift c (key h (draw_word script.key (length x.drawn)))) e))

      sender : (r : Vat Name) × (slice_get x.vats v ≡ Some r)
      sender = either (slice_get x.vats v) refl
        where
          none : IsAmong n l.log
          none = waiting_logged n ns l notes split

          empty : (ms : List (Note Name)) → ms ≡ [] → IsAmong n ms → ⊥
          empty ms e a = subst (IsAmong n) e a

          either : (o : Option (Vat Name)) → slice_get x.vats v ≡ o → (r : Vat Name) × (slice_get x.vats v ≡ Some r)
          either None e = let facts = worldly.facts in let knows = facts.knows in absurd (empty l.log (knows.none v u e l at) none)
          either (Some r) e = (r, e)

      as_logged : IsAsLogged x v u
      as_logged = lists_logged script once w x es k follow opened stepped v u sender.0 s sender.1 there others l at uncut

      -- the note asks for a gift
      module _ (p i : ℕ) (m : Name) (asks : n ≡ Ask p i m) where
        abbrev It : Name
        It = Gift u i

        its_name : m ≡ It
        its_name = let own = sent script x worldly.facts v u l at n (waiting_logged n ns l notes split) in subst (λ (z : Note Name). AsksOwn u z) asks own.0

        under_way : IsAmong It (wire.questions_in u l.notes)
        under_way = asks_in u It l.notes (Ask p i m) (subst (IsAmong (Ask p i m)) (sym notes) (inl (sym asks))) its_name

        all_asked : wire.questions_in u l.log ≡ wire.questions_in u split.0 ++ wire.questions_in u l.notes
        all_asked = ap (λ ms. wire.questions_in u ms) split.1 ∙ questions_twice u split.0 l.notes

        logged : wire.questions (λ j. j) x.links v u ≡ wire.questions_in u l.log
        unfolding wire.questions
        logged = ap (λ ms. wire.questions_in u ms) (log_is l (link_at v u x.links) at)

        asked : IsAmong It (wire.questions (λ j. j) x.links v u)
        asked = subst (IsAmong It) (sym (logged ∙ all_asked)) (right_among It (wire.questions_in u split.0) (wire.questions_in u l.notes) under_way)

        -- the vat did not export it to who asks, who was told of roots alone without asking
        not_exported : IsAmong It (connected_at u v x.connections).tables.exports → ⊥
        unfolding wire.exports
        not_exported a = no_root (all_among IsRoot (wire.roots_of (link_at u v x.links)) It (roots_at x (stepped_roots script once w x es k opened stepped) u v)
            (by_notes u (wire.questions (λ j. j) x.links v u) It (among_has (wire.questions (λ j. j) x.links v u) It asked) (wire.log_of (link_at u v x.links)) (wire.roots_of (link_at u v x.links))
            (subst (IsAmong It) ((exports_logged script once).1 w x es k follow opened stepped u v s sender.0 there sender.1 (λ e. others (sym e))) a)))
          where
            no_root : IsRoot It → ⊥
            no_root h = h

        -- nor was it asked for in what has arrived
        not_answered : IsAmong It (connected_at u v x.connections).tables.answers → ⊥
        not_answered a = once_apart (wire.questions_in u split.0) (wire.questions_in u l.notes) It one_each before under_way
          where
            low : (c : ℕ) (r : Vat Name) (ss : List (Vat Name)) → slice_get ss c ≡ Some r → c < length ss
            low c r [] e = cc
            low zero r (q ∷ ss) e = omega arith
            low (suc c) r (q ∷ ss) e = let rest = low c r ss e in omega arith

            asks_once : AsksOnce x
            asks_once = (each_asks_once script once).1 w x es k follow opened stepped

            one_each : Once {A = Name} (wire.questions_in u split.0 ++ wire.questions_in u l.notes)
            one_each = subst (λ (zs : List Name). Once zs) (as_logged.questions ∙ logged ∙ all_asked) (asks_once.asked v u (low v sender.0 x.vats sender.1) (low u s x.vats there) (λ e. others (sym e)))

            before : IsAmong It (wire.questions_in u split.0)
            before = subst (IsAmong It) (as_logged.answers ∙ ap (λ o. wire.questions_in u (arrived o)) at ∙ ap (λ ms. wire.questions_in u ms) (arrived_is l split.0 split.1)) a

        unasked : S.numbers It ≡ false
        unfolding sight_by
        unasked = let c = (connected_at u v x.connections).tables in neither (has_name c.exports It) (has_name c.answers It) (λ e. not_exported (has_among c.exports It e)) (λ e. not_answered (has_among c.answers It e))

      pub asks_anew : AsksAnew S u n
      asks_anew = of_note n refl
        where
          of_note : (q : Note Name) → n ≡ q → AsksAnew S u q
          of_note (Ask p i m) e = unasked p i m e
          of_note other e = tt

      pub sees_new : (IsAmong (draw_word script.key (length x.drawn)) x.drawn → ⊥) → SeesNew script x u n S
      sees_new new = record { unknown = unknown new; asked = asks_anew }
