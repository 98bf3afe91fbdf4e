-- A note by which the provider of a gift is asked to open it is carried in a world, and order is kept.
use Rattle.std.proofs.Common.{◌≡◌, ℕ, zero, Bool, true, false, Option, Some, None, inl, inr, List, [], ◌∷◌, ◌++◌, refl, sym, ap, subst, ◌∙◌, le_refl}
use Rattle.std.proofs.lemmas.List.{append-nil}
use Rattle.def_machine.specs.Values.{Value, Ref, Name, Answer, Msg, Naming, naming, name_of, host_of}
use Rattle.def_machine.specs.State.{Note, Open, Shorten, Vat, Done, Gives, ◌>>=◌, and_then, give, look, come, send_out}
use Rattle.def_machine.specs.Refs as refs
use Rattle.def_machine.specs.Refs.{Away}
use Rattle.def_machine.specs.Arrive as arrive
use Rattle.def_machine.specs.Arrive.{Old, New}
use Rattle.def_run.specs.World as world
use Rattle.def_run.specs.World.{Script, Link, World, names, read_note, readied}
use Rattle.law_fate.specs.Name.Names.{names_in}
use Rattle.law_order.specs.Ordering.Ways.{Lane, Queue, Held, Way, Place, End, Ways}
use Rattle.law_order.specs.Ordering.Messages.{More, StaysBehind}
use Rattle.law_order.specs.Ordering.Turns.{stays_so, IsTurned}
use Rattle.law_order.specs.Ordering.Places.{queued, held_in, delivered, aimed, leads_in, leads_at, leads, amid}
use Rattle.law_order.specs.Ordering.Worlds.{IfGives}
use Rattle.law_order.specs.Ordering.Steps.{Ready, Grown}
use Rattle.law_order.specs.Ordering.Arrivals.{IsLearnt}
use Rattle.law_order.proofs.Ordering.Adding.{refers_same}
use Rattle.law_order.proofs.Ordering.Amid.{leads_same}
use Rattle.law_order.proofs.Ordering.Messages.{behind_then}
use Rattle.law_order.proofs.Ordering.Arrived.{learnt_leads, outbox_refers}
use Rattle.law_order.proofs.Ordering.Pushing.{all_same}
use Rattle.law_order.proofs.Ordering.Sends.{get_put}
use Rattle.law_order.proofs.Ordering.Standing.{more_then, queue_more, held_more, way_more}
use Rattle.law_order.proofs.Ordering.Turned.{turning_keeps}
use Rattle.law_order.specs.Carries.Carries.{IsNotNext}
use Rattle.law_order.proofs.Carries.Learning.{Yields, Learns, learn_name}
use Rattle.law_order.proofs.Carries.Carried.{learnt_in}
use Rattle.law_order.specs.Asks.Shortens.{CanShorten, ShortenCarriesKeep}
use Rattle.law_order.proofs.Asks.Steps as steps
use Rattle.law_order.proofs.Asks.Leaving as leaving
use Rattle.law_order.proofs.Asks.Lost.{IsLost}

-- by turned ways each place keeps what is ahead of it
turned_keeps : (w u : Ways) → IsTurned w u → (c : Place) → StaysBehind w u c c
turned_keeps w u g c = turning_keeps w u g c c stays_so

module _ (script : Script) (honest : ℕ → Bool) (w : World) (a b c i : ℕ) (n : Name) (h : CanShorten script honest w a b c i n) where
  abbrev K : Naming Name Name
  K = names script b

  abbrev Asks : Note Name
  Asks = Shorten n c i

  abbrev Old0 : Vat Name
  Old0 = h.bears.borne.vat

  abbrev Start : Vat Name
  Start = readied w Old0

  abbrev Ns : List Name
  Ns = names_in Old0.known

  abbrev Comes : Vat Name → Type 0
  Comes t = steps.Comes script honest w a b Asks h.bears.borne t

  -- with the note and without it
  abbrev With : Vat Name → Ways
  With t = steps.With script honest w a b Asks h.bears.borne t

  abbrev End0 : Vat Name → Ways
  End0 t = steps.End script honest w a b Asks h.bears.borne t

  bare : (ns : List (Note Name)) → delivered (Asks ∷ ns) ≡ delivered ns
  unfolding delivered
  bare ns = refl

  -- ---- the name is learnt

  -- a name that is not known
  abbrev Next : Msg
  Next = record { sender = b; number = Start.messages }

  not_next : IsNotNext b Start (Answer zero Next) n
  unfolding readied
  not_next = (λ e. h.answer zero Old0.messages (le_refl Old0.messages) e, h.message, h.answer, h.promise)

  learns : Yields (λ x t. (x ≡ n) × Learns script honest w b Start zero Next Start (world.known_after Ns n) t) (arrive.learn_name K (world.read_name Ns n) Start)
  unfolding readied
  learns = learn_name script honest w b Start zero Next Start Ns n not_next (refl, refl, refl, refl, h.ready.answers zero Old0.messages (le_refl Old0.messages))

  -- nothing is put by that
  quiet : (x : Bool) → Yields (λ y t. t.outbox ≡ []) (arrive.learn_name K (elim x [ true ↦ Old n | false ↦ New n (host_of n) ]) Start)
  unfolding readied arrive.learn_name give come names naming name_of
  quiet true = refl
  quiet false = refl

  -- ---- the receiver looks where the name is

  module _ (t : Vat Name) (stays : Ready script honest w b t × Grown script honest w b Start t) (empty : t.outbox ≡ []) (known : IsLearnt b script t n) where
    lead_amid : leads script honest (amid b t w).vats (amid b t w).links b (Ref n) ≡ leads_in script honest b t (Ref n)
    unfolding leads leads_at amid
    lead_amid = ap (λ o. leads_at script honest b o (Ref n)) (get_put w.vats b Old0 t h.bears.borne.there)

    lead_was : leads_in script honest b t (Ref n) ≡ leads script honest w.vats w.links b (Ref n)
    lead_was = sym lead_amid ∙ stays.1.leading b (Ref n) ∙ steps.leads_begin script honest w a b Asks h.bears.borne b (Ref n)

    shut_keeps : (p : Place) → StaysBehind (With t) (End0 t) p p
    shut_keeps p = turned_keeps (With t) (End0 t) (leaving.shut_turns script honest w a b c i n h.bears h.most h.logged t empty) p

    -- it puts nothing
    shut : Comes t
    unfolding amid leads
    shut = steps.grown_then script honest w a b Asks h.bears.borne t t stays.1 shut_keeps (λ l. steps.leave_more script honest w a b Asks h.bears.borne bare t l) (λ u x. refl)

    -- it opens the gift
    module _ (q : Name) where
      abbrev Opened : Vat Name
      Opened = leaving.Opens script honest w a b c i n h.bears h.most h.logged t empty q

      put_more : (l : Lane) → More (steps.End script honest w a b Asks h.bears.borne t) (steps.End script honest w a b Asks h.bears.borne Opened) l
      put_more (Queue u) = queue_more script honest (steps.Bare script honest w a b Asks h.bears.borne) b t Opened u (λ e. ([], sym (append-nil (queued t.queue))))
      put_more (Held u m) = held_more script honest (steps.Bare script honest w a b Asks h.bears.borne) b t Opened u m (λ e. ([], sym (append-nil (held_in m (refs.entry_of K t.known m)))))
      put_more (Way x y) = way_more script honest (steps.Bare script honest w a b Asks h.bears.borne) b t Opened (record { to = c; note = Open i q } ∷ []) refl x y

      put_leads : (u : ℕ) (x : Value Name) → leads script honest (amid b Opened (steps.Bare script honest w a b Asks h.bears.borne)).vats (amid b Opened (steps.Bare script honest w a b Asks h.bears.borne)).links u x ≡ leads script honest (amid b t w).vats (amid b t w).links u x
      unfolding amid leads
      put_leads u x = leads_same script honest w.vats w.links w.links (all_same w.links) b t Opened (refers_same script honest b t Opened (outbox_refers K t (t.outbox ++ record { to = c; note = Open i q } ∷ []))) u x

      abbrev Links : List Link
      Links = leaving.Links script honest w a b c i n h.bears h.most h.logged

      -- it stands on its link, or is lost
      over_open : leads_in script honest b t (Ref n) ≡ End (Way b c) q → honest c ≡ true → (l : Link) → world.link_at b c Links ≡ Some l → l.cut ≡ false → Comes Opened
      over_open lead e l found uncut = steps.grown_then script honest w a b Asks h.bears.borne t Opened stays.1
          (λ p. turned_keeps (With t) (End0 Opened) (leaving.open_turns script honest w a b c i n h.bears h.most h.logged t empty q (record { link = l; found = found; uncut = uncut; sender = h.bears.receiver; receiver = e }) lead) p)
          (λ l. more_then (With t) (End0 t) (End0 Opened) l (steps.leave_more script honest w a b Asks h.bears.borne bare t l) (put_more l))
          put_leads

      lost : IsLost script honest b c i q Links → Comes Opened
      lost none = steps.grown_then script honest w a b Asks h.bears.borne t Opened stays.1
          (λ p. behind_then (With t) (End0 t) (End0 Opened) p p p (shut_keeps p) (turned_keeps (End0 t) (End0 Opened) (leaving.lost script honest w a b c i n h.bears h.most h.logged t empty q none put_more) p))
          (λ l. more_then (With t) (End0 t) (End0 Opened) l (steps.leave_more script honest w a b Asks h.bears.borne bare t l) (put_more l))
          put_leads

      on_link : leads_in script honest b t (Ref n) ≡ End (Way b c) q → honest c ≡ true → (o : Option Link) → world.link_at b c Links ≡ o → Comes Opened
      on_link lead e None f = lost (inl f)
      on_link lead e (Some l) f = go l.cut refl
        where
          go : (x : Bool) → l.cut ≡ x → Comes Opened
          go true g = lost (inr (inr (l, f, g)))
          go false g = over_open lead e l f g

      opened : leads_in script honest b t (Ref n) ≡ End (Way b c) q → Comes Opened
      opened lead = go (honest c) refl
        where
          go : (x : Bool) → honest c ≡ x → Comes Opened
          go true e = on_link lead e (world.link_at b c Links) refl
          go false e = lost (inr (inl e))

    answers : (p : refs.Place Name) → refs.place K t (refs.follow K t (Ref n)) ≡ p → IfGives Comes (arrive.shorten_to K i p t)
    unfolding arrive.shorten_to send_out give aimed
    answers (Away g q true) e =
        let lead : leads_in script honest b t (Ref n) ≡ End (Way b g) q = learnt_leads script honest b t n known ∙ ap (λ z. aimed b (refs.follow K t (Ref n)) z) e in
        let to : g ≡ c = h.bears.onward g q (sym lead_was ∙ lead) in
        subst (λ z. Comes (record t { outbox = t.outbox ++ record { to = z; note = Open i q } ∷ [] })) (sym to) (opened q (subst (λ z. leads_in script honest b t (Ref n) ≡ End (Way b z) q) to lead))
    answers other e = shut

  -- ---- the whole arrival

  after : (d : Done Name Name) → Yields (λ x t. (x ≡ n) × Learns script honest w b Start zero Next Start (world.known_after Ns n) t) d → Yields (λ y t. t.outbox ≡ []) d
      → IfGives Comes (and_then d (λ m. look (λ s. refs.place K s (refs.follow K s (Ref m))) >>= (λ p. arrive.shorten_to K i p)))
  unfolding and_then ◌>>=◌ look
  after (Gives x t) g e = subst (λ m. IfGives Comes (arrive.shorten_to K i (refs.place K t (refs.follow K t (Ref m))) t)) (sym g.0)
      (answers t (g.1.0 h.ready) e (learnt_in script b t Ns n h.message g.1.1.0) (refs.place K t (refs.follow K t (Ref n))) refl)
  after other g e = tt

  pub shortens : IfGives Comes (steps.Arrival script honest w a b Asks h.bears.borne)
  unfolding arrive.arrive arrive.arrive_shorten read_note ◌>>=◌ world.read_name
  shortens = after (arrive.learn_name K (world.read_name Ns n) Start) learns (quiet (world.is_old Ns n))

pub shorten_carries_keep : ShortenCarriesKeep
shorten_carries_keep = λ script honest w y a b c i k n h e. steps.carried script honest w a b (Shorten n c i) h.bears.borne (shortens script honest w a b c i n h) k y e
