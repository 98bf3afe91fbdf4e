-- From one state of a vat in the middle of a step to a later one: what it has leads on to where it led, or to where another value led; nothing more is held or reacts. So what is asked of it is kept.
use Rattle.std.proofs.Common.{◌≡◌, ℕ, zero, suc, Bool, true, false, List, [], ◌∷◌, ◌++◌, Some, None, refl, sym, ap, subst, ◌∙◌, ◌⊎◌, inl, inr, ◌||◌, append_assoc}
use Rattle.std.proofs.lemmas.List.{append-nil}
use Rattle.def_machine.specs.Values.{Value, Items, Ref, Name, Naming, host_of}
use Rattle.def_machine.specs.State.{Message, Known, Passed, Passeds, NoMore, More, Vat, Sends, drawn_at}
use Rattle.def_machine.specs.Native.{list_at}
use Rattle.def_machine.specs.Refs as refs
use Rattle.def_machine.specs.Refs.{entry_of}
use Rattle.def_run.specs.World.{Script, Event, Here, World, names}
use Rattle.law_fate.specs.Name.Names.{IsAmong}
use Rattle.law_order.specs.Ordering.Ways.{Held, Way, Place, End}
use Rattle.law_order.specs.Ordering.Order.{members, comes}
use Rattle.law_order.specs.Ordering.Worlds.{IsKnown}
use Rattle.law_order.specs.Ordering.Steps.{Ready, LeadsAmid, IsHeld}
use Rattle.law_order.specs.History.Lines.{counts, AllQuiet, sends_it, was_sent}
use Rattle.law_order.specs.History.Passings.{CanPass, IsThere, IsNoVat, IsOpenOrLost, AllCame, CameAs}
use Rattle.law_order.proofs.History.Lines.{comes_stays}
use Rattle.law_order.specs.Tales.Middle.{middle}
use Rattle.law_order.proofs.Tales.Still.{quiet_join}
use Rattle.law_order.specs.Settling.Holding.{Came, HeldCame, Holds}

-- ---- lines that do not count

sends_quiet : (m : Name) (e : Event) → counts e ≡ false → sends_it m e ≡ false
unfolding counts sends_it
sends_quiet m (Here v (Sends act x)) h = absurd (cc)
sends_quiet m other h = refl

unsent_quiet : (m : Name) (es : List Event) → AllQuiet es → was_sent m es ≡ false
unfolding was_sent
unsent_quiet m [] h = refl
unsent_quiet m (e ∷ es) h = ap (λ b. b || was_sent m es) (sends_quiet m e h.0) ∙ unsent_quiet m es h.1

pub unsent_more : (m : Name) (es fs : List Event) → was_sent m es ≡ false → AllQuiet fs → was_sent m (es ++ fs) ≡ false
unfolding was_sent
unsent_more m [] fs h q = unsent_quiet m fs q
unsent_more m (e ∷ es) fs h q = go (sends_it m e) (λ i. unsent_more m es fs i q) h
  where
    go : (b : Bool) → (was_sent m es ≡ false → was_sent m (es ++ fs) ≡ false) → (b || was_sent m es) ≡ false → (b || was_sent m (es ++ fs)) ≡ false
    go false f i = f i
    go true f i = i

-- ---- states

-- no message is held there
abbrev pub NotHeld : Place → Type 0
NotHeld (End (Held u n) m) = ⊥
NotHeld other = Unit {0}

module _ (script : Script) (honest : ℕ → Bool) (w : World) (v : ℕ) (head : List Event) where
  abbrev K : Naming Name Name
  K = names script v

  abbrev Leads : Vat Name → Value Name → Place
  Leads s x = LeadsAmid script honest w v s v x

  abbrev Story : Vat Name → List Event
  Story s = (middle w v head s).history

  -- What x leads to now: to where it led; or elsewhere, over a link only where something led over that.
  pub data Leading (s t : Vat Name) (x : Value Name) : Type 0 where
    as_it_led : IsHeld script honest w v s x → Leads t x ≡ Leads s x → Leading s t x
    elsewhere : (z : Value Name) → IsHeld script honest w v s z → NotHeld (Leads t x) → ((g : ℕ) (n : Name) → Leads t x ≡ End (Way v g) n → (m : Name) × (Leads s z ≡ End (Way v g) m)) → Leading s t x

  -- it is in what was known of that name
  pub record WasHeld (s : Vat Name) (n : Name) (m : Message Name) : Type 0 where
    pub known : Known Name
    pub found : entry_of K s.known n ≡ Some known
    pub among : IsAmong m known.held

  pub record Reacted (s : Vat Name) (n : Name) (m : Message Name) : Type 0 where
    pub known : Known Name
    pub found : entry_of K s.known n ≡ Some known
    pub among : IsAmong m known.reactions

  -- L, if a name settled to a list.
  pub record Later (L : Type 0) (s t : Vat Name) : Type 0 where
    pub ready : Ready script honest w v s → Ready script honest w v t
    pub leading : (x : Value Name) → IsHeld script honest w v t x → Leading s t x
    pub undrawn : (x : ℕ) → drawn_at zero x t.drawn ≡ None → drawn_at zero x s.drawn ≡ None
    pub told : List Event
    pub story : Story t ≡ Story s ++ told
    pub quiet : AllQuiet told
    pub known : (n : Name) → IsKnown K s n → IsKnown K t n
    pub lists : t.lists ≡ s.lists
    pub follows : (L → ⊥) → (x : Value Name) (k : ℕ) → refs.follow K t x ≡ Items k → refs.follow K s x ≡ Items k
    pub held : (n : Name) (k : Known Name) → entry_of K t.known n ≡ Some k → (m : Message Name) → IsAmong m k.held → WasHeld s n m
    pub reacts : (n : Name) (k : Known Name) → entry_of K t.known n ≡ Some k → (m : Message Name) → IsAmong m k.reactions → Reacted s n m

  pub later_self : (L : Type 0) (s : Vat Name) → Later L s s
  later_self L s = record {
    ready = λ r. r;
    leading = λ x i. as_it_led i refl;
    undrawn = λ x e. e;
    told = [];
    story = sym (append-nil (Story s));
    quiet = tt;
    known = λ n i. i;
    lists = refl;
    follows = λ l x k e. e;
    held = λ n k e m i. record { known = k; found = e; among = i };
    reacts = λ n k e m i. record { known = k; found = e; among = i };
  }

  module _ (L : Type 0) (s t u : Vat Name) (g : Later L s t) (h : Later L t u) where
    lead_same : (x : Value Name) → Leads u x ≡ Leads t x → Leading s t x → Leading s u x
    lead_same x e (as_it_led i f) = as_it_led i (e ∙ f)
    lead_same x e (elsewhere z i j f) = elsewhere z i (subst NotHeld (sym e) j) (λ a n k. f a n (sym e ∙ k))

    lead_by : (x z : Value Name) → NotHeld (Leads u x) → ((a : ℕ) (n : Name) → Leads u x ≡ End (Way v a) n → (m : Name) × (Leads t z ≡ End (Way v a) m)) → Leading s t z → Leading s u x
    lead_by x z j f (as_it_led i e) = elsewhere z i j (λ a n k. let m = f a n k in (m.0, sym e ∙ m.1))
    lead_by x z j f (elsewhere y i l e) = elsewhere y i j (λ a n k. let m = f a n k in e a m.0 m.1)

    lead_on : (x : Value Name) → Leading t u x → Leading s u x
    lead_on x (as_it_led i e) = lead_same x e (g.leading x i)
    lead_on x (elsewhere z i j f) = lead_by x z j f (g.leading z i)

    pub later_then : Later L s u
    later_then = record {
      ready = λ r. h.ready (g.ready r);
      leading = λ x i. lead_on x (h.leading x i);
      undrawn = λ x e. g.undrawn x (h.undrawn x e);
      told = g.told ++ h.told;
      story = h.story ∙ ap (λ es. es ++ h.told) g.story ∙ append_assoc (Story s) g.told h.told;
      quiet = quiet_join g.told h.told g.quiet h.quiet;
      known = λ n i. h.known n (g.known n i);
      lists = h.lists ∙ g.lists;
      follows = λ l x k e. g.follows l x k (h.follows l x k e);
      held = λ n k e m i. let j = h.held n k e m i in g.held n j.known j.found m j.among;
      reacts = λ n k e m i. let j = h.reacts n k e m i in g.reacts n j.known j.found m j.among;
    }

  -- ---- what is kept

  -- where what it has leads so, and no more words are drawn than were
  module _ (s t : Vat Name) (ready : Ready script honest w v s → Ready script honest w v t) (leading : (x : Value Name) → IsHeld script honest w v t x → Leading s t x) (undrawn : (x : ℕ) → drawn_at zero x t.drawn ≡ None → drawn_at zero x s.drawn ≡ None) where
    -- what leads over a link leads where something led over it
    way_of : (P : ℕ → Type 0) → ((x : Value Name) (a : ℕ) (n : Name) → IsHeld script honest w v s x → Leads s x ≡ End (Way v a) n → P a) → (x : Value Name) (a : ℕ) (n : Name) → Leads t x ≡ End (Way v a) n → Leading s t x → P a
    way_of P f x a n e (as_it_led i j) = f x a n i (sym j ∙ e)
    way_of P f x a n e (elsewhere z i j l) = let m = l a n e in f z a m.0 i m.1

    held_of : (P : ℕ → Name → Type 0) → ((x : Value Name) (u : ℕ) (n : Name) → IsHeld script honest w v s x → Leads s x ≡ End (Held u n) n → P u n) → (x : Value Name) (u : ℕ) (n : Name) → Leads t x ≡ End (Held u n) n → Leading s t x → P u n
    held_of P f x u n e (as_it_led i j) = f x u n i (sym j ∙ e)
    held_of P f x u n e (elsewhere z i j l) = absurd (subst NotHeld e j)

    passes_on : (h : ℕ) (r : Vat Name) → CanPass script honest w v h r s → CanPass script honest w v h r t
    passes_on h r c = record {
      ready = ready c.ready;
      opens = λ x n i e. held_of (λ u m. u ≡ v → (host_of m ≡ v) × IsOpenOrLost script w v h r m) (λ y u m j f q. c.opens y m j (f ∙ ap (λ z. End (Held z m) m) q)) x v n e (leading x i) refl;
      vats = λ x a n i e. way_of (λ b. IsThere w v b ⊎ IsNoVat w b) (λ y b m j f. c.vats y b m j f) x a n e (leading x i);
      gifts = λ x e. c.gifts x (undrawn x e);
    }

    pub holds_by : ((n : Name) (k : Known Name) → entry_of K t.known n ≡ Some k → (m : Message Name) → IsAmong m k.reactions → was_sent m.id (Story t) ≡ false) → Holds script honest w v head s → Holds script honest w v head t
    holds_by unsent h = record {
      ready = ready h.ready;
      there = λ x a n i e. way_of (λ b. IsThere w v b ⊎ IsNoVat w b) (λ y b m j f. h.there y b m j f) x a n e (leading x i);
      passes = λ u r f e. passes_on u r (h.passes u r f e);
      unsent = unsent;
    }

  module _ (L : Type 0) (s t : Vat Name) (g : Later L s t) where
    pub unsent_on : (m : Name) → was_sent m (Story s) ≡ false → was_sent m (Story t) ≡ false
    unsent_on m e = subst (λ es. was_sent m es ≡ false) (sym g.story) (unsent_more m (Story s) g.told e g.quiet)

    pub holds_on : Holds script honest w v head s → Holds script honest w v head t
    holds_on h = holds_by s t g.ready g.leading g.undrawn (λ n k e m i. let j = g.reacts n k e m i in unsent_on m.id (h.unsent n j.known j.found m j.among)) h

    holds_name : (n : Name) → IsHeld script honest w v s (Ref n) → IsHeld script honest w v t (Ref n)
    holds_name n (inl i) = inl i
    holds_name n (inr i) = inr (g.known n i)

    all_map : (P Q : Passed Name → Value Name → Type 0) → ((z : Passed Name) (x : Value Name) → P z x → Q z x) → (zs : Passeds Name) (xs : List (Value Name)) → AllCame P zs xs → AllCame Q zs xs
    all_map P Q f NoMore xs c = tt
    all_map P Q f (More z zs) [] c = tt
    all_map P Q f (More z zs) (x ∷ xs) c = (f z x c.0, all_map P Q f zs xs c.1)

    module _ (never : L → ⊥) where
      came_as : (h d : ℕ) (done : List Event) (z : Passed Name) (x : Value Name) → CameAs script honest w v h d s done z x → CameAs script honest w v h d t done z x
      came_as h zero done z x c = λ e i. let k = c e i in (k.0, holds_name e k.1)
      came_as h (suc d) done z x c = (
        λ e i. let k = c.0 e i in (k.0, holds_name e k.1),
        λ k f. subst (λ ls. AllCame (λ y u. CameAs script honest w v h d t done y u) (members v done z) (list_at ls k)) (sym g.lists)
            (all_map (λ y u. CameAs script honest w v h d s done y u) (λ y u. CameAs script honest w v h d t done y u) (λ y u i. came_as h d done y u i) (members v done z) (list_at s.lists k) (c.1 k (g.follows never x k f))),
      )

      pub came_on : (m : Message Name) → Came script honest w v head s m → Came script honest w v head t m
      came_on m c = record {
        coming = c.coming;
        came = subst (λ es. comes v m.id zero es ≡ Some c.coming) (sym g.story) (comes_stays v m.id zero (Story s) g.told c.coming c.came);
        args = λ h d done i. all_map (λ z x. CameAs script honest w v h d s done z x) (λ z x. CameAs script honest w v h d t done z x) (λ z x j. came_as h d done z x j) c.coming.args m.args (c.args h d done i);
      }

      pub held_came : HeldCame script honest w v head s → HeldCame script honest w v head t
      held_came c n k e m i = let j = g.held n k e m i in came_on m (c n j.known j.found m j.among)
