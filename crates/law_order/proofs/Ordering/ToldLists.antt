-- As a vat is told of a list, the ways only grow, and names are followed as they were.
use Rattle.std.proofs.Common.{◌≡◌, ℕ, zero, Bool, true, false, [], ◌∷◌, ◌++◌, if◌then◌else◌, Option, Some, None, length, refl, sym, ap, subst, ◌∙◌}
use Rattle.def_machine.specs.Values.{Value, Items, Ref, Name, Naming, key}
use Rattle.def_machine.specs.State.{Passed, AGift, Open, ToTell, SettledTo, Put, Vat, Done, Gives, ◌>>=◌, ◌>>◌, and_then, give, look, draw, draws, drawn_at, send_out, alter, is_in}
use Rattle.def_machine.specs.State as state
use Rattle.def_machine.specs.Refs as refs
use Rattle.def_machine.specs.Refs.{Near}
use Rattle.def_run.specs.World.{Script, World, names}
use Rattle.law_machine.specs.Machine.Steps.{After}
use Rattle.law_order.specs.Ordering.Worlds.{IfGives}
use Rattle.law_order.specs.Ordering.Steps.{StaysReady}
use Rattle.law_order.proofs.Ordering.Adding.{follow_alike}
use Rattle.law_order.proofs.Ordering.Adds.{change_adds, adds_note, stays_quiet}
use Rattle.law_order.proofs.Ordering.Moves.{Keeps, IsKept}
use Rattle.law_order.proofs.Ordering.News.{stays_self, stays_then}
use Rattle.law_order.proofs.Ordering.Passings.{keeps_pass}
use Rattle.law_order.proofs.Ordering.Sendings.{stays_pass}

module _ (K : Naming Name Name) where
  -- each value is followed to the same
  record FollowsSame (s t : Vat Name) : Type 0 where
    same : (x : Value Name) → refs.follow K t x ≡ refs.follow K s x

  follows_same : IsKept FollowsSame
  unfolding refs.follow refs.severed refs.severed_at refs.severed_by
  follows_same = record {
    same = λ s. record { same = λ x. refl };
    trans = λ f g. record { same = λ x. g.same x ∙ f.same x };
    fuel = λ s n. record { same = λ x. refl };
    happened = λ s e. record { same = λ x. refl };
    activations = λ s. record { same = λ x. refl };
    thing = λ s t. record { same = λ x. refl };
    killed = λ s n. record { same = λ x. refl };
    slot = λ s c. record { same = λ x. refl };
    written = λ s n y. record { same = λ x. refl };
    list = λ s ys. record { same = λ x. refl };
  }

  told_same : (h : ℕ) (n : Name) → Keeps FollowsSame (alter K (ToTell h) n)
  unfolding alter
  told_same h n = record { after = λ s. record { same = λ x. follow_alike K s (record s { known = state.with_change K (ToTell h) n s.known }) (change_adds K (ToTell h) n tt s).alike x } }

  drawn_same : (h i word : ℕ) (n : Name) (s : Vat Name) → FollowsSame s (record s { drawn = s.drawn ++ word ∷ []; outbox = s.outbox ++ record { to = h; note = Open i n } ∷ [] })
  unfolding refs.follow refs.severed refs.severed_at refs.severed_by
  drawn_same h i word n s = record { same = λ x. refl }

  let_same : (h : ℕ) (n : Name) → Keeps {N = Name} {A = Passed Name} FollowsSame (draw K >>= (λ i. send_out h (Open i n) >> give (AGift h i)))
  unfolding draw ◌>>=◌ ◌>>◌ and_then send_out give draws
  let_same h n = record { after = λ s. go s (drawn_at zero (K.word (length s.drawn)) s.drawn) }
    where
      go : (s : Vat Name) (o : Option ℕ) → After {N = Name} {A = Passed Name} FollowsSame s (and_then (draws (K.word (length s.drawn)) o s) (λ i. send_out h (Open i n) >> give (AGift h i)))
      go s (Some i) = follows_same.same s
      go s None = drawn_same h (key s.number (K.word (length s.drawn))) (K.word (length s.drawn)) n s

  pass_same : (h : ℕ) (x : Value Name) → Keeps FollowsSame (refs.pass K h x)
  pass_same h x = keeps_pass K FollowsSame follows_same told_same let_same h x

module _ (script : Script) (honest : ℕ → Bool) (w : World) (v : ℕ) (p : Name) (y : Value Name) (k : ℕ) (is : y ≡ Items k) where
  abbrev N : Naming Name Name
  N = names script v

  abbrev Follows : Vat Name → Type 0
  Follows s = (refs.follow N s (Ref p) ≡ y) × (refs.follow N s y ≡ y)

  abbrev Told : Vat Name → Vat Name → Type 0
  Told s t = StaysReady script honest w v s t × Follows t

  note_follows : (s t : Vat Name) (h : ℕ) (z : Passed Name) → FollowsSame N s t → Follows s → Follows (record t { outbox = t.outbox ++ record { to = h; note = SettledTo p z } ∷ [] })
  unfolding refs.follow refs.severed refs.severed_at refs.severed_by
  note_follows s t h z f g = (f.same (Ref p) ∙ g.0, f.same y ∙ g.1)

  passed_told : (s : Vat Name) (h : ℕ) → Follows s → (d : Done Name (Passed Name)) → After (StaysReady script honest w v) s d → After (FollowsSame N) s d → IfGives (Told s) (and_then d (λ z. send_out h (SettledTo p z)))
  unfolding and_then send_out
  passed_told s h f (Gives z t) a b = let m : Put Name = record { to = h; note = SettledTo p z } in let u : Vat Name = record t { outbox = t.outbox ++ m ∷ [] } in
      (stays_then script honest w v {s = s} {t = t} {u = u} a (stays_quiet script honest w v t u (adds_note N t m tt, refl, refl, refl)), note_follows s t h z b f)
  passed_told s h f other a b = tt

  told_near : (s : Vat Name) (h : ℕ) → Follows s → IfGives (Told s) (refs.inform_of N p h y Near s)
  unfolding refs.inform_of ◌>>=◌
  told_near s h f = passed_told s h f (refs.pass N h y s) ((stays_pass script honest w v h y).after s) ((pass_same N h y).after s)

  list_near : (s : Vat Name) → refs.place N s y ≡ Near
  unfolding refs.place
  list_near s = ap (λ z. refs.place N s z) is

  told_if : (s : Vat Name) (h : ℕ) (c : Bool) → Follows s → IfGives (Told s) ((if c then give tt else refs.inform_of N p h y (refs.place N s y)) s)
  unfolding give
  told_if s h true f = (stays_self script honest w v s, f)
  told_if s h false f = subst (λ q. IfGives (Told s) (refs.inform_of N p h y q s)) (sym (list_near s)) (told_near s h f)

  pub list_told : (s : Vat Name) (h : ℕ) → Follows s → IfGives (Told s) (refs.inform N p h s)
  unfolding refs.inform ◌>>=◌ and_then look
  list_told s h f = subst (λ z. IfGives (Told s) ((if is_in h s.noticed then give tt else refs.inform_of N p h z (refs.place N s z)) s)) (sym f.0) (told_if s h (is_in h s.noticed) f)
