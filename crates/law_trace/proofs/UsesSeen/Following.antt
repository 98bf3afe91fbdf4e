-- What names are followed to, and which code runs, along lines whose events have other names.
use Rattle.std.proofs.Common.{◌≡◌, ◌↔◌, ℕ, List, Option, Some, None, option_map, refl, sym, ap, subst, ◌∙◌, inl, inr}
use Rattle.ev_base.specs.declared.names.Name.{Name}
use Rattle.def_event.specs.declared.event.Event.{Event}
use Rattle.def_event.specs.declared.event.Event.TheVariants.{Frame}
use Rattle.def_event.specs.Uses.{Activation, Begun, Line, Given_for, Running, settles, views, runs, is_object, IsGivenBy, IsFirstGivenBy, IsNext, IsFollowed, there, further, Runs}
use Rattle.law_trace.proofs.UsesSeen.Same.{either, never, some_of, some_to}
use Rattle.law_trace.proofs.UsesSeen.Renaming.{Renaming, IsRenaming, AreLines, none, one, silent, event, activation, given_for, running}
use Rattle.law_trace.proofs.UsesSeen.Telling.{settles_same, views_same, runs_same}
use Rattle.law_trace.proofs.UsesSeen.Facts.{told_same}

module _ (r : Renaming) (good : IsRenaming r) where
  -- ---- what lines give for a name

  module _ (by : Event → Option Given_for) (same : (e : Event) → by (event r e) ≡ option_map (given_for r) (by e)) where
    -- a line gives something for the name
    abbrev Gives : Event → Name → Option Name → Type 0
    Gives e n value = by e ≡ Some (record { name = n; value = value })

    gives_there : (e : Event) (n : Name) (value : Option Name) → Gives e n value → Gives (event r e) (r.name n) (option_map r.name value)
    gives_there e n value g = some_to (given_for r) (by e) (by (event r e)) (record { name = n; value = value }) (same e) g

    gives_image : (e : Event) (n : Name) (what : Option Name) → Gives (event r e) (r.name n) what → (value : Option Name) × Gives e n value × (option_map r.name value ≡ what)
    gives_image e n what g =
        let m = some_of (given_for r) (by e) (by (event r e)) (record { name = r.name n; value = what }) (same e) g in
        let it : Given_for = m.0 in
        let named : it.name ≡ n = good.names_apart it.name n (ap (λ (x : Given_for). x.name) m.2) in
        (it.value, m.1 ∙ ap (λ (x : Name). Some (record { name = x; value = it.value })) named, ap (λ (x : Given_for). x.value) m.2)

    -- a line that shows a frame gives nothing
    module _ (quiet : (bytes : List ℕ) → by (Frame bytes) ≡ None) where
      gives_none : (bytes : List ℕ) (n : Name) (value : Option Name) → Gives (Frame bytes) n value → ⊥
      gives_none bytes n value g = let nothing : by (Frame bytes) ≡ None = quiet bytes in absurd cc

      given_same : (past later : List Line) → AreLines r past later → (at : ℕ) (n : Name) → IsGivenBy by later (r.place at) (r.name n) ↔ IsGivenBy by past at n
      given_same past later none at n = (λ x. x, λ x. x)
      given_same past later (one p q l a) at n =
          either (given_same p q a at n) (
            λ x. let m = gives_image l.event n x.1 x.2 in (good.places_apart l.at at x.0, m.0, m.1),
            λ x. (ap r.place x.0, option_map r.name x.1, gives_there l.event n x.1 x.2),
          )
      given_same past later (silent p q bytes a) at n = (
        λ x. inl ((given_same p q a at n).0 x),
        λ x. (given_same p q a at n).1 (elim x [ inl h ↦ h | inr h ↦ absurd (gives_none bytes n h.1 h.2) ]),
      )

      first_there : (past later : List Line) → AreLines r past later → (at : ℕ) (n : Name) (value : Option Name) → IsFirstGivenBy by past at n value → IsFirstGivenBy by later (r.place at) (r.name n) (option_map r.name value)
      first_there past later none at n value h = h
      first_there past later (one p q l a) at n value (inl h) = inl (first_there p q a at n value h)
      first_there past later (one p q l a) at n value (inr h) = inr ((never (given_same p q a at n)).1 h.0, ap r.place h.1, gives_there l.event n value h.2)
      first_there past later (silent p q bytes a) at n value (inl h) = first_there p q a at n value h
      first_there past later (silent p q bytes a) at n value (inr h) = absurd (gives_none bytes n value h.2)

      first_image : (past later : List Line) → AreLines r past later → (at : ℕ) (n : Name) (what : Option Name) → IsFirstGivenBy by later (r.place at) (r.name n) what
          → (value : Option Name) × IsFirstGivenBy by past at n value × (option_map r.name value ≡ what)
      first_image past later none at n what h = absurd h
      first_image past later (one p q l a) at n what (inl h) = let m = first_image p q a at n what h in (m.0, inl m.1, m.2)
      first_image past later (one p q l a) at n what (inr h) =
          let m = gives_image l.event n what h.2 in
          (m.0, inr ((never (given_same p q a at n)).0 h.0, good.places_apart l.at at h.1, m.1), m.2)
      first_image past later (silent p q bytes a) at n what h = let m = first_image p q a at n what h in (m.0, inl m.1, m.2)

      -- such a line that gives a name
      name_image : (past later : List Line) → AreLines r past later → (at : ℕ) (n m : Name) → IsFirstGivenBy by later (r.place at) (r.name n) (Some m) → (k : Name) × IsFirstGivenBy by past at n (Some k) × (r.name k ≡ m)
      name_image past later a at n m h =
          let f = first_image past later a at n (Some m) h in
          let k = some_of r.name f.0 (Some m) m (sym f.2) refl in
          (k.0, subst (IsFirstGivenBy by past at n) k.1 f.1, k.2)

  no_settles : (bytes : List ℕ) → settles (Frame bytes) ≡ None
  unfolding settles
  no_settles bytes = refl

  no_views : (bytes : List ℕ) → views (Frame bytes) ≡ None
  unfolding views
  no_views bytes = refl

  -- ---- what names lead to

  module _ (past later : List Line) (a : AreLines r past later) where
    settled_same : (at : ℕ) (n : Name) → IsGivenBy settles later (r.place at) (r.name n) ↔ IsGivenBy settles past at n
    settled_same at n = given_same settles (settles_same r good) no_settles past later a at n

    next_there : (at : ℕ) (n m : Name) → IsNext past at n m → IsNext later (r.place at) (r.name n) (r.name m)
    next_there at n m (inl h) = inl (first_there settles (settles_same r good) no_settles past later a at n (Some m) h)
    next_there at n m (inr h) = inr ((never (settled_same at n)).1 h.0, first_there views (views_same r good) no_views past later a at n (Some m) h.1)

    next_image : (at : ℕ) (n m : Name) → IsNext later (r.place at) (r.name n) m → (k : Name) × IsNext past at n k × (r.name k ≡ m)
    next_image at n m (inl h) = let k = name_image settles (settles_same r good) no_settles past later a at n m h in (k.0, inl k.1, k.2)
    next_image at n m (inr h) = let k = name_image views (views_same r good) no_views past later a at n m h.1 in (k.0, inr ((never (settled_same at n)).0 h.0, k.1), k.2)

    pub followed_there : (at : ℕ) (n o : Name) → IsFollowed past at n o → IsFollowed later (r.place at) (r.name n) (r.name o)
    followed_there at n o (there e) = there (good.objects n ∙ e)
    followed_there at n o (further m e i k) = further (r.name m) (good.objects n ∙ e) (next_there at n m i) (followed_there at m o k)

    pub followed_image : (at : ℕ) (p q : Name) → IsFollowed later (r.place at) p q → (n : Name) → r.name n ≡ p → (o : Name) × IsFollowed past at n o × (r.name o ≡ q)
    followed_image at p q (there e) n is = (n, there (sym (good.objects n) ∙ ap is_object is ∙ e), is)
    followed_image at p q (further m e i k) n is =
        let next = next_image at n m (subst (λ (x : Name). IsNext later (r.place at) x m) (sym is) i) in
        let end = followed_image at m q k next.0 next.2 in
        (end.0, further next.0 (sym (good.objects n) ∙ ap is_object is ∙ e) next.1 end.1, end.2)

  -- ---- the object whose code runs

  -- the line begins the activation with that target
  abbrev Begins : Event → ℕ → Name → Type 0
  Begins e a target = runs e ≡ Some (record { activation = a; target = Some target })

  begins_there : (e : Event) (a : ℕ) (target : Name) → Begins e a target → Begins (event r e) a (r.name target)
  begins_there e a target b = some_to (running r) (runs e) (runs (event r e)) (record { activation = a; target = Some target }) (runs_same r good e) b

  begins_image : (e : Event) (a : ℕ) (target : Name) → Begins (event r e) a target → (n : Name) × Begins e a n × (r.name n ≡ target)
  begins_image e a target b =
      let m = some_of (running r) (runs e) (runs (event r e)) (record { activation = a; target = Some target }) (runs_same r good e) b in
      let it : Running = m.0 in
      let k = some_of r.name it.target (Some target) target (sym (ap (λ (x : Running). x.target) m.2)) refl in (
        k.0,
        m.1 ∙ ap (λ (x : ℕ). Some (record { activation = x; target = it.target })) (ap (λ (x : Running). x.activation) m.2) ∙ ap (λ (x : Option Name). Some (record { activation = a; target = x })) k.1,
        k.2,
      )

  begins_none : (bytes : List ℕ) (a : ℕ) (target : Name) → Begins (Frame bytes) a target → ⊥
  unfolding runs
  begins_none bytes a target b = absurd cc

  pub runs_there : (past later : List Line) → AreLines r past later → (a : Activation) (o : Name) → Runs past a o → Runs later (activation r a) (r.name o)
  runs_there past later none a o h = h
  runs_there past later (one p q l is) a o (inl h) = inl (runs_there p q is a o h)
  runs_there past later (one p q l is) a o (inr h) =
      inr (ap r.place h.0, (never (told_same r good p q is (Begun a))).1 h.1, r.name h.2, begins_there l.event a.number h.2 h.3, followed_there p q is l.at h.2 o h.4)
  runs_there past later (silent p q bytes is) a o (inl h) = runs_there p q is a o h
  runs_there past later (silent p q bytes is) a o (inr h) = absurd (begins_none bytes a.number h.2 h.3)

  pub runs_image : (past later : List Line) → AreLines r past later → (a : Activation) (o : Name) → Runs later (activation r a) o → (n : Name) × Runs past a n × (r.name n ≡ o)
  runs_image past later none a o h = absurd h
  runs_image past later (one p q l is) a o (inl h) = let m = runs_image p q is a o h in (m.0, inl m.1, m.2)
  runs_image past later (one p q l is) a o (inr h) =
      let target = begins_image l.event a.number h.2 h.3 in
      let end = followed_image p q is l.at h.2 o h.4 target.0 target.2 in
      (end.0, inr (good.places_apart l.at a.at h.0, (never (told_same r good p q is (Begun a))).0 h.1, target.0, target.1, end.1), end.2)
  runs_image past later (silent p q bytes is) a o h = let m = runs_image p q is a o h in (m.0, inl m.1, m.2)
