-- Of two worlds that a run comes to one is the later one; so each agrees with the history of the other.
use Rattle.std.proofs.Common.{◌≡◌, ℕ, zero, suc, Bool, true, false, List, [], ◌∷◌, ◌++◌, Some, None, refl, sym, ap, subst, ◌∙◌, ◌⊎◌, inl, inr, ◌==◌, ◌&&◌, eqb-true, append_assoc}
use Rattle.std.specs.Prelude.{slice_get}
use Rattle.def_machine.specs.Values.{Value, Items, Name}
use Rattle.def_machine.specs.State.{Standing, Settled, ListMade, ListCame, Settles, Vat}
use Rattle.def_machine.specs.Refs.{standing_of}
use Rattle.def_run.specs.World as world
use Rattle.def_run.specs.World.{Script, Program, Entry, Event, Here, World, Run, Goes, Stopped, names}
use Rattle.law_machine.specs.Machine.Laws.{SameLists, SettledStays}
use Rattle.law_machine.specs.Run.Runs.{EachVat}
use Rattle.law_machine.proofs.Run.RunLaws.{lists_open, lists_run, settlings_open, settlings_run, history_open, history_run}
use Rattle.law_fate.specs.Name.Names.{IsAmong}
use Rattle.law_uses.specs.Connectivity.Known as connected
use Rattle.law_uses.specs.Uses.Messages.{SaysList, ListsAreTold}
use Rattle.law_uses.proofs.Uses.Texts.{lists_are_told}
use Rattle.law_uses.specs.Running.Settled.{SettlingsStand}
use Rattle.law_uses.proofs.Running.Standing.{stands_later}
use Rattle.law_uses.proofs.Running.Stood.{settlings_stand}
use Rattle.law_order.specs.Ordering.Order.{listed}
use Rattle.law_order.specs.History.Told.{IsOfRun, opened, entered, IsTold}
use Rattle.law_order.specs.Sending.Came.{IsListedAs}
use Rattle.law_order.specs.Sending.Agree.{WorldsAgree, EarlierStatesAgree}

-- ---- parts of one list

-- of two beginnings of a list one begins the other
record Begins {A : Type 0} (xs ys : List A) : Type 0 where
  pub more : List A
  pub is : ys ≡ xs ++ more

tails : {A : Type 0} (x y : A) (xs ys : List A) → x ∷ xs ≡ y ∷ ys → (x ≡ y) × (xs ≡ ys)
tails x y xs ys e = (cc, cc)

more_begins : {A : Type 0} (x y : A) (xs ys : List A) → x ≡ y → Begins xs ys → Begins (x ∷ xs) (y ∷ ys)
more_begins x y xs ys e b = record { more = b.more; is = ap (λ z. z ∷ ys) (sym e) ∙ ap (λ zs. x ∷ zs) b.is }

begins_or : {A : Type 0} (xs ys cs bs : List A) → xs ++ cs ≡ ys ++ bs → Begins xs ys ⊎ Begins ys xs
begins_or [] ys cs bs e = inl (record { more = ys; is = refl })
begins_or (x ∷ xs) [] cs bs e = inr (record { more = x ∷ xs; is = refl })
begins_or (x ∷ xs) (y ∷ ys) cs bs e = let t = tails x y (xs ++ cs) (ys ++ bs) e in go t.0 (begins_or xs ys cs bs t.1)
  where
    go : x ≡ y → Begins xs ys ⊎ Begins ys xs → Begins (x ∷ xs) (y ∷ ys) ⊎ Begins (y ∷ ys) (x ∷ xs)
    go q (inl b) = inl (more_begins x y xs ys q b)
    go q (inr b) = inr (more_begins y x ys xs (sym q) b)

-- ---- a run goes on

goes_is : (x y : World) → Goes x ≡ Goes y → x ≡ y
goes_is x y e = cc

no_stop : (r : Run) (f : World → Run) (z : World) → world.then_goes r f ≡ Goes z → (y : World) × (r ≡ Goes y) × (f y ≡ Goes z)
unfolding world.then_goes
no_stop (Goes y) f z e = (y, refl, e)
no_stop (Stopped c k y) f z e = absurd (cc)

module _ (script : Script) where
  steps_split : (es fs : List Entry) (k : ℕ) (w x z : World) → world.steps_from script (es ++ fs) k w ≡ Goes z → world.steps_from script es k w ≡ Goes x → (j : ℕ) × (world.steps_from script fs j x ≡ Goes z)
  unfolding world.steps_from
  steps_split [] fs k w x z e f = (k, subst (λ u. world.steps_from script fs k u ≡ Goes z) (goes_is w x f) e)
  steps_split (c ∷ es) fs k w x z e f =
      let a = no_stop (world.step script c k w) (world.steps_from script (es ++ fs) (suc k)) z e in
      let b = no_stop (world.step script c k w) (world.steps_from script es (suc k)) x f in
      let same : a.0 ≡ b.0 = goes_is a.0 b.0 (sym a.1 ∙ b.1) in
      steps_split es fs (suc k) b.0 x z (subst (λ u. world.steps_from script (es ++ fs) (suc k) u ≡ Goes z) same a.2) b.2

  opens_split : (ps qs : List Program) (v : ℕ) (w x z : World) → world.open_from script v (ps ++ qs) w ≡ Goes z → world.open_from script v ps w ≡ Goes x → (u : ℕ) × (world.open_from script u qs x ≡ Goes z)
  unfolding world.open_from
  opens_split [] qs v w x z e f = (v, subst (λ u. world.open_from script v qs u ≡ Goes z) (goes_is w x f) e)
  opens_split (p ∷ ps) qs v w x z e f =
      let a = no_stop (world.open_vat script v p w) (world.open_from script (suc v) (ps ++ qs)) z e in
      let b = no_stop (world.open_vat script v p w) (world.open_from script (suc v) ps) x f in
      let same : a.0 ≡ b.0 = goes_is a.0 b.0 (sym a.1 ∙ b.1) in
      opens_split ps qs (suc v) b.0 x z (subst (λ u. world.open_from script (suc v) (ps ++ qs) u ≡ Goes z) same a.2) b.2

  -- from one world to a later one lists and what settled stay, and the history goes on
  record Later (w y : World) : Type 0 where
    pub lists : EachVat (λ v. SameLists) w y
    pub settled : EachVat (λ v. SettledStays (names script v)) w y
    pub more : List Event
    pub lines : y.history ≡ w.history ++ more

  later_entries : (es : List Entry) (k : ℕ) (w y : World) → world.steps_from script es k w ≡ Goes y → Later w y
  later_entries es k w y e = let h = history_run script es k w y e in record { lists = lists_run script es k w y e; settled = settlings_run script es k w y e; more = h.0; lines = h.1 }

  later_openings : (ps : List Program) (v : ℕ) (w y : World) → world.open_from script v ps w ≡ Goes y → Later w y
  later_openings ps v w y e = let h = history_open script v ps w y e in record { lists = lists_open script v ps w y e; settled = settlings_open script v ps w y e; more = h.0; lines = h.1 }

  -- one of two worlds is the later one
  openings_or : (ps qs cs bs : List Program) (w y : World) → script.vats ≡ ps ++ cs → script.vats ≡ qs ++ bs → world.open_from script zero ps (world.begins script) ≡ Goes w → world.open_from script zero qs (world.begins script) ≡ Goes y → Later w y ⊎ Later y w
  openings_or ps qs cs bs w y i j e f = go (begins_or ps qs cs bs (sym i ∙ j))
    where
      go : Begins ps qs ⊎ Begins qs ps → Later w y ⊎ Later y w
      go (inl b) = let r = opens_split ps b.more zero (world.begins script) w y (subst (λ ks. world.open_from script zero ks (world.begins script) ≡ Goes y) b.is f) e in inl (later_openings b.more r.0 w y r.1)
      go (inr b) = let r = opens_split qs b.more zero (world.begins script) y w (subst (λ ks. world.open_from script zero ks (world.begins script) ≡ Goes w) b.is e) f in inr (later_openings b.more r.0 y w r.1)

  entries_or : (es fs cs bs : List Entry) (o q w y : World) → script.schedule ≡ es ++ cs → script.schedule ≡ fs ++ bs → world.open_from script zero script.vats (world.begins script) ≡ Goes o → world.open_from script zero script.vats (world.begins script) ≡ Goes q
      → world.steps_from script es 1 o ≡ Goes w → world.steps_from script fs 1 q ≡ Goes y → Later w y ⊎ Later y w
  entries_or es fs cs bs o q w y i j a b e f = go (begins_or es fs cs bs (sym i ∙ j))
    where
      f0 : world.steps_from script fs 1 o ≡ Goes y
      f0 = subst (λ u. world.steps_from script fs 1 u ≡ Goes y) (goes_is q o (sym b ∙ a)) f

      go : Begins es fs ⊎ Begins fs es → Later w y ⊎ Later y w
      go (inl c) = let r = steps_split es c.more 1 o w y (subst (λ ks. world.steps_from script ks 1 o ≡ Goes y) c.is f0) e in inl (later_entries c.more r.0 w y r.1)
      go (inr c) = let r = steps_split fs c.more 1 o y w (subst (λ ks. world.steps_from script ks 1 o ≡ Goes w) c.is e) f0 in inr (later_entries c.more r.0 y w r.1)

  stays_then : (w x y : World) → Later w x → Later x y → Later w y
  stays_then w x y a b = record {
    lists = λ v s e. let r = a.lists v s e in let t = b.lists v r.0 r.1 in (t.0, t.1, λ i z f. t.2 i z (r.2 i z f));
    settled = λ v s e. let r = a.settled v s e in let t = b.settled v r.0 r.1 in (t.0, t.1, λ n k z f g. t.2 n k z (r.2 n k z f g) g);
    more = a.more ++ b.more;
    lines = b.lines ∙ ap (λ es. es ++ b.more) a.lines ∙ append_assoc w.history a.more b.more;
  }

  -- the opening turns come before all entries
  opening_first : (ps cs : List Program) (w o y : World) (es : List Entry) → script.vats ≡ ps ++ cs → world.open_from script zero ps (world.begins script) ≡ Goes w → world.open_from script zero script.vats (world.begins script) ≡ Goes o → world.steps_from script es 1 o ≡ Goes y → Later w y
  opening_first ps cs w o y es i e a f = let r = opens_split ps cs zero (world.begins script) w o (subst (λ ks. world.open_from script zero ks (world.begins script) ≡ Goes o) i a) e in
      stays_then w o y (later_openings cs r.0 w o r.1) (later_entries es 1 o y f)

  one_later : (w y : World) → IsOfRun script w → IsOfRun script y → Later w y ⊎ Later y w
  one_later w y (opened ps cs i e) (opened qs bs j f) = openings_or ps qs cs bs w y i j e f
  one_later w y (opened ps cs i e) (entered fs bs o j a f) = inl (opening_first ps cs w o y fs i e a f)
  one_later w y (entered es cs o i a e) (opened qs bs j f) = inr (opening_first qs bs y o w es j f a e)
  one_later w y (entered es cs o i a e) (entered fs bs q j b f) = entries_or es fs cs bs o q w y i j a b e f

  -- ---- what lines tell in a world

  lists_of : (w : World) → IsOfRun script w → ListsAreTold script w
  lists_of w (opened ps cs i e) = (lists_are_told script).0 ps cs w i e
  lists_of w (entered es cs o i a e) = (lists_are_told script).1 o w es 1 a e

  settled_of : (w : World) → IsOfRun script w → SettlingsStand script w
  settled_of w (opened ps cs i e) = (settlings_stand.0 script).0 ps cs w i e
  settled_of w (entered es cs o i a e) = (settlings_stand.0 script).1 o w es 1 a e

-- a line of a list
both : (b c : Bool) → (b && c) ≡ true → (b ≡ true) × (c ≡ true)
both true c e = (refl, e)
both false c e = absurd (cc)

some_list : (xs ys : List (Value Name)) → Some xs ≡ Some ys → xs ≡ ys
some_list xs ys e = cc

said : (w v i k : ℕ) (ys vs : List (Value Name)) (b : Bool) → ((w == v) && (i == k)) ≡ b → (elim b [ true ↦ Some ys | false ↦ None ]) ≡ Some vs → (w ≡ v) × (i ≡ k) × (ys ≡ vs)
said w v i k ys vs true f e = let g = both (w == v) (i == k) f in (eqb-true w v g.0, eqb-true i k g.1, some_list ys vs e)
said w v i k ys vs false f e = absurd (cc)

list_line : (v k : ℕ) (vs : List (Value Name)) (e : Event) → listed v k e ≡ Some vs → ((a : ℕ) × (e ≡ Here v (ListMade a k vs))) ⊎ (e ≡ Here v (ListCame k vs))
unfolding listed
list_line v k vs (Here w (ListMade a i ys)) e = let r = said w v i k ys vs ((w == v) && (i == k)) refl e in inl (a, ap (λ u. Here u (ListMade a i ys)) r.0 ∙ ap (λ j. Here v (ListMade a j ys)) r.1 ∙ ap (λ us. Here v (ListMade a k us)) r.2)
list_line v k vs (Here w (ListCame i ys)) e = let r = said w v i k ys vs ((w == v) && (i == k)) refl e in inr (ap (λ u. Here u (ListCame i ys)) r.0 ∙ ap (λ j. Here v (ListCame j ys)) r.1 ∙ ap (λ us. Here v (ListCame k us)) r.2)
list_line v k vs other e = absurd (cc)

-- ---- what is among lines, in the words of two crates

turned : {A : Type 0} (x : A) (xs : List A) → IsAmong x xs → connected.IsAmong x xs
turned x [] i = absurd i
turned x (y ∷ ys) (inl e) = inl e
turned x (y ∷ ys) (inr i) = inr (turned x ys i)

more_among : {A : Type 0} (x : A) (xs ys : List A) → IsAmong x xs → IsAmong x (xs ++ ys)
more_among x [] ys i = absurd i
more_among x (z ∷ xs) ys (inl e) = inl e
more_among x (z ∷ xs) ys (inr i) = inr (more_among x xs ys i)

listed_said : (w : World) (v k : ℕ) (vs : List (Value Name)) (t : IsListedAs v k vs w.history) → SaysList w v k vs
listed_said w v k vs t = go (list_line v k vs t.line t.says)
  where
    go : ((a : ℕ) × (t.line ≡ Here v (ListMade a k vs))) ⊎ (t.line ≡ Here v (ListCame k vs)) → SaysList w v k vs
    go (inl r) = inl (r.0, turned (Here v (ListMade r.0 k vs)) w.history (subst (λ e. IsAmong e w.history) r.1 t.among))
    go (inr r) = inr (turned (Here v (ListCame k vs)) w.history (subst (λ e. IsAmong e w.history) r t.among))

some_vat : (a b : Vat Name) → Some a ≡ Some b → a ≡ b
some_vat a b e = cc

module _ (script : Script) (w : World) (of_run : IsOfRun script w) (v : ℕ) (s : Vat Name) (there : slice_get w.vats v ≡ Some s) where
  -- a world from which both follow on, and how the vat stands there
  record Joined (done : List Event) : Type 0 where
    pub last : World
    pub real : IsOfRun script last
    pub vat : Vat Name
    pub found : slice_get last.vats v ≡ Some vat
    pub lists : SameLists s vat
    pub settled : SettledStays (names script v) s vat
    pub rest : List Event
    pub lines : last.history ≡ done ++ rest

  same_lists : SameLists s s
  same_lists i x e = e

  joined : (done : List Event) → IsTold script done → Joined done
  joined done t = go (one_later script w t.world of_run t.of_run)
    where
      go : Later script w t.world ⊎ Later script t.world w → Joined done
      go (inl l) = let a = l.lists v s there in let b = l.settled v s there in
          record { last = t.world; real = t.of_run; vat = a.0; found = a.1; lists = a.2; settled = subst (λ (z : Vat Name). SettledStays (names script v) s z) (some_vat b.0 a.0 (sym b.1 ∙ a.1)) b.2; rest = t.rest; lines = t.lines }
      go (inr l) = record { last = w; real = of_run; vat = s; found = there; lists = same_lists; settled = λ n k y e f. e; rest = t.rest ++ l.more; lines = l.lines ∙ ap (λ es. es ++ l.more) t.lines ∙ append_assoc done t.rest l.more }

  lists_agree : (done : List Event) → IsTold script done → (k : ℕ) (vs ws : List (Value Name)) → slice_get s.lists k ≡ Some vs → IsListedAs v k ws done → ws ≡ vs
  lists_agree done t k vs ws e l = let j = joined done t in
      let said : SaysList j.last v k ws = listed_said j.last v k ws (record { line = l.line; among = subst (λ es. IsAmong l.line es) (sym j.lines) (more_among l.line done j.rest l.among); says = l.says }) in
      some_list ws vs (sym ((lists_of script j.last j.real v j.vat j.found).1 k ws said) ∙ j.lists k vs e)

  settled_agree : (done : List Event) → IsTold script done → (n : Name) (k : ℕ) (z : Value Name) → IsAmong (Here v (Settles n (Items k))) done → standing_of (names script v) s.known n ≡ Settled z → z ≡ Items k
  settled_agree done t n k z i e = let j = joined done t in
      let line : connected.IsAmong (Here v (Settles n (Items k))) j.last.history = turned (Here v (Settles n (Items k))) j.last.history (subst (λ es. IsAmong (Here v (Settles n (Items k))) es) (sym j.lines) (more_among (Here v (Settles n (Items k))) done j.rest i)) in
      settled_is z (Items k) (sym (stands_later (names script v) (λ m. ⊥) ⊥ s j.vat j.settled n z e) ∙ settled_of script j.last j.real v j.vat j.found n (Items k) line)
    where
      settled_is : (a b : Value Name) → ◌≡◌ {A = Standing Name} (Settled a) (Settled b) → a ≡ b
      settled_is a b e = cc

pub worlds_agree : WorldsAgree
worlds_agree script w of_run v s there = record { lists = lists_agree script w of_run v s there; settled = settled_agree script w of_run v s there }

pub earlier_states_agree : EarlierStatesAgree
earlier_states_agree script v s t lists settled h = record {
  lists = λ done told k vs ws e l. h.lists done told k vs ws (lists k vs e) l;
  settled = λ done told n k z i e. h.settled done told n k z i (stands_later (names script v) (λ m. ⊥) ⊥ s t settled n z e);
}
