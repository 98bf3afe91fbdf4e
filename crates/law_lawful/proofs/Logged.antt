-- What a vat asked its peer for, by the tables of their connection, is what the notes ask for that it put on the link.
use Rattle.std.proofs.Common.{◌≡◌, ℕ, Bool, true, false, List, [], ◌∷◌, ◌++◌, Some, refl, sym, subst, ap, ◌∙◌}
use Rattle.std.specs.Prelude.{◌==◌}
use Rattle.std.proofs.lemmas.Bool.{eqb-true, eq-eqb}
use Rattle.def_machine.specs.Values.{Name, answer_of}
use Rattle.def_machine.specs.State.{Note, Deliver, Open, Ask, SettledTo, Elsewhere, Shorten}
use Rattle.def_run.specs.Connections as reading
use Rattle.def_run.specs.Wire as wire
use Rattle.def_run.specs.Wire.{Connected, connected_at, unconnected, with_connected}
use Rattle.def_run.specs.World as world
use Rattle.def_run.specs.World.{Link, link_at, with_link}
use Rattle.def_hostile.specs.Hostile.{asked_for}
use Rattle.law_fate.specs.Name.Names.{AllOf}
use Rattle.law_reference.specs.Reference.Logs.{asked_if, questions_in}
use Rattle.law_lawful.proofs.Tables.{connected_holds}

-- ---- what one more note asks for

asked_end : (b : Bool) (n : Name) (xs ys : List Name) → asked_if b n (xs ++ ys) ≡ asked_if b n xs ++ ys
unfolding asked_if
asked_end true n xs ys = refl
asked_end false n xs ys = refl

asked_one : (v u : ℕ) (b : Bool) (m : Name) → asked_if b (answer_of u m) [] ≡ reading.answer_if (wire.sight v u) b m
unfolding asked_if reading.answer_if wire.sight
asked_one v u true m = refl
asked_one v u false m = refl

pub asked_first : (v u : ℕ) (n : Note Name) → reading.asked_in (wire.sight v u) n ≡ questions_in u (n ∷ [])
unfolding questions_in reading.asked_in
asked_first v u (Deliver d n verb ys) = sym (asked_one v u d.asks d.message)
asked_first v u (Ask p i n) = refl
asked_first v u (Open i n) = refl
asked_first v u (SettledTo n y) = refl
asked_first v u (Elsewhere n c) = refl
asked_first v u (Shorten n c i) = refl

one_more : (u : ℕ) (ns : List (Note Name)) (n : Note Name) → questions_in u (ns ++ n ∷ []) ≡ questions_in u ns ++ questions_in u (n ∷ [])
unfolding questions_in
one_more u [] n = refl
one_more u (Deliver d x verb ys ∷ ns) n = ap (asked_if d.asks (answer_of u d.message)) (one_more u ns n) ∙ asked_end d.asks (answer_of u d.message) (questions_in u ns) (questions_in u (n ∷ []))
one_more u (Ask p i x ∷ ns) n = ap (λ xs. x ∷ xs) (one_more u ns n)
one_more u (Open i x ∷ ns) n = one_more u ns n
one_more u (SettledTo x y ∷ ns) n = one_more u ns n
one_more u (Elsewhere x c ∷ ns) n = one_more u ns n
one_more u (Shorten x c i ∷ ns) n = one_more u ns n

asked_here : (u : ℕ) (b : Bool) (m : Name) → elim b as (λ _. List Name) [ true ↦ answer_of u m ∷ [] | false ↦ [] ] ≡ asked_if b (answer_of u m) []
unfolding asked_if
asked_here u true m = refl
asked_here u false m = refl

pub framed_first : (u : ℕ) (n : Note Name) → asked_for u n ≡ questions_in u (n ∷ [])
unfolding questions_in asked_for
framed_first u (Deliver d n verb ys) = asked_here u d.asks d.message
framed_first u (Ask p i n) = refl
framed_first u (Open i n) = refl
framed_first u (SettledTo n y) = refl
framed_first u (Elsewhere n c) = refl
framed_first u (Shorten n c i) = refl

-- ---- whether two pairs are the same

true_false : (b : Bool) → b ≡ true → b ≡ false → ⊥
true_false b e f = cc

pair_is : ℕ → ℕ → ℕ → ℕ → Bool
pair_is a b v u = elim (a == v) [ true ↦ b == u | false ↦ false ]

pair_ends : (p q : Bool) (a b v u : ℕ) → (a == v) ≡ p → (b == u) ≡ q → elim p [ true ↦ q | false ↦ false ] ≡ true → (a ≡ v) × (b ≡ u)
pair_ends true true a b v u e f i = (eqb-true a v e, eqb-true b u f)
pair_ends p q a b v u e f i = cc

pair_same : (a b v u : ℕ) → pair_is a b v u ≡ true → (a ≡ v) × (b ≡ u)
unfolding pair_is
pair_same a b v u e = pair_ends (a == v) (b == u) a b v u refl refl e

pair_self : (v u : ℕ) → pair_is v u v u ≡ true
unfolding pair_is
pair_self v u = rw (eq-eqb v v refl, pair_is) (eq-eqb u u refl)

-- two that are the same as a third are the same
pair_apart : (x y a b v u : ℕ) → pair_is x y a b ≡ true → pair_is a b v u ≡ false → (c : Bool) → pair_is x y v u ≡ c → c ≡ false
pair_apart x y a b v u e f true i = let p = pair_same x y a b e in let q = pair_same x y v u i in absurd (true_false (pair_is a b v u) (subst (λ k. pair_is a b v k ≡ true) q.1 (subst (λ k. pair_is a b k y ≡ true) q.0 (subst (λ k. pair_is a b x k ≡ true) (sym p.1) (subst (λ k. pair_is a b k b ≡ true) (sym p.0) (pair_self a b))))) f)
pair_apart x y a b v u e f false i = refl

-- ---- links

module _ (f : Link → Link) (from : (l : Link) → (f l).from ≡ l.from) (to : (l : Link) → (f l).to ≡ l.to) where
  is_pair : (v u : ℕ) (l : Link) → world.is_link v u l ≡ pair_is l.from l.to v u
  unfolding world.is_link pair_is
  is_pair v u l = refl

  kept_pair : (v u : ℕ) (l : Link) → world.is_link v u (f l) ≡ world.is_link v u l
  unfolding world.is_link
  kept_pair v u l = rw (from l, to l) refl

  found : (v u : ℕ) (l : Link) (ls : List Link) → world.is_link v u l ≡ true → link_at v u (l ∷ ls) ≡ Some l
  unfolding link_at
  found v u l ls e = rw (e, link_at) refl

  passed : (v u : ℕ) (l : Link) (ls : List Link) → world.is_link v u l ≡ false → link_at v u (l ∷ ls) ≡ link_at v u ls
  unfolding link_at
  passed v u l ls e = rw (e, link_at) refl

  changed : (v u : ℕ) (l : Link) (ls : List Link) → world.is_link v u l ≡ true → with_link f v u (l ∷ ls) ≡ f l ∷ ls
  unfolding with_link
  changed v u l ls e = rw (e, with_link) refl

  kept : (v u : ℕ) (l : Link) (ls : List Link) → world.is_link v u l ≡ false → with_link f v u (l ∷ ls) ≡ l ∷ with_link f v u ls
  unfolding with_link
  kept v u l ls e = rw (e, with_link) refl

  some_is : (l j : Link) → Some l ≡ Some j → j ≡ l
  some_is l j e = cc

  -- the link that was changed
  none : (v u : ℕ) (j : Link) → link_at v u (with_link f v u []) ≡ Some j → ⊥
  unfolding with_link link_at
  none v u j e = cc

  link_here : (v u : ℕ) (ls : List Link) (j : Link) → link_at v u (with_link f v u ls) ≡ Some j → (i : Link) × (link_at v u ls ≡ Some i) × (j ≡ f i)
  link_here v u [] j e = absurd (none v u j e)
  link_here v u (l ∷ ls) j e = go (link_here v u ls j) (world.is_link v u l) refl
    where
      go : (link_at v u (with_link f v u ls) ≡ Some j → (i : Link) × (link_at v u ls ≡ Some i) × (j ≡ f i)) → (b : Bool) → world.is_link v u l ≡ b → (i : Link) × (link_at v u (l ∷ ls) ≡ Some i) × (j ≡ f i)
      go rest true i = let at : link_at v u (f l ∷ ls) ≡ Some j = subst (λ z. link_at v u z ≡ Some j) (changed v u l ls i) e in (l, found v u l ls i, some_is (f l) j (sym (found v u (f l) ls (kept_pair v u l ∙ i)) ∙ at))
      go rest false i = let at : link_at v u (l ∷ with_link f v u ls) ≡ Some j = subst (λ z. link_at v u z ≡ Some j) (kept v u l ls i) e in let r = rest (sym (passed v u l (with_link f v u ls) i) ∙ at) in (r.0, passed v u l ls i ∙ r.1, r.2)

  -- another link
  link_away : (a b v u : ℕ) → pair_is a b v u ≡ false → (ls : List Link) → link_at v u (with_link f a b ls) ≡ link_at v u ls
  unfolding with_link
  link_away a b v u apart [] = refl
  link_away a b v u apart (l ∷ ls) = go (link_away a b v u apart ls) (world.is_link a b l) refl (world.is_link v u l) refl
    where
      go : link_at v u (with_link f a b ls) ≡ link_at v u ls → (p : Bool) → world.is_link a b l ≡ p → (q : Bool) → world.is_link v u l ≡ q → link_at v u (with_link f a b (l ∷ ls)) ≡ link_at v u (l ∷ ls)
      go rest true i q j = let no : q ≡ false = pair_apart l.from l.to a b v u (sym (is_pair a b l) ∙ i) apart q (sym (is_pair v u l) ∙ j) in let away : world.is_link v u l ≡ false = j ∙ no in
          ap (link_at v u) (changed a b l ls i) ∙ (passed v u (f l) ls (kept_pair v u l ∙ away) ∙ sym (passed v u l ls away))
      go rest false i true j = ap (link_at v u) (kept a b l ls i) ∙ (found v u l (with_link f a b ls) j ∙ sym (found v u l ls j))
      go rest false i false j = ap (link_at v u) (kept a b l ls i) ∙ (passed v u l (with_link f a b ls) j ∙ (rest ∙ sym (passed v u l ls j)))

-- ---- connections

module _ (f : Connected → Connected) (from : (c : Connected) → (f c).from ≡ c.from) (to : (c : Connected) → (f c).to ≡ c.to) where
  meets : (v u : ℕ) (c : Connected) → wire.connects v u c ≡ pair_is c.from c.to v u
  unfolding wire.connects pair_is
  meets v u c = refl

  kept_meets : (v u : ℕ) (c : Connected) → wire.connects v u (f c) ≡ wire.connects v u c
  unfolding wire.connects
  kept_meets v u c = rw (from c, to c) refl

  meets_new : (v u : ℕ) → wire.connects v u (unconnected v u) ≡ true
  unfolding unconnected
  meets_new v u = meets v u (unconnected v u) ∙ pair_self v u

  first_at : (v u : ℕ) (c : Connected) (cs : List Connected) → wire.connects v u c ≡ true → connected_at v u (c ∷ cs) ≡ c
  unfolding connected_at
  first_at v u c cs e = rw (e, connected_at) refl

  later_at : (v u : ℕ) (c : Connected) (cs : List Connected) → wire.connects v u c ≡ false → connected_at v u (c ∷ cs) ≡ connected_at v u cs
  unfolding connected_at
  later_at v u c cs e = rw (e, connected_at) refl

  first_with : (v u : ℕ) (c : Connected) (cs : List Connected) → wire.connects v u c ≡ true → with_connected f v u (c ∷ cs) ≡ f c ∷ cs
  unfolding with_connected
  first_with v u c cs e = rw (e, with_connected) refl

  later_with : (v u : ℕ) (c : Connected) (cs : List Connected) → wire.connects v u c ≡ false → with_connected f v u (c ∷ cs) ≡ c ∷ with_connected f v u cs
  unfolding with_connected
  later_with v u c cs e = rw (e, with_connected) refl

  new_with : (v u : ℕ) → with_connected f v u [] ≡ f (unconnected v u) ∷ []
  unfolding with_connected
  new_with v u = refl

  new_at : (v u : ℕ) → connected_at v u [] ≡ unconnected v u
  unfolding connected_at
  new_at v u = refl

  -- the connection that was changed
  connected_here : (v u : ℕ) (cs : List Connected) → connected_at v u (with_connected f v u cs) ≡ f (connected_at v u cs)
  connected_here v u [] = ap (connected_at v u) (new_with v u) ∙ (first_at v u (f (unconnected v u)) [] (kept_meets v u (unconnected v u) ∙ meets_new v u) ∙ ap f (sym (new_at v u)))
  connected_here v u (c ∷ cs) = go (connected_here v u cs) (wire.connects v u c) refl
    where
      go : connected_at v u (with_connected f v u cs) ≡ f (connected_at v u cs) → (b : Bool) → wire.connects v u c ≡ b → connected_at v u (with_connected f v u (c ∷ cs)) ≡ f (connected_at v u (c ∷ cs))
      go rest true i = ap (connected_at v u) (first_with v u c cs i) ∙ (first_at v u (f c) cs (kept_meets v u c ∙ i) ∙ ap f (sym (first_at v u c cs i)))
      go rest false i = ap (connected_at v u) (later_with v u c cs i) ∙ (later_at v u c (with_connected f v u cs) i ∙ (rest ∙ ap f (sym (later_at v u c cs i))))

  new_pair : (a b v u : ℕ) → pair_is a b v u ≡ false → wire.connects v u (f (unconnected a b)) ≡ false
  unfolding unconnected
  new_pair a b v u e = kept_meets v u (unconnected a b) ∙ (meets v u (unconnected a b) ∙ e)

  -- another connection
  connected_away : (a b v u : ℕ) → pair_is a b v u ≡ false → (cs : List Connected) → connected_at v u (with_connected f a b cs) ≡ connected_at v u cs
  connected_away a b v u apart [] = ap (connected_at v u) (new_with a b) ∙ later_at v u (f (unconnected a b)) [] (new_pair a b v u apart)
  connected_away a b v u apart (c ∷ cs) = go (connected_away a b v u apart cs) (wire.connects a b c) refl (wire.connects v u c) refl
    where
      go : connected_at v u (with_connected f a b cs) ≡ connected_at v u cs → (p : Bool) → wire.connects a b c ≡ p → (q : Bool) → wire.connects v u c ≡ q → connected_at v u (with_connected f a b (c ∷ cs)) ≡ connected_at v u (c ∷ cs)
      go rest true i q j = let no : q ≡ false = pair_apart c.from c.to a b v u (sym (meets a b c) ∙ i) apart q (sym (meets v u c) ∙ j) in let away : wire.connects v u c ≡ false = j ∙ no in
          ap (connected_at v u) (first_with a b c cs i) ∙ (later_at v u (f c) cs (kept_meets v u c ∙ away) ∙ sym (later_at v u c cs away))
      go rest false i true j = ap (connected_at v u) (later_with a b c cs i) ∙ (first_at v u c (with_connected f a b cs) j ∙ sym (first_at v u c cs j))
      go rest false i false j = ap (connected_at v u) (later_with a b c cs i) ∙ (later_at v u c (with_connected f a b cs) j ∙ (rest ∙ sym (later_at v u c cs j)))

-- ---- what a link's log asks for, and the questions of its connection

abbrev pub Agree : List Link → List Connected → Type 0
Agree ls cs = (v u : ℕ) (l : Link) → link_at v u ls ≡ Some l → (connected_at v u cs).tables.questions ≡ questions_in u l.log

-- a change of a link that leaves its log
pub links_agree : (f : Link → Link) → ((l : Link) → (f l).from ≡ l.from) → ((l : Link) → (f l).to ≡ l.to) → ((l : Link) → (f l).log ≡ l.log) → (a b : ℕ) (ls : List Link) (cs : List Connected) → Agree ls cs → Agree (with_link f a b ls) cs
links_agree f from to log a b ls cs h v u l i = go (pair_is a b v u) refl
  where
    go : (p : Bool) → pair_is a b v u ≡ p → (connected_at v u cs).tables.questions ≡ questions_in u l.log
    go true e = let same = pair_same a b v u e in let at : link_at v u (with_link f v u ls) ≡ Some l = subst (λ y. link_at v u (with_link f v y ls) ≡ Some l) same.1 (subst (λ x. link_at v u (with_link f x b ls) ≡ Some l) same.0 i) in
        let r = link_here f from to v u ls l at in h v u r.0 r.1 ∙ ap (questions_in u) (sym (ap (λ (z : Link). z.log) r.2 ∙ log r.0))
    go false e = h v u l (sym (link_away f from to a b v u e ls) ∙ i)

-- a change of a connection that leaves its questions
pub connections_agree : (f : Connected → Connected) → ((c : Connected) → (f c).from ≡ c.from) → ((c : Connected) → (f c).to ≡ c.to) → ((c : Connected) → (f c).tables.questions ≡ c.tables.questions) → (a b : ℕ) (ls : List Link) (cs : List Connected) → Agree ls cs → Agree ls (with_connected f a b cs)
connections_agree f from to same a b ls cs h v u l i = go (pair_is a b v u) refl ∙ h v u l i
  where
    go : (p : Bool) → pair_is a b v u ≡ p → (connected_at v u (with_connected f a b cs)).tables.questions ≡ (connected_at v u cs).tables.questions
    go true e = let at = pair_same a b v u e in let one : connected_at v u (with_connected f a b cs) ≡ f (connected_at v u cs) = subst (λ y. connected_at v u (with_connected f a y cs) ≡ f (connected_at v u cs)) (sym at.1) (subst (λ x. connected_at v u (with_connected f x u cs) ≡ f (connected_at v u cs)) (sym at.0) (connected_here f from to v u cs)) in
        ap (λ (c : Connected). c.tables.questions) one ∙ same (connected_at v u cs)
    go false e = ap (λ (c : Connected). c.tables.questions) (connected_away f from to a b v u e cs)

any_connections : (cs : List Connected) → AllOf (λ (c : Connected). Unit {0}) cs
any_connections [] = tt
any_connections (c ∷ cs) = (tt, any_connections cs)

connected_to : (v u : ℕ) (cs : List Connected) → (connected_at v u cs).to ≡ u
connected_to v u cs = (connected_holds (λ (c : Connected). Unit {0}) v u tt cs (any_connections cs)).2

-- a note is put on a link, and its frame on the connection, whatever that is
pub put_agree : (n : Note Name) (f : Link → Link) (g : Connected → Connected) → ((l : Link) → (f l).from ≡ l.from) → ((l : Link) → (f l).to ≡ l.to) → ((l : Link) → (f l).log ≡ l.log ++ n ∷ []) → ((c : Connected) → (g c).from ≡ c.from) → ((c : Connected) → (g c).to ≡ c.to)
    → (a b : ℕ) → ((c : Connected) → c.to ≡ b → (g c).tables.questions ≡ c.tables.questions ++ questions_in b (n ∷ [])) → (ls : List Link) (cs : List Connected) → Agree ls cs → Agree (with_link f a b ls) (with_connected g a b cs)
put_agree n f g from to log gfrom gto a b asks ls cs h v u l i = go (pair_is a b v u) refl
  where
    go : (p : Bool) → pair_is a b v u ≡ p → (connected_at v u (with_connected g a b cs)).tables.questions ≡ questions_in u l.log
    go true e = let same = pair_same a b v u e in let at : link_at v u (with_link f v u ls) ≡ Some l = subst (λ y. link_at v u (with_link f v y ls) ≡ Some l) same.1 (subst (λ x. link_at v u (with_link f x b ls) ≡ Some l) same.0 i) in
        let r = link_here f from to v u ls l at in let one : connected_at v u (with_connected g a b cs) ≡ g (connected_at v u cs) = subst (λ y. connected_at v u (with_connected g a y cs) ≡ g (connected_at v u cs)) (sym same.1) (subst (λ x. connected_at v u (with_connected g x u cs) ≡ g (connected_at v u cs)) (sym same.0) (connected_here g gfrom gto v u cs)) in
        let more : (g (connected_at v u cs)).tables.questions ≡ (connected_at v u cs).tables.questions ++ questions_in u (n ∷ []) = asks (connected_at v u cs) (connected_to v u cs ∙ sym same.1) ∙ ap (λ y. (connected_at v u cs).tables.questions ++ questions_in y (n ∷ [])) same.1 in
        ap (λ (c : Connected). c.tables.questions) one ∙ (more ∙ (ap (λ xs. xs ++ questions_in u (n ∷ [])) (h v u r.0 r.1) ∙ (sym (one_more u r.0.log n) ∙ ap (questions_in u) (sym (ap (λ (z : Link). z.log) r.2 ∙ log r.0)))))
    go false e = ap (λ (c : Connected). c.tables.questions) (connected_away g gfrom gto a b v u e cs) ∙ h v u l (sym (link_away f from to a b v u e ls) ∙ i)
