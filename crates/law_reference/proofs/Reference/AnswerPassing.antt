-- What passes in notes that a vat puts names nothing to which no standing and no list leads.
use Rattle.std.proofs.Common.{◌≡◌, ℕ, Bool, true, false, List, [], ◌∷◌, ◌++◌, Option, Some, None, refl, sym, ap, ◌∙◌, append_assoc, append-nil, if◌then◌else◌}
use Rattle.std.specs.Prelude.{nat_le, ◌==◌}
use Rattle.def_machine.specs.Values.{Value, Name, Naming, naming, Spot, Own, Foreign, NoObject}
use Rattle.def_machine.specs.State.{ToTell, Passed, Passeds, Plain, AGift, Many, NoMore, More, Note, Open, SettledTo, Elsewhere, Put, Happened, Vat, Done, Gives, Stops, Act, ◌>>=◌, ◌>>◌, and_then, give, look, tell, spend, spent, draws, draw, send_out, alter}
use Rattle.def_machine.specs.Refs as refs
use Rattle.def_machine.specs.Refs.{Place, Mine, Away, Parcel}
use Rattle.law_fate.specs.Name.Names.{Bit, Named, AllOf, ValueOk, ValuesOk, KnownOk, PassedOk, PassedsOk, NoteOk, names_in}
use Rattle.law_fate.proofs.Name.Facts.{all_append, PlaceOk}
use Rattle.law_fate.proofs.Name.Care.{Care, Under, changes_ok}
use Rattle.law_fate.proofs.Name.Looks.{parcel_ok, place_ok}
use Rattle.law_fate.proofs.Name.SameNames.{reference_is}
use Rattle.law_fate.proofs.Name.Tracked.{names_change}
use Rattle.law_reference.specs.Reference.Behind.{Avoids}

module _ (word : ℕ → ℕ) (v : ℕ) (x : Name) (S : Care Name) (law : Under (naming word v) S) where
  abbrev K : Naming Name Name
  K = naming word v

  abbrev P : Bit Name → Type 0
  P = Avoids x

  -- nothing leads to x
  abbrev pub Clean : Vat Name → Type 0
  Clean s = AllOf (KnownOk P) s.known × AllOf (ValuesOk P) s.lists

  abbrev pub Spares : List (Put Name) → Type 0
  Spares ps = AllOf (λ (p : Put Name). NoteOk P p.note) ps

  -- the names known are the same, and the notes put do not name x
  abbrev pub Passing : Vat Name → Vat Name → Type 0
  Passing s t = (names_in t.known ≡ names_in s.known) × ((ps : List (Put Name)) × (t.outbox ≡ s.outbox ++ ps) × Spares ps)

  abbrev pub PassesAt : {A : Type 0} → (A → Type 0) → Vat Name → Done Name A → Type 0
  PassesAt Q s (Gives a t) = Passing s t × Clean t × Q a
  PassesAt Q s (Stops c t) = Unit {0}
  PassesAt Q s other = ⊥

  pub record Passes {A : Type 0} (m : Act Name A) (Q : A → Type 0) : Type 0 where
    pub after : (s : Vat Name) → Clean s → PassesAt Q s (m s)

  passing_on : (s t u : Vat Name) → Passing s t → Passing t u → Passing s u
  passing_on s t u h k = (k.0 ∙ h.0, (h.1.0 ++ k.1.0, k.1.1 ∙ ap (λ ps. ps ++ k.1.0) h.1.1 ∙ append_assoc s.outbox h.1.0 k.1.0, all_append (λ (p : Put Name). NoteOk P p.note) h.1.0 k.1.0 h.1.2 k.1.2))

  same : (s : Vat Name) → Passing s s
  same s = (refl, ([], sym (append-nil s.outbox), tt))

  widen : {A : Type 0} (Q : A → Type 0) (s t : Vat Name) (d : Done Name A) → Passing s t → PassesAt Q t d → PassesAt Q s d
  widen Q s t (Gives a u) r h = (passing_on s t u r h.0, h.1, h.2)
  widen Q s t (Stops c u) r h = tt
  widen Q s t other r h = absurd h

  bind_at : {A B : Type 0} (Q : A → Type 0) (R : B → Type 0) (s : Vat Name) (d : Done Name A) (f : A → Act Name B) → PassesAt Q s d → ((a : A) → Q a → Passes (f a) R) → PassesAt R s (and_then d f)
  unfolding and_then
  bind_at Q R s (Gives a t) f h k = widen R s t (f a t) h.0 ((k a h.2).after t h.1)
  bind_at Q R s (Stops c t) f h k = tt
  bind_at Q R s other f h k = absurd h

  pub passes_bind : {A B : Type 0} {m : Act Name A} {f : A → Act Name B} (Q : A → Type 0) (R : B → Type 0) → Passes m Q → ((a : A) → Q a → Passes (f a) R) → Passes (m >>= f) R
  unfolding ◌>>=◌
  passes_bind {m = m} {f = f} Q R h k = record { after = λ s c. bind_at Q R s (m s) f (h.after s c) k }

  abbrev pub Any : {A : Type 0} → A → Type 0
  Any a = Unit {0}

  pub passes_then : {A B : Type 0} {m : Act Name A} {n : Act Name B} (R : B → Type 0) → Passes m Any → Passes n R → Passes (m >> n) R
  unfolding ◌>>◌
  passes_then {m = m} {n = n} R h k = record { after = λ s c. bind_at Any R s (m s) (λ _. n) (h.after s c) (λ a q. k) }

  pub passes_give : {A : Type 0} (a : A) (Q : A → Type 0) → Q a → Passes (give a) Q
  unfolding give
  passes_give a Q q = record { after = λ s c. (same s, c, q) }

  passes_sees : {A : Type 0} (f : Vat Name → A) (Q : A → Type 0) → ((s : Vat Name) → Clean s → Q (f s)) → Passes (look f) Q
  unfolding look
  passes_sees f Q g = record { after = λ s c. (same s, c, g s c) }

  passes_tell : (e : Happened Name) → Passes (tell e) Any
  unfolding tell
  passes_tell e = record { after = λ s c. (same s, c, tt) }

  spend_at : (s : Vat Name) (n : ℕ) (b : Bool) → Clean s → PassesAt Any s (spent n b s)
  unfolding spent
  spend_at s n true c = (same s, c, tt)
  spend_at s n false c = tt

  passes_spend : (n : ℕ) → Passes (spend n) Any
  unfolding spend
  passes_spend n = record { after = λ s c. spend_at s n (nat_le n s.fuel) c }

  draws_at : (s : Vat Name) (w : ℕ) (o : Option ℕ) → Clean s → PassesAt Any s (draws w o s)
  unfolding draws
  draws_at s w (Some i) c = tt
  draws_at s w None c = (same s, c, tt)

  passes_draw : Passes (draw K) Any
  unfolding draw
  passes_draw = record { after = λ s c. draws_at s _ _ c }

  pub passes_out : (to : ℕ) (n : Note Name) → NoteOk P n → Passes (send_out to n) Any
  unfolding send_out
  passes_out to n g = record { after = λ s c. ((refl, (record { to = to; note = n } ∷ [], refl, (g, tt))), c, tt) }

  passes_to_tell : (w : ℕ) (n : Name) → P (Named n) → Passes (alter K (ToTell w) n) Any
  unfolding alter naming
  passes_to_tell w n g = record { after = λ s c. ((names_change K (ToTell w) n s.known, ([], sym (append-nil s.outbox), tt)), (changes_ok K S law P (ToTell w) n s.known tt (λ a e. rw (sym (reference_is a n e)) at g) c.0, c.1), tt) }

  hosted_ok : (n : Name) (h : ℕ) (b : Bool) → P (Named n) → PlaceOk P (elim b [ true ↦ Mine n | false ↦ Away h n false ])
  hosted_ok n h true g = g
  hosted_ok n h false g = (g, tt)

  spotted_ok : (s : Vat Name) (n : Name) (p : Spot) → P (Named n) → PlaceOk P (refs.spotted K s n p)
  unfolding refs.spotted refs.hosted
  spotted_ok s n (Own i) h = tt
  spotted_ok s n (Foreign w) h = (h, tt)
  spotted_ok s n NoObject h = hosted_ok n (refs.host_at K s.number s.known n) (s.number == refs.host_at K s.number s.known n) h

  pub places : (s : Vat Name) (y : Value Name) → ValueOk P y → PlaceOk P (refs.place K s y)
  places s y i = place_ok K P s (λ n h. spotted_ok s n (K.spot n) h) y i

  away_passes : (w h : ℕ) (n : Name) (y : Value Name) (b : Bool) → ValueOk P y → P (Named n) → Passes (if b then give (Plain y) else (draw K >>= (λ i. send_out h (Open i n) >> give (AGift h i)))) (PassedOk P)
  away_passes w h n y true g k = passes_give (Plain y) (PassedOk P) g
  away_passes w h n y false g k = passes_bind Any (PassedOk P) passes_draw (λ i u. passes_then (PassedOk P) (passes_out h (Open i n) (tt, k)) (passes_give (AGift h i) (PassedOk P) (tt, tt)))

  passes_plain : (w : ℕ) (y : Value Name) (p : Place Name) → ValueOk P y → PlaceOk P p → Passes (refs.address_plain K w y p) (PassedOk P)
  unfolding refs.address_plain
  passes_plain w y (Away h n o) g k = away_passes w h n y (h == w) g k.0
  passes_plain w y (Mine n) g k = passes_then (PassedOk P) (passes_to_tell w n k) (passes_give (Plain y) (PassedOk P) g)
  passes_plain w y other g k = passes_give (Plain y) (PassedOk P) g

  mutual
    unfolding refs.address refs.address_all

    passes_address : (w : ℕ) (y : Passed Name) → PassedOk P y → Passes (refs.address K w y) (PassedOk P)
    passes_address w (Plain y) g = passes_bind (PlaceOk P) (PassedOk P) (passes_sees (λ s. refs.place K s y) (PlaceOk P) (λ s c. places s y g)) (λ p k. passes_plain w y p g k)
    passes_address w (AGift h i) g = passes_give (AGift h i) (PassedOk P) g
    passes_address w (Many ys) g = passes_bind (PassedsOk P) (PassedOk P) (passes_address_all w ys g) (λ zs k. passes_give (Many zs) (PassedOk P) k)

    passes_address_all : (w : ℕ) (ys : Passeds Name) → PassedsOk P ys → Passes (refs.address_all K w ys) (PassedsOk P)
    passes_address_all w NoMore g = passes_give NoMore (PassedsOk P) tt
    passes_address_all w (More y ys) g = passes_bind (PassedOk P) (PassedsOk P) (passes_address w y g.0) (λ z k. passes_bind (PassedsOk P) (PassedsOk P) (passes_address_all w ys g.1) (λ zs l. passes_give (More z zs) (PassedsOk P) (k, l)))

  pub passes_pass : (w : ℕ) (y : Value Name) → ValueOk P y → Passes (refs.pass K w y) (PassedOk P)
  unfolding refs.pass
  passes_pass w y g = passes_bind (λ (z : Parcel Name). PassedOk P z.value) (PassedOk P) (passes_sees (λ s. refs.parcel K s y) (λ (z : Parcel Name). PassedOk P z.value) (λ s c. parcel_ok K P s c.0 c.1 y g))
      (λ z k. passes_then (PassedOk P) (passes_spend z.weight) (passes_address w z.value k))

  pub passes_all : (w : ℕ) (ys : List (Value Name)) → ValuesOk P ys → Passes (refs.pass_all K w ys) (PassedsOk P)
  unfolding refs.pass_all
  passes_all w [] g = passes_give NoMore (PassedsOk P) tt
  passes_all w (y ∷ ys) g = passes_bind (PassedOk P) (PassedsOk P) (passes_pass w y g.0) (λ z k. passes_bind (PassedsOk P) (PassedsOk P) (passes_all w ys g.1) (λ zs l. passes_give (More z zs) (PassedsOk P) (k, l)))

  pub passes_informed : (p : Name) (w : ℕ) (y : Value Name) (q : Place Name) → P (Named p) → ValueOk P y → Passes (refs.inform_of K p w y q) Any
  unfolding refs.inform_of
  passes_informed p w y (Away h n true) g k = passes_out w (Elsewhere p h) (g, tt)
  passes_informed p w y other g k = passes_bind (PassedOk P) Any (passes_pass w y k) (λ z i. passes_out w (SettledTo p z) (g, i))
