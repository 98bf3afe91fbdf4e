-- Acts of a vat that move no message: names come to be known, gifts stand, others are told.
use Rattle.std.proofs.Common.{◌≡◌, ℕ, zero, ◌-◌, Bool, true, false, List, [], ◌∷◌, ◌++◌, Option, Some, None, refl, sym, ap, ◌∙◌, ◌⊎◌, inl, inr, append_assoc, length}
use Rattle.std.proofs.lemmas.List.{append-nil}
use Rattle.def_machine.specs.Values.{Value, Name, Naming, Coming}
use Rattle.def_machine.specs.State.{Message, ToTell, Known, Passed, Passeds, Plain, AGift, Many, NoMore, More, Note, Open, SettledTo, Elsewhere, Put, Happened, Took, Sends, Vat, ◌>>=◌, ◌>>◌, give, send_out, alter, come, new_gift, draw, draws, drawn_at, with_change, changed, changed_to, begun, change, dead, holding}
use Rattle.def_machine.specs.Refs as refs
use Rattle.def_machine.specs.Refs.{Place, Mine, Away, entry_of}
use Rattle.law_fate.proofs.Fates.Spares.{TellsOfNone}
use Rattle.law_fate.proofs.Fates.Leads.{Leads, Ends, IsLed, leads_bind, leads_then, leads_if, leads_give, leads_look, leads_spend}
use Rattle.law_fate.proofs.Name.Facts.{all_append}
use Rattle.law_reference.proofs.Reference.Kept.{changed_or}
use Rattle.law_order.specs.Ordering.Places.{held_on, held_in}
use Rattle.law_order.specs.Tales.Middle.{DeliversNothing, IsQuietLine, MovesNone}

-- where a step stops nothing is asked
abbrev pub Any : Vat Name → Vat Name → Type 0
Any s t = Unit {0}

quiet_line : (e : Happened Name) → TellsOfNone e → IsQuietLine e
quiet_line (Took act m) h = absurd h
quiet_line (Sends act m) h = absurd h
quiet_line other h = tt

holds_none : (n : Name) (ms : List (Message Name)) → ms ≡ [] → held_on n ms ≡ []
unfolding held_on
holds_none n ms e = ap (λ xs. held_on n xs) e

module _ (K : Naming Name Name) where
  abbrev R : Vat Name → Vat Name → Type 0
  R = MovesNone K

  -- nothing was put, and nothing told
  pub still : (s t : Vat Name) → t.queue ≡ s.queue → ((n : Name) → held_in n (entry_of K t.known n) ≡ held_in n (entry_of K s.known n)) → t.outbox ≡ s.outbox → t.happened ≡ s.happened → R s t
  still s t e f g h = record { queue = e; held = f; puts = []; outbox = g ∙ sym (append-nil s.outbox); none = tt; lines = []; happened = h ∙ sym (append-nil s.happened); quiet = tt }

  rests : (s t : Vat Name) → t.queue ≡ s.queue → t.known ≡ s.known → t.outbox ≡ s.outbox → t.happened ≡ s.happened → R s t
  rests s t e f g h = still s t e (λ n. ap (λ ks. held_in n (entry_of K ks n)) f) g h

  on : {s t u : Vat Name} → R s t → R t u → R s u
  on {s} {t} {u} h k = record {
    queue = k.queue ∙ h.queue;
    held = λ n. k.held n ∙ h.held n;
    puts = h.puts ++ k.puts;
    outbox = k.outbox ∙ ap (λ ps. ps ++ k.puts) h.outbox ∙ append_assoc s.outbox h.puts k.puts;
    none = all_append (λ (p : Put Name). DeliversNothing p.note) h.puts k.puts h.none k.none;
    lines = h.lines ++ k.lines;
    happened = k.happened ∙ ap (λ es. es ++ k.lines) h.happened ∙ append_assoc s.happened h.lines k.lines;
    quiet = all_append IsQuietLine h.lines k.lines h.quiet k.quiet;
  }

  pub base : IsLed Any R
  base = record {
    same = λ s. rests s s refl refl refl refl;
    trans = λ h k. on h k;
    stops = λ s. tt;
    stopped = λ h k. tt;
    fuel = λ s n. rests s (record s { fuel = s.fuel - n }) refl refl refl refl;
    told = λ s e h. record { queue = refl; held = λ n. refl; puts = []; outbox = sym (append-nil s.outbox); none = tt; lines = e ∷ []; happened = refl; quiet = (quiet_line e h, tt) };
    activations = λ s. rests s _ refl refl refl refl;
    thing = λ s t. rests s (record s { things = s.things ++ t ∷ [] }) refl refl refl refl;
    killed = λ s n. rests s (record s { things = change dead n s.things }) refl refl refl refl;
    slot = λ s c. rests s (record s { slots = s.slots ++ c ∷ [] }) refl refl refl refl;
    written = λ s n y. rests s (record s { slots = change (holding y) n s.slots }) refl refl refl refl;
    list = λ s vs. rests s (record s { lists = s.lists ++ vs ∷ [] }) refl refl refl refl;
  }

  -- ---- what names hold

  last_held : (ks : List (Known Name)) (k : Known Name) (n : Name) → k.held ≡ [] → held_in n (entry_of K (ks ++ k ∷ []) n) ≡ held_in n (entry_of K ks n)
  unfolding entry_of held_in
  last_held [] k n e = go (K.same k.name n)
    where
      go : (b : Bool) → held_in n (elim b [ true ↦ Some k | false ↦ None ]) ≡ []
      go true = holds_none n k.held e
      go false = refl
  last_held (x ∷ ks) k n e = go (K.same x.name n) (last_held ks k n e)
    where
      go : (b : Bool) → held_in n (entry_of K (ks ++ k ∷ []) n) ≡ held_in n (entry_of K ks n) → held_in n (elim b [ true ↦ Some x | false ↦ entry_of K (ks ++ k ∷ []) n ]) ≡ held_in n (elim b [ true ↦ Some x | false ↦ entry_of K ks n ])
      go true r = refl
      go false r = r

  told_same : (w : ℕ) (k : Known Name) → ((changed (ToTell w) k).held ≡ k.held) × ((changed (ToTell w) k).name ≡ k.name)
  unfolding changed_to
  told_same w k = go (changed_or (ToTell w) k)
    where
      go : (changed (ToTell w) k ≡ k) ⊎ (changed (ToTell w) k ≡ changed_to (ToTell w) k) → ((changed (ToTell w) k).held ≡ k.held) × ((changed (ToTell w) k).name ≡ k.name)
      go (inl e) = (ap (λ (j : Known Name). j.held) e, ap (λ (j : Known Name). j.name) e)
      go (inr e) = (ap (λ (j : Known Name). j.held) e, ap (λ (j : Known Name). j.name) e)

  told_held : (w : ℕ) (m n : Name) (ks : List (Known Name)) → held_in n (entry_of K (with_change K (ToTell w) m ks) n) ≡ held_in n (entry_of K ks n)
  unfolding with_change entry_of held_in
  told_held w m n [] = refl
  told_held w m n (k ∷ ks) = go (K.same k.name m) (told_held w m n ks)
    where
      front : (b : Bool) → held_in n (elim b [ true ↦ Some (changed (ToTell w) k) | false ↦ entry_of K ks n ]) ≡ held_in n (elim b [ true ↦ Some k | false ↦ entry_of K ks n ])
      front true = ap (λ ms. held_on n ms) (told_same w k).0
      front false = refl

      here : held_in n (entry_of K (changed (ToTell w) k ∷ ks) n) ≡ held_in n (entry_of K (k ∷ ks) n)
      here = ap (λ z. held_in n (elim (K.same z n) [ true ↦ Some (changed (ToTell w) k) | false ↦ entry_of K ks n ])) (told_same w k).1 ∙ front (K.same k.name n)

      behind : (b : Bool) → held_in n (entry_of K (with_change K (ToTell w) m ks) n) ≡ held_in n (entry_of K ks n) → held_in n (elim b [ true ↦ Some k | false ↦ entry_of K (with_change K (ToTell w) m ks) n ]) ≡ held_in n (elim b [ true ↦ Some k | false ↦ entry_of K ks n ])
      behind true r = refl
      behind false r = r

      go : (b : Bool) → held_in n (entry_of K (with_change K (ToTell w) m ks) n) ≡ held_in n (entry_of K ks n)
          → held_in n (entry_of K (elim b [ true ↦ changed (ToTell w) k ∷ ks | false ↦ k ∷ with_change K (ToTell w) m ks ]) n) ≡ held_in n (entry_of K (k ∷ ks) n)
      go true r = here
      go false r = behind (K.same k.name n) r

  -- ---- acts

  pub still_come : (c : Coming Name Name) (h : ℕ) → Leads Any R (come K c h)
  unfolding come begun
  still_come c h = record { after = λ s. still s (record s { known = s.known ++ begun (K.made c (length s.known)) h ∷ [] }) refl (λ n. last_held s.known (begun (K.made c (length s.known)) h) n refl) refl refl }

  pub still_gift : (n : Name) (p i : ℕ) → Leads Any R (new_gift n p i)
  unfolding new_gift
  still_gift n p i = record { after = λ s. rests s (record s { gifts = s.gifts ++ record { name = n; provider = p; number = i; opened = false } ∷ [] }) refl refl refl refl }

  pub still_to_tell : (w : ℕ) (n : Name) → Leads Any R (alter K (ToTell w) n)
  unfolding alter
  still_to_tell w n = record { after = λ s. still s (record s { known = with_change K (ToTell w) n s.known }) refl (λ m. told_held w n m s.known) refl refl }

  pub still_out : (to : ℕ) (n : Note Name) → DeliversNothing n → Leads Any R (send_out to n)
  unfolding send_out
  still_out to n h = record { after = λ s. record { queue = refl; held = λ m. refl; puts = record { to = to; note = n } ∷ []; outbox = refl; none = (h, tt); lines = []; happened = sym (append-nil s.happened); quiet = tt } }

  draws_after : (s : Vat Name) (w : ℕ) (o : Option ℕ) → Ends Any R s (draws w o s)
  unfolding draws
  draws_after s w (Some j) = tt
  draws_after s w None = rests s (record s { drawn = s.drawn ++ w ∷ [] }) refl refl refl refl

  still_draw : Leads Any R (draw K)
  unfolding draw
  still_draw = record { after = λ s. draws_after s (K.word (length s.drawn)) (drawn_at zero (K.word (length s.drawn)) s.drawn) }

  -- ---- what passes

  still_lets : (h : ℕ) (n : Name) → Leads Any R (draw K >>= (λ i. send_out h (Open i n) >> give {A = Passed Name} (AGift h i)))
  still_lets h n = leads_bind Any R base still_draw (λ i. leads_then Any R base (still_out h (Open i n) tt) (leads_give Any R base (AGift h i)))

  plain : (h : ℕ) (y : Value Name) (p : Place Name) → Leads Any R (refs.address_plain K h y p)
  unfolding refs.address_plain
  plain h y (Away g n o) = search (leads_if, leads_give, still_lets, base) depth 14
  plain h y (Mine n) = search (leads_then, leads_give, still_to_tell, base) depth 14
  plain h y _ = search (leads_give, base) depth 14

  mutual
    unfolding refs.address refs.address_all

    address : (h : ℕ) (y : Passed Name) → Leads Any R (refs.address K h y)
    address h (Plain y) = search (leads_bind, leads_look, plain, base) depth 14
    address h (AGift g i) = search (leads_give, base)
    address h (Many ys) = let rest = address_all h ys in search (leads_bind, leads_give, base)

    address_all : (h : ℕ) (ys : Passeds Name) → Leads Any R (refs.address_all K h ys)
    address_all h NoMore = search (leads_give, base)
    address_all h (More y ys) = let one = address h y in let rest = address_all h ys in search (leads_bind, leads_give, base)

  pub still_pass : (h : ℕ) (x : Value Name) → Leads Any R (refs.pass K h x)
  unfolding refs.pass
  still_pass h x = search (leads_bind, leads_then, leads_look, leads_spend, address, base) depth 14

  told_to : (p : Name) (w : ℕ) (y : Value Name) → Leads Any R (refs.pass K w y >>= (λ z. send_out w (SettledTo p z)))
  told_to p w y = leads_bind Any R base (still_pass w y) (λ z. still_out w (SettledTo p z) tt)

  informs_of : (p : Name) (w : ℕ) (y : Value Name) (q : Place Name) → Leads Any R (refs.inform_of K p w y q)
  unfolding refs.inform_of
  informs_of p w y (Away h n true) = still_out w (Elsewhere p h) tt
  informs_of p w y other = told_to p w y

  pub still_inform : (p : Name) (w : ℕ) → Leads Any R (refs.inform K p w)
  unfolding refs.inform
  still_inform p w = leads_bind Any R base (leads_look Any R base _) (λ y. leads_bind Any R base (leads_look Any R base _) (λ q. leads_bind Any R base (leads_look Any R base _) (λ gone. leads_if Any R base gone (leads_give Any R base tt) (informs_of p w y q))))
