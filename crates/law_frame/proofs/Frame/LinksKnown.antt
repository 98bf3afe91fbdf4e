-- What the two vats of a link know of its notes, and how that goes on.
use Rattle.std.proofs.Common.{◌≡◌, ℕ, Bool, true, false, List, [], ◌∷◌, ◌++◌, Option, Some, refl, sym, ap, ◌∙◌, ◌==◌, append_assoc}
use Rattle.std.specs.Prelude.{slice_get}
use Rattle.std.proofs.lemmas.Bool.{eqb-true}
use Rattle.def_machine.specs.Values.{Name, Gift}
use Rattle.def_machine.specs.State.{Note, Deliver, Ask, Put, Vat}
use Rattle.def_run.specs.World as world
use Rattle.def_run.specs.World.{Link}
use Rattle.law_fate.specs.Name.Names.{AllOf, IsAmong, IsMessageName, IsKnownIn, names_in}
use Rattle.law_fate.proofs.Name.Facts.{all_map, all_end}
use Rattle.law_frame.specs.Frame.Asked.{AskFits, told_in}
use Rattle.law_frame.proofs.Frame.WireAsking.{Proper, ask_up}
use Rattle.law_frame.proofs.Frame.ArriveAsking.{Answered, MailFits, Has}
use Rattle.law_frame.proofs.Frame.Told.{known_up}

-- the names that vat v knows, if there is such a vat, have P
abbrev pub Knowing : List (Vat Name) → ℕ → (List Name → Type 0) → Type 0
Knowing vats v P = (s : Vat Name) → slice_get vats v ≡ Some s → P (names_in s.known)

-- the sender knows what it asked for and what it told, or these are objects
abbrev pub SentBy : ℕ → Note Name → List Name → Type 0
SentBy to n ns = AskFits ns to n × AllOf (IsKnownIn ns) (told_in n)

-- a gift that is asked for is one of the receiver, and a message is named as one
abbrev pub AsksOwn : ℕ → Note Name → Type 0
AsksOwn to (Ask p i n) = n ≡ Gift to i
AsksOwn to (Deliver d n verb ys) = IsMessageName d.message
AsksOwn to other = Unit {0}

pub asks_own : (ns : List Name) (to : ℕ) (n : Note Name) → MailFits n → AskFits ns to n → AsksOwn to n
asks_own ns to (Ask p i n) o h = h.1
asks_own ns to (Deliver m n verb ys) o h = o
asks_own ns to other o h = tt

-- the receiver knows what it was asked for and what it was told
abbrev pub HeardBy : ℕ → Note Name → List Name → Type 0
HeardBy to n ns = Answered to ns n × AllOf (IsKnownIn ns) (told_in n)

module _ (vats : List (Vat Name)) where
  abbrev pub Sent : ℕ → ℕ → Note Name → Type 0
  Sent from to n = AsksOwn to n × Proper from to n × Knowing vats from (SentBy to n)

  abbrev pub Heard : ℕ → Note Name → Type 0
  Heard to n = Knowing vats to (HeardBy to n)

  abbrev pub RootKnown : ℕ → ℕ → Name → Type 0
  RootKnown from to n = Knowing vats from (λ ns. IsKnownIn ns n) × Knowing vats to (λ ns. IsKnownIn ns n)

  -- of all the notes that were put, those that are not under way have arrived
  abbrev pub Arrived : Link → Type 0
  Arrived l = (front : List (Note Name)) × (l.log ≡ front ++ l.notes) × AllOf (Heard l.to) front

  pub record LinkKnown (l : Link) : Type 0 where
    pub roots : AllOf (RootKnown l.from l.to) l.roots
    pub sent : AllOf (Sent l.from l.to) l.log
    pub arrived : l.cut ≡ false → Arrived l

-- ---- what is known stays known

-- each vat after was a vat before, and knows no less
abbrev pub Grows : List (Vat Name) → List (Vat Name) → Type 0
Grows us vs = (v : ℕ) (t : Vat Name) → slice_get vs v ≡ Some t → (s : Vat Name) × (slice_get us v ≡ Some s) × Has (names_in s.known) t

answered_up : (ns ms : List Name) → ((n : Name) → IsAmong n ns → IsAmong n ms) → (v : ℕ) (n : Note Name) → Answered v ns n → Answered v ms n
answered_up ns ms f v (Deliver d n verb ys) h = λ e. f _ (h e)
answered_up ns ms f v (Ask p i n) h = f _ h
answered_up ns ms f v other h = tt

module _ (us vs : List (Vat Name)) (grows : Grows us vs) where
  knowing_up : (v : ℕ) (P : List Name → Type 0) → ((ns ms : List Name) → ((n : Name) → IsAmong n ns → IsAmong n ms) → P ns → P ms) → Knowing us v P → Knowing vs v P
  knowing_up v P f h t e = let g = grows v t e in f (names_in g.0.known) (names_in t.known) g.2 (h g.0 g.1)

  sent_up : (from to : ℕ) (n : Note Name) → Sent us from to n → Sent vs from to n
  sent_up from to n h = (h.0, h.1, knowing_up from (SentBy to n) (λ ns ms f k. (ask_up ns ms f to n k.0, all_map (known_up ns ms f) (told_in n) k.1)) h.2)

  heard_up : (to : ℕ) (n : Note Name) → Heard us to n → Heard vs to n
  heard_up to n h = knowing_up to (HeardBy to n) (λ ns ms f k. (answered_up ns ms f to n k.0, all_map (known_up ns ms f) (told_in n) k.1)) h

  root_up : (from to : ℕ) (n : Name) → RootKnown us from to n → RootKnown vs from to n
  root_up from to n h = (knowing_up from (λ ns. IsKnownIn ns n) (λ ns ms f k. known_up ns ms f n k) h.0, knowing_up to (λ ns. IsKnownIn ns n) (λ ns ms f k. known_up ns ms f n k) h.1)

  pub link_up : (l : Link) → LinkKnown us l → LinkKnown vs l
  link_up l h = record {
    roots = all_map (root_up l.from l.to) l.roots h.roots;
    sent = all_map (sent_up l.from l.to) l.log h.sent;
    arrived = λ e. let a = h.arrived e in (a.0, a.1, all_map (heard_up l.to) a.0 a.2);
  }

-- ---- the changes of links

ends_at : (b c : Bool) (l : Link) (v w : ℕ) → (l.from == v) ≡ b → (l.to == w) ≡ c → elim b [ true ↦ c | false ↦ false ] ≡ true → (l.from ≡ v) × (l.to ≡ w)
ends_at true true l v w e f i = (eqb-true l.from v e, eqb-true l.to w f)
ends_at true false l v w e f i = cc
ends_at false c l v w e f i = cc

pub ends_are : (l : Link) (v w : ℕ) → world.is_link v w l ≡ true → (l.from ≡ v) × (l.to ≡ w)
unfolding world.is_link
ends_are l v w e = ends_at (l.from == v) (l.to == w) l v w refl refl e

module _ (P : Link → Type 0) where
  head_or : (b : Bool) (l j : Link) (ls rest : List Link) → P l → AllOf P ls → (b ≡ true → P j) → AllOf P rest → AllOf P (elim b [ true ↦ j ∷ ls | false ↦ l ∷ rest ])
  head_or true l j ls rest h i f g = (f refl, i)
  head_or false l j ls rest h i f g = (h, g)

  -- the link from v to w is changed
  pub with_link_all : (f : Link → Link) (v w : ℕ) → ((l : Link) → l.from ≡ v → l.to ≡ w → P l → P (f l)) → (ls : List Link) → AllOf P ls → AllOf P (world.with_link f v w ls)
  unfolding world.with_link
  with_link_all f v w g [] h = tt
  with_link_all f v w g (l ∷ ls) h = head_or (world.is_link v w l) l (f l) ls (world.with_link f v w ls) h.0 h.1 (λ e. let at = ends_are l v w e in g l at.0 at.1 h.0) (with_link_all f v w g ls h.1)

  some_is : (l j : Link) → Some l ≡ Some j → l ≡ j
  some_is l j e = cc

  found_or : (b : Bool) (l j : Link) (o : Option Link) (k : Link) (ls rest : List Link) → ◌≡◌ {A = Option Link} (elim b [ true ↦ Some l | false ↦ o ]) (Some k) → P l → AllOf P ls → (b ≡ true → l ≡ k → P j) → (o ≡ Some k → AllOf P rest) → AllOf P (elim b [ true ↦ j ∷ ls | false ↦ l ∷ rest ])
  found_or true l j o k ls rest e h i f g = (f refl (some_is l k e), i)
  found_or false l j o k ls rest e h i f g = (h, g e)

  -- the link that is found there is changed
  pub with_found_all : (f : Link → Link) (v w : ℕ) (k : Link) → ((l : Link) → l ≡ k → l.from ≡ v → l.to ≡ w → P l → P (f l)) → (ls : List Link) → world.link_at v w ls ≡ Some k → AllOf P ls → AllOf P (world.with_link f v w ls)
  unfolding world.with_link world.link_at
  with_found_all f v w k g [] e h = tt
  with_found_all f v w k g (l ∷ ls) e h = found_or (world.is_link v w l) l (f l) (world.link_at v w ls) k ls (world.with_link f v w ls) e h.0 h.1 (λ i q. let at = ends_are l v w i in g l q at.0 at.1 h.0) (λ i. with_found_all f v w k g ls i h.1)

  found_one : (b : Bool) (v w : ℕ) (l k : Link) (o : Option Link) → (b ≡ true → (l.from ≡ v) × (l.to ≡ w)) → P l → (o ≡ Some k → P k × (k.from ≡ v) × (k.to ≡ w)) → ◌≡◌ {A = Option Link} (elim b [ true ↦ Some l | false ↦ o ]) (Some k) → P k × (k.from ≡ v) × (k.to ≡ w)
  found_one true v w l k o f h g e = let at = f refl in let all : P l × (l.from ≡ v) × (l.to ≡ w) = (h, at.0, at.1) in rw (some_is l k e) at all
  found_one false v w l k o f h g e = g e

  -- the link that is found there has those ends
  pub at_link : (v w : ℕ) (k : Link) (ls : List Link) → AllOf P ls → world.link_at v w ls ≡ Some k → P k × (k.from ≡ v) × (k.to ≡ w)
  unfolding world.link_at
  at_link v w k [] h e = cc
  at_link v w k (l ∷ ls) h e = found_one (world.is_link v w l) v w l k (world.link_at v w ls) (ends_are l v w) h.0 (λ i. at_link v w k ls h.1 i) e

module _ (vats : List (Vat Name)) where
  true_false : (b : Bool) → b ≡ true → b ≡ false → ⊥
  true_false b e f = cc

  pushed_either : (n : Note Name) (l : Link) (b : Bool) → l.cut ≡ b → Sent vats l.from l.to n → LinkKnown vats l → LinkKnown vats (elim b [ true ↦ record l { log = l.log ++ n ∷ [] } | false ↦ record l { notes = l.notes ++ n ∷ []; log = l.log ++ n ∷ [] } ])
  pushed_either n l true c k h = record { roots = h.roots; sent = all_end (Sent vats l.from l.to) l.log n h.sent k; arrived = λ e. absurd (true_false l.cut c e) }
  pushed_either n l false c k h = record {
    roots = h.roots;
    sent = all_end (Sent vats l.from l.to) l.log n h.sent k;
    arrived = λ e. let a = h.arrived e in (a.0, ap (λ ns. ns ++ n ∷ []) a.1 ∙ append_assoc a.0 l.notes (n ∷ []), a.2);
  }

  pub pushed_stands : (n : Note Name) (v w : ℕ) → Sent vats v w n → (l : Link) → l.from ≡ v → l.to ≡ w → LinkKnown vats l → LinkKnown vats (world.pushed n l)
  unfolding world.pushed
  pushed_stands n v w k l e f h = pushed_either n l l.cut refl (rw (sym e, sym f) at k) h

  pub push_all_stands : (v : ℕ) (ps : List (Put Name)) (ls : List Link) → AllOf (λ (p : Put Name). Sent vats v p.to p.note) ps → AllOf (LinkKnown vats) ls → AllOf (LinkKnown vats) (world.push_all v ps ls)
  unfolding world.push_all
  push_all_stands v [] ls k h = h
  push_all_stands v (p ∷ ps) ls k h = push_all_stands v ps (world.with_link (world.pushed p.note) v p.to ls) k.1 (with_link_all (LinkKnown vats) (world.pushed p.note) v p.to (pushed_stands p.note v p.to k.0) ls h)

  pub severed_stands : (l : Link) → LinkKnown vats l → LinkKnown vats (world.severed_link l)
  unfolding world.severed_link
  severed_stands l h = record { roots = h.roots; sent = h.sent; arrived = λ e. absurd (true_false true refl e) }

  -- the first note under way has arrived
  pub taken_stands : (n : Note Name) (ns : List (Note Name)) (l : Link) → l.notes ≡ n ∷ ns → Heard vats l.to n → LinkKnown vats l → LinkKnown vats (world.with_notes ns l)
  unfolding world.with_notes
  taken_stands n ns l e k h = record {
    roots = h.roots;
    sent = h.sent;
    arrived = λ c. let a = h.arrived c in (a.0 ++ n ∷ [], a.1 ∙ ap (λ ms. a.0 ++ ms) e ∙ sym (append_assoc a.0 (n ∷ []) ns), all_end (Heard vats l.to) a.0 n a.2 k);
  }
