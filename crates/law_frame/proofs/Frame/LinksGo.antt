-- How the link from one vat to another goes on: nothing that was put is forgotten, and nothing that has arrived.
use Rattle.std.proofs.Common.{◌≡◌, ℕ, Bool, true, false, List, [], ◌∷◌, ◌++◌, Option, Some, None, refl, sym, ap, subst, ◌∙◌, append_assoc}
use Rattle.def_machine.specs.Values.{Name}
use Rattle.def_machine.specs.State.{Note}
use Rattle.def_run.specs.World as world
use Rattle.def_run.specs.World.{Link}
use Rattle.law_fate.specs.Name.Names.{AllOf, IsAmong}
use Rattle.law_fate.proofs.Name.Among.{among_more, among_last}
use Rattle.law_frame.specs.Frame.Tables.{arrived}
use Rattle.law_frame.proofs.Frame.WireArrivals.{arrived_is}

-- of all the notes that were put, some have arrived and the others are under way
abbrev pub Splits : Link → Type 0
Splits l = l.cut ≡ false → (front : List (Note Name)) × (l.log ≡ front ++ l.notes)

pub record LinkGoes (l k : Link) : Type 0 where
  pub roots : k.roots ≡ l.roots
  pub log : (n : Note Name) → IsAmong n l.log → IsAmong n k.log
  pub uncut : k.cut ≡ false → l.cut ≡ false
  pub arrivals : k.cut ≡ false → (n : Note Name) → IsAmong n (arrived (Some l)) → IsAmong n (arrived (Some k))

abbrev pub FoundFrom : List Link → ℕ → ℕ → Link → Type 0
FoundFrom ls a b k = (l : Link) × (world.link_at a b ls ≡ Some l) × LinkGoes l k

-- each link after was there before
abbrev pub LinksGo : List Link → List Link → Type 0
LinksGo ls ks = (a b : ℕ) (k : Link) → world.link_at a b ks ≡ Some k → FoundFrom ls a b k

pub goes_same : (l : Link) → LinkGoes l l
goes_same l = record { roots = refl; log = λ n a. a; uncut = λ e. e; arrivals = λ e n a. a }

pub goes_on : (l k j : Link) → LinkGoes l k → LinkGoes k j → LinkGoes l j
goes_on l k j h g = record { roots = g.roots ∙ h.roots; log = λ n a. g.log n (h.log n a); uncut = λ e. h.uncut (g.uncut e); arrivals = λ e n a. g.arrivals e n (h.arrivals (g.uncut e) n a) }

pub links_same : (ls : List Link) → LinksGo ls ls
links_same ls a b k e = (k, e, goes_same k)

pub links_on : (ls ks js : List Link) → LinksGo ls ks → LinksGo ks js → LinksGo ls js
links_on ls ks js h g a b j e = let k = g a b j e in let l = h a b k.0 k.1 in (l.0, l.1, goes_on l.0 k.0 j l.2 k.2)

-- ---- one link is changed

-- it stays a link between the same vats
abbrev pub Stays : (Link → Link) → Type 0
Stays f = (a b : ℕ) (l : Link) → world.is_link a b (f l) ≡ world.is_link a b l

some_is : (l j : Link) → Some l ≡ Some j → l ≡ j
some_is l j e = cc

none_is : (l : Link) → None ≡ Some l → ⊥
none_is l e = cc

true_false : (b : Bool) → b ≡ true → b ≡ false → ⊥
true_false b e f = cc

no_true : false ≡ true → ⊥
no_true e = cc

no_false : true ≡ false → ⊥
no_false e = cc

module _ (f : Link → Link) (stays : Stays f) (v w : ℕ) where
  here_true : (b d : Bool) (l k : Link) (o : Option Link) → d ≡ b → LinkGoes l (f l) → ◌≡◌ {A = Option Link} (elim d [ true ↦ Some (f l) | false ↦ o ]) (Some k) → (j : Link) × (◌≡◌ {A = Option Link} (elim b [ true ↦ Some l | false ↦ o ]) (Some j)) × LinkGoes j k
  here_true true true l k o e h i = (l, refl, subst (λ (z : Link). LinkGoes l z) (some_is (f l) k i) h)
  here_true false false l k o e h i = (k, i, goes_same k)
  here_true true false l k o e h i = absurd (no_true e)
  here_true false true l k o e h i = absurd (no_false e)

  here_false : (b : Bool) (l k : Link) (o p : Option Link) → ((j : Link) → p ≡ Some j → (i : Link) × (o ≡ Some i) × LinkGoes i j) → ◌≡◌ {A = Option Link} (elim b [ true ↦ Some l | false ↦ p ]) (Some k) → (j : Link) × (◌≡◌ {A = Option Link} (elim b [ true ↦ Some l | false ↦ o ]) (Some j)) × LinkGoes j k
  here_false true l k o p g i = (l, refl, subst (λ (z : Link). LinkGoes l z) (some_is l k i) (goes_same l))
  here_false false l k o p g i = g k i

  head_goes : (c : Bool) (a b : ℕ) (l k : Link) (ls rest : List Link) → LinkGoes l (f l) → LinksGo ls rest → world.link_at a b (elim c [ true ↦ f l ∷ ls | false ↦ l ∷ rest ]) ≡ Some k → FoundFrom (l ∷ ls) a b k
  unfolding world.link_at
  head_goes true a b l k ls rest h g i = here_true (world.is_link a b l) (world.is_link a b (f l)) l k (world.link_at a b ls) (stays a b l) h i
  head_goes false a b l k ls rest h g i = here_false (world.is_link a b l) l k (world.link_at a b ls) (world.link_at a b rest) (λ j e. g a b j e) i

  head_other : (a b : ℕ) (l k : Link) (ls rest : List Link) → LinksGo ls rest → world.link_at a b (l ∷ rest) ≡ Some k → FoundFrom (l ∷ ls) a b k
  unfolding world.link_at
  head_other a b l k ls rest g i = here_false (world.is_link a b l) l k (world.link_at a b ls) (world.link_at a b rest) (λ j e. g a b j e) i

  pub with_link_goes : (ls : List Link) → AllOf (λ l. LinkGoes l (f l)) ls → LinksGo ls (world.with_link f v w ls)
  unfolding world.with_link
  with_link_goes [] h = links_same []
  with_link_goes (l ∷ ls) h = λ a b k e. head_goes (world.is_link v w l) a b l k ls (world.with_link f v w ls) h.0 (with_link_goes ls h.1) e

  found_rest : (c : Bool) (l k : Link) (o : Option Link) → ◌≡◌ {A = Option Link} (elim c [ true ↦ Some l | false ↦ o ]) (Some k) → (c ≡ true → l ≡ k) × (c ≡ false → o ≡ Some k)
  found_rest true l k o e = (λ i. some_is l k e, λ i. cc)
  found_rest false l k o e = (λ i. cc, λ i. e)

  found_either : (c : Bool) (l m : Link) (ls rest : List Link) → (c ≡ true → l ≡ m) → LinkGoes m (f m) → (c ≡ false → LinksGo ls rest) → (a b : ℕ) (k : Link) → world.link_at a b (elim c [ true ↦ f l ∷ ls | false ↦ l ∷ rest ]) ≡ Some k → FoundFrom (l ∷ ls) a b k
  found_either true l m ls rest e h g a b k i = head_goes true a b l k ls ls (rw (sym (e refl)) at h) (links_same ls) i
  found_either false l m ls rest e h g a b k i = head_other a b l k ls rest (g refl) i

  -- the link that is found there is changed
  pub with_found_goes : (m : Link) (ls : List Link) → world.link_at v w ls ≡ Some m → LinkGoes m (f m) → LinksGo ls (world.with_link f v w ls)
  unfolding world.with_link world.link_at
  with_found_goes m [] e h = absurd (none_is m e)
  with_found_goes m (l ∷ ls) e h = let r = found_rest (world.is_link v w l) l m (world.link_at v w ls) e in found_either (world.is_link v w l) l m ls (world.with_link f v w ls) r.0 h (λ i. with_found_goes m ls (r.1 i) h)

  now_true : (b d : Bool) (l k : Link) (o : Option Link) → d ≡ b → b ≡ true → ◌≡◌ {A = Option Link} (elim d [ true ↦ Some (f l) | false ↦ o ]) (Some k) → (j : Link) × (◌≡◌ {A = Option Link} (elim b [ true ↦ Some l | false ↦ o ]) (Some j)) × (k ≡ f j)
  now_true true true l k o e h i = (l, refl, sym (some_is (f l) k i))
  now_true false d l k o e h i = absurd (true_false false h refl)
  now_true true false l k o e h i = absurd (no_true e)

  now_false : (b : Bool) (l k : Link) (o p : Option Link) → b ≡ false → ((j : Link) → p ≡ Some j → (i : Link) × (o ≡ Some i) × (j ≡ f i)) → ◌≡◌ {A = Option Link} (elim b [ true ↦ Some l | false ↦ p ]) (Some k) → (j : Link) × (◌≡◌ {A = Option Link} (elim b [ true ↦ Some l | false ↦ o ]) (Some j)) × (k ≡ f j)
  now_false true l k o p e g i = absurd (true_false true refl e)
  now_false false l k o p e g i = g k i

  now_head : (c : Bool) (l k : Link) (ls rest : List Link) → world.is_link v w l ≡ c → ((j : Link) → world.link_at v w rest ≡ Some j → (i : Link) × (world.link_at v w ls ≡ Some i) × (j ≡ f i)) → world.link_at v w (elim c [ true ↦ f l ∷ ls | false ↦ l ∷ rest ]) ≡ Some k → (j : Link) × (world.link_at v w (l ∷ ls) ≡ Some j) × (k ≡ f j)
  unfolding world.link_at
  now_head true l k ls rest c g i = now_true (world.is_link v w l) (world.is_link v w (f l)) l k (world.link_at v w ls) (stays v w l) c i
  now_head false l k ls rest c g i = now_false (world.is_link v w l) l k (world.link_at v w ls) (world.link_at v w rest) c g i

  -- the link that was changed
  pub with_link_here : (ls : List Link) (k : Link) → world.link_at v w (world.with_link f v w ls) ≡ Some k → (j : Link) × (world.link_at v w ls ≡ Some j) × (k ≡ f j)
  unfolding world.with_link world.link_at
  with_link_here [] k e = absurd (none_is k e)
  with_link_here (l ∷ ls) k e = now_head (world.is_link v w l) l k ls (world.with_link f v w ls) refl (λ j i. with_link_here ls j i) e

-- ---- which links there are

-- there is a link from a to b
abbrev pub IsThere : List Link → ℕ → ℕ → Type 0
IsThere ls a b = (l : Link) × (world.link_at a b ls ≡ Some l)

-- each link stays there
abbrev pub Lasts : List Link → List Link → Type 0
Lasts ls ks = (a b : ℕ) → IsThere ls a b → IsThere ks a b

-- with each link there is one back
abbrev pub Paired : List Link → Type 0
Paired ls = (a b : ℕ) → IsThere ls a b → IsThere ls b a

pub paired_on : (ls ks : List Link) → LinksGo ls ks → Lasts ls ks → Paired ls → Paired ks
paired_on ls ks g h p a b t = let was = g a b t.0 t.1 in h b a (p a b (was.0, was.1))

module _ (f : Link → Link) (stays : Stays f) (v w : ℕ) where
  last_true : (b d : Bool) (l : Link) (o : Option Link) → d ≡ b → (k : Link) × (◌≡◌ {A = Option Link} (elim b [ true ↦ Some l | false ↦ o ]) (Some k)) → (k : Link) × (◌≡◌ {A = Option Link} (elim d [ true ↦ Some (f l) | false ↦ o ]) (Some k))
  last_true true true l o e t = (f l, refl)
  last_true false false l o e t = t
  last_true true false l o e t = absurd (no_true e)
  last_true false true l o e t = absurd (no_false e)

  last_false : (b : Bool) (l : Link) (o p : Option Link) → ((k : Link) × (o ≡ Some k) → (k : Link) × (p ≡ Some k)) → (k : Link) × (◌≡◌ {A = Option Link} (elim b [ true ↦ Some l | false ↦ o ]) (Some k)) → (k : Link) × (◌≡◌ {A = Option Link} (elim b [ true ↦ Some l | false ↦ p ]) (Some k))
  last_false true l o p g t = (l, refl)
  last_false false l o p g t = g t

  last_head : (c : Bool) (a b : ℕ) (l : Link) (ls rest : List Link) → (IsThere ls a b → IsThere rest a b) → IsThere (l ∷ ls) a b → IsThere (elim c [ true ↦ f l ∷ ls | false ↦ l ∷ rest ]) a b
  unfolding world.link_at
  last_head true a b l ls rest g t = last_true (world.is_link a b l) (world.is_link a b (f l)) l (world.link_at a b ls) (stays a b l) t
  last_head false a b l ls rest g t = last_false (world.is_link a b l) l (world.link_at a b ls) (world.link_at a b rest) g t

  pub with_link_lasts : (ls : List Link) → Lasts ls (world.with_link f v w ls)
  unfolding world.with_link
  with_link_lasts [] = λ a b t. t
  with_link_lasts (l ∷ ls) = λ a b t. last_head (world.is_link v w l) a b l ls (world.with_link f v w ls) (with_link_lasts ls a b) t

-- ---- the changes

pushed_either : (n : Note Name) (l : Link) (b : Bool) → l.cut ≡ b → Splits l → LinkGoes l (elim b [ true ↦ record l { log = l.log ++ n ∷ [] } | false ↦ record l { notes = l.notes ++ n ∷ []; log = l.log ++ n ∷ [] } ])
pushed_either n l true c h = record { roots = refl; log = λ m a. among_more m l.log n a; uncut = λ e. e; arrivals = λ e. absurd (true_false l.cut c e) }
pushed_either n l false c h = record { roots = refl; log = λ m a. among_more m l.log n a; uncut = λ e. e; arrivals = λ e m a. kept m a (h e) }
  where
    kept : (m : Note Name) → IsAmong m (arrived (Some l)) → (front : List (Note Name)) × (l.log ≡ front ++ l.notes) → IsAmong m (arrived (Some (record l { notes = l.notes ++ n ∷ []; log = l.log ++ n ∷ [] })))
    kept m a s = rw (arrived_is l s.0 s.1 ∙ sym (arrived_is (record l { notes = l.notes ++ n ∷ []; log = l.log ++ n ∷ [] }) s.0 (ap (λ ns. ns ++ n ∷ []) s.1 ∙ append_assoc s.0 l.notes (n ∷ [])))) at a

pub pushed_goes : (n : Note Name) (l : Link) → Splits l → LinkGoes l (world.pushed n l)
unfolding world.pushed
pushed_goes n l h = pushed_either n l l.cut refl h

pushed_log_either : (n : Note Name) (l : Link) (b : Bool) → IsAmong n (let k : Link = elim b [ true ↦ record l { log = l.log ++ n ∷ [] } | false ↦ record l { notes = l.notes ++ n ∷ []; log = l.log ++ n ∷ [] } ] in k.log)
pushed_log_either n l true = among_last l.log n
pushed_log_either n l false = among_last l.log n

pub pushed_log : (n : Note Name) (l : Link) → IsAmong n (world.pushed n l).log
unfolding world.pushed
pushed_log n l = pushed_log_either n l l.cut

pub severed_goes : (l : Link) → LinkGoes l (world.severed_link l)
unfolding world.severed_link
severed_goes l = record { roots = refl; log = λ n a. a; uncut = λ e. cc; arrivals = λ e n a. absurd (true_false true refl e) }

taken_is : (n : Note Name) (ns : List (Note Name)) (l : Link) → l.notes ≡ n ∷ ns → (s : (front : List (Note Name)) × (l.log ≡ front ++ l.notes)) → arrived (Some (record l { notes = ns })) ≡ s.0 ++ n ∷ []
taken_is n ns l e s = arrived_is (record l { notes = ns }) (s.0 ++ n ∷ []) (s.1 ∙ ap (λ ms. s.0 ++ ms) e ∙ sym (append_assoc s.0 (n ∷ []) ns))

pub taken_goes : (n : Note Name) (ns : List (Note Name)) (l : Link) → l.notes ≡ n ∷ ns → Splits l → LinkGoes l (world.with_notes ns l)
unfolding world.with_notes
taken_goes n ns l e h = record { roots = refl; log = λ m a. a; uncut = λ c. c; arrivals = λ c m a. let s = h c in rw (sym (taken_is n ns l e s)) at (among_more m s.0 n (rw (arrived_is l s.0 s.1) at a)) }

-- the note that was taken has arrived
pub taken_arrived : (n : Note Name) (ns : List (Note Name)) (l : Link) → l.notes ≡ n ∷ ns → Splits l → l.cut ≡ false → IsAmong n (arrived (Some (world.with_notes ns l)))
unfolding world.with_notes
taken_arrived n ns l e h c = let s = h c in rw (sym (taken_is n ns l e s)) at (among_last s.0 n)
