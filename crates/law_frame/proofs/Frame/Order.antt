-- A note asks for a gift before any note names it.
use Rattle.std.proofs.Common.{◌≡◌, ℕ, List, [], ◌∷◌, ◌++◌, refl, sym, subst, ◌⊎◌, inl, inr, append-nil}
use Rattle.def_machine.specs.Values.{Name, Root, Object, Promise, Answer, Gift, Sent}
use Rattle.def_machine.specs.State.{Note, Ask, Put}
use Rattle.law_fate.specs.Name.Names.{AllOf, IsAmong, IsKnownIn, IsEventual}
use Rattle.law_frame.specs.Frame.Asked.{told_in}
use Rattle.law_frame.proofs.Frame.Grow.{among_left, among_right}
use Rattle.law_frame.proofs.Frame.AlikeAsking.{IsNoAsk}

-- the gift for which it asks is none of these
abbrev pub AsksNew : List Name → Note Name → Type 0
AsksNew seen (Ask p i n) = IsEventual n × (IsAmong n seen → ⊥)
AsksNew seen other = Unit {0}

-- each gift for which one of the notes asks is none of these names, nor told in a note in front of it
abbrev pub InOrder : List Name → List (Note Name) → Type 0
InOrder seen [] = Unit {0}
InOrder seen (n ∷ ns) = AsksNew seen n × InOrder (seen ++ told_in n) ns

-- it asks for a gift that is none of these
abbrev pub IsNewAsk : List Name → Note Name → Type 0
IsNewAsk seen (Ask p i n) = IsEventual n × (IsAmong n seen → ⊥)
IsNewAsk seen other = ⊥

unfoldable pub notes_of : List (Put Name) → List (Note Name)
notes_of [] = []
notes_of (p ∷ ps) = p.note ∷ notes_of ps

-- ---- fewer names

-- of these names all that are no objects are among those
abbrev pub Within : List Name → List Name → Type 0
Within less more = (n : Name) → IsEventual n → IsAmong n less → IsAmong n more

new_less : (less more : List Name) → Within less more → (n : Note Name) → AsksNew more n → AsksNew less n
new_less less more f (Ask p i n) h = (h.0, λ a. h.1 (f n h.0 a))
new_less less more f other h = tt

among_either : (n : Name) (xs ys : List Name) → IsAmong n (xs ++ ys) → IsAmong n xs ⊎ IsAmong n ys
among_either n [] ys a = inr a
among_either n (x ∷ xs) ys (inl e) = inl (inl e)
among_either n (x ∷ xs) ys (inr a) = go (among_either n xs ys a)
  where
    go : IsAmong n xs ⊎ IsAmong n ys → IsAmong n (x ∷ xs) ⊎ IsAmong n ys
    go (inl b) = inl (inr b)
    go (inr b) = inr b

within_more : (less more ns : List Name) → Within less more → Within (less ++ ns) (more ++ ns)
within_more less more ns f n e a = go (among_either n less ns a)
  where
    go : IsAmong n less ⊎ IsAmong n ns → IsAmong n (more ++ ns)
    go (inl b) = among_left n more ns (f n e b)
    go (inr b) = among_right n more ns b

pub order_less : (less more : List Name) → Within less more → (ns : List (Note Name)) → InOrder more ns → InOrder less ns
order_less less more f [] h = tt
order_less less more f (n ∷ ns) h = (new_less less more f n h.0, order_less (less ++ told_in n) (more ++ told_in n) (within_more less more (told_in n) f) ns h.1)

-- ---- notes that ask for nothing, and notes that only ask

no_new : (seen : List Name) (n : Note Name) → IsNoAsk n → AsksNew seen n
no_new seen (Ask p i n) h = absurd h
no_new seen other h = tt

pub quiet_order : (seen : List Name) (ps : List (Put Name)) → AllOf (λ (p : Put Name). IsNoAsk p.note) ps → InOrder seen (notes_of ps)
unfolding notes_of
quiet_order seen [] h = tt
quiet_order seen (p ∷ ps) h = (no_new seen p.note h.0, quiet_order (seen ++ told_in p.note) ps h.1)

new_ask : (seen : List Name) (n : Note Name) → IsNewAsk seen n → AsksNew seen n × (told_in n ≡ [])
unfolding told_in
new_ask seen (Ask p i n) h = (h, refl)
new_ask seen other h = absurd h

pub asks_order : (seen : List Name) (ps qs : List (Put Name)) → AllOf (λ (p : Put Name). IsNewAsk seen p.note) ps → AllOf (λ (p : Put Name). IsNoAsk p.note) qs → InOrder seen (notes_of (ps ++ qs))
unfolding notes_of
asks_order seen [] qs h k = quiet_order seen qs k
asks_order seen (p ∷ ps) qs h k = let n = new_ask seen p.note h.0 in let same : seen ++ told_in p.note ≡ seen = rw n.1 (append-nil seen) in (n.0, subst (λ ns. InOrder ns (notes_of (ps ++ qs))) (sym same) (asks_order seen ps qs h.1 k))

-- ---- the notes of a link

-- what notes told is among these
abbrev pub ToldWithin : List Name → List (Note Name) → Type 0
ToldWithin seen ns = AllOf (λ (n : Note Name). Within (told_in n) seen) ns

-- one more note is put
pub order_more : (seen told : List Name) (log : List (Note Name)) (n : Note Name) → Within told seen → ToldWithin seen log → InOrder told log → AsksNew seen n → InOrder told (log ++ n ∷ [])
order_more seen told [] n f g h k = (new_less told seen f n k, tt)
order_more seen told (m ∷ log) n f g h k = (h.0, order_more seen (told ++ told_in m) log n (λ x e a. both x e (among_either x told (told_in m) a)) g.1 h.1 k)
  where
    both : (x : Name) → IsEventual x → IsAmong x told ⊎ IsAmong x (told_in m) → IsAmong x seen
    both x e (inl a) = f x e a
    both x e (inr a) = g.0 x e a

pub told_more : (seen more : List Name) → Within seen more → (log : List (Note Name)) (n : Note Name) → ToldWithin seen log → Within (told_in n) more → ToldWithin more (log ++ n ∷ [])
told_more seen more f [] n h k = (k, tt)
told_more seen more f (m ∷ log) n h k = (λ x e a. f x e (h.0 x e a), told_more seen more f log n h.1 k)

-- what was told is asked for by no later note
asked_not : (seen : List Name) (ns : List (Note Name)) (n : Name) (p i : ℕ) → IsAmong n seen → IsAmong (Ask p i n) ns → InOrder seen ns → ⊥
asked_not seen [] n p i a b h = b
asked_not seen (m ∷ ns) n p i a (inl e) h = let one : AsksNew seen (Ask p i n) = subst (λ z. AsksNew seen z) (sym e) h.0 in one.1 a
asked_not seen (m ∷ ns) n p i a (inr b) h = asked_not (seen ++ told_in m) ns n p i (among_left n seen (told_in m) a) b h.1

pub told_not_asked : (seen : List Name) (front ns : List (Note Name)) (m : Note Name) (n : Name) (p i : ℕ) → IsAmong n (told_in m) → IsAmong (Ask p i n) ns → InOrder seen (front ++ m ∷ ns) → ⊥
told_not_asked seen [] ns m n p i a b h = asked_not (seen ++ told_in m) ns n p i (among_right n seen (told_in m) a) b h.1
told_not_asked seen (x ∷ front) ns m n p i a b h = told_not_asked (seen ++ told_in x) front ns m n p i a b h.1

-- a name that is known and no object is among the names known
pub known_within : (ks : List Name) (ns : List Name) → AllOf (IsKnownIn ks) ns → Within ns ks
known_within ks [] h n e a = absurd a
known_within ks (m ∷ ns) h n e (inl f) = among n e (subst (λ z. IsKnownIn ks z) (sym f) h.0)
  where
    among : (n : Name) → IsEventual n → IsKnownIn ks n → IsAmong n ks
    among (Object c i) e k = absurd e
    among (Root c) e k = k
    among (Promise c i) e k = k
    among (Answer c m) e k = k
    among (Gift c i) e k = k
    among (Sent m) e k = absurd e
known_within ks (m ∷ ns) h n e (inr a) = known_within ks ns h.1 n e a
