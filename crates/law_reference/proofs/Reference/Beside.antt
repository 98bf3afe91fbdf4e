-- What holds of the names that a vat knows and of the notes that it put, and stays where a note passes nothing: so the view of an object of another vat leaves it.
use Rattle.std.proofs.Common.{ℕ, Bool, true, false, List, [], ◌∷◌, ◌++◌, Option, Some, None, if◌then◌else◌, ◌==◌, ◌≡◌}
use Rattle.def_machine.specs.Values.{Name, Promise, Answer, Gift, naming, name_of, IsGift, key, under}
use Rattle.def_machine.specs.State.{Known, Change, Wait, See, Note, Deliver, Ask, SettledTo, Shorten, Put, GiftEntry, with_change, begun, Vat, Done, ◌>>=◌, ◌>>◌, and_then, give, look, tell, come, new_gift, send_out, alter, draw, draws}
use Rattle.def_machine.specs.Refs.{host_at}
use Rattle.def_machine.specs.Arrive as arrive
use Rattle.law_reference.proofs.Reference.CareMore.{Leaves as LeavesSo}

-- a note in which nothing passes
abbrev pub PassesNothing : Note Name → Type 0
PassesNothing (Deliver d n verb ys) = ⊥
PassesNothing (SettledTo n y) = ⊥
PassesNothing other = Unit {0}

-- a name that vat v may make by itself: a promise, a gift, or an answer that it hosts
abbrev pub MakesAlone : ℕ → Name → Type 0
MakesAlone v (Promise w i) = Unit {0}
MakesAlone v (Gift h i) = Unit {0}
MakesAlone v (Answer h m) = h ≡ v
MakesAlone v other = ⊥

module _ (word : ℕ → ℕ) (v : ℕ) (Fit : List (Known Name) → List (Put Name) → Type 0) where
  abbrev pub IsFit : Vat Name → Type 0
  IsFit s = Fit s.known s.outbox

  abbrev pub Leaves : {A : Type 0} → Done Name A → Type 0
  Leaves d = LeavesSo IsFit d

  -- what is to be shown of it
  pub record Stays : Type 0 where
    pub altered : (c : Change Name) (n : Name) (ks : List (Known Name)) (ps : List (Put Name)) → Fit ks ps → Fit (with_change (naming word v) c n ks) ps
    pub knows : (n : Name) (h : ℕ) → MakesAlone v n → (ks : List (Known Name)) (ps : List (Put Name)) → Fit ks ps → Fit (ks ++ begun n h ∷ []) ps
    pub puts : (p : Put Name) → PassesNothing p.note → (ks : List (Known Name)) (ps : List (Put Name)) → Fit ks ps → Fit ks (ps ++ p ∷ [])

  -- ---- the view of an object of another vat

  module _ (stays : Stays) where
    see_leaves : (s : Vat Name) (n k : Name) → IsFit s → Leaves (arrive.see (naming word v) n k s)
    unfolding arrive.see ◌>>◌ and_then tell alter
    see_leaves s n k o = stays.altered (Wait n) k (with_change (naming word v) (See k) n s.known) s.outbox (stays.altered (See k) n s.known s.outbox o)

    had_leaves : (s : Vat Name) (u h i : ℕ) (n : Name) (o : Option (GiftEntry Name)) → IsFit s → Leaves (and_then (arrive.gift_or_new (naming word v) u h i o s) (λ k. arrive.see (naming word v) n k))
    unfolding arrive.gift_or_new ◌>>=◌ ◌>>◌ and_then come new_gift give naming name_of
    had_leaves s u h i n (Some k) o = see_leaves s n k.name o
    had_leaves s u h i n None o = see_leaves (record s { known = s.known ++ begun (Gift u i) u ∷ []; gifts = s.gifts ++ record { name = Gift u i; provider = h; number = i; opened = false } ∷ [] }) n (Gift u i) (stays.knows (Gift u i) u tt s.known s.outbox o)

    there_leaves : (s : Vat Name) (u h c i : ℕ) (n : Name) (b : Bool) → IsFit s
        → Leaves (and_then ((if b then arrive.have_gift (naming word v) h i else (come (naming word v) (IsGift c i) c >>= (λ k. send_out c (Ask h i k) >> give k))) s) (λ k. arrive.see (naming word v) n k))
    unfolding arrive.have_gift ◌>>=◌ ◌>>◌ and_then come send_out give look naming name_of
    there_leaves s u h c i n true o = had_leaves s s.number h i n (arrive.gift_at h i s.gifts) o
    there_leaves s u h c i n false o = let s1 : Vat Name = record s { known = s.known ++ begun (Gift c i) c ∷ [] } in let p : Put Name = record { to = c; note = Ask h i (Gift c i) } in
        see_leaves (record s1 { outbox = s1.outbox ++ p ∷ [] }) n (Gift c i) (stays.puts p tt s1.known s1.outbox (stays.knows (Gift c i) c tt s.known s.outbox o))

    drawn_leaves : (s : Vat Name) (u h c : ℕ) (n : Name) (w : ℕ) (o : Option ℕ) → IsFit s
        → Leaves (and_then (draws w o s) (λ i. send_out h (Shorten n c (under h i)) >> (arrive.gift_there (naming word v) u h c (under h i) >>= (λ k. arrive.see (naming word v) n k))))
    unfolding draws and_then send_out ◌>>◌ ◌>>=◌ arrive.gift_there
    drawn_leaves s u h c n w (Some j) o = tt
    drawn_leaves s u h c n w None o = let p : Put Name = record { to = h; note = Shorten n c (under h (key s.number w)) } in there_leaves (record s { outbox = s.outbox ++ p ∷ []; drawn = s.drawn ++ w ∷ [] }) u h c _ n (c == u) (stays.puts p tt s.known s.outbox o)

    pub view_leaves : (n : Name) (c : ℕ) (s : Vat Name) → IsFit s → Leaves (arrive.view_there (naming word v) n c s)
    unfolding arrive.view_there ◌>>=◌ and_then look draw
    view_leaves n c s o = drawn_leaves s s.number (host_at (naming word v) s.number s.known n) c n _ _ o
