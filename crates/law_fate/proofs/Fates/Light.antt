-- What a message weighs through each single change.
use Rattle.std.proofs.Common.{◌≡◌, ℕ, ◌+◌, ◌≤◌, Bool, true, false, List, [], ◌∷◌, ◌++◌, Option, Some, None, if◌then◌else◌, refl, sym, ap, ◌∙◌, arith, length, subst, ◌⊎◌, inl, inr}
use Rattle.std.specs.Prelude.{nat_le}
use Rattle.def_machine.specs.Values.{Value, Name, Naming, Coming, IsAnswer, IsGift, Mailing, name_of, answer_of, host_of}
use Rattle.def_machine.specs.State.{Message, Standing, Settled, Known, Change, Hold, Wait, WaitOn, See, React, ToTell, Settle, Passed, Note, Open, Ask, SettledTo, Elsewhere, Shorten, GiftEntry, Happened, Vat, Stop, Done, Gives, Stops, Act, ◌>>=◌, ◌>>◌, and_then, each, give, stop, look, tell, spend, spent, enqueue, send_out, new_list, new_gift, is_gift, with_opened, open_gift, mark, draws, draw, with_change, with_vat, is_in, changed, changed_to, unless_settled, alter, come, mail, begun, Put, for_some}
use Rattle.def_machine.specs.Refs.{entry_of, host_in}
use Rattle.law_fate.specs.Fates.Fate.{one, among}
use Rattle.law_fate.specs.Fates.Lasting.{Each, NamesMessage, NamesNoObject, HeldWell}
use Rattle.law_fate.proofs.Fates.Leads.{Ends, Leads}
use Rattle.law_fate.proofs.Fates.Counts.{among_end, sent_end}
use Rattle.law_fate.proofs.Fates.PlacesLast.{Global, Whatever, each_end, ChangeWell, change_well, come_well}
use Rattle.law_fate.specs.Fates.Carry.{weight, held_at, put_weight, load}
use Rattle.law_fate.specs.Fates.Sound.{KnownSound, NoteSound, Parts, Sound}
use Rattle.law_fate.specs.Fates.CarryLaws.{Lightened}

abbrev pub LightAt : {A : Type 0} → ℕ → Name → ℕ → Vat Name → Done Name A → Type 0
LightAt v x c s (Gives a t) = Lightened v x c s t
LightAt v x c s (Stops e t) = Unit {0}
LightAt v x c s other = ⊥

-- from a state in which all is in place the weight rises by so much at most, unless it stops
pub record Light {A : Type 0} (v : ℕ) (x : Name) (c : ℕ) (m : Act Name A) : Type 0 where
  pub after : (s : Vat Name) → Sound v s → LightAt v x c s (m s)

-- the same as a relation of states
pub record Moves (v : ℕ) (x : Name) (s t : Vat Name) : Type 0 where
  pub after : Sound v s → Lightened v x 0 s t

pub put_end : (x : Name) (ps : List (Put Name)) (p : Put Name) → put_weight x (ps ++ p ∷ []) ≡ put_weight x ps + weight x p.note
unfolding put_weight
put_end x [] p = omega arith
put_end x (q ∷ ps) p = let rest = put_end x ps p in omega arith

-- a name that comes to be known holds nothing
pub held_end : (x : Name) (ks : List (Known Name)) (n : Name) (h : ℕ) → held_at x (ks ++ begun n h ∷ []) ≡ held_at x ks
unfolding held_at among begun
held_end x [] n h = refl
held_end x (k ∷ ks) n h = let rest = held_end x ks n h in omega arith

module _ (v : ℕ) (x : Name) where
  pub lightened_trans : (c d : ℕ) (s t u : Vat Name) → Lightened v x c s t → Lightened v x d t u → Lightened v x (c + d) s u
  lightened_trans c d s t u h k = let i = h.kept in let j = k.kept in record { sound = k.sound; kept = omega arith }

  pub light_on : {A : Type 0} (c d : ℕ) (s t : Vat Name) (r : Done Name A) → Lightened v x c s t → LightAt v x d t r → LightAt v x (c + d) s r
  light_on c d s t (Gives a u) h k = lightened_trans c d s t u h k
  light_on c d s t (Stops e u) h k = tt
  light_on c d s t other h k = absurd k

  pub lighter : {A : Type 0} (c d : ℕ) (s : Vat Name) (r : Done Name A) → c ≤ d → LightAt v x c s r → LightAt v x d s r
  lighter c d s (Gives a u) h k = let i = k.kept in record { sound = k.sound; kept = omega arith }
  lighter c d s (Stops e u) h k = tt
  lighter c d s other h k = absurd k

  -- what comes first changes nothing that weighs
  pub light_next : {A : Type 0} (c : ℕ) (s t : Vat Name) (r : Done Name A) → Lightened v x 0 s t → LightAt v x c t r → LightAt v x c s r
  light_next c s t r h k = lighter (0 + c) c s r (omega arith) (light_on 0 c s t r h k)

  bind_at : {A B : Type 0} (c d : ℕ) (s : Vat Name) (r : Done Name A) (f : A → Act Name B) → LightAt v x c s r → ((a : A) → Light v x d (f a)) → LightAt v x (c + d) s (and_then r f)
  unfolding and_then
  bind_at c d s (Gives a t) f h k = light_on c d s t (f a t) h ((k a).after t h.sound)
  bind_at c d s (Stops e t) f h k = tt
  bind_at c d s other f h k = absurd h

  -- what comes after weighs nothing more
  pub then_at : {A B : Type 0} (c : ℕ) (s : Vat Name) (r : Done Name A) (m : Act Name B) → LightAt v x c s r → Light v x 0 m → LightAt v x c s (and_then r (λ _. m))
  then_at c s r m h k = lighter (c + 0) c s (and_then r (λ _. m)) (omega arith) (bind_at c 0 s r (λ _. m) h (λ _. k))

  pub cost_more : {A : Type 0} (c d : ℕ) {m : Act Name A} → c ≤ d → Light v x c m → Light v x d m
  cost_more c d {m = m} i h = record { after = λ s w. lighter c d s (m s) i (h.after s w) }

  pub cost_bind : {A B : Type 0} (c d : ℕ) {m : Act Name A} {f : A → Act Name B} → Light v x c m → ((a : A) → Light v x d (f a)) → Light v x (c + d) (m >>= f)
  unfolding ◌>>=◌
  cost_bind c d {m = m} {f = f} h k = record { after = λ s w. bind_at c d s (m s) f (h.after s w) k }

  pub cost_then : {A B : Type 0} (c d : ℕ) {m : Act Name A} {n : Act Name B} → Light v x c m → Light v x d n → Light v x (c + d) (m >> n)
  unfolding ◌>>◌
  cost_then c d {m = m} {n = n} h k = record { after = λ s w. bind_at c d s (m s) (λ _. n) (h.after s w) (λ _. k) }

  pub cost_bind_last : {A B : Type 0} (c : ℕ) {m : Act Name A} {f : A → Act Name B} → Light v x 0 m → ((a : A) → Light v x c (f a)) → Light v x c (m >>= f)
  cost_bind_last c h k = cost_more (0 + c) c (omega arith) (cost_bind 0 c h k)

  pub cost_then_last : {A B : Type 0} (c : ℕ) {m : Act Name A} {n : Act Name B} → Light v x 0 m → Light v x c n → Light v x c (m >> n)
  cost_then_last c h k = cost_more (0 + c) c (omega arith) (cost_then 0 c h k)

  pub cost_then_first : {A B : Type 0} (c : ℕ) {m : Act Name A} {n : Act Name B} → Light v x c m → Light v x 0 n → Light v x c (m >> n)
  cost_then_first c h k = cost_more (c + 0) c (omega arith) (cost_then c 0 h k)

  led_at : {A : Type 0} (s : Vat Name) (r : Done Name A) → (Sound v s → LightAt v x 0 s r) → Ends Whatever (Moves v x) s r
  led_at s (Gives a t) h = record { after = h }
  led_at s (Stops e t) h = record { any = tt }
  led_at s other h = record { after = λ w. absurd (h w) }

  pub led_by_light : {A : Type 0} (m : Act Name A) → Light v x 0 m → Leads Whatever (Moves v x) m
  led_by_light m h = record { after = λ s. led_at s (m s) (h.after s) }

  -- ---- what a vat does, one thing after another

  pub light_bind : {A B : Type 0} {m : Act Name A} {f : A → Act Name B} → Light v x 0 m → ((a : A) → Light v x 0 (f a)) → Light v x 0 (m >>= f)
  light_bind h k = cost_bind_last 0 h k

  pub light_then : {A B : Type 0} {m : Act Name A} {n : Act Name B} → Light v x 0 m → Light v x 0 n → Light v x 0 (m >> n)
  light_then h k = cost_then_last 0 h k

  pub cost_some : {A B : Type 0} (c : ℕ) (o : Option A) {f : A → Act Name B} {m : Act Name B} → ((a : A) → Light v x c (f a)) → Light v x c m → Light v x c (for_some o f m)
  unfolding for_some
  cost_some c (Some a) h k = h a
  cost_some c None h k = k

  pub light_if : {A : Type 0} (b : Bool) {m n : Act Name A} → Light v x 0 m → Light v x 0 n → Light v x 0 (if b then m else n)
  light_if true h k = h
  light_if false h k = k

  -- nothing that weighs changes
  pub unmoved : (s : Vat Name) → Sound v s → Lightened v x 0 s s
  unmoved s w = record { sound = w; kept = omega arith }

  pub light_give : {A : Type 0} (a : A) → Light v x 0 (give a)
  unfolding give
  light_give a = record { after = λ s w. unmoved s w }

  pub light_look : {A : Type 0} (f : Vat Name → A) → Light v x 0 (look f)
  unfolding look
  light_look f = record { after = λ s w. unmoved s w }

  pub light_stop : {A : Type 0} (e : Stop) → Light v x 0 (stop {A = A} e)
  unfolding stop
  light_stop e = record { after = λ s w. tt }

  pub light_tell : (e : Happened Name) → Light v x 0 (tell e)
  unfolding tell load
  light_tell e = record { after = λ s w. let more = sent_end x s.happened e in record { sound = w; kept = omega arith } }

  spend_at : (s : Vat Name) (n : ℕ) (b : Bool) → Sound v s → LightAt v x 0 s (spent n b s)
  unfolding spent load
  spend_at s n true w = record { sound = w; kept = omega arith }
  spend_at s n false w = tt

  pub light_spend : (n : ℕ) → Light v x 0 (spend n)
  unfolding spend
  light_spend n = record { after = λ s w. spend_at s n (nat_le n s.fuel) w }

  pub light_list : (vs : List (Value Name)) → Light v x 0 (new_list vs)
  unfolding new_list load
  light_list vs = record { after = λ s w. record { sound = w; kept = omega arith } }

  pub light_enqueue : (m : Message Name) → Light v x 0 (enqueue m)
  unfolding enqueue load
  light_enqueue m = record { after = λ s w. record { sound = w; kept = omega arith } }

  pub cost_out : (w : ℕ) (n : Note Name) → NoteSound v w n → Light v x (weight x n) (send_out w n)
  unfolding send_out load
  cost_out to n g = record {
    after = λ s w. let p : Put Name = record { to = to; note = n } in let more = put_end x s.outbox p in record {
      sound = record { same = w.same; well = w.well; names = w.names; own = w.own; notes = each_end (λ (q : Put Name). NoteSound v q.to q.note) s.outbox p w.notes g };
      kept = omega arith;
    };
  }

  pub light_out_open : (w i : ℕ) (n : Name) → Light v x 0 (send_out w (Open i n))
  unfolding weight
  light_out_open w i n = cost_out w (Open i n) tt

  pub light_out_ask : (w p i : ℕ) (n : Name) → Light v x 0 (send_out w (Ask p i n))
  unfolding weight
  light_out_ask w p i n = cost_out w (Ask p i n) tt

  pub light_out_settled : (w : ℕ) (n : Name) (y : Passed Name) → host_of n ≡ v → Light v x 0 (send_out w (SettledTo n y))
  unfolding weight
  light_out_settled w n y h = cost_out w (SettledTo n y) h

  pub light_out_elsewhere : (w : ℕ) (n : Name) (c : ℕ) → host_of n ≡ v → Light v x 0 (send_out w (Elsewhere n c))
  unfolding weight
  light_out_elsewhere w n c h = cost_out w (Elsewhere n c) h

  pub light_out_shorten : (w : ℕ) (n : Name) (c i : ℕ) → Light v x 0 (send_out w (Shorten n c i))
  unfolding weight
  light_out_shorten w n c i = cost_out w (Shorten n c i) tt

  pub light_gift : (n : Name) (p i : ℕ) → host_of n ≡ v → Light v x 0 (new_gift n p i)
  unfolding new_gift load
  light_gift n p i h = record {
    after = λ s w. record {
      sound = record { same = w.same; well = w.well; names = w.names; own = each_end (λ (g : GiftEntry Name). host_of g.name ≡ v) s.gifts (record { name = n; provider = p; number = i; opened = false }) w.own h; notes = w.notes };
      kept = omega arith;
    };
  }

  opened_own : (p i : ℕ) (gs : List (GiftEntry Name)) → Each (λ (g : GiftEntry Name). host_of g.name ≡ v) gs → Each (λ (g : GiftEntry Name). host_of g.name ≡ v) (with_opened p i gs)
  unfolding with_opened
  opened_own p i [] h = tt
  opened_own p i (g ∷ gs) h = either (is_gift p i g) (opened_own p i gs h.1)
    where
      either : (b : Bool) → Each (λ (g : GiftEntry Name). host_of g.name ≡ v) (with_opened p i gs) → Each (λ (g : GiftEntry Name). host_of g.name ≡ v) (elim b [ true ↦ record g { opened = true } ∷ gs | false ↦ g ∷ with_opened p i gs ])
      either true k = h
      either false k = (h.0, k)

  pub light_open : (p i : ℕ) → Light v x 0 (open_gift {N = Name} p i)
  unfolding open_gift load
  light_open p i = record { after = λ s w. record { sound = record { same = w.same; well = w.well; names = w.names; own = opened_own p i s.gifts w.own; notes = w.notes }; kept = omega arith } }

  pub light_mark : (w : ℕ) → Light v x 0 (mark {N = Name} w)
  unfolding mark load
  light_mark u = record { after = λ s w. record { sound = w; kept = omega arith } }

  pub light_each : {A : Type 0} {f : A → Act Name (Unit {0})} (xs : List A) → ((a : A) → Light v x 0 (f a)) → Light v x 0 (each f xs)
  unfolding each
  light_each [] h = light_give tt
  light_each (a ∷ xs) h = light_then (h a) (light_each xs h)

  draws_at : (s : Vat Name) (w : ℕ) (o : Option ℕ) → Sound v s → LightAt v x 0 s (draws w o s)
  unfolding draws load
  draws_at s n (Some i) w = tt
  draws_at s n None w = record { sound = w; kept = omega arith }

  -- ---- what is known of names

  -- what a change adds to the weight
  abbrev pub Added : Change Name → ℕ
  Added (Hold m) = one m.id x
  Added other = 0

  -- A name is viewed that has another host; and whom v is to tell of a name, it tells as its host, and as its host it holds a message.
  abbrev pub Suits : Change Name → Name → Option (Known Name) → Type 0
  Suits (See q) n o = host_of n ≡ v → ⊥
  Suits (ToTell w) n o = host_in v o ≡ v
  Suits (Hold m) n o = host_in v o ≡ v
  Suits other n o = Unit {0}

  told_vat : (h : Type 0) (w : ℕ) (ws : List ℕ) → h → Each (λ (u : ℕ). h) ws → Each (λ (u : ℕ). h) (with_vat w ws)
  unfolding with_vat
  told_vat h w ws i k = either (is_in w ws)
    where
      either : (b : Bool) → Each (λ (u : ℕ). h) (elim b [ true ↦ ws | false ↦ ws ++ w ∷ [] ])
      either true = k
      either false = each_end (λ (u : ℕ). h) ws w k i

  to_sound : (c : Change Name) (k : Known Name) → Suits c k.name (Some k) → KnownSound v k → KnownSound v (changed_to c k) × (among x (changed_to c k).held ≤ among x k.held + Added c)
  unfolding changed_to host_in among
  to_sound (Hold m) k g h = let more = among_end x k.held m in (record { host = h.host; viewed = h.viewed; told = h.told; held = each_end (λ (j : Message Name). host_of k.name ≡ v) k.held m h.held (sym h.host ∙ g) }, omega arith)
  to_sound (Settle y) k g h = (record { host = h.host; viewed = tt; told = tt; held = tt }, omega arith)
  to_sound (WaitOn q) k g h = (record { host = h.host; viewed = tt; told = h.told; held = h.held }, omega arith)
  to_sound (See q) k g h = (record { host = h.host; viewed = g; told = h.told; held = h.held }, omega arith)
  to_sound (ToTell u) k g h = (record { host = h.host; viewed = h.viewed; told = told_vat (host_of k.name ≡ v) u k.told (sym h.host ∙ g) h.told; held = h.held }, omega arith)
  to_sound other k g h = (record { host = h.host; viewed = h.viewed; told = h.told; held = h.held }, omega arith)

  unless_sound : (t : Standing Name) (k new : Known Name) (c : ℕ) → KnownSound v k → KnownSound v new × (among x new.held ≤ among x k.held + c) → KnownSound v (unless_settled t k new) × (among x (unless_settled t k new).held ≤ among x k.held + c)
  unfolding unless_settled
  unless_sound (Settled y) k new c h i = (h, omega arith)
  unless_sound other k new c h i = i

  module _ (K : Naming Name Name) (global : Global K v) where
    pub light_draw : Light v x 0 (draw K)
    unfolding draw
    light_draw = record { after = λ s w. draws_at s _ _ w }

    change_one : (c : Change Name) (n : Name) (k : Known Name) (ks js : List (Known Name)) (b : Bool) → K.same k.name n ≡ b → Suits c n (elim b [ true ↦ Some k | false ↦ entry_of K ks n ]) → KnownSound v k → Each (KnownSound v) ks
        → (Suits c n (entry_of K ks n) → Each (KnownSound v) js × (held_at x js ≤ held_at x ks + Added c))
        → Each (KnownSound v) (elim b [ true ↦ changed c k ∷ ks | false ↦ k ∷ js ]) × (held_at x (elim b [ true ↦ changed c k ∷ ks | false ↦ k ∷ js ]) ≤ among x k.held + held_at x ks + Added c)
    unfolding held_at changed
    change_one c n k ks js true e g h hs r = let new = unless_sound k.standing k (changed_to c k) (Added c) h (to_sound c k (subst (λ a. Suits c a (Some k)) (sym (global.alike k.name n e)) g) h) in let more = new.1 in ((new.0, hs), omega arith)
    change_one c n k ks js false e g h hs r = let rest = r g in let more = rest.1 in ((h, rest.0), omega arith)

    pub change_sound : (c : Change Name) (n : Name) (ks : List (Known Name)) → Suits c n (entry_of K ks n) → Each (KnownSound v) ks → Each (KnownSound v) (with_change K c n ks) × (held_at x (with_change K c n ks) ≤ held_at x ks + Added c)
    unfolding with_change held_at entry_of
    change_sound c n [] g h = (tt, omega arith)
    change_sound c n (k ∷ ks) g h = change_one c n k ks (with_change K c n ks) (K.same k.name n) refl g h.0 h.1 (λ i. change_sound c n ks i h.1)

    alter_at : (c : Change Name) (n : Name) (s : Vat Name) → ChangeWell (λ u. false) x n c → Suits c n (entry_of K s.known n) → Sound v s → LightAt v x (Added c) s (alter K c n s)
    unfolding alter load
    alter_at c n s g h w = let a = change_well (λ u. false) x K v global c n s.known g w.well in let b = change_sound c n s.known h w.names in let more = b.1 in
        record { sound = record { same = w.same; well = a.0; names = b.0; own = w.own; notes = w.notes }; kept = omega arith }

    pub hold_at : (m : Message Name) (n : Name) (s : Vat Name) → HeldWell n m → host_in v (entry_of K s.known n) ≡ v → Sound v s → LightAt v x (one m.id x) s (alter K (Hold m) n s)
    hold_at m n s g h w = alter_at (Hold m) n s g h w

    pub light_wait : (q n : Name) → Light v x 0 (alter K (Wait q) n)
    light_wait q n = record { after = λ s w. alter_at (Wait q) n s tt tt w }

    pub light_wait_on : (q n : Name) → Light v x 0 (alter K (WaitOn q) n)
    light_wait_on q n = record { after = λ s w. alter_at (WaitOn q) n s tt tt w }

    pub light_see : (q n : Name) → (host_of n ≡ v → ⊥) → Light v x 0 (alter K (See q) n)
    light_see q n h = record { after = λ s w. alter_at (See q) n s tt h w }

    pub light_react : (m : Message Name) (n : Name) → Light v x 0 (alter K (React m) n)
    light_react m n = record { after = λ s w. alter_at (React m) n s tt tt w }

    pub tell_at : (w : ℕ) (n : Name) (s : Vat Name) → host_in v (entry_of K s.known n) ≡ v → Sound v s → LightAt v x 0 s (alter K (ToTell w) n s)
    tell_at u n s h w = alter_at (ToTell u) n s tt h w

    found_where : (n : Name) (k j : Known Name) (o : Option (Known Name)) (b : Bool) → K.same j.name n ≡ b → elim b [ true ↦ Some j | false ↦ o ] ≡ Some k → KnownSound v j → (o ≡ Some k → KnownSound v k × (k.name ≡ n)) → KnownSound v k × (k.name ≡ n)
    found_where n k j o true e i h r = let same : j ≡ k = cc in let here : KnownSound v j × (j.name ≡ n) = (h, global.alike j.name n e) in rw same at here
    found_where n k j o false e i h r = r i

    pub found_sound : (n : Name) (k : Known Name) (ks : List (Known Name)) → entry_of K ks n ≡ Some k → Each (KnownSound v) ks → KnownSound v k × (k.name ≡ n)
    unfolding entry_of
    found_sound n k [] e w = cc
    found_sound n k (j ∷ ks) e w = found_where n k j (entry_of K ks n) (K.same j.name n) refl e w.0 (λ i. found_sound n k ks i w.1)

    -- the host of a name is that vat itself, where it is not known, or the true one
    host_or : (n : Name) (ks : List (Known Name)) (o : Option (Known Name)) → entry_of K ks n ≡ o → Each (KnownSound v) ks → (host_in v o ≡ v) ⊎ (host_in v o ≡ host_of n)
    unfolding host_in
    host_or n ks None e w = inl refl
    host_or n ks (Some k) e w = let found = found_sound n k ks e w in let of_k = found.0 in inr (of_k.host ∙ ap host_of found.1)

    pub host_known : (n : Name) (ks : List (Known Name)) → Each (KnownSound v) ks → (host_in v (entry_of K ks n) ≡ v) ⊎ (host_in v (entry_of K ks n) ≡ host_of n)
    host_known n ks w = host_or n ks (entry_of K ks n) refl w

    own_where : (n : Name) (h : ℕ) → host_of n ≡ v → (h ≡ v) ⊎ (h ≡ host_of n) → h ≡ v
    own_where n h e (inl i) = i
    own_where n h e (inr i) = i ∙ e

    -- of a name of its own v is the host
    pub own_host : (n : Name) (ks : List (Known Name)) → host_of n ≡ v → Each (KnownSound v) ks → host_in v (entry_of K ks n) ≡ v
    own_host n ks e w = own_where n (host_in v (entry_of K ks n)) e (host_known n ks w)

    pub light_to_tell : (w : ℕ) (n : Name) → host_of n ≡ v → Light v x 0 (alter K (ToTell w) n)
    light_to_tell u n e = record { after = λ s w. tell_at u n s (own_host n s.known e w.names) w }

    pub begun_sound : (n : Name) (h : ℕ) → h ≡ host_of n → KnownSound v (begun n h)
    unfolding begun
    begun_sound n h e = record { host = e; viewed = tt; told = tt; held = tt }

    -- a name comes to be known
    pub come_sound : (s : Vat Name) (n : Name) (h : ℕ) → NamesNoObject n → h ≡ host_of n → Sound v s → Parts v s.number (s.known ++ begun n h ∷ []) s.gifts s.outbox
    come_sound s n h g e w = record { same = w.same; well = come_well (λ u. false) x K v global s n h g w.well; names = each_end (KnownSound v) s.known (begun n h) w.names (begun_sound n h e); own = w.own; notes = w.notes }

    pub come_at : (c : Coming Name Name) (h : ℕ) (s : Vat Name) → NamesNoObject (name_of v c) → h ≡ host_of (name_of v c) → Sound v s
        → Lightened v x 0 s (record s { known = s.known ++ begun (K.made c (length s.known)) h ∷ [] })
    unfolding load
    come_at c h s g e w = let n = K.made c (length s.known) in let same = held_end x s.known n h in let i : n ≡ name_of v c = global.made c (length s.known) in record {
      sound = come_sound s n h (subst NamesNoObject (sym i) g) (e ∙ ap host_of (sym i)) w;
      kept = omega arith;
    }

    pub light_come : (c : Coming Name Name) (h : ℕ) → NamesNoObject (name_of v c) → h ≡ host_of (name_of v c) → Light v x 0 (come K c h)
    unfolding come
    light_come c h g e = record { after = λ s w. come_at c h s g e w }

    pub light_mail : (c : Mailing Name) → Light v x 0 (mail K c)
    unfolding mail load
    light_mail c = record { after = λ s w. record { sound = w; kept = omega arith } }

    message_answers : (h : ℕ) (id : Name) → NamesMessage id → NamesNoObject (answer_of h id) × (h ≡ host_of (answer_of h id))
    unfolding answer_of host_of
    message_answers h id g = rw g.1 (tt, refl)

    pub light_answer : (h : ℕ) (id : Name) → NamesMessage id → Light v x 0 (come K (IsAnswer h id) h)
    unfolding name_of
    light_answer h id g = let a = message_answers h id g in light_come (IsAnswer h id) h a.0 a.1

    pub answer_at : (h : ℕ) (id : Name) (s : Vat Name) → NamesMessage id → Sound v s → Lightened v x 0 s (record s { known = s.known ++ begun (K.made (IsAnswer h id) (length s.known)) h ∷ [] })
    unfolding name_of
    answer_at h id s g w = let a = message_answers h id g in come_at (IsAnswer h id) h s a.0 a.1 w

    pub answer_host : (h k : ℕ) (id : Name) → NamesMessage id → host_of (K.made (IsAnswer h id) k) ≡ h
    unfolding name_of
    answer_host h k id g = let a = message_answers h id g in ap host_of (global.made (IsAnswer h id) k) ∙ sym a.1

    pub light_gift_name : (h i : ℕ) → Light v x 0 (come K (IsGift h i) h)
    unfolding name_of host_of
    light_gift_name h i = light_come (IsGift h i) h tt refl

pub ruleset light = (light_bind, light_then, light_if, light_give, light_look, light_stop, light_tell, light_spend, light_list, light_enqueue, light_out_open, light_out_ask, light_out_shorten, light_open, light_mark, light_each, light_draw, light_wait, light_wait_on, light_react, light_mail, light_gift_name)
