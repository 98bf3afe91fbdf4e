-- What has a place and what became of it lasts through each single change.
use Rattle.std.proofs.Common.{◌≡◌, ℕ, ◌+◌, ◌≤◌, Bool, true, false, List, [], ◌∷◌, ◌++◌, Option, Some, None, if◌then◌else◌, refl, sym, arith, length, subst}
use Rattle.std.specs.Prelude.{nat_le}
use Rattle.def_machine.specs.Values.{Value, Name, Naming, Coming, IsAnswer, IsGift, Mailing, spot_of, name_of, answer_of, mail_of}
use Rattle.def_machine.specs.State.{Message, Standing, Settled, Known, Change, Hold, Wait, WaitOn, See, React, ToTell, Settle, Note, Open, Ask, Elsewhere, Shorten, Happened, Vat, Stop, Done, Gives, Stops, Act, ◌>>=◌, ◌>>◌, and_then, each, give, stop, look, tell, spend, spent, enqueue, send_out, new_list, new_gift, open_gift, mark, draws, draw, with_change, changed, changed_to, unless_settled, alter, come, mail, begun, Put, for_some}
use Rattle.law_fate.specs.Fates.Fate.{one, among, at_names, at_vat, gone_here, where_cut, of_note, account}
use Rattle.law_fate.specs.Fates.Lasting.{NoteWell, Each, NamesMessage, NamesNoObject, HeldWell, KnownWell, AllWell}
use Rattle.law_fate.proofs.Fates.Leads.{Ends, Leads}
use Rattle.law_fate.proofs.Fates.Counts.{among_end, gone_end, put_end, names_end}

-- how a vat names things in the one global state
pub record Global (K : Naming Name Name) (v : ℕ) : Type 0 where
  pub spot : (n : Name) → K.spot n ≡ spot_of v n
  pub alike : (a b : Name) → K.same a b ≡ true → a ≡ b
  pub made : (c : Coming Name Name) (k : ℕ) → K.made c k ≡ name_of v c
  pub mailed : (c : Mailing Name) (k : ℕ) → K.mailed c k ≡ mail_of v c

-- of a step that stops nothing is said
pub record Whatever (s t : Vat Name) : Type 0 where
  pub any : Unit {0}

-- from a state in which all is well to one in which all is well, and so much more is placed
pub record Stays (cut : ℕ → Bool) (x : Name) (c : ℕ) (s t : Vat Name) : Type 0 where
  pub after : AllWell s → AllWell t × (c + account cut x s ≤ account cut x t)

abbrev pub PaysAt : {A : Type 0} → (ℕ → Bool) → Name → ℕ → Vat Name → Done Name A → Type 0
PaysAt cut x c s (Gives a t) = AllWell t × (c + account cut x s ≤ account cut x t)
PaysAt cut x c s (Stops e t) = Unit {0}
PaysAt cut x c s other = ⊥

-- it places so many of what is in hand, unless it stops
pub record Pays {A : Type 0} (cut : ℕ → Bool) (x : Name) (c : ℕ) (m : Act Name A) : Type 0 where
  pub after : (s : Vat Name) → AllWell s → PaysAt cut x c s (m s)

pub each_end : {A : Type 0} (P : A → Type 0) (xs : List A) (x : A) → Each P xs → P x → Each P (xs ++ x ∷ [])
each_end P [] x h p = (p, tt)
each_end P (y ∷ xs) x h p = (h.0, each_end P xs x h.1 p)

module _ (cut : ℕ → Bool) (x : Name) where
  pub pay_more : {A : Type 0} (c d : ℕ) (s t : Vat Name) (r : Done Name A) → c + account cut x s ≤ account cut x t → PaysAt cut x d t r → PaysAt cut x (c + d) s r
  pay_more c d s t (Gives a u) h k = let i = k.1 in (k.0, omega arith)
  pay_more c d s t (Stops e u) h k = tt
  pay_more c d s t other h k = absurd k

  pub pay_less : {A : Type 0} (c d : ℕ) (s : Vat Name) (r : Done Name A) → d ≤ c → PaysAt cut x c s r → PaysAt cut x d s r
  pay_less c d s (Gives a u) h k = let i = k.1 in (k.0, omega arith)
  pay_less c d s (Stops e u) h k = tt
  pay_less c d s other h k = absurd k

  bind_at : {A B : Type 0} (c d : ℕ) (s : Vat Name) (r : Done Name A) (f : A → Act Name B) → PaysAt cut x c s r → ((a : A) → Pays cut x d (f a)) → PaysAt cut x (c + d) s (and_then r f)
  unfolding and_then
  bind_at c d s (Gives a t) f h k = pay_more c d s t (f a t) h.1 ((k a).after t h.0)
  bind_at c d s (Stops e t) f h k = tt
  bind_at c d s other f h k = absurd h

  pub then_at : {A B : Type 0} (c d : ℕ) (s : Vat Name) (r : Done Name A) (m : Act Name B) → PaysAt cut x c s r → Pays cut x d m → PaysAt cut x (c + d) s (and_then r (λ _. m))
  then_at c d s r m h k = bind_at c d s r (λ _. m) h (λ _. k)

  pub cost_less : {A : Type 0} (c d : ℕ) {m : Act Name A} → d ≤ c → Pays cut x c m → Pays cut x d m
  cost_less c d {m = m} i h = record { after = λ s w. pay_less c d s (m s) i (h.after s w) }

  pub cost_bind : {A B : Type 0} (c d : ℕ) {m : Act Name A} {f : A → Act Name B} → Pays cut x c m → ((a : A) → Pays cut x d (f a)) → Pays cut x (c + d) (m >>= f)
  unfolding ◌>>=◌
  cost_bind c d {m = m} {f = f} h k = record { after = λ s w. bind_at c d s (m s) f (h.after s w) k }

  pub cost_then : {A B : Type 0} (c d : ℕ) {m : Act Name A} {n : Act Name B} → Pays cut x c m → Pays cut x d n → Pays cut x (c + d) (m >> n)
  unfolding ◌>>◌
  cost_then c d {m = m} {n = n} h k = record { after = λ s w. bind_at c d s (m s) (λ _. n) (h.after s w) (λ _. k) }

  pub cost_bind_last : {A B : Type 0} (c : ℕ) {m : Act Name A} {f : A → Act Name B} → Pays cut x 0 m → ((a : A) → Pays cut x c (f a)) → Pays cut x c (m >>= f)
  cost_bind_last c h k = cost_less (0 + c) c (omega arith) (cost_bind 0 c h k)

  pub cost_then_last : {A B : Type 0} (c : ℕ) {m : Act Name A} {n : Act Name B} → Pays cut x 0 m → Pays cut x c n → Pays cut x c (m >> n)
  cost_then_last c h k = cost_less (0 + c) c (omega arith) (cost_then 0 c h k)

  pub cost_then_first : {A B : Type 0} (c : ℕ) {m : Act Name A} {n : Act Name B} → Pays cut x c m → Pays cut x 0 n → Pays cut x c (m >> n)
  cost_then_first c h k = cost_less (c + 0) c (omega arith) (cost_then c 0 h k)

  led_at : {A : Type 0} (s : Vat Name) (r : Done Name A) → (AllWell s → PaysAt cut x 0 s r) → Ends Whatever (Stays cut x 0) s r
  led_at s (Gives a t) h = record { after = h }
  led_at s (Stops e t) h = record { any = tt }
  led_at s other h = record { after = λ w. absurd (h w) }

  pub led_by_pays : {A : Type 0} (m : Act Name A) → Pays cut x 0 m → Leads Whatever (Stays cut x 0) m
  led_by_pays m h = record { after = λ s. led_at s (m s) (h.after s) }

  -- ---- what a vat does, one thing after another

  pub pays_bind : {A B : Type 0} {m : Act Name A} {f : A → Act Name B} → Pays cut x 0 m → ((a : A) → Pays cut x 0 (f a)) → Pays cut x 0 (m >>= f)
  pays_bind h k = cost_bind_last 0 h k

  pub pays_then : {A B : Type 0} {m : Act Name A} {n : Act Name B} → Pays cut x 0 m → Pays cut x 0 n → Pays cut x 0 (m >> n)
  pays_then h k = cost_then_last 0 h k

  pub pays_if : {A : Type 0} (b : Bool) {m n : Act Name A} → Pays cut x 0 m → Pays cut x 0 n → Pays cut x 0 (if b then m else n)
  pays_if true h k = h
  pays_if false h k = k

  pub cost_some : {A B : Type 0} (c : ℕ) (o : Option A) {f : A → Act Name B} {m : Act Name B} → ((a : A) → Pays cut x c (f a)) → Pays cut x c m → Pays cut x c (for_some o f m)
  unfolding for_some
  cost_some c (Some a) h k = h a
  cost_some c None h k = k

  pub pays_give : {A : Type 0} (a : A) → Pays cut x 0 (give a)
  unfolding give
  pays_give a = record { after = λ s w. (w, omega arith) }

  pub pays_look : {A : Type 0} (f : Vat Name → A) → Pays cut x 0 (look f)
  unfolding look
  pays_look f = record { after = λ s w. (w, omega arith) }

  pub pays_stop : {A : Type 0} (e : Stop) → Pays cut x 0 (stop {A = A} e)
  unfolding stop
  pays_stop e = record { after = λ s w. tt }

  pub cost_tell : (e : Happened Name) → Pays cut x (gone_here cut x e) (tell e)
  unfolding tell account at_vat
  cost_tell e = record { after = λ s w. let more = gone_end cut x s.happened e in (w, omega arith) }

  pub pays_tell : (e : Happened Name) → Pays cut x 0 (tell e)
  pays_tell e = cost_less (gone_here cut x e) 0 (omega arith) (cost_tell e)

  spend_at : (s : Vat Name) (n : ℕ) (b : Bool) → AllWell s → PaysAt cut x 0 s (spent n b s)
  unfolding spent account at_vat
  spend_at s n true w = (w, omega arith)
  spend_at s n false w = tt

  pub pays_spend : (n : ℕ) → Pays cut x 0 (spend n)
  unfolding spend
  pays_spend n = record { after = λ s w. spend_at s n (nat_le n s.fuel) w }

  pub pays_list : (vs : List (Value Name)) → Pays cut x 0 (new_list vs)
  unfolding new_list account at_vat
  pays_list vs = record { after = λ s w. (w, omega arith) }

  pub cost_enqueue : (m : Message Name) → Pays cut x (one m.id x) (enqueue m)
  unfolding enqueue account at_vat
  cost_enqueue m = record { after = λ s w. let more = among_end x s.queue m in (w, omega arith) }

  pub pays_enqueue : (m : Message Name) → Pays cut x 0 (enqueue m)
  pays_enqueue m = cost_less (one m.id x) 0 (omega arith) (cost_enqueue m)

  pub cost_out : (w : ℕ) (n : Note Name) → NoteWell n → Pays cut x (where_cut (cut w) 0 (of_note x n)) (send_out w n)
  unfolding send_out account at_vat
  cost_out to n g = record { after = λ s w. let p : Put Name = record { to = to; note = n } in let more = put_end cut x s.outbox p in ((w.0, each_end (λ (q : Put Name). NoteWell q.note) s.outbox p w.1 g), omega arith) }

  pub pays_out : (w : ℕ) (n : Note Name) → NoteWell n → Pays cut x 0 (send_out w n)
  pays_out w n g = cost_less (where_cut (cut w) 0 (of_note x n)) 0 (omega arith) (cost_out w n g)

  pub pays_out_open : (w i : ℕ) (n : Name) → Pays cut x 0 (send_out w (Open i n))
  pays_out_open w i n = pays_out w (Open i n) tt

  pub pays_out_ask : (w p i : ℕ) (n : Name) → Pays cut x 0 (send_out w (Ask p i n))
  pays_out_ask w p i n = pays_out w (Ask p i n) tt

  pub pays_out_elsewhere : (w : ℕ) (n : Name) (c : ℕ) → Pays cut x 0 (send_out w (Elsewhere n c))
  pays_out_elsewhere w n c = pays_out w (Elsewhere n c) tt

  pub pays_out_shorten : (w : ℕ) (n : Name) (c i : ℕ) → Pays cut x 0 (send_out w (Shorten n c i))
  pays_out_shorten w n c i = pays_out w (Shorten n c i) tt

  pub pays_gift : (n : Name) (p i : ℕ) → Pays cut x 0 (new_gift n p i)
  unfolding new_gift account at_vat
  pays_gift n p i = record { after = λ s w. (w, omega arith) }

  pub pays_open : (p i : ℕ) → Pays cut x 0 (open_gift {N = Name} p i)
  unfolding open_gift account at_vat
  pays_open p i = record { after = λ s w. (w, omega arith) }

  pub pays_mark : (w : ℕ) → Pays cut x 0 (mark {N = Name} w)
  unfolding mark account at_vat
  pays_mark u = record { after = λ s w. (w, omega arith) }

  pub pays_each : {A : Type 0} {f : A → Act Name (Unit {0})} (xs : List A) → ((a : A) → Pays cut x 0 (f a)) → Pays cut x 0 (each f xs)
  unfolding each
  pays_each [] h = pays_give tt
  pays_each (a ∷ xs) h = pays_then (h a) (pays_each xs h)

  draws_at : (s : Vat Name) (w : ℕ) (o : Option ℕ) → AllWell s → PaysAt cut x 0 s (draws w o s)
  unfolding draws account at_vat
  draws_at s n (Some i) w = tt
  draws_at s n None w = (w, omega arith)

  -- ---- what is known of names

  -- what may be changed of a name
  abbrev pub ChangeWell : Name → Change Name → Type 0
  ChangeWell n (Hold m) = HeldWell n m
  ChangeWell n (Settle y) = ⊥
  ChangeWell n other = Unit {0}

  abbrev AtKnown : Known Name → ℕ
  AtKnown k = among x k.held + among x k.reactions

  to_well : (c : Change Name) (k : Known Name) → ChangeWell k.name c → KnownWell k → KnownWell (changed_to c k) × (AtKnown k ≤ AtKnown (changed_to c k))
  unfolding changed_to
  to_well (Hold m) k g h = let more = among_end x k.held m in (record { name = h.name; standing = h.standing; held = each_end (HeldWell k.name) k.held m h.held g }, omega arith)
  to_well (Settle y) k g h = absurd g
  to_well (WaitOn q) k g h = (record { name = h.name; standing = tt; held = h.held }, omega arith)
  to_well (See q) k g h = (record { name = h.name; standing = tt; held = h.held }, omega arith)
  to_well (React m) k g h = let more = among_end x k.reactions m in (record { name = h.name; standing = h.standing; held = h.held }, omega arith)
  to_well other k g h = (record { name = h.name; standing = h.standing; held = h.held }, omega arith)

  unless_well : (t : Standing Name) (k new : Known Name) → KnownWell k → KnownWell new × (AtKnown k ≤ AtKnown new) → KnownWell (unless_settled t k new) × (AtKnown k ≤ AtKnown (unless_settled t k new))
  unfolding unless_settled
  unless_well (Settled y) k new h i = (h, omega arith)
  unless_well other k new h i = i

  module _ (K : Naming Name Name) (v : ℕ) (global : Global K v) where
    pub pays_draw : Pays cut x 0 (draw K)
    unfolding draw
    pays_draw = record { after = λ s w. draws_at s _ _ w }

    renamed : (c : Change Name) (a b : Name) → a ≡ b → ChangeWell b c → ChangeWell a c
    renamed c a b e h = subst (λ n. ChangeWell n c) (sym e) h

    change_one : (c : Change Name) (n : Name) (k : Known Name) (ks js : List (Known Name)) (b : Bool) → K.same k.name n ≡ b → ChangeWell n c → KnownWell k → Each KnownWell ks → Each KnownWell js × (at_names x ks ≤ at_names x js)
        → Each KnownWell (elim b [ true ↦ changed c k ∷ ks | false ↦ k ∷ js ]) × (AtKnown k + at_names x ks ≤ at_names x (elim b [ true ↦ changed c k ∷ ks | false ↦ k ∷ js ]))
    unfolding at_names changed
    change_one c n k ks js true e g h hs r = let new = unless_well k.standing k (changed_to c k) h (to_well c k (renamed c k.name n (global.alike k.name n e) g) h) in let more = new.1 in ((new.0, hs), omega arith)
    change_one c n k ks js false e g h hs r = let more = r.1 in ((h, r.0), omega arith)

    pub change_well : (c : Change Name) (n : Name) (ks : List (Known Name)) → ChangeWell n c → Each KnownWell ks → Each KnownWell (with_change K c n ks) × (at_names x ks ≤ at_names x (with_change K c n ks))
    unfolding with_change at_names
    change_well c n [] g h = (tt, omega arith)
    change_well c n (k ∷ ks) g h = change_one c n k ks (with_change K c n ks) (K.same k.name n) refl g h.0 h.1 (change_well c n ks g h.1)

    pays_alter : (c : Change Name) (n : Name) → ChangeWell n c → Pays cut x 0 (alter K c n)
    unfolding alter account at_vat
    pays_alter c n g = record { after = λ s w. let new = change_well c n s.known g w.0 in let more = new.1 in ((new.0, w.1), omega arith) }

    pub pays_hold : (m : Message Name) (n : Name) → HeldWell n m → Pays cut x 0 (alter K (Hold m) n)
    pays_hold m n g = pays_alter (Hold m) n g

    pub pays_wait : (q n : Name) → Pays cut x 0 (alter K (Wait q) n)
    pays_wait q n = pays_alter (Wait q) n tt

    pub pays_wait_on : (q n : Name) → Pays cut x 0 (alter K (WaitOn q) n)
    pays_wait_on q n = pays_alter (WaitOn q) n tt

    pub pays_see : (q n : Name) → Pays cut x 0 (alter K (See q) n)
    pays_see q n = pays_alter (See q) n tt

    pub pays_react : (m : Message Name) (n : Name) → Pays cut x 0 (alter K (React m) n)
    pays_react m n = pays_alter (React m) n tt

    pub pays_to_tell : (w : ℕ) (n : Name) → Pays cut x 0 (alter K (ToTell w) n)
    pays_to_tell w n = pays_alter (ToTell w) n tt

    begun_well : (n : Name) (h : ℕ) → NamesNoObject n → KnownWell (begun n h)
    unfolding begun
    begun_well n h g = record { name = g; standing = tt; held = tt }

    pub come_well : (s : Vat Name) (n : Name) (h : ℕ) → NamesNoObject n → Each KnownWell s.known → Each KnownWell (s.known ++ begun n h ∷ [])
    come_well s n h g w = each_end KnownWell s.known (begun n h) w (begun_well n h g)

    pub pays_come : (c : Coming Name Name) (h : ℕ) → NamesNoObject (name_of v c) → Pays cut x 0 (come K c h)
    unfolding come account at_vat
    pays_come c h g = record {
      after = λ s w. let n = K.made c (length s.known) in let same = names_end x s.known n h in
          ((come_well s n h (subst NamesNoObject (sym (global.made c (length s.known))) g) w.0, w.1), omega arith);
    }

    pub pays_mail : (c : Mailing Name) → Pays cut x 0 (mail K c)
    unfolding mail account at_vat
    pays_mail c = record { after = λ s w. (w, omega arith) }

    message_answers : (h : ℕ) (id : Name) → NamesMessage id → NamesNoObject (answer_of h id)
    unfolding answer_of
    message_answers h id g = rw g.1 tt

    pub pays_answer : (h u : ℕ) (id : Name) → NamesMessage id → Pays cut x 0 (come K (IsAnswer h id) u)
    unfolding name_of
    pays_answer h u id g = pays_come (IsAnswer h id) u (message_answers h id g)

    pub pays_gift_name : (h i u : ℕ) → Pays cut x 0 (come K (IsGift h i) u)
    unfolding name_of
    pays_gift_name h i u = pays_come (IsGift h i) u tt

pub ruleset pays = (pays_bind, pays_then, pays_if, pays_give, pays_look, pays_stop, pays_tell, pays_spend, pays_list, pays_enqueue, pays_out_open, pays_out_ask, pays_out_elsewhere, pays_out_shorten, pays_gift, pays_open, pays_mark, pays_each, pays_draw, pays_wait, pays_wait_on, pays_see, pays_react, pays_to_tell, pays_mail, pays_gift_name)
