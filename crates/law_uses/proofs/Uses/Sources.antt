-- Where a message is, the lines so far say with what it was sent or carried last.
use Rattle.std.proofs.Common.{◌≡◌, ℕ, zero, suc, ◌+◌, ◌≤◌, arith, List, [], ◌∷◌, ◌++◌, Option, Some, None, refl, sym, ap, ◌∙◌, subst, ◌⊎◌, inl, inr}
use Rattle.std.specs.Prelude.{slice_get}
use Rattle.def_event.specs.declared.event.Event.{Event as ShownEvent}
use Rattle.def_machine.specs.Values.{Words, Value, Ref, Name, Root, Object, Promise, Answer, Gift, Sent}
use Rattle.def_machine.specs.State.{Message, Known, Passeds, Delivery, Note, Deliver, Took, Vat}
use Rattle.def_run.specs.World.{Event, Here, Link, World}
use Rattle.def_run.specs.Shown as show
use Rattle.def_run.specs.Text.{shown_events}
use Rattle.law_fate.proofs.Name.SameNames.{same_self}
use Rattle.law_fate.specs.Fates.Fate.{once, one, total, among, at_names, at_vat, in_note, of_note, on_link, places, sent_by, took_by, took_here, takes}
use Rattle.law_fate.specs.Fates.Carry.{carried_by}
use Rattle.law_fate.proofs.Fates.RunCounts.{all_numbered}
use Rattle.law_fate.specs.Fates.FateLaws.{numbered}
use Rattle.law_uses.specs.Connectivity.Known.{IsAmong, AllOf}
use Rattle.law_uses.specs.Connectivity.Stems.{LeadsTo, HasLine, HasList, HasOpened, PassAll, ComeAll}
use Rattle.law_uses.specs.Connectivity.MessageLaws.{IsToldStanding}
use Rattle.law_uses.proofs.Connectivity.Passing.{come_all_map, kept_all, pass_all_map}
use Rattle.law_uses.proofs.Connectivity.RunStems.{Grows, leads_grow}
use Rattle.def_event.specs.Uses as uses
use Rattle.def_event.specs.Uses.{Thing, AName, parts, all_parts, had, carried_with, sent_with, or_else, first_of, last_of}
use Rattle.law_uses.proofs.Uses.Lines.{last_join, first_join}
use Rattle.law_uses.proofs.Uses.Shown.{shown_join}
use Rattle.law_uses.proofs.Uses.Comes.{NoLists}
use Rattle.law_uses.proofs.Uses.Counted.{IsMail, Mails, all_quiet, all_uncarried}

pub turned : {A : Type 0} (x : A) (xs : List A) → IsAmong x xs → uses.IsAmong x xs
turned x [] i = absurd i
turned x (y ∷ xs) (inl e) = inl (sym e)
turned x (y ∷ xs) (inr i) = inr (turned x xs i)

pub all_in : {A : Type 0} (P Q : A → Type 0) (xs : List A) → ((x : A) → IsAmong x xs → P x → Q x) → AllOf P xs → AllOf Q xs
all_in P Q [] f h = tt
all_in P Q (x ∷ xs) f h = (f x (inl refl) h.0, all_in P Q xs (λ y i. f y (inr i)) h.1)

-- ---- a message that has a place, or was taken

-- it counts one
pub one_self : (x : Name) → one x x ≡ 1
unfolding one once
one_self x = ap once (same_self x)

abbrev pub Alive : World → Name → Type 0
Alive w x = 1 ≤ places x w + takes x w.history

less_more : (a b : ℕ) → a ≤ b → (c : ℕ) → b ≤ c → a ≤ c
less_more a b h c k = omega arith

pub among_one : (m : Message Name) (ms : List (Message Name)) → IsAmong m ms → 1 ≤ among m.id ms
unfolding among
among_one m [] i = absurd i
among_one m (n ∷ ms) (inl e) = let f : one m.id m.id ≡ one n.id m.id = ap (λ (z : Message Name). one z.id m.id) e in let g = one_self m.id in omega arith
among_one m (n ∷ ms) (inr i) = let h = among_one m ms i in omega arith

pub held_one : (k : Known Name) (m : Message Name) (ks : List (Known Name)) → IsAmong k ks → IsAmong m k.held → 1 ≤ at_names m.id ks
unfolding at_names
held_one k m [] i j = absurd i
held_one k m (l ∷ ks) (inl e) j = let h = among_one m l.held (subst (λ (z : Known Name). IsAmong m z.held) e j) in omega arith
held_one k m (l ∷ ks) (inr i) j = let h = held_one k m ks i j in omega arith

pub reacts_one : (k : Known Name) (m : Message Name) (ks : List (Known Name)) → IsAmong k ks → IsAmong m k.reactions → 1 ≤ at_names m.id ks
unfolding at_names
reacts_one k m [] i j = absurd i
reacts_one k m (l ∷ ks) (inl e) j = let h = among_one m l.reactions (subst (λ (z : Known Name). IsAmong m z.reactions) e j) in omega arith
reacts_one k m (l ∷ ks) (inr i) j = let h = reacts_one k m ks i j in omega arith

pub total_get : {A : Type 0} (f : A → ℕ) (xs : List A) (v : ℕ) (x : A) → slice_get xs v ≡ Some x → f x ≤ total f xs
unfolding total
total_get f [] v x e = cc
total_get f (y ∷ xs) zero x e = let same : y ≡ x = cc in rw same (omega arith)
total_get f (y ∷ xs) (suc v) x e = let h = total_get f xs v x e in omega arith

pub total_in : {A : Type 0} (f : A → ℕ) (xs : List A) (x : A) → IsAmong x xs → f x ≤ total f xs
unfolding total
total_in f [] x i = absurd i
total_in f (y ∷ xs) x (inl e) = let g : f x ≡ f y = ap f e in omega arith
total_in f (y ∷ xs) x (inr i) = let h = total_in f xs x i in omega arith

module _ (w : World) where
  in_vat : (x : Name) (v : ℕ) (s : Vat Name) → slice_get w.vats v ≡ Some s → 1 ≤ at_vat x s → Alive w x
  unfolding places
  in_vat x v s at h = let g = total_get (at_vat x) w.vats v s at in omega arith

  at_queue : (s : Vat Name) (x : Name) → 1 ≤ among x s.queue → 1 ≤ at_vat x s
  unfolding at_vat
  at_queue s x h = omega arith

  at_known : (s : Vat Name) (x : Name) → 1 ≤ at_names x s.known → 1 ≤ at_vat x s
  unfolding at_vat
  at_known s x h = omega arith

  pub queued_alive : (v : ℕ) (s : Vat Name) → slice_get w.vats v ≡ Some s → (m : Message Name) → IsAmong m s.queue → Alive w m.id
  queued_alive v s at m i = in_vat m.id v s at (at_queue s m.id (among_one m s.queue i))

  pub held_alive : (v : ℕ) (s : Vat Name) → slice_get w.vats v ≡ Some s → (k : Known Name) → IsAmong k s.known → (m : Message Name) → IsAmong m k.held → Alive w m.id
  held_alive v s at k i m j = in_vat m.id v s at (at_known s m.id (held_one k m s.known i j))

  pub reacts_alive : (v : ℕ) (s : Vat Name) → slice_get w.vats v ≡ Some s → (k : Known Name) → IsAmong k s.known → (m : Message Name) → IsAmong m k.reactions → Alive w m.id
  reacts_alive v s at k i m j = in_vat m.id v s at (at_known s m.id (reacts_one k m s.known i j))

  note_one : (x : Name) (l : Link) (n : Note Name) → IsAmong l w.links → IsAmong n l.notes → of_note x n ≤ places x w
  unfolding places on_link
  note_one x l n i j = let h = total_in (of_note x) l.notes n j in let g = total_in (on_link x) w.links l i in omega arith

  pub note_alive : (l : Link) (d : Delivery Name) (n : Name) (verb : Words) (ys : Passeds Name) → IsAmong l w.links → IsAmong (Deliver d n verb ys) l.notes → Alive w d.message
  unfolding of_note in_note
  note_alive l d n verb ys i j = let h = note_one d.message l (Deliver d n verb ys) i j in let g = one_self d.message in omega arith

  pub taken_alive : (v a : ℕ) (m : Message Name) → IsAmong (Here v (Took a m)) w.history → Alive w m.id
  unfolding takes took_by took_here
  taken_alive v a m i = let h = total_in (took_by m.id) w.history (Here v (Took a m)) i in let g = one_self m.id in omega arith

-- a message that is numbered is named as one
none_numbered : (x : Name) → ((d k : ℕ) → numbered d k x ≡ 0) → (d : ℕ) (ss : List (Vat Name)) → all_numbered x d ss ≡ 0
unfolding all_numbered
none_numbered x h d [] = refl
none_numbered x h d (s ∷ ss) = let here = h d s.messages in let rest = none_numbered x h (suc d) ss in omega arith

no_mail : (x : Name) (ss : List (Vat Name)) → ((d k : ℕ) → numbered d k x ≡ 0) → 1 ≤ all_numbered x 0 ss → IsMail x
no_mail x ss h k = let z = none_numbered x h 0 ss in absurd (few (all_numbered x 0 ss) z k)
  where
    few : (n : ℕ) → n ≡ 0 → 1 ≤ n → ⊥
    few n e l = omega arith

pub is_mail : (x : Name) (ss : List (Vat Name)) → 1 ≤ all_numbered x 0 ss → IsMail x
unfolding numbered
is_mail (Sent m) ss h = (m, refl)
is_mail (Root v) ss h = no_mail (Root v) ss (λ d k. refl) h
is_mail (Object v n) ss h = no_mail (Object v n) ss (λ d k. refl) h
is_mail (Promise v n) ss h = no_mail (Promise v n) ss (λ d k. refl) h
is_mail (Answer v m) ss h = no_mail (Answer v m) ss (λ d k. refl) h
is_mail (Gift v n) ss h = no_mail (Gift v n) ss (λ d k. refl) h

-- ---- what the lines so far say of a message

module _ (draws : List ℕ) where
  abbrev pub LastHas : List Event → Name → List Thing → Type 0
  LastHas es x ts = last_of (had (show.shown_msg draws x)) (shown_events draws es) ≡ Some ts

  abbrev pub NotCarried : List Event → Name → Type 0
  NotCarried es x = last_of (carried_with (show.shown_msg draws x)) (shown_events draws es) ≡ None

  abbrev pub CarriedAs : List Event → Name → List Thing → Type 0
  CarriedAs es x ts = last_of (carried_with (show.shown_msg draws x)) (shown_events draws es) ≡ Some ts

  abbrev pub SentAs : List Event → Name → List Thing → Type 0
  SentAs es x ts = first_of (sent_with (show.shown_msg draws x)) (shown_events draws es) ≡ Some ts

  -- A message at vat v that is no reaction: the last line that has it is that which sent it there, or that of the carry which brought it.
  pub data Source (w : World) : ℕ → Message Name → Type 0 where
    sent : {v : ℕ} {m : Message Name} (x : Value Name) (ts : List Thing) → LeadsTo (HasLine w v) x m.target → LastHas w.history m.id ts
        → ((t : Thing) → uses.IsAmong t (parts (show.shown_value draws v x) ++ all_parts (show.shown_values draws v m.args)) → uses.IsAmong t ts)
        → NotCarried w.history m.id → SentAs w.history m.id (all_parts (show.shown_values draws v m.args)) → Source w v m
    came : {v : ℕ} {m : Message Name} (z : Name) (ys : Passeds Name) → LeadsTo (HasLine w v) (Ref z) m.target → ComeAll (HasList w v) ys m.args → NoLists ys
        → LastHas w.history m.id (AName (show.shown_name draws z) ∷ all_parts (show.shown_all draws ys)) → CarriedAs w.history m.id (all_parts (show.shown_all draws ys)) → Source w v m

  -- a reaction
  abbrev pub Reacting : World → ℕ → Message Name → Type 0
  Reacting w v m = (x : Value Name) × (m.args ≡ x ∷ []) × NotCarried w.history m.id × SentAs w.history m.id (parts (show.shown_value draws v x))

  abbrev pub Queued : World → ℕ → Message Name → Type 0
  Queued w v m = Source w v m ⊎ Reacting w v m

  abbrev pub KnownWell : World → ℕ → Known Name → Type 0
  KnownWell w v k = AllOf (Source w v) k.held × AllOf (Reacting w v) k.reactions × IsToldStanding (HasLine w v) k.name k.standing

  -- as arguments pass, whatever was noticed
  abbrev pub Passes : World → ℕ → List (Value Name) → Passeds Name → Type 0
  Passes w u xs ys = PassAll (HasLine w u) (HasList w u) (HasOpened w u) (λ n. Unit {0}) xs ys

  -- a note from vat u
  abbrev pub NoteWell : World → ℕ → Note Name → Type 0
  NoteWell w u (Deliver d n verb ys) = (m : Message Name) × Source w u m × (m.id ≡ d.message) × LeadsTo (HasLine w u) m.target (Ref n) × Passes w u m.args ys
  NoteWell w u other = Unit {0}

  abbrev pub LinkWell : World → Link → Type 0
  LinkWell w l = AllOf (NoteWell w l.from) l.notes

  -- nothing of the message in these lines
  abbrev pub Silent : List Event → Name → Type 0
  Silent es x = (last_of (had (show.shown_msg draws x)) (shown_events draws es) ≡ None) × (last_of (carried_with (show.shown_msg draws x)) (shown_events draws es) ≡ None) × (first_of (sent_with (show.shown_msg draws x)) (shown_events draws es) ≡ None)

  pub silent : (es : List Event) (x : Name) → IsMail x → ((e : Event) → IsAmong e es → Mails e) → total (sent_by x) es ≡ 0 → total (carried_by x) es ≡ 0 → Silent es x
  unfolding show.shown_msg
  silent es x k ok s c = subst (λ z. Silent es z) (sym k.1) (all_quiet draws k.0 es ok (subst (λ z. total (sent_by z) es ≡ 0) k.1 s) (subst (λ z. total (carried_by z) es ≡ 0) k.1 c))

  pub not_carried : (es : List Event) (x : Name) → IsMail x → ((e : Event) → IsAmong e es → Mails e) → total (carried_by x) es ≡ 0 → NotCarried es x
  unfolding show.shown_msg
  not_carried es x k ok c = subst (λ z. NotCarried es z) (sym k.1) (all_uncarried draws k.0 es ok (subst (λ z. total (carried_by z) es ≡ 0) k.1 c))

  -- ---- more lines

  module _ (h k es : List Event) (more : k ≡ h ++ es) where
    all_shown : shown_events draws k ≡ shown_events draws h ++ shown_events draws es
    all_shown = ap (shown_events draws) more ∙ shown_join draws h es

    pub last_more : {A : Type 0} (f : ShownEvent → Option A) → last_of f (shown_events draws es) ≡ None → last_of f (shown_events draws k) ≡ last_of f (shown_events draws h)
    last_more f e = ap (last_of f) all_shown ∙ last_join f (shown_events draws h) (shown_events draws es) ∙ ap (λ o. or_else o (last_of f (shown_events draws h))) e

    pub first_more : {A : Type 0} (f : ShownEvent → Option A) (a : A) → first_of f (shown_events draws h) ≡ Some a → first_of f (shown_events draws k) ≡ Some a
    first_more f a e = ap (first_of f) all_shown ∙ first_join f (shown_events draws h) (shown_events draws es) ∙ ap (λ o. or_else o (first_of f (shown_events draws es))) e

  module _ (w y : World) (g : Grows w y) (es : List Event) (more : y.history ≡ w.history ++ es) where
    pub source_grow : (v : ℕ) (m : Message Name) → Silent es m.id → Source w v m → Source y v m
    source_grow v m q (sent x ts l last sub none first) = sent x ts (leads_grow w y g v x m.target l) (last_more w.history y.history es more _ q.0 ∙ last) sub (last_more w.history y.history es more _ q.1 ∙ none) (first_more w.history y.history es more _ _ first)
    source_grow v m q (came z ys l c n last had_args) = came z ys (leads_grow w y g v (Ref z) m.target l) (come_all_map (HasList w v) (HasList y v) (g.1 v) ys m.args c) n (last_more w.history y.history es more _ q.0 ∙ last) (last_more w.history y.history es more _ q.1 ∙ had_args)

    pub reacting_grow : (v : ℕ) (m : Message Name) → Silent es m.id → Reacting w v m → Reacting y v m
    reacting_grow v m q h = (h.0, h.1, last_more w.history y.history es more _ q.1 ∙ h.2, first_more w.history y.history es more _ _ h.3)

    pub queued_grow : (v : ℕ) (m : Message Name) → Silent es m.id → Queued w v m → Queued y v m
    queued_grow v m q (inl h) = inl (source_grow v m q h)
    queued_grow v m q (inr h) = inr (reacting_grow v m q h)

    passes_grow : (u : ℕ) (xs : List (Value Name)) (ys : Passeds Name) → Passes w u xs ys → Passes y u xs ys
    passes_grow u xs ys h = pass_all_map (HasLine w u) (HasLine y u) (kept_all (HasLine w u) (HasLine y u) (λ e i. g.0 (Here u e) i)) (HasList w u) (HasList y u) (g.1 u) (HasOpened w u) (HasOpened y u) (g.2 u) (λ n. Unit {0}) (λ n. Unit {0}) (λ n i. i) xs ys h

    pub note_grow : (u : ℕ) (n : Note Name) → ((d : Delivery Name) (z : Name) (verb : Words) (ys : Passeds Name) → n ≡ Deliver d z verb ys → Silent es d.message) → NoteWell w u n → NoteWell y u n
    note_grow u (Deliver d n verb ys) q h = (h.0, source_grow u h.0 (subst (λ z. Silent es z) (sym h.2) (q d n verb ys refl)) h.1, h.2, leads_grow w y g u h.0.target (Ref n) h.3, passes_grow u h.0.args ys h.4)
    note_grow u other q h = tt
