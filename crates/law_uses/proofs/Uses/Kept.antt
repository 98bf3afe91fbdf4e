-- What a step of a vat leaves of what the lines say of messages.
use Rattle.std.proofs.Common.{◌≡◌, ℕ, zero, suc, ◌+◌, ◌≤◌, arith, Bool, true, false, List, [], ◌∷◌, ◌++◌, Option, Some, None, refl, sym, ap, ◌∙◌, subst, map, ◌⊎◌, inl, inr}
use Rattle.std.specs.Prelude.{slice_get, ◌↔◌}
use Rattle.ev_base.specs.declared.names.Name.{Name as ShownName}
use Rattle.def_event.specs.declared.event.Event.{Event as ShownEvent}
use Rattle.def_event.specs.declared.event.Event.TheVariants as event
use Rattle.def_machine.specs.Values.{Words, Value, Ref, Name}
use Rattle.def_machine.specs.State.{Message, Known, Passeds, Delivery, Note, Deliver, Open, Put, Happened, Took, Sends, Reacts, ListMade, ListCame, Posted, Vat}
use Rattle.def_run.specs.World as world
use Rattle.def_run.specs.World.{Event, Here, LostCut, Carried, Link, World}
use Rattle.def_run.specs.Shown as show
use Rattle.def_run.specs.Text.{shown_events}
use Rattle.law_machine.specs.Machine.Steps.{Step}
use Rattle.law_fate.specs.Fates.Fate.{total, places, takes, sent as sendings, sent_by, sent_here, of_note, in_note, one}
use Rattle.law_fate.specs.Fates.Carry.{carried_by}
use Rattle.law_fate.proofs.Fates.RunCounts.{pick, total_append, numbered_once}
use Rattle.law_fate.proofs.Fates.RunAccount.{Fated}
use Rattle.law_uses.specs.Connectivity.Known.{IsAmong, AllOf}
use Rattle.law_uses.specs.Connectivity.News.{list_made, Adds}
use Rattle.law_uses.specs.Connectivity.Stems.{LeadsTo, itself, HasLine, HasList, HasOpened, ComeAll}
use Rattle.law_uses.proofs.Connectivity.Passing.{Kept, kept_all, all_map, all_end, leads_map, leads_on, pass_all_map}
use Rattle.law_uses.proofs.Connectivity.Moments.{Past, Line, Members, Offers, Came, Fine, ReactionFine, QueuedFine, NoteFine, KnownFine, IsGone, Good, IsTaken, TookFine, stand_map}
use Rattle.law_uses.proofs.Connectivity.Events.{among_either, events_here, here_event, IsNobodys, all_at}
use Rattle.law_uses.proofs.Connectivity.FineSteps.{among_left, among_right}
use Rattle.law_uses.proofs.Connectivity.RunStems.{Grows, push_stems, put_each}
use Rattle.def_event.specs.Uses as uses
use Rattle.def_event.specs.Uses.{Line as TextLine, and_lines, place_of, Thing, AName, parts, all_parts, arguments_in, had, carried_with, sent_with, StandsIn, CarriesSent, delivered, delivered_with, first_of, last_of, or_else}
use Rattle.law_uses.proofs.Uses.Lines.{last_join, first_join}
use Rattle.law_uses.proofs.Uses.Shown.{among_left as left, lines, ListTold, shown_join}
use Rattle.law_uses.proofs.Uses.Comes.{NoLists}
use Rattle.law_uses.proofs.Uses.Counted.{IsMail, HappenedMails, NoteMails, Mails, same_message_self, of_some}
use Rattle.law_uses.proofs.Uses.Sources.{turned, all_in, Alive, queued_alive, held_alive, reacts_alive, note_alive, taken_alive, total_in, one_self, is_mail, Source, sent, came, Reacting, Queued, KnownWell, NoteWell, LinkWell, LastHas, NotCarried, CarriedAs, SentAs, Silent, silent, not_carried, source_grow, reacting_grow, queued_grow, note_grow}
use Rattle.law_uses.proofs.Uses.Places.{step_place}
use Rattle.law_uses.proofs.Uses.Notes.{queued_taken, arguments_more}
use Rattle.law_uses.proofs.Uses.Steps.{ListsStand, adds_stay, adds_told, told_there, made_line, list_on, parted, Parted}

joined : {A : Type 0} (xs ys zs : List A) → (xs ++ ys) ++ zs ≡ xs ++ (ys ++ zs)
joined [] ys zs = refl
joined (x ∷ xs) ys zs = ap (λ r. x ∷ r) (joined xs ys zs)

-- one line among others
among_split : {A : Type 0} (x : A) (xs : List A) → IsAmong x xs → (h : List A) × (k : List A) × (xs ≡ h ++ x ∷ k)
among_split x [] i = absurd i
among_split x (y ∷ xs) (inl e) = ([], xs, ap (λ z. z ∷ xs) (sym e))
among_split x (y ∷ xs) (inr i) = let r = among_split x xs i in (y ∷ r.0, r.1, ap (λ zs. y ∷ zs) r.2)

-- ---- in a world

module _ (draws : List ℕ) where
  -- each message that was taken has what it was sent or carried with
  abbrev pub TakesWell : List Event → Type 0
  TakesWell es = (h k : List Event) (v a : ℕ) (m : Message Name) → es ≡ h ++ Here v (Took a m) ∷ k → (n : ShownName)
      → StandsIn (lines draws h) (all_parts (show.shown_values draws v m.args)) n ↔ StandsIn (lines draws h) (arguments_in (shown_events draws es) (show.shown_msg draws m.id)) n

  -- and each that was carried what the line before of it had
  abbrev pub CarriesWell : List Event → Type 0
  CarriesWell es = (h k : List Event) (j u v : ℕ) (n : Note Name) (bytes : List ℕ) → es ≡ h ++ Carried j u v n bytes ∷ k → CarriesSent (lines draws h) (event.Carry j u v (show.shown_note draws v n))

  -- each line of a vat stands at its place
  abbrev pub PlacedWell : List Event → Type 0
  PlacedWell es = (h k : List Event) (v : ℕ) (e : Happened Name) → es ≡ h ++ Here v e ∷ k → place_of (lines draws h) ≡ v + 1

  pub record Stands (w : World) : Type 0 where
    pub lists : (v : ℕ) (s : Vat Name) → slice_get w.vats v ≡ Some s → ListsStand draws w.history v s
    pub carries : (x : Name) → sendings x w.history ≡ 0 → total (carried_by x) w.history ≡ 0
    pub queues : (v : ℕ) (s : Vat Name) → slice_get w.vats v ≡ Some s → AllOf (Queued draws w v) s.queue
    pub names : (v : ℕ) (s : Vat Name) → slice_get w.vats v ≡ Some s → AllOf (KnownWell draws w v) s.known
    pub links : AllOf (LinkWell draws w) w.links
    pub took : TakesWell w.history
    pub carried : CarriesWell w.history
    pub placed : PlacedWell w.history

  -- ---- the line of a send, and of a reaction

  send_has : (v a : ℕ) (m : Message Name) (o : Option Name) → (ts : List Thing) × (last_of (had (show.shown_msg draws m.id)) (show.shown_send draws v a m o ∷ []) ≡ Some ts)
      × ((t : Thing) → uses.IsAmong t (parts (show.shown_value draws v m.target) ++ all_parts (show.shown_values draws v m.args)) → uses.IsAmong t ts)
      × (first_of (sent_with (show.shown_msg draws m.id)) (show.shown_send draws v a m o ∷ []) ≡ Some (all_parts (show.shown_values draws v m.args)))
  unfolding show.shown_send had sent_with
  send_has v a m (Some n) = let i = show.shown_msg draws m.id in (
    (parts (show.shown_value draws v m.target) ++ all_parts (show.shown_values draws v m.args)) ++ AName (show.shown_name draws n) ∷ [],
    of_some i i _ (same_message_self i),
    λ t j. left t (parts (show.shown_value draws v m.target) ++ all_parts (show.shown_values draws v m.args)) (AName (show.shown_name draws n) ∷ []) j,
    ap (λ o. or_else o None) (of_some i i _ (same_message_self i)),
  )
  send_has v a m None = let i = show.shown_msg draws m.id in (
    parts (show.shown_value draws v m.target) ++ all_parts (show.shown_values draws v m.args),
    of_some i i _ (same_message_self i),
    λ t j. j,
    ap (λ o. or_else o None) (of_some i i _ (same_message_self i)),
  )

  reaction_sends : (v a : ℕ) (x y : Value Name) (m : Message Name) (o : Option Name) (n : Name) → o ≡ Some n → first_of (sent_with (show.shown_msg draws m.id)) (show.shown_reaction draws v a x y m o) ≡ Some (parts (show.shown_value draws v x))
  unfolding show.shown_reaction sent_with
  reaction_sends v a x y m (Some p) n e = let i = show.shown_msg draws m.id in ap (λ o. or_else o None) (of_some i i _ (same_message_self i))
  reaction_sends v a x y m None n e = cc

  -- ---- of one line, where no other before it or behind it has the message

  last_one : (f : ShownEvent → Option (List Thing)) (h k : List Event) (e : Event) (ts : List Thing) → last_of f (shown_events draws k) ≡ None → last_of f (show.shown_event draws e) ≡ Some ts → last_of f (shown_events draws (h ++ e ∷ k)) ≡ Some ts
  unfolding shown_events
  last_one f h k e ts q r = ap (last_of f) (shown_join draws h (e ∷ k)) ∙ last_join f (shown_events draws h) (show.shown_event draws e ++ shown_events draws k)
      ∙ ap (λ o. or_else o (last_of f (shown_events draws h))) (last_join f (show.shown_event draws e) (shown_events draws k) ∙ ap (λ o. or_else o (last_of f (show.shown_event draws e))) q ∙ r)

  first_one : (f : ShownEvent → Option (List Thing)) (h k : List Event) (e : Event) (ts : List Thing) → first_of f (shown_events draws h) ≡ None → first_of f (show.shown_event draws e) ≡ Some ts → first_of f (shown_events draws (h ++ e ∷ k)) ≡ Some ts
  unfolding shown_events
  first_one f h k e ts q r = ap (first_of f) (shown_join draws h (e ∷ k)) ∙ first_join f (shown_events draws h) (show.shown_event draws e ++ shown_events draws k)
      ∙ ap (λ o. or_else o (first_of f (show.shown_event draws e ++ shown_events draws k))) q ∙ first_join f (show.shown_event draws e) (shown_events draws k) ∙ ap (λ o. or_else o (first_of f (shown_events draws k))) r

-- ---- what is counted is named as a message

one_least : (x : Name) → 1 ≤ one x x
one_least x = let g = one_self x in omega arith

happened_mails : (e : Happened Name) → ((x : Name) → 1 ≤ sent_here x e → IsMail x) → HappenedMails e
unfolding sent_here
happened_mails (Sends a m) f = f m.id (one_least m.id)
happened_mails (Reacts a x o m) f = f m.id (one_least m.id)
happened_mails _ f = tt

note_mails : (n : Note Name) → ((x : Name) → 1 ≤ of_note x n → IsMail x) → NoteMails n
unfolding of_note in_note
note_mails (Deliver d n verb ys) f = f d.message (one_least d.message)
note_mails other f = tt

event_mails : (e : Event) → ((x : Name) → 1 ≤ sent_by x e → IsMail x) → ((x : Name) → 1 ≤ carried_by x e → IsMail x) → Mails e
unfolding sent_by carried_by
event_mails (Here v e) f g = happened_mails e f
event_mails (Carried k v w n bytes) f g = note_mails n g
event_mails _ f g = tt

-- a step of a vat carries nothing
lost_uncarried : (x : Name) (m : Name) (b : Bool) → total (carried_by x) (pick b (LostCut m ∷ []) []) ≡ 0
unfolding total carried_by
lost_uncarried x m true = refl
lost_uncarried x m false = refl

event_uncarried : (ls : List Link) (v : ℕ) (x : Name) (e : Happened Name) → total (carried_by x) (world.event_of ls v e) ≡ 0
unfolding world.event_of total carried_by
event_uncarried ls v x (Posted w m) = lost_uncarried x m (world.is_cut v w ls)
event_uncarried ls v x _ = refl

events_uncarried : (ls : List Link) (v : ℕ) (x : Name) (es : List (Happened Name)) → total (carried_by x) (world.events_of ls v es) ≡ 0
unfolding world.events_of total
events_uncarried ls v x [] = refl
events_uncarried ls v x (e ∷ es) = let a = total_append (carried_by x) (world.event_of ls v e) (world.events_of ls v es) in let b = event_uncarried ls v x e in let c = events_uncarried ls v x es in omega arith

-- whether an event is a carry
unfoldable pub is_carry : Event → ℕ
is_carry (Carried j u v n bytes) = 1
is_carry _ = 0

lost_none : (m : Name) (b : Bool) → total is_carry (pick b (LostCut m ∷ []) []) ≡ 0
unfolding total is_carry
lost_none m true = refl
lost_none m false = refl

event_none : (ls : List Link) (v : ℕ) (e : Happened Name) → total is_carry (world.event_of ls v e) ≡ 0
unfolding world.event_of total is_carry
event_none ls v (Posted w m) = lost_none m (world.is_cut v w ls)
event_none ls v _ = refl

events_none : (ls : List Link) (v : ℕ) (es : List (Happened Name)) → total is_carry (world.events_of ls v es) ≡ 0
unfolding world.events_of total
events_none ls v [] = refl
events_none ls v (e ∷ es) = let a = total_append is_carry (world.event_of ls v e) (world.events_of ls v es) in let b = event_none ls v e in let c = events_none ls v es in omega arith

too_few : (n : ℕ) → n ≡ 0 → 1 ≤ n → ⊥
too_few n e l = omega arith

no_carry : (es : List Event) → total is_carry es ≡ 0 → (j a b : ℕ) (n : Note Name) (bytes : List ℕ) → IsAmong (Carried j a b n bytes) es → ⊥
unfolding is_carry
no_carry es z j a b n bytes i = let k = total_in is_carry es (Carried j a b n bytes) i in too_few _ z k

events_no_carry : (ls : List Link) (v : ℕ) (es : List (Happened Name)) (j a b : ℕ) (n : Note Name) (bytes : List ℕ) → IsAmong (Carried j a b n bytes) (world.events_of ls v es) → ⊥
events_no_carry ls v es j a b n bytes i = no_carry (world.events_of ls v es) (events_none ls v es) j a b n bytes i

end_none : {A : Type 0} (xs : List A) → xs ++ [] ≡ xs
end_none [] = refl
end_none (x ∷ xs) = ap (λ r. x ∷ r) (end_none xs)

mid_among : {A : Type 0} (x : A) (xs ys : List A) → IsAmong x (xs ++ x ∷ ys)
mid_among x [] ys = inl refl
mid_among x (y ∷ xs) ys = inr (mid_among x xs ys)

head_is : {A : Type 0} (x y : A) (xs ys : List A) → x ∷ xs ≡ y ∷ ys → (x ≡ y) × (xs ≡ ys)
head_is x y xs ys e = (cc, cc)

some_is : {A : Type 0} (x y : A) → Some x ≡ Some y → x ≡ y
some_is x y e = cc

pub unturned : {A : Type 0} (x : A) (xs : List A) → uses.IsAmong x xs → IsAmong x xs
unturned x [] i = absurd i
unturned x (y ∷ xs) (inl e) = inl (sym e)
unturned x (y ∷ xs) (inr i) = inr (unturned x xs i)

-- the vat that was put back, or another
abbrev pub PutEither : ℕ → Vat Name → List (Vat Name) → ℕ → Vat Name → Type 0
PutEither v t xs u q = ((u ≡ v) × (q ≡ t)) ⊎ ((u ≡ v → ⊥) × (slice_get xs u ≡ Some q))

one_on : (v u : ℕ) (t : Vat Name) (x : Vat Name) (xs : List (Vat Name)) (q : Vat Name) → PutEither v t xs u q → PutEither (suc v) t (x ∷ xs) (suc u) q
one_on v u t x xs q (inl h) = inl (ap suc h.0, h.1)
one_on v u t x xs q (inr h) = inr (λ e. h.0 (let f : u ≡ v = cc in f), h.1)

pub put_either : (v : ℕ) (t : Vat Name) (xs : List (Vat Name)) (u : ℕ) (q : Vat Name) → slice_get (world.put_at v t xs) u ≡ Some q → PutEither v t xs u q
unfolding world.put_at
put_either v t [] u q e = cc
put_either zero t (x ∷ xs) zero q e = inl (refl, sym (some_is t q e))
put_either zero t (x ∷ xs) (suc u) q e = inr (λ f. cc, e)
put_either (suc v) t (x ∷ xs) zero q e = inr (λ f. cc, e)
put_either (suc v) t (x ∷ xs) (suc u) q e = one_on v u t x xs q (put_either v t xs u q e)

-- a note that is pushed on a link from its vat
pushed_well : (draws : List ℕ) (y : World) (v : ℕ) (l : Link) (n : Note Name) → l.from ≡ v → NoteWell draws y v n → LinkWell draws y l → LinkWell draws y (world.pushed n l)
unfolding world.pushed
pushed_well draws y v l n e h i = either l.cut
  where
    either : (b : Bool) → LinkWell draws y (pick b (record l { log = l.log ++ n ∷ [] }) (record l { notes = l.notes ++ n ∷ []; log = l.log ++ n ∷ [] }))
    either true = i
    either false = all_end (NoteWell draws y l.from) l.notes n i (subst (λ u. NoteWell draws y u n) (sym e) h)

-- Vat v of world w, as s, takes a step after which it is t; its own line is e, and the lines of the step follow it.
module _ (draws : List ℕ) (v : ℕ) (w y : World) (e : Event) (s t : Vat Name) (step : Step Name Name)
    (at : slice_get w.vats v ≡ Some s)
    (vats : y.vats ≡ world.put_at v t w.vats) (links : y.links ≡ world.push_all v t.outbox w.links) (history : y.history ≡ (w.history ++ e ∷ []) ++ world.events_of w.links v t.happened)
    (none : IsNobodys (e ∷ [])) (plain : (x : Name) → sent_by x e ≡ 0)
    (h : Stands draws w) (hand : (x : Name) → places x w + takes x w.history + carried_by x e ≤ sendings x w.history) (fated : (x : Name) → Fated x y)
    (g : Grows w y) (adds : Adds s.lists (map list_made t.happened) t.lists) (own : (past : List TextLine) → place_of (and_lines past (show.shown_event draws e)) ≡ v + 1) where
  abbrev events : List Event
  events = world.events_of w.links v t.happened

  abbrev es : List Event
  es = e ∷ events

  more : y.history ≡ w.history ++ es
  more = history ∙ joined w.history (e ∷ []) events

  -- ---- counts

  sent_all : (x : Name) → sendings x y.history ≡ sendings x w.history + total (sent_by x) es
  unfolding sendings
  sent_all x = ap (total (sent_by x)) more ∙ total_append (sent_by x) w.history es

  carried_all : (x : Name) → total (carried_by x) y.history ≡ total (carried_by x) w.history + carried_by x e
  unfolding total
  carried_all x = let a = ap (total (carried_by x)) more ∙ total_append (carried_by x) w.history es in let b = events_uncarried w.links v x t.happened in omega arith

  carried_es : (x : Name) → total (carried_by x) es ≡ carried_by x e
  unfolding total
  carried_es x = let b = events_uncarried w.links v x t.happened in omega arith

  few : (x : Name) → sendings x y.history ≤ 1
  few x = let f = (fated x).fresh in let o = numbered_once x 0 y.vats in omega arith

  named : (x : Name) → 1 ≤ sendings x y.history → IsMail x
  named x k = let f = (fated x).fresh in is_mail x y.vats (omega arith)

  mails : (l : Event) → IsAmong l es → Mails l
  mails l i = event_mails l (λ x k. let a = total_in (sent_by x) es l i in let b = sent_all x in named x (omega arith))
      (λ x k. let a = total_in (carried_by x) es l i in let b = carried_es x in let c = hand x in let d = sent_all x in named x (omega arith))

  -- of a message that has a place or was taken the step has nothing
  quiet : (x : Name) → Alive w x → Silent draws es x
  quiet x k = let a = hand x in let b = sent_all x in let c = few x in let d = carried_es x in
      silent draws es x (named x (omega arith)) mails (omega arith) (omega arith)

  -- ---- the line of a send

  line_here : (l : Happened Name) → world.event_of w.links v l ≡ Here v l ∷ [] → IsAmong l t.happened → IsAmong (Here v l) es
  line_here l q i = inr (here_event w.links v t.happened l q i)

  in_all_lines : (l : Event) → IsAmong l es → IsAmong l y.history
  in_all_lines l i = subst (λ hs. IsAmong l hs) (sym more) (among_right l w.history es i)

  zero_or : (n : ℕ) → (n ≡ 0) ⊎ (1 ≤ n)
  zero_or zero = inl refl
  zero_or (suc n) = inr (omega arith)

  -- what was carried was sent
  carries_next : (x : Name) → sendings x y.history ≡ 0 → total (carried_by x) y.history ≡ 0
  carries_next x k = let a = sent_all x in let b = h.carries x (omega arith) in let c = hand x in let d = carried_all x in omega arith

  carried_sent : (x : Name) → 1 ≤ total (carried_by x) y.history → 1 ≤ sendings x y.history
  carried_sent x k = either (zero_or (sendings x y.history))
    where
      either : (sendings x y.history ≡ 0) ⊎ (1 ≤ sendings x y.history) → 1 ≤ sendings x y.history
      either (inl z) = let c = carries_next x z in omega arith
      either (inr i) = i

  all_mails : (l : Event) → IsAmong l y.history → Mails l
  unfolding sendings
  all_mails l i = event_mails l (λ x k. let a = total_in (sent_by x) y.history l i in named x (omega arith))
      (λ x k. let a = total_in (carried_by x) y.history l i in named x (carried_sent x (omega arith)))

  -- A line of this step that sends the message is the only one that has it.
  alone_before : (x : Name) (l : Event) (b k : List Event) → y.history ≡ b ++ l ∷ k → sent_by x l ≡ 1 → IsAmong l es → Silent draws b x × Silent draws k x × NotCarried draws y.history x
  unfolding sendings total
  alone_before x l b k q one i =
      let f = few x in let a = sent_all x in let c = total_in (sent_by x) es l i in let z = h.carries x (omega arith) in let hd = hand x in let none = carried_all x in
      let s0 = ap (total (sent_by x)) q ∙ total_append (sent_by x) b (l ∷ k) in let c0 = ap (total (carried_by x)) q ∙ total_append (carried_by x) b (l ∷ k) in
      let m : IsMail x = named x (omega arith) in (
        silent draws b x m (λ n j. all_mails n (subst (λ hs. IsAmong n hs) (sym q) (among_left n b (l ∷ k) j))) (omega arith) (omega arith),
        silent draws k x m (λ n j. all_mails n (subst (λ hs. IsAmong n hs) (sym q) (among_right n b (l ∷ k) (inr j)))) (omega arith) (omega arith),
        not_carried draws y.history x m all_mails (omega arith),
      )

  new_sent : (a : ℕ) (m : Message Name) → IsAmong (Sends a m) t.happened → Source draws y v m
  unfolding world.event_of sent_by sent_here show.shown_event show.shown_happened
  new_sent a m i = let l : Event = Here v (Sends a m) in let j = line_here (Sends a m) refl i in let p = among_split l y.history (in_all_lines l j) in
      let q = alone_before m.id l p.0 p.1 p.2 (one_self m.id) j in let r = send_has draws v a m m.answer in
      sent m.target r.0 itself (subst (λ hs. LastHas draws hs m.id r.0) (sym p.2) (last_one draws (had (show.shown_msg draws m.id)) p.0 p.1 l r.0 q.1.0 r.1)) r.2 q.2
      (subst (λ hs. SentAs draws hs m.id (all_parts (show.shown_values draws v m.args))) (sym p.2) (first_one draws (sent_with (show.shown_msg draws m.id)) p.0 p.1 l (all_parts (show.shown_values draws v m.args)) q.0.2 r.3))

  new_reacts : (a : ℕ) (x o : Value Name) (n : Name) (m : Message Name) → m.args ≡ x ∷ [] → m.answer ≡ Some n → IsAmong (Reacts a x o m) t.happened → Reacting draws y v m
  unfolding world.event_of sent_by sent_here show.shown_event show.shown_happened
  new_reacts a x o n m args answer i = let l : Event = Here v (Reacts a x o m) in let j = line_here (Reacts a x o m) refl i in let p = among_split l y.history (in_all_lines l j) in
      let q = alone_before m.id l p.0 p.1 p.2 (one_self m.id) j in (
        x,
        args,
        q.2,
        subst (λ hs. SentAs draws hs m.id (parts (show.shown_value draws v x))) (sym p.2)
            (first_one draws (sent_with (show.shown_msg draws m.id)) p.0 p.1 l (parts (show.shown_value draws v x)) q.0.2 (reaction_sends draws v a x o m m.answer n answer)),
      )

  source_on : (m : Message Name) (x : Value Name) → LeadsTo (HasLine y v) x m.target → Source draws y v (record m { target = x }) → Source draws y v m
  source_on m x l (sent z ts k last sub uncarried first) = sent z ts (leads_on (HasLine y v) z x m.target k l) last sub uncarried first
  source_on m x l (came z ys k c n last had_args) = came z ys (leads_on (HasLine y v) (Ref z) x m.target k l) c n last had_args

  -- ---- the line of a carry

  delivery_had : (b : Bool) (j u k : ℕ) (x z : Name) (verb : Words) (ys : Passeds Name) → had (show.shown_msg draws x) (event.Carry j u k (show.shown_delivery draws b (show.shown_msg draws x) (show.shown_name draws z) verb (show.shown_all draws ys))) ≡ Some (AName (show.shown_name draws z) ∷ all_parts (show.shown_all draws ys))
  unfolding show.shown_delivery had delivered
  delivery_had true j u k x z verb ys = of_some (show.shown_msg draws x) (show.shown_msg draws x) _ (same_message_self (show.shown_msg draws x))
  delivery_had false j u k x z verb ys = of_some (show.shown_msg draws x) (show.shown_msg draws x) _ (same_message_self (show.shown_msg draws x))

  delivery_with : (b : Bool) (j u k : ℕ) (x z : Name) (verb : Words) (ys : Passeds Name) → carried_with (show.shown_msg draws x) (event.Carry j u k (show.shown_delivery draws b (show.shown_msg draws x) (show.shown_name draws z) verb (show.shown_all draws ys))) ≡ Some (all_parts (show.shown_all draws ys))
  unfolding show.shown_delivery carried_with delivered_with
  delivery_with true j u k x z verb ys = of_some (show.shown_msg draws x) (show.shown_msg draws x) _ (same_message_self (show.shown_msg draws x))
  delivery_with false j u k x z verb ys = of_some (show.shown_msg draws x) (show.shown_msg draws x) _ (same_message_self (show.shown_msg draws x))

  carry_last : (j u k : ℕ) (d : Delivery Name) (z : Name) (verb : Words) (ys : Passeds Name) (bytes : List ℕ)
      → (last_of (had (show.shown_msg draws d.message)) (show.shown_event draws (Carried j u k (Deliver d z verb ys) bytes)) ≡ Some (AName (show.shown_name draws z) ∷ all_parts (show.shown_all draws ys)))
      × (last_of (carried_with (show.shown_msg draws d.message)) (show.shown_event draws (Carried j u k (Deliver d z verb ys) bytes)) ≡ Some (all_parts (show.shown_all draws ys)))
  unfolding show.shown_event show.shown_note had carried_with
  carry_last j u k d z verb ys bytes = (delivery_had d.asks j u k d.message z verb ys, delivery_with d.asks j u k d.message z verb ys)

  pub came_here : (j u : ℕ) (d : Delivery Name) (z : Name) (verb : Words) (ys : Passeds Name) (bytes : List ℕ) → e ≡ Carried j u v (Deliver d z verb ys) bytes → (m : Message Name) → m.id ≡ d.message
      → LeadsTo (HasLine y v) (Ref z) m.target → ComeAll (HasList y v) ys m.args → NoLists ys → Source draws y v m
  unfolding total carried_by of_note in_note sendings
  came_here j u d z verb ys bytes q m i l c k =
      let x = d.message in let o = one_self x in let n : carried_by x e ≡ one x x = ap (carried_by x) q in let hd = hand x in let sa = sent_all x in let f = few x in let ce = carried_es x in
      let silent_events : Silent draws events x = silent draws events x (named x (omega arith)) (λ b a. mails b (inr a)) (omega arith) (events_uncarried w.links v x t.happened) in
      let r = carry_last j u v d z verb ys bytes in
      let last : LastHas draws y.history x (AName (show.shown_name draws z) ∷ all_parts (show.shown_all draws ys)) = subst (λ hs. LastHas draws hs x (AName (show.shown_name draws z) ∷ all_parts (show.shown_all draws ys))) (sym more)
      (last_one draws (had (show.shown_msg draws x)) w.history events e _ silent_events.0 (subst (λ b. last_of (had (show.shown_msg draws x)) (show.shown_event draws b) ≡ Some (AName (show.shown_name draws z) ∷ all_parts (show.shown_all draws ys))) (sym q) r.0)) in
      let had_args : CarriedAs draws y.history x (all_parts (show.shown_all draws ys)) = subst (λ hs. CarriedAs draws hs x (all_parts (show.shown_all draws ys))) (sym more)
      (last_one draws (carried_with (show.shown_msg draws x)) w.history events e _ silent_events.1 (subst (λ b. last_of (carried_with (show.shown_msg draws x)) (show.shown_event draws b) ≡ Some (all_parts (show.shown_all draws ys))) (sym q) r.1)) in
      came z ys l c k (subst (λ b. LastHas draws y.history b (AName (show.shown_name draws z) ∷ all_parts (show.shown_all draws ys))) (sym i) last) (subst (λ b. CarriedAs draws y.history b (all_parts (show.shown_all draws ys))) (sym i) had_args)

  -- ---- what the step leaves

  abbrev pub P : Past
  P = record { line = HasLine w v; was = λ m. Source draws w v m × Alive w m.id; reacted = λ m. Reacting draws w v m × Alive w m.id; step = step; cut = λ u. Unit {0}; home = v }

  module _ (kept : Kept (Line P t) (HasLine y v)) (next_list : (k : ℕ) (vs : List (Value Name)) → Members t k vs → HasList y v k vs) (next_opened : (to i : ℕ) (n : Name) → Offers v t to i n → HasOpened y v to i n)
      (good : Good P t) (brought : (m : Message Name) → Came t step m → Source draws y v m) where
    fine_source : (m : Message Name) → Fine P t m → Source draws y v m
    fine_source m f = source_on m f.0 (leads_map (Line P t) (HasLine y v) kept f.0 m.target f.1) (either f.2)
      where
        either : ((a : ℕ) × IsAmong (Sends a (record m { target = f.0 })) t.happened) ⊎ (Came t step (record m { target = f.0 }) ⊎ (Source draws w v (record m { target = f.0 }) × Alive w m.id)) → Source draws y v (record m { target = f.0 })
        either (inl i) = new_sent i.0 (record m { target = f.0 }) i.1
        either (inr (inl c)) = brought (record m { target = f.0 }) c
        either (inr (inr o)) = source_grow draws w y g es more v (record m { target = f.0 }) (quiet m.id o.1) o.0

    reaction_source : (m : Message Name) → ReactionFine P t m → Reacting draws y v m
    reaction_source m (inl r) = new_reacts r.0 r.1 r.2 r.3 m r.4 r.5 r.6
    reaction_source m (inr o) = reacting_grow draws w y g es more v m (quiet m.id o.1) o.0

    queued_source : (m : Message Name) → QueuedFine P t m → Queued draws y v m
    queued_source m (inl f) = inl (fine_source m f)
    queued_source m (inr r) = inr (reaction_source m r)

    known_source : (k : Known Name) → KnownFine P t k → KnownWell draws y v k
    known_source k f = (all_map (Fine P t) (Source draws y v) fine_source k.held f.0, all_map (ReactionFine P t) (Reacting draws y v) reaction_source k.reactions f.1, stand_map (Line P t) (HasLine y v) kept k.name k.standing f.2)

    note_source : (n : Note Name) → NoteFine P t n → NoteWell draws y v n
    note_source (Deliver d n verb ys) f = (
      f.0,
      fine_source f.0 f.1,
      f.2,
      leads_map (Line P t) (HasLine y v) kept f.0.target (Ref n) f.4,
      pass_all_map (Line P t) (HasLine y v) kept (Members t) (HasList y v) next_list (Offers v t) (HasOpened y v) next_opened (IsGone P t) (λ n. Unit {0}) (λ n i. tt) f.0.args ys f.5,
    )
    note_source (Open i n) f = tt
    note_source other f = tt

    -- ---- lists

    line_where : (u : ℕ) (l : Happened Name) → IsAmong (Here u l) y.history → IsAmong (Here u l) w.history ⊎ ((u ≡ v) × IsAmong l t.happened)
    line_where u l i = parts_of (among_either (Here u l) w.history es (subst (λ hs. IsAmong (Here u l) hs) more i))
      where
        late : IsAmong (Here u l) es → IsAmong (Here u l) w.history ⊎ ((u ≡ v) × IsAmong l t.happened)
        late (inl q) = absurd (none u l (inl q))
        late (inr j) = inr (events_here w.links v u l t.happened j)

        parts_of : IsAmong (Here u l) w.history ⊎ IsAmong (Here u l) es → IsAmong (Here u l) w.history ⊎ ((u ≡ v) × IsAmong l t.happened)
        parts_of (inl j) = inl j
        parts_of (inr j) = late j

    list_where : (u k : ℕ) (vs : List (Value Name)) → ListTold draws y.history u k vs → ListTold draws w.history u k vs ⊎ ((u ≡ v) × (l : Happened Name) × IsAmong l t.happened × (list_made l ≡ Some (k, vs)))
    list_where u k vs (inl h) = either (line_where u (ListMade h.0 k vs) (unturned (Here u (ListMade h.0 k vs)) y.history h.1))
      where
        either : IsAmong (Here u (ListMade h.0 k vs)) w.history ⊎ ((u ≡ v) × IsAmong (ListMade h.0 k vs) t.happened) → ListTold draws w.history u k vs ⊎ ((u ≡ v) × (l : Happened Name) × IsAmong l t.happened × (list_made l ≡ Some (k, vs)))
        either (inl i) = inl (inl (h.0, turned (Here u (ListMade h.0 k vs)) w.history i))
        either (inr i) = inr (i.0, ListMade h.0 k vs, i.1, refl)
    list_where u k vs (inr h) = either (line_where u (ListCame k vs) (unturned (Here u (ListCame k vs)) y.history h))
      where
        either : IsAmong (Here u (ListCame k vs)) w.history ⊎ ((u ≡ v) × IsAmong (ListCame k vs) t.happened) → ListTold draws w.history u k vs ⊎ ((u ≡ v) × (l : Happened Name) × IsAmong l t.happened × (list_made l ≡ Some (k, vs)))
        either (inl i) = inl (inr (turned (Here u (ListCame k vs)) w.history i))
        either (inr i) = inr (i.0, ListCame k vs, i.1, refl)

    list_later : (u k : ℕ) (vs : List (Value Name)) → ListTold draws w.history u k vs → ListTold draws y.history u k vs
    list_later u k vs i = subst (λ hs. ListTold draws hs u k vs) (sym more) (list_on draws w.history es u k vs i)

    list_new : (l : Happened Name) (k : ℕ) (vs : List (Value Name)) → IsAmong l t.happened → ((a : ℕ) × (ListMade a k vs ≡ l)) ⊎ (ListCame k vs ≡ l) → ListTold draws y.history v k vs
    unfolding world.event_of
    list_new l k vs i (inl q) = inl (q.0, turned _ y.history (in_all_lines _ (line_here (ListMade q.0 k vs) refl (subst (λ z. IsAmong z t.happened) (sym q.1) i))))
    list_new l k vs i (inr q) = inr (turned _ y.history (in_all_lines _ (line_here (ListCame k vs) refl (subst (λ z. IsAmong z t.happened) (sym q) i))))

    lists_mine : ListsStand draws y.history v t
    lists_mine = (λ k vs e. to k vs (adds_told list_made t.happened s.lists t.lists adds k vs e), λ k vs i. from k vs (list_where v k vs i))
      where
        to : (k : ℕ) (vs : List (Value Name)) → (slice_get s.lists k ≡ Some vs) ⊎ ((l : Happened Name) × IsAmong l t.happened × (list_made l ≡ Some (k, vs))) → ListTold draws y.history v k vs
        to k vs (inl e) = list_later v k vs ((h.lists v s at).0 k vs e)
        to k vs (inr i) = list_new i.0 k vs i.1 (made_line i.0 k vs i.2)

        from : (k : ℕ) (vs : List (Value Name)) → ListTold draws w.history v k vs ⊎ ((v ≡ v) × (l : Happened Name) × IsAmong l t.happened × (list_made l ≡ Some (k, vs))) → slice_get t.lists k ≡ Some vs
        from k vs (inl i) = adds_stay list_made t.happened s.lists t.lists adds k vs ((h.lists v s at).1 k vs i)
        from k vs (inr i) = told_there list_made t.happened s.lists t.lists adds i.1 k vs i.2 i.3

    lists_other : (u : ℕ) (q : Vat Name) → (u ≡ v → ⊥) → slice_get w.vats u ≡ Some q → ListsStand draws y.history u q
    lists_other u q not e = (λ k vs i. list_later u k vs ((h.lists u q e).0 k vs i), λ k vs i. from k vs (list_where u k vs i))
      where
        from : (k : ℕ) (vs : List (Value Name)) → ListTold draws w.history u k vs ⊎ ((u ≡ v) × (l : Happened Name) × IsAmong l t.happened × (list_made l ≡ Some (k, vs))) → slice_get q.lists k ≡ Some vs
        from k vs (inl i) = (h.lists u q e).1 k vs i
        from k vs (inr i) = absurd (not i.0)

    lists_next : (u : ℕ) (q : Vat Name) → slice_get y.vats u ≡ Some q → ListsStand draws y.history u q
    lists_next u q e = either (put_either v t w.vats u q (subst (λ xs. slice_get xs u ≡ Some q) vats e))
      where
        either : ((u ≡ v) × (q ≡ t)) ⊎ ((u ≡ v → ⊥) × (slice_get w.vats u ≡ Some q)) → ListsStand draws y.history u q
        either (inl i) = subst (λ n. ListsStand draws y.history n q) (sym i.0) (subst (λ r. ListsStand draws y.history v r) (sym i.1) lists_mine)
        either (inr i) = lists_other u q i.0 i.1

    -- ---- what is taken

    module _ (taking : (m : Message Name) → IsTaken step m → IsAmong m s.queue) (carry : (j a b : ℕ) (n : Note Name) (bytes : List ℕ) → e ≡ Carried j a b n bytes → CarriesSent (lines draws w.history) (event.Carry j a b (show.shown_note draws b n))) where
      took_now : (hs ks : List Event) (a : ℕ) (m : Message Name) → y.history ≡ hs ++ Here v (Took a m) ∷ ks → (gs : List Event) → hs ≡ w.history ++ gs → IsAmong m s.queue → (n : ShownName)
          → StandsIn (lines draws hs) (all_parts (show.shown_values draws v m.args)) n ↔ StandsIn (lines draws hs) (arguments_in (shown_events draws y.history) (show.shown_msg draws m.id)) n
      took_now hs ks a m q gs p i n = subst (λ ts. StandsIn (lines draws hs) (all_parts (show.shown_values draws v m.args)) n ↔ StandsIn (lines draws hs) ts n)
          (sym (arguments_more draws w.history y.history es more m.id (quiet m.id (queued_alive w v s at m i))))
          (queued_taken draws w v hs told same m (all_at (Queued draws w v) s.queue m (h.queues v s at) i) n)
        where
          here : (r : Vat Name) → slice_get w.vats v ≡ Some r → (k : ℕ) (vs : List (Value Name)) → slice_get r.lists k ≡ Some vs → slice_get s.lists k ≡ Some vs
          here r e k vs f = subst (λ (z : Vat Name). slice_get z.lists k ≡ Some vs) (some_is r s (sym e ∙ at)) f

          told : (k : ℕ) (vs : List (Value Name)) → HasList w v k vs → ListTold draws hs v k vs
          told k vs l = subst (λ z. ListTold draws z v k vs) (sym p) (list_on draws w.history gs v k vs ((h.lists v s at).0 k vs (here l.0 l.1 k vs l.2)))

          same : (k : ℕ) (vs ws : List (Value Name)) → ListTold draws hs v k vs → HasList w v k ws → vs ≡ ws
          same k vs ws f l = let a1 = lists_mine.1 k vs (subst (λ z. ListTold draws z v k vs) (sym q) (list_on draws hs (Here v (Took a m) ∷ ks) v k vs f)) in
              let a2 = adds_stay list_made t.happened s.lists t.lists adds k ws (here l.0 l.1 k ws l.2) in some_is vs ws (sym a1 ∙ a2)

      took_next : TakesWell draws y.history
      took_next hs ks u a m q n = either (parted w.history es hs (Here u (Took a m)) ks (sym more ∙ q))
        where
          new : (gs : List Event) → hs ≡ w.history ++ gs → (u ≡ v) × IsAmong (Took a m) t.happened → StandsIn (lines draws hs) (all_parts (show.shown_values draws u m.args)) n ↔ StandsIn (lines draws hs) (arguments_in (shown_events draws y.history) (show.shown_msg draws m.id)) n
          new gs p i = subst (λ z. StandsIn (lines draws hs) (all_parts (show.shown_values draws z m.args)) n ↔ StandsIn (lines draws hs) (arguments_in (shown_events draws y.history) (show.shown_msg draws m.id)) n) (sym i.0)
              (took_now hs ks a m (subst (λ z. y.history ≡ hs ++ Here z (Took a m) ∷ ks) i.0 q) gs p (taking m (all_at (TookFine step) t.happened (Took a m) good.3 i.1)) n)

          late : IsAmong (Here u (Took a m)) es → (u ≡ v) × IsAmong (Took a m) t.happened
          late (inl r) = absurd (none u (Took a m) (inl r))
          late (inr j) = events_here w.links v u (Took a m) t.happened j

          either : Parted w.history es hs (Here u (Took a m)) ks → StandsIn (lines draws hs) (all_parts (show.shown_values draws u m.args)) n ↔ StandsIn (lines draws hs) (arguments_in (shown_events draws y.history) (show.shown_msg draws m.id)) n
          either (inl r) = subst (λ ts. StandsIn (lines draws hs) (all_parts (show.shown_values draws u m.args)) n ↔ StandsIn (lines draws hs) ts n)
              (sym (arguments_more draws w.history y.history es more m.id (quiet m.id (taken_alive w u a m (subst (λ z. IsAmong (Here u (Took a m)) z) (sym r.1) (mid_among (Here u (Took a m)) hs r.0)))))) (h.took hs r.0 u a m r.1 n)
          either (inr r) = new r.0 r.1 (late (subst (λ z. IsAmong (Here u (Took a m)) z) (sym r.2) (mid_among (Here u (Took a m)) r.0 ks)))

      carried_next : CarriesWell draws y.history
      carried_next hs ks j a b n bytes q = either (parted w.history es hs (Carried j a b n bytes) ks (sym more ∙ q))
        where
          first : (gs : List Event) → hs ≡ w.history ++ gs → e ∷ events ≡ gs ++ Carried j a b n bytes ∷ ks → CarriesSent (lines draws hs) (event.Carry j a b (show.shown_note draws b n))
          first [] p r = subst (λ z. CarriesSent (lines draws z) (event.Carry j a b (show.shown_note draws b n))) (sym (p ∙ end_none w.history)) (carry j a b n bytes (head_is e (Carried j a b n bytes) events ks r).0)
          first (x ∷ gs) p r = absurd (events_no_carry w.links v t.happened j a b n bytes (subst (λ z. IsAmong (Carried j a b n bytes) z) (sym (head_is e x events (gs ++ Carried j a b n bytes ∷ ks) r).1) (mid_among (Carried j a b n bytes) gs ks)))

          either : Parted w.history es hs (Carried j a b n bytes) ks → CarriesSent (lines draws hs) (event.Carry j a b (show.shown_note draws b n))
          either (inl r) = h.carried hs r.0 j a b n bytes r.1
          either (inr r) = first r.0 r.1 r.2

      placed_next : PlacedWell draws y.history
      placed_next hs ks u l q = either (parted w.history es hs (Here u l) ks (sym more ∙ q))
        where
          first : (gs : List Event) → hs ≡ w.history ++ gs → e ∷ events ≡ gs ++ Here u l ∷ ks → place_of (lines draws hs) ≡ u + 1
          first [] p r = absurd (none u l (inl (sym (head_is e (Here u l) events ks r).0)))
          first (x ∷ gs) p r = let i = head_is e x events (gs ++ Here u l ∷ ks) r in let is = events_here w.links v u l t.happened (subst (λ z. IsAmong (Here u l) z) (sym i.1) (mid_among (Here u l) gs ks)) in
              subst (λ z. place_of (lines draws hs) ≡ z + 1) (sym is.0) (subst (λ z. place_of (lines draws z) ≡ v + 1) (sym p) (subst (λ z. place_of (lines draws (w.history ++ z ∷ gs)) ≡ v + 1) i.0
              (step_place draws w.links v w.history e t.happened gs (Here u l ∷ ks) own i.1)))

          either : Parted w.history es hs (Here u l) ks → place_of (lines draws hs) ≡ u + 1
          either (inl r) = h.placed hs r.0 u l r.1
          either (inr r) = first r.0 r.1 r.2

      -- ---- all of it

      vat_queue : (u : ℕ) (q : Vat Name) → slice_get w.vats u ≡ Some q → AllOf (Queued draws y u) q.queue
      vat_queue u q e = all_in (Queued draws w u) (Queued draws y u) q.queue (λ m i. queued_grow draws w y g es more u m (quiet m.id (queued_alive w u q e m i))) (h.queues u q e)

      vat_names : (u : ℕ) (q : Vat Name) → slice_get w.vats u ≡ Some q → AllOf (KnownWell draws y u) q.known
      vat_names u q e = all_in (KnownWell draws w u) (KnownWell draws y u) q.known (λ k i f. (
        all_in (Source draws w u) (Source draws y u) k.held (λ m j. source_grow draws w y g es more u m (quiet m.id (held_alive w u q e k i m j))) f.0,
        all_in (Reacting draws w u) (Reacting draws y u) k.reactions (λ m j. reacting_grow draws w y g es more u m (quiet m.id (reacts_alive w u q e k i m j))) f.1,
        stand_map (HasLine w u) (HasLine y u) (kept_all (HasLine w u) (HasLine y u) (λ l j. g.0 (Here u l) j)) k.name k.standing f.2,
      )) (h.names u q e)

      link_notes : AllOf (LinkWell draws y) w.links
      link_notes = all_in (LinkWell draws w) (LinkWell draws y) w.links (λ l i f. all_in (NoteWell draws w l.from) (NoteWell draws y l.from) l.notes
          (λ n j k. note_grow draws w y g es more l.from n (λ d z verb ys q. quiet d.message (note_alive w l d z verb ys i (subst (λ r. IsAmong r l.notes) q j))) k) f) h.links

      pub stands_next : Stands draws y
      stands_next = record {
        lists = lists_next;
        carries = carries_next;
        queues = λ u q e. put_each (λ n z. AllOf (Queued draws y n) z.queue) v t w.vats (all_map (QueuedFine P t) (Queued draws y v) queued_source t.queue good.0) vat_queue u q (subst (λ xs. slice_get xs u ≡ Some q) vats e);
        names = λ u q e. put_each (λ n z. AllOf (KnownWell draws y n) z.known) v t w.vats (all_map (KnownFine P t) (KnownWell draws y v) known_source t.known good.1) vat_names u q (subst (λ xs. slice_get xs u ≡ Some q) vats e);
        links = subst (λ ls. AllOf (LinkWell draws y) ls) (sym links) (push_stems (LinkWell draws y) (NoteWell draws y v) v t.outbox w.links (pushed_well draws y v)
            (all_map (λ (q : Put Name). NoteFine P t q.note) (λ (q : Put Name). NoteWell draws y v q.note) (λ q f. note_source q.note f) t.outbox good.2) link_notes);
        took = took_next;
        carried = carried_next;
        placed = placed_next;
      }

-- Lines of no vat, which send and carry nothing, come behind the history; no vat changes.
module _ (draws : List ℕ) (w y : World) (es : List Event) (vats : y.vats ≡ w.vats) (more : y.history ≡ w.history ++ es) (none : IsNobodys es) (sends : (x : Name) → total (sent_by x) es ≡ 0) (carries : (x : Name) → total (carried_by x) es ≡ 0)
    (uncarried : total is_carry es ≡ 0) (g : Grows w y) (fated : (x : Name) → Fated x w) (h : Stands draws w) where
  still_mails : (l : Event) → IsAmong l es → Mails l
  still_mails l i = event_mails l (λ x k. let a = total_in (sent_by x) es l i in let b = sends x in absurd (too_few (total (sent_by x) es) b (omega arith))) (λ x k. let a = total_in (carried_by x) es l i in let b = carries x in absurd (too_few (total (carried_by x) es) b (omega arith)))

  pub still_quiet : (x : Name) → Alive w x → Silent draws es x
  still_quiet x k = let a = (fated x).kept in let b = (fated x).fresh in silent draws es x (is_mail x w.vats (omega arith)) still_mails (sends x) (carries x)

  still_line : (u : ℕ) (l : Happened Name) → IsAmong (Here u l) y.history → IsAmong (Here u l) w.history
  still_line u l i = either (among_either (Here u l) w.history es (subst (λ hs. IsAmong (Here u l) hs) more i))
    where
      either : IsAmong (Here u l) w.history ⊎ IsAmong (Here u l) es → IsAmong (Here u l) w.history
      either (inl j) = j
      either (inr j) = absurd (none u l j)

  still_list : (u k : ℕ) (vs : List (Value Name)) → ListTold draws y.history u k vs → ListTold draws w.history u k vs
  still_list u k vs (inl i) = inl (i.0, turned _ w.history (still_line u (ListMade i.0 k vs) (unturned _ y.history i.1)))
  still_list u k vs (inr i) = inr (turned _ w.history (still_line u (ListCame k vs) (unturned _ y.history i)))

  still_lists : (u : ℕ) (q : Vat Name) → slice_get w.vats u ≡ Some q → ListsStand draws y.history u q
  still_lists u q e = (λ k vs i. subst (λ hs. ListTold draws hs u k vs) (sym more) (list_on draws w.history es u k vs ((h.lists u q e).0 k vs i)), λ k vs i. (h.lists u q e).1 k vs (still_list u k vs i))

  still_took : TakesWell draws y.history
  still_took hs ks u a m q n = either (parted w.history es hs (Here u (Took a m)) ks (sym more ∙ q))
    where
      either : Parted w.history es hs (Here u (Took a m)) ks → StandsIn (lines draws hs) (all_parts (show.shown_values draws u m.args)) n ↔ StandsIn (lines draws hs) (arguments_in (shown_events draws y.history) (show.shown_msg draws m.id)) n
      either (inl r) = subst (λ ts. StandsIn (lines draws hs) (all_parts (show.shown_values draws u m.args)) n ↔ StandsIn (lines draws hs) ts n)
          (sym (arguments_more draws w.history y.history es more m.id (still_quiet m.id (taken_alive w u a m (subst (λ z. IsAmong (Here u (Took a m)) z) (sym r.1) (mid_among (Here u (Took a m)) hs r.0)))))) (h.took hs r.0 u a m r.1 n)
      either (inr r) = absurd (none u (Took a m) (subst (λ z. IsAmong (Here u (Took a m)) z) (sym r.2) (mid_among (Here u (Took a m)) r.0 ks)))

  still_carried : CarriesWell draws y.history
  still_carried hs ks j a b n bytes q = either (parted w.history es hs (Carried j a b n bytes) ks (sym more ∙ q))
    where
      either : Parted w.history es hs (Carried j a b n bytes) ks → CarriesSent (lines draws hs) (event.Carry j a b (show.shown_note draws b n))
      either (inl r) = h.carried hs r.0 j a b n bytes r.1
      either (inr r) = absurd (no_carry es uncarried j a b n bytes (subst (λ z. IsAmong (Carried j a b n bytes) z) (sym r.2) (mid_among (Carried j a b n bytes) r.0 ks)))

  still_placed : PlacedWell draws y.history
  still_placed hs ks u l q = either (parted w.history es hs (Here u l) ks (sym more ∙ q))
    where
      either : Parted w.history es hs (Here u l) ks → place_of (lines draws hs) ≡ u + 1
      either (inl r) = h.placed hs r.0 u l r.1
      either (inr r) = absurd (none u l (subst (λ z. IsAmong (Here u l) z) (sym r.2) (mid_among (Here u l) r.0 ks)))

  still_carries : (x : Name) → sendings x y.history ≡ 0 → total (carried_by x) y.history ≡ 0
  unfolding sendings
  still_carries x k = let a = ap (total (sent_by x)) more ∙ total_append (sent_by x) w.history es in let b = sends x in let c = ap (total (carried_by x)) more ∙ total_append (carried_by x) w.history es in let d = carries x in
      let z = h.carries x (omega arith) in omega arith

  still_queue : (u : ℕ) (q : Vat Name) → slice_get w.vats u ≡ Some q → AllOf (Queued draws y u) q.queue
  still_queue u q e = all_in (Queued draws w u) (Queued draws y u) q.queue (λ m i. queued_grow draws w y g es more u m (still_quiet m.id (queued_alive w u q e m i))) (h.queues u q e)

  still_names : (u : ℕ) (q : Vat Name) → slice_get w.vats u ≡ Some q → AllOf (KnownWell draws y u) q.known
  still_names u q e = all_in (KnownWell draws w u) (KnownWell draws y u) q.known (λ k i f. (
    all_in (Source draws w u) (Source draws y u) k.held (λ m j. source_grow draws w y g es more u m (still_quiet m.id (held_alive w u q e k i m j))) f.0,
    all_in (Reacting draws w u) (Reacting draws y u) k.reactions (λ m j. reacting_grow draws w y g es more u m (still_quiet m.id (reacts_alive w u q e k i m j))) f.1,
    stand_map (HasLine w u) (HasLine y u) (kept_all (HasLine w u) (HasLine y u) (λ l j. g.0 (Here u l) j)) k.name k.standing f.2,
  )) (h.names u q e)

  pub still_link : (l : Link) → IsAmong l w.links → LinkWell draws w l → LinkWell draws y l
  still_link l i f = all_in (NoteWell draws w l.from) (NoteWell draws y l.from) l.notes
      (λ n j k. note_grow draws w y g es more l.from n (λ d z verb ys q. still_quiet d.message (note_alive w l d z verb ys i (subst (λ r. IsAmong r l.notes) q j))) k) f

  pub still_stands : AllOf (LinkWell draws y) y.links → Stands draws y
  still_stands links = record {
    lists = λ u q e. still_lists u q (subst (λ xs. slice_get xs u ≡ Some q) vats e);
    carries = still_carries;
    queues = λ u q e. still_queue u q (subst (λ xs. slice_get xs u ≡ Some q) vats e);
    names = λ u q e. still_names u q (subst (λ xs. slice_get xs u ≡ Some q) vats e);
    links = links;
    took = still_took;
    carried = still_carried;
    placed = still_placed;
  }
