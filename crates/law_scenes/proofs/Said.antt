-- What the record of a hostile vat does holds no message, puts no note and tells nothing; and a message that it says in a frame is the next that it makes.
use Rattle.std.proofs.Common.{◌≡◌, ℕ, suc, ◌+◌, ◌≤◌, Bool, true, false, List, [], ◌∷◌, ◌++◌, Option, Some, None, map, refl, sym, ap, subst, ◌∙◌, arith}
use Rattle.def_op.specs.Frames as op
use Rattle.def_op.specs.Frames.{Described, Members, Outcome, Operation}
use Rattle.def_machine.specs.Values.{Name, Sent, host_of, naming, name_of, answer_of, mail_of}
use Rattle.def_machine.specs.State.{Note, Deliver, Open, Ask, SettledTo, Elsewhere, Shorten, Vat, Done, Gives, Throws, Ejects, Stops, Act, ◌>>=◌, ◌>>◌, and_then, give, new_thing, new_promise, new_message, new_lone_message, begun, come, mail}
use Rattle.def_machine.specs.Arrive as arrive
use Rattle.def_machine.specs.Arrive.{Incoming, Old, New}
use Rattle.def_machine.specs.Maps as maps
use Rattle.def_run.specs.Connections as connections
use Rattle.def_run.specs.Connections.{Connection, Stage, Newcomers, Heard, Hearing, next, told, told_where}
use Rattle.def_run.specs.Deeds.{Deed, NewObject, NewPromise, NewMessage, NewLone, Learns, perform, perform_all, hear, hear_message}
use Rattle.def_run.specs.World as world
use Rattle.def_run.specs.World.{Script, World, names, names_of, readied}
use Rattle.def_hostile.specs.Hostile as hostile
use Rattle.def_hostile.specs.Hostile.{Play, deeds_for, makes_new, message_deed, message_deeds, names_in_note}
use Rattle.law_fate.specs.Fates.Fate.{one, total, at_vat, in_note, of_note}
use Rattle.law_fate.specs.Fates.FateLaws.{numbered}
use Rattle.law_fate.proofs.Fates.Counts.{names_end, numbered_next}
use Rattle.law_fate.proofs.Fates.RunCounts.{total_append}
use Rattle.law_injected.specs.HostileRuns.{IsSpoken}

-- how many messages a deed makes
abbrev pub made : Deed → ℕ
made NewObject = 0
made NewPromise = 0
made (NewMessage h) = 1
made NewLone = 1
made (Learns n) = 0

then_gives : (d : Done Name (Unit {0})) (f : Act Name (Unit {0})) (t : Vat Name) → and_then d (λ _. f) ≡ Gives tt t → (r : Vat Name) × (d ≡ Gives tt r) × (f r ≡ Gives tt t)
unfolding and_then
then_gives (Gives a r) f t e = (r, refl, e)
then_gives (Throws p r) f t e = cc
then_gives (Ejects i x r) f t e = cc
then_gives (Stops c r) f t e = cc

module _ (script : Script) (v : ℕ) (x : Name) where
  -- It holds the message where it did, put no note and told nothing, and made so many messages.
  pub record Inert (c : ℕ) (a b : Vat Name) : Type 0 where
    pub held : at_vat x b ≡ at_vat x a
    pub put : b.outbox ≡ a.outbox
    pub happened : b.happened ≡ a.happened
    pub messages : b.messages ≡ c + a.messages

  inert_on : (c d : ℕ) (a b t : Vat Name) → Inert c a b → Inert d b t → Inert (c + d) a t
  inert_on c d a b t h k = let i = h.messages in let j = k.messages in record { held = k.held ∙ h.held; put = k.put ∙ h.put; happened = k.happened ∙ h.happened; messages = omega arith }

  given : (c : ℕ) (a y b : Vat Name) → Gives (tt {0}) y ≡ Gives (tt {0}) b → Inert c a y → Inert c a b
  given c a y b e h = let same : y ≡ b = cc in rw same at h

  same : (a : Vat Name) → Inert 0 a a
  same a = record { held = refl; put = refl; happened = refl; messages = omega arith }

  known_more : (a : Vat Name) (n : Name) (h : ℕ) → at_vat x (record a { known = a.known ++ begun n h ∷ [] }) ≡ at_vat x a
  unfolding at_vat
  known_more a n h = let e = names_end x a.known n h in omega arith

  learnt_inert : (n : Name) (a b : Vat Name) (c : Bool) → and_then {B = Unit {0}} (arrive.learn_name (names script v) (elim c [ true ↦ Old n | false ↦ New n (host_of n) ]) a) (λ _. give (tt {0})) ≡ Gives (tt {0}) b → Inert 0 a b
  unfolding and_then give arrive.learn_name come names naming name_of
  learnt_inert n a b true e = given 0 a a b e (same a)
  learnt_inert n a b false e = given 0 a _ b e (record { held = known_more a n (host_of n); put = refl; happened = refl; messages = omega arith })

  pub deed_inert : (d : Deed) (a b : Vat Name) → perform script v d a ≡ Gives tt b → Inert (made d) a b
  unfolding perform names names_of ◌>>◌ world.read_name and_then new_thing new_promise new_message new_lone_message give naming name_of mail_of answer_of at_vat
  deed_inert NewObject a b e = given 0 a _ b e (record { held = refl; put = refl; happened = refl; messages = omega arith })
  deed_inert NewPromise a b e = given 0 a _ b e (record { held = known_more a _ _; put = refl; happened = refl; messages = omega arith })
  deed_inert (NewMessage u) a b e = given 1 a _ b e (record { held = known_more a _ _; put = refl; happened = refl; messages = omega arith })
  deed_inert NewLone a b e = given 1 a _ b e (record { held = refl; put = refl; happened = refl; messages = omega arith })
  deed_inert (Learns n) a b e = learnt_inert n a b _ e

  pub deeds_inert : (ds : List Deed) (a b : Vat Name) → perform_all script v ds a ≡ Gives tt b → Inert (total made ds) a b
  unfolding perform_all ◌>>◌ give total
  deeds_inert [] a b e = given 0 a a b e (same a)
  deeds_inert (d ∷ ds) a b e = let r = then_gives (perform script v d a) (perform_all script v ds) b e in inert_on (made d) (total made ds) a r.0 b (deed_inert d a r.0 r.1) (deeds_inert ds r.0 b r.2)

  -- ---- what comes

  mailed : (a b : Vat Name) (m : Name) → Inert 0 (record a { mails = a.mails ++ m ∷ [] }) b → Inert 0 a b
  unfolding at_vat
  mailed a b m h = record { held = h.held; put = h.put; happened = h.happened; messages = h.messages }

  message_inert : (m : Name) (asks : Bool) (a b : Vat Name) → hear_message script v m asks a ≡ Gives (tt {0}) b → Inert 0 a b
  unfolding hear_message ◌>>=◌ ◌>>◌ and_then give arrive.learn_message mail names naming mail_of
  message_inert m true a b e = mailed a b m (deed_inert (Learns (answer_of v m)) (record a { mails = a.mails ++ m ∷ [] }) b e)
  message_inert m false a b e = let c : Vat Name = record a { mails = a.mails ++ m ∷ [] } in mailed a b m (given 0 c c b e (same c))

  pub hear_inert : (n : Note Name) (a b : Vat Name) → hear script v n a ≡ Gives tt b → Inert 0 a b
  unfolding hear give
  hear_inert (Deliver d y verb ys) a b e = message_inert d.message d.asks a b e
  hear_inert other a b e = given 0 a a b e (same a)

-- ---- how many messages a frame makes

-- one in a deliver note, else none
abbrev pub said : Note Name → ℕ
said (Deliver d n verb ys) = 1
said (Open i n) = 0
said (Ask p i n) = 0
said (SettledTo n y) = 0
said (Elsewhere n c) = 0
said (Shorten n c i) = 0

none_new : (ks : List Bool) → total made (map makes_new ks) ≡ 0
unfolding total makes_new
none_new [] = refl
none_new (true ∷ ks) = let rest = none_new ks in omega arith
none_new (false ∷ ks) = let rest = none_new ks in omega arith

none_learnt : (ns : List Name) → total made (map Learns ns) ≡ 0
unfolding total
none_learnt [] = refl
none_learnt (n ∷ ns) = let rest = none_learnt ns in omega arith

message_made : (u : ℕ) (asks : Bool) → total made (message_deed u asks ∷ []) ≡ 1
unfolding total message_deed
message_made u true = refl
message_made u false = refl

note_makes : (u : ℕ) (n : Note Name) → total made (message_deeds u n) ≡ said n
unfolding message_deeds total
note_makes u (Deliver d n verb ys) = message_made u d.asks
note_makes u (Open i n) = refl
note_makes u (Ask p i n) = refl
note_makes u (SettledTo n y) = refl
note_makes u (Elsewhere n c) = refl
note_makes u (Shorten n c i) = refl

pub frame_makes : (u : ℕ) (ks : List Bool) (n : Note Name) → total made (deeds_for u ks n) ≡ said n
unfolding deeds_for
frame_makes u ks n = let a = total_append made (map makes_new ks ++ message_deeds u n) (map Learns (names_in_note n)) in let b = total_append made (map makes_new ks) (message_deeds u n) in
    let c = none_new ks in let d = none_learnt (names_in_note n) in let e = note_makes u n in omega arith

-- ---- and which

abbrev Reads : {N A : Type 0} → (A → Type 0) → Option (Heard N A) → Type 0
Reads P (Some h) = P h.read
Reads P None = Unit {0}

then_reads : {N A B : Type 0} (Q : B → Type 0) (f : A → Hearing N B) (o : Option (Heard N A)) → ((a : A) (t : Stage N) → Reads Q (f a t)) → Reads Q (next f o)
unfolding next
then_reads Q f None g = tt
then_reads Q f (Some h) g = g h.read h.after

where_reads : {N A : Type 0} (P : A → Type 0) (b : Bool) (f : Hearing N A) (s : Stage N) → Reads P (f s) → Reads P (told_where b f s)
unfolding told_where
where_reads P true f s h = h
where_reads P false f s h = tt

-- a message in it is that
abbrev Of : {N : Type 0} → (N → Type 0) → Note N → Type 0
Of P (Deliver d n verb ys) = P d.message
Of P (Open i n) = Unit {0}
Of P (Ask p i n) = Unit {0}
Of P (SettledTo n y) = Unit {0}
Of P (Elsewhere n c) = Unit {0}
Of P (Shorten n c i) = Unit {0}

module _ {N W : Type 0} (object : N → Bool) (me peer : ℕ) (F : Newcomers N W) (c : Connection N) where
  abbrev Next : Note (Incoming N W) → Type 0
  Next n = Of (λ m. m ≡ New F.message peer) n

  message_next : (asks : Bool) (d : Described) (verb : List ℕ) (ds : Members) (s : Stage N) → Reads Next (connections.message_heard object me peer F c asks d verb ds s)
  unfolding connections.message_heard told
  message_next asks d verb ds s = then_reads Next _ (connections.name_heard object me peer F c d s) (λ x t. then_reads Next _ (connections.all_heard object me peer F c ds t) (λ ys u. refl))

  outcome_next : (x : Incoming N W) (o : Outcome) (s : Stage N) → Reads Next (connections.outcome_heard object me peer F c x o s)
  unfolding connections.outcome_heard told
  outcome_next x (op.To d) s = then_reads Next _ (connections.passed_heard object me peer F c d s) (λ y t. tt)
  outcome_next x (op.Elsewhere h) s = tt

  heard_next : (o : Operation) (s : Stage N) → Reads Next (connections.note_heard object me peer F c o s)
  unfolding connections.note_heard told
  heard_next (op.Deliver q d verb ds) s = where_reads Next _ _ s (message_next true d verb ds s)
  heard_next (op.DeliverOnly d verb ds) s = message_next false d verb ds s
  heard_next (op.Provide d w) s = then_reads Next _ (connections.name_heard object me peer F c d s) (λ x t. tt)
  heard_next (op.Accept q p w) s = where_reads Next _ _ s tt
  heard_next (op.Resolve d o) s = then_reads Next _ (connections.name_heard object me peer F c d s) (λ x t. outcome_next x o t)
  heard_next (op.Shorten d w) s = then_reads Next _ (connections.name_heard object me peer F c d s) (λ x t. tt)

renamed : (m : Name) (p : ℕ) (n : Note (Incoming Name Name)) → Of (λ y. y ≡ New m p) n → Of (λ y. y ≡ m) (maps.note hostile.name_in n)
unfolding hostile.name_in
renamed m p (Deliver d n verb ys) h = ap hostile.name_in h
renamed m p (Open i n) h = tt
renamed m p (Ask q i n) h = tt
renamed m p (SettledTo n y) h = tt
renamed m p (Elsewhere n c) h = tt
renamed m p (Shorten n c i) h = tt

completed : (play : Play) (u : ℕ) (s : Vat Name) (m : Name) (n : Note Name) → Of (λ y. y ≡ m) n → Of (λ y. y ≡ m) (hostile.completed play u s n)
unfolding hostile.completed
completed play u s m (Deliver d n verb ys) h = h
completed play u s m (Open i n) h = tt
completed play u s m (Ask p i n) h = tt
completed play u s m (SettledTo n y) h = tt
completed play u s m (Elsewhere n c) h = tt
completed play u s m (Shorten n c i) h = tt

was_read : {N A : Type 0} (P : A → Type 0) (o : Option (Heard N A)) (h : Heard N A) → o ≡ Some h → Reads P o → P h.read
was_read P o h e r = rw e at r

spoken_next : (play : Play) (w : World) (h u : ℕ) (t : Vat Name) (n : Note Name) (o : Operation) (new : List Name) (s : IsSpoken play w h u t n o new) → Of (λ y. y ≡ Sent (record { sender = h; number = s.record_of.messages })) n
unfolding hostile.read_op hostile.newcomers
spoken_next play w h u t n o new s = let m : Name = Sent (record { sender = h; number = s.record_of.messages }) in
    let read = was_read _ _ s.heard s.reads (heard_next _ u h (hostile.newcomers h _ m) _ o _) in
    subst (λ (z : Note Name). Of (λ y. y ≡ m) z) (sym s.says) (completed play u s.reader m (maps.note hostile.name_in s.heard.read) (renamed m h s.heard.read read))

none_numbers : (x : Name) (h k : ℕ) → 0 + numbered h k x ≤ numbered h (0 + k) x
none_numbers x h k = let c : numbered h (0 + k) x ≡ numbered h k x = ap (λ j. numbered h j x) (omega arith) in omega (arith, c)

-- so it is one more that the vat numbered
numbers : (x : Name) (h k : ℕ) (n : Note Name) → Of (λ y. y ≡ Sent (record { sender = h; number = k })) n → of_note x n + numbered h k x ≤ numbered h (said n + k) x
unfolding of_note in_note
numbers x h k (Deliver d n verb ys) e = let a = numbered_next h k x in let b : one d.message x ≡ one (Sent (record { sender = h; number = k })) x = ap (λ m. one m x) e in
    let c : numbered h (1 + k) x ≡ numbered h (suc k) x = ap (λ j. numbered h j x) (omega arith) in let f : one d.message x + numbered h k x ≤ numbered h (1 + k) x = omega (arith, a, b, c) in f
numbers x h k (Open i n) e = none_numbers x h k
numbers x h k (Ask p i n) e = none_numbers x h k
numbers x h k (SettledTo n y) e = none_numbers x h k
numbers x h k (Elsewhere n c) e = none_numbers x h k
numbers x h k (Shorten n c i) e = none_numbers x h k

-- The record of the vat that speaks: it holds what it held, puts nothing before it says the note and tells nothing, and numbers the message of the note.
pub record Speaks (x : Name) (h : ℕ) (n : Note Name) (s t : Vat Name) : Type 0 where
  pub held : at_vat x t ≡ at_vat x s
  pub put : t.outbox ≡ []
  pub happened : t.happened ≡ []
  pub fresh : of_note x n + numbered h s.messages x ≤ numbered h t.messages x

pub speaks : (play : Play) (x : Name) (w : World) (h u : ℕ) (t : Vat Name) (n : Note Name) (o : Operation) (new : List Name) (s : IsSpoken play w h u t n o new) → Speaks x h n s.record_of t
unfolding readied at_vat
speaks play x w h u t n o new s = let i = deeds_inert play.script h x (deeds_for u s.kinds n) (readied w s.record_of) t s.prepares in
    let more = i.messages in let makes = frame_makes u s.kinds n in
    let e : t.messages ≡ said n + s.record_of.messages = more ∙ ap (λ k. k + s.record_of.messages) makes in
    record { held = i.held; put = i.put; happened = i.happened; fresh = subst (λ k. of_note x n + numbered h s.record_of.messages x ≤ numbered h k x) (sym e) (numbers x h s.record_of.messages n (spoken_next play w h u t n o new s)) }
