-- What a vat has, how what it does may end, and each single way in which it may change.
use Rattle.std.specs.Prelude.{ℕ, zero, suc, ◌-◌, Bool, true, false, List, [], ◌∷◌, ◌++◌, Option, Some, None, length, nat_le, ◌==◌}
use Rattle.def_machine.specs.Values.{Words, Value, Naming, Coming, Mailing, IsOwn, IsAnswer, IsSent, key}
use Rattle.def_machine.specs.Values.{opened_values}

-- what a noun stands for: a fixed value with the guard under which it was bound, or a var slot
pub data Bound (N : Type 0) : Type 0 where
  Fixed : Value N → Value N → Bound N
  Slot : ℕ → Bound N

pub record Binding (N : Type 0) : Type 0 where
  pub noun : Words
  pub bound : Bound N

-- the activation that evaluates, and its environment, the innermost noun first
pub record Scope (N : Type 0) : Type 0 where
  pub act : ℕ
  pub nouns : List (Binding N)

-- a var slot: the guard of what is written to it, and its value
pub record Cell (N : Type 0) : Type 0 where
  pub guard : Value N
  pub value : Value N

-- what an auditor may know of a free name of the object that it judges
pub data Freedom (N : Type 0) : Type 0 where
  -- of the safe scope
  IsSafe : Freedom N
  -- the object's own name
  IsItself : Freedom N
  -- bound finally, under this guard
  IsFinal : Value N → Freedom N
  IsVar : Freedom N

pub record FreeName (N : Type 0) : Type 0 where
  pub noun : Words
  pub freedom : Freedom N

-- what an audition answers from: the node of the object expression, and its free names in order of first use
pub record View (N : Type 0) : Type 0 where
  pub node : ℕ
  pub free : List (FreeName N)

-- what bears a number of the vat's one count
pub data Thing (N : Type 0) : Type 0 where
  -- an object: the node of its object expression, its captures, its stamps
  Made : ℕ → List (Binding N) → List (Value N) → Thing N
  -- whether it is live
  Ejector : Bool → Thing N
  -- whether it is live, and what it answers from
  Audition : Bool → View N → Thing N
  -- of this promise
  Resolver : N → Thing N

pub record Message (N : Type 0) : Type 0 where
  pub id : N
  pub target : Value N
  pub verb : Words
  pub args : List (Value N)
  -- the name of its answer; a message that was sent without one has none
  pub answer : Option N

-- how a known name stands at a vat
pub data Standing (N : Type 0) : Type 0 where
  Unsettled : Standing N
  -- it waits on another name
  WaitsOn : N → Standing N
  -- its view is another name, a gift, on which it waits
  Viewed : N → Standing N
  Settled : Value N → Standing N

-- what is known of a name
pub record Known (N : Type 0) : Type 0 where
  pub name : N
  -- the vat that tells of it
  pub host : ℕ
  pub standing : Standing N
  -- messages that were sent on it and wait here, in order
  pub held : List (Message N)
  -- names that wait on it, in order
  pub waiting : List N
  -- reactions on it, in order
  pub reactions : List (Message N)
  -- vats that are to be told of it, in order of their right
  pub told : List ℕ

-- a single change of what is known of a name
pub data Change (N : Type 0) : Type 0 where
  Hold : Message N → Change N
  -- another name waits on it
  Wait : N → Change N
  -- it waits on another name
  WaitOn : N → Change N
  -- it has that gift as its view
  See : N → Change N
  React : Message N → Change N
  ToTell : ℕ → Change N
  -- it settles, and nothing waits any more
  Settle : Value N → Change N

-- A value in a note: data or a name as it passes, a gift by its host and its key, or a list by its members.
mutual
  pub data Passed (N : Type 0) : Type 0 where
    Plain : Value N → Passed N
    AGift : ℕ → ℕ → Passed N
    Many : Passeds N → Passed N

  pub data Passeds (N : Type 0) : Type 0 where
    NoMore : Passeds N
    More : Passed N → Passeds N → Passeds N

-- which message a note brings, whether it asks for an answer, and what its sender calls that answer: who reads the note is not told
pub record Delivery (N : Type 0) : Type 0 where
  pub message : N
  pub asks : Bool
  pub answer : Option N

pub data Note (N : Type 0) : Type 0 where
  -- message, target, verb, arguments
  Deliver : Delivery N → N → Words → Passeds N → Note N
  -- the sender's gift under that key is this
  Open : ℕ → N → Note N
  -- the gift of that provider and key is asked for, which the asker names so
  Ask : ℕ → ℕ → N → Note N
  -- a name settled to that
  SettledTo : N → Passed N → Note N
  -- a name settled to an object of that vat
  Elsewhere : N → ℕ → Note N
  -- the object that the name settled to is wanted as the receiver's gift at that host, under that key
  Shorten : N → ℕ → ℕ → Note N

-- a note put, and to which vat
pub record Put (N : Type 0) : Type 0 where
  pub to : ℕ
  pub note : Note N

-- a gift at its host: its name, its provider, its key, and whether it was opened
pub record GiftEntry (N : Type 0) : Type 0 where
  pub name : N
  pub provider : ℕ
  pub number : ℕ
  pub opened : Bool

-- what happens in a vat, one for each kind of line
pub data Happened (N : Type 0) : Type 0 where
  Took : ℕ → Message N → Happened N
  -- the last part is the activation that the call begins
  Called : ℕ → Value N → Words → List (Value N) → Option ℕ → Happened N
  Back : ℕ → Value N → Happened N
  Thrown : ℕ → Words → Happened N
  -- left by an ejection
  Left : ℕ → Happened N
  Got : ℕ → Value N → Happened N
  SlotMade : ℕ → ℕ → Value N → Happened N
  SlotRead : ℕ → ℕ → Value N → Happened N
  SlotWrote : ℕ → ℕ → Value N → Happened N
  ListMade : ℕ → ℕ → List (Value N) → Happened N
  -- a list arrives
  ListCame : ℕ → List (Value N) → Happened N
  EjectorMade : ℕ → N → Happened N
  AuditionMade : ℕ → N → Happened N
  PromiseMade : ℕ → N → N → Happened N
  ObjectMade : ℕ → N → Words → List (Bound N) → List (Value N) → Happened N
  -- a send, of a message whose target is the name sent on; one without an answer has a line of its own kind
  Sends : ℕ → Message N → Happened N
  -- a reaction: the value, what reacts, and the message of it
  Reacts : ℕ → Value N → Value N → Message N → Happened N
  Finished : ℕ → Value N → Happened N
  Threw : ℕ → Words → Happened N
  Settles : N → Value N → Happened N
  Waits : N → N → Happened N
  Views : N → N → Happened N
  -- a message is lost on a broken reference
  Lost : N → Happened N
  -- A deliver note of this message was put to that vat. It has no line of its own: where that link is cut the message is lost.
  Posted : ℕ → N → Happened N

-- a vat, with what is left of the run's fuel, the words drawn in the run, and what has happened in this step
pub record Vat (N : Type 0) : Type 0 where
  pub number : ℕ
  pub fuel : ℕ
  pub drawn : List ℕ
  pub things : List (Thing N)
  pub slots : List (Cell N)
  pub lists : List (List (Value N))
  pub activations : ℕ
  -- its own messages, sends and reactions together
  pub messages : ℕ
  -- promises made by Ref.promise()
  pub promises : ℕ
  pub queue : List (Message N)
  -- in order of coming to know them
  pub known : List (Known N)
  -- the messages that it has had, its own and those that came
  pub mails : List N
  -- the gifts that it hosts, in order of coming to be
  pub gifts : List (GiftEntry N)
  -- the vats whose link it has noticed as cut
  pub noticed : List ℕ
  -- the notes put in this step
  pub outbox : List (Put N)
  pub happened : List (Happened N)

pub data Stop : Type 0 where
  Fuel : Stop
  Deep : Stop
  -- the word of that earlier draw came again with this later one
  Repeated : ℕ → ℕ → Stop
  -- What no run of scoped trees meets: a noun that nothing binds, a node that is not there, a leaving that no escape awaits.
  Astray : Stop

-- how something that a vat does may end
pub data Done (N A : Type 0) : Type 0 where
  Gives : A → Vat N → Done N A
  -- a problem is thrown
  Throws : Words → Vat N → Done N A
  -- it is left by the ejector of that number, with a value
  Ejects : ℕ → Value N → Vat N → Done N A
  Stops : Stop → Vat N → Done N A

-- something that a vat does
abbrev pub Act : Type 0 → Type 0 → Type 0
Act N A = Vat N → Done N A

-- ---- one thing after another

unfoldable pub and_then : {N A B : Type 0} → Done N A → (A → Act N B) → Done N B
and_then (Gives a s) f = f a s
and_then (Throws p s) f = Throws p s
and_then (Ejects n v s) f = Ejects n v s
and_then (Stops c s) f = Stops c s

infixl 10 ◌>>=◌
unfoldable pub ◌>>=◌ : {N A B : Type 0} → Act N A → (A → Act N B) → Act N B
m >>= f = λ s. and_then (m s) f

infixl 10 ◌>>◌
unfoldable pub ◌>>◌ : {N A B : Type 0} → Act N A → Act N B → Act N B
m >> n = λ s. and_then (m s) (λ _. n)

unfoldable pub give : {N A : Type 0} → A → Act N A
give a = λ s. Gives a s

unfoldable pub throw : {N A : Type 0} → Words → Act N A
throw p = λ s. Throws p s

unfoldable pub stop : {N A : Type 0} → Stop → Act N A
stop c = λ s. Stops c s

unfoldable pub eject : {N A : Type 0} → ℕ → Value N → Act N A
eject n v = λ s. Ejects n v s

-- what a vat has now
unfoldable pub look : {N A : Type 0} → (Vat N → A) → Act N A
look f = λ s. Gives (f s) s

-- what follows where there is something, and else
unfoldable pub for_some : {N A B : Type 0} → Option A → (A → Act N B) → Act N B → Act N B
for_some (Some a) f m = f a
for_some None f m = m

-- what holds of it, where there is something
abbrev pub WhereSome : {A : Type 0} → (A → Type 0) → Option A → Type 0
WhereSome P (Some a) = P a
WhereSome P None = Unit {0}

unfoldable pub end_by : {N A B : Type 0} → (A → Act N B) → (Words → Act N B) → (ℕ → Value N → Act N B) → Done N A → Done N B
end_by f g h (Gives a s) = f a s
end_by f g h (Throws p s) = g p s
end_by f g h (Ejects n v s) = h n v s
end_by f g h (Stops c s) = Stops c s

-- what follows by how something ended: where it gave, threw, or was left by an ejector; a stop is a stop
unfoldable pub ending : {N A B : Type 0} → (A → Act N B) → (Words → Act N B) → (ℕ → Value N → Act N B) → Act N A → Act N B
ending f g h m = λ s. end_by f g h (m s)

-- the same for each of a list
unfoldable pub each : {N A : Type 0} → (A → Act N (Unit {0})) → List A → Act N (Unit {0})
each f [] = give tt
each f (x ∷ xs) = f x >> each f xs

-- ---- the single changes

unfoldable pub tell : {N : Type 0} → Happened N → Act N (Unit {0})
tell e = λ s. Gives tt (record s { happened = s.happened ++ e ∷ [] })

unfoldable pub spent : {N : Type 0} → ℕ → Bool → Act N (Unit {0})
spent n true = λ s. Gives tt (record s { fuel = s.fuel - n })
spent n false = λ s. Stops Fuel s

-- so many units of fuel, all or none
unfoldable pub spend : {N : Type 0} → ℕ → Act N (Unit {0})
spend n = λ s. spent n (nat_le n s.fuel) s

unfoldable pub new_activation : {N : Type 0} → Act N ℕ
new_activation = λ s. Gives s.activations (record s { activations = suc s.activations })

unfoldable pub new_thing : {N : Type 0} → Thing N → Act N ℕ
new_thing t = λ s. Gives (length s.things) (record s { things = s.things ++ t ∷ [] })

-- the member at a place changed, if there is one
unfoldable pub change : {A : Type 0} → (A → A) → ℕ → List A → List A
change f n [] = []
change f zero (x ∷ xs) = f x ∷ xs
change f (suc n) (x ∷ xs) = x ∷ change f n xs

unfoldable pub dead : {N : Type 0} → Thing N → Thing N
dead (Made node caught stamps) = Made node caught stamps
dead (Ejector live) = Ejector false
dead (Audition live view) = Audition false view
dead (Resolver p) = Resolver p

-- an ejector or audition is dead from here on
unfoldable pub kill : {N : Type 0} → ℕ → Act N (Unit {0})
kill n = λ s. Gives tt (record s { things = change dead n s.things })

unfoldable pub new_slot : {N : Type 0} → Value N → Value N → Act N ℕ
new_slot guard value = λ s. Gives (length s.slots) (record s { slots = s.slots ++ record { guard = guard; value = value } ∷ [] })

unfoldable pub holding : {N : Type 0} → Value N → Cell N → Cell N
holding v c = record c { value = v }

unfoldable pub write_slot : {N : Type 0} → ℕ → Value N → Act N (Unit {0})
write_slot n v = λ s. Gives tt (record s { slots = change (holding v) n s.slots })

unfoldable pub new_list : {N : Type 0} → List (Value N) → Act N ℕ
new_list vs = λ s. Gives (length s.lists) (record s { lists = s.lists ++ vs ∷ [] })

unfoldable pub enqueue : {N : Type 0} → Message N → Act N (Unit {0})
enqueue m = λ s. Gives tt (record s { queue = s.queue ++ m ∷ [] })

unfoldable pub send_out : {N : Type 0} → ℕ → Note N → Act N (Unit {0})
send_out to n = λ s. Gives tt (record s { outbox = s.outbox ++ record { to = to; note = n } ∷ [] })

unfoldable pub new_gift : {N : Type 0} → N → ℕ → ℕ → Act N (Unit {0})
new_gift name provider number = λ s. Gives tt (record s { gifts = s.gifts ++ record { name = name; provider = provider; number = number; opened = false } ∷ [] })

-- whether it is the gift of that provider and key
unfoldable pub is_gift : {N : Type 0} → ℕ → ℕ → GiftEntry N → Bool
is_gift provider number g = elim (g.provider == provider) [ true ↦ g.number == number | false ↦ false ]

unfoldable pub with_opened : {N : Type 0} → ℕ → ℕ → List (GiftEntry N) → List (GiftEntry N)
with_opened p i [] = []
with_opened p i (g ∷ gs) = elim (is_gift p i g) [ true ↦ record g { opened = true } ∷ gs | false ↦ g ∷ with_opened p i gs ]

-- the gift of that provider and key was opened
unfoldable pub open_gift : {N : Type 0} → ℕ → ℕ → Act N (Unit {0})
open_gift p i = λ s. Gives tt (record s { gifts = with_opened p i s.gifts })

-- the link with that vat is noticed as cut
unfoldable pub mark : {N : Type 0} → ℕ → Act N (Unit {0})
mark w = λ s. Gives tt (record s { noticed = s.noticed ++ w ∷ [] })

-- nothing changes what is known of a settled name
unfoldable pub unless_settled : {N : Type 0} → Standing N → Known N → Known N → Known N
unless_settled (Settled y) k new = k
unless_settled _ k new = new

unfoldable pub is_in : ℕ → List ℕ → Bool
is_in n [] = false
is_in n (x ∷ xs) = elim (n == x) [ true ↦ true | false ↦ is_in n xs ]

-- a vat is to be told once
unfoldable pub with_vat : ℕ → List ℕ → List ℕ
with_vat w ws = elim (is_in w ws) [ true ↦ ws | false ↦ ws ++ w ∷ [] ]

unfoldable pub changed_to : {N : Type 0} → Change N → Known N → Known N
changed_to (Hold m) k = record k { held = k.held ++ m ∷ [] }
changed_to (Wait q) k = record k { waiting = k.waiting ++ q ∷ [] }
changed_to (WaitOn q) k = record k { standing = WaitsOn q }
changed_to (See q) k = record k { standing = Viewed q }
changed_to (React m) k = record k { reactions = k.reactions ++ m ∷ [] }
changed_to (ToTell w) k = record k { told = with_vat w k.told }
changed_to (Settle y) k = record k { standing = Settled y; held = []; waiting = []; reactions = []; told = [] }

unfoldable pub changed : {N : Type 0} → Change N → Known N → Known N
changed c k = unless_settled k.standing k (changed_to c k)

unfoldable pub begun : {N : Type 0} → N → ℕ → Known N
begun n h = record { name = n; host = h; standing = Unsettled; held = []; waiting = []; reactions = []; told = [] }

-- the number of the first draw with that word
unfoldable pub drawn_at : ℕ → ℕ → List ℕ → Option ℕ
drawn_at k w [] = None
drawn_at k w (x ∷ xs) = elim (w == x) [ true ↦ Some k | false ↦ drawn_at (suc k) w xs ]

unfoldable pub draws : {N : Type 0} → ℕ → Option ℕ → Act N ℕ
draws w (Some i) = λ s. Stops (Repeated i (length s.drawn)) s
draws w None = λ s. Gives (key s.number w) (record s { drawn = s.drawn ++ w ∷ [] })

module _ {N W : Type 0} (K : Naming N W) where
  -- the change of what is known of a name
  unfoldable pub with_change : Change N → N → List (Known N) → List (Known N)
  with_change c n [] = []
  with_change c n (k ∷ ks) = elim (K.same k.name n) [ true ↦ changed c k ∷ ks | false ↦ k ∷ with_change c n ks ]

  unfoldable pub alter : Change N → N → Act N (Unit {0})
  alter c n = λ s. Gives tt (record s { known = with_change c n s.known })

  -- a name comes to be known, as the last, and has this host
  unfoldable pub come : Coming N W → ℕ → Act N N
  come c h = λ s. Gives (K.made c (length s.known)) (record s { known = s.known ++ begun (K.made c (length s.known)) h ∷ [] })

  -- a message comes to be at this vat, as the last
  unfoldable pub mail : Mailing W → Act N N
  mail c = λ s. Gives (K.mailed c (length s.mails)) (record s { mails = s.mails ++ K.mailed c (length s.mails) ∷ [] })

  -- a promise of this vat's own, counted
  unfoldable pub new_promise : Act N N
  new_promise = λ s. Gives (K.made (IsOwn s.promises) (length s.known))
      (record s { promises = suc s.promises; known = s.known ++ begun (K.made (IsOwn s.promises) (length s.known)) s.number ∷ [] })

  -- a message of this vat's own, counted, with its answer at that host; it gives both names
  unfoldable pub new_message : ℕ → Act N (N × N)
  new_message h = λ s. let id = K.mailed (IsSent s.messages) (length s.mails) in let a = K.made (IsAnswer h id) (length s.known) in
      Gives (id, a) (record s { messages = suc s.messages; mails = s.mails ++ id ∷ []; known = s.known ++ begun a h ∷ [] })

  -- a message of this vat's own without an answer, counted
  unfoldable pub new_lone_message : Act N N
  new_lone_message = λ s. let id = K.mailed (IsSent s.messages) (length s.mails) in
      Gives id (record s { messages = suc s.messages; mails = s.mails ++ id ∷ [] })

  -- The next word is drawn, and its key with this vat as provider given. A word that was drawn before stops the run.
  unfoldable pub draw : Act N ℕ
  draw = λ s. draws (K.word (length s.drawn)) (drawn_at zero (K.word (length s.drawn)) s.drawn) s

-- opens each definition of this file, and of those below
unfoldable pub opened_state : Unit {0}
unfolding and_then ◌>>=◌ ◌>>◌ give throw stop eject look for_some end_by ending each tell spent spend new_activation new_thing change dead kill new_slot holding write_slot new_list enqueue send_out new_gift is_gift with_opened open_gift mark unless_settled is_in with_vat changed_to changed begun drawn_at draws with_change alter come mail new_promise new_message new_lone_message draw opened_values
opened_state = tt
