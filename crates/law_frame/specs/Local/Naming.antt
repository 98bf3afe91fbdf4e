-- What a step tells of the names that come to be known in it, and that its numbers have their names by that.
use Rattle.std.specs.Prelude.{◌≡◌, ℕ, suc, ◌-◌, List, [], ◌∷◌, ◌++◌, ◌⊎◌, Option, Some, None, drop, length, slice_get}
use Rattle.def_machine.specs.Values.{Name, Promise, Gift, host_of, answer_of, Local}
use Rattle.def_machine.specs.State.{Message, Note, Deliver, Open, Ask, SettledTo, Elsewhere, Shorten, Put, GiftEntry, Happened, Sends, Reacts, Vat}
use Rattle.law_fate.specs.Name.Names.{AllOf, IsAmong, HostIsTrue, IsEventual, IsMessageName, names_in}
use Rattle.law_machine.specs.Renamed.Stands.{Table, IsTable, StandsFor}
use Rattle.def_run.specs.Names.{Names, Told, own_mails, names_after}

-- it holds of one of them
abbrev pub SomeOf : {A : Type 0} → (A → Type 0) → List A → Type 0
SomeOf P [] = ⊥
SomeOf P (x ∷ xs) = P x ⊎ SomeOf P xs

-- the message that a line tells of, which may have an answer
unfoldable pub message_of : {N : Type 0} → Happened N → Option (Message N)
message_of (Sends act m) = Some m
message_of (Reacts act x o m) = Some m
message_of e = None

-- ---- what a line, a note and a gift tell is so

-- the answer of a message is where it went first
abbrev pub MessageTells : Option (Message Name) → Type 0
MessageTells None = Unit {0}
MessageTells (Some m) = IsMessageName m.id × ((n : Name) → m.answer ≡ Some n → n ≡ answer_of (host_of n) m.id)

-- what a note to vat w asks for
abbrev pub NoteTells : ℕ → Note Name → Type 0
NoteTells w (Deliver d n verb ys) = IsMessageName d.message × ((x : Name) → d.answer ≡ Some x → x ≡ answer_of w d.message)
NoteTells w (Ask p i n) = n ≡ Gift w i
NoteTells w (Open i n) = Unit {0}
NoteTells w (SettledTo n y) = Unit {0}
NoteTells w (Elsewhere n c) = Unit {0}
NoteTells w (Shorten n c i) = Unit {0}

-- ---- and tells of a name

abbrev pub IsItsAnswer : Name → Option (Message Name) → Type 0
IsItsAnswer n None = ⊥
IsItsAnswer n (Some m) = m.answer ≡ Some n

abbrev pub AsksAs : Name → Note Name → Type 0
AsksAs n (Deliver d x verb ys) = d.answer ≡ Some n
AsksAs n (Ask p i x) = x ≡ n
AsksAs n (Open i x) = ⊥
AsksAs n (SettledTo x y) = ⊥
AsksAs n (Elsewhere x c) = ⊥
AsksAs n (Shorten x c i) = ⊥

-- a promise that vat u made
abbrev pub IsOwnPromise : ℕ → Name → Type 0
IsOwnPromise u n = (i : ℕ) × (n ≡ Promise u i)

-- those of these names that are promises of vat u are its promises from that number on, in order
abbrev pub InOrder : ℕ → ℕ → List Name → Type 0
InOrder u p [] = Unit {0}
InOrder u p (n ∷ ns) = ((n ≡ Promise u p) × InOrder u (suc p) ns) ⊎ ((IsOwnPromise u n → ⊥) × InOrder u p ns)

-- A step of vat u from state s to state r, with what the note that arrived brought, if one did: the messages that it carried, and the names that it told.
pub record Tells (u : ℕ) (s r : Vat Name) (carried came : List Name) : Type 0 where
  pub new : List Name
  pub grows : names_in r.known ≡ names_in s.known ++ new
  pub mails : r.mails ≡ s.mails ++ carried ++ own_mails u s.messages (r.messages - s.messages)
  pub eventual : AllOf IsEventual (names_in r.known)
  pub hosts : AllOf HostIsTrue r.known
  pub lines : AllOf (λ (e : Happened Name). MessageTells (message_of e)) r.happened
  pub notes : AllOf (λ (p : Put Name). NoteTells p.to p.note) r.outbox
  pub gifts : AllOf (λ (g : GiftEntry Name). g.name ≡ Gift u g.number) (drop (length s.gifts) r.gifts)
  -- each new name is a promise of the vat, or a line, a note, a gift that came or the note that arrived tells it
  pub all : AllOf (λ n. IsOwnPromise u n ⊎ (SomeOf (λ (e : Happened Name). IsItsAnswer n (message_of e)) r.happened ⊎ (SomeOf (λ (p : Put Name). AsksAs n p.note) r.outbox ⊎ (SomeOf (λ (g : GiftEntry Name). g.name ≡ n) (drop (length s.gifts) r.gifts) ⊎ IsAmong n came)))) new
  pub order : InOrder u s.promises new

-- ---- in numbers

-- a number has that name, which is no promise of vat u
abbrev pub ToldSo : ℕ → List Name → Told → Type 0
ToldSo u ns t = (slice_get ns t.number ≡ Some t.name) × (IsOwnPromise u t.name → ⊥)

-- What the note brought in numbers is so, and is all that it told.
pub record BroughtSo (u : ℕ) (ns came : List Name) (brought : List Told) : Type 0 where
  pub sound : AllOf (ToldSo u ns) brought
  pub all : (k : ℕ) (n : Name) → slice_get ns k ≡ Some n → IsAmong n came → SomeOf (λ (t : Told). t.number ≡ k) brought

-- Where a step of vat u in names tells so, and state p in numbers stands for what it leaves, the names that numbers have after it are those that the vat knows, in order, and the messages that it has had.
abbrev pub NamesMirror : Type 0
NamesMirror = (u : ℕ) (s r : Vat Name) (q p : Vat Local) (t : Table) (carried came : List Name) (brought : List Told) (names : Names)
    → t.names ≡ names_in r.known → t.mails ≡ r.mails → IsTable u t → StandsFor u t p r → Tells u s r carried came
    → names.known ≡ names_in s.known → names.mails ≡ s.mails → q.promises ≡ s.promises → q.messages ≡ s.messages → length q.gifts ≡ length s.gifts → BroughtSo u (names_in r.known) came brought
    → names_after u names q carried brought p ≡ record { known = names_in r.known; mails = r.mails }

-- opens the definition of this file
unfoldable pub opened_naming : Unit {0}
unfolding message_of
opened_naming = tt
