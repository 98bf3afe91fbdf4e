-- What a vat has for one peer: the four tables by which it reads the notes from there, in numbers of its own.
use Rattle.std.specs.Prelude.{ℕ, zero, suc, ◌-◌, List, [], ◌∷◌, Option, Some, None, length, map}
use Rattle.def_machine.specs.Values.{Name, Root, Object, Promise, Answer, Gift, Sent, Local, Obj, Prom, Far}
use Rattle.def_machine.specs.State.{Note, Vat}
use Rattle.def_machine.specs.Native.{part_of}
use Rattle.law_fate.specs.Name.Names.{names_in}
use Rattle.def_run.specs.World.{Link, World, link_at}
use Rattle.law_reference.specs.Reference.Logs.{rank, log_of, roots_of, questions_in, exports_after, questions, exports}

pub record Tables : Type 0 where
  -- by position: what the peer exported to this vat, as far as it has arrived, and what this vat exported to the peer
  pub imports : List Local
  pub exports : List Local
  -- by number of question: the answers for which this vat asked the peer, and those for which the peer asked it, as far as its notes have arrived
  pub questions : List Local
  pub answers : List Local

-- the number of a name that the vat knows
unfoldable pub known_number : List Name → Name → Local
known_number ks n = Prom (rank ks n)

-- an object of this vat has a number of its own
unfoldable pub own_number : List Name → Name → Local
own_number ks (Object v i) = Obj i
own_number ks (Root v) = known_number ks (Root v)
own_number ks (Promise v i) = known_number ks (Promise v i)
own_number ks (Answer h m) = known_number ks (Answer h m)
own_number ks (Gift h i) = known_number ks (Gift h i)
own_number ks (Sent m) = known_number ks (Sent m)

-- an object of the peer has its position, and all else that it exported is known
unfoldable pub import_number : ℕ → List Name → ℕ → Name → Local
import_number peer ks p (Object v i) = Far peer p
import_number peer ks p (Root v) = known_number ks (Root v)
import_number peer ks p (Promise v i) = known_number ks (Promise v i)
import_number peer ks p (Answer h m) = known_number ks (Answer h m)
import_number peer ks p (Gift h i) = known_number ks (Gift h i)
import_number peer ks p (Sent m) = known_number ks (Sent m)

unfoldable pub import_numbers : ℕ → List Name → ℕ → List Name → List Local
import_numbers peer ks p [] = []
import_numbers peer ks p (n ∷ ns) = import_number peer ks p n ∷ import_numbers peer ks (suc p) ns

unfoldable pub waiting_on : Option Link → List (Note Name)
waiting_on (Some l) = l.notes
waiting_on None = []

-- the notes of an uncut link that have arrived: all that were put, but those that are under way
unfoldable pub arrived : Option Link → List (Note Name)
arrived o = part_of zero (length (log_of o) - length (waiting_on o)) (log_of o)

-- the tables of vat u for the peer v
unfoldable pub tables_of : World → ℕ → Vat Name → ℕ → Tables
tables_of w u s v = record {
  imports = import_numbers v (names_in s.known) zero (exports_after v (questions (λ i. i) w.links u v) (arrived (link_at v u w.links)) (roots_of (link_at v u w.links)));
  exports = map (own_number (names_in s.known)) (exports (λ i. i) w.links u v);
  questions = map (known_number (names_in s.known)) (questions (λ i. i) w.links u v);
  answers = map (known_number (names_in s.known)) (questions_in u (arrived (link_at v u w.links)));
}

-- opens the definitions of this file
unfoldable pub opened_tables : Unit {0}
unfolding known_number own_number import_number import_numbers waiting_on arrived tables_of
opened_tables = tt
