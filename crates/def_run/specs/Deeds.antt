-- What the record of a hostile vat does, so as to have names for what it says, and what it does with a note that comes.
use Rattle.std.specs.Prelude.{ℕ, zero, Bool, true, false, List, [], ◌∷◌}
use Rattle.def_machine.specs.Values.{Name, host_of, answer_of}
use Rattle.def_machine.specs.State.{Made, Note, Deliver, Act, ◌>>=◌, ◌>>◌, give, new_thing, new_promise, new_message, new_lone_message}
use Rattle.def_machine.specs.Arrive.{New, learn_name, learn_message}
use Rattle.def_run.specs.World.{Script, names, names_of, read_name}
use Rattle.def_run.specs.World.{opened_world}

pub data Deed : Type 0 where
  NewObject : Deed
  NewPromise : Deed
  -- a message, with its answer at that host
  NewMessage : ℕ → Deed
  -- a message without an answer
  NewLone : Deed
  -- a name of which it was told
  Learns : Name → Deed

module _ (script : Script) where
  unfoldable pub perform : ℕ → Deed → Act Name (Unit {0})
  perform v NewObject = new_thing (Made zero [] []) >> give tt
  perform v NewPromise = new_promise (names script v) >> give tt
  perform v (NewMessage h) = new_message (names script v) h >> give tt
  perform v NewLone = new_lone_message (names script v) >> give tt
  perform v (Learns n) = λ s. (learn_name (names script v) (read_name (names_of s) n) >> give tt) s

  -- one after another
  unfoldable pub perform_all : ℕ → List Deed → Act Name (Unit {0})
  perform_all v [] = give tt
  perform_all v (d ∷ ds) = perform v d >> perform_all v ds

  -- a message comes, and its answer where it asks for one, which may be known: frames of this vat may have named it
  unfoldable pub hear_message : ℕ → Name → Bool → Act Name (Unit {0})
  hear_message v m true = learn_message (names script v) (New m (host_of m)) >>= (λ id. perform v (Learns (answer_of v id)))
  hear_message v m false = learn_message (names script v) (New m (host_of m)) >> give tt

  -- a note comes to a hostile vat, which hosts the answer of a message that comes and asks for one
  unfoldable pub hear : ℕ → Note Name → Act Name (Unit {0})
  hear v (Deliver d x verb ys) = hear_message v d.message d.asks
  hear v _ = give tt

-- opens each definition of this file, and of those below
unfoldable pub opened_deeds : Unit {0}
unfolding perform perform_all hear_message hear opened_world
opened_deeds = tt
