-- What the numbers of a vat stand for, by what its steps tell.
use Rattle.std.specs.Prelude.{ℕ, zero, suc, ◌-◌, true, false, List, [], ◌∷◌, ◌++◌, Option, Some, None, length, slice_get, unwrap_or, flat_map, drop, ◌==◌}
use Rattle.def_machine.specs.Values.{Name, Root, Object, Promise, Gift, Sent, answer_of, Local, Obj, Prom, Far, Mess}
use Rattle.def_machine.specs.State.{Known, Note, Deliver, Open, Ask, SettledTo, Elsewhere, Shorten, Put, GiftEntry, Happened, Sends, Reacts, Vat}

-- the names that a vat knows and the messages that it has had, by number
pub record Names : Type 0 where
  pub known : List Name
  pub mails : List Name

-- a number that a step tells of, and its name
pub record Told : Type 0 where
  pub number : ℕ
  pub name : Name

unfoldable pub told_at : ℕ → List Told → Option Name
told_at k [] = None
told_at k (t ∷ ts) = elim (t.number == k) [ true ↦ Some t.name | false ↦ told_at k ts ]

-- what the machine says of a promise
unfoldable pub of_promise : Local → Name → List Told
of_promise (Prom k) n = record { number = k; name = n } ∷ []
of_promise (Obj i) n = []
of_promise (Far h p) n = []
of_promise (Mess j) n = []

unfoldable pub of_answer : Option Local → Name → List Told
of_answer (Some a) n = of_promise a n
of_answer None n = []

-- ---- messages: one that arrives, and then the vat's own, in order

unfoldable pub own_mails : ℕ → ℕ → ℕ → List Name
own_mails u j zero = []
own_mails u j (suc n) = Sent (record { sender = u; number = j }) ∷ own_mails u (suc j) n

unfoldable pub mail_at : List Name → Local → Name
mail_at ms (Mess j) = unwrap_or (slice_get ms j) (Root zero)
mail_at ms (Obj i) = Root zero
mail_at ms (Prom k) = Root zero
mail_at ms (Far h p) = Root zero

-- ---- what a step of vat u tells

unfoldable pub host_among : List (Known Local) → Local → ℕ
host_among ks (Prom k) = elim (slice_get ks k) [ Some e ↦ e.host | None ↦ zero ]
host_among ks (Obj i) = zero
host_among ks (Far h p) = zero
host_among ks (Mess j) = zero

module _ (u : ℕ) (ks : List (Known Local)) (ms : List Name) where
  -- the answer of a message of the vat's own is where the message went first
  unfoldable pub told_by_answer : Local → Option Local → List Told
  told_by_answer m None = []
  told_by_answer m (Some a) = of_promise a (answer_of (host_among ks a) (mail_at ms m))

  unfoldable pub told_by_line : Happened Local → List Told
  told_by_line (Sends act m) = told_by_answer m.id m.answer
  told_by_line (Reacts act x o m) = told_by_answer m.id m.answer
  told_by_line e = []

  -- a note that asks says what the vat calls that
  unfoldable pub told_by_note : ℕ → Note Local → List Told
  told_by_note to (Deliver d n verb ys) = of_answer d.answer (answer_of to (mail_at ms d.message))
  told_by_note to (Ask p i n) = of_promise n (Gift to i)
  told_by_note to (Open i n) = []
  told_by_note to (SettledTo n y) = []
  told_by_note to (Elsewhere n c) = []
  told_by_note to (Shorten n c i) = []

  unfoldable pub told_by_put : Put Local → List Told
  told_by_put p = told_by_note p.to p.note

  -- a gift that the vat hosts
  unfoldable pub told_by_gift : GiftEntry Local → List Told
  told_by_gift g = of_promise g.name (Gift u g.number)

-- what is told in a step that found the vat with so many gifts and left it so, beside what a note brought
unfoldable pub told_in_step : ℕ → ℕ → List Name → Vat Local → List Told
told_in_step u gifts ms s = flat_map (told_by_line u s.known ms) s.happened ++ flat_map (told_by_put u s.known ms) s.outbox ++ flat_map (told_by_gift u s.known ms) (drop gifts s.gifts)

-- so many names from number k on; what nothing tells is the next promise that the vat made
unfoldable pub named_from : ℕ → List Told → ℕ → ℕ → ℕ → List Name
named_from u ts k p zero = []
named_from u ts k p (suc n) = elim (told_at k ts) [ Some x ↦ x ∷ named_from u ts (suc k) p n | None ↦ Promise u p ∷ named_from u ts (suc k) (suc p) n ]

-- The names of vat u after a step that found it with these names, so many promises and so many messages of its own, and left it so;
-- a note brought that message, if one, and told those numbers.
unfoldable pub names_after : ℕ → Names → Vat Local → List Name → List Told → Vat Local → Names
names_after u t before carried brought s =
    let ms : List Name = t.mails ++ carried ++ own_mails u before.messages (s.messages - before.messages) in
    record {
      known = t.known ++ named_from u (brought ++ told_in_step u (length before.gifts) ms s) (length t.known) before.promises (length s.known - length t.known);
      mails = ms;
    }

-- ---- the name of a number

-- at vat u, where an object of vat h at position p is that; a message that is not there, of which no line tells, is called as one of the vat's own
unfoldable pub name_by : ℕ → (ℕ → ℕ → Name) → Names → Local → Name
name_by u far t (Obj i) = Object u i
name_by u far t (Prom k) = unwrap_or (slice_get t.known k) (Root u)
name_by u far t (Far h p) = far h p
name_by u far t (Mess j) = unwrap_or (slice_get t.mails j) (Sent (record { sender = u; number = j }))

-- opens each definition of this file
unfoldable pub opened_names : Unit {0}
unfolding told_at of_promise of_answer own_mails mail_at host_among told_by_answer told_by_line told_by_note told_by_put told_by_gift told_in_step named_from names_after name_by
opened_names = tt
