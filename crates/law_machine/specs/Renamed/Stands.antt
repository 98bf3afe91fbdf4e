-- What the numbers of a vat stand for.
use Rattle.std.specs.Prelude.{◌≡◌, ℕ, Bool, false, List, Option, Some, None, slice_get, ◌==◌, ◌&&◌}
use Rattle.def_machine.specs.Values.{Name, Root, Object, Promise, Gift, Sent, Msg, same_reference, Spot, Foreign, NoObject, spot_of, Naming, Coming, IsRoot, IsOwn, IsAnswer, IsGift, IsLearnt, answer_of, Local, Obj, Prom, Far, Mess, mail_of, local_spot, same_local}
use Rattle.def_machine.specs.State.{Vat}
use Rattle.def_machine.specs.Maps as maps

-- The tables by which the numbers of a vat are read: the names that it knows, in the order in which it came to know them,
-- and the number of the object that a host exported to it at a position.
pub record Table : Type 0 where
  pub names : List Name
  pub mails : List Name
  pub exports : ℕ → ℕ → Option ℕ

-- what a table has for a number: its name, or nothing
pub data Found : Type 0 where
  Is : Name → Found
  Nothing : Local → Found

unfoldable pub prom_found : ℕ → Option Name → Found
prom_found k (Some n) = Is n
prom_found k None = Nothing (Prom k)

unfoldable pub mess_found : ℕ → Option Name → Found
mess_found k (Some n) = Is n
mess_found k None = Nothing (Mess k)

unfoldable pub far_found : ℕ → ℕ → Option ℕ → Found
far_found h p (Some j) = Is (Object h j)
far_found h p None = Nothing (Far h p)

unfoldable pub found : ℕ → Table → Local → Found
found v t (Obj i) = Is (Object v i)
found v t (Prom k) = prom_found k (slice_get t.names k)
found v t (Mess k) = mess_found k (slice_get t.mails k)
found v t (Far h p) = far_found h p (t.exports h p)

-- The state of vat v under its own numbers stands for that under names: each number is in the table, and its name stands in its place.
abbrev pub StandsFor : ℕ → Table → Vat Local → Vat Name → Type 0
StandsFor v t s u = maps.vat (found v t) s ≡ maps.vat Is u

-- the names as those that are found have them
unfoldable pub found_spot : ℕ → Found → Spot
found_spot v (Is n) = spot_of v n
found_spot v (Nothing a) = local_spot a

unfoldable pub found_same : Found → Found → Bool
found_same (Is a) (Is b) = same_reference a b
found_same (Nothing a) (Nothing b) = same_local a b
found_same _ _ = false

unfoldable pub found_answer : ℕ → Found → Found
found_answer h (Is m) = Is (answer_of h m)
found_answer h (Nothing a) = Nothing a

unfoldable pub found_name : ℕ → Coming Found Name → Found
found_name v (IsRoot w) = Is (Root w)
found_name v (IsOwn i) = Is (Promise v i)
found_name v (IsAnswer h m) = found_answer h m
found_name v (IsGift h i) = Is (Gift h i)
found_name v (IsLearnt n) = Is n

unfoldable pub finding : (ℕ → ℕ) → ℕ → Naming Found Name
finding word v = record { object = λ i. Is (Object v i); made = λ c k. found_name v c; mailed = λ c k. Is (mail_of v c); spot = found_spot v; same = found_same; word = word }

-- A table by which no two numbers stand for one name, and no two positions of another vat's exports for one of its objects. A message may have two numbers:
-- one where it was sent, and one where it came back to its sender.
pub record IsTable (v : ℕ) (t : Table) : Type 0 where
  pub promises : (k : ℕ) (n : Name) → slice_get t.names k ≡ Some n → spot_of v n ≡ NoObject
  pub distinct : (i j : ℕ) (a b : Name) → slice_get t.names i ≡ Some a → slice_get t.names j ≡ Some b → same_reference a b ≡ (i == j)
  pub messages : (k : ℕ) (n : Name) → slice_get t.mails k ≡ Some n → (m : Msg) × (n ≡ Sent m)
  pub abroad : (h p j : ℕ) → t.exports h p ≡ Some j → spot_of v (Object h j) ≡ Foreign h
  pub exports_distinct : (h p g q i j : ℕ) → t.exports h p ≡ Some i → t.exports g q ≡ Some j → same_reference (Object h i) (Object g j) ≡ ((h == g) && (p == q))
