-- In each run messages are named as such, and names in what is sent and carried are shown apart.
use Rattle.std.proofs.Common.{◌≡◌, ℕ, zero, suc, List, [], ◌∷◌, Some, refl, sym, subst, ◌⊎◌, inl, inr}
use Rattle.std.specs.Prelude.{slice_get}
use Rattle.def_machine.specs.Values.{Name, Root, Object, Promise, Answer, Gift, Sent}
use Rattle.def_machine.specs.State.{Message, Deliver, Took, Sends, Reacts}
use Rattle.def_run.specs.World as world
use Rattle.def_run.specs.World.{Script, Event, Here, Carried, World, Run, Goes, Stopped}
use Rattle.def_run.specs.Shown.{shown_name, shown_gift}
use Rattle.def_run.specs.Text.{history_of, draws_of}
use Rattle.law_fate.specs.Fates.FateRuns.{Reached}
use Rattle.law_fate.specs.Name.Names.{AllOf, IsAmong, IsKnownIn, IsMessageName, names_in}
use Rattle.law_fate.specs.Name.Runs.{KnowsOnce}
use Rattle.law_uses.specs.Connectivity.Known as events
use Rattle.law_uses.specs.Connectivity.Stems.{StemsOrReacts}
use Rattle.law_uses.specs.Connectivity.MessageLaws.{AllStem}
use Rattle.law_uses.proofs.Connectivity.Events.{among_either}
use Rattle.law_uses.specs.ShownApart.ShownApart.{ShownApart}
use Rattle.law_uses.proofs.ShownApart.Ends.{shown_apart}
use Rattle.law_uses.proofs.KnownUses.Moments.{stem_at}
use Rattle.law_uses.proofs.KnownUses.Stood.{Ended, is_run, run_ended}
use Rattle.law_trace.specs.Shown.Shown.{NamesMessage, NameMessages, NamesApart}
use Rattle.law_trace.specs.Told.Told.{MessagesAreNamed, NamesAreShownApart}
use Rattle.law_trace.proofs.Told.Brought.{get_among, stems_sent}
use Rattle.law_trace.proofs.Told.Known.{IsSeen, IsNamedSo, LineWell, line_at, named_seen, came_well, run_well}

-- ---- names

object_or : (ns : List Name) (n : Name) → IsKnownIn ns n → ((u : ℕ) × (i : ℕ) × (n ≡ Object u i)) ⊎ IsAmong n ns
object_or ns (Object u i) h = inl (u, i, refl)
object_or ns other h = inr h

-- no other name is shown as an object is
object_apart : (draws : List ℕ) (u i : ℕ) (n : Name) → shown_name draws (Object u i) ≡ shown_name draws n → Object u i ≡ n
unfolding shown_name shown_gift
object_apart draws u i (Object v j) e = cc
object_apart draws u i (Root v) e = cc
object_apart draws u i (Promise v j) e = cc
object_apart draws u i (Answer h m) e = cc
object_apart draws u i (Gift h j) e = cc
object_apart draws u i (Sent m) e = cc

seen_apart : (x : World) → ShownApart x → (m n : Name) → IsSeen x m → IsSeen x n → shown_name x.drawn m ≡ shown_name x.drawn n → m ≡ n
seen_apart x apart m n (u, s, at, k) (v, t, there, l) e = first (object_or (names_in s.known) m k) (object_or (names_in t.known) n l)
  where
    first : ((u : ℕ) × (i : ℕ) × (m ≡ Object u i)) ⊎ IsAmong m (names_in s.known) → ((u : ℕ) × (i : ℕ) × (n ≡ Object u i)) ⊎ IsAmong n (names_in t.known) → m ≡ n
    first (inl (w, i, q)) other = subst (λ z. z ≡ n) (sym q) (object_apart x.drawn w i n (subst (λ z. shown_name x.drawn z ≡ shown_name x.drawn n) q e))
    first (inr a) (inl (w, i, q)) = subst (λ z. m ≡ z) (sym q) (sym (object_apart x.drawn w i m (sym (subst (λ z. shown_name x.drawn m ≡ shown_name x.drawn z) q e))))
    first (inr a) (inr b) = apart u v s t at there m n a b e

pub names_apart : NamesAreShownApart
unfolding history_of draws_of
names_apart script once follow = by (world.run script) (run_well script once) (shown_apart.1 script once follow)
  where
    by : (r : Run) → Reached (λ w. AllOf (LineWell w) w.history) r → Reached ShownApart r → NamesApart (draws_of r) (history_of r)
    by (Goes w) h apart m n i j e = seen_apart w apart m n (named_seen w m h i) (named_seen w n h j) e
    by (Stopped c k w) h apart m n i j e = seen_apart w apart m n (named_seen w m h i) (named_seen w n h j) e

-- ---- messages

named_line : (e : Event) → IsNamedSo e → ((v a : ℕ) (m : Message Name) → e ≡ Here v (Took a m) → IsMessageName m.id) → NamesMessage e
named_line (Here v (Sends act m)) h taken = h
named_line (Here v (Took act m)) h taken = taken v act m refl
named_line (Carried k u v (Deliver d n verb ys) bytes) h taken = h
named_line other h taken = tt

among_at : (e : Event) (es : List Event) (i : ℕ) → slice_get es i ≡ Some e → events.IsAmong e es
among_at e [] i q = cc
among_at e (x ∷ es) zero q = let same : e ≡ x = cc in inl same
among_at e (x ∷ es) (suc i) q = inr (among_at e es i q)

module _ (script : Script) where
  -- what is taken was sent, or reacts by a line
  taken_named : (w : World) → AllOf (LineWell w) w.history → (v : ℕ) (m : Message Name) → StemsOrReacts w v m → IsMessageName m.id
  taken_named w h v m (inl s) = let sent = stems_sent script w v m s in let line = line_at (LineWell w) w.history sent.0 (Here sent.1 (Sends sent.2 sent.3)) h sent.4 in subst IsMessageName sent.5 line.1
  taken_named w h v m (inr (a, x, o, n, args, answer, told)) = let at = get_among script (Here v (Reacts a x o m)) w.history told in
      let line = line_at (LineWell w) w.history at.0 (Here v (Reacts a x o m)) h at.1 in line.1

  took_named : (once : KnowsOnce script) (x : World) → Ended script x → (v a : ℕ) (m : Message Name) → events.IsAmong (Here v (Took a m)) x.history → IsMessageName m.id
  took_named once x (w, es, c, none, more, few, vats) v a m i = either (among_either (Here v (Took a m)) w.history es (subst (λ all. events.IsAmong (Here v (Took a m)) all) more i))
    where
      either : events.IsAmong (Here v (Took a m)) w.history ⊎ events.IsAmong (Here v (Took a m)) es → IsMessageName m.id
      either (inl j) = let stem : AllStem w = stem_at script w (is_run script w c) in taken_named w (came_well script once w c) v m (stem.taken v a m j)
      either (inr j) = absurd (none v (Took a m) j)

  world_named : (once : KnowsOnce script) (x : World) → Ended script x → AllOf (LineWell x) x.history → NameMessages x.history
  world_named once x end h i e q = let line = line_at (LineWell x) x.history i e h q in
      named_line e line.1 (λ v a m is. took_named once x end v a m (subst (λ z. events.IsAmong z x.history) is (among_at e x.history i q)))

pub messages_named : MessagesAreNamed
unfolding history_of
messages_named script once = by (world.run script) (run_ended script) (run_well script once)
  where
    by : (r : Run) → Reached (Ended script) r → Reached (λ w. AllOf (LineWell w) w.history) r → NameMessages (history_of r)
    by (Goes w) end h = world_named script once w end h
    by (Stopped c k w) end h = world_named script once w end h
