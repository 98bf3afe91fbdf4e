-- A step that no note brought.
use Rattle.std.proofs.Common.{◌≡◌, ℕ, zero, suc, List, [], ◌∷◌, ◌++◌, Some, refl, ap, ◌∙◌, length, map, append_assoc}
use Rattle.std.specs.Prelude.{slice_get}
use Rattle.std.proofs.lemmas.Option.{slice_get_within}
use Rattle.def_machine.specs.Values.{Name, Local}
use Rattle.def_machine.specs.State.{Vat}
use Rattle.def_run.specs.Wire.{connected_at}
use Rattle.def_run.specs.World.{Event, World, readied}
use Rattle.law_fate.specs.Name.Names.{names_in}
use Rattle.def_machine.specs.Maps as maps
use Rattle.law_machine.specs.Renamed.Stands.{Table, Found, Is, found}
use Rattle.law_machine.proofs.Renamed.Stands.{Extends}
use Rattle.law_reference.specs.Reference.Tables.{table_of}
use Rattle.def_run.specs.Vats.{Member, connection_for}
use Rattle.def_run.specs.Numbers.{Vats, ready, nothing_brought}
use Rattle.law_frame.specs.Frame.Exports.{KeepsPositions}
use Rattle.law_frame.specs.Local.Mirrors.{Mirrors, VatMirrors}
use Rattle.law_frame.specs.Local.Naming.{Tells}
use Rattle.law_frame.specs.Local.Steps.{world_left, StepStands, OwnStepStands, OwnStepsMirror}
use Rattle.law_frame.proofs.Local.Naming.{names_mirror}
use Rattle.law_frame.proofs.Local.Steps.{put_there, steps_mirror, tables_still, learnt_still}

pub front : (xs ys : List Name) (k : ℕ) (n : Name) → slice_get xs k ≡ Some n → slice_get (xs ++ ys) k ≡ Some n
front [] ys k n e = cc
front (x ∷ xs) ys zero n e = e
front (x ∷ xs) ys (suc k) n e = front xs ys k n e

pub mapped_length : {A B C : Type 0} (g : A → C) (h : B → C) (xs : List A) (ys : List B) → map g xs ≡ map h ys → length xs ≡ length ys
mapped_length g h [] [] e = refl
mapped_length g h (x ∷ xs) (y ∷ ys) e = let i : map g xs ≡ map h ys = cc in ap suc (mapped_length g h xs ys i)
mapped_length g h [] (y ∷ ys) e = cc
mapped_length g h (x ∷ xs) [] e = cc

-- the table after it goes on from that before
pub table_goes_on : (x : World) (u : ℕ) (s r : Vat Name) (head : List Event) → Tells u s r [] [] → ((v : ℕ) → KeepsPositions x (world_left x u r head x.connections) v) → Extends (table_of x u s) (table_of (world_left x u r head x.connections) u r)
unfolding table_of
table_goes_on x u s r head tells keeps = record {
  names = λ k n e. ap (λ xs. slice_get xs k) tells.grows ∙ front (names_in s.known) tells.new k n e;
  mails = λ k n e. ap (λ xs. slice_get xs k) (tells.mails ∙ append_assoc s.mails [] _) ∙ front s.mails _ k n e;
  exports = keeps u;
}

module _ (x : World) (X : Vats) (u : ℕ) (s : Vat Name) (m : Member) (r : Vat Name) (p : Vat Local) (head : List Event) (h : Mirrors x X) (so : OwnStepStands x X u s m r p head) where
  abbrev y : World
  y = world_left x u r head x.connections

  abbrev T : Table
  T = table_of y u r

  was : VatMirrors x X u s m
  was = h.vats u s m so.at so.there

  more : Extends (table_of x u s) T
  more = table_goes_on x u s r head so.tells so.keeps

  promises_same : m.vat.promises ≡ s.promises
  unfolding ready readied
  promises_same = ap (λ (z : Vat Found). z.promises) was.stands

  messages_same : m.vat.messages ≡ s.messages
  unfolding ready readied
  messages_same = ap (λ (z : Vat Found). z.messages) was.stands

  gifts_same : length m.vat.gifts ≡ length s.gifts
  unfolding ready readied
  gifts_same = mapped_length (maps.gift (found u (table_of x u s))) (maps.gift Is) m.vat.gifts s.gifts (ap (λ (z : Vat Found). z.gifts) was.stands)

  names_so : T.names ≡ names_in r.known
  unfolding table_of
  names_so = refl

  mails_so : T.mails ≡ r.mails
  unfolding table_of
  mails_so = refl

  at_end : slice_get y.vats u ≡ Some r
  at_end = put_there x.vats u r (slice_get_within x.vats u s so.at)

  step_stands : StepStands x X u m (nothing_brought m) r p head x.connections
  unfolding nothing_brought connection_for
  step_stands = record {
    history = h.history;
    count = h.count;
    ways = h.ways;
    due = λ a b w e. let n = h.ends a b w e in (n.0, n.1, h.frames a b w e);
    others = λ v t k n e i. h.vats v t k e i;
    references = h.references;
    unheard = λ v z n. refl;
    here = slice_get_within X.members u m so.there;
    tables = so.tables;
    stands = so.stands;
    puts = so.puts;
    named = names_mirror u s r m.vat p T [] [] [] m.names names_so mails_so (so.tables u r at_end) so.stands so.tells was.known was.mails promises_same messages_same gifts_same (record { sound = tt; all = λ k n e i. absurd i });
    peers = was.peers;
    connections = λ v i. tables_still u (table_of x u s) T more (connection_for v m) (connected_at u v x.connections).tables (was.connections v i);
    learnt = learnt_still u (table_of x u s) T more m.learnt was.learnt;
    keeps = so.keeps;
    hosts = so.hosts;
    logged = so.logged;
  }

pub own_steps_mirror : OwnStepsMirror
own_steps_mirror x X u s m r p head h so = steps_mirror x X u m (nothing_brought m) r p head x.connections (step_stands x X u s m r p head h so)
