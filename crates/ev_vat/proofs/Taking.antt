-- What is had for a peer once what its frame brought was taken in.
use Rattle.std.proofs.Common.{◌≡◌, inl, inr, ℕ, Bool, true, false, List, [], ◌∷◌, ◌++◌, map, drop, length, Option, Some, None, refl, sym, ap, subst, ◌∙◌, append-nil}
use Rattle.std.specs.Prelude.{option_map, slice_set}
use Rattle.std.proofs.lemmas.List.{map-append}
use Rattle.std.proofs.Math.Seq.{drop-append_seam}
use Rattle.ev_base.specs.declared.values.Value.{Value}
use Rattle.def_run.specs.Vats.{asked_by, gift_name}
use Rattle.def_machine.specs.Arrive.{gift_at}
use Rattle.def_machine.specs.State as machine
use Rattle.def_machine.specs.State.{GiftEntry}
use Rattle.def_machine.specs.Values.{Words, Local, Prom, key}
use Rattle.def_run.specs.Connections.{Connection}
use Rattle.ev_arrive.proofs.Gifting.{Alike, alike}
use Rattle.ev_arrive.specs.Reading.{gift_by}
use Rattle.ev_arrive.specs.declared.host.Host.{Host}
use Rattle.ev_intro.specs.Gift.{find}
use Rattle.ev_vat.specs.Hearing.{AllOwn, answer_of, answered_if, asked_of, taken}
use Rattle.ev_tables.proofs.Kept.{answering}
use Rattle.ev_tables.specs.Standing.{AreReferences, IsKept, connection_of, is_own, local_of}
use Rattle.ev_wire.proofs.TakenIn.{takes_in}
use Rattle.ev_wire.specs.HearingStatements.{AllOthers}
use Rattle.ev_wire.specs.Taking.{imported_all}
use Rattle.ev_wire.specs.declared.news.News.{News}
use Rattle.ev_arrive.specs.Hearing.{Name, heard_by}
use Rattle.ev_arrive.specs.declared.brought.Heard.{Heard as Noted}
use Rattle.ev_arrive.specs.declared.brought.Heard.TheVariants.{Deliver, Open, Ask, Settled, Elsewhere, Shorten}
use Rattle.ev_refs.specs.References.{References}
use Rattle.ev_tables.specs.Table.{Table, imported}
use Rattle.ev_wire.specs.Writing.{is_mine}
use Rattle.ev_wire.proofs.Lists.{at_set}
use Rattle.ev_wire.proofs.PeerSights.{own_is}
use Rattle.ev_wire.specs.Standing.{AreFor, HasReferences, IsFor}

-- ---- answers

abbrev pub answers_in : Option ℕ → List ℕ
answers_in (Some n) = n ∷ []
answers_in None = []

gift_answers : (o : Option (ℕ × Bool)) (g : Option (GiftEntry Local)) → Alike o g → map Prom (answers_in (option_map (λ (x : ℕ × Bool). x.0) o)) ≡ gift_name g
unfolding gift_name
gift_answers (Some x) (Some g) like = ap (λ (n : Local). n ∷ []) (sym like.0)
gift_answers None None like = refl
gift_answers (Some x) None like = absurd like
gift_answers None (Some g) like = absurd like

-- what a note asked for
pub answers_are : (ts : List Words) (n : Local) (x : Name) (c v : ℕ) (note : Noted) (known : ℕ) (h : Host) (s : machine.Vat Local) → s.gifts ≡ map gift_by h.gifts
    → map Prom (answers_in (answer_of (asked_of note) known h)) ≡ asked_by known s (heard_by ts n x c v note)
unfolding asked_by
answers_are ts n x c v (Deliver m true y verb args) known h s e = refl
answers_are ts n x c v (Deliver m false y verb args) known h s e = refl
answers_are ts n x c v (Ask p w) known h s e =
    gift_answers (find p w h.gifts) (gift_at p (key p w) (map gift_by h.gifts)) (alike p w h.gifts)
    ∙ ap (λ (gs : List (GiftEntry Local)). gift_name (gift_at p (key p w) gs)) (sym e)
answers_are ts n x c v (Open w y) known h s e = refl
answers_are ts n x c v (Settled y z) known h s e = refl
answers_are ts n x c v (Elsewhere y d) known h s e = refl
answers_are ts n x c v (Shorten y z) known h s e = refl

-- ---- one connection

answered_connection : (o : Option ℕ) (t : Table) → connection_of (answered_if o t) ≡ record (connection_of t) { answers = map Prom t.answers ++ map Prom (answers_in o) }
answered_connection None t = ap (λ (ns : List Local). record (connection_of t) { answers = ns }) (sym (append-nil (map Prom t.answers)))
answered_connection (Some n) t = ap (λ (ns : List Local). record (connection_of t) { answers = ns }) (map-append Prom t.answers (n ∷ []))

pub taken_connection : (news : News) (o : Option ℕ) (t : Table)
    → connection_of (taken news o t) ≡ record (connection_of t) { imports = map local_of (t.imports ++ news.imports); answers = map Prom t.answers ++ map Prom (answers_in o) }
taken_connection news o t =
    answered_connection o (imported_all news.imports t)
    ∙ ap (λ (c : Connection Local). record c { answers = c.answers ++ map Prom (answers_in o) }) (takes_in (λ k. true) news.imports t).0

imported_beside : (vs : List Value) (t : Table) → ((imported_all vs t).peer ≡ t.peer) × ((imported_all vs t).is_closed ≡ t.is_closed)
unfolding imported_all
imported_beside [] t = (refl, refl)
imported_beside (v ∷ vs) t = imported_beside vs (imported v t)

answered_beside : (o : Option ℕ) (t : Table) → ((answered_if o t).peer ≡ t.peer) × ((answered_if o t).is_closed ≡ t.is_closed)
answered_beside None t = (refl, refl)
answered_beside (Some n) t = (refl, refl)

-- what came to stand at positions
pub new_imports : (t : Table) (vs : List Value) → drop (length (connection_of t).imports) (map local_of (t.imports ++ vs)) ≡ map local_of vs
new_imports t vs = ap (drop (length (map local_of t.imports))) (map-append local_of t.imports vs) ∙ drop-append_seam (map local_of t.imports) (map local_of vs)

module _ (ts : List Words) (r : References) (s : machine.Vat Local) (references : HasReferences ts r s) where
  all_others : (vs : List Value) → AreReferences vs → AllOwn false s (map local_of vs) → AllOthers (is_mine r) vs
  all_others [] are own = tt
  all_others (v ∷ vs) are own = (are.0, sym (own_is ts r s references (local_of v)) ∙ own.0, all_others vs are.1 own.1)

  answered_kept : (o : Option ℕ) (t : Table) → AllOwn true s (map Prom (answers_in o)) → IsKept (is_mine r) t → IsKept (is_mine r) (answered_if o t)
  unfolding is_own
  answered_kept None t own k = k
  answered_kept (Some n) t own k = answering (is_mine r) n t (sym (own_is ts r s references (Prom n)) ∙ own.0) k

  pub taken_for : (v : ℕ) (t : Table) (news : News) (o : Option ℕ) → IsFor r v t → AreReferences news.imports → AllOwn false s (map local_of news.imports) → AllOwn true s (map Prom (answers_in o)) → IsFor r v (taken news o t)
  taken_for v t news o is are others own =
      let u = imported_all news.imports t in
      record {
        peer = (answered_beside o u).0 ∙ (imported_beside news.imports t).0 ∙ is.peer;
        is_open = (answered_beside o u).1 ∙ (imported_beside news.imports t).1 ∙ is.is_open;
        kept = answered_kept o u own ((takes_in (is_mine r) news.imports t).1 (all_others news.imports are others) is.kept);
      }

-- ---- all connections

pub set_for : (r : References) (ts : List Table) (v : ℕ) (t : Table) → AreFor r ts → IsFor r v t → AreFor r (slice_set ts v t)
set_for r ts v t all is = λ u x at. elim (at_set ts v u t x at) as (λ _. IsFor r u x) [
  | inl e ↦ subst (λ (y : Table). IsFor r u y) (sym e.1) (subst (λ (k : ℕ). IsFor r k t) (sym e.0) is)
  | inr e ↦ all u x e
]
