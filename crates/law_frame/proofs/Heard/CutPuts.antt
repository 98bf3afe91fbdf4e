-- What is put on a link is exported as its log tells, be the link cut or not.
use Rattle.std.proofs.Common.{◌≡◌, ℕ, Bool, true, false, List, [], ◌∷◌, ◌++◌, refl, sym, ap, subst, ◌∙◌, ◌⊎◌, inl, inr}
use Rattle.def_machine.specs.Values.{Name}
use Rattle.def_machine.specs.State.{Note, Put}
use Rattle.def_run.specs.Connections as tables
use Rattle.def_run.specs.Connections.{exported_note}
use Rattle.def_run.specs.Wire as conn
use Rattle.def_run.specs.Wire.{Connected, connected_at, with_connected, sight}
use Rattle.def_run.specs.World as world
use Rattle.def_run.specs.World.{Link, with_link, with_notes, pushed, severed_link}
use Rattle.law_fate.specs.Name.Names.{AllOf, IsAmong}
use Rattle.law_reference.specs.Reference.Logs as wire
use Rattle.law_reference.proofs.Reference.LinksCut.{fits_notes, fits_severed}
use Rattle.law_reference.proofs.Reference.AnswerLinks.{AtLink, with_any}
use Rattle.law_frame.specs.Frame.Asked.{told_in}
use Rattle.law_frame.proofs.Frame.Grow.{among_left}
use Rattle.law_frame.proofs.Frame.LinksGo.{with_link_here}
use Rattle.law_frame.proofs.Frame.Places.{same_or, link_other, connected_same, connected_other, connected_ends}
use Rattle.law_frame.proofs.Frame.Written.{pushed_from, pushed_to, wrote_from, wrote_to, received_from, received_to}
use Rattle.law_frame.proofs.Heard.Kept.{Heard, exported_same, exports_more}
use Rattle.law_frame.proofs.Heard.Questions.{pushed_log, pushed_stays}

-- ---- what a connection has read stays as notes are put

wrote_answers : (n : Note Name) (c : Connected) → (let e : Connected = conn.wrote n c in e.tables.answers) ≡ c.tables.answers
unfolding conn.wrote tables.put_on
wrote_answers n c = refl

one_answers : (a b v u : ℕ) (n : Note Name) (cs : List Connected) → (connected_at v u (with_connected (conn.wrote n) a b cs)).tables.answers ≡ (connected_at v u cs).tables.answers
one_answers a b v u n cs = either (same_or a b v u)
  where
    either : ((a ≡ v) × (b ≡ u)) ⊎ (a ≡ v → b ≡ u → ⊥) → (connected_at v u (with_connected (conn.wrote n) a b cs)).tables.answers ≡ (connected_at v u cs).tables.answers
    either (inr o) = ap (λ (c : Connected). c.tables.answers) (connected_other (conn.wrote n) (wrote_from n) (wrote_to n) a b v u cs o)
    either (inl e) = subst (λ (y : ℕ). (connected_at v y (with_connected (conn.wrote n) a b cs)).tables.answers ≡ (connected_at v y cs).tables.answers) e.1 (subst (λ (x : ℕ). (connected_at x b (with_connected (conn.wrote n) a b cs)).tables.answers ≡ (connected_at x b cs).tables.answers) e.0
        (ap (λ (c : Connected). c.tables.answers) (connected_same (conn.wrote n) (wrote_from n) (wrote_to n) a b cs) ∙ wrote_answers n (connected_at a b cs)))

pub puts_answers : (a v u : ℕ) (ps : List (Put Name)) (cs : List Connected) → (connected_at v u (conn.write_all a ps cs)).tables.answers ≡ (connected_at v u cs).tables.answers
unfolding conn.write_all
puts_answers a v u [] cs = refl
puts_answers a v u (p ∷ ps) cs = puts_answers a v u ps (with_connected (conn.wrote p.note) a p.to cs) ∙ one_answers a p.to v u p.note cs

-- ---- exports

-- of the link from v to u, where v was asked for A
abbrev pub AsLogged : List Name → ℕ → ℕ → List Link → List Connected → Type 0
AsLogged A v u ls cs = AtLink v u (λ l. (connected_at v u cs).tables.exports ≡ wire.exports_after v A l.log l.roots) ls

pushed_roots_or : (n : Note Name) (l : Link) (b : Bool) → (let j : Link = elim b [ true ↦ record l { log = l.log ++ n ∷ [] } | false ↦ record l { notes = l.notes ++ n ∷ []; log = l.log ++ n ∷ [] } ] in j.roots) ≡ l.roots
pushed_roots_or n l true = refl
pushed_roots_or n l false = refl

pushed_roots : (n : Note Name) (l : Link) → (let j : Link = pushed n l in j.roots) ≡ l.roots
unfolding pushed
pushed_roots n l = pushed_roots_or n l l.cut

wrote_exports : (v u : ℕ) (n : Note Name) (c : Connected) → c.from ≡ v → c.to ≡ u → (let e : Connected = conn.wrote n c in e.tables.exports) ≡ exported_note (sight v u) c.tables.answers n c.tables.exports
unfolding conn.wrote tables.put_on
wrote_exports v u n c from to = ap (λ (a : ℕ). exported_note (sight a c.to) c.tables.answers n c.tables.exports) from ∙ ap (λ (b : ℕ). exported_note (sight v b) c.tables.answers n c.tables.exports) to

module _ (A : List Name) (v u : ℕ) where
  -- each name of v in a note that is put there was asked for by then, where it is asked for at all
  abbrev pub Fitting : List Name → Note Name → Type 0
  Fitting Q n = (z : Name) → IsAmong z (told_in n) → Heard v u Q A z

  put_here : (n : Note Name) (ls : List Link) (cs : List Connected) → Fitting (connected_at v u cs).tables.answers n → AsLogged A v u ls cs → AsLogged A v u (with_link (pushed n) v u ls) (with_connected (conn.wrote n) v u cs)
  put_here n ls cs fit h l at = let was = with_link_here (pushed n) (pushed_stays n) v u ls l at in let ends = connected_ends v u cs in let c = connected_at v u cs in
      ap (λ (e : Connected). e.tables.exports) (connected_same (conn.wrote n) (wrote_from n) (wrote_to n) v u cs) ∙ wrote_exports v u n c ends.0 ends.1
      ∙ exported_same v u c.tables.answers A n c.tables.exports fit ∙ ap (λ ns. wire.with_note v A n ns) (h was.0 was.1) ∙ sym (exports_more v u A was.0.log n was.0.roots)
      ∙ ap (λ ns. wire.exports_after v A ns was.0.roots) (sym (pushed_log n was.0)) ∙ ap (λ ns. wire.exports_after v A (pushed n was.0).log ns) (sym (pushed_roots n was.0))
      ∙ ap (λ (j : Link). wire.exports_after v A j.log j.roots) (sym was.2)

  put_other : (a b : ℕ) (n : Note Name) (ls : List Link) (cs : List Connected) → (a ≡ v → b ≡ u → ⊥) → AsLogged A v u ls cs → AsLogged A v u (with_link (pushed n) a b ls) (with_connected (conn.wrote n) a b cs)
  put_other a b n ls cs o h l at = ap (λ (c : Connected). c.tables.exports) (connected_other (conn.wrote n) (wrote_from n) (wrote_to n) a b v u cs o) ∙ h l (sym (link_other (pushed n) (pushed_from n) (pushed_to n) a b v u ls o) ∙ at)

  put_logged : (a b : ℕ) (n : Note Name) (ls : List Link) (cs : List Connected) → (a ≡ v → b ≡ u → Fitting (connected_at v u cs).tables.answers n) → AsLogged A v u ls cs → AsLogged A v u (with_link (pushed n) a b ls) (with_connected (conn.wrote n) a b cs)
  put_logged a b n ls cs fit h = either (same_or a b v u)
    where
      either : ((a ≡ v) × (b ≡ u)) ⊎ (a ≡ v → b ≡ u → ⊥) → AsLogged A v u (with_link (pushed n) a b ls) (with_connected (conn.wrote n) a b cs)
      either (inl e) = subst (λ (y : ℕ). AsLogged A v u (with_link (pushed n) a y ls) (with_connected (conn.wrote n) a y cs)) (sym e.1) (subst (λ (x : ℕ). AsLogged A v u (with_link (pushed n) x u ls) (with_connected (conn.wrote n) x u cs)) (sym e.0) (put_here n ls cs (fit e.0 e.1) h))
      either (inr o) = put_other a b n ls cs o h

  pub puts_logged : (Q : List Name) (a : ℕ) (ps : List (Put Name)) (ls : List Link) (cs : List Connected) → (connected_at v u cs).tables.answers ≡ Q → AllOf (λ (p : Put Name). a ≡ v → p.to ≡ u → Fitting Q p.note) ps → AsLogged A v u ls cs → AsLogged A v u (world.push_all a ps ls) (conn.write_all a ps cs)
  unfolding world.push_all conn.write_all
  puts_logged Q a [] ls cs e fit h = h
  puts_logged Q a (p ∷ ps) ls cs e fit h = puts_logged Q a ps (with_link (pushed p.note) a p.to ls) (with_connected (conn.wrote p.note) a p.to cs) (one_answers a p.to v u p.note cs ∙ e) fit.1
      (put_logged a p.to p.note ls cs (λ i j. subst (λ (qs : List Name). Fitting qs p.note) (sym e) (fit.0 i j)) h)

  pub taken_logged : (a b : ℕ) (ns : List (Note Name)) (ls : List Link) (cs : List Connected) → AsLogged A v u ls cs → AsLogged A v u (with_link (with_notes ns) a b ls) cs
  unfolding with_notes
  taken_logged a b ns ls cs h = with_any v u a b (λ l. (connected_at v u cs).tables.exports ≡ wire.exports_after v A l.log l.roots) (with_notes ns) (fits_notes v u ns) ls (λ l e i j. h l e) (λ l e f. h l e)

  pub cut_logged : (a b : ℕ) (ls : List Link) (cs : List Connected) → AsLogged A v u ls cs → AsLogged A v u (with_link severed_link a b ls) cs
  unfolding severed_link
  cut_logged a b ls cs h = with_any v u a b (λ l. (connected_at v u cs).tables.exports ≡ wire.exports_after v A l.log l.roots) severed_link (fits_severed v u) ls (λ l e i j. h l e) (λ l e f. h l e)

  received_exports : (p : Connected) (m : Note Name) (c : Connected) → (let e : Connected = conn.received p m c in e.tables.exports) ≡ c.tables.exports
  unfolding conn.received
  received_exports p m c = refl

  pub read_logged : (a b : ℕ) (p : Connected) (m : Note Name) (ls : List Link) (cs : List Connected) → AsLogged A v u ls cs → AsLogged A v u ls (with_connected (conn.received p m) b a cs)
  read_logged a b p m ls cs h l at = either (same_or b a v u) ∙ h l at
    where
      either : ((b ≡ v) × (a ≡ u)) ⊎ (b ≡ v → a ≡ u → ⊥) → (connected_at v u (with_connected (conn.received p m) b a cs)).tables.exports ≡ (connected_at v u cs).tables.exports
      either (inr n) = ap (λ (c : Connected). c.tables.exports) (connected_other (conn.received p m) (received_from p m) (received_to p m) b a v u cs n)
      either (inl e) = subst (λ (y : ℕ). (connected_at v y (with_connected (conn.received p m) b a cs)).tables.exports ≡ (connected_at v y cs).tables.exports) e.1 (subst (λ (x : ℕ). (connected_at x a (with_connected (conn.received p m) b a cs)).tables.exports ≡ (connected_at x a cs).tables.exports) e.0
          (ap (λ (c : Connected). c.tables.exports) (connected_same (conn.received p m) (received_from p m) (received_to p m) b a cs) ∙ received_exports p m (connected_at b a cs)))

-- ---- what was read is among what is read later

received_answers : (p : Connected) (m : Note Name) (c : Connected) (z : Name) → IsAmong z c.tables.answers → IsAmong z (let e : Connected = conn.received p m c in e.tables.answers)
unfolding conn.received
received_answers p m c z a = among_left z c.tables.answers (tables.asked_in (sight p.from p.to) m) a

pub read_answers : (a b v u : ℕ) (p : Connected) (m : Note Name) (cs : List Connected) (z : Name) → IsAmong z (connected_at v u cs).tables.answers → IsAmong z (connected_at v u (with_connected (conn.received p m) b a cs)).tables.answers
read_answers a b v u p m cs z k = either (same_or b a v u)
  where
    here : IsAmong z (connected_at b a cs).tables.answers → IsAmong z (connected_at b a (with_connected (conn.received p m) b a cs)).tables.answers
    here i = subst (λ (c : Connected). IsAmong z c.tables.answers) (sym (connected_same (conn.received p m) (received_from p m) (received_to p m) b a cs)) (received_answers p m (connected_at b a cs) z i)

    either : ((b ≡ v) × (a ≡ u)) ⊎ (b ≡ v → a ≡ u → ⊥) → IsAmong z (connected_at v u (with_connected (conn.received p m) b a cs)).tables.answers
    either (inr n) = subst (λ (c : Connected). IsAmong z c.tables.answers) (sym (connected_other (conn.received p m) (received_from p m) (received_to p m) b a v u cs n)) k
    either (inl e) = subst (λ (y : ℕ). IsAmong z (connected_at v y (with_connected (conn.received p m) b a cs)).tables.answers) e.1 (subst (λ (x : ℕ). IsAmong z (connected_at x a (with_connected (conn.received p m) b a cs)).tables.answers) e.0
        (here (subst (λ (y : ℕ). IsAmong z (connected_at b y cs).tables.answers) (sym e.1) (subst (λ (x : ℕ). IsAmong z (connected_at x u cs).tables.answers) (sym e.0) k))))
