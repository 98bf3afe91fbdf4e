-- A vat knows a name of another only where it asked for it or was told it.
use Rattle.std.proofs.Common.{◌≡◌, ℕ, Bool, true, false, List, [], ◌∷◌, Option, Some, refl, sym, ap, ◌∙◌, ◌⊎◌, inl, inr}
use Rattle.def_machine.specs.Values.{answer_of, Name, host_of}
use Rattle.def_machine.specs.State.{Note, Deliver, Open, Ask, SettledTo, Elsewhere, Shorten}
use Rattle.def_run.specs.World.{Link, World, link_at, has_name}
use Rattle.law_reference.specs.Reference.Logs as wire
use Rattle.law_fate.specs.Name.Names.{IsAmong}
use Rattle.law_fate.proofs.Name.SameNames.{has_among}
use Rattle.law_reference.proofs.Reference.NoticedRuns.{noticed_links_cut}
use Rattle.law_frame.proofs.Frame.Questions.{asked_first, asked_rest}
use Rattle.law_frame.specs.Frame.Asked.{AsksOf}
use Rattle.law_frame.specs.Frame.Tables.{arrived}
use Rattle.law_frame.specs.Frame.Sources.{NamesComeFromTheirHosts}
use Rattle.law_frame.proofs.Frame.Exported.{exports_in}
use Rattle.law_frame.proofs.Frame.Sources.{AskedOn, ToldOn, Source}
use Rattle.law_frame.proofs.Frame.WireRuns.{stepped_both}

true_false : (b : Bool) → b ≡ true → b ≡ false → ⊥
true_false b e f = cc

-- what a note asks for is among the questions
pub asks_in : (to : ℕ) (n : Name) (log : List (Note Name)) (x : Note Name) → IsAmong x log → AsksOf to x n → IsAmong n (wire.questions_in to log)
unfolding wire.questions_in
asks_in to n [] x a k = absurd a
asks_in to n (Deliver d t verb ys ∷ log) x (inl e) k = let same : AsksOf to (Deliver d t verb ys) n = rw e at k in asked_first d.asks (answer_of to d.message) n (wire.questions_in to log) same.0 (sym same.1)
asks_in to n (Deliver d t verb ys ∷ log) x (inr a) k = asked_rest d.asks (answer_of to d.message) n (wire.questions_in to log) (asks_in to n log x a k)
asks_in to n (Ask p i t ∷ log) x (inl e) k = let same : AsksOf to (Ask p i t) n = rw e at k in inl (sym same)
asks_in to n (Ask p i t ∷ log) x (inr a) k = inr (asks_in to n log x a k)
asks_in to n (Open i t ∷ log) x (inl e) k = let same : AsksOf to (Open i t) n = rw e at k in absurd same
asks_in to n (Open i t ∷ log) x (inr a) k = asks_in to n log x a k
asks_in to n (SettledTo t y ∷ log) x (inl e) k = let same : AsksOf to (SettledTo t y) n = rw e at k in absurd same
asks_in to n (SettledTo t y ∷ log) x (inr a) k = asks_in to n log x a k
asks_in to n (Elsewhere t c ∷ log) x (inl e) k = let same : AsksOf to (Elsewhere t c) n = rw e at k in absurd same
asks_in to n (Elsewhere t c ∷ log) x (inr a) k = asks_in to n log x a k
asks_in to n (Shorten t c i ∷ log) x (inl e) k = let same : AsksOf to (Shorten t c i) n = rw e at k in absurd same
asks_in to n (Shorten t c i ∷ log) x (inr a) k = asks_in to n log x a k

pub log_is : (m : Link) (o : Option Link) → o ≡ Some m → wire.log_of o ≡ m.log
unfolding wire.log_of
log_is m o e = rw (e, wire.log_of) refl

module _ (w : World) (u v : ℕ) (m l : Link) (n : Name) (at : link_at u v w.links ≡ Some m) (host : host_of n ≡ v) where
  abbrev Asked : List Name
  Asked = wire.questions (λ i. i) w.links u v

  from_asked : AskedOn m n → IsAmong n Asked
  unfolding wire.questions
  from_asked a = let k : AsksOf v a.0 n = rw host at a.2 in rw (ap (wire.questions_in v) (sym (log_is m (link_at u v w.links) at))) at (asks_in v n m.log a.0 a.1 k)

  from_told : l.cut ≡ false → ToldOn l n → (b : Bool) → has_name Asked n ≡ b → IsAmong n Asked ⊎ IsAmong n (wire.exports_after v Asked (arrived (Some l)) l.roots)
  from_told c t true e = inl (has_among Asked n e)
  from_told c (inl a) false e = inr (exports_in v Asked n host e (arrived (Some l)) l.roots (inl a))
  from_told c (inr t) false e = inr (exports_in v Asked n host e (arrived (Some l)) l.roots (inr (t.0, t.2 c, t.3)))

  from_either : l.cut ≡ false → AskedOn m n ⊎ ToldOn l n → IsAmong n Asked ⊎ IsAmong n (wire.exports_after v Asked (arrived (Some l)) l.roots)
  from_either c (inl a) = inl (from_asked a)
  from_either c (inr t) = from_told c t (has_name Asked n) refl

pub names_from_hosts : NamesComeFromTheirHosts
names_from_hosts script once w x es k follow opened stepped u v s there other l at cut n known host =
    let both = stepped_both script once w x es k opened stepped in let wires = both.1 in let back = wires.paired v u (l, at) in either back.0 back.1 (wires.sources u s there n known)
  where
    either : (m : Link) → link_at u v x.links ≡ Some m → Source x.links u s n → IsAmong n (wire.questions (λ i. i) x.links u v) ⊎ IsAmong n (wire.exports_after v (wire.questions (λ i. i) x.links u v) (arrived (Some l)) l.roots)
    either m back (inl e) = absurd (other (sym host ∙ e))
    either m back (inr (inl e)) = let severed = noticed_links_cut script once w x es k follow opened stepped u s there v (rw host at e) in absurd (true_false l.cut (severed.2 l at) cut)
    either m back (inr (inr f)) = from_either x u v m l n back host cut (f l m (rw (sym host) at at) (rw (sym host) at back))
