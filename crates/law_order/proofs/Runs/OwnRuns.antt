-- What a vat hosts: its names end with it, its unopened gifts are shut, and the next answers of what it holds are new.
use Rattle.std.proofs.Common.{◌≡◌, ℕ, suc, ◌≤◌, List, [], ◌∷◌, Some, None, length, refl, sym, subst, inl, inr}
use Rattle.std.specs.Prelude.{slice_get}
use Rattle.def_machine.specs.Values.{Value, Ref, Name, Sent, Msg, Naming, host_of}
use Rattle.def_machine.specs.State.{Standing, Viewed, Settled, Known, Vat}
use Rattle.def_machine.specs.Refs as refs
use Rattle.def_machine.specs.Refs.{entry_of, standing_of, standing_in, follow_at}
use Rattle.def_run.specs.Draws.{draw_word}
use Rattle.def_run.specs.World.{Script, World, names}
use Rattle.law_fate.specs.Name.Names.{AllOf, IsEventual, IsMade, IsMessageMade, KnownOk, messages_of, names_in}
use Rattle.law_fate.proofs.Name.Laws.{names_apart}
use Rattle.law_fate.specs.Fates.CarryRuns.{WorldSound}
use Rattle.law_fate.specs.Fates.Lasting.{Each, KnownWell, SettledWell, NoPromise}
use Rattle.law_fate.specs.Fates.Sound.{KnownSound, ViewsAnother}
use Rattle.law_fate.proofs.Fates.RunLight.{messages_go_to_hosts}
use Rattle.law_reference.proofs.Reference.Told.{found_all}
use Rattle.law_order.specs.Ordering.Worlds.{IsObject}
use Rattle.law_order.specs.Arrivals.Tellings.{IsOwnEnd, OwnNamesEnd}
use Rattle.law_order.specs.Runs.Owning.{OwnNamesEndInRuns, ViewedNamesAreEmpty}
use Rattle.law_order.proofs.Runs.Beginnings.{reached_is, each_all, object_apart, all_eventual, entry_name, none_found, named_object, own_messages}
use Rattle.law_order.proofs.Runs.Truths.{object_self, data_self}

-- ---- where own names end

module _ (script : Script) (v : ℕ) where
  abbrev K : Naming Name Name
  K = names script v

  abbrev NoObjects : List (Known Name) → Type 0
  NoObjects ks = (o : Name) → IsObject o → entry_of K ks o ≡ None

  settled_end : (d : ℕ) (ks : List (Known Name)) (y : Value Name) → NoPromise y → NoObjects ks → IsOwnEnd v (follow_at K d ks y)
  settled_end d ks (Ref o) h f = let plain : IsObject o = named_object script v o h in subst (IsOwnEnd v) (sym (object_self script v d ks o (f o plain))) (inl plain)
  settled_end d ks other h f = subst (IsOwnEnd v) (sym (data_self script v d ks other tt)) tt

  standing_end : (ks : List (Known Name)) (n : Name) (t : Standing Name) → SettledWell t → ViewsAnother v n t → host_of n ≡ v → NoObjects ks → IsOwnEnd v (refs.led K (λ y. follow_at K (length ks) ks y) n t)
  unfolding refs.led
  standing_end ks n (Viewed q) well another own f = absurd (another own)
  standing_end ks n (Settled y) well another own f = settled_end (length ks) ks y well f
  standing_end ks n other well another own f = inr own

  known_end : (ks : List (Known Name)) (n : Name) (k : Known Name) → entry_of K ks n ≡ Some k → KnownWell k → KnownSound v k → NoObjects ks → host_of n ≡ v → IsOwnEnd v (follow_at K (suc (length ks)) ks (Ref n))
  unfolding follow_at standing_of standing_in
  known_end ks n k e well sound f own = subst (λ o. IsOwnEnd v (refs.led K (λ y. follow_at K (length ks) ks y) n (standing_in o))) (sym e)
      (standing_end ks n k.standing well.standing (subst (λ m. ViewsAnother v m k.standing) (entry_name script v ks n k e) sound.viewed) own f)

  own_end : (ks : List (Known Name)) → Each KnownWell ks → Each (KnownSound v) ks → AllOf IsEventual (names_in ks) → (n : Name) (k : Known Name) → entry_of K ks n ≡ Some k → host_of n ≡ v → IsOwnEnd v (follow_at K (suc (length ks)) ks (Ref n))
  unfolding names
  own_end ks well sound eventual n k e own = known_end ks n k e (found_all (draw_word script.key) v KnownWell ks n k (each_all KnownWell ks well) e) (found_all (draw_word script.key) v (KnownSound v) ks n k (each_all (KnownSound v) ks sound) e)
      (λ o i. none_found script v ks o (λ a. object_apart o i (all_eventual ks o eventual a))) own

ends_in : (script : Script) (w : World) → WorldSound w → (v : ℕ) (s : Vat Name) → slice_get w.vats v ≡ Some s → AllOf IsEventual (names_in s.known) → OwnNamesEnd (names script v) v s
ends_in script w h v s there eventual = let parts = h.vats v s there in own_end script v s.known parts.well parts.names eventual

pub own_names_end : OwnNamesEndInRuns
own_names_end script once = (
  λ ps rest w i e v s there. ends_in script w (reached_is WorldSound _ w e ((messages_go_to_hosts script).0 ps)) v s there ((names_apart script once).0 ps rest w i e v s there).0,
  λ w x es k o e v s there. ends_in script x (reached_is WorldSound _ x e ((messages_go_to_hosts script).1 w es k o)) v s there ((names_apart script once).1 w x es k o e v s there).0,
)

-- ---- names with views

none_each : {A : Type 0} (P : Type 0) (xs : List A) → (P → ⊥) → Each (λ (x : A). P) xs → xs ≡ []
none_each P [] f h = refl
none_each P (x ∷ xs) f h = absurd (f h.0)

viewed_in : (script : Script) (w : World) → WorldSound w → (v : ℕ) (s : Vat Name) (n g : Name) (k : Known Name) → slice_get w.vats v ≡ Some s → entry_of (names script v) s.known n ≡ Some k → k.standing ≡ Viewed g → (host_of n ≡ v → ⊥) × (k.told ≡ []) × (k.held ≡ [])
unfolding names
viewed_in script w h v s n g k there e viewed =
    let sound = found_all (draw_word script.key) v (KnownSound v) s.known n k (each_all (KnownSound v) s.known (h.vats v s there).names) e in
    let named = entry_name script v s.known n k e in
    let another : (host_of k.name ≡ v → ⊥) = subst (λ q. ViewsAnother v k.name q) viewed sound.viewed in
    (subst (λ m. host_of m ≡ v → ⊥) named another, none_each (host_of k.name ≡ v) k.told another sound.told, none_each (host_of k.name ≡ v) k.held another sound.held)

pub viewed_names_are_empty : ViewedNamesAreEmpty
viewed_names_are_empty script = (
  λ ps rest w i e. viewed_in script w (reached_is WorldSound _ w e ((messages_go_to_hosts script).0 ps)),
  λ w x es k o e. viewed_in script x (reached_is WorldSound _ x e ((messages_go_to_hosts script).1 w es k o)),
)

-- ---- answers of what is held

module _ (script : Script) (w : World) (v : ℕ) (s : Vat Name) (there : slice_get w.vats v ≡ Some s) (made : AllOf (KnownOk (IsMade w.vats w.drawn)) s.known) where
  pub numbered : (x : Msg) → IsMessageMade w.vats (Sent x) → x.sender ≡ v → suc x.number ≤ s.messages
  numbered x h e = let less : suc x.number ≤ messages_of w.vats v = subst (λ u. suc x.number ≤ messages_of w.vats u) e h in subst (λ c. suc x.number ≤ c) (own_messages script v w s there made) less
