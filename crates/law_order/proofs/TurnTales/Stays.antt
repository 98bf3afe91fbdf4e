-- What stays in a step of a vat: its resolvers, its lists, to what a name settled, and the lines that were told.
use Rattle.std.proofs.Common.{◌≡◌, ℕ, zero, suc, List, [], ◌∷◌, ◌++◌, Some, refl, sym, ap, ◌∙◌, append_assoc}
use Rattle.std.proofs.lemmas.List.{append-nil}
use Rattle.std.specs.Prelude.{slice_get}
use Rattle.def_machine.specs.Values.{Value, Name, Naming}
use Rattle.def_machine.specs.State.{Thing, Made, Ejector, Audition, Resolver, Happened, Vat, change, dead}
use Rattle.law_machine.specs.Machine.Laws.{SettledStays}
use Rattle.law_machine.proofs.Machine.Keeps.{IsKept, IsKeptUnder}
use Rattle.law_machine.proofs.Machine.StepLaws.{get_append, settled_law, settled_names}

dead_resolvers : (ts : List (Thing Name)) (k i : ℕ) (p : Name) → slice_get ts i ≡ Some (Resolver p) → slice_get (change dead k ts) i ≡ Some (Resolver p)
unfolding change dead
dead_resolvers [] k i p e = cc
dead_resolvers (Made a b c ∷ ts) zero zero p e = cc
dead_resolvers (Ejector b ∷ ts) zero zero p e = cc
dead_resolvers (Audition b x ∷ ts) zero zero p e = cc
dead_resolvers (Resolver q ∷ ts) zero zero p e = e
dead_resolvers (t ∷ ts) zero (suc i) p e = e
dead_resolvers (t ∷ ts) (suc k) zero p e = e
dead_resolvers (t ∷ ts) (suc k) (suc i) p e = dead_resolvers ts k i p e

module _ (K : Naming Name Name) where
  pub record Stays (s t : Vat Name) : Type 0 where
    pub resolvers : (i : ℕ) (p : Name) → slice_get s.things i ≡ Some (Resolver p) → slice_get t.things i ≡ Some (Resolver p)
    pub lists : (k : ℕ) (vs : List (Value Name)) → slice_get s.lists k ≡ Some vs → slice_get t.lists k ≡ Some vs
    pub settled : SettledStays K s t
    pub more : List (Happened Name)
    pub lines : t.happened ≡ s.happened ++ more

  -- where nothing of that is touched
  untouched : (s t : Vat Name) → SettledStays K s t → t.things ≡ s.things → t.lists ≡ s.lists → t.happened ≡ s.happened → Stays s t
  untouched s t h e f g = record {
    resolvers = λ i p a. ap (λ ts. slice_get ts i) e ∙ a;
    lists = λ k vs a. ap (λ ls. slice_get ls k) f ∙ a;
    settled = h;
    more = [];
    lines = g ∙ sym (append-nil s.happened);
  }

  base : IsKept (SettledStays K)
  base = settled_law K

  pub stays_kept : IsKept Stays
  stays_kept = record {
    same = λ s. untouched s s (base.same s) refl refl refl;
    trans = λ {s} {t} {u} h k. record {
      resolvers = λ i p a. k.resolvers i p (h.resolvers i p a);
      lists = λ i vs a. k.lists i vs (h.lists i vs a);
      settled = base.trans {s = s} {t = t} {u = u} h.settled k.settled;
      more = h.more ++ k.more;
      lines = k.lines ∙ ap (λ es. es ++ k.more) h.lines ∙ append_assoc s.happened h.more k.more;
    };
    fuel = λ s n. untouched s _ (base.fuel s n) refl refl refl;
    happened = λ s e. record { resolvers = λ i p a. a; lists = λ k vs a. a; settled = base.happened s e; more = e ∷ []; lines = refl };
    activations = λ s. untouched s _ (base.activations s) refl refl refl;
    thing = λ s t. record { resolvers = λ i p a. get_append s.things (t ∷ []) i (Resolver p) a; lists = λ k vs a. a; settled = base.thing s t; more = []; lines = sym (append-nil s.happened) };
    killed = λ s n. record { resolvers = λ i p a. dead_resolvers s.things n i p a; lists = λ k vs a. a; settled = base.killed s n; more = []; lines = sym (append-nil s.happened) };
    slot = λ s c. untouched s _ (base.slot s c) refl refl refl;
    written = λ s n v. untouched s _ (base.written s n v) refl refl refl;
    list = λ s vs. record { resolvers = λ i p a. a; lists = λ k xs a. get_append s.lists (vs ∷ []) k xs a; settled = base.list s vs; more = []; lines = sym (append-nil s.happened) };
    queue = λ s m. untouched s _ (base.queue s m) refl refl refl;
    outbox = λ s n. untouched s _ (base.outbox s n) refl refl refl;
    gift = λ s g. untouched s _ (base.gift s g) refl refl refl;
    opened = λ s p i. untouched s _ (base.opened s p i) refl refl refl;
    noticed = λ s w. untouched s _ (base.noticed s w) refl refl refl;
    drawn = λ s w. untouched s _ (base.drawn s w) refl refl refl;
  }

  under : IsKeptUnder K (SettledStays K)
  under = settled_names K

  pub stays_under : IsKeptUnder K Stays
  stays_under = record {
    altered = λ s c n. untouched s _ (under.altered s c n) refl refl refl;
    came = λ s c h. untouched s _ (under.came s c h) refl refl refl;
    mailed = λ s c. untouched s _ (under.mailed s c) refl refl refl;
    promised = λ s. untouched s _ (under.promised s) refl refl refl;
    messaged = λ s h id. untouched s _ (under.messaged s h id) refl refl refl;
    lone = λ s id. untouched s _ (under.lone s id) refl refl refl;
  }
