-- A step by which nothing changes but that lines are told which do not count.
use Rattle.std.proofs.Common.{◌≡◌, ℕ, Bool, List, [], ◌∷◌, ◌++◌, None, refl, sym, ap, subst, inl, inr}
use Rattle.def_machine.specs.Values.{Name, Ref}
use Rattle.def_run.specs.Wire.{Connected}
use Rattle.def_run.specs.World.{Script, Event, World}
use Rattle.law_order.specs.Ordering.Ways.{Lane, Held, Item, Place, End, Mid, Ways, IsIn, Doom, by_mid, Ahead, doomed_there, in_mid, past_mid}
use Rattle.law_order.specs.Ordering.Places.{leads, ways, ways_of}
use Rattle.law_order.specs.History.Lines.{AllQuiet}
use Rattle.law_order.specs.History.Befores.{up_to, IsBroughtFrom, in_lane, apart}
use Rattle.law_order.specs.History.Tells.{SmallStep}

-- a place of a reference brings to one place
brought_alike : (l : Lane) (b : List Item) (p q c k : Place) → p ≡ q → IsBroughtFrom l b p c → IsBroughtFrom l b q k → c ≡ k
brought_alike l b p q c k e (in_lane {n = n}) (in_lane {n = m}) = ap (Mid l b) (ap name_of e)
  where
    name_of : Place → Name
    name_of (End h o) = o
    name_of other = n
brought_alike l b p q c k e (in_lane {n = n}) (apart f) = absurd (f n (sym e))
brought_alike l b p q c k e (apart f) (in_lane {n = m}) = absurd (f m e)
brought_alike l b p q c k e (apart f) (apart g) = e

pub brought_once : (l : Lane) (b : List Item) (p c k : Place) → IsBroughtFrom l b p c → IsBroughtFrom l b p k → c ≡ k
brought_once l b p c k f g = brought_alike l b p p c k refl f g

-- what is ahead of a thing in a lane is ahead of it where one more stands in front of that
last_of : (b : List Item) (i j : Item) → IsIn i b → IsIn i (b ++ j ∷ [])
last_of [] i j h = absurd h
last_of (k ∷ b) i j (inl e) = inl e
last_of (k ∷ b) i j (inr h) = inr (last_of b i j h)

doom_more : (w : Ways) (l : Lane) (b : List Item) (j : Item) (n : Name) → Doom w (Mid l b n) → Doom w (Mid l (b ++ j ∷ []) n)
doom_more w l b j n (by_mid d) = by_mid d

pub more_in_front : (w : Ways) (a : Name) (l : Lane) (b : List Item) (j : Item) (n : Name) → Ahead w a (Mid l b n) → Ahead w a (Mid l (b ++ j ∷ []) n)
more_in_front w a l b j n (doomed_there d) = doomed_there (doom_more w l b j n d)
more_in_front w a l b j n (in_mid {m = m} i f) = in_mid (last_of b (record { mail = a; aim = m }) j i) f
more_in_front w a l b j n (past_mid h) = past_mid h

-- the same world but for its fuel, its draws and its connections, with these lines behind its own
abbrev pub with_lines : World → ℕ → List ℕ → List Connected → List Event → World
with_lines x fuel drawn connections es = record { fuel = fuel; drawn = drawn; vats = x.vats; links = x.links; connections = connections; history = x.history ++ es }

pub same_step : (script : Script) (honest : ℕ → Bool) (x : World) (fuel : ℕ) (drawn : List ℕ) (connections : List Connected) (es : List Event) → AllQuiet es → SmallStep script honest x (with_lines x fuel drawn connections es)
unfolding ways
same_step script honest x fuel drawn connections es q = record {
  line = None;
  quiet = es;
  lines = refl;
  all_quiet = q;
  told = tt;
  references = λ a n v h. inr h;
  messages = λ b l c n s. inl (record { lane = l; before = c; aim = n; stood = s; keeps = λ a h. inr h });
  passings = λ u v front d n ys b. inl (record { before = front; brings = record { link = b.link; found = b.found; verb = b.verb; rest = b.rest; notes = b.notes }; keeps = λ a m h. inr h });
  carriers = λ v p d aim b s. inl (record { before = b; aim = aim; stood = s; keeps = λ a n c k f g h. inr (subst (λ z. Ahead (ways_of script honest x.vats x.links) a z) (brought_once (Held v p) (up_to b d aim) (leads script honest x.vats x.links v (Ref n)) c k f g) h) });
}

-- So it is between worlds whose vats and links are the same, wherever they come from.
pub same_worlds : (script : Script) (honest : ℕ → Bool) (x y : World) (es : List Event) → y.vats ≡ x.vats → y.links ≡ x.links → y.history ≡ x.history ++ es → AllQuiet es → SmallStep script honest x y
same_worlds script honest x y es e f g q =
    subst (λ vs. SmallStep script honest x (record { fuel = y.fuel; drawn = y.drawn; vats = vs; links = y.links; connections = y.connections; history = y.history })) (sym e)
    (subst (λ ls. SmallStep script honest x (record { fuel = y.fuel; drawn = y.drawn; vats = x.vats; links = ls; connections = y.connections; history = y.history })) (sym f)
    (subst (λ hs. SmallStep script honest x (record { fuel = y.fuel; drawn = y.drawn; vats = x.vats; links = x.links; connections = y.connections; history = hs })) (sym g) (same_step script honest x y.fuel y.drawn y.connections es q)))
