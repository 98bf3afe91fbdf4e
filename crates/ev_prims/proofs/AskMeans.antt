-- What is asked of lists, the comparer, the loop and throw in the terms of the code is what is asked in the machine.
use Rattle.std.proofs.Common.{◌≡◌, ℕ, Bool, true, false, List, [], ◌∷◌, Option, Some, None, map, refl, ap, sym, ◌∙◌}
use Rattle.std.specs.Prelude.{codes, if◌then◌else◌}
use Rattle.std.specs.Str.{bytes_eq}
use Rattle.ev_base.specs.declared.values.Value.{Value as Held}
use Rattle.def_machine.specs.Free.{entry}
use Rattle.def_machine.specs.Native as native
use Rattle.def_machine.specs.Values.{Words, Value, Local}
use Rattle.ev_prims.specs.Asking.{asked_with}
use Rattle.ev_prims.specs.Asks.{where_named, ranges, list_two, compares, numbered, primitive_at, asks_none, asks_one, asks_two, asks_three, asks_more, asked_by, asked_of}
use Rattle.ev_prims.specs.Forms.{args_of}
use Rattle.ev_prims.specs.Orders.{test_in}
use Rattle.ev_prims.specs.Reading.{value_by, values_by}
use Rattle.ev_prims.specs.Verbs.{range_named, test_named}
use Rattle.ev_prims.specs.declared.asking.Asked.{Asked}
use Rattle.ev_prims.specs.declared.asking.Asked.TheVariants as ask
use Rattle.ev_prims.specs.declared.order.Test.{Test}
use Rattle.ev_prims.proofs.VerbLemmas as verbs

module _ (t : ℕ → Words) (xs : List Held) where
  where_is : (name : Words) (a : Asked) (verb : Words) → entry ((name, asked_with t xs a) ∷ []) native.NoMethod verb ≡ asked_with t xs (where_named name a verb)
  where_is name a verb = verbs.by_table (asked_with t xs) ((name, a) ∷ []) ask.NoMethod verb

  ranges_is : (o : Option Bool) (a b : Held) → verbs.ranges (value_by t a) (value_by t b) o ≡ asked_with t xs (ranges o a b)
  ranges_is (Some last) a b = refl
  ranges_is None a b = refl

  compares_is : (o : Option Test) (a b : Held) → verbs.compares (value_by t a) (value_by t b) o ≡ asked_with t xs (compares o a b)
  compares_is (Some test) a b = refl
  compares_is None a b = refl

two_is : (t : ℕ → Words) (c : Bool) (o : Option Bool) (a b : Held)
    → (if c then native.MakesList (value_by t a ∷ value_by t b ∷ []) else verbs.ranges (value_by t a) (value_by t b) o) ≡ asked_with t (a ∷ b ∷ []) (if c then ask.MakesList else ranges o a b)
two_is t true o a b = refl
two_is t false o a b = ranges_is t (a ∷ b ∷ []) o a b

list_asked : (t : ℕ → Words) (verb : Words) (xs : List Held) → native.list_ask verb (values_by t xs) ≡ asked_with t xs (asked_of 0 verb xs)
unfolding native.list_ask args_of primitive_at numbered asks_none asks_one asks_two asks_three asks_more asked_by
list_asked t verb [] = where_is t [] (codes "run") ask.MakesList verb
list_asked t verb (a ∷ []) = where_is t (a ∷ []) (codes "run") ask.MakesList verb
list_asked t verb (a ∷ b ∷ []) = verbs.list_ask_is verb (value_by t a) (value_by t b) ∙ two_is t (bytes_eq verb (codes "run")) (range_named verb) a b
list_asked t verb (a ∷ b ∷ c ∷ []) = where_is t (a ∷ b ∷ c ∷ []) (codes "run") ask.MakesList verb
list_asked t verb (a ∷ b ∷ c ∷ d ∷ xs) = where_is t (a ∷ b ∷ c ∷ d ∷ xs) (codes "run") ask.MakesList verb

comparer_asked : (t : ℕ → Words) (verb : Words) (xs : List Held) → native.comparer_ask verb (values_by t xs) ≡ asked_with t xs (asked_of 2 verb xs)
unfolding args_of primitive_at numbered asks_none asks_one asks_two asks_three asks_more asked_by
comparer_asked t verb [] = unfold native.comparer_ask in refl
comparer_asked t verb (a ∷ []) = unfold native.comparer_ask in refl
comparer_asked t verb (a ∷ b ∷ []) = verbs.comparer_is verb (value_by t a) (value_by t b) ∙ compares_is t (a ∷ b ∷ []) (test_named verb) a b
comparer_asked t verb (a ∷ b ∷ c ∷ []) = unfold native.comparer_ask in refl
comparer_asked t verb (a ∷ b ∷ c ∷ d ∷ xs) = unfold native.comparer_ask in refl

looper_asked : (t : ℕ → Words) (verb : Words) (xs : List Held) → native.run_ask native.Loops verb (values_by t xs) ≡ asked_with t xs (asked_of 3 verb xs)
unfolding native.run_ask args_of primitive_at numbered asks_none asks_one asks_two asks_three asks_more asked_by
looper_asked t verb [] = refl
looper_asked t verb (a ∷ []) = where_is t (a ∷ []) (codes "run") (ask.Loops a) verb
looper_asked t verb (a ∷ b ∷ []) = refl
looper_asked t verb (a ∷ b ∷ c ∷ []) = refl
looper_asked t verb (a ∷ b ∷ c ∷ d ∷ xs) = refl

thrower_asked : (t : ℕ → Words) (verb : Words) (xs : List Held) → native.run_ask native.ThrowsIt verb (values_by t xs) ≡ asked_with t xs (asked_of 6 verb xs)
unfolding native.run_ask args_of primitive_at numbered asks_none asks_one asks_two asks_three asks_more asked_by
thrower_asked t verb [] = refl
thrower_asked t verb (a ∷ []) = where_is t (a ∷ []) (codes "run") (ask.ThrowsIt a) verb
thrower_asked t verb (a ∷ b ∷ []) = refl
thrower_asked t verb (a ∷ b ∷ c ∷ []) = refl
thrower_asked t verb (a ∷ b ∷ c ∷ d ∷ xs) = refl

module _ (t : ℕ → Words) (verb : Words) (xs : List Held) where
  pub asks_list : native.asked (native.primitive 0) verb (values_by t xs) ≡ asked_with t xs (asked_of 0 verb xs)
  unfolding native.asked native.primitive native.numbered native.primitives
  asks_list = list_asked t verb xs

  pub asks_comparer : native.asked (native.primitive 2) verb (values_by t xs) ≡ asked_with t xs (asked_of 2 verb xs)
  unfolding native.asked native.primitive native.numbered native.primitives
  asks_comparer = comparer_asked t verb xs

  pub asks_looper : native.asked (native.primitive 3) verb (values_by t xs) ≡ asked_with t xs (asked_of 3 verb xs)
  unfolding native.asked native.primitive native.numbered native.primitives
  asks_looper = looper_asked t verb xs

  pub asks_thrower : native.asked (native.primitive 6) verb (values_by t xs) ≡ asked_with t xs (asked_of 6 verb xs)
  unfolding native.asked native.primitive native.numbered native.primitives
  asks_thrower = thrower_asked t verb xs
