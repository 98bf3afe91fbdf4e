-- What is said of a list in a note by its members.
use Rattle.std.proofs.Common.{◌≡◌, ◌++◌, List, [], ◌∷◌, None, refl, ap}
use Rattle.def_event.specs.declared.shown.Shown.{Shown}
use Rattle.def_event.specs.declared.shown.Shown.TheViews.{roll-Shown}
use Rattle.def_event.specs.declared.shown.Shown.TheBlock.{hidden-the_row-Shown-0}
use denote.Hole.Carrier.{roll, hidden}
use Rattle.def_event.specs.Lines.{members}
use Rattle.def_event.specs.Uses.{name_of, names_of, things_of, lists_of, parts, all_parts}

pub no_name : (xs : List Shown) → name_of (members xs) ≡ None
unfolding name_of roll-Shown roll hidden-the_row-Shown-0 hidden
no_name xs = refl

pub no_names : (xs : List Shown) → names_of (members xs) ≡ []
unfolding names_of roll-Shown roll hidden-the_row-Shown-0 hidden
no_names xs = refl

pub no_things : (xs : List Shown) → things_of (members xs) ≡ []
unfolding things_of roll-Shown roll hidden-the_row-Shown-0 hidden
no_things xs = refl

pub no_lists : (xs : List Shown) → lists_of (members xs) ≡ []
unfolding lists_of roll-Shown roll hidden-the_row-Shown-0 hidden
no_lists xs = refl

pub members_parts : (xs : List Shown) → parts (members xs) ≡ all_parts xs
unfolding roll-Shown roll hidden-the_row-Shown-0 hidden
members_parts [] = refl
members_parts (x ∷ xs) = ap (λ ts. parts x ++ ts) (members_parts xs)
