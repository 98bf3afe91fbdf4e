-- What the code runs in a turn is what the machine runs.
use Rattle.std.proofs.Common.{◌≡◌, ℕ, suc, ◌+◌, ◌<◌, ◌≤◌, true, List, [], ◌∷◌, ◌++◌, Ok, Err, drop, get_or, length, map, refl, sym, ap, subst, ◌∙◌, append_assoc, append-nil, arith}
use Rattle.std.proofs.lemmas.List.{drop_more, drop_all}
use Rattle.std.specs.Prelude.{IfOk, OnOk, Result, reverse}
use mathlib.Core.List.{reverse_aux}
use Rattle.ev_base.specs.declared.memory.Memory.{Memory}
use Rattle.ev_base.specs.declared.values.Value.{Value as Held}
use Rattle.ev_base.specs.declared.values.Value.TheVariants as held
use Rattle.ev_heap.specs.Contents.{Contents}
use Rattle.def_kernel.specs.declared.node.Node.{Node}
use Rattle.def_machine.specs.Calls as calls
use Rattle.def_machine.specs.Eval as theirs
use Rattle.def_machine.specs.Scopes.{any_guard}
use Rattle.def_machine.specs.Values.{Words, Value, Ref, Local, Prom}
use Rattle.def_machine.specs.State.{Binding as Bond, Fixed, Vat, Throws, Ejects, Stops, opened_state, Fuel, Deep, Repeated, Astray}
use Rattle.def_machine.specs.State as machine
use Rattle.ev_room.specs.declared.exit.Exit.{Exit}
use Rattle.ev_room.specs.declared.exit.Exit.TheVariants as exit
use Rattle.ev_pass.specs.declared.interior.Interior.{Interior as Room}
use Rattle.ev_vat.specs.declared.turn.Ended.{Ended}
use Rattle.ev_vat.specs.declared.turn.Ended.TheVariants as ended
use Rattle.ev_room.specs.Reading.{World, names, roots_from, text_of, texts_of, value_of, values_of}
use Rattle.ev_room.proofs.There.{both}
use Rattle.ev_room.specs.Sound.{Grown, Stays, IsSound, is_there, are_there, is_bound, are_bound, no_guard}
use Rattle.ev_room.specs.declared.scope.Binding.{Binding}
use Rattle.ev_room.specs.declared.scope.Bound.TheVariants as kept
use Rattle.ev_steps.specs.Steps.{alone, evaluator, turn_value}
use Rattle.ev_room.specs.Acts.{Out, Gives, ◌>>=◌}
use Rattle.ev_vat.specs.Turn.{Ends, EndsAs, GivesThere, LeftBy, bonds_from, evaluated, turn_of}
use Rattle.law_evaluation.proofs.Acts.Making.{turned_is}
use Rattle.law_evaluation.proofs.Acts.Sounds.{all_and}
use Rattle.law_evaluation.proofs.Acts.Stands.{Met, vat, a_value, bond_of, bonds_onto, then_met, give_met}
use Rattle.law_evaluation.proofs.Acts.Weights.{IsBefore}
use Rattle.law_evaluation.proofs.Evaluation.Meets.{evaluator_met}
use Rattle.law_evaluation.proofs.Evaluation.Turns.{turn_value_met}

-- ---- nouns that are bound to roots

bonds_are : (w : World) (n : ℕ) (xs : List Words) → map (bond_of w) (bonds_from n xs) ≡ roots_from n xs
unfolding any_guard
bonds_are w n [] = refl
bonds_are w n (x ∷ xs) = ap (λ (bs : List (Bond Local)). record { noun = x; bound = Fixed (Ref (Prom n)) any_guard } ∷ bs) (bonds_are w (suc n) xs)

roots_are : (w : World) (n : ℕ) (xs : List Words) → bonds_onto w [] (reverse (bonds_from n xs)) ≡ roots_from n xs
roots_are w n xs = turned_is w (bonds_from n xs) ∙ bonds_are w n xs

roots_bound : (h : Contents) (n : ℕ) (xs : List Words) → are_bound h (bonds_from n xs) ≡ true
roots_bound h n [] = refl
roots_bound h n (x ∷ xs) = roots_bound h (suc n) xs

turned_bound : (h : Contents) (bs cs : List Binding) → are_bound h bs ≡ true → are_bound h cs ≡ true → are_bound h (reverse_aux bs cs) ≡ true
turned_bound h [] cs i j = j
turned_bound h (b ∷ bs) cs i j = let s = both (is_bound h b.bound) (are_bound h bs) i in turned_bound h bs (b ∷ cs) s.1 (all_and (is_bound h b.bound) (are_bound h cs) s.0 j)

-- the next noun is bound
pub bonds_on : (xs : List Words) (i : ℕ) (x : Words) (done more whole : List Binding) → i < length xs → x ≡ get_or xs i x
    → more ≡ done ++ record { noun = x; bound = kept.Fixed (held.Prom (i + 1)) no_guard } ∷ [] → done ++ bonds_from (1 + i) (drop i xs) ≡ whole → more ++ bonds_from (1 + (i + 1)) (drop (i + 1) xs) ≡ whole
bonds_on xs i x done more whole lt is pushed so_far =
    let next : drop i xs ≡ x ∷ drop (i + 1) xs = drop_more xs i x lt ∙ ap (λ (z : Words). z ∷ drop (i + 1) xs) (sym is) in
    let here : i + 1 ≡ 1 + i = omega arith in
    let after : 1 + (i + 1) ≡ suc (1 + i) = omega arith in
    ap (λ (bs : List Binding). bs ++ bonds_from (1 + (i + 1)) (drop (i + 1) xs)) pushed
    ∙ append_assoc done (record { noun = x; bound = kept.Fixed (held.Prom (i + 1)) no_guard } ∷ []) (bonds_from (1 + (i + 1)) (drop (i + 1) xs))
    ∙ ap (λ (n : ℕ). done ++ record { noun = x; bound = kept.Fixed (held.Prom n) no_guard } ∷ bonds_from (1 + (i + 1)) (drop (i + 1) xs)) here
    ∙ ap (λ (n : ℕ). done ++ record { noun = x; bound = kept.Fixed (held.Prom (1 + i)) no_guard } ∷ bonds_from n (drop (i + 1) xs)) after
    ∙ ap (λ (zs : List Words). done ++ bonds_from (1 + i) zs) (sym next)
    ∙ so_far

pub bonds_end : (xs : List Words) (i : ℕ) (done whole : List Binding) → length xs ≤ i → done ++ bonds_from (1 + i) (drop i xs) ≡ whole → done ≡ whole
bonds_end xs i done whole le so_far = sym (append-nil done) ∙ ap (λ (zs : List Words). done ++ bonds_from (1 + i) zs) (sym (drop_all i xs le)) ∙ so_far

-- ---- what is run

module _ (tree : List Node) (d act : ℕ) (s : Room) (sound : IsSound s) where
  -- an outcome of the code is one of the machine
  abbrev IsRun : Out Held → (World → machine.Act Local (Value Local)) → Type 0
  IsRun o m = (w : World) → Met w a_value s o (m w (vat w s))

  -- nouns that are bound to roots
  pub program_met : (xs : List Words) → IsRun (alone (evaluator tree d) 0 (record { act = act; nouns = reverse (bonds_from 1 xs) }) s) (λ w. evaluated (names w) tree d (roots_from 1 xs) act)
  unfolding alone evaluated ◌>>=◌ machine.◌>>=◌
  program_met xs = λ w.
      subst (λ (bs : List (Bond Local)). Met w a_value s (alone (evaluator tree d) 0 (record { act = act; nouns = reverse (bonds_from 1 xs) }) s) (evaluated (names w) tree d bs act (vat w s))) (roots_are w 1 xs)
      (then_met _ _ ((evaluator_met w tree d).expression 0 (record { act = act; nouns = reverse (bonds_from 1 xs) }) s sound (turned_bound s.heap (bonds_from 1 xs) [] (roots_bound s.heap 1 xs) refl)) (λ x u r l e. give_met w a_value x.0 u r l.0))

  pub message_met : (x : Held) (verb : Words) (args : List Held) → is_there s.heap x ≡ true → are_there s.heap args ≡ true
      → IsRun (turn_value tree (evaluator tree d) act x verb args s) (λ w. calls.turn_value (names w) tree (theirs.evaluator (names w) tree d) act (value_of w x) verb (values_of w args))
  message_met x verb args i k = λ w. turn_value_met w tree (evaluator tree d) (theirs.evaluator (names w) tree d) (evaluator_met w tree d) act verb args x s sound i k

-- ---- how it ends

module _ (m : machine.Act Local (Value Local)) (v u : Vat Local) where
  gives : (x : Value Local) → m v ≡ machine.Gives x u → turn_of m v ≡ machine.Gives x u
  unfolding turn_of opened_state
  gives x e = rw e refl

  throws : (p : Words) → m v ≡ Throws p u → turn_of m v ≡ Throws p u
  unfolding turn_of opened_state
  throws p e = rw e refl

  ejects : (n : ℕ) (x : Value Local) → m v ≡ Ejects n x u → turn_of m v ≡ Stops Astray u
  unfolding turn_of opened_state
  ejects n x e = rw e refl

  stops : (c : machine.Stop) → m v ≡ Stops c u → turn_of m v ≡ Stops c u
  unfolding turn_of opened_state
  stops c e = rw e refl

-- the texts are a front of those of the world, and the key is the world's
at_end : (w : World) (s t : Room) → Stays s t → (rest : List Words) → texts_of w ≡ t.heap.texts ++ rest → s.words.key ≡ w.key → IsBefore w t
at_end w s t stays rest texts key = ((rest, texts), stays ∙ key)

-- some world
unfoldable any_world : World
any_world = record {
  before = record { number = 0; fuel = 0; drawn = []; things = []; slots = []; lists = []; activations = 0; messages = 0; promises = 0; queue = []; known = []; mails = []; gifts = []; noticed = []; outbox = []; happened = [] };
  texts = [];
  key = [];
}

-- what the clauses of a turn say, by how it ended
pub record Ran (s t : Room) (m : World → machine.Act Local (Value Local)) (q : Result Ended Memory) : Type 0 where
  pub turn : (w : World) (rest : List Words) → texts_of w ≡ t.heap.texts ++ rest → s.words.key ≡ w.key → Ends w q t (turn_of (m w) (vat w s))
  pub grown : OnOk q (Grown s.heap t.heap)
  pub stays : OnOk q (Stays s t)
  pub left : IfOk q (λ x. LeftBy x t)
  pub there : IfOk q (λ x. GivesThere t.heap x)

module _ (s t : Room) (o : Out Held) (m : World → machine.Act Local (Value Local)) (run : (w : World) → Met w a_value s o (m w (vat w s))) where
  met : (w : World) (r : Result Held Exit) → o ≡ (r, t) → Met w a_value s (r, t) (m w (vat w s))
  met w r e = subst (λ (p : Out Held). Met w a_value s p (m w (vat w s))) e (run w)

  ran_as : (x : Ended) (r : Result Held Exit) → o ≡ (r, t) → ((w : World) → IsBefore w t → Ends w (Ok x) t (turn_of (m w) (vat w s))) → LeftBy x t → GivesThere t.heap x → Ran s t m (Ok x)
  ran_as x r e f left there = record {
    turn = λ w rest texts key. f w (at_end w s t ((met w r e).stays) rest texts key);
    grown = (met any_world r e).grown;
    stays = (met any_world r e).stays;
    left = left;
    there = there;
  }

  ran_stopped : (x : Ended) (c : machine.Stop) (e : Exit) → o ≡ (Err e, t) → ((w : World) → IsBefore w t → m w (vat w s) ≡ Stops c (vat w t)) → ((w : World) → turn_of (m w) (vat w s) ≡ Stops c (vat w t) → Ends w (Ok x) t (turn_of (m w) (vat w s)))
      → LeftBy x t → GivesThere t.heap x → Ran s t m (Ok x)
  ran_stopped x c e g f h left there = ran_as x (Err e) g (λ w b. h w (stops (m w) (vat w s) (vat w t) c (f w b))) left there

  pub ran : (r : Result Held Exit) (q : Result Ended Memory) → Gives r t o → EndsAs r q → Ran s t m q
  ran (Ok v) q g e =
      rw e (ran_as (ended.Value v) (Ok v) g (λ w b. gives (m w) (vat w s) (vat w t) (value_of w v) ((met w (Ok v) g).is b)) ((met any_world (Ok v) g).keeps.0) ((met any_world (Ok v) g).keeps.1))
  ran (Err (exit.Thrown id)) q g e =
      rw e (ran_as (ended.Thrown id) (Err (exit.Thrown id)) g (λ w b. throws (m w) (vat w s) (vat w t) (text_of w id) ((met w (Err (exit.Thrown id)) g).is b))
      ((met any_world (Err (exit.Thrown id)) g).keeps.0) ((met any_world (Err (exit.Thrown id)) g).keeps.1))
  ran (Err (exit.Ejected n v)) q g e =
      rw e (ran_as ended.Astray (Err (exit.Ejected n v)) g (λ w b. ejects (m w) (vat w s) (vat w t) n (value_of w v) ((met w (Err (exit.Ejected n v)) g).is b)) tt tt)
  ran (Err exit.Fuel) q g e = rw e (ran_stopped ended.Fuel Fuel exit.Fuel g (λ w b. (met w (Err exit.Fuel) g).is b) (λ w x. x) tt tt)
  ran (Err exit.Deep) q g e = rw e (ran_stopped ended.Deep Deep exit.Deep g (λ w b. (met w (Err exit.Deep) g).is b) (λ w x. x) tt tt)
  ran (Err (exit.Repeated i j)) q g e = rw e (ran_stopped (ended.Repeated i j) (Repeated i j) (exit.Repeated i j) g (λ w b. (met w (Err (exit.Repeated i j)) g).is b) (λ w x. x) tt tt)
  ran (Err exit.Astray) q g e = rw e (ran_stopped ended.Astray Astray exit.Astray g (λ w b. (met w (Err exit.Astray) g).is b) (λ w x. x) tt tt)
  ran (Err exit.Memory) (Ok x) g e = absurd (cc)
  ran (Err exit.Memory) (Err x) g e = record { turn = λ w rest texts key. tt; grown = tt; stays = tt; left = tt; there = tt }
