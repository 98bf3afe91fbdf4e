-- The values in a note come to be here as in the machine.
use Rattle.std.proofs.Common.{◌≡◌, ◌∙◌, ℕ, zero, suc, Bool, true, false, List, [], ◌∷◌, ◌++◌, Ok, Err, length, map, refl, sym, ap, subst}
use Rattle.std.proofs.lemmas.List.{length-map, map-append}
use Rattle.ev_base.specs.declared.values.Value.{Value as Held}
use Rattle.ev_base.specs.declared.values.Value.TheVariants as held
use Rattle.ev_heap.specs.Contents.{is_light, listed}
use Rattle.ev_heap.specs.declared.happened.Happened.TheVariants as event
use Rattle.ev_heap.specs.declared.kept.Listed.{Listed}
use Rattle.def_machine.specs.Arrive as arrive
use Rattle.def_machine.specs.State as machine
use Rattle.def_machine.specs.State.{Vat, Done, ListCame}
use Rattle.def_machine.specs.Values.{Words, Value, Null, Flag, Number, Letter, Text, Prim, Broken, Items, Ref, Local, Prom, key as gift_key}
use Rattle.ev_pass.specs.Acts as code
use Rattle.ev_pass.specs.Reading.{Lines, Reads, StandsFor, names_under, vat_at}
use Rattle.ev_pass.specs.declared.interior.Interior.{Interior}
use Rattle.ev_pass.specs.declared.interior.Stop.TheVariants.{Fuel, Repeated, Astray, Missing, Memory}
use Rattle.ev_pass.proofs.Stands as inner
use Rattle.ev_refs.specs.Leading.{lists_in}
use Rattle.ev_refs.specs.Reading.{value_by}
use Rattle.ev_settle.specs.Changes.{come}
use Rattle.ev_settle.specs.Performing.{Tells}
use Rattle.ev_arrive.specs.Acts.{Out, and_then, ◌>>=◌, give, within}
use Rattle.ev_arrive.specs.Bringing.{Part, Parts, Plain, New, Gift, Many, NoMore, More}
use Rattle.ev_arrive.specs.Delivering.{learn_gift}
use Rattle.ev_arrive.specs.Hearing.{TellsLists, known_value, part_by, parts_by}
use Rattle.ev_arrive.specs.Learning.{are_kept, keep_list, learn, learn_each, learn_given, learn_list, learn_new, learn_part, list_if, list_told, make_list, new_list}
use Rattle.ev_arrive.specs.Reading.{Stands, host_at, with_gifts}
use Rattle.ev_arrive.specs.declared.host.Host.{Host}
use Rattle.ev_arrive.proofs.Delivers.{gift_is}
use Rattle.ev_arrive.proofs.Stands.{both_then, gives, inside_is, learnt_is}

-- ---- lists

module _ (ts : List Words) (key : List ℕ) (line : Lines) (s : Vat Local) where
  abbrev here : Interior → Vat Local
  here i = vat_at ts line i s

  abbrev members : Listed → List Held
  members l = l.members

  so_many : (ls : List Listed) → length (map (map (value_by ts)) (map members ls)) ≡ length ls
  so_many ls = length-map (map members ls) (map (value_by ts)) ∙ length-map ls members

  one_more : (ls : List Listed) (l : Listed) → map (map (value_by ts)) (map members ls) ++ map (value_by ts) l.members ∷ [] ≡ map (map (value_by ts)) (map members (ls ++ l ∷ []))
  one_more ls l =
      sym (map-append (map (value_by ts)) (map members ls) (l.members ∷ []))
      ∙ ap (λ (x : List (List Held)). map (map (value_by ts)) x) (sym (map-append members ls (l ∷ [])))

  keeps_is : (vs : List Held) (i : Interior) → Reads ts key i → StandsFor ts key line s (λ k. k) (keep_list vs i) (machine.new_list (map (value_by ts) vs) (here i))
  unfolding keep_list machine.new_list
  keeps_is vs i good = (
    ap (λ (n : ℕ). machine.Gives n (record (here i) { lists = map (map (value_by ts)) (lists_in i.heap) ++ map (value_by ts) vs ∷ [] })) (so_many i.heap.lists)
        ∙ ap (λ (x : List (List (Value Local))). machine.Gives (length i.heap.lists) (record (here i) { lists = x })) (one_more i.heap.lists (listed i.heap vs)),
    record { known = good.known; heavy = good.heavy; texts = good.texts; drawn = good.drawn },
  )

  by_tests : (vs : List Held) (a b : Bool) (i : Interior) → Reads ts key i → StandsFor ts key line s (λ k. k) (list_if vs a b i) (machine.new_list (map (value_by ts) vs) (here i))
  unfolding list_if code.fail
  by_tests vs true true i good = keeps_is vs i good
  by_tests vs true false i good = tt
  by_tests vs false b i good = tt

  new_is : (vs : List Held) (i : Interior) → Reads ts key i → StandsFor ts key line s (λ k. k) (new_list vs i) (machine.new_list (map (value_by ts) vs) (here i))
  unfolding new_list
  new_is vs i good = by_tests vs (are_kept i.heap vs) (is_light i.heap vs) i good

  pub makes_is : TellsLists ts line → (vs : List Held) (i : Interior) → Reads ts key i → StandsFor ts key line s (value_by ts) (make_list vs i) (arrive.make_list (names_under key) (map (value_by ts) vs) (here i))
  unfolding make_list list_told arrive.make_list code.◌>>=◌ code.◌>>◌ machine.◌>>=◌ machine.◌>>◌
  makes_is lists vs i good =
      inner.both_then ts key line s (λ k. k) (value_by ts) (new_list vs i) _ _ _ (new_is vs i good)
      (λ k j e next. inner.both_then ts key line s (λ u. u) (value_by ts) (code.tell (event.Arrived k vs) j) _ _ _ (inner.told_is ts key line s (event.Arrived k vs) (ListCame k (map (value_by ts) vs)) j (lists k vs) next)
      (λ u l f last. inner.gives ts key line s (value_by ts) (held.List k) l last))

-- ---- values

module _ (ts : List Words) (key : List ℕ) (line : Lines) (s : Vat Local) (tells : Tells ts line) (lists : TellsLists ts line) (n : Local) where
  abbrev at : Host → Vat Local
  at h = host_at ts line h s

  known_is : (v : Value Local) (t : Vat Local) → arrive.learn_value (names_under key) (known_value v) t ≡ machine.give v t
  unfolding arrive.learn_value arrive.learn_name machine.◌>>=◌ machine.and_then machine.give
  known_is Null t = refl
  known_is (Flag b) t = refl
  known_is (Number z) t = refl
  known_is (Letter c) t = refl
  known_is (Text u) t = refl
  known_is (Prim k) t = refl
  known_is (Broken p) t = refl
  known_is (Items k) t = refl
  known_is (Ref m) t = refl

  abbrev ref_of : ℕ → Value Local
  ref_of m = Ref (Prom m)

  named : (o : Out ℕ) (d : Done Local (Value Local)) → Stands ts key line s ref_of o d → Stands ts key line s (value_by ts) (and_then o (λ m. give (held.Prom m))) d
  unfolding and_then give
  named (Ok a, h) d st = st
  named (Err Fuel, h) d st = st
  named (Err (Repeated i j), h) d st = st
  named (Err Astray, h) d st = st
  named (Err Missing, h) d st = tt
  named (Err Memory, h) d st = tt

  known_here : (v : Held) (h : Host) → Reads ts key h.inside → Stands ts key line s (value_by ts) (give v h) (arrive.learn_value (names_under key) (known_value (value_by ts v)) (at h))
  known_here v h good = subst (λ (d : Done Local (Value Local)). Stands ts key line s (value_by ts) (give v h) d) (sym (known_is (value_by ts v) (at h))) (gives ts key line s (value_by ts) v h good)

  new_here : (c : ℕ) (h : Host) → Reads ts key h.inside → Stands ts key line s (value_by ts) (learn_new c h) (arrive.learn_value (names_under key) (Ref (arrive.New n c)) (at h))
  unfolding learn_new arrive.learn_value arrive.learn_name ◌>>=◌ machine.◌>>=◌
  new_here c h good =
      both_then ts key line s Prom (value_by ts) (within (come c) h) _ _ _ (learnt_is ts key line s n c h good)
      (λ m j e next. gives ts key line s (value_by ts) (held.Prom m) j next)

  given_here : (from c i : ℕ) (h : Host) → Reads ts key h.inside → Stands ts key line s (value_by ts) (learn_given from c i h) (arrive.learn_gift (names_under key) from c (gift_key from i) (at h))
  unfolding learn_given ◌>>=◌
  given_here from c i h good = named (learn_gift from c i h) _ (gift_is ts key line s tells from c i h good)

  mutual
    unfolding learn learn_part learn_list part_by parts_by learn_each arrive.learn arrive.learn_all ◌>>=◌ machine.◌>>=◌ within code.fail

    pub part_is : (d from : ℕ) (b : Part) (h : Host) → Reads ts key h.inside → Stands ts key line s (value_by ts) (learn d from b h) (arrive.learn (names_under key) from (part_by ts from n b) (at h))
    part_is d from (Plain v) h good = known_here v h good
    part_is d from (New c) h good = new_here c h good
    part_is d from (Gift c i) h good = given_here from c i h good
    part_is zero from (Many ps) h good = tt
    part_is (suc d) from (Many ps) h good =
        both_then ts key line s (map (value_by ts)) (value_by ts) (learn_each (learn d from) ps h) _ _ _ (parts_are d from ps h good)
        (λ vs j e next. inside_is ts key line s (value_by ts) (make_list vs) j _ (makes_is ts key line (with_gifts j.gifts s) lists vs j.inside next))

    pub parts_are : (d from : ℕ) (bs : Parts) (h : Host) → Reads ts key h.inside
        → Stands ts key line s (map (value_by ts)) (learn_each (learn d from) bs h) (arrive.learn_all (names_under key) from (parts_by ts from n bs) (at h))
    parts_are d from NoMore h good = gives ts key line s (map (value_by ts)) [] h good
    parts_are d from (More b bs) h good =
        both_then ts key line s (value_by ts) (map (value_by ts)) (learn d from b h) _ _ _ (part_is d from b h good)
        (λ v j e next. both_then ts key line s (map (value_by ts)) (map (value_by ts)) (learn_each (learn d from) bs j) _ _ _ (parts_are d from bs j next)
        (λ vs k f last. gives ts key line s (map (value_by ts)) (v ∷ vs) k last))
