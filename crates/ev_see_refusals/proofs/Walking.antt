-- A walk through the lines of a history.
use Rattle.std.proofs.Common.{◌≡◌, ◌<◌, ◌≤◌, ◌+◌, ℕ, suc, Bool, true, false, List, [], ◌∷◌, length, drop, slice_get, Option, Some, None, refl, sym, subst, ◌∙◌, ap, add-one, arith}
use Rattle.def_event.specs.declared.event.Event.{Event}
use Rattle.def_event.specs.Uses.{Line, line_after, place_after, place_of}
use Rattle.def_why.specs.declared.mark.Mark.{Mark}
use Rattle.def_why.specs.declared.fault.Fault.{Fault}
use Rattle.def_why.specs.declared.fault.Question.{Question}
use Rattle.def_why.specs.declared.fault.Refusal.{Refusal}
use Rattle.def_why.specs.Marks.{last_about, marks}
use Rattle.def_why.specs.Faults.{Past, fault_at, found, refusal, refusal_from}
use Rattle.ev_see_refusals.specs.Table.{Puts, Stands, Table, last_in}
use Rattle.ev_see_refusals.proofs.TableLemmas.{none_stand, stands_more}
use Rattle.ev_see_refusals.proofs.ValueLemmas.{next_item, nothing_behind}

-- what is known behind so many lines
pub record Walks (q : Question) (es : List Event) (table : Table) (at i : ℕ) : Type 0 where
  pub past : List Line
  pub place : at ≡ place_of past
  pub count : length past ≡ i
  pub stands : Stands table es past
  pub left : refusal_from q past (drop i es) ≡ refusal q es

pub walks_first : (q : Question) (es : List Event) (table : Table) → table ≡ [] → Walks q es table 0 0
walks_first q es table none = record { past = []; place = refl; count = refl; stands = none_stand es table none; left = refl }

more_lines : (n i : ℕ) → n ≡ i → suc n ≡ i + 1
more_lines n i same = omega arith

-- the tables tell what the lines tell
same_past : (table : Table) (es : List Event) (past : List Line) → Stands table es past → last_in table es ≡ last_about past
same_past table es past stands = λ i m. stands.each m i

module _ (q : Question) (es : List Event) (table : Table) (at place i : ℕ) (e : Event) (failed : Option Fault) (walks : Walks q es table at i) (less : i < length es)
    (rest : drop i es ≡ e ∷ drop (i + 1) es) (is_place : place ≡ place_after at e) (is_failed : failed ≡ fault_at q (last_in table es) place e) where
  here : place ≡ (line_after walks.past e).at
  here = is_place ∙ ap (λ p. place_after p e) walks.place

  failed_here : failed ≡ fault_at q (last_about walks.past) (line_after walks.past e).at e
  failed_here = is_failed ∙ ap (λ (past : Past). fault_at q past place e) (same_past table es walks.past walks.stands) ∙ ap (λ p. fault_at q (last_about walks.past) p e) here

  left_here : found (length walks.past + 1) failed (refusal_from q (line_after walks.past e ∷ walks.past) (drop (i + 1) es)) ≡ refusal q es
  left_here =
      ap (λ f. found (length walks.past + 1) f (refusal_from q (line_after walks.past e ∷ walks.past) (drop (i + 1) es))) failed_here
      ∙ sym (ap (refusal_from q walks.past) rest) ∙ walks.left

  pub walks_end : (f : Fault) → failed ≡ Some f → Some (record { line = i + 1; fault = f }) ≡ refusal q es
  walks_end f is =
      ap (λ n. Some (record { line = n + 1; fault = f })) (sym walks.count)
      ∙ sym (ap (λ o. found (length walks.past + 1) o (refusal_from q (line_after walks.past e ∷ walks.past) (drop (i + 1) es))) is) ∙ left_here

  pub walks_on : (new : Table) → failed ≡ None → slice_get es i ≡ Some e → Puts (marks place e) i table new → Walks q es new place (i + 1)
  walks_on new is get put = record {
    past = line_after walks.past e ∷ walks.past;
    place = here;
    count = more_lines (length walks.past) i walks.count;
    stands = subst (λ (p : ℕ). Stands new es (record { at = p; event = e } ∷ walks.past)) here (stands_more es i place e walks.past table new get put walks.stands);
    left = sym (ap (λ o. found (length walks.past + 1) o (refusal_from q (line_after walks.past e ∷ walks.past) (drop (i + 1) es))) is) ∙ left_here;
  }

pub walks_done : (q : Question) (es : List Event) (table : Table) (at i : ℕ) → Walks q es table at i → length es ≤ i → None ≡ refusal q es
walks_done q es table at i walks all = sym (ap (refusal_from q walks.past) (nothing_behind es i all)) ∙ walks.left
