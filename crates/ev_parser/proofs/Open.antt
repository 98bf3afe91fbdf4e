-- A line is opened as the machine begins it.
use Rattle.std.proofs.Common.{◌≡◌, List, [], ◌∷◌, ◌++◌, Option, Some, None, refl, sym, ◌∙◌, subst, ap, append_assoc}
use Rattle.def_syntax.specs.declared.token.TokenKind.{TokenKind}
use Rattle.def_syntax.specs.declared.syntax.Line.{Line}
use Rattle.def_syntax.specs.declared.syntax.Tail.{Tail}
use Rattle.def_syntax.specs.declared.place.Place.{Place}
use Rattle.ev_parser.specs.declared.draft.Waiting.{Waiting}
use Rattle.ev_parser.specs.declared.draft.Waiting.TheVariants as waits
use Rattle.def_syntax.specs.Grammar.{form_at, tower_of}
use Rattle.def_syntax.specs.Machine.{Frame, after, Begun, choose, under, begin}
use Rattle.ev_parser.specs.Draft.{ShowsFrames, Opened}
use Rattle.def_syntax.proofs.Complete.{begin_unrolls, begin_tower, under_of}

pub opened_form : (l : Line) (k : TokenKind) (q : Place) (ws : List Waiting) → form_at l k ≡ Some q → Opened (begin l k) (Some q) ws ws
opened_form l k q ws h =
    let e : begin l k ≡ Some (q, []) = begin_unrolls l k ∙ ap (λ (o : Option Place). choose o (under_of (tower_of l) k)) h in
    subst (λ (b : Begun). Opened b (Some q) ws ws) (sym e) (refl, λ ns frs s. s)

pub opened_none : (l : Line) (k : TokenKind) (ws vs : List Waiting) → form_at l k ≡ None → tower_of l ≡ None → Opened (begin l k) None ws vs
opened_none l k ws vs h d =
    let e : begin l k ≡ None = begin_unrolls l k ∙ ap (λ (o : Option Place). choose o (under_of (tower_of l) k)) h ∙ ap (λ (o : Option (Line × Tail)). under_of o k) d in
    subst (λ (b : Begun). Opened b None ws vs) (sym e) tt

under_opened : (b : Begun) (c : Tail) (r : Option Place) (ws vs : List Waiting) → Opened b r (ws ++ waits.After c ∷ []) vs → Opened (under c b) r ws vs
under_opened None c None ws vs h = tt
under_opened None c (Some q) ws vs h = absurd h
under_opened (Some b) c None ws vs h = absurd h
under_opened (Some b) c (Some q) ws vs h = (h.0, λ ns frs s. subst (λ (x : List Frame). ShowsFrames ns vs x) (sym (append_assoc b.1 (after c ∷ []) frs)) (h.1 ns (after c ∷ frs) (ws, waits.After c, refl, refl, s)))

pub opened_tower : (l m : Line) (c : Tail) (k : TokenKind) (r : Option Place) (ws vs : List Waiting) → form_at l k ≡ None → tower_of l ≡ Some (m, c) → Opened (begin m k) r (ws ++ waits.After c ∷ []) vs → Opened (begin l k) r ws vs
opened_tower l m c k r ws vs h d o =
    let e : begin l k ≡ under c (begin m k) = begin_tower l m c k d ∙ ap (λ (x : Option Place). choose x (under c (begin m k))) h in
    subst (λ (b : Begun). Opened b r ws vs) (sym e) (under_opened (begin m k) c r ws vs o)
