-- A note, and the step that puts the value back and passes the turn on, keep the invariant.
use mathlib.Core.Option as maybe
use Rattle.std.proofs.Common.{◌≡◌, ◌≢◌, ℕ, ◌+◌, ◌%◌, ◌^◌, ◌≤◌, List, [], ◌∷◌, length, get_or, set, Some, None, sym, refl, ap, ◌∙◌, subst, ⊎_elim, arith}
use Rattle.std.specs.Prelude.{Option}
use Rattle.std.specs.Option.{unwrap_or}
use Rattle.std.proofs.lemmas.Option.{none-some}
use Rattle.std.proofs.Math.Nat.{mod-add-mod}
use Rattle.std.proofs.Math.Arith.{lt_of_le-ne}
use mathlib.Core.Option.{some, none, some-ne-none}
use mathlib.Core.List.{IsPrefix}
use lib.ListN.{get_elem?}
use Rattle.atomic_table.specs.Table.{Step, step, keeps, gives, Allows}
use Rattle.atomic_table.proofs.Lists.{set_here}
use Rattle.sc_lock.specs.declared.kept.Kept.{Ghosts as Kept}
use Rattle.sc_lock.specs.declared.view.View.{View}
use Rattle.sc_lock.specs.declared.view.Stage.{Stage}
use Rattle.sc_lock.specs.declared.view.Stage.TheVariants.{Idle, Waiting, Holding, Noted, Joined}
use Rattle.sc_lock.specs.Invariant.{LockState, SeatsAreDisjoint, HasTurn, IsCurrent, StageInvariant, SeatInvariant, TableInvariant, LockInvariant}
use Rattle.sc_lock.specs.Journal.{ArePlacesIn, GrowsByAtMostOne, places_after}
use Rattle.sc_lock.specs.Views.{part_after, with_stage, ticket, ticket_in, ticket_count, ticket_count_in}
use Rattle.sc_lock.specs.Steps.{SeatState, holding, MayGiveBack, noted, AfterNote, AfterPassOn}
use Rattle.sc_lock.proofs.SumLemmas.{get_elem-inside}
use Rattle.sc_lock.proofs.PrefixLemmas.{IsPrefix-self, IsPrefix-more, length-IsPrefix}
use Rattle.sc_lock.proofs.PlaceLemmas.{ArePlacesIn-below, ArePlacesIn-longer, ArePlacesIn-after, Contains-places_after}
use Rattle.sc_lock.proofs.InvariantLemmas.{SeatsAreDisjoint-tickets, state_with, SeatInvariant-with, SeatInvariant-at, TableInvariant-moved}

-- a store puts the journal's length into the third word
words-noted : (ws : List ℕ) (a b c k : ℕ) → ws ≡ a ∷ b ∷ c ∷ [] → set ws 2 k ≡ a ∷ b ∷ k ∷ []
words-noted ws a b c k e = ap (λ (zs : List ℕ). set zs 2 k) e

-- an addition passes the second word on to the next ticket
words-served : (ws : List ℕ) (a b c : ℕ) → ws ≡ a ∷ (b % 2 ^ 64) ∷ c ∷ []
    → set ws 1 ((get_or ws 1 0 + 1) % 2 ^ 64) ≡ a ∷ ((b + 1) % 2 ^ 64) ∷ c ∷ []
words-served ws a b c e = ap (λ (zs : List ℕ). set zs 1 ((get_or zs 1 0 + 1) % 2 ^ 64)) e
    ∙ ap (λ (z : ℕ). a ∷ z ∷ c ∷ []) (mod-add-mod b (2 ^ 64) 1)

-- a seat that has a part after a note had one, and has the noted one
part_stays : {P : Type 0} (o : Option P) (p q : P) → part_after o p ≡ Some q → ((z : P) × (o ≡ Some z)) × (q ≡ p)
part_stays None p q e = absurd (none-some q e)
part_stays (Some z) p q e = ((z, refl), ap (λ o. unwrap_or o p) (sym e))

-- a prefix of a journal is one of the journal after, which has at most one entry more
IsPrefix-grows : {E : Type 0} (xs before after : List E) → GrowsByAtMostOne before after → IsPrefix xs before
    → IsPrefix xs after
IsPrefix-grows xs before after grows p = ⊎_elim (λ e. subst (IsPrefix xs) (sym e) p)
    (λ e. subst (IsPrefix xs) (sym e.1) (IsPrefix-more xs before (e.0 ∷ []) p)) grows

-- the first of the values that a seat has, or else d
abbrev first_held : {K : Type 0} → K → List (ℕ × Option K) → K
first_held d [] = d
first_held d (x ∷ xs) = unwrap_or x.1 d

module _ {K E P : Type 0} where
  -- the ticket of a seat that holds the value, and what was handed out to it, or else d
  abbrev held_in : ℕ × K → Stage K E P → ℕ × K
  held_in d Idle = d
  held_in d (Waiting t) = d
  held_in d (Holding t x) = (t, x)
  held_in d (Noted t j p) = d
  held_in d (Joined a b c e) = d

module _ {K E P : Type 0} (kept : Kept K E P) (origin : K) where
  open kept use {journal, sound, part, name, owned}

  -- the stage of another seat than the holder's keeps its invariant when journal and part are noted
  StageInvariant-noted : (n n' : LockState K E P) (v u : View K E P) → SeatsAreDisjoint v u
      → ticket v ≡ some n.served → n'.drawn ≡ n.drawn → n'.served ≡ n.served → (st : Stage K E P) → u.stage ≡ st
      → StageInvariant kept origin n st → StageInvariant kept origin n' st
  StageInvariant-noted n n' v u s at d e Idle is p = tt
  StageInvariant-noted n n' v u s at d e (Waiting q) is p = let a = p.0 in let b = p.1 in (omega arith, omega arith)
  StageInvariant-noted n n' v u s at d e (Holding q x) is p =
      absurd (SeatsAreDisjoint-tickets v u n.served q s at (ap ticket_in is) p.0.is_served)
  StageInvariant-noted n n' v u s at d e (Noted q j x) is p =
      absurd (SeatsAreDisjoint-tickets v u n.served q s at (ap ticket_in is) p.0.is_served)
  StageInvariant-noted n n' v u s at d e (Joined a b c f) is p = p

  -- where another seat is the keeper's, this one has no part
  no-part : (n : LockState K E P) (id i : ℕ) (v u : View K E P) → SeatInvariant kept origin n id v
      → SeatInvariant kept origin n i u → i ≢ id → (q : P) → u.part ≡ Some q → (o : Option P) → v.part ≡ o
      → v.part ≡ None
  no-part n id i v u f g other q e None is = is
  no-part n id i v u f g other q e (Some z) is = absurd (other ((g.part q e).0 ∙ sym (f.part z is).0))

  -- what the note shows
  note-shows : (v : View K E P) (t : ℕ) (x y : K) (st : Step (Option K)) (r : ℕ) → v.stage ≡ Holding t x
      → ArePlacesIn (places_after v.places (journal x) (journal y)) (journal y)
      → AfterNote kept st (holding v y) r (holding (noted kept v t x y) y)
  note-shows v t x y st r is own q z y' e f =
      let a : (t, x) ≡ (q, z) = ap (held_in (t, x)) (sym is ∙ e) in
      let b : y ≡ y' = ap (first_held y) f in (
        λ k. (noted kept v (a k).0 (a k).1 (b k), (0, Some y) ∷ []),
        subst
            (λ (u : K × K). ArePlacesIn (places_after v.places (journal u.0) (journal u.1)) (journal u.1))
            (λ k. ((a k).1, b k)) own,
      )

  -- the holder's own places, with the new entry's, are places in the noted journal
  noted-places : (n : LockState K E P) (id : ℕ) (v : View K E P) (x y : K) → SeatInvariant kept origin n id v
      → IsCurrent kept origin n x → MayGiveBack kept v x y
      → ArePlacesIn (places_after v.places (journal x) (journal y)) (journal y)
  noted-places n id v x y fit now given =
      let all = length-IsPrefix v.seen n.entries fit.seen in
      let same = ap length now.journal_is in
      let grown = length-IsPrefix (journal x) (journal y)
      (IsPrefix-grows (journal x) (journal x) (journal y) given.grows (IsPrefix-self (journal x))) in
      ArePlacesIn-after v.places (journal x) (journal y)
      (ArePlacesIn-longer v.places v.seen (journal x) fit.places (omega arith)) grown

  -- the state once y is noted in place of the value that is out
  abbrev state_noted : LockState K E P → K → LockState K E P
  state_noted n y = record {
    drawn = n.drawn;
    served = n.served;
    entries = journal y;
    part = part y;
    keeper = n.keeper;
    at_rest = maybe.none;
  }

  -- another seat than the holder's keeps its invariant when y is noted in place of x
  others-noted : (n : LockState K E P) (id i : ℕ) (v u : View K E P) (x y : K) → SeatInvariant kept origin n id v
      → IsCurrent kept origin n x → MayGiveBack kept v x y → ticket v ≡ some n.served → i ≢ id
      → SeatsAreDisjoint v u → SeatInvariant kept origin n i u → SeatInvariant kept origin (state_noted n y) i u
  others-noted n id i v u x y fit now given mine other d f = record {
    named = f.named;
    seen = IsPrefix-grows u.seen (journal x) (journal y) given.grows
        (subst (IsPrefix u.seen) (sym now.journal_is) f.seen);
    places = f.places;
    owner = λ p a b. let seen_all : u.seen ≡ journal x = f.owner p a b ∙ sym now.journal_is in
        ⊎_elim (λ g. seen_all ∙ sym g)
        (λ g.
        let owned_then = subst (λ (l : List E). owned l ≡ Some p) seen_all a in
        absurd (d.places p (given.allowed g.0 p g.1 owned_then) b)) given.grows;
    part = λ q e. let k = f.part q e in
        (k.0, k.1 ∙ sym (given.part_is (no-part n id i v u fit f other q e v.part refl) ∙ now.part_is));
    weight = f.weight;
    stage = StageInvariant-noted n (state_noted n y) v u d mine refl refl u.stage refl f.stage;
  }

  -- the holder notes the journal of the value y, which it will give back for x
  note_keeps : (slots id : ℕ) (v : View K E P) (t : ℕ) (x y : K) (new : ℕ) → v.stage ≡ Holding t x
      → new ≡ length (journal y) → MayGiveBack kept v x y
      → Allows (LockInvariant kept origin) slots id (holding v y) 2 (λ _. new)
      (λ _. AfterNote kept (step slots 2 new 0 none) (holding v y) new)
  note_keeps slots id v t x y new st is given s inv long at small =
      let n : LockState K E P = inv.0 in
      let r : TableInvariant kept origin n s = inv.1 in
      let fit : SeatInvariant kept origin n id v = r.each id v at in
      let place : StageInvariant kept origin n (Holding t x) = subst (StageInvariant kept origin n) st fit.stage in
      let turn : HasTurn n t = place.0 in
      let now : IsCurrent kept origin n x = place.1 in
      let w : View K E P = noted kept v t x y in
      let n' : LockState K E P = state_noted n y in
      let mine_at : ticket v ≡ some n.served = ap ticket_in st ∙ ap some turn.is_served in
      let one : ticket_count v ≡ 1 = ap ticket_count_in st in
      let heavy : ticket_count v ≤ v.weight = fit.weight in
      let own : ArePlacesIn (places_after v.places (journal x) (journal y)) (journal y) =
      noted-places n id v x y fit now given in
      let apart : (i : ℕ) (u : View K E P) → i ≢ id → get_elem? s.views i ≡ some u → SeatsAreDisjoint v u =
      λ i u other e. r.pairs id i v u (λ q. other (sym q)) at e in (
        w,
        keeps,
        tt,
        (
          n',
          TableInvariant-moved kept origin n n' s id v w (set s.words 2 new) s.homes r at
              (words-noted s.words _ _ _ new r.words
              ∙ ap (λ (k : ℕ). (n.drawn % 2 ^ 64) ∷ (n.served % 2 ^ 64) ∷ k ∷ []) is)
              (r.slots ∙ ap (λ (h : maybe.Option (Option K)). h ∷ []) turn.out) refl
              (ap (λ (z : ℕ). n.drawn + n.served + z) one ∙ omega arith)
              (λ i u other e f. others-noted n id i v u x y fit now given mine_at other (apart i u other e) f)
              record {
                named = fit.named;
                seen = IsPrefix-self (journal y);
                places = own;
                owner = λ p a b. refl;
                part = λ q e. let k = part_stays v.part (part y) q e in ((fit.part k.0.0 k.0.1).0, k.1);
                weight = omega arith;
                stage = (record { is_served = turn.is_served; is_drawn = turn.is_drawn; out = refl }, refl, refl);
              }
              (λ i u other e f d. record {
                places = λ q a b. ⊎_elim (λ h. d.places q h b)
                    (λ h.
                    let below = ArePlacesIn-below u.places u.seen q f.places b in
                    let all = length-IsPrefix u.seen n.entries f.seen in
                    let same = ap length now.journal_is in
                    let end = h.0 in absurd (omega arith))
                    (Contains-places_after v.places (journal x) (journal y) q a);
                tickets = λ q a b. d.tickets q (ap ticket_in st ∙ a) b;
              })
              (id, w, set_here s.views id w (get_elem-inside s.views id v at), ap some turn.is_served, refl),
        ),
        note-shows v t x y (step slots 2 new 0 none) new st own,
      )

  pub note_allowed : (slots id : ℕ) (me : SeatState K E P) (v : View K E P) (t : ℕ) (x y : K) (new : ℕ)
      → me ≡ holding v y → v.stage ≡ Holding t x → new ≡ length (journal y) → MayGiveBack kept v x y
      → Allows (LockInvariant kept origin) slots id me 2 (λ _. new)
      (λ _. AfterNote kept (step slots 2 new 0 none) me new)
  note_allowed slots id me v t x y new e st is given = subst
      (λ (m : SeatState K E P). Allows (LockInvariant kept origin) slots id m 2 (λ _. new)
      (λ _. AfterNote kept (step slots 2 new 0 none) m new))
      (sym e) (note_keeps slots id v t x y new st is given)

  -- the stage of another seat than the holder's keeps its invariant when the turn is passed on
  StageInvariant-passed : (n : LockState K E P) (v u : View K E P) (y : Option K) → SeatsAreDisjoint v u
      → ticket v ≡ some n.served → (st : Stage K E P) → u.stage ≡ st → StageInvariant kept origin n st
      → StageInvariant kept origin (state_with n n.drawn (n.served + 1) (maybe.some y)) st
  StageInvariant-passed n v u y s at Idle is p = tt
  StageInvariant-passed n v u y s at (Waiting q) is p =
      let b = p.1 in
      let c : q ≢ n.served = SeatsAreDisjoint-tickets v u n.served q s at (ap ticket_in is) in
      let l = lt_of_le-ne p.0 (λ e. c (sym e)) in (omega arith, b)
  StageInvariant-passed n v u y s at (Holding q x) is p =
      absurd (SeatsAreDisjoint-tickets v u n.served q s at (ap ticket_in is) p.0.is_served)
  StageInvariant-passed n v u y s at (Noted q j x) is p =
      absurd (SeatsAreDisjoint-tickets v u n.served q s at (ap ticket_in is) p.0.is_served)
  StageInvariant-passed n v u y s at (Joined a b c f) is p = p

  -- the holder puts the value y back, whose journal it has noted, and passes the turn on
  pass_on_keeps : (slots id : ℕ) (v : View K E P) (t : ℕ) (j : List E) (p : P) (y : K) → v.stage ≡ Noted t j p
      → sound y → journal y ≡ j → part y ≡ p → name y ≡ name origin
      → Allows (LockInvariant kept origin) slots id (holding v y) 1 (λ n. (n + 1) % 2 ^ 64)
      (AfterPassOn (step slots 1 1 0 none) (holding v y))
  pass_on_keeps slots id v t j p y st sound_is journal_is part_is name_is s inv long at small =
      let n : LockState K E P = inv.0 in
      let r : TableInvariant kept origin n s = inv.1 in
      let fit : SeatInvariant kept origin n id v = r.each id v at in
      let place : StageInvariant kept origin n (Noted t j p) = subst (StageInvariant kept origin n) st fit.stage in
      let turn : HasTurn n t = place.0 in
      let below = turn.is_drawn in
      let w : View K E P = with_stage v Idle in
      let n' : LockState K E P = state_with n n.drawn (n.served + 1) (maybe.some (Some y)) in
      let mine_at : ticket v ≡ some n.served = ap ticket_in st ∙ ap some turn.is_served in
      let one : ticket_count v ≡ 1 = ap ticket_count_in st in (
        w,
        gives,
        tt,
        (
          n',
          TableInvariant-moved kept origin n n' s id v w (set s.words 1 ((get_or s.words 1 0 + 1) % 2 ^ 64))
              (set s.homes 0 (maybe.some (Some y))) r at (words-served s.words _ n.served _ r.words)
              (ap (λ (hs : List (maybe.Option (Option K))). set hs 0 (maybe.some (Some y))) r.slots) refl
              (ap (λ (z : ℕ). n.drawn + n.served + z) one ∙ omega arith)
              (λ i u other e f.
              SeatInvariant-with kept origin n n.drawn (n.served + 1) (maybe.some (Some y)) i u
              (StageInvariant-passed n v u (Some y) (r.pairs id i v u (λ q. other (sym q)) at e) mine_at u.stage refl)
              f)
              (SeatInvariant-at kept origin n n.drawn (n.served + 1) (maybe.some (Some y)) id v Idle fit (omega arith)
              tt) (λ i u other e f d. record { places = d.places; tickets = λ q a b. some-ne-none q (sym a) }) (
                sound_is,
                record {
                  journal_is = journal_is ∙ place.1;
                  part_is = part_is ∙ place.2;
                  name_is = name_is;
                },
              ),
        ),
        refl,
      )

  pub pass_on_allowed : (slots id : ℕ) (me : SeatState K E P) (v : View K E P) (t : ℕ) (j : List E) (p : P) (y : K)
      → me ≡ holding v y → v.stage ≡ Noted t j p → sound y → journal y ≡ j → part y ≡ p → name y ≡ name origin
      → Allows (LockInvariant kept origin) slots id me 1 (λ n. (n + 1) % 2 ^ 64)
      (AfterPassOn (step slots 1 1 0 none) me)
  pass_on_allowed slots id me v t j p y e st a b c d = subst
      (λ (m : SeatState K E P). Allows (LockInvariant kept origin) slots id m 1 (λ n. (n + 1) % 2 ^ 64)
      (AfterPassOn (step slots 1 1 0 none) m))
      (sym e) (pass_on_keeps slots id v t j p y st a b c d)
