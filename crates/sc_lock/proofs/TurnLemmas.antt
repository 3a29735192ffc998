-- A draw and a look keep the invariant.
use mathlib.Core.Option as maybe
use Rattle.std.proofs.Common.{◌≡◌, ◌≢◌, ℕ, ◌+◌, ◌%◌, ◌^◌, ◌<◌, ◌≤◌, List, [], ◌∷◌, length, get_or, set, Some, None, sym, refl, ap, ◌∙◌, subst, arith}
use Rattle.std.specs.Prelude.{Option}
use Rattle.std.proofs.Math.Nat.{mod-add-mod}
use mathlib.Core.Bool.{false≢true}
use mathlib.Core.Option.{some, none, some-injective, some-ne-none}
use mathlib.Core.Logic.{dite}
use mathlib.Core.List.{IsPrefix}
use native.Mathlib.Decide.{ℕ_discrete}
use lib.ListN.{get_elem?}
use lib.Seq.{set-get_or}
use Rattle.atomic_table.specs.Table.{Act, Step, step, keeps, takes, stepped, Allows, Valid, carried_after}
use Rattle.atomic_table.proofs.Lists.{set_here, set_again, one_turn}
use Rattle.sc_lock.specs.declared.kept.Kept.{Ghosts as Kept}
use Rattle.sc_lock.specs.declared.view.View.{View}
use Rattle.sc_lock.specs.declared.view.Stage.{Stage}
use Rattle.sc_lock.specs.declared.view.Stage.TheVariants.{Idle, Waiting, Holding, Noted, Joined}
use Rattle.sc_lock.specs.Invariant.{LockState, TableState, HasTurn, IsCurrent, StageInvariant, SeatInvariant, ValueInvariant, TableInvariant, LockInvariant}
use Rattle.sc_lock.specs.Views.{with_stage, ticket_in, ticket_count, ticket_count_in, has_value, weight_of}
use Rattle.sc_lock.specs.Steps.{SeatState, holding, AfterDraw, AfterLook, IsHandedOut}
use Rattle.sc_lock.proofs.SumLemmas.{sum_by-le, get_elem-inside}
use Rattle.sc_lock.proofs.InvariantLemmas.{state_with, SeatInvariant-with, SeatInvariant-at, TableInvariant-moved, IsCurrent-with, ValueInvariant-with, ticket-in-range}

-- an addition passes the first word on to the next ticket
words-drawn : (ws : List ℕ) (a b c : ℕ) → ws ≡ (a % 2 ^ 64) ∷ b ∷ c ∷ []
    → set ws 0 ((get_or ws 0 0 + 1) % 2 ^ 64) ≡ ((a + 1) % 2 ^ 64) ∷ b ∷ c ∷ []
words-drawn ws a b c e = ap (λ (zs : List ℕ). set zs 0 ((get_or zs 0 0 + 1) % 2 ^ 64)) e
    ∙ ap (λ (z : ℕ). z ∷ b ∷ c ∷ []) (mod-add-mod a (2 ^ 64) 1)

module _ {K E P : Type 0} (kept : Kept K E P) (origin : K) where
  open kept use {journal, sound, part, name, owned}

  HasTurn-drawn : (n : LockState K E P) (t : ℕ) → HasTurn n t
      → HasTurn (state_with n (n.drawn + 1) n.served n.at_rest) t
  HasTurn-drawn n t h = let below = h.is_drawn in
      record { is_served = h.is_served; is_drawn = omega arith; out = h.out }

  -- a stage's invariant stays when a ticket is drawn
  StageInvariant-drawn : (n : LockState K E P) (st : Stage K E P) → StageInvariant kept origin n st
      → StageInvariant kept origin (state_with n (n.drawn + 1) n.served n.at_rest) st
  StageInvariant-drawn n Idle p = tt
  StageInvariant-drawn n (Waiting q) p = let below = p.1 in (p.0, omega arith)
  StageInvariant-drawn n (Holding q x) p =
      (HasTurn-drawn n q p.0, IsCurrent-with kept origin n (n.drawn + 1) n.served n.at_rest x p.1)
  StageInvariant-drawn n (Noted q j x) p = (HasTurn-drawn n q p.0, p.1, p.2)
  StageInvariant-drawn n (Joined a b c d) p = p

  -- a draw keeps the invariant
  pub draw_keeps : (slots id : ℕ) (me : SeatState K E P) → me.0.stage ≡ Idle → 0 < me.0.weight
      → Allows (LockInvariant kept origin) slots id me 0 (λ n. (n + 1) % 2 ^ 64)
      (AfterDraw (step slots 0 1 0 none) me)
  draw_keeps slots id me idle heavy s inv long at small =
      let n : LockState K E P = inv.0 in
      let r : TableInvariant kept origin n s = inv.1 in
      let v : View K E P = me.0 in
      let t : ℕ = n.drawn in
      let w : View K E P = with_stage v (Waiting t) in
      let fit : SeatInvariant kept origin n id v = r.each id v at in
      let drawn = r.tickets in
      let none_waits : ticket_count v ≡ 0 = ap ticket_count_in idle in
      let n' : LockState K E P = state_with n (n.drawn + 1) n.served n.at_rest in (
        w,
        keeps,
        tt,
        (
          n',
          TableInvariant-moved kept origin n n' s id v w (set s.words 0 ((get_or s.words 0 0 + 1) % 2 ^ 64)) s.homes r
              at (words-drawn s.words n.drawn (n.served % 2 ^ 64) (length n.entries) r.words) r.slots refl (omega arith)
              (λ i u other e f.
              SeatInvariant-with kept origin n (n.drawn + 1) n.served n.at_rest i u (StageInvariant-drawn n u.stage) f)
              (SeatInvariant-at kept origin n (n.drawn + 1) n.served n.at_rest id v (Waiting t) fit (omega arith)
              (omega arith, omega arith))
              (λ i u other e f d. record {
                places = d.places;
                tickets = λ q a b.
                    let below = (ticket-in-range kept origin n u.stage q f.stage b).1 in
                    let same = some-injective n.drawn q a in absurd (omega arith);
              })
              (ValueInvariant-with kept origin n (n.drawn + 1) s.views id v w n.at_rest at (ap has_value idle) r.value),
        ),
        (t, ap (λ (zs : List ℕ). get_or zs 0 0) r.words, refl),
      )

  -- a stage's invariant stays when the value is taken, since no other seat had it
  StageInvariant-taken : (n : LockState K E P) (x : Option K) (st : Stage K E P) → n.at_rest ≡ some x
      → StageInvariant kept origin n st → StageInvariant kept origin (state_with n n.drawn n.served maybe.none) st
  StageInvariant-taken n x Idle h p = tt
  StageInvariant-taken n x (Waiting q) h p = p
  StageInvariant-taken n x (Holding q y) h p = absurd (some-ne-none x (sym h ∙ p.0.out))
  StageInvariant-taken n x (Noted q j y) h p = absurd (some-ne-none x (sym h ∙ p.0.out))
  StageInvariant-taken n x (Joined a b c d) h p = p

  -- the tickets that are out are fewer than 2 ^ 64
  tickets-few : (n : LockState K E P) (s : TableState K E P) → TableInvariant kept origin n s
      → n.drawn < n.served + 2 ^ 64
  tickets-few n s r =
      let a = r.tickets in
      let b = r.weights in
      let c = sum_by-le ticket_count weight_of s.views (λ i v e. (r.each i v e).weight) in omega arith

  -- a look that finds another ticket served changes nothing
  miss : (n : LockState K E P) (s : TableState K E P) (id : ℕ) (v : View K E P) → TableInvariant kept origin n s
      → get_elem? s.views id ≡ some v
      → TableInvariant kept origin n
      record { words = set s.words 1 (get_or s.words 1 0); homes = s.homes; views = set s.views id v }
  miss n s id v r at = subst
      (λ (t : List ℕ × List (View K E P)).
      TableInvariant kept origin n record { words = t.0; homes = s.homes; views = t.1 })
      (λ k. (sym (set-get_or s.words 1 0) k, sym (set_again s.views id v at) k)) r

  -- what a seat that waits for the ticket t has after it took the value
  abbrev Got : SeatState K E P → ℕ → SeatState K E P → Type 0
  Got before t after =
      (x : K) × (after ≡ holding (with_stage before.0 (Holding t x)) x) × IsHandedOut kept before.0 x

  -- where the value is out, another seat has the ticket that is served
  not-out : (n : LockState K E P) (s : TableState K E P) (id t : ℕ) (v : View K E P)
      → TableInvariant kept origin n s → get_elem? s.views id ≡ some v → v.stage ≡ Waiting t → t ≡ n.served
      → ValueInvariant kept origin n s.views maybe.none → ⊥
  not-out n s id t v r at st now l =
      let same : l.0 ≡ id → v ≡ l.1 = λ e.
      some-injective v l.1 (sym at ∙ ap (get_elem? s.views) (sym e) ∙ l.2) in
      let other : l.0 ≢ id = λ e.
      false≢true (sym (ap has_value st) ∙ ap (λ (z : View K E P). has_value z.stage) (same e) ∙ l.4) in
      (r.pairs id l.0 v l.1 (λ e. other (sym e)) at l.2).tickets n.served (ap ticket_in st ∙ ap some now) l.3

  -- the value that is at rest is handed out as the seat may rely on
  is-handed-out : (n : LockState K E P) (id : ℕ) (v : View K E P) (x : K) → SeatInvariant kept origin n id v
      → sound x → IsCurrent kept origin n x → IsHandedOut kept v x
  is-handed-out n id v x fit is_sound now = record {
    sound_is = is_sound;
    seen = subst (IsPrefix v.seen) (sym now.journal_is) fit.seen;
    owner = λ h. now.journal_is ∙ sym (fit.owner h.0 h.1 h.2);
    part_is = λ p e. now.part_is ∙ sym (fit.part p e).1;
    name_is = λ y e. now.name_is ∙ sym (fit.named y e);
  }

  -- the seat whose ticket is served takes the value
  hit : (slots id : ℕ) (me : SeatState K E P) (t : ℕ) (s : TableState K E P) (n : LockState K E P)
      → TableInvariant kept origin n s → get_elem? s.views id ≡ some me.0 → me.0.stage ≡ Waiting t → me.1 ≡ []
      → t ≡ n.served → (h : maybe.Option (Option K)) → n.at_rest ≡ h → ValueInvariant kept origin n s.views h
      → (w : View K E P) × (a : Act (Option K)) × Valid s.homes me.1 a
      × LockInvariant kept origin (stepped s 1 (get_or s.words 1 0) id me.1 w a) × Got me t (w, carried_after me.1 a)
  hit slots id me t s n r at st empty now maybe.none is l = absurd (not-out n s id t me.0 r at st now l)
  hit slots id me t s n r at st empty now (maybe.some None) is l = absurd l
  hit slots id me t s n r at st empty now (maybe.some (Some x)) is l =
      let v : View K E P = me.0 in
      let w : View K E P = with_stage v (Holding t x) in
      let fit : SeatInvariant kept origin n id v = r.each id v at in
      let n' : LockState K E P = state_with n n.drawn n.served maybe.none in
      let place : StageInvariant kept origin n (Waiting t) = subst (StageInvariant kept origin n) st fit.stage in
      let below = place.1 in
      let one : ticket_count v ≡ 1 = ap ticket_count_in st in
      let heavy : ticket_count v ≤ v.weight = fit.weight in
      let turn : HasTurn n' t = record { is_served = now; is_drawn = omega arith; out = refl } in
      let homes : set s.homes 0 maybe.none ≡ maybe.none ∷ [] =
      ap (λ (hs : List (maybe.Option (Option K))). set hs 0 maybe.none) r.slots in (
        w,
        takes 0 (Some x),
        ap (λ (hs : List (maybe.Option (Option K))). get_elem? hs 0) r.slots ∙ ap some is,
        (
          n',
          TableInvariant-moved kept origin n n' s id v w (set s.words 1 (get_or s.words 1 0))
              (set s.homes 0 maybe.none) r at (set-get_or s.words 1 0 ∙ r.words) homes refl
              (ap (λ (z : ℕ). n.drawn + n.served + z) one ∙ omega arith)
              (λ i u other e f.
              SeatInvariant-with kept origin n n.drawn n.served maybe.none i u
              (StageInvariant-taken n (Some x) u.stage is) f)
              (SeatInvariant-at kept origin n n.drawn n.served maybe.none id v (Holding t x) fit (omega arith)
              (turn, IsCurrent-with kept origin n n.drawn n.served maybe.none x l.1))
              (λ i u other e f d.
              record { places = d.places; tickets = λ q a b. d.tickets q (ap ticket_in st ∙ a) b })
              (id, w, set_here s.views id w (get_elem-inside s.views id v at), ap some now, refl),
        ),
        (x, (λ k. (w, (0, Some x) ∷ empty k)), is-handed-out n id v x fit l.0 l.1),
      )

  -- what a look shows that finds the seat's ticket served
  look-shows-hit : (st : Step (Option K)) (before after : SeatState K E P) (t r : ℕ) → before.0.stage ≡ Waiting t
      → r ≡ t % 2 ^ 64 → Got before t after → AfterLook kept st before r after
  look-shows-hit st before after t r is e got q at =
      let same : t ≡ q = some-injective t q (ap ticket_in (sym is ∙ at)) in (
        λ _. subst (λ (z : ℕ). Got before z after) same got,
        λ ne. absurd (ne (e ∙ ap (λ (z : ℕ). z % 2 ^ 64) same)),
      )

  -- what a look shows that finds another ticket served
  look-shows-miss : (st : Step (Option K)) (before : SeatState K E P) (t r : ℕ) → before.0.stage ≡ Waiting t
      → r ≢ t % 2 ^ 64 → AfterLook kept st before r before
  look-shows-miss st before t r is ne q at =
      let same : q ≡ t = some-injective q t (ap ticket_in (sym at ∙ is)) in
      (λ e. absurd (ne (e ∙ ap (λ (z : ℕ). z % 2 ^ 64) same)), λ _. refl)

  -- a look keeps the invariant
  pub look_keeps : (slots id : ℕ) (me : SeatState K E P) (t : ℕ) → me.0.stage ≡ Waiting t → me.1 ≡ []
      → Allows (LockInvariant kept origin) slots id me 1 (λ n. n) (AfterLook kept (step slots 1 0 0 none) me)
  look_keeps slots id me t st empty s inv long at small =
      let n : LockState K E P = inv.0 in
      let r : TableInvariant kept origin n s = inv.1 in
      let word : ℕ = get_or s.words 1 0 in
      let place : StageInvariant kept origin n (Waiting t) =
      subst (StageInvariant kept origin n) st (r.each id me.0 at).stage in
      let below = place.1 in
      let from = place.0 in
      let few = tickets-few n s r in
      let found : word ≡ n.served % 2 ^ 64 = ap (λ (ws : List ℕ). get_or ws 1 0) r.words in
      dite (ℕ_discrete word (t % 2 ^ 64))
      (λ e.
      let now : t ≡ n.served = sym (one_turn n.served t (2 ^ 64) from (omega arith) (sym found ∙ e)) in
      let a = hit slots id me t s n r at st empty now n.at_rest refl r.value in
      let after : SeatState K E P = (a.0, carried_after me.1 a.1) in
      (a.0, a.1, a.2, a.3, look-shows-hit (step slots 1 0 0 none) me after t word st e a.4))
      (λ ne. (me.0, keeps, tt, (n, miss n s id me.0 r at), look-shows-miss (step slots 1 0 0 none) me t word st ne))
