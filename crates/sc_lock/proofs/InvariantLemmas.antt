-- What stays of the invariant where one seat's view changes.
use mathlib.Core.Option as maybe
use Rattle.std.proofs.Common.{◌≡◌, ◌≢◌, ℕ, ◌+◌, ◌%◌, ◌^◌, ◌<◌, ◌≤◌, List, [], ◌∷◌, length, set, Some, None, false, sym, ap, ◌∙◌, subst, ⊎_elim, arith}
use Rattle.std.specs.Prelude.{Option}
use Rattle.std.specs.List.{Contains}
use mathlib.Core.Bool.{false≢true}
use mathlib.Core.Option.{some, some-injective, some-ne-none}
use lib.ListN.{get_elem?}
use Rattle.atomic_table.proofs.Lists.{at_set, set_else}
use Rattle.sc_lock.specs.declared.kept.Kept.{Ghosts as Kept}
use Rattle.sc_lock.specs.declared.view.View.{View}
use Rattle.sc_lock.specs.declared.view.Stage.{Stage}
use Rattle.sc_lock.specs.declared.view.Stage.TheVariants.{Idle, Waiting, Holding, Noted, Joined}
use Rattle.sc_lock.specs.Invariant.{LockState, TableState, SeatsAreDisjoint, HasTurn, IsCurrent, StageInvariant, SeatInvariant, ValueInvariant, TableInvariant}
use Rattle.sc_lock.specs.Views.{with_stage, ticket, ticket_in, ticket_count, ticket_count_in, has_value, weight_of}
use Rattle.sc_lock.proofs.SumLemmas.{sum_by-set-at}
use Rattle.sc_lock.proofs.PlaceLemmas.{Contains-none}

-- every seat
abbrev pub Any : ℕ → Type 0
Any i = Unit {0}

module _ {K E P : Type 0} where
  -- whichever comes first
  pub SeatsAreDisjoint-sym : (v w : View K E P) → SeatsAreDisjoint v w → SeatsAreDisjoint w v
  SeatsAreDisjoint-sym v w d = record { places = λ p a b. d.places p b a; tickets = λ t a b. d.tickets t b a }

  -- a seat with no places and no ticket is disjoint from all
  pub SeatsAreDisjoint-blank : (u z : View K E P) → z.places ≡ [] → ticket z ≡ maybe.none → SeatsAreDisjoint u z
  SeatsAreDisjoint-blank u z empty no_ticket = record {
    places = λ p a b. Contains-none p (subst (λ (l : List ℕ). Contains l p) empty b);
    tickets = λ q a b. some-ne-none q (sym b ∙ no_ticket);
  }

  -- two seats have no ticket in common
  pub SeatsAreDisjoint-tickets : (v u : View K E P) (t q : ℕ) → SeatsAreDisjoint v u → ticket v ≡ some t
      → ticket u ≡ some q → q ≢ t
  SeatsAreDisjoint-tickets v u t q d a b e = d.tickets t a (b ∙ ap some e)

  served-in-range : (n : LockState K E P) (q t : ℕ) → HasTurn n q → q ≡ t → (n.served ≤ t) × (t < n.drawn)
  served-in-range n q t h e = let same = h.is_served in let below = h.is_drawn in (omega arith, omega arith)

  -- what holds of a seat's new view, and of each other seat, holds of all seats once it has that view
  pub each-set : (Holds : ℕ → View K E P → Type 0) (views : List (View K E P)) (me : ℕ) (w : View K E P) → Holds me w
      → ((i : ℕ) (u : View K E P) → i ≢ me → get_elem? views i ≡ some u → Holds i u)
      → (i : ℕ) (u : View K E P) → get_elem? (set views me w) i ≡ some u → Holds i u
  each-set Holds views me w mine others i u e = ⊎_elim
      (λ t. subst (λ (x : ℕ × View K E P). Holds x.0 x.1) (λ k. (sym t.0 k, t.1 k)) mine)
      (λ t. others i u t.0 t.1) (at_set views me i w u e)

  -- of the seats with these numbers any two are disjoint
  abbrev pub ArePairwiseDisjoint : (ℕ → Type 0) → List (View K E P) → Type 0
  ArePairwiseDisjoint Among views =
      (i j : ℕ) (u x : View K E P) → Among i → Among j → i ≢ j → get_elem? views i ≡ some u
      → get_elem? views j ≡ some x → SeatsAreDisjoint u x

  -- seats stay disjoint where one has a new view, if that is disjoint from each other seat's
  pub pairs-set : (Among : ℕ → Type 0) (views : List (View K E P)) (me : ℕ) (w : View K E P)
      → ((i : ℕ) (u : View K E P) → Among i → i ≢ me → get_elem? views i ≡ some u → SeatsAreDisjoint w u)
      → ArePairwiseDisjoint (λ i. Among i × (i ≢ me)) views → ArePairwiseDisjoint Among (set views me w)
  pairs-set Among views me w mine others i j u x in_i in_j ne ei ej = ⊎_elim
      (λ ti.
      ⊎_elim (λ tj. absurd (ne (ti.0 ∙ sym tj.0)))
      (λ tj. subst (λ (z : View K E P). SeatsAreDisjoint z x) ti.1 (mine j x in_j tj.0 tj.1))
      (at_set views me j w x ej))
      (λ ti.
      ⊎_elim
      (λ tj. subst (SeatsAreDisjoint u) tj.1 (SeatsAreDisjoint-sym w u (mine i u in_i ti.0 ti.1)))
      (λ tj. others i j u x (in_i, ti.0) (in_j, tj.0) ne ti.1 tj.1) (at_set views me j w x ej))
      (at_set views me i w u ei)

  -- the state, with other tickets, and the value at rest or not
  abbrev pub state_with : LockState K E P → ℕ → ℕ → maybe.Option (Option K) → LockState K E P
  state_with n d s h = record n { drawn = d; served = s; at_rest = h }

module _ {K E P : Type 0} (kept : Kept K E P) (origin : K) where
  -- a seat's invariant stays if its stage's does
  pub SeatInvariant-with : (n : LockState K E P) (d s : ℕ) (h : maybe.Option (Option K)) (i : ℕ) (u : View K E P)
      → (StageInvariant kept origin n u.stage → StageInvariant kept origin (state_with n d s h) u.stage)
      → SeatInvariant kept origin n i u → SeatInvariant kept origin (state_with n d s h) i u
  SeatInvariant-with n d s h i u moved f = record {
    named = f.named;
    seen = f.seen;
    places = f.places;
    owner = f.owner;
    part = f.part;
    weight = f.weight;
    stage = moved f.stage;
  }

  -- a seat's invariant holds at another stage, if that stage's does and the seat weighs as much as its ticket
  pub SeatInvariant-at : (n : LockState K E P) (d s : ℕ) (h : maybe.Option (Option K)) (i : ℕ) (v : View K E P)
      (stage : Stage K E P) → SeatInvariant kept origin n i v → ticket_count_in stage ≤ v.weight
      → StageInvariant kept origin (state_with n d s h) stage
      → SeatInvariant kept origin (state_with n d s h) i (with_stage v stage)
  SeatInvariant-at n d s h i v stage f heavy holds = record {
    named = f.named;
    seen = f.seen;
    places = f.places;
    owner = f.owner;
    part = f.part;
    weight = heavy;
    stage = holds;
  }

  -- the table's invariant stays where one seat's view becomes w
  pub TableInvariant-moved : (n n' : LockState K E P) (s : TableState K E P) (me : ℕ) (v w : View K E P)
      (words : List ℕ) (homes : List (maybe.Option (Option K))) → TableInvariant kept origin n s
      → get_elem? s.views me ≡ some v
      → words ≡ (n'.drawn % 2 ^ 64) ∷ (n'.served % 2 ^ 64) ∷ length n'.entries ∷ []
      → homes ≡ n'.at_rest ∷ [] → w.weight ≡ v.weight
      → n'.drawn + n.served + ticket_count v ≡ n'.served + n.drawn + ticket_count w
      → ((i : ℕ) (u : View K E P) → i ≢ me → get_elem? s.views i ≡ some u → SeatInvariant kept origin n i u
      → SeatInvariant kept origin n' i u)
      → SeatInvariant kept origin n' me w
      → ((i : ℕ) (u : View K E P) → i ≢ me → get_elem? s.views i ≡ some u → SeatInvariant kept origin n i u
      → SeatsAreDisjoint v u → SeatsAreDisjoint w u)
      → ValueInvariant kept origin n' (set s.views me w) n'.at_rest
      → TableInvariant kept origin n' record { words = words; homes = homes; views = set s.views me w }
  TableInvariant-moved n n' s me v w words homes r at ws hs heavy count others mine disjoint value = record {
    words = ws;
    slots = hs;
    weights = let t = sum_by-set-at weight_of s.views me v w at in let a = r.weights in omega arith;
    tickets = let t = sum_by-set-at ticket_count s.views me v w at in let a = r.tickets in omega arith;
    each = each-set (SeatInvariant kept origin n') s.views me w mine (λ i u other e. others i u other e (r.each i u e));
    pairs = λ i j u x ne. pairs-set Any s.views me w (λ i u _ other e. moved i u other e)
        (λ i j u x _ _. r.pairs i j u x) i j u x tt tt ne;
    value = value;
  }
    where
      moved : (i : ℕ) (u : View K E P) → i ≢ me → get_elem? s.views i ≡ some u → SeatsAreDisjoint w u
      moved i u other e = disjoint i u other e (r.each i u e) (r.pairs me i v u (λ q. other (sym q)) at e)

  -- whether a value is the current one depends on the journal and the part alone
  pub IsCurrent-with : (n : LockState K E P) (d s : ℕ) (h : maybe.Option (Option K)) (x : K)
      → IsCurrent kept origin n x → IsCurrent kept origin (state_with n d s h) x
  IsCurrent-with n d s h x is =
      record { journal_is = is.journal_is; part_is = is.part_is; name_is = is.name_is }

  -- while a seat has no value, its step leaves the value where it is
  pub ValueInvariant-with : (n : LockState K E P) (d : ℕ) (views : List (View K E P)) (me : ℕ) (v w : View K E P)
      (h : maybe.Option (Option K)) → get_elem? views me ≡ some v → has_value v.stage ≡ false
      → ValueInvariant kept origin n views h
      → ValueInvariant kept origin (state_with n d n.served n.at_rest) (set views me w) h
  ValueInvariant-with n d views me v w (maybe.some (Some x)) at without l =
      (l.0, IsCurrent-with n d n.served n.at_rest x l.1)
  ValueInvariant-with n d views me v w (maybe.some None) at without l = l
  ValueInvariant-with n d views me v w maybe.none at without l =
      let same : l.0 ≡ me → v ≡ l.1 = λ e.
      some-injective v l.1 (sym at ∙ ap (get_elem? views) (sym e) ∙ l.2) in
      let other : l.0 ≢ me = λ e.
      absurd (false≢true (sym without ∙ ap (λ (z : View K E P). has_value z.stage) (same e) ∙ l.4)) in
      (l.0, l.1, set_else views me l.0 w other ∙ l.2, l.3, l.4)

  -- a seat's ticket is one of those that are out
  pub ticket-in-range : (n : LockState K E P) (st : Stage K E P) (t : ℕ) → StageInvariant kept origin n st
      → ticket_in st ≡ some t → (n.served ≤ t) × (t < n.drawn)
  ticket-in-range n Idle t p e = absurd (some-ne-none t (sym e))
  ticket-in-range n (Waiting q) t p e =
      subst (λ (z : ℕ). (n.served ≤ z) × (z < n.drawn)) (some-injective q t e) p
  ticket-in-range n (Holding q x) t p e = served-in-range n q t p.0 (some-injective q t e)
  ticket-in-range n (Noted q j x) t p e = served-in-range n q t p.0 (some-injective q t e)
  ticket-in-range n (Joined a b c d) t p e = absurd (some-ne-none t (sym e))
