-- A new lock meets the invariant, and a split and a new seat keep it.
use mathlib.Core.Option as maybe
use Rattle.std.proofs.Common.{◌≡◌, ◌≢◌, ℕ, zero, suc, ◌+◌, List, [], ◌∷◌, ◌++◌, map, length, set, Some, None, sym, refl, ap, ◌∙◌, subst, ⊎_elim, arith}
use Rattle.std.specs.Prelude.{Option}
use Rattle.std.specs.List.{Contains}
use Rattle.std.specs.Option.{unwrap_or}
use Rattle.std.proofs.lemmas.Option.{none-some}
use Rattle.std.proofs.lemmas.List.Sums.{sum_by_push}
use mathlib.Core.Option.{some, none, some-injective, some-ne-none}
use mathlib.Core.List.{IsPrefix}
use lib.ListN.{get_elem?}
use Rattle.atomic_table.specs.Table.{step, Splits, Enters, opening}
use Rattle.atomic_table.proofs.Lists.{at_snoc, at_longer}
use Rattle.sc_lock.specs.declared.kept.Kept.{Ghosts as Kept}
use Rattle.sc_lock.specs.declared.view.View.{View}
use Rattle.sc_lock.specs.declared.view.Stage.TheVariants.{Idle}
use Rattle.sc_lock.specs.Invariant.{LockState, SeatsAreDisjoint, StageInvariant, SeatInvariant, ValueInvariant, TableInvariant, LockInvariant}
use Rattle.sc_lock.specs.Journal.{ArePlacesIn}
use Rattle.sc_lock.specs.Views.{with_weight, split_off, visitor, first_view, ticket_in, ticket_count, ticket_count_in, has_value, weight_of}
use Rattle.sc_lock.specs.Steps.{AfterVisit}
use Rattle.sc_lock.proofs.SumLemmas.{sum_by-set-at}
use Rattle.sc_lock.proofs.PrefixLemmas.{IsPrefix-self}
use Rattle.sc_lock.proofs.PlaceLemmas.{Contains-none, ArePlacesIn-none}
use Rattle.sc_lock.proofs.InvariantLemmas.{Any, SeatsAreDisjoint-sym, SeatsAreDisjoint-blank, each-set, ArePairwiseDisjoint, pairs-set, ValueInvariant-with}

module _ {K E P : Type 0} where
  -- a single seat makes no pair
  one-seat : (v : View K E P) (i j : ℕ) (u x : View K E P) → i ≢ j → get_elem? (v ∷ []) i ≡ some u
      → get_elem? (v ∷ []) j ≡ some x → SeatsAreDisjoint u x
  one-seat v zero zero u x ne ei ej = absurd (ne refl)
  one-seat v zero (suc j) u x ne ei ej = absurd (some-ne-none x (sym ej))
  one-seat v (suc i) j u x ne ei ej = absurd (some-ne-none u (sym ei))

  -- seats stay disjoint when one comes that has no places and no ticket
  pairs-blank : (views : List (View K E P)) (z : View K E P) → z.places ≡ [] → z.stage ≡ Idle
      → ((i j : ℕ) (u x : View K E P) → i ≢ j → get_elem? views i ≡ some u → get_elem? views j ≡ some x
      → SeatsAreDisjoint u x)
      → (i j : ℕ) (u x : View K E P) → i ≢ j → get_elem? (views ++ z ∷ []) i ≡ some u
      → get_elem? (views ++ z ∷ []) j ≡ some x → SeatsAreDisjoint u x
  pairs-blank views z empty idle pairs i j u x ne ei ej = ⊎_elim
      (λ ti.
      ⊎_elim (λ tj. pairs i j u x ne ti tj) (λ tj. subst (SeatsAreDisjoint u) tj (blank u)) (at_snoc views z x j ej))
      (λ ti. subst (λ (y : View K E P). SeatsAreDisjoint y x) ti (SeatsAreDisjoint-sym x z (blank x)))
      (at_snoc views z u i ei)
    where
      blank : (y : View K E P) → SeatsAreDisjoint y z
      blank y = SeatsAreDisjoint-blank y z empty (ap ticket_in idle)

module _ {K E P : Type 0} (kept : Kept K E P) (origin : K) where
  open kept use {journal, sound, part, name, owned}

  -- a seat that comes leaves the value where it is
  ValueInvariant-longer : (n : LockState K E P) (views : List (View K E P)) (z : View K E P)
      (h : maybe.Option (Option K)) → ValueInvariant kept origin n views h
      → ValueInvariant kept origin n (views ++ z ∷ []) h
  ValueInvariant-longer n views z (maybe.some (Some x)) l = l
  ValueInvariant-longer n views z (maybe.some None) l = l
  ValueInvariant-longer n views z maybe.none l = (l.0, l.1, at_longer views (z ∷ []) l.0 l.1 l.2, l.3, l.4)

  -- a new seat that has seen a prefix of the journal meets the seat's invariant
  pub SeatInvariant-new : (n : LockState K E P) (i : ℕ) (z : View K E P) → IsPrefix z.seen n.entries
      → ((x : K) → z.origin ≡ Some x → name x ≡ name origin) → z.places ≡ [] → z.part ≡ None → z.stage ≡ Idle
      → SeatInvariant kept origin n i z
  SeatInvariant-new n i z seen named empty no_part idle = record {
    named = named;
    seen = seen;
    places = subst (λ (l : List ℕ). ArePlacesIn l z.seen) (sym empty) (ArePlacesIn-none z.seen);
    owner = λ q a h. absurd (Contains-none q (subst (λ (l : List ℕ). Contains l q) empty h));
    part = λ x e. absurd (none-some x (sym no_part ∙ e));
    weight = let e : ticket_count z ≡ 0 = ap ticket_count_in idle in omega arith;
    stage = subst (StageInvariant kept origin n) (sym idle) tt;
  }

  -- a seat with no turn out splits another off, which has no places and no part
  pub split_keeps : (id : ℕ) (v : View K E P) (keep give : ℕ) → v.stage ≡ Idle → keep + give ≡ v.weight
      → Splits (LockInvariant kept origin) id v (with_weight keep v) (split_off give v)
  split_keeps id v keep give idle heavy s inv at =
      let n : LockState K E P = inv.0 in
      let r : TableInvariant kept origin n s = inv.1 in
      let l : View K E P = with_weight keep v in
      let z : View K E P = split_off give v in
      let fit : SeatInvariant kept origin n id v = r.each id v at in
      let no_ticket : ticket_count v ≡ 0 = ap ticket_count_in idle in
      let vs : List (View K E P) = set s.views id l in
      let mine : SeatInvariant kept origin n id l = record {
        named = fit.named;
        seen = fit.seen;
        places = fit.places;
        owner = fit.owner;
        part = fit.part;
        weight = omega arith;
        stage = fit.stage;
      } in
      let old : (i : ℕ) (u : View K E P) → get_elem? vs i ≡ some u → SeatInvariant kept origin n i u =
      each-set (SeatInvariant kept origin n) s.views id l mine (λ i u _. r.each i u) in
      let beside : (i : ℕ) (u : View K E P) → i ≢ id → get_elem? s.views i ≡ some u → SeatsAreDisjoint l u = λ i u ne e.
      let d = r.pairs id i v u (λ q. ne (sym q)) at e in record { places = d.places; tickets = d.tickets } in
      let pairs : ArePairwiseDisjoint Any vs =
      pairs-set Any s.views id l (λ i u _. beside i u) (λ i j u x _ _. r.pairs i j u x) in (
        n,
        record {
          words = r.words;
          slots = r.slots;
          weights =
              let a = r.weights in
              let b = sum_by-set-at weight_of s.views id v l at in
              let c = sum_by_push weight_of vs z in omega arith;
          tickets =
              let a = r.tickets in
              let b = sum_by-set-at ticket_count s.views id v l at in
              let c = sum_by_push ticket_count vs z in omega arith;
          each = λ i u e. ⊎_elim (old i u)
              (λ t. subst (SeatInvariant kept origin n i) t (SeatInvariant-new n i z fit.seen fit.named refl refl refl))
              (at_snoc vs z u i e);
          pairs = pairs-blank vs z refl refl (λ i j u x. pairs i j u x tt tt);
          value = ValueInvariant-longer n vs z n.at_rest
              (ValueInvariant-with kept origin n n.drawn s.views id v l n.at_rest at (ap has_value idle) r.value);
        },
      )

  -- a seat with no turn out stays as it is, and one beside it has seen the same
  pub beside_keeps : (id : ℕ) (v : View K E P) → v.stage ≡ Idle
      → Splits (LockInvariant kept origin) id v v (split_off 0 v)
  beside_keeps id v idle = split_keeps id v v.weight 0 idle (omega arith)

  -- the only seat meets what the first one meets
  first-each : (n : LockState K E P) (v : View K E P) → SeatInvariant kept origin n 0 v → (i : ℕ) (u : View K E P)
      → get_elem? (v ∷ []) i ≡ some u → SeatInvariant kept origin n i u
  first-each n v f zero u e = subst (SeatInvariant kept origin n 0) (some-injective v u e) f
  first-each n v f (suc i) u e = absurd (some-ne-none u (sym e))

  -- a new lock
  pub opening_holds : (ws : List ℕ) (xs : List (Option K)) → ws ≡ 0 ∷ 0 ∷ length (journal origin) ∷ []
      → xs ≡ Some origin ∷ [] → sound origin → LockInvariant kept origin (opening ws xs (first_view kept origin))
  opening_holds ws xs we xe sound_is =
      let v : View K E P = first_view kept origin in
      let n : LockState K E P = record {
        drawn = 0;
        served = 0;
        entries = journal origin;
        part = part origin;
        keeper = 0;
        at_rest = maybe.some (Some origin);
      } in
      let fit : SeatInvariant kept origin n 0 v = record {
        named = λ x e. ap (λ o. name (unwrap_or o x)) (sym e);
        seen = IsPrefix-self (journal origin);
        places = ArePlacesIn-none (journal origin);
        owner = λ p a b. refl;
        part = λ x e. (refl, ap (λ o. unwrap_or o x) (sym e));
        weight = omega arith;
        stage = tt;
      } in (
        n,
        record {
          words = we;
          slots = ap (map maybe.some) xe;
          weights = refl;
          tickets = refl;
          each = first-each n v fit;
          pairs = one-seat v;
          value = (sound_is, record { journal_is = refl; part_is = refl; name_is = refl });
        },
      )

  -- a seat that has seen nothing comes
  pub visit_keeps : (slots : ℕ)
      → Enters (LockInvariant kept origin) slots 0
      (λ q w. AfterVisit (step slots 0 0 0 none) (first_view kept origin, []) q (w, []))
  visit_keeps slots s inv long small =
      let n : LockState K E P = inv.0 in
      let r : TableInvariant kept origin n s = inv.1 in
      let z : View K E P = visitor (first_view kept origin) in
      let fit : (i : ℕ) → SeatInvariant kept origin n i z = λ i.
      SeatInvariant-new n i z (n.entries, refl) (λ x e. ap (λ o. name (unwrap_or o x)) (sym e)) refl refl refl in (
        z,
        (
          n,
          record {
            words = r.words;
            slots = r.slots;
            weights = let a = r.weights in let c = sum_by_push weight_of s.views z in omega arith;
            tickets = let a = r.tickets in let c = sum_by_push ticket_count s.views z in omega arith;
            each = λ i u e.
                ⊎_elim (r.each i u) (λ t. subst (SeatInvariant kept origin n i) t (fit i)) (at_snoc s.views z u i e);
            pairs = pairs-blank s.views z refl refl r.pairs;
            value = ValueInvariant-longer n s.views z n.at_rest r.value;
          },
        ),
        refl,
      )
