-- A join, and the look after it, keep the invariant.
use Rattle.std.proofs.Common.{◌≡◌, ◌≢◌, ℕ, ◌<◌, ◌≤◌, List, length, take, get_or, set, Some, false, sym, refl, ap, ◌∙◌, subst, ⊎_elim, arith}
use Rattle.std.specs.Prelude.{ltb}
use Rattle.std.proofs.lemmas.Option.{none-some}
use mathlib.Core.Option.{some, none, some-ne-none}
use mathlib.Core.List.{IsPrefix}
use lib.ListN.{get_elem?}
use lib.Seq.{set-get_or}
use Rattle.atomic_table.specs.Table.{step, keeps, Allows, Joins}
use Rattle.atomic_table.proofs.Lists.{set_else}
use Rattle.sc_lock.specs.declared.kept.Kept.{Ghosts as Kept}
use Rattle.sc_lock.specs.declared.view.View.{View}
use Rattle.sc_lock.specs.declared.view.Stage.TheVariants.{Idle, Joined}
use Rattle.sc_lock.specs.Invariant.{LockState, SeatsAreDisjoint, StageInvariant, SeatInvariant, TableInvariant, LockInvariant}
use Rattle.sc_lock.specs.Views.{with_stage, joined, spent, ticket_count, ticket_count_in, has_value, weight_of}
use Rattle.sc_lock.specs.Journal.{longer}
use Rattle.sc_lock.specs.Steps.{SeatState, AfterJoin}
use Rattle.sc_lock.proofs.SumLemmas.{sum_by-set-at}
use Rattle.sc_lock.proofs.PrefixLemmas.{IsPrefix-shorter, IsPrefix-whole, take-IsPrefix, longer-IsPrefix-if, longer-length-if, OneIsPrefix-of}
use Rattle.sc_lock.proofs.PlaceLemmas.{Contains-merged, ArePlacesIn-below, ArePlacesIn-merged}
use Rattle.sc_lock.proofs.InvariantLemmas.{Any, SeatsAreDisjoint-sym, SeatsAreDisjoint-blank, each-set, ArePairwiseDisjoint, pairs-set, SeatInvariant-at, TableInvariant-moved, ValueInvariant-with}
use Rattle.sc_lock.proofs.SeatLemmas.{SeatInvariant-new}

module _ {K E P : Type 0} where
  idle_has : (v : View K E P) → v.stage ≡ Idle → (has_value v.stage ≡ false) × (ticket_count v ≡ 0)
  idle_has v st = (ap has_value st, ap ticket_count_in st)

module _ {K E P : Type 0} (kept : Kept K E P) (origin : K) where
  open kept use {journal, sound, part, name, owned}

  -- the law of `Kept`: a prefix of a journal that reaches beyond its owned place has that owned place
  abbrev OwnedStays : Type 0
  OwnedStays = (j : List E) (p m : ℕ) → owned j ≡ Some p → p < m → owned (take m j) ≡ Some p

  -- where the owned place of the longer is among the places of one of two, it has seen all
  owner-longer : OwnedStays → (short long entries : List E) (p : ℕ) → IsPrefix short entries → IsPrefix long entries
      → length short ≤ length long → p < length short → owned long ≡ Some p
      → (owned short ≡ Some p → short ≡ entries) → long ≡ entries
  owner-longer stays short long entries p a b le inside is owner =
      let t : take (length short) long ≡ short =
      take-IsPrefix short long (IsPrefix-shorter short long entries a b le) in
      let same_owner = subst (λ (l : List E). owned l ≡ Some p) t (stays long p (length short) is inside) in
      let e : short ≡ entries = owner same_owner in
      let m : length short ≡ length entries = ap length e in IsPrefix-whole long entries b (omega arith)

  -- the seat that goes on meets its invariant
  joined-holds : OwnedStays → (n : LockState K E P) (id other : ℕ) (v w : View K E P) → v.stage ≡ Idle
      → w.stage ≡ Idle → SeatInvariant kept origin n id v → SeatInvariant kept origin n other w
      → SeatsAreDisjoint v w → SeatInvariant kept origin n id (joined v w)
  joined-holds stays n id other v w sv sw f g d =
      let long = longer-length-if (ltb (length v.seen) (length w.seen)) v.seen w.seen refl in
      let whole : IsPrefix (longer v.seen w.seen) n.entries =
      longer-IsPrefix-if (ltb (length v.seen) (length w.seen)) v.seen w.seen n.entries f.seen g.seen in record {
        named = f.named;
        seen = whole;
        places =
            ArePlacesIn-merged v.places w.places v.seen w.seen (longer v.seen w.seen) f.places g.places long.0 long.1
            d.places;
        owner = λ p a h.
            ⊎_elim
            (λ c.
            owner-longer stays v.seen (longer v.seen w.seen) n.entries p f.seen whole long.0
            (ArePlacesIn-below v.places v.seen p f.places c) a (λ o. f.owner p o c))
            (λ c.
            owner-longer stays w.seen (longer v.seen w.seen) n.entries p g.seen whole long.1
            (ArePlacesIn-below w.places w.seen p g.places c) a (λ o. g.owner p o c))
            (Contains-merged v.places w.places p h);
        part = f.part;
        weight = omega arith;
        stage = (OneIsPrefix-of v.seen w.seen n.entries f.seen g.seen, d.places);
      }

  -- the seat that goes on is disjoint from each that both were disjoint from
  joined-disjoint : (v w u : View K E P) → SeatsAreDisjoint v u → SeatsAreDisjoint w u
      → SeatsAreDisjoint (joined v w) u
  joined-disjoint v w u a b = record {
    places = λ p h k.
        ⊎_elim (λ c. a.places p c k) (λ c. b.places p c k) (Contains-merged v.places w.places p h);
    tickets = λ q c k. some-ne-none q (sym c);
  }

  pub join_keeps : OwnedStays → (id : ℕ) (v : View K E P) (other : ℕ) (w : View K E P) → v.stage ≡ Idle
      → w.stage ≡ Idle → Joins (LockInvariant kept origin) id v other w (joined v w) spent
  join_keeps stays id v other w sv sw s inv at ne at' =
      let n : LockState K E P = inv.0 in
      let r : TableInvariant kept origin n s = inv.1 in
      let b : View K E P = joined v w in
      let z : View K E P = spent in
      let vs : List (View K E P) = set s.views id b in
      let at'' : get_elem? s.views other ≡ some w = sym (set_else s.views id other b ne) ∙ at' in
      let f : SeatInvariant kept origin n id v = r.each id v at in
      let g : SeatInvariant kept origin n other w = r.each other w at'' in
      let mine : SeatInvariant kept origin n id b =
      joined-holds stays n id other v w sv sw f g (r.pairs id other v w (λ e. ne (sym e)) at at'') in
      let gone : (i : ℕ) → SeatInvariant kept origin n i z = λ i.
      SeatInvariant-new kept origin n i z (n.entries, refl) (λ x e. absurd (none-some x e)) refl refl refl in
      let near : (i : ℕ) (u : View K E P) → i ≢ id → i ≢ other → get_elem? s.views i ≡ some u
      → SeatsAreDisjoint b u = λ i u a c e.
      joined-disjoint v w u (r.pairs id i v u (λ q. a (sym q)) at e) (r.pairs other i w u (λ q. c (sym q)) at'' e) in
      let inner : (i : ℕ) (u : View K E P) → get_elem? vs i ≡ some u → SeatInvariant kept origin n i u =
      each-set (SeatInvariant kept origin n) s.views id b mine (λ i u _. r.each i u) in
      let pairs : ArePairwiseDisjoint (λ i. i ≢ other) vs =
      pairs-set (λ i. i ≢ other) s.views id b (λ i u c a e. near i u a c e) (λ i j u x _ _. r.pairs i j u x) in
      let blank : (y : View K E P) → SeatsAreDisjoint y z = λ y. SeatsAreDisjoint-blank y z refl refl in (
        n,
        record {
          words = r.words;
          slots = r.slots;
          weights =
              let a = r.weights in
              let c = sum_by-set-at weight_of s.views id v b at in
              let d = sum_by-set-at weight_of vs other w z at' in omega arith;
          tickets =
              let a = r.tickets in
              let c = sum_by-set-at ticket_count s.views id v b at in
              let d = sum_by-set-at ticket_count vs other w z at' in
              let e = (idle_has v sv).1 in
              let k = (idle_has w sw).1 in omega arith;
          each = each-set (SeatInvariant kept origin n) vs other z (gone other) (λ i u _. inner i u);
          pairs = λ i j u x. pairs-set Any vs other z (λ q y _ _ e. SeatsAreDisjoint-sym y z (blank y))
              (λ i j u x in_i in_j. pairs i j u x in_i.1 in_j.1) i j u x tt tt;
          value =
              ValueInvariant-with kept origin n n.drawn vs other w z n.at_rest at' (idle_has w sw).0
              (ValueInvariant-with kept origin n n.drawn s.views id v b n.at_rest at (idle_has v sv).0 r.value);
        },
      )

  -- after a join the seat learns what it brought together
  pub settle_keeps : (slots id : ℕ) (me : SeatState K E P) (a : List E) (b : List ℕ) (c : List E) (d : List ℕ)
      → me.0.stage ≡ Joined a b c d
      → Allows (LockInvariant kept origin) slots id me 1 (λ n. n) (AfterJoin (step slots 1 0 0 none) me)
  settle_keeps slots id me a b c d st s inv long at small =
      let n : LockState K E P = inv.0 in
      let r : TableInvariant kept origin n s = inv.1 in
      let v : View K E P = me.0 in
      let w : View K E P = with_stage v Idle in
      let fit : SeatInvariant kept origin n id v = r.each id v at in
      let none_waits : ticket_count v ≡ 0 = ap ticket_count_in st in (
        w,
        keeps,
        tt,
        (
          n,
          TableInvariant-moved kept origin n n s id v w (set s.words 1 (get_or s.words 1 0)) s.homes r at
              (set-get_or s.words 1 0 ∙ r.words) r.slots refl (omega arith) (λ i u other e f. f)
              (SeatInvariant-at kept origin n n.drawn n.served n.at_rest id v Idle fit (omega arith) tt)
              (λ i u other e f str. record { places = str.places; tickets = λ q x y. some-ne-none q (sym x) })
              (ValueInvariant-with kept origin n n.drawn s.views id v w n.at_rest at (ap has_value st) r.value),
        ),
        λ seen other_seen places other_places e.
            let p = subst (StageInvariant kept origin n) e fit.stage in (refl, p.0, p.1, fit.places),
      )
