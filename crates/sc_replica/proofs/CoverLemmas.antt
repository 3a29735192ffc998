-- No write that came to a core is lost, whether it was applied at once or buffered.
use Rattle.std.proofs.Common.{◌≡◌, inl, inr, ℕ, List, [], ◌∷◌, ◌++◌, get_or, take, drop, Bool, true, false}
use Rattle.std.proofs.Common.{Option, Some, None, cond, refl, sym, ap, ◌∙◌, append_assoc, arith, ◌≤ℤ◌}
use Rattle.std.specs.List.{Contains, filter, flat_map}
use Rattle.std.specs.Option.{option_to_list}
use Rattle.std.specs.Prelude.{int_lt}
use Rattle.std.proofs.lemmas.Int.{ints}
use Rattle.std.proofs.lemmas.List.{append-nil, take-append-drop}
use Rattle.std.proofs.lemmas.List.Elements.{Contains-get_or, Contains-append_left, Contains-append_right}
use Rattle.std.proofs.lemmas.List.Elements.{Contains-append_cases, Contains-push_cases, Contains-push, filter-append}
use Rattle.sc_record.specs.Writes.{Write, is_of, write_of}
use Rattle.sc_ulog.specs.declared.mode.Mode.{Mode}
use Rattle.sc_ulog.specs.declared.mode.Mode.TheVariants.{Active, Buffering, Replaying}
use Rattle.sc_replica.specs.Cells.{applied}
use Rattle.sc_replica.specs.Core.{Core, fed, buffered, received_in, fed_all, replay_limit, replayed}
use Rattle.sc_replica.specs.Deliveries.{Delivery, carried, after_delivery, Step, came, stepped, stepped_all, IsGreatest}
use Rattle.sc_replica.proofs.GreatestLemmas.{greater, write_of-applied}

-- the second list has nothing that the first has not, and for each of the first one of at least its version
pub record Covers (all some : List Write) : Type 0 where
  pub from : (w : Write) → Contains some w → Contains all w
  pub over : (w : Write) → Contains all w → (s : Write) × Contains some s × (w.version ≤ℤ s.version)

-- a list covers itself
itself : (xs : List Write) → Covers xs xs
itself xs = record { from = λ w h. h; over = λ w h. (w, h, omega (arith, ints)) }

-- the same list under another name
same : {xs ys : List Write} → xs ≡ ys → Covers xs ys
same {xs} e = rw (← e) (itself xs)

-- what covers a covering list covers
further : {xs ys zs : List Write} → Covers xs ys → Covers ys zs → Covers xs zs
further {xs} {ys} {zs} h i = record {
  from = λ w c. h.from w (i.from w c);
  over = λ w c. up w (h.over w c);
}
  where
    up : (w : Write) → (s : Write) × Contains ys s × (w.version ≤ℤ s.version) → (s : Write) × Contains zs s × (w.version ≤ℤ s.version)
    up w s =
        let t = i.over s.0 s.1 in
        (t.0, t.1, omega (arith, ints, s.2, t.2))

-- one list after another covers one after another
together : {xs ys us vs : List Write} → Covers xs ys → Covers us vs → Covers (xs ++ us) (ys ++ vs)
together {xs} {ys} {us} {vs} h i = record {
  from = λ w c. elim (Contains-append_cases ys vs w c) [
    | inl l ↦ Contains-append_left xs us w (h.from w l)
    | inr r ↦ Contains-append_right xs us w (i.from w r)
  ];
  over = λ w c. elim (Contains-append_cases xs us w c) [
    | inl l ↦ (let s = h.over w l in (s.0, Contains-append_left ys vs s.0 s.1, s.2))
    | inr r ↦ (let s = i.over w r in (s.0, Contains-append_right ys vs s.0 s.1, s.2))
  ];
}

-- the order doesn't matter
moved : (xs ys zs : List Write) → Covers ((xs ++ ys) ++ zs) ((xs ++ zs) ++ ys)
moved xs ys zs = record {
  from = λ w c. reorder xs zs ys w c;
  over = λ w c. (w, reorder xs ys zs w c, omega (arith, ints));
}
  where
    reorder : (us vs ws : List Write) (w : Write) → Contains ((us ++ vs) ++ ws) w → Contains ((us ++ ws) ++ vs) w
    reorder us vs ws w c = elim (Contains-append_cases (us ++ vs) ws w c) [
      | inl l ↦ elim (Contains-append_cases us vs w l) [
        | inl a ↦ Contains-append_left (us ++ ws) vs w (Contains-append_left us ws w a)
        | inr b ↦ Contains-append_right (us ++ ws) vs w b
      ]
      | inr r ↦ Contains-append_left (us ++ ws) vs w (Contains-append_right us ws w r)
    ]

-- nothing is in an empty list
none-in : (w : Write) → Contains [] w → ⊥
none-in w h = omega (arith, h.1)

-- what is in a list of one is that one
only : (x w : Write) → Contains (x ∷ []) w → x ≡ w
only x w h = elim (Contains-push_cases [] x w h) [ inl l ↦ absurd (none-in w l) | inr e ↦ e ]

-- a write's version is at most that of the same write
below : (x w : Write) → x ≡ w → w.version ≤ℤ x.version
below x w e = rw e (level w)
  where
    level : (y : Write) → y.version ≤ℤ y.version
    level y = omega (arith, ints)

-- the greater of a cell and a write covers both
greater-covers : (cell : Option Write) (write : Write) → Covers (option_to_list cell ++ write ∷ []) (option_to_list (greater cell write))
greater-covers None write = itself (write ∷ [])
greater-covers (Some cell) write = by_test (int_lt cell.version write.version) refl
  where
    by_test : (b : Bool) → int_lt cell.version write.version ≡ b
        → Covers ((cell ∷ []) ++ write ∷ []) (option_to_list (cond b (Some write) (Some cell)))
    by_test true h =
        let up : cell.version ≤ℤ write.version = grind (arith, ints) in
        record {
          from = λ w c. Contains-append_right (cell ∷ []) (write ∷ []) w c;
          over = λ w c. elim (Contains-push_cases (cell ∷ []) write w c) [
            | inl l ↦ (write, Contains-push [] write, rw (only cell w l) at up)
            | inr e ↦ (write, Contains-push [] write, below write w e)
          ];
        }
    by_test false h =
        let down : write.version ≤ℤ cell.version = grind (arith, ints) in
        record {
          from = λ w c. Contains-append_left (cell ∷ []) (write ∷ []) w c;
          over = λ w c. elim (Contains-push_cases (cell ∷ []) write w c) [
            | inl l ↦ (cell, Contains-push [] cell, below cell w (only cell w l))
            | inr e ↦ (cell, Contains-push [] cell, rw e at down)
          ];
        }

-- the writes of an id among the ones given
of : List ℕ → List Write → List Write
of id writes = filter (is_of id) writes

-- those of two lists, one after the other
of-append : (id : List ℕ) (xs ys : List Write) → of id (xs ++ ys) ≡ of id xs ++ of id ys
unfolding of
of-append id xs ys = filter-append (is_of id) xs ys

-- with a list before them
regrouped : (id : List ℕ) (before xs ys : List Write) → before ++ of id (xs ++ ys) ≡ (before ++ of id xs) ++ of id ys
regrouped id before xs ys =
    ap (λ (ws : List Write). before ++ ws) (of-append id xs ys) ∙ sym (append_assoc before (of id xs) (of id ys))

-- a write that is applied is covered by what its id's cell is then
applied-covers : (cells : List Write) (write : Write) (id : List ℕ)
    → Covers (option_to_list (write_of cells id) ++ of id (write ∷ [])) (option_to_list (write_of (applied cells write) id))
unfolding of
applied-covers cells write id = by_test (is_of id write) refl
  where
    by_test : (b : Bool) → is_of id write ≡ b
        → Covers (option_to_list (write_of cells id) ++ cond b (write ∷ []) []) (option_to_list (write_of (applied cells write) id))
    by_test true h =
        let now : write_of (applied cells write) id ≡ greater (write_of cells id) write = write_of-applied cells write id ∙ rw h refl in
        rw now (greater-covers (write_of cells id) write)
    by_test false h =
        let now : write_of (applied cells write) id ≡ write_of cells id = write_of-applied cells write id ∙ rw h refl in
        rw (now, append-nil) (itself (option_to_list (write_of cells id)))

-- so are writes that are applied one after another
fed_all-covers : (core : Core) (writes : List Write) (id : List ℕ)
    → Covers (option_to_list (write_of core.cells id) ++ of id writes) (option_to_list (write_of (fed_all core writes).cells id))
unfolding of
fed_all-covers core [] id = same (append-nil (option_to_list (write_of core.cells id)))
fed_all-covers core (write ∷ writes) id =
    let first = together (applied-covers core.cells write id) (itself (of id writes)) in
    let split = regrouped id (option_to_list (write_of core.cells id)) (write ∷ []) writes in
    further (same split) (further first (fed_all-covers (fed core write) writes id))

-- the writes of an id that a core holds: its cell and those of its buffer
held : Core → List ℕ → List Write
held core id = option_to_list (write_of core.cells id) ++ of id core.buffer

-- what a core is fed is covered by what it holds then
fed-covers : (core : Core) (write : Write) (id : List ℕ) → Covers (held core id ++ of id (write ∷ [])) (held (fed core write) id)
unfolding of held
fed-covers core write id =
    further (moved (option_to_list (write_of core.cells id)) (of id core.buffer) (of id (write ∷ [])))
    (together (applied-covers core.cells write id) (itself (of id core.buffer)))

-- what it buffers too
buffered-covers : (core : Core) (write : Write) (id : List ℕ) → Covers (held core id ++ of id (write ∷ [])) (held (buffered core write) id)
unfolding of held
buffered-covers core write id = same (sym (regrouped id (option_to_list (write_of core.cells id)) core.buffer (write ∷ [])))

-- so is what it is sent in any mode
received-covers : (mode : Mode) (core : Core) (write : Write) (id : List ℕ)
    → Covers (held core id ++ of id (write ∷ [])) (held (received_in mode core write) id)
received-covers Buffering core write id = buffered-covers core write id
received-covers Active core write id = fed-covers core write id
received-covers Replaying core write id = fed-covers core write id

-- and what is delivered
delivered-covers : (core : Core) (delivery : Delivery) (id : List ℕ)
    → Covers (held core id ++ of id (carried delivery ∷ [])) (held (after_delivery core delivery) id)
delivered-covers core (Delivery.Received write) id = received-covers core.mode core write id
delivered-covers core (Delivery.Fed write) id = fed-covers core write id

-- a replay loses nothing of what the core holds
replayed-covers : (core : Core) (id : List ℕ) → Covers (held core id) (held (replayed core) id)
unfolding of held
replayed-covers core id =
    let first : List Write = take replay_limit core.buffer in
    let left : List Write = drop replay_limit core.buffer in
    let before : List Write = option_to_list (write_of core.cells id) in
    let split : held core id ≡ (before ++ of id first) ++ of id left =
    ap (λ (ws : List Write). before ++ of id ws) (sym (take-append-drop replay_limit core.buffer)) ∙ regrouped id before first left in
    further (same split) (together (fed_all-covers core first id) (itself (of id left)))

-- nor does any step
stepped-covers : (core : Core) (step : Step) (id : List ℕ) → Covers (held core id ++ of id (came step)) (held (stepped core step) id)
unfolding of held
stepped-covers core (Step.Delivers delivery) id = delivered-covers core delivery id
stepped-covers core Step.Begins id = same (append-nil (held core id))
stepped-covers core Step.Replays id = further (same (append-nil (held core id))) (replayed-covers core id)

-- so for all steps
stepped_all-covers : (core : Core) (steps : List Step) (id : List ℕ)
    → Covers (held core id ++ of id (flat_map came steps)) (held (stepped_all core steps) id)
unfolding of
stepped_all-covers core [] id = same (append-nil (held core id))
stepped_all-covers core (step ∷ steps) id =
    further (same (regrouped id (held core id) (came step) (flat_map came steps)))
    (further (together (stepped-covers core step id) (itself (of id (flat_map came steps)))) (stepped_all-covers (stepped core step) steps id))

-- where no write covers all, there is none
none-covers : (all : List Write) → Covers all [] → all ≡ []
none-covers [] h = refl
none-covers (w ∷ all) h =
    let there = h.over w (Contains-append_left (w ∷ []) all w (Contains-push [] w)) in
    absurd (none-in there.0 there.1)

-- one write that covers all is the greatest
greatest-covers : (all : List Write) (last : Option Write) → Covers all (option_to_list last) → IsGreatest all last
greatest-covers all None h = none-covers all h
greatest-covers all (Some last) h =
    (h.from last (Contains-push [] last), λ k d l. under (get_or all k d) (h.over (get_or all k d) (Contains-get_or all k d l)))
  where
    under : (w : Write) → (s : Write) × Contains (last ∷ []) s × (w.version ≤ℤ s.version) → w.version ≤ℤ last.version
    under w s =
        let level = below last s.0 (only last s.0 s.1) in
        omega (arith, ints, s.2, level)

-- once the buffer is empty, the cell is the greatest of all that came
pub loses-nothing : (core : Core) (steps : List Step) (id : List ℕ) → (stepped_all core steps).buffer ≡ []
    → IsGreatest (option_to_list (write_of core.cells id) ++ filter (is_of id) (core.buffer ++ flat_map came steps))
    (write_of (stepped_all core steps).cells id)
unfolding of held
loses-nothing core steps id empty =
    let after : Core = stepped_all core steps in
    let last : List Write = option_to_list (write_of after.cells id) in
    let start = regrouped id (option_to_list (write_of core.cells id)) core.buffer (flat_map came steps) in
    let end : held after id ≡ last = ap (λ (ws : List Write). last ++ of id ws) empty ∙ append-nil last in
    greatest-covers _ (write_of after.cells id) (further (same start) (further (stepped_all-covers core steps id) (same end)))
