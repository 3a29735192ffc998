-- A core that buffers writes and then replays them.
use Rattle.std.proofs.Common.{◌≡◌, inl, ℕ, zero, suc, ◌*◌, ◌<◌, ◌≤◌, List, [], ◌∷◌, ◌++◌, length, take, drop, refl, sym, ap, ◌∙◌, append_assoc, arith, length-drop, ℤ}
use Rattle.std.specs.Int.{int_max}
use Rattle.std.proofs.lemmas.List.{append-nil, take_all, take-append-drop}
use Rattle.std.proofs.Math.ListN.{drop_of_length-le}
use Rattle.sc_record.specs.Writes.{Write}
use Rattle.sc_ulog.specs.declared.mode.Mode.TheVariants.{Active, Buffering}
use Rattle.sc_replica.specs.Cells.{applied}
use Rattle.sc_replica.specs.Core.{Core, fed, buffered, received, fed_all, mode_left, replayed, replay_limit}
use Rattle.sc_replica.specs.Deliveries.{received_all, replaying, replayed_times}
use Rattle.sc_replica.proofs.CoreLemmas.{received-applied}

-- a buffering core keeps what it is sent, in order
record Kept (core after : Core) (writes : List Write) : Type 0 where
  cells : after.cells ≡ core.cells
  clock : after.clock ≡ core.clock
  buffer : after.buffer ≡ core.buffer ++ writes

-- so for all that it is sent
received_all-kept : (core : Core) (writes : List Write) → core.mode ≡ Buffering
    → Kept core (received_all core writes) writes
received_all-kept core [] buffering = record { cells = refl; clock = refl; buffer = sym (append-nil core.buffer) }
received_all-kept core (write ∷ writes) buffering =
    let one : received core write ≡ buffered core write = rw buffering refl in
    let rest = received_all-kept (buffered core write) writes buffering in
    rw one (record { cells = rest.cells; clock = rest.clock; buffer = rest.buffer ∙ append_assoc core.buffer (write ∷ []) writes })

-- an active core applies what it is sent
received_all-fed : (core : Core) (writes : List Write) → core.mode ≡ Active
    → received_all core writes ≡ fed_all core writes
received_all-fed core [] active = refl
received_all-fed core (write ∷ writes) active =
    rw (received-applied core write (inl active)) (received_all-fed (fed core write) writes active)

-- two cores have the same cells and the same clock
record AreAlike (one other : Core) : Type 0 where
  cells : one.cells ≡ other.cells
  clock : one.clock ≡ other.clock

-- what is applied to cores that are alike leaves them alike
fed_all-alike : (one other : Core) (writes : List Write) → AreAlike one other
    → AreAlike (fed_all one writes) (fed_all other writes)
fed_all-alike one other [] alike = alike
fed_all-alike one other (write ∷ writes) alike =
    fed_all-alike (fed one write) (fed other write) writes
    (record { cells = ap (λ (cells : List Write). applied cells write) alike.cells; clock = ap (λ (clock : ℤ). int_max clock write.version) alike.clock })

-- writes applied after writes are all applied
fed_all-append : (core : Core) (xs ys : List Write) → fed_all core (xs ++ ys) ≡ fed_all (fed_all core xs) ys
fed_all-append core [] ys = refl
fed_all-append core (x ∷ xs) ys = fed_all-append (fed core x) xs ys

-- cores alike to one are alike
alike-trans : (a b c : Core) → AreAlike a b → AreAlike b c → AreAlike a c
alike-trans a b c h i = record { cells = h.cells ∙ i.cells; clock = h.clock ∙ i.clock }

-- a core is alike to itself
alike-same : {a b : Core} → a ≡ b → AreAlike a b
alike-same e = record { cells = ap (λ (c : Core). c.cells) e; clock = ap (λ (c : Core). c.clock) e }

-- replayed to its end, a core is active, and its buffer is applied
record IsReplayed (core after : Core) : Type 0 where
  active : after.mode ≡ Active
  alike : AreAlike after (fed_all core core.buffer)

-- so it is after replays enough for its buffer
replays : (n : ℕ) (core : Core) → length core.buffer ≤ suc n * replay_limit
    → IsReplayed core (replayed_times (suc n) core)
replays zero core enough =
    let few : length core.buffer ≤ replay_limit = omega arith in
    let none : drop replay_limit core.buffer ≡ [] = drop_of_length-le core.buffer few in
    let all : take replay_limit core.buffer ≡ core.buffer = take_all replay_limit core.buffer few in
    record {
      active = ap mode_left none;
      alike = record { cells = ap (λ (writes : List Write). (fed_all core writes).cells) all; clock = ap (λ (writes : List Write). (fed_all core writes).clock) all };
    }
replays (suc n) core enough =
    let left : List Write = drop replay_limit core.buffer in
    let more : length left ≤ suc n * replay_limit = omega (arith, length-drop replay_limit core.buffer) in
    let rest = replays n (replayed core) more in
    let applied : Core = fed_all core (take replay_limit core.buffer) in
    let whole : fed_all applied left ≡ fed_all core core.buffer =
    sym (fed_all-append core (take replay_limit core.buffer) left) ∙ ap (fed_all core) (take-append-drop replay_limit core.buffer) in
    let next = fed_all-alike (replayed core) applied left (record { cells = refl; clock = refl }) in
    record { active = rest.active; alike = alike-trans _ _ _ rest.alike (rw whole at next) }

-- so its cells and its clock are those of a core that got at once what it buffered
pub replays-what-it-buffered : (buffering active : Core) (writes : List Write) (n : ℕ)
    → buffering.mode ≡ Buffering → buffering.buffer ≡ [] → active ≡ record buffering { mode = Active }
    → 0 < n → length writes ≤ n * replay_limit
    → let after = replayed_times n (replaying (received_all buffering writes)) in
    (after.mode ≡ Active) × (after.cells ≡ (received_all active writes).cells) × (after.clock ≡ (received_all active writes).clock)
replays-what-it-buffered buffering active writes zero mode empty same some enough = absurd (omega arith)
replays-what-it-buffered buffering active writes (suc n) mode empty same some enough =
    let core : Core = replaying (received_all buffering writes) in
    let kept = received_all-kept buffering writes mode in
    let buffer : core.buffer ≡ writes = kept.buffer ∙ ap (λ (before : List Write). before ++ writes) empty in
    let fits : length core.buffer ≤ suc n * replay_limit = rw buffer enough in
    let done = replays n core fits in
    let begin : AreAlike core active = record { cells = kept.cells ∙ ap (λ (c : Core). c.cells) (sym same); clock = kept.clock ∙ ap (λ (c : Core). c.clock) (sym same) } in
    let alike = fed_all-alike core active writes begin in
    let ends = alike-trans _ _ _ done.alike (alike-trans _ _ _ (alike-same (ap (fed_all core) buffer)) alike) in
    let at_once = received_all-fed active writes (ap (λ (c : Core). c.mode) same) in
    (done.active, ends.cells ∙ ap (λ (c : Core). c.cells) (sym at_once), ends.clock ∙ ap (λ (c : Core). c.clock) (sym at_once))
