-- A core that goes down, rejoins or takes the lead changes no core but its own, and that which led.
use Rattle.std.proofs.Common.{◌≡◌, ℕ, zero, suc, Bool, true, false, not, cond, ◌||◌, List, [], ◌∷◌, map, filter, set, slice_get, Some, refl, sym, ap, ◌∙◌}
use Rattle.std.proofs.Math.Bool.{or-true}
use Rattle.std.proofs.lemmas.Bool.{not-true}
use Rattle.std.proofs.lemmas.Option.{none-some, same_Some}
use Rattle.sc_record.specs.Names.{is_core}
use Rattle.sc_record.specs.declared.slice.SliceId.{SliceId}
use Rattle.sc_record.specs.declared.slice.CoreId.{CoreId}
use Rattle.sc_replica.specs.Core.{Core}
use Rattle.sc_replicas.specs.Cores.{seated, without_room}
use Rattle.sc_bucket.specs.Flight.{arrived}
use Rattle.sc_bucket.specs.Events.{detached}
use Rattle.sc_replicas.proofs.CoreLemmas.{same_name_by, is_core-Decides}
use Rattle.sc_handover.specs.Made.{leader_of, empty_core}
use Rattle.sc_world.specs.Others.{DetachesLeaveOthersAlone, RejoinsLeaveOthersAlone, LeadsLeaveOthersAlone}
use Rattle.sc_world.proofs.OthersLemmas.{filter-set_apart, filter-map_apart, same_where}

-- a core that is marked as down leaves the others
pub detaches_leave_others_alone : DetachesLeaveOthersAlone
detaches_leave_others_alone old new name detaches = record {
  cores = ap (filter is_other_core) detaches.cores ∙ filter-map_apart is_other_core (detached name) kept fixed old.replicas;
  searchers = detaches.searchers_are;
} where
  is_other_core : Core → Bool
  is_other_core core = not (is_core name core.core)

  kept : (core : Core) → is_other_core (detached name core) ≡ is_other_core core
  kept core = by (is_core name core.core) where
    by : (b : Bool) → is_other_core (cond b (record core { down = true }) core) ≡ is_other_core core
    by true = refl
    by false = refl

  fixed : (core : Core) → is_other_core core ≡ true → detached name core ≡ core
  fixed core other =
      ap (λ b. cond b (record core { down = true }) core) (not-true (is_core name core.core) other)

-- a core that rejoins leaves the others
pub rejoins_leave_others_alone : RejoinsLeaveOthersAlone
rejoins_leave_others_alone old new name rejoins = record {
  cores =
      same_where (λ (id : CoreId). not (is_core name id)) (set old.replicas rejoins.at fresh) new.replicas rejoins.cores
      ∙ ap (map without_room) (filter-set_apart is_other_core old.replicas rejoins.at rejoins.core fresh rejoins.core_at.found
      (own rejoins.core rejoins.core_at.named) (own fresh refl));
  searchers = rejoins.searchers_are;
} where
  fresh : Core
  fresh = record (empty_core name) { number = rejoins.core.number }

  is_other_core : Core → Bool
  is_other_core core = not (is_core name core.core)

  own : (core : Core) → core.core ≡ name → is_other_core core ≡ false
  own core is = ap not ((is_core-Decides name core.core).1 (sym is))

-- where an element is left out, so is what stands in its place once any was changed for one that is left out
set_there : {A : Type 0} (p : A → Bool) (xs : List A) (first at : ℕ) (x y : A) → slice_get xs at ≡ Some y → p y ≡ false → p x ≡ false
    → (z : A) × (slice_get (set xs first x) at ≡ Some z) × (p z ≡ false)
set_there p [] first at x y is left out = absurd (none-some y is)
set_there p (w ∷ ws) zero zero x y is left out = (x, refl, out)
set_there p (w ∷ ws) zero (suc at) x y is left out = (y, is, left)
set_there p (w ∷ ws) (suc first) zero x y is left out = (w, refl, ap p (same_Some w y is) ∙ left)
set_there p (w ∷ ws) (suc first) (suc at) x y is left out = set_there p ws first at x y is left out

-- a core that takes the lead leaves all but the two
pub leads_leave_others_alone : LeadsLeaveOthersAlone
leads_leave_others_alone old new name leads = record {
  cores =
      ap (filter is_other_core) leads.cores
      ∙ filter-set_apart is_other_core (set old.replicas leads.leader_at led) leads.at between.0 (seated name true leads.leader) between.1
      between.2 (own (seated name true leads.leader) refl)
      ∙ filter-set_apart is_other_core old.replicas leads.leader_at leads.leader led leads.leader_found (own_leader leads.leader first)
      (own_leader led first);
  searchers = leads.searchers_are;
  feeds = leads.split.feeds;
} where
  is_other_core : Core → Bool
  is_other_core core = not (is_core name core.core || is_core (leader_of name.slice) core.core)

  led : Core
  led = seated leads.leader.core false (arrived old.flight.messages name leads.core)

  first : leads.leader.core ≡ leader_of name.slice
  first =
      same_name_by leads.leader.core (leader_of name.slice) (ap (λ (id : SliceId). id.0) leads.leader_is.0) leads.leader_is.1

  own : (core : Core) → core.core ≡ name → is_other_core core ≡ false
  own core is =
      ap (λ b. not (b || is_core (leader_of name.slice) core.core)) ((is_core-Decides name core.core).1 (sym is))

  own_leader : (core : Core) → core.core ≡ leader_of name.slice → is_other_core core ≡ false
  own_leader core is =
      ap (λ b. not (is_core name core.core || b)) ((is_core-Decides (leader_of name.slice) core.core).1 (sym is))
      ∙ ap not (or-true (is_core name core.core))

  between : (z : Core) × (slice_get (set old.replicas leads.leader_at led) leads.at ≡ Some z) × (is_other_core z ≡ false)
  between =
      set_there is_other_core old.replicas leads.leader_at leads.at led leads.core leads.core_at.found
      (own leads.core leads.core_at.named) (own_leader led first)
