-- One worker after another gets its crew.
use Rattle.std.proofs.Common.{◌≡◌, ◌≢◌, ◌⊎◌, inl, inr, ◌≤◌, ◌<◌, ℕ, ◌+◌, List, [], ◌∷◌, ◌++◌, length, length-append, Option, Some, IfSome, slice_get, sym, ap, subst, ◌∙◌, arith}
use Rattle.std.specs.List.{All}
use Rattle.std.proofs.lemmas.Bool.{cases_eq}
use Rattle.std.proofs.lemmas.List.{length_push}
use Rattle.std.proofs.lemmas.Option.{same_Some, slice_get_within, slice_get-get_or}
use Rattle.sc_journal.proofs.ListLemmas.{slice_get-append_end, slice_get-append_left}
use Rattle.sc_session.specs.declared.station.Crew.{Crew}
use Rattle.sc_shared.specs.Collections.{Locks}
use Rattle.sc_shared.specs.Sharing.{ArePasses}
use Rattle.sc_arguments.specs.declared.asked.Server.{Server}
use Rattle.sc_server.specs.declared.worker.Worker.{Worker}
use Rattle.sc_server.specs.Working.{IsReady}
use Rattle.sc_server.specs.Crews.{SetsBelow, SetsReportedBelow, IsEnlisted, AreEnlisted}
use Rattle.sc_session.specs.Stations.{SetsAt, SetsReported}
use Rattle.sc_server.proofs.CrewLemmas.{none_set, none_set_reported, one_more_set, one_more_reported}
use Rattle.sc_server.proofs.RunLemmas.{is_ready}

module _ {R C H P L : Type 0} where
  -- what is true where there is no worker yet
  pub none_enlisted : (server : Server) (locks : Locks) (crews : Option (ℕ → Option (Crew C H P L))) (workers : List (Worker R C H P L))
      → workers ≡ [] → AreEnlisted server locks crews workers
  none_enlisted server locks crews workers none number worker at =
      let within = slice_get_within workers number worker at in
      let long : length workers ≡ 0 = ap length none in
      absurd (omega (arith, within, long))

  pub none_given : {A : Type 0} (value : A) (old : Option (ℕ → A)) (workers : List (Worker R C H P L)) → workers ≡ []
      → SetsReportedBelow (length workers) value old old
  none_given {A} value old workers none =
      subst (λ (n : ℕ). SetsReportedBelow {A = A} n value old old) (sym (ap length none)) (none_set_reported value old)

  pub none_out : {A : Type 0} (value : A) (old : ℕ → A) (workers : List (Worker R C H P L)) → workers ≡ [] → SetsBelow (length workers) value old old
  none_out {A} value old workers none = subst (λ (n : ℕ). SetsBelow {A = A} n value old old) (sym (ap length none)) (none_set value old)

  -- one worker more has its crew
  one_longer : (workers new : List (Worker R C H P L)) (worker : Worker R C H P L) → new ≡ workers ++ worker ∷ [] → length workers + 1 ≡ length new
  one_longer workers new worker ends = sym (ap length ends ∙ length_push workers worker)

  pub same_count : {K : Type 0} (workers new : List (Worker R C H P L)) (worker : Worker R C H P L) (yielded : List K) (kit : K)
      → new ≡ workers ++ worker ∷ [] → length workers ≡ length yielded → length new ≡ length (yielded ++ kit ∷ [])
  same_count workers new worker yielded kit ends count =
      omega (arith, one_longer workers new worker ends, count, length_push yielded kit)

  pub few_yet : {K : Type 0} (workers : List (Worker R C H P L)) (kits : List K) → workers ≡ [] → length workers ≤ length kits
  few_yet workers kits none = let long : length workers ≡ 0 = ap length none in omega (arith, long)

  pub still_few : {K : Type 0} (workers new : List (Worker R C H P L)) (worker : Worker R C H P L) (yielded : List K) (kit : K) (rest kits : List K)
      → new ≡ workers ++ worker ∷ [] → length workers ≡ length yielded → (yielded ++ kit ∷ []) ++ rest ≡ kits → length new ≤ length kits
  still_few workers new worker yielded kit rest kits ends count left =
      let long : length ((yielded ++ kit ∷ []) ++ rest) ≡ length kits = ap length left in
      omega (arith, same_count workers new worker yielded kit ends count, long, length-append (yielded ++ kit ∷ []) rest)

  pub one_more_given : {A : Type 0} (value : A) (old now next : Option (ℕ → A)) (workers new : List (Worker R C H P L)) (worker : Worker R C H P L)
      → new ≡ workers ++ worker ∷ [] → SetsReportedBelow (length workers) value old now → SetsReported (length workers) value now next
      → SetsReportedBelow (length new) value old next
  one_more_given {A} value old now next workers new worker ends are is =
      subst (λ (n : ℕ). SetsReportedBelow {A = A} n value old next) (one_longer workers new worker ends)
      (one_more_reported (length workers) value old now next are is)

  pub one_more_out : {A : Type 0} (value : A) (old now next : ℕ → A) (workers new : List (Worker R C H P L)) (worker : Worker R C H P L)
      → new ≡ workers ++ worker ∷ [] → SetsBelow (length workers) value old now → SetsAt (length workers) value now next
      → SetsBelow (length new) value old next
  one_more_out {A} value old now next workers new worker ends are is =
      subst (λ (n : ℕ). SetsBelow {A = A} n value old next) (one_longer workers new worker ends)
      (one_more_set (length workers) value old now next are is)

  -- one worker more is enlisted
  pub one_more_enlisted : (server : Server) (locks : Locks) (crews : Option (ℕ → Option (Crew C H P L))) (workers new : List (Worker R C H P L))
      (worker : Worker R C H P L) → new ≡ workers ++ worker ∷ [] → AreEnlisted server locks crews workers
      → IsEnlisted server locks crews (length workers) worker → AreEnlisted server locks crews new
  one_more_enlisted server locks crews workers new worker ends are is number one at = by (cases_eq number (length workers)) where
    there : slice_get (workers ++ worker ∷ []) number ≡ Some one
    there = ap (λ (ones : List (Worker R C H P L)). slice_get ones number) (sym ends) ∙ at

    by : (number ≡ length workers) ⊎ (number ≢ length workers) → IsEnlisted server locks crews number one
    by (inl here) =
        let same : worker ≡ one =
        same_Some worker one (sym (slice_get-append_end workers worker []) ∙ ap (slice_get (workers ++ worker ∷ [])) (sym here) ∙ there) in
        subst (λ (n : ℕ). IsEnlisted server locks crews n one) (sym here) (subst (IsEnlisted server locks crews (length workers)) same is)
    by (inr other) =
        let within = slice_get_within (workers ++ worker ∷ []) number one there in
        let below : number < length workers = omega (arith, within, other, length_push workers worker) in
        are number one (sym (slice_get-append_left workers (worker ∷ []) number below) ∙ there)

  -- workers that are enlisted are ready
  all_from_places : (Q : Worker R C H P L → Type 0) (workers : List (Worker R C H P L))
      → ((number : ℕ) (worker : Worker R C H P L) → slice_get workers number ≡ Some worker → Q worker) → All Q workers
  all_from_places Q workers each number default within = each number _ (slice_get-get_or workers number default within)

  pub all_ready : (server : Server) (locks : Locks) (crews : Option (ℕ → Option (Crew C H P L))) (workers : List (Worker R C H P L))
      → 1 ≤ server.max_connections → AreEnlisted server locks crews workers → All (IsReady locks) workers
  all_ready server locks crews workers most are =
      all_from_places (IsReady locks) workers (λ number worker at. is_ready server locks crews number worker most (are number worker at))

  -- the passes of one that is ready are of the collection
  pub ready_passes : (locks : Locks) (worker : Worker R C H P L) → IsReady locks worker → IfSome worker.passes (ArePasses locks)
  ready_passes locks worker is = subst (λ one. IfSome one (ArePasses locks)) (sym is.there) is.are
