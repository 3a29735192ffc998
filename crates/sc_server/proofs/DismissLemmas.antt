-- The crews of workers are given back and their passes joined, from the last worker to the first.
use Rattle.std.proofs.Common.{◌≡◌, ◌<◌, ℕ, ◌+◌, Bool, true, false, List, [], ◌∷◌, ◌++◌, length, map, Option, Some, sym, ap, subst, ◌∙◌, append_assoc, length-append, arith}
use Rattle.std.specs.List.{All}
use Rattle.std.proofs.lemmas.List.{append-nil, length_push}
use Rattle.sc_session.specs.declared.station.Crew.{Crew}
use Rattle.sc_session.specs.Stations.{SetsAt, SetsReported}
use Rattle.sc_shared.specs.declared.passes.Passes.{Passes}
use Rattle.sc_shared.specs.Passes.{seen_of}
use Rattle.sc_shared.specs.Collections.{Locks, layout_of, SeesBoth}
use Rattle.sc_shared.specs.Sharing.{ArePasses}
use Rattle.sc_server.specs.declared.worker.Worker.{Worker}
use Rattle.sc_server.specs.Reports.{without_moment}
use Rattle.sc_server.specs.Working.{IsReady}
use Rattle.sc_server.specs.Crews.{SetsBelow, AreReportedBack, seen_by_worker}
use Rattle.sc_server.specs.Serving.{IsOneStory}
use Rattle.sc_server.proofs.CrewLemmas.{SetsBetween, none_between, one_more_between, all_between, AreReportedBackFrom, none_back_reported, one_more_back_reported, all_back_reported}
use Rattle.sc_server.proofs.MatchLemmas.{element_of}
use Rattle.sc_server.proofs.StoryLemmas.{AreJoined, none_joined, one_more_joined, all_joined}

module _ {R C H P L : Type 0} where
  -- those after the ones that are left are done: their crews are back, are out no more, and their passes were joined
  pub record IsHalfway (locks : Locks) (passes : Passes) (all left : List (Worker R C H P L)) (back_old back_now : Option (ℕ → Option (Crew C H P L)))
      (out_old out_now : ℕ → Bool) : Type 0 where
    pub done : List (Worker R C H P L)
    pub split : all ≡ left ++ done
    pub are : ArePasses locks passes
    pub joined : AreJoined (map seen_by_worker done) (seen_of passes)
    pub back : AreReportedBackFrom (length left) done back_old back_now
    pub out : SetsBetween (length left) (length all) false out_old out_now

  -- none is done
  pub none_done : (locks : Locks) (passes : Passes) (all : List (Worker R C H P L)) (back : Option (ℕ → Option (Crew C H P L))) (out : ℕ → Bool)
      → ArePasses locks passes → IsHalfway locks passes all all back back out out
  none_done locks passes all back out are = record {
    done = [];
    split = sym (append-nil all);
    are = are;
    joined = none_joined (seen_of passes);
    back = none_back_reported R C H P L (length all) back;
    out = none_between (length all) false out;
  }

  -- what holds of each worker holds of the last of those that are left
  pub last_left : (Q : Worker R C H P L → Type 0) (all left rest : List (Worker R C H P L)) (done : List (Worker R C H P L)) (worker : Worker R C H P L)
      → All Q all → all ≡ left ++ done → left ≡ rest ++ worker ∷ [] → Q worker
  last_left Q all left rest done worker each split ends =
      element_of Q all rest worker done each
      (split ∙ ap (λ (xs : List (Worker R C H P L)). xs ++ done) ends ∙ append_assoc rest (worker ∷ []) done)

  module _ (locks : Locks) (passes : Passes) (all left : List (Worker R C H P L)) (back_old back_now : Option (ℕ → Option (Crew C H P L)))
      (out_old out_now : ℕ → Bool) (is : IsHalfway locks passes all left back_old back_now out_old out_now) where
    module _ (rest : List (Worker R C H P L)) (worker : Worker R C H P L) (ends : left ≡ rest ++ worker ∷ []) where
      long : length left ≡ length rest + 1
      long = ap length ends ∙ length_push rest worker

      inside : length rest < length all
      inside =
          let both : length all ≡ length (left ++ is.done) = ap length is.split in
          omega (arith, both, long, length-append left is.done)

      -- the crew of the last one that is left is out
      pub still_out : ((number : ℕ) → number < length all → out_old number ≡ true) → out_now (length rest) ≡ true
      still_out out = is.out.before (length rest) (omega (arith, long)) ∙ out (length rest) inside

      -- the last one that is left is ready
      pub still_ready : All (IsReady locks) all → IsReady locks worker
      still_ready each = last_left (IsReady locks) all left rest is.done worker each is.split ends

      -- it is done too
      pub one_more_done : (next : Passes) (back_next : Option (ℕ → Option (Crew C H P L))) (out_next : ℕ → Bool) → ArePasses locks next
          → SeesBoth (seen_of passes) (seen_by_worker worker) (seen_of next)
          → SetsReported (length rest) (Some (without_moment worker.crew)) back_now back_next → SetsAt (length rest) false out_now out_next
          → IsHalfway locks next all rest back_old back_next out_old out_next
      one_more_done next back_next out_next are both back out = record {
        done = worker ∷ is.done;
        split = is.split ∙ ap (λ (xs : List (Worker R C H P L)). xs ++ is.done) ends ∙ append_assoc rest (worker ∷ []) is.done;
        are = are;
        joined = one_more_joined (seen_by_worker worker) (map seen_by_worker is.done) (seen_of passes) (seen_of next) is.joined both;
        back = one_more_back_reported (length rest) worker is.done back_old back_now back_next
            (subst (λ (n : ℕ). AreReportedBackFrom n is.done back_old back_now) long is.back) back;
        out = one_more_between (length rest) (length all) false out_old out_now out_next inside
            (subst (λ (n : ℕ). SetsBetween n (length all) false out_old out_now) long is.out) out;
      }

    module _ (none : left ≡ []) where
      done_is : is.done ≡ all
      done_is = ap (λ (xs : List (Worker R C H P L)). xs ++ is.done) (sym none) ∙ sym is.split

      pub story : IsOneStory (layout_of locks) (map seen_by_worker all) (seen_of passes)
      story =
          subst (λ (xs : List (Worker R C H P L)). IsOneStory (layout_of locks) (map seen_by_worker xs) (seen_of passes)) done_is
          (all_joined (layout_of locks) (map seen_by_worker is.done) (seen_of passes) is.are.of_locks.legal is.joined)

      pub back : AreReportedBack all back_old back_now
      back =
          all_back_reported all back_old back_now
          (subst (λ (xs : List (Worker R C H P L)). AreReportedBackFrom 0 xs back_old back_now) done_is
          (subst (λ (n : ℕ). AreReportedBackFrom n is.done back_old back_now) (ap length none) is.back))

      pub out : SetsBelow (length all) false out_old out_now
      out =
          all_between (length all) false out_old out_now
          (subst (λ (n : ℕ). SetsBetween n (length all) false out_old out_now) (ap length none) is.out)
