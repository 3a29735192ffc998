-- The crews of makers are given one after another, from the first on, and are taken back from the last on.
use Rattle.std.proofs.Common.{◌≡◌, ◌≢◌, ◌⊎◌, inl, inr, ◌≤◌, ◌<◌, ℕ, zero, suc, ◌+◌, Bool, true, false, List, [], ◌∷◌, ◌++◌, length, length-append, map, Option, Some, None, IfSome, slice_get, refl, sym, ap, subst, ◌∙◌, append_assoc, arith}
use Rattle.std.specs.List.{All}
use Rattle.std.proofs.lemmas.Bool.{cases_eq}
use Rattle.std.proofs.lemmas.List.{append-nil, length_push}
use Rattle.std.proofs.lemmas.Option.{same_Some, slice_get_within, slice_get-get_or}
use Rattle.sc_journal.proofs.ListLemmas.{slice_get-append_end, slice_get-append_left}
use Rattle.sc_lock.specs.Journal.{merged_places}
use Rattle.sc_seen.specs.Seen.{Seen}
use Rattle.sc_session.specs.declared.station.Crew.{Crew}
use Rattle.sc_session.specs.Stations.{SetsAt, SetsReported}
use Rattle.sc_shared.specs.declared.passes.Passes.{Passes}
use Rattle.sc_shared.specs.Passes.{seen_of}
use Rattle.sc_shared.specs.Collections.{Locks, layout_of, SeesBoth}
use Rattle.sc_shared.specs.Sharing.{ArePasses}
use Rattle.sc_arguments.specs.declared.asked.Demo.{Demo}
use Rattle.sc_server.specs.Crews.{SetsBelow, SetsReportedBelow}
use Rattle.sc_server.specs.Serving.{IsOneStory}
use Rattle.sc_server.proofs.CrewLemmas.{none_set, none_set_reported, one_more_set, one_more_reported, SetsBetween, none_between, one_more_between, all_between}
use Rattle.sc_server.proofs.MatchLemmas.{element_of}
use Rattle.sc_server.proofs.StoryLemmas.{AreJoined, none_joined, one_more_joined, all_joined}
use Rattle.sc_demo.specs.declared.maker.Maker.{Maker}
use Rattle.sc_arguments.specs.Arguments.{IsDemo}
use Rattle.sc_demo.specs.declared.task.Task.{Task}
use Rattle.sc_demo.specs.Making.{IsTaskOf, task_at}
use Rattle.sc_demo.proofs.NumberLemmas.{task_fits}
use Rattle.sc_demo.specs.Makers.{IsMakerEnlisted, AreMakersEnlisted, IsMakerHome, IsMakerReady, AreMakersBack, AreMakersReportedBack, seen_by_maker}
use Rattle.sc_demo.specs.Together.{own_of_all}

module _ {R C H P L : Type 0} where
  -- ---- one maker after another gets its crew
  pub none_enlisted : (demo : Demo) (locks : Locks) (crews : Option (ℕ → Option (Crew C H P L))) (makers : List (Maker R C H P L))
      → makers ≡ [] → AreMakersEnlisted demo locks crews makers
  none_enlisted demo locks crews makers none number maker at =
      let within = slice_get_within makers number maker at in
      let long : length makers ≡ 0 = ap length none in
      absurd (omega (arith, within, long))

  pub none_given : {A : Type 0} (value : A) (old : Option (ℕ → A)) (makers : List (Maker R C H P L)) → makers ≡ []
      → SetsReportedBelow (length makers) value old old
  none_given {A} value old makers none =
      subst (λ (n : ℕ). SetsReportedBelow {A = A} n value old old) (sym (ap length none)) (none_set_reported value old)

  pub none_out : {A : Type 0} (value : A) (old : ℕ → A) (makers : List (Maker R C H P L)) → makers ≡ [] → SetsBelow (length makers) value old old
  none_out {A} value old makers none = subst (λ (n : ℕ). SetsBelow {A = A} n value old old) (sym (ap length none)) (none_set value old)

  one_longer : (makers new : List (Maker R C H P L)) (maker : Maker R C H P L) → new ≡ makers ++ maker ∷ [] → length makers + 1 ≡ length new
  one_longer makers new maker ends = sym (ap length ends ∙ length_push makers maker)

  pub same_count : {K : Type 0} (makers new : List (Maker R C H P L)) (maker : Maker R C H P L) (yielded : List K) (kit : K)
      → new ≡ makers ++ maker ∷ [] → length makers ≡ length yielded → length new ≡ length (yielded ++ kit ∷ [])
  same_count makers new maker yielded kit ends count =
      omega (arith, one_longer makers new maker ends, count, length_push yielded kit)

  pub few_yet : {K : Type 0} (makers : List (Maker R C H P L)) (kits : List K) → makers ≡ [] → length makers ≤ length kits
  few_yet makers kits none = let long : length makers ≡ 0 = ap length none in omega (arith, long)

  pub still_few : {K : Type 0} (makers new : List (Maker R C H P L)) (maker : Maker R C H P L) (yielded : List K) (kit : K) (rest kits : List K)
      → new ≡ makers ++ maker ∷ [] → length makers ≡ length yielded → (yielded ++ kit ∷ []) ++ rest ≡ kits → length new ≤ length kits
  still_few makers new maker yielded kit rest kits ends count left =
      let long : length ((yielded ++ kit ∷ []) ++ rest) ≡ length kits = ap length left in
      omega (arith, same_count makers new maker yielded kit ends count, long, length-append (yielded ++ kit ∷ []) rest)

  pub one_more_given : {A : Type 0} (value : A) (old now next : Option (ℕ → A)) (makers new : List (Maker R C H P L)) (maker : Maker R C H P L)
      → new ≡ makers ++ maker ∷ [] → SetsReportedBelow (length makers) value old now → SetsReported (length makers) value now next
      → SetsReportedBelow (length new) value old next
  one_more_given {A} value old now next makers new maker ends are is =
      subst (λ (n : ℕ). SetsReportedBelow {A = A} n value old next) (one_longer makers new maker ends)
      (one_more_reported (length makers) value old now next are is)

  pub one_more_out : {A : Type 0} (value : A) (old now next : ℕ → A) (makers new : List (Maker R C H P L)) (maker : Maker R C H P L)
      → new ≡ makers ++ maker ∷ [] → SetsBelow (length makers) value old now → SetsAt (length makers) value now next
      → SetsBelow (length new) value old next
  one_more_out {A} value old now next makers new maker ends are is =
      subst (λ (n : ℕ). SetsBelow {A = A} n value old next) (one_longer makers new maker ends)
      (one_more_set (length makers) value old now next are is)

  -- one maker more is enlisted
  pub one_more_enlisted : (demo : Demo) (locks : Locks) (crews : Option (ℕ → Option (Crew C H P L))) (makers new : List (Maker R C H P L))
      (maker : Maker R C H P L) → new ≡ makers ++ maker ∷ [] → AreMakersEnlisted demo locks crews makers
      → IsMakerEnlisted demo locks crews (length makers) maker → AreMakersEnlisted demo locks crews new
  one_more_enlisted demo locks crews makers new maker ends are is number one at = by (cases_eq number (length makers)) where
    there : slice_get (makers ++ maker ∷ []) number ≡ Some one
    there = ap (λ (ones : List (Maker R C H P L)). slice_get ones number) (sym ends) ∙ at

    by : (number ≡ length makers) ⊎ (number ≢ length makers) → IsMakerEnlisted demo locks crews number one
    by (inl here) =
        let same : maker ≡ one =
        same_Some maker one (sym (slice_get-append_end makers maker []) ∙ ap (slice_get (makers ++ maker ∷ [])) (sym here) ∙ there) in
        subst (λ (n : ℕ). IsMakerEnlisted demo locks crews n one) (sym here) (subst (IsMakerEnlisted demo locks crews (length makers)) same is)
    by (inr other) =
        let within = slice_get_within (makers ++ maker ∷ []) number one there in
        let below : number < length makers = omega (arith, within, other, length_push makers maker) in
        are number one (sym (slice_get-append_left makers (maker ∷ []) number below) ∙ there)

  pub all_from_places : (Q : Maker R C H P L → Type 0) (makers : List (Maker R C H P L))
      → ((number : ℕ) (maker : Maker R C H P L) → slice_get makers number ≡ Some maker → Q maker) → All Q makers
  all_from_places Q makers each number default within = each number _ (slice_get-get_or makers number default within)

  -- makers that are enlisted are ready
  pub all_ready : (demo : Demo) (locks : Locks) (crews : Option (ℕ → Option (Crew C H P L))) (makers : List (Maker R C H P L))
      → IsDemo demo → AreMakersEnlisted demo locks crews makers → All (IsMakerReady locks) makers
  all_ready demo locks crews makers is_demo are = all_from_places (IsMakerReady locks) makers (λ number maker at.
      let is = are number maker at in
      record {
        home = record { passes = is.passes; there = is.there; are = is.new.are; of_collection = is.over };
        demo = subst IsDemo (sym is.demo_is) is_demo;
        task = subst (λ (task : Task). IsTaskOf maker.demo task) (sym is.task)
            (subst (λ (one : Demo). IsTaskOf one (task_at demo number)) (sym is.demo_is) (task_fits demo number));
      })

  -- the passes of one that is at home are of the collection
  pub home_passes : (locks : Locks) (maker : Maker R C H P L) → IsMakerHome locks maker → IfSome maker.passes (ArePasses locks)
  home_passes locks maker is = subst (λ one. IfSome one (ArePasses locks)) (sym is.there) is.are

  -- ---- one maker after another gives its crew back
  -- the crew of each of these makers, whose numbers begin with the first, is back at its number, and at every other stands what stood there
  pub record AreBackFrom (first : ℕ) (done : List (Maker R C H P L)) (old new : ℕ → Option (Crew C H P L)) : Type 0 where
    pub each : (place number : ℕ) (maker : Maker R C H P L) → slice_get done place ≡ Some maker → number ≡ first + place → new number ≡ Some maker.crew
    pub before : (number : ℕ) → number < first → new number ≡ old number
    pub beyond : (number : ℕ) → first + length done ≤ number → new number ≡ old number

  abbrev pub AreReportedBackFrom : ℕ → List (Maker R C H P L) → (old new : Option (ℕ → Option (Crew C H P L))) → Type 0
  AreReportedBackFrom first done old new =
      IfSome old (λ before. (after : ℕ → Option (Crew C H P L)) × (new ≡ Some after) × AreBackFrom first done before after)

  none_back : (first : ℕ) (old : ℕ → Option (Crew C H P L)) → AreBackFrom first [] old old
  none_back first old = record {
    each = λ place number maker at is. absurd (cc);
    before = λ number below. refl;
    beyond = λ number from. refl;
  }

  one_more_back : (first : ℕ) (maker : Maker R C H P L) (done : List (Maker R C H P L)) (old now new : ℕ → Option (Crew C H P L))
      → AreBackFrom (first + 1) done old now → SetsAt first (Some maker.crew) now new → AreBackFrom first (maker ∷ done) old new
  one_more_back first maker done old now new are is = record {
    each = each;
    before = λ number below. is.elsewhere number (λ same. absurd (omega (arith, below, same))) ∙ are.before number (omega (arith, below));
    beyond = λ number from. is.elsewhere number (λ same. absurd (omega (arith, from, same))) ∙ are.beyond number (omega (arith, from));
  } where
    each : (place number : ℕ) (other : Maker R C H P L) → slice_get (maker ∷ done) place ≡ Some other → number ≡ first + place
        → new number ≡ Some other.crew
    each zero number other at here =
        let same : maker ≡ other = same_Some maker other at in
        let first_is : number ≡ first = omega (arith, here) in
        ap new first_is ∙ is.here ∙ ap (λ (one : Maker R C H P L). Some one.crew) same
    each (suc place) number other at here =
        is.elsewhere number (λ same. absurd (omega (arith, here, same))) ∙ are.each place number other at (omega (arith, here))

  one_more_back_reported : (first : ℕ) (maker : Maker R C H P L) (done : List (Maker R C H P L))
      (old now new : Option (ℕ → Option (Crew C H P L))) → AreReportedBackFrom (first + 1) done old now
      → SetsReported first (Some maker.crew) now new → AreReportedBackFrom first (maker ∷ done) old new
  one_more_back_reported first maker done None now new are is = tt
  one_more_back_reported first maker done (Some before) now new (between, now_is, are) is =
      let next = subst (λ (one : Option (ℕ → Option (Crew C H P L))). SetsReported first (Some maker.crew) one new) now_is is in
      (next.0, next.1, one_more_back first maker done before between next.0 are next.2)

  all_back : (makers : List (Maker R C H P L)) (old new : ℕ → Option (Crew C H P L)) → AreBackFrom 0 makers old new → AreMakersBack makers old new
  all_back makers old new are = record {
    each = λ number maker at. are.each number number maker at (omega arith);
    rest = λ number from. are.beyond number (omega (arith, from));
  }

  all_back_reported : (makers : List (Maker R C H P L)) (old new : Option (ℕ → Option (Crew C H P L)))
      → AreReportedBackFrom 0 makers old new → AreMakersReportedBack makers old new
  all_back_reported makers None new are = tt
  all_back_reported makers (Some before) new (after, new_is, are) = (after, new_is, all_back makers before after are)

-- none of the crews is back yet
none_back_reported : (R C H P L : Type 0) (first : ℕ) (old : Option (ℕ → Option (Crew C H P L)))
    → AreReportedBackFrom {R = R} {C = C} {H = H} {P = P} {L = L} first [] old old
none_back_reported R C H P L first None = tt
none_back_reported R C H P L first (Some before) = (before, refl, none_back first before)

module _ {R C H P L : Type 0} where
  -- those after the ones that are left are done: their crews are back, are out no more, and their passes were joined
  pub record IsHalfway (locks : Locks) (passes : Passes) (all left : List (Maker R C H P L)) (back_old back_now : Option (ℕ → Option (Crew C H P L)))
      (out_old out_now : ℕ → Bool) : Type 0 where
    pub done : List (Maker R C H P L)
    pub split : all ≡ left ++ done
    pub are : ArePasses locks passes
    pub joined : AreJoined (map seen_by_maker done) (seen_of passes)
    pub own : (lock : ℕ) → (seen_of passes).own lock ≡ own_of_all (map seen_by_maker done) lock
    pub back : AreReportedBackFrom (length left) done back_old back_now
    pub out : SetsBetween (length left) (length all) false out_old out_now

  -- none is done
  pub none_done : (locks : Locks) (passes : Passes) (all : List (Maker R C H P L)) (back : Option (ℕ → Option (Crew C H P L))) (out : ℕ → Bool)
      → ArePasses locks passes → ((lock : ℕ) → (seen_of passes).own lock ≡ []) → IsHalfway locks passes all all back back out out
  none_done locks passes all back out are none = record {
    done = [];
    split = sym (append-nil all);
    are = are;
    joined = none_joined (seen_of passes);
    own = none;
    back = none_back_reported R C H P L (length all) back;
    out = none_between (length all) false out;
  }

  module _ (locks : Locks) (passes : Passes) (all left : List (Maker R C H P L)) (back_old back_now : Option (ℕ → Option (Crew C H P L)))
      (out_old out_now : ℕ → Bool) (is : IsHalfway locks passes all left back_old back_now out_old out_now) where
    module _ (rest : List (Maker R C H P L)) (maker : Maker R C H P L) (ends : left ≡ rest ++ maker ∷ []) where
      long : length left ≡ length rest + 1
      long = ap length ends ∙ length_push rest maker

      pub inside : length rest < length all
      inside =
          let both : length all ≡ length (left ++ is.done) = ap length is.split in
          omega (arith, both, long, length-append left is.done)

      -- the crew of the last one that is left is out
      pub still_out : ((number : ℕ) → number < length all → out_old number ≡ true) → out_now (length rest) ≡ true
      still_out out = is.out.before (length rest) (omega (arith, long)) ∙ out (length rest) inside

      -- the last one that is left is at home
      pub still_home : All (IsMakerHome locks) all → IsMakerHome locks maker
      still_home each =
          element_of (IsMakerHome locks) all rest maker is.done each
          (is.split ∙ ap (λ (xs : List (Maker R C H P L)). xs ++ is.done) ends ∙ append_assoc rest (maker ∷ []) is.done)

      -- it is done too
      pub one_more_done : (next : Passes) (back_next : Option (ℕ → Option (Crew C H P L))) (out_next : ℕ → Bool) → ArePasses locks next
          → SeesBoth (seen_of passes) (seen_by_maker maker) (seen_of next)
          → SetsReported (length rest) (Some maker.crew) back_now back_next → SetsAt (length rest) false out_now out_next
          → IsHalfway locks next all rest back_old back_next out_old out_next
      one_more_done next back_next out_next are both back out = record {
        done = maker ∷ is.done;
        split = is.split ∙ ap (λ (xs : List (Maker R C H P L)). xs ++ is.done) ends ∙ append_assoc rest (maker ∷ []) is.done;
        are = are;
        joined = one_more_joined (seen_by_maker maker) (map seen_by_maker is.done) (seen_of passes) (seen_of next) is.joined both;
        own = λ lock. both.own lock ∙ ap (λ (places : List ℕ). merged_places places ((seen_by_maker maker).own lock)) (is.own lock);
        back = one_more_back_reported (length rest) maker is.done back_old back_now back_next
            (subst (λ (n : ℕ). AreReportedBackFrom n is.done back_old back_now) long is.back) back;
        out = one_more_between (length rest) (length all) false out_old out_now out_next inside
            (subst (λ (n : ℕ). SetsBetween n (length all) false out_old out_now) long is.out) out;
      }

    module _ (none : left ≡ []) where
      done_is : is.done ≡ all
      done_is = ap (λ (xs : List (Maker R C H P L)). xs ++ is.done) (sym none) ∙ sym is.split

      pub story : IsOneStory (layout_of locks) (map seen_by_maker all) (seen_of passes)
      story =
          subst (λ (xs : List (Maker R C H P L)). IsOneStory (layout_of locks) (map seen_by_maker xs) (seen_of passes)) done_is
          (all_joined (layout_of locks) (map seen_by_maker is.done) (seen_of passes) is.are.of_locks.legal is.joined)

      pub own : (lock : ℕ) → (seen_of passes).own lock ≡ own_of_all (map seen_by_maker all) lock
      own lock = is.own lock ∙ ap (λ (xs : List (Maker R C H P L)). own_of_all (map seen_by_maker xs) lock) done_is

      pub back : AreMakersReportedBack all back_old back_now
      back =
          all_back_reported all back_old back_now
          (subst (λ (xs : List (Maker R C H P L)). AreReportedBackFrom 0 xs back_old back_now) done_is
          (subst (λ (n : ℕ). AreReportedBackFrom n is.done back_old back_now) (ap length none) is.back))

      pub out : SetsBelow (length all) false out_old out_now
      out =
          all_between (length all) false out_old out_now
          (subst (λ (n : ℕ). SetsBetween n (length all) false out_old out_now) (ap length none) is.out)
