-- What a list of makers is after its first has other hosts, and after each has worked.
use Rattle.std.proofs.Common.{◌≡◌, ◌≢◌, ◌∙◌, ◌<◌, ◌≤◌, ◌+◌, ℕ, zero, suc, List, [], ◌∷◌, length, get_or, set, take, slice_get, Some, refl, sym, ap, subst, arith}
use Rattle.std.specs.List.{All, sum_by}
use Rattle.std.proofs.Math.Seq.{take-length}
use Rattle.std.proofs.lemmas.List.Sums.{sum_by_more}
use Rattle.std.proofs.lemmas.Option.{slice_get_within, slice_get-get_or}
use Rattle.sc_io.specs.declared.hosts.Host.{Host}
use Rattle.sc_shared.specs.Collections.{Locks}
use Rattle.sc_cores.specs.Cores.{StartsCores}
use Rattle.sc_server.proofs.WorkerLemmas.{all_with_first, related_at, moved}
use Rattle.sc_demo.specs.declared.maker.Maker.{Maker}
use Rattle.sc_demo.specs.declared.task.Outcome.{Outcome}
use Rattle.sc_demo.specs.declared.task.Outcome.TheVariants as outcomes
use Rattle.sc_demo.specs.Making.{MakerReports, accepted_by, accepted_in}
use Rattle.sc_demo.specs.Makers.{IsMakerHome, IsMakerReady, IsReadyToMake, maker_with_hosts, HasFirstMakerHosts, HasMade, HaveMade, FirstMakerStarts, IsOutcomeOf, MakesAll}

module _ {R C H P L : Type 0} where
  -- a maker is at home, and ready, with any hosts
  home_with_hosts : (collection : Locks) (hosts : H) (maker : Maker R C H P L) → IsMakerHome collection maker → IsMakerHome collection (maker_with_hosts hosts maker)
  home_with_hosts collection hosts maker is = record { passes = is.passes; there = is.there; are = is.are; of_collection = is.of_collection }

  ready_with_hosts : (collection : Locks) (hosts : H) (maker : Maker R C H P L) → IsMakerReady collection maker → IsMakerReady collection (maker_with_hosts hosts maker)
  ready_with_hosts collection hosts maker is =
      record { home = home_with_hosts collection hosts maker is.home; demo = is.demo; task = is.task }

  -- what is ready over a collection is ready over its own
  pub ready_to_make : (collection : Locks) (maker : Maker R C H P L) → IsMakerReady collection maker → IsReadyToMake maker
  ready_to_make collection maker is = subst (λ (locks : Locks). IsMakerReady locks maker) (sym is.home.of_collection) is

  pub all_home : (collection : Locks) (makers : List (Maker R C H P L)) → All (IsMakerReady collection) makers → All (IsMakerHome collection) makers
  all_home collection makers each = λ k d within. (each k d within).home

  -- makers are at home, and ready, once the first has other hosts
  pub home_after : (collection : Locks) (hosts : H) (d : Maker R C H P L) (makers : List (Maker R C H P L)) → 1 ≤ length makers
      → All (IsMakerReady collection) makers → All (IsMakerHome collection) (set makers 0 (maker_with_hosts hosts (get_or makers 0 d)))
  home_after collection hosts d makers some each =
      all_with_first (IsMakerHome collection) makers (maker_with_hosts hosts (get_or makers 0 d)) (all_home collection makers each)
      (home_with_hosts collection hosts (get_or makers 0 d) (each 0 d some).home)

  pub ready_after : (collection : Locks) (hosts : H) (d : Maker R C H P L) (makers : List (Maker R C H P L)) → 1 ≤ length makers
      → All (IsMakerReady collection) makers → All (IsMakerReady collection) (set makers 0 (maker_with_hosts hosts (get_or makers 0 d)))
  ready_after collection hosts d makers some each =
      all_with_first (IsMakerReady collection) makers (maker_with_hosts hosts (get_or makers 0 d)) each
      (ready_with_hosts collection hosts (get_or makers 0 d) (each 0 d some))

  pub all_ready_to_make : (hosts : H) (d : Maker R C H P L) (makers : List (Maker R C H P L)) → 1 ≤ length makers
      → All IsReadyToMake makers → All IsReadyToMake (set makers 0 (maker_with_hosts hosts (get_or makers 0 d)))
  all_ready_to_make hosts d makers some each = all_with_first IsReadyToMake makers (maker_with_hosts hosts (get_or makers 0 d)) each
      (ready_with_hosts (get_or makers 0 d).collection.now hosts (get_or makers 0 d) (each 0 d some))

  -- the first has other hosts, and all else is as it was
  pub first_hosts : (hosts : H) (d : Maker R C H P L) (makers : List (Maker R C H P L)) → 1 ≤ length makers
      → HasFirstMakerHosts hosts (get_or makers 0 d) makers (set makers 0 (maker_with_hosts hosts (get_or makers 0 d)))
  first_hosts hosts d [] some = absurd (omega (arith, some))
  first_hosts hosts d (x ∷ more) some = record { count = refl; old_is = refl; new_is = refl; rest = rest } where
    rest : (number : ℕ) → number ≢ 0 → slice_get (maker_with_hosts hosts x ∷ more) number ≡ slice_get (x ∷ more) number
    rest zero not = absurd (not refl)
    rest (suc number) not = refl

  -- ---- the orders that makers accepted are counted
  -- one of them accepted no more than a workload has
  pub one_few : (makers : List (Maker R C H P L)) (place : ℕ) (maker : Maker R C H P L) (one : ℕ) → place < length makers
      → maker ≡ get_or makers place maker → one ≡ accepted_in maker.made → All (λ (maker : Maker R C H P L). accepted_in maker.made ≤ 100000) makers → one ≤ 100000
  one_few makers place maker one within at is each =
      subst (λ (n : ℕ). n ≤ 100000) (sym (is ∙ ap (λ (maker : Maker R C H P L). accepted_in maker.made) at)) (each place maker within)

  -- one maker more is counted
  pub one_more_counted : (makers : List (Maker R C H P L)) (place : ℕ) (maker : Maker R C H P L) (sum one : ℕ) → place < length makers
      → maker ≡ get_or makers place maker → sum ≡ sum_by (λ (maker : Maker R C H P L). accepted_in maker.made) (take place makers)
      → one ≡ accepted_in maker.made → sum + one ≡ sum_by (λ (maker : Maker R C H P L). accepted_in maker.made) (take (place + 1) makers)
  one_more_counted makers place maker sum one within at so_far is =
      let more = sum_by_more (λ (maker : Maker R C H P L). accepted_in maker.made) makers place maker within in
      let here = ap (λ (maker : Maker R C H P L). accepted_in maker.made) at in
      omega (arith, more, here, so_far, is)

  -- all of them are counted
  pub all_counted : (makers : List (Maker R C H P L)) (place sum : ℕ) → length makers ≡ place
      → sum ≡ sum_by (λ (maker : Maker R C H P L). accepted_in maker.made) (take place makers)
      → sum ≡ sum_by (λ (maker : Maker R C H P L). accepted_in maker.made) makers
  all_counted makers place sum all so_far =
      so_far ∙ ap (λ (n : ℕ). sum_by (λ (maker : Maker R C H P L). accepted_in maker.made) (take n makers)) (sym all)
      ∙ ap (sum_by (λ (maker : Maker R C H P L). accepted_in maker.made)) (take-length makers)

  -- a maker that was ready over a collection is at home over it where it is over its own
  home_over : (collection : Locks) (old new : Maker R C H P L) → IsMakerReady collection old → IsMakerHome old.collection.now new → IsMakerHome collection new
  home_over collection old new was is = subst (λ (locks : Locks). IsMakerHome locks new) was.home.of_collection is

module _ {R C H P L : Type 0} (reports : MakerReports C H P) (cores : List Host) (d : Maker R C H P L) (makers : List (Maker R C H P L)) (hosts : H)
    (some : 1 ≤ length makers) where
  -- the hosts of the first have not started the cores
  pub makes_host_fails : (reports.outside (get_or makers 0 d).crew.hosts (get_or makers 0 d).crew.pace).start_faults
      < (reports.outside hosts (get_or makers 0 d).crew.pace).start_faults
      → MakesAll reports cores makers (set makers 0 (maker_with_hosts hosts (get_or makers 0 d))) outcomes.HostFailed
  makes_host_fails fault = record { first = get_or makers 0 d; hosts = hosts; is = first_hosts hosts d makers some; fault = fault }

  -- they have started them, and each maker has worked
  pub makes_made : (new : List (Maker R C H P L)) (outcome : Outcome)
      → StartsCores cores (reports.outside (get_or makers 0 d).crew.hosts (get_or makers 0 d).crew.pace) (reports.outside hosts (get_or makers 0 d).crew.pace)
      → HaveMade reports (set makers 0 (maker_with_hosts hosts (get_or makers 0 d))) new → IsOutcomeOf new outcome → MakesAll reports cores makers new outcome
  makes_made new outcomes.HostFailed starts made is = absurd is
  makes_made new outcomes.Memory starts made is = tt
  makes_made new (outcomes.Told accepted split) starts made is = record {
    began = set makers 0 (maker_with_hosts hosts (get_or makers 0 d));
    starts = record { first = get_or makers 0 d; hosts = hosts; is = first_hosts hosts d makers some; starts = starts };
    have = made;
    told = is;
  }

module _ {R C H P L : Type 0} (reports : MakerReports C H P) where
  -- the maker has worked, and is at home over its own collection still
  abbrev pub IsMadeAtHome : (old new : Maker R C H P L) → Type 0
  IsMadeAtHome old new = IsMakerHome old.collection.now new × HasMade reports old new

  -- two makers are equal to one that has worked, before and after
  abbrev pub AreOfCall : (old new : Maker R C H P L) → Type 0
  AreOfCall old new = (a : Maker R C H P L) × (b : Maker R C H P L) × (a ≡ old) × (b ≡ new) × IsMadeAtHome a b

  by_call : (old new : Maker R C H P L) → AreOfCall old new → IsMadeAtHome old new
  by_call old new (a, b, is_old, is_new, holds) = moved IsMadeAtHome a b old new is_old is_new holds

  -- where each call had a maker work, all have worked
  pub made_each : (old new : List (Maker R C H P L)) → length new ≡ length old
      → ((i : ℕ) (d : Maker R C H P L) → i < length old → AreOfCall (get_or old i d) (get_or new i d)) → HaveMade reports old new
  made_each old new count calls = record {
    count = count;
    each = λ number before after at_before at_after. (related_at IsMadeAtHome old new
        (λ i d within. by_call (get_or old i d) (get_or new i d) (calls i d within)) number before after at_before at_after).1;
  }

  -- and are at home over the collection over which they were
  pub home_each : (old new : List (Maker R C H P L)) → length new ≡ length old
      → ((i : ℕ) (d : Maker R C H P L) → i < length old → AreOfCall (get_or old i d) (get_or new i d))
      → (collection : Locks) → All (IsMakerReady collection) old → All (IsMakerHome collection) new
  home_each old new count calls collection each = λ k d within.
      let here : k < length old = omega (arith, within, count) in
      home_over collection (get_or old k d) (get_or new k d) (each k d here) (by_call (get_or old k d) (get_or new k d) (calls k d here)).0

  -- no maker made more than a workload has
  pub few_each : (old new : List (Maker R C H P L)) → HaveMade reports old new → All (λ (maker : Maker R C H P L). accepted_in maker.made ≤ 100000) new
  few_each old new have = λ k d within.
      let one = slice_get-get_or old k d (omega (arith, within, have.count)) in
      let other = slice_get-get_or new k d within in
      let is = have.each k (get_or old k d) (get_or new k d) one other in
      subst (λ made. accepted_in made ≤ 100000) (sym is.did_is) is.few
