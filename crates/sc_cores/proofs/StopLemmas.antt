-- What stopping one core more came to.
use Rattle.std.proofs.Common.{◌≡◌, ◌∙◌, ℕ, suc, ◌+◌, ◌<◌, ◌≤◌, Bool, true, false, not, cond, nat_lt, List, [], ◌∷◌, ◌++◌, length, get_or, take, Option, Some, None, IfSome, Result, Ok, Err, OnOk, OnErr, refl, sym, ap, subst, arith}
use Rattle.std.specs.Prelude.{count_by, is_some, is_err}
use Rattle.std.specs.List.{items_where_true, position, position_or_len}
use Rattle.std.specs.Option.{option_map}
use Rattle.std.proofs.lemmas.Bool.Decides.{nat_tests}
use Rattle.std.proofs.lemmas.List.{take_more, append-nil, length-take-le, length_push}
use Rattle.std.proofs.lemmas.List.Sums.{fold-append, sum_by_push}
use Rattle.sc_cluster.proofs.CountLemmas.{count_by-cons}
use Rattle.sc_io.specs.declared.hosts.Host.{Host}
use Rattle.sc_io.specs.Hosts.{without_core}
use Rattle.sc_cores.specs.Cores.{without_cores, StopsEach}

-- ---- the place of the first mark that says no
position-yes : (marks : List Bool) → position not (true ∷ marks) ≡ option_map (λ k. 1 + k) (position not marks)
position-yes marks = by (nat_lt (position_or_len not marks) (length marks)) same where
  same : nat_lt (1 + position_or_len not marks) (length (true ∷ marks)) ≡ nat_lt (position_or_len not marks) (length marks)
  same = more (position_or_len not marks) (length marks) where
    more : (a b : ℕ) → nat_lt (1 + a) (suc b) ≡ nat_lt a b
    more a b = grind (arith, nat_tests)

  by : (b : Bool) → nat_lt (1 + position_or_len not marks) (length (true ∷ marks)) ≡ b
      → cond (nat_lt (1 + position_or_len not marks) (length (true ∷ marks))) (Some (1 + position_or_len not marks)) None
      ≡ option_map (λ k. 1 + k) (cond b (Some (position_or_len not marks)) None)
  by true is = ap (λ b. cond b (Some (1 + position_or_len not marks)) None) is
  by false is = ap (λ b. cond b (Some (1 + position_or_len not marks)) None) is

position-no : (marks : List Bool) → position not (false ∷ marks) ≡ Some 0
position-no marks = ap (λ b. cond b (Some 0) None) (some (length marks)) where
  some : (n : ℕ) → nat_lt 0 (suc n) ≡ true
  some n = grind (arith, nat_tests)

-- after one that was stopped it stays
position_stopped : (marks : List Bool) → position not (marks ++ true ∷ []) ≡ position not marks
position_stopped [] = refl
position_stopped (false ∷ marks) = position-no (marks ++ true ∷ []) ∙ sym (position-no marks)
position_stopped (true ∷ marks) =
    position-yes (marks ++ true ∷ []) ∙ ap (option_map (λ k. 1 + k)) (position_stopped marks) ∙ sym (position-yes marks)

-- after one that failed it stays where there was one, and else is the place of that
abbrev pub first_or : Option ℕ → ℕ → Option ℕ
first_or failed at = cond (is_some failed) failed (Some at)

position_failed : (marks : List Bool) → position not (marks ++ false ∷ []) ≡ first_or (position not marks) (length marks)
position_failed [] = refl
position_failed (false ∷ marks) =
    position-no (marks ++ false ∷ []) ∙ sym (ap (λ o. first_or o (length (false ∷ marks))) (position-no marks))
position_failed (true ∷ marks) =
    position-yes (marks ++ false ∷ []) ∙ ap (option_map (λ k. 1 + k)) (position_failed marks) ∙ later (position not marks)
    ∙ sym (ap (λ o. first_or o (length (true ∷ marks))) (position-yes marks)) where
      later : (o : Option ℕ) → option_map (λ k. 1 + k) (first_or o (length marks)) ≡ first_or (option_map (λ k. 1 + k) o) (length (true ∷ marks))
      later None = let same : 1 + length marks ≡ suc (length marks) = omega arith in ap Some same
      later (Some at) = refl

-- ---- the cores that are marked, with one more
marked-push : (marks : List Bool) (mark : Bool) (cores : List Host) (core : Host) → length marks ≡ length cores
    → items_where_true (marks ++ mark ∷ []) (cores ++ core ∷ []) ≡ items_where_true marks cores ++ cond mark (core ∷ []) []
marked-push [] true [] core same = refl
marked-push [] false [] core same = refl
marked-push [] mark (other ∷ cores) core same = absurd (omega (arith, same))
marked-push (one ∷ marks) mark [] core same = absurd (omega (arith, same))
marked-push (true ∷ marks) mark (other ∷ cores) core same =
    let fewer : length marks ≡ length cores = omega (arith, same) in
    ap (λ (xs : List Host). other ∷ xs) (marked-push marks mark cores core fewer)
marked-push (false ∷ marks) mark (other ∷ cores) core same =
    let fewer : length marks ≡ length cores = omega (arith, same) in
    marked-push marks mark cores core fewer

-- where none fails to be marked all are
all-marked : (marks : List Bool) (cores : List Host) → length marks ≡ length cores → count_by not marks ≡ 0
    → items_where_true marks cores ≡ cores
all-marked [] [] same none = refl
all-marked [] (core ∷ cores) same none = absurd (omega (arith, same))
all-marked (mark ∷ marks) [] same none = absurd (omega (arith, same))
all-marked (true ∷ marks) (core ∷ cores) same none =
    let fewer : length marks ≡ length cores = omega (arith, same) in
    let rest : count_by not (true ∷ marks) ≡ 0 + count_by not marks = count_by-cons not true marks in
    let left : count_by not marks ≡ 0 = omega (arith, none, rest) in
    ap (λ (xs : List Host). core ∷ xs) (all-marked marks cores fewer left)
all-marked (false ∷ marks) (core ∷ cores) same none =
    let more : count_by not (false ∷ marks) ≡ 1 + count_by not marks = count_by-cons not false marks in
    absurd (omega (arith, none, more))

-- where stopping none of them failed each was stopped
pub none_failed : (cores : List Host) (before now : Option (List Host)) (faults_before faults_now : ℕ) (failed : Option ℕ)
    → StopsEach cores before now faults_before faults_now failed → faults_now ≡ faults_before
    → IfSome before (λ all. now ≡ Some (without_cores cores all))
none_failed cores before now faults_before faults_now failed was steady =
    let most = was.faults in
    let none : count_by not was.stopped ≡ 0 = omega (arith, most, steady) in
    subst (λ (some : List Host). IfSome before (λ all. now ≡ Some (without_cores some all))) (all-marked was.stopped cores was.each none) was.left

-- where some were stopped and then one more, all are
left_more : (before now next : Option (List Host)) (some : List Host) (core : Host)
    → IfSome before (λ all. now ≡ Some (without_cores some all)) → IfSome now (λ all. next ≡ Some (without_core core.node core.core all))
    → IfSome before (λ all. next ≡ Some (without_cores (some ++ core ∷ []) all))
left_more None now next some core was is = was
left_more (Some all) now next some core was is =
    subst (λ cores. IfSome cores (λ all. next ≡ Some (without_core core.node core.core all))) was is
    ∙ ap Some (sym (fold-append (λ left (host : Host). without_core host.node host.core left) all some (core ∷ [])))

-- what is so where it failed, and where it did not
pub at_err : {T F P : Type 0} (answer : Result T F) → true ≡ is_err answer → OnErr answer P → P
at_err (Ok one) is holds = absurd (cc)
at_err (Err fault) is holds = holds

pub at_ok : {T F P : Type 0} (answer : Result T F) → false ≡ is_err answer → OnOk answer P → P
at_ok (Ok one) is holds = holds
at_ok (Err fault) is holds = absurd (cc)

module _ (cores : List Host) (at : ℕ) (core : Host) (before now next : Option (List Host)) (faults_before faults_now faults_next : ℕ) (failed : Option ℕ)
    (below : at < length cores) (here : core ≡ get_or cores at core) (was : StopsEach (take at cores) before now faults_before faults_now failed) where
  first_more : take (at + 1) cores ≡ take at cores ++ core ∷ []
  first_more = take_more cores at core below ∙ ap (λ x. take at cores ++ x ∷ []) (sym here)

  count : length was.stopped ≡ at
  count = let within : at ≤ length cores = omega arith in was.each ∙ length-take-le at cores within

  -- where all were stopped before, and the core was, all were
  pub stopped_all : (all : List Host) → now ≡ Some (without_cores (take at cores) all)
      → IfSome now (λ all. next ≡ Some (without_core core.node core.core all)) → next ≡ Some (without_cores (take (at + 1) cores) all)
  stopped_all all left whole =
      left_more (Some all) now next (take at cores) core left whole
      ∙ ap (λ (some : List Host). Some (without_cores some all)) (sym first_more)

  -- the core was stopped
  pub stopped_one : IfSome now (λ all. next ≡ Some (without_core core.node core.core all)) → faults_next ≡ faults_now
      → StopsEach (take (at + 1) cores) before next faults_before faults_next failed
  stopped_one whole steady = subst (λ (some : List Host). StopsEach some before next faults_before faults_next failed) (sym first_more) (record {
    stopped = was.stopped ++ true ∷ [];
    each = let same = was.each in omega (arith, same, length_push was.stopped true, length_push (take at cores) core);
    left = subst (λ (some : List Host). IfSome before (λ all. next ≡ Some (without_cores some all)))
        (sym (marked-push was.stopped true (take at cores) core was.each))
        (left_more before now next (items_where_true was.stopped (take at cores)) core was.left whole);
    faults = let most = was.faults in omega (arith, most, steady, sum_by_push (λ x. cond (not x) 1 0) was.stopped true);
    first = was.first ∙ sym (position_stopped was.stopped);
  })

  -- it was not
  pub failed_one : next ≡ now → faults_now < faults_next
      → StopsEach (take (at + 1) cores) before next faults_before faults_next (first_or failed at)
  failed_one same more = subst (λ (some : List Host). StopsEach some before next faults_before faults_next (first_or failed at)) (sym first_more) (record {
    stopped = was.stopped ++ false ∷ [];
    each = let same = was.each in omega (arith, same, length_push was.stopped false, length_push (take at cores) core);
    left = subst (λ (some : List Host). IfSome before (λ all. next ≡ Some (without_cores some all)))
        (sym (marked-push was.stopped false (take at cores) core was.each ∙ append-nil (items_where_true was.stopped (take at cores))))
        (subst (λ (n : Option (List Host)). IfSome before (λ all. n ≡ Some (without_cores (items_where_true was.stopped (take at cores)) all))) (sym same) was.left);
    faults = let most = was.faults in omega (arith, most, more, sum_by_push (λ x. cond (not x) 1 0) was.stopped false);
    first = ap (λ (o : Option ℕ). first_or o at) was.first
        ∙ ap (first_or (position not was.stopped)) (sym count) ∙ sym (position_failed was.stopped);
  })
