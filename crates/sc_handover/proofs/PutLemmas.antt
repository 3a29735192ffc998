-- Cores with one more, put in by its name.
use Rattle.std.proofs.Common.{◌≡◌, ◌≢◌, ℕ, zero, suc, ◌+◌, ◌<◌, Bool, true, false, cond, nat_lt, nat_eq, List, [], ◌∷◌, get_or, map, All, Contains, refl, sym, ◌∙◌, subst, add-one, arith}
use Rattle.std.specs.List.Sorted.{IsStrictlyIncreasing}
use Rattle.std.proofs.lemmas.Bool.{ltb-true, lt-ltb}
use Rattle.std.proofs.lemmas.Bool.Decides.{Decides-and, Decides-eqb}
use Rattle.std.proofs.lemmas.List.Elements.{All-cons, All-head, All-map, All-nil, All-tail, All-weaker}
use Rattle.std.proofs.lemmas.List.Kept.{AllPairs-from_increasing}
use Rattle.sc_cluster.proofs.ListLemmas.{Contains-map}
use Rattle.sc_cluster.proofs.OrderLemmas.{IsStrictlyIncreasing-append}
use Rattle.sc_cluster.proofs.PairLemmas.{Contains-from_map}
use Rattle.sc_replica.specs.Core.{Core}
use Rattle.sc_record.specs.Names.{is_core}
use Rattle.sc_replicas.specs.Cores.{core_number, CoresAscend, IsCounted, put_by_name}

-- what is true of the core and of each of the others is true of each then
pub All-put : (P : Core → Type 0) (core : Core) (cores : List Core) → P core → All P cores → All P (put_by_name core cores)
All-put P core [] here each = All-cons P core [] here each
All-put P core (other ∷ cores) here each =
    by (nat_lt (core_number core.core) (core_number other.core)) (All-put P core cores here (All-tail P other cores each))
  where
    by : (b : Bool) → All P (put_by_name core cores) → All P (cond b (core ∷ other ∷ cores) (other ∷ put_by_name core cores))
    by true rest = All-cons P core (other ∷ cores) here each
    by false rest = All-cons P other (put_by_name core cores) (All-head P other cores each) rest

-- the core is there
pub Contains-put_own : (core : Core) (cores : List Core) → Contains (put_by_name core cores) core
Contains-put_own core [] = (0, omega arith, refl)
Contains-put_own core (other ∷ cores) =
    by (nat_lt (core_number core.core) (core_number other.core)) (Contains-put_own core cores)
  where
    by : (b : Bool) → Contains (put_by_name core cores) core → Contains (cond b (core ∷ other ∷ cores) (other ∷ put_by_name core cores)) core
    by true there = (0, omega arith, refl)
    by false (k, below, is) = (suc k, omega arith, is)

-- and so are the others
pub Contains-put : (core : Core) (cores : List Core) (one : Core) → Contains cores one → Contains (put_by_name core cores) one
Contains-put core [] one (k, below, is) = absurd (omega arith)
Contains-put core (other ∷ cores) one (zero, below, is) = by (nat_lt (core_number core.core) (core_number other.core)) where
  by : (b : Bool) → Contains (cond b (core ∷ other ∷ cores) (other ∷ put_by_name core cores)) one
  by true = (1, omega arith, is)
  by false = (0, omega arith, is)
Contains-put core (other ∷ cores) one (suc k, below, is) =
    by (nat_lt (core_number core.core) (core_number other.core)) (Contains-put core cores one (k, omega arith, is))
  where
    by : (b : Bool) → Contains (put_by_name core cores) one
        → Contains (cond b (core ∷ other ∷ cores) (other ∷ put_by_name core cores)) one
    by true there = (suc (suc k), omega arith, is)
    by false (j, inside, same) = (suc j, omega arith, same)

-- with what is made of each
pub Contains-map_put : {X : Type 0} (f : Core → X) (core : Core) (cores : List Core) (x : X) → Contains (map f cores) x
    → Contains (map f (put_by_name core cores)) x
Contains-map_put f core cores x there =
    let (one, inside, is) = Contains-from_map f cores x there in
    subst (Contains (map f (put_by_name core cores))) is
    (Contains-map f (put_by_name core cores) one (Contains-put core cores one inside))

-- numbers that rise, with one that is below them before them
up-cons : (n : ℕ) (ns : List ℕ) → All (λ m. n < m) ns → IsStrictlyIncreasing ns → IsStrictlyIncreasing (n ∷ ns)
up-cons n ns below up =
    IsStrictlyIncreasing-append (n ∷ []) ns (λ k short. absurd (omega arith)) up
    (All-cons (λ m. All (λ l. m < l) ns) n [] below (All-nil (λ m. All (λ l. m < l) ns)))

up-head : (n : ℕ) (ns : List ℕ) → IsStrictlyIncreasing (n ∷ ns) → All (λ m. n < m) ns
up-head n ns up k d below = AllPairs-from_increasing (n ∷ ns) up 0 (suc k) d (omega arith) (omega arith)

up-tail : (n : ℕ) (ns : List ℕ) → IsStrictlyIncreasing (n ∷ ns) → IsStrictlyIncreasing ns
up-tail n ns up k below =
    let next : get_or (n ∷ ns) (suc k) 0 < get_or (n ∷ ns) (suc k + 1) 0 = up (suc k) (omega arith) in
    rw (add-one k) (rw (add-one (suc k)) at next)

-- the number of a core's name
abbrev number : Core → ℕ
number core = core_number core.core

-- the cores ascend by their names still, where none has the core's number
pub AscendByName-put : (core : Core) (cores : List Core) → CoresAscend cores
    → All (λ (other : Core). core_number other.core ≢ core_number core.core) cores → CoresAscend (put_by_name core cores)
AscendByName-put core [] ascend apart = λ k short. absurd (omega arith)
AscendByName-put core (other ∷ cores) ascend apart =
    by (nat_lt (number core) (number other)) refl
    (AscendByName-put core cores (up-tail (number other) (map number cores) ascend)
    (All-tail (λ (c : Core). core_number c.core ≢ core_number core.core) other cores apart))
  where
    above : All (λ m. number other < m) (map number cores)
    above = up-head (number other) (map number cores) ascend

    others : (n : ℕ) → n < number other → All (λ m. n < m) (map number cores)
    others n less = All-weaker (λ m. number other < m) (λ m. n < m) (λ m more. omega arith) (map number cores) above

    before : nat_lt (number core) (number other) ≡ false → number other < number core
    before fails =
        let differ : number other ≢ number core =
        All-head (λ (c : Core). core_number c.core ≢ core_number core.core) other cores apart in
        let no : number core < number other → ⊥ =
        λ less. let both : true ≡ false = sym (lt-ltb (number core) (number other) less) ∙ fails in cc in
        omega (arith, differ, no)

    by : (b : Bool) → nat_lt (number core) (number other) ≡ b → CoresAscend (put_by_name core cores)
        → CoresAscend (cond b (core ∷ other ∷ cores) (other ∷ put_by_name core cores))
    by true is rest =
        let less : number core < number other = ltb-true (number core) (number other) is in
        up-cons (number core) (number other ∷ map number cores)
        (All-cons (λ m. number core < m) (number other) (map number cores) less (others (number core) less)) ascend
    by false is rest =
        up-cons (number other) (map number (put_by_name core cores))
        (All-map (λ m. number other < m) number (put_by_name core cores)
        (All-put (λ (c : Core). number other < number c) core cores (before is) (below cores above))) rest
      where
        below : (these : List Core) → All (λ m. number other < m) (map number these) → All (λ (c : Core). number other < number c) these
        below [] each = All-nil (λ (c : Core). number other < number c)
        below (c ∷ these) each =
            All-cons (λ (c : Core). number other < number c) c these
            (All-head (λ m. number other < m) (number c) (map number these) each)
            (below these (All-tail (λ m. number other < m) (number c) (map number these) each))

-- cores whose replicas are numbers of eight bits have different numbers where their names are not those of one core
pub other_number : (one other : Core) → IsCounted one → IsCounted other → is_core one.core other.core ≡ false
    → core_number other.core ≢ core_number one.core
other_number one other small other_small apart same =
    let slice : one.core.slice.0 ≡ other.core.slice.0 = omega (arith, small, other_small, same) in
    let replica : one.core.replica ≡ other.core.replica = omega (arith, small, other_small, same) in
    let yes : is_core one.core other.core ≡ true =
    (Decides-and (nat_eq one.core.slice.0 other.core.slice.0) (nat_eq one.core.replica other.core.replica)
    (Decides-eqb one.core.slice.0 other.core.slice.0) (Decides-eqb one.core.replica other.core.replica)).1 (slice, replica) in
    let both : true ≡ false = sym yes ∙ apart in
    cc
