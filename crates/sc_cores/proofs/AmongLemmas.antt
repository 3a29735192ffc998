-- Which cores are among those that are started once some more were started, or some were stopped; and of which slice one is.
use Rattle.std.proofs.Common.{◌≡◌, ◌≢◌, ◌⊎◌, inl, inr, ◌∙◌, ℕ, zero, suc, ◌+◌, ◌-◌, ◌≤◌, ◌<◌, Bool, true, false, not, cond, List, [], ◌∷◌, ◌++◌, codes, length, get_or, Contains, refl, sym, ap, subst, arith, append_assoc, length-append}
use Rattle.std.specs.Prelude.{◌==◌, ◌&&◌}
use Rattle.std.specs.Fmt.{decimal}
use Rattle.std.specs.List.{flat_map, range_with_len, list_any}
use Rattle.std.specs.Str.{bytes_eq}
use Rattle.std.proofs.lemmas.Bool.{and_parts, eqb-true, both_ways, not-true, not_from_false, false_from_ne_true}
use Rattle.std.proofs.lemmas.Bool.Decides.{nat_tests}
use Rattle.std.proofs.lemmas.Cmp.{nat_list_eq_equiv}
use Rattle.std.proofs.lemmas.List.{append_cancel_left, append_cancel_right}
use Rattle.std.proofs.lemmas.List.Elements.{All-cons, Contains-get_or, Contains-append_left, Contains-append_right, Contains-append_cases, Contains-push, Contains-push_cases}
use Rattle.std.proofs.lemmas.List.FromFn.{length-range_with_len, get_or-range_with_len}
use Rattle.std.proofs.lemmas.Map.Views.{Contains-from_any}
use Rattle.std.proofs.lemmas.Slice.Eq.{bytes_eq-Decides}
use Rattle.sc_cluster.specs.declared.slice.Slice.{Slice}
use Rattle.sc_cluster.specs.Slices.{core_name}
use Rattle.sc_cluster.proofs.DigitLemmas.{underscore, HasNoUnderscore, decimal-HasNoUnderscore, Extends, cut_at_underscore}
use Rattle.sc_cluster.proofs.ListLemmas.{Contains-map, Contains-filter, Contains-from_filter}
use Rattle.sc_cluster.proofs.PairLemmas.{Contains-from_map}
use Rattle.sc_io.specs.declared.hosts.Host.{Host}
use Rattle.sc_io.specs.Hosts.{is_core_on, with_core, without_core}
use Rattle.sc_cores.specs.Cores.{core_at, cores_of_slice, with_cores, without_cores, IsNew}

-- ---- elements of lists
-- the first element, and one of those after it
first_among : {A : Type 0} (x : A) (xs : List A) → Contains (x ∷ xs) x
first_among x xs = (0, omega arith, refl)

later_among : {A : Type 0} (y : A) (xs : List A) (x : A) → Contains xs x → Contains (y ∷ xs) x
later_among y xs x (k, below, is) = (suc k, omega arith, is)

among_cases : {A : Type 0} (y : A) (xs : List A) (x : A) → Contains (y ∷ xs) x → (y ≡ x) ⊎ Contains xs x
among_cases y xs x (zero, below, is) = inl is
among_cases y xs x (suc k, below, is) = inr (k, omega arith, is)

pub none_among : {A : Type 0} (x : A) → ¬ Contains [] x
none_among x (k, below, is) = omega (arith, below)

-- an element of one of the lists is one of them joined
pub joined : {A B : Type 0} (f : A → List B) (xs : List A) (x : A) (y : B) → Contains xs x → Contains (f x) y → Contains (flat_map f xs) y
joined f [] x y (k, below, is) there = absurd (omega (arith, below))
joined f (first ∷ xs) x y (zero, below, is) there =
    Contains-append_left (f first) (flat_map f xs) y (subst (λ z. Contains (f z) y) (sym is) there)
joined f (first ∷ xs) x y (suc k, below, is) there =
    Contains-append_right (f first) (flat_map f xs) y (joined f xs x y (k, omega arith, is) there)

-- an element of lists that are joined is one of one of them
pub from_joined : {A B : Type 0} (f : A → List B) (xs : List A) (y : B) → Contains (flat_map f xs) y
    → (x : A) × Contains xs x × Contains (f x) y
from_joined f [] y there = absurd (none_among y there)
from_joined {A} {B} f (x ∷ xs) y there = by (Contains-append_cases (f x) (flat_map f xs) y there) (from_joined f xs y) where
  by : Contains (f x) y ⊎ Contains (flat_map f xs) y
      → (Contains (flat_map f xs) y → (one : A) × Contains xs one × Contains (f one) y)
      → (one : A) × Contains (x ∷ xs) one × Contains (f one) y
  by (inl here) later = (x, first_among x xs, here)
  by (inr rest) later =
      let (one, there, inside) = later rest in
      (one, later_among x xs one there, inside)

-- a number of a range, and the numbers that are in it
pub in_range : (from n k : ℕ) → Contains (range_with_len from n) k → (from ≤ k) × (k < from + n)
in_range from n k (at, below, is) =
    let within : at < n = omega (arith, length-range_with_len from n) in
    let same : k ≡ from + at = sym is ∙ get_or-range_with_len from n at k within in
    (omega arith, omega arith)

pub range_has : (from n k : ℕ) → from ≤ k → k < from + n → Contains (range_with_len from n) k
range_has from n k least below =
    let at : k - from < n = omega arith in
    let same : from + (k - from) ≡ k = omega arith in
    (k - from, omega (arith, length-range_with_len from n), get_or-range_with_len from n (k - from) k at ∙ same)

-- ---- a core more, and a core less
-- the test for a core finds it, and no other
pub core_itself : (core : Host) → is_core_on core.node core.core core ≡ true
core_itself core =
    let number : (core.node == core.node) ≡ true = grind (arith, nat_tests) in
    ap (λ b. b && bytes_eq core.core core.core) number ∙ nat_list_eq_equiv.refl core.core

abbrev host_of : ℕ → List ℕ → Host
host_of node core = record { node = node; core = core }

found_core : (core host : Host) → is_core_on core.node core.core host ≡ true → host ≡ core
found_core core host found =
    let parts = and_parts (host.node == core.node) (bytes_eq host.core core.core) found in
    let nodes : host.node ≡ core.node = eqb-true host.node core.node parts.0 in
    let names : host.core ≡ core.core = (bytes_eq-Decides host.core core.core).0 parts.1 in
    ap (λ (n : ℕ). host_of n host.core) nodes ∙ ap (host_of core.node) names

-- with a core there are those from before and it
with_one : (core : Host) (cores : List Host) (x : Host) → Contains (with_core core.node core.core cores) x → Contains cores x ⊎ (core ≡ x)
with_one core cores x = by (list_any (is_core_on core.node core.core) cores) where
  by : (b : Bool) → Contains (cond b cores (cores ++ core ∷ [])) x → Contains cores x ⊎ (core ≡ x)
  by true there = inl there
  by false there = Contains-push_cases cores core x there

before_with_one : (core : Host) (cores : List Host) (x : Host) → Contains cores x → Contains (with_core core.node core.core cores) x
before_with_one core cores x there = by (list_any (is_core_on core.node core.core) cores) where
  by : (b : Bool) → Contains (cond b cores (cores ++ core ∷ [])) x
  by true = there
  by false = Contains-append_left cores (core ∷ []) x there

one_with_one : (core : Host) (cores : List Host) → Contains (with_core core.node core.core cores) core
one_with_one core cores = by (list_any (is_core_on core.node core.core) cores) refl where
  by : (b : Bool) → list_any (is_core_on core.node core.core) cores ≡ b → Contains (cond b cores (cores ++ core ∷ [])) core
  by true found =
      Contains-from_any {eq = λ (one host : Host). is_core_on one.node one.core host} (λ one host is. sym (found_core one host is)) core cores found
  by false none = Contains-push cores core

-- without it there are those from before but it
without_one : (core : Host) (all : List Host) (x : Host) → Contains (without_core core.node core.core all) x → Contains all x × (core ≢ x)
without_one core all x left =
    let parts = Contains-from_filter (λ (host : Host). not (is_core_on core.node core.core host)) all x left in
    let other : is_core_on core.node core.core x ≡ false = not-true (is_core_on core.node core.core x) parts.1 in (
      parts.0,
      λ same. both_ways (is_core_on core.node core.core x) other
          (subst (λ (host : Host). is_core_on core.node core.core host ≡ true) same (core_itself core)),
    )

stays_without_one : (core : Host) (all : List Host) (x : Host) → Contains all x → core ≢ x → Contains (without_core core.node core.core all) x
stays_without_one core all x there differs =
    let other : is_core_on core.node core.core x ≡ false =
    false_from_ne_true (is_core_on core.node core.core x) (λ found. differs (sym (found_core core x found))) in
    Contains-filter (λ (host : Host). not (is_core_on core.node core.core host)) all x there (not_from_false (is_core_on core.node core.core x) other)

-- ---- cores more, and cores less
-- with cores there are those from before and they
pub among_with : (more cores : List Host) (x : Host) → Contains (with_cores more cores) x → Contains cores x ⊎ Contains more x
among_with [] cores x there = inl there
among_with (core ∷ more) cores x there = by (among_with more (with_core core.node core.core cores) x there) where
  first : Contains cores x ⊎ (core ≡ x) → Contains cores x ⊎ Contains (core ∷ more) x
  first (inl before) = inl before
  first (inr is) = inr (subst (Contains (core ∷ more)) is (first_among core more))

  by : Contains (with_core core.node core.core cores) x ⊎ Contains more x → Contains cores x ⊎ Contains (core ∷ more) x
  by (inl here) = first (with_one core cores x here)
  by (inr later) = inr (later_among core more x later)

pub before_with : (more cores : List Host) (x : Host) → Contains cores x → Contains (with_cores more cores) x
before_with [] cores x there = there
before_with (core ∷ more) cores x there =
    before_with more (with_core core.node core.core cores) x (before_with_one core cores x there)

pub more_with : (more cores : List Host) (x : Host) → Contains more x → Contains (with_cores more cores) x
more_with [] cores x there = absurd (none_among x there)
more_with (core ∷ more) cores x there =
    by (among_cases core more x there) (more_with more (with_core core.node core.core cores) x) where
      by : (core ≡ x) ⊎ Contains more x → (Contains more x → Contains (with_cores more (with_core core.node core.core cores)) x)
          → Contains (with_cores more (with_core core.node core.core cores)) x
      by (inl is) rest =
          before_with more (with_core core.node core.core cores) x
          (subst (Contains (with_core core.node core.core cores)) is (one_with_one core cores))
      by (inr later) rest = rest later

-- without cores there are those from before but they
neither : (core : Host) (cores : List Host) (x : Host) → core ≢ x → ¬ Contains cores x → ¬ Contains (core ∷ cores) x
neither core cores x differs none among = by (among_cases core cores x among) where
  by : (core ≡ x) ⊎ Contains cores x → ⊥
  by (inl is) = differs is
  by (inr later) = none later

pub among_without : (cores all : List Host) (x : Host) → Contains (without_cores cores all) x → Contains all x × (¬ Contains cores x)
among_without [] all x there = (there, none_among x)
among_without (core ∷ cores) all x there =
    let rest = among_without cores (without_core core.node core.core all) x there in
    let first = without_one core all x rest.0 in
    (first.0, neither core cores x first.1 rest.1)

pub stays_without : (cores all : List Host) (x : Host) → Contains all x → ¬ Contains cores x → Contains (without_cores cores all) x
stays_without [] all x there none = there
stays_without (core ∷ cores) all x there none =
    let differs : core ≢ x = λ is. none (subst (Contains (core ∷ cores)) is (first_among core cores)) in
    stays_without cores (without_core core.node core.core all) x (stays_without_one core all x there differs)
    (λ later. none (later_among core cores x later))

-- a core that is not among cores is new to them
pub is_new : (cores : List Host) (core : Host) → ¬ Contains cores core → IsNew cores core
is_new cores core none k d below =
    false_from_ne_true (is_core_on core.node core.core (get_or cores k d))
    (λ found. none (subst (Contains cores) (found_core core (get_or cores k d) found) (Contains-get_or cores k d below)))

-- ---- names
-- what stands in a core's name before its last underscore
abbrev front_of : List ℕ → List ℕ
front_of slice = codes "docs_" ++ slice ++ codes "_replica"

-- and after it, from the `n` on
abbrev back_of : ℕ → List ℕ
back_of k = 110 ∷ decimal k

name_cut : (slice : List ℕ) (k : ℕ) → core_name slice k ≡ front_of slice ++ underscore ∷ back_of k
name_cut slice k =
    append_assoc (codes "docs_" ++ slice) (codes "_replica_n") (decimal k)
    ∙ sym (append_assoc (codes "docs_" ++ slice) (codes "_replica") (underscore ∷ back_of k))

back_HasNoUnderscore : (k : ℕ) → HasNoUnderscore (back_of k)
back_HasNoUnderscore k = All-cons (λ byte. byte ≢ underscore) 110 (decimal k) (omega arith) (decimal-HasNoUnderscore k)

-- cores of the same name are of slices of the same name
pub core_name-injective : (a b : List ℕ) (i j : ℕ) → core_name a i ≡ core_name b j → a ≡ b
core_name-injective a b i j same =
    by (cut_at_underscore (front_of a) (front_of b) (back_of i) (back_of j) (back_HasNoUnderscore j) cut)
    (cut_at_underscore (front_of b) (front_of a) (back_of j) (back_of i) (back_HasNoUnderscore i) (sym cut))
  where
    cut : front_of a ++ underscore ∷ back_of i ≡ front_of b ++ underscore ∷ back_of j
    cut = sym (name_cut a i) ∙ same ∙ name_cut b j

    fronts : front_of a ≡ front_of b → a ≡ b
    fronts equal =
        append_cancel_left (codes "docs_") a b (append_cancel_right (codes "docs_" ++ a) (codes "docs_" ++ b) (codes "_replica") equal)

    by : (front_of a ≡ front_of b) ⊎ Extends (front_of a) (front_of b)
        → (front_of b ≡ front_of a) ⊎ Extends (front_of b) (front_of a) → a ≡ b
    by (inl equal) other = fronts equal
    by (inr longer) (inl equal) = fronts (sym equal)
    by (inr (more, is)) (inr (more2, is2)) =
        absurd (longer (front_of a) (front_of b) more more2 is is2) where
          longer : (x y more more2 : List ℕ) → y ≡ x ++ underscore ∷ more → x ≡ y ++ underscore ∷ more2 → ⊥
          longer x y more more2 is is2 =
              omega (arith, ap length is, ap length is2, length-append x (underscore ∷ more), length-append y (underscore ∷ more2))

-- ---- the cores of slices
-- a core of a slice is one of its replicas
pub core_of_slice : (nodes : ℕ) (slice : Slice) (x : Host) → Contains (cores_of_slice nodes slice) x
    → (k : ℕ) × (1 ≤ k) × (k ≤ slice.replicas) × (core_at nodes slice.name slice.node k ≡ x)
core_of_slice nodes slice x there =
    let (k, among, is) = Contains-from_map (core_at nodes slice.name slice.node) (range_with_len 1 slice.replicas) x there in
    let range = in_range 1 slice.replicas k among in
    let below : k < 1 + slice.replicas = range.1 in
    (k, range.0, omega arith, is)

-- each replica is one
pub slice_has_core : (nodes : ℕ) (slice : Slice) (k : ℕ) → 1 ≤ k → k ≤ slice.replicas
    → Contains (cores_of_slice nodes slice) (core_at nodes slice.name slice.node k)
slice_has_core nodes slice k least most =
    Contains-map (core_at nodes slice.name slice.node) (range_with_len 1 slice.replicas) k
    (range_has 1 slice.replicas k least (omega arith))

-- slices with a core in common have the same name
pub same_named : (nodes : ℕ) (a b : Slice) (x : Host) → Contains (cores_of_slice nodes a) x → Contains (cores_of_slice nodes b) x
    → a.name ≡ b.name
same_named nodes a b x one other =
    let (i, least, most, is) = core_of_slice nodes a x one in
    let (j, least2, most2, is2) = core_of_slice nodes b x other in
    core_name-injective a.name b.name i j (ap (λ (host : Host). host.core) (is ∙ sym is2))
