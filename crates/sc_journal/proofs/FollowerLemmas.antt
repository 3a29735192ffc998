-- Counts over the followers of slices: what each change of a map, and each change of the test, does to them.
use Rattle.std.proofs.Common.{◌≡◌, ◌≢◌, ◌∙◌, ℕ, ◌+◌, ◌-◌, ◌<◌, ◌≤◌, Bool, true, false, cond, not, ◌&&◌, eqb, List, [], ◌∷◌, ◌++◌, length, map, filter, All, Contains, Some, slice_get, refl, sym, ap, subst, arith}
use Rattle.std.specs.List.{count_by, sum_by, flat_map, range_with_len}
use Rattle.std.specs.List.Sorted.{IsStrictlyIncreasing}
use Rattle.std.proofs.Math.Path.{fun_ext}
use Rattle.std.proofs.lemmas.Bool.{eq-eqb, eqb-true, ne_eqb, false≢true}
use Rattle.std.proofs.lemmas.Grind.{flat_map-append}
use Rattle.std.proofs.lemmas.List.Concat.{flat_map-cons, length-flat_map}
use Rattle.std.proofs.lemmas.List.Elements.{All-map, All-weaker, All-contains_itself, filter-append}
use Rattle.std.proofs.lemmas.List.FromFn.{length-range_with_len, length-map-range_with_len, get_or-range_with_len}
use Rattle.std.proofs.lemmas.List.Sums.{sum_by-cons, sum_by-append, count_by-le-length}
use Rattle.std.proofs.lemmas.Option.{slice_get_within, get_or_from_slice_get}
use Rattle.sc_record.specs.Names.{is_key}
use Rattle.sc_record.specs.declared.slice.SliceId.{SliceId}
use Rattle.sc_record.specs.declared.slice.SubSlice.{SubSlice}
use Rattle.sc_record.specs.declared.entry.Entry.{Entry}
use Rattle.sc_cluster.specs.declared.slice.State.{State}
use Rattle.sc_cluster.specs.declared.slice.State.TheVariants as states
use Rattle.sc_cluster.specs.declared.slice.Slice.{Slice}
use Rattle.sc_cluster.specs.Map.{IsMap}
use Rattle.sc_cluster.specs.Slices.{is_forming_state, is_inactive_state, is_forming, forming, is_inactive}
use Rattle.sc_cluster.specs.Changes.{begun_slice, in_state, switched_slice}
use Rattle.sc_cluster.proofs.CountLemmas.{count_by-map, count_by-none}
use Rattle.sc_cluster.proofs.IdLemmas.{id_of}
use Rattle.sc_cluster.proofs.ListLemmas.{Contains-map, filter-all}
use Rattle.sc_cluster.proofs.OrderLemmas.{IsStrictlyIncreasing-counted}
use Rattle.sc_cluster.proofs.PairLemmas.{Contains-from_map}
use Rattle.sc_cluster.proofs.StateLemmas.{is_settled, is_other}
use Rattle.sc_journal.specs.Down.{is_down, follower_keys, all_followers, count_up}
use Rattle.sc_journal.specs.Splits.{new_followers, owed}
use Rattle.sc_journal.proofs.SumLemmas.{sum_by-parts, sum_by-agree, sum_by-map, sum_by-filter, sum_by-one, count_by-all}

-- how many of a slice's followers pass, where the slice is not inactive
abbrev passing : (ℕ × ℕ → Bool) → Slice → ℕ
passing p slice = cond (is_inactive slice) 0 (count_by p (follower_keys slice))

-- how many pass of all followers, slice by slice
count_by-followers : (p : ℕ × ℕ → Bool) (slices : List Slice)
    → count_by p (all_followers slices) ≡ sum_by (passing p) slices
count_by-followers p [] = refl
count_by-followers p (slice ∷ slices) =
    omega (arith, by (is_inactive slice), count_by-followers p slices, sum_by-cons (passing p) slice slices) where
      rest : List Slice
      rest = filter (λ other. not (is_inactive other)) slices

      by : (t : Bool) → count_by p (flat_map follower_keys (cond (not t) (slice ∷ rest) rest))
          ≡ cond t 0 (count_by p (follower_keys slice)) + count_by p (flat_map follower_keys rest)
      by true = omega arith
      by false =
          ap (count_by p) (flat_map-cons follower_keys slice rest)
          ∙ sum_by-append (λ (key : ℕ × ℕ). cond (p key) 1 0) (follower_keys slice) (flat_map follower_keys rest)

-- the numbers of a slice's followers
abbrev follower_numbers : Slice → List ℕ
follower_numbers slice = range_with_len 2 (slice.replicas - 1)

-- a follower is named by its slice, and by a number from 2 on, up to that of the slice's replicas
pub follower_is : (slice : Slice) (key : ℕ × ℕ) → Contains (follower_keys slice) key
    → (key.0 ≡ slice.id.0) × (2 ≤ key.1) × (key.1 ≤ slice.replicas)
follower_is slice key there =
    let made = Contains-from_map (λ (replica : ℕ). (slice.id.0, replica)) (follower_numbers slice) key there in
    let (replica, (k, below, is), same) = made in
    let inside : k < slice.replicas - 1 = omega (arith, below, length-range_with_len 2 (slice.replicas - 1)) in
    let counted : 2 + k ≡ replica = sym (get_or-range_with_len 2 (slice.replicas - 1) k replica inside) ∙ is in
    let number : replica ≡ key.1 = ap (λ (p : ℕ × ℕ). p.1) same in
    (sym (ap (λ (p : ℕ × ℕ). p.0) same), omega (arith, counted, number), omega (arith, counted, number, inside))

-- two tests that agree on the cores of a slice count as many of its followers
count_by-slice : (p q : ℕ × ℕ → Bool) (slice : Slice)
    → ((replica : ℕ) → p (slice.id.0, replica) ≡ q (slice.id.0, replica))
    → count_by p (follower_keys slice) ≡ count_by q (follower_keys slice)
count_by-slice p q slice same =
    let name : ℕ → ℕ × ℕ = λ replica. (slice.id.0, replica) in
    count_by-map name p (follower_numbers slice)
    ∙ ap (λ (test : ℕ → Bool). count_by test (follower_numbers slice)) (fun_ext same)
    ∙ sym (count_by-map name q (follower_numbers slice))

-- and one less where they agree but on one follower
count_by-slice_one : (p q : ℕ × ℕ → Bool) (slice : Slice) (key : ℕ × ℕ) → Contains (follower_keys slice) key
    → ((other : ℕ × ℕ) → is_key other key ≡ false → p other ≡ q other) → p key ≡ true → q key ≡ false
    → count_by q (follower_keys slice) + 1 ≡ count_by p (follower_keys slice)
count_by-slice_one p q slice key there same passes fails =
    let before = count_by-map name p numbers in
    let after = count_by-map name q numbers in
    let one : cond {A = ℕ} (p (name key.1)) 1 0 ≡ 1 = ap (λ b. cond b 1 0) (ap p own ∙ passes) in
    let none : cond {A = ℕ} (q (name key.1)) 1 0 ≡ 0 = ap (λ b. cond b 1 0) (ap q own ∙ fails) in
    let both = sum_by-one (λ n. n) (λ n. cond (q (name n)) 1 0) (λ n. cond (p (name n)) 1 0) key.1 numbers rising
    inside apart in
    omega (arith, before, after, one, none, both)
  where
    numbers : List ℕ
    numbers = follower_numbers slice

    name : ℕ → ℕ × ℕ
    name replica = (slice.id.0, replica)

    made : (replica : ℕ) × Contains numbers replica × (name replica ≡ key)
    made = Contains-from_map name numbers key there

    number : made.0 ≡ key.1
    number = ap (λ (k : ℕ × ℕ). k.1) made.2

    own : name key.1 ≡ key
    own = ap name (sym number) ∙ made.2

    inside : Contains numbers key.1
    inside = subst (Contains numbers) number made.1

    rising : IsStrictlyIncreasing (map (λ n. n) numbers)
    rising = IsStrictlyIncreasing-counted (λ n. n) 2 numbers counted where
      counted : (i n : ℕ) → slice_get numbers i ≡ Some n → n ≡ 2 + i
      counted i n is =
          let within = slice_get_within numbers i n is in
          let below : i < slice.replicas - 1 = omega (arith, within, length-range_with_len 2 (slice.replicas - 1)) in
          sym (get_or_from_slice_get numbers i n n is) ∙ get_or-range_with_len 2 (slice.replicas - 1) i n below

    apart : (n : ℕ) → n ≢ key.1 → cond {A = ℕ} (q (name n)) 1 0 ≡ cond (p (name n)) 1 0
    apart n other =
        let differs : is_key (name n) key ≡ false =
        ap (λ b. eqb slice.id.0 key.0 && b) (ne_eqb n key.1 other) ∙ and_false (eqb slice.id.0 key.0) in
        ap (λ b. cond b 1 0) (sym (same (name n) differs))
      where
        and_false : (b : Bool) → b && false ≡ false
        and_false true = refl
        and_false false = refl

-- a test that agrees with another but on one follower counts one less
pub count_by-followers_one : (p q : ℕ × ℕ → Bool) (slices : List Slice) (slice : Slice) (key : ℕ × ℕ) → IsMap slices
    → Contains slices slice → is_inactive slice ≡ false → Contains (follower_keys slice) key
    → ((other : ℕ × ℕ) → is_key other key ≡ false → p other ≡ q other) → p key ≡ true → q key ≡ false
    → count_by q (all_followers slices) + 1 ≡ count_by p (all_followers slices)
count_by-followers_one p q slices slice key is_map inside counts there same passes fails =
    let before = count_by-followers p slices in
    let after = count_by-followers q slices in
    let less = count_by-slice_one p q slice key there same passes fails in
    let p_own = passing_is p in
    let q_own = passing_is q in
    let both = sum_by-one id_of (passing q) (passing p) slice slices is_map.ids inside apart in
    omega (arith, before, after, less, p_own, q_own, both)
  where
    passing_is : (test : ℕ × ℕ → Bool) → passing test slice ≡ count_by test (follower_keys slice)
    passing_is test = ap (λ b. cond b 0 (count_by test (follower_keys slice))) counts

    of_slice : key.0 ≡ slice.id.0
    of_slice = (follower_is slice key there).0

    apart : (other : Slice) → id_of other ≢ id_of slice → passing q other ≡ passing p other
    apart other differs =
        ap (λ n. cond (is_inactive other) 0 n) (count_by-slice q p other (λ replica.
        sym (same (other.id.0, replica) (ap (λ b. b && eqb replica key.1)
        (ne_eqb other.id.0 key.0 (λ is. differs (is ∙ of_slice)))))))

-- the followers of the slices of a split that begins are counted too, where they all pass
pub count_by-followers_begun : (p : ℕ × ℕ → Bool) (slices : List Slice) (subs : List SubSlice)
    → All (λ key. p key ≡ true) (flat_map follower_keys (map begun_slice subs))
    → count_by p (all_followers (slices ++ map begun_slice subs)) ≡ count_by p (all_followers slices) + new_followers subs
count_by-followers_begun p slices subs pass =
    let begun : List Slice = map begun_slice subs in
    let counts : Slice → Bool = λ slice. not (is_inactive slice) in
    let news = filter-all counts begun (All-map (λ slice. counts slice ≡ true) begun_slice subs (λ _ _ _. refl)) in
    let joined : all_followers (slices ++ begun) ≡ all_followers slices ++ flat_map follower_keys begun =
    ap (flat_map follower_keys) (filter-append counts slices begun ∙ ap (λ ss. filter counts slices ++ ss) news)
    ∙ flat_map-append follower_keys (filter counts slices) begun in
    let sums = ap (count_by p) joined
    ∙ sum_by-append (λ (key : ℕ × ℕ). cond (p key) 1 0) (all_followers slices) (flat_map follower_keys begun) in
    let all = count_by-all p (flat_map follower_keys begun) pass in
    omega (arith, sums, all)

-- a switch takes the parent's followers off
pub count_by-followers_switched : (p : ℕ × ℕ → Bool) (slices : List Slice) (parent : Slice) → IsMap slices
    → Contains slices parent → parent.state ≡ states.Active
    → count_by p (all_followers (map (switched_slice parent.id) slices)) + count_by p (follower_keys parent)
    ≡ count_by p (all_followers slices)
count_by-followers_switched p slices parent is_map there active =
    let before = count_by-followers p slices in
    let after = count_by-followers p (map (switched_slice parent.id) slices) in
    let mapped = sum_by-map (passing p) (switched_slice parent.id) slices in
    let none = passing-switched parent in
    let same = eq-eqb parent.id.0 parent.id.0 refl in
    let own : passing p (switched_slice parent.id parent) ≡ 0 =
    none ∙ ap (λ state. cond (is_forming_state state) (count_by p (follower_keys parent))
    (cond (eqb parent.id.0 parent.id.0) 0 (passing p parent))) active
    ∙ ap (λ b. cond b 0 (passing p parent)) same in
    let counted : passing p parent ≡ count_by p (follower_keys parent) =
    ap (λ state. cond (is_inactive_state state) 0 (count_by p (follower_keys parent))) active in
    let both = sum_by-one id_of (λ slice. passing p (switched_slice parent.id slice)) (passing p) parent slices
    is_map.ids there apart in
    omega (arith, before, after, mapped, own, counted, both)
  where
    passing-switched : (slice : Slice) → passing p (switched_slice parent.id slice)
        ≡ cond (is_forming slice) (count_by p (follower_keys slice)) (cond (eqb slice.id.0 parent.id.0) 0 (passing p slice))
    passing-switched slice = by (is_forming slice) (eqb slice.id.0 parent.id.0) where
      by : (t u : Bool)
          → passing p (cond t (in_state states.Active slice) (cond u (in_state states.Inactive slice) slice))
          ≡ cond t (count_by p (follower_keys slice)) (cond u 0 (passing p slice))
      by true u = refl
      by false true = refl
      by false false = refl

    apart : (slice : Slice) → id_of slice ≢ id_of parent → passing p (switched_slice parent.id slice) ≡ passing p slice
    apart slice other =
        passing-switched slice
        ∙ ap (λ b. cond (is_forming slice) (count_by p (follower_keys slice)) (cond b 0 (passing p slice)))
        (ne_eqb slice.id.0 parent.id.0 other)
        ∙ by slice.state
      where
        by : (state : State) → cond (is_forming_state state) (count_by p (follower_keys slice))
            (cond (is_inactive_state state) 0 (count_by p (follower_keys slice)))
            ≡ cond (is_inactive_state state) 0 (count_by p (follower_keys slice))
        by states.Active = refl
        by states.Inactive = refl
        by states.Construction = refl
        by states.Recovery = refl

-- a split that is given up takes those of its slices off, where they all pass
pub count_by-followers_failed : (p : ℕ × ℕ → Bool) (slices : List Slice)
    → All (λ slice. is_forming slice ≡ true → All (λ key. p key ≡ true) (follower_keys slice)) slices
    → count_by p (all_followers (filter is_settled slices)) + length (flat_map follower_keys (forming slices))
    ≡ count_by p (all_followers slices)
count_by-followers_failed p slices pass =
    let before = count_by-followers p slices in
    let after = count_by-followers p (filter is_settled slices) in
    let kept = sum_by-filter (passing p) is_settled slices in
    let lengths = length-flat_map follower_keys (forming slices) in
    let left = sum_by-filter size is_forming slices in
    let both = sum_by-parts (λ slice. cond (is_settled slice) (passing p slice) 0)
    (λ slice. cond (is_forming slice) (size slice) 0) (passing p) slices
    (All-weaker (λ slice. is_forming slice ≡ true → All (λ key. p key ≡ true) (follower_keys slice))
    (λ slice. cond (is_settled slice) (passing p slice) 0 + cond (is_forming slice) (size slice) 0 ≡ passing p slice)
    each slices pass) in
    omega (arith, before, after, kept, lengths, left, both)
  where
    size : Slice → ℕ
    size slice = length (follower_keys slice)

    each : (slice : Slice) → (is_forming slice ≡ true → All (λ key. p key ≡ true) (follower_keys slice))
        → cond (is_settled slice) (passing p slice) 0 + cond (is_forming slice) (size slice) 0 ≡ passing p slice
    each slice all = by slice.state refl where
      by : (state : State) → slice.state ≡ state
          → cond (not (is_forming_state state)) (cond (is_inactive_state state) 0 (count_by p (follower_keys slice))) 0
          + cond (is_forming_state state) (size slice) 0
          ≡ cond (is_inactive_state state) 0 (count_by p (follower_keys slice))
      by states.Active is = omega arith
      by states.Inactive is = omega arith
      by states.Construction is = omega (arith, count_by-all p (follower_keys slice) (all (ap is_forming_state is)))
      by states.Recovery is = omega (arith, count_by-all p (follower_keys slice) (all (ap is_forming_state is)))

-- where an inactive slice leaves, as many are counted, by a test that agrees on the others
pub count_by-followers_dropped : (p q : ℕ × ℕ → Bool) (slices : List Slice) (dropped : SliceId)
    → ((key : ℕ × ℕ) → key.0 ≢ dropped.0 → p key ≡ q key)
    → All (λ (slice : Slice). slice.id.0 ≡ dropped.0 → is_inactive slice ≡ true) slices
    → count_by q (all_followers (filter (is_other dropped) slices)) ≡ count_by p (all_followers slices)
count_by-followers_dropped p q slices dropped same inactive =
    let before = count_by-followers p slices in
    let after = count_by-followers q (filter (is_other dropped) slices) in
    let kept = sum_by-filter (passing q) (is_other dropped) slices in
    let agree = sum_by-agree (λ (slice : Slice). cond (is_other dropped slice) (passing q slice) 0) (passing p) slices
    (All-weaker (λ (slice : Slice). slice.id.0 ≡ dropped.0 → is_inactive slice ≡ true)
    (λ (slice : Slice). cond (is_other dropped slice) (passing q slice) 0 ≡ passing p slice) each slices inactive) in
    omega (arith, before, after, kept, agree)
  where
    each : (slice : Slice) → (slice.id.0 ≡ dropped.0 → is_inactive slice ≡ true)
        → cond (is_other dropped slice) (passing q slice) 0 ≡ passing p slice
    each slice gone = by (eqb slice.id.0 dropped.0) refl where
      by : (t : Bool) → eqb slice.id.0 dropped.0 ≡ t → cond (not t) (passing q slice) 0 ≡ passing p slice
      by true is =
          sym (ap (λ b. cond b 0 (count_by p (follower_keys slice))) (gone (eqb-true slice.id.0 dropped.0 is)))
      by false is =
          let other : slice.id.0 ≢ dropped.0 =
          λ own. false≢true (sym is ∙ eq-eqb slice.id.0 dropped.0 own) in
          ap (λ n. cond (is_inactive slice) 0 n) (count_by-slice q p slice (λ replica. sym (same (slice.id.0, replica) other)))

-- how many followers a slice has, and how many all of some slices have
pub length-follower_keys : (slice : Slice) → length (follower_keys slice) ≡ slice.replicas - 1
length-follower_keys slice = length-map-range_with_len (λ (replica : ℕ). (slice.id.0, replica)) 2 (slice.replicas - 1)

pub length-followers : (slices : List Slice)
    → length (flat_map follower_keys slices) ≡ sum_by (λ (slice : Slice). slice.replicas - 1) slices
length-followers slices =
    length-flat_map follower_keys slices
    ∙ ap (λ (size : Slice → ℕ). sum_by size slices) (fun_ext length-follower_keys)

-- those of all slices that take writes, and of those that a split is making
pub length-all_followers : (slices : List Slice)
    → length (all_followers slices) ≡ sum_by (λ (slice : Slice). cond (is_inactive slice) 0 (slice.replicas - 1)) slices
length-all_followers slices =
    length-followers (filter (λ slice. not (is_inactive slice)) slices)
    ∙ sum_by-filter (λ (slice : Slice). slice.replicas - 1) (λ slice. not (is_inactive slice)) slices
    ∙ ap (λ (size : Slice → ℕ). sum_by size slices) (fun_ext (λ slice. by (is_inactive slice) (slice.replicas - 1)))
  where
    by : (t : Bool) (n : ℕ) → cond (not t) n 0 ≡ cond t 0 n
    by true n = refl
    by false n = refl

pub length-forming_followers : (slices : List Slice)
    → length (flat_map follower_keys (forming slices))
    ≡ sum_by (λ (slice : Slice). cond (is_forming slice) (slice.replicas - 1) 0) slices
length-forming_followers slices =
    length-followers (forming slices) ∙ sum_by-filter (λ (slice : Slice). slice.replicas - 1) is_forming slices

-- and of those that a split is to make
pub new_followers_are : (subs : List SubSlice)
    → new_followers subs ≡ sum_by (λ (sub : SubSlice). sub.replicas - 1) subs
new_followers_are subs =
    length-followers (map begun_slice subs) ∙ sum_by-map (λ (slice : Slice). slice.replicas - 1) begun_slice subs

-- the name of a slice's core with a number from 2 on is that of a follower
pub follower_from : (slice : Slice) (key : ℕ × ℕ) → key.0 ≡ slice.id.0 → 2 ≤ key.1 → key.1 ≤ slice.replicas
    → Contains (follower_keys slice) key
follower_from slice key own low high =
    subst (Contains (follower_keys slice)) (ap (λ (n : ℕ). (n, key.1)) (sym own))
    (Contains-map (λ (replica : ℕ). (slice.id.0, replica)) (follower_numbers slice) key.1 (
      key.1 - 2,
      omega (arith, low, high, length-range_with_len 2 (slice.replicas - 1)),
      get_or-range_with_len 2 (slice.replicas - 1) (key.1 - 2) key.1 (omega (arith, low, high)) ∙ omega (arith, low),
    ))

-- at first no core is down
pub count_up-none : (slices : List Slice) → count_up slices [] ≡ length (all_followers slices)
count_up-none slices =
    count_by-all (λ (key : ℕ × ℕ). not (is_down [] key)) (all_followers slices)
    (All-weaker (Contains (all_followers slices)) (λ key. not (is_down [] key) ≡ true) (λ key there. refl)
    (all_followers slices) (All-contains_itself (all_followers slices)))

-- so of each follower one entry is owed, where no slice is inactive
pub owed-none : (first : List Slice) → All (λ (slice : Slice). is_inactive slice ≡ false) first
    → owed first [] ≡ length (all_followers first)
owed-none first active =
    let none = count_by-none is_inactive first active in
    omega (arith, none, count_up-none first)

-- no more followers are not down than there are
pub count_up-most : (slices : List Slice) (journal : List Entry) → count_up slices journal ≤ length (all_followers slices)
count_up-most slices journal = count_by-le-length (λ (key : ℕ × ℕ). not (is_down journal key)) (all_followers slices)
