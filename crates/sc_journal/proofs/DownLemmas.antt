-- What one entry more does to which cores are down, and which cores of a legal journal are not.
use Rattle.std.proofs.Common.{◌≡◌, ◌≢◌, ℕ, Bool, true, false, not, ◌&&◌, ◌||◌, eqb, List, [], ◌∷◌, ◌++◌, refl, ap, ◌∙◌}
use Rattle.std.proofs.lemmas.Bool.{eq-eqb, eqb-true, ne_eqb, and_parts}
use Rattle.std.proofs.lemmas.List.Sums.{fold-append}
use Rattle.sc_record.specs.Names.{key_of_core, is_key}
use Rattle.sc_record.specs.declared.slice.SliceId.{SliceId}
use Rattle.sc_record.specs.declared.slice.SubSlice.{SubSlice}
use Rattle.sc_record.specs.declared.slice.CoreId.{CoreId}
use Rattle.sc_record.specs.declared.entry.Entry.{Entry}
use Rattle.sc_record.specs.declared.entry.Entry.TheVariants as entry
use Rattle.sc_journal.specs.Down.{down_after, is_down}

-- which cores are down after one entry more
pub is_down-push : (journal : List Entry) (one : Entry) (key : ℕ × ℕ)
    → is_down (journal ++ one ∷ []) key ≡ down_after key (is_down journal key) one
is_down-push journal one key = fold-append (down_after key) false journal (one ∷ [])

-- the entry says nothing of any core
abbrev pub LeavesCores : Entry → Type 0
LeavesCores one = (key : ℕ × ℕ) (before : Bool) → down_after key before one ≡ before

-- writes, entries that settle them, commits, and what begins or ends a split are such
pub LeavesCores-write : (cell : _) → LeavesCores (entry.Write cell)
LeavesCores-write cell key before = refl

pub LeavesCores-settled : (place : ℕ) → LeavesCores (entry.Settled place)
LeavesCores-settled place key before = refl

pub LeavesCores-committed : LeavesCores entry.Committed
LeavesCores-committed key before = refl

pub LeavesCores-begun : (parent : SliceId) (subs : List SubSlice) → LeavesCores (entry.Begun parent subs)
LeavesCores-begun parent subs key before = refl

pub LeavesCores-switched : (parent : SliceId) → LeavesCores (entry.Switched parent)
LeavesCores-switched parent key before = refl

pub LeavesCores-failed : (parent : SliceId) → LeavesCores (entry.Failed parent)
LeavesCores-failed parent key before = refl

-- after such an entry the same cores are down
pub is_down-left : (journal : List Entry) (one : Entry) (key : ℕ × ℕ) → LeavesCores one
    → is_down (journal ++ one ∷ []) key ≡ is_down journal key
is_down-left journal one key leaves = is_down-push journal one key ∙ leaves key (is_down journal key)

-- after a drop those of other slices are, and none of the slice
pub is_down-push_dropped : (journal : List Entry) (slice : SliceId) (key : ℕ × ℕ) → key.0 ≢ slice.0
    → is_down (journal ++ entry.Dropped slice ∷ []) key ≡ is_down journal key
is_down-push_dropped journal slice key other =
    is_down-push journal (entry.Dropped slice) key
    ∙ ap (λ b. not b && is_down journal key) (ne_eqb key.0 slice.0 other)

pub is_down-push_dropped_own : (journal : List Entry) (slice : SliceId) (key : ℕ × ℕ) → key.0 ≡ slice.0
    → is_down (journal ++ entry.Dropped slice ∷ []) key ≡ false
is_down-push_dropped_own journal slice key own =
    is_down-push journal (entry.Dropped slice) key
    ∙ ap (λ b. not b && is_down journal key) (eq-eqb key.0 slice.0 own)

-- a name is that of its own core
pub is_key-own : (key : ℕ × ℕ) → is_key key key ≡ true
is_key-own key =
    ap (λ b. b && eqb key.1 key.1) (eq-eqb key.0 key.0 refl) ∙ eq-eqb key.1 key.1 refl

-- and of no other
pub same_from_is_key : (one other : ℕ × ℕ) → is_key one other ≡ true → one ≡ other
same_from_is_key one other is =
    let parts = and_parts (eqb one.0 other.0) (eqb one.1 other.1) is in
    let slices : one.0 ≡ other.0 = eqb-true one.0 other.0 parts.0 in
    let replicas : one.1 ≡ other.1 = eqb-true one.1 other.1 parts.1 in
    ap (λ (n : ℕ). (n, one.1)) slices ∙ ap (λ (n : ℕ). (other.0, n)) replicas

-- a core that goes down is down, and the others are as they were
pub is_down-push_down : (journal : List Entry) (core : CoreId)
    → is_down (journal ++ entry.Down core ∷ []) (key_of_core core) ≡ true
is_down-push_down journal core =
    is_down-push journal (entry.Down core) (key_of_core core)
    ∙ ap (λ b. b || is_down journal (key_of_core core)) (is_key-own (key_of_core core))

pub is_down-push_down_other : (journal : List Entry) (core : CoreId) (key : ℕ × ℕ)
    → is_key key (key_of_core core) ≡ false → is_down (journal ++ entry.Down core ∷ []) key ≡ is_down journal key
is_down-push_down_other journal core key other =
    is_down-push journal (entry.Down core) key ∙ ap (λ b. b || is_down journal key) other

-- so it is of the core whose seat took the lead
pub is_down-push_led : (journal : List Entry) (core : CoreId)
    → is_down (journal ++ entry.Led core ∷ []) (key_of_core core) ≡ true
is_down-push_led journal core =
    is_down-push journal (entry.Led core) (key_of_core core)
    ∙ ap (λ b. b || is_down journal (key_of_core core)) (is_key-own (key_of_core core))

pub is_down-push_led_other : (journal : List Entry) (core : CoreId) (key : ℕ × ℕ)
    → is_key key (key_of_core core) ≡ false → is_down (journal ++ entry.Led core ∷ []) key ≡ is_down journal key
is_down-push_led_other journal core key other =
    is_down-push journal (entry.Led core) key ∙ ap (λ b. b || is_down journal key) other

-- a core that comes up is not down, and the others are as they were
pub is_down-push_up : (journal : List Entry) (core : CoreId)
    → is_down (journal ++ entry.Up core ∷ []) (key_of_core core) ≡ false
is_down-push_up journal core =
    is_down-push journal (entry.Up core) (key_of_core core)
    ∙ ap (λ b. not b && is_down journal (key_of_core core)) (is_key-own (key_of_core core))

pub is_down-push_up_other : (journal : List Entry) (core : CoreId) (key : ℕ × ℕ)
    → is_key key (key_of_core core) ≡ false → is_down (journal ++ entry.Up core ∷ []) key ≡ is_down journal key
is_down-push_up_other journal core key other =
    is_down-push journal (entry.Up core) key ∙ ap (λ b. not b && is_down journal key) other
