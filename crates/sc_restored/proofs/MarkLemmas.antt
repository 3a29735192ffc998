-- What the entries up to one, with it, say of a seat.
use Rattle.std.proofs.Common.{◌≡◌, ℕ, ◌+◌, ◌<◌, Bool, true, false, not, cond, nat_eq, List, [], ◌∷◌, ◌++◌, take, filter, fold, count_by, length, get_or, refl, sym, ap, ◌∙◌, arith}
use Rattle.std.proofs.lemmas.Bool.{false≢true}
use Rattle.std.specs.Prelude.{if◌then◌else◌, Some, None}
use Rattle.std.proofs.lemmas.List.{take_more, take_all, append-nil}
use Rattle.std.proofs.lemmas.Option.{cond_some, none-some}
use Rattle.std.proofs.lemmas.List.Elements.{filter-append}
use Rattle.sc_record.specs.declared.slice.SliceId.{SliceId}
use Rattle.sc_record.specs.declared.slice.CoreId.{CoreId}
use Rattle.sc_record.specs.declared.entry.Entry.{Entry}
use Rattle.sc_record.specs.declared.entry.Entry.TheVariants as entry
use Rattle.sc_cluster.specs.declared.slice.Slice.{Slice}
use Rattle.sc_journal.specs.Down.{down_after, is_down, all_followers, count_up}
use Rattle.sc_journal.specs.Seats.{exchanged, seats_after, seats}
use Rattle.sc_journal.proofs.DownLemmas.{is_down-push}
use Rattle.sc_journal.proofs.SeatLemmas.{seats-push}
use Rattle.sc_restored.specs.Marks.{is_mark, resets, seat_before}

-- the entries up to one, with it
pub taken_next : (journal : List Entry) (at : ℕ) (one : Entry) → at < length journal → one ≡ get_or journal at one
    → take (at + 1) journal ≡ take at journal ++ one ∷ []
taken_next journal at one below is =
    take_more journal at one below ∙ ap (λ (e : Entry). take at journal ++ e ∷ []) (sym is)

-- whether a core is down after them
pub is_down-next : (journal : List Entry) (at : ℕ) (one : Entry) (key : ℕ × ℕ) (before after : Bool) → at < length journal
    → one ≡ get_or journal at one → before ≡ is_down (take at journal) key → after ≡ down_after key before one
    → after ≡ is_down (take (at + 1) journal) key
is_down-next journal at one key before after below is known says =
    says ∙ ap (λ b. down_after key b one) known ∙ sym (is_down-push (take at journal) one key)
    ∙ sym (ap (λ (entries : List Entry). is_down entries key) (taken_next journal at one below is))

-- the seat of one core is that of another where they change places
picked : (core_in : ℕ → ℕ) (seat at : ℕ) (first same : Bool)
    → cond first (core_in seat) (cond same (core_in 1) (core_in at)) ≡ core_in (cond first seat (cond same 1 at))
picked core_in seat at true same = refl
picked core_in seat at false true = refl
picked core_in seat at false false = refl

-- in the slice of the core that takes the lead
seat_led : (core_in : ℕ → ℕ) (seat at : ℕ) (own : Bool)
    → (cond own (exchanged seat core_in) core_in) at ≡ core_in (cond own (cond (nat_eq at 1) seat (cond (nat_eq at seat) 1 at)) at)
seat_led core_in seat at true = picked core_in seat at (nat_eq at 1) (nat_eq at seat)
seat_led core_in seat at false = refl

-- where a core sat before the entry
seat_step : (core_in : ℕ → ℕ) (slice : SliceId) (one : Entry) (at : ℕ) → resets slice one ≡ false
    → seats_after slice core_in one at ≡ core_in (seat_before slice one at)
seat_step core_in slice (entry.Led core) at kept = seat_led core_in core.replica at (nat_eq core.slice.0 slice.0)
seat_step core_in slice (entry.Dropped other) at kept = ap (λ b. (cond b (λ (seat : ℕ). seat) core_in) at) kept
seat_step core_in slice (entry.Write cell) at kept = refl
seat_step core_in slice (entry.Settled place) at kept = refl
seat_step core_in slice entry.Committed at kept = refl
seat_step core_in slice (entry.Begun parent subs) at kept = refl
seat_step core_in slice (entry.Switched parent) at kept = refl
seat_step core_in slice (entry.Failed parent) at kept = refl
seat_step core_in slice (entry.Down core) at kept = refl
seat_step core_in slice (entry.Up core) at kept = refl

-- and where the entry takes the slice away
seat_reset : (core_in : ℕ → ℕ) (slice : SliceId) (one : Entry) (at : ℕ) → resets slice one ≡ true
    → seats_after slice core_in one at ≡ at
seat_reset core_in slice (entry.Dropped other) at is = ap (λ b. (cond b (λ (seat : ℕ). seat) core_in) at) is
seat_reset core_in slice (entry.Led core) at is = absurd (false≢true is)
seat_reset core_in slice (entry.Write cell) at is = absurd (false≢true is)
seat_reset core_in slice (entry.Settled place) at is = absurd (false≢true is)
seat_reset core_in slice entry.Committed at is = absurd (false≢true is)
seat_reset core_in slice (entry.Begun parent subs) at is = absurd (false≢true is)
seat_reset core_in slice (entry.Switched parent) at is = absurd (false≢true is)
seat_reset core_in slice (entry.Failed parent) at is = absurd (false≢true is)
seat_reset core_in slice (entry.Down core) at is = absurd (false≢true is)
seat_reset core_in slice (entry.Up core) at is = absurd (false≢true is)

-- the seats after the entries up to one, with it
seats-next : (journal : List Entry) (left : ℕ) (one : Entry) (slice : SliceId) (at : ℕ) → left < length journal
    → one ≡ get_or journal left one
    → seats (take (left + 1) journal) slice at ≡ seats_after slice (seats (take left journal) slice) one at
seats-next journal left one slice at below is =
    ap (λ (entries : List Entry). seats entries slice at) (taken_next journal left one below is)
    ∙ ap (λ (core_in : ℕ → ℕ). core_in at) (seats-push (take left journal) one slice)

-- the core that sits at a seat sat at this one before the entry
pub number_before : (journal : List Entry) (left : ℕ) (one : Entry) (slice : SliceId) (at before number : ℕ) → left < length journal
    → one ≡ get_or journal left one → resets slice one ≡ false → before ≡ seat_before slice one at
    → seats (take (left + 1) journal) slice at ≡ number → seats (take left journal) slice before ≡ number
number_before journal left one slice at before number below is kept same known =
    ap (seats (take left journal) slice) same
    ∙ sym (seat_step (seats (take left journal) slice) slice one at kept)
    ∙ sym (seats-next journal left one slice at below is) ∙ known

-- or its number is that of the seat
pub number_here : (journal : List Entry) (left : ℕ) (one : Entry) (slice : SliceId) (at number : ℕ) → left < length journal
    → one ≡ get_or journal left one → resets slice one ≡ true → seats (take (left + 1) journal) slice at ≡ number → at ≡ number
number_here journal left one slice at number below is reset known =
    sym (seat_reset (seats (take left journal) slice) slice one at reset)
    ∙ sym (seats-next journal left one slice at below is) ∙ known

-- ---- the entries that say something of a seat
-- what changes nothing may be left out of what is folded
fold-filter : {A B : Type 0} (f : B → A → B) (p : A → Bool) (xs : List A) (start : B) → ((b : B) (x : A) → p x ≡ false → f b x ≡ b)
    → fold f start (filter p xs) ≡ fold f start xs
fold-filter f p [] start idle = refl
fold-filter {A} {B} f p (x ∷ xs) start idle = by (p x) refl (λ (s : B). fold-filter f p xs s idle) where
  by : (b : Bool) → p x ≡ b → ((s : B) → fold f s (filter p xs) ≡ fold f s xs)
      → fold f start (cond b (x ∷ filter p xs) (filter p xs)) ≡ fold f (f start x) xs
  by true is rest = rest (f start x)
  by false is rest = rest start ∙ ap (λ (s : B). fold f s xs) (sym (idle start x is))

-- whether a core is down does not change by another entry
down-left : (key : ℕ × ℕ) (before : Bool) (one : Entry) → is_mark one ≡ false → down_after key before one ≡ before
down-left key before (entry.Write cell) left = refl
down-left key before (entry.Settled place) left = refl
down-left key before entry.Committed left = refl
down-left key before (entry.Begun parent subs) left = refl
down-left key before (entry.Switched parent) left = refl
down-left key before (entry.Failed parent) left = refl
down-left key before (entry.Dropped slice) left = absurd (false≢true (sym left))
down-left key before (entry.Down core) left = absurd (false≢true (sym left))
down-left key before (entry.Up core) left = absurd (false≢true (sym left))
down-left key before (entry.Led core) left = absurd (false≢true (sym left))

-- nor do the seats
seats-left : (slice : SliceId) (core_in : ℕ → ℕ) (one : Entry) → is_mark one ≡ false → seats_after slice core_in one ≡ core_in
seats-left slice core_in (entry.Write cell) left = refl
seats-left slice core_in (entry.Settled place) left = refl
seats-left slice core_in entry.Committed left = refl
seats-left slice core_in (entry.Begun parent subs) left = refl
seats-left slice core_in (entry.Switched parent) left = refl
seats-left slice core_in (entry.Failed parent) left = refl
seats-left slice core_in (entry.Dropped other) left = absurd (false≢true (sym left))
seats-left slice core_in (entry.Down core) left = absurd (false≢true (sym left))
seats-left slice core_in (entry.Up core) left = absurd (false≢true (sym left))
seats-left slice core_in (entry.Led core) left = absurd (false≢true (sym left))

-- so both are told by these entries alone
pub is_down-marks : (journal : List Entry) (key : ℕ × ℕ) → is_down (filter is_mark journal) key ≡ is_down journal key
is_down-marks journal key = fold-filter (down_after key) is_mark journal false (down-left key)

pub seats-marks : (journal : List Entry) (slice : SliceId) → seats (filter is_mark journal) slice ≡ seats journal slice
seats-marks journal slice = fold-filter (seats_after slice) is_mark journal (λ (seat : ℕ). seat) (seats-left slice)

-- and how many followers are not down
pub count_up-marks : (slices : List Slice) (journal : List Entry) → count_up slices (filter is_mark journal) ≡ count_up slices journal
count_up-marks slices journal = λ i. count_by (λ (key : ℕ × ℕ). not (is_down-marks journal key i)) (all_followers slices)

-- these entries among those up to one, with it
pub marks-next : (journal : List Entry) (at : ℕ) (one : Entry) → at < length journal → one ≡ get_or journal at one
    → filter is_mark (take (at + 1) journal) ≡ filter is_mark (take at journal) ++ cond (is_mark one) (one ∷ []) []
marks-next journal at one below is =
    ap (filter is_mark) (taken_next journal at one below is) ∙ filter-append is_mark (take at journal) (one ∷ [])

-- ---- entries of other kinds
pub no_mark : (one : Entry) → ((slice : SliceId) → one ≡ entry.Dropped slice → ⊥) → ((core : CoreId) → one ≡ entry.Down core → ⊥)
    → ((core : CoreId) → one ≡ entry.Up core → ⊥) → ((core : CoreId) → one ≡ entry.Led core → ⊥) → is_mark one ≡ false
no_mark (entry.Write cell) d w u l = refl
no_mark (entry.Settled place) d w u l = refl
no_mark entry.Committed d w u l = refl
no_mark (entry.Begun parent subs) d w u l = refl
no_mark (entry.Switched parent) d w u l = refl
no_mark (entry.Failed parent) d w u l = refl
no_mark (entry.Dropped slice) d w u l = absurd (d slice refl)
no_mark (entry.Down core) d w u l = absurd (w core refl)
no_mark (entry.Up core) d w u l = absurd (u core refl)
no_mark (entry.Led core) d w u l = absurd (l core refl)

pub resets_not : (slice : SliceId) (one : Entry) → ((other : SliceId) → one ≡ entry.Dropped other → ⊥) → false ≡ resets slice one
resets_not slice (entry.Write cell) d = refl
resets_not slice (entry.Settled place) d = refl
resets_not slice entry.Committed d = refl
resets_not slice (entry.Begun parent subs) d = refl
resets_not slice (entry.Switched parent) d = refl
resets_not slice (entry.Failed parent) d = refl
resets_not slice (entry.Dropped other) d = absurd (d other refl)
resets_not slice (entry.Down core) d = refl
resets_not slice (entry.Up core) d = refl
resets_not slice (entry.Led core) d = refl

pub same_seat : (slice : SliceId) (one : Entry) (at : ℕ) → ((core : CoreId) → one ≡ entry.Led core → ⊥) → at ≡ seat_before slice one at
same_seat slice (entry.Write cell) at l = refl
same_seat slice (entry.Settled place) at l = refl
same_seat slice entry.Committed at l = refl
same_seat slice (entry.Begun parent subs) at l = refl
same_seat slice (entry.Switched parent) at l = refl
same_seat slice (entry.Failed parent) at l = refl
same_seat slice (entry.Dropped other) at l = refl
same_seat slice (entry.Down core) at l = refl
same_seat slice (entry.Up core) at l = refl
same_seat slice (entry.Led core) at l = absurd (l core refl)

-- such an entry changes nothing of whether a core is down
pub down_same : (key : ℕ × ℕ) (before : Bool) (one : Entry) → ((slice : SliceId) → one ≡ entry.Dropped slice → ⊥)
    → ((core : CoreId) → one ≡ entry.Down core → ⊥) → ((core : CoreId) → one ≡ entry.Up core → ⊥)
    → ((core : CoreId) → one ≡ entry.Led core → ⊥) → before ≡ down_after key before one
down_same key before one d w u l = sym (down-left key before one (no_mark one d w u l))

-- the entry is taken, or left out
pub mark_taken : (journal : List Entry) (at : ℕ) (one mark : Entry) (marks : List Entry) → at < length journal → one ≡ get_or journal at one
    → (if is_mark one then Some one else None) ≡ Some mark → marks ≡ filter is_mark (take at journal)
    → marks ++ mark ∷ [] ≡ filter is_mark (take (at + 1) journal)
mark_taken journal at one mark marks below is found so_far =
    let (taken, same) = cond_some (is_mark one) one mark found in
    ap (λ (these : List Entry). these ++ mark ∷ []) so_far
    ∙ ap (λ (e : Entry). filter is_mark (take at journal) ++ e ∷ []) (sym same)
    ∙ ap (λ (b : Bool). filter is_mark (take at journal) ++ cond b (one ∷ []) []) (sym taken)
    ∙ sym (marks-next journal at one below is)

pub mark_left : (journal : List Entry) (at : ℕ) (one : Entry) (marks : List Entry) → at < length journal → one ≡ get_or journal at one
    → (if is_mark one then Some one else None) ≡ None → marks ≡ filter is_mark (take at journal)
    → marks ≡ filter is_mark (take (at + 1) journal)
mark_left journal at one marks below is none so_far =
    so_far ∙ sym (append-nil (filter is_mark (take at journal)))
    ∙ ap (λ (b : Bool). filter is_mark (take at journal) ++ cond b (one ∷ []) []) (sym (by (is_mark one) none))
    ∙ sym (marks-next journal at one below is)
  where
    by : (b : Bool) → cond b (Some one) None ≡ None → b ≡ false
    by true is_none = absurd (none-some one (sym is_none))
    by false is_none = refl

-- all entries
pub all_taken : (journal : List Entry) (slice : SliceId) (at : ℕ) → seats (take (length journal) journal) slice at ≡ seats journal slice at
all_taken journal slice at = ap (λ (entries : List Entry). seats entries slice at) (take_all (length journal) journal (omega arith))
