-- Entries one after another: what was read of a body is spelled there, and a body is one list of entries at most.
use Rattle.std.proofs.Common.{◌≡◌, ◌≢◌, ℕ, ◌+◌, ◌<◌, List, [], ◌∷◌, ◌++◌, length, Some, None, refl, sym, ap, subst, ◌∙◌, append_assoc, arith}
use Rattle.std.specs.List.{flat_map, AllByRecursion}
use Rattle.std.proofs.lemmas.List.{append-nil, length-append}
use Rattle.std.proofs.lemmas.List.Concat.{flat_map-cons, flat_map-append}
use Rattle.sc_spelling.proofs.NumberLemmas.{IsBytes, some_is, Takes, Takes-then}
use Rattle.sc_frames.specs.Stored.{Stored, FitsEntry}
use Rattle.sc_frames.specs.Entries.{AreEntries, spelling_of_entry}
use Rattle.sc_frames.specs.Reading.{entry_at}
use Rattle.sc_frames.proofs.EntryLemmas.{entry_takes, entry_again, entry_some}

-- of the first entries that were read: they are spelled in front, and each fits
pub record AreFirst (body : List ℕ) (es : List Stored) (rest : List ℕ) : Type 0 where
  pub takes : Takes body (flat_map spelling_of_entry es) rest
  pub fit : AllByRecursion FitsEntry es

pub first_none : (body : List ℕ) → IsBytes body → AreFirst body [] body
first_none body fits = record { takes = record { parts = refl; rest_fits = fits }; fit = tt }

all_more : (es : List Stored) (e : Stored) → AllByRecursion FitsEntry es → FitsEntry e → AllByRecursion FitsEntry (es ++ e ∷ [])
all_more [] e all one = (one, tt)
all_more (x ∷ es) e all one = (all.0, all_more es e all.1 one)

spelled_one : (e : Stored) → flat_map spelling_of_entry (e ∷ []) ≡ spelling_of_entry e
spelled_one e = flat_map-cons spelling_of_entry e [] ∙ append-nil (spelling_of_entry e)

pub first_more : (body : List ℕ) (es : List Stored) (rest : List ℕ) (x : Stored × List ℕ) → AreFirst body es rest → entry_at rest ≡ Some x → AreFirst body (es ++ x.0 ∷ []) x.1
first_more body es rest x first e =
    let read = entry_takes rest x first.takes.rest_fits e in
    let both = Takes-then body (flat_map spelling_of_entry es) rest (spelling_of_entry x.0) x.1 first.takes read.takes in
    let spelled : flat_map spelling_of_entry es ++ spelling_of_entry x.0 ≡ flat_map spelling_of_entry (es ++ x.0 ∷ []) =
    ap (λ (t : List ℕ). flat_map spelling_of_entry es ++ t) (sym (spelled_one x.0)) ∙ sym (flat_map-append spelling_of_entry es (x.0 ∷ [])) in
    record { takes = subst (λ (t : List ℕ). Takes body t x.1) spelled both; fit = all_more es x.0 first.fit read.fits }

-- an empty list of bytes is no entry and others
none_spelled : (e : Stored) (es : List Stored) → flat_map spelling_of_entry (e ∷ es) ≡ [] → ⊥
none_spelled e es h =
    let long : 0 ≡ length (spelling_of_entry e) + length (flat_map spelling_of_entry es) =
    sym (ap length h) ∙ ap length (flat_map-cons spelling_of_entry e es) ∙ length-append (spelling_of_entry e) (flat_map spelling_of_entry es) in
    omega (arith, long, entry_some e)

none_read : (es : List Stored) → AreEntries [] es → ⊥
none_read [] are = are.some refl
none_read (e ∷ es) are = none_spelled e es (sym are.spelt)

pub none_of : (body : List ℕ) (es : List Stored) → length body ≡ 0 → AreEntries body es → ⊥
none_of [] es empty are = none_read es are
none_of (b ∷ body) es empty are = omega (arith, empty)

spelled_some : (es : List Stored) → 0 < length (flat_map spelling_of_entry es) → es ≢ []
spelled_some [] long = absurd (omega arith)
spelled_some (e ∷ es) long = λ same. absurd cc

-- of a body that was read to its end, with some entries
pub all_read : (body : List ℕ) (es : List Stored) (rest : List ℕ) → 0 < length body → length rest ≡ 0 → AreFirst body es rest → AreEntries body es
all_read body es [] some over first =
    let whole : body ≡ flat_map spelling_of_entry es = first.takes.parts ∙ append-nil (flat_map spelling_of_entry es) in
    record { some = spelled_some es (subst (λ (t : List ℕ). 0 < length t) whole some); fit = first.fit; spelt = whole }
all_read body es (b ∷ rest) some over first = absurd (omega arith)

-- what entries and others have in common, of the same bytes
record AreMore (firsts others : List Stored) (rest : List ℕ) : Type 0 where
  pub tail : List Stored
  pub is : others ≡ firsts ++ tail
  pub fit : AllByRecursion FitsEntry tail
  pub spelt : rest ≡ flat_map spelling_of_entry tail

-- entries that are all the bytes begin with those that are spelled in front
goes_on : (firsts others : List Stored) (rest : List ℕ) → AllByRecursion FitsEntry firsts → AllByRecursion FitsEntry others
    → flat_map spelling_of_entry firsts ++ rest ≡ flat_map spelling_of_entry others → AreMore firsts others rest
goes_on [] others rest fit other_fit same = record { tail = others; is = refl; fit = other_fit; spelt = same }
goes_on (e ∷ es) [] rest fit other_fit same =
    let long = ap length same in
    let split = ap length (flat_map-cons spelling_of_entry e es) ∙ length-append (spelling_of_entry e) (flat_map spelling_of_entry es) in
    let whole = length-append (flat_map spelling_of_entry (e ∷ es)) rest in
    absurd (omega (arith, long, split, whole, entry_some e))
goes_on (e ∷ es) (o ∷ os) rest fit other_fit same =
    let left : List ℕ = flat_map spelling_of_entry es ++ rest in
    let right : List ℕ = flat_map spelling_of_entry os in
    let opened : flat_map spelling_of_entry (e ∷ es) ++ rest ≡ spelling_of_entry e ++ left =
    ap (λ (t : List ℕ). t ++ rest) (flat_map-cons spelling_of_entry e es) ∙ append_assoc (spelling_of_entry e) (flat_map spelling_of_entry es) rest in
    let both : spelling_of_entry e ++ left ≡ spelling_of_entry o ++ right = sym opened ∙ same ∙ flat_map-cons spelling_of_entry o os in
    let one = some_is (e, left) (o, right) (sym (entry_again e left fit.0) ∙ ap entry_at both ∙ entry_again o right other_fit.0) in
    let first : e ≡ o = ap (λ (p : Stored × List ℕ). p.0) one in
    let others = goes_on es os rest fit.1 other_fit.1 (ap (λ (p : Stored × List ℕ). p.1) one) in
    record { tail = others.tail; is = ap (λ (s : Stored). s ∷ os) (sym first) ∙ ap (λ (l : List Stored). e ∷ l) others.is; fit = others.fit; spelt = others.spelt }

-- where no entry is read, and something is left, the body is no entries
pub none_more : (body : List ℕ) (firsts : List Stored) (rest : List ℕ) → AreFirst body firsts rest → 0 < length rest → entry_at rest ≡ None
    → (es : List Stored) → AreEntries body es → ⊥
none_more body firsts rest first some none es are =
    let more = goes_on firsts es rest first.fit are.fit (sym first.takes.parts ∙ are.spelt) in
    stuck more.tail more.fit more.spelt
  where
    stuck : (tail : List Stored) → AllByRecursion FitsEntry tail → rest ≡ flat_map spelling_of_entry tail → ⊥
    stuck [] fit spelt = let long = ap length spelt in omega (arith, long)
    stuck (e ∷ tail) fit spelt =
        let again : entry_at rest ≡ Some (e, flat_map spelling_of_entry tail) =
        ap entry_at (spelt ∙ flat_map-cons spelling_of_entry e tail) ∙ entry_again e (flat_map spelling_of_entry tail) fit.0 in
        absurd cc

-- a body is one list of entries at most
pub one_reading : (body : List ℕ) (a b : List Stored) → AreEntries body a → AreEntries body b → a ≡ b
one_reading body a b are others =
    let more = goes_on a b [] are.fit others.fit (append-nil (flat_map spelling_of_entry a) ∙ sym are.spelt ∙ others.spelt) in
    ended more.tail more.is more.spelt
  where
    ended : (tail : List Stored) → b ≡ a ++ tail → [] ≡ flat_map spelling_of_entry tail → a ≡ b
    ended [] is spelt = sym (is ∙ append-nil a)
    ended (e ∷ tail) is spelt = absurd (none_spelled e tail (sym spelt))
