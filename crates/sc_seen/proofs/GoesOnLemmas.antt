-- What was seen goes on from stop to stop.
use Rattle.std.proofs.Common.{◌≡◌, ◌<◌, ℕ, List, [], ◌∷◌, ◌++◌, length, take, refl, sym, ap, ◌∙◌, subst, append_assoc}
use Rattle.std.specs.Prelude.{⊤}
use Rattle.std.proofs.lemmas.List.{append-nil}
use Rattle.std.proofs.Math.Seq.{take-append_seam}
use mathlib.Core.List.{IsPrefix}
use Rattle.sc_seen.specs.Seen.{Layout, Seen, Extends, SeesMore, EndAtLast, GoesOn, place_after, stops_at}
use Rattle.sc_seen.specs.Moments.{View, Keeps}
use Rattle.sc_seen.specs.declared.stop.Stop.{Stop}
use Rattle.sc_seen.proofs.ExtendsLemmas.{IsPrefix-self, IsPrefix-then, stops_at-append, Extends-none, Extends-then}

-- a list with a prefix has it there
pub take-prefix : {A : Type 0} (xs ys : List A) → IsPrefix xs ys → take (length xs) ys ≡ xs
take-prefix xs ys begins = ap (take (length xs)) (sym begins.1) ∙ take-append_seam xs begins.0

pub SeesMore-self : (seen : Seen) → SeesMore seen seen
SeesMore-self seen = record { journals = λ lock. IsPrefix-self (seen.journals lock); board = IsPrefix-self seen.board }

pub SeesMore-then : (old between later : Seen) → SeesMore old between → SeesMore between later → SeesMore old later
SeesMore-then old between later one two = record {
  journals = λ lock. IsPrefix-then (old.journals lock) (between.journals lock) (later.journals lock) (one.journals lock) (two.journals lock);
  board = IsPrefix-then old.board between.board later.board one.board two.board;
}

-- what went on by stops is seen later
pub SeesMore-by : (layout : Layout) (old new : Seen) (stops : List Stop) → Extends layout old new stops → SeesMore old new
SeesMore-by layout old new stops extends = record { journals = extends.seen; board = extends.board }

-- where two parts have no stop, neither has one
append-none : {A : Type 0} (xs ys : List A) → xs ++ ys ≡ [] → (xs ≡ []) × (ys ≡ [])
append-none [] ys none = (refl, none)
append-none (x ∷ xs) ys none = absurd (cc)

pub stops_at-none : (lock : ℕ) (xs ys : List Stop) → stops_at lock (xs ++ ys) ≡ [] → (stops_at lock xs ≡ []) × (stops_at lock ys ≡ [])
stops_at-none lock xs ys none = append-none (stops_at lock xs) (stops_at lock ys) (sym (stops_at-append lock xs ys) ∙ none)

-- the stops, from the first on: that which no stop of its bucket follows is at the end of what was seen there
abbrev Ends : Layout → Seen → List Stop → Type 0
Ends layout seen [] = ⊤
Ends layout seen (stop ∷ stops) =
    (stop.lock < layout.buckets → stops_at stop.lock stops ≡ [] → place_after stop ≡ length (seen.journals stop.lock)) × Ends layout seen stops

Ends-from : (layout : Layout) (seen : Seen) (stops : List Stop) → EndAtLast layout seen stops → Ends layout seen stops
Ends-from layout seen [] h = tt
Ends-from layout seen (stop ∷ stops) h =
    (h [] stop stops refl, Ends-from layout seen stops (λ before one after is. h (stop ∷ before) one after (ap (λ xs. stop ∷ xs) is)))

Ends-to : (layout : Layout) (seen : Seen) (stops : List Stop) → Ends layout seen stops → EndAtLast layout seen stops
Ends-to layout seen stops h before stop after is = at before stop after (subst (Ends layout seen) is h) where
  at : (before : List Stop) (stop : Stop) (after : List Stop) → Ends layout seen (before ++ stop ∷ after)
      → stop.lock < layout.buckets → stops_at stop.lock after ≡ [] → place_after stop ≡ length (seen.journals stop.lock)
  at [] stop after ends = ends.0
  at (x ∷ before) stop after ends = at before stop after ends.1

Ends-append : (layout : Layout) (old new : Seen) (xs ys : List Stop) → Ends layout old xs → Ends layout new ys
    → ((lock : ℕ) → lock < layout.buckets → stops_at lock ys ≡ [] → new.journals lock ≡ old.journals lock)
    → Ends layout new (xs ++ ys)
Ends-append layout old new [] ys one two stays = two
Ends-append layout old new (x ∷ xs) ys one two stays = (
  λ below none. let parts = stops_at-none x.lock xs ys none in one.0 below parts.0 ∙ sym (ap length (stays x.lock below parts.1)),
  Ends-append layout old new xs ys one.1 two stays,
)

-- nothing was held
pub GoesOn-none : (layout : Layout) (seen : Seen) → GoesOn layout seen seen []
GoesOn-none layout seen = record {
  extends = Extends-none layout seen;
  last = Ends-to layout seen [] tt;
  stays = λ lock below none. refl;
  board = refl;
  board_own = refl;
}

-- what went on by stops, and then by others, went on by all of them
pub GoesOn-then : (layout : Layout) (old between new : Seen) (xs ys : List Stop)
    → GoesOn layout old between xs → GoesOn layout between new ys → GoesOn layout old new (xs ++ ys)
GoesOn-then layout old between new xs ys one two = record {
  extends = Extends-then layout old between new xs ys one.extends two.extends;
  last = Ends-to layout new (xs ++ ys) (Ends-append layout between new xs ys (Ends-from layout between xs one.last) (Ends-from layout new ys two.last) two.stays);
  stays = λ lock below none. let parts = stops_at-none lock xs ys none in two.stays lock below parts.1 ∙ one.stays lock below parts.0;
  board = two.board ∙ one.board;
  board_own = two.board_own ∙ one.board_own;
}

-- no stop more was kept
pub Keeps-none : (layout : Layout) (view : View) → Keeps layout view view []
Keeps-none layout view = record { goes = GoesOn-none layout view.seen; kept = sym (append-nil view.stops) }

-- some stops were kept, and then others
pub Keeps-then : (layout : Layout) (old between new : View) (xs ys : List Stop)
    → Keeps layout old between xs → Keeps layout between new ys → Keeps layout old new (xs ++ ys)
Keeps-then layout old between new xs ys one two = record {
  goes = GoesOn-then layout old.seen between.seen new.seen xs ys one.goes two.goes;
  kept = two.kept ∙ ap (λ (stops : List Stop). stops ++ ys) one.kept ∙ append_assoc old.stops xs ys;
}

-- what is seen after those stops is seen later
pub Keeps-sees : (layout : Layout) (old new : View) (stops : List Stop) → Keeps layout old new stops
    → (later : Seen) → SeesMore new.seen later → SeesMore old.seen later
Keeps-sees layout old new stops keeps later more =
    SeesMore-then old.seen new.seen later (SeesMore-by layout old.seen new.seen stops keeps.goes.extends) more
