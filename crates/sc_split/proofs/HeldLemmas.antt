-- What holds of a bucket by its keeper leave of what is known.
use Rattle.std.proofs.Common.{◌≡◌, ℕ, true, List, [], ◌++◌, refl, sym, ap, ◌∙◌, subst, Some, None}
use Rattle.std.proofs.lemmas.List.{append-nil, append_cancel_left}
use mathlib.Core.List.{IsPrefix}
use Rattle.sc_record.specs.declared.entry.Entry.{Entry}
use Rattle.sc_seen.specs.Seen.{Layout, Seen, AreLegal}
use Rattle.sc_seen.proofs.ExtendsLemmas.{IsPrefix-self, IsPrefix-then}
use Rattle.sc_bucket.specs.declared.bucket.Bucket.{Bucket}
use Rattle.sc_keeper.specs.declared.part.Part.{Part}
use Rattle.sc_keeper.specs.Part.{part_of, keeper_entries}
use Rattle.sc_collection.specs.Desks.{Held, Out, Keeping, KeepsOn, KeepsGiven, SeesKeeperGiven, IsDeskAtRest, nothing_out}
use Rattle.sc_collection.specs.Known.{Known, known_of}
use Rattle.sc_split.specs.Buckets.{part_in, IsAllSeen, LeavesOthers, KeeperHeld}

-- the bucket of this number, handed out to its keeper
abbrev pub held_of : ℕ → Bucket → Held
held_of number bucket = record { number = number; bucket = bucket; by_keeper = true }

-- what a hold by the keeper leaves, once it gave back the bucket
pub record IsHeld (number : ℕ) (bucket given : Bucket) (old new : Known) : Type 0 where
  pub begins : IsPrefix (old.seen.journals number) bucket.journal.entries
  pub part : part_of bucket ≡ part_in old number
  pub sees : SeesKeeperGiven (held_of number bucket) given old.seen new.seen
  pub between : Keeping
  pub keeps_on : KeepsOn old.keeping between
  pub keeps : KeepsGiven (held_of number bucket) given between new.keeping

module _ (number : ℕ) (bucket given : Bucket) (old new : Known) (is : IsHeld number bucket given old new) where
  -- the part is that of what was given
  pub part-given : part_in new number ≡ part_of given
  part-given = is.keeps.part

  -- all that the keeper made was seen
  pub all_seen : IsAllSeen number new
  all_seen = ap keeper_entries is.sees.journal ∙ sym (ap (λ (part : Part). part.entries) part-given)

  -- others stay
  others : LeavesOthers number old new
  others = record {
    journals = is.sees.others;
    board = is.sees.board;
    own = is.sees.own;
    parts = λ lock other. is.keeps.others lock other ∙ is.keeps_on.part lock;
    kept = λ lock other. is.keeps.others_own lock other ∙ is.keeps_on.own lock;
  }

  -- these entries were made
  pub held-made : (made : List Entry) → given.journal.entries ≡ bucket.journal.entries ++ made
      → (part_of given).entries ≡ (part_of bucket).entries ++ made → KeeperHeld number old new made
  held-made made longer of_keeper = record {
    others = others;
    before = bucket.journal.entries;
    went_on = is.begins;
    journal = is.sees.journal ∙ longer;
    own = is.keeps.own ∙ ap (λ own. own ++ is.keeps.made) (is.keeps_on.own number) ∙ ap (λ more. old.keeping.own number ++ more) same;
    entries = ap (λ (part : Part). part.entries) part-given ∙ of_keeper ∙ ap (λ (part : Part). part.entries ++ made) is.part;
  }
    where
      same : is.keeps.made ≡ made
      same = append_cancel_left bucket.journal.entries is.keeps.made made (sym is.keeps.added ∙ longer)

  -- none were
  pub held-none : given.journal.entries ≡ bucket.journal.entries → KeeperHeld number old new []
  held-none same =
      held-made [] (same ∙ sym (append-nil bucket.journal.entries))
      (ap keeper_entries same ∙ sym (append-nil (part_of bucket).entries))

-- nothing was held
pub held-not : (number : ℕ) (known : Known) → KeeperHeld number known known []
held-not number known = record {
  others = record {
    journals = λ lock other. refl;
    board = refl;
    own = λ lock. refl;
    parts = λ lock other. refl;
    kept = λ lock other.
        refl;
  };
  before = known.seen.journals number;
  went_on = IsPrefix-self (known.seen.journals number);
  journal = sym (append-nil (known.seen.journals number));
  own = sym (append-nil (known.keeping.own number));
  entries = sym (append-nil (part_in known number).entries);
}

-- what holds of a bucket leave of the others, one time after another
pub others-then : (number : ℕ) (old between new : Known) → LeavesOthers number old between → LeavesOthers number between new
    → LeavesOthers number old new
others-then number old between new one two = record {
  journals = λ lock other. two.journals lock other ∙ one.journals lock other;
  board = two.board ∙ one.board;
  own = λ lock. two.own lock ∙ one.own lock;
  parts = λ lock other. two.parts lock other ∙ one.parts lock other;
  kept = λ lock other. two.kept lock other ∙ one.kept lock other;
}

-- holds after holds that made no entry
pub held-then : (number : ℕ) (old between new : Known) (made : List Entry) → KeeperHeld number old between []
    → KeeperHeld number between new made
    → KeeperHeld number old new made
held-then number old between new made one two = record {
  others = others-then number old between new one.others two.others;
  before = two.before;
  went_on = IsPrefix-then (old.seen.journals number) one.before two.before one.went_on
      (subst (λ journal. IsPrefix journal two.before) (one.journal ∙ append-nil one.before) two.went_on);
  journal = two.journal;
  own = two.own ∙ ap (λ own. own ++ made) (one.own ∙ append-nil (old.keeping.own number));
  entries = two.entries ∙ ap (λ entries. entries ++ made) (one.entries ∙ append-nil (part_in old number).entries);
}

-- a hold, by what the desk says of it
pub held_by_desk : (number : ℕ) (bucket given : Bucket) (seen out_seen new_seen : Seen) (keeping between new_keeping : Keeping)
    → IsPrefix (seen.journals number) bucket.journal.entries → part_of bucket ≡ keeping.part number → out_seen ≡ seen
    → KeepsOn keeping between → SeesKeeperGiven (held_of number bucket) given out_seen new_seen
    → KeepsGiven (held_of number bucket) given between new_keeping
    → IsHeld number bucket given (known_of seen keeping) (known_of new_seen new_keeping)
held_by_desk number bucket given seen out_seen new_seen keeping between new_keeping begins part same keeps_on sees keeps = record {
  begins = begins;
  part = part;
  sees = subst (λ (was : Seen). SeesKeeperGiven (held_of number bucket) given was new_seen) same sees;
  between = between;
  keeps_on = keeps_on;
  keeps = keeps;
}

-- a desk that was at rest is so after a hold
pub rest-held : (layout : Layout) (seen : Seen) (held : Held) (out held_out new_out : Out) → out ≡ nothing_out
    → held_out ≡ record out { bucket = Some held } → new_out ≡ record held_out { bucket = None } → AreLegal layout seen
    → IsDeskAtRest layout new_out seen
rest-held layout seen held out held_out new_out rest taken given legal = record {
  nothing_out = given ∙ ap (λ (o : Out). record o { bucket = None }) taken ∙ ap (λ (o : Out). record o { bucket = None }) rest;
  legal = legal;
}

-- what is so of the parts of what was handed out and of what was given is so of what is kept
pub kept_parts : {old now was given : Part} (IsSo : Part → Part → Type 0) → now ≡ given → was ≡ old → IsSo was given → IsSo old now
kept_parts {old = old} {given = given} IsSo same_now same_old is =
    subst (IsSo old) (sym same_now) (subst (λ (part : Part). IsSo part given) same_old is)
