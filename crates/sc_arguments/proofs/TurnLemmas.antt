-- What one word does to a walk over options that each take one value.
use Rattle.std.proofs.Common.{◌≡◌, ℕ, Bool, true, false, ◌||◌, cond, List, [], ◌∷◌, ◌++◌, Option, Some, None, refl, ap, ◌∙◌, append-nil, ◌⊎◌, inl, inr}
use Rattle.std.specs.Prelude.{slice_get}
use Rattle.std.specs.Str.{bytes_eq, chars}
use Rattle.std.proofs.lemmas.Slice.Eq.{bytes_eq-Decides}
use Rattle.clap.specs.Lexer.{long_of, short_of}
use Rattle.clap.specs.Walk.{Text, Held, Walk, Row, arg_by_id, arg_by_long, walk_from, walked, reacted, settled, has_row, used, at_row, bundle, bundle_met, plain, option, reading_by, with_values, more_values}
use Rattle.clap.specs.declared.parser.matches.ValueSource.TheVariants.{CommandLine}
use Rattle.clap.specs.Kinds.{Kinds, or_else}
use Rattle.clap.specs.Faults.{turn_fault, react_fault, settle_fault, use_fault, bundle_fault, flags_fault}
use Rattle.clap.specs.declared.error.kind.ErrorKind.TheVariants as kind
use Rattle.sc_arguments.specs.Options.{Setting, is_number}
use Rattle.sc_arguments.proofs.WordLemmas.{stop, short_no_number}
use Rattle.sc_arguments.proofs.RuleLemmas.{built_rule, rules_of, shape_with, no_short, no_place}

abbrev pub held : List Row → Option (Text × List Text) → Held
held rows pending = record { rows = rows; pending = pending; skip = 0 }

-- what is found of an option with its value
abbrev pub row_of_setting : Setting → Row
row_of_setting setting = record { id = setting.0; values = setting.1 ∷ []; count = None; source = Some CommandLine; reading = reading_by (built_rule setting.0) }

abbrev pub waits_for : Text → Held → Walk
waits_for name h = record (walk_from h) { waiting = option name }

pub or_none : (kinds : Kinds) → or_else kinds [] ≡ kinds
or_none [] = refl
or_none (k ∷ kinds) = refl

name_same : (name : Text) → bytes_eq name name ≡ true
name_same name = (bytes_eq-Decides name name).1 refl

module _ (names : List Text) where
  -- ---- where no option waits for its value

  pub value_turn : (h : Held) (word name value : Text) → bytes_eq word stop ≡ false → long_of word ≡ Some (name, Some value) → arg_by_long (rules_of names) name ≡ Some (built_rule name)
      → turn_fault (shape_with (rules_of names)) [] (walk_from h) word ≡ react_fault (rules_of names) false (built_rule name) (value ∷ []) h
  value_turn h word name value s long known = rw s (rw long (rw known (or_none _)))

  pub value_next : (h : Held) (word name value : Text) → bytes_eq word stop ≡ false → long_of word ≡ Some (name, Some value) → arg_by_long (rules_of names) name ≡ Some (built_rule name)
      → walked (rules_of names) [] (walk_from h) word ≡ walk_from (reacted (rules_of names) (built_rule name) (value ∷ []) h)
  unfolding walked
  value_next h word name value s long known = rw s (rw long (rw known refl))

  pub open_turn : (h : Held) (word name : Text) → bytes_eq word stop ≡ false → long_of word ≡ Some (name, None) → arg_by_long (rules_of names) name ≡ Some (built_rule name)
      → turn_fault (shape_with (rules_of names)) [] (walk_from h) word ≡ settle_fault (rules_of names) false h
  open_turn h word name s long known = rw s (rw long (rw known (or_none _)))

  pub open_next : (h : Held) (word name : Text) → bytes_eq word stop ≡ false → long_of word ≡ Some (name, None) → arg_by_long (rules_of names) name ≡ Some (built_rule name)
      → walked (rules_of names) [] (walk_from h) word ≡ waits_for name (record (settled (rules_of names) h) { pending = Some (name, []) })
  unfolding walked
  open_next h word name s long known = rw s (rw long (rw known refl))

  pub unknown_turn : (h : Held) (word name : Text) (value : Option Text) → bytes_eq word stop ≡ false → long_of word ≡ Some (name, value) → arg_by_long (rules_of names) name ≡ None
      → turn_fault (shape_with (rules_of names)) [] (walk_from h) word ≡ kind.UnknownArgument ∷ []
  unknown_turn h word name value s long known = rw s (rw long (rw known refl))

  -- flags are refused, or are none where they spell no character
  bundle_is : (rows : List Row) (pending : Option (Text × List Text)) (flags : Text) (found : Option ℕ) → slice_get (chars flags) 0 ≡ found
      → (bundle_fault (rules_of names) false flags (held rows pending) ≡ kind.UnknownArgument ∷ [])
      ⊎ ((bundle_fault (rules_of names) false flags (held rows pending) ≡ []) × (bundle (rules_of names) flags (held rows pending) ≡ (held rows pending, plain)))
  unfolding flags_fault bundle_met
  bundle_is rows pending [] found e = inr (refl, refl)
  bundle_is rows pending (x ∷ flags) None e = inr (rw e refl, rw e refl)
  bundle_is rows pending (x ∷ flags) (Some c) e = inl (rw e (rw (no_short names c) refl))

  pub other_turn : (rows : List Row) (pending : Option (Text × List Text)) (word : Text) → bytes_eq word stop ≡ false → long_of word ≡ None
      → turn_fault (shape_with (rules_of names)) [] (walk_from (held rows pending)) word ≡ kind.UnknownArgument ∷ []
  other_turn rows pending word s long = by (short_of word) refl where
    by : (found : Option Text) → short_of word ≡ found → turn_fault (shape_with (rules_of names)) [] (walk_from (held rows pending)) word ≡ kind.UnknownArgument ∷ []
    by None short = rw s (rw long (rw short (rw (no_place names 1) refl)))
    by (Some flags) short = elim (bundle_is rows pending flags _ refl) [
      | inl e ↦ rw s (rw long (rw short (rw e refl)))
      | inr e ↦ rw s (rw long (rw short (rw e.0 (rw e.1 (rw (no_place names 1) refl)))))
    ]

  -- ---- where an option waits for its value

  pub no_value : (rows : List Row) (name : Text) → arg_by_id (rules_of names) name ≡ Some (built_rule name)
      → settle_fault (rules_of names) false (held rows (Some (name, []))) ≡ kind.InvalidValue ∷ []
  no_value rows name known = rw known refl

  pub other_option : (rows : List Row) (name word other : Text) (value : Option Text) → bytes_eq word stop ≡ false → long_of word ≡ Some (other, value) → arg_by_id (rules_of names) name ≡ Some (built_rule name)
      → arg_by_long (rules_of names) other ≡ Some (built_rule other)
      → turn_fault (shape_with (rules_of names)) [] (waits_for name (held rows (Some (name, [])))) word ≡ kind.InvalidValue ∷ []
  other_option rows name word other None s long known k = rw s (rw long (rw k (rw known refl)))
  other_option rows name word other (Some value) s long known k = rw s (rw long (rw k (rw known refl)))

  pub other_unknown : (rows : List Row) (name word other : Text) (value : Option Text) → bytes_eq word stop ≡ false → long_of word ≡ Some (other, value) → arg_by_long (rules_of names) other ≡ None
      → turn_fault (shape_with (rules_of names)) [] (waits_for name (held rows (Some (name, [])))) word ≡ kind.UnknownArgument ∷ []
  other_unknown rows name word other value s long k = rw s (rw long (rw k refl))

  -- a word that is no long flag is its value, or is refused since it begins with `-`
  pub value_given : (rows : List Row) (name word : Text) → bytes_eq word stop ≡ false → long_of word ≡ None → arg_by_id (rules_of names) name ≡ Some (built_rule name)
      → ((turn_fault (shape_with (rules_of names)) [] (waits_for name (held rows (Some (name, [])))) word ≡ kind.UnknownArgument ∷ []) × (is_number word ≡ true → ⊥))
      ⊎ ((turn_fault (shape_with (rules_of names)) [] (waits_for name (held rows (Some (name, [])))) word ≡ [])
      × (walked (rules_of names) [] (waits_for name (held rows (Some (name, [])))) word ≡ walk_from (held rows (Some (name, word ∷ [])))))
  unfolding walked
  value_given rows name word s long known = by (short_of word) refl where
    by : (found : Option Text) → short_of word ≡ found
        → ((turn_fault (shape_with (rules_of names)) [] (waits_for name (held rows (Some (name, [])))) word ≡ kind.UnknownArgument ∷ []) × (is_number word ≡ true → ⊥))
        ⊎ ((turn_fault (shape_with (rules_of names)) [] (waits_for name (held rows (Some (name, [])))) word ≡ [])
        × (walked (rules_of names) [] (waits_for name (held rows (Some (name, [])))) word ≡ walk_from (held rows (Some (name, word ∷ [])))))
    by None short = inr (rw s (rw long (rw short refl)), rw s (rw long (rw short (rw known (rw (name_same name) refl)))))
    by (Some flags) short = elim (bundle_is rows (Some (name, [])) flags _ refl) [
      | inl e ↦ inl (rw s (rw long (rw short (rw e refl))), short_no_number word flags short)
      | inr e ↦ inr (rw s (rw long (rw short (rw e.0 (rw e.1 refl)))), rw s (rw long (rw short (rw e.1 (rw known (rw (name_same name) refl))))))
    ]

  -- ---- one use

  pub used_once : (rows : List Row) (name value : Text) → has_row name rows ≡ false → use_fault false (built_rule name) (value ∷ []) rows ≡ []
  used_once rows name value e = rw e refl

  pub used_again : (rows : List Row) (name value : Text) → has_row name rows ≡ true → use_fault false (built_rule name) (value ∷ []) rows ≡ kind.ArgumentConflict ∷ []
  used_again rows name value e = rw e refl

  fresh : (id : Text) (change : Row → List Row) (missing rows : List Row) → has_row id rows ≡ false → at_row id change missing rows ≡ rows ++ missing
  fresh id change missing [] e = refl
  fresh id change missing (row ∷ rows) e = by (bytes_eq row.id id) e (fresh id change missing rows) where
    by : (t : Bool) → (t || has_row id rows) ≡ false → (has_row id rows ≡ false → at_row id change missing rows ≡ rows ++ missing)
        → cond t (change row ++ rows) (row ∷ at_row id change missing rows) ≡ row ∷ (rows ++ missing)
    by true f rest = absurd (cc)
    by false f rest = ap (λ (more : List Row). row ∷ more) (rest f)

  pub rows_used : (rows : List Row) (name value : Text) → has_row name rows ≡ false → used (built_rule name) (value ∷ []) rows ≡ rows ++ row_of_setting (name, value) ∷ []
  rows_used rows name value e =
      ap (λ (rs : List Row). with_values name (reading_by (built_rule name)) CommandLine (value ∷ []) rs) (fresh name (λ _. []) [] rows e ∙ append-nil rows)
      ∙ fresh name (more_values CommandLine (value ∷ [])) (row_of_setting (name, value) ∷ []) rows e
