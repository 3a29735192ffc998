-- One step of clap's walk over the words, and what it means for what is found and for the options that follow.
use Rattle.std.proofs.Common.{◌≡◌, ◌∙◌, ◌≤◌, ◌+◌, ◌⊎◌, inl, inr, Bool, true, false, ◌||◌, List, [], ◌∷◌, ◌++◌, map, Option, Some, None, refl, sym, ap, ap₂, subst, arith, append_assoc, true≢false}
use Rattle.std.specs.Prelude.{fold}
use Rattle.std.specs.List.{All, list_any}
use Rattle.std.specs.Str.{bytes_eq}
use Rattle.std.proofs.lemmas.List.Elements.{All-cons, All-head, All-tail}
use Rattle.std.proofs.lemmas.List.Folds.{list_any-append}
use Rattle.clap.specs.Walk.{Text, Row, Walk, walk_from, walked, settled, has_row}
use Rattle.clap.specs.Kinds.{Kinds, or_else}
use Rattle.clap.specs.Faults.{turn_fault, walk_fault, settle_fault, use_fault}
use Rattle.clap.specs.declared.error.kind.ErrorKind.{ErrorKind}
use Rattle.sc_arguments.specs.Options.{Setting, settings}
use Rattle.sc_arguments.specs.Laws.{IsOption, times}
use Rattle.sc_arguments.proofs.OrderLemmas.{as_number, times_step}
use Rattle.sc_arguments.proofs.RuleLemmas.{built_rule, rules_of, shape_with, same_text, known_long, unknown_long}
use Rattle.clap.specs.declared.error.kind.ErrorKind.TheVariants as kind
use Rattle.std.proofs.lemmas.Slice.Eq.{bytes_eq-Decides}
use Rattle.sc_arguments.specs.Found.{option_name}
use Rattle.sc_arguments.proofs.WordLemmas.{stop, WordKind, joined_word, alone_word, other_word, kind_of_word}
use Rattle.sc_arguments.proofs.TurnLemmas.{held, row_of_setting, value_turn, open_turn, unknown_turn, other_turn}

-- the walk after the words
abbrev pub ending : List Text → Walk → List Text → Walk
ending names w words = fold (walked (rules_of names) []) w words

-- the kinds of the first step that fails, up to the end of the words
abbrev pub fault_from : List Text → Walk → List Text → Kinds
fault_from names w words = or_else (walk_fault (shape_with (rules_of names)) [] w words) (settle_fault (rules_of names) false (ending names w words).held)

-- what is found in the end
abbrev pub rows_from : List Text → Walk → List Text → List Row
rows_from names w words = (settled (rules_of names) (ending names w words).held).rows

-- an option by its full name
abbrev pub named : Setting → Setting
named setting = (option_name setting.0, setting.1)

-- each is an option with a number, and none is given twice or found already
pub record Follows (names : List Text) (rows : List Row) (given : List Setting) : Type 0 where
  pub good : All (IsOption (map option_name names)) given
  pub once : (name : Text) → as_number (has_row name rows) + times (option_name name) given ≤ 1

-- the walk finds what the words give
pub record Taken (names : List Text) (w : Walk) (rows : List Row) (words : List Text) : Type 0 where
  pub more : List Setting
  pub fault : fault_from names w words ≡ []
  pub left : rows_from names w words ≡ rows ++ map row_of_setting more
  pub given : settings words ≡ map named more
  pub known : All (λ (s : Setting). list_any (bytes_eq s.0) names ≡ true) more
  pub once : (name : Text) → as_number (has_row name rows) + times name more ≤ 1

-- the walk fails, and the words aren't options
pub record Refused (names : List Text) (w : Walk) (rows : List Row) (words : List Text) : Type 0 where
  pub fault : fault_from names w words ≡ [] → ⊥
  pub given : Follows names rows (settings words) → ⊥

abbrev pub Verdict : List Text → Walk → List Row → List Text → Type 0
Verdict names w rows words = Refused names w rows words ⊎ Taken names w rows words

-- ---- steps of the walk

or_else_assoc : (a b c : Kinds) → or_else (or_else a b) c ≡ or_else a (or_else b c)
or_else_assoc [] b c = refl
or_else_assoc (k ∷ a) b c = refl

none_of_some : (k : ErrorKind) (kinds : Kinds) → k ∷ kinds ≡ [] → ⊥
none_of_some k kinds e = absurd (cc)

fault_step : (names : List Text) (w : Walk) (word : Text) (words : List Text)
    → fault_from names w (word ∷ words) ≡ or_else (turn_fault (shape_with (rules_of names)) [] w word) (fault_from names (walked (rules_of names) [] w word) words)
unfolding walk_fault
fault_step names w word words = or_else_assoc (turn_fault (shape_with (rules_of names)) [] w word) (walk_fault (shape_with (rules_of names)) [] (walked (rules_of names) [] w word) words)
    (settle_fault (rules_of names) false (ending names w (word ∷ words)).held)

-- a walk whose next turn fails does
pub fails : (names : List Text) (w : Walk) (word : Text) (words : List Text) (k : ErrorKind) → turn_fault (shape_with (rules_of names)) [] w word ≡ k ∷ [] → fault_from names w (word ∷ words) ≡ [] → ⊥
fails names w word words k e h = none_of_some k [] (sym (ap (λ (kinds : Kinds). or_else kinds (fault_from names (walked (rules_of names) [] w word) words)) e) ∙ (sym (fault_step names w word words) ∙ h))

-- a walk whose next turn passes goes on
pub goes_on : (names : List Text) (w next : Walk) (word : Text) (words : List Text) → turn_fault (shape_with (rules_of names)) [] w word ≡ [] → walked (rules_of names) [] w word ≡ next
    → (fault_from names w (word ∷ words) ≡ fault_from names next words) × (rows_from names w (word ∷ words) ≡ rows_from names next words)
goes_on names w next word words e step = (
  fault_step names w word words ∙ ap₂ (λ (kinds : Kinds) (after : Walk). or_else kinds (fault_from names after words)) e step,
  ap (λ (after : Walk). rows_from names after words) step,
)

-- what is held fails in the end
pub fails_last : (names : List Text) (w : Walk) (k : ErrorKind) → settle_fault (rules_of names) false w.held ≡ k ∷ [] → fault_from names w [] ≡ [] → ⊥
unfolding walk_fault
fails_last names w k e h = none_of_some k [] (sym e ∙ h)

pub either : (a b : Bool) → (a || b) ≡ false → (a ≡ false) × (b ≡ false)
either true b h = absurd (cc)
either false b h = (refl, h)

-- what is held fails at any word, or in the end
pub held_fails : (names : List Text) (words : List Text) (rows : List Row) (pending : Option (Text × List Text)) (k : ErrorKind) → list_any (λ word. bytes_eq word stop) words ≡ false
    → settle_fault (rules_of names) false (held rows pending) ≡ k ∷ [] → fault_from names (walk_from (held rows pending)) words ≡ [] → ⊥
held_fails names [] rows pending k s e = fails_last names (walk_from (held rows pending)) k e
held_fails names (word ∷ words) rows pending k s e = by (kind_of_word word here) where
  here : bytes_eq word stop ≡ false
  here = (either (bytes_eq word stop) (list_any (λ word. bytes_eq word stop) words) s).0

  by : WordKind word → fault_from names (walk_from (held rows pending)) (word ∷ words) ≡ [] → ⊥
  by (joined_word name value long is sign) = known (list_any (bytes_eq name) names) refl where
    known : (t : Bool) → list_any (bytes_eq name) names ≡ t → fault_from names (walk_from (held rows pending)) (word ∷ words) ≡ [] → ⊥
    known true f = fails names (walk_from (held rows pending)) word words k
        (value_turn names (held rows pending) word name value here long (known_long names name f) ∙ ap (λ (kinds : Kinds). or_else kinds (use_fault false (built_rule name) (value ∷ []) (settled (rules_of names) (held rows pending)).rows)) e)
    known false f = fails names (walk_from (held rows pending)) word words kind.UnknownArgument (unknown_turn names (held rows pending) word name (Some value) here long (unknown_long names name f))
  by (alone_word name long is none) = known (list_any (bytes_eq name) names) refl where
    known : (t : Bool) → list_any (bytes_eq name) names ≡ t → fault_from names (walk_from (held rows pending)) (word ∷ words) ≡ [] → ⊥
    known true f = fails names (walk_from (held rows pending)) word words k (open_turn names (held rows pending) word name here long (known_long names name f) ∙ e)
    known false f = fails names (walk_from (held rows pending)) word words kind.UnknownArgument (unknown_turn names (held rows pending) word name None here long (unknown_long names name f))
  by (other_word long _) = fails names (walk_from (held rows pending)) word words kind.UnknownArgument (other_turn names rows pending word here long)

-- ---- one option more

fresh_row : (rows : List Row) (name value other : Text) → has_row name rows ≡ false
    → as_number (has_row other (rows ++ row_of_setting (name, value) ∷ [])) ≡ as_number (bytes_eq name other) + as_number (has_row other rows)
fresh_row rows name value other free = ap as_number (list_any-append (λ (row : Row). bytes_eq row.id other) rows (row_of_setting (name, value) ∷ [])) ∙ by (has_row other rows) (bytes_eq name other) refl refl where
  by : (t u : Bool) → has_row other rows ≡ t → bytes_eq name other ≡ u → as_number (t || (u || false)) ≡ as_number u + as_number t
  by true true e f = absurd (true≢false (sym e ∙ (ap (λ (n : Text). has_row n rows) (sym (same_text name other f)) ∙ free)))
  by true false e f = refl
  by false true e f = refl
  by false false e f = refl

follows_on : (names : List Text) (rows : List Row) (name value : Text) (given more : List Setting) → has_row name rows ≡ false → given ≡ (option_name name, value) ∷ more
    → Follows names rows given → Follows names (rows ++ row_of_setting (name, value) ∷ []) more
follows_on names rows name value given more free is h = record {
  good = All-tail (IsOption (map option_name names)) (option_name name, value) more (subst (All (IsOption (map option_name names))) is h.good);
  once = λ other.
      let few = h.once other in
      let same = ap (times (option_name other)) is in
      let step = times_step (option_name other) (option_name name, value) more in
      let fresh = fresh_row rows name value other free in
      omega (arith, few, same, step, fresh);
}

pub one_more : (names : List Text) (w next : Walk) (rows : List Row) (words rest : List Text) (name value : Text) → has_row name rows ≡ false → list_any (bytes_eq name) names ≡ true
    → settings words ≡ (option_name name, value) ∷ settings rest → (fault_from names w words ≡ fault_from names next rest) × (rows_from names w words ≡ rows_from names next rest)
    → Verdict names next (rows ++ row_of_setting (name, value) ∷ []) rest → Verdict names w rows words
one_more names w next rows words rest name value free known is same (inl bad) = inl (record {
  fault = λ e. bad.fault (sym same.0 ∙ e);
  given = λ h. bad.given (follows_on names rows name value (settings words) (settings rest) free is h);
})
one_more names w next rows words rest name value free known is same (inr good) = inr (record {
  more = (name, value) ∷ good.more;
  fault = same.0 ∙ good.fault;
  left = same.1 ∙ (good.left ∙ append_assoc rows (row_of_setting (name, value) ∷ []) (map row_of_setting good.more));
  given = is ∙ ap (λ (given : List Setting). (option_name name, value) ∷ given) good.given;
  known = All-cons (λ (s : Setting). list_any (bytes_eq s.0) names ≡ true) (name, value) good.more known good.known;
  once = λ other.
      let few = good.once other in
      let step = times_step other (name, value) good.more in
      let fresh = fresh_row rows name value other free in
      omega (arith, few, step, fresh);
})

-- ---- words that are no options

pub bad_head : (names : List Text) (rows : List Row) (given more : List Setting) (name value : Text) → given ≡ (name, value) ∷ more
    → (IsOption (map option_name names) (name, value) → ⊥) → Follows names rows given → ⊥
bad_head names rows given more name value is bad h = bad (All-head (IsOption (map option_name names)) (name, value) more (subst (All (IsOption (map option_name names))) is h.good))

pub given_again : (names : List Text) (rows : List Row) (given more : List Setting) (name value : Text) → given ≡ (option_name name, value) ∷ more → has_row name rows ≡ true → Follows names rows given → ⊥
given_again names rows given more name value is there h =
    let few = h.once name in
    let same = ap (times (option_name name)) is in
    let step = times_step (option_name name) (option_name name, value) more in
    let one : as_number (bytes_eq name name) ≡ 1 = ap as_number ((bytes_eq-Decides name name).1 refl) in
    let row = ap as_number there in
    absurd (omega (arith, few, same, step, one, row))
