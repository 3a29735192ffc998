-- What becomes of a field by one change after another.
use Rattle.std.proofs.Common.{◌≡◌, ℕ, ℤ, ◌+ℤ◌, Bool, false, List, [], ◌∷◌, Option, Some, None, refl, sym, ap, subst, ◌∙◌, inl, inr, arith}
use Rattle.std.specs.Bool.{if◌then◌else◌}
use Rattle.std.specs.Option.{unwrap_or}
use Rattle.std.specs.Str.{bytes_eq}
use Rattle.std.proofs.lemmas.Bool.{cases_Bool}
use Rattle.std.proofs.lemmas.Int.{ints}
use Rattle.sc_values.specs.Fields.{kind_of, values_of}
use Rattle.sc_values.specs.declared.value.Kind.{Kind}
use Rattle.sc_values.specs.declared.value.Kind.TheVariants as kinds
use Rattle.sc_values.specs.declared.value.Value.{Value}
use Rattle.sc_values.specs.declared.field.Field.{Field}
use Rattle.sc_record.specs.declared.order.How.{How}
use Rattle.sc_record.specs.declared.order.How.TheVariants as hows
use Rattle.sc_partial.specs.Changed.{with_distinct, number_in, number_value, changed, is_in_kind_range}
use Rattle.sc_partial.specs.Resolved.{standing, resolved, some_values, IsChanged}
use Rattle.sc_partial.specs.Laws.{one_change, AreOne, KeepsLastSet, AddsDistinctOnce, RemovesWhatIsAdded, SumsIncrements, SumsWithinRange}
use Rattle.sc_partial.proofs.DistinctLemmas.{all_among_themselves, all_among_with_distinct, with_distinct-none, without-with_distinct}
use Rattle.sc_partial.proofs.NameLemmas.{same_itself, one_name}

-- the values that stand in a document are those that are resolved
standing-changed : (found : Option (List Value)) (list : List Value) → found ≡ some_values list → unwrap_or found [] ≡ list
standing-changed found [] is = rw is refl
standing-changed found (value ∷ list) is = rw is refl

-- of a change of one field: the field has the changed values, and the others stay
pub resolved-here : (old : List Field) (name : List ℕ) (how : How) → resolved old (one_change name how) name ≡ changed name (standing old name) how
resolved-here old name how = rw same_itself refl

resolved-other : (old : List Field) (name other : List ℕ) (how : How) → bytes_eq name other ≡ false → resolved old (one_change name how) other ≡ standing old other
resolved-other old name other how differs = rw differs refl

pub standing_then : (old : List Field) (name : List ℕ) (how : How) (between : List Field) → IsChanged old (one_change name how) between
    → standing between name ≡ changed name (standing old name) how
standing_then old name how between made =
    standing-changed (values_of between name) (resolved old (one_change name how) name) (made.values name) ∙ resolved-here old name how

-- changes that make the same of the values of every field make the same document
in_turn : (first second both : How) → ((name : List ℕ) (old : List Value) → changed name (changed name old first) second ≡ changed name old both) → AreOne first second both
in_turn first second both same name old between new made next = record {
  document = next.document;
  values = λ other. next.values other ∙ ap some_values (elim (cases_Bool (bytes_eq name other)) [
    | inl is ↦ subst (λ (n : List ℕ). resolved between (one_change name second) n ≡ resolved old (one_change name both) n) (one_name name other is)
        (resolved-here between name second ∙ ap (λ (v : List Value). changed name v second) (standing_then old name first between made)
        ∙ same name (standing old name) ∙ sym (resolved-here old name both))
    | inr differs ↦ resolved-other between name other second differs
        ∙ standing-changed (values_of between other) (resolved old (one_change name first) other) (made.values other)
        ∙ resolved-other old name other first differs ∙ sym (resolved-other old name other both differs)
  ]);
}

-- the number of a value that a number is
number_in-value : (kind : Option (Kind × Bool)) (n : ℤ) → number_in (number_value kind n ∷ []) ≡ n
number_in-value None n = refl
number_in-value (Some (kinds.Str, many)) n = refl
number_in-value (Some (kinds.Int, many)) n = refl
number_in-value (Some (kinds.Long, many)) n = refl
number_in-value (Some (kinds.Flag, many)) n = refl
number_in-value (Some (kinds.Words, many)) n = refl

sum_in_turn : (n amount other : ℤ) → (n +ℤ amount) +ℤ other ≡ n +ℤ (amount +ℤ other)
sum_in_turn n amount other = omega (arith, ints)

pub keeps_last_set : KeepsLastSet
keeps_last_set first last = in_turn (hows.Set first) (hows.Set last) (hows.Set last) (λ name old. refl)

pub adds_distinct_once : AddsDistinctOnce
adds_distinct_once values =
    in_turn (hows.AddDistinct values) (hows.AddDistinct values) (hows.AddDistinct values)
    (λ name old. with_distinct-none (with_distinct old values) values (all_among_with_distinct old values))

pub removes_what_is_added : RemovesWhatIsAdded
removes_what_is_added values =
    in_turn (hows.AddDistinct values) (hows.Remove values) (hows.Remove values)
    (λ name old. without-with_distinct old values values (all_among_themselves values))

pub sums_increments : SumsIncrements
sums_increments amount other =
    in_turn (hows.Inc amount) (hows.Inc other) (hows.Inc (amount +ℤ other))
    (λ name old. ap (λ (n : ℤ). number_value (kind_of name) (n +ℤ other) ∷ []) (number_in-value (kind_of name) (number_in old +ℤ amount))
    ∙ ap (λ (n : ℤ). number_value (kind_of name) n ∷ []) (sum_in_turn (number_in old) amount other))

-- what is refused of one increment, by the number that stands
refused_by : List ℕ → ℤ → Option (List ℕ)
refused_by name n = if is_in_kind_range (kind_of name) n then None else Some name

pub sums_within_range : SumsWithinRange
unfolding refused_by
sums_within_range amount other name old between made =
    let number : number_in (standing between name) ≡ number_in (standing old name) +ℤ amount =
    ap number_in (standing_then old name (hows.Inc amount) between made) ∙ number_in-value (kind_of name) (number_in (standing old name) +ℤ amount) in
    sym (ap (λ (n : ℤ). refused_by name (n +ℤ other)) number ∙ ap (refused_by name) (sum_in_turn (number_in (standing old name)) amount other))
