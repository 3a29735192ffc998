-- What a builder of terms has so far.
use Rattle.std.specs.Prelude.{◌≡◌, ℕ, Bool, true, List, [], ◌∷◌, ◌++◌, codes, Some}
use Rattle.sc_values.specs.declared.field.Field.{Field}
use Rattle.sc_spelling.specs.Reading.{rest_of}
use Rattle.sc_record.specs.TermRuns.{run_at, terms_of_run, term_in}
use Rattle.sc_record.specs.declared.term.Term.{Term}
use Rattle.sc_record.specs.declared.term_run.TermRun.{TermRun}

-- the id and the document whose terms they are, the field of the next key, and the terms so far
pub record TermsState : Type 0 where
  pub id : List ℕ
  pub fields : List Field
  pub field : List ℕ
  pub terms : List Term

-- no terms yet
abbrev pub no_terms : List ℕ → List Field → TermsState
no_terms id fields = record { id = id; fields = fields; field = []; terms = [] }

-- the next keys are of this field
abbrev pub begun : List ℕ → TermsState → TermsState
begun field state = record { id = state.id; fields = state.fields; field = field; terms = state.terms }

-- one more term
abbrev pub with_term : Term → TermsState → TermsState
with_term term state = record { id = state.id; fields = state.fields; field = state.field; terms = state.terms ++ term ∷ [] }

-- the term of the id
abbrev pub with_id : TermsState → TermsState
with_id state = with_term (term_in (codes "id") state.id) state

-- one more key of the field
abbrev pub with_key : List ℕ → TermsState → TermsState
with_key key state = with_term (term_in state.field key) state

-- the field of the last term, or this one where there is none
abbrev pub last_field : List ℕ → List Term → List ℕ
last_field name [] = name
last_field name (t ∷ ts) = last_field t.field ts

-- the run is read beside the id and the document to its end; where the field has begun, the last of its terms is of it
pub record AreTermsOf (id : List ℕ) (fields : List Field) (field : List ℕ) (has_begun : Bool) (run : TermRun) : Type 0 where
  pub whole : rest_of (run_at id fields run) ≡ Some []
  pub begun : has_begun ≡ true → last_field [] (terms_of_run id fields run) ≡ field
