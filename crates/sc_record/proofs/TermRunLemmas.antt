-- Terms one after another: as an iterator lends them, and as one more is put at the end.
use Rattle.std.proofs.Common.{◌≡◌, ℕ, zero, suc, ◌-◌, ◌<◌, Bool, true, false, cond, codes, List, [], ◌∷◌, ◌++◌, Option, Some, None, refl, sym, ap, subst, ◌∙◌, arith}
use Rattle.std.specs.Prelude.{is_some}
use Rattle.sc_values.specs.declared.field.Field.{Field}
use Rattle.sc_spelling.specs.Reading.{◌>>=◌, read_of, rest_of}
use Rattle.sc_spelling.specs.Spellings.{spelling}
use Rattle.sc_spelling.proofs.NumberLemmas.{bind_some, some_is}
use Rattle.sc_spelling.proofs.LoopLemmas.{one_more, read_of-more}
use Rattle.sc_spelling.proofs.KnownLemmas.{part_known}
use Rattle.sc_record.specs.TermRuns.{Source, field_term_at, term_at, term_in, terms_at, name_after, run_at, terms_of_run, AddsTerm}
use Rattle.sc_record.specs.TermsStates.{last_field, AreTermsOf}
use Rattle.sc_record.specs.declared.term.Term.{Term}
use Rattle.sc_record.specs.declared.term_run.TermRun.{TermRun}
use Rattle.sc_record.proofs.DocumentLemmas.{read_whole}
use Rattle.sc_record.proofs.TermReadLemmas.{term_followed, term_of_field}

terms_open : (name : List ℕ) (source : Source) (n : ℕ) (bytes : List ℕ) (x : Term × List ℕ) → term_at name source bytes ≡ Some x
    → terms_at name source (suc n) bytes ≡ one_more x.0 (terms_at x.0.field source n x.1)
unfolding terms_at
terms_open name source n bytes x h = rw h refl

terms_shut : (name : List ℕ) (source : Source) (n : ℕ) (bytes : List ℕ) → term_at name source bytes ≡ None → terms_at name source (suc n) bytes ≡ None
unfolding terms_at
terms_shut name source n bytes h = rw h refl

pub terms_over : (name : List ℕ) (source : Source) (bytes : List ℕ) → read_of (terms_at name source 0 bytes) ≡ []
unfolding terms_at
terms_over name source bytes = refl

pub terms_next : (name : List ℕ) (source : Source) (n : ℕ) (bytes : List ℕ) (x : Term × List ℕ) → 0 < n → term_at name source bytes ≡ Some x
    → is_some (terms_at name source n bytes) ≡ true
    → (read_of (terms_at name source n bytes) ≡ x.0 ∷ read_of (terms_at x.0.field source (n - 1) x.1)) × (is_some (terms_at x.0.field source (n - 1) x.1) ≡ true)
terms_next name source zero bytes x some h is = absurd (omega arith)
terms_next name source (suc n) bytes x some h is =
    let k : n ≡ suc n - 1 = omega arith in
    let opened = terms_open name source n bytes x h in
    let both = read_of-more x.0 (terms_at x.0.field source n x.1) (subst (λ (o : Option (List Term × List ℕ)). is_some o ≡ true) opened is) in (
      ap read_of opened ∙ both.0 ∙ ap (λ (j : ℕ). x.0 ∷ read_of (terms_at x.0.field source j x.1)) k,
      subst (λ (j : ℕ). is_some (terms_at x.0.field source j x.1) ≡ true) k both.1,
    )

pub terms_end : (name : List ℕ) (source : Source) (n : ℕ) (bytes : List ℕ) → 0 < n → term_at name source bytes ≡ None
    → is_some (terms_at name source n bytes) ≡ true → ⊥
terms_end name source zero bytes some h is = omega arith
terms_end name source (suc n) bytes some h is =
    let shut = terms_shut name source n bytes h in
    absurd (cc (subst (λ (o : Option (List Term × List ℕ)). is_some o ≡ true) shut is))

-- of terms that are known to be there the first is
pub terms_known : (name : List ℕ) (source : Source) (n : ℕ) (bytes : List ℕ) → 0 < n → is_some (terms_at name source n bytes) ≡ true
    → is_some (term_at name source bytes) ≡ true
unfolding terms_at
terms_known name source zero bytes some is = absurd (omega arith)
terms_known name source (suc n) bytes some is =
    part_known (term_at name source bytes) (λ first. terms_at first.0.field source n first.1 >>= λ others. Some (first.0 ∷ others.0, others.1)) is

-- ---- one more

-- terms that are read to their end, and one more after them
more_terms : (name : List ℕ) (source : Source) (n : ℕ) (bytes more : List ℕ) (ts : List Term) (t : Term) → terms_at name source n bytes ≡ Some (ts, [])
    → term_at (last_field name ts) source more ≡ Some (t, []) → terms_at name source (suc n) (bytes ++ more) ≡ Some (ts ++ t ∷ [], [])
unfolding terms_at
more_terms name source zero bytes more ts t e h =
    let same = some_is ([], bytes) (ts, []) e in
    let none : [] ≡ ts = ap (λ (p : List Term × List ℕ). p.0) same in
    let over : bytes ≡ [] = ap (λ (p : List Term × List ℕ). p.1) same in
    let read : term_at name source more ≡ Some (t, []) = subst (λ (us : List Term). term_at (last_field name us) source more ≡ Some (t, [])) (sym none) h in
    rw (over, ← none, read) refl
more_terms name source (suc n) bytes more ts t e h =
    let a = bind_some (term_at name source bytes) (λ first. terms_at first.0.field source n first.1 >>= λ others. Some (first.0 ∷ others.0, others.1)) (ts, []) e in
    let b = bind_some (terms_at a.0.0.field source n a.0.1) (λ others. Some (a.0.0 ∷ others.0, others.1)) (ts, []) a.2 in
    let same = some_is (a.0.0 ∷ b.0.0, b.0.1) (ts, []) b.2 in
    let parts : a.0.0 ∷ b.0.0 ≡ ts = ap (λ (p : List Term × List ℕ). p.0) same in
    let over : b.0.1 ≡ [] = ap (λ (p : List Term × List ℕ). p.1) same in
    let others : terms_at a.0.0.field source n a.0.1 ≡ Some (b.0.0, []) = subst (λ (r : List ℕ). terms_at a.0.0.field source n a.0.1 ≡ Some (b.0.0, r)) over b.1 in
    let read : term_at (last_field a.0.0.field b.0.0) source more ≡ Some (t, []) = subst (λ (us : List Term). term_at (last_field name us) source more ≡ Some (t, [])) (sym parts) h in
    let rest = more_terms a.0.0.field source n a.0.1 more b.0.0 t others read in
    terms_open name source (suc n) (bytes ++ more) (a.0.0, a.0.1 ++ more) (term_followed name source bytes more a.0 a.1)
    ∙ ap (one_more a.0.0) rest
    ∙ ap (λ (us : List Term). Some (us ++ t ∷ [], [])) parts

-- the field of the term after others
last_of-push : (name : List ℕ) (ts : List Term) (t : Term) → last_field name (ts ++ t ∷ []) ≡ t.field
last_of-push name [] t = refl
last_of-push name (u ∷ us) t = last_of-push u.field us t

-- a run with one term more
pub record HasMore (id : List ℕ) (fields : List Field) (run : TermRun) (term : Term) (new : TermRun) : Type 0 where
  pub terms : terms_of_run id fields new ≡ terms_of_run id fields run ++ term ∷ []
  pub whole : rest_of (run_at id fields new) ≡ Some []
  pub last : last_field [] (terms_of_run id fields new) ≡ term.field

has_more : (id : List ℕ) (fields : List Field) (run : TermRun) (more : List ℕ) (term : Term) (new : TermRun) → rest_of (run_at id fields run) ≡ Some []
    → term_at (last_field [] (terms_of_run id fields run)) (record { id = id; doc = spelling fields }) more ≡ Some (term, [])
    → new.count ≡ suc run.count → new.bytes.items ≡ run.bytes.items ++ more → HasMore id fields run term new
has_more id fields run more term new whole read count bytes =
    let source : Source = record { id = id; doc = spelling fields } in
    let ts : List Term = terms_of_run id fields run in
    let is : run_at id fields new ≡ Some (ts ++ term ∷ [], []) =
    ap (λ (n : ℕ). terms_at [] source n new.bytes.items) count ∙ ap (terms_at [] source (suc run.count)) bytes
    ∙ more_terms [] source run.count run.bytes.items more ts term (read_whole (run_at id fields run) [] whole) read in
    record { terms = ap read_of is; whole = ap rest_of is; last = ap (λ (o : Option (List Term × List ℕ)). last_field [] (read_of o)) is ∙ last_of-push [] ts term }

-- ---- what a builder has

-- the term of the id
id_read : (before : List ℕ) (source : Source) → term_at before source (255 ∷ []) ≡ Some (term_in (codes "id") source.id, [])
unfolding term_at
id_read before source = refl

-- a run without terms
pub none_read : (id : List ℕ) (fields : List Field) (run : TermRun) → run.count ≡ 0 → run.bytes.items ≡ [] → run_at id fields run ≡ Some ([], [])
unfolding terms_at
none_read id fields run count bytes = rw (count, bytes) refl

-- a run, and the term of the id after it
pub with_id_read : (id : List ℕ) (fields : List Field) (field : List ℕ) (has_begun : Bool) (run new : TermRun) → AreTermsOf id fields field has_begun run
    → new.count ≡ suc run.count → new.bytes.items ≡ run.bytes.items ++ 255 ∷ [] → HasMore id fields run (term_in (codes "id") id) new
with_id_read id fields field has_begun run new are count bytes =
    has_more id fields run (255 ∷ []) (term_in (codes "id") id) new are.whole
    (id_read (last_field [] (terms_of_run id fields run)) (record { id = id; doc = spelling fields })) count bytes

-- a run, and a key of the field after it
pub with_key_read : (id : List ℕ) (fields : List Field) (field : List ℕ) (has_begun : Bool) (name : Option (List ℕ)) (key : List ℕ) (run new : TermRun)
    → AreTermsOf id fields field has_begun run → name ≡ cond has_begun None (Some field) → AddsTerm (spelling fields) name key run.bytes.items new.bytes.items
    → new.count ≡ suc run.count → HasMore id fields run (term_in field key) new
with_key_read id fields field has_begun name key run new are is added count =
    let source : Source = record { id = id; doc = spelling fields } in
    let before : List ℕ = last_field [] (terms_of_run id fields run) in
    let own : name_after before name ≡ field = ap (name_after before) is ∙ by has_begun are.begun in
    let read : field_term_at before source.doc added.more ≡ Some (term_in field key, []) =
    added.reads before ∙ ap (λ (f : List ℕ). Some (term_in f key, [])) own in
    has_more id fields run added.more (term_in field key) new are.whole (term_of_field before source added.more (term_in field key, []) read) count added.whole
  where
    by : (b : Bool) → (b ≡ true → last_field [] (terms_of_run id fields run) ≡ field) → name_after (last_field [] (terms_of_run id fields run)) (cond b None (Some field)) ≡ field
    by true begun = begun refl
    by false begun = refl

-- no terms are read
pub none_some : (name : List ℕ) (source : Source) (bytes : List ℕ) → is_some (terms_at name source 0 bytes) ≡ true
unfolding terms_at
none_some name source bytes = refl
