-- What a builder of terms has after more was found, and that what it has at the end are the terms of the document.
use Rattle.std.proofs.Common.{◌≡◌, ◌∙◌, ℕ, ◌+◌, ◌<◌, get_or, Bool, true, false, List, [], ◌∷◌, ◌++◌, length, map, take, drop, Option, Some, None, refl, sym, ap, ap₂, subst, append_assoc, append-nil, arith, suc}
use mathlib.Core.Bool.{false≢true}
use Rattle.std.specs.List.{AllByRecursion, slice_get}
use Rattle.std.specs.Option.{IfSome}
use Rattle.std.specs.Fmt.{signed_decimal}
use Rattle.std.specs.Ordering.{is_lt}
use Rattle.std.specs.Prelude.{codes, is_some, flat_map}
use Rattle.std.specs.declared.cmp.Ordering.{Ordering}
use Rattle.std.specs.declared.cmp.Ordering.TheVariants.{Less, Equal, Greater}
use Rattle.std.proofs.lemmas.List.{take_at, drop_at, map-append, map_more}
use Rattle.sc_values.specs.Fields.{IsDocument, kind_of}
use Rattle.sc_values.specs.declared.value.Value.{Value}
use Rattle.sc_values.specs.declared.value.Value.TheVariants as values
use Rattle.sc_values.specs.declared.field.Field.{Field}
use Rattle.sc_record.specs.declared.term.Term.{Term}
use Rattle.sc_record.specs.TermsStates.{TermsState, no_terms, begun, with_id, with_key}
use Rattle.sc_record.specs.TermRuns.{terms_of_run}
use Rattle.sc_record.specs.declared.term_run.TermRun.{TermRun}
use Rattle.sc_schema.specs.Values.{flag_text}
use Rattle.sc_schema.specs.Terms.{term, AreTerms, by_words, keys_of}
use Rattle.sc_schema.specs.Keys.{Found, found_in_field, found_so_far, fields_from_id, AreKeys, AreTermsInOrder, Builds, BuildsSoFar, with_keys, IsBelowId, IsPlaceOfId, PutsKeys}
use Rattle.sc_schema.proofs.KeyLemmas.{Adds-more, Adds-none, Adds-one, AreKeys-one}
use Rattle.sc_schema.proofs.PlaceLemmas.{terms-with_id}

pub Builds-more : (found more : List Found) (old mid new : TermsState) → Builds found old mid → Builds more mid new → Builds (found ++ more) old new
Builds-more found more old mid new first then = record {
  id = then.id ∙ first.id;
  fields = then.fields ∙ first.fields;
  added = Adds-more found more old.terms mid.terms new.terms first.added then.added;
}

pub Builds-none : (old : TermsState) → Builds [] old old
Builds-none old = record { id = refl; fields = refl; added = Adds-none old.terms }

-- the keys of one field
pub Builds-one : (found : Found) (keys : List (List ℕ)) (old mid new : TermsState) → mid ≡ begun found.0 old → new ≡ with_keys keys mid → AreKeys found.1 keys
    → Builds (found ∷ []) old new
Builds-one found keys old mid new first then are = record {
  id = ap (λ (s : TermsState). s.id) then ∙ ap (λ (s : TermsState). s.id) first;
  fields = ap (λ (s : TermsState). s.fields) then ∙ ap (λ (s : TermsState). s.fields) first;
  added =
      Adds-one found keys old.terms new.terms are
      (ap (λ (s : TermsState). s.terms) then ∙ ap (λ (s : TermsState). s.terms ++ map (term s.field) keys) first);
}

-- the keys that were put are those of one field
pub Builds-put : (name : List ℕ) (split : Bool) (values : List Value) (old mid new : TermsState) → split ≡ by_words (kind_of name) → split ≡ true
    → mid ≡ begun name old → PutsKeys (flat_map (keys_of true) values) mid new → Builds ((name, flat_map (keys_of (by_words (kind_of name))) values) ∷ []) old new
Builds-put name split values old mid new by on first put =
    let same : flat_map (keys_of true) values ≡ flat_map (keys_of (by_words (kind_of name))) values = ap (λ b. flat_map (keys_of b) values) (sym on ∙ by) in
    Builds-one (name, flat_map (keys_of (by_words (kind_of name))) values) put.keys old mid new first put.put
    (subst (λ (found : List (List ℕ)). AreKeys found put.keys) same put.are)

-- the term of the id
pub Builds-id : (old new : TermsState) → new ≡ with_id old → Builds ((codes "id", old.id ∷ []) ∷ []) old new
Builds-id old new is = record {
  id = ap (λ (s : TermsState). s.id) is;
  fields = ap (λ (s : TermsState). s.fields) is;
  added = Adds-one (codes "id", old.id ∷ []) (old.id ∷ []) old.terms new.terms (AreKeys-one old.id) (ap (λ (s : TermsState). s.terms) is);
}

-- one key more
pub with_keys-more : (keys : List (List ℕ)) (i : ℕ) (key : List ℕ) (old mid new : TermsState) → i < length keys → key ≡ get_or keys i key
    → mid ≡ with_keys (take i keys) old → new ≡ with_key key mid → new ≡ with_keys (take (i + 1) keys) old
with_keys-more keys i key old mid new within here so_far pushed =
    let own : List ℕ → Term = term old.field in
    let made : List Term → TermsState = λ ts. record { id = old.id; fields = old.fields; field = old.field; terms = ts } in
    let more : map own (take (i + 1) keys) ≡ map own (take i keys) ++ own key ∷ [] =
    map_more own keys i key within ∙ ap (λ (k : List ℕ). map own (take i keys) ++ own k ∷ []) (sym here) in
    pushed ∙ ap (with_key key) so_far
    ∙ ap made (append_assoc old.terms (map own (take i keys)) (own key ∷ []) ∙ ap (λ (ts : List Term). old.terms ++ ts) (sym more))

-- ---- one value alone

none_left : (rest : List Value) → suc (length rest) ≡ 1 → rest ≡ []
none_left [] one = refl
none_left (v ∷ rest) one = absurd (omega (arith, one))

-- the keys of the only value are those of all
pub only_value : (split : Bool) (values rest : List Value) (value : Value) → length values ≡ 1 → values ≡ value ∷ rest
    → flat_map (keys_of split) values ≡ keys_of split value
only_value split values rest value one is =
    ap (flat_map (keys_of split)) (is ∙ ap (λ vs. value ∷ vs) (none_left rest (sym (ap length is) ∙ one))) ∙ append-nil (keys_of split value)

-- one key is put as all that there are
pub with_only : (keys : List (List ℕ)) (key : List ℕ) (old new : TermsState) → keys ≡ key ∷ [] → new ≡ with_key key old → new ≡ with_keys keys old
with_only keys key old new is put = put ∙ ap (λ ks. with_keys ks old) (sym is)

-- the keys of the only value of a field, which is found whole, are those that are found in the field
pub AreKeys-whole : (name : List ℕ) (values : List Value) (split : Bool) → split ≡ by_words (kind_of name) → split ≡ false → length values ≡ 1
    → AreKeys (flat_map (keys_of (by_words (kind_of name))) values) (flat_map (keys_of false) values)
AreKeys-whole name [] split by off one = cc
AreKeys-whole name (value ∷ more) split by off one =
    let (key, is) = only_key value in
    let whole : flat_map (keys_of false) (value ∷ more) ≡ key ∷ [] = only_value false (value ∷ more) more value one refl ∙ is in
    let same : flat_map (keys_of (by_words (kind_of name))) (value ∷ more) ≡ key ∷ [] =
    ap (λ b. flat_map (keys_of b) (value ∷ more)) (sym by ∙ off) ∙ whole in
    subst (λ found. AreKeys found (flat_map (keys_of false) (value ∷ more))) (sym same) (subst (AreKeys (key ∷ [])) (sym whole) (AreKeys-one key))
  where
    only_key : (value : Value) → (key : List ℕ) × (keys_of false value ≡ key ∷ [])
    only_key (values.Text text) = (text, refl)
    only_key (values.Int n) = (signed_decimal n, refl)
    only_key (values.Long n) = (signed_decimal n, refl)
    only_key (values.Flag flag) = (flag_text flag, refl)

-- ---- field by field

pub is_below : (o : Ordering) → is_lt o ≡ true → o ≡ Less
is_below Less h = refl
is_below Equal h = cc
is_below Greater h = cc

pub is_not_below : (o : Ordering) → is_lt o ≡ false → o ≡ Less → ⊥
is_not_below o h e = false≢true (sym h ∙ ap is_lt e)

before-more : (before : List Field) (f : Field) (left : List Field) → before ++ (f ∷ left) ≡ (before ++ f ∷ []) ++ left
before-more before f left = sym (append_assoc before (f ∷ []) left)

all-more : (before : List Field) (f : Field) → AllByRecursion IsBelowId before → IsBelowId f → AllByRecursion IsBelowId (before ++ f ∷ [])
all-more [] f all h = (h, tt)
all-more (g ∷ before) f all h = (all.0, all-more before f all.1 h)

found-more : (before : List Field) (f : Field) → map found_in_field (before ++ f ∷ []) ≡ map found_in_field before ++ found_in_field f ∷ []
found-more before f = map-append found_in_field before (f ∷ [])

-- nothing yet
pub none_yet : (all : List Field) (old : TermsState) → BuildsSoFar all all false old old
none_yet all old = record { before = []; from_id = None; come = refl; whole = refl; below = tt; place = tt; builds = Builds-none old }

-- a field before the place of the id
pub before_id : (all left : List Field) (f : Field) (start old new : TermsState) → BuildsSoFar all (f ∷ left) false start old → IsBelowId f
    → Builds (found_in_field f ∷ []) old new → BuildsSoFar all left false start new
before_id all left f start old new so_far low own = by so_far.from_id so_far.come so_far.whole so_far.builds where
  by : (o : Option (List Field)) → false ≡ is_some o → all ≡ so_far.before ++ (fields_from_id o ++ (f ∷ left)) → Builds (found_so_far start.id so_far.before o) start old
      → BuildsSoFar all left false start new
  by (Some fields) come whole builds = absurd cc
  by None come whole builds = record {
    before = so_far.before ++ f ∷ [];
    from_id = None;
    come = refl;
    whole = whole ∙ before-more so_far.before f left;
    below = all-more so_far.before f so_far.below low;
    place = tt;
    builds = subst (λ (found : List Found). Builds found start new) (sym (found-more so_far.before f))
        (Builds-more (map found_in_field so_far.before) (found_in_field f ∷ []) start old new builds own);
  }

-- the first field from the place of the id on, with the id before it
pub at_id : (all left : List Field) (f : Field) (start old mid new : TermsState) → BuildsSoFar all (f ∷ left) false start old → (IsBelowId f → ⊥)
    → mid ≡ with_id old → Builds (found_in_field f ∷ []) mid new → BuildsSoFar all left true start new
at_id all left f start old mid new so_far high id_put own = by so_far.from_id so_far.come so_far.whole so_far.builds where
  by : (o : Option (List Field)) → false ≡ is_some o → all ≡ so_far.before ++ (fields_from_id o ++ (f ∷ left)) → Builds (found_so_far start.id so_far.before o) start old
      → BuildsSoFar all left true start new
  by (Some fields) come whole builds = absurd cc
  by None come whole builds = record {
    before = so_far.before;
    from_id = Some (f ∷ []);
    come = refl;
    whole = whole;
    below = so_far.below;
    place = high;
    builds = subst (λ (i : List ℕ). Builds (map found_in_field so_far.before ++ (codes "id", i ∷ []) ∷ found_in_field f ∷ []) start new) builds.id
        (Builds-more (map found_in_field so_far.before) ((codes "id", old.id ∷ []) ∷ found_in_field f ∷ []) start old new builds
        (Builds-more ((codes "id", old.id ∷ []) ∷ []) (found_in_field f ∷ []) old mid new (Builds-id old mid id_put) own));
  }

place-more : (fields : List Field) (f : Field) → IsPlaceOfId (Some fields) → IsPlaceOfId (Some (fields ++ f ∷ []))
place-more [] f place = absurd place
place-more (g ∷ fields) f place = place

-- a field after the place of the id
pub after_id : (all left : List Field) (f : Field) (start old new : TermsState) → BuildsSoFar all (f ∷ left) true start old
    → Builds (found_in_field f ∷ []) old new → BuildsSoFar all left true start new
after_id all left f start old new so_far own = by so_far.from_id so_far.come so_far.whole so_far.place so_far.builds where
  by : (o : Option (List Field)) → true ≡ is_some o → all ≡ so_far.before ++ (fields_from_id o ++ (f ∷ left)) → IsPlaceOfId o → Builds (found_so_far start.id so_far.before o) start old
      → BuildsSoFar all left true start new
  by None come whole place builds = absurd cc
  by (Some fields) come whole place builds = record {
    before = so_far.before;
    from_id = Some (fields ++ f ∷ []);
    come = refl;
    whole = whole ∙ ap (λ (fs : List Field). so_far.before ++ fs) (before-more fields f left);
    below = so_far.below;
    place = place-more fields f place;
    builds = subst (λ (found : List Found). Builds found start new)
        (append_assoc (map found_in_field so_far.before) ((codes "id", start.id ∷ []) ∷ map found_in_field fields) (found_in_field f ∷ [])
        ∙ ap (λ (found : List Found). map found_in_field so_far.before ++ (codes "id", start.id ∷ []) ∷ found) (sym (found-more fields f)))
        (Builds-more (map found_in_field so_far.before ++ (codes "id", start.id ∷ []) ∷ map found_in_field fields) (found_in_field f ∷ []) start old new builds own);
  }

-- ---- all fields

at_seam : (before rest : List Field) → slice_get (before ++ rest) (length before) ≡ slice_get rest 0
at_seam [] rest = refl
at_seam (f ∷ before) rest = at_seam before rest

-- the terms of the fields before the id, its own and those of the others are the terms of the document
terms_split : (id : List ℕ) (fields before rest : List Field) (terms : List Term) → IsDocument fields → fields ≡ before ++ rest → AllByRecursion IsBelowId before
    → IfSome (slice_get rest 0) (λ field. IsBelowId field → ⊥) → AreTermsInOrder (map found_in_field before ++ (codes "id", id ∷ []) ∷ map found_in_field rest) terms
    → AreTerms id fields terms
terms_split id fields before rest terms document whole below after are =
    let at : ℕ = length before in
    let front : take at fields ≡ before = ap (take at) whole ∙ take_at before rest at refl in
    let back : drop at fields ≡ rest = ap (drop at) whole ∙ drop_at before rest at refl in
    let here : slice_get fields at ≡ slice_get rest 0 = ap (λ (fs : List Field). slice_get fs at) whole ∙ at_seam before rest in
    terms-with_id id at fields terms document
    (subst (AllByRecursion IsBelowId) (sym front) below)
    (subst (λ (o : Option Field). IfSome o (λ field. IsBelowId field → ⊥)) (sym here) after)
    (subst (λ (fs : List Field). AreTermsInOrder (map found_in_field fs ++ (codes "id", id ∷ []) ∷ map found_in_field (drop at fields)) terms) (sym front)
    (subst (λ (fs : List Field). AreTermsInOrder (map found_in_field before ++ (codes "id", id ∷ []) ∷ map found_in_field fs) terms) (sym back) are))

-- what a builder has at the end
pub record IsBuilt (id : List ℕ) (fields : List Field) (state : TermsState) : Type 0 where
  pub id_is : state.id ≡ id
  pub fields_are : state.fields ≡ fields
  pub terms_are : AreTerms id fields state.terms

built : (id : List ℕ) (fields before rest : List Field) (start new : TermsState) → IsDocument fields → start ≡ no_terms id fields → fields ≡ before ++ rest
    → AllByRecursion IsBelowId before → IfSome (slice_get rest 0) (λ field. IsBelowId field → ⊥)
    → Builds (map found_in_field before ++ (codes "id", start.id ∷ []) ∷ map found_in_field rest) start new → IsBuilt id fields new
built id fields before rest start new document begins whole below after builds =
    let terms : new.terms ≡ builds.added.terms = builds.added.added ∙ ap (λ (s : TermsState). s.terms ++ builds.added.terms) begins in
    let are = subst (λ (i : List ℕ). AreTermsInOrder (map found_in_field before ++ (codes "id", i ∷ []) ∷ map found_in_field rest) builds.added.terms)
    (ap (λ (s : TermsState). s.id) begins) builds.added.are in
    record {
      id_is = builds.id ∙ ap (λ (s : TermsState). s.id) begins;
      fields_are = builds.fields ∙ ap (λ (s : TermsState). s.fields) begins;
      terms_are = subst (AreTerms id fields) (sym terms) (terms_split id fields before rest builds.added.terms document whole below after are);
    }

first_of : (fields : List Field) → IsPlaceOfId (Some fields) → IfSome (slice_get fields 0) (λ field. IsBelowId field → ⊥)
first_of [] place = tt
first_of (f ∷ fields) place = place

-- with the id
pub built_with : (id : List ℕ) (fields : List Field) (start new : TermsState) → IsDocument fields → start ≡ no_terms id fields → BuildsSoFar fields [] true start new → IsBuilt id fields new
built_with id fields start new document begins so_far = by so_far.from_id so_far.come so_far.whole so_far.place so_far.builds where
  by : (o : Option (List Field)) → true ≡ is_some o → fields ≡ so_far.before ++ (fields_from_id o ++ []) → IsPlaceOfId o → Builds (found_so_far start.id so_far.before o) start new
      → IsBuilt id fields new
  by None come whole place builds = absurd cc
  by (Some rest) come whole place builds =
      built id fields so_far.before rest start new document begins (whole ∙ ap (λ (fs : List Field). so_far.before ++ fs) (append-nil rest)) so_far.below (first_of rest place) builds

-- without it, which comes last
pub built_without : (id : List ℕ) (fields : List Field) (start old new : TermsState) → IsDocument fields → start ≡ no_terms id fields → BuildsSoFar fields [] false start old
    → new ≡ with_id old → IsBuilt id fields new
built_without id fields start old new document begins so_far put = by so_far.from_id so_far.come so_far.whole so_far.builds where
  by : (o : Option (List Field)) → false ≡ is_some o → fields ≡ so_far.before ++ (fields_from_id o ++ []) → Builds (found_so_far start.id so_far.before o) start old
      → IsBuilt id fields new
  by (Some rest) come whole builds = absurd cc
  by None come whole builds =
      built id fields so_far.before [] start new document begins whole so_far.below tt
      (subst (λ (i : List ℕ). Builds (map found_in_field so_far.before ++ (codes "id", i ∷ []) ∷ []) start new) builds.id
      (Builds-more (map found_in_field so_far.before) ((codes "id", old.id ∷ []) ∷ []) start old new builds (Builds-id old new put)))

-- the run of what is built is read as the terms of the document
pub finished : (id : List ℕ) (fields : List Field) (state : TermsState) (run : TermRun) → IsBuilt id fields state → terms_of_run state.id state.fields run ≡ state.terms
    → AreTerms id fields (terms_of_run id fields run)
finished id fields state run built is =
    subst (AreTerms id fields) (sym (ap₂ (λ i fs. terms_of_run i fs run) (sym built.id_is) (sym built.fields_are) ∙ is)) built.terms_are
