-- What a worker's own entries and those of a split are: of each document the writes of its orders, in order; and none.
use Rattle.std.proofs.Common.{◌≡◌, ◌≢◌, ◌∙◌, ◌⊎◌, inl, inr, ◌≤◌, ◌<◌, ◌+◌, ℕ, zero, suc, Bool, true, false, true≢false, cond, List, [], ◌∷◌, ◌++◌, length, map, take, Option, Some, None, slice_get, refl, sym, ap, subst, arith}
use Rattle.std.specs.Prelude.{filter, filter_map, ◌==◌}
use Rattle.std.specs.List.{AllByRecursion, AllZip, cons_option, flat_map, All}
use Rattle.std.specs.Str.{bytes_eq}
use Rattle.std.proofs.ByRecursion.{All-append}
use Rattle.std.proofs.lemmas.Bool.{cases_eq}
use Rattle.std.proofs.lemmas.Bool.Decides.{nat_tests}
use Rattle.std.proofs.lemmas.List.Elements.{filter_map-append}
use Rattle.std.proofs.lemmas.Slice.Eq.{bytes_eq-Decides}
use Rattle.sc_values.specs.declared.field.Field.{Field}
use Rattle.sc_record.specs.declared.order.Change.{Change}
use Rattle.sc_record.specs.declared.order.Change.TheVariants as changes
use Rattle.sc_record.specs.declared.slice.CoreId.{CoreId}
use Rattle.sc_record.specs.declared.entry.Entry.{Entry}
use Rattle.sc_record.specs.declared.entry.Entry.TheVariants as entry
use Rattle.sc_record.specs.Writes.{Write}
use Rattle.sc_router.specs.Route.{bucket_of}
use Rattle.sc_schema.specs.Documents.{OrderContent, content_of}
use Rattle.sc_journal.specs.Journal.{write_at, is_settled, last_write}
use Rattle.sc_journal.specs.Outcomes.{Outcome, accepted, conflict, partial, log_full, out_of_memory, IsOutcome, Makes}
use Rattle.sc_seen.specs.Seen.{Layout, Seen, basis_of, journal_at}
use Rattle.sc_seen.specs.Batches.{OrderAnswer, IsOrderAnswer, IsDownStop, HasStops, order_stops}
use Rattle.sc_seen.specs.declared.stop.Stop.{Stop}
use Rattle.sc_workload.specs.Laws.{on_document}
use Rattle.sc_demo.specs.Together.{IsWriteOfOrder, left_by}
use Rattle.sc_demo.specs.Writing.{IsAccepted, IsWholeOrDelete}
use Rattle.sc_demo.proofs.StopLemmas.{at_stop}

-- ---- an order that was accepted
-- the stop made no write
abbrev pub MadeNone : Seen → Stop → Type 0
MadeNone seen stop = cond stop.made (write_at (seen.journals stop.lock) stop.place) None ≡ None

-- An order's first stop made its write, and those after it none.
pub record HasWritten (layout : Layout) (seen : Seen) (answer : OrderAnswer) : Type 0 where
  pub first : Stop
  pub later : List Stop
  pub stops : answer.stops ≡ first ∷ later
  pub lock : first.lock ≡ bucket_of answer.order.id layout.buckets
  pub made : first.made ≡ true
  pub write : Write
  pub found : write_at (seen.journals first.lock) first.place ≡ Some write
  pub is : IsWriteOfOrder write (content_of answer.order)
  pub quiet : AllByRecursion (MadeNone seen) later

-- what a prefix of a journal ends before stands at that place
place_taken : {A : Type 0} (xs : List A) (p : ℕ) → (slice_get xs (length (take p xs)) ≡ None) ⊎ (length (take p xs) ≡ p)
place_taken [] zero = inl refl
place_taken [] (suc p) = inl refl
place_taken (x ∷ xs) zero = inr refl
place_taken (x ∷ xs) (suc p) = by (place_taken xs p) where
  by : (slice_get xs (length (take p xs)) ≡ None) ⊎ (length (take p xs) ≡ p)
      → (slice_get (x ∷ xs) (length (take (suc p) (x ∷ xs))) ≡ None) ⊎ (length (take (suc p) (x ∷ xs)) ≡ suc p)
  by (inl none) = inl none
  by (inr same) = inr (ap suc same)

write_taken : (journal : List Entry) (p : ℕ) (write : Write) → write_at journal (length (take p journal)) ≡ Some write → write_at journal p ≡ Some write
write_taken journal p write found = by (place_taken journal p) where
  none_there : slice_get journal (length (take p journal)) ≡ None → write_at journal (length (take p journal)) ≡ None
  none_there none = simp none refl

  by : (slice_get journal (length (take p journal)) ≡ None) ⊎ (length (take p journal) ≡ p) → write_at journal p ≡ Some write
  by (inl none) = let nope : None ≡ Some write = sym (none_there none) ∙ found in absurd (cc)
  by (inr same) = subst (λ (n : ℕ). write_at journal n ≡ Some write) same found

document_left : (last : Option Write) (change : Change) (doc : Option (List Field)) → IsWholeOrDelete change → Makes last change doc → doc ≡ left_by change
document_left last (changes.Whole fields) doc plain makes = makes
document_left last (changes.Parts parts) doc plain makes = absurd plain
document_left last changes.Delete doc plain makes = makes

settles_none : (seen : Seen) (first last : Stop) → (last.made ≡ true → slice_get (seen.journals last.lock) last.place ≡ Some (entry.Settled first.place))
    → MadeNone seen last
settles_none seen first last settles = by last.made refl where
  by : (b : Bool) → last.made ≡ b → cond b (write_at (seen.journals last.lock) last.place) None ≡ None
  by true made = let is = settles made in simp is refl
  by false made = refl

downs_none : (seen : Seen) (down : Stop) (core : CoreId) → slice_get (seen.journals down.lock) down.place ≡ Some (entry.Down core)
    → MadeNone seen down
downs_none seen down core is = by down.made where
  by : (b : Bool) → cond b (write_at (seen.journals down.lock) down.place) None ≡ None
  by true = simp is refl
  by false = refl

all_downs_none : (seen : Seen) (first : Stop) (downs : List Stop) → AllByRecursion (IsDownStop seen first) downs → AllByRecursion (MadeNone seen) downs
all_downs_none seen first [] each = tt
all_downs_none seen first (down ∷ downs) each =
    (downs_none seen down each.0.core each.0.made_is, all_downs_none seen first downs each.1)

pub has_written : (layout : Layout) (seen : Seen) (answer : OrderAnswer) → IsWholeOrDelete answer.order.change → IsOrderAnswer layout seen answer
    → IsAccepted answer.outcome → HasWritten layout seen answer
has_written layout seen answer plain is one = by answer.outcome is.outcome is.stops one where
  by : (outcome : Outcome) → IsOutcome (basis_of layout) (journal_at seen is.first) answer.order answer.timestamp outcome (seen.journals is.first.lock)
      → HasStops seen outcome answer.stops is.first → IsAccepted outcome → HasWritten layout seen answer
  by (accepted version) so has sure =
      let write = so.2.0 in
      record {
        first = is.first;
        later = has.downs ++ has.last ∷ [];
        stops = has.stops_are;
        lock = is.lock;
        made = has.made;
        write = write;
        found = write_taken (seen.journals is.first.lock) is.first.place write so.2.1;
        is = record {
          id = so.2.2.id;
          document = document_left (last_write (journal_at seen is.first) answer.order.id) answer.order.change write.doc plain so.2.2.document;
        };
        quiet = All-append (MadeNone seen) has.downs (has.last ∷ []) (all_downs_none seen is.first has.downs has.each)
            (settles_none seen is.first has.last has.settling.made_is, tt);
      }
  by (conflict version) so has sure = absurd sure
  by (partial name) so has sure = absurd sure
  by log_full so has sure = absurd sure
  by out_of_memory so has sure = absurd sure

-- ---- what is found at stops that made no write
module _ (seen : Seen) (g : ℕ → ℕ → Option Write) (silent : (lock place : ℕ) → write_at (seen.journals lock) place ≡ None → g lock place ≡ None) where
  pub none_found : (lock : ℕ) (stop : Stop) → MadeNone seen stop → at_stop (g lock) lock stop ≡ None
  none_found lock stop quiet = by (cases_eq stop.lock lock) where
    made : (l : ℕ) (b : Bool) → cond b (write_at (seen.journals l) stop.place) None ≡ None → cond b (g l stop.place) None ≡ None
    made l true none = silent l stop.place none
    made l false none = refl

    nowhere : (b : Bool) → (b ≡ true → cond stop.made (g lock stop.place) None ≡ None) → cond b (cond stop.made (g lock stop.place) None) None ≡ None
    nowhere true none = none refl
    nowhere false none = refl

    there : (stop.lock == lock) ≡ true → stop.lock ≡ lock
    there is = grind (arith, nat_tests)

    by : (stop.lock ≡ lock) ⊎ (stop.lock ≢ lock) → at_stop (g lock) lock stop ≡ None
    by (inl same) = nowhere (stop.lock == lock) (λ is. subst (λ (l : ℕ). cond stop.made (g l stop.place) None ≡ None) same (made stop.lock stop.made quiet))
    by (inr different) = nowhere (stop.lock == lock) (λ is. absurd (different (there is)))

  pub none_found_at_all : (lock : ℕ) (stops : List Stop) → AllByRecursion (MadeNone seen) stops → filter_map (at_stop (g lock) lock) stops ≡ []
  none_found_at_all lock [] quiet = refl
  none_found_at_all lock (stop ∷ stops) quiet =
      ap (λ (o : Option Write). cons_option o (filter_map (at_stop (g lock) lock) stops)) (none_found lock stop quiet.0)
      ∙ none_found_at_all lock stops quiet.1

-- ---- the writes on one document
-- the write, where it is of the document of an id
abbrev pub on_id : List ℕ → Option Write → Option Write
on_id id None = None
on_id id (Some write) = cond (bytes_eq write.id id) (Some write) None

pub filter_on_id : {A : Type 0} (id : List ℕ) (f : A → Option Write) (xs : List A)
    → filter (λ (write : Write). bytes_eq write.id id) (filter_map f xs) ≡ filter_map (λ x. on_id id (f x)) xs
filter_on_id id f [] = refl
filter_on_id id f (x ∷ xs) = by (f x) (filter_on_id id f xs) where
  keep : (write : Write) (b : Bool) → filter (λ (one : Write). bytes_eq one.id id) (filter_map f xs) ≡ filter_map (λ y. on_id id (f y)) xs
      → cond b (write ∷ filter (λ (one : Write). bytes_eq one.id id) (filter_map f xs)) (filter (λ (one : Write). bytes_eq one.id id) (filter_map f xs))
      ≡ cons_option (cond b (Some write) None) (filter_map (λ y. on_id id (f y)) xs)
  keep write true rest = ap (λ more. write ∷ more) rest
  keep write false rest = rest

  by : (o : Option Write) → filter (λ (one : Write). bytes_eq one.id id) (filter_map f xs) ≡ filter_map (λ y. on_id id (f y)) xs
      → filter (λ (one : Write). bytes_eq one.id id) (cons_option o (filter_map f xs)) ≡ cons_option (on_id id o) (filter_map (λ y. on_id id (f y)) xs)
  by None rest = rest
  by (Some write) rest = keep write (bytes_eq write.id id) rest

same_bytes : (xs ys : List ℕ) → bytes_eq xs ys ≡ true → xs ≡ ys
same_bytes xs ys is = let decides = bytes_eq-Decides xs ys in decides.0 is

-- what answered orders ask for
abbrev pub contents_of : List OrderAnswer → List OrderContent
contents_of answers = map (λ (answer : OrderAnswer). content_of answer.order) answers

module _ (layout : Layout) (seen : Seen) (id : List ℕ) where
  -- the write of a lock's journal at a place that is on the document
  abbrev pub write_on : ℕ → ℕ → Option Write
  write_on lock place = on_id id (write_at (seen.journals lock) place)

  on_silent : (lock place : ℕ) → write_at (seen.journals lock) place ≡ None → write_on lock place ≡ None
  on_silent lock place none = ap (on_id id) none

  -- the writes on it that stops made at a lock
  abbrev pub writes_by : ℕ → List Stop → List Write
  writes_by lock stops = filter_map (at_stop (write_on lock) lock) stops

  module _ (lock : ℕ) (answer : OrderAnswer) (has : HasWritten layout seen answer) where
    all_stops : writes_by lock answer.stops ≡ cons_option (at_stop (write_on lock) lock has.first) []
    all_stops =
        ap (writes_by lock) has.stops
        ∙ ap (cons_option (at_stop (write_on lock) lock has.first)) (none_found_at_all seen write_on on_silent lock has.later has.quiet)

    at_first : (l : ℕ) (b : Bool) → has.first.lock ≡ l → bytes_eq answer.order.id id ≡ b → cond has.first.made (write_on l has.first.place) None ≡ cond b (Some has.write) None
    at_first l b same is =
        ap (λ t. cond t (write_on l has.first.place) None) has.made
        ∙ ap (on_id id) (subst (λ (n : ℕ). write_at (seen.journals n) has.first.place ≡ Some has.write) same has.found)
        ∙ ap (λ (name : List ℕ). cond (bytes_eq name id) (Some has.write) None) has.is.id
        ∙ ap (λ t. cond t (Some has.write) None) is

    -- at another lock, or of another document, there is none
    none_elsewhere : has.first.lock ≢ lock → writes_by lock answer.stops ≡ []
    none_elsewhere different =
        let nope : (has.first.lock == lock) ≡ false = grind (arith, nat_tests) in
        all_stops ∙ ap (λ t. cons_option (cond t (cond has.first.made (write_on lock has.first.place) None) None) []) nope

    none_of_others : bytes_eq answer.order.id id ≡ false → writes_by lock answer.stops ≡ []
    none_of_others is = by (cases_eq has.first.lock lock) where
      by : (has.first.lock ≡ lock) ⊎ (has.first.lock ≢ lock) → writes_by lock answer.stops ≡ []
      by (inl same) =
          let sure : (has.first.lock == lock) ≡ true = grind (arith, nat_tests) in
          all_stops ∙ ap (λ t. cons_option (cond t (cond has.first.made (write_on lock has.first.place) None) None) []) sure
          ∙ ap (λ o. cons_option o []) (at_first lock false same is)
      by (inr different) = none_elsewhere different

    one_here : has.first.lock ≡ lock → bytes_eq answer.order.id id ≡ true → writes_by lock answer.stops ≡ has.write ∷ []
    one_here same is =
        let sure : (has.first.lock == lock) ≡ true = grind (arith, nat_tests) in
        all_stops ∙ ap (λ t. cons_option (cond t (cond has.first.made (write_on lock has.first.place) None) None) []) sure
        ∙ ap (λ o. cons_option o []) (at_first lock true same is)

    its_lock : bytes_eq answer.order.id id ≡ true → has.first.lock ≡ bucket_of id layout.buckets
    its_lock is = has.lock ∙ ap (λ (name : List ℕ). bucket_of name layout.buckets) (same_bytes answer.order.id id is)

  -- ---- of a worker
  first_and_rest : (lock : ℕ) (answer : OrderAnswer) (answers : List OrderAnswer)
      → writes_by lock (order_stops (answer ∷ answers)) ≡ writes_by lock answer.stops ++ writes_by lock (order_stops answers)
  first_and_rest lock answer answers = filter_map-append (at_stop (write_on lock) lock) answer.stops (order_stops answers)

  -- who has no order on the document wrote none on it
  pub none_without_orders : (lock : ℕ) (answers : List OrderAnswer) → AllByRecursion (HasWritten layout seen) answers
      → on_document id (contents_of answers) ≡ [] → writes_by lock (order_stops answers) ≡ []
  none_without_orders lock [] each none = refl
  none_without_orders lock (answer ∷ answers) each none = by (bytes_eq answer.order.id id) refl none (none_without_orders lock answers each.1) where
    by : (b : Bool) → bytes_eq answer.order.id id ≡ b → cond b (content_of answer.order ∷ on_document id (contents_of answers)) (on_document id (contents_of answers)) ≡ []
        → (on_document id (contents_of answers) ≡ [] → writes_by lock (order_stops answers) ≡ []) → writes_by lock (order_stops (answer ∷ answers)) ≡ []
    by true is empty rest = absurd (cc)
    by false is empty rest =
        first_and_rest lock answer answers
        ∙ ap (λ (xs : List Write). xs ++ writes_by lock (order_stops answers)) (none_of_others lock answer each.0 is) ∙ rest empty

  -- beside the document's bucket there is none on it
  pub none_in_others : (lock : ℕ) (answers : List OrderAnswer) → lock ≢ bucket_of id layout.buckets → AllByRecursion (HasWritten layout seen) answers
      → writes_by lock (order_stops answers) ≡ []
  none_in_others lock [] different each = refl
  none_in_others lock (answer ∷ answers) different each = by (bytes_eq answer.order.id id) refl (none_in_others lock answers different each.1) where
    by : (b : Bool) → bytes_eq answer.order.id id ≡ b → writes_by lock (order_stops answers) ≡ [] → writes_by lock (order_stops (answer ∷ answers)) ≡ []
    by true is rest =
        first_and_rest lock answer answers
        ∙ ap (λ (xs : List Write). xs ++ writes_by lock (order_stops answers))
        (none_elsewhere lock answer each.0 (λ same. different (sym same ∙ its_lock lock answer each.0 is))) ∙ rest
    by false is rest =
        first_and_rest lock answer answers
        ∙ ap (λ (xs : List Write). xs ++ writes_by lock (order_stops answers)) (none_of_others lock answer each.0 is) ∙ rest

  -- in the document's bucket they are those of the orders on it, in order
  pub each_in_its_bucket : (lock : ℕ) (answers : List OrderAnswer) → lock ≡ bucket_of id layout.buckets → AllByRecursion (HasWritten layout seen) answers
      → AllZip IsWriteOfOrder (writes_by lock (order_stops answers)) (on_document id (contents_of answers))
  each_in_its_bucket lock [] here each = tt
  each_in_its_bucket lock (answer ∷ answers) here each = by (bytes_eq answer.order.id id) refl (each_in_its_bucket lock answers here each.1) where
    by : (b : Bool) → bytes_eq answer.order.id id ≡ b → AllZip IsWriteOfOrder (writes_by lock (order_stops answers)) (on_document id (contents_of answers))
        → AllZip IsWriteOfOrder (writes_by lock (order_stops (answer ∷ answers)))
        (cond b (content_of answer.order ∷ on_document id (contents_of answers)) (on_document id (contents_of answers)))
    by true is rest =
        let writes = first_and_rest lock answer answers
        ∙ ap (λ (xs : List Write). xs ++ writes_by lock (order_stops answers)) (one_here lock answer each.0 (its_lock lock answer each.0 is ∙ sym here) is) in
        subst (λ (xs : List Write). AllZip IsWriteOfOrder xs (content_of answer.order ∷ on_document id (contents_of answers))) (sym writes) (each.0.is, rest)
    by false is rest =
        let writes = first_and_rest lock answer answers
        ∙ ap (λ (xs : List Write). xs ++ writes_by lock (order_stops answers)) (none_of_others lock answer each.0 is) in
        subst (λ (xs : List Write). AllZip IsWriteOfOrder xs (on_document id (contents_of answers))) (sym writes) rest
