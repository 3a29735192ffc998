-- A search goes on from bucket to bucket, and a page shows what all of them find.
use Rattle.std.proofs.Common.{◌≡◌, ◌≢◌, ℕ, zero, suc, ◌+◌, ◌*◌, ◌<◌, ◌≤◌, false, List, [], ◌∷◌, ◌++◌, length, map, All, Contains, refl, sym, ap, subst, ◌∙◌, ◌⊎◌, inl, inr, ⊎_elim, arith, length-append}
use Rattle.std.specs.Prelude.{Result, Ok, Err, IfOk}
use Rattle.std.specs.declared.alloc.AllocError.{AllocError}
use Rattle.std.proofs.lemmas.List.{get_or-append-add, get_or_append_left, length-map}
use Rattle.std.proofs.lemmas.List.Concat.{flat_map-append}
use Rattle.std.proofs.lemmas.List.Elements.{All-nil, All-append, Contains-append_left, Contains-append_right, Contains-append_cases}
use Rattle.std.proofs.lemmas.List.Sorted.{length_permutation}
use Rattle.sc_router.specs.Route.{bucket_of}
use Rattle.sc_record.specs.Writes.{Write}
use Rattle.sc_record.specs.declared.entry.Entry.{Entry}
use Rattle.sc_snapshot.specs.Rows.{AreRows}
use Rattle.sc_eval.specs.Criteria.{Criterion, criterion_of}
use Rattle.sc_seen.specs.Seen.{Layout, Seen, SeesMore, FromNowOn, journal_at}
use Rattle.sc_seen.specs.Moments.{View}
use Rattle.sc_seen.specs.declared.stop.Stop.{Stop}
use Rattle.sc_seen.proofs.ExtendsLemmas.{IsPrefix-then}
use Rattle.sc_seen.proofs.GoesOnLemmas.{take-prefix, Keeps-sees}
use Rattle.sc_replicas.specs.Searchers.{searcher_rows}
use Rattle.sc_replicas.specs.declared.standing.Searcher.{Searcher}
use Rattle.sc_fanout.specs.declared.ask.Ask.{Ask}
use Rattle.sc_fanout.specs.declared.shown.Page.{Page}
use Rattle.sc_finding.specs.Lists.{AreFound, all_of}
use Rattle.sc_fanout.specs.Pages.{IsPageOf}
use Rattle.sc_fanout.specs.Searches.{IsFoundIn, IsFoundAtOne, SearchesBuckets, search_of}
use Rattle.sc_finding.specs.SearcherRows.{found_in}
use Rattle.sc_collection.specs.Looks.{AreAsked, LooksAtOne}
use Rattle.sc_collection.proofs.LookLemmas.{Looked, Looked-none, Looked-more, few-asked}
use Rattle.sc_fanout.proofs.ExactlyLemmas.{AreExactly, AreExactly-none, AreExactly-same, AreExactly-append, AreExactly-sorted}
use Rattle.sc_finding.proofs.AscendLemmas.{are-found}
use Rattle.sc_fanout.proofs.BucketLemmas.{bucket-exactly, found-number}

-- the first buckets were looked at, and what the lists hold is what was found in them
pub record FoundSoFar (layout : Layout) (old now : View) (ask : Ask) (count : ℕ) (lists : List (List Write)) : Type 0 where
  pub looked : Looked layout old now count
  pub found : FromNowOn now.seen (λ later. AreExactly (IsFoundAtOne layout later (search_of ask looked.stops)) (all_of lists))
  pub below : (write : Write) → Contains (all_of lists) write → bucket_of write.id layout.buckets < count
  pub may_be : All AreFound lists
  pub few : length lists ≤ 256 * count

pub FoundSoFar-none : (layout : Layout) (view : View) (ask : Ask) (lists : List (List Write))
    → lists ≡ [] → FoundSoFar layout view view ask 0 lists
unfolding Looked-none
FoundSoFar-none layout view ask lists empty =
    subst (FoundSoFar layout view view ask 0) (sym empty) (record {
      looked = Looked-none layout view;
      found = λ later sees. AreExactly-none (IsFoundAtOne layout later (search_of ask [])) (λ write at. absurd (omega (arith, at.1.1)));
      below = λ write has. absurd (omega (arith, has.1));
      may_be = All-nil AreFound;
      few = omega arith;
    })

-- what holds of all elements of a list holds of those of its parts
pub all-left : {X : Type 0} (P : X → Type 0) (xs ys : List X) → All P (xs ++ ys) → All P xs
all-left P xs ys all k d within =
    subst P (get_or_append_left xs ys d k within) (all k d (omega (arith, within, length-append xs ys)))

pub all-right : {X : Type 0} (P : X → Type 0) (xs ys : List X) → All P (xs ++ ys) → All P ys
all-right P xs ys all k d within =
    subst P (get_or-append-add xs ys k d) (all (length xs + k) d (omega (arith, within, length-append xs ys)))

only-one : {X : Type 0} (x y : X) → Contains (x ∷ []) y → x ≡ y
only-one x y (zero, within, at) = at
only-one x y (suc k, within, at) = absurd (omega (arith, within))

pub FoundSoFar-more : (layout : Layout) (old between new : View) (ask : Ask) (count : ℕ)
    (lists next : List (List Write)) (searchers : List Searcher)
    → FoundSoFar layout old between ask count lists
    → LooksAtOne layout between new count (λ journal. AreAsked layout count journal ask.route searchers)
    → All (λ (searcher : Searcher). AreRows (searcher_rows searcher)) searchers
    → next ≡ lists ++ map (found_in (criterion_of ask.query)) searchers
    → FoundSoFar layout old new ask (count + 1) next
unfolding Looked-more
FoundSoFar-more layout old between new ask count lists next searchers far one rows is =
    subst (FoundSoFar layout old new ask (count + 1)) (sym is) (record {
      looked = Looked-more layout old between new count (λ journal. AreAsked layout count journal ask.route searchers) far.looked one;
      found = λ later sees. subst (AreExactly (IsFoundAtOne layout later (search_of ask (far.looked.stops ++ stop ∷ [])))) (sym joined) (found later sees);
      below = λ write has. below write (subst (λ (ws : List Write). Contains ws write) joined has);
      may_be = All-append AreFound lists here far.may_be (are-found criterion searchers rows);
      few = omega (
        arith,
        far.few,
        length-append lists here,
        length-map searchers (found_in criterion),
        few-asked layout count one.journal ask.route searchers one.is_taken,
      );
    })
  where
    criterion : Criterion
    criterion = criterion_of ask.query

    here : List (List Write)
    here = map (found_in criterion) searchers

    stop : Stop
    stop = record { lock = count; place = length one.journal; made = false }

    joined : all_of (lists ++ here) ≡ all_of lists ++ all_of here
    joined = flat_map-append (λ (ws : List Write). ws) lists here

    exactly_here : AreExactly (IsFoundIn layout.first one.journal criterion ask.route) (all_of here)
    exactly_here = bucket-exactly layout count one.journal criterion ask.route searchers one.is_taken rows

    number : (write : Write) → IsFoundIn layout.first one.journal criterion ask.route write → bucket_of write.id layout.buckets ≡ count
    number write is_found = found-number layout count one.journal criterion ask.route write one.is_taken.is_of is_found

    below : (write : Write) → Contains (all_of lists ++ all_of here) write → bucket_of write.id layout.buckets < count + 1
    below write has =
        ⊎_elim
        (λ (there : Contains (all_of lists) write). omega (arith, far.below write there))
        (λ (there : Contains (all_of here) write). omega (arith, number write ((exactly_here.exactly write).0 there)))
        (Contains-append_cases (all_of lists) (all_of here) write has)

    found : (later : Seen) → SeesMore new.seen later
        → AreExactly (IsFoundAtOne layout later (search_of ask (far.looked.stops ++ stop ∷ []))) (all_of lists ++ all_of here)
    found later sees =
        AreExactly-same (λ write. IsFoundAtOne layout later (search_of ask far.looked.stops) write ⊎ IsFoundIn layout.first one.journal criterion ask.route write)
        (IsFoundAtOne layout later (search_of ask (far.looked.stops ++ stop ∷ []))) (all_of lists ++ all_of here) to back
        (AreExactly-append (IsFoundAtOne layout later (search_of ask far.looked.stops)) (IsFoundIn layout.first one.journal criterion ask.route)
        (all_of lists) (all_of here) before exactly_here apart)
      where
        before : AreExactly (IsFoundAtOne layout later (search_of ask far.looked.stops)) (all_of lists)
        before = far.found later (Keeps-sees layout between new (stop ∷ []) one.keeps later sees)

        then : journal_at later stop ≡ one.journal
        then = take-prefix one.journal (later.journals count)
            (IsPrefix-then one.journal (new.seen.journals count) (later.journals count) one.begins (sees.journals count))

        to : (write : Write) → IsFoundAtOne layout later (search_of ask far.looked.stops) write ⊎ IsFoundIn layout.first one.journal criterion ask.route write
            → IsFoundAtOne layout later (search_of ask (far.looked.stops ++ stop ∷ [])) write
        to write (inl (at, there, is_found)) = (at, Contains-append_left far.looked.stops (stop ∷ []) at there, is_found)
        to write (inr is_found) = (
          stop,
          Contains-append_right far.looked.stops (stop ∷ []) stop (0, omega arith, refl),
          subst (λ (j : List Entry). IsFoundIn layout.first j criterion ask.route write) (sym then) is_found,
        )

        back : (write : Write) → IsFoundAtOne layout later (search_of ask (far.looked.stops ++ stop ∷ [])) write
            → IsFoundAtOne layout later (search_of ask far.looked.stops) write ⊎ IsFoundIn layout.first one.journal criterion ask.route write
        back write (at, there, is_found) =
            ⊎_elim
            (λ (early : Contains far.looked.stops at). inl (at, early, is_found))
            (λ (last : Contains (stop ∷ []) at). inr (subst (λ (j : List Entry). IsFoundIn layout.first j criterion ask.route write) then
            (subst (λ (s : Stop). IsFoundIn layout.first (journal_at later s) criterion ask.route write) (sym (only-one stop at last)) is_found)))
            (Contains-append_cases far.looked.stops (stop ∷ []) at there)

        apart : (first other : Write) → IsFoundAtOne layout later (search_of ask far.looked.stops) first
            → IsFoundIn layout.first one.journal criterion ask.route other → first.id ≢ other.id
        apart first other early late same =
            omega (arith, far.below first ((before.exactly first).1 early), number other late, ap (λ id. bucket_of id layout.buckets) same)

-- memory ran out
pub searched-fault : (layout : Layout) (old new : View) (ask : Ask) (count : ℕ) (fault : AllocError) (page : Result Page AllocError)
    → page ≡ Err fault → count ≤ layout.buckets → Looked layout old new count
    → SearchesBuckets layout old new ask page
searched-fault layout old new ask count fault page failed few far =
    subst (SearchesBuckets layout old new ask) (sym failed) (record {
      stops = far.stops;
      keeps = far.keeps;
      count = count;
      few = few;
      looks = far.looks;
      shows = tt;
    })

-- all buckets were looked at, and the page is shown of what they find
pub searched : (layout : Layout) (old new : View) (ask : Ask) (count : ℕ) (lists : List (List Write)) (page : Result Page AllocError)
    → count ≡ layout.buckets
    → FoundSoFar layout old new ask count lists
    → IfOk page (IsPageOf (all_of lists) ask.start ask.rows)
    → SearchesBuckets layout old new ask page
searched layout old new ask count lists (Err fault) all far is =
    searched-fault layout old new ask count fault (Err fault) refl (omega (arith, all)) far.looked
searched layout old new ask count lists (Ok page) all far is = record {
  stops = far.looked.stops;
  keeps = far.looked.keeps;
  count = count;
  few = omega (arith, all);
  looks = far.looked.looks;
  shows = (
    all,
    λ later sees.
        let sorted = AreExactly-sorted (IsFoundAtOne layout later (search_of ask far.looked.stops)) (all_of lists) is.sorted
        (far.found later sees) is.order in
        record {
          sorted = is.sorted;
          are_found = record { ascend = sorted.0; exactly = sorted.1 };
          found_is = is.found ∙ sym (length_permutation (all_of lists) is.sorted is.order.same);
          docs_are = is.docs;
        },
  );
}
