-- Where no two documents have one id, there is one order of them, and so one page from each place.
use Rattle.std.proofs.Common.{◌≡◌, ℕ, ◌+◌, ◌*◌, ◌<◌, Bool, true, false, cond, true≢false, List, [], ◌∷◌, ◌++◌, length, map, take, drop, Contains, sum_by, refl, sym, ap, ap₂, subst, ◌∙◌, ⊎_elim, arith, Ordering, Less, Equal, Greater, is_le, is_eq, nat_cmp}
use Rattle.std.specs.Arc.{arc_value}
use Rattle.std.specs.Cmp.Lexicographic.{slice_cmp, texts_ties}
use Rattle.std.specs.List.{AllByRecursion, flat_map}
use Rattle.std.specs.Ordering.{ordering_reverse}
use Rattle.std.specs.Str.{bytes_eq}
use Rattle.std.proofs.lemmas.Bool.{cases_Bool}
use Rattle.std.proofs.lemmas.Cmp.{nat_list_cmp_total, tied_itself}
use Rattle.std.proofs.lemmas.List.{take-append-drop, take-take, take_all, drop-take, drop-drop}
use Rattle.std.proofs.lemmas.List.Elements.{recursion_from_All, All-contains_itself}
use Rattle.std.proofs.lemmas.List.Sorted.{All-permutation, length_permutation, sum_by-IsPermutation}
use Rattle.std.proofs.lemmas.List.Sums.{sum_by-cons}
use Rattle.std.proofs.lemmas.Slice.Eq.{bytes_eq-Decides}
use Rattle.sc_record.specs.Writes.{Write}
use Rattle.sc_fanout.specs.declared.shown.Page.{Page}
use Rattle.sc_finding.specs.Lists.{SortsById}
use Rattle.sc_finding.specs.Merging.{AscendsBy, goes_before}
use Rattle.sc_fanout.specs.Laws.{IsOneOfEachId, PageIsDetermined, PagesFollowOn, ArePages, PagesAreTheWhole}
use Rattle.sc_finding.proofs.OrderLemmas.{ascends-in_order}

-- 1 where the write is of the id, and else 0
times : List ℕ → Write → ℕ
times id w = cond (bytes_eq w.id id) 1 0

times-of : (id : List ℕ) (w : Write) → bytes_eq w.id id ≡ true → times id w ≡ 1
unfolding times
times-of id w h = ap (λ (b : Bool). cond b 1 0) h

times-other : (id : List ℕ) (w : Write) → bytes_eq w.id id ≡ false → times id w ≡ 0
unfolding times
times-other id w h = ap (λ (b : Bool). cond b 1 0) h

-- what holds of the ids of all writes holds of an id that is counted among them
reached : (P : List ℕ → Type 0) (id : List ℕ) (ws : List Write) → AllByRecursion (λ (w : Write). P w.id) ws
    → 0 < sum_by (times id) ws → P id
reached P id [] all some = absurd (omega arith)
reached P id (w ∷ ws) all some =
    ⊎_elim
    (λ (h : bytes_eq w.id id ≡ true). subst P ((bytes_eq-Decides w.id id).0 h) all.0)
    (λ (h : bytes_eq w.id id ≡ false).
    reached P id ws all.1 (omega (arith, some, sum_by-cons (times id) w ws, times-other id w h)))
    (cases_Bool (bytes_eq w.id id))

counted : (w : Write) (ws : List Write) → 0 < sum_by (times w.id) (w ∷ ws)
counted w ws = omega (arith, sum_by-cons (times w.id) w ws, times-of w.id w ((bytes_eq-Decides w.id w.id).1 refl))

-- the first write's id is not after any that is counted
first-least : (w : Write) (ws : List Write) → AscendsBy goes_before (w ∷ ws) → (id : List ℕ) → 0 < sum_by (times id) (w ∷ ws)
    → is_le (slice_cmp nat_cmp w.id id) ≡ true
first-least w ws up id some =
    reached (λ (other : List ℕ). is_le (slice_cmp nat_cmp w.id other) ≡ true) id (w ∷ ws)
    (ap is_le (tied_itself nat_list_cmp_total w.id), up.0) some

both-le : (o : Ordering) → is_le o ≡ true → is_le (ordering_reverse o) ≡ true → is_eq o ≡ true
both-le Less h k = absurd (true≢false (sym k))
both-le Equal h k = refl
both-le Greater h k = absurd (true≢false (sym h))

same-id : (x y : Write) → is_le (slice_cmp nat_cmp x.id y.id) ≡ true → is_le (slice_cmp nat_cmp y.id x.id) ≡ true → x.id ≡ y.id
same-id x y h k =
    (bytes_eq-Decides x.id y.id).0 (texts_ties x.id y.id
    ∙ both-le (slice_cmp nat_cmp x.id y.id) h (sym (ap is_le (nat_list_cmp_total.antisymm y.id x.id)) ∙ k))

same-lists : (all : List Write) → IsOneOfEachId all → (xs ys : List Write) → AllByRecursion (Contains all) xs
    → AllByRecursion (Contains all) ys → AscendsBy goes_before xs → AscendsBy goes_before ys
    → ((id : List ℕ) → sum_by (times id) xs ≡ sum_by (times id) ys) → xs ≡ ys
same-lists all one [] [] inx iny upx upy counts = refl
same-lists all one [] (y ∷ ys) inx iny upx upy counts = absurd (omega (arith, counted y ys, counts y.id))
same-lists all one (x ∷ xs) [] inx iny upx upy counts = absurd (omega (arith, counted x xs, counts x.id))
same-lists all one (x ∷ xs) (y ∷ ys) inx iny upx upy counts =
    let id : x.id ≡ y.id = same-id x y
    (first-least x xs upx y.id (omega (arith, counted y ys, counts y.id)))
    (first-least y ys upy x.id (omega (arith, counted x xs, counts x.id))) in
    let head : x ≡ y = one x y inx.0 iny.0 id in
    let tail : xs ≡ ys = same-lists all one xs ys inx.1 iny.1 upx.1 upy.1
    (λ i. omega (arith, sum_by-cons (times i) x xs, sum_by-cons (times i) y ys, counts i, ap (times i) head)) in
    λ i. head i ∷ tail i

-- there is one order
same-order : (all : List Write) → IsOneOfEachId all → (xs ys : List Write) → SortsById all xs → SortsById all ys → xs ≡ ys
same-order all one xs ys first second =
    same-lists all one xs ys
    (recursion_from_All (Contains all) xs (All-permutation (Contains all) all xs first.same (All-contains_itself all)))
    (recursion_from_All (Contains all) ys (All-permutation (Contains all) all ys second.same (All-contains_itself all)))
    (ascends-in_order all xs first) (ascends-in_order all ys second)
    (λ id. sum_by-IsPermutation (times id) all xs first.same ∙ sym (sum_by-IsPermutation (times id) all ys second.same))

pub determined : PageIsDetermined
determined all start rows one other each first second = (
  first.found ∙ sym second.found,
  first.docs
      ∙ ap (λ (l : List Write). take rows (drop start l)) (same-order all each first.sorted second.sorted first.order second.order)
      ∙ sym second.docs,
)

in_two : (rows more : ℕ) (l : List Write) → take (rows + more) l ≡ take rows l ++ take more (drop rows l)
in_two rows more l =
    sym (take-append-drop rows (take (rows + more) l))
    ∙ ap₂ (λ (u v : List Write). u ++ v) (take-take rows (rows + more) l (omega arith)) (drop-take rows more l)

pub follow_on : PagesFollowOn
follow_on all start rows more one next both each first second whole =
    let a : whole.sorted ≡ first.sorted = same-order all each whole.sorted first.sorted whole.order first.order in
    let b : whole.sorted ≡ second.sorted = same-order all each whole.sorted second.sorted whole.order second.order in
    whole.docs ∙ in_two rows more (drop start whole.sorted)
    ∙ ap₂ (λ (u v : List Write). u ++ v)
    (ap (λ (l : List Write). take rows (drop start l)) a ∙ sym first.docs)
    (ap (take more) (drop-drop rows start whole.sorted) ∙ ap (λ (l : List Write). take more (drop (start + rows) l)) b ∙ sym second.docs)

-- pages laid end to end are one page, of as many rows as all of them
laid_out : (all sorted : List Write) → IsOneOfEachId all → SortsById all sorted → (rows start : ℕ) (pages : List Page)
    → ArePages all rows start pages
    → flat_map (λ (page : Page). map arc_value page.docs) pages ≡ take (length pages * rows) (drop start sorted)
laid_out all sorted each order rows start [] are =
    let none : 0 ≡ 0 * rows = omega arith in
    ap (λ (n : ℕ). take n (drop start sorted)) none
laid_out all sorted each order rows start (page ∷ pages) are =
    let same : are.0.sorted ≡ sorted = same-order all each are.0.sorted sorted are.0.order order in
    let rest : flat_map (λ (p : Page). map arc_value p.docs) pages ≡ take (length pages * rows) (drop rows (drop start sorted)) =
    laid_out all sorted each order rows (start + rows) pages are.1
    ∙ ap (take (length pages * rows)) (sym (drop-drop rows start sorted)) in
    let count : rows + length pages * rows ≡ length (page ∷ pages) * rows = omega arith in
    ap₂ (λ (u v : List Write). u ++ v) (are.0.docs ∙ ap (λ (l : List Write). take rows (drop start l)) same) rest
    ∙ sym (in_two rows (length pages * rows) (drop start sorted))
    ∙ ap (λ (n : ℕ). take n (drop start sorted)) count

pub whole : PagesAreTheWhole
whole all sorted rows pages each order are enough =
    laid_out all sorted each order rows 0 pages are
    ∙ take_all (length pages * rows) sorted (omega (arith, length_permutation all sorted order.same))
