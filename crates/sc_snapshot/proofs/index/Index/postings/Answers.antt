-- The row of an id is sought among the live rows, and other terms among the keys.
use Rattle.std.proofs.Common.{◌≡◌, ◌+◌, ◌*◌, ◌≤◌, List, ℕ, true, false, codes, length, map, sym, ap, subst, ◌∙◌, arith}
use Rattle.std.specs.List.{list_all}
use Rattle.std.specs.Str.{bytes_eq}
use Rattle.sc_rows.specs.Joining.{has_row}
use Rattle.sc_segment.specs.Index.{IsIndexOf}
use Rattle.sc_snapshot.specs.Postings.{key_order, keyed_rows, term_count, is_id_term, has_id_alone, without_ids, AreIdsFound}
use Rattle.sc_snapshot.proofs.IdLemmas.{alone-at, count-live, count-others, has_term-others}
use Rattle.sc_snapshot.proofs.PostingLemmas.{has_row-term}
use Rattle.sc_snapshot.proofs.index.Index.postings.Goals as goal

-- a bound by fewer is one by more
wider : (p n m : ℕ) → p ≤ 2 * n + 1 → n ≤ m → p ≤ 2 * m + 1
wider p n m bound few = omega (arith, bound, few)

pub returns-in-Some-clause-members : goal.returns-in-Some-clause-members
returns-in-Some-clause-members g c = λ number.
    let rows = c.args.rows.now in
    let all : IsIndexOf key_order (keyed_rows 0 rows) c.in-Some.whole = subst (AreIdsFound rows) c.in-Some.is c.requires.indexed.ids in
    ap (λ (rs : List ℕ). has_row rs number) (c.postings.ensures.rows (keyed_rows 0 rows) all) ∙ has_row-term rows c.args.key.now number

pub returns-in-None-clause-members : goal.returns-in-None-clause-members
returns-in-None-clause-members g c = λ number.
    let rows = c.args.rows.now in
    let is : is_id_term c.args.key.now.term ≡ true =
    sym (c.is_id_field.ensures ∙ ap (λ (field : List ℕ). bytes_eq field (codes "id")) c.as_str.ensures) ∙ c.if-is_id_field.true in
    let alone : list_all has_id_alone rows ≡ true = subst (AreIdsFound rows) c.in-None.is c.requires.indexed.ids in
    c.row_of_id.ensures.members number ∙ sym (alone-at rows alone c.args.key.now.term is number)

pub returns-in-None-clause-bound : goal.returns-in-None-clause-bound
returns-in-None-clause-bound g c =
    let rows = c.args.rows.now in
    let alone : list_all has_id_alone rows ≡ true = subst (AreIdsFound rows) c.in-None.is c.requires.indexed.ids in
    let few = count-live rows c.args.self.now.survey.live_rows.items c.requires.rows.ascend alone c.requires.indexed.survey.live_rows in
    wider _ (length c.as_slice.result.now) (term_count rows) c.row_of_id.ensures.bound
    (subst (λ (ns : List ℕ). length ns ≤ term_count rows) (sym c.as_slice.ensures.value) few)

pub returns-in-None-2-clause-members : goal.returns-in-None-2-clause-members
returns-in-None-2-clause-members g c = λ number.
    let rows = c.args.rows.now in
    let other : is_id_term c.args.key.now.term ≡ false =
    sym (c.is_id_field.ensures ∙ ap (λ (field : List ℕ). bytes_eq field (codes "id")) c.as_str.ensures) ∙ c.if-is_id_field.false in
    ap (λ (rs : List ℕ). has_row rs number) (c.postings-in-None-2.ensures.rows (keyed_rows 0 (map without_ids rows)) c.requires.indexed.terms)
    ∙ has_row-term (map without_ids rows) c.args.key.now number
    ∙ has_term-others c.args.key.now.term other rows number

pub returns-in-None-2-clause-bound : goal.returns-in-None-2-clause-bound
returns-in-None-2-clause-bound g c =
    let rows = c.args.rows.now in
    let segment = c.args.self.now.segment in
    wider _ (length segment) (term_count rows) c.postings-in-None-2.ensures.bound
    (subst (λ n. n ≤ term_count rows) (sym c.requires.indexed.terms.size) (count-others rows))
