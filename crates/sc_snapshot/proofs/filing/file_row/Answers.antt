-- A deletion is filed under no term, and another row under its other terms.
use Rattle.std.proofs.Common.{◌≡◌, ℕ, ◌++◌, List, [], true, false, cond, not, ◌||◌, is_some, sym, ap, ap₂, subst, ◌∙◌, append-nil}
use Rattle.sc_record.specs.declared.term.Term.{Term}
use Rattle.sc_segment.specs.Index.{IsIndexOf}
use Rattle.sc_snapshot.specs.Postings.{is_id_alone, key_order, keyed, live_terms, other_terms, without_ids}
use Rattle.sc_snapshot.specs.declared.term_key.TermKey.{TermKey}
use Rattle.sc_snapshot.proofs.filing.file_row.Goals as goal

pub returns-then-not-is_live-clause-index : goal.returns-then-not-is_live-clause-index
returns-then-not-is_live-clause-index c = λ added before.
    let row = c.args.row.now in
    let index = c.args.builder.now.index in
    let told = c.if-not-is_live.true in let is = c.is_live.ensures in
    let dead : is_some row.doc ≡ false = cc in
    let none : live_terms (without_ids row) ≡ [] = ap (λ b. cond b (other_terms row.terms) []) dead in
    subst (λ (ts : List Term). IsIndexOf key_order (added ++ keyed c.args.number ts) index) (sym none)
    (subst (λ (ps : List (ℕ × TermKey)). IsIndexOf key_order ps index) (sym (append-nil added)) before)

pub returns-then-not-is_live-clause-alone : goal.returns-then-not-is_live-clause-alone
returns-then-not-is_live-clause-alone c =
    let row = c.args.row.now in
    let told = c.if-not-is_live.true in let is = c.is_live.ensures in
    let dead : is_some row.doc ≡ false = cc in
    sym (ap (λ b. not b || is_id_alone row.id row.terms) dead)

pub returns-clause-index : goal.returns-clause-index
returns-clause-index c = λ added before.
    let row = c.args.row.now in
    let told = c.if-not-is_live.false in let is = c.is_live.ensures in
    let live : is_some row.doc ≡ true = cc in
    let terms : other_terms c.terms.result ≡ live_terms (without_ids row) =
    ap other_terms c.terms.ensures ∙ sym (ap (λ b. cond b (other_terms row.terms) []) live) in
    subst (λ (ts : List Term). IsIndexOf key_order (added ++ keyed c.args.number ts) c.file_others.new.builder.index) terms
    (c.in_ok-is_alone.ensures.index added before)

pub returns-clause-alone : goal.returns-clause-alone
returns-clause-alone c =
    let row = c.args.row.now in
    let told = c.if-not-is_live.false in let is = c.is_live.ensures in
    let live : is_some row.doc ≡ true = cc in
    c.in_ok-is_alone.ensures.alone ∙ ap₂ (λ (id : List ℕ) (ts : List Term). is_id_alone id ts) (c.as_str.ensures.value ∙ c.id.ensures) c.terms.ensures
    ∙ sym (ap (λ b. not b || is_id_alone row.id row.terms) live)
