-- The rows up to one edit more are surveyed.
use Rattle.std.proofs.Common.{◌≡◌, ◌≤ℤ◌, ◌+◌, ◌-◌, ◌≤◌, Bool, ℤ, List, is_some, length, slice_get, sym, ap, subst, ◌∙◌, arith}
use Rattle.sc_record.specs.Writes.{Write}
use Rattle.sc_snapshot.specs.Postings.{is_live_at}
use Rattle.sc_snapshot.specs.Surveying.{BoundsHashOf}
use Rattle.sc_snapshot.proofs.EditLemmas.{rest-kept, rest-put, rest-within}
use Rattle.sc_snapshot.proofs.SurveyLemmas.{surveyed-same}
use Rattle.sc_snapshot.proofs.survey.Survey.put.Goals as goal

pub returns-clause-surveyed : goal.returns-clause-surveyed
returns-clause-surveyed c = λ old new edits bits rest is.
    let edit = c.args.edit.now in
    let from = c.args.from in
    let number = c.args.number in
    let next = number + (edit.at - from) in
    let within = rest-within old new from number edit edits rest in
    let up_to_edit = c.in_ok-keep_all.ensures.surveyed new old bits is (let few : next ≤ length new = omega (arith, within) in few)
    (rest-kept old new from number edit edits rest) in
    let told : is_live_at (slice_get new next) ≡ c.is_live.result =
    ap is_live_at (rest-put old new from number edit edits rest)
    ∙ sym (c.is_live.ensures ∙ ap (λ (w : Write). is_some w.doc) c.deref.ensures) in
    let with_edit = c.in_ok-mark.ensures.surveyed new up_to_edit within told in
    surveyed-same new (next + 1) c.mark.new.self c.bound.new.self with_edit c.bound.ensures.live_rows c.bound.ensures.live_bits

pub returns-clause-size : goal.returns-clause-size
returns-clause-size c = ap (λ (l : List Bool). length l) c.bound.ensures.live_bits ∙ c.in_ok-mark.ensures.size ∙ c.in_ok-keep_all.ensures.size

pub returns-clause-bounds : goal.returns-clause-bounds
returns-clause-bounds c =
    let before = c.args.self.now in
    let now = c.bound.new.self in
    let kept = c.in_ok-keep_all.ensures in
    let marked = c.in_ok-mark.ensures in
    let least : now.least_hash ≤ℤ before.least_hash =
    subst (λ (z : ℤ). now.least_hash ≤ℤ z) (marked.least_hash ∙ kept.least_hash) c.bound.ensures.least.1 in
    let greatest : before.greatest_hash ≤ℤ now.greatest_hash =
    subst (λ (z : ℤ). z ≤ℤ now.greatest_hash) (marked.greatest_hash ∙ kept.greatest_hash) c.bound.ensures.greatest.1 in
    (least, greatest)

pub returns-clause-hash : goal.returns-clause-hash
returns-clause-hash c = subst (BoundsHashOf c.bound.new.self) c.deref-2.ensures (c.bound.ensures.least.0, c.bound.ensures.greatest.0)
